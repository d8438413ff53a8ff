-- The oven sends sequence-controlled and expedited frames, each numbered apart, and nothing is lost: no gap here, false gaps where the flag is
-- ignored; and octets that were saved there after an expedited frame was heard need not count as a saving.
use mathlib.Core.Path.{◌≡◌, refl, sym, ◌∙◌, ap, subst}
use mathlib.Core.Bool.{false}
use mathlib.Core.List.{List, [], ◌∷◌, ◌++◌}
use Prim.Native.Nat.{ℕ}
use native.Mathlib.Omega.{arith}
use lib.Dec.{lit<}
use lib.ListN.{set}
use Rattle.uslp_kinds.specs.Managed.{no_fecf}
use Rattle.uslp_kinds.specs.Outcome.{done}
use Rattle.uslp_kinds.specs.declared.BypassSequenceControlFlag.TheVariants.{ExpeditedQoS}
use Rattle.uslp_kinds.proofs.Outcomes.{not_done, done_one}
use Rattle.uslp_primary_header.specs.Header.{header_reading}
use Rattle.uslp_data_field_header.specs.Field.{field_reading}
use Rattle.uslp_reader.specs.Reader.{frame_reading}
use Rattle.uslp_record.specs.Slots.{find, vacant, put, empty_record}
use Rattle.uslp_record.specs.Record.{keeping, opening}
use Rattle.uslp_record.specs.Judging.{judging}
use Rattle.uslp_record.specs.Made.{Made}
use Rattle.uslp_record.proofs.Slots.{true_false}
use Rattle.uslp_record.proofs.Keeps.{made_empty, made_opening}
use Rattle.uslp_record.specs.declared.SlotState.TheVariants.{Opened}
use Rattle.uslp_record.specs.declared.ChannelRecord.{ChannelRecord}
use Rattle.uslp_form.specs.Form.{says_all, RecordSaid, insert, sorted, restored}
use Rattle.uslp_form.specs.declared.Form.TheVariants.{One}
use Rattle.uslp_form.proofs.Trips.{entries_of}
use Rattle.uslp_hearing.specs.Hearing.{channel_of, hearing_by, frame_hearing}
use Rattle.uslp_counting.specs.History.{Hearer, Call, record_of, is_of, called, Roomy, run, handed, missing_for, Sender, frame_at, Event, handing_at, places}
use Rattle.uslp_counting.specs.History.Call.{hears}
use Rattle.uslp_counting.specs.History.Event.{arrives, elsewhere}
use Rattle.uslp_counting.specs.Restarts.{Restart, Leads}
use Rattle.uslp_counting.specs.Restarts.Leads.{ends, next}
use Rattle.uslp_counting.specs.Updated.{unflagged, Demand3Updated}
use Rattle.uslp_counting.proofs.Arrival.{sent_at, reads}
use Rattle.uslp_counting.proofs.MadeByCalls.{restarts_by}
use Rattle.uslp_counting.proofs.Updated.{updated, made_before}
use Rattle.uslp_counting.proofs.Witness.{craft, craft_by, oven}
use Rattle.uslp_counting.proofs.Instance.{sender, begun, begins, was_begun, near, lost_two}

-- the expedited frames have a sender of their own, whose first count is 7
abbrev pub urgent : Sender channel_of (craft_by ExpeditedQoS) 1 no_fecf
urgent = oven ExpeditedQoS 7 1 (omega arith) no_fecf

abbrev sent : ℕ → Call
sent p = hears (frame_at sender p ++ []) no_fecf

abbrev rushed : ℕ → Call
rushed p = hears (frame_at urgent p ++ []) no_fecf

-- such a frame differs from a sequence-controlled one of its count in one bit
pub one_bit : frame_at urgent 0 ≡ set (frame_at sender 7) 6 0x81
unfolding oven
one_bit = refl

-- two of each, in turn
abbrev pub mixed : List Call
mixed = sent 0 ∷ rushed 0 ∷ sent 1 ∷ rushed 1 ∷ []

-- the record once both channels are open
abbrev pub both : ChannelRecord
both = put begun 1 (Opened (craft_by ExpeditedQoS) 1)

pub both_open : opening begun (craft_by ExpeditedQoS) 1 ≡ keeping (done tt) both
unfolding opening find vacant
both_open = refl

-- here all are handed on, and none is missing
pub no_gap : (handed channel_of frame_hearing craft both mixed ≡ handing_at sender 0 0 ∷ handing_at sender 0 1 ∷ [])
    × (missing_for craft (run channel_of frame_hearing craft both mixed) ≡ 0)
unfolding handed run oven frame_reading header_reading field_reading judging find
no_gap = (refl, refl)

pub no_gap_urgent : (handed channel_of frame_hearing (craft_by ExpeditedQoS) both mixed ≡ handing_at urgent 0 0 ∷ handing_at urgent 0 1 ∷ [])
    × (missing_for (craft_by ExpeditedQoS) (run channel_of frame_hearing (craft_by ExpeditedQoS) both mixed) ≡ 0)
unfolding handed run oven frame_reading header_reading field_reading judging find
no_gap_urgent = (refl, refl)

-- where the flag is ignored, six seem missing, and a frame is not handed on
pub false_gaps : (handed unflagged (hearing_by unflagged) craft begun mixed ≡ handing_at sender 0 0 ∷ handing_at urgent 6 0 ∷ handing_at urgent 0 1 ∷ [])
    × (missing_for craft (run unflagged (hearing_by unflagged) craft begun mixed) ≡ 6)
unfolding handed run oven frame_reading header_reading field_reading judging find
false_gaps = (refl, refl)

-- an expedited frame is of another channel
pub other : is_of channel_of craft (sent_at urgent 0) ≡ false
unfolding oven
other = refl

abbrev pub hurried : Event channel_of craft 1
hurried = elsewhere (frame_at urgent 0 ++ []) no_fecf (sent_at urgent 0) (reads urgent 0 []) other

hurried_room : (H : Hearer) (r : ChannelRecord) → Roomy channel_of H craft r (rushed 0)
hurried_room H r x e k f = true_false k (ap (is_of channel_of craft) (done_one (sym e ∙ reads urgent 0 [])) ∙ other)

-- At a console that ignores the flag place 0 arrives, and then perhaps an expedited frame.
abbrev first : ChannelRecord
first = (called channel_of (hearing_by unflagged) craft begun (sent 0)).1

abbrev pub misled : ChannelRecord
misled = (called channel_of (hearing_by unflagged) craft first (rushed 0)).1

first_room : Roomy channel_of (hearing_by unflagged) craft begun (sent 0)
unfolding oven frame_reading header_reading field_reading judging find
first_room x e k f = not_done (sym f)

led_first : Leads Restart (hearing_by unflagged) sender begun (arrives 0 [] ∷ []) (handing_at sender 0 0 ∷ []) first
unfolding oven frame_reading header_reading field_reading judging find
led_first = next (arrives 0 [] ∷ []) (sent 0) refl first_room ends

led_misled : Leads Restart (hearing_by unflagged) sender begun (arrives 0 [] ∷ hurried ∷ []) (handing_at sender 0 0 ∷ []) misled
unfolding oven frame_reading header_reading field_reading judging find
led_misled = next (arrives 0 [] ∷ []) (sent 0) refl first_room (next (hurried ∷ []) (rushed 0) refl (hurried_room (hearing_by unflagged) first) ends)

-- It is saved, and restored here.
made_begun : Made begun
made_begun = subst Made (ap record_of begins) (made_opening empty_record made_empty craft 1 (lit< tt))

abbrev back : ChannelRecord → ChannelRecord
back m = restored (entries_of One m)

said_first : RecordSaid One first
unfolding oven frame_reading header_reading field_reading judging find says_all
said_first = refl

said_misled : RecordSaid One misled
unfolding oven frame_reading header_reading field_reading judging find says_all
said_misled = refl

-- Without the expedited frame the run goes on here, where one comes too, and then place 2: the one at place 1 is missing.
abbrev pub after : ChannelRecord
after = (called channel_of frame_hearing craft (called channel_of frame_hearing craft (back first) (rushed 0)).1 (sent 2)).1

led_on : Leads Restart frame_hearing sender (back first) (hurried ∷ arrives 2 [] ∷ []) (handing_at sender 1 2 ∷ []) after
unfolding oven frame_reading header_reading field_reading judging find sorted insert
led_on =
    next (hurried ∷ []) (rushed 0) refl (hurried_room frame_hearing (back first))
    (next (arrives 2 [] ∷ []) (sent 2) refl (λ x e k f. not_done (sym f)) ends)

pub one_missing_updated : missing_for craft after ≡ 1
unfolding places
one_missing_updated =
    (updated craft refl 1 no_fecf sender begun was_begun (arrives 0 [] ∷ []) _ first led_first (tt, tt) (back first)
    (restarts_by One first (made_before sender led_first made_begun (tt, tt)) said_first)
    (hurried ∷ arrives 2 [] ∷ []) _ after led_on (near 2 (omega arith))).1
    ∙ lost_two 2 (omega arith)

-- With it, six seem missing here when place 1 arrives, where none was lost: the claim fails without its condition.
abbrev pub wronged : ChannelRecord
wronged = (called channel_of frame_hearing craft (back misled) (sent 1)).1

led_wrong : Leads Restart frame_hearing sender (back misled) (arrives 1 [] ∷ []) [] wronged
unfolding oven frame_reading header_reading field_reading judging find sorted insert
led_wrong = next (arrives 1 [] ∷ []) (sent 1) refl (λ x e k f. not_done (sym f)) ends

pub six_missing : missing_for craft wronged ≡ 6
unfolding oven frame_reading header_reading field_reading judging find sorted insert
six_missing = refl

pub not_without : Demand3Updated (λ K width e. Unit {0}) frame_hearing → ⊥
unfolding places
not_without demand =
    let made = made_before sender led_misled made_begun (tt, (tt, tt)) in
    let d = demand craft refl 1 no_fecf sender begun was_begun (arrives 0 [] ∷ hurried ∷ [])
    (handing_at sender 0 0 ∷ []) misled led_misled (tt, (tt, tt)) (back misled) (restarts_by One misled made said_misled)
    (arrives 1 [] ∷ []) [] wronged led_wrong
    (near 1 (omega arith)) in
    let z : ◌≡◌ {A = ℕ} 6 0 = sym six_missing ∙ d.1 ∙ lost_two 1 (omega arith) in
    omega arith
