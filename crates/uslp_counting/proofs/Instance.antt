-- Histories of the oven in width 1: the places 0 and q arrive, of 256 counts. What is asked of a history can be met, and the window is tight.
use mathlib.Core.Path.{◌≡◌, refl, ap, ◌∙◌}
use mathlib.Core.List.{List, [], ◌∷◌, ◌++◌, map}
use Prim.Native.Nat.{ℕ, ◌-◌, ◌/◌, ◌<◌, ◌≤◌}
use native.Mathlib.Omega.{arith}
use borrow.Author.Tests.{lt-ltb}
use lib.Dec.{lit<}
use lib.ListN.{length}
use Rattle.uslp_octets.specs.Octets.{AreOctets, bits_in, value_of, pack}
use Rattle.uslp_octets.proofs.Laws.{are_append, are_number}
use Rattle.uslp_kinds.specs.Managed.{no_fecf}
use Rattle.uslp_kinds.specs.Outcome.{done}
use Rattle.uslp_kinds.specs.declared.BypassSequenceControlFlag.{BypassSequenceControlFlag}
use Rattle.uslp_kinds.specs.declared.BypassSequenceControlFlag.TheVariants.{SequenceControlledQoS}
use Rattle.uslp_primary_header.specs.Header.{table, header_reading}
use Rattle.uslp_data_field_header.specs.Field.{field_table, field_reading}
use Rattle.uslp_reader.specs.Reader.{frame_reading}
use Rattle.uslp_reader.specs.EndToEnd.{cut_up_to}
use Rattle.uslp_record.specs.Slots.{find, vacant, put, empty_record}
use Rattle.uslp_record.specs.Record.{keeping, opening}
use Rattle.uslp_record.specs.Judging.{judging}
use Rattle.uslp_record.specs.declared.SlotState.TheVariants.{Opened}
use Rattle.uslp_record.specs.declared.ChannelRecord.{ChannelRecord}
use Rattle.uslp_hearing.specs.Hearing.{channel_of, frame_hearing}
use Rattle.uslp_counting.specs.Places.{furthest, ahead_of, leaders, Close, Window, lost}
use Rattle.uslp_counting.specs.History.{run, handed, singly, missing_for, Sender, frame_at, Event, Call, call_of, handing_at, following, handings, places}
use Rattle.uslp_counting.specs.History.Call.{hears_many}
use Rattle.uslp_counting.specs.History.Event.{arrives}
use Rattle.uslp_counting.specs.Demand.{Begun}
use Rattle.uslp_end_to_end.specs.Many.{many_hearing}
use Rattle.uslp_counting.proofs.Singly.{run_singly, handed_singly}
use Rattle.uslp_counting.proofs.MadeByCalls.{many_called}
use Rattle.uslp_counting.proofs.Lost.{lost_more, lost_one}
use Rattle.uslp_counting.proofs.Theorem.{counted}
use Rattle.uslp_counting.proofs.Room.{unfilled}
use Rattle.uslp_counting.proofs.Witness.{craft, reading, whole, are_octets, header_at, oven}

abbrev pub sender : Sender channel_of craft 1 no_fecf
sender = oven SequenceControlledQoS 0 1 (omega arith) no_fecf

-- its frames are octets, and so are those of either flag and any first count
pub are_oven : (flag : BypassSequenceControlFlag) (start p : ℕ) → AreOctets (frame_at (oven flag start 1 (omega arith) no_fecf) p)
unfolding oven
are_oven flag start p =
    let h = table 0 (header_at flag start 1 (omega arith) no_fecf p) in
    let f = field_table whole in
    are_append (pack h) (pack f ++ (reading ++ [])) (are_number (bits_in h / 8) (value_of h))
    (are_append (pack f) (reading ++ []) (are_number (bits_in f / 8) (value_of f)) (are_append reading [] are_octets (λ i. lit< tt)))

pub are_sent : (p : ℕ) → AreOctets (frame_at sender p)
are_sent = are_oven SequenceControlledQoS 0

-- the record once the channel is open
abbrev pub begun : ChannelRecord
begun = put empty_record 0 (Opened craft 1)

pub begins : opening empty_record craft 1 ≡ keeping (done tt) begun
unfolding opening find vacant
begins = refl

pub was_begun : Begun craft 1 begun
was_begun = record { before = empty_record; eight = refl; opens = begins }

-- p arrives, and then q
abbrev pub two : ℕ → ℕ → List (Event channel_of craft 1)
two p q = arrives p [] ∷ arrives q [] ∷ []

abbrev pub calls : ℕ → ℕ → List Call
calls p q = map (call_of sender) (two p q)

pub near : (q : ℕ) → q ≤ 128 → Window 128 [] (places (two 0 q))
unfolding Window Close places furthest
near q h = (tt, ((omega arith, omega arith), tt))

pub lost_two : (q : ℕ) → 0 < q → lost (leaders [] (places (two 0 q))) ≡ q - 1
unfolding leaders places ahead_of furthest
lost_two q h =
    let one = lost_one 0 in
    let more = lost_more 0 q [] (omega arith) in
    rw (lt-ltb 0 q h) (omega (arith, one, more))

-- the places 0 and 2: both are handed on, the second with a gap of one, and one is missing
pub one_missing : (handed channel_of frame_hearing craft begun (calls 0 2) ≡ handing_at sender 0 0 ∷ handing_at sender 1 2 ∷ [])
    × (missing_for craft (run channel_of frame_hearing craft begun (calls 0 2)) ≡ 1)
unfolding places leaders ahead_of handings following
one_missing =
    let less = lost_two 2 (omega arith) in
    let c = counted craft 1 no_fecf sender begun was_begun (two 0 2) (calls 0 2) refl
    (unfilled sender begun was_begun (two 0 2) (calls 0 2) refl (near 2 (omega arith)) (omega arith) (omega arith)) (near 2 (omega arith)) in
    (c.0, c.1 ∙ less)

-- both in one call
abbrev pub frames : List ℕ
frames = frame_at sender 0 ++ frame_at sender 2

abbrev pub together : List Call
together = hears_many frames no_fecf ∷ []

pub stands : singly together ≡ calls 0 2
unfolding oven cut_up_to frame_reading header_reading field_reading
stands = refl

pub one_missing_together : (handed channel_of frame_hearing craft begun together ≡ handing_at sender 0 0 ∷ handing_at sender 1 2 ∷ [])
    × (missing_for craft (many_hearing begun frames no_fecf).next ≡ 1)
unfolding run
one_missing_together = (
  handed_singly channel_of frame_hearing craft together begun ∙ ap (handed channel_of frame_hearing craft begun) stands ∙ one_missing.0,
  ap (missing_for craft) (many_called craft begun frames no_fecf ∙ run_singly channel_of frame_hearing craft together begun
      ∙ ap (run channel_of frame_hearing craft begun) stands)
      ∙ one_missing.1,
)

-- one place further ahead than the window: 129 after 0 is taken for LATE, and is not handed on
pub too_far_ahead : handed channel_of frame_hearing craft begun (calls 0 129) ≡ handings sender (leaders [] (places (two 0 129))) → ⊥
unfolding handed oven frame_reading header_reading field_reading judging find places leaders ahead_of handings following
too_far_ahead e = let z : ◌≡◌ {A = ℕ} 1 2 = ap length e in omega arith

-- one place further behind: 0 after 128 is taken for NEW, and is handed on
pub too_far_behind : handed channel_of frame_hearing craft begun (calls 128 0) ≡ handings sender (leaders [] (places (two 128 0))) → ⊥
unfolding handed oven frame_reading header_reading field_reading judging find places leaders ahead_of handings following
too_far_behind e = let z : ◌≡◌ {A = ℕ} 2 1 = ap length e in omega arith
