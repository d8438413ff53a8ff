-- An expedited channel over a restart: both channels of a number are open, an expedited frame arrives, the console is saved by form 2, which form 1
-- would refuse by 19, and restored; the expedited frame two further arrives, and one is missing.
use mathlib.Core.Path.{◌≡◌, refl, sym, ◌∙◌, ap, subst}
use mathlib.Core.Bool.{false}
use mathlib.Core.List.{List, [], ◌∷◌, ◌++◌}
use Prim.Native.Nat.{ℕ}
use native.Mathlib.Omega.{arith}
use lib.Dec.{lit<}
use Rattle.uslp_kinds.specs.Managed.{no_fecf}
use Rattle.uslp_kinds.specs.Outcome.{refused, leaving}
use Rattle.uslp_kinds.specs.declared.BypassSequenceControlFlag.TheVariants.{ExpeditedQoS}
use Rattle.uslp_kinds.proofs.Outcomes.{not_done}
use Rattle.uslp_primary_header.specs.Header.{header_reading}
use Rattle.uslp_data_field_header.specs.Field.{field_reading}
use Rattle.uslp_reader.specs.Reader.{frame_reading}
use Rattle.uslp_record.specs.Slots.{find}
use Rattle.uslp_record.specs.Judging.{judging}
use Rattle.uslp_record.specs.declared.Channel.{Channel}
use Rattle.uslp_record.specs.declared.ChannelRecord.{ChannelRecord}
use Rattle.uslp_form.specs.declared.Form.TheVariants.{One, Two}
use Rattle.uslp_form.specs.Form.{says_all, insert, sorted, restored}
use Rattle.uslp_form.specs.Saved.{saving}
use Rattle.uslp_form.proofs.Claims.{saving_lacks}
use Rattle.uslp_form.proofs.Flags.{said_two}
use Rattle.uslp_form.proofs.Trips.{entries_of}
use Rattle.uslp_hearing.specs.Hearing.{channel_of, frame_hearing}
use Rattle.uslp_counting.specs.History.{record_of, called, Roomy, missing_for, frame_at, Event, call_of, handing_at, places}
use Rattle.uslp_counting.specs.History.Event.{arrives}
use Rattle.uslp_counting.specs.Restarts.{Restart, Leads, MadeByCalls}
use Rattle.uslp_counting.specs.Restarts.Leads.{ends, next, restart}
use Rattle.uslp_counting.specs.Restarts.MadeByCalls.{new, opens, hears}
use Rattle.uslp_counting.proofs.Theorem.{counted_over}
use Rattle.uslp_counting.proofs.MadeByCalls.{made_called, restarts_by}
use Rattle.uslp_counting.proofs.Witness.{craft, craft_by, oven}
use Rattle.uslp_counting.proofs.Instance.{begun, begins, near, lost_two}
use Rattle.uslp_counting.proofs.Mixed.{urgent, both, both_open}

abbrev rush : Channel
rush = craft_by ExpeditedQoS

-- after place 0, then after the restart, then after place 2
abbrev pub heard : ChannelRecord
heard = (called channel_of frame_hearing rush both (call_of urgent (arrives 0 []))).1

abbrev pub back : ChannelRecord
back = restored (entries_of Two heard)

abbrev pub after : ChannelRecord
after = (called channel_of frame_hearing rush back (call_of urgent (arrives 2 []))).1

called_heard : MadeByCalls heard
called_heard =
    hears (frame_at urgent 0 ++ []) no_fecf
    (subst MadeByCalls (ap record_of both_open) (opens rush 1 (lit< tt) (subst MadeByCalls (ap record_of begins) (opens craft 1 (lit< tt) new))))

-- form 1 lacks its flag
lacks : says_all One heard.slots ≡ false
unfolding oven frame_reading header_reading field_reading judging find says_all
lacks = refl

pub form_one_refuses : (b : List ℕ) → saving One heard b ≡ leaving (refused 19 []) b
form_one_refuses b = saving_lacks One heard b lacks

first_room : Roomy channel_of frame_hearing rush both (call_of urgent (arrives 0 []))
unfolding oven frame_reading header_reading field_reading judging find
first_room x e k f = not_done (sym f)

second_room : Roomy channel_of frame_hearing rush back (call_of urgent (arrives 2 []))
unfolding oven frame_reading header_reading field_reading judging find sorted insert
second_room x e k f = not_done (sym f)

abbrev rushed : List (Event channel_of rush 1)
rushed = arrives 0 [] ∷ arrives 2 [] ∷ []

led : Leads Restart frame_hearing urgent both rushed (handing_at urgent 0 0 ∷ handing_at urgent 1 2 ∷ []) after
unfolding oven frame_reading header_reading field_reading judging find sorted insert
led =
    next (arrives 0 [] ∷ []) (call_of urgent (arrives 0 [])) refl first_room
    (restart (restarts_by Two heard (made_called called_heard) (said_two heard))
    (next (arrives 2 [] ∷ []) (call_of urgent (arrives 2 [])) refl second_room ends))

-- the one at place 1
pub one_missing_urgent : missing_for rush after ≡ 1
unfolding places
one_missing_urgent =
    (counted_over channel_of rush 1 no_fecf urgent both (record { before = begun; eight = refl; opens = both_open }) rushed _ after led (near 2 (omega arith))).1
    ∙ lost_two 2 (omega arith)
