-- What a run over restarts asks can be met: the oven's place 0 arrives, the console is saved and restored, place 2 arrives, and one is missing.
use mathlib.Core.Path.{◌≡◌, refl, sym, ◌∙◌, ap, subst}
use mathlib.Core.List.{[], ◌∷◌, ◌++◌}
use native.Mathlib.Omega.{arith}
use lib.Dec.{lit<}
use Rattle.uslp_kinds.specs.Managed.{no_fecf}
use Rattle.uslp_kinds.proofs.Outcomes.{not_done}
use Rattle.uslp_primary_header.specs.Header.{header_reading}
use Rattle.uslp_data_field_header.specs.Field.{field_reading}
use Rattle.uslp_reader.specs.Reader.{frame_reading}
use Rattle.uslp_record.specs.Slots.{find}
use Rattle.uslp_record.specs.Judging.{judging}
use Rattle.uslp_record.specs.declared.ChannelRecord.{ChannelRecord}
use Rattle.uslp_form.specs.Form.{says_all, RecordSaid, insert, sorted, restored}
use Rattle.uslp_form.specs.declared.Form.TheVariants.{One}
use Rattle.uslp_form.proofs.Trips.{entries_of}
use Rattle.uslp_hearing.specs.Hearing.{channel_of, frame_hearing}
use Rattle.uslp_counting.specs.History.{record_of, called, Roomy, missing_for, frame_at, call_of, handing_at}
use Rattle.uslp_counting.specs.History.Event.{arrives}
use Rattle.uslp_counting.specs.Restarts.{Restart, Leads, MadeByCalls}
use Rattle.uslp_counting.specs.Restarts.Leads.{ends, next, restart}
use Rattle.uslp_counting.specs.Restarts.MadeByCalls.{new, opens, hears}
use Rattle.uslp_counting.proofs.Theorem.{counted_over}
use Rattle.uslp_counting.proofs.MadeByCalls.{made_called, restarts_by}
use Rattle.uslp_counting.proofs.Witness.{craft, oven}
use Rattle.uslp_counting.proofs.Instance.{sender, begun, begins, was_begun, two, near, lost_two}

-- after place 0, then after the restart, then after place 2
abbrev pub heard : ChannelRecord
heard = (called channel_of frame_hearing craft begun (call_of sender (arrives 0 []))).1

abbrev pub back : ChannelRecord
back = restored (entries_of One heard)

abbrev pub after : ChannelRecord
after = (called channel_of frame_hearing craft back (call_of sender (arrives 2 []))).1

pub called_heard : MadeByCalls heard
called_heard =
    hears (frame_at sender 0 ++ []) no_fecf
    (subst MadeByCalls (ap record_of begins) (opens craft 1 (lit< tt) new))

pub said_heard : RecordSaid One heard
unfolding oven frame_reading header_reading field_reading judging find says_all
said_heard = refl

pub restarts : Restart heard back
restarts = restarts_by One heard (made_called called_heard) said_heard

pub first_room : Roomy channel_of frame_hearing craft begun (call_of sender (arrives 0 []))
unfolding oven frame_reading header_reading field_reading judging find
first_room x e k f = not_done (sym f)

second_room : Roomy channel_of frame_hearing craft back (call_of sender (arrives 2 []))
unfolding oven frame_reading header_reading field_reading judging find sorted insert
second_room x e k f = not_done (sym f)

pub led : Leads Restart frame_hearing sender begun (two 0 2) (handing_at sender 0 0 ∷ handing_at sender 1 2 ∷ []) after
unfolding oven frame_reading header_reading field_reading judging find sorted insert
led =
    next (arrives 0 [] ∷ []) (call_of sender (arrives 0 [])) refl first_room
    (restart restarts (next (arrives 2 [] ∷ []) (call_of sender (arrives 2 [])) refl second_room ends))

-- the one at place 1
pub one_missing_over : missing_for craft after ≡ 1
one_missing_over =
    (counted_over channel_of craft 1 no_fecf sender begun was_begun (two 0 2) _ after led (near 2 (omega arith))).1
    ∙ lost_two 2 (omega arith)
