-- A pass shared both ways: the oven's place 0 arrives here; the record is saved by form 2, converted to form 1 and restored at a console not yet
-- updated, where place 2 arrives; it is saved there by form 1, converted to form 2 and restored here. One is missing.
use mathlib.Core.Path.{◌≡◌, refl, sym, ◌∙◌}
use mathlib.Core.List.{[], ◌∷◌}
use native.Mathlib.Omega.{arith}
use Rattle.uslp_kinds.specs.Managed.{no_fecf}
use Rattle.uslp_kinds.proofs.Outcomes.{not_done}
use Rattle.uslp_primary_header.specs.Header.{header_reading}
use Rattle.uslp_data_field_header.specs.Field.{field_reading}
use Rattle.uslp_reader.specs.Reader.{frame_reading}
use Rattle.uslp_record.specs.Slots.{find}
use Rattle.uslp_record.specs.Judging.{judging}
use Rattle.uslp_record.specs.Made.{Made}
use Rattle.uslp_record.specs.declared.ChannelRecord.{ChannelRecord}
use Rattle.uslp_form.specs.declared.Form.TheVariants.{One, Two}
use Rattle.uslp_form.specs.Form.{says_all, RecordSaid, insert, sorted, restored}
use Rattle.uslp_form.proofs.Flags.{said_two}
use Rattle.uslp_form.proofs.Trips.{entries_of}
use Rattle.uslp_hearing.specs.Hearing.{channel_of, frame_hearing, hearing_by}
use Rattle.uslp_counting.specs.History.{called, Roomy, missing_for, call_of, handing_at}
use Rattle.uslp_counting.specs.History.Event.{arrives}
use Rattle.uslp_counting.specs.Restarts.{Restart, Leads}
use Rattle.uslp_counting.specs.Restarts.Leads.{ends, next, restart}
use Rattle.uslp_counting.specs.Updated.{unflagged, NoExpedited, Shares}
use Rattle.uslp_counting.specs.Updated.Shares.{ends as shared_end, here, there}
use Rattle.uslp_counting.proofs.MadeByCalls.{made_called, restarts_across}
use Rattle.uslp_counting.proofs.Updated.{shared, made_before}
use Rattle.uslp_counting.proofs.Witness.{craft, oven}
use Rattle.uslp_counting.proofs.Instance.{sender, begun, was_begun, two, near, lost_two}
use Rattle.uslp_counting.proofs.Restarted.{heard, called_heard, said_heard, first_room}

-- restored there, after place 2 there, and restored here
abbrev away : ChannelRecord
away = restored (entries_of Two heard)

abbrev after : ChannelRecord
after = (called channel_of (hearing_by unflagged) craft away (call_of sender (arrives 2 []))).1

abbrev pub home : ChannelRecord
home = restored (entries_of One after)

said_after : RecordSaid One after
unfolding oven frame_reading header_reading field_reading judging find sorted insert says_all
said_after = refl

second_room : Roomy channel_of (hearing_by unflagged) craft away (call_of sender (arrives 2 []))
unfolding oven frame_reading header_reading field_reading judging find sorted insert
second_room x e k f = not_done (sym f)

here_led : Leads Restart frame_hearing sender begun (arrives 0 [] ∷ []) (handing_at sender 0 0 ∷ []) heard
unfolding oven frame_reading header_reading field_reading judging find
here_led = next (arrives 0 [] ∷ []) (call_of sender (arrives 0 [])) refl first_room ends

there_led : Leads Restart (hearing_by unflagged) sender heard (arrives 2 [] ∷ []) (handing_at sender 1 2 ∷ []) after
unfolding oven frame_reading header_reading field_reading judging find sorted insert
there_led =
    restart (restarts_across Two One heard (made_called called_heard) (said_two heard) said_heard)
    (next (arrives 2 [] ∷ []) (call_of sender (arrives 2 [])) refl second_room ends)

made_after : Made after
made_after = made_before sender there_led (made_called called_heard) (tt, tt)

pub shared_run : Shares NoExpedited frame_hearing sender begun (two 0 2) (handing_at sender 0 0 ∷ handing_at sender 1 2 ∷ []) home
shared_run =
    here here_led
    (there there_led (tt, tt) (here (restart (restarts_across One Two after made_after said_after (said_two after)) ends) shared_end))

-- the one at place 1
pub one_missing_shared : missing_for craft home ≡ 1
one_missing_shared =
    (shared craft refl 1 no_fecf sender begun was_begun (two 0 2) _ home shared_run (near 2 (omega arith))).1
    ∙ lost_two 2 (omega arith)
