-- Demand 1 of the calls that write: a refusal leaves every octet of the lent buffer as it was; and of those that hand a record back: it leaves the
-- record. And what the intake writes where it waits or stops: what it took, and nothing else.
use mathlib.Core.Path.{◌≡◌, sym, ap, ◌∙◌}
use mathlib.Core.Bool.{Bool, true, cond}
use mathlib.Core.List.{List, [], ◌∷◌, ◌++◌}
use Prim.Native.Nat.{ℕ, ◌+◌, ◌-◌, min}
use lib.Dec.{ltb}
use lib.ListN.{length, take, drop}
use contract.Lifetimes.{Lfts}
use denote.Ref.{Bor, MutBor}
use Rattle.uslp_octets.specs.Octets.{pack, overlaid}
use Rattle.uslp_kinds.specs.Outcome.{Outcome, done, refused, and_then, first_of}
use Rattle.uslp_kinds.specs.Answers.{refusal}
use Rattle.uslp_kinds.proofs.Outcomes.{not_done, refused_keeps}
use Rattle.uslp_kinds.specs.declared.ManagedParameters.{ManagedParameters}
use Rattle.uslp_kinds.specs.declared.Refusal.{Refusal}
use Rattle.uslp_primary_header.specs.Header.{table, len_header, header_checks, header_writing, count_setting, length_setting}
use Rattle.uslp_primary_header.specs.declared.PrimaryHeader.{PrimaryHeader}
use Rattle.uslp_data_field_header.specs.Field.{field_table, len_field, field_checks, field_writing}
use Rattle.uslp_data_field_header.specs.declared.TransferFrameDataFieldHeader.{TransferFrameDataFieldHeader}
use Rattle.uslp_layout.specs.Layout.{with_fecf}
use Rattle.uslp_writer.specs.Frame.{total, frame_checks, frame_octets, frame_writing}
use Rattle.uslp_writer.specs.Reserved.{reservation, reserved_octets, reserving, finish_length, area_in, filled}
use Rattle.uslp_writer.specs.declared.TransferFrameCreator.{TransferFrameCreator}
use Rattle.uslp_writer.specs.declared.TransferFrameCreatorWithReservedData.{TransferFrameCreatorWithReservedData}
use Rattle.uslp_reader.specs.Reader.{frame_reading}
use Rattle.uslp_reader.specs.declared.TransferFrame.{TransferFrame}
use Rattle.uslp_record.specs.Record.{Kept, keeping}
use Rattle.uslp_record.specs.Judging.{judging}
use Rattle.uslp_record.specs.declared.Channel.{Channel}
use Rattle.uslp_record.specs.declared.ChannelRecord.{ChannelRecord}
use Rattle.uslp_record.proofs.Back.{keeping_one, applied_keeps}
use Rattle.uslp_record.proofs.Ways.{opening_ways, closing_ways}
use Rattle.uslp_hearing.specs.Hearing.{channel_of, judged_by}
use Rattle.uslp_end_to_end.specs.Many.{KeptMany}
use Rattle.uslp_end_to_end.specs.declared.ManyHearing.{ManyHearing}
use Rattle.uslp_end_to_end.proofs.Stops.{refused_first}
use Rattle.uslp_form.specs.declared.Form.{Form}
use Rattle.uslp_form.proofs.Claims.{saving_kept}
use Rattle.uslp_form.proofs.Converted.{converting_kept}
use Rattle.uslp_form.proofs.Rows.{restores_refused}
use Rattle.uslp_listing.specs.Listing.{listing, room, listing_over}
use Rattle.uslp_lent.specs.Setting.{header_left, header_off}
use Rattle.uslp_lent.specs.contracts.setters as setters
use Rattle.uslp_intake.specs.declared.IntakeAnswer.TheVariants as intake_answer
use Rattle.uslp_intake.proofs.Calls.{writes_taken, wait_holds, stop_holds}
use Rattle.uslp_intake.proofs.Calls.{refused_keeps as intake_keeps}
use Rattle.uslp_demands.specs.Promise.{Allows}
use Rattle.uslp_demands.specs.Clause.{Implies}
use Rattle.uslp_demands.proofs.Facts.{implies}
use Rattle.uslp_demands.proofs.OfPrimaryHeader as of_header
use Rattle.uslp_demands.proofs.OfDataFieldHeader as of_field
use Rattle.uslp_demands.proofs.OfWriter.{fn_write_to_slice, fn_new, fn_fill, fn_finish}
use Rattle.uslp_demands.proofs.OfRecord.{fn_open_channel, fn_close_channel, fn_hear_count, fn_hear_in_place, lent}
use Rattle.uslp_demands.proofs.OfHearing.{fn_hear, fn_hear_frame}
use Rattle.uslp_demands.proofs.OfMany.{fn_hear_many}
use Rattle.uslp_demands.proofs.OfIntake.{Takes}
use Rattle.uslp_demands.proofs.OfSaved.{fn_save, fn_restore}
use Rattle.uslp_demands.proofs.OfConverting.{fn_convert}
use Rattle.uslp_demands.proofs.OfListing.{fn_list}
use Rattle.std.specs.Prelude.{Ok, Err}

-- the last check of a writing: room
abbrev short : {A : Type 0} → List ℕ → ℕ → List (Bool × Outcome A)
short s n = (ltb (length s) n, refused 2 (length s ∷ n ∷ [])) ∷ []

module _ (r : Refusal) (s : MutBor (List ℕ)) (left : List ℕ) where
  pub header_kept : (κs : Lfts 1) (h : PrimaryHeader)
      → Allows of_header.fn_write_to_slice κs (h, (s, tt)) (Err r, (tt, (left, tt)))
      → left ≡ s.now
  unfolding header_writing
  header_kept κs h e =
      refused_keeps (first_of (header_checks h ++ short s.now (len_header h)) (done (len_header h))) (pack (table 0 h) ++ drop (len_header h) s.now)
      s.now (sym e)

  pub field_kept : (κs : Lfts 1) (f : TransferFrameDataFieldHeader)
      → Allows of_field.fn_write_to_slice κs (f, (s, tt)) (Err r, (tt, (left, tt)))
      → left ≡ s.now
  unfolding field_writing
  field_kept κs f e =
      refused_keeps (first_of (field_checks f ++ short s.now (len_field f)) (done (len_field f))) (pack (field_table f) ++ drop (len_field f) s.now)
      s.now (sym e)

  pub frame_kept : (κs : Lfts 2) (c : TransferFrameCreator) (d : Bor (List ℕ))
      → Allows fn_write_to_slice κs (c, (d, (s, tt))) (Err r, (tt, (tt, (left, tt))))
      → left ≡ s.now
  unfolding frame_writing
  frame_kept κs c d e =
      refused_keeps (first_of (frame_checks c (length d.now) ++ short s.now (total c (length d.now))) (done (total c (length d.now))))
      (frame_octets c d.now ++ drop (total c (length d.now)) s.now) s.now (sym e)

  pub reserve_kept : (κs : Lfts 1) (c : TransferFrameCreator) (n : ℕ)
      → Allows fn_new κs (c, (n, (s, tt))) (Err r, (tt, (tt, (left, tt))))
      → left ≡ s.now
  unfolding reserving
  reserve_kept κs c n e =
      refused_keeps (first_of (frame_checks c n ++ short s.now (total c n)) (done (reservation c n))) (reserved_octets c n s.now) s.now (sym e)

  pub fill_kept : (κs : Lfts 2) (k : TransferFrameCreatorWithReservedData) (d : Bor (List ℕ))
      → Allows fn_fill κs (k, (d, (s, tt))) (Err r, (tt, (tt, (left, tt))))
      → left ≡ s.now
  fill_kept κs k d e =
      refused_keeps (and_then (finish_length k (length s.now)) (λ (n : ℕ). done (min (length d.now) k.data_size)))
      (filled k (overlaid d.now (area_in k s.now)) s.now) s.now (sym e)

  pub finish_kept : (κs : Lfts 1) (k : TransferFrameCreatorWithReservedData)
      → Allows fn_finish κs (k, (s, tt)) (Err r, (tt, (left, tt)))
      → left ≡ s.now
  finish_kept κs k e =
      refused_keeps (finish_length k (length s.now))
      (cond k.has_fecf (with_fecf true (take (k.len_written - 2) s.now) ++ drop k.len_written s.now) s.now) s.now (sym e)

  pub list_kept : (κs : Lfts 2) (recording : Bor (List ℕ))
      → Allows fn_list κs (recording, (s, tt)) (Err r, (tt, (left, tt)))
      → left ≡ s.now
  unfolding listing_over
  list_kept κs recording e =
      refused_keeps (first_of (short s.now room) (done (length (listing recording.now))))
      (listing recording.now ++ drop (length (listing recording.now)) s.now) s.now
      (sym e)

  pub save_kept : (κs : Lfts 1) (q : ChannelRecord) (f : Form)
      → Allows fn_save κs (q, (f, (s, tt))) (Err r, (tt, (tt, (left, tt))))
      → left ≡ s.now
  save_kept κs q f e = saving_kept f q s.now (sym e)

  pub convert_kept : (κs : Lfts 2) (f g : Form) (octets : Bor (List ℕ))
      → Allows fn_convert κs (f, (octets, (g, (s, tt)))) (Err r, (tt, (tt, (tt, (left, tt)))))
      → left ≡ s.now
  convert_kept κs f g octets e = converting_kept f g octets.now s.now e

-- the intake's own refusals
pub take_block_kept : (r : Refusal) (s left : List ℕ) (held : ℕ) (block : List ℕ) (managed : ManagedParameters)
    → Takes s held block managed (Err r) left
    → left ≡ s
take_block_kept r s left held block managed e = intake_keeps managed s held block (sym e)

-- a wait and a stop hold what was held and then what was taken, and the rest of the buffer stays
pub wait_kept : (s left : List ℕ) (held : ℕ) (block : List ℕ) (managed : ManagedParameters) (n m : ℕ)
    → Takes s held block managed (Ok (intake_answer.Waiting n m)) left
    → (m ≡ held + n) × (left ≡ take held s ++ take n block ++ drop (held + n) s)
wait_kept s left held block managed n m e = (wait_holds managed s held block left (sym e), writes_taken managed s held block left (sym e))

pub stop_kept : (s left : List ℕ) (held : ℕ) (block : List ℕ) (managed : ManagedParameters) (n m : ℕ) (r : Refusal)
    → Takes s held block managed (Ok (intake_answer.Stopped n m r)) left
    → (m ≡ held + n) × (left ≡ take held s ++ take n block ++ drop (held + n) s)
stop_kept s left held block managed n m r e = (stop_holds managed s held block left (sym e), writes_taken managed s held block left (sym e))

pub restore_kept : (r : Refusal) (κs : Lfts 1) (q left : ChannelRecord) (f : Form) (s : Bor (List ℕ))
    → Allows fn_restore κs (q, (f, (s, tt))) (record { answer = Err r; next = left }, (tt, (tt, (tt, tt))))
    → left ≡ q
restore_kept r κs q left f s e = sym (restores_refused f e)

-- the calls on the record: a refusal leaves it
module _ (r : Refusal) (q left : ChannelRecord) where
  pub open_kept : (k : Channel) (w : ℕ)
      → Allows fn_open_channel tt (q, (k, (w, tt))) (record { answer = Err r; next = left }, (tt, (tt, (tt, tt)))) → left ≡ q
  open_kept k w e =
      opening_ways q k (λ (v : Kept (Unit {0})). v ≡ keeping (refusal r) left → left ≡ q) w (λ j vs f. sym (keeping_one f).1)
      (λ o f. absurd (not_done (sym (keeping_one f).0))) (sym e)

  pub close_kept : (k : Channel) → Allows fn_close_channel tt (q, (k, tt)) (record { answer = Err r; next = left }, (tt, (tt, tt))) → left ≡ q
  close_kept k e =
      closing_ways q k (λ (v : Kept (Unit {0})). v ≡ keeping (refusal r) left → left ≡ q) (λ j vs f. sym (keeping_one f).1)
      (λ o f. absurd (not_done (sym (keeping_one f).0))) (sym e)

  pub hear_count_kept : (k : Channel) (w n : ℕ)
      → Allows fn_hear_count tt (q, (k, (w, (n, tt)))) (record { answer = Err r; next = left }, (tt, (tt, (tt, (tt, tt))))) → left ≡ q
  hear_count_kept k w n e = applied_keeps q (judging q k w n) (sym e)

  pub hear_in_place_kept : (k : Channel) (w n : ℕ)
      → Allows fn_hear_in_place ([], tt) (lent q, (k, (w, (n, tt)))) (Err r, (left, (tt, (tt, (tt, tt))))) → left ≡ q
  hear_in_place_kept k w n e = applied_keeps q (judging q k w n) (sym e)

  pub hear_frame_kept : (x : TransferFrame)
      → Allows fn_hear_frame tt (q, (x, tt)) (record { answer = Err r; next = left }, (tt, (tt, tt))) → left ≡ q
  hear_frame_kept x e = applied_keeps q (judged_by channel_of q x) (sym e)

  pub hear_kept : (κs : Lfts 1) (s : Bor (List ℕ)) (managed : ManagedParameters)
      → Allows fn_hear κs (q, (s, (managed, tt))) (record { answer = Err r; next = left }, (tt, (tt, (tt, tt)))) → left ≡ q
  hear_kept κs s managed e = applied_keeps q (and_then (frame_reading s.now managed) (judged_by channel_of q)) (sym e)

-- the call for many frames is not refused itself; where the reader refuses the first octets, and so no frame is heard, it leaves the record
pub hear_many_kept : (κs : Lfts 1) (q : ChannelRecord) (s : Bor (List ℕ)) (managed : ManagedParameters) (x : ManyHearing) {k : ℕ} {vs : List ℕ}
    → Allows fn_hear_many κs (q, (s, (managed, tt))) (x, (tt, (tt, (tt, tt)))) → frame_reading s.now managed ≡ refused k vs → x.next ≡ q
hear_many_kept κs q s managed x e h = ap (λ (m : KeptMany). m.next) e ∙ (refused_first managed s.now q h).2

-- a setter over a lent header leaves what its outcome says: on a refusal the header that it found
setting_kept : (h left : PrimaryHeader) (o : Outcome PrimaryHeader) {k : ℕ} {vs : List ℕ} → left ≡ header_left h o → refused k vs ≡ header_off o → left ≡ h
setting_kept h left (done g) e f = absurd (not_done f)
setting_kept h left (refused j ws) e f = e

module _ (r : Refusal) (h : MutBor PrimaryHeader) (left : PrimaryHeader) where
  pub frame_len_kept : (κs : Lfts 1) (n : ℕ)
      → Implies setters.set_frame_len.ended (λ M 𝓤. setters.set_frame_len.clauses) κs (h, (n, tt)) (Err r, (left, (tt, tt))) (left ≡ h.now)
  frame_len_kept κs n = implies _ _ (λ e. setting_kept h.now left (length_setting h.now n) e.0 e.1)

  pub vc_frame_count_kept : (κs : Lfts 1) (w n : ℕ)
      → Implies setters.set_vc_frame_count.ended (λ M 𝓤. setters.set_vc_frame_count.clauses) κs (h, (w, (n, tt)))
      (Err r, (left, (tt, (tt, tt)))) (left ≡ h.now)
  vc_frame_count_kept κs w n = implies _ _ (λ e. setting_kept h.now left (count_setting h.now w n) e.0 e.1)
