-- A refusal of the reader is passed on whole, with all that it carries, by the calls that read first: hearing, of one frame and of many, the reader that
-- keeps the lent frame and each of its accessors, the intake.
use mathlib.Core.Path.{◌≡◌, ap, sym, ◌∙◌}
use mathlib.Core.List.{List, []}
use Prim.Native.Nat.{ℕ, ◌<◌}
use contract.Lifetimes.{Lfts}
use denote.Ref.{Bor}
use lib.ListN.{length, take, drop}
use Rattle.uslp_kinds.specs.Outcome.{Outcome, and_then}
use Rattle.uslp_kinds.specs.declared.ManagedParameters.{ManagedParameters}
use Rattle.uslp_kinds.specs.declared.Refusal.{Refusal}
use Rattle.uslp_kinds.proofs.Back.{paper_one}
use Rattle.uslp_kinds.specs.declared.SourceOrDestField.{SourceOrDestField}
use Rattle.uslp_primary_header.specs.declared.PrimaryHeader.{PrimaryHeader}
use Rattle.uslp_data_field_header.specs.declared.TransferFrameDataFieldHeader.{TransferFrameDataFieldHeader}
use Rattle.uslp_hearing.specs.declared.FrameArrival.{FrameArrival}
use Rattle.uslp_reader.specs.Reader.{frame_reading}
use Rattle.uslp_reader.specs.declared.TransferFrame.{TransferFrame}
use Rattle.uslp_record.specs.Record.{applied}
use Rattle.uslp_record.specs.declared.ChannelRecord.{ChannelRecord}
use Rattle.uslp_record.proofs.Back.{keeping_one}
use Rattle.uslp_hearing.specs.Hearing.{channel_of, judged_by}
use Rattle.uslp_end_to_end.specs.Many.{KeptMany}
use Rattle.uslp_end_to_end.specs.declared.ManyHearing.{ManyHearing}
use Rattle.uslp_end_to_end.proofs.Stops.{refused_there, refused_first, stops_first}
use Rattle.uslp_intake.specs.declared.IntakeAnswer.TheVariants.{Stopped}
use Rattle.uslp_intake.proofs.Calls.{stop_read}
use Rattle.uslp_lent.specs.declared.reader.TransferFrameReader.{TransferFrameReader}
use Rattle.uslp_lent.specs.contracts.reader.TransferFrameReader as reader
use Rattle.uslp_demands.specs.Promise.{at, Allows}
use Rattle.uslp_demands.specs.Clause.{Implies}
use Rattle.uslp_demands.proofs.Facts.{implies}
use Rattle.uslp_demands.proofs.OfReader.{fn_from_bytes}
use Rattle.uslp_demands.proofs.OfIntake.{Takes}
use Rattle.uslp_demands.proofs.OfHearing.{fn_hear}
use Rattle.uslp_demands.proofs.OfMany.{fn_hear_many}
use Rattle.uslp_demands.proofs.Alike.{done_alike}
use Rattle.std.specs.Prelude.{Result, Ok, Err, Option}
use Rattle.uslp_kinds.specs.Answers.{paper}

-- where the reader may refuse the octets with r
module _ (κs : Lfts 1) (s : Bor (List ℕ)) (managed : ManagedParameters) (r : Refusal)
    (reads : Allows fn_from_bytes κs (s, (managed, tt)) (Err r, (tt, (tt, tt)))) where
  -- and the record is kept
  pub hear_passes_on : (q next : ChannelRecord) (x : Result FrameArrival Refusal)
      → Allows fn_hear κs (q, (s, (managed, tt))) (record { answer = x; next = next }, (tt, (tt, (tt, tt))))
      → (x ≡ Err r) × (next ≡ q)
  hear_passes_on q next x e =
      let k = keeping_one (e ∙ ap (λ (o : Outcome TransferFrame). applied q (and_then o (judged_by channel_of q))) (sym reads)) in
      (paper_one k.0, k.1)

  pub lent_passes_on : (x : TransferFrameReader)
      → Implies reader.from_bytes.ended (λ M 𝓤. reader.from_bytes.clauses) κs (s, (managed, tt)) (x, (tt, (tt, tt))) (x.found ≡ Err r)
  lent_passes_on x =
      implies _ _ (λ e. paper_one (e.1 ∙ sym reads))

  -- the call for many frames stops there before any frame, and the record is kept
  pub many_passes_on : (q : ChannelRecord) (x : ManyHearing) → Allows fn_hear_many κs (q, (s, (managed, tt))) (x, (tt, (tt, (tt, tt)))) → 0 < length s.now
      → (x.stop ≡ Err r) × (x.place ≡ 0) × (x.next ≡ q)
  many_passes_on q x e some =
      let h = sym reads in
      let first = refused_first managed s.now q h in (
        done_alike (ap (λ (k : KeptMany). k.stop) e ∙ stops_first managed s.now q some h),
        ap (λ (k : KeptMany). k.place) e ∙ first.0,
        ap (λ (k : KeptMany). k.next) e ∙ first.2,
      )

-- and wherever it stops with a refusal, the reader refuses what is left with that refusal
pub many_stopped_on : (q : ChannelRecord) (s : List ℕ) (managed : ManagedParameters) (x : ManyHearing)
    → Allows fn_hear_many ([], tt) (q, (at s, (managed, tt))) (x, (tt, (tt, (tt, tt)))) → (r : Refusal) → x.stop ≡ Err r
    → (y : Result TransferFrame Refusal) → Allows fn_from_bytes ([], tt) (at (drop x.place s), (managed, tt)) (y, (tt, (tt, tt))) → y ≡ Err r
many_stopped_on q s managed x e r stopped y reads =
    paper_one
    (reads ∙ ap (λ (k : KeptMany). frame_reading (drop k.place s) managed) e
    ∙ refused_there managed s q (sym (ap (λ (k : KeptMany). k.stop) e) ∙ ap paper stopped))

-- each accessor of a reader that found no frame answers why: the refusal is the frame's own
module _ (s : Bor (List ℕ)) (r : Refusal) where
  abbrev refusing : TransferFrameReader
  refusing = record { raw = s; found = Err r }

  pub answer_passes_on : (y : Result TransferFrame Refusal)
      → Implies reader.answer.ended (λ M 𝓤. reader.answer.clauses) ([], tt) (refusing, tt) (y, (tt, tt)) (y ≡ Err r)
  answer_passes_on y = implies _ _ (λ e. e)

  pub len_frame_passes_on : (y : Result ℕ Refusal)
      → Implies reader.len_frame.ended (λ M 𝓤. reader.len_frame.clauses) ([], tt) (refusing, tt) (y, (tt, tt)) (y ≡ Err r)
  len_frame_passes_on y = implies _ _ (λ e. paper_one e)

  pub primary_header_passes_on : (y : Result PrimaryHeader Refusal)
      → Implies reader.primary_header.ended (λ M 𝓤. reader.primary_header.clauses) ([], tt) (refusing, tt) (y, (tt, tt)) (y ≡ Err r)
  primary_header_passes_on y = implies _ _ (λ e. paper_one e)

  pub data_field_header_passes_on : (y : Result TransferFrameDataFieldHeader Refusal)
      → Implies reader.data_field_header.ended (λ M 𝓤. reader.data_field_header.clauses) ([], tt) (refusing, tt) (y, (tt, tt)) (y ≡ Err r)
  data_field_header_passes_on y = implies _ _ (λ e. paper_one e)

  pub ocf_passes_on : (y : Result (Option ℕ) Refusal)
      → Implies reader.operational_control_field.ended (λ M 𝓤. reader.operational_control_field.clauses) ([], tt) (refusing, tt) (y, (tt, tt))
      (y ≡ Err r)
  ocf_passes_on y = implies _ _ (λ e. paper_one e)

  id_passes : (y : Result ℕ Refusal) → paper y ≡ paper (Err r) → y ≡ Err r
  id_passes y = paper_one

  pub vc_id_passes_on : (y : Result ℕ Refusal) → Implies reader.vc_id.ended (λ M 𝓤. reader.vc_id.clauses) ([], tt) (refusing, tt) (y, (tt, tt)) (y ≡ Err r)
  vc_id_passes_on y = implies _ _ (id_passes y)

  pub map_id_passes_on : (y : Result ℕ Refusal)
      → Implies reader.map_id.ended (λ M 𝓤. reader.map_id.clauses) ([], tt) (refusing, tt) (y, (tt, tt)) (y ≡ Err r)
  map_id_passes_on y = implies _ _ (id_passes y)

  pub spacecraft_id_passes_on : (y : Result ℕ Refusal)
      → Implies reader.spacecraft_id.ended (λ M 𝓤. reader.spacecraft_id.clauses) ([], tt) (refusing, tt) (y, (tt, tt)) (y ≡ Err r)
  spacecraft_id_passes_on y = implies _ _ (id_passes y)

  pub role_passes_on : (y : Result SourceOrDestField Refusal)
      → Implies reader.source_or_dest_field.ended (λ M 𝓤. reader.source_or_dest_field.clauses) ([], tt) (refusing, tt) (y, (tt, tt)) (y ≡ Err r)
  role_passes_on y = implies _ _ (λ e. paper_one e)

-- where the intake stops, the reader refuses what is held with that refusal
pub intake_passes_on : (s : List ℕ) (held : ℕ) (block : List ℕ) (managed : ManagedParameters) (n m : ℕ) (r : Refusal) (left : List ℕ)
    → Takes s held block managed (Ok (Stopped n m r)) left
    → (x : Result TransferFrame Refusal) → Allows fn_from_bytes ([], tt) (at (take m left), (managed, tt)) (x, (tt, (tt, tt))) → x ≡ Err r
intake_passes_on s held block managed n m r left e x reads =
    paper_one (reads ∙ stop_read managed s held block left (sym e))
