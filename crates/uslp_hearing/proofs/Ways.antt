-- The ways through hearing octets: it is refused and leaves the record, or a frame that was read is counted.
use mathlib.Core.Path.{◌≡◌, refl, sym, subst}
use mathlib.Core.Logic.{◌⊎◌, inl, inr, ⊎_elim}
use mathlib.Core.List.{List}
use Prim.Native.Nat.{ℕ, ◌<◌, ◌≤◌, ◌^◌}
use native.Mathlib.Omega.{arith}
use Rattle.uslp_octets.specs.Octets.{AreOctets}
use Rattle.uslp_kinds.specs.Outcome.{Outcome, done, refused, and_then}
use Rattle.uslp_kinds.proofs.Outcomes.{not_done, refused_any}
use Rattle.uslp_kinds.specs.declared.ManagedParameters.{ManagedParameters}
use Rattle.uslp_primary_header.proofs.Checks.{count_in}
use Rattle.uslp_primary_header.proofs.RoundTrip.{read_width, read_fitting}
use Rattle.uslp_reader.specs.Reader.{frame_reading}
use Rattle.uslp_reader.specs.declared.TransferFrame.{TransferFrame}
use Rattle.uslp_reader.proofs.Done.{read_done, reading_up_to}
use Rattle.uslp_record.specs.Slots.{find, state_at, Change, changed}
use Rattle.uslp_record.specs.Record.{Kept, keeping, applied}
use Rattle.uslp_record.specs.Judging.{arrival_at, judging}
use Rattle.uslp_record.specs.Made.{Made}
use Rattle.uslp_record.specs.declared.Channel.{Channel}
use Rattle.uslp_record.specs.declared.ChannelRecord.{ChannelRecord}
use Rattle.uslp_record.specs.declared.Arrival.{Arrival}
use Rattle.uslp_record.proofs.Back.{keeping_one}
use Rattle.uslp_record.proofs.Hears.{judging_late}
use Rattle.uslp_record.proofs.Ways.{Judged, change_for, judging_ways}
use Rattle.uslp_record.proofs.Keeps.{left, made_counting}
use Rattle.uslp_hearing.specs.Hearing.{Naming, channel_of, frame_arrival, with_frame, judged_by, hearing_by}
use Rattle.uslp_hearing.specs.declared.FrameArrival.{FrameArrival}

module _ (x : TransferFrame) where
  -- the channel, width and count of a frame
  abbrev pub channel : Channel
  channel = channel_of x.primary_header

  abbrev pub width : ℕ
  width = x.primary_header.vc_frame_count_len

  abbrev pub count : ℕ
  count = x.primary_header.vc_frame_count

module _ (name : Naming) where
  -- the channel that a frame is counted for
  abbrev pub named : TransferFrame → Channel
  named x = name x.primary_header

  pub frame_ways : (P : Kept FrameArrival → Type 0) (r : ChannelRecord) (s : List ℕ) (managed : ManagedParameters)
      → ((j : ℕ) (vs : List ℕ) → P (keeping (refused j vs) r))
      → ((x : TransferFrame) → frame_reading s managed ≡ done x → Judged r (named x) (width x) (count x)
      → P (keeping (done (frame_arrival x (arrival_at (state_at r (find (named x) r.slots)) (count x))))
      (changed r (change_for r (named x) (width x) (count x)))))
      → P (hearing_by name r s managed)
  frame_ways P r s managed f g = go (frame_reading s managed) refl
    where
      go : (o : Outcome TransferFrame) → frame_reading s managed ≡ o → P (applied r (and_then o (judged_by name r)))
      go (done x) e =
          judging_ways r (named x) (λ (o : Outcome (Arrival × Change)). P (applied r (with_frame x o))) (width x) (count x) f (g x e)
      go (refused k vs) e = f k vs

-- a frame that was read has a width of at most 7, and a count that its width has
pub read_narrow : (s : List ℕ) (managed : ManagedParameters) (x : TransferFrame) → frame_reading s managed ≡ done x → width x ≤ 7
read_narrow s managed x e = read_width s x.primary_header (read_done s managed x e).header

pub read_fits : (s : List ℕ) (managed : ManagedParameters) (x : TransferFrame) → AreOctets s → frame_reading s managed ≡ done x → count x < 256 ^ width x
read_fits s managed x oct e = count_in x.primary_header (read_fitting s x.primary_header oct (read_done s managed x e).header).checks_pass

-- the record that a frame leaves is the one that its count leaves
with_frame_lem : {A : Type 0} (P : ChannelRecord → A) (x : TransferFrame) (r : ChannelRecord) (o : Outcome (Arrival × Change))
    → P (left (applied r (with_frame x o))) ≡ P (left (applied r o))
with_frame_lem P x r (done y) = refl
with_frame_lem P x r (refused k vs) = refl

module _ (name : Naming) (r : ChannelRecord) where
  -- hearing octets refuses as reading does, or by 13, 14 or 17: so never by BAD_FIELD or BAD_COUNT
  pub hearing_late : (s : List ℕ) (managed : ManagedParameters) → AreOctets s → {k : ℕ} {vs : List ℕ} {q : ChannelRecord}
      → hearing_by name r s managed ≡ keeping (refused k vs) q → (frame_reading s managed ≡ refused k vs) ⊎ (13 ≤ k)
  hearing_late s managed oct {k} {vs} {q} = go (frame_reading s managed) refl
    where
      by : (x : TransferFrame) (o : Outcome (Arrival × Change)) → applied r (with_frame x o) ≡ keeping (refused k vs) q → o ≡ refused k vs
      by x (done y) e = absurd (not_done (sym (keeping_one e).0))
      by x (refused j us) e = refused_any (keeping_one e).0

      go : (o : Outcome TransferFrame) → frame_reading s managed ≡ o → applied r (and_then o (judged_by name r)) ≡ keeping (refused k vs) q
          → (o ≡ refused k vs) ⊎ (13 ≤ k)
      go (done x) e h =
          inr
          (judging_late r (named name x) (width x) (count x) (read_narrow s managed x e) (read_fits s managed x oct e)
          (by x (judging r (named name x) (width x) (count x)) h))
      go (refused j us) e h = inl (refused_any (keeping_one h).0)

  pub never_own : (s : List ℕ) (managed : ManagedParameters) → AreOctets s → {k : ℕ} {vs : List ℕ} {q : ChannelRecord}
      → hearing_by name r s managed ≡ keeping (refused k vs) q → (k ≡ 8 → ⊥) × (k ≡ 10 → ⊥)
  never_own s managed oct {k} e =
      ⊎_elim
      (λ h. let low = reading_up_to s managed h in (λ z. omega (arith, low, z), λ z. omega (arith, low, z)))
      (λ h. (λ z. omega (arith, h, z), λ z. omega (arith, h, z)))
      (hearing_late s managed oct e)

  -- a frame, whether it was read or made up, and octets keep what holds of records that calls made
  pub made_frame : Made r → (x : TransferFrame) → Made (left (applied r (judged_by name r x)))
  made_frame made x =
      subst (λ (q : ChannelRecord). Made q) (sym (with_frame_lem (λ (q : ChannelRecord). q) x r (judging r (named name x) (width x) (count x))))
      (made_counting r made (named name x) (width x) (count x))

  pub made_hearing : Made r → (s : List ℕ) (managed : ManagedParameters) → Made (left (hearing_by name r s managed))
  made_hearing made s managed = go (frame_reading s managed)
    where
      go : (o : Outcome TransferFrame) → Made (left (applied r (and_then o (judged_by name r))))
      go (done x) = made_frame made x
      go (refused k vs) = made
