-- The call comes to what hearing one at a time comes to, and to nothing else, for all managed parameters.
use Prim.Native.Nat.{ℕ, zero, suc, ◌+◌, ◌-◌, ◌<◌, ◌≤◌}
use mathlib.Core.Path.{◌≡◌, refl, ap, sym, ◌∙◌, subst}
use mathlib.Core.Logic.{◌↔◌}
use mathlib.Core.List.{List}
use native.Mathlib.Omega.{arith}
use native.Mathlib.Decide.{dec_lt}
use lib.ListN.{length, take, drop}
use Rattle.uslp_octets.specs.Octets.{AreOctets}
use Rattle.uslp_octets.proofs.Laws.{are_drop}
use Rattle.uslp_kinds.specs.Outcome.{Outcome, done, refused, and_then}
use Rattle.uslp_kinds.specs.declared.ManagedParameters.{ManagedParameters}
use Rattle.uslp_primary_header.specs.Header.{len_frame}
use Rattle.uslp_reader.specs.Reader.{frame_reading}
use Rattle.uslp_reader.specs.declared.TransferFrame.{TransferFrame}
use Rattle.uslp_reader.proofs.EndToEnd.{frame_eight}
use Rattle.uslp_reader.proofs.Own.{own_octets}
use Rattle.uslp_record.specs.Record.{applied}
use Rattle.uslp_record.specs.declared.ChannelRecord.{ChannelRecord}
use Rattle.uslp_hearing.specs.Hearing.{channel_of, judged_by, frame_hearing}
use Rattle.uslp_end_to_end.specs.Many.{no_frames, added_to, KeptMany, many_hearing}
use Rattle.uslp_end_to_end.specs.Singly.{Singly}
use Rattle.uslp_end_to_end.specs.Singly.Singly.{used_up, stops, goes_on}
use Rattle.uslp_end_to_end.specs.declared.Tally.{Tally}
use Rattle.uslp_end_to_end.proofs.Walk.{Goes, goes_nothing, goes_more, goes_refused, goes_all}

module _ (managed : ManagedParameters) (s : List ℕ) (oct : AreOctets s) where
  -- hearing what is left is hearing the frame's own octets
  same_hearing : (place : ℕ) (r : ChannelRecord) (x : TransferFrame) → frame_reading (drop place s) managed ≡ done x
      → frame_hearing r (drop place s) managed ≡ frame_hearing r (take (len_frame x.primary_header) (drop place s)) managed
  same_hearing place r x e =
      ap (λ (o : Outcome TransferFrame). applied r (and_then o (judged_by channel_of r)))
      (e ∙ sym (own_octets (drop place s) managed x (are_drop place s oct) e))

  more : {r₀ : ChannelRecord} (place : ℕ) (t : Tally) (r : ChannelRecord) (x : TransferFrame) → frame_reading (drop place s) managed ≡ done x
      → Goes managed s r₀ r t place
      → Goes managed s r₀ (added_to t (frame_hearing r (drop place s) managed)).1 (added_to t (frame_hearing r (drop place s) managed)).0
      (place + len_frame x.primary_header)
  more place t r x e g = goes_more g x e refl (sym (ap (added_to t) (same_hearing place r x e)))

  -- whatever hearing one at a time comes to
  comes : {r₀ : ChannelRecord} {place : ℕ} {t : Tally} {r : ChannelRecord} {q : KeptMany} → Singly managed s place t r q → Goes managed s r₀ r t place
      → q ≡ many_hearing r₀ s managed
  comes (used_up h) g = goes_all g h
  comes (stops h e) g = goes_refused g h e
  comes (goes_on {place = place} {t = t} {r = r} x h e rest) g = comes rest (more place t r x e g)

  -- it comes to an end
  walks : (most : ℕ) {r₀ : ChannelRecord} (place : ℕ) (t : Tally) (r : ChannelRecord) → length s - place ≤ most → Goes managed s r₀ r t place
      → Singly managed s place t r (many_hearing r₀ s managed)
  walks zero {r₀} place t r h g = subst (Singly managed s place t r) (goes_all g (omega arith)) (used_up (omega arith))
  walks (suc most) {r₀} place t r h g = by (dec_lt place (length s)) (λ p u q l m. walks most p u q l m)
    where
      by : Dec (place < length s)
          → ((p : ℕ) (u : Tally) (q : ChannelRecord) → length s - p ≤ most → Goes managed s r₀ q u p → Singly managed s p u q (many_hearing r₀ s managed))
          → Singly managed s place t r (many_hearing r₀ s managed)
      by (no l) ih = subst (Singly managed s place t r) (goes_all g (omega arith)) (used_up (omega arith))
      by (yes l) ih = go (frame_reading (drop place s) managed) refl
        where
          go : (o : Outcome TransferFrame) → frame_reading (drop place s) managed ≡ o → Singly managed s place t r (many_hearing r₀ s managed)
          go (refused k vs) e = subst (Singly managed s place t r) (goes_refused g l e) (stops l e)
          go (done x) e = goes_on x l e (ih _ _ _ (omega (arith, frame_eight (drop place s) managed e)) (more place t r x e g))

  -- totals, record, stopping place and refusal are those of the single hearings
  pub one_at_a_time : (r : ChannelRecord) (q : KeptMany) → Singly managed s 0 no_frames r q ↔ (q ≡ many_hearing r s managed)
  one_at_a_time r q = (
    λ h. comes h (goes_nothing managed s r),
    λ e. subst (Singly managed s 0 no_frames r) (sym e) (walks (length s) 0 no_frames r (omega arith) (goes_nothing managed s r)),
  )
