-- Where the call stops: no frame stands there, and the refusal is the reader's on what is left, never 13, 14 or 17.
use Prim.Native.Nat.{ℕ, ◌-◌, ◌<◌, ◌≤◌}
use mathlib.Core.Path.{◌≡◌, refl, ap, sym, ◌∙◌}
use mathlib.Core.List.{List, [], ◌∷◌}
use native.Mathlib.Omega.{arith}
use lib.ListN.{length, drop, length-append}
use lib.Seq.{drop_at}
use Rattle.uslp_kinds.specs.Outcome.{Outcome, done, refused, and_then}
use Rattle.uslp_kinds.proofs.Outcomes.{not_done, then_refused}
use Rattle.uslp_kinds.specs.declared.ManagedParameters.{ManagedParameters}
use Rattle.uslp_reader.specs.Reader.{frame_reading}
use Rattle.uslp_reader.specs.EndToEnd.{Cut, cut, stopping}
use Rattle.uslp_reader.specs.declared.TransferFrame.{TransferFrame}
use Rattle.uslp_reader.proofs.Done.{reading_up_to}
use Rattle.uslp_reader.proofs.EndToEnd.{cut_refused, stopping_refused, rest_no_frame, joined, cut_joined}
use Rattle.uslp_record.specs.declared.ChannelRecord.{ChannelRecord}
use Rattle.uslp_end_to_end.specs.Many.{no_frames, hearings, KeptMany, many_hearing}

-- what is left is empty where nothing stopped it, and what the reader refuses where something did
stopping_done : (managed : ManagedParameters) (s : List ℕ) → ((x : TransferFrame) → frame_reading s managed ≡ done x → ⊥)
    → stopping managed s ≡ done tt → length s ≡ 0
stopping_done managed [] none e = refl
stopping_done managed (o ∷ s) none e = go (frame_reading (o ∷ s) managed) refl e
  where
    go : (a : Outcome TransferFrame) → frame_reading (o ∷ s) managed ≡ a → and_then a (λ (x : TransferFrame). done (tt {0})) ≡ done (tt {0}) → length (o ∷ s) ≡ 0
    go (done x) read d = absurd (none x read)
    go (refused k vs) read d = absurd (not_done d)

stopping_read : (managed : ManagedParameters) (s : List ℕ) {k : ℕ} {vs : List ℕ} → stopping managed s ≡ refused k vs → frame_reading s managed ≡ refused k vs
stopping_read managed [] e = absurd (not_done (sym e))
stopping_read managed (o ∷ s) e = then_refused (frame_reading (o ∷ s) managed) (λ (x : TransferFrame). tt) e

module _ (managed : ManagedParameters) (s : List ℕ) (r : ChannelRecord) where
  abbrev call : KeptMany
  call = many_hearing r s managed

  -- what is left where the call stops is what is left behind the frames
  pub left_behind : drop call.place s ≡ (cut managed s).rest
  unfolding many_hearing
  left_behind =
      let c = cut managed s in
      let whole = cut_joined managed s in
      let long : length (joined c.frames) ≡ length s - length c.rest = omega (arith, ap length whole, length-append (joined c.frames) c.rest) in
      ap (drop (length s - length c.rest)) (sym whole) ∙ drop_at (joined c.frames) c.rest (length s - length c.rest) long

  stop_is : call.stop ≡ stopping managed (drop call.place s)
  unfolding many_hearing
  stop_is = ap (stopping managed) (sym left_behind)

  -- a place one frame early has a frame
  pub no_frame_there : {x : TransferFrame} → frame_reading (drop call.place s) managed ≡ done x → ⊥
  no_frame_there {x} e = rest_no_frame managed s (ap (λ (t : List ℕ). frame_reading t managed) (sym left_behind) ∙ e)

  pub used_up : call.stop ≡ done tt → length (drop call.place s) ≡ 0
  used_up e = stopping_done managed (drop call.place s) (λ x. no_frame_there) (sym stop_is ∙ e)

  pub refused_there : {k : ℕ} {vs : List ℕ} → call.stop ≡ refused k vs → frame_reading (drop call.place s) managed ≡ refused k vs
  refused_there e = stopping_read managed (drop call.place s) (sym stop_is ∙ e)

  -- so it is no refusal of the record's
  pub stop_up_to : {k : ℕ} {vs : List ℕ} → call.stop ≡ refused k vs → k ≤ 7
  stop_up_to e = reading_up_to (drop call.place s) managed (refused_there e)

  -- nothing is heard behind a refusal
  pub refused_first : {k : ℕ} {vs : List ℕ} → frame_reading s managed ≡ refused k vs → (call.place ≡ 0) × (call.counted ≡ no_frames) × (call.next ≡ r)
  unfolding many_hearing hearings
  refused_first e =
      let c = cut_refused managed s e in (
        omega (arith, ap (λ (v : Cut). length v.rest) c),
        ap (λ (v : Cut). (hearings managed v.frames no_frames r).0) c,
        ap (λ (v : Cut). (hearings managed v.frames no_frames r).1) c,
      )

  pub stops_first : {k : ℕ} {vs : List ℕ} → 0 < length s → frame_reading s managed ≡ refused k vs → call.stop ≡ refused k vs
  stops_first some e =
      stop_is ∙ ap (λ (n : ℕ). stopping managed (drop n s)) (refused_first e).0 ∙ stopping_refused managed s some e
