-- What the hearings that are no arrival leave as it was: nothing is handed on of the channel, it stands as it stood, and no total of it is full.
use mathlib.Core.Path.{◌≡◌, refl, sym, ◌∙◌, ap, subst}
use mathlib.Core.Bool.{Bool, true, false, cond}
use mathlib.Core.List.{List, [], ◌∷◌}
use Prim.Native.Nat.{ℕ, ◌<◌, ◌^◌}
use native.Mathlib.Omega.{arith}
use native.Mathlib.Decide.{dec_lt}
use Rattle.uslp_kinds.specs.Outcome.{Outcome, done, refused, and_then}
use Rattle.uslp_kinds.proofs.Outcomes.{not_done, done_one}
use Rattle.uslp_kinds.specs.declared.ManagedParameters.{ManagedParameters}
use Rattle.uslp_record.specs.Slots.{Change}
use Rattle.uslp_record.specs.Record.{Kept, keeping, applied}
use Rattle.uslp_record.specs.Judging.{width_at, judging}
use Rattle.uslp_record.specs.declared.Channel.{Channel}
use Rattle.uslp_record.specs.declared.SlotState.{SlotState}
use Rattle.uslp_record.specs.declared.ChannelRecord.{ChannelRecord}
use Rattle.uslp_record.specs.declared.Arrival.{Arrival}
use Rattle.uslp_record.specs.declared.Arrival.TheVariants.{New, Repeat, Late}
use Rattle.uslp_record.proofs.Hears.{judging_wide, judging_count, judged_width}
use Rattle.uslp_record.proofs.Slots.{true_false, same_one}
use Rattle.uslp_reader.specs.Reader.{frame_reading, contents_in}
use Rattle.uslp_reader.specs.declared.TransferFrame.{TransferFrame}
use Rattle.uslp_hearing.specs.Hearing.{Naming, with_frame, judged_by, hearing_by}
use Rattle.uslp_hearing.specs.declared.FrameArrival.{FrameArrival}
use Rattle.uslp_counting.specs.History.{record_of, answer_of, is_of, handing, Roomy}
use Rattle.uslp_counting.specs.History.Call.{hears}
use Rattle.uslp_counting.proofs.Stands.{Stands, stands_judging}
use Rattle.uslp_counting.proofs.Agrees.{Agrees}

-- a hearing of the octets s hands nothing on for K, and K stands in the state t after it
pub record Passes (name : Naming) (K : Channel) (s : List ℕ) (t : SlotState) (q : Kept FrameArrival) : Type 0 where
  pub nothing : handing name K s (answer_of q) ≡ []
  pub stands : Stands K (record_of q) t

-- the frames are of channels by `name`; the console counts them by `by`
module _ (name by : Naming) (K : Channel) (r : ChannelRecord) (t : SlotState) (at : Stands K r t) where
  -- a frame of the channel in another width is refused, and not for a total
  misfit_ways : (P : Outcome (Arrival × Change) → Type 0) (w n : ℕ) → (w ≡ width_at t → ⊥)
      → ((j : ℕ) (vs : List ℕ) → j < 17 → P (refused j vs)) → P (judging r K w n)
  misfit_ways P w n odd f = go (dec_lt 7 w) (dec_lt n (256 ^ w))
    where
      go : Dec (7 < w) → Dec (n < 256 ^ w) → P (judging r K w n)
      go (yes h) d = subst P (sym (judging_wide r K w n h)) (f 10 [] (omega arith))
      go (no h) (no d) = subst P (sym (judging_count r K w n (omega arith) (omega arith))) (f 8 (n ∷ w ∷ []) (omega arith))
      go (no h) (yes d) =
          subst P (sym (judged_width r K w n (omega arith) d at.there t at.state odd)) (f 14 (w ∷ width_at t ∷ []) (omega arith))

  module _ (s : List ℕ) where
    -- a frame of another channel that was read
    passes_other : (x : TransferFrame) → is_of name K x ≡ false → (o : Outcome (Arrival × Change))
        → Stands K (record_of (applied r o)) t
        → Passes name K s t (applied r (with_frame x o))
    passes_other x other (done (New gap, c)) h =
        record { nothing = ap (λ (b : Bool). cond b ((gap, x, contents_in x s) ∷ []) []) other; stands = h }
    passes_other x other (done (Repeat, c)) h = record { nothing = refl; stands = h }
    passes_other x other (done (Late, c)) h = record { nothing = refl; stands = h }
    passes_other x other (refused k vs) h = record { nothing = refl; stands = h }

    module _ (managed : ManagedParameters) where
      by_reading : (o : Outcome TransferFrame) → frame_reading s managed ≡ o → Passes name K s t (applied r (and_then o (judged_by by r)))
          → Passes name K s t (hearing_by by r s managed)
      by_reading o e = subst (λ (v : Outcome TransferFrame). Passes name K s t (applied r (and_then v (judged_by by r)))) (sym e)

      module _ (k : ℕ) (vs : List ℕ) (e : frame_reading s managed ≡ refused k vs) where
        pub passes_damaged : Passes name K s t (hearing_by by r s managed)
        passes_damaged = by_reading (refused k vs) e (record { nothing = refl; stands = at })

        pub roomy_damaged : Roomy name (hearing_by by) K r (hears s managed)
        roomy_damaged x d = absurd (not_done (sym e ∙ d))

      module _ (agree : Agrees name by K (hears s managed)) (x : TransferFrame) (e : frame_reading s managed ≡ done x) where
        module _ (other : is_of name K x ≡ false) where
          pub passes_elsewhere : Passes name K s t (hearing_by by r s managed)
          passes_elsewhere =
              let h = x.primary_header in
              by_reading (done x) e
              (passes_other x other (judging r (by h) h.vc_frame_count_len h.vc_frame_count)
              (stands_judging K r t at (by h) (agree x e ∙ other) h.vc_frame_count_len h.vc_frame_count))

          pub roomy_elsewhere : Roomy name (hearing_by by) K r (hears s managed)
          roomy_elsewhere y d same =
              let z : x ≡ y = done_one (sym e ∙ d) in
              absurd (true_false same (ap (λ (v : TransferFrame). is_of name K v) (sym z) ∙ other))

        -- a frame of the channel in another width: whatever holds of a refusal that is not for a total
        module _ (odd : x.primary_header.vc_frame_count_len ≡ width_at t → ⊥) where
          misfit : (P : Kept FrameArrival → Type 0) → is_of name K x ≡ true
              → ((j : ℕ) (vs : List ℕ) → j < 17 → P (keeping (refused j vs) r)) → P (hearing_by by r s managed)
          misfit P same f =
              let h = x.primary_header in
              let w = h.vc_frame_count_len in
              let n = h.vc_frame_count in
              subst (λ (v : Outcome TransferFrame). P (applied r (and_then v (judged_by by r)))) (sym e)
              (subst (λ (k : Channel). P (applied r (with_frame x (judging r k w n)))) (sym (same_one (by h) K (agree x e ∙ same)))
              (misfit_ways (λ (o : Outcome (Arrival × Change)). P (applied r (with_frame x o))) w n odd f))

          pub passes_misfit : Passes name K s t (hearing_by by r s managed)
          passes_misfit = go (is_of name K x) refl
            where
              go : (b : Bool) → is_of name K x ≡ b → Passes name K s t (hearing_by by r s managed)
              go true same = misfit (Passes name K s t) same (λ j vs low. record { nothing = refl; stands = at })
              go false other = passes_elsewhere other

          pub roomy_misfit : Roomy name (hearing_by by) K r (hears s managed)
          roomy_misfit y d same =
              let z : x ≡ y = done_one (sym e ∙ d) in
              misfit (λ (q : Kept FrameArrival). answer_of q ≡ refused 17 [] → ⊥)
              (ap (λ (v : TransferFrame). is_of name K v) z ∙ same)
              (λ j vs low f. let g : j ≡ 17 = cc in omega arith)
