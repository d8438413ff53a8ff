-- What a test of an entry tells, from what the steps of the code found.
use mathlib.Core.Path.{◌≡◌, refl, sym, ◌∙◌, ap, subst}
use mathlib.Core.Bool.{Bool, true, false}
use mathlib.Core.Logic.{◌⊎◌, inl, inr}
use Prim.Native.Nat.{ℕ, ◌<◌}
use native.Mathlib.Omega.{arith}
use borrow.Author.Tests.{eqb-true, eqb-false}
use lib.Dec.{eqb}
use Rattle.std.specs.Prelude.{Option, Some, None}
use Rattle.std.specs.Option.{option_eq}
use Rattle.std.specs.Bool.{MatchBool}
use Rattle.std.specs.List.{AllWithin, HoldsAt, range_with_len}
use Rattle.std.proofs.lemmas.List.FromFn.{length-range_with_len, get_or-range_with_len}
use native.Mathlib.Nat.{zero-add}
use lib.ListN.{length, get_or}
use Rattle.uslp_record.specs.Slots.{same_channel, find, slot_found}
use Rattle.uslp_record.specs.declared.Channel.{Channel}
use Rattle.uslp_record.specs.declared.Totals.{Totals}
use Rattle.uslp_record.specs.declared.SlotState.{SlotState}
use Rattle.uslp_record.specs.declared.SlotState.TheVariants.{Opened, Heard}
use Rattle.uslp_record.specs.declared.ChannelRecord.{ChannelRecord}
use Rattle.uslp_record.proofs.Found.{found_low, found_high}
use Rattle.uslp_record.proofs.Slots.{true_false, same_self, same_one}
use Rattle.uslp_saved.specs.Reading.{Tells, FirstAt}

-- the search finds the slot i
module _ (q : ChannelRecord) (i : ℕ) (low : i < 8) (k : Channel) {o : Option ℕ} (found : o ≡ slot_found (find k q.slots)) where
  at_own : {b : Bool} → b ≡ option_eq eqb o (Some i) → Tells b ((c : Channel) → same_channel k c ≡ true → find c q.slots ≡ i)
  at_own {b} is = go o refl
    where
      go : (p : Option ℕ) → o ≡ p → Tells b ((c : Channel) → same_channel k c ≡ true → find c q.slots ≡ i)
      go None e = (
        λ t. absurd (true_false t (is ∙ ap (λ (p : Option ℕ). option_eq eqb p (Some i)) e)),
        λ t f. let h = f k (same_self k) in let far = found_high (find k q.slots) found e in omega arith,
      )
      go (Some j) e =
          let at = found_low (find k q.slots) found e in
          let same : b ≡ eqb j i = is ∙ ap (λ (p : Option ℕ). option_eq eqb p (Some i)) e in (
            λ t c h. ap (λ (x : Channel). find x q.slots) (sym (same_one k c h)) ∙ sym at.0 ∙ eqb-true j i (sym same ∙ t),
            λ t f. eqb-false j i (sym same ∙ t) (at.0 ∙ f k (same_self k)),
          )

  pub first_open : {b : Bool} (x : SlotState) → b ≡ option_eq eqb o (Some i)
      → ((w : ℕ) × (x ≡ Opened k w)) ⊎ ((w : ℕ) × (t : Totals) × (x ≡ Heard k w t)) → Tells b (FirstAt q i x)
  first_open {b} x is (inl e) = subst (λ (z : SlotState). Tells b (FirstAt q i z)) (sym e.1) (at_own is)
  first_open {b} x is (inr e) = subst (λ (z : SlotState). Tells b (FirstAt q i z)) (sym e.2) (at_own is)

-- what is tested of each number below n
module _ (n : ℕ) (P : ℕ → Type 0) where
  there : (i : ℕ) → i < n → get_or (range_with_len 0 n) i 0 ≡ i
  there i low = get_or-range_with_len 0 n i 0 low ∙ zero-add i

  pub tells_each : (r : Bool)
      → MatchBool r (AllWithin P (range_with_len 0 n) 0 (length (range_with_len 0 n)))
      ((k : ℕ) × (k < length (range_with_len 0 n)) × HoldsAt (λ i. P i → ⊥) (range_with_len 0 n) k)
      → Tells r ((i : ℕ) → i < n → P i)
  tells_each true h = (
    λ e i low. subst P (there i low) (h i 0 (omega arith) (omega (arith, length-range_with_len 0 n))),
    λ e. absurd (true_false refl e),
  )
  tells_each false h = (
    λ e. absurd (true_false e refl),
    λ e all.
        let low : h.0 < n = omega (arith, h.1, length-range_with_len 0 n) in
        h.2 0 (subst P (sym (there h.0 low)) (all h.0 low)),
  )
