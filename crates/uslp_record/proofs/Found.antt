-- What a search that may find nothing says of where the first such slot is.
use Rattle.std.proofs.Common.{◌≡◌, ℕ, ◌<◌, ◌≤◌, Some, None, sym, refl, ◌∙◌, le-ltb, lt-ltb, arith}
use native.Mathlib.Decide.{dec_lt}
use Rattle.std.specs.Prelude.{Option}
use Rattle.uslp_record.specs.Slots.{slot_found}

-- of a place that is known, whether it is a slot's
pub found_here : (k i : ℕ) → i ≡ k → i < 8 → Some i ≡ slot_found k
found_here k i e h = rw (← e) (simp (lt-ltb i 8 h))

pub found_nowhere : (k : ℕ) → 8 ≤ k → None ≡ slot_found k
found_nowhere k h = simp (le-ltb k 8 h)

-- of an answer that is known, where the place is
pub found_low : {o : Option ℕ} (k : ℕ) {i : ℕ} → o ≡ slot_found k → o ≡ Some i → (i ≡ k) × (i < 8)
found_low {o} k {i} e f = go (dec_lt k 8)
  where
    go : Dec (k < 8) → (i ≡ k) × (i < 8)
    go (yes h) = let z : Some i ≡ Some k = sym f ∙ e ∙ sym (found_here k k refl h) in
        let j : i ≡ k = cc in (j, omega arith)
    go (no h) = let z : ◌≡◌ {A = Option ℕ} (Some i) None = sym f ∙ e ∙ sym (found_nowhere k (omega arith)) in absurd (cc)

pub found_high : {o : Option ℕ} (k : ℕ) → o ≡ slot_found k → o ≡ None → 8 ≤ k
found_high {o} k e f = go (dec_lt k 8)
  where
    go : Dec (k < 8) → 8 ≤ k
    go (yes h) = let z : ◌≡◌ {A = Option ℕ} (Some k) None = found_here k k refl h ∙ sym e ∙ f in absurd (cc)
    go (no h) = omega arith
