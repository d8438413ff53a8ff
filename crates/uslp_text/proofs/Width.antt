-- How many digits a number has, digit by digit.
use mathlib.Core.Path.{◌≡◌, refl, ap, ap₂, sym, ◌∙◌}
use Prim.Native.Nat.{ℕ, zero, suc, ◌+◌, ◌/◌, ◌%◌, ◌^◌, ◌≤◌, ◌<◌}
use mathlib.Core.List.{List, [], ◌∷◌, ◌++◌}
use native.Mathlib.Omega.{arith}
use native.Mathlib.Decide.{dec_lt}
use native.Mathlib.Nat.{pow-suc, div-one, div-div-eq-div-mul, div-lt_iff_lt-mul}
use Rattle.std.specs.Fmt as std
use Rattle.std.proofs.lemmas.Fmt.{decimal_from_appends, length-decimal-le}
use borrow.Author.Tests.{lt-ltb, le-ltb}
use lib.Dec.{lit<}
use lib.ListN.{length}
use Rattle.uslp_text.specs.Text.{digits, width_in, width, decimal}

pub width_last : (k n : ℕ) → n < 10 → width_in (suc k) n ≡ 1
unfolding width_in
width_last k n h = simp (lt-ltb n 10 h)

pub width_more : (k n : ℕ) → 10 ≤ n → width_in (suc k) n ≡ suc (width_in k (n / 10))
unfolding width_in
width_more k n h = simp (le-ltb n 10 h)

-- a number of k digits, and its tenth
pub tenth : (k n : ℕ) → n < 10 ^ suc k → n / 10 < 10 ^ k
tenth k n h = (div-lt_iff_lt-mul (lit< tt)).1 (omega (arith, pow-suc 10 k))

pub length_digits : (k n : ℕ) → length (digits k n) ≡ k
length_digits zero n = refl
length_digits (suc k) n = ap suc (length_digits k n)

-- a number of so many digits has no more
width_le : (m k n : ℕ) → n < 10 ^ suc k → width_in m n ≤ suc k
unfolding width_in
width_le zero k n h = omega arith
width_le (suc m) zero n h = omega (arith, width_last m n (omega arith))
width_le (suc m) (suc k) n h =
    elim (dec_lt n 10) [
      | yes a ↦ omega (arith, width_last m n a)
      | no a ↦ omega (arith, width_more m n (omega arith), width_le m k (n / 10) (tenth (suc k) n h))
    ]

pub decimal_short : (k n : ℕ) → n < 10 ^ suc k → length (decimal n) ≤ suc k
decimal_short k n h = omega (arith, length_digits (width n) n, width_le 20 k n h)

-- the numeral is std's
digits_last : (k n : ℕ) → digits (suc k) n ≡ digits k (n / 10) ++ ((48 + n % 10) ∷ [])
digits_last zero n = ap (λ (x : ℕ). (48 + x % 10) ∷ []) (div-one n)
digits_last (suc k) n =
    ap₂ (λ (x : ℕ) (ds : List ℕ). (48 + x % 10) ∷ ds)
    (ap (λ (p : ℕ). n / p) (omega (arith, pow-suc 10 k)) ∙ sym (div-div-eq-div-mul n 10 (10 ^ k))) (digits_last k n)

pub decimal_is : (n : ℕ) → n < 2 ^ 64 → std.decimal n ≡ decimal n
decimal_is n h =
    sym (decimal_from_appends (λ (k m : ℕ). digits (width_in k m) m) (record {
      one = λ k m l. ap (λ (w : ℕ). digits w m) (width_last k m l) ∙ digits_last 0 m ∙ ap (λ (x : ℕ). (48 + x) ∷ []) (omega arith);
      more = λ k m l. ap (λ (w : ℕ). digits w m) (width_more k m l) ∙ digits_last (width_in k (m / 10)) m;
    }) 20 n h (length-decimal-le 20 n (omega arith) (omega arith) h))
