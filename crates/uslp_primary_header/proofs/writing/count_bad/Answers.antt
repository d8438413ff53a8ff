-- The shift is a division by the power of 256, and a u64 is below the eighth power.
use mathlib.Core.Path.{◌≡◌, ◌∙◌, ap, sym}
use Prim.Native.Nat.{ℕ, ◌/◌, ◌*◌, ◌^◌, ◌<◌}
use mathlib.Core.Bool.{not}
use native.Mathlib.Omega.{arith}
use native.Mathlib.Nat.{pow-le-pow_right, div-eq_of_lt, div-lt_iff_lt-mul}
use native.Mathlib.Decide.{dec_lt}
use borrow.Author.Tests.{lt-leb, le-leb, eq-eqb, ne_eqb}
use lib.Dec.{lit<, eqb, leb}
use Rattle.uslp_octets.proofs.Laws.{pow_eight, pos}
use Rattle.uslp_primary_header.proofs.writing.count_bad.Goals as goal

high_some : (n m : ℕ) → 0 < m → not (eqb (n / m) 0) ≡ leb m n
high_some n m h = go (dec_lt n m)
  where
    go : Dec (n < m) → not (eqb (n / m) 0) ≡ leb m n
    go (yes l) = ap not (eq-eqb _ _ (div-eq_of_lt l)) ∙ sym (lt-leb _ _ l)
    go (no l) =
        ap not (ne_eqb (n / m) 0 (λ (e : n / m ≡ 0). let b : n < 1 * m = (div-lt_iff_lt-mul h).0 (omega arith) in l (omega arith)))
        ∙ sym (le-leb m n (omega arith))

wide : (w n : ℕ) → 7 < w → n < 256 ^ 8 → n < 256 ^ w
wide w n a b = omega (arith, pow-le-pow_right {n = 256} (lit< tt) {i = 8} {j = w} (omega arith))

pub returns-then-width-gt-MAX_COUNT_LEN : goal.returns-then-width-gt-MAX_COUNT_LEN
returns-then-width-gt-MAX_COUNT_LEN c = sym (lt-leb _ _ (wide c.args.width c.args.count (omega arith) (omega arith)))

pub returns : goal.returns
returns c = rw (pow_eight c.args.width) (high_some c.args.count _ (pos c.args.width))
