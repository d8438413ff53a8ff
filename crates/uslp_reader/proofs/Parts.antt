-- Parts of the octets as the code takes them.
use mathlib.Core.Path.{◌≡◌, ap}
use Prim.Native.Nat.{ℕ, ◌+◌, ◌-◌, ◌*◌, ◌≤◌}
use mathlib.Core.List.{List}
use native.Mathlib.Nat.{add-zero, sub-zero}
use native.Mathlib.Omega.{arith}
use lib.ListN.{length, take, drop, get_or, length-drop}
use lib.Seq.{take_all}
use Rattle.uslp_octets.specs.Octets.{word}

first_at : (s : List ℕ) (i : ℕ) → get_or s (i + 0) 0 ≡ get_or s i 0
first_at s i = ap (λ (j : ℕ). get_or s j 0) (add-zero i)

-- parts of the octets, at a place that a local holds
module _ (s : List ℕ) (m n : ℕ) (e : m ≡ n) where
  pub first_part : take (m - 0) (drop 0 s) ≡ take n s
  first_part = rw (sub-zero, e)

  pub rest_part : take (length s - m) (drop m s) ≡ drop n s
  rest_part = rw e (take_all (length s - n) (drop n s) (omega (arith, length-drop n s)))

  pub last_two : 2 ≤ n → get_or s (m - 2) 0 * 256 + get_or s (m - 1) 0 ≡ word (n - 2) 2 s
  last_two h =
      let i : n - 1 ≡ n - 2 + 1 = omega arith in
      rw (e, i) (omega (arith, first_at s (n - 2)))
