-- How far one count is ahead of another, from the places of their frames.
use mathlib.Core.Path.{◌≡◌, sym, ◌∙◌, ap}
use Prim.Native.Nat.{ℕ, suc, ◌+◌, ◌-◌, ◌*◌, ◌^◌, ◌%◌, ◌/◌, ◌<◌, ◌≤◌}
use native.Mathlib.Omega.{arith}
use native.Mathlib.Nat.{mod-lt, mod-eq_of_lt, mod-add-mod, add-mod-mod, add-mul-mod_self_right, add-mod_right, pow-suc}
use Rattle.uslp_record.specs.Judging.{ahead}
use Rattle.uslp_record.proofs.Count.{counts_positive, counts_le, counts_divide}

-- below m, x is known from x + b modulo m
cancel_by : (x b m : ℕ) → b ≤ m → x < m → ((x + b) % m + (m - b)) % m ≡ x
cancel_by x b m hb hx =
    let e : x + b + (m - b) ≡ x + m = omega arith in
    mod-add-mod (x + b) m (m - b) ∙ ap (λ (v : ℕ). v % m) e ∙ add-mod_right x m ∙ mod-eq_of_lt hx

cancel : (x y b m : ℕ) → b ≤ m → x < m → y < m → (x + b) % m ≡ (y + b) % m → x ≡ y
cancel x y b m hb hx hy e = sym (cancel_by x b m hb hx) ∙ ap (λ (v : ℕ). (v + (m - b)) % m) e ∙ cancel_by y b m hb hy

-- half of the counts, twice
pub half_twice : (w : ℕ) → 1 ≤ w → 256 ^ w / 2 + 256 ^ w / 2 ≡ 256 ^ w
half_twice w h =
    let e : w ≡ suc (w - 1) = omega arith in
    let z : 256 ^ w ≡ 256 ^ (w - 1) * 256 = ap (λ (v : ℕ). 256 ^ v) e ∙ pow-suc 256 (w - 1) in
    omega arith

module _ (w : ℕ) (narrow : w ≤ 7) where
  -- the distance, added to the count that it is from, is the count that it is to
  back : (a b : ℕ) → a < 256 ^ w → b < 256 ^ w → (ahead w a b + b) % 256 ^ w ≡ a
  back a b ha hb =
      let small = counts_le w narrow in
      let e : a + 2 ^ 64 - b + b ≡ a + 2 ^ 64 = omega arith in
      mod-add-mod (a + 2 ^ 64 - b) (256 ^ w) b ∙ ap (λ (v : ℕ). v % 256 ^ w) e ∙ ap (λ (v : ℕ). (a + v) % 256 ^ w) (counts_divide w narrow)
      ∙ add-mul-mod_self_right a (256 ^ (8 - w)) (256 ^ w) ∙ mod-eq_of_lt ha

  module _ (c p q : ℕ) where
    -- where d places lie from q to p
    ahead_by : (d : ℕ) → d < 256 ^ w → (d + (c + q)) % 256 ^ w ≡ (c + p) % 256 ^ w → ahead w ((c + p) % 256 ^ w) ((c + q) % 256 ^ w) ≡ d
    ahead_by d hd e =
        let pos = counts_positive w in
        let a = (c + p) % 256 ^ w in
        let b = (c + q) % 256 ^ w in
        let ha : a < 256 ^ w = mod-lt (c + p) pos in
        let hb : b < 256 ^ w = mod-lt (c + q) pos in
        cancel (ahead w a b) d b (256 ^ w) (omega arith) (mod-lt (a + 2 ^ 64 - b) pos) hd (back a b ha hb ∙ sym e ∙ sym (add-mod-mod d (c + q) (256 ^ w)))

    pub ahead_on : q ≤ p → p - q < 256 ^ w → ahead w ((c + p) % 256 ^ w) ((c + q) % 256 ^ w) ≡ p - q
    ahead_on h l =
        let e : p - q + (c + q) ≡ c + p = omega arith in
        ahead_by (p - q) l (ap (λ (v : ℕ). v % 256 ^ w) e)

    pub ahead_back : p < q → q - p < 256 ^ w → ahead w ((c + p) % 256 ^ w) ((c + q) % 256 ^ w) ≡ 256 ^ w - (q - p)
    ahead_back h l =
        let e : 256 ^ w - (q - p) + (c + q) ≡ c + p + 256 ^ w = omega arith in
        ahead_by (256 ^ w - (q - p)) (omega arith) (ap (λ (v : ℕ). v % 256 ^ w) e ∙ add-mod_right (c + p) (256 ^ w))
