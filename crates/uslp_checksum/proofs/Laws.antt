-- What the checksum is good for: a message that ends in its own checksum has the checksum 0, and no other last two octets give that.
use mathlib.Core.Path.{◌≡◌, refl, sym, ap, ap₂, ◌∙◌, subst}
use mathlib.Core.Logic.{◌↔◌}
use mathlib.Core.List.{List, [], ◌∷◌, ◌++◌, append_assoc}
use Prim.Native.Nat.{ℕ, suc, ◌+◌, ◌-◌, ◌*◌, ◌/◌, ◌%◌, ◌^◌, ◌≤◌, ◌<◌}
use native.Mathlib.Nat.{mod-lt, mod-eq_of_lt, mul-one, add-zero}
use native.Mathlib.Numerals.{add-one}
use native.Mathlib.Omega.{arith}
use lib.ListN.{length, take, get_or}
use lib.Seq.{take-suc}
use lib.Dec.{lit<}
use lib.Bits.{bit_xor, xor_lt, xor_self}
use Rattle.uslp_octets.specs.Octets.{octets, word, AreOctets}
use Rattle.uslp_checksum.specs.Checksum.{bit, step, feed, lows, bits, checksum_of}
use Rattle.uslp_checksum.proofs.Xor.{xor_eq}
use Rattle.uslp_checksum.proofs.Register.{zsteps, zsteps_zero, value, feed_top}
use Rattle.uslp_checksum.proofs.Message.{feed_append, feed_lt, value_lows, value_append, bits_append}

pub checksum_lt : (m : List ℕ) → checksum_of m < 2 ^ 16
unfolding checksum_of
checksum_lt m = feed_lt (bits m) 0xFFFF (lit< tt)

-- two more octets are added to the register, which then moves by 16 places
two_more : (m : List ℕ) (hi lo : ℕ) → hi < 256 → lo < 256 → checksum_of (m ++ hi ∷ lo ∷ []) ≡ zsteps 16 (bit_xor (checksum_of m) (hi * 256 + lo))
unfolding checksum_of bits lows
two_more m hi lo hh hl =
    ap (feed 0xFFFF) (bits_append m (hi ∷ lo ∷ []))
    ∙ feed_append (bits m) (bits (hi ∷ lo ∷ [])) 0xFFFF
    ∙ feed_top (lows 8 hi ++ lows 8 lo ++ []) 0 (checksum_of m) refl
    ∙ ap (λ (x : ℕ). zsteps 16 (bit_xor (checksum_of m) x)) (mul-one (value (lows 8 hi ++ lows 8 lo ++ [])) ∙ whole)
  where
    whole : value (lows 8 hi ++ lows 8 lo) ≡ hi * 256 + lo
    whole =
        value_append (lows 8 hi) (lows 8 lo)
        ∙ ap₂ (λ (x y : ℕ). x * 256 + y) (value_lows 8 hi ∙ mod-eq_of_lt hh) (value_lows 8 lo ∙ mod-eq_of_lt hl)

-- the checksum of all is 0 where the last two octets are the checksum of the rest, and only there
pub residue_two : (m : List ℕ) (hi lo : ℕ) → hi < 256 → lo < 256 → (checksum_of (m ++ hi ∷ lo ∷ []) ≡ 0) ↔ (checksum_of m ≡ hi * 256 + lo)
unfolding step bit
residue_two m hi lo hh hl = (
  λ e.
      xor_eq r w
      (zsteps_zero 16 (bit_xor r w) (xor_lt 16 r w (checksum_lt m) (omega arith)) (sym (two_more m hi lo hh hl) ∙ e)),
  λ e. two_more m hi lo hh hl ∙ ap (λ (x : ℕ). zsteps 16 (bit_xor x w)) e ∙ ap (zsteps 16) (xor_self w),
)
  where
    r : ℕ
    r = checksum_of m

    w : ℕ
    w = hi * 256 + lo

pub sealed : (m : List ℕ) → checksum_of (m ++ octets 2 (checksum_of m)) ≡ 0
sealed m =
    let h = checksum_lt m in
    (residue_two m (checksum_of m / 256 ^ 1 % 256) (checksum_of m / 256 ^ 0 % 256) (mod-lt (checksum_of m / 256 ^ 1) (lit< tt))
    (mod-lt (checksum_of m / 256 ^ 0) (lit< tt))).1
    (omega arith)

-- the same of a message's first k octets, whose last two are those
pub residue : (k : ℕ) (m : List ℕ) → AreOctets m → 2 ≤ k → k ≤ length m → (checksum_of (take k m) ≡ 0) ↔ (checksum_of (take (k - 2) m) ≡ word (k - 2) 2 m)
residue k m o two long =
    subst (λ (x : List ℕ). (checksum_of x ≡ 0) ↔ (checksum_of (take n m) ≡ word n 2 m)) parts
    (subst (λ (x : ℕ). (checksum_of (take n m ++ get_or m (n + 0) 0 ∷ get_or m (n + 1) 0 ∷ []) ≡ 0) ↔ (checksum_of (take n m) ≡ x)) number
    (residue_two (take n m) (get_or m (n + 0) 0) (get_or m (n + 1) 0) (o (n + 0)) (o (n + 1))))
  where
    n : ℕ
    n = k - 2

    whole : suc (suc n) ≡ k
    whole = omega arith

    number : get_or m (n + 0) 0 * 256 + get_or m (n + 1) 0 ≡ word n 2 m
    number = omega arith

    parts : take n m ++ get_or m (n + 0) 0 ∷ get_or m (n + 1) 0 ∷ [] ≡ take k m
    parts =
        ap₂ (λ (x y : ℕ). take n m ++ get_or m x 0 ∷ get_or m y 0 ∷ []) (add-zero n) (add-one n)
        ∙ sym (append_assoc (take n m) (get_or m n 0 ∷ []) (get_or m (suc n) 0 ∷ []))
        ∙ ap (λ (x : List ℕ). x ++ get_or m (suc n) 0 ∷ []) (sym (take-suc m n 0 (omega arith)))
        ∙ sym (take-suc m (suc n) 0 (omega arith))
        ∙ ap (λ (j : ℕ). take j m) whole
