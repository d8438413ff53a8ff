-- What a turn of each function's loop does to the register.
use mathlib.Core.Path.{◌≡◌, refl, sym, ap, ap₂, ◌∙◌}
use mathlib.Core.Bool.{Bool, true, false, cond}
use Prim.Native.Nat.{ℕ, zero, suc, ◌+◌, ◌*◌, ◌/◌, ◌%◌, ◌^◌, ◌<◌}
use native.Mathlib.Nat.{mod-lt, mul-one, mul_assoc, mul-mod_left, add-zero, pow-suc, lt_of_lt_of_le}
use lib.Pow.{pow_mono, split, mod-pow-add, shl-shr}
use lib.Dec.{lit<}
use native.Mathlib.Numerals.{add-one}
use native.Mathlib.Omega.{arith}
use lib.Bits.{bit_and, bit_xor, and_high, xor_block, xor_zero_r, xor_shifted, xor_comm}
use Rattle.uslp_checksum.specs.Checksum.{differs, bit, step}
use Rattle.uslp_checksum.proofs.Xor.{bit_value}
use Rattle.uslp_checksum.proofs.Register.{zstep, zstep_small, zsteps, zsteps_xor}

pub zsteps_last : (n r : ℕ) → zsteps (n + 1) r ≡ zstep (zsteps n r)
zsteps_last n r = ap (λ (k : ℕ). zsteps k r) (add-one n) ∙ last n r
  where
    last : (n r : ℕ) → zsteps (suc n) r ≡ zstep (zsteps n r)
    last zero r = refl
    last (suc n) r = last n (zstep r)

-- one place, by a test of the top bit
module _ (r : ℕ) where
  at_top : (b : Bool) → bit r 15 ≡ b → zstep r ≡ cond (differs b false) (bit_xor (r * 2 % 2 ^ 16) 0x1021) (r * 2 % 2 ^ 16)
  unfolding step
  at_top b e = ap (λ (d : Bool). cond (differs d false) (bit_xor (r * 2 % 2 ^ 16) 0x1021) (r * 2 % 2 ^ 16)) e

  top : (b : Bool) → bit r 15 ≡ b → bit_and r 0x8000 ≡ cond b 1 0 * 0x8000
  top b e = and_high r 1 15 ∙ ap (λ (x : ℕ). x * 0x8000) (bit_value r 15 ∙ ap (λ (d : Bool). cond d 1 0) e)

  pub moved_set : (bit_and r 0x8000 ≡ 0 → ⊥) → bit_xor (r * 2 % 2 ^ 16) 0x1021 ≡ zstep r
  moved_set h = by (bit r 15) refl
    where
      by : (b : Bool) → bit r 15 ≡ b → bit_xor (r * 2 % 2 ^ 16) 0x1021 ≡ zstep r
      by true e = sym (at_top true e)
      by false e = absurd (h (top false e))

  pub moved_clear : bit_and r 0x8000 ≡ 0 → r * 2 % 2 ^ 16 ≡ zstep r
  moved_clear h = by (bit r 15) refl
    where
      by : (b : Bool) → bit r 15 ≡ b → r * 2 % 2 ^ 16 ≡ zstep r
      by true e = absurd (omega (arith, top true e))
      by false e = sym (at_top false e)

-- while nothing leaves at the top, a step doubles
pub zsteps_small : (n j r : ℕ) → j + n ≡ 16 → r < 2 ^ j → zsteps n r ≡ r * 2 ^ n
zsteps_small zero j r e h = sym (mul-one r)
zsteps_small (suc n) j r e h =
    ap (zsteps n) (zstep_small r (lt_of_lt_of_le h (pow_mono {j = 15} (omega arith))))
    ∙ zsteps_small n (suc j) (r * 2) (omega arith) (omega (arith, pow-suc 2 j))
    ∙ mul_assoc r 2 (2 ^ n) ∙ ap (λ (x : ℕ). r * x) (omega (arith, pow-suc 2 n))

-- the register's upper octet and the message's go through the table, and the lower octet moves up
pub by_table : (r o : ℕ) → zsteps 8 (bit_xor r (o * 256)) ≡ bit_xor (r * 256 % 2 ^ 16) (zsteps 8 (bit_xor (r / 256) o * 256))
by_table r o =
    ap (zsteps 8)
    (ap₂ bit_xor (sym (split r 8)) (sym (add-zero (o * 256)))
    ∙ xor_block 8 (r / 256) o (r % 256) 0 low (lit< tt)
    ∙ ap (λ (x : ℕ). bit_xor (r / 256) o * 256 + x) (xor_zero_r (r % 256))
    ∙ sym (xor_shifted (bit_xor (r / 256) o) 8 (r % 256) low) ∙ xor_comm (bit_xor (r / 256) o * 256) (r % 256))
    ∙ zsteps_xor 8 (r % 256) (bit_xor (r / 256) o * 256)
    ∙ ap (λ (x : ℕ). bit_xor x (zsteps 8 (bit_xor (r / 256) o * 256))) (zsteps_small 8 8 (r % 256) refl low ∙ sym moved)
  where
    low : r % 256 < 256
    low = mod-lt r (lit< tt)

    moved : r * 256 % 2 ^ 16 ≡ r % 256 * 256
    moved =
        mod-pow-add (r * 256) 8 8
        ∙ ap₂ (λ (x y : ℕ). x % 256 * 256 + y) (shl-shr r 8) (mul-mod_left r 256) ∙ add-zero (r % 256 * 256)
