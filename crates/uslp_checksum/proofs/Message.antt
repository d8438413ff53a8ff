-- Laws of a message's bits and of feeding them.
use mathlib.Core.Path.{◌≡◌, refl, sym, ap, ap₂, ◌∙◌}
use mathlib.Core.Bool.{Bool, true, false, cond}
use mathlib.Core.List.{List, [], ◌∷◌, ◌++◌, append_assoc}
use Prim.Native.Nat.{ℕ, zero, suc, ◌+◌, ◌*◌, ◌%◌, ◌^◌, ◌<◌}
use native.Mathlib.Nat.{mod-one, mod-eq_of_lt, add-mul, mul_assoc, add_assoc}
use native.Mathlib.Numerals.{add-one}
use native.Mathlib.Omega.{arith}
use lib.ListN.{length, take, get_or, length-append}
use lib.Seq.{take-suc}
use lib.Pow.{mod-pow-add, pow-add}
use lib.Bits.{bit_xor}
use Rattle.uslp_checksum.specs.Checksum.{bit, step, feed, lows, bits}
use Rattle.uslp_checksum.proofs.Xor.{bit_value}
use Rattle.uslp_checksum.proofs.Register.{step_lt, zsteps, value, feed_top}

pub feed_append : (a b : List Bool) (r : ℕ) → feed r (a ++ b) ≡ feed (feed r a) b
unfolding feed
feed_append [] b r = refl
feed_append (x ∷ a) b r = feed_append a b (step r x)

pub feed_lt : (w : List Bool) (r : ℕ) → r < 2 ^ 16 → feed r w < 2 ^ 16
unfolding feed
feed_lt [] r h = h
feed_lt (b ∷ w) r h = feed_lt w (step r b) (step_lt r b)

cond_scale : (b : Bool) (n : ℕ) → cond b n 0 ≡ cond b 1 0 * n
cond_scale true n = omega arith
cond_scale false n = omega arith

pub length_lows : (k n : ℕ) → length (lows k n) ≡ k
unfolding lows
length_lows zero n = refl
length_lows (suc k) n = ap suc (length_lows k n)

pub value_lows : (k n : ℕ) → value (lows k n) ≡ n % 2 ^ k
unfolding lows value
value_lows zero n = sym (mod-one n)
value_lows (suc k) n =
    ap₂ (λ (x y : ℕ). cond (bit n k) (2 ^ x) 0 + y) (length_lows k n) (value_lows k n)
    ∙ ap (λ (x : ℕ). x + n % 2 ^ k) (cond_scale (bit n k) (2 ^ k) ∙ ap (λ (x : ℕ). x * 2 ^ k) (sym (bit_value n k)))
    ∙ sym (mod-pow-add n 1 k)
    ∙ ap (λ (x : ℕ). n % 2 ^ x) one
  where
    one : 1 + k ≡ suc k
    one = omega arith

pub value_append : (a b : List Bool) → value (a ++ b) ≡ value a * 2 ^ length b + value b
unfolding value
value_append [] b = omega arith
value_append (x ∷ a) b =
    ap₂ (λ (p q : ℕ). cond x p 0 + q) (ap (λ (n : ℕ). 2 ^ n) (length-append a b) ∙ pow-add 2 (length a) (length b)) (value_append a b)
    ∙ ap (λ (p : ℕ). p + (value a * 2 ^ length b + value b)) scaled
    ∙ sym (add_assoc (cond x (2 ^ length a) 0 * 2 ^ length b) (value a * 2 ^ length b) (value b))
    ∙ ap (λ (p : ℕ). p + value b) (sym (add-mul (cond x (2 ^ length a) 0) (value a) (2 ^ length b)))
  where
    scaled : cond x (2 ^ length a * 2 ^ length b) 0 ≡ cond x (2 ^ length a) 0 * 2 ^ length b
    scaled =
        cond_scale x (2 ^ length a * 2 ^ length b) ∙ sym (mul_assoc (cond x 1 0) (2 ^ length a) (2 ^ length b))
        ∙ ap (λ (p : ℕ). p * 2 ^ length b) (sym (cond_scale x (2 ^ length a)))

-- an octet is added to the top of the register, which then moves by eight places
pub feed_octet : (r o : ℕ) → o < 256 → feed r (lows 8 o) ≡ zsteps 8 (bit_xor r (o * 256))
unfolding lows
feed_octet r o h = feed_top (lows 8 o) 8 r refl ∙ ap (λ (x : ℕ). zsteps 8 (bit_xor r (x * 256))) (value_lows 8 o ∙ mod-eq_of_lt h)

pub bits_append : (m n : List ℕ) → bits (m ++ n) ≡ bits m ++ bits n
unfolding bits
bits_append [] n = refl
bits_append (o ∷ m) n = ap (λ (x : List Bool). lows 8 o ++ x) (bits_append m n) ∙ sym (append_assoc (lows 8 o) (bits m) (bits n))

-- the register after one octet more of a message
pub feed_more : (r : ℕ) (m : List ℕ) (i : ℕ) → i < length m → feed r (bits (take (i + 1) m)) ≡ feed (feed r (bits (take i m))) (lows 8 (get_or m i 0))
unfolding bits lows
feed_more r m i h =
    ap (λ (x : List ℕ). feed r (bits x)) (ap (λ (k : ℕ). take k m) (add-one i) ∙ take-suc m i 0 h)
    ∙ ap (feed r) (bits_append (take i m) (get_or m i 0 ∷ []))
    ∙ feed_append (bits (take i m)) (lows 8 (get_or m i 0) ++ []) r

pub feed_none : (r : ℕ) → feed r (bits []) ≡ r
unfolding bits feed
feed_none r = refl
