-- Feeding the low bits of a number: it takes sums to sums, and a number's bits can be fed in parts.
use mathlib.Core.Path.{◌≡◌, refl, sym, ap, ap₂, ◌∙◌}
use mathlib.Core.List.{List, [], ◌∷◌, ◌++◌}
use mathlib.Core.Bool.{Bool}
use Prim.Native.Nat.{ℕ, zero, suc, ◌+◌, ◌*◌, ◌/◌, ◌%◌, ◌^◌, ◌≤◌, ◌<◌}
use native.Mathlib.Nat.{le_refl, add_comm, add-zero, zero-add, suc-add, add-suc, zero-div, div-one, div-eq_of_lt, mul-mod_left}
use native.Mathlib.Numerals.{add-one}
use native.Mathlib.Omega.{arith}
use lib.ListN.{length, take, drop, get_or, take-append-drop}
use lib.Seq.{length-take-le}
use lib.Pow.{shl-shr, shr-shr, high, low, field, mod-mod-pow}
use lib.Dec.{eqb}
use lib.Bits.{bit_xor}
use Rattle.std.specs.Int.{w64, from_be_bytes}
use Rattle.std.specs.Simd.{first_chunks}
use Rattle.uslp_octets.specs.Octets.{word, AreOctets}
use Rattle.uslp_octets.proofs.Laws.{word_take, word_drop, word_fits}
use Rattle.uslp_checksum.specs.Checksum.{bit, step, feed, lows, bits}
use Rattle.uslp_checksum.proofs.Xor.{bit_xor_lem}
use Rattle.uslp_checksum.proofs.Register.{step_xor}
use Rattle.uslp_checksum.proofs.Message.{feed_append, feed_more, feed_none, bits_append}
use Rattle.uslp_checksum.proofs.Powers.{Sums, sums_zero}

pub feed_sums : (k r s a b : ℕ) → feed (bit_xor r s) (lows k (bit_xor a b)) ≡ bit_xor (feed r (lows k a)) (feed s (lows k b))
unfolding feed lows
feed_sums zero r s a b = refl
feed_sums (suc k) r s a b =
    ap (λ (x : ℕ). feed x (lows k (bit_xor a b))) (ap (step (bit_xor r s)) (bit_xor_lem a b k) ∙ step_xor r s (bit a k) (bit b k))
    ∙ feed_sums k (step r (bit a k)) (step s (bit b k)) a b

bit_shr : (n j k : ℕ) → bit n (j + k) ≡ bit (n / 2 ^ k) j
unfolding bit
bit_shr n j k = ap (λ (x : ℕ). eqb (x % 2) 1) (ap (λ (i : ℕ). n / 2 ^ i) (add_comm j k) ∙ sym (shr-shr n k j))

lows_split : (j k n : ℕ) → lows (j + k) n ≡ lows j (n / 2 ^ k) ++ lows k n
unfolding lows
lows_split zero k n = ap (λ (i : ℕ). lows i n) (zero-add k)
lows_split (suc j) k n = ap (λ (i : ℕ). lows i n) (suc-add j k) ∙ ap₂ (λ (b : Bool) (l : List Bool). b ∷ l) (bit_shr n j k) (lows_split j k n)

pub feed_split : (j k r n : ℕ) → feed r (lows (j + k) n) ≡ feed (feed r (lows j (n / 2 ^ k))) (lows k n)
feed_split j k r n = ap (feed r) (lows_split j k n) ∙ feed_append (lows j (n / 2 ^ k)) (lows k n) r

bit_mod : (n j k : ℕ) → bit (n % 2 ^ (suc j + k)) k ≡ bit n k
unfolding bit
bit_mod n j k =
    ap (λ (x : ℕ). eqb (x % 2) 1) (field n (suc j) k ∙ ap (λ (i : ℕ). n / 2 ^ k % 2 ^ i) (sym (add-one j)))
    ∙ ap (λ (x : ℕ). eqb x 1) (mod-mod-pow (n / 2 ^ k) j 1)

-- higher bits do not matter
pub lows_mod : (j k n : ℕ) → lows k (n % 2 ^ (j + k)) ≡ lows k n
unfolding lows
lows_mod j zero n = refl
lows_mod j (suc k) n =
    ap (λ (i : ℕ). bit (n % 2 ^ i) k ∷ lows k (n % 2 ^ i)) (add-suc j k ∙ sym (suc-add j k))
    ∙ ap₂ (λ (b : Bool) (l : List Bool). b ∷ l) (bit_mod n j k) (lows_mod (suc j) k n)

-- the register moves by k places: it is fed zeros
unfoldable pub up : ℕ → ℕ → ℕ
up k r = feed r (lows k 0)

pub up_sums : (k : ℕ) → Sums (up k)
unfolding up
up_sums k a b = feed_sums k a b 0 0

pub up_add : (i j r : ℕ) → up i (up j r) ≡ up (i + j) r
unfolding up
up_add i j r =
    sym (ap (λ (k : ℕ). feed r (lows k 0)) (add_comm i j) ∙ feed_split j i r 0
    ∙ ap (λ (x : ℕ). feed (feed r (lows j x)) (lows i 0)) (zero-div (2 ^ i)))

-- zeros before a number do not matter
pub feed_lead : (j k n : ℕ) → n < 2 ^ k → feed 0 (lows (j + k) n) ≡ feed 0 (lows k n)
unfolding up
feed_lead j k n h =
    feed_split j k 0 n
    ∙ ap (λ (x : ℕ). feed (feed 0 (lows j x)) (lows k n)) (div-eq_of_lt h) ∙ ap (λ (x : ℕ). feed x (lows k n)) (sums_zero (up j) (up_sums j))

-- zeros behind a number move the register
pub feed_shifted : (k s r n : ℕ) → feed r (lows (k + s) (n * 2 ^ s)) ≡ up s (feed r (lows k n))
unfolding up
feed_shifted k s r n =
    feed_split k s r (n * 2 ^ s)
    ∙ ap₂ (λ (x : ℕ) (l : List Bool). feed (feed r (lows k x)) l) (shl-shr n s)
    (sym (lows_mod 0 s (n * 2 ^ s)) ∙ ap (lows s) (ap (λ (i : ℕ). n * 2 ^ s % 2 ^ i) (zero-add s) ∙ mul-mod_left n (2 ^ s)))

-- k octets more of a message, as one number
module _ (m : List ℕ) (oct : AreOctets m) (i : ℕ) where
  pub feed_word : (r k : ℕ) → i + k ≤ length m → feed r (bits (take (i + k) m)) ≡ feed (feed r (bits (take i m))) (lows (8 * k) (word i k m))
  unfolding feed lows
  feed_word r zero h = ap (λ (j : ℕ). feed r (bits (take j m))) (add-zero i)
  feed_word r (suc k) h =
      let o = get_or m (i + k) 0 in
      let n = word i k m in
      let next : i + suc k ≡ i + k + 1 = omega arith in
      let places : 8 * k + 8 ≡ 8 * suc k = omega arith in
      ap (λ (j : ℕ). feed r (bits (take j m))) next ∙ feed_more r m (i + k) (omega arith)
      ∙ ap (λ (x : ℕ). feed x (lows 8 o)) (feed_word r k (omega arith))
      ∙ ap₂ (λ (x : ℕ) (l : List Bool). feed (feed (feed r (bits (take i m))) (lows (8 * k) x)) l) (sym (high n 8 (oct (i + k))))
      (ap (lows 8) (sym (low n 8 (oct (i + k)))) ∙ lows_mod 0 8 (n * 256 + o))
      ∙ sym (feed_split (8 * k) 8 (feed r (bits (take i m))) (n * 256 + o))
      ∙ ap (λ (j : ℕ). feed (feed r (bits (take i m))) (lows j (n * 256 + o))) places

  -- a number's first octets
  pub word_front : (k j : ℕ) → word i (k + j) m / 2 ^ (8 * j) ≡ word i k m
  word_front k zero = ap (λ (x : ℕ). word i x m / 1) (add-zero k) ∙ div-one (word i k m)
  word_front k (suc j) =
      let places : 8 * suc j ≡ 8 + 8 * j = omega arith in
      ap₂ (λ (x y : ℕ). word i x m / 2 ^ y) (add-suc k j) places ∙ sym (shr-shr (word i (suc (k + j)) m) 8 (8 * j))
      ∙ ap (λ (x : ℕ). x / 2 ^ (8 * j)) (high (word i (k + j) m) 8 (oct (i + (k + j)))) ∙ word_front k j

-- the first k octets as a number, and what is left to feed behind them
module _ (s : List ℕ) (oct : AreOctets s) (k : ℕ) (room : k ≤ length s) where
  pub front_number : k ≤ 8 → word 0 (length (take k s)) (take k s) % 2 ^ 64 ≡ word 0 k s
  front_number h =
      ap (λ (j : ℕ). word 0 j (take k s) % 2 ^ 64) (length-take-le k s room)
      ∙ ap (λ (x : ℕ). x % 2 ^ 64) (word_take 0 k k s (omega arith)) ∙ word_fits s 0 oct k h

  pub front_fed : (r : ℕ) → feed (feed r (lows (8 * k) (word 0 k s))) (bits (drop k s)) ≡ feed r (bits s)
  front_fed r =
      ap (λ (x : ℕ). feed x (bits (drop k s)))
      (ap (λ (x : ℕ). feed x (lows (8 * k) (word 0 k s))) (sym (feed_none r)) ∙ sym (feed_word s oct 0 r k (omega arith))
      ∙ ap (λ (j : ℕ). feed r (bits (take j s))) (zero-add k))
      ∙ sym (feed_append (bits (take k s)) (bits (drop k s)) r)
      ∙ ap (feed r) (sym (bits_append (take k s) (drop k s)))
      ∙ ap (λ (x : List ℕ). feed r (bits x)) (take-append-drop k s)

-- eight octets, as std makes a number of them
pub big_endian : (s : List ℕ) → from_be_bytes w64 s ≡ word 0 8 s
big_endian s = omega arith

-- the chunk at place i, as a number
pub chunk_word : (k i : ℕ) (s : List ℕ) → i < k → word 0 8 (get_or (first_chunks 8 k s) i []) ≡ word (8 * i) 8 s
chunk_word zero i s h = absurd (omega arith)
chunk_word (suc k) zero s h = word_take 0 8 8 s (le_refl 8)
chunk_word (suc k) (suc i) s h =
    let next : 8 + 8 * i ≡ 8 * suc i = omega arith in
    chunk_word k i (drop 8 s) (omega arith) ∙ word_drop 8 (8 * i) 8 s ∙ ap (λ (j : ℕ). word j 8 s) next
