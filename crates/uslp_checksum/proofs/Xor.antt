-- Laws of `bit_xor` beside those of `lib.Bits`: it is associative, two numbers whose `bit_xor` is 0 are equal, and what it does to a single bit.
use mathlib.Core.Path.{◌≡◌, refl, sym, ap, ap₂, ◌∙◌}
use mathlib.Core.Bool.{Bool, true, false, cond}
use Prim.Native.Nat.{ℕ, zero, suc, ◌+◌, ◌*◌, ◌/◌, ◌%◌, ◌^◌, ◌<◌}
use native.Mathlib.Nat.{mod-lt, add-zero, not-suc-le-zero, le_of_suc-le-suc}
use lib.Arith.{bin_ind, digits_mod}
use lib.Dec.{eqb, lit<}
use lib.Bits.{bit_xor, differ, xor_step, xor_comm, xor_self, xor_zero_r, xor_block, xor_shr}
use Rattle.uslp_checksum.specs.Checksum.{differs, bit}

-- a digit is 0 or 1
digit : (x : ℕ) → x < 2 → (b : Bool) × (x ≡ cond b 1 0)
digit zero h = (false, refl)
digit (suc zero) h = (true, refl)
digit (suc (suc x)) h = absurd (not-suc-le-zero (le_of_suc-le-suc (le_of_suc-le-suc h)))

low_digit : (n : ℕ) → (b : Bool) × (n % 2 ≡ cond b 1 0)
low_digit n = digit (n % 2) (mod-lt n (lit< tt))

differ_lt : (a b : Bool) → differ (cond a 1 0) (cond b 1 0) < 2
differ_lt true true = lit< tt
differ_lt true false = lit< tt
differ_lt false true = lit< tt
differ_lt false false = lit< tt

differ_digits_lt : (m n : ℕ) → differ (m % 2) (n % 2) < 2
differ_digits_lt m n = rw ((low_digit m).1, (low_digit n).1) (differ_lt (low_digit m).0 (low_digit n).0)

differ_assoc : (a b c : Bool) → differ (differ (cond a 1 0) (cond b 1 0)) (cond c 1 0) ≡ differ (cond a 1 0) (differ (cond b 1 0) (cond c 1 0))
differ_assoc true true true = refl
differ_assoc true true false = refl
differ_assoc true false true = refl
differ_assoc true false false = refl
differ_assoc false b c = refl

xor_half : (a b : ℕ) → bit_xor a b / 2 ≡ bit_xor (a / 2) (b / 2)
xor_half a b = xor_shr a b 1

xor_low : (a b : ℕ) → bit_xor a b % 2 ≡ differ (a % 2) (b % 2)
xor_low a b = ap (λ (x : ℕ). x % 2) (xor_step a b) ∙ digits_mod (bit_xor (a / 2) (b / 2)) (differ_digits_lt a b)

pub xor_assoc : (a b c : ℕ) → bit_xor (bit_xor a b) c ≡ bit_xor a (bit_xor b c)
xor_assoc =
    bin_ind (λ (n : ℕ). (b c : ℕ) → bit_xor (bit_xor n b) c ≡ bit_xor n (bit_xor b c)) (λ b c. refl)
    (λ n ih b c.
    xor_step (bit_xor n b) c
    ∙ ap₂ (λ (x y : ℕ). bit_xor x (c / 2) * 2 + differ y (c % 2)) (xor_half n b) (xor_low n b)
    ∙ ap₂ (λ (x y : ℕ). x * 2 + y) (ih (b / 2) (c / 2))
    (rw ((low_digit n).1, (low_digit b).1, (low_digit c).1) (differ_assoc (low_digit n).0 (low_digit b).0 (low_digit c).0))
    ∙ sym (ap₂ (λ (x y : ℕ). bit_xor (n / 2) x * 2 + differ (n % 2) y) (xor_half b c) (xor_low b c))
    ∙ sym (xor_step n (bit_xor b c)))

pub xor_swap : (a b c d : ℕ) → bit_xor (bit_xor a b) (bit_xor c d) ≡ bit_xor (bit_xor a c) (bit_xor b d)
xor_swap a b c d =
    xor_assoc a b (bit_xor c d)
    ∙ ap (bit_xor a) (sym (xor_assoc b c d) ∙ ap (λ (x : ℕ). bit_xor x d) (xor_comm b c) ∙ xor_assoc c b d)
    ∙ sym (xor_assoc a c (bit_xor b d))

pub xor_eq : (a b : ℕ) → bit_xor a b ≡ 0 → a ≡ b
xor_eq a b e =
    sym (xor_zero_r a) ∙ ap (bit_xor a) (sym (xor_self b)) ∙ sym (xor_assoc a b b) ∙ ap (λ (x : ℕ). bit_xor x b) e

pub xor_twice : (a b : ℕ) → bit_xor (a * 2) (b * 2) ≡ bit_xor a b * 2
xor_twice a b =
    ap₂ bit_xor (sym (add-zero (a * 2))) (sym (add-zero (b * 2))) ∙ xor_block 1 a b 0 0 (lit< tt) (lit< tt) ∙ add-zero (bit_xor a b * 2)

-- the digit's test
test_digit : (b : Bool) → eqb (cond b 1 0) 1 ≡ b
test_digit true = refl
test_digit false = refl

pub bit_value : (n k : ℕ) → n / 2 ^ k % 2 ≡ cond (bit n k) 1 0
unfolding bit
bit_value n k = from (low_digit (n / 2 ^ k))
  where
    from : ((b : Bool) × (n / 2 ^ k % 2 ≡ cond b 1 0)) → n / 2 ^ k % 2 ≡ cond (eqb (n / 2 ^ k % 2) 1) 1 0
    from p = p.1 ∙ ap {B = ℕ} (λ (b : Bool). cond b 1 0) (sym (test_digit p.0) ∙ ap (λ (x : ℕ). eqb x 1) (sym p.1))

test_differ : (a b : Bool) → eqb (differ (cond a 1 0) (cond b 1 0)) 1 ≡ differs a b
test_differ true true = refl
test_differ true false = refl
test_differ false true = refl
test_differ false false = refl

pub bit_xor_lem : (a b k : ℕ) → bit (bit_xor a b) k ≡ differs (bit a k) (bit b k)
unfolding bit
bit_xor_lem a b k =
    ap (λ (x : ℕ). eqb (x % 2) 1) (xor_shr a b k) ∙ ap (λ (x : ℕ). eqb x 1) (xor_low (a / 2 ^ k) (b / 2 ^ k))
    ∙ rw (bit_value a k, bit_value b k)
    (test_differ (bit a k) (bit b k) ∙ sym (ap₂ differs (test_digit (bit a k)) (test_digit (bit b k))))
