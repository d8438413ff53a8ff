-- Laws of the register: a step is linear over `bit_xor`, only 0 steps to 0, and feeding at most 16 bits is adding them to the top and stepping with zeros.
use mathlib.Core.Path.{◌≡◌, refl, sym, ap, ap₂, ◌∙◌, subst}
use mathlib.Core.Bool.{Bool, true, false, cond}
use mathlib.Core.List.{List, [], ◌∷◌}
use Prim.Native.Nat.{ℕ, zero, suc, ◌+◌, ◌*◌, ◌/◌, ◌%◌, ◌^◌, ◌<◌}
use native.Mathlib.Nat.{mod-lt, mod-eq_of_lt, add-mul, mul_assoc, zero-mul, pow-suc, add-suc, suc-add}
use native.Mathlib.Omega.{arith}
use lib.ListN.{length}
use lib.Pow.{pow_pos, pow-add, shl_lt}
use lib.Dec.{lit<}
use lib.Bits.{bit_xor, xor_lt, xor_zero_r, xor_mod, xor_shifted}
use Rattle.uslp_checksum.specs.Checksum.{differs, bit, step, feed}
use Rattle.uslp_checksum.proofs.Xor.{xor_assoc, xor_swap, xor_eq, xor_twice, bit_value, bit_xor_lem}

-- what a step adds
abbrev pub add : Bool → ℕ
add d = cond d 0x1021 0

pub step_is : (r : ℕ) (b : Bool) → step r b ≡ bit_xor (r * 2 % 2 ^ 16) (add (differs (bit r 15) b))
unfolding step
step_is r b = at (differs (bit r 15) b)
  where
    at : (d : Bool) → cond d (bit_xor (r * 2 % 2 ^ 16) 0x1021) (r * 2 % 2 ^ 16) ≡ bit_xor (r * 2 % 2 ^ 16) (add d)
    at true = refl
    at false = sym (xor_zero_r (r * 2 % 2 ^ 16))

add_differs : (s t : Bool) → add (differs s t) ≡ bit_xor (add s) (add t)
add_differs true true = refl
add_differs true false = refl
add_differs false true = refl
add_differs false false = refl

differs_swap : (a b c d : Bool) → differs (differs a b) (differs c d) ≡ differs (differs a c) (differs b d)
differs_swap true true true true = refl
differs_swap true true true false = refl
differs_swap true true false true = refl
differs_swap true true false false = refl
differs_swap true false true true = refl
differs_swap true false true false = refl
differs_swap true false false true = refl
differs_swap true false false false = refl
differs_swap false true true true = refl
differs_swap false true true false = refl
differs_swap false true false true = refl
differs_swap false true false false = refl
differs_swap false false true true = refl
differs_swap false false true false = refl
differs_swap false false false true = refl
differs_swap false false false false = refl

add_lt : (d : Bool) → add d < 2 ^ 16
add_lt true = lit< tt
add_lt false = lit< tt

pub step_lt : (r : ℕ) (b : Bool) → step r b < 2 ^ 16
step_lt r b = rw step_is (xor_lt 16 (r * 2 % 2 ^ 16) (add (differs (bit r 15) b)) (mod-lt (r * 2) (pow_pos 16)) (add_lt (differs (bit r 15) b)))

-- the step of a sum is the sum of the steps
pub step_xor : (r s : ℕ) (b c : Bool) → step (bit_xor r s) (differs b c) ≡ bit_xor (step r b) (step s c)
step_xor r s b c =
    step_is (bit_xor r s) (differs b c)
    ∙ ap₂ (λ (x : ℕ) (d : Bool). bit_xor x (add d))
    (ap (λ (x : ℕ). x % 2 ^ 16) (sym (xor_twice r s)) ∙ xor_mod (r * 2) (s * 2) 16)
    (ap (λ (t : Bool). differs t (differs b c)) (bit_xor_lem r s 15) ∙ differs_swap (bit r 15) (bit s 15) b c)
    ∙ ap (bit_xor (bit_xor (r * 2 % 2 ^ 16) (s * 2 % 2 ^ 16))) (add_differs (differs (bit r 15) b) (differs (bit s 15) c))
    ∙ xor_swap (r * 2 % 2 ^ 16) (s * 2 % 2 ^ 16) (add (differs (bit r 15) b)) (add (differs (bit s 15) c))
    ∙ sym (ap₂ bit_xor (step_is r b) (step_is s c))

abbrev pub zstep : ℕ → ℕ
zstep r = step r false

pub zstep_xor : (r s : ℕ) → zstep (bit_xor r s) ≡ bit_xor (zstep r) (zstep s)
zstep_xor r s = step_xor r s false false

differs_false : (b : Bool) → differs b false ≡ b
differs_false true = refl
differs_false false = refl

-- while the top bit is 0 a step doubles
pub zstep_small : (r : ℕ) → r < 2 ^ 15 → zstep r ≡ r * 2
zstep_small r h =
    step_is r false ∙ ap (λ (d : Bool). bit_xor (r * 2 % 2 ^ 16) (add d)) (differs_false (bit r 15) ∙ top (bit r 15) (bit_value r 15))
    ∙ xor_zero_r (r * 2 % 2 ^ 16) ∙ mod-eq_of_lt (omega arith)
  where
    top : (d : Bool) → r / 2 ^ 15 % 2 ≡ cond d 1 0 → d ≡ false
    top true e = absurd (omega arith)
    top false e = refl

-- only 0 steps to 0
pub zstep_zero : (r : ℕ) → r < 2 ^ 16 → zstep r ≡ 0 → r ≡ 0
zstep_zero r h e =
    at (bit r 15) (bit_value r 15) (ap (λ (d : Bool). bit_xor (r * 2 % 2 ^ 16) (add d)) (sym (differs_false (bit r 15))) ∙ sym (step_is r false) ∙ e)
  where
    at : (d : Bool) → r / 2 ^ 15 % 2 ≡ cond d 1 0 → bit_xor (r * 2 % 2 ^ 16) (add d) ≡ 0 → r ≡ 0
    at true t z = let q : r * 2 % 2 ^ 16 ≡ 0x1021 = xor_eq (r * 2 % 2 ^ 16) 0x1021 z in omega arith
    at false t z =
        let q : r * 2 % 2 ^ 16 ≡ 0 = xor_eq (r * 2 % 2 ^ 16) 0 z in
        let top : r / 2 ^ 15 % 2 ≡ r / 2 ^ 15 = mod-eq_of_lt (omega arith) in
        let low : r * 2 % 2 ^ 16 ≡ r * 2 = mod-eq_of_lt (omega arith) in
        omega arith

abbrev pub zsteps : ℕ → ℕ → ℕ
zsteps zero r = r
zsteps (suc n) r = zsteps n (zstep r)

pub zsteps_xor : (n r s : ℕ) → zsteps n (bit_xor r s) ≡ bit_xor (zsteps n r) (zsteps n s)
zsteps_xor zero r s = refl
zsteps_xor (suc n) r s = ap (zsteps n) (zstep_xor r s) ∙ zsteps_xor n (zstep r) (zstep s)

pub zsteps_zero : (n r : ℕ) → r < 2 ^ 16 → zsteps n r ≡ 0 → r ≡ 0
zsteps_zero zero r h e = e
zsteps_zero (suc n) r h e = zstep_zero r h (zsteps_zero n (zstep r) (step_lt r false) e)

pub step_top : (r : ℕ) (b : Bool) → step r b ≡ zstep (bit_xor r (cond b 0x8000 0))
unfolding step bit
step_top r true = sym (step_xor r 0x8000 true true ∙ xor_zero_r (step r true))
step_top r false = ap zstep (sym (xor_zero_r r))

-- the number whose binary digits are w
unfoldable pub value : List Bool → ℕ
value [] = 0
value (b ∷ w) = cond b (2 ^ length w) 0 + value w

pub value_lt : (w : List Bool) → value w < 2 ^ length w
unfolding value
value_lt [] = lit< tt
value_lt (true ∷ w) = let h = value_lt w in omega (arith, pow-suc 2 (length w))
value_lt (false ∷ w) = let h = value_lt w in omega (arith, pow-suc 2 (length w))

-- feeding at most 16 bits: they are added to the top, and then zeros are fed
pub feed_top : (w : List Bool) (j r : ℕ) → j + length w ≡ 16 → feed r w ≡ zsteps (length w) (bit_xor r (value w * 2 ^ j))
unfolding feed value
feed_top [] j r e = sym (ap (bit_xor r) (zero-mul (2 ^ j)) ∙ xor_zero_r r)
feed_top (b ∷ w) j r e =
    feed_top w (suc j) (step r b) (sym (add-suc j (length w) ∙ sym (suc-add j (length w))) ∙ e)
    ∙ ap (zsteps (length w))
    (ap₂ bit_xor (step_top r b) (ap (λ (x : ℕ). value w * x) (pow-suc 2 j) ∙ sym (mul_assoc (value w) (2 ^ j) 2) ∙ sym (zstep_small (value w * 2 ^ j) low))
    ∙ sym (zstep_xor (bit_xor r (cond b 0x8000 0)) (value w * 2 ^ j))
    ∙ ap zstep (xor_assoc r (cond b 0x8000 0) (value w * 2 ^ j) ∙ ap (bit_xor r) (joined b)))
  where
    fifteen : length w + j ≡ 15
    fifteen = omega arith

    low : value w * 2 ^ j < 2 ^ 15
    low = subst (λ (k : ℕ). value w * 2 ^ j < 2 ^ k) fifteen (shl_lt (length w) j (value_lt w))

    joined : (d : Bool) → bit_xor (cond d 0x8000 0) (value w * 2 ^ j) ≡ (cond d (2 ^ length w) 0 + value w) * 2 ^ j
    joined true =
        xor_shifted 1 15 (value w * 2 ^ j) low
        ∙ ap (λ (x : ℕ). x + value w * 2 ^ j) (ap (λ (k : ℕ). 2 ^ k) (sym fifteen) ∙ pow-add 2 (length w) j)
        ∙ sym (add-mul (2 ^ length w) (value w) (2 ^ j))
    joined false = ap (λ (x : ℕ). x * 2 ^ j) (omega arith)
