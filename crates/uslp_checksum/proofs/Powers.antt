-- Polynomials with 1 + 1 = 0, as sums of moves: the square of one has the same terms, at twice the places.
use mathlib.Core.Path.{◌≡◌, refl, sym, ap, ap₂, ◌∙◌}
use mathlib.Core.List.{List, [], ◌∷◌}
use Prim.Native.Nat.{ℕ, ◌+◌}
use native.Mathlib.Nat.{add_comm}
use lib.Bits.{bit_xor, xor_self, xor_zero_r}
use Rattle.uslp_checksum.proofs.Xor.{xor_assoc, xor_swap}

abbrev pub Sums : (ℕ → ℕ) → Type 0
Sums f = (a b : ℕ) → f (bit_xor a b) ≡ bit_xor (f a) (f b)

pub sums_zero : (f : ℕ → ℕ) → Sums f → f 0 ≡ 0
sums_zero f h = h 0 0 ∙ xor_self (f 0)

-- what stands twice drops out
pub xor_back : (x y : ℕ) → bit_xor (bit_xor x y) y ≡ x
xor_back x y = xor_assoc x y y ∙ ap (bit_xor x) (xor_self y) ∙ xor_zero_r x

-- 1 and the terms at the places es, where `move e` multiplies by the term at place e
abbrev pub poly : (ℕ → ℕ → ℕ) → List ℕ → ℕ → ℕ
poly move [] x = x
poly move (e ∷ es) x = bit_xor (poly move es x) (move e x)

abbrev pub twice : List ℕ → List ℕ
twice [] = []
twice (e ∷ es) = (e + e) ∷ twice es

module _ (move : ℕ → ℕ → ℕ) (sums : (e : ℕ) → Sums (move e)) (add : (i j x : ℕ) → move i (move j x) ≡ move (i + j) x) where
  pub poly_sums : (es : List ℕ) → Sums (poly move es)
  poly_sums [] a b = refl
  poly_sums (e ∷ es) a b = ap₂ bit_xor (poly_sums es a b) (sums e a b) ∙ xor_swap (poly move es a) (poly move es b) (move e a) (move e b)

  pub poly_moved : (es : List ℕ) (e x : ℕ) → poly move es (move e x) ≡ move e (poly move es x)
  poly_moved [] e x = refl
  poly_moved (d ∷ es) e x =
      ap₂ bit_xor (poly_moved es e x) (add d e x ∙ ap (λ (k : ℕ). move k x) (add_comm d e) ∙ sym (add e d x))
      ∙ sym (sums e (poly move es x) (move d x))

  -- the mixed terms come twice
  pub square : (es : List ℕ) (x : ℕ) → poly move es (poly move es x) ≡ poly move (twice es) x
  square [] x = refl
  square (e ∷ es) x =
      let p = poly move es x in
      ap₂ bit_xor (poly_sums es p (move e x) ∙ ap (bit_xor (poly move es p)) (poly_moved es e x)) (sums e p (move e x))
      ∙ sym (xor_assoc (bit_xor (poly move es p) (move e p)) (move e p) (move e (move e x)))
      ∙ ap₂ bit_xor (xor_back (poly move es p) (move e p) ∙ square es x) (add e e x)

  -- where a polynomial gives 0, its square does
  pub square_zero : (es : List ℕ) (x : ℕ) → poly move es x ≡ 0 → poly move (twice es) x ≡ 0
  square_zero es x e = sym (square es x) ∙ ap (poly move es) e ∙ sums_zero (poly move es) (poly_sums es)
