-- Laws of `first_of` where each check refuses: any number of them, also in front of others.
use mathlib.Core.Path.{◌≡◌, refl, sym}
use Prim.Native.Nat.{ℕ, zero, suc, ◌≤◌}
use native.Mathlib.Omega.{arith}
use mathlib.Core.Bool.{Bool, true, false}
use mathlib.Core.List.{List, [], ◌∷◌, ◌++◌}
use lib.ListN.{get_or}
use Rattle.uslp_kinds.specs.Outcome.{Outcome, done, refused, first_of}
use Rattle.uslp_kinds.proofs.Outcomes.{not_done, refused_any}

-- a test, and the number and values of the refusal where it holds
abbrev pub Check : Type 0
Check = Bool × ℕ × List ℕ

abbrev pub refusing : {A : Type 0} → List Check → List (Bool × Outcome A)
refusing [] = []
refusing (c ∷ cs) = (c.0, refused c.1 c.2) ∷ refusing cs

-- no test holds
abbrev pub Passing : List Check → Type 0
Passing cs = (i : ℕ) → (get_or cs i (false, 0, [])).0 ≡ false

one_more : (k : ℕ) (vs : List ℕ) (cs : List Check) → Passing cs → Passing ((false, k, vs) ∷ cs)
one_more k vs cs p zero = refl
one_more k vs cs p (suc i) = p i

-- done: no test held, and the last word stands
pub first_done : {A : Type 0} {x y : A} (cs : List Check) → first_of (refusing cs) (done x) ≡ done y → Passing cs × (x ≡ y)
first_done [] e = (λ i. refl, cc)
first_done ((true, k, vs) ∷ cs) e = absurd (not_done e)
first_done ((false, k, vs) ∷ cs) e = (one_more k vs cs (first_done cs e).0, (first_done cs e).1)

-- no number is above n
abbrev pub UpTo : ℕ → List Check → Type 0
UpTo n [] = Unit {0}
UpTo n (c ∷ cs) = (c.1 ≤ n) × UpTo n cs

-- refused: by the number of a check, or as the last word
pub first_up_to : {A : Type 0} (n : ℕ) (cs : List Check) (last : Outcome A) {k : ℕ} {vs : List ℕ}
    → UpTo n cs → (last ≡ refused k vs → k ≤ n) → first_of (refusing cs) last ≡ refused k vs → k ≤ n
first_up_to n [] last u l e = l e
first_up_to n ((true, j, us) ∷ cs) last {k} u l e = let same : j ≡ k = cc in omega (arith, u.0)
first_up_to n ((false, j, us) ∷ cs) last u l e = first_up_to n cs last u.1 l e

-- refused: further checks change nothing
pub first_refused : {A B : Type 0} (x : B) (cs : List Check) (rest : List (Bool × Outcome A)) (last : Outcome A) {k : ℕ} {vs : List ℕ}
    → first_of (refusing cs) (done x) ≡ refused k vs → first_of (refusing cs ++ rest) last ≡ refused k vs
first_refused x [] rest last e = absurd (not_done (sym e))
first_refused x ((true, j, us) ∷ cs) rest last e = refused_any e
first_refused x ((false, j, us) ∷ cs) rest last e = first_refused x cs rest last e

-- passed: further checks decide
pub first_passed : {A : Type 0} (cs : List Check) (rest : List (Bool × Outcome A)) (last : Outcome A)
    → Passing cs → first_of (refusing cs ++ rest) last ≡ first_of rest last
first_passed [] rest last p = refl
first_passed (c ∷ cs) rest last p = rw (p 0) (first_passed cs rest last (λ i. p (suc i)))
