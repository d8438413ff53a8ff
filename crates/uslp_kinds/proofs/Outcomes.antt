-- What an outcome tells of the checks that it came by, for any calls.
use mathlib.Core.Path.{◌≡◌, refl, sym}
use mathlib.Core.Bool.{Bool, true, false, cond}
use mathlib.Core.List.{List}
use Prim.Native.Nat.{ℕ}
use native.Mathlib.Omega.{arith}
use Rattle.uslp_kinds.specs.Outcome.{Outcome, done, refused, and_then, leaving, only_if_done}

-- a refusal is no `done`
pub not_done : {A : Type 0} {k : ℕ} {vs : List ℕ} {x : A} → refused k vs ≡ done x → ⊥
not_done e = let z : ◌≡◌ {A = ℕ} 0 1 = cc in omega arith

-- a refusal says the same for any result
pub refused_any : {A B : Type 0} {j k : ℕ} {us vs : List ℕ} → ◌≡◌ {A = Outcome A} (refused j us) (refused k vs)
    → ◌≡◌ {A = Outcome B} (refused j us) (refused k vs)
refused_any {j} {k} {us} {vs} e =
    let a : j ≡ k = cc in
    let b : us ≡ vs = cc in
    cc

-- a refusal's number
pub number_one : {A : Type 0} {j k : ℕ} {us vs : List ℕ} → ◌≡◌ {A = Outcome A} (refused j us) (refused k vs) → j ≡ k
number_one e = cc

pub done_one : {A : Type 0} {x y : A} → done x ≡ done y → x ≡ y
done_one e = cc

module _ {A : Type 0} (k : ℕ) (vs : List ℕ) where
  -- what is done has passed its first check, and the others
  pub passed : (b : Bool) (o : Outcome A) {x : A} → cond b (refused k vs) o ≡ done x → (b ≡ false) × (o ≡ done x)
  passed true o e = absurd (not_done e)
  passed false o e = (refl, e)

  -- a refusal of another number came by a later check
  pub later : (b : Bool) (o : Outcome A) {j : ℕ} {ws : List ℕ} → (k ≡ j → ⊥) → cond b (refused k vs) o ≡ refused j ws → (b ≡ false) × (o ≡ refused j ws)
  later true o n e = absurd (n cc)
  later false o n e = (refl, e)

  -- and where there is none, the last check is the one that refused
  pub last : (b : Bool) (x : A) {j : ℕ} {ws : List ℕ} → cond b (refused k vs) (done x) ≡ refused j ws → (b ≡ true) × (vs ≡ ws)
  last true x e = (refl, cc)
  last false x e = absurd (not_done (sym e))

  -- a check that refuses decides in every order that it stands first in
  pub failed : {B : Type 0} (b : Bool) (x : A) (o : Outcome B) {j : ℕ} {ws : List ℕ}
      → cond b (refused k vs) (done x) ≡ refused j ws → cond b (refused k vs) o ≡ refused j ws
  failed true x o e = cc
  failed false x o e = absurd (not_done (sym e))

-- what follows is done, so the call was refused
pub then_refused : {A B : Type 0} (o : Outcome A) (g : A → B) {k : ℕ} {vs : List ℕ} → and_then o (λ (x : A). done (g x)) ≡ refused k vs → o ≡ refused k vs
then_refused (done x) g e = absurd (not_done (sym e))
then_refused (refused j ws) g e = refused_any e

-- a writing that was done leaves the new octets
pub written_done : {A : Type 0} (o : Outcome A) (new found : List ℕ) {x : A} {s : List ℕ}
    → only_if_done o new found ≡ leaving (done x) s → (o ≡ done x) × (new ≡ s)
written_done (done y) new found e = (cc, cc)
written_done (refused k vs) new found e = let z : ◌≡◌ {A = ℕ} 0 1 = cc in absurd (omega arith)

-- and one that was refused leaves those that it found
pub refused_keeps : {A : Type 0} (o : Outcome A) (new found : List ℕ) {k : ℕ} {vs s : List ℕ} → only_if_done o new found ≡ leaving (refused k vs) s → s ≡ found
refused_keeps (done y) new found e = let z : ◌≡◌ {A = ℕ} 0 1 = cc in absurd (omega arith)
refused_keeps (refused j ws) new found e = cc
