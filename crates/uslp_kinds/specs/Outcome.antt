-- An answer on paper, and how a call's order of checks is written down (docs/RULES.md, section 2).
use Rattle.std.specs.Prelude.{ℕ, Bool, cond, List, [], ◌∷◌}

-- done, with what was asked for; or a refusal's number in the table, with what it carries
pub data Outcome (A : Type 0) : Type 0 where
  done : A → Outcome A
  refused : ℕ → List ℕ → Outcome A

-- what follows a call that was done; a refusal stands
abbrev pub and_then : {A B : Type 0} → Outcome A → (A → Outcome B) → Outcome B
and_then (done x) f = f x
and_then (refused k vs) f = refused k vs

-- what a call that writes leaves: its answer, and the octets of the lent buffer
pub data Written (A : Type 0) : Type 0 where
  leaving : Outcome A → List ℕ → Written A

-- a call that writes: done, it leaves the octets `new`; refused, it leaves those that it found
abbrev pub only_if_done : {A : Type 0} → Outcome A → List ℕ → List ℕ → Written A
only_if_done (done x) new found = leaving (done x) new
only_if_done (refused k vs) new found = leaving (refused k vs) found

-- the first check that fails decides; where none fails, the last word stands
abbrev pub first_of {ℓ} : {A : Type ℓ} → List (Bool × A) → A → A
first_of [] o = o
first_of (c ∷ cs) o = cond c.0 c.1 (first_of cs o)
