-- What it is for a promise to settle a call, and to shut an outcome out, said of the function's clauses themselves, at every model: so of the
-- functions over a lent struct, or over a struct that holds a reference. The words are those of `Promise.antt`.
use Rattle.std.specs.Prelude.{ℕ, ◌≡◌, List}
use seplogic.Ra.Ura.{Ura}
use base.Logic.{SProp, ent, emp}
use prog.Memory.{Memory}
use prog.Routine.{Routine}
use types.Logic.{Logic}
use contract.Lifetimes.{Lfts}
use Rattle.std.specs.Borrow.{Bor}
use contract.Monad.{Fun, conj, fact}
use denote.Triple.Entry.{Args, Res}
use denote.Triple.Clauses.{Ended, Clauses, at_exit}
use Rattle.uslp_demands.specs.Promise.{LeftBy, SamePart}

-- the clauses of a function, at each model
abbrev pub Promise : Ended → Type 2
Promise T = (M : Type 1) (𝓤 : Ura M) (𝓛 : Logic 𝓤) → (Memory → SProp 𝓤) → (Routine → Fun 𝓤) → Clauses 𝓤 T

module _ (T : Ended) where
  -- what is said of two outcomes of one call
  abbrev pub Relation : Type 1
  Relation = (κs : Lfts T.signature.lifetimes) (a : Args T.signature κs) → LeftBy T κs a → LeftBy T κs a → Type 0

  pub record AnyTwo (promise : Promise T) (R : Relation) : Type 2 where
    pub total : (M : Type 1) (𝓤 : Ura M) (𝓛 : Logic 𝓤) (mem : Memory → SProp 𝓤) (run : Routine → Fun 𝓤)
        (κs : Lfts T.signature.lifetimes) (a : Args T.signature κs)
        → (g : (promise M 𝓤 𝓛 mem run κs a).ghost) × ent 𝓤 (emp 𝓤) ((promise M 𝓤 𝓛 mem run κs a).requires g)
    pub same : (M : Type 1) (𝓤 : Ura M) (𝓛 : Logic 𝓤) (mem : Memory → SProp 𝓤) (run : Routine → Fun 𝓤)
        (κs : Lfts T.signature.lifetimes) (a : Args T.signature κs) (g : (promise M 𝓤 𝓛 mem run κs a).ghost) (x y : LeftBy T κs a)
        → ent 𝓤
        (conj 𝓤
        ((promise M 𝓤 𝓛 mem run κs a).ensures g x.0 (at_exit T κs a x.1))
        ((promise M 𝓤 𝓛 mem run κs a).ensures g y.0 (at_exit T κs a y.1)))
        (fact 𝓤 (R κs a x y))

  abbrev pub Settles : Promise T → Type 2
  Settles promise = AnyTwo promise (λ κs a x y. x ≡ y)

  abbrev pub Shows : Promise T → ((κs : Lfts T.signature.lifetimes) (a : Args T.signature κs) → Res T.signature κs → Bor (List ℕ)) → Type 2
  Shows promise part = AnyTwo promise (λ κs a x y. SamePart (part κs a x.0) (part κs a y.0))

  -- where the promise allows this outcome of a call with the arguments a, R holds, at every model
  pub record Implies (promise : Promise T) (κs : Lfts T.signature.lifetimes) (a : Args T.signature κs) (x : LeftBy T κs a) (R : Type 0) : Type 2 where
    pub holds : (M : Type 1) (𝓤 : Ura M) (𝓛 : Logic 𝓤) (mem : Memory → SProp 𝓤) (run : Routine → Fun 𝓤) (g : (promise M 𝓤 𝓛 mem run κs a).ghost)
        → ent 𝓤 ((promise M 𝓤 𝓛 mem run κs a).ensures g x.0 (at_exit T κs a x.1)) (fact 𝓤 R)

  -- the promise allows it at no model
  abbrev pub ShutsOut : (promise : Promise T) (κs : Lfts T.signature.lifetimes) (a : Args T.signature κs) → LeftBy T κs a → Type 2
  ShutsOut promise κs a x = Implies promise κs a x ⊥
