-- A promise that asks nothing and says one fact Q: what follows from Q of two outcomes is promised of any two, and an outcome of which Q is
-- absurd is shut out.
use seplogic.Ra.Ura.{Ura}
use base.Logic.{ent, emp, id⊢}
use contract.Lifetimes.{Lfts}
use contract.Monad.{conj, conj_l, conj_r, fact, fact_i, fact_mono, fact_use}
use denote.Triple.Entry.{Args, Res}
use denote.Triple.Clauses.{Ended, AtExit, at_exit}
use Rattle.uslp_demands.specs.Promise.{LeftBy}
use Rattle.uslp_demands.specs.Clause.{Promise, Relation, AnyTwo, Implies, ShutsOut}

of_facts : {M : Type 1} (𝓤 : Ura M) {P Q R : Type 0} → (P → Q → R) → ent 𝓤 (conj 𝓤 (fact 𝓤 P) (fact 𝓤 Q)) (fact 𝓤 R)
of_facts 𝓤 {P} {Q} {R} f =
    fact_use 𝓤 P (conj_l 𝓤 (fact 𝓤 P) (fact 𝓤 Q))
    (λ p. fact_use 𝓤 Q (conj_r 𝓤 (fact 𝓤 P) (fact 𝓤 Q)) (λ q. fact_i 𝓤 R (conj 𝓤 (fact 𝓤 P) (fact 𝓤 Q)) (f p q)))

module _ (T : Ended) (Q : (κs : Lfts T.signature.lifetimes) (a : Args T.signature κs) → Res T.signature κs → AtExit T κs → Type 0) where
  abbrev says : Promise T
  says M 𝓤 𝓛 mem run κs a = record { ghost = Unit {0}; requires = λ _. emp 𝓤; ensures = λ _ r e. fact 𝓤 (Q κs a r e) }

  abbrev Of : (κs : Lfts T.signature.lifetimes) (a : Args T.signature κs) → LeftBy T κs a → Type 0
  Of κs a x = Q κs a x.0 (at_exit T κs a x.1)

  pub by_fact : {R : Relation T}
      → ((κs : Lfts T.signature.lifetimes) (a : Args T.signature κs) (x y : LeftBy T κs a) → Of κs a x → Of κs a y → R κs a x y) → AnyTwo T says R
  by_fact f = record { total = λ M 𝓤 𝓛 mem run κs a. (tt, id⊢ 𝓤 (emp 𝓤)); same = λ M 𝓤 𝓛 mem run κs a g x y. of_facts 𝓤 (f κs a x y) }

  pub implies : {κs : Lfts T.signature.lifetimes} {a : Args T.signature κs} {x : LeftBy T κs a} {R : Type 0} → (Of κs a x → R) → Implies T says κs a x R
  implies {κs} {a} {x} {R} f = record { holds = λ M 𝓤 𝓛 mem run g. fact_mono 𝓤 (Of κs a x) R f }

  pub shut : {κs : Lfts T.signature.lifetimes} {a : Args T.signature κs} {x : LeftBy T κs a} → (Of κs a x → ⊥) → ShutsOut T says κs a x
  shut = implies
