-- Each flag is tested.
use Rattle.std.proofs.Common.{rules, ℕ, ◌<◌, refl, arith, drop, subst}
use borrow.Author.Tests.{tests}
use Rattle.std.proofs.lemmas.Iterator.{YieldsList-from_range, cases_from_all}
use Rattle.uslp_saved.specs.Reading.{first_count, place_of, FlagFits, Tells}
use Rattle.uslp_saved.proofs.Telling.{tells_each}
use Rattle.uslp_saved.proofs.restoring.Octets.flags_fit.Goals as goal

pub returns : goal.returns
returns c =
    let o = c.args.self.now in
    let Fit : ℕ → ℕ → Type 0 = λ n i. FlagFits o.form (drop (place_of o.form n i) o.from.now) in
    let each = tells_each o.total (Fit o.unheard) c.all.result
    (cases_from_all _ _ _ (Fit o.unheard) (λ i. Fit o.unheard i → ⊥) c.all.ensures.ran
    (YieldsList-from_range 0 o.total o.total refl (omega arith))
    (λ x q k. search (rules, tests)) (λ x q k. search (rules, tests))) in
    subst (λ (n : ℕ). Tells c.all.result ((i : ℕ) → i < n → Fit (first_count o.form o.from.now) i)) o.all
    (subst (λ (n : ℕ). Tells c.all.result ((i : ℕ) → i < o.total → Fit n i)) o.first each)
