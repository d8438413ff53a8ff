-- Each slot is judged.
use Rattle.std.proofs.Common.{rules, refl, arith}
use borrow.Author.Tests.{tests}
use Rattle.std.proofs.lemmas.Iterator.{YieldsList-from_range, cases_from_all}
use Rattle.uslp_saved.specs.Reading.{Admitted}
use Rattle.uslp_saved.proofs.Telling.{tells_each}
use Rattle.uslp_saved.proofs.restoring.Octets.admits.Goals as goal

pub returns : goal.returns
returns c =
    let o = c.args.self.now in
    let P = Admitted o.form c.args.channels o.unheard in
    tells_each o.total P c.all.result
    (cases_from_all _ _ _ P (λ i. P i → ⊥) c.all.ensures.ran (YieldsList-from_range 0 o.total o.total refl (omega arith))
    (λ x q k. search (rules, tests)) (λ x q k. search (rules, tests)))
