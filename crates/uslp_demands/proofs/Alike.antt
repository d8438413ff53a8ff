-- Two outcomes whose parts are equal are equal.
use mathlib.Core.Path.{◌≡◌}
use Rattle.uslp_kinds.proofs.Back.{paper_one}
use Rattle.std.specs.Prelude.{Result}
use Rattle.uslp_kinds.specs.Answers.{paper}
use Rattle.uslp_kinds.specs.declared.Refusal.{Refusal}

pub alike : {A B : Type 0} {x y : A × B} → x.0 ≡ y.0 → x.1 ≡ y.1 → x ≡ y
alike p q = λ i. (p i, q i)

-- two answers that say the same on paper are the same, where nothing is carried
pub done_alike : {x y : Result (Unit {0}) Refusal} → paper x ≡ paper y → x ≡ y
done_alike = paper_one
