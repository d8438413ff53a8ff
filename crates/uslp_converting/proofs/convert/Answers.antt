-- What is restored where nothing was is saved.
use Rattle.std.proofs.Common.{◌≡◌, refl, ℕ, List, sym, subst}
use Rattle.std.specs.Prelude.{Result}
use Rattle.uslp_kinds.specs.Answers.{paper}
use Rattle.uslp_kinds.specs.Outcome.{Outcome, leaving}
use Rattle.uslp_kinds.specs.declared.Refusal.{Refusal}
use Rattle.uslp_kinds.proofs.Back.{passed_on}
use Rattle.uslp_record.specs.Record.{keeping}
use Rattle.uslp_record.specs.declared.ChannelRecord.{ChannelRecord}
use Rattle.uslp_form.specs.declared.Form.{Form}
use Rattle.uslp_form.specs.Saved.{Restoring, Converting}
use Rattle.uslp_form.proofs.Converted.{converting_restored, converting_unrestored}
use Rattle.uslp_converting.proofs.convert.Goals as goal

-- the answer that was told
told_as : (f : Form) (s : List ℕ) (r q : ChannelRecord) {x y : Result (Unit {0}) Refusal} → x ≡ y → Restoring f r s (keeping (paper x) q)
    → Restoring f r s (keeping (paper y) q)
told_as f s r q e = subst (λ (z : Result (Unit {0}) Refusal). Restoring f r s (keeping (paper z) q)) e

pub returns-in_err-restored : goal.returns-in_err-restored
returns-in_err-restored c =
    let a = c.args in
    let s = a.from.now in
    let b = a.to.now in
    subst (λ (o : Outcome ℕ). Converting a.was a.becomes s b (leaving o b)) (sym (passed_on _ _ c.from_residual.ensures.1 refl))
    (converting_unrestored a.was a.becomes s b (told_as a.was s _ _ (c.in_err-restored.was) c.restore-restored.ensures))

pub returns : goal.returns
returns c =
    let a = c.args in
    let s = a.from.now in
    let b = a.to.now in
    subst (Converting a.was a.becomes s b) (sym c.save.ensures)
    (converting_restored a.was a.becomes s b (told_as a.was s _ _ (c.in_ok-restored.was) c.restore-restored.ensures))
