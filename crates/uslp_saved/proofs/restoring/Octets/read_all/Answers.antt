-- Each turn puts the next entry into the next slot.
use Rattle.std.proofs.Common.{◌≡◌, ℕ, suc, ◌+◌, ◌∙◌, ap, arith, take}
use Rattle.uslp_form.specs.Form.{restored}
use Rattle.uslp_saved.specs.Reading.{entries_of_octets}
use Rattle.uslp_saved.proofs.Entries.{entries_count}
use Rattle.uslp_saved.proofs.Filled.{filled_more, filled_all}
use Rattle.uslp_saved.proofs.restoring.Octets.read_all.Goals as goal

pub loop-i-preserved : goal.loop-i-preserved
loop-i-preserved c =
    let l = c.loop-i in
    let o = c.args.self.now in
    let es = entries_of_octets o.form o.from.now in
    let n = entries_count o.form o.from.now in
    let more : suc l.i ≡ l.i + 1 = omega arith in
    filled_more es l.next l.i _ (omega (arith, n, o.all)) (omega (arith, o.few)) l.invariant c.entry.ensures
    ∙ ap (λ (k : ℕ). restored (take k es)) more

pub returns : goal.returns
returns c =
    let o = c.args.self.now in
    filled_all (entries_of_octets o.form o.from.now) c.loop-i.next c.loop-i.i
    (omega (arith, o.all, entries_count o.form o.from.now))
    c.loop-i.invariant
