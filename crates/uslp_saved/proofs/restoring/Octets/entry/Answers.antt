-- An entry of the first section or of the second.
use Rattle.std.proofs.Common.{ℕ, ◌+◌, ◌∙◌, ap, arith}
use Rattle.uslp_saved.specs.Reading.{place_of}
use Rattle.uslp_saved.proofs.Fields.{unheard_at, heard_at}
use Rattle.uslp_saved.proofs.Filled.{entry_unheard, entry_heard}
use Rattle.uslp_saved.proofs.restoring.Octets.entry.Goals as goal

pub returns-then-i-self : goal.returns-then-i-self
returns-then-i-self c =
    let o = c.args.self.now in
    let s = o.from.now in
    let at = c.place_of-at.result in
    let spot = c.place_of-at.ensures.0 ∙ ap (λ (n : ℕ). place_of o.form n c.args.i) o.first in
    unheard_at s o.octets at o.form _ c.channel_at-channel.ensures _
    (ap (λ (n : ℕ). at + 3 + n) c.flag_len.ensures.0)
    ∙ entry_unheard o.form s c.args.i at spot (omega (arith, o.first))

pub returns : goal.returns
returns c =
    let o = c.args.self.now in
    let s = o.from.now in
    let at = c.place_of-at.result in
    let spot = c.place_of-at.ensures.0 ∙ ap (λ (n : ℕ). place_of o.form n c.args.i) o.first in
    heard_at s o.octets at o.form _ c.channel_at-channel.ensures _
    (ap (λ (n : ℕ). at + 3 + n) c.flag_len.ensures.0) _ _ (omega (arith, c.flag_len.ensures.0)) c.totals_at.ensures
    ∙ entry_heard o.form s c.args.i at spot (omega (arith, o.first)) (omega (arith, o.all))
