-- The length decides, then the buffer.
use Rattle.std.proofs.Common.{sym, ◌∙◌, ap, refl, List, ℕ}
use mathlib.Core.Path.{ap₂}
use Rattle.uslp_kinds.specs.Outcome.{Outcome, done, leaving}
use Rattle.uslp_kinds.proofs.Back.{passed_on}
use Rattle.uslp_writer.specs.declared.TransferFrameCreatorWithReservedData.{TransferFrameCreatorWithReservedData}
use Rattle.uslp_writer.proofs.Paths.{reserving_refused, reserving_short, reserving_done}
use Rattle.uslp_writer.proofs.TransferFrameCreatorWithReservedData.new.Goals as goal

pub returns-in_err-expected : goal.returns-in_err-expected
returns-in_err-expected c =
    ap (λ (o : Outcome TransferFrameCreatorWithReservedData). leaving o c.args.buf.now) (passed_on _ _ c.from_residual.ensures.1 refl)
    ∙ sym (reserving_refused c.args.frame c.args.data_size c.args.buf.now (sym c.in_err-expected.ensures))

pub returns-then-found-expected : goal.returns-then-found-expected
returns-then-found-expected c =
    sym (reserving_short c.args.frame c.args.data_size c.args.buf.now (sym c.in_ok-expected.ensures) c.if-found-expected.true)

pub returns : goal.returns
returns c =
    let p = c.put_reserved.ensures in
    ap₂ (λ (k : TransferFrameCreatorWithReservedData) (t : List ℕ). leaving (done k) t) p.0 p.1
    ∙ sym (reserving_done c.args.frame c.args.data_size c.args.buf.now (sym c.in_ok-expected.ensures) c.if-found-expected.false)
