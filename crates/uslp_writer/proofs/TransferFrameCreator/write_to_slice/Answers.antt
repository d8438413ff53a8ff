-- It reserves, fills and finishes, which is writing the frame.
use Rattle.std.proofs.Common.{sym, ◌∙◌, ap, refl, ℕ}
use Rattle.uslp_kinds.specs.Outcome.{Outcome, leaving}
use Rattle.uslp_kinds.proofs.Back.{passed_on}
use Rattle.uslp_writer.proofs.Filled.{reserve_refused, fill_finish}
use Rattle.uslp_writer.proofs.TransferFrameCreator.write_to_slice.Goals as goal

pub returns-in_err-reserved : goal.returns-in_err-reserved
returns-in_err-reserved c =
    ap (λ (o : Outcome ℕ). leaving o c.new.new.buf) (passed_on _ _ c.from_residual.ensures.1 refl)
    ∙ sym (reserve_refused c.args.self c.args.data.now c.args.buf.now _ _ _ (sym c.in_err-reserved.ensures))

pub returns : goal.returns
returns c =
    c.finish.ensures ∙ fill_finish c.args.self c.args.data.now c.args.buf.now _ _ (sym c.in_ok-reserved.ensures) c.fill.ensures
