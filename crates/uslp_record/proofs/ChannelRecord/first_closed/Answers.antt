-- The test is whether a slot is closed.
use Rattle.std.proofs.Common.{rules}
use Rattle.uslp_record.specs.Slots.{is_closed, vacant}
use Rattle.uslp_record.proofs.Seek.{vacates, found_first}
use Rattle.uslp_record.proofs.ChannelRecord.first_closed.Goals as goal

pub returns : goal.returns
returns c =
    found_first is_closed vacant vacates _ c.args.self.now c.first_that.ensures.eight _ c.first_that.ensures.found
    (λ x b e. search rules)
