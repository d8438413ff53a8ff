-- The test is whether a slot holds the channel.
use Rattle.std.proofs.Common.{rules}
use Rattle.uslp_record.specs.Slots.{holds, find}
use Rattle.uslp_record.proofs.Seek.{finds, found_first}
use Rattle.uslp_record.proofs.ChannelRecord.search.Goals as goal

pub returns : goal.returns
returns c =
    found_first (holds c.args.channel) (find c.args.channel) (finds c.args.channel) _ c.args.self.now c.first_that.ensures.eight _ c.first_that.ensures.found
    (λ x b e. search rules)
