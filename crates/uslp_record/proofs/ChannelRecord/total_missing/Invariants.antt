-- The sum is that of the slots that were passed, none above the largest total.
use Rattle.uslp_record.proofs.Tally.{Tallied}
use Rattle.uslp_record.proofs.ChannelRecord.total_missing.Given as goal

abbrev pub invariant-loop-slot : goal.invariant-loop-slot
invariant-loop-slot l = Tallied l.slot-items l.slot-index l.sum
