-- No slot that was passed passes the test.
use Rattle.std.proofs.Common.{ℕ, ◌-◌, ◌<◌, ◌≤◌, false}
use Rattle.uslp_record.specs.Slots.{state_at}
use Rattle.uslp_record.proofs.ChannelRecord.first_that.Given as goal

abbrev pub invariant-loop-i : goal.invariant-loop-i
invariant-loop-i g l = (l.i ≤ 8) × ((j : ℕ) → j < l.i → goal.F-post g l.test (state_at l.self j) false)

abbrev pub decreases-loop-i : goal.decreases-loop-i
decreases-loop-i g l = 8 - l.i
