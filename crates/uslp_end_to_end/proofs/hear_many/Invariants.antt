-- The hearings from the place on complete the whole.
use Rattle.std.proofs.Common.{length, ◌-◌}
use Rattle.uslp_end_to_end.proofs.Walk.{Heard}
use Rattle.uslp_end_to_end.proofs.hear_many.Given as goal

abbrev pub invariant-loop-place : goal.invariant-loop-place
invariant-loop-place l = Heard l.managed l.buf l.initial.next l.next l.tally l.place

abbrev pub decreases-loop-place : goal.decreases-loop-place
decreases-loop-place l = length l.buf - l.place
