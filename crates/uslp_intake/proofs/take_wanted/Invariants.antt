-- The loop's invariant: so many octets are taken behind those held, and as many are taken in all as these and what is taken behind them.
-- The measure is how many of the reader's five lengths are not reached: so a call reads at most six times.
use Rattle.std.proofs.Common.{◌+◌, ◌-◌, take}
use Rattle.uslp_octets.specs.Octets.{AreOctets}
use Rattle.uslp_reader.proofs.Asks.{reached}
use Rattle.uslp_intake.proofs.Steps.{Taken}
use Rattle.uslp_intake.proofs.take_wanted.Given as goal

abbrev pub invariant-loop-frame : goal.invariant-loop-frame
invariant-loop-frame l = AreOctets l.initial.holding × Taken l.managed l.initial.holding l.held l.block l.taken l.holding

abbrev pub decreases-loop-frame : goal.decreases-loop-frame
decreases-loop-frame l = 5 - reached (take (l.held + l.taken) l.holding)
