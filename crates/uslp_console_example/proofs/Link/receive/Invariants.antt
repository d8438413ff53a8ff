-- `receive` ends: a frame that takes octets of the block leaves fewer.
use Rattle.std.proofs.Common.{length}
use Rattle.uslp_console_example.proofs.Link.receive.Given as goal

abbrev pub decreases-loop-frame : goal.decreases-loop-frame
decreases-loop-frame g l = length l.rest
