-- After k turns the register has moved by k places.
use Rattle.std.proofs.Common.{◌≡◌}
use Rattle.uslp_checksum.proofs.Register.{zsteps}
use Rattle.uslp_checksum.proofs.octet_bitwise.Given as goal

abbrev pub invariant-loop-k : goal.invariant-loop-k
invariant-loop-k l = l.current ≡ zsteps l.k l.initial.current
