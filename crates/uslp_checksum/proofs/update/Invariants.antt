-- After so many whole words of a message of eight octets or more, the four words stand for the register that was fed all octets so far.
use Rattle.std.proofs.Common.{◌≡◌, ◌+◌, ◌*◌, ◌%◌, length, take}
use Rattle.uslp_checksum.specs.Checksum.{feed, bits}
use Rattle.uslp_checksum.specs.Words.{stands_for}
use Rattle.uslp_checksum.proofs.update.Given as goal

abbrev pub invariant-loop-word : goal.invariant-loop-word
invariant-loop-word l = stands_for l.wide ≡ feed l.register (bits (take (length l.message % 8 + 8 + 8 * l.word-index) l.message))
