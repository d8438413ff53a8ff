-- The rest is left to feed: fewer than eight octets at first, then fewer than four, two and one.
use Rattle.std.proofs.Common.{◌≡◌, ◌<◌, ◌-◌, ◌^◌, length}
use Rattle.uslp_octets.specs.Octets.{AreOctets}
use Rattle.uslp_checksum.specs.Checksum.{feed, bits}
use Rattle.uslp_checksum.proofs.words.by_halves.Given as goal

abbrev pub invariant-loop-k : goal.invariant-loop-k
invariant-loop-k l =
    AreOctets l.rest × (length l.rest < 2 ^ (3 - l.k-index))
    × (feed l.current (bits l.rest) ≡ feed l.register (bits l.message))
