-- The register was fed the octets passed.
use Rattle.std.proofs.Common.{◌≡◌, take}
use Rattle.uslp_checksum.specs.Checksum.{checksum_of}
use Rattle.uslp_checksum.proofs.checksum_bitwise.Given as goal

abbrev pub invariant-loop-octet : goal.invariant-loop-octet
invariant-loop-octet l = l.current ≡ checksum_of (take l.octet-index l.message)
