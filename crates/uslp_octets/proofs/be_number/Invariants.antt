-- `number` is the low part of the word of the octets passed.
use Rattle.std.proofs.Common.{◌≡◌, ◌%◌, ◌^◌}
use Rattle.uslp_octets.specs.Octets.{word}
use Rattle.uslp_octets.proofs.be_number.Given as goal

abbrev pub invariant-loop-octet : goal.invariant-loop-octet
invariant-loop-octet l = l.number ≡ word 0 l.octet-index l.octets % 2 ^ 64
