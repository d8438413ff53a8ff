-- From place `i` on stand the number's low octets, and `rest` is what is left of it.
use Rattle.std.proofs.Common.{◌≡◌, ◌/◌, ◌^◌, length, ◌-◌, ◌++◌, take}
use Rattle.uslp_octets.specs.Octets.{octets}
use Rattle.uslp_octets.proofs.put_be_number.Given as goal

abbrev pub invariant-loop-i : goal.invariant-loop-i
invariant-loop-i l =
    (l.rest ≡ l.value / 256 ^ (length l.initial.to - l.i))
    × (l.to ≡ take l.i l.initial.to ++ octets (length l.initial.to - l.i) l.value)
