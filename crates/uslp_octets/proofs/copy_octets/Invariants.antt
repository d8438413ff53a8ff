-- The octets passed are pasted over the front.
use Rattle.std.proofs.Common.{length, ◌≡◌, ◌≤◌}
use Rattle.std.proofs.Math.Seq.{paste}
use Rattle.uslp_octets.proofs.copy_octets.Given as goal

abbrev pub invariant-loop-i : goal.invariant-loop-i
invariant-loop-i l =
    (l.i-end ≤ length l.from) × (l.i-end ≤ length l.initial.to) × (length l.to ≡ length l.initial.to) × (l.to ≡ paste l.initial.to 0 l.from l.i)
