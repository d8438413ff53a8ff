-- The record holds the entries passed.
use Rattle.std.proofs.Common.{◌≡◌, take}
use Rattle.uslp_form.specs.Form.{restored}
use Rattle.uslp_saved.specs.Reading.{entries_of_octets}
use Rattle.uslp_saved.proofs.restoring.Octets.read_all.Given as goal

abbrev pub invariant-loop-i : goal.invariant-loop-i
invariant-loop-i l = l.next ≡ restored (take l.i (entries_of_octets l.self.form l.self.from.now))
