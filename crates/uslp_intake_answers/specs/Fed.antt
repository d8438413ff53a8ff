-- What a call of the intake leaves with the bench: how many octets are held, of so many before it, and the octets of the holding buffer.
use Rattle.std.specs.Prelude.{ℕ, List}
use Rattle.uslp_kinds.specs.Outcome.{Written, leaving}
use Rattle.uslp_intake.specs.Intake.{Intake, held_by}

abbrev pub fed : ℕ → Written Intake → ℕ × List ℕ
fed before (leaving o s) = (held_by before o, s)
