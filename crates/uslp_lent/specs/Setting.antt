-- Setting a lent header (docs/RULES.md, section 9): of the outcome on the header by value, what is left behind the reference, and what is answered.
use Rattle.uslp_kinds.specs.Outcome.{Outcome, done, refused}
use Rattle.uslp_primary_header.specs.declared.PrimaryHeader.{PrimaryHeader}

-- a refusal leaves the header h that was found
abbrev pub header_left : PrimaryHeader → Outcome PrimaryHeader → PrimaryHeader
header_left h (done g) = g
header_left h (refused k vs) = h

-- the outcome with the header taken off
abbrev pub header_off : Outcome PrimaryHeader → Outcome (Unit {0})
header_off (done g) = done tt
header_off (refused k vs) = refused k vs
