-- What the accessors of a reader answer: a part of the frame that was read, or why there is none.
use Rattle.uslp_kinds.specs.Outcome.{Outcome, done, refused}
use Rattle.uslp_reader.specs.declared.TransferFrame.{TransferFrame}

-- a refusal of the frame is the refusal of each of its parts
abbrev pub of_frame : {A : Type 0} → (TransferFrame → A) → Outcome TransferFrame → Outcome A
of_frame part (done x) = done (part x)
of_frame part (refused k vs) = refused k vs
