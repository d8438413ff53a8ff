-- The table of refusals (docs/RULES.md, section 2), row by row, and what an answer says on paper.
use Rattle.std.specs.Prelude.{ℕ, ◌-◌, Bool, false, cond, List, [], ◌∷◌, eqb, get_or, Result, Ok, Err}
use Rattle.uslp_kinds.specs.Outcome.{Outcome, done, refused}
use Rattle.uslp_kinds.specs.Kinds.{rule_number}
use Rattle.uslp_kinds.specs.declared.Refusal.{Refusal}
use Rattle.uslp_kinds.specs.declared.Refusal.TheVariants.{ShortSource, ShortTarget, Truncated, BadVersion, BadProtocol, BadChecksum, FrameTooShort, BadCount, BadPointer, BadField, OcfMissing, TooLong, NotOpen, OtherWidth, AlreadyOpen, TableFull, TotalFull, BadForm, LacksFlag}

-- a refusal's number, and what it carries
abbrev pub refusal_number : Refusal → ℕ
refusal_number (ShortSource found expected) = 1
refusal_number (ShortTarget found expected) = 2
refusal_number Truncated = 3
refusal_number (BadVersion version) = 4
refusal_number (BadProtocol id) = 5
refusal_number (BadChecksum stored computed) = 6
refusal_number (FrameTooShort length needed) = 7
refusal_number (BadCount count width) = 8
refusal_number (BadPointer rule) = 9
refusal_number BadField = 10
refusal_number OcfMissing = 11
refusal_number TooLong = 12
refusal_number NotOpen = 13
refusal_number (OtherWidth frame opened) = 14
refusal_number AlreadyOpen = 15
refusal_number TableFull = 16
refusal_number TotalFull = 17
refusal_number BadForm = 18
refusal_number LacksFlag = 19

abbrev pub carried : Refusal → List ℕ
carried (ShortSource found expected) = found ∷ expected ∷ []
carried (ShortTarget found expected) = found ∷ expected ∷ []
carried Truncated = []
carried (BadVersion version) = version ∷ []
carried (BadProtocol id) = id ∷ []
carried (BadChecksum stored computed) = stored ∷ computed ∷ []
carried (FrameTooShort length needed) = length ∷ needed ∷ []
carried (BadCount count width) = count ∷ width ∷ []
carried (BadPointer rule) = rule_number rule ∷ []
carried BadField = []
carried OcfMissing = []
carried TooLong = []
carried NotOpen = []
carried (OtherWidth frame opened) = frame ∷ opened ∷ []
carried AlreadyOpen = []
carried TableFull = []
carried TotalFull = []
carried BadForm = []
carried LacksFlag = []

-- a refusal as the outcome of a call for any result
abbrev pub refusal : {A : Type 0} → Refusal → Outcome A
refusal r = refused (refusal_number r) (carried r)

-- an answer as the outcome that it tells of
abbrev pub paper : {A : Type 0} → Result A Refusal → Outcome A
paper (Ok x) = done x
paper (Err r) = refusal r

-- SHORT_SOURCE, and how many octets it lacks: expected less found, wherever the two count from; any other answer lacks none
abbrev pub short : {A : Type 0} → Outcome A → Bool
short (done x) = false
short (refused k vs) = eqb k 1

abbrev pub lacking : {A : Type 0} → Outcome A → ℕ
lacking (done x) = 0
lacking (refused k vs) = cond (eqb k 1) (get_or vs 1 0 - get_or vs 0 0) 0

abbrev pub lacking_of : Refusal → ℕ
lacking_of r = lacking {A = Unit {0}} (refusal r)

-- how many octets a call wrote: none where it was refused
abbrev pub length_of : Outcome ℕ → ℕ
length_of (done n) = n
length_of (refused k vs) = 0
