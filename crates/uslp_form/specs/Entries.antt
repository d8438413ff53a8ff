-- Entries of a saved record: an entry is what stands in a slot that is open.
use Rattle.std.specs.Prelude.{◌≡◌, Bool, true, false, List, [], ◌∷◌}
use Rattle.uslp_record.specs.Slots.{state_holds}
use Rattle.uslp_record.specs.declared.Channel.{Channel}
use Rattle.uslp_record.specs.declared.SlotState.{SlotState}
use Rattle.uslp_record.specs.declared.SlotState.TheVariants.{Closed, Opened, Heard}

-- opened but not heard, and heard
abbrev pub is_opened : SlotState → Bool
is_opened Closed = false
is_opened (Opened k width) = true
is_opened (Heard k width totals) = false

abbrev pub is_heard : SlotState → Bool
is_heard Closed = false
is_heard (Opened k width) = false
is_heard (Heard k width totals) = true

-- it holds of each of a list
abbrev pub Each : (SlotState → Type 0) → List SlotState → Type 0
Each P [] = Unit {0}
Each P (x ∷ l) = P x × Each P l

-- no channel is held by both, and none by two of a list
abbrev pub Apart : SlotState → SlotState → Type 0
Apart x y = (k : Channel) → state_holds k x ≡ true → state_holds k y ≡ false

abbrev pub Once : List SlotState → Type 0
Once [] = Unit {0}
Once (x ∷ l) = Each (Apart x) l × Once l
