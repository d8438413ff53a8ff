-- Opening, closing and asking (docs/RULES.md, sections 6.2 and 6.4): what each call answers and the record that it leaves, in its order.
use Rattle.std.specs.Prelude.{ℕ, ◌+◌, ◌-◌, ◌^◌, Bool, false, ◌||◌, List, [], ◌∷◌, ◌==◌, nat_le, nat_lt}
use Rattle.uslp_kinds.specs.Outcome.{Outcome, done, refused, first_of}
use Rattle.uslp_record.specs.Slots.{find, vacant, state_at, Change, changed}
use Rattle.uslp_record.specs.declared.Channel.{Channel}
use Rattle.uslp_record.specs.declared.SlotState.{SlotState}
use Rattle.uslp_record.specs.declared.SlotState.TheVariants.{Closed, Opened, Heard}
use Rattle.uslp_record.specs.declared.Slot.{Slot}
use Rattle.uslp_record.specs.declared.ChannelRecord.{ChannelRecord}

-- what a call leaves: its answer, and the record
pub data Kept (A : Type 0) : Type 0 where
  keeping : Outcome A → ChannelRecord → Kept A

-- a call that changes a slot: done, the record has the change; refused, it stays
abbrev pub applied : {A : Type 0} → ChannelRecord → Outcome (A × Change) → Kept A
applied r (done x) = keeping (done x.0) (changed r x.1)
applied r (refused k vs) = keeping (refused k vs) r

-- opening: 10, 15, 16; the first closed slot is taken
unfoldable pub opening : ChannelRecord → Channel → ℕ → Kept (Unit {0})
opening r k width =
    applied r
    (first_of
    ((nat_lt 63 k.vc_id || width == 0 || nat_lt 7 width, refused 10 [])
    ∷ (nat_lt (find k r.slots) 8, refused 15 [])
    ∷ (nat_le 8 (vacant r.slots), refused 16 [])
    ∷ [])
    (done (tt, record { at = vacant r.slots; state = Opened k width })))

-- closing: 13
unfoldable pub closing : ChannelRecord → Channel → Kept (Unit {0})
closing r k =
    applied r
    (first_of ((nat_le 8 (find k r.slots), refused 13 []) ∷ []) (done (tt, record { at = find k r.slots; state = Closed })))

-- asking for a channel: 13
unfoldable pub showing : ChannelRecord → Channel → Outcome SlotState
showing r k = first_of ((nat_le 8 (find k r.slots), refused 13 []) ∷ []) (done (state_at r (find k r.slots)))

-- the largest total
abbrev pub most : ℕ
most = 2 ^ 60 - 1

abbrev pub missing_of : SlotState → ℕ
missing_of Closed = 0
missing_of (Opened channel width) = 0
missing_of (Heard channel width totals) = totals.missing

-- the sum of missing over open channels, and whether one of them is above the largest total
unfoldable pub missing_in : List Slot → ℕ
missing_in [] = 0
missing_in (x ∷ l) = missing_of x.state + missing_in l

unfoldable pub too_much_in : List Slot → Bool
too_much_in [] = false
too_much_in (x ∷ l) = nat_lt most (missing_of x.state) || too_much_in l

-- the console total: 17
unfoldable pub console_total : ChannelRecord → Outcome ℕ
console_total r = first_of ((too_much_in r.slots, refused 17 []) ∷ []) (done (missing_in r.slots))
