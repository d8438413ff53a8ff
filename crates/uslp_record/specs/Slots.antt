-- Eight slots (docs/RULES.md, section 6.1): which of them holds a channel, which is closed, and the record with a slot replaced.
use Rattle.std.specs.Prelude.{ℕ, suc, ◌<◌, Bool, true, false, cond, ◌&&◌, List, [], ◌∷◌, Option, Some, None, replicate, ◌==◌, nat_lt, slice_index_or, slice_set}
use Rattle.uslp_kinds.specs.Kinds.{bypass_number}
use Rattle.uslp_record.specs.declared.Channel.{Channel}
use Rattle.uslp_record.specs.declared.SlotState.{SlotState}
use Rattle.uslp_record.specs.declared.SlotState.TheVariants.{Closed, Opened, Heard}
use Rattle.uslp_record.specs.declared.Slot.{Slot}
use Rattle.uslp_record.specs.declared.ChannelRecord.{ChannelRecord}

-- a channel is a spacecraft id with a channel number and the bypass flag
abbrev pub same_channel : Channel → Channel → Bool
same_channel a b =
    (a.spacecraft_id == b.spacecraft_id) && a.vc_id == b.vc_id
    && bypass_number a.sequence_control_flag == bypass_number b.sequence_control_flag

abbrev pub state_holds : Channel → SlotState → Bool
state_holds k Closed = false
state_holds k (Opened channel width) = same_channel channel k
state_holds k (Heard channel width totals) = same_channel channel k

abbrev pub holds : Channel → Slot → Bool
holds k x = state_holds k x.state

abbrev pub state_closed : SlotState → Bool
state_closed Closed = true
state_closed (Opened channel width) = false
state_closed (Heard channel width totals) = false

abbrev pub is_closed : Slot → Bool
is_closed x = state_closed x.state

-- the first slot that holds the channel, or how many there are
unfoldable pub find : Channel → List Slot → ℕ
find k [] = 0
find k (x ∷ l) = cond (holds k x) 0 (suc (find k l))

-- the slot, or none where there is no such
abbrev pub slot_found : ℕ → Option ℕ
slot_found k = cond (nat_lt k 8) (Some k) None

-- the first closed slot, or how many there are
unfoldable pub vacant : List Slot → ℕ
vacant [] = 0
vacant (x ∷ l) = cond (is_closed x) 0 (suc (vacant l))

abbrev pub slot_of : SlotState → Slot
slot_of t = record { state = t }

-- what stands in a slot
abbrev pub state_at : ChannelRecord → ℕ → SlotState
state_at r i = (slice_index_or r.slots i (slot_of Closed)).state

-- the record with another state in a slot
abbrev pub put : ChannelRecord → ℕ → SlotState → ChannelRecord
put r i t = record { slots = slice_set r.slots i (slot_of t) }

-- the first slot whose state passes a test, or none, by what the test says of each state
unfoldable pub FoundFirst : (SlotState → Bool → Type 0) → ChannelRecord → Option ℕ → Type 0
FoundFirst Says r (Some i) = (i < 8) × Says (state_at r i) true × ((j : ℕ) → j < i → Says (state_at r j) false)
FoundFirst Says r None = (j : ℕ) → j < 8 → Says (state_at r j) false

-- a slot, and the state that it is to get
pub record Change : Type 0 where
  pub at : ℕ
  pub state : SlotState

abbrev pub changed : ChannelRecord → Change → ChannelRecord
changed r c = put r c.at c.state

abbrev pub empty_record : ChannelRecord
empty_record = record { slots = replicate 8 (slot_of Closed) }
