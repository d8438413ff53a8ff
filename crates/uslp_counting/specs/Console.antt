-- The console total, counted channel by channel.
use Rattle.std.specs.Prelude.{List, [], ◌∷◌, ◌++◌, ℕ, ◌+◌, ◌^◌, ◌<◌}
use Rattle.uslp_record.specs.declared.Channel.{Channel}
use Rattle.uslp_record.specs.declared.SlotState.{SlotState}
use Rattle.uslp_record.specs.declared.SlotState.TheVariants.{Closed, Opened, Heard}
use Rattle.uslp_record.specs.declared.Slot.{Slot}
use Rattle.uslp_record.specs.declared.ChannelRecord.{ChannelRecord}
use Rattle.uslp_counting.specs.History.{missing_for, Call}
use Rattle.uslp_counting.specs.History.Call.{hears, hears_many, opens, closes}

-- the channels that are open, slot by slot
abbrev pub channels_of : SlotState → List Channel
channels_of Closed = []
channels_of (Opened k width) = k ∷ []
channels_of (Heard k width totals) = k ∷ []

abbrev pub open_in : List Slot → List Channel
open_in [] = []
open_in (x ∷ l) = channels_of x.state ++ open_in l

abbrev pub sum_over : (Channel → ℕ) → List Channel → ℕ
sum_over f [] = 0
sum_over f (k ∷ ks) = f k + sum_over f ks

-- the sum over the open channels of what each is missing
abbrev pub missing_over_open : ChannelRecord → ℕ
missing_over_open r = sum_over (λ (k : Channel). missing_for k r) (open_in r.slots)

-- the bounds that the machine's own numbers keep in what is given to a call
abbrev pub Given : Call → Type 0
Given (hears s managed) = Unit {0}
Given (hears_many s managed) = Unit {0}
Given (opens k width) = k.spacecraft_id < 2 ^ 16
Given (closes k) = Unit {0}
