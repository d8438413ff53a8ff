-- What holds of every record that calls made.
use Rattle.std.specs.Prelude.{◌≡◌, ℕ, ◌^◌, ◌<◌, ◌≤◌, true, length}
use Rattle.uslp_record.specs.Slots.{state_holds, state_at}
use Rattle.uslp_record.specs.Record.{most}
use Rattle.uslp_record.specs.declared.Channel.{Channel}
use Rattle.uslp_record.specs.declared.Totals.{Totals}
use Rattle.uslp_record.specs.declared.SlotState.{SlotState}
use Rattle.uslp_record.specs.declared.SlotState.TheVariants.{Closed, Opened, Heard}
use Rattle.uslp_record.specs.declared.ChannelRecord.{ChannelRecord}

-- no channel is held twice
abbrev pub Distinct : ChannelRecord → Type 0
Distinct r = (k : Channel) (i j : ℕ) → i < 8 → j < 8 → state_holds k (state_at r i) ≡ true → state_holds k (state_at r j) ≡ true → i ≡ j

-- a channel and a width that opening does not answer with 10; the spacecraft id has its 16 bits, as the machine has it
pub record Openable (k : Channel) (width : ℕ) : Type 0 where
  pub craft : k.spacecraft_id < 2 ^ 16
  pub channel : k.vc_id ≤ 63
  pub some : 1 ≤ width
  pub narrow : width ≤ 7

-- totals that hearings make: last fits its width, a frame was handed on, and none is above the largest
pub record SoundTotals (width : ℕ) (t : Totals) : Type 0 where
  pub last : t.last < 256 ^ width
  pub begun : 1 ≤ t.handed_on
  pub handed_on : t.handed_on ≤ most
  pub missing : t.missing ≤ most
  pub repeats : t.repeats ≤ most
  pub late : t.late ≤ most

abbrev pub Sound : SlotState → Type 0
Sound Closed = Unit {0}
Sound (Opened k width) = Openable k width
Sound (Heard k width t) = Openable k width × SoundTotals width t

-- eight slots, no channel twice, and what stands in each is sound
pub record Made (r : ChannelRecord) : Type 0 where
  pub eight : length r.slots ≡ 8
  pub once : Distinct r
  pub sound : (i : ℕ) → Sound (state_at r i)
