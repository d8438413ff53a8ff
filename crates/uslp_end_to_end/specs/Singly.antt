-- Hearing one at a time, as a caller does it who has `hear` and the reader: what is left is heard, and the frame's length says what is left then.
use Rattle.std.specs.Prelude.{ℕ, ◌+◌, ◌<◌, ◌≤◌, ◌≡◌, List, length, drop}
use Rattle.uslp_kinds.specs.Outcome.{done, refused}
use Rattle.uslp_kinds.specs.declared.ManagedParameters.{ManagedParameters}
use Rattle.uslp_primary_header.specs.Header.{len_frame}
use Rattle.uslp_reader.specs.Reader.{frame_reading}
use Rattle.uslp_reader.specs.declared.TransferFrame.{TransferFrame}
use Rattle.uslp_record.specs.declared.ChannelRecord.{ChannelRecord}
use Rattle.uslp_hearing.specs.Hearing.{frame_hearing}
use Rattle.uslp_end_to_end.specs.Many.{added_to, KeptMany}
use Rattle.uslp_end_to_end.specs.declared.Tally.{Tally}

-- from a place in the octets, with the tally and the record there, the caller comes to this end
pub data Singly (managed : ManagedParameters) (s : List ℕ) : ℕ → Tally → ChannelRecord → KeptMany → Type 0 where
  used_up : {place : ℕ} {t : Tally} {r : ChannelRecord} → length s ≤ place
      → Singly managed s place t r (record { place = place; counted = t; stop = done tt; next = r })
  stops : {place : ℕ} {t : Tally} {r : ChannelRecord} {k : ℕ} {vs : List ℕ} → place < length s → frame_reading (drop place s) managed ≡ refused k vs
      → Singly managed s place t r (record { place = place; counted = t; stop = refused k vs; next = r })
  goes_on : {place : ℕ} {t : Tally} {r : ChannelRecord} {q : KeptMany} (x : TransferFrame) → place < length s → frame_reading (drop place s) managed ≡ done x
      → Singly managed s (place + len_frame x.primary_header) (added_to t (frame_hearing r (drop place s) managed)).0
      (added_to t (frame_hearing r (drop place s) managed)).1 q
      → Singly managed s place t r q
