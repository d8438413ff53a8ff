-- Hearing a frame (docs/RULES.md, section 6.3): what it answers, what it hands on, and the record that it leaves, in its order.
use Rattle.std.specs.Prelude.{ℕ, List, []}
use Rattle.uslp_kinds.specs.Outcome.{Outcome, done, refused, and_then}
use Rattle.uslp_kinds.specs.declared.ManagedParameters.{ManagedParameters}
use Rattle.uslp_primary_header.specs.declared.PrimaryHeader.{PrimaryHeader}
use Rattle.uslp_reader.specs.Reader.{frame_reading, contents_in, contents_at}
use Rattle.uslp_reader.specs.declared.TransferFrame.{TransferFrame}
use Rattle.uslp_record.specs.Slots.{Change}
use Rattle.uslp_record.specs.Record.{Kept, applied}
use Rattle.uslp_record.specs.Judging.{judging}
use Rattle.uslp_record.specs.declared.Channel.{Channel}
use Rattle.uslp_record.specs.declared.ChannelRecord.{ChannelRecord}
use Rattle.uslp_record.specs.declared.Arrival.{Arrival}
use Rattle.uslp_record.specs.declared.Arrival.TheVariants as arrival
use Rattle.uslp_hearing.specs.declared.FrameArrival.{FrameArrival}
use Rattle.uslp_hearing.specs.declared.FrameArrival.TheVariants.{New, Repeat, Late}

-- how a frame names the channel that it is counted for
abbrev pub Naming : Type 0
Naming = PrimaryHeader → Channel

-- here: a spacecraft id with a channel number and the bypass flag
abbrev pub channel_of : Naming
channel_of h =
    record { spacecraft_id = h.spacecraft_id; vc_id = h.vc_id; sequence_control_flag = h.sequence_control_flag }

-- only NEW brings the frame along
abbrev pub frame_arrival : TransferFrame → Arrival → FrameArrival
frame_arrival x (arrival.New gap) = New gap x
frame_arrival x arrival.Repeat = Repeat
frame_arrival x arrival.Late = Late

abbrev pub with_frame : TransferFrame → Outcome (Arrival × Change) → Outcome (FrameArrival × Change)
with_frame x (done y) = done (frame_arrival x y.0, y.1)
with_frame x (refused k vs) = refused k vs

module _ (name : Naming) where
  -- a frame that was read is counted for its channel: 10, 8, 13, 14, 17
  abbrev pub judged_by : ChannelRecord → TransferFrame → Outcome (FrameArrival × Change)
  judged_by r x =
      with_frame x
      (judging r (name x.primary_header) x.primary_header.vc_frame_count_len x.primary_header.vc_frame_count)

  -- hearing octets: any reader's refusal is the answer, and a frame is counted
  abbrev pub hearing_by : ChannelRecord → List ℕ → ManagedParameters → Kept FrameArrival
  hearing_by r s managed = applied r (and_then (frame_reading s managed) (judged_by r))

-- the case here, which the promises cite: a frame that was read, and octets
abbrev pub hearing_of_frame : ChannelRecord → TransferFrame → Kept FrameArrival
hearing_of_frame r x = applied r (judged_by channel_of r x)

abbrev pub frame_hearing : ChannelRecord → List ℕ → ManagedParameters → Kept FrameArrival
frame_hearing = hearing_by channel_of

-- what an answer hands on of the octets
abbrev pub handed_on : Outcome FrameArrival → List ℕ → List ℕ
handed_on (done (New gap x)) s = contents_in x s
handed_on (done Repeat) s = []
handed_on (done Late) s = []
handed_on (refused k vs) s = []

-- where that part starts in them; an empty one at the front
abbrev pub handed_at : Outcome FrameArrival → List ℕ → ℕ
handed_at (done (New gap x)) s = contents_at x s
handed_at (done Repeat) s = 0
handed_at (done Late) s = 0
handed_at (refused k vs) s = 0
