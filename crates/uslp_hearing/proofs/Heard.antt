-- What hearing a frame says, by what hearing its count and reading its octets said.
use mathlib.Core.Path.{◌≡◌, ap, sym}
use mathlib.Core.List.{List}
use Prim.Native.Nat.{ℕ}
use Rattle.uslp_kinds.specs.Outcome.{Outcome, done, refused, and_then}
use Rattle.uslp_kinds.specs.declared.ManagedParameters.{ManagedParameters}
use Rattle.uslp_reader.specs.Reader.{frame_reading}
use Rattle.uslp_reader.specs.declared.TransferFrame.{TransferFrame}
use Rattle.uslp_record.specs.Slots.{Change}
use Rattle.uslp_record.specs.Record.{keeping, applied}
use Rattle.uslp_record.specs.declared.ChannelRecord.{ChannelRecord}
use Rattle.uslp_record.specs.declared.Arrival.{Arrival}
use Rattle.uslp_record.proofs.Back.{keeping_one}
use Rattle.uslp_hearing.specs.Hearing.{channel_of, frame_arrival, with_frame, judged_by, hearing_of_frame, frame_hearing}

-- an answer to a count, with the frame that it is of
pub heard_with : (x : TransferFrame) (r : ChannelRecord) (j : Outcome (Arrival × Change)) {o : Outcome Arrival} {q : ChannelRecord} → keeping o q ≡ applied r j
    → keeping (and_then o (λ (a : Arrival). done (frame_arrival x a))) q ≡ applied r (with_frame x j)
heard_with x r (done y) e =
    let d = keeping_one e in cc
heard_with x r (refused k vs) e = let d = keeping_one e in cc

-- hearing a frame that was read from octets is hearing them
pub frame_heard : (r : ChannelRecord) (s : List ℕ) (managed : ManagedParameters) {x : TransferFrame} → frame_reading s managed ≡ done x
    → hearing_of_frame r x ≡ frame_hearing r s managed
frame_heard r s managed e = ap (λ (o : Outcome TransferFrame). applied r (and_then o (judged_by channel_of r))) (sym e)
