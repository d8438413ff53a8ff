-- The record after many frames is one that calls made, where the record before is.
use Prim.Native.Nat.{ℕ, zero, suc}
use mathlib.Core.Path.{◌≡◌, refl, subst}
use mathlib.Core.List.{List}
use lib.ListN.{length, take, drop}
use Rattle.uslp_kinds.specs.Outcome.{Outcome, done, refused}
use Rattle.uslp_kinds.specs.declared.ManagedParameters.{ManagedParameters}
use Rattle.uslp_primary_header.specs.Header.{len_frame}
use Rattle.uslp_reader.specs.Reader.{frame_reading}
use Rattle.uslp_reader.specs.EndToEnd.{cut_at, cut_up_to}
use Rattle.uslp_reader.specs.declared.TransferFrame.{TransferFrame}
use Rattle.uslp_record.specs.Record.{Kept, keeping}
use Rattle.uslp_record.specs.Made.{Made}
use Rattle.uslp_record.specs.declared.ChannelRecord.{ChannelRecord}
use Rattle.uslp_record.proofs.Keeps.{left}
use Rattle.uslp_hearing.specs.Hearing.{channel_of, frame_hearing}
use Rattle.uslp_hearing.specs.declared.FrameArrival.{FrameArrival}
use Rattle.uslp_hearing.proofs.Ways.{made_hearing}
use Rattle.uslp_end_to_end.specs.Many.{no_frames, added_to, hearings, many_hearing}
use Rattle.uslp_end_to_end.specs.declared.Tally.{Tally}

left_counted : (t : Tally) (q : Kept FrameArrival) → left q ≡ (added_to t q).1
left_counted t (keeping o r) = refl

module _ (managed : ManagedParameters) where
  made_up_to : (most : ℕ) (s : List ℕ) (t : Tally) (r : ChannelRecord) → Made r → Made (hearings managed (cut_up_to most managed s).frames t r).1
  unfolding cut_up_to hearings
  made_up_to zero s t r made = made
  made_up_to (suc most) s t r made = go (frame_reading s managed) (λ u w x y. made_up_to most u w x y)
    where
      go : (o : Outcome TransferFrame)
          → ((u : List ℕ) (w : Tally) (x : ChannelRecord) → Made x → Made (hearings managed (cut_up_to most managed u).frames w x).1)
          → Made (hearings managed (cut_at s o (cut_up_to most managed)).frames t r).1
      go (refused k vs) ih = made
      go (done x) ih =
          let n = len_frame x.primary_header in
          let q = frame_hearing r (take n s) managed in
          ih (drop n s) (added_to t q).0 (added_to t q).1
          (subst Made (left_counted t q) (made_hearing channel_of r made (take n s) managed))

  pub made_many : (r : ChannelRecord) → Made r → (s : List ℕ) → Made (many_hearing r s managed).next
  unfolding many_hearing
  made_many r made s = made_up_to (length s) s no_frames r made
