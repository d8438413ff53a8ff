-- What finishing and filling say where they are done: the length, and the octets that are left.
use mathlib.Core.Path.{◌≡◌}
use Prim.Native.Nat.{ℕ, ◌≤◌, min}
use mathlib.Core.List.{List}
use lib.ListN.{length, take, drop}
use borrow.Author.Tests.{le-ltb}
use Rattle.uslp_octets.specs.Octets.{overlaid}
use Rattle.uslp_kinds.specs.Outcome.{done, leaving}
use Rattle.uslp_writer.specs.Reserved.{claimed, finish_length, filled, filling}
use Rattle.uslp_writer.specs.declared.TransferFrameCreatorWithReservedData.{TransferFrameCreatorWithReservedData}

pub finish_done : (k : TransferFrameCreatorWithReservedData) (found : ℕ) → k.len_written ≤ 65536 → claimed k ≤ 65536 → claimed k ≤ k.len_written
    → k.len_written ≤ found → finish_length k found ≡ done k.len_written
unfolding finish_length
finish_done k found short claims in-total h = simp (le-ltb _ _ short, le-ltb _ _ claims, le-ltb _ _ in-total, le-ltb _ _ h)

pub filling_done : (k : TransferFrameCreatorWithReservedData) (s d : List ℕ) {m : ℕ} → finish_length k (length s) ≡ done m
    → filling k d s ≡ leaving (done (min (length d) k.data_size)) (filled k (overlaid d (take k.data_size (drop k.data_index s))) s)
filling_done k s d e = rw e
