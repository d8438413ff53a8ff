-- Demand 2 holds of the reader and the writer here.
use mathlib.Core.Path.{◌≡◌, refl}
use mathlib.Core.Bool.{Bool, true, false, not, ◌&&◌, ◌||◌}
use mathlib.Core.List.{List, [], ◌∷◌, ◌++◌}
use Prim.Native.Nat.{ℕ}
use native.Mathlib.Omega.{arith}
use lib.Dec.{ltb}
use lib.ListN.{length}
use Rattle.uslp_kinds.specs.Outcome.{done, refused, leaving, first_of}
use Rattle.uslp_kinds.proofs.Outcomes.{refused_keeps}
use Rattle.uslp_primary_header.specs.Header.{header_checking}
use Rattle.uslp_primary_header.proofs.Checks.{channel_in, map_in, width_in_lem, count_in, checks_done}
use Rattle.uslp_layout.specs.Layout.{present}
use Rattle.uslp_reader.specs.Reader.{frame_reading}
use Rattle.uslp_writer.specs.Frame.{total, completed, frame_checks, frame_writing}
use Rattle.uslp_writer.specs.declared.TransferFrameCreator.{TransferFrameCreator}
use Rattle.uslp_writer.proofs.Paths.{writing_done, writing_through}
use Rattle.uslp_roundtrip.specs.Demand.{Demand2Reader, Demand2Writer, over}
use Rattle.uslp_roundtrip.proofs.Exactly.{exactly}
use Rattle.uslp_roundtrip.proofs.Trips.{written_fields}
use Rattle.std.specs.Prelude.{Option, Some, None}

pub reads : Demand2Reader frame_reading
reads = exactly

-- an OCF whose flag is right is not missing
not_missing : (b : Bool) (x : Option ℕ) → (present x || b) ≡ present x → (b && not (present x)) ≡ false
not_missing true None e = e
not_missing false None e = refl
not_missing true (Some n) e = refl
not_missing false (Some n) e = refl

-- a header passes the checks if it does with length and flag updated
passes : (c : TransferFrameCreator) (n : ℕ) → header_checking (completed c n) ≡ done (completed c n)
    → header_checking c.primary_header ≡ done c.primary_header
passes c n e =
    let h = completed c n in
    checks_done c.primary_header (channel_in h e) (map_in h e) (width_in_lem h e) (count_in h e)

-- a refusal leaves the octets as they were
refusal_kept : (c : TransferFrameCreator) (d s s' : List ℕ) (k : ℕ) (vs : List ℕ) → frame_writing c d s ≡ leaving (refused k vs) s' → s' ≡ s
unfolding frame_writing
refusal_kept c d s s' k vs e =
    refused_keeps
    (first_of
    (frame_checks c (length d) ++ (ltb (length s) (total c (length d)), refused 2 (length s ∷ total c (length d) ∷ [])) ∷ [])
    (done (total c (length d))))
    (over c d s) s e

pub writes : Demand2Writer frame_writing
writes = record {
  writes = λ c d s f room.
      writing_done c d s
      (record {
        header_passes = passes c (total c (length d)) f.header_fits.checks_pass;
        field_passes = f.field_fits.checks_pass;
        ocf_given = not_missing c.primary_header.ocf_flag c.operational_control_field f.ocf_flagged;
        fits = omega (arith, f.header_fits.length_fits, f.is_total);
      })
      room;
  wrote = λ c d s s' n b e. let w = writing_through c d s s' n e in (written_fields c d s s' n b e, w.room, w.is_total, w.left);
  kept = refusal_kept;
}
