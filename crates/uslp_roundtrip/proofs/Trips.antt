-- A frame that was written is read back, and one that was read is written back: demand 2 of the writers.
use mathlib.Core.Path.{◌≡◌, refl, ap, sym, ◌∙◌}
use mathlib.Core.Bool.{Bool, true, false, not, ◌&&◌, ◌||◌}
use mathlib.Core.List.{List, ◌++◌}
use Prim.Native.Nat.{ℕ, ◌+◌, ◌-◌, ◌≤◌}
use native.Mathlib.Omega.{arith}
use lib.Dec.{lit<}
use lib.ListN.{length, take, drop}
use Rattle.uslp_octets.specs.Octets.{AreOctets}
use Rattle.uslp_kinds.specs.Outcome.{done, leaving}
use Rattle.uslp_kinds.specs.declared.ManagedParameters.{ManagedParameters}
use Rattle.uslp_primary_header.specs.Header.{len_frame, spare_in}
use Rattle.uslp_primary_header.specs.declared.PrimaryHeader.{PrimaryHeader}
use Rattle.uslp_layout.specs.Layout.{needed, present, layout, WellFormed}
use Rattle.uslp_writer.specs.Frame.{flagged, managed_of, total, completed, fields_of, frame_octets, frame_writing}
use Rattle.uslp_writer.specs.declared.TransferFrameCreator.{TransferFrameCreator}
use Rattle.uslp_writer.proofs.Headers.{completed_passes}
use Rattle.uslp_writer.proofs.Paths.{Through, writing_through, writing_done}
use Rattle.uslp_reader.specs.Reader.{frame_reading, contents_in}
use Rattle.uslp_reader.specs.declared.TransferFrame.{TransferFrame}
use Rattle.uslp_roundtrip.specs.Bounds.{Bounds}
use Rattle.uslp_roundtrip.specs.Laid.{frame_of}
use Rattle.uslp_roundtrip.proofs.Complete.{complete, complete_contents}
use Rattle.uslp_roundtrip.proofs.Sound.{fields, stands, begins}
use Rattle.std.specs.Prelude.{Option, Some, None}

-- where no OCF is missing, the flag written says whether there is one
flag_given : (b : Bool) (x : Option ℕ) → b && not (present x) ≡ false → present x || b ≡ present x
flag_given true None e = let z : ◌≡◌ {A = ℕ} 0 1 = cc in absurd (omega arith)
flag_given false None e = refl
flag_given b (Some n) e = refl

flag_there : (b : Bool) (x : Option ℕ) → b ≡ present x → (b && not (present x) ≡ false) × (present x || b ≡ b)
flag_there true None e = let z : ◌≡◌ {A = ℕ} 0 1 = cc in absurd (omega arith)
flag_there false None e = (refl, refl)
flag_there true (Some n) e = (refl, refl)
flag_there false (Some n) e = let z : ◌≡◌ {A = ℕ} 0 1 = cc in absurd (omega arith)

module _ (c : TransferFrameCreator) (d s s' : List ℕ) (n : ℕ) (b : Bounds c d) (e : frame_writing c d s ≡ leaving (done n) s') where
  w : Through c d s s' n
  w = writing_through c d s s' n e

  -- the fields that were written make a frame
  pub written_fields : WellFormed (managed_of c) (fields_of c d)
  written_fields = record {
    header_fits = record {
      spacecraft_fits = b.spacecraft_fits;
      length_fits = omega (arith, w.fits);
      checks_pass = completed_passes c (total c (length d)) w.header_passes;
    };
    field_fits = record { pointer_fits = b.pointer_fits; checks_pass = w.field_passes };
    contents_fit = b.contents_fit;
    ocf_fits = b.ocf_fits;
    ocf_flagged = flag_given c.primary_header.ocf_flag c.operational_control_field w.ocf_given;
    is_total = omega arith;
  }

  pub written_read : frame_reading s' (managed_of c) ≡ done (frame_of (fields_of c d))
  written_read =
      ap (λ (t : List ℕ). frame_reading t (managed_of c)) w.left
      ∙ complete (managed_of c) 0 (fields_of c d) (drop (total c (length d)) s) (lit< tt) written_fields

  pub written_contents : contents_in (frame_of (fields_of c d)) s' ≡ d
  written_contents =
      ap (contents_in (frame_of (fields_of c d))) w.left
      ∙ complete_contents (managed_of c) 0 (fields_of c d) (drop (total c (length d)) s) (lit< tt) written_fields

-- what a frame that was read is written from
abbrev pub creator_of : TransferFrame → ManagedParameters → TransferFrameCreator
creator_of x managed =
    record {
      primary_header = x.primary_header;
      data_field_header = x.data_field_header;
      operational_control_field = x.operational_control_field;
      has_fecf = managed.has_fecf;
    }

module _ (s t : List ℕ) (managed : ManagedParameters) (x : TransferFrame) (oct : AreOctets s) (e : frame_reading s managed ≡ done x) (spare : spare_in s ≡ 0)
    (room : len_frame x.primary_header ≤ length t) where
  abbrev c : TransferFrameCreator
  c = creator_of x managed

  abbrev d : List ℕ
  d = contents_in x s

  well_formed : WellFormed managed (fields s managed x oct e)
  well_formed = stands s managed x oct e

  flag : (x.primary_header.ocf_flag && not (present x.operational_control_field) ≡ false)
      × (present x.operational_control_field || x.primary_header.ocf_flag ≡ x.primary_header.ocf_flag)
  flag = flag_there x.primary_header.ocf_flag x.operational_control_field well_formed.ocf_flagged

  same_flag : flagged c ≡ x.primary_header
  same_flag =
      λ i. record {
        spacecraft_id = x.primary_header.spacecraft_id;
        source_or_dest_field = x.primary_header.source_or_dest_field;
        vc_id = x.primary_header.vc_id;
        map_id = x.primary_header.map_id;
        frame_len_field = x.primary_header.frame_len_field;
        sequence_control_flag = x.primary_header.sequence_control_flag;
        protocol_control_command_flag = x.primary_header.protocol_control_command_flag;
        ocf_flag = flag.1 i;
        vc_frame_count_len = x.primary_header.vc_frame_count_len;
        vc_frame_count = x.primary_header.vc_frame_count;
      }

  same_total : total c (length d) ≡ len_frame x.primary_header
  same_total =
      ap (λ (h : PrimaryHeader). needed h x.data_field_header managed + length (contents_in x s)) same_flag ∙ sym well_formed.is_total

  same_header : completed c (total c (length d)) ≡ x.primary_header
  same_header =
      let len : total c (length d) - 1 ≡ x.primary_header.frame_len_field = omega (arith, same_total) in
      λ i. record {
        spacecraft_id = x.primary_header.spacecraft_id;
        source_or_dest_field = x.primary_header.source_or_dest_field;
        vc_id = x.primary_header.vc_id;
        map_id = x.primary_header.map_id;
        frame_len_field = len i;
        sequence_control_flag = x.primary_header.sequence_control_flag;
        protocol_control_command_flag = x.primary_header.protocol_control_command_flag;
        ocf_flag = flag.1 i;
        vc_frame_count_len = x.primary_header.vc_frame_count_len;
        vc_frame_count = x.primary_header.vc_frame_count;
      }

  same_octets : frame_octets c d ≡ take (len_frame x.primary_header) s
  same_octets =
      ap (λ (h : PrimaryHeader). layout managed 0 (record { header = h; field = x.data_field_header; contents = d; ocf = x.operational_control_field }))
      same_header
      ∙ ap (λ (k : ℕ). layout managed k (fields s managed x oct e)) (sym spare)
      ∙ sym (begins s managed x oct e)

  pub read_written : frame_writing c d t
      ≡ leaving (done (len_frame x.primary_header)) (take (len_frame x.primary_header) s ++ drop (len_frame x.primary_header) t)
  read_written =
      writing_done c d t
      (record {
        header_passes = well_formed.header_fits.checks_pass;
        field_passes = well_formed.field_fits.checks_pass;
        ocf_given = flag.0;
        fits = omega (arith, same_total, well_formed.header_fits.length_fits);
      })
      (omega (arith, same_total))
      ∙ ap (λ (l : List ℕ). leaving (done (total c (length d))) (l ++ drop (total c (length d)) t)) same_octets
      ∙ ap (λ (k : ℕ). leaving (done k) (take (len_frame x.primary_header) s ++ drop k t)) same_total
