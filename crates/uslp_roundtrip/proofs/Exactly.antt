-- Reading is done exactly if the octets begin with the layout of some fields, and gives those fields: demand 2 of the reader.
use mathlib.Core.Path.{◌≡◌, refl, ap, sym, ◌∙◌, subst}
use mathlib.Core.Logic.{◌↔◌}
use mathlib.Core.List.{List, ◌++◌}
use Prim.Native.Nat.{ℕ, ◌-◌, ◌≤◌}
use native.Mathlib.Omega.{arith}
use lib.ListN.{length, take, drop, take-append-drop}
use Rattle.uslp_octets.specs.Octets.{AreOctets, word}
use Rattle.uslp_checksum.specs.Checksum.{checksum_of}
use Rattle.uslp_checksum.proofs.Laws.{residue}
use Rattle.uslp_kinds.specs.Outcome.{done}
use Rattle.uslp_kinds.specs.Managed.{fecf}
use Rattle.uslp_kinds.specs.declared.ManagedParameters.{ManagedParameters}
use Rattle.uslp_primary_header.specs.Header.{len_header, len_frame, header_reading}
use Rattle.uslp_primary_header.specs.declared.PrimaryHeader.{PrimaryHeader}
use Rattle.uslp_data_field_header.specs.Field.{field_reading}
use Rattle.uslp_data_field_header.specs.declared.TransferFrameDataFieldHeader.{TransferFrameDataFieldHeader}
use Rattle.uslp_layout.specs.Layout.{Fields, needed, layout}
use Rattle.uslp_reader.specs.Reader.{frame_with, frame_reading, contents_in}
use Rattle.uslp_reader.proofs.Done.{read_done, done_reads}
use Rattle.uslp_roundtrip.specs.Laid.{frame_of, Laid}
use Rattle.uslp_roundtrip.proofs.Complete.{complete, complete_contents}
use Rattle.uslp_roundtrip.proofs.Sound.{laid}

module _ (s : List ℕ) (managed : ManagedParameters) (x : Fields) (l : Laid s managed x) where
  whole : s ≡ layout managed l.spare x ++ drop (len_frame x.header) s
  whole = sym (take-append-drop (len_frame x.header) s) ∙ ap (λ (t : List ℕ). t ++ drop (len_frame x.header) s) l.begins

  pub laid_read : frame_reading s managed ≡ done (frame_of x)
  laid_read =
      ap (λ (t : List ℕ). frame_reading t managed) whole ∙ complete managed l.spare x (drop (len_frame x.header) s) l.spare_fits l.well_formed

  pub laid_contents : contents_in (frame_of x) s ≡ x.contents
  laid_contents =
      ap (contents_in (frame_of x)) whole ∙ complete_contents managed l.spare x (drop (len_frame x.header) s) l.spare_fits l.well_formed

-- a frame and its data are read exactly if its fields are laid out at the front of the octets
pub exactly : (s : List ℕ) (managed : ManagedParameters) (x : Fields) → AreOctets s
    → ((frame_reading s managed ≡ done (frame_of x)) × (contents_in (frame_of x) s ≡ x.contents)) ↔ Laid s managed x
exactly s managed x oct = (
  λ e.
      subst (λ (d : List ℕ). Laid s managed (record { header = x.header; field = x.field; contents = d; ocf = x.ocf })) e.1
      (laid s managed (frame_of x) oct e.0),
  λ l. (laid_read s managed x l, laid_contents s managed x l),
)

-- where both headers stand and the length holds them, a frame passes exactly if its last two octets are the checksum of those before
module _ (s : List ℕ) (oct : AreOctets s) (h : PrimaryHeader) (f : TransferFrameDataFieldHeader)
    (header : header_reading s ≡ done h) (fits : len_frame h ≤ length s) (field : field_reading (drop (len_header h) s) ≡ done f)
    (room : needed h f fecf ≤ len_frame h) where
  stored : (checksum_of (take (len_frame h) s) ≡ 0) ↔ (checksum_of (take (len_frame h - 2) s) ≡ word (len_frame h - 2) 2 s)
  stored = residue (len_frame h) s oct (omega (arith, room)) fits

  pub passes_exactly : (frame_reading s fecf ≡ done (frame_with h f (len_frame h - needed h f fecf) s)) ↔
      (checksum_of (take (len_frame h - 2) s) ≡ word (len_frame h - 2) 2 s)
  passes_exactly = (
    λ e. stored.0 ((read_done s fecf (frame_with h f (len_frame h - needed h f fecf) s) e).check refl),
    λ e.
        done_reads s fecf (frame_with h f (len_frame h - needed h f fecf) s)
        (record { header = header; whole = fits; field = field; room = room; check = λ q. stored.1 e; frame = refl }),
  )
