-- Demand 2 (docs/RULES.md, section 7) as a claim on any reader and on any writer.
use Rattle.std.specs.Prelude.{◌≡◌, ◌↔◌, List, ◌++◌, ℕ, ◌≤◌, length, drop}
use Rattle.uslp_octets.specs.Octets.{AreOctets}
use Rattle.uslp_kinds.specs.Outcome.{Outcome, done, refused, Written, leaving}
use Rattle.uslp_kinds.specs.declared.ManagedParameters.{ManagedParameters}
use Rattle.uslp_layout.specs.Layout.{Fields, layout, WellFormed}
use Rattle.uslp_writer.specs.Frame.{total, managed_of, fields_of}
use Rattle.uslp_writer.specs.declared.TransferFrameCreator.{TransferFrameCreator}
use Rattle.uslp_reader.specs.Reader.{contents_in}
use Rattle.uslp_reader.specs.declared.TransferFrame.{TransferFrame}
use Rattle.uslp_roundtrip.specs.Laid.{frame_of, Laid}
use Rattle.uslp_roundtrip.specs.Bounds.{Bounds}

-- of octets and the managed parameters, the frame or the refusal
abbrev pub Reader : Type 0
Reader = List ℕ → ManagedParameters → Outcome TransferFrame

-- a frame and its data are read exactly if its fields are laid out at the front of the octets
abbrev pub Demand2Reader : Reader → Type 0
Demand2Reader R =
    (s : List ℕ) (managed : ManagedParameters) (x : Fields) → AreOctets s
    → ((R s managed ≡ done (frame_of x)) × (contents_in (frame_of x) s ≡ x.contents)) ↔ Laid s managed x

-- of a frame but for its data, the data, and the octets to write over, the answer and the octets left
abbrev pub Writer : Type 0
Writer = TransferFrameCreator → List ℕ → List ℕ → Written ℕ

-- the fields that a frame with these data is written from make a frame, once length and OCF flag are updated
abbrev pub MakesFrame : TransferFrameCreator → List ℕ → Type 0
MakesFrame c d = WellFormed (managed_of c) (fields_of c d)

-- what is left where the frame is written: its layout, and the octets past it as they were
abbrev pub over : TransferFrameCreator → List ℕ → List ℕ → List ℕ
over c d s = layout (managed_of c) 0 (fields_of c d) ++ drop (total c (length d)) s

-- a frame is written exactly if its fields make a frame and have room; what is refused leaves the octets as they were
pub record Demand2Writer (W : Writer) : Type 0 where
  pub writes : (c : TransferFrameCreator) (d s : List ℕ) → MakesFrame c d → total c (length d) ≤ length s
      → W c d s ≡ leaving (done (total c (length d))) (over c d s)
  pub wrote : (c : TransferFrameCreator) (d s s' : List ℕ) (n : ℕ) → Bounds c d → W c d s ≡ leaving (done n) s'
      → MakesFrame c d × (total c (length d) ≤ length s) × (n ≡ total c (length d)) × (s' ≡ over c d s)
  pub kept : (c : TransferFrameCreator) (d s s' : List ℕ) (k : ℕ) (vs : List ℕ) → W c d s ≡ leaving (refused k vs) s' → s' ≡ s
