-- What demand 2 claims of octets: that they begin with the layout of some fields; and when they begin with a frame whose FECF is wrong.
use Rattle.std.specs.Prelude.{◌≡◌, List, ℕ, ◌<◌, ◌≤◌, length, take, drop}
use Rattle.uslp_kinds.specs.Outcome.{done}
use Rattle.uslp_kinds.specs.Managed.{fecf}
use Rattle.uslp_kinds.specs.declared.ManagedParameters.{ManagedParameters}
use Rattle.uslp_primary_header.specs.Header.{len_header, len_frame, header_reading}
use Rattle.uslp_primary_header.specs.declared.PrimaryHeader.{PrimaryHeader}
use Rattle.uslp_data_field_header.specs.Field.{field_reading}
use Rattle.uslp_data_field_header.specs.declared.TransferFrameDataFieldHeader.{TransferFrameDataFieldHeader}
use Rattle.uslp_layout.specs.Layout.{Fields, data_start, needed, layout, WellFormed}
use Rattle.uslp_reader.specs.Reader.{stored_fecf, computed_fecf}
use Rattle.uslp_reader.specs.declared.TransferFrame.{TransferFrame}

-- the frame that these fields make, as the reader gives it
abbrev pub frame_of : Fields → TransferFrame
frame_of x =
    record {
      primary_header = x.header;
      data_field_header = x.field;
      operational_control_field = x.ocf;
      data_start = data_start x.header x.field;
      data_len = length x.contents;
    }

-- the octets begin with the layout of these fields, with some spare bits
pub record Laid (s : List ℕ) (managed : ManagedParameters) (x : Fields) : Type 0 where
  pub spare : ℕ
  pub spare_fits : spare < 4
  pub well_formed : WellFormed managed x
  pub begins : take (len_frame x.header) s ≡ layout managed spare x

-- both headers stand, the frame's length holds them, the OCF and the FECF, and the FECF as stored and as computed are these two, which differ
pub record WrongFecf (s : List ℕ) (stored computed : ℕ) : Type 0 where
  pub h : PrimaryHeader
  pub f : TransferFrameDataFieldHeader
  pub header : header_reading s ≡ done h
  pub whole : len_frame h ≤ length s
  pub field : field_reading (drop (len_header h) s) ≡ done f
  pub room : needed h f fecf ≤ len_frame h
  pub is_stored : stored ≡ stored_fecf h s
  pub is_computed : computed ≡ computed_fecf h s
  pub differ : stored ≡ computed → ⊥
