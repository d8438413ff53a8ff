-- The layout of a whole frame over its fields (docs/RULES.md, section 1.3): primary header, data field header, data, OCF if its flag is set,
-- FECF if asked for.
use Rattle.std.specs.Prelude.{◌≡◌, ℕ, ◌+◌, ◌^◌, ◌<◌, Bool, true, false, cond, List, [], ◌++◌, length, Option, Some, None}
use Rattle.uslp_octets.specs.Octets.{AreOctets, octets, pack}
use Rattle.uslp_checksum.specs.Checksum.{checksum_of}
use Rattle.uslp_kinds.specs.declared.ManagedParameters.{ManagedParameters}
use Rattle.uslp_primary_header.specs.Header.{table, len_header, len_frame}
use Rattle.uslp_primary_header.specs.Header as header
use Rattle.uslp_primary_header.specs.declared.PrimaryHeader.{PrimaryHeader}
use Rattle.uslp_data_field_header.specs.Field.{field_table, len_field}
use Rattle.uslp_data_field_header.specs.Field as field
use Rattle.uslp_data_field_header.specs.declared.TransferFrameDataFieldHeader.{TransferFrameDataFieldHeader}

-- what a frame is laid out from
pub record Fields : Type 0 where
  pub header : PrimaryHeader
  pub field : TransferFrameDataFieldHeader
  pub contents : List ℕ
  pub ocf : Option ℕ

-- where data starts
abbrev pub data_start : PrimaryHeader → TransferFrameDataFieldHeader → ℕ
data_start h f = len_header h + len_field f

-- what a frame needs besides its data: headers, OCF and FECF
abbrev pub needed : PrimaryHeader → TransferFrameDataFieldHeader → ManagedParameters → ℕ
needed h f managed = data_start h f + cond h.ocf_flag 4 0 + cond managed.has_fecf 2 0

abbrev pub present : Option ℕ → Bool
present None = false
present (Some n) = true

abbrev pub ocf_octets : Option ℕ → List ℕ
ocf_octets None = []
ocf_octets (Some n) = octets 4 n

-- the octets before the FECF; the header's spare bits are a parameter
abbrev pub body : ℕ → Fields → List ℕ
body spare x = pack (table spare x.header) ++ (pack (field_table x.field) ++ (x.contents ++ ocf_octets x.ocf))

-- the FECF is the checksum of all octets before it
abbrev pub with_fecf : Bool → List ℕ → List ℕ
with_fecf true s = s ++ octets 2 (checksum_of s)
with_fecf false s = s

abbrev pub layout : ManagedParameters → ℕ → Fields → List ℕ
layout managed spare x = with_fecf managed.has_fecf (body spare x)

-- fields that make a frame: each fits its place, the OCF flag says whether there is one, and the length is the total
pub record WellFormed (managed : ManagedParameters) (x : Fields) : Type 0 where
  pub header_fits : header.Fitting x.header
  pub field_fits : field.Fitting x.field
  pub contents_fit : AreOctets x.contents
  pub ocf_fits : (n : ℕ) → x.ocf ≡ Some n → n < 2 ^ 32
  pub ocf_flagged : x.header.ocf_flag ≡ present x.ocf
  pub is_total : len_frame x.header ≡ needed x.header x.field managed + length x.contents
