-- The bounds that the machine's own numbers keep in what is given to a writing call.
use Rattle.std.specs.Prelude.{◌≡◌, List, ℕ, ◌^◌, ◌<◌, Some}
use Rattle.uslp_octets.specs.Octets.{AreOctets}
use Rattle.uslp_writer.specs.declared.TransferFrameCreator.{TransferFrameCreator}

pub record Bounds (c : TransferFrameCreator) (contents : List ℕ) : Type 0 where
  pub spacecraft_fits : c.primary_header.spacecraft_id < 65536
  pub pointer_fits : (p : ℕ) → c.data_field_header.fhp_or_lvo ≡ Some p → p < 65536
  pub ocf_fits : (n : ℕ) → c.operational_control_field ≡ Some n → n < 2 ^ 32
  pub contents_fit : AreOctets contents
