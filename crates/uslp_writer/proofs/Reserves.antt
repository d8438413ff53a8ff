-- What putting the headers and the OCF of a frame asks for and leaves.
use mathlib.Core.Path.{◌≡◌, ap, ap₂, sym, ◌∙◌}
use Prim.Native.Nat.{ℕ, ◌+◌, ◌≤◌}
use mathlib.Core.List.{List, ◌++◌}
use native.Mathlib.Omega.{arith}
use lib.ListN.{length, take, drop, length-append, length-drop}
use Rattle.uslp_kinds.specs.Outcome.{done}
use Rattle.uslp_primary_header.specs.Header.{header_checking}
use Rattle.uslp_data_field_header.specs.Field.{field_checking}
use Rattle.uslp_layout.specs.Layout.{data_start, ocf_octets}
use Rattle.uslp_writer.specs.Frame.{frame_length, header_octets}
use Rattle.uslp_writer.specs.Reserved.{reservation, reserved_octets}
use Rattle.uslp_writer.specs.declared.TransferFrameCreator.{TransferFrameCreator}
use Rattle.uslp_writer.specs.declared.TransferFrameCreatorWithReservedData.{TransferFrameCreatorWithReservedData}
use Rattle.uslp_writer.proofs.Flags.{total_parts}
use Rattle.uslp_writer.proofs.Lengths.{given_ready}
use Rattle.uslp_writer.proofs.Headers.{length_headers}
use Rattle.uslp_writer.proofs.Parts.{behind_put}

-- a reservation with these numbers
abbrev reserved_at : TransferFrameCreator → ℕ → ℕ → ℕ → TransferFrameCreatorWithReservedData
reserved_at c n start octets = record { data_index = start; data_size = n; len_written = octets; has_fecf = c.has_fecf }

module _ (c : TransferFrameCreator) (n m : ℕ) (s : List ℕ) (e : frame_length c n ≡ done m) (room : m ≤ length s) where
  pub put_ready : (header_checking c.primary_header ≡ done c.primary_header) × (field_checking c.data_field_header ≡ done c.data_field_header)
      × (m ≤ 65536) × (data_start c.primary_header c.data_field_header ≤ length s)
  put_ready =
      let g = given_ready c n e in
      (g.0.header_passes, g.0.field_passes, omega (arith, g.0.fits, g.1), omega (arith, total_parts c n g.0.ocf_given, g.1))

  module _ (start : ℕ) (b : List ℕ) (at : start ≡ data_start c.primary_header c.data_field_header) (put : b ≡ header_octets c m ++ drop start s) where
    length_front : length (header_octets c m) ≡ start
    length_front = length_headers c m put_ready.1 ∙ sym at

    pub end_in : start + n ≤ 65536
    end_in =
        let g = given_ready c n e in
        omega (arith, at, g.0.fits, total_parts c n g.0.ocf_given)

    pub ocf_in : start + n + length (ocf_octets c.operational_control_field) ≤ length b
    ocf_in =
        let g = given_ready c n e in
        omega
        (arith, at, g.1, total_parts c n g.0.ocf_given, ap length put, length-append (header_octets c m) (drop start s), length_front, length-drop start s)

    pub reserved_put : (y : List ℕ)
        → y ≡ take (start + n) b ++ (ocf_octets c.operational_control_field ++ drop (start + n + length (ocf_octets c.operational_control_field)) b)
        → (reserved_at c n start m ≡ reservation c n) × (y ≡ reserved_octets c n s)
    reserved_put y left = (
      ap₂ (λ (i t : ℕ). reserved_at c n i t) at (sym (given_ready c n e).1),
      left
          ∙ rw (
            put,
            behind_put start n (length (ocf_octets c.operational_control_field)) s (header_octets c m)
                (ocf_octets c.operational_control_field) length_front,
            at,
            ← (given_ready c n e).1,
          ),
    )
