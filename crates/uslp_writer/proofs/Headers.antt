-- Both headers of a frame as they are written: that they pass their checks, how long they are, and what writing them leaves.
use mathlib.Core.Path.{◌≡◌, refl, ap, ap₂, sym, ◌∙◌}
use Prim.Native.Nat.{ℕ, ◌+◌, ◌-◌, ◌≤◌}
use mathlib.Core.List.{List, ◌++◌}
use native.Mathlib.Omega.{arith}
use lib.ListN.{length, drop, length-append, length-drop}
use borrow.Rule.Slice.PartMut.{put_mid, mid_of, mid_len}
use Rattle.uslp_octets.specs.Octets.{pack}
use Rattle.uslp_kinds.specs.Outcome.{Outcome, done, leaving}
use Rattle.uslp_kinds.proofs.Back.{leaving_one}
use Rattle.uslp_primary_header.specs.Header.{table, len_header, header_checking, header_writing}
use Rattle.uslp_primary_header.specs.declared.PrimaryHeader.{PrimaryHeader}
use Rattle.uslp_primary_header.proofs.Checks.{channel_in, map_in, width_in_lem, count_in, checks_done}
use Rattle.uslp_primary_header.proofs.RoundTrip as header
use Rattle.uslp_primary_header.proofs.WritePaths as header_paths
use Rattle.uslp_data_field_header.specs.Field.{field_table, len_field, field_checking, field_writing}
use Rattle.uslp_data_field_header.proofs.RoundTrip as field
use Rattle.uslp_data_field_header.proofs.Writing as field_paths
use Rattle.uslp_layout.specs.Layout.{data_start}
use Rattle.uslp_writer.specs.Frame.{completed, header_octets}
use Rattle.uslp_writer.specs.declared.TransferFrameCreator.{TransferFrameCreator}
use Rattle.uslp_writer.proofs.Parts.{tail_put}

-- flag and length do not matter to the checks
pub completed_passes : (c : TransferFrameCreator) (octets : ℕ) → header_checking c.primary_header ≡ done c.primary_header
    → header_checking (completed c octets) ≡ done (completed c octets)
completed_passes c octets e =
    let h = c.primary_header in
    checks_done (completed c octets) (channel_in h e) (map_in h e) (width_in_lem h e) (count_in h e)

pub length_headers : (c : TransferFrameCreator) (octets : ℕ) → field_checking c.data_field_header ≡ done c.data_field_header
    → length (header_octets c octets) ≡ data_start c.primary_header c.data_field_header
length_headers c octets e =
    length-append (pack (table 0 (completed c octets))) (pack (field_table c.data_field_header))
    ∙ ap₂ (λ (x y : ℕ). x + y) (header.length_table 0 (completed c octets)) (field.length_table c.data_field_header e)

module _ (c : TransferFrameCreator) (octets : ℕ) (s : List ℕ)
    (h : header_checking c.primary_header ≡ done c.primary_header)
    (f : field_checking c.data_field_header ≡ done c.data_field_header)
    (room : data_start c.primary_header c.data_field_header ≤ length s)
    {g : PrimaryHeader} (same : g ≡ completed c octets) {o : Outcome ℕ} {b : List ℕ} (e : leaving o b ≡ header_writing g s) where
  first_put : b ≡ pack (table 0 (completed c octets)) ++ drop (len_header c.primary_header) s
  first_put =
      (leaving_one (e ∙ ap (λ (x : PrimaryHeader). header_writing x s) same
      ∙ header_paths.writing_done (completed c octets) s (completed_passes c octets h) (omega arith))).1

  pub first_length : length b ≡ length s
  first_length =
      ap length first_put
      ∙ omega (
        arith,
        length-append (pack (table 0 (completed c octets))) (drop (len_header c.primary_header) s),
        header.length_table 0
            (completed c octets),
        length-drop (len_header c.primary_header) s,
      )

  pub both_put : (at : ℕ) → at ≡ len_header g → {p : Outcome ℕ} {ys : List ℕ} → leaving p ys ≡ field_writing c.data_field_header (mid_of at (length b - at) b)
      → put_mid at (length b - at) b ys ≡ header_octets c octets ++ drop (data_start c.primary_header c.data_field_header) s
  both_put at len {p} {ys} put =
      let k : at ≡ len_header c.primary_header = len ∙ ap len_header same in
      let long : length (mid_of at (length b - at) b) ≡ length b - at = mid_len at (length b) b (omega arith) in
      let first : b ≡ pack (table 0 (completed c octets)) ++ drop at s = rw k first_put in
      let w = field_paths.writing_done c.data_field_header (mid_of at (length b - at) b) f (len_field c.data_field_header) refl
      (omega (arith, long, k, first_length)) in
      rw (← k)
      (tail_put at (len_field c.data_field_header) s b (pack (table 0 (completed c octets))) (pack (field_table c.data_field_header)) ys first
      (header.length_table 0 (completed c octets) ∙ sym k) (omega (arith, first_length, k)) (leaving_one (put ∙ w)).1)
