-- The rows of a header: those of its table fit, and make the header again; those that stand in octets make a header whose table they are.
use mathlib.Core.Path.{◌≡◌, refl}
use Prim.Native.Nat.{ℕ, zero, suc, ◌%◌, ◌<◌}
use mathlib.Core.Bool.{Bool, true, false}
use mathlib.Core.List.{◌++◌}
use native.Mathlib.Omega.{arith}
use native.Mathlib.Nat.{mod-lt}
use lib.Dec.{lit<, eqb}
use Rattle.uslp_octets.specs.Octets.{Fits, octets, pack, split, named}
use Rattle.uslp_octets.proofs.Laws.{pack_append}
use Rattle.uslp_kinds.specs.Outcome.{done}
use Rattle.uslp_kinds.proofs.Cases.{source_back, source_number, source_lt, bypass_back, bypass_number_lem, bypass_lt, command_back, command_number_lem, command_lt}
use Rattle.uslp_primary_header.specs.Header.{flag, fixed_table, table, header_of, format, header_checking, Fitting}
use Rattle.uslp_primary_header.specs.declared.PrimaryHeader.{PrimaryHeader}
use Rattle.uslp_primary_header.proofs.Checks.{channel_in, map_in, width_in_lem, count_in}

-- headers are equal by their fields
pub header_eq : {a b : PrimaryHeader}
    → a.spacecraft_id ≡ b.spacecraft_id
    → a.source_or_dest_field ≡ b.source_or_dest_field
    → a.vc_id ≡ b.vc_id
    → a.map_id ≡ b.map_id
    → a.frame_len_field ≡ b.frame_len_field
    → a.sequence_control_flag ≡ b.sequence_control_flag
    → a.protocol_control_command_flag ≡ b.protocol_control_command_flag
    → a.ocf_flag ≡ b.ocf_flag
    → a.vc_frame_count_len ≡ b.vc_frame_count_len
    → a.vc_frame_count ≡ b.vc_frame_count
    → a ≡ b
header_eq p₀ p₁ p₂ p₃ p₄ p₅ p₆ p₇ p₈ p₉ =
    λ i. record {
      spacecraft_id = p₀ i;
      source_or_dest_field = p₁ i;
      vc_id = p₂ i;
      map_id = p₃ i;
      frame_len_field = p₄ i;
      sequence_control_flag = p₅ i;
      protocol_control_command_flag = p₆ i;
      ocf_flag = p₇ i;
      vc_frame_count_len = p₈ i;
      vc_frame_count = p₉ i;
    }

-- a flag and its bit
flag_lt : (b : Bool) → flag b < 2
flag_lt true = lit< tt
flag_lt false = lit< tt

pub flag_back : (b : Bool) → eqb (flag b) 1 ≡ b
flag_back true = refl
flag_back false = refl

flag_number : (n : ℕ) → n < 2 → flag (eqb n 1) ≡ n
flag_number zero h = refl
flag_number (suc zero) h = refl
flag_number (suc (suc n)) h = absurd (omega arith)

-- the rows of a header's table
pub rows_header : (spare : ℕ) (h : PrimaryHeader) → header_of (fixed_table spare h) h.vc_frame_count ≡ h
rows_header spare h = rw (source_back, bypass_back, command_back, flag_back)

pub rows_fit : (spare : ℕ) (h : PrimaryHeader) → spare < 4 → Fitting h → Fits (fixed_table spare h)
rows_fit spare h small f =
    omega (
      arith,
      source_lt h.source_or_dest_field,
      channel_in h f.checks_pass,
      map_in h f.checks_pass,
      bypass_lt h.sequence_control_flag,
      command_lt h.protocol_control_command_flag,
      flag_lt h.ocf_flag,
      width_in_lem h f.checks_pass,
    )

-- the rows that a number holds, where they have the version and are not truncated
pub rows_back : (n count : ℕ) → named "version" (split format n) ≡ 12 → named "truncated" (split format n) ≡ 0
    → fixed_table (named "spare" (split format n)) (header_of (split format n) count) ≡ split format n
rows_back n count version whole =
    let rows = split format n in
    let bit : (m : ℕ) → m % 2 < 2 = λ m. mod-lt m (lit< tt) in
    rw (
      source_number (named "source or destination" rows) (bit _),
      bypass_number_lem (named "bypass" rows) (bit _),
      command_number_lem (named "protocol command" rows) (bit _),
      flag_number (named "OCF flag" rows) (bit _),
      version,
      whole,
    )

-- the count stands behind the seven octets
pub table_split : (spare : ℕ) (h : PrimaryHeader) → header_checking h ≡ done h
    → pack (table spare h) ≡ pack (fixed_table spare h) ++ octets h.vc_frame_count_len h.vc_frame_count
table_split spare h e = pack_append "count" 7 h.vc_frame_count_len h.vc_frame_count (fixed_table spare h) refl (count_in h e)
