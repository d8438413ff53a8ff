-- The primary header: CCSDS 732.1-B's table of bit fields (docs/RULES.md, section 1.1), and what each call answers, in the orders of section 3.
use Rattle.std.specs.Prelude.{◌≡◌, ℕ, ◌+◌, ◌*◌, ◌-◌, ◌<◌, Bool, true, false, not, ◌&&◌, ◌||◌, List, [], ◌∷◌, ◌++◌, length, drop, ltb, eqb}
use Rattle.uslp_octets.specs.Octets.{BitField, pack, unpack, named, word}
use Rattle.uslp_kinds.specs.Outcome.{Outcome, done, refused, Written, only_if_done, first_of}
use Rattle.uslp_kinds.specs.Kinds.{source_or_dest_number, source_or_dest_of, bypass_number, bypass_of, command_number, command_of, count_bad}
use Rattle.uslp_kinds.specs.declared.SourceOrDestField.{SourceOrDestField}
use Rattle.uslp_kinds.specs.declared.BypassSequenceControlFlag.TheVariants.{SequenceControlledQoS}
use Rattle.uslp_kinds.specs.declared.ProtocolControlCommandFlag.TheVariants.{TfdfContainsUserData}
use Rattle.uslp_primary_header.specs.declared.PrimaryHeader.{PrimaryHeader}

abbrev pub flag : Bool → ℕ
flag true = 1
flag false = 0

-- the fields of the first seven octets, from the first bit on, each with its bits; the two spare bits are a parameter
abbrev pub fixed_table : ℕ → PrimaryHeader → List BitField
fixed_table spare h =
    ("version", 4, 12)
    ∷ ("spacecraft id", 16, h.spacecraft_id)
    ∷ ("source or destination", 1, source_or_dest_number h.source_or_dest_field)
    ∷ ("channel", 6, h.vc_id)
    ∷ ("map id", 4, h.map_id)
    ∷ ("truncated", 1, 0)
    ∷ ("length less one", 16, h.frame_len_field)
    ∷ ("bypass", 1, bypass_number h.sequence_control_flag)
    ∷ ("protocol command", 1, command_number h.protocol_control_command_flag)
    ∷ ("spare", 2, spare)
    ∷ ("OCF flag", 1, flag h.ocf_flag)
    ∷ ("count width", 3, h.vc_frame_count_len)
    ∷ []

-- and then the count, in as many octets as the field before it says
abbrev pub table : ℕ → PrimaryHeader → List BitField
table spare h = fixed_table spare h ++ ("count", 8 * h.vc_frame_count_len, h.vc_frame_count) ∷ []

abbrev pub len_header : PrimaryHeader → ℕ
len_header h = 7 + h.vc_frame_count_len

-- the frame's total octets: the header holds them less one
abbrev pub len_frame : PrimaryHeader → ℕ
len_frame h = h.frame_len_field + 1

-- the checks of a header that is written: 10, 8
abbrev pub header_checks : {A : Type 0} → PrimaryHeader → List (Bool × Outcome A)
header_checks h =
    (ltb 63 h.vc_id || ltb 15 h.map_id || ltb 7 h.vc_frame_count_len, refused 10 [])
    ∷ (count_bad h.vc_frame_count_len h.vc_frame_count, refused 8 (h.vc_frame_count ∷ h.vc_frame_count_len ∷ []))
    ∷ []

unfoldable pub header_checking : PrimaryHeader → Outcome PrimaryHeader
header_checking h = first_of (header_checks h) (done h)

-- making a header refuses 10; a length of 0 is kept as 1
unfoldable pub header_making : ℕ → SourceOrDestField → ℕ → ℕ → ℕ → Outcome PrimaryHeader
header_making spacecraft role channel map length =
    first_of
    ((ltb 63 channel || ltb 15 map, refused 10 []) ∷ [])
    (done
    (record {
      spacecraft_id = spacecraft;
      source_or_dest_field = role;
      vc_id = channel;
      map_id = map;
      frame_len_field = length - 1;
      sequence_control_flag = SequenceControlledQoS;
      protocol_control_command_flag = TfdfContainsUserData;
      ocf_flag = false;
      vc_frame_count_len = 0;
      vc_frame_count = 0;
    }))

-- the header with another count, or another length
abbrev pub with_count : ℕ → ℕ → PrimaryHeader → PrimaryHeader
with_count width count h =
    record {
      spacecraft_id = h.spacecraft_id;
      source_or_dest_field = h.source_or_dest_field;
      vc_id = h.vc_id;
      map_id = h.map_id;
      frame_len_field = h.frame_len_field;
      sequence_control_flag = h.sequence_control_flag;
      protocol_control_command_flag = h.protocol_control_command_flag;
      ocf_flag = h.ocf_flag;
      vc_frame_count_len = width;
      vc_frame_count = count;
    }

abbrev pub with_length : ℕ → PrimaryHeader → PrimaryHeader
with_length total h =
    record {
      spacecraft_id = h.spacecraft_id;
      source_or_dest_field = h.source_or_dest_field;
      vc_id = h.vc_id;
      map_id = h.map_id;
      frame_len_field = total - 1;
      sequence_control_flag = h.sequence_control_flag;
      protocol_control_command_flag = h.protocol_control_command_flag;
      ocf_flag = h.ocf_flag;
      vc_frame_count_len = h.vc_frame_count_len;
      vc_frame_count = h.vc_frame_count;
    }

-- setting the count refuses 10 for the width alone, then 8
unfoldable pub count_setting : PrimaryHeader → ℕ → ℕ → Outcome PrimaryHeader
count_setting h width count =
    first_of ((ltb 7 width, refused 10 []) ∷ (count_bad width count, refused 8 (count ∷ width ∷ [])) ∷ []) (done (with_count width count h))

-- setting the length refuses 12 above 65,536; 0 is kept as 1
unfoldable pub length_setting : PrimaryHeader → ℕ → Outcome PrimaryHeader
length_setting h total = first_of ((ltb 65536 total, refused 12 []) ∷ []) (done (with_length total h))

-- the equality of the Rust: every field but the count's width
abbrev pub same_but_width : PrimaryHeader → PrimaryHeader → Bool
same_but_width a b =
    eqb a.spacecraft_id b.spacecraft_id
    && eqb (source_or_dest_number a.source_or_dest_field) (source_or_dest_number b.source_or_dest_field)
    && eqb a.vc_id b.vc_id
    && eqb a.map_id b.map_id
    && eqb a.frame_len_field b.frame_len_field
    && eqb (bypass_number a.sequence_control_flag) (bypass_number b.sequence_control_flag)
    && eqb (command_number a.protocol_control_command_flag) (command_number b.protocol_control_command_flag)
    && eqb (flag a.ocf_flag) (flag b.ocf_flag)
    && eqb a.vc_frame_count b.vc_frame_count

-- the header of these fields and this count; the spare bits are not looked at
abbrev pub header_of : List BitField → ℕ → PrimaryHeader
header_of rows count =
    record {
      spacecraft_id = named "spacecraft id" rows;
      source_or_dest_field = source_or_dest_of (named "source or destination" rows);
      vc_id = named "channel" rows;
      map_id = named "map id" rows;
      frame_len_field = named "length less one" rows;
      sequence_control_flag = bypass_of (named "bypass" rows);
      protocol_control_command_flag = command_of (named "protocol command" rows);
      ocf_flag = eqb (named "OCF flag" rows) 1;
      vc_frame_count_len = named "count width" rows;
      vc_frame_count = count;
    }

-- the names and bits of the fields, whatever their values; and the fields that stand in the octets
abbrev pub format : List BitField
format = fixed_table 0 (header_of [] 0)

abbrev pub rows_in : List ℕ → List BitField
rows_in s = unpack format s

abbrev pub spare_in : List ℕ → ℕ
spare_in s = named "spare" (rows_in s)

-- reading the header of these fields from octets s: 1 (4 octets), 3, 1 (7 octets), 4, 1 (count)
abbrev pub reading_of : List BitField → List ℕ → Outcome PrimaryHeader
reading_of rows s =
    first_of
    ((ltb (length s) 4, refused 1 (length s ∷ 4 ∷ []))
    ∷ (eqb (named "truncated" rows) 1, refused 3 [])
    ∷ (ltb (length s) 7, refused 1 (length s ∷ 7 ∷ []))
    ∷ (not (eqb (named "version" rows) 12), refused 4 (named "version" rows ∷ []))
    ∷ (ltb (length s) (7 + named "count width" rows), refused 1 (length s ∷ (7 + named "count width" rows) ∷ []))
    ∷ [])
    (done (header_of rows (word 7 (named "count width" rows) s)))

unfoldable pub header_reading : List ℕ → Outcome PrimaryHeader
header_reading s = reading_of (rows_in s) s

-- writing a header over octets s: 10, 8, 2; its length and OCF flag as they are, the octets past it stay
unfoldable pub header_writing : PrimaryHeader → List ℕ → Written ℕ
header_writing h s =
    only_if_done
    (first_of
    (header_checks h ++ (ltb (length s) (len_header h), refused 2 (length s ∷ len_header h ∷ [])) ∷ [])
    (done (len_header h)))
    (pack (table 0 h) ++ drop (len_header h) s)
    s

-- a header that the layout can carry: the machine's own bounds, and the checks of writing pass
pub record Fitting (h : PrimaryHeader) : Type 0 where
  pub spacecraft_fits : h.spacecraft_id < 65536
  pub length_fits : h.frame_len_field < 65536
  pub checks_pass : header_checking h ≡ done h
