-- Writing a frame (docs/RULES.md, section 4.1): the header as it is completed, and what the calls answer, in their order.
use Rattle.std.specs.Prelude.{ℕ, ◌+◌, Bool, not, ◌&&◌, ◌||◌, List, [], ◌∷◌, ◌++◌, length, drop, ltb}
use Rattle.uslp_octets.specs.Octets.{pack}
use Rattle.uslp_kinds.specs.Outcome.{Outcome, done, refused, Written, only_if_done, first_of}
use Rattle.uslp_kinds.specs.declared.ManagedParameters.{ManagedParameters}
use Rattle.uslp_primary_header.specs.Header.{table, header_checks, with_length}
use Rattle.uslp_primary_header.specs.declared.PrimaryHeader.{PrimaryHeader}
use Rattle.uslp_data_field_header.specs.Field.{field_table, field_checks}
use Rattle.uslp_layout.specs.Layout.{Fields, needed, present, layout}
use Rattle.uslp_writer.specs.declared.TransferFrameCreator.{TransferFrameCreator}

-- an OCF given sets the flag
abbrev pub flagged : TransferFrameCreator → PrimaryHeader
flagged c =
    record {
      spacecraft_id = c.primary_header.spacecraft_id;
      source_or_dest_field = c.primary_header.source_or_dest_field;
      vc_id = c.primary_header.vc_id;
      map_id = c.primary_header.map_id;
      frame_len_field = c.primary_header.frame_len_field;
      sequence_control_flag = c.primary_header.sequence_control_flag;
      protocol_control_command_flag = c.primary_header.protocol_control_command_flag;
      ocf_flag = present c.operational_control_field || c.primary_header.ocf_flag;
      vc_frame_count_len = c.primary_header.vc_frame_count_len;
      vc_frame_count = c.primary_header.vc_frame_count;
    }

-- what reader and writer have to agree on for such a frame
abbrev pub managed_of : TransferFrameCreator → ManagedParameters
managed_of c = record { has_fecf = c.has_fecf }

-- the total octets of a frame with n octets of data
abbrev pub total : TransferFrameCreator → ℕ → ℕ
total c n = needed (flagged c) c.data_field_header (managed_of c) + n

-- the header as it is written in a frame of so many octets: with the flag and the length updated
abbrev pub completed : TransferFrameCreator → ℕ → PrimaryHeader
completed c octets = with_length octets (flagged c)

-- the flag is set and no OCF given
abbrev pub ocf_missing : TransferFrameCreator → Bool
ocf_missing c = c.primary_header.ocf_flag && not (present c.operational_control_field)

-- the checks of a frame that is written, but for the buffer's: 10, 8, 9, 11, 12
abbrev pub frame_checks : {A : Type 0} → TransferFrameCreator → ℕ → List (Bool × Outcome A)
frame_checks c n =
    header_checks c.primary_header
    ++ (field_checks c.data_field_header
    ++ (ocf_missing c, refused 11 [])
    ∷ (ltb 65536 (total c n), refused 12 [])
    ∷ [])

-- the length of a frame that can be written
unfoldable pub frame_length : TransferFrameCreator → ℕ → Outcome ℕ
frame_length c n = first_of (frame_checks c n) (done (total c n))

-- both headers as they are written
abbrev pub header_octets : TransferFrameCreator → ℕ → List ℕ
header_octets c octets = pack (table 0 (completed c octets)) ++ pack (field_table c.data_field_header)

-- the fields of the frame with these data, and its octets
abbrev pub fields_of : TransferFrameCreator → List ℕ → Fields
fields_of c contents =
    record {
      header = completed c (total c (length contents));
      field = c.data_field_header;
      contents = contents;
      ocf = c.operational_control_field;
    }

abbrev pub frame_octets : TransferFrameCreator → List ℕ → List ℕ
frame_octets c contents = layout (managed_of c) 0 (fields_of c contents)

-- writing the frame over octets s: 10, 8, 9, 11, 12, 2; the octets past the total stay
unfoldable pub frame_writing : TransferFrameCreator → List ℕ → List ℕ → Written ℕ
frame_writing c contents s =
    only_if_done
    (first_of
    (frame_checks c (length contents) ++ (ltb (length s) (total c (length contents)), refused 2 (length s ∷ total c (length contents) ∷ [])) ∷ [])
    (done (total c (length contents))))
    (frame_octets c contents ++ drop (total c (length contents)) s)
    s
