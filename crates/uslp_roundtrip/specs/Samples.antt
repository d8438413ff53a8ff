-- Frame F (docs/RULES.md, section 10), and headers, frames and octets that the claims are tried on.
use Rattle.std.specs.Prelude.{Bool, true, false, List, [], ◌∷◌, ℕ, Some, None}
use Rattle.uslp_kinds.specs.declared.SourceOrDestField.TheVariants.{Dest}
use Rattle.uslp_kinds.specs.declared.BypassSequenceControlFlag.TheVariants.{SequenceControlledQoS}
use Rattle.uslp_kinds.specs.declared.ProtocolControlCommandFlag.TheVariants.{TfdfContainsUserData}
use Rattle.uslp_kinds.specs.declared.ConstructionRule.TheVariants.{PacketSpanningMultipleFrames, NoSegmentation}
use Rattle.uslp_kinds.specs.declared.UslpProtocolId.TheVariants.{UserDefinedOctetStream, Idle}
use Rattle.uslp_primary_header.specs.Header.{with_count}
use Rattle.uslp_primary_header.specs.declared.PrimaryHeader.{PrimaryHeader}
use Rattle.uslp_data_field_header.specs.declared.TransferFrameDataFieldHeader.{TransferFrameDataFieldHeader}
use Rattle.uslp_writer.specs.declared.TransferFrameCreator.{TransferFrameCreator}
use Rattle.uslp_reader.specs.declared.TransferFrame.{TransferFrame}

-- frame F: spacecraft 0x1234, destination, channel 5, map 3, count 7 in one octet, rule 7, protocol 4, data 0A F0
abbrev pub octets_f : List ℕ
octets_f = 0xC1 ∷ 0x23 ∷ 0x48 ∷ 0xA6 ∷ 0x00 ∷ 0x0A ∷ 0x01 ∷ 0x07 ∷ 0xE4 ∷ 0x0A ∷ 0xF0 ∷ []

-- its primary header, with this OCF flag and total less one
abbrev pub header_f : Bool → ℕ → PrimaryHeader
header_f ocf less =
    record {
      spacecraft_id = 0x1234;
      source_or_dest_field = Dest;
      vc_id = 5;
      map_id = 3;
      frame_len_field = less;
      sequence_control_flag = SequenceControlledQoS;
      protocol_control_command_flag = TfdfContainsUserData;
      ocf_flag = ocf;
      vc_frame_count_len = 1;
      vc_frame_count = 7;
    }

abbrev pub some : PrimaryHeader
some = header_f false 10

abbrev pub flagged : PrimaryHeader
flagged = header_f true 14

-- the same with no count
abbrev pub made : PrimaryHeader
made = with_count 0 0 some

-- rule 7 with no pointer, and rule 0 with one
abbrev pub whole : TransferFrameDataFieldHeader
whole = record { construction_rule = NoSegmentation; uslp_protocol_id = UserDefinedOctetStream; fhp_or_lvo = None }

abbrev pub spanning : TransferFrameDataFieldHeader
spanning = record { construction_rule = PacketSpanningMultipleFrames; uslp_protocol_id = Idle; fhp_or_lvo = Some 0x0AF0 }

-- frame F as it is read, and what it is written from: with its count, with none, and with an OCF flag but no OCF
abbrev pub read_f : TransferFrame
read_f =
    record {
      primary_header = some;
      data_field_header = whole;
      operational_control_field = None;
      data_start = 9;
      data_len = 2;
    }

abbrev pub frame_f : TransferFrameCreator
frame_f = record { primary_header = some; data_field_header = whole; operational_control_field = None; has_fecf = false }

abbrev pub plain : TransferFrameCreator
plain = record { primary_header = made; data_field_header = whole; operational_control_field = None; has_fecf = false }

abbrev pub flagged_only : TransferFrameCreator
flagged_only = record { primary_header = flagged; data_field_header = whole; operational_control_field = None; has_fecf = false }

-- eleven octets to write over
abbrev pub zeros : List ℕ
zeros = 0 ∷ 0 ∷ 0 ∷ 0 ∷ 0 ∷ 0 ∷ 0 ∷ 0 ∷ 0 ∷ 0 ∷ 0 ∷ []
