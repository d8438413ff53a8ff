-- Outcomes as numbers, for a caller that is not Rattle.
use Rattle.std.specs.Prelude.{ℕ, true, false, cond, List, [], ◌∷◌, Option, Some, None}
use Rattle.uslp_kinds.specs.Outcome.{Outcome, done, refused, Written, leaving}
use Rattle.uslp_kinds.specs.Kinds.{source_or_dest_number, bypass_number, command_number, rule_number, protocol_number}
use Rattle.uslp_kinds.specs.declared.SourceOrDestField.TheVariants.{Dest}
use Rattle.uslp_kinds.specs.declared.BypassSequenceControlFlag.TheVariants.{SequenceControlledQoS}
use Rattle.uslp_kinds.specs.declared.ProtocolControlCommandFlag.TheVariants.{TfdfContainsUserData}
use Rattle.uslp_kinds.specs.declared.ConstructionRule.TheVariants.{NoSegmentation}
use Rattle.uslp_kinds.specs.declared.UslpProtocolId.TheVariants.{UserDefinedOctetStream}
use Rattle.uslp_reader.specs.declared.TransferFrame.{TransferFrame}
use Rattle.uslp_writer.specs.declared.TransferFrameCreator.{TransferFrameCreator}

-- none is told by the first number that is too large
abbrev pub pointer_number : Option ℕ → ℕ
pointer_number None = 0x10000
pointer_number (Some p) = p

abbrev pub ocf_number : Option ℕ → ℕ
ocf_number None = 0x100000000
ocf_number (Some o) = o

-- all that a frame says
abbrev pub numbers_of : TransferFrame → List ℕ
numbers_of f =
    f.primary_header.spacecraft_id
    ∷ source_or_dest_number f.primary_header.source_or_dest_field
    ∷ f.primary_header.vc_id
    ∷ f.primary_header.map_id
    ∷ f.primary_header.frame_len_field
    ∷ bypass_number f.primary_header.sequence_control_flag
    ∷ command_number f.primary_header.protocol_control_command_flag
    ∷ cond f.primary_header.ocf_flag 1 0
    ∷ f.primary_header.vc_frame_count_len
    ∷ f.primary_header.vc_frame_count
    ∷ rule_number f.data_field_header.construction_rule
    ∷ protocol_number f.data_field_header.uslp_protocol_id
    ∷ pointer_number f.data_field_header.fhp_or_lvo
    ∷ ocf_number f.operational_control_field
    ∷ f.data_start
    ∷ f.data_len
    ∷ []

-- 0 where it was done, else the refusal's number
abbrev pub told : {A : Type 0} → Outcome A → ℕ
told (done x) = 0
told (refused k vs) = k

abbrev pub numbers_found : Outcome TransferFrame → List ℕ → List ℕ
numbers_found (done f) found = numbers_of f
numbers_found (refused k vs) found = found

-- the frame that is written: user data for a destination, one octet of data field header, no OCF
abbrev pub timed : ℕ → ℕ → ℕ → ℕ → ℕ → TransferFrameCreator
timed spacecraft channel map width count =
    record {
      primary_header = record {
        spacecraft_id = spacecraft;
        source_or_dest_field = Dest;
        vc_id = channel;
        map_id = map;
        frame_len_field = 0;
        sequence_control_flag = SequenceControlledQoS;
        protocol_control_command_flag = TfdfContainsUserData;
        ocf_flag = false;
        vc_frame_count_len = width;
        vc_frame_count = count;
      };
      data_field_header = record { construction_rule = NoSegmentation; uslp_protocol_id = UserDefinedOctetStream; fhp_or_lvo = None };
      operational_control_field = None;
      has_fecf = true;
    }

-- the total, or 0; and the octets that the buffer is left with
abbrev pub length_told : Written ℕ → ℕ
length_told (leaving (done n) s) = n
length_told (leaving (refused k vs) s) = 0

abbrev pub octets_left : Written ℕ → List ℕ
octets_left (leaving o s) = s
