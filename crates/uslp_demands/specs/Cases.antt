-- The cases of docs/RULES.md, section 10, that are proved: one table of questions and answers, under one claim.
use Rattle.std.specs.Prelude.{◌≡◌, false, List, [], ◌∷◌, map, ℕ, ◌-◌, ◌^◌, Some, None}
use Rattle.uslp_kinds.specs.Managed.{fecf, no_fecf}
use Rattle.uslp_kinds.specs.Outcome.{Outcome, done, refused, and_then, Written, leaving}
use Rattle.uslp_kinds.specs.declared.ManagedParameters.{ManagedParameters}
use Rattle.uslp_kinds.specs.declared.ConstructionRule.TheVariants.{PacketSpanningMultipleFrames}
use Rattle.uslp_kinds.specs.declared.UslpProtocolId.TheVariants.{SpacePacketsOrEncapsulation}
use Rattle.uslp_primary_header.specs.Header.{with_count, count_setting}
use Rattle.uslp_primary_header.specs.declared.PrimaryHeader.{PrimaryHeader}
use Rattle.uslp_writer.specs.Frame.{frame_writing}
use Rattle.uslp_writer.specs.declared.TransferFrameCreator.{TransferFrameCreator}
use Rattle.uslp_reader.specs.Reader.{frame_reading, contents_in}
use Rattle.uslp_reader.specs.declared.TransferFrame.{TransferFrame}
use Rattle.uslp_record.specs.Slots.{put, Change, empty_record}
use Rattle.uslp_record.specs.Judging.{first_totals, judging}
use Rattle.uslp_kinds.specs.declared.BypassSequenceControlFlag.TheVariants.{SequenceControlledQoS}
use Rattle.uslp_record.specs.declared.Channel.{Channel}
use Rattle.uslp_record.specs.declared.ChannelRecord.{ChannelRecord}
use Rattle.uslp_record.specs.declared.SlotState.TheVariants.{Heard}
use Rattle.uslp_record.specs.declared.Arrival.{Arrival}
use Rattle.uslp_record.specs.declared.Arrival.TheVariants.{New, Late}
use Rattle.uslp_roundtrip.specs.Samples.{header_f, some, whole, read_f, frame_f, octets_f, zeros}

-- a call: reading octets, writing a frame over octets, setting a count, hearing a count after the last one of a width
pub data Question : Type 0 where
  reads : List ℕ → ManagedParameters → Question
  writes : TransferFrameCreator → List ℕ → List ℕ → Question
  sets : PrimaryHeader → ℕ → ℕ → Question
  hears : ℕ → ℕ → ℕ → Question

-- what it answers: a frame and its data, octets left, a header, an arrival
pub data Answer : Type 0 where
  frame : Outcome (TransferFrame × List ℕ) → Answer
  octets : Written ℕ → Answer
  header : Outcome PrimaryHeader → Answer
  arrival : Outcome Arrival → Answer

-- a record in which one channel was last heard with this count
abbrev pub channel : Channel
channel = record { spacecraft_id = 0x1234; vc_id = 5; sequence_control_flag = SequenceControlledQoS }

abbrev pub last_heard : ℕ → ℕ → ChannelRecord
last_heard width last = put empty_record 0 (Heard channel width (first_totals last))

abbrev pub answer_to : Question → Answer
answer_to (reads s managed) = frame (and_then (frame_reading s managed) (λ (x : TransferFrame). done (x, contents_in x s)))
answer_to (writes c contents s) = octets (frame_writing c contents s)
answer_to (sets h width count) = header (count_setting h width count)
answer_to (hears width last count) =
    arrival (and_then (judging (last_heard width last) channel width count) (λ (x : Arrival × Change). done x.0))

-- frame F with other length octets, another octet 6 or another octet 8, and its frames
abbrev pub long_f : ℕ → List ℕ
long_f low = 0xC1 ∷ 0x23 ∷ 0x48 ∷ 0xA6 ∷ 0x00 ∷ low ∷ 0x01 ∷ 0x07 ∷ 0xE4 ∷ 0x0A ∷ 0xF0 ∷ []

abbrev pub rule_f : ℕ → List ℕ
rule_f octet = 0xC1 ∷ 0x23 ∷ 0x48 ∷ 0xA6 ∷ 0x00 ∷ 0x0A ∷ 0x01 ∷ 0x07 ∷ octet ∷ 0x0A ∷ 0xF0 ∷ []

abbrev pub pointed : TransferFrame
pointed =
    record {
      primary_header = some;
      data_field_header =
          record {
            construction_rule = PacketSpanningMultipleFrames;
            uslp_protocol_id = SpacePacketsOrEncapsulation;
            fhp_or_lvo =
                Some 0x0AF0;
          };
      operational_control_field = None;
      data_start = 11;
      data_len = 0;
    }

abbrev pub emptied : TransferFrame
emptied =
    record {
      primary_header = header_f false 8;
      data_field_header = whole;
      operational_control_field = None;
      data_start = 9;
      data_len = 0;
    }

abbrev pub with_ocf : TransferFrameCreator
with_ocf = record { primary_header = some; data_field_header = whole; operational_control_field = Some 0x01020304; has_fecf = false }

abbrev pub cases : List (Question × Answer)
cases =
    (reads octets_f no_fecf, frame (done (read_f, 0x0A ∷ 0xF0 ∷ [])))
    ∷ (writes frame_f (0x0A ∷ 0xF0 ∷ []) zeros, octets (leaving (done 11) octets_f))
    ∷ (reads (0xC1 ∷ 0x23 ∷ 0x48 ∷ 0xA6 ∷ 0x00 ∷ 0x0A ∷ 0x31 ∷ 0x07 ∷ 0xE4 ∷ 0x0A ∷ 0xF0 ∷ []) no_fecf, frame (done (read_f, 0x0A ∷ 0xF0 ∷ [])))
    ∷ (
      writes with_ocf (0x0A ∷ 0xF0 ∷ []) (0 ∷ 0 ∷ 0 ∷ 0 ∷ zeros),
      octets
          (leaving (done 15)
          (0xC1 ∷ 0x23 ∷ 0x48 ∷ 0xA6 ∷ 0x00 ∷ 0x0E ∷ 0x09 ∷ 0x07 ∷ 0xE4 ∷ 0x0A ∷ 0xF0 ∷ 0x01 ∷ 0x02 ∷ 0x03 ∷ 0x04 ∷ [])),
    )
    ∷ (reads (0xC1 ∷ 0x23 ∷ 0x48 ∷ []) no_fecf, frame (refused 1 (3 ∷ 4 ∷ [])))
    ∷ (reads (0xC1 ∷ 0x23 ∷ 0x48 ∷ 0xA6 ∷ 0x00 ∷ 0x0A ∷ []) no_fecf, frame (refused 1 (6 ∷ 7 ∷ [])))
    ∷ (reads (0xC1 ∷ 0x23 ∷ 0x48 ∷ 0xA6 ∷ 0x00 ∷ 0x0A ∷ 0x01 ∷ 0x07 ∷ 0xE4 ∷ 0x0A ∷ []) no_fecf, frame (refused 1 (10 ∷ 11 ∷ [])))
    ∷ (reads (0xC1 ∷ 0x23 ∷ 0x48 ∷ 0xA7 ∷ []) no_fecf, frame (refused 3 []))
    ∷ (reads (0xB1 ∷ 0x23 ∷ 0x48 ∷ 0xA6 ∷ 0x00 ∷ 0x0A ∷ 0x01 ∷ 0x07 ∷ 0xE4 ∷ 0x0A ∷ 0xF0 ∷ []) no_fecf, frame (refused 4 (11 ∷ [])))
    ∷ (reads (rule_f 0xE9) no_fecf, frame (refused 5 (9 ∷ [])))
    ∷ (reads (rule_f 0x00) no_fecf, frame (done (pointed, [])))
    ∷ (reads (long_f 0x07) no_fecf, frame (refused 7 (8 ∷ 9 ∷ [])))
    ∷ (reads (long_f 0x08) no_fecf, frame (done (emptied, [])))
    ∷ (reads (long_f 0x08) fecf, frame (refused 7 (9 ∷ 11 ∷ [])))
    ∷ (sets some 7 (2 ^ 56 - 1), header (done (with_count 7 (2 ^ 56 - 1) some)))
    ∷ (sets some 7 (2 ^ 56), header (refused 8 (2 ^ 56 ∷ 7 ∷ [])))
    ∷ (hears 1 250 2, arrival (done (New 7)))
    ∷ (hears 1 0 128, arrival (done (New 127)))
    ∷ (hears 1 0 129, arrival (done Late))
    ∷ []

-- the one claim: every question gets the answer beside it
abbrev pub AllAnswered : Type 0
AllAnswered = map (λ (c : Question × Answer). answer_to c.0) cases ≡ map (λ (c : Question × Answer). c.1) cases
