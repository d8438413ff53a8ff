-- The number of each case of a field, and the case of a number: a field of one bit or three bits is read from a number's low bits.
use Rattle.std.specs.Prelude.{ℕ, ◌%◌, ◌^◌, Bool, cond, List, [], ◌∷◌, get_or, ltb, leb, eqb}
use Rattle.uslp_kinds.specs.Outcome.{Outcome, done, refused}
use Rattle.uslp_kinds.specs.declared.SourceOrDestField.{SourceOrDestField}
use Rattle.uslp_kinds.specs.declared.SourceOrDestField.TheVariants.{Source, Dest}
use Rattle.uslp_kinds.specs.declared.BypassSequenceControlFlag.{BypassSequenceControlFlag}
use Rattle.uslp_kinds.specs.declared.BypassSequenceControlFlag.TheVariants.{SequenceControlledQoS, ExpeditedQoS}
use Rattle.uslp_kinds.specs.declared.ProtocolControlCommandFlag.{ProtocolControlCommandFlag}
use Rattle.uslp_kinds.specs.declared.ProtocolControlCommandFlag.TheVariants.{TfdfContainsUserData, TfdfContainsProtocolInfo}
use Rattle.uslp_kinds.specs.declared.ConstructionRule.{ConstructionRule}
use Rattle.uslp_kinds.specs.declared.ConstructionRule.TheVariants.{PacketSpanningMultipleFrames, StartOfMapaSduOrVcaSdu, ContinuingPortionOfMapaSdu, OctetStream, StartingSegment, ContinuingSegment, LastSegment, NoSegmentation}
use Rattle.uslp_kinds.specs.declared.UslpProtocolId.{UslpProtocolId}
use Rattle.uslp_kinds.specs.declared.UslpProtocolId.TheVariants.{SpacePacketsOrEncapsulation, Cop1ControlCommands, CopPControlCommands, Sdls, UserDefinedOctetStream, MissionSpecificInfo1MapaSduOrVcaSdu, Proximity1PseudoPacketIdentifier1, Spdu, Proximity1PseudoPacketIdentifier2, Idle}

abbrev pub source_or_dest_number : SourceOrDestField → ℕ
source_or_dest_number Source = 0
source_or_dest_number Dest = 1

abbrev pub source_or_dest_of : ℕ → SourceOrDestField
source_or_dest_of n = get_or (Source ∷ Dest ∷ []) (n % 2) Source

abbrev pub bypass_number : BypassSequenceControlFlag → ℕ
bypass_number SequenceControlledQoS = 0
bypass_number ExpeditedQoS = 1

abbrev pub bypass_of : ℕ → BypassSequenceControlFlag
bypass_of n = get_or (SequenceControlledQoS ∷ ExpeditedQoS ∷ []) (n % 2) SequenceControlledQoS

abbrev pub command_number : ProtocolControlCommandFlag → ℕ
command_number TfdfContainsUserData = 0
command_number TfdfContainsProtocolInfo = 1

abbrev pub command_of : ℕ → ProtocolControlCommandFlag
command_of n = get_or (TfdfContainsUserData ∷ TfdfContainsProtocolInfo ∷ []) (n % 2) TfdfContainsUserData

abbrev pub rule_number : ConstructionRule → ℕ
rule_number PacketSpanningMultipleFrames = 0
rule_number StartOfMapaSduOrVcaSdu = 1
rule_number ContinuingPortionOfMapaSdu = 2
rule_number OctetStream = 3
rule_number StartingSegment = 4
rule_number ContinuingSegment = 5
rule_number LastSegment = 6
rule_number NoSegmentation = 7

abbrev pub rules : List ConstructionRule
rules =
    PacketSpanningMultipleFrames ∷ StartOfMapaSduOrVcaSdu ∷ ContinuingPortionOfMapaSdu ∷ OctetStream ∷ StartingSegment ∷ ContinuingSegment ∷
    LastSegment ∷ NoSegmentation ∷ []

abbrev pub rule_of : ℕ → ConstructionRule
rule_of n = get_or rules (n % 8) NoSegmentation

-- rules 0, 1 and 2: two octets of pointer follow
abbrev pub fixed_length : ConstructionRule → Bool
fixed_length r = ltb (rule_number r) 3

abbrev pub protocol_number : UslpProtocolId → ℕ
protocol_number SpacePacketsOrEncapsulation = 0
protocol_number Cop1ControlCommands = 1
protocol_number CopPControlCommands = 2
protocol_number Sdls = 3
protocol_number UserDefinedOctetStream = 4
protocol_number MissionSpecificInfo1MapaSduOrVcaSdu = 5
protocol_number Proximity1PseudoPacketIdentifier1 = 6
protocol_number Spdu = 7
protocol_number Proximity1PseudoPacketIdentifier2 = 8
protocol_number Idle = 31

-- ids 0 to 8
abbrev pub protocols : List UslpProtocolId
protocols =
    SpacePacketsOrEncapsulation
    ∷ Cop1ControlCommands
    ∷ CopPControlCommands
    ∷ Sdls
    ∷ UserDefinedOctetStream
    ∷ MissionSpecificInfo1MapaSduOrVcaSdu
    ∷ Proximity1PseudoPacketIdentifier1
    ∷ Spdu
    ∷ Proximity1PseudoPacketIdentifier2
    ∷ []

-- ids 0 to 8 and 31 are known
abbrev pub protocol_of : ℕ → Outcome UslpProtocolId
protocol_of n = cond (ltb n 9) (done (get_or protocols n Idle)) (cond (eqb n 31) (done Idle) (refused 5 (n ∷ [])))

-- a count must be below 256 to the power of its width
abbrev pub count_bad : ℕ → ℕ → Bool
count_bad width count = leb (256 ^ width) count
