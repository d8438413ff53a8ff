-- The number of a case and the case of a number are inverse.
use mathlib.Core.Path.{◌≡◌, refl}
use Prim.Native.Nat.{ℕ, zero, suc, ◌<◌}
use native.Mathlib.Omega.{arith}
use lib.Dec.{lit<}
use Rattle.uslp_kinds.specs.Outcome.{done}
use Rattle.uslp_kinds.specs.Kinds.{source_or_dest_number, source_or_dest_of, bypass_number, bypass_of, command_number, command_of, rule_number, rule_of, protocol_number, protocol_of}
use Rattle.uslp_kinds.specs.declared.SourceOrDestField.{SourceOrDestField}
use Rattle.uslp_kinds.specs.declared.SourceOrDestField.TheVariants.{Source, Dest}
use Rattle.uslp_kinds.specs.declared.BypassSequenceControlFlag.{BypassSequenceControlFlag}
use Rattle.uslp_kinds.specs.declared.BypassSequenceControlFlag.TheVariants.{SequenceControlledQoS, ExpeditedQoS}
use Rattle.uslp_kinds.specs.declared.ProtocolControlCommandFlag.{ProtocolControlCommandFlag}
use Rattle.uslp_kinds.specs.declared.ProtocolControlCommandFlag.TheVariants.{TfdfContainsUserData, TfdfContainsProtocolInfo}
use Rattle.uslp_kinds.specs.declared.ConstructionRule.{ConstructionRule}
use Rattle.uslp_kinds.specs.declared.ConstructionRule.TheVariants.{PacketSpanningMultipleFrames, StartOfMapaSduOrVcaSdu, ContinuingPortionOfMapaSdu, OctetStream, StartingSegment, ContinuingSegment, LastSegment, NoSegmentation}
use Rattle.uslp_kinds.specs.declared.UslpProtocolId.{UslpProtocolId}
use Rattle.uslp_kinds.specs.declared.UslpProtocolId.TheVariants.{SpacePacketsOrEncapsulation, Cop1ControlCommands, CopPControlCommands, Sdls, UserDefinedOctetStream, MissionSpecificInfo1MapaSduOrVcaSdu, Proximity1PseudoPacketIdentifier1, Spdu, Proximity1PseudoPacketIdentifier2, Idle}

-- a rule of the numbers below n, from a test at each of them
abbrev pub Below : ℕ → (ℕ → Type 0) → Type 0
Below n P = (k : ℕ) → k < n → P k

two : (P : ℕ → Type 0) → P 0 → P 1 → Below 2 P
two P a b zero h = a
two P a b (suc zero) h = b
two P a b (suc (suc k)) h = absurd (omega arith)

pub source_back : (x : SourceOrDestField) → source_or_dest_of (source_or_dest_number x) ≡ x
source_back Source = refl
source_back Dest = refl

pub source_number : Below 2 (λ (n : ℕ). source_or_dest_number (source_or_dest_of n) ≡ n)
source_number = two _ refl refl

pub source_lt : (x : SourceOrDestField) → source_or_dest_number x < 2
source_lt Source = lit< tt
source_lt Dest = lit< tt

pub bypass_back : (x : BypassSequenceControlFlag) → bypass_of (bypass_number x) ≡ x
bypass_back SequenceControlledQoS = refl
bypass_back ExpeditedQoS = refl

pub bypass_number_lem : Below 2 (λ (n : ℕ). bypass_number (bypass_of n) ≡ n)
bypass_number_lem = two _ refl refl

pub bypass_lt : (x : BypassSequenceControlFlag) → bypass_number x < 2
bypass_lt SequenceControlledQoS = lit< tt
bypass_lt ExpeditedQoS = lit< tt

pub command_back : (x : ProtocolControlCommandFlag) → command_of (command_number x) ≡ x
command_back TfdfContainsUserData = refl
command_back TfdfContainsProtocolInfo = refl

pub command_number_lem : Below 2 (λ (n : ℕ). command_number (command_of n) ≡ n)
command_number_lem = two _ refl refl

pub command_lt : (x : ProtocolControlCommandFlag) → command_number x < 2
command_lt TfdfContainsUserData = lit< tt
command_lt TfdfContainsProtocolInfo = lit< tt

pub rule_back : (r : ConstructionRule) → rule_of (rule_number r) ≡ r
rule_back PacketSpanningMultipleFrames = refl
rule_back StartOfMapaSduOrVcaSdu = refl
rule_back ContinuingPortionOfMapaSdu = refl
rule_back OctetStream = refl
rule_back StartingSegment = refl
rule_back ContinuingSegment = refl
rule_back LastSegment = refl
rule_back NoSegmentation = refl

pub rule_number_lem : Below 8 (λ (n : ℕ). rule_number (rule_of n) ≡ n)
rule_number_lem zero h = refl
rule_number_lem (suc zero) h = refl
rule_number_lem (suc (suc zero)) h = refl
rule_number_lem (suc (suc (suc zero))) h = refl
rule_number_lem (suc (suc (suc (suc zero)))) h = refl
rule_number_lem (suc (suc (suc (suc (suc zero))))) h = refl
rule_number_lem (suc (suc (suc (suc (suc (suc zero)))))) h = refl
rule_number_lem (suc (suc (suc (suc (suc (suc (suc zero))))))) h = refl
rule_number_lem (suc (suc (suc (suc (suc (suc (suc (suc k)))))))) h = absurd (omega arith)

pub rule_lt : (r : ConstructionRule) → rule_number r < 8
rule_lt PacketSpanningMultipleFrames = lit< tt
rule_lt StartOfMapaSduOrVcaSdu = lit< tt
rule_lt ContinuingPortionOfMapaSdu = lit< tt
rule_lt OctetStream = lit< tt
rule_lt StartingSegment = lit< tt
rule_lt ContinuingSegment = lit< tt
rule_lt LastSegment = lit< tt
rule_lt NoSegmentation = lit< tt

-- a known id is the case of its number
pub protocol_case : (p : UslpProtocolId) → protocol_of (protocol_number p) ≡ done p
protocol_case SpacePacketsOrEncapsulation = refl
protocol_case Cop1ControlCommands = refl
protocol_case CopPControlCommands = refl
protocol_case Sdls = refl
protocol_case UserDefinedOctetStream = refl
protocol_case MissionSpecificInfo1MapaSduOrVcaSdu = refl
protocol_case Proximity1PseudoPacketIdentifier1 = refl
protocol_case Spdu = refl
protocol_case Proximity1PseudoPacketIdentifier2 = refl
protocol_case Idle = refl

pub protocol_lt : (p : UslpProtocolId) → protocol_number p < 32
protocol_lt SpacePacketsOrEncapsulation = lit< tt
protocol_lt Cop1ControlCommands = lit< tt
protocol_lt CopPControlCommands = lit< tt
protocol_lt Sdls = lit< tt
protocol_lt UserDefinedOctetStream = lit< tt
protocol_lt MissionSpecificInfo1MapaSduOrVcaSdu = lit< tt
protocol_lt Proximity1PseudoPacketIdentifier1 = lit< tt
protocol_lt Spdu = lit< tt
protocol_lt Proximity1PseudoPacketIdentifier2 = lit< tt
protocol_lt Idle = lit< tt
