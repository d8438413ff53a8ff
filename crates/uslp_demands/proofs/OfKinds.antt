-- The promises of `uslp_kinds` settle each call, and shut out two tempting wrong answers of each function. `written` hands back a part of the
-- lent octets: what it shows is settled.
use mathlib.Core.Path.{◌≡◌, refl, sym, ap, ◌∙◌}
use mathlib.Core.List.{List, [], ◌∷◌}
use mathlib.Core.Bool.{true, false}
use Prim.Native.Nat.{ℕ}
use native.Mathlib.Omega.{arith}
use lib.ListN.{length}
use denote.Ref.{Bor}
use Rattle.uslp_kinds.proofs.Back.{paper_one}
use Rattle.uslp_kinds.specs.declared.SourceOrDestField.TheVariants.{Source, Dest}
use Rattle.uslp_kinds.specs.declared.BypassSequenceControlFlag.TheVariants.{SequenceControlledQoS, ExpeditedQoS}
use Rattle.uslp_kinds.specs.declared.ProtocolControlCommandFlag.TheVariants.{TfdfContainsUserData, TfdfContainsProtocolInfo}
use Rattle.uslp_kinds.specs.declared.ConstructionRule.TheVariants.{PacketSpanningMultipleFrames, OctetStream, NoSegmentation}
use Rattle.uslp_kinds.specs.declared.UslpProtocolId.TheVariants.{UserDefinedOctetStream, Idle}
use Rattle.uslp_kinds.specs.declared.Refusal.TheVariants.{ShortSource, ShortTarget, BadProtocol}
use Rattle.uslp_kinds.proofs as kinds
use Rattle.uslp_demands.specs.Promise.{Function, function, at, Allows, Settles, Shows}
use Rattle.uslp_demands.proofs.Alike.{alike}
use Rattle.std.specs.Prelude.{Ok, Err}

-- the functions, each with its promise
abbrev fn_written : Function
fn_written = function kinds.written.Kinds.ps kinds.written.Kinds.r kinds.written.Reads.Pre kinds.written.Reads.Learnt

abbrev fn_from_number : Function
fn_from_number =
    function kinds.SourceOrDestFieldFromU8.from.Kinds.ps kinds.SourceOrDestFieldFromU8.from.Kinds.r
    kinds.SourceOrDestFieldFromU8.from.Reads.Pre kinds.SourceOrDestFieldFromU8.from.Reads.Learnt

abbrev fn_number : Function
fn_number =
    function kinds.U8FromSourceOrDestField.from.Kinds.ps kinds.U8FromSourceOrDestField.from.Kinds.r
    kinds.U8FromSourceOrDestField.from.Reads.Pre kinds.U8FromSourceOrDestField.from.Reads.Learnt

abbrev fn_bypass_sequence_control_flag_from_number : Function
fn_bypass_sequence_control_flag_from_number =
    function kinds.BypassSequenceControlFlagFromU8.from.Kinds.ps kinds.BypassSequenceControlFlagFromU8.from.Kinds.r
    kinds.BypassSequenceControlFlagFromU8.from.Reads.Pre kinds.BypassSequenceControlFlagFromU8.from.Reads.Learnt

abbrev fn_bypass_sequence_control_flag_number : Function
fn_bypass_sequence_control_flag_number =
    function kinds.U8FromBypassSequenceControlFlag.from.Kinds.ps kinds.U8FromBypassSequenceControlFlag.from.Kinds.r
    kinds.U8FromBypassSequenceControlFlag.from.Reads.Pre kinds.U8FromBypassSequenceControlFlag.from.Reads.Learnt

abbrev fn_protocol_control_command_flag_from_number : Function
fn_protocol_control_command_flag_from_number =
    function kinds.ProtocolControlCommandFlagFromU8.from.Kinds.ps kinds.ProtocolControlCommandFlagFromU8.from.Kinds.r
    kinds.ProtocolControlCommandFlagFromU8.from.Reads.Pre kinds.ProtocolControlCommandFlagFromU8.from.Reads.Learnt

abbrev fn_protocol_control_command_flag_number : Function
fn_protocol_control_command_flag_number =
    function kinds.U8FromProtocolControlCommandFlag.from.Kinds.ps kinds.U8FromProtocolControlCommandFlag.from.Kinds.r
    kinds.U8FromProtocolControlCommandFlag.from.Reads.Pre kinds.U8FromProtocolControlCommandFlag.from.Reads.Learnt

abbrev fn_construction_rule_from_number : Function
fn_construction_rule_from_number =
    function kinds.ConstructionRuleFromU8.from.Kinds.ps kinds.ConstructionRuleFromU8.from.Kinds.r
    kinds.ConstructionRuleFromU8.from.Reads.Pre kinds.ConstructionRuleFromU8.from.Reads.Learnt

abbrev fn_construction_rule_number : Function
fn_construction_rule_number =
    function kinds.U8FromConstructionRule.from.Kinds.ps kinds.U8FromConstructionRule.from.Kinds.r
    kinds.U8FromConstructionRule.from.Reads.Pre kinds.U8FromConstructionRule.from.Reads.Learnt

abbrev fn_applicable_to_fixed_len_tfdz : Function
fn_applicable_to_fixed_len_tfdz =
    function kinds.ConstructionRule.applicable_to_fixed_len_tfdz.Kinds.ps kinds.ConstructionRule.applicable_to_fixed_len_tfdz.Kinds.r
    kinds.ConstructionRule.applicable_to_fixed_len_tfdz.Reads.Pre kinds.ConstructionRule.applicable_to_fixed_len_tfdz.Reads.Learnt

abbrev fn_uslp_protocol_id_from_number : Function
fn_uslp_protocol_id_from_number =
    function kinds.UslpProtocolIdTryFromU8.try_from.Kinds.ps kinds.UslpProtocolIdTryFromU8.try_from.Kinds.r
    kinds.UslpProtocolIdTryFromU8.try_from.Reads.Pre kinds.UslpProtocolIdTryFromU8.try_from.Reads.Learnt

abbrev fn_uslp_protocol_id_number : Function
fn_uslp_protocol_id_number =
    function kinds.U8FromUslpProtocolId.from.Kinds.ps kinds.U8FromUslpProtocolId.from.Kinds.r
    kinds.U8FromUslpProtocolId.from.Reads.Pre kinds.U8FromUslpProtocolId.from.Reads.Learnt

abbrev fn_refusal_number : Function
fn_refusal_number =
    function kinds.Refusal.number.Kinds.ps kinds.Refusal.number.Kinds.r
    kinds.Refusal.number.Reads.Pre kinds.Refusal.number.Reads.Learnt

abbrev fn_refusal_lacking : Function
fn_refusal_lacking =
    function kinds.Refusal.lacking.Kinds.ps kinds.Refusal.lacking.Kinds.r
    kinds.Refusal.lacking.Reads.Pre kinds.Refusal.lacking.Reads.Learnt

pub source_or_dest_from_settles : Settles fn_from_number
source_or_dest_from_settles = record { total = λ κs a. tt; same = λ κs a x y s t. alike (s ∙ sym t) refl }

-- one case for all numbers
pub source_or_dest_from_one : Allows fn_from_number tt (1, tt) (Source, (tt, tt)) → ⊥
source_or_dest_from_one e = let z : ◌≡◌ {A = ℕ} 0 1 = cc in omega arith

-- any number but 0 taken as set
pub source_or_dest_from_above : Allows fn_from_number tt (2, tt) (Dest, (tt, tt)) → ⊥
source_or_dest_from_above e = let z : ◌≡◌ {A = ℕ} 0 1 = cc in omega arith

pub source_or_dest_number_settles : Settles fn_number
source_or_dest_number_settles = record { total = λ κs a. tt; same = λ κs a x y s t. alike (s ∙ sym t) refl }

-- 0 for both
pub source_or_dest_number_zero : Allows fn_number tt (Dest, tt) (0, (tt, tt)) → ⊥
source_or_dest_number_zero e = omega arith

-- the two swapped
pub source_or_dest_number_swapped : Allows fn_number tt (Source, tt) (1, (tt, tt)) → ⊥
source_or_dest_number_swapped e = omega arith

pub bypass_from_settles : Settles fn_bypass_sequence_control_flag_from_number
bypass_from_settles = record { total = λ κs a. tt; same = λ κs a x y s t. alike (s ∙ sym t) refl }

-- one case for all numbers
pub bypass_from_one : Allows fn_bypass_sequence_control_flag_from_number tt (1, tt) (SequenceControlledQoS, (tt, tt)) → ⊥
bypass_from_one e = let z : ◌≡◌ {A = ℕ} 0 1 = cc in omega arith

-- any number but 0 taken as set
pub bypass_from_above : Allows fn_bypass_sequence_control_flag_from_number tt (2, tt) (ExpeditedQoS, (tt, tt)) → ⊥
bypass_from_above e = let z : ◌≡◌ {A = ℕ} 0 1 = cc in omega arith

pub bypass_number_settles : Settles fn_bypass_sequence_control_flag_number
bypass_number_settles = record { total = λ κs a. tt; same = λ κs a x y s t. alike (s ∙ sym t) refl }

-- 0 for both
pub bypass_number_zero : Allows fn_bypass_sequence_control_flag_number tt (ExpeditedQoS, tt) (0, (tt, tt)) → ⊥
bypass_number_zero e = omega arith

-- the two swapped
pub bypass_number_swapped : Allows fn_bypass_sequence_control_flag_number tt (SequenceControlledQoS, tt) (1, (tt, tt)) → ⊥
bypass_number_swapped e = omega arith

pub command_from_settles : Settles fn_protocol_control_command_flag_from_number
command_from_settles = record { total = λ κs a. tt; same = λ κs a x y s t. alike (s ∙ sym t) refl }

-- one case for all numbers
pub command_from_one : Allows fn_protocol_control_command_flag_from_number tt (1, tt) (TfdfContainsUserData, (tt, tt)) → ⊥
command_from_one e = let z : ◌≡◌ {A = ℕ} 0 1 = cc in omega arith

-- any number but 0 taken as set
pub command_from_above : Allows fn_protocol_control_command_flag_from_number tt (2, tt) (TfdfContainsProtocolInfo, (tt, tt)) → ⊥
command_from_above e = let z : ◌≡◌ {A = ℕ} 0 1 = cc in omega arith

pub command_number_settles : Settles fn_protocol_control_command_flag_number
command_number_settles = record { total = λ κs a. tt; same = λ κs a x y s t. alike (s ∙ sym t) refl }

-- 0 for both
pub command_number_zero : Allows fn_protocol_control_command_flag_number tt (TfdfContainsProtocolInfo, tt) (0, (tt, tt)) → ⊥
command_number_zero e = omega arith

-- the two swapped
pub command_number_swapped : Allows fn_protocol_control_command_flag_number tt (TfdfContainsUserData, tt) (1, (tt, tt)) → ⊥
command_number_swapped e = omega arith

pub rule_from_settles : Settles fn_construction_rule_from_number
rule_from_settles = record { total = λ κs a. tt; same = λ κs a x y s t. alike (s ∙ sym t) refl }

-- numbers above 7 clamped
pub rule_from_clamped : Allows fn_construction_rule_from_number tt (8, tt) (NoSegmentation, (tt, tt)) → ⊥
rule_from_clamped e = let z : ◌≡◌ {A = ℕ} 0 1 = cc in omega arith

-- the next rule
pub rule_from_next : Allows fn_construction_rule_from_number tt (6, tt) (NoSegmentation, (tt, tt)) → ⊥
rule_from_next e = let z : ◌≡◌ {A = ℕ} 0 1 = cc in omega arith

pub rule_number_settles : Settles fn_construction_rule_number
rule_number_settles = record { total = λ κs a. tt; same = λ κs a x y s t. alike (s ∙ sym t) refl }

-- 1 for the last rule
pub rule_number_bit : Allows fn_construction_rule_number tt (NoSegmentation, tt) (1, (tt, tt)) → ⊥
rule_number_bit e = omega arith

-- counted from 1
pub rule_number_shifted : Allows fn_construction_rule_number tt (PacketSpanningMultipleFrames, tt) (1, (tt, tt)) → ⊥
rule_number_shifted e = omega arith

pub applicable_settles : Settles fn_applicable_to_fixed_len_tfdz
applicable_settles = record { total = λ κs a. tt; same = λ κs a x y s t. alike (s ∙ sym t) refl }

-- rule 3 taken as fixed
pub applicable_octet_stream : Allows fn_applicable_to_fixed_len_tfdz tt (OctetStream, tt) (true, (tt, tt)) → ⊥
applicable_octet_stream e = let z : ◌≡◌ {A = ℕ} 0 1 = cc in omega arith

-- no rule taken as fixed
pub applicable_none : Allows fn_applicable_to_fixed_len_tfdz tt (PacketSpanningMultipleFrames, tt) (false, (tt, tt)) → ⊥
applicable_none e = let z : ◌≡◌ {A = ℕ} 0 1 = cc in omega arith

pub protocol_from_settles : Settles fn_uslp_protocol_id_from_number
protocol_from_settles = record
    { total = λ κs a. tt; same = λ κs a x y s t. alike (paper_one (s ∙ sym t)) refl }

-- an unknown id taken as idle
pub protocol_from_idle : Allows fn_uslp_protocol_id_from_number tt (9, tt) (Ok Idle, (tt, tt)) → ⊥
protocol_from_idle e = let z : ◌≡◌ {A = ℕ} 0 1 = cc in omega arith

-- 31 refused as the others above 8
pub protocol_from_refused : Allows fn_uslp_protocol_id_from_number tt (31, tt) (Err (BadProtocol 31), (tt, tt)) → ⊥
protocol_from_refused e = let z : ◌≡◌ {A = ℕ} 0 1 = cc in omega arith

pub protocol_number_settles : Settles fn_uslp_protocol_id_number
protocol_number_settles = record { total = λ κs a. tt; same = λ κs a x y s t. alike (s ∙ sym t) refl }

-- idle numbered on from 8
pub protocol_number_nine : Allows fn_uslp_protocol_id_number tt (Idle, tt) (9, (tt, tt)) → ⊥
protocol_number_nine e = omega arith

-- numbered in the order of the Rust's text
pub protocol_number_order : Allows fn_uslp_protocol_id_number tt (UserDefinedOctetStream, tt) (5, (tt, tt)) → ⊥
protocol_number_order e = omega arith

pub refusal_number_settles : Settles fn_refusal_number
refusal_number_settles = record { total = λ κs a. tt; same = λ κs a x y s t. alike (s ∙ sym t) refl }

-- counted from 0; what the refusal carries
pub refusal_number_zero : Allows fn_refusal_number tt (BadProtocol 9, tt) (4, (tt, tt)) → ⊥
refusal_number_zero e = omega arith

pub refusal_number_carried : Allows fn_refusal_number tt (BadProtocol 9, tt) (9, (tt, tt)) → ⊥
refusal_number_carried e = omega arith

pub refusal_lacking_settles : Settles fn_refusal_lacking
refusal_lacking_settles = record { total = λ κs a. tt; same = λ κs a x y s t. alike (s ∙ sym t) refl }

-- all that is expected; the room of a buffer to write
pub refusal_lacking_all : Allows fn_refusal_lacking tt (ShortSource 3 4, tt) (4, (tt, tt)) → ⊥
refusal_lacking_all e = omega arith

pub refusal_lacking_target : Allows fn_refusal_lacking tt (ShortTarget 3 4, tt) (1, (tt, tt)) → ⊥
refusal_lacking_target e = omega arith

pub written_shows : Shows fn_written (λ κs a r. r)
written_shows = record { total = λ κs a. tt; same = λ κs a x y s t. (s.lies ∙ sym t.lies, s.shows ∙ sym t.shows) }

-- shows the whole buffer; shows octets on a refusal
pub written_whole : (r : Bor (List ℕ)) → r.now ≡ 1 ∷ 2 ∷ [] → Allows fn_written ([], tt) (Ok 1, (at (1 ∷ 2 ∷ []), tt)) (r, (tt, (tt, tt))) → ⊥
written_whole r h e = let z : ◌≡◌ {A = ℕ} 2 1 = ap length (sym h ∙ e.shows) in omega arith

pub written_refused : (r : Bor (List ℕ)) → r.now ≡ 1 ∷ 2 ∷ []
    → Allows fn_written ([], tt) (Err (ShortTarget 2 3), (at (1 ∷ 2 ∷ []), tt)) (r, (tt, (tt, tt))) → ⊥
written_refused r h e = let z : ◌≡◌ {A = ℕ} 2 0 = ap length (sym h ∙ e.shows) in omega arith
