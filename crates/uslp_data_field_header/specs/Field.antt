-- The data field header: CCSDS 732.1-B's table of bit fields (docs/RULES.md, section 1.2), and what each call answers, in the orders of section 3.
use Rattle.std.specs.Prelude.{◌≡◌, ℕ, ◌<◌, Bool, not, ◌&&◌, cond, List, [], ◌∷◌, ◌++◌, length, drop, ltb, Option, Some, None}
use Rattle.uslp_octets.specs.Octets.{pack, unpack, named, word}
use Rattle.uslp_octets.specs.Octets as octets
use Rattle.uslp_kinds.specs.Outcome.{Outcome, done, refused, and_then, Written, only_if_done, first_of}
use Rattle.uslp_kinds.specs.Kinds.{rule_number, rule_of, fixed_length, protocol_number, protocol_of}
use Rattle.uslp_kinds.specs.declared.ConstructionRule.{ConstructionRule}
use Rattle.uslp_kinds.specs.declared.ConstructionRule.TheVariants.{NoSegmentation}
use Rattle.uslp_kinds.specs.declared.UslpProtocolId.{UslpProtocolId}
use Rattle.uslp_kinds.specs.declared.UslpProtocolId.TheVariants.{Idle}
use Rattle.uslp_data_field_header.specs.declared.TransferFrameDataFieldHeader.{TransferFrameDataFieldHeader}

-- the fields of the first octet from the first bit on, each with its bits; then two octets of pointer, or none
abbrev pub first_table : ConstructionRule → UslpProtocolId → List octets.BitField
first_table rule id = ("construction rule", 3, rule_number rule) ∷ ("protocol id", 5, protocol_number id) ∷ []

abbrev pub pointer_row : Option ℕ → List octets.BitField
pointer_row None = []
pointer_row (Some p) = ("pointer", 16, p) ∷ []

abbrev pub field_table : TransferFrameDataFieldHeader → List octets.BitField
field_table f = first_table f.construction_rule f.uslp_protocol_id ++ pointer_row f.fhp_or_lvo

-- rules 0 to 2 have the pointer
abbrev pub len_for : ConstructionRule → ℕ
len_for rule = cond (fixed_length rule) 3 1

abbrev pub len_field : TransferFrameDataFieldHeader → ℕ
len_field f = len_for f.construction_rule

-- a pointer with rules 3 to 7, or none with 0 to 2
abbrev pub pointer_bad : ConstructionRule → Option ℕ → Bool
pointer_bad rule None = fixed_length rule
pointer_bad rule (Some p) = not (fixed_length rule)

-- making a data field header refuses 9
unfoldable pub field_making : ConstructionRule → UslpProtocolId → Option ℕ → Outcome TransferFrameDataFieldHeader
field_making rule id pointer =
    first_of
    ((pointer_bad rule pointer, refused 9 (rule_number rule ∷ [])) ∷ [])
    (done (record { construction_rule = rule; uslp_protocol_id = id; fhp_or_lvo = pointer }))

-- the check of one that is written: 9
abbrev pub field_checks : {A : Type 0} → TransferFrameDataFieldHeader → List (Bool × Outcome A)
field_checks f = (pointer_bad f.construction_rule f.fhp_or_lvo, refused 9 (rule_number f.construction_rule ∷ [])) ∷ []

unfoldable pub field_checking : TransferFrameDataFieldHeader → Outcome TransferFrameDataFieldHeader
field_checking f = first_of (field_checks f) (done f)

-- the rule and the number of the protocol id in the first octet, and the pointer behind it
abbrev pub first_in : List ℕ → List octets.BitField
first_in s = unpack (first_table NoSegmentation Idle) s

abbrev pub rule_in : List ℕ → ConstructionRule
rule_in s = rule_of (named "construction rule" (first_in s))

abbrev pub number_in : List ℕ → ℕ
number_in s = named "protocol id" (first_in s)

abbrev pub pointer_in : List ℕ → Option ℕ
pointer_in s = cond (fixed_length (rule_in s)) (Some (word 1 2 s)) None

-- the header of this rule and pointer with the protocol id of this number: 5 where it is not known
abbrev pub with_protocol : ConstructionRule → ℕ → Option ℕ → Outcome TransferFrameDataFieldHeader
with_protocol rule number pointer =
    and_then (protocol_of number)
    (λ (id : UslpProtocolId). done (record { construction_rule = rule; uslp_protocol_id = id; fhp_or_lvo = pointer }))

-- reading one: 1 (one octet), 1 (three octets, for rules 0 to 2), 5
unfoldable pub field_reading : List ℕ → Outcome TransferFrameDataFieldHeader
field_reading s =
    first_of
    ((ltb (length s) 1, refused 1 (length s ∷ 1 ∷ []))
    ∷ (fixed_length (rule_in s) && ltb (length s) 3, refused 1 (length s ∷ 3 ∷ []))
    ∷ [])
    (with_protocol (rule_in s) (number_in s) (pointer_in s))

-- writing one over octets s: 9, 2; the octets past it stay
unfoldable pub field_writing : TransferFrameDataFieldHeader → List ℕ → Written ℕ
field_writing f s =
    only_if_done
    (first_of (field_checks f ++ (ltb (length s) (len_field f), refused 2 (length s ∷ len_field f ∷ [])) ∷ []) (done (len_field f)))
    (pack (field_table f) ++ drop (len_field f) s)
    s

-- one that the layout can carry: a pointer fits its 16 bits, the machine's own bound, and the check of writing passes
pub record Fitting (f : TransferFrameDataFieldHeader) : Type 0 where
  pub pointer_fits : (p : ℕ) → f.fhp_or_lvo ≡ Some p → p < 65536
  pub checks_pass : field_checking f ≡ done f
