-- The promises of `uslp_data_field_header` settle each call, and shut out two tempting wrong answers of each function.
use mathlib.Core.Path.{◌≡◌, refl, sym, ◌∙◌}
use mathlib.Core.List.{[], ◌∷◌}
use Prim.Native.Nat.{ℕ}
use native.Mathlib.Omega.{arith}
use Rattle.uslp_kinds.proofs.Back.{leaving_one, paper_one}
use Rattle.uslp_kinds.specs.declared.ConstructionRule.TheVariants.{PacketSpanningMultipleFrames, NoSegmentation}
use Rattle.uslp_kinds.specs.declared.UslpProtocolId.TheVariants.{UserDefinedOctetStream, Idle}
use Rattle.uslp_kinds.specs.declared.Refusal.TheVariants.{ShortSource, ShortTarget, BadProtocol, BadPointer}
use Rattle.uslp_data_field_header.specs.Field.{field_making, field_checking, field_reading, field_writing}
use Rattle.uslp_data_field_header.specs.declared.TransferFrameDataFieldHeader.{TransferFrameDataFieldHeader}
use Rattle.uslp_data_field_header.proofs as field
use Rattle.uslp_demands.specs.Promise.{Function, function, at, at_mut, Allows, Settles}
use Rattle.uslp_roundtrip.specs.Samples.{whole, spanning}
use Rattle.uslp_demands.proofs.Alike.{alike}
use Rattle.std.specs.Prelude.{Ok, Err, Some, None}

-- the functions, each with its promise
abbrev fn_new : Function
fn_new =
    function field.TransferFrameDataFieldHeader.new.Kinds.ps field.TransferFrameDataFieldHeader.new.Kinds.r
    field.TransferFrameDataFieldHeader.new.Reads.Pre field.TransferFrameDataFieldHeader.new.Reads.Learnt

abbrev fn_construction_rule : Function
fn_construction_rule =
    function field.TransferFrameDataFieldHeader.construction_rule.Kinds.ps field.TransferFrameDataFieldHeader.construction_rule.Kinds.r
    field.TransferFrameDataFieldHeader.construction_rule.Reads.Pre field.TransferFrameDataFieldHeader.construction_rule.Reads.Learnt

abbrev fn_uslp_protocol_id : Function
fn_uslp_protocol_id =
    function field.TransferFrameDataFieldHeader.uslp_protocol_id.Kinds.ps field.TransferFrameDataFieldHeader.uslp_protocol_id.Kinds.r
    field.TransferFrameDataFieldHeader.uslp_protocol_id.Reads.Pre field.TransferFrameDataFieldHeader.uslp_protocol_id.Reads.Learnt

abbrev fn_fhp_or_lvo : Function
fn_fhp_or_lvo =
    function field.TransferFrameDataFieldHeader.fhp_or_lvo.Kinds.ps field.TransferFrameDataFieldHeader.fhp_or_lvo.Kinds.r
    field.TransferFrameDataFieldHeader.fhp_or_lvo.Reads.Pre field.TransferFrameDataFieldHeader.fhp_or_lvo.Reads.Learnt

abbrev fn_len_header : Function
fn_len_header =
    function field.TransferFrameDataFieldHeader.len_header.Kinds.ps field.TransferFrameDataFieldHeader.len_header.Kinds.r
    field.TransferFrameDataFieldHeader.len_header.Reads.Pre field.TransferFrameDataFieldHeader.len_header.Reads.Learnt

abbrev fn_checked : Function
fn_checked =
    function field.TransferFrameDataFieldHeader.checked.Kinds.ps field.TransferFrameDataFieldHeader.checked.Kinds.r
    field.TransferFrameDataFieldHeader.checked.Reads.Pre field.TransferFrameDataFieldHeader.checked.Reads.Learnt

abbrev fn_from_bytes : Function
fn_from_bytes =
    function field.TransferFrameDataFieldHeader.from_bytes.Kinds.ps field.TransferFrameDataFieldHeader.from_bytes.Kinds.r
    field.TransferFrameDataFieldHeader.from_bytes.Reads.Pre field.TransferFrameDataFieldHeader.from_bytes.Reads.Learnt

abbrev pub fn_write_to_slice : Function
fn_write_to_slice =
    function field.TransferFrameDataFieldHeader.write_to_slice.Kinds.ps field.TransferFrameDataFieldHeader.write_to_slice.Kinds.r
    field.TransferFrameDataFieldHeader.write_to_slice.Reads.Pre field.TransferFrameDataFieldHeader.write_to_slice.Reads.Learnt

-- rule 7 with a pointer, which no call makes
abbrev odd : TransferFrameDataFieldHeader
odd = record { construction_rule = NoSegmentation; uslp_protocol_id = UserDefinedOctetStream; fhp_or_lvo = Some 1 }

pub new_settles : Settles fn_new
new_settles = record {
  total = λ κs a. tt;
  same = λ κs a x y s t. alike
      (paper_one (s ∙ sym t)) refl;
}

-- takes any pointer
pub new_lax : Allows fn_new tt (NoSegmentation, (UserDefinedOctetStream, (Some 1, tt))) (Ok odd, (tt, (tt, (tt, tt)))) → ⊥
unfolding field_making
new_lax e = let z : ◌≡◌ {A = ℕ} 0 1 = cc in omega arith

-- wants no pointer with rule 0
pub new_strict : Allows fn_new tt (PacketSpanningMultipleFrames, (Idle, (Some 0x0AF0, tt)))
    (Err (BadPointer PacketSpanningMultipleFrames), (tt, (tt, (tt, tt)))) → ⊥
unfolding field_making
new_strict e = let z : ◌≡◌ {A = ℕ} 0 1 = cc in omega arith

pub construction_rule_settles : Settles fn_construction_rule
construction_rule_settles = record { total = λ κs a. tt; same = λ κs a x y s t. alike (s ∙ sym t) refl }

-- one rule for all
pub construction_rule_fixed : Allows fn_construction_rule tt (whole, tt) (PacketSpanningMultipleFrames, (tt, tt)) → ⊥
construction_rule_fixed e = let z : ◌≡◌ {A = ℕ} 0 1 = cc in omega arith

-- the last rule for all
pub construction_rule_last : Allows fn_construction_rule tt (spanning, tt) (NoSegmentation, (tt, tt)) → ⊥
construction_rule_last e = let z : ◌≡◌ {A = ℕ} 0 1 = cc in omega arith

pub uslp_protocol_id_settles : Settles fn_uslp_protocol_id
uslp_protocol_id_settles = record { total = λ κs a. tt; same = λ κs a x y s t. alike (s ∙ sym t) refl }

-- one id for all
pub uslp_protocol_id_fixed : Allows fn_uslp_protocol_id tt (whole, tt) (Idle, (tt, tt)) → ⊥
uslp_protocol_id_fixed e = let z : ◌≡◌ {A = ℕ} 0 1 = cc in omega arith

-- an id that is not there
pub uslp_protocol_id_other : Allows fn_uslp_protocol_id tt (spanning, tt) (UserDefinedOctetStream, (tt, tt)) → ⊥
uslp_protocol_id_other e = let z : ◌≡◌ {A = ℕ} 0 1 = cc in omega arith

pub fhp_or_lvo_settles : Settles fn_fhp_or_lvo
fhp_or_lvo_settles = record { total = λ κs a. tt; same = λ κs a x y s t. alike (s ∙ sym t) refl }

-- no pointer ever
pub fhp_or_lvo_none : Allows fn_fhp_or_lvo tt (spanning, tt) (None, (tt, tt)) → ⊥
fhp_or_lvo_none e = let z : ◌≡◌ {A = ℕ} 0 1 = cc in omega arith

-- a pointer of 0 where there is none
pub fhp_or_lvo_zero : Allows fn_fhp_or_lvo tt (whole, tt) (Some 0, (tt, tt)) → ⊥
fhp_or_lvo_zero e = let z : ◌≡◌ {A = ℕ} 0 1 = cc in omega arith

pub len_header_settles : Settles fn_len_header
len_header_settles = record { total = λ κs a. tt; same = λ κs a x y s t. alike (s ∙ sym t) refl }

-- one octet for all
pub len_header_one : Allows fn_len_header tt (spanning, tt) (1, (tt, tt)) → ⊥
len_header_one e = omega arith

-- three octets for all
pub len_header_three : Allows fn_len_header tt (whole, tt) (3, (tt, tt)) → ⊥
len_header_three e = omega arith

pub checked_settles : Settles fn_checked
checked_settles = record {
  total = λ κs a. tt;
  same = λ κs a x y s t. alike
      (paper_one (s ∙ sym t)) refl;
}

-- passes every header
pub checked_lax : Allows fn_checked tt (odd, tt) (Ok odd, (tt, tt)) → ⊥
unfolding field_checking
checked_lax e = let z : ◌≡◌ {A = ℕ} 0 1 = cc in omega arith

-- refuses every header
pub checked_all : Allows fn_checked tt (whole, tt) (Err (BadPointer NoSegmentation), (tt, tt)) → ⊥
unfolding field_checking
checked_all e = let z : ◌≡◌ {A = ℕ} 0 1 = cc in omega arith

pub from_bytes_settles : Settles fn_from_bytes
from_bytes_settles = record {
  total = λ κs a. tt;
  same = λ κs a x y s t. alike
      (paper_one (s ∙ sym t)) refl;
}

-- asks for three octets of every rule
pub from_bytes_early : Allows fn_from_bytes ([], tt) (at (0xE4 ∷ []), tt) (Err (ShortSource 1 3), (tt, tt)) → ⊥
unfolding field_reading
from_bytes_early e = let z : ◌≡◌ {A = ℕ} 0 1 = cc in omega arith

-- looks at the protocol id before the length
pub from_bytes_protocol : Allows fn_from_bytes ([], tt) (at (0x09 ∷ []), tt) (Err (BadProtocol 9), (tt, tt)) → ⊥
unfolding field_reading
from_bytes_protocol e = let z : ◌≡◌ {A = ℕ} 0 1 = cc in omega arith

pub write_to_slice_settles : Settles fn_write_to_slice
write_to_slice_settles = record {
  total = λ κs a. tt;
  same = λ κs a x y s t. let e = leaving_one (s ∙ sym t) in
      alike (paper_one e.0) (λ i. (tt, (e.1 i, tt)));
}

-- writes nothing and says done
pub write_to_slice_idle : Allows fn_write_to_slice ([], tt) (whole, (at_mut (0 ∷ []), tt)) (Ok 1, (tt, (0 ∷ [], tt))) → ⊥
unfolding field_writing
write_to_slice_idle e = let z : ◌≡◌ {A = ℕ} 0 0xE4 = cc in omega arith

-- writes what fits of a header that does not
pub write_to_slice_part : Allows fn_write_to_slice ([], tt) (spanning, (at_mut (7 ∷ []), tt)) (Err (ShortTarget 1 3), (tt, (0x1F ∷ [], tt))) → ⊥
unfolding field_writing
write_to_slice_part e = let z : ◌≡◌ {A = ℕ} 0x1F 7 = cc in omega arith
