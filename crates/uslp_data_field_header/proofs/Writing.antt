-- What writing a header says that passes its check and has its room, and the octets that its table makes.
use mathlib.Core.Path.{◌≡◌, refl, ◌∙◌}
use mathlib.Core.List.{List, [], ◌∷◌, ◌++◌}
use Prim.Native.Nat.{ℕ, ◌+◌, ◌*◌, ◌<◌, ◌≤◌}
use native.Mathlib.Omega.{arith}
use borrow.Author.Tests.{le-ltb}
use lib.ListN.{length, drop}
use Rattle.uslp_octets.specs.Octets.{pack, octets}
use Rattle.uslp_octets.proofs.Laws.{pack_append, cons_eq}
use Rattle.uslp_kinds.specs.Outcome.{done, leaving}
use Rattle.uslp_kinds.specs.Kinds.{rule_number, protocol_number}
use Rattle.uslp_kinds.proofs.Cases.{rule_lt, protocol_lt}
use Rattle.uslp_data_field_header.specs.Field.{first_table, field_table, len_field, field_checking, field_writing}
use Rattle.uslp_data_field_header.specs.declared.TransferFrameDataFieldHeader.{TransferFrameDataFieldHeader}
use Rattle.uslp_data_field_header.proofs.Checks.{checks_passed}
use Rattle.std.specs.Prelude.{Some, None}

module _ (f : TransferFrameDataFieldHeader) (s : List ℕ) (ok : field_checking f ≡ done f) (n : ℕ) (len : n ≡ len_field f) where
  pub writing_done : n ≤ length s → field_writing f s ≡ leaving (done n) (pack (field_table f) ++ drop n s)
  unfolding field_writing
  writing_done h = rw (checks_passed f _ _ ok, ← len, le-ltb _ _ h)

abbrev pub first_octet : TransferFrameDataFieldHeader → ℕ
first_octet f = rule_number f.construction_rule * 32 + protocol_number f.uslp_protocol_id

-- the octets of its table, without a pointer and with one
module _ (f : TransferFrameDataFieldHeader) where
  first_lt : first_octet f < 256
  first_lt = omega (arith, rule_lt f.construction_rule, protocol_lt f.uslp_protocol_id)

  pub octets_none : f.fhp_or_lvo ≡ None → pack (field_table f) ≡ first_octet f ∷ []
  octets_none e = rw e (cons_eq (omega (arith, first_lt)) refl)

  pub octets_pointer : (p : ℕ) → f.fhp_or_lvo ≡ Some p → p < 65536 → pack (field_table f) ≡ first_octet f ∷ octets 2 p
  octets_pointer p e h =
      rw e
      (pack_append "pointer" 1 2 p (first_table f.construction_rule f.uslp_protocol_id) refl h
      ∙ cons_eq (omega (arith, first_lt)) refl)
