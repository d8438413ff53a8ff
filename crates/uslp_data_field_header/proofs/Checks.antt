-- What the check of a header's pointer says where it passes, and that it decides first in any longer order of checks.
use mathlib.Core.Path.{◌≡◌, ap, sym, ◌∙◌}
use mathlib.Core.Bool.{Bool, true, false, cond}
use mathlib.Core.List.{List, [], ◌∷◌, ◌++◌}
use Prim.Native.Nat.{ℕ}
use borrow.Author.Tests.{not-false}
use Rattle.uslp_kinds.specs.Outcome.{Outcome, done, refused, first_of}
use Rattle.uslp_kinds.specs.Kinds.{rule_number, fixed_length}
use Rattle.uslp_data_field_header.specs.Field.{pointer_bad, len_field, field_checks, field_checking}
use Rattle.uslp_data_field_header.specs.declared.TransferFrameDataFieldHeader.{TransferFrameDataFieldHeader}
use Rattle.uslp_kinds.proofs.Outcomes.{done_one, passed, failed}
use Rattle.std.specs.Prelude.{Some, None}

-- a pointer that does not go with the rule
abbrev bad : TransferFrameDataFieldHeader → Bool
bad f = pointer_bad f.construction_rule f.fhp_or_lvo

pub checking_good : (f : TransferFrameDataFieldHeader) → bad f ≡ false → field_checking f ≡ done f
unfolding field_checking
checking_good f h = rw h

-- the check before others: where it refuses it decides, and what is done has passed it
module _ (f : TransferFrameDataFieldHeader) {A : Type 0} (rest : List (Bool × Outcome A)) (last : Outcome A) where
  pub checks_refused : {k : ℕ} {vs : List ℕ} → field_checking f ≡ refused k vs → first_of (field_checks {A = A} f ++ rest) last ≡ refused k vs
  unfolding field_checking
  checks_refused e = failed 9 (rule_number f.construction_rule ∷ []) (bad f) f (first_of rest last) e

  checks_good : {x : A} → first_of (field_checks {A = A} f ++ rest) last ≡ done x → (bad f ≡ false) × (first_of rest last ≡ done x)
  checks_good e = passed 9 (rule_number f.construction_rule ∷ []) (bad f) (first_of rest last) e

  pub checks_done : {x : A} → first_of (field_checks {A = A} f ++ rest) last ≡ done x → (field_checking f ≡ done f) × (first_of rest last ≡ done x)
  checks_done e = (checking_good f (checks_good e).0, (checks_good e).1)

-- what comes out of the check is what went in
module _ (f : TransferFrameDataFieldHeader) {g : TransferFrameDataFieldHeader} (e : field_checking f ≡ done g) where
  pub checking_same : g ≡ f
  unfolding field_checking
  checking_same = sym (done_one (checks_good f [] (done f) e).1)

module _ (f : TransferFrameDataFieldHeader) (ok : field_checking f ≡ done f) where
  good_pointer : bad f ≡ false
  unfolding field_checking
  good_pointer = (checks_good f [] (done f) ok).0

  pub pointer_fixed : (p : ℕ) → f.fhp_or_lvo ≡ Some p → fixed_length f.construction_rule ≡ true
  pointer_fixed p h = not-false _ (sym (ap (pointer_bad f.construction_rule) h) ∙ good_pointer)

  pub none_other : f.fhp_or_lvo ≡ None → fixed_length f.construction_rule ≡ false
  none_other h = sym (ap (pointer_bad f.construction_rule) h) ∙ good_pointer

  pub pointer_len : (p : ℕ) → f.fhp_or_lvo ≡ Some p → len_field f ≡ 3
  pointer_len p h = ap (λ (b : Bool). cond b 3 1) (pointer_fixed p h)

  pub none_len : f.fhp_or_lvo ≡ None → len_field f ≡ 1
  none_len h = ap (λ (b : Bool). cond b 3 1) (none_other h)

pub checks_passed : (f : TransferFrameDataFieldHeader) {A : Type 0} (rest : List (Bool × Outcome A)) (last : Outcome A)
    → field_checking f ≡ done f → first_of (field_checks {A = A} f ++ rest) last ≡ first_of rest last
checks_passed f rest last ok = rw (good_pointer f ok)
