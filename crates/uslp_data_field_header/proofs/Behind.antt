-- Reading a header when octets are added behind, and which octets SHORT_SOURCE lacks.
use mathlib.Core.Path.{◌≡◌, refl, ap}
use mathlib.Core.Bool.{Bool, true, false, cond, ◌&&◌, false≢true}
use mathlib.Core.List.{List, ◌++◌}
use Prim.Native.Nat.{ℕ, ◌-◌, ◌<◌, ◌≤◌}
use borrow.Author.Tests.{ltb-true, ltb-false}
use lib.Dec.{eqb, ltb}
use lib.ListN.{length}
use Rattle.uslp_octets.specs.Octets.{named}
use Rattle.uslp_octets.specs.Octets as octets
use Rattle.uslp_octets.proofs.Laws.{word_front, unpack_front}
use Rattle.uslp_kinds.specs.Kinds.{rule_of, fixed_length}
use Rattle.uslp_kinds.specs.Answers.{short}
use Rattle.uslp_kinds.specs.declared.ConstructionRule.{ConstructionRule}
use Rattle.uslp_kinds.specs.declared.ConstructionRule.TheVariants.{NoSegmentation}
use Rattle.uslp_kinds.specs.declared.UslpProtocolId.TheVariants.{Idle}
use Rattle.uslp_kinds.proofs.Behind.{Follows, Says, longer, shorter, short_row, length_row, same_end, says_row, says_end}
use Rattle.uslp_data_field_header.specs.Field.{first_table, first_in, rule_in, number_in, pointer_in, with_protocol, field_reading}
use Rattle.std.specs.Prelude.{Option, Some, None}

-- a test of two parts, the first of which reads the same
both_false : (b b' x x' : Bool) → b' ≡ b → (x ≡ false → x' ≡ false) → b && x ≡ false → b' && x' ≡ false
both_false true b' x x' e p h = rw e (p h)
both_false false b' x x' e p h = rw e

both_true : (b b' x x' : Bool) → b' ≡ b → b && x ≡ true → x' ≡ true → b' && x' ≡ true
both_true true b' x x' e h p = rw e p
both_true false b' x x' e h p = absurd (false≢true h)

first_on : (b x : Bool) → b ≡ true → b && x ≡ false → x ≡ false
first_on b x e h = rw e at h

both_last : (b x : Bool) → b && x ≡ true → x ≡ true
both_last true x h = h
both_last false x h = absurd (false≢true h)

-- a pointer is looked at only where the rule has one
pointer_same : (b b' : Bool) (w w' : ℕ) → b' ≡ b → (b ≡ true → w' ≡ w) → cond b' (Some w') None ≡ cond b (Some w) None
pointer_same true b' w w' e p = rw e (ap Some (p refl))
pointer_same false b' w w' e p = rw e

-- what follows the length is not SHORT_SOURCE
protocol_other : (rule : ConstructionRule) (n : ℕ) (p : Option ℕ) (b c : Bool) → ltb n 9 ≡ b → eqb n 31 ≡ c → short (with_protocol rule n p) ≡ false
protocol_other rule n p true c e f = rw e
protocol_other rule n p false true e f = rw (e, f)
protocol_other rule n p false false e f = rw (e, f)

module _ (s t : List ℕ) where
  first_front : 1 ≤ length s → first_in (s ++ t) ≡ first_in s
  first_front h = unpack_front (first_table NoSegmentation Idle) s t h

  pub field_follows : Follows (length t) (field_reading s) (field_reading (s ++ t))
  unfolding field_reading
  field_follows =
      length_row s t 1 1 _ _ refl
      (λ one.
      let first = first_front (ltb-false _ _ one) in
      let rule : rule_in (s ++ t) ≡ rule_in s = ap (λ (l : List octets.BitField). rule_of (named "construction rule" l)) first in
      let number : number_in (s ++ t) ≡ number_in s = ap (named "protocol id") first in
      let fixed : fixed_length (rule_in (s ++ t)) ≡ fixed_length (rule_in s) = ap fixed_length rule in
      short_row _ _ _ _ _ _ _ _ _
      (both_false (fixed_length (rule_in s)) _ _ _ fixed (longer s t 3 3 refl))
      (λ a l. both_true (fixed_length (rule_in s)) _ _ _ fixed a (shorter s t 3 3 refl l))
      (λ long.
      let pointer = pointer_same (fixed_length (rule_in s)) _ _ _ fixed (λ on. word_front s t 1 2 (ltb-false (length s) 3 (first_on _ _ on long))) in
      same_end _ _ _ (protocol_other (rule_in s) (number_in s) (pointer_in s) _ _ refl refl) (λ i. with_protocol (rule i) (number i) (pointer i))))

-- one octet, or three
pub field_says : (s : List ℕ) (P : ℕ → Type 0) → (length s < 1 → P (1 - length s)) → (1 ≤ length s → length s < 3 → P (3 - length s))
    → Says P (field_reading s)
unfolding field_reading
field_says s P one three =
    says_row P (length s) 1 _ _ (λ a. one (ltb-true (length s) 1 a))
    (λ a.
    says_row P (length s) 3 (fixed_length (rule_in s) && ltb (length s) 3) _
    (λ b. three (ltb-false (length s) 1 a) (ltb-true (length s) 3 (both_last (fixed_length (rule_in s)) _ b)))
    (λ b. says_end P (with_protocol (rule_in s) (number_in s) (pointer_in s)) (protocol_other (rule_in s) (number_in s) (pointer_in s) _ _ refl refl)))
