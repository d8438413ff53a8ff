-- What reading a header that has its octets says, with a pointer and without, and which numbers its refusals have.
use mathlib.Core.Path.{◌≡◌, ap}
use mathlib.Core.Bool.{true, false, ◌&&◌}
use mathlib.Core.List.{List, [], ◌∷◌}
use Prim.Native.Nat.{ℕ, ◌/◌, ◌%◌, ◌≤◌}
use native.Mathlib.Omega.{arith}
use borrow.Author.Tests.{le-ltb}
use lib.Dec.{ltb, lit≤}
use lib.ListN.{length, get_or}
use Rattle.uslp_octets.specs.Octets.{word, named}
use Rattle.uslp_kinds.specs.Outcome.{done, refused}
use Rattle.uslp_kinds.proofs.Outcomes.{then_refused}
use Rattle.uslp_kinds.proofs.Firsts.{first_up_to}
use Rattle.uslp_kinds.proofs.Protocol.{protocol_refused}
use Rattle.uslp_kinds.specs.Kinds.{rules, rule_of, fixed_length, protocol_of}
use Rattle.uslp_kinds.specs.declared.ConstructionRule.{ConstructionRule}
use Rattle.uslp_kinds.specs.declared.ConstructionRule.TheVariants.{NoSegmentation}
use Rattle.uslp_kinds.specs.declared.UslpProtocolId.{UslpProtocolId}
use Rattle.uslp_data_field_header.specs.Field.{first_in, rule_in, number_in, pointer_in, with_protocol, field_reading}
use Rattle.std.specs.Prelude.{Option, Some, None}

-- the first octet's high three bits and low five
pub rule_at : (s : List ℕ) → rule_in s ≡ rule_of (get_or s 0 0 / 32)
rule_at s =
    let e : named "construction rule" (first_in s) % 8 ≡ get_or s 0 0 / 32 % 8 = omega arith in
    ap (λ (n : ℕ). get_or rules n NoSegmentation) e

pub number_at : (s : List ℕ) → number_in s ≡ get_or s 0 0 % 32
number_at s = omega arith

-- its refusals are 1 and 5
pub reading_up_to : (s : List ℕ) {k : ℕ} {vs : List ℕ} → field_reading s ≡ refused k vs → k ≤ 5
unfolding field_reading
reading_up_to s =
    first_up_to 5
    ((ltb (length s) 1, 1, length s ∷ 1 ∷ []) ∷ (fixed_length (rule_in s) && ltb (length s) 3, 1, length s ∷ 3 ∷ []) ∷ [])
    (with_protocol (rule_in s) (number_in s) (pointer_in s)) (lit≤ tt, (lit≤ tt, tt))
    (λ e. omega (arith, protocol_refused (number_in s) (then_refused (protocol_of (number_in s)) _ e)))

-- with one octet, by its rule and the number of its protocol id
module _ (s : List ℕ) (one : 1 ≤ length s) (rule : ConstructionRule) (n : ℕ) (has : rule_in s ≡ rule) (low : number_in s ≡ n) where
  module _ (fixed : fixed_length rule ≡ true) where
    pub reading_pointer : (p : ℕ) → word 1 2 s ≡ p → 3 ≤ length s → field_reading s ≡ with_protocol rule n (Some p)
    unfolding field_reading
    reading_pointer p e h = rw (le-ltb _ _ one, has, low, e, fixed, le-ltb _ _ h)

  pub reading_other : fixed_length rule ≡ false → field_reading s ≡ with_protocol rule n None
  unfolding field_reading
  reading_other other = rw (le-ltb _ _ one, has, low, other)

-- the protocol id of a known number
module _ (rule : ConstructionRule) (n : ℕ) (pointer : Option ℕ) where
  pub with_known : {id : UslpProtocolId} → protocol_of n ≡ done id
      → with_protocol rule n pointer ≡ done (record { construction_rule = rule; uslp_protocol_id = id; fhp_or_lvo = pointer })
  with_known e = rw e
