-- A protocol number that is known is the number of its id.
use mathlib.Core.Path.{◌≡◌, refl, ap, sym, ◌∙◌}
use Prim.Native.Nat.{ℕ, zero, suc, ◌<◌}
use native.Mathlib.Omega.{arith}
use native.Mathlib.Decide.{dec_lt, ℕ_discrete}
use borrow.Author.Tests.{lt-ltb, le-ltb, eq-eqb, ne_eqb}
use mathlib.Core.List.{List, [], ◌∷◌}
use lib.ListN.{get_or}
use lib.Dec.{ltb, eqb}
use mathlib.Core.Bool.{Bool, true, false, cond}
use Rattle.uslp_kinds.specs.Outcome.{done, refused}
use Rattle.uslp_kinds.specs.Kinds.{protocols, protocol_number, protocol_of}
use Rattle.uslp_kinds.specs.declared.UslpProtocolId.{UslpProtocolId}
use Rattle.uslp_kinds.specs.declared.UslpProtocolId.TheVariants.{Idle}
use Rattle.uslp_kinds.proofs.Outcomes.{not_done, done_one}

listed : (n : ℕ) → n < 9 → protocol_number (get_or protocols n Idle) ≡ n
listed zero h = refl
listed (suc zero) h = refl
listed (suc (suc zero)) h = refl
listed (suc (suc (suc zero))) h = refl
listed (suc (suc (suc (suc zero)))) h = refl
listed (suc (suc (suc (suc (suc zero))))) h = refl
listed (suc (suc (suc (suc (suc (suc zero)))))) h = refl
listed (suc (suc (suc (suc (suc (suc (suc zero))))))) h = refl
listed (suc (suc (suc (suc (suc (suc (suc (suc zero)))))))) h = refl
listed (suc (suc (suc (suc (suc (suc (suc (suc (suc k))))))))) h = absurd (omega arith)

-- the one refusal is 5
pub protocol_refused : (n : ℕ) {k : ℕ} {vs : List ℕ} → protocol_of n ≡ refused k vs → k ≡ 5
protocol_refused n {k} {vs} = at (ltb n 9) (eqb n 31)
  where
    at : (a b : Bool) → cond a (done (get_or protocols n Idle)) (cond b (done Idle) (refused 5 (n ∷ []))) ≡ refused k vs → k ≡ 5
    at true b e = absurd (not_done (sym e))
    at false true e = absurd (not_done (sym e))
    at false false e = cc

module _ (n : ℕ) {id : UslpProtocolId} (e : protocol_of n ≡ done id) where
  pub protocol_number_lem : protocol_number id ≡ n
  protocol_number_lem =
      elim (dec_lt n 9) [
        | yes a ↦ ap protocol_number (sym (done_one (rw (lt-ltb n 9 a) at e))) ∙ listed n a
        | no a ↦
            let nine : ltb n 9 ≡ false = le-ltb n 9 (omega arith) in
            elim (ℕ_discrete n 31) [
              | yes b ↦ ap protocol_number (sym (done_one (rw (nine, eq-eqb n 31 b) at e))) ∙ sym b
              | no b ↦ absurd (not_done (rw (nine, ne_eqb n 31 b) at e))
            ]
      ]
