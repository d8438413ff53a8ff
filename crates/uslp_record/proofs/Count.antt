-- Laws of counting: how far a count is ahead, what arrives, and totals that only grow.
use Rattle.std.proofs.Common.{◌≡◌, ℕ, zero, suc, ◌+◌, ◌-◌, ◌*◌, ◌/◌, ◌%◌, ◌^◌, ◌<◌, ◌≤◌, Bool, true, false, ◌||◌, sym, refl, ap, ◌∙◌, mod-eq_of_lt, pow-suc, arith, pow-add, ltb-false, le-ltb, eq-eqb, ne_eqb, le-leb}
use native.Mathlib.Nat.{add-mul-mod_self_right, one-le-pow, pow-le-pow_right}
use native.Mathlib.Decide.{dec_lt}
use borrow.Author.Tests.{lt-leb}
use Rattle.uslp_record.specs.Record.{most}
use Rattle.uslp_record.specs.Judging.{ahead, arrival_of, overfull}
use Rattle.uslp_record.specs.declared.Totals.{Totals}
use Rattle.uslp_record.specs.declared.Arrival.TheVariants.{New, Repeat, Late}

pub counts_positive : (w : ℕ) → 0 < 256 ^ w
counts_positive w = one-le-pow w 256 (omega arith)

pub counts_le : (w : ℕ) → w ≤ 7 → 256 ^ w ≤ 2 ^ 56
counts_le w h = pow-le-pow_right {n = 256} (omega arith) h

octets : (w : ℕ) → 2 ^ (8 * w) ≡ 256 ^ w
octets zero = refl
octets (suc w) =
    let e : 8 * suc w ≡ 8 * w + 8 = omega arith in
    ap (λ (v : ℕ). 2 ^ v) e ∙ pow-add 2 (8 * w) 8 ∙ ap (λ (v : ℕ). v * 256) (octets w) ∙ sym (pow-suc 256 w)

-- the shift by eight bits for each octet
pub counts_shift : (w : ℕ) → w ≤ 7 → 1 * 2 ^ (8 * w) % 2 ^ 64 ≡ 256 ^ w
counts_shift w h =
    let e : 1 * 2 ^ (8 * w) ≡ 256 ^ w = omega (arith, octets w) in
    ap (λ (v : ℕ). v % 2 ^ 64) e ∙ mod-eq_of_lt (omega (arith, counts_le w h))

pub counts_divide : (w : ℕ) → w ≤ 7 → 2 ^ 64 ≡ 256 ^ (8 - w) * 256 ^ w
counts_divide w h =
    let e : 8 - w + w ≡ 8 = omega arith in
    sym (ap (λ (k : ℕ). 256 ^ k) e) ∙ pow-add 256 (8 - w) w

-- the wrapping difference, reduced
module _ (w n last far : ℕ) (narrow : w ≤ 7) (far-fits : far < 2 ^ 64) (last_Fits : last < 2 ^ 64) (wraps : (far + last) % 2 ^ 64 ≡ n) where
  ahead_wrapped : far % 256 ^ w ≡ ahead w n last
  ahead_wrapped = go (dec_lt (far + last) (2 ^ 64))
    where
      go : Dec (far + last < 2 ^ 64) → far % 256 ^ w ≡ ahead w n last
      go (yes lt) =
          let z : n + 2 ^ 64 - last ≡ far + 2 ^ 64 = omega arith in
          sym (ap (λ (v : ℕ). v % 256 ^ w) (z ∙ ap (λ (v : ℕ). far + v) (counts_divide w narrow)) ∙ add-mul-mod_self_right far (256 ^ (8 - w)) (256 ^ w))
      go (no ge) =
          let z : n + 2 ^ 64 - last ≡ far = omega arith in
          sym (ap (λ (v : ℕ). v % 256 ^ w) z)

  pub ahead_is : (m : ℕ) → m ≡ 256 ^ w → far % m ≡ ahead w n last
  ahead_is m e = ap (λ (v : ℕ). far % v) e ∙ ahead_wrapped

module _ (w d : ℕ) where
  pub arrives_again : d ≡ 0 → Repeat ≡ arrival_of w d
  arrives_again e = simp (eq-eqb d 0 e)

  module _ (some : d ≡ 0 → ⊥) (m : ℕ) (is : m ≡ 256 ^ w) where
    pub arrives_new : d ≤ m / 2 → New (d - 1) ≡ arrival_of w d
    arrives_new h = rw (← is) (simp (ne_eqb d 0 some, le-leb d (m / 2) h))

    pub arrives_late : m / 2 < d → Late ≡ arrival_of w d
    arrives_late h = rw (← is) (simp (ne_eqb d 0 some, lt-leb d (m / 2) h))

or_false : (a b : Bool) → (a || b) ≡ false → (a ≡ false) × (b ≡ false)
or_false true b e = (cc, cc)
or_false false b e = (refl, e)

module _ (t : Totals) where
  pub full_not : overfull t ≡ false → (t.handed_on ≤ most) × (t.missing ≤ most) × (t.repeats ≤ most) × (t.late ≤ most)
  full_not e =
      let x = or_false _ _ e in
      let y = or_false _ _ x.0 in
      let z = or_false _ _ y.0 in
      (ltb-false most t.handed_on z.0, ltb-false most t.missing z.1, ltb-false most t.repeats y.1, ltb-false most t.late x.1)

  pub not_full : t.handed_on ≤ most → t.missing ≤ most → t.repeats ≤ most → t.late ≤ most → overfull t ≡ false
  not_full a b d e = simp (le-ltb most t.handed_on a, le-ltb most t.missing b, le-ltb most t.repeats d, le-ltb most t.late e)
