-- What slots are missing, each up to the largest total: a frame that is counted adds its gap, so that no sum of gaps passes eight times the largest.
use Rattle.std.proofs.Common.{◌≡◌, ℕ, zero, suc, ◌+◌, ◌*◌, ◌<◌, ◌≤◌, false, cond, ltb, List, [], ◌∷◌, length, get_or, set, sym, refl, ap, ◌∙◌, arith, le-ltb, lt-ltb}
use native.Mathlib.Decide.{dec_lt}
use Rattle.uslp_kinds.specs.Outcome.{Outcome, done}
use Rattle.uslp_kinds.proofs.Outcomes.{not_done, done_one}
use Rattle.uslp_record.specs.Record.{most, missing_of}
use Rattle.uslp_record.specs.Judging.{ahead, arrival_of, totals_after, overfull, arrival_at, totals_at, slot_judging}
use Rattle.uslp_record.specs.declared.Channel.{Channel}
use Rattle.uslp_record.specs.declared.Totals.{Totals}
use Rattle.uslp_record.specs.declared.SlotState.{SlotState}
use Rattle.uslp_record.specs.declared.SlotState.TheVariants.{Closed, Opened, Heard}
use Rattle.uslp_record.specs.declared.Slot.{Slot}
use Rattle.uslp_record.specs.declared.Arrival.{Arrival}
use Rattle.uslp_record.specs.declared.Arrival.TheVariants.{New, Repeat, Late}
use Rattle.uslp_record.proofs.Count.{full_not}
use Rattle.uslp_record.proofs.Ways.{slot_ways}

-- what a state is missing, up to the largest total
unfoldable pub up_to : SlotState → ℕ
up_to t = cond (ltb most (missing_of t)) most (missing_of t)

up_to_fits : (t : SlotState) → missing_of t ≤ most → up_to t ≡ missing_of t
unfolding up_to
up_to_fits t h = simp (le-ltb most (missing_of t) h)

up_to_most : (t : SlotState) → up_to t ≤ most
unfolding up_to
up_to_most t =
    elim (dec_lt most (missing_of t)) [
      | yes h ↦ simp (lt-ltb most (missing_of t) h) (omega arith)
      | no h ↦ simp (le-ltb most (missing_of t) (omega arith)) (omega arith)
    ]

-- the same over slots
unfoldable pub up_to_in : List Slot → ℕ
up_to_in [] = 0
up_to_in (x ∷ l) = up_to x.state + up_to_in l

pub slots_most : (l : List Slot) → up_to_in l ≤ length l * most
unfolding up_to_in
slots_most [] = omega arith
slots_most (x ∷ l) = omega (arith, up_to_most x.state, slots_most l)

pub slots_set : (l : List Slot) (i : ℕ) (y d : Slot) → i < length l → up_to_in (set l i y) + up_to (get_or l i d).state ≡ up_to_in l + up_to y.state
unfolding up_to_in
slots_set [] i y d h = absurd (omega arith)
slots_set (x ∷ l) zero y d h = omega arith
slots_set (x ∷ l) (suc i) y d h = omega (arith, slots_set l i y d (omega arith))

-- the gap that an arrival brings
abbrev pub gap_of : Arrival → ℕ
gap_of (New gap) = gap
gap_of Repeat = 0
gap_of Late = 0

gap_after : (a : Arrival) (n : ℕ) (t : Totals) → (totals_after a n t).missing ≡ t.missing + gap_of a
gap_after (New gap) n t = refl
gap_after Repeat n t = omega arith
gap_after Late n t = omega arith

-- a frame that is counted adds its gap to its slot
gap_counted : (t : SlotState) (k : Channel) (w n : ℕ) → overfull (totals_at t n) ≡ false → up_to t + gap_of (arrival_at t n) ≡ up_to (Heard k w (totals_at t n))
gap_counted Closed k w n room = omega (arith, up_to_fits Closed (omega arith), up_to_fits (Heard k w (totals_at Closed n)) (omega arith))
gap_counted (Opened c v) k w n room =
    omega (arith, up_to_fits (Opened c v) (omega arith), up_to_fits (Heard k w (totals_at (Opened c v) n)) (omega arith))
gap_counted (Heard c v t) k w n room =
    let a = arrival_of v (ahead v n t.last) in
    let g = gap_after a n t in
    let f = full_not (totals_after a n t) room in
    omega (arith, g, up_to_fits (Heard c v t) (omega (arith, f.1, g)), up_to_fits (Heard k w (totals_after a n t)) f.1)

pub slot_gap : (x : Slot) (k : Channel) (w n : ℕ) {a : Arrival} {y : Slot} → slot_judging x k w n ≡ done (a, y)
    → up_to x.state + gap_of a ≡ up_to y.state
slot_gap x k w n {a} {y} =
    slot_ways x k (λ (o : Outcome (Arrival × Slot)). o ≡ done (a, y) → up_to x.state + gap_of a ≡ up_to y.state) w n
    (λ j vs e. absurd (not_done e))
    (λ room e.
    let d = done_one e in
    ap (λ (b : Arrival). up_to x.state + gap_of b) (sym (ap (λ (v : Arrival × Slot). v.0) d))
    ∙ gap_counted x.state k w n room ∙ ap (λ (v : Arrival × Slot). up_to v.1.state) d)

-- so no gap passes the largest total
pub slot_gap_fits : (x : Slot) (k : Channel) (w n : ℕ) {a : Arrival} {y : Slot} → slot_judging x k w n ≡ done (a, y) → gap_of a ≤ most
slot_gap_fits x k w n {a} {y} e = omega (arith, slot_gap x k w n e, up_to_most y.state)
