-- What each way through hearing a frame leaves is what the rule says.
use Rattle.std.proofs.Common.{◌≡◌, ℕ, ◌^◌, ◌<◌, ◌≤◌, Bool, true, false, not, eqb, ltb, leb, List, [], ◌∷◌, sym, refl, ap, ◌∙◌, arith, le-ltb, lt-ltb, eq-eqb, ne_eqb, le-leb}
use borrow.Author.Tests.{lt-leb}
use Rattle.uslp_kinds.specs.Outcome.{Outcome, done, refused, first_of}
use Rattle.uslp_kinds.specs.Kinds.{count_bad}
use Rattle.uslp_kinds.proofs.Outcomes.{not_done}
use Rattle.uslp_kinds.proofs.Firsts.{Check, refusing}
use Rattle.uslp_record.specs.Slots.{find, slot_of, state_at, Change}
use Rattle.uslp_record.specs.Judging.{overfull, arrival_at, totals_at, width_at, judging, slot_judging}
use Rattle.uslp_record.specs.declared.Channel.{Channel}
use Rattle.uslp_record.specs.declared.SlotState.{SlotState}
use Rattle.uslp_record.specs.declared.SlotState.TheVariants.{Heard}
use Rattle.uslp_record.specs.declared.Slot.{Slot}
use Rattle.uslp_record.specs.declared.ChannelRecord.{ChannelRecord}
use Rattle.uslp_record.specs.declared.Arrival.{Arrival}

-- the checks behind those of width and count have numbers from 13 on
others : (a b c : Bool) (x : Arrival × Change) (us : List ℕ) {j : ℕ} {vs : List ℕ}
    → first_of ((a, refused 13 []) ∷ (b, refused 14 us) ∷ (c, refused 17 []) ∷ []) (done x) ≡ refused j vs → 13 ≤ j
others true b c x us {j} e = let z : 13 ≡ j = cc in omega arith
others false true c x us {j} e = let z : 14 ≡ j = cc in omega arith
others false false true x us {j} e = let z : 17 ≡ j = cc in omega arith
others false false false x us e = absurd (not_done (sym e))

-- the slot that holds the channel, by its checks
module _ (x : Slot) (k : Channel) (w n : ℕ) (narrow : w ≤ 7) (fits : n < 256 ^ w) where
  slot_width : (w ≡ width_at x.state → ⊥) → slot_judging x k w n ≡ refused 14 (w ∷ width_at x.state ∷ [])
  unfolding slot_judging
  slot_width h = simp (le-ltb 7 w narrow, lt-leb (256 ^ w) n fits, ne_eqb w (width_at x.state) h)

  module _ (same : w ≡ width_at x.state) where
    slot_full : overfull (totals_at x.state n) ≡ true → slot_judging x k w n ≡ refused 17 []
    unfolding slot_judging
    slot_full h = simp (le-ltb 7 w narrow, lt-leb (256 ^ w) n fits, eq-eqb w (width_at x.state) same, h)

    slot_done : overfull (totals_at x.state n) ≡ false
        → slot_judging x k w n ≡ done (arrival_at x.state n, slot_of (Heard k w (totals_at x.state n)))
    unfolding slot_judging
    slot_done h = simp (le-ltb 7 w narrow, lt-leb (256 ^ w) n fits, eq-eqb w (width_at x.state) same, h)

-- what is judged of the slot at a place, as a change
abbrev pub changing : ℕ → Outcome (Arrival × Slot) → Outcome (Arrival × Change)
changing i (done y) = done (y.0, record { at = i; state = y.1.state })
changing i (refused j vs) = refused j vs

changing_checks : (i : ℕ) (cs : List Check) (x : Arrival) (t : SlotState)
    → first_of (refusing cs) (done (x, record { at = i; state = t })) ≡ changing i (first_of (refusing cs) (done (x, slot_of t)))
changing_checks i [] x t = refl
changing_checks i ((true, k, vs) ∷ cs) x t = refl
changing_checks i ((false, k, vs) ∷ cs) x t = changing_checks i cs x t

module _ (r : ChannelRecord) (k : Channel) (w n : ℕ) where
  pub judging_wide : 7 < w → judging r k w n ≡ refused 10 []
  unfolding judging
  judging_wide h = simp (lt-ltb 7 w h)

  pub judging_count : w ≤ 7 → 256 ^ w ≤ n → judging r k w n ≡ refused 8 (n ∷ w ∷ [])
  unfolding judging
  judging_count narrow h = simp (le-ltb 7 w narrow, le-leb (256 ^ w) n h)

  module _ (i : ℕ) (is : i ≡ find k r.slots) where
    pub judging_none : w ≤ 7 → n < 256 ^ w → 8 ≤ i → judging r k w n ≡ refused 13 []
    unfolding judging
    judging_none narrow fits h = rw (← is) (simp (le-ltb 7 w narrow, lt-leb (256 ^ w) n fits, le-leb 8 i h))

    -- a channel that is found is judged by its slot
    pub judging_slot : i < 8 → judging r k w n ≡ changing i (slot_judging (slot_of (state_at r i)) k w n)
    unfolding judging slot_judging
    judging_slot there =
        rw (← is)
        (simp (lt-leb 8 i there)
        (changing_checks i
        ((ltb 7 w, 10, [])
        ∷ (count_bad w n, 8, n ∷ w ∷ [])
        ∷ (not (eqb w (width_at (state_at r i))), 14, w ∷ width_at (state_at r i) ∷ [])
        ∷ (overfull (totals_at (state_at r i) n), 17, [])
        ∷ [])
        (arrival_at (state_at r i) n) (Heard k w (totals_at (state_at r i) n))))

  -- a width and a count that a frame has are refused by 13, 14 or 17 alone
  pub judging_late : w ≤ 7 → n < 256 ^ w → {j : ℕ} {vs : List ℕ} → judging r k w n ≡ refused j vs → 13 ≤ j
  unfolding judging
  judging_late narrow fits e =
      let i = find k r.slots in
      others (leb 8 i) (not (eqb w (width_at (state_at r i)))) (overfull (totals_at (state_at r i) n)) _ _
      (simp (le-ltb 7 w narrow, lt-leb (256 ^ w) n fits) at e)

-- a frame of the channel, for whoever knows what stands in its slot
module _ (r : ChannelRecord) (k : Channel) (w n : ℕ) (narrow : w ≤ 7) (fits : n < 256 ^ w) (there : find k r.slots < 8) (u : SlotState)
    (is : state_at r (find k r.slots) ≡ u) where
  by_slot : {o : Outcome (Arrival × Slot)} → slot_judging (slot_of u) k w n ≡ o → judging r k w n ≡ changing (find k r.slots) o
  by_slot e =
      judging_slot r k w n (find k r.slots) refl there
      ∙ ap (changing (find k r.slots)) (ap (λ (t : SlotState). slot_judging (slot_of t) k w n) is ∙ e)

  pub judged_width : (w ≡ width_at u → ⊥) → judging r k w n ≡ refused 14 (w ∷ width_at u ∷ [])
  judged_width odd = by_slot (slot_width (slot_of u) k w n narrow fits odd)

  module _ (wide : w ≡ width_at u) where
    pub judged_full : overfull (totals_at u n) ≡ true → judging r k w n ≡ refused 17 []
    judged_full e = by_slot (slot_full (slot_of u) k w n narrow fits wide e)

    pub judged_done : overfull (totals_at u n) ≡ false
        → judging r k w n ≡ done (arrival_at u n, record { at = find k r.slots; state = Heard k w (totals_at u n) })
    judged_done e = by_slot (slot_done (slot_of u) k w n narrow fits wide e)
