-- Every call on the record keeps what holds of records that calls made.
use Rattle.std.proofs.Common.{◌≡◌, ℕ, suc, ◌^◌, ◌<◌, ◌≤◌, Bool, true, false, ◌||◌, eqb, ltb, List, [], ◌∷◌, get_or, sym, refl, ap, ◌∙◌, subst, arith, length-set, ltb-false, le-ltb}
use native.Mathlib.Decide.{ℕ_discrete, dec_lt}
use lib.ListN.{get_or-replicate, get_or-eq_default, length-replicate}
use Rattle.uslp_kinds.specs.Outcome.{Outcome}
use Rattle.uslp_record.specs.Slots.{state_holds, holds, find, vacant, slot_of, state_at, put, Change, empty_record}
use Rattle.uslp_record.specs.Record.{Kept, keeping, applied, opening, closing, most, missing_of, too_much_in}
use Rattle.uslp_record.specs.Judging.{ahead, arrival_of, totals_after, first_totals, overfull, totals_at, width_at, count_hearing}
use Rattle.uslp_record.specs.Made.{Distinct, Openable, SoundTotals, Sound, Made}
use Rattle.uslp_record.specs.declared.Channel.{Channel}
use Rattle.uslp_record.specs.declared.Totals.{Totals}
use Rattle.uslp_record.specs.declared.SlotState.{SlotState}
use Rattle.uslp_record.specs.declared.SlotState.TheVariants.{Closed, Opened, Heard}
use Rattle.uslp_record.specs.declared.Slot.{Slot}
use Rattle.uslp_record.specs.declared.ChannelRecord.{ChannelRecord}
use Rattle.uslp_record.specs.declared.Arrival.{Arrival}
use Rattle.uslp_record.specs.declared.Arrival.TheVariants.{New, Repeat, Late}
use Rattle.uslp_record.proofs.Seek.{finds}
use Rattle.uslp_record.proofs.Count.{full_not}
use Rattle.uslp_record.proofs.Slots.{true_false, same_one, seek_passes, seek_none, put_same, put_other}
use Rattle.uslp_record.proofs.Ways.{Judged, opening_ways, closing_ways, judging_ways}

-- the record that a call leaves
abbrev pub left : {A : Type 0} → Kept A → ChannelRecord
left (keeping o r) = r

-- opening refuses what is not openable
or_none : (a b c : Bool) → (a || b || c) ≡ false → (a ≡ false) × (b ≡ false) × (c ≡ false)
or_none true b c e = absurd (true_false refl e)
or_none false true c e = absurd (true_false refl e)
or_none false false c e = (refl, refl, e)

pub allowed_width : (k : Channel) (w : ℕ) → (ltb 63 k.vc_id || eqb w 0 || ltb 7 w) ≡ false → (1 ≤ w) × (w ≤ 7)
allowed_width k w e =
    let h = or_none (ltb 63 k.vc_id) (eqb w 0) (ltb 7 w) e in (
      elim (dec_lt 0 w) [ yes a ↦ a | no a ↦ absurd (true_false (ap (λ (v : ℕ). eqb v 0) (let z : w ≡ 0 = omega arith in z)) h.1) ],
      ltb-false 7 w h.2,
    )

openable : (k : Channel) (w : ℕ) → k.spacecraft_id < 2 ^ 16 → (ltb 63 k.vc_id || eqb w 0 || ltb 7 w) ≡ false → Openable k w
openable k w craft e =
    let h = or_none (ltb 63 k.vc_id) (eqb w 0) (ltb 7 w) e in
    record {
      craft = craft;
      channel = ltb-false 63 k.vc_id h.0;
      some = (allowed_width k w e).0;
      narrow = (allowed_width k w e).1;
    }

-- totals after a frame whose count fits the width
module _ (w n : ℕ) (fits : n < 256 ^ w) where
  tallied_first : SoundTotals w (first_totals n)
  tallied_first = record { last = fits; begun = omega arith; handed_on = omega arith; missing = omega arith; repeats = omega arith; late = omega arith }

  tallied_after : (a : Arrival) (t : Totals) → SoundTotals w t → overfull (totals_after a n t) ≡ false → SoundTotals w (totals_after a n t)
  tallied_after (New gap) t c e =
      let f = full_not (totals_after (New gap) n t) e in
      record { last = fits; begun = omega arith; handed_on = f.0; missing = f.1; repeats = f.2; late = f.3 }
  tallied_after Repeat t c e =
      let f = full_not (totals_after Repeat n t) e in
      record { last = c.last; begun = c.begun; handed_on = f.0; missing = f.1; repeats = f.2; late = f.3 }
  tallied_after Late t c e =
      let f = full_not (totals_after Late n t) e in
      record { last = c.last; begun = c.begun; handed_on = f.0; missing = f.1; repeats = f.2; late = f.3 }

-- a frame counted for the channel that a sound slot holds
heard_sound : (u : SlotState) (k : Channel) (w n : ℕ) → Sound u → state_holds k u ≡ true → w ≡ width_at u → n < 256 ^ w → overfull (totals_at u n) ≡ false
    → Sound (Heard k w (totals_at u n))
heard_sound Closed k w n s h e fits room = absurd (true_false h refl)
heard_sound (Opened c v) k w n s h e fits room =
    subst (λ (x : Channel). Sound (Heard x w (first_totals n))) (same_one c k h)
    (subst (Openable c) (sym e) s, tallied_first w n fits)
heard_sound (Heard c v t) k w n s h e fits room =
    subst (λ (x : Channel). Sound (Heard x w (totals_at (Heard c v t) n))) (same_one c k h)
    (subst (Openable c) (sym e) s.0, tallied_after w n fits (arrival_of v (ahead v n t.last)) t (subst (λ (z : ℕ). SoundTotals z t) (sym e) s.1) room)

module _ (r : ChannelRecord) (made : Made r) where
  -- a slot replaced by what is sound and no other holds
  module _ (i : ℕ) (u : SlotState) (low : i < 8) (s : Sound u)
      (apart : (k : Channel) (j : ℕ) → j < 8 → (j ≡ i → ⊥) → state_holds k u ≡ true → state_holds k (state_at r j) ≡ true → ⊥) where
    here : (k : Channel) (j : ℕ) → j ≡ i → state_holds k (state_at (put r i u) j) ≡ true → state_holds k u ≡ true
    here k j e h = sym (ap (state_holds k) (ap (state_at (put r i u)) e ∙ put_same r i u made.eight low)) ∙ h

    there : (k : Channel) (j : ℕ) → (j ≡ i → ⊥) → state_holds k (state_at (put r i u) j) ≡ true → state_holds k (state_at r j) ≡ true
    there k j n h = sym (ap (state_holds k) (put_other r i u j n)) ∙ h

    distinct_put : Distinct (put r i u)
    distinct_put k a b ha hb x y = go (ℕ_discrete a i) (ℕ_discrete b i)
      where
        go : Dec (a ≡ i) → Dec (b ≡ i) → a ≡ b
        go (yes e) (yes f) = e ∙ sym f
        go (yes e) (no f) = absurd (apart k b hb f (here k a e x) (there k b f y))
        go (no e) (yes f) = absurd (apart k a ha e (here k b f y) (there k a e x))
        go (no e) (no f) = made.once k a b ha hb (there k a e x) (there k b f y)

    sound_put : (j : ℕ) → Sound (state_at (put r i u) j)
    sound_put j = go (ℕ_discrete j i)
      where
        go : Dec (j ≡ i) → Sound (state_at (put r i u) j)
        go (yes e) = subst Sound (sym (ap (state_at (put r i u)) e ∙ put_same r i u made.eight low)) s
        go (no n) = subst Sound (sym (put_other r i u j n)) (made.sound j)

    made_put : Made (put r i u)
    made_put = record { eight = length-set r.slots i (slot_of u) ∙ made.eight; once = distinct_put; sound = sound_put }

  -- what holds k', where k is the same channel, holds k
  moved : (k k' : Channel) (t : SlotState) → k ≡ k' → state_holds k' t ≡ true → state_holds k t ≡ true
  moved k k' t e h = ap (λ (v : Channel). state_holds v t) e ∙ h

  pub made_opening : (k : Channel) (w : ℕ) → k.spacecraft_id < 2 ^ 16 → Made (left (opening r k w))
  made_opening k w craft =
      opening_ways r k (λ (q : Kept (Unit {0})). Made (left q)) w (λ j vs. made)
      (λ o.
      made_put (vacant r.slots) (Opened k w) o.low (openable k w craft o.allowed)
      (λ k' j hj n x y.
      true_false (moved k k' (state_at r j) (same_one k k' x) y)
      (seek_none (holds k) (find k) (finds k) r.slots (slot_of Closed) j (omega (arith, made.eight, o.none)) (omega (arith, made.eight)))))

  pub made_closing : (k : Channel) → Made (left (closing r k))
  made_closing k =
      closing_ways r k (λ (q : Kept (Unit {0})). Made (left q)) (λ j vs. made)
      (λ low. made_put (find k r.slots) Closed low tt (λ k' j hj n x y. true_false x refl))

  made_judged : (k : Channel) (w n : ℕ) → Judged r k w n
      → Made (put r (find k r.slots) (Heard k w (totals_at (state_at r (find k r.slots)) n)))
  made_judged k w n d =
      let i = find k r.slots in
      let own = seek_passes (holds k) (find k) (finds k) r.slots (slot_of Closed) (omega (arith, made.eight, d.low)) in
      made_put i (Heard k w (totals_at (state_at r i) n)) d.low
      (heard_sound (state_at r i) k w n (made.sound i) own d.wide d.fits d.room)
      (λ k' j hj m x y. m (made.once k j i hj d.low (moved k k' (state_at r j) (same_one k k' x) y) own))

  -- a frame, whatever its width and count
  pub made_counting : (k : Channel) (w n : ℕ) → Made (left (count_hearing r k w n))
  made_counting k w n = judging_ways r k (λ (o : Outcome (Arrival × Change)). Made (left (applied r o))) w n (λ j vs. made) (made_judged k w n)

-- a record with no channel open
closed_empty : (i : ℕ) → state_at empty_record i ≡ Closed
closed_empty i =
    elim (dec_lt i 8) [
      | yes h ↦ ap (λ (s : Slot). s.state) (get_or-replicate 8 i (slot_of Closed) (slot_of Closed) h)
      | no h ↦ ap (λ (s : Slot). s.state)
          (get_or-eq_default empty_record.slots (slot_of Closed) {n = i} (omega (arith, length-replicate 8 (slot_of Closed))))
    ]

pub made_empty : Made empty_record
made_empty = record {
  eight = refl;
  once = λ k i j hi hj x y. absurd (true_false x (ap (state_holds k) (closed_empty i)));
  sound = λ i. subst Sound (sym (closed_empty i)) tt;
}

-- no slot of a record that calls made misses more than the largest total
sound_missing : (t : SlotState) → Sound t → missing_of t ≤ most
sound_missing Closed s = omega arith
sound_missing (Opened k w) s = omega arith
sound_missing (Heard k w t) s = s.1.missing

none_too_much : (l : List Slot) → ((j : ℕ) → missing_of (get_or l j (slot_of Closed)).state ≤ most) → too_much_in l ≡ false
unfolding too_much_in
none_too_much [] h = refl
none_too_much (x ∷ l) h = rw (le-ltb most (missing_of x.state) (h 0)) (none_too_much l (λ j. h (suc j)))

pub total_fits : (r : ChannelRecord) → Made r → too_much_in r.slots ≡ false
total_fits r made = none_too_much r.slots (λ j. sound_missing (state_at r j) (made.sound j))
