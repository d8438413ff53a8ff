-- Where a channel stands in the record, and which calls leave it standing so.
use mathlib.Core.Path.{◌≡◌, refl, sym, ◌∙◌, ap, subst}
use mathlib.Core.Bool.{true, false}
use Prim.Native.Nat.{ℕ, ◌<◌, ◌≤◌}
use native.Mathlib.Omega.{arith}
use lib.ListN.{length, length-set}
use Rattle.uslp_kinds.specs.Outcome.{Outcome, done}
use Rattle.uslp_record.specs.Slots.{same_channel, state_holds, holds, is_closed, find, vacant, slot_of, state_at, put, Change}
use Rattle.uslp_record.specs.Record.{Kept, keeping, opening, closing, applied}
use Rattle.uslp_record.specs.Judging.{judging}
use Rattle.uslp_record.specs.declared.Channel.{Channel}
use Rattle.uslp_record.specs.declared.SlotState.{SlotState}
use Rattle.uslp_record.specs.declared.SlotState.TheVariants.{Closed, Opened}
use Rattle.uslp_record.specs.declared.ChannelRecord.{ChannelRecord}
use Rattle.uslp_record.specs.declared.Arrival.{Arrival}
use Rattle.uslp_record.proofs.Seek.{finds, vacates}
use Rattle.uslp_counting.specs.History.{record_of}
use Rattle.uslp_counting.specs.Demand.{Begun}
use Rattle.uslp_record.proofs.Slots.{true_false, same_self, holds_other, closed_holds, seek_passes, seek_set, seek_new, put_same, put_other}
use Rattle.uslp_record.proofs.Keeps.{allowed_width}
use Rattle.uslp_record.proofs.Ways.{opening_ways, closing_ways, judging_ways}

-- the channel K is in a slot, in the state t
pub record Stands (K : Channel) (r : ChannelRecord) (t : SlotState) : Type 0 where
  pub eight : length r.slots ≡ 8
  pub there : find K r.slots < 8
  pub state : state_at r (find K r.slots) ≡ t

-- a slot is replaced, and the channel is found there
stands_put : (K : Channel) (r : ChannelRecord) (i : ℕ) (u : SlotState) → length r.slots ≡ 8 → i < 8 → find K (put r i u).slots ≡ i → Stands K (put r i u) u
stands_put K r i u long low spot = record {
  eight = length-set r.slots i (slot_of u) ∙ long;
  there = omega arith;
  state = ap (state_at (put r i u)) spot ∙ put_same r i u long low;
}

module _ (K : Channel) (r : ChannelRecord) (t : SlotState) (at : Stands K r t) where
  holds_here : state_holds K (state_at r (find K r.slots)) ≡ true
  holds_here = seek_passes (holds K) (find K) (finds K) r.slots (slot_of Closed) (omega (arith, at.eight, at.there))

  -- another slot is replaced
  stands_other : (j : ℕ) (u : SlotState) → j < 8 → state_holds K (state_at r j) ≡ false → state_holds K u ≡ false → Stands K (put r j u) t
  stands_other j u h e f =
      let spot : find K (put r j u).slots ≡ find K r.slots =
      seek_set (holds K) (find K) (finds K) r.slots j (slot_of u) (slot_of Closed) (omega (arith, at.eight)) (f ∙ sym e) in
      record {
        eight = length-set r.slots j (slot_of u) ∙ at.eight;
        there = omega (arith, spot, at.there);
        state = ap (state_at (put r j u)) spot
            ∙ put_other r j u (find K r.slots) (λ i. true_false holds_here (ap (λ (v : ℕ). state_holds K (state_at r v)) i ∙ e))
            ∙ at.state;
      }

  -- its own is
  pub stands_own : (u : SlotState) → state_holds K u ≡ true → Stands K (put r (find K r.slots) u) u
  stands_own u f =
      let i = find K r.slots in
      stands_put K r i u at.eight at.there
      (seek_set (holds K) (find K) (finds K) r.slots i (slot_of u) (slot_of Closed) (omega (arith, at.eight, at.there)) (f ∙ sym holds_here))

  -- another channel is opened, closed, heard
  module _ (k : Channel) (other : same_channel k K ≡ false) where
    elsewhere_holds : find k r.slots < 8 → state_holds K (state_at r (find k r.slots)) ≡ false
    elsewhere_holds low =
        holds_other k K (state_at r (find k r.slots)) other
        (seek_passes (holds k) (find k) (finds k) r.slots (slot_of Closed) (omega (arith, at.eight)))

    pub stands_opening : (w : ℕ) → Stands K (record_of (opening r k w)) t
    stands_opening w =
        opening_ways r k (λ (q : Kept (Unit {0})). Stands K (record_of q) t) w (λ j vs. at)
        (λ o.
        stands_other (vacant r.slots) (Opened k w) o.low
        (closed_holds K (state_at r (vacant r.slots))
        (seek_passes is_closed vacant vacates r.slots (slot_of Closed) (omega (arith, at.eight, o.low)))) other)

    pub stands_closing : Stands K (record_of (closing r k)) t
    stands_closing =
        closing_ways r k (λ (q : Kept (Unit {0})). Stands K (record_of q) t) (λ j vs. at)
        (λ low. stands_other (find k r.slots) Closed low (elsewhere_holds low) refl)

    pub stands_judging : (w n : ℕ) → Stands K (record_of (applied r (judging r k w n))) t
    stands_judging w n =
        judging_ways r k (λ (o : Outcome (Arrival × Change)). Stands K (record_of (applied r o)) t) w n (λ j vs. at)
        (λ d. stands_other (find k r.slots) _ d.low (elsewhere_holds d.low) other)

  -- this one is opened again
  pub stands_again : (w : ℕ) → Stands K (record_of (opening r K w)) t
  stands_again w =
      opening_ways r K (λ (q : Kept (Unit {0})). Stands K (record_of q) t) w (λ j vs. at)
      (λ o. absurd (omega (arith, o.none, at.there)))

-- opening a channel
stands_opened : (K : Channel) (w : ℕ) (r₀ r : ChannelRecord) → length r₀.slots ≡ 8 → opening r₀ K w ≡ keeping (done tt) r → Stands K r (Opened K w)
stands_opened K w r₀ r long =
    opening_ways r₀ K (λ (q : Kept (Unit {0})). q ≡ keeping (done tt) r → Stands K r (Opened K w)) w
    (λ j vs e. let z : ◌≡◌ {A = ℕ} 0 1 = cc in absurd (omega arith))
    (λ o e.
    let i = vacant r₀.slots in
    let new : put r₀ i (Opened K w) ≡ r = cc in
    subst (λ (q : ChannelRecord). Stands K q (Opened K w)) new
    (stands_put K r₀ i (Opened K w) long o.low
    (seek_new (holds K) (find K) (finds K) r₀.slots i (slot_of (Opened K w)) (omega (arith, o.none)) (omega (arith, o.low)) (same_self K))))

-- once a channel is begun it stands, and its width is one that opening does not refuse
module _ {K : Channel} {w : ℕ} {r : ChannelRecord} (b : Begun K w r) where
  pub stands_begun : Stands K r (Opened K w)
  stands_begun = stands_opened K w b.before r b.eight b.opens

  begun_width : (1 ≤ w) × (w ≤ 7)
  begun_width =
      opening_ways b.before K (λ (q : Kept (Unit {0})). q ≡ keeping (done tt) r → (1 ≤ w) × (w ≤ 7)) w
      (λ j vs e. let z : ◌≡◌ {A = ℕ} 0 1 = cc in absurd (omega arith)) (λ o e. allowed_width K w o.allowed) b.opens

  pub begun_some : 1 ≤ w
  begun_some = begun_width.0

  pub begun_narrow : w ≤ 7
  begun_narrow = begun_width.1
