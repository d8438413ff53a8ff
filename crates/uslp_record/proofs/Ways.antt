-- The ways through a call: it is refused and leaves the record, or it is done, by what its checks said.
use Rattle.std.proofs.Common.{◌≡◌, ℕ, ◌^◌, ◌<◌, ◌≤◌, false, not, ◌||◌, eqb, ltb, leb, List, [], ◌∷◌, refl, subst, ltb-false, eqb-true, leb-false}
use borrow.Author.Tests.{not-false}
use Rattle.uslp_kinds.specs.Outcome.{Outcome, done, refused, first_of}
use Rattle.uslp_kinds.specs.Kinds.{count_bad}
use Rattle.uslp_kinds.proofs.Firsts.{Check, refusing, Passing, first_done}
use Rattle.uslp_record.specs.Slots.{find, vacant, slot_of, state_at, put, Change}
use Rattle.uslp_record.specs.Record.{Kept, keeping, applied, opening, closing}
use Rattle.uslp_record.specs.Judging.{overfull, arrival_at, totals_at, width_at, judging, slot_judging}
use Rattle.uslp_record.specs.declared.Channel.{Channel}
use Rattle.uslp_record.specs.declared.SlotState.TheVariants.{Closed, Opened, Heard}
use Rattle.uslp_record.specs.declared.Slot.{Slot}
use Rattle.uslp_record.specs.declared.ChannelRecord.{ChannelRecord}
use Rattle.uslp_record.specs.declared.Arrival.{Arrival}

-- what was made of checks
ways : {A : Type 0} (P : Outcome A → Type 0) (cs : List Check) (x : A) → ((k : ℕ) (vs : List ℕ) → P (refused k vs)) → (Passing cs → P (done x))
    → P (first_of (refusing cs) (done x))
ways {A} P cs x f g = go (first_of (refusing cs) (done x)) refl
  where
    go : (o : Outcome A) → first_of (refusing cs) (done x) ≡ o → P o
    go (done y) e = let z = first_done cs e in subst (λ (v : A). P (done v)) z.1 (g z.0)
    go (refused k vs) e = f k vs

-- what the checks of an opening and of a judgement that are done have said
pub record Opening (r : ChannelRecord) (k : Channel) (w : ℕ) : Type 0 where
  pub allowed : (ltb 63 k.vc_id || eqb w 0 || ltb 7 w) ≡ false
  pub none : 8 ≤ find k r.slots
  pub low : vacant r.slots < 8

pub record Judged (r : ChannelRecord) (k : Channel) (w n : ℕ) : Type 0 where
  pub narrow : w ≤ 7
  pub fits : n < 256 ^ w
  pub low : find k r.slots < 8
  pub wide : w ≡ width_at (state_at r (find k r.slots))
  pub room : overfull (totals_at (state_at r (find k r.slots)) n) ≡ false

module _ (r : ChannelRecord) (k : Channel) where
  pub opening_ways : (P : Kept (Unit {0}) → Type 0) (w : ℕ) → ((j : ℕ) (vs : List ℕ) → P (keeping (refused j vs) r))
      → (Opening r k w → P (keeping (done tt) (put r (vacant r.slots) (Opened k w)))) → P (opening r k w)
  unfolding opening
  opening_ways P w f g =
      ways (λ (o : Outcome (Unit {0} × Change)). P (applied r o))
      ((ltb 63 k.vc_id || eqb w 0 || ltb 7 w, 10, []) ∷ (ltb (find k r.slots) 8, 15, []) ∷ (leb 8 (vacant r.slots), 16, []) ∷ [])
      (tt, record { at = vacant r.slots; state = Opened k w }) f
      (λ p. g (record { allowed = p 0; none = ltb-false (find k r.slots) 8 (p 1); low = leb-false 8 (vacant r.slots) (p 2) }))

  pub closing_ways : (P : Kept (Unit {0}) → Type 0) → ((j : ℕ) (vs : List ℕ) → P (keeping (refused j vs) r))
      → (find k r.slots < 8 → P (keeping (done tt) (put r (find k r.slots) Closed))) → P (closing r k)
  unfolding closing
  closing_ways P f g =
      ways (λ (o : Outcome (Unit {0} × Change)). P (applied r o)) ((leb 8 (find k r.slots), 13, []) ∷ [])
      (tt, record { at = find k r.slots; state = Closed }) f
      (λ p. g (leb-false 8 (find k r.slots) (p 0)))

  -- the slot found, the state in it, and the change that a frame of this width and count asks for
  abbrev pub change_for : ℕ → ℕ → Change
  change_for w n = record { at = find k r.slots; state = Heard k w (totals_at (state_at r (find k r.slots)) n) }

  pub judging_ways : (P : Outcome (Arrival × Change) → Type 0) (w n : ℕ) → ((j : ℕ) (vs : List ℕ) → P (refused j vs))
      → (Judged r k w n → P (done (arrival_at (state_at r (find k r.slots)) n, change_for w n))) → P (judging r k w n)
  unfolding judging
  judging_ways P w n f g =
      let i = find k r.slots in
      ways P
      ((ltb 7 w, 10, [])
      ∷ (count_bad w n, 8, n ∷ w ∷ [])
      ∷ (leb 8 i, 13, [])
      ∷ (not (eqb w (width_at (state_at r i))), 14, w ∷ width_at (state_at r i) ∷ [])
      ∷ (overfull (totals_at (state_at r i) n), 17, [])
      ∷ [])
      (arrival_at (state_at r i) n, change_for w n) f
      (λ p.
      g
      (record {
        narrow = ltb-false 7 w (p 0);
        fits = leb-false (256 ^ w) n (p 1);
        low = leb-false 8 i (p 2);
        wide = eqb-true w (width_at (state_at r i)) (not-false _ (p 3));
        room = p 4;
      }))

-- the same of the slot that holds the channel
pub slot_ways : (x : Slot) (k : Channel) (P : Outcome (Arrival × Slot) → Type 0) (w n : ℕ) → ((j : ℕ) (vs : List ℕ) → P (refused j vs))
    → (overfull (totals_at x.state n) ≡ false → P (done (arrival_at x.state n, slot_of (Heard k w (totals_at x.state n))))) → P (slot_judging x k w n)
unfolding slot_judging
slot_ways x k P w n f g =
    ways P
    ((ltb 7 w, 10, [])
    ∷ (count_bad w n, 8, n ∷ w ∷ [])
    ∷ (not (eqb w (width_at x.state)), 14, w ∷ width_at x.state ∷ [])
    ∷ (overfull (totals_at x.state n), 17, [])
    ∷ [])
    (arrival_at x.state n, slot_of (Heard k w (totals_at x.state n))) f (λ p. g (p 3))
