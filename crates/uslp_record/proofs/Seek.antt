-- Laws of the search over eight slots, for whichever slot is sought.
use Rattle.std.proofs.Common.{◌≡◌, ℕ, zero, suc, ◌<◌, Bool, true, false, cond, List, [], ◌∷◌, Option, Some, None, length, get_or, sym, refl, ap, arith}
use mir.Val.{Val}
use denote.Laws.{Is}
use denote.Struct.Declared.{row}
use Rattle.uslp_record.specs.contracts.ChannelRecord as record_type
use Rattle.uslp_record.specs.Slots.{holds, is_closed, find, vacant, slot_of, slot_found, FoundFirst}
use Rattle.uslp_record.specs.declared.SlotState.{SlotState}
use Rattle.uslp_record.specs.declared.SlotState.TheVariants.{Closed}
use Rattle.uslp_record.proofs.Found.{found_here, found_nowhere}
use Rattle.uslp_record.specs.declared.Channel.{Channel}
use Rattle.uslp_record.specs.declared.Slot.{Slot}
use Rattle.uslp_record.specs.declared.ChannelRecord.{ChannelRecord}

-- what a function is told at its entry of a record that it is passed, `c.good.0`, says that it has eight slots
pub eight_slots : (r : ChannelRecord) {vs : List Val} → Is (row record_type.the_type) r vs → length r.slots ≡ 8
eight_slots r h = h.1.1.0.1.0.1

-- f seeks the first slot that passes the test
pub record Seeks (test : Slot → Bool) (f : List Slot → ℕ) : Type 0 where
  pub none : f [] ≡ 0
  pub more : (x : Slot) (l : List Slot) → f (x ∷ l) ≡ cond (test x) 0 (suc (f l))

pub finds : (k : Channel) → Seeks (holds k) (find k)
unfolding find
finds k = record { none = refl; more = λ x l. refl }

pub vacates : Seeks is_closed vacant
unfolding vacant
vacates = record { none = refl; more = λ x l. refl }

-- a place that passes after none that did is where f finds it; where none passes, f finds none
module _ (test : Slot → Bool) (f : List Slot → ℕ) (seeks : Seeks test f) where
  sought : (l : List Slot) (i : ℕ) (d : Slot) → i < length l → test (get_or l i d) ≡ true
      → ((j : ℕ) → j < i → test (get_or l j d) ≡ false) → i ≡ f l
  sought [] i d h e n = absurd (omega arith)
  sought (x ∷ l) zero d h e n = rw (seeks.more x l, e) refl
  sought (x ∷ l) (suc i) d h e n =
      rw (seeks.more x l, n 0 (omega arith)) (ap suc (sought l i d (omega arith) e (λ j k. n (suc j) (omega arith))))

  unsought : (l : List Slot) (d : Slot) → ((j : ℕ) → j < length l → test (get_or l j d) ≡ false) → length l ≡ f l
  unsought [] d n = sym seeks.none
  unsought (x ∷ l) d n = rw (seeks.more x l, n 0 (omega arith)) (ap suc (unsought l d (λ j k. n (suc j) (omega arith))))

  -- so a search whose test says of each slot what `test` does finds what f finds
  pub found_first : (Says : SlotState → Bool → Type 0) (r : ChannelRecord) → length r.slots ≡ 8 → (o : Option ℕ) → FoundFirst Says r o
      → ((x : Slot) (b : Bool) → Says x.state b → b ≡ test x) → o ≡ slot_found (f r.slots)
  unfolding FoundFirst
  found_first Says r h (Some i) e says =
      found_here (f r.slots) i
      (sought r.slots i (slot_of Closed) (omega (arith, h)) (sym (says _ _ e.1)) (λ j k. sym (says _ _ (e.2 j k)))) e.0
  found_first Says r h None e says =
      let n = λ (j : ℕ) (k : j < length r.slots). sym (says _ _ (e j (omega (arith, h)))) in
      found_nowhere (f r.slots) (omega (arith, unsought r.slots (slot_of Closed) n, h))
