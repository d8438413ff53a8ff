-- Entries admitted one by one are those that a good form asks for.
use mathlib.Core.Path.{◌≡◌, refl, sym, ◌∙◌, ap, subst}
use mathlib.Core.Bool.{false}
use mathlib.Core.List.{List, [], ◌∷◌, ◌++◌, map}
use Prim.Native.Nat.{ℕ, zero, suc, ◌+◌, ◌-◌, ◌<◌}
use native.Mathlib.Omega.{arith}
use native.Mathlib.Decide.{dec_lt}
use lib.ListN.{length, get_or, replicate, length-append, get_or-append}
use lib.Seq.{get_or-append-add}
use Rattle.uslp_record.specs.Slots.{state_holds, slot_of, state_at}
use Rattle.uslp_record.specs.declared.SlotState.{SlotState}
use Rattle.uslp_record.specs.declared.SlotState.TheVariants.{Closed}
use Rattle.uslp_record.specs.declared.Slot.{Slot}
use Rattle.uslp_record.specs.declared.ChannelRecord.{ChannelRecord}
use Rattle.uslp_form.specs.Entries.{Each, Once}
use Rattle.uslp_record.specs.Made.{Sound}
use Rattle.uslp_form.specs.declared.Form.{Form}
use Rattle.uslp_form.specs.Form.{rank, Ascending, restored}
use Rattle.uslp_saved.specs.Reading.{AllAdmitted}
use Rattle.uslp_form.proofs.Each.{each_map, each_index, index_each, once_index}
use Rattle.uslp_form.proofs.Restored.{each_closed, found_only}

-- ascending, from each to the next
module _ (f : Form) where
  abbrev Rises : List SlotState → Type 0
  Rises l = (i : ℕ) → suc i < length l → rank f (get_or l i Closed) < rank f (get_or l (suc i) Closed)

  chain : (x : SlotState) (l : List SlotState) → Rises (x ∷ l) → Each (λ (y : SlotState). rank f x < rank f y) l
  chain x [] h = tt
  chain x (y ∷ l) h =
      let one = h 0 (omega arith) in (
        one,
        each_map (λ (z : SlotState). rank f y < rank f z) (λ (z : SlotState). rank f x < rank f z) (λ z u. omega arith) l
            (chain y l (λ i a. h (suc i) (omega arith))),
      )

  rises_ascends : (l : List SlotState) → Rises l → Ascending f l
  rises_ascends [] h = tt
  rises_ascends (x ∷ l) h = (chain x l h, rises_ascends l (λ i a. h (suc i) (omega arith)))

  ascends_rises : (l : List SlotState) → Ascending f l → Rises l
  ascends_rises [] o i h = absurd (omega arith)
  ascends_rises (x ∷ l) o zero h = index_each (λ (y : SlotState). rank f x < rank f y) l o.0 0 (omega arith)
  ascends_rises (x ∷ l) o (suc i) h = ascends_rises l o.1 i (omega arith)

  slot_at : (l : List SlotState) (m : List Slot) (i : ℕ) → i < length l → (get_or (map slot_of l ++ m) i (slot_of Closed)).state ≡ get_or l i Closed
  slot_at [] m i h = absurd (omega arith)
  slot_at (x ∷ l) m zero h = refl
  slot_at (x ∷ l) m (suc i) h = slot_at l m i (omega arith)

  module _ (us hs : List SlotState) where
    abbrev l : List SlotState
    l = us ++ hs

    abbrev q : ChannelRecord
    q = restored l

    at : (i : ℕ) → i < length l → state_at q i ≡ get_or l i Closed
    at i = slot_at l (replicate (8 - length l) (slot_of Closed)) i

    -- an entry of the first section, and of the second
    left : (i : ℕ) → i < length us → state_at q i ≡ get_or us i Closed
    left i h = at i (omega (arith, length-append us hs)) ∙ get_or-append us hs Closed i h

    right : (i : ℕ) → i < length hs → state_at q (length us + i) ≡ get_or hs i Closed
    right i h = at (length us + i) (omega (arith, length-append us hs)) ∙ get_or-append-add us hs i Closed

    pub admits_all : AllAdmitted f q (length us) (length l) → Each Sound l × Ascending f us × Ascending f hs × Once l
    admits_all h = (
      each_index Sound l (λ i a. subst Sound (at i a) (h i a).sound),
      rises_ascends us (λ i a.
          let e = (h (suc i) (omega (arith, length-append us hs))).above (omega arith) (λ z. omega arith) in
          let z = ap (λ (n : ℕ). rank f (state_at q n)) (let d : suc i - 1 ≡ i = omega arith in d) in
          omega (arith, e, z, ap (rank f) (left i (omega arith)), ap (rank f) (left (suc i) a))),
      rises_ascends hs (λ i a.
          let e = (h (length us + suc i) (omega (arith, length-append us hs))).above (omega arith) (λ z. omega arith) in
          let z = ap (λ (n : ℕ). rank f (state_at q n)) (let d : length us + suc i - 1 ≡ length us + i = omega arith in d) in
          omega (arith, e, z, ap (rank f) (right i (omega arith)), ap (rank f) (right (suc i) a))),
      once_index l (λ k i j a b x y.
          sym ((h i a).first k (ap (state_holds k) (at i a) ∙ x)) ∙ (h j b).first k (ap (state_holds k) (at j b) ∙ y)),
    )

    pub all_admits : Each Sound l → Ascending f us → Ascending f hs → Once l → AllAdmitted f q (length us) (length l)
    all_admits s u v o i low = record {
      sound = subst Sound (sym (at i low)) (index_each Sound l s i low);
      above = λ p n. rise p n (dec_lt i (length us));
      first = λ k x.
          found_only k l (replicate (8 - length l) (slot_of Closed)) i o (each_closed (λ (y : SlotState). state_holds k y ≡ false) (8 - length l) refl) x;
    }
      where
        rise : 0 < i → (i ≡ length us → ⊥) → Dec (i < length us) → rank f (state_at q (i - 1)) < rank f (state_at q i)
        rise p n (yes h) =
            let e = ascends_rises us u (i - 1) (omega arith) in
            let d : suc (i - 1) ≡ i = omega arith in
            let z = ap (λ (m : ℕ). rank f (get_or us m Closed)) d in
            omega (arith, e, z, ap (rank f) (left (i - 1) (omega arith)), ap (rank f) (left i h))
        rise p n (no h) =
            let far : length us < i = elim (dec_lt (length us) i) [ yes w ↦ w | no w ↦ absurd (n (omega arith)) ] in
            let j = i - length us - 1 in
            let e = ascends_rises hs v j (omega (arith, length-append us hs)) in
            let a : length us + j ≡ i - 1 = omega arith in
            let b : length us + suc j ≡ i = omega arith in
            omega (
              arith,
              e,
              ap (λ (m : ℕ). rank f (state_at q m)) a,
              ap (λ (m : ℕ). rank f (state_at q m)) b,
              ap (rank f) (right j (omega (arith, length-append us hs))),
              ap (rank f) (right (suc j) (omega (arith, length-append us hs))),
            )
