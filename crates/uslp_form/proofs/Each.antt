-- Laws of what holds of each entry, of an entry among others, and of entries that hold no channel twice.
use mathlib.Core.Path.{◌≡◌, refl, sym, ◌∙◌, ap, subst}
use mathlib.Core.Logic.{◌⊎◌, inl, inr}
use mathlib.Core.Bool.{Bool, true, false}
use mathlib.Core.List.{List, [], ◌∷◌, ◌++◌}
use Prim.Native.Nat.{ℕ, zero, suc, ◌<◌}
use native.Mathlib.Omega.{arith}
use lib.ListN.{length, get_or}
use Rattle.uslp_record.specs.Slots.{state_holds, slot_of}
use Rattle.uslp_record.proofs.Slots.{true_false}
use Rattle.uslp_record.specs.declared.Channel.{Channel}
use Rattle.uslp_record.specs.declared.SlotState.{SlotState}
use Rattle.uslp_record.specs.declared.SlotState.TheVariants.{Closed}
use Rattle.uslp_record.specs.declared.Slot.{Slot}
use Rattle.uslp_form.specs.Entries.{Each, Apart, Once}

abbrev pub states_in : List Slot → List SlotState
states_in [] = []
states_in (x ∷ l) = x.state ∷ states_in l

module _ (P : SlotState → Type 0) where
  pub each_append : (a b : List SlotState) → Each P a → Each P b → Each P (a ++ b)
  each_append [] b x y = y
  each_append (z ∷ a) b x y = (x.0, each_append a b x.1 y)

  pub each_left : (a b : List SlotState) → Each P (a ++ b) → Each P a
  each_left [] b x = tt
  each_left (z ∷ a) b x = (x.0, each_left a b x.1)

  pub each_right : (a b : List SlotState) → Each P (a ++ b) → Each P b
  each_right [] b x = x
  each_right (z ∷ a) b x = each_right a b x.1

-- the same, said of places
pub each_index : (P : SlotState → Type 0) (l : List SlotState) → ((i : ℕ) → i < length l → P (get_or l i Closed)) → Each P l
each_index P [] h = tt
each_index P (x ∷ l) h = (h 0 (omega arith), each_index P l (λ i a. h (suc i) (omega arith)))

pub index_each : (P : SlotState → Type 0) (l : List SlotState) → Each P l → (i : ℕ) → i < length l → P (get_or l i Closed)
index_each P [] e i h = absurd (omega arith)
index_each P (x ∷ l) e zero h = e.0
index_each P (x ∷ l) e (suc i) h = index_each P l e.1 i (omega arith)

pub each_map : (P Q : SlotState → Type 0) → ((x : SlotState) → P x → Q x) → (l : List SlotState) → Each P l → Each Q l
each_map P Q f [] x = tt
each_map P Q f (z ∷ l) x = (f z x.0, each_map P Q f l x.1)

pub each_both : (P Q R : SlotState → Type 0) → ((x : SlotState) → P x → Q x → R x) → (l : List SlotState) → Each P l → Each Q l → Each R l
each_both P Q R f [] x y = tt
each_both P Q R f (z ∷ l) x y = (f z x.0 y.0, each_both P Q R f l x.1 y.1)

-- t is one of the list
abbrev pub Has : List SlotState → SlotState → Type 0
Has [] t = ⊥
Has (x ∷ l) t = (x ≡ t) ⊎ Has l t

pub each_has : (P : SlotState → Type 0) (l : List SlotState) (t : SlotState) → Each P l → Has l t → P t
each_has P [] t e h = absurd h
each_has P (x ∷ l) t e (inl i) = subst P i e.0
each_has P (x ∷ l) t e (inr h) = each_has P l t e.1 h

pub has_left : (a b : List SlotState) (t : SlotState) → Has a t → Has (a ++ b) t
has_left [] b t h = absurd h
has_left (x ∷ a) b t (inl i) = inl i
has_left (x ∷ a) b t (inr h) = inr (has_left a b t h)

pub has_right : (a b : List SlotState) (t : SlotState) → Has b t → Has (a ++ b) t
has_right [] b t h = h
has_right (x ∷ a) b t h = inr (has_right a b t h)

pub apart_sym : (x y : SlotState) → Apart x y → Apart y x
apart_sym x y a k h = go (state_holds k x) refl
  where
    go : (b : Bool) → state_holds k x ≡ b → state_holds k x ≡ false
    go true e = absurd (true_false h (a k e))
    go false e = e

pub once_append : (a b : List SlotState) → Once a → Once b → Each (λ (x : SlotState). Each (Apart x) b) a → Once (a ++ b)
once_append [] b p q r = q
once_append (x ∷ a) b p q r = (each_append (Apart x) a b p.0 r.0, once_append a b p.1 q r.1)

pub once_apart : (a b : List SlotState) (x y : SlotState) → Once (a ++ b) → Has a x → Has b y → Apart x y
once_apart [] b x y o h g = absurd h
once_apart (z ∷ a) b x y o (inl i) g = subst (λ (w : SlotState). Apart w y) i (each_has (Apart z) (a ++ b) y o.0 (has_right a b y g))
once_apart (z ∷ a) b x y o (inr h) g = once_apart a b x y o.1 h g

-- no channel twice, said of places
pub once_index : (l : List SlotState)
    → ((k : Channel) (i j : ℕ) → i < length l → j < length l → state_holds k (get_or l i Closed) ≡ true → state_holds k (get_or l j Closed) ≡ true → i ≡ j)
    → Once l
once_index [] d = tt
once_index (x ∷ l) d = (
  each_index (Apart x) l (λ j a. apart_sym (get_or l j Closed) x (λ k h. go k j a h (state_holds k x) refl)),
  once_index l (λ k i j a b h g. let z : suc i ≡ suc j = d k (suc i) (suc j) (omega arith) (omega arith) h g in omega arith),
)
  where
    go : (k : Channel) (j : ℕ) → j < length l → state_holds k (get_or l j Closed) ≡ true → (b : Bool) → state_holds k x ≡ b → state_holds k x ≡ false
    go k j a h true e = let z : 0 ≡ suc j = d k 0 (suc j) (omega arith) (omega arith) e h in absurd (omega arith)
    go k j a h false e = e

-- and of slots
length_states : (l : List Slot) → length (states_in l) ≡ length l
length_states [] = refl
length_states (x ∷ l) = ap suc (length_states l)

state_in_lem : (l : List Slot) (j : ℕ) → get_or (states_in l) j Closed ≡ (get_or l j (slot_of Closed)).state
state_in_lem [] j = refl
state_in_lem (x ∷ l) zero = refl
state_in_lem (x ∷ l) (suc j) = state_in_lem l j

pub each_from : (P : SlotState → Type 0) (l : List Slot) → ((j : ℕ) → j < length l → P (get_or l j (slot_of Closed)).state) → Each P (states_in l)
each_from P l h = each_index P (states_in l) (λ j a. subst P (sym (state_in_lem l j)) (h j (omega (arith, length_states l))))

pub once_from : (l : List Slot)
    → ((k : Channel) (i j : ℕ) → i < length l → j < length l
    → state_holds k (get_or l i (slot_of Closed)).state ≡ true → state_holds k (get_or l j (slot_of Closed)).state ≡ true → i ≡ j)
    → Once (states_in l)
once_from l d =
    once_index (states_in l)
    (λ k i j a b x y.
    d k i j (omega (arith, length_states l)) (omega (arith, length_states l))
    (sym (ap (state_holds k) (state_in_lem l i)) ∙ x) (sym (ap (state_holds k) (state_in_lem l j)) ∙ y))
