-- The record that restoring gives: where each channel is found, and that it is one that calls make.
use mathlib.Core.Path.{◌≡◌, refl, sym, ◌∙◌, ap, subst}
use mathlib.Core.Logic.{inl, inr}
use mathlib.Core.Bool.{Bool, true, false}
use mathlib.Core.List.{List, [], ◌∷◌, ◌++◌, map}
use Prim.Native.Nat.{ℕ, zero, suc, ◌-◌, ◌<◌, ◌≤◌}
use native.Mathlib.Omega.{arith}
use lib.ListN.{length, get_or, replicate, length-append, length-map, length-replicate}
use Rattle.uslp_record.specs.Slots.{state_holds, holds, find, slot_of, state_at}
use Rattle.uslp_record.specs.declared.Channel.{Channel}
use Rattle.uslp_record.specs.declared.SlotState.{SlotState}
use Rattle.uslp_record.specs.declared.SlotState.TheVariants.{Closed}
use Rattle.uslp_record.specs.declared.Slot.{Slot}
use Rattle.uslp_record.specs.Made.{Sound, Made}
use Rattle.uslp_form.specs.Entries.{Each, Apart, Once}
use Rattle.uslp_form.specs.Form.{restored}
use Rattle.uslp_record.proofs.Seek.{finds}
use Rattle.uslp_record.proofs.Slots.{true_false, seek_none}
use Rattle.uslp_form.proofs.Each.{states_in, each_from, each_map, Has, each_has}

pub each_at : (P : SlotState → Type 0) (l : List Slot) → Each P (states_in l) → P Closed → (i : ℕ) → P (get_or l i (slot_of Closed)).state
each_at P [] e c i = c
each_at P (x ∷ l) e c zero = e.0
each_at P (x ∷ l) e c (suc i) = each_at P l e.1 c i

-- slots that hold entries, and others behind them
pub each_slots : (P : SlotState → Type 0) (l : List SlotState) (m : List Slot) → Each P l → Each P (states_in m) → Each P (states_in (map slot_of l ++ m))
each_slots P [] m e h = h
each_slots P (x ∷ l) m e h = (e.0, each_slots P l m e.1 h)

pub slots_each : (P : SlotState → Type 0) (l : List SlotState) (m : List Slot) → Each P (states_in (map slot_of l ++ m)) → Each P l
slots_each P [] m e = tt
slots_each P (x ∷ l) m e = (e.0, slots_each P l m e.1)

pub each_closed : (P : SlotState → Type 0) (n : ℕ) → P Closed → Each P (states_in (replicate n (slot_of Closed)))
each_closed P zero c = tt
each_closed P (suc n) c = (c, each_closed P n c)

module _ (K : Channel) where
  find_hit : (x : Slot) (l : List Slot) → state_holds K x.state ≡ true → find K (x ∷ l) ≡ 0
  unfolding find
  find_hit x l e = rw e

  find_miss : (x : Slot) (l : List Slot) → state_holds K x.state ≡ false → find K (x ∷ l) ≡ suc (find K l)
  unfolding find
  find_miss x l e = rw e

  pub find_none : (l : List Slot) → Each (λ (x : SlotState). state_holds K x ≡ false) (states_in l) → find K l ≡ length l
  unfolding find
  find_none [] e = refl
  find_none (x ∷ l) e = find_miss x l e.0 ∙ ap suc (find_none l e.1)

  -- the first of the slots that holds the channel is among them
  pub has_found : (l : List Slot) → find K l < length l → Has (states_in l) (get_or l (find K l) (slot_of Closed)).state
  has_found [] h = absurd (omega arith)
  has_found (x ∷ l) h = go (state_holds K x.state) refl (λ k. has_found l k)
    where
      go : (b : Bool) → state_holds K x.state ≡ b → (find K l < length l → Has (states_in l) (get_or l (find K l) (slot_of Closed)).state)
          → Has (states_in (x ∷ l)) (get_or (x ∷ l) (find K (x ∷ l)) (slot_of Closed)).state
      go true e ih = inl (ap (λ (n : ℕ). (get_or (x ∷ l) n (slot_of Closed)).state) (sym (find_hit x l e)))
      go false e ih = inr (subst (λ (n : ℕ). Has (states_in l) (get_or (x ∷ l) n (slot_of Closed)).state) (sym (find_miss x l e))
          (ih (omega (arith, find_miss x l e))))

  pub none_found : (l : List Slot) → length l ≤ find K l → Each (λ (x : SlotState). state_holds K x ≡ false) (states_in l)
  none_found l h =
      each_from (λ (x : SlotState). state_holds K x ≡ false) l (λ j a. seek_none (holds K) (find K) (finds K) l (slot_of Closed) j h a)

  -- an entry is found where no channel stands twice
  pub record Found (l : List SlotState) (m : List Slot) (t : SlotState) : Type 0 where
    pub there : find K (map slot_of l ++ m) < length l
    pub state : (get_or (map slot_of l ++ m) (find K (map slot_of l ++ m)) (slot_of Closed)).state ≡ t

  pub find_has : (l : List SlotState) (m : List Slot) (t : SlotState) → Once l → Has l t → state_holds K t ≡ true → Found l m t
  find_has [] m t o h e = absurd h
  find_has (x ∷ l) m t o (inl i) e =
      let z = find_hit (slot_of x) (map slot_of l ++ m) (ap (state_holds K) i ∙ e) in
      record { there = omega (arith, z); state = ap (λ (n : ℕ). (get_or (slot_of x ∷ (map slot_of l ++ m)) n (slot_of Closed)).state) z ∙ i }
  find_has (x ∷ l) m t o (inr h) e =
      let ih = find_has l m t o.1 h e in
      let z = find_miss (slot_of x) (map slot_of l ++ m) (go (state_holds K x) refl) in
      record {
        there = omega (arith, z, ih.there);
        state = ap (λ (n : ℕ). (get_or (slot_of x ∷ (map slot_of l ++ m)) n (slot_of Closed)).state) z ∙ ih.state;
      }
    where
      go : (b : Bool) → state_holds K x ≡ b → state_holds K x ≡ false
      go true f = absurd (true_false e (each_has (Apart x) l t o.0 h K f))
      go false f = f

  -- and nowhere else
  pub found_only : (l : List SlotState) (m : List Slot) (i : ℕ) → Once l → Each (λ (x : SlotState). state_holds K x ≡ false) (states_in m)
      → state_holds K (get_or (map slot_of l ++ m) i (slot_of Closed)).state ≡ true → find K (map slot_of l ++ m) ≡ i
  found_only [] m i o n e = absurd (true_false e (each_at (λ (x : SlotState). state_holds K x ≡ false) m n refl i))
  found_only (x ∷ l) m zero o n e = find_hit (slot_of x) (map slot_of l ++ m) e
  found_only (x ∷ l) m (suc i) o n e = find_miss (slot_of x) (map slot_of l ++ m) (go (state_holds K x) refl) ∙ ap suc (found_only l m i o.1 n e)
    where
      go : (b : Bool) → state_holds K x ≡ b → state_holds K x ≡ false
      go true f =
          absurd (true_false e
          (each_at (λ (y : SlotState). state_holds K y ≡ false) (map slot_of l ++ m)
          (each_slots (λ (y : SlotState). state_holds K y ≡ false) l m
          (each_map (Apart x) (λ (y : SlotState). state_holds K y ≡ false) (λ y a. a K f) l o.0) n)
          refl i))
      go false f = f

module _ (l : List SlotState) (few : length l ≤ 8) where
  pub eight_restored : length (restored l).slots ≡ 8
  eight_restored = omega (
    arith,
    length-append (map slot_of l) (replicate (8 - length l) (slot_of Closed)),
    length-map l slot_of,
    length-replicate
        (8 - length l) (slot_of Closed),
  )

  pub each_restored : (P : SlotState → Type 0) → P Closed → Each P l → Each P (states_in (restored l).slots)
  each_restored P c e = each_slots P l (replicate (8 - length l) (slot_of Closed)) e (each_closed P (8 - length l) c)

  pub made_restored : Each Sound l → Once l → Made (restored l)
  made_restored s o = record {
    eight = eight_restored;
    once = λ k i j hi hj x y. sym (spot k i x) ∙ spot k j y;
    sound = each_at Sound (restored l).slots (each_restored Sound tt s) tt;
  }
    where
      spot : (k : Channel) (i : ℕ) → state_holds k (state_at (restored l) i) ≡ true → find k (restored l).slots ≡ i
      spot k i x =
          found_only k l (replicate (8 - length l) (slot_of Closed)) i o
          (each_closed (λ (y : SlotState). state_holds k y ≡ false) (8 - length l) refl) x
