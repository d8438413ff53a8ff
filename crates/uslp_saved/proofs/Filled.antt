-- Entries that are read, one by one, into slots from the first on.
use mathlib.Core.Path.{◌≡◌, refl, sym, ◌∙◌, ap, ap₂}
use mathlib.Core.List.{List, [], ◌∷◌, ◌++◌, map}
use Prim.Native.Nat.{ℕ, zero, suc, ◌+◌, ◌-◌, ◌*◌, ◌<◌, ◌≤◌}
use native.Mathlib.Omega.{arith}
use lib.ListN.{length, take, drop, get_or, set, replicate, get_or-append}
use lib.Seq.{get_or-append-add, drop-drop, take_all, length-take-le}
use Rattle.uslp_record.specs.Slots.{slot_of, put}
use Rattle.uslp_record.specs.declared.SlotState.{SlotState}
use Rattle.uslp_record.specs.declared.SlotState.TheVariants.{Closed}
use Rattle.uslp_record.specs.declared.Slot.{Slot}
use Rattle.uslp_record.specs.declared.ChannelRecord.{ChannelRecord}
use Rattle.uslp_form.specs.declared.Form.{Form}
use Rattle.uslp_form.specs.Form.{restored}
use Rattle.uslp_form.specs.FromRow.{unheard_long, heard_long}
use Rattle.uslp_saved.specs.Reading.{unheard_in, heard_in, entries_in, first_count, second, second_count, place_of, unheard_of_octets, heard_of_octets, entries_of_octets}
use Rattle.uslp_saved.proofs.Entries.{place_first, place_second, unheard_long_lem}

entry_in : (read : List ℕ → SlotState) (long n : ℕ) (s : List ℕ) (i : ℕ) → i < n → get_or (entries_in read long n s) i Closed ≡ read (drop (i * long) s)
entry_in read long zero s i h = absurd (omega arith)
entry_in read long (suc n) s zero h = let z : 0 ≡ 0 * long = omega arith in ap (λ (k : ℕ). read (drop k s)) z
entry_in read long (suc n) s (suc i) h =
    let z : long + i * long ≡ suc i * long = omega arith in
    entry_in read long n (drop long s) i (omega arith) ∙ ap read (drop-drop (i * long) long s ∙ ap (λ (k : ℕ). drop k s) z)

module _ (f : Form) (s : List ℕ) (i p : ℕ) (spot : p ≡ place_of f (first_count f s) i) where
  pub entry_unheard : i < first_count f s → unheard_in f (drop p s) ≡ get_or (entries_of_octets f s) i Closed
  entry_unheard h =
      sym (get_or-append (unheard_of_octets f s) (heard_of_octets f s) Closed i (omega (arith, unheard_long_lem f s))
      ∙ entry_in (unheard_in f) (unheard_long f) (first_count f s) (drop 1 s) i h ∙ ap (unheard_in f) (place_first f s i h ∙ ap (λ (k : ℕ). drop k s) (sym spot)))

  pub entry_heard : first_count f s ≤ i → i < first_count f s + second_count f s → heard_in f (drop p s) ≡ get_or (entries_of_octets f s) i Closed
  entry_heard far h =
      let j = i - first_count f s in
      let y : length (unheard_of_octets f s) + j ≡ i = omega (arith, unheard_long_lem f s) in
      sym (ap (λ (k : ℕ). get_or (entries_of_octets f s) k Closed) (sym y) ∙ get_or-append-add (unheard_of_octets f s) (heard_of_octets f s) j Closed
      ∙ entry_in (heard_in f) (heard_long f) (second_count f s) (drop (second f s + 1) s) j (omega arith)
      ∙ ap (heard_in f) (place_second f s i far ∙ ap (λ (k : ℕ). drop k s) (sym spot)))

-- one more entry
slots_more : (l : List SlotState) (m i : ℕ) → i < length l
    → set (map slot_of (take i l) ++ replicate (suc m) (slot_of Closed)) i (slot_of (get_or l i Closed)) ≡ map slot_of (take (suc i) l) ++ replicate m (slot_of Closed)
slots_more [] m i h = absurd (omega arith)
slots_more (x ∷ l) m zero h = refl
slots_more (x ∷ l) m (suc i) h = ap (λ (z : List Slot). slot_of x ∷ z) (slots_more l m i (omega arith))

pub filled_more : (l : List SlotState) (r : ChannelRecord) (i : ℕ) (x : SlotState) → i < length l → i < 8 → r ≡ restored (take i l) → x ≡ get_or l i Closed
    → put r i x ≡ restored (take (suc i) l)
filled_more l r i x h k e f = ap₂ (λ (q : ChannelRecord) (y : SlotState). put q i y) e f ∙ (λ j. record { slots = grown j })
  where
    grown : set (restored (take i l)).slots i (slot_of (get_or l i Closed)) ≡ (restored (take (suc i) l)).slots
    grown =
        let a : 8 - length (take i l) ≡ suc (8 - suc i) = omega (arith, length-take-le i l (omega arith)) in
        let b : 8 - suc i ≡ 8 - length (take (suc i) l) = omega (arith, length-take-le (suc i) l (omega arith)) in
        ap (λ (n : ℕ). set (map slot_of (take i l) ++ replicate n (slot_of Closed)) i (slot_of (get_or l i Closed))) a
        ∙ slots_more l (8 - suc i) i h ∙ ap (λ (n : ℕ). map slot_of (take (suc i) l) ++ replicate n (slot_of Closed)) b

pub filled_all : (l : List SlotState) (r : ChannelRecord) (i : ℕ) → length l ≤ i → r ≡ restored (take i l) → r ≡ restored l
filled_all l r i h e = e ∙ ap restored (take_all i l h)
