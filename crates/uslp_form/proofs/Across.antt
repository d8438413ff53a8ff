-- The entries of a good form in the other form, where that says them too: they ascend alike, and saving the record of them writes that form.
use mathlib.Core.Path.{◌≡◌, refl, ap}
use mathlib.Core.List.{List, [], ◌∷◌, ◌++◌}
use Prim.Native.Nat.{ℕ, ◌*◌, ◌-◌, ◌<◌}
use native.Mathlib.Omega.{arith}
use lib.ListN.{length, replicate}
use Rattle.uslp_kinds.specs.Kinds.{bypass_number}
use Rattle.uslp_record.specs.Slots.{slot_of}
use Rattle.uslp_record.specs.declared.SlotState.{SlotState}
use Rattle.uslp_record.specs.declared.SlotState.TheVariants.{Closed, Opened, Heard}
use Rattle.uslp_form.specs.Entries.{Each}
use Rattle.uslp_form.specs.declared.Form.{Form}
use Rattle.uslp_form.specs.declared.Form.TheVariants.{One, Two}
use Rattle.uslp_form.specs.Form.{rank, EntrySaid, RecordSaid, form, form_of, Ascending, GoodForm, restored}
use Rattle.uslp_form.proofs.Each.{each_left, each_right, each_both}
use Rattle.uslp_form.proofs.Flags.{is_controlled, said_each, each_said}
use Rattle.uslp_form.proofs.Restored.{slots_each, each_restored}
use Rattle.uslp_form.proofs.Trips.{saved_again}

-- where both forms say an entry, both have it in one place of the order
rank_scaled : (x : SlotState) → EntrySaid One x → rank Two x ≡ rank One x * 256
rank_scaled Closed e = omega arith
rank_scaled (Opened k w) e = omega (arith, ap bypass_number (is_controlled k.sequence_control_flag e))
rank_scaled (Heard k w t) e = omega (arith, ap bypass_number (is_controlled k.sequence_control_flag e))

module _ (f g : Form) where
  abbrev Both : SlotState → Type 0
  Both x = EntrySaid f x × EntrySaid g x

rank_across : (f g : Form) (x y : SlotState) → Both f g x → Both f g y → rank f x < rank f y → rank g x < rank g y
rank_across One One x y a b h = h
rank_across One Two x y a b h = omega (arith, rank_scaled x a.0, rank_scaled y b.0)
rank_across Two One x y a b h = omega (arith, rank_scaled x a.1, rank_scaled y b.1)
rank_across Two Two x y a b h = h

module _ (f g : Form) where
  ascends_across : (l : List SlotState) → Each (Both f g) l → Ascending f l → Ascending g l
  ascends_across [] a o = tt
  ascends_across (x ∷ l) a o = (
    each_both (Both f g) (λ (y : SlotState). rank f x < rank f y) (λ (y : SlotState). rank g x < rank g y)
        (λ y b h. rank_across f g x y a.0 b h) l a.1 o.0,
    ascends_across l a.1 o.1,
  )

  -- the entries of a good form are a good form of the other, where that says them
  module _ {s : List ℕ} (us hs : List SlotState) (k : GoodForm f s us hs) (said : Each (EntrySaid g) (us ++ hs)) where
    both : Each (Both f g) (us ++ hs)
    both = each_both (EntrySaid f) (EntrySaid g) (Both f g) (λ x a b. (a, b)) (us ++ hs) k.flags said

    pub good_across : GoodForm g (form g us hs) us hs
    good_across = record {
      octets = refl;
      unheard = k.unheard;
      heard = k.heard;
      flags = said;
      sound = k.sound;
      unheard_ascend = ascends_across us (each_left (Both f g) us hs both) k.unheard_ascend;
      heard_ascend = ascends_across hs (each_right (Both f g) us hs both) k.heard_ascend;
      once = k.once;
      few = k.few;
    }

    -- and saving the record of them writes that form
    pub saved_across : form_of g (restored (us ++ hs)) ≡ form g us hs
    saved_across = saved_again g (form g us hs) us hs good_across

    pub said_restored : RecordSaid g (restored (us ++ hs))
    said_restored = each_said g (restored (us ++ hs)).slots (each_restored (us ++ hs) k.few (EntrySaid g) refl said)

  pub entries_said : (l : List SlotState) → RecordSaid g (restored l) → Each (EntrySaid g) l
  entries_said l w = slots_each (EntrySaid g) l (replicate (8 - length l) (slot_of Closed)) (said_each g (restored l).slots w)
