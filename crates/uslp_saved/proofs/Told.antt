-- Whether octets are a good form is told by the entries that are read.
use mathlib.Core.Path.{◌≡◌, sym, subst}
use mathlib.Core.Bool.{true}
use mathlib.Core.List.{List, [], ◌++◌}
use Prim.Native.Nat.{ℕ, ◌+◌}
use native.Mathlib.Omega.{arith}
use lib.ListN.{length, drop}
use Rattle.uslp_octets.specs.Octets.{AreOctets}
use Rattle.uslp_kinds.specs.Outcome.{done, refused}
use Rattle.uslp_record.specs.Record.{keeping}
use Rattle.uslp_record.specs.declared.SlotState.{SlotState}
use Rattle.uslp_record.specs.declared.ChannelRecord.{ChannelRecord}
use Rattle.uslp_form.specs.Entries.{is_opened, is_heard}
use Rattle.uslp_form.specs.declared.Form.{Form}
use Rattle.uslp_form.specs.Form.{EntrySaid, GoodForm, restored}
use Rattle.uslp_form.specs.Saved.{Restoring}
use Rattle.uslp_form.specs.Saved.Restoring.{good, bad}
use Rattle.uslp_form.proofs.Each.{each_append, each_map}
use Rattle.uslp_form.proofs.Rows.{Entry}
use Rattle.uslp_form.specs.FromRow.{unheard_long, heard_long}
use Rattle.uslp_saved.specs.Reading.{unheard_in, heard_in, first_count, second, second_count, unheard_of_octets, heard_of_octets, entries_of_octets, Shaped, Flagged, AllAdmitted}
use Rattle.uslp_saved.proofs.Entries.{unheard_reader, heard_reader, entries_each, unheard_long_lem, entries_count, unheard_read, heard_read, long_read, flags_read, form_read}
use Rattle.uslp_saved.proofs.Admits.{admits_all, all_admits}

module _ (f : Form) (s : List ℕ) where
  abbrev us : List SlotState
  us = unheard_of_octets f s

  abbrev hs : List SlotState
  hs = heard_of_octets f s

  abbrev Admits : Type 0
  Admits = AllAdmitted f (restored (entries_of_octets f s)) (first_count f s) (first_count f s + second_count f s)

  -- the same, over the lengths of what is read
  counted : (P : ℕ → ℕ → Type 0) → P (length us) (length (us ++ hs)) → P (first_count f s) (first_count f s + second_count f s)
  counted P h = subst (λ (n : ℕ). P n (first_count f s + second_count f s)) (unheard_long_lem f s) (subst (P (length us)) (entries_count f s) h)

  uncounted : (P : ℕ → ℕ → Type 0) → P (first_count f s) (first_count f s + second_count f s) → P (length us) (length (us ++ hs))
  uncounted P h = subst (P (length us)) (sym (entries_count f s)) (subst (λ (n : ℕ). P n (first_count f s + second_count f s)) (sym (unheard_long_lem f s)) h)

  told_good : AreOctets s → Shaped f s → Flagged f s → Admits → GoodForm f s us hs
  told_good oct shape flags all =
      let a = admits_all f us hs (uncounted (AllAdmitted f (restored (us ++ hs))) all) in
      let u = entries_each f is_opened (unheard_in f) (unheard_long f) (unheard_reader f) (first_count f s) (drop 1 s) in
      let h = entries_each f is_heard (heard_in f) (heard_long f) (heard_reader f) (second_count f s) (drop (second f s + 1) s) in
      record {
        octets = form_read f s oct shape.long flags;
        unheard = each_map (Entry f is_opened) (λ (x : SlotState). is_opened x ≡ true) (λ x e. e.0) us u;
        heard = each_map (Entry f is_heard) (λ (x : SlotState). is_heard x ≡ true) (λ x e. e.0) hs h;
        flags = each_append (EntrySaid f) us hs
            (each_map (Entry f is_opened) (EntrySaid f) (λ x e. e.1.1) us u)
            (each_map (Entry f is_heard) (EntrySaid f) (λ x e. e.1.1) hs h);
        sound = a.0;
        unheard_ascend = a.1;
        heard_ascend = a.2;
        once = a.3;
        few = omega (arith, entries_count f s, shape.few);
      }

  module _ (vs gs : List SlotState) (g : GoodForm f s vs gs) where
    own : GoodForm f s us hs
    own =
        subst (λ (a : List SlotState). GoodForm f s a hs) (sym (unheard_read f s vs gs g))
        (subst (λ (b : List SlotState). GoodForm f s vs b) (sym (heard_read f s vs gs g)) g)

    told_shaped : Shaped f s
    told_shaped = record { long = long_read f s vs gs g; few = omega (arith, entries_count f s, own.few) }

    told_admits : Admits
    told_admits = counted (AllAdmitted f (restored (us ++ hs))) (all_admits f us hs own.sound own.unheard_ascend own.heard_ascend own.once)

  -- what restoring leaves
  module _ (r : ChannelRecord) where
    pub restores_good : AreOctets s → Shaped f s → Flagged f s → Admits → Restoring f r s (keeping (done tt) (restored (entries_of_octets f s)))
    restores_good oct shape flags all = good us hs (told_good oct shape flags all)

    pub restores_shapeless : (Shaped f s → ⊥) → Restoring f r s (keeping (refused 18 []) r)
    restores_shapeless n = bad (λ vs gs g. n (told_shaped vs gs g))

    pub restores_flagless : (Flagged f s → ⊥) → Restoring f r s (keeping (refused 18 []) r)
    restores_flagless n = bad (λ vs gs g. n (flags_read f s vs gs g))

    pub restores_bad : (Admits → ⊥) → Restoring f r s (keeping (refused 18 []) r)
    restores_bad n = bad (λ vs gs g. n (told_admits vs gs g))
