-- Round trips: what a saving wrote is a good form and gives back every channel; what was restored is saved as the same octets.
use mathlib.Core.Path.{◌≡◌, refl, sym, ◌∙◌, ap, ap₂}
use mathlib.Core.Bool.{Bool, true, false}
use mathlib.Core.List.{List, ◌++◌, map, map-append, append_assoc}
use Prim.Native.Nat.{ℕ, ◌-◌, ◌<◌, ◌≤◌}
use native.Mathlib.Omega.{arith}
use lib.ListN.{length, replicate, length-append}
use Rattle.uslp_record.specs.Slots.{state_holds, find, slot_of, state_at}
use Rattle.uslp_record.specs.declared.Channel.{Channel}
use Rattle.uslp_record.specs.declared.SlotState.{SlotState}
use Rattle.uslp_record.specs.declared.SlotState.TheVariants.{Closed, Opened, Heard}
use Rattle.uslp_record.specs.declared.Slot.{Slot}
use Rattle.uslp_record.specs.declared.ChannelRecord.{ChannelRecord}
use Rattle.uslp_record.specs.Made.{Sound, Made}
use Rattle.uslp_form.specs.Entries.{Each, Once, is_opened, is_heard}
use Rattle.uslp_form.specs.declared.Form.{Form}
use Rattle.uslp_form.specs.Form.{EntrySaid, RecordSaid, form, sorted, form_of, GoodForm, restored}
use Rattle.uslp_record.proofs.Slots.{true_false}
use Rattle.uslp_form.proofs.Each.{states_in, each_append, each_from, each_map, each_both, Has, has_left, has_right, once_append, once_from}
use Rattle.uslp_form.proofs.Flags.{said_each, each_said}
use Rattle.uslp_form.proofs.Sorted.{Savable, sorted_each, sorted_all, sorted_has, sorted_once, sorted_ascends, sorted_none, sorted_past, sorted_same, sorted_length, sorted_apart, open_rank, opened_open, heard_open, not_both, opened_not, heard_not}
use Rattle.uslp_form.proofs.Restored.{each_slots, each_closed, find_none, none_found, has_found, Found, find_has, eight_restored, each_restored, made_restored}

module _ (f : Form) (r : ChannelRecord) where
  -- what a saving writes of it: the channels not heard, those heard, and both
  abbrev pub unheard_of : List SlotState
  unheard_of = sorted f is_opened r.slots

  abbrev pub heard_of : List SlotState
  heard_of = sorted f is_heard r.slots

  abbrev pub entries_of : List SlotState
  entries_of = unheard_of ++ heard_of

  pub all_entries : (P : SlotState → Type 0) → Each P (states_in r.slots) → Each P entries_of
  all_entries P e = each_append P unheard_of heard_of (sorted_all f is_opened P r.slots e) (sorted_all f is_heard P r.slots e)

  -- calls made it, and the form says its open channels
  module _ (made : Made r) (said : RecordSaid f r) where
    states_sound : Each Sound (states_in r.slots)
    states_sound = each_from Sound r.slots (λ j h. made.sound j)

    states_savable : Each (Savable f) (states_in r.slots)
    states_savable =
        each_both Sound (EntrySaid f) (Savable f) (λ x s e. (s, e)) (states_in r.slots) states_sound
        (said_each f r.slots said)

    states_once : Once (states_in r.slots)
    states_once = once_from r.slots (λ k i j a b. made.once k i j (omega (arith, made.eight)) (omega (arith, made.eight)))

    few_entries : length entries_of ≤ 8
    few_entries = omega (arith, length-append unheard_of heard_of, sorted_length f is_opened is_heard not_both r.slots, made.eight)

    -- what saving it writes is a good form
    pub good_saved : GoodForm f (form_of f r) unheard_of heard_of
    good_saved = record {
      octets = refl;
      unheard = sorted_each f is_opened (λ (x : SlotState). is_opened x ≡ true) r.slots
          (each_from (λ (x : SlotState). is_opened x ≡ true → is_opened x ≡ true) r.slots (λ j h e. e));
      heard = sorted_each f is_heard (λ (x : SlotState). is_heard x ≡ true) r.slots
          (each_from (λ (x : SlotState). is_heard x ≡ true → is_heard x ≡ true) r.slots (λ j h e. e));
      flags = all_entries (EntrySaid f) (said_each f r.slots said);
      sound = all_entries Sound states_sound;
      unheard_ascend = sorted_ascends f is_opened (Savable f) r.slots states_once states_savable (λ x y a b. open_rank f x y (opened_open x a) (opened_open y b));
      heard_ascend = sorted_ascends f is_heard (Savable f) r.slots states_once states_savable (λ x y a b. open_rank f x y (heard_open x a) (heard_open y b));
      once =
          once_append unheard_of heard_of (sorted_once f is_opened r.slots states_once) (sorted_once f is_heard r.slots states_once)
          (sorted_apart f is_opened is_heard not_both r.slots states_once);
      few = few_entries;
    }

  -- an open state among the slots is one of the entries
  has_entry : (K : Channel) (t : SlotState) → Has (states_in r.slots) t → state_holds K t ≡ true → Has entries_of t
  has_entry K Closed h e = absurd (true_false e refl)
  has_entry K (Opened k w) h e = has_left unheard_of heard_of (Opened k w) (sorted_has f is_opened r.slots (Opened k w) refl h)
  has_entry K (Heard k w t) h e = has_right unheard_of heard_of (Heard k w t) (sorted_has f is_heard r.slots (Heard k w t) refl h)

  -- every channel stands as it stood, in whatever record of eight slots whose entries hold no channel twice
  module _ (long : length r.slots ≡ 8) (once : Once entries_of) (few : length entries_of ≤ 8) (K : Channel) where
    abbrev back : ChannelRecord
    back = restored entries_of

    pub found_again : find K r.slots < 8 → state_holds K (state_at r (find K r.slots)) ≡ true
        → Found K entries_of (replicate (8 - length entries_of) (slot_of Closed)) (state_at r (find K r.slots))
    found_again h e =
        find_has K entries_of (replicate (8 - length entries_of) (slot_of Closed)) (state_at r (find K r.slots)) once
        (has_entry K (state_at r (find K r.slots)) (has_found K r.slots (omega (arith, long))) e) e

    pub none_again : 8 ≤ find K r.slots → 8 ≤ find K back.slots
    none_again h =
        let e = none_found K r.slots (omega (arith, long)) in
        omega (
          arith,
          find_none K back.slots (each_restored entries_of few (λ (x : SlotState). state_holds K x ≡ false) refl
              (all_entries (λ (x : SlotState). state_holds K x ≡ false) e)),
          eight_restored entries_of few,
        )

-- restoring, then saving
module _ (f : Form) (s : List ℕ) (us hs : List SlotState) (good : GoodForm f s us hs) where
  closed : List Slot
  closed = replicate (8 - length (us ++ hs)) (slot_of Closed)

  apart_slots : (restored (us ++ hs)).slots ≡ map slot_of us ++ (map slot_of hs ++ closed)
  unfolding closed
  apart_slots = ap (λ (l : List Slot). l ++ replicate (8 - length (us ++ hs)) (slot_of Closed)) (map-append slot_of us hs) ∙ append_assoc (map slot_of us)
      (map slot_of hs) _

  none_closed : (test : SlotState → Bool) → test Closed ≡ false → Each (λ (x : SlotState). test x ≡ false) (states_in closed)
  unfolding closed
  none_closed test e = each_closed (λ (x : SlotState). test x ≡ false) (8 - length (us ++ hs)) e

  unheard_again : sorted f is_opened (restored (us ++ hs)).slots ≡ us
  unheard_again =
      ap (sorted f is_opened) apart_slots
      ∙ sorted_same f is_opened us (map slot_of hs ++ closed) good.unheard good.unheard_ascend
      (sorted_none f is_opened (map slot_of hs ++ closed)
      (each_slots (λ (x : SlotState). is_opened x ≡ false) hs closed
      (each_map (λ (x : SlotState). is_heard x ≡ true) (λ (x : SlotState). is_opened x ≡ false) heard_not hs good.heard) (none_closed is_opened refl)))

  pub heard_again : sorted f is_heard (restored (us ++ hs)).slots ≡ hs
  heard_again =
      ap (sorted f is_heard) apart_slots
      ∙ sorted_past f is_heard us (map slot_of hs ++ closed) (each_map (λ (x : SlotState). is_opened x ≡ true)
      (λ (x : SlotState). is_heard x ≡ false) opened_not us good.unheard)
      ∙ sorted_same f is_heard hs closed good.heard good.heard_ascend (sorted_none f is_heard closed (none_closed is_heard refl))

  -- the same octets, whatever record stood before
  pub saved_again : form_of f (restored (us ++ hs)) ≡ s
  saved_again = ap₂ (form f) unheard_again heard_again ∙ sym good.octets

  -- the form says what it gives
  pub said_good : RecordSaid f (restored (us ++ hs))
  said_good =
      each_said f (restored (us ++ hs)).slots (each_restored (us ++ hs) good.few (EntrySaid f) refl good.flags)

  pub made_good : Made (restored (us ++ hs))
  made_good = made_restored (us ++ hs) good.few good.sound good.once
