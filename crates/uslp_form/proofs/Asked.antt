-- What is asked of a record is answered alike after it was saved and restored.
use mathlib.Core.Path.{◌≡◌, refl, sym, ◌∙◌, ap}
use Prim.Native.Nat.{◌<◌}
use native.Mathlib.Omega.{arith}
use native.Mathlib.Decide.{dec_lt}
use Rattle.uslp_kinds.specs.Outcome.{done}
use Rattle.uslp_record.specs.Slots.{holds, find, slot_of}
use Rattle.uslp_record.specs.Record.{showing, missing_in, console_total}
use Rattle.uslp_record.specs.declared.Channel.{Channel}
use Rattle.uslp_record.specs.declared.SlotState.TheVariants.{Closed}
use Rattle.uslp_record.specs.declared.ChannelRecord.{ChannelRecord}
use Rattle.uslp_record.proofs.Seek.{finds}
use Rattle.uslp_record.proofs.Slots.{seek_passes}
use Rattle.uslp_record.proofs.Calls.{showing_none, showing_done}
use Rattle.uslp_record.proofs.Keeps.{total_fits}
use Rattle.uslp_record.specs.Made.{Made}
use Rattle.uslp_form.specs.declared.Form.{Form}
use Rattle.uslp_form.specs.Form.{RecordSaid, form_of, restored}
use Rattle.uslp_form.proofs.Sorted.{missed, missed_sorted}
use Rattle.uslp_form.proofs.Trips.{unheard_of, heard_of, entries_of, good_saved, found_again, none_again, heard_again, made_good}

-- the console total of a record that calls made is never refused
total_made : (r : ChannelRecord) → Made r → console_total r ≡ done (missing_in r.slots)
unfolding console_total
total_made r made = rw (total_fits r made)

module _ (f : Form) (r : ChannelRecord) (made : Made r) (said : RecordSaid f r) where
  abbrev back : ChannelRecord
  back = restored (entries_of f r)

  -- asking for any channel, open or not
  pub asked_again : (K : Channel) → showing back K ≡ showing r K
  asked_again K = go (dec_lt (find K r.slots) 8)
    where
      go : Dec (find K r.slots < 8) → showing back K ≡ showing r K
      go (yes h) =
          let g = good_saved f r made said in
          let a = found_again f r made.eight g.once g.few K h
          (seek_passes (holds K) (find K) (finds K) r.slots (slot_of Closed) (omega (arith, made.eight))) in
          sym (showing_done back K (find K back.slots) refl (omega (arith, a.there, g.few))) ∙ ap done a.state
          ∙ showing_done r K (find K r.slots) refl h
      go (no h) =
          let g = good_saved f r made said in
          let a = none_again f r made.eight g.once g.few K (omega arith) in
          sym (showing_none back K (find K back.slots) refl a) ∙ showing_none r K (find K r.slots) refl (omega arith)

  -- asking for the console total
  pub total_again : console_total back ≡ console_total r
  total_again =
      total_made back (made_good f (form_of f r) (unheard_of f r) (heard_of f r) (good_saved f r made said))
      ∙ ap done (sym (missed_sorted f back.slots) ∙ ap (missed f) (heard_again f (form_of f r) (unheard_of f r) (heard_of f r) (good_saved f r made said))
      ∙ missed_sorted f r.slots)
      ∙ sym (total_made r made)
