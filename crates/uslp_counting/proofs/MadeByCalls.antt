-- Every record that calls made, restorings among them: its console total, and that a saving of it comes back.
use mathlib.Core.Path.{◌≡◌, refl, sym, ap, subst}
use mathlib.Core.List.{List, [], ◌∷◌, ◌++◌, map}
use Prim.Native.Nat.{ℕ, ◌≤◌}
use native.Mathlib.Omega.{arith}
use lib.ListN.{length, drop, replicate}
use lib.Seq.{take-append_seam}
use Rattle.uslp_kinds.specs.Outcome.{done, leaving}
use Rattle.uslp_kinds.specs.declared.ManagedParameters.{ManagedParameters}
use Rattle.uslp_record.specs.Slots.{state_at, empty_record}
use Rattle.uslp_record.specs.Record.{Kept, keeping, console_total}
use Rattle.uslp_record.specs.Made.{Made}
use Rattle.uslp_record.specs.declared.Channel.{Channel}
use Rattle.uslp_record.specs.declared.SlotState.{SlotState}
use Rattle.uslp_record.specs.declared.ChannelRecord.{ChannelRecord}
use Rattle.uslp_record.proofs.Keeps.{made_empty, made_opening, made_closing, made_counting}
use Rattle.uslp_form.specs.declared.Form.{Form}
use Rattle.uslp_form.specs.Entries.{Each}
use Rattle.uslp_form.specs.Form.{EntrySaid, RecordSaid, form, form_of, GoodForm, restored}
use Rattle.uslp_form.specs.Saved.{saving, Restoring}
use Rattle.uslp_form.specs.Saved.Restoring.{good, bad}
use Rattle.uslp_form.specs.declared.Form.TheVariants.{Two}
use Rattle.uslp_form.proofs.Flags.{said_each, said_two}
use Rattle.uslp_form.proofs.Restored.{eight_restored}
use Rattle.uslp_form.proofs.Trips.{unheard_of, heard_of, entries_of, all_entries, good_saved, made_good}
use Rattle.uslp_form.proofs.Across.{good_across, saved_across, said_restored}
use Rattle.uslp_form.proofs.Converted.{converting_done}
use Rattle.uslp_form.proofs.Rows.{sound_fits, restores_done, restores_refused}
use Rattle.uslp_form.proofs.Claims.{saving_done, Back, restores_saved, comes_back, form_within}
use Rattle.uslp_reader.specs.EndToEnd.{cut}
use Rattle.uslp_reader.specs.declared.TransferFrame.{TransferFrame}
use Rattle.uslp_hearing.specs.Hearing.{channel_of, frame_hearing}
use Rattle.uslp_hearing.specs.declared.FrameArrival.{FrameArrival}
use Rattle.uslp_hearing.proofs.Ways.{made_frame, made_hearing}
use Rattle.uslp_end_to_end.specs.Many.{no_frames, tally_of, plus, added_to, hearings, many_hearing}
use Rattle.uslp_end_to_end.specs.declared.Tally.{Tally}
use Rattle.uslp_end_to_end.proofs.Made.{made_many}
use Rattle.uslp_counting.specs.History.{EachCall, record_of, Handing, heard_all, called, run, Sender, Event, Call, call_of}
use Rattle.uslp_counting.specs.History.Call.{hears as hearing, hears_many as many, opens as opening, closes as closing}
use Rattle.uslp_counting.specs.Console.{missing_over_open, Given}
use Rattle.uslp_counting.specs.Restarts.{Wrote, Converted, SavingOf, Restart, Leads, MadeByCalls}
use Rattle.uslp_counting.specs.Restarts.SavingOf.{wrote, converted}
use Rattle.uslp_counting.specs.Restarts.Restart.{resumes, refuses}
use Rattle.uslp_counting.specs.Restarts.Leads.{ends, next, restart}
use Rattle.uslp_counting.specs.Restarts.MadeByCalls.{new, opens, closes, hears_count, hears_frame, hears, hears_many, restores}
use Rattle.uslp_counting.proofs.Restarts.{wrote_form, wrote_said, entries_told, good_converted, leads_keep}
use Rattle.uslp_counting.proofs.Console.{console_made}

-- what holds of records that calls made holds after a restoring too, done or refused
made_restoring : {f : Form} {r : ChannelRecord} {s : List ℕ} {q : Kept (Unit {0})} → Made r → Restoring f r s q → Made (record_of q)
made_restoring {f} {s} made (good us hs g) = made_good f s us hs g
made_restoring made (bad none) = made

pub made_called : {r : ChannelRecord} → MadeByCalls r → Made r
made_called new = made_empty
made_called (opens {r = r} k w craft c) = made_opening r (made_called c) k w craft
made_called (closes {r = r} k c) = made_closing r (made_called c) k
made_called (hears_count {r = r} k w n c) = made_counting r (made_called c) k w n
made_called (hears_frame {r = r} x c) = made_frame channel_of r (made_called c) x
made_called (hears {r = r} s managed c) = made_hearing channel_of r (made_called c) s managed
made_called (hears_many {r = r} s managed c) = made_many managed r (made_called c) s
made_called (restores f s h c) = made_restoring (made_called c) h

-- so its console total is the sum over the open channels of what each is missing
pub console_called : {r : ChannelRecord} → MadeByCalls r → console_total r ≡ done (missing_over_open r)
console_called {r} c = console_made r (made_called c)

-- r is saved into b, and what was written is restored, whatever record is found then: done, and what is asked is answered as before
pub record CameBack (f : Form) (r : ChannelRecord) (b : List ℕ) (found : ChannelRecord) : Type 0 where
  pub saves : saving f r b ≡ leaving (done (length (form_of f r))) (form_of f r ++ drop (length (form_of f r)) b)
  pub wrote : Wrote f r (form_of f r)
  pub q : ChannelRecord
  pub restores : Restoring f found (form_of f r) (keeping (done tt) q)
  pub back : Back f r q

-- where the form says its open channels whole
pub made_back : {r : ChannelRecord} → Made r → (f : Form) → RecordSaid f r → (b : List ℕ) → length (form_of f r) ≤ length b
    → (found : ChannelRecord) → CameBack f r b found
made_back {r} made f whole b room found =
    let s = form_of f r in
    let rest = drop (length s) b in
    let e = saving_done f r b whole room in
    record {
      saves = e;
      wrote = record { buffer = b; left = s ++ rest; count = length s; saves = e; octets = take-append_seam s rest };
      q = restored (entries_of f r);
      restores = restores_saved f r made whole found;
      back = comes_back f r made whole found;
    }

pub called_back : {r : ChannelRecord} → MadeByCalls r → (f : Form) → RecordSaid f r → (b : List ℕ) → length (form_of f r) ≤ length b
    → (found : ChannelRecord) → CameBack f r b found
called_back c = made_back (made_called c)

-- form 2 always does
pub called_back_two : {r : ChannelRecord} → MadeByCalls r → (b : List ℕ) → length (form_of Two r) ≤ length b → (found : ChannelRecord) → CameBack Two r b found
called_back_two {r} c = called_back c Two (said_two r)

-- the record after a call of many frames is the one that the call leaves
many_counted : (K : Channel) (managed : ManagedParameters) (fs : List (TransferFrame × List ℕ)) (t : Tally) (r : ChannelRecord)
    → (hearings managed fs t r).1 ≡ (heard_all channel_of frame_hearing K r fs managed).1
unfolding hearings heard_all
many_counted K managed [] t r = refl
many_counted K managed (f ∷ fs) t r = go (frame_hearing r f.1 managed) (λ u q. many_counted K managed fs u q)
  where
    go : (q : Kept FrameArrival) → ((u : Tally) (v : ChannelRecord) → (hearings managed fs u v).1 ≡ (heard_all channel_of frame_hearing K v fs managed).1)
        → (hearings managed fs (added_to t q).0 (added_to t q).1).1 ≡ (heard_all channel_of frame_hearing K (record_of q) fs managed).1
    go (keeping o v) ih = ih (plus t (tally_of o)) v

pub many_called : (K : Channel) (r : ChannelRecord) (s : List ℕ) (managed : ManagedParameters)
    → (many_hearing r s managed).next ≡ (called channel_of frame_hearing K r (many s managed)).1
unfolding many_hearing
many_called K r s managed = many_counted K managed (cut managed s).frames no_frames r

-- a call leaves such a record
called_call : (K : Channel) {r : ChannelRecord} (c : Call) → Given c → MadeByCalls r → MadeByCalls (called channel_of frame_hearing K r c).1
called_call K (hearing s managed) given c = hears s managed c
called_call K {r} (many s managed) given c = subst MadeByCalls (many_called K r s managed) (hears_many s managed c)
called_call K (opening k w) given c = opens k w given c
called_call K (closing k) given c = closes k c

-- so a history of calls from the empty record leads to one
module _ (K : Channel) where
  called_from : (cs : List Call) {r : ChannelRecord} → MadeByCalls r → EachCall Given cs → MadeByCalls (run channel_of frame_hearing K r cs)
  unfolding run
  called_from [] c given = c
  called_from (x ∷ xs) c given = called_from xs (called_call K x given.0 c) given.1

  pub made_run : (cs : List Call) → EachCall Given cs → Made (run channel_of frame_hearing K empty_record cs)
  made_run cs given = made_called (called_from cs new given)

  pub console_run : (cs : List Call) → EachCall Given cs
      → console_total (run channel_of frame_hearing K empty_record cs) ≡ done (missing_over_open (run channel_of frame_hearing K empty_record cs))
  console_run cs given = console_called (called_from cs new given)

-- and so does a restoring that is done, whatever record it found
called_restored : {f : Form} {found q : ChannelRecord} {s : List ℕ} → Restoring f found s (keeping (done tt) q) → MadeByCalls q
called_restored {f} {s} h = let d = restores_done f h in subst MadeByCalls d.is (restores f s (good d.unheard d.heard d.is_good) new)

called_restart : {r q : ChannelRecord} → Restart r q → MadeByCalls r → MadeByCalls q
called_restart (resumes f s h) c = called_restored h
called_restart (refuses f s h) c = restores f s h c

-- a restart keeps what holds of records that calls made
pub made_restart : {r q : ChannelRecord} → Restart r q → Made r → Made q
made_restart (resumes f s h) made = made_called (called_restored h)
made_restart (refuses f s h) made = subst Made (restores_refused f h) made

-- octets that saving m wrote are restored, whatever record is found
module _ {f : Form} {m : ChannelRecord} {s : List ℕ} (made : Made m) (w : Wrote f m s) where
  pub wrote_counts : SavingOf m f s
  wrote_counts = wrote (λ i. sound_fits f (state_at m i) (made.sound i)) w

  pub restores_wrote : (found : ChannelRecord) → Restoring f found s (keeping (done tt) (restored (entries_of f m)))
  restores_wrote found =
      subst (λ (o : List ℕ). Restoring f found o (keeping (done tt) (restored (entries_of f m)))) (sym (wrote_form w))
      (restores_saved f m made (wrote_said w) found)

-- and so are octets that count as them: with the entries that were saved
pub record GoodSaving (f : Form) (m : ChannelRecord) (s : List ℕ) : Type 0 where
  pub unheard : List SlotState
  pub heard : List SlotState
  pub is_good : GoodForm f s unheard heard

pub good_saving : {f : Form} {m : ChannelRecord} {s : List ℕ} → Made m → SavingOf m f s → GoodSaving f m s
good_saving {f} {m} made (wrote fit w) =
    let d = restores_done f (restores_wrote made w empty_record) in record { unheard = d.unheard; heard = d.heard; is_good = d.is_good }
good_saving made (converted h c) =
    record { unheard = (entries_told c).unheard; heard = (entries_told c).heard; is_good = good_converted c }

module _ {f : Form} {m : ChannelRecord} {s : List ℕ} (made : Made m) (h : SavingOf m f s) where
  abbrev pub resumed : ChannelRecord
  resumed = restored ((good_saving made h).unheard ++ (good_saving made h).heard)

  pub restores_saving : (found : ChannelRecord) → Restoring f found s (keeping (done tt) resumed)
  restores_saving found = good (good_saving made h).unheard (good_saving made h).heard (good_saving made h).is_good

  pub restarts_saving : Restart m resumed
  restarts_saving = resumes f h (restores_saving empty_record)

-- saved by a form that says its channels whole, into as many octets as any has, and restored where no channel is open
pub restarts_by : (f : Form) (m : ChannelRecord) → Made m → RecordSaid f m → Restart m (restored (entries_of f m))
restarts_by f m made whole =
    let w = (made_back made f whole (replicate 362 0) (form_within f m made.eight) empty_record).wrote in
    resumes f (wrote_counts made w) (restores_wrote made w empty_record)

-- saved by one form, converted to the other, and restored from that
module _ (f g : Form) (m : ChannelRecord) (made : Made m) (whole : RecordSaid f m) (other : RecordSaid g m) where
  across_said : Each (EntrySaid g) (entries_of f m)
  across_said = all_entries f m (EntrySaid g) (said_each g m.slots other)

  abbrev across : List ℕ
  across = form g (unheard_of f m) (heard_of f m)

  converted_across : Converted f g (form_of f m) across
  converted_across =
      let k = good_saved f m made whole in
      let e = ap length (saved_across f g (unheard_of f m) (heard_of f m) k across_said) in
      let room = form_within g (restored (entries_of f m)) (eight_restored (entries_of f m) k.few) in
      record {
        buffer = replicate 362 0;
        left = across ++ drop (length across) (replicate 362 0);
        count = length across;
        converts = converting_done f g (form_of f m) (replicate 362 0) (record {
          unheard = unheard_of f m;
          heard = heard_of f m;
          from = k;
          said = said_restored f g (unheard_of f m) (heard_of f m) k across_said;
          room = omega (arith, e, room);
        });
        octets = take-append_seam across (drop (length across) (replicate 362 0));
      }

  pub restarts_across : Restart m (restored (entries_of f m))
  restarts_across =
      let w = (made_back made f whole (replicate 362 0) (form_within f m made.eight) empty_record).wrote in
      resumes {found = empty_record} g (converted (wrote_counts made w) converted_across)
      (good (unheard_of f m) (heard_of f m) (good_across f g (unheard_of f m) (heard_of f m) (good_saved f m made whole) across_said))

module _ {K : Channel} {width : ℕ} {managed : ManagedParameters} (S : Sender channel_of K width managed) where
  -- a restart at the end of a run
  leads_restart : {r m q : ChannelRecord} {es : List (Event channel_of K width)} {hs : List Handing}
      → Leads Restart frame_hearing S r es hs m → Restart m q → Leads Restart frame_hearing S r es hs q
  leads_restart ends g = restart g ends
  leads_restart (next ms c stand room l) g = next ms c stand room (leads_restart l g)
  leads_restart (restart h l) g = restart h (leads_restart l g)

  -- so what a run leads to from such a record is such a record
  pub leads_called : {r q : ChannelRecord} {es : List (Event channel_of K width)} {hs : List Handing} → MadeByCalls r → EachCall Given (map (call_of S) es)
      → Leads Restart frame_hearing S r es hs q → MadeByCalls q
  leads_called c given l = leads_keep frame_hearing S MadeByCalls Given (λ e r. called_call K (call_of S e)) (λ r q. called_restart) l c given

  -- the octets s are restored where the record `found` is: done, and the run from r goes on
  pub record GoesOn (r : ChannelRecord) (es : List (Event channel_of K width)) (hs : List Handing) (f : Form) (found : ChannelRecord) (s : List ℕ) : Type 0 where
    pub q : ChannelRecord
    pub restores : Restoring f found s (keeping (done tt) q)
    pub leads : Leads Restart frame_hearing S r es hs q

  -- A run led to a record m that calls made, and s counts as what saving m wrote: whatever was called since, restoring s is done and the run
  -- goes on.
  pub goes_on : {r m : ChannelRecord} {es : List (Event channel_of K width)} {hs : List Handing} → Leads Restart frame_hearing S r es hs m → MadeByCalls m
      → {f : Form} {s : List ℕ} → SavingOf m f s → (found : ChannelRecord) → GoesOn r es hs f found s
  goes_on l c h found =
      let made = made_called c in
      record { q = resumed made h; restores = restores_saving made h found; leads = leads_restart l (restarts_saving made h) }
