-- A restart leaves every channel standing as it stood; what a run keeps.
use mathlib.Core.Path.{◌≡◌, refl, sym, ◌∙◌, ap₂, subst}
use mathlib.Core.Bool.{Bool, true}
use mathlib.Core.List.{List, ◌++◌, map}
use Prim.Native.Nat.{ℕ, ◌≤◌}
use native.Mathlib.Omega.{arith}
use lib.ListN.{length, take, drop}
use lib.Seq.{take-append_seam}
use Rattle.uslp_kinds.specs.declared.ManagedParameters.{ManagedParameters}
use Rattle.uslp_record.specs.Slots.{holds, find, slot_of}
use Rattle.uslp_record.specs.Record.{opening, closing}
use Rattle.uslp_record.specs.declared.Channel.{Channel}
use Rattle.uslp_record.specs.declared.SlotState.{SlotState}
use Rattle.uslp_record.specs.declared.SlotState.TheVariants.{Closed}
use Rattle.uslp_record.proofs.Seek.{finds}
use Rattle.uslp_record.proofs.Slots.{seek_passes}
use Rattle.uslp_record.specs.declared.ChannelRecord.{ChannelRecord}
use Rattle.uslp_form.specs.Entries.{Each, Once, is_opened, is_heard}
use Rattle.uslp_form.specs.declared.Form.{Form}
use Rattle.uslp_form.specs.Form.{EntrySaid, RecordSaid, sorted, form_of, Fitting, GoodForm, restored}
use Rattle.uslp_form.proofs.Each.{each_from}
use Rattle.uslp_form.proofs.Sorted.{sorted_each}
use Rattle.uslp_form.proofs.Flags.{said_each}
use Rattle.uslp_form.proofs.Restored.{each_at, eight_restored}
use Rattle.uslp_form.proofs.Trips.{unheard_of, heard_of, entries_of, found_again}
use Rattle.uslp_form.proofs.Claims.{Saves, saves}
use Rattle.uslp_form.proofs.Rows.{Entry, form_one, good_unheard, good_heard, good_one, restores_done, restores_refused}
use Rattle.uslp_form.proofs.Converted.{Converts, told, good_wrote}
use Rattle.uslp_hearing.specs.Hearing.{Naming}
use Rattle.uslp_counting.specs.History.{Hearer, Call, EachCall, record_of, Handing, called, Sender, frame_at, Event, call_of}
use Rattle.uslp_counting.specs.History.Call.{hears, opens, closes}
use Rattle.uslp_counting.specs.History.Event.{arrives, damaged, elsewhere, misfits, opened, closed, again}
use Rattle.uslp_counting.specs.Restarts.{Wrote, Converted, SavingOf, Restart, Leads}
use Rattle.uslp_counting.specs.Restarts.Leads.{ends as leads_end, next as leads_next, restart as leads_restart_mod}
use Rattle.uslp_counting.specs.Restarts.SavingOf.{wrote, converted}
use Rattle.uslp_counting.specs.Restarts.Restart.{resumes, refuses}
use Rattle.uslp_counting.proofs.Singly.{Steps, steps_of}
use Rattle.uslp_counting.proofs.Singly.Steps.{ends, next, restart}
use Rattle.uslp_counting.proofs.Stands.{Stands}

-- what a saving wrote is the form, whatever buffer it had, and the form lacked no flag
module _ {f : Form} {r : ChannelRecord} {s : List ℕ} (w : Wrote f r s) where
  wrote_saves : Saves f r w.buffer w.count w.left
  wrote_saves = saves f r w.buffer (sym w.saves)

  pub wrote_said : RecordSaid f r
  wrote_said = wrote_saves.said

  pub wrote_form : s ≡ form_of f r
  wrote_form =
      sym w.octets ∙ ap₂ (λ (k : ℕ) (l : List ℕ). take k l) wrote_saves.count wrote_saves.left
      ∙ take-append_seam (form_of f r) (drop (length (form_of f r)) w.buffer)

module _ (f : Form) (r : ChannelRecord) (fit : Fitting f r) (whole : RecordSaid f r) where
  -- what is saved of either kind is of that kind, and its row gives it back
  saved_entries : (test : SlotState → Bool) → Each (Entry f test) (sorted f test r.slots)
  saved_entries test =
      sorted_each f test (Entry f test) r.slots
      (each_from (λ (x : SlotState). test x ≡ true → Entry f test x) r.slots
      (λ j h e. (e, (fit j, each_at (EntrySaid f) r.slots (said_each f r.slots whole) refl j))))

  -- the entries of octets that a saving wrote are those that it saved
  module _ (us hs : List SlotState) (g : GoodForm f (form_of f r) us hs) where
    entries_back : us ++ hs ≡ entries_of f r
    entries_back =
        let e =
        form_one f us (unheard_of f r) hs (heard_of f r) (good_unheard f g) (saved_entries is_opened) (good_heard f g) (saved_entries is_heard)
        (sym g.octets) in
        ap₂ (λ (a b : List SlotState). a ++ b) e.0 e.1

    stands_back : (K : Channel) (t : SlotState) → Stands K r t → Stands K (restored (us ++ hs)) t
    stands_back K t at =
        let few : length (entries_of f r) ≤ 8 = subst (λ (l : List SlotState). length l ≤ 8) entries_back g.few in
        let a =
        found_again f r at.eight (subst Once entries_back g.once) few K at.there
        (seek_passes (holds K) (find K) (finds K) r.slots (slot_of Closed) (omega (arith, at.eight, at.there))) in
        subst (λ (l : List SlotState). Stands K (restored l) t) (sym entries_back)
        (record { eight = eight_restored (entries_of f r) few; there = omega (arith, a.there, few); state = a.state ∙ at.state })

-- what a converting wrote is a good form of the entries that the octets it came from have
module _ {f g : Form} {s t : List ℕ} (c : Converted f g s t) where
  abbrev pub entries_told : Converts f g s c.buffer c.count c.left
  entries_told = told c.converts

  pub good_converted : GoodForm g t entries_told.unheard entries_told.heard
  good_converted = subst (λ (o : List ℕ). GoodForm g o entries_told.unheard entries_told.heard) c.octets (good_wrote c.converts)

-- So octets that count as what saving r wrote, where they are a good form of some entries, go back to octets that it wrote, which are a good
-- form of the same.
pub record Origin (r : ChannelRecord) (us hs : List SlotState) : Type 0 where
  pub form : Form
  pub octets : List ℕ
  pub fits : Fitting form r
  pub wrote : Wrote form r octets
  pub good : GoodForm form octets us hs

pub origin : {r : ChannelRecord} {f : Form} {s : List ℕ} → SavingOf r f s → (us hs : List SlotState) → GoodForm f s us hs → Origin r us hs
origin (wrote fit w) us hs k = record { form = _; octets = _; fits = fit; wrote = w; good = k }
origin {r} (converted {f = f} {g = g} h c) us hs k =
    let d = entries_told c in
    let e = good_one g (good_converted c) k in
    subst (λ (l : List SlotState). Origin r us l) e.1
    (subst (λ (l : List SlotState). Origin r l d.heard) e.0 (origin h d.unheard d.heard d.from))

-- and these are the entries that were saved
module _ {r : ChannelRecord} {us hs : List SlotState} (o : Origin r us hs) where
  origin_good : GoodForm o.form (form_of o.form r) us hs
  origin_good = subst (λ (s : List ℕ). GoodForm o.form s us hs) (wrote_form o.wrote) o.good

  pub origin_entries : us ++ hs ≡ entries_of o.form r
  origin_entries = entries_back o.form r o.fits (wrote_said o.wrote) us hs origin_good

  origin_stands : (K : Channel) (t : SlotState) → Stands K r t → Stands K (restored (us ++ hs)) t
  origin_stands = stands_back o.form r o.fits (wrote_said o.wrote) us hs origin_good

pub restart_keeps : {r q : ChannelRecord} → Restart r q → (K : Channel) (t : SlotState) → Stands K r t → Stands K q t
restart_keeps (resumes f s h) K t at =
    let d = restores_done f h in
    subst (λ (x : ChannelRecord). Stands K x t) d.is (origin_stands (origin s d.unheard d.heard d.is_good) K t at)
restart_keeps (refuses f s h) K t at = subst (λ (x : ChannelRecord). Stands K x t) (restores_refused f h) at

-- what hearing, opening and closing keep, the call of each event keeps
pub event_keeps : {name : Naming} (H : Hearer) {K : Channel} {width : ℕ} {managed : ManagedParameters} (S : Sender name K width managed) (P : ChannelRecord → Type 0)
    (Allowed : Call → Type 0)
    → ((r : ChannelRecord) (s : List ℕ) (f : ManagedParameters) → Allowed (hears s f) → P r → P (record_of (H r s f)))
    → ((r : ChannelRecord) (k : Channel) (w : ℕ) → Allowed (opens k w) → P r → P (record_of (opening r k w)))
    → ((r : ChannelRecord) (k : Channel) → Allowed (closes k) → P r → P (record_of (closing r k)))
    → (e : Event name K width) (r : ChannelRecord) → Allowed (call_of S e) → P r → P (called name H K r (call_of S e)).1
event_keeps H {managed} S P Allowed hear start end (arrives p behind) r ok = hear r (frame_at S p ++ behind) managed ok
event_keeps H S P Allowed hear start end (damaged s f k vs e) r ok = hear r s f ok
event_keeps H S P Allowed hear start end (elsewhere s f x e o) r ok = hear r s f ok
event_keeps H S P Allowed hear start end (misfits s f x e o) r ok = hear r s f ok
event_keeps H S P Allowed hear start end (opened k w o) r ok = start r k w ok
event_keeps H S P Allowed hear start end (closed k o) r ok = end r k ok
event_keeps H {K} S P Allowed hear start end (again w) r ok = start r K w ok

-- what the call of each event and each restart keep, a run keeps
module _ {name : Naming} (H : Hearer) {K : Channel} {width : ℕ} {managed : ManagedParameters} (S : Sender name K width managed) (P : ChannelRecord → Type 0)
    (Allowed : Call → Type 0) (call : (e : Event name K width) (r : ChannelRecord) → Allowed (call_of S e) → P r → P (called name H K r (call_of S e)).1)
    (back : (r q : ChannelRecord) → Restart r q → P r → P q) where
  steps_keep : {r q : ChannelRecord} {es : List (Event name K width)} {hs : List Handing} → Steps H S r es hs q
      → P r → EachCall Allowed (map (call_of S) es) → P q
  steps_keep ends p ok = p
  steps_keep (next e room l) p ok = steps_keep l (call e _ ok.0 p) ok.1
  steps_keep (restart g l) p ok = steps_keep l (back _ _ g p) ok

  pub leads_keep : {r q : ChannelRecord} {es : List (Event name K width)} {hs : List Handing} → Leads Restart H S r es hs q
      → P r → EachCall Allowed (map (call_of S) es) → P q
  leads_keep l = steps_keep (steps_of H S l)

-- a run over restarts of one kind is one over those of any kind that has them all
pub leads_mono : (R Q : ChannelRecord → ChannelRecord → Type 0) → ((r q : ChannelRecord) → R r q → Q r q)
    → {name : Naming} (H : Hearer) {K : Channel} {width : ℕ}
    {managed : ManagedParameters} (S : Sender name K width managed) {r q : ChannelRecord} {es : List (Event name K width)} {hs : List Handing}
    → Leads R H S r es hs q → Leads Q H S r es hs q
leads_mono R Q sub H S leads_end = leads_end
leads_mono R Q sub H S (leads_next ms c stand room l) = leads_next ms c stand room (leads_mono R Q sub H S l)
leads_mono R Q sub H S (leads_restart_mod g l) = leads_restart_mod (sub _ _ g) (leads_mono R Q sub H S l)
