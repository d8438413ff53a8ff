-- Histories with savings and restorings (docs/RULES.md, section 7): the run of a channel over restarts, demand 3 over it, and the records
-- that calls made.
use Rattle.std.specs.Prelude.{◌≡◌, List, [], ◌++◌, map, ℕ, ◌^◌, ◌<◌, take}
use Rattle.uslp_kinds.specs.Outcome.{done, refused, leaving}
use Rattle.uslp_kinds.specs.declared.ManagedParameters.{ManagedParameters}
use Rattle.uslp_record.specs.Slots.{empty_record}
use Rattle.uslp_reader.specs.declared.TransferFrame.{TransferFrame}
use Rattle.uslp_record.specs.Record.{Kept, keeping, opening, closing}
use Rattle.uslp_record.specs.Judging.{count_hearing}
use Rattle.uslp_record.specs.declared.Channel.{Channel}
use Rattle.uslp_record.specs.declared.ChannelRecord.{ChannelRecord}
use Rattle.uslp_form.specs.declared.Form.{Form}
use Rattle.uslp_form.specs.Form.{Fitting}
use Rattle.uslp_form.specs.Saved.{saving, Restoring, Converting}
use Rattle.uslp_hearing.specs.Hearing.{Naming, hearing_of_frame, frame_hearing}
use Rattle.uslp_end_to_end.specs.Many.{many_hearing}
use Rattle.uslp_counting.specs.History.{Hearer, Call, record_of, Handing, called, Roomy, stands_for, Sender, Event, call_of, places}
use Rattle.uslp_counting.specs.Demand.{Begun, Counts}

-- octets that saving r wrote, into whatever buffer
pub record Wrote (f : Form) (r : ChannelRecord) (s : List ℕ) : Type 0 where
  pub buffer : List ℕ
  pub left : List ℕ
  pub count : ℕ
  pub saves : saving f r buffer ≡ leaving (done count) left
  pub octets : take count left ≡ s

-- octets that converting s wrote, into whatever buffer
pub record Converted (f g : Form) (s t : List ℕ) : Type 0 where
  pub buffer : List ℕ
  pub left : List ℕ
  pub count : ℕ
  pub converts : Converting f g s buffer (leaving (done count) left)
  pub octets : take count left ≡ t

-- octets of a form that count as what saving r wrote: those octets, and what conversions make of them, one after the other
pub data SavingOf (r : ChannelRecord) : Form → List ℕ → Type 0 where
  wrote : {f : Form} {s : List ℕ} → Fitting f r → Wrote f r s → SavingOf r f s
  converted : {f g : Form} {s t : List ℕ} → SavingOf r f s → Converted f g s t → SavingOf r g t

-- What a restoring does within a run. Octets that count as what saving r wrote are restored, whatever record was found then: the run goes on
-- from r, and what happened between is no part of it. Or the restoring is refused, and nothing is altered.
pub data Restart : ChannelRecord → ChannelRecord → Type 0 where
  resumes : {r found q : ChannelRecord} {s : List ℕ} (f : Form) → SavingOf r f s → Restoring f found s (keeping (done tt) q) → Restart r q
  refuses : {r q : ChannelRecord} {k : ℕ} {vs : List ℕ} (f : Form) (s : List ℕ) → Restoring f r s (keeping (refused k vs) q) → Restart r q

-- From the record r, calls that stand for the events es lead to the record q and hand hs on, over restarts, which are steps of R, and no hearing of the
-- channel's frames gets TOTAL_FULL. Any other restoring that is done is no step here: it ends the run, as a closing of the channel does.
module _ (R : ChannelRecord → ChannelRecord → Type 0) {name : Naming} (H : Hearer) {K : Channel} {width : ℕ} {managed : ManagedParameters}
    (S : Sender name K width managed) where
  pub data Leads : ChannelRecord → List (Event name K width) → List Handing → ChannelRecord → Type 0 where
    ends : {r : ChannelRecord} → Leads r [] [] r
    next : {r q : ChannelRecord} {es : List (Event name K width)} {hs : List Handing} (ms : List (Event name K width)) (c : Call)
        → stands_for c ≡ map (call_of S) ms → Roomy name H K r c → Leads (called name H K r c).1 es hs q → Leads r (ms ++ es) ((called name H K r c).0 ++ hs) q
    restart : {r m q : ChannelRecord} {es : List (Event name K width)} {hs : List Handing} → R r m → Leads m es hs q → Leads r es hs q

-- Demand 3 over restarts: `Demand3`, with such a run for its history. Here a restart is `Restart`.
abbrev pub Demand3Over : (ChannelRecord → ChannelRecord → Type 0) → Naming → Hearer → Type 0
Demand3Over R name H =
    (K : Channel) (width : ℕ) (managed : ManagedParameters) (S : Sender name K width managed) (r : ChannelRecord) → Begun K width r
    → (es : List (Event name K width)) (hs : List Handing) (q : ChannelRecord) → Leads R H S r es hs q → Counts S (places es) hs q

-- a record that public calls made, done or refused, from the empty record: each call that hands a record back is here
pub data MadeByCalls : ChannelRecord → Type 0 where
  new : MadeByCalls empty_record
  opens : {r : ChannelRecord} (k : Channel) (width : ℕ) → k.spacecraft_id < 2 ^ 16 → MadeByCalls r → MadeByCalls (record_of (opening r k width))
  closes : {r : ChannelRecord} (k : Channel) → MadeByCalls r → MadeByCalls (record_of (closing r k))
  hears_count : {r : ChannelRecord} (k : Channel) (width count : ℕ) → MadeByCalls r → MadeByCalls (record_of (count_hearing r k width count))
  hears_frame : {r : ChannelRecord} (x : TransferFrame) → MadeByCalls r → MadeByCalls (record_of (hearing_of_frame r x))
  hears : {r : ChannelRecord} (s : List ℕ) (managed : ManagedParameters) → MadeByCalls r → MadeByCalls (record_of (frame_hearing r s managed))
  hears_many : {r : ChannelRecord} (s : List ℕ) (managed : ManagedParameters) → MadeByCalls r → MadeByCalls (many_hearing r s managed).next
  restores : {r : ChannelRecord} {q : Kept (Unit {0})} (f : Form) (s : List ℕ) → Restoring f r s q → MadeByCalls r → MadeByCalls (record_of q)
