-- Octets that a console not yet updated saved count as a saving, for a channel of whose spacecraft and number it heard no expedited frame.
use mathlib.Core.Path.{◌≡◌, refl, sym, ◌∙◌, ap, subst}
use mathlib.Core.Bool.{Bool, true, false}
use mathlib.Core.List.{List, [], ◌∷◌, ◌++◌, map, append-nil, append_assoc}
use Prim.Native.Nat.{ℕ, ◌^◌, ◌/◌, ◌≤◌}
use lib.Dec.{eqb}
use Rattle.uslp_kinds.specs.Outcome.{done}
use Rattle.uslp_kinds.specs.Kinds.{bypass_number}
use Rattle.uslp_kinds.specs.declared.ManagedParameters.{ManagedParameters}
use Rattle.uslp_kinds.specs.declared.BypassSequenceControlFlag.{BypassSequenceControlFlag}
use Rattle.uslp_kinds.specs.declared.BypassSequenceControlFlag.TheVariants.{SequenceControlledQoS}
use Rattle.uslp_kinds.proofs.Outcomes.{not_done, done_one}
use Rattle.uslp_reader.specs.declared.TransferFrame.{TransferFrame}
use Rattle.uslp_record.specs.Slots.{same_channel, find, vacant, slot_of, empty_record}
use Rattle.uslp_record.specs.Record.{Kept, keeping}
use Rattle.uslp_record.specs.Made.{Made}
use Rattle.uslp_record.specs.declared.Channel.{Channel}
use Rattle.uslp_record.specs.declared.SlotState.{SlotState}
use Rattle.uslp_record.specs.declared.SlotState.TheVariants.{Closed, Opened}
use Rattle.uslp_record.specs.declared.ChannelRecord.{ChannelRecord}
use Rattle.uslp_record.proofs.Slots.{true_false, same_one}
use Rattle.uslp_record.proofs.Ways.{opening_ways, closing_ways}
use Rattle.uslp_record.proofs.Keeps.{made_opening, made_closing}
use Rattle.uslp_form.specs.Form.{says_all, EntrySaid, RecordSaid, restored}
use Rattle.uslp_form.specs.declared.Form.TheVariants.{One}
use Rattle.uslp_form.specs.Saved.{Restoring}
use Rattle.uslp_form.proofs.Flags.{said_each, each_said, said_set}
use Rattle.uslp_form.proofs.Restored.{each_restored}
use Rattle.uslp_form.proofs.Trips.{entries_of, all_entries}
use Rattle.uslp_form.proofs.Rows.{restores_done, restores_refused}
use Rattle.uslp_form.specs.Entries.{Each}
use Rattle.uslp_hearing.specs.Hearing.{Naming, channel_of, hearing_by, frame_hearing}
use Rattle.uslp_hearing.specs.declared.FrameArrival.{FrameArrival}
use Rattle.uslp_hearing.proofs.Ways.{frame_ways, made_hearing}
use Rattle.uslp_reader.specs.EndToEnd.{cut}
use Rattle.uslp_counting.specs.Places.{leaders, Window, lost}
use Rattle.uslp_counting.specs.History.{Call, EachCall, record_of, Handing, is_of, heard_all, called, run, Sender, Event, call_of, handings, places_of, places}
use Rattle.uslp_counting.specs.History.Call.{hears, hears_many, opens, closes}
use Rattle.uslp_counting.specs.History.Event.{arrives, damaged, elsewhere, misfits, opened, closed, again}
use Rattle.uslp_counting.specs.Console.{Given}
use Rattle.uslp_counting.specs.Restarts.{Wrote, Restart, Leads}
use Rattle.uslp_counting.specs.Restarts.Restart.{resumes, refuses}
use Rattle.uslp_counting.specs.Updated.{unflagged, Sequenced, NoExpedited, EachEvent, Demand3Updated, Shares, Demand3Shared}
use Rattle.uslp_counting.specs.Updated.Shares.{ends, here, there}
use Rattle.uslp_counting.specs.Restarts.Leads.{ends as leads_end, restart}
use Rattle.uslp_counting.proofs.Stands.{Stands, stands_begun, begun_some, begun_narrow}
use Rattle.uslp_counting.proofs.Agrees.{Agrees, all_agree}
use Rattle.uslp_counting.proofs.Restarts.{origin, origin_entries, event_keeps, leads_keep}
use Rattle.uslp_counting.proofs.Singly.{steps_of}
use Rattle.uslp_counting.proofs.Arrival.{reads}
use Rattle.uslp_counting.proofs.Step.{Counting, quiet, handings_after}
use Rattle.uslp_counting.proofs.Theorem.{Counted, counts, counted_all}
use Rattle.uslp_counting.proofs.MadeByCalls.{made_restart, restores_wrote}

module _ (K : Channel) (plain : K.sequence_control_flag ≡ SequenceControlledQoS) where
  -- of a frame that is no expedited one of its number, both namings say alike whether it is of K
  module _ (x : TransferFrame) where
    -- where the frame is sequence-controlled, they name it alike
    named_alike : x.primary_header.sequence_control_flag ≡ SequenceControlledQoS → unflagged x.primary_header ≡ channel_of x.primary_header
    named_alike e =
        λ i. record {
          spacecraft_id = x.primary_header.spacecraft_id;
          vc_id = x.primary_header.vc_id;
          sequence_control_flag = sym e i;
        }

    same_named : Sequenced K x → is_of unflagged K x ≡ is_of channel_of K x
    same_named seq = go (is_of unflagged K x) refl (is_of channel_of K x) refl
      where
        go : (a : Bool) → is_of unflagged K x ≡ a → (b : Bool) → is_of channel_of K x ≡ b → a ≡ b
        go true e b d = sym e ∙ ap (λ (k : Channel). same_channel k K) (named_alike (seq e)) ∙ d
        go false e false d = refl
        go false e true d =
            let flag = ap (λ (k : Channel). k.sequence_control_flag) (same_one (channel_of x.primary_header) K d) ∙ plain in
            absurd (true_false (ap (λ (k : Channel). same_channel k K) (named_alike flag) ∙ d) e)

  module _ {width : ℕ} {managed : ManagedParameters} (S : Sender channel_of K width managed) where
    agrees_heard : (e : Event channel_of K width) → NoExpedited K width e → Agrees channel_of unflagged K (call_of S e)
    agrees_heard (arrives p behind) none =
        let flag = ap (λ (k : Channel). k.sequence_control_flag) (S.of_channel p) ∙ plain in
        λ x d. same_named x
        (λ same. ap (λ (y : TransferFrame). y.primary_header.sequence_control_flag) (done_one (sym d ∙ reads S p behind)) ∙ flag)
    agrees_heard (damaged s f k vs e) none = λ x d. absurd (not_done (sym e ∙ d))
    agrees_heard (elsewhere s f y e o) none = λ x d. same_named x (subst (Sequenced K) (done_one (sym e ∙ d)) none)
    agrees_heard (misfits s f y e o) none = λ x d. same_named x (subst (Sequenced K) (done_one (sym e ∙ d)) none)
    agrees_heard (opened k w o) none = tt
    agrees_heard (closed k o) none = tt
    agrees_heard (again w) none = tt

    each_agrees : (es : List (Event channel_of K width)) → EachEvent (NoExpedited K width) es → EachCall (Agrees channel_of unflagged K) (map (call_of S) es)
    each_agrees [] none = tt
    each_agrees (e ∷ es) none = (agrees_heard e none.0, each_agrees es none.1)

-- what arrives in two parts of a run
places_append : {name : Naming} {K : Channel} {width : ℕ} (es ds : List (Event name K width)) → places (es ++ ds) ≡ places es ++ places ds
unfolding places
places_append [] ds = refl
places_append (e ∷ es) ds =
    ap (λ (l : List ℕ). places_of e ++ l) (places_append es ds) ∙ sym (append_assoc (places_of e) (places es) (places ds))

window_split : {K : Channel} {width : ℕ} (seen : List ℕ) (es ds : List (Event channel_of K width)) (ps : List ℕ)
    → Window (256 ^ width / 2) seen (places (es ++ ds) ++ ps) → Window (256 ^ width / 2) seen (places es ++ (places ds ++ ps))
window_split {width = width} seen es ds ps =
    subst (Window (256 ^ width / 2) seen) (ap (λ (l : List ℕ). l ++ ps) (places_append es ds) ∙ append_assoc (places es) (places ds) ps)

module _ {K : Channel} {width : ℕ} {managed : ManagedParameters} (S : Sender channel_of K width managed) where
  -- a leg and what follows it are counted as one
  module _ {es ds : List (Event channel_of K width)} {hs gs : List Handing} {m q : ChannelRecord} {seen before ps : List ℕ} where
    two_legs : (a : Counted S es hs m seen before (places ds ++ ps)) → Counted S ds gs q a.after a.leading ps
        → Counted S (es ++ ds) (hs ++ gs) q seen before ps
    two_legs a b =
        let split : places es ++ (places ds ++ ps) ≡ places (es ++ ds) ++ ps =
        sym (append_assoc (places es) (places ds) ps) ∙ ap (λ (l : List ℕ). l ++ ps) (sym (places_append es ds)) in
        record {
          after = b.after;
          leading = b.leading;
          state = b.state;
          stands = b.stands;
          counting = b.counting;
          near = b.near;
          leads = b.leads ∙ a.leads ∙ ap (λ (l : List ℕ). before ++ leaders seen l) split;
          hands = append_assoc hs gs (handings_after S b.after (leaders b.after ps))
              ∙ ap (λ (l : List Handing). hs ++ l) b.hands ∙ a.hands
              ∙ ap (λ (l : List ℕ). handings_after S seen (leaders seen l)) split;
        }

  legs : K.sequence_control_flag ≡ SequenceControlledQoS → 1 ≤ width → width ≤ 7
      → {es : List (Event channel_of K width)} {hs : List Handing} {r q : ChannelRecord} → Shares NoExpedited frame_hearing S r es hs q
      → (seen before ps : List ℕ) (t : SlotState) → Stands K r t → Counting S seen before t → Window (256 ^ width / 2) seen (places es ++ ps)
      → Counted S es hs q seen before ps
  legs plain lo hi ends seen before ps t at c near = counts S channel_of lo hi (steps_of frame_hearing S leads_end) tt seen before ps t at c near
  legs plain lo hi (here {es = es} {ds = ds} l rest) seen before ps t at c near =
      let a = counts S channel_of lo hi (steps_of frame_hearing S l) (all_agree channel_of K (map (call_of S) es)) seen before (places ds ++ ps) t at c
      (window_split seen es ds ps near) in
      two_legs a (legs plain lo hi rest a.after a.leading ps a.state a.stands a.counting a.near)
  legs plain lo hi (there {es = es} {ds = ds} l none rest) seen before ps t at c near =
      let a = counts S unflagged lo hi (steps_of (hearing_by unflagged) S l) (each_agrees K plain S es none) seen before (places ds ++ ps) t at c
      (window_split seen es ds ps near) in
      two_legs a (legs plain lo hi rest a.after a.leading ps a.state a.stands a.counting a.near)

pub shared : Demand3Shared NoExpedited frame_hearing
shared K plain width managed S r begun es hs q l near =
    counted_all S
    (legs S plain (begun_some begun) (begun_narrow begun) l [] [] [] (Opened K width) (stands_begun begun) quiet
    (subst (Window (256 ^ width / 2) []) (sym (append-nil (places es))) near))

-- a leg at such a console, a restart, and a leg here
pub updated : Demand3Updated NoExpedited frame_hearing
updated K plain width managed S r begun es hs m led none q back ds gs z on near =
    let run : Shares NoExpedited frame_hearing S r (es ++ (ds ++ [])) (hs ++ (gs ++ [])) z = there led none (here (restart back on) ends) in
    let same : places (es ++ (ds ++ [])) ≡ places es ++ places ds =
    places_append es (ds ++ []) ∙ ap (λ (l : List (Event channel_of K width)). places es ++ places l) (append-nil ds) in
    let d =
    shared K plain width managed S r begun (es ++ (ds ++ [])) (hs ++ (gs ++ [])) z run
    (subst (Window (256 ^ width / 2) []) (sym same) near) in (
      ap (λ (l : List Handing). hs ++ l) (sym (append-nil gs)) ∙ d.0 ∙ ap (λ (ps : List ℕ). handings S (leaders [] ps)) same,
      d.1 ∙ ap (λ (ps : List ℕ). lost (leaders [] ps)) same,
    )

-- a call that such a console can make: its channels have no flag
abbrev pub WithoutFlag : Call → Type 0
WithoutFlag (hears s managed) = Unit {0}
WithoutFlag (hears_many s managed) = Unit {0}
WithoutFlag (opens k width) = k.sequence_control_flag ≡ SequenceControlledQoS
WithoutFlag (closes k) = k.sequence_control_flag ≡ SequenceControlledQoS

-- it keeps to sequence-controlled channels, which form 1 says whole
said_hearing : (r : ChannelRecord) (s : List ℕ) (managed : ManagedParameters) → RecordSaid One r → RecordSaid One (record_of (hearing_by unflagged r s managed))
said_hearing r s managed whole =
    frame_ways unflagged (λ (q : Kept FrameArrival). RecordSaid One (record_of q)) r s managed (λ j vs. whole) (λ x e d. said_set One r.slots _ _ whole refl)

module _ (K : Channel) where
  said_frames : (fs : List (TransferFrame × List ℕ)) (r : ChannelRecord) (managed : ManagedParameters) → RecordSaid One r
      → RecordSaid One (heard_all channel_of (hearing_by unflagged) K r fs managed).1
  unfolding heard_all
  said_frames [] r managed whole = whole
  said_frames (f ∷ fs) r managed whole = said_frames fs (record_of (hearing_by unflagged r f.1 managed)) managed (said_hearing r f.1 managed whole)

  said_call : (c : Call) (r : ChannelRecord) → WithoutFlag c → RecordSaid One r → RecordSaid One (called channel_of (hearing_by unflagged) K r c).1
  said_call (hears s managed) r ok whole = said_hearing r s managed whole
  said_call (hears_many s managed) r ok whole = said_frames (cut managed s).frames r managed whole
  said_call (opens k w) r ok whole =
      opening_ways r k (λ (q : Kept (Unit {0})). RecordSaid One (record_of q)) w (λ j vs. whole)
      (λ o. said_set One r.slots (vacant r.slots) (slot_of (Opened k w)) whole
      (ap (λ (x : BypassSequenceControlFlag). eqb (bypass_number x) 0) ok))
  said_call (closes k) r ok whole =
      closing_ways r k (λ (q : Kept (Unit {0})). RecordSaid One (record_of q)) (λ j vs. whole)
      (λ low. said_set One r.slots (find k r.slots) (slot_of Closed) whole refl)

  said_calls : (cs : List Call) (r : ChannelRecord) → EachCall WithoutFlag cs → RecordSaid One r → RecordSaid One (run channel_of (hearing_by unflagged) K r cs)
  unfolding run
  said_calls [] r ok whole = whole
  said_calls (c ∷ cs) r ok whole = said_calls cs (called channel_of (hearing_by unflagged) K r c).1 ok.1 (said_call c r ok.0 whole)

  pub said_run : (cs : List Call) → EachCall WithoutFlag cs → RecordSaid One (run channel_of (hearing_by unflagged) K empty_record cs)
  unfolding says_all
  said_run cs ok = said_calls cs empty_record ok refl

-- a restart brings back the channels that stood, whatever the form
said_restart : {r q : ChannelRecord} → Restart r q → RecordSaid One r → RecordSaid One q
said_restart (resumes {r = r} f s h) whole =
    let d = restores_done f h in
    let l = d.unheard ++ d.heard in
    let o = origin s d.unheard d.heard d.is_good in
    let all = all_entries o.form r (EntrySaid One) (said_each One r.slots whole) in
    let e = subst (Each (EntrySaid One)) (sym (origin_entries o)) all in
    subst (RecordSaid One) d.is (each_said One (restored l).slots (each_restored l d.is_good.few (EntrySaid One) refl e))
said_restart (refuses f s h) whole = subst (RecordSaid One) (restores_refused f h) whole

-- A run at such a console leads from a record that calls made to one that calls made, and from sequence-controlled channels to such: its own
-- saving, which knows no 19, is that of `saving`, and what it wrote is restored here.
module _ {K : Channel} {width : ℕ} {managed : ManagedParameters} (S : Sender channel_of K width managed) {r m : ChannelRecord} {es : List (Event channel_of K width)}
    {hs : List Handing} (led : Leads Restart (hearing_by unflagged) S r es hs m) where
  pub made_before : Made r → EachCall Given (map (call_of S) es) → Made m
  made_before =
      leads_keep (hearing_by unflagged) S Made Given
      (event_keeps (hearing_by unflagged) S Made Given (λ q s f ok made. made_hearing unflagged q made s f)
      (λ q k w craft made. made_opening q made k w craft) (λ q k ok made. made_closing q made k))
      (λ q z. made_restart) led

  pub restores_before : Made r → EachCall Given (map (call_of S) es) → {s : List ℕ} → Wrote One m s → (found : ChannelRecord)
      → Restoring One found s (keeping (done tt) (restored (entries_of One m)))
  restores_before made given w found = restores_wrote (made_before made given) w found

  pub said_before : RecordSaid One r → EachCall WithoutFlag (map (call_of S) es) → RecordSaid One m
  said_before =
      leads_keep (hearing_by unflagged) S (RecordSaid One) WithoutFlag (λ e q. said_call K (call_of S e) q) (λ q z. said_restart) led
