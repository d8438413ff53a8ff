-- The console counts what it lacks, over restarts and calls of many frames too: what is handed on is what is ahead of all before it, and
-- what is missing is what was lost.
use mathlib.Core.Path.{◌≡◌, refl, sym, ◌∙◌, ap, subst}
use mathlib.Core.List.{List, [], ◌∷◌, ◌++◌, map, append-nil, append_assoc}
use Prim.Native.Nat.{ℕ, ◌^◌, ◌/◌, ◌≤◌}
use Rattle.uslp_kinds.specs.declared.ManagedParameters.{ManagedParameters}
use Rattle.uslp_record.specs.Record.{missing_of}
use Rattle.uslp_record.specs.declared.Channel.{Channel}
use Rattle.uslp_record.specs.declared.SlotState.{SlotState}
use Rattle.uslp_record.specs.declared.SlotState.TheVariants.{Opened}
use Rattle.uslp_record.specs.declared.ChannelRecord.{ChannelRecord}
use Rattle.uslp_hearing.specs.Hearing.{Naming, channel_of, hearing_by, frame_hearing}
use Rattle.uslp_counting.specs.Places.{leaders, Window, lost}
use Rattle.uslp_counting.specs.History.{Hearer, Call, EachCall, Handing, called, run, handed, Unfilled, singly, missing_for, Sender, Event, call_of, following, handings, places_of, places}
use Rattle.uslp_counting.specs.Demand.{Begun, Counts, Demand3}
use Rattle.uslp_counting.specs.Restarts.{Restart, Leads, Demand3Over}
use Rattle.uslp_counting.specs.Restarts.Leads.{ends as leads_end, next as leads_next}
use Rattle.uslp_counting.specs.Updated.{unflagged}
use Rattle.uslp_counting.proofs.Stands.{Stands, stands_begun, begun_some, begun_narrow}
use Rattle.uslp_counting.proofs.Singly.{run_singly, handed_singly, unfilled_singly, Steps, steps_of, stands_alone}
use Rattle.uslp_counting.proofs.Singly.Steps.{ends, next, restart}
use Rattle.uslp_counting.proofs.Agrees.{Agrees, all_agree}
use Rattle.uslp_counting.proofs.Restarts.{restart_keeps}
use Rattle.uslp_counting.proofs.Step.{Counting, quiet, counting_missing, handings_after}
use Rattle.uslp_counting.proofs.Events.{seen_with, window_first, went}

module _ {name : Naming} {K : Channel} {width : ℕ} {managed : ManagedParameters} (S : Sender name K width managed) where
  -- Events that led to the record q and handed hs on, after the places seen, of which `before` were handed on: the channel stands in q with
  -- everything counted, so that what follows can go on from there. With the places ps that follow, the leaders are those that were asked
  -- for, and what is handed on is what they ask for.
  pub record Counted (es : List (Event name K width)) (hs : List Handing) (q : ChannelRecord) (seen before ps : List ℕ) : Type 0 where
    pub after : List ℕ
    pub leading : List ℕ
    pub state : SlotState
    pub stands : Stands K q state
    pub counting : Counting S after leading state
    pub near : Window (256 ^ width / 2) after ps
    pub leads : leading ++ leaders after ps ≡ before ++ leaders seen (places es ++ ps)
    pub hands : hs ++ handings_after S after (leaders after ps) ≡ handings_after S seen (leaders seen (places es ++ ps))

  -- at a console that names channels by `by`, which agrees with `name` on what it hears
  pub counts : (by : Naming) → 1 ≤ width → width ≤ 7 → {es : List (Event name K width)} {hs : List Handing} {r q : ChannelRecord}
      → Steps (hearing_by by) S r es hs q → EachCall (Agrees name by K) (map (call_of S) es)
      → (seen before ps : List ℕ) (t : SlotState) → Stands K r t → Counting S seen before t → Window (256 ^ width / 2) seen (places es ++ ps)
      → Counted es hs q seen before ps
  unfolding places
  counts by lo hi ends agree seen before ps t at c near = record {
    after = seen;
    leading = before;
    state = t;
    stands = at;
    counting = c;
    near = near;
    leads = refl;
    hands = refl;
  }
  counts by lo hi (next {r = r} {es = es} {hs = hs} e room rest) agree seen before ps t at c near =
      let tail = places es ++ ps in
      let split : places (e ∷ es) ++ ps ≡ places_of e ++ tail = append_assoc (places_of e) (places es) ps in
      let w = window_first e seen tail (subst (Window (256 ^ width / 2) seen) split near) in
      let h = went S by lo hi e agree.0 r at c w.0 room in
      let ih = counts by lo hi rest agree.1 (seen_with e seen) h.leading ps h.state h.stands h.counting w.1 in
      let hand = (called name (hearing_by by) K r (call_of S e)).0 in
      record {
        after = ih.after;
        leading = ih.leading;
        state = ih.state;
        stands = ih.stands;
        counting = ih.counting;
        near = ih.near;
        leads = ih.leads ∙ h.leads tail ∙ sym (ap (λ (l : List ℕ). before ++ leaders seen l) split);
        hands = append_assoc hand hs (handings_after S ih.after (leaders ih.after ps))
            ∙ ap (λ (l : List Handing). hand ++ l) ih.hands ∙ h.hands tail
            ∙ sym (ap (λ (l : List ℕ). handings_after S seen (leaders seen l)) split);
      }
  counts by lo hi (restart g rest) agree seen before ps t at c near =
      counts by lo hi rest agree seen before ps t (restart_keeps g K t at) c near

  handings_none : (seen : List ℕ) → handings_after S seen (leaders seen []) ≡ []
  unfolding handings following leaders
  handings_none [] = refl
  handings_none (k ∷ ks) = refl

  leaders_none : (seen : List ℕ) → leaders seen [] ≡ []
  unfolding leaders
  leaders_none seen = refl

  -- where nothing follows: what was handed on, and what is missing
  pub counted_all : {es : List (Event name K width)} {hs : List Handing} {q : ChannelRecord} {seen before : List ℕ} → Counted es hs q seen before []
      → (hs ≡ handings_after S seen (leaders seen (places es))) × (missing_for K q ≡ lost (before ++ leaders seen (places es)))
  counted_all {es} {hs} {q} {seen} {before} c = (
    sym (append-nil hs) ∙ ap (λ (l : List Handing). hs ++ l) (sym (handings_none c.after)) ∙ c.hands
        ∙ ap (λ (l : List ℕ). handings_after S seen (leaders seen l)) (append-nil (places es)),
    ap missing_of c.stands.state ∙ counting_missing S c.counting
        ∙ ap lost (sym (append-nil c.leading) ∙ ap (λ (l : List ℕ). c.leading ++ l) (sym (leaders_none c.after)) ∙ c.leads
        ∙ ap (λ (l : List ℕ). before ++ leaders seen l) (append-nil (places es))),
  )

-- demand 3 over restarts holds of the hearing that counts as frames are named
pub counted_over : (name : Naming) → Demand3Over Restart name (hearing_by name)
counted_over name K width managed S r begun es hs q l near =
    counted_all S
    (counts S name (begun_some begun) (begun_narrow begun) (steps_of (hearing_by name) S l) (all_agree name K (map (call_of S) es)) [] [] []
    (Opened K width) (stands_begun begun) quiet (subst (Window (256 ^ width / 2) []) (sym (append-nil (places es))) near))

-- a history of events is a run without restarts
pub leads_of : (R : ChannelRecord → ChannelRecord → Type 0) (H : Hearer) {name : Naming} {K : Channel} {width : ℕ}
    {managed : ManagedParameters} (S : Sender name K width managed) (es : List (Event name K width)) (r : ChannelRecord)
    → Unfilled name H K r (map (call_of S) es) → Leads R H S r es (handed name H K r (map (call_of S) es)) (run name H K r (map (call_of S) es))
unfolding handed run Unfilled
leads_of R H S [] r room = leads_end
leads_of R H {name} {K} S (e ∷ es) r room =
    leads_next (e ∷ []) (call_of S e) (stands_alone H S e) room.0 (leads_of R H S es (called name H K r (call_of S e)).1 room.1)

-- so any hearing that has demand 3 over restarts has it without them
pub over : (R : ChannelRecord → ChannelRecord → Type 0) (name : Naming) (H : Hearer) → Demand3Over R name H → Demand3 name H
over R name H demand K width managed S r begun es cs stand room near =
    let l = leads_of R H S es r (subst (Unfilled name H K r) stand (unfilled_singly name H K cs r room)) in
    let d = demand K width managed S r begun es _ _ l near in (
      handed_singly name H K cs r ∙ ap (handed name H K r) stand ∙ d.0,
      ap (missing_for K) (run_singly name H K cs r ∙ ap (run name H K r) stand) ∙ d.1,
    )

-- demand 3 holds of the hearing that counts as frames are named
pub counted_by : (name : Naming) → Demand3 name (hearing_by name)
counted_by name = over Restart name (hearing_by name) (counted_over name)

-- of the hearing here, and of the one that ignores the flag
pub counted : Demand3 channel_of frame_hearing
counted = counted_by channel_of

pub counted_unflagged : Demand3 unflagged (hearing_by unflagged)
counted_unflagged = counted_by unflagged

-- Only arrivals alter what is counted: two runs in which the same places arrive hand on the same, and have the same missing.
module _ {K : Channel} {width : ℕ} {managed : ManagedParameters} (S : Sender channel_of K width managed) {ps ps' : List ℕ} (same : ps ≡ ps')
    (near : Window (256 ^ width / 2) [] ps) where
  alike : (hs hs' : List Handing) (q q' : ChannelRecord) → Counts S ps hs q → Counts S ps' hs' q' → (hs ≡ hs') × (missing_for K q ≡ missing_for K q')
  alike hs hs' q q' c c' =
      let a = c near in
      let b = c' (subst (Window (256 ^ width / 2) []) same near) in
      (a.0 ∙ ap (λ (l : List ℕ). handings S (leaders [] l)) same ∙ sym b.0, a.1 ∙ ap (λ (l : List ℕ). lost (leaders [] l)) same ∙ sym b.1)

pub unaltered_over : {K : Channel} {width : ℕ} {managed : ManagedParameters} (S : Sender channel_of K width managed) (r r' : ChannelRecord)
    → Begun K width r → Begun K width r'
    → {q q' : ChannelRecord} {es es' : List (Event channel_of K width)} {hs hs' : List Handing}
    → Leads Restart frame_hearing S r es hs q → Leads Restart frame_hearing S r' es' hs' q' → places es ≡ places es'
    → Window (256 ^ width / 2) [] (places es)
    → (hs ≡ hs') × (missing_for K q ≡ missing_for K q')
unaltered_over {K} {width} {managed} S r r' begun begun' {q} {q'} {es} {es'} {hs} {hs'} l l' same near =
    alike S same near hs hs' q q' (counted_over channel_of K width managed S r begun es hs q l) (counted_over channel_of K width managed S r' begun' es' hs' q' l')

-- the same of histories without restarts
pub unaltered : {K : Channel} {width : ℕ} {managed : ManagedParameters} (S : Sender channel_of K width managed) (r r' : ChannelRecord)
    → Begun K width r → Begun K width r'
    → (es es' : List (Event channel_of K width)) (cs cs' : List Call) → singly cs ≡ map (call_of S) es → singly cs' ≡ map (call_of S) es'
    → places es ≡ places es' → Window (256 ^ width / 2) [] (places es) → Unfilled channel_of frame_hearing K r cs → Unfilled channel_of frame_hearing K r' cs'
    → (handed channel_of frame_hearing K r cs ≡ handed channel_of frame_hearing K r' cs')
    × (missing_for K (run channel_of frame_hearing K r cs) ≡ missing_for K (run channel_of frame_hearing K r' cs'))
unaltered {K} {width} {managed} S r r' begun begun' es es' cs cs' stand stand' same near room room' =
    alike S same near _ _ (run channel_of frame_hearing K r cs) (run channel_of frame_hearing K r' cs') (counted K width managed S r begun es cs stand room)
    (counted K width managed S r' begun' es' cs' stand' room')
