-- What each kind of event makes of the record and of the count: one clause a kind.
use mathlib.Core.Path.{◌≡◌, refl, sym, ◌∙◌, ap, subst}
use mathlib.Core.Bool.{false}
use mathlib.Core.List.{List, [], ◌∷◌, ◌++◌}
use Prim.Native.Nat.{ℕ, ◌^◌, ◌/◌, ◌≤◌}
use Rattle.uslp_kinds.specs.declared.ManagedParameters.{ManagedParameters}
use Rattle.uslp_record.specs.Judging.{overfull, totals_at}
use Rattle.uslp_record.specs.Record.{Kept}
use Rattle.uslp_record.specs.declared.Channel.{Channel}
use Rattle.uslp_record.specs.declared.SlotState.{SlotState}
use Rattle.uslp_record.specs.declared.SlotState.TheVariants.{Heard}
use Rattle.uslp_record.specs.declared.ChannelRecord.{ChannelRecord}
use Rattle.uslp_record.proofs.Slots.{same_self}
use Rattle.uslp_hearing.specs.Hearing.{Naming, hearing_by}
use Rattle.uslp_hearing.specs.declared.FrameArrival.{FrameArrival}
use Rattle.uslp_counting.specs.Places.{leaders, Close, Window}
use Rattle.uslp_counting.specs.History.{Handing, record_of, answer_of, handing, called, Roomy, Sender, frame_at, Event, call_of, places_of}
use Rattle.uslp_counting.specs.History.Event.{arrives, damaged, elsewhere, misfits, opened, closed, again}
use Rattle.uslp_counting.proofs.Stands.{Stands, stands_own, stands_opening, stands_closing, stands_again}
use Rattle.uslp_counting.proofs.Agrees.{Agrees}
use Rattle.uslp_counting.proofs.Others.{passes_damaged, passes_elsewhere, passes_misfit}
use Rattle.uslp_counting.proofs.Arrival.{count_at, arrival_done, room_in}
use Rattle.uslp_counting.proofs.Step.{Counting, counting_width, handings_after, advance}

-- the places seen after an event, and what the window asks of it
module _ {name : Naming} {K : Channel} {width : ℕ} where
  abbrev pub seen_with : Event name K width → List ℕ → List ℕ
  seen_with e seen = places_of e ++ seen

  abbrev pub Near : Event name K width → List ℕ → Type 0
  Near (arrives p behind) seen = Close (256 ^ width / 2) seen p
  Near (damaged s f k vs e) seen = Unit {0}
  Near (elsewhere s f x e o) seen = Unit {0}
  Near (misfits s f x e o) seen = Unit {0}
  Near (opened k w o) seen = Unit {0}
  Near (closed k o) seen = Unit {0}
  Near (again w) seen = Unit {0}

  pub window_first : (e : Event name K width) (seen ps : List ℕ) → Window (256 ^ width / 2) seen (places_of e ++ ps)
      → Near e seen × Window (256 ^ width / 2) (seen_with e seen) ps
  unfolding Window
  window_first (arrives p behind) seen ps near = near
  window_first (damaged s f k vs e) seen ps near = (tt, near)
  window_first (elsewhere s f x e o) seen ps near = (tt, near)
  window_first (misfits s f x e o) seen ps near = (tt, near)
  window_first (opened k w o) seen ps near = (tt, near)
  window_first (closed k o) seen ps near = (tt, near)
  window_first (again w) seen ps near = (tt, near)

module _ {name : Naming} {K : Channel} {width : ℕ} {managed : ManagedParameters} (S : Sender name K width managed) where
  -- The channel stands after the event and the count goes on: with the places that follow, the leaders are those that were asked for, and
  -- what is handed on is what they ask for.
  pub record Went (e : Event name K width) (q : List Handing × ChannelRecord) (seen before : List ℕ) : Type 0 where
    pub state : SlotState
    pub leading : List ℕ
    pub stands : Stands K q.1 state
    pub counting : Counting S (seen_with e seen) leading state
    pub leads : (ps : List ℕ) → leading ++ leaders (seen_with e seen) ps ≡ before ++ leaders seen (places_of e ++ ps)
    pub hands : (ps : List ℕ) → q.0 ++ handings_after S (seen_with e seen) (leaders (seen_with e seen) ps) ≡ handings_after S seen
        (leaders seen (places_of e ++ ps))

  -- an arrival, for which no total is full
  went_arrives : (by : Naming) (lo : 1 ≤ width) (hi : width ≤ 7) (p : ℕ) (behind : List ℕ) → Agrees name by K (call_of S (arrives p behind))
      → (r : ChannelRecord) {seen before : List ℕ} {t : SlotState}
      → Stands K r t → Counting S seen before t → Close (256 ^ width / 2) seen p → overfull (totals_at t (count_at S p)) ≡ false
      → Went (arrives p behind) (called name (hearing_by by) K r (call_of S (arrives p behind))) seen before
  unfolding leaders
  went_arrives by lo hi p behind agree r {seen} {before} {t} at c near room =
      let h = advance S p behind lo hi c near in
      let s = frame_at S p ++ behind in
      subst (λ (q : Kept FrameArrival). Went (arrives p behind) (handing name K s (answer_of q), record_of q) seen before)
      (sym (arrival_done S p behind by agree r t at hi (counting_width S c) room))
      (record {
        state = Heard K width (totals_at t (count_at S p));
        leading = h.leading;
        stands = stands_own K r t at (Heard K width (totals_at t (count_at S p))) (same_self K);
        counting = h.counting;
        leads = λ ps. h.leads (leaders (p ∷ seen) ps);
        hands = λ ps. h.hands (leaders (p ∷ seen) ps);
      })

  -- octets of which nothing is handed on
  module _ (e : Event name K width) (none : places_of e ≡ []) {seen before : List ℕ} {t : SlotState} (c : Counting S seen before t) where
    same_seen : seen_with e seen ≡ seen
    same_seen = ap (λ (ps : List ℕ). ps ++ seen) none

    went_past : (q : List Handing × ChannelRecord) → q.0 ≡ [] → Stands K q.1 t → Went e q seen before
    went_past q nothing at = record {
      state = t;
      leading = before;
      stands = at;
      counting = subst (λ (l : List ℕ). Counting S l before t) (sym same_seen) c;
      leads = λ ps.
          ap (λ (l : List ℕ). before ++ leaders l ps) same_seen ∙ sym (ap (λ (l : List ℕ). before ++ leaders seen (l ++ ps)) none);
      hands = λ ps.
          ap (λ (hs : List Handing). hs ++ handings_after S (seen_with e seen) (leaders (seen_with e seen) ps)) nothing
          ∙ ap (λ (l : List ℕ). handings_after S l (leaders l ps)) same_seen
          ∙ sym (ap (λ (l : List ℕ). handings_after S seen (leaders seen (l ++ ps))) none);
    }

  -- any event, at a console that names channels by `by`
  pub went : (by : Naming) → 1 ≤ width → width ≤ 7 → (e : Event name K width) → Agrees name by K (call_of S e)
      → (r : ChannelRecord) {seen before : List ℕ} {t : SlotState} → Stands K r t → Counting S seen before t
      → Near e seen → Roomy name (hearing_by by) K r (call_of S e) → Went e (called name (hearing_by by) K r (call_of S e)) seen before
  went by lo hi (arrives p behind) agree r {t} at c near room =
      went_arrives by lo hi p behind agree r at c near (room_in S p behind by agree r t at hi (counting_width S c) room)
  went by lo hi (damaged s f k vs e) agree r {t} at c near room =
      let h = passes_damaged name by K r t at s f k vs e in went_past (damaged s f k vs e) refl c _ h.nothing h.stands
  went by lo hi (elsewhere s f x e o) agree r {t} at c near room =
      let h = passes_elsewhere name by K r t at s f agree x e o in went_past (elsewhere s f x e o) refl c _ h.nothing h.stands
  went by lo hi (misfits s f x e o) agree r {t} at c near room =
      let h = passes_misfit name by K r t at s f agree x e (λ w. o (w ∙ sym (counting_width S c))) in
      went_past (misfits s f x e o) refl c _ h.nothing h.stands
  went by lo hi (opened k w o) agree r {t} at c near room = went_past (opened k w o) refl c _ refl (stands_opening K r t at k o w)
  went by lo hi (closed k o) agree r {t} at c near room = went_past (closed k o) refl c _ refl (stands_closing K r t at k o)
  went by lo hi (again w) agree r {t} at c near room = went_past (again w) refl c _ refl (stands_again K r t at w)
