-- No total is full where fewer than 2^60 frames arrive and fewer than 2^60 are lost, over restarts too: said of the places alone.
use mathlib.Core.Path.{◌≡◌, sym, ◌∙◌, ap, subst}
use mathlib.Core.Bool.{Bool, cond}
use mathlib.Core.List.{List, [], ◌∷◌, ◌++◌, map, append-nil, append_assoc}
use Prim.Native.Nat.{ℕ, ◌+◌, ◌^◌, ◌/◌, ◌<◌, ◌≤◌}
use native.Mathlib.Omega.{arith}
use native.Mathlib.Decide.{dec_lt}
use lib.ListN.{length, length-append}
use Rattle.uslp_kinds.specs.declared.ManagedParameters.{ManagedParameters}
use Rattle.uslp_record.specs.Record.{most}
use Rattle.uslp_record.specs.declared.Channel.{Channel}
use Rattle.uslp_record.specs.declared.SlotState.{SlotState}
use Rattle.uslp_record.specs.declared.SlotState.TheVariants.{Opened}
use Rattle.uslp_record.specs.declared.ChannelRecord.{ChannelRecord}
use Rattle.uslp_hearing.specs.Hearing.{Naming, hearing_by}
use Rattle.uslp_counting.specs.Places.{furthest, ahead_of, leaders, Window, lost}
use Rattle.uslp_counting.specs.History.{Call, Handing, called, Roomy, Unfilled, stands_for, singly, Sender, Event, call_of, places_of, places}
use Rattle.uslp_counting.specs.History.Call.{hears}
use Rattle.uslp_counting.specs.History.Event.{arrives, damaged, elsewhere, misfits, opened, closed, again}
use Rattle.uslp_counting.specs.Demand.{Begun}
use Rattle.uslp_counting.specs.Restarts.{Restart, Leads}
use Rattle.uslp_counting.proofs.Singly.{over_roomy, singly_unfilled, Steps, steps_of}
use Rattle.uslp_counting.proofs.Singly.Steps.{ends, next, restart}
use Rattle.uslp_counting.proofs.Stands.{Stands, stands_begun, begun_some, begun_narrow}
use Rattle.uslp_counting.proofs.Agrees.{agrees_self}
use Rattle.uslp_counting.proofs.Restarts.{restart_keeps}
use Rattle.uslp_counting.proofs.Others.{roomy_damaged, roomy_elsewhere, roomy_misfit}
use Rattle.uslp_counting.proofs.Arrival.{room_out}
use Rattle.uslp_counting.proofs.Lost.{furthest_more, furthest_new, furthest_old, lost_more, ahead_yes, ahead_no}
use Rattle.uslp_counting.proofs.Step.{Counting, quiet, going, counting_width, counting_room, advance}
use Rattle.uslp_counting.proofs.Events.{Near, seen_with, window_first, went}

-- as places follow, what is lost only grows
lost_grows : (ps : List ℕ) (k : ℕ) (ks : List ℕ) (f : ℕ) (l : List ℕ) → furthest (f ∷ l) ≡ furthest (k ∷ ks)
    → lost (f ∷ l) ≤ lost ((f ∷ l) ++ leaders (k ∷ ks) ps)
unfolding leaders
lost_grows [] k ks f l top = let e : lost (f ∷ l) ≡ lost ((f ∷ l) ++ []) = ap lost (sym (append-nil (f ∷ l))) in omega arith
lost_grows (p ∷ ps) k ks f l top = go (dec_lt (furthest (k ∷ ks)) p) (λ m e. lost_grows ps p (k ∷ ks) f m e)
  where
    go : Dec (furthest (k ∷ ks) < p) → ((m : List ℕ) → furthest (f ∷ m) ≡ furthest (p ∷ k ∷ ks) → lost (f ∷ m) ≤ lost ((f ∷ m) ++ leaders (p ∷ k ∷ ks) ps))
        → lost (f ∷ l) ≤ lost ((f ∷ l) ++ cond (ahead_of (k ∷ ks) p) (p ∷ leaders (p ∷ k ∷ ks) ps) (leaders (p ∷ k ∷ ks) ps))
    go (yes a) grows =
        let ls = leaders (p ∷ k ∷ ks) ps in
        let high = furthest_new p (k ∷ ks) (omega arith) in
        let more = lost_more f p l (omega arith) in
        let ih = grows (l ++ (p ∷ [])) (furthest_more p (f ∷ l) ∙ omega arith) in
        let e : lost ((f ∷ (l ++ (p ∷ []))) ++ ls) ≡ lost ((f ∷ l) ++ cond (ahead_of (k ∷ ks) p) (p ∷ ls) ls) =
        ap lost (append_assoc (f ∷ l) (p ∷ []) ls ∙ sym (ap (λ (z : Bool). (f ∷ l) ++ cond z (p ∷ ls) ls) (ahead_yes p (k ∷ ks) a))) in
        omega (arith, more, ih, e)
    go (no a) grows =
        let ls = leaders (p ∷ k ∷ ks) ps in
        let ih = grows l (top ∙ sym (furthest_old p (k ∷ ks) (omega arith))) in
        let e : lost ((f ∷ l) ++ ls) ≡ lost ((f ∷ l) ++ cond (ahead_of (k ∷ ks) p) (p ∷ ls) ls) =
        sym (ap (λ (z : Bool). lost ((f ∷ l) ++ cond z (p ∷ ls) ls)) (ahead_no k ks p (omega arith))) in
        omega (arith, ih, e)

module _ {name : Naming} {K : Channel} {width : ℕ} {managed : ManagedParameters} (S : Sender name K width managed) where
  counting_grows : {k : ℕ} {ks before : List ℕ} {t : SlotState} → Counting S (k ∷ ks) before t → (ps : List ℕ)
      → lost before ≤ lost (before ++ leaders (k ∷ ks) ps)
  counting_grows (going k ks f l t last top gone all) ps = lost_grows ps k ks f l top

  module _ (lo : 1 ≤ width) (hi : width ≤ 7) where
    roomy : (e : Event name K width) (r : ChannelRecord) {seen before : List ℕ} {t : SlotState} → Stands K r t → Counting S seen before t → Near e seen
        → (ps : List ℕ)
        → length (places_of e ++ seen) ≤ most → lost (before ++ leaders seen (places_of e ++ ps)) ≤ most → Roomy name (hearing_by name) K r (call_of S e)
    unfolding leaders
    roomy (arrives p behind) r {seen} {before} {t} at c near ps few less =
        let h = advance S p behind lo hi c near in
        let e = ap lost (h.leads (leaders (p ∷ seen) ps)) in
        let g = counting_grows h.counting ps in
        room_out S p behind name (agrees_self name K (call_of S (arrives p behind))) r t at hi (counting_width S c)
        (counting_room S h.counting few (omega (arith, e, g, less)))
    roomy (damaged s f k vs e) r {t} at c near ps few less = roomy_damaged name name K r t at s f k vs e
    roomy (elsewhere s f x e o) r {t} at c near ps few less = roomy_elsewhere name name K r t at s f (agrees_self name K (hears s f)) x e o
    roomy (misfits s f x e o) r {t} at c near ps few less =
        roomy_misfit name name K r t at s f (agrees_self name K (hears s f)) x e (λ w. o (w ∙ sym (counting_width S c)))
    roomy (opened k w o) r at c near ps few less = tt
    roomy (closed k o) r at c near ps few less = tt
    roomy (again w) r at c near ps few less = tt

    rooms : (es : List (Event name K width)) (r : ChannelRecord) (seen before : List ℕ) (t : SlotState) → Stands K r t → Counting S seen before t
        → Window (256 ^ width / 2) seen (places es) → length (places es) + length seen ≤ most → lost (before ++ leaders seen (places es)) ≤ most
        → Unfilled name (hearing_by name) K r (map (call_of S) es)
    unfolding Unfilled places
    rooms [] r seen before t at c near few less = tt
    rooms (e ∷ es) r seen before t at c near few less =
        let w = window_first e seen (places es) near in
        let a = length-append (places_of e) (places es) in
        let b = length-append (places_of e) seen in
        let room = roomy e r at c w.0 (places es) (omega (arith, a, b, few)) less in
        let h = went S name lo hi e (agrees_self name K (call_of S e)) r at c w.0 room in
        let q = called name (hearing_by name) K r (call_of S e) in (
          room,
          rooms es q.1 (seen_with e seen) h.leading h.state h.stands h.counting w.1 (omega (arith, a, b, few))
              (subst (λ (l : List ℕ). lost l ≤ most) (sym (h.leads (places es))) less),
        )

    -- the events that follow a run
    rooms_after : {es : List (Event name K width)} {hs : List Handing} {r q : ChannelRecord} → Steps (hearing_by name) S r es hs q
        → (seen before : List ℕ) (t : SlotState) → Stands K r t → Counting S seen before t
        → (ms : List (Event name K width)) → Window (256 ^ width / 2) seen (places (es ++ ms)) → length (places (es ++ ms)) + length seen ≤ most
        → lost (before ++ leaders seen (places (es ++ ms))) ≤ most → Unfilled name (hearing_by name) K q (map (call_of S) ms)
    unfolding places
    rooms_after (ends {r = r}) seen before t at c ms near few less = rooms ms r seen before t at c near few less
    rooms_after (next {r = r} {es = es} d room rest) seen before t at c ms near few less =
        let ps = places (es ++ ms) in
        let w = window_first d seen ps near in
        let h = went S name lo hi d (agrees_self name K (call_of S d)) r at c w.0 room in
        rooms_after rest (seen_with d seen) h.leading h.state h.stands h.counting ms w.1
        (omega (arith, length-append (places_of d) ps, length-append (places_of d) seen, few))
        (subst (λ (l : List ℕ). lost l ≤ most) (sym (h.leads ps)) less)
    rooms_after (restart g rest) seen before t at c ms near few less = rooms_after rest seen before t (restart_keeps g K t at) c ms near few less

  pub unfilled_over : (r q : ChannelRecord) → Begun K width r
      → {es : List (Event name K width)} {hs : List Handing} → Leads Restart (hearing_by name) S r es hs q
      → (ms : List (Event name K width)) (c : Call) → stands_for c ≡ map (call_of S) ms → Window (256 ^ width / 2) [] (places (es ++ ms))
      → length (places (es ++ ms)) < 2 ^ 60 → lost (leaders [] (places (es ++ ms))) < 2 ^ 60 → Roomy name (hearing_by name) K q c
  unfilled_over r q begun l ms c stand near few less =
      over_roomy name (hearing_by name) K q c
      (subst (Unfilled name (hearing_by name) K q) (sym stand)
      (rooms_after (begun_some begun) (begun_narrow begun) (steps_of (hearing_by name) S l) [] [] (Opened K width) (stands_begun begun) quiet ms near
      (omega arith) (omega arith)))

  pub unfilled : (r : ChannelRecord) → Begun K width r
      → (es : List (Event name K width)) (cs : List Call) → singly cs ≡ map (call_of S) es → Window (256 ^ width / 2) [] (places es)
      → length (places es) < 2 ^ 60 → lost (leaders [] (places es)) < 2 ^ 60 → Unfilled name (hearing_by name) K r cs
  unfilled r begun es cs stand near few less =
      singly_unfilled name (hearing_by name) K cs r
      (subst (Unfilled name (hearing_by name) K r) (sym stand)
      (rooms (begun_some begun) (begun_narrow begun) es r [] [] (Opened K width) (stands_begun begun) quiet near (omega arith) (omega arith)))
