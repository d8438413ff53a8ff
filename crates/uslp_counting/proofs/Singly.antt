-- A call of many frames is the hearings that it stands for: a history of calls is one of calls of one frame at the most.
use mathlib.Core.Path.{◌≡◌, refl, sym, ◌∙◌, ap, subst}
use mathlib.Core.List.{List, [], ◌∷◌, ◌++◌, map, append-nil, append_assoc}
use Prim.Native.Nat.{ℕ}
use Rattle.uslp_kinds.specs.declared.ManagedParameters.{ManagedParameters}
use Rattle.uslp_reader.specs.declared.TransferFrame.{TransferFrame}
use Rattle.uslp_reader.specs.EndToEnd.{cut}
use Rattle.uslp_record.specs.declared.Channel.{Channel}
use Rattle.uslp_record.specs.declared.ChannelRecord.{ChannelRecord}
use Rattle.uslp_hearing.specs.Hearing.{Naming}
use Rattle.uslp_counting.specs.History.{Hearer, Call, Handing, heard, heard_all, called, NoneFull, Roomy, run, handed, Unfilled, stands_for, singly, Sender, Event, call_of}
use Rattle.uslp_counting.specs.History.Call.{hears, hears_many, opens, closes}
use Rattle.uslp_counting.specs.History.Event.{arrives, damaged, elsewhere, misfits, opened, closed, again}
use Rattle.uslp_counting.specs.Restarts.{Restart, Leads}
use Rattle.uslp_counting.specs.Restarts.Leads.{ends as leads_end, next as leads_next, restart as leads_restart_mod}

-- hearing a frame's own octets
abbrev hearing : ManagedParameters → TransferFrame × List ℕ → Call
hearing managed f = hears f.1 managed

module _ (name : Naming) (H : Hearer) (K : Channel) where
  -- what calls hand on, and the record after them
  abbrev over : ChannelRecord → List Call → List Handing × ChannelRecord
  over r cs = (handed name H K r cs, run name H K r cs)

  all_over : (managed : ManagedParameters) (fs : List (TransferFrame × List ℕ)) (r : ChannelRecord)
      → heard_all name H K r fs managed ≡ over r (map (hearing managed) fs)
  unfolding heard_all run handed
  all_over managed [] r = refl
  all_over managed (f ∷ fs) r =
      ap (λ (q : List Handing × ChannelRecord). ((heard name H K r f.1 managed).0 ++ q.0, q.1)) (all_over managed fs (heard name H K r f.1 managed).1)

  all_unfilled : (managed : ManagedParameters) (fs : List (TransferFrame × List ℕ)) (r : ChannelRecord)
      → NoneFull name H K r fs managed → Unfilled name H K r (map (hearing managed) fs)
  unfolding NoneFull Unfilled
  all_unfilled managed [] r room = tt
  all_unfilled managed (f ∷ fs) r room = (room.0, all_unfilled managed fs (heard name H K r f.1 managed).1 room.1)

  one_over : (r : ChannelRecord) (c : Call) → called name H K r c ≡ over r (c ∷ [])
  unfolding run handed
  one_over r c = ap (λ (hs : List Handing). (hs, (called name H K r c).1)) (sym (append-nil (called name H K r c).0))

  one_unfilled : (r : ChannelRecord) (c : Call) → Roomy name H K r c → Unfilled name H K r (c ∷ [])
  unfolding Unfilled
  one_unfilled r c room = (room, tt)

  -- a call and what it stands for
  pub called_over : (r : ChannelRecord) (c : Call) → called name H K r c ≡ over r (stands_for c)
  called_over r (hears s managed) = one_over r (hears s managed)
  called_over r (hears_many s managed) = all_over managed (cut managed s).frames r
  called_over r (opens k w) = one_over r (opens k w)
  called_over r (closes k) = one_over r (closes k)

  pub roomy_over : (r : ChannelRecord) (c : Call) → Roomy name H K r c → Unfilled name H K r (stands_for c)
  roomy_over r (hears s managed) room = one_unfilled r (hears s managed) room
  roomy_over r (hears_many s managed) room = all_unfilled managed (cut managed s).frames r room
  roomy_over r (opens k w) room = one_unfilled r (opens k w) room
  roomy_over r (closes k) room = one_unfilled r (closes k) room

  -- and back
  all_none_full : (managed : ManagedParameters) (fs : List (TransferFrame × List ℕ)) (r : ChannelRecord)
      → Unfilled name H K r (map (hearing managed) fs) → NoneFull name H K r fs managed
  unfolding NoneFull Unfilled
  all_none_full managed [] r room = tt
  all_none_full managed (f ∷ fs) r room = (room.0, all_none_full managed fs (heard name H K r f.1 managed).1 room.1)

  one_roomy : (r : ChannelRecord) (c : Call) → Unfilled name H K r (c ∷ []) → Roomy name H K r c
  unfolding Unfilled
  one_roomy r c room = room.0

  pub over_roomy : (r : ChannelRecord) (c : Call) → Unfilled name H K r (stands_for c) → Roomy name H K r c
  over_roomy r (hears s managed) room = one_roomy r (hears s managed) room
  over_roomy r (hears_many s managed) room = all_none_full managed (cut managed s).frames r room
  over_roomy r (opens k w) room = one_roomy r (opens k w) room
  over_roomy r (closes k) room = one_roomy r (closes k) room

  -- calls after calls
  run_append : (cs ds : List Call) (r : ChannelRecord) → run name H K r (cs ++ ds) ≡ run name H K (run name H K r cs) ds
  unfolding run
  run_append [] ds r = refl
  run_append (a ∷ cs) ds r = run_append cs ds (called name H K r a).1

  handed_append : (cs ds : List Call) (r : ChannelRecord) → handed name H K r (cs ++ ds) ≡ handed name H K r cs ++ handed name H K (run name H K r cs) ds
  unfolding run handed
  handed_append [] ds r = refl
  handed_append (a ∷ cs) ds r =
      let q = called name H K r a in
      ap (λ (hs : List Handing). q.0 ++ hs) (handed_append cs ds q.1)
      ∙ sym (append_assoc q.0 (handed name H K q.1 cs) (handed name H K (run name H K q.1 cs) ds))

  unfilled_append : (cs ds : List Call) (r : ChannelRecord) → Unfilled name H K r cs → Unfilled name H K (run name H K r cs) ds → Unfilled name H K r (cs ++ ds)
  unfolding run Unfilled
  unfilled_append [] ds r a b = b
  unfilled_append (c ∷ cs) ds r a b = (a.0, unfilled_append cs ds (called name H K r c).1 a.1 b)

  -- a history, and the one that it stands for
  pub run_singly : (cs : List Call) (r : ChannelRecord) → run name H K r cs ≡ run name H K r (singly cs)
  unfolding run
  run_singly [] r = refl
  run_singly (c ∷ cs) r =
      run_singly cs (called name H K r c).1
      ∙ ap (λ (q : ChannelRecord). run name H K q (singly cs)) (ap (λ (q : List Handing × ChannelRecord). q.1) (called_over r c))
      ∙ sym (run_append (stands_for c) (singly cs) r)

  pub handed_singly : (cs : List Call) (r : ChannelRecord) → handed name H K r cs ≡ handed name H K r (singly cs)
  unfolding handed
  handed_singly [] r = refl
  handed_singly (c ∷ cs) r =
      ap (λ (hs : List Handing). (called name H K r c).0 ++ hs) (handed_singly cs (called name H K r c).1)
      ∙ ap (λ (q : List Handing × ChannelRecord). q.0 ++ handed name H K q.1 (singly cs)) (called_over r c)
      ∙ sym (handed_append (stands_for c) (singly cs) r)

  pub unfilled_singly : (cs : List Call) (r : ChannelRecord) → Unfilled name H K r cs → Unfilled name H K r (singly cs)
  unfolding Unfilled
  unfilled_singly [] r room = tt
  unfilled_singly (c ∷ cs) r room =
      unfilled_append (stands_for c) (singly cs) r (roomy_over r c room.0)
      (subst (λ (q : List Handing × ChannelRecord). Unfilled name H K q.1 (singly cs)) (called_over r c)
      (unfilled_singly cs (called name H K r c).1 room.1))

  unfilled_parts : (cs ds : List Call) (r : ChannelRecord) → Unfilled name H K r (cs ++ ds) → Unfilled name H K r cs × Unfilled name H K (run name H K r cs) ds
  unfolding run Unfilled
  unfilled_parts [] ds r room = (tt, room)
  unfilled_parts (c ∷ cs) ds r room = let p = unfilled_parts cs ds (called name H K r c).1 room.1 in ((room.0, p.0), p.1)

  pub singly_unfilled : (cs : List Call) (r : ChannelRecord) → Unfilled name H K r (singly cs) → Unfilled name H K r cs
  unfolding Unfilled
  singly_unfilled [] r room = tt
  singly_unfilled (c ∷ cs) r room =
      let p = unfilled_parts (stands_for c) (singly cs) r room in (
        over_roomy r c p.0,
        singly_unfilled cs (called name H K r c).1
            (subst (λ (q : List Handing × ChannelRecord). Unfilled name H K q.1 (singly cs)) (sym (called_over r c)) p.1),
      )

module _ {name : Naming} (H : Hearer) {K : Channel} {width : ℕ} {managed : ManagedParameters} (S : Sender name K width managed) where
  -- a run as a step for each event
  pub data Steps : ChannelRecord → List (Event name K width) → List Handing → ChannelRecord → Type 0 where
    ends : {r : ChannelRecord} → Steps r [] [] r
    next : {r q : ChannelRecord} {es : List (Event name K width)} {hs : List Handing} (e : Event name K width) → Roomy name H K r (call_of S e)
        → Steps (called name H K r (call_of S e)).1 es hs q → Steps r (e ∷ es) ((called name H K r (call_of S e)).0 ++ hs) q
    restart : {r m q : ChannelRecord} {es : List (Event name K width)} {hs : List Handing} → Restart r m → Steps m es hs q → Steps r es hs q

  steps_over : (ms : List (Event name K width)) {r q : ChannelRecord} {es : List (Event name K width)} {hs : List Handing}
      → Unfilled name H K r (map (call_of S) ms) → Steps (run name H K r (map (call_of S) ms)) es hs q
      → Steps r (ms ++ es) (handed name H K r (map (call_of S) ms) ++ hs) q
  unfolding run handed Unfilled
  steps_over [] room rest = rest
  steps_over (m ∷ ms) {r} {q} {es} {hs} room rest =
      let p = called name H K r (call_of S m) in
      subst (λ (l : List Handing). Steps r (m ∷ (ms ++ es)) l q) (sym (append_assoc p.0 (handed name H K p.1 (map (call_of S) ms)) hs))
      (next m room.0 (steps_over ms room.1 rest))

  pub steps_of : {r q : ChannelRecord} {es : List (Event name K width)} {hs : List Handing} → Leads Restart H S r es hs q → Steps r es hs q
  steps_of leads_end = ends
  steps_of (leads_next {r = r} {q = q} {es = es} {hs = hs} ms c stand room rest) =
      let p : called name H K r c ≡ over name H K r (map (call_of S) ms) = called_over name H K r c ∙ ap (over name H K r) stand in
      subst (λ (l : List Handing). Steps r (ms ++ es) (l ++ hs) q) (sym (ap (λ (v : List Handing × ChannelRecord). v.0) p))
      (steps_over ms (subst (Unfilled name H K r) stand (roomy_over name H K r c room))
      (subst (λ (v : List Handing × ChannelRecord). Steps v.1 es hs q) p (steps_of rest)))
  steps_of (leads_restart_mod g rest) = restart g (steps_of rest)

  -- the call of an event stands for itself
  pub stands_alone : (e : Event name K width) → stands_for (call_of S e) ≡ call_of S e ∷ []
  stands_alone (arrives p behind) = refl
  stands_alone (damaged s f k vs e) = refl
  stands_alone (elsewhere s f x e o) = refl
  stands_alone (misfits s f x e o) = refl
  stands_alone (opened k w o) = refl
  stands_alone (closed k o) = refl
  stands_alone (again w) = refl
