-- However the octets are cut, blocks of nothing among them, the calls come to the passage of all of them in one piece, and to no other.
use mathlib.Core.Path.{◌≡◌, refl, ap, ap₂, sym, ◌∙◌, subst}
use mathlib.Core.Bool.{Bool, true, false, cond}
use mathlib.Core.Logic.{◌↔◌}
use mathlib.Core.List.{List, [], ◌∷◌, ◌++◌, append_assoc, append-nil}
use Prim.Native.Nat.{ℕ, zero, suc, ◌+◌, ◌≤◌}
use native.Mathlib.Omega.{arith}
use native.Mathlib.Nat.{zero-add, add_assoc}
use lib.Dec.{eqb, lit<}
use lib.ListN.{length, take, drop, length-append, length-drop, take-append-drop}
use lib.Seq.{length-take-le, take-length}
use Rattle.uslp_octets.specs.Octets.{AreOctets}
use Rattle.uslp_octets.proofs.Laws.{are_append, are_front, are_behind, are_drop}
use Rattle.uslp_kinds.specs.Outcome.{Outcome, done, refused, leaving}
use Rattle.uslp_kinds.specs.Answers.{short}
use Rattle.uslp_kinds.specs.declared.ManagedParameters.{ManagedParameters}
use Rattle.uslp_primary_header.specs.Header.{header_reading}
use Rattle.uslp_reader.specs.Reader.{frame_reading}
use Rattle.uslp_reader.specs.declared.TransferFrame.{TransferFrame}
use Rattle.uslp_reader.proofs.Behind.{reading_stays}
use Rattle.uslp_intake.specs.Intake.{waiting, stopped, taking, gathered, deciding}
use Rattle.uslp_intake.proofs.Taking.{taking_le}
use Rattle.uslp_intake.proofs.Steps.{intaking_done}
use Rattle.uslp_cutting.specs.Offering.{Passage, after, behind, Call, Promised, Offered, one_block, NoFrameYet, passage}
use Rattle.uslp_cutting.specs.Offering.Offered.{no_more, waits_on, gives_out, stops_at, is_refused}
use Rattle.uslp_intake.proofs.Calls.{called, not_refused, of_waiting, of_frame_lem, of_stopped, stays_long, stands, gathered_long, wait_takes}
use Rattle.uslp_cutting.proofs.Calls.{some_taken, wait_leaves, frame_whole}
use Rattle.uslp_cutting.proofs.Passages.{passage_eq, taking_all_short, taking_past, passage_waits, passage_stops, passage_frame}

after_after : (m n : ℕ) (p : Passage) → after m (after n p) ≡ after (m + n) p
after_after m n p = passage_eq refl (sym (add_assoc m n p.place)) refl refl

after_none : (p : Passage) → after 0 p ≡ p
after_none p = passage_eq refl (zero-add p.place) refl refl

-- no octet decides nothing
none_yet : (managed : ManagedParameters) → short (frame_reading [] managed) ≡ true
unfolding frame_reading header_reading
none_yet managed = refl

pub nothing_held : (managed : ManagedParameters) (s : List ℕ) → 65536 ≤ length s → NoFrameYet managed s 0
nothing_held managed s h = record { room = h; few = omega arith; octets = λ i. lit< tt; undecided = none_yet managed }

-- a block behind octets held, cut at a place
front_rest : (u block rest : List ℕ) (n : ℕ) → u ++ take n block ++ (drop n block ++ rest) ≡ u ++ (block ++ rest)
front_rest u block rest n =
    append_assoc u (take n block) (drop n block ++ rest)
    ∙ ap (λ (l : List ℕ). u ++ l) (sym (append_assoc (take n block) (drop n block) rest) ∙ ap (λ (l : List ℕ). l ++ rest) (take-append-drop n block))

-- a passage of blocks
record Some (call : Call) (managed : ManagedParameters) (s : List ℕ) (held : ℕ) (blocks : List (List ℕ)) : Type 0 where
  pub comes_to : Passage
  pub offers : Offered call managed s held blocks comes_to

module _ (call : Call) (promised : Promised call) (managed : ManagedParameters) where
  -- what the calls come to is the passage of the octets held and offered
  comes : {s : List ℕ} {held : ℕ} {blocks : List (List ℕ)} {p : Passage} → Offered call managed s held blocks p → NoFrameYet managed s held
      → AreOctets (one_block blocks)
      → after held p ≡ passage managed (take held s ++ one_block blocks)
  comes {s} {held} no_more w oct =
      let u = take held s in
      let long : length u ≡ held = length-take-le held s (omega (arith, w.room, w.few)) in
      passage_eq refl (omega arith) refl refl
      ∙ sym (ap (passage managed) (append-nil u) ∙ passage_waits managed u w.octets w.undecided)
  comes {s} {held} (waits_on {t = t} {block = block} {n = n} {m = m} {blocks = blocks} {p = p} e rest) w oct =
      let u = take held s in
      let e' = sym (promised managed s held block) ∙ e in
      let c = called managed s held block e' in
      let a = of_waiting (frame_reading (gathered managed u block) managed) _ _ c.answer in
      let bo = are_front block (one_block blocks) oct in
      let all : taking managed u block ≡ length block = a.1 ∙ wait_takes managed s held block t e' in
      let at : take m t ≡ u ++ block =
      ap (λ (j : ℕ). take j t) (sym a.2) ∙ stands c ∙ ap (λ (j : ℕ). u ++ take j block) all ∙ ap (λ (l : List ℕ). u ++ l) (take-length block) in
      after_after held n p
      ∙ ap (λ (j : ℕ). after j p) (ap (λ (j : ℕ). held + j) (sym a.1) ∙ a.2)
      ∙ comes rest (wait_leaves managed s held block t w.octets bo e') (are_behind block (one_block blocks) oct)
      ∙ ap (λ (l : List ℕ). passage managed (l ++ one_block blocks)) at
      ∙ ap (passage managed) (append_assoc u block (one_block blocks))
  comes {s} {held} (gives_out {t = t} {block = block} {n = n} {x = x} {blocks = blocks} {p = p} e rest) w oct =
      let u = take held s in
      let e' = sym (promised managed s held block) ∙ e in
      let c = called managed s held block e' in
      let a = of_frame_lem (frame_reading (gathered managed u block) managed) _ _ c.answer in
      let bo = are_front block (one_block blocks) oct in
      let f = frame_whole managed s held block t w bo e' in
      let kept = take (held + n) t in
      let r = drop n block ++ one_block blocks in
      let at : kept ≡ u ++ take n block = ap (λ (j : ℕ). take (held + j) t) (sym a.1) ∙ stands c ∙ ap (λ (j : ℕ). u ++ take j block) a.1 in
      let whole : kept ++ r ≡ u ++ (block ++ one_block blocks) = ap (λ (l : List ℕ). l ++ r) at ∙ front_rest u block (one_block blocks) n in
      let long : length kept ≡ held + n =
      ap length at ∙ ap (λ (j : ℕ). length (u ++ take j block)) (sym a.1) ∙ gathered_long c ∙ ap (λ (j : ℕ). held + j) a.1 in
      let octets : AreOctets (kept ++ r) = subst AreOctets (sym whole) (are_append u (block ++ one_block blocks) w.octets oct) in
      let reads : frame_reading (kept ++ r) managed ≡ done x = reading_stays kept r managed octets (ap short f.1) ∙ f.1 in
      let next : p ≡ passage managed r =
      sym (after_none p) ∙ comes rest (nothing_held managed t (omega (arith, stays_long c, c.room))) (are_behind kept r octets) in
      after_after held n (behind (x, kept) p)
      ∙ ap₂ (λ (j : ℕ) (q : Passage). after j (behind (x, kept) q)) (sym long) next
      ∙ sym (passage_frame managed kept r x reads (long ∙ f.0))
      ∙ ap (passage managed) whole
  comes {s} {held} (stops_at {t = t} {block = block} {n = n} {m = m} {k = k} {vs = vs} {blocks = blocks} e) w oct =
      let u = take held s in
      let e' = sym (promised managed s held block) ∙ e in
      let c = called managed s held block e' in
      let a = of_stopped (frame_reading (gathered managed u block) managed) _ _ c.answer in
      let kept = take m t in
      let r = drop n block ++ one_block blocks in
      let at : kept ≡ u ++ take n block = ap (λ (j : ℕ). take j t) (sym a.3) ∙ stands c ∙ ap (λ (j : ℕ). u ++ take j block) a.2 in
      let is : kept ≡ gathered managed u block = at ∙ ap (λ (j : ℕ). u ++ take j block) (sym a.2) in
      let whole : kept ++ r ≡ u ++ (block ++ one_block blocks) = ap (λ (l : List ℕ). l ++ r) at ∙ front_rest u block (one_block blocks) n in
      let long : length kept ≡ held + n = ap length is ∙ gathered_long c ∙ ap (λ (j : ℕ). held + j) a.2 in
      let lu : length u ≡ held = length-take-le held s (omega (arith, w.room, w.few)) in
      let octets : AreOctets (kept ++ r) = subst AreOctets (sym whole) (are_append u (block ++ one_block blocks) w.octets oct) in
      let read : frame_reading kept managed ≡ refused k vs = ap (λ (l : List ℕ). frame_reading l managed) is ∙ a.0 in
      let other : eqb k 1 ≡ false = sym (ap short a.0) ∙ a.1 in
      let stays : frame_reading (kept ++ r) managed ≡ refused k vs = reading_stays kept r managed octets (ap short read ∙ other) ∙ read in
      let all : taking managed [] (kept ++ r) ≡ length kept =
      ap (taking managed []) whole
      ∙ taking_all_short managed u (block ++ one_block blocks) w.octets w.undecided
      ∙ omega (arith, lu, long, taking_past managed u block (one_block blocks) a.1, a.2) in
      passage_eq refl (sym long) refl refl
      ∙ sym (passage_stops managed kept r stays other all)
      ∙ ap (passage managed) whole
  comes {s} {held} (is_refused {block = block} e) w oct = absurd (not_refused managed s held block w.room w.few (sym (promised managed s held block) ∙ e))

  -- the calls come to an end: a call is the last, or leads to where they do
  abbrev Ends : ℕ → Type 0
  Ends most =
      (s : List ℕ) (held : ℕ) (blocks : List (List ℕ)) → NoFrameYet managed s held → AreOctets (one_block blocks) → length (one_block blocks) + length blocks ≤ most
      → Some call managed s held blocks

  step : (most : ℕ) → Ends most → Ends (suc most)
  step most ih s held [] w oct h = record { comes_to = _; offers = no_more }
  step most ih s held (block ∷ blocks) w oct h = go (frame_reading kept managed) refl
    where
      u : List ℕ
      u = take held s

      n : ℕ
      n = taking managed u block

      kept : List ℕ
      kept = gathered managed u block

      t : List ℕ
      t = kept ++ drop (held + n) s

      bo : AreOctets block
      bo = are_front block (one_block blocks) oct

      ro : AreOctets (one_block blocks)
      ro = are_behind block (one_block blocks) oct

      answers : (o : Outcome TransferFrame) → frame_reading kept managed ≡ o → call managed s held block ≡ leaving (done (deciding o n (held + n))) t
      answers o r =
          promised managed s held block ∙ intaking_done managed s held block w.room w.few
          ∙ ap (λ (a : Outcome TransferFrame). leaving (done (deciding a n (held + n))) t) r

      go : (o : Outcome TransferFrame) → frame_reading kept managed ≡ o → Some call managed s held (block ∷ blocks)
      go (done x) r =
          let e = answers (done x) r in
          let c = called managed s held block (sym (promised managed s held block) ∙ e) in
          let q = ih t 0 (drop n block ∷ blocks) (nothing_held managed t (omega (arith, stays_long c, c.room)))
          (are_append (drop n block) (one_block blocks) (are_drop n block bo) ro)
          (omega (
            arith,
            some_taken managed u block w.undecided (ap short r),
            taking_le managed u block,
            length-append (drop n block) (one_block blocks),
            length-append block (one_block blocks),
            length-drop n block,
          )) in
          record { comes_to = _; offers = gives_out e q.offers }
      go (refused k vs) r = by (eqb k 1) refl
        where
          by : (b : Bool) → eqb k 1 ≡ b → Some call managed s held (block ∷ blocks)
          by true a =
              let e = answers (refused k vs) r ∙ ap (λ (b : Bool). leaving (done (cond b (waiting n (held + n)) (stopped n (held + n) k vs))) t) a in
              let q = ih t (held + n) blocks (wait_leaves managed s held block t w.octets bo (sym (promised managed s held block) ∙ e)) ro
              (omega (arith, length-append block (one_block blocks))) in
              record { comes_to = _; offers = waits_on e q.offers }
          by false a =
              let e = answers (refused k vs) r ∙ ap (λ (b : Bool). leaving (done (cond b (waiting n (held + n)) (stopped n (held + n) k vs))) t) a in
              record { comes_to = _; offers = stops_at e }

  leads : (most : ℕ) → Ends most
  leads zero s held [] w oct h = record { comes_to = _; offers = no_more }
  leads zero s held (block ∷ blocks) w oct h = absurd (omega arith)
  leads (suc most) s held blocks w oct h = step most (leads most) s held blocks w oct h

  module _ (s : List ℕ) (held : ℕ) (w : NoFrameYet managed s held) where
    -- the frames, the stopping place, its refusal and the octets still held are those of the octets held and offered, in one piece
    pub in_one_piece : (blocks : List (List ℕ)) (p : Passage) → AreOctets (one_block blocks)
        → Offered call managed s held blocks p ↔ (after held p ≡ passage managed (take held s ++ one_block blocks))
    in_one_piece blocks p oct = (
      λ o. comes o w oct,
      λ e.
          let q = leads (length (one_block blocks) + length blocks) s held blocks w oct (omega arith) in
          let same : after held q.comes_to ≡ after held p = comes q.offers w oct ∙ sym e in
          let eq : q.comes_to ≡ p =
          passage_eq (ap (λ (a : Passage). a.frames) same) (omega (arith, ap (λ (a : Passage). a.place) same)) (ap (λ (a : Passage). a.ending) same)
          (ap (λ (a : Passage). a.held) same) in
          subst (Offered call managed s held blocks) eq q.offers,
    )

    -- so they are those of the one block made of all
    pub cutting : (blocks : List (List ℕ)) (p : Passage) → AreOctets (one_block blocks)
        → Offered call managed s held blocks p ↔ Offered call managed s held (one_block blocks ∷ []) p
    cutting blocks p oct =
        let j : one_block (one_block blocks ∷ []) ≡ one_block blocks = append-nil (one_block blocks) in
        let one = in_one_piece (one_block blocks ∷ []) p (subst AreOctets (sym j) oct) in
        let all = in_one_piece blocks p oct in
        let same : passage managed (take held s ++ one_block (one_block blocks ∷ [])) ≡ passage managed (take held s ++ one_block blocks) =
        ap (λ (l : List ℕ). passage managed (take held s ++ l)) j in
        (λ o. one.1 (all.0 o ∙ sym same), λ o. all.1 (one.0 o ∙ same))

  -- from nothing held
  pub from_nothing : (s : List ℕ) → 65536 ≤ length s → (blocks : List (List ℕ)) (p : Passage) → AreOctets (one_block blocks)
      → Offered call managed s 0 blocks p ↔ (p ≡ passage managed (one_block blocks))
  from_nothing s room blocks p oct =
      let i = in_one_piece s 0 (nothing_held managed s room) blocks p oct in
      (λ o. sym (after_none p) ∙ i.0 o, λ e. i.1 (after_none p ∙ e))
