-- What a call's answer says of the octets held, before and after it.
use mathlib.Core.Path.{◌≡◌, refl, ap, ap₂, sym, ◌∙◌}
use mathlib.Core.Bool.{Bool, true, false, cond, false≢true}
use mathlib.Core.List.{List, ◌++◌}
use Prim.Native.Nat.{ℕ, ◌+◌, ◌<◌, ◌≤◌}
use native.Mathlib.Omega.{arith}
use native.Mathlib.Decide.{dec_lt}
use native.Mathlib.Nat.{add-zero}
use lib.ListN.{length, take, drop, length-append}
use lib.Seq.{paste, paste-zero, take-paste, length-paste, length-take-le}
use lib.Dec.{eqb}
use Rattle.uslp_kinds.specs.Outcome.{Outcome, done, refused, leaving}
use Rattle.uslp_kinds.specs.Answers.{short}
use Rattle.uslp_kinds.proofs.Outcomes.{not_done, done_one}
use Rattle.uslp_kinds.proofs.Back.{leaving_one}
use Rattle.uslp_kinds.specs.declared.ManagedParameters.{ManagedParameters}
use Rattle.uslp_reader.specs.Reader.{frame_reading}
use Rattle.uslp_reader.specs.declared.TransferFrame.{TransferFrame}
use Rattle.uslp_intake.specs.Intake.{Intake, waiting, frame, stopped, taken_by, taking, gathered, deciding, intaking}
use Rattle.uslp_intake.proofs.Taking.{by_test, taking_none, taking_le, taking_room, taking_least, taking_last}
use Rattle.uslp_intake.proofs.Steps.{intaking_field, intaking_target, intaking_done, taken_none, taken_decided}

-- a call that is not refused: so many octets are taken, and nothing else is written
pub record Called (managed : ManagedParameters) (s : List ℕ) (held : ℕ) (block : List ℕ) (i : Intake) (t : List ℕ) : Type 0 where
  pub room : 65536 ≤ length s
  pub few : held ≤ 65536
  pub answer : deciding (frame_reading (gathered managed (take held s) block) managed) (taking managed (take held s) block) (held + taking managed (take held s) block) ≡ i
  pub writes : t ≡ paste s held block (taking managed (take held s) block)

module _ (managed : ManagedParameters) (s : List ℕ) (held : ℕ) (block : List ℕ) where
  -- by the call's own two checks
  by_checks : {P : Type 0} → (65536 < held → P) → (held ≤ 65536 → length s < 65536 → P) → (65536 ≤ length s → held ≤ 65536 → P) → P
  by_checks f g h =
      elim (dec_lt 65536 held) [
        | yes a ↦ f a
        | no a ↦ elim (dec_lt (length s) 65536) [ yes b ↦ g (omega arith) b | no b ↦ h (omega arith) (omega arith) ]
      ]

  pub called : {i : Intake} {t : List ℕ} → intaking managed s held block ≡ leaving (done i) t → Called managed s held block i t
  called {i} {t} e =
      by_checks
      (λ a. absurd (not_done (leaving_one (sym (intaking_field managed s held block a) ∙ e)).0))
      (λ a b. absurd (not_done (leaving_one (sym (intaking_target managed s held block a b) ∙ e)).0))
      (λ room few.
      let d = leaving_one (sym (intaking_done managed s held block room few) ∙ e) in
      record { room = room; few = few; answer = done_one d.0; writes = sym d.1 })

  -- a refusal of the call takes and writes nothing, and is 10 or 2
  pub refused_keeps : {k : ℕ} {vs t : List ℕ} → intaking managed s held block ≡ leaving (refused k vs) t → t ≡ s
  refused_keeps {k} {vs} {t} e =
      by_checks
      (λ a. sym (leaving_one (sym (intaking_field managed s held block a) ∙ e)).1)
      (λ a b. sym (leaving_one (sym (intaking_target managed s held block a b) ∙ e)).1)
      (λ room few. absurd (not_done (sym (leaving_one (sym (intaking_done managed s held block room few) ∙ e)).0)))

  pub not_refused : 65536 ≤ length s → held ≤ 65536 → {k : ℕ} {vs t : List ℕ} → intaking managed s held block ≡ leaving (refused k vs) t → ⊥
  not_refused room few e = not_done (sym (leaving_one (sym (intaking_done managed s held block room few) ∙ e)).0)

-- which of the reader's answers led to the intake's
pub of_waiting : (o : Outcome TransferFrame) (a b : ℕ) {n m : ℕ} → deciding o a b ≡ waiting n m → (short o ≡ true) × (a ≡ n) × (b ≡ m)
of_waiting (done x) a b e = let z : ◌≡◌ {A = ℕ} 0 1 = cc in absurd (omega arith)
of_waiting (refused k vs) a b {n} {m} e =
    by_test (eqb k 1)
    (λ y. let f : waiting a b ≡ waiting n m = rw y at e in (y, cc, cc))
    (λ y. let f : stopped a b k vs ≡ waiting n m = rw y at e in let z : ◌≡◌ {A = ℕ} 0 1 = cc in absurd (omega arith))

pub of_frame_lem : (o : Outcome TransferFrame) (a b : ℕ) {n : ℕ} {x : TransferFrame} → deciding o a b ≡ frame n x → (o ≡ done x) × (a ≡ n)
of_frame_lem (done y) a b e = (cc, cc)
of_frame_lem (refused k vs) a b {n} {x} e =
    by_test (eqb k 1)
    (λ y. let f : waiting a b ≡ frame n x = rw y at e in let z : ◌≡◌ {A = ℕ} 0 1 = cc in absurd (omega arith))
    (λ y. let f : stopped a b k vs ≡ frame n x = rw y at e in let z : ◌≡◌ {A = ℕ} 0 1 = cc in absurd (omega arith))

pub of_stopped : (o : Outcome TransferFrame) (a b : ℕ) {n m k : ℕ} {vs : List ℕ} → deciding o a b ≡ stopped n m k vs
    → (o ≡ refused k vs) × (short o ≡ false) × (a ≡ n) × (b ≡ m)
of_stopped (done x) a b e = let z : ◌≡◌ {A = ℕ} 0 1 = cc in absurd (omega arith)
of_stopped (refused j ws) a b {n} {m} {k} {vs} e =
    by_test (eqb j 1)
    (λ y. let f : waiting a b ≡ stopped n m k vs = rw y at e in let z : ◌≡◌ {A = ℕ} 0 1 = cc in absurd (omega arith))
    (λ y. let f : stopped a b j ws ≡ stopped n m k vs = rw y at e in (cc, y, cc, cc))

-- what a call holds then stands at the front of the buffer
module _ {managed : ManagedParameters} {s : List ℕ} {held : ℕ} {block : List ℕ} {i : Intake} {t : List ℕ} (c : Called managed s held block i t) where
  abbrev count : ℕ
  count = taking managed (take held s) block

  pub held_long : length (take held s) ≡ held
  held_long = length-take-le held s (omega (arith, c.room, c.few))

  pub stays_within : held + count ≤ 65536
  stays_within = omega (arith, taking_room managed (take held s) block (omega (arith, held_long, c.few)), held_long)

  pub stays_long : length t ≡ length s
  stays_long = ap length c.writes ∙ length-paste s held block count (omega (arith, stays_within, c.room)) (taking_le managed (take held s) block)

  pub stands : take (held + count) t ≡ gathered managed (take held s) block
  stands = ap (take (held + count)) c.writes ∙ take-paste s held block count (omega (arith, c.room, c.few)) (taking_le managed (take held s) block)

  -- and has as many octets as it says
  pub gathered_long : length (gathered managed (take held s) block) ≡ held + count
  gathered_long =
      length-append (take held s) (take count block)
      ∙ ap₂ (λ (a b : ℕ). a + b) held_long (length-take-le count block (taking_le managed (take held s) block))

-- how many octets a call takes is told by each answer
taken_deciding : (o : Outcome TransferFrame) (n m : ℕ) → taken_by (done (deciding o n m)) ≡ n
taken_deciding (done x) n m = refl
taken_deciding (refused k vs) n m = by_test (eqb k 1) (λ y. rw y) (λ y. rw y)

pub called_takes : {managed : ManagedParameters} {s : List ℕ} {held : ℕ} {block : List ℕ} {i : Intake} {t : List ℕ} → Called managed s held block i t
    → taken_by (done i) ≡ taking managed (take held s) block
called_takes {managed} {s} {held} {block} c =
    ap (λ (j : Intake). taken_by (done j)) (sym c.answer) ∙ taken_deciding (frame_reading (gathered managed (take held s) block) managed) _ _

-- octets held that decide already, as after a stop or with a held number that no call made: none is taken and nothing is written,
-- and the answer is what the reader says of them
pub held_decides : (managed : ManagedParameters) (s : List ℕ) (held : ℕ) (block : List ℕ) → 65536 ≤ length s → held ≤ 65536
    → {o : Outcome TransferFrame} → frame_reading (take held s) managed ≡ o → short o ≡ false
    → intaking managed s held block ≡ leaving (done (deciding o 0 held)) s
held_decides managed s held block room few {o} e other =
    sym
    (ap (λ (n : ℕ). leaving (done (deciding o 0 n)) s) (sym (add-zero held))
    ∙ taken_decided room (taken_none managed s held block few) (ap (λ (n : ℕ). frame_reading (take n s) managed) (add-zero held) ∙ e) other)

module _ (managed : ManagedParameters) (s : List ℕ) (held : ℕ) (block t : List ℕ) where
  -- what was held, then what was taken, then the buffer as it was: nothing else is written
  pub writes_taken : {i : Intake} → intaking managed s held block ≡ leaving (done i) t
      → t ≡ take held s ++ take (taken_by (done i)) block ++ drop (held + taken_by (done i)) s
  writes_taken e =
      let c = called managed s held block e in c.writes ∙ ap (paste s held block) (sym (called_takes c))

  -- no octet is taken beyond one that decides, and no more than there are
  pub takes_least : (o : Outcome Intake) → intaking managed s held block ≡ leaving o t → (m : ℕ)
      → short (frame_reading (take held s ++ take m block) managed) ≡ false
      → taken_by o ≤ m
  takes_least (refused k vs) e m h = omega arith
  takes_least (done i) e m h =
      elim (dec_lt m (taken_by (done i))) [
        | yes l ↦ absurd (false≢true (sym h ∙ taking_least managed m (take held s) block (omega (arith, called_takes (called managed s held block e)))))
        | no l ↦ omega arith
      ]

  pub takes_most : (o : Outcome Intake) → intaking managed s held block ≡ leaving o t → taken_by o ≤ length block
  takes_most (refused k vs) e = omega arith
  takes_most (done i) e = omega (arith, called_takes (called managed s held block e), taking_le managed (take held s) block)

  -- none after a stop
  pub takes_none : (o : Outcome Intake) → intaking managed s held block ≡ leaving o t → short (frame_reading (take held s) managed) ≡ false
      → (taken_by o ≡ 0) × (t ≡ s)
  takes_none (refused k vs) e h = (refl, refused_keeps managed s held block e)
  takes_none (done i) e h =
      let c = called managed s held block e in
      let none = called_takes c ∙ taking_none managed (take held s) block h in
      (none, c.writes ∙ ap (paste s held block) (taking_none managed (take held s) block h) ∙ sym (paste-zero s held block))

  -- a wait and a stop hold what was held and what was taken
  pub wait_holds : {n m : ℕ} → intaking managed s held block ≡ leaving (done (waiting n m)) t → m ≡ held + n
  wait_holds e =
      let w = of_waiting (frame_reading (gathered managed (take held s) block) managed) _ _ (called managed s held block e).answer in omega (arith, w.1, w.2)

  pub stop_holds : {n m k : ℕ} {vs : List ℕ} → intaking managed s held block ≡ leaving (done (stopped n m k vs)) t → m ≡ held + n
  stop_holds e =
      let w = of_stopped (frame_reading (gathered managed (take held s) block) managed) _ _ (called managed s held block e).answer in omega (arith, w.2, w.3)

  -- what a wait holds is too short
  pub wait_short : {n m : ℕ} → intaking managed s held block ≡ leaving (done (waiting n m)) t → short (frame_reading (take m t) managed) ≡ true
  wait_short {n} {m} e =
      let c = called managed s held block e in
      let w = of_waiting (frame_reading (gathered managed (take held s) block) managed) _ _ c.answer in
      ap (λ (k : ℕ). short (frame_reading (take k t) managed)) (sym w.2) ∙ ap (λ (l : List ℕ). short (frame_reading l managed)) (stands c) ∙ w.0

  -- a wait has taken all of the block
  pub wait_takes : {n m : ℕ} → intaking managed s held block ≡ leaving (done (waiting n m)) t → n ≡ length block
  wait_takes {n} {m} e =
      let c = called managed s held block e in
      let w = of_waiting (frame_reading (gathered managed (take held s) block) managed) _ _ c.answer in
      elim (dec_lt (taking managed (take held s) block) (length block)) [
        | yes h ↦ absurd (false≢true (sym (taking_last managed (take held s) block h) ∙ w.0))
        | no h ↦ omega (arith, taking_le managed (take held s) block, w.1)
      ]

  -- the reader says of what then stands at the front what the call answers
  pub stop_read : {n m k : ℕ} {vs : List ℕ} → intaking managed s held block ≡ leaving (done (stopped n m k vs)) t
      → frame_reading (take m t) managed ≡ refused k vs
  stop_read e =
      let c = called managed s held block e in
      let w = of_stopped (frame_reading (gathered managed (take held s) block) managed) _ _ c.answer in
      ap (λ (j : ℕ). frame_reading (take j t) managed) (sym w.3) ∙ ap (λ (l : List ℕ). frame_reading l managed) (stands c) ∙ w.0

  pub frame_read : {n : ℕ} {x : TransferFrame} → intaking managed s held block ≡ leaving (done (frame n x)) t
      → frame_reading (take (held + n) t) managed ≡ done x
  frame_read e =
      let c = called managed s held block e in
      let f = of_frame_lem (frame_reading (gathered managed (take held s) block) managed) _ _ c.answer in
      ap (λ (j : ℕ). frame_reading (take (held + j) t) managed) (sym f.1) ∙ ap (λ (l : List ℕ). frame_reading l managed) (stands c) ∙ f.0

  -- after a stop every call takes nothing, writes nothing and stops the same
  pub stop_stops : {n m k : ℕ} {vs : List ℕ} → intaking managed s held block ≡ leaving (done (stopped n m k vs)) t
      → (next : List ℕ) → intaking managed t m next ≡ leaving (done (stopped 0 m k vs)) t
  stop_stops {n} {m} {k} {vs} e next =
      let c = called managed s held block e in
      let w = of_stopped (frame_reading (gathered managed (take held s) block) managed) _ _ c.answer in
      let other : eqb k 1 ≡ false = sym (ap short w.0) ∙ w.1 in
      held_decides managed t m next (omega (arith, stays_long c, c.room)) (omega (arith, stays_within c, w.3)) (stop_read e) other
      ∙ ap (λ (b : Bool). leaving (done (cond b (waiting 0 m) (stopped 0 m k vs))) t) other
