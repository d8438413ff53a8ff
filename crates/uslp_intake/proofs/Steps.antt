-- What a call says, path by path: as many octets as the reader lacks are taken at a time, until it decides or the block ends.
use mathlib.Core.Path.{◌≡◌, ap, ap₂, sym, ◌∙◌}
use mathlib.Core.Bool.{Bool, true, false, cond, false≢true}
use mathlib.Core.List.{List, [], ◌∷◌, ◌++◌, append_assoc, append-nil}
use Prim.Native.Nat.{ℕ, ◌+◌, ◌-◌, ◌<◌, ◌≤◌}
use native.Mathlib.Omega.{arith}
use native.Mathlib.Nat.{zero-add, add_assoc}
use borrow.Author.Tests.{le-ltb, lt-ltb}
use lib.ListN.{length, take, drop, length-drop}
use lib.Seq.{length-take-le, take-add, drop-drop, paste, paste-zero, take-paste, drop-paste, length-paste}
use lib.Dec.{eqb}
use Rattle.uslp_octets.specs.Octets.{AreOctets}
use Rattle.uslp_octets.proofs.Laws.{are_append, are_take, are_drop}
use Rattle.uslp_kinds.specs.Outcome.{Outcome, done, refused, leaving}
use Rattle.uslp_kinds.proofs.Behind.{lacking_none}
use Rattle.uslp_kinds.specs.declared.ManagedParameters.{ManagedParameters}
use Rattle.uslp_reader.specs.Reader.{frame_reading}
use Rattle.uslp_reader.specs.declared.TransferFrame.{TransferFrame}
use Rattle.uslp_kinds.specs.Answers.{short, lacking}
use Rattle.uslp_reader.proofs.Asks.{reached, lacks_some, lacks_room, reached_most, asks_further}
use Rattle.uslp_reader.proofs.Behind.{reading_still}
use Rattle.uslp_intake.specs.Intake.{Intake, waiting, stopped, taking, gathered, deciding, intaking}
use Rattle.uslp_intake.proofs.Taking.{by_test, taking_none, taking_step, taking_all}

module _ (managed : ManagedParameters) (s : List ℕ) (held : ℕ) (block : List ℕ) where
  pub intaking_field : 65536 < held → intaking managed s held block ≡ leaving (refused 10 []) s
  unfolding intaking
  intaking_field h = rw (lt-ltb 65536 held h)

  module _ (few : held ≤ 65536) where
    pub intaking_target : length s < 65536 → intaking managed s held block ≡ leaving (refused 2 (length s ∷ 65536 ∷ [])) s
    unfolding intaking
    intaking_target h = rw (le-ltb 65536 held few, lt-ltb (length s) 65536 h)

  pub intaking_done : 65536 ≤ length s → held ≤ 65536
      → intaking managed s held block
      ≡ leaving
      (done
      (deciding (frame_reading (gathered managed (take held s) block) managed) (taking managed (take held s) block) (held + taking managed (take held s) block)))
      (gathered managed (take held s) block ++ drop (held + taking managed (take held s) block) s)
  unfolding intaking
  intaking_done room few = rw (le-ltb 65536 held few, le-ltb (length s) 65536 room)

  -- the same, by the number that is taken
  intaking_at : 65536 ≤ length s → held ≤ 65536 → (n : ℕ) → taking managed (take held s) block ≡ n
      → leaving (done (deciding (frame_reading (take held s ++ take n block) managed) n (held + n))) (paste s held block n) ≡ intaking managed s held block
  intaking_at room few n e =
      sym
      (intaking_done room few
      ∙ ap (λ (m : ℕ). leaving (done (deciding (frame_reading (take held s ++ take m block) managed) m (held + m))) (paste s held block m)) e)

-- of the octets t of the holding buffer, that were s, so many are taken
pub record Taken (managed : ManagedParameters) (s : List ℕ) (held : ℕ) (block : List ℕ) (taken : ℕ) (t : List ℕ) : Type 0 where
  pub inside : taken ≤ length block
  pub few : held + taken ≤ 65536
  pub copied : t ≡ paste s held block taken
  pub least : taking managed (take held s) block ≡ taken + taking managed (take held s ++ take taken block) (drop taken block)

pub taken_none : (managed : ManagedParameters) (s : List ℕ) (held : ℕ) (block : List ℕ) → held ≤ 65536 → Taken managed s held block 0 s
taken_none managed s held block h =
    record {
      inside = omega arith;
      few = omega arith;
      copied = paste-zero s held block;
      least = sym (zero-add (taking managed (take held s ++ []) block) ∙ ap (λ (l : List ℕ). taking managed l block) (append-nil (take held s)));
    }

-- a part of the block behind a part, and a copy behind a copy
front_more : (u block : List ℕ) (m n : ℕ) → u ++ take m block ++ take n (drop m block) ≡ u ++ take (m + n) block
front_more u block m n = append_assoc u (take m block) (take n (drop m block)) ∙ ap (λ (l : List ℕ). u ++ l) (sym (take-add m n block))

paste_more : (s : List ℕ) (held : ℕ) (block : List ℕ) (m n : ℕ) → held + m ≤ length s → m ≤ length block
    → paste (paste s held block m) (held + m) (drop m block) n ≡ paste s held block (m + n)
paste_more s held block m n h k =
    let p = paste s held block m in
    let tail : drop (held + m + n) p ≡ drop (held + (m + n)) s =
    sym (drop-drop n (held + m) p) ∙ ap (drop n) (drop-paste s held block m (omega arith) k) ∙ drop-drop n (held + m) s
    ∙ ap (λ (j : ℕ). drop j s) (add_assoc held m n) in
    ap₂ (λ (a b : List ℕ). a ++ take n (drop m block) ++ b) (take-paste s held block m (omega arith) k) tail
    ∙ ap (λ (l : List ℕ). l ++ drop (held + (m + n)) s) (front_more (take held s) block m n)

-- SHORT_SOURCE waits
deciding_short : (o : Outcome TransferFrame) (m n : ℕ) → short o ≡ true → deciding o m n ≡ waiting m n
deciding_short (done x) m n e = absurd (false≢true e)
deciding_short (refused k vs) m n e = rw e

module _ {managed : ManagedParameters} {s : List ℕ} {held : ℕ} {block : List ℕ} {taken : ℕ} {t : List ℕ} (room : 65536 ≤ length s) (i : Taken managed s held block taken t) where
  abbrev kept : List ℕ
  kept = take held s ++ take taken block

  kept_octets : AreOctets s → AreOctets block → AreOctets kept
  kept_octets so bo = are_append (take held s) (take taken block) (are_take held s so) (are_take taken block bo)

  pub taken_long : length t ≡ length s
  taken_long = ap length i.copied ∙ length-paste s held block taken (omega (arith, i.few)) i.inside

  pub taken_front : take (held + taken) t ≡ kept
  taken_front = ap (take (held + taken)) i.copied ∙ take-paste s held block taken (omega (arith, i.few)) i.inside

  module _ {o : Outcome TransferFrame} (answer : frame_reading (take (held + taken) t) managed ≡ o) where
    read : frame_reading kept managed ≡ o
    read = ap (λ (l : List ℕ). frame_reading l managed) (sym taken_front) ∙ answer

    front_long : length (take (held + taken) t) ≡ held + taken
    front_long = length-take-le (held + taken) t (omega (arith, taken_long, i.few))

    copied_more : {t' : List ℕ} (n : ℕ) → t' ≡ paste t (held + taken) (drop taken block) n → t' ≡ paste s held block (taken + n)
    copied_more n e =
        e ∙ ap (λ (l : List ℕ). paste l (held + taken) (drop taken block) n) i.copied
        ∙ paste_more s held block taken n (omega (arith, i.few)) i.inside

    -- the reader decides
    pub taken_decided : short o ≡ false → leaving (done (deciding o taken (held + taken))) t ≡ intaking managed s held block
    taken_decided e =
        let none : taking managed kept (drop taken block) ≡ 0 = taking_none managed kept (drop taken block) (ap short read ∙ e) in
        let all : taking managed (take held s) block ≡ taken = omega (arith, i.least) in
        ap₂ (λ (a : Outcome TransferFrame) (l : List ℕ). leaving (done (deciding a taken (held + taken))) l) (sym read) i.copied
        ∙ intaking_at managed s held block room (omega (arith, i.few)) taken all

    -- what it lacks has its room
    pub taken_fits : {n : ℕ} → n ≤ lacking o → held + taken + n ≤ 65536
    taken_fits h =
        omega (arith, i.few, front_long, ap lacking answer, lacks_room (take (held + taken) t) managed (omega (arith, i.few, front_long)))

    pub taken_room : {n : ℕ} → n ≤ lacking o → held + taken + n ≤ length t
    taken_room h = omega (arith, taken_fits h, taken_long)

    -- the block ends before it does
    pub taken_waits : {t' : List ℕ} → AreOctets s → AreOctets block → length block - taken < lacking o
        → t' ≡ paste t (held + taken) (drop taken block) (length block - taken)
        → leaving (done (waiting (taken + (length block - taken)) (held + taken + (length block - taken)))) t' ≡ intaking managed s held block
    taken_waits {t'} so bo h e =
        let n : ℕ = length block - taken in
        let part : length (take n (drop taken block)) ≡ n = length-take-le n (drop taken block) (omega (arith, length-drop taken block)) in
        let all : taking managed (take held s) block ≡ taken + n =
        omega (
          arith,
          i.least,
          length-drop taken block,
          taking_all managed kept (drop taken block) (kept_octets so bo) (are_drop taken block bo) (omega (arith, ap lacking read, length-drop taken block)),
        ) in
        let yet : short (frame_reading (take held s ++ take (taken + n) block) managed) ≡ true =
        ap (λ (l : List ℕ). short (frame_reading l managed)) (sym (front_more (take held s) block taken n))
        ∙ reading_still kept (take n (drop taken block)) managed
        (are_append kept (take n (drop taken block)) (kept_octets so bo) (are_take n (drop taken block) (are_drop taken block bo)))
        (omega (arith, ap lacking read)) in
        ap₂ (λ (m : ℕ) (l : List ℕ). leaving (done (waiting (taken + n) m)) l) (add_assoc held taken n) (copied_more n e)
        ∙ ap (λ (d : Intake). leaving (done d) (paste s held block (taken + n)))
        (sym (deciding_short (frame_reading (take held s ++ take (taken + n) block) managed) _ _ yet))
        ∙ intaking_at managed s held block room (omega (arith, i.few)) (taken + n) all

    -- as many as it lacks, and again
    pub taken_more : {t' : List ℕ} (n : ℕ) → AreOctets s → AreOctets block → n ≤ lacking o → taken + n ≤ length block
        → t' ≡ paste t (held + taken) (drop taken block) n → Taken managed s held block (taken + n) t'
    taken_more {t'} n so bo h l e =
        let step = taking_step managed n kept (drop taken block) (kept_octets so bo) (are_drop taken block bo) (omega (arith, ap lacking read))
        (omega (arith, length-drop taken block)) in
        let same : taking managed (kept ++ take n (drop taken block)) (drop n (drop taken block))
        ≡ taking managed (take held s ++ take (taken + n) block) (drop (taken + n) block) =
        ap₂ (taking managed) (front_more (take held s) block taken n) (drop-drop n taken block) in
        record {
          inside = l;
          few = omega (arith, taken_fits h);
          copied = copied_more n e;
          least = omega (arith, i.least, step, same);
        }

  -- the reader refuses, and lacks nothing
  pub taken_stops : {k : ℕ} {vs : List ℕ} → frame_reading (take (held + taken) t) managed ≡ refused k vs → lacking {A = TransferFrame} (refused k vs) ≡ 0
      → leaving (done (stopped taken (held + taken) k vs)) t ≡ intaking managed s held block
  taken_stops {k} {vs} answer z =
      by_test (eqb k 1)
      (λ e. absurd (let l = lacks_some (take (held + taken) t) managed (ap short answer ∙ e) in omega (arith, ap lacking answer)))
      (λ e. ap (λ (b : Bool). leaving (done (cond b (waiting taken (held + taken)) (stopped taken (held + taken) k vs))) t) (sym e) ∙ taken_decided answer e)

-- with all that it lacks one length more is reached, of five: so a call reads at most six times
pub taken_fewer : {managed : ManagedParameters} {s : List ℕ} {held : ℕ} {block : List ℕ} {taken : ℕ} {t t' : List ℕ} {o : Outcome TransferFrame} (n : ℕ)
    → 65536 ≤ length s → Taken managed s held block taken t → Taken managed s held block (taken + n) t'
    → frame_reading (take (held + taken) t) managed ≡ o → n ≡ lacking o → (n ≡ 0 → ⊥)
    → 5 - reached (take (held + (taken + n)) t') < 5 - reached (take (held + taken) t)
taken_fewer {managed} {s} {held} {block} {taken} {t} {t'} {o} n room i more answer p some =
    let u = take held s ++ take taken block in
    let q = take n (drop taken block) in
    let read : frame_reading u managed ≡ o = ap (λ (l : List ℕ). frame_reading l managed) (sym (taken_front room i)) ∙ answer in
    let yes : short (frame_reading u managed) ≡ true =
    ap short read ∙ by_test (short o) (λ e. e) (λ e. absurd (some (p ∙ lacking_none o e))) in
    let long : length q ≡ n = length-take-le n (drop taken block) (omega (arith, more.inside, length-drop taken block)) in
    let more-reached = asks_further u q managed yes (long ∙ p ∙ sym (ap lacking read)) in
    let before = ap reached (taken_front room i) in
    let after : reached (take (held + (taken + n)) t') ≡ reached (u ++ q) =
    ap reached (taken_front room more ∙ sym (front_more (take held s) block taken n)) in
    omega (arith, reached_most (u ++ q))
