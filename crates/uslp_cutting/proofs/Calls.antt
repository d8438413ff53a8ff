-- Calls on a buffer that waits: the next wait leaves such a buffer, and a frame is given out at its last octet.
use mathlib.Core.Path.{◌≡◌, ap, ap₂, sym, ◌∙◌, subst}
use mathlib.Core.Bool.{true, false, false≢true}
use mathlib.Core.List.{List, ◌++◌, append_assoc, append-nil}
use Prim.Native.Nat.{ℕ, ◌+◌, ◌-◌, ◌<◌, ◌≤◌}
use native.Mathlib.Omega.{arith}
use native.Mathlib.Decide.{dec_lt}
use lib.ListN.{length, take, drop, length-append, take-append-drop}
use lib.Seq.{length-take-le, take-add, take-append-le}
use Rattle.uslp_octets.specs.Octets.{AreOctets}
use Rattle.uslp_octets.proofs.Laws.{are_append, are_take}
use Rattle.uslp_kinds.specs.Outcome.{done, leaving}
use Rattle.uslp_kinds.specs.Answers.{short}
use Rattle.uslp_kinds.specs.declared.ManagedParameters.{ManagedParameters}
use Rattle.uslp_primary_header.specs.Header.{len_frame}
use Rattle.uslp_reader.specs.Reader.{frame_reading}
use Rattle.uslp_reader.specs.declared.TransferFrame.{TransferFrame}
use Rattle.uslp_reader.proofs.Done.{read_done}
use Rattle.uslp_reader.proofs.Own.{own_octets}
use Rattle.uslp_reader.proofs.Behind.{reading_before}
use Rattle.uslp_intake.specs.Intake.{waiting, frame, taking, gathered, intaking}
use Rattle.uslp_intake.proofs.Taking.{taking_le, taking_least}
use Rattle.uslp_intake.proofs.Calls.{called, of_waiting, of_frame_lem, held_long, stays_within, stays_long, stands, gathered_long, wait_short, frame_read}
use Rattle.uslp_cutting.specs.Offering.{NoFrameYet}

-- an answer other than SHORT_SOURCE behind octets that had none took an octet
pub some_taken : (managed : ManagedParameters) (held block : List ℕ) → short (frame_reading held managed) ≡ true
    → short (frame_reading (gathered managed held block) managed) ≡ false
    → 0 < taking managed held block
some_taken managed held block e f =
    elim (dec_lt 0 (taking managed held block)) [
      | yes h ↦ h
      | no h ↦
          let z : taking managed held block ≡ 0 = omega arith in
          let k : gathered managed held block ≡ held = ap (λ (n : ℕ). held ++ take n block) z ∙ append-nil held in
          absurd (false≢true (sym f ∙ ap (λ (l : List ℕ). short (frame_reading l managed)) k ∙ e))
    ]

module _ (managed : ManagedParameters) (s : List ℕ) (held : ℕ) (block t : List ℕ) where
  -- a wait leaves a buffer that waits
  pub wait_leaves : {n m : ℕ} → AreOctets (take held s) → AreOctets block → intaking managed s held block ≡ leaving (done (waiting n m)) t
      → NoFrameYet managed t m
  wait_leaves {n} {m} so bo e =
      let c = called managed s held block e in
      let u = take held s in
      let w = of_waiting (frame_reading (gathered managed u block) managed) _ _ c.answer in
      let at : gathered managed u block ≡ take m t = sym (stands c) ∙ ap (λ (k : ℕ). take k t) w.2 in
      record {
        room = omega (arith, stays_long c, c.room);
        few = omega (arith, stays_within c, w.2);
        octets = subst AreOctets at (are_append u (take (taking managed u block) block) so (are_take (taking managed u block) block bo));
        undecided = wait_short managed s held block t e;
      }

  -- a frame that a wait comes to is given out at its last octet, and what stands at the front of the buffer is the frame
  pub frame_whole : {n : ℕ} {x : TransferFrame} → NoFrameYet managed s held → AreOctets block → intaking managed s held block ≡ leaving (done (frame n x)) t
      → (held + n ≡ len_frame x.primary_header) × (frame_reading (take (held + n) t) managed ≡ done x)
  frame_whole {n} {x} w bo e =
      let u = take held s in
      let c = called managed s held block e in
      let kept = gathered managed u block in
      let long = len_frame x.primary_header in
      let f = of_frame_lem (frame_reading kept managed) _ _ c.answer in
      let some : 0 < taking managed u block = some_taken managed u block w.undecided (ap short f.0) in
      let m : ℕ = taking managed u block - 1 in
      let before : List ℕ = u ++ take m block in
      let last : List ℕ = take 1 (drop m block) in
      let up : m + 1 ≡ taking managed u block = omega arith in
      let both : before ++ last ≡ kept =
      append_assoc u (take m block) last ∙ ap (λ (l : List ℕ). u ++ l) (sym (take-add m 1 block)) ∙ ap (λ (j : ℕ). u ++ take j block) up in
      let lb : length before ≡ held + m =
      length-append u (take m block) ∙ ap₂ (λ (a b : ℕ). a + b) (held_long c) (length-take-le m block (omega (arith, taking_le managed u block))) in
      let whole : long ≤ length kept = (read_done kept managed x f.0).whole in
      let octets : AreOctets before = are_append u (take m block) w.octets (are_take m block bo) in
      let own : frame_reading (take long kept) managed ≡ done x =
      own_octets kept managed x (are_append u (take (taking managed u block) block) w.octets (are_take (taking managed u block) block bo)) f.0 in
      let early : long < held + taking managed u block → ⊥ =
      λ l.
      let same : take long kept ≡ take long before = ap (take long) (sym both) ∙ take-append-le long before last (omega arith) in
      let yet : short (frame_reading (take long before ++ drop long before) managed) ≡ true =
      ap (λ (v : List ℕ). short (frame_reading v managed)) (take-append-drop long before) ∙ taking_least managed m u block (omega arith) in
      let first : short (frame_reading (take long before) managed) ≡ true =
      reading_before (take long before) (drop long before) managed (subst AreOctets (sym (take-append-drop long before)) octets) yet in
      false≢true (sym (ap short (ap (λ (v : List ℕ). frame_reading v managed) (sym same) ∙ own)) ∙ first) in (
        omega (arith, f.1, early, gathered_long c),
        frame_read managed s held block t e,
      )
