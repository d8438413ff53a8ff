-- How many octets are taken: none once the reader has decided, and as many as it lacks at a time.
use mathlib.Core.Path.{◌≡◌, refl, ap, sym, ◌∙◌}
use mathlib.Core.Bool.{Bool, true, false}
use mathlib.Core.List.{List, [], ◌∷◌, ◌++◌, append_assoc, append-nil}
use Prim.Native.Nat.{ℕ, zero, suc, ◌+◌, ◌<◌, ◌≤◌}
use native.Mathlib.Omega.{arith}
use native.Mathlib.Nat.{zero-add}
use lib.ListN.{length, take, drop, get_or, length-append}
use lib.Seq.{drop-length, take-suc, drop-cons, length-take-le}
use Rattle.uslp_octets.specs.Octets.{AreOctets}
use Rattle.uslp_octets.proofs.Laws.{are_append, are_take}
use Rattle.uslp_kinds.specs.declared.ManagedParameters.{ManagedParameters}
use Rattle.uslp_reader.specs.Reader.{frame_reading}
use Rattle.uslp_kinds.specs.Answers.{short, lacking}
use Rattle.uslp_reader.proofs.Asks.{lacks_some, lacks_room}
use Rattle.uslp_reader.proofs.Behind.{reading_still}
use Rattle.uslp_intake.specs.Intake.{taking, gathered}

pub by_test : {P : Type 0} (b : Bool) → (b ≡ true → P) → (b ≡ false → P) → P
by_test true p q = p refl
by_test false p q = q refl

module _ (managed : ManagedParameters) where
  abbrev Short : List ℕ → Type 0
  Short s = short (frame_reading s managed) ≡ true

  -- once the reader has decided, none
  pub taking_none : (s t : List ℕ) → short (frame_reading s managed) ≡ false → taking managed s t ≡ 0
  unfolding taking
  taking_none s [] e = refl
  taking_none s (o ∷ t) e = rw e

  -- while it has not, one more
  pub taking_one : (s t : List ℕ) (o : ℕ) → Short s → taking managed s (o ∷ t) ≡ suc (taking managed (s ++ o ∷ []) t)
  unfolding taking
  taking_one s t o e = rw e

  pub taking_nil : (s : List ℕ) → taking managed s [] ≡ 0
  unfolding taking
  taking_nil s = refl

  pub taking_le : (s t : List ℕ) → taking managed s t ≤ length t
  taking_le s [] = rw taking_nil (omega arith)
  taking_le s (o ∷ t) =
      by_test (short (frame_reading s managed))
      (λ e. omega (arith, taking_one s t o e, taking_le (s ++ o ∷ []) t))
      (λ e. omega (arith, taking_none s (o ∷ t) e))

  -- below what it lacks, all
  pub taking_step : (n : ℕ) (s t : List ℕ) → AreOctets s → AreOctets t → n ≤ lacking (frame_reading s managed) → n ≤ length t
      → taking managed s t ≡ n + taking managed (s ++ take n t) (drop n t)
  taking_step zero s t so to h k = rw (append-nil, zero-add)
  taking_step (suc n) s t so to h k =
      let short-yet : Short (s ++ take n t) =
      reading_still s (take n t) managed (are_append s (take n t) so (are_take n t to)) (omega (arith, length-take-le n t (omega arith))) in
      let x : ℕ = get_or t n 0 in
      let one : taking managed (s ++ take n t) (drop n t) ≡ suc (taking managed (s ++ take n t ++ (x ∷ [])) (drop (suc n) t)) =
      ap (taking managed (s ++ take n t)) (drop-cons t n 0 (omega arith)) ∙ taking_one (s ++ take n t) (drop (suc n) t) x short-yet in
      let more : s ++ take n t ++ (x ∷ []) ≡ s ++ take (suc n) t =
      append_assoc s (take n t) (x ∷ []) ∙ ap (λ (l : List ℕ). s ++ l) (sym (take-suc t n 0 (omega arith))) in
      omega (arith, taking_step n s t so to (omega arith) (omega arith), one, ap (λ (l : List ℕ). taking managed l (drop (suc n) t)) more)

  pub taking_all : (s t : List ℕ) → AreOctets s → AreOctets t → length t ≤ lacking (frame_reading s managed) → taking managed s t ≡ length t
  taking_all s t so to h =
      let z : taking managed (s ++ take (length t) t) (drop (length t) t) ≡ 0 =
      ap (taking managed (s ++ take (length t) t)) (drop-length t) ∙ taking_nil (s ++ take (length t) t) in
      omega (arith, taking_step (length t) s t so to h (omega arith), z)

  -- what is held never passes 65,536
  pub taking_room : (s t : List ℕ) → length s ≤ 65536 → length s + taking managed s t ≤ 65536
  taking_room s [] h = rw taking_nil (omega arith)
  taking_room s (o ∷ t) h =
      by_test (short (frame_reading s managed))
      (λ e.
      let l : length s + 1 ≤ 65536 = omega (arith, lacks_some s managed e, lacks_room s managed h) in
      omega (arith, length-append s (o ∷ []), taking_one s t o e, taking_room (s ++ o ∷ []) t (omega (arith, length-append s (o ∷ [])))))
      (λ e. omega (arith, taking_none s (o ∷ t) e))

  -- so it is the least number of octets at which the reader decides, and all of them where it does not
  pub taking_least : (m : ℕ) (s t : List ℕ) → m < taking managed s t → Short (s ++ take m t)
  taking_least zero s t h =
      by_test (short (frame_reading s managed)) (λ e. rw append-nil e) (λ e. absurd (let z = taking_none s t e in omega arith))
  taking_least (suc m) s [] h = absurd (let z = taking_nil s in omega arith)
  taking_least (suc m) s (o ∷ t) h =
      by_test (short (frame_reading s managed))
      (λ e.
      let l : m < taking managed (s ++ o ∷ []) t = omega (arith, taking_one s t o e) in
      ap (λ (l : List ℕ). short (frame_reading l managed)) (sym (append_assoc s (o ∷ []) (take m t))) ∙ taking_least m (s ++ o ∷ []) t l)
      (λ e. absurd (let z = taking_none s (o ∷ t) e in omega arith))

  pub taking_last : (s t : List ℕ) → taking managed s t < length t → short (frame_reading (gathered managed s t) managed) ≡ false
  taking_last s [] h = absurd (omega arith)
  taking_last s (o ∷ t) h =
      by_test (short (frame_reading s managed))
      (λ e.
      let n = taking_one s t o e in
      let l : taking managed (s ++ o ∷ []) t < length t = omega arith in
      ap (λ (k : ℕ). short (frame_reading (s ++ take k (o ∷ t)) managed)) n
      ∙ ap (λ (l : List ℕ). short (frame_reading l managed)) (sym (append_assoc s (o ∷ []) (take (taking managed (s ++ o ∷ []) t) t)))
      ∙ taking_last (s ++ o ∷ []) t l)
      (λ e.
      ap (λ (k : ℕ). short (frame_reading (s ++ take k (o ∷ t)) managed)) (taking_none s (o ∷ t) e)
      ∙ ap (λ (l : List ℕ). short (frame_reading l managed)) (append-nil s)
      ∙ e)
