-- The passage of octets in one piece: octets that wait, that stop, and a frame before others.
use mathlib.Core.Path.{◌≡◌, refl, ap, ap₂, sym, ◌∙◌, subst}
use mathlib.Core.Bool.{Bool, true, false, cond, false≢true}
use mathlib.Core.List.{List, [], ◌∷◌, ◌++◌, append_assoc, append-nil}
use Prim.Native.Nat.{ℕ, suc, ◌+◌, ◌-◌}
use native.Mathlib.Omega.{arith}
use native.Mathlib.Nat.{zero-add, add-zero}
use lib.Dec.{eqb}
use lib.ListN.{length, take, drop, length-append}
use lib.Seq.{take_at, drop_at, take-length}
use Rattle.uslp_octets.specs.Octets.{AreOctets}
use Rattle.uslp_kinds.specs.Outcome.{Outcome, done, refused}
use Rattle.uslp_kinds.specs.Answers.{short}
use Rattle.uslp_kinds.specs.declared.ManagedParameters.{ManagedParameters}
use Rattle.uslp_primary_header.specs.Header.{len_frame}
use Rattle.uslp_reader.specs.Reader.{frame_reading}
use Rattle.uslp_reader.specs.EndToEnd.{Cut, cut}
use Rattle.uslp_reader.specs.declared.TransferFrame.{TransferFrame}
use Rattle.uslp_reader.proofs.EndToEnd.{cut_refused, cut_more, rest_short}
use Rattle.uslp_reader.proofs.Behind.{reading_before}
use Rattle.uslp_intake.specs.Intake.{taking, gathered}
use Rattle.uslp_intake.proofs.Taking.{by_test, taking_none, taking_one, taking_nil}
use Rattle.uslp_cutting.specs.Offering.{blocks_end, stops, Passage, ended, after, behind, ending_of, passage}

pub passage_eq : {p q : Passage} → p.frames ≡ q.frames → p.place ≡ q.place → p.ending ≡ q.ending → p.held ≡ q.held → p ≡ q
passage_eq a b c d = λ i. record { frames = a i; place = b i; ending = c i; held = d i }

module _ (managed : ManagedParameters) where
  -- octets that are too short are all taken before others
  taking_through : (v w b : List ℕ) → AreOctets (v ++ w) → short (frame_reading (v ++ w) managed) ≡ true
      → taking managed v (w ++ b) ≡ length w + taking managed (v ++ w) b
  taking_through v [] b oct e = ap (λ (l : List ℕ). taking managed l b) (sym (append-nil v)) ∙ sym (zero-add (taking managed (v ++ []) b))
  taking_through v (o ∷ w) b oct e =
      let same : v ++ o ∷ [] ++ w ≡ v ++ (o ∷ w) = append_assoc v (o ∷ []) w in
      let rest = taking_through (v ++ o ∷ []) w b (subst AreOctets (sym same) oct) (ap (λ (l : List ℕ). short (frame_reading l managed)) same ∙ e) in
      omega (arith, taking_one managed v (w ++ b) o (reading_before v (o ∷ w) managed oct e), rest, ap (λ (l : List ℕ). taking managed l b) same)

  pub taking_all_short : (v b : List ℕ) → AreOctets v → short (frame_reading v managed) ≡ true → taking managed [] (v ++ b) ≡ length v + taking managed v b
  taking_all_short v b oct e = taking_through [] v b oct e

  -- where the reader decides within a block, what stands behind the block is not looked at
  pub taking_past : (u b r : List ℕ) → short (frame_reading (gathered managed u b) managed) ≡ false → taking managed u (b ++ r) ≡ taking managed u b
  taking_past u [] r e =
      let n = taking_nil managed u in
      let k : gathered managed u [] ≡ u = ap (λ (j : ℕ). u ++ take j []) n ∙ append-nil u in
      taking_none managed u r (ap (λ (l : List ℕ). short (frame_reading l managed)) (sym k) ∙ e) ∙ sym n
  taking_past u (o ∷ b) r e =
      by_test (short (frame_reading u managed))
      (λ yes.
      let n = taking_one managed u b o yes in
      let same : gathered managed (u ++ o ∷ []) b ≡ gathered managed u (o ∷ b) =
      append_assoc u (o ∷ []) (take (taking managed (u ++ o ∷ []) b) b) ∙ ap (λ (k : ℕ). u ++ take k (o ∷ b)) (sym n) in
      taking_one managed u (b ++ r) o yes
      ∙ ap suc (taking_past (u ++ o ∷ []) b r (ap (λ (l : List ℕ). short (frame_reading l managed)) same ∙ e))
      ∙ sym n)
      (λ no. taking_none managed u (o ∷ b ++ r) no ∙ sym (taking_none managed u (o ∷ b) no))

  -- octets that the reader refuses: nothing is cut off them
  pub passage_refused : (v : List ℕ) {k : ℕ} {vs : List ℕ} → frame_reading v managed ≡ refused k vs
      → passage managed v ≡ ended (taking managed [] v) (ending_of (refused k vs)) (take (taking managed [] v) v)
  passage_refused v {k} {vs} e =
      ap (λ (c : Cut). record {
        frames = c.frames;
        place = length v - length c.rest + taking managed [] c.rest;
        ending = ending_of (frame_reading c.rest managed);
        held = take (taking managed [] c.rest) c.rest;
      }) (cut_refused managed v e)
      ∙ passage_eq refl (omega arith) (ap ending_of e) refl

  pub passage_waits : (v : List ℕ) → AreOctets v → short (frame_reading v managed) ≡ true → passage managed v ≡ ended (length v) blocks_end v
  passage_waits v oct e = go (frame_reading v managed) refl
    where
      n : taking managed [] v ≡ length v
      n =
          ap (taking managed []) (sym (append-nil v)) ∙ taking_all_short v [] oct e
          ∙ ap (λ (k : ℕ). length v + k) (taking_nil managed v) ∙ add-zero (length v)

      go : (o : Outcome TransferFrame) → frame_reading v managed ≡ o → passage managed v ≡ ended (length v) blocks_end v
      go (done x) r = absurd (false≢true (sym (ap short r) ∙ e))
      go (refused k vs) r =
          passage_refused v r
          ∙ passage_eq refl n (ap (λ (b : Bool). cond b blocks_end (stops k vs)) (sym (ap short r) ∙ e)) (ap (λ (j : ℕ). take j v) n ∙ take-length v)

  -- octets of which the first decide, and are refused
  pub passage_stops : (v r : List ℕ) {k : ℕ} {vs : List ℕ} → frame_reading (v ++ r) managed ≡ refused k vs → eqb k 1 ≡ false
      → taking managed [] (v ++ r) ≡ length v
      → passage managed (v ++ r) ≡ ended (length v) (stops k vs) v
  passage_stops v r {k} {vs} e other n =
      passage_refused (v ++ r) e
      ∙ passage_eq refl n (ap (λ (b : Bool). cond b blocks_end (stops k vs)) other) (ap (λ (j : ℕ). take j (v ++ r)) n ∙ take_at v r (length v) refl)

  -- a frame before others
  pub passage_frame : (v r : List ℕ) (x : TransferFrame) → frame_reading (v ++ r) managed ≡ done x → length v ≡ len_frame x.primary_header
      → passage managed (v ++ r) ≡ after (length v) (behind (x, v) (passage managed r))
  passage_frame v r x e n =
      let long = len_frame x.primary_header in
      let c = cut managed r in
      let left : drop long (v ++ r) ≡ r = drop_at v r long n in
      let own : take long (v ++ r) ≡ v = take_at v r long n in
      let cuts : cut managed (v ++ r) ≡ record { frames = (x, v) ∷ c.frames; rest = c.rest } =
      cut_more managed (v ++ r) x e
      ∙ ap₂ (λ (a b : List ℕ). record { frames = (x, a) ∷ (cut managed b).frames; rest = (cut managed b).rest }) own left in
      ap (λ (d : Cut). record {
        frames = d.frames;
        place = length (v ++ r) - length d.rest + taking managed [] d.rest;
        ending = ending_of (frame_reading d.rest managed);
        held = take (taking managed [] d.rest) d.rest;
      }) cuts
      ∙ passage_eq refl (omega (arith, length-append v r, rest_short managed r)) refl refl
