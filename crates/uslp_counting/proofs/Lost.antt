-- Laws of places: what is ahead of all seen, and how many are lost when one more is handed on.
use mathlib.Core.Path.{◌≡◌, refl, ◌∙◌, ap, ap₂}
use mathlib.Core.Bool.{Bool, true, false, cond, ◌&&◌}
use mathlib.Core.List.{List, [], ◌∷◌, ◌++◌}
use Prim.Native.Nat.{ℕ, zero, suc, ◌+◌, ◌-◌, ◌<◌, ◌≤◌, max}
use native.Mathlib.Omega.{arith}
use native.Mathlib.Nat.{zero-add, suc-add, add-zero}
use native.Mathlib.Decide.{dec_lt}
use borrow.Author.Tests.{eq-eqb, ne_eqb, lt-ltb, le-ltb}
use lib.Dec.{eqb, ltb}
use Rattle.uslp_counting.specs.Places.{furthest, ahead_of, among, absent, lost}

among_far : (k : ℕ) (l : List ℕ) → furthest l < k → among k l ≡ false
unfolding among furthest
among_far k [] h = refl
among_far k (x ∷ l) h = rw (ne_eqb k x (λ e. omega arith)) (among_far k l (omega arith))

among_more : (k p : ℕ) (l : List ℕ) → (k ≡ p → ⊥) → among k (l ++ (p ∷ [])) ≡ among k l
unfolding among
among_more k p [] h = rw (ne_eqb k p h)
among_more k p (x ∷ l) h = ap (λ (z : Bool). cond (eqb k x) true z) (among_more k p l h)

cond_true : (b : Bool) → cond b true true ≡ true
cond_true true = refl
cond_true false = refl

among_last : (p : ℕ) (l : List ℕ) → among p (l ++ (p ∷ [])) ≡ true
unfolding among
among_last p [] = rw (eq-eqb p p refl)
among_last p (x ∷ l) = ap (λ (z : Bool). cond (eqb p x) true z) (among_last p l) ∙ cond_true (eqb p x)

pub furthest_more : (p : ℕ) (l : List ℕ) → furthest (l ++ (p ∷ [])) ≡ max (furthest l) p
unfolding furthest
furthest_more p [] = omega arith
furthest_more p (x ∷ l) = let e = furthest_more p l in omega arith

pub furthest_new : (p : ℕ) (l : List ℕ) → furthest l ≤ p → furthest (p ∷ l) ≡ p
unfolding furthest
furthest_new p l h = omega arith

pub furthest_old : (p : ℕ) (l : List ℕ) → p ≤ furthest l → furthest (p ∷ l) ≡ furthest l
unfolding furthest
furthest_old p l h = omega arith

first_le : (f : ℕ) (l : List ℕ) → f ≤ furthest (f ∷ l)
unfolding furthest
first_le f l = omega arith

absent_split : (l : List ℕ) (a m n : ℕ) → absent l a (m + n) ≡ absent l a m + absent l (a + m) n
unfolding absent
absent_split l a zero n = rw (zero-add, zero-add, add-zero)
absent_split l a (suc m) n =
    let e : suc a + m ≡ a + suc m = omega arith in
    let ih : absent l (suc a) (m + n) ≡ absent l (suc a) m + absent l (a + suc m) n =
    absent_split l (suc a) m n ∙ ap (λ (v : ℕ). absent l (suc a) m + absent l v n) e in
    rw suc-add (omega (arith, ih))

absent_same : (l l' : List ℕ) (a n : ℕ) → ((k : ℕ) → k < a + n → among k l ≡ among k l') → absent l a n ≡ absent l' a n
unfolding absent
absent_same l l' a zero h = refl
absent_same l l' a (suc n) h = ap₂ (λ (z : Bool) (v : ℕ). cond z 0 1 + v) (h a (omega arith)) (absent_same l l' (suc a) n (λ k hi. h k (omega arith)))

absent_all : (l : List ℕ) (a n : ℕ) → ((k : ℕ) → a ≤ k → k < a + n → among k l ≡ false) → absent l a n ≡ n
unfolding absent
absent_all l a zero h = refl
absent_all l a (suc n) h =
    let ih = absent_all l (suc a) n (λ k lo hi. h k (omega arith) (omega arith)) in
    rw (h a (omega arith) (omega arith)) (omega arith)

absent_one : (l : List ℕ) (a : ℕ) → among a l ≡ true → absent l a 1 ≡ 0
unfolding absent
absent_one l a h = rw h

-- one more place, past all the others, loses those between
pub lost_more : (f p : ℕ) (l : List ℕ) → furthest (f ∷ l) < p → lost (f ∷ (l ++ (p ∷ []))) ≡ lost (f ∷ l) + (p - suc (furthest (f ∷ l)))
unfolding lost
lost_more f p l h =
    let more = f ∷ (l ++ (p ∷ [])) in
    let top = furthest (f ∷ l) in
    let gap = p - suc top in
    let low = first_le f l in
    let n : suc (furthest more) - f ≡ (suc top - f) + (gap + 1) = omega (arith, furthest_more p (f ∷ l)) in
    let before : absent more f (suc top - f) ≡ absent (f ∷ l) f (suc top - f) =
    absent_same more (f ∷ l) f (suc top - f) (λ k hi. among_more k p (f ∷ l) (λ e. omega arith)) in
    let between : absent more (f + (suc top - f)) gap ≡ gap =
    absent_all more (f + (suc top - f)) gap (λ k lo hi. among_more k p (f ∷ l) (λ e. omega arith) ∙ among_far k (f ∷ l) (omega arith)) in
    let spot : f + (suc top - f) + gap ≡ p = omega arith in
    let last : absent more (f + (suc top - f) + gap) 1 ≡ 0 = ap (λ (v : ℕ). absent more v 1) spot ∙ absent_one more p (among_last p (f ∷ l)) in
    ap (λ (v : ℕ). absent more f v) n
    ∙ join (absent_split more f (suc top - f) (gap + 1)) (absent_split more (f + (suc top - f)) gap 1) before between last
  where
    join : {a b d e g h i : ℕ} → a ≡ b + d → d ≡ e + g → b ≡ h → e ≡ i → g ≡ 0 → a ≡ h + i
    join x y z u v = omega arith

-- alone, no place is lost
pub lost_one : (p : ℕ) → lost (p ∷ []) ≡ 0
unfolding lost absent among furthest
lost_one p =
    let n : suc (max p 0) - p ≡ 1 = omega arith in
    rw (n, eq-eqb p p refl)

pub ahead_yes : (p : ℕ) (l : List ℕ) → furthest l < p → ahead_of l p ≡ true
unfolding ahead_of furthest
ahead_yes p [] h = refl
ahead_yes p (k ∷ l) h = rw (lt-ltb k p (omega arith)) (ahead_yes p l (omega arith))

module _ (k : ℕ) (l : List ℕ) (p : ℕ) where
  ahead_step : (p ≤ furthest l → k < p → ahead_of l p ≡ false) → p ≤ furthest (k ∷ l) → ahead_of (k ∷ l) p ≡ false
  unfolding ahead_of furthest
  ahead_step ih h = go (dec_lt k p)
    where
      go : Dec (k < p) → (ltb k p && ahead_of l p) ≡ false
      go (yes a) = rw (lt-ltb k p a) (ih (omega arith) a)
      go (no a) = rw (le-ltb k p (omega arith))

-- a place at or before the furthest is behind one of those seen
ahead_none : (l : List ℕ) (p : ℕ) → 0 < p → p ≤ furthest l → ahead_of l p ≡ false
unfolding furthest
ahead_none [] p z h = absurd (omega arith)
ahead_none (k ∷ l) p z h = ahead_step k l p (λ b c. ahead_none l p z b) h

pub ahead_no : (k : ℕ) (l : List ℕ) (p : ℕ) → p ≤ furthest (k ∷ l) → ahead_of (k ∷ l) p ≡ false
ahead_no k l p = ahead_step k l p (λ b c. ahead_none l p (omega arith) b)
