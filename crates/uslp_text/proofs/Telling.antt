-- Laws of texts that are told in a buffer: one behind another, and all of one that has its room.
use mathlib.Core.Path.{◌≡◌, refl, ap, ap₂, sym, subst, ◌∙◌}
use Prim.Native.Nat.{ℕ, zero, suc, ◌+◌, ◌≤◌, min}
use mathlib.Core.List.{List, [], ◌∷◌, ◌++◌}
use native.Mathlib.Omega.{arith}
use native.Mathlib.Nat.{zero-min, min-zero, suc-min-suc, zero-add, suc-add}
use lib.ListN.{length, take, drop, length-append, length-take, length-drop}
use lib.Seq.{take_all}
use Rattle.uslp_octets.specs.Octets.{overlaid}
use Rattle.uslp_text.specs.Text.{Told}

drop_nil : (n : ℕ) → Path (List ℕ) (drop n []) []
drop_nil zero = refl
drop_nil (suc n) = refl

take_nil : (n : ℕ) → Path (List ℕ) (take n []) []
take_nil zero = refl
take_nil (suc n) = refl

pub overlaid_none : (s : List ℕ) → overlaid [] s ≡ s
overlaid_none s = ap (λ (x : List ℕ). x ++ s) (take_nil (length s))

pub overlaid_nil : (t : List ℕ) → overlaid t [] ≡ []
overlaid_nil t = drop_nil (length t)

pub length_overlaid : (t s : List ℕ) → length (overlaid t s) ≡ length s
length_overlaid t s =
    omega (arith, length-append (take (length s) t) (drop (length t) s), length-take (length s) t, length-drop (length t) s)

-- the buffer with a text over it from a place on
abbrev pub laid : ℕ → List ℕ → List ℕ → List ℕ
laid at t s = take at s ++ overlaid t (drop at s)

-- a text behind another is laid as one
laid_front : (t u s : List ℕ) → laid (min (length t) (length s)) u (overlaid t s) ≡ overlaid (t ++ u) s
laid_front [] u s = rw (zero-min (length s), overlaid_none s) refl
laid_front (c ∷ t) u [] = rw (min-zero (suc (length t))) (overlaid_nil u)
laid_front (c ∷ t) u (d ∷ s) = rw (suc-min-suc (length t) (length s)) (ap (λ (x : List ℕ). c ∷ x) (laid_front t u s))

laid_behind : (at : ℕ) (t u s : List ℕ) → laid (min (at + length t) (length s)) u (laid at t s) ≡ laid at (t ++ u) s
laid_behind zero t u s = rw (zero-add (length t)) (laid_front t u s)
laid_behind (suc at) t u [] = rw (min-zero (suc at + length t), overlaid_nil t) (overlaid_nil u ∙ sym (overlaid_nil (t ++ u)))
laid_behind (suc at) t u (d ∷ s) = rw (suc-add at (length t), suc-min-suc (at + length t) (length s)) (ap (λ (x : List ℕ). d ∷ x) (laid_behind at t u s))

length_laid : (at : ℕ) (t s : List ℕ) → length (laid at t s) ≡ length s
length_laid at t s =
    omega (arith, length-append (take at s) (overlaid t (drop at s)), length-take at s, length-drop at s, length_overlaid t (drop at s))

module _ {t s left : List ℕ} {at end : ℕ} (p : Told t at s end left) where
  -- the buffer is as long as it was
  pub told_long : length left ≡ length s
  told_long = ap length p.stands ∙ length_laid at t s

-- a text that is the same is told too
pub told_as : {t u s left : List ℕ} {at end : ℕ} → t ≡ u → Told t at s end left → Told u at s end left
told_as {t} {u} {s} {left} {at} {end} e p = subst (λ (x : List ℕ). Told x at s end left) e p

-- two texts, one behind the other, are one
pub told_more : {t u s mid left : List ℕ} {at m end : ℕ} → Told t at s m mid → Told u m mid end left → Told (t ++ u) at s end left
told_more {t} {u} {s} {mid} {left} {at} {m} {end} p q =
    record {
      ends = omega (arith, p.ends, q.ends, told_long p, length-append t u);
      stands =
          q.stands ∙ ap₂ (λ (k : ℕ) (x : List ℕ). laid k u x) p.ends p.stands ∙ laid_behind at t u s;
    }

-- a text that has its room stands whole at the front
pub told_whole : {t s left : List ℕ} {end : ℕ} → length t ≤ length s → Told t 0 s end left → (end ≡ length t) × (left ≡ t ++ drop (length t) s)
told_whole {t} {s} {left} {end} h p =
    (omega (arith, p.ends), p.stands ∙ ap (λ (x : List ℕ). x ++ drop (length t) s) (take_all (length s) t h))
