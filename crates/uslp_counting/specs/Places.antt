-- Places of frames in the order sent, and what is counted over them (docs/RULES.md, section 7): no record and no code stands here.
use Rattle.std.specs.Prelude.{Bool, true, false, cond, ◌&&◌, List, [], ◌∷◌, ℕ, zero, suc, ◌+◌, ◌-◌, ◌≤◌, ◌<◌, max, eqb, ltb}

-- the furthest of some places
unfoldable pub furthest : List ℕ → ℕ
furthest [] = 0
furthest (p ∷ ps) = max p (furthest ps)

-- p is ahead of all places seen
unfoldable pub ahead_of : List ℕ → ℕ → Bool
ahead_of [] p = true
ahead_of (k ∷ ks) p = ltb k p && ahead_of ks p

-- of the places that arrive, after those that were seen, each that is ahead of all before it
unfoldable pub leaders : List ℕ → List ℕ → List ℕ
leaders seen [] = []
leaders seen (p ∷ ps) = cond (ahead_of seen p) (p ∷ leaders (p ∷ seen) ps) (leaders (p ∷ seen) ps)

-- an arrival is at most half ahead of the furthest before it and fewer than half behind it; the first is free
unfoldable pub Close : ℕ → List ℕ → ℕ → Type 0
Close half [] p = Unit {0}
Close half (k ∷ ks) p = (p ≤ furthest (k ∷ ks) + half) × (furthest (k ∷ ks) < p + half)

unfoldable pub Window : ℕ → List ℕ → List ℕ → Type 0
Window half seen [] = Unit {0}
Window half seen (p ∷ ps) = Close half seen p × Window half (p ∷ seen) ps

unfoldable pub among : ℕ → List ℕ → Bool
among k [] = false
among k (x ∷ l) = cond (eqb k x) true (among k l)

-- how many of the n places from a on are not in a list
unfoldable pub absent : List ℕ → ℕ → ℕ → ℕ
absent l a zero = 0
absent l a (suc n) = cond (among a l) 0 1 + absent l (suc a) n

-- how many places from the first of a list to its furthest are not in it
unfoldable pub lost : List ℕ → ℕ
lost [] = 0
lost (f ∷ l) = absent (f ∷ l) f (suc (furthest (f ∷ l)) - f)
