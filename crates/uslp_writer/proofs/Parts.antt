-- What stores into parts of a buffer leave, as lists, for any octets.
use mathlib.Core.Path.{◌≡◌, ap, sym, ◌∙◌}
use Prim.Native.Nat.{ℕ, ◌+◌, ◌-◌, ◌≤◌}
use mathlib.Core.Bool.{Bool, true, false, cond}
use mathlib.Core.List.{List, [], ◌++◌, append_assoc, append-nil}
use native.Mathlib.Omega.{arith}
use native.Mathlib.Nat.{add_assoc}
use lib.ListN.{length, take, drop, length-drop, drop_of_length-le}
use lib.Seq.{take_all, take-length, drop-length, drop-drop, take_at, drop_at, take-append-add, drop-append-add}
use borrow.Rule.Slice.PartMut.{put_mid, mid_of, Post-is}
use Rattle.uslp_octets.specs.Octets.{overlaid}
use Rattle.uslp_layout.specs.Layout.{with_fecf}

-- as many octets laid over a part
pub overlaid_whole : (d t : List ℕ) → length t ≡ length d → overlaid d t ≡ d
overlaid_whole d t long =
    let none : drop (length d) t ≡ [] = drop_of_length-le t {i = length d} (omega arith) in
    rw (long, none, append-nil, take-length)

-- octets q written behind the octets p, in the part that goes up to the end
pub tail_put : (at n : ℕ) (s b p q ys : List ℕ) → b ≡ p ++ drop at s → length p ≡ at → at ≤ length b
    → ys ≡ q ++ drop n (mid_of at (length b - at) b)
    → put_mid at (length b - at) b ys ≡ (p ++ q) ++ drop (at + n) s
tail_put at n s b p q ys eb lp h put =
    let front : take at b ≡ p = ap (take at) eb ∙ take_at p (drop at s) at lp in
    let mid : mid_of at (length b - at) b ≡ drop at s =
    take_all (length b - at) (drop at b) (omega (arith, length-drop at b)) ∙ ap (drop at) eb ∙ drop_at p (drop at s) at lp in
    let whole : ys ≡ q ++ drop (at + n) s = put ∙ rw (mid, drop-drop n at s) in
    rw (Post-is at (length b) b h, drop-length b, append-nil, front, whole) (sym (append_assoc p q (drop (at + n) s)))

module _ (p q : List ℕ) (start n : ℕ) (lp : length p ≡ start) where
  take_past : take (start + n) (p ++ q) ≡ p ++ take n q
  take_past = rw (← lp) (take-append-add p q n)

  pub drop_past : drop (start + n) (p ++ q) ≡ drop n q
  drop_past = rw (← lp) (drop-append-add p q n)

-- octets o written n places behind the octets p
pub behind_put : (start n m : ℕ) (s p o : List ℕ) → length p ≡ start
    → take (start + n) (p ++ drop start s) ++ (o ++ drop (start + n + m) (p ++ drop start s)) ≡ p ++ (take n (drop start s) ++ (o ++ drop (start + n + m) s))
behind_put start n m s p o lp =
    let same : drop (start + n + m) (p ++ drop start s) ≡ drop (start + n + m) s =
    rw (add_assoc start n m) (drop_past p (drop start s) start (n + m) lp ∙ drop-drop (n + m) start s) in
    rw (take_past p (drop start s) start n lp, same) (append_assoc p (take n (drop start s)) (o ++ drop (start + n + m) s))

-- the FECF put behind a body, if asked for
pub body_sealed : (b : Bool) (total long : ℕ) (body s : List ℕ) → length body ≡ long → total ≡ long + cond b 2 0
    → cond b (with_fecf true (take (total - 2) (body ++ drop long s)) ++ drop total (body ++ drop long s))
    (body ++ drop long s) ≡ with_fecf b body ++ drop total s
body_sealed true total long body s lb e =
    let less : total - 2 ≡ long = omega arith in
    rw (less, take_at body (drop long s) long lb, e, drop_past body (drop long s) long 2 lb, drop-drop 2 long s)
body_sealed false total long body s lb e =
    let same : total ≡ long = omega arith in
    rw same
