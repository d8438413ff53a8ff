-- The promises of `uslp_text` settle each call, and shut out tempting wrong answers.
use mathlib.Core.Path.{◌≡◌, sym, ap, ◌∙◌}
use mathlib.Core.List.{List, [], ◌∷◌}
use Prim.Native.Nat.{ℕ}
use native.Mathlib.Omega.{arith}
use lib.ListN.{get_or}
use Rattle.uslp_text.specs.Text.{width_in}
use Rattle.uslp_text.proofs as text
use Rattle.uslp_demands.specs.Promise.{Function, function, at, at_mut, Allows, Settles}
use Rattle.uslp_demands.proofs.Alike.{alike}

-- the functions, each with its promise
abbrev fn_put_text : Function
fn_put_text = function text.put_text.Kinds.ps text.put_text.Kinds.r text.put_text.Reads.Pre text.put_text.Reads.Learnt

abbrev fn_put_decimal : Function
fn_put_decimal = function text.put_decimal.Kinds.ps text.put_decimal.Kinds.r text.put_decimal.Reads.Pre text.put_decimal.Reads.Learnt

pub put_text_settles : Settles fn_put_text
put_text_settles = record {
  total = λ κs a. tt;
  same = λ κs a x y s t. alike (s.ends ∙ sym t.ends)
      (λ i. (tt, ((s.stands ∙ sym t.stands) i, (tt, tt))));
}

-- leaves out what has no room, and tells a place behind it
pub put_text_out : Allows fn_put_text ([], ([], tt)) (at (1 ∷ 2 ∷ []), (at_mut (7 ∷ []), (0, tt))) (1, (tt, (7 ∷ [], (tt, tt)))) → ⊥
put_text_out e = let z : ◌≡◌ {A = ℕ} 7 1 = ap (λ (s : List ℕ). get_or s 0 0) e.stands in omega arith

pub put_decimal_settles : Settles fn_put_decimal
put_decimal_settles = record {
  total = λ κs a. tt;
  same = λ κs a x y s t. alike (s.ends ∙ sym t.ends)
      (λ i. (tt, ((s.stands ∙ sym t.stands) i, (tt, tt))));
}

-- tells nothing; tells a zero in front
pub put_decimal_idle : Allows fn_put_decimal ([], tt) (7, (at_mut (0 ∷ 0 ∷ []), (0, tt))) (0, (tt, (0 ∷ 0 ∷ [], (tt, tt)))) → ⊥
unfolding width_in
put_decimal_idle e = let z : ◌≡◌ {A = ℕ} 0 1 = e.ends in omega arith

pub put_decimal_zero : Allows fn_put_decimal ([], tt) (7, (at_mut (0 ∷ 0 ∷ []), (0, tt))) (2, (tt, (48 ∷ 55 ∷ [], (tt, tt)))) → ⊥
unfolding width_in
put_decimal_zero e = let z : ◌≡◌ {A = ℕ} 2 1 = e.ends in omega arith
