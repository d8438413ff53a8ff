-- The promises of `uslp_octets` settle each call, and shut out two tempting wrong answers of each function. `part` hands back a part of the
-- lent octets: what it shows is settled.
use mathlib.Core.Path.{◌≡◌, refl, sym, ap, ◌∙◌}
use mathlib.Core.List.{List, [], ◌∷◌}
use Prim.Native.Nat.{ℕ}
use native.Mathlib.Omega.{arith}
use lib.ListN.{length, get_or}
use denote.Ref.{Bor}
use Rattle.uslp_octets.proofs as octets
use Rattle.uslp_demands.specs.Promise.{Function, function, at, at_mut, Allows, Settles, Shows}
use Rattle.uslp_demands.proofs.Alike.{alike}

-- the functions, each with its promise
abbrev fn_copy_octets : Function
fn_copy_octets = function octets.copy_octets.Kinds.ps octets.copy_octets.Kinds.r octets.copy_octets.Reads.Pre octets.copy_octets.Reads.Learnt

abbrev fn_put_be_number : Function
fn_put_be_number = function octets.put_be_number.Kinds.ps octets.put_be_number.Kinds.r octets.put_be_number.Reads.Pre octets.put_be_number.Reads.Learnt

abbrev fn_be_number : Function
fn_be_number = function octets.be_number.Kinds.ps octets.be_number.Kinds.r octets.be_number.Reads.Pre octets.be_number.Reads.Learnt

abbrev fn_part : Function
fn_part = function octets.part.Kinds.ps octets.part.Kinds.r octets.part.Reads.Pre octets.part.Reads.Learnt

pub copy_octets_settles : Settles fn_copy_octets
copy_octets_settles = record { total = λ κs a. tt; same = λ κs a x y s t. alike refl (λ i. (tt, ((s ∙ sym t) i, tt))) }

-- copies nothing
pub copy_octets_idle : Allows fn_copy_octets ([], ([], tt)) (at (1 ∷ 2 ∷ []), (at_mut (7 ∷ 8 ∷ 9 ∷ []), tt)) (tt, (tt, (7 ∷ 8 ∷ 9 ∷ [], tt))) → ⊥
copy_octets_idle e = let z : ◌≡◌ {A = ℕ} 7 1 = cc in omega arith

-- stops one octet early
pub copy_octets_short : Allows fn_copy_octets ([], ([], tt)) (at (1 ∷ 2 ∷ []), (at_mut (7 ∷ 8 ∷ 9 ∷ []), tt)) (tt, (tt, (1 ∷ 8 ∷ 9 ∷ [], tt))) → ⊥
copy_octets_short e = let z : ◌≡◌ {A = ℕ} 8 2 = cc in omega arith

pub put_be_number_settles : Settles fn_put_be_number
put_be_number_settles = record { total = λ κs a. tt; same = λ κs a x y s t. alike refl (λ i. (tt, ((s ∙ sym t) i, tt))) }

-- writes nothing
pub put_be_number_idle : Allows fn_put_be_number ([], tt) (0x0102, (at_mut (7 ∷ 8 ∷ []), tt)) (tt, (tt, (7 ∷ 8 ∷ [], tt))) → ⊥
put_be_number_idle e = let z : ◌≡◌ {A = ℕ} 7 1 = cc in omega arith

-- the least significant octet first
pub put_be_number_little : Allows fn_put_be_number ([], tt) (0x0102, (at_mut (7 ∷ 8 ∷ []), tt)) (tt, (tt, (2 ∷ 1 ∷ [], tt))) → ⊥
put_be_number_little e = let z : ◌≡◌ {A = ℕ} 2 1 = cc in omega arith

pub be_number_settles : Settles fn_be_number
be_number_settles = record { total = λ κs a. tt; same = λ κs a x y s t. alike (s ∙ sym t) refl }

-- the least significant octet first
pub be_number_little : Allows fn_be_number ([], tt) (at (1 ∷ 2 ∷ []), tt) (0x0201, (tt, tt)) → ⊥
be_number_little e = let z : ◌≡◌ {A = ℕ} 0x0201 0x0102 = e in omega arith

-- the last octet alone
pub be_number_last : Allows fn_be_number ([], tt) (at (1 ∷ 2 ∷ []), tt) (2, (tt, tt)) → ⊥
be_number_last e = let z : ◌≡◌ {A = ℕ} 2 0x0102 = e in omega arith

pub part_shows : Shows fn_part (λ κs a r. r)
part_shows = record { total = λ κs a. tt; same = λ κs a x y s t. (s.lies ∙ sym t.lies, s.shows ∙ sym t.shows) }

-- as many octets as there are where they do not reach so far; the octets from the front
pub part_cut : (r : Bor (List ℕ)) → r.now ≡ 2 ∷ [] → Allows fn_part ([], tt) (at (1 ∷ 2 ∷ []), (1, (2, tt))) (r, (tt, (tt, (tt, tt)))) → ⊥
part_cut r h e = let z : ◌≡◌ {A = ℕ} 1 0 = ap length (sym h ∙ e.shows) in omega arith

pub part_front : (r : Bor (List ℕ)) → r.now ≡ 1 ∷ [] → Allows fn_part ([], tt) (at (1 ∷ 2 ∷ []), (1, (1, tt))) (r, (tt, (tt, (tt, tt)))) → ⊥
part_front r h e = let z : ◌≡◌ {A = ℕ} 1 2 = ap (λ (l : List ℕ). get_or l 0 0) (sym h ∙ e.shows) in omega arith
