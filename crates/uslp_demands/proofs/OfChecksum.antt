-- The promises of `uslp_checksum` settle each call, and shut out two tempting wrong answers of each function.
use mathlib.Core.Path.{◌≡◌, refl, sym, ◌∙◌}
use mathlib.Core.List.{List, [], ◌∷◌}
use Prim.Native.Nat.{ℕ, zero, suc}
use native.Mathlib.Omega.{arith}
use Rattle.uslp_checksum.specs.Checksum.{bit, step, feed, lows, bits, checksum_of}
use Rattle.uslp_checksum.proofs as checksum
use Rattle.uslp_demands.specs.Promise.{Function, function, at, Allows, Settles}
use Rattle.uslp_demands.proofs.Alike.{alike}

-- the functions, each with its promise
abbrev fn_update_by_table : Function
fn_update_by_table =
    function checksum.update_by_table.Kinds.ps checksum.update_by_table.Kinds.r
    checksum.update_by_table.Reads.Pre checksum.update_by_table.Reads.Learnt

abbrev fn_checksum : Function
fn_checksum = function checksum.checksum.Kinds.ps checksum.checksum.Kinds.r checksum.checksum.Reads.Pre checksum.checksum.Reads.Learnt

abbrev fn_checksum_bitwise : Function
fn_checksum_bitwise =
    function checksum.checksum_bitwise.Kinds.ps checksum.checksum_bitwise.Kinds.r
    checksum.checksum_bitwise.Reads.Pre checksum.checksum_bitwise.Reads.Learnt

abbrev fn_update : Function
fn_update = function checksum.update.Kinds.ps checksum.update.Kinds.r checksum.update.Reads.Pre checksum.update.Reads.Learnt

-- the nine octets of the catalogue's check value
abbrev digits : List ℕ
digits = 0x31 ∷ 0x32 ∷ 0x33 ∷ 0x34 ∷ 0x35 ∷ 0x36 ∷ 0x37 ∷ 0x38 ∷ 0x39 ∷ []

abbrev zeros : ℕ → List ℕ
zeros zero = []
zeros (suc n) = 0 ∷ zeros n

check_value : checksum_of digits ≡ 0x29B1
unfolding checksum_of feed bits lows bit step
check_value = refl

pub checksum_settles : Settles fn_checksum
checksum_settles = record { total = λ κs a. tt; same = λ κs a x y s t. alike (s ∙ sym t) refl }

-- starts from 0
pub checksum_zero : Allows fn_checksum ([], tt) (at digits, tt) (0x31C3, (tt, tt)) → ⊥
checksum_zero e = omega (arith, check_value)

-- inverts the register at the end
pub checksum_inverted : Allows fn_checksum ([], tt) (at digits, tt) (0xD64E, (tt, tt)) → ⊥
checksum_inverted e = omega (arith, check_value)

pub checksum_bitwise_settles : Settles fn_checksum_bitwise
checksum_bitwise_settles = record { total = λ κs a. tt; same = λ κs a x y s t. alike (s ∙ sym t) refl }

-- starts from 0
pub checksum_bitwise_zero : Allows fn_checksum_bitwise ([], tt) (at digits, tt) (0x31C3, (tt, tt)) → ⊥
checksum_bitwise_zero e = omega (arith, check_value)

-- inverts the register at the end
pub checksum_bitwise_inverted : Allows fn_checksum_bitwise ([], tt) (at digits, tt) (0xD64E, (tt, tt)) → ⊥
checksum_bitwise_inverted e = omega (arith, check_value)

pub update_settles : Settles fn_update
update_settles = record { total = λ κs a. tt; same = λ κs a x y s t. alike (s ∙ sym t) refl }

-- keeps the register
pub update_deaf : Allows fn_update ([], tt) (0, (at (1 ∷ []), tt)) (0, (tt, (tt, tt))) → ⊥
unfolding feed bits lows bit step
update_deaf e = omega arith

-- starts anew from all ones
pub update_anew : Allows fn_update ([], tt) (0, (at [], tt)) (0xFFFF, (tt, (tt, tt))) → ⊥
unfolding feed bits
update_anew e = omega arith

-- drops the first of two words
pub update_drops : Allows fn_update ([], tt) (0, (at (1 ∷ zeros 15), tt)) (0, (tt, (tt, tt))) → ⊥
unfolding feed bits lows bit step
update_drops e = omega arith

-- forgets the register where a whole word comes
pub update_forgets : Allows fn_update ([], tt) (0xFFFF, (at (zeros 8), tt)) (0, (tt, (tt, tt))) → ⊥
unfolding feed bits lows bit step
update_forgets e = omega arith

pub update_by_table_settles : Settles fn_update_by_table
update_by_table_settles = record { total = λ κs a. tt; same = λ κs a x y s t. alike (s ∙ sym t) refl }

-- keeps the register
pub update_by_table_deaf : Allows fn_update_by_table ([], tt) (0, (at (1 ∷ []), tt)) (0, (tt, (tt, tt))) → ⊥
unfolding feed bits lows bit step
update_by_table_deaf e = omega arith

-- starts anew from all ones
pub update_by_table_anew : Allows fn_update_by_table ([], tt) (0, (at [], tt)) (0xFFFF, (tt, (tt, tt))) → ⊥
unfolding feed bits
update_by_table_anew e = omega arith
