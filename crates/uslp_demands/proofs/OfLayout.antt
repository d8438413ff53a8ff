-- The promises of `uslp_layout` settle each call, and shut out two tempting wrong answers of each function.
use mathlib.Core.Path.{refl, sym, ◌∙◌}
use mathlib.Core.Bool.{true, false}
use native.Mathlib.Omega.{arith}
use Rattle.uslp_kinds.specs.Managed.{fecf, no_fecf}
use Rattle.uslp_layout.proofs as layout
use Rattle.uslp_demands.specs.Promise.{Function, function, Allows, Settles}
use Rattle.uslp_roundtrip.specs.Samples.{whole, spanning, some, flagged}
use Rattle.uslp_demands.proofs.Alike.{alike}

-- the functions, each with its promise
abbrev fn_data_start : Function
fn_data_start = function layout.data_start.Kinds.ps layout.data_start.Kinds.r layout.data_start.Reads.Pre layout.data_start.Reads.Learnt

abbrev fn_needed_len : Function
fn_needed_len = function layout.needed_len.Kinds.ps layout.needed_len.Kinds.r layout.needed_len.Reads.Pre layout.needed_len.Reads.Learnt

abbrev fn_fecf_len : Function
fn_fecf_len = function layout.fecf_len.Kinds.ps layout.fecf_len.Kinds.r layout.fecf_len.Reads.Pre layout.fecf_len.Reads.Learnt

pub data_start_settles : Settles fn_data_start
data_start_settles = record { total = λ κs a. tt; same = λ κs a x y s t. alike (s ∙ sym t) refl }

-- the primary header alone
pub data_start_header : Allows fn_data_start tt (some, (whole, tt)) (8, (tt, (tt, tt))) → ⊥
data_start_header e = omega arith

-- forgets the pointer
pub data_start_pointer : Allows fn_data_start tt (some, (spanning, tt)) (9, (tt, (tt, tt))) → ⊥
data_start_pointer e = omega arith

pub needed_len_settles : Settles fn_needed_len
needed_len_settles = record { total = λ κs a. tt; same = λ κs a x y s t. alike (s ∙ sym t) refl }

-- forgets the FECF
pub needed_len_fecf : Allows fn_needed_len tt (some, (whole, (fecf, tt))) (9, (tt, (tt, (tt, tt)))) → ⊥
needed_len_fecf e = omega arith

-- forgets the OCF
pub needed_len_ocf : Allows fn_needed_len tt (flagged, (whole, (no_fecf, tt))) (9, (tt, (tt, (tt, tt)))) → ⊥
needed_len_ocf e = omega arith

pub fecf_len_settles : Settles fn_fecf_len
fecf_len_settles = record { total = λ κs a. tt; same = λ κs a x y s t. alike (s ∙ sym t) refl }

-- none where it is asked for
pub fecf_len_none : Allows fn_fecf_len tt (true, tt) (0, (tt, tt)) → ⊥
fecf_len_none e = omega arith

-- two where it is not
pub fecf_len_always : Allows fn_fecf_len tt (false, tt) (2, (tt, tt)) → ⊥
fecf_len_always e = omega arith
