-- The promises of `uslp_writer` settle each call, and shut out two tempting wrong answers of each function. `data` and `data_mut` hand
-- back a part of the lent octets: what it shows is settled.
use mathlib.Core.Path.{◌≡◌, refl, sym, ap, ◌∙◌}
use mathlib.Core.Bool.{true, false}
use mathlib.Core.List.{List, [], ◌∷◌}
use Prim.Native.Nat.{ℕ}
use native.Mathlib.Omega.{arith}
use lib.ListN.{get_or}
use denote.Ref.{Bor, MutBor, as_bor}
use Rattle.uslp_kinds.proofs.Back.{leaving_one, paper_one}
use Rattle.uslp_kinds.proofs.Outcomes.{done_one}
use Rattle.uslp_kinds.specs.declared.Refusal.TheVariants.{ShortTarget}
use Rattle.uslp_checksum.specs.Checksum.{bit, step, feed, lows, bits, checksum_of}
use Rattle.uslp_writer.specs.Frame.{frame_length, frame_writing}
use Rattle.uslp_writer.specs.Reserved.{reserving, finish_length}
use Rattle.uslp_writer.specs.declared.TransferFrameCreatorWithReservedData.{TransferFrameCreatorWithReservedData}
use Rattle.uslp_writer.proofs as frame
use Rattle.uslp_demands.specs.Promise.{Function, function, at, at_mut, Allows, Settles, Shows}
use Rattle.uslp_roundtrip.specs.Samples.{plain, flagged_only, zeros}
use Rattle.uslp_demands.proofs.Alike.{alike}
use Rattle.std.specs.Prelude.{Ok, Err}

-- the functions, each with its promise
abbrev fn_len_written : Function
fn_len_written =
    function frame.TransferFrameCreator.len_written.Kinds.ps frame.TransferFrameCreator.len_written.Kinds.r
    frame.TransferFrameCreator.len_written.Reads.Pre frame.TransferFrameCreator.len_written.Reads.Learnt

abbrev pub fn_write_to_slice : Function
fn_write_to_slice =
    function frame.TransferFrameCreator.write_to_slice.Kinds.ps frame.TransferFrameCreator.write_to_slice.Kinds.r
    frame.TransferFrameCreator.write_to_slice.Reads.Pre frame.TransferFrameCreator.write_to_slice.Reads.Learnt

abbrev pub fn_new : Function
fn_new =
    function frame.TransferFrameCreatorWithReservedData.new.Kinds.ps frame.TransferFrameCreatorWithReservedData.new.Kinds.r
    frame.TransferFrameCreatorWithReservedData.new.Reads.Pre frame.TransferFrameCreatorWithReservedData.new.Reads.Learnt

abbrev fn_transfer_frame_creator_with_reserved_data_len_written : Function
fn_transfer_frame_creator_with_reserved_data_len_written =
    function frame.TransferFrameCreatorWithReservedData.len_written.Kinds.ps frame.TransferFrameCreatorWithReservedData.len_written.Kinds.r
    frame.TransferFrameCreatorWithReservedData.len_written.Reads.Pre frame.TransferFrameCreatorWithReservedData.len_written.Reads.Learnt

abbrev fn_data : Function
fn_data =
    function frame.TransferFrameCreatorWithReservedData.data.Kinds.ps frame.TransferFrameCreatorWithReservedData.data.Kinds.r
    frame.TransferFrameCreatorWithReservedData.data.Reads.Pre frame.TransferFrameCreatorWithReservedData.data.Reads.Learnt

abbrev fn_data_mut : Function
fn_data_mut =
    function frame.TransferFrameCreatorWithReservedData.data_mut.Kinds.ps frame.TransferFrameCreatorWithReservedData.data_mut.Kinds.r
    frame.TransferFrameCreatorWithReservedData.data_mut.Reads.Pre frame.TransferFrameCreatorWithReservedData.data_mut.Reads.Learnt

abbrev pub fn_fill : Function
fn_fill =
    function frame.TransferFrameCreatorWithReservedData.fill.Kinds.ps frame.TransferFrameCreatorWithReservedData.fill.Kinds.r
    frame.TransferFrameCreatorWithReservedData.fill.Reads.Pre frame.TransferFrameCreatorWithReservedData.fill.Reads.Learnt

abbrev pub fn_finish : Function
fn_finish =
    function frame.TransferFrameCreatorWithReservedData.finish.Kinds.ps frame.TransferFrameCreatorWithReservedData.finish.Kinds.r
    frame.TransferFrameCreatorWithReservedData.finish.Reads.Pre frame.TransferFrameCreatorWithReservedData.finish.Reads.Learnt

-- four numbers that no call made: an area behind the total, and sizes whose sum no machine number holds
abbrev small : TransferFrameCreatorWithReservedData
small = record { data_index = 3; data_size = 4; len_written = 6; has_fecf = false }

abbrev huge : TransferFrameCreatorWithReservedData
huge = record { data_index = 0xFFFFFFFFFFFFFFFF; data_size = 2; len_written = 6; has_fecf = false }

abbrev sealing : TransferFrameCreatorWithReservedData
sealing = record { data_index = 0; data_size = 1; len_written = 3; has_fecf = true }

pub len_written_settles : Settles fn_len_written
len_written_settles = record {
  total = λ κs a. tt;
  same = λ κs a x y s t. alike
      (paper_one (s ∙ sym t)) refl;
}

-- one octet too many, its length wrapped
pub len_written_wrapped : Allows fn_len_written tt (plain, (65529, tt)) (Ok 0, (tt, (tt, tt))) → ⊥
unfolding frame_length
len_written_wrapped e = let z : ◌≡◌ {A = ℕ} 0 1 = cc in omega arith

-- an OCF flag with no OCF
pub len_written_lax : Allows fn_len_written tt (flagged_only, (2, tt)) (Ok 15, (tt, (tt, tt))) → ⊥
unfolding frame_length
len_written_lax e = let z : ◌≡◌ {A = ℕ} 0 1 = cc in omega arith

pub write_to_slice_settles : Settles fn_write_to_slice
write_to_slice_settles = record {
  total = λ κs a. tt;
  same = λ κs a x y s t. let e = leaving_one (s ∙ sym t) in
      alike (paper_one e.0) (λ i. (tt, (tt, (e.1 i, tt))));
}

-- writes nothing and says done
pub write_to_slice_idle : Allows fn_write_to_slice ([], ([], tt)) (plain, (at (0x0A ∷ 0xF0 ∷ []), (at_mut zeros, tt)))
    (Ok 10, (tt, (tt, (zeros, tt)))) → ⊥
unfolding frame_writing
write_to_slice_idle e = let z : ◌≡◌ {A = ℕ} 0 0xC1 = cc in omega arith

-- writes a frame whose OCF flag has no OCF
pub write_to_slice_lax : Allows fn_write_to_slice ([], ([], tt)) (flagged_only, (at [], (at_mut [], tt)))
    (Err (ShortTarget 0 13), (tt, (tt, ([], tt)))) → ⊥
unfolding frame_writing
write_to_slice_lax e = let z : ◌≡◌ {A = ℕ} 0 1 = cc in omega arith

pub reserve_settles : Settles fn_new
reserve_settles = record {
  total = λ κs a. tt;
  same = λ κs a x y s t. let e = leaving_one (s ∙ sym t) in
      alike (paper_one e.0) (λ i. (tt, (tt, (e.1 i, tt))));
}

-- clears the data area
pub reserve_cleared : Allows fn_new ([], tt) (plain, (2, (at_mut (1 ∷ 1 ∷ 1 ∷ 1 ∷ 1 ∷ 1 ∷ 1 ∷ 1 ∷ 1 ∷ 1 ∷ []), tt))) (
  Ok (record { data_index = 8; data_size = 2; len_written = 10; has_fecf = false }),
  (tt, (tt, (0xC1 ∷ 0x23 ∷ 0x48 ∷ 0xA6 ∷ 0 ∷ 9 ∷ 0 ∷ 0xE4 ∷ 0 ∷ 0 ∷ [], tt))),
) → ⊥
unfolding reserving
reserve_cleared e = let z : ◌≡◌ {A = ℕ} 0 1 = cc in omega arith

-- says that the data start behind the primary header
pub reserve_start : Allows fn_new ([], tt) (plain, (2, (at_mut (1 ∷ 1 ∷ 1 ∷ 1 ∷ 1 ∷ 1 ∷ 1 ∷ 1 ∷ 1 ∷ 1 ∷ []), tt))) (
  Ok (record { data_index = 7; data_size = 2; len_written = 10; has_fecf = false }),
  (tt, (tt, (0xC1 ∷ 0x23 ∷ 0x48 ∷ 0xA6 ∷ 0 ∷ 9 ∷ 0 ∷ 0xE4 ∷ 1 ∷ 1 ∷ [], tt))),
) → ⊥
unfolding reserving
reserve_start e = let z : ◌≡◌ {A = ℕ} 7 8 = ap (λ (k : TransferFrameCreatorWithReservedData). k.data_index) (done_one (leaving_one e).0) in omega arith

pub reserved_len_settles : Settles fn_transfer_frame_creator_with_reserved_data_len_written
reserved_len_settles = record { total = λ κs a. tt; same = λ κs a x y s t. alike (s ∙ sym t) refl }

-- start plus size
pub reserved_len_sum : Allows fn_transfer_frame_creator_with_reserved_data_len_written tt (small, tt) (7, (tt, tt)) → ⊥
reserved_len_sum e = omega arith

-- the data size
pub reserved_len_size : Allows fn_transfer_frame_creator_with_reserved_data_len_written tt (small, tt) (4, (tt, tt)) → ⊥
reserved_len_size e = omega arith

pub reserved_data_shows : Shows fn_data (λ κs a r. r)
reserved_data_shows = record { total = λ κs a. tt; same = λ κs a x y s t. (s.lies ∙ sym t.lies, s.shows ∙ sym t.shows) }

-- shows the area though finishing would refuse; shows nothing though it would not
pub reserved_data_lax : (r : Bor (List ℕ)) → r.now ≡ 4 ∷ 5 ∷ 6 ∷ 7 ∷ []
    → Allows fn_data ([], tt) (small, (at (1 ∷ 2 ∷ 3 ∷ 4 ∷ 5 ∷ 6 ∷ 7 ∷ []), tt)) (r, (tt, (tt, tt))) → ⊥
unfolding finish_length
reserved_data_lax r h e = let z : ◌≡◌ {A = ℕ} 0 1 = cc in omega arith

pub reserved_data_none : (r : Bor (List ℕ)) → r.now ≡ [] → Allows fn_data ([], tt) (sealing, (at (1 ∷ 2 ∷ 3 ∷ []), tt)) (r, (tt, (tt, tt))) → ⊥
unfolding finish_length
reserved_data_none r h e = let z : ◌≡◌ {A = ℕ} 0 1 = cc in omega arith

pub reserved_data_mut_shows : Shows fn_data_mut (λ κs a r. as_bor r)
reserved_data_mut_shows = record { total = λ κs a. tt; same = λ κs a x y s t. (s.lies ∙ sym t.lies, s.shows ∙ sym t.shows) }

-- the octet before the area, where it equals the area's first: a caller who writes through it would overwrite a header
abbrev second : TransferFrameCreatorWithReservedData
second = record { data_index = 1; data_size = 1; len_written = 2; has_fecf = false }

pub reserved_data_mut_early : (r : MutBor (List ℕ)) → r.ref_ptr ≡ (0, 0) → Allows fn_data_mut ([], tt) (second, (at_mut (7 ∷ 7 ∷ []), tt)) (r, (tt, (tt, tt))) → ⊥
unfolding finish_length
reserved_data_mut_early r h e = let z : ◌≡◌ {A = ℕ} 0 1 = ap (λ (p : ℕ × ℕ). p.1) (sym h ∙ e.lies) in omega arith

pub fill_settles : Settles fn_fill
fill_settles = record {
  total = λ κs a. tt;
  same = λ κs a x y s t.
      let e = leaving_one (s ∙ sym t) in
      alike (paper_one {x = x.0} {y = y.0} e.0) (λ i. (tt, (tt, (e.1 i, tt))));
}

-- lays nothing; lays over the octets before the area
pub fill_idle : Allows fn_fill ([], ([], tt)) (second, (at (9 ∷ []), (at_mut (7 ∷ 7 ∷ []), tt))) (Ok 1, (tt, (tt, (7 ∷ 7 ∷ [], tt)))) → ⊥
unfolding finish_length
fill_idle e = let z : ◌≡◌ {A = ℕ} 7 9 = ap (λ (l : List ℕ). get_or l 1 0) (leaving_one e).1 in omega arith

pub fill_early : Allows fn_fill ([], ([], tt)) (second, (at (9 ∷ []), (at_mut (7 ∷ 7 ∷ []), tt))) (Ok 1, (tt, (tt, (9 ∷ 7 ∷ [], tt)))) → ⊥
unfolding finish_length
fill_early e = let z : ◌≡◌ {A = ℕ} 9 7 = ap (λ (l : List ℕ). get_or l 0 0) (leaving_one e).1 in omega arith

pub finish_settles : Settles fn_finish
finish_settles = record {
  total = λ κs a. tt;
  same = λ κs a x y s t. let e = leaving_one (s ∙ sym t) in
      alike (paper_one e.0) (λ i. (tt, (e.1 i, tt)));
}

-- start plus size wrapped
pub finish_wrapped : Allows fn_finish ([], tt) (huge, (at_mut (1 ∷ 2 ∷ 3 ∷ 4 ∷ 5 ∷ 6 ∷ []), tt)) (Ok 6, (tt, (1 ∷ 2 ∷ 3 ∷ 4 ∷ 5 ∷ 6 ∷ [], tt))) → ⊥
unfolding finish_length
finish_wrapped e = let z : ◌≡◌ {A = ℕ} 0 1 = cc in omega arith

-- leaves the FECF out
pub finish_unsealed : Allows fn_finish ([], tt) (sealing, (at_mut (0x31 ∷ 0 ∷ 0 ∷ []), tt)) (Ok 3, (tt, (0x31 ∷ 0 ∷ 0 ∷ [], tt))) → ⊥
unfolding finish_length checksum_of feed bits lows bit step
finish_unsealed e = let z : ◌≡◌ {A = ℕ} 0 0xC7 = cc in omega arith
