-- The promises of `uslp_primary_header` settle each call, and shut out two tempting wrong answers of each function.
use mathlib.Core.Path.{◌≡◌, refl, sym, ap, ◌∙◌}
use mathlib.Core.Bool.{true, false}
use mathlib.Core.List.{List, [], ◌∷◌}
use Prim.Native.Nat.{ℕ, ◌^◌, ◌-◌}
use native.Mathlib.Omega.{arith}
use Rattle.uslp_kinds.proofs.Back.{leaving_one, paper_one}
use Rattle.uslp_kinds.proofs.Outcomes.{done_one}
use Rattle.uslp_kinds.specs.declared.SourceOrDestField.TheVariants.{Source, Dest}
use Rattle.uslp_kinds.specs.declared.BypassSequenceControlFlag.TheVariants.{SequenceControlledQoS}
use Rattle.uslp_kinds.specs.declared.ProtocolControlCommandFlag.TheVariants.{TfdfContainsUserData}
use Rattle.uslp_kinds.specs.declared.Refusal.TheVariants.{ShortSource, ShortTarget, BadVersion, BadCount, BadField, TooLong}
use Rattle.uslp_primary_header.specs.Header.{header_making, header_checking, count_setting, length_setting, with_count, with_length, header_reading, header_writing}
use Rattle.uslp_primary_header.specs.declared.PrimaryHeader.{PrimaryHeader}
use Rattle.uslp_primary_header.proofs as header
use Rattle.uslp_demands.specs.Promise.{Function, function, at, at_mut, Allows, Settles}
use Rattle.uslp_roundtrip.specs.Samples.{some, made}
use Rattle.uslp_demands.proofs.Alike.{alike}
use Rattle.std.specs.Borrow.{Bor}
use Rattle.std.specs.Prelude.{Ok, Err}

-- the functions, each with its promise
abbrev fn_new : Function
fn_new =
    function header.PrimaryHeader.new.Kinds.ps header.PrimaryHeader.new.Kinds.r
    header.PrimaryHeader.new.Reads.Pre header.PrimaryHeader.new.Reads.Learnt

abbrev fn_with_vc_frame_count : Function
fn_with_vc_frame_count =
    function header.PrimaryHeader.with_vc_frame_count.Kinds.ps header.PrimaryHeader.with_vc_frame_count.Kinds.r
    header.PrimaryHeader.with_vc_frame_count.Reads.Pre header.PrimaryHeader.with_vc_frame_count.Reads.Learnt

abbrev fn_with_frame_len : Function
fn_with_frame_len =
    function header.PrimaryHeader.with_frame_len.Kinds.ps header.PrimaryHeader.with_frame_len.Kinds.r
    header.PrimaryHeader.with_frame_len.Reads.Pre header.PrimaryHeader.with_frame_len.Reads.Learnt

abbrev fn_checked : Function
fn_checked =
    function header.PrimaryHeader.checked.Kinds.ps header.PrimaryHeader.checked.Kinds.r
    header.PrimaryHeader.checked.Reads.Pre header.PrimaryHeader.checked.Reads.Learnt

abbrev fn_vc_frame_count : Function
fn_vc_frame_count =
    function header.PrimaryHeader.vc_frame_count.Kinds.ps header.PrimaryHeader.vc_frame_count.Kinds.r
    header.PrimaryHeader.vc_frame_count.Reads.Pre header.PrimaryHeader.vc_frame_count.Reads.Learnt

abbrev fn_vc_frame_count_len : Function
fn_vc_frame_count_len =
    function header.PrimaryHeader.vc_frame_count_len.Kinds.ps header.PrimaryHeader.vc_frame_count_len.Kinds.r
    header.PrimaryHeader.vc_frame_count_len.Reads.Pre header.PrimaryHeader.vc_frame_count_len.Reads.Learnt

abbrev fn_len_header : Function
fn_len_header =
    function header.PrimaryHeader.len_header.Kinds.ps header.PrimaryHeader.len_header.Kinds.r
    header.PrimaryHeader.len_header.Reads.Pre header.PrimaryHeader.len_header.Reads.Learnt

abbrev fn_len_frame : Function
fn_len_frame =
    function header.PrimaryHeader.len_frame.Kinds.ps header.PrimaryHeader.len_frame.Kinds.r
    header.PrimaryHeader.len_frame.Reads.Pre header.PrimaryHeader.len_frame.Reads.Learnt

abbrev fn_equals : Function
fn_equals =
    function header.PrimaryHeaderPartialEq.eq.Kinds.ps header.PrimaryHeaderPartialEq.eq.Kinds.r
    header.PrimaryHeaderPartialEq.eq.Reads.Pre header.PrimaryHeaderPartialEq.eq.Reads.Learnt

abbrev fn_from_bytes : Function
fn_from_bytes =
    function header.PrimaryHeader.from_bytes.Kinds.ps header.PrimaryHeader.from_bytes.Kinds.r
    header.PrimaryHeader.from_bytes.Reads.Pre header.PrimaryHeader.from_bytes.Reads.Learnt

abbrev pub fn_write_to_slice : Function
fn_write_to_slice =
    function header.PrimaryHeader.write_to_slice.Kinds.ps header.PrimaryHeader.write_to_slice.Kinds.r
    header.PrimaryHeader.write_to_slice.Reads.Pre header.PrimaryHeader.write_to_slice.Reads.Learnt

-- its octets, and as many zeros
abbrev octets : List ℕ
octets = 0xC1 ∷ 0x23 ∷ 0x48 ∷ 0xA6 ∷ 0x00 ∷ 0x0A ∷ 0x01 ∷ 0x07 ∷ []

abbrev zeros : List ℕ
zeros = 0 ∷ 0 ∷ 0 ∷ 0 ∷ 0 ∷ 0 ∷ 0 ∷ 0 ∷ []

-- the same with count 256, which one octet cannot hold, and with width 9, which no call makes
abbrev high : PrimaryHeader
high = with_count 1 256 some

abbrev wide : PrimaryHeader
wide = with_count 9 0 some

pub new_settles : Settles fn_new
new_settles = record {
  total = λ κs a. tt;
  same = λ κs a x y s t. alike
      (paper_one (s ∙ sym t)) refl;
}

-- a length of 0 wrapped to 65,536
pub new_wrapped : Allows fn_new tt (0x1234, (Dest, (5, (3, (0, tt))))) (Ok (with_length 65536 made), (tt, (tt, (tt, (tt, (tt, tt)))))) → ⊥
unfolding header_making
new_wrapped e = let z : ◌≡◌ {A = ℕ} 65535 0 = ap (λ (h : PrimaryHeader). h.frame_len_field) (done_one e) in omega arith

-- takes channel 64
pub new_lax : Allows fn_new tt (0x1234, (Dest, (64, (3, (11, tt))))) (Ok made, (tt, (tt, (tt, (tt, (tt, tt)))))) → ⊥
unfolding header_making
new_lax e = let z : ◌≡◌ {A = ℕ} 0 1 = cc in omega arith

pub with_vc_frame_count_settles : Settles fn_with_vc_frame_count
with_vc_frame_count_settles = record {
  total = λ κs a. tt;
  same = λ κs a x y s t. alike
      (paper_one (s ∙ sym t)) refl;
}

-- takes 256 to the width itself
pub with_vc_frame_count_bound : Allows fn_with_vc_frame_count tt (some, (1, (256, tt))) (Ok high, (tt, (tt, (tt, tt)))) → ⊥
unfolding count_setting
with_vc_frame_count_bound e = let z : ◌≡◌ {A = ℕ} 0 1 = cc in omega arith

-- judges the channel too
pub with_vc_frame_count_channel : Allows fn_with_vc_frame_count tt (
  record {
    spacecraft_id = 0;
    source_or_dest_field = Dest;
    vc_id = 200;
    map_id = 3;
    frame_len_field = 10;
    sequence_control_flag =
        SequenceControlledQoS;
    protocol_control_command_flag = TfdfContainsUserData;
    ocf_flag = false;
    vc_frame_count_len = 1;
    vc_frame_count = 7;
  },
  (1, (7, tt)),
) (Err BadField, (tt, (tt, (tt, tt)))) → ⊥
unfolding count_setting
with_vc_frame_count_channel e = let z : ◌≡◌ {A = ℕ} 0 1 = cc in omega arith

pub with_frame_len_settles : Settles fn_with_frame_len
with_frame_len_settles = record {
  total = λ κs a. tt;
  same = λ κs a x y s t. alike
      (paper_one (s ∙ sym t)) refl;
}

-- 65,537 wrapped into the field
pub with_frame_len_wrapped : Allows fn_with_frame_len tt (some, (65537, tt)) (Ok (with_length 1 some), (tt, (tt, tt))) → ⊥
unfolding length_setting
with_frame_len_wrapped e = let z : ◌≡◌ {A = ℕ} 0 1 = cc in omega arith

-- refuses 65,536
pub with_frame_len_strict : Allows fn_with_frame_len tt (some, (65536, tt)) (Err TooLong, (tt, (tt, tt))) → ⊥
unfolding length_setting
with_frame_len_strict e = let z : ◌≡◌ {A = ℕ} 0 1 = cc in omega arith

pub checked_settles : Settles fn_checked
checked_settles = record {
  total = λ κs a. tt;
  same = λ κs a x y s t. alike
      (paper_one (s ∙ sym t)) refl;
}

-- passes every header
pub checked_lax : Allows fn_checked tt (wide, tt) (Ok wide, (tt, tt)) → ⊥
unfolding header_checking
checked_lax e = let z : ◌≡◌ {A = ℕ} 0 1 = cc in omega arith

-- judges the count before the fields
pub checked_count_first : Allows fn_checked tt (with_count 9 (2 ^ 64 - 1) some, tt) (Err (BadCount (2 ^ 64 - 1) 9), (tt, tt)) → ⊥
unfolding header_checking
checked_count_first e = let z : ◌≡◌ {A = ℕ} 0 1 = cc in omega arith

pub vc_frame_count_settles : Settles fn_vc_frame_count
vc_frame_count_settles = record { total = λ κs a. tt; same = λ κs a x y s t. alike (s ∙ sym t) refl }

-- the width
pub vc_frame_count_width : Allows fn_vc_frame_count tt (some, tt) (1, (tt, tt)) → ⊥
vc_frame_count_width e = omega arith

-- the count reduced to its width
pub vc_frame_count_reduced : Allows fn_vc_frame_count tt (high, tt) (0, (tt, tt)) → ⊥
vc_frame_count_reduced e = omega arith

pub vc_frame_count_len_settles : Settles fn_vc_frame_count_len
vc_frame_count_len_settles = record { total = λ κs a. tt; same = λ κs a x y s t. alike (s ∙ sym t) refl }

-- the count
pub vc_frame_count_len_count : Allows fn_vc_frame_count_len tt (some, tt) (7, (tt, tt)) → ⊥
vc_frame_count_len_count e = omega arith

-- a width of 9 clamped to 7
pub vc_frame_count_len_clamped : Allows fn_vc_frame_count_len tt (wide, tt) (7, (tt, tt)) → ⊥
vc_frame_count_len_clamped e = omega arith

pub len_header_settles : Settles fn_len_header
len_header_settles = record { total = λ κs a. tt; same = λ κs a x y s t. alike (s ∙ sym t) refl }

-- seven for all
pub len_header_seven : Allows fn_len_header tt (some, tt) (7, (tt, tt)) → ⊥
len_header_seven e = omega arith

-- eight for all
pub len_header_eight : Allows fn_len_header tt (made, tt) (8, (tt, tt)) → ⊥
len_header_eight e = omega arith

pub len_frame_settles : Settles fn_len_frame
len_frame_settles = record { total = λ κs a. tt; same = λ κs a x y s t. alike (s ∙ sym t) refl }

-- the field as it stands
pub len_frame_field : Allows fn_len_frame tt (some, tt) (10, (tt, tt)) → ⊥
len_frame_field e = omega arith

-- 65,536 wrapped
pub len_frame_wrapped : Allows fn_len_frame tt (with_length 65536 some, tt) (0, (tt, tt)) → ⊥
len_frame_wrapped e = omega arith

pub equals_settles : Settles fn_equals
equals_settles = record { total = λ κs a. tt; same = λ κs a x y s t. alike (s ∙ sym t) refl }

-- a header that is looked at
abbrev seen : PrimaryHeader → Bor PrimaryHeader
seen h = record { ref_ptr = (0, 0); now = h }

-- compares the width
pub equals_width : Allows fn_equals ([], ([], tt)) (seen (with_count 2 7 some), (seen some, tt)) (false, (tt, (tt, tt))) → ⊥
equals_width e = let z : ◌≡◌ {A = ℕ} 0 1 = cc in omega arith

-- skips the count with the width
pub equals_count : Allows fn_equals ([], ([], tt)) (seen made, (seen some, tt)) (true, (tt, (tt, tt))) → ⊥
equals_count e = let z : ◌≡◌ {A = ℕ} 0 1 = cc in omega arith

pub from_bytes_settles : Settles fn_from_bytes
from_bytes_settles = record {
  total = λ κs a. tt;
  same = λ κs a x y s t. alike
      (paper_one (s ∙ sym t)) refl;
}

-- asks for seven octets before the truncated flag
pub from_bytes_truncated : Allows fn_from_bytes ([], tt) (at (0xC1 ∷ 0x23 ∷ 0x48 ∷ 0xA7 ∷ []), tt) (Err (ShortSource 4 7), (tt, tt)) → ⊥
unfolding header_reading
from_bytes_truncated e = let z : ◌≡◌ {A = ℕ} 0 1 = cc in omega arith

-- refuses what can be read
pub from_bytes_refuser : Allows fn_from_bytes ([], tt) (at octets, tt) (Err (BadVersion 12), (tt, tt)) → ⊥
unfolding header_reading
from_bytes_refuser e = let z : ◌≡◌ {A = ℕ} 0 1 = cc in omega arith

-- one header for all octets
pub from_bytes_fixed : Allows fn_from_bytes ([], tt) (at (0xC1 ∷ 0x23 ∷ 0x40 ∷ 0xA6 ∷ 0x00 ∷ 0x0A ∷ 0x01 ∷ 0x07 ∷ []), tt)
    (Ok some, (tt, tt)) → ⊥
unfolding header_reading
from_bytes_fixed e = let d : Dest ≡ Source = ap (λ (h : PrimaryHeader). h.source_or_dest_field) (done_one e) in let z : ◌≡◌ {A = ℕ} 0 1 = cc in omega arith

pub write_to_slice_settles : Settles fn_write_to_slice
write_to_slice_settles = record {
  total = λ κs a. tt;
  same = λ κs a x y s t. let e = leaving_one (s ∙ sym t) in
      alike (paper_one e.0) (λ i. (tt, (e.1 i, tt)));
}

-- writes nothing and says done
pub write_to_slice_idle : Allows fn_write_to_slice ([], tt) (some, (at_mut zeros, tt)) (Ok 8, (tt, (zeros, tt))) → ⊥
unfolding header_writing
write_to_slice_idle e = let z : ◌≡◌ {A = ℕ} 0 0xC1 = cc in omega arith

-- looks at the room before the fields
pub write_to_slice_room_first : Allows fn_write_to_slice ([], tt) (wide, (at_mut [], tt)) (Err (ShortTarget 0 16), (tt, ([], tt))) → ⊥
unfolding header_writing
write_to_slice_room_first e = let z : ◌≡◌ {A = ℕ} 0 1 = cc in omega arith
