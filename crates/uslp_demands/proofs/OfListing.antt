-- The promise of `uslp_listing` settles its call, and shuts out two tempting wrong answers; and what it says of frame F.
use mathlib.Core.Path.{◌≡◌, refl, sym, ◌∙◌}
use mathlib.Core.List.{[], ◌∷◌}
use Prim.Native.Nat.{ℕ}
use native.Mathlib.Omega.{arith}
use Rattle.uslp_kinds.proofs.Back.{leaving_one, paper_one}
use Rattle.uslp_kinds.specs.declared.Refusal.TheVariants.{ShortTarget}
use Rattle.uslp_primary_header.specs.Header.{header_reading}
use Rattle.uslp_data_field_header.specs.Field.{field_reading}
use Rattle.uslp_reader.specs.Reader.{frame_reading}
use Rattle.uslp_reader.specs.EndToEnd.{cut_up_to}
use Rattle.uslp_text.specs.Text.{width_in}
use Rattle.uslp_listing.specs.Listing.{lines, listing, listing_over}
use Rattle.uslp_listing.proofs as listing_proofs
use Rattle.uslp_demands.specs.Promise.{Function, function, at, at_mut, Allows, Settles}
use Rattle.uslp_roundtrip.specs.Samples.{octets_f}
use Rattle.uslp_demands.proofs.Alike.{alike}
use Rattle.std.specs.Prelude.{Ok, Err}

-- the functions, each with its promise
abbrev pub fn_list : Function
fn_list = function listing_proofs.list.Kinds.ps listing_proofs.list.Kinds.r listing_proofs.list.Reads.Pre listing_proofs.list.Reads.Learnt

pub list_settles : Settles fn_list
list_settles = record {
  total = λ κs a. tt;
  same = λ κs a x y s t. let e = leaving_one (s ∙ sym t) in
      alike (paper_one e.0) (λ i. (tt, (e.1 i, tt)));
}

-- takes a buffer of any length
pub list_lax : Allows fn_list ([], ([], tt)) (at [], (at_mut [], tt)) (Ok 0, (tt, ([], tt))) → ⊥
unfolding listing_over
list_lax e = let d = (leaving_one e).0 in let z : ◌≡◌ {A = ℕ} 0 1 = cc in omega arith

-- writes what fits of it
pub list_part : Allows fn_list ([], ([], tt)) (at [], (at_mut (0 ∷ []), tt)) (Err (ShortTarget 1 524400), (tt, (97 ∷ [], tt))) → ⊥
unfolding listing_over
list_part e = let d = (leaving_one e).1 in let z : ◌≡◌ {A = ℕ} 97 0 = cc in omega arith

-- the whole text for frame F alone
pub listing_F : listing octets_f ≡ 97 ∷ 116 ∷ 32 ∷ 108 ∷ 101 ∷ 110 ∷ 103 ∷ 116 ∷ 104 ∷ 32 ∷ 115 ∷ 112 ∷ 97 ∷ 99 ∷ 101 ∷ 99 ∷ 114 ∷ 97 ∷ 102 ∷ 116 ∷
    32 ∷ 99 ∷ 104 ∷ 97 ∷ 110 ∷ 110 ∷ 101 ∷ 108 ∷ 32 ∷ 109 ∷ 97 ∷ 112 ∷ 32 ∷ 99 ∷ 111 ∷ 117 ∷ 110 ∷ 116 ∷ 32 ∷ 100 ∷ 97 ∷ 116 ∷ 97 ∷ 10 ∷ 48 ∷ 32 ∷
    49 ∷ 49 ∷ 32 ∷ 52 ∷ 54 ∷ 54 ∷ 48 ∷ 32 ∷ 53 ∷ 32 ∷ 51 ∷ 32 ∷ 55 ∷ 32 ∷ 50 ∷ 10 ∷ 102 ∷ 114 ∷ 97 ∷ 109 ∷ 101 ∷ 115 ∷ 32 ∷ 49 ∷ 32 ∷ 115 ∷ 116 ∷
    111 ∷ 112 ∷ 112 ∷ 101 ∷ 100 ∷ 32 ∷ 49 ∷ 49 ∷ 32 ∷ 97 ∷ 110 ∷ 115 ∷ 119 ∷ 101 ∷ 114 ∷ 32 ∷ 48 ∷ 10 ∷ []
unfolding listing lines cut_up_to frame_reading header_reading field_reading width_in
listing_F = refl
