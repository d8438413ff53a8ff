-- What the checks of a header that is written say, path by path, also in front of further checks.
use mathlib.Core.Path.{◌≡◌, sym, ◌∙◌}
use Prim.Native.Nat.{ℕ, ◌^◌, ◌<◌, ◌≤◌}
use mathlib.Core.Bool.{Bool, ◌||◌}
use mathlib.Core.List.{List, [], ◌∷◌, ◌++◌}
use native.Mathlib.Omega.{arith}
use native.Mathlib.Decide.{dec_lt, dec_le}
use lib.Dec.{ltb}
use borrow.Author.Tests.{le-ltb, lt-ltb, le-leb, lt-leb}
use Rattle.uslp_kinds.specs.Outcome.{Outcome, done, refused, first_of}
use Rattle.uslp_kinds.specs.Kinds.{count_bad}
use Rattle.uslp_primary_header.specs.Header.{header_checks, header_checking}
use Rattle.uslp_primary_header.specs.declared.PrimaryHeader.{PrimaryHeader}
use Rattle.uslp_kinds.proofs.Outcomes.{not_done}
use Rattle.uslp_kinds.proofs.Firsts.{Check, first_done, first_refused, first_passed}

module _ (h : PrimaryHeader) where
  pub checks_channel : 63 < h.vc_id → header_checking h ≡ refused 10 []
  unfolding header_checking
  checks_channel a = simp (lt-ltb _ _ a)

  module _ (channel : h.vc_id ≤ 63) where
    pub checks_map : 15 < h.map_id → header_checking h ≡ refused 10 []
    unfolding header_checking
    checks_map a = simp (le-ltb _ _ channel, lt-ltb _ _ a)

    module _ (map : h.map_id ≤ 15) where
      pub checks_width : 7 < h.vc_frame_count_len → header_checking h ≡ refused 10 []
      unfolding header_checking
      checks_width a = simp (le-ltb _ _ channel, le-ltb _ _ map, lt-ltb _ _ a)

      module _ (width : h.vc_frame_count_len ≤ 7) where
        pub checks_count : 256 ^ h.vc_frame_count_len ≤ h.vc_frame_count
            → header_checking h ≡ refused 8 (h.vc_frame_count ∷ h.vc_frame_count_len ∷ [])
        unfolding header_checking
        checks_count a = simp (le-ltb _ _ channel, le-ltb _ _ map, le-ltb _ _ width, le-leb _ _ a)

        pub checks_done : h.vc_frame_count < 256 ^ h.vc_frame_count_len → header_checking h ≡ done h
        unfolding header_checking
        checks_done a = simp (le-ltb _ _ channel, le-ltb _ _ map, le-ltb _ _ width, lt-leb _ _ a)

-- checks that passed: each bound holds
module _ (h : PrimaryHeader) (e : header_checking h ≡ done h) where
  pub channel_in : h.vc_id ≤ 63
  channel_in = elim (dec_lt 63 h.vc_id) [ yes a ↦ absurd (not_done (sym (checks_channel h a) ∙ e)) | no a ↦ omega arith ]

  pub map_in : h.map_id ≤ 15
  map_in = elim (dec_lt 15 h.map_id) [ yes a ↦ absurd (not_done (sym (checks_map h channel_in a) ∙ e)) | no a ↦ omega arith ]

  pub width_in_lem : h.vc_frame_count_len ≤ 7
  width_in_lem = elim (dec_lt 7 h.vc_frame_count_len) [ yes a ↦ absurd (not_done (sym (checks_width h channel_in map_in a) ∙ e)) | no a ↦ omega arith ]

  pub count_in : h.vc_frame_count < 256 ^ h.vc_frame_count_len
  count_in =
      elim (dec_le (256 ^ h.vc_frame_count_len) h.vc_frame_count)
      [ yes a ↦ absurd (not_done (sym (checks_count h channel_in map_in width_in_lem a) ∙ e)) | no a ↦ omega arith ]

-- the two checks, as tests
abbrev tests : PrimaryHeader → List Check
tests h =
    (ltb 63 h.vc_id || ltb 15 h.map_id || ltb 7 h.vc_frame_count_len, 10, [])
    ∷ (count_bad h.vc_frame_count_len h.vc_frame_count, 8, h.vc_frame_count ∷ h.vc_frame_count_len ∷ [])
    ∷ []

-- what passes the checks is the header itself
pub checks_same : (h g : PrimaryHeader) → header_checking h ≡ done g → h ≡ g
unfolding header_checking
checks_same h g e = (first_done (tests h) e).1

module _ {A : Type 0} (h : PrimaryHeader) (rest : List (Bool × Outcome A)) (last : Outcome A) where
  pub checks_refused : {k : ℕ} {vs : List ℕ} → header_checking h ≡ refused k vs → first_of (header_checks h ++ rest) last ≡ refused k vs
  unfolding header_checking
  checks_refused e = first_refused h (tests h) rest last e

  pub checks_passed : header_checking h ≡ done h → first_of (header_checks h ++ rest) last ≡ first_of rest last
  unfolding header_checking
  checks_passed e = first_passed (tests h) rest last (first_done (tests h) e).0
