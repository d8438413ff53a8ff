-- What `header_writing` says, path by path.
use mathlib.Core.Path.{◌≡◌, ap, sym, ◌∙◌}
use Prim.Native.Nat.{ℕ, ◌-◌, ◌<◌, ◌≤◌}
use native.Mathlib.Omega.{arith}
use mathlib.Core.Bool.{Bool}
use mathlib.Core.List.{List, [], ◌∷◌, ◌++◌}
use borrow.Author.Tests.{le-ltb, lt-ltb}
use lib.Dec.{ltb}
use lib.ListN.{length, take, drop, length-drop}
use lib.Seq.{length-take-le, drop-drop}
use Rattle.uslp_octets.specs.Octets.{octets, value_of, pack}
use Rattle.uslp_kinds.specs.Outcome.{Outcome, done, refused, leaving, only_if_done, first_of}
use Rattle.uslp_primary_header.specs.Header.{fixed_table, table, len_header, header_checks, header_checking, header_writing}
use Rattle.uslp_primary_header.specs.declared.PrimaryHeader.{PrimaryHeader}
use Rattle.uslp_primary_header.proofs.Checks.{checks_refused, checks_passed}
use Rattle.uslp_primary_header.proofs.Rows.{table_split}

-- the check that follows those of the header
abbrev room : PrimaryHeader → List ℕ → List (Bool × Outcome ℕ)
room h s = (ltb (length s) (len_header h), refused 2 (length s ∷ len_header h ∷ [])) ∷ []

module _ (h : PrimaryHeader) (s : List ℕ) where
  -- an answer, and the octets that it leaves
  answered : {o : Outcome ℕ} → first_of (header_checks h ++ room h s) (done (len_header h)) ≡ o
      → header_writing h s ≡ only_if_done o (pack (table 0 h) ++ drop (len_header h) s) s
  unfolding header_writing
  answered e = ap (λ (o : Outcome ℕ). only_if_done o (pack (table 0 h) ++ drop (len_header h) s) s) e

  pub writing_refused : {k : ℕ} {vs : List ℕ} → header_checking h ≡ refused k vs → header_writing h s ≡ leaving (refused k vs) s
  writing_refused e = answered (checks_refused h (room h s) (done (len_header h)) e)

  -- the number of the fixed rows, over the first seven octets
  pub fixed_put : 7 ≤ length s → {n : ℕ} {ys : List ℕ} → n ≡ value_of (fixed_table 0 h) → ys ≡ octets (length (take 7 s)) n
      → ys ++ drop 7 s ≡ pack (fixed_table 0 h) ++ drop 7 s
  fixed_put long en ey = rw (ey, en, length-take-le 7 s long)

  module _ (e : header_checking h ≡ done h) where
    pub writing_short : length s < len_header h → header_writing h s ≡ leaving (refused 2 (length s ∷ len_header h ∷ [])) s
    writing_short a = answered {o = refused 2 (length s ∷ len_header h ∷ [])}
        (checks_passed h (room h s) (done (len_header h)) e ∙ rw (lt-ltb (length s) (len_header h) a))

    pub writing_done : len_header h ≤ length s → header_writing h s ≡ leaving (done (len_header h)) (pack (table 0 h) ++ drop (len_header h) s)
    writing_done a = answered {o = done (len_header h)} (checks_passed h (room h s) (done (len_header h)) e ∙ rw (le-ltb (length s) (len_header h) a))

    -- the first seven octets, and then the count's over those that follow
    pub writing_put : (n : ℕ) (b ys : List ℕ) → n ≡ len_header h → n ≤ length s → b ≡ pack (fixed_table 0 h) ++ drop 7 s
        → ys ≡ octets (length (take (n - 7) (drop 7 b))) h.vc_frame_count
        → leaving (done n) (take 7 b ++ (ys ++ drop (n - 7) (drop 7 b))) ≡ header_writing h s
    writing_put n b ys en room eb ey =
        let w : ℕ = h.vc_frame_count_len in
        let z : n - 7 ≡ w = omega arith in
        let long : length (take w (drop 7 s)) ≡ w = length-take-le w (drop 7 s) (omega (arith, length-drop 7 s)) in
        let all : ys ≡ octets w h.vc_frame_count = ey ∙ rw (eb, z, long) in
        rw (all, eb, z, drop-drop w 7 s, en)
        (sym (writing_done (omega arith) ∙ ap (λ (l : List ℕ). leaving (done (len_header h)) (l ++ drop (len_header h) s)) (table_split 0 h e)))
