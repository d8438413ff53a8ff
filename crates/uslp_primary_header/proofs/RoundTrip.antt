-- Reading a layout gives its header, reading and then writing gives the octets, writing and then reading gives the header.
-- And when two headers are the same but for the count's width.
use mathlib.Core.Path.{◌≡◌, refl, ap, ap₂, sym, ◌∙◌, subst}
use Prim.Native.Nat.{ℕ, ◌+◌, ◌/◌, ◌<◌, ◌≤◌}
use mathlib.Core.List.{List, [], ◌∷◌, ◌++◌}
use mathlib.Core.Bool.{Bool, true, false, not, ◌&&◌}
use mathlib.Core.Logic.{◌↔◌}
use native.Mathlib.Omega.{arith}
use native.Mathlib.Nat.{mod-lt}
use native.Mathlib.Decide.{dec_lt}
use borrow.Author.Tests.{ltb-false, le-ltb, eqb-true, eqb-false, eq-eqb, not-false}
use lib.ListN.{length, take, drop, length-append}
use lib.Seq.{take-add}
use lib.Dec.{lit<, lit≤, ltb, eqb}
use Rattle.uslp_octets.specs.Octets.{AreOctets, BitField, bits_in, octets, pack, word, named}
use Rattle.uslp_octets.proofs.Laws.{length_octets, octets_word, word_octets, word_lt, unpack_pack, pack_unpack}
use Rattle.uslp_kinds.specs.Outcome.{Outcome, done, refused, leaving}
use Rattle.uslp_kinds.specs.Kinds.{source_or_dest_number, source_or_dest_of, bypass_number, bypass_of, command_number, command_of}
use Rattle.uslp_kinds.proofs.Cases.{source_back, bypass_back, command_back}
use Rattle.uslp_kinds.proofs.Back.{one_to_one, leaving_one}
use Rattle.uslp_kinds.proofs.Outcomes.{not_done}
use Rattle.uslp_kinds.proofs.Firsts.{Check, Passing, first_done, first_up_to}
use Rattle.uslp_primary_header.specs.Header.{flag, fixed_table, table, len_header, with_count, same_but_width, header_of, format, rows_in, spare_in, reading_of, header_checking, header_reading, header_writing, Fitting}
use Rattle.uslp_primary_header.specs.declared.PrimaryHeader.{PrimaryHeader}
use Rattle.uslp_primary_header.proofs.Checks.{count_in, checks_done, checks_same}
use Rattle.uslp_primary_header.proofs.Rows.{header_eq, flag_back, rows_header, rows_fit, rows_back, table_split}
use Rattle.uslp_primary_header.proofs.WritePaths.{writing_refused, writing_short, writing_done}

pub length_table : (spare : ℕ) (h : PrimaryHeader) → length (pack (table spare h)) ≡ len_header h
length_table spare h =
    let e : bits_in (table spare h) / 8 ≡ len_header h = omega arith in
    length_octets _ _ ∙ e

-- any value of the spare bits, and any octets behind the header
pub layout_read : (spare : ℕ) (h : PrimaryHeader) (t : List ℕ) → spare < 4 → Fitting h → header_reading (pack (table spare h) ++ t) ≡ done h
unfolding header_reading
layout_read spare h t small f =
    let w : ℕ = h.vc_frame_count_len in
    let n : ℕ = h.vc_frame_count in
    let s : List ℕ = pack (fixed_table spare h) ++ (octets w n ++ t) in
    let room : 7 + w ≤ length s = omega (arith, length-append (octets w n) t, length_octets w n) in
    rw (table_split spare h f.checks_pass)
    (ap (λ (rows : List BitField). reading_of rows s) (unpack_pack (fixed_table spare h) 7 refl (octets w n ++ t) (rows_fit spare h small f))
    ∙ simp (
      le-ltb (length s) 4 (omega arith),
      le-ltb (length s) 7 (omega arith),
      le-ltb (length s) (7 + w) room,
      word_octets
          (pack (fixed_table spare h)) t w n (count_in h f.checks_pass),
    )
    (ap done (rows_header spare h)))

-- the checks of reading, as tests, and the header that stands in the octets
abbrev tests : List BitField → List ℕ → List Check
tests rows s =
    (ltb (length s) 4, 1, length s ∷ 4 ∷ [])
    ∷ (eqb (named "truncated" rows) 1, 3, [])
    ∷ (ltb (length s) 7, 1, length s ∷ 7 ∷ [])
    ∷ (not (eqb (named "version" rows) 12), 4, named "version" rows ∷ [])
    ∷ (ltb (length s) (7 + named "count width" rows), 1, length s ∷ (7 + named "count width" rows) ∷ [])
    ∷ []

abbrev pub header_in : List ℕ → PrimaryHeader
header_in s = header_of (rows_in s) (word 7 (named "count width" (rows_in s)) s)

-- its refusals are 1, 3 and 4
pub reading_up_to : (s : List ℕ) {k : ℕ} {vs : List ℕ} → header_reading s ≡ refused k vs → k ≤ 4
unfolding header_reading
reading_up_to s =
    first_up_to 4 (tests (rows_in s) s) (done (header_in s)) (lit≤ tt, (lit≤ tt, (lit≤ tt, (lit≤ tt, (lit≤ tt, tt))))) (λ e. absurd (not_done (sym e)))

-- what was read: no test held, and the header is the one that stands in the octets
module _ (s : List ℕ) (h : PrimaryHeader) (e : header_reading s ≡ done h) where
  read_passed : Passing (tests (rows_in s) s) × (header_in s ≡ h)
  unfolding header_reading
  read_passed = first_done (tests (rows_in s) s) e

  pub read_in : header_in s ≡ h
  read_in = read_passed.1

  pub read_long : len_header h ≤ length s
  read_long = rw (sym read_passed.1) (ltb-false (length s) (len_header (header_in s)) (read_passed.0 4))

  -- three bits say the count's width
  pub read_width : h.vc_frame_count_len ≤ 7
  read_width = let e : (header_in s).vc_frame_count_len ≡ h.vc_frame_count_len = ap (λ (k : PrimaryHeader). k.vc_frame_count_len)
      read_passed.1 in omega arith

-- the header that stands in octets fits, and is laid out as they are
fitting_in : (s : List ℕ) → AreOctets s → Fitting (header_in s)
fitting_in s oct =
    record {
      spacecraft_fits = mod-lt _ (lit< tt);
      length_fits = mod-lt _ (lit< tt);
      checks_pass = checks_done (header_in s) (omega arith) (omega arith) (omega arith) (word_lt s 7 oct (named "count width" (rows_in s)));
    }

layout_in : (s : List ℕ) → AreOctets s → len_header (header_in s) ≤ length s → named "version" (rows_in s) ≡ 12 → named "truncated" (rows_in s) ≡ 0
    → take (len_header (header_in s)) s ≡ pack (table (spare_in s) (header_in s))
layout_in s oct long version whole =
    let w : ℕ = named "count width" (rows_in s) in
    take-add 7 w s
    ∙ sym
    (table_split (spare_in s) (header_in s) (fitting_in s oct).checks_pass
    ∙ ap₂ (λ (a b : List ℕ). a ++ b)
    (ap pack (rows_back (word 0 7 s) (word 7 w s) version whole) ∙ pack_unpack format 7 refl s oct (omega arith))
    (octets_word s 7 oct w long))

module _ (s : List ℕ) (h : PrimaryHeader) (oct : AreOctets s) (e : header_reading s ≡ done h) where
  pub read_fitting : Fitting h
  read_fitting = subst Fitting (read_passed s h e).1 (fitting_in s oct)

  pub read_layout : take (len_header h) s ≡ pack (table (spare_in s) h)
  read_layout =
      let p = read_passed s h e in
      let whole : named "truncated" (rows_in s) ≡ 0 = omega (arith, eqb-false (named "truncated" (rows_in s)) 1 (p.0 1)) in
      subst (λ (k : PrimaryHeader). take (len_header k) s ≡ pack (table (spare_in s) k)) p.1
      (layout_in s oct (ltb-false (length s) (len_header (header_in s)) (p.0 4)) (eqb-true _ _ (not-false _ (p.0 3))) whole)

-- what was read with the spare bits 0, and then written, comes back
pub read_written : (s t : List ℕ) (h : PrimaryHeader) → AreOctets s → header_reading s ≡ done h → spare_in s ≡ 0 → len_header h ≤ length t
    → header_writing h t ≡ leaving (done (len_header h)) (take (len_header h) s ++ drop (len_header h) t)
read_written s t h oct e spare room =
    writing_done h t (read_fitting s h oct e).checks_pass room
    ∙ ap (λ (l : List ℕ). leaving (done (len_header h)) (l ++ drop (len_header h) t))
    (sym (read_layout s h oct e ∙ ap (λ (z : ℕ). pack (table z h)) spare))

-- what was written: the checks passed, and there was room
not_left : {k n : ℕ} {vs s t : List ℕ} → leaving (refused k vs) s ≡ leaving (done n) t → ⊥
not_left e = not_done (leaving_one e).0

module _ (h : PrimaryHeader) (s s' : List ℕ) (n : ℕ) (e : header_writing h s ≡ leaving (done n) s') where
  passed_by : (o : Outcome PrimaryHeader) → header_checking h ≡ o → header_checking h ≡ done h
  passed_by (done g) q = q ∙ ap done (sym (checks_same h g q))
  passed_by (refused k vs) q = absurd (not_left (sym (writing_refused h s q) ∙ e))

  pub written_passed : header_checking h ≡ done h
  written_passed = passed_by (header_checking h) refl

  pub written_room : len_header h ≤ length s
  written_room = elim (dec_lt (length s) (len_header h)) [ yes a ↦ absurd (not_left (sym (writing_short h s written_passed a) ∙ e)) | no a ↦ omega arith ]

pub written_read : (h : PrimaryHeader) (s s' : List ℕ) (n : ℕ) → h.spacecraft_id < 65536 → h.frame_len_field < 65536
    → header_writing h s ≡ leaving (done n) s' → header_reading s' ≡ done h
written_read h s s' n x l e =
    let p = written_passed h s s' n e in
    ap header_reading (sym (leaving_one (sym (writing_done h s p (written_room h s s' n e)) ∙ e)).1)
    ∙ layout_read 0 h (drop (len_header h) s) (lit< tt) (record { spacecraft_fits = x; length_fits = l; checks_pass = p })

-- a conjunction that holds: both parts hold
both : (p q : Bool) → p && q ≡ true → (p ≡ true) × (q ≡ true)
both true q e = (refl, e)
both false q e = (e, absurd (let z : ◌≡◌ {A = ℕ} 0 1 = cc in omega arith))

same : (n : ℕ) → eqb n n ≡ true
same n = eq-eqb n n refl

module _ (a b : PrimaryHeader) where
  all_same : same_but_width a b ≡ true → with_count b.vc_frame_count_len a.vc_frame_count a ≡ b
  all_same e =
      let h = both _ _ e in
      let g = both _ _ h.0 in
      let f = both _ _ g.0 in
      let k = both _ _ f.0 in
      let l = both _ _ k.0 in
      let m = both _ _ l.0 in
      let v = both _ _ m.0 in
      let x = both _ _ v.0 in
      header_eq
      (eqb-true _ _ x.0)
      (one_to_one source_or_dest_number source_or_dest_of source_back (eqb-true _ _ x.1))
      (eqb-true _ _ v.1)
      (eqb-true _ _ m.1)
      (eqb-true _ _ l.1)
      (one_to_one bypass_number bypass_of bypass_back (eqb-true _ _ k.1))
      (one_to_one command_number command_of command_back (eqb-true _ _ f.1))
      (one_to_one flag (λ (n : ℕ). eqb n 1) flag_back (eqb-true _ _ g.1))
      refl
      (eqb-true _ _ h.1)

  pub same_exactly : (same_but_width a b ≡ true) ↔ (with_count b.vc_frame_count_len a.vc_frame_count a ≡ b)
  same_exactly = (all_same, λ e. ap (same_but_width a) (sym e) ∙ simp same)
