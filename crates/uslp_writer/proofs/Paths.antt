-- What `reserving` and `frame_writing` say, path by path: both are one writing, with another answer and other octets.
use mathlib.Core.Path.{◌≡◌, refl, sym, ◌∙◌}
use Prim.Native.Nat.{ℕ, ◌<◌, ◌≤◌}
use mathlib.Core.Bool.{Bool, false}
use mathlib.Core.List.{List, [], ◌∷◌, ◌++◌}
use native.Mathlib.Omega.{arith}
use native.Mathlib.Decide.{dec_lt}
use lib.Dec.{ltb}
use lib.ListN.{length, drop}
use borrow.Author.Tests.{lt-ltb, le-ltb}
use Rattle.uslp_kinds.specs.Outcome.{Outcome, done, refused, Written, leaving, only_if_done, first_of}
use Rattle.uslp_kinds.proofs.Outcomes.{not_done, done_one}
use Rattle.uslp_kinds.proofs.Back.{leaving_one}
use Rattle.uslp_primary_header.specs.Header.{header_checking}
use Rattle.uslp_data_field_header.specs.Field.{field_checking}
use Rattle.uslp_writer.specs.Frame.{total, ocf_missing, frame_checks, frame_length, frame_octets, frame_writing}
use Rattle.uslp_writer.specs.Reserved.{reservation, reserved_octets, reserving}
use Rattle.uslp_writer.specs.declared.TransferFrameCreator.{TransferFrameCreator}
use Rattle.uslp_writer.specs.declared.TransferFrameCreatorWithReservedData.{TransferFrameCreatorWithReservedData}
use Rattle.uslp_writer.proofs.Lengths.{Ready, checks_refused, checks_passed, given_ready}

-- the check of the buffer, behind those of the frame
abbrev room : {A : Type 0} → TransferFrameCreator → ℕ → List ℕ → List (Bool × Outcome A)
room c n s = (ltb (length s) (total c n), refused 2 (length s ∷ total c n ∷ [])) ∷ []

-- the answer x and the octets `new`, where no check fails
abbrev writing_of : {A : Type 0} → TransferFrameCreator → ℕ → List ℕ → A → List ℕ → Written A
writing_of c n s x new = only_if_done (first_of (frame_checks c n ++ room c n s) (done x)) new s

module _ {A : Type 0} (c : TransferFrameCreator) (n : ℕ) (s : List ℕ) (x : A) (new : List ℕ) where
  of_refused : {k : ℕ} {vs : List ℕ} → frame_length c n ≡ refused k vs → writing_of c n s x new ≡ leaving (refused k vs) s
  of_refused e = rw (checks_refused c n (room c n s) (done x) e)

  module _ (r : Ready c n) where
    of_short : length s < total c n → writing_of c n s x new ≡ leaving (refused 2 (length s ∷ total c n ∷ [])) s
    of_short h = rw (checks_passed c n (room c n s) (done x) r, lt-ltb _ _ h)

    of_done : total c n ≤ length s → writing_of c n s x new ≡ leaving (done x) new
    of_done h = rw (checks_passed c n (room c n s) (done x) r, le-ltb _ _ h)

  -- done: every check has passed
  of_through : {y : A} {t : List ℕ} → writing_of c n s x new ≡ leaving (done y) t → Ready c n × (total c n ≤ length s) × (x ≡ y) × (new ≡ t)
  of_through {y} {t} e = by (frame_length c n) refl
    where
      by : (o : Outcome ℕ) → frame_length c n ≡ o → Ready c n × (total c n ≤ length s) × (x ≡ y) × (new ≡ t)
      by (refused k vs) p = absurd (not_done (leaving_one (sym (of_refused p) ∙ e)).0)
      by (done m) p =
          let r = (given_ready c n p).0 in
          elim (dec_lt (length s) (total c n)) [
            | yes h ↦ absurd (not_done (leaving_one (sym (of_short r h) ∙ e)).0)
            | no h ↦ let w = leaving_one (sym (of_done r (omega arith)) ∙ e) in (r, omega arith, done_one w.0, w.1)
          ]

-- a refusal says the same for another answer and other octets
pub refused_other : {A B : Type 0} (c : TransferFrameCreator) (n : ℕ) (s : List ℕ) (x : A) (y : B) (new other : List ℕ) {k : ℕ} {vs t : List ℕ}
    → writing_of c n s x new ≡ leaving (refused k vs) t → writing_of c n s y other ≡ leaving (refused k vs) t
refused_other c n s x y new other {k} {vs} {t} e = by (frame_length c n) refl
  where
    same : {j : ℕ} {us : List ℕ} → writing_of c n s x new ≡ leaving (refused j us) s → writing_of c n s y other ≡ leaving (refused j us) s
        → writing_of c n s y other ≡ leaving (refused k vs) t
    same {j} {us} p q =
        let r = leaving_one (sym p ∙ e) in
        let a : j ≡ k = cc in
        let b : us ≡ vs = cc in
        cc

    by : (o : Outcome ℕ) → frame_length c n ≡ o → writing_of c n s y other ≡ leaving (refused k vs) t
    by (refused j us) p = same (of_refused c n s x new p) (of_refused c n s y other p)
    by (done m) p =
        let r = (given_ready c n p).0 in
        elim (dec_lt (length s) (total c n)) [
          | yes h ↦ same (of_short c n s x new r h) (of_short c n s y other r h)
          | no h ↦ absurd (not_done (sym (leaving_one (sym (of_done c n s x new r (omega arith)) ∙ e)).0))
        ]

module _ (c : TransferFrameCreator) (n : ℕ) (s : List ℕ) where
  pub reserving_refused : {k : ℕ} {vs : List ℕ} → frame_length c n ≡ refused k vs → reserving c n s ≡ leaving (refused k vs) s
  unfolding reserving
  reserving_refused = of_refused c n s (reservation c n) (reserved_octets c n s)

  module _ {m : ℕ} (e : frame_length c n ≡ done m) where
    pub reserving_short : length s < m → reserving c n s ≡ leaving (refused 2 (length s ∷ m ∷ [])) s
    unfolding reserving
    reserving_short h =
        let g = given_ready c n e in
        rw (← g.1) (of_short c n s (reservation c n) (reserved_octets c n s) g.0 (omega (arith, g.1)))

    pub reserving_done : m ≤ length s → reserving c n s ≡ leaving (done (reservation c n)) (reserved_octets c n s)
    unfolding reserving
    reserving_done h =
        let g = given_ready c n e in
        of_done c n s (reservation c n) (reserved_octets c n s) g.0 (omega (arith, g.1))

  pub reserved_through : {k : TransferFrameCreatorWithReservedData} {t : List ℕ} → reserving c n s ≡ leaving (done k) t
      → Ready c n × (total c n ≤ length s) × (reservation c n ≡ k) × (reserved_octets c n s ≡ t)
  unfolding reserving
  reserved_through = of_through c n s (reservation c n) (reserved_octets c n s)

-- what a writing that was done went through
pub record Through (c : TransferFrameCreator) (d s s' : List ℕ) (n : ℕ) : Type 0 where
  pub header_passes : header_checking c.primary_header ≡ done c.primary_header
  pub field_passes : field_checking c.data_field_header ≡ done c.data_field_header
  pub ocf_given : ocf_missing c ≡ false
  pub fits : total c (length d) ≤ 65536
  pub room : total c (length d) ≤ length s
  pub is_total : n ≡ total c (length d)
  pub left : s' ≡ frame_octets c d ++ drop (total c (length d)) s

module _ (c : TransferFrameCreator) (d s : List ℕ) where
  abbrev over : List ℕ
  over = frame_octets c d ++ drop (total c (length d)) s

  pub writing_refused : {k : ℕ} {vs : List ℕ} → frame_length c (length d) ≡ refused k vs → frame_writing c d s ≡ leaving (refused k vs) s
  unfolding frame_writing
  writing_refused = of_refused c (length d) s (total c (length d)) over

  pub writing_done : Ready c (length d) → total c (length d) ≤ length s → frame_writing c d s ≡ leaving (done (total c (length d))) over
  unfolding frame_writing
  writing_done = of_done c (length d) s (total c (length d)) over

  pub writing_through : (s' : List ℕ) (n : ℕ) → frame_writing c d s ≡ leaving (done n) s' → Through c d s s' n
  unfolding frame_writing
  writing_through s' n e =
      let w = of_through c (length d) s (total c (length d)) over e in
      record {
        header_passes = w.0.header_passes;
        field_passes = w.0.field_passes;
        ocf_given = w.0.ocf_given;
        fits = w.0.fits;
        room = w.1;
        is_total = sym w.2;
        left = sym w.3;
      }
