-- What the checks of a frame that is written say, path by path, also in front of further checks.
use mathlib.Core.Path.{◌≡◌, refl, ap, sym, ◌∙◌}
use Prim.Native.Nat.{ℕ, ◌<◌, ◌≤◌}
use mathlib.Core.Bool.{Bool, true, false, ◌||◌}
use mathlib.Core.List.{List, [], ◌∷◌, ◌++◌}
use lib.Dec.{ltb}
use borrow.Author.Tests.{lt-ltb, le-ltb, ltb-false}
use Rattle.uslp_kinds.specs.Outcome.{Outcome, done, refused, first_of}
use Rattle.uslp_kinds.proofs.Outcomes.{not_done, done_one, passed}
use Rattle.uslp_kinds.proofs.Firsts.{Check, first_refused}
use Rattle.uslp_kinds.specs.Kinds.{rule_number}
use Rattle.uslp_kinds.specs.Kinds.{count_bad}
use Rattle.uslp_primary_header.specs.Header.{header_checking}
use Rattle.uslp_primary_header.specs.declared.PrimaryHeader.{PrimaryHeader}
use Rattle.uslp_primary_header.proofs.Checks as header
use Rattle.uslp_data_field_header.specs.Field.{pointer_bad, field_checks, field_checking}
use Rattle.uslp_data_field_header.specs.declared.TransferFrameDataFieldHeader.{TransferFrameDataFieldHeader}
use Rattle.uslp_data_field_header.proofs.Checks as field
use Rattle.uslp_writer.specs.Frame.{total, ocf_missing, frame_checks, frame_length}
use Rattle.uslp_writer.specs.declared.TransferFrameCreator.{TransferFrameCreator}

-- what comes out of a check is what went in
pub header_self : (h g : PrimaryHeader) → header_checking h ≡ done g → header_checking h ≡ done h
header_self h g e = e ∙ ap done (sym (header.checks_same h g e))

pub field_self : (f g : TransferFrameDataFieldHeader) → field_checking f ≡ done g → field_checking f ≡ done f
field_self f g e = e ∙ ap done (field.checking_same f e)

-- what a frame that can be written has passed
pub record Ready (c : TransferFrameCreator) (n : ℕ) : Type 0 where
  pub header_passes : header_checking c.primary_header ≡ done c.primary_header
  pub field_passes : field_checking c.data_field_header ≡ done c.data_field_header
  pub ocf_given : ocf_missing c ≡ false
  pub fits : total c n ≤ 65536

module _ {A : Type 0} (c : TransferFrameCreator) (n : ℕ) (rest : List (Bool × Outcome A)) (last : Outcome A) where
  -- the checks behind those of the headers
  abbrev own : List (Bool × Outcome A)
  own = (ocf_missing c, refused 11 []) ∷ (ltb 65536 (total c n), refused 12 []) ∷ rest

  abbrev all : Outcome A
  all = first_of (frame_checks c n ++ rest) last

  checks_header : {k : ℕ} {vs : List ℕ} → header_checking c.primary_header ≡ refused k vs → all ≡ refused k vs
  checks_header e = header.checks_refused c.primary_header (field_checks c.data_field_header ++ own) last e

  module _ (h : header_checking c.primary_header ≡ done c.primary_header) where
    past_header : all ≡ first_of (field_checks c.data_field_header ++ own) last
    past_header = header.checks_passed c.primary_header (field_checks c.data_field_header ++ own) last h

    checks_field : {k : ℕ} {vs : List ℕ} → field_checking c.data_field_header ≡ refused k vs → all ≡ refused k vs
    checks_field e = past_header ∙ field.checks_refused c.data_field_header own last e

    module _ (f : field_checking c.data_field_header ≡ done c.data_field_header) where
      past_field : all ≡ first_of own last
      past_field = past_header ∙ field.checks_passed c.data_field_header own last f

      checks_ocf : ocf_missing c ≡ true → all ≡ refused 11 []
      checks_ocf e = past_field ∙ simp e

      checks_long : ocf_missing c ≡ false → 65536 < total c n → all ≡ refused 12 []
      checks_long o e = past_field ∙ simp (o, lt-ltb _ _ e)

  pub checks_passed : Ready c n → all ≡ first_of rest last
  checks_passed r = past_field r.header_passes r.field_passes ∙ simp (r.ocf_given, le-ltb _ _ r.fits)

-- the five checks, as tests
abbrev tests : TransferFrameCreator → ℕ → List Check
tests c n =
    (ltb 63 c.primary_header.vc_id || ltb 15 c.primary_header.map_id || ltb 7 c.primary_header.vc_frame_count_len, 10, [])
    ∷ (
      count_bad c.primary_header.vc_frame_count_len
          c.primary_header.vc_frame_count,
      8,
      c.primary_header.vc_frame_count ∷ c.primary_header.vc_frame_count_len ∷ [],
    )
    ∷ (
      pointer_bad c.data_field_header.construction_rule c.data_field_header.fhp_or_lvo,
      9,
      rule_number
          c.data_field_header.construction_rule ∷ [],
    )
    ∷ (ocf_missing c, 11, [])
    ∷ (ltb 65536 (total c n), 12, [])
    ∷ []

pub checks_refused : {A : Type 0} (c : TransferFrameCreator) (n : ℕ) (rest : List (Bool × Outcome A)) (last : Outcome A) {k : ℕ} {vs : List ℕ}
    → frame_length c n ≡ refused k vs → first_of (frame_checks c n ++ rest) last ≡ refused k vs
unfolding frame_length
checks_refused c n rest last e = first_refused (total c n) (tests c n) rest last e

-- the same of `frame_length`
module _ (c : TransferFrameCreator) (n : ℕ) where
  pub length_header : {k : ℕ} {vs : List ℕ} → header_checking c.primary_header ≡ refused k vs → frame_length c n ≡ refused k vs
  unfolding frame_length
  length_header = checks_header c n [] (done (total c n))

  module _ (h : header_checking c.primary_header ≡ done c.primary_header) where
    pub length_field_lem : {k : ℕ} {vs : List ℕ} → field_checking c.data_field_header ≡ refused k vs → frame_length c n ≡ refused k vs
    unfolding frame_length
    length_field_lem = checks_field c n [] (done (total c n)) h

    module _ (f : field_checking c.data_field_header ≡ done c.data_field_header) where
      pub length_ocf : ocf_missing c ≡ true → frame_length c n ≡ refused 11 []
      unfolding frame_length
      length_ocf = checks_ocf c n [] (done (total c n)) h f

      pub length_long : ocf_missing c ≡ false → 65536 < total c n → frame_length c n ≡ refused 12 []
      unfolding frame_length
      length_long = checks_long c n [] (done (total c n)) h f

  pub length_done : Ready c n → frame_length c n ≡ done (total c n)
  unfolding frame_length
  length_done = checks_passed c n [] (done (total c n))

-- a length that was given: each check has passed
module _ (c : TransferFrameCreator) (n : ℕ) {m : ℕ} (e : frame_length c n ≡ done m) where
  header_by : (o : Outcome PrimaryHeader) → header_checking c.primary_header ≡ o → header_checking c.primary_header ≡ done c.primary_header
  header_by (done h) p = header_self _ h p
  header_by (refused k vs) p = absurd (not_done (sym (length_header c n p) ∙ e))

  header_good : header_checking c.primary_header ≡ done c.primary_header
  header_good = header_by (header_checking c.primary_header) refl

  pub given_ready : Ready c n × (total c n ≡ m)
  unfolding frame_length
  given_ready =
      let f = field.checks_done c.data_field_header (own c n [] (done (total c n))) (done (total c n))
      (sym (past_header c n [] (done (total c n)) header_good) ∙ e) in
      let o = passed 11 [] (ocf_missing c) _ f.1 in
      let t = passed 12 [] (ltb 65536 (total c n)) _ o.1 in (
        record { header_passes = header_good; field_passes = f.0; ocf_given = o.0; fits = ltb-false _ _ t.0 },
        done_one t.1,
      )
