-- What `frame_reading` says, path by path but for refusal 7, and `contents_in` where the data are there.
use mathlib.Core.Path.{◌≡◌, refl, ap, ap₂, sym, ◌∙◌}
use Prim.Native.Nat.{ℕ, ◌+◌, ◌-◌, ◌<◌, ◌≤◌}
use mathlib.Core.Bool.{Bool, true, false, not, ◌&&◌}
use mathlib.Core.List.{List, [], ◌∷◌}
use native.Mathlib.Omega.{arith}
use native.Mathlib.Decide.{dec_lt}
use borrow.Author.Tests.{le-ltb, lt-ltb, le-leb, eq-eqb, ne_eqb}
use lib.ListN.{length, take, drop}
use lib.Dec.{eqb}
use Rattle.uslp_checksum.specs.Checksum.{checksum_of}
use Rattle.uslp_kinds.specs.Outcome.{Outcome, done, refused}
use Rattle.uslp_kinds.specs.declared.ManagedParameters.{ManagedParameters}
use Rattle.uslp_primary_header.specs.Header.{len_header, len_frame, header_reading}
use Rattle.uslp_primary_header.specs.declared.PrimaryHeader.{PrimaryHeader}
use Rattle.uslp_data_field_header.specs.Field.{field_reading}
use Rattle.uslp_data_field_header.specs.declared.TransferFrameDataFieldHeader.{TransferFrameDataFieldHeader}
use Rattle.uslp_layout.specs.Layout.{needed}
use Rattle.uslp_reader.specs.Reader.{frame_with, stored_fecf, computed_fecf, body_reading, frame_reading, contents_in}
use Rattle.uslp_reader.specs.declared.TransferFrame.{TransferFrame}

-- the test of the checksum: it refuses where it is asked for and not 0, and passes elsewhere
wrong : (fecf : Bool) (n : ℕ) → fecf ≡ true → (n ≡ 0 → ⊥) → fecf && not (eqb n 0) ≡ true
wrong fecf n t h = simp (t, ne_eqb _ _ h)

right : (fecf : Bool) (n : ℕ) → (fecf ≡ true → n ≡ 0) → fecf && not (eqb n 0) ≡ false
right true n h = simp (eq-eqb _ _ (h refl))
right false n h = refl

-- the ways that a reading can go, up to the length that two headers need
pub data Way (s : List ℕ) : Type 0 where
  at_header : (k : ℕ) (vs : List ℕ) → header_reading s ≡ refused k vs → Way s
  too_few : (h : PrimaryHeader) → header_reading s ≡ done h → length s < len_frame h → Way s
  at_field : (h : PrimaryHeader) → header_reading s ≡ done h → len_frame h ≤ length s
      → (k : ℕ) (vs : List ℕ) → field_reading (drop (len_header h) s) ≡ refused k vs → Way s
  to_body : (h : PrimaryHeader) → header_reading s ≡ done h → len_frame h ≤ length s
      → (f : TransferFrameDataFieldHeader) → field_reading (drop (len_header h) s) ≡ done f → Way s

module _ (s : List ℕ) where
  by_field : (h : PrimaryHeader) → header_reading s ≡ done h → len_frame h ≤ length s
      → (o : Outcome TransferFrameDataFieldHeader) → field_reading (drop (len_header h) s) ≡ o → Way s
  by_field h header whole (refused k vs) e = at_field h header whole k vs e
  by_field h header whole (done f) e = to_body h header whole f e

  by_header : (o : Outcome PrimaryHeader) → header_reading s ≡ o → Way s
  by_header (refused k vs) e = at_header k vs e
  by_header (done h) e =
      elim (dec_lt (length s) (len_frame h)) [
        | yes l ↦ too_few h e l
        | no l ↦ by_field h e (omega arith) (field_reading (drop (len_header h) s)) refl
      ]

  pub way : Way s
  way = by_header (header_reading s) refl

module _ (s : List ℕ) (managed : ManagedParameters) where
  pub reading_header : {k : ℕ} {vs : List ℕ} → header_reading s ≡ refused k vs → frame_reading s managed ≡ refused k vs
  unfolding frame_reading
  reading_header e = rw e

  module _ (h : PrimaryHeader) (header : header_reading s ≡ done h) where
    pub reading_short : length s < len_frame h → frame_reading s managed ≡ refused 1 (length s ∷ len_frame h ∷ [])
    unfolding frame_reading
    reading_short l = simp (header, lt-ltb _ _ l)

    module _ (whole : len_frame h ≤ length s) where
      pub reading_field : {k : ℕ} {vs : List ℕ} → field_reading (drop (len_header h) s) ≡ refused k vs → frame_reading s managed ≡ refused k vs
      unfolding frame_reading
      reading_field e = simp (header, le-ltb _ _ whole, e)

      module _ (f : TransferFrameDataFieldHeader) (field : field_reading (drop (len_header h) s) ≡ done f) where
        pub reading_body : frame_reading s managed ≡ body_reading h f managed s
        unfolding frame_reading
        reading_body = simp (header, le-ltb _ _ whole, field)

        module _ (room : needed h f managed ≤ len_frame h) where
          pub reading_checksum : {a b : ℕ} → managed.has_fecf ≡ true → (checksum_of (take (len_frame h) s) ≡ 0 → ⊥) → a ≡ stored_fecf h s → b ≡ computed_fecf h s
              → frame_reading s managed ≡ refused 6 (a ∷ b ∷ [])
          reading_checksum t n p q =
              reading_body ∙ simp (le-ltb _ _ room, wrong managed.has_fecf _ t n) (ap₂ (λ (x y : ℕ). refused 6 (x ∷ y ∷ [])) (sym p) (sym q))

          module _ (passes : managed.has_fecf ≡ true → checksum_of (take (len_frame h) s) ≡ 0) where
            pub reading_done : frame_reading s managed ≡ done (frame_with h f (len_frame h - needed h f managed) s)
            reading_done = reading_body ∙ simp (le-ltb _ _ room, right managed.has_fecf _ passes)

            -- the same of a frame made with lengths that locals hold
            pub reading_frame : {x : TransferFrame} {m n : ℕ} → m ≡ len_frame h → n ≡ needed h f managed → x ≡ frame_with h f (m - n) s
                → frame_reading s managed ≡ done x
            reading_frame p q e = reading_done ∙ ap done (sym (e ∙ ap₂ (λ (a b : ℕ). frame_with h f (a - b) s) p q))

pub contents_there : (x : TransferFrame) (s : List ℕ) → x.data_start + x.data_len ≤ length s
    → contents_in x s ≡ take x.data_len (drop x.data_start s)
contents_there x s h = simp (le-leb _ _ h)
