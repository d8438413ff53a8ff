-- A frame is refused with 6 exactly if its FECF as stored and as computed differ; so 6 never shows one number twice.
use mathlib.Core.Path.{◌≡◌, refl, ap, sym, ◌∙◌, subst}
use mathlib.Core.Bool.{Bool, true, false, not, ◌&&◌, false≢true}
use mathlib.Core.Logic.{◌↔◌}
use mathlib.Core.List.{List, [], ◌∷◌}
use Prim.Native.Nat.{ℕ, ◌≤◌}
use native.Mathlib.Omega.{arith}
use borrow.Author.Tests.{ltb-false, eq-eqb}
use lib.Dec.{ltb, eqb}
use lib.ListN.{take, drop}
use Rattle.uslp_octets.specs.Octets.{AreOctets}
use Rattle.uslp_checksum.specs.Checksum.{checksum_of}
use Rattle.uslp_checksum.proofs.Laws.{residue}
use Rattle.uslp_kinds.specs.Outcome.{refused}
use Rattle.uslp_kinds.proofs.Outcomes.{number_one, later, last}
use Rattle.uslp_kinds.specs.declared.ManagedParameters.{ManagedParameters}
use Rattle.uslp_primary_header.specs.Header.{len_header, len_frame}
use Rattle.uslp_primary_header.proofs.RoundTrip as header_trip
use Rattle.uslp_data_field_header.proofs.Reading as field_reading
use Rattle.uslp_layout.specs.Layout.{needed}
use Rattle.uslp_reader.specs.Reader.{stored_fecf, computed_fecf, frame_reading}
use Rattle.uslp_reader.proofs.Paths.{Way, way, reading_header, reading_short, reading_field, reading_body, reading_checksum}
use Rattle.uslp_reader.proofs.Paths.Way.{at_header, too_few, at_field, to_body}
use Rattle.uslp_roundtrip.specs.Laid.{WrongFecf}

-- a checksum that was asked for and failed is not 0
asked : (fecf : Bool) (n : ℕ) → fecf && not (eqb n 0) ≡ true → fecf ≡ true
asked true n e = refl
asked false n e = absurd (false≢true e)

failed : (fecf : Bool) (n : ℕ) → fecf && not (eqb n 0) ≡ true → n ≡ 0 → ⊥
failed true n e z = false≢true (sym (ap not (eq-eqb n 0 z)) ∙ e)
failed false n e z = false≢true e

module _ (s : List ℕ) (oct : AreOctets s) (managed : ManagedParameters) (a b : ℕ) where
  by_way : frame_reading s managed ≡ refused 6 (a ∷ b ∷ []) → Way s → (managed.has_fecf ≡ true) × WrongFecf s a b
  by_way e (at_header k vs r) =
      let six = number_one (sym (reading_header s managed r) ∙ e) in
      absurd (omega (arith, six, header_trip.reading_up_to s r))
  by_way e (too_few h r l) = let six = number_one (sym (reading_short s managed h r l) ∙ e) in absurd (omega (arith, six))
  by_way e (at_field h header whole k vs r) =
      let six = number_one (sym (reading_field s managed h header whole r) ∙ e) in
      absurd (omega (arith, six, field_reading.reading_up_to (drop (len_header h) s) r))
  by_way e (to_body h header whole f r) =
      let short = ltb (len_frame h) (needed h f managed) in
      let wrong = managed.has_fecf && not (eqb (checksum_of (take (len_frame h) s)) 0) in
      let p = later 7 _ short _ (λ z. omega arith) (sym (reading_body s managed h header whole f r) ∙ e) in
      let q = last 6 (stored_fecf h s ∷ computed_fecf h s ∷ []) wrong _ p.1 in
      let on = asked managed.has_fecf (checksum_of (take (len_frame h) s)) q.0 in
      let room : needed h f managed ≤ len_frame h = ltb-false (len_frame h) (needed h f managed) p.0 in
      let stored : stored_fecf h s ≡ a = cc in
      let computed : computed_fecf h s ≡ b = cc in (
        on,
        record {
          h = h;
          f = f;
          header = header;
          whole = whole;
          field = r;
          room = rw on at room;
          is_stored = sym stored;
          is_computed = sym computed;
          differ = λ z. failed managed.has_fecf _ q.0 ((residue (len_frame h) s oct (omega (arith, room)) whole).1 (computed ∙ sym z ∙ sym stored));
        },
      )

  pub refused_exactly : (frame_reading s managed ≡ refused 6 (a ∷ b ∷ [])) ↔ ((managed.has_fecf ≡ true) × WrongFecf s a b)
  refused_exactly = (
    λ e. by_way e (way s),
    λ p.
        let w = p.1 in
        let tied = residue (len_frame w.h) s oct (omega (arith, w.room)) w.whole in
        reading_checksum s managed w.h w.header w.whole w.f w.field
        (subst (λ (x : Bool). needed w.h w.f (record { has_fecf = x }) ≤ len_frame w.h) (sym p.0) w.room)
        p.0 (λ z. w.differ (w.is_stored ∙ sym (tied.0 z) ∙ sym w.is_computed)) w.is_stored w.is_computed,
  )

  -- the number computed is never the one stored
  pub shown_differ : frame_reading s managed ≡ refused 6 (a ∷ b ∷ []) → a ≡ b → ⊥
  shown_differ e = (refused_exactly.0 e).1.differ
