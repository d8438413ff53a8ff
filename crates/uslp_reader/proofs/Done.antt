-- What a reading that was done went through, and back; and the numbers of the reader's refusals.
use mathlib.Core.Path.{◌≡◌, refl, ap, sym, ◌∙◌, subst}
use Prim.Native.Nat.{ℕ, ◌-◌, ◌≤◌}
use mathlib.Core.Bool.{Bool, true, false, not, ◌&&◌, false≢true}
use mathlib.Core.List.{List, [], ◌∷◌}
use native.Mathlib.Omega.{arith}
use borrow.Author.Tests.{ltb-false, eqb-true, not-false}
use lib.ListN.{length, take, drop}
use lib.Dec.{eqb, ltb, lit≤}
use Rattle.uslp_checksum.specs.Checksum.{checksum_of}
use Rattle.uslp_kinds.specs.Outcome.{done, refused}
use Rattle.uslp_kinds.proofs.Firsts.{first_up_to}
use Rattle.uslp_kinds.proofs.Outcomes.{not_done, number_one, done_one, passed}
use Rattle.uslp_kinds.specs.declared.ManagedParameters.{ManagedParameters}
use Rattle.uslp_primary_header.specs.Header.{len_header, len_frame, header_reading}
use Rattle.uslp_primary_header.proofs.RoundTrip as header_trip
use Rattle.uslp_data_field_header.specs.Field.{field_reading}
use Rattle.uslp_data_field_header.proofs.Reading as field_reading_mod
use Rattle.uslp_layout.specs.Layout.{needed}
use Rattle.uslp_reader.specs.Reader.{frame_with, stored_fecf, computed_fecf, frame_reading}
use Rattle.uslp_reader.specs.declared.TransferFrame.{TransferFrame}
use Rattle.uslp_reader.proofs.Paths.{Way, way, reading_header, reading_short, reading_field, reading_body, reading_done}
use Rattle.uslp_reader.proofs.Paths.Way.{at_header, too_few, at_field, to_body}

-- each check passed, and the frame is the one that stands in the octets
pub record ReadDone (s : List ℕ) (managed : ManagedParameters) (x : TransferFrame) : Type 0 where
  pub header : header_reading s ≡ done x.primary_header
  pub whole : len_frame x.primary_header ≤ length s
  pub field : field_reading (drop (len_header x.primary_header) s) ≡ done x.data_field_header
  pub room : needed x.primary_header x.data_field_header managed ≤ len_frame x.primary_header
  pub check : managed.has_fecf ≡ true → checksum_of (take (len_frame x.primary_header) s) ≡ 0
  pub frame : x ≡ frame_with x.primary_header x.data_field_header
      (len_frame x.primary_header - needed x.primary_header x.data_field_header managed) s

-- a checksum that was asked for and passed is 0
checked : (fecf : Bool) (n : ℕ) → fecf && not (eqb n 0) ≡ false → fecf ≡ true → n ≡ 0
checked true n e t = eqb-true n 0 (not-false _ e)
checked false n e t = absurd (false≢true t)

module _ (s : List ℕ) (managed : ManagedParameters) (x : TransferFrame) (e : frame_reading s managed ≡ done x) where
  by_way : Way s → ReadDone s managed x
  by_way (at_header k vs r) = absurd (not_done (sym (reading_header s managed r) ∙ e))
  by_way (too_few h r l) = absurd (not_done (sym (reading_short s managed h r l) ∙ e))
  by_way (at_field h header whole k vs r) = absurd (not_done (sym (reading_field s managed h header whole r) ∙ e))
  by_way (to_body h header whole f r) =
      let p = passed _ _ _ _ (sym (reading_body s managed h header whole f r) ∙ e) in
      let q = passed _ _ _ _ p.1 in
      subst (ReadDone s managed) (done_one q.1)
      (record {
        header = header;
        whole = whole;
        field = r;
        room = ltb-false _ _ p.0;
        check = checked managed.has_fecf _ q.0;
        frame = refl;
      })

  pub read_done : ReadDone s managed x
  read_done = by_way (way s)

pub done_reads : (s : List ℕ) (managed : ManagedParameters) (x : TransferFrame) → ReadDone s managed x → frame_reading s managed ≡ done x
done_reads s managed x r =
    reading_done s managed x.primary_header r.header r.whole x.data_field_header r.field r.room r.check
    ∙ ap done (sym r.frame)

-- the reader's refusals are 1 and 3 to 7
module _ (s : List ℕ) (managed : ManagedParameters) {k : ℕ} {vs : List ℕ} (e : frame_reading s managed ≡ refused k vs) where
  by_number : Way s → k ≤ 7
  by_number (at_header j us r) = omega (arith, number_one (sym (reading_header s managed r) ∙ e), header_trip.reading_up_to s r)
  by_number (too_few h r l) = omega (arith, number_one (sym (reading_short s managed h r l) ∙ e))
  by_number (at_field h header whole j us r) =
      omega (arith, number_one (sym (reading_field s managed h header whole r) ∙ e), field_reading_mod.reading_up_to (drop (len_header h) s) r)
  by_number (to_body h header whole f r) =
      first_up_to 7
      ((ltb (len_frame h) (needed h f managed), 7, len_frame h ∷ needed h f managed ∷ [])
      ∷ (managed.has_fecf && not (eqb (checksum_of (take (len_frame h) s)) 0), 6, stored_fecf h s ∷ computed_fecf h s ∷ [])
      ∷ [])
      (done (frame_with h f (len_frame h - needed h f managed) s)) (lit≤ tt, (lit≤ tt, tt)) (λ d. absurd (not_done (sym d)))
      (sym (reading_body s managed h header whole f r) ∙ e)

  pub reading_up_to : k ≤ 7
  reading_up_to = by_number (way s)
