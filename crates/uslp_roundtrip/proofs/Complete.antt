-- Octets that begin with the layout of some fields, any spare bits, are read, and give those fields.
use mathlib.Core.Path.{◌≡◌, refl, ap, sym, ◌∙◌}
use mathlib.Core.Bool.{Bool, true, false, cond}
use mathlib.Core.List.{List, ◌++◌, append_assoc}
use Prim.Native.Nat.{ℕ, ◌+◌, ◌-◌, ◌<◌}
use native.Mathlib.Omega.{arith}
use lib.ListN.{length, take, drop, length-append}
use lib.Seq.{take_at, drop_at, drop-drop}
use Rattle.uslp_octets.specs.Octets.{octets, word, pack}
use Rattle.uslp_octets.proofs.Laws.{word_octets}
use Rattle.uslp_checksum.specs.Checksum.{checksum_of}
use Rattle.uslp_checksum.proofs.Laws.{sealed}
use Rattle.uslp_kinds.specs.Outcome.{done}
use Rattle.uslp_kinds.specs.declared.ManagedParameters.{ManagedParameters}
use Rattle.uslp_primary_header.specs.Header.{table, len_header, len_frame, header_reading}
use Rattle.uslp_primary_header.specs.declared.PrimaryHeader.{PrimaryHeader}
use Rattle.uslp_primary_header.proofs.RoundTrip as header
use Rattle.uslp_data_field_header.specs.Field.{field_table, len_field, field_reading}
use Rattle.uslp_data_field_header.specs.declared.TransferFrameDataFieldHeader.{TransferFrameDataFieldHeader}
use Rattle.uslp_data_field_header.proofs.RoundTrip as field
use Rattle.uslp_layout.specs.Layout.{Fields, data_start, needed, present, ocf_octets, body, with_fecf, layout, WellFormed}
use Rattle.uslp_layout.proofs.Laws.{length_ocf, length_fecf}
use Rattle.uslp_reader.specs.Reader.{ocf_at, frame_with, frame_reading, contents_in}
use Rattle.uslp_roundtrip.specs.Laid.{frame_of}
use Rattle.uslp_reader.proofs.Done.{done_reads}
use Rattle.uslp_reader.proofs.Paths.{contents_there}
use Rattle.std.specs.Prelude.{Option, Some, None}

pub length_body : (spare : ℕ) (x : Fields) → length (pack (field_table x.field)) ≡ len_field x.field
    → length (body spare x) ≡ data_start x.header x.field + length x.contents + cond (present x.ocf) 4 0
length_body spare x e =
    simp (length-append, header.length_table spare x.header, e, length_ocf x.ocf) (omega arith)

module _ (managed : ManagedParameters) (spare : ℕ) (x : Fields) (t : List ℕ) (low : spare < 4) (w : WellFormed managed x) where
  abbrev h : PrimaryHeader
  h = x.header

  abbrev f : TransferFrameDataFieldHeader
  f = x.field

  abbrev d : List ℕ
  d = x.contents

  abbrev o : Option ℕ
  o = x.ocf

  abbrev L : List ℕ
  L = layout managed spare x

  field_long : length (pack (field_table f)) ≡ len_field f
  field_long = field.length_table f w.field_fits.checks_pass

  long : length L ≡ len_frame h
  long =
      length_fecf managed.has_fecf (body spare x) ∙
      ap (λ (n : ℕ). n + cond managed.has_fecf 2 0) (length_body spare x field_long) ∙
      ap (λ (b : Bool). data_start h f + length d + cond b 4 0 + cond managed.has_fecf 2 0) (sym w.ocf_flagged) ∙ omega (arith, w.is_total)

  -- what stands behind the headers, the data and the OCF
  abbrev behind : Bool → List ℕ
  behind true = octets 2 (checksum_of (body spare x)) ++ t
  behind false = t

  split : (b : Bool) → with_fecf b (body spare x) ++ t ≡ pack (table spare h) ++ (pack (field_table f) ++ (d ++ (ocf_octets o ++ behind b)))
  split true = simp append_assoc
  split false = simp append_assoc

  abbrev tail : List ℕ
  tail = ocf_octets o ++ behind managed.has_fecf

  s_is : L ++ t ≡ pack (table spare h) ++ (pack (field_table f) ++ (d ++ tail))
  s_is = split managed.has_fecf

  header_read : header_reading (L ++ t) ≡ done h
  header_read = ap header_reading s_is ∙ header.layout_read spare h (pack (field_table f) ++ (d ++ tail)) low w.header_fits

  after_header : drop (len_header h) (L ++ t) ≡ pack (field_table f) ++ (d ++ tail)
  after_header = ap (drop (len_header h)) s_is ∙ drop_at (pack (table spare h)) (pack (field_table f) ++ (d ++ tail)) (len_header h) (header.length_table spare h)

  field_read : field_reading (drop (len_header h) (L ++ t)) ≡ done f
  field_read = ap field_reading after_header ∙ field.layout_read f (d ++ tail) w.field_fits

  after_field : drop (data_start h f) (L ++ t) ≡ d ++ tail
  after_field =
      sym (drop-drop (len_field f) (len_header h) (L ++ t)) ∙ ap (drop (len_field f)) after_header
      ∙ drop_at (pack (field_table f)) (d ++ tail) (len_field f) field_long

  checks : managed.has_fecf ≡ true → checksum_of (take (len_frame h) (L ++ t)) ≡ 0
  checks e =
      ap checksum_of (take_at L t (len_frame h) long)
      ∙ ap (λ (b : Bool). checksum_of (with_fecf b (body spare x))) e ∙ sealed (body spare x)

  data_len_lem : len_frame h - needed h f managed ≡ length d
  data_len_lem = omega (arith, w.is_total)

  abbrev front : List ℕ
  front = pack (table spare h) ++ (pack (field_table f) ++ d)

  front_long : length front ≡ data_start h f + length d
  front_long = simp (length-append, header.length_table spare h, field_long) (omega arith)

  front_is : (v : Option ℕ) → o ≡ v → L ++ t ≡ front ++ (ocf_octets v ++ behind managed.has_fecf)
  front_is v e =
      s_is ∙ ap (λ (y : Option ℕ). pack (table spare h) ++ (pack (field_table f) ++ (d ++ (ocf_octets y ++ behind managed.has_fecf)))) e
      ∙ simp append_assoc

  -- the OCF stands behind the data
  ocf_read : (v : Option ℕ) → o ≡ v → ocf_at (present v) (data_start h f + length d) (L ++ t) ≡ v
  ocf_read None e = refl
  ocf_read (Some n) e =
      ap Some
      (ap (word (data_start h f + length d) 4) (front_is (Some n) e)
      ∙ ap (λ (i : ℕ). word i 4 (front ++ (octets 4 n ++ behind managed.has_fecf))) (sym front_long)
      ∙ word_octets front (behind managed.has_fecf) 4 n (w.ocf_fits n e))

  same_frame : frame_of x ≡ frame_with h f (len_frame h - needed h f managed) (L ++ t)
  same_frame =
      λ i. record {
        primary_header = h;
        data_field_header = f;
        operational_control_field = ocf_same i;
        data_start = data_start h f;
        data_len = sym data_len_lem i;
      }
    where
      ocf_same : o ≡ ocf_at h.ocf_flag (data_start h f + (len_frame h - needed h f managed)) (L ++ t)
      ocf_same =
          sym (ocf_read o refl)
          ∙ ap (λ (n : ℕ). ocf_at (present o) (data_start h f + n) (L ++ t)) (sym data_len_lem)
          ∙ ap (λ (b : Bool). ocf_at b (data_start h f + (len_frame h - needed h f managed)) (L ++ t)) (sym w.ocf_flagged)

  pub complete : frame_reading (L ++ t) managed ≡ done (frame_of x)
  complete =
      done_reads (L ++ t) managed (frame_of x)
      (record {
        header = header_read;
        whole = omega (arith, length-append L t, long);
        field = field_read;
        room = omega (arith, w.is_total);
        check = checks;
        frame = same_frame;
      })

  pub complete_contents : contents_in (frame_of x) (L ++ t) ≡ d
  complete_contents =
      contents_there (frame_of x) (L ++ t) (omega (arith, length-append L t, long, w.is_total))
      ∙ ap (take (length d)) after_field ∙ take_at d tail (length d) refl
