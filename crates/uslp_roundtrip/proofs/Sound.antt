-- What is read stands in the octets as the layout of its fields.
use mathlib.Core.Path.{◌≡◌, refl, ap, ap₂, sym, ◌∙◌, subst}
use mathlib.Core.Bool.{Bool, true, false, cond}
use mathlib.Core.List.{List, ◌++◌, append_assoc}
use Prim.Native.Nat.{ℕ, ◌+◌, ◌-◌, ◌^◌, ◌<◌, ◌≤◌}
use native.Mathlib.Nat.{mod-lt}
use native.Mathlib.Omega.{arith}
use lib.ListN.{length, take, drop, length-drop}
use lib.Seq.{take-add, length-take-le}
use lib.Dec.{lit<}
use Rattle.uslp_octets.specs.Octets.{AreOctets, octets, word}
use Rattle.uslp_octets.proofs.Laws.{octets_word, word_lt, are_take, are_drop}
use Rattle.uslp_checksum.specs.Checksum.{checksum_of}
use Rattle.uslp_checksum.proofs.Laws.{residue}
use Rattle.uslp_kinds.specs.Outcome.{done}
use Rattle.uslp_kinds.specs.declared.ManagedParameters.{ManagedParameters}
use Rattle.uslp_primary_header.specs.Header.{len_header, len_frame, spare_in}
use Rattle.uslp_primary_header.specs.declared.PrimaryHeader.{PrimaryHeader}
use Rattle.uslp_primary_header.proofs.RoundTrip as header_trip
use Rattle.uslp_data_field_header.specs.Field.{len_field}
use Rattle.uslp_data_field_header.specs.declared.TransferFrameDataFieldHeader.{TransferFrameDataFieldHeader}
use Rattle.uslp_data_field_header.proofs.RoundTrip as field_trip
use Rattle.uslp_layout.specs.Layout.{Fields, data_start, needed, present, ocf_octets, body, with_fecf, layout, WellFormed}
use Rattle.uslp_reader.specs.Reader.{ocf_at, frame_reading, contents_in}
use Rattle.uslp_reader.specs.declared.TransferFrame.{TransferFrame}
use Rattle.uslp_reader.proofs.Done.{ReadDone, read_done}
use Rattle.uslp_reader.proofs.Paths.{contents_there}
use Rattle.uslp_roundtrip.specs.Laid.{frame_of, Laid}
use Rattle.std.specs.Prelude.{Some}

present_ocf : (b : Bool) (i : ℕ) (s : List ℕ) → b ≡ present (ocf_at b i s)
present_ocf true i s = refl
present_ocf false i s = refl

ocf_lt : (b : Bool) (i : ℕ) (s : List ℕ) → AreOctets s → (n : ℕ) → ocf_at b i s ≡ Some n → n < 2 ^ 32
ocf_lt true i s oct n e = subst (λ (x : ℕ). x < 2 ^ 32) (let z : word i 4 s ≡ n = cc in z) (word_lt s i oct 4)
ocf_lt false i s oct n e = let z : ◌≡◌ {A = ℕ} 0 1 = cc in absurd (omega arith)

ocf_part : (b : Bool) (i : ℕ) (s : List ℕ) → AreOctets s → i + cond b 4 0 ≤ length s → ocf_octets (ocf_at b i s) ≡ take (cond b 4 0) (drop i s)
ocf_part true i s oct h = octets_word s i oct 4 h
ocf_part false i s oct h = refl

-- the stored FECF is the checksum of what stands before it
fecf_part : (b : Bool) (n : ℕ) (s : List ℕ) → AreOctets s → n + cond b 2 0 ≤ length s → (b ≡ true → checksum_of (take (n + cond b 2 0) s) ≡ 0)
    → with_fecf b (take n s) ≡ take (n + cond b 2 0) s
fecf_part false n s oct h c = let e : n ≡ n + 0 = omega arith in ap (λ (k : ℕ). take k s) e
fecf_part true n s oct h c =
    let less : n + 2 - 2 ≡ n = omega arith in
    let sum : checksum_of (take n s) ≡ word n 2 s =
    subst (λ (k : ℕ). checksum_of (take k s) ≡ word k 2 s) less ((residue (n + 2) s oct (omega arith) h).0 (c refl)) in
    ap (λ (v : ℕ). take n s ++ octets 2 v) sum ∙ ap (λ (l : List ℕ). take n s ++ l) (octets_word s n oct 2 h) ∙ sym (take-add n 2 s)

module _ (s : List ℕ) (managed : ManagedParameters) (x : TransferFrame) (oct : AreOctets s) (e : frame_reading s managed ≡ done x) where
  abbrev h : PrimaryHeader
  h = x.primary_header

  abbrev f : TransferFrameDataFieldHeader
  f = x.data_field_header

  -- the fields as they stand in the octets
  abbrev pub fields : Fields
  fields = record { header = h; field = f; contents = contents_in x s; ocf = x.operational_control_field }

  r : ReadDone s managed x
  r = read_done s managed x e

  abbrev n : ℕ
  n = len_frame h - needed h f managed

  starts : x.data_start ≡ data_start h f
  starts = ap (λ (y : TransferFrame). y.data_start) r.frame

  is_long : x.data_len ≡ n
  is_long = ap (λ (y : TransferFrame). y.data_len) r.frame

  ocf_is : x.operational_control_field ≡ ocf_at h.ocf_flag (data_start h f + n) s
  ocf_is = ap (λ (y : TransferFrame). y.operational_control_field) r.frame

  contents : contents_in x s ≡ take n (drop (data_start h f) s)
  contents =
      contents_there x s (omega (arith, starts, is_long, r.room, r.whole))
      ∙ ap₂ (λ (a b : ℕ). take a (drop b s)) is_long starts

  long : length (contents_in x s) ≡ n
  long = ap length contents ∙ length-take-le n (drop (data_start h f) s) (omega (arith, length-drop (data_start h f) s, r.room, r.whole))

  total : len_frame h ≡ data_start h f + n + cond h.ocf_flag 4 0 + cond managed.has_fecf 2 0
  total = omega (arith, r.room)

  -- the octets before the FECF
  front : take (data_start h f + n + cond h.ocf_flag 4 0) s
      ≡ body (spare_in s) fields
  front =
      take-add (data_start h f + n) (cond h.ocf_flag 4 0) s
      ∙ ap₂ (λ (a b : List ℕ). a ++ b)
      (take-add (data_start h f) n s
      ∙ ap₂ (λ (a b : List ℕ). a ++ b)
      (take-add (len_header h) (len_field f) s
      ∙ ap₂ (λ (a b : List ℕ). a ++ b)
      (header_trip.read_layout s h oct r.header)
      (field_trip.read_layout (drop (len_header h) s) f (are_drop (len_header h) s oct) r.field))
      (sym contents))
      (sym (ap ocf_octets ocf_is ∙ ocf_part h.ocf_flag (data_start h f + n) s oct (omega (arith, total, r.whole))))
      ∙ simp append_assoc

  pub stands : WellFormed managed fields
  stands = record {
    header_fits = header_trip.read_fitting s h oct r.header;
    field_fits = field_trip.read_fitting (drop (len_header h) s) f (are_drop (len_header h) s oct) r.field;
    contents_fit = subst AreOctets (sym contents) (are_take n (drop (data_start h f) s) (are_drop (data_start h f) s oct));
    ocf_fits = λ k q. ocf_lt h.ocf_flag (data_start h f + n) s oct k (sym ocf_is ∙ q);
    ocf_flagged = present_ocf h.ocf_flag (data_start h f + n) s ∙ ap present (sym ocf_is);
    is_total = omega (arith, long, r.room);
  }

  pub begins : take (len_frame h) s ≡ layout managed (spare_in s) fields
  begins =
      ap (λ (k : ℕ). take k s) total
      ∙ sym
      (fecf_part managed.has_fecf (data_start h f + n + cond h.ocf_flag 4 0) s oct (omega (arith, total, r.whole))
      (λ q. ap (λ (k : ℕ). checksum_of (take k s)) (sym total) ∙ r.check q))
      ∙ ap (with_fecf managed.has_fecf) front

  pub laid : Laid s managed fields
  laid = record { spare = spare_in s; spare_fits = mod-lt _ (lit< tt); well_formed = stands; begins = begins }

  pub is_frame : x ≡ frame_of fields
  is_frame =
      λ i. record {
        primary_header = h;
        data_field_header = f;
        operational_control_field = x.operational_control_field;
        data_start = starts i;
        data_len = (is_long ∙ sym long) i;
      }
