-- A frame that is read is read from its own octets alone too, for all managed parameters.
use mathlib.Core.Path.{◌≡◌, refl, ap, sym, ◌∙◌}
use Prim.Native.Nat.{ℕ, ◌+◌, ◌-◌, ◌≤◌}
use mathlib.Core.Bool.{Bool, true, false, cond}
use mathlib.Core.List.{List, ◌++◌}
use native.Mathlib.Nat.{mod-lt}
use native.Mathlib.Omega.{arith}
use lib.Dec.{lit<}
use lib.ListN.{take, drop}
use lib.Seq.{take-add, take_all, length-take-le, drop_at}
use Rattle.uslp_octets.specs.Octets.{AreOctets, pack}
use Rattle.uslp_octets.proofs.Laws.{are_drop, word_take}
use Rattle.uslp_checksum.specs.Checksum.{checksum_of}
use Rattle.uslp_kinds.specs.Outcome.{done}
use Rattle.uslp_kinds.specs.declared.ManagedParameters.{ManagedParameters}
use Rattle.uslp_primary_header.specs.Header.{table, len_header, len_frame, spare_in, header_reading}
use Rattle.uslp_primary_header.specs.declared.PrimaryHeader.{PrimaryHeader}
use Rattle.uslp_primary_header.proofs.RoundTrip as header_trip
use Rattle.uslp_data_field_header.specs.Field.{len_field, field_reading}
use Rattle.uslp_data_field_header.specs.declared.TransferFrameDataFieldHeader.{TransferFrameDataFieldHeader}
use Rattle.uslp_data_field_header.proofs.RoundTrip as field_trip
use Rattle.uslp_layout.specs.Layout.{data_start, needed}
use Rattle.uslp_reader.specs.Reader.{ocf_at, frame_with, frame_reading}
use Rattle.uslp_reader.specs.declared.TransferFrame.{TransferFrame}
use Rattle.uslp_reader.proofs.Done.{ReadDone, read_done, done_reads}
use Rattle.std.specs.Prelude.{Some}

-- the front of octets, by a part that ends before it does
front_of : (n l : ℕ) (s : List ℕ) {p : List ℕ} → l ≤ n → take l s ≡ p → take n s ≡ p ++ take (n - l) (drop l s)
front_of n l s h e =
    let k : n ≡ l + (n - l) = omega arith in
    ap (λ (m : ℕ). take m s) k ∙ take-add l (n - l) s ∙ ap (λ (a : List ℕ). a ++ take (n - l) (drop l s)) e

ocf_same : (b : Bool) (i n : ℕ) (s : List ℕ) → i + cond b 4 0 ≤ n → ocf_at b i s ≡ ocf_at b i (take n s)
ocf_same true i n s h = ap Some (sym (word_take i 4 n s h))
ocf_same false i n s h = refl

module _ (s : List ℕ) (managed : ManagedParameters) (x : TransferFrame) (oct : AreOctets s) (e : frame_reading s managed ≡ done x) where
  abbrev h : PrimaryHeader
  h = x.primary_header

  abbrev f : TransferFrameDataFieldHeader
  f = x.data_field_header

  abbrev own : List ℕ
  own = take (len_frame h) s

  abbrev behind : List ℕ
  behind = take (len_frame h - len_header h) (drop (len_header h) s)

  r : ReadDone s managed x
  r = read_done s managed x e

  front : own ≡ pack (table (spare_in s) h) ++ behind
  front = front_of (len_frame h) (len_header h) s (omega (arith, r.room)) (header_trip.read_layout s h oct r.header)

  header : header_reading own ≡ done h
  header =
      ap header_reading front
      ∙ header_trip.layout_read (spare_in s) h behind (mod-lt _ (lit< tt)) (header_trip.read_fitting s h oct r.header)

  field : field_reading (drop (len_header h) own) ≡ done f
  field =
      let t = drop (len_header h) s in
      let o = are_drop (len_header h) s oct in
      ap field_reading
      (ap (drop (len_header h)) front
      ∙ drop_at (pack (table (spare_in s) h)) behind (len_header h) (header_trip.length_table (spare_in s) h)
      ∙ front_of (len_frame h - len_header h) (len_field f) t (omega (arith, r.room)) (field_trip.read_layout t f o r.field))
      ∙ field_trip.layout_read f _ (field_trip.read_fitting t f o r.field)

  same_frame : frame_with h f (len_frame h - needed h f managed) s ≡ frame_with h f (len_frame h - needed h f managed) own
  same_frame =
      λ i. record {
        primary_header = h;
        data_field_header = f;
        operational_control_field = ocf i;
        data_start = data_start h f;
        data_len = len_frame h - needed h f managed;
      }
    where
      ocf : ocf_at h.ocf_flag (data_start h f + (len_frame h - needed h f managed)) s
          ≡ ocf_at h.ocf_flag (data_start h f + (len_frame h - needed h f managed)) own
      ocf = ocf_same h.ocf_flag (data_start h f + (len_frame h - needed h f managed)) (len_frame h) s (omega (arith, r.room))

  pub own_octets : frame_reading own managed ≡ done x
  own_octets =
      let long = length-take-le (len_frame h) s r.whole in
      done_reads own managed x
      (record {
        header = header;
        whole = omega (arith, long);
        field = field;
        room = r.room;
        check = λ q. ap checksum_of (take_all (len_frame h) own (omega (arith, long))) ∙ r.check q;
        frame = r.frame ∙ same_frame;
      })
