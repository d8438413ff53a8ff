-- The promises of `uslp_reader` settle each call, and shut out two tempting wrong answers of each function. `data` and `data_of` hand
-- back a part of the lent octets: what it shows is settled.
use mathlib.Core.Path.{◌≡◌, refl, sym, ap, ◌∙◌}
use mathlib.Core.Bool.{false}
use mathlib.Core.List.{List, [], ◌∷◌}
use Prim.Native.Nat.{ℕ}
use native.Mathlib.Omega.{arith}
use lib.ListN.{length}
use contract.Lifetimes.{Lfts}
use denote.Ref.{Bor}
use Rattle.uslp_octets.specs.Octets.{AreOctets}
use Rattle.uslp_checksum.specs.Checksum.{bit, step, feed, lows, bits, checksum_of}
use Rattle.uslp_kinds.specs.Managed.{fecf, no_fecf}
use Rattle.uslp_kinds.specs.Outcome.{Outcome, refused}
use Rattle.uslp_kinds.proofs.Back.{paper_one}
use Rattle.uslp_kinds.specs.declared.ManagedParameters.{ManagedParameters}
use Rattle.uslp_kinds.specs.declared.SourceOrDestField.TheVariants.{Source, Dest}
use Rattle.uslp_kinds.specs.declared.ConstructionRule.TheVariants.{PacketSpanningMultipleFrames, NoSegmentation}
use Rattle.uslp_kinds.specs.declared.Refusal.TheVariants.{ShortSource, Truncated, BadChecksum}
use Rattle.uslp_primary_header.specs.Header.{header_reading}
use Rattle.uslp_primary_header.specs.declared.PrimaryHeader.{PrimaryHeader}
use Rattle.uslp_data_field_header.specs.Field.{field_reading}
use Rattle.uslp_data_field_header.specs.declared.TransferFrameDataFieldHeader.{TransferFrameDataFieldHeader}
use Rattle.uslp_reader.specs.Reader.{frame_reading}
use Rattle.uslp_reader.specs.declared.TransferFrame.{TransferFrame}
use Rattle.uslp_reader.proofs as reader
use Rattle.uslp_demands.specs.Promise.{Function, function, at, Allows, Settles, Shows}
use Rattle.uslp_roundtrip.specs.Samples.{some, whole, spanning, made, octets_f, read_f}
use Rattle.uslp_roundtrip.proofs.Unequal.{shown_differ}
use Rattle.uslp_demands.proofs.Alike.{alike}
use Rattle.std.specs.Prelude.{Ok, Err, Some, None}

-- the functions, each with its promise
abbrev pub fn_from_bytes : Function
fn_from_bytes =
    function reader.TransferFrame.from_bytes.Kinds.ps reader.TransferFrame.from_bytes.Kinds.r
    reader.TransferFrame.from_bytes.Reads.Pre reader.TransferFrame.from_bytes.Reads.Learnt

abbrev fn_len_frame : Function
fn_len_frame =
    function reader.TransferFrame.len_frame.Kinds.ps reader.TransferFrame.len_frame.Kinds.r
    reader.TransferFrame.len_frame.Reads.Pre reader.TransferFrame.len_frame.Reads.Learnt

abbrev fn_vc_id : Function
fn_vc_id =
    function reader.TransferFrame.vc_id.Kinds.ps reader.TransferFrame.vc_id.Kinds.r
    reader.TransferFrame.vc_id.Reads.Pre reader.TransferFrame.vc_id.Reads.Learnt

abbrev fn_map_id : Function
fn_map_id =
    function reader.TransferFrame.map_id.Kinds.ps reader.TransferFrame.map_id.Kinds.r
    reader.TransferFrame.map_id.Reads.Pre reader.TransferFrame.map_id.Reads.Learnt

abbrev fn_spacecraft_id : Function
fn_spacecraft_id =
    function reader.TransferFrame.spacecraft_id.Kinds.ps reader.TransferFrame.spacecraft_id.Kinds.r
    reader.TransferFrame.spacecraft_id.Reads.Pre reader.TransferFrame.spacecraft_id.Reads.Learnt

abbrev fn_source_or_dest_field : Function
fn_source_or_dest_field =
    function reader.TransferFrame.source_or_dest_field.Kinds.ps reader.TransferFrame.source_or_dest_field.Kinds.r
    reader.TransferFrame.source_or_dest_field.Reads.Pre reader.TransferFrame.source_or_dest_field.Reads.Learnt

abbrev fn_primary_header : Function
fn_primary_header =
    function reader.TransferFrame.primary_header.Kinds.ps reader.TransferFrame.primary_header.Kinds.r
    reader.TransferFrame.primary_header.Reads.Pre reader.TransferFrame.primary_header.Reads.Learnt

abbrev fn_data_field_header : Function
fn_data_field_header =
    function reader.TransferFrame.data_field_header.Kinds.ps reader.TransferFrame.data_field_header.Kinds.r
    reader.TransferFrame.data_field_header.Reads.Pre reader.TransferFrame.data_field_header.Reads.Learnt

abbrev fn_operational_control_field : Function
fn_operational_control_field =
    function reader.TransferFrame.operational_control_field.Kinds.ps reader.TransferFrame.operational_control_field.Kinds.r
    reader.TransferFrame.operational_control_field.Reads.Pre reader.TransferFrame.operational_control_field.Reads.Learnt

abbrev fn_raw_frame : Function
fn_raw_frame =
    function reader.TransferFrame.raw_frame.Kinds.ps reader.TransferFrame.raw_frame.Kinds.r
    reader.TransferFrame.raw_frame.Reads.Pre reader.TransferFrame.raw_frame.Reads.Learnt

abbrev fn_data : Function
fn_data =
    function reader.TransferFrame.data.Kinds.ps reader.TransferFrame.data.Kinds.r
    reader.TransferFrame.data.Reads.Pre reader.TransferFrame.data.Reads.Learnt

abbrev fn_data_of : Function
fn_data_of = function reader.data_of.Kinds.ps reader.data_of.Kinds.r reader.data_of.Reads.Pre reader.data_of.Reads.Learnt

pub from_bytes_settles : Settles fn_from_bytes
from_bytes_settles = record {
  total = λ κs a. tt;
  same = λ κs a x y s t. alike
      (paper_one (s ∙ sym t)) refl;
}

-- works the data length out before the test for FRAME_TOO_SHORT
pub from_bytes_wrapped : Allows fn_from_bytes ([], tt)
    (at (0xC1 ∷ 0x23 ∷ 0x48 ∷ 0xA6 ∷ 0x00 ∷ 0x07 ∷ 0x01 ∷ 0x07 ∷ 0xE4 ∷ 0x0A ∷ 0xF0 ∷ []), (no_fecf, tt)) (
      Ok (record {
        primary_header = record {
          spacecraft_id = 0x1234;
          source_or_dest_field = Dest;
          vc_id = 5;
          map_id = 3;
          frame_len_field = 7;
          sequence_control_flag =
              some.sequence_control_flag;
          protocol_control_command_flag = some.protocol_control_command_flag;
          ocf_flag = false;
          vc_frame_count_len =
              1;
          vc_frame_count = 7;
        };
        data_field_header = whole;
        operational_control_field = None;
        data_start = 9;
        data_len = 0xFFFFFFFFFFFFFFFF;
      }),
      (tt, (tt, tt)),
    ) → ⊥
unfolding frame_reading header_reading field_reading
from_bytes_wrapped e = let z : ◌≡◌ {A = ℕ} 0 1 = cc in omega arith

-- gives TRUNCATED only after seven octets
pub from_bytes_truncated : Allows fn_from_bytes ([], tt) (at (0xC1 ∷ 0x23 ∷ 0x48 ∷ 0xA7 ∷ []), (no_fecf, tt))
    (Err (ShortSource 4 7), (tt, (tt, tt))) → ⊥
unfolding frame_reading header_reading
from_bytes_truncated e = let z : ◌≡◌ {A = ℕ} 0 1 = cc in omega arith

-- frame F with the two octets of its FECF exchanged, B5 45 on the sender's side: 6 shows 45B5 as stored and B545 as computed
abbrev swapped : List ℕ
swapped = 0xC1 ∷ 0x23 ∷ 0x48 ∷ 0xA6 ∷ 0x00 ∷ 0x0C ∷ 0x01 ∷ 0x07 ∷ 0xE4 ∷ 0x0A ∷ 0xF0 ∷ 0x45 ∷ 0xB5 ∷ []

abbrev Shown : List ℕ → ℕ → ℕ → Type 0
Shown s a b = Allows fn_from_bytes ([], tt) (at s, (fecf, tt)) (Err (BadChecksum a b), (tt, (tt, tt)))

pub from_bytes_swapped : Shown swapped 0x45B5 0xB545
unfolding frame_reading header_reading field_reading checksum_of bits lows feed step bit
from_bytes_swapped = refl

whole_sum : checksum_of swapped ≡ 0xFCDE
unfolding checksum_of bits lows feed step bit
whole_sum = refl

-- two answers 6 to the same octets show the same
shown_one : {a b c d : ℕ} → ◌≡◌ {A = Outcome TransferFrame} (refused 6 (a ∷ b ∷ [])) (refused 6 (c ∷ d ∷ [])) → (a ≡ c) × (b ≡ d)
shown_one e = (cc, cc)

-- the register after the FECF, the residue, for the one before it: that is the checksum of the whole frame
pub from_bytes_residue : Shown swapped 0x45B5 (checksum_of swapped) → ⊥
from_bytes_residue e = let z = (shown_one (from_bytes_swapped ∙ sym e)).1 in omega (arith, z, whole_sum)

-- shows the two exchanged, or one of them twice, whatever the frame
module _ (κs : Lfts 1) (s : Bor (List ℕ)) (oct : AreOctets s.now) (managed : ManagedParameters) (a b : ℕ)
    (shown : Allows fn_from_bytes κs (s, (managed, tt)) (Err (BadChecksum a b), (tt, (tt, tt)))) where
  pub from_bytes_twice : a ≡ b → ⊥
  from_bytes_twice = shown_differ s.now oct managed a b (sym shown)

  pub from_bytes_exchanged : Allows fn_from_bytes κs (s, (managed, tt)) (Err (BadChecksum b a), (tt, (tt, tt))) → ⊥
  from_bytes_exchanged e = from_bytes_twice (shown_one (shown ∙ sym e)).0

pub len_frame_settles : Settles fn_len_frame
len_frame_settles = record { total = λ κs a. tt; same = λ κs a x y s t. alike (s ∙ sym t) refl }

-- the field as it stands
pub len_frame_field : Allows fn_len_frame tt (read_f, tt) (10, (tt, tt)) → ⊥
len_frame_field e = omega arith

-- the data alone
pub len_frame_data : Allows fn_len_frame tt (read_f, tt) (2, (tt, tt)) → ⊥
len_frame_data e = omega arith

pub vc_id_settles : Settles fn_vc_id
vc_id_settles = record { total = λ κs a. tt; same = λ κs a x y s t. alike (s ∙ sym t) refl }

-- the map id
pub vc_id_map : Allows fn_vc_id tt (read_f, tt) (3, (tt, tt)) → ⊥
vc_id_map e = omega arith

-- 0 for all
pub vc_id_zero : Allows fn_vc_id tt (read_f, tt) (0, (tt, tt)) → ⊥
vc_id_zero e = omega arith

pub map_id_settles : Settles fn_map_id
map_id_settles = record { total = λ κs a. tt; same = λ κs a x y s t. alike (s ∙ sym t) refl }

-- the channel
pub map_id_channel : Allows fn_map_id tt (read_f, tt) (5, (tt, tt)) → ⊥
map_id_channel e = omega arith

-- 0 for all
pub map_id_zero : Allows fn_map_id tt (read_f, tt) (0, (tt, tt)) → ⊥
map_id_zero e = omega arith

pub spacecraft_id_settles : Settles fn_spacecraft_id
spacecraft_id_settles = record { total = λ κs a. tt; same = λ κs a x y s t. alike (s ∙ sym t) refl }

-- its low octet
pub spacecraft_id_low : Allows fn_spacecraft_id tt (read_f, tt) (0x34, (tt, tt)) → ⊥
spacecraft_id_low e = omega arith

-- its octets swapped
pub spacecraft_id_swapped : Allows fn_spacecraft_id tt (read_f, tt) (0x3412, (tt, tt)) → ⊥
spacecraft_id_swapped e = omega arith

pub source_or_dest_field_settles : Settles fn_source_or_dest_field
source_or_dest_field_settles = record { total = λ κs a. tt; same = λ κs a x y s t. alike (s ∙ sym t) refl }

-- the source for all
pub source_or_dest_field_source : Allows fn_source_or_dest_field tt (read_f, tt) (Source, (tt, tt)) → ⊥
source_or_dest_field_source e = let z : ◌≡◌ {A = ℕ} 0 1 = cc in omega arith

pub primary_header_settles : Settles fn_primary_header
primary_header_settles = record { total = λ κs a. tt; same = λ κs a x y s t. alike (s ∙ sym t) refl }

-- the header without its count
pub primary_header_fresh : Allows fn_primary_header tt (read_f, tt) (made, (tt, tt)) → ⊥
primary_header_fresh e = let z : ◌≡◌ {A = ℕ} 0 7 = ap (λ (h : PrimaryHeader). h.vc_frame_count) e in omega arith

pub data_field_header_settles : Settles fn_data_field_header
data_field_header_settles = record { total = λ κs a. tt; same = λ κs a x y s t. alike (s ∙ sym t) refl }

-- another header
pub data_field_header_other : Allows fn_data_field_header tt (read_f, tt) (spanning, (tt, tt)) → ⊥
data_field_header_other e = let d : PacketSpanningMultipleFrames ≡ NoSegmentation = ap
    (λ (f : TransferFrameDataFieldHeader). f.construction_rule) e in let z : ◌≡◌ {A = ℕ} 0 1 = cc in omega arith

pub operational_control_field_settles : Settles fn_operational_control_field
operational_control_field_settles = record { total = λ κs a. tt; same = λ κs a x y s t. alike (s ∙ sym t) refl }

-- an OCF of 0 where there is none
pub operational_control_field_zero : Allows fn_operational_control_field tt (read_f, tt) (Some 0, (tt, tt)) → ⊥
operational_control_field_zero e = let z : ◌≡◌ {A = ℕ} 0 1 = cc in omega arith

pub raw_frame_settles : Settles fn_raw_frame
raw_frame_settles = record { total = λ κs a. tt; same = λ κs a x y s t. alike (s ∙ sym t) refl }

-- shows nothing; lies elsewhere
pub raw_frame_none : (r : Bor (List ℕ)) → r.now ≡ [] → Allows fn_raw_frame ([], tt) (read_f, (at octets_f, tt)) (r, (tt, (tt, tt))) → ⊥
raw_frame_none r h e = let z : ◌≡◌ {A = ℕ} 0 11 = ap length (sym h ∙ ap (λ (q : Bor (List ℕ)). q.now) e) in omega arith

pub raw_frame_elsewhere : (r : Bor (List ℕ)) → r.ref_ptr ≡ (1, 0) → Allows fn_raw_frame ([], tt) (read_f, (at octets_f, tt)) (r, (tt, (tt, tt))) → ⊥
raw_frame_elsewhere r h e = let z : ◌≡◌ {A = ℕ} 1 0 = ap (λ (p : ℕ × ℕ). p.0) (sym h ∙ ap (λ (q : Bor (List ℕ)). q.ref_ptr) e) in omega arith

pub data_shows : Shows fn_data (λ κs a r. r)
data_shows = record { total = λ κs a. tt; same = λ κs a x y s t. (s.lies ∙ sym t.lies, s.shows ∙ sym t.shows) }

-- shows the whole buffer; reads past what was lent
pub data_whole : (r : Bor (List ℕ)) → r.now ≡ octets_f → Allows fn_data ([], tt) (read_f, (at octets_f, tt)) (r, (tt, (tt, tt))) → ⊥
data_whole r h e = let z : ◌≡◌ {A = ℕ} 0 1 = cc in omega arith

pub data_past : (r : Bor (List ℕ)) → r.now ≡ 0 ∷ 0 ∷ [] → Allows fn_data ([], tt) (read_f, (at [], tt)) (r, (tt, (tt, tt))) → ⊥
data_past r h e = let z : ◌≡◌ {A = ℕ} 0 1 = cc in omega arith

pub data_of_shows : Shows fn_data_of (λ κs a r. r)
data_of_shows = record { total = λ κs a. tt; same = λ κs a x y s t. (s.lies ∙ sym t.lies, s.shows ∙ sym t.shows) }

-- shows octets on a refusal
pub data_of_refused : (r : Bor (List ℕ)) → r.now ≡ 1 ∷ []
    → Allows fn_data_of ([], tt) (Err Truncated, (at (1 ∷ []), tt)) (r, (tt, (tt, tt))) → ⊥
data_of_refused r h e = let z : ◌≡◌ {A = ℕ} 0 1 = cc in omega arith
