-- The promises of the reader of `uslp_lent` settle each call, and shut out tempting wrong answers of each function. `data` and `frame_data` hand
-- back a part of the lent octets: what it shows is settled.
use mathlib.Core.Path.{◌≡◌, refl, sym, ap, ◌∙◌}
use mathlib.Core.List.{List, [], ◌∷◌}
use Prim.Native.Nat.{ℕ}
use native.Mathlib.Omega.{arith}
use lib.ListN.{length}
use denote.Ref.{Bor}
use Rattle.uslp_kinds.specs.Managed.{no_fecf}
use Rattle.uslp_kinds.specs.declared.SourceOrDestField.TheVariants.{Source, Dest}
use Rattle.uslp_kinds.specs.declared.ConstructionRule.TheVariants.{PacketSpanningMultipleFrames, NoSegmentation}
use Rattle.uslp_kinds.specs.declared.Refusal.TheVariants.{Truncated}
use Rattle.uslp_kinds.proofs.Outcomes.{done_one, not_done}
use Rattle.uslp_kinds.proofs.Back.{paper_one}
use Rattle.uslp_primary_header.specs.Header.{header_reading}
use Rattle.uslp_primary_header.specs.declared.PrimaryHeader.{PrimaryHeader}
use Rattle.uslp_data_field_header.specs.Field.{field_reading}
use Rattle.uslp_data_field_header.specs.declared.TransferFrameDataFieldHeader.{TransferFrameDataFieldHeader}
use Rattle.uslp_reader.specs.Reader.{frame_reading}
use Rattle.uslp_reader.specs.declared.TransferFrame.{TransferFrame}
use Rattle.uslp_lent.specs.declared.reader.TransferFrameReader.{TransferFrameReader}
use Rattle.uslp_lent.proofs.reader as lent
use Rattle.uslp_lent.specs.contracts.reader as contracts
use Rattle.uslp_lent.specs.contracts.reader.TransferFrameReader as reader
use Rattle.uslp_demands.specs.Promise as promise
use Rattle.uslp_demands.specs.Promise.{Function, function, at, Allows}
use Rattle.uslp_demands.specs.Clause.{Settles, Shows, ShutsOut}
use Rattle.uslp_roundtrip.specs.Samples.{some, made, spanning, octets_f, read_f}
use Rattle.uslp_demands.proofs.Alike.{alike}
use Rattle.uslp_demands.proofs.Facts.{by_fact, shut}
use Rattle.std.specs.Prelude.{Result, Ok, Err, Some, None}
use Rattle.uslp_kinds.specs.Answers.{paper}
use Rattle.uslp_kinds.specs.declared.Refusal.{Refusal}

-- the functions, each with its promise
abbrev fn_frame_data_len : Function
fn_frame_data_len = function lent.frame_data_len.Kinds.ps lent.frame_data_len.Kinds.r lent.frame_data_len.Reads.Pre lent.frame_data_len.Reads.Learnt

-- a reader that keeps the octets of frame F: it was read, or it was refused
abbrev over : Result TransferFrame Refusal → TransferFrameReader
over answer = record { raw = at octets_f; found = answer }

abbrev read : TransferFrameReader
read = over (Ok read_f)

abbrev unread : TransferFrameReader
unread = over (Err Truncated)

id_alike : {x y : Result ℕ Refusal} → paper x ≡ paper y → x ≡ y
id_alike = paper_one

pub from_bytes_settles : Settles reader.from_bytes.ended (λ M 𝓤. reader.from_bytes.clauses)
from_bytes_settles =
    by_fact _ _
    (λ κs a x y s t.
    let e = paper_one {x = x.0.found} {y = y.0.found}
    (s.1 ∙ sym t.1) in
    alike (λ i. record { raw = (s.0 ∙ sym t.0) i; found = e i }) refl)

-- refuses what can be read
pub from_bytes_refuser : ShutsOut reader.from_bytes.ended (λ M 𝓤. reader.from_bytes.clauses) ([], tt) (at octets_f, (no_fecf, tt)) (unread, (tt, (tt, tt)))
unfolding frame_reading header_reading field_reading
from_bytes_refuser = shut _ _ (λ e. not_done e.1)

-- keeps no octets
pub from_bytes_forgets : ShutsOut reader.from_bytes.ended (λ M 𝓤. reader.from_bytes.clauses) ([], tt) (at octets_f, (no_fecf, tt))
    (record { raw = at []; found = read.found }, (tt, (tt, tt)))
from_bytes_forgets = shut _ _ (λ e. let z : ◌≡◌ {A = ℕ} 0 11 = ap (λ (s : Bor (List ℕ)). length s.now) e.0 in omega arith)

pub answer_settles : Settles reader.answer.ended (λ M 𝓤. reader.answer.clauses)
answer_settles = by_fact _ _ (λ κs a x y s t. alike (s ∙ sym t) refl)

-- a refusal of a frame that was read
pub answer_refuser : ShutsOut reader.answer.ended (λ M 𝓤. reader.answer.clauses) ([], tt) (read, tt) (Err Truncated, (tt, tt))
answer_refuser = shut _ _ (λ e. not_done (ap paper e))

pub raw_frame_settles : Settles reader.raw_frame.ended (λ M 𝓤. reader.raw_frame.clauses)
raw_frame_settles = by_fact _ _ (λ κs a x y s t. alike (s ∙ sym t) refl)

-- no octets
pub raw_frame_empty : ShutsOut reader.raw_frame.ended (λ M 𝓤. reader.raw_frame.clauses) ([], tt) (read, tt) (at [], (tt, tt))
raw_frame_empty = shut _ _ (λ e. let z : ◌≡◌ {A = ℕ} 0 11 = ap (λ (s : Bor (List ℕ)). length s.now) e in omega arith)

pub data_shows : Shows reader.data.ended (λ M 𝓤. reader.data.clauses) (λ κs a r. r)
data_shows = by_fact _ _ (λ κs a x y s t. (s.lies ∙ sym t.lies, s.shows ∙ sym t.shows))

-- shows the whole buffer; shows octets on a refusal
pub data_whole : (r : Bor (List ℕ)) → r.now ≡ octets_f → ShutsOut reader.data.ended (λ M 𝓤. reader.data.clauses) ([], tt) (read, tt) (r, (tt, tt))
data_whole r h = shut _ _ (λ e. let z : ◌≡◌ {A = ℕ} 11 2 = ap length (sym h ∙ e.shows) in omega arith)

pub data_refused : (r : Bor (List ℕ)) → r.now ≡ 0x0A ∷ 0xF0 ∷ [] → ShutsOut reader.data.ended (λ M 𝓤. reader.data.clauses) ([], tt) (unread, tt) (r, (tt, tt))
data_refused r h = shut _ _ (λ e. let z : ◌≡◌ {A = ℕ} 2 0 = ap length (sym h ∙ e.shows) in omega arith)

pub len_frame_settles : Settles reader.len_frame.ended (λ M 𝓤. reader.len_frame.clauses)
len_frame_settles = by_fact _ _
    (λ κs a x y s t. alike (paper_one {x = x.0} {y = y.0} (s ∙ sym t))
    refl)

-- the field as it stands
pub len_frame_field : ShutsOut reader.len_frame.ended (λ M 𝓤. reader.len_frame.clauses) ([], tt) (read, tt) (Ok 10, (tt, tt))
len_frame_field = shut _ _ (λ e. let z : ◌≡◌ {A = ℕ} 10 11 = done_one e in omega arith)

-- 0 on a refusal
pub len_frame_zero : ShutsOut reader.len_frame.ended (λ M 𝓤. reader.len_frame.clauses) ([], tt) (unread, tt) (Ok 0, (tt, tt))
len_frame_zero = shut _ _ (λ e. not_done (sym e))

pub primary_header_settles : Settles reader.primary_header.ended (λ M 𝓤. reader.primary_header.clauses)
primary_header_settles = by_fact _ _
    (λ κs a x y s t. alike (paper_one {x = x.0} {y = y.0} (s ∙ sym t)) refl)

-- the header without its count
pub primary_header_fresh : ShutsOut reader.primary_header.ended (λ M 𝓤. reader.primary_header.clauses) ([], tt) (read, tt) (Ok made, (tt, tt))
primary_header_fresh = shut _ _ (λ e. let z : ◌≡◌ {A = ℕ} 0 7 = ap (λ (h : PrimaryHeader). h.vc_frame_count) (done_one e) in omega arith)

-- a header on a refusal
pub primary_header_made_up : ShutsOut reader.primary_header.ended (λ M 𝓤. reader.primary_header.clauses) ([], tt) (unread, tt) (Ok some, (tt, tt))
primary_header_made_up = shut _ _ (λ e. not_done (sym e))

pub data_field_header_settles : Settles reader.data_field_header.ended (λ M 𝓤. reader.data_field_header.clauses)
data_field_header_settles = by_fact _ _
    (λ κs a x y s t. alike (paper_one {x = x.0} {y = y.0} (s ∙ sym t)) refl)

-- another header
pub data_field_header_other : ShutsOut reader.data_field_header.ended (λ M 𝓤. reader.data_field_header.clauses) ([], tt) (read, tt)
    (Ok spanning, (tt, tt))
data_field_header_other = shut _ _
    (λ e. let d : PacketSpanningMultipleFrames ≡ NoSegmentation = ap (λ (f : TransferFrameDataFieldHeader). f.construction_rule) (done_one e) in
    let z : ◌≡◌ {A = ℕ} 0 1 = cc in omega arith)

-- a header on a refusal
pub data_field_header_made_up : ShutsOut reader.data_field_header.ended (λ M 𝓤. reader.data_field_header.clauses) ([], tt) (unread, tt)
    (Ok spanning, (tt, tt))
data_field_header_made_up = shut _ _ (λ e. not_done (sym e))

pub operational_control_field_settles : Settles reader.operational_control_field.ended (λ M 𝓤. reader.operational_control_field.clauses)
operational_control_field_settles = by_fact _ _
    (λ κs a x y s t. alike (paper_one {x = x.0} {y = y.0} (s ∙ sym t)) refl)

-- an OCF of 0 where there is none
pub operational_control_field_zero : ShutsOut reader.operational_control_field.ended (λ M 𝓤. reader.operational_control_field.clauses) ([], tt)
    (read, tt) (Ok (Some 0), (tt, tt))
operational_control_field_zero = shut _ _ (λ e. let d : Some 0 ≡ None = done_one e in let z : ◌≡◌ {A = ℕ} 0 1 = cc in omega arith)

-- no OCF on a refusal
pub operational_control_field_absent : ShutsOut reader.operational_control_field.ended (λ M 𝓤. reader.operational_control_field.clauses) ([], tt)
    (unread, tt) (Ok None, (tt, tt))
operational_control_field_absent = shut _ _ (λ e. not_done (sym e))

pub vc_id_settles : Settles reader.vc_id.ended (λ M 𝓤. reader.vc_id.clauses)
vc_id_settles = by_fact _ _ (λ κs a x y s t. alike (id_alike {x = x.0} {y = y.0} (s ∙ sym t)) refl)

-- the map id
pub vc_id_map : ShutsOut reader.vc_id.ended (λ M 𝓤. reader.vc_id.clauses) ([], tt) (read, tt) (Ok 3, (tt, tt))
vc_id_map = shut _ _ (λ e. let z : ◌≡◌ {A = ℕ} 3 5 = done_one e in omega arith)

-- 0 on a refusal
pub vc_id_zero : ShutsOut reader.vc_id.ended (λ M 𝓤. reader.vc_id.clauses) ([], tt) (unread, tt) (Ok 0, (tt, tt))
vc_id_zero = shut _ _ (λ e. not_done (sym e))

pub map_id_settles : Settles reader.map_id.ended (λ M 𝓤. reader.map_id.clauses)
map_id_settles = by_fact _ _ (λ κs a x y s t. alike (id_alike {x = x.0} {y = y.0} (s ∙ sym t)) refl)

-- the channel
pub map_id_channel : ShutsOut reader.map_id.ended (λ M 𝓤. reader.map_id.clauses) ([], tt) (read, tt) (Ok 5, (tt, tt))
map_id_channel = shut _ _ (λ e. let z : ◌≡◌ {A = ℕ} 5 3 = done_one e in omega arith)

-- 0 on a refusal
pub map_id_zero : ShutsOut reader.map_id.ended (λ M 𝓤. reader.map_id.clauses) ([], tt) (unread, tt) (Ok 0, (tt, tt))
map_id_zero = shut _ _ (λ e. not_done (sym e))

pub spacecraft_id_settles : Settles reader.spacecraft_id.ended (λ M 𝓤. reader.spacecraft_id.clauses)
spacecraft_id_settles = by_fact _ _ (λ κs a x y s t. alike (id_alike {x = x.0} {y = y.0} (s ∙ sym t)) refl)

-- its low octet
pub spacecraft_id_low : ShutsOut reader.spacecraft_id.ended (λ M 𝓤. reader.spacecraft_id.clauses) ([], tt) (read, tt) (Ok 0x34, (tt, tt))
spacecraft_id_low = shut _ _ (λ e. let z : ◌≡◌ {A = ℕ} 0x34 0x1234 = done_one e in omega arith)

-- 0 on a refusal
pub spacecraft_id_zero : ShutsOut reader.spacecraft_id.ended (λ M 𝓤. reader.spacecraft_id.clauses) ([], tt) (unread, tt) (Ok 0, (tt, tt))
spacecraft_id_zero = shut _ _ (λ e. not_done (sym e))

pub source_or_dest_field_settles : Settles reader.source_or_dest_field.ended (λ M 𝓤. reader.source_or_dest_field.clauses)
source_or_dest_field_settles = by_fact _ _
    (λ κs a x y s t. alike (paper_one {x = x.0} {y = y.0} (s ∙ sym t)) refl)

-- the source for all
pub source_or_dest_field_source : ShutsOut reader.source_or_dest_field.ended (λ M 𝓤. reader.source_or_dest_field.clauses) ([], tt) (read, tt)
    (Ok Source, (tt, tt))
source_or_dest_field_source = shut _ _ (λ e. let d : Source ≡ Dest = done_one e in let z : ◌≡◌ {A = ℕ} 0 1 = cc in omega arith)

-- the destination on a refusal
pub source_or_dest_field_made_up : ShutsOut reader.source_or_dest_field.ended (λ M 𝓤. reader.source_or_dest_field.clauses) ([], tt) (unread, tt)
    (Ok Dest, (tt, tt))
source_or_dest_field_made_up = shut _ _ (λ e. not_done (sym e))

pub frame_data_shows : Shows contracts.frame_data.ended (λ M 𝓤. contracts.frame_data.clauses) (λ κs a r. r)
frame_data_shows = by_fact _ _ (λ κs a x y s t. (s.lies ∙ sym t.lies, s.shows ∙ sym t.shows))

-- shows the whole buffer; shows nothing of a frame that can be read
pub frame_data_whole : (r : Bor (List ℕ)) → r.now ≡ octets_f
    → ShutsOut contracts.frame_data.ended (λ M 𝓤. contracts.frame_data.clauses) ([], tt) (at octets_f, (no_fecf, tt)) (r, (tt, (tt, tt)))
unfolding frame_reading header_reading field_reading
frame_data_whole r h = shut _ _ (λ e. let z : ◌≡◌ {A = ℕ} 11 2 = ap length (sym h ∙ e.shows) in omega arith)

pub frame_data_none : (r : Bor (List ℕ)) → r.now ≡ []
    → ShutsOut contracts.frame_data.ended (λ M 𝓤. contracts.frame_data.clauses) ([], tt) (at octets_f, (no_fecf, tt)) (r, (tt, (tt, tt)))
unfolding frame_reading header_reading field_reading
frame_data_none r h = shut _ _ (λ e. let z : ◌≡◌ {A = ℕ} 0 2 = ap length (sym h ∙ e.shows) in omega arith)

pub frame_data_len_settles : promise.Settles fn_frame_data_len
frame_data_len_settles = record { total = λ κs a. tt; same = λ κs a x y s t. alike (s ∙ sym t) refl }

-- the whole buffer
pub frame_data_len_whole : Allows fn_frame_data_len ([], tt) (at octets_f, (no_fecf, tt)) (11, (tt, (tt, tt))) → ⊥
unfolding frame_reading header_reading field_reading
frame_data_len_whole e = omega arith

-- 0 for all
pub frame_data_len_zero : Allows fn_frame_data_len ([], tt) (at octets_f, (no_fecf, tt)) (0, (tt, (tt, tt))) → ⊥
unfolding frame_reading header_reading field_reading
frame_data_len_zero e = omega arith
