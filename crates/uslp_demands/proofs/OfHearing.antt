-- The promises of `uslp_hearing` settle each call. `handed_on` hands back a part of the lent octets: what it shows is settled.
use mathlib.Core.Path.{◌≡◌, refl, sym, ap, ◌∙◌}
use mathlib.Core.List.{List, [], ◌∷◌}
use Prim.Native.Nat.{ℕ}
use native.Mathlib.Omega.{arith}
use denote.Ref.{Bor}
use Rattle.uslp_kinds.specs.Managed.{no_fecf}
use Rattle.uslp_kinds.specs.Kinds.{bypass_number}
use Rattle.uslp_kinds.specs.declared.BypassSequenceControlFlag.TheVariants.{SequenceControlledQoS, ExpeditedQoS}
use Rattle.uslp_kinds.proofs.Back.{paper_one}
use Rattle.uslp_kinds.proofs.Outcomes.{not_done}
use Rattle.uslp_primary_header.specs.Header.{with_count, header_reading}
use Rattle.uslp_primary_header.specs.declared.PrimaryHeader.{PrimaryHeader}
use Rattle.uslp_data_field_header.specs.Field.{field_reading}
use Rattle.uslp_reader.specs.Reader.{frame_reading}
use Rattle.uslp_reader.specs.declared.TransferFrame.{TransferFrame}
use Rattle.uslp_record.specs.Slots.{find, state_at, put, empty_record}
use Rattle.uslp_record.specs.Record.{keeping}
use Rattle.uslp_record.specs.Judging.{judging}
use Rattle.uslp_record.specs.declared.Channel.{Channel}
use Rattle.uslp_record.specs.declared.ChannelRecord.{ChannelRecord}
use Rattle.uslp_record.specs.declared.SlotState.{SlotState}
use Rattle.uslp_record.specs.declared.SlotState.TheVariants.{Closed, Opened, Heard}
use Rattle.uslp_record.proofs.Back.{keeping_one}
use Rattle.uslp_hearing.specs.declared.FrameArrival.TheVariants.{New, Repeat}
use Rattle.uslp_hearing.specs.declared.FrameArrival.{FrameArrival}
use Rattle.uslp_record.specs.declared.Recorded.{Recorded}
use Rattle.uslp_hearing.proofs as hearing
use Rattle.uslp_demands.specs.Promise.{Function, function, at, Allows, Settles, Shows}
use Rattle.uslp_roundtrip.specs.Samples.{octets_f, some, whole, read_f}
use Rattle.uslp_demands.proofs.Alike.{alike}
use Rattle.std.specs.Prelude.{Ok, None}
use Rattle.uslp_kinds.specs.Answers.{paper}

-- the functions, each with its promise
abbrev pub fn_hear : Function
fn_hear = function hearing.hear.Kinds.ps hearing.hear.Kinds.r hearing.hear.Reads.Pre hearing.hear.Reads.Learnt

abbrev pub fn_hear_frame : Function
fn_hear_frame = function hearing.hear_frame.Kinds.ps hearing.hear_frame.Kinds.r hearing.hear_frame.Reads.Pre hearing.hear_frame.Reads.Learnt

abbrev fn_handed_on : Function
fn_handed_on = function hearing.handed_on.Kinds.ps hearing.handed_on.Kinds.r hearing.handed_on.Reads.Pre hearing.handed_on.Reads.Learnt

abbrev fn_channel_of : Function
fn_channel_of = function hearing.channel_of.Kinds.ps hearing.channel_of.Kinds.r hearing.channel_of.Reads.Pre hearing.channel_of.Reads.Learnt

-- a channel open in the first slot, and not heard yet; and how many frames the first slot has handed on
abbrev opened : ChannelRecord
opened = put empty_record 0 (Opened (record { spacecraft_id = 0x1234; vc_id = 5; sequence_control_flag = SequenceControlledQoS }) 1)

abbrev handed_in : SlotState → ℕ
handed_in Closed = 0
handed_in (Opened k w) = 0
handed_in (Heard k w t) = t.handed_on

abbrev handed_first : ChannelRecord → ℕ
handed_first r = handed_in (state_at r 0)

-- two answers with the record after them that say the same are the same
hearing_one : {x y : Recorded FrameArrival} → keeping (paper x.answer) x.next ≡ keeping (paper y.answer) y.next → x ≡ y
hearing_one {x} {y} q =
    let e = keeping_one q in
    λ i. record { answer = paper_one {x = x.answer} {y = y.answer} e.0 i; next = e.1 i }

pub hear_settles : Settles fn_hear
hear_settles = record { total = λ κs a. tt; same = λ κs a x y s t. alike (hearing_one {x = x.0} {y = y.0} (s ∙ sym t)) refl }

pub hear_frame_settles : Settles fn_hear_frame
hear_frame_settles = record { total = λ κs a. tt; same = λ κs a x y s t. alike (hearing_one {x = x.0} {y = y.0} (s ∙ sym t)) refl }

-- hears a channel that is not open; says NEW and counts nothing
pub hear_lax : Allows fn_hear ([], tt) (empty_record, (at octets_f, (no_fecf, tt))) (record { answer = Ok Repeat; next = empty_record }, (tt, (tt, (tt, tt)))) → ⊥
unfolding frame_reading header_reading field_reading judging find
hear_lax e = let z : ◌≡◌ {A = ℕ} 0 1 = cc in omega arith

pub hear_still : Allows fn_hear ([], tt) (opened, (at octets_f, (no_fecf, tt))) (record { answer = Ok (New 0 read_f); next = opened }, (tt, (tt, (tt, tt)))) → ⊥
unfolding frame_reading header_reading field_reading judging find
hear_still e = let z : ◌≡◌ {A = ℕ} 0 1 = ap (λ (r : ChannelRecord). handed_first r) (keeping_one e).1 in omega arith

-- the same of a frame that was read already
pub hear_frame_lax : Allows fn_hear_frame tt (empty_record, (read_f, tt)) (record { answer = Ok Repeat; next = empty_record }, (tt, (tt, tt))) → ⊥
unfolding judging find
hear_frame_lax e = let z : ◌≡◌ {A = ℕ} 0 1 = cc in omega arith

pub hear_frame_still : Allows fn_hear_frame tt (opened, (read_f, tt)) (record { answer = Ok (New 0 read_f); next = opened }, (tt, (tt, tt))) → ⊥
unfolding judging find
hear_frame_still e = let z : ◌≡◌ {A = ℕ} 0 1 = ap (λ (r : ChannelRecord). handed_first r) (keeping_one e).1 in omega arith

-- a made-up frame whose count does not fit its width
abbrev unfit : TransferFrame
unfit =
    record {
      primary_header = with_count 1 300 some;
      data_field_header = whole;
      operational_control_field = None;
      data_start = 9;
      data_len = 2;
    }

pub hear_frame_unfit : (a : FrameArrival) (q : ChannelRecord)
    → Allows fn_hear_frame tt (opened, (unfit, tt)) (record { answer = Ok a; next = q }, (tt, (tt, tt))) → ⊥
unfolding judging find
hear_frame_unfit a q e = not_done (sym (keeping_one e).0)

pub handed_on_shows : Shows fn_handed_on (λ κs a r. r)
handed_on_shows = record { total = λ κs a. tt; same = λ κs a x y s t. (s.lies ∙ sym t.lies, s.shows ∙ sym t.shows) }

-- hands on the data of a REPEAT; hands on nothing of a NEW frame
pub handed_on_repeat : (r : Bor (List ℕ)) → r.now ≡ 0x0A ∷ 0xF0 ∷ [] → Allows fn_handed_on ([], tt) (Ok Repeat, (at octets_f, tt)) (r, (tt, (tt, tt))) → ⊥
handed_on_repeat r h e = let z : ◌≡◌ {A = ℕ} 0 1 = cc in omega arith

pub handed_on_none : (r : Bor (List ℕ)) → r.now ≡ [] → Allows fn_handed_on ([], tt) (Ok (New 0 read_f), (at octets_f, tt)) (r, (tt, (tt, tt))) → ⊥
handed_on_none r h e = let z : ◌≡◌ {A = ℕ} 0 1 = cc in omega arith

pub channel_of_settles : Settles fn_channel_of
channel_of_settles = record { total = λ κs a. tt; same = λ κs a x y s t. alike (s ∙ sym t) refl }

-- the map id for the channel number
pub channel_of_map : Allows fn_channel_of tt (some, tt)
    (record { spacecraft_id = 0x1234; vc_id = 3; sequence_control_flag = SequenceControlledQoS }, (tt, tt)) → ⊥
channel_of_map e = let z : ◌≡◌ {A = ℕ} 3 5 = ap (λ (k : Channel). k.vc_id) e in omega arith

-- the channel number alone
pub channel_of_number : Allows fn_channel_of tt (some, tt)
    (record { spacecraft_id = 0; vc_id = 5; sequence_control_flag = SequenceControlledQoS }, (tt, tt)) → ⊥
channel_of_number e = let z : ◌≡◌ {A = ℕ} 0 0x1234 = ap (λ (k : Channel). k.spacecraft_id) e in omega arith

-- the flag ignored: an expedited frame taken for one of the sequence-controlled channel
pub channel_of_flag : (h : PrimaryHeader) (k : Channel) → h.sequence_control_flag ≡ ExpeditedQoS → k.sequence_control_flag ≡ SequenceControlledQoS
    → Allows fn_channel_of tt (h, tt) (k, (tt, tt)) → ⊥
channel_of_flag h k a b e =
    let z : ◌≡◌ {A = ℕ} 0 1 = ap bypass_number (sym b ∙ ap (λ (c : Channel). c.sequence_control_flag) e ∙ a) in omega arith
