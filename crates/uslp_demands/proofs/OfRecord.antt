-- The promises of `uslp_record` settle each call, and shut out two tempting wrong answers of each function.
use mathlib.Core.Path.{◌≡◌, refl, sym, ap, ◌∙◌}
use mathlib.Core.Bool.{true, false}
use mathlib.Core.List.{[]}
use Prim.Native.Nat.{ℕ, ◌^◌, ◌-◌}
use native.Mathlib.Omega.{arith}
use lib.ListN.{get_or}
use contract.Lifetimes.{Lfts}
use borrow.Fn.Kinds.{Dens}
use denote.RattleType.{RattleType}
use denote.Param.Laws.{Laws}
use Rattle.uslp_kinds.proofs.Back.{paper_one}
use Rattle.uslp_kinds.proofs.Outcomes.{not_done, done_one}
use Rattle.uslp_kinds.specs.Answers.{refusal_number}
use Rattle.uslp_kinds.specs.declared.Refusal.{Refusal}
use Rattle.uslp_kinds.specs.declared.Refusal.TheVariants.{NotOpen, TotalFull}
use Rattle.uslp_record.specs.Slots.{find, vacant, slot_of, state_at, put, empty_record}
use Rattle.uslp_record.specs.Record.{Kept, keeping, opening, closing, showing, missing_in, too_much_in, console_total}
use Rattle.uslp_record.specs.Judging.{judging, slot_judging}
use Rattle.uslp_kinds.specs.declared.BypassSequenceControlFlag.TheVariants.{SequenceControlledQoS, ExpeditedQoS}
use Rattle.uslp_record.specs.declared.Channel.{Channel}
use Rattle.uslp_record.specs.declared.ChannelRecord.{ChannelRecord}
use Rattle.uslp_record.specs.declared.SlotState.{SlotState}
use Rattle.uslp_record.specs.declared.SlotState.TheVariants.{Closed, Opened, Heard}
use Rattle.uslp_record.specs.declared.Arrival.TheVariants.{New, Repeat, Late}
use Rattle.uslp_record.specs.declared.Arrival.{Arrival}
use Rattle.uslp_record.specs.declared.Slot.{Slot}
use Rattle.uslp_record.proofs.Back.{keeping_one}
use Rattle.uslp_record.proofs as channels
use Rattle.uslp_demands.specs.Promise.{Function, function, Left, Allows, Settles, Program, Keeps}
use Rattle.uslp_demands.specs.Cases.{channel, last_heard}
use Rattle.uslp_demands.proofs.Alike.{alike, done_alike}
use Rattle.std.specs.Borrow.{Bor, MutBor}
use Rattle.std.specs.Prelude.{Option, Result, Ok, Err, Some, None}

-- the functions, each with its promise
abbrev fn_new : Function
fn_new =
    function channels.ChannelRecord.new.Kinds.ps channels.ChannelRecord.new.Kinds.r
    channels.ChannelRecord.new.Reads.Pre channels.ChannelRecord.new.Reads.Learnt

abbrev pub fn_open_channel : Function
fn_open_channel =
    function channels.ChannelRecord.open_channel.Kinds.ps channels.ChannelRecord.open_channel.Kinds.r
    channels.ChannelRecord.open_channel.Reads.Pre channels.ChannelRecord.open_channel.Reads.Learnt

abbrev pub fn_close_channel : Function
fn_close_channel =
    function channels.ChannelRecord.close_channel.Kinds.ps channels.ChannelRecord.close_channel.Kinds.r
    channels.ChannelRecord.close_channel.Reads.Pre channels.ChannelRecord.close_channel.Reads.Learnt

abbrev fn_channel_state : Function
fn_channel_state =
    function channels.ChannelRecord.channel_state.Kinds.ps channels.ChannelRecord.channel_state.Kinds.r
    channels.ChannelRecord.channel_state.Reads.Pre channels.ChannelRecord.channel_state.Reads.Learnt

-- of every type that an answer may carry
abbrev fn_refused : (T : RattleType) → Laws T → Function
fn_refused T laws =
    function (channels.Recorded.refused.Kinds.ps T laws) (channels.Recorded.refused.Kinds.r T laws)
    (channels.Recorded.refused.Reads.Pre T laws) (channels.Recorded.refused.Reads.Learnt T laws)

abbrev fn_total_missing : Function
fn_total_missing =
    function channels.ChannelRecord.total_missing.Kinds.ps channels.ChannelRecord.total_missing.Kinds.r
    channels.ChannelRecord.total_missing.Reads.Pre channels.ChannelRecord.total_missing.Reads.Learnt

abbrev fn_same_channel : Function
fn_same_channel =
    function channels.ChannelPartialEq.eq.Kinds.ps channels.ChannelPartialEq.eq.Kinds.r
    channels.ChannelPartialEq.eq.Reads.Pre channels.ChannelPartialEq.eq.Reads.Learnt

abbrev fn_search : Function
fn_search =
    function channels.ChannelRecord.search.Kinds.ps channels.ChannelRecord.search.Kinds.r
    channels.ChannelRecord.search.Reads.Pre channels.ChannelRecord.search.Reads.Learnt

abbrev pub fn_hear_count : Function
fn_hear_count =
    function channels.ChannelRecord.hear_count.Kinds.ps channels.ChannelRecord.hear_count.Kinds.r
    channels.ChannelRecord.hear_count.Reads.Pre channels.ChannelRecord.hear_count.Reads.Learnt

abbrev pub fn_hear_in_place : Function
fn_hear_in_place =
    function channels.ChannelRecord.hear_in_place.Kinds.ps channels.ChannelRecord.hear_in_place.Kinds.r
    channels.ChannelRecord.hear_in_place.Reads.Pre channels.ChannelRecord.hear_in_place.Reads.Learnt

abbrev fn_totals_is_full : Function
fn_totals_is_full =
    function channels.Totals.is_full.Kinds.ps channels.Totals.is_full.Kinds.r
    channels.Totals.is_full.Reads.Pre channels.Totals.is_full.Reads.Learnt

abbrev fn_slot_judge_count : Function
fn_slot_judge_count =
    function channels.Slot.judge_count.Kinds.ps channels.Slot.judge_count.Kinds.r
    channels.Slot.judge_count.Reads.Pre channels.Slot.judge_count.Reads.Learnt

-- a channel open in the first slot, and not heard yet
abbrev opened : ChannelRecord
opened = put empty_record 0 (Opened channel 1)

-- the state of the first slot after a call
abbrev first_of : {A : Type 0} → Kept A → SlotState
first_of (keeping o r) = (get_or r.slots 0 (slot_of Closed)).state

-- how many frames a state has handed on
abbrev handed_in : SlotState → ℕ
handed_in Closed = 0
handed_in (Opened k w) = 0
handed_in (Heard k w t) = t.handed_on

-- a slot that misses 2 ^ 60, which no call makes
abbrev pub full : ChannelRecord
full = put empty_record 0 (Heard channel 1 (record { last = 0; handed_on = 1; missing = 2 ^ 60; repeats = 0; late = 0 }))

pub new_settles : Settles fn_new
new_settles = record { total = λ κs a. tt; same = λ κs a x y s t. alike (s ∙ sym t) refl }

-- a slot open from the start
pub new_opened : Allows fn_new tt tt (opened, tt) → ⊥
new_opened e = let d : Closed ≡ Opened channel 1 = sym (ap (λ (r : ChannelRecord). (get_or r.slots 0 (slot_of Closed)).state) e) in
    let z : ◌≡◌ {A = ℕ} 0 1 = cc in omega arith

pub open_channel_settles : Settles fn_open_channel
open_channel_settles = record {
  total = λ κs a. tt;
  same = λ κs a x y s t. let e = keeping_one (s ∙ sym t) in
      alike (λ i. record { answer = done_alike {x = x.0.answer} {y = y.0.answer} e.0 i; next = e.1 i }) refl;
}

-- says done and opens nothing
pub open_channel_idle : Allows fn_open_channel tt (empty_record, (channel, (1, tt)))
    (record { answer = Ok tt; next = empty_record }, (tt, (tt, (tt, tt)))) → ⊥
unfolding opening find vacant
open_channel_idle e = let d : Closed ≡ Opened channel 1 = ap first_of e in let z : ◌≡◌ {A = ℕ} 0 1 = cc in omega arith

-- takes width 0
pub open_channel_width : Allows fn_open_channel tt (empty_record, (channel, (0, tt)))
    (record { answer = Ok tt; next = put empty_record 0 (Opened channel 0) }, (tt, (tt, (tt, tt)))) → ⊥
unfolding opening
open_channel_width e = let d : Opened channel 0 ≡ Closed = ap first_of e in let z : ◌≡◌ {A = ℕ} 0 1 = cc in omega arith

-- what it asks is the language's own: that what such a type refers to lives as long
pub refused_settles : (T : RattleType) (laws : Laws T) (κs : Lfts (fn_refused T laws).lifetimes) (a : Dens κs (fn_refused T laws).params)
    (x y : Left (fn_refused T laws) κs a) → Allows (fn_refused T laws) κs a x → Allows (fn_refused T laws) κs a y → x ≡ y
refused_settles T laws κs a x y s t = alike (s ∙ sym t) refl

-- the number of the refusal in an answer
abbrev refused_by : {A : Type 0} → Result A Refusal → ℕ
refused_by (Ok x) = 0
refused_by (Err r) = refusal_number r

-- hands on another refusal
pub refused_other : (T : RattleType) (laws : Laws T) (κs : Lfts (fn_refused T laws).lifetimes) (q : ChannelRecord)
    → Allows (fn_refused T laws) κs (q, (NotOpen, tt)) (record { answer = Err TotalFull; next = q }, (tt, (tt, tt))) → ⊥
refused_other T laws κs q e = let z : ◌≡◌ {A = ℕ} 17 13 = ap (λ v. refused_by v.answer) e in omega arith

-- empties the record
pub refused_empties : (T : RattleType) (laws : Laws T) (κs : Lfts (fn_refused T laws).lifetimes)
    → Allows (fn_refused T laws) κs (opened, (NotOpen, tt)) (record { answer = Err NotOpen; next = empty_record }, (tt, (tt, tt))) → ⊥
refused_empties T laws κs e = let d : Closed ≡ Opened channel 1 = ap (λ v. (get_or v.next.slots 0 (slot_of Closed)).state) e in
    let z : ◌≡◌ {A = ℕ} 0 1 = cc in omega arith

pub close_channel_settles : Settles fn_close_channel
close_channel_settles = record {
  total = λ κs a. tt;
  same = λ κs a x y s t. let e = keeping_one (s ∙ sym t) in
      alike (λ i. record { answer = done_alike {x = x.0.answer} {y = y.0.answer} e.0 i; next = e.1 i }) refl;
}

-- says done and closes nothing
pub close_channel_idle : Allows fn_close_channel tt (opened, (channel, tt)) (record { answer = Ok tt; next = opened }, (tt, (tt, tt))) → ⊥
unfolding closing find
close_channel_idle e = let d : Opened channel 1 ≡ Closed = ap first_of e in let z : ◌≡◌ {A = ℕ} 0 1 = cc in omega arith

-- says done of a channel that is not open
pub close_channel_lax : Allows fn_close_channel tt (empty_record, (channel, tt)) (record { answer = Ok tt; next = empty_record }, (tt, (tt, tt))) → ⊥
unfolding closing find
close_channel_lax e = let d = (keeping_one e).0 in let z : ◌≡◌ {A = ℕ} 0 1 = cc in omega arith

pub channel_state_settles : Settles fn_channel_state
channel_state_settles = record {
  total = λ κs a. tt;
  same = λ κs a x y s t. alike
      (paper_one (s ∙ sym t)) refl;
}

-- a closed slot for a channel that is not open
pub channel_state_closed : Allows fn_channel_state tt (empty_record, (channel, tt)) (Ok Closed, (tt, (tt, tt))) → ⊥
unfolding showing find
channel_state_closed e = let z : ◌≡◌ {A = ℕ} 0 1 = cc in omega arith

-- refuses an open channel
pub channel_state_refuser : Allows fn_channel_state tt (opened, (channel, tt)) (Err NotOpen, (tt, (tt, tt))) → ⊥
unfolding showing find
channel_state_refuser e = let z : ◌≡◌ {A = ℕ} 0 1 = cc in omega arith

pub total_missing_settles : Settles fn_total_missing
total_missing_settles = record {
  total = λ κs a. tt;
  same = λ κs a x y s t. alike
      (paper_one (s ∙ sym t)) refl;
}

-- adds up what no call made
pub total_missing_lax : Allows fn_total_missing tt (full, tt) (Ok (2 ^ 60), (tt, tt)) → ⊥
unfolding console_total too_much_in missing_in
total_missing_lax e = let z : ◌≡◌ {A = ℕ} 0 1 = cc in omega arith

-- refuses an empty record
pub total_missing_full : Allows fn_total_missing tt (empty_record, tt) (Err TotalFull, (tt, tt)) → ⊥
unfolding console_total too_much_in missing_in
total_missing_full e = let z : ◌≡◌ {A = ℕ} 0 1 = cc in omega arith

-- a channel that is looked at
abbrev seen : Channel → Bor Channel
seen k = record { ref_ptr = (0, 0); now = k }

pub same_channel_settles : Settles fn_same_channel
same_channel_settles = record { total = λ κs a. tt; same = λ κs a x y s t. alike (s ∙ sym t) refl }

-- compares the channel number alone
pub same_channel_number : Allows fn_same_channel ([], ([], tt))
    (seen channel, (seen (record { spacecraft_id = 0; vc_id = 5; sequence_control_flag = SequenceControlledQoS }), tt)) (true, (tt, (tt, tt))) → ⊥
same_channel_number e = let z : ◌≡◌ {A = ℕ} 0 1 = cc in omega arith

-- compares the spacecraft alone
pub same_channel_craft : Allows fn_same_channel ([], ([], tt))
    (seen channel, (seen (record { spacecraft_id = 0x1234; vc_id = 6; sequence_control_flag = SequenceControlledQoS }), tt)) (true, (tt, (tt, tt))) → ⊥
same_channel_craft e = let z : ◌≡◌ {A = ℕ} 0 1 = cc in omega arith

-- the expedited channel of the same number
abbrev rushed : Channel
rushed = record { spacecraft_id = 0x1234; vc_id = 5; sequence_control_flag = ExpeditedQoS }

-- ignores the flag
pub same_channel_flag : Allows fn_same_channel ([], ([], tt)) (seen channel, (seen rushed, tt)) (true, (tt, (tt, tt))) → ⊥
same_channel_flag e = let z : ◌≡◌ {A = ℕ} 0 1 = cc in omega arith

pub search_settles : Settles fn_search
search_settles = record { total = λ κs a. tt; same = λ κs a x y s t. alike (s ∙ sym t) refl }

-- a record that is looked at
abbrev looked : ChannelRecord → Bor ChannelRecord
looked r = record { ref_ptr = (0, 0); now = r }

-- the last slot that holds the channel
pub search_last : Allows fn_search ([], tt) (looked (put opened 3 (Opened channel 2)), (channel, tt)) (Some 3, (tt, (tt, tt))) → ⊥
unfolding find
search_last e = let z : ◌≡◌ {A = ℕ} 3 0 = cc in omega arith

-- the first slot where none holds it
pub search_zero : Allows fn_search ([], tt) (looked empty_record, (channel, tt)) (Some 0, (tt, (tt, tt))) → ⊥
unfolding find
search_zero e = let z : ◌≡◌ {A = ℕ} 0 1 = cc in omega arith

-- a search that ignores the flag: it finds the same slot for both channels of a number
pub search_flag : (f : Program fn_search) → Keeps fn_search f
    → ((r : ChannelRecord) (a b : Channel) → a.spacecraft_id ≡ b.spacecraft_id → a.vc_id ≡ b.vc_id
    → (f ([], tt) (looked r, (a, tt))).0 ≡ (f ([], tt) (looked r, (b, tt))).0)
    → ⊥
unfolding find
search_flag f keeps same =
    let d : ◌≡◌ {A = Option ℕ} (Some 0) None =
    sym (keeps ([], tt) (looked opened, (channel, tt))) ∙ same opened channel rushed refl refl ∙ keeps ([], tt) (looked opened, (rushed, tt)) in
    let z : ◌≡◌ {A = ℕ} 0 1 = cc in omega arith

pub hear_count_settles : Settles fn_hear_count
hear_count_settles = record {
  total = λ κs a. tt;
  same = λ κs a x y s t. let e = keeping_one (s ∙ sym t) in
      alike
      (λ i. record {
        answer = paper_one {x = x.0.answer} {y = y.0.answer} e.0 i;
        next = e.1 i;
      })
      refl;
}

-- changes a slot that does not hold the channel
pub hear_count_elsewhere : (s : SlotState)
    → Allows fn_hear_count tt (opened, (channel, (1, (7, tt)))) (record { answer = Ok (New 0); next = put opened 3 s }, (tt, (tt, (tt, (tt, tt)))))
    → ⊥
unfolding judging find
hear_count_elsewhere s e = let z : ◌≡◌ {A = ℕ} 0 1 = ap (λ (q : Kept Arrival). handed_in (first_of q)) e in omega arith

-- takes a count that does not fit its width: the record would not be restored once it is saved
pub hear_count_unfit : (a : Arrival) (q : ChannelRecord)
    → Allows fn_hear_count tt (opened, (channel, (1, (300, tt)))) (record { answer = Ok a; next = q }, (tt, (tt, (tt, (tt, tt))))) → ⊥
unfolding judging find
hear_count_unfit a q e = not_done (sym (keeping_one e).0)

-- half of M ahead taken as LATE; a REPEAT counted as handed on
pub hear_count_half : (q : ChannelRecord)
    → Allows fn_hear_count tt (last_heard 1 0, (channel, (1, (128, tt)))) (record { answer = Ok Late; next = q }, (tt, (tt, (tt, (tt, tt))))) → ⊥
unfolding judging find
hear_count_half q e = let d : Late ≡ New 127 = done_one (keeping_one e).0 in let z : ◌≡◌ {A = ℕ} 0 1 = cc in omega arith

pub hear_count_repeat : (q : ChannelRecord) → handed_in (state_at q 0) ≡ 2
    → Allows fn_hear_count tt (last_heard 1 0, (channel, (1, (0, tt)))) (record { answer = Ok Repeat; next = q }, (tt, (tt, (tt, (tt, tt))))) → ⊥
unfolding judging find
hear_count_repeat q h e = let z : ◌≡◌ {A = ℕ} 2 1 = sym h ∙ ap (λ (v : Kept Arrival). handed_in (first_of v)) e in omega arith

-- a record that is lent for writing
abbrev pub lent : ChannelRecord → MutBor ChannelRecord
lent r = record { ref_ptr = (0, 0); ghost_name = 0; now = r }

pub hear_in_place_settles : Settles fn_hear_in_place
hear_in_place_settles = record {
  total = λ κs a. tt;
  same = λ κs a x y s t. let e = keeping_one (s ∙ sym t) in alike (paper_one {x = x.0} {y = y.0} e.0) (λ i. (e.1 i, (tt, (tt, (tt, tt)))));
}

-- says NEW and leaves the record as it was
pub hear_in_place_idle : Allows fn_hear_in_place ([], tt) (lent opened, (channel, (1, (7, tt)))) (Ok (New 0), (opened, (tt, (tt, (tt, tt))))) → ⊥
unfolding judging find
hear_in_place_idle e = let z : ◌≡◌ {A = ℕ} 0 1 = ap (λ (v : Kept Arrival). handed_in (first_of v)) e in omega arith

-- takes a count that does not fit its width
pub hear_in_place_unfit : (a : Arrival) (q : ChannelRecord)
    → Allows fn_hear_in_place ([], tt) (lent opened, (channel, (1, (300, tt)))) (Ok a, (q, (tt, (tt, (tt, tt))))) → ⊥
unfolding judging find
hear_in_place_unfit a q e = not_done (sym (keeping_one e).0)

pub totals_is_full_settles : Settles fn_totals_is_full
totals_is_full_settles = record { total = λ κs a. tt; same = λ κs a x y s t. alike (s ∙ sym t) refl }

-- looks at what is missing alone
pub totals_is_full_missing : Allows fn_totals_is_full tt (record { last = 0; handed_on = 1; missing = 0; repeats = 0; late = 2 ^ 60 }, tt) (false, (tt, tt)) → ⊥
totals_is_full_missing e = let z : ◌≡◌ {A = ℕ} 0 1 = cc in omega arith

-- takes the largest for too much
pub totals_is_full_largest : Allows fn_totals_is_full tt (record { last = 0; handed_on = 1; missing = 2 ^ 60 - 1; repeats = 0; late = 0 }, tt) (true, (tt, tt)) → ⊥
totals_is_full_largest e = let z : ◌≡◌ {A = ℕ} 0 1 = cc in omega arith

pub slot_judge_count_settles : Settles fn_slot_judge_count
slot_judge_count_settles = record {
  total = λ κs a. tt;
  same = λ κs a x y s t.
      alike
      (paper_one
      {x = x.0} {y = y.0} (s ∙ sym t))
      refl;
}

-- a slot in which a frame of another width is counted; a REPEAT that empties it
pub slot_judge_count_width : (x : Slot)
    → Allows fn_slot_judge_count tt (slot_of (Opened channel 1), (channel, (2, (7, tt)))) (Ok (New 0, x), (tt, (tt, (tt, (tt, tt))))) → ⊥
unfolding slot_judging
slot_judge_count_width x e = not_done (sym e)

-- a count that does not fit its width
pub slot_judge_count_unfit : (a : Arrival) (x : Slot)
    → Allows fn_slot_judge_count tt (slot_of (Opened channel 1), (channel, (1, (300, tt)))) (Ok (a, x), (tt, (tt, (tt, (tt, tt))))) → ⊥
unfolding slot_judging
slot_judge_count_unfit a x e = not_done (sym e)

pub slot_judge_count_empties : Allows fn_slot_judge_count tt (slot_of (state_at (last_heard 1 0) 0), (channel, (1, (0, tt))))
    (Ok (Repeat, slot_of (Opened channel 1)), (tt, (tt, (tt, (tt, tt))))) → ⊥
unfolding slot_judging
slot_judge_count_empties e = let z : ◌≡◌ {A = ℕ} 0 1 = ap (λ (x : Arrival × Slot). handed_in x.1.state) (done_one e) in omega arith
