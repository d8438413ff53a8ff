-- Each step of the sum is a law of `Tally`.
use Rattle.uslp_record.specs.Slots.{slot_of}
use Rattle.uslp_record.specs.declared.SlotState.TheVariants.{Closed}
use Rattle.uslp_record.proofs.Seek.{eight_slots}
use Rattle.uslp_record.proofs.Tally.{tallied_all, tallied_add, tallied_stop}
use Rattle.uslp_record.proofs.ChannelRecord.total_missing.Goals as goal

pub returns-then-missing-gt-MOST : goal.returns-then-missing-gt-MOST
returns-then-missing-gt-MOST c =
    let l = c.loop-slot in
    let long = eight_slots c.args.self c.well_formed.0 in
    tallied_stop c.args.self l.slot-index l.sum long l.invariant (slot_of Closed) _ c.loop-slot-test.true
    c.missing-missing.ensures c.if-missing-gt-MOST.true

pub loop-slot-preserved : goal.loop-slot-preserved
loop-slot-preserved c =
    let l = c.loop-slot in
    let long = eight_slots c.args.self c.well_formed.0 in
    tallied_add c.args.self l.slot-index l.sum long l.invariant (slot_of Closed) _ c.loop-slot-test.true
    c.missing-missing.ensures c.if-missing-gt-MOST.false

pub returns : goal.returns
returns c =
    let l = c.loop-slot in
    let long = eight_slots c.args.self c.well_formed.0 in
    tallied_all c.args.self l.slot-index l.sum long l.invariant c.loop-slot-test.false
