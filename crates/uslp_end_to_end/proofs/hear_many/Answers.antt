-- A frame is heard and counted, and carries the loop on; a refusal and the end complete the whole.
use Rattle.std.proofs.Common.{arith, ◌≡◌, ◌-◌, refl, ap, sym, ◌∙◌, List, ℕ, length, take, drop}
use Rattle.std.specs.Prelude.{Result}
use Rattle.uslp_octets.proofs.Laws.{are_drop}
use Rattle.uslp_kinds.specs.Answers.{paper}
use Rattle.uslp_kinds.specs.declared.ManagedParameters.{ManagedParameters}
use Rattle.uslp_kinds.specs.declared.Refusal.{Refusal}
use Rattle.uslp_primary_header.specs.Header.{len_frame}
use Rattle.uslp_reader.specs.Reader.{frame_reading}
use Rattle.uslp_reader.specs.declared.TransferFrame.{TransferFrame}
use Rattle.uslp_reader.proofs.Parts.{rest_part}
use Rattle.uslp_reader.proofs.Own.{own_octets}
use Rattle.uslp_record.specs.declared.Arrival.{Arrival}
use Rattle.uslp_end_to_end.proofs.Walk.{gap_in, counted, stepped, goes_refused, goes_all, heard_small, heard_more}
use Rattle.uslp_end_to_end.proofs.hear_many.Goals as goal

-- an answer to the reading at the place names what stands there
answered : (s : List ℕ) (place : ℕ) (managed : ManagedParameters) {r a : Result TransferFrame Refusal}
    → paper r ≡ frame_reading (take (length s - place) (drop place s)) managed → r ≡ a → frame_reading (drop place s) managed ≡ paper a
answered s place managed e is = ap (λ (t : List ℕ). frame_reading t managed) (sym (rest_part s place place refl)) ∙ sym e ∙ ap paper is

pub count-requires : goal.count-requires
count-requires c =
    let l = c.loop-place in
    let whole = c.args.buf.now in
    let there = are_drop l.place whole (λ i. omega (arith, c.type_inv.buf i)) in
    let read = answered whole l.place c.args.managed c.from_bytes.ensures c.in-Ok.is in
    let after = counted c.in-Ok.frame l.next l.invariant.eight _ _ there read c.hear_in.ensures in
    (heard_small l.invariant (omega arith), λ gap e. omega (arith, after.fits, ap (λ (r : Result Arrival Refusal). gap_in (paper r)) e))

pub loop-place-preserved : goal.loop-place-preserved
loop-place-preserved c =
    let l = c.loop-place in
    let f = c.in-Ok.frame in
    let rest = drop l.place c.args.buf.now in
    let there = are_drop l.place c.args.buf.now (λ i. omega (arith, c.type_inv.buf i)) in
    let read = answered c.args.buf.now l.place c.args.managed c.from_bytes.ensures c.in-Ok.is in
    heard_more l.invariant f read c.len_frame-place.ensures
    (stepped c.args.managed (take (len_frame f.primary_header) rest) f (own_octets rest c.args.managed f there read) l.tally l.next
    c.hear_in.ensures
    (counted f l.next l.invariant.eight _ _ there read c.hear_in.ensures) (c.count.ensures f))

pub returns-in-Err : goal.returns-in-Err
returns-in-Err c =
    goes_refused c.loop-place.invariant.goes (omega arith)
    (answered c.args.buf.now c.loop-place.place c.args.managed c.from_bytes.ensures c.in-Err.is)

pub returns : goal.returns
returns c = goes_all c.loop-place.invariant.goes (omega arith)
