-- A call takes no more octets than it is offered.
use Rattle.std.proofs.Common.{◌≡◌, ◌∙◌, ℕ, ◌-◌, ◌≤◌, ◌<◌, List, length, take, drop, sym, arith, length-drop}
use lib.Seq.{length-take-le}
use Rattle.uslp_intake.specs.Intake.{paper_intake}
use Rattle.uslp_intake.proofs.Calls.{takes_most}
use Rattle.uslp_console_example.proofs.Link.receive.Given as given
use Rattle.uslp_console_example.proofs.Link.receive.Goals as goal

taken : (g : given.Over) (c : goal.Else-taken-eq0 g) → c.taken_by-taken.result ≤ length c.loop-frame.rest.now
taken g c =
    let most = takes_most _ _ _ _ _ (paper_intake c.take_block-answer.result) (sym c.take_block-answer.ensures) in
    omega (arith, most, c.taken_by-taken.ensures)

pub slice_bounds-rest-count : goal.slice_bounds-rest-count
slice_bounds-rest-count g c = taken g c

pub slice_bounds-rest-start : goal.slice_bounds-rest-start
slice_bounds-rest-start g c = taken g c

fewer : (n : ℕ) (rest : List ℕ) → n ≤ length rest → (n ≡ 0 → ⊥) → length (take (length rest - n) (drop n rest)) < length rest
fewer n rest h some = omega (arith, h, some, length-take-le (length rest - n) (drop n rest) (omega (arith, length-drop n rest)))

pub loop-frame-smaller : goal.loop-frame-smaller
loop-frame-smaller g c =
    let most = takes_most _ _ _ _ _ (paper_intake c.take_block-answer.result) (sym c.take_block-answer.ensures) in
    fewer c.taken_by-taken.result c.loop-frame.rest.now (omega (arith, most, c.taken_by-taken.ensures)) c.if-taken-eq0.false
