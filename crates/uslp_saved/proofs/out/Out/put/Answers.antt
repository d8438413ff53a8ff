-- A number's octets stand behind those put.
use Rattle.std.proofs.Common.{List, ℕ, ◌++◌, ◌∙◌, ap, arith, length}
use lib.Seq.{length-take-le}
use Rattle.uslp_octets.specs.Octets.{octets}
use Rattle.uslp_saved.proofs.Puts.{put_behind}
use Rattle.uslp_saved.proofs.out.Out.put.Goals as goal

pub returns : goal.returns
returns c =
    let a = c.args in
    let o = c.self.inside in
    let long = c.self.told in
    let put = length-take-le o.len o.cells (omega (arith, c.self.invariant)) in (
      put_behind o.cells _ o.len a.width a.value (omega (arith, ap length c.self.view_is)) c.put_be_number.ensures
          ∙ ap (λ (l : List ℕ). l ++ octets a.width a.value) c.self.view_is,
      omega arith,
    )
