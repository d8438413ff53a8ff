use Rattle.std.proofs.Common.{◌≡◌, arith, sym, ap, ◌∙◌, ℕ, ◌*◌, ◌%◌, ◌^◌}
use Rattle.std.specs.Int.Bits.{bit_xor}
use native.Mathlib.Nat.{mod-eq_of_lt}
use Rattle.uslp_checksum.proofs.Register.{zstep, zsteps}
use Rattle.uslp_checksum.proofs.Message.{feed_octet}
use Rattle.uslp_checksum.proofs.Turns.{zsteps_last, moved_set, moved_clear}
use Rattle.uslp_checksum.proofs.octet_bitwise.Goals as goal
use Rattle.uslp_checksum.proofs.octet_bitwise.Goals.{then-current-ne0, else-current-ne0}

pub loop-k-preserved : goal.loop-k-preserved
loop-k-preserved c =
    let l = c.loop-k in
    elim c.if-current-ne0.branch [
      | then-current-ne0 w ↦ w.current-is ∙ moved_set l.current w.if-current-ne0.true
      | else-current-ne0 w ↦ w.current-is ∙ moved_clear l.current w.if-current-ne0.false
    ]
    ∙ ap zstep l.invariant ∙ sym (zsteps_last l.k _)

pub returns : goal.returns
returns c =
    let r = c.args.register in
    let o = c.args.octet in
    let high : o * 256 % 2 ^ 16 ≡ o * 256 = mod-eq_of_lt (omega arith) in
    let all : c.loop-k.k ≡ 8 = omega arith in
    c.loop-k.invariant ∙ ap (λ (k : ℕ). zsteps k (bit_xor r (c.from.result * 256 % 2 ^ 16))) all
    ∙ ap (λ (x : ℕ). zsteps 8 (bit_xor r (x * 256 % 2 ^ 16))) c.from.ensures
    ∙ ap (λ (x : ℕ). zsteps 8 (bit_xor r x)) high
    ∙ sym (feed_octet r o (omega arith))
