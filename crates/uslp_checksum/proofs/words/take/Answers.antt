use Rattle.std.proofs.Common.{arith, ap, ap₂, ◌∙◌, ℕ, ◌*◌, ◌/◌, ◌%◌, ◌^◌}
use Rattle.std.specs.Int.Bits.{bit_xor}
use lib.Pow.{shl_exact}
use Rattle.uslp_checksum.specs.Words.{fed}
use Rattle.uslp_checksum.proofs.Folding.{take_law}
use Rattle.uslp_checksum.proofs.words.take.Goals as goal

pub returns : goal.returns
returns c =
    let a = c.args in
    let e = ap (λ (x : ℕ). x * 2 ^ a.places % 2 ^ 64) c.from.ensures ∙ shl_exact {a = a.register} 16 a.places 64 (omega arith) (omega arith) in
    ap₂ bit_xor (c.narrow.ensures ∙ ap (λ (x : ℕ). fed 0 (bit_xor a.number (x / 2 ^ 16))) e) (ap (λ (x : ℕ). x % 2 ^ 16) e)
    ∙ take_law a.register a.places a.number (omega arith) (omega arith) c.requires.1
