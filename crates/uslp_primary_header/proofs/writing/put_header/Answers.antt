-- The seven octets of the fixed rows, and then the count's over those that follow.
use Rattle.std.proofs.Common.{arith, sym}
use Rattle.uslp_primary_header.proofs.WritePaths.{writing_short, fixed_put, writing_put}
use Rattle.uslp_primary_header.proofs.writing.put_header.Goals as goal

pub returns-then-found-expected : goal.returns-then-found-expected
returns-then-found-expected c =
    rw c.len_header-expected.ensures
    (sym (writing_short c.args.header c.args.buf.now c.requires (omega (arith, c.if-found-expected.true, c.len_header-expected.ensures))))

pub returns : goal.returns
returns c =
    let h = c.args.header in
    let s = c.args.buf.now in
    writing_put h s c.requires _ _ _ c.len_header-expected.ensures (omega arith)
    (fixed_put h s (omega arith) c.fixed_of.ensures c.put_be_number.ensures) c.put_be_number-2.ensures
