-- The header that was read stands in the octets.
use Rattle.std.proofs.Common.{arith}
use Rattle.uslp_primary_header.proofs.RoundTrip.{read_long}
use Rattle.uslp_reader.proofs.read_whole.Goals as goal

pub slice_bounds-from_bytes-count : goal.slice_bounds-from_bytes-count
slice_bounds-from_bytes-count c = omega (arith, c.len_header-start.ensures, read_long _ _ c.requires)

pub slice_bounds-from_bytes-start : goal.slice_bounds-from_bytes-start
slice_bounds-from_bytes-start c = omega (arith, c.len_header-start.ensures, read_long _ _ c.requires)
