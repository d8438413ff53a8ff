-- By the law of repeats: computing the length would take a gigabyte.
use Rattle.std.proofs.Common.{ℕ, sym}
use lib.ListN.{length-replicate}
use Rattle.uslp_list.proofs.blank.Goals as goal

pub returns : goal.returns
returns c = sym (length-replicate {A = ℕ} 524400 0)
