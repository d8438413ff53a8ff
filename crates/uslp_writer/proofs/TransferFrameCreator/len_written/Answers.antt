-- Headers that passed are those of the frame.
use Rattle.std.proofs.Common.{sym}
use Rattle.uslp_writer.proofs.Lengths.{header_self, field_self}
use Rattle.uslp_writer.proofs.TransferFrameCreator.len_written.Goals as goal

pub total_of-requires : goal.total_of-requires
total_of-requires c = (header_self _ _ (sym c.in_ok-checked.ensures), field_self _ _ (sym c.in_ok-checked-2.ensures))
