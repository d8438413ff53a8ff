-- Word by word, each behind the one before it.
use Rattle.std.proofs.Common.{ap}
use Rattle.uslp_listing.specs.Listing.{spaced}
use Rattle.uslp_listing.proofs.Adding.{added_as, added_more}
use Rattle.uslp_listing.proofs.Page.put_line.Goals as goal

pub returns : goal.returns
returns c =
    added_more c.put_word.ensures
    (added_more (added_as (ap spaced c.len_frame.ensures) c.put_word-2.ensures)
    (added_more (added_as (ap spaced c.from.ensures) c.put_word-3.ensures)
    (added_more (added_as (ap spaced c.from-2.ensures) c.put_word-4.ensures)
    (added_more (added_as (ap spaced c.from-3.ensures) c.put_word-5.ensures)
    (added_more c.put_word-6.ensures c.put_word-7.ensures)))))
