-- The heading, and the summary or the lines behind it.
use Rattle.std.proofs.Common.{ap, arith, ◌∙◌, rules}
use Rattle.uslp_text.proofs.Telling.{told_more, told_as}
use Rattle.uslp_listing.specs.Listing.{summary}
use Rattle.uslp_listing.proofs.Lines.{summary_short, listing_long, listing_lines, over_short, over_put}
use Rattle.uslp_listing.proofs.list.Goals as goal

pub returns-then-found-lt-LISTING_ROOM : goal.returns-then-found-lt-LISTING_ROOM
returns-then-found-lt-LISTING_ROOM c = over_short _ _ (omega arith)

pub returns-then-recording-gt-MAX_RECORDING_LEN : goal.returns-then-recording-gt-MAX_RECORDING_LEN
returns-then-recording-gt-MAX_RECORDING_LEN c =
    let same = c.put_summary.ensures.same_out ∙ c.put.ensures.same_out in
    let short = summary_short 0 0 12 (omega arith) (omega arith) (omega arith) in
    over_put _ _ (omega arith) (listing_long _ (omega arith)) (omega (arith, short))
    (told_more c.put.ensures.told (told_as (ap (summary 0 0) c.number.ensures) c.put_summary.ensures.told)) (search rules)

pub returns : goal.returns
returns c =
    let same = c.put_lines.ensures.added.same_out ∙ c.put.ensures.same_out in
    over_put _ _ (omega arith) (listing_lines _ (omega arith)) c.put_lines.ensures.recording_len_bound
    (told_more c.put.ensures.told c.put_lines.ensures.added.told) (search rules)
