-- Text and numerals, each behind the one before it.
use Rattle.std.proofs.Common.{ℕ, ◌++◌, append_assoc, ap}
use Rattle.uslp_text.specs.Text.{text, decimal}
use Rattle.uslp_listing.proofs.Adding.{added_as, added_more}
use Rattle.uslp_listing.proofs.Page.put_summary.Goals as goal

pub returns : goal.returns
returns c =
    let last = added_as (ap (λ (n : ℕ). decimal n ++ text "\n") c.from.ensures) c.put_word-3.ensures in
    added_as (simp append_assoc) (added_more c.put.ensures (added_more c.put_word.ensures (added_more c.put_word-2.ensures last)))
