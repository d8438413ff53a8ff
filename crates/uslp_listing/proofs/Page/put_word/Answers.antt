-- The text stands behind the numeral.
use Rattle.uslp_text.proofs.Telling.{told_more}
use Rattle.uslp_listing.proofs.Page.put_word.Goals as goal

pub returns : goal.returns
returns c = record { same_out = c.put.ensures.same_out; told = told_more c.put_decimal-self.ensures c.put.ensures.told }
