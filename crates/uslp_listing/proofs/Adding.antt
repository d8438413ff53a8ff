-- Texts that are put on a page one behind the other are one.
use Rattle.std.proofs.Common.{◌≡◌, List, ℕ, ◌++◌, ◌∙◌}
use Rattle.uslp_text.proofs.Telling.{told_as, told_more}
use Rattle.uslp_listing.specs.Page.{Added}
use Rattle.uslp_listing.specs.declared.Page.{Page}

pub added_as : {t u : List ℕ} {p q : Page} → t ≡ u → Added t p q → Added u p q
added_as e a = record { same_out = a.same_out; told = told_as e a.told }

pub added_more : {t u : List ℕ} {p m q : Page} → Added t p m → Added u m q → Added (t ++ u) p q
added_more a b = record { same_out = b.same_out ∙ a.same_out; told = told_more a.told b.told }
