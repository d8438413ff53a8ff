-- A page: a lent buffer with the place behind the text that stands in it.
use Rattle.std.specs.Prelude.{◌≡◌, ℕ, List}
use Rattle.uslp_text.specs.Text.{Told}
use Rattle.uslp_listing.specs.declared.Page.{Page}

-- a text put on a page, behind what stands there: the page keeps its buffer
pub record Added (t : List ℕ) (p q : Page) : Type 0 where
  pub same_out : q.out.ghost_name ≡ p.out.ghost_name
  pub told : Told t p.at p.out.now q.at q.out.now
