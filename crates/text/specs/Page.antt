-- What is printed into a page.
use Rattle.std.specs.Prelude.{◌≡◌, List, ℕ, ◌≤◌, length}
use Rattle.text.specs.declared.page.Page.{Page}
use Rattle.text.specs.Placed.{Put}

-- what printing bytes, so many at most, makes of a page: the same slice is lent, and the bytes stand behind those before
pub record Prints (p : Page) (bytes : List ℕ) (most : ℕ) (q : Page) : Type 0 where
  pub same : q.out.ghost_name ≡ p.out.ghost_name
  pub put : Put p.out.now p.at bytes q.at q.out.now
  pub few : length bytes ≤ most
