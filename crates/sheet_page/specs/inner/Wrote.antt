-- What a method of the page does.
use Rattle.std.specs.Prelude.{◌≡◌, List, ℕ}
use Rattle.sheet_page.specs.declared.page.Page.{Page}
use Rattle.sheet_page.specs.Put.{Put}

pub record Wrote (p : Page) (text : List ℕ) (q : Page) : Type 0 where
  pub same : q.out.ghost_name ≡ p.out.ghost_name
  pub put : Put p.out.now p.end text q.end q.out.now
