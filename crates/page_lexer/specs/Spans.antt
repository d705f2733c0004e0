-- Where tokens lie in a page.
use Rattle.std.specs.Prelude.{ℕ, ◌≤◌, List, length}
use Rattle.std.specs.List.{All}
use Rattle.page_lexer.specs.declared.token.PageToken.{PageToken}

-- the places of a token are places of the page, in order
pub record IsInPage (page : List ℕ) (t : PageToken) : Type 0 where
  pub order : t.from ≤ t.to
  pub bound : t.to ≤ length page

abbrev pub AreInPage : List ℕ → List PageToken → Type 0
AreInPage page tokens = All (IsInPage page) tokens
