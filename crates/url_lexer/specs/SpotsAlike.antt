-- The place of a page in a URL is that of a path to which it is alike.
use Rattle.std.specs.Prelude.{◌≡◌}
use Rattle.url_lexer.specs.Alike.{UrlsAlike}
use Rattle.url_lexer.specs.Spots.{url_spot}
use Rattle.url_lexer.specs.States.{Url}

abbrev pub SpotsAlike : Type 0
SpotsAlike = (v w : Url) → UrlsAlike v w → url_spot w ≡ url_spot v
