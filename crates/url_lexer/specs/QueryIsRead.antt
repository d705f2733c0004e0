-- A text is in the query exactly where one of its bytes is `?` or `#` (RFC 3986, sections 3.4 and 3.5).
use Rattle.std.specs.Prelude.{◌≡◌, ◌≢◌, ◌↔◌, ℕ, ◌==◌, ◌||◌, Bool, true, List}
use Rattle.std.specs.List.{list_any}
use Rattle.url_lexer.specs.Parts.{UrlQuery, UrlBad}
use Rattle.url_lexer.specs.States.{url_start, feed_all}

abbrev pub begins_query : ℕ → Bool
begins_query b = b == 63 || b == 35

-- Behind a scheme that is code the part stays `bad`.
abbrev pub QueryIsRead : Type 0
QueryIsRead = (bytes : List ℕ) → (feed_all url_start bytes).part ≢ UrlBad → ((feed_all url_start bytes).part ≡ UrlQuery) ↔ (list_any begins_query bytes ≡ true)
