-- What the language of URLs owes, so that a page may be in another state of it than the path, after the bytes of a hole.
use Rattle.std.specs.Prelude.{◌≡◌, ℕ, List, None}
use Rattle.url_lexer.specs.Alike.{UrlsAlike}
use Rattle.url_lexer.specs.Events as events
use Rattle.url_lexer.specs.Events.{UrlEvent}
use Rattle.url_lexer.specs.Holes as holes
use Rattle.url_lexer.specs.Plain.{UrlLeadsPlain}
use Rattle.url_lexer.specs.Refusals.{url_refuses, url_refuses_cut}
use Rattle.url_lexer.specs.States.{Url, url_start, feed_url}

-- `v` is the state of the path, and `w` that of the page.
-- - A URL begins in both in the same state, which is alike to itself.
-- - A byte that is not refused on the path tells in the page what it tells on the path (`emits`), and leads to states that are alike (`feeds`).
-- - The end of the URL tells the same (`ends`).
-- - The end of a node that is not refused leads the path alone to another state, which is still alike to the page's (`after_cut`).
-- - A hole: what is pending before it tells the same (`settles`). Bytes that are plain in the page lead it to a state behind the hole to which the
--   path's state after the hole is alike (`hole`).
pub record UrlLanguageLaws : Type 0 where
  pub begins : UrlsAlike url_start url_start
  pub emits : (v w : Url) (b : ℕ) (t : List UrlEvent) → UrlsAlike v w → url_refuses v b ≡ None → events.url_emits w b t ≡ events.url_emits v b t
  pub feeds : (v w : Url) (b : ℕ) → UrlsAlike v w → url_refuses v b ≡ None → UrlsAlike (feed_url v b) (feed_url w b)
  pub ends : (v w : Url) (t : List UrlEvent) → UrlsAlike v w → events.url_ends w t ≡ events.url_ends v t
  pub after_cut : (v w : Url) → UrlsAlike v w → url_refuses_cut v ≡ None → UrlsAlike (holes.url_after_cut v) w
  pub settles : (v w : Url) (t : List UrlEvent) → UrlsAlike v w → holes.url_emits_settled w t ≡ holes.url_emits_settled v t
  pub hole : (v w after : Url) → UrlsAlike v w → UrlLeadsPlain (holes.url_settled w) after → UrlsAlike (holes.url_after_hole v) (holes.url_behind (holes.url_settled w) after)
