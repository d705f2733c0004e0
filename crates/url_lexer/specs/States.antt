-- What has been read of a URL, fed byte by byte with references undone: that of an attribute, or what stands in `url(..)` in a style.
use Rattle.std.specs.Prelude.{ℕ, Bool, false, List, [], ◌∷◌}
use Rattle.url_lexer.specs.Classes.{url_class_of}
use Rattle.url_lexer.specs.Parts.{UrlPart, UrlStart, next_part}
use Rattle.url_lexer.specs.Schemes.{UrlScheme, SchemeAhead, next_scheme}
use Rattle.url_lexer.specs.Triples.{Triple, NoTriple, next_triple}

-- `free`: a hole stood where the scheme was still ahead
pub record Url : Type 0 where
  pub part : UrlPart
  pub scheme : UrlScheme
  pub free : Bool
  pub triple : Triple

abbrev pub url_at : UrlPart → UrlScheme → Bool → Triple → Url
url_at p s f t = record { part = p; scheme = s; free = f; triple = t }

abbrev pub url_start : Url
url_start = url_at UrlStart SchemeAhead false NoTriple

abbrev pub feed_url : Url → ℕ → Url
feed_url u b = url_at (next_part u.part (url_class_of b) b) (next_scheme u.scheme (url_class_of b) b) u.free (next_triple u.triple (url_class_of b))

abbrev pub feed_all : Url → List ℕ → Url
feed_all u [] = u
feed_all u (b ∷ bs) = feed_all (feed_url u b) bs
