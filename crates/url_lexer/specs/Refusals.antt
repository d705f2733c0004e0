-- What is refused in the text of a template, on one path.
use Rattle.std.specs.Prelude.{ℕ, Option, Some, None}
use Rattle.url_lexer.specs.Classes.{url_class_of}
use Rattle.url_lexer.specs.Parts.{UrlPart, UrlStart, UrlOpen, UrlOpenhole, UrlPrequery, UrlQuery, UrlBad}
use Rattle.url_lexer.specs.Prefixes.{Differs}
use Rattle.url_lexer.specs.States.{Url}
use Rattle.url_lexer.specs.Triples.{Triple, NoTriple, AfterPercent, AfterDigit, triple_length}
use Rattle.url_lexer.specs.declared.class.UrlClass.{UrlClass}
use Rattle.url_lexer.specs.declared.class.UrlClass.TheVariants as class

-- named as the codes of errors
pub data UrlRefusal : Type 0 where
  AmbigContext : UrlRefusal
  BadHTML : UrlRefusal
  PartialEscape : UrlRefusal

-- A `:` behind a hole in the beginning: whether it ends a scheme, and which, depends on the data. Likewise one in the beginning where two paths
-- have met that spelled different things; no path alone is there.
abbrev pub refuses_colon : UrlPart → Option UrlRefusal
refuses_colon UrlStart = None
refuses_colon (UrlOpen Differs) = Some AmbigContext
refuses_colon (UrlOpen p) = None
refuses_colon UrlOpenhole = Some AmbigContext
refuses_colon UrlPrequery = None
refuses_colon UrlQuery = None
refuses_colon UrlBad = None

abbrev pub url_refuses_class : UrlPart → UrlClass → Option UrlRefusal
url_refuses_class p class.Colon = refuses_colon p
url_refuses_class p c = None

abbrev pub url_refuses : Url → ℕ → Option UrlRefusal
url_refuses u b = url_refuses_class u.part (url_class_of b)

-- A node that ends in a percent triple. The error stands `back` bytes before the node's end. The place that is shown is the one `shown` bytes
-- before it, which is before the `%`. The bytes are those that are fed: of a reference that was undone, the bytes of its character.
pub record UrlCutRefusal : Type 0 where
  pub refusal : UrlRefusal
  pub back : ℕ
  pub shown : ℕ

abbrev pub partial_escape : ℕ → UrlCutRefusal
partial_escape len = record { refusal = PartialEscape; back = 0; shown = len }

abbrev pub refuses_cut_in : Triple → Option UrlCutRefusal
refuses_cut_in NoTriple = None
refuses_cut_in AfterPercent = Some (partial_escape (triple_length AfterPercent))
refuses_cut_in AfterDigit = Some (partial_escape (triple_length AfterDigit))

abbrev pub url_refuses_cut : Url → Option UrlCutRefusal
url_refuses_cut u = refuses_cut_in u.triple

-- A hole behind a scheme that is code.
abbrev pub refuses_hole_in : UrlPart → Option UrlRefusal
refuses_hole_in UrlStart = None
refuses_hole_in (UrlOpen p) = None
refuses_hole_in UrlOpenhole = None
refuses_hole_in UrlPrequery = None
refuses_hole_in UrlQuery = None
refuses_hole_in UrlBad = Some BadHTML

abbrev pub url_refuses_hole : Url → Option UrlRefusal
url_refuses_hole u = refuses_hole_in u.part
