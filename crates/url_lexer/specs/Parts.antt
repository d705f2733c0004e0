-- The part of a URL in which the text of a template has come (RFC 3986, section 3): its text moves it, and a hole is one symbol. The bytes of data
-- do not.
use Rattle.std.specs.Prelude.{ℕ, Bool, true, false}
use Rattle.url_lexer.specs.Prefixes.{Prefix, prefix_of_first, next_prefix, is_whole_word}
use Rattle.url_lexer.specs.declared.class.UrlClass.{UrlClass}
use Rattle.url_lexer.specs.declared.class.UrlClass.TheVariants as class

-- before its first character (blanks may stand there); in its beginning, where a scheme may still end, as in `java`; there behind a
-- hole, as in `{{.}}java`; where no scheme can end any more, as in `/list` or `http:`; behind `?` or `#`; behind a scheme that is code, as in
-- `javascript:`
pub data UrlPart : Type 0 where
  UrlStart : UrlPart
  UrlOpen : Prefix → UrlPart
  UrlOpenhole : UrlPart
  UrlPrequery : UrlPart
  UrlQuery : UrlPart
  UrlBad : UrlPart

-- behind the `:` that ends a scheme; the argument says whether the scheme is code
abbrev pub part_behind_scheme : Bool → UrlPart
part_behind_scheme true = UrlBad
part_behind_scheme false = UrlPrequery

abbrev pub next_part : UrlPart → UrlClass → ℕ → UrlPart
next_part UrlStart class.TabOrNewline b = UrlStart
next_part UrlStart class.ControlOrSpace b = UrlStart
next_part UrlStart class.Colon b = UrlPrequery
next_part UrlStart class.Slash b = UrlPrequery
next_part UrlStart class.QueryMark b = UrlQuery
next_part UrlStart c b = UrlOpen (prefix_of_first b)
next_part (UrlOpen p) class.Colon b = part_behind_scheme (is_whole_word p)
next_part (UrlOpen p) class.Slash b = UrlPrequery
next_part (UrlOpen p) class.QueryMark b = UrlQuery
next_part (UrlOpen p) c b = UrlOpen (next_prefix p c b)
next_part UrlOpenhole class.Slash b = UrlPrequery
next_part UrlOpenhole class.QueryMark b = UrlQuery
next_part UrlOpenhole c b = UrlOpenhole
next_part UrlPrequery class.QueryMark b = UrlQuery
next_part UrlPrequery c b = UrlPrequery
next_part UrlQuery c b = UrlQuery
next_part UrlBad c b = UrlBad

-- behind a hole
abbrev pub part_at_hole : UrlPart → UrlPart
part_at_hole UrlStart = UrlOpenhole
part_at_hole (UrlOpen p) = UrlOpenhole
part_at_hole UrlOpenhole = UrlOpenhole
part_at_hole UrlPrequery = UrlPrequery
part_at_hole UrlQuery = UrlQuery
part_at_hole UrlBad = UrlBad
