-- What the end of a node and a hole do to a URL.
use Rattle.std.specs.Prelude.{◌||◌, List}
use Rattle.url_lexer.specs.Events.{UrlEvent}
use Rattle.url_lexer.specs.Parts.{part_at_hole}
use Rattle.url_lexer.specs.Schemes.{is_ahead, scheme_at_hole}
use Rattle.url_lexer.specs.States.{Url, url_at}
use Rattle.url_lexer.specs.Triples.{NoTriple}

-- The end of a node, on a path: a percent triple that has begun does not go on.
abbrev pub url_after_cut : Url → Url
url_after_cut u = url_at u.part u.scheme u.free NoTriple

-- Before a hole nothing is pending that has not been told.
abbrev pub url_settled : Url → Url
url_settled u = u

abbrev pub url_emits_settled : Url → List UrlEvent → List UrlEvent
url_emits_settled u t = t

-- A hole on a path, whose bytes it does not know.
abbrev pub url_after_hole : Url → Url
url_after_hole u = url_at (part_at_hole u.part) (scheme_at_hole u.scheme) (u.free || is_ahead u.scheme) NoTriple

-- A hole on a page, whose bytes led it from the one state to the other. They have moved the scheme, and the part only as any hole does: a `?` of
-- data begins no query of the template's.
abbrev pub url_behind : Url → Url → Url
url_behind before after = url_at (part_at_hole before.part) after.scheme (before.free || is_ahead before.scheme) after.triple
