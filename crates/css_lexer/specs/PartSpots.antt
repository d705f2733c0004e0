-- The place of a path in a style, with the part of the URL for the URL itself: what is kept of a URL where a node ends. Inside a percent
-- triple there is none. And the states in which a path may stand where a text begins.
use Rattle.std.specs.Prelude.{Bool, true, false, not, ◌&&◌, Option, Some, None, option_map}
use Rattle.css_lexer.specs.Escapes.{StyleEscape, NoEscape}
use Rattle.css_lexer.specs.Spots.{StyleSpot, CodeSpot, StringSpot, FreshSpot, UrlSpot, QuotedUrlSpot, EndedSpot, CommentSpot, style_spot}
use Rattle.css_lexer.specs.States.{Outside, AfterLessThan, Word, AfterSolidus, Comment, InString, SplitWord, UrlForm, Fresh, Quoted, Style, Out, InUrl}
use Rattle.url_lexer.specs.Parts.{UrlPart, UrlStart}
use Rattle.url_lexer.specs.Schemes.{UrlScheme, SchemeAhead}
use Rattle.url_lexer.specs.Spots as url
use Rattle.url_lexer.specs.States.{Url}
use Rattle.url_lexer.specs.Triples.{Triple, NoTriple}

abbrev pub with_part : StyleSpot Url → Option (StyleSpot UrlPart)
with_part (CodeSpot word solidus less) = Some (CodeSpot word solidus less)
with_part (StringSpot q) = Some (StringSpot q)
with_part FreshSpot = Some FreshSpot
with_part (UrlSpot u) = option_map UrlSpot (url.url_spot u)
with_part (QuotedUrlSpot q u) = option_map (QuotedUrlSpot q) (url.url_spot u)
with_part EndedSpot = Some EndedSpot
with_part (CommentSpot star) = Some (CommentSpot star)

abbrev pub where_some : Option (StyleSpot Url) → Option (StyleSpot UrlPart)
where_some None = None
where_some (Some p) = with_part p

abbrev pub part_spot : Style Url → Option (StyleSpot UrlPart)
part_spot s = where_some (style_spot s)

-- Whether a path may stand in this state where a text begins: the end of a node or a hole may have led to it, so that no lexeme is open.
-- A percent triple may be open here: there the path has no place (`part_spot`). Before a URL nothing has been read of it.
abbrev pub is_no_escape : StyleEscape → Bool
is_no_escape NoEscape = true
is_no_escape e = false

abbrev pub may_begin_text_outside : Outside → Bool
may_begin_text_outside AfterLessThan = false
may_begin_text_outside (Word w e) = false
may_begin_text_outside (AfterSolidus k) = false
may_begin_text_outside (Comment star) = not star
may_begin_text_outside (InString q e) = is_no_escape e
may_begin_text_outside (SplitWord e) = is_no_escape e
may_begin_text_outside s = true

abbrev pub is_at_start : UrlPart → Bool
is_at_start UrlStart = true
is_at_start p = false

abbrev pub is_scheme_ahead : UrlScheme → Bool
is_scheme_ahead SchemeAhead = true
is_scheme_ahead s = false

abbrev pub is_no_triple : Triple → Bool
is_no_triple NoTriple = true
is_no_triple t = false

abbrev pub has_read_nothing : Url → Bool
has_read_nothing u = is_at_start u.part && (is_scheme_ahead u.scheme && (not u.free && is_no_triple u.triple))

abbrev pub may_begin_text_in_url : UrlForm → Url → Bool
may_begin_text_in_url Fresh u = has_read_nothing u
may_begin_text_in_url (Quoted q e) u = is_no_escape e
may_begin_text_in_url f u = true

abbrev pub may_begin_text : Style Url → Bool
may_begin_text (Out s) = may_begin_text_outside s
may_begin_text (InUrl f u) = may_begin_text_in_url f u
