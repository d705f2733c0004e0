-- Worked examples of styles: how they are read, what a hole and the end of a node do, what is refused, and what is written, by computing.
use Rattle.std.proofs.Common.{◌≡◌, ℕ, true, false, codes, List, [], ◌∷◌, ◌++◌, Option, Some, None, refl, inl, inr}
use Rattle.css_lexer.specs.Classes.{style_class}
use Rattle.css_lexer.specs.Escapes.{NoEscape, HexDigits}
use Rattle.css_lexer.specs.Events.{StyleEvent, RunByte, RunBlank, PunctuationByte, StringBegins, StringByte, StringEnds, StringBroken, UrlBegins, UrlQuoteBegins, InsideUrl, UrlQuoteEnds, UrlEnds, BadUrlBegins, BadUrlByte, BadUrlEnds}
use Rattle.css_lexer.specs.PartSpots.{may_begin_text, part_spot}
use Rattle.css_lexer.specs.Paths.{has_mark, style_after_hole, style_behind}
use Rattle.css_lexer.specs.Plain.{IsPlainInStyle}
use Rattle.css_lexer.specs.Sanitizers.{css_string, css_value, style_failsafe, style_as_text}
use Rattle.css_lexer.specs.Spots.{QuotedUrlSpot, CodeSpot, FreshSpot, UrlSpot, CommentSpot, style_spot}
use Rattle.css_lexer.specs.States.{DoubleQuote, SingleQuote, SpellsU, SpellsUr, SpellsUrl, SpellsOther, Between, AfterLessThan, Word, AfterSolidus, Comment, InString, BadUrl, BehindHole, SplitWord, SolidusAtCut, LessThanAtCut, StarAtCut, Fresh, Bare, Quoted, Ended, Style, Out, InUrl}
use Rattle.css_lexer.specs.States as style
use Rattle.css_lexer.specs.Steps.{style_reading, read_style, style_ends}
use Rattle.css_lexer.specs.Texts.{TextRefusal, refusal, style_node}
use Rattle.css_lexer.specs.Unescaping.{style_escapes_undone}
use Rattle.css_lexer.specs.Urls.{urls}
use Rattle.css_lexer.specs.Written.{style_written_text}
use Rattle.url_lexer.specs.Classes.{url_class_of}
use Rattle.url_lexer.specs.Events.{UrlEvent, UrlByte, Named, NoScheme, Free}
use Rattle.url_lexer.specs.Events as url
use Rattle.url_lexer.specs.Parts.{UrlOpenhole, UrlQuery}
use Rattle.url_lexer.specs.Schemes.{SchemeUnknown}
use Rattle.url_lexer.specs.States.{Url, url_at}
use Rattle.url_lexer.specs.States as url_states
use Rattle.url_lexer.specs.Triples.{NoTriple}

-- a page, from its beginning: where bytes lead it, and what they tell; behind a value, from the state before it
abbrev page : List ℕ → Style Url
page bytes = (read_style urls bytes (style_reading style.style_start [])).at

abbrev told : List ℕ → List (StyleEvent UrlEvent)
told bytes = (read_style urls bytes (style_reading style.style_start [])).told

abbrev from : Style Url → List ℕ → List (StyleEvent UrlEvent)
from s bytes = (read_style urls bytes (style_reading s [])).told

abbrev filled : Style Url → List ℕ → Style Url
filled s bytes = style_behind urls s (read_style urls bytes (style_reading s [])).at

-- a path, from its beginning: behind the text of its first node, and behind a hole there
abbrev cut : List ℕ → Style Url
cut text = style_node urls text style.style_start

abbrev hole : List ℕ → Style Url
hole text = style_after_hole urls (cut text)

-- of a text that is the first of its path, and of one behind a state
abbrev refused : List ℕ → Option TextRefusal
refused text = refusal urls style.style_start text

abbrev refused_behind : Style Url → List ℕ → Option TextRefusal
refused_behind s text = refusal urls s text

abbrev page_url : List ℕ → List (StyleEvent UrlEvent) → List (StyleEvent UrlEvent)
page_url [] t = t
page_url (b ∷ bs) t = page_url bs (InsideUrl (UrlByte b) ∷ t)

abbrev run : List ℕ → List (StyleEvent UrlEvent) → List (StyleEvent UrlEvent)
run [] t = t
run (b ∷ bs) t = run bs (RunByte b ∷ t)

abbrev in_string : List ℕ → List (StyleEvent UrlEvent) → List (StyleEvent UrlEvent)
in_string [] t = t
in_string (b ∷ bs) t = in_string bs (StringByte b ∷ t)

-- reading: words, plain text and punctuation
declaration : told (codes "p{a:b}") ≡ PunctuationByte 125 ∷ run (codes "a:b") (PunctuationByte 123 ∷ run (codes "p") [])
unfolding style_class url_class_of
declaration = refl

-- `-->` is plain
plain_dashes : told (codes "-->") ≡ run (codes "-->") []
unfolding style_class url_class_of
plain_dashes = refl

-- comments and blanks side by side are one blank
comment_is_blank : told (codes "a/* b */ c") ≡ told (codes "a c")
unfolding style_class url_class_of
comment_is_blank = refl

comment_without_blanks : told (codes "a/**/c") ≡ told (codes "a c")
unfolding style_class url_class_of
comment_without_blanks = refl

two_comments : told (codes "a /* b */ /* c */ d") ≡ told (codes "a d")
unfolding style_class url_class_of
two_comments = refl

-- `/*/` closes nothing
no_star_of_the_opening : page (codes "/*/") ≡ Out (Comment false)
unfolding style_class url_class_of
no_star_of_the_opening = refl

stars_end_a_comment : page (codes "/* a ***/") ≡ Out (Between true)
unfolding style_class url_class_of
stars_end_a_comment = refl

solidus_alone : told (codes "a/b") ≡ run (codes "a/b") []
unfolding style_class url_class_of
solidus_alone = refl

-- a `/` is told when it is known to begin no comment, or at the end
solidus_waits : style_ends urls (page (codes "a/")) (told (codes "a/")) ≡ run (codes "a/") []
unfolding style_class url_class_of
solidus_waits = refl

two_solidi : page (codes "a//") ≡ Out (AfterSolidus false)
unfolding style_class url_class_of
two_solidi = refl

-- a string with its own quote behind a backslash
string : told (codes "'a\\'b'") ≡ StringEnds ∷ in_string (codes "a\\'b") (StringBegins SingleQuote ∷ [])
unfolding style_class url_class_of
string = refl

-- the end of the line breaks a string; so does a form feed
broken_string : told (codes "'a\nb") ≡ RunByte 98 ∷ RunBlank ∷ StringBroken ∷ in_string (codes "a") (StringBegins SingleQuote ∷ [])
unfolding style_class url_class_of
broken_string = refl

form_feed_is_a_line_end : page (codes "\"a" ++ 12 ∷ []) ≡ Out (Between true)
unfolding style_class url_class_of
form_feed_is_a_line_end = refl

-- in a string a backslash takes a carriage return and a line feed as one; two line feeds it does not
two_bytes_as_one : page (codes "\"a\\" ++ 13 ∷ 10 ∷ codes "b") ≡ Out (InString DoubleQuote NoEscape)
unfolding style_class url_class_of
two_bytes_as_one = refl

not_two_line_feeds : page (codes "\"a\\" ++ 10 ∷ 10 ∷ []) ≡ Out (Between true)
unfolding style_class url_class_of
not_two_line_feeds = refl

-- in a word it takes one byte
one_in_a_word : told (codes "\\" ++ 13 ∷ 10 ∷ []) ≡ RunBlank ∷ RunByte 13 ∷ RunByte 92 ∷ []
unfolding style_class url_class_of
one_in_a_word = refl

-- an escape has up to six digits
escape : page (codes "\\41") ≡ Out (Word SpellsOther (HexDigits 2))
unfolding style_class url_class_of
escape = refl

whole_escape : page (codes "\\1234567") ≡ Out (Word SpellsOther NoEscape)
unfolding style_class url_class_of
whole_escape = refl

escape_and_blank : told (codes "\\26 b") ≡ RunByte 98 ∷ RunBlank ∷ run (codes "\\26") []
unfolding style_class url_class_of
escape_and_blank = refl

-- urls: before the URL, in it, in its quotes, behind it
fresh : page (codes "a:url( ") ≡ InUrl Fresh url_states.url_start
unfolding style_class url_class_of
fresh = refl

bare : page (codes "a:uRL(:") ≡ InUrl Bare (url_states.feed_url url_states.url_start 58)
unfolding style_class url_class_of
bare = refl

quoted : page (codes "a:url( \":") ≡ InUrl (Quoted DoubleQuote NoEscape) (url_states.feed_url url_states.url_start 58)
unfolding style_class url_class_of
quoted = refl

ended : page (codes "url(':' ") ≡ InUrl Ended (url_states.feed_url url_states.url_start 58)
unfolding style_class url_class_of
ended = refl

url_is_told : told (codes "url( 'a:b' )") ≡ UrlEnds ∷ InsideUrl (url.UrlEnds (Named (codes "a"))) ∷ UrlQuoteEnds ∷ page_url (codes "a:b") (UrlQuoteBegins SingleQuote ∷ UrlBegins ∷ run (codes "url") [])
unfolding style_class url_class_of
url_is_told = refl

-- what is no url goes up to its `)`
bad_url : told (codes "url(a b)c") ≡ RunByte 99 ∷ BadUrlEnds ∷ BadUrlByte 98 ∷ BadUrlBegins ∷ page_url (codes "a") (UrlBegins ∷ run (codes "url") [])
unfolding style_class url_class_of
bad_url = refl

broken_in_url : page (codes "url('a\n'b") ≡ Out BadUrl
unfolding style_class url_class_of
broken_in_url = refl

-- other words with a `(`, and `url` with an escape, begin no url
no_url_word : page (codes "curl(x") ≡ Out (Word SpellsOther NoEscape)
unfolding style_class url_class_of
no_url_word = refl

escaped_url_word : page (codes "\\75rl(x") ≡ Out (Word SpellsOther NoEscape)
unfolding style_class url_class_of
escaped_url_word = refl

-- limits: url tokens here, where CSS reads a function or parentheses
hash_before_url : page (codes "#url(") ≡ InUrl Fresh url_states.url_start
unfolding style_class url_class_of
hash_before_url = refl

at_before_url : page (codes "@url(") ≡ InUrl Fresh url_states.url_start
unfolding style_class url_class_of
at_before_url = refl

null_before_url : page (0 ∷ codes "url(") ≡ InUrl Fresh url_states.url_start
unfolding style_class url_class_of
null_before_url = refl

escape_before_url : page (codes "\\61 url(") ≡ InUrl Fresh url_states.url_start
unfolding style_class url_class_of
escape_before_url = refl

-- which the element makes of a url token
escape_before_comment : style_written_text urls style.style_start (codes "\\61/**/url(") ≡ codes "\\61 url("
unfolding style_class url_class_of
escape_before_comment = refl

-- words and a `(` here, where CSS reads a url token
escape_of_a_letter : page (codes "\\url(") ≡ Out (Between false)
unfolding style_class url_class_of
escape_of_a_letter = refl

escape_in_url_word : page (codes "u\\rl(") ≡ Out (Between false)
unfolding style_class url_class_of
escape_in_url_word = refl

escape_of_a_line : page (codes "\\\nurl(") ≡ Out (Between false)
unfolding style_class url_class_of
escape_of_a_line = refl

comment_of_html : page (codes "<!--url(") ≡ Out (Between false)
unfolding style_class url_class_of
comment_of_html = refl

-- a URL here, and a bad url to CSS
control_in_url : refused (codes "url(a" ++ 1 ∷ []) ≡ None
unfolding style_class url_class_of
control_in_url = refl

-- `url("{{.u}}\3a x")`: accepted, though a `:` would not be
colon_behind_escape : refused_behind (hole (codes "url(\"")) (codes "\\3a x") ≡ None
unfolding style_class url_class_of
colon_behind_escape = refl

-- in a page a backslash is an ordinary byte of a URL without quotes
backslash_in_bare_url : page (codes "url(a\\)x") ≡ Out (Word SpellsOther NoEscape)
unfolding style_class url_class_of
backslash_in_bare_url = refl

-- `p{width:{{.w}}px}`: the hole is a part of the run, the text behind it is accepted, and tells the same behind `1.5` and behind no value
width_before : hole (codes "p{width:") ≡ Out (BehindHole false false)
unfolding style_class url_class_of
width_before = refl

width_accepted : refused_behind (hole (codes "p{width:")) (codes "px}") ≡ None
unfolding style_class url_class_of
width_accepted = refl

width_of_number : from (filled (page (codes "p{width:")) (codes "1.5")) (codes "px}") ≡ from (hole (codes "p{width:")) (codes "px}")
unfolding style_class url_class_of
width_of_number = refl

-- also behind a value that ends in a blank
width_of_blanks : from (filled (page (codes "p{width:")) (codes "1 ")) (codes " px}") ≡ from (hole (codes "p{width:")) (codes " px}")
unfolding style_class url_class_of
width_of_blanks = refl

number_is_plain : IsPlainInStyle urls (codes "1.5") (page (codes "p{width:"))
unfolding style_class url_class_of
number_is_plain = record { apart = refl; leads = (tt, tt); allowed = refl; tells = refl }

-- a `/` that a byte of the value follows
solidus_in_value_is_plain : IsPlainInStyle urls (codes "a/b") (page (codes "p{width:"))
unfolding style_class url_class_of
solidus_in_value_is_plain = record { apart = refl; leads = (tt, tt); allowed = refl; tells = refl }

-- what is written in a string stays in it
string_is_plain : IsPlainInStyle urls (codes "a\\22 b") (page (codes "a:\""))
unfolding style_class url_class_of
string_is_plain = record { apart = refl; leads = refl; allowed = refl; tells = refl }

-- an empty value behind a `/`
empty_behind_solidus : IsPlainInStyle urls [] (page (codes "a/"))
unfolding style_class url_class_of
empty_behind_solidus = record { apart = tt; leads = (tt, tt); allowed = refl; tells = refl }

-- `url({{.u}}`: with a value, and with none, which leaves the page before the URL
fresh_is_plain : IsPlainInStyle urls (codes "/a") (page (codes "url("))
unfolding style_class url_class_of
fresh_is_plain = record { apart = refl; leads = (inr refl, record { scheme = tt; whole_before = refl; whole_after = refl }); allowed = (refl, tt); tells = refl }

empty_in_url : IsPlainInStyle urls [] (page (codes "url("))
unfolding style_class url_class_of
empty_in_url = record { apart = tt; leads = (inl refl, record { scheme = tt; whole_before = refl; whole_after = refl }); allowed = (refl, tt); tells = refl }

-- `url( {{.u}}`: the URL begins with the value
fresh_hole : hole (codes "a:url( ") ≡ InUrl Bare (url_at UrlOpenhole SchemeUnknown true NoTriple)
unfolding style_class url_class_of
fresh_hole = refl

fresh_spot : style_spot (cut (codes "a:url( ")) ≡ Some FreshSpot
unfolding style_class url_class_of
fresh_spot = refl

hole_in_url_spot : style_spot (hole (codes "a:url( ")) ≡ Some (UrlSpot (url_at UrlOpenhole SchemeUnknown true NoTriple))
unfolding style_class url_class_of
hole_in_url_spot = refl

-- `url({{.u}} )` with no value: the page stands before the URL still, and tells the same at the `)`
empty_url : from (filled (page (codes "url(")) []) (codes " )") ≡ from (hole (codes "url(")) (codes " )")
unfolding style_class url_class_of
empty_url = refl

-- places
word_spot : style_spot (cut (codes "color")) ≡ Some (CodeSpot true false false)
unfolding style_class url_class_of
word_spot = refl

solidus_hole_spot : style_spot (hole (codes "a/")) ≡ Some (CodeSpot true true false)
unfolding style_class url_class_of
solidus_hole_spot = refl

less_than_spot : style_spot (cut (codes "a<")) ≡ Some (CodeSpot false false true)
unfolding style_class url_class_of
less_than_spot = refl

star_spot : style_spot (cut (codes "/* a *")) ≡ Some (CommentSpot true)
unfolding style_class url_class_of
star_spot = refl

url_part_spot : part_spot (hole (codes "a:url( ")) ≡ Some (UrlSpot UrlOpenhole)
unfolding style_class url_class_of
url_part_spot = refl

quoted_part_spot : part_spot (cut (codes "a:url('/?")) ≡ Some (QuotedUrlSpot SingleQuote UrlQuery)
unfolding style_class url_class_of
quoted_part_spot = refl

no_spot_in_a_triple : part_spot (page (codes "a:url(%")) ≡ None
unfolding style_class url_class_of
no_spot_in_a_triple = refl

-- where a text may begin
text_behind_a_word : may_begin_text (cut (codes "color")) ≡ true
unfolding style_class url_class_of
text_behind_a_word = refl

text_behind_a_hole : may_begin_text (hole (codes "a:url( 'b")) ≡ true
unfolding style_class url_class_of
text_behind_a_hole = refl

no_text_in_a_word : may_begin_text (page (codes "color")) ≡ false
unfolding style_class url_class_of
no_text_in_a_word = refl

no_text_in_an_escape : may_begin_text (page (codes "a:url('\\4")) ≡ false
unfolding style_class url_class_of
no_text_in_an_escape = refl

no_mark_in_a_comment : has_mark (cut (codes "a /* b")) ≡ false
unfolding style_class url_class_of
no_mark_in_a_comment = refl

-- in the element a comment is written as a space, and tells the same
written_comment : style_written_text urls style.style_start (codes "a/* b */c/d/* e") ≡ codes "a c/d "
unfolding style_class url_class_of
written_comment = refl

written_alike : told (style_written_text urls style.style_start (codes "a /* b */c")) ≡ told (codes "a /* b */c")
unfolding style_class url_class_of
written_alike = refl

written_over_nodes : style_written_text urls (cut (codes "a/* b")) (codes "c */d") ≡ codes " d"
unfolding style_class url_class_of
written_over_nodes = refl

-- what is written: in strings
quote_in_string : css_string (codes "a\"b") ≡ codes "a\\22 b"
unfolding style_class url_class_of
quote_in_string = refl

quote_before_other : css_string (codes "\"x") ≡ codes "\\22x"
unfolding style_class url_class_of
quote_before_other = refl

quote_at_the_end : css_string (codes "\"") ≡ codes "\\22 "
unfolding style_class url_class_of
quote_at_the_end = refl

backslash_in_string : css_string (codes "\\41") ≡ codes "\\\\41"
unfolding style_class url_class_of
backslash_in_string = refl

data_ends_no_string : read_style urls (css_string (codes "\"}")) (style_reading (page (codes "\"")) []) ≡ style_reading (page (codes "\"")) (in_string (codes "\\22\\7d ") [])
unfolding style_class url_class_of
data_ends_no_string = refl

string_is_back : style_escapes_undone (css_string (codes "a\"b\\41;")) ≡ style_as_text (codes "a\"b\\41;")
unfolding lib.Utf8.encode
string_is_back = refl

-- and elsewhere
value_number : css_value (codes "1.5") ≡ codes "1.5"
unfolding lib.Utf8.encode
value_number = refl

value_escape : css_value (codes "\\41 b") ≡ codes "Ab"
unfolding lib.Utf8.encode
value_escape = refl

value_null : style_escapes_undone (codes "\\0") ≡ 239 ∷ 191 ∷ 189 ∷ []
unfolding lib.Utf8.encode
value_null = refl

value_asterisk : css_value (codes "*") ≡ style_failsafe
unfolding lib.Utf8.encode
value_asterisk = refl

value_escaped_asterisk : css_value (codes "\\2a") ≡ style_failsafe
unfolding lib.Utf8.encode
value_escaped_asterisk = refl

value_declarations : css_value (codes "red;}") ≡ style_failsafe
unfolding lib.Utf8.encode
value_declarations = refl

-- code is found behind escapes, in any case, and by letters alone
value_expression : css_value (codes "\\65 xpression") ≡ style_failsafe
unfolding lib.Utf8.encode
value_expression = refl

value_parted_expression : css_value (codes "eX-pres.sion") ≡ style_failsafe
unfolding lib.Utf8.encode
value_parted_expression = refl

value_binding : css_value (codes "-moz-Binding") ≡ style_failsafe
unfolding lib.Utf8.encode
value_binding = refl

value_last_backslash : css_value (codes "a\\") ≡ style_failsafe
unfolding lib.Utf8.encode
value_last_backslash = refl

value_dashes : css_value (codes "a--b") ≡ style_failsafe
unfolding lib.Utf8.encode
value_dashes = refl
