-- Worked examples of what is not so: what is refused, bytes that are not plain, states that are not alike, and what is told otherwise.
use Rattle.std.proofs.Common.{◌≡◌, ℕ, true, false, codes, List, [], ◌∷◌, ◌++◌, Option, Some, None, refl, ap, inl, inr}
use Rattle.std.specs.Prelude.{IsTrue}
use Rattle.css_lexer.specs.Alike.{AreAlikeOutside, the_same, hole_between, hole_less_than, hole_word, split_word, cut_solidus, cut_less_than, cut_star}
use Rattle.css_lexer.specs.Classes.{style_class}
use Rattle.css_lexer.specs.Elements.{refuses_less_than_cut}
use Rattle.css_lexer.specs.Events.{StyleEvent, RunByte, StringByte, InsideUrl}
use Rattle.css_lexer.specs.Paths.{style_settled, style_after_hole, style_behind}
use Rattle.css_lexer.specs.Plain.{IsPlainInStyle}
use Rattle.css_lexer.specs.RefusalCodes.{AmbigContext, BadHTML, PartialEscape, SplitToken, BadString}
use Rattle.css_lexer.specs.Refusals.{style_refuses_hole}
use Rattle.css_lexer.specs.States.{DoubleQuote, SingleQuote, SpellsU, SpellsUr, SpellsUrl, SpellsOther, Between, AfterLessThan, Word, AfterSolidus, Comment, InString, BadUrl, BehindHole, SplitWord, SolidusAtCut, LessThanAtCut, StarAtCut, Fresh, Bare, Quoted, Ended, Style, Out, InUrl}
use Rattle.css_lexer.specs.States as style
use Rattle.css_lexer.specs.Steps.{style_reading, read_style}
use Rattle.css_lexer.specs.Texts.{TextRefusal, text_refusal, refusal, style_node}
use Rattle.css_lexer.specs.Urls.{urls}
use Rattle.url_lexer.specs.Classes.{url_class_of}
use Rattle.url_lexer.specs.Events.{UrlEvent, UrlByte}
use Rattle.url_lexer.specs.States.{Url, url_at}
use Rattle.url_lexer.specs.States as url_states

-- a page, from its beginning: where bytes lead it, and what they tell; behind a value, from the state before it
abbrev page : List ℕ → Style Url
page bytes = (read_style urls bytes (style_reading style.style_start [])).at

abbrev told : List ℕ → List (StyleEvent UrlEvent)
told bytes = (read_style urls bytes (style_reading style.style_start [])).told

abbrev from : Style Url → List ℕ → List (StyleEvent UrlEvent)
from s bytes = (read_style urls bytes (style_reading s [])).told

abbrev filled : Style Url → List ℕ → Style Url
filled s bytes = style_behind urls s (read_style urls bytes (style_reading s [])).at

-- the same, where a `/` before the value is told first
abbrev settled_filled : Style Url → List ℕ → Style Url
settled_filled s bytes = filled (style_settled s) bytes

-- a path, from its beginning: behind the text of its first node, and behind a hole there
abbrev cut : List ℕ → Style Url
cut text = style_node urls text style.style_start

abbrev hole : List ℕ → Style Url
hole text = style_after_hole urls (cut text)

-- of a text that is the first of its path, and of one behind a state
abbrev refused : List ℕ → Option TextRefusal
refused text = refusal urls style.style_start text

abbrev refused_behind : Style Url → List ℕ → Option TextRefusal
refused_behind s text = refusal urls s text

abbrev page_url : List ℕ → List (StyleEvent UrlEvent) → List (StyleEvent UrlEvent)
page_url [] t = t
page_url (b ∷ bs) t = page_url bs (InsideUrl (UrlByte b) ∷ t)

abbrev run : List ℕ → List (StyleEvent UrlEvent) → List (StyleEvent UrlEvent)
run [] t = t
run (b ∷ bs) t = run bs (RunByte b ∷ t)

abbrev in_string : List ℕ → List (StyleEvent UrlEvent) → List (StyleEvent UrlEvent)
in_string [] t = t
in_string (b ∷ bs) t = in_string bs (StringByte b ∷ t)

-- `{{.a}}(`: the value would be the name of a function, or `url`
function_behind_hole : refused_behind (hole (codes "a:")) (codes "(") ≡ text_refusal SplitToken 0 0
unfolding style_class url_class_of
function_behind_hole = refl

-- `u{{.x}}rl(`
word_behind_hole : refused_behind (hole (codes "u")) (codes "rl(") ≡ text_refusal SplitToken 2 2
unfolding style_class url_class_of
word_behind_hole = refl

escape_behind_hole : refused_behind (hole (codes "a:")) (codes "\\x(") ≡ text_refusal SplitToken 2 2
unfolding style_class url_class_of
escape_behind_hole = refl

-- a word over the end of a node
word_over_nodes : refused_behind (cut (codes "a:u")) (codes "rl(") ≡ text_refusal SplitToken 2 2
unfolding style_class url_class_of
word_over_nodes = refl

-- `a/{{.x}}*`: with no value a comment would begin
comment_over_hole : refused_behind (hole (codes "a/")) (codes "*") ≡ text_refusal SplitToken 0 0
unfolding style_class url_class_of
comment_over_hole = refl

comment_over_two_holes : refused_behind (style_after_hole urls (hole (codes "a/"))) (codes "*") ≡ text_refusal SplitToken 0 0
unfolding style_class url_class_of
comment_over_two_holes = refl

comment_over_nodes : refused_behind (cut (codes "a/")) (codes "*") ≡ text_refusal SplitToken 0 0
unfolding style_class url_class_of
comment_over_nodes = refl

-- `<` and what may be the end of the element
end_tag_over_nodes : refused_behind (cut (codes "a<")) (codes "/") ≡ text_refusal SplitToken 0 0
unfolding style_class url_class_of
end_tag_over_nodes = refl

end_tag_over_hole : refused_behind (hole (codes "a<")) (codes "/") ≡ text_refusal SplitToken 0 0
unfolding style_class url_class_of
end_tag_over_hole = refl

-- the end of a comment over the end of a node, and over a hole in it
star_over_nodes : refused_behind (cut (codes "/* a *")) (codes "/") ≡ text_refusal SplitToken 0 0
unfolding style_class url_class_of
star_over_nodes = refl

star_over_hole : refused_behind (hole (codes "/* a *")) (codes "/") ≡ text_refusal SplitToken 0 0
unfolding style_class url_class_of
star_over_hole = refl

-- `\\{{.x}}`: a node that ends in an escape stands at its length, and is shown before the backslash
escape_at_the_end : refused (codes "\\") ≡ text_refusal PartialEscape 1 0
unfolding style_class url_class_of
escape_at_the_end = refl

digits_at_the_end : refused (codes "a\\41") ≡ text_refusal PartialEscape 4 1
unfolding style_class url_class_of
digits_at_the_end = refl

six_digits_at_the_end : refused (codes "\\123456") ≡ text_refusal PartialEscape 7 0
unfolding style_class url_class_of
six_digits_at_the_end = refl

escape_in_string : refused (codes "'a\\4") ≡ text_refusal PartialEscape 4 2
unfolding style_class url_class_of
escape_in_string = refl

return_in_string : refused (codes "\"\\" ++ 13 ∷ []) ≡ text_refusal PartialEscape 3 1
unfolding style_class url_class_of
return_in_string = refl

triple_in_url : refused (codes "url(%4") ≡ text_refusal PartialEscape 6 4
unfolding style_class url_class_of
triple_in_url = refl

-- strings and urls that are none
line_in_string : refused (codes "'a\nb") ≡ text_refusal BadString 2 2
unfolding style_class url_class_of
line_in_string = refl

backslash_in_url : refused (codes "url(a\\b") ≡ text_refusal BadString 5 5
unfolding style_class url_class_of
backslash_in_url = refl

quote_in_url : refused (codes "url(a'") ≡ text_refusal BadString 5 5
unfolding style_class url_class_of
quote_in_url = refl

behind_url : refused (codes "url(a b") ≡ text_refusal BadString 6 6
unfolding style_class url_class_of
behind_url = refl

line_in_url : refused (codes "url('a\n") ≡ text_refusal BadString 6 6
unfolding style_class url_class_of
line_in_url = refl

-- `url({{.u}}:`: the value would be a scheme
colon_behind_hole : refused_behind (hole (codes "url(")) (codes ":") ≡ text_refusal AmbigContext 0 0
unfolding style_class url_class_of
colon_behind_hole = refl

-- holes
hole_behind_url : style_refuses_hole urls (cut (codes "url(a ")) ≡ Some BadString
unfolding style_class url_class_of
hole_behind_url = refl

hole_in_script_url : style_refuses_hole urls (cut (codes "url('javascript:")) ≡ Some BadHTML
unfolding style_class url_class_of
hole_in_script_url = refl

-- in the element, a node that ends in `<`
less_than_in_string : refuses_less_than_cut urls (page (codes "'a")) ≡ Some (record { code = SplitToken; back = 0; shown = 1 })
unfolding style_class url_class_of
less_than_in_string = refl

less_than_in_escape : refuses_less_than_cut urls (page (codes "a\\")) ≡ Some (record { code = SplitToken; back = 0; shown = 2 })
unfolding style_class url_class_of
less_than_in_escape = refl

less_than_behind_url : refuses_less_than_cut urls (page (codes "url(a ")) ≡ Some (record { code = BadString; back = 1; shown = 1 })
unfolding style_class url_class_of
less_than_behind_url = refl

-- but not these
accepted_less_than : refuses_less_than_cut urls (page (codes "a ")) ≡ None
unfolding style_class url_class_of
accepted_less_than = refl

accepted_seven_digits : refused (codes "\\1234567") ≡ None
unfolding style_class url_class_of
accepted_seven_digits = refl

accepted_escape_behind_hole : refused_behind (hole (codes "a:")) (codes "\\(") ≡ None
unfolding style_class url_class_of
accepted_escape_behind_hole = refl

accepted_function : refused_behind (hole (codes "a:")) (codes " b(") ≡ None
unfolding style_class url_class_of
accepted_function = refl

-- not plain: what ends a declaration, begins a url, a string, a comment
declarations_in_code : IsPlainInStyle urls (codes ";}") (page (codes "a:")) → ⊥
unfolding style_class url_class_of
declarations_in_code p = let h : IsTrue false = p.tells in cc

url_in_code : IsPlainInStyle urls (codes "url(") (page (codes "a:")) → ⊥
unfolding style_class url_class_of
url_in_code p = let h : IsTrue false = p.tells in cc

string_in_code : IsPlainInStyle urls (codes "'b'") (page (codes "a:")) → ⊥
unfolding style_class url_class_of
string_in_code p = let h : IsTrue false = p.tells in cc

-- an escape that the text behind it may go on with
open_escape_in_code : IsPlainInStyle urls (codes "\\41") (page (codes "a:")) → ⊥
unfolding style_class url_class_of
open_escape_in_code p = p.leads.1

comment_in_code : IsPlainInStyle urls (codes "/*") (page (codes "a:")) → ⊥
unfolding style_class url_class_of
comment_in_code p = p.leads.1

-- a comment that begins before the value
comment_with_solidus : IsPlainInStyle urls (codes "*") (page (codes "a:/")) → ⊥
unfolding style_class url_class_of
comment_with_solidus p = let h : Out (Comment false) ≡ Out (Between false) = ap (λ r. r.at) p.apart in cc

-- `a/{{.x}}{{.y}};b`, the first with no bytes, which are plain: with `*x` behind it a comment would begin
comment_over_empty_hole : IsPlainInStyle urls (codes "*x") (settled_filled (page (codes "a/")) []) → ⊥
unfolding style_class url_class_of
comment_over_empty_hole p = let h : true ≡ false = p.allowed in cc

asterisk_in_code : IsPlainInStyle urls (codes "*") (page (codes "a:")) → ⊥
unfolding style_class url_class_of
asterisk_in_code p = let h : true ≡ false = p.allowed in cc

-- a comment that is whole, and alone
whole_comment : IsPlainInStyle urls (codes "/**/") (page (codes "a:")) → ⊥
unfolding style_class url_class_of
whole_comment p = let h : true ≡ false = p.allowed in cc

comment_between : IsPlainInStyle urls (codes "1/* b */2") (page (codes "a:")) → ⊥
unfolding style_class url_class_of
comment_between p = let h : true ≡ false = p.allowed in cc

-- a `/` at the end, which the text may go on with
solidus_at_the_end : IsPlainInStyle urls (codes "a/") (page (codes "a:")) → ⊥
unfolding style_class url_class_of
solidus_at_the_end p = p.leads.1

-- the end of the string, and an escape in it that is open
end_of_string : IsPlainInStyle urls (codes "\"") (page (codes "\"a")) → ⊥
unfolding style_class url_class_of
end_of_string p = let h = p.leads in cc

open_escape_in_string : IsPlainInStyle urls (codes "\\") (page (codes "\"a")) → ⊥
unfolding style_class url_class_of
open_escape_in_string p = let h = p.leads in cc

-- a backslash and a line end, for which CSS reads nothing
line_end_in_string : IsPlainInStyle urls (codes "a\\\nb") (page (codes "\"a")) → ⊥
unfolding style_class url_class_of
line_end_in_string p = let h : true ≡ false = p.allowed in cc

-- the end of a comment; and any text in one
end_of_comment : IsPlainInStyle urls (codes "*/") (page (codes "/* ")) → ⊥
unfolding style_class url_class_of
end_of_comment p = elim p.leads [ inl e ↦ cc | inr e ↦ cc ]

text_in_comment : IsPlainInStyle urls (codes "a") (page (codes "/* ")) → ⊥
unfolding style_class url_class_of
text_in_comment p = elim p.allowed [ inl e ↦ cc | inr e ↦ cc ]

-- the end of a url; a scheme that is code
end_of_url : IsPlainInStyle urls (codes ")") (page (codes "url(a")) → ⊥
unfolding style_class url_class_of
end_of_url p = p.leads

blank_in_url : IsPlainInStyle urls (codes "a b") (page (codes "url(")) → ⊥
unfolding style_class url_class_of
blank_in_url p = p.leads

behind_the_url : IsPlainInStyle urls (codes "a") (page (codes "url(a ")) → ⊥
unfolding style_class url_class_of
behind_the_url p = p.leads

-- what may not stand in a URL: in quotes an escape, as of a scheme that is code,
escape_in_quoted_url : IsPlainInStyle urls (codes "\\6a avascript\\3a a") (page (codes "url('")) → ⊥
unfolding style_class url_class_of
escape_in_quoted_url p = let h : true ≡ false = p.allowed.0 in cc

-- and without quotes an escape, a control byte; and white space before it
backslash_in_url_bytes : IsPlainInStyle urls (codes "\\") (page (codes "url(a")) → ⊥
unfolding style_class url_class_of
backslash_in_url_bytes p = let h : true ≡ false = p.allowed.0 in cc

backslash_begins_url : IsPlainInStyle urls (codes "\\") (page (codes "url(")) → ⊥
unfolding style_class url_class_of
backslash_begins_url p = let h : true ≡ false = p.allowed.0 in cc

control_in_url : IsPlainInStyle urls (1 ∷ []) (page (codes "url(a")) → ⊥
unfolding style_class url_class_of
control_in_url p = let h : true ≡ false = p.allowed.0 in cc

control_begins_url : IsPlainInStyle urls (codes "a" ++ 127 ∷ []) (page (codes "url(")) → ⊥
unfolding style_class url_class_of
control_begins_url p = let h : true ≡ false = p.allowed.0 in cc

return_before_url : IsPlainInStyle urls (13 ∷ []) (page (codes "url(")) → ⊥
unfolding style_class url_class_of
return_before_url p = let h : true ≡ false = p.allowed.0 in cc

blank_before_url : IsPlainInStyle urls (codes " a") (page (codes "url(")) → ⊥
unfolding style_class url_class_of
blank_before_url p = let h : true ≡ false = p.allowed.0 in cc

-- not alike: a page that is in another word, in a comment that may end, or that has told a blank
is_comment_star : (s r : style.Outside) → AreAlikeOutside s r → s ≡ Comment false → r ≡ Comment false
is_comment_star s r (the_same z o) e = e
is_comment_star s r (hole_between solidus less) e = cc
is_comment_star s r (hole_less_than solidus less) e = cc
is_comment_star s r (hole_word solidus less w) e = cc
is_comment_star s r (split_word w i) e = cc
is_comment_star s r (cut_solidus k) e = cc
is_comment_star s r cut_less_than e = cc
is_comment_star s r (cut_star star) e = cc

comment_may_end : AreAlikeOutside (Comment false) (Comment true) → ⊥
comment_may_end a = let h = is_comment_star (Comment false) (Comment true) a refl in cc

-- why a `(` is refused behind a word that has been split: behind `u` of a value the page would be in a url
joined_url : page (codes "a:url(x") ≡ InUrl Bare (url_states.feed_url url_states.url_start 120)
unfolding style_class url_class_of
joined_url = refl

-- told otherwise: a blank, the quotes of strings and of urls, an escape
blank_is_told : told (codes "a b") ≡ told (codes "ab") → ⊥
unfolding style_class url_class_of
blank_is_told e = cc

quotes_are_told : told (codes "'a'") ≡ told (codes "\"a\"") → ⊥
unfolding style_class url_class_of
quotes_are_told e = cc

quoted_url_is_told : told (codes "url('a')") ≡ told (codes "url(a)") → ⊥
unfolding style_class url_class_of
quoted_url_is_told e = cc

escape_is_told : told (codes "\\61") ≡ told (codes "a") → ⊥
unfolding style_class url_class_of
escape_is_told e = cc

semicolon_is_told : told (codes "a;b") ≡ told (codes "a b") → ⊥
unfolding style_class url_class_of
semicolon_is_told e = cc
