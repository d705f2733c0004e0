-- Worked examples of places of several paths in a style: what texts and holes make of them, what is refused, and what is not so.
use Rattle.std.proofs.Common.{◌≡◌, ℕ, Bool, true, false, codes, List, [], ◌∷◌, Option, Some, None, refl}
use Rattle.css_lexer.specs.Classes.{style_class}
use Rattle.css_lexer.specs.Escapes.{HexDigits}
use Rattle.css_lexer.specs.RefusalCodes.{RefusalCode, AmbigContext, BadHTML, PartialEscape, SplitToken, BadString, at_end}
use Rattle.place_core.specs.declared.css.Css.{Css}
use Rattle.place_core.specs.declared.css.Css.TheVariants as css
use Rattle.place_core.specs.place.LanguagePlaces.{both_parts, joined_css}
use Rattle.place_core.specs.place.UrlParts.{parts_of}
use Rattle.url_lexer.specs.Classes.{url_class_of}
use Rattle.url_lexer.specs.Parts.{UrlOpenhole, UrlPrequery, UrlQuery}
use Rattle.css_step.specs.StyleScans.{StyleScan, ScanSplitEscape, style_scan_start, style_scan_next, style_scan_error, style_scan_place, style_scan_cut_error, style_at_hole, style_hole_error}
use Rattle.css_step.specs.StyleSetLaws.{StyleBelow}
use Rattle.place_core.specs.place.StyleParts.{style_tails}

-- where a text leads from a place; what its last byte, and its end, are refused for
abbrev behind : StyleScan → List ℕ → StyleScan
behind n [] = n
behind n (b ∷ bs) = behind (style_scan_next n (style_class b) b) bs

abbrev text_of : Css → List ℕ → Css
text_of c text = style_scan_place (behind (style_scan_start c) text)

abbrev at_byte : Css → List ℕ → ℕ → Option RefusalCode
at_byte c text b = style_scan_error (behind (style_scan_start c) text) (style_class b) b

abbrev code_of : (word slash lt : Bool) → Css
code_of word slash lt = css.Code (style_tails word slash lt)

abbrev clear : Css
clear = code_of false false false

-- one path
color : text_of clear (codes "color") ≡ code_of true false false
unfolding style_class
color = refl

url_in_quotes : text_of clear (codes "a:URL( \"/b?") ≡ css.UrlDq (parts_of UrlQuery)
unfolding style_class url_class_of
url_in_quotes = refl

comment_closed : text_of clear (codes "a/* b */;") ≡ clear
unfolding style_class
comment_closed = refl

comment_star : text_of clear (codes "/*/ *") ≡ css.Comment true
unfolding style_class
comment_star = refl

-- `a/{{.x}}`, and no comment behind it
hole_behind_solidus : style_at_hole (text_of clear (codes "a/")) ≡ code_of true true false
unfolding style_class
hole_behind_solidus = refl

asterisk_behind_hole : at_byte (code_of true true false) [] 42 ≡ Some SplitToken
unfolding style_class
asterisk_behind_hole = refl

-- `{{if .x}}u{{else}};{{end}}rl(`: one path is in a word, the other one begins it
word_on_one : at_byte (code_of true false false) (codes "rl") 40 ≡ Some SplitToken
unfolding style_class
word_on_one = refl

escape_on_one : behind (style_scan_start (code_of true false false)) (codes "b\\4") ≡ ScanSplitEscape (HexDigits 1)
unfolding style_class
escape_on_one = refl

blank_on_one : text_of (code_of true false false) (codes "a url(") ≡ css.UrlFresh
unfolding style_class
blank_on_one = refl

-- `{{if .x}}a/{{else}}a<{{end}}`: either goes on
solidus_and_less_than : joined_css (text_of clear (codes ";/")) (text_of clear (codes ";<")) ≡ Some (code_of false true true)
unfolding style_class
solidus_and_less_than = refl

solidus_on_two : at_byte (code_of false true true) [] 47 ≡ Some SplitToken
unfolding style_class
solidus_on_two = refl

-- in URLs: two parts at a hole; a scheme behind a hole; a URL that has not begun, in quotes too; behind a URL
hole_on_two_parts : style_hole_error (css.Url (both_parts (parts_of UrlPrequery) (parts_of UrlQuery))) ≡ Some AmbigContext
hole_on_two_parts = refl

colon_behind_url_hole : at_byte (style_at_hole css.UrlFresh) [] 58 ≡ Some AmbigContext
unfolding style_class url_class_of
colon_behind_url_hole = refl

script_in_url : style_hole_error (text_of css.UrlFresh (codes "'javascript:")) ≡ Some BadHTML
unfolding style_class url_class_of
script_in_url = refl

fresh_hole : style_at_hole css.UrlFresh ≡ css.Url (parts_of UrlOpenhole)
fresh_hole = refl

hole_behind_url : style_hole_error (text_of css.UrlFresh (codes "a ")) ≡ Some BadString
unfolding style_class url_class_of
hole_behind_url = refl

backslash_in_url : at_byte css.UrlFresh (codes "a") 92 ≡ Some BadString
unfolding style_class url_class_of
backslash_in_url = refl

-- strings, and the ends of nodes
line_end_in_string : at_byte css.Dq (codes "a") 10 ≡ Some BadString
unfolding style_class
line_end_in_string = refl

escape_at_cut : style_scan_cut_error (behind (style_scan_start css.Sq) (codes "a\\41")) ≡ at_end PartialEscape 3
unfolding style_class
escape_at_cut = refl

triple_at_cut : style_scan_cut_error (behind (style_scan_start (css.UrlSq (parts_of UrlPrequery))) (codes "a%4")) ≡ at_end PartialEscape 2
unfolding style_class url_class_of
triple_at_cut = refl

-- What is not so: that a `/` is refused in a comment behind a `*` of the same text; that a `(` is refused behind a word of the same text; that a `/` is
-- accepted in a comment behind a `*` that some path has before the text; that a place with a word is below one without; that a hole leaves no word.
star_of_this_text : at_byte (css.Comment false) (codes "*") 47 ≡ Some SplitToken → ⊥
unfolding style_class
star_of_this_text h = cc

word_of_this_text : at_byte clear (codes "url") 40 ≡ Some SplitToken → ⊥
unfolding style_class
word_of_this_text h = cc

star_before_the_text : at_byte (css.Comment true) [] 47 ≡ None → ⊥
unfolding style_class
star_before_the_text h = cc

word_below_none : StyleBelow (code_of true false false) clear → ⊥
word_below_none h = cc

hole_leaves_a_word : StyleBelow (style_at_hole clear) clear → ⊥
hole_leaves_a_word h = word_below_none h
