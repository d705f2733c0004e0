-- Worked examples of how the content of the element `style` is read, in a page and on a path, and which bytes are plain there, by computing.
use Rattle.std.proofs.Common.{◌≡◌, ℕ, true, false, List, [], ◌∷◌, codes, Some, None, refl, sym, ap, true≢false}
use Rattle.css_lexer.specs.Classes.{style_class}
use Rattle.css_lexer.specs.Escapes.{NoEscape}
use Rattle.css_lexer.specs.Events.{RunByte, RunBlank, StringBegins, StringByte}
use Rattle.css_lexer.specs.States.{SingleQuote, SpellsOther, Between, Word, InString, BehindHole, LessThanAtCut, Style, Out}
use Rattle.css_lexer.specs.States as style
use Rattle.place_core.specs.page.Classes.{class_of}
use Rattle.place_core.specs.page.Events.{LexEvent, Mark, StartTagBegins, EndTagBegins, TagEnds, InsideStyle, tag_name_bytes, event_text_bytes}
use Rattle.place_core.specs.page.Html.{read, start}
use Rattle.place_core.specs.page.Paths.{Written, Hole, read_path}
use Rattle.place_core.specs.page.Plain.{IsPlain}
use Rattle.place_core.specs.page.References.{Closed, meaning, flushed}
use Rattle.place_core.specs.page.Shape.{marked}
use Rattle.place_core.specs.page.States.{Page, LexState, Text, Pending, Nothing, PendingLess, PendingName, InLanguage, InContent, Config, config}
use Rattle.place_core.specs.page.Tags.{ValueState, OfStyle, languages}
use Rattle.place_core.specs.place.Errors.{RefusesHole, is_unknown_name, is_written, node, path_refusal, shown_place, states}
use Rattle.place_core.specs.place.StatePlaces.{placed}
use Rattle.place_core.specs.place.StyleParts.{style_tails}
use Rattle.place_core.specs.place.UrlParts.{parts_of}
use Rattle.place_core.specs.declared.code.Code.TheVariants as code
use Rattle.place_core.specs.declared.css.Css.TheVariants as css
use Rattle.place_core.specs.declared.element.Element.TheVariants as element
use Rattle.place_core.specs.declared.place.Place.TheVariants as place
use Rattle.url_lexer.specs.Classes.{url_class_of}
use Rattle.url_lexer.specs.Parts.{UrlQuery}
use Rattle.url_lexer.specs.States.{Url}

-- in the element, in this state of the style, with this pending back
in_element : Style Url → Pending → LexState ValueState
in_element s h = InContent element.Style (InLanguage (OfStyle s)) h

at_content : Config ValueState
at_content = config (in_element style.style_start Nothing) []

style_run : List ℕ → List LexEvent → List LexEvent
style_run [] t = t
style_run (b ∷ bs) t = style_run bs (InsideStyle (RunByte b) ∷ t)

begun : List LexEvent
begun = TagEnds false ∷ tag_name_bytes (codes "style") (StartTagBegins ∷ [])

ended : List LexEvent → List LexEvent
ended t = TagEnds false ∷ tag_name_bytes (codes "style") (EndTagBegins ∷ t)

-- a page: what is pending back and comes to nothing is read by the style, and the element's own end tag, in any case, ends it
content : read Page (codes "<style>a<b</sty</STYLE >") start ≡ config (Text Closed) (ended (style_run (codes "a<b</sty") begun))
unfolding style_run begun ended style_class url_class_of class_of meaning flushed lib.Utf8.encode
content = refl

-- it ends it in a string and in a comment too; a reference is none, and neither is a `<!--` a comment
string_ends : read Page (codes "<style>'&lt;</style>") start ≡ config (Text Closed) (ended (InsideStyle (StringByte 59) ∷ InsideStyle (StringByte 116) ∷ InsideStyle (StringByte 108) ∷ InsideStyle (StringByte 38) ∷ InsideStyle (StringBegins SingleQuote) ∷ begun))
unfolding begun ended style_class url_class_of class_of meaning flushed lib.Utf8.encode
string_ends = refl

comment_ends : read Page (codes "<style>/* </style>*/") start ≡ config (Text Closed) (event_text_bytes (codes "*/") (ended (InsideStyle RunBlank ∷ begun)))
unfolding begun ended style_class url_class_of class_of meaning flushed lib.Utf8.encode
comment_ends = refl

declaration : (read Page (codes "<!--<style>") at_content).emitted ≡ style_run (codes "<!--<style>") []
unfolding at_content in_element style_run style_class url_class_of class_of meaning flushed lib.Utf8.encode
declaration = refl

-- the end of the element tells what the style has pending
solidus_ends : read Page (codes "a/</style>") at_content ≡ config (Text Closed) (ended (style_run (codes "a/") []))
unfolding at_content in_element style_run ended style_class url_class_of class_of meaning flushed lib.Utf8.encode
solidus_ends = refl

-- what is pending
pending_name : (read Page (codes "a</St") at_content).at ≡ in_element (Out (Word SpellsOther NoEscape)) (PendingName (codes "St"))
unfolding at_content in_element style_class url_class_of class_of meaning flushed lib.Utf8.encode
pending_name = refl

-- a path: behind a `<` with which a node ends nothing is pending, but the style knows of it
less_cut : node (codes "a<") (in_element style.style_start Nothing) ≡ in_element (Out LessThanAtCut) Nothing
unfolding in_element style_class url_class_of class_of meaning flushed lib.Utf8.encode
less_cut = refl

less_at_hole : read_path languages (Written (codes "a<") ∷ Hole ∷ []) at_content ≡ config (in_element (Out (BehindHole false true)) Nothing) (Mark ∷ style_run (codes "a<") [])
unfolding at_content in_element style_run style_class url_class_of class_of meaning flushed lib.Utf8.encode
less_at_hole = refl

solidus_at_hole : (read_path languages (Written (codes "a/") ∷ Hole ∷ Written (codes " b") ∷ []) at_content).emitted ≡ style_run (codes "b") (InsideStyle RunBlank ∷ Mark ∷ style_run (codes "a/") [])
unfolding at_content in_element style_run style_class url_class_of class_of meaning flushed lib.Utf8.encode
solidus_at_hole = refl

no_mark_in_comment : (read_path languages (Written (codes "a/* <") ∷ Hole ∷ Written (codes "/ */b") ∷ []) at_content).emitted ≡ style_run (codes "b") (InsideStyle RunBlank ∷ style_run (codes "a") [])
unfolding at_content in_element style_run style_class url_class_of class_of meaning flushed lib.Utf8.encode
no_mark_in_comment = refl

-- its places; within the word, and in what may be the end tag, there is none
at_beginning : placed (node (codes "<style>") (Text Closed)) ≡ Some (place.Style (css.Code (style_tails false false false)))
unfolding style_class url_class_of class_of meaning flushed lib.Utf8.encode
at_beginning = refl

behind_less : placed (node (codes "a<") (in_element style.style_start Nothing)) ≡ Some (place.Style (css.Code (style_tails false false true)))
unfolding in_element style_class url_class_of class_of meaning flushed lib.Utf8.encode
behind_less = refl

in_url : placed (node (codes "a:url( '/b?") (in_element style.style_start Nothing)) ≡ Some (place.Style (css.UrlSq (parts_of UrlQuery)))
unfolding in_element style_class url_class_of class_of meaning flushed lib.Utf8.encode
in_url = refl

within_word : placed (states (codes "a") (in_element style.style_start Nothing)) ≡ None
unfolding in_element style_class url_class_of class_of meaning flushed lib.Utf8.encode
within_word = refl

within_end_tag : placed (states (codes ";</st") (in_element style.style_start Nothing)) ≡ None
unfolding in_element style_class url_class_of class_of meaning flushed lib.Utf8.encode
within_end_tag = refl

behind_url : RefusesHole (node (codes "url(a ") (in_element style.style_start Nothing)) code.BadString
unfolding in_element style_class url_class_of class_of meaning flushed lib.Utf8.encode
behind_url = record { own = _; stands = refl; refused = refl }

-- what is refused: nothing of a whole element
accepted : path_refusal (codes "<style>a<b{c:'</d>' /* </st */} url(<)</style>") (Text Closed) ≡ None
unfolding style_class url_class_of class_of meaning flushed is_unknown_name is_written lib.Utf8.encode
accepted = refl

-- a node that ends in what the end tag begins with; in a `<` where that may not be cut, in a string, a URL and behind a backslash
end_tag_cut : path_refusal (codes "a</sTy") (in_element style.style_start Nothing) ≡ Some (record { code = code.SplitToken; at = 6; shown = 1 })
unfolding in_element style_class url_class_of class_of meaning flushed is_unknown_name is_written lib.Utf8.encode
end_tag_cut = refl

whole_name_cut : path_refusal (codes "</style") (in_element style.style_start Nothing) ≡ Some (record { code = code.SplitToken; at = 7; shown = 0 })
unfolding in_element style_class url_class_of class_of meaning flushed is_unknown_name is_written lib.Utf8.encode
whole_name_cut = refl

other_name_cut : path_refusal (codes "a</stx") (in_element style.style_start Nothing) ≡ None
unfolding in_element style_class url_class_of class_of meaning flushed is_unknown_name is_written lib.Utf8.encode
other_name_cut = refl

less_in_code : path_refusal (codes "a<") (in_element style.style_start Nothing) ≡ None
unfolding in_element style_class url_class_of class_of meaning flushed is_unknown_name is_written lib.Utf8.encode
less_in_code = refl

less_in_string : path_refusal (codes "'a<") (in_element style.style_start Nothing) ≡ Some (record { code = code.SplitToken; at = 3; shown = 2 })
unfolding in_element style_class url_class_of class_of meaning flushed is_unknown_name is_written lib.Utf8.encode
less_in_string = refl

less_in_escape : path_refusal (codes "a\\<") (in_element style.style_start Nothing) ≡ Some (record { code = code.SplitToken; at = 3; shown = 1 })
unfolding in_element style_class url_class_of class_of meaning flushed is_unknown_name is_written lib.Utf8.encode
less_in_escape = refl

shown_before_escape : shown_place 1 (codes "a\\<") (in_element style.style_start Nothing) ≡ Some (place.Style (css.Code (style_tails true false false)))
unfolding in_element style_class url_class_of class_of meaning flushed is_unknown_name is_written lib.Utf8.encode
shown_before_escape = refl

escape_cut : path_refusal (codes "'a\\4") (in_element style.style_start Nothing) ≡ Some (record { code = code.PartialEscape; at = 4; shown = 2 })
unfolding in_element style_class url_class_of class_of meaning flushed is_unknown_name is_written lib.Utf8.encode
escape_cut = refl

-- what the style refuses stands at its own byte, if that was pending too, and the earliest goes before
less_behind_url : path_refusal (codes "url(a <b") (in_element style.style_start Nothing) ≡ Some (record { code = code.BadString; at = 6; shown = 6 })
unfolding in_element style_class url_class_of class_of meaning flushed is_unknown_name is_written lib.Utf8.encode
less_behind_url = refl

end_tag_behind_url : path_refusal (codes "url(a </st") (in_element style.style_start Nothing) ≡ Some (record { code = code.BadString; at = 6; shown = 6 })
unfolding in_element style_class url_class_of class_of meaning flushed is_unknown_name is_written lib.Utf8.encode
end_tag_behind_url = refl

line_end : path_refusal (codes "'<\n") (in_element style.style_start Nothing) ≡ Some (record { code = code.BadString; at = 2; shown = 2 })
unfolding in_element style_class url_class_of class_of meaning flushed is_unknown_name is_written lib.Utf8.encode
line_end = refl

-- but the end tag ends the element behind a URL that is open
open_url_ends : path_refusal (codes "url(a </style>") (in_element style.style_start Nothing) ≡ None
unfolding in_element style_class url_class_of class_of meaning flushed is_unknown_name is_written lib.Utf8.encode
open_url_ends = refl

-- no text goes on with a `<` with which a node ended, nor behind a hole with one before it
solidus_behind_less : path_refusal (codes "/style>") (in_element (Out LessThanAtCut) Nothing) ≡ Some (record { code = code.SplitToken; at = 0; shown = 0 })
unfolding in_element style_class url_class_of class_of meaning flushed is_unknown_name is_written lib.Utf8.encode
solidus_behind_less = refl

solidus_behind_hole : path_refusal (codes "/style>") (in_element (Out (BehindHole false true)) Nothing) ≡ Some (record { code = code.SplitToken; at = 0; shown = 0 })
unfolding in_element style_class url_class_of class_of meaning flushed is_unknown_name is_written lib.Utf8.encode
solidus_behind_hole = refl

-- words and plain text are plain in code, behind a `<` too, and any byte but the quote in a string
plain_word : IsPlain (codes "red 1") at_content
unfolding at_content in_element style_class url_class_of class_of meaning flushed lib.Utf8.encode
plain_word = (λ n. refl, record { within = refl; emitted = refl; begins = λ n. absurd (true≢false (sym n)); leads = record { leads = (tt, tt); allowed = refl; tells = refl } })

plain_behind_less : IsPlain (codes "red") (config (in_element (Out (Between false)) PendingLess) [])
unfolding in_element style_class url_class_of class_of meaning flushed lib.Utf8.encode
plain_behind_less = (λ n. refl, record { within = refl; emitted = refl; begins = λ n. refl; leads = record { leads = (tt, tt); allowed = refl; tells = refl } })

plain_in_string : IsPlain (codes "</b;/*") (config (in_element (Out (InString SingleQuote NoEscape)) Nothing) [])
unfolding in_element style_class url_class_of class_of meaning flushed lib.Utf8.encode
plain_in_string = (λ n. refl, record { within = refl; emitted = refl; begins = λ n. absurd (true≢false (sym n)); leads = record { leads = refl; allowed = refl; tells = refl } })

none_behind_less : IsPlain [] (config (in_element (Out (Between false)) PendingLess) [])
unfolding in_element style_class url_class_of class_of meaning flushed lib.Utf8.encode
none_behind_less = (λ n. absurd (n refl), record { within = refl; emitted = refl; begins = λ n. refl; leads = record { leads = (tt, tt); allowed = refl; tells = refl } })

-- not: the end tag, though a new element of the kind follows, what is pending at the end, and punctuation
end_tag_in_content : IsPlain (codes "</style><style>") at_content → ⊥
unfolding at_content in_element style_class url_class_of class_of meaning flushed lib.Utf8.encode
end_tag_in_content p = cc

less_at_the_end : IsPlain (codes "a<") at_content → ⊥
unfolding at_content in_element style_class url_class_of class_of meaning flushed lib.Utf8.encode
less_at_the_end p = cc

punctuation : IsPlain (codes "a;b") at_content → ⊥
unfolding at_content in_element style_class url_class_of class_of meaning flushed lib.Utf8.encode
punctuation p = true≢false (sym p.1.leads.tells)

text-no-style : (t u : List LexEvent) (s : Style Url) → config (Text Closed) t ≡ config (in_element s Nothing) u → ⊥
unfolding in_element
text-no-style t u s e = (let at : Text Closed ≡ InContent element.Style (InLanguage (OfStyle s)) Nothing = ap (λ (c : Config ValueState). c.at) e in cc)

-- nor what makes an end tag of a `<` before it, be it the rest of that, or behind a hole without bytes
solidus_of_end_tag : IsPlain (codes "/a") (config (in_element (Out (Between false)) PendingLess) []) → ⊥
unfolding in_element style_class url_class_of class_of meaning flushed lib.Utf8.encode
solidus_of_end_tag p = true≢false (p.1.begins refl)

end_tag_over_empty_hole : IsPlain (codes "/style>") (marked [] (config (in_element (Out (Between false)) PendingLess) [])) → ⊥
unfolding in_element style_class url_class_of class_of meaning flushed lib.Utf8.encode
end_tag_over_empty_hole p = true≢false (p.1.begins refl)

rest_of_end_tag : IsPlain (codes "yle>") (config (in_element (Out (Between false)) (PendingName (codes "st"))) []) → ⊥
unfolding in_element style_class url_class_of class_of meaning flushed lib.Utf8.encode
rest_of_end_tag p = text-no-style _ _ _ (p.0 (λ n. cc))
