-- Worked examples of how values that are styles are read, in a page and on a path, and which bytes are plain there, by computing.
use Rattle.std.proofs.Common.{◌≡◌, ℕ, true, false, List, [], ◌∷◌, codes, Option, Some, None, refl, sym, true≢false}
use Rattle.css_lexer.specs.Classes.{style_class}
use Rattle.css_lexer.specs.Escapes.{NoEscape}
use Rattle.css_lexer.specs.Events.{RunByte, RunBlank, PunctuationByte, UrlBegins, InsideUrl, UrlEnds}
use Rattle.css_lexer.specs.States.{DoubleQuote, SingleQuote, SpellsOther, Between, Word, AfterSolidus, Comment, InString, BehindHole, Style, Out}
use Rattle.css_lexer.specs.States as style
use Rattle.place_core.specs.page.Classes.{class_of}
use Rattle.place_core.specs.page.Events.{LexEvent, Mark, InsideStyle}
use Rattle.place_core.specs.page.Html.{read}
use Rattle.place_core.specs.page.Paths.{Written, Hole, read_path}
use Rattle.place_core.specs.page.Plain.{IsPlain}
use Rattle.place_core.specs.page.References.{Closed, meaning, flushed}
use Rattle.place_core.specs.page.States.{Page, LexState, AttributeValue, Config, config}
use Rattle.place_core.specs.page.Tags.{DoubleQuoted, ValueOf, ValueState, OfStyle, LeadsPlainInStyle, languages, tag_named}
use Rattle.place_core.specs.place.Errors.{RefusesHole, is_unknown_name, is_written, node, path_refusal}
use Rattle.place_core.specs.place.StatePlaces.{placed, quotes_at}
use Rattle.place_core.specs.place.StyleParts.{style_tails}
use Rattle.place_core.specs.place.UrlParts.{parts_of}
use Rattle.place_core.specs.declared.body.Body.TheVariants as body
use Rattle.place_core.specs.declared.code.Code.TheVariants as code
use Rattle.place_core.specs.declared.css.Css.{Css}
use Rattle.place_core.specs.declared.css.Css.TheVariants as css
use Rattle.place_core.specs.declared.element.Element.TheVariants as element
use Rattle.place_core.specs.declared.place.Place.{Place}
use Rattle.place_core.specs.declared.place.Place.TheVariants as place
use Rattle.place_core.specs.declared.tag_of.TagOf.TheVariants as tag
use Rattle.url_lexer.specs.Classes.{url_class_of}
use Rattle.url_lexer.specs.Events.{UrlEvent, UrlByte}
use Rattle.url_lexer.specs.Events as url
use Rattle.url_lexer.specs.Parts.{UrlQuery}
use Rattle.url_lexer.specs.States.{Url}

-- in `<p style="`, in this state of the style
in_style : Style Url → LexState ValueState
in_style s = AttributeValue DoubleQuoted (tag_named false (codes "p")) (ValueOf (OfStyle s)) Closed

at_start : Config ValueState
at_start = config (in_style style.style_start) []

run : List ℕ → List LexEvent → List LexEvent
run [] t = t
run (b ∷ bs) t = run bs (InsideStyle (RunByte b) ∷ t)

-- a page; a reference is undone before the style reads it
declaration : read Page (codes "a:b;c&#58;d") at_start ≡ config (in_style (Out (Word SpellsOther NoEscape))) (run (codes "c:d") (InsideStyle (PunctuationByte 59) ∷ run (codes "a:b") []))
unfolding in_style at_start run style_class url_class_of class_of meaning flushed lib.Utf8.encode
declaration = refl

-- a comment is a blank, and its bytes are not told
comment : read Page (codes "a/*;*/b") at_start ≡ config (in_style (Out (Word SpellsOther NoEscape))) (run (codes "b") (InsideStyle RunBlank ∷ run (codes "a") []))
unfolding in_style at_start run style_class url_class_of class_of meaning flushed lib.Utf8.encode
comment = refl

-- a hole in code has its mark in the run, behind a `/` that waited; one in a comment has none
mark_in_code : (read_path languages (Written (codes "a/") ∷ Hole ∷ Written (codes " b") ∷ []) at_start).emitted ≡ run (codes "b") (InsideStyle RunBlank ∷ Mark ∷ run (codes "a/") [])
unfolding in_style at_start run style_class url_class_of class_of meaning flushed lib.Utf8.encode
mark_in_code = refl

no_mark_in_comment : (read_path languages (Written (codes "a/* ") ∷ Hole ∷ Written (codes " */b") ∷ []) at_start).emitted ≡ run (codes "b") (InsideStyle RunBlank ∷ run (codes "a") [])
unfolding in_style at_start run style_class url_class_of class_of meaning flushed lib.Utf8.encode
no_mark_in_comment = refl

mark_in_url : (read_path languages (Written (codes "url(/") ∷ Hole ∷ Written (codes ")") ∷ []) at_start).emitted ≡ InsideStyle UrlEnds ∷ InsideStyle (InsideUrl (url.UrlEnds url.NoScheme)) ∷ Mark ∷ InsideStyle (InsideUrl (UrlByte 47)) ∷ InsideStyle UrlBegins ∷ run (codes "url") []
unfolding in_style at_start run style_class url_class_of class_of meaning flushed lib.Utf8.encode
mark_in_url = refl

-- where a node ends in a style, and what its place is; a hole behind the URL of a url token is refused
placed_in_style : Css → Option Place
placed_in_style c = Some (place.Value (record { tag = tag.Start element.Other; typed = false; quotes = quotes_at DoubleQuoted; body = body.Css c }))

behind_word : placed (node (codes "a:b") (in_style style.style_start)) ≡ placed_in_style (css.Code (style_tails true false false))
unfolding in_style placed_in_style style_class url_class_of class_of meaning flushed lib.Utf8.encode
behind_word = refl

-- before that end, within the word, there is none
within_word : placed (in_style (Out (Word SpellsOther NoEscape))) ≡ None
unfolding in_style
within_word = refl

in_url : placed (node (codes "a:url( '/b?") (in_style style.style_start)) ≡ placed_in_style (css.UrlSq (parts_of UrlQuery))
unfolding in_style placed_in_style style_class url_class_of class_of meaning flushed lib.Utf8.encode
in_url = refl

behind_url : RefusesHole (node (codes "url(a ") (in_style style.style_start)) code.BadString
unfolding in_style style_class url_class_of class_of meaning flushed lib.Utf8.encode
behind_url = record { own = _; stands = refl; refused = refl }

-- what the language of styles refuses of a text
behind_hole : path_refusal (codes "(") (in_style (Out (BehindHole false false))) ≡ Some (record { code = code.SplitToken; at = 0; shown = 0 })
unfolding in_style style_class url_class_of class_of meaning flushed is_unknown_name is_written lib.Utf8.encode
behind_hole = refl

line_end : path_refusal (codes "'a\n") (in_style style.style_start) ≡ Some (record { code = code.BadString; at = 2; shown = 2 })
unfolding in_style style_class url_class_of class_of meaning flushed is_unknown_name is_written lib.Utf8.encode
line_end = refl

-- an escape at a node's end, whose backslash may be a reference, and a triple of a URL
escape_cut : path_refusal (codes "'a\\4") (in_style style.style_start) ≡ Some (record { code = code.PartialEscape; at = 4; shown = 2 })
unfolding in_style style_class url_class_of class_of meaning flushed is_unknown_name is_written lib.Utf8.encode
escape_cut = refl

reference_cut : path_refusal (codes "a&#92;4") (in_style style.style_start) ≡ Some (record { code = code.PartialEscape; at = 7; shown = 1 })
unfolding in_style style_class url_class_of class_of meaning flushed is_unknown_name is_written lib.Utf8.encode
reference_cut = refl

triple_cut : path_refusal (codes "url(a%4") (in_style style.style_start) ≡ Some (record { code = code.PartialEscape; at = 7; shown = 5 })
unfolding in_style style_class url_class_of class_of meaning flushed is_unknown_name is_written lib.Utf8.encode
triple_cut = refl

accepted : path_refusal (codes "a: '\\'' /* ; */ url(x)\"") (in_style style.style_start) ≡ None
unfolding in_style style_class url_class_of class_of meaning flushed is_unknown_name is_written lib.Utf8.encode
accepted = refl

-- words and plain text are plain in code, and any bytes but the quote, a line end and an escape that is open in a string
plain_word : IsPlain (codes "red 1") at_start
unfolding in_style at_start style_class url_class_of class_of meaning flushed lib.Utf8.encode
plain_word = (
  λ n. refl,
  record {
    value = codes "red 1";
    after = OfStyle (Out (Word SpellsOther NoEscape));
    within = refl;
    emitted = refl;
    some = tt;
    leads = record { leads = (tt, tt); allowed = refl; tells = refl };
  },
)

plain_in_string : IsPlain (codes "&#59;/*") (config (in_style (Out (InString SingleQuote NoEscape))) [])
unfolding in_style style_class url_class_of class_of meaning flushed lib.Utf8.encode
plain_in_string = (
  λ n. refl,
  record {
    value = codes ";/*";
    after = OfStyle (Out (InString SingleQuote NoEscape));
    within = refl;
    emitted = refl;
    some = tt;
    leads = record { leads = refl; allowed = refl; tells = refl };
  },
)

-- no bytes are plain behind a `/`, but a `*` is not
none_behind_solidus : IsPlain [] (config (in_style (Out (AfterSolidus false))) [])
unfolding in_style style_class url_class_of class_of meaning flushed lib.Utf8.encode
none_behind_solidus = (
  λ n. absurd (n refl),
  record {
    value = [];
    after = OfStyle (Out (Between false));
    within = refl;
    emitted = refl;
    some = tt;
    leads = record { leads = (tt, tt); allowed = refl; tells = refl };
  },
)

asterisk : (r : Style Url) → LeadsPlainInStyle (Out (Between false)) (codes "*") r → ⊥
unfolding style_class url_class_of
asterisk r p = true≢false p.allowed

punctuation : (r : Style Url) → LeadsPlainInStyle style.style_start (codes "a;b") r → ⊥
unfolding style_class url_class_of
punctuation r p = true≢false (sym p.tells)

end_of_string : (r : Style Url) → LeadsPlainInStyle (Out (InString SingleQuote NoEscape)) (codes "a'") r → ⊥
unfolding style_class url_class_of
end_of_string r p = true≢false (sym p.tells)

end_of_value : IsPlain (codes "a\"") at_start → ⊥
unfolding in_style at_start style_class url_class_of class_of meaning flushed lib.Utf8.encode
end_of_value p = cc
