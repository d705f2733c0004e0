-- What a chain writes for a value in the element of a style keeps what it promises, and reads back wherever a hole has that chain.
use Rattle.std.proofs.Common.{◌≡◌, ℕ, false, List, IsUtf8, None, sym, ap, subst}
use Rattle.std.specs.List.{list_any}
use Rattle.css_lexer.specs.Paths.{style_settled}
use Rattle.css_lexer.specs.ReadBack.{IsBackInCode, IsBackInString}
use Rattle.css_lexer.specs.Sanitizers.{css_string, css_value}
use Rattle.css_lexer.specs.States.{Out, Outside, InUrl, UrlForm, Style}
use Rattle.css_lexer.specs.Urls.{urls}
use Rattle.page_datum.specs.Data.{Data}
use Rattle.page_datum.specs.Printed.{printed}
use Rattle.page_path.proofs.StyleBack.{WrittenInLanguages, style-reads}
use Rattle.page_path.proofs.UrlBack.{all-bytes, own-apart, part-back}
use Rattle.page_path.specs.Soundness.{IsBack, IsElementBack, ReadsBackInStyle, ReadsBackOutside}
use Rattle.place_core.specs.page.Contents.{pending_bytes}
use Rattle.place_core.specs.page.Events.{LexEvent}
use Rattle.place_core.specs.page.Plain.{settled_state}
use Rattle.place_core.specs.page.States.{Config, InContent, InLanguage, LexState, Nothing}
use Rattle.place_core.specs.page.Tags.{OfKind, OfStyle, OfUrl, StatesAlike, ValueState, fed_state, languages, OfScript}
use Rattle.place_core.specs.declared.element.Element.{Element}
use Rattle.place_core.specs.declared.element.Element.TheVariants as element
use Rattle.san_css.proofs.WrittenText.{string-no-less, value-no-less}
use Rattle.san_url.proofs.WrittenAscii.{utf8-bytes, written-own}
use Rattle.text_norm.proofs.StyleElementHoles.{IsLoose, content-read, loose-stands}
use Rattle.text_norm.specs.HoleLaws.{IsBackInElement, IsBackInElementUrl, is_less_than}
use Rattle.text_norm.specs.Standing.{StandsInStyleElement, TextStands, in_element}
use Rattle.url_lexer.specs.Back.{ReadsBack}
use Rattle.url_lexer.specs.Parts.{UrlPart}
use Rattle.url_lexer.specs.Refusals.{refuses_hole_in}
use Rattle.url_lexer.specs.Sanitizers.{written_in}
use Rattle.url_lexer.specs.States.{Url}

-- what is promised, in code, in a string and in a URL
pub in-code : WrittenInLanguages → (text : List ℕ) → IsBackInElement (IsBackInCode urls text) (css_value text)
in-code laws text = record { there = laws.code text; apart = value-no-less text }

pub in-string : WrittenInLanguages → (text : List ℕ) → IsBackInElement (IsBackInString urls text) (css_string text)
in-string laws text = record { there = laws.strings text; apart = string-no-less text }

pub in-url : WrittenInLanguages → (p : UrlPart) (Back : List ℕ → Type 0) (text : List ℕ) → IsUtf8 text → Back (written_in p text)
    → IsBackInElementUrl Back (written_in p text)
in-url laws p Back text u back = record {
  there = back;
  stays = laws.stay p text (all-bytes text (utf8-bytes text u));
  apart = own-apart (written_in p text) (written-own p text (utf8-bytes text u));
}

-- A page that stands for a path there is in the element too; its style reads what is pending before the value.
record IsInElement (e : Element) (text bytes : List ℕ) (d : Config ValueState) : Type 0 where
  style : Style Url
  there : settled_state languages d.at ≡ InContent e (InLanguage (OfStyle style)) Nothing
  reads : ReadsBackInStyle style text bytes

in-element-by : (e : Element) (v : Style Url) (w : ValueState) (text bytes : List ℕ) (d : Config ValueState) → StatesAlike (OfStyle v) w
    → settled_state languages d.at ≡ InContent e (InLanguage (languages.settled w)) Nothing → ReadsBackInStyle v text bytes
    → IsInElement e text bytes d
in-element-by e v (OfStyle w) text bytes d a at b = record { style = style_settled w; there = at; reads = style-reads v w text bytes a b }
in-element-by e v (OfKind k) text bytes d a at b = absurd a
in-element-by e v (OfUrl u) text bytes d a at b = absurd a
in-element-by e v (OfScript s) text bytes d a at b = absurd a

in-element : (e : Element) (v : Style Url) (text bytes : List ℕ) (t : List LexEvent) (d : Config ValueState)
    → StandsInStyleElement languages e v Nothing t d → ReadsBackInStyle v text bytes → IsInElement e text bytes d
in-element e v text bytes t d l b =
    in-element-by e v (fed_state languages (OfStyle l.there) (pending_bytes l.held)) text bytes d l.alike
    (ap (λ (c : Config ValueState). settled_state languages c.at) l.at) b

-- bytes that read back where the path is, and none of which is a `<`, do so on each page that stands for it
pub element-back : (e : Element) (v : Style Url) (datum : Data) (bytes : List ℕ) → IsLoose v → list_any is_less_than bytes ≡ false
    → ReadsBackInStyle v (printed datum) bytes → (t : List LexEvent) (d : Config ValueState)
    → TextStands languages (in_element e (OfStyle v) Nothing) t d → IsBack (settled_state languages d.at) datum bytes
element-back e v datum bytes o apart b t d l =
    let here = in-element e v (printed datum) bytes t d (loose-stands e v t d o l.1) b in
    let back : IsElementBack e here.style (printed datum) bytes =
    record { goes_on = content-read e bytes here.style apart; reads = here.reads } in
    subst (λ (s : LexState ValueState). IsBack s datum bytes) (sym here.there) back

-- what is written in code, in a string, and in a URL
abbrev pub in_style_element : Style Url → LexState ValueState
in_style_element v = in_element element.Style (OfStyle v) Nothing

pub code-back : (s : Outside) (datum : Data) → IsLoose (Out s) → ReadsBackOutside s (printed datum) (css_value (printed datum))
    → (t : List LexEvent) (d : Config ValueState) → TextStands languages (in_style_element (Out s)) t d
    → IsBack (settled_state languages d.at) datum (css_value (printed datum))
code-back s datum o b t d l =
    element-back element.Style (Out s) datum (css_value (printed datum)) o (value-no-less (printed datum)) b t d l

pub string-back : (s : Outside) (datum : Data) → IsLoose (Out s) → ReadsBackOutside s (printed datum) (css_string (printed datum))
    → (t : List LexEvent) (d : Config ValueState) → TextStands languages (in_style_element (Out s)) t d
    → IsBack (settled_state languages d.at) datum (css_string (printed datum))
string-back s datum o b t d l =
    element-back element.Style (Out s) datum (css_string (printed datum)) o (string-no-less (printed datum)) b t d l

pub url-back : (p : UrlPart) (f : UrlForm) (u : Url) (datum : Data) → u.part ≡ p → IsUtf8 (printed datum) → refuses_hole_in p ≡ None
    → (t : List LexEvent) (d : Config ValueState) → TextStands languages (in_style_element (InUrl f u)) t d
    → IsBack (settled_state languages d.at) datum (written_in p (printed datum))
url-back p f u datum is utf8 h t d l =
    let text = printed datum in
    let bytes = written_in p text in
    let apart = own-apart bytes (written-own p text (utf8-bytes text utf8)) in
    let reads = subst (λ (r : UrlPart). ReadsBack r text bytes) (sym is) (part-back p text utf8 h).reads in
    element-back element.Style (InUrl f u) datum bytes tt apart reads t d l
