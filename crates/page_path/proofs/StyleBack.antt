-- What a chain writes for a value in a style keeps what it promises, and reads back wherever a hole has that chain.
use Rattle.std.proofs.Common.{◌≡◌, ℕ, List, [], ◌∷◌, IsUtf8, None, refl, sym, ap, ◌∙◌, subst}
use Rattle.std.proofs.lemmas.Str.{IsUtf8-nil}
use Rattle.css_lexer.specs.Alike.{AreAlikeOutside, the_same, hole_between, hole_less_than, hole_word, split_word, cut_solidus, cut_less_than, cut_star, StylesAlike, outside, in_url, unbegun, unbegun_ended}
use Rattle.css_lexer.specs.Paths.{out_settled, style_settled}
use Rattle.css_lexer.specs.ReadBack.{IsBackInCode, IsBackInString, StringsReadBack, ValuesReadBackInCode}
use Rattle.css_lexer.specs.Sanitizers.{css_string, css_value}
use Rattle.css_lexer.specs.States.{Outside, Between, AfterLessThan, Word, AfterSolidus, Comment, InString, BadUrl, BehindHole, SplitWord, SolidusAtCut, LessThanAtCut, StarAtCut, Fresh, Bare, Ended, UrlForm, Style, Out, InUrl, style_start}
use Rattle.css_lexer.specs.StaysInUrl.{ValuesStayInUrls}
use Rattle.css_lexer.specs.Urls.{urls}
use Rattle.html_step.specs.Holes.{last_of}
use Rattle.page_datum.specs.Data.{Data}
use Rattle.page_datum.specs.Printed.{printed}
use Rattle.page_path.proofs.ScriptBack.{WrittenInScripts}
use Rattle.page_path.proofs.UrlBack.{by-last, last-reads, last_bytes, own-text, part-back, url-text}
use Rattle.page_path.specs.Soundness.{IsBack, IsStyleBack, ReadsBackInStyle, ReadsBackOutside}
use Rattle.place_core.specs.page.Events.{LexEvent}
use Rattle.place_core.specs.page.Plain.{settled_state}
use Rattle.place_core.specs.page.States.{BeforeAttributeValue, Config, LexState, config}
use Rattle.place_core.specs.page.Tags.{OfKind, OfStyle, OfUrl, Quoting, StatesAlike, Tag, Unquoted, Value, ValueOf, ValueState, languages, OfScript}
use Rattle.place_core.specs.place.StatePlaces.{quotes_at}
use Rattle.place_core.specs.declared.kind.Kind.TheVariants as kind
use Rattle.san_css.proofs.WrittenText.{HaveNoNul, string-no-nul, string-utf8, value-no-nul, value-utf8}
use Rattle.san_html.proofs.UnquotedValues.{unquoted-back}
use Rattle.san_html.specs.ReadBack.{in_value, read_as_text, read_value}
use Rattle.san_url.proofs.WrittenAscii.{utf8-bytes, written-own, written-utf8}
use Rattle.text_norm.specs.HoleLaws.{IsBackByLast, IsBackInLanguage}
use Rattle.text_norm.specs.Standing.{TextStands}
use Rattle.url_lexer.specs.Back.{ReadsBack}
use Rattle.url_lexer.specs.Parts.{UrlPart}
use Rattle.url_lexer.specs.Refusals.{refuses_hole_in}
use Rattle.url_lexer.specs.Sanitizers.{written_in}
use Rattle.url_lexer.specs.States.{Url}

-- the laws of styles and of scripts on what is written of a value there
pub record WrittenInLanguages : Type 0 where
  pub code : ValuesReadBackInCode urls
  pub strings : StringsReadBack urls
  pub stay : ValuesStayInUrls urls
  pub scripts : WrittenInScripts

-- characters without NUL are read as they are
as-they-are : (bs : List ℕ) → HaveNoNul bs → read_as_text bs ≡ bs
as-they-are [] h = refl
as-they-are (b ∷ bs) h = rw (h.0, as-they-are bs h.1) refl

-- what is promised: in code, in a string, and of a value in a comment, which is dropped
pub in-code : WrittenInLanguages → (q : Quoting) (text : List ℕ) → IsUtf8 text
    → IsBackInLanguage (IsBackInCode urls text) (last_of (quotes_at q)) (last_bytes q (css_value text))
in-code laws q text u = record {
  characters = css_value text;
  there = laws.code text;
  as_they_are = as-they-are (css_value text) (value-no-nul text);
  written = by-last q (css_value text) (value-utf8 text u);
}

pub in-string : WrittenInLanguages → (q : Quoting) (text : List ℕ) → IsUtf8 text
    → IsBackInLanguage (IsBackInString urls text) (last_of (quotes_at q)) (last_bytes q (css_string text))
in-string laws q text u = record {
  characters = css_string text;
  there = laws.strings text;
  as_they_are = as-they-are (css_string text) (string-no-nul text);
  written = by-last q (css_string text) (string-utf8 text u);
}

pub dropped-back : (q : Quoting) → IsBackByLast (last_of (quotes_at q)) [] (last_bytes q [])
dropped-back q = by-last q [] IsUtf8-nil

-- A `/` that is pending before a hole is told, and the page is in code still.
settled-reads : (s : Outside) (text characters : List ℕ) → ReadsBackOutside s text characters → ReadsBackOutside (out_settled s) text characters
settled-reads (Between k) text characters b = b
settled-reads AfterLessThan text characters b = b
settled-reads (Word w e) text characters b = b
settled-reads (AfterSolidus k) text characters b = b
settled-reads (Comment star) text characters b = b
settled-reads (InString q e) text characters b = b
settled-reads BadUrl text characters b = b
settled-reads (BehindHole solidus less) text characters b = b
settled-reads (SplitWord e) text characters b = b
settled-reads (SolidusAtCut k) text characters b = b
settled-reads LessThanAtCut text characters b = b
settled-reads StarAtCut text characters b = b

-- A page that stands for a path is in code, in a string or in a comment where the path is, and in the same part of a URL. So characters that read
-- back where the path is read back where the page is.
page-reads : (s r : Outside) (text characters : List ℕ) → AreAlikeOutside s r → ReadsBackOutside s text characters
    → ReadsBackOutside (out_settled r) text characters
page-reads s r text characters (the_same _ o) b = settled-reads s text characters b
page-reads s r text characters (hole_between solidus less) b = b
page-reads s r text characters (hole_less_than solidus less) b = b
page-reads s r text characters (hole_word solidus less w) b = b
page-reads s r text characters (split_word w e) b = b
page-reads s r text characters (cut_solidus k) b = b
page-reads s r text characters cut_less_than b = b
page-reads s r text characters (cut_star star) b = b

same-part : (u w : Url) (text characters : List ℕ) → urls.AreAlike u w → ReadsBack u.part text characters → ReadsBack w.part text characters
same-part u w text characters a b = subst (λ (p : UrlPart). ReadsBack p text characters) (sym a.part) b

pub style-reads : (v w : Style Url) (text characters : List ℕ) → StylesAlike urls v w → ReadsBackInStyle v text characters
    → ReadsBackInStyle (style_settled w) text characters
style-reads (Out s) (Out r) text characters (outside a) b = page-reads s r text characters a b
style-reads (InUrl f u) (InUrl g w) text characters (in_url h a) b = same-part u w text characters a b
style-reads (Out s) (InUrl g w) text characters a b = elim a [ ]
style-reads (InUrl f u) (Out r) text characters a b = elim a [ ]
style-reads (InUrl Bare u) (InUrl Fresh w) text characters (unbegun a) b = same-part u w text characters a b
style-reads (InUrl Ended u) (InUrl Fresh w) text characters (unbegun_ended a) b = same-part u w text characters a b

abbrev pub in_style : Quoting → Tag → Style Url → LexState ValueState
in_style q tag v = in_value q tag (ValueOf (OfStyle v))

-- such a page, and what is asked of the characters there
record IsInStyle (q : Quoting) (tag : Tag) (text characters : List ℕ) (d : Config ValueState) : Type 0 where
  style : Style Url
  there : d.at ≡ in_style q tag style
  reads : ReadsBackInStyle (style_settled style) text characters

in-style-by : (q : Quoting) (tag : Tag) (v : Style Url) (w : ValueState) (text characters : List ℕ) (t : List LexEvent) (d : Config ValueState)
    → StatesAlike (OfStyle v) w → d ≡ config (in_value q tag (ValueOf w)) t → ReadsBackInStyle v text characters
    → IsInStyle q tag text characters d
in-style-by q tag v (OfStyle r) text characters t d a e b =
    record { style = r; there = ap (λ (c : Config ValueState). c.at) e; reads = style-reads v r text characters a b }
in-style-by q tag v (OfKind k) text characters t d a e b = absurd a
in-style-by q tag v (OfUrl u) text characters t d a e b = absurd a
in-style-by q tag v (OfScript r) text characters t d a e b = absurd a

in-style : (q : Quoting) (tag : Tag) (v : Style Url) (text characters : List ℕ) (t : List LexEvent) (d : Config ValueState)
    → TextStands languages (in_style q tag v) t d → ReadsBackInStyle v text characters → IsInStyle q tag text characters d
in-style q tag v text characters t d l b = in-style-by q tag v l.there text characters t d l.alike l.stands b

-- characters without NUL, in a value that has begun: where they read back on the path, they do on each page that stands for it
pub style-back : (q : Quoting) (tag : Tag) (v : Style Url) (datum : Data) (characters : List ℕ) → IsUtf8 characters
    → read_as_text characters ≡ characters → ReadsBackInStyle v (printed datum) characters
    → (t : List LexEvent) (d : Config ValueState) → TextStands languages (in_style q tag v) t d
    → IsBack (settled_state languages d.at) datum (last_bytes q characters)
style-back q tag v datum characters utf8 own b t d l =
    let here = in-style q tag v (printed datum) characters t d l b in
    let style = style_settled here.style in
    let w : Value ValueState = ValueOf (OfStyle style) in
    let back : IsStyleBack q tag style (in_value q tag w) (printed datum) (last_bytes q characters) = record {
      characters = characters;
      goes_on = last-reads q tag w characters (last_bytes q characters) (by-last q characters utf8)
          ∙ ap (λ (xs : List ℕ). read_value q tag w xs []) (url-text q characters own);
      reads = here.reads;
    } in
    subst (λ (s : LexState ValueState). IsBack (settled_state languages s) datum (last_bytes q characters)) (sym here.there) back

-- what is written in code, in a string, in a comment, and in a URL
pub code-back : (q : Quoting) (tag : Tag) (s : Outside) (datum : Data) → IsUtf8 (printed datum)
    → ReadsBackOutside s (printed datum) (css_value (printed datum)) → (t : List LexEvent) (d : Config ValueState)
    → TextStands languages (in_style q tag (Out s)) t d → IsBack (settled_state languages d.at) datum (last_bytes q (css_value (printed datum)))
code-back q tag s datum u b t d l =
    let text = printed datum in
    style-back q tag (Out s) datum (css_value text) (value-utf8 text u) (as-they-are (css_value text) (value-no-nul text)) b t d l

pub string-back : (q : Quoting) (tag : Tag) (s : Outside) (datum : Data) → IsUtf8 (printed datum)
    → ReadsBackOutside s (printed datum) (css_string (printed datum)) → (t : List LexEvent) (d : Config ValueState)
    → TextStands languages (in_style q tag (Out s)) t d → IsBack (settled_state languages d.at) datum (last_bytes q (css_string (printed datum)))
string-back q tag s datum u b t d l =
    let text = printed datum in
    style-back q tag (Out s) datum (css_string text) (string-utf8 text u) (as-they-are (css_string text) (string-no-nul text)) b t d l

pub comment-back : (q : Quoting) (tag : Tag) (s : Outside) (datum : Data) → ReadsBackOutside s (printed datum) []
    → (t : List LexEvent) (d : Config ValueState) → TextStands languages (in_style q tag (Out s)) t d
    → IsBack (settled_state languages d.at) datum (last_bytes q [])
comment-back q tag s datum b t d l = style-back q tag (Out s) datum [] IsUtf8-nil refl b t d l

pub style-url-back : (p : UrlPart) (q : Quoting) (tag : Tag) (f : UrlForm) (u : Url) (datum : Data) → u.part ≡ p → IsUtf8 (printed datum)
    → refuses_hole_in p ≡ None → (t : List LexEvent) (d : Config ValueState) → TextStands languages (in_style q tag (InUrl f u)) t d
    → IsBack (settled_state languages d.at) datum (last_bytes q (written_in p (printed datum)))
style-url-back p q tag f u datum is utf8 h t d l =
    let text = printed datum in
    let characters = written_in p text in
    let own = own-text characters (written-own p text (utf8-bytes text utf8)) in
    let reads = subst (λ (r : UrlPart). ReadsBack r text characters) (sym is) (part-back p text utf8 h).reads in
    style-back q tag (InUrl f u) datum characters (written-utf8 p text (utf8-bytes text utf8)) own reads t d l

-- and where a value without quotes is to begin
pub unbegun-style-back : (tag : Tag) (text : List ℕ) → IsUtf8 text
    → IsStyleBack Unquoted tag style_start (BeforeAttributeValue tag kind.Style) text (last_bytes Unquoted (css_value text))
unbegun-style-back tag text u =
    let characters = css_value text in
    let own = as-they-are characters (value-no-nul text) in
    let written = unquoted-back characters (value-utf8 text u) in
    record {
      characters = characters;
      goes_on = written.reads_unbegun tag kind.Style []
          ∙ ap (λ (xs : List ℕ). read_value Unquoted tag (ValueOf (OfStyle style_start)) xs []) (url-text Unquoted characters own);
      reads = refl;
    }
