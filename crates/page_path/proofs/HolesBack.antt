-- Wherever a hole may stand on a path, its sanitizer keeps what it promises there, and what it writes reads back.
use Rattle.std.proofs.Common.{◌≡◌, ℕ, List, [], Bool, true, false, Option, Some, None, option_map, if◌then◌else◌, Ok, Err, refl, sym, ap, subst, IsUtf8}
use Rattle.std.proofs.lemmas.Bool.{and_parts}
use Rattle.html_step.proofs.HoleOrder.{covers-hole}
use Rattle.html_step.specs.Holes.{Holed, after_hole, all_of, both_of, last_of, only}
use Rattle.js_lexer.specs.Spots.{BlockSpot, CodeSpot, LineSpot, RegexpSpot, Spot, StringSpot, script_spot}
use Rattle.js_lexer.specs.States.{ScriptState}
use Rattle.page_datum.specs.Data.{Data}
use Rattle.page_datum.specs.Printed.{printed}
use Rattle.page_path.specs.Pages.{chain_bytes}
use Rattle.page_path.specs.Soundness.{IsBack, IsNameBack, ReadsBackOutside}
use Rattle.page_path.specs.Textual.{IsTextBy}
use Rattle.page_path.proofs.ElementBack.{in_style_element}
use Rattle.page_path.proofs.ElementBack as elements
use Rattle.page_path.proofs.StyleBack.{WrittenInLanguages, code-back, comment-back, dropped-back, in_style, string-back, style-url-back, unbegun-style-back}
use Rattle.page_path.proofs.StyleBack as styles
use Rattle.page_path.proofs.ScriptBack.{IsHere, in_script, spot-here}
use Rattle.page_path.proofs.ScriptBack as scripts
use Rattle.page_path.proofs.ScriptElementBack.{in_script_element}
use Rattle.page_path.proofs.ScriptElementBack as script-elements
use Rattle.page_path.proofs.UrlBack.{in-url, part-back, quoted-back, unbegun-back, url-back}
use Rattle.place_core.specs.page.Events.{LexEvent}
use Rattle.place_core.specs.place.Membership.{IsIn}
use Rattle.place_core.specs.page.Plain.{settled_state}
use Rattle.place_core.specs.place.Places.{IsValid}
use Rattle.place_core.specs.page.References.{Closed, Reference}
use Rattle.place_core.specs.place.ScriptParts.{script_may_begin_text, script_place}
use Rattle.place_core.specs.place.StatePlaces.{content_spot, language_place, only_after, only_inside, placed, tag_spot, quotes_at, value_body, value_spot, where_closed}
use Rattle.place_core.specs.place.StyleParts.{style_body, style_css, style_place}
use Rattle.place_core.specs.place.UrlParts.{parts_of}
use Rattle.css_lexer.specs.Escapes.{AfterBackslash, AfterReturn, HexDigits, NoEscape}
use Rattle.css_lexer.specs.PartSpots.{has_read_nothing, is_at_start}
use Rattle.css_lexer.specs.Sanitizers.{css_value}
use Rattle.css_lexer.specs.Spots.{QuotedUrlSpot, UrlSpot}
use Rattle.css_lexer.specs.States.{Quote, DoubleQuote, SingleQuote, Outside, Between, AfterLessThan, Word, AfterSolidus, Comment, InString, BadUrl, BehindHole, SplitWord, SolidusAtCut, LessThanAtCut, StarAtCut, UrlForm, Fresh, Bare, Quoted, Ended, Style, Out, InUrl}
use Rattle.place_core.specs.page.States.{AfterAttributeName, AfterAttributeValue, AttributeValue, BeforeAttributeName, BeforeAttributeValue, Broken, Bytes, Characters, Config, Content, Pending, InComment, InContent, InLanguage, Inside, LessAtCut, Nothing, SelfClosingStartTag, LexState, Text, WholeAttributeName}
use Rattle.place_core.specs.page.Tags.{DoubleQuoted, Quoting, SingleQuoted, Tag, Unquoted, Value, ValueOf, ValueState, OfKind, OfStyle, OfUrl, is_second_type, languages, without_value, OfScript}
use Rattle.place_core.specs.declared.body.Body.{Body}
use Rattle.place_core.specs.declared.body.Body.TheVariants as body
use Rattle.place_core.specs.declared.chain.Chain.{Chain}
use Rattle.place_core.specs.declared.css.Css.TheVariants as css
use Rattle.place_core.specs.declared.element.Element.{Element}
use Rattle.place_core.specs.declared.element.Element.TheVariants as element
use Rattle.place_core.specs.declared.kind.Kind.{Kind}
use Rattle.place_core.specs.declared.kind.Kind.TheVariants as kind
use Rattle.place_core.specs.declared.place.Place.{Place}
use Rattle.place_core.specs.declared.place.Place.TheVariants as place
use Rattle.place_core.specs.declared.san.San.TheVariants as san
use Rattle.san_html.proofs.EscapedText.{back-in-block, back-in-rcdata, back-in-text}
use Rattle.san_html.proofs.Names.{tag-back}
use Rattle.san_html.proofs.Results.{for-text}
use Rattle.san_html.proofs.UnquotedValues.{unquoted-back}
use Rattle.san_html.specs.ReadBack.{BeginsName, IsBackInBlock, IsBackInRcdata, IsBackInText, in_block, in_rcdata, in_value}
use Rattle.san_html.specs.Sanitizers.{attr_name, html, html_rows}
use Rattle.san_url.specs.Back.{IsBackInPart}
use Rattle.text_norm.proofs.Emits.{same-state}
use Rattle.text_norm.proofs.StyleElementHoles.{IsLoose}
use Rattle.text_norm.specs.HoleLaws.{IsBackBy, IsBackInBeginning, leaves_out}
use Rattle.text_norm.specs.Standing.{TextStands}
use Rattle.text_norm.specs.StandsLaws.{holds_nothing}
use Rattle.url_lexer.specs.Parts.{UrlPart, UrlStart, UrlOpen, UrlOpenhole, UrlPrequery, UrlQuery, UrlBad}
use Rattle.url_lexer.specs.Prefixes.{Prefix}
use Rattle.url_lexer.specs.Refusals.{refuses_hole_in}
use Rattle.url_lexer.specs.Sanitizers.{url_open}
use Rattle.url_lexer.specs.Spots.{where_whole}
use Rattle.url_lexer.specs.States.{Url}
use Rattle.url_lexer.specs.Triples.{Triple, NoTriple, AfterPercent, AfterDigit}

-- Bytes read back as a datum on each page that stands for the path, where what its value has pending back is settled. In a comment there are none.
abbrev pub BackUnless : Bool → LexState ValueState → Data → List ℕ → Type 0
BackUnless true s datum bytes = Unit {0}
BackUnless false s datum bytes =
    (t : List LexEvent) (d : Config ValueState) → TextStands languages s t d → IsBack (settled_state languages d.at) datum bytes

-- where nothing is pending back from the page it is in the path's state
same-back : (s : LexState ValueState) (datum : Data) (bytes : List ℕ) → holds_nothing s ≡ true → IsBack (settled_state languages s) datum bytes
    → BackUnless false s datum bytes
same-back s datum bytes free back t d l =
    subst (λ (z : LexState ValueState). IsBack (settled_state languages z) datum bytes)
    (sym (ap (λ (c : Config ValueState). c.at) (same-state s t d free l))) back

abbrev pub BackIn : Chain → LexState ValueState → Data → List ℕ → Type 0
BackIn c s datum bytes = BackUnless (leaves_out c) s datum bytes

-- a chain keeps what it promises, and what it writes reads back, by the laws of styles and of scripts
pub record IsSafe (c : Chain) (s : LexState ValueState) : Type 0 where
  pub promised : WrittenInLanguages → (datum : Data) → IsTextBy c datum → IsBackBy c datum (chain_bytes c datum)
  pub back : WrittenInLanguages → (datum : Data) → IsTextBy c datum → BackIn c s datum (chain_bytes c datum)

abbrev SafeBy : LexState ValueState → Holed → Type 0
SafeBy s (Ok h) = IsSafe h.1 s
SafeBy s (Err e) = Unit {0}

abbrev SafeAt : LexState ValueState → Option Place → Type 0
SafeAt s (Some p) = SafeBy s (after_hole p)
SafeAt s None = Unit {0}

-- each sanitizer in its states
text-back : (text : List ℕ) → IsUtf8 text → IsBackInText text (html text)
text-back text u = for-text IsBackInText html_rows back-in-text text u

rcdata-back : (text : List ℕ) → IsUtf8 text → IsBackInRcdata text (html text)
rcdata-back text u = for-text IsBackInRcdata html_rows back-in-rcdata text u

block-back : (text : List ℕ) → IsUtf8 text → IsBackInBlock text (html text)
block-back text u = for-text IsBackInBlock html_rows back-in-block text u

html-back : (text : List ℕ) → IsUtf8 text → IsBackInText text (html text) × IsBackInRcdata text (html text) × IsBackInBlock text (html text)
html-back text u = (text-back text u, rcdata-back text u, block-back text u)

in-text : IsSafe (only san.Html) (Text Closed)
in-text = record {
  promised = λ laws datum u. html-back (printed datum) u;
  back = λ laws datum u. same-back (Text Closed) datum _ refl ((text-back (printed datum) u).reads []);
}

in-content : (e : Element) → IsSafe (only san.Html) (in_rcdata e)
in-content e = record {
  promised = λ laws datum u. html-back (printed datum) u;
  back = λ laws datum u. same-back (in_rcdata e) datum _ refl ((rcdata-back (printed datum) u).reads e []);
}

in-block : IsSafe (only san.Html) in_block
in-block = record {
  promised = λ laws datum u. html-back (printed datum) u;
  back = λ laws datum u. same-back in_block datum _ refl (block-back (printed datum) u).undoes;
}

-- in a comment, of HTML or of a style or a script in its element, the value is left out
in-comment : (s : LexState ValueState) → IsSafe (only san.Drop) s
in-comment s = record { promised = λ laws datum u. refl; back = λ laws datum u. tt }

abbrev of_plain : Value ValueState
of_plain = ValueOf (OfKind kind.Plain)

in-double : (tag : Tag) → IsSafe (only san.Attr) (in_value DoubleQuoted tag of_plain)
in-double tag = record {
  promised = λ laws datum u. quoted-back (printed datum) u;
  back = λ laws datum u. same-back (in_value DoubleQuoted tag of_plain) datum _ refl ((quoted-back (printed datum) u).reads DoubleQuoted tag of_plain [] refl);
}

in-single : (tag : Tag) → IsSafe (only san.Attr) (in_value SingleQuoted tag of_plain)
in-single tag = record {
  promised = λ laws datum u. quoted-back (printed datum) u;
  back = λ laws datum u. same-back (in_value SingleQuoted tag of_plain) datum _ refl ((quoted-back (printed datum) u).reads SingleQuoted tag of_plain [] refl);
}

in-unquoted : (tag : Tag) → IsSafe (only san.AttrNospace) (in_value Unquoted tag of_plain)
in-unquoted tag = record {
  promised = λ laws datum u. unquoted-back (printed datum) u;
  back = λ laws datum u. same-back (in_value Unquoted tag of_plain) datum _ refl ((unquoted-back (printed datum) u).reads tag of_plain []);
}

before-value : (tag : Tag) → IsSafe (only san.AttrNospace) (BeforeAttributeValue tag kind.Plain)
before-value tag = record {
  promised = λ laws datum u. unquoted-back (printed datum) u;
  back = λ laws datum u. same-back (BeforeAttributeValue tag kind.Plain) datum _ refl ((unquoted-back (printed datum) u).reads_unbegun tag kind.Plain []);
}

before-name : (s : LexState ValueState) (tag : Tag) → BeginsName s tag → holds_nothing s ≡ true
    → ((datum : Data) (bytes : List ℕ) → IsNameBack tag s (printed datum) bytes → IsBack (settled_state languages s) datum bytes)
    → IsSafe (only san.AttrName) s
before-name s tag begins free same = record {
  promised = λ laws datum u. tag-back (printed datum);
  back = λ laws datum u. same-back s datum _ free (same datum (attr_name (printed datum)) ((tag-back (printed datum)).reads s tag [] begins));
}

-- In a URL, by its part; behind a scheme that is code no hole is accepted, and inside a percent triple there is no place
in-url-start : (q : Quoting) (tag : Tag) (u : Url) → u.part ≡ UrlStart
    → IsSafe (all_of san.UrlFilter san.UrlNorm (last_of (quotes_at q))) (in_value q tag (ValueOf (OfUrl u)))
in-url-start q tag u is = record {
  promised = λ laws datum utf8. in-url laws.stay UrlStart (IsBackInPart UrlStart (printed datum)) q (printed datum) utf8
      (part-back UrlStart (printed datum) utf8 refl);
  back = λ laws datum utf8 t d l. url-back UrlStart q tag u datum is utf8 refl t d l;
}

in-beginning : (text : List ℕ) → IsUtf8 text → IsBackInBeginning text (url_open text)
in-beginning text utf8 = record {
  in_open = λ spelled. part-back (UrlOpen spelled) text utf8 refl;
  in_openhole = part-back UrlOpenhole text utf8 refl;
}

in-url-open : (spelled : Prefix) (q : Quoting) (tag : Tag) (u : Url) → u.part ≡ UrlOpen spelled
    → IsSafe (both_of san.UrlOpen (last_of (quotes_at q))) (in_value q tag (ValueOf (OfUrl u)))
in-url-open spelled q tag u is = record {
  promised = λ laws datum utf8. in-url laws.stay UrlOpenhole (IsBackInBeginning (printed datum)) q (printed datum) utf8
      (in-beginning (printed datum) utf8);
  back = λ laws datum utf8 t d l. url-back (UrlOpen spelled) q tag u datum is utf8 refl t d l;
}

in-url-openhole : (q : Quoting) (tag : Tag) (u : Url) → u.part ≡ UrlOpenhole
    → IsSafe (both_of san.UrlOpen (last_of (quotes_at q))) (in_value q tag (ValueOf (OfUrl u)))
in-url-openhole q tag u is = record {
  promised = λ laws datum utf8. in-url laws.stay UrlOpenhole (IsBackInBeginning (printed datum)) q (printed datum) utf8
      (in-beginning (printed datum) utf8);
  back = λ laws datum utf8 t d l. url-back UrlOpenhole q tag u datum is utf8 refl t d l;
}

in-url-prequery : (q : Quoting) (tag : Tag) (u : Url) → u.part ≡ UrlPrequery
    → IsSafe (both_of san.UrlNorm (last_of (quotes_at q))) (in_value q tag (ValueOf (OfUrl u)))
in-url-prequery q tag u is = record {
  promised = λ laws datum utf8. in-url laws.stay UrlPrequery (IsBackInPart UrlPrequery (printed datum)) q (printed datum) utf8
      (part-back UrlPrequery (printed datum) utf8 refl);
  back = λ laws datum utf8 t d l. url-back UrlPrequery q tag u datum is utf8 refl t d l;
}

in-url-query : (q : Quoting) (tag : Tag) (u : Url) → u.part ≡ UrlQuery
    → IsSafe (both_of san.UrlQuery (last_of (quotes_at q))) (in_value q tag (ValueOf (OfUrl u)))
in-url-query q tag u is = record {
  promised = λ laws datum utf8. in-url laws.stay UrlQuery (IsBackInPart UrlQuery (printed datum)) q (printed datum) utf8
      (part-back UrlQuery (printed datum) utf8 refl);
  back = λ laws datum utf8 t d l. url-back UrlQuery q tag u datum is utf8 refl t d l;
}

before-url : (tag : Tag) → IsSafe (all_of san.UrlFilter san.UrlNorm san.AttrNospace) (BeforeAttributeValue tag kind.Url)
before-url tag = record {
  promised = λ laws datum utf8. in-url laws.stay UrlStart (IsBackInPart UrlStart (printed datum)) Unquoted (printed datum) utf8
      (part-back UrlStart (printed datum) utf8 refl);
  back = λ laws datum utf8. same-back (BeforeAttributeValue tag kind.Url) datum _ refl (unbegun-back tag (printed datum) utf8);
}

url-safe : (r : Triple) (p : UrlPart) (q : Quoting) (tag : Tag) (u : Url) → u.part ≡ p
    → SafeAt (in_value q tag (ValueOf (OfUrl u))) (value_spot tag (quotes_at q) (option_map (λ p. body.Url (parts_of p)) (where_whole r p)))
url-safe NoTriple UrlStart q tag u is = in-url-start q tag u is
url-safe NoTriple (UrlOpen spelled) q tag u is = in-url-open spelled q tag u is
url-safe NoTriple UrlOpenhole q tag u is = in-url-openhole q tag u is
url-safe NoTriple UrlPrequery q tag u is = in-url-prequery q tag u is
url-safe NoTriple UrlQuery q tag u is = in-url-query q tag u is
url-safe NoTriple UrlBad q tag u is = tt
url-safe AfterPercent p q tag u is = tt
url-safe AfterDigit p q tag u is = tt

-- In a style: in code, in a string, and in a comment, where the value is dropped and the last sanitizer writes for none.
in-code : (q : Quoting) (tag : Tag) (s : Outside)
    → ((text : List ℕ) → ReadsBackOutside s text (css_value text)) → IsSafe (both_of san.CssValue (last_of (quotes_at q))) (in_style q tag (Out s))
in-code q tag s reads = record {
  promised = λ laws datum utf8. styles.in-code laws q (printed datum) utf8;
  back = λ laws datum utf8 t d l. code-back q tag s datum utf8 (reads (printed datum)) t d l;
}

in-string : (q : Quoting) (tag : Tag) (quote : Quote)
    → IsSafe (both_of san.CssString (last_of (quotes_at q))) (in_style q tag (Out (InString quote NoEscape)))
in-string q tag quote = record {
  promised = λ laws datum utf8. styles.in-string laws q (printed datum) utf8;
  back = λ laws datum utf8 t d l. string-back q tag (InString quote NoEscape) datum utf8 (laws.strings (printed datum)).reads t d l;
}

in-style-comment : (q : Quoting) (tag : Tag) (s : Outside) → ((text : List ℕ) → ReadsBackOutside s text [])
    → IsSafe (both_of san.Drop (last_of (quotes_at q))) (in_style q tag (Out s))
in-style-comment q tag s reads = record {
  promised = λ laws datum u. dropped-back q;
  back = λ laws datum u t d l. comment-back q tag s datum (reads (printed datum)) t d l;
}

outside-safe : (s : Outside) (q : Quoting) (tag : Tag)
    → SafeAt (in_style q tag (Out s)) (value_spot tag (quotes_at q) (style_body (Out s)))
outside-safe (Between k) q tag = in-code q tag (Between k) (λ text. refl)
outside-safe AfterLessThan q tag = tt
outside-safe (Word w e) q tag = tt
outside-safe (AfterSolidus k) q tag = tt
outside-safe (Comment true) q tag = tt
outside-safe (Comment false) q tag = in-style-comment q tag (Comment false) (λ text. refl)
outside-safe (InString DoubleQuote NoEscape) q tag = in-string q tag DoubleQuote
outside-safe (InString SingleQuote NoEscape) q tag = in-string q tag SingleQuote
outside-safe (InString quote AfterBackslash) q tag = tt
outside-safe (InString quote (HexDigits n)) q tag = tt
outside-safe (InString quote AfterReturn) q tag = tt
outside-safe BadUrl q tag = tt
outside-safe (BehindHole solidus less) q tag = in-code q tag (BehindHole solidus less) (λ text. refl)
outside-safe (SplitWord NoEscape) q tag = in-code q tag (SplitWord NoEscape) (λ text. refl)
outside-safe (SplitWord AfterBackslash) q tag = tt
outside-safe (SplitWord (HexDigits n)) q tag = tt
outside-safe (SplitWord AfterReturn) q tag = tt
outside-safe (SolidusAtCut k) q tag = in-code q tag (SolidusAtCut k) (λ text. refl)
outside-safe LessThanAtCut q tag = in-code q tag LessThanAtCut (λ text. refl)
outside-safe StarAtCut q tag = in-style-comment q tag StarAtCut (λ text. refl)

-- in a URL of it, by the part: the chain of that part keeps the same promise as in any URL
in-style-start : (q : Quoting) (tag : Tag) (f : UrlForm) (u : Url) → u.part ≡ UrlStart
    → IsSafe (all_of san.UrlFilter san.UrlNorm (last_of (quotes_at q))) (in_style q tag (InUrl f u))
in-style-start q tag f u is = record {
  promised = (in-url-start q tag u is).promised;
  back = λ laws datum utf8 t d l. style-url-back UrlStart q tag f u datum is utf8 refl t d l;
}

in-style-open : (spelled : Prefix) (q : Quoting) (tag : Tag) (f : UrlForm) (u : Url) → u.part ≡ UrlOpen spelled
    → IsSafe (both_of san.UrlOpen (last_of (quotes_at q))) (in_style q tag (InUrl f u))
in-style-open spelled q tag f u is = record {
  promised = (in-url-open spelled q tag u is).promised;
  back = λ laws datum utf8 t d l. style-url-back (UrlOpen spelled) q tag f u datum is utf8 refl t d l;
}

in-style-openhole : (q : Quoting) (tag : Tag) (f : UrlForm) (u : Url) → u.part ≡ UrlOpenhole
    → IsSafe (both_of san.UrlOpen (last_of (quotes_at q))) (in_style q tag (InUrl f u))
in-style-openhole q tag f u is = record {
  promised = (in-url-openhole q tag u is).promised;
  back = λ laws datum utf8 t d l. style-url-back UrlOpenhole q tag f u datum is utf8 refl t d l;
}

in-style-prequery : (q : Quoting) (tag : Tag) (f : UrlForm) (u : Url) → u.part ≡ UrlPrequery
    → IsSafe (both_of san.UrlNorm (last_of (quotes_at q))) (in_style q tag (InUrl f u))
in-style-prequery q tag f u is = record {
  promised = (in-url-prequery q tag u is).promised;
  back = λ laws datum utf8 t d l. style-url-back UrlPrequery q tag f u datum is utf8 refl t d l;
}

in-style-query : (q : Quoting) (tag : Tag) (f : UrlForm) (u : Url) → u.part ≡ UrlQuery
    → IsSafe (both_of san.UrlQuery (last_of (quotes_at q))) (in_style q tag (InUrl f u))
in-style-query q tag f u is = record {
  promised = (in-url-query q tag u is).promised;
  back = λ laws datum utf8 t d l. style-url-back UrlQuery q tag f u datum is utf8 refl t d l;
}

-- behind `url(` nothing of the URL has been read
abbrev fresh_spot : Bool → Option Body
fresh_spot begins = if begins then Some (body.Css css.UrlFresh) else None

at-start : (p : UrlPart) → is_at_start p ≡ true → p ≡ UrlStart
at-start UrlStart e = refl
at-start p e = cc

fresh-safe : (begins : Bool) (q : Quoting) (tag : Tag) (u : Url) → has_read_nothing u ≡ begins
    → SafeAt (in_style q tag (InUrl Fresh u)) (value_spot tag (quotes_at q) (fresh_spot begins))
fresh-safe true q tag u e = in-style-start q tag Fresh u (at-start u.part (and_parts (is_at_start u.part) _ e).0)
fresh-safe false q tag u e = tt

-- in a URL without quotes, and in quotes, where no escape is open
bare-safe : (r : Triple) (p : UrlPart) (q : Quoting) (tag : Tag) (u : Url) → u.part ≡ p
    → SafeAt (in_style q tag (InUrl Bare u))
    (value_spot tag (quotes_at q) (option_map (λ s. body.Css (style_place s)) (option_map UrlSpot (where_whole r p))))
bare-safe NoTriple UrlStart q tag u is = in-style-start q tag Bare u is
bare-safe NoTriple (UrlOpen spelled) q tag u is = in-style-open spelled q tag Bare u is
bare-safe NoTriple UrlOpenhole q tag u is = in-style-openhole q tag Bare u is
bare-safe NoTriple UrlPrequery q tag u is = in-style-prequery q tag Bare u is
bare-safe NoTriple UrlQuery q tag u is = in-style-query q tag Bare u is
bare-safe NoTriple UrlBad q tag u is = tt
bare-safe AfterPercent p q tag u is = tt
bare-safe AfterDigit p q tag u is = tt

quoted-safe : (quote : Quote) (r : Triple) (p : UrlPart) (q : Quoting) (tag : Tag) (u : Url) → u.part ≡ p
    → SafeAt (in_style q tag (InUrl (Quoted quote NoEscape) u))
    (value_spot tag (quotes_at q) (option_map (λ s. body.Css (style_place s)) (option_map (QuotedUrlSpot quote) (where_whole r p))))
quoted-safe DoubleQuote NoTriple UrlStart q tag u is = in-style-start q tag (Quoted DoubleQuote NoEscape) u is
quoted-safe DoubleQuote NoTriple (UrlOpen spelled) q tag u is = in-style-open spelled q tag (Quoted DoubleQuote NoEscape) u is
quoted-safe DoubleQuote NoTriple UrlOpenhole q tag u is = in-style-openhole q tag (Quoted DoubleQuote NoEscape) u is
quoted-safe DoubleQuote NoTriple UrlPrequery q tag u is = in-style-prequery q tag (Quoted DoubleQuote NoEscape) u is
quoted-safe DoubleQuote NoTriple UrlQuery q tag u is = in-style-query q tag (Quoted DoubleQuote NoEscape) u is
quoted-safe DoubleQuote NoTriple UrlBad q tag u is = tt
quoted-safe SingleQuote NoTriple UrlStart q tag u is = in-style-start q tag (Quoted SingleQuote NoEscape) u is
quoted-safe SingleQuote NoTriple (UrlOpen spelled) q tag u is = in-style-open spelled q tag (Quoted SingleQuote NoEscape) u is
quoted-safe SingleQuote NoTriple UrlOpenhole q tag u is = in-style-openhole q tag (Quoted SingleQuote NoEscape) u is
quoted-safe SingleQuote NoTriple UrlPrequery q tag u is = in-style-prequery q tag (Quoted SingleQuote NoEscape) u is
quoted-safe SingleQuote NoTriple UrlQuery q tag u is = in-style-query q tag (Quoted SingleQuote NoEscape) u is
quoted-safe SingleQuote NoTriple UrlBad q tag u is = tt
quoted-safe quote AfterPercent p q tag u is = tt
quoted-safe quote AfterDigit p q tag u is = tt

style-safe : (v : Style Url) (q : Quoting) (tag : Tag) → SafeAt (in_style q tag v) (value_spot tag (quotes_at q) (style_body v))
style-safe (Out s) q tag = outside-safe s q tag
style-safe (InUrl Fresh u) q tag = fresh-safe (has_read_nothing u) q tag u refl
style-safe (InUrl Bare u) q tag = bare-safe u.triple u.part q tag u refl
style-safe (InUrl (Quoted quote NoEscape) u) q tag = quoted-safe quote u.triple u.part q tag u refl
style-safe (InUrl (Quoted quote AfterBackslash) u) q tag = tt
style-safe (InUrl (Quoted quote (HexDigits n)) u) q tag = tt
style-safe (InUrl (Quoted quote AfterReturn) u) q tag = tt
style-safe (InUrl Ended u) q tag = tt

before-style : (tag : Tag) → IsSafe (both_of san.CssValue san.AttrNospace) (BeforeAttributeValue tag kind.Style)
before-style tag = record {
  promised = λ laws datum utf8. styles.in-code laws Unquoted (printed datum) utf8;
  back = λ laws datum utf8. same-back (BeforeAttributeValue tag kind.Style) datum _ refl (unbegun-style-back tag (printed datum) utf8);
}

-- In a script: in code, in a string, in a regular expression, and in a comment, where the value is dropped as in one of a style.
in-script-code : (q : Quoting) (tag : Tag) (s : ScriptState) → IsHere san.JsValue s
    → IsSafe (both_of san.JsValue (last_of (quotes_at q))) (in_script q tag s)
in-script-code q tag s here = record {
  promised = λ laws datum u. scripts.in-code laws.scripts q datum u;
  back = λ laws datum u t d l. scripts.code-back laws.scripts q tag s here datum u t d l;
}

in-script-string : (q : Quoting) (tag : Tag) (s : ScriptState) → IsHere san.JsString s
    → IsSafe (both_of san.JsString (last_of (quotes_at q))) (in_script q tag s)
in-script-string q tag s here = record {
  promised = λ laws datum utf8. scripts.in-string laws.scripts q (printed datum) utf8;
  back = λ laws datum utf8 t d l. scripts.string-back laws.scripts q tag s here datum utf8 t d l;
}

in-script-regexp : (q : Quoting) (tag : Tag) (s : ScriptState) → IsHere san.JsRegexp s
    → IsSafe (both_of san.JsRegexp (last_of (quotes_at q))) (in_script q tag s)
in-script-regexp q tag s here = record {
  promised = λ laws datum utf8. scripts.in-regexp laws.scripts q (printed datum) utf8;
  back = λ laws datum utf8 t d l. scripts.regexp-back laws.scripts q tag s here datum utf8 t d l;
}

in-script-comment : (q : Quoting) (tag : Tag) (s : ScriptState) → IsHere san.Drop s
    → IsSafe (both_of san.Drop (last_of (quotes_at q))) (in_script q tag s)
in-script-comment q tag s here = record {
  promised = λ laws datum u. dropped-back q;
  back = λ laws datum u t d l. scripts.comment-back laws.scripts q tag s here datum t d l;
}

script-spot-safe : (p : Spot) (q : Quoting) (tag : Tag) (s : ScriptState) → script_spot s ≡ Some p
    → SafeAt (in_script q tag s) (value_spot tag (quotes_at q) (Some (body.Js (script_place p))))
script-spot-safe (CodeSpot x tail) q tag s e = in-script-code q tag s (spot-here s (CodeSpot x tail) e)
script-spot-safe (StringSpot true) q tag s e = in-script-string q tag s (spot-here s (StringSpot true) e)
script-spot-safe (StringSpot false) q tag s e = in-script-string q tag s (spot-here s (StringSpot false) e)
script-spot-safe (RegexpSpot slash) q tag s e = in-script-regexp q tag s (spot-here s (RegexpSpot slash) e)
script-spot-safe (LineSpot x) q tag s e = in-script-comment q tag s (spot-here s (LineSpot x) e)
script-spot-safe (BlockSpot x star) q tag s e = in-script-comment q tag s (spot-here s (BlockSpot x star) e)

script-safe : (begins : Bool) (o : Option Spot) (q : Quoting) (tag : Tag) (s : ScriptState) → script_spot s ≡ o
    → SafeAt (in_script q tag s) (value_spot tag (quotes_at q) (option_map body.Js (if begins then option_map script_place o else None)))
script-safe true (Some p) q tag s e = script-spot-safe p q tag s e
script-safe true None q tag s e = tt
script-safe false o q tag s e = tt

before-script : (tag : Tag) → IsSafe (both_of san.JsValue san.AttrNospace) (BeforeAttributeValue tag kind.Script)
before-script tag = record {
  promised = λ laws datum u. scripts.in-code laws.scripts Unquoted datum u;
  back = λ laws datum u. same-back (BeforeAttributeValue tag kind.Script) datum _ refl (scripts.unbegun-script-back laws.scripts tag datum u);
}

value-safe : (r : Reference) (v : Value ValueState) (q : Quoting) (tag : Tag)
    → SafeAt (AttributeValue q tag v r) (where_closed r (value_spot tag (quotes_at q) (value_body v)))
value-safe Closed (ValueOf (OfKind kind.Plain)) DoubleQuoted tag = in-double tag
value-safe Closed (ValueOf (OfKind kind.Plain)) SingleQuoted tag = in-single tag
value-safe Closed (ValueOf (OfKind kind.Plain)) Unquoted tag = in-unquoted tag
value-safe Closed (ValueOf (OfUrl u)) q tag = url-safe u.triple u.part q tag u refl
value-safe Closed (ValueOf (OfStyle v)) q tag = style-safe v q tag
value-safe Closed (ValueOf (OfScript s)) q tag = script-safe (script_may_begin_text s) (script_spot s) q tag s refl
value-safe _ _ _ tag = tt

-- In the element of a style: in code, in a string, and in a URL, by its part.
element-code : (s : Outside) → IsLoose (Out s) → ((text : List ℕ) → ReadsBackOutside s text (css_value text))
    → IsSafe (only san.CssValue) (in_style_element (Out s))
element-code s o reads = record {
  promised = λ laws datum utf8. elements.in-code laws (printed datum);
  back = λ laws datum utf8 t d l. elements.code-back s datum o (reads (printed datum)) t d l;
}

element-string : (quote : Quote) → IsSafe (only san.CssString) (in_style_element (Out (InString quote NoEscape)))
element-string quote = record {
  promised = λ laws datum utf8. elements.in-string laws (printed datum);
  back = λ laws datum utf8 t d l. elements.string-back (InString quote NoEscape) datum tt (laws.strings (printed datum)).reads t d l;
}

element-outside : (s : Outside) → SafeAt (in_style_element (Out s)) (option_map place.Style (style_css (Out s)))
element-outside (Between k) = element-code (Between k) tt (λ text. refl)
element-outside AfterLessThan = tt
element-outside (Word w e) = tt
element-outside (AfterSolidus k) = tt
element-outside (Comment true) = tt
element-outside (Comment false) = in-comment (in_style_element (Out (Comment false)))
element-outside (InString DoubleQuote NoEscape) = element-string DoubleQuote
element-outside (InString SingleQuote NoEscape) = element-string SingleQuote
element-outside (InString quote AfterBackslash) = tt
element-outside (InString quote (HexDigits n)) = tt
element-outside (InString quote AfterReturn) = tt
element-outside BadUrl = tt
element-outside (BehindHole solidus less) = element-code (BehindHole solidus less) tt (λ text. refl)
element-outside (SplitWord NoEscape) = element-code (SplitWord NoEscape) tt (λ text. refl)
element-outside (SplitWord AfterBackslash) = tt
element-outside (SplitWord (HexDigits n)) = tt
element-outside (SplitWord AfterReturn) = tt
element-outside (SolidusAtCut k) = element-code (SolidusAtCut k) tt (λ text. refl)
element-outside LessThanAtCut = element-code LessThanAtCut tt (λ text. refl)
element-outside StarAtCut = in-comment (in_style_element (Out StarAtCut))

abbrev part_chain : UrlPart → Chain
part_chain UrlStart = both_of san.UrlFilter san.UrlNorm
part_chain UrlPrequery = only san.UrlNorm
part_chain UrlQuery = only san.UrlQuery
part_chain p = only san.UrlOpen

element-url : (p : UrlPart) (f : UrlForm) (u : Url) → u.part ≡ p → refuses_hole_in p ≡ None
    → IsSafe (part_chain p) (in_style_element (InUrl f u))
element-url UrlStart f u is h = record {
  promised = λ laws datum utf8. elements.in-url laws UrlStart (IsBackInPart UrlStart (printed datum)) (printed datum) utf8
      (part-back UrlStart (printed datum) utf8 refl);
  back = λ laws datum utf8 t d l. elements.url-back UrlStart f u datum is utf8 refl t d l;
}
element-url (UrlOpen spelled) f u is h = record {
  promised = λ laws datum utf8. elements.in-url laws UrlOpenhole (IsBackInBeginning (printed datum)) (printed datum) utf8
      (in-beginning (printed datum) utf8);
  back = λ laws datum utf8 t d l. elements.url-back (UrlOpen spelled) f u datum is utf8 refl t d l;
}
element-url UrlOpenhole f u is h = record {
  promised = λ laws datum utf8. elements.in-url laws UrlOpenhole (IsBackInBeginning (printed datum)) (printed datum) utf8
      (in-beginning (printed datum) utf8);
  back = λ laws datum utf8 t d l. elements.url-back UrlOpenhole f u datum is utf8 refl t d l;
}
element-url UrlPrequery f u is h = record {
  promised = λ laws datum utf8. elements.in-url laws UrlPrequery (IsBackInPart UrlPrequery (printed datum)) (printed datum) utf8
      (part-back UrlPrequery (printed datum) utf8 refl);
  back = λ laws datum utf8 t d l. elements.url-back UrlPrequery f u datum is utf8 refl t d l;
}
element-url UrlQuery f u is h = record {
  promised = λ laws datum utf8. elements.in-url laws UrlQuery (IsBackInPart UrlQuery (printed datum)) (printed datum) utf8
      (part-back UrlQuery (printed datum) utf8 refl);
  back = λ laws datum utf8 t d l. elements.url-back UrlQuery f u datum is utf8 refl t d l;
}
element-url UrlBad f u is h = cc

element-fresh : (begins : Bool) (u : Url) → has_read_nothing u ≡ begins
    → SafeAt (in_style_element (InUrl Fresh u)) (option_map place.Style (if begins then Some css.UrlFresh else None))
element-fresh true u e = element-url UrlStart Fresh u (at-start u.part (and_parts (is_at_start u.part) _ e).0) refl
element-fresh false u e = tt

element-bare : (r : Triple) (p : UrlPart) (u : Url) → u.part ≡ p
    → SafeAt (in_style_element (InUrl Bare u)) (option_map place.Style (option_map style_place (option_map UrlSpot (where_whole r p))))
element-bare NoTriple UrlStart u is = element-url UrlStart Bare u is refl
element-bare NoTriple (UrlOpen spelled) u is = element-url (UrlOpen spelled) Bare u is refl
element-bare NoTriple UrlOpenhole u is = element-url UrlOpenhole Bare u is refl
element-bare NoTriple UrlPrequery u is = element-url UrlPrequery Bare u is refl
element-bare NoTriple UrlQuery u is = element-url UrlQuery Bare u is refl
element-bare NoTriple UrlBad u is = tt
element-bare AfterPercent p u is = tt
element-bare AfterDigit p u is = tt

element-quoted : (quote : Quote) (r : Triple) (p : UrlPart) (u : Url) → u.part ≡ p
    → SafeAt (in_style_element (InUrl (Quoted quote NoEscape) u))
    (option_map place.Style (option_map style_place (option_map (QuotedUrlSpot quote) (where_whole r p))))
element-quoted DoubleQuote NoTriple UrlStart u is = element-url UrlStart (Quoted DoubleQuote NoEscape) u is refl
element-quoted DoubleQuote NoTriple (UrlOpen spelled) u is = element-url (UrlOpen spelled) (Quoted DoubleQuote NoEscape) u is refl
element-quoted DoubleQuote NoTriple UrlOpenhole u is = element-url UrlOpenhole (Quoted DoubleQuote NoEscape) u is refl
element-quoted DoubleQuote NoTriple UrlPrequery u is = element-url UrlPrequery (Quoted DoubleQuote NoEscape) u is refl
element-quoted DoubleQuote NoTriple UrlQuery u is = element-url UrlQuery (Quoted DoubleQuote NoEscape) u is refl
element-quoted DoubleQuote NoTriple UrlBad u is = tt
element-quoted SingleQuote NoTriple UrlStart u is = element-url UrlStart (Quoted SingleQuote NoEscape) u is refl
element-quoted SingleQuote NoTriple (UrlOpen spelled) u is = element-url (UrlOpen spelled) (Quoted SingleQuote NoEscape) u is refl
element-quoted SingleQuote NoTriple UrlOpenhole u is = element-url UrlOpenhole (Quoted SingleQuote NoEscape) u is refl
element-quoted SingleQuote NoTriple UrlPrequery u is = element-url UrlPrequery (Quoted SingleQuote NoEscape) u is refl
element-quoted SingleQuote NoTriple UrlQuery u is = element-url UrlQuery (Quoted SingleQuote NoEscape) u is refl
element-quoted SingleQuote NoTriple UrlBad u is = tt
element-quoted quote AfterPercent p u is = tt
element-quoted quote AfterDigit p u is = tt

element-safe : (v : Style Url) → SafeAt (in_style_element v) (option_map place.Style (style_css v))
element-safe (Out s) = element-outside s
element-safe (InUrl Fresh u) = element-fresh (has_read_nothing u) u refl
element-safe (InUrl Bare u) = element-bare u.triple u.part u refl
element-safe (InUrl (Quoted quote NoEscape) u) = element-quoted quote u.triple u.part u refl
element-safe (InUrl (Quoted quote AfterBackslash) u) = tt
element-safe (InUrl (Quoted quote (HexDigits n)) u) = tt
element-safe (InUrl (Quoted quote AfterReturn) u) = tt
element-safe (InUrl Ended u) = tt

-- In the element of a script: in code, in a string, in a regular expression, and in a comment, where the value is dropped.
element-script-code : (s : ScriptState) → IsHere san.JsValue s → script_may_begin_text s ≡ true → IsSafe (only san.JsValue) (in_script_element s)
element-script-code s here m = record {
  promised = λ laws datum u. script-elements.in-code laws.scripts datum u;
  back = λ laws datum u t d l. script-elements.code-back laws.scripts s here m datum u t d l;
}

element-script-string : (s : ScriptState) → IsHere san.JsString s → script_may_begin_text s ≡ true → IsSafe (only san.JsString) (in_script_element s)
element-script-string s here m = record {
  promised = λ laws datum utf8. script-elements.in-string laws.scripts (printed datum);
  back = λ laws datum utf8 t d l. script-elements.string-back laws.scripts s here m datum utf8 t d l;
}

element-script-regexp : (s : ScriptState) → IsHere san.JsRegexp s → script_may_begin_text s ≡ true → IsSafe (only san.JsRegexp) (in_script_element s)
element-script-regexp s here m = record {
  promised = λ laws datum utf8. script-elements.in-regexp laws.scripts (printed datum);
  back = λ laws datum utf8 t d l. script-elements.regexp-back laws.scripts s here m datum utf8 t d l;
}

element-script-spot : (p : Spot) (s : ScriptState) → script_may_begin_text s ≡ true → script_spot s ≡ Some p
    → SafeAt (in_script_element s) (Some (place.Script (script_place p)))
element-script-spot (CodeSpot x tail) s m e = element-script-code s (spot-here s (CodeSpot x tail) e) m
element-script-spot (StringSpot true) s m e = element-script-string s (spot-here s (StringSpot true) e) m
element-script-spot (StringSpot false) s m e = element-script-string s (spot-here s (StringSpot false) e) m
element-script-spot (RegexpSpot slash) s m e = element-script-regexp s (spot-here s (RegexpSpot slash) e) m
element-script-spot (LineSpot x) s m e = in-comment (in_script_element s)
element-script-spot (BlockSpot x star) s m e = in-comment (in_script_element s)

script-element-safe : (begins : Bool) (o : Option Spot) (s : ScriptState) → script_may_begin_text s ≡ begins → script_spot s ≡ o
    → SafeAt (in_script_element s) (option_map place.Script (if begins then option_map script_place o else None))
script-element-safe true (Some p) s m e = element-script-spot p s m e
script-element-safe true None s m e = tt
script-element-safe false o s m e = tt

language-safe : (e : Element) (v : ValueState) → SafeAt (InContent e (InLanguage v) Nothing) (language_place e v)
language-safe element.Style (OfStyle v) = element-safe v
language-safe element.Script (OfScript s) = script-element-safe (script_may_begin_text s) (script_spot s) s refl refl
language-safe _ _ = tt

-- likewise in any content, and so wherever a hole is accepted
content-safe : (h : Pending) (x : Content ValueState) (e : Element) → SafeAt (InContent e x h) (content_spot h x e)
content-safe Nothing (Characters Closed) element.Title = in-content element.Title
content-safe Nothing (Characters Closed) element.Textarea = in-content element.Textarea
content-safe Nothing Bytes element.DataBlock = in-block
content-safe LessAtCut Bytes element.DataBlock = tt
content-safe Nothing (InLanguage v) e = language-safe e v
content-safe _ _ _ = tt

-- after a name, unless it is a second `type`, where a path is at no place
after-name-safe : (o : Bool) (tag : Tag) (k : Kind)
    → SafeAt (AfterAttributeName tag k) (if o then None else Some (place.Tag (tag_spot tag only_after (Some k))))
after-name-safe true tag k = tt
after-name-safe false tag k = before-name (AfterAttributeName tag k) (without_value tag k) refl refl (λ datum bytes h. h)

whole-name-safe : (o : Bool) (tag : Tag) (k : Kind)
    → SafeAt (WholeAttributeName tag k) (if o then None else Some (place.Tag (tag_spot tag only_inside (Some k))))
whole-name-safe true tag k = tt
whole-name-safe false tag k = tt

safe-at : (s : LexState ValueState) → SafeAt s (placed s)
safe-at (Text Closed) = in-text
safe-at (InComment Inside) = in-comment (InComment Inside)
safe-at (InComment Broken) = in-comment (InComment Broken)
safe-at (BeforeAttributeName tag) = before-name (BeforeAttributeName tag) tag refl refl (λ datum bytes h. h)
safe-at (AfterAttributeName tag k) = after-name-safe (is_second_type tag.typed k) tag k
safe-at (WholeAttributeName tag k) = whole-name-safe (is_second_type tag.typed k) tag k
safe-at (AfterAttributeValue tag) = before-name (AfterAttributeValue tag) tag refl refl (λ datum bytes h. h)
safe-at (SelfClosingStartTag tag) = before-name (SelfClosingStartTag tag) tag refl refl (λ datum bytes h. h)
safe-at (BeforeAttributeValue tag kind.Plain) = before-value tag
safe-at (BeforeAttributeValue tag kind.Url) = before-url tag
safe-at (BeforeAttributeValue tag kind.Style) = before-style tag
safe-at (BeforeAttributeValue tag kind.Script) = before-script tag
safe-at (AttributeValue q tag v r) = value-safe r v q tag
safe-at (InContent e x h) = content-safe h x e
safe-at _ = tt

-- a place that accepts a hole has such a chain, on each path for which it stands
pub is-safe : (p q : Place) (c : Chain) (s : LexState ValueState) → IsValid p → IsIn p s → after_hole p ≡ Ok (q, c) → IsSafe c s
is-safe p q c s v i accepted =
    let own = (covers-hole p q c s v i accepted).1 i.own i.stands in
    subst (SafeBy s) own.1 (subst (SafeAt s) i.stands (safe-at s))
