-- What a sanitizer promises of its bytes in the element of a style is what a hole there has to show.
use Rattle.std.proofs.Common.{◌≡◌, ℕ, ◌==◌, Bool, true, false, List, [], ◌∷◌, Option, Some, None, option_map, if◌then◌else◌, refl, sym, ap, ◌∙◌, subst, true≢false}
use Rattle.std.proofs.lemmas.Bool.{and_parts, eqb-true}
use Rattle.std.specs.List.{list_any}
use Rattle.css_lexer.specs.Alike.{StylesAlike, outside}
use Rattle.css_lexer.specs.Escapes.{NoEscape, AfterBackslash, HexDigits, AfterReturn}
use Rattle.css_lexer.specs.PartSpots.{has_read_nothing}
use Rattle.css_lexer.specs.Paths.{style_settled}
use Rattle.css_lexer.specs.ReadBack.{IsBackInCode, IsBackInString}
use Rattle.css_lexer.specs.Sanitizers.{is_forbidden, is_unsafe, style_failsafe}
use Rattle.css_lexer.specs.Unescaping.{style_escapes_undone}
use Rattle.css_lexer.specs.Spots.{QuotedUrlSpot, UrlSpot}
use Rattle.css_lexer.specs.States.{Quote, DoubleQuote, SingleQuote, Outside, Between, AfterLessThan, Word, AfterSolidus, Comment, InString, BadUrl, BehindHole, SplitWord, SolidusAtCut, LessThanAtCut, StarAtCut, UrlForm, Fresh, Bare, Quoted, Ended, Style, Out, InUrl}
use Rattle.css_lexer.specs.StaysInUrl.{StaysInUrl, UrlTakesHole}
use Rattle.css_lexer.specs.Urls.{urls}
use Rattle.css_step.specs.StyleChains.{style_sans}
use Rattle.css_step.specs.StyleScans.{style_hole_error}
use Rattle.page_datum.specs.Data.{Data}
use Rattle.page_datum.specs.Printed.{printed}
use Rattle.place_core.specs.page.Plain.{begins_with_solidus}
use Rattle.place_core.specs.declared.chain.Chain.{Chain}
use Rattle.place_core.specs.declared.css.Css.{Css}
use Rattle.place_core.specs.declared.css.Css.TheVariants as css
use Rattle.place_core.specs.place.StyleParts.{style_css, style_place}
use Rattle.place_core.specs.place.UrlParts.{parts_of}
use Rattle.san_url.specs.Back.{IsBackInPart}
use Rattle.text_norm.proofs.StyleElementHoles.{IsElementHole, IsLoose, both-false}
use Rattle.text_norm.proofs.StyleHoles.{IsCode, are-pages, at-start, given, in-code, in-string, in-urls, no-triple, none-refused, string-same}
use Rattle.text_norm.proofs.StyleWaits.{is_comment}
use Rattle.text_norm.proofs.UrlHoles.{refused}
use Rattle.text_norm.specs.HoleLaws.{IsBackBy, IsBackInElement, IsBackInElementUrl, is_less_than, leaves_out}
use Rattle.url_lexer.specs.Alike.{UrlsAlike}
use Rattle.url_lexer.specs.Parts.{UrlPart, UrlStart, UrlOpen, UrlOpenhole, UrlPrequery, UrlQuery, UrlBad}
use Rattle.url_lexer.specs.Plain.{IsPlainInUrl}
use Rattle.url_lexer.specs.Refusals.{refuses_hole_in}
use Rattle.url_lexer.specs.Spots.{where_whole}
use Rattle.url_lexer.specs.States.{Url}
use Rattle.url_lexer.specs.Triples.{Triple, NoTriple, AfterPercent, AfterDigit}
use Rattle.url_step.specs.Chains.{chain_of}
use Rattle.url_step.specs.PartSets.{part_sans}

-- in code no byte of a value is a `/`
not-solidus : (q : Bool) (b : ℕ) → (b == 47) ≡ q → is_forbidden b ≡ false → (b == 47) ≡ false
not-solidus true b e n = absurd (true≢false (sym (ap is_forbidden (eqb-true b 47 e)) ∙ n))
not-solidus false b e n = e

first-safe : (bytes : List ℕ) → list_any is_forbidden bytes ≡ false → begins_with_solidus bytes ≡ false
first-safe [] h = refl
first-safe (b ∷ bs) h = not-solidus (b == 47) b refl (both-false (is_forbidden b) (list_any is_forbidden bs) h).0

value-safe : (q : Bool) (text : List ℕ) → is_unsafe text ≡ q → list_any is_forbidden (if q then style_failsafe else text) ≡ false
value-safe true text e = refl
value-safe false text e = (both-false (list_any is_forbidden text) _ e).0

-- so none begins with one
pub code-begins : (text bytes : List ℕ) → IsBackInCode urls text bytes → begins_with_solidus bytes ≡ false
code-begins text bytes k =
    let undone = style_escapes_undone text in
    first-safe bytes (subst (λ (z : List ℕ). list_any is_forbidden z ≡ false) (sym k.reads) (value-safe (is_unsafe undone) undone refl))

pub code-element : (s : Outside) → IsCode s → (text bytes : List ℕ) → IsBackInElement (IsBackInCode urls text) bytes → IsElementHole (Out s) bytes
code-element s c text bytes k = record {
  plain = λ w a. in-code bytes s c k.there.plain w a (are-pages (Out s) w a);
  apart = k.apart;
  begins = λ w a g. code-begins text bytes k.there;
}

-- in a string and in a URL the style is not behind a `<`
string-not-less : (q : Quote) (w : Style Url) → StylesAlike urls (Out (InString q NoEscape)) w → style_settled w ≡ Out AfterLessThan → ⊥
string-not-less q (Out r) (outside a) g =
    subst (λ (z : Outside). style_settled {U = Url} (Out z) ≡ Out AfterLessThan → ⊥) (sym (string-same q r a)) (λ h. cc) g
string-not-less q (InUrl f u) a g = elim a [ ]

pub string-element : (q : Quote) (text bytes : List ℕ) → IsBackInElement (IsBackInString urls text) bytes → IsElementHole (Out (InString q NoEscape)) bytes
string-element q text bytes k = record {
  plain = λ w a. in-string bytes q (k.there.plain q) w a (are-pages (Out (InString q NoEscape)) w a);
  apart = k.apart;
  begins = λ w a g. absurd (string-not-less q w a g);
}

url-not-less : (f : UrlForm) (u : Url) (w : Style Url) → StylesAlike urls (InUrl f u) w → style_settled w ≡ Out AfterLessThan → ⊥
url-not-less f u (Out r) a g = elim a [ ]
url-not-less f u (InUrl h z) a g = cc

pub url-element : (f : UrlForm) (u : Url) (bytes : List ℕ) → UrlTakesHole f → StaysInUrl urls bytes → list_any is_less_than bytes ≡ false
    → ((w : Url) → UrlsAlike u w → IsPlainInUrl bytes w) → IsElementHole (InUrl f u) bytes
url-element f u bytes o stays apart plain = record {
  plain = λ w a. in-urls bytes f u o stays plain w a (are-pages (InUrl f u) w a);
  apart = apart;
  begins = λ w a g. absurd (url-not-less f u w a g);
}

-- the chain of a place in the element, which is that of the style alone
abbrev pub element_chain : Css → Chain
element_chain c = chain_of (style_sans c)

abbrev pub part_chain : UrlPart → Chain
part_chain p = chain_of (part_sans (parts_of p))

-- what it promises in a URL, by the part in which the path is
pub element-url-promise : (p : UrlPart) (datum : Data) (bytes : List ℕ) → refuses_hole_in p ≡ None → IsBackBy (part_chain p) datum bytes
    → IsBackInElementUrl (IsBackInPart p (printed datum)) bytes
element-url-promise UrlStart datum bytes n k = k
element-url-promise (UrlOpen p) datum bytes n k = record { there = k.there.in_open p; stays = k.stays; apart = k.apart }
element-url-promise UrlOpenhole datum bytes n k = record { there = k.there.in_openhole; stays = k.stays; apart = k.apart }
element-url-promise UrlPrequery datum bytes n k = k
element-url-promise UrlQuery datum bytes n k = k
element-url-promise UrlBad datum bytes n k = absurd (refused _ n)

-- A value that is left out stands in a comment, and any other is such a hole, where no `/` waits on the path.
abbrev pub IsHoleUnless : Bool → Style Url → List ℕ → Type 0
IsHoleUnless true s bytes = (is_comment s ≡ true) × (bytes ≡ [])
IsHoleUnless false s bytes = IsLoose s × IsElementHole s bytes

abbrev pub ElementHolesAt : Style Url → Option Css → Data → List ℕ → Type 0
ElementHolesAt s None datum bytes = Unit {0}
ElementHolesAt s (Some c) datum bytes =
    style_hole_error c ≡ None → IsBackBy (element_chain c) datum bytes → IsHoleUnless (leaves_out (element_chain c)) s bytes

part-loose : (p : UrlPart) (s : Style Url) (bytes : List ℕ) → IsLoose s × IsElementHole s bytes → IsHoleUnless (leaves_out (part_chain p)) s bytes
part-loose UrlStart s bytes h = h
part-loose (UrlOpen p) s bytes h = h
part-loose UrlOpenhole s bytes h = h
part-loose UrlPrequery s bytes h = h
part-loose UrlQuery s bytes h = h
part-loose UrlBad s bytes h = h

url-holes : (f : UrlForm) (u : Url) → UrlTakesHole f → (p : UrlPart) (datum : Data) (bytes : List ℕ) → u.part ≡ p → u.triple ≡ NoTriple
    → refuses_hole_in p ≡ None → IsBackBy (part_chain p) datum bytes → IsElementHole (InUrl f u) bytes
url-holes f u o p datum bytes i e n k =
    let own = element-url-promise p datum bytes n k in
    url-element f u bytes o own.stays own.apart (λ w a. own.there.plain u w i a e)

fresh-holes : (b : Bool) (u : Url) (datum : Data) (bytes : List ℕ) → has_read_nothing u ≡ b
    → ElementHolesAt (InUrl Fresh u) (if b then Some css.UrlFresh else None) datum bytes
fresh-holes false u datum bytes e = tt
fresh-holes true u datum bytes e = λ n k.
    let first = and_parts _ _ e in
    let second = and_parts _ _ first.1 in
    let third = and_parts _ _ second.1 in
    (tt, url-holes Fresh u tt UrlStart datum bytes (at-start u.part first.0) (no-triple u.triple third.1) refl k)

bare-holes : (t : Triple) (u : Url) (datum : Data) (bytes : List ℕ) → u.triple ≡ t
    → ElementHolesAt (InUrl Bare u) (option_map style_place (option_map UrlSpot (where_whole t u.part))) datum bytes
bare-holes NoTriple u datum bytes e = λ n k.
    part-loose u.part (InUrl Bare u) bytes (tt, url-holes Bare u tt u.part datum bytes refl e (none-refused u.part n) k)
bare-holes AfterPercent u datum bytes e = tt
bare-holes AfterDigit u datum bytes e = tt

quoted-holes : (j : Quote) (t : Triple) (u : Url) (datum : Data) (bytes : List ℕ) → u.triple ≡ t
    → ElementHolesAt (InUrl (Quoted j NoEscape) u) (option_map style_place (option_map (QuotedUrlSpot j) (where_whole t u.part))) datum bytes
quoted-holes DoubleQuote NoTriple u datum bytes e = λ n k.
    let f = Quoted DoubleQuote NoEscape in
    part-loose u.part (InUrl f u) bytes (tt, url-holes f u tt u.part datum bytes refl e (none-refused u.part n) k)
quoted-holes SingleQuote NoTriple u datum bytes e = λ n k.
    let f = Quoted SingleQuote NoEscape in
    part-loose u.part (InUrl f u) bytes (tt, url-holes f u tt u.part datum bytes refl e (none-refused u.part n) k)
quoted-holes j AfterPercent u datum bytes e = tt
quoted-holes j AfterDigit u datum bytes e = tt

pub element-holes : (s : Style Url) (datum : Data) (bytes : List ℕ) → ElementHolesAt s (style_css s) datum bytes
element-holes (Out (Between j)) datum bytes = λ n k. (tt, code-element (Between j) tt (printed datum) bytes k)
element-holes (Out AfterLessThan) datum bytes = tt
element-holes (Out (Word w e)) datum bytes = tt
element-holes (Out (AfterSolidus k)) datum bytes = tt
element-holes (Out (Comment true)) datum bytes = tt
element-holes (Out (Comment false)) datum bytes = λ n k. (refl, k)
element-holes (Out (InString DoubleQuote NoEscape)) datum bytes = λ n k. (tt, string-element DoubleQuote (printed datum) bytes k)
element-holes (Out (InString SingleQuote NoEscape)) datum bytes = λ n k. (tt, string-element SingleQuote (printed datum) bytes k)
element-holes (Out (InString j AfterBackslash)) datum bytes = tt
element-holes (Out (InString j (HexDigits k))) datum bytes = tt
element-holes (Out (InString j AfterReturn)) datum bytes = tt
element-holes (Out BadUrl) datum bytes = tt
element-holes (Out (BehindHole solidus less)) datum bytes = λ n k. (tt, code-element (BehindHole solidus less) tt (printed datum) bytes k)
element-holes (Out (SplitWord NoEscape)) datum bytes = λ n k. (tt, code-element (SplitWord NoEscape) tt (printed datum) bytes k)
element-holes (Out (SplitWord AfterBackslash)) datum bytes = tt
element-holes (Out (SplitWord (HexDigits k))) datum bytes = tt
element-holes (Out (SplitWord AfterReturn)) datum bytes = tt
element-holes (Out (SolidusAtCut j)) datum bytes = λ n k. (tt, code-element (SolidusAtCut j) tt (printed datum) bytes k)
element-holes (Out LessThanAtCut) datum bytes = λ n k. (tt, code-element LessThanAtCut tt (printed datum) bytes k)
element-holes (Out StarAtCut) datum bytes = λ n k. (refl, k)
element-holes (InUrl Fresh u) datum bytes = fresh-holes (has_read_nothing u) u datum bytes refl
element-holes (InUrl Bare u) datum bytes = bare-holes u.triple u datum bytes refl
element-holes (InUrl (Quoted j NoEscape) u) datum bytes = quoted-holes j u.triple u datum bytes refl
element-holes (InUrl (Quoted j AfterBackslash) u) datum bytes = tt
element-holes (InUrl (Quoted j (HexDigits k)) u) datum bytes = tt
element-holes (InUrl (Quoted j AfterReturn) u) datum bytes = tt
element-holes (InUrl Ended u) datum bytes = λ n k. absurd (given _ n)
