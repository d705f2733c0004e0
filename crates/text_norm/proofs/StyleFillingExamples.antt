-- Small pages with styles that fill their paths, and pages that do not.
use Rattle.std.proofs.Common.{◌≡◌, ℕ, ◌||◌, Bool, true, false, codes, List, [], ◌∷◌, length, inr, arith, refl, sym, ap, ◌∙◌, subst, true≢false}
use Rattle.std.proofs.lemmas.Bool.{or_from, or_parts}
use Rattle.css_lexer.specs.Classes.{style_class}
use Rattle.css_lexer.specs.Events.{RunBlank, RunByte, InsideUrl}
use Rattle.css_lexer.specs.Plain.{MayStandInUrl, is_excluded_from_url}
use Rattle.css_lexer.specs.States.{Between, DoubleQuote, Out}
use Rattle.place_core.specs.page.Classes.{class_of}
use Rattle.place_core.specs.page.Events.{InsideStyle, LexEvent}
use Rattle.place_core.specs.page.Html.{read, start}
use Rattle.place_core.specs.page.Paths.{Hole, Written, read_path}
use Rattle.place_core.specs.page.References.{Closed, meaning}
use Rattle.place_core.specs.page.States.{Page, Text}
use Rattle.place_core.specs.page.Tags.{DoubleQuoted, languages}
use Rattle.text_norm.proofs.FilledEvents.{fills-mark}
use Rattle.text_norm.proofs.SureStates.{fills-node}
use Rattle.text_norm.specs.Fillings.{BlankIsTold, CodeSite, Fills, FillsPath, IsChosen, IsCodeRun, IsStyleUrlRun, StringSite, StyleUrlSite, filling, style_run, style_url_bytes}
use Rattle.url_lexer.specs.Classes.{url_class_of}
use Rattle.url_lexer.specs.Events.{Named, NoScheme, ToldScheme, UrlByte, UrlEnds}
use Rattle.url_lexer.specs.Parts.{UrlPart, UrlStart}
use Rattle.url_lexer.specs.Schemes.{is_safe_scheme}

-- a text, a hole, another text
abbrev FillsAround : List ℕ → List ℕ → List ℕ → List ℕ → Type 0
FillsAround before text behind page = FillsPath (Written before ∷ Hole ∷ Written behind ∷ []) (text ∷ []) page

abbrev page_events : List ℕ → List LexEvent
page_events page = (read Page page start).emitted

begun : (before : List ℕ) → Fills (read_path languages (Written before ∷ []) start).emitted []
    (read_path languages (Written before ∷ []) start).emitted
begun before = fills-node [] before (Text Closed) [] [] refl (refl, refl)

abbrev style_begins : List ℕ
style_begins = codes "<a style=\""

-- <a style="{{.}} b"> with `a ` and a blank behind it: the page tells one blank, in which the value ends; the path's is that one
ends_in_a_blank : FillsAround style_begins (codes "a ") (codes " b\">") (codes "<a style=\"a  b\">")
unfolding class_of style_class meaning lib.Utf8.encode
ends_in_a_blank =
    let t = page_events style_begins in
    let v = filling (CodeSite DoubleQuoted) (codes "a ") in
    let run : List LexEvent = InsideStyle RunBlank ∷ InsideStyle (RunByte 97) ∷ [] in
    let fits : IsCodeRun DoubleQuoted (codes "a ") t run = record { behind_blank = false; told = λ k. absurd (true≢false (sym k)); emitted = refl } in
    record { ends = refl; events = (_, _, refl, refl, (_, _, refl, refl, inr ((tt, tt), fills-mark v [] run t t fits (begun style_begins)))) }

-- <a style="a {{.}}"> with ` b`: the page has told the blank
abbrev behind_a_blank : List ℕ
behind_a_blank = codes "<a style=\"a "

begins_with_a_blank : FillsAround behind_a_blank (codes " b") (codes "\">") (codes "<a style=\"a  b\">")
unfolding class_of style_class meaning lib.Utf8.encode
begins_with_a_blank =
    let t = page_events behind_a_blank in
    let v = filling (CodeSite DoubleQuoted) (codes " b") in
    let run : List LexEvent = InsideStyle (RunByte 98) ∷ [] in
    let fits : IsCodeRun DoubleQuoted (codes " b") t run = record { behind_blank = true; told = λ k. tt; emitted = refl } in
    record { ends = refl; events = (_, _, refl, refl, fills-mark v [] run t t fits (begun behind_a_blank)) }

-- A blank that is not the value's fits no mark in code, nor is one told by a value in a string.
abbrev blank_and_x : List LexEvent
blank_and_x = InsideStyle (RunByte 120) ∷ InsideStyle RunBlank ∷ []

not-x : (behind_blank : Bool) → blank_and_x ≡ style_run (Out (Between behind_blank)) (codes "x") → ⊥
unfolding style_class
not-x true e = (let lengths = ap (length {A = LexEvent}) e in omega (arith, lengths))
not-x false e = (let lengths = ap (length {A = LexEvent}) e in omega (arith, lengths))

no_blank : (before : List LexEvent) → IsCodeRun DoubleQuoted (codes "x") before blank_and_x → ⊥
unfolding meaning lib.Utf8.encode
no_blank before h = not-x h.behind_blank h.emitted

not_in_a_string : (text : List ℕ) (page : List LexEvent) → BlankIsTold (filling (StringSite DoubleQuoted DoubleQuote) text ∷ []) page → ⊥
not_in_a_string text page h = h.0

-- In a URL of a style the scheme is told at its end. <a style="a:url({{.}})"> with `HTTP:a`, whose scheme data may choose
abbrev style_url : List ℕ
style_url = codes "<a style=\"a:url("

abbrev style_url_ends : List ℕ
style_url_ends = codes ")\">"

with_a_scheme : FillsAround style_url (codes "HTTP:a") style_url_ends (codes "<a style=\"a:url(HTTP:a)\">")
unfolding class_of style_class url_class_of meaning lib.Utf8.encode
with_a_scheme =
    let t = page_events style_url in
    let v = filling (StyleUrlSite DoubleQuoted UrlStart) (codes "HTTP:a") in
    let own = fills-mark v [] _ t t (record { bytes = codes "HTTP:a"; emitted = refl; plain = refl; allowed = tt; reads = refl }) (begun style_url) in
    record { ends = refl; events = (_, _, refl, refl, (_, _, refl, refl, (_, _, refl, (Named (codes "http"), refl, refl), own))) }

-- No text fills it with a page whose scheme is code.
abbrev third_scheme : List LexEvent → ToldScheme
third_scheme (e ∷ f ∷ InsideStyle (InsideUrl (UrlEnds s)) ∷ t) = s
third_scheme t = NoScheme

abbrev code_page : List ℕ
code_page = codes "<a style=\"a:url(javascript:a)\">"

unsafe : is_safe_scheme (codes "javascript") ≡ true → ⊥
unsafe e = cc

code_scheme : third_scheme (page_events code_page) ≡ Named (codes "javascript")
unfolding class_of style_class url_class_of meaning lib.Utf8.encode
code_scheme = refl

not_code : (text : List ℕ) → FillsAround style_url text style_url_ends code_page → ⊥
unfolding class_of style_class url_class_of meaning lib.Utf8.encode
not_code text h =
    let tag = h.events in
    let url = tag.4 in
    let told = url.4 in
    let scheme = told.3 in
    let whole : page_events code_page ≡ tag.0 ∷ url.0 ∷ InsideStyle (InsideUrl (UrlEnds scheme.0)) ∷ told.1 =
    tag.2 ∙ ap (λ (z : List LexEvent). tag.0 ∷ z) (url.2 ∙ ap (λ (z : List LexEvent). url.0 ∷ z)
    (told.2 ∙ ap (λ (z : LexEvent). z ∷ told.1) scheme.1)) in
    let named : scheme.0 ≡ Named (codes "javascript") = sym (ap third_scheme whole) ∙ code_scheme in
    unsafe (subst IsChosen named scheme.2)

-- No value fills a mark in a URL with an escape: CSS would read a scheme in it that the page does not tell.
abbrev tells_excluded : List LexEvent → Bool
tells_excluded [] = false
tells_excluded (InsideStyle (InsideUrl (UrlByte b)) ∷ t) = is_excluded_from_url b || tells_excluded t
tells_excluded (e ∷ t) = tells_excluded t

none-told : (bs : List ℕ) (t : List LexEvent) → MayStandInUrl bs → tells_excluded t ≡ false → tells_excluded (style_url_bytes bs t) ≡ false
none-told [] t n h = h
none-told (b ∷ bs) t n h =
    let parts = or_parts (is_excluded_from_url b) _ n in
    none-told bs (InsideStyle (InsideUrl (UrlByte b)) ∷ t) parts.1 (or_from (is_excluded_from_url b) _ parts.0 h)

no_escape : (part : UrlPart) (text : List ℕ) → IsStyleUrlRun DoubleQuoted part text (style_url_bytes (codes "\\6a avascript\\3a a") []) → ⊥
no_escape part text h = true≢false (ap tells_excluded h.emitted ∙ none-told h.bytes [] h.plain refl)
