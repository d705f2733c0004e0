-- Small pages that fill their paths, and pages that do not.
use Rattle.std.proofs.Common.{◌≡◌, ◌+◌, ℕ, true, codes, List, [], ◌∷◌, length, refl, sym, ap, ◌∙◌, subst, arith}
use Rattle.js_lexer.specs.Classes as scripts
use Rattle.js_lexer.specs.WhiteSpace.{released, held_after}
use Rattle.place_core.specs.page.Classes.{class_of}
use Rattle.place_core.specs.page.Events.{AttributeBegins, LexEvent, Mark, TextByte, ValueScheme}
use Rattle.place_core.specs.page.Html.{read, start}
use Rattle.place_core.specs.page.Paths.{Hole, Symbol, Written, read_path}
use Rattle.place_core.specs.page.References.{Closed, meaning}
use Rattle.place_core.specs.page.States.{Page, Text}
use Rattle.place_core.specs.page.Tags.{DoubleQuoted, OfKind, Unquoted, languages}
use Rattle.place_core.specs.declared.kind.Kind.TheVariants as kind
use Rattle.text_norm.proofs.FilledEvents.{fills-keep, fills-mark}
use Rattle.text_norm.proofs.FilledReadings.{fills-one}
use Rattle.text_norm.proofs.SureStates.{fills-node}
use Rattle.text_norm.specs.Fillings.{BlockSite, Fills, FillsPath, IsChosen, NameSite, TextSite, UnquotedSite, UrlSite, filling}
use Rattle.url_lexer.specs.Classes.{url_class_of}
use Rattle.url_lexer.specs.Events.{Named, NoScheme, ToldScheme}
use Rattle.url_lexer.specs.Parts.{UrlStart, UrlQuery}
use Rattle.url_lexer.specs.Schemes.{is_safe_scheme}

-- a text, a hole, another text
abbrev around : List ℕ → List ℕ → List Symbol
around before behind = Written before ∷ Hole ∷ Written behind ∷ []

abbrev FillsAround : List ℕ → List ℕ → List ℕ → List ℕ → Type 0
FillsAround before text behind page = FillsPath (around before behind) (text ∷ []) page

abbrev path_around : List ℕ → List ℕ → List LexEvent
path_around before behind = (read_path languages (around before behind) start).emitted

abbrev page_events : List ℕ → List LexEvent
page_events page = (read Page page start).emitted

-- what was emitted before the hole is the path's own
begun : (before : List ℕ) → Fills (read_path languages (Written before ∷ []) start).emitted [] (read_path languages (Written before ∷ []) start).emitted
begun before = fills-node [] before (Text Closed) [] [] refl (refl, refl)

-- <b>{{.}}</b> with `<`, and with `a`
in_a_tag : FillsAround (codes "<b>") (codes "<") (codes "</b>") (codes "<b>&lt;</b>")
unfolding class_of meaning lib.Utf8.encode
in_a_tag =
    let t = page_events (codes "<b>") in
    let v = filling TextSite (codes "<") in
    let run : List LexEvent = TextByte 60 ∷ [] in
    let u = page_events (codes "<b>&lt;") in
    let f = begun (codes "<b>") in
    record { ends = refl; events = fills-node (v ∷ []) (codes "</b>") (Text Closed) (Mark ∷ t) u refl (fills-mark v [] run t t refl f) }

in_bold : FillsAround (codes "<b>") (codes "a") (codes "</b>") (codes "<b>a</b>")
unfolding class_of meaning lib.Utf8.encode
in_bold =
    let t = page_events (codes "<b>") in
    let v = filling TextSite (codes "a") in
    let run : List LexEvent = TextByte 97 ∷ [] in
    let u = page_events (codes "<b>a") in
    let f = begun (codes "<b>") in
    record { ends = refl; events = fills-node (v ∷ []) (codes "</b>") (Text Closed) (Mark ∷ t) u refl (fills-mark v [] run t t refl f) }

-- <a title={{.}}> with the empty text, whose value is the failsafe
in_an_empty_value : FillsAround (codes "<a title=") [] (codes ">") (codes "<a title=ZgotmplZ>")
unfolding class_of meaning lib.Utf8.encode
in_an_empty_value =
    let t = page_events (codes "<a title=") in
    let v = filling UnquotedSite [] in
    let u = page_events (codes "<a title=ZgotmplZ") in
    let f = begun (codes "<a title=") in
    record {
      ends = refl;
      events = fills-node (v ∷ []) (codes ">") (read Page (codes "<a title=Z") start).at (Mark ∷ t) u (OfKind kind.Plain, refl, refl) (fills-mark v [] _ t t refl f);
    }

-- <a {{.}}=c> with a name
in_a_name : FillsAround (codes "<a ") (codes "aB") (codes "=c>") (codes "<a aB=c>")
unfolding class_of meaning lib.Utf8.encode
in_a_name =
    let t = page_events (codes "<a ") in
    let v = filling NameSite (codes "aB") in
    let f = begun (codes "<a ") in
    let g = fills-keep [] AttributeBegins t t tt f in
    record {
      ends = refl;
      events = (_, _, refl, refl, (_, _, refl, refl, (_, _, refl, refl, fills-mark v [] _ (AttributeBegins ∷ t) (AttributeBegins ∷ t) refl g)));
    }

-- A page that fills a path emits one thing, and no other page does. <b>{{.}}</b> with `<i a>`, which stands as it is: its bytes emit a tag.
abbrev text_sum : List LexEvent → ℕ
text_sum [] = 0
text_sum (TextByte b ∷ t) = b + text_sum t
text_sum (e ∷ t) = text_sum t

escaped_tag : FillsAround (codes "<b>") (codes "<i a>") (codes "</b>") (codes "<b>&lt;i a&gt;</b>")
unfolding class_of meaning lib.Utf8.encode
escaped_tag =
    let t = page_events (codes "<b>") in
    let v = filling TextSite (codes "<i a>") in
    let u = page_events (codes "<b>&lt;i a&gt;") in
    let f = begun (codes "<b>") in
    record { ends = refl; events = fills-node (v ∷ []) (codes "</b>") (Text Closed) (Mark ∷ t) u refl (fills-mark v [] _ t t refl f) }

not_as_it_is : FillsAround (codes "<b>") (codes "<i a>") (codes "</b>") (codes "<b><i a></b>") → ⊥
unfolding class_of meaning lib.Utf8.encode
not_as_it_is h =
    let page = page_events (codes "<b><i a></b>") in
    let own = page_events (codes "<b>&lt;i a&gt;</b>") in
    let path = path_around (codes "<b>") (codes "</b>") in
    let same : page ≡ own = fills-one path (filling TextSite (codes "<i a>") ∷ []) page own (tt, tt) tt h.events escaped_tag.events in
    let lengths = ap (length {A = LexEvent}) same in
    omega (arith, lengths)

-- with `a`, a page that has `b` there, as many bytes of the same text; one that has nothing there; and one whose value emits a comment
not_another : FillsAround (codes "<b>") (codes "a") (codes "</b>") (codes "<b>b</b>") → ⊥
unfolding class_of meaning lib.Utf8.encode
not_another h =
    let page = page_events (codes "<b>b</b>") in
    let own = page_events (codes "<b>a</b>") in
    let path = path_around (codes "<b>") (codes "</b>") in
    let same : page ≡ own = fills-one path (filling TextSite (codes "a") ∷ []) page own (tt, tt) tt h.events in_bold.events in
    let sums = ap text_sum same in
    omega (arith, sums)

not_nothing : FillsAround (codes "<b>") (codes "a") (codes "</b>") (codes "<b></b>") → ⊥
unfolding class_of meaning lib.Utf8.encode
not_nothing h =
    let page = page_events (codes "<b></b>") in
    let own = page_events (codes "<b>a</b>") in
    let path = path_around (codes "<b>") (codes "</b>") in
    let same : page ≡ own = fills-one path (filling TextSite (codes "a") ∷ []) page own (tt, tt) tt h.events in_bold.events in
    let lengths = ap (length {A = LexEvent}) same in
    omega (arith, lengths)

not_a_comment : FillsAround (codes "<b>") (codes "a") (codes "</b>") (codes "<b><!--a--></b>") → ⊥
unfolding class_of meaning lib.Utf8.encode
not_a_comment h =
    let page = page_events (codes "<b><!--a--></b>") in
    let own = page_events (codes "<b>a</b>") in
    let path = path_around (codes "<b>") (codes "</b>") in
    let same : page ≡ own = fills-one path (filling TextSite (codes "a") ∷ []) page own (tt, tt) tt h.events in_bold.events in
    let sums = ap text_sum same in
    omega (arith, sums)

-- <a {{.}}=c> with `aB`, and a page that has another attribute behind it
not_two_names : FillsAround (codes "<a ") (codes "aB") (codes "=c>") (codes "<a aB onclick=c>") → ⊥
unfolding class_of scripts.class_of released held_after meaning lib.Utf8.encode
not_two_names h =
    let page = page_events (codes "<a aB onclick=c>") in
    let own = page_events (codes "<a aB=c>") in
    let path = path_around (codes "<a ") (codes "=c>") in
    let same : page ≡ own = fills-one path (filling NameSite (codes "aB") ∷ []) page own (tt, tt) tt h.events in_a_name.events in
    let lengths = ap (length {A = LexEvent}) same in
    omega (arith, lengths)

-- In a data block the text does not say which bytes stand there: with `<`, `&lt;` does as well as `&#60;`.
abbrev block_begins : List ℕ
block_begins = codes "<script type=a>"

in_a_block : FillsAround block_begins (codes "<") (codes "</script>") (codes "<script type=a>&lt;</script>")
unfolding class_of meaning lib.Utf8.encode
in_a_block =
    let t = page_events block_begins in
    let v = filling BlockSite (codes "<") in
    let u = page_events (codes "<script type=a>&lt;") in
    let f = begun block_begins in
    record {
      ends = refl;
      events = fills-node (v ∷ []) (codes "</script>") (read Page block_begins start).at (Mark ∷ t) u refl
          (fills-mark v [] _ t t (record { bytes = codes "&lt;"; emitted = refl; undoes = refl }) f);
    }

in_a_block_by_number : FillsAround block_begins (codes "<") (codes "</script>") (codes "<script type=a>&#60;</script>")
unfolding class_of meaning lib.Utf8.encode
in_a_block_by_number =
    let t = page_events block_begins in
    let v = filling BlockSite (codes "<") in
    let u = page_events (codes "<script type=a>&#60;") in
    let f = begun block_begins in
    record {
      ends = refl;
      events = fills-node (v ∷ []) (codes "</script>") (read Page block_begins start).at (Mark ∷ t) u refl
          (fills-mark v [] _ t t (record { bytes = codes "&#60;"; emitted = refl; undoes = refl }) f);
    }

-- In a URL the scheme is told at the end. <a href="{{.}}"> with `javascript:a`, which stands as the failsafe.
abbrev link : List ℕ
link = codes "<a href=\""

abbrev link_ends : List ℕ
link_ends = codes "\">"

in_a_url : FillsAround link (codes "javascript:a") link_ends (codes "<a href=\"#ZgotmplZ\">")
unfolding class_of url_class_of meaning lib.Utf8.encode
in_a_url =
    let t = page_events link in
    let v = filling (UrlSite DoubleQuoted UrlStart) (codes "javascript:a") in
    let own = fills-mark v [] _ t t (record { bytes = codes "#ZgotmplZ"; emitted = refl; allowed = tt; reads = refl }) (begun link) in
    record { ends = refl; events = (_, _, refl, refl, (_, _, refl, (NoScheme, refl, tt), own)) }

-- with `HTTP:a`, whose scheme data may choose
with_a_scheme : FillsAround link (codes "HTTP:a") link_ends (codes "<a href=\"HTTP:a\">")
unfolding class_of url_class_of meaning lib.Utf8.encode
with_a_scheme =
    let t = page_events link in
    let v = filling (UrlSite DoubleQuoted UrlStart) (codes "HTTP:a") in
    let own = fills-mark v [] _ t t (record { bytes = codes "HTTP:a"; emitted = refl; allowed = tt; reads = refl }) (begun link) in
    record { ends = refl; events = (_, _, refl, refl, (_, _, refl, (Named (codes "http"), refl, refl), own)) }

-- in a query, <a href="?q={{.}}"> with `a&b`
abbrev query_link : List ℕ
query_link = codes "<a href=\"?q="

in_a_query : FillsAround query_link (codes "a&b") link_ends (codes "<a href=\"?q=a%26b\">")
unfolding class_of url_class_of meaning lib.Utf8.encode
in_a_query =
    let t = page_events query_link in
    let v = filling (UrlSite DoubleQuoted UrlQuery) (codes "a&b") in
    let own = fills-mark v [] _ t t (record { bytes = codes "a%26b"; emitted = refl; allowed = refl; reads = refl }) (begun query_link) in
    record { ends = refl; events = (_, _, refl, refl, (_, _, refl, (NoScheme, refl, refl), own)) }

-- <a href={{.}}> with the empty text, whose value is the failsafe
abbrev bare_link : List ℕ
bare_link = codes "<a href="

in_an_empty_url : FillsAround bare_link [] (codes ">") (codes "<a href=ZgotmplZ>")
unfolding class_of url_class_of meaning lib.Utf8.encode
in_an_empty_url =
    let t = page_events bare_link in
    let v = filling (UrlSite Unquoted UrlStart) [] in
    let own = fills-mark v [] _ t t (record { bytes = []; emitted = refl; allowed = tt; reads = refl }) (begun bare_link) in
    record { ends = refl; events = (_, _, refl, refl, (_, _, refl, (NoScheme, refl, tt), own)) }

-- No text fills <a href="{{.}}"> with a page whose scheme is code.
abbrev second_scheme : List LexEvent → ToldScheme
second_scheme (e ∷ ValueScheme s ∷ t) = s
second_scheme t = NoScheme

abbrev code_page : List ℕ
code_page = codes "<a href=\"javascript:a\">"

unsafe : is_safe_scheme (codes "javascript") ≡ true → ⊥
unsafe e = cc

code_scheme : second_scheme (page_events code_page) ≡ Named (codes "javascript")
unfolding class_of url_class_of meaning lib.Utf8.encode
code_scheme = refl

not_code : (text : List ℕ) → FillsAround link text link_ends code_page → ⊥
unfolding class_of url_class_of meaning lib.Utf8.encode
not_code text h =
    let ends = h.events in
    let told = ends.4 in
    let scheme = told.3 in
    let whole : page_events code_page ≡ ends.0 ∷ ValueScheme scheme.0 ∷ told.1 =
    ends.2 ∙ ap (λ (z : List LexEvent). ends.0 ∷ z) (told.2 ∙ ap (λ (z : LexEvent). z ∷ told.1) scheme.1) in
    let named : scheme.0 ≡ Named (codes "javascript") = sym (ap second_scheme whole) ∙ code_scheme in
    unsafe (subst IsChosen named scheme.2)
