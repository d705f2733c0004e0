-- What a chain promises in a style leads the page's reading of bytes alone beside its reading with marks, and tells what fills the mark.
use Rattle.std.proofs.Common.{◌≡◌, ℕ, Bool, true, false, List, [], ◌∷◌, ◌⊎◌, inl, inr, None, refl, sym, ap, ap₂, ◌∙◌, subst, true≢false}
use Rattle.std.specs.Prelude.{IsTrue}
use Rattle.css_lexer.specs.Alike.{AreAlikeOutside, the_same, hole_between, hole_less_than, hole_word, split_word, cut_solidus, cut_less_than, cut_star, StylesAlike, outside, in_url, unbegun, unbegun_ended}
use Rattle.css_lexer.specs.Classes.{style_class}
use Rattle.css_lexer.specs.Escapes.{StyleEscape, NoEscape, AfterBackslash, HexDigits, AfterReturn}
use Rattle.css_lexer.specs.Events.{StyleEvent, RunByte, told_in_url}
use Rattle.css_lexer.specs.Paths.{has_mark, out_settled, style_after_hole, style_behind, style_emits_settled, style_settled}
use Rattle.css_lexer.specs.Plain.{BeginsApart, InRun, IsPlainInStyle, StyleLeadsPlain, tells_plain}
use Rattle.css_lexer.specs.ReadBack.{IsBackInCode, IsBackInString}
use Rattle.css_lexer.specs.Sanitizers.{style_as_text, unless_unsafe}
use Rattle.css_lexer.specs.States.{Quote, UrlWord, Outside, Between, AfterLessThan, Word, AfterSolidus, Comment, InString, BadUrl, BehindHole, SplitWord, SolidusAtCut, LessThanAtCut, StarAtCut, UrlForm, Fresh, Bare, Ended, Style, Out, InUrl, style_start}
use Rattle.css_lexer.specs.StaysInUrl.{StaysInUrl, UrlTakesHole, fed, form_behind}
use Rattle.css_lexer.specs.Steps.{StyleReading, read_style, style_reading}
use Rattle.css_lexer.specs.Unescaping.{style_escapes_undone}
use Rattle.css_lexer.specs.Urls.{urls}
use Rattle.css_lexer.proofs.RawReading.{failsafe-stays, less-than-told, stays-told, url_told, word-told}
use Rattle.page_datum.specs.Data.{Data}
use Rattle.page_datum.specs.Printed.{printed}
use Rattle.place_core.specs.page.Events.{InsideStyle, LexEvent, Mark, told_in_style}
use Rattle.place_core.specs.page.Html.{read}
use Rattle.place_core.specs.page.Shape.{marked}
use Rattle.place_core.specs.page.States.{AttributeValue, BeforeAttributeValue, Config, LexState, Page, config}
use Rattle.place_core.specs.page.Tags.{DoubleQuoted, OfKind, OfStyle, OfUrl, Quoting, SingleQuoted, Tag, Unquoted, Value, ValueOf, ValueState, languages, mark_if, OfScript}
use Rattle.place_core.specs.place.StatePlaces.{quotes_at}
use Rattle.place_core.specs.place.UrlParts.{parts_of}
use Rattle.place_core.specs.declared.kind.Kind.TheVariants as kind
use Rattle.place_core.specs.declared.san.San.TheVariants as san
use Rattle.html_step.specs.Holes.{last_of, url_chain}
use Rattle.san_html.specs.ReadBack.{in_value, read_as_text, read_value}
use Rattle.san_html.specs.Sanitizers.{failsafe}
use Rattle.url_lexer.specs.Alike.{UrlsAlike}
use Rattle.url_lexer.specs.Back.{ReadsBack}
use Rattle.url_lexer.specs.Events.{UrlEvent}
use Rattle.url_lexer.specs.Holes.{url_behind}
use Rattle.url_lexer.specs.Parts.{UrlPart}
use Rattle.url_lexer.specs.Plain.{ArePlainBytes, IsPlainInUrl}
use Rattle.url_lexer.specs.Refusals.{refuses_hole_in}
use Rattle.url_lexer.specs.States.{Url, feed_url}
use Rattle.url_lexer.specs.Triples.{NoTriple}
use Rattle.text_norm.proofs.FilledEvents.{SchemesSame, fed-same, fills-mark}
use Rattle.text_norm.proofs.FilledMarks.{AreRaw, IsSlashPending, Leads, LeadsOn, RawFilled, RawStands, StandsRaw, in_style, is_in_language, led, marked-is, not-held, raw-there}
use Rattle.text_norm.proofs.StyleHoles.{code-failsafe, string-failsafe}
use Rattle.text_norm.proofs.StyleRaw.{HasTold, IsJoined, OutBeside, StyleBeside, bytes-beside, code-behind, raw-has-told, read-fed, read-told, style-pending, style-settles, style_fed, style_told, told-last, told-run, value-fed}
use Rattle.text_norm.proofs.StyleValuesKeep.{style-laws}
use Rattle.text_norm.proofs.UrlHoles.{failsafe-plain, last-read, url-promise, url-value}
use Rattle.text_norm.specs.Fillings.{CodeSite, Filling, Fills, IsCodeSite, IsCodeRun, IsStringRun, IsStyleUrlRun, StringSite, StyleUrlSite, filling, style_run, style_url_bytes, url_bytes, value_fillings}
use Rattle.text_norm.specs.HoleLaws.{IsBackBy, IsBackByLast, IsBackInLanguage}

-- The bytes of the page are read in a style as these characters.
abbrev pub AreReadAs : Quoting → (bytes characters : List ℕ) → Type 0
AreReadAs q bytes bs = (tag : Tag) (s : Style Url) (t : List LexEvent) → read Page bytes (config (in_style q tag s) t)
    ≡ config (in_style q tag (style_fed s bs)) (style_told s bs t)

style-value : (q : Quoting) (tag : Tag) (s : Style Url) (bs : List ℕ) (t : List LexEvent)
    → read_value q tag (ValueOf (OfStyle s)) bs t ≡ config (in_style q tag (style_fed s bs)) (style_told s bs t)
style-value q tag s bs t = ap (λ (z : Value ValueState). config (in_value q tag z) (style_told s bs t)) (value-fed s bs)

read-as : (q : Quoting) (chars bytes : List ℕ) → read_as_text chars ≡ chars → IsBackByLast (last_of (quotes_at q)) chars bytes
    → AreReadAs q bytes (url_bytes q chars)
read-as q chars bytes e k tag s t = last-read q chars bytes e k tag (ValueOf (OfStyle s)) t ∙ style-value q tag s (url_bytes q chars) t

-- What characters have to show in the place of a path: from where the page stands with what is pending told, they lead both readings on;
-- and no token of what stands before lies partly in them.
abbrev GoesOn : Style Url → Quoting → List ℕ → List ℕ → Type 0
GoesOn v q text bs =
    (vs : List Filling) (w r : Style Url) (t u : List LexEvent) → StylesAlike urls v w → StyleBeside vs w r u → Fills t vs u
    → (let own = value_fillings (ValueOf (OfStyle v)) q text vs in
    let a = style_settled w in
    let z = style_settled r in
    let told = style_told z bs (told_in_style (style_emits_settled r []) u) in
    StyleBeside own (style_behind urls a (style_fed a bs)) (style_fed z bs) told
    × Fills (mark_if (has_mark w) (told_in_style (style_emits_settled w []) t)) own told)

pub record IsStyleFilled (v : Style Url) (q : Quoting) (text bs : List ℕ) : Type 0 where
  pub goes : GoesOn v q text bs
  pub apart : (vs : List Filling) (w r : Style Url) (u : List LexEvent) → StylesAlike urls v w → StyleBeside vs w r u → BeginsApart urls bs r
  pub slash : (less blank : Bool) → v ≡ Out (BehindHole true less) → BeginsApart urls bs (Out (AfterSolidus blank))

-- Code. A page is in a run there.
abbrev pub IsCodeState : Outside → Type 0
IsCodeState (Between k) = Unit {0}
IsCodeState (BehindHole solidus less) = Unit {0}
IsCodeState (SplitWord NoEscape) = Unit {0}
IsCodeState (SolidusAtCut k) = Unit {0}
IsCodeState LessThanAtCut = Unit {0}
IsCodeState s = ⊥

same-run : (z : Outside) (u : List LexEvent) → IsCodeState z → HasTold z u → InRun (out_settled z)
same-run (Between k) u c h = tt
same-run (BehindHole solidus less) u c h = absurd h
same-run (SplitWord e) u c h = absurd h
same-run (SolidusAtCut k) u c h = tt
same-run LessThanAtCut u c h = absurd h
same-run AfterLessThan u c h = tt
same-run (Word w e) u c h = absurd c
same-run (AfterSolidus k) u c h = tt
same-run (Comment star) u c h = absurd c
same-run (InString q e) u c h = absurd c
same-run BadUrl u c h = absurd c
same-run StarAtCut u c h = absurd c

split-run : (w : UrlWord) (e : StyleEscape) → IsCodeState (SplitWord e) → InRun (Word w e)
split-run w NoEscape c = tt
split-run w AfterBackslash c = absurd c
split-run w (HexDigits n) c = absurd c
split-run w AfterReturn c = absurd c

alike-run : (v w : Outside) (u : List LexEvent) → AreAlikeOutside v w → IsCodeState v → HasTold w u → InRun (out_settled w)
alike-run v w u (the_same z o) c h = same-run z u c h
alike-run v w u (hole_between solidus less) c h = tt
alike-run v w u (hole_less_than solidus less) c h = tt
alike-run v w u (hole_word solidus less x) c h = tt
alike-run v w u (split_word x e) c h = split-run x e c
alike-run v w u (cut_solidus k) c h = tt
alike-run v w u cut_less_than c h = tt
alike-run v w u (cut_star star) c h = absurd c

joined-run : (s r : Outside) → IsJoined s r → InRun (out_settled r)
joined-run (Between false) (Between true) j = tt
joined-run (AfterSolidus false) (AfterSolidus true) j = tt
joined-run _ _ j = absurd j

raw-run : (vs : List Filling) (v w r : Outside) (u : List LexEvent) → AreAlikeOutside v w → IsCodeState v → OutBeside vs w r u → InRun (out_settled r)
raw-run vs v w r u a c (inl h) = subst (λ (z : Outside). InRun (out_settled z)) (sym h.0) (alike-run v w u a c h.1)
raw-run vs v w r u a c (inr h) = joined-run w r h.0

-- what is told of the characters in a run
abbrev run_told : Style Url → List ℕ → List (StyleEvent UrlEvent)
run_told s bs = (read_style urls bs (style_reading s [])).told

run-is : (s : Style Url) (bs : List ℕ) → style_run s bs ≡ told_in_style (run_told s bs) []
run-is s bs = read-told s bs [] []

run-same : (s r : Style Url) (bs : List ℕ) → run_told s bs ≡ run_told r bs → style_run s bs ≡ style_run r bs
run-same s r bs e = run-is s bs ∙ ap (λ (z : List (StyleEvent UrlEvent)). told_in_style z []) e ∙ sym (run-is r bs)

false-true : {A : Type 0} → false ≡ true → A
false-true e = absurd (true≢false (sym e))

code-run : (q : Quoting) (text bs : List ℕ) (r : Outside) (u : List LexEvent) → bs ≡ url_bytes q (unless_unsafe (style_escapes_undone text))
    → InRun r → HasTold r u
    → IsTrue (tells_plain {U = Url} (Out r) (run_told (Out r) bs)) → IsCodeRun q text u (style_run (Out r) bs)
code-run q text bs (Between true) u e o h p = record { behind_blank = true; told = λ k. h; emitted = ap (style_run (Out (Between true))) e }
code-run q text bs (Between false) u e o h p = record {
  behind_blank = false;
  told = λ k. false-true k;
  emitted = ap (style_run (Out (Between false))) e;
}
code-run q text bs AfterLessThan u e o h p = record {
  behind_blank = false;
  told = λ k. false-true k;
  emitted = run-same (Out AfterLessThan) (Out (Between false)) bs (less-than-told urls bs []) ∙ ap (style_run (Out (Between false))) e;
}
code-run q text bs (Word w NoEscape) u e o h p = record {
  behind_blank = false;
  told = λ k. false-true k;
  emitted = run-same (Out (Word w NoEscape)) (Out (Between false)) bs (word-told urls bs w [] p) ∙ ap (style_run (Out (Between false))) e;
}
code-run q text bs _ u e o h p = absurd o

-- where the value leads
abbrev IsOut : Style Url → Type 0
IsOut (Out s) = Unit {0}
IsOut (InUrl f z) = ⊥

leads-out : (r : Outside) (z : Style Url) → StyleLeadsPlain urls (Out r) z → IsOut z
leads-out r (Out z) h = tt
leads-out r (InUrl f z) h = absurd h

behind-out : (v : Filling) (vs : List Filling) (before : Outside) (s z : Style Url) (u : List LexEvent) → IsCodeSite v.site → IsOut z
    → StyleBeside (v ∷ vs) s z u
    → StyleBeside (v ∷ vs) (style_behind urls (Out before) s) z u
behind-out v vs before (Out s) (Out z) u i o a = code-behind v vs before s z u i a
behind-out v vs before (InUrl f s) (Out z) u i o a = absurd a
behind-out v vs before s (InUrl f z) u i o a = absurd o

-- a value in code keeps what is beside it
one-more : (v : Filling) (vs : List Filling) (s r : Outside) (u : List LexEvent) → IsCodeSite v.site → OutBeside vs s r u → OutBeside (v ∷ vs) s r u
one-more v vs s r u i (inl h) = inl h
one-more v vs s r u i (inr h) = inr (h.0, (i, told-last vs u h.1))

code-goes : (v : Outside) → IsCodeState v → (q : Quoting) (text bs : List ℕ) → bs ≡ url_bytes q (unless_unsafe (style_escapes_undone text))
    → ((r : Outside) → InRun (out_settled r) → IsPlainInStyle urls bs (Out r))
    → (vs : List Filling) (w r : Outside) (t u : List LexEvent) → AreAlikeOutside v w → OutBeside vs w r u → Fills t vs u
    → (let own = filling (CodeSite q) text ∷ vs in
    let a = style_settled {U = Url} (Out w) in
    let z = style_settled {U = Url} (Out r) in
    let told = style_told z bs (told_in_style (style_emits_settled {U = Url} (Out r) []) u) in
    StyleBeside own (style_behind urls a (style_fed a bs)) (style_fed z bs) told
    × Fills (Mark ∷ told_in_style (style_emits_settled {U = Url} (Out w) []) t) own told)
code-goes v c q text bs e p vs w r t u a b f =
    let site = filling (CodeSite q) text in
    let o = raw-run vs v w r u a c b in
    let plain = p r o in
    let z = out_settled r in
    let before = told_in_style (style_emits_settled {U = Url} (Out r) []) u in
    let beside : OutBeside vs (out_settled w) z before = style-settles vs (Out w) (Out r) u b in
    let fits = code-run q text bs z before e o (raw-has-told vs (out_settled w) z before beside) plain.tells in
    let at = read-fed (Out z) bs [] in (
      behind-out site vs (out_settled w) (style_fed (Out (out_settled w)) bs) (style_fed (Out z) bs) (style_told (Out z) bs before) tt
          (subst IsOut at (leads-out z _ plain.leads))
          (bytes-beside (site ∷ vs) bs (Out (out_settled w)) (Out z) before (one-more site vs (out_settled w) z before tt beside)),
      subst (Fills (Mark ∷ told_in_style (style_emits_settled {U = Url} (Out w) []) t) (site ∷ vs)) (sym (told-run (Out z) bs before))
          (fills-mark site vs (style_run (Out z) bs) _ before fits (style-pending vs (Out w) (Out r) t u b f)),
    )

-- by the state of the path, which has a mark there
abbrev pub CodeFills : Outside → Type 0
CodeFills v = (q : Quoting) (text : List ℕ) (vs : List Filling) → value_fillings (ValueOf (OfStyle (Out v))) q text vs
    ≡ filling (CodeSite q) text ∷ vs

code-goes-on : (v : Outside) → IsCodeState v → CodeFills v → has_mark {U = Url} (Out v) ≡ true → (q : Quoting) (text bs : List ℕ)
    → bs ≡ url_bytes q (unless_unsafe (style_escapes_undone text)) → ((r : Outside) → InRun (out_settled r) → IsPlainInStyle urls bs (Out r))
    → GoesOn (Out v) q text bs
code-goes-on v c own m q text bs e p vs (Out w) (Out r) t u (outside a) b f =
    let g = code-goes v c q text bs e p vs w r t u a b f in
    let pending = told_in_style (style_emits_settled {U = Url} (Out w) []) t in
    let site = filling (CodeSite q) text in
    let before = style_settled {U = Url} (Out w) in
    let z = style_settled {U = Url} (Out r) in
    let told = style_told z bs (told_in_style (style_emits_settled {U = Url} (Out r) []) u) in
    subst (λ (ws : List Filling). StyleBeside ws (style_behind urls before (style_fed before bs)) (style_fed z bs) told
    × Fills (mark_if (has_mark {U = Url} (Out w)) pending) ws told) (sym (own q text vs))
    (g.0, subst (λ (y : Bool). Fills (mark_if y pending) (site ∷ vs) told) (sym (style-laws.marks (Out v) (Out w) (outside a) ∙ m)) g.1)
code-goes-on v c own m q text bs e p vs (Out w) (InUrl g y) t u a b f = absurd b
code-goes-on v c own m q text bs e p vs (InUrl g y) r t u a b f = elim a [ ]

code-apart : (v : Outside) → IsCodeState v → (bs : List ℕ) → ((r : Outside) → InRun (out_settled r) → IsPlainInStyle urls bs (Out r))
    → (vs : List Filling) (w r : Style Url) (u : List LexEvent) → StylesAlike urls (Out v) w → StyleBeside vs w r u → BeginsApart urls bs r
code-apart v c bs p vs (Out w) (Out r) u (outside a) b = (p r (raw-run vs v w r u a c b)).apart
code-apart v c bs p vs (Out w) (InUrl g y) u a b = absurd b
code-apart v c bs p vs (InUrl g y) r u a b = elim a [ ]

pub code-filled : (v : Outside) → IsCodeState v → CodeFills v → has_mark {U = Url} (Out v) ≡ true → (q : Quoting) (text bs : List ℕ)
    → bs ≡ url_bytes q (unless_unsafe (style_escapes_undone text)) → ((r : Outside) → InRun (out_settled r) → IsPlainInStyle urls bs (Out r))
    → IsStyleFilled (Out v) q text bs
code-filled v c own m q text bs e p = record {
  goes = code-goes-on v c own m q text bs e p;
  apart = code-apart v c bs p;
  slash = λ less blank h. (p (AfterSolidus blank) tt).apart;
}

-- A string. The page is in it.
string-same : (j : Quote) (w : Outside) → AreAlikeOutside (InString j NoEscape) w → w ≡ InString j NoEscape
string-same j w (the_same z o) = refl

string-raw : (vs : List Filling) (j : Quote) (w r : Outside) (u : List LexEvent) → w ≡ InString j NoEscape → OutBeside vs w r u
    → r ≡ InString j NoEscape
string-raw vs j w r u e (inl h) = h.0 ∙ e
string-raw vs j w r u e (inr h) = absurd (subst (λ (z : Outside). IsJoined z r) e h.0)

string-at : (j : Quote) (z : Style Url) → StyleLeadsPlain urls (Out (InString j NoEscape)) z → z ≡ Out (InString j NoEscape)
string-at j (Out s) h = ap Out h
string-at j (InUrl f u) h = absurd h

string-goes : (j : Quote) (q : Quoting) (text chars : List ℕ) → IsPlainInStyle urls (url_bytes q chars) (Out (InString j NoEscape))
    → style_escapes_undone chars ≡ style_as_text text
    → (vs : List Filling) (t u : List LexEvent) → Fills t vs u
    → (let s : Style Url = Out (InString j NoEscape) in
    let bs = url_bytes q chars in
    let own = filling (StringSite q j) text ∷ vs in
    StyleBeside own (style_behind urls s (style_fed s bs)) (style_fed s bs) (style_told s bs u) × Fills (Mark ∷ t) own (style_told s bs u))
string-goes j q text chars p e vs t u f =
    let s : Style Url = Out (InString j NoEscape) in
    let bs = url_bytes q chars in
    let site = filling (StringSite q j) text in
    let at : style_fed s bs ≡ s = sym (read-fed s bs []) ∙ string-at j _ p.leads in
    let fits : IsStringRun q j text (style_run s bs) = record { bytes = chars; emitted = refl; plain = p; reads = e } in (
      subst (λ (z : Style Url). StyleBeside (site ∷ vs) (style_behind urls s z) z (style_told s bs u)) (sym at) (inl (refl, tt)),
      subst (Fills (Mark ∷ t) (site ∷ vs)) (sym (told-run s bs u)) (fills-mark site vs (style_run s bs) t u fits f),
    )

string-goes-on : (j : Quote) (q : Quoting) (text chars : List ℕ) → IsPlainInStyle urls (url_bytes q chars) (Out (InString j NoEscape))
    → style_escapes_undone chars ≡ style_as_text text
    → GoesOn (Out (InString j NoEscape)) q text (url_bytes q chars)
string-goes-on j q text chars p e vs (Out w) (Out r) t u (outside a) b f =
    let bs = url_bytes q chars in
    let own = filling (StringSite q j) text ∷ vs in
    let there = string-same j w a in
    let raw = string-raw vs j w r u there b in
    subst (λ (y : Outside). (let before = style_settled {U = Url} (Out y) in let z = style_settled {U = Url} (Out r) in
    let told = style_told z bs (told_in_style (style_emits_settled {U = Url} (Out r) []) u) in
    StyleBeside own (style_behind urls before (style_fed before bs)) (style_fed z bs) told
    × Fills (mark_if (has_mark {U = Url} (Out y)) (told_in_style (style_emits_settled {U = Url} (Out y) []) t)) own told)) (sym there)
    (subst (λ (y : Outside). (let before : Style Url = Out (InString j NoEscape) in let z = style_settled {U = Url} (Out y) in
    let told = style_told z bs (told_in_style (style_emits_settled {U = Url} (Out y) []) u) in
    StyleBeside own (style_behind urls before (style_fed before bs)) (style_fed z bs) told × Fills (Mark ∷ t) own told)) (sym raw)
    (string-goes j q text chars p e vs t u f))
string-goes-on j q text chars p e vs (Out w) (InUrl g y) t u a b f = absurd b
string-goes-on j q text chars p e vs (InUrl g y) r t u a b f = elim a [ ]

string-apart : (j : Quote) (bs : List ℕ) → IsPlainInStyle urls bs (Out (InString j NoEscape))
    → (vs : List Filling) (w r : Style Url) (u : List LexEvent) → StylesAlike urls (Out (InString j NoEscape)) w → StyleBeside vs w r u
    → BeginsApart urls bs r
string-apart j bs p vs (Out w) (Out r) u (outside a) b =
    subst (λ (y : Outside). BeginsApart urls bs (Out y)) (sym (string-raw vs j w r u (string-same j w a) b)) p.apart
string-apart j bs p vs (Out w) (InUrl g y) u a b = absurd b
string-apart j bs p vs (InUrl g y) r u a b = elim a [ ]

abbrev IsHole : Outside → Type 0
IsHole (BehindHole solidus less) = Unit {0}
IsHole s = ⊥

abbrev IsHoleIn : Style Url → Type 0
IsHoleIn (Out s) = IsHole s
IsHoleIn (InUrl f u) = ⊥

no-hole : {A : Type 0} (v : Style Url) (less : Bool) → (IsHoleIn v → ⊥) → v ≡ Out (BehindHole true less) → A
no-hole v less n e = absurd (n (subst IsHoleIn (sym e) tt))

pub string-filled : (j : Quote) (q : Quoting) (text chars : List ℕ) → IsPlainInStyle urls (url_bytes q chars) (Out (InString j NoEscape))
    → style_escapes_undone chars ≡ style_as_text text
    → IsStyleFilled (Out (InString j NoEscape)) q text (url_bytes q chars)
string-filled j q text chars p e = record {
  goes = string-goes-on j q text chars p e;
  apart = string-apart j (url_bytes q chars) p;
  slash = λ less blank h. no-hole (Out (InString j NoEscape)) less (λ n. n) h;
}

-- A comment, where the value is left out, and the failsafe of a value without quotes tells nothing.
abbrev pub IsCommentState : Outside → Type 0
IsCommentState (Comment false) = Unit {0}
IsCommentState StarAtCut = Unit {0}
IsCommentState s = ⊥

same-comment : (s : Outside) (u : List LexEvent) → IsCommentState s → HasTold s u → (star : Bool) × (s ≡ Comment star)
same-comment (Comment star) u c h = (star, refl)
same-comment StarAtCut u c h = absurd h
same-comment (Between k) u c h = absurd c
same-comment AfterLessThan u c h = absurd c
same-comment (Word w e) u c h = absurd c
same-comment (AfterSolidus k) u c h = absurd c
same-comment (InString q e) u c h = absurd c
same-comment BadUrl u c h = absurd c
same-comment (BehindHole solidus less) u c h = absurd c
same-comment (SplitWord e) u c h = absurd c
same-comment (SolidusAtCut k) u c h = absurd c
same-comment LessThanAtCut u c h = absurd c

alike-comment : (v w : Outside) (u : List LexEvent) → AreAlikeOutside v w → IsCommentState v → HasTold w u → (star : Bool) × (w ≡ Comment star)
alike-comment v w u (the_same z o) c h = same-comment z u c h
alike-comment v w u (hole_between solidus less) c h = absurd c
alike-comment v w u (hole_less_than solidus less) c h = absurd c
alike-comment v w u (hole_word solidus less x) c h = absurd c
alike-comment v w u (split_word x e) c h = absurd c
alike-comment v w u (cut_solidus k) c h = absurd c
alike-comment v w u cut_less_than c h = absurd c
alike-comment v w u (cut_star star) c h = (star, refl)

no-joined : (v w r : Outside) → AreAlikeOutside v w → IsCommentState v → IsJoined w r → ⊥
no-joined v w r (the_same (Between k) o) c j = c
no-joined v w r (the_same (AfterSolidus k) o) c j = c
no-joined v w r (the_same _ o) c j = j
no-joined v w r (hole_between solidus less) c j = c
no-joined v w r (hole_less_than solidus less) c j = c
no-joined v w r (hole_word solidus less x) c j = c
no-joined v w r (split_word x e) c j = c
no-joined v w r (cut_solidus k) c j = c
no-joined v w r cut_less_than c j = c
no-joined v w r (cut_star star) c j = j

comment-raw : (vs : List Filling) (v w r : Outside) (u : List LexEvent) → AreAlikeOutside v w → IsCommentState v → OutBeside vs w r u
    → (star : Bool) × (w ≡ Comment star) × (r ≡ Comment star) × HasTold (Comment star) u
comment-raw vs v w r u a c (inl h) =
    let own = alike-comment v w u a c h.1 in
    (own.0, own.1, h.0 ∙ own.1, subst (λ (z : Outside). HasTold z u) own.1 h.1)
comment-raw vs v w r u a c (inr h) = absurd (no-joined v w r a c h.0)

comment-fed : (q : Quoting) (star : Bool) → (to : Bool) × (style_fed (Out (Comment star)) (url_bytes q []) ≡ Out (Comment to))
unfolding style_class
comment-fed DoubleQuoted star = (star, refl)
comment-fed SingleQuoted star = (star, refl)
comment-fed Unquoted true = (false, refl)
comment-fed Unquoted false = (false, refl)

comment-told : (q : Quoting) (star : Bool) (u : List LexEvent) → style_told (Out (Comment star)) (url_bytes q []) u ≡ u
unfolding style_class
comment-told DoubleQuoted star u = refl
comment-told SingleQuoted star u = refl
comment-told Unquoted true u = refl
comment-told Unquoted false u = refl

comment-goes : (q : Quoting) (star : Bool) (vs : List Filling) (t u : List LexEvent) → HasTold (Comment star) u → Fills t vs u
    → (let s : Style Url = Out (Comment star) in
    let bs = url_bytes q [] in
    StyleBeside vs (style_behind urls s (style_fed s bs)) (style_fed s bs) (style_told s bs u) × Fills t vs (style_told s bs u))
comment-goes q star vs t u h f =
    let s : Style Url = Out (Comment star) in
    let at = comment-fed q star in
    subst (λ (z : List LexEvent). StyleBeside vs (style_behind urls s (style_fed s (url_bytes q []))) (style_fed s (url_bytes q [])) z
    × Fills t vs z) (sym (comment-told q star u))
    (subst (λ (z : Style Url). StyleBeside vs (style_behind urls s z) z u) (sym at.1) (inl (refl, h)), f)

-- by the state of the path, which has no mark there
abbrev pub NoneFills : Outside → Type 0
NoneFills v = (q : Quoting) (text : List ℕ) (vs : List Filling) → value_fillings (ValueOf (OfStyle (Out v))) q text vs ≡ vs

comment-goes-on : (v : Outside) → IsCommentState v → NoneFills v → (q : Quoting) (text : List ℕ) → GoesOn (Out v) q text (url_bytes q [])
comment-goes-on v c own q text vs (Out w) (Out r) t u (outside a) b f =
    let bs = url_bytes q [] in
    let h = comment-raw vs v w r u a c b in
    subst (λ (ws : List Filling). (let before = style_settled {U = Url} (Out w) in let z = style_settled {U = Url} (Out r) in
    let told = style_told z bs (told_in_style (style_emits_settled {U = Url} (Out r) []) u) in
    StyleBeside ws (style_behind urls before (style_fed before bs)) (style_fed z bs) told
    × Fills (mark_if (has_mark {U = Url} (Out w)) (told_in_style (style_emits_settled {U = Url} (Out w) []) t)) ws told)) (sym (own q text vs))
    (subst (λ (y : Outside). (let before = style_settled {U = Url} (Out y) in let z = style_settled {U = Url} (Out r) in
    let told = style_told z bs (told_in_style (style_emits_settled {U = Url} (Out r) []) u) in
    StyleBeside vs (style_behind urls before (style_fed before bs)) (style_fed z bs) told
    × Fills (mark_if (has_mark {U = Url} (Out y)) (told_in_style (style_emits_settled {U = Url} (Out y) []) t)) vs told)) (sym h.1)
    (subst (λ (y : Outside). (let before : Style Url = Out (Comment h.0) in let z = style_settled {U = Url} (Out y) in
    let told = style_told z bs (told_in_style (style_emits_settled {U = Url} (Out y) []) u) in
    StyleBeside vs (style_behind urls before (style_fed before bs)) (style_fed z bs) told × Fills t vs told)) (sym h.2)
    (comment-goes q h.0 vs t u h.3 f)))
comment-goes-on v c own q text vs (Out w) (InUrl g y) t u a b f = absurd b
comment-goes-on v c own q text vs (InUrl g y) r t u a b f = elim a [ ]

comment-begins : (star : Bool) (bs : List ℕ) → BeginsApart urls bs (Out (Comment star))
comment-begins star [] = tt
comment-begins star (b ∷ bs) = refl

comment-apart : (v : Outside) → IsCommentState v → (bs : List ℕ)
    → (vs : List Filling) (w r : Style Url) (u : List LexEvent) → StylesAlike urls (Out v) w → StyleBeside vs w r u → BeginsApart urls bs r
comment-apart v c bs vs (Out w) (Out r) u (outside a) b =
    let h = comment-raw vs v w r u a c b in
    subst (λ (y : Outside). BeginsApart urls bs (Out y)) (sym h.2) (comment-begins h.0 bs)
comment-apart v c bs vs (Out w) (InUrl g y) u a b = absurd b
comment-apart v c bs vs (InUrl g y) r u a b = elim a [ ]

comment-no-hole : (v : Outside) → IsCommentState v → IsHole v → ⊥
comment-no-hole (BehindHole solidus less) c h = c
comment-no-hole _ c h = h

pub comment-filled : (v : Outside) → IsCommentState v → NoneFills v → (q : Quoting) (text : List ℕ) → IsStyleFilled (Out v) q text (url_bytes q [])
comment-filled v c own q text = record {
  goes = comment-goes-on v c own q text;
  apart = comment-apart v c (url_bytes q []);
  slash = λ less blank h. no-hole (Out v) less (comment-no-hole v c) h;
}

-- A URL, before it or in it, by the form in which the page is.
fed-schemes : (bs : List ℕ) (z y : Url) → SchemesSame z y → SchemesSame (fed urls z bs) (fed urls y bs)
fed-schemes [] z y a = a
fed-schemes (b ∷ bs) z y a = fed-schemes bs (feed_url z b) (feed_url y b) (fed-same (b ∷ []) z y a)

behind-schemes : (z f y : Url) → SchemesSame f y → SchemesSame (url_behind z f) y
behind-schemes z f y a = record { scheme = a.scheme; bound = a.bound }

url-told : (y : Url) (bs : List ℕ) (es : List (StyleEvent UrlEvent)) (t : List LexEvent)
    → told_in_style (url_told urls y bs es) t ≡ style_url_bytes bs (told_in_style es t)
url-told y [] es t = refl
url-told y (b ∷ bs) es t = url-told (feed_url y b) bs (told_in_url (urls.emits y b) es) t

url-goes : (g : UrlForm) (x z y : Url) → UrlTakesHole g → (q : Quoting) (text chars : List ℕ) → StaysInUrl urls (url_bytes q chars)
    → ReadsBack x.part text chars
    → IsPlainInUrl (url_bytes q chars) z → UrlsAlike x z → SchemesSame z y → (vs : List Filling) (t u : List LexEvent) → Fills t vs u
    → (let bs = url_bytes q chars in
    let own = filling (StyleUrlSite q x.part) text ∷ vs in
    StyleBeside own (style_behind urls (InUrl g z) (style_fed (InUrl g z) bs)) (style_fed (InUrl g y) bs) (style_told (InUrl g y) bs u)
    × Fills (Mark ∷ t) own (style_told (InUrl g y) bs u))
url-goes g x z y o q text chars k back plain a same vs t u f =
    let bs = url_bytes q chars in
    let site = filling (StyleUrlSite q x.part) text in
    let here : style_fed (InUrl g z) bs ≡ InUrl (form_behind g bs) (fed urls z bs) = sym (read-fed (InUrl g z) bs []) ∙ k.leads g z o in
    let raw : style_fed (InUrl g y) bs ≡ InUrl (form_behind g bs) (fed urls y bs) = sym (read-fed (InUrl g y) bs []) ∙ k.leads g y o in
    let run : style_run (InUrl g y) bs ≡ style_url_bytes bs [] =
    run-is (InUrl g y) bs ∙ ap (λ (es : List (StyleEvent UrlEvent)). told_in_style es []) (stays-told urls bs g y o k) ∙ url-told y bs [] [] in
    let fits : IsStyleUrlRun q x.part text (style_run (InUrl g y) bs) = record {
      bytes = chars;
      emitted = run;
      plain = k.allowed;
      allowed = subst (λ (p : UrlPart). ArePlainBytes p bs) a.part plain.allowed;
      reads = back;
    } in (
      subst (λ (m : Style Url). StyleBeside (site ∷ vs) (style_behind urls (InUrl g z) m) (style_fed (InUrl g y) bs) (style_told (InUrl g y) bs u))
          (sym here)
          (subst (λ (r : Style Url). StyleBeside (site ∷ vs) (InUrl (form_behind g bs) (url_behind z (fed urls z bs))) r
          (style_told (InUrl g y) bs u)) (sym raw)
          (refl, behind-schemes z (fed urls z bs) (fed urls y bs) (fed-schemes bs z y same))),
      subst (Fills (Mark ∷ t) (site ∷ vs)) (sym (told-run (InUrl g y) bs u)) (fills-mark site vs (style_run (InUrl g y) bs) t u fits f),
    )

-- the page's form is the path's, but where no URL has begun on the page
url-goes-raw : (g h : UrlForm) (x z y : Url) → UrlTakesHole g → (q : Quoting) (text chars : List ℕ) → StaysInUrl urls (url_bytes q chars)
    → ReadsBack x.part text chars
    → IsPlainInUrl (url_bytes q chars) z → UrlsAlike x z → (h ≡ g) × SchemesSame z y → (vs : List Filling) (t u : List LexEvent) → Fills t vs u
    → (let bs = url_bytes q chars in
    let own = filling (StyleUrlSite q x.part) text ∷ vs in
    StyleBeside own (style_behind urls (InUrl g z) (style_fed (InUrl g z) bs)) (style_fed (InUrl h y) bs) (style_told (InUrl h y) bs u)
    × Fills (Mark ∷ t) own (style_told (InUrl h y) bs u))
url-goes-raw g h x z y o q text chars k back plain a b vs t u f =
    let bs = url_bytes q chars in
    let own = filling (StyleUrlSite q x.part) text ∷ vs in
    subst (λ (i : UrlForm). StyleBeside own (style_behind urls (InUrl g z) (style_fed (InUrl g z) bs)) (style_fed (InUrl i y) bs)
    (style_told (InUrl i y) bs u) × Fills (Mark ∷ t) own (style_told (InUrl i y) bs u))
    (sym b.0) (url-goes g x z y o q text chars k back plain a b.1 vs t u f)

url-goes-on : (g : UrlForm) (x : Url) → UrlTakesHole g → (q : Quoting) (text chars : List ℕ) → StaysInUrl urls (url_bytes q chars)
    → ReadsBack x.part text chars
    → ((z : Url) → UrlsAlike x z → IsPlainInUrl (url_bytes q chars) z) → GoesOn (InUrl g x) q text (url_bytes q chars)
url-goes-on g x o q text chars k back plain vs (InUrl i z) (InUrl h y) t u (in_url j a) b f =
    url-goes-raw g h x z y o q text chars k back (plain z a) a b vs t u f
url-goes-on Bare x o q text chars k back plain vs (InUrl Fresh z) (InUrl h y) t u (unbegun a) b f =
    url-goes-raw Fresh h x z y tt q text chars k back (plain z a) a b vs t u f
url-goes-on Ended x o q text chars k back plain vs (InUrl Fresh z) (InUrl h y) t u (unbegun_ended a) b f = absurd o
url-goes-on g x o q text chars k back plain vs (InUrl i z) (Out r) t u a b f = absurd b
url-goes-on g x o q text chars k back plain vs (Out w) r t u a b f = elim a [ ]

url-begins : (h : UrlForm) (y : Url) (bs : List ℕ) → BeginsApart urls bs (InUrl h y)
url-begins h y [] = tt
url-begins h y (b ∷ bs) = refl

url-apart : (g : UrlForm) (x : Url) (bs : List ℕ)
    → (vs : List Filling) (w r : Style Url) (u : List LexEvent) → StylesAlike urls (InUrl g x) w → StyleBeside vs w r u → BeginsApart urls bs r
url-apart g x bs vs (InUrl i z) (InUrl h y) u a b = url-begins h y bs
url-apart g x bs vs (InUrl i z) (Out r) u a b = absurd b
url-apart g x bs vs (Out w) r u a b = elim a [ ]

pub url-filled : (g : UrlForm) (x : Url) → UrlTakesHole g → (q : Quoting) (text chars : List ℕ) → StaysInUrl urls (url_bytes q chars)
    → ReadsBack x.part text chars
    → ((z : Url) → UrlsAlike x z → IsPlainInUrl (url_bytes q chars) z) → IsStyleFilled (InUrl g x) q text (url_bytes q chars)
url-filled g x o q text chars k back plain = record {
  goes = url-goes-on g x o q text chars k back plain;
  apart = url-apart g x (url_bytes q chars);
  slash = λ less blank h. no-hole (InUrl g x) less (λ n. n) h;
}

-- Bytes of the page, from where it stands with what is pending and from where that is told.
settled-same : (q : Quoting) (tag : Tag) (r : Style Url) (b : ℕ) (bs : List ℕ) (u : List LexEvent) → BeginsApart urls (b ∷ bs) r
    → config (in_style q tag (style_fed r (b ∷ bs))) (style_told r (b ∷ bs) u)
    ≡ config (in_style q tag (style_fed (style_settled r) (b ∷ bs)))
    (style_told (style_settled r) (b ∷ bs) (told_in_style (style_emits_settled r []) u))
settled-same q tag r b bs u p =
    let es = style_emits_settled r [] in
    ap₂ (λ (z : Style Url) (t : List LexEvent). config (in_style q tag z) t)
    (sym (read-fed r (b ∷ bs) []) ∙ ap (λ (z : StyleReading Url UrlEvent). z.at) p ∙ read-fed (style_settled r) (b ∷ bs) es)
    (read-told r (b ∷ bs) [] u ∙ ap (λ (z : StyleReading Url UrlEvent). told_in_style z.told u) p ∙ sym (read-told (style_settled r) (b ∷ bs) es u))

-- The page of bytes alone stands at a state of the style, or behind a `/` where the other has told it.
abbrev StandsThere : Quoting → Tag → (v r : Style Url) → List LexEvent → Config ValueState → Type 0
StandsThere q tag v r u d =
    (d ≡ config (in_style q tag r) u)
    ⊎ ((less blank : Bool) × (told : List LexEvent) × (v ≡ Out (BehindHole true less)) × (d ≡ config (in_style q tag (Out (AfterSolidus blank))) told)
    × (r ≡ Out (Between false)) × (u ≡ InsideStyle (RunByte 47) ∷ told))

-- with some bytes
abbrev AtEnd : Quoting → Tag → Style Url → List ℕ → List LexEvent → Config ValueState
AtEnd q tag r bs u = config (in_style q tag (style_fed (style_settled r) bs))
    (style_told (style_settled r) bs (told_in_style (style_emits_settled r []) u))

some-read : (q : Quoting) (tag : Tag) (v : Style Url) (bytes : List ℕ) (b : ℕ) (bs : List ℕ) (r : Style Url) (u : List LexEvent)
    (d : Config ValueState) → AreReadAs q bytes (b ∷ bs)
    → BeginsApart urls (b ∷ bs) r → ((less blank : Bool) → v ≡ Out (BehindHole true less) → BeginsApart urls (b ∷ bs) (Out (AfterSolidus blank)))
    → StandsThere q tag v r u d → read Page bytes d ≡ AtEnd q tag r (b ∷ bs) u
some-read q tag v bytes b bs r u d reads p s (inl h) = ap (read Page bytes) h ∙ reads tag r u ∙ settled-same q tag r b bs u p
some-read q tag v bytes b bs r u d reads p s (inr h) =
    let raw : Style Url = Out (AfterSolidus h.1) in
    ap (read Page bytes) h.4 ∙ reads tag raw h.2 ∙ settled-same q tag raw b bs h.2 (s h.0 h.1 h.3)
    ∙ sym (ap₂ (λ (z : Style Url) (t : List LexEvent). AtEnd q tag z (b ∷ bs) t) h.5 h.6)

-- and with none
solidus-marked : (vs : List Filling) (w : Outside) (blank : Bool) (u : List LexEvent) → OutBeside vs w (AfterSolidus blank) u
    → (j : Bool) × (w ≡ AfterSolidus j)
solidus-marked vs w blank u (inl h) = (blank, sym h.0)
solidus-marked vs (AfterSolidus j) blank u (inr h) = (j, refl)
solidus-marked vs (Between false) blank u (inr h) = absurd h.0
solidus-marked vs (Between true) blank u (inr h) = absurd h.0
solidus-marked vs _ blank u (inr h) = absurd h.0

solidus-same : (v : Outside) (j : Bool) → AreAlikeOutside v (AfterSolidus j) → style_after_hole urls (Out v) ≡ Out (BehindHole true false)
solidus-same v j (the_same z o) = refl
solidus-same v j (cut_solidus k) = refl

pub solidus-path : (vs : List Filling) (v w : Style Url) (blank : Bool) (u : List LexEvent) → StylesAlike urls v w
    → StyleBeside vs w (Out (AfterSolidus blank)) u
    → style_after_hole urls v ≡ Out (BehindHole true false)
solidus-path vs (Out v) (Out w) blank u (outside a) b =
    let m = solidus-marked vs w blank u b in
    solidus-same v m.0 (subst (AreAlikeOutside v) m.1 a)
solidus-path vs v (InUrl g z) blank u a b = absurd b
solidus-path vs (InUrl g x) (Out w) blank u a b = elim a [ ]

pub not-cut : {A : Type 0} (vs : List Filling) (w : Style Url) (k : Bool) (u : List LexEvent) → StyleBeside vs w (Out (SolidusAtCut k)) u → A
not-cut vs (Out w) k u b = absurd (raw-has-told vs w (SolidusAtCut k) u b)
not-cut vs (InUrl g z) k u b = absurd b

abbrev IsPendingThere : Quoting → Tag → (v r : Style Url) → List LexEvent → Config ValueState → Type 0
IsPendingThere q tag v r u d = (d ≡ AtEnd q tag r [] u) ⊎ IsSlashPending (in_style q tag (style_after_hole urls v)) d (AtEnd q tag r [] u)

pending-at : (q : Quoting) (tag : Tag) (vs : List Filling) (v w r : Style Url) (u : List LexEvent) (d : Config ValueState) → StylesAlike urls v w
    → StyleBeside vs w r u
    → d ≡ config (in_style q tag r) u → IsPendingThere q tag v r u d
pending-at q tag vs v w (Out (AfterSolidus blank)) u d a b h =
    inr (subst (λ (y : Style Url). IsSlashPending (in_style q tag y) d (AtEnd q tag (Out (AfterSolidus blank)) [] u))
    (sym (solidus-path vs v w blank u a b))
    (record { blank = blank; told = u; raw = h; is_settled = refl }))
pending-at q tag vs v w (Out (SolidusAtCut k)) u d a b h = not-cut vs w k u b
pending-at q tag vs v w (Out (Between k)) u d a b h = inl h
pending-at q tag vs v w (Out AfterLessThan) u d a b h = inl h
pending-at q tag vs v w (Out (Word z e)) u d a b h = inl h
pending-at q tag vs v w (Out (Comment star)) u d a b h = inl h
pending-at q tag vs v w (Out (InString j e)) u d a b h = inl h
pending-at q tag vs v w (Out BadUrl) u d a b h = inl h
pending-at q tag vs v w (Out (BehindHole solidus less)) u d a b h = inl h
pending-at q tag vs v w (Out (SplitWord e)) u d a b h = inl h
pending-at q tag vs v w (Out LessThanAtCut) u d a b h = inl h
pending-at q tag vs v w (Out StarAtCut) u d a b h = inl h
pending-at q tag vs v w (InUrl f y) u d a b h = inl h

pending-there : (q : Quoting) (tag : Tag) (vs : List Filling) (v w r : Style Url) (u : List LexEvent) (d : Config ValueState) → StylesAlike urls v w
    → StyleBeside vs w r u
    → StandsThere q tag v r u d → IsPendingThere q tag v r u d
pending-there q tag vs v w r u d a b (inl h) = pending-at q tag vs v w r u d a b h
pending-there q tag vs v w r u d a b (inr h) =
    inr (subst (λ (y : Style Url). IsSlashPending (in_style q tag (style_after_hole urls y)) d (AtEnd q tag r [] u)) (sym h.3)
    (record { blank = h.1; told = h.2; raw = h.4; is_settled = ap₂ (λ (z : Style Url) (t : List LexEvent). AtEnd q tag z [] t) h.5 h.6 }))

-- a value holds nothing back in an element
value-raw : (q : Quoting) (tag : Tag) (v : Style Url) (d e : Config ValueState) → (d ≡ e) ⊎ IsSlashPending (in_style q tag v) d e → AreRaw (in_style q tag v) d e
value-raw q tag v d e (inl h) = inl h
value-raw q tag v d e (inr h) = inr (inl h)

raw-value : (q : Quoting) (tag : Tag) (v : Style Url) (y : ValueState) (d e : Config ValueState) → e.at ≡ in_value q tag (ValueOf y) → AreRaw (in_style q tag v) d e
    → (d ≡ e) ⊎ IsSlashPending (in_style q tag v) d e
raw-value q tag v y d e i (inl h) = inl h
raw-value q tag v y d e i (inr (inl h)) = inr h
raw-value q tag v y d e i (inr (inr (inl h))) = absurd h
raw-value q tag v y d e i (inr (inr (inr h))) = absurd (not-held d e (ap is_in_language i) h)

none-read : (q : Quoting) (tag : Tag) (v : Style Url) (bytes : List ℕ) (r : Style Url) (u : List LexEvent) (d : Config ValueState)
    → AreReadAs q bytes []
    → StandsThere q tag v r u d → read Page bytes d ≡ d
none-read q tag v bytes r u d reads (inl h) = ap (read Page bytes) h ∙ reads tag r u ∙ sym h
none-read q tag v bytes r u d reads (inr h) = ap (read Page bytes) h.4 ∙ reads tag (Out (AfterSolidus h.1)) h.2 ∙ sym h.4

-- So both readings come over the hole.
marked-there : (q : Quoting) (tag : Tag) (w : Style Url) (bytes bs : List ℕ) (t : List LexEvent) → AreReadAs q bytes bs
    → marked bytes (config (in_style q tag w) t)
    ≡ config (in_style q tag (style_behind urls (style_settled w) (style_fed (style_settled w) bs)))
    (mark_if (has_mark w) (told_in_style (style_emits_settled w []) t))
marked-there q tag w bytes bs t reads =
    let a = style_settled w in
    marked-is (in_style q tag w) (in_style q tag (style_fed a bs)) bytes t _ (reads tag a [])

pub style-led : (q : Quoting) (tag : Tag) (v : Style Url) (text bytes bs : List ℕ) → AreReadAs q bytes bs → IsStyleFilled v q text bs
    → (vs : List Filling) (t : List LexEvent) (w r : Style Url) (u : List LexEvent) (d : Config ValueState) → StylesAlike urls v w
    → StyleBeside vs w r u → Fills t vs u
    → StandsThere q tag v r u d
    → StandsRaw (in_style q tag (style_after_hole urls v)) (value_fillings (ValueOf (OfStyle v)) q text vs)
    (marked bytes (config (in_style q tag w) t)) (read Page bytes d)
style-led q tag v text bytes [] reads k vs t w r u d a b f there =
    let own = value_fillings (ValueOf (OfStyle v)) q text vs in
    let g = k.goes vs w r t u a b f in
    let end = AtEnd q tag r [] u in
    record {
      settled = end;
      beside = subst (λ (z : Config ValueState). RawStands own z end) (sym (marked-there q tag w bytes [] t reads))
          (OfStyle (style_settled r), refl, (g.0, g.1));
      pending = subst (λ (z : Config ValueState). AreRaw (in_style q tag (style_after_hole urls v)) z end)
          (sym (none-read q tag v bytes r u d reads there))
          (value-raw q tag (style_after_hole urls v) d end (pending-there q tag vs v w r u d a b there));
    }
style-led q tag v text bytes (c ∷ bs) reads k vs t w r u d a b f there =
    let own = value_fillings (ValueOf (OfStyle v)) q text vs in
    let g = k.goes vs w r t u a b f in
    let end = AtEnd q tag r (c ∷ bs) u in
    record {
      settled = end;
      beside = subst (λ (z : Config ValueState). RawStands own z end) (sym (marked-there q tag w bytes (c ∷ bs) t reads))
          (OfStyle (style_fed (style_settled r) (c ∷ bs)), refl, (g.0, g.1));
      pending = inl (some-read q tag v bytes c bs r u d reads (k.apart vs w r u a b) k.slash there);
    }

-- from where the readings stand for the path
abbrev value_in : LexState ValueState → ValueState
value_in (AttributeValue q tag (ValueOf v) r) = v
value_in s = OfKind kind.Plain

abbrev style_in : ValueState → Style Url
style_in (OfStyle s) = s
style_in v = style_start

slash-there : (q : Quoting) (tag : Tag) (v r : Style Url) (u : List LexEvent) (d e : Config ValueState) → e ≡ config (in_style q tag r) u
    → IsSlashPending (in_style q tag v) d e → StandsThere q tag v r u d
slash-there q tag (Out (BehindHole true less)) r u d e i h =
    let same = sym i ∙ h.is_settled in
    inr (
      less,
      h.blank,
      h.told,
      refl,
      h.raw,
      ap (λ (c : Config ValueState). style_in (value_in c.at)) same,
      ap
          (λ (c : Config ValueState). c.emitted) same,
    )
slash-there q tag _ r u d e i h = absurd h

stands-there : (q : Quoting) (tag : Tag) (v r : Style Url) (u : List LexEvent) (d e : Config ValueState) → e ≡ config (in_style q tag r) u
    → (d ≡ e) ⊎ IsSlashPending (in_style q tag v) d e
    → StandsThere q tag v r u d
stands-there q tag v r u d e i (inl h) = inl (h ∙ i)
stands-there q tag v r u d e i (inr h) = slash-there q tag v r u d e i h

style-raw : (q : Quoting) (tag : Tag) (v : Style Url) (text bytes bs : List ℕ) → AreReadAs q bytes bs → IsStyleFilled v q text bs
    → (vs : List Filling) (t : List LexEvent) (w : Style Url) (y : ValueState) (d e : Config ValueState) → StylesAlike urls v w
    → e ≡ config (in_value q tag (ValueOf y)) e.emitted
    → RawFilled vs (OfStyle w) y t e.emitted → (d ≡ e) ⊎ IsSlashPending (in_style q tag v) d e
    → StandsRaw (in_style q tag (style_after_hole urls v)) (value_fillings (ValueOf (OfStyle v)) q text vs)
    (marked bytes (config (in_style q tag w) t)) (read Page bytes d)
style-raw q tag v text bytes bs reads k vs t w (OfKind j) d e a i b p = absurd b.0
style-raw q tag v text bytes bs reads k vs t w (OfUrl u) d e a i b p = absurd b.0
style-raw q tag v text bytes bs reads k vs t w (OfScript r) d e a i b p = absurd b.0
style-raw q tag v text bytes bs reads k vs t w (OfStyle r) d e a i b p =
    style-led q tag v text bytes bs reads k vs t w r e.emitted d a b.0 b.1 (stands-there q tag v r e.emitted d e i p)

style-stands : (q : Quoting) (tag : Tag) (v : Style Url) (text bytes bs : List ℕ) → AreReadAs q bytes bs → IsStyleFilled v q text bs
    → (vs : List Filling) (t : List LexEvent) (there : ValueState) (m d : Config ValueState) → languages.AreAlike (OfStyle v) there
    → m ≡ config (in_value q tag (ValueOf there)) t
    → StandsRaw (in_style q tag v) vs m d
    → StandsRaw (in_style q tag (style_after_hole urls v)) (value_fillings (ValueOf (OfStyle v)) q text vs) (marked bytes m) (read Page bytes d)
style-stands q tag v text bytes bs reads k vs t (OfKind j) m d a e r = absurd a
style-stands q tag v text bytes bs reads k vs t (OfUrl u) m d a e r = absurd a
style-stands q tag v text bytes bs reads k vs t (OfScript w) m d a e r = absurd a
style-stands q tag v text bytes bs reads k vs t (OfStyle w) m d a e r =
    let own = value_fillings (ValueOf (OfStyle v)) q text vs in
    let h = subst (λ (z : Config ValueState). RawStands vs z r.settled) e r.beside in
    subst (λ (z : Config ValueState). StandsRaw (in_style q tag (style_after_hole urls v)) own (marked bytes z) (read Page bytes d)) (sym e)
    (style-raw q tag v text bytes bs reads k vs t w h.0 d r.settled a (ap (λ (z : LexState ValueState). config z r.settled.emitted) h.1) h.2
    (raw-value q tag v h.0 d r.settled h.1 r.pending))

pub style-leads : (q : Quoting) (tag : Tag) (v : Style Url) (text bytes bs : List ℕ) → AreReadAs q bytes bs → IsStyleFilled v q text bs
    → Leads (in_style q tag v) text bytes
style-leads q tag v text bytes bs reads k vs t m d l r = style-stands q tag v text bytes bs reads k vs t l.there m d l.alike l.stands r

-- What the chains promise, by the place: of their characters, or of the failsafe of a value without quotes.
either : (q : Quoting) (chars : List ℕ) (P : List ℕ → Type 0) → P chars → P failsafe → P (url_bytes q chars)
either DoubleQuoted chars P p f = p
either SingleQuoted chars P p f = p
either Unquoted [] P p f = f
either Unquoted (b ∷ bs) P p f = p

-- in code
abbrev ReadsInCode : Quoting → List ℕ → List ℕ → Type 0
ReadsInCode q text bytes = IsBackInLanguage (IsBackInCode urls text) (last_of (quotes_at q)) bytes

code-values : (v : Outside) → IsCodeState v → CodeFills v → has_mark {U = Url} (Out v) ≡ true
    → (q : Quoting) (text bytes : List ℕ) (k : ReadsInCode q text bytes)
    → IsStyleFilled (Out v) q text (url_bytes q k.characters)
code-values v c own m q text bytes k =
    code-filled v c own m q text (url_bytes q k.characters) (ap (url_bytes q) k.there.reads)
    (λ r o. either q k.characters (λ bs. IsPlainInStyle urls bs (Out r)) (k.there.plain r o) (code-failsafe r o))

pub code-leads : (v : Outside) → IsCodeState v → CodeFills v → has_mark {U = Url} (Out v) ≡ true → (q : Quoting) (tag : Tag) (text bytes : List ℕ)
    → ReadsInCode q text bytes
    → Leads (in_style q tag (Out v)) text bytes
code-leads v c own m q tag text bytes k =
    style-leads q tag (Out v) text bytes (url_bytes q k.characters) (read-as q k.characters bytes k.as_they_are k.written)
    (code-values v c own m q text bytes k)

-- in a string
pub string-leads : (j : Quote) (q : Quoting) (tag : Tag) (text bytes : List ℕ)
    → IsBackInLanguage (IsBackInString urls text) (last_of (quotes_at q)) bytes
    → Leads (in_style q tag (Out (InString j NoEscape))) text bytes
string-leads j q tag text bytes k =
    style-leads q tag (Out (InString j NoEscape)) text bytes (url_bytes q k.characters) (read-as q k.characters bytes k.as_they_are k.written)
    (string-filled j q text k.characters (either q k.characters (λ bs. IsPlainInStyle urls bs (Out (InString j NoEscape))) (k.there.plain j)
    (string-failsafe j)) k.there.reads)

-- in a comment
pub comment-leads : (v : Outside) → IsCommentState v → NoneFills v → (q : Quoting) (tag : Tag) (text bytes : List ℕ)
    → IsBackByLast (last_of (quotes_at q)) [] bytes
    → Leads (in_style q tag (Out v)) text bytes
comment-leads v c own q tag text bytes k =
    style-leads q tag (Out v) text bytes (url_bytes q []) (read-as q [] bytes refl k) (comment-filled v c own q text)

-- in a URL
pub url-style-leads : (g : UrlForm) (x : Url) → UrlTakesHole g → (q : Quoting) (tag : Tag) (datum : Data) (bytes : List ℕ) → x.triple ≡ NoTriple
    → refuses_hole_in x.part ≡ None
    → IsBackBy (url_chain (parts_of x.part) (last_of (quotes_at q))) datum bytes → Leads (in_style q tag (InUrl g x)) (printed datum) bytes
url-style-leads g x o q tag datum bytes e n k =
    let own = url-promise x.part (last_of (quotes_at q)) datum bytes n k in
    style-leads q tag (InUrl g x) (printed datum) bytes (url_bytes q own.characters) (read-as q own.characters bytes own.as_they_are own.written)
    (url-filled g x o q (printed datum) own.characters (either q own.characters (StaysInUrl urls) own.stays (failsafe-stays urls)) own.there.reads
    (λ z a. either q own.characters (λ bs. IsPlainInUrl bs z) (own.there.plain x z refl a e) (failsafe-plain x z a e n)))

-- where a style without quotes is to begin
begun-read : (tag : Tag) (chars bytes : List ℕ) → read_as_text chars ≡ chars → IsBackByLast san.AttrNospace chars bytes → (t : List LexEvent)
    → read Page bytes (config (BeforeAttributeValue tag kind.Style) t)
    ≡ config (in_style Unquoted tag (style_fed style_start (url_bytes Unquoted chars))) (style_told style_start (url_bytes Unquoted chars) t)
begun-read tag chars bytes e k t =
    k.reads_unbegun tag kind.Style t ∙ ap (λ (z : List ℕ). read_value Unquoted tag (ValueOf (OfStyle style_start)) z t) (url-value chars e)
    ∙ style-value Unquoted tag style_start (url_bytes Unquoted chars) t

pub style-begun-leads : (tag : Tag) (text bytes : List ℕ) → IsBackInLanguage (IsBackInCode urls text) san.AttrNospace bytes
    → LeadsOn (BeforeAttributeValue tag kind.Style) text bytes
style-begun-leads tag text bytes k vs t m d l r =
    let s : LexState ValueState = BeforeAttributeValue tag kind.Style in
    let bs = url_bytes Unquoted k.characters in
    let own = raw-there s vs t m d tt l r in
    let z = style_fed style_start bs in
    let g = (code-values (Between false) tt (λ q text vs. refl) refl Unquoted text bytes k).goes vs style_start style_start t d.emitted
    style-laws.begins (inl (refl, tt)) own.1 in
    led (value_fillings (ValueOf (OfStyle style_start)) Unquoted text vs) _ _
    (config (in_style Unquoted tag (style_behind urls style_start z)) (Mark ∷ t))
    (config (in_style Unquoted tag z) (style_told style_start bs d.emitted))
    (ap (marked bytes) l ∙ marked-is s (in_style Unquoted tag z) bytes t _ (begun-read tag k.characters bytes k.as_they_are k.written []))
    (ap (read Page bytes) own.0 ∙ begun-read tag k.characters bytes k.as_they_are k.written d.emitted)
    (OfStyle z, refl, (g.0, g.1))
