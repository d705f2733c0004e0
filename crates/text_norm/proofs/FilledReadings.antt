-- A page fills its path with texts where it reads as the path with these texts does.
use Rattle.std.proofs.Common.{◌≡◌, ◌≤◌, ◌+◌, ℕ, suc, Bool, true, false, List, [], ◌∷◌, ◌++◌, ◌⊎◌, inl, inr, length, arith, refl, sym, ap, ap₂, ◌∙◌, subst}
use Rattle.css_lexer.specs.Classes.{style_class}
use Rattle.css_lexer.specs.Events.{StyleEvent, RunBlank, InsideUrl}
use Rattle.css_lexer.specs.Steps.{style_emits, style_ends}
use Rattle.css_lexer.specs.Urls.{urls}
use Rattle.js_lexer.specs.Events.{ScriptEvent}
use Rattle.js_lexer.specs.Feeding.{script_emits, script_ends}
use Rattle.js_lexer.specs.Holes.{script_emits_settled}
use Rattle.place_core.specs.page.Events.{AttributeBegins, InsideStyle, LexEvent, Mark, ValueScheme, attribute_name_bytes, event_text_bytes, told_in_script, told_in_style, value_bytes}
use Rattle.place_core.specs.page.Html.{read, start}
use Rattle.place_core.specs.page.Paths.{Hole, Symbol, Written, at_hole, mark_in, read_node, read_path}
use Rattle.place_core.specs.page.References.{Closed, Open, Reference}
use Rattle.place_core.specs.page.States.{AfterAttributeName, AfterAttributeValue, AttributeValue, BeforeAttributeName, BeforeAttributeValue, Bytes, Characters, Config, Content, InContent, InLanguage, LexState, Nothing, Page, Pending, SelfClosingStartTag, Text, config}
use Rattle.place_core.specs.page.Tags.{DoubleQuoted, Quoting, SingleQuoted, Tag, Deciding, Unquoted, Value, ValueOf, ValueState, OfKind, OfUrl, OfStyle, OfScript, attribute_value_of, emits_state, emits_value_settled, emitted_hole, emitted_settled, ends_state, has_mark_in, holed_value, languages, mark_if, with_bytes, value_is_script, value_may_end, value_after_cut, feed_value}
use Rattle.place_core.specs.place.Errors.{node}
use Rattle.place_core.specs.declared.element.Element.{Element}
use Rattle.place_core.specs.declared.kind.Kind.{Kind}
use Rattle.place_core.specs.declared.kind.Kind.TheVariants as kind
use Rattle.san_html.proofs.EscapedText.{same-kind, value-told}
use Rattle.san_html.specs.ReadBack.{as_name, as_unquoted, in_value, read_as_text}
use Rattle.text_norm.proofs.EmittedAlike.{EmitsAlike, IsOwn, node-alike}
use Rattle.text_norm.proofs.FilledEvents.{SchemesSame, fills-keep, fills-mark, scheme_in_style}
use Rattle.text_norm.proofs.FilledMarks.{name-run, text-run, value-run, node-state}
use Rattle.text_norm.proofs.StatesBeside.{StandBeside}
use Rattle.text_norm.proofs.StyleTells.{settled-tells}
use Rattle.text_norm.proofs.SureStates.{SureBeside, nodes-fill, script-told, style-byte, style-end, sure-fed}
use Rattle.text_norm.specs.FilledReadings.{FilledPathsAreReadings, HolesTake, IsSaidByText, IsSaidInValue, AreSaidByTexts, ReadingsAreFilledPaths, TakesContent, TakesHole, TakesValue, holes_filled, holes_in, read_filled}
use Rattle.text_norm.specs.Fillings.{BlankIsTold, BlockSite, CodeSite, Filling, Fills, FitsAt, IsCodeSite, MarkSite, NameSite, QuotedSite, ScriptCodeSite, ScriptRegexpSite, ScriptStringSite, StringSite, StyleUrlSite, TextSite, UnquotedSite, UrlSite, filling, fillings_along, fillings_at}
use Rattle.url_lexer.specs.Events.{Free, Named, NoScheme, ToldScheme, UrlEnds, UrlEvent, scheme_at_end, told_scheme}
use Rattle.url_lexer.specs.Schemes.{UrlScheme, SchemeAhead, SchemeSoFar, SchemeIs, SchemeAbsent, SchemeUnknown}
use Rattle.url_lexer.specs.States.{Url}

-- Where a mark has one run, what the path emits and its fillings determine what the page emits.
abbrev pub IsOneRun : MarkSite → Type 0
IsOneRun BlockSite = ⊥
IsOneRun (UrlSite q part) = ⊥
IsOneRun (CodeSite q) = ⊥
IsOneRun (StringSite q quote) = ⊥
IsOneRun (StyleUrlSite q part) = ⊥
IsOneRun ScriptCodeSite = ⊥
IsOneRun (ScriptStringSite q quote) = ⊥
IsOneRun ScriptRegexpSite = ⊥
IsOneRun _ = Unit {0}

abbrev pub HaveOneRun : List Filling → Type 0
HaveOneRun [] = Unit {0}
HaveOneRun (v ∷ vs) = IsOneRun v.site × HaveOneRun vs

abbrev head_or : Filling → List Filling → Filling
head_or v [] = v
head_or v (w ∷ ws) = w

abbrev rest_of : List Filling → List Filling
rest_of [] = []
rest_of (w ∷ ws) = ws

one-run : (site : MarkSite) (text : List ℕ) (t u r q : List LexEvent) → IsOneRun site → FitsAt site text t r → FitsAt site text u q → r ≡ q
one-run BlockSite text t u r q n f g = absurd n
one-run (UrlSite s part) text t u r q n f g = absurd n
one-run (CodeSite s) text t u r q n f g = absurd n
one-run (StringSite s quote) text t u r q n f g = absurd n
one-run (StyleUrlSite s part) text t u r q n f g = absurd n
one-run ScriptCodeSite text t u r q n f g = absurd n
one-run (ScriptStringSite s quote) text t u r q n f g = absurd n
one-run ScriptRegexpSite text t u r q n f g = absurd n
one-run TextSite text t u r q n f g = f ∙ sym g
one-run QuotedSite text t u r q n f g = f ∙ sym g
one-run UnquotedSite text t u r q n f g = f ∙ sym g
one-run NameSite text t u r q n f g = f ∙ sym g

-- no scheme is one that data chooses
abbrev pub AreSure : List LexEvent → Type 0
AreSure [] = Unit {0}
AreSure (ValueScheme Free ∷ t) = ⊥
AreSure (InsideStyle (InsideUrl (UrlEnds Free)) ∷ t) = ⊥
AreSure (e ∷ t) = AreSure t

scheme-one : (event : ToldScheme → LexEvent) (s r q : ToldScheme) (a b : LexEvent) → r ≡ s → q ≡ s → a ≡ event r → b ≡ event q → a ≡ b
scheme-one event s r q a b e h k l = k ∙ ap event (e ∙ sym h) ∙ sym l

abbrev in_style_scheme : ToldScheme → LexEvent
in_style_scheme s = InsideStyle (InsideUrl (UrlEnds s))

-- no value is in code, so that a blank is told by itself
no-code : {A : Type 0} (site : MarkSite) → IsOneRun site → IsCodeSite site → A
no-code (CodeSite q) n c = absurd n
no-code TextSite n c = absurd c
no-code BlockSite n c = absurd c
no-code QuotedSite n c = absurd c
no-code UnquotedSite n c = absurd c
no-code NameSite n c = absurd c
no-code (UrlSite q part) n c = absurd c
no-code (StringSite q quote) n c = absurd c
no-code (StyleUrlSite q part) n c = absurd c
no-code ScriptCodeSite n c = absurd c
no-code (ScriptStringSite q quote) n c = absurd c
no-code ScriptRegexpSite n c = absurd c

none-told : {A : Type 0} (vs : List Filling) (u : List LexEvent) → HaveOneRun vs → BlankIsTold vs u → A
none-told [] u h b = absurd b
none-told (v ∷ vs) u h b = no-code v.site h.0 b.0

blank-one : (t : List LexEvent) (vs : List Filling) (u w : List LexEvent) → HaveOneRun vs
    → ((u w : List LexEvent) → Fills t vs u → Fills t vs w → u ≡ w)
    → Fills (InsideStyle RunBlank ∷ t) vs u → Fills (InsideStyle RunBlank ∷ t) vs w → u ≡ w
blank-one t vs u w h same (inl f) (inl g) =
    f.2 ∙ ap₂ (λ (a : LexEvent) (b : List LexEvent). a ∷ b) (f.3 ∙ sym g.3) (same f.1 g.1 f.4 g.4) ∙ sym g.2
blank-one t vs u w h same (inr f) g = none-told vs u h f.0
blank-one t vs u w h same (inl f) (inr g) = none-told vs w h g.0

pub fills-one : (t : List LexEvent) (vs : List Filling) (u w : List LexEvent) → HaveOneRun vs → AreSure t → Fills t vs u → Fills t vs w → u ≡ w
fills-one [] vs u w h n f g = f.1 ∙ sym g.1
fills-one (Mark ∷ t) vs u w h n f g =
    let same = sym f.4 ∙ g.4 in
    let value : f.0 ≡ g.0 = ap (head_or f.0) same in
    let values : f.1 ≡ g.1 = ap rest_of same in
    let own : HaveOneRun (f.0 ∷ f.1) = subst HaveOneRun f.4 h in
    let also : FitsAt f.0.site f.0.text g.3 g.2 = subst (λ (v : Filling). FitsAt v.site v.text g.3 g.2) (sym value) g.6 in
    let run : f.2 ≡ g.2 = one-run f.0.site f.0.text f.3 g.3 f.2 g.2 own.0 f.6 also in
    let rest : f.3 ≡ g.3 = fills-one t f.1 f.3 g.3 own.1 n f.7 (subst (λ (z : List Filling). Fills t z g.3) (sym values) g.7) in
    f.5 ∙ ap₂ (λ (a b : List LexEvent). a ++ b) run rest ∙ sym g.5
fills-one (ValueScheme Free ∷ t) vs u w h n f g = absurd n
fills-one (ValueScheme (Named letters) ∷ t) vs u w h n f g =
    f.2 ∙ ap₂ (λ (a : LexEvent) (b : List LexEvent). a ∷ b) (scheme-one ValueScheme (Named letters) f.3.0 g.3.0 f.0 g.0 f.3.2 g.3.2 f.3.1 g.3.1)
    (fills-one t vs f.1 g.1 h n f.4 g.4) ∙ sym g.2
fills-one (ValueScheme NoScheme ∷ t) vs u w h n f g =
    f.2 ∙ ap₂ (λ (a : LexEvent) (b : List LexEvent). a ∷ b) (scheme-one ValueScheme NoScheme f.3.0 g.3.0 f.0 g.0 f.3.2 g.3.2 f.3.1 g.3.1)
    (fills-one t vs f.1 g.1 h n f.4 g.4) ∙ sym g.2
fills-one (InsideStyle RunBlank ∷ t) vs u w h n f g = blank-one t vs u w h (λ a b k l. fills-one t vs a b h n k l) f g
fills-one (InsideStyle (InsideUrl (UrlEnds Free)) ∷ t) vs u w h n f g = absurd n
fills-one (InsideStyle (InsideUrl (UrlEnds (Named letters))) ∷ t) vs u w h n f g =
    f.2 ∙ ap₂ (λ (a : LexEvent) (b : List LexEvent). a ∷ b) (scheme-one in_style_scheme (Named letters) f.3.0 g.3.0 f.0 g.0 f.3.2 g.3.2 f.3.1 g.3.1)
    (fills-one t vs f.1 g.1 h n f.4 g.4) ∙ sym g.2
fills-one (InsideStyle (InsideUrl (UrlEnds NoScheme)) ∷ t) vs u w h n f g =
    f.2 ∙ ap₂ (λ (a : LexEvent) (b : List LexEvent). a ∷ b) (scheme-one in_style_scheme NoScheme f.3.0 g.3.0 f.0 g.0 f.3.2 g.3.2 f.3.1 g.3.1)
    (fills-one t vs f.1 g.1 h n f.4 g.4) ∙ sym g.2
fills-one (e ∷ t) vs u w h n f g =
    f.2 ∙ ap₂ (λ (a : LexEvent) (b : List LexEvent). a ∷ b) (f.3 ∙ sym g.3) (fills-one t vs f.1 g.1 h n f.4 g.4) ∙ sym g.2

-- A path without holes in URLs is sure of each scheme: in its values no hole has made one free.
abbrev pub IsSure : LexState ValueState → Type 0
IsSure s = StandBeside SureBeside s s

keeps-sure : (e : LexEvent) (t u : List LexEvent) → IsOwn e → AreSure u → AreSure (e ∷ u)
keeps-sure (ValueScheme s) t u o f = absurd o
keeps-sure Mark t u o f = absurd o
keeps-sure (InsideStyle (InsideUrl (UrlEnds s))) t u o f = absurd o
keeps-sure _ t u o f = f

sure-scheme : (s : UrlScheme) (t : List LexEvent) → AreSure t → AreSure (ValueScheme (scheme_at_end s) ∷ t)
sure-scheme SchemeAhead t f = f
sure-scheme (SchemeSoFar letters) t f = f
sure-scheme (SchemeIs letters) t f = f
sure-scheme SchemeAbsent t f = f
sure-scheme SchemeUnknown t f = f

sure-style-scheme : (s : UrlScheme) (t : List LexEvent) → AreSure t → AreSure (in_style_scheme (scheme_at_end s) ∷ t)
sure-style-scheme SchemeAhead t f = f
sure-style-scheme (SchemeSoFar letters) t f = f
sure-style-scheme (SchemeIs letters) t f = f
sure-style-scheme SchemeAbsent t f = f
sure-style-scheme SchemeUnknown t f = f

abbrev Sure : List LexEvent → List LexEvent → Type 0
Sure t u = AreSure u

sure-in-style : (z y : Url) (t u : List LexEvent) → SchemesSame z y → AreSure u → AreSure (scheme_in_style y ∷ u)
sure-in-style z y t u a f = subst (λ (b : Bool). AreSure (in_style_scheme (told_scheme b y.scheme) ∷ u)) (sym a.bound)
    (sure-style-scheme y.scheme u f)

sure-ends : (v w : ValueState) (t u : List LexEvent) → SureBeside v w → AreSure u → AreSure (ends_state w u)
sure-ends (OfKind k) w t u a f = subst (λ (z : ValueState). AreSure (ends_state z u)) (sym a) f
sure-ends (OfUrl z) (OfUrl w) t u a f = subst (λ (b : Bool). AreSure (ValueScheme (told_scheme b w.scheme) ∷ u)) (sym a.bound) (sure-scheme w.scheme u f)
sure-ends (OfUrl z) _ t u a f = absurd a
sure-ends (OfStyle s) w t u a f =
    subst (λ (z : ValueState). AreSure (ends_state z u)) (sym a.0) (style-end Sure keeps-sure sure-in-style s t u a.1 f)
sure-ends (OfScript s) w t u a f =
    subst (λ (z : ValueState). AreSure (ends_state z u)) (sym a) (script-told Sure keeps-sure (script_ends s []) t u f)

sure-byte : (v w : ValueState) (b : ℕ) (t u : List LexEvent) → SureBeside v w → AreSure u → AreSure (emits_state w b u)
sure-byte (OfKind k) w b t u a f = subst (λ (z : ValueState). AreSure (emits_state z b u)) (sym a) f
sure-byte (OfUrl z) (OfUrl w) b t u a f = f
sure-byte (OfUrl z) _ b t u a f = absurd a
sure-byte (OfStyle s) w b t u a f =
    subst (λ (z : ValueState). AreSure (emits_state z b u)) (sym a.0) (style-byte Sure keeps-sure sure-in-style s (style_class b) b t u a.1 f)
sure-byte (OfScript s) w b t u a f =
    subst (λ (z : ValueState). AreSure (emits_state z b u)) (sym a) (script-told Sure keeps-sure (script_emits s b []) t u f)

sure-emits : EmitsAlike ValueState languages SureBeside Sure
sure-emits = record { fed = sure-fed; emits = sure-byte; ends = sure-ends }

sure-node : (bytes : List ℕ) (c : Config ValueState) → IsSure c.at → AreSure c.emitted → AreSure (read_node languages bytes c).emitted
sure-node bytes c a f = (node-alike Sure keeps-sure ValueState languages SureBeside sure-emits bytes c c a f).1

sure-pending : (v : ValueState) (t : List LexEvent) → AreSure t → AreSure (emits_value_settled v t)
sure-pending (OfKind k) t f = f
sure-pending (OfUrl u) t f = f
sure-pending (OfStyle s) t f = settled-tells Sure keeps-sure sure-in-style s t t f
sure-pending (OfScript s) t f = script-told Sure keeps-sure (script_emits_settled s []) t t f

sure-settled : (v : Value ValueState) (t : List LexEvent) → AreSure t → AreSure (emitted_settled languages v t)
sure-settled (ValueOf v) t f = sure-pending v t f
sure-settled (Deciding k before) t f = f

sure-if : (has : Bool) (t : List LexEvent) → AreSure t → AreSure (mark_if has t)
sure-if true t f = f
sure-if false t f = f

sure-value : (v : Value ValueState) (t : List LexEvent) → AreSure t → AreSure (emitted_hole languages v t)
sure-value v t f = sure-if (has_mark_in languages v) (emitted_settled languages v t) (sure-settled v t f)

sure-mark : (s : LexState ValueState) (t : List LexEvent) → TakesHole s → AreSure t → AreSure (mark_in languages s t)
sure-mark (Text r) t h f = f
sure-mark (BeforeAttributeName tag) t h f = f
sure-mark (AfterAttributeName tag k) t h f = f
sure-mark (BeforeAttributeValue tag k) t h f = sure-value (attribute_value_of languages k) t f
sure-mark (AttributeValue q tag v r) t h f = sure-value v t f
sure-mark (AfterAttributeValue tag) t h f = f
sure-mark (SelfClosingStartTag tag) t h f = f
sure-mark (InContent e (Characters r) p) t h f = f
sure-mark (InContent e Bytes p) t h f = f
sure-mark (InContent e (InLanguage v) p) t h f = absurd h
sure-mark _ t h f = f

sure-value-hole : (v : Value ValueState) (r : Reference) (q : Quoting) (tag : Tag) → TakesValue v r → IsSure (AttributeValue q tag (holed_value languages v) r)
sure-value-hole (ValueOf (OfKind k)) Closed q tag h = (OfKind k, refl, refl)
sure-value-hole _ _ q tag h = absurd h

sure-hole : (s : LexState ValueState) → TakesHole s → IsSure s → IsSure (at_hole languages s)
sure-hole (AttributeValue q tag v r) h a = sure-value-hole v r q tag h
sure-hole (BeforeAttributeValue tag k) h a = sure-value-hole (attribute_value_of languages k) Closed Unquoted tag h
sure-hole (InContent e (Characters r) p) h a = refl
sure-hole (InContent e Bytes p) h a = absurd h
sure-hole (InContent e (InLanguage v) p) h a = absurd h
sure-hole _ h a = refl

-- a hole with its text in the place of its mark
record IsFilledHole (s : LexState ValueState) (text : List ℕ) (vs : List Filling) (t u : List LexEvent) : Type 0 where
  at : (holes_filled s text u).at ≡ at_hole languages s
  fills : Fills (mark_in languages s t) (fillings_at s text vs) (holes_filled s text u).emitted

by-run : (site : MarkSite) (text : List ℕ) (vs : List Filling) (run t u emitted : List LexEvent) → FitsAt site text u run → emitted ≡ run ++ u
    → Fills t vs u → Fills (Mark ∷ t) (filling site text ∷ vs) emitted
by-run site text vs run t u emitted fits e f =
    subst (Fills (Mark ∷ t) (filling site text ∷ vs)) (sym e) (fills-mark (filling site text) vs run t u fits f)

in-kind : (q : Quoting) (tag : Tag) (k : Kind) (bs : List ℕ)
    → in_value q tag (with_bytes languages (ValueOf (OfKind k)) bs) ≡ in_value q tag (ValueOf (OfKind k))
in-kind q tag k bs = ap (in_value q tag) (same-kind k bs)

value-hole : (q : Quoting) (tag : Tag) (k : Kind) (text : List ℕ) (vs : List Filling) (t u : List LexEvent) → Fills t vs u
    → IsFilledHole (in_value q tag (ValueOf (OfKind k))) text vs t u
value-hole Unquoted tag k text vs t u f = record {
  at = in-kind Unquoted tag k (as_unquoted text);
  fills = by-run UnquotedSite text vs (value_bytes (as_unquoted text) []) t u _ refl
      (value-told (as_unquoted text) (ValueOf (OfKind k)) u ∙ value-run (as_unquoted text) [] u) f;
}
value-hole DoubleQuoted tag k text vs t u f = record {
  at = in-kind DoubleQuoted tag k (read_as_text text);
  fills = by-run QuotedSite text vs (value_bytes (read_as_text text) []) t u _ refl
      (value-told (read_as_text text) (ValueOf (OfKind k)) u ∙ value-run (read_as_text text) [] u) f;
}
value-hole SingleQuoted tag k text vs t u f = record {
  at = in-kind SingleQuoted tag k (read_as_text text);
  fills = by-run QuotedSite text vs (value_bytes (read_as_text text) []) t u _ refl
      (value-told (read_as_text text) (ValueOf (OfKind k)) u ∙ value-run (read_as_text text) [] u) f;
}

name-fills : (text : List ℕ) (vs : List Filling) (t u : List LexEvent) → Fills t vs u
    → Fills (Mark ∷ AttributeBegins ∷ t) (filling NameSite text ∷ vs) (attribute_name_bytes (as_name text) (AttributeBegins ∷ u))
name-fills text vs t u f =
    by-run NameSite text vs (attribute_name_bytes (as_name text) []) (AttributeBegins ∷ t) (AttributeBegins ∷ u) _ refl
    (name-run (as_name text) [] (AttributeBegins ∷ u)) (fills-keep vs AttributeBegins t u tt f)

before-hole : (tag : Tag) (k : Kind) (text : List ℕ) (vs : List Filling) (t u : List LexEvent) → TakesHole (BeforeAttributeValue tag k)
    → Fills t vs u → IsFilledHole (BeforeAttributeValue tag k) text vs t u
before-hole tag kind.ScriptType text vs t u h f = absurd h
before-hole tag kind.Url text vs t u h f = absurd h
before-hole tag kind.Style text vs t u h f = absurd h
before-hole tag kind.Script text vs t u h f = absurd h
before-hole tag k text vs t u h f = record {
  at = in-kind Unquoted tag k (as_unquoted text);
  fills = by-run UnquotedSite text vs (value_bytes (as_unquoted text) []) t u _ refl
      (value-told (as_unquoted text) (ValueOf (OfKind k)) u ∙ value-run (as_unquoted text) [] u) f;
}

attribute-hole : (v : Value ValueState) (r : Reference) (q : Quoting) (tag : Tag) (text : List ℕ) (vs : List Filling) (t u : List LexEvent)
    → TakesValue v r → Fills t vs u → IsFilledHole (AttributeValue q tag v r) text vs t u
attribute-hole (ValueOf (OfKind k)) Closed q tag text vs t u h f = value-hole q tag k text vs t u f
attribute-hole _ _ q tag text vs t u h f = absurd h

content-hole : (y : Content ValueState) (p : Pending) (e : Element) (text : List ℕ) (vs : List Filling) (t u : List LexEvent)
    → TakesContent y p → Fills t vs u → IsFilledHole (InContent e y p) text vs t u
content-hole (Characters r) Nothing e text vs t u h f = record {
  at = refl;
  fills = by-run TextSite text vs (event_text_bytes (read_as_text text) []) t u _ refl (text-run (read_as_text text) [] u) f;
}
content-hole _ _ e text vs t u h f = absurd h

hole-filled : (s : LexState ValueState) (text : List ℕ) (vs : List Filling) (t u : List LexEvent) → TakesHole s → Fills t vs u
    → IsFilledHole s text vs t u
hole-filled (Text r) text vs t u h f = record {
  at = refl;
  fills = by-run TextSite text vs (event_text_bytes (read_as_text text) []) t u _ refl (text-run (read_as_text text) [] u) f;
}
hole-filled (InContent e y p) text vs t u h f = content-hole y p e text vs t u h f
hole-filled (AttributeValue q tag v r) text vs t u h f = attribute-hole v r q tag text vs t u h f
hole-filled (BeforeAttributeValue tag k) text vs t u h f = before-hole tag k text vs t u h f
hole-filled (BeforeAttributeName tag) text vs t u h f = record { at = refl; fills = name-fills text vs t u f }
hole-filled (AfterAttributeName tag k) text vs t u h f = record { at = refl; fills = name-fills text vs t u f }
hole-filled (AfterAttributeValue tag) text vs t u h f = record { at = refl; fills = name-fills text vs t u f }
hole-filled (SelfClosingStartTag tag) text vs t u h f = record { at = refl; fills = name-fills text vs t u f }
hole-filled _ text vs t u h f = record { at = refl; fills = f }

-- the path with texts fills the path with marks, is in its state, and is sure of its schemes
record IsFilledReading (symbols : List Symbol) (texts : List (List ℕ)) (s : LexState ValueState) (vs : List Filling) (t u : List LexEvent)
    : Type 0 where
  at : (read_filled symbols texts (config s u)).at ≡ (read_path languages symbols (config s t)).at
  fills : Fills (read_path languages symbols (config s t)).emitted (fillings_along symbols texts s vs)
      (read_filled symbols texts (config s u)).emitted
  sure : AreSure (read_path languages symbols (config s t)).emitted

reading-fills : (symbols : List Symbol) (texts : List (List ℕ)) (s : LexState ValueState) (vs : List Filling) (t u : List LexEvent)
    → HolesTake symbols texts s → IsSure s → AreSure t → Fills t vs u → IsFilledReading symbols texts s vs t u
reading-fills [] texts s vs t u h a n f = record { at = refl; fills = f; sure = n }
reading-fills (Written bytes ∷ symbols) texts s vs t u h a n f =
    let c = read_node languages bytes (config s t) in
    let d = read_node languages bytes (config s u) in
    let p = sym (node-state bytes s t) in
    let q = sym (node-state bytes s u) in
    let k = nodes-fill vs bytes (config s t) (config s u) (record { at = a; fills = f }) in
    let there = subst (λ (z : LexState ValueState). StandBeside SureBeside z (node bytes s)) (node-state bytes s t)
    (subst (StandBeside SureBeside c.at) (node-state bytes s u) k.at) in
    let r = reading-fills symbols texts (node bytes s) vs c.emitted d.emitted h there (sure-node bytes (config s t) a n) k.fills in
    record {
      at = subst (λ (z : LexState ValueState). (read_filled symbols texts (config z d.emitted)).at ≡ (read_path languages symbols c).at) q
          (subst (λ (z : LexState ValueState). (read_filled symbols texts (config (node bytes s) d.emitted)).at
          ≡ (read_path languages symbols (config z c.emitted)).at) p r.at);
      fills = subst (λ (z : LexState ValueState). Fills (read_path languages symbols c).emitted (fillings_along symbols texts (node bytes s) vs)
          (read_filled symbols texts (config z d.emitted)).emitted) q
          (subst (λ (z : LexState ValueState). Fills (read_path languages symbols (config z c.emitted)).emitted
          (fillings_along symbols texts (node bytes s) vs) (read_filled symbols texts (config (node bytes s) d.emitted)).emitted) p r.fills);
      sure = subst (λ (z : LexState ValueState). AreSure (read_path languages symbols (config z c.emitted)).emitted) p r.sure;
    }
reading-fills (Hole ∷ symbols) [] s vs t u h a n f = absurd h
reading-fills (Hole ∷ symbols) (text ∷ texts) s vs t u h a n f =
    let b = hole-filled s text vs t u h.0 f in
    let emitted = (holes_filled s text u).emitted in
    let r = reading-fills symbols texts (at_hole languages s) (fillings_at s text vs) (mark_in languages s t) emitted h.1 (sure-hole s h.0 a) (sure-mark s t h.0 n) b.fills in
    let own = sym b.at in
    let marked = read_path languages symbols (config (at_hole languages s) (mark_in languages s t)) in
    record {
      at = subst (λ (z : LexState ValueState). (read_filled symbols texts (config z emitted)).at ≡ marked.at) own r.at;
      fills = subst (λ (z : LexState ValueState). Fills marked.emitted (fillings_along symbols texts (at_hole languages s) (fillings_at s text vs))
          (read_filled symbols texts (config z emitted)).emitted) own r.fills;
      sure = r.sure;
    }

pub readings-are-filled-paths : ReadingsAreFilledPaths
readings-are-filled-paths symbols texts page h e =
    let r = reading-fills symbols texts start.at [] [] [] h refl tt (refl, refl) in
    let path = read_path languages symbols start in
    record {
      ends = ap (λ (c : Config ValueState). c.at) e ∙ r.at;
      events = subst (λ (c : Config ValueState). Fills path.emitted (fillings_along symbols texts start.at []) c.emitted) (sym e) r.fills;
    }

-- each filling of holes that have one run has one
attribute-run : (v : Value ValueState) (r : Reference) (q : Quoting) (tag : Tag) (text : List ℕ) (vs : List Filling) → TakesValue v r
    → HaveOneRun vs → HaveOneRun (fillings_at (AttributeValue q tag v r) text vs)
attribute-run (ValueOf (OfKind k)) Closed DoubleQuoted tag text vs h o = (tt, o)
attribute-run (ValueOf (OfKind k)) Closed SingleQuoted tag text vs h o = (tt, o)
attribute-run (ValueOf (OfKind k)) Closed Unquoted tag text vs h o = (tt, o)
attribute-run _ _ q tag text vs h o = absurd h

before-run : (k : Kind) (tag : Tag) (text : List ℕ) (vs : List Filling) → TakesHole (BeforeAttributeValue tag k)
    → HaveOneRun vs → HaveOneRun (fillings_at (BeforeAttributeValue tag k) text vs)
before-run kind.ScriptType tag text vs h o = absurd h
before-run kind.Url tag text vs h o = absurd h
before-run kind.Style tag text vs h o = absurd h
before-run kind.Script tag text vs h o = absurd h
before-run k tag text vs h o = (tt, o)

content-run : (y : Content ValueState) (p : Pending) (e : Element) (text : List ℕ) (vs : List Filling) → TakesContent y p
    → HaveOneRun vs → HaveOneRun (fillings_at (InContent e y p) text vs)
content-run (Characters r) Nothing e text vs h o = (tt, o)
content-run _ _ e text vs h o = absurd h

hole-run : (s : LexState ValueState) (text : List ℕ) (vs : List Filling) → TakesHole s → HaveOneRun vs → HaveOneRun (fillings_at s text vs)
hole-run (Text r) text vs h o = (tt, o)
hole-run (InContent e y p) text vs h o = content-run y p e text vs h o
hole-run (AttributeValue q tag v r) text vs h o = attribute-run v r q tag text vs h o
hole-run (BeforeAttributeValue tag k) text vs h o = before-run k tag text vs h o
hole-run (BeforeAttributeName tag) text vs h o = (tt, o)
hole-run (AfterAttributeName tag k) text vs h o = (tt, o)
hole-run (AfterAttributeValue tag) text vs h o = (tt, o)
hole-run (SelfClosingStartTag tag) text vs h o = (tt, o)
hole-run _ text vs h o = o

runs-along : (symbols : List Symbol) (texts : List (List ℕ)) (s : LexState ValueState) (vs : List Filling) → HolesTake symbols texts s
    → HaveOneRun vs → HaveOneRun (fillings_along symbols texts s vs)
runs-along [] texts s vs h o = o
runs-along (Written bytes ∷ symbols) texts s vs h o = runs-along symbols texts (node bytes s) vs h o
runs-along (Hole ∷ symbols) [] s vs h o = absurd h
runs-along (Hole ∷ symbols) (text ∷ texts) s vs h o =
    runs-along symbols texts (at_hole languages s) (fillings_at s text vs) h.1 (hole-run s text vs h.0 o)

-- A list that is filled has as many marks as fillings, and a text of a template has none. So where a path is filled, each of its marks has a
-- filling.
abbrev marks : List LexEvent → ℕ
marks [] = 0
marks (Mark ∷ t) = suc (marks t)
marks (e ∷ t) = marks t

fills-count : (t : List LexEvent) (vs : List Filling) (u : List LexEvent) → Fills t vs u → length vs ≡ marks t
fills-count [] vs u f = ap length f.0
fills-count (Mark ∷ t) vs u f = ap length f.4 ∙ ap suc (fills-count t f.1 f.3 f.7)
fills-count (InsideStyle RunBlank ∷ t) vs u (inl f) = fills-count t vs f.1 f.4
fills-count (InsideStyle RunBlank ∷ t) vs u (inr f) = fills-count t vs u f.1
fills-count (e ∷ t) vs u f = fills-count t vs f.1 f.4

keeps-marks : (n : ℕ) (e : LexEvent) (t u : List LexEvent) → IsOwn e → marks t ≡ n → marks (e ∷ t) ≡ n
keeps-marks n Mark t u o f = absurd o
keeps-marks n _ t u o f = f

told-marks : (es : List (StyleEvent UrlEvent)) (t : List LexEvent) → marks (told_in_style es t) ≡ marks t
told-marks [] t = refl
told-marks (e ∷ es) t = told-marks es t

script-marks : (es : List ScriptEvent) (t : List LexEvent) → marks (told_in_script es t) ≡ marks t
script-marks [] t = refl
script-marks (e ∷ es) t = script-marks es t

same-marks : (v : ValueState) (t : List LexEvent) → marks (ends_state v t) ≡ marks t
same-marks (OfKind k) t = refl
same-marks (OfUrl u) t = refl
same-marks (OfStyle s) t = told-marks (style_ends urls s []) t
same-marks (OfScript s) t = script-marks (script_ends s []) t

byte-marks : (v : ValueState) (b : ℕ) (t : List LexEvent) → marks (emits_state v b t) ≡ marks t
byte-marks (OfKind k) b t = refl
byte-marks (OfUrl u) b t = refl
byte-marks (OfStyle s) b t = told-marks (style_emits urls s b []) t
byte-marks (OfScript s) b t = script-marks (script_emits s b []) t

marks-emits : (n : ℕ) → EmitsAlike ValueState languages (λ v w. v ≡ w) (λ t u. marks t ≡ n)
marks-emits n = record {
  fed = record {
    starts = λ k. refl;
    feeds = λ v w b a. ap (λ (z : ValueState). feed_value z b) a;
    cuts = λ v w a. ap value_after_cut a;
    scripts = λ v w a. ap value_is_script a;
    may_ends = λ v w a. ap value_may_end a;
  };
  emits = λ v w b t u a f. byte-marks v b t ∙ f;
  ends = λ v w t u a f. same-marks v t ∙ f;
}

beside-itself : (s : LexState ValueState) → StandBeside (λ v w. v ≡ w) s s
beside-itself (AttributeValue q tag (ValueOf v) r) = (v, refl, refl)
beside-itself (InContent e (InLanguage v) h) = (v, refl, refl)
beside-itself _ = refl

node-marks : (bytes : List ℕ) (s : LexState ValueState) (t : List LexEvent) → marks (read_node languages bytes (config s t)).emitted ≡ marks t
node-marks bytes s t =
    (node-alike (λ a b. marks a ≡ marks t) (keeps-marks (marks t)) ValueState languages (λ v w. v ≡ w) (marks-emits (marks t)) bytes (config s t) (config s t) (beside-itself s) refl).1

-- either that holds and the numbers are the same, or the first one is less
abbrev Counted : Type 0 → ℕ → ℕ → Type 0
Counted H a b = (H × (a ≡ b)) ⊎ (suc a ≤ b)

one-mark : (m l : ℕ) → suc l + m ≡ suc m + l
one-mark m l = omega arith

no-filling : (m l : ℕ) → suc (l + m) ≤ suc m + l
no-filling m l = omega arith

no-mark : (m l : ℕ) → l + m ≡ m + l
no-mark m l = omega arith

content-count : (y : Content ValueState) (p : Pending) (e : Element) (text : List ℕ) (vs : List Filling) (t : List LexEvent) → IsSaidByText (InContent e y p)
    → Counted (TakesContent y p) (length (fillings_at (InContent e y p) text vs) + marks t) (marks (mark_in languages (InContent e y p) t) + length vs)
content-count Bytes p e text vs t n = absurd n
content-count (InLanguage v) p e text vs t n = absurd n
content-count (Characters r) Nothing e text vs t n = inl (tt, one-mark (marks t) (length vs))
content-count (Characters r) _ e text vs t n = inr (no-filling (marks t) (length vs))

attribute-count : (v : Value ValueState) (r : Reference) (q : Quoting) (tag : Tag) (text : List ℕ) (vs : List Filling) (t : List LexEvent)
    → IsSaidInValue v → Counted (TakesValue v r) (length (fillings_at (AttributeValue q tag v r) text vs) + marks t)
    (marks (mark_in languages (AttributeValue q tag v r) t) + length vs)
attribute-count (ValueOf (OfKind k)) Closed q tag text vs t n = inl (tt, one-mark (marks t) (length vs))
attribute-count (ValueOf (OfUrl u)) r q tag text vs t n = absurd n
attribute-count (ValueOf (OfStyle s)) r q tag text vs t n = absurd n
attribute-count (ValueOf (OfScript s)) r q tag text vs t n = absurd n
attribute-count (ValueOf (OfKind k)) (Open f h) q tag text vs t n = inr (no-filling (marks t) (length vs))
attribute-count (Deciding k before) Closed q tag text vs t n = inr (no-filling (marks t) (length vs))
attribute-count (Deciding k before) (Open f h) q tag text vs t n = inr (no-filling (marks t) (length vs))

before-count : (k : Kind) (tag : Tag) (text : List ℕ) (vs : List Filling) (t : List LexEvent) → IsSaidByText (BeforeAttributeValue tag k)
    → Counted (TakesHole (BeforeAttributeValue tag k)) (length (fillings_at (BeforeAttributeValue tag k) text vs) + marks t)
    (marks (mark_in languages (BeforeAttributeValue tag k) t) + length vs)
before-count kind.ScriptType tag text vs t n = inr (no-filling (marks t) (length vs))
before-count kind.Url tag text vs t n = absurd n
before-count kind.Style tag text vs t n = absurd n
before-count kind.Script tag text vs t n = absurd n
before-count k tag text vs t n = inl (tt, one-mark (marks t) (length vs))

hole-count : (s : LexState ValueState) (text : List ℕ) (vs : List Filling) (t : List LexEvent) → IsSaidByText s
    → Counted (TakesHole s) (length (fillings_at s text vs) + marks t) (marks (mark_in languages s t) + length vs)
hole-count (Text r) text vs t n = inl (tt, one-mark (marks t) (length vs))
hole-count (InContent e y p) text vs t n = content-count y p e text vs t n
hole-count (AttributeValue q tag v r) text vs t n = attribute-count v r q tag text vs t n
hole-count (BeforeAttributeValue tag k) text vs t n = before-count k tag text vs t n
hole-count (BeforeAttributeName tag) text vs t n = inl (tt, one-mark (marks t) (length vs))
hole-count (AfterAttributeName tag k) text vs t n = inl (tt, one-mark (marks t) (length vs))
hole-count (AfterAttributeValue tag) text vs t n = inl (tt, one-mark (marks t) (length vs))
hole-count (SelfClosingStartTag tag) text vs t n = inl (tt, one-mark (marks t) (length vs))
hole-count _ text vs t n = inl (tt, no-mark (marks t) (length vs))

both-count : (T H : Type 0) (a l m n r e : ℕ) → Counted T (a + m) (n + l) → Counted H (r + n) (e + a) → Counted (T × H) (r + m) (e + l)
both-count T H a l m n r e (inl p) (inl q) = (let x = p.1 in let y = q.1 in inl ((p.0, q.0), omega (arith, x, y)))
both-count T H a l m n r e (inl p) (inr q) = (let x = p.1 in inr (omega (arith, x, q)))
both-count T H a l m n r e (inr p) (inl q) = (let y = q.1 in inr (omega (arith, p, y)))
both-count T H a l m n r e (inr p) (inr q) = inr (omega (arith, p, q))

no-text : (n : ℕ) → suc n ≡ 0 → ⊥
no-text n e = omega (arith, e)

suc-one : (n m : ℕ) → suc n ≡ suc m → n ≡ m
suc-one n m e = omega (arith, e)

path-count : (symbols : List Symbol) (texts : List (List ℕ)) (s : LexState ValueState) (vs : List Filling) (t : List LexEvent)
    → holes_in symbols ≡ length texts → AreSaidByTexts symbols s
    → Counted (HolesTake symbols texts s) (length (fillings_along symbols texts s vs) + marks t)
    (marks (read_path languages symbols (config s t)).emitted + length vs)
path-count [] texts s vs t e n = inl (tt, no-mark (marks t) (length vs))
path-count (Written bytes ∷ symbols) texts s vs t e n =
    let c = read_node languages bytes (config s t) in
    let r = path-count symbols texts (node bytes s) vs c.emitted e n in
    let here = subst (λ (z : LexState ValueState). Counted (HolesTake symbols texts (node bytes s))
    (length (fillings_along symbols texts (node bytes s) vs) + marks c.emitted)
    (marks (read_path languages symbols (config z c.emitted)).emitted + length vs)) (sym (node-state bytes s t)) r in
    subst (λ (z : ℕ). Counted (HolesTake symbols texts (node bytes s)) (length (fillings_along symbols texts (node bytes s) vs) + z)
    (marks (read_path languages symbols c).emitted + length vs)) (node-marks bytes s t) here
path-count (Hole ∷ symbols) [] s vs t e n = absurd (no-text (holes_in symbols) e)
path-count (Hole ∷ symbols) (text ∷ texts) s vs t e n =
    let also = path-count symbols texts (at_hole languages s) (fillings_at s text vs) (mark_in languages s t) (suc-one (holes_in symbols) (length texts) e) n.1 in
    both-count (TakesHole s) (HolesTake symbols texts (at_hole languages s)) (length (fillings_at s text vs)) (length vs) (marks t)
    (marks (mark_in languages s t)) (length (fillings_along symbols texts (at_hole languages s) (fillings_at s text vs)))
    (marks (read_path languages symbols (config (at_hole languages s) (mark_in languages s t))).emitted) (hole-count s text vs t n.0) also

of-count : (H : Type 0) (a b : ℕ) → a ≡ b → Counted H (a + 0) (b + 0) → H
of-count H a b e (inl p) = p.0
of-count H a b e (inr p) = absurd (omega (arith, e, p))

pub filled-paths-are-readings : FilledPathsAreReadings
filled-paths-are-readings symbols texts page enough none f =
    let path = read_path languages symbols start in
    let along = fillings_along symbols texts start.at [] in
    let count = fills-count path.emitted along (read Page page start).emitted f.events in
    let h = of-count (HolesTake symbols texts start.at) (length along) (marks path.emitted) count
    (path-count symbols texts start.at [] [] enough none) in
    let r = reading-fills symbols texts start.at [] [] [] h refl tt (refl, refl) in
    let same = fills-one path.emitted along _ _ (runs-along symbols texts start.at [] h tt) r.sure f.events r.fills in
    ap₂ (λ (s : LexState ValueState) (t : List LexEvent). config s t) (f.ends ∙ sym r.at) same
