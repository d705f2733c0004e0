-- The languages of values that are read so far: the kinds, in whose states a page and a path are the same, the URLs, the
-- styles, and the scripts.
use Rattle.std.proofs.Common.{◌≡◌, ℕ, List, [], ◌∷◌, Option, Some, None, option_map, inl, refl, sym, ap, subst}
use Rattle.place_core.specs.page.Events.{LexEvent, ValueScheme}
use Rattle.place_core.specs.page.Tags.{ValueState, OfKind, OfUrl, OfStyle, OfScript, languages, value_start, feed_value, emits_state, refusal_code, refuses_in_value, ends_state, value_after_cut, refuses_value_cut, value_settled, emits_value_settled, value_has_mark, value_after_hole, value_state_behind, LeadsPlainState, StatesAlike}
use Rattle.place_core.specs.declared.kind.Kind.{Kind}
use Rattle.place_core.specs.declared.kind.Kind.TheVariants as kind
use Rattle.url_lexer.specs.Alike.{UrlsAlike}
use Rattle.url_lexer.specs.Events.{ToldScheme, NoScheme, UrlEvent, UrlByte, UrlEnds, told_scheme}
use Rattle.url_lexer.specs.Refusals.{UrlRefusal, UrlCutRefusal, url_refuses, url_refuses_cut}
use Rattle.url_lexer.specs.States.{Url}
use Rattle.url_lexer.proofs.Language.{language-laws}
use Rattle.html_step.proofs.OnePath.{some}
use Rattle.text_norm.specs.ValueLaws.{ValueLanguageLaws}
use Rattle.text_norm.proofs.ScriptValuesKeep.{script-emits, script-ends, script-feeds, script-laws, script-settles}
use Rattle.text_norm.proofs.StyleValuesKeep.{style-after-cut, style-emits, style-ends, style-feeds, style-laws, style-settles}

-- what is not refused of a URL
not-refused : (o : Option UrlRefusal) → option_map refusal_code o ≡ None → o ≡ None
not-refused None n = refl
not-refused (Some e) n = absurd (some _ n)

not-cut : (o : Option UrlCutRefusal) → option_map (λ (e : UrlCutRefusal). refusal_code e.refusal) o ≡ None → o ≡ None
not-cut None n = refl
not-cut (Some e) n = absurd (some _ n)

-- the scheme that the end of a URL tells
abbrev scheme_in : List UrlEvent → ToldScheme
scheme_in (UrlEnds s ∷ t) = s
scheme_in (UrlByte b ∷ t) = NoScheme
scheme_in [] = NoScheme

same-scheme : (u z : Url) → UrlsAlike u z → told_scheme z.free z.scheme ≡ told_scheme u.free u.scheme
same-scheme u z a = ap scheme_in (language-laws.ends u z [] a)

-- a value begins in the same state
begins : (k : Kind) → StatesAlike (value_start k) (value_start k)
begins kind.Url = language-laws.begins
begins kind.Style = style-laws.begins
begins kind.Script = (record { escape = refl; brace = refl }, inl (record { literals = refl; held = refl; at = refl }))
begins k = refl

-- a byte
emits : (v w : ValueState) (b : ℕ) (t : List LexEvent) → StatesAlike v w → refuses_in_value v b ≡ None → emits_state w b t ≡ emits_state v b t
emits (OfKind k) w b t a n = ap (λ (z : ValueState). emits_state z b t) a
emits (OfUrl u) (OfUrl z) b t a n = refl
emits (OfStyle s) (OfStyle r) b t a n = style-emits s r b t a n
emits (OfScript s) (OfScript r) b t a n = script-emits s r b t a n
emits _ _ b t a n = absurd a

feeds : (v w : ValueState) (b : ℕ) → StatesAlike v w → refuses_in_value v b ≡ None → StatesAlike (feed_value v b) (feed_value w b)
feeds (OfKind k) w b a n = ap (λ (z : ValueState). feed_value z b) a
feeds (OfUrl u) (OfUrl z) b a n = language-laws.feeds u z b a (not-refused (url_refuses u b) n)
feeds (OfStyle s) (OfStyle r) b a n = style-feeds s r b a n
feeds (OfScript s) (OfScript r) b a n = script-feeds s r b a n
feeds _ _ b a n = absurd a

-- the end of a value, and of a node
ends : (v w : ValueState) (t : List LexEvent) → StatesAlike v w → ends_state w t ≡ ends_state v t
ends (OfKind k) w t a = ap (λ (z : ValueState). ends_state z t) a
ends (OfUrl u) (OfUrl z) t a = ap (λ (s : ToldScheme). ValueScheme s ∷ t) (same-scheme u z a)
ends (OfStyle s) (OfStyle r) t a = style-ends s r t a
ends (OfScript s) (OfScript r) t a = script-ends s r t a
ends _ _ t a = absurd a

after-cut : (v w : ValueState) → StatesAlike v w → refuses_value_cut v ≡ None → StatesAlike (value_after_cut v) w
after-cut (OfKind k) w a n = a
after-cut (OfUrl u) (OfUrl z) a n = language-laws.after_cut u z a (not-cut (url_refuses_cut u) n)
after-cut (OfStyle s) (OfStyle r) a n = style-after-cut s r a n
after-cut (OfScript s) (OfScript r) a n = script-laws.after_cut s r a
after-cut _ _ a n = absurd a

-- a hole
settles : (v w : ValueState) (t : List LexEvent) → StatesAlike v w → emits_value_settled w t ≡ emits_value_settled v t
settles (OfKind k) w t a = ap (λ (z : ValueState). emits_value_settled z t) a
settles (OfUrl u) (OfUrl z) t a = refl
settles (OfStyle s) (OfStyle r) t a = style-settles s r t a
settles (OfScript s) (OfScript r) t a = script-settles s r t a
settles _ _ t a = absurd a

marks : (v w : ValueState) → StatesAlike v w → value_has_mark w ≡ value_has_mark v
marks (OfKind k) w a = ap value_has_mark a
marks (OfUrl u) (OfUrl z) a = refl
marks (OfStyle s) (OfStyle r) a = style-laws.marks s r a
marks (OfScript s) (OfScript r) a = script-laws.marks s r a
marks _ _ a = absurd a

kind-hole : (k : Kind) (after : ValueState) (bytes : List ℕ) → LeadsPlainState (OfKind k) bytes after → after ≡ OfKind k
kind-hole kind.Plain after bytes p = p
kind-hole _ after bytes p = absurd p

hole : (v w after : ValueState) (bytes : List ℕ) → StatesAlike v w → LeadsPlainState (value_settled w) bytes after
    → StatesAlike (value_after_hole v) (value_state_behind (value_settled w) after)
hole (OfKind k) w after bytes a p =
    subst (λ (z : ValueState). LeadsPlainState (value_settled z) bytes after → value_state_behind (value_settled z) after ≡ OfKind k) (sym a)
    (λ p. kind-hole k after bytes p) p
hole (OfUrl u) (OfUrl z) (OfUrl y) bytes a p = language-laws.hole u z y a p.0
hole (OfUrl u) (OfUrl z) _ bytes a p = absurd p
hole (OfStyle s) (OfStyle r) (OfStyle q) bytes a p = style-laws.hole s r q a p.leads
hole (OfStyle s) (OfStyle r) _ bytes a p = absurd p
hole (OfScript s) (OfScript r) (OfScript q) bytes a p = script-laws.hole s r q a p.leads
hole (OfScript s) (OfScript r) _ bytes a p = absurd p
hole _ _ after bytes a p = absurd a

pub languages-keep : ValueLanguageLaws ValueState languages
languages-keep = record {
  begins = begins;
  emits = emits;
  feeds = feeds;
  ends = ends;
  after_cut = after-cut;
  settles = settles;
  marks = marks;
  hole = hole;
}
