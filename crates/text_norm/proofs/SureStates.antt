-- A path whose values have met no hole in a URL, a style or a script, read in two ways: what its texts tell stays filled.
use Rattle.std.proofs.Common.{◌≡◌, ℕ, Bool, true, false, List, [], ◌∷◌, refl, sym, ap, subst}
use Rattle.css_lexer.specs.Classes.{style_class}
use Rattle.css_lexer.specs.Escapes.{StyleEscape, NoEscape, AfterBackslash, HexDigits, AfterReturn, is_taken_in_style}
use Rattle.css_lexer.specs.Paths.{style_after_cut}
use Rattle.css_lexer.specs.States.{Quote, DoubleQuote, SingleQuote, UrlWord, SpellsUrl, Outside, Between, AfterLessThan, Word, AfterSolidus, Comment, InString, BadUrl, BehindHole, SplitWord, SolidusAtCut, LessThanAtCut, StarAtCut, Fresh, Bare, Quoted, Ended, Style, Out, InUrl}
use Rattle.css_lexer.specs.Steps.{next_bad, next_bare, next_between, next_ended, next_fresh, next_out, next_quoted, next_solidus, next_split, next_style_comment, next_style_string, next_style_word, style_emits_class, style_ends, style_next}
use Rattle.css_lexer.specs.Urls.{urls}
use Rattle.css_lexer.specs.declared.class.StyleClass.{StyleClass}
use Rattle.css_lexer.specs.declared.class.StyleClass.TheVariants as class
use Rattle.js_lexer.specs.Events.{ScriptEvent}
use Rattle.js_lexer.specs.Feeding.{script_emits, script_ends}
use Rattle.place_core.specs.page.Events.{InsideScript, LexEvent, ValueByte, told_in_script, told_in_style}
use Rattle.place_core.specs.page.Paths.{read_node}
use Rattle.place_core.specs.page.States.{Config, LexState, config}
use Rattle.place_core.specs.page.Tags.{ValueState, OfKind, OfUrl, OfStyle, OfScript, emits_state, ends_state, feed_value, languages, value_after_cut, value_start, value_is_script, value_may_end}
use Rattle.place_core.specs.declared.kind.Kind.{Kind}
use Rattle.place_core.specs.declared.kind.Kind.TheVariants as kind
use Rattle.text_norm.proofs.EmittedAlike.{EmitsAlike, IsOwn, node-alike}
use Rattle.text_norm.proofs.FilledEvents.{SchemesSame, fed-same, fills-keep, fills-scheme, fills-style-scheme, scheme_in_style}
use Rattle.text_norm.proofs.StatesBeside.{IsFedAlike, StandBeside}
use Rattle.text_norm.proofs.StyleTells.{form-tells, out-ends, out-tells}
use Rattle.text_norm.specs.Fillings.{Filling, Fills}
use Rattle.url_lexer.specs.States.{Url}

-- No hole has made a scheme free, of a URL in a style neither.
abbrev pub IsBound : Style Url → Type 0
IsBound (Out s) = Unit {0}
IsBound (InUrl f z) = z.free ≡ false

abbrev pub SureBeside : ValueState → ValueState → Type 0
SureBeside (OfKind k) w = w ≡ OfKind k
SureBeside (OfUrl u) (OfUrl w) = SchemesSame u w
SureBeside (OfUrl u) w = ⊥
SureBeside (OfStyle s) w = (w ≡ OfStyle s) × IsBound s
SureBeside (OfScript s) w = w ≡ OfScript s

pub bound-same : (z : Url) → z.free ≡ false → SchemesSame z z
bound-same z h = record { scheme = refl; bound = h }

-- a byte of a style
between-bound : (k : Bool) (c : StyleClass) (b : ℕ) → IsBound (next_between k c b)
between-bound k class.Blank b = tt
between-bound k c b = tt

word-bound : (w : UrlWord) (e : StyleEscape) (c : StyleClass) (b : ℕ) → IsBound (next_style_word urls w e c b)
word-bound w AfterBackslash c b = tt
word-bound w NoEscape class.WordByte b = tt
word-bound w (HexDigits n) class.WordByte b = tt
word-bound w AfterReturn class.WordByte b = tt
word-bound w NoEscape class.ReverseSolidus b = tt
word-bound w (HexDigits n) class.ReverseSolidus b = tt
word-bound w AfterReturn class.ReverseSolidus b = tt
word-bound SpellsUrl NoEscape class.LeftParenthesis b = refl
word-bound SpellsUrl (HexDigits n) class.LeftParenthesis b = refl
word-bound SpellsUrl AfterReturn class.LeftParenthesis b = refl
word-bound w NoEscape c b = between-bound false c b
word-bound w (HexDigits n) c b = between-bound false c b
word-bound w AfterReturn c b = between-bound false c b

solidus-bound : (c : StyleClass) (b : ℕ) → IsBound (next_solidus c b)
solidus-bound class.Asterisk b = tt
solidus-bound c b = between-bound false c b

comment-bound : (star : Bool) (c : StyleClass) → IsBound (next_style_comment star c)
comment-bound true class.Solidus = tt
comment-bound star class.Asterisk = tt
comment-bound true c = tt
comment-bound false c = tt

string-bound : (taken : Bool) (q : Quote) (e : StyleEscape) (c : StyleClass) (b : ℕ) → IsBound (next_style_string taken q e c b)
string-bound true q e c b = tt
string-bound false DoubleQuote e class.QuotationMark b = tt
string-bound false SingleQuote e class.Apostrophe b = tt
string-bound false DoubleQuote e c b = tt
string-bound false SingleQuote e c b = tt

bad-bound : (c : StyleClass) → IsBound (next_bad c)
bad-bound class.RightParenthesis = tt
bad-bound c = tt

split-bound : (e : StyleEscape) (c : StyleClass) (b : ℕ) → IsBound (next_split e c b)
split-bound AfterBackslash c b = tt
split-bound NoEscape class.WordByte b = tt
split-bound (HexDigits n) class.WordByte b = tt
split-bound AfterReturn class.WordByte b = tt
split-bound NoEscape class.ReverseSolidus b = tt
split-bound (HexDigits n) class.ReverseSolidus b = tt
split-bound AfterReturn class.ReverseSolidus b = tt
split-bound NoEscape c b = between-bound false c b
split-bound (HexDigits n) c b = between-bound false c b
split-bound AfterReturn c b = between-bound false c b

out-bound : (s : Outside) (c : StyleClass) (b : ℕ) → IsBound (next_out urls s c b)
out-bound (Between k) c b = between-bound k c b
out-bound AfterLessThan c b = between-bound false c b
out-bound (Word w e) c b = word-bound w e c b
out-bound (AfterSolidus k) c b = solidus-bound c b
out-bound (Comment star) c b = comment-bound star c
out-bound (InString q e) c b = string-bound (is_taken_in_style e b) q e c b
out-bound BadUrl c b = bad-bound c
out-bound (BehindHole solidus less) c b = split-bound NoEscape c b
out-bound (SplitWord e) c b = split-bound e c b
out-bound (SolidusAtCut k) c b = solidus-bound c b
out-bound LessThanAtCut c b = between-bound false c b
out-bound StarAtCut c b = comment-bound true c

bare-bound : (z : Url) (c : StyleClass) (b : ℕ) → z.free ≡ false → IsBound (next_bare urls z c b)
bare-bound z class.Blank b h = h
bare-bound z class.Newline b h = h
bare-bound z class.RightParenthesis b h = tt
bare-bound z class.QuotationMark b h = tt
bare-bound z class.Apostrophe b h = tt
bare-bound z class.LeftParenthesis b h = tt
bare-bound z c b h = h

fresh-bound : (z : Url) (c : StyleClass) (b : ℕ) → z.free ≡ false → IsBound (next_fresh urls z c b)
fresh-bound z class.Blank b h = h
fresh-bound z class.Newline b h = h
fresh-bound z class.QuotationMark b h = h
fresh-bound z class.Apostrophe b h = h
fresh-bound z c b h = bare-bound z c b h

quoted-bound : (taken : Bool) (q : Quote) (e : StyleEscape) (z : Url) (c : StyleClass) (b : ℕ) → z.free ≡ false
    → IsBound (next_quoted urls taken q e z c b)
quoted-bound true q e z c b h = h
quoted-bound false DoubleQuote e z class.QuotationMark b h = h
quoted-bound false SingleQuote e z class.Apostrophe b h = h
quoted-bound false DoubleQuote e z class.Newline b h = tt
quoted-bound false SingleQuote e z class.Newline b h = tt
quoted-bound false DoubleQuote e z c b h = h
quoted-bound false SingleQuote e z c b h = h

ended-bound : (z : Url) (c : StyleClass) → z.free ≡ false → IsBound (next_ended z c)
ended-bound z class.Blank h = h
ended-bound z class.Newline h = h
ended-bound z c h = tt

bound-next : (s : Style Url) (c : StyleClass) (b : ℕ) → IsBound s → IsBound (style_next urls s c b)
bound-next (Out s) c b h = out-bound s c b
bound-next (InUrl Fresh z) c b h = fresh-bound z c b h
bound-next (InUrl Bare z) c b h = bare-bound z c b h
bound-next (InUrl (Quoted q e) z) c b h = quoted-bound (is_taken_in_style e b) q e z c b h
bound-next (InUrl Ended z) c b h = ended-bound z c h

bound-cut : (s : Style Url) → IsBound s → IsBound (style_after_cut urls s)
bound-cut (Out s) h = tt
bound-cut (InUrl Fresh z) h = h
bound-cut (InUrl Bare z) h = h
bound-cut (InUrl (Quoted q e) z) h = h
bound-cut (InUrl Ended z) h = h

sure-starts : (k : Kind) → SureBeside (value_start k) (value_start k)
sure-starts kind.Url = record { scheme = refl; bound = refl }
sure-starts kind.Style = (refl, tt)
sure-starts _ = refl

sure-feeds : (v w : ValueState) (b : ℕ) → SureBeside v w → SureBeside (feed_value v b) (feed_value w b)
sure-feeds (OfKind k) w b a = ap (λ (z : ValueState). feed_value z b) a
sure-feeds (OfUrl u) (OfUrl w) b a = fed-same (b ∷ []) u w a
sure-feeds (OfUrl u) _ b a = absurd a
sure-feeds (OfScript s) w b a = ap (λ (z : ValueState). feed_value z b) a
sure-feeds (OfStyle s) w b a = (ap (λ (z : ValueState). feed_value z b) a.0, bound-next s (style_class b) b a.1)

sure-cuts : (v w : ValueState) → SureBeside v w → SureBeside (value_after_cut v) (value_after_cut w)
sure-cuts (OfKind k) w a = ap value_after_cut a
sure-cuts (OfUrl u) (OfUrl w) a = record { scheme = a.scheme; bound = a.bound }
sure-cuts (OfUrl u) _ a = absurd a
sure-cuts (OfScript s) w a = ap value_after_cut a
sure-cuts (OfStyle s) w a = (ap value_after_cut a.0, bound-cut s a.1)

sure-scripts : (v w : ValueState) → SureBeside v w → value_is_script v ≡ value_is_script w
sure-scripts (OfKind k) w a = sym (ap value_is_script a)
sure-scripts (OfUrl u) (OfUrl w) a = refl
sure-scripts (OfUrl u) _ a = absurd a
sure-scripts (OfScript s) w a = sym (ap value_is_script a)
sure-scripts (OfStyle s) w a = sym (ap value_is_script a.0)

sure-may-end : (v w : ValueState) → SureBeside v w → value_may_end v ≡ value_may_end w
sure-may-end (OfKind k) w a = sym (ap value_may_end a)
sure-may-end (OfUrl u) (OfUrl w) a = refl
sure-may-end (OfUrl u) _ a = absurd a
sure-may-end (OfScript s) w a = sym (ap value_may_end a)
sure-may-end (OfStyle s) w a = sym (ap value_may_end a.0)

pub sure-fed : IsFedAlike ValueState languages SureBeside
sure-fed = record { starts = sure-starts; feeds = sure-feeds; cuts = sure-cuts; scripts = sure-scripts; may_ends = sure-may-end }

-- What a style tells that no hole has met, in a relation that its events keep.
module _ (F : List LexEvent → List LexEvent → Type 0) (keep : (e : LexEvent) (t u : List LexEvent) → IsOwn e → F t u → F (e ∷ t) (e ∷ u))
    (ends : (z y : Url) (t u : List LexEvent) → SchemesSame z y → F t u → F (scheme_in_style z ∷ t) (scheme_in_style y ∷ u)) where
  pub style-byte : (s : Style Url) (c : StyleClass) (b : ℕ) (t u : List LexEvent) → IsBound s → F t u
      → F (told_in_style (style_emits_class urls s c b []) t) (told_in_style (style_emits_class urls s c b []) u)
  style-byte (Out s) c b t u h f = out-tells F keep ends s c b t u f
  style-byte (InUrl g z) c b t u h f = form-tells F keep ends g z z c b t u (bound-same z h) f

  pub style-end : (s : Style Url) (t u : List LexEvent) → IsBound s → F t u
      → F (told_in_style (style_ends urls s []) t) (told_in_style (style_ends urls s []) u)
  style-end (Out s) t u h f = out-ends F keep ends s t u f
  style-end (InUrl g z) t u h f = ends z z t u (bound-same z h) f

-- what a script tells, likewise
module _ (F : List LexEvent → List LexEvent → Type 0) (keep : (e : LexEvent) (t u : List LexEvent) → IsOwn e → F t u → F (e ∷ t) (e ∷ u)) where
  pub script-told : (es : List ScriptEvent) (t u : List LexEvent) → F t u → F (told_in_script es t) (told_in_script es u)
  script-told [] t u f = f
  script-told (e ∷ es) t u f = keep (InsideScript e) (told_in_script es t) (told_in_script es u) tt (script-told es t u f)

sure-ends : (vs : List Filling) (v w : ValueState) (t u : List LexEvent) → SureBeside v w → Fills t vs u → Fills (ends_state v t) vs (ends_state w u)
sure-ends vs (OfKind k) w t u a f = subst (λ (z : ValueState). Fills t vs (ends_state z u)) (sym a) f
sure-ends vs (OfUrl z) (OfUrl w) t u a f = fills-scheme vs z w t u a f
sure-ends vs (OfUrl z) _ t u a f = absurd a
sure-ends vs (OfStyle s) w t u a f =
    subst (λ (z : ValueState). Fills (ends_state (OfStyle s) t) vs (ends_state z u)) (sym a.0)
    (style-end (λ t u. Fills t vs u) (fills-keep vs) (fills-style-scheme vs) s t u a.1 f)
sure-ends vs (OfScript s) w t u a f =
    subst (λ (z : ValueState). Fills (ends_state (OfScript s) t) vs (ends_state z u)) (sym a)
    (script-told (λ t u. Fills t vs u) (fills-keep vs) (script_ends s []) t u f)

sure-byte : (vs : List Filling) (v w : ValueState) (b : ℕ) (t u : List LexEvent) → SureBeside v w → Fills t vs u
    → Fills (emits_state v b t) vs (emits_state w b u)
sure-byte vs (OfKind k) w b t u a f =
    subst (λ (z : ValueState). Fills (ValueByte b ∷ t) vs (emits_state z b u)) (sym a) (fills-keep vs (ValueByte b) t u tt f)
sure-byte vs (OfUrl z) (OfUrl w) b t u a f = fills-keep vs (ValueByte b) t u tt f
sure-byte vs (OfUrl z) _ b t u a f = absurd a
sure-byte vs (OfStyle s) w b t u a f =
    subst (λ (z : ValueState). Fills (emits_state (OfStyle s) b t) vs (emits_state z b u)) (sym a.0)
    (style-byte (λ t u. Fills t vs u) (fills-keep vs) (fills-style-scheme vs) s (style_class b) b t u a.1 f)
sure-byte vs (OfScript s) w b t u a f =
    subst (λ (z : ValueState). Fills (emits_state (OfScript s) b t) vs (emits_state z b u)) (sym a)
    (script-told (λ t u. Fills t vs u) (fills-keep vs) (script_emits s b []) t u f)

sure-emits : (vs : List Filling) → EmitsAlike ValueState languages SureBeside (λ t u. Fills t vs u)
sure-emits vs = record { fed = sure-fed; emits = sure-byte vs; ends = sure-ends vs }

-- the text of a node
pub record StandsSure (vs : List Filling) (m d : Config ValueState) : Type 0 where
  pub at : StandBeside SureBeside m.at d.at
  pub fills : Fills m.emitted vs d.emitted

pub nodes-fill : (vs : List Filling) (bytes : List ℕ) (m d : Config ValueState) → StandsSure vs m d
    → StandsSure vs (read_node languages bytes m) (read_node languages bytes d)
nodes-fill vs bytes m d r =
    let o = node-alike (λ t u. Fills t vs u) (fills-keep vs) ValueState languages SureBeside (sure-emits vs) bytes m d r.at r.fills in
    record { at = o.0; fills = o.1 }

pub fills-node : (vs : List Filling) (bytes : List ℕ) (s : LexState ValueState) (t u : List LexEvent) → StandBeside SureBeside s s → Fills t vs u
    → Fills (read_node languages bytes (config s t)).emitted vs (read_node languages bytes (config s u)).emitted
fills-node vs bytes s t u a f = (nodes-fill vs bytes (config s t) (config s u) (record { at = a; fills = f })).fills
