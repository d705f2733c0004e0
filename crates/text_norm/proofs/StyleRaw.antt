-- A style of a page that is read as bytes alone, beside its reading with marks. The states are the same, but where a value in code has
-- ended in a blank: the mark stands behind that on the path, while the page remembers it. And of a URL data moves the part.
use Rattle.std.proofs.Common.{◌≡◌, ℕ, Bool, true, false, List, [], ◌∷◌, ◌++◌, ◌⊎◌, inl, inr, refl, sym, ap, ◌∙◌, subst}
use Rattle.css_lexer.specs.Classes.{style_class}
use Rattle.css_lexer.specs.Escapes.{StyleEscape, NoEscape, AfterBackslash, HexDigits, AfterReturn, is_taken_in_style}
use Rattle.css_lexer.specs.Events.{StyleEvent, RunByte}
use Rattle.css_lexer.specs.Paths.{out_settled, style_behind, style_emits_settled, style_settled}
use Rattle.css_lexer.specs.States.{Quote, DoubleQuote, SingleQuote, UrlWord, SpellsUrl, Outside, Between, AfterLessThan, Word, AfterSolidus, Comment, InString, BadUrl, BehindHole, SplitWord, SolidusAtCut, LessThanAtCut, StarAtCut, UrlForm, Fresh, Bare, Quoted, Ended, Style, Out, InUrl}
use Rattle.css_lexer.specs.Steps.{emits_bad_byte, emits_between, emits_out, emits_solidus, emits_string, emits_word, feed_style, next_bad, next_bare, next_between, next_ended, next_fresh, next_in_url, next_out, next_quoted, next_solidus, next_style_comment, next_style_string, next_style_word, read_style, style_emits, style_emits_class, style_ends, style_next, style_reading}
use Rattle.css_lexer.specs.Urls.{urls}
use Rattle.css_lexer.specs.declared.class.StyleClass.{StyleClass}
use Rattle.css_lexer.specs.declared.class.StyleClass.TheVariants as class
use Rattle.css_lexer.proofs.RawReading.{class-adds}
use Rattle.place_core.specs.page.Events.{InsideStyle, LexEvent, told_in_style}
use Rattle.place_core.specs.page.Tags.{OfStyle, ValueOf, emitted_bytes, languages, with_bytes}
use Rattle.text_norm.proofs.FilledEvents.{SchemesSame, fed-same, fills-keep, fills-style-scheme}
use Rattle.text_norm.proofs.StyleTells.{form-tells, out-ends, out-tells, settled-tells}
use Rattle.text_norm.specs.Fillings.{BlankIsTold, Filling, Fills, IsCodeSite, LastIsBlank, style_run}
use Rattle.url_lexer.specs.Events.{UrlEvent}
use Rattle.url_lexer.specs.States.{Url, feed_url}

-- What a page has told where it is in this state: behind a blank, and in a comment, a blank is the last. It is in no state of paths alone.
abbrev pub BlankIf : Bool → List LexEvent → Type 0
BlankIf true u = LastIsBlank u
BlankIf false u = Unit {0}

abbrev pub HasTold : Outside → List LexEvent → Type 0
HasTold (Between k) u = BlankIf k u
HasTold AfterLessThan u = Unit {0}
HasTold (Word w e) u = Unit {0}
HasTold (AfterSolidus k) u = BlankIf k u
HasTold (Comment star) u = LastIsBlank u
HasTold (InString q e) u = Unit {0}
HasTold BadUrl u = Unit {0}
HasTold s u = ⊥

-- the URL of a page has met no hole
abbrev pub HasToldIn : Style Url → List LexEvent → Type 0
HasToldIn (Out s) u = HasTold s u
HasToldIn (InUrl f z) u = z.free ≡ false

-- the state with marks, and that of bytes alone, where a value has ended in a blank
abbrev pub IsJoined : Outside → Outside → Type 0
IsJoined (Between false) (Between true) = Unit {0}
IsJoined (AfterSolidus false) (AfterSolidus true) = Unit {0}
IsJoined s r = ⊥

abbrev pub OutBeside : List Filling → Outside → Outside → List LexEvent → Type 0
OutBeside vs s r u = ((r ≡ s) × HasTold s u) ⊎ (IsJoined s r × BlankIsTold vs u)

abbrev pub StyleBeside : List Filling → Style Url → Style Url → List LexEvent → Type 0
StyleBeside vs (Out s) (Out r) u = OutBeside vs s r u
StyleBeside vs (InUrl f z) (InUrl g y) u = (g ≡ f) × SchemesSame z y
StyleBeside vs s r u = ⊥

pub same-beside : (vs : List Filling) (s : Style Url) (u : List LexEvent) → HasToldIn s u → StyleBeside vs s s u
same-beside vs (Out s) u h = inl (refl, h)
same-beside vs (InUrl f z) u h = (refl, record { scheme = refl; bound = h })

pub told-last : (vs : List Filling) (u : List LexEvent) → BlankIsTold vs u → LastIsBlank u
told-last [] u b = absurd b
told-last (v ∷ vs) u b = b.1

joined-told : (s r : Outside) (u : List LexEvent) → IsJoined s r → LastIsBlank u → HasTold r u
joined-told (Between false) (Between true) u j l = l
joined-told (AfterSolidus false) (AfterSolidus true) u j l = l
joined-told _ _ u j l = absurd j

pub raw-has-told : (vs : List Filling) (s r : Outside) (u : List LexEvent) → OutBeside vs s r u → HasTold r u
raw-has-told vs s r u (inl h) = subst (λ (z : Outside). HasTold z u) (sym h.0) h.1
raw-has-told vs s r u (inr h) = joined-told s r u h.0 (told-last vs u h.1)

-- A byte, in one state: what the page has told then.
between-has : (k : Bool) (c : StyleClass) (b : ℕ) (u : List LexEvent) → BlankIf k u
    → HasToldIn (next_between k c b) (told_in_style (emits_between k c b []) u)
between-has true class.Blank b u h = h
between-has false class.Blank b u h = tt
between-has true class.Newline b u h = h
between-has false class.Newline b u h = tt
between-has k class.Solidus b u h = h
between-has k c b u h = tt

word-has : (w : UrlWord) (e : StyleEscape) (c : StyleClass) (b : ℕ) (u : List LexEvent)
    → HasToldIn (next_style_word urls w e c b) (told_in_style (emits_word w e c b []) u)
word-has w AfterBackslash c b u = tt
word-has SpellsUrl NoEscape class.LeftParenthesis b u = refl
word-has SpellsUrl (HexDigits n) class.LeftParenthesis b u = refl
word-has SpellsUrl AfterReturn class.LeftParenthesis b u = refl
word-has w NoEscape class.WordByte b u = tt
word-has w (HexDigits n) class.WordByte b u = tt
word-has w AfterReturn class.WordByte b u = tt
word-has w NoEscape class.ReverseSolidus b u = tt
word-has w (HexDigits n) class.ReverseSolidus b u = tt
word-has w AfterReturn class.ReverseSolidus b u = tt
word-has w NoEscape c b u = between-has false c b u tt
word-has w (HexDigits n) c b u = between-has false c b u tt
word-has w AfterReturn c b u = between-has false c b u tt

solidus-has : (k : Bool) (c : StyleClass) (b : ℕ) (u : List LexEvent) → BlankIf k u
    → HasToldIn (next_solidus c b) (told_in_style (emits_solidus k c b []) u)
solidus-has true class.Asterisk b u h = h
solidus-has false class.Asterisk b u h = tt
solidus-has k c b u h = between-has false c b (InsideStyle (RunByte 47) ∷ u) tt

comment-has : (star : Bool) (c : StyleClass) (u : List LexEvent) → LastIsBlank u → HasToldIn (next_style_comment star c) u
comment-has true class.Solidus u h = h
comment-has star class.Asterisk u h = h
comment-has true c u h = h
comment-has false c u h = h

string-has : (taken : Bool) (q : Quote) (e : StyleEscape) (c : StyleClass) (b : ℕ) (u : List LexEvent)
    → HasToldIn (next_style_string taken q e c b) (told_in_style (emits_string taken q c b []) u)
string-has true q e c b u = tt
string-has false DoubleQuote e class.QuotationMark b u = tt
string-has false SingleQuote e class.Apostrophe b u = tt
string-has false DoubleQuote e c b u = tt
string-has false SingleQuote e c b u = tt

bad-has : (c : StyleClass) (b : ℕ) (u : List LexEvent) → HasToldIn (next_bad c) (told_in_style (emits_bad_byte c b []) u)
bad-has class.RightParenthesis b u = tt
bad-has c b u = tt

out-has : (s : Outside) (c : StyleClass) (b : ℕ) (u : List LexEvent) → HasTold s u
    → HasToldIn (next_out urls s c b) (told_in_style (emits_out s c b []) u)
out-has (Between k) c b u h = between-has k c b u h
out-has AfterLessThan c b u h = between-has false c b u tt
out-has (Word w e) c b u h = word-has w e c b u
out-has (AfterSolidus k) c b u h = solidus-has k c b u h
out-has (Comment star) c b u h = comment-has star c u h
out-has (InString q e) c b u h = string-has (is_taken_in_style e b) q e c b u
out-has BadUrl c b u h = bad-has c b u
out-has (BehindHole solidus less) c b u h = absurd h
out-has (SplitWord e) c b u h = absurd h
out-has (SolidusAtCut k) c b u h = absurd h
out-has LessThanAtCut c b u h = absurd h
out-has StarAtCut c b u h = absurd h

-- In a URL.
fed-beside : (z y : Url) (b : ℕ) → SchemesSame z y → SchemesSame (feed_url z b) (feed_url y b)
fed-beside z y b a = fed-same (b ∷ []) z y a

bare-next : (vs : List Filling) (z y : Url) (c : StyleClass) (b : ℕ) (u : List LexEvent) → SchemesSame z y
    → StyleBeside vs (next_bare urls z c b) (next_bare urls y c b) u
bare-next vs z y class.Blank b u a = (refl, a)
bare-next vs z y class.Newline b u a = (refl, a)
bare-next vs z y class.RightParenthesis b u a = inl (refl, tt)
bare-next vs z y class.QuotationMark b u a = inl (refl, tt)
bare-next vs z y class.Apostrophe b u a = inl (refl, tt)
bare-next vs z y class.LeftParenthesis b u a = inl (refl, tt)
bare-next vs z y c b u a = (refl, fed-beside z y b a)

fresh-next : (vs : List Filling) (z y : Url) (c : StyleClass) (b : ℕ) (u : List LexEvent) → SchemesSame z y
    → StyleBeside vs (next_fresh urls z c b) (next_fresh urls y c b) u
fresh-next vs z y class.Blank b u a = (refl, a)
fresh-next vs z y class.Newline b u a = (refl, a)
fresh-next vs z y class.QuotationMark b u a = (refl, a)
fresh-next vs z y class.Apostrophe b u a = (refl, a)
fresh-next vs z y c b u a = bare-next vs z y c b u a

quoted-next : (vs : List Filling) (taken : Bool) (q : Quote) (e : StyleEscape) (z y : Url) (c : StyleClass) (b : ℕ) (u : List LexEvent)
    → SchemesSame z y
    → StyleBeside vs (next_quoted urls taken q e z c b) (next_quoted urls taken q e y c b) u
quoted-next vs true q e z y c b u a = (refl, fed-beside z y b a)
quoted-next vs false DoubleQuote e z y class.QuotationMark b u a = (refl, a)
quoted-next vs false SingleQuote e z y class.Apostrophe b u a = (refl, a)
quoted-next vs false DoubleQuote e z y class.Newline b u a = inl (refl, tt)
quoted-next vs false SingleQuote e z y class.Newline b u a = inl (refl, tt)
quoted-next vs false DoubleQuote e z y c b u a = (refl, fed-beside z y b a)
quoted-next vs false SingleQuote e z y c b u a = (refl, fed-beside z y b a)

ended-next : (vs : List Filling) (z y : Url) (c : StyleClass) (u : List LexEvent) → SchemesSame z y
    → StyleBeside vs (next_ended z c) (next_ended y c) u
ended-next vs z y class.Blank u a = (refl, a)
ended-next vs z y class.Newline u a = (refl, a)
ended-next vs z y c u a = inl (refl, tt)

form-next : (vs : List Filling) (f : UrlForm) (z y : Url) (c : StyleClass) (b : ℕ) (u : List LexEvent) → SchemesSame z y
    → StyleBeside vs (next_in_url urls f z c b) (next_in_url urls f y c b) u
form-next vs Fresh z y c b u a = fresh-next vs z y c b u a
form-next vs Bare z y c b u a = bare-next vs z y c b u a
form-next vs (Quoted q e) z y c b u a = quoted-next vs (is_taken_in_style e b) q e z y c b u a
form-next vs Ended z y c b u a = ended-next vs z y c u a

-- Where a value has ended in a blank: white space and a comment are told by that very one, and any other byte leads both to one state.
joined-next : (vs : List Filling) (s r : Outside) (c : StyleClass) (b : ℕ) (u : List LexEvent) → IsJoined s r → BlankIsTold vs u
    → StyleBeside vs (next_out urls s c b) (next_out urls r c b) (told_in_style (emits_out r c b []) u)
joined-next vs (Between false) (Between true) class.Solidus b u j h = inr (tt, h)
joined-next vs (Between false) (Between true) c b u j h = same-beside vs (next_between true c b) _ (between-has true c b u (told-last vs u h))
joined-next vs (AfterSolidus false) (AfterSolidus true) c b u j h = same-beside vs (next_solidus c b) _ (solidus-has true c b u (told-last vs u h))
joined-next vs _ _ c b u j h = absurd j

joined-tells : (vs : List Filling) (s r : Outside) (c : StyleClass) (b : ℕ) (t u : List LexEvent) → IsJoined s r → BlankIsTold vs u → Fills t vs u
    → Fills (told_in_style (emits_out s c b []) t) vs (told_in_style (emits_out r c b []) u)
joined-tells vs (Between false) (Between true) class.Blank b t u j h f = inr (h, f)
joined-tells vs (Between false) (Between true) class.Newline b t u j h f = inr (h, f)
joined-tells vs (Between false) (Between true) c b t u j h f = out-tells (λ t u. Fills t vs u) (fills-keep vs) (fills-style-scheme vs)
    (Between true) c b t u f
joined-tells vs (AfterSolidus false) (AfterSolidus true) class.Asterisk b t u j h f = inr (h, f)
joined-tells vs (AfterSolidus false) (AfterSolidus true) c b t u j h f = out-tells (λ t u. Fills t vs u) (fills-keep vs) (fills-style-scheme vs)
    (AfterSolidus true) c b t u f
joined-tells vs _ _ c b t u j h f = absurd j

out-next : (vs : List Filling) (s r : Outside) (c : StyleClass) (b : ℕ) (u : List LexEvent) → OutBeside vs s r u
    → StyleBeside vs (next_out urls s c b) (next_out urls r c b) (told_in_style (emits_out r c b []) u)
out-next vs s r c b u (inl h) =
    subst (λ (z : Outside). StyleBeside vs (next_out urls s c b) (next_out urls z c b) (told_in_style (emits_out z c b []) u)) (sym h.0)
    (same-beside vs (next_out urls s c b) _ (out-has s c b u h.1))
out-next vs s r c b u (inr h) = joined-next vs s r c b u h.0 h.1

out-fills : (vs : List Filling) (s r : Outside) (c : StyleClass) (b : ℕ) (t u : List LexEvent) → OutBeside vs s r u → Fills t vs u
    → Fills (told_in_style (emits_out s c b []) t) vs (told_in_style (emits_out r c b []) u)
out-fills vs s r c b t u (inl h) f =
    subst (λ (z : Outside). Fills (told_in_style (emits_out s c b []) t) vs (told_in_style (emits_out z c b []) u)) (sym h.0)
    (out-tells (λ t u. Fills t vs u) (fills-keep vs) (fills-style-scheme vs) s c b t u f)
out-fills vs s r c b t u (inr h) f = joined-tells vs s r c b t u h.0 h.1 f

-- A byte.
pub style-next : (vs : List Filling) (s r : Style Url) (c : StyleClass) (b : ℕ) (u : List LexEvent) → StyleBeside vs s r u
    → StyleBeside vs (style_next urls s c b) (style_next urls r c b) (told_in_style (style_emits_class urls r c b []) u)
style-next vs (Out s) (Out r) c b u a = out-next vs s r c b u a
style-next vs (InUrl f z) (InUrl g y) c b u a =
    let told = told_in_style (style_emits_class urls (InUrl g y) c b []) u in
    subst (λ (h : UrlForm). StyleBeside vs (next_in_url urls f z c b) (next_in_url urls h y c b) told) (sym a.0) (form-next vs f z y c b told a.1)
style-next vs (Out s) (InUrl g y) c b u a = absurd a
style-next vs (InUrl f z) (Out r) c b u a = absurd a

pub style-fills : (vs : List Filling) (s r : Style Url) (c : StyleClass) (b : ℕ) (t u : List LexEvent) → StyleBeside vs s r u → Fills t vs u
    → Fills (told_in_style (style_emits_class urls s c b []) t) vs (told_in_style (style_emits_class urls r c b []) u)
style-fills vs (Out s) (Out r) c b t u a f = out-fills vs s r c b t u a f
style-fills vs (InUrl g z) (InUrl h y) c b t u a f =
    subst (λ (i : UrlForm). Fills (told_in_style (style_emits_class urls (InUrl g z) c b []) t) vs
    (told_in_style (style_emits_class urls (InUrl i y) c b []) u)) (sym a.0)
    (form-tells (λ t u. Fills t vs u) (fills-keep vs) (fills-style-scheme vs) g z y c b t u a.1 f)
style-fills vs (Out s) (InUrl g y) c b t u a f = absurd a
style-fills vs (InUrl g z) (Out r) c b t u a f = absurd a

-- The end of the style.
joined-ends : (vs : List Filling) (s r : Outside) (t u : List LexEvent) → IsJoined s r → Fills t vs u
    → Fills (told_in_style (style_ends urls (Out s) []) t) vs (told_in_style (style_ends urls (Out r) []) u)
joined-ends vs (Between false) (Between true) t u j f = f
joined-ends vs (AfterSolidus false) (AfterSolidus true) t u j f = fills-keep vs (InsideStyle (RunByte 47)) t u tt f
joined-ends vs _ _ t u j f = absurd j

out-end : (vs : List Filling) (s r : Outside) (t u : List LexEvent) → OutBeside vs s r u → Fills t vs u
    → Fills (told_in_style (style_ends urls (Out s) []) t) vs (told_in_style (style_ends urls (Out r) []) u)
out-end vs s r t u (inl h) f =
    subst (λ (z : Outside). Fills (told_in_style (style_ends urls (Out s) []) t) vs (told_in_style (style_ends urls (Out z) []) u)) (sym h.0)
    (out-ends (λ t u. Fills t vs u) (fills-keep vs) (fills-style-scheme vs) s t u f)
out-end vs s r t u (inr h) f = joined-ends vs s r t u h.0 f

pub style-end : (vs : List Filling) (s r : Style Url) (t u : List LexEvent) → StyleBeside vs s r u → Fills t vs u
    → Fills (told_in_style (style_ends urls s []) t) vs (told_in_style (style_ends urls r []) u)
style-end vs (Out s) (Out r) t u a f = out-end vs s r t u a f
style-end vs (InUrl g z) (InUrl h y) t u a f = fills-style-scheme vs z y t u a.1 f
style-end vs (Out s) (InUrl g y) t u a f = absurd a
style-end vs (InUrl g z) (Out r) t u a f = absurd a

-- Before a hole a `/` that is pending is told.
settled-has : (s : Outside) (u : List LexEvent) → HasTold s u → HasTold (out_settled s) (told_in_style (style_emits_settled {U = Url} (Out s) []) u)
settled-has (AfterSolidus k) u h = tt
settled-has (SolidusAtCut k) u h = absurd h
settled-has (Between k) u h = h
settled-has AfterLessThan u h = h
settled-has (Word w e) u h = h
settled-has (Comment star) u h = h
settled-has (InString q e) u h = h
settled-has BadUrl u h = h
settled-has (BehindHole solidus less) u h = absurd h
settled-has (SplitWord e) u h = absurd h
settled-has LessThanAtCut u h = absurd h
settled-has StarAtCut u h = absurd h

joined-settled : (vs : List Filling) (s r : Outside) (u : List LexEvent) → IsJoined s r → BlankIsTold vs u
    → OutBeside vs (out_settled s) (out_settled r) (told_in_style (style_emits_settled {U = Url} (Out r) []) u)
joined-settled vs (Between false) (Between true) u j h = inr (tt, h)
joined-settled vs (AfterSolidus false) (AfterSolidus true) u j h = inl (refl, tt)
joined-settled vs _ _ u j h = absurd j

out-settles : (vs : List Filling) (s r : Outside) (u : List LexEvent) → OutBeside vs s r u
    → OutBeside vs (out_settled s) (out_settled r) (told_in_style (style_emits_settled {U = Url} (Out r) []) u)
out-settles vs s r u (inl h) =
    subst (λ (z : Outside). OutBeside vs (out_settled s) (out_settled z) (told_in_style (style_emits_settled {U = Url} (Out z) []) u)) (sym h.0)
    (inl (refl, settled-has s u h.1))
out-settles vs s r u (inr h) = joined-settled vs s r u h.0 h.1

pub style-settles : (vs : List Filling) (s r : Style Url) (u : List LexEvent) → StyleBeside vs s r u
    → StyleBeside vs (style_settled s) (style_settled r) (told_in_style (style_emits_settled r []) u)
style-settles vs (Out s) (Out r) u a = out-settles vs s r u a
style-settles vs (InUrl f z) (InUrl g y) u a = a
style-settles vs (Out s) (InUrl g y) u a = absurd a
style-settles vs (InUrl f z) (Out r) u a = absurd a

joined-pending : (vs : List Filling) (s r : Outside) (t u : List LexEvent) → IsJoined s r → Fills t vs u
    → Fills (told_in_style (style_emits_settled {U = Url} (Out s) []) t) vs (told_in_style (style_emits_settled {U = Url} (Out r) []) u)
joined-pending vs (Between false) (Between true) t u j f = f
joined-pending vs (AfterSolidus false) (AfterSolidus true) t u j f = fills-keep vs (InsideStyle (RunByte 47)) t u tt f
joined-pending vs _ _ t u j f = absurd j

out-pending : (vs : List Filling) (s r : Outside) (t u : List LexEvent) → OutBeside vs s r u → Fills t vs u
    → Fills (told_in_style (style_emits_settled {U = Url} (Out s) []) t) vs (told_in_style (style_emits_settled {U = Url} (Out r) []) u)
out-pending vs s r t u (inl h) f =
    subst (λ (z : Outside). Fills (told_in_style (style_emits_settled {U = Url} (Out s) []) t) vs
    (told_in_style (style_emits_settled {U = Url} (Out z) []) u)) (sym h.0)
    (settled-tells (λ t u. Fills t vs u) (fills-keep vs) (fills-style-scheme vs) (Out s) t u f)
out-pending vs s r t u (inr h) f = joined-pending vs s r t u h.0 f

pub style-pending : (vs : List Filling) (s r : Style Url) (t u : List LexEvent) → StyleBeside vs s r u → Fills t vs u
    → Fills (told_in_style (style_emits_settled s []) t) vs (told_in_style (style_emits_settled r []) u)
style-pending vs (Out s) (Out r) t u a f = out-pending vs s r t u a f
style-pending vs (InUrl g z) (InUrl h y) t u a f = f
style-pending vs (Out s) (InUrl g y) t u a f = absurd a
style-pending vs (InUrl g z) (Out r) t u a f = absurd a

-- Bytes: where they lead, what is told of them, and that it is told before what was told.
abbrev pub style_fed : Style Url → List ℕ → Style Url
style_fed s [] = s
style_fed s (b ∷ bs) = style_fed (feed_style urls s b) bs

abbrev pub style_told : Style Url → List ℕ → List LexEvent → List LexEvent
style_told s bs t = emitted_bytes languages (ValueOf (OfStyle s)) bs t

pub value-fed : (s : Style Url) (bs : List ℕ) → with_bytes languages (ValueOf (OfStyle s)) bs ≡ ValueOf (OfStyle (style_fed s bs))
value-fed s [] = refl
value-fed s (b ∷ bs) = value-fed (feed_style urls s b) bs

pub read-fed : (s : Style Url) (bs : List ℕ) (t : List (StyleEvent UrlEvent)) → (read_style urls bs (style_reading s t)).at ≡ style_fed s bs
read-fed s [] t = refl
read-fed s (b ∷ bs) t = read-fed (feed_style urls s b) bs (style_emits urls s b t)

told-over : (es fs : List (StyleEvent UrlEvent)) (t : List LexEvent) → told_in_style (es ++ fs) t ≡ told_in_style es (told_in_style fs t)
told-over [] fs t = refl
told-over (e ∷ es) fs t = ap (λ (z : List LexEvent). InsideStyle e ∷ z) (told-over es fs t)

pub byte-told : (s : Style Url) (b : ℕ) (es : List (StyleEvent UrlEvent)) (t : List LexEvent)
    → told_in_style (style_emits urls s b []) (told_in_style es t) ≡ told_in_style (style_emits urls s b es) t
byte-told s b es t =
    sym (told-over (style_emits urls s b []) es t)
    ∙ ap (λ (z : List (StyleEvent UrlEvent)). told_in_style z t) (sym (class-adds urls s (style_class b) b es))

pub read-told : (s : Style Url) (bs : List ℕ) (es : List (StyleEvent UrlEvent)) (t : List LexEvent)
    → style_told s bs (told_in_style es t) ≡ told_in_style (read_style urls bs (style_reading s es)).told t
read-told s [] es t = refl
read-told s (b ∷ bs) es t =
    ap (style_told (feed_style urls s b) bs) (byte-told s b es t) ∙ read-told (feed_style urls s b) bs (style_emits urls s b es) t

told-behind : (es : List (StyleEvent UrlEvent)) (t u : List LexEvent) → told_in_style es (t ++ u) ≡ told_in_style es t ++ u
told-behind [] t u = refl
told-behind (e ∷ es) t u = ap (λ (z : List LexEvent). InsideStyle e ∷ z) (told-behind es t u)

told-append : (s : Style Url) (bs : List ℕ) (t u : List LexEvent) → style_told s bs (t ++ u) ≡ style_told s bs t ++ u
told-append s [] t u = refl
told-append s (b ∷ bs) t u =
    ap (style_told (feed_style urls s b) bs) (told-behind (style_emits urls s b []) t u)
    ∙ told-append (feed_style urls s b) bs (told_in_style (style_emits urls s b []) t) u

pub told-run : (s : Style Url) (bs : List ℕ) (u : List LexEvent) → style_told s bs u ≡ style_run s bs ++ u
told-run s bs u = told-append s bs [] u

pub bytes-beside : (vs : List Filling) (bs : List ℕ) (s r : Style Url) (u : List LexEvent) → StyleBeside vs s r u
    → StyleBeside vs (style_fed s bs) (style_fed r bs) (style_told r bs u)
bytes-beside vs [] s r u a = a
bytes-beside vs (b ∷ bs) s r u a =
    bytes-beside vs bs (feed_style urls s b) (feed_style urls r b) (told_in_style (style_emits urls r b []) u)
    (style-next vs s r (style_class b) b u a)

-- Behind a value in code the mark stands: a blank in which the value ended is joined.
pub code-behind : (v : Filling) (vs : List Filling) (before s z : Outside) (u : List LexEvent) → IsCodeSite v.site → OutBeside (v ∷ vs) s z u
    → StyleBeside (v ∷ vs) (style_behind urls (Out before) (Out s)) (Out z) u
code-behind v vs before (Between true) z u i (inl h) = subst (λ (y : Outside). OutBeside (v ∷ vs) (Between false) y u) (sym h.0) (inr (tt, (i, h.1)))
code-behind v vs before (Between false) z u i a = a
code-behind v vs before (Between true) z u i (inr h) = absurd h.0
code-behind v vs before AfterLessThan z u i a = a
code-behind v vs before (Word w e) z u i a = a
code-behind v vs before (AfterSolidus k) z u i a = a
code-behind v vs before (Comment star) z u i a = a
code-behind v vs before (InString q e) z u i a = a
code-behind v vs before BadUrl z u i a = a
code-behind v vs before (BehindHole solidus less) z u i a = a
code-behind v vs before (SplitWord e) z u i a = a
code-behind v vs before (SolidusAtCut k) z u i a = a
code-behind v vs before LessThanAtCut z u i a = a
code-behind v vs before StarAtCut z u i a = a
