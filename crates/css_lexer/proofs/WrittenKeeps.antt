-- What is written of a style in its element keeps the page beside the path.
use Rattle.std.proofs.Common.{◌≡◌, ℕ, cond, Bool, true, false, List, [], ◌∷◌, None, refl, sym, ap, ap₂, ◌∙◌, subst, eqb-true, true≢false}
use Rattle.std.specs.Prelude.{⊤}
use Rattle.css_lexer.proofs.StylesKeep.{some, styles-keep}
use Rattle.css_lexer.specs.Alike.{AreAlikeOutside, the_same, StylesAlike, outside}
use Rattle.css_lexer.specs.Classes.{style_class}
use Rattle.css_lexer.specs.Escapes.{StyleEscape, NoEscape, AfterBackslash, HexDigits, AfterReturn, is_taken_in_style}
use Rattle.css_lexer.specs.Events.{StyleEvent, RunByte}
use Rattle.css_lexer.specs.Laws.{UrlReadingLaws}
use Rattle.css_lexer.specs.Paths.{style_after_cut}
use Rattle.css_lexer.specs.Refusals.{refuses_out, style_refuses, style_refuses_cut}
use Rattle.css_lexer.specs.States.{Quote, DoubleQuote, SingleQuote, UrlWord, SpellsUrl, Outside, Between, AfterLessThan, Word, AfterSolidus, Comment, InString, BadUrl, BehindHole, SplitWord, SolidusAtCut, LessThanAtCut, StarAtCut, UrlForm, Fresh, Bare, Quoted, Ended, Style, Out, InUrl}
use Rattle.css_lexer.specs.Steps.{next_style_string, next_bare, next_fresh, next_quoted, next_ended, next_in_url, style_next, style_emits_class, blank_once, feed_style, style_emits, style_ends, StyleReading, style_reading, read_style}
use Rattle.css_lexer.specs.UrlReading.{UrlReading}
use Rattle.css_lexer.specs.Written.{written_class, style_written_at_cut}
use Rattle.css_lexer.specs.WrittenLaws.{StandsAt, Stands, StyleWrittenLaws}
use Rattle.css_lexer.specs.declared.class.StyleClass.{StyleClass}
use Rattle.css_lexer.specs.declared.class.StyleClass.TheVariants as class

-- the only byte of its class
abbrev is_solidus : StyleClass → Bool
is_solidus class.Solidus = true
is_solidus c = false

past : (q : Bool) (a z : StyleClass) → is_solidus a ≡ false → cond q a z ≡ class.Solidus → z ≡ class.Solidus
past true a z n e = absurd (true≢false (sym (ap is_solidus e) ∙ n))
past false a z n e = e

here : (q : Bool) (z : StyleClass) → is_solidus z ≡ false → cond q class.Solidus z ≡ class.Solidus → q ≡ true
here true z n e = refl
here false z n e = absurd (true≢false (sym (ap is_solidus e) ∙ n))

other-later : (p q r : Bool) → is_solidus (cond p class.Asterisk (cond q class.LessThan (cond r class.Punctuation class.OtherByte))) ≡ false
other-later true q r = refl
other-later false true r = refl
other-later false false true = refl
other-later false false false = refl

pub solidus-byte : (b : ℕ) → style_class b ≡ class.Solidus → b ≡ 47
unfolding style_class
solidus-byte b e =
    let e1 = past _ class.Blank _ refl e in
    let e2 = past _ class.Newline _ refl e1 in
    let e3 = past _ class.WordByte _ refl e2 in
    let e4 = past _ class.ReverseSolidus _ refl e3 in
    let e5 = past _ class.QuotationMark _ refl e4 in
    let e6 = past _ class.Apostrophe _ refl e5 in
    let e7 = past _ class.LeftParenthesis _ refl e6 in
    let e8 = past _ class.RightParenthesis _ refl e7 in
    eqb-true b 47 (here _ _ (other-later _ _ _) e8)

-- states in which nothing waits
abbrev IsOpen : {U : Type 0} → Style U → Type 0
IsOpen (Out (AfterSolidus k)) = ⊥
IsOpen (Out (Comment star)) = ⊥
IsOpen (Out StarAtCut) = ⊥
IsOpen s = ⊤

open-stands : {U E : Type 0} (x : UrlReading U E) (v : Style U) (t : List (StyleEvent E)) (d : StyleReading U E) → IsOpen v → StandsAt x v t d → Stands x v t d
open-stands x (Out (Between k)) t d o h = h
open-stands x (Out AfterLessThan) t d o h = h
open-stands x (Out (Word w e)) t d o h = h
open-stands x (Out (AfterSolidus k)) t d o h = absurd o
open-stands x (Out (Comment star)) t d o h = absurd o
open-stands x (Out (InString q e)) t d o h = h
open-stands x (Out BadUrl) t d o h = h
open-stands x (Out (BehindHole solidus less)) t d o h = h
open-stands x (Out (SplitWord e)) t d o h = h
open-stands x (Out (SolidusAtCut k)) t d o h = h
open-stands x (Out LessThanAtCut) t d o h = h
open-stands x (Out StarAtCut) t d o h = absurd o
open-stands x (InUrl f u) t d o h = h

-- a byte that both read
step : {U E : Type 0} {x : UrlReading U E} → UrlReadingLaws U E x → (v : Style U) (b : ℕ) (t : List (StyleEvent E)) (d : StyleReading U E) → StandsAt x v t d → style_refuses x v b ≡ None
    → StandsAt x (feed_style x v b) (style_emits x v b t) (read_style x (b ∷ []) d)
step {U} {E} {x} l v b t d h n = record {
  alike = (styles-keep l).feeds v d.at b h.alike n;
  told = ap (λ (y : List (StyleEvent E)). style_emits x d.at b y) h.told ∙ (styles-keep l).emits v d.at b t h.alike n;
}

-- in strings and in urls
string-open : (U : Type 0) (taken : Bool) (q : Quote) (e : StyleEscape) (c : StyleClass) (b : ℕ) → IsOpen (next_style_string {U = U} taken q e c b)
string-open U true q e c b = tt
string-open U false DoubleQuote e class.Blank b = tt
string-open U false DoubleQuote e c b = tt
string-open U false SingleQuote e class.Blank b = tt
string-open U false SingleQuote e c b = tt

bare-open : {U E : Type 0} (x : UrlReading U E) (u : U) (c : StyleClass) (b : ℕ) → IsOpen (next_bare x u c b)
bare-open x u class.Blank b = tt
bare-open x u c b = tt

fresh-open : {U E : Type 0} (x : UrlReading U E) (u : U) (c : StyleClass) (b : ℕ) → IsOpen (next_fresh x u c b)
fresh-open x u class.Blank b = tt
fresh-open x u c b = tt

quoted-open : {U E : Type 0} (x : UrlReading U E) (taken : Bool) (q : Quote) (e : StyleEscape) (u : U) (c : StyleClass) (b : ℕ) → IsOpen (next_quoted x taken q e u c b)
quoted-open x true q e u c b = tt
quoted-open x false DoubleQuote e u class.Blank b = tt
quoted-open x false DoubleQuote e u c b = tt
quoted-open x false SingleQuote e u class.Blank b = tt
quoted-open x false SingleQuote e u c b = tt

ended-open : (U : Type 0) (u : U) (c : StyleClass) → IsOpen (next_ended u c)
ended-open U u class.Blank = tt
ended-open U u c = tt

url-open : {U E : Type 0} (x : UrlReading U E) (f : UrlForm) (u : U) (c : StyleClass) (b : ℕ) → IsOpen (next_in_url x f u c b)
url-open x Fresh u c b = fresh-open x u c b
url-open x Bare u c b = bare-open x u c b
url-open x (Quoted q e) u c b = quoted-open x (is_taken_in_style e b) q e u c b
url-open {U} x Ended u c b = ended-open U u c

-- A byte in a state in which nothing waits: it is written, but for a `/` that may begin a comment. `h` says that both have read it.
abbrev BothRead : {U E : Type 0} → UrlReading U E → Style U → StyleClass → ℕ → List (StyleEvent E) → StyleReading U E → Type 0
BothRead x v c b t d = StandsAt x (style_next x v c b) (style_emits_class x v c b t) (read_style x (b ∷ []) d)

abbrev Keeps : {U E : Type 0} → UrlReading U E → Style U → StyleClass → ℕ → List (StyleEvent E) → StyleReading U E → Type 0
Keeps x v c b t d = Stands x (style_next x v c b) (style_emits_class x v c b t) (read_style x (written_class x v c b) d)

waits : {U E : Type 0} (x : UrlReading U E) (k : Bool) (b : ℕ) (t : List (StyleEvent E)) (d : StyleReading U E) → style_class b ≡ class.Solidus
    → StandsAt x (Out (AfterSolidus k)) t (read_style x (b ∷ []) d) → StandsAt x (Out (AfterSolidus k)) t (read_style x (47 ∷ []) d)
waits x k b t d e h = subst (λ (y : ℕ). StandsAt x (Out (AfterSolidus k)) t (read_style x (y ∷ []) d)) (solidus-byte b e) h

between-keeps : {U E : Type 0} (x : UrlReading U E) (k : Bool) (c : StyleClass) (b : ℕ) (t : List (StyleEvent E)) (d : StyleReading U E) → style_class b ≡ c
    → BothRead x (Out (Between k)) c b t d → Keeps x (Out (Between k)) c b t d
between-keeps x k class.Solidus b t d e h = waits x k b t d e h
between-keeps x k c b t d e h = h

less-keeps : {U E : Type 0} (x : UrlReading U E) (c : StyleClass) (b : ℕ) (t : List (StyleEvent E)) (d : StyleReading U E) → style_class b ≡ c
    → BothRead x (Out AfterLessThan) c b t d → Keeps x (Out AfterLessThan) c b t d
less-keeps x class.Solidus b t d e h = waits x false b t d e h
less-keeps x c b t d e h = h

word-keeps : {U E : Type 0} (x : UrlReading U E) (w : UrlWord) (i : StyleEscape) (c : StyleClass) (b : ℕ) (t : List (StyleEvent E)) (d : StyleReading U E) → style_class b ≡ c
    → BothRead x (Out (Word w i)) c b t d → Keeps x (Out (Word w i)) c b t d
word-keeps x w AfterBackslash c b t d e h = h
word-keeps x SpellsUrl NoEscape class.LeftParenthesis b t d e h = h
word-keeps x SpellsUrl (HexDigits n) class.LeftParenthesis b t d e h = h
word-keeps x SpellsUrl AfterReturn class.LeftParenthesis b t d e h = h
word-keeps x w NoEscape class.Solidus b t d e h = waits x false b t d e h
word-keeps x w (HexDigits n) class.Solidus b t d e h = waits x false b t d e h
word-keeps x w AfterReturn class.Solidus b t d e h = waits x false b t d e h
word-keeps x w NoEscape c b t d e h = h
word-keeps x w (HexDigits n) c b t d e h = h
word-keeps x w AfterReturn c b t d e h = h

split-keeps : {U E : Type 0} (x : UrlReading U E) (i : StyleEscape) (c : StyleClass) (b : ℕ) (t : List (StyleEvent E)) (d : StyleReading U E) → style_class b ≡ c
    → BothRead x (Out (SplitWord i)) c b t d → Keeps x (Out (SplitWord i)) c b t d
split-keeps x AfterBackslash c b t d e h = h
split-keeps x NoEscape class.Solidus b t d e h = waits x false b t d e h
split-keeps x (HexDigits n) class.Solidus b t d e h = waits x false b t d e h
split-keeps x AfterReturn class.Solidus b t d e h = waits x false b t d e h
split-keeps x NoEscape c b t d e h = h
split-keeps x (HexDigits n) c b t d e h = h
split-keeps x AfterReturn c b t d e h = h

hole-keeps : {U E : Type 0} (x : UrlReading U E) (solidus less : Bool) (c : StyleClass) (b : ℕ) (t : List (StyleEvent E)) (d : StyleReading U E) → style_class b ≡ c
    → BothRead x (Out (BehindHole solidus less)) c b t d → Keeps x (Out (BehindHole solidus less)) c b t d
hole-keeps x solidus less class.Solidus b t d e h = waits x false b t d e h
hole-keeps x solidus less c b t d e h = h

cut-solidus-keeps : {U E : Type 0} (x : UrlReading U E) (k : Bool) (c : StyleClass) (b : ℕ) (t : List (StyleEvent E)) (d : StyleReading U E) → style_class b ≡ c → refuses_out (SolidusAtCut k) c b ≡ None
    → BothRead x (Out (SolidusAtCut k)) c b t d → Keeps x (Out (SolidusAtCut k)) c b t d
cut-solidus-keeps x k class.Asterisk b t d e n h = absurd (some _ n)
cut-solidus-keeps x k class.Solidus b t d e n h = waits x false b _ d e h
cut-solidus-keeps x k c b t d e n h = h

cut-less-keeps : {U E : Type 0} (x : UrlReading U E) (c : StyleClass) (b : ℕ) (t : List (StyleEvent E)) (d : StyleReading U E) → style_class b ≡ c → refuses_out LessThanAtCut c b ≡ None
    → BothRead x (Out LessThanAtCut) c b t d → Keeps x (Out LessThanAtCut) c b t d
cut-less-keeps x class.Solidus b t d e n h = absurd (some _ n)
cut-less-keeps x c b t d e n h = h

bad-keeps : {U E : Type 0} (x : UrlReading U E) (c : StyleClass) (b : ℕ) (t : List (StyleEvent E)) (d : StyleReading U E) → BothRead x (Out BadUrl) c b t d → Keeps x (Out BadUrl) c b t d
bad-keeps x class.RightParenthesis b t d h = h
bad-keeps x c b t d h = h

-- in a comment
from-space : {U E : Type 0} (x : UrlReading U E) (t : List (StyleEvent E)) (d : StyleReading U E) → d ≡ style_reading (Out (Between true)) t → StandsAt x (Out (Between true)) t d
from-space {U} {E} x t d e = record {
  alike = subst (λ (y : StyleReading U E). StylesAlike x (Out (Between true)) y.at) (sym e) (outside (the_same _ tt));
  told = ap (λ (y : StyleReading U E). y.told) e;
}

comment-keeps : {U E : Type 0} (x : UrlReading U E) (star : Bool) (c : StyleClass) (b : ℕ) (t : List (StyleEvent E)) (d : StyleReading U E) → read_style x (32 ∷ []) d ≡ style_reading (Out (Between true)) t
    → Keeps x (Out (Comment star)) c b t d
comment-keeps x true class.Solidus b t d h = from-space x t (read_style x (32 ∷ []) d) h
comment-keeps x true class.Asterisk b t d h = h
comment-keeps x true c b t d h = h
comment-keeps x false class.Asterisk b t d h = h
comment-keeps x false c b t d h = h

star-keeps : {U E : Type 0} (x : UrlReading U E) (c : StyleClass) (b : ℕ) (t : List (StyleEvent E)) (d : StyleReading U E) → refuses_out StarAtCut c b ≡ None → read_style x (32 ∷ []) d ≡ style_reading (Out (Between true)) t
    → Keeps x (Out StarAtCut) c b t d
star-keeps x class.Solidus b t d n h = absurd (some _ n)
star-keeps x class.Asterisk b t d n h = h
star-keeps x c b t d n h = h

-- behind a `/`
abbrev flag : {U : Type 0} → Style U → Bool
flag (Out (AfterSolidus k)) = k
flag s = true

abbrev is_behind_solidus : {U : Type 0} → Style U → Bool
is_behind_solidus (Out (AfterSolidus k)) = true
is_behind_solidus s = false

solidus-same : (k : Bool) (r : Outside) → AreAlikeOutside (AfterSolidus k) r → r ≡ AfterSolidus k
solidus-same k r (the_same z o) = refl

alike-solidus : {U E : Type 0} (x : UrlReading U E) (k : Bool) (w : Style U) → StylesAlike x (Out (AfterSolidus k)) w → w ≡ Out (AfterSolidus k)
alike-solidus x k (Out r) (outside a) = ap Out (solidus-same k r a)
alike-solidus x k (InUrl f u) a = elim a [ ]

no-other : {U E : Type 0} {A : Type 0} (x : UrlReading U E) (k : Bool) (w : Style U) → is_behind_solidus w ≡ false → StylesAlike x (Out (AfterSolidus k)) w → A
no-other x k w n a = absurd (true≢false (sym (ap is_behind_solidus (alike-solidus x k w a)) ∙ n))

one-blank : {U E : Type 0} (x : UrlReading U E) (k j : Bool) (t t0 : List (StyleEvent E)) → StylesAlike x (Out (AfterSolidus k)) (Out (AfterSolidus j)) → t0 ≡ t
    → style_reading {U = U} (Out (Between true)) (blank_once j t0) ≡ style_reading (Out (Between true)) (blank_once k t)
one-blank {U} {E} x k j t t0 a e = ap₂ (λ (i : Bool) (y : List (StyleEvent E)). style_reading (Out (Between true)) (blank_once i y)) (ap flag (alike-solidus x k (Out (AfterSolidus j)) a)) e

string-no-solidus : (U : Type 0) (q : Quote) (i : StyleEscape) → is_behind_solidus (next_style_string {U = U} (is_taken_in_style i 47) q i class.Solidus 47) ≡ false
string-no-solidus U DoubleQuote NoEscape = refl
string-no-solidus U DoubleQuote AfterBackslash = refl
string-no-solidus U DoubleQuote (HexDigits n) = refl
string-no-solidus U DoubleQuote AfterReturn = refl
string-no-solidus U SingleQuote NoEscape = refl
string-no-solidus U SingleQuote AfterBackslash = refl
string-no-solidus U SingleQuote (HexDigits n) = refl
string-no-solidus U SingleQuote AfterReturn = refl

quoted-no-solidus : {U E : Type 0} (x : UrlReading U E) (q : Quote) (i : StyleEscape) (u : U) → is_behind_solidus (next_quoted x (is_taken_in_style i 47) q i u class.Solidus 47) ≡ false
quoted-no-solidus x DoubleQuote NoEscape u = refl
quoted-no-solidus x DoubleQuote AfterBackslash u = refl
quoted-no-solidus x DoubleQuote (HexDigits n) u = refl
quoted-no-solidus x DoubleQuote AfterReturn u = refl
quoted-no-solidus x SingleQuote NoEscape u = refl
quoted-no-solidus x SingleQuote AfterBackslash u = refl
quoted-no-solidus x SingleQuote (HexDigits n) u = refl
quoted-no-solidus x SingleQuote AfterReturn u = refl

-- Where a page would be behind a `/`, a space in its place tells the blank that a comment tells.
before-comment : {U E : Type 0} (x : UrlReading U E) (k : Bool) (s : Style U) (t0 t : List (StyleEvent E)) → StylesAlike x (Out (AfterSolidus k)) (style_next x s class.Solidus 47)
    → style_emits_class x s class.Solidus 47 t0 ≡ t → style_reading (style_next x s class.Blank 32) (style_emits_class x s class.Blank 32 t0) ≡ style_reading (Out (Between true)) (blank_once k t)
before-comment x k (Out (Between j)) t0 t a e = one-blank x k j t t0 a e
before-comment x k (Out AfterLessThan) t0 t a e = one-blank x k false t t0 a e
before-comment x k (Out (Word w AfterBackslash)) t0 t a e = no-other x k _ refl a
before-comment x k (Out (Word SpellsUrl NoEscape)) t0 t a e = one-blank x k false t t0 a e
before-comment x k (Out (Word SpellsUrl (HexDigits n))) t0 t a e = one-blank x k false t t0 a e
before-comment x k (Out (Word SpellsUrl AfterReturn)) t0 t a e = one-blank x k false t t0 a e
before-comment x k (Out (Word w NoEscape)) t0 t a e = one-blank x k false t t0 a e
before-comment x k (Out (Word w (HexDigits n))) t0 t a e = one-blank x k false t t0 a e
before-comment x k (Out (Word w AfterReturn)) t0 t a e = one-blank x k false t t0 a e
before-comment x k (Out (AfterSolidus j)) t0 t a e = one-blank x k false t (RunByte 47 ∷ t0) a e
before-comment x k (Out (Comment true)) t0 t a e = no-other x k _ refl a
before-comment x k (Out (Comment false)) t0 t a e = no-other x k _ refl a
before-comment {U} x k (Out (InString q i)) t0 t a e = no-other x k _ (string-no-solidus U q i) a
before-comment x k (Out BadUrl) t0 t a e = no-other x k _ refl a
before-comment x k (Out (BehindHole solidus less)) t0 t a e = one-blank x k false t t0 a e
before-comment x k (Out (SplitWord AfterBackslash)) t0 t a e = no-other x k _ refl a
before-comment x k (Out (SplitWord NoEscape)) t0 t a e = one-blank x k false t t0 a e
before-comment x k (Out (SplitWord (HexDigits n))) t0 t a e = one-blank x k false t t0 a e
before-comment x k (Out (SplitWord AfterReturn)) t0 t a e = one-blank x k false t t0 a e
before-comment x k (Out (SolidusAtCut j)) t0 t a e = one-blank x k false t (RunByte 47 ∷ t0) a e
before-comment x k (Out LessThanAtCut) t0 t a e = one-blank x k false t t0 a e
before-comment x k (Out StarAtCut) t0 t a e = no-other x k _ refl a
before-comment x k (InUrl Fresh u) t0 t a e = no-other x k _ refl a
before-comment x k (InUrl Bare u) t0 t a e = no-other x k _ refl a
before-comment x k (InUrl (Quoted q i) u) t0 t a e = no-other x k _ (quoted-no-solidus x q i u) a
before-comment x k (InUrl Ended u) t0 t a e = no-other x k _ refl a

-- a byte behind a `/` that waits: `h` says that both have read the `/`, `g` that they have read the byte too
solidus-keeps : {U E : Type 0} (x : UrlReading U E) (k : Bool) (c : StyleClass) (b : ℕ) (t : List (StyleEvent E)) (d : StyleReading U E) → style_class b ≡ c
    → StandsAt x (Out (AfterSolidus k)) t (read_style x (47 ∷ []) d) → BothRead x (Out (AfterSolidus k)) c b t (read_style x (47 ∷ []) d) → Keeps x (Out (AfterSolidus k)) c b t d
unfolding style_class
solidus-keeps x k class.Asterisk b t d e h g = before-comment x k d.at d.told t h.alike h.told
solidus-keeps x k class.Solidus b t d e h g = waits x false b _ (read_style x (47 ∷ []) d) e g
solidus-keeps x k c b t d e h g = g

byte-keeps : {U E : Type 0} {x : UrlReading U E} → UrlReadingLaws U E x → (v : Style U) (b : ℕ) (t : List (StyleEvent E)) (d : StyleReading U E) → Stands x v t d → style_refuses x v b ≡ None
    → Keeps x v (style_class b) b t d
byte-keeps {U} {E} {x} l (Out (Between k)) b t d h n = between-keeps x k (style_class b) b t d refl (step l (Out (Between k)) b t d h n)
byte-keeps {U} {E} {x} l (Out AfterLessThan) b t d h n = less-keeps x (style_class b) b t d refl (step l (Out AfterLessThan) b t d h n)
byte-keeps {U} {E} {x} l (Out (Word w e)) b t d h n = word-keeps x w e (style_class b) b t d refl (step l (Out (Word w e)) b t d h n)
byte-keeps {U} {E} {x} l (Out (AfterSolidus k)) b t d h n = solidus-keeps x k (style_class b) b t d refl h (step l (Out (AfterSolidus k)) b t (read_style x (47 ∷ []) d) h n)
byte-keeps {U} {E} {x} l (Out (Comment star)) b t d h n = comment-keeps x star (style_class b) b t d h
byte-keeps {U} {E} {x} l (Out (InString q e)) b t d h n = open-stands x _ _ _ (string-open U (is_taken_in_style e b) q e (style_class b) b) (step l (Out (InString q e)) b t d h n)
byte-keeps {U} {E} {x} l (Out BadUrl) b t d h n = bad-keeps x (style_class b) b t d (step l (Out BadUrl) b t d h n)
byte-keeps {U} {E} {x} l (Out (BehindHole solidus less)) b t d h n = hole-keeps x solidus less (style_class b) b t d refl (step l (Out (BehindHole solidus less)) b t d h n)
byte-keeps {U} {E} {x} l (Out (SplitWord e)) b t d h n = split-keeps x e (style_class b) b t d refl (step l (Out (SplitWord e)) b t d h n)
byte-keeps {U} {E} {x} l (Out (SolidusAtCut k)) b t d h n = cut-solidus-keeps x k (style_class b) b t d refl n (step l (Out (SolidusAtCut k)) b t d h n)
byte-keeps {U} {E} {x} l (Out LessThanAtCut) b t d h n = cut-less-keeps x (style_class b) b t d refl n (step l (Out LessThanAtCut) b t d h n)
byte-keeps {U} {E} {x} l (Out StarAtCut) b t d h n = star-keeps x (style_class b) b t d n h
byte-keeps {U} {E} {x} l (InUrl f u) b t d h n = open-stands x _ _ _ (url-open x f u (style_class b) b) (step l (InUrl f u) b t d h n)

-- the end of a node
cut-at : {U E : Type 0} {x : UrlReading U E} → UrlReadingLaws U E x → (v : Style U) (t : List (StyleEvent E)) (d : StyleReading U E) → StandsAt x v t d → style_refuses_cut x v ≡ None → StandsAt x (style_after_cut x v) t d
cut-at l v t d h n = record { alike = (styles-keep l).after_cut v d.at h.alike n; told = h.told }

space-again : {U E : Type 0} (x : UrlReading U E) (t : List (StyleEvent E)) (d : StyleReading U E) → d ≡ style_reading (Out (Between true)) t → read_style x (32 ∷ []) d ≡ style_reading (Out (Between true)) t
unfolding style_class
space-again {U} {E} x t d h = ap (λ (y : StyleReading U E). read_style x (32 ∷ []) y) h

cut-keeps : {U E : Type 0} {x : UrlReading U E} → UrlReadingLaws U E x → (v : Style U) (t : List (StyleEvent E)) (d : StyleReading U E) → Stands x v t d → style_refuses_cut x v ≡ None
    → Stands x (style_after_cut x v) t (read_style x (style_written_at_cut v) d)
cut-keeps l (Out (Between k)) t d h n = h
cut-keeps l (Out AfterLessThan) t d h n = cut-at l (Out AfterLessThan) t d h n
cut-keeps l (Out (Word w e)) t d h n = cut-at l (Out (Word w e)) t d h n
cut-keeps {U} {E} {x} l (Out (AfterSolidus k)) t d h n = cut-at l (Out (AfterSolidus k)) t (read_style x (47 ∷ []) d) h n
cut-keeps {U} {E} {x} l (Out (Comment true)) t d h n = space-again x t (read_style x (32 ∷ []) d) h
cut-keeps {U} {E} {x} l (Out (Comment false)) t d h n = space-again x t (read_style x (32 ∷ []) d) h
cut-keeps l (Out (InString q e)) t d h n = cut-at l (Out (InString q e)) t d h n
cut-keeps l (Out BadUrl) t d h n = h
cut-keeps l (Out (BehindHole solidus less)) t d h n = h
cut-keeps l (Out (SplitWord e)) t d h n = cut-at l (Out (SplitWord e)) t d h n
cut-keeps l (Out (SolidusAtCut k)) t d h n = h
cut-keeps l (Out LessThanAtCut) t d h n = h
cut-keeps {U} {E} {x} l (Out StarAtCut) t d h n = space-again x t (read_style x (32 ∷ []) d) h
cut-keeps l (InUrl Fresh u) t d h n = h
cut-keeps l (InUrl Bare u) t d h n = cut-at l (InUrl Bare u) t d h n
cut-keeps l (InUrl (Quoted q e) u) t d h n = cut-at l (InUrl (Quoted q e) u) t d h n
cut-keeps l (InUrl Ended u) t d h n = h

-- the end of the element
ends-at : {U E : Type 0} {x : UrlReading U E} → UrlReadingLaws U E x → (v : Style U) (t : List (StyleEvent E)) (d : StyleReading U E) → StandsAt x v t d → style_ends x d.at d.told ≡ style_ends x v t
ends-at {U} {E} {x} l v t d h = ap (λ (y : List (StyleEvent E)). style_ends x d.at y) h.told ∙ (styles-keep l).ends v d.at t h.alike

space-ends : {U E : Type 0} (x : UrlReading U E) (t : List (StyleEvent E)) (d : StyleReading U E) → d ≡ style_reading (Out (Between true)) t → style_ends x d.at d.told ≡ t
space-ends {U} {E} x t d h = ap (λ (y : StyleReading U E). style_ends x y.at y.told) h

ends-keep : {U E : Type 0} {x : UrlReading U E} → UrlReadingLaws U E x → (v : Style U) (t : List (StyleEvent E)) (d : StyleReading U E) → Stands x v t d
    → style_ends x (read_style x (style_written_at_cut v) d).at (read_style x (style_written_at_cut v) d).told ≡ style_ends x v t
ends-keep l (Out (Between k)) t d h = ends-at l (Out (Between k)) t d h
ends-keep l (Out AfterLessThan) t d h = ends-at l (Out AfterLessThan) t d h
ends-keep l (Out (Word w e)) t d h = ends-at l (Out (Word w e)) t d h
ends-keep {U} {E} {x} l (Out (AfterSolidus k)) t d h = ends-at l (Out (AfterSolidus k)) t (read_style x (47 ∷ []) d) h
ends-keep {U} {E} {x} l (Out (Comment star)) t d h = space-ends x t (read_style x (32 ∷ []) d) h
ends-keep l (Out (InString q e)) t d h = ends-at l (Out (InString q e)) t d h
ends-keep l (Out BadUrl) t d h = ends-at l (Out BadUrl) t d h
ends-keep l (Out (BehindHole solidus less)) t d h = ends-at l (Out (BehindHole solidus less)) t d h
ends-keep l (Out (SplitWord e)) t d h = ends-at l (Out (SplitWord e)) t d h
ends-keep l (Out (SolidusAtCut k)) t d h = ends-at l (Out (SolidusAtCut k)) t d h
ends-keep l (Out LessThanAtCut) t d h = ends-at l (Out LessThanAtCut) t d h
ends-keep {U} {E} {x} l (Out StarAtCut) t d h = space-ends x t (read_style x (32 ∷ []) d) h
ends-keep l (InUrl f u) t d h = ends-at l (InUrl f u) t d h

pub written-keeps : {U E : Type 0} {x : UrlReading U E} → UrlReadingLaws U E x → StyleWrittenLaws U E x
written-keeps {U} {E} {x} l = record {
  begins = record { alike = outside (the_same _ tt); told = refl };
  byte = λ v b t d h n. byte-keeps l v b t d h n;
  cut = λ v t d h n. cut-keeps l v t d h n;
  ends = λ v t d h. ends-keep l v t d h;
}
