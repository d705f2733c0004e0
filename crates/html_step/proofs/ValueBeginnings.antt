-- Values in the beginning of a URL, be it the value or in a style: what keeps them there byte by byte, and the value of which it is not known what it
-- has spelled.
use Rattle.std.proofs.Common.{◌≡◌, ℕ, Bool, true, false, List, [], ◌∷◌, ◌++◌, refl, sym, ap, ◌∙◌, ◌⊎◌, inl, inr}
use Rattle.css_lexer.specs.Classes.{style_class}
use Rattle.css_lexer.specs.Escapes.{StyleEscape, NoEscape, AfterBackslash, HexDigits, AfterReturn, is_taken_in_style, behind_byte, behind_taken_in_string}
use Rattle.css_lexer.specs.States.{Quote, DoubleQuote, SingleQuote, UrlWord, SpellsU, SpellsUr, SpellsUrl, SpellsOther, Outside, Between, AfterLessThan, Word, AfterSolidus, Comment, InString, BadUrl, BehindHole, SplitWord, SolidusAtCut, LessThanAtCut, StarAtCut, Fresh, Bare, Quoted, Ended, Style, Out, InUrl}
use Rattle.css_lexer.specs.Steps.{next_bare, next_bad, next_between, next_ended, next_out, next_quoted, next_solidus, next_split, next_style_comment, next_style_string, next_style_word, style_next}
use Rattle.css_lexer.specs.Urls.{urls}
use Rattle.css_lexer.specs.declared.class.StyleClass.{StyleClass}
use Rattle.css_lexer.specs.declared.class.StyleClass.TheVariants as css
use Rattle.place_core.specs.page.Tags.{ValueOf, ValueState, OfKind, OfUrl, OfStyle, OfScript, languages, with_bytes, feed_value}
use Rattle.place_core.specs.place.PathPairs.{is_in_open, unknown_part, unknown_style, unknown_url, url_in_style}
use Rattle.html_step.proofs.Parentheses.{NoOpening, OpensAtEnds, OpensFirst, OpensLast, last-ends}
use Rattle.url_lexer.specs.Classes.{url_class_of}
use Rattle.url_lexer.specs.Parts.{UrlPart, UrlStart, UrlOpen, UrlOpenhole, UrlPrequery, UrlQuery, UrlBad, next_part, part_behind_scheme}
use Rattle.url_lexer.specs.Prefixes.{is_whole_word}
use Rattle.url_lexer.specs.States.{Url, feed_url}
use Rattle.url_lexer.specs.TwoPaths.{is_open}
use Rattle.url_lexer.specs.declared.class.UrlClass.{UrlClass}
use Rattle.url_lexer.specs.declared.class.UrlClass.TheVariants as class

no : false ≡ true → ⊥
no e = cc

-- A part that is no longer in the beginning does not come back to it.
abbrev pub is_past : UrlPart → Bool
is_past UrlStart = false
is_past (UrlOpen p) = false
is_past UrlOpenhole = true
is_past UrlPrequery = true
is_past UrlQuery = true
is_past UrlBad = true

past-next : (p : UrlPart) (c : UrlClass) (b : ℕ) → is_past p ≡ true → is_past (next_part p c b) ≡ true
past-next UrlStart c b h = absurd (no h)
past-next (UrlOpen p) c b h = absurd (no h)
past-next UrlOpenhole class.Slash b h = refl
past-next UrlOpenhole class.QueryMark b h = refl
past-next UrlOpenhole _ b h = refl
past-next UrlPrequery class.QueryMark b h = refl
past-next UrlPrequery _ b h = refl
past-next UrlQuery c b h = refl
past-next UrlBad c b h = refl

open-past : (p : UrlPart) → is_open p ≡ true → is_past p ≡ true → ⊥
open-past UrlStart h k = no h
open-past (UrlOpen p) h k = no k
open-past UrlOpenhole h k = no h
open-past UrlPrequery h k = no h
open-past UrlQuery h k = no h
open-past UrlBad h k = no h

scheme-past : (code : Bool) → is_past (part_behind_scheme code) ≡ true
scheme-past true = refl
scheme-past false = refl

open-next : (p : UrlPart) (c : UrlClass) (b : ℕ) → is_open p ≡ true → (is_open (next_part p c b) ≡ true) ⊎ (is_past (next_part p c b) ≡ true)
open-next (UrlOpen p) class.Colon b h = inr (scheme-past (is_whole_word p))
open-next (UrlOpen p) class.Slash b h = inr refl
open-next (UrlOpen p) class.QueryMark b h = inr refl
open-next (UrlOpen p) _ b h = inl refl
open-next UrlStart c b h = absurd (no h)
open-next UrlOpenhole c b h = absurd (no h)
open-next UrlPrequery c b h = absurd (no h)
open-next UrlQuery c b h = absurd (no h)
open-next UrlBad c b h = absurd (no h)

unknown-next : (p : UrlPart) (c : UrlClass) (b : ℕ) → is_open p ≡ true → is_open (next_part p c b) ≡ true
    → next_part (unknown_part p) c b ≡ unknown_part (next_part p c b)
unknown-next (UrlOpen p) class.TabOrNewline b h k = refl
unknown-next (UrlOpen p) class.ControlOrSpace b h k = refl
unknown-next (UrlOpen p) class.Percent b h k = refl
unknown-next (UrlOpen p) class.Hexadecimal b h k = refl
unknown-next (UrlOpen p) class.Other b h k = refl
unknown-next (UrlOpen p) class.Colon b h k = absurd (open-past (part_behind_scheme (is_whole_word p)) k (scheme-past (is_whole_word p)))
unknown-next (UrlOpen p) class.Slash b h k = absurd (no k)
unknown-next (UrlOpen p) class.QueryMark b h k = absurd (no k)
unknown-next UrlStart c b h k = absurd (no h)
unknown-next UrlOpenhole c b h k = absurd (no h)
unknown-next UrlPrequery c b h k = absurd (no h)
unknown-next UrlQuery c b h k = absurd (no h)
unknown-next UrlBad c b h k = absurd (no h)

unknown-fed : (u : Url) (b : ℕ) → is_open u.part ≡ true → is_open (feed_url u b).part ≡ true → feed_url (unknown_url u) b ≡ unknown_url (feed_url u b)
unknown-fed u b h k =
    ap (λ (p : UrlPart). record { part = p; scheme = (feed_url u b).scheme; free = u.free; triple = (feed_url u b).triple })
    (unknown-next u.part (url_class_of b) b h k)

-- A style that is away from the beginning of a URL is in none before a `(`.
abbrev pub is_style_away : Style Url → Bool
is_style_away (Out s) = true
is_style_away (InUrl Fresh u) = false
is_style_away (InUrl Bare u) = is_past u.part
is_style_away (InUrl (Quoted q e) u) = is_past u.part
is_style_away (InUrl Ended u) = true

abbrev Away : Style Url → StyleClass → Type 0
Away s c = (is_style_away s ≡ true) ⊎ ((c ≡ css.LeftParenthesis) × (is_in_open (url_in_style s) ≡ false))

between-away : (k : Bool) (c : StyleClass) (b : ℕ) → is_style_away (next_between k c b) ≡ true
between-away k css.Blank b = refl
between-away k css.Newline b = refl
between-away k css.WordByte b = refl
between-away k css.ReverseSolidus b = refl
between-away k css.QuotationMark b = refl
between-away k css.Apostrophe b = refl
between-away k css.Solidus b = refl
between-away k css.LessThan b = refl
between-away k _ b = refl

word-away : (w : UrlWord) (e : StyleEscape) (c : StyleClass) (b : ℕ) → Away (next_style_word urls w e c b) c
word-away w AfterBackslash c b = inl refl
word-away w NoEscape css.WordByte b = inl refl
word-away w (HexDigits k) css.WordByte b = inl refl
word-away w AfterReturn css.WordByte b = inl refl
word-away w NoEscape css.ReverseSolidus b = inl refl
word-away w (HexDigits k) css.ReverseSolidus b = inl refl
word-away w AfterReturn css.ReverseSolidus b = inl refl
word-away SpellsUrl NoEscape css.LeftParenthesis b = inr (refl, refl)
word-away SpellsUrl (HexDigits k) css.LeftParenthesis b = inr (refl, refl)
word-away SpellsUrl AfterReturn css.LeftParenthesis b = inr (refl, refl)
word-away SpellsUrl NoEscape c b = inl (between-away false c b)
word-away SpellsUrl (HexDigits k) c b = inl (between-away false c b)
word-away SpellsUrl AfterReturn c b = inl (between-away false c b)
word-away SpellsU NoEscape c b = inl (between-away false c b)
word-away SpellsU (HexDigits k) c b = inl (between-away false c b)
word-away SpellsU AfterReturn c b = inl (between-away false c b)
word-away SpellsUr NoEscape c b = inl (between-away false c b)
word-away SpellsUr (HexDigits k) c b = inl (between-away false c b)
word-away SpellsUr AfterReturn c b = inl (between-away false c b)
word-away SpellsOther NoEscape c b = inl (between-away false c b)
word-away SpellsOther (HexDigits k) c b = inl (between-away false c b)
word-away SpellsOther AfterReturn c b = inl (between-away false c b)

solidus-away : (c : StyleClass) (b : ℕ) → is_style_away (next_solidus c b) ≡ true
solidus-away css.Asterisk b = refl
solidus-away c b = between-away false c b

comment-away : (star : Bool) (c : StyleClass) → is_style_away (next_style_comment star c) ≡ true
comment-away true css.Solidus = refl
comment-away true css.Asterisk = refl
comment-away true _ = refl
comment-away false css.Asterisk = refl
comment-away false _ = refl

string-away : (taken : Bool) (q : Quote) (e : StyleEscape) (c : StyleClass) (b : ℕ) → is_style_away (next_style_string taken q e c b) ≡ true
string-away true q e c b = refl
string-away false DoubleQuote e css.QuotationMark b = refl
string-away false DoubleQuote e css.Newline b = refl
string-away false DoubleQuote e css.ReverseSolidus b = refl
string-away false DoubleQuote e _ b = refl
string-away false SingleQuote e css.Apostrophe b = refl
string-away false SingleQuote e css.Newline b = refl
string-away false SingleQuote e css.ReverseSolidus b = refl
string-away false SingleQuote e _ b = refl

split-away : (e : StyleEscape) (c : StyleClass) (b : ℕ) → is_style_away (next_split e c b) ≡ true
split-away AfterBackslash c b = refl
split-away NoEscape css.WordByte b = refl
split-away NoEscape css.ReverseSolidus b = refl
split-away NoEscape c b = between-away false c b
split-away (HexDigits k) css.WordByte b = refl
split-away (HexDigits k) css.ReverseSolidus b = refl
split-away (HexDigits k) c b = between-away false c b
split-away AfterReturn css.WordByte b = refl
split-away AfterReturn css.ReverseSolidus b = refl
split-away AfterReturn c b = between-away false c b

bad-away : (c : StyleClass) → is_style_away (next_bad c) ≡ true
bad-away css.RightParenthesis = refl
bad-away _ = refl

out-away : (s : Outside) (c : StyleClass) (b : ℕ) → Away (next_out urls s c b) c
out-away (Between k) c b = inl (between-away k c b)
out-away AfterLessThan c b = inl (between-away false c b)
out-away (Word w e) c b = word-away w e c b
out-away (AfterSolidus k) c b = inl (solidus-away c b)
out-away (Comment star) c b = inl (comment-away star c)
out-away (InString q e) c b = inl (string-away (is_taken_in_style e b) q e c b)
out-away BadUrl c b = inl (bad-away c)
out-away (BehindHole solidus less) c b = inl (split-away NoEscape c b)
out-away (SplitWord e) c b = inl (split-away e c b)
out-away (SolidusAtCut k) c b = inl (solidus-away c b)
out-away LessThanAtCut c b = inl (between-away false c b)
out-away StarAtCut c b = inl (comment-away true c)

-- in a URL, by its part
bare-by : (P : Style Url → Type 0) (u : Url) (c : StyleClass) (b : ℕ) → P (InUrl Ended u) → P (Out (Between false)) → P (Out BadUrl)
    → P (InUrl Bare (feed_url u b)) → P (next_bare urls u c b)
bare-by P u css.Blank b e o x f = e
bare-by P u css.Newline b e o x f = e
bare-by P u css.RightParenthesis b e o x f = o
bare-by P u css.QuotationMark b e o x f = x
bare-by P u css.Apostrophe b e o x f = x
bare-by P u css.LeftParenthesis b e o x f = x
bare-by P u _ b e o x f = f

quoted-by : (P : Style Url → Type 0) (taken : Bool) (q : Quote) (z : StyleEscape) (u : Url) (c : StyleClass) (b : ℕ) → P (InUrl Ended u) → P (Out BadUrl)
    → ((a : StyleEscape) → P (InUrl (Quoted q a) (feed_url u b))) → P (next_quoted urls taken q z u c b)
quoted-by P true q z u c b e x f = f (behind_taken_in_string z b)
quoted-by P false DoubleQuote z u css.QuotationMark b e x f = e
quoted-by P false DoubleQuote z u css.Newline b e x f = x
quoted-by P false DoubleQuote z u css.ReverseSolidus b e x f = f AfterBackslash
quoted-by P false DoubleQuote z u _ b e x f = f (behind_byte z b)
quoted-by P false SingleQuote z u css.Apostrophe b e x f = e
quoted-by P false SingleQuote z u css.Newline b e x f = x
quoted-by P false SingleQuote z u css.ReverseSolidus b e x f = f AfterBackslash
quoted-by P false SingleQuote z u _ b e x f = f (behind_byte z b)

ended-away : (u : Url) (c : StyleClass) → is_style_away (next_ended u c) ≡ true
ended-away u css.Blank = refl
ended-away u css.Newline = refl
ended-away u css.RightParenthesis = refl
ended-away u _ = refl

style-away-next : (s : Style Url) (c : StyleClass) (b : ℕ) → is_style_away s ≡ true → Away (style_next urls s c b) c
style-away-next (Out s) c b h = out-away s c b
style-away-next (InUrl Fresh u) c b h = absurd (no h)
style-away-next (InUrl Bare u) c b h =
    inl (bare-by (λ (x : Style Url). is_style_away x ≡ true) u c b refl refl refl (past-next u.part (url_class_of b) b h))
style-away-next (InUrl (Quoted q e) u) c b h =
    inl (quoted-by (λ (x : Style Url). is_style_away x ≡ true) (is_taken_in_style e b) q e u c b refl refl (λ a. past-next u.part (url_class_of b) b h))
style-away-next (InUrl Ended u) c b h = inl (ended-away u c)

style-begins-next : (s : Style Url) (c : StyleClass) (b : ℕ) → is_in_open (url_in_style s) ≡ true
    → (is_in_open (url_in_style (style_next urls s c b)) ≡ true) ⊎ (is_style_away (style_next urls s c b) ≡ true)
style-begins-next (InUrl Bare u) c b h =
    bare-by (λ (x : Style Url). (is_in_open (url_in_style x) ≡ true) ⊎ (is_style_away x ≡ true)) u c b (inr refl) (inr refl) (inr refl)
    (open-next u.part (url_class_of b) b h)
style-begins-next (InUrl (Quoted q e) u) c b h =
    quoted-by (λ (x : Style Url). (is_in_open (url_in_style x) ≡ true) ⊎ (is_style_away x ≡ true)) (is_taken_in_style e b) q e u c b (inr refl) (inr refl)
    (λ a. open-next u.part (url_class_of b) b h)
style-begins-next (InUrl Fresh u) c b h = absurd (no h)
style-begins-next (InUrl Ended u) c b h = absurd (no h)
style-begins-next (Out s) c b h = absurd (no h)

style-not-both : (s : Style Url) → is_in_open (url_in_style s) ≡ true → is_style_away s ≡ true → ⊥
style-not-both (Out s) h k = no h
style-not-both (InUrl Fresh u) h k = no h
style-not-both (InUrl Bare u) h k = open-past u.part h k
style-not-both (InUrl (Quoted q e) u) h k = open-past u.part h k
style-not-both (InUrl Ended u) h k = no h

-- The style of which it is not known what its URL has spelled reads on as the style does.
bare-unknown : (u : Url) (c : StyleClass) (b : ℕ) → is_open u.part ≡ true → is_in_open (url_in_style (next_bare urls u c b)) ≡ true
    → next_bare urls (unknown_url u) c b ≡ unknown_style (next_bare urls u c b)
bare-unknown u css.Blank b h k = absurd (no k)
bare-unknown u css.Newline b h k = absurd (no k)
bare-unknown u css.RightParenthesis b h k = absurd (no k)
bare-unknown u css.QuotationMark b h k = absurd (no k)
bare-unknown u css.Apostrophe b h k = absurd (no k)
bare-unknown u css.LeftParenthesis b h k = absurd (no k)
bare-unknown u _ b h k = ap (InUrl Bare) (unknown-fed u b h k)

quoted-unknown : (taken : Bool) (q : Quote) (z : StyleEscape) (u : Url) (c : StyleClass) (b : ℕ) → is_open u.part ≡ true
    → is_in_open (url_in_style (next_quoted urls taken q z u c b)) ≡ true
    → next_quoted urls taken q z (unknown_url u) c b ≡ unknown_style (next_quoted urls taken q z u c b)
quoted-unknown true q z u c b h k = ap (InUrl (Quoted q (behind_taken_in_string z b))) (unknown-fed u b h k)
quoted-unknown false DoubleQuote z u css.QuotationMark b h k = absurd (no k)
quoted-unknown false DoubleQuote z u css.Newline b h k = absurd (no k)
quoted-unknown false DoubleQuote z u css.ReverseSolidus b h k = ap (InUrl (Quoted DoubleQuote AfterBackslash)) (unknown-fed u b h k)
quoted-unknown false DoubleQuote z u _ b h k = ap (InUrl (Quoted DoubleQuote (behind_byte z b))) (unknown-fed u b h k)
quoted-unknown false SingleQuote z u css.Apostrophe b h k = absurd (no k)
quoted-unknown false SingleQuote z u css.Newline b h k = absurd (no k)
quoted-unknown false SingleQuote z u css.ReverseSolidus b h k = ap (InUrl (Quoted SingleQuote AfterBackslash)) (unknown-fed u b h k)
quoted-unknown false SingleQuote z u _ b h k = ap (InUrl (Quoted SingleQuote (behind_byte z b))) (unknown-fed u b h k)

style-unknown-next : (s : Style Url) (c : StyleClass) (b : ℕ) → is_in_open (url_in_style s) ≡ true → is_in_open (url_in_style (style_next urls s c b)) ≡ true
    → style_next urls (unknown_style s) c b ≡ unknown_style (style_next urls s c b)
style-unknown-next (InUrl Bare u) c b h k = bare-unknown u c b h k
style-unknown-next (InUrl (Quoted q e) u) c b h k = quoted-unknown (is_taken_in_style e b) q e u c b h k
style-unknown-next (InUrl Fresh u) c b h k = absurd (no h)
style-unknown-next (InUrl Ended u) c b h k = absurd (no h)
style-unknown-next (Out s) c b h k = absurd (no h)

-- Values: a URL, and a style in one.
abbrev pub begins_in : ValueState → Bool
begins_in (OfKind k) = false
begins_in (OfUrl u) = is_open u.part
begins_in (OfStyle s) = is_in_open (url_in_style s)
begins_in (OfScript v) = false

abbrev pub is_away : ValueState → Bool
is_away (OfKind k) = true
is_away (OfUrl u) = is_past u.part
is_away (OfStyle s) = is_style_away s
is_away (OfScript v) = true

abbrev pub unknown_value : ValueState → ValueState
unknown_value (OfKind k) = OfKind k
unknown_value (OfUrl u) = OfUrl (unknown_url u)
unknown_value (OfStyle s) = OfStyle (unknown_style s)
unknown_value (OfScript v) = OfScript v

abbrev pub fed_value : ValueState → List ℕ → ValueState
fed_value v [] = v
fed_value v (b ∷ bs) = fed_value (feed_value v b) bs

pub with-value : (bytes : List ℕ) (v : ValueState) → with_bytes languages (ValueOf v) bytes ≡ ValueOf (fed_value v bytes)
with-value [] v = refl
with-value (b ∷ bs) v = with-value bs (feed_value v b)

pub fed-more : (xs ys : List ℕ) (v : ValueState) → fed_value v (xs ++ ys) ≡ fed_value (fed_value v xs) ys
fed-more [] ys v = refl
fed-more (x ∷ xs) ys v = fed-more xs ys (feed_value v x)

begins-next : (v : ValueState) (b : ℕ) → begins_in v ≡ true → (begins_in (feed_value v b) ≡ true) ⊎ (is_away (feed_value v b) ≡ true)
begins-next (OfKind k) b h = absurd (no h)
begins-next (OfUrl u) b h = open-next u.part (url_class_of b) b h
begins-next (OfStyle s) b h = style-begins-next s (style_class b) b h
begins-next (OfScript v) b h = absurd (no h)

away-next : (v : ValueState) (b : ℕ) → is_away v ≡ true
    → (is_away (feed_value v b) ≡ true) ⊎ ((style_class b ≡ css.LeftParenthesis) × (begins_in (feed_value v b) ≡ false))
away-next (OfKind k) b h = inl refl
away-next (OfUrl u) b h = inl (past-next u.part (url_class_of b) b h)
away-next (OfStyle s) b h = style-away-next s (style_class b) b h
away-next (OfScript v) b h = inl refl

not-both : (v : ValueState) → begins_in v ≡ true → is_away v ≡ true → ⊥
not-both (OfKind k) h a = no h
not-both (OfUrl u) h a = open-past u.part h a
not-both (OfStyle s) h a = style-not-both s h a
not-both (OfScript v) h a = no h

unknown-byte : (v : ValueState) (b : ℕ) → begins_in v ≡ true → begins_in (feed_value v b) ≡ true → feed_value (unknown_value v) b ≡ unknown_value (feed_value v b)
unknown-byte (OfKind k) b h i = absurd (no h)
unknown-byte (OfUrl u) b h i = ap OfUrl (unknown-fed u b h i)
unknown-byte (OfStyle s) b h i = ap OfStyle (style-unknown-next s (style_class b) b h i)
unknown-byte (OfScript v) b h i = absurd (no h)

-- what is away stays so where no `(` is before the last byte
pub away-bytes : (bytes : List ℕ) (v : ValueState) → OpensLast bytes → is_away v ≡ true → begins_in (fed_value v bytes) ≡ true → ⊥
away-bytes [] v o a h = not-both v h a
away-bytes (b ∷ []) v o a h = elim (away-next v b a) [ inl x ↦ not-both (feed_value v b) h x | inr x ↦ no (sym x.1 ∙ h) ]
away-bytes (b ∷ c ∷ bs) v o a h = elim (away-next v b a) [ inl x ↦ away-bytes (c ∷ bs) (feed_value v b) o.1 x h | inr x ↦ absurd (o.0 x.0) ]

-- What is in the beginning behind bytes was in it behind each of them.
pub begun-before : (xs ys : List ℕ) (v : ValueState) → OpensAtEnds (xs ++ ys) → begins_in v ≡ true → begins_in (fed_value (fed_value v xs) ys) ≡ true
    → begins_in (fed_value v xs) ≡ true
begun-before [] ys v o h k = h
begun-before (x ∷ xs) ys v o h k = elim (begins-next v x h) [
  | inl e ↦ begun-before xs ys (feed_value v x) (last-ends (xs ++ ys) o) e k
  | inr e ↦ absurd (away-bytes (xs ++ ys) (feed_value v x) o e (ap begins_in (fed-more xs ys (feed_value v x)) ∙ k))
]

-- the value of which it is not known what it spells
pub unknown-bytes : (bytes : List ℕ) (v : ValueState) → OpensAtEnds bytes → begins_in v ≡ true → begins_in (fed_value v bytes) ≡ true
    → fed_value (unknown_value v) bytes ≡ unknown_value (fed_value v bytes)
unknown-bytes [] v o h k = refl
unknown-bytes (b ∷ bs) v o h k = elim (begins-next v b h) [
  | inl e ↦
      ap (λ (w : ValueState). fed_value w bs) (unknown-byte v b h e) ∙ unknown-bytes bs (feed_value v b) (last-ends bs o) e k
  | inr e ↦ absurd (away-bytes bs (feed_value v b) o e k)
]

-- behind bytes of which only the first may be a `(`, and a byte more
pub begins-or : (bytes : List ℕ) (v : ValueState) → NoOpening bytes → (begins_in v ≡ true) ⊎ (is_away v ≡ true)
    → (begins_in (fed_value v bytes) ≡ true) ⊎ (is_away (fed_value v bytes) ≡ true)
begins-or [] v n h = h
begins-or (b ∷ bs) v n h = elim h [
  | inl e ↦ begins-or bs (feed_value v b) n.1 (begins-next v b e)
  | inr e ↦ elim (away-next v b e) [ inl x ↦ begins-or bs (feed_value v b) n.1 (inr x) | inr x ↦ absurd (n.0 x.0) ]
]

pub first-or : (bytes : List ℕ) (v : ValueState) → OpensFirst bytes → begins_in v ≡ true
    → (begins_in (fed_value v bytes) ≡ true) ⊎ (is_away (fed_value v bytes) ≡ true)
first-or [] v n h = inl h
first-or (b ∷ bs) v n h = begins-or bs (feed_value v b) n (begins-next v b h)

-- the end of a text
pub cut-begins : (v : ValueState) → begins_in (languages.after_cut v) ≡ begins_in v
cut-begins (OfKind k) = refl
cut-begins (OfUrl u) = refl
cut-begins (OfScript v) = refl
cut-begins (OfStyle (Out s)) = refl
cut-begins (OfStyle (InUrl Fresh u)) = refl
cut-begins (OfStyle (InUrl Bare u)) = refl
cut-begins (OfStyle (InUrl (Quoted q e) u)) = refl
cut-begins (OfStyle (InUrl Ended u)) = refl

pub cut-unknown : (v : ValueState) → languages.after_cut (unknown_value v) ≡ unknown_value (languages.after_cut v)
cut-unknown (OfKind k) = refl
cut-unknown (OfUrl u) = refl
cut-unknown (OfScript v) = refl
cut-unknown (OfStyle (Out s)) = refl
cut-unknown (OfStyle (InUrl Fresh u)) = refl
cut-unknown (OfStyle (InUrl Bare u)) = refl
cut-unknown (OfStyle (InUrl (Quoted q e) u)) = refl
cut-unknown (OfStyle (InUrl Ended u)) = refl
