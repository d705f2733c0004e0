-- What of a style in its element waits to be written: a `/`, with which a comment may begin. Outside of comments all else is written as it is read.
use Rattle.std.proofs.Common.{◌≡◌, ℕ, ◌≤◌, ◌<◌, ◌==◌, ◌||◌, ◌&&◌, not, Bool, true, false, List, [], ◌∷◌, ◌++◌, None, ◌⊎◌, inl, inr, refl, sym, ap, ap₂, ◌∙◌, subst, true≢false, arith}
use Rattle.std.proofs.lemmas.Bool.{cases_lt, agree_below, agree_below_at, eqb-true}
use Rattle.std.proofs.lemmas.List.{append-nil, append_assoc}
use Rattle.std.specs.Char.{is_ascii_alphabetic}
use Rattle.std.specs.List.{list_all}
use Rattle.std.specs.Prelude.{⊤}
use Rattle.css_lexer.proofs.RawReading.{class-adds}
use Rattle.css_lexer.proofs.StylesKeep.{some}
use Rattle.css_lexer.proofs.StylesOfUrls.{styles-of-urls-keep, urls-keep}
use Rattle.css_lexer.proofs.WrittenKeeps.{solidus-byte, written-keeps}
use Rattle.css_lexer.specs.Alike.{StylesAlike}
use Rattle.css_lexer.specs.Classes.{style_class}
use Rattle.css_lexer.specs.Escapes.{StyleEscape, NoEscape, AfterBackslash, HexDigits, AfterReturn, is_taken_in_style}
use Rattle.css_lexer.specs.Events.{StyleEvent}
use Rattle.css_lexer.specs.Laws.{StyleLaws}
use Rattle.css_lexer.specs.Refusals.{refuses_bare, refuses_ended, refuses_fresh, refuses_in_url, refuses_quoted, style_refuses, style_refuses_class}
use Rattle.css_lexer.specs.States.{Quote, DoubleQuote, SingleQuote, UrlWord, SpellsUrl, Between, AfterLessThan, Word, AfterSolidus, Comment, InString, BadUrl, BehindHole, SplitWord, SolidusAtCut, LessThanAtCut, StarAtCut, UrlForm, Fresh, Bare, Quoted, Ended, Style, Out, InUrl}
use Rattle.css_lexer.specs.Steps.{blank_once, feed_style, next_bad, next_bare, next_between, next_ended, next_fresh, next_in_url, next_quoted, next_solidus, next_split, next_style_comment, next_style_string, next_style_word, style_emits, style_next, StyleReading, style_reading}
use Rattle.css_lexer.specs.Urls.{urls}
use Rattle.css_lexer.specs.Written.{style_written, written_behind_solidus, written_byte, written_in_word}
use Rattle.css_lexer.specs.WrittenLaws.{Stands, StyleWrittenLaws}
use Rattle.css_lexer.specs.declared.class.StyleClass.{StyleClass}
use Rattle.css_lexer.specs.declared.class.StyleClass.TheVariants as class
use Rattle.place_core.proofs.Bytes.{class-high, range-high}
use Rattle.place_core.specs.page.Classes.{Class, LessThan, Letter, LetterClass, OtherByte, Solidus, class_of}
use Rattle.place_core.specs.page.Events.{InsideStyle, LexEvent, told_in_style}
use Rattle.place_core.specs.page.Tags.{OfStyle, ValueState, emits_fed, fed_state, languages}
use Rattle.text_norm.specs.Written.{ContentWriting, path_writing, released_out}
use Rattle.url_lexer.proofs.Language.{language-laws}
use Rattle.url_lexer.specs.Events.{UrlEvent}
use Rattle.url_lexer.specs.States.{Url}

abbrev pub style_writing : ContentWriting ValueState
style_writing = path_writing languages

abbrev pub waits : Style Url → List ℕ
waits (Out (AfterSolidus k)) = 47 ∷ []
waits s = []

abbrev pub is_comment : Style Url → Bool
is_comment (Out (Comment star)) = true
is_comment (Out StarAtCut) = true
is_comment s = false

abbrev pub is_bad : Style Url → Bool
is_bad (Out BadUrl) = true
is_bad s = false

-- A byte, by where it leads: it is written, or it waits.
one-solidus : (b : ℕ) → style_class b ≡ class.Solidus → b ∷ [] ≡ 47 ∷ []
one-solidus b e = ap (λ (z : ℕ). z ∷ []) (solidus-byte b e)

between-waits : (k : Bool) (c : StyleClass) (b : ℕ) → style_class b ≡ c → b ∷ [] ≡ written_byte c b ++ waits (next_between k c b)
between-waits k class.Solidus b e = one-solidus b e
between-waits k c b e = refl

word-waits : (w : UrlWord) (i : StyleEscape) (c : StyleClass) (b : ℕ) → style_class b ≡ c → b ∷ [] ≡ written_in_word i c b ++ waits (next_style_word urls w i c b)
word-waits w AfterBackslash c b e = refl
word-waits SpellsUrl NoEscape class.LeftParenthesis b e = refl
word-waits SpellsUrl (HexDigits n) class.LeftParenthesis b e = refl
word-waits SpellsUrl AfterReturn class.LeftParenthesis b e = refl
word-waits w NoEscape class.Solidus b e = one-solidus b e
word-waits w (HexDigits n) class.Solidus b e = one-solidus b e
word-waits w AfterReturn class.Solidus b e = one-solidus b e
word-waits w NoEscape c b e = refl
word-waits w (HexDigits n) c b e = refl
word-waits w AfterReturn c b e = refl

split-waits : (i : StyleEscape) (c : StyleClass) (b : ℕ) → style_class b ≡ c → b ∷ [] ≡ written_in_word i c b ++ waits (next_split i c b)
split-waits AfterBackslash c b e = refl
split-waits NoEscape class.Solidus b e = one-solidus b e
split-waits (HexDigits n) class.Solidus b e = one-solidus b e
split-waits AfterReturn class.Solidus b e = one-solidus b e
split-waits NoEscape c b e = refl
split-waits (HexDigits n) c b e = refl
split-waits AfterReturn c b e = refl

hole-waits : (c : StyleClass) (b : ℕ) → style_class b ≡ c → b ∷ [] ≡ written_byte c b ++ waits (next_split NoEscape c b)
hole-waits class.Solidus b e = one-solidus b e
hole-waits c b e = refl

solidus-waits : (c : StyleClass) (b : ℕ) → style_class b ≡ c → is_comment (next_solidus c b) ≡ false → 47 ∷ b ∷ [] ≡ written_behind_solidus c b ++ waits (next_solidus c b)
solidus-waits class.Asterisk b e n = absurd (true≢false n)
solidus-waits class.Solidus b e n = ap (λ (z : List ℕ). 47 ∷ z) (one-solidus b e)
solidus-waits c b e n = refl

cut-waits : (c : StyleClass) (b : ℕ) → style_class b ≡ c → is_comment (next_solidus c b) ≡ false → b ∷ [] ≡ written_byte c b ++ waits (next_solidus c b)
cut-waits class.Asterisk b e n = absurd (true≢false n)
cut-waits class.Solidus b e n = one-solidus b e
cut-waits c b e n = refl

string-waits : (taken : Bool) (q : Quote) (i : StyleEscape) (c : StyleClass) (b : ℕ) → waits (next_style_string taken q i c b) ≡ []
string-waits true q i c b = refl
string-waits false DoubleQuote i class.Blank b = refl
string-waits false DoubleQuote i c b = refl
string-waits false SingleQuote i class.Blank b = refl
string-waits false SingleQuote i c b = refl

bad-waits : (c : StyleClass) → waits (next_bad c) ≡ []
bad-waits class.RightParenthesis = refl
bad-waits c = refl

bare-waits : (u : Url) (c : StyleClass) (b : ℕ) → waits (next_bare urls u c b) ≡ []
bare-waits u class.Blank b = refl
bare-waits u c b = refl

fresh-waits : (u : Url) (c : StyleClass) (b : ℕ) → waits (next_fresh urls u c b) ≡ []
fresh-waits u class.Blank b = refl
fresh-waits u c b = refl

quoted-waits : (taken : Bool) (q : Quote) (i : StyleEscape) (u : Url) (c : StyleClass) (b : ℕ) → waits (next_quoted urls taken q i u c b) ≡ []
quoted-waits true q i u c b = refl
quoted-waits false DoubleQuote i u class.Blank b = refl
quoted-waits false DoubleQuote i u c b = refl
quoted-waits false SingleQuote i u class.Blank b = refl
quoted-waits false SingleQuote i u c b = refl

ended-waits : (u : Url) (c : StyleClass) → waits (next_ended u c) ≡ []
ended-waits u class.Blank = refl
ended-waits u c = refl

url-waits : (f : UrlForm) (u : Url) (c : StyleClass) (b : ℕ) → waits (next_in_url urls f u c b) ≡ []
url-waits Fresh u c b = fresh-waits u c b
url-waits Bare u c b = bare-waits u c b
url-waits (Quoted q i) u c b = quoted-waits (is_taken_in_style i b) q i u c b
url-waits Ended u c b = ended-waits u c

all-written : (b : ℕ) (z : Style Url) → waits z ≡ [] → b ∷ [] ≡ (b ∷ []) ++ waits z
all-written b z h = ap (λ (y : List ℕ). b ∷ y) (sym h)

pub waits-byte : (s : Style Url) (b : ℕ) → is_comment s ≡ false → is_comment (feed_style urls s b) ≡ false → waits s ++ b ∷ [] ≡ style_written urls s b ++ waits (feed_style urls s b)
waits-byte (Out (Between k)) b n m = between-waits k (style_class b) b refl
waits-byte (Out AfterLessThan) b n m = between-waits false (style_class b) b refl
waits-byte (Out (Word w i)) b n m = word-waits w i (style_class b) b refl
waits-byte (Out (AfterSolidus k)) b n m = solidus-waits (style_class b) b refl m
waits-byte (Out (Comment star)) b n m = absurd (true≢false n)
waits-byte (Out (InString q i)) b n m = all-written b _ (string-waits (is_taken_in_style i b) q i (style_class b) b)
waits-byte (Out BadUrl) b n m = all-written b _ (bad-waits (style_class b))
waits-byte (Out (BehindHole solidus less)) b n m = hole-waits (style_class b) b refl
waits-byte (Out (SplitWord i)) b n m = split-waits i (style_class b) b refl
waits-byte (Out (SolidusAtCut k)) b n m = cut-waits (style_class b) b refl m
waits-byte (Out LessThanAtCut) b n m = between-waits false (style_class b) b refl
waits-byte (Out StarAtCut) b n m = absurd (true≢false n)
waits-byte (InUrl f u) b n m = all-written b _ (url-waits f u (style_class b) b)

-- Whether a byte opens a comment, and that none begins a url that is none, which is refused.
abbrev pub MayOpen : Style Url → StyleClass → Type 0
MayOpen (Out (AfterSolidus k)) class.Asterisk = ⊤
MayOpen (Out (SolidusAtCut k)) class.Asterisk = ⊤
MayOpen s c = ⊥

abbrev pub OpensOrNot : Style Url → Style Url → StyleClass → Type 0
OpensOrNot s z c = (is_comment z ≡ false) ⊎ MayOpen s c

between-none : (k : Bool) (c : StyleClass) (b : ℕ) → is_comment (next_between k c b) ≡ false
between-none k class.Blank b = refl
between-none k c b = refl

word-none : (w : UrlWord) (i : StyleEscape) (c : StyleClass) (b : ℕ) → is_comment (next_style_word urls w i c b) ≡ false
word-none w AfterBackslash c b = refl
word-none SpellsUrl NoEscape class.LeftParenthesis b = refl
word-none SpellsUrl (HexDigits n) class.LeftParenthesis b = refl
word-none SpellsUrl AfterReturn class.LeftParenthesis b = refl
word-none w NoEscape class.Blank b = refl
word-none w (HexDigits n) class.Blank b = refl
word-none w AfterReturn class.Blank b = refl
word-none w NoEscape c b = refl
word-none w (HexDigits n) c b = refl
word-none w AfterReturn c b = refl

split-none : (i : StyleEscape) (c : StyleClass) (b : ℕ) → is_comment (next_split i c b) ≡ false
split-none AfterBackslash c b = refl
split-none NoEscape class.Blank b = refl
split-none (HexDigits n) class.Blank b = refl
split-none AfterReturn class.Blank b = refl
split-none NoEscape c b = refl
split-none (HexDigits n) c b = refl
split-none AfterReturn c b = refl

string-none : (taken : Bool) (q : Quote) (i : StyleEscape) (c : StyleClass) (b : ℕ) → is_comment (next_style_string taken q i c b) ≡ false
string-none true q i c b = refl
string-none false DoubleQuote i class.Blank b = refl
string-none false DoubleQuote i c b = refl
string-none false SingleQuote i class.Blank b = refl
string-none false SingleQuote i c b = refl

bad-none : (c : StyleClass) → is_comment (next_bad c) ≡ false
bad-none class.RightParenthesis = refl
bad-none c = refl

bare-none : (u : Url) (c : StyleClass) (b : ℕ) → is_comment (next_bare urls u c b) ≡ false
bare-none u class.Blank b = refl
bare-none u c b = refl

fresh-none : (u : Url) (c : StyleClass) (b : ℕ) → is_comment (next_fresh urls u c b) ≡ false
fresh-none u class.Blank b = refl
fresh-none u c b = refl

quoted-none : (taken : Bool) (q : Quote) (i : StyleEscape) (u : Url) (c : StyleClass) (b : ℕ) → is_comment (next_quoted urls taken q i u c b) ≡ false
quoted-none true q i u c b = refl
quoted-none false DoubleQuote i u class.Blank b = refl
quoted-none false DoubleQuote i u c b = refl
quoted-none false SingleQuote i u class.Blank b = refl
quoted-none false SingleQuote i u c b = refl

ended-none : (u : Url) (c : StyleClass) → is_comment (next_ended u c) ≡ false
ended-none u class.Blank = refl
ended-none u c = refl

url-none : (f : UrlForm) (u : Url) (c : StyleClass) (b : ℕ) → is_comment (next_in_url urls f u c b) ≡ false
url-none Fresh u c b = fresh-none u c b
url-none Bare u c b = bare-none u c b
url-none (Quoted q i) u c b = quoted-none (is_taken_in_style i b) q i u c b
url-none Ended u c b = ended-none u c

solidus-opens : (k : Bool) (c : StyleClass) (b : ℕ) → OpensOrNot (Out (AfterSolidus k)) (next_solidus c b) c
solidus-opens k class.Asterisk b = inr tt
solidus-opens k class.Blank b = inl refl
solidus-opens k c b = inl refl

cut-opens : (k : Bool) (c : StyleClass) (b : ℕ) → OpensOrNot (Out (SolidusAtCut k)) (next_solidus c b) c
cut-opens k class.Asterisk b = inr tt
cut-opens k class.Blank b = inl refl
cut-opens k c b = inl refl

pub opens-or-not : (s : Style Url) (c : StyleClass) (b : ℕ) → is_comment s ≡ false → OpensOrNot s (style_next urls s c b) c
opens-or-not (Out (Between k)) c b n = inl (between-none k c b)
opens-or-not (Out AfterLessThan) c b n = inl (between-none false c b)
opens-or-not (Out (Word w i)) c b n = inl (word-none w i c b)
opens-or-not (Out (AfterSolidus k)) c b n = solidus-opens k c b
opens-or-not (Out (Comment star)) c b n = absurd (true≢false n)
opens-or-not (Out (InString q i)) c b n = inl (string-none (is_taken_in_style i b) q i c b)
opens-or-not (Out BadUrl) c b n = inl (bad-none c)
opens-or-not (Out (BehindHole solidus less)) c b n = inl (split-none NoEscape c b)
opens-or-not (Out (SplitWord i)) c b n = inl (split-none i c b)
opens-or-not (Out (SolidusAtCut k)) c b n = cut-opens k c b
opens-or-not (Out LessThanAtCut) c b n = inl (between-none false c b)
opens-or-not (Out StarAtCut) c b n = absurd (true≢false n)
opens-or-not (InUrl f u) c b n = inl (url-none f u c b)

bare-sound : (u : Url) (c : StyleClass) (b : ℕ) → refuses_bare urls u c b ≡ None → is_bad (next_bare urls u c b) ≡ false
bare-sound u class.QuotationMark b n = absurd (some _ n)
bare-sound u class.Apostrophe b n = absurd (some _ n)
bare-sound u class.LeftParenthesis b n = absurd (some _ n)
bare-sound u class.Blank b n = refl
bare-sound u c b n = refl

fresh-sound : (u : Url) (c : StyleClass) (b : ℕ) → refuses_fresh urls u c b ≡ None → is_bad (next_fresh urls u c b) ≡ false
fresh-sound u class.QuotationMark b n = refl
fresh-sound u class.Apostrophe b n = refl
fresh-sound u class.LeftParenthesis b n = absurd (some _ n)
fresh-sound u class.Blank b n = refl
fresh-sound u c b n = refl

quoted-sound : (taken : Bool) (q : Quote) (i : StyleEscape) (u : Url) (c : StyleClass) (b : ℕ) → refuses_quoted urls taken q u c b ≡ None → is_bad (next_quoted urls taken q i u c b) ≡ false
quoted-sound true q i u c b n = refl
quoted-sound false DoubleQuote i u class.Newline b n = absurd (some _ n)
quoted-sound false SingleQuote i u class.Newline b n = absurd (some _ n)
quoted-sound false DoubleQuote i u c b n = refl
quoted-sound false SingleQuote i u c b n = refl

ended-sound : (u : Url) (c : StyleClass) → refuses_ended c ≡ None → is_bad (next_ended u c) ≡ false
ended-sound u class.Blank n = refl
ended-sound u class.Newline n = refl
ended-sound u class.RightParenthesis n = refl
ended-sound u c n = absurd (some _ n)

url-sound : (f : UrlForm) (u : Url) (c : StyleClass) (b : ℕ) → refuses_in_url urls f u c b ≡ None → is_bad (next_in_url urls f u c b) ≡ false
url-sound Fresh u c b n = fresh-sound u c b n
url-sound Bare u c b n = bare-sound u c b n
url-sound (Quoted q i) u c b n = quoted-sound (is_taken_in_style i b) q i u c b n
url-sound Ended u c b n = ended-sound u c n

between-sound : (k : Bool) (c : StyleClass) (b : ℕ) → is_bad (next_between k c b) ≡ false
between-sound k class.Blank b = refl
between-sound k c b = refl

word-sound : (w : UrlWord) (i : StyleEscape) (c : StyleClass) (b : ℕ) → is_bad (next_style_word urls w i c b) ≡ false
word-sound w AfterBackslash c b = refl
word-sound SpellsUrl NoEscape class.LeftParenthesis b = refl
word-sound SpellsUrl (HexDigits n) class.LeftParenthesis b = refl
word-sound SpellsUrl AfterReturn class.LeftParenthesis b = refl
word-sound w NoEscape class.Blank b = refl
word-sound w (HexDigits n) class.Blank b = refl
word-sound w AfterReturn class.Blank b = refl
word-sound w NoEscape c b = refl
word-sound w (HexDigits n) c b = refl
word-sound w AfterReturn c b = refl

split-sound : (i : StyleEscape) (c : StyleClass) (b : ℕ) → is_bad (next_split i c b) ≡ false
split-sound AfterBackslash c b = refl
split-sound NoEscape class.Blank b = refl
split-sound (HexDigits n) class.Blank b = refl
split-sound AfterReturn class.Blank b = refl
split-sound NoEscape c b = refl
split-sound (HexDigits n) c b = refl
split-sound AfterReturn c b = refl

solidus-sound : (c : StyleClass) (b : ℕ) → is_bad (next_solidus c b) ≡ false
solidus-sound class.Asterisk b = refl
solidus-sound c b = refl

comment-sound : (star : Bool) (c : StyleClass) → is_bad (next_style_comment star c) ≡ false
comment-sound true class.Solidus = refl
comment-sound true class.Asterisk = refl
comment-sound false class.Asterisk = refl
comment-sound true c = refl
comment-sound false c = refl

string-sound : (taken : Bool) (q : Quote) (i : StyleEscape) (c : StyleClass) (b : ℕ) → is_bad (next_style_string taken q i c b) ≡ false
string-sound true q i c b = refl
string-sound false DoubleQuote i class.Blank b = refl
string-sound false DoubleQuote i c b = refl
string-sound false SingleQuote i class.Blank b = refl
string-sound false SingleQuote i c b = refl

pub stays-sound : (s : Style Url) (c : StyleClass) (b : ℕ) → is_bad s ≡ false → style_refuses_class urls s c b ≡ None → is_bad (style_next urls s c b) ≡ false
stays-sound (Out (Between k)) c b i n = between-sound k c b
stays-sound (Out AfterLessThan) c b i n = between-sound false c b
stays-sound (Out (Word w e)) c b i n = word-sound w e c b
stays-sound (Out (AfterSolidus k)) c b i n = solidus-sound c b
stays-sound (Out (Comment star)) c b i n = comment-sound star c
stays-sound (Out (InString q e)) c b i n = string-sound (is_taken_in_style e b) q e c b
stays-sound (Out BadUrl) c b i n = absurd (true≢false i)
stays-sound (Out (BehindHole solidus less)) c b i n = split-sound NoEscape c b
stays-sound (Out (SplitWord e)) c b i n = split-sound e c b
stays-sound (Out (SolidusAtCut k)) c b i n = solidus-sound c b
stays-sound (Out LessThanAtCut) c b i n = between-sound false c b
stays-sound (Out StarAtCut) c b i n = comment-sound true c
stays-sound (InUrl f u) c b i n = url-sound f u c b n

-- Where a `/` waits behind a byte, that byte is the `/`.
same-end : (xs ys : List ℕ) (a b : ℕ) → xs ++ a ∷ [] ≡ ys ++ b ∷ [] → (xs ≡ ys) × (a ≡ b)
same-end [] [] a b e = (refl, cc)
same-end [] (y ∷ []) a b e = cc
same-end [] (y ∷ z ∷ ys) a b e = cc
same-end (x ∷ []) [] a b e = cc
same-end (x ∷ w ∷ xs) [] a b e = cc
same-end (x ∷ xs) (y ∷ ys) a b e =
    let tails : xs ++ a ∷ [] ≡ ys ++ b ∷ [] = cc in
    let heads : x ≡ y = cc in
    let rest = same-end xs ys a b tails in
    (ap₂ (λ (h : ℕ) (t : List ℕ). h ∷ t) heads rest.0, rest.1)

pub solidus-out : (s : Style Url) (b : ℕ) (k : Bool) → is_comment s ≡ false → feed_style urls s b ≡ Out (AfterSolidus k) → (waits s ≡ style_written urls s b) × (b ≡ 47)
solidus-out s b k n h =
    same-end (waits s) (style_written urls s b) b 47
    (waits-byte s b n (ap is_comment h) ∙ ap (λ (z : Style Url). style_written urls s b ++ waits z) h)

-- Bytes that begin no comment.
abbrev pub is_star : StyleClass → Bool
is_star class.Asterisk = true
is_star c = false

abbrev pub NoStars : List ℕ → Type 0
NoStars [] = ⊤
NoStars (b ∷ bs) = (is_star (style_class b) ≡ false) × NoStars bs

abbrev pub style_behind_bytes : Style Url → List ℕ → Style Url
style_behind_bytes s [] = s
style_behind_bytes s (b ∷ bs) = style_behind_bytes (feed_style urls s b) bs

pub fed-style : (bs : List ℕ) (s : Style Url) → fed_state languages (OfStyle s) bs ≡ OfStyle (style_behind_bytes s bs)
fed-style [] s = refl
fed-style (b ∷ bs) s = fed-style bs (feed_style urls s b)

not-opened : (s : Style Url) (c : StyleClass) → is_star c ≡ false → MayOpen s c → ⊥
not-opened (Out (AfterSolidus k)) class.Asterisk n o = true≢false n
not-opened (Out (SolidusAtCut k)) class.Asterisk n o = true≢false n
not-opened s c n o = o

opens-not : (s z : Style Url) (c : StyleClass) → is_star c ≡ false → OpensOrNot s z c → is_comment z ≡ false
opens-not s z c n (inl h) = h
opens-not s z c n (inr o) = absurd (not-opened s c n o)

pub no-comment : (s : Style Url) (b : ℕ) → is_star (style_class b) ≡ false → is_comment s ≡ false → is_comment (feed_style urls s b) ≡ false
no-comment s b k n = opens-not s (feed_style urls s b) (style_class b) k (opens-or-not s (style_class b) b n)

pub no-comments : (bs : List ℕ) (s : Style Url) → NoStars bs → is_comment s ≡ false → is_comment (style_behind_bytes s bs) ≡ false
no-comments [] s k n = n
no-comments (b ∷ bs) s k n = no-comments bs (feed_style urls s b) k.1 (no-comment s b k.0 n)

pub waits-bytes : (bs : List ℕ) (s : Style Url) → NoStars bs → is_comment s ≡ false → waits s ++ bs ≡ released_out style_writing (OfStyle s) bs ++ waits (style_behind_bytes s bs)
waits-bytes [] s k n = append-nil (waits s)
waits-bytes (b ∷ bs) s k n =
    let m = no-comment s b k.0 n in
    sym (append_assoc (waits s) (b ∷ []) bs)
    ∙ ap (λ (z : List ℕ). z ++ bs) (waits-byte s b n m)
    ∙ append_assoc (style_written urls s b) (waits (feed_style urls s b)) bs
    ∙ ap (λ (z : List ℕ). style_written urls s b ++ z) (waits-bytes bs (feed_style urls s b) k.1 m)
    ∙ sym (append_assoc (style_written urls s b) (released_out style_writing (OfStyle (feed_style urls s b)) bs) (waits (style_behind_bytes s (b ∷ bs))))

-- In a comment they write and tell nothing, and the comment goes on.
comment-class : (c : StyleClass) (b : ℕ) (bs : List ℕ) → style_class b ≡ c → is_star c ≡ false
    → (style_behind_bytes (Out (Comment false)) bs ≡ Out (Comment false)) × (released_out style_writing (OfStyle (Out (Comment false))) bs ≡ [])
    → (style_behind_bytes (Out (Comment false)) (b ∷ bs) ≡ Out (Comment false)) × (released_out style_writing (OfStyle (Out (Comment false))) (b ∷ bs) ≡ [])
comment-class class.Asterisk b bs e n h = absurd (true≢false n)
comment-class c b bs e n h = rw e h

pub comment-bytes : (bs : List ℕ) → NoStars bs → (style_behind_bytes (Out (Comment false)) bs ≡ Out (Comment false)) × (released_out style_writing (OfStyle (Out (Comment false))) bs ≡ [])
comment-bytes [] k = (refl, refl)
comment-bytes (b ∷ bs) k = comment-class (style_class b) b bs refl k.0 (comment-bytes bs k.1)

comment-class-tells : (c : StyleClass) (b : ℕ) (bs : List ℕ) (t : List LexEvent) → style_class b ≡ c → is_star c ≡ false
    → emits_fed languages (OfStyle (Out (Comment false))) bs t ≡ t → emits_fed languages (OfStyle (Out (Comment false))) (b ∷ bs) t ≡ t
comment-class-tells class.Asterisk b bs t e n h = absurd (true≢false n)
comment-class-tells c b bs t e n h = rw e h

pub comment-tells : (bs : List ℕ) (t : List LexEvent) → NoStars bs → emits_fed languages (OfStyle (Out (Comment false))) bs t ≡ t
comment-tells [] t k = refl
comment-tells (b ∷ bs) t k = comment-class-tells (style_class b) b bs t refl k.0 (comment-tells bs t k.1)

-- Letters, and what an end tag begins with.
abbrev is_letter_class : Class → Bool
is_letter_class (Letter l) = true
is_letter_class c = false

abbrev is_word_class : StyleClass → Bool
is_word_class class.WordByte = true
is_word_class c = false

abbrev is_html_solidus : Class → Bool
is_html_solidus Solidus = true
is_html_solidus c = false

other-solidus : OtherByte ≡ Solidus → ⊥
other-solidus h = cc

letters-low : agree_below (λ (b : ℕ). not (is_letter_class (class_of b)) || is_ascii_alphabetic b) (λ (b : ℕ). true) 128 ≡ true
unfolding class_of
letters-low = refl

words-low : agree_below (λ (b : ℕ). not (is_ascii_alphabetic b) || is_word_class (style_class b)) (λ (b : ℕ). true) 128 ≡ true
unfolding style_class
words-low = refl

other-letter : (l : LetterClass) → OtherByte ≡ Letter l → ⊥
other-letter l h = cc

letter-by : (b : ℕ) (l : LetterClass) → class_of b ≡ Letter l → (b < 128) ⊎ (128 ≤ b) → is_ascii_alphabetic b ≡ true
letter-by b l h (inl small) =
    subst (λ (c : Class). (not (is_letter_class c) || is_ascii_alphabetic b) ≡ true) h
    (agree_below_at (λ (z : ℕ). not (is_letter_class (class_of z)) || is_ascii_alphabetic z) (λ (z : ℕ). true) 128 b letters-low small)
letter-by b l h (inr large) = absurd (other-letter l (sym (class-high b large) ∙ h))

pub letter-alphabetic : (b : ℕ) (l : LetterClass) → class_of b ≡ Letter l → is_ascii_alphabetic b ≡ true
letter-alphabetic b l h = letter-by b l h (cases_lt b 128)

not-high : (b : ℕ) → 128 ≤ b → is_ascii_alphabetic b ≡ false
not-high b h = rw (range-high 65 90 b h (omega arith), range-high 97 122 b h (omega arith)) refl

is-word : (c : StyleClass) → is_word_class c ≡ true → c ≡ class.WordByte
is-word class.WordByte h = refl
is-word c h = absurd (true≢false (sym h))

word-by : (b : ℕ) → is_ascii_alphabetic b ≡ true → (b < 128) ⊎ (128 ≤ b) → style_class b ≡ class.WordByte
word-by b h (inl small) =
    is-word (style_class b) (subst (λ (p : Bool). (not p || is_word_class (style_class b)) ≡ true) h
    (agree_below_at (λ (z : ℕ). not (is_ascii_alphabetic z) || is_word_class (style_class z)) (λ (z : ℕ). true) 128 b words-low small))
word-by b h (inr large) = absurd (true≢false (sym h ∙ not-high b large))

pub alphabetic-word : (b : ℕ) → is_ascii_alphabetic b ≡ true → style_class b ≡ class.WordByte
alphabetic-word b h = word-by b h (cases_lt b 128)

both-true : (p q : Bool) → (p && q) ≡ true → (p ≡ true) × (q ≡ true)
both-true true true e = (refl, refl)
both-true true false e = absurd (true≢false (sym e))
both-true false q e = absurd (true≢false (sym e))

pub letters-no-stars : (letters : List ℕ) → list_all is_ascii_alphabetic letters ≡ true → NoStars letters
letters-no-stars [] h = tt
letters-no-stars (b ∷ bs) h =
    let m = both-true (is_ascii_alphabetic b) (list_all is_ascii_alphabetic bs) h in
    (ap is_star (alphabetic-word b m.0), letters-no-stars bs m.1)

pub less-class : style_class 60 ≡ class.LessThan
unfolding style_class
less-class = refl

pub solidus-class : style_class 47 ≡ class.Solidus
unfolding style_class
solidus-class = refl

pub end-tag-no-stars : (letters : List ℕ) → list_all is_ascii_alphabetic letters ≡ true → NoStars (60 ∷ 47 ∷ letters)
end-tag-no-stars letters h = (ap is_star less-class, (ap is_star solidus-class, letters-no-stars letters h))

-- no `/` waits behind letters
word-behind : (s : Style Url) (b : ℕ) → style_class b ≡ class.WordByte → is_comment s ≡ false → waits (feed_style urls s b) ≡ []
word-behind (Out (Between k)) b e n = rw e refl
word-behind (Out AfterLessThan) b e n = rw e refl
word-behind (Out (Word w AfterBackslash)) b e n = refl
word-behind (Out (Word w NoEscape)) b e n = rw e refl
word-behind (Out (Word w (HexDigits i))) b e n = rw e refl
word-behind (Out (Word w AfterReturn)) b e n = rw e refl
word-behind (Out (AfterSolidus k)) b e n = rw e refl
word-behind (Out (Comment star)) b e n = absurd (true≢false n)
word-behind (Out (InString q i)) b e n = string-waits (is_taken_in_style i b) q i (style_class b) b
word-behind (Out BadUrl) b e n = bad-waits (style_class b)
word-behind (Out (BehindHole solidus less)) b e n = rw e refl
word-behind (Out (SplitWord AfterBackslash)) b e n = refl
word-behind (Out (SplitWord NoEscape)) b e n = rw e refl
word-behind (Out (SplitWord (HexDigits i))) b e n = rw e refl
word-behind (Out (SplitWord AfterReturn)) b e n = rw e refl
word-behind (Out (SolidusAtCut k)) b e n = rw e refl
word-behind (Out LessThanAtCut) b e n = rw e refl
word-behind (Out StarAtCut) b e n = absurd (true≢false n)
word-behind (InUrl f u) b e n = url-waits f u (style_class b) b

pub letters-behind : (letters : List ℕ) (s : Style Url) → list_all is_ascii_alphabetic letters ≡ true → is_comment s ≡ false → waits s ≡ [] → waits (style_behind_bytes s letters) ≡ []
letters-behind [] s h n w = w
letters-behind (b ∷ bs) s h n w =
    let m = both-true (is_ascii_alphabetic b) (list_all is_ascii_alphabetic bs) h in
    let k = alphabetic-word b m.0 in
    letters-behind bs (feed_style urls s b) m.1 (no-comment s b (ap is_star k) n) (word-behind s b k n)

pub word-behind-letter : (b : ℕ) (letters : List ℕ) (s : Style Url) → list_all is_ascii_alphabetic (b ∷ letters) ≡ true → is_comment s ≡ false → waits (style_behind_bytes s (b ∷ letters)) ≡ []
word-behind-letter b letters s h n =
    let m = both-true (is_ascii_alphabetic b) (list_all is_ascii_alphabetic letters) h in
    let k = alphabetic-word b m.0 in
    letters-behind letters (feed_style urls s b) m.1 (no-comment s b (ap is_star k) n) (word-behind s b k n)

-- a `/` of HTML is one of styles
solidus-low : agree_below (λ (b : ℕ). not (is_html_solidus (class_of b)) || (b == 47)) (λ (b : ℕ). true) 128 ≡ true
unfolding class_of
solidus-low = refl

solidus-by : (b : ℕ) → class_of b ≡ Solidus → (b < 128) ⊎ (128 ≤ b) → b ≡ 47
solidus-by b h (inl small) =
    eqb-true b 47 (subst (λ (c : Class). (not (is_html_solidus c) || (b == 47)) ≡ true) h
    (agree_below_at (λ (z : ℕ). not (is_html_solidus (class_of z)) || (z == 47)) (λ (z : ℕ). true) 128 b solidus-low small))
solidus-by b h (inr large) = absurd (other-solidus (sym (class-high b large) ∙ h))

pub html-solidus : (b : ℕ) → class_of b ≡ Solidus → b ≡ 47
html-solidus b h = solidus-by b h (cases_lt b 128)

-- and so is a `<`
abbrev is_html_less : Class → Bool
is_html_less LessThan = true
is_html_less c = false

less-low : agree_below (λ (b : ℕ). not (is_html_less (class_of b)) || (b == 60)) (λ (b : ℕ). true) 128 ≡ true
unfolding class_of
less-low = refl

other-less : OtherByte ≡ LessThan → ⊥
other-less h = cc

less-by : (b : ℕ) → class_of b ≡ LessThan → (b < 128) ⊎ (128 ≤ b) → b ≡ 60
less-by b h (inl small) =
    eqb-true b 60 (subst (λ (c : Class). (not (is_html_less c) || (b == 60)) ≡ true) h
    (agree_below_at (λ (z : ℕ). not (is_html_less (class_of z)) || (z == 60)) (λ (z : ℕ). true) 128 b less-low small))
less-by b h (inr large) = absurd (other-less (sym (class-high b large) ∙ h))

pub html-less : (b : ℕ) → class_of b ≡ LessThan → b ≡ 60
html-less b h = less-by b h (cases_lt b 128)

-- no `/` waits behind a `<`
pub less-behind : (s : Style Url) → is_comment s ≡ false → waits (feed_style urls s 60) ≡ []
unfolding style_class
less-behind (Out (Between k)) n = refl
less-behind (Out AfterLessThan) n = refl
less-behind (Out (Word w AfterBackslash)) n = refl
less-behind (Out (Word w NoEscape)) n = refl
less-behind (Out (Word w (HexDigits i))) n = refl
less-behind (Out (Word w AfterReturn)) n = refl
less-behind (Out (AfterSolidus k)) n = refl
less-behind (Out (Comment star)) n = absurd (true≢false n)
less-behind (Out (InString q i)) n = string-waits (is_taken_in_style i 60) q i class.LessThan 60
less-behind (Out BadUrl) n = refl
less-behind (Out (BehindHole solidus less)) n = refl
less-behind (Out (SplitWord AfterBackslash)) n = refl
less-behind (Out (SplitWord NoEscape)) n = refl
less-behind (Out (SplitWord (HexDigits i))) n = refl
less-behind (Out (SplitWord AfterReturn)) n = refl
less-behind (Out (SolidusAtCut k)) n = refl
less-behind (Out LessThanAtCut) n = refl
less-behind (Out StarAtCut) n = absurd (true≢false n)
less-behind (InUrl f u) n = url-waits f u class.LessThan 60

-- what a style tells of a byte it tells before what was told
told-over : (es fs : List (StyleEvent UrlEvent)) (t : List LexEvent) → told_in_style (es ++ fs) t ≡ told_in_style es (told_in_style fs t)
told-over [] fs t = refl
told-over (e ∷ es) fs t = ap (λ (z : List LexEvent). InsideStyle e ∷ z) (told-over es fs t)

pub style-byte-told : (s : Style Url) (b : ℕ) (es : List (StyleEvent UrlEvent)) (t : List LexEvent)
    → told_in_style (style_emits urls s b []) (told_in_style es t) ≡ told_in_style (style_emits urls s b es) t
style-byte-told s b es t =
    sym (told-over (style_emits urls s b []) es t)
    ∙ ap (λ (z : List (StyleEvent UrlEvent)). told_in_style z t) (sym (class-adds urls s (style_class b) b es))

-- Where the page would be behind a `/`, a space in its place leads behind a comment, and tells what a comment tells.
style-keeps : StyleLaws Url UrlEvent urls
style-keeps = styles-of-urls-keep language-laws

written : StyleWrittenLaws Url UrlEvent urls
written = written-keeps (urls-keep language-laws)

blank-told : (k : Bool) (es : List (StyleEvent UrlEvent)) (t : List LexEvent) → told_in_style (blank_once k es) t ≡ told_in_style (blank_once k []) (told_in_style es t)
blank-told true es t = refl
blank-told false es t = refl

comment-reads : (r : Style Url) (k : Bool) (es : List (StyleEvent UrlEvent)) → Stands urls (Out (AfterSolidus k)) es (style_reading r [])
    → style_reading (feed_style urls r 32) (style_emits urls r 32 []) ≡ style_reading (Out (Between true)) (blank_once k es)
unfolding style_class
comment-reads r k es h = written.byte (Out (AfterSolidus k)) 42 es (style_reading r []) h refl

pub space-behind : (s r : Style Url) (k : Bool) (t : List LexEvent) → StylesAlike urls s r → style_refuses urls s 47 ≡ None → feed_style urls s 47 ≡ Out (AfterSolidus k)
    → (feed_style urls r 32 ≡ Out (Between true)) × (told_in_style (style_emits urls r 32 []) t ≡ told_in_style (blank_once k []) (told_in_style (style_emits urls s 47 []) t))
space-behind s r k t a n h =
    let es = style_emits urls s 47 [] in
    let e = comment-reads r k es (record {
      alike = subst (λ (z : Style Url). StylesAlike urls z (feed_style urls r 47)) h (style-keeps.feeds s r 47 a n);
      told = style-keeps.emits s r 47 [] a n;
    }) in
    (ap (λ (z : StyleReading Url UrlEvent). z.at) e, ap (λ (z : StyleReading Url UrlEvent). told_in_style z.told t) e ∙ blank-told k es t)
