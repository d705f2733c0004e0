-- As StyleWaits, of all paths together: what of a style in its element waits to be written, by its scan state.
use Rattle.std.proofs.Common.{◌≡◌, ℕ, Bool, true, false, List, [], ◌∷◌, ◌++◌, ◌⊎◌, inl, inr, refl, sym, ap, true≢false}
use Rattle.css_lexer.proofs.WrittenKeeps.{solidus-byte}
use Rattle.css_lexer.specs.Classes.{style_class}
use Rattle.css_lexer.specs.Escapes.{StyleEscape, NoEscape, AfterBackslash, HexDigits, AfterReturn, behind_byte, behind_taken, is_taken_in_style}
use Rattle.css_lexer.specs.States.{Quote, DoubleQuote, SingleQuote, UrlWord, SpellsUrl}
use Rattle.css_lexer.specs.Written.{written_behind_solidus, written_byte, written_in_word}
use Rattle.css_lexer.specs.declared.class.StyleClass.{StyleClass}
use Rattle.css_lexer.specs.declared.class.StyleClass.TheVariants as class
use Rattle.css_step.specs.StyleScans.{StyleScan, ScanCode, ScanWord, ScanSplitEscape, ScanSolidus, ScanLessThan, ScanComment, ScanStarBefore, ScanString, ScanFresh, ScanBareUrl, ScanQuotedUrl, ScanEnded, style_bare_next, style_between_next, style_code_next, style_ended_next, style_fresh_next, style_quoted_next, style_scan_next, style_solidus_next, style_split_next, style_split_word, style_string_next, style_word_next}
use Rattle.place_core.specs.declared.parts.Parts.{Parts}
use Rattle.url_lexer.specs.Triples.{Triple}
use Rattle.text_norm.specs.Kept.{is_style_comment, solidus_kept}
use Rattle.text_norm.specs.Scanned.{style_scan_out}

-- A byte, by where it leads: it is written, or it waits; and only a `*` behind a `/` opens a comment.
one-solidus : (b : ℕ) → style_class b ≡ class.Solidus → b ∷ [] ≡ 47 ∷ []
one-solidus b e = ap (λ (z : ℕ). z ∷ []) (solidus-byte b e)

between-waits : (c : StyleClass) (b : ℕ) → style_class b ≡ c → b ∷ [] ≡ written_byte c b ++ solidus_kept (style_between_next c b)
between-waits class.Solidus b e = one-solidus b e
between-waits c b e = refl

word-waits : (w : UrlWord) (i : StyleEscape) (c : StyleClass) (b : ℕ) → style_class b ≡ c → b ∷ [] ≡ written_in_word i c b ++ solidus_kept (style_word_next w i c b)
word-waits w AfterBackslash c b e = refl
word-waits SpellsUrl NoEscape class.LeftParenthesis b e = refl
word-waits SpellsUrl (HexDigits n) class.LeftParenthesis b e = refl
word-waits SpellsUrl AfterReturn class.LeftParenthesis b e = refl
word-waits w NoEscape class.Solidus b e = one-solidus b e
word-waits w (HexDigits n) class.Solidus b e = one-solidus b e
word-waits w AfterReturn class.Solidus b e = one-solidus b e
word-waits w NoEscape c b e = refl
word-waits w (HexDigits n) c b e = refl
word-waits w AfterReturn c b e = refl

word-keeps-nothing : (i : StyleEscape) → solidus_kept (style_split_word i) ≡ []
word-keeps-nothing NoEscape = refl
word-keeps-nothing i = refl

word-no-comment : (i : StyleEscape) → is_style_comment (style_split_word i) ≡ false
word-no-comment NoEscape = refl
word-no-comment i = refl

split-waits : (i : StyleEscape) (c : StyleClass) (b : ℕ) → style_class b ≡ c → b ∷ [] ≡ written_in_word i c b ++ solidus_kept (style_split_next i c b)
split-waits AfterBackslash c b e = ap (λ (y : List ℕ). b ∷ y) (sym (word-keeps-nothing (behind_taken b)))
split-waits NoEscape class.Solidus b e = one-solidus b e
split-waits (HexDigits n) class.Solidus b e = one-solidus b e
split-waits AfterReturn class.Solidus b e = one-solidus b e
split-waits NoEscape class.WordByte b e = ap (λ (y : List ℕ). b ∷ y) (sym (word-keeps-nothing (behind_byte NoEscape b)))
split-waits NoEscape c b e = refl
split-waits (HexDigits n) class.WordByte b e = ap (λ (y : List ℕ). b ∷ y) (sym (word-keeps-nothing (behind_byte (HexDigits n) b)))
split-waits (HexDigits n) c b e = refl
split-waits AfterReturn class.WordByte b e = ap (λ (y : List ℕ). b ∷ y) (sym (word-keeps-nothing (behind_byte AfterReturn b)))
split-waits AfterReturn c b e = refl

code-split : (c : StyleClass) (b : ℕ) → style_class b ≡ c → b ∷ [] ≡ written_byte c b ++ solidus_kept (style_split_next NoEscape c b)
code-split class.Solidus b e = one-solidus b e
code-split class.WordByte b e = ap (λ (y : List ℕ). b ∷ y) (sym (word-keeps-nothing (behind_byte NoEscape b)))
code-split c b e = refl

code-waits : (word : Bool) (c : StyleClass) (b : ℕ) → style_class b ≡ c → b ∷ [] ≡ written_byte c b ++ solidus_kept (style_code_next word c b)
code-waits true c b e = code-split c b e
code-waits false c b e = between-waits c b e

solidus-waits : (c : StyleClass) (b : ℕ) → style_class b ≡ c → is_style_comment (style_solidus_next c b) ≡ false → 47 ∷ b ∷ [] ≡ written_behind_solidus c b ++ solidus_kept (style_solidus_next c b)
solidus-waits class.Asterisk b e n = absurd (true≢false n)
solidus-waits class.Solidus b e n = ap (λ (z : List ℕ). 47 ∷ z) (one-solidus b e)
solidus-waits c b e n = refl

string-waits : (taken : Bool) (q : Quote) (i : StyleEscape) (c : StyleClass) (b : ℕ) → solidus_kept (style_string_next taken q i c b) ≡ []
string-waits true q i c b = refl
string-waits false DoubleQuote i class.Blank b = refl
string-waits false DoubleQuote i c b = refl
string-waits false SingleQuote i class.Blank b = refl
string-waits false SingleQuote i c b = refl

bare-waits : (s : Parts) (t : Triple) (c : StyleClass) (b : ℕ) → solidus_kept (style_bare_next s t c b) ≡ []
bare-waits s t class.Blank b = refl
bare-waits s t c b = refl

fresh-waits : (c : StyleClass) (b : ℕ) → solidus_kept (style_fresh_next c b) ≡ []
fresh-waits class.Blank b = refl
fresh-waits c b = refl

quoted-waits : (taken : Bool) (q : Quote) (i : StyleEscape) (s : Parts) (t : Triple) (c : StyleClass) (b : ℕ) → solidus_kept (style_quoted_next taken q i s t c b) ≡ []
quoted-waits true q i s t c b = refl
quoted-waits false DoubleQuote i s t class.Blank b = refl
quoted-waits false DoubleQuote i s t c b = refl
quoted-waits false SingleQuote i s t class.Blank b = refl
quoted-waits false SingleQuote i s t c b = refl

ended-waits : (c : StyleClass) → solidus_kept (style_ended_next c) ≡ []
ended-waits class.RightParenthesis = refl
ended-waits c = refl

all-written : (b : ℕ) (z : StyleScan) → solidus_kept z ≡ [] → b ∷ [] ≡ (b ∷ []) ++ solidus_kept z
all-written b z h = ap (λ (y : List ℕ). b ∷ y) (sym h)

pub scan-waits : (s : StyleScan) (b : ℕ) → is_style_comment s ≡ false → is_style_comment (style_scan_next s (style_class b) b) ≡ false
    → solidus_kept s ++ b ∷ [] ≡ style_scan_out s (style_class b) b ++ solidus_kept (style_scan_next s (style_class b) b)
scan-waits (ScanCode x) b n m = code-waits x.word (style_class b) b refl
scan-waits (ScanWord w i) b n m = word-waits w i (style_class b) b refl
scan-waits (ScanSplitEscape i) b n m = split-waits i (style_class b) b refl
scan-waits ScanSolidus b n m = solidus-waits (style_class b) b refl m
scan-waits ScanLessThan b n m = between-waits (style_class b) b refl
scan-waits (ScanComment star) b n m = absurd (true≢false n)
scan-waits ScanStarBefore b n m = absurd (true≢false n)
scan-waits (ScanString q i) b n m = all-written b _ (string-waits (is_taken_in_style i b) q i (style_class b) b)
scan-waits ScanFresh b n m = all-written b _ (fresh-waits (style_class b) b)
scan-waits (ScanBareUrl s t) b n m = all-written b _ (bare-waits s t (style_class b) b)
scan-waits (ScanQuotedUrl q i s t) b n m = all-written b _ (quoted-waits (is_taken_in_style i b) q i s t (style_class b) b)
scan-waits ScanEnded b n m = all-written b _ (ended-waits (style_class b))

abbrev pub ScanOpens : StyleScan → StyleClass → Type 0
ScanOpens ScanSolidus class.Asterisk = true ≡ true
ScanOpens s c = ⊥

between-none : (c : StyleClass) (b : ℕ) → is_style_comment (style_between_next c b) ≡ false
between-none class.Blank b = refl
between-none c b = refl

word-none : (w : UrlWord) (i : StyleEscape) (c : StyleClass) (b : ℕ) → is_style_comment (style_word_next w i c b) ≡ false
word-none w AfterBackslash c b = refl
word-none SpellsUrl NoEscape class.LeftParenthesis b = refl
word-none SpellsUrl (HexDigits n) class.LeftParenthesis b = refl
word-none SpellsUrl AfterReturn class.LeftParenthesis b = refl
word-none w NoEscape class.Blank b = refl
word-none w (HexDigits n) class.Blank b = refl
word-none w AfterReturn class.Blank b = refl
word-none w NoEscape c b = refl
word-none w (HexDigits n) c b = refl
word-none w AfterReturn c b = refl

split-none : (i : StyleEscape) (c : StyleClass) (b : ℕ) → is_style_comment (style_split_next i c b) ≡ false
split-none AfterBackslash c b = word-no-comment (behind_taken b)
split-none NoEscape class.WordByte b = word-no-comment (behind_byte NoEscape b)
split-none NoEscape class.Blank b = refl
split-none (HexDigits n) class.WordByte b = word-no-comment (behind_byte (HexDigits n) b)
split-none (HexDigits n) class.Blank b = refl
split-none AfterReturn class.WordByte b = word-no-comment (behind_byte AfterReturn b)
split-none AfterReturn class.Blank b = refl
split-none NoEscape c b = refl
split-none (HexDigits n) c b = refl
split-none AfterReturn c b = refl

code-none : (word : Bool) (c : StyleClass) (b : ℕ) → is_style_comment (style_code_next word c b) ≡ false
code-none true c b = split-none NoEscape c b
code-none false c b = between-none c b

string-none : (taken : Bool) (q : Quote) (i : StyleEscape) (c : StyleClass) (b : ℕ) → is_style_comment (style_string_next taken q i c b) ≡ false
string-none true q i c b = refl
string-none false DoubleQuote i class.Blank b = refl
string-none false DoubleQuote i c b = refl
string-none false SingleQuote i class.Blank b = refl
string-none false SingleQuote i c b = refl

bare-none : (s : Parts) (t : Triple) (c : StyleClass) (b : ℕ) → is_style_comment (style_bare_next s t c b) ≡ false
bare-none s t class.Blank b = refl
bare-none s t c b = refl

fresh-none : (c : StyleClass) (b : ℕ) → is_style_comment (style_fresh_next c b) ≡ false
fresh-none class.Blank b = refl
fresh-none c b = refl

quoted-none : (taken : Bool) (q : Quote) (i : StyleEscape) (s : Parts) (t : Triple) (c : StyleClass) (b : ℕ) → is_style_comment (style_quoted_next taken q i s t c b) ≡ false
quoted-none true q i s t c b = refl
quoted-none false DoubleQuote i s t class.Blank b = refl
quoted-none false DoubleQuote i s t c b = refl
quoted-none false SingleQuote i s t class.Blank b = refl
quoted-none false SingleQuote i s t c b = refl

ended-none : (c : StyleClass) → is_style_comment (style_ended_next c) ≡ false
ended-none class.RightParenthesis = refl
ended-none c = refl

solidus-opens : (c : StyleClass) (b : ℕ) → (is_style_comment (style_solidus_next c b) ≡ false) ⊎ ScanOpens ScanSolidus c
solidus-opens class.Asterisk b = inr refl
solidus-opens class.Blank b = inl refl
solidus-opens c b = inl refl

pub scan-opens-or-not : (s : StyleScan) (c : StyleClass) (b : ℕ) → is_style_comment s ≡ false → (is_style_comment (style_scan_next s c b) ≡ false) ⊎ ScanOpens s c
scan-opens-or-not (ScanCode x) c b n = inl (code-none x.word c b)
scan-opens-or-not (ScanWord w i) c b n = inl (word-none w i c b)
scan-opens-or-not (ScanSplitEscape i) c b n = inl (split-none i c b)
scan-opens-or-not ScanSolidus c b n = solidus-opens c b
scan-opens-or-not ScanLessThan c b n = inl (between-none c b)
scan-opens-or-not (ScanComment star) c b n = absurd (true≢false n)
scan-opens-or-not ScanStarBefore c b n = absurd (true≢false n)
scan-opens-or-not (ScanString q i) c b n = inl (string-none (is_taken_in_style i b) q i c b)
scan-opens-or-not ScanFresh c b n = inl (fresh-none c b)
scan-opens-or-not (ScanBareUrl s t) c b n = inl (bare-none s t c b)
scan-opens-or-not (ScanQuotedUrl q i s t) c b n = inl (quoted-none (is_taken_in_style i b) q i s t c b)
scan-opens-or-not ScanEnded c b n = inl (ended-none c)
