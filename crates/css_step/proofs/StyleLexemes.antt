-- The lexeme that is open in a scan state, an escape or a percent triple, begins at the last byte that may begin one, and goes on byte by byte.
use Rattle.std.proofs.Common.{◌≡◌, ℕ, suc, ◌==◌, ◌&&◌, ◌||◌, Bool, true, false, Option, Some, None, if◌then◌else◌, ◌+◌, refl, sym, ap, ◌∙◌, subst, arith, eqb-true}
use Rattle.std.specs.Prelude.{⊤, nat_le, nat_lt}
use Rattle.std.specs.Char.{is_ascii_alphanumeric, is_ascii_hexdigit}
use Rattle.css_lexer.specs.Classes.{style_class}
use Rattle.css_lexer.specs.Escapes.{StyleEscape, NoEscape, AfterBackslash, HexDigits, AfterReturn, behind_taken, behind_taken_in_string, behind_byte, is_taken_in_style}
use Rattle.css_lexer.specs.RefusalCodes.{StyleCutRefusal, first_refusal}
use Rattle.css_lexer.specs.Refusals.{refuses_in_escape}
use Rattle.css_lexer.specs.States.{Quote, DoubleQuote, SingleQuote, UrlWord, SpellsUrl}
use Rattle.css_lexer.specs.Urls.{url_cut_refusal}
use Rattle.css_lexer.specs.declared.class.StyleClass.{StyleClass}
use Rattle.css_lexer.specs.declared.class.StyleClass.TheVariants as class
use Rattle.place_core.specs.declared.css.Css.{Css}
use Rattle.place_core.specs.declared.css.Css.TheVariants as css
use Rattle.place_core.specs.declared.parts.Parts.{Parts}
use Rattle.place_core.specs.place.UrlParts.{parts_of}
use Rattle.url_lexer.specs.Classes.{url_class_of}
use Rattle.url_lexer.specs.Parts.{UrlStart}
use Rattle.url_lexer.specs.Refusals.{refuses_cut_in}
use Rattle.url_lexer.specs.Triples.{Triple, NoTriple, AfterPercent, AfterDigit, next_triple, triple_length}
use Rattle.url_lexer.specs.declared.class.UrlClass.{UrlClass}
use Rattle.url_lexer.specs.declared.class.UrlClass.TheVariants as url_class
use Rattle.css_step.specs.StyleCharacters.{begins_style_lexeme}
use Rattle.css_step.specs.StyleScans.{StyleScan, ScanCode, ScanWord, ScanSplitEscape, ScanSolidus, ScanLessThan, ScanComment, ScanStarBefore, ScanString, ScanFresh, ScanBareUrl, ScanQuotedUrl, ScanEnded, style_between, style_split_word, style_scan_start, style_between_next, style_split_next, style_code_next, style_word_next, style_solidus_next, style_comment_next, style_string_next, style_bare_next, style_fresh_next, style_quoted_next, style_ended_next, style_scan_next, style_scan_cut_error}

no : false ≡ true → ⊥
no e = cc

-- the bytes that may begin a lexeme, by their classes
abbrev is_percent : UrlClass → Bool
is_percent url_class.Percent = true
is_percent _ = false

percent-sixth : (x y z u v w m : Bool)
    → is_percent (if x then url_class.TabOrNewline else (if y then url_class.ControlOrSpace else (if z then url_class.Colon
    else (if u then url_class.Slash else
    (if v then url_class.QueryMark else (if w then url_class.Percent else (if m then url_class.Hexadecimal else url_class.Other))))))) ≡ true → w ≡ true
percent-sixth true y z u v w m h = absurd (no h)
percent-sixth false true z u v w m h = absurd (no h)
percent-sixth false false true u v w m h = absurd (no h)
percent-sixth false false false true v w m h = absurd (no h)
percent-sixth false false false false true w m h = absurd (no h)
percent-sixth false false false false false true m h = refl
percent-sixth false false false false false false true h = absurd (no h)
percent-sixth false false false false false false false h = absurd (no h)

percent-byte : (b : ℕ) → url_class_of b ≡ url_class.Percent → b ≡ 37
unfolding url_class_of
percent-byte b h =
    eqb-true b 37
    (percent-sixth (b == 9 || (b == 10 || b == 13)) (nat_le b 32) (b == 58) (b == 47) (b == 63 || b == 35) (b == 37) (is_ascii_hexdigit b) (ap is_percent h))

abbrev is_backslash : StyleClass → Bool
is_backslash class.ReverseSolidus = true
is_backslash _ = false

backslash-fourth : (x y z u : Bool) (r : StyleClass) → is_backslash r ≡ false
    → is_backslash (if x then class.Blank else (if y then class.Newline else (if z then class.WordByte else (if u then class.ReverseSolidus else r)))) ≡ true → u ≡ true
backslash-fourth true y z u r n h = absurd (no h)
backslash-fourth false true z u r n h = absurd (no h)
backslash-fourth false false true u r n h = absurd (no h)
backslash-fourth false false false true r n h = refl
backslash-fourth false false false false r n h = absurd (no (sym n ∙ h))

no-backslash-later : (a b c d e f g h : Bool)
    → is_backslash (if a then class.QuotationMark else (if b then class.Apostrophe else (if c then class.LeftParenthesis else (if d then class.RightParenthesis
    else (if e then class.Solidus else (if f then class.Asterisk else (if g then class.LessThan else (if h then class.Punctuation else class.OtherByte)))))))) ≡ false
no-backslash-later true b c d e f g h = refl
no-backslash-later false true c d e f g h = refl
no-backslash-later false false true d e f g h = refl
no-backslash-later false false false true e f g h = refl
no-backslash-later false false false false true f g h = refl
no-backslash-later false false false false false true g h = refl
no-backslash-later false false false false false false true h = refl
no-backslash-later false false false false false false false true = refl
no-backslash-later false false false false false false false false = refl

backslash-byte : (b : ℕ) → style_class b ≡ class.ReverseSolidus → b ≡ 92
unfolding style_class
backslash-byte b h =
    eqb-true b 92
    (backslash-fourth (b == 9 || b == 32) (b == 10 || (b == 12 || b == 13)) (is_ascii_alphanumeric b || (b == 95 || (b == 45 || nat_le 128 b))) (b == 92) _
    (no-backslash-later (b == 34) (b == 39) (b == 40) (b == 41) (b == 47) (b == 42) (b == 60)
    (b == 91 || (b == 93 || (b == 123 || (b == 125 || (b == 59 || b == 64)))))) (ap is_backslash h))

-- a test that both fail
no-begin-by : (b : ℕ) (f : ℕ → Bool) → f 37 ≡ false → f 92 ≡ false → f b ≡ true → (x y : Bool) → (b == 37) ≡ x → (b == 92) ≡ y
    → begins_style_lexeme b ≡ false
no-begin-by b f p q h true y i j = absurd (no (sym p ∙ (sym (ap f (eqb-true b 37 i)) ∙ h)))
no-begin-by b f p q h false true i j = absurd (no (sym q ∙ (sym (ap f (eqb-true b 92 j)) ∙ h)))
no-begin-by b f p q h false false i j = ap (λ (z : Bool). z || (b == 92)) i ∙ j

no-begin : (b : ℕ) (f : ℕ → Bool) → f 37 ≡ false → f 92 ≡ false → f b ≡ true → begins_style_lexeme b ≡ false
no-begin b f p q h = no-begin-by b f p q h (b == 37) (b == 92) refl refl

digit-begins-none : (b : ℕ) → is_ascii_hexdigit b ≡ true → begins_style_lexeme b ≡ false
digit-begins-none b h = no-begin b is_ascii_hexdigit refl refl h

return-begins-none : (b : ℕ) → (b == 13) ≡ true → begins_style_lexeme b ≡ false
return-begins-none b h = no-begin b (λ z. z == 13) refl refl h

abbrev is_hexadecimal : UrlClass → Bool
is_hexadecimal url_class.Hexadecimal = true
is_hexadecimal _ = false

percent-is-none : is_hexadecimal (url_class_of 37) ≡ false
unfolding url_class_of
percent-is-none = refl

backslash-is-none : is_hexadecimal (url_class_of 92) ≡ false
unfolding url_class_of
backslash-is-none = refl

hexadecimal-begins-none : (b : ℕ) → url_class_of b ≡ url_class.Hexadecimal → begins_style_lexeme b ≡ false
hexadecimal-begins-none b h = no-begin b (λ z. is_hexadecimal (url_class_of z)) percent-is-none backslash-is-none (ap is_hexadecimal h)

percent-begins : (b : ℕ) → url_class_of b ≡ url_class.Percent → begins_style_lexeme b ≡ true
percent-begins b h = ap begins_style_lexeme (percent-byte b h)

backslash-begins : (b : ℕ) → style_class b ≡ class.ReverseSolidus → begins_style_lexeme b ≡ true
backslash-begins b h = ap begins_style_lexeme (backslash-byte b h)

-- How much of a lexeme has been read behind a byte, by how much had been before it: nothing; its first byte, which may begin one; or one more byte,
-- which may begin none.
pub data OpensTo : Bool → ℕ → ℕ → Type 0 where
  opens_none : (z : Bool) (old : ℕ) → OpensTo z old 0
  opens_here : (old : ℕ) → OpensTo true old 1
  opens_on : (k : ℕ) → OpensTo false (suc k) (suc (suc k))

opened-here : (b old : ℕ) → begins_style_lexeme b ≡ true → OpensTo (begins_style_lexeme b) old 1
opened-here b old h = subst (λ (z : Bool). OpensTo z old 1) (sym h) (opens_here old)

opened-on : (b k : ℕ) → begins_style_lexeme b ≡ false → OpensTo (begins_style_lexeme b) (suc k) (suc (suc k))
opened-on b k h = subst (λ (z : Bool). OpensTo z (suc k) (suc (suc k))) (sym h) (opens_on k)

-- of an escape
abbrev pub escape_length : StyleEscape → ℕ
escape_length NoEscape = 0
escape_length AfterBackslash = 1
escape_length (HexDigits n) = suc n
escape_length AfterReturn = 2

taken-by : (b : ℕ) (x : Bool) → is_ascii_hexdigit b ≡ x → OpensTo (begins_style_lexeme b) 1 (escape_length (if x then HexDigits 1 else NoEscape))
taken-by b true h = opened-on b 0 (digit-begins-none b h)
taken-by b false h = opens_none (begins_style_lexeme b) 1

taken : (b : ℕ) → OpensTo (begins_style_lexeme b) 1 (escape_length (behind_taken b))
taken b = taken-by b (is_ascii_hexdigit b) refl

string-taken-by : (b : ℕ) (x : Bool) → (b == 13) ≡ x → OpensTo (begins_style_lexeme b) 1 (escape_length (if x then AfterReturn else behind_taken b))
string-taken-by b true h = opened-on b 0 (return-begins-none b h)
string-taken-by b false h = taken b

string-taken : (e : StyleEscape) (b : ℕ) → OpensTo (begins_style_lexeme b) (escape_length e) (escape_length (behind_taken_in_string e b))
string-taken NoEscape b = opens_none (begins_style_lexeme b) 0
string-taken AfterBackslash b = string-taken-by b (b == 13) refl
string-taken (HexDigits n) b = opens_none (begins_style_lexeme b) (suc n)
string-taken AfterReturn b = opens_none (begins_style_lexeme b) 2

digits-by : (b n : ℕ) (x y : Bool) → is_ascii_hexdigit b ≡ x
    → OpensTo (begins_style_lexeme b) (suc n) (escape_length (if x && y then HexDigits (suc n) else NoEscape))
digits-by b n true true h = opened-on b n (digit-begins-none b h)
digits-by b n true false h = opens_none (begins_style_lexeme b) (suc n)
digits-by b n false y h = opens_none (begins_style_lexeme b) (suc n)

other-byte : (e : StyleEscape) (b : ℕ) → OpensTo (begins_style_lexeme b) (escape_length e) (escape_length (behind_byte e b))
other-byte NoEscape b = opens_none (begins_style_lexeme b) 0
other-byte AfterBackslash b = opens_none (begins_style_lexeme b) 1
other-byte (HexDigits n) b = digits-by b n (is_ascii_hexdigit b) (nat_lt n 6) refl
other-byte AfterReturn b = opens_none (begins_style_lexeme b) 2

-- of a percent triple
triple-byte : (t : Triple) (b : ℕ) (k : UrlClass) → url_class_of b ≡ k
    → OpensTo (begins_style_lexeme b) (triple_length t) (triple_length (next_triple t k))
triple-byte t b url_class.Percent h = opened-here b (triple_length t) (percent-begins b h)
triple-byte AfterPercent b url_class.Hexadecimal h = opened-on b 0 (hexadecimal-begins-none b h)
triple-byte NoTriple b _ h = opens_none (begins_style_lexeme b) 0
triple-byte AfterPercent b _ h = opens_none (begins_style_lexeme b) 1
triple-byte AfterDigit b _ h = opens_none (begins_style_lexeme b) 2

triple-begun : (old b : ℕ) (k : UrlClass) → url_class_of b ≡ k → OpensTo (begins_style_lexeme b) old (triple_length (next_triple NoTriple k))
triple-begun old b url_class.Percent h = opened-here b old (percent-begins b h)
triple-begun old b _ h = opens_none (begins_style_lexeme b) old

-- In a URL in quotes one of both is open at most.
pub data IsOneOpen : StyleEscape → Triple → Type 0 where
  no_escape : (t : Triple) → IsOneOpen NoEscape t
  no_triple : (e : StyleEscape) → IsOneOpen e NoTriple

abbrev pub quoted_length : StyleEscape → Triple → ℕ
quoted_length NoEscape t = triple_length t
quoted_length AfterBackslash t = 1
quoted_length (HexDigits n) t = suc n
quoted_length AfterReturn t = 2

quoted-no-triple : (e : StyleEscape) → escape_length e ≡ quoted_length e NoTriple
quoted-no-triple NoEscape = refl
quoted-no-triple AfterBackslash = refl
quoted-no-triple (HexDigits n) = refl
quoted-no-triple AfterReturn = refl

-- how much of a lexeme has been read in a scan state
abbrev pub open_length : StyleScan → ℕ
open_length (ScanCode x) = 0
open_length (ScanWord w e) = escape_length e
open_length (ScanSplitEscape e) = escape_length e
open_length ScanSolidus = 0
open_length ScanLessThan = 0
open_length (ScanComment star) = 0
open_length ScanStarBefore = 0
open_length (ScanString q e) = escape_length e
open_length ScanFresh = 0
open_length (ScanBareUrl s t) = triple_length t
open_length (ScanQuotedUrl q e s t) = quoted_length e t
open_length ScanEnded = 0

abbrev pub HasOneOpen : StyleScan → Type 0
HasOneOpen (ScanCode x) = ⊤
HasOneOpen (ScanWord w e) = ⊤
HasOneOpen (ScanSplitEscape e) = ⊤
HasOneOpen ScanSolidus = ⊤
HasOneOpen ScanLessThan = ⊤
HasOneOpen (ScanComment star) = ⊤
HasOneOpen ScanStarBefore = ⊤
HasOneOpen (ScanString q e) = ⊤
HasOneOpen ScanFresh = ⊤
HasOneOpen (ScanBareUrl s t) = ⊤
HasOneOpen (ScanQuotedUrl q e s t) = IsOneOpen e t
HasOneOpen ScanEnded = ⊤

-- behind a byte, in a scan state
pub record LexemeBehind (b old : ℕ) (n : StyleScan) : Type 0 where
  pub opens : OpensTo (begins_style_lexeme b) old (open_length n)
  pub one : HasOneOpen n

behind-none : (b old : ℕ) (n : StyleScan) → open_length n ≡ 0 → HasOneOpen n → LexemeBehind b old n
behind-none b old n h o = record { opens = subst (λ (z : ℕ). OpensTo (begins_style_lexeme b) old z) (sym h) (opens_none (begins_style_lexeme b) old); one = o }

between-lexeme : (c : StyleClass) (b old : ℕ) → style_class b ≡ c → LexemeBehind b old (style_between_next c b)
between-lexeme class.ReverseSolidus b old h = record { opens = opened-here b old (backslash-begins b h); one = tt }
between-lexeme _ b old h = behind-none b old _ refl tt

split-length : (e : StyleEscape) → escape_length e ≡ open_length (style_split_word e)
split-length NoEscape = refl
split-length AfterBackslash = refl
split-length (HexDigits n) = refl
split-length AfterReturn = refl

split-one : (e : StyleEscape) → HasOneOpen (style_split_word e)
split-one NoEscape = tt
split-one AfterBackslash = tt
split-one (HexDigits n) = tt
split-one AfterReturn = tt

behind-split : (b old : ℕ) (e : StyleEscape) → OpensTo (begins_style_lexeme b) old (escape_length e) → LexemeBehind b old (style_split_word e)
behind-split b old e h = record { opens = subst (λ (z : ℕ). OpensTo (begins_style_lexeme b) old z) (split-length e) h; one = split-one e }

split-lexeme : (e : StyleEscape) (c : StyleClass) (b : ℕ) → style_class b ≡ c → LexemeBehind b (escape_length e) (style_split_next e c b)
split-lexeme AfterBackslash c b h = behind-split b 1 (behind_taken b) (taken b)
split-lexeme e class.WordByte b h = behind-split b (escape_length e) (behind_byte e b) (other-byte e b)
split-lexeme e class.ReverseSolidus b h = record { opens = opened-here b (escape_length e) (backslash-begins b h); one = tt }
split-lexeme e c b h = between-lexeme c b (escape_length e) h

code-lexeme : (word : Bool) (c : StyleClass) (b : ℕ) → style_class b ≡ c → LexemeBehind b 0 (style_code_next word c b)
code-lexeme true c b h = split-lexeme NoEscape c b h
code-lexeme false c b h = between-lexeme c b 0 h

word-lexeme : (w : UrlWord) (e : StyleEscape) (c : StyleClass) (b : ℕ) → style_class b ≡ c
    → LexemeBehind b (escape_length e) (style_word_next w e c b)
word-lexeme w AfterBackslash c b h = record { opens = taken b; one = tt }
word-lexeme w e class.WordByte b h = record { opens = other-byte e b; one = tt }
word-lexeme w e class.ReverseSolidus b h = record { opens = opened-here b (escape_length e) (backslash-begins b h); one = tt }
word-lexeme SpellsUrl e class.LeftParenthesis b h = behind-none b (escape_length e) ScanFresh refl tt
word-lexeme w e c b h = between-lexeme c b (escape_length e) h

solidus-lexeme : (c : StyleClass) (b : ℕ) → style_class b ≡ c → LexemeBehind b 0 (style_solidus_next c b)
solidus-lexeme class.Asterisk b h = behind-none b 0 (ScanComment false) refl tt
solidus-lexeme c b h = between-lexeme c b 0 h

comment-lexeme : (star : Bool) (c : StyleClass) (b : ℕ) → LexemeBehind b 0 (style_comment_next star c)
comment-lexeme true class.Solidus b = behind-none b 0 style_between refl tt
comment-lexeme star class.Asterisk b = behind-none b 0 (ScanComment true) refl tt
comment-lexeme star c b = behind-none b 0 (ScanComment false) refl tt

string-lexeme : (is_taken : Bool) (q : Quote) (e : StyleEscape) (c : StyleClass) (b : ℕ) → style_class b ≡ c
    → LexemeBehind b (escape_length e) (style_string_next is_taken q e c b)
string-lexeme true q e c b h = record { opens = string-taken e b; one = tt }
string-lexeme false DoubleQuote e class.QuotationMark b h = behind-none b (escape_length e) style_between refl tt
string-lexeme false SingleQuote e class.Apostrophe b h = behind-none b (escape_length e) style_between refl tt
string-lexeme false q e class.ReverseSolidus b h = record { opens = opened-here b (escape_length e) (backslash-begins b h); one = tt }
string-lexeme false q e c b h = record { opens = other-byte e b; one = tt }

bare-lexeme : (s : Parts) (t : Triple) (c : StyleClass) (b : ℕ) → LexemeBehind b (triple_length t) (style_bare_next s t c b)
bare-lexeme s t class.Blank b = behind-none b (triple_length t) ScanEnded refl tt
bare-lexeme s t class.Newline b = behind-none b (triple_length t) ScanEnded refl tt
bare-lexeme s t class.RightParenthesis b = behind-none b (triple_length t) style_between refl tt
bare-lexeme s t _ b = record { opens = triple-byte t b (url_class_of b) refl; one = tt }

fresh-lexeme : (c : StyleClass) (b : ℕ) → LexemeBehind b 0 (style_fresh_next c b)
fresh-lexeme class.Blank b = behind-none b 0 ScanFresh refl tt
fresh-lexeme class.Newline b = behind-none b 0 ScanFresh refl tt
fresh-lexeme class.QuotationMark b = behind-none b 0 _ refl (no_escape NoTriple)
fresh-lexeme class.Apostrophe b = behind-none b 0 _ refl (no_escape NoTriple)
fresh-lexeme c b = bare-lexeme (parts_of UrlStart) NoTriple c b

-- a byte of a URL in quotes where no triple is open, with the escape behind it
fed-opens : (b old : ℕ) (e : StyleEscape) → OpensTo (begins_style_lexeme b) old (escape_length e)
    → OpensTo (begins_style_lexeme b) old (quoted_length e (next_triple NoTriple (url_class_of b)))
fed-opens b old NoEscape h = triple-begun old b (url_class_of b) refl
fed-opens b old AfterBackslash h = h
fed-opens b old (HexDigits n) h = h
fed-opens b old AfterReturn h = h

fed-one : (b : ℕ) (e : StyleEscape) (k : UrlClass) → url_class_of b ≡ k → (b ≡ 37 → e ≡ NoEscape) → IsOneOpen e (next_triple NoTriple k)
fed-one b e url_class.Percent h f = subst (λ (z : StyleEscape). IsOneOpen z AfterPercent) (sym (f (percent-byte b h))) (no_escape AfterPercent)
fed-one b e _ h f = no_triple e

percent-taken : (e : StyleEscape) → behind_taken_in_string e 37 ≡ NoEscape
percent-taken NoEscape = refl
percent-taken AfterBackslash = refl
percent-taken (HexDigits n) = refl
percent-taken AfterReturn = refl

percent-other : (e : StyleEscape) → behind_byte e 37 ≡ NoEscape
percent-other NoEscape = refl
percent-other AfterBackslash = refl
percent-other (HexDigits n) = refl
percent-other AfterReturn = refl

backslash-is-other : url_class_of 92 ≡ url_class.Other
unfolding url_class_of
backslash-is-other = refl

other-triple : (t : Triple) → next_triple t url_class.Other ≡ NoTriple
other-triple NoTriple = refl
other-triple AfterPercent = refl
other-triple AfterDigit = refl

backslash-one : (t : Triple) (b : ℕ) → style_class b ≡ class.ReverseSolidus → IsOneOpen AfterBackslash (next_triple t (url_class_of b))
backslash-one t b h =
    subst (λ (z : Triple). IsOneOpen AfterBackslash z) (sym (ap (λ (z : ℕ). next_triple t (url_class_of z)) (backslash-byte b h)
    ∙ (ap (next_triple t) backslash-is-other ∙ other-triple t))) (no_triple AfterBackslash)

quoted-fed : (q : Quote) (s : Parts) (b : ℕ) (e f : StyleEscape) → OpensTo (begins_style_lexeme b) (escape_length e) (escape_length f) → (b ≡ 37
    → f ≡ NoEscape)
    → LexemeBehind b (quoted_length e NoTriple) (ScanQuotedUrl q f s (next_triple NoTriple (url_class_of b)))
quoted-fed q s b e f h i = record {
  opens = subst (λ (z : ℕ). OpensTo (begins_style_lexeme b) z (quoted_length f (next_triple NoTriple (url_class_of b)))) (quoted-no-triple e)
      (fed-opens b (escape_length e) f h);
  one = fed-one b f (url_class_of b) refl i;
}

quoted-lexeme : (is_taken : Bool) (q : Quote) (e : StyleEscape) (s : Parts) (t : Triple) (c : StyleClass) (b : ℕ) → style_class b ≡ c
    → is_taken_in_style e b ≡ is_taken → IsOneOpen e t → LexemeBehind b (quoted_length e t) (style_quoted_next is_taken q e s t c b)
quoted-lexeme true q _ s _ c b h k (no_escape t) = absurd (no k)
quoted-lexeme true q _ s _ c b h k (no_triple e) =
    quoted-fed q _ b e (behind_taken_in_string e b) (string-taken e b) (λ i. ap (behind_taken_in_string e) i ∙ percent-taken e)
quoted-lexeme false DoubleQuote e s t class.QuotationMark b h k o = behind-none b (quoted_length e t) ScanEnded refl tt
quoted-lexeme false SingleQuote e s t class.Apostrophe b h k o = behind-none b (quoted_length e t) ScanEnded refl tt
quoted-lexeme false q e s t class.ReverseSolidus b h k o =
    record { opens = opened-here b (quoted_length e t) (backslash-begins b h); one = backslash-one t b h }
quoted-lexeme false q _ s _ c b h k (no_escape t) = record { opens = triple-byte t b (url_class_of b) refl; one = no_escape (next_triple t (url_class_of b)) }
quoted-lexeme false q _ s _ c b h k (no_triple e) =
    quoted-fed q _ b e (behind_byte e b) (other-byte e b) (λ i. ap (behind_byte e) i ∙ percent-other e)

ended-lexeme : (c : StyleClass) (b : ℕ) → LexemeBehind b 0 (style_ended_next c)
ended-lexeme class.RightParenthesis b = behind-none b 0 style_between refl tt
ended-lexeme _ b = behind-none b 0 ScanEnded refl tt

pub scan-lexeme : (n : StyleScan) (b : ℕ) → HasOneOpen n → LexemeBehind b (open_length n) (style_scan_next n (style_class b) b)
scan-lexeme (ScanCode x) b o = code-lexeme x.word (style_class b) b refl
scan-lexeme (ScanWord w e) b o = word-lexeme w e (style_class b) b refl
scan-lexeme (ScanSplitEscape e) b o = split-lexeme e (style_class b) b refl
scan-lexeme ScanSolidus b o = solidus-lexeme (style_class b) b refl
scan-lexeme ScanLessThan b o = between-lexeme (style_class b) b 0 refl
scan-lexeme (ScanComment star) b o = comment-lexeme star (style_class b) b
scan-lexeme ScanStarBefore b o = comment-lexeme true (style_class b) b
scan-lexeme (ScanString q e) b o = string-lexeme (is_taken_in_style e b) q e (style_class b) b refl
scan-lexeme ScanFresh b o = fresh-lexeme (style_class b) b
scan-lexeme (ScanBareUrl s t) b o = bare-lexeme s t (style_class b) b
scan-lexeme (ScanQuotedUrl q e s t) b o = quoted-lexeme (is_taken_in_style e b) q e s t (style_class b) b refl refl o
scan-lexeme ScanEnded b o = ended-lexeme (style_class b) b

-- where a text begins
pub start-open : (c : Css) → open_length (style_scan_start c) ≡ 0
start-open (css.Code x) = refl
start-open css.Dq = refl
start-open css.Sq = refl
start-open css.UrlFresh = refl
start-open (css.Url s) = refl
start-open (css.UrlDq s) = refl
start-open (css.UrlSq s) = refl
start-open css.UrlEnd = refl
start-open (css.Comment true) = refl
start-open (css.Comment false) = refl

pub start-one : (c : Css) → HasOneOpen (style_scan_start c)
start-one (css.Code x) = tt
start-one css.Dq = tt
start-one css.Sq = tt
start-one css.UrlFresh = tt
start-one (css.Url s) = tt
start-one (css.UrlDq s) = no_escape NoTriple
start-one (css.UrlSq s) = no_escape NoTriple
start-one css.UrlEnd = tt
start-one (css.Comment true) = tt
start-one (css.Comment false) = tt

pub one-more : (n : ℕ) → n + 1 ≡ suc n
one-more n = omega arith

-- what the end of a node refuses is the lexeme that is open
abbrev shown_of : Option StyleCutRefusal → ℕ
shown_of None = 0
shown_of (Some r) = r.shown

escape-shown : (e : StyleEscape) → shown_of (refuses_in_escape e) ≡ escape_length e
escape-shown NoEscape = refl
escape-shown AfterBackslash = refl
escape-shown (HexDigits n) = one-more n
escape-shown AfterReturn = refl

triple-shown : (t : Triple) → shown_of (url_cut_refusal (refuses_cut_in t)) ≡ triple_length t
triple-shown NoTriple = refl
triple-shown AfterPercent = refl
triple-shown AfterDigit = refl

quoted-shown : (e : StyleEscape) (t : Triple)
    → shown_of (first_refusal (refuses_in_escape e) (url_cut_refusal (refuses_cut_in t))) ≡ quoted_length e t
quoted-shown NoEscape t = triple-shown t
quoted-shown AfterBackslash t = refl
quoted-shown (HexDigits n) t = one-more n
quoted-shown AfterReturn t = refl

cut-shown : (n : StyleScan) → shown_of (style_scan_cut_error n) ≡ open_length n
cut-shown (ScanCode x) = refl
cut-shown (ScanWord w e) = escape-shown e
cut-shown (ScanSplitEscape e) = escape-shown e
cut-shown ScanSolidus = refl
cut-shown ScanLessThan = refl
cut-shown (ScanComment star) = refl
cut-shown ScanStarBefore = refl
cut-shown (ScanString q e) = escape-shown e
cut-shown ScanFresh = refl
cut-shown (ScanBareUrl s t) = triple-shown t
cut-shown (ScanQuotedUrl q e s t) = quoted-shown e t
cut-shown ScanEnded = refl

pub cut-length : (n : StyleScan) (r : StyleCutRefusal) → style_scan_cut_error n ≡ Some r → open_length n ≡ r.shown
cut-length n r h = sym (cut-shown n) ∙ ap shown_of h

escape-none : (e : StyleEscape) (r : StyleCutRefusal) → refuses_in_escape e ≡ Some r → escape_length e ≡ 0 → ⊥
escape-none NoEscape r h z = cc
escape-none AfterBackslash r h z = cc
escape-none (HexDigits n) r h z = cc
escape-none AfterReturn r h z = cc

triple-none : (t : Triple) (r : StyleCutRefusal) → url_cut_refusal (refuses_cut_in t) ≡ Some r → triple_length t ≡ 0 → ⊥
triple-none NoTriple r h z = cc
triple-none AfterPercent r h z = cc
triple-none AfterDigit r h z = cc

quoted-none : (e : StyleEscape) (t : Triple) (r : StyleCutRefusal) → first_refusal (refuses_in_escape e) (url_cut_refusal (refuses_cut_in t)) ≡ Some r
    → quoted_length e t ≡ 0 → ⊥
quoted-none NoEscape t r h z = triple-none t r h z
quoted-none AfterBackslash t r h z = cc
quoted-none (HexDigits n) t r h z = cc
quoted-none AfterReturn t r h z = cc

nothing-refused : (r : StyleCutRefusal) → None ≡ Some r → ⊥
nothing-refused r h = cc

pub cut-none : (n : StyleScan) (r : StyleCutRefusal) → style_scan_cut_error n ≡ Some r → open_length n ≡ 0 → ⊥
cut-none (ScanCode x) r h z = nothing-refused r h
cut-none (ScanWord w e) r h z = escape-none e r h z
cut-none (ScanSplitEscape e) r h z = escape-none e r h z
cut-none ScanSolidus r h z = nothing-refused r h
cut-none ScanLessThan r h z = nothing-refused r h
cut-none (ScanComment star) r h z = nothing-refused r h
cut-none ScanStarBefore r h z = nothing-refused r h
cut-none (ScanString q e) r h z = escape-none e r h z
cut-none ScanFresh r h z = nothing-refused r h
cut-none (ScanBareUrl s t) r h z = triple-none t r h z
cut-none (ScanQuotedUrl q e s t) r h z = quoted-none e t r h z
cut-none ScanEnded r h z = nothing-refused r h
