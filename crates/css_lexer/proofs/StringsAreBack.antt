-- What is written of a value in a string is plain there, whatever the text, and whatever URLs there are; and it reads back as the text.
use Rattle.std.proofs.Common.{◌≡◌, ℕ, suc, ◌+◌, ◌*◌, ◌==◌, cond, Bool, true, false, codes, List, [], ◌∷◌, ◌++◌, encode_utf8, refl, sym, ap, ◌∙◌, subst, arith, true≢false}
use Rattle.std.proofs.lemmas.Bool.{eqb-true}
use Rattle.std.proofs.lemmas.Bool.Decides.{nat_tests}
use Rattle.std.specs.Bool.{⊤}
use Rattle.std.specs.Char.{is_ascii_hexdigit, is_ascii_whitespace}
use Rattle.std.specs.List.{list_any}
use Rattle.css_lexer.proofs.CodeIsBack.{left, right, both, none-in}
use Rattle.css_lexer.specs.Classes.{style_class}
use Rattle.css_lexer.specs.Escapes.{StyleEscape, NoEscape, AfterBackslash, HexDigits, AfterReturn, behind_byte, behind_taken_in_string}
use Rattle.css_lexer.specs.Events.{StyleEvent, StringByte}
use Rattle.css_lexer.specs.Plain.{IsPlainInStyle, BeginsApart, StyleLeadsPlain, is_line_end, only_string}
use Rattle.css_lexer.specs.ReadBack.{IsBackInString}
use Rattle.css_lexer.specs.Sanitizers.{string_digits, string_byte, goes_on_with, css_string, style_as_text, as_text_byte}
use Rattle.css_lexer.specs.States.{Quote, DoubleQuote, SingleQuote, Style, Out, InString}
use Rattle.css_lexer.specs.Steps.{next_style_string, emits_string, feed_style, style_emits, StyleReading, style_reading, read_style}
use Rattle.css_lexer.specs.Unescaping.{AsItIs, Digits, character_of, style_undone}
use Rattle.url_lexer.specs.Back.{hexadecimal_value}
use Rattle.css_lexer.specs.UrlReading.{UrlReading}
use Rattle.css_lexer.specs.declared.class.StyleClass.{StyleClass}
use Rattle.css_lexer.specs.declared.class.StyleClass.TheVariants as class

-- the classes of bytes that end no string and begin no escape
abbrev is_ordinary : StyleClass → Bool
is_ordinary class.Newline = false
is_ordinary class.QuotationMark = false
is_ordinary class.Apostrophe = false
is_ordinary class.ReverseSolidus = false
is_ordinary c = true

ordinary-class : (blank newline word backslash quote apostrophe opening closing solidus asterisk less punctuation : Bool) → newline ≡ false → backslash ≡ false → quote ≡ false → apostrophe ≡ false
    → is_ordinary (cond blank class.Blank (cond newline class.Newline (cond word class.WordByte (cond backslash class.ReverseSolidus (cond quote class.QuotationMark (cond apostrophe class.Apostrophe (cond opening class.LeftParenthesis (cond closing class.RightParenthesis (cond solidus class.Solidus (cond asterisk class.Asterisk (cond less class.LessThan (cond punctuation class.Punctuation class.OtherByte)))))))))))) ≡ true
ordinary-class true n w b q a o c s k l p e1 e2 e3 e4 = refl
ordinary-class false true w b q a o c s k l p e1 e2 e3 e4 = absurd (true≢false e1)
ordinary-class false false true b q a o c s k l p e1 e2 e3 e4 = refl
ordinary-class false false false true q a o c s k l p e1 e2 e3 e4 = absurd (true≢false e2)
ordinary-class false false false false true a o c s k l p e1 e2 e3 e4 = absurd (true≢false e3)
ordinary-class false false false false false true o c s k l p e1 e2 e3 e4 = absurd (true≢false e4)
ordinary-class false false false false false false true c s k l p e1 e2 e3 e4 = refl
ordinary-class false false false false false false false true s k l p e1 e2 e3 e4 = refl
ordinary-class false false false false false false false false true k l p e1 e2 e3 e4 = refl
ordinary-class false false false false false false false false false true l p e1 e2 e3 e4 = refl
ordinary-class false false false false false false false false false false true p e1 e2 e3 e4 = refl
ordinary-class false false false false false false false false false false false true e1 e2 e3 e4 = refl
ordinary-class false false false false false false false false false false false false e1 e2 e3 e4 = refl

-- How a byte is written: as it is; a backslash, twice; as an escape of one digit, and of two. An escape stands for the byte.
data Kind (b : ℕ) : Type 0 where
  itself : string_digits b ≡ [] → (b == 92) ≡ false → is_line_end b ≡ false → is_ordinary (style_class b) ≡ true → as_text_byte b ≡ b ∷ [] → Kind b
  twice : b ≡ 92 → Kind b
  one : (d : ℕ) → string_digits b ≡ d ∷ [] → behind_taken_in_string AfterBackslash d ≡ HexDigits 1 → is_ascii_hexdigit d ≡ true
      → encode_utf8 (character_of (hexadecimal_value d)) ≡ as_text_byte b → Kind b
  two : (d e : ℕ) → string_digits b ≡ d ∷ e ∷ [] → behind_taken_in_string AfterBackslash d ≡ HexDigits 1 → is_ascii_hexdigit d ≡ true
      → is_ascii_hexdigit e ≡ true → is_ordinary (style_class e) ≡ true → encode_utf8 (character_of (hexadecimal_value d * 16 + hexadecimal_value e)) ≡ as_text_byte b → Kind b

pub either : {A : Type 0} (p : Bool) → (p ≡ true → A) → (p ≡ false → A) → A
either true f g = f refl
either false f g = g refl

test : (b k : ℕ) → Kind k → ((b == k) ≡ false → Kind b) → Kind b
test b k it other = either (b == k) (λ t. subst (λ (z : ℕ). Kind z) (sym (eqb-true b k t)) it) other

kind : (b : ℕ) → Kind b
unfolding style_class lib.Utf8.encode
kind b =
    test b 0 (one 48 refl refl refl refl) (λ n0.
    test b 9 (one 57 refl refl refl refl) (λ n9.
    test b 10 (one 97 refl refl refl refl) (λ n10.
    test b 12 (one 99 refl refl refl refl) (λ n12.
    test b 13 (one 100 refl refl refl refl) (λ n13.
    test b 34 (two 50 50 refl refl refl refl refl refl) (λ n34.
    test b 38 (two 50 54 refl refl refl refl refl refl) (λ n38.
    test b 39 (two 50 55 refl refl refl refl refl refl) (λ n39.
    test b 40 (two 50 56 refl refl refl refl refl refl) (λ n40.
    test b 41 (two 50 57 refl refl refl refl refl refl) (λ n41.
    test b 43 (two 50 98 refl refl refl refl refl refl) (λ n43.
    test b 47 (two 50 102 refl refl refl refl refl refl) (λ n47.
    test b 58 (two 51 97 refl refl refl refl refl refl) (λ n58.
    test b 59 (two 51 98 refl refl refl refl refl refl) (λ n59.
    test b 60 (two 51 99 refl refl refl refl refl refl) (λ n60.
    test b 62 (two 51 101 refl refl refl refl refl refl) (λ n62.
    test b 123 (two 55 98 refl refl refl refl refl refl) (λ n123.
    test b 125 (two 55 100 refl refl refl refl refl refl) (λ n125.
    test b 92 (twice refl) (λ n92.
    itself (rw (n0, n9, n10, n12, n13, n34, n38, n39, n40, n41, n43, n47, n58, n59, n60, n62, n123, n125) refl) n92
    (both (b == 10) _ n10 (both (b == 12) (b == 13) n12 n13))
    (ordinary-class _ _ _ (b == 92) (b == 34) (b == 39) _ _ _ _ _ _ (both (b == 10) _ n10 (both (b == 12) (b == 13) n12 n13)) n92 n34 n39)
    (rw n0 refl))))))))))))))))))))

-- where an escape may end, and text or another escape begin
abbrev IsFree : StyleEscape → Type 0
IsFree NoEscape = ⊤
IsFree (HexDigits n) = ⊤
IsFree e = ⊥

ordinary-goes : {U : Type 0} (q : Quote) (e : StyleEscape) (c : StyleClass) (b : ℕ) → is_ordinary c ≡ true → next_style_string {U = U} false q e c b ≡ Out (InString q (behind_byte e b))
ordinary-goes DoubleQuote e class.Newline b h = absurd (true≢false (sym h))
ordinary-goes DoubleQuote e class.QuotationMark b h = absurd (true≢false (sym h))
ordinary-goes DoubleQuote e class.ReverseSolidus b h = absurd (true≢false (sym h))
ordinary-goes DoubleQuote e c b h = refl
ordinary-goes SingleQuote e class.Newline b h = absurd (true≢false (sym h))
ordinary-goes SingleQuote e class.Apostrophe b h = absurd (true≢false (sym h))
ordinary-goes SingleQuote e class.ReverseSolidus b h = absurd (true≢false (sym h))
ordinary-goes SingleQuote e c b h = refl

ordinary-tells : {E : Type 0} (q : Quote) (c : StyleClass) (b : ℕ) (t : List (StyleEvent E)) → is_ordinary c ≡ true → emits_string false q c b t ≡ StringByte b ∷ t
ordinary-tells DoubleQuote class.Newline b t h = absurd (true≢false (sym h))
ordinary-tells DoubleQuote class.QuotationMark b t h = absurd (true≢false (sym h))
ordinary-tells DoubleQuote c b t h = refl
ordinary-tells SingleQuote class.Newline b t h = absurd (true≢false (sym h))
ordinary-tells SingleQuote class.Apostrophe b t h = absurd (true≢false (sym h))
ordinary-tells SingleQuote c b t h = refl

pub same-reading : {U E : Type 0} {v w : Style U} {t u : List (StyleEvent E)} → v ≡ w → t ≡ u → style_reading v t ≡ style_reading w u
same-reading {U} {E} {v} {w} {t} {u} e f = ap (λ (y : Style U). style_reading {U = U} {E = E} y t) e ∙ ap (λ (y : List (StyleEvent E)). style_reading {U = U} {E = E} w y) f

ordinary-read : {U E : Type 0} (x : UrlReading U E) (q : Quote) (e : StyleEscape) (b : ℕ) (t : List (StyleEvent E)) → IsFree e → is_ordinary (style_class b) ≡ true
    → style_reading {U = U} {E = E} (feed_style x (Out (InString q e)) b) (style_emits x (Out (InString q e)) b t) ≡ style_reading (Out (InString q (behind_byte e b))) (StringByte b ∷ t)
ordinary-read x q NoEscape b t f h = same-reading (ordinary-goes q NoEscape (style_class b) b h) (ordinary-tells q (style_class b) b t h)
ordinary-read x q (HexDigits n) b t f h = same-reading (ordinary-goes q (HexDigits n) (style_class b) b h) (ordinary-tells q (style_class b) b t h)
ordinary-read x q AfterBackslash b t f h = absurd f
ordinary-read x q AfterReturn b t f h = absurd f

backslash-read : {U E : Type 0} (x : UrlReading U E) (q : Quote) (e : StyleEscape) (t : List (StyleEvent E)) → IsFree e
    → style_reading {U = U} {E = E} (feed_style x (Out (InString q e)) 92) (style_emits x (Out (InString q e)) 92 t) ≡ style_reading (Out (InString q AfterBackslash)) (StringByte 92 ∷ t)
unfolding style_class
backslash-read x DoubleQuote NoEscape t f = refl
backslash-read x SingleQuote NoEscape t f = refl
backslash-read x DoubleQuote (HexDigits n) t f = refl
backslash-read x SingleQuote (HexDigits n) t f = refl
backslash-read x q AfterBackslash t f = absurd f
backslash-read x q AfterReturn t f = absurd f

-- a page stays in the string, and tells bytes of it
abbrev IsString : {U E : Type 0} → Quote → StyleReading U E → Type 0
IsString q r = (r.at ≡ Out (InString q NoEscape)) × (only_string r.told ≡ true)

-- behind the digits of an escape stands what does not go on with them
abbrev Ready : StyleEscape → List ℕ → Type 0
Ready NoEscape bs = ⊤
Ready (HexDigits n) bs = goes_on_with bs ≡ false
Ready e bs = ⊥

free : (e : StyleEscape) (bs : List ℕ) → Ready e bs → IsFree e
free NoEscape bs r = tt
free (HexDigits n) bs r = tt
free AfterBackslash bs r = absurd r
free AfterReturn bs r = absurd r

no-escape : (e : StyleEscape) (b : ℕ) (bs : List ℕ) → Ready e (b ∷ bs) → behind_byte e b ≡ NoEscape
no-escape NoEscape b bs r = refl
no-escape (HexDigits n) b bs r = rw (left (is_ascii_hexdigit b) _ r) refl
no-escape AfterBackslash b bs r = absurd r
no-escape AfterReturn b bs r = absurd r

-- what is written behind the byte keeps the page in the string, from wherever it may begin
abbrev Goes : {U E : Type 0} → UrlReading U E → Quote → List ℕ → Type 0
Goes {U} {E} x q bs = (e : StyleEscape) (t : List (StyleEvent E)) → Ready e bs → only_string t ≡ true → IsString q (read_style x (css_string bs) (style_reading (Out (InString q e)) t))

abbrev space_if : Bool → List ℕ
space_if p = cond p (codes " ") []

after-digits : {U E : Type 0} (x : UrlReading U E) (q : Quote) (n : ℕ) (bs : List ℕ) (t : List (StyleEvent E)) (p : Bool) → goes_on_with bs ≡ p → only_string t ≡ true → Goes x q bs
    → IsString q (read_style x (space_if p ++ css_string bs) (style_reading (Out (InString q (HexDigits n))) t))
unfolding style_class
after-digits {U} {E} x q n bs t true g o ih = subst (λ (r : StyleReading U E). IsString q (read_style x (css_string bs) r)) (sym (ordinary-read x q (HexDigits n) 32 t tt refl)) (ih NoEscape (StringByte 32 ∷ t) tt o)
after-digits x q n bs t false g o ih = ih (HexDigits n) t g o

second-digit : (e : ℕ) → is_ascii_hexdigit e ≡ true → behind_byte (HexDigits 1) e ≡ HexDigits 2
second-digit e h = rw h refl

itself-read : {U E : Type 0} (x : UrlReading U E) (q : Quote) (b : ℕ) (bs : List ℕ) (e : StyleEscape) (t : List (StyleEvent E)) → is_ordinary (style_class b) ≡ true → Ready e (b ∷ bs)
    → only_string t ≡ true → Goes x q bs → IsString q (read_style x (b ∷ css_string bs) (style_reading (Out (InString q e)) t))
itself-read {U} {E} x q b bs e t o r h ih = subst (λ (d : StyleReading U E). IsString q (read_style x (css_string bs) d))
    (sym (ordinary-read x q e b t (free e (b ∷ bs) r) o ∙ ap (λ (i : StyleEscape). style_reading {U = U} {E = E} (Out (InString q i)) (StringByte b ∷ t)) (no-escape e b bs r)))
    (ih NoEscape (StringByte b ∷ t) tt h)

behind-backslash : {U E : Type 0} (x : UrlReading U E) (q : Quote) (e : StyleEscape) (t : List (StyleEvent E)) (rest : List ℕ) → IsFree e
    → IsString q (read_style x rest (style_reading (Out (InString q AfterBackslash)) (StringByte 92 ∷ t))) → IsString q (read_style x (92 ∷ rest) (style_reading (Out (InString q e)) t))
behind-backslash {U} {E} x q e t rest f s = subst (λ (d : StyleReading U E). IsString q (read_style x rest d)) (sym (backslash-read x q e t f)) s

twice-read : {U E : Type 0} (x : UrlReading U E) (q : Quote) (bs : List ℕ) (e : StyleEscape) (t : List (StyleEvent E)) → IsFree e
    → only_string t ≡ true → Goes x q bs → IsString q (read_style x (92 ∷ 92 ∷ css_string bs) (style_reading (Out (InString q e)) t))
unfolding style_class
twice-read x q bs e t f h ih = behind-backslash x q e t (92 ∷ css_string bs) f (ih NoEscape (StringByte 92 ∷ StringByte 92 ∷ t) tt h)

taken-read : {U E : Type 0} (x : UrlReading U E) (q : Quote) (d : ℕ) (t : List (StyleEvent E)) (rest : List ℕ) → behind_taken_in_string AfterBackslash d ≡ HexDigits 1
    → IsString q (read_style x rest (style_reading (Out (InString q (HexDigits 1))) (StringByte d ∷ t))) → IsString q (read_style x (d ∷ rest) (style_reading (Out (InString q AfterBackslash)) t))
taken-read {U} {E} x q d t rest f s = subst (λ (i : StyleEscape). IsString q (read_style x rest (style_reading {U = U} {E = E} (Out (InString q i)) (StringByte d ∷ t)))) (sym f) s

one-read : {U E : Type 0} (x : UrlReading U E) (q : Quote) (d : ℕ) (bs : List ℕ) (e : StyleEscape) (t : List (StyleEvent E)) → behind_taken_in_string AfterBackslash d ≡ HexDigits 1 → IsFree e
    → only_string t ≡ true → Goes x q bs → IsString q (read_style x (92 ∷ d ∷ (space_if (goes_on_with bs) ++ css_string bs)) (style_reading (Out (InString q e)) t))
one-read x q d bs e t f i h ih = behind-backslash x q e t (d ∷ (space_if (goes_on_with bs) ++ css_string bs)) i (taken-read x q d (StringByte 92 ∷ t) (space_if (goes_on_with bs) ++ css_string bs) f
    (after-digits x q 1 bs (StringByte d ∷ StringByte 92 ∷ t) (goes_on_with bs) refl h ih))

two-read : {U E : Type 0} (x : UrlReading U E) (q : Quote) (d d2 : ℕ) (bs : List ℕ) (e : StyleEscape) (t : List (StyleEvent E)) → behind_taken_in_string AfterBackslash d ≡ HexDigits 1
    → is_ascii_hexdigit d2 ≡ true → is_ordinary (style_class d2) ≡ true → IsFree e
    → only_string t ≡ true → Goes x q bs → IsString q (read_style x (92 ∷ d ∷ d2 ∷ (space_if (goes_on_with bs) ++ css_string bs)) (style_reading (Out (InString q e)) t))
two-read {U} {E} x q d d2 bs e t f g o i h ih = behind-backslash x q e t (d ∷ d2 ∷ (space_if (goes_on_with bs) ++ css_string bs)) i (taken-read x q d (StringByte 92 ∷ t) (d2 ∷ (space_if (goes_on_with bs) ++ css_string bs)) f
    (subst (λ (r : StyleReading U E). IsString q (read_style x (space_if (goes_on_with bs) ++ css_string bs) r))
    (sym (ordinary-read x q (HexDigits 1) d2 (StringByte d ∷ StringByte 92 ∷ t) tt o ∙ ap (λ (j : StyleEscape). style_reading {U = U} {E = E} (Out (InString q j)) (StringByte d2 ∷ StringByte d ∷ StringByte 92 ∷ t)) (second-digit d2 g)))
    (after-digits x q 2 bs (StringByte d2 ∷ StringByte d ∷ StringByte 92 ∷ t) (goes_on_with bs) refl h ih)))

byte-read : {U E : Type 0} (x : UrlReading U E) (q : Quote) (b : ℕ) (bs : List ℕ) (e : StyleEscape) (t : List (StyleEvent E)) → Kind b → Ready e (b ∷ bs)
    → only_string t ≡ true → Goes x q bs → IsString q (read_style x (css_string (b ∷ bs)) (style_reading (Out (InString q e)) t))
byte-read {U} {E} x q b bs e t (itself s n l o w) r h ih =
    subst (λ (ds : List ℕ). IsString q (read_style x (string_byte ds b bs ++ css_string bs) (style_reading {U = U} {E = E} (Out (InString q e)) t))) (sym s)
    (subst (λ (p : Bool). IsString q (read_style x (cond p (codes "\\\\") (b ∷ []) ++ css_string bs) (style_reading {U = U} {E = E} (Out (InString q e)) t))) (sym n)
    (itself-read x q b bs e t o r h ih))
byte-read {U} {E} x q b bs e t (twice m) r h ih =
    subst (λ (z : ℕ). IsString q (read_style x (css_string (z ∷ bs)) (style_reading {U = U} {E = E} (Out (InString q e)) t))) (sym m) (twice-read x q bs e t (free e (b ∷ bs) r) h ih)
byte-read {U} {E} x q b bs e t (one d s f g w) r h ih =
    subst (λ (ds : List ℕ). IsString q (read_style x (string_byte ds b bs ++ css_string bs) (style_reading {U = U} {E = E} (Out (InString q e)) t))) (sym s)
    (one-read x q d bs e t f (free e (b ∷ bs) r) h ih)
byte-read {U} {E} x q b bs e t (two d d2 s f g g2 o w) r h ih =
    subst (λ (ds : List ℕ). IsString q (read_style x (string_byte ds b bs ++ css_string bs) (style_reading {U = U} {E = E} (Out (InString q e)) t))) (sym s)
    (two-read x q d d2 bs e t f g2 o (free e (b ∷ bs) r) h ih)

string-read : {U E : Type 0} (x : UrlReading U E) (q : Quote) (bs : List ℕ) → Goes x q bs
string-read x q [] NoEscape t r h = (refl, h)
string-read x q [] (HexDigits n) t r h = absurd (true≢false r)
string-read x q [] AfterBackslash t r h = absurd r
string-read x q [] AfterReturn t r h = absurd r
string-read x q (b ∷ bs) e t r h = byte-read x q b bs e t (kind b) r h (string-read x q bs)

-- reading back: behind its digits an escape is over, where nothing goes on with them
begins-undone : (m n c : ℕ) (rest : List ℕ) → is_ascii_hexdigit c ≡ false → is_ascii_whitespace c ≡ false
    → style_undone (Digits (suc m) n) (c ∷ rest) ≡ encode_utf8 (character_of n) ++ style_undone AsItIs (c ∷ rest)
begins-undone m n c rest h w = rw (h, w) (either (c == 92) (λ t. rw t refl) (λ f. rw f refl))

head-undone : (m n b : ℕ) (bs : List ℕ) → Kind b → is_ascii_hexdigit b ≡ false → is_ascii_whitespace b ≡ false
    → style_undone (Digits (suc m) n) (css_string (b ∷ bs)) ≡ encode_utf8 (character_of n) ++ style_undone AsItIs (css_string (b ∷ bs))
head-undone m n b bs (itself s p l o i) h w =
    subst (λ (ds : List ℕ). style_undone (Digits (suc m) n) (string_byte ds b bs ++ css_string bs) ≡ encode_utf8 (character_of n) ++ style_undone AsItIs (string_byte ds b bs ++ css_string bs)) (sym s)
    (subst (λ (y : Bool). style_undone (Digits (suc m) n) (cond y (codes "\\\\") (b ∷ []) ++ css_string bs) ≡ encode_utf8 (character_of n) ++ style_undone AsItIs (cond y (codes "\\\\") (b ∷ []) ++ css_string bs)) (sym p)
    (begins-undone m n b (css_string bs) h w))
head-undone m n b bs (twice i) h w =
    subst (λ (z : ℕ). style_undone (Digits (suc m) n) (css_string (z ∷ bs)) ≡ encode_utf8 (character_of n) ++ style_undone AsItIs (css_string (z ∷ bs))) (sym i) (begins-undone m n 92 (92 ∷ css_string bs) refl refl)
head-undone m n b bs (one d s f g i) h w =
    subst (λ (ds : List ℕ). style_undone (Digits (suc m) n) (string_byte ds b bs ++ css_string bs) ≡ encode_utf8 (character_of n) ++ style_undone AsItIs (string_byte ds b bs ++ css_string bs)) (sym s)
    (begins-undone m n 92 (d ∷ (space_if (goes_on_with bs) ++ css_string bs)) refl refl)
head-undone m n b bs (two d d2 s f g g2 o i) h w =
    subst (λ (ds : List ℕ). style_undone (Digits (suc m) n) (string_byte ds b bs ++ css_string bs) ≡ encode_utf8 (character_of n) ++ style_undone AsItIs (string_byte ds b bs ++ css_string bs)) (sym s)
    (begins-undone m n 92 (d ∷ d2 ∷ (space_if (goes_on_with bs) ++ css_string bs)) refl refl)

after-undone : (m n : ℕ) (bs : List ℕ) (p : Bool) → goes_on_with bs ≡ p → style_undone (Digits (suc m) n) (space_if p ++ css_string bs) ≡ encode_utf8 (character_of n) ++ style_undone AsItIs (css_string bs)
after-undone m n bs true g = refl
after-undone m n [] false g = absurd (true≢false g)
after-undone m n (b ∷ bs) false g = head-undone m n b bs (kind b) (left (is_ascii_hexdigit b) _ g) (right (is_ascii_hexdigit b) _ g)

join : {c d e f : List ℕ} → c ≡ d → e ≡ f → c ++ e ≡ d ++ f
join {c} {d} {e} {f} g h = ap (λ (y : List ℕ). y ++ e) g ∙ ap (λ (y : List ℕ). d ++ y) h

itself-back : (b : ℕ) (bs : List ℕ) → (b == 92) ≡ false → style_undone AsItIs (b ∷ css_string bs) ≡ b ∷ style_undone AsItIs (css_string bs)
itself-back b bs n = rw n refl

one-back : (d : ℕ) (rest : List ℕ) → is_ascii_hexdigit d ≡ true → style_undone AsItIs (92 ∷ d ∷ rest) ≡ style_undone (Digits 5 (hexadecimal_value d)) rest
one-back d rest g = rw g refl

two-back : (d e : ℕ) (rest : List ℕ) → is_ascii_hexdigit d ≡ true → is_ascii_hexdigit e ≡ true → style_undone AsItIs (92 ∷ d ∷ e ∷ rest) ≡ style_undone (Digits 4 (hexadecimal_value d * 16 + hexadecimal_value e)) rest
two-back d e rest g h = rw (g, h) refl

byte-back : (b : ℕ) (bs : List ℕ) → Kind b → style_undone AsItIs (css_string bs) ≡ style_as_text bs → style_undone AsItIs (css_string (b ∷ bs)) ≡ as_text_byte b ++ style_as_text bs
byte-back b bs (itself s p l o i) ih =
    subst (λ (ds : List ℕ). style_undone AsItIs (string_byte ds b bs ++ css_string bs) ≡ as_text_byte b ++ style_as_text bs) (sym s)
    (subst (λ (y : Bool). style_undone AsItIs (cond y (codes "\\\\") (b ∷ []) ++ css_string bs) ≡ as_text_byte b ++ style_as_text bs) (sym p)
    (itself-back b bs p ∙ join (sym i) ih))
byte-back b bs (twice i) ih = subst (λ (z : ℕ). style_undone AsItIs (css_string (z ∷ bs)) ≡ as_text_byte z ++ style_as_text bs) (sym i) (ap (λ (y : List ℕ). 92 ∷ y) ih)
byte-back b bs (one d s f g i) ih =
    subst (λ (ds : List ℕ). style_undone AsItIs (string_byte ds b bs ++ css_string bs) ≡ as_text_byte b ++ style_as_text bs) (sym s)
    (one-back d (space_if (goes_on_with bs) ++ css_string bs) g ∙ after-undone 4 (hexadecimal_value d) bs (goes_on_with bs) refl ∙ join i ih)
byte-back b bs (two d d2 s f g g2 o i) ih =
    subst (λ (ds : List ℕ). style_undone AsItIs (string_byte ds b bs ++ css_string bs) ≡ as_text_byte b ++ style_as_text bs) (sym s)
    (two-back d d2 (space_if (goes_on_with bs) ++ css_string bs) g g2 ∙ after-undone 3 (hexadecimal_value d * 16 + hexadecimal_value d2) bs (goes_on_with bs) refl ∙ join i ih)

string-back : (bs : List ℕ) → style_undone AsItIs (css_string bs) ≡ style_as_text bs
string-back [] = refl
string-back (b ∷ bs) = byte-back b bs (kind b) (string-back bs)

string-apart : {U E : Type 0} (x : UrlReading U E) (q : Quote) (bs : List ℕ) → BeginsApart x bs (Out (InString q NoEscape))
string-apart x q [] = tt
string-apart x q (b ∷ bs) = refl

string-leads : {U E : Type 0} (x : UrlReading U E) (q : Quote) (v : Style U) → v ≡ Out (InString q NoEscape) → StyleLeadsPlain x (Out (InString q NoEscape)) v
string-leads {U} {E} x q v e = subst (λ (y : Style U). StyleLeadsPlain x (Out (InString q NoEscape)) y) (sym e) refl

-- what is written has no line end
digit-ends-none : (d : ℕ) → is_ascii_hexdigit d ≡ true → is_line_end d ≡ false
digit-ends-none d h = grind (arith, nat_tests)

space-ends-none : (p : Bool) → list_any is_line_end (space_if p) ≡ false
space-ends-none true = refl
space-ends-none false = refl

byte-ends-none : (b : ℕ) (bs : List ℕ) → Kind b → list_any is_line_end (string_byte (string_digits b) b bs) ≡ false
byte-ends-none b bs (itself s n l o w) =
    subst (λ (ds : List ℕ). list_any is_line_end (string_byte ds b bs) ≡ false) (sym s)
    (subst (λ (p : Bool). list_any is_line_end (cond p (codes "\\\\") (b ∷ [])) ≡ false) (sym n) (both (is_line_end b) false l refl))
byte-ends-none b bs (twice m) = subst (λ (z : ℕ). list_any is_line_end (string_byte (string_digits z) z bs) ≡ false) (sym m) refl
byte-ends-none b bs (one d s f g w) =
    subst (λ (ds : List ℕ). list_any is_line_end (string_byte ds b bs) ≡ false) (sym s)
    (both (is_line_end d) _ (digit-ends-none d g) (space-ends-none (goes_on_with bs)))
byte-ends-none b bs (two d e s f g g2 o w) =
    subst (λ (ds : List ℕ). list_any is_line_end (string_byte ds b bs) ≡ false) (sym s)
    (both (is_line_end d) _ (digit-ends-none d g) (both (is_line_end e) _ (digit-ends-none e g2) (space-ends-none (goes_on_with bs))))

string-ends-none : (bs : List ℕ) → list_any is_line_end (css_string bs) ≡ false
string-ends-none [] = refl
string-ends-none (b ∷ bs) = none-in is_line_end (string_byte (string_digits b) b bs) (css_string bs) (byte-ends-none b bs (kind b)) (string-ends-none bs)

string-plain : {U E : Type 0} (x : UrlReading U E) (q : Quote) (text : List ℕ) → IsPlainInStyle x (css_string text) (Out (InString q NoEscape))
string-plain x q text =
    let h = string-read x q text NoEscape [] tt refl in
    record { apart = string-apart x q (css_string text); leads = string-leads x q _ h.0; allowed = string-ends-none text; tells = h.1 }

pub string-is-back : {U E : Type 0} (x : UrlReading U E) (text : List ℕ) → IsBackInString x text (css_string text)
string-is-back x text = record { plain = λ q. string-plain x q text; reads = string-back text }
