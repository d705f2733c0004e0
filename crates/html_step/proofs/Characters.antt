-- The bytes that a URL is fed at a byte of a text: those of one character, or of a reference as it stands. A `:` is the first of them, and the
-- paths of a set come apart only where there is one.
use Rattle.std.proofs.Common.{◌≡◌, ◌≤◌, ◌<◌, ℕ, ◌+◌, ◌==◌, Bool, true, false, ◌||◌, List, [], ◌∷◌, ◌++◌, if◌then◌else◌, refl, sym, ap, ◌∙◌, arith, ltb-true}
use Rattle.std.specs.Prelude.{◌/◌, ◌%◌, cond, encode_utf8, nat_le, nat_lt, bytes_eq}
use Rattle.std.specs.Char.{is_ascii_hexdigit, to_ascii_lowercase}
use Rattle.std.proofs.lemmas.Bool.{eqb-true, leb-true}
use Rattle.place_core.specs.page.Classes.{Class, Ampersand, class_of}
use Rattle.place_core.specs.page.References.{Form, Begun, Named, Hashed, Decimal, HexMark, Hexadecimal, ReferenceRow, Reference, Closed, Open, ReferenceStep, Grows, Closes, Breaks, as_it_stands, begin_reference, flushed, next_reference, plain_bytes, reference_turned, short_names, turn, whole_in}
use Rattle.url_lexer.specs.Classes.{url_class_of}
use Rattle.url_lexer.specs.declared.class.UrlClass.{UrlClass}
use Rattle.url_lexer.specs.declared.class.UrlClass.TheVariants as class

no : false ≡ true → ⊥
no e = cc

-- the tests of a byte's class
abbrev is_colon : UrlClass → Bool
is_colon class.Colon = true
is_colon _ = false

colon-third : (x y z u v w m : Bool)
    → is_colon (if x then class.TabOrNewline else (if y then class.ControlOrSpace else (if z then class.Colon
    else (if u then class.Slash else
    (if v then class.QueryMark else (if w then class.Percent else (if m then class.Hexadecimal else class.Other))))))) ≡ true → z ≡ true
colon-third true y z u v w m h = absurd (no h)
colon-third false true z u v w m h = absurd (no h)
colon-third false false true u v w m h = refl
colon-third false false false true v w m h = absurd (no h)
colon-third false false false false true w m h = absurd (no h)
colon-third false false false false false true m h = absurd (no h)
colon-third false false false false false false true h = absurd (no h)
colon-third false false false false false false false h = absurd (no h)

pub colon-byte : (b : ℕ) → url_class_of b ≡ class.Colon → b ≡ 58
unfolding url_class_of
colon-byte b h =
    eqb-true b 58
    (colon-third (b == 9 || (b == 10 || b == 13)) (nat_le b 32) (b == 58) (b == 47) (b == 63 || b == 35) (b == 37) (is_ascii_hexdigit b) (ap is_colon h))

abbrev pub is_blank : UrlClass → Bool
is_blank class.TabOrNewline = true
is_blank class.ControlOrSpace = true
is_blank _ = false

blank-first : (x y z u v w m : Bool)
    → is_blank (if x then class.TabOrNewline else (if y then class.ControlOrSpace else (if z then class.Colon
    else (if u then class.Slash else
    (if v then class.QueryMark else (if w then class.Percent else (if m then class.Hexadecimal else class.Other))))))) ≡ true → (x || y) ≡ true
blank-first true y z u v w m h = refl
blank-first false true z u v w m h = refl
blank-first false false true u v w m h = absurd (no h)
blank-first false false false true v w m h = absurd (no h)
blank-first false false false false true w m h = absurd (no h)
blank-first false false false false false true m h = absurd (no h)
blank-first false false false false false false true h = absurd (no h)
blank-first false false false false false false false h = absurd (no h)

either-low : (b : ℕ) (x y z w : Bool) → (b == 9) ≡ x → (b == 10) ≡ y → (b == 13) ≡ z → nat_le b 32 ≡ w → ((x || (y || z)) || w) ≡ true → b ≤ 32
either-low b true y z w h i j k e = let m = eqb-true b 9 h in omega (arith, m)
either-low b false true z w h i j k e = let m = eqb-true b 10 i in omega (arith, m)
either-low b false false true w h i j k e = let m = eqb-true b 13 j in omega (arith, m)
either-low b false false false w h i j k e = leb-true b 32 (k ∙ e)

pub blank-low : (b : ℕ) → is_blank (url_class_of b) ≡ true → b ≤ 32
unfolding url_class_of
blank-low b h =
    either-low b (b == 9) (b == 10) (b == 13) (nat_le b 32) refl refl refl refl
    (blank-first (b == 9 || (b == 10 || b == 13)) (nat_le b 32) (b == 58) (b == 47) (b == 63 || b == 35) (b == 37) (is_ascii_hexdigit b) h)

-- A `:` is at most the first byte.
abbrev pub NoColon : List ℕ → Type 0
NoColon [] = Unit {0}
NoColon (b ∷ bs) = (url_class_of b ≡ class.Colon → ⊥) × NoColon bs

-- No byte but a letter is part of a word.
abbrev pub IsNoLetter : ℕ → Type 0
IsNoLetter b = (k : ℕ) → 97 ≤ k → k ≤ 122 → to_ascii_lowercase b ≡ k → ⊥

-- The bytes of one character: none, one, or several that spell no letter and end no scheme.
pub data IsCharacter (bytes : List ℕ) : Type 0 where
  nothing : bytes ≡ [] → IsCharacter bytes
  single : (b : ℕ) → bytes ≡ b ∷ [] → IsCharacter bytes
  several : (b : ℕ) (bs : List ℕ) → bytes ≡ b ∷ bs → 33 ≤ b → IsNoLetter b → NoColon (b ∷ bs) → IsCharacter bytes

high-lower : (b : ℕ) (x y : Bool) → nat_lt b 65 ≡ x → nat_lt b 91 ≡ y → 128 ≤ b → cond x b (cond y (b + 32) b) ≡ b
high-lower b true y h i l = refl
high-lower b false true h i l = let m : b < 91 = ltb-true b 91 i in absurd (omega (arith, m, l))
high-lower b false false h i l = refl

high-no-letter : (b : ℕ) → 128 ≤ b → IsNoLetter b
high-no-letter b l k m n e = let s : b ≡ k = sym (high-lower b (nat_lt b 65) (nat_lt b 91) refl refl l) ∙ e in omega (arith, l, n, s)

pub ampersand-no-letter : IsNoLetter 38
ampersand-no-letter k m n e = let s : 38 ≡ k = e in omega (arith, m, s)

pub less-no-letter : IsNoLetter 60
less-no-letter k m n e = let s : 60 ≡ k = e in omega (arith, m, s)

high-no-colon : (b : ℕ) → 128 ≤ b → url_class_of b ≡ class.Colon → ⊥
high-no-colon b l e = let m = colon-byte b e in omega (arith, m, l)

several-high : (b : ℕ) (bs : List ℕ) → 128 ≤ b → NoColon bs → IsCharacter (b ∷ bs)
several-high b bs l n =
    several b bs refl (omega (arith, l)) (high-no-letter b l) (high-no-colon b l, n)

utf8-by : (x y z : Bool) (n : ℕ)
    → IsCharacter (cond x (n ∷ []) (cond y ((192 + n / 64) ∷ (128 + n % 64) ∷ []) (cond z ((224 + n / 4096) ∷ (128 + (n / 64) % 64) ∷ (128 + n % 64) ∷ [])
    ((240 + n / 262144) ∷ (128 + (n / 4096) % 64) ∷ (128 + (n / 64) % 64) ∷ (128 + n % 64) ∷ []))))
utf8-by true y z n = single n refl
utf8-by false true z n =
    several-high (192 + n / 64) ((128 + n % 64) ∷ []) (omega arith) (high-no-colon (128 + n % 64) (omega arith), tt)
utf8-by false false true n =
    several-high (224 + n / 4096) ((128 + (n / 64) % 64) ∷ (128 + n % 64) ∷ []) (omega arith)
    (high-no-colon (128 + (n / 64) % 64) (omega arith), (high-no-colon (128 + n % 64) (omega arith), tt))
utf8-by false false false n =
    several-high (240 + n / 262144) ((128 + (n / 4096) % 64) ∷ (128 + (n / 64) % 64) ∷ (128 + n % 64) ∷ []) (omega arith) (
      high-no-colon (128 + (n / 4096) % 64) (omega arith),
      (high-no-colon (128 + (n / 64) % 64) (omega arith), (high-no-colon (128 + n % 64) (omega arith), tt)),
    )

pub utf8-character : (n : ℕ) → IsCharacter (encode_utf8 n)
unfolding lib.Utf8.encode
utf8-character n = utf8-by (nat_lt n 128) (nat_lt n 2048) (nat_lt n 65536) n

ampersand-class : is_colon (url_class_of 38) ≡ false
unfolding url_class_of
ampersand-class = refl

-- the text of a reference as it stands
pub written-character : (bytes : List ℕ) → NoColon bytes → IsCharacter (38 ∷ bytes)
written-character bytes n = several 38 bytes refl (omega arith) ampersand-no-letter (λ e. no (sym ampersand-class ∙ ap is_colon e), n)

whole-by : (x : Bool) (code : ℕ) (bytes : List ℕ) → IsCharacter bytes → IsCharacter (if x then encode_utf8 code else bytes)
whole-by true code bytes h = utf8-character code
whole-by false code bytes h = h

whole-character : (rows : List (ReferenceRow (List ℕ))) (bytes : List ℕ) → NoColon bytes → IsCharacter (whole_in rows bytes)
whole-character [] bytes n = written-character bytes n
whole-character (r ∷ rows) bytes n = whole-by (bytes_eq r.key bytes) r.code (whole_in rows bytes) (whole-character rows bytes n)

named-character : (equals : Bool) (bytes : List ℕ) → NoColon bytes → IsCharacter (if equals then 38 ∷ bytes else whole_in short_names bytes)
named-character true bytes n = written-character bytes n
named-character false bytes n = whole-character short_names bytes n

pub flushed-character : (equals : Bool) (f : Form) (bytes : List ℕ) → NoColon bytes → IsCharacter (flushed true equals f bytes)
unfolding flushed
flushed-character equals Begun bytes n = written-character bytes n
flushed-character equals Named bytes n = named-character equals bytes n
flushed-character equals Hashed bytes n = written-character bytes n
flushed-character equals Decimal bytes n = utf8-character _
flushed-character equals HexMark bytes n = written-character bytes n
flushed-character equals Hexadecimal bytes n = utf8-character _

-- No reference has a `:` in it.
abbrev pub ReferencePlain : Reference → Type 0
ReferencePlain Closed = Unit {0}
ReferencePlain (Open f bytes) = NoColon bytes

no-colon-more : (bytes : List ℕ) (b : ℕ) → NoColon bytes → (url_class_of b ≡ class.Colon → ⊥) → NoColon (bytes ++ b ∷ [])
no-colon-more [] b n h = (h, tt)
no-colon-more (x ∷ xs) b n h = (n.0, no-colon-more xs b n.1 h)

abbrev breaks : ReferenceStep → Bool
breaks Breaks = true
breaks step = false

colon-breaks : (f : Form) → breaks (turn (class_of 58) f) ≡ true
unfolding class_of
colon-breaks Begun = refl
colon-breaks Named = refl
colon-breaks Hashed = refl
colon-breaks Decimal = refl
colon-breaks HexMark = refl
colon-breaks Hexadecimal = refl

grown-no-colon : (f g : Form) (b : ℕ) → turn (class_of b) f ≡ Grows g → url_class_of b ≡ class.Colon → ⊥
grown-no-colon f g b e h =
    no (sym (ap breaks (sym (ap (λ (x : ℕ). turn (class_of x) f) (colon-byte b h)) ∙ e)) ∙ colon-breaks f)

begun-plain : (c : Class) → ReferencePlain (begin_reference c)
begun-plain Ampersand = tt
begun-plain _ = tt

turned-plain : (step : ReferenceStep) (f : Form) (bytes : List ℕ) (b : ℕ) → turn (class_of b) f ≡ step → NoColon bytes
    → ReferencePlain (reference_turned step bytes (class_of b) b)
turned-plain (Grows g) f bytes b e n = no-colon-more bytes b n (grown-no-colon f g b e)
turned-plain Closes f bytes b e n = tt
turned-plain Breaks f bytes b e n = begun-plain (class_of b)

pub next-plain : (r : Reference) (b : ℕ) → ReferencePlain r → ReferencePlain (next_reference r (class_of b) b)
next-plain Closed b n = begun-plain (class_of b)
next-plain (Open f bytes) b n = turned-plain (turn (class_of b) f) f bytes b refl n

pub stands-no-colon : (r : Reference) → ReferencePlain r → NoColon (as_it_stands r)
stands-no-colon Closed n = tt
stands-no-colon (Open f bytes) n = (λ e. no (sym ampersand-class ∙ ap is_colon e), n)

-- a byte outside of references
pub plain-character : (c : Class) (b : ℕ) → IsCharacter (plain_bytes c b)
plain-character Ampersand b = nothing refl
plain-character _ b = single b refl
