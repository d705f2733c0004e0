-- The bytes that a value is fed at a byte of a text: a `(` is only the first or the last of them.
use Rattle.std.proofs.Common.{◌≡◌, ◌≤◌, ℕ, ◌+◌, ◌==◌, Bool, true, false, ◌||◌, List, [], ◌∷◌, ◌++◌, if◌then◌else◌, refl, sym, ap, ◌∙◌, arith}
use Rattle.std.specs.Prelude.{◌/◌, ◌%◌, cond, encode_utf8, nat_le, nat_lt, bytes_eq}
use Rattle.std.specs.Char.{is_ascii_alphanumeric}
use Rattle.std.proofs.lemmas.Bool.{eqb-true}
use Rattle.css_lexer.specs.Classes.{style_class}
use Rattle.css_lexer.specs.declared.class.StyleClass.{StyleClass}
use Rattle.css_lexer.specs.declared.class.StyleClass.TheVariants as class
use Rattle.place_core.specs.page.Classes.{Class, Ampersand, class_of}
use Rattle.place_core.specs.page.References.{Form, Begun, Named, Hashed, Decimal, HexMark, Hexadecimal, ReferenceRow, Reference, Closed, Open, ReferenceStep, Grows, Closes, Breaks, as_it_stands, begin_reference, flushed, next_reference, plain_bytes, reference_turned, short_names, turn, turn_bytes, undone_byte, whole_in}

no : false ≡ true → ⊥
no e = cc

-- the test of a byte's class
abbrev is_opening : StyleClass → Bool
is_opening class.LeftParenthesis = true
is_opening _ = false

opening-seventh : (x y z u v w m n o p q r : Bool)
    → is_opening (if x then class.Blank else (if y then class.Newline else (if z then class.WordByte else (if u then class.ReverseSolidus
    else (if v then class.QuotationMark else (if w then class.Apostrophe else (if m then class.LeftParenthesis else (if n then class.RightParenthesis
    else (if o then class.Solidus else (if p then class.Asterisk else (if q then class.LessThan else (if r then class.Punctuation
    else class.OtherByte)))))))))))) ≡ true → m ≡ true
opening-seventh true y z u v w m n o p q r h = absurd (no h)
opening-seventh false true z u v w m n o p q r h = absurd (no h)
opening-seventh false false true u v w m n o p q r h = absurd (no h)
opening-seventh false false false true v w m n o p q r h = absurd (no h)
opening-seventh false false false false true w m n o p q r h = absurd (no h)
opening-seventh false false false false false true m n o p q r h = absurd (no h)
opening-seventh false false false false false false true n o p q r h = refl
opening-seventh false false false false false false false true o p q r h = absurd (no h)
opening-seventh false false false false false false false false true p q r h = absurd (no h)
opening-seventh false false false false false false false false false true q r h = absurd (no h)
opening-seventh false false false false false false false false false false true r h = absurd (no h)
opening-seventh false false false false false false false false false false false true h = absurd (no h)
opening-seventh false false false false false false false false false false false false h = absurd (no h)

pub opening-byte : (b : ℕ) → style_class b ≡ class.LeftParenthesis → b ≡ 40
unfolding style_class
opening-byte b h =
    eqb-true b 40
    (opening-seventh (b == 9 || b == 32) (b == 10 || (b == 12 || b == 13)) (is_ascii_alphanumeric b || (b == 95 || (b == 45 || nat_le 128 b))) (b == 92)
    (b == 34) (b == 39) (b == 40) (b == 41) (b == 47) (b == 42) (b == 60) (b == 91 || (b == 93 || (b == 123 || (b == 125 || (b == 59 || b == 64)))))
    (ap is_opening h))

abbrev pub IsNoOpening : ℕ → Type 0
IsNoOpening b = style_class b ≡ class.LeftParenthesis → ⊥

abbrev pub NoOpening : List ℕ → Type 0
NoOpening [] = Unit {0}
NoOpening (b ∷ bs) = IsNoOpening b × NoOpening bs

-- none behind the first byte; none before the last one; and none between the first and the last
abbrev pub OpensFirst : List ℕ → Type 0
OpensFirst [] = Unit {0}
OpensFirst (b ∷ bs) = NoOpening bs

abbrev pub OpensLast : List ℕ → Type 0
OpensLast [] = Unit {0}
OpensLast (b ∷ []) = Unit {0}
OpensLast (b ∷ c ∷ bs) = IsNoOpening b × OpensLast (c ∷ bs)

abbrev pub OpensAtEnds : List ℕ → Type 0
OpensAtEnds [] = Unit {0}
OpensAtEnds (b ∷ bs) = OpensLast bs

pub last-behind : (b : ℕ) (bs : List ℕ) → OpensLast (b ∷ bs) → OpensLast bs
last-behind b [] h = tt
last-behind b (c ∷ bs) h = h.1

pub last-ends : (bs : List ℕ) → OpensLast bs → OpensAtEnds bs
last-ends [] h = tt
last-ends (b ∷ bs) h = last-behind b bs h

high-no-opening : (b : ℕ) → 128 ≤ b → IsNoOpening b
high-no-opening b l e = let m = opening-byte b e in omega (arith, m, l)

utf8-by : (x y z : Bool) (n : ℕ)
    → OpensFirst (cond x (n ∷ []) (cond y ((192 + n / 64) ∷ (128 + n % 64) ∷ []) (cond z ((224 + n / 4096) ∷ (128 + (n / 64) % 64) ∷ (128 + n % 64) ∷ [])
    ((240 + n / 262144) ∷ (128 + (n / 4096) % 64) ∷ (128 + (n / 64) % 64) ∷ (128 + n % 64) ∷ []))))
utf8-by true y z n = tt
utf8-by false true z n = (high-no-opening (128 + n % 64) (omega arith), tt)
utf8-by false false true n = (high-no-opening (128 + (n / 64) % 64) (omega arith), (high-no-opening (128 + n % 64) (omega arith), tt))
utf8-by false false false n = (
  high-no-opening (128 + (n / 4096) % 64) (omega arith),
  (high-no-opening (128 + (n / 64) % 64) (omega arith), (high-no-opening (128 + n % 64) (omega arith), tt)),
)

utf8-opens : (n : ℕ) → OpensFirst (encode_utf8 n)
unfolding lib.Utf8.encode
utf8-opens n = utf8-by (nat_lt n 128) (nat_lt n 2048) (nat_lt n 65536) n

-- the text of a reference as it stands
whole-by : (x : Bool) (code : ℕ) (bytes : List ℕ) → OpensFirst bytes → OpensFirst (if x then encode_utf8 code else bytes)
whole-by true code bytes h = utf8-opens code
whole-by false code bytes h = h

whole-opens : (rows : List (ReferenceRow (List ℕ))) (bytes : List ℕ) → NoOpening bytes → OpensFirst (whole_in rows bytes)
whole-opens [] bytes n = n
whole-opens (r ∷ rows) bytes n = whole-by (bytes_eq r.key bytes) r.code (whole_in rows bytes) (whole-opens rows bytes n)

named-opens : (equals : Bool) (bytes : List ℕ) → NoOpening bytes → OpensFirst (if equals then 38 ∷ bytes else whole_in short_names bytes)
named-opens true bytes n = n
named-opens false bytes n = whole-opens short_names bytes n

pub flushed-opens : (equals : Bool) (f : Form) (bytes : List ℕ) → NoOpening bytes → OpensFirst (flushed true equals f bytes)
unfolding flushed
flushed-opens equals Begun bytes n = n
flushed-opens equals Named bytes n = named-opens equals bytes n
flushed-opens equals Hashed bytes n = n
flushed-opens equals Decimal bytes n = utf8-opens _
flushed-opens equals HexMark bytes n = n
flushed-opens equals Hexadecimal bytes n = utf8-opens _

-- No reference has a `(` in it.
abbrev pub ReferenceOpensNone : Reference → Type 0
ReferenceOpensNone Closed = Unit {0}
ReferenceOpensNone (Open f bytes) = NoOpening bytes

more-opens : (bytes : List ℕ) (b : ℕ) → NoOpening bytes → IsNoOpening b → NoOpening (bytes ++ b ∷ [])
more-opens [] b n h = (h, tt)
more-opens (x ∷ xs) b n h = (n.0, more-opens xs b n.1 h)

abbrev breaks : ReferenceStep → Bool
breaks Breaks = true
breaks step = false

opening-breaks : (f : Form) → breaks (turn (class_of 40) f) ≡ true
unfolding class_of
opening-breaks Begun = refl
opening-breaks Named = refl
opening-breaks Hashed = refl
opening-breaks Decimal = refl
opening-breaks HexMark = refl
opening-breaks Hexadecimal = refl

grown-opens : (f g : Form) (b : ℕ) → turn (class_of b) f ≡ Grows g → IsNoOpening b
grown-opens f g b e h =
    no (sym (ap breaks (sym (ap (λ (x : ℕ). turn (class_of x) f) (opening-byte b h)) ∙ e)) ∙ opening-breaks f)

begun-opens : (c : Class) → ReferenceOpensNone (begin_reference c)
begun-opens Ampersand = tt
begun-opens _ = tt

turned-opens : (step : ReferenceStep) (f : Form) (bytes : List ℕ) (b : ℕ) → turn (class_of b) f ≡ step → NoOpening bytes
    → ReferenceOpensNone (reference_turned step bytes (class_of b) b)
turned-opens (Grows g) f bytes b e n = more-opens bytes b n (grown-opens f g b e)
turned-opens Closes f bytes b e n = tt
turned-opens Breaks f bytes b e n = begun-opens (class_of b)

pub next-opens : (r : Reference) (b : ℕ) → ReferenceOpensNone r → ReferenceOpensNone (next_reference r (class_of b) b)
next-opens Closed b n = begun-opens (class_of b)
next-opens (Open f bytes) b n = turned-opens (turn (class_of b) f) f bytes b refl n

-- the bytes of a text's byte, and the reference that is open behind it, as it stands
none-last : (xs : List ℕ) → NoOpening xs → OpensLast xs
none-last [] n = tt
none-last (x ∷ []) n = tt
none-last (x ∷ y ∷ ys) n = (n.0, none-last (y ∷ ys) n.1)

none-nil : (xs : List ℕ) → NoOpening xs → OpensLast (xs ++ [])
none-nil [] n = tt
none-nil (x ∷ []) n = tt
none-nil (x ∷ y ∷ ys) n = (n.0, none-nil (y ∷ ys) n.1)

none-then : (xs : List ℕ) (b : ℕ) → NoOpening xs → OpensLast (xs ++ b ∷ [])
none-then [] b n = tt
none-then (x ∷ []) b n = (n.0, tt)
none-then (x ∷ y ∷ ys) b n = (n.0, none-then (y ∷ ys) b n.1)

pub first-ends : (xs : List ℕ) → OpensFirst xs → OpensAtEnds xs
first-ends [] n = tt
first-ends (x ∷ xs) n = none-last xs n

first-nil : (xs : List ℕ) → OpensFirst xs → OpensAtEnds (xs ++ [])
first-nil [] n = tt
first-nil (x ∷ xs) n = none-nil xs n

pub plain-last : (c : Class) (b : ℕ) → OpensLast (plain_bytes c b)
plain-last Ampersand b = tt
plain-last _ b = tt

begun-last : (c : Class) (b : ℕ) → OpensLast (plain_bytes c b ++ as_it_stands (begin_reference c))
begun-last Ampersand b = tt
begun-last _ b = tt

plain-ends : (c : Class) (b : ℕ) → OpensAtEnds (plain_bytes c b ++ as_it_stands (begin_reference c))
plain-ends Ampersand b = tt
plain-ends _ b = tt

one-last : (x : ℕ) (c : Class) (b : ℕ) → IsNoOpening x → OpensLast (x ∷ (plain_bytes c b ++ as_it_stands (begin_reference c)))
one-last x Ampersand b n = (n, tt)
one-last x _ b n = (n, tt)

broken-last : (xs : List ℕ) (c : Class) (b : ℕ) → NoOpening xs → OpensLast ((xs ++ plain_bytes c b) ++ as_it_stands (begin_reference c))
broken-last [] c b n = begun-last c b
broken-last (x ∷ []) c b n = one-last x c b n.0
broken-last (x ∷ y ∷ ys) c b n = (n.0, broken-last (y ∷ ys) c b n.1)

broken-ends : (xs : List ℕ) (c : Class) (b : ℕ) → OpensFirst xs → OpensAtEnds ((xs ++ plain_bytes c b) ++ as_it_stands (begin_reference c))
broken-ends [] c b n = plain-ends c b
broken-ends (x ∷ xs) c b n = broken-last xs c b n

turn-ends : (z : ReferenceStep) (f : Form) (bytes : List ℕ) (c : Class) (b : ℕ) → NoOpening bytes
    → OpensAtEnds (turn_bytes true z f bytes c b ++ as_it_stands (reference_turned z bytes c b))
turn-ends (Grows g) f bytes c b n = none-then bytes b n
turn-ends Closes f bytes c b n = first-nil _ (utf8-opens _)
turn-ends Breaks f bytes c b n = broken-ends (flushed true _ f bytes) c b (flushed-opens _ f bytes n)

pub step-ends : (r : Reference) (c : Class) (b : ℕ) → ReferenceOpensNone r → OpensAtEnds (undone_byte true r c b ++ as_it_stands (next_reference r c b))
step-ends Closed c b n = plain-ends c b
step-ends (Open f bytes) c b n = turn-ends (turn c f) f bytes c b n

pub stands-ends : (r : Reference) → ReferenceOpensNone r → OpensAtEnds (as_it_stands r)
stands-ends Closed n = tt
stands-ends (Open f bytes) n = none-last bytes n

-- what is so of bytes and more of them is so of the first ones
last-before : (xs ys : List ℕ) → OpensLast (xs ++ ys) → OpensLast xs
last-before [] ys h = tt
last-before (x ∷ []) ys h = tt
last-before (x ∷ z ∷ zs) ys h = (h.0, last-before (z ∷ zs) ys h.1)

pub ends-before : (xs ys : List ℕ) → OpensAtEnds (xs ++ ys) → OpensAtEnds xs
ends-before [] ys h = tt
ends-before (x ∷ xs) ys h = last-before xs ys h
