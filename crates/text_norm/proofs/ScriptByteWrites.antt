-- What one byte of a script does to what waits in it: a slash that may begin a comment, and in a line comment what may end the line.
use Rattle.std.proofs.Common.{◌≡◌, ℕ, ◌==◌, ◌<◌, ◌≤◌, ◌&&◌, ◌||◌, Bool, true, false, not, codes, List, [], ◌∷◌, ◌++◌, ◌⊎◌, inl, inr, if◌then◌else◌, true≢false, refl, sym, ap, ap₂, ◌∙◌, subst, arith}
use Rattle.std.proofs.lemmas.Bool.Decides.{nat_tests}
use Rattle.std.specs.Prelude.{nat_le, nat_lt, suc, zero, length}
use Rattle.js_lexer.specs.Classes.{class_of, is_line_terminator, is_space}
use Rattle.js_lexer.specs.Feeding.{feed_script, held_at, point_of, points, read_at, tells_white_apart}
use Rattle.js_lexer.specs.States.{At, Code, Word, Number, Pluses, Minuses, Slash, LineComment, BlockComment, InString, InRegexp, InTemplate, TooDeep, ScriptEscape, NoEscape, ScriptPoint, ScriptState, Trail, point}
use Rattle.js_lexer.specs.Steps.{brace_closes, is_number, is_taken_in_script, is_taken_in_string, is_word, literal_ends, literal_opens, max_literals, next_code, next_minuses, next_pluses, next_regexp, next_script_number, next_script_string, next_script_word, next_slash, next_template, script_next, sense_if_odd}
use Rattle.js_lexer.specs.Trails.{is_empty}
use Rattle.js_lexer.specs.WhiteSpace.{ClassedByte, PastAscii, IsSpace, IsSeparator, BeginsWhite, IsOther, classed, classed_as, held_after, held_alone, held_by, held_past_ascii, past_ascii, released, released_alone, released_by, released_past_ascii}
use Rattle.js_lexer.specs.Words.{sense_after}
use Rattle.js_lexer.specs.Written.{blank_of, is_block, is_line, is_outside, is_slash, waiting_slash, script_written, written_between}
use Rattle.js_lexer.specs.declared.class.ScriptClass.{ScriptClass}
use Rattle.js_lexer.specs.declared.class.ScriptClass.TheVariants as class
use Rattle.js_lexer.specs.declared.sense.Sense.{Sense}
use Rattle.js_lexer.specs.declared.sense.Sense.TheVariants as sense
use Rattle.std.proofs.lemmas.Bool.{agree_below, agree_below_at, cases_lt, eqb-true}
use Rattle.std.proofs.lemmas.List.{append-nil}
use Rattle.std.specs.Char.{is_ascii_alphabetic, is_ascii_digit}
use Rattle.text_norm.specs.Kept.{held_in_line, script_waits}
use Rattle.text_norm.proofs.ScriptScansWrite.{solidus-no-first}

-- Only a slash leads behind a slash, or to a line comment; and only behind a slash does a `*` begin a comment.
abbrev is_solidus : ScriptClass → Bool
is_solidus class.Solidus = true
is_solidus c = false

abbrev Behind : ScriptPoint → ScriptClass → Type 0
Behind p c = is_slash p.at ≡ true → is_solidus c ≡ true

abbrev never : {A : Type 0} → false ≡ true → A
never e = absurd (true≢false (sym e))

opens-behind : (x : Bool) (fs : List ℕ) (c : ScriptClass) → Behind (literal_opens x fs) c
opens-behind true fs c e = never e
opens-behind false fs c e = never e

closes-behind : (fs : List ℕ) (c : ScriptClass) → Behind (brace_closes fs) c
closes-behind [] c e = never e
closes-behind (zero ∷ fs) c e = never e
closes-behind (suc n ∷ fs) c e = never e

ends-behind : (fs : List ℕ) (c : ScriptClass) → Behind (literal_ends fs) c
ends-behind [] c e = never e
ends-behind (n ∷ fs) c e = never e

code-behind : (s : Sense) (c : ScriptClass) (b : ℕ) (fs : List ℕ) → Behind (next_code s c b fs) c
code-behind s class.Solidus b fs e = refl
code-behind s class.GraveAccent b fs e = opens-behind (nat_le (suc (length fs)) max_literals) fs class.GraveAccent e
code-behind s class.CloseBrace b fs e = closes-behind fs class.CloseBrace e
code-behind s c b fs e = never e

word-behind : (x : Bool) (w : List ℕ) (c : ScriptClass) (b : ℕ) (fs : List ℕ) → Behind (next_script_word x w c b fs) c
word-behind true w c b fs e = never e
word-behind false w c b fs e = code-behind (sense_after w) c b fs e

number-behind : (x : Bool) (c : ScriptClass) (b : ℕ) (fs : List ℕ) → Behind (next_script_number x c b fs) c
number-behind true c b fs e = never e
number-behind false c b fs e = code-behind sense.Div c b fs e

pluses-behind : (odd : Bool) (c : ScriptClass) (b : ℕ) (fs : List ℕ) → Behind (next_pluses odd c b fs) c
pluses-behind odd class.Plus b fs e = never e
pluses-behind odd c b fs e = code-behind (sense_if_odd odd) c b fs e

minuses-behind : (odd : Bool) (c : ScriptClass) (b : ℕ) (fs : List ℕ) → Behind (next_minuses odd c b fs) c
minuses-behind odd class.Minus b fs e = never e
minuses-behind odd c b fs e = code-behind (sense_if_odd odd) c b fs e

regexp-behind : (x k : Bool) (i : ScriptEscape) (c : ScriptClass) (b : ℕ) (fs : List ℕ) → Behind (next_regexp x k i c b fs) c
regexp-behind true k i class.LineEnd b fs e = never e
regexp-behind true k i c b fs e = never e
regexp-behind false k i class.LineEnd b fs e = never e
regexp-behind false false i class.Solidus b fs e = never e
regexp-behind false true i class.Solidus b fs e = never e
regexp-behind false k i class.OpenBracket b fs e = never e
regexp-behind false k i class.CloseBracket b fs e = never e
regexp-behind false false i c b fs e = never e
regexp-behind false true i c b fs e = never e

slash-behind : (s : Sense) (c : ScriptClass) (b : ℕ) (fs : List ℕ) → Behind (next_slash s c b fs) c
slash-behind s class.Solidus b fs e = refl
slash-behind s class.Asterisk b fs e = never e
slash-behind sense.Re c b fs e = regexp-behind false false NoEscape c b fs e
slash-behind sense.Div c b fs e = code-behind sense.Re c b fs e
slash-behind sense.Brace c b fs e = code-behind sense.Re c b fs e

string-behind : (x q : Bool) (i : ScriptEscape) (c : ScriptClass) (b : ℕ) (fs : List ℕ) → Behind (next_script_string x q i c b fs) c
string-behind true q i c b fs e = never e
string-behind false true i class.QuotationMark b fs e = never e
string-behind false false i class.Apostrophe b fs e = never e
string-behind false true i class.LineEnd b fs e = never e
string-behind false false i class.LineEnd b fs e = never e
string-behind false true i c b fs e = never e
string-behind false false i c b fs e = never e

template-behind : (x : Bool) (i : ScriptEscape) (d : Bool) (c : ScriptClass) (b : ℕ) (fs : List ℕ) → Behind (next_template x i d c b fs) c
template-behind true i d c b fs e = never e
template-behind false i d class.GraveAccent b fs e = ends-behind fs class.GraveAccent e
template-behind false i true class.OpenBrace b fs e = never e
template-behind false i true class.Dollar b fs e = never e
template-behind false i false class.Dollar b fs e = never e
template-behind false i true c b fs e = never e
template-behind false i false c b fs e = never e

pub next-behind : (fs : List ℕ) (a : At) (c : ScriptClass) (b : ℕ) → Behind (script_next fs a c b) c
next-behind fs (Code s) c b e = code-behind s c b fs e
next-behind fs (Word w) c b e = word-behind (is_word c) w c b fs e
next-behind fs Number c b e = number-behind (is_number c) c b fs e
next-behind fs (Pluses odd) c b e = pluses-behind odd c b fs e
next-behind fs (Minuses odd) c b e = minuses-behind odd c b fs e
next-behind fs (Slash s) c b e = slash-behind s c b fs e
next-behind fs (LineComment s) class.LineEnd b e = never e
next-behind fs (LineComment s) c b e = never e
next-behind fs (BlockComment s true) class.Solidus b e = never e
next-behind fs (BlockComment s true) class.Asterisk b e = never e
next-behind fs (BlockComment s false) class.Asterisk b e = never e
next-behind fs (BlockComment s true) c b e = never e
next-behind fs (BlockComment s false) c b e = never e
next-behind fs (InString q i) c b e = string-behind (is_taken_in_string i b) q i c b fs e
next-behind fs (InRegexp k i) c b e = regexp-behind (is_taken_in_script i) k i c b fs e
next-behind fs (InTemplate i d) c b e = template-behind (is_taken_in_script i) i d c b fs e
next-behind fs TooDeep c b e = never e

-- The last of the bytes that a byte releases is that byte, if it releases any.
points-behind : (xs : List ClassedByte) (y : ClassedByte) (p : ScriptPoint) → Behind (points (xs ++ y ∷ []) p) y.class
points-behind [] y p e = next-behind p.literals p.at y.class y.byte e
points-behind (x ∷ xs) y p e = points-behind xs y (script_next p.literals p.at x.class x.byte) e

classed-last : (c : ScriptClass) (bs : List ℕ) (b : ℕ) → classed_as c (bs ++ b ∷ []) ≡ classed_as c bs ++ classed c b ∷ []
classed-last c [] b = refl
classed-last c (x ∷ bs) b = ap (λ (xs : List ClassedByte). classed c x ∷ xs) (classed-last c bs b)

all-behind : (c : ScriptClass) (bs : List ℕ) (b : ℕ) (p : ScriptPoint) → Behind (points (classed_as c (bs ++ b ∷ [])) p) c
all-behind c bs b p = subst (λ (xs : List ClassedByte). Behind (points xs p) c) (sym (classed-last c bs b)) (points-behind (classed_as c bs) (classed c b) p)

-- A byte that leads behind a slash, with nothing held back, is one.
abbrev BySolidus : List ClassedByte → List ℕ → ScriptPoint → ℕ → Type 0
BySolidus xs held p b = is_slash (points xs p).at ≡ true → is_empty held ≡ true → is_solidus (class_of b) ≡ true

not-empty : (bs : List ℕ) (b : ℕ) → is_empty (bs ++ b ∷ []) ≡ true → ⊥
not-empty [] b e = never e
not-empty (x ∷ bs) b e = never e

alone-slash : (k : PastAscii) (held : List ℕ) (b : ℕ) (p : ScriptPoint) → BySolidus (classed_as class.Letter held ++ released_alone k b) (held_alone k b) p b
alone-slash BeginsWhite held b p e n = never n
alone-slash IsSpace held b p e n = points-behind (classed_as class.Letter held) (classed (class_of b) b) p e
alone-slash IsSeparator held b p e n = points-behind (classed_as class.Letter held) (classed (class_of b) b) p e
alone-slash IsOther held b p e n = points-behind (classed_as class.Letter held) (classed (class_of b) b) p e

past-slash : (k : PastAscii) (held : List ℕ) (b : ℕ) (p : ScriptPoint) → BySolidus (released_past_ascii k held b) (held_past_ascii k held b) p b
past-slash IsSpace held b p e n = never (all-behind class.Space held b p e)
past-slash IsSeparator held b p e n = never (all-behind class.LineEnd held b p e)
past-slash BeginsWhite held b p e n = absurd (not-empty held b n)
past-slash IsOther held b p e n = alone-slash (past_ascii (b ∷ [])) held b p e n

by-slash : (ascii : Bool) (held : List ℕ) (b : ℕ) (p : ScriptPoint) → BySolidus (released_by ascii held b) (held_by ascii held b) p b
by-slash true held b p e n = points-behind (classed_as class.Letter held) (classed (class_of b) b) p e
by-slash false held b p e n = past-slash (past_ascii (held ++ b ∷ [])) held b p e n

read-slash : (tells : Bool) (held : List ℕ) (b : ℕ) (p : ScriptPoint) → BySolidus (read_at tells held (class_of b) b) (held_at tells held b) p b
unfolding released held_after
read-slash true held b p e n = by-slash (nat_lt b 128) held b p e n
read-slash false held b p e n = points-behind [] (classed (class_of b) b) p e

-- So a slash waits behind a slash alone.
and-left : (x y : Bool) → (x && y) ≡ true → x ≡ true
and-left true y e = refl
and-left false y e = never e

and-right : (x y : Bool) → (x && y) ≡ true → y ≡ true
and-right true y e = e
and-right false y e = never e

waits-by : (v : ScriptState) (b : ℕ) → (is_outside is_slash (feed_script v b) && (is_empty (feed_script v b).held && not (feed_script v b).trail.fresh)) ≡ true → is_solidus (class_of b) ≡ true
waits-by v b e =
    let w = feed_script v b in
    let k = and-right (is_outside is_slash w) (is_empty w.held && not w.trail.fresh) e in
    read-slash (tells_white_apart v.at) v.held b (point_of v)
    (and-right (is_empty w.literals) (is_slash w.at) (and-left (is_outside is_slash w) (is_empty w.held && not w.trail.fresh) e))
    (and-left (is_empty w.held) (not w.trail.fresh) k)

waits-if : (x : Bool) (b : ℕ) → (x ≡ true → is_solidus (class_of b) ≡ true) → is_solidus (class_of b) ≡ false → (if x then codes "/" else []) ≡ []
waits-if true b h n = absurd (true≢false (sym (h refl) ∙ n))
waits-if false b h n = refl

pub none-waits : (v : ScriptState) (b : ℕ) → is_solidus (class_of b) ≡ false → waiting_slash (feed_script v b) ≡ []
none-waits v b n =
    let w = feed_script v b in
    waits-if (is_outside is_slash w && (is_empty w.held && not w.trail.fresh)) b (waits-by v b) n

-- Which byte a slash is.
space-none : (b : ℕ) → 128 ≤ b → is_space b ≡ false
space-none b h = grind (h, arith, nat_tests)

line-none : (b : ℕ) → 128 ≤ b → is_line_terminator b ≡ false
line-none b h = grind (h, arith, nat_tests)

digit-none : (b : ℕ) → 128 ≤ b → is_ascii_digit b ≡ false
digit-none b h = grind (h, arith, nat_tests)

letter-there : (b : ℕ) → 128 ≤ b → (is_ascii_alphabetic b || (b == 95 || nat_le 128 b)) ≡ true
letter-there b h = grind (h, arith, nat_tests)

pub class-high : (b : ℕ) → 128 ≤ b → class_of b ≡ class.Letter
unfolding class_of
class-high b h = rw (space-none b h, line-none b h, digit-none b h, letter-there b h) refl

solidus-low : agree_below (λ (b : ℕ). not (is_solidus (class_of b)) || (b == 47)) (λ (b : ℕ). true) 128 ≡ true
unfolding class_of
solidus-low = refl

or-none : (x y : Bool) → (not x || y) ≡ true → y ≡ false → x ≡ false
or-none true true e n = absurd (true≢false n)
or-none true false e n = never e
or-none false y e n = refl

pub solidus-by : (b : ℕ) → (b == 47) ≡ false → (b < 128) ⊎ (128 ≤ b) → is_solidus (class_of b) ≡ false
solidus-by b n (inl h) =
    or-none (is_solidus (class_of b)) (b == 47) (agree_below_at (λ (z : ℕ). not (is_solidus (class_of z)) || (z == 47)) (λ (z : ℕ). true) 128 b solidus-low h) n
solidus-by b n (inr h) = ap is_solidus (class-high b h)

-- A byte outside of comments, behind which there is none: what is written, and what waits behind it, are what waited and the byte.
solidus-held : (tells : Bool) (held : List ℕ) → held_at tells held 47 ≡ []
unfolding held_after
solidus-held true held = refl
solidus-held false held = refl

two-slashes : (a : At) (fs held : List ℕ) → is_slash a ≡ true → is_empty held ≡ true → is_slash (points (read_at (tells_white_apart a) held (class_of 47) 47) (point fs a)).at ≡ false
unfolding class_of released
two-slashes (Slash sense.Re) fs [] e n = refl
two-slashes (Slash sense.Div) fs [] e n = refl
two-slashes (Slash sense.Brace) fs [] e n = refl
two-slashes a fs (x ∷ held) e n = never n
two-slashes a fs [] e n = never e

slash-if : (x : Bool) → x ≡ true → (if x then codes "/" else []) ≡ codes "/"
slash-if true e = refl
slash-if false e = never e

none-if : (x : Bool) → (x ≡ true → ⊥) → (if x then codes "/" else []) ≡ []
none-if true h = absurd (h refl)
none-if false h = refl

none-waited : (v : ScriptState) → is_outside is_slash (feed_script v 47) ≡ true → waiting_slash v ≡ []
none-waited v e =
    none-if (is_outside is_slash v && (is_empty v.held && not v.trail.fresh)) (λ h.
    let s = and-left (is_outside is_slash v) (is_empty v.held && not v.trail.fresh) h in
    let k = and-left (is_empty v.held) (not v.trail.fresh) (and-right (is_outside is_slash v) (is_empty v.held && not v.trail.fresh) h) in
    let w = feed_script v 47 in
    true≢false (sym (and-right (is_empty w.literals) (is_slash w.at) e) ∙ two-slashes v.at v.literals v.held (and-right (is_empty v.literals) (is_slash v.at) s) k))

all-true : (x y z : Bool) → x ≡ true → y ≡ true → z ≡ false → (x && (y && not z)) ≡ true
all-true x y z e f g = rw (e, f, g) refl

slash-waits : (v : ScriptState) → is_outside is_slash (feed_script v 47) ≡ true → waiting_slash (feed_script v 47) ≡ codes "/"
slash-waits v e =
    let w = feed_script v 47 in
    slash-if (is_outside is_slash w && (is_empty w.held && not w.trail.fresh))
    (all-true (is_outside is_slash w) (is_empty w.held) w.trail.fresh e (ap is_empty (solidus-held (tells_white_apart v.at) v.held)) (solidus-no-first v.trail.fresh v))

not-line : (v : ScriptState) → is_outside is_line v ≡ false → held_in_line v ≡ []
not-line v e = ap (λ (x : Bool). if x then v.held else []) e

abbrev written-if : Bool → List ℕ → ℕ → List ℕ
written-if x waited b = if x then [] else waited ++ b ∷ []

or-false : (x : Bool) (waited : List ℕ) (b : ℕ) → written-if (x || (false || false)) waited b ≡ written-if x waited b
or-false true waited b = refl
or-false false waited b = refl

written-outside : (v w : ScriptState) (b : ℕ) → is_outside is_block v ≡ false → is_outside is_line v ≡ false → is_outside is_block w ≡ false → is_outside is_line w ≡ false
    → written_between v w b ≡ written-if (b == 47 && is_outside is_slash w) (waiting_slash v) b
written-outside v w b e f g h = rw (e, f, g, h) (or-false (b == 47 && is_outside is_slash w) (waiting_slash v) b)

-- by whether the byte is a slash that waits
none-behind : (is : Bool) (v : ScriptState) (b : ℕ) → (b == 47) ≡ is → (b == 47 && is_outside is_slash (feed_script v b)) ≡ false → waiting_slash (feed_script v b) ≡ []
none-behind false v b e n = none-waits v b (solidus-by b e (cases_lt b 128))
none-behind true v b e n =
    let w = feed_script v b in
    none-if (is_outside is_slash w && (is_empty w.held && not w.trail.fresh))
    (λ h. true≢false (sym (and-left (is_outside is_slash w) (is_empty w.held && not w.trail.fresh) h) ∙ ap (λ (x : Bool). x && is_outside is_slash w) (sym e) ∙ n))

outside-by : (x : Bool) (v : ScriptState) (b : ℕ) → (b == 47 && is_outside is_slash (feed_script v b)) ≡ x → written-if x (waiting_slash v) b ++ waiting_slash (feed_script v b) ≡ waiting_slash v ++ b ∷ []
outside-by true v b e =
    let k = eqb-true b 47 (and-left (b == 47) (is_outside is_slash (feed_script v b)) e) in
    let s = subst (λ (z : ℕ). is_outside is_slash (feed_script v z) ≡ true) k (and-right (b == 47) (is_outside is_slash (feed_script v b)) e) in
    subst (λ (z : ℕ). waiting_slash (feed_script v z) ≡ waiting_slash v ++ z ∷ []) (sym k) (slash-waits v s ∙ ap (λ (xs : List ℕ). xs ++ codes "/") (sym (none-waited v s)))
outside-by false v b e =
    ap (λ (xs : List ℕ). (waiting_slash v ++ b ∷ []) ++ xs) (none-behind (b == 47) v b refl e) ∙ append-nil (waiting_slash v ++ b ∷ [])

pub outside-byte : (v : ScriptState) (b : ℕ) → is_outside is_block v ≡ false → is_outside is_line v ≡ false → is_outside is_block (feed_script v b) ≡ false → is_outside is_line (feed_script v b) ≡ false
    → script_written v b ++ script_waits (feed_script v b) ≡ script_waits v ++ b ∷ []
outside-byte v b e f g h =
    let w = feed_script v b in
    ap₂ (λ (x y : List ℕ). x ++ (waiting_slash w ++ y)) (written-outside v w b e f g h) (not-line w h)
    ∙ ap (λ (y : List ℕ). written-if (b == 47 && is_outside is_slash w) (waiting_slash v) b ++ y) (append-nil (waiting_slash w))
    ∙ outside-by (b == 47 && is_outside is_slash w) v b refl
    ∙ ap (λ (xs : List ℕ). xs ++ b ∷ []) (sym (append-nil (waiting_slash v)))
    ∙ ap (λ (y : List ℕ). (waiting_slash v ++ y) ++ b ∷ []) (sym (not-line v f))

-- A byte with which a comment begins: nothing is written of it, nor of the slash that waited.
or-true : (x : Bool) (waited : List ℕ) (b : ℕ) → written-if (x || true) waited b ≡ []
or-true true waited b = refl
or-true false waited b = refl

pub opening-byte : (v : ScriptState) (b : ℕ) → is_outside is_block v ≡ false → is_outside is_line v ≡ false → (is_outside is_line (feed_script v b) || is_outside is_block (feed_script v b)) ≡ true
    → script_written v b ≡ []
opening-byte v b e f g = rw (e, f, g) (or-true (b == 47 && is_outside is_slash (feed_script v b)) (waiting_slash v) b)

-- A byte of a block comment, and the one with which it ends: nothing waits in it.
pub block-byte : (v : ScriptState) (b : ℕ) → is_outside is_block v ≡ true → script_written v b ≡ (if is_outside is_block (feed_script v b) then [] else blank_of v.trail.lines)
block-byte v b e = rw e refl

block-waits-at : (fs held : List ℕ) (a : At) (t : Trail) → (is_empty fs && is_block a) ≡ true → script_waits (record { literals = fs; at = a; held = held; trail = t }) ≡ []
block-waits-at [] held (BlockComment s star) t e = refl
block-waits-at [] held a t e = never e
block-waits-at (n ∷ fs) held a t e = never e

pub block-waits : (v : ScriptState) → is_outside is_block v ≡ true → script_waits v ≡ []
block-waits v e = block-waits-at v.literals v.held v.at v.trail e
