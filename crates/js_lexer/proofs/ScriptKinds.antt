-- Where a byte of a script leads, as far as slashes and comments go that stand outside of template literals.
use Rattle.std.proofs.Common.{◌≡◌, ℕ, zero, suc, ◌==◌, ◌||◌, nat_le, if◌then◌else◌, Bool, true, false, List, [], ◌∷◌, length, refl, sym, eqb-true, true≢false}
use Rattle.std.proofs.lemmas.Bool.{cond_both}
use Rattle.std.specs.Char.{is_ascii_alphabetic, is_ascii_digit}
use Rattle.js_lexer.specs.Classes.{class_of, is_space, is_line_terminator, script_opens}
use Rattle.js_lexer.specs.States.{ScriptEscape, NoEscape, At, Code, Word, Number, Pluses, Minuses, Slash, LineComment, BlockComment, InString, InRegexp, InTemplate, TooDeep, ScriptPoint}
use Rattle.js_lexer.specs.Steps.{is_word, is_number, is_taken_in_script, is_taken_in_string, literal_opens, max_literals, next_block, next_code, next_line, next_regexp, next_script_string, next_slash, next_template, next_minuses, next_pluses, next_script_number, next_script_word, script_next, sense_if_odd}
use Rattle.js_lexer.specs.Words.{sense_after}
use Rattle.js_lexer.specs.declared.class.ScriptClass.{ScriptClass}
use Rattle.js_lexer.specs.declared.class.ScriptClass.TheVariants as class
use Rattle.js_lexer.specs.declared.sense.Sense.{Sense}
use Rattle.js_lexer.specs.declared.sense.Sense.TheVariants as sense

-- Of which byte some classes are.
abbrev pub is_common : ScriptClass → Bool
is_common class.LineEnd = false
is_common class.Solidus = false
is_common class.Asterisk = false
is_common c = true

pub by-class : (P : ScriptClass → Type 0) (b : ℕ) → (is_line_terminator b ≡ true → P class.LineEnd) → ((b == 47) ≡ true → P class.Solidus) → ((b == 42) ≡ true → P class.Asterisk)
    → ((c : ScriptClass) → is_common c ≡ true → P c) → P (class_of b)
unfolding class_of
by-class P b line slash star other =
    let r22 = if script_opens b then class.Opens else class.Closes in
    let r21 = if b == 46 then class.Dot else r22 in
    let r20 = if b == 93 then class.CloseBracket else r21 in
    let r19 = if b == 91 then class.OpenBracket else r20 in
    let r18 = if b == 125 then class.CloseBrace else r19 in
    let r17 = if b == 123 then class.OpenBrace else r18 in
    let r16 = if b == 33 then class.ExclamationMark else r17 in
    let r15 = if b == 35 then class.NumberSign else r16 in
    let r14 = if b == 62 then class.GreaterThan else r15 in
    let r13 = if b == 60 then class.LessThan else r14 in
    let r12 = if b == 45 then class.Minus else r13 in
    let r11 = if b == 43 then class.Plus else r12 in
    let r10 = if b == 42 then class.Asterisk else r11 in
    let r9 = if b == 47 then class.Solidus else r10 in
    let r8 = if b == 96 then class.GraveAccent else r9 in
    let r7 = if b == 39 then class.Apostrophe else r8 in
    let r6 = if b == 34 then class.QuotationMark else r7 in
    let r5 = if b == 92 then class.Backslash else r6 in
    let r4 = if b == 36 then class.Dollar else r5 in
    let r3 = if is_ascii_alphabetic b || (b == 95 || nat_le 128 b) then class.Letter else r4 in
    let r2 = if is_ascii_digit b then class.Digit else r3 in
    let r1 = if is_line_terminator b then class.LineEnd else r2 in
    cond_both (is_space b) class.Space r1 P (λ e. other class.Space refl) (λ e.
    cond_both (is_line_terminator b) class.LineEnd r2 P line (λ e.
    cond_both (is_ascii_digit b) class.Digit r3 P (λ e. other class.Digit refl) (λ e.
    cond_both (is_ascii_alphabetic b || (b == 95 || nat_le 128 b)) class.Letter r4 P (λ e. other class.Letter refl) (λ e.
    cond_both (b == 36) class.Dollar r5 P (λ e. other class.Dollar refl) (λ e.
    cond_both (b == 92) class.Backslash r6 P (λ e. other class.Backslash refl) (λ e.
    cond_both (b == 34) class.QuotationMark r7 P (λ e. other class.QuotationMark refl) (λ e.
    cond_both (b == 39) class.Apostrophe r8 P (λ e. other class.Apostrophe refl) (λ e.
    cond_both (b == 96) class.GraveAccent r9 P (λ e. other class.GraveAccent refl) (λ e.
    cond_both (b == 47) class.Solidus r10 P slash (λ e.
    cond_both (b == 42) class.Asterisk r11 P star (λ e.
    cond_both (b == 43) class.Plus r12 P (λ e. other class.Plus refl) (λ e.
    cond_both (b == 45) class.Minus r13 P (λ e. other class.Minus refl) (λ e.
    cond_both (b == 60) class.LessThan r14 P (λ e. other class.LessThan refl) (λ e.
    cond_both (b == 62) class.GreaterThan r15 P (λ e. other class.GreaterThan refl) (λ e.
    cond_both (b == 35) class.NumberSign r16 P (λ e. other class.NumberSign refl) (λ e.
    cond_both (b == 33) class.ExclamationMark r17 P (λ e. other class.ExclamationMark refl) (λ e.
    cond_both (b == 123) class.OpenBrace r18 P (λ e. other class.OpenBrace refl) (λ e.
    cond_both (b == 125) class.CloseBrace r19 P (λ e. other class.CloseBrace refl) (λ e.
    cond_both (b == 91) class.OpenBracket r20 P (λ e. other class.OpenBracket refl) (λ e.
    cond_both (b == 93) class.CloseBracket r21 P (λ e. other class.CloseBracket refl) (λ e.
    cond_both (b == 46) class.Dot r22 P (λ e. other class.Dot refl) (λ e.
    cond_both (script_opens b) class.Opens class.Closes P (λ e. other class.Opens refl) (λ e. other class.Closes refl)))))))))))))))))))))))

-- the classes by which a comment begins
abbrev pub is_solidus_class : ScriptClass → Bool
is_solidus_class class.Solidus = true
is_solidus_class c = false

abbrev pub is_asterisk_class : ScriptClass → Bool
is_asterisk_class class.Asterisk = true
is_asterisk_class c = false

common-solidus : (c : ScriptClass) → is_common c ≡ true → is_solidus_class c ≡ true → ⊥
common-solidus class.Solidus e h = absurd (true≢false (sym e))
common-solidus c e h = absurd (true≢false (sym h))

pub solidus-byte : (b : ℕ) → is_solidus_class (class_of b) ≡ true → b ≡ 47
solidus-byte b = by-class (λ c. is_solidus_class c ≡ true → b ≡ 47) b
    (λ e h. absurd (true≢false (sym h)))
    (λ e h. eqb-true b 47 e)
    (λ e h. absurd (true≢false (sym h)))
    (λ c e h. absurd (common-solidus c e h))

common-asterisk : (c : ScriptClass) → is_common c ≡ true → is_asterisk_class c ≡ true → ⊥
common-asterisk class.Asterisk e h = absurd (true≢false (sym e))
common-asterisk c e h = absurd (true≢false (sym h))

pub asterisk-byte : (b : ℕ) → is_asterisk_class (class_of b) ≡ true → b ≡ 42
asterisk-byte b = by-class (λ c. is_asterisk_class c ≡ true → b ≡ 42) b
    (λ e h. absurd (true≢false (sym h)))
    (λ e h. absurd (true≢false (sym h)))
    (λ e h. eqb-true b 42 e)
    (λ c e h. absurd (common-asterisk c e h))

-- The points: a slash that may begin a comment; a comment; literals that nest too deep; and all others.
pub data PointKind : Type 0 where
  Elsewhere : PointKind
  AtSlash : PointKind
  InComment : PointKind
  Deep : PointKind
  Beyond : PointKind

abbrev pub kind : List ℕ → At → PointKind
kind [] (Slash s) = AtSlash
kind [] (LineComment s) = InComment
kind [] (BlockComment s star) = InComment
kind [] TooDeep = Beyond
kind (n ∷ fs) TooDeep = Deep
kind fs a = Elsewhere

abbrev pub kind_of : ScriptPoint → PointKind
kind_of p = kind p.literals p.at

abbrev is_in_comment : PointKind → Bool
is_in_comment InComment = true
is_in_comment k = false

abbrev pub comes : PointKind → ScriptClass → PointKind → Bool
comes Elsewhere class.Solidus AtSlash = true
comes Elsewhere class.GraveAccent Deep = true
comes Elsewhere c Elsewhere = true
comes AtSlash class.Solidus k = is_in_comment k
comes AtSlash class.Asterisk k = is_in_comment k
comes AtSlash c Elsewhere = true
comes Deep c Deep = true
comes InComment c k = true
comes Beyond c k = true
comes k c l = false

literal-comes : (x : Bool) (n : ℕ) (fs : List ℕ) → comes Elsewhere class.GraveAccent (kind_of (literal_opens x (n ∷ fs))) ≡ true
literal-comes true n fs = refl
literal-comes false n fs = refl

code-comes : (s : Sense) (c : ScriptClass) (b : ℕ) (fs : List ℕ) → comes Elsewhere c (kind_of (next_code s c b fs)) ≡ true
code-comes s class.GraveAccent b [] = refl
code-comes s class.GraveAccent b (n ∷ fs) = literal-comes (nat_le (suc (length (n ∷ fs))) max_literals) n fs
code-comes s class.CloseBrace b [] = refl
code-comes s class.CloseBrace b (zero ∷ fs) = refl
code-comes s class.CloseBrace b (suc n ∷ fs) = refl
code-comes s c b [] = refl
code-comes s c b (n ∷ fs) = refl

regexp-comes : (taken k : Bool) (e : ScriptEscape) (c : ScriptClass) (b : ℕ) (fs : List ℕ) → comes Elsewhere c (kind_of (next_regexp taken k e c b fs)) ≡ true
regexp-comes true true e class.LineEnd b [] = refl
regexp-comes true true e c b [] = refl
regexp-comes true true e class.LineEnd b (n ∷ fs) = refl
regexp-comes true true e c b (n ∷ fs) = refl
regexp-comes true false e class.LineEnd b [] = refl
regexp-comes true false e c b [] = refl
regexp-comes true false e class.LineEnd b (n ∷ fs) = refl
regexp-comes true false e c b (n ∷ fs) = refl
regexp-comes false true e class.LineEnd b [] = refl
regexp-comes false true e c b [] = refl
regexp-comes false true e class.LineEnd b (n ∷ fs) = refl
regexp-comes false true e c b (n ∷ fs) = refl
regexp-comes false false e class.LineEnd b [] = refl
regexp-comes false false e c b [] = refl
regexp-comes false false e class.LineEnd b (n ∷ fs) = refl
regexp-comes false false e c b (n ∷ fs) = refl

string-comes : (taken q : Bool) (e : ScriptEscape) (c : ScriptClass) (b : ℕ) (fs : List ℕ) → comes Elsewhere c (kind_of (next_script_string taken q e c b fs)) ≡ true
string-comes true q e class.LineEnd b [] = refl
string-comes true q e c b [] = refl
string-comes true q e class.LineEnd b (n ∷ fs) = refl
string-comes true q e c b (n ∷ fs) = refl
string-comes false true e class.LineEnd b [] = refl
string-comes false true e c b [] = refl
string-comes false true e class.LineEnd b (n ∷ fs) = refl
string-comes false true e c b (n ∷ fs) = refl
string-comes false false e class.LineEnd b [] = refl
string-comes false false e c b [] = refl
string-comes false false e class.LineEnd b (n ∷ fs) = refl
string-comes false false e c b (n ∷ fs) = refl

template-comes : (taken : Bool) (e : ScriptEscape) (d : Bool) (c : ScriptClass) (b : ℕ) (fs : List ℕ) → comes Elsewhere c (kind_of (next_template taken e d c b fs)) ≡ true
template-comes true e d class.LineEnd b [] = refl
template-comes true e d c b [] = refl
template-comes true e d class.LineEnd b (n ∷ fs) = refl
template-comes true e d c b (n ∷ fs) = refl
template-comes false e true class.LineEnd b [] = refl
template-comes false e true c b [] = refl
template-comes false e true class.LineEnd b (n ∷ []) = refl
template-comes false e true c b (n ∷ []) = refl
template-comes false e true class.LineEnd b (n ∷ m ∷ fs) = refl
template-comes false e true c b (n ∷ m ∷ fs) = refl
template-comes false e false class.LineEnd b [] = refl
template-comes false e false c b [] = refl
template-comes false e false class.LineEnd b (n ∷ []) = refl
template-comes false e false c b (n ∷ []) = refl
template-comes false e false class.LineEnd b (n ∷ m ∷ fs) = refl
template-comes false e false c b (n ∷ m ∷ fs) = refl

word-comes : (x : Bool) (w : List ℕ) (c : ScriptClass) (b : ℕ) (fs : List ℕ) → comes Elsewhere c (kind_of (next_script_word x w c b fs)) ≡ true
word-comes true w class.LineEnd b [] = refl
word-comes true w c b [] = refl
word-comes true w class.LineEnd b (n ∷ fs) = refl
word-comes true w c b (n ∷ fs) = refl
word-comes false w c b fs = code-comes (sense_after w) c b fs

number-comes : (x : Bool) (c : ScriptClass) (b : ℕ) (fs : List ℕ) → comes Elsewhere c (kind_of (next_script_number x c b fs)) ≡ true
number-comes true class.LineEnd b [] = refl
number-comes true c b [] = refl
number-comes true class.LineEnd b (n ∷ fs) = refl
number-comes true c b (n ∷ fs) = refl
number-comes false c b fs = code-comes sense.Div c b fs

pluses-comes : (odd : Bool) (c : ScriptClass) (b : ℕ) (fs : List ℕ) → comes Elsewhere c (kind_of (next_pluses odd c b fs)) ≡ true
pluses-comes odd class.Plus b [] = refl
pluses-comes odd class.Plus b (n ∷ fs) = refl
pluses-comes odd c b fs = code-comes (sense_if_odd odd) c b fs

minuses-comes : (odd : Bool) (c : ScriptClass) (b : ℕ) (fs : List ℕ) → comes Elsewhere c (kind_of (next_minuses odd c b fs)) ≡ true
minuses-comes odd class.Minus b [] = refl
minuses-comes odd class.Minus b (n ∷ fs) = refl
minuses-comes odd c b fs = code-comes (sense_if_odd odd) c b fs

-- the slash of a literal's code, which may begin a comment there: that is another part of the literal
inner-slash-comes : (s : Sense) (c : ScriptClass) (b n : ℕ) (fs : List ℕ) → comes Elsewhere c (kind_of (next_slash s c b (n ∷ fs))) ≡ true
inner-slash-comes s class.Solidus b n fs = refl
inner-slash-comes s class.Asterisk b n fs = refl
inner-slash-comes sense.Re c b n fs = regexp-comes false false NoEscape c b (n ∷ fs)
inner-slash-comes sense.Div c b n fs = code-comes sense.Re c b (n ∷ fs)
inner-slash-comes sense.Brace c b n fs = code-comes sense.Re c b (n ∷ fs)

slash-comes : (s : Sense) (c : ScriptClass) (b : ℕ) → comes AtSlash c (kind_of (next_slash s c b [])) ≡ true
slash-comes s class.Solidus b = refl
slash-comes s class.Asterisk b = refl
slash-comes sense.Re c b = refl
slash-comes sense.Div c b = refl
slash-comes sense.Brace c b = refl

line-comes : (s : Sense) (c : ScriptClass) (n : ℕ) (fs : List ℕ) → comes Elsewhere c (kind_of (next_line s c (n ∷ fs))) ≡ true
line-comes s class.LineEnd n fs = refl
line-comes s c n fs = refl

block-comes : (s : Sense) (star : Bool) (c : ScriptClass) (n : ℕ) (fs : List ℕ) → comes Elsewhere c (kind_of (next_block s star c (n ∷ fs))) ≡ true
block-comes s true class.Solidus n fs = refl
block-comes s true class.Asterisk n fs = refl
block-comes s true c n fs = refl
block-comes s false class.Asterisk n fs = refl
block-comes s false c n fs = refl

pub next-comes : (fs : List ℕ) (a : At) (c : ScriptClass) (b : ℕ) → comes (kind fs a) c (kind_of (script_next fs a c b)) ≡ true
next-comes [] (Code s) c b = code-comes s c b []
next-comes [] (Word w) c b = word-comes (is_word c) w c b []
next-comes [] Number c b = number-comes (is_number c) c b []
next-comes [] (Pluses odd) c b = pluses-comes odd c b []
next-comes [] (Minuses odd) c b = minuses-comes odd c b []
next-comes [] (Slash s) c b = slash-comes s c b
next-comes [] (LineComment s) c b = refl
next-comes [] (BlockComment s star) c b = refl
next-comes [] (InString q e) c b = string-comes (is_taken_in_string e b) q e c b []
next-comes [] (InRegexp k e) c b = regexp-comes (is_taken_in_script e) k e c b []
next-comes [] (InTemplate e d) c b = template-comes (is_taken_in_script e) e d c b []
next-comes [] TooDeep c b = refl
next-comes (n ∷ fs) (Code s) c b = code-comes s c b (n ∷ fs)
next-comes (n ∷ fs) (Word w) c b = word-comes (is_word c) w c b (n ∷ fs)
next-comes (n ∷ fs) Number c b = number-comes (is_number c) c b (n ∷ fs)
next-comes (n ∷ fs) (Pluses odd) c b = pluses-comes odd c b (n ∷ fs)
next-comes (n ∷ fs) (Minuses odd) c b = minuses-comes odd c b (n ∷ fs)
next-comes (n ∷ fs) (Slash s) c b = inner-slash-comes s c b n fs
next-comes (n ∷ fs) (LineComment s) c b = line-comes s c n fs
next-comes (n ∷ fs) (BlockComment s star) c b = block-comes s star c n fs
next-comes (n ∷ fs) (InString q e) c b = string-comes (is_taken_in_string e b) q e c b (n ∷ fs)
next-comes (n ∷ fs) (InRegexp k e) c b = regexp-comes (is_taken_in_script e) k e c b (n ∷ fs)
next-comes (n ∷ fs) (InTemplate e d) c b = template-comes (is_taken_in_script e) e d c b (n ∷ fs)
next-comes (n ∷ fs) TooDeep c b = refl
