-- In the code of a template literal the words that HTML reads are refused, and so is the end of a node.
use Rattle.std.proofs.Common.{◌≡◌, inl, inr, ℕ, ◌==◌, ◌||◌, ◌&&◌, nat_le, nat_lt, not, if◌then◌else◌, Bool, true, false, bytes_eq, codes, List, [], ◌∷◌, ◌++◌, Option, Some, None, length, take, refl, sym, ap, ap₂, ◌∙◌, subst, true≢false, eqb-true, ltb-true, arith}
use Rattle.std.proofs.lemmas.Bool.{agree_below, agree_below_at, and_from, and_parts, and_right, cases_Bool, cond_both, or_cases, or_from}
use Rattle.std.proofs.lemmas.Bool.Decides.{nat_tests}
use Rattle.std.proofs.lemmas.Slice.Eq.{bytes_eq-Decides}
use Rattle.std.specs.Char.{is_ascii_alphabetic, is_ascii_digit, to_ascii_lowercase}
use Rattle.std.specs.List.{list_all}
use Rattle.js_lexer.specs.Classes.{class_of, is_space, is_line_terminator, script_opens}
use Rattle.js_lexer.specs.Elements.{in_lower_case}
use Rattle.js_lexer.specs.Events.{ScriptEvent}
use Rattle.js_lexer.specs.Feeding.{points, tells_white_apart, read_at, feed_script, script_emits, point_of}
use Rattle.js_lexer.specs.PageScripts.{page_script, told_inside, read_in_page, ScriptTakes, are_behind_less, is_byte_of_word}
use Rattle.js_lexer.specs.Refusals.{Cause, HtmlInScript, cause, first_script_cause, inner_markup_refusal, is_one_of, refusal_outside, script_refuses, script_refuses_cut, split_refusal, unless_in_character, whole_cut_refusal}
use Rattle.js_lexer.specs.States.{ScriptEscape, NoEscape, At, Code, Word, Number, Pluses, Minuses, Slash, LineComment, BlockComment, InString, InRegexp, InTemplate, TooDeep, ScriptPoint, point, Trail, ScriptState}
use Rattle.js_lexer.specs.Steps.{is_number, is_taken_in_script, is_taken_in_string, is_word, next_block, next_code, next_line, next_minuses, next_pluses, next_regexp, next_script_number, next_script_string, next_script_word, next_slash, script_next, sense_if_odd}
use Rattle.js_lexer.specs.Trails.{begins_markup, is_empty, is_markup_code, markup_after, next_markup}
use Rattle.js_lexer.specs.WhiteSpace.{ClassedByte, classed, classed_as, released, held_after}
use Rattle.js_lexer.specs.Words.{sense_after}
use Rattle.js_lexer.specs.Written.{is_hidden_in_script}
use Rattle.js_lexer.specs.declared.class.ScriptClass.{ScriptClass}
use Rattle.js_lexer.specs.declared.class.ScriptClass.TheVariants as class
use Rattle.js_lexer.specs.declared.sense.Sense.{Sense}
use Rattle.js_lexer.specs.declared.sense.Sense.TheVariants as sense
use Rattle.js_lexer.proofs.CommentBlanks.{behind-take, differs}
use Rattle.js_lexer.proofs.ScriptReleases.{Release, AsLetters, HoldsByte, HoldsAll, AsSpaces, AsLineEnds, releases}

-- bytes by which no template literal begins or ends, nor its code
abbrev is_plain : ScriptClass → Bool
is_plain class.GraveAccent = false
is_plain class.OpenBrace = false
is_plain class.CloseBrace = false
is_plain c = true

plain-class : (b : ℕ) → (b == 96) ≡ false → (b == 123) ≡ false → (b == 125) ≡ false → is_plain (class_of b) ≡ true
unfolding class_of
plain-class b grave opens closes =
    let r22 = if script_opens b then class.Opens else class.Closes in
    let r21 = if b == 46 then class.Dot else r22 in
    let r20 = if b == 93 then class.CloseBracket else r21 in
    let r19 = if b == 91 then class.OpenBracket else r20 in
    let r18 = if b == 125 then class.CloseBrace else r19 in
    let r17 = if b == 123 then class.OpenBrace else r18 in
    let r16 = if b == 33 then class.ExclamationMark else r17 in
    let r15 = if b == 35 then class.NumberSign else r16 in
    let r14 = if b == 62 then class.GreaterThan else r15 in
    let r13 = if b == 60 then class.LessThan else r14 in
    let r12 = if b == 45 then class.Minus else r13 in
    let r11 = if b == 43 then class.Plus else r12 in
    let r10 = if b == 42 then class.Asterisk else r11 in
    let r9 = if b == 47 then class.Solidus else r10 in
    let r8 = if b == 96 then class.GraveAccent else r9 in
    let r7 = if b == 39 then class.Apostrophe else r8 in
    let r6 = if b == 34 then class.QuotationMark else r7 in
    let r5 = if b == 92 then class.Backslash else r6 in
    let r4 = if b == 36 then class.Dollar else r5 in
    let r3 = if is_ascii_alphabetic b || (b == 95 || nat_le 128 b) then class.Letter else r4 in
    let r2 = if is_ascii_digit b then class.Digit else r3 in
    let r1 = if is_line_terminator b then class.LineEnd else r2 in
    let P = λ (c : ScriptClass). is_plain c ≡ true in
    cond_both (is_space b) class.Space r1 P (λ e. refl) (λ e.
    cond_both (is_line_terminator b) class.LineEnd r2 P (λ e. refl) (λ e.
    cond_both (is_ascii_digit b) class.Digit r3 P (λ e. refl) (λ e.
    cond_both (is_ascii_alphabetic b || (b == 95 || nat_le 128 b)) class.Letter r4 P (λ e. refl) (λ e.
    cond_both (b == 36) class.Dollar r5 P (λ e. refl) (λ e.
    cond_both (b == 92) class.Backslash r6 P (λ e. refl) (λ e.
    cond_both (b == 34) class.QuotationMark r7 P (λ e. refl) (λ e.
    cond_both (b == 39) class.Apostrophe r8 P (λ e. refl) (λ e.
    cond_both (b == 96) class.GraveAccent r9 P (λ e. absurd (true≢false (sym e ∙ grave))) (λ e.
    cond_both (b == 47) class.Solidus r10 P (λ e. refl) (λ e.
    cond_both (b == 42) class.Asterisk r11 P (λ e. refl) (λ e.
    cond_both (b == 43) class.Plus r12 P (λ e. refl) (λ e.
    cond_both (b == 45) class.Minus r13 P (λ e. refl) (λ e.
    cond_both (b == 60) class.LessThan r14 P (λ e. refl) (λ e.
    cond_both (b == 62) class.GreaterThan r15 P (λ e. refl) (λ e.
    cond_both (b == 35) class.NumberSign r16 P (λ e. refl) (λ e.
    cond_both (b == 33) class.ExclamationMark r17 P (λ e. refl) (λ e.
    cond_both (b == 123) class.OpenBrace r18 P (λ e. absurd (true≢false (sym e ∙ opens))) (λ e.
    cond_both (b == 125) class.CloseBrace r19 P (λ e. absurd (true≢false (sym e ∙ closes))) (λ e.
    cond_both (b == 91) class.OpenBracket r20 P (λ e. refl) (λ e.
    cond_both (b == 93) class.CloseBracket r21 P (λ e. refl) (λ e.
    cond_both (b == 46) class.Dot r22 P (λ e. refl) (λ e.
    cond_both (script_opens b) class.Opens class.Closes P (λ e. refl) (λ e. refl)))))))))))))))))))))))

other-byte : (b c : ℕ) → is_byte_of_word b ≡ true → is_byte_of_word c ≡ false → (b == c) ≡ false
other-byte b c e f = elim (cases_Bool (b == c)) [
  | inl g ↦ absurd (true≢false (sym e ∙ ap is_byte_of_word (eqb-true b c g) ∙ f))
  | inr g ↦ g
]

word-plain : (b : ℕ) → is_byte_of_word b ≡ true → is_plain (class_of b) ≡ true
word-plain b e = plain-class b (other-byte b 96 e refl) (other-byte b 123 e refl) (other-byte b 125 e refl)

first-plain : (b : ℕ) → (b == 47 || is_byte_of_word b) ≡ true → is_plain (class_of b) ≡ true
unfolding class_of
first-plain b e = elim (cases_Bool (b == 47)) [
  | inl f ↦ subst (λ (c : ℕ). is_plain (class_of c) ≡ true) (sym (eqb-true b 47 f)) refl
  | inr f ↦ word-plain b (sym (ap (λ (x : Bool). x || is_byte_of_word b) f) ∙ e)
]

-- Within a literal, and not in its characters.
abbrev is_template : At → Bool
is_template (InTemplate e d) = true
is_template a = false

abbrev pub is_inner : ScriptPoint → Bool
is_inner p = not (is_empty p.literals) && not (is_template p.at)

code-inner : (s : Sense) (c : ScriptClass) (b n : ℕ) (fs : List ℕ) → is_plain c ≡ true → is_inner (next_code s c b (n ∷ fs)) ≡ true
code-inner s class.GraveAccent b n fs e = absurd (true≢false (sym e))
code-inner s class.OpenBrace b n fs e = absurd (true≢false (sym e))
code-inner s class.CloseBrace b n fs e = absurd (true≢false (sym e))
code-inner s c b n fs e = refl

regexp-inner : (taken k : Bool) (e : ScriptEscape) (c : ScriptClass) (b n : ℕ) (fs : List ℕ) → is_inner (next_regexp taken k e c b (n ∷ fs)) ≡ true
regexp-inner true k e class.LineEnd b n fs = refl
regexp-inner true k e c b n fs = refl
regexp-inner false true e class.LineEnd b n fs = refl
regexp-inner false true e c b n fs = refl
regexp-inner false false e class.LineEnd b n fs = refl
regexp-inner false false e c b n fs = refl

string-inner : (taken q : Bool) (e : ScriptEscape) (c : ScriptClass) (b n : ℕ) (fs : List ℕ) → is_inner (next_script_string taken q e c b (n ∷ fs)) ≡ true
string-inner true q e c b n fs = refl
string-inner false true e class.LineEnd b n fs = refl
string-inner false true e c b n fs = refl
string-inner false false e class.LineEnd b n fs = refl
string-inner false false e c b n fs = refl

word-inner : (x : Bool) (w : List ℕ) (c : ScriptClass) (b n : ℕ) (fs : List ℕ) → is_plain c ≡ true → is_inner (next_script_word x w c b (n ∷ fs)) ≡ true
word-inner true w c b n fs e = refl
word-inner false w c b n fs e = code-inner (sense_after w) c b n fs e

number-inner : (x : Bool) (c : ScriptClass) (b n : ℕ) (fs : List ℕ) → is_plain c ≡ true → is_inner (next_script_number x c b (n ∷ fs)) ≡ true
number-inner true c b n fs e = refl
number-inner false c b n fs e = code-inner sense.Div c b n fs e

pluses-inner : (odd : Bool) (c : ScriptClass) (b n : ℕ) (fs : List ℕ) → is_plain c ≡ true → is_inner (next_pluses odd c b (n ∷ fs)) ≡ true
pluses-inner odd class.Plus b n fs e = refl
pluses-inner odd c b n fs e = code-inner (sense_if_odd odd) c b n fs e

minuses-inner : (odd : Bool) (c : ScriptClass) (b n : ℕ) (fs : List ℕ) → is_plain c ≡ true → is_inner (next_minuses odd c b (n ∷ fs)) ≡ true
minuses-inner odd class.Minus b n fs e = refl
minuses-inner odd c b n fs e = code-inner (sense_if_odd odd) c b n fs e

slash-inner : (s : Sense) (c : ScriptClass) (b n : ℕ) (fs : List ℕ) → is_plain c ≡ true → is_inner (next_slash s c b (n ∷ fs)) ≡ true
slash-inner s class.Solidus b n fs e = refl
slash-inner s class.Asterisk b n fs e = refl
slash-inner sense.Re c b n fs e = regexp-inner false false NoEscape c b n fs
slash-inner sense.Div c b n fs e = code-inner sense.Re c b n fs e
slash-inner sense.Brace c b n fs e = code-inner sense.Re c b n fs e

line-inner : (s : Sense) (c : ScriptClass) (n : ℕ) (fs : List ℕ) → is_inner (next_line s c (n ∷ fs)) ≡ true
line-inner s class.LineEnd n fs = refl
line-inner s c n fs = refl

block-inner : (s : Sense) (star : Bool) (c : ScriptClass) (n : ℕ) (fs : List ℕ) → is_inner (next_block s star c (n ∷ fs)) ≡ true
block-inner s true class.Solidus n fs = refl
block-inner s true class.Asterisk n fs = refl
block-inner s true c n fs = refl
block-inner s false class.Asterisk n fs = refl
block-inner s false c n fs = refl

inner-next : (fs : List ℕ) (a : At) (c : ScriptClass) (b : ℕ) → is_inner (point fs a) ≡ true → is_plain c ≡ true → is_inner (script_next fs a c b) ≡ true
inner-next [] a c b i e = absurd (true≢false (sym i))
inner-next (n ∷ fs) (Code s) c b i e = code-inner s c b n fs e
inner-next (n ∷ fs) (Word w) c b i e = word-inner (is_word c) w c b n fs e
inner-next (n ∷ fs) Number c b i e = number-inner (is_number c) c b n fs e
inner-next (n ∷ fs) (Pluses odd) c b i e = pluses-inner odd c b n fs e
inner-next (n ∷ fs) (Minuses odd) c b i e = minuses-inner odd c b n fs e
inner-next (n ∷ fs) (Slash s) c b i e = slash-inner s c b n fs e
inner-next (n ∷ fs) (LineComment s) c b i e = line-inner s c n fs
inner-next (n ∷ fs) (BlockComment s star) c b i e = block-inner s star c n fs
inner-next (n ∷ fs) (InString q x) c b i e = string-inner (is_taken_in_string x b) q x c b n fs
inner-next (n ∷ fs) (InRegexp k x) c b i e = regexp-inner (is_taken_in_script x) k x c b n fs
inner-next (n ∷ fs) (InTemplate x d) c b i e = absurd (true≢false (sym i))
inner-next (n ∷ fs) TooDeep c b i e = refl

abbrev all_plain : List ClassedByte → Bool
all_plain [] = true
all_plain (x ∷ xs) = is_plain x.class && all_plain xs

inner-run : (xs : List ClassedByte) (p : ScriptPoint) → is_inner p ≡ true → all_plain xs ≡ true → is_inner (points xs p) ≡ true
inner-run [] p i e = i
inner-run (x ∷ xs) p i e =
    let f = and_parts _ _ e in
    inner-run xs (script_next p.literals p.at x.class x.byte) (inner-next p.literals p.at x.class x.byte i f.0) f.1

run-plain : (c : ScriptClass) (bs : List ℕ) → is_plain c ≡ true → all_plain (classed_as c bs) ≡ true
run-plain c [] e = refl
run-plain c (b ∷ bs) e = and_from _ _ e (run-plain c bs e)

then-plain : (bs : List ℕ) (y : ClassedByte) → is_plain y.class ≡ true → all_plain (classed_as class.Letter bs ++ y ∷ []) ≡ true
then-plain [] y e = and_from _ _ e refl
then-plain (b ∷ bs) y e = then-plain bs y e

release-plain : (held : List ℕ) (b : ℕ) (xs : List ClassedByte) (after : List ℕ) → Release held b xs after → is_plain (class_of b) ≡ true → all_plain xs ≡ true
release-plain held b xs after AsLetters e = then-plain held (classed (class_of b) b) e
release-plain held b xs after (HoldsByte g) e = run-plain class.Letter held refl
release-plain held b xs after (HoldsAll g) e = refl
release-plain held b xs after (AsSpaces g) e = run-plain class.Space (held ++ b ∷ []) refl
release-plain held b xs after (AsLineEnds g) e = run-plain class.LineEnd (held ++ b ∷ []) refl

read-plain : (x : Bool) (held : List ℕ) (b : ℕ) → is_plain (class_of b) ≡ true → all_plain (read_at x held (class_of b) b) ≡ true
read-plain true held b e = release-plain held b (released held b) (held_after held b) (releases held b) e
read-plain false held b e = and_from _ _ e refl

pub inner-feed : (v : ScriptState) (b : ℕ) → is_inner (point_of v) ≡ true → is_plain (class_of b) ≡ true → is_inner (point_of (feed_script v b)) ≡ true
inner-feed v b i e = inner-run (read_at (tells_white_apart v.at) v.held (class_of b) b) (point_of v) i (read-plain (tells_white_apart v.at) v.held b e)

inner-words : {E : Type 0} (inside : ScriptEvent → E) (bs : List ℕ) (v : ScriptState) (t : List E) → is_inner (point_of v) ≡ true → list_all is_byte_of_word bs ≡ true
    → is_inner (point_of (read_in_page inside bs (page_script v t)).state) ≡ true
inner-words inside [] v t i e = i
inner-words inside (b ∷ bs) v t i e =
    let p = and_parts _ _ e in
    inner-words inside bs (feed_script v b) (told_inside inside (script_emits v b []) t) (inner-feed v b i (word-plain b p.0)) p.1

inner-rest : {E : Type 0} (inside : ScriptEvent → E) (bs : List ℕ) (v : ScriptState) (t : List E) → is_inner (point_of v) ≡ true → are_behind_less bs ≡ true
    → is_inner (point_of (read_in_page inside bs (page_script v t)).state) ≡ true
inner-rest inside [] v t i e = i
inner-rest inside (b ∷ bs) v t i e =
    let p = and_parts _ _ e in
    inner-words inside bs (feed_script v b) (told_inside inside (script_emits v b []) t) (inner-feed v b i (first-plain b p.0)) p.1

less-plain : is_plain (class_of 60) ≡ true
unfolding class_of
less-plain = refl

-- The end of a node.
some-cause : (x : Cause) → Some x ≡ None → ⊥
some-cause x e = cc

cut-refused : (fs : List ℕ) (a : At) (held : List ℕ) (t : Trail) → is_inner (point fs a) ≡ true → unless_in_character held (whole_cut_refusal fs a t) ≡ None → ⊥
cut-refused [] a held t i e = absurd (true≢false (sym i))
cut-refused (n ∷ fs) a [] t i e = some-cause _ e
cut-refused (n ∷ fs) a (h ∷ held) t i e = some-cause _ e

pub inner-cut : {E : Type 0} (inside : ScriptEvent → E) (bs : List ℕ) (v : ScriptState) (t : List E) → is_inner (point_of v) ≡ true → are_behind_less bs ≡ true
    → script_refuses_cut (read_in_page inside (60 ∷ bs) (page_script v t)).state ≡ None → ⊥
inner-cut inside bs v t i e n =
    let r = (read_in_page inside (60 ∷ bs) (page_script v t)).state in
    cut-refused r.literals r.at r.held r.trail (inner-rest inside bs (feed_script v 60) (told_inside inside (script_emits v 60 []) t) (inner-feed v 60 i less-plain) e) n

-- A whole word.
abbrev inner_words : List (List ℕ)
inner_words = codes "<!--" ∷ codes "<script" ∷ codes "</script" ∷ []

abbrev goes_on : List ℕ → List ℕ → Bool
goes_on done [] = false
goes_on done (r ∷ rest) = begins_markup true (done ++ r ∷ []) && (if is_empty rest then is_one_of inner_words (done ++ r ∷ []) else goes_on (done ++ r ∷ []) rest)

cause-after : (o : Option Cause) (p : Option Cause) → first_script_cause o p ≡ None → p ≡ None
cause-after None p e = e
cause-after (Some x) p e = absurd (some-cause x e)

inner-outside : (fs : List ℕ) (a : At) (v : ScriptState) (c : ScriptClass) (b : ℕ) → is_inner (point fs a) ≡ true → refusal_outside fs true v c b ≡ None → inner_markup_refusal true v b ≡ None
inner-outside [] a v c b i e = absurd (true≢false (sym i))
inner-outside (n ∷ fs) a v c b i e = e

asked-none : (x : Bool) (m l : ℕ) → (if x then cause HtmlInScript m l else None) ≡ None → x ≡ false
asked-none true m l e = absurd (some-cause _ e)
asked-none false m l e = refl

inner-none : (v : ScriptState) (b : ℕ) → is_inner (point_of v) ≡ true → script_refuses true v b ≡ None → is_one_of inner_words (markup_after true v.at v.trail.markup b) ≡ false
inner-none v b i n =
    asked-none (is_one_of inner_words (markup_after true v.at v.trail.markup b)) (length v.trail.markup) v.trail.literal
    (inner-outside v.literals v.at v (class_of b) b i (cause-after (split_refusal v (class_of b) b) (refusal_outside v.literals true v (class_of b) b) n))

inner-literals : (fs : List ℕ) (a : At) → is_inner (point fs a) ≡ true → not (is_empty fs) ≡ true
inner-literals [] a i = absurd (true≢false (sym i))
inner-literals (n ∷ fs) a i = refl

longer : (a : At) (m : List ℕ) (d : ℕ) (ds : List ℕ) (b : ℕ) → m ≡ d ∷ ds → begins_markup true (d ∷ (ds ++ to_ascii_lowercase b ∷ [])) ≡ true
    → markup_after true a m b ≡ d ∷ (ds ++ to_ascii_lowercase b ∷ [])
longer a m d ds b e f = rw (e, f) refl

at-end : (x : Bool) (one : Bool) (more : Bool) → (x && (if true then one else more)) ≡ true → one ≡ true
at-end true one more e = e
at-end false one more e = absurd (true≢false (sym e))

refused : (bs : List ℕ) (d : ℕ) (ds : List ℕ) (v : ScriptState) → is_inner (point_of v) ≡ true → v.trail.markup ≡ d ∷ ds → goes_on (d ∷ ds) (in_lower_case bs) ≡ true
    → list_all (λ b. is_plain (class_of b)) bs ≡ true → ScriptTakes v bs → ⊥
refused [] d ds v i m g p t = true≢false (sym g)
refused (b ∷ []) d ds v i m g p t =
    let f = and_parts (begins_markup true (d ∷ (ds ++ to_ascii_lowercase b ∷ []))) (is_one_of inner_words (d ∷ (ds ++ to_ascii_lowercase b ∷ []))) g in
    true≢false (sym f.1 ∙ sym (ap (is_one_of inner_words) (longer v.at v.trail.markup d ds b m f.0)) ∙ inner-none v b i t.0)
refused (b ∷ c ∷ bs) d ds v i m g p t =
    let f = and_parts (begins_markup true (d ∷ (ds ++ to_ascii_lowercase b ∷ []))) (goes_on (d ∷ (ds ++ to_ascii_lowercase b ∷ [])) (in_lower_case (c ∷ bs))) g in
    let q = and_parts (is_plain (class_of b)) (list_all (λ x. is_plain (class_of x)) (c ∷ bs)) p in
    let next = ap (λ (x : Bool). markup_after x v.at v.trail.markup b) (inner-literals v.literals v.at i) ∙ longer v.at v.trail.markup d ds b m f.0 in
    refused (c ∷ bs) d (ds ++ to_ascii_lowercase b ∷ []) (feed_script v b) (inner-feed v b i q.0) next f.1 q.1 t.1

-- The `<` begins it, whatever stood before.
words-lack : (c : ℕ) (m : List ℕ) → begins_markup true (c ∷ (m ++ 60 ∷ [])) ≡ false
words-lack c m =
    let bytes = c ∷ (m ++ 60 ∷ []) in
    let n = length bytes in
    or_from _ _ (differs 60 c m (take n (codes "<!--")) (behind-take 60 n (codes "<!--") refl))
    (or_from _ _ (differs 60 c m (take n (codes "</script")) (behind-take 60 n (codes "</script") refl))
    (or_from _ _ (differs 60 c m (take n (codes "<script")) (behind-take 60 n (codes "<script") refl))
    (or_from _ _ (differs 60 c m (take n (codes "#!")) (behind-take 60 n (codes "#!") refl))
    (or_from _ _ (differs 60 c m (take n (codes "-->")) (behind-take 60 n (codes "-->") refl)) refl))))

less-begins : (x : Bool) (m : List ℕ) → x ≡ true → next_markup true x m 60 ≡ 60 ∷ []
less-begins x [] e = rw e refl
less-begins x (c ∷ m) e = rw (words-lack c m, and_right (bytes_eq (c ∷ m) (codes "--")) false refl, e) refl

-- Letters in any case.
above-ascii : (b : ℕ) → nat_lt b 128 ≡ false → to_ascii_lowercase b ≡ b
above-ascii b e =
    let f : nat_lt b 65 ≡ false = grind (arith, nat_tests) in
    let g : nat_lt b 91 ≡ false = grind (arith, nat_tests) in
    rw (f, g) refl

case-same : (f : ℕ → Bool) (b : ℕ) → agree_below (λ c. f (to_ascii_lowercase c)) f 128 ≡ true → f (to_ascii_lowercase b) ≡ f b
case-same f b t = elim (cases_Bool (nat_lt b 128)) [
  | inl e ↦ agree_below_at (λ c. f (to_ascii_lowercase c)) f 128 b t (ltb-true b 128 e)
  | inr e ↦ ap f (above-ascii b e)
]

case-words : (bs : List ℕ) → list_all is_byte_of_word (in_lower_case bs) ≡ list_all is_byte_of_word bs
case-words [] = refl
case-words (b ∷ bs) = ap₂ ◌&&◌ (case-same is_byte_of_word b refl) (case-words bs)

abbrev may_be_first : ℕ → Bool
may_be_first b = b == 47 || is_byte_of_word b

case-behind : (bs : List ℕ) → are_behind_less (in_lower_case bs) ≡ are_behind_less bs
case-behind [] = refl
case-behind (b ∷ bs) = ap₂ ◌&&◌ (case-same may_be_first b refl) (case-words bs)

all-words-plain : (bs : List ℕ) → list_all is_byte_of_word bs ≡ true → list_all (λ b. is_plain (class_of b)) bs ≡ true
all-words-plain [] e = refl
all-words-plain (b ∷ bs) e = (let p = and_parts _ _ e in and_from _ _ (word-plain b p.0) (all-words-plain bs p.1))

behind-plain : (bs : List ℕ) → are_behind_less bs ≡ true → list_all (λ b. is_plain (class_of b)) bs ≡ true
behind-plain [] e = refl
behind-plain (b ∷ bs) e = (let p = and_parts _ _ e in and_from _ _ (first-plain b p.0) (all-words-plain bs p.1))

-- One of the words is a `<` and what may stand behind it.
pub record IsHiddenWord (bytes : List ℕ) : Type 0 where
  pub rest : List ℕ
  pub is : bytes ≡ 60 ∷ rest
  pub behind : are_behind_less rest ≡ true
  pub goes : goes_on (60 ∷ []) (in_lower_case rest) ≡ true

abbrev first_of : List ℕ → ℕ
first_of [] = 0
first_of (b ∷ bs) = b

abbrev rest_of : List ℕ → List ℕ
rest_of [] = []
rest_of (b ∷ bs) = bs

hidden-from : (b : ℕ) (bs ws : List ℕ) → in_lower_case (b ∷ bs) ≡ 60 ∷ ws → are_behind_less ws ≡ true → goes_on (60 ∷ []) ws ≡ true → IsHiddenWord (b ∷ bs)
hidden-from b bs ws e f g =
    let tail : in_lower_case bs ≡ ws = ap rest_of e in
    record {
      rest = bs;
      is = ap (λ (c : ℕ). c ∷ bs) (eqb-true b 60 (sym (case-same (λ c. c == 60) b refl) ∙ ap (λ (c : ℕ). c == 60) (ap first_of e)));
      behind = sym (case-behind bs) ∙ ap are_behind_less tail ∙ f;
      goes = ap (goes_on (60 ∷ [])) tail ∙ g;
    }

pub hidden-word : (bytes : List ℕ) → is_hidden_in_script bytes ≡ true → IsHiddenWord bytes
hidden-word [] e = absurd (true≢false (sym e))
hidden-word (b ∷ bs) e = elim (or_cases (bytes_eq (in_lower_case (b ∷ bs)) (codes "<script")) _ e) [
  | inl f ↦ hidden-from b bs (codes "script") ((bytes_eq-Decides (in_lower_case (b ∷ bs)) (codes "<script")).0 f) refl refl
  | inr f ↦ elim (or_cases (bytes_eq (in_lower_case (b ∷ bs)) (codes "</script")) _ f) [
    | inl g ↦ hidden-from b bs (codes "/script") ((bytes_eq-Decides (in_lower_case (b ∷ bs)) (codes "</script")).0 g) refl refl
    | inr g ↦ elim (or_cases (bytes_eq (in_lower_case (b ∷ bs)) (codes "<!--")) _ g) [
      | inl h ↦ hidden-from b bs (codes "!--") ((bytes_eq-Decides (in_lower_case (b ∷ bs)) (codes "<!--")).0 h) refl refl
      | inr h ↦ absurd (true≢false (sym h))
    ]
  ]
]

pub inner-word : (v : ScriptState) (bytes : List ℕ) → IsHiddenWord bytes → is_inner (point_of v) ≡ true → is_markup_code true v.at ≡ true → ScriptTakes v bytes → ⊥
inner-word v bytes w i m t =
    let s = subst (ScriptTakes v) w.is t in
    let markup = ap (λ (x : Bool). markup_after x v.at v.trail.markup 60) (inner-literals v.literals v.at i) ∙ less-begins (is_markup_code true v.at) v.trail.markup m in
    refused w.rest 60 [] (feed_script v 60) (inner-feed v 60 i less-plain) markup w.goes (behind-plain w.rest w.behind) s.1
