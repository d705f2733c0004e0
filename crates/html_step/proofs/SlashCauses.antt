-- What is refused of a slash that is one thing on some paths and another on others: it is the byte before, and a slash has been read there.
use Rattle.std.proofs.Common.{◌≡◌, ℕ, zero, suc, nat_lt, Bool, true, false, List, [], ◌∷◌, ◌++◌, encode_utf8, Option, Some, None, if◌then◌else◌, refl, sym, subst}
use Rattle.js_lexer.specs.Classes as script
use Rattle.js_lexer.specs.Feeding.{feed_script, points, read_at, tells_white_apart}
use Rattle.js_lexer.specs.Refusals.{BadString, Cause, HtmlInScript, JSTemplate, SlashAmbig, SplitToken, end_refusal_at, first_script_cause, line_refusal, markup_refusal, refusal_outside, slash_refusal, unless_taken}
use Rattle.js_lexer.specs.States.{At, Code, Word, Number, Pluses, Minuses, Slash, LineComment, BlockComment, InString, InRegexp, InTemplate, TooDeep, ScriptEscape, ScriptPoint, Trail, point}
use Rattle.js_lexer.specs.Steps.{brace_closes, is_number, is_taken_in_script, is_taken_in_string, is_word, literal_ends, literal_opens, next_block, next_code, next_line, next_minuses, next_pluses, next_regexp, next_script_number, next_script_string, next_script_word, next_template, script_next, sense_if_odd}
use Rattle.js_lexer.specs.WhiteSpace.{BeginsWhite, ClassedByte, IsOther, IsSeparator, IsSpace, PastAscii, classed_as, past_ascii, released, released_alone, released_by, released_past_ascii}
use Rattle.js_lexer.specs.Words.{sense_after}
use Rattle.js_lexer.specs.declared.class.ScriptClass.{ScriptClass}
use Rattle.js_lexer.specs.declared.class.ScriptClass.TheVariants as class
use Rattle.js_lexer.specs.declared.sense.Sense.{Sense}
use Rattle.js_lexer.specs.declared.sense.Sense.TheVariants as sense
use Rattle.place_core.specs.declared.js.Js.{Js}
use Rattle.place_core.specs.declared.js.Js.TheVariants as js
use Rattle.place_core.specs.place.Errors.{at_value_end, is_told_at_node_end}
use Rattle.js_step.specs.KeptWords.{kept_at}
use Rattle.js_step.specs.ScriptScans.{ScriptScan, script_at_in, script_one_sense, script_scan_end_error, script_scan_error, script_scan_start, script_senses_differ, script_shared, script_slash_error, script_two_senses}
use Rattle.html_scan.specs.Scans.{script_fed_byte}

abbrev pub IsSlash : At → Type 0
IsSlash (Slash s) = Unit {0}
IsSlash a = ⊥

abbrev SlashSays : At → Option Cause → Type 0
SlashSays a None = Unit {0}
SlashSays a (Some e) = e.refusal ≡ SlashAmbig → (e.back ≡ 1) × IsSlash a

first-says : (a : At) (o p : Option Cause) → SlashSays a o → SlashSays a p → SlashSays a (first_script_cause o p)
first-says a None p h k = k
first-says a (Some e) p h k = h

split-no : SplitToken ≡ SlashAmbig → ⊥
split-no i = cc

cut-no : BadString ≡ SlashAmbig → ⊥
cut-no i = cc

markup-no : HtmlInScript ≡ SlashAmbig → ⊥
markup-no i = cc

nests-no : JSTemplate ≡ SlashAmbig → ⊥
nests-no i = cc

if-says : (a : At) (x : Bool) (e : Cause) → (e.refusal ≡ SlashAmbig → ⊥) → SlashSays a (if x then Some e else None)
if-says a true e h = λ i. absurd (h i)
if-says a false e h = tt

two-says : (a : At) (x : Bool) (fs : List ℕ) (c : ScriptClass) → SlashSays a (script_two_senses x fs a c)
two-says (Slash s) true [] class.Solidus = tt
two-says (Slash s) true [] class.Asterisk = tt
two-says (Slash s) true [] c = λ i. (refl, tt)
two-says _ true [] c = tt
two-says a true (n ∷ fs) c = tt
two-says a false fs c = tt

slash-says : (a : At) (c : ScriptClass) → SlashSays a (slash_refusal a c)
slash-says (Slash sense.Brace) class.Solidus = tt
slash-says (Slash sense.Brace) class.Asterisk = tt
slash-says (Slash sense.Brace) c = λ i. (refl, tt)
slash-says (Slash sense.Re) c = tt
slash-says (Slash sense.Div) c = tt
slash-says _ c = tt

taken-says : (a : At) (x : Bool) (c : ScriptClass) → SlashSays a (unless_taken x c)
taken-says a false class.LineEnd = λ i. absurd (cut-no i)
taken-says a false c = tt
taken-says a true c = tt

line-says : (x a : At) (c : ScriptClass) (b : ℕ) → SlashSays x (line_refusal a c b)
line-says x (InString q e) c b = taken-says x (is_taken_in_string e b) c
line-says x (InRegexp k e) c b = taken-says x false c
line-says x (Slash sense.Re) c b = taken-says x false c
line-says x (Slash sense.Div) c b = tt
line-says x (Slash sense.Brace) c b = tt
line-says x _ c b = tt

in-sense : (s : Sense) (a : At) → IsSlash (script_at_in s a) → IsSlash a
in-sense s (Slash t) h = tt
in-sense s _ h = h

same-says : (s : Sense) (a : At) (o : Option Cause) → SlashSays (script_at_in s a) o → SlashSays a o
same-says s a None h = tt
same-says s a (Some e) h = λ i. let p = h i in (p.0, in-sense s a p.1)

outside-says : (n : ScriptScan) (fs : List ℕ) (c : ScriptClass) (b : ℕ) → SlashSays (script_shared n).at (refusal_outside fs false (script_shared n) c b)
outside-says n [] c b =
    let s = script_shared n in
    first-says s.at (slash_refusal s.at c) (first_script_cause (line_refusal s.at c b) (markup_refusal s b)) (slash-says s.at c)
    (first-says s.at (line_refusal s.at c b) (markup_refusal s b) (line-says s.at s.at c b) (if-says s.at _ _ markup-no))
outside-says n (f ∷ fs) c b = tt

byte-says : (n : ScriptScan) (b : ℕ) → SlashSays n.state.at (script_scan_error false n b)
byte-says n b =
    let c = script.class_of b in
    let rest = refusal_outside n.state.literals false (script_shared n) c b in
    let two = script_two_senses (script_senses_differ n.senses) n.state.literals n.state.at c in
    first-says n.state.at _ (first_script_cause two rest) (if-says n.state.at _ _ split-no)
    (first-says n.state.at two rest (two-says n.state.at (script_senses_differ n.senses) n.state.literals c)
    (same-says (script_one_sense n.senses) n.state.at rest (outside-says n n.state.literals c b)))

-- at a byte
pub slash-byte : (n : ScriptScan) (b : ℕ) (e : Cause) → script_scan_error false n b ≡ Some e → e.refusal ≡ SlashAmbig → (e.back ≡ 1) × IsSlash n.state.at
slash-byte n b e h i = (subst (SlashSays n.state.at) h (byte-says n b)) i

-- at the end of a value
ends-says : (fs : List ℕ) (a : At) (t : Trail) → SlashSays a (end_refusal_at fs a t)
ends-says [] (Slash sense.Brace) t = λ i. (refl, tt)
ends-says [] (Slash sense.Re) t = tt
ends-says [] (Slash sense.Div) t = tt
ends-says [] TooDeep t = λ i. absurd (nests-no i)
ends-says [] _ t = tt
ends-says (f ∷ fs) TooDeep t = λ i. absurd (nests-no i)
ends-says (f ∷ fs) _ t = tt

held-says : (x : Bool) (fs : List ℕ) (a : At) → SlashSays a (script_slash_error x fs a)
held-says true [] (Slash s) = λ i. (refl, tt)
held-says true [] _ = tt
held-says true (f ∷ fs) a = tt
held-says false fs a = tt

end-says : (n : ScriptScan) → SlashSays n.state.at (script_scan_end_error n)
end-says n =
    let s = script_shared n in
    first-says n.state.at (script_slash_error (script_senses_differ n.senses) n.state.literals n.state.at) (end_refusal_at s.literals s.at s.trail)
    (held-says (script_senses_differ n.senses) n.state.literals n.state.at)
    (same-says (script_one_sense n.senses) n.state.at (end_refusal_at s.literals s.at s.trail) (ends-says s.literals s.at s.trail))

told-says : (a : At) (x : Bool) (e : Cause) → SlashSays a (Some e) → SlashSays a (if x then None else Some e)
told-says a true e h = tt
told-says a false e h = h

value-says : (a : At) (o : Option Cause) → SlashSays a o → SlashSays a (at_value_end o)
value-says a None h = tt
value-says a (Some e) h = told-says a (is_told_at_node_end e.refusal) e h

pub slash-end : (n : ScriptScan) (e : Cause) → at_value_end (script_scan_end_error n) ≡ Some e → e.refusal ≡ SlashAmbig → (e.back ≡ 1) × IsSlash n.state.at
slash-end n e h i = (subst (SlashSays n.state.at) h (value-says n.state.at (script_scan_end_error n) (end-says n))) i

-- A slash is read of its byte only.
abbrev NotSolidus : ScriptClass → Type 0
NotSolidus class.Solidus = ⊥
NotSolidus c = Unit {0}

abbrev NoSolidus : List ClassedByte → Type 0
NoSolidus [] = Unit {0}
NoSolidus (x ∷ xs) = NotSolidus x.class × NoSolidus xs

opens-no : (x : Bool) (fs : List ℕ) → IsSlash (literal_opens x fs).at → ⊥
opens-no true fs h = h
opens-no false fs h = h

closes-no : (fs : List ℕ) → IsSlash (brace_closes fs).at → ⊥
closes-no [] h = h
closes-no (zero ∷ fs) h = h
closes-no (suc n ∷ fs) h = h

ends-no : (fs : List ℕ) → IsSlash (literal_ends fs).at → ⊥
ends-no [] h = h
ends-no (n ∷ fs) h = h

code-no : (s : Sense) (c : ScriptClass) (b : ℕ) (fs : List ℕ) → NotSolidus c → IsSlash (next_code s c b fs).at → ⊥
code-no s class.Solidus b fs k h = k
code-no s class.GraveAccent b fs k h = opens-no _ fs h
code-no s class.CloseBrace b fs k h = closes-no fs h
code-no s _ b fs k h = h

word-no : (x : Bool) (w : List ℕ) (c : ScriptClass) (b : ℕ) (fs : List ℕ) → NotSolidus c → IsSlash (next_script_word x w c b fs).at → ⊥
word-no true w c b fs k h = h
word-no false w c b fs k h = code-no (sense_after w) c b fs k h

number-no : (x : Bool) (c : ScriptClass) (b : ℕ) (fs : List ℕ) → NotSolidus c → IsSlash (next_script_number x c b fs).at → ⊥
number-no true c b fs k h = h
number-no false c b fs k h = code-no sense.Div c b fs k h

pluses-no : (odd : Bool) (c : ScriptClass) (b : ℕ) (fs : List ℕ) → NotSolidus c → IsSlash (next_pluses odd c b fs).at → ⊥
pluses-no odd class.Plus b fs k h = h
pluses-no odd c b fs k h = code-no (sense_if_odd odd) c b fs k h

minuses-no : (odd : Bool) (c : ScriptClass) (b : ℕ) (fs : List ℕ) → NotSolidus c → IsSlash (next_minuses odd c b fs).at → ⊥
minuses-no odd class.Minus b fs k h = h
minuses-no odd c b fs k h = code-no (sense_if_odd odd) c b fs k h

line-no : (s : Sense) (c : ScriptClass) (fs : List ℕ) → IsSlash (next_line s c fs).at → ⊥
line-no s class.LineEnd fs h = h
line-no s _ fs h = h

block-no : (s : Sense) (star : Bool) (c : ScriptClass) (fs : List ℕ) → IsSlash (next_block s star c fs).at → ⊥
block-no s true class.Solidus fs h = h
block-no s false class.Solidus fs h = h
block-no s true class.Asterisk fs h = h
block-no s false class.Asterisk fs h = h
block-no s true _ fs h = h
block-no s false _ fs h = h

string-no : (x q : Bool) (e : ScriptEscape) (c : ScriptClass) (b : ℕ) (fs : List ℕ) → IsSlash (next_script_string x q e c b fs).at → ⊥
string-no true q e c b fs h = h
string-no false true e class.QuotationMark b fs h = h
string-no false false e class.Apostrophe b fs h = h
string-no false true e class.LineEnd b fs h = h
string-no false false e class.LineEnd b fs h = h
string-no false true e _ b fs h = h
string-no false false e _ b fs h = h

regexp-no : (x k : Bool) (e : ScriptEscape) (c : ScriptClass) (b : ℕ) (fs : List ℕ) → IsSlash (next_regexp x k e c b fs).at → ⊥
regexp-no true k e class.LineEnd b fs h = h
regexp-no true k e _ b fs h = h
regexp-no false true e class.LineEnd b fs h = h
regexp-no false false e class.LineEnd b fs h = h
regexp-no false false e class.Solidus b fs h = h
regexp-no false true e class.OpenBracket b fs h = h
regexp-no false false e class.OpenBracket b fs h = h
regexp-no false true e class.CloseBracket b fs h = h
regexp-no false false e class.CloseBracket b fs h = h
regexp-no false true e _ b fs h = h
regexp-no false false e _ b fs h = h

template-no : (x : Bool) (e : ScriptEscape) (d : Bool) (c : ScriptClass) (b : ℕ) (fs : List ℕ) → IsSlash (next_template x e d c b fs).at → ⊥
template-no true e d c b fs h = h
template-no false e true class.GraveAccent b fs h = ends-no fs h
template-no false e false class.GraveAccent b fs h = ends-no fs h
template-no false e true class.OpenBrace b fs h = h
template-no false e false class.OpenBrace b fs h = h
template-no false e true class.Dollar b fs h = h
template-no false e false class.Dollar b fs h = h
template-no false e true _ b fs h = h
template-no false e false _ b fs h = h

next-no : (fs : List ℕ) (a : At) (c : ScriptClass) (b : ℕ) → NotSolidus c → (IsSlash a → ⊥) → IsSlash (script_next fs a c b).at → ⊥
next-no fs (Code s) c b k i h = code-no s c b fs k h
next-no fs (Word w) c b k i h = word-no (is_word c) w c b fs k h
next-no fs Number c b k i h = number-no (is_number c) c b fs k h
next-no fs (Pluses odd) c b k i h = pluses-no odd c b fs k h
next-no fs (Minuses odd) c b k i h = minuses-no odd c b fs k h
next-no fs (Slash s) c b k i h = i tt
next-no fs (LineComment s) c b k i h = line-no s c fs h
next-no fs (BlockComment s star) c b k i h = block-no s star c fs h
next-no fs (InString q e) c b k i h = string-no (is_taken_in_string e b) q e c b fs h
next-no fs (InRegexp r e) c b k i h = regexp-no (is_taken_in_script e) r e c b fs h
next-no fs (InTemplate e d) c b k i h = template-no (is_taken_in_script e) e d c b fs h
next-no fs TooDeep c b k i h = h

points-no : (xs : List ClassedByte) (p : ScriptPoint) → NoSolidus xs → (IsSlash p.at → ⊥) → IsSlash (points xs p).at → ⊥
points-no [] p k i h = i h
points-no (x ∷ xs) p k i h =
    points-no xs (script_next p.literals p.at x.class x.byte) k.1 (λ j. next-no p.literals p.at x.class x.byte k.0 i j) h

-- the bytes of U+FFFD
append-no : (xs ys : List ClassedByte) → NoSolidus xs → NoSolidus ys → NoSolidus (xs ++ ys)
append-no [] ys h k = k
append-no (x ∷ xs) ys h k = (h.0, append-no xs ys h.1 k)

classed-no : (c : ScriptClass) (bs : List ℕ) → NotSolidus c → NoSolidus (classed_as c bs)
classed-no c [] h = tt
classed-no c (b ∷ bs) h = (h, classed-no c bs h)

alone-no : (p : PastAscii) (b : ℕ) → NotSolidus (script.class_of b) → NoSolidus (released_alone p b)
alone-no BeginsWhite b h = tt
alone-no IsSpace b h = (h, tt)
alone-no IsSeparator b h = (h, tt)
alone-no IsOther b h = (h, tt)

past-no : (p : PastAscii) (held : List ℕ) (b : ℕ) → NotSolidus (script.class_of b) → NoSolidus (released_past_ascii p held b)
past-no IsSpace held b h = classed-no class.Space (held ++ b ∷ []) tt
past-no IsSeparator held b h = classed-no class.LineEnd (held ++ b ∷ []) tt
past-no BeginsWhite held b h = tt
past-no IsOther held b h = append-no (classed_as class.Letter held) (released_alone (past_ascii (b ∷ [])) b) (classed-no class.Letter held tt) (alone-no (past_ascii (b ∷ [])) b h)

abbrev pub IsLate : ℕ → Type 0
IsLate b = (nat_lt b 128 ≡ false) × NotSolidus (script.class_of b)

read-no : (w : Bool) (held : List ℕ) (b : ℕ) → IsLate b → NoSolidus (read_at w held (script.class_of b) b)
unfolding released
read-no true held b h = subst (λ (x : Bool). NoSolidus (released_by x held b)) (sym h.0) (past-no (past_ascii (held ++ b ∷ [])) held b h.1)
read-no false held b h = (h.1, tt)

at-in : (s : Sense) (a : At) → (IsSlash a → ⊥) → IsSlash (script_at_in s a) → ⊥
at-in s a i h = i (in-sense s a h)

at-kept : (a : At) → IsSlash (kept_at a) → IsSlash a
at-kept (Slash s) h = tt
at-kept _ h = h

pub late-no : (n : ScriptScan) (b : ℕ) → IsLate b → (IsSlash n.state.at → ⊥) → IsSlash (script_fed_byte n b).state.at → ⊥
late-no n b l i h =
    let s = script_shared n in
    points-no (read_at (tells_white_apart s.at) s.held (script.class_of b) b) (point s.literals s.at) (read-no (tells_white_apart s.at) s.held b l)
    (at-in (script_one_sense n.senses) n.state.at i) (at-kept (feed_script s b).at h)

pub late-bytes : (encode_utf8 65533 ≡ 239 ∷ 191 ∷ 189 ∷ []) × IsLate 239 × IsLate 191 × IsLate 189
unfolding script.class_of lib.Utf8.encode
late-bytes = (refl, (refl, tt), (refl, tt), (refl, tt))

-- Where a text begins none has been read.
pub starts-no : (c : Js) → IsSlash (script_scan_start c).state.at → ⊥
starts-no (js.Code s x) h = h
starts-no js.Dq h = h
starts-no js.Sq h = h
starts-no (js.Regexp x) h = h
starts-no (js.Line s) h = h
starts-no (js.Block s x) h = h
