-- A path within a text stays so, byte by byte.
use Rattle.std.proofs.Common.{◌≡◌, ◌∙◌, inl, inr, ℕ, zero, suc, ◌==◌, ◌≤◌, ◌<◌, ◌||◌, ◌&&◌, nat_eq, Bool, true, false, bytes_eq, codes, List, [], ◌∷◌, ◌++◌, Option, Some, None, length, if◌then◌else◌, refl, sym, ap, subst}
use Rattle.std.proofs.lemmas.Bool.{eqb-true, cases_lt, lt-ltb, le-ltb, and_parts, or_cases, or_from}
use Rattle.std.proofs.lemmas.Slice.Eq.{bytes_eq-Decides}
use Rattle.std.specs.Char.{to_ascii_lowercase}
use Rattle.std.specs.List.{list_any, starts_with}
use Rattle.js_lexer.specs.Classes.{class_of}
use Rattle.js_lexer.specs.Feeding.{tells_white_apart, read_at, held_at, points, feed_script}
use Rattle.js_lexer.specs.Refusals.{Cause, cause, HtmlInScript, first_script_cause, refusal_outside, slash_refusal, line_refusal, is_one_of, markup_refusal}
use Rattle.js_lexer.specs.States.{ScriptEscape, NoEscape, At, Code, Word, Number, Pluses, Minuses, Slash, LineComment, BlockComment, InString, InRegexp, InTemplate, TooDeep, NoLineYet, ScriptPoint, point, ScriptState}
use Rattle.js_lexer.specs.Steps.{is_word, is_number, is_taken_in_script, is_taken_in_string, sense_if_odd, next_escape, next_code, literal_opens, brace_closes, next_script_string, next_regexp, next_template, next_slash, next_block, next_script_word, next_script_number, next_pluses, next_minuses, script_next}
use Rattle.js_lexer.specs.Trails.{is_empty, is_markup_code, begins_markup, begun_markup, longer_markup, next_markup, markup_after, next_unfinished, escape_after, brace_after, bracket_after, literal_after}
use Rattle.js_lexer.specs.WhiteSpace.{PastAscii, IsSpace, IsSeparator, BeginsWhite, IsOther, past_ascii, ClassedByte, classed, classed_as, released_alone, released_past_ascii, released, held_after}
use Rattle.js_lexer.specs.Words.{sense_after}
use Rattle.js_lexer.specs.declared.class.ScriptClass.{ScriptClass}
use Rattle.js_lexer.specs.declared.class.ScriptClass.TheVariants as class
use Rattle.js_lexer.specs.declared.sense.Sense.{Sense}
use Rattle.js_lexer.specs.declared.sense.Sense.TheVariants as sense
use Rattle.js_step.specs.ScriptPaths.{script_markup_fits, script_escape_fits, script_trail_fits, is_script_within}
use Rattle.js_step.proofs.KeptWordSteps.{points-append}
use Rattle.js_step.proofs.ScriptBytes.{Tests, tests-of, class-high, in_script, script-letter, not-return}
use Rattle.js_step.proofs.ScriptEscapes.{escape-goes}

no : true ≡ false → ⊥
no e = cc

-- A state behind a byte, by the point to which it has led: what is held back and the bytes of markup, and what the trail had before.
abbrev pub behind : ScriptPoint → (held markup escape : List ℕ) → (brace bracket literal b : ℕ) → ScriptState
behind p h m e n k l b = record {
  literals = p.literals;
  at = p.at;
  held = h;
  trail = record {
    fresh = false;
    markup = m;
    escape = escape_after p.at e b;
    brace = brace_after p.at e n b;
    bracket = bracket_after p.at k;
    literal = literal_after p.literals l;
    lines = NoLineYet [];
  };
}

abbrev pub Within : ScriptPoint → (held markup escape : List ℕ) → (brace bracket literal b : ℕ) → Type 0
Within p h m e n k l b = is_script_within (behind p h m e n k l b) ≡ true

or-true : (x : Bool) → (x || true) ≡ true
or-true true = refl
or-true false = refl

abbrev refused : List ℕ → Bool
refused m = is_one_of (codes "<!--" ∷ codes "-->" ∷ codes "#!" ∷ []) m

-- no bytes of markup fit everywhere but in template literals
fits-code : (s : Sense) → script_markup_fits (Code s) [] ≡ true
fits-code sense.Re = refl
fits-code sense.Div = refl
fits-code sense.Brace = refl

fits-slash : (s : Sense) → script_markup_fits (Slash s) [] ≡ true
fits-slash sense.Re = refl
fits-slash sense.Div = refl
fits-slash sense.Brace = refl

-- Code, outside of literals, by the bytes of markup before the byte. A byte of ASCII holds nothing back.
abbrev grown : (m : List ℕ) → ℕ → List ℕ
grown m b = next_markup false true m (to_ascii_lowercase b)

clear-goes : (s : Sense) (c : ScriptClass) (b : ℕ) → Tests c b → (n k l : ℕ) → Within (next_code s c b []) [] (grown [] b) [] n k l b
clear-goes s class.Space b t n k l = simp (t.less, t.hash, t.minus) (fits-code s)
clear-goes s class.LineEnd b t n k l = simp (t.less, t.hash, t.minus) (fits-code s)
clear-goes s class.Solidus b t n k l = simp (t.less, t.hash, t.minus) (fits-slash s)
clear-goes s class.GraveAccent b t n k l = refl
clear-goes s _ b t n k l = simp (t.less, t.hash, t.minus, t.backslash)

less-goes : (c : ScriptClass) (b : ℕ) → Tests c b → (n k l : ℕ) → Within (next_code sense.Re c b []) [] (grown (codes "<") b) [] n k l b
less-goes class.GraveAccent b t n k l = refl
less-goes _ b t n k l = simp (t.less, t.hash, t.minus, t.bang, t.solidus, t.backslash)

less-bang-goes : (c : ScriptClass) (b : ℕ) → Tests c b → refused (grown (codes "<!") b) ≡ false → (n k l : ℕ)
    → Within (next_code sense.Re c b []) [] (grown (codes "<!") b) [] n k l b
less-bang-goes class.GraveAccent b t r n k l = refl
less-bang-goes _ b t r n k l = simp (t.less, t.hash, t.minus, t.backslash)

hash-refused : (b : ℕ) → Tests class.ExclamationMark b → refused (grown (codes "#") b) ≡ true
hash-refused b t = simp (t.less, t.hash, t.minus, t.bang)

hash-goes : (c : ScriptClass) (b : ℕ) → Tests c b → refused (grown (codes "#") b) ≡ false → (n k l : ℕ) → Within (next_code sense.Div c b []) [] (grown (codes "#") b) [] n k l b
hash-goes class.ExclamationMark b t r n k l = absurd (no (sym (hash-refused b t) ∙ r))
hash-goes class.GraveAccent b t r n k l = refl
hash-goes _ b t r n k l = simp (t.less, t.hash, t.minus, t.bang, t.backslash)

minus-goes : (odd : Bool) (c : ScriptClass) (b : ℕ) → Tests c b → (n k l : ℕ) → Within (next_minuses odd c b []) [] (grown (codes "-") b) [] n k l b
minus-goes odd class.Space b t n k l = simp (t.less, t.hash, t.minus) (fits-code (sense_if_odd odd))
minus-goes odd class.LineEnd b t n k l = simp (t.less, t.hash, t.minus) (fits-code (sense_if_odd odd))
minus-goes odd class.Solidus b t n k l = simp (t.less, t.hash, t.minus) (fits-slash (sense_if_odd odd))
minus-goes odd class.GraveAccent b t n k l = refl
minus-goes odd _ b t n k l = simp (t.less, t.hash, t.minus, t.backslash)

greater-refused : (b : ℕ) → Tests class.GreaterThan b → refused (grown (codes "--") b) ≡ true
greater-refused b t = simp (t.less, t.hash, t.minus, t.greater)

minuses-goes : (odd : Bool) (c : ScriptClass) (b : ℕ) → Tests c b → refused (grown (codes "--") b) ≡ false → (n k l : ℕ)
    → Within (next_minuses odd c b []) [] (grown (codes "--") b) [] n k l b
minuses-goes odd class.GreaterThan b t r n k l = absurd (no (sym (greater-refused b t) ∙ r))
minuses-goes odd class.Space b t r n k l = simp (t.less, t.hash, t.minus, t.greater) (fits-code (sense_if_odd odd))
minuses-goes odd class.LineEnd b t r n k l = simp (t.less, t.hash, t.minus, t.greater) (fits-code (sense_if_odd odd))
minuses-goes odd class.Solidus b t r n k l = simp (t.less, t.hash, t.minus, t.greater) (fits-slash (sense_if_odd odd))
minuses-goes odd class.GraveAccent b t r n k l = refl
minuses-goes odd _ b t r n k l = simp (t.less, t.hash, t.minus, t.greater, t.backslash)

opened-refused : (b : ℕ) → Tests class.Minus b → refused (grown (codes "<!-") b) ≡ true
opened-refused b t = simp (t.less, t.hash, t.minus)

opened-goes : (odd : Bool) (c : ScriptClass) (b : ℕ) → Tests c b → refused (grown (codes "<!-") b) ≡ false → (n k l : ℕ)
    → Within (next_minuses odd c b []) [] (grown (codes "<!-") b) [] n k l b
opened-goes odd class.Minus b t r n k l = absurd (no (sym (opened-refused b t) ∙ r))
opened-goes odd class.Space b t r n k l = simp (t.less, t.hash, t.minus) (fits-code (sense_if_odd odd))
opened-goes odd class.LineEnd b t r n k l = simp (t.less, t.hash, t.minus) (fits-code (sense_if_odd odd))
opened-goes odd class.Solidus b t r n k l = simp (t.less, t.hash, t.minus) (fits-slash (sense_if_odd odd))
opened-goes odd class.GraveAccent b t r n k l = refl
opened-goes odd _ b t r n k l = simp (t.less, t.hash, t.minus, t.backslash)

word-goes : (w : List ℕ) (c : ScriptClass) (b : ℕ) → Tests c b → (n k l : ℕ) → Within (next_script_word (is_word c) w c b []) [] (grown [] b) [] n k l b
word-goes w class.Letter b t n k l = simp (t.less, t.hash, t.minus)
word-goes w class.Digit b t n k l = simp (t.less, t.hash, t.minus)
word-goes w class.Dollar b t n k l = simp (t.less, t.hash, t.minus)
word-goes w class.Backslash b t n k l = simp (t.less, t.hash, t.minus)
word-goes w c b t n k l = clear-goes (sense_after w) c b t n k l

number-goes : (c : ScriptClass) (b : ℕ) → Tests c b → (n k l : ℕ) → Within (next_script_number (is_number c) c b []) [] (grown [] b) [] n k l b
number-goes class.Letter b t n k l = simp (t.less, t.hash, t.minus)
number-goes class.Digit b t n k l = simp (t.less, t.hash, t.minus)
number-goes class.Dollar b t n k l = simp (t.less, t.hash, t.minus)
number-goes class.Backslash b t n k l = simp (t.less, t.hash, t.minus)
number-goes class.Dot b t n k l = simp (t.less, t.hash, t.minus)
number-goes c b t n k l = clear-goes sense.Div c b t n k l

pluses-goes : (odd : Bool) (c : ScriptClass) (b : ℕ) → Tests c b → (n k l : ℕ) → Within (next_pluses odd c b []) [] (grown [] b) [] n k l b
pluses-goes odd class.Plus b t n k l = simp (t.less, t.hash, t.minus)
pluses-goes odd c b t n k l = clear-goes (sense_if_odd odd) c b t n k l

run-goes : (odd : Bool) (c : ScriptClass) (b : ℕ) → Tests c b → (n k l : ℕ) → Within (next_minuses odd c b []) [] (grown [] b) [] n k l b
run-goes odd class.Minus b t n k l = simp (t.less, t.hash, t.minus)
run-goes odd c b t n k l = clear-goes (sense_if_odd odd) c b t n k l

div-goes : (c : ScriptClass) (b : ℕ) → Tests c b → (n k l : ℕ) → Within (next_slash sense.Div c b []) [] (grown [] b) [] n k l b
div-goes class.Solidus b t n k l = simp (t.less, t.hash, t.minus)
div-goes class.Asterisk b t n k l = simp (t.less, t.hash, t.minus)
div-goes c b t n k l = clear-goes sense.Re c b t n k l

brace-goes : (c : ScriptClass) (b : ℕ) → Tests c b → (n k l : ℕ) → Within (next_slash sense.Brace c b []) [] (grown [] b) [] n k l b
brace-goes class.Solidus b t n k l = simp (t.less, t.hash, t.minus)
brace-goes class.Asterisk b t n k l = simp (t.less, t.hash, t.minus)
brace-goes c b t n k l = clear-goes sense.Re c b t n k l

line-goes : (s : Sense) (c : ScriptClass) (b : ℕ) (n k l : ℕ) → Within (script_next [] (LineComment s) c b) [] [] [] n k l b
line-goes s class.LineEnd b n k l = fits-code s
line-goes s _ b n k l = refl

-- where nothing is open before the byte
abbrev marks : At → (m : List ℕ) → ℕ → List ℕ
marks a m b = markup_after false a m b

white-begun : (a : At) → tells_white_apart a ≡ true → (c : ScriptClass) (b : ℕ) → Tests c b → (n k l : ℕ) → Within (script_next [] a c b) [] (marks a [] b) [] n k l b
white-begun (Code s) w c b t n k l = clear-goes s c b t n k l
white-begun (Word x) w c b t n k l = word-goes x c b t n k l
white-begun Number w c b t n k l = number-goes c b t n k l
white-begun (Pluses odd) w c b t n k l = pluses-goes odd c b t n k l
white-begun (Minuses odd) w c b t n k l = run-goes odd c b t n k l
white-begun (Slash sense.Re) w c b t n k l = absurd (no (sym w))
white-begun (Slash sense.Div) w c b t n k l = div-goes c b t n k l
white-begun (Slash sense.Brace) w c b t n k l = brace-goes c b t n k l
white-begun (LineComment s) w c b t n k l = line-goes s c b n k l
white-begun (BlockComment s star) w c b t n k l = absurd (no (sym w))
white-begun (InString q e) w c b t n k l = absurd (no (sym w))
white-begun (InRegexp x e) w c b t n k l = absurd (no (sym w))
white-begun (InTemplate e d) w c b t n k l = absurd (no (sym w))
white-begun TooDeep w c b t n k l = absurd (no (sym w))

-- words among words
same-bytes : (bytes word : List ℕ) → bytes_eq bytes word ≡ true → bytes ≡ word
same-bytes bytes word h = (bytes_eq-Decides bytes word).0 h

pub among : (P : List ℕ → Type 0) (w : List ℕ) (ws : List (List ℕ)) (m : List ℕ) → is_one_of (w ∷ ws) m ≡ true → P w → (is_one_of ws m ≡ true → P m) → P m
among P w ws m h p q = elim (or_cases (bytes_eq m w) (is_one_of ws m) h) [ inl e ↦ subst P (sym (same-bytes m w e)) p | inr e ↦ q e ]

empty-is : (m : List ℕ) → is_empty m ≡ true → m ≡ []
empty-is [] h = refl
empty-is (x ∷ m) h = absurd (no (sym h))

-- what holds of all bytes of markup that fit a lexeme in which white space is told apart
record Marks (P : At → List ℕ → Type 0) : Type 0 where
  begun : (a : At) → tells_white_apart a ≡ true → P a []
  less : P (Code sense.Re) (codes "<")
  less_bang : P (Code sense.Re) (codes "<!")
  hash : P (Code sense.Div) (codes "#")
  minus : (odd : Bool) → P (Minuses odd) (codes "-")
  minuses : (odd : Bool) → P (Minuses odd) (codes "--")
  opened : (odd : Bool) → P (Minuses odd) (codes "<!-")

pub none-among : (m : List ℕ) (A : Type 0) → is_one_of [] m ≡ true → A
none-among m A h = absurd (no (sym h))

all-marks : (P : At → List ℕ → Type 0) → Marks P → (a : At) (m : List ℕ) → tells_white_apart a ≡ true → script_markup_fits a m ≡ true → P a m
all-marks P x (Code sense.Re) m w f =
    among (P (Code sense.Re)) [] (codes "<" ∷ codes "<!" ∷ []) m f (x.begun (Code sense.Re) refl) (λ g.
    among (P (Code sense.Re)) (codes "<") (codes "<!" ∷ []) m g x.less (λ h. among (P (Code sense.Re)) (codes "<!") [] m h x.less_bang (none-among m (P (Code sense.Re) m))))
all-marks P x (Code sense.Div) m w f =
    among (P (Code sense.Div)) [] (codes "#" ∷ []) m f (x.begun (Code sense.Div) refl) (λ g. among (P (Code sense.Div)) (codes "#") [] m g x.hash (none-among m (P (Code sense.Div) m)))
all-marks P x (Code sense.Brace) m w f = subst (P (Code sense.Brace)) (sym (empty-is m f)) (x.begun (Code sense.Brace) refl)
all-marks P x (Word z) m w f = subst (P (Word z)) (sym (empty-is m f)) (x.begun (Word z) refl)
all-marks P x Number m w f = subst (P Number) (sym (empty-is m f)) (x.begun Number refl)
all-marks P x (Pluses odd) m w f = subst (P (Pluses odd)) (sym (empty-is m f)) (x.begun (Pluses odd) refl)
all-marks P x (Minuses odd) m w f =
    among (P (Minuses odd)) [] (codes "-" ∷ codes "--" ∷ codes "<!-" ∷ []) m f (x.begun (Minuses odd) refl) (λ g.
    among (P (Minuses odd)) (codes "-") (codes "--" ∷ codes "<!-" ∷ []) m g (x.minus odd) (λ h.
    among (P (Minuses odd)) (codes "--") (codes "<!-" ∷ []) m h (x.minuses odd) (λ i. among (P (Minuses odd)) (codes "<!-") [] m i (x.opened odd) (none-among m (P (Minuses odd) m)))))
all-marks P x (Slash sense.Re) m w f = absurd (no (sym w))
all-marks P x (Slash sense.Div) m w f = subst (P (Slash sense.Div)) (sym (empty-is m f)) (x.begun (Slash sense.Div) refl)
all-marks P x (Slash sense.Brace) m w f = subst (P (Slash sense.Brace)) (sym (empty-is m f)) (x.begun (Slash sense.Brace) refl)
all-marks P x (LineComment s) m w f = subst (P (LineComment s)) (sym (empty-is m f)) (x.begun (LineComment s) refl)
all-marks P x (BlockComment s star) m w f = absurd (no (sym w))
all-marks P x (InString q e) m w f = absurd (no (sym w))
all-marks P x (InRegexp k e) m w f = absurd (no (sym w))
all-marks P x (InTemplate e d) m w f = absurd (no (sym w))
all-marks P x TooDeep m w f = absurd (no (sym w))

white-goes : (a : At) (m : List ℕ) → tells_white_apart a ≡ true → script_markup_fits a m ≡ true → (c : ScriptClass) (b : ℕ) → Tests c b → (n k l : ℕ) → refused (marks a m b) ≡ false
    → Within (script_next [] a c b) [] (marks a m b) [] n k l b
white-goes a m w f c b t n k l =
    all-marks (λ d z. refused (marks d z b) ≡ false → Within (script_next [] d c b) [] (marks d z b) [] n k l b) (record {
      begun = λ d x r. white-begun d x c b t n k l;
      less = λ r. less-goes c b t n k l;
      less_bang = λ r. less-bang-goes c b t r n k l;
      hash = λ r. hash-goes c b t r n k l;
      minus = λ odd r. minus-goes odd c b t n k l;
      minuses = λ odd r. minuses-goes odd c b t r n k l;
      opened = λ odd r. opened-goes odd c b t r n k l;
    }) a m w f

-- past ASCII no byte is one of markup
none-begun : (k : Bool) (b : ℕ) → Tests class.Letter b → begun_markup k (to_ascii_lowercase b) ≡ []
none-begun true b t = simp (t.less, t.hash, t.minus)
none-begun false b t = refl

white-marks : (a : At) (m : List ℕ) → tells_white_apart a ≡ true → script_markup_fits a m ≡ true → (b : ℕ) → Tests class.Letter b → marks a m b ≡ []
white-marks a m w f b t =
    all-marks (λ d z. marks d z b ≡ []) (record {
      begun = λ d x. none-begun (is_markup_code false d) b t;
      less = simp (t.less, t.hash, t.minus, t.bang, t.solidus);
      less_bang = simp (t.less, t.hash, t.minus);
      hash = simp (t.less, t.hash, t.minus, t.bang);
      minus = λ odd. simp (t.less, t.hash, t.minus);
      minuses = λ odd. simp (t.less, t.hash, t.minus, t.greater);
      opened = λ odd. simp (t.less, t.hash, t.minus);
    }) a m w f

quiet-at : (a : At) → tells_white_apart a ≡ true → (h : List ℕ) (n k l b : ℕ) → Within (point [] a) h [] [] n k l b
quiet-at (Code s) w h n k l b = rw (or-true (is_empty h)) (fits-code s)
quiet-at (Word x) w h n k l b = rw (or-true (is_empty h)) refl
quiet-at Number w h n k l b = rw (or-true (is_empty h)) refl
quiet-at (Pluses odd) w h n k l b = rw (or-true (is_empty h)) refl
quiet-at (Minuses odd) w h n k l b = rw (or-true (is_empty h)) refl
quiet-at (Slash sense.Re) w h n k l b = absurd (no (sym w))
quiet-at (Slash sense.Div) w h n k l b = rw (or-true (is_empty h)) refl
quiet-at (Slash sense.Brace) w h n k l b = rw (or-true (is_empty h)) refl
quiet-at (LineComment s) w h n k l b = rw (or-true (is_empty h)) refl
quiet-at (BlockComment s star) w h n k l b = absurd (no (sym w))
quiet-at (InString q e) w h n k l b = absurd (no (sym w))
quiet-at (InRegexp x e) w h n k l b = absurd (no (sym w))
quiet-at (InTemplate e d) w h n k l b = absurd (no (sym w))
quiet-at TooDeep w h n k l b = absurd (no (sym w))

-- What a byte releases where white space is told apart: past ASCII, letters or white space; or else the letters held back before it, and it.
record Released (fs : List ℕ) (a : At) (xs : List ClassedByte) : Type 0 where
  at : At
  white : tells_white_apart at ≡ true
  code : is_markup_code false at ≡ is_markup_code false a
  there : points xs (point fs a) ≡ point fs at

letters-lead : (fs : List ℕ) (h : List ℕ) (a : At) → tells_white_apart a ≡ true → Released fs a (classed_as class.Letter h)
letters-lead fs [] a w = record { at = a; white = w; code = refl; there = refl }
letters-lead fs (z ∷ h) (Code s) w = (let r = letters-lead fs h (Word (z ∷ [])) refl in record { at = r.at; white = r.white; code = r.code; there = r.there })
letters-lead fs (z ∷ h) (Word x) w = (let r = letters-lead fs h (Word (x ++ z ∷ [])) refl in record { at = r.at; white = r.white; code = r.code; there = r.there })
letters-lead fs (z ∷ h) Number w = (let r = letters-lead fs h Number refl in record { at = r.at; white = r.white; code = r.code; there = r.there })
letters-lead fs (z ∷ h) (Pluses odd) w = (let r = letters-lead fs h (Word (z ∷ [])) refl in record { at = r.at; white = r.white; code = r.code; there = r.there })
letters-lead fs (z ∷ h) (Minuses odd) w = (let r = letters-lead fs h (Word (z ∷ [])) refl in record { at = r.at; white = r.white; code = r.code; there = r.there })
letters-lead fs (z ∷ h) (Slash sense.Re) w = absurd (no (sym w))
letters-lead fs (z ∷ h) (Slash sense.Div) w = (let r = letters-lead fs h (Word (z ∷ [])) refl in record { at = r.at; white = r.white; code = r.code; there = r.there })
letters-lead fs (z ∷ h) (Slash sense.Brace) w = (let r = letters-lead fs h (Word (z ∷ [])) refl in record { at = r.at; white = r.white; code = r.code; there = r.there })
letters-lead fs (z ∷ h) (LineComment s) w = (let r = letters-lead fs h (LineComment s) refl in record { at = r.at; white = r.white; code = r.code; there = r.there })
letters-lead fs (z ∷ h) (BlockComment s star) w = absurd (no (sym w))
letters-lead fs (z ∷ h) (InString q e) w = absurd (no (sym w))
letters-lead fs (z ∷ h) (InRegexp k e) w = absurd (no (sym w))
letters-lead fs (z ∷ h) (InTemplate e d) w = absurd (no (sym w))
letters-lead fs (z ∷ h) TooDeep w = absurd (no (sym w))

-- Behind white space the code may have begun anew, so that of the markup nothing is said.
record Led (fs : List ℕ) (a : At) (xs : List ClassedByte) : Type 0 where
  at : At
  white : tells_white_apart at ≡ true
  there : points xs (point fs a) ≡ point fs at

spaces-code : (fs : List ℕ) (h : List ℕ) (s : Sense) → Led fs (Code s) (classed_as class.Space h)
spaces-code fs [] s = record { at = Code s; white = refl; there = refl }
spaces-code fs (z ∷ h) s = (let r = spaces-code fs h s in record { at = r.at; white = r.white; there = r.there })

lines-code : (fs : List ℕ) (h : List ℕ) (s : Sense) → Led fs (Code s) (classed_as class.LineEnd h)
lines-code fs [] s = record { at = Code s; white = refl; there = refl }
lines-code fs (z ∷ h) s = (let r = lines-code fs h s in record { at = r.at; white = r.white; there = r.there })

spaces-line : (fs : List ℕ) (h : List ℕ) (s : Sense) → Led fs (LineComment s) (classed_as class.Space h)
spaces-line fs [] s = record { at = LineComment s; white = refl; there = refl }
spaces-line fs (z ∷ h) s = (let r = spaces-line fs h s in record { at = r.at; white = r.white; there = r.there })

-- the code behind white space
sense-behind : At → Sense
sense-behind (Code s) = s
sense-behind (Word x) = sense_after x
sense-behind Number = sense.Div
sense-behind (Pluses odd) = sense_if_odd odd
sense-behind (Minuses odd) = sense_if_odd odd
sense-behind (Slash s) = sense.Re
sense-behind (LineComment s) = s
sense-behind a = sense.Div

spaces-lead : (fs : List ℕ) (h : List ℕ) (a : At) → tells_white_apart a ≡ true → Led fs a (classed_as class.Space h)
spaces-lead fs [] a w = record { at = a; white = w; there = refl }
spaces-lead fs (z ∷ h) (Code s) w = (let r = spaces-code fs h s in record { at = r.at; white = r.white; there = r.there })
spaces-lead fs (z ∷ h) (Word x) w = (let r = spaces-code fs h (sense_after x) in record { at = r.at; white = r.white; there = r.there })
spaces-lead fs (z ∷ h) Number w = (let r = spaces-code fs h sense.Div in record { at = r.at; white = r.white; there = r.there })
spaces-lead fs (z ∷ h) (Pluses odd) w = (let r = spaces-code fs h (sense_if_odd odd) in record { at = r.at; white = r.white; there = r.there })
spaces-lead fs (z ∷ h) (Minuses odd) w = (let r = spaces-code fs h (sense_if_odd odd) in record { at = r.at; white = r.white; there = r.there })
spaces-lead fs (z ∷ h) (Slash sense.Re) w = absurd (no (sym w))
spaces-lead fs (z ∷ h) (Slash sense.Div) w = (let r = spaces-code fs h sense.Re in record { at = r.at; white = r.white; there = r.there })
spaces-lead fs (z ∷ h) (Slash sense.Brace) w = (let r = spaces-code fs h sense.Re in record { at = r.at; white = r.white; there = r.there })
spaces-lead fs (z ∷ h) (LineComment s) w = (let r = spaces-line fs h s in record { at = r.at; white = r.white; there = r.there })
spaces-lead fs (z ∷ h) (BlockComment s star) w = absurd (no (sym w))
spaces-lead fs (z ∷ h) (InString q e) w = absurd (no (sym w))
spaces-lead fs (z ∷ h) (InRegexp k e) w = absurd (no (sym w))
spaces-lead fs (z ∷ h) (InTemplate e d) w = absurd (no (sym w))
spaces-lead fs (z ∷ h) TooDeep w = absurd (no (sym w))

lines-lead : (fs : List ℕ) (h : List ℕ) (a : At) → tells_white_apart a ≡ true → Led fs a (classed_as class.LineEnd h)
lines-lead fs [] a w = record { at = a; white = w; there = refl }
lines-lead fs (z ∷ h) (Code s) w = (let r = lines-code fs h s in record { at = r.at; white = r.white; there = r.there })
lines-lead fs (z ∷ h) (Word x) w = (let r = lines-code fs h (sense_after x) in record { at = r.at; white = r.white; there = r.there })
lines-lead fs (z ∷ h) Number w = (let r = lines-code fs h sense.Div in record { at = r.at; white = r.white; there = r.there })
lines-lead fs (z ∷ h) (Pluses odd) w = (let r = lines-code fs h (sense_if_odd odd) in record { at = r.at; white = r.white; there = r.there })
lines-lead fs (z ∷ h) (Minuses odd) w = (let r = lines-code fs h (sense_if_odd odd) in record { at = r.at; white = r.white; there = r.there })
lines-lead fs (z ∷ h) (Slash sense.Re) w = absurd (no (sym w))
lines-lead fs (z ∷ h) (Slash sense.Div) w = (let r = lines-code fs h sense.Re in record { at = r.at; white = r.white; there = r.there })
lines-lead fs (z ∷ h) (Slash sense.Brace) w = (let r = lines-code fs h sense.Re in record { at = r.at; white = r.white; there = r.there })
lines-lead fs (z ∷ h) (LineComment s) w = (let r = lines-code fs h s in record { at = r.at; white = r.white; there = r.there })
lines-lead fs (z ∷ h) (BlockComment s star) w = absurd (no (sym w))
lines-lead fs (z ∷ h) (InString q e) w = absurd (no (sym w))
lines-lead fs (z ∷ h) (InRegexp k e) w = absurd (no (sym w))
lines-lead fs (z ∷ h) (InTemplate e d) w = absurd (no (sym w))
lines-lead fs (z ∷ h) TooDeep w = absurd (no (sym w))

letters-and : (fs : List ℕ) (h : List ℕ) (b : ℕ) (a : At) → tells_white_apart a ≡ true → Led fs a (classed_as class.Letter h ++ classed class.Letter b ∷ [])
letters-and fs h b a w =
    let r = letters-lead fs h a w in
    let s = letters-lead fs (b ∷ []) r.at r.white in
    record {
      at = s.at;
      white = s.white;
      there = points-append (classed_as class.Letter h) (classed class.Letter b ∷ []) (point fs a) ∙ (ap (points (classed class.Letter b ∷ [])) r.there ∙ s.there);
    }

letters-only : (fs : List ℕ) (h : List ℕ) (a : At) → tells_white_apart a ≡ true → Led fs a (classed_as class.Letter h ++ [])
letters-only fs h a w =
    let r = letters-lead fs h a w in
    record { at = r.at; white = r.white; there = points-append (classed_as class.Letter h) [] (point fs a) ∙ r.there }

alone-leads : (f : PastAscii) (fs : List ℕ) (h : List ℕ) (b : ℕ) (a : At) → tells_white_apart a ≡ true → class_of b ≡ class.Letter → Led fs a (classed_as class.Letter h ++ released_alone f b)
alone-leads BeginsWhite fs h b a w e = letters-only fs h a w
alone-leads IsSpace fs h b a w e = rw e (letters-and fs h b a w)
alone-leads IsSeparator fs h b a w e = rw e (letters-and fs h b a w)
alone-leads IsOther fs h b a w e = rw e (letters-and fs h b a w)

past-leads : (f : PastAscii) (fs : List ℕ) (h : List ℕ) (b : ℕ) (a : At) → tells_white_apart a ≡ true → class_of b ≡ class.Letter → Led fs a (released_past_ascii f h b)
past-leads IsSpace fs h b a w e = spaces-lead fs (h ++ b ∷ []) a w
past-leads IsSeparator fs h b a w e = lines-lead fs (h ++ b ∷ []) a w
past-leads BeginsWhite fs h b a w e = record { at = a; white = w; there = refl }
past-leads IsOther fs h b a w e = alone-leads (past_ascii (b ∷ [])) fs h b a w e

high-leads : (fs : List ℕ) (h : List ℕ) (b : ℕ) (a : At) → tells_white_apart a ≡ true → 128 ≤ b → Led fs a (released h b)
unfolding released
high-leads fs h b a w g = rw (le-ltb b 128 g) (past-leads (past_ascii (h ++ b ∷ [])) fs h b a w (class-high b g))

low-released : (h : List ℕ) (b : ℕ) → b < 128 → released h b ≡ classed_as class.Letter h ++ classed (class_of b) b ∷ []
unfolding released
low-released h b g = rw (lt-ltb b 128 g) refl

low-held : (h : List ℕ) (b : ℕ) → b < 128 → held_after h b ≡ []
unfolding held_after
low-held h b g = rw (lt-ltb b 128 g) refl

-- Where white space is told apart.
abbrev white-read : List ℕ → At → (h m : List ℕ) → (n k l b : ℕ) → Type 0
white-read fs a h m n k l b = Within (points (released h b) (point fs a)) (held_after h b) (marks a m b) [] n k l b

begun-there : (a : At) (h : List ℕ) → tells_white_apart a ≡ true → (n k l b : ℕ) → b < 128 → white-read [] a h [] n k l b
begun-there a h w n k l b g =
    let r = letters-lead [] h a w in
    let there = ap (λ (xs : List ClassedByte). points xs (point [] a)) (low-released h b g)
    ∙ (points-append (classed_as class.Letter h) (classed (class_of b) b ∷ []) (point [] a) ∙ ap (points (classed (class_of b) b ∷ [])) r.there) in
    subst (λ (p : ScriptPoint). Within p (held_after h b) (marks a [] b) [] n k l b) (sym there)
    (subst (λ (z : List ℕ). Within (script_next [] r.at (class_of b) b) z (marks a [] b) [] n k l b) (sym (low-held h b g))
    (subst (λ (x : Bool). Within (script_next [] r.at (class_of b) b) [] (next_markup false x [] (to_ascii_lowercase b)) [] n k l b) r.code
    (white-begun r.at r.white (class_of b) b (tests-of b) n k l)))

first-there : (a : At) (m : List ℕ) → tells_white_apart a ≡ true → script_markup_fits a m ≡ true → (n k l b : ℕ) → b < 128 → refused (marks a m b) ≡ false → white-read [] a [] m n k l b
first-there a m w f n k l b g r =
    subst (λ (xs : List ClassedByte). Within (points xs (point [] a)) (held_after [] b) (marks a m b) [] n k l b) (sym (low-released [] b g))
    (subst (λ (z : List ℕ). Within (script_next [] a (class_of b) b) z (marks a m b) [] n k l b) (sym (low-held [] b g))
    (white-goes a m w f (class_of b) b (tests-of b) n k l r))

low-there : (a : At) (h m : List ℕ) → tells_white_apart a ≡ true → script_markup_fits a m ≡ true → (is_empty h || is_empty m) ≡ true → (n k l b : ℕ) → b < 128 → refused (marks a m b) ≡ false
    → white-read [] a h m n k l b
low-there a [] m w f e n k l b g r = first-there a m w f n k l b g r
low-there a (z ∷ h) m w f e n k l b g r = subst (λ (x : List ℕ). white-read [] a (z ∷ h) x n k l b) (sym (empty-is m e)) (begun-there a (z ∷ h) w n k l b g)

letter-tests : (b : ℕ) → 128 ≤ b → Tests class.Letter b
letter-tests b g = subst (λ (c : ScriptClass). Tests c b) (class-high b g) (tests-of b)

high-there : (a : At) (h m : List ℕ) → tells_white_apart a ≡ true → script_markup_fits a m ≡ true → (n k l b : ℕ) → 128 ≤ b → white-read [] a h m n k l b
high-there a h m w f n k l b g =
    let r = high-leads [] h b a w g in
    subst (λ (p : ScriptPoint). Within p (held_after h b) (marks a m b) [] n k l b) (sym r.there)
    (subst (λ (z : List ℕ). Within (point [] r.at) (held_after h b) z [] n k l b) (sym (white-marks a m w f b (letter-tests b g)))
    (quiet-at r.at r.white (held_after h b) n k l b))

white-there : (a : At) (h m : List ℕ) → tells_white_apart a ≡ true → script_markup_fits a m ≡ true → (is_empty h || is_empty m) ≡ true → (n k l b : ℕ) → refused (marks a m b) ≡ false
    → white-read [] a h m n k l b
white-there a h m w f e n k l b r = elim (cases_lt b 128) [
  | inl low ↦ low-there a h m w f e n k l b low r
  | inr high ↦ high-there a h m w f n k l b high
]

-- In strings, where no bytes of markup are kept.
abbrev escaped : (regexp : Bool) → ScriptEscape → List ℕ → ℕ → Type 0
escaped regexp e y b = script_escape_fits (next_escape e b) (next_unfinished regexp y b) ≡ true

string-goes : (taken q : Bool) (e : ScriptEscape) (y : List ℕ) (c : ScriptClass) (b : ℕ) → escaped false e y b → (n k l : ℕ) → Within (next_script_string taken q e c b []) [] [] y n k l b
string-goes true q e y c b x n k l = rw x refl
string-goes false true e y class.QuotationMark b x n k l = refl
string-goes false true e y class.LineEnd b x n k l = refl
string-goes false true e y _ b x n k l = rw x refl
string-goes false false e y class.Apostrophe b x n k l = refl
string-goes false false e y class.LineEnd b x n k l = refl
string-goes false false e y _ b x n k l = rw x refl

-- In regular expressions, without bytes of markup, and with those of an end tag.
in-regexp : (x : Bool) (e : ScriptEscape) (y m : List ℕ) (b : ℕ) → escaped true e y b → (is_empty m || starts_with nat_eq m (codes "</")) ≡ true → (n k l : ℕ)
    → Within (point [] (InRegexp x (next_escape e b))) [] m y n k l b
in-regexp true e y m b f g n k l = rw (f, g) refl
in-regexp false e y m b f g n k l = rw (f, g) refl

regexp-goes : (taken x : Bool) (e : ScriptEscape) (y : List ℕ) (c : ScriptClass) (b : ℕ) → ((c ≡ class.LineEnd → ⊥) → escaped true e y b) → (n k l : ℕ)
    → Within (next_regexp taken x e c b []) [] [] y n k l b
regexp-goes taken x e y class.LineEnd b f n k l = refl
regexp-goes true x e y _ b f n k l = in-regexp x e y [] b (f (λ h. cc)) refl n k l
regexp-goes false false e y class.Solidus b f n k l = refl
regexp-goes false true e y class.OpenBracket b f n k l = in-regexp true e y [] b (f (λ h. cc)) refl n k l
regexp-goes false false e y class.OpenBracket b f n k l = in-regexp true e y [] b (f (λ h. cc)) refl n k l
regexp-goes false true e y class.CloseBracket b f n k l = in-regexp false e y [] b (f (λ h. cc)) refl n k l
regexp-goes false false e y class.CloseBracket b f n k l = in-regexp false e y [] b (f (λ h. cc)) refl n k l
regexp-goes false true e y _ b f n k l = in-regexp true e y [] b (f (λ h. cc)) refl n k l
regexp-goes false false e y _ b f n k l = in-regexp false e y [] b (f (λ h. cc)) refl n k l

-- a letter goes on with the regular expression
letter-regexp : (taken x : Bool) (e : ScriptEscape) (y m : List ℕ) (b : ℕ) → escaped true e y b → (is_empty m || starts_with nat_eq m (codes "</")) ≡ true → (n k l : ℕ)
    → Within (next_regexp taken x e class.Letter b []) [] m y n k l b
letter-regexp true x e y m b f g n k l = in-regexp x e y m b f g n k l
letter-regexp false true e y m b f g n k l = in-regexp true e y m b f g n k l
letter-regexp false false e y m b f g n k l = in-regexp false e y m b f g n k l

letter-ends : class.Letter ≡ class.LineEnd → ⊥
letter-ends e = cc

-- what a word does not have, it does not go on with
left-none : (x y : Bool) → (x || y) ≡ false → x ≡ false
left-none true y e = absurd (no e)
left-none false y e = refl

right-none : (x y : Bool) → (x || y) ≡ false → y ≡ false
right-none true y e = absurd (no e)
right-none false y e = e

and-none : (x : Bool) → (x && false) ≡ false
and-none true = refl
and-none false = refl

not-begun : (w r : List ℕ) (l : ℕ) → list_any (nat_eq l) w ≡ false → starts_with nat_eq w (r ++ l ∷ []) ≡ false
not-begun [] [] l n = refl
not-begun [] (x ∷ r) l n = refl
not-begun (y ∷ w) [] l n = rw (left-none (nat_eq l y) (list_any (nat_eq l) w) n) refl
not-begun (y ∷ w) (x ∷ r) l n = rw (not-begun w r l (right-none (nat_eq l y) (list_any (nat_eq l) w) n)) (and-none (nat_eq x y))

tag-ends : (r : List ℕ) (l : ℕ) → in_script l ≡ false → next_markup false false (60 ∷ 47 ∷ r) l ≡ []
tag-ends r l n = rw (not-begun (codes "script") r l n) refl

tag-by : (x : Bool) (r : List ℕ) (l : ℕ)
    → (is_empty (longer_markup x false (60 ∷ 47 ∷ r) l) || starts_with nat_eq (longer_markup x false (60 ∷ 47 ∷ r) l) (codes "</")) ≡ true
tag-by true r l = refl
tag-by false r l = refl

tag-fits : (r : List ℕ) (l : ℕ) → (is_empty (next_markup false false (60 ∷ 47 ∷ r) l) || starts_with nat_eq (next_markup false false (60 ∷ 47 ∷ r) l) (codes "</")) ≡ true
tag-fits r l = tag-by (begins_markup false (60 ∷ 47 ∷ (r ++ l ∷ []))) r l

regexp-at : (c : ScriptClass) (e : ScriptEscape) (y : List ℕ) (b : ℕ) → class_of b ≡ c → script_escape_fits e y ≡ true → (c ≡ class.LineEnd → ⊥) → escaped true e y b
regexp-at c e y b i f h = escape-goes true e y b (not-return b (λ g. h (sym i ∙ g))) f

tag-goes : (z : Bool) (x : Bool) (e : ScriptEscape) (y r : List ℕ) (c : ScriptClass) (b : ℕ) → class_of b ≡ c → in_script (to_ascii_lowercase b) ≡ z → script_escape_fits e y ≡ true → (n k l : ℕ)
    → Within (next_regexp (is_taken_in_script e) x e c b []) [] (next_markup false false (60 ∷ 47 ∷ r) (to_ascii_lowercase b)) y n k l b
tag-goes true x e y r c b i z f n k l =
    subst (λ (d : ScriptClass). Within (next_regexp (is_taken_in_script e) x e d b []) [] (next_markup false false (60 ∷ 47 ∷ r) (to_ascii_lowercase b)) y n k l b) (sym (script-letter b z) ∙ i)
    (letter-regexp (is_taken_in_script e) x e y (next_markup false false (60 ∷ 47 ∷ r) (to_ascii_lowercase b)) b
    (regexp-at class.Letter e y b (script-letter b z) f letter-ends) (tag-fits r (to_ascii_lowercase b)) n k l)
tag-goes false x e y r c b i z f n k l =
    subst (λ (m : List ℕ). Within (next_regexp (is_taken_in_script e) x e c b []) [] m y n k l b) (sym (tag-ends r (to_ascii_lowercase b) z))
    (regexp-goes (is_taken_in_script e) x e y c b (regexp-at c e y b i f) n k l)

record IsTag (m : List ℕ) : Type 0 where
  rest : List ℕ
  is : m ≡ 60 ∷ 47 ∷ rest

same-heads : (a b : ℕ) (x y : Bool) → nat_eq 60 a ≡ x → nat_eq 47 b ≡ y → (x && (y && true)) ≡ true → (a ≡ 60) × (b ≡ 47)
same-heads a b true true e f g = (sym (eqb-true 60 a e), sym (eqb-true 47 b f))
same-heads a b true false e f g = absurd (no (sym g))
same-heads a b false y e f g = absurd (no (sym g))

heads-tag : (a b : ℕ) (m : List ℕ) → (a ≡ 60) × (b ≡ 47) → IsTag (a ∷ b ∷ m)
heads-tag a b m h = record { rest = m; is = ap (λ (x : ℕ). x ∷ b ∷ m) h.0 ∙ ap (λ (x : ℕ). 60 ∷ x ∷ m) h.1 }

tag-of : (m : List ℕ) → starts_with nat_eq m (codes "</") ≡ true → IsTag m
tag-of [] h = absurd (no (sym h))
tag-of (a ∷ []) h = absurd (no (sym h ∙ and-none (nat_eq 60 a)))
tag-of (a ∷ b ∷ m) h = heads-tag a b m (same-heads a b (nat_eq 60 a) (nat_eq 47 b) refl refl h)

regexp-there : (x : Bool) (e : ScriptEscape) (y m : List ℕ) (b : ℕ) → script_escape_fits e y ≡ true → (is_empty m || starts_with nat_eq m (codes "</")) ≡ true → (n k l : ℕ)
    → Within (script_next [] (InRegexp x e) (class_of b) b) [] (marks (InRegexp x e) m b) y n k l b
regexp-there x e y [] b f g n k l = regexp-goes (is_taken_in_script e) x e y (class_of b) b (regexp-at (class_of b) e y b refl f) n k l
regexp-there x e y (z ∷ m) b f g n k l =
    let t = tag-of (z ∷ m) g in
    subst (λ (u : List ℕ). Within (script_next [] (InRegexp x e) (class_of b) b) [] (marks (InRegexp x e) u b) y n k l b) (sym t.is)
    (tag-goes (in_script (to_ascii_lowercase b)) x e y t.rest (class_of b) b refl refl f n k l)

-- behind the slash that begins one
slash-goes : (c : ScriptClass) (b : ℕ) → class_of b ≡ c → (n k l : ℕ) → Within (next_slash sense.Re c b []) [] [] [] n k l b
slash-goes class.Solidus b i n k l = refl
slash-goes class.Asterisk b i n k l = refl
slash-goes c b i n k l = regexp-goes false false NoEscape [] c b (regexp-at c NoEscape [] b i refl) n k l

slash-letter : (b : ℕ) → class_of b ≡ class.Letter → (m : List ℕ) → (is_empty m || starts_with nat_eq m (codes "</")) ≡ true → (n k l : ℕ)
    → Within (next_slash sense.Re class.Letter b []) [] m [] n k l b
slash-letter b i m g n k l = in-regexp false NoEscape [] m b (regexp-at class.Letter NoEscape [] b i refl letter-ends) g n k l

slash-tag : (z : Bool) (b : ℕ) → in_script (to_ascii_lowercase b) ≡ z → (n k l : ℕ)
    → Within (next_slash sense.Re (class_of b) b []) [] (next_markup false false (codes "</") (to_ascii_lowercase b)) [] n k l b
slash-tag true b z n k l =
    subst (λ (d : ScriptClass). Within (next_slash sense.Re d b []) [] (next_markup false false (codes "</") (to_ascii_lowercase b)) [] n k l b) (sym (script-letter b z))
    (slash-letter b (script-letter b z) (next_markup false false (codes "</") (to_ascii_lowercase b)) (tag-fits [] (to_ascii_lowercase b)) n k l)
slash-tag false b z n k l =
    subst (λ (m : List ℕ). Within (next_slash sense.Re (class_of b) b []) [] m [] n k l b) (sym (tag-ends [] (to_ascii_lowercase b) z)) (slash-goes (class_of b) b refl n k l)

slash-there : (m : List ℕ) (b : ℕ) → script_markup_fits (Slash sense.Re) m ≡ true → (n k l : ℕ)
    → Within (script_next [] (Slash sense.Re) (class_of b) b) [] (marks (Slash sense.Re) m b) [] n k l b
slash-there m b f n k l =
    among (λ (z : List ℕ). Within (script_next [] (Slash sense.Re) (class_of b) b) [] (marks (Slash sense.Re) z b) [] n k l b) [] (codes "</" ∷ []) m f
    (slash-goes (class_of b) b refl n k l)
    (λ g. among (λ (z : List ℕ). Within (script_next [] (Slash sense.Re) (class_of b) b) [] (marks (Slash sense.Re) z b) [] n k l b) (codes "</") [] m g
    (slash-tag (in_script (to_ascii_lowercase b)) b refl n k l)
    (none-among m (Within (script_next [] (Slash sense.Re) (class_of b) b) [] (marks (Slash sense.Re) m b) [] n k l b)))

block-goes : (s : Sense) (star : Bool) (c : ScriptClass) (b n k l : ℕ) → Within (next_block s star c []) [] [] [] n k l b
block-goes s true class.Solidus b n k l = fits-code s
block-goes s false class.Solidus b n k l = refl
block-goes s star class.Asterisk b n k l = refl
block-goes s true _ b n k l = refl
block-goes s false _ b n k l = refl

-- A state by its parts, and where a byte leads it.
abbrev pub parts : List ℕ → At → (h m e : List ℕ) → (f : Bool) → (n k l : ℕ) → ScriptState
parts fs a h m e f n k l = record { literals = fs; at = a; held = h; trail = record { fresh = f; markup = m; escape = e; brace = n; bracket = k; literal = l; lines = NoLineYet [] } }

-- what fits where white space is told apart: no escape is open
record Fits (a : At) (h m e : List ℕ) (f : Bool) (n k l : ℕ) : Type 0 where
  held : (is_empty h || is_empty m) ≡ true
  trail : script_trail_fits a e n k ≡ true
  markup : script_markup_fits a m ≡ true

fits-of : (a : At) (h m e : List ℕ) (f : Bool) (n k l : ℕ) → is_script_within (parts [] a h m e f n k l) ≡ true → Fits a h m e f n k l
fits-of a h m e f n k l i =
    let x = and_parts (is_empty h || is_empty m) (l == 0 && (script_trail_fits a e n k && script_markup_fits a m)) i in
    let y = and_parts (l == 0) (script_trail_fits a e n k && script_markup_fits a m) x.1 in
    let z = and_parts (script_trail_fits a e n k) (script_markup_fits a m) y.1 in
    record { held = x.0; trail = z.0; markup = z.1 }

abbrev fed-within : List ℕ → At → (h m e : List ℕ) → (f : Bool) → (n k l b : ℕ) → Type 0
fed-within fs a h m e f n k l b = is_script_within (feed_script (parts fs a h m e f n k l) b) ≡ true

whole-escape : (e : List ℕ) (x : Bool) → (is_empty e && x) ≡ true → e ≡ []
whole-escape e x h = empty-is e (and_parts (is_empty e) x h).0

white-fed : (a : At) (h m e : List ℕ) (f : Bool) (n k l b : ℕ) → tells_white_apart a ≡ true → e ≡ [] → Fits a h m e f n k l → refused (marks a m b) ≡ false
    → Within (points (read_at true h (class_of b) b) (point [] a)) (held_at true h b) (marks a m b) e n k l b
white-fed a h m e f n k l b w y x r =
    subst (λ (z : List ℕ). Within (points (read_at true h (class_of b) b) (point [] a)) (held_at true h b) (marks a m b) z n k l b) (sym y) (white-there a h m w x.markup x.held n k l b r)

trail-left : (x y : Bool) → (x && y) ≡ true → x ≡ true
trail-left x y h = (and_parts x y h).0

taken-string : (q : Bool) (e : ScriptEscape) (y : List ℕ) (b : ℕ) → script_escape_fits e y ≡ true → (n k l : ℕ)
    → Within (script_next [] (InString q e) (class_of b) b) [] [] y n k l b
taken-string q e y b f n k l = string-goes (is_taken_in_string e b) q e y (class_of b) b (escape-goes false e y b refl f) n k l

outside-fed : (a : At) (h m e : List ℕ) (f : Bool) (n k l b : ℕ) → Fits a h m e f n k l → refused (marks a m b) ≡ false → fed-within [] a h m e f n k l b
outside-fed (Code s) h m e f n k l b x r = white-fed (Code s) h m e f n k l b refl (whole-escape e _ x.trail) x r
outside-fed (Word w) h m e f n k l b x r = white-fed (Word w) h m e f n k l b refl (whole-escape e _ x.trail) x r
outside-fed Number h m e f n k l b x r = white-fed Number h m e f n k l b refl (whole-escape e _ x.trail) x r
outside-fed (Pluses odd) h m e f n k l b x r = white-fed (Pluses odd) h m e f n k l b refl (whole-escape e _ x.trail) x r
outside-fed (Minuses odd) h m e f n k l b x r = white-fed (Minuses odd) h m e f n k l b refl (whole-escape e _ x.trail) x r
outside-fed (Slash sense.Div) h m e f n k l b x r = white-fed (Slash sense.Div) h m e f n k l b refl (whole-escape e _ x.trail) x r
outside-fed (Slash sense.Brace) h m e f n k l b x r = white-fed (Slash sense.Brace) h m e f n k l b refl (whole-escape e _ x.trail) x r
outside-fed (LineComment s) h m e f n k l b x r = white-fed (LineComment s) h m e f n k l b refl (whole-escape e _ x.trail) x r
outside-fed (Slash sense.Re) h m e f n k l b x r =
    subst (λ (y : List ℕ). fed-within [] (Slash sense.Re) h m y f n k l b) (sym (whole-escape e _ x.trail)) (slash-there m b x.markup n k l)
outside-fed (BlockComment s star) h m e f n k l b x r =
    subst (λ (y : List ℕ). fed-within [] (BlockComment s star) h m y f n k l b) (sym (whole-escape e _ x.trail))
    (subst (λ (y : List ℕ). fed-within [] (BlockComment s star) h y [] f n k l b) (sym (empty-is m x.markup)) (block-goes s star (class_of b) b n k l))
outside-fed (InString q i) h m e f n k l b x r =
    subst (λ (y : List ℕ). fed-within [] (InString q i) h y e f n k l b) (sym (empty-is m x.markup)) (taken-string q i e b (trail-left _ _ x.trail) n k l)
outside-fed (InRegexp y i) h m e f n k l b x r = regexp-there y i e m b (trail-left _ _ x.trail) x.markup n k l
outside-fed (InTemplate i d) h m e f n k l b x r = absurd (no (sym x.markup))
outside-fed TooDeep h m e f n k l b x r = absurd (no (sym x.markup))

-- In a template literal anything may be open, and behind its backquote nothing is.
begins-none : (m : List ℕ) → begins_markup true (m ++ 96 ∷ []) ≡ false
begins-none m =
    or_from (starts_with nat_eq (codes "<!--") (m ++ 96 ∷ [])) _ (not-begun (codes "<!--") m 96 refl)
    (or_from (starts_with nat_eq (codes "</script") (m ++ 96 ∷ [])) _ (not-begun (codes "</script") m 96 refl)
    (or_from (starts_with nat_eq (codes "<script") (m ++ 96 ∷ [])) _ (not-begun (codes "<script") m 96 refl)
    (or_from (starts_with nat_eq (codes "#!") (m ++ 96 ∷ [])) _ (not-begun (codes "#!") m 96 refl)
    (or_from (starts_with nat_eq (codes "-->") (m ++ 96 ∷ [])) false (not-begun (codes "-->") m 96 refl) refl))))

grave-none : (m : List ℕ) → next_markup true false m 96 ≡ []
grave-none [] = refl
grave-none (c ∷ m) =
    ap (λ (x : Bool). longer_markup x false (c ∷ m) 96) (begins-none (c ∷ m))
    ∙ ap (λ (x : Bool). if x then c ∷ m else begun_markup false 96) (and-none (bytes_eq (c ∷ m) (codes "--")))

grave-byte : (b : ℕ) → Tests class.GraveAccent b → (m : List ℕ) → next_markup true false m (to_ascii_lowercase b) ≡ []
grave-byte b t m = subst (λ (x : ℕ). next_markup true false m (to_ascii_lowercase x) ≡ []) (sym (eqb-true b 96 t.grave)) (grave-none m)

ends-literal : (fs m y : List ℕ) (b n k l : ℕ) → m ≡ [] → Within (point fs (Code sense.Div)) [] m y n k l b
ends-literal [] m y b n k l e = rw e refl
ends-literal (j ∷ fs) m y b n k l e = refl

template-goes : (taken d : Bool) (i : ScriptEscape) (c : ScriptClass) (b : ℕ) → Tests c b → (j : ℕ) (fs m y : List ℕ) (n k l : ℕ)
    → Within (next_template taken i d c b (j ∷ fs)) [] (next_markup true false m (to_ascii_lowercase b)) y n k l b
template-goes true d i c b t j fs m y n k l = refl
template-goes false true i class.GraveAccent b t j fs m y n k l = ends-literal fs _ y b n k l (grave-byte b t m)
template-goes false false i class.GraveAccent b t j fs m y n k l = ends-literal fs _ y b n k l (grave-byte b t m)
template-goes false true i class.OpenBrace b t j fs m y n k l = refl
template-goes false false i class.OpenBrace b t j fs m y n k l = refl
template-goes false true i class.Dollar b t j fs m y n k l = refl
template-goes false false i class.Dollar b t j fs m y n k l = refl
template-goes false true i _ b t j fs m y n k l = refl
template-goes false false i _ b t j fs m y n k l = refl

-- Elsewhere in the code of a literal, a byte leaves it open.
abbrev Inside : ScriptPoint → Type 0
Inside p = is_empty p.literals ≡ false

opens-inside : (x : Bool) (j : ℕ) (fs : List ℕ) → Inside (literal_opens x (j ∷ fs))
opens-inside true j fs = refl
opens-inside false j fs = refl

closes-inside : (j : ℕ) (fs : List ℕ) → Inside (brace_closes (j ∷ fs))
closes-inside zero fs = refl
closes-inside (suc j) fs = refl

code-inside : (s : Sense) (c : ScriptClass) (b j : ℕ) (fs : List ℕ) → Inside (next_code s c b (j ∷ fs))
code-inside s class.GraveAccent b j fs = opens-inside _ j fs
code-inside s class.CloseBrace b j fs = closes-inside j fs
code-inside s _ b j fs = refl

word-inside : (x : Bool) (w : List ℕ) (c : ScriptClass) (b j : ℕ) (fs : List ℕ) → Inside (next_script_word x w c b (j ∷ fs))
word-inside true w c b j fs = refl
word-inside false w c b j fs = code-inside (sense_after w) c b j fs

number-inside : (x : Bool) (c : ScriptClass) (b j : ℕ) (fs : List ℕ) → Inside (next_script_number x c b (j ∷ fs))
number-inside true c b j fs = refl
number-inside false c b j fs = code-inside sense.Div c b j fs

pluses-inside : (odd : Bool) (c : ScriptClass) (b j : ℕ) (fs : List ℕ) → Inside (next_pluses odd c b (j ∷ fs))
pluses-inside odd class.Plus b j fs = refl
pluses-inside odd c b j fs = code-inside (sense_if_odd odd) c b j fs

minuses-inside : (odd : Bool) (c : ScriptClass) (b j : ℕ) (fs : List ℕ) → Inside (next_minuses odd c b (j ∷ fs))
minuses-inside odd class.Minus b j fs = refl
minuses-inside odd c b j fs = code-inside (sense_if_odd odd) c b j fs

div-inside : (c : ScriptClass) (b j : ℕ) (fs : List ℕ) → Inside (next_slash sense.Div c b (j ∷ fs))
div-inside class.Solidus b j fs = refl
div-inside class.Asterisk b j fs = refl
div-inside c b j fs = code-inside sense.Re c b j fs

brace-inside : (c : ScriptClass) (b j : ℕ) (fs : List ℕ) → Inside (next_slash sense.Brace c b (j ∷ fs))
brace-inside class.Solidus b j fs = refl
brace-inside class.Asterisk b j fs = refl
brace-inside c b j fs = code-inside sense.Re c b j fs

line-inside : (s : Sense) (c : ScriptClass) (b j : ℕ) (fs : List ℕ) → Inside (script_next (j ∷ fs) (LineComment s) c b)
line-inside s class.LineEnd b j fs = refl
line-inside s _ b j fs = refl

step-inside : (a : At) → tells_white_apart a ≡ true → (c : ScriptClass) (b j : ℕ) (fs : List ℕ) → Inside (script_next (j ∷ fs) a c b)
step-inside (Code s) w c b j fs = code-inside s c b j fs
step-inside (Word x) w c b j fs = word-inside (is_word c) x c b j fs
step-inside Number w c b j fs = number-inside (is_number c) c b j fs
step-inside (Pluses odd) w c b j fs = pluses-inside odd c b j fs
step-inside (Minuses odd) w c b j fs = minuses-inside odd c b j fs
step-inside (Slash sense.Re) w c b j fs = absurd (no (sym w))
step-inside (Slash sense.Div) w c b j fs = div-inside c b j fs
step-inside (Slash sense.Brace) w c b j fs = brace-inside c b j fs
step-inside (LineComment s) w c b j fs = line-inside s c b j fs
step-inside (BlockComment s star) w c b j fs = absurd (no (sym w))
step-inside (InString q e) w c b j fs = absurd (no (sym w))
step-inside (InRegexp k e) w c b j fs = absurd (no (sym w))
step-inside (InTemplate e d) w c b j fs = absurd (no (sym w))
step-inside TooDeep w c b j fs = absurd (no (sym w))

white-inside : (a : At) (h : List ℕ) (b j : ℕ) (fs : List ℕ) → tells_white_apart a ≡ true → Inside (points (read_at true h (class_of b) b) (point (j ∷ fs) a))
white-inside a h b j fs w = elim (cases_lt b 128) [
  | inl low ↦
      let r = letters-lead (j ∷ fs) h a w in
      let there = ap (λ (xs : List ClassedByte). points xs (point (j ∷ fs) a)) (low-released h b low)
      ∙ (points-append (classed_as class.Letter h) (classed (class_of b) b ∷ []) (point (j ∷ fs) a) ∙ ap (points (classed (class_of b) b ∷ [])) r.there) in
      subst Inside (sym there) (step-inside r.at r.white (class_of b) b j fs)
  | inr high ↦ (let r = high-leads (j ∷ fs) h b a w high in subst Inside (sym r.there) refl)
]

regexp-inside : (taken k : Bool) (e : ScriptEscape) (c : ScriptClass) (b j : ℕ) (fs : List ℕ) → Inside (next_regexp taken k e c b (j ∷ fs))
regexp-inside taken k e class.LineEnd b j fs = refl
regexp-inside true k e _ b j fs = refl
regexp-inside false true e class.OpenBracket b j fs = refl
regexp-inside false false e class.OpenBracket b j fs = refl
regexp-inside false true e class.CloseBracket b j fs = refl
regexp-inside false false e class.CloseBracket b j fs = refl
regexp-inside false false e class.Solidus b j fs = refl
regexp-inside false true e _ b j fs = refl
regexp-inside false false e _ b j fs = refl

slash-inside : (c : ScriptClass) (b j : ℕ) (fs : List ℕ) → Inside (next_slash sense.Re c b (j ∷ fs))
slash-inside class.Solidus b j fs = refl
slash-inside class.Asterisk b j fs = refl
slash-inside c b j fs = regexp-inside false false NoEscape c b j fs

string-inside : (taken q : Bool) (e : ScriptEscape) (c : ScriptClass) (b j : ℕ) (fs : List ℕ) → Inside (next_script_string taken q e c b (j ∷ fs))
string-inside true q e c b j fs = refl
string-inside false true e class.QuotationMark b j fs = refl
string-inside false true e class.LineEnd b j fs = refl
string-inside false true e _ b j fs = refl
string-inside false false e class.Apostrophe b j fs = refl
string-inside false false e class.LineEnd b j fs = refl
string-inside false false e _ b j fs = refl

block-inside : (s : Sense) (star : Bool) (c : ScriptClass) (j : ℕ) (fs : List ℕ) → Inside (next_block s star c (j ∷ fs))
block-inside s true class.Solidus j fs = refl
block-inside s false class.Solidus j fs = refl
block-inside s star class.Asterisk j fs = refl
block-inside s true _ j fs = refl
block-inside s false _ j fs = refl

open-within : (v : ScriptState) → is_empty v.literals ≡ false → is_script_within v ≡ true
open-within v h = rw h refl

inside-fed : (a : At) (j : ℕ) (fs h m e : List ℕ) (f : Bool) (n k l b : ℕ) → fed-within (j ∷ fs) a h m e f n k l b
inside-fed (Code s) j fs h m e f n k l b = open-within (feed_script (parts (j ∷ fs) (Code s) h m e f n k l) b) (white-inside (Code s) h b j fs refl)
inside-fed (Word w) j fs h m e f n k l b = open-within (feed_script (parts (j ∷ fs) (Word w) h m e f n k l) b) (white-inside (Word w) h b j fs refl)
inside-fed Number j fs h m e f n k l b = open-within (feed_script (parts (j ∷ fs) Number h m e f n k l) b) (white-inside Number h b j fs refl)
inside-fed (Pluses odd) j fs h m e f n k l b = open-within (feed_script (parts (j ∷ fs) (Pluses odd) h m e f n k l) b) (white-inside (Pluses odd) h b j fs refl)
inside-fed (Minuses odd) j fs h m e f n k l b = open-within (feed_script (parts (j ∷ fs) (Minuses odd) h m e f n k l) b) (white-inside (Minuses odd) h b j fs refl)
inside-fed (Slash sense.Re) j fs h m e f n k l b = open-within (feed_script (parts (j ∷ fs) (Slash sense.Re) h m e f n k l) b) (slash-inside (class_of b) b j fs)
inside-fed (Slash sense.Div) j fs h m e f n k l b = open-within (feed_script (parts (j ∷ fs) (Slash sense.Div) h m e f n k l) b) (white-inside (Slash sense.Div) h b j fs refl)
inside-fed (Slash sense.Brace) j fs h m e f n k l b = open-within (feed_script (parts (j ∷ fs) (Slash sense.Brace) h m e f n k l) b) (white-inside (Slash sense.Brace) h b j fs refl)
inside-fed (LineComment s) j fs h m e f n k l b = open-within (feed_script (parts (j ∷ fs) (LineComment s) h m e f n k l) b) (white-inside (LineComment s) h b j fs refl)
inside-fed (BlockComment s star) j fs h m e f n k l b = open-within (feed_script (parts (j ∷ fs) (BlockComment s star) h m e f n k l) b) (block-inside s star (class_of b) j fs)
inside-fed (InString q i) j fs h m e f n k l b =
    open-within (feed_script (parts (j ∷ fs) (InString q i) h m e f n k l) b) (string-inside (is_taken_in_string i b) q i (class_of b) b j fs)
inside-fed (InRegexp y i) j fs h m e f n k l b =
    open-within (feed_script (parts (j ∷ fs) (InRegexp y i) h m e f n k l) b) (regexp-inside (is_taken_in_script i) y i (class_of b) b j fs)
inside-fed (InTemplate i d) j fs h m e f n k l b = template-goes (is_taken_in_script i) d i (class_of b) b (tests-of b) j fs m e n k l
inside-fed TooDeep j fs h m e f n k l b = refl

-- what is refused of markup
behind-first : (o p : Option Cause) → first_script_cause o p ≡ None → p ≡ None
behind-first None p h = h
behind-first (Some x) p h = cc

not-html : (x : Bool) (m : List ℕ) → (if x then cause HtmlInScript (length m) (length m) else None) ≡ None → x ≡ false
not-html true m h = cc
not-html false m h = refl

by-literals : (fs : List ℕ) (a : At) (h m e : List ℕ) (f : Bool) (n k l b : ℕ) (element : Bool) → is_script_within (parts fs a h m e f n k l) ≡ true
    → refusal_outside fs element (parts fs a h m e f n k l) (class_of b) b ≡ None → fed-within fs a h m e f n k l b
by-literals [] a h m e f n k l b element i r =
    outside-fed a h m e f n k l b (fits-of a h m e f n k l i)
    (not-html (refused (marks a m b)) m
    (behind-first (line_refusal a (class_of b) b) (markup_refusal (parts [] a h m e f n k l) b)
    (behind-first (slash_refusal a (class_of b)) (first_script_cause (line_refusal a (class_of b) b) (markup_refusal (parts [] a h m e f n k l) b)) r)))
by-literals (j ∷ fs) a h m e f n k l b element i r = inside-fed a j fs h m e f n k l b

abbrev parts-of : ScriptState → ScriptState
parts-of v = parts v.literals v.at v.held v.trail.markup v.trail.escape v.trail.fresh v.trail.brace v.trail.bracket v.trail.literal

-- what is refused does not depend on the part of a comment
refused-by-parts : (fs : List ℕ) (element : Bool) (v : ScriptState) (c : ScriptClass) (b : ℕ) → refusal_outside fs element (parts-of v) c b ≡ refusal_outside fs element v c b
refused-by-parts [] element v c b = refl
refused-by-parts (j ∷ fs) element v c b = refl

pub within-fed : (element : Bool) (v : ScriptState) (b : ℕ) → is_script_within v ≡ true → refusal_outside v.literals element v (class_of b) b ≡ None → is_script_within (feed_script v b) ≡ true
within-fed element v b i r = by-literals v.literals v.at v.held v.trail.markup v.trail.escape v.trail.fresh v.trail.brace v.trail.bracket v.trail.literal b element i
    (refused-by-parts v.literals element v (class_of b) b ∙ r)
