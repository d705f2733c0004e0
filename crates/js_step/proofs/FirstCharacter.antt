-- The first character of a text, on one path.
use Rattle.std.proofs.Common.{◌≡◌, ◌∙◌, ℕ, ◌==◌, Bool, true, false, not, ◌&&◌, ◌||◌, nat_lt, codes, List, [], ◌∷◌, Option, Some, None, length, if◌then◌else◌, refl, sym, ap, subst, arith}
use Rattle.std.proofs.lemmas.Bool.{eqb-true}
use Rattle.std.proofs.lemmas.Bool.Decides.{nat_tests}
use Rattle.std.specs.Char.{to_ascii_lowercase}
use Rattle.js_lexer.specs.Classes.{class_of}
use Rattle.js_lexer.specs.Feeding.{tells_white_apart, read_at, held_at, points, feed_script}
use Rattle.js_lexer.specs.Holes.{script_after_cut, script_after_hole}
use Rattle.js_lexer.specs.Refusals.{Cause, cause, SplitToken, HtmlInScript, first_script_cause, refusal_outside, splits, splits_first, slash_refusal, line_refusal, is_one_of, markup_refusal, unless_in_character, script_refuses, script_refuses_cut, refuses_end}
use Rattle.js_lexer.specs.Spots.{Spot, script_spot}
use Rattle.js_lexer.specs.States.{NoEscape, At, Code, Word, Number, Pluses, Minuses, Slash, LineComment, BlockComment, InString, InRegexp, NoLineYet, ScriptPoint, point, ScriptState}
use Rattle.js_lexer.specs.Steps.{is_word, is_number, script_next}
use Rattle.js_lexer.specs.Trails.{is_empty, is_markup_code, next_markup, begun_markup, markup_after, escape_after, brace_after, bracket_after, literal_after, lines_after}
use Rattle.js_lexer.specs.WhiteSpace.{ClassedByte, released, released_by, held_after}
use Rattle.js_lexer.specs.declared.class.ScriptClass.{ScriptClass}
use Rattle.js_lexer.specs.declared.class.ScriptClass.TheVariants as class
use Rattle.js_lexer.specs.declared.sense.Sense.{Sense}
use Rattle.js_lexer.specs.declared.sense.Sense.TheVariants as sense
use Rattle.place_core.specs.declared.js.Js.{Js}
use Rattle.place_core.specs.declared.js_tails.JsTails.{JsTails}
use Rattle.place_core.specs.declared.senses.Senses.{Senses}
use Rattle.js_step.specs.ScriptScans.{ScriptScan, script_scan, script_shared, script_sense_at, script_tail_at, script_star_at, script_senses_next, script_tails_next, script_scan_next, script_goes_on, script_first_goes_on, script_two_senses, script_senses_differ, script_scan_error, script_scan_place, script_scan_start, script_at_hole}
use Rattle.js_step.specs.ScriptScanLaws.{script_alone, script_begun_at, script_alone_before, EndsBefore, ends_code, ends_less, ends_hash, ends_word, ends_number, ends_pluses, ends_minuses, ends_minus, ends_two_minuses, ends_regexp_slash, ends_slash, ends_line, ends_block, ends_string, ends_regexp, script_before, IsBeforeText, before_text, OneScriptBefore, ScriptsBeginAsOne}
use Rattle.js_step.proofs.OneScriptPath.{given, own, cut-of, senses-alone, own-sense, two-senses, alone-differ, slash-error, own-place, place-at, start-at, hole-at, own-spot, own-held}
use Rattle.place_core.specs.place.ScriptParts.{script_tails, script_no_tails, script_senses}

no : true ≡ false → ⊥
no e = cc

-- what goes on with what the path has ended in
code-splits : (s : Sense) (c : ScriptClass) → script_goes_on script_no_tails false c ≡ splits (Code s) [] c
code-splits s class.Solidus = refl
code-splits s class.ExclamationMark = refl
code-splits s _ = refl

less-splits : (s : Sense) (c : ScriptClass) → script_goes_on (script_tails (script_tail_at (Code s) (codes "<"))) false c ≡ splits (Code s) (codes "<") c
less-splits s class.Solidus = refl
less-splits s class.ExclamationMark = refl
less-splits s _ = refl

hash-splits : (s : Sense) (c : ScriptClass) → script_goes_on (script_tails (script_tail_at (Code s) (codes "#"))) false c ≡ splits (Code s) (codes "#") c
hash-splits s class.Solidus = refl
hash-splits s class.ExclamationMark = refl
hash-splits s _ = refl

word-splits : (w m : List ℕ) (c : ScriptClass) → script_goes_on (script_tails (script_tail_at (Word w) m)) false c ≡ splits (Word w) m c
word-splits w m class.Letter = refl
word-splits w m class.Digit = refl
word-splits w m class.Dollar = refl
word-splits w m class.Backslash = refl
word-splits w m _ = refl

number-splits : (m : List ℕ) (c : ScriptClass) → script_goes_on (script_tails (script_tail_at Number m)) false c ≡ splits Number m c
number-splits m class.Letter = refl
number-splits m class.Digit = refl
number-splits m class.Dollar = refl
number-splits m class.Backslash = refl
number-splits m class.Dot = refl
number-splits m _ = refl

plus-splits : (odd : Bool) (m : List ℕ) (c : ScriptClass) → script_goes_on (script_tails (script_tail_at (Pluses odd) m)) false c ≡ splits (Pluses odd) m c
plus-splits odd m class.Plus = refl
plus-splits odd m _ = refl

minus-splits : (odd : Bool) (m : List ℕ) (c : ScriptClass) → script_goes_on (script_tails (script_tail_at (Minuses odd) m)) false c ≡ splits (Minuses odd) m c
minus-splits odd m class.Minus = refl
minus-splits odd m class.GreaterThan = refl
minus-splits odd m _ = refl

slash-splits : (s : Sense) (m : List ℕ) (c : ScriptClass) → script_goes_on (script_tails (script_tail_at (Slash s) m)) false c ≡ splits (Slash s) m c
slash-splits s m class.Solidus = refl
slash-splits s m class.Asterisk = refl
slash-splits s m _ = refl

block-splits : (s : Sense) (star : Bool) (c : ScriptClass) → script_goes_on script_no_tails star c ≡ splits (BlockComment s star) [] c
block-splits s true class.Solidus = refl
block-splits s false class.Solidus = refl
block-splits s true _ = refl
block-splits s false _ = refl

line-splits : (s : Sense) (c : ScriptClass) → script_goes_on script_no_tails false c ≡ splits (LineComment s) [] c
line-splits s class.Solidus = refl
line-splits s _ = refl

string-splits : (q : Bool) (c : ScriptClass) → script_goes_on script_no_tails false c ≡ splits (InString q NoEscape) [] c
string-splits q class.Solidus = refl
string-splits q _ = refl

regexp-splits : (c : ScriptClass) → script_goes_on script_no_tails false c ≡ splits (InRegexp false NoEscape) [] c
regexp-splits class.Solidus = refl
regexp-splits _ = refl

same-splits : (a : At) (h m : List ℕ) → EndsBefore a h m → (c : ScriptClass) → script_goes_on (script_tails (script_tail_at a m)) (script_star_at a) c ≡ splits a m c
same-splits _ _ _ (ends_code s h) c = code-splits s c
same-splits _ _ _ (ends_less s) c = less-splits s c
same-splits _ _ _ (ends_hash s) c = hash-splits s c
same-splits _ _ _ (ends_word w h) c = word-splits w [] c
same-splits _ _ _ (ends_number h) c = number-splits [] c
same-splits _ _ _ (ends_pluses odd h) c = plus-splits odd [] c
same-splits _ _ _ (ends_minuses odd h) c = minus-splits odd [] c
same-splits _ _ _ (ends_minus odd) c = minus-splits odd (codes "-") c
same-splits _ _ _ (ends_two_minuses odd) c = minus-splits odd (codes "--") c
same-splits _ _ _ ends_regexp_slash c = slash-splits sense.Re [] c
same-splits _ _ _ (ends_slash h) c = slash-splits sense.Div [] c
same-splits _ _ _ (ends_line s h) c = line-splits s c
same-splits _ _ _ (ends_block s star) c = block-splits s star c
same-splits _ _ _ (ends_string q) c = string-splits q c
same-splits _ _ _ ends_regexp c = regexp-splits c

first-splits : (a : At) (h m : List ℕ) → EndsBefore a h m → (xs : List ClassedByte) → script_first_goes_on (script_tails (script_tail_at a m)) (script_star_at a) xs ≡ splits_first a m xs
first-splits a h m e [] = refl
first-splits a h m e (x ∷ xs) = same-splits a h m e x.class

same-white : (a : At) (h m : List ℕ) → EndsBefore a h m → tells_white_apart (script_begun_at a) ≡ tells_white_apart a
same-white _ _ _ (ends_code s h) = refl
same-white _ _ _ (ends_less s) = refl
same-white _ _ _ (ends_hash s) = refl
same-white _ _ _ (ends_word w h) = refl
same-white _ _ _ (ends_number h) = refl
same-white _ _ _ (ends_pluses odd h) = refl
same-white _ _ _ (ends_minuses odd h) = refl
same-white _ _ _ (ends_minus odd) = refl
same-white _ _ _ (ends_two_minuses odd) = refl
same-white _ _ _ ends_regexp_slash = refl
same-white _ _ _ (ends_slash h) = refl
same-white _ _ _ (ends_line s h) = refl
same-white _ _ _ (ends_block s star) = refl
same-white _ _ _ (ends_string q) = refl
same-white _ _ _ ends_regexp = refl

-- where a character leads that does not go on with it
word-steps : (w : List ℕ) (c : ScriptClass) (b : ℕ) → is_word c ≡ false → script_next [] (Word w) c b ≡ script_next [] (script_begun_at (Word w)) c b
word-steps w c b h = rw h refl

number-steps : (c : ScriptClass) (b : ℕ) → is_number c ≡ false → script_next [] Number c b ≡ script_next [] (script_begun_at Number) c b
number-steps c b h = rw h refl

plus-steps : (odd : Bool) (c : ScriptClass) (b : ℕ) → splits (Pluses odd) [] c ≡ false → script_next [] (Pluses odd) c b ≡ script_next [] (script_begun_at (Pluses odd)) c b
plus-steps odd class.Plus b h = absurd (no h)
plus-steps odd _ b h = refl

minus-steps : (odd : Bool) (m : List ℕ) (c : ScriptClass) (b : ℕ) → splits (Minuses odd) m c ≡ false → script_next [] (Minuses odd) c b ≡ script_next [] (script_begun_at (Minuses odd)) c b
minus-steps odd m class.Minus b h = absurd (no h)
minus-steps odd m _ b h = refl

regexp-slash-steps : (c : ScriptClass) (b : ℕ) → splits (Slash sense.Re) [] c ≡ false → script_next [] (Slash sense.Re) c b ≡ script_next [] (InRegexp false NoEscape) c b
regexp-slash-steps class.Solidus b h = absurd (no h)
regexp-slash-steps class.Asterisk b h = absurd (no h)
regexp-slash-steps _ b h = refl

slash-steps : (c : ScriptClass) (b : ℕ) → splits (Slash sense.Div) [] c ≡ false → script_next [] (Slash sense.Div) c b ≡ script_next [] (Code sense.Re) c b
slash-steps class.Solidus b h = absurd (no h)
slash-steps class.Asterisk b h = absurd (no h)
slash-steps _ b h = refl

block-steps : (s : Sense) (star : Bool) (c : ScriptClass) (b : ℕ) → splits (BlockComment s star) [] c ≡ false → script_next [] (BlockComment s star) c b ≡ script_next [] (BlockComment s false) c b
block-steps s false c b h = refl
block-steps s true class.Solidus b h = absurd (no h)
block-steps s true class.Asterisk b h = refl
block-steps s true _ b h = refl

same-steps : (a : At) (h m : List ℕ) → EndsBefore a h m → (c : ScriptClass) (b : ℕ) → splits a m c ≡ false → script_next [] a c b ≡ script_next [] (script_begun_at a) c b
same-steps _ _ _ (ends_code s h) c b n = refl
same-steps _ _ _ (ends_less s) c b n = refl
same-steps _ _ _ (ends_hash s) c b n = refl
same-steps _ _ _ (ends_word w h) c b n = word-steps w c b n
same-steps _ _ _ (ends_number h) c b n = number-steps c b n
same-steps _ _ _ (ends_pluses odd h) c b n = plus-steps odd c b n
same-steps _ _ _ (ends_minuses odd h) c b n = minus-steps odd [] c b n
same-steps _ _ _ (ends_minus odd) c b n = minus-steps odd (codes "-") c b n
same-steps _ _ _ (ends_two_minuses odd) c b n = minus-steps odd (codes "--") c b n
same-steps _ _ _ ends_regexp_slash c b n = regexp-slash-steps c b n
same-steps _ _ _ (ends_slash h) c b n = slash-steps c b n
same-steps _ _ _ (ends_line s h) c b n = refl
same-steps _ _ _ (ends_block s star) c b n = block-steps s star c b n
same-steps _ _ _ (ends_string q) c b n = refl
same-steps _ _ _ ends_regexp c b n = refl

-- the bytes of HTML
lower-33 : (b : ℕ) → (to_ascii_lowercase b == 33) ≡ (b == 33)
lower-33 b = grind (arith, nat_tests)

lower-45 : (b : ℕ) → (to_ascii_lowercase b == 45) ≡ (b == 45)
lower-45 b = grind (arith, nat_tests)

lower-47 : (b : ℕ) → (to_ascii_lowercase b == 47) ≡ (b == 47)
lower-47 b = grind (arith, nat_tests)

lower-62 : (b : ℕ) → (to_ascii_lowercase b == 62) ≡ (b == 62)
lower-62 b = grind (arith, nat_tests)

abbrev first-of : At → List ℕ → ℕ → Bool
first-of a m b = splits_first a m (read_at (tells_white_apart a) [] (class_of b) b)

less-33 : (s : Sense) → first-of (Code s) (codes "<") 33 ≡ true
unfolding class_of released
less-33 s = refl

less-47 : (s : Sense) → first-of (Code s) (codes "<") 47 ≡ true
unfolding class_of released
less-47 s = refl

hash-33 : (s : Sense) → first-of (Code s) (codes "#") 33 ≡ true
unfolding class_of released
hash-33 s = refl

minus-45 : (odd : Bool) (m : List ℕ) → first-of (Minuses odd) m 45 ≡ true
unfolding class_of released
minus-45 odd m = refl

minus-62 : (odd : Bool) (m : List ℕ) → first-of (Minuses odd) m 62 ≡ true
unfolding class_of released
minus-62 odd m = refl

apart-from : (k : ℕ) (a : At) (m : List ℕ) (b : ℕ) → first-of a m k ≡ true → first-of a m b ≡ false → (x : Bool) → (b == k) ≡ x → x ≡ false
apart-from k a m b t f true e = absurd (no (sym t ∙ (ap (first-of a m) (sym (eqb-true b k e)) ∙ f)))
apart-from k a m b t f false e = refl

hash-marks : (l : ℕ) → (l == 33) ≡ false → next_markup false true (codes "#") l ≡ begun_markup true l
hash-marks l h = rw h refl

no-minus : (l : ℕ) → (l == 45) ≡ false → begun_markup true l ≡ (if l == 60 || (l == 35 || false) then l ∷ [] else [])
no-minus l h = ap (λ (x : Bool). if l == 60 || (l == 35 || x) then l ∷ [] else []) h

minus-marks : (l : ℕ) → (l == 45) ≡ false → next_markup false true (codes "-") l ≡ begun_markup true l
minus-marks l h = rw h (no-minus l h)

minuses-marks : (l : ℕ) → (l == 45) ≡ false → (l == 62) ≡ false → next_markup false true (codes "--") l ≡ begun_markup true l
minuses-marks l h g = rw (h, g) (ap (λ (x : Bool). if x then codes "--" else begun_markup true l) h ∙ no-minus l h)

less-marks : (l : ℕ) → (l == 33) ≡ false → (l == 47) ≡ false → next_markup false true (codes "<") l ≡ begun_markup true l
less-marks l f g = rw (f, g) refl

abbrev marked : At → List ℕ → ℕ → List ℕ
marked a m b = markup_after false a m b

same-marks : (a : At) (h m : List ℕ) → EndsBefore a h m → (b : ℕ) → splits_first a m (read_at (tells_white_apart a) h (class_of b) b) ≡ false
    → marked a m b ≡ marked (script_begun_at a) [] b
same-marks _ _ _ (ends_code s h) b n = refl
same-marks _ _ _ (ends_less s) b n =
    less-marks (to_ascii_lowercase b) (lower-33 b ∙ apart-from 33 (Code s) (codes "<") b (less-33 s) n (b == 33) refl)
    (lower-47 b ∙ apart-from 47 (Code s) (codes "<") b (less-47 s) n (b == 47) refl)
same-marks _ _ _ (ends_hash s) b n = hash-marks (to_ascii_lowercase b) (lower-33 b ∙ apart-from 33 (Code s) (codes "#") b (hash-33 s) n (b == 33) refl)
same-marks _ _ _ (ends_word w h) b n = refl
same-marks _ _ _ (ends_number h) b n = refl
same-marks _ _ _ (ends_pluses odd h) b n = refl
same-marks _ _ _ (ends_minuses odd h) b n = refl
same-marks _ _ _ (ends_minus odd) b n = minus-marks (to_ascii_lowercase b) (lower-45 b ∙ apart-from 45 (Minuses odd) (codes "-") b (minus-45 odd (codes "-")) n (b == 45) refl)
same-marks _ _ _ (ends_two_minuses odd) b n =
    minuses-marks (to_ascii_lowercase b) (lower-45 b ∙ apart-from 45 (Minuses odd) (codes "--") b (minus-45 odd (codes "--")) n (b == 45) refl)
    (lower-62 b ∙ apart-from 62 (Minuses odd) (codes "--") b (minus-62 odd (codes "--")) n (b == 62) refl)
same-marks _ _ _ ends_regexp_slash b n = refl
same-marks _ _ _ (ends_slash h) b n = refl
same-marks _ _ _ (ends_line s h) b n = refl
same-marks _ _ _ (ends_block s star) b n = refl
same-marks _ _ _ (ends_string q) b n = refl
same-marks _ _ _ ends_regexp b n = refl

-- what else is refused
same-slash : (a : At) (h m : List ℕ) → EndsBefore a h m → (c : ScriptClass) → slash_refusal (script_begun_at a) c ≡ slash_refusal a c
same-slash _ _ _ (ends_code s h) c = refl
same-slash _ _ _ (ends_less s) c = refl
same-slash _ _ _ (ends_hash s) c = refl
same-slash _ _ _ (ends_word w h) c = refl
same-slash _ _ _ (ends_number h) c = refl
same-slash _ _ _ (ends_pluses odd h) c = refl
same-slash _ _ _ (ends_minuses odd h) c = refl
same-slash _ _ _ (ends_minus odd) c = refl
same-slash _ _ _ (ends_two_minuses odd) c = refl
same-slash _ _ _ ends_regexp_slash c = refl
same-slash _ _ _ (ends_slash h) c = refl
same-slash _ _ _ (ends_line s h) c = refl
same-slash _ _ _ (ends_block s star) c = refl
same-slash _ _ _ (ends_string q) c = refl
same-slash _ _ _ ends_regexp c = refl

same-line : (a : At) (h m : List ℕ) → EndsBefore a h m → (c : ScriptClass) (b : ℕ) → line_refusal (script_begun_at a) c b ≡ line_refusal a c b
same-line _ _ _ (ends_code s h) c b = refl
same-line _ _ _ (ends_less s) c b = refl
same-line _ _ _ (ends_hash s) c b = refl
same-line _ _ _ (ends_word w h) c b = refl
same-line _ _ _ (ends_number h) c b = refl
same-line _ _ _ (ends_pluses odd h) c b = refl
same-line _ _ _ (ends_minuses odd h) c b = refl
same-line _ _ _ (ends_minus odd) c b = refl
same-line _ _ _ (ends_two_minuses odd) c b = refl
same-line _ _ _ ends_regexp_slash c b = refl
same-line _ _ _ (ends_slash h) c b = refl
same-line _ _ _ (ends_line s h) c b = refl
same-line _ _ _ (ends_block s star) c b = refl
same-line _ _ _ (ends_string q) c b = refl
same-line _ _ _ ends_regexp c b = refl

abbrev words : List (List ℕ)
words = codes "<!--" ∷ codes "-->" ∷ codes "#!" ∷ []

short : (x y z : Bool) → (x && false || (y && false || (z && false || false))) ≡ false
short true true true = refl
short true true false = refl
short true false true = refl
short true false false = refl
short false true true = refl
short false true false = refl
short false false true = refl
short false false false = refl

one-byte : (l : ℕ) → is_one_of words (l ∷ []) ≡ false
one-byte l = short (l == 60) (l == 45) (l == 35)

begun-short : (x : Bool) (l : ℕ) → is_one_of words (if x then l ∷ [] else []) ≡ false
begun-short true l = one-byte l
begun-short false l = refl

first-short : (in_code : Bool) (l : ℕ) → is_one_of words (begun_markup in_code l) ≡ false
first-short in_code l = begun-short (in_code && (l == 60 || (l == 35 || l == 45))) l

abbrev html-if : Bool → List ℕ → Option Cause
html-if x m = if x then cause HtmlInScript (length m) (length m) else None

html-none : (x : Bool) (m : List ℕ) → x ≡ false → html-if x m ≡ None
html-none true m e = absurd (no e)
html-none false m e = refl

abbrev pub begun-state : At → (h m : List ℕ) → ScriptState
begun-state a h m = (script_alone_before (script_before a h m)).state

begun-html : (a : At) (h m : List ℕ) (b : ℕ) → markup_refusal (begun-state a h m) b ≡ None
begun-html a h m b = html-none _ (begun-state a h m).trail.markup (first-short (is_markup_code false (script_begun_at a)) (to_ascii_lowercase b))

own-html : (a : At) (h m : List ℕ) → EndsBefore a h m → (b : ℕ) → splits_first a m (read_at (tells_white_apart a) h (class_of b) b) ≡ false
    → markup_refusal (script_before a h m) b ≡ None
own-html a h m e b n =
    html-none _ m (ap (is_one_of words) (same-marks a h m e b n) ∙ first-short (is_markup_code false (script_begun_at a)) (to_ascii_lowercase b))

same-outside : (a : At) (h m : List ℕ) → EndsBefore a h m → (element : Bool) (b : ℕ) → splits_first a m (read_at (tells_white_apart a) h (class_of b) b) ≡ false
    → refusal_outside [] element (begun-state a h m) (class_of b) b ≡ refusal_outside [] element (script_before a h m) (class_of b) b
same-outside a h m e element b n =
    ap (λ (o : Option Cause). first_script_cause o (first_script_cause (line_refusal (script_begun_at a) (class_of b) b) (markup_refusal (begun-state a h m) b))) (same-slash a h m e (class_of b))
    ∙ (ap (λ (o : Option Cause). first_script_cause (slash_refusal a (class_of b)) (first_script_cause o (markup_refusal (begun-state a h m) b))) (same-line a h m e (class_of b) b)
    ∙ ap (λ (o : Option Cause). first_script_cause (slash_refusal a (class_of b)) (first_script_cause (line_refusal a (class_of b) b) o)) (begun-html a h m b ∙ sym (own-html a h m e b n)))

abbrev split-if : Bool → List ℕ → Option Cause
split-if x h = if x then cause SplitToken (length h) (length h) else None

behind-split : (x : Bool) (h : List ℕ) (o p : Option Cause) → (x ≡ false → o ≡ p) → first_script_cause (split-if x h) o ≡ first_script_cause (split-if x h) p
behind-split true h o p f = refl
behind-split false h o p f = f refl

abbrev own-tails : At → List ℕ → JsTails
own-tails a m = script_tails (script_tail_at a m)

abbrev error-in : At → (h m : List ℕ) → (element : Bool) → ℕ → Option Cause → ScriptState → Option Cause
error-in a h m element b o w =
    first_script_cause (split-if (script_first_goes_on (own-tails a m) (script_star_at a) (read_at (tells_white_apart w.at) h (class_of b) b)) h)
    (first_script_cause o (refusal_outside [] element w (class_of b) b))

first-error : (a : At) (h m : List ℕ) → EndsBefore a h m → (element : Bool) (b : ℕ) → script_scan_error element (script_alone_before (script_before a h m)) b ≡ script_refuses element (script_before a h m) b
first-error a h m e element b =
    ap (λ (w : ScriptState). error-in a h m element b (script_two_senses (script_senses_differ (script_senses (script_sense_at (script_begun_at a)))) [] (script_begun_at a) (class_of b)) w) (own (begun-state a h m))
    ∙ (ap (λ (o : Option Cause). error-in a h m element b o (begun-state a h m)) (two-senses _ [] (script_begun_at a) (class_of b) (alone-differ (script_sense_at (script_begun_at a))))
    ∙ (ap (λ (t : Bool). first_script_cause (split-if (script_first_goes_on (own-tails a m) (script_star_at a) (read_at t h (class_of b) b)) h) (refusal_outside [] element (begun-state a h m) (class_of b) b))
    (same-white a h m e)
    ∙ (ap (λ (x : Bool). first_script_cause (split-if x h) (refusal_outside [] element (begun-state a h m) (class_of b) b)) (first-splits a h m e (read_at (tells_white_apart a) h (class_of b) b))
    ∙ behind-split (splits_first a m (read_at (tells_white_apart a) h (class_of b) b)) h _ _ (λ n. same-outside a h m e element b n))))

-- where a character leads
abbrev led : Bool → List ℕ → ScriptPoint → List ℕ → ℕ → ScriptState
led some m p h b = record {
  literals = p.literals;
  at = p.at;
  held = h;
  trail = record {
    fresh = not some;
    markup = m;
    escape = escape_after p.at [] b;
    brace = brace_after p.at [] 0 b;
    bracket = bracket_after p.at 0;
    literal = literal_after p.literals 0;
    lines = lines_after p.at (NoLineYet []) b;
  };
}

first-steps : (a : At) (h m : List ℕ) → EndsBefore a h m → (xs : List ClassedByte) → is_empty xs ≡ false → splits_first a m xs ≡ false → points xs (point [] (script_begun_at a)) ≡ points xs (point [] a)
first-steps a h m e [] k n = absurd (no k)
first-steps a h m e (x ∷ xs) k n = ap (points xs) (sym (same-steps a h m e x.class x.byte n))

abbrev led-by : Bool → At → (h m : List ℕ) → ℕ → ScriptState
led-by t a h m b = led (not (is_empty (read_at t h (class_of b) b))) m (points (read_at t h (class_of b) b) (point [] a)) (held_at t h b) b

first-fed : (a : At) (h m : List ℕ) → EndsBefore a h m → (b : ℕ) → is_empty (read_at (tells_white_apart a) h (class_of b) b) ≡ false
    → splits_first a m (read_at (tells_white_apart a) h (class_of b) b) ≡ false → feed_script (begun-state a h m) b ≡ feed_script (script_before a h m) b
first-fed a h m e b k n =
    ap (λ (t : Bool). led-by t (script_begun_at a) h (marked (script_begun_at a) [] b) b) (same-white a h m e)
    ∙ (ap (λ (z : List ℕ). led-by (tells_white_apart a) (script_begun_at a) h z b) (sym (same-marks a h m e b n))
    ∙ ap (λ (p : ScriptPoint). led (not (is_empty (read_at (tells_white_apart a) h (class_of b) b))) (marked a m b) p (held_at (tells_white_apart a) h b) b)
    (first-steps a h m e (read_at (tells_white_apart a) h (class_of b) b) k n))

not-split : (x : Bool) (h : List ℕ) (o : Option Cause) → first_script_cause (split-if x h) o ≡ None → x ≡ false
not-split true h o e = absurd (given _ e)
not-split false h o e = refl

some-read : (x : Bool) → not (not x) ≡ false → x ≡ false
some-read true e = absurd (no e)
some-read false e = refl

abbrev into : At → List ℕ → Senses → ScriptState → ScriptScan
into a m s w = script_scan s (script_tails_next w.trail.fresh (own-tails a m)) (w.trail.fresh && script_star_at a) w

within : (fresh : Bool) (x : JsTails) (star : Bool) (s : Senses) (w : ScriptState) → fresh ≡ false → script_scan s (script_tails_next fresh x) (fresh && star) w ≡ script_scan s script_no_tails false w
within true x star s w e = absurd (no e)
within false x star s w e = refl

first-next : (a : At) (h m : List ℕ) → EndsBefore a h m → (element : Bool) (b : ℕ) → script_refuses element (script_before a h m) b ≡ None → (feed_script (script_before a h m) b).trail.fresh ≡ false
    → script_scan_next (script_alone_before (script_before a h m)) b ≡ script_alone (feed_script (script_before a h m) b)
first-next a h m e element b r f =
    let n : splits_first a m (read_at (tells_white_apart a) h (class_of b) b) ≡ false = not-split _ h (refusal_outside [] element (script_before a h m) (class_of b) b) r in
    let k : is_empty (read_at (tells_white_apart a) h (class_of b) b) ≡ false = some-read _ f in
    let v : ScriptState = begun-state a h m in
    let s : Sense = script_sense_at (script_begun_at a) in
    ap (λ (w : ScriptState). into a m (script_senses_next (script_senses s) v b) (feed_script w b)) (own v)
    ∙ (ap (λ (z : Senses). into a m z (feed_script v b)) (senses-alone s v b)
    ∙ (ap (λ (w : ScriptState). into a m (script_senses (script_sense_at (feed_script w b).at)) (feed_script v b)) (own-sense v)
    ∙ (ap (λ (w : ScriptState). into a m (script_senses (script_sense_at w.at)) w) (first-fed a h m e b k n)
    ∙ within _ (own-tails a m) (script_star_at a) _ (feed_script (script_before a h m) b) f)))

unsplit : (x : Bool) (h : List ℕ) (o : Option Cause) → first_script_cause (split-if x h) o ≡ None → o ≡ None
unsplit true h o e = absurd (given _ e)
unsplit false h o e = e

-- the state in which the paths share the text refuses nothing else, and is led where the path is
pub begun-fed : (a : At) (h m : List ℕ) → EndsBefore a h m → (element : Bool) (b : ℕ) → script_refuses element (script_before a h m) b ≡ None
    → (feed_script (script_before a h m) b).trail.fresh ≡ false
    → (refusal_outside [] element (begun-state a h m) (class_of b) b ≡ None) × (feed_script (begun-state a h m) b ≡ feed_script (script_before a h m) b)
begun-fed a h m e element b r f =
    let n : splits_first a m (read_at (tells_white_apart a) h (class_of b) b) ≡ false = not-split _ h (refusal_outside [] element (script_before a h m) (class_of b) b) r in
    let k : is_empty (read_at (tells_white_apart a) h (class_of b) b) ≡ false = some-read _ f in
    (same-outside a h m e element b n ∙ unsplit _ h (refusal_outside [] element (script_before a h m) (class_of b) b) r, first-fed a h m e b k n)

-- a byte that is held back is past ASCII, and no byte of HTML
past-ascii : (x : Bool) (h : List ℕ) (b : ℕ) → is_empty (released_by x h b) ≡ true → x ≡ false
past-ascii true [] b e = absurd (no (sym e))
past-ascii true (z ∷ h) b e = absurd (no (sym e))
past-ascii false h b e = refl

held-high : (h : List ℕ) (c : ScriptClass) (b : ℕ) → is_empty (read_at true h c b) ≡ true → nat_lt b 128 ≡ false
unfolding released
held-high h c b e = past-ascii (nat_lt b 128) h b e

high-other : (b k : ℕ) → nat_lt b 128 ≡ false → nat_lt k 128 ≡ true → (to_ascii_lowercase b == k) ≡ false
high-other b k h g = grind (h, g, arith, nat_tests)

high-begun : (b : ℕ) → nat_lt b 128 ≡ false → begun_markup true (to_ascii_lowercase b) ≡ []
high-begun b h = rw (high-other b 60 h refl, high-other b 35 h refl, high-other b 45 h refl) refl

high-marks : (a : At) (h m : List ℕ) → EndsBefore a h m → (b : ℕ) → nat_lt b 128 ≡ false → marked a m b ≡ []
high-marks _ _ _ (ends_code s h) b g = high-begun b g
high-marks _ _ _ (ends_less s) b g = less-marks (to_ascii_lowercase b) (high-other b 33 g refl) (high-other b 47 g refl) ∙ high-begun b g
high-marks _ _ _ (ends_hash s) b g = hash-marks (to_ascii_lowercase b) (high-other b 33 g refl) ∙ high-begun b g
high-marks _ _ _ (ends_word w h) b g = high-begun b g
high-marks _ _ _ (ends_number h) b g = high-begun b g
high-marks _ _ _ (ends_pluses odd h) b g = high-begun b g
high-marks _ _ _ (ends_minuses odd h) b g = high-begun b g
high-marks _ _ _ (ends_minus odd) b g = minus-marks (to_ascii_lowercase b) (high-other b 45 g refl) ∙ high-begun b g
high-marks _ _ _ (ends_two_minuses odd) b g = minuses-marks (to_ascii_lowercase b) (high-other b 45 g refl) (high-other b 62 g refl) ∙ high-begun b g
high-marks _ _ _ ends_regexp_slash b g = refl
high-marks _ _ _ (ends_slash h) b g = high-begun b g
high-marks _ _ _ (ends_line s h) b g = refl
high-marks _ _ _ (ends_block s star) b g = refl
high-marks _ _ _ (ends_string q) b g = refl
high-marks _ _ _ ends_regexp b g = refl

high-begun-marks : (a : At) (h m : List ℕ) → EndsBefore a h m → (b : ℕ) → nat_lt b 128 ≡ false → marked (script_begun_at a) [] b ≡ []
high-begun-marks _ _ _ (ends_code s h) b g = high-begun b g
high-begun-marks _ _ _ (ends_less s) b g = high-begun b g
high-begun-marks _ _ _ (ends_hash s) b g = high-begun b g
high-begun-marks _ _ _ (ends_word w h) b g = high-begun b g
high-begun-marks _ _ _ (ends_number h) b g = high-begun b g
high-begun-marks _ _ _ (ends_pluses odd h) b g = high-begun b g
high-begun-marks _ _ _ (ends_minuses odd h) b g = high-begun b g
high-begun-marks _ _ _ (ends_minus odd) b g = high-begun b g
high-begun-marks _ _ _ (ends_two_minuses odd) b g = high-begun b g
high-begun-marks _ _ _ ends_regexp_slash b g = refl
high-begun-marks _ _ _ (ends_slash h) b g = high-begun b g
high-begun-marks _ _ _ (ends_line s h) b g = refl
high-begun-marks _ _ _ (ends_block s star) b g = refl
high-begun-marks _ _ _ (ends_string q) b g = refl
high-begun-marks _ _ _ ends_regexp b g = refl

-- where a byte is held back: the path stays before the text, with the bytes that are held
record Held (a : At) (h m : List ℕ) (b : ℕ) : Type 0 where
  fed : feed_script (script_before a h m) b ≡ script_before a (held_after h b) []
  begun : feed_script (begun-state a h m) b ≡ begun-state a (held_after h b) []
  tails : script_tails_next true (own-tails a m) ≡ own-tails a []
  ends : EndsBefore a (held_after h b) []

none-read : (xs : List ClassedByte) → is_empty xs ≡ true → xs ≡ []
none-read [] e = refl
none-read (x ∷ xs) e = absurd (no (sym e))

abbrev quiet : At → List ℕ → List ℕ → ℕ → List ClassedByte → ScriptState
quiet a m h b xs = led (not (is_empty xs)) m (points xs (point [] a)) h b

hold : (a : At) (h m : List ℕ) → EndsBefore a h m → (b : ℕ) → is_empty (read_at (tells_white_apart a) h (class_of b) b) ≡ true → nat_lt b 128 ≡ false
    → led false [] (point [] a) (held_at (tells_white_apart a) h b) b ≡ script_before a (held_after h b) []
    → led false [] (point [] (script_begun_at a)) (held_at (tells_white_apart a) h b) b ≡ begun-state a (held_after h b) []
    → script_tails_next true (own-tails a m) ≡ own-tails a [] → EndsBefore a (held_after h b) [] → Held a h m b
hold a h m e b k g p q t z = record {
  fed =
      ap (quiet a (marked a m b) (held_at (tells_white_apart a) h b) b) (none-read (read_at (tells_white_apart a) h (class_of b) b) k)
      ∙ (ap (λ (y : List ℕ). led false y (point [] a) (held_at (tells_white_apart a) h b) b) (high-marks a h m e b g) ∙ p);
  begun =
      ap (λ (y : Bool). led-by y (script_begun_at a) h (marked (script_begun_at a) [] b) b) (same-white a h m e)
      ∙ (ap (quiet (script_begun_at a) (marked (script_begun_at a) [] b) (held_at (tells_white_apart a) h b) b)
      (none-read (read_at (tells_white_apart a) h (class_of b) b) k)
      ∙ (ap (λ (y : List ℕ). led false y (point [] (script_begun_at a)) (held_at (tells_white_apart a) h b) b) (high-begun-marks a h m e b g) ∙ q));
  tails = t;
  ends = z;
}

held-by : (a : At) (h m : List ℕ) → EndsBefore a h m → (b : ℕ) → is_empty (read_at (tells_white_apart a) h (class_of b) b) ≡ true → Held a h m b
held-by _ _ _ (ends_code s h) b k = hold (Code s) h [] (ends_code s h) b k (held-high h (class_of b) b k) refl refl refl (ends_code s (held_after h b))
held-by _ _ _ (ends_less s) b k = hold (Code s) [] (codes "<") (ends_less s) b k (held-high [] (class_of b) b k) refl refl refl (ends_code s (held_after [] b))
held-by _ _ _ (ends_hash s) b k = hold (Code s) [] (codes "#") (ends_hash s) b k (held-high [] (class_of b) b k) refl refl refl (ends_code s (held_after [] b))
held-by _ _ _ (ends_word w h) b k = hold (Word w) h [] (ends_word w h) b k (held-high h (class_of b) b k) refl refl refl (ends_word w (held_after h b))
held-by _ _ _ (ends_number h) b k = hold Number h [] (ends_number h) b k (held-high h (class_of b) b k) refl refl refl (ends_number (held_after h b))
held-by _ _ _ (ends_pluses odd h) b k = hold (Pluses odd) h [] (ends_pluses odd h) b k (held-high h (class_of b) b k) refl refl refl (ends_pluses odd (held_after h b))
held-by _ _ _ (ends_minuses odd h) b k = hold (Minuses odd) h [] (ends_minuses odd h) b k (held-high h (class_of b) b k) refl refl refl (ends_minuses odd (held_after h b))
held-by _ _ _ (ends_minus odd) b k = hold (Minuses odd) [] (codes "-") (ends_minus odd) b k (held-high [] (class_of b) b k) refl refl refl (ends_minuses odd (held_after [] b))
held-by _ _ _ (ends_two_minuses odd) b k = hold (Minuses odd) [] (codes "--") (ends_two_minuses odd) b k (held-high [] (class_of b) b k) refl refl refl (ends_minuses odd (held_after [] b))
held-by _ _ _ ends_regexp_slash b k = absurd (no (sym k))
held-by _ _ _ (ends_slash h) b k = hold (Slash sense.Div) h [] (ends_slash h) b k (held-high h (class_of b) b k) refl refl refl (ends_slash (held_after h b))
held-by _ _ _ (ends_line s h) b k = hold (LineComment s) h [] (ends_line s h) b k (held-high h (class_of b) b k) refl refl refl (ends_line s (held_after h b))
held-by _ _ _ (ends_block s star) b k = absurd (no (sym k))
held-by _ _ _ (ends_string q) b k = absurd (no (sym k))
held-by _ _ _ ends_regexp b k = absurd (no (sym k))

all-held : (x : Bool) → not (not x) ≡ true → x ≡ true
all-held true e = refl
all-held false e = absurd (no (sym e))

first-held : (a : At) (h m : List ℕ) → EndsBefore a h m → (b : ℕ) → (feed_script (script_before a h m) b).trail.fresh ≡ true → Held a h m b
first-held a h m e b f = held-by a h m e b (all-held _ f)

still-before : (a : At) (h m : List ℕ) → EndsBefore a h m → (b : ℕ) → (feed_script (script_before a h m) b).trail.fresh ≡ true
    → script_scan_next (script_alone_before (script_before a h m)) b ≡ script_alone_before (feed_script (script_before a h m) b)
still-before a h m e b f =
    let held : Held a h m b = first-held a h m e b f in
    let v : ScriptState = begun-state a h m in
    let s : Sense = script_sense_at (script_begun_at a) in
    ap (λ (w : ScriptState). into a m (script_senses_next (script_senses s) v b) (feed_script w b)) (own v)
    ∙ (ap (λ (z : Senses). into a m z (feed_script v b)) (senses-alone s v b)
    ∙ (ap (λ (w : ScriptState). into a m (script_senses (script_sense_at (feed_script w b).at)) (feed_script v b)) (own-sense v)
    ∙ (ap (λ (w : ScriptState). into a m (script_senses (script_sense_at w.at)) w) held.begun
    ∙ (ap (λ (x : JsTails). script_scan (script_senses s) x (script_star_at a) (begun-state a (held_after h b) [])) held.tails
    ∙ ap script_alone_before (sym held.fed)))))

-- the end of a node, and of a value
same-ends : (a : At) (h m : List ℕ) → EndsBefore a h m
    → (script_refuses_cut (begun-state a h m) ≡ script_refuses_cut (script_before a h m))
    × (refuses_end (begun-state a h m) ≡ refuses_end (script_before a h m))
same-ends _ _ _ (ends_code s h) = (refl, refl)
same-ends _ _ _ (ends_less s) = (refl, refl)
same-ends _ _ _ (ends_hash s) = (refl, refl)
same-ends _ _ _ (ends_word w h) = (refl, refl)
same-ends _ _ _ (ends_number h) = (refl, refl)
same-ends _ _ _ (ends_pluses odd h) = (refl, refl)
same-ends _ _ _ (ends_minuses odd h) = (refl, refl)
same-ends _ _ _ (ends_minus odd) = (refl, refl)
same-ends _ _ _ (ends_two_minuses odd) = (refl, refl)
same-ends _ _ _ ends_regexp_slash = (refl, refl)
same-ends _ _ _ (ends_slash h) = (refl, refl)
same-ends _ _ _ (ends_line s h) = (refl, refl)
same-ends _ _ _ (ends_block s star) = (refl, refl)
same-ends _ _ _ (ends_string q) = (refl, refl)
same-ends _ _ _ ends_regexp = (refl, refl)

-- the place, where nothing is held back
abbrev pub begun-place : At → List ℕ → Js
begun-place a m = script_scan_place (script_alone_before (script_before a [] m))

same-place : (a : At) (h m : List ℕ) → EndsBefore a h m → own-place a (script_before a h m).trail ≡ begun-place a m
same-place _ _ _ (ends_code s h) = refl
same-place _ _ _ (ends_less s) = refl
same-place _ _ _ (ends_hash s) = refl
same-place _ _ _ (ends_word w h) = refl
same-place _ _ _ (ends_number h) = refl
same-place _ _ _ (ends_pluses odd h) = refl
same-place _ _ _ (ends_minuses odd h) = refl
same-place _ _ _ (ends_minus odd) = refl
same-place _ _ _ (ends_two_minuses odd) = refl
same-place _ _ _ ends_regexp_slash = refl
same-place _ _ _ (ends_slash h) = refl
same-place _ _ _ (ends_line s h) = refl
same-place _ _ _ (ends_block s star) = refl
same-place _ _ _ (ends_string q) = refl
same-place _ _ _ ends_regexp = refl

held-after-cut : (a : At) (h m : List ℕ) → EndsBefore a h m → (p : Spot) → script_spot (script_before a h m) ≡ Some p
    → script_alone_before (script_after_cut (script_before a h m)) ≡ script_scan_start (begun-place a m)
held-after-cut a h m e p k =
    ap (λ (z : List ℕ). script_alone_before (script_after_cut (script_before a z m))) (own-held (script_before a h m) p k)
    ∙ (start-at a (script_before a h m).trail p (own-spot (script_before a h m) p k) ∙ ap script_scan_start (same-place a h m e))

held-after-hole : (a : At) (h m : List ℕ) → EndsBefore a h m → (p : Spot) → script_spot (script_before a h m) ≡ Some p
    → script_alone_before (script_after_hole (script_before a h m)) ≡ script_scan_start (script_at_hole (begun-place a m))
held-after-hole a h m e p k =
    ap (λ (z : List ℕ). script_alone_before (script_after_hole (script_before a z m))) (own-held (script_before a h m) p k)
    ∙ (hole-at [] a (script_before a h m).trail p (own-spot (script_before a h m) p k) ∙ ap (λ (c : Js). script_scan_start (script_at_hole c)) (same-place a h m e))

abbrev cut-in : At → (h m : List ℕ) → Option Cause → Option Cause
cut-in a h m o = unless_in_character h (first_script_cause o (cut-of (script_shared (script_alone_before (script_before a h m)))))

abbrev end-in : At → (h m : List ℕ) → Option Cause → Option Cause
end-in a h m o = first_script_cause o (refuses_end (script_shared (script_alone_before (script_before a h m))))

before-as-one : (a : At) (h m : List ℕ) → EndsBefore a h m → OneScriptBefore (script_before a h m)
before-as-one a h m e = record {
  error = λ element b. first-error a h m e element b;
  next = λ element b r f. first-next a h m e element b r f;
  holds = λ b f. still-before a h m e b f;
  held = λ b f. subst IsBeforeText (sym (first-held a h m e b f).fed) (before_text a (held_after h b) [] (first-held a h m e b f).ends);
  cut_error =
      ap (cut-in a h m) (slash-error _ [] (script_begun_at a) (alone-differ (script_sense_at (script_begun_at a))))
      ∙ (ap (λ (w : ScriptState). unless_in_character h (cut-of w)) (own (begun-state a h m)) ∙ (same-ends a h m e).0);
  end_error =
      ap (end-in a h m) (slash-error _ [] (script_begun_at a) (alone-differ (script_sense_at (script_begun_at a))))
      ∙ (ap refuses_end (own (begun-state a h m)) ∙ (same-ends a h m e).1);
  place = λ p k. place-at a (script_before a h m).trail p (own-spot (script_before a h m) p k) ∙ same-place a h m e;
  after_cut = λ p k. held-after-cut a h m e p k;
  after_hole = λ p k. held-after-hole a h m e p k;
}

pub scripts-begin-as-one : ScriptsBeginAsOne
scripts-begin-as-one _ (before_text a h m e) = before-as-one a h m e
