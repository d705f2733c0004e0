-- In a comment of a script element the page stands beside the path, and behind what is written for the comment it stands for it.
use Rattle.std.proofs.Common.{◌≡◌, ◌⊎◌, inl, inr, ℕ, ◌==◌, ◌||◌, if◌then◌else◌, Bool, true, false, bytes_eq, codes, encode_utf8, List, [], ◌∷◌, ◌++◌, All, refl, sym, ap, ◌∙◌, subst, true≢false, eqb-true}
use Rattle.std.proofs.lemmas.Bool.{or_cases}
use Rattle.std.proofs.lemmas.List.Elements.{All-head, All-tail}
use Rattle.std.proofs.lemmas.Slice.Eq.{bytes_eq-Decides}
use Rattle.js_lexer.specs.Alike.{is_open_brace}
use Rattle.js_lexer.specs.Classes.{class_of, is_line_terminator}
use Rattle.js_lexer.specs.Emits.{tells}
use Rattle.js_lexer.specs.Events.{ScriptEvent}
use Rattle.js_lexer.specs.Feeding.{points, tells_all, feed_class, feed_script, script_emits, script_emits_class, point_of}
use Rattle.js_lexer.specs.Holes.{as_page}
use Rattle.js_lexer.specs.PageScripts.{PageScript, told_inside, read_in_page, ScriptStandsAlike, code_behind, ScriptStandsBeside, ScriptStandsAt, ScriptStands}
use Rattle.js_lexer.specs.States.{At, Code, LineComment, BlockComment, PartLines, HasLine, NoLineYet, ScriptPoint, point, Trail, ScriptState}
use Rattle.js_lexer.specs.Steps.{next_line, script_next}
use Rattle.js_lexer.specs.Trails.{brace_after, escape_after, line_ends}
use Rattle.js_lexer.specs.WhiteSpace.{ClassedByte, classed, classed_as, PastAscii, IsSpace, IsSeparator, BeginsWhite, IsOther, past_ascii, are_one_of, separators, spaces, begin_one_of, released, held_after}
use Rattle.js_lexer.specs.Written.{is_block, blank_of, only_line_end, only_line_ends, script_written, written_between}
use Rattle.js_lexer.specs.declared.class.ScriptClass.{ScriptClass}
use Rattle.js_lexer.specs.declared.class.ScriptClass.TheVariants as class
use Rattle.js_lexer.specs.declared.sense.Sense.{Sense}
use Rattle.js_lexer.proofs.ScriptKinds.{by-class, is_common}
use Rattle.js_lexer.proofs.ScriptReleases.{Release, AsLetters, HoldsByte, HoldsAll, AsSpaces, AsLineEnds, releases, points-last}
use Rattle.js_lexer.proofs.WrittenKeeps.{letters-silent, letters-stay, tells-end}

-- Behind a blank the page stands for a path that has come to code.
paged-code : (s : Sense) → is_block (as_page (Code s)) ≡ false
paged-code s = refl

pub code-as : {E : Type 0} (s : Sense) (u : ScriptState) (t : List E) (p : PageScript E) → point_of u ≡ point [] (Code s) → u.held ≡ [] → u.trail.escape ≡ [] → u.trail.brace ≡ 0
    → ScriptStandsAlike E (code_behind s) t p → ScriptStandsAlike E u t p
code-as s u t p e f g i h = elim h.alike.1 [
  | inl same ↦ record {
    alike = (
      record { escape = h.alike.0.escape ∙ sym g; brace = h.alike.0.brace ∙ sym (ap is_open_brace i) },
      inl (record {
        literals = same.literals ∙ sym (ap (λ (q : ScriptPoint). q.literals) e);
        held = same.held ∙ sym f;
        at = same.at ∙ sym (ap (λ (q : ScriptPoint). as_page q.at) e);
      }),
    );
    told = h.told;
  }
  | inr passed ↦ absurd (true≢false (sym (ap is_block passed.path)))
]

abbrev ends_behind_feed : List (List ℕ)
ends_behind_feed = codes "\r" ∷ encode_utf8 0x2028 ∷ encode_utf8 0x2029 ∷ []

abbrev separator_words : List (List ℕ)
separator_words = encode_utf8 0x2028 ∷ encode_utf8 0x2029 ∷ []

abbrev Behind : {E : Type 0} → (ScriptEvent → E) → Sense → List E → PageScript E → List ℕ → Type 0
Behind {E} inside s t p word = ScriptStandsAlike E (code_behind s) t (read_in_page inside word p)

pub behind-space : {E : Type 0} (inside : ScriptEvent → E) (s : Sense) (t : List E) (p : PageScript E) → ScriptStandsBeside E inside s t p → Behind inside s t p (codes " ")
behind-space inside s t p h = All-head (Behind inside s t p) (codes " ") line_ends h.blank

pub behind-ends : {E : Type 0} (inside : ScriptEvent → E) (s : Sense) (t : List E) (p : PageScript E) → ScriptStandsBeside E inside s t p → All (Behind inside s t p) line_ends
behind-ends inside s t p h = All-tail (Behind inside s t p) (codes " ") line_ends h.blank

pub behind-blank : {E : Type 0} (inside : ScriptEvent → E) (s : Sense) (lines : PartLines) (t : List E) (p : PageScript E) → ScriptStandsBeside E inside s t p → Behind inside s t p (blank_of lines)
behind-blank inside s HasLine t p h = All-head (Behind inside s t p) (codes "\n") ends_behind_feed (behind-ends inside s t p h)
behind-blank inside s (NoLineYet begun) t p h = behind-space inside s t p h

-- A byte of a block comment.
abbrev pub block_state : Sense → Bool → List ℕ → Trail → ScriptState
block_state s star held trail = record { literals = []; at = BlockComment s star; held = held; trail = trail }

abbrev SteppedAs : {E : Type 0} → (ScriptEvent → E) → ScriptState → ScriptClass → ℕ → List E → PageScript E → Type 0
SteppedAs {E} inside v c b t p =
    ScriptStands E inside (feed_class v c b) (told_inside inside (script_emits_class v c b []) t) (read_in_page inside (written_between v (feed_class v c b) b) p)

block-class : {E : Type 0} (inside : ScriptEvent → E) (s : Sense) (star : Bool) (held : List ℕ) (trail : Trail) (c : ScriptClass) (b : ℕ) (t : List E) (p : PageScript E)
    → ScriptStandsBeside E inside s t p → SteppedAs inside (block_state s star held trail) c b t p
block-class inside s true held trail class.Solidus b t p h = code-as s (feed_class (block_state s true held trail) class.Solidus b) t _ refl refl refl refl (behind-blank inside s trail.lines t p h)
block-class inside s true held trail class.Asterisk b t p h = h
block-class inside s true held trail c b t p h = h
block-class inside s false held trail class.Asterisk b t p h = h
block-class inside s false held trail c b t p h = h

pub block-byte : {E : Type 0} (inside : ScriptEvent → E) (s : Sense) (star : Bool) (held : List ℕ) (trail : Trail) (b : ℕ) (t : List E) (p : PageScript E)
    → ScriptStandsBeside E inside s t p → (let v = block_state s star held trail in ScriptStands E inside (feed_script v b) (told_inside inside (script_emits v b []) t) (read_in_page inside (script_written v b) p))
block-byte inside s star held trail b t p h = block-class inside s star held trail (class_of b) b t p h

-- A byte of a line comment: what it releases leaves the path in the comment, or is the end of its line.
pub data LineWord : List ℕ → Type 0 where
  LineFeed : LineWord (codes "\n")
  CarriageReturn : LineWord (codes "\r")
  LineSeparator : LineWord (encode_utf8 0x2028)
  ParagraphSeparator : LineWord (encode_utf8 0x2029)

abbrev pub line_tells : Sense → List ClassedByte → List ScriptEvent
line_tells s xs = tells_all xs (point [] (LineComment s)) []

pub data LineOutcome (s : Sense) (after : List ℕ) (xs : List ClassedByte) : Type 0 where
  StaysInLine : points xs (point [] (LineComment s)) ≡ point [] (LineComment s) → only_line_ends xs ≡ [] → line_tells s xs ≡ [] → LineOutcome s after xs
  EndsLine : points xs (point [] (LineComment s)) ≡ point [] (Code s) → LineWord (only_line_ends xs) → line_tells s xs ≡ [] → after ≡ []
      → LineOutcome s after xs

only-letters : (held : List ℕ) (xs : List ClassedByte) → only_line_ends (classed_as class.Letter held ++ xs) ≡ only_line_ends xs
only-letters [] xs = refl
only-letters (h ∷ held) xs = only-letters held xs

only-letters-alone : (held : List ℕ) → only_line_ends (classed_as class.Letter held) ≡ []
only-letters-alone [] = refl
only-letters-alone (h ∷ held) = only-letters-alone held

spaces-stay : (held : List ℕ) (s : Sense) → points (classed_as class.Space held) (point [] (LineComment s)) ≡ point [] (LineComment s)
spaces-stay [] s = refl
spaces-stay (b ∷ held) s = spaces-stay held s

only-spaces : (held : List ℕ) → only_line_ends (classed_as class.Space held) ≡ []
only-spaces [] = refl
only-spaces (h ∷ held) = only-spaces held

letters-next : (held : List ℕ) (s : Sense) (c : ScriptClass) (b : ℕ) → points (classed_as class.Letter held ++ classed c b ∷ []) (point [] (LineComment s)) ≡ next_line s c []
letters-next held s c b =
    points-last (classed_as class.Letter held) (classed c b) (point [] (LineComment s))
    ∙ ap (λ (q : ScriptPoint). script_next q.literals q.at c b) (letters-stay held s)

line-end : (word : List ℕ) → LineWord word → (P : List ℕ → Type 0) → All P line_ends → P word
line-end word LineFeed P h = All-head P (codes "\n") ends_behind_feed h
line-end word CarriageReturn P h = All-head P (codes "\r") separator_words (All-tail P (codes "\n") ends_behind_feed h)
line-end word LineSeparator P h =
    All-head P (encode_utf8 0x2028) (encode_utf8 0x2029 ∷ []) (All-tail P (codes "\r") separator_words (All-tail P (codes "\n") ends_behind_feed h))
line-end word ParagraphSeparator P h =
    All-head P (encode_utf8 0x2029) []
    (All-tail P (encode_utf8 0x2028) (encode_utf8 0x2029 ∷ []) (All-tail P (codes "\r") separator_words (All-tail P (codes "\n") ends_behind_feed h)))

terminator-end : (b : ℕ) → is_line_terminator b ≡ true → LineWord (b ∷ [])
terminator-end b e = elim (or_cases (b == 10) (b == 13) e) [
  | inl f ↦ subst (λ (c : ℕ). LineWord (c ∷ [])) (sym (eqb-true b 10 f)) LineFeed
  | inr f ↦ subst (λ (c : ℕ). LineWord (c ∷ [])) (sym (eqb-true b 13 f)) CarriageReturn
]

common-line : (s : Sense) (c : ScriptClass) → is_common c ≡ true → next_line s c [] ≡ point [] (LineComment s)
common-line s class.LineEnd e = absurd (true≢false (sym e))
common-line s c e = refl

common-none : (c : ScriptClass) (b : ℕ) → is_common c ≡ true → only_line_end c b ++ [] ≡ []
common-none class.LineEnd b e = absurd (true≢false (sym e))
common-none c b e = refl

letters-tell : (s : Sense) (held : List ℕ) (c : ScriptClass) (b : ℕ) → line_tells s (classed_as class.Letter held ++ classed c b ∷ []) ≡ []
letters-tell s held c b =
    tells-end (classed_as class.Letter held) (classed c b) (point [] (LineComment s)) []
    ∙ ap (λ (q : ScriptPoint). tells q.literals q.at c b (line_tells s (classed_as class.Letter held))) (letters-stay held s)
    ∙ letters-silent held s []

spaces-tell : (s : Sense) (held : List ℕ) → line_tells s (classed_as class.Space held) ≡ []
spaces-tell s [] = refl
spaces-tell s (b ∷ held) = spaces-tell s held

class-stays : (s : Sense) (held : List ℕ) (b : ℕ) (c : ScriptClass) → next_line s c [] ≡ point [] (LineComment s) → only_line_end c b ++ [] ≡ []
    → LineOutcome s [] (classed_as class.Letter held ++ classed c b ∷ [])
class-stays s held b c e f = StaysInLine (letters-next held s c b ∙ e) (only-letters held (classed c b ∷ []) ∙ f) (letters-tell s held c b)

letters-outcome : (s : Sense) (held : List ℕ) (b : ℕ) → LineOutcome s [] (classed_as class.Letter held ++ classed (class_of b) b ∷ [])
letters-outcome s held b =
    by-class (λ c. LineOutcome s [] (classed_as class.Letter held ++ classed c b ∷ [])) b
    (λ e. EndsLine (letters-next held s class.LineEnd b) (subst LineWord (sym (only-letters held (classed class.LineEnd b ∷ []))) (terminator-end b e)) (letters-tell s held class.LineEnd b) refl)
    (λ e. class-stays s held b class.Solidus refl refl)
    (λ e. class-stays s held b class.Asterisk refl refl)
    (λ c e. class-stays s held b c (common-line s c e) (common-none c b e))

-- the bytes of U+2028 and U+2029
abbrev is_separator : PastAscii → Bool
is_separator IsSeparator = true
is_separator f = false

separator-test : (x y z : Bool) → (if x then IsSpace else (if y then IsSeparator else (if z then BeginsWhite else IsOther))) ≡ IsSeparator → y ≡ true
separator-test true y z e = absurd (true≢false (sym (ap is_separator e)))
separator-test false true z e = refl
separator-test false false true e = absurd (true≢false (sym (ap is_separator e)))
separator-test false false false e = absurd (true≢false (sym (ap is_separator e)))

or-none : (x : Bool) → (x || false) ≡ true → x ≡ true
or-none true e = refl
or-none false e = e

separator-bytes : (bytes : List ℕ) → past_ascii bytes ≡ IsSeparator → (bytes ≡ encode_utf8 0x2028) ⊎ (bytes ≡ encode_utf8 0x2029)
separator-bytes bytes e =
    elim (or_cases (bytes_eq (encode_utf8 0x2028) bytes) _ (separator-test (are_one_of spaces bytes) (are_one_of separators bytes) (begin_one_of (spaces ++ separators) bytes) e)) [
      | inl f ↦ inl (sym ((bytes_eq-Decides (encode_utf8 0x2028) bytes).0 f))
      | inr f ↦ inr (sym ((bytes_eq-Decides (encode_utf8 0x2029) bytes).0 (or-none _ f)))
    ]

separator-outcome : (s : Sense) (bytes : List ℕ) → (bytes ≡ encode_utf8 0x2028) ⊎ (bytes ≡ encode_utf8 0x2029) → LineOutcome s [] (classed_as class.LineEnd bytes)
unfolding lib.Utf8.encode
separator-outcome s bytes (inl e) = subst (λ (bs : List ℕ). LineOutcome s [] (classed_as class.LineEnd bs)) (sym e) (EndsLine refl LineSeparator refl refl)
separator-outcome s bytes (inr e) = subst (λ (bs : List ℕ). LineOutcome s [] (classed_as class.LineEnd bs)) (sym e) (EndsLine refl ParagraphSeparator refl refl)

pub line-outcome : (s : Sense) (held : List ℕ) (b : ℕ) (xs : List ClassedByte) (after : List ℕ) → Release held b xs after → LineOutcome s after xs
line-outcome s held b xs after AsLetters = letters-outcome s held b
line-outcome s held b xs after (HoldsByte g) = StaysInLine (letters-stay held s) (only-letters-alone held) (letters-silent held s [])
line-outcome s held b xs after (HoldsAll g) = StaysInLine refl refl refl
line-outcome s held b xs after (AsSpaces g) = StaysInLine (spaces-stay (held ++ b ∷ []) s) (only-spaces (held ++ b ∷ [])) (spaces-tell s (held ++ b ∷ []))
line-outcome s held b xs after (AsLineEnds g) = separator-outcome s (held ++ b ∷ []) (separator-bytes (held ++ b ∷ []) g)

abbrev pub line_state : Sense → List ℕ → Trail → ScriptState
line_state s held trail = record { literals = []; at = LineComment s; held = held; trail = trail }

line-finish : {E : Type 0} (inside : ScriptEvent → E) (s : Sense) (held : List ℕ) (trail : Trail) (b : ℕ) (t : List E) (p : PageScript E) → LineOutcome s (held_after held b) (released held b)
    → ScriptStandsBeside E inside s t p → (let v = line_state s held trail in ScriptStands E inside (feed_script v b) (told_inside inside (script_emits v b []) t) (read_in_page inside (script_written v b) p))
line-finish {E} inside s held trail b t p (StaysInLine e f g) h =
    let u = feed_script (line_state s held trail) b in
    subst (λ (bs : List ℕ). ScriptStands E inside u (told_inside inside (line_tells s (released held b)) t) (read_in_page inside bs p)) (sym f)
    (subst (λ (es : List ScriptEvent). ScriptStands E inside u (told_inside inside es t) p) (sym g)
    (subst (λ (q : ScriptPoint). ScriptStandsAt q.literals q.at E inside u t p) (sym e) h))
line-finish {E} inside s held trail b t p (EndsLine e f g i) h =
    let u = feed_script (line_state s held trail) b in
    let q = read_in_page inside (only_line_ends (released held b)) p in
    let at = ap (λ (x : ScriptPoint). x.at) e in
    subst (λ (es : List ScriptEvent). ScriptStands E inside u (told_inside inside es t) q) (sym g)
    (subst (λ (x : ScriptPoint). ScriptStandsAt x.literals x.at E inside u t q) (sym e)
    (code-as s u t q e i (ap (λ (a : At). escape_after a trail.escape b) at) (ap (λ (a : At). brace_after a trail.escape trail.brace b) at) (line-end (only_line_ends (released held b)) f (Behind inside s t p) (behind-ends inside s t p h))))

pub line-byte : {E : Type 0} (inside : ScriptEvent → E) (s : Sense) (held : List ℕ) (trail : Trail) (b : ℕ) (t : List E) (p : PageScript E)
    → ScriptStandsBeside E inside s t p → (let v = line_state s held trail in ScriptStands E inside (feed_script v b) (told_inside inside (script_emits v b []) t) (read_in_page inside (script_written v b) p))
line-byte inside s held trail b t p h = line-finish inside s held trail b t p (line-outcome s held b (released held b) (held_after held b) (releases held b)) h
