-- A `<` in the code of a script: it stands alone there, whatever stood before. What would make an end tag or a `<!--` of it is refused: at once in the same
-- node where it is `<!--`, and at the beginning of the next one where a node has ended behind it.
use Rattle.std.proofs.Common.{◌≡◌, ℕ, ◌||◌, ◌&&◌, Bool, true, false, bytes_eq, codes, length, take, List, [], ◌∷◌, ◌++◌, Option, Some, None, refl, sym, ap, ap₂, ◌∙◌, subst, true≢false}
use Rattle.std.proofs.lemmas.Bool.{and_right, or_from}
use Rattle.js_lexer.proofs.CommentBlanks.{behind-take, differs}
use Rattle.js_lexer.specs.Classes as script
use Rattle.js_lexer.specs.Elements.{is_code_or_comment, script_may_end}
use Rattle.js_lexer.specs.Feeding.{feed_script, held_at, points, read_at, tells_white_apart}
use Rattle.js_lexer.specs.PageScripts.{ScriptTakes}
use Rattle.js_lexer.specs.Refusals.{Cause, first_script_cause, markup_refusal, script_refuses, split_refusal}
use Rattle.js_lexer.specs.States.{At, Code, Word, Number, Pluses, Minuses, Slash, LineComment, BlockComment, InString, InRegexp, InTemplate, TooDeep, ScriptPoint, point, Trail, ScriptState}
use Rattle.js_lexer.specs.Steps.{script_next}
use Rattle.js_lexer.specs.Trails.{begins_markup, is_empty, is_markup_code, next_markup}
use Rattle.js_lexer.specs.WhiteSpace.{ClassedByte, classed, classed_as, held_after, released}
use Rattle.js_lexer.specs.Written.{is_block, is_line}
use Rattle.js_lexer.specs.declared.class.ScriptClass.TheVariants as class
use Rattle.js_lexer.specs.declared.sense.Sense.{Sense}
use Rattle.js_lexer.specs.declared.sense.Sense.TheVariants as sense
use Rattle.place_core.proofs.ScriptSteps.{bang-is, solidus-is}
use Rattle.place_core.specs.page.Classes.{Class, ExclamationMark, LessThan, Solidus, class_of}
use Rattle.text_norm.proofs.ScriptPages.{goes_on_less, is_less_class}
use Rattle.text_norm.specs.Standing.{IsBehindLess, in_script_comment}

-- code that is no comment
abbrev is_open : At → Bool
is_open (Code s) = true
is_open (Word w) = true
is_open Number = true
is_open (Pluses odd) = true
is_open (Minuses odd) = true
is_open (Slash sense.Re) = false
is_open (Slash s) = true
is_open a = false

abbrev code_state : At → List ℕ → Trail → ScriptState
code_state a held t = record { literals = []; at = a; held = held; trail = t }

-- Behind letters that were held back the script is in code, and a `<` there is punctuation.
record OpenPoint (p : ScriptPoint) : Type 0 where
  there : At
  is : p ≡ point [] there
  opens : is_open there ≡ true

letter-next : (a : At) (b : ℕ) → is_open a ≡ true → OpenPoint (script_next [] a class.Letter b)
letter-next (Code s) b o = record { there = Word (b ∷ []); is = refl; opens = refl }
letter-next (Word w) b o = record { there = Word (w ++ b ∷ []); is = refl; opens = refl }
letter-next Number b o = record { there = Number; is = refl; opens = refl }
letter-next (Pluses odd) b o = record { there = Word (b ∷ []); is = refl; opens = refl }
letter-next (Minuses odd) b o = record { there = Word (b ∷ []); is = refl; opens = refl }
letter-next (Slash sense.Re) b o = absurd (true≢false (sym o))
letter-next (Slash sense.Div) b o = record { there = Word (b ∷ []); is = refl; opens = refl }
letter-next (Slash sense.Brace) b o = record { there = Word (b ∷ []); is = refl; opens = refl }
letter-next (LineComment s) b o = absurd (true≢false (sym o))
letter-next (BlockComment s star) b o = absurd (true≢false (sym o))
letter-next (InString q e) b o = absurd (true≢false (sym o))
letter-next (InRegexp k e) b o = absurd (true≢false (sym o))
letter-next (InTemplate e d) b o = absurd (true≢false (sym o))
letter-next TooDeep b o = absurd (true≢false (sym o))

less-next : (a : At) → is_open a ≡ true → script_next [] a class.LessThan 60 ≡ point [] (Code sense.Re)
less-next (Code s) o = refl
less-next (Word w) o = refl
less-next Number o = refl
less-next (Pluses odd) o = refl
less-next (Minuses odd) o = refl
less-next (Slash sense.Re) o = absurd (true≢false (sym o))
less-next (Slash sense.Div) o = refl
less-next (Slash sense.Brace) o = refl
less-next (LineComment s) o = absurd (true≢false (sym o))
less-next (BlockComment s star) o = absurd (true≢false (sym o))
less-next (InString q e) o = absurd (true≢false (sym o))
less-next (InRegexp k e) o = absurd (true≢false (sym o))
less-next (InTemplate e d) o = absurd (true≢false (sym o))
less-next TooDeep o = absurd (true≢false (sym o))

letters-then-less : (held : List ℕ) (a : At) → is_open a ≡ true
    → points (classed_as class.Letter held ++ classed class.LessThan 60 ∷ []) (point [] a) ≡ point [] (Code sense.Re)
letters-then-less [] a o = less-next a o
letters-then-less (b ∷ held) a o =
    let p = letter-next a b o in
    ap (points (classed_as class.Letter held ++ classed class.LessThan 60 ∷ [])) p.is ∙ letters-then-less held p.there p.opens

released-less : (held : List ℕ) → released held 60 ≡ classed_as class.Letter held ++ classed class.LessThan 60 ∷ []
unfolding released script.class_of
released-less held = refl

held-less : (held : List ℕ) → held_after held 60 ≡ []
unfolding held_after
held-less held = refl

-- No word of markup has a `<` behind its first byte.
words-lack : (c : ℕ) (m : List ℕ) → begins_markup false (c ∷ (m ++ 60 ∷ [])) ≡ false
words-lack c m =
    let n = length (c ∷ (m ++ 60 ∷ [])) in
    or_from _ _ (differs 60 c m (take n (codes "<!--")) (behind-take 60 n (codes "<!--") refl))
    (or_from _ _ (differs 60 c m (take n (codes "</script")) (behind-take 60 n (codes "</script") refl))
    (or_from _ _ (differs 60 c m (take n (codes "#!")) (behind-take 60 n (codes "#!") refl))
    (or_from _ _ (differs 60 c m (take n (codes "-->")) (behind-take 60 n (codes "-->") refl)) refl)))

less-marks : (m : List ℕ) → next_markup false true m 60 ≡ 60 ∷ []
less-marks [] = refl
less-marks (c ∷ m) = rw (words-lack c m, and_right (bytes_eq (c ∷ m) (codes "--")) false refl) refl

-- Where a `<` of code has led.
pub record LessFed (u : ScriptState) : Type 0 where
  pub sense : Sense
  pub literals : u.literals ≡ []
  pub at : u.at ≡ Code sense
  pub held : u.held ≡ []
  pub less : u.trail.markup ≡ codes "<"

tells-open : (a : At) → is_open a ≡ true → tells_white_apart a ≡ true
tells-open (Code s) o = refl
tells-open (Word w) o = refl
tells-open Number o = refl
tells-open (Pluses odd) o = refl
tells-open (Minuses odd) o = refl
tells-open (Slash sense.Re) o = o
tells-open (Slash sense.Div) o = refl
tells-open (Slash sense.Brace) o = refl
tells-open (LineComment s) o = refl
tells-open (BlockComment s star) o = o
tells-open (InString q e) o = o
tells-open (InRegexp k e) o = o
tells-open (InTemplate e d) o = o
tells-open TooDeep o = o

markup-open : (a : At) → is_open a ≡ true → is_markup_code false a ≡ true
markup-open (Code s) o = refl
markup-open (Word w) o = refl
markup-open Number o = refl
markup-open (Pluses odd) o = refl
markup-open (Minuses odd) o = refl
markup-open (Slash sense.Re) o = o
markup-open (Slash sense.Div) o = refl
markup-open (Slash sense.Brace) o = refl
markup-open (LineComment s) o = o
markup-open (BlockComment s star) o = o
markup-open (InString q e) o = o
markup-open (InRegexp k e) o = o
markup-open (InTemplate e d) o = o
markup-open TooDeep o = o

points-less : (a : At) (held : List ℕ) → is_open a ≡ true
    → points (read_at (tells_white_apart a) held (script.class_of 60) 60) (point [] a) ≡ point [] (Code sense.Re)
points-less a held o =
    ap (λ (x : Bool). points (read_at x held (script.class_of 60) 60) (point [] a)) (tells-open a o)
    ∙ ap (λ (xs : List ClassedByte). points xs (point [] a)) (released-less held)
    ∙ letters-then-less held a o

less-at : (a : At) (held : List ℕ) (t : Trail) → is_open a ≡ true → LessFed (feed_script (code_state a held t) 60)
less-at a held t o = record {
  sense = sense.Re;
  literals = ap (λ (p : ScriptPoint). p.literals) (points-less a held o);
  at = ap (λ (p : ScriptPoint). p.at) (points-less a held o);
  held = ap (λ (x : Bool). held_at x held 60) (tells-open a o) ∙ held-less held;
  less = ap (λ (x : Bool). next_markup false x t.markup 60) (markup-open a o) ∙ less-marks t.markup;
}

-- by the state before it
open-by : (fs : List ℕ) (a : At) → (is_empty fs && is_code_or_comment a) ≡ true → ((is_empty fs && is_line a) || (is_empty fs && is_block a)) ≡ false
    → (fs ≡ []) × (is_open a ≡ true)
open-by [] (Code s) m n = (refl, refl)
open-by [] (Word w) m n = (refl, refl)
open-by [] Number m n = (refl, refl)
open-by [] (Pluses odd) m n = (refl, refl)
open-by [] (Minuses odd) m n = (refl, refl)
open-by [] (Slash sense.Re) m n = absurd (true≢false (sym m))
open-by [] (Slash sense.Div) m n = (refl, refl)
open-by [] (Slash sense.Brace) m n = (refl, refl)
open-by [] (LineComment s) m n = absurd (true≢false n)
open-by [] (BlockComment s star) m n = absurd (true≢false n)
open-by [] (InString q e) m n = absurd (true≢false (sym m))
open-by [] (InRegexp k e) m n = absurd (true≢false (sym m))
open-by [] (InTemplate e d) m n = absurd (true≢false (sym m))
open-by [] TooDeep m n = absurd (true≢false (sym m))
open-by (x ∷ fs) a m n = absurd (true≢false (sym m))

state-is : (s : ScriptState) (fs : List ℕ) (a : At) (held : List ℕ) → s.literals ≡ fs → s.at ≡ a → s.held ≡ held
    → record { literals = fs; at = a; held = held; trail = s.trail } ≡ s
state-is s fs a held p q r =
    ap₂ (λ (gs : List ℕ) (d : At). record { literals = gs; at = d; held = held; trail = s.trail }) (sym p) (sym q)
    ∙ ap (λ (k : List ℕ). record { literals = s.literals; at = s.at; held = k; trail = s.trail }) (sym r)

pub less-fed : (s : ScriptState) → script_may_end s ≡ true → in_script_comment s ≡ false → LessFed (feed_script s 60)
less-fed s m n =
    let o = open-by s.literals s.at m n in
    subst (λ (z : ScriptState). LessFed (feed_script z 60)) (state-is s [] s.at s.held o.0 refl refl) (less-at s.at s.held s.trail o.1)

-- `<!--` is refused at its last byte.
abbrev trail_with : Bool → List ℕ → Trail → Trail
trail_with f m t = record { fresh = f; markup = m; escape = t.escape; brace = t.brace; bracket = t.bracket; literal = t.literal; lines = t.lines }

code-is : (u : ScriptState) (s : Sense) (f : Bool) → u.literals ≡ [] → u.at ≡ Code s → u.held ≡ [] → u.trail.fresh ≡ f → u.trail.markup ≡ codes "<"
    → code_state (Code s) [] (trail_with f (codes "<") u.trail) ≡ u
code-is u s f p q r x y =
    ap₂ (λ (g : Bool) (m : List ℕ). code_state (Code s) [] (trail_with g m u.trail)) (sym x) (sym y)
    ∙ state-is u [] (Code s) [] p q r

after-split : (o p : Option Cause) → first_script_cause o p ≡ None → p ≡ None
after-split None p e = e
after-split (Some x) p e = cc

abbrev behind_bang_dash : ScriptState → ScriptState
behind_bang_dash u = feed_script (feed_script u 33) 45

dashes-refused : (s : Sense) (f : Bool) (t : Trail)
    → (let u = behind_bang_dash (code_state (Code s) [] (trail_with f (codes "<") t)) in script_refuses true u 45 ≡ None) → ⊥
unfolding script.class_of released held_after
dashes-refused s f t n =
    let u = behind_bang_dash (code_state (Code s) [] (trail_with f (codes "<") t)) in
    some-not (after-split (split_refusal u class.Minus 45) (markup_refusal u 45) n)
  where
    some-not : markup_refusal (behind_bang_dash (code_state (Code s) [] (trail_with f (codes "<") t))) 45 ≡ None → ⊥
    some-not e = cc

pub no-comment-of-html : (s : ScriptState) → script_may_end s ≡ true → in_script_comment s ≡ false → ScriptTakes s (60 ∷ 33 ∷ 45 ∷ 45 ∷ []) → ⊥
no-comment-of-html s m n takes =
    let u = feed_script s 60 in
    let f = less-fed s m n in
    dashes-refused f.sense u.trail.fresh u.trail
    (subst (λ (z : ScriptState). script_refuses true (behind_bang_dash z) 45 ≡ None)
    (sym (code-is u f.sense u.trail.fresh f.literals f.at f.held refl f.less)) takes.1.1.1.0)

-- Behind a `<` with which a node has ended: what would go on with it is refused.
pub may-end-behind : (s : ScriptState) → IsBehindLess s → script_may_end s ≡ true
may-end-behind s i = ap₂ (λ (fs : List ℕ) (a : At). is_empty fs && is_code_or_comment a) i.literals i.at

solidus-splits : (s : Sense) (t : Trail) → script_refuses true (code_state (Code s) [] (trail_with true (codes "<") t)) 47 ≡ None → ⊥
unfolding script.class_of released
solidus-splits s t n = cc

bang-splits : (s : Sense) (t : Trail) → script_refuses true (code_state (Code s) [] (trail_with true (codes "<") t)) 33 ≡ None → ⊥
unfolding script.class_of released
bang-splits s t n = cc

behind-is : (s : ScriptState) (i : IsBehindLess s) → code_state (Code i.sense) [] (trail_with true (codes "<") s.trail) ≡ s
behind-is s i = code-is s i.sense true i.literals i.at i.held i.fresh i.less

refused-behind : (s : ScriptState) (i : IsBehindLess s) (k b : ℕ) → b ≡ k → script_refuses true s b ≡ None
    → script_refuses true (code_state (Code i.sense) [] (trail_with true (codes "<") s.trail)) k ≡ None
refused-behind s i k b e n =
    subst (λ (z : ScriptState). script_refuses true z k ≡ None) (sym (behind-is s i)) (subst (λ (z : ℕ). script_refuses true s z ≡ None) e n)

pub refuses-behind : (s : ScriptState) (c : Class) (b : ℕ) → class_of b ≡ c → is_less_class c ≡ false → IsBehindLess s → script_refuses true s b ≡ None
    → goes_on_less c ≡ false
refuses-behind s Solidus b k l i n = absurd (solidus-splits i.sense s.trail (refused-behind s i 47 b (solidus-is b k) n))
refuses-behind s ExclamationMark b k l i n = absurd (bang-splits i.sense s.trail (refused-behind s i 33 b (bang-is b k) n))
refuses-behind s LessThan b k l i n = absurd (true≢false l)
refuses-behind s c b k l i n = refl
