-- A `<` leads out of no token: where a script is in code behind one, it was in code before it.
use Rattle.std.proofs.Common.{◌≡◌, ℕ, ◌&&◌, Bool, true, false, List, [], ◌∷◌, ◌++◌, inl, inr, refl, sym, ap, ◌∙◌, true≢false}
use Rattle.js_lexer.specs.Alike.{ScriptsAlike}
use Rattle.js_lexer.specs.Classes.{class_of}
use Rattle.js_lexer.specs.Elements.{is_code_or_comment, script_may_end}
use Rattle.js_lexer.specs.Feeding.{feed_script, points, tells_white_apart}
use Rattle.js_lexer.specs.Holes.{as_page}
use Rattle.js_lexer.specs.States.{At, BlockComment, Code, InRegexp, InString, InTemplate, LineComment, Minuses, Number, Pluses, ScriptEscape, ScriptPoint, ScriptState, Slash, TooDeep, Trail, Word, point}
use Rattle.js_lexer.specs.Steps.{is_taken_in_script, is_taken_in_string, next_regexp, next_script_string, next_template, script_next}
use Rattle.js_lexer.specs.Trails.{is_empty}
use Rattle.js_lexer.specs.WhiteSpace.{classed, classed_as, released}
use Rattle.js_lexer.specs.declared.class.ScriptClass.TheVariants as class
use Rattle.js_lexer.specs.declared.sense.Sense.TheVariants as sense

-- No literal opens or ends with a letter or a `<`.
string-literals : (taken q : Bool) (e : ScriptEscape) (b : ℕ) (fs : List ℕ)
    → ((next_script_string taken q e class.Letter b fs).literals ≡ fs) × ((next_script_string taken q e class.LessThan b fs).literals ≡ fs)
string-literals true q e b fs = (refl, refl)
string-literals false true e b fs = (refl, refl)
string-literals false false e b fs = (refl, refl)

regexp-literals : (taken k : Bool) (e : ScriptEscape) (b : ℕ) (fs : List ℕ)
    → ((next_regexp taken k e class.Letter b fs).literals ≡ fs) × ((next_regexp taken k e class.LessThan b fs).literals ≡ fs)
regexp-literals true k e b fs = (refl, refl)
regexp-literals false true e b fs = (refl, refl)
regexp-literals false false e b fs = (refl, refl)

template-literals : (taken d : Bool) (e : ScriptEscape) (b : ℕ) (fs : List ℕ)
    → ((next_template taken e d class.Letter b fs).literals ≡ fs) × ((next_template taken e d class.LessThan b fs).literals ≡ fs)
template-literals true d e b fs = (refl, refl)
template-literals false true e b fs = (refl, refl)
template-literals false false e b fs = (refl, refl)

next-literals : (a : At) (b : ℕ) (fs : List ℕ) → ((script_next fs a class.Letter b).literals ≡ fs) × ((script_next fs a class.LessThan b).literals ≡ fs)
next-literals (Code s) b fs = (refl, refl)
next-literals (Word w) b fs = (refl, refl)
next-literals Number b fs = (refl, refl)
next-literals (Pluses odd) b fs = (refl, refl)
next-literals (Minuses odd) b fs = (refl, refl)
next-literals (Slash sense.Re) b fs = (refl, refl)
next-literals (Slash sense.Div) b fs = (refl, refl)
next-literals (Slash sense.Brace) b fs = (refl, refl)
next-literals (LineComment s) b fs = (refl, refl)
next-literals (BlockComment s true) b fs = (refl, refl)
next-literals (BlockComment s false) b fs = (refl, refl)
next-literals (InString q e) b fs = string-literals (is_taken_in_string e b) q e b fs
next-literals (InRegexp k e) b fs = regexp-literals (is_taken_in_script e) k e b fs
next-literals (InTemplate e d) b fs = template-literals (is_taken_in_script e) d e b fs
next-literals TooDeep b fs = (refl, refl)

held-literals : (held : List ℕ) (p : ScriptPoint) → (points (classed_as class.Letter held ++ classed class.LessThan 60 ∷ []) p).literals ≡ p.literals
held-literals [] p = (next-literals p.at 60 p.literals).1
held-literals (b ∷ held) p = held-literals held (script_next p.literals p.at class.Letter b) ∙ (next-literals p.at b p.literals).0

-- Nor does one end a string, a regular expression or a template literal.
string-stays : (taken q : Bool) (e : ScriptEscape) → is_code_or_comment (next_script_string taken q e class.LessThan 60 []).at ≡ false
string-stays true q e = refl
string-stays false true e = refl
string-stays false false e = refl

regexp-stays : (taken k : Bool) (e : ScriptEscape) → is_code_or_comment (next_regexp taken k e class.LessThan 60 []).at ≡ false
regexp-stays true k e = refl
regexp-stays false true e = refl
regexp-stays false false e = refl

template-stays : (taken d : Bool) (e : ScriptEscape) → is_code_or_comment (next_template taken e d class.LessThan 60 []).at ≡ false
template-stays true d e = refl
template-stays false true e = refl
template-stays false false e = refl

abbrev at_with : List ℕ → At → List ℕ → Trail → ScriptState
at_with fs a held t = record { literals = fs; at = a; held = held; trail = t }

inside-stays : (n : ℕ) (fs held : List ℕ) (a : At) (t : Trail) (white : Bool) → tells_white_apart a ≡ white
    → (feed_script (at_with (n ∷ fs) a held t) 60).literals ≡ n ∷ fs
unfolding class_of released
inside-stays n fs held a t true e = rw e (held-literals held (point (n ∷ fs) a))
inside-stays n fs held a t false e = rw e ((next-literals a 60 (n ∷ fs)).1)

both-false : (x y : Bool) → y ≡ false → (x && y) ≡ true → ⊥
both-false true y n h = true≢false (sym h ∙ n)
both-false false y n h = true≢false (sym h)

before-less : (fs held : List ℕ) (a : At) (t : Trail) → script_may_end (feed_script (at_with fs a held t) 60) ≡ true
    → script_may_end (at_with fs a held t) ≡ true
unfolding class_of
before-less [] held (Code s) t h = refl
before-less [] held (Word w) t h = refl
before-less [] held Number t h = refl
before-less [] held (Pluses odd) t h = refl
before-less [] held (Minuses odd) t h = refl
before-less [] held (Slash sense.Re) t h = absurd (true≢false (sym h))
before-less [] held (Slash sense.Div) t h = refl
before-less [] held (Slash sense.Brace) t h = refl
before-less [] held (LineComment s) t h = refl
before-less [] held (BlockComment s star) t h = refl
before-less [] held (InString q e) t h = absurd (both-false _ _ (string-stays (is_taken_in_string e 60) q e) h)
before-less [] held (InRegexp k e) t h = absurd (both-false _ _ (regexp-stays (is_taken_in_script e) k e) h)
before-less [] held (InTemplate e d) t h = absurd (both-false _ _ (template-stays (is_taken_in_script e) d e) h)
before-less [] held TooDeep t h = absurd (true≢false (sym h))
before-less (n ∷ fs) held a t h =
    absurd (true≢false (sym h
    ∙ ap (λ (z : List ℕ). is_empty z && is_code_or_comment (feed_script (at_with (n ∷ fs) a held t) 60).at) (inside-stays n fs held a t (tells_white_apart a) refl)))

pub code-before-less : (s : ScriptState) → script_may_end (feed_script s 60) ≡ true → script_may_end s ≡ true
code-before-less s h = before-less s.literals s.held s.at s.trail h

-- two states that are alike are both in code, or none is
paged-code : (a : At) → is_code_or_comment (as_page a) ≡ is_code_or_comment a
paged-code (Code s) = refl
paged-code (Word w) = refl
paged-code Number = refl
paged-code (Pluses odd) = refl
paged-code (Minuses odd) = refl
paged-code (Slash sense.Re) = refl
paged-code (Slash sense.Div) = refl
paged-code (Slash sense.Brace) = refl
paged-code (LineComment s) = refl
paged-code (BlockComment s star) = refl
paged-code (InString q e) = refl
paged-code (InRegexp k e) = refl
paged-code (InTemplate e d) = refl
paged-code TooDeep = refl

code-alike : (s w : ScriptState) → w.literals ≡ s.literals → as_page w.at ≡ as_page s.at → script_may_end s ≡ script_may_end w
code-alike s w l a =
    ap (λ (z : List ℕ). is_empty z && is_code_or_comment s.at) (sym l)
    ∙ ap (λ (z : Bool). is_empty w.literals && z) (sym (paged-code s.at) ∙ ap is_code_or_comment (sym a) ∙ paged-code w.at)

pub alike-may-end : (s w : ScriptState) → ScriptsAlike s w → script_may_end s ≡ script_may_end w
alike-may-end s w (i, inl h) = code-alike s w h.literals h.at
alike-may-end s w (i, inr h) =
    ap (λ (z : List ℕ). is_empty z && is_code_or_comment s.at) (sym h.literals)
    ∙ ap (λ (z : Bool). is_empty w.literals && z)
    (sym (paged-code s.at) ∙ ap is_code_or_comment h.path ∙ sym (ap is_code_or_comment h.page) ∙ paged-code w.at)
