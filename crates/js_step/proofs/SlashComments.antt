-- Behind a slash that is held back: the bytes that make a comment of it, alike whatever it would be; no other is accepted where it is
-- unclear.
use Rattle.std.proofs.Common.{◌≡◌, ◌∙◌, ◌⊎◌, inl, inr, ℕ, ◌==◌, nat_le, Bool, true, false, ◌||◌, ◌&&◌, codes, List, [], ◌∷◌, ◌++◌, Option, Some, None, length, if◌then◌else◌, refl, sym, ap}
use Rattle.std.proofs.lemmas.Bool.{eqb-true}
use Rattle.std.specs.Char.{is_ascii_alphabetic, is_ascii_digit}
use Rattle.js_lexer.specs.Classes.{is_space, is_line_terminator, script_opens, class_of}
use Rattle.js_lexer.specs.Feeding.{tells_white_apart, read_at, feed_script}
use Rattle.js_lexer.specs.Refusals.{Cause, cause, HtmlInScript, first_script_cause, refusal_outside, is_one_of, whole_cut_refusal, end_refusal_at}
use Rattle.js_lexer.specs.States.{At, Slash, LineComment, BlockComment, Trail, ScriptState}
use Rattle.js_lexer.specs.Trails.{next_markup, longer_markup, begins_markup, lines_after}
use Rattle.js_lexer.specs.WhiteSpace.{released, held_after}
use Rattle.js_lexer.specs.declared.class.ScriptClass.{ScriptClass}
use Rattle.js_lexer.specs.declared.class.ScriptClass.TheVariants as class
use Rattle.js_lexer.specs.declared.sense.Sense.{Sense}
use Rattle.js_lexer.specs.declared.sense.Sense.TheVariants as sense
use Rattle.place_core.specs.declared.js_tails.JsTails.{JsTails}
use Rattle.place_core.specs.declared.senses.Senses.{Senses}
use Rattle.place_core.specs.place.LanguagePlaces.{both_senses, some_sense}
use Rattle.js_step.specs.ScriptScans.{script_one_sense, script_in_sense, script_goes_on, script_first_goes_on, script_senses_differ, script_two_senses, script_slash_error}
use Rattle.js_step.proofs.OneScriptPath.{given}
use Rattle.js_step.proofs.TailsGrowth.{split-if}

no : true ≡ false → ⊥
no e = cc

abbrev pub slash-state : Sense → Trail → ScriptState
slash-state s u = record { literals = []; at = Slash s; held = []; trail = u }

-- the two bytes
abbrev pub begins-comment : ScriptClass → Bool
begins-comment class.Solidus = true
begins-comment class.Asterisk = true
begins-comment c = false

abbrev begins : ScriptClass → Type 0
begins c = begins-comment c ≡ true

take : (x : Bool) (c d : ScriptClass) → begins-comment (if x then c else d) ≡ true → begins-comment c ≡ false → begins-comment d ≡ true
take true c d e n = absurd (no (sym e ∙ n))
take false c d e n = e

last : (x y : Bool) (d : ScriptClass) → begins-comment d ≡ false → begins-comment (if x then class.Solidus else (if y then class.Asterisk else d)) ≡ true → (x ≡ true) ⊎ (y ≡ true)
last true y d n e = inl refl
last false true d n e = inr refl
last false false d n e = absurd (no (sym e ∙ n))

none-if : (x : Bool) (c d : ScriptClass) → begins-comment c ≡ false → begins-comment d ≡ false → begins-comment (if x then c else d) ≡ false
none-if true c d h i = h
none-if false c d h i = i

bytes-of : (b : ℕ) → (b == 47) ≡ true ⊎ (b == 42) ≡ true → (b ≡ 47) ⊎ (b ≡ 42)
bytes-of b (inl e) = inl (eqb-true b 47 e)
bytes-of b (inr e) = inr (eqb-true b 42 e)

abbrev after-12 : ℕ → ScriptClass
after-12 b = class.Closes

abbrev after-11 : ℕ → ScriptClass
after-11 b = if script_opens b then class.Opens else after-12 b

abbrev after-10 : ℕ → ScriptClass
after-10 b = if b == 46 then class.Dot else after-11 b

abbrev after-9 : ℕ → ScriptClass
after-9 b = if b == 93 then class.CloseBracket else after-10 b

abbrev after-8 : ℕ → ScriptClass
after-8 b = if b == 91 then class.OpenBracket else after-9 b

abbrev after-7 : ℕ → ScriptClass
after-7 b = if b == 125 then class.CloseBrace else after-8 b

abbrev after-6 : ℕ → ScriptClass
after-6 b = if b == 123 then class.OpenBrace else after-7 b

abbrev after-5 : ℕ → ScriptClass
after-5 b = if b == 33 then class.ExclamationMark else after-6 b

abbrev after-4 : ℕ → ScriptClass
after-4 b = if b == 35 then class.NumberSign else after-5 b

abbrev after-3 : ℕ → ScriptClass
after-3 b = if b == 62 then class.GreaterThan else after-4 b

abbrev after-2 : ℕ → ScriptClass
after-2 b = if b == 60 then class.LessThan else after-3 b

abbrev after-1 : ℕ → ScriptClass
after-1 b = if b == 45 then class.Minus else after-2 b

abbrev after-0 : ℕ → ScriptClass
after-0 b = if b == 43 then class.Plus else after-1 b

abbrev from-9 : ℕ → ScriptClass
from-9 b = if b == 47 then class.Solidus else (if b == 42 then class.Asterisk else after-0 b)

abbrev from-8 : ℕ → ScriptClass
from-8 b = if b == 96 then class.GraveAccent else from-9 b

abbrev from-7 : ℕ → ScriptClass
from-7 b = if b == 39 then class.Apostrophe else from-8 b

abbrev from-6 : ℕ → ScriptClass
from-6 b = if b == 34 then class.QuotationMark else from-7 b

abbrev from-5 : ℕ → ScriptClass
from-5 b = if b == 92 then class.Backslash else from-6 b

abbrev from-4 : ℕ → ScriptClass
from-4 b = if b == 36 then class.Dollar else from-5 b

abbrev from-3 : ℕ → ScriptClass
from-3 b = if is_ascii_alphabetic b || (b == 95 || nat_le 128 b) then class.Letter else from-4 b

abbrev from-2 : ℕ → ScriptClass
from-2 b = if is_ascii_digit b then class.Digit else from-3 b

abbrev from-1 : ℕ → ScriptClass
from-1 b = if is_line_terminator b then class.LineEnd else from-2 b

none-after : (b : ℕ) → begins-comment (after-0 b) ≡ false
none-after b = none-if (b == 43) class.Plus (after-1 b) refl (none-if (b == 45) class.Minus (after-2 b) refl (none-if (b == 60) class.LessThan (after-3 b) refl (none-if (b == 62) class.GreaterThan (after-4 b) refl (none-if (b == 35) class.NumberSign (after-5 b) refl (none-if (b == 33) class.ExclamationMark (after-6 b) refl (none-if (b == 123) class.OpenBrace (after-7 b) refl (none-if (b == 125) class.CloseBrace (after-8 b) refl (none-if (b == 91) class.OpenBracket (after-9 b) refl (none-if (b == 93) class.CloseBracket (after-10 b) refl (none-if (b == 46) class.Dot (after-11 b) refl (none-if (script_opens b) class.Opens (after-12 b) refl refl)))))))))))

pub comment-byte : (b : ℕ) → begins-comment (class_of b) ≡ true → (b ≡ 47) ⊎ (b ≡ 42)
unfolding class_of
comment-byte b e = bytes-of b (last (b == 47) (b == 42) (after-0 b) (none-after b) (take (b == 96) class.GraveAccent (from-9 b) (take (b == 39) class.Apostrophe (from-8 b) (take (b == 34) class.QuotationMark (from-7 b) (take (b == 92) class.Backslash (from-6 b) (take (b == 36) class.Dollar (from-5 b) (take (is_ascii_alphabetic b || (b == 95 || nat_le 128 b)) class.Letter (from-4 b) (take (is_ascii_digit b) class.Digit (from-3 b) (take (is_line_terminator b) class.LineEnd (from-2 b) (take (is_space b) class.Space (from-1 b) e refl) refl) refl) refl) refl) refl) refl) refl) refl))

-- Behind a slash the shared state reads them alike, but for what a slash would be behind the comment.
markup-if : (k : Bool) (bytes : List ℕ) (b : ℕ) → (b ≡ 47) ⊎ (b ≡ 42) → longer_markup k false bytes b ≡ longer_markup k true bytes b
markup-if true bytes b h = refl
markup-if false bytes b (inl e) = rw e refl
markup-if false bytes b (inr e) = rw e refl

markup-47 : (m : List ℕ) → next_markup false false m 47 ≡ next_markup false true m 47
markup-47 [] = refl
markup-47 (c ∷ m) = markup-if (begins_markup false (c ∷ (m ++ 47 ∷ []))) (c ∷ m) 47 (inl refl)

markup-42 : (m : List ℕ) → next_markup false false m 42 ≡ next_markup false true m 42
markup-42 [] = refl
markup-42 (c ∷ m) = markup-if (begins_markup false (c ∷ (m ++ 42 ∷ []))) (c ∷ m) 42 (inr refl)

abbrev html-cause : Trail → List ℕ → Option Cause
html-cause u m = if is_one_of (codes "<!--" ∷ codes "-->" ∷ codes "#!" ∷ []) m then cause HtmlInScript (length u.markup) (length u.markup) else None

abbrev pub slash-error : (differ : Bool) → Sense → JsTails → (star : Bool) → Sense → Trail → (element : Bool) → ℕ → Option Cause
slash-error d o x k z u element b =
    first_script_cause (split-if (u.fresh && script_first_goes_on x k (read_at (tells_white_apart (Slash o)) [] (class_of b) b)) [])
    (first_script_cause (script_two_senses d [] (Slash z) (class_of b)) (refusal_outside [] element (slash-state o u) (class_of b) b))

abbrev pub comment-error : ScriptClass → ℕ → JsTails → (star : Bool) → Trail → Option Cause
comment-error c b x k u = first_script_cause (split-if (u.fresh && script_goes_on x k c) []) (html-cause u (next_markup false true u.markup b))

pub solidus-error : (d : Bool) (o : Sense) (x : JsTails) (k : Bool) (z : Sense) (u : Trail) (element : Bool) → slash-error d o x k z u element 47 ≡ comment-error class.Solidus 47 x k u
unfolding class_of released
solidus-error true sense.Re x k z u element = ap (λ (m : List ℕ). first_script_cause (split-if (u.fresh && script_goes_on x k class.Solidus) []) (html-cause u m)) (markup-47 u.markup)
solidus-error true sense.Div x k z u element = refl
solidus-error true sense.Brace x k z u element = refl
solidus-error false sense.Re x k z u element = ap (λ (m : List ℕ). first_script_cause (split-if (u.fresh && script_goes_on x k class.Solidus) []) (html-cause u m)) (markup-47 u.markup)
solidus-error false sense.Div x k z u element = refl
solidus-error false sense.Brace x k z u element = refl

pub asterisk-error : (d : Bool) (o : Sense) (x : JsTails) (k : Bool) (z : Sense) (u : Trail) (element : Bool) → slash-error d o x k z u element 42 ≡ comment-error class.Asterisk 42 x k u
unfolding class_of released
asterisk-error true sense.Re x k z u element = ap (λ (m : List ℕ). first_script_cause (split-if (u.fresh && script_goes_on x k class.Asterisk) []) (html-cause u m)) (markup-42 u.markup)
asterisk-error true sense.Div x k z u element = refl
asterisk-error true sense.Brace x k z u element = refl
asterisk-error false sense.Re x k z u element = ap (λ (m : List ℕ). first_script_cause (split-if (u.fresh && script_goes_on x k class.Asterisk) []) (html-cause u m)) (markup-42 u.markup)
asterisk-error false sense.Div x k z u element = refl
asterisk-error false sense.Brace x k z u element = refl

abbrev in-comment : ℕ → At → Trail → List ℕ → ScriptState
in-comment b a u m = record { literals = []; at = a; held = []; trail = record { fresh = u.fresh && false; markup = m; escape = []; brace = 0; bracket = 0; literal = 0; lines = lines_after a u.lines b } }

solidus-leads : (o : Sense) (u : Trail) → feed_script (slash-state o u) 47 ≡ in-comment 47 (LineComment o) u (next_markup false true u.markup 47)
unfolding class_of released held_after
solidus-leads sense.Re u = ap (in-comment 47 (LineComment sense.Re) u) (markup-47 u.markup)
solidus-leads sense.Div u = refl
solidus-leads sense.Brace u = refl

asterisk-leads : (o : Sense) (u : Trail) → feed_script (slash-state o u) 42 ≡ in-comment 42 (BlockComment o false) u (next_markup false true u.markup 42)
unfolding class_of released held_after
asterisk-leads sense.Re u = ap (in-comment 42 (BlockComment sense.Re false) u) (markup-42 u.markup)
asterisk-leads sense.Div u = refl
asterisk-leads sense.Brace u = refl

-- into the comment that the byte makes of the slash
abbrev pub comment-at : (line : Bool) → Sense → At
comment-at true o = LineComment o
comment-at false o = BlockComment o false

abbrev pub comment-by : (line : Bool) → ℕ
comment-by true = 47
comment-by false = 42

comment-leads : (line : Bool) (o : Sense) (u : Trail)
    → feed_script (slash-state o u) (comment-by line) ≡ in-comment (comment-by line) (comment-at line o) u (next_markup false true u.markup (comment-by line))
comment-leads true o u = solidus-leads o u
comment-leads false o u = asterisk-leads o u

in-plain : (line : Bool) (o : Sense) (u : Trail) (m : List ℕ)
    → script_in_sense sense.Re (in-comment (comment-by line) (comment-at line o) u m) ≡ in-comment (comment-by line) (comment-at line sense.Re) u m
in-plain true o u m = refl
in-plain false o u m = refl

pub comment-plain : (line : Bool) (o p : Sense) (u : Trail)
    → script_in_sense sense.Re (feed_script (slash-state o u) (comment-by line)) ≡ script_in_sense sense.Re (feed_script (slash-state p u) (comment-by line))
comment-plain line o p u =
    let m : List ℕ = next_markup false true u.markup (comment-by line) in
    ap (script_in_sense sense.Re) (comment-leads line o u) ∙ (in-plain line o u m ∙ sym (ap (script_in_sense sense.Re) (comment-leads line p u) ∙ in-plain line p u m))

pub comment-leads-at : (line : Bool) (o : Sense) (u : Trail) → (feed_script (slash-state o u) (comment-by line)).at ≡ comment-at line o
comment-leads-at line o u = ap (λ (v : ScriptState). v.at) (comment-leads line o u)

pub comment-outside : (line : Bool) (o : Sense) (u : Trail) → (feed_script (slash-state o u) (comment-by line)).literals ≡ []
comment-outside line o u = ap (λ (v : ScriptState). v.literals) (comment-leads line o u)

-- A slash is unclear where it is behind `}`, or is one thing on one path and the other on another one: all else is refused then.
abbrev pub IsUnclear : Senses → Type 0
IsUnclear t = (t.brace || (t.re && t.div)) ≡ true

unclear-class : (re div brace : Bool) → (brace || (re && div)) ≡ true → (z : Sense) (u : Trail) (element : Bool) (c : ScriptClass) (b : ℕ)
    → first_script_cause (script_two_senses (re && div) [] (Slash z) c)
    (refusal_outside [] element (slash-state (script_one_sense (record { re = re; div = div; brace = brace })) u) c b) ≡ None
    → begins-comment c ≡ true
unclear-class re div brace h z u element class.Solidus b e = refl
unclear-class re div brace h z u element class.Asterisk b e = refl
unclear-class true true brace h z u element _ b e = absurd (given _ e)
unclear-class true false true h z u element _ b e = absurd (given _ e)
unclear-class false div true h z u element _ b e = absurd (given _ e)
unclear-class true false false h z u element _ b e = absurd (no (sym h))
unclear-class false div false h z u element _ b e = absurd (no (sym h))

second-none : (o e : Option Cause) → first_script_cause o e ≡ None → e ≡ None
second-none (Some x) e h = absurd (given _ h)
second-none None e h = h

pub unclear-byte : (t : Senses) (x : JsTails) (k : Bool) (z : Sense) (u : Trail) (element : Bool) (b : ℕ) → IsUnclear t
    → slash-error (script_senses_differ t) (script_one_sense t) x k z u element b ≡ None → (b ≡ 47) ⊎ (b ≡ 42)
unclear-byte t x k z u element b h e =
    comment-byte b (unclear-class t.re t.div t.brace h z u element (class_of b) b
    (second-none (split-if (u.fresh && script_first_goes_on x k (read_at (tells_white_apart (Slash (script_one_sense t))) [] (class_of b) b)) []) _ e))

unclear-cut-by : (re div brace : Bool) → (brace || (re && div)) ≡ true → (z : Sense) (u : Trail)
    → first_script_cause (script_slash_error (re && div) [] (Slash z)) (whole_cut_refusal [] (Slash (script_one_sense (record { re = re; div = div; brace = brace }))) u) ≡ None → ⊥
unclear-cut-by true true brace h z u e = given _ e
unclear-cut-by true false true h z u e = given _ e
unclear-cut-by false div true h z u e = given _ e
unclear-cut-by true false false h z u e = no (sym h)
unclear-cut-by false div false h z u e = no (sym h)

pub unclear-cut : (t : Senses) (z : Sense) (u : Trail) → IsUnclear t
    → first_script_cause (script_slash_error (script_senses_differ t) [] (Slash z)) (whole_cut_refusal [] (Slash (script_one_sense t)) u) ≡ None → ⊥
unclear-cut t z u h e = unclear-cut-by t.re t.div t.brace h z u e

unclear-end-by : (re div brace : Bool) → (brace || (re && div)) ≡ true → (z : Sense) (u : Trail)
    → first_script_cause (script_slash_error (re && div) [] (Slash z)) (end_refusal_at [] (Slash (script_one_sense (record { re = re; div = div; brace = brace }))) u) ≡ None → ⊥
unclear-end-by true true brace h z u e = given _ e
unclear-end-by true false true h z u e = given _ e
unclear-end-by false div true h z u e = given _ e
unclear-end-by true false false h z u e = no (sym h)
unclear-end-by false div false h z u e = no (sym h)

pub unclear-end : (t : Senses) (z : Sense) (u : Trail) → IsUnclear t
    → first_script_cause (script_slash_error (script_senses_differ t) [] (Slash z)) (end_refusal_at [] (Slash (script_one_sense t)) u) ≡ None → ⊥
unclear-end t z u h e = unclear-end-by t.re t.div t.brace h z u e

-- Senses that are among those of a set which is not unclear are that set.
abbrev three : (re div brace : Bool) → Senses
three a b c = record { re = a; div = b; brace = c }

clear-or : (a b c d e f : Bool) → (a || (b || c)) ≡ true → (a || d) ≡ d → (b || e) ≡ e → (c || f) ≡ f
    → (three a b c ≡ three d e f) ⊎ ((f || (d && e)) ≡ true)
clear-or a b c d e true s h i j = inr refl
clear-or a b c true true false s h i j = inr refl
clear-or a b true true false false s h i j = absurd (no j)
clear-or a true false true false false s h i j = absurd (no i)
clear-or true false false true false false s h i j = inl refl
clear-or false false false true false false s h i j = absurd (no (sym s))
clear-or a b true false true false s h i j = absurd (no j)
clear-or true b false false true false s h i j = absurd (no h)
clear-or false true false false true false s h i j = inl refl
clear-or false false false false true false s h i j = absurd (no (sym s))
clear-or a b true false false false s h i j = absurd (no j)
clear-or a true false false false false s h i j = absurd (no i)
clear-or true false false false false false s h i j = absurd (no h)
clear-or false false false false false false s h i j = absurd (no (sym s))

pub same-or-unclear : (s t : Senses) → some_sense s ≡ true → both_senses s t ≡ t → (s ≡ t) ⊎ IsUnclear t
same-or-unclear s t i h =
    clear-or s.re s.div s.brace t.re t.div t.brace i (ap (λ (z : Senses). z.re) h) (ap (λ (z : Senses). z.div) h) (ap (λ (z : Senses). z.brace) h)
