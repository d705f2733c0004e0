-- A word of a token: what is written for it leads HTML to nothing, and the page's script stands for the path's.
use Rattle.std.proofs.Common.{◌≡◌, ℕ, ◌==◌, ◌||◌, ◌&&◌, Bool, true, false, codes, List, [], ◌∷◌, ◌++◌, refl, sym, ap, ◌∙◌, subst, true≢false}
use Rattle.std.specs.List.{list_all}
use Rattle.js_lexer.specs.Elements.{is_code_or_comment, script_may_end}
use Rattle.js_lexer.specs.PageScripts.{ScriptStandsLaws, ScriptTakes, are_behind_less, is_byte_of_word, page_script}
use Rattle.js_lexer.specs.States.{At, LineComment, BlockComment, Slash, ScriptState}
use Rattle.js_lexer.specs.Trails.{is_empty}
use Rattle.js_lexer.specs.Written.{escaped_less, is_block, is_hidden_in_script, is_line, is_taken_at, script_hides, waiting_slash}
use Rattle.place_core.proofs.ScriptSteps.{less-is}
use Rattle.place_core.specs.page.Classes.{Class, LessThan, Letter, LetterX, class_of}
use Rattle.place_core.specs.page.Contents.{Reads, is_name_of, may_be_name_of, pending_bytes, script_step, step_end_name}
use Rattle.place_core.specs.page.Events.{InsideScript, LexEvent}
use Rattle.place_core.specs.page.States.{Config, Pending, Nothing, PendingLess, LessAtCut, PendingName, PendingBang, PendingBangDash, PendingOpening}
use Rattle.place_core.specs.page.Tags.{ValueState, languages}
use Rattle.place_core.specs.declared.element.Element.{Element}
use Rattle.place_core.specs.declared.element.Element.TheVariants as element
use Rattle.text_norm.proofs.ScriptElementKeeps.{waiting-is}
use Rattle.text_norm.proofs.ScriptElementReads.{is-at, slash-goes, stands-from}
use Rattle.text_norm.proofs.ScriptPages.{NoLess, goes-append, is_less_class, is_quiet, no-less, quiet-goes, read_page, step-goes}
use Rattle.text_norm.proofs.ScriptPending.{and-both, behind-by-equal, name-without}
use Rattle.text_norm.specs.Standing.{HeldBehind, PageGoes, StandsInScript, StepGoes, in_script_comment, page, slash_waits, tells_comment_of_html}

-- No byte of a word but its first is a `<`.
word-class : (b : ℕ) (c : Class) → class_of b ≡ c → is_byte_of_word b ≡ true → is_less_class c ≡ false
word-class b LessThan e w = absurd (true≢false (sym w ∙ ap is_byte_of_word (less-is b e)))
word-class b c e w = refl

slash-class : (b : ℕ) (c : Class) → class_of b ≡ c → (b == 47) ≡ true → is_less_class c ≡ false
slash-class b LessThan e w = absurd (true≢false (sym w ∙ ap (λ (z : ℕ). z == 47) (less-is b e)))
slash-class b c e w = refl

words-no-less : (bs : List ℕ) → list_all is_byte_of_word bs ≡ true → NoLess bs
words-no-less [] w = tt
words-no-less (b ∷ bs) w = (let m = and-both (is_byte_of_word b) (list_all is_byte_of_word bs) w in (word-class b (class_of b) refl m.0, words-no-less bs m.1))

first-no-less : (b : ℕ) (x y : Bool) → (b == 47) ≡ x → is_byte_of_word b ≡ y → (x || y) ≡ true → is_less_class (class_of b) ≡ false
first-no-less b true y p q o = slash-class b (class_of b) refl p
first-no-less b false true p q o = word-class b (class_of b) refl q
first-no-less b false false p q o = absurd (true≢false (sym o))

pub behind-no-less : (bs : List ℕ) → are_behind_less bs ≡ true → NoLess bs
behind-no-less [] w = tt
behind-no-less (b ∷ bs) w =
    let m = and-both (b == 47 || is_byte_of_word b) (list_all is_byte_of_word bs) w in
    (first-no-less b (b == 47) (is_byte_of_word b) refl refl m.0, words-no-less bs m.1)

-- An `x` goes on with nothing that may be pending in a script.
class-x : class_of 120 ≡ Letter LetterX
unfolding class_of
class-x = refl

no-name-by-x : (whole : Bool) (letters : List ℕ) (grows : Bool) → grows ≡ false → step_end_name grows whole (Letter LetterX) 120 letters ≡ Reads ((codes "</" ++ letters) ++ 120 ∷ []) Nothing
no-name-by-x true letters false g = refl
no-name-by-x false letters false g = refl
no-name-by-x whole letters true g = absurd (true≢false g)

x-steps : (g : Pending) → script_step true element.Script g (Letter LetterX) 120 ≡ Reads (pending_bytes g ++ 120 ∷ []) Nothing
x-steps Nothing = refl
x-steps PendingLess = refl
x-steps LessAtCut = refl
x-steps (PendingName letters) = no-name-by-x (is_name_of element.Script letters) letters (may_be_name_of element.Script (letters ++ 120 ∷ [])) (name-without letters 120 refl)
x-steps PendingBang = refl
x-steps PendingBangDash = refl
x-steps (PendingOpening letters) = refl

x-plain : (g : Pending) → tells_comment_of_html g (Letter LetterX) ≡ false
x-plain Nothing = refl
x-plain PendingLess = refl
x-plain LessAtCut = refl
x-plain (PendingName letters) = refl
x-plain PendingBang = refl
x-plain PendingBangDash = refl
x-plain (PendingOpening letters) = refl

x-goes : (g : Pending) → StepGoes element.Script g 120 Nothing
x-goes g = step-goes element.Script g Nothing (Letter LetterX) 120 (pending_bytes g ++ 120 ∷ []) class-x (x-steps g) (x-plain g)

quiet-backslash : is_quiet (class_of 92) ≡ true
unfolding class_of
quiet-backslash = refl

hex-no-less : (is_less_class (class_of 51) ≡ false) × (is_less_class (class_of 67) ≡ false) × (is_less_class (class_of 120) ≡ false)
unfolding class_of
hex-no-less = (refl, refl, refl)

pub escaped-goes : (taken : Bool) (bs : List ℕ) (g : Pending) → NoLess bs → PageGoes element.Script g (escaped_less taken ++ bs) Nothing
escaped-goes true bs g n = (Nothing, x-goes g, no-less (51 ∷ 67 ∷ bs) element.Script (hex-no-less.0, (hex-no-less.1, n)))
escaped-goes false bs g n = (Nothing, quiet-goes element.Script g 92 quiet-backslash, no-less (120 ∷ 51 ∷ 67 ∷ bs) element.Script (hex-no-less.2, (hex-no-less.0, (hex-no-less.1, n))))

-- No token is a comment.
outside-token : (fs : List ℕ) (a : At) → (is_empty fs && is_code_or_comment a) ≡ false → ((is_empty fs && is_line a) || (is_empty fs && is_block a)) ≡ false
outside-token [] (LineComment s) e = absurd (true≢false e)
outside-token [] (BlockComment s star) e = absurd (true≢false e)
outside-token [] (Slash s) e = refl
outside-token [] a e = refl
outside-token (n ∷ fs) a e = refl

pub token-no-comment : (s : ScriptState) → script_may_end s ≡ false → in_script_comment s ≡ false
token-no-comment s e = outside-token s.literals s.at e

pub waiting-goes : (s : ScriptState) (h held : Pending) (w : Bool) → slash_waits s ≡ w → HeldBehind false w element.Script h held s → (k : Pending) × PageGoes element.Script held (waiting_slash s) k
waiting-goes s h held true q n =
    let k = slash-goes element.Script held n.0 in
    (k.0, subst (λ (ws : List ℕ). PageGoes element.Script held ws k.0) (sym (waiting-is s true q)) (k.0, k.1, refl))
waiting-goes s h held false q n = (held, subst (λ (ws : List ℕ). PageGoes element.Script held ws held) (sym (waiting-is s false q)) refl)

pub held-nothing : (e : Element) (s : ScriptState) (h : Pending) (c w : Bool) → HeldBehind c w e h Nothing s
held-nothing e s h true w = refl
held-nothing e s h false true = (refl, λ q l. nothing-less l)
  where
    nothing-less : Nothing ≡ PendingLess → ⊥
    nothing-less l = cc
held-nothing e s h false false = tt

pub word-read : ScriptStandsLaws LexEvent InsideScript → (b : ℕ) (bs : List ℕ) (s : ScriptState) (h g : Pending) (t : List LexEvent) (d : Config ValueState) → StandsInScript element.Script s h t d
    → script_may_end s ≡ false → is_hidden_in_script (b ∷ bs) ≡ true → ScriptTakes s (b ∷ bs)
    → (let q = read_page (b ∷ bs) (page_script s t) in StandsInScript element.Script q.state g q.told (page languages (script_hides s (b ∷ bs)) d))
word-read laws b bs s h g t d l m w n =
    let q = read_page (b ∷ bs) (page_script s t) in
    let p = read_page (pending_bytes l.held) (page_script l.there l.told) in
    let before = subst (λ (c : Bool). HeldBehind c (slash_waits s) element.Script h l.held s) (token-no-comment s m) l.nothing in
    let k = waiting-goes s h l.held (slash_waits s) refl before in
    let few = behind-no-less bs (behind-by-equal b bs w) in
    stands-from element.Script q.state g Nothing l.held q.told (script_hides s (b ∷ bs)) p d (is-at element.Script s h t d l)
    (goes-append (waiting_slash s) (escaped_less (is_taken_at s.at) ++ bs) element.Script l.held k.0 Nothing k.1 (escaped-goes (is_taken_at s.at) bs k.0 few))
    (laws.word s (b ∷ bs) t p l.stands m w n)
    (held-nothing element.Script q.state g (in_script_comment q.state) (slash_waits q.state))
