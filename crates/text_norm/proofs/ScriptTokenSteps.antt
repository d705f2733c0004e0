-- A byte of a token of a script: what begins a word is pending, a word is written otherwise, and other bytes are written as they are read.
use Rattle.std.proofs.Common.{◌≡◌, ℕ, Bool, true, false, codes, List, [], ◌∷◌, ◌++◌, None, refl, sym, ap, ◌∙◌, subst, true≢false}
use Rattle.std.proofs.lemmas.List.{append-nil}
use Rattle.std.specs.Prelude.{⊤}
use Rattle.js_lexer.specs.Elements.{script_may_end}
use Rattle.js_lexer.specs.PageScripts.{ScriptStandsLaws, ScriptTakes, page_script}
use Rattle.js_lexer.specs.States.{ScriptState}
use Rattle.js_lexer.specs.Written.{is_hidden_in_script, script_hides}
use Rattle.place_core.proofs.ScriptSteps.{MayBePending, bang-is, dash-is, solidus-is, step-keeps}
use Rattle.place_core.specs.page.Classes.{Class, ExclamationMark, HyphenMinus, LessThan, Solidus, class_of}
use Rattle.place_core.specs.page.Contents.{BeginsWord, InWord, IsWord, NoWord, ScriptStep, Reads, EndsContent, in_word, is_name_of, may_be_name_of, pending_bytes, script_step, step_end_name, step_in_token, step_loose, word_goes_on}
use Rattle.place_core.specs.page.Events.{InsideScript, LexEvent}
use Rattle.place_core.specs.page.States.{Config, Pending, Nothing, PendingLess, LessAtCut, PendingName, PendingBang, PendingBangDash, PendingOpening}
use Rattle.place_core.specs.page.Tags.{ValueState, languages}
use Rattle.place_core.specs.place.Errors.{element_script, step_error}
use Rattle.place_core.specs.declared.element.Element.TheVariants as element
use Rattle.text_norm.proofs.ScriptElementReads.{loose-from, reads-plain, takes-first, takes-of}
use Rattle.text_norm.proofs.ScriptElementSteps.{IsHeld, OnlyLess, goes-on, may-go-on}
use Rattle.text_norm.proofs.ScriptElementWords.{behind-no-less, token-no-comment, word-read}
use Rattle.text_norm.proofs.ScriptLessFed.{may-end-behind}
use Rattle.text_norm.proofs.ScriptPages.{NoLess, behind-less-goes, goes-append, goes-from, is_less_class, loose-goes, read_page, step-goes}
use Rattle.text_norm.proofs.ScriptPending.{dashes-are, name-begins, no-whole-name, none-is, not-hidden, token-holds, whole-is, word-bytes}
use Rattle.text_norm.specs.Standing.{HeldBehind, PageGoes, ScriptMayGoOn, StandsInScript, StepGoes, behind_less, page, seen_by_page, slash_waits}
use Rattle.text_norm.specs.Written.{path_script, script_bytes_out, script_read_out}

-- the path in this state with this pending, and the page
pub record StandsThere (s : ScriptState) (g : Pending) (t : List LexEvent) (d : Config ValueState) : Type 0 where
  pub goes_on : ScriptMayGoOn element.Script s g
  pub stands : StandsInScript element.Script s g t d

-- what begins a word is pending
word-is-held : (h : Pending) (c : Class) (b : ℕ) → IsHeld (word_goes_on h c b)
word-is-held PendingLess c b = less-is-held c
  where
    less-is-held : (c : Class) → IsHeld (word_goes_on PendingLess c b)
    less-is-held Solidus = tt
    less-is-held ExclamationMark = tt
    less-is-held c = tt
word-is-held (PendingName letters) c b = tt
word-is-held (PendingOpening letters) c b = tt
word-is-held PendingBang c b = tt
word-is-held Nothing c b = tt
word-is-held LessAtCut c b = tt
word-is-held PendingBangDash c b = tt

less-cut : (bs : List ℕ) (k : Pending) → script_step true element.Script Nothing (class_of 60) 60 ≡ Reads bs k → k ≡ LessAtCut → ⊥
unfolding class_of
less-cut bs k a b = cc

pub not-at-cut : (h : Pending) → PageGoes element.Script Nothing (pending_bytes h) (seen_by_page h) → MayBePending false h
not-at-cut LessAtCut m = absurd (less-cut m.1.read m.0 m.1.step m.2)
not-at-cut Nothing m = tt
not-at-cut PendingLess m = tt
not-at-cut (PendingName letters) m = tt
not-at-cut PendingBang m = tt
not-at-cut PendingBangDash m = tt
not-at-cut (PendingOpening letters) m = tt

token-begins : (s : ScriptState) (h : Pending) (c : Class) (b : ℕ) (t : List LexEvent) (d : Config ValueState) → class_of b ≡ c → script_may_end s ≡ false
    → in_word (pending_bytes h ++ b ∷ []) ≡ BeginsWord
    → ScriptMayGoOn element.Script s h → StandsInScript element.Script s h t d → StandsThere s (word_goes_on h c b) t d
token-begins s h c b t d k m w g l =
    let z = word_goes_on h c b in
    let same = step-keeps false element.Script h z c b [] k (not-at-cut h g.goes_on) (ap (λ (y : InWord). step_in_token y h c b) w) in
    let begins : in_word (pending_bytes z) ≡ BeginsWord = ap in_word same ∙ w in
    record {
      goes_on = record { element = refl; word = λ n. begins; bytes = word-bytes (pending_bytes z) begins; goes_on = token-holds h c b k w g.goes_on };
      stands = goes-on element.Script s h z t d (word-is-held h c b) l;
    }

-- a word
word-of : ScriptStandsLaws LexEvent InsideScript → (bytes : List ℕ) (s : ScriptState) (h g : Pending) (t : List LexEvent) (d : Config ValueState)
    → StandsInScript element.Script s h t d
    → script_may_end s ≡ false → is_hidden_in_script bytes ≡ true → ScriptTakes s bytes
    → (let q = read_page bytes (page_script s t) in StandsInScript element.Script q.state g q.told (page languages (script_hides s bytes) d))
word-of laws [] s h g t d l m w n = absurd (true≢false (sym w))
word-of laws (b ∷ bs) s h g t d l m w n = word-read laws b bs s h g t d l m w n

hides-out : (s : ScriptState) (bytes : List ℕ) → script_may_end s ≡ false → is_hidden_in_script bytes ≡ true
    → script_read_out path_script s bytes ≡ script_hides s bytes
hides-out s bytes m w = rw (m, w) refl

token-word : ScriptStandsLaws LexEvent InsideScript → (bytes : List ℕ) (s : ScriptState) (h : Pending) (t : List LexEvent) (d : Config ValueState)
    → StandsInScript element.Script s h t d
    → script_may_end s ≡ false → is_hidden_in_script bytes ≡ true → ScriptTakes s bytes
    → (let q = read_page bytes (page_script s t) in StandsThere q.state Nothing q.told (page languages (script_read_out path_script s bytes) d))
token-word laws bytes s h t d l m w n =
    let q = read_page bytes (page_script s t) in
    record {
      goes_on = may-go-on q.state Nothing tt;
      stands = subst (λ (out : List ℕ). StandsInScript element.Script q.state Nothing q.told (page languages out d)) (sym (hides-out s bytes m w))
          (word-of laws bytes s h Nothing t d l m w n);
    }

-- Bytes that are no word. In HTML they come to nothing, but for a `<` at the end.
solidus-begins : in_word (60 ∷ 47 ∷ []) ≡ NoWord → ⊥
unfolding in_word
solidus-begins w = cc

bang-begins : in_word (60 ∷ 33 ∷ []) ≡ NoWord → ⊥
unfolding in_word
bang-begins w = cc

dash-begins : in_word (60 ∷ 33 ∷ 45 ∷ []) ≡ NoWord → ⊥
unfolding in_word
dash-begins w = cc

name-loose : (grows whole : Bool) (c : Class) (b : ℕ) (letters : List ℕ) → (grows ≡ true → ⊥) → whole ≡ false → is_less_class c ≡ false
    → step_end_name grows whole c b letters ≡ Reads ((codes "</" ++ letters) ++ b ∷ []) Nothing
name-loose true whole c b letters f w n = absurd (f refl)
name-loose false true c b letters f w n = absurd (true≢false w)
name-loose false false LessThan b letters f w n = absurd (true≢false n)
name-loose false false c b letters f w n = refl

less-to-nothing : (c : Class) (b : ℕ) → class_of b ≡ c → is_less_class c ≡ false → in_word (60 ∷ b ∷ []) ≡ NoWord
    → StepGoes element.Script PendingLess b Nothing
less-to-nothing Solidus b k n w = absurd (solidus-begins (subst (λ (z : ℕ). in_word (60 ∷ z ∷ []) ≡ NoWord) (solidus-is b k) w))
less-to-nothing ExclamationMark b k n w = absurd (bang-begins (subst (λ (z : ℕ). in_word (60 ∷ z ∷ []) ≡ NoWord) (bang-is b k) w))
less-to-nothing LessThan b k n w = absurd (true≢false n)
less-to-nothing c b k n w = behind-less-goes element.Script c b k refl

bang-to-nothing : (c : Class) (b : ℕ) → class_of b ≡ c → is_less_class c ≡ false → in_word (60 ∷ 33 ∷ b ∷ []) ≡ NoWord
    → StepGoes element.Script PendingBang b Nothing
bang-to-nothing HyphenMinus b k n w = absurd (dash-begins (subst (λ (z : ℕ). in_word (60 ∷ 33 ∷ z ∷ []) ≡ NoWord) (dash-is b k) w))
bang-to-nothing LessThan b k n w = absurd (true≢false n)
bang-to-nothing c b k n w = step-goes element.Script PendingBang Nothing c b (60 ∷ 33 ∷ b ∷ []) k refl refl

dash-to-nothing : (c : Class) (b : ℕ) → class_of b ≡ c → is_less_class c ≡ false → in_word (60 ∷ 33 ∷ 45 ∷ b ∷ []) ≡ NoWord
    → StepGoes element.Script PendingBangDash b Nothing
dash-to-nothing HyphenMinus b k n w = absurd (dashes-are (subst (λ (z : ℕ). in_word (60 ∷ 33 ∷ 45 ∷ z ∷ []) ≡ NoWord) (dash-is b k) w))
dash-to-nothing LessThan b k n w = absurd (true≢false n)
dash-to-nothing c b k n w = step-goes element.Script PendingBangDash Nothing c b (60 ∷ 33 ∷ 45 ∷ b ∷ []) k refl refl

cut-to-nothing : (c : Class) (b : ℕ) → class_of b ≡ c → is_less_class c ≡ false → StepGoes element.Script LessAtCut b Nothing
cut-to-nothing LessThan b k n = absurd (true≢false n)
cut-to-nothing c b k n = step-goes element.Script LessAtCut Nothing c b (60 ∷ b ∷ []) k refl refl

to-nothing : (h : Pending) (c : Class) (b : ℕ) → class_of b ≡ c → is_less_class c ≡ false → in_word (pending_bytes h) ≡ BeginsWord
    → in_word (pending_bytes h ++ b ∷ []) ≡ NoWord
    → StepGoes element.Script (seen_by_page h) b Nothing
to-nothing Nothing c b k n v w = loose-goes element.Script c b k n
to-nothing PendingLess c b k n v w = less-to-nothing c b k n w
to-nothing LessAtCut c b k n v w = cut-to-nothing c b k n
to-nothing (PendingName letters) c b k n v w =
    step-goes element.Script (PendingName letters) Nothing c b ((codes "</" ++ letters) ++ b ∷ []) k
    (name-loose (may_be_name_of element.Script (letters ++ b ∷ [])) (is_name_of element.Script letters) c b letters
    (λ q. true≢false (sym q ∙ sym (name-begins (letters ++ b ∷ [])) ∙ (none-is (60 ∷ 47 ∷ (letters ++ b ∷ [])) w).1))
    (no-whole-name letters v) n)
    refl
to-nothing PendingBang c b k n v w = bang-to-nothing c b k n w
to-nothing PendingBangDash c b k n v w = dash-to-nothing c b k n w
to-nothing (PendingOpening letters) c b k n v w = loose-goes element.Script c b k n

-- what is pending begins with a `<`: the page reads it from anywhere
pub from-anywhere : (h : Pending) (xs : List ℕ) (g k : Pending) → IsHeld h → PageGoes element.Script Nothing (pending_bytes h ++ xs) k
    → PageGoes element.Script g (pending_bytes h ++ xs) k
from-anywhere Nothing xs g k i m = absurd i
from-anywhere PendingLess xs g k i m = goes-from xs element.Script g k m
from-anywhere LessAtCut xs g k i m = goes-from xs element.Script g k m
from-anywhere (PendingName letters) xs g k i m = goes-from (47 ∷ (letters ++ xs)) element.Script g k m
from-anywhere PendingBang xs g k i m = goes-from (33 ∷ xs) element.Script g k m
from-anywhere PendingBangDash xs g k i m = goes-from (33 ∷ 45 ∷ xs) element.Script g k m
from-anywhere (PendingOpening letters) xs g k i m = goes-from (letters ++ xs) element.Script g k m

no-less-more : (bs : List ℕ) (b : ℕ) → NoLess bs → is_less_class (class_of b) ≡ false → NoLess (bs ++ b ∷ [])
no-less-more [] b n m = (m, tt)
no-less-more (x ∷ bs) b n m = (n.0, no-less-more bs b n.1 m)

pub behind-more : (bs : List ℕ) (b : ℕ) → NoLess (behind_less bs) → is_less_class (class_of b) ≡ false → NoLess (behind_less (bs ++ b ∷ []))
behind-more [] b n m = tt
behind-more (x ∷ bs) b n m = no-less-more bs b n m

plain-out : (s : ScriptState) (bytes : List ℕ) → script_may_end s ≡ false → is_hidden_in_script bytes ≡ false
    → script_read_out path_script s bytes ≡ script_bytes_out path_script s bytes
plain-out s bytes m w = rw (m, w) refl

-- bytes that are written one by one
abbrev pub ReadPlain : List ℕ → ScriptState → Pending → List LexEvent → Config ValueState → Type 0
ReadPlain bytes s g t d =
    (let q = read_page bytes (page_script s t) in
    StandsInScript element.Script q.state g q.told (page languages (script_bytes_out path_script s bytes) d))

-- a byte that is no `<`
token-one : ScriptStandsLaws LexEvent InsideScript → (s : ScriptState) (c : Class) (b : ℕ) (t : List LexEvent) (d : Config ValueState) → class_of b ≡ c
    → is_less_class c ≡ false → script_may_end s ≡ false
    → ScriptTakes s (b ∷ []) → StandsInScript element.Script s Nothing t d
    → ReadPlain (b ∷ []) s Nothing t d
token-one laws s c b t d k n m takes l =
    let before = subst (λ (x : Bool). HeldBehind x (slash_waits s) element.Script Nothing l.held s) (token-no-comment s m) l.nothing in
    reads-plain laws (b ∷ []) element.Script s Nothing Nothing Nothing t d l takes
    (λ raw q r. (
      Nothing,
      loose-from element.Script s raw l.held (slash_waits s) c b k n
          (λ i. absurd (true≢false (sym (may-end-behind s i) ∙ m))) r before,
      refl,
    )) tt (λ q. refl)

token-more : ScriptStandsLaws LexEvent InsideScript → (s : ScriptState) (h : Pending) (c : Class) (b : ℕ) (t : List LexEvent) (d : Config ValueState)
    → class_of b ≡ c → is_less_class c ≡ false → script_may_end s ≡ false
    → IsHeld h → in_word (pending_bytes h ++ b ∷ []) ≡ NoWord → ScriptTakes s (pending_bytes h ++ b ∷ []) → ScriptMayGoOn element.Script s h
    → StandsInScript element.Script s h t d
    → ReadPlain (pending_bytes h ++ b ∷ []) s Nothing t d
token-more laws s h c b t d k n m i w takes g l =
    let bs = pending_bytes h ++ b ∷ [] in
    let step = to-nothing h c b k n (g.word m) w in
    reads-plain laws bs element.Script s h Nothing Nothing t d l takes
    (λ raw q r. from-anywhere h (b ∷ []) raw Nothing i (goes-append (pending_bytes h) (b ∷ []) element.Script Nothing (seen_by_page h) Nothing g.goes_on
    (Nothing, step, refl)))
    (behind-more (pending_bytes h) b (behind-no-less (behind_less (pending_bytes h)) g.bytes) (ap is_less_class k ∙ n)) (λ q. refl)

-- a `<`, which is pending
pub token-again : ScriptStandsLaws LexEvent InsideScript → (s : ScriptState) (h : Pending) (t : List LexEvent) (d : Config ValueState) → IsHeld h
    → ScriptTakes s (pending_bytes h) → ScriptMayGoOn element.Script s h
    → StandsInScript element.Script s h t d
    → ReadPlain (pending_bytes h) s PendingLess t d
token-again laws s h t d i takes g l =
    reads-plain laws (pending_bytes h) element.Script s h PendingLess (seen_by_page h) t d l takes
    (λ raw q r. subst (λ (bs : List ℕ). PageGoes element.Script raw bs (seen_by_page h)) (append-nil (pending_bytes h))
    (from-anywhere h [] raw (seen_by_page h) i (subst (λ (bs : List ℕ). PageGoes element.Script Nothing bs (seen_by_page h))
    (sym (append-nil (pending_bytes h))) g.goes_on)))
    (behind-no-less (behind_less (pending_bytes h)) g.bytes) (λ q. absurd (less-nothing q))
  where
    less-nothing : PendingLess ≡ Nothing → ⊥
    less-nothing q = cc

-- Where a step leads.
abbrev pub StepStands : ScriptStep → ScriptState → List LexEvent → Config ValueState → Type 0
StepStands (Reads bytes g) s t d =
    (let q = read_page bytes (page_script s t) in StandsThere q.state g q.told (page languages (script_read_out path_script s bytes) d))
StepStands (EndsContent letters) s t d = ⊤

pub as-written : (bytes : List ℕ) (s : ScriptState) (g : Pending) (t : List LexEvent) (d : Config ValueState) → OnlyLess g
    → script_read_out path_script s bytes ≡ script_bytes_out path_script s bytes
    → ReadPlain bytes s g t d
    → StepStands (Reads bytes g) s t d
as-written bytes s g t d o e l =
    let q = read_page bytes (page_script s t) in
    record {
      goes_on = may-go-on q.state g o;
      stands = subst (λ (out : List ℕ). StandsInScript element.Script q.state g q.told (page languages out d)) (sym e) l;
    }

none-hidden : is_hidden_in_script [] ≡ false
none-hidden = refl

token-less : ScriptStandsLaws LexEvent InsideScript → (s : ScriptState) (h : Pending) (t : List LexEvent) (d : Config ValueState) → script_may_end s ≡ false
    → ScriptTakes s (pending_bytes h)
    → ScriptMayGoOn element.Script s h → StandsInScript element.Script s h t d → StepStands (Reads (pending_bytes h) PendingLess) s t d
token-less laws s Nothing t d m n g l =
    as-written [] s PendingLess t d tt (plain-out s [] m none-hidden) (goes-on element.Script s Nothing PendingLess t d tt l)
token-less laws s PendingLess t d m n g l =
    as-written (60 ∷ []) s PendingLess t d tt (plain-out s (60 ∷ []) m (not-hidden (60 ∷ []) (g.word m))) (token-again laws s PendingLess t d tt n g l)
token-less laws s LessAtCut t d m n g l =
    as-written (60 ∷ []) s PendingLess t d tt (plain-out s (60 ∷ []) m (not-hidden (60 ∷ []) (g.word m))) (token-again laws s LessAtCut t d tt n g l)
token-less laws s (PendingName letters) t d m n g l =
    as-written (60 ∷ 47 ∷ letters) s PendingLess t d tt (plain-out s (60 ∷ 47 ∷ letters) m (not-hidden (60 ∷ 47 ∷ letters) (g.word m)))
    (token-again laws s (PendingName letters) t d tt n g l)
token-less laws s PendingBang t d m n g l =
    as-written (60 ∷ 33 ∷ []) s PendingLess t d tt (plain-out s (60 ∷ 33 ∷ []) m (not-hidden (60 ∷ 33 ∷ []) (g.word m)))
    (token-again laws s PendingBang t d tt n g l)
token-less laws s PendingBangDash t d m n g l =
    as-written (60 ∷ 33 ∷ 45 ∷ []) s PendingLess t d tt (plain-out s (60 ∷ 33 ∷ 45 ∷ []) m (not-hidden (60 ∷ 33 ∷ 45 ∷ []) (g.word m)))
    (token-again laws s PendingBangDash t d tt n g l)
token-less laws s (PendingOpening letters) t d m n g l =
    as-written (60 ∷ letters) s PendingLess t d tt (plain-out s (60 ∷ letters) m (not-hidden (60 ∷ letters) (g.word m)))
    (token-again laws s (PendingOpening letters) t d tt n g l)

token-plain : ScriptStandsLaws LexEvent InsideScript → (s : ScriptState) (h : Pending) (c : Class) (b : ℕ) (t : List LexEvent) (d : Config ValueState)
    → class_of b ≡ c → is_less_class c ≡ false → script_may_end s ≡ false
    → in_word (pending_bytes h ++ b ∷ []) ≡ NoWord → ScriptTakes s (pending_bytes h ++ b ∷ []) → ScriptMayGoOn element.Script s h
    → StandsInScript element.Script s h t d
    → StepStands (Reads (pending_bytes h ++ b ∷ []) Nothing) s t d
token-plain laws s h c b t d k n m w takes g l =
    as-written (pending_bytes h ++ b ∷ []) s Nothing t d tt (plain-out s (pending_bytes h ++ b ∷ []) m (none-is (pending_bytes h ++ b ∷ []) w).0)
    (by-pending h w takes g l)
  where
    by-pending : (h : Pending) → in_word (pending_bytes h ++ b ∷ []) ≡ NoWord → ScriptTakes s (pending_bytes h ++ b ∷ []) → ScriptMayGoOn element.Script s h
        → StandsInScript element.Script s h t d
        → ReadPlain (pending_bytes h ++ b ∷ []) s Nothing t d
    by-pending Nothing w takes g l = token-one laws s c b t d k n m takes l
    by-pending PendingLess w takes g l = token-more laws s PendingLess c b t d k n m tt w takes g l
    by-pending LessAtCut w takes g l = token-more laws s LessAtCut c b t d k n m tt w takes g l
    by-pending (PendingName letters) w takes g l = token-more laws s (PendingName letters) c b t d k n m tt w takes g l
    by-pending PendingBang w takes g l = token-more laws s PendingBang c b t d k n m tt w takes g l
    by-pending PendingBangDash w takes g l = token-more laws s PendingBangDash c b t d k n m tt w takes g l
    by-pending (PendingOpening letters) w takes g l = token-more laws s (PendingOpening letters) c b t d k n m tt w takes g l

no-word-step : ScriptStandsLaws LexEvent InsideScript → (s : ScriptState) (h : Pending) (c : Class) (b : ℕ) (t : List LexEvent) (d : Config ValueState)
    → class_of b ≡ c → script_may_end s ≡ false
    → in_word (pending_bytes h ++ b ∷ []) ≡ NoWord → step_error element_script s (step_loose (pending_bytes h) c b) ≡ None → ScriptMayGoOn element.Script s h
    → StandsInScript element.Script s h t d
    → StepStands (step_loose (pending_bytes h) c b) s t d
no-word-step laws s h LessThan b t d k m w e g l =
    token-less laws s h t d m (takes-first (pending_bytes h) (60 ∷ []) s (takes-of (pending_bytes h ++ 60 ∷ []) s 0 e)) g l
no-word-step laws s h c b t d k m w e g l = token-plain laws s h c b t d k refl m w (takes-of (pending_bytes h ++ b ∷ []) s 0 e) g l

token-by : ScriptStandsLaws LexEvent InsideScript → (z : InWord) (s : ScriptState) (h : Pending) (c : Class) (b : ℕ) (t : List LexEvent) (d : Config ValueState)
    → class_of b ≡ c → script_may_end s ≡ false
    → in_word (pending_bytes h ++ b ∷ []) ≡ z → step_error element_script s (step_in_token z h c b) ≡ None → ScriptMayGoOn element.Script s h
    → StandsInScript element.Script s h t d
    → StepStands (step_in_token z h c b) s t d
token-by laws IsWord s h c b t d k m w e g l =
    token-word laws (pending_bytes h ++ b ∷ []) s h t d l m (whole-is (pending_bytes h ++ b ∷ []) w) (takes-of (pending_bytes h ++ b ∷ []) s 0 e)
token-by laws BeginsWord s h c b t d k m w e g l =
    subst (λ (out : List ℕ). StandsThere s (word_goes_on h c b) t (page languages out d)) (sym (plain-out s [] m none-hidden))
    (token-begins s h c b t d k m w g l)
token-by laws NoWord s h c b t d k m w e g l = no-word-step laws s h c b t d k m w e g l

-- each byte of a token
pub token-step : ScriptStandsLaws LexEvent InsideScript → (s : ScriptState) (h : Pending) (c : Class) (b : ℕ) (t : List LexEvent) (d : Config ValueState)
    → class_of b ≡ c → script_may_end s ≡ false
    → step_error element_script s (script_step false element.Script h c b) ≡ None → ScriptMayGoOn element.Script s h → StandsInScript element.Script s h t d
    → StepStands (script_step false element.Script h c b) s t d
token-step laws s h c b t d k m e g l = token-by laws (in_word (pending_bytes h ++ b ∷ [])) s h c b t d k m refl e g l
