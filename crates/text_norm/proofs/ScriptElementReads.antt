-- What a script reads of a text in its element, and the page of what is written for it: both stand behind it as before.
use Rattle.std.proofs.Common.{◌≡◌, ℕ, ◌+◌, Bool, true, false, codes, length, List, [], ◌∷◌, ◌++◌, Option, Some, None, refl, sym, ap, ◌∙◌, subst, true≢false}
use Rattle.js_lexer.specs.Feeding.{feed_script}
use Rattle.js_lexer.specs.PageScripts.{PageScript, ScriptStands, ScriptStandsLaws, ScriptTakes, page_script}
use Rattle.js_lexer.specs.Refusals.{Cause, script_refuses}
use Rattle.js_lexer.specs.States.{ScriptState}
use Rattle.place_core.proofs.ScriptSteps.{step-ends}
use Rattle.place_core.specs.page.Classes.{Class, Solidus, class_of}
use Rattle.place_core.specs.page.Contents.{EndsContent, Reads, is_name_of, may_be_name_of, pending_bytes, script_step, step_end_name}
use Rattle.place_core.specs.page.Events.{InsideScript, LexEvent}
use Rattle.place_core.specs.page.States.{Config, Pending, Nothing, PendingLess, LessAtCut, PendingName, PendingBang, PendingBangDash, PendingOpening}
use Rattle.place_core.specs.page.Tags.{ValueState, languages}
use Rattle.place_core.specs.place.Errors.{element_script, read_error, script_cause_back}
use Rattle.place_core.specs.declared.element.Element.{Element}
use Rattle.text_norm.proofs.ScriptElementKeeps.{RawBehind, RunsBy, class-solidus, lands-as, run-open}
use Rattle.text_norm.proofs.ScriptPages.{NoLess, PageIsAt, behind-less-goes, goes_on_less, is_less_class, loose-goes, page-reads, read_page}
use Rattle.text_norm.proofs.ScriptPending.{one-more}
use Rattle.text_norm.proofs.ValuesKeep.{both-none}
use Rattle.text_norm.specs.Standing.{HeldBehind, IsBehindLess, PageGoes, ScriptComesToNothing, StandsInScript, StepGoes, behind_less, in_script_comment, is_whole_name, page, slash_waits, tells_comment_of_html}
use Rattle.text_norm.specs.Written.{path_script, script_bytes_out}

-- What is not refused.
pub cause-none : (n : ℕ) (o : Option Cause) → script_cause_back n o ≡ None → o ≡ None
cause-none n None e = refl
cause-none n (Some x) e = cc

pub takes-of : (bs : List ℕ) (s : ScriptState) (n : ℕ) → read_error element_script s bs n ≡ None → ScriptTakes s bs
takes-of [] s n e = tt
takes-of (b ∷ bs) s n e =
    let m = both-none (script_cause_back (length bs + n) (script_refuses true s b)) (read_error element_script (feed_script s b) bs n) e in
    (cause-none (length bs + n) (script_refuses true s b) m.0, takes-of bs (feed_script s b) n m.1)

pub takes-first : (xs ys : List ℕ) (s : ScriptState) → ScriptTakes s (xs ++ ys) → ScriptTakes s xs
takes-first [] ys s n = tt
takes-first (b ∷ xs) ys s n = (n.0, takes-first xs ys (feed_script s b) n.1)

-- A page that has read what is written.
pub stands-from : (e : Element) (s : ScriptState) (h g held : Pending) (t : List LexEvent) (out : List ℕ) (p : PageScript LexEvent) (d : Config ValueState) → PageIsAt e held p d → PageGoes e held out g
    → ScriptStands LexEvent InsideScript s t (read_page out p) → HeldBehind (in_script_comment s) (slash_waits s) e h g s → StandsInScript e s h t (page languages out d)
stands-from e s h g held t out p d l m stands n =
    let r = page-reads out e held g p d m l in
    record {
      there = r.there;
      held = g;
      told = r.told;
      at = r.at;
      stands = subst (ScriptStands LexEvent InsideScript s t) (sym r.behind) stands;
      nothing = n;
    }

pub is-at : (e : Element) (s : ScriptState) (h : Pending) (t : List LexEvent) (d : Config ValueState) (l : StandsInScript e s h t d) → PageIsAt e l.held (read_page (pending_bytes l.held) (page_script l.there l.told)) d
is-at e s h t d l = record { there = l.there; told = l.told; at = l.at; behind = refl }

-- Behind a slash on the page.
slash-plain : (g : Pending) → tells_comment_of_html g Solidus ≡ false
slash-plain Nothing = refl
slash-plain PendingLess = refl
slash-plain LessAtCut = refl
slash-plain (PendingName letters) = refl
slash-plain PendingBang = refl
slash-plain PendingBangDash = refl
slash-plain (PendingOpening letters) = refl

slash-ends : (e : Element) (g : Pending) (letters : List ℕ) → is_whole_name e g ≡ false → script_step true e g Solidus 47 ≡ EndsContent letters → ⊥
slash-ends e g letters w s = (let m = step-ends e g Solidus 47 letters s in true≢false (sym m.1 ∙ sym (ap (is_whole_name e) m.0) ∙ w))

pub slash-goes : (e : Element) (g : Pending) → is_whole_name e g ≡ false → (k : Pending) × StepGoes e g 47 k
slash-goes e g w = one-more e g Solidus 47 class-solidus (slash-plain g) (λ letters s. slash-ends e g letters w s)

-- Where the page's bytes begin, by what it has pending.
record Starts (e : Element) (s : ScriptState) (h held : Pending) : Type 0 where
  raw : Pending
  behind : RawBehind (in_script_comment s) (slash_waits s) e raw held

starts-by : (e : Element) (s : ScriptState) (h held : Pending) (c w : Bool) → in_script_comment s ≡ c → slash_waits s ≡ w → HeldBehind c w e h held s → Starts e s h held
starts-by e s h held true w p q n = record { raw = Nothing; behind = lands-as e s Nothing held true w p q n }
starts-by e s h held false true p q n =
    let k = slash-goes e held n.0 in
    record { raw = k.0; behind = lands-as e s k.0 held false true p q (n.0, (k.0, k.1, refl)) }
starts-by e s h held false false p q n = record { raw = held; behind = lands-as e s held held false false p q refl }

-- What the page has pending behind the bytes.
comes-free : (g there : Pending) (s : ScriptState) → (g ≡ Nothing → there ≡ Nothing) → ScriptComesToNothing g there s
comes-free g Nothing s f = tt
comes-free Nothing PendingLess s f = absurd (nothing-less (f refl))
  where
    nothing-less : PendingLess ≡ Nothing → ⊥
    nothing-less q = cc
comes-free Nothing LessAtCut s f = absurd (nothing-cut (f refl))
  where
    nothing-cut : LessAtCut ≡ Nothing → ⊥
    nothing-cut q = cc
comes-free Nothing (PendingName letters) s f = absurd (nothing-name letters (f refl))
  where
    nothing-name : (letters : List ℕ) → PendingName letters ≡ Nothing → ⊥
    nothing-name letters q = cc
comes-free Nothing PendingBang s f = absurd (nothing-bang (f refl))
  where
    nothing-bang : PendingBang ≡ Nothing → ⊥
    nothing-bang q = cc
comes-free Nothing PendingBangDash s f = absurd (nothing-dash (f refl))
  where
    nothing-dash : PendingBangDash ≡ Nothing → ⊥
    nothing-dash q = cc
comes-free Nothing (PendingOpening letters) s f = absurd (nothing-opening letters (f refl))
  where
    nothing-opening : (letters : List ℕ) → PendingOpening letters ≡ Nothing → ⊥
    nothing-opening letters q = cc
comes-free PendingLess there s f = tt
comes-free LessAtCut there s f = tt
comes-free (PendingName letters) there s f = tt
comes-free PendingBang there s f = tt
comes-free PendingBangDash there s f = tt
comes-free (PendingOpening letters) there s f = tt

less-then-slash : (e : Element) (there raw : Pending) → there ≡ PendingLess → PageGoes e there (codes "/") raw → raw ≡ Nothing → ⊥
less-then-slash e there raw q m n = name-none (ap (λ (c : Class). script_step true e PendingLess c 47) (sym class-solidus) ∙ ap (λ (z : Pending). script_step true e z (class_of 47) 47) (sym q) ∙ m.1.step) (m.2 ∙ n)
  where
    name-none : Reads [] (PendingName []) ≡ Reads m.1.read m.0 → m.0 ≡ Nothing → ⊥
    name-none a b = cc

held-of : (e : Element) (s : ScriptState) (g raw there : Pending) (c w : Bool) → RawBehind c w e raw there → (g ≡ Nothing → raw ≡ Nothing) → HeldBehind c w e g there s
held-of e s g raw there true w r f = r
held-of e s g raw there false true r f = (r.0, λ q l. less-then-slash e there raw l r.1 (f q))
held-of e s g raw there false false r f = comes-free g there s (λ q. r ∙ f q)

-- Bytes that are no word of a token.
runs-if : (c : Bool) (e : Element) (s : ScriptState) (raw held : Pending) (bs : List ℕ) (k : Pending) → in_script_comment s ≡ c → RawBehind (in_script_comment s) (slash_waits s) e raw held
    → (in_script_comment s ≡ false → RawBehind false (slash_waits s) e raw held → PageGoes e raw bs k) → NoLess (behind_less bs) → RunsBy c e raw bs k
runs-if true e s raw held bs k q r f n = n
runs-if false e s raw held bs k q r f n = (f q (subst (λ (c : Bool). RawBehind c (slash_waits s) e raw held) q r), n)

pub reads-plain : ScriptStandsLaws LexEvent InsideScript → (bs : List ℕ) (e : Element) (s : ScriptState) (h g k : Pending) (t : List LexEvent) (d : Config ValueState) (l : StandsInScript e s h t d)
    → ScriptTakes s bs → ((raw : Pending) → in_script_comment s ≡ false → RawBehind false (slash_waits s) e raw l.held → PageGoes e raw bs k) → NoLess (behind_less bs) → (g ≡ Nothing → k ≡ Nothing)
    → (let q = read_page bs (page_script s t) in StandsInScript e q.state g q.told (page languages (script_bytes_out path_script s bs) d))
reads-plain laws bs e s h g k t d l n goes few f =
    let q = read_page bs (page_script s t) in
    let p = read_page (pending_bytes l.held) (page_script l.there l.told) in
    let z = starts-by e s h l.held (in_script_comment s) (slash_waits s) refl refl l.nothing in
    let r = run-open laws bs e s t p z.raw l.held k (in_script_comment s) refl n (record { stands = l.stands; behind = z.behind })
    (runs-if (in_script_comment s) e s z.raw l.held bs k refl z.behind (goes z.raw) few) in
    stands-from e q.state g r.there l.held q.told (script_bytes_out path_script s bs) p d (is-at e s h t d l) r.goes r.both.stands
    (held-of e q.state g r.raw r.there (in_script_comment q.state) (slash_waits q.state) r.both.behind (λ y. r.nothing (f y)))

-- One byte where the path has nothing pending.
slash-name : (e : Element) (grows whole : Bool) (letters bs : List ℕ) (k : Pending) → whole ≡ false → step_end_name grows whole Solidus 47 letters ≡ Reads bs k → k ≡ Nothing
slash-name e true false letters bs k w s = cc
slash-name e false false letters bs k w s = cc
slash-name e grows true letters bs k w s = absurd (true≢false w)

pub slash-to : (e : Element) (g k : Pending) (bs : List ℕ) → is_whole_name e g ≡ false → (g ≡ PendingLess → ⊥) → script_step true e g Solidus 47 ≡ Reads bs k → k ≡ Nothing
slash-to e Nothing k bs w n s = cc
slash-to e PendingLess k bs w n s = absurd (n refl)
slash-to e LessAtCut k bs w n s = cc
slash-to e (PendingName letters) k bs w n s = slash-name e (may_be_name_of e (letters ++ 47 ∷ [])) (is_name_of e letters) letters bs k w s
slash-to e PendingBang k bs w n s = cc
slash-to e PendingBangDash k bs w n s = cc
slash-to e (PendingOpening letters) k bs w n s = cc

loose-held : (e : Element) (s : ScriptState) (held : Pending) (c : Class) (b : ℕ) → class_of b ≡ c → is_less_class c ≡ false → (IsBehindLess s → goes_on_less c ≡ false)
    → ScriptComesToNothing Nothing held s → StepGoes e held b Nothing
loose-held e s Nothing c b k n f h = loose-goes e c b k n
loose-held e s PendingLess c b k n f h = behind-less-goes e c b k (f h)
loose-held e s LessAtCut c b k n f h = absurd h
loose-held e s (PendingName letters) c b k n f h = absurd h
loose-held e s PendingBang c b k n f h = absurd h
loose-held e s PendingBangDash c b k n f h = absurd h
loose-held e s (PendingOpening letters) c b k n f h = absurd h

pub loose-from : (e : Element) (s : ScriptState) (raw held : Pending) (w : Bool) (c : Class) (b : ℕ) → class_of b ≡ c → is_less_class c ≡ false → (IsBehindLess s → goes_on_less c ≡ false)
    → RawBehind false w e raw held → HeldBehind false w e Nothing held s → StepGoes e raw b Nothing
loose-from e s raw held true c b k n f r h =
    let m = r.1 in
    let none : m.0 ≡ Nothing = slash-to e held m.0 m.1.read h.0 (h.1 refl) (ap (λ (z : Class). script_step true e held z 47) (sym class-solidus) ∙ m.1.step) in
    subst (λ (z : Pending). StepGoes e z b Nothing) (sym none ∙ m.2) (loose-goes e c b k n)
loose-from e s raw held false c b k n f r h = subst (λ (z : Pending). StepGoes e z b Nothing) r (loose-held e s held c b k n f h)
