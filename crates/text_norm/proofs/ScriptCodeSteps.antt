-- A byte of a script's code and comments: HTML goes on in the page as on the path. And every byte of a script that is read.
use Rattle.std.proofs.Common.{◌≡◌, ℕ, Bool, true, false, codes, List, [], ◌∷◌, ◌++◌, None, refl, sym, ap, ap₂, ◌∙◌, subst, true≢false}
use Rattle.js_lexer.proofs.WordsStand.{script-stands}
use Rattle.js_lexer.specs.Elements.{script_may_end}
use Rattle.js_lexer.specs.PageScripts.{ScriptStandsLaws, ScriptTakes, are_behind_less, page_script}
use Rattle.js_lexer.specs.States.{ScriptState}
use Rattle.place_core.proofs.ScriptSteps.{dash-is}
use Rattle.place_core.specs.page.Classes.{Class, White, ExclamationMark, HyphenMinus, Solidus, LessThan, GreaterThan, Letter, class_of}
use Rattle.place_core.specs.page.Contents.{ScriptStep, Reads, emits_by_step, is_name_of, may_be_name_of, next_by_step, pending_bytes, script_step, step_bang, step_end_name, step_less, step_loose}
use Rattle.place_core.specs.page.Events.{InsideScript, LexEvent}
use Rattle.place_core.specs.page.Html.{emits, next}
use Rattle.place_core.specs.page.States.{Config, Pending, Nothing, PendingLess, LessAtCut, PendingName, PendingBang, PendingBangDash, PendingOpening, Template}
use Rattle.place_core.specs.page.Tags.{OfScript, ValueState, fed_state, languages}
use Rattle.place_core.specs.place.Errors.{element_script, language_content_error, step_error}
use Rattle.place_core.specs.declared.element.Element.{Element}
use Rattle.place_core.specs.declared.element.Element.TheVariants as element
use Rattle.text_norm.proofs.ScriptElementReads.{loose-from, reads-plain, takes-first, takes-of}
use Rattle.text_norm.proofs.ScriptElementSteps.{IsHeld, goes-on}
use Rattle.text_norm.proofs.ScriptElementWords.{behind-no-less}
use Rattle.text_norm.proofs.ScriptLessFed.{no-comment-of-html, refuses-behind}
use Rattle.text_norm.proofs.ScriptPages.{fed-script, fed-told, goes-append, is_less_class, less-goes, loose-goes, read_page, step-goes}
use Rattle.text_norm.proofs.ScriptPending.{bang-behind-less, dash-behind-bang, name-bytes, name-goes, solidus-behind-less}
use Rattle.text_norm.proofs.ScriptTokenSteps.{ReadPlain, StepStands, as-written, behind-more, from-anywhere, not-at-cut, token-again, token-step}
use Rattle.text_norm.specs.Standing.{HeldBehind, PageGoes, ScriptMayGoOn, StandsInLanguage, StandsInScript, StepGoes, TextStands, behind_less, in_element, in_script_comment, page, seen_by_page, slash_waits}
use Rattle.text_norm.specs.Written.{out, path_script, script_bytes_out, script_read_out, script_step_out}

-- a byte where nothing is pending
pub code-one : ScriptStandsLaws LexEvent InsideScript → (s : ScriptState) (c : Class) (b : ℕ) (t : List LexEvent) (d : Config ValueState) → class_of b ≡ c
    → is_less_class c ≡ false
    → ScriptTakes s (b ∷ []) → StandsInScript element.Script s Nothing t d
    → ReadPlain (b ∷ []) s Nothing t d
code-one laws s c b t d k n takes l =
    reads-plain laws (b ∷ []) element.Script s Nothing Nothing Nothing t d l takes
    (λ raw q r. (
      Nothing,
      loose-from element.Script s raw l.held (slash_waits s) c b k n (λ i. refuses-behind s c b k n i takes.0) r
          (subst (λ (x : Bool). HeldBehind x (slash_waits s) element.Script Nothing l.held s) q l.nothing),
      refl,
    )) tt (λ q. refl)

-- what was pending comes to nothing by a byte
pub code-more : ScriptStandsLaws LexEvent InsideScript → (s : ScriptState) (h : Pending) (c : Class) (b : ℕ) (t : List LexEvent) (d : Config ValueState)
    → class_of b ≡ c → is_less_class c ≡ false
    → IsHeld h → (in_script_comment s ≡ false → StepGoes element.Script (seen_by_page h) b Nothing) → ScriptTakes s (pending_bytes h ++ b ∷ [])
    → ScriptMayGoOn element.Script s h
    → StandsInScript element.Script s h t d
    → ReadPlain (pending_bytes h ++ b ∷ []) s Nothing t d
code-more laws s h c b t d k n i step takes g l =
    reads-plain laws (pending_bytes h ++ b ∷ []) element.Script s h Nothing Nothing t d l takes
    (λ raw q r. from-anywhere h (b ∷ []) raw Nothing i (goes-append (pending_bytes h) (b ∷ []) element.Script Nothing (seen_by_page h) Nothing g.goes_on
    (Nothing, step q, refl)))
    (behind-more (pending_bytes h) b (behind-no-less (behind_less (pending_bytes h)) g.bytes) (ap is_less_class k ∙ n)) (λ q. refl)

-- What is read of code and comments is written byte by byte, and what is pending is not written.
code-out : (s : ScriptState) (bytes : List ℕ) → script_may_end s ≡ true → script_read_out path_script s bytes ≡ script_bytes_out path_script s bytes
code-out s bytes m = rw m refl

held-step : (s : ScriptState) (h g : Pending) (t : List LexEvent) (d : Config ValueState) → script_may_end s ≡ true → IsHeld g
    → are_behind_less (behind_less (pending_bytes g)) ≡ true
    → PageGoes element.Script Nothing (pending_bytes g) (seen_by_page g) → StandsInScript element.Script s h t d → StepStands (Reads [] g) s t d
held-step s h g t d m i w goes l = record {
  goes_on = record { element = refl; word = λ n. absurd (true≢false (sym m ∙ n)); bytes = w; goes_on = goes };
  stands = subst (λ (out : List ℕ). StandsInScript element.Script s g t (page languages out d)) (sym (code-out s [] m)) (goes-on element.Script s h g t d i l);
}

code-less : ScriptStandsLaws LexEvent InsideScript → (s : ScriptState) (h : Pending) (t : List LexEvent) (d : Config ValueState) → script_may_end s ≡ true
    → ScriptTakes s (pending_bytes h)
    → ScriptMayGoOn element.Script s h → StandsInScript element.Script s h t d → StepStands (Reads (pending_bytes h) PendingLess) s t d
code-less laws s Nothing t d m n g l = as-written [] s PendingLess t d tt (code-out s [] m) (goes-on element.Script s Nothing PendingLess t d tt l)
code-less laws s PendingLess t d m n g l = as-written (60 ∷ []) s PendingLess t d tt (code-out s (60 ∷ []) m) (token-again laws s PendingLess t d tt n g l)
code-less laws s LessAtCut t d m n g l = as-written (60 ∷ []) s PendingLess t d tt (code-out s (60 ∷ []) m) (token-again laws s LessAtCut t d tt n g l)
code-less laws s (PendingName letters) t d m n g l =
    as-written (60 ∷ 47 ∷ letters) s PendingLess t d tt (code-out s (60 ∷ 47 ∷ letters) m) (token-again laws s (PendingName letters) t d tt n g l)
code-less laws s PendingBang t d m n g l =
    as-written (60 ∷ 33 ∷ []) s PendingLess t d tt (code-out s (60 ∷ 33 ∷ []) m) (token-again laws s PendingBang t d tt n g l)
code-less laws s PendingBangDash t d m n g l =
    as-written (60 ∷ 33 ∷ 45 ∷ []) s PendingLess t d tt (code-out s (60 ∷ 33 ∷ 45 ∷ []) m) (token-again laws s PendingBangDash t d tt n g l)
code-less laws s (PendingOpening letters) t d m n g l =
    as-written (60 ∷ letters) s PendingLess t d tt (code-out s (60 ∷ letters) m) (token-again laws s (PendingOpening letters) t d tt n g l)

code-plain : ScriptStandsLaws LexEvent InsideScript → (s : ScriptState) (h : Pending) (c : Class) (b : ℕ) (t : List LexEvent) (d : Config ValueState)
    → class_of b ≡ c → is_less_class c ≡ false → script_may_end s ≡ true
    → (in_script_comment s ≡ false → StepGoes element.Script (seen_by_page h) b Nothing) → ScriptTakes s (pending_bytes h ++ b ∷ [])
    → ScriptMayGoOn element.Script s h
    → StandsInScript element.Script s h t d → StepStands (Reads (pending_bytes h ++ b ∷ []) Nothing) s t d
code-plain laws s h c b t d k n m step takes g l =
    as-written (pending_bytes h ++ b ∷ []) s Nothing t d tt (code-out s (pending_bytes h ++ b ∷ []) m) (by-pending h step takes g l)
  where
    by-pending : (h : Pending) → (in_script_comment s ≡ false → StepGoes element.Script (seen_by_page h) b Nothing) → ScriptTakes s (pending_bytes h ++ b ∷ [])
        → ScriptMayGoOn element.Script s h
        → StandsInScript element.Script s h t d
        → ReadPlain (pending_bytes h ++ b ∷ []) s Nothing t d
    by-pending Nothing step takes g l = code-one laws s c b t d k n takes l
    by-pending PendingLess step takes g l = code-more laws s PendingLess c b t d k n tt step takes g l
    by-pending LessAtCut step takes g l = code-more laws s LessAtCut c b t d k n tt step takes g l
    by-pending (PendingName letters) step takes g l = code-more laws s (PendingName letters) c b t d k n tt step takes g l
    by-pending PendingBang step takes g l = code-more laws s PendingBang c b t d k n tt step takes g l
    by-pending PendingBangDash step takes g l = code-more laws s PendingBangDash c b t d k n tt step takes g l
    by-pending (PendingOpening letters) step takes g l = code-more laws s (PendingOpening letters) c b t d k n tt step takes g l

-- What the page does by the byte, where the script reads it and is in no comment.
abbrev PageStep : ScriptState → Pending → Class → ℕ → Type 0
PageStep s h c b =
    is_less_class c ≡ false → in_script_comment s ≡ false → ScriptTakes s (pending_bytes h ++ b ∷ []) → StepGoes element.Script (seen_by_page h) b Nothing

code-loose : ScriptStandsLaws LexEvent InsideScript → (s : ScriptState) (h : Pending) (c : Class) (b : ℕ) (t : List LexEvent) (d : Config ValueState)
    → class_of b ≡ c → script_may_end s ≡ true
    → PageStep s h c b → step_error element_script s (step_loose (pending_bytes h) c b) ≡ None → ScriptMayGoOn element.Script s h
    → StandsInScript element.Script s h t d
    → StepStands (step_loose (pending_bytes h) c b) s t d
code-loose laws s h LessThan b t d k m f e g l =
    code-less laws s h t d m (takes-first (pending_bytes h) (60 ∷ []) s (takes-of (pending_bytes h ++ 60 ∷ []) s 0 e)) g l
code-loose laws s h c b t d k m f e g l =
    let takes = takes-of (pending_bytes h ++ b ∷ []) s 0 e in
    code-plain laws s h c b t d k refl m (λ q. f refl q takes) takes g l

loose-reads : (bytes : List ℕ) (c : Class) (b : ℕ) → is_less_class c ≡ false → step_loose bytes c b ≡ Reads (bytes ++ b ∷ []) Nothing
loose-reads bytes LessThan b n = absurd (true≢false n)
loose-reads bytes c b n = refl

-- behind `<`
code-behind-less : ScriptStandsLaws LexEvent InsideScript → (s : ScriptState) (c : Class) (b : ℕ) (t : List LexEvent) (d : Config ValueState) → class_of b ≡ c
    → script_may_end s ≡ true
    → step_error element_script s (step_less c b) ≡ None → ScriptMayGoOn element.Script s PendingLess → StandsInScript element.Script s PendingLess t d
    → StepStands (step_less c b) s t d
code-behind-less laws s Solidus b t d k m e g l =
    held-step s PendingLess (PendingName []) t d m tt refl (
      PendingLess,
      less-goes element.Script Nothing,
      (PendingName [], solidus-behind-less element.Script, refl),
    ) l
code-behind-less laws s ExclamationMark b t d k m e g l =
    held-step s PendingLess PendingBang t d m tt refl (PendingLess, less-goes element.Script Nothing, (PendingBang, bang-behind-less element.Script, refl)) l
code-behind-less laws s c b t d k m e g l =
    code-loose laws s PendingLess c b t d k m (λ n q takes. step-goes element.Script PendingLess Nothing c b (60 ∷ b ∷ []) k
    (loose-reads (codes "<") c b n) refl) e g l

-- behind `</` and letters
code-name : ScriptStandsLaws LexEvent InsideScript
    → (grows whole : Bool) (s : ScriptState) (letters : List ℕ) (c : Class) (b : ℕ) (t : List LexEvent) (d : Config ValueState) → class_of b ≡ c
    → may_be_name_of element.Script (letters ++ b ∷ []) ≡ grows → is_name_of element.Script letters ≡ whole → script_may_end s ≡ true
    → step_error element_script s (step_end_name grows whole c b letters) ≡ None → ScriptMayGoOn element.Script s (PendingName letters)
    → StandsInScript element.Script s (PendingName letters) t d
    → StepStands (step_end_name grows whole c b letters) s t d
code-name laws true whole s letters (Letter x) b t d k p w m e g l =
    held-step s (PendingName letters) (PendingName (letters ++ b ∷ [])) t d m tt (name-bytes (letters ++ b ∷ []) p)
    (goes-append (60 ∷ 47 ∷ letters) (b ∷ []) element.Script Nothing (PendingName letters) (PendingName (letters ++ b ∷ [])) g.goes_on
    (PendingName (letters ++ b ∷ []), name-goes letters b x k p, refl)) l
code-name laws grows true s letters White b t d k p w m e g l = tt
code-name laws grows true s letters Solidus b t d k p w m e g l = tt
code-name laws grows true s letters GreaterThan b t d k p w m e g l = tt
code-name laws grows whole s letters c b t d k p w m e g l =
    code-loose laws s (PendingName letters) c b t d k m
    (λ n q takes. step-goes element.Script (PendingName letters) Nothing c b ((codes "</" ++ letters) ++ b ∷ []) k
    (ap₂ (λ (x y : Bool). step_end_name x y c b letters) p w ∙ loose-reads (codes "</" ++ letters) c b n) refl) e g l

-- behind `<!` and `<!-`
code-bang : ScriptStandsLaws LexEvent InsideScript → (s : ScriptState) (c : Class) (b : ℕ) (t : List LexEvent) (d : Config ValueState) → class_of b ≡ c
    → script_may_end s ≡ true
    → step_error element_script s (step_bang c b) ≡ None → ScriptMayGoOn element.Script s PendingBang → StandsInScript element.Script s PendingBang t d
    → StepStands (step_bang c b) s t d
code-bang laws s HyphenMinus b t d k m e g l =
    held-step s PendingBang PendingBangDash t d m tt refl
    (goes-append (60 ∷ 33 ∷ []) (45 ∷ []) element.Script Nothing PendingBang PendingBangDash g.goes_on
    (PendingBangDash, dash-behind-bang element.Script, refl)) l
code-bang laws s c b t d k m e g l =
    code-loose laws s PendingBang c b t d k m (λ n q takes. step-goes element.Script PendingBang Nothing c b (60 ∷ 33 ∷ b ∷ []) k
    (loose-reads (codes "<!") c b n) refl) e g l

dash-goes : (s : ScriptState) (c : Class) (b : ℕ) → class_of b ≡ c → script_may_end s ≡ true → PageStep s PendingBangDash c b
dash-goes s HyphenMinus b k m n q takes = absurd (no-comment-of-html s m q (subst (λ (z : ℕ). ScriptTakes s (60 ∷ 33 ∷ 45 ∷ z ∷ [])) (dash-is b k) takes))
dash-goes s LessThan b k m n q takes = absurd (true≢false n)
dash-goes s c b k m n q takes = step-goes element.Script PendingBangDash Nothing c b (60 ∷ 33 ∷ 45 ∷ b ∷ []) k refl refl

code-step : ScriptStandsLaws LexEvent InsideScript → (s : ScriptState) (h : Pending) (c : Class) (b : ℕ) (t : List LexEvent) (d : Config ValueState)
    → class_of b ≡ c → script_may_end s ≡ true
    → step_error element_script s (script_step true element.Script h c b) ≡ None → ScriptMayGoOn element.Script s h → StandsInScript element.Script s h t d
    → StepStands (script_step true element.Script h c b) s t d
code-step laws s Nothing c b t d k m e g l = code-loose laws s Nothing c b t d k m (λ n q takes. loose-goes element.Script c b k n) e g l
code-step laws s PendingLess c b t d k m e g l = code-behind-less laws s c b t d k m e g l
code-step laws s LessAtCut c b t d k m e g l = absurd (not-at-cut LessAtCut g.goes_on)
code-step laws s (PendingName letters) c b t d k m e g l =
    code-name laws (may_be_name_of element.Script (letters ++ b ∷ [])) (is_name_of element.Script letters) s letters c b t d k refl refl m e g l
code-step laws s PendingBang c b t d k m e g l = code-bang laws s c b t d k m e g l
code-step laws s PendingBangDash c b t d k m e g l = code-loose laws s PendingBangDash c b t d k m (dash-goes s c b k m) e g l
code-step laws s (PendingOpening letters) c b t d k m e g l =
    code-loose laws s (PendingOpening letters) c b t d k m (λ n q takes. loose-goes element.Script c b k n) e g l

-- every byte of a script
bytes-by : ScriptStandsLaws LexEvent InsideScript → (m : Bool) (s : ScriptState) (h : Pending) (c : Class) (b : ℕ) (t : List LexEvent) (d : Config ValueState)
    → class_of b ≡ c → script_may_end s ≡ m
    → step_error element_script s (script_step m element.Script h c b) ≡ None → ScriptMayGoOn element.Script s h → StandsInScript element.Script s h t d
    → StepStands (script_step m element.Script h c b) s t d
bytes-by laws true s h c b t d k m e g l = code-step laws s h c b t d k m e g l
bytes-by laws false s h c b t d k m e g l = token-step laws s h c b t d k m e g l

pub script-bytes : ScriptStandsLaws LexEvent InsideScript → (s : ScriptState) (h : Pending) (c : Class) (b : ℕ) (t : List LexEvent) (d : Config ValueState)
    → class_of b ≡ c
    → step_error element_script s (script_step (script_may_end s) element.Script h c b) ≡ None → ScriptMayGoOn element.Script s h
    → StandsInScript element.Script s h t d
    → StepStands (script_step (script_may_end s) element.Script h c b) s t d
script-bytes laws s h c b t d k e g l = bytes-by laws (script_may_end s) s h c b t d k refl e g l

-- Where a page reads what is written of a byte that the script of the path reads.
abbrev pub ReadsThere : Element → ScriptState → (h g : Pending) → Class → ℕ → List ℕ → List LexEvent → Config ValueState → Type 0
ReadsThere e s h g c b bytes t d =
    script_step (script_may_end s) e h c b ≡ Reads bytes g → language_content_error e (OfScript s) h c b ≡ None
    → StandsInLanguage languages e (OfScript s) h t d
    → TextStands languages (next languages Template (in_element e (OfScript s) h) c b) (emits languages Template (in_element e (OfScript s) h) c b t)
    (page languages (out languages (in_element e (OfScript s) h) c b) d)

abbrev StepText : ScriptStep → Element → ScriptState → Class → ℕ → List LexEvent → Config ValueState → Type 0
StepText z e s c b t d =
    TextStands languages (next_by_step languages z c e (OfScript s)) (emits_by_step languages z c (OfScript s) t)
    (page languages (script_step_out path_script s z b) d)

reads-there : ScriptStandsLaws LexEvent InsideScript
    → (s : ScriptState) (h g : Pending) (c : Class) (b : ℕ) (bytes : List ℕ) (t : List LexEvent) (d : Config ValueState) → class_of b ≡ c
    → ReadsThere element.Script s h g c b bytes t d
reads-there laws s h g c b bytes t d k r n l =
    let q = read_page bytes (page_script s t) in
    let out = page languages (script_read_out path_script s bytes) d in
    let z = subst (λ (z : ScriptStep). StepStands z s t d) r (script-bytes laws s h c b t d k n l.0 l.1) in
    let there = subst (λ (v : ValueState). StandsInLanguage languages element.Script v g q.told out) (sym (fed-script bytes s t)) (z.goes_on, z.stands) in
    let told = subst (λ (u : List LexEvent). StandsInLanguage languages element.Script (fed_state languages (OfScript s) bytes) g u out)
    (sym (fed-told bytes s t)) there in
    subst (λ (z : ScriptStep). StepText z element.Script s c b t d) (sym r) told

pub script-read : ScriptStandsLaws LexEvent InsideScript
    → (e : Element) (s : ScriptState) (h g : Pending) (c : Class) (b : ℕ) (bytes : List ℕ) (t : List LexEvent) (d : Config ValueState) → class_of b ≡ c
    → ReadsThere e s h g c b bytes t d
script-read laws e s h g c b bytes t d k r n l =
    subst (λ (z : Element). ReadsThere z s h g c b bytes t d) (sym l.0.element) (reads-there laws s h g c b bytes t d k) r n l

pub script-follows : (e : Element) (s : ScriptState) (h g : Pending) (c : Class) (b : ℕ) (bytes : List ℕ) (t : List LexEvent) (d : Config ValueState)
    → class_of b ≡ c
    → ReadsThere e s h g c b bytes t d
script-follows e s h g c b bytes t d k r n l = script-read (script-stands InsideScript) e s h g c b bytes t d k r n l
