-- From the scan state of a path in the element `script`, a byte and the end of a text are as on the path.
use Rattle.std.proofs.Common.{◌≡◌, ℕ, Bool, true, false, List, [], ◌∷◌, Option, Some, None, option_map, refl, sym, ap, subst, ◌∙◌}
use Rattle.js_lexer.specs.Holes.{script_after_cut}
use Rattle.js_lexer.specs.Refusals.{Cause}
use Rattle.js_lexer.specs.States.{ScriptState}
use Rattle.js_lexer.specs.Trails.{is_empty}
use Rattle.js_step.specs.ScriptScans.{ScriptScan, script_scan_cut_error, script_scan_place, script_scan_shown, script_scan_start}
use Rattle.place_core.proofs.Semilattices.{none_some, one_value}
use Rattle.place_core.specs.page.Classes.{Class, White, Solidus, class_of}
use Rattle.place_core.specs.page.Contents.{ScriptStep, Reads, EndsContent, next_by_step, pending_bytes, script_step}
use Rattle.place_core.specs.page.Html.{next}
use Rattle.place_core.specs.page.States.{InContent, InLanguage, Pending, Nothing, PendingLess, LessAtCut, PendingName, PendingBang, PendingBangDash, PendingOpening, Template}
use Rattle.place_core.specs.page.Tags.{ValueState, OfScript, feed_bytes, languages, script_code}
use Rattle.place_core.specs.place.Errors.{element_script, pending_before, place_before_bytes, read_error, script_cause_back, script_content_error, script_read, step_error}
use Rattle.place_core.specs.place.ScriptParts.{script_js, script_js_before}
use Rattle.place_core.specs.place.StatePlaces.{placed}
use Rattle.place_core.specs.declared.body.Body.TheVariants as body
use Rattle.place_core.specs.declared.element.Element.TheVariants as element
use Rattle.place_core.specs.declared.js.Js.{Js}
use Rattle.place_core.specs.declared.place.Place.{Place}
use Rattle.place_core.specs.declared.place.Place.TheVariants as place
use Rattle.html_scan.specs.Scans.{Scan, At, InScriptElement, all_element_scripts, scan_by_step, scan_shown, script_element_next, script_feeding, script_scan_may_end}
use Rattle.html_step.proofs.PathScans.{Agrees, Ends, IsShown, NoPendingCut, WhereScanned, scanned, script_element_scanned, script_element_there, script_element_unless_placed}
use Rattle.html_step.proofs.ScriptContents.{IsKeptAs, StepFits, asked, element-scripts-alike, read-as-beside, read-beside, scan-read, script-content-alike, script-cut-alike, state-read, step-fits}
use Rattle.html_step.proofs.ScriptElementOrder.{element-cut}
use Rattle.html_step.proofs.ScriptPaths.{behind-no-js, js-is, kept_script_scanned, one-script, one-stand}
use Rattle.html_step.proofs.ScriptSteps.{placed-shown}

-- what has been read of the script
no : false ≡ true → ⊥
no e = cc

read-no-js : (bytes : List ℕ) (v : ScriptState) → is_empty bytes ≡ false → script_js (script_read element_script v bytes) ≡ None
read-no-js [] v h = absurd (no (sym h))
read-no-js (b ∷ []) v h = behind-no-js v b
read-no-js (b ∷ d ∷ bs) v h = read-no-js (d ∷ bs) (element_script.feed v b) refl

there : (h : Pending) (bytes : List ℕ) (v : ScriptState) (n : ScriptScan) → kept_script_scanned (script_read element_script v bytes) ≡ Some n
    → StepFits (Reads bytes h) → script_element_scanned h (script_read element_script v bytes) ≡ Some (InScriptElement n h)
there Nothing bytes v n i f =
    ap (λ (o : Option Js). script_element_unless_placed o (kept_script_scanned (script_read element_script v bytes))) (read-no-js bytes v f)
    ∙ ap (script_element_there Nothing) i
there PendingLess bytes v n i f = ap (script_element_there PendingLess) i
there LessAtCut bytes v n i f = absurd f
there (PendingName letters) bytes v n i f = ap (script_element_there (PendingName letters)) i
there PendingBang bytes v n i f = ap (script_element_there PendingBang) i
there PendingBangDash bytes v n i f = ap (script_element_there PendingBangDash) i
there (PendingOpening letters) bytes v n i f = ap (script_element_there (PendingOpening letters)) i

pub bytes-kept : (bytes : List ℕ) (k : ℕ) (v : ScriptState) (n : ScriptScan) → IsKeptAs v n → read_error all_element_scripts n bytes k ≡ None
    → IsKeptAs (script_read element_script v bytes) (feed_bytes script_feeding n bytes)
bytes-kept bytes k v n i e =
    (read-beside (read-as-beside element-scripts-alike) bytes k k v n i e).1 ∙ ap Some (scan-read bytes n)

-- a byte
behind-tag : (letters : List ℕ) (c : Class) (v : ScriptState) (n : ScriptScan)
    → scanned (next_by_step languages (EndsContent letters) c element.Script (OfScript v)) ≡ Some (scan_by_step n (EndsContent letters) c)
behind-tag letters White v n = refl
behind-tag letters Solidus v n = refl
behind-tag letters c v n = refl

by-step : (x : ScriptStep) (c : Class) (v : ScriptState) (n : ScriptScan) → IsKeptAs v n → StepFits x → step_error all_element_scripts n x ≡ None
    → scanned (next_by_step languages x c element.Script (OfScript v)) ≡ Some (scan_by_step n x c)
by-step (Reads bytes h) c v n i f e =
    ap (λ (y : ValueState). scanned (InContent element.Script (InLanguage y) h)) (state-read bytes v)
    ∙ there h bytes v (feed_bytes script_feeding n bytes) (let a = asked all_element_scripts n bytes h e in bytes-kept bytes a.back v n i a.read) f
by-step (EndsContent letters) c v n i f e = behind-tag letters c v n

element-next : (h : Pending) (v : ScriptState) (n : ScriptScan) (c : Class) (b : ℕ) → IsKeptAs v n
    → script_content_error all_element_scripts element.Script n h c b ≡ None
    → scanned (next languages Template (InContent element.Script (InLanguage (OfScript v)) h) c b) ≡ Some (script_element_next n h c b)
element-next h v n c b i e =
    ap (λ (x : Bool). scanned (next_by_step languages (script_step x element.Script h c b) c element.Script (OfScript v)))
    (sym (one-script v n i).may_end)
    ∙ by-step (script_step (script_scan_may_end n) element.Script h c b) c v n i (step-fits (script_scan_may_end n) element.Script h c b) e

element-steps : (h : Pending) (v : ScriptState) (n : ScriptScan) (c : Class) (b : ℕ) → IsKeptAs v n
    → Agrees (InContent element.Script (InLanguage (OfScript v)) h) (InScriptElement n h) c b
element-steps h v n c b i = record {
  errors = script-content-alike element-scripts-alike element.Script h c b v n i;
  scripts = λ k places w. (refl, refl, λ h. refl);
  steps = λ e. element-next h v n c b i e;
}

place-steps : (v : ScriptState) (j : Js) (c : Class) (b : ℕ) → script_js v ≡ Some j
    → Agrees (InContent element.Script (InLanguage (OfScript v)) Nothing) (At (place.Script j)) c b
place-steps v j c b e =
    let i = (one-stand v j (ap (option_map body.Js) e)).scanned in
    let n = script_scan_start j in
    record {
      errors = script-content-alike element-scripts-alike element.Script Nothing c b v n i;
      scripts = λ k places w. (refl, refl, λ h. refl);
      steps = λ e. element-next Nothing v n c b i e;
    }

-- by what the scan state is
where-there : (h : Pending) (v : ScriptState) (P : Scan → Type 0) (o : Option ScriptScan) → kept_script_scanned v ≡ o
    → ((n : ScriptScan) → IsKeptAs v n → P (InScriptElement n h)) → WhereScanned (script_element_there h o) P
where-there h v P None e g = tt
where-there h v P (Some n) e g = g n e

where-placed : (v : ScriptState) (P : Scan → Type 0) (o : Option Js) → script_js v ≡ o
    → ((j : Js) → script_js v ≡ Some j → P (At (place.Script j))) → ((n : ScriptScan) → IsKeptAs v n → P (InScriptElement n Nothing))
    → WhereScanned (script_element_unless_placed o (kept_script_scanned v)) P
where-placed v P None e f g = where-there Nothing v P (kept_script_scanned v) refl g
where-placed v P (Some j) e f g = f j e

pub where-script-pending : (h : Pending) (v : ScriptState) (P : Scan → Type 0)
    → ((j : Js) → h ≡ Nothing → script_js v ≡ Some j → P (At (place.Script j)))
    → ((n : ScriptScan) → NoPendingCut h → IsKeptAs v n → P (InScriptElement n h)) → WhereScanned (script_element_scanned h v) P
where-script-pending Nothing v P f g = where-placed v P (script_js v) refl (λ j e. f j refl e) (λ n i. g n tt i)
where-script-pending PendingLess v P f g = where-there PendingLess v P (kept_script_scanned v) refl (λ n i. g n tt i)
where-script-pending LessAtCut v P f g = tt
where-script-pending (PendingName letters) v P f g = where-there (PendingName letters) v P (kept_script_scanned v) refl (λ n i. g n tt i)
where-script-pending PendingBang v P f g = where-there PendingBang v P (kept_script_scanned v) refl (λ n i. g n tt i)
where-script-pending PendingBangDash v P f g = where-there PendingBangDash v P (kept_script_scanned v) refl (λ n i. g n tt i)
where-script-pending (PendingOpening letters) v P f g = where-there (PendingOpening letters) v P (kept_script_scanned v) refl (λ n i. g n tt i)

pub where-script-element : (h : Pending) (v : ScriptState) (P : Scan → Type 0)
    → ((j : Js) → h ≡ Nothing → script_js v ≡ Some j → P (At (place.Script j)))
    → ((n : ScriptScan) → IsKeptAs v n → P (InScriptElement n h)) → WhereScanned (script_element_scanned h v) P
where-script-element h v P f g = where-script-pending h v P f (λ n w i. g n i)

pub script-element-steps : (h : Pending) (v : ScriptState) (c : Class) (b : ℕ)
    → WhereScanned (script_element_scanned h v) (λ f. Agrees (InContent element.Script (InLanguage (OfScript v)) h) f c b)
script-element-steps h v c b =
    where-script-element h v (λ f. Agrees (InContent element.Script (InLanguage (OfScript v)) h) f c b)
    (λ j e i. subst (λ (x : Pending). Agrees (InContent element.Script (InLanguage (OfScript v)) x) (At (place.Script j)) c b) (sym e)
    (place-steps v j c b i))
    (λ n i. element-steps h v n c b i)

-- the end of a text
cut-place : (bytes : List ℕ) (v : ScriptState) (n : ScriptScan) → IsKeptAs v n → read_error all_element_scripts n bytes 1 ≡ None
    → script_scan_cut_error (feed_bytes script_feeding n bytes) ≡ None
    → option_map place.Script (script_js (script_after_cut (script_read element_script v bytes)))
    ≡ Some (place.Script (script_scan_place (feed_bytes script_feeding n bytes)))
cut-place bytes v n i e g =
    let w = script_read element_script v bytes in
    let m = feed_bytes script_feeding n bytes in
    let o = one-script w m (bytes-kept bytes 1 v n i e) in
    ap (option_map place.Script) (js-is (script_after_cut w) (script_scan_place m) (o.stands (sym o.cut_error ∙ g)))

cut-lexeme : (bytes : List ℕ) (v : ScriptState) (n : ScriptScan) → IsKeptAs v n → read_error all_element_scripts n bytes 1 ≡ None
    → script_scan_cut_error (feed_bytes script_feeding n bytes) ≡ None → languages.refuses_cut (OfScript (script_read element_script v bytes)) ≡ None
cut-lexeme bytes v n i e g =
    let w = script_read element_script v bytes in
    let m = feed_bytes script_feeding n bytes in
    ap (option_map (λ (x : Cause). script_code x.refusal)) (sym (one-script w m (bytes-kept bytes 1 v n i e)).cut_error ∙ g)

-- the place that is shown before the bytes that are left
shown-at : (bytes : List ℕ) (v : ScriptState) (n : ScriptScan) → IsKeptAs v n → read_error all_element_scripts n bytes 1 ≡ None
    → option_map place.Script (script_js_before (script_read element_script v bytes))
    ≡ option_map place.Script (script_scan_shown (feed_bytes script_feeding n bytes))
shown-at bytes v n i e =
    ap (option_map place.Script)
    (sym (one-script (script_read element_script v bytes) (feed_bytes script_feeding n bytes) (bytes-kept bytes 1 v n i e)).shown)

element-shown : (h : Pending) (bs : List ℕ) (v : ScriptState) (n : ScriptScan) → IsKeptAs v n → IsShown (InScriptElement n h) bs
    → place_before_bytes (InContent element.Script (InLanguage (OfScript v)) h) bs ≡ scan_shown (InScriptElement n h) bs
element-shown h [] v n i e = shown-at (pending_bytes h) v n i e
element-shown h (b ∷ bs) v n i e = shown-at (pending_bytes (pending_before element.Script h (class_of b) b)) v n i e

element-ends : (h : Pending) (v : ScriptState) (n : ScriptScan) → NoPendingCut h → IsKeptAs v n
    → Ends (InContent element.Script (InLanguage (OfScript v)) h) (InScriptElement n h)
element-ends h v n w i =
    let bytes = pending_bytes h in
    record {
      errors = script-cut-alike element-scripts-alike h v n i;
      scripts = λ k places. refl;
      facts = w;
      lexeme = λ e.
          (let t = element-cut h n e.cut in
          ap languages.refuses_cut (state-read bytes v) ∙ cut-lexeme bytes v n i t.read t.cut);
      reference = refl;
      place = λ e.
          (let t = element-cut h n e.cut in
          ap (λ (y : ValueState). placed (InContent element.Script (InLanguage (languages.after_cut y)) Nothing)) (state-read bytes v)
          ∙ cut-place bytes v n i t.read t.cut);
      shown = λ bs e. element-shown h bs v n i e;
    }

js-one : (c d : Js) → body.Js c ≡ body.Js d → c ≡ d
js-one c d e = cc

js-shown-by : (o : Option Js) (j : Js) → option_map body.Js o ≡ Some (body.Js j) → o ≡ Some j
js-shown-by (Some d) j e = ap Some (js-one d j (one_value (body.Js d) (body.Js j) e))
js-shown-by None j e = absurd (none_some (body.Js j) e)

js-shown : (v : ScriptState) (j : Js) → script_js v ≡ Some j → script_js_before v ≡ Some j
js-shown v j e = js-shown-by (script_js_before v) j (placed-shown v j (ap (option_map body.Js) e))

place-shown : (bs : List ℕ) (v : ScriptState) (j : Js) → script_js v ≡ Some j
    → place_before_bytes (InContent element.Script (InLanguage (OfScript v)) Nothing) bs ≡ Some (place.Script j)
place-shown [] v j e = ap (option_map place.Script) (js-shown v j e)
place-shown (b ∷ bs) v j e = ap (option_map place.Script) (js-shown v j e)

place-ends : (v : ScriptState) (j : Js) → script_js v ≡ Some j
    → Ends (InContent element.Script (InLanguage (OfScript v)) Nothing) (At (place.Script j))
place-ends v j e =
    let o = one-stand v j (ap (option_map body.Js) e) in
    record {
      errors = ap (script_cause_back 0) o.cut_error;
      scripts = λ k places. refl;
      facts = tt;
      lexeme = λ n. ap (option_map (λ (x : Cause). script_code x.refusal)) o.cut_error;
      reference = refl;
      place = λ n. ap (λ (x : ScriptState). option_map place.Script (script_js x)) o.kept ∙ ap (option_map place.Script) e;
      shown = λ bs n. place-shown bs v j e;
    }

pub script-element-ends : (h : Pending) (v : ScriptState)
    → WhereScanned (script_element_scanned h v) (Ends (InContent element.Script (InLanguage (OfScript v)) h))
script-element-ends h v =
    where-script-pending h v (Ends (InContent element.Script (InLanguage (OfScript v)) h))
    (λ j e i. subst (λ (x : Pending). Ends (InContent element.Script (InLanguage (OfScript v)) x) (At (place.Script j))) (sym e)
    (place-ends v j i))
    (λ n w i. element-ends h v n w i)

-- a path that has a place is at it
pub script-element-at-place : (v : ScriptState) (p : Place) (o : Option Js) → script_js v ≡ o → option_map place.Script o ≡ Some p
    → script_element_scanned Nothing v ≡ Some (At p)
script-element-at-place v p None h e = absurd (none_some p e)
script-element-at-place v p (Some j) h e =
    ap (λ (o : Option Js). script_element_unless_placed o (kept_script_scanned v)) h ∙ ap (option_map At) e
