-- What shows that a text is refused in the element `script`, behind a byte of it and where it begins.
use Rattle.std.proofs.Common.{◌≡◌, ℕ, ◌+◌, ◌-◌, Bool, true, false, ◌||◌, List, [], ◌∷◌, Option, Some, None, Result, Err, refl, sym, ap, ◌∙◌, subst}
use Rattle.js_lexer.specs.Refusals.{Cause}
use Rattle.js_step.specs.ScriptEvidence.{ScriptSensesFit, ShowsRefusals, script_scan_has, script_with_brace}
use Rattle.js_step.specs.ScriptOrigins.{script_set_has}
use Rattle.js_step.specs.ScriptScanOrder.{ScriptScanBelow}
use Rattle.js_step.specs.ScriptScans.{ScriptScan, script_scan_cut_error, script_scan_start, script_senses_differ}
use Rattle.js_step.specs.ScriptValidity.{IsScriptScan}
use Rattle.js_step.proofs.ScriptClash.{scripts-clash}
use Rattle.js_step.proofs.ScriptEvidence.{scripts-shown}
use Rattle.js_step.proofs.ScriptGrowth.{scripts-grow}
use Rattle.js_step.proofs.ScriptMembers.{scripts-come-from}
use Rattle.place_core.specs.page.Classes.{class_of}
use Rattle.place_core.specs.page.Contents.{ScriptStep, Reads, EndsContent, pending_bytes}
use Rattle.place_core.specs.page.States.{Pending, Nothing}
use Rattle.place_core.specs.place.Errors.{PathCause, PathRefusal, TextRead, script_content_cut_error, step_error}
use Rattle.place_core.specs.place.Places.{Has, is_whole}
use Rattle.place_core.specs.declared.code.Code.TheVariants as code
use Rattle.place_core.specs.declared.element.Element.TheVariants as element
use Rattle.place_core.specs.declared.js.Js.{Js}
use Rattle.place_core.specs.declared.member.Member.{Member}
use Rattle.place_core.specs.declared.member.Member.TheVariants as member
use Rattle.place_core.specs.declared.place.Place.{Place}
use Rattle.place_core.specs.declared.place.Place.TheVariants as place
use Rattle.place_core.proofs.Semilattices.{none_some}
use Rattle.html_scan.specs.Scans.{Scan, At, InScriptElement, all_element_scripts, scan_cut_error, scan_error, scan_lexeme_error, scan_next, scan_place, script_scan_may_end, script_scan_step}
use Rattle.html_step.specs.Laws.{EvidenceData, apart, one, two}
use Rattle.html_step.specs.Origins.{ends_by_step, script_back, script_origin, script_shows, script_step_shown, script_told_shown, step_asked}
use Rattle.html_step.specs.Steps.{scan_read_behind, stepped, unless_broken_off, unless_refused, unless_too_deep}
use Rattle.html_step.proofs.BelowScans.{below-at, below-script-element}
use Rattle.html_step.proofs.JsPlaces.{under-script}
use Rattle.html_step.proofs.ScanOrder.{ScanHas, ScanValid}
use Rattle.html_step.proofs.ScriptAlike.{Alike, EndsWithBrace, told-apart, told-one, told-two}
use Rattle.html_step.proofs.ScriptElementTold.{cut-alike, cut-code-slash, cut-taken, step-code-slash, step-error-alike, step-taken}
use Rattle.html_step.proofs.ScriptFrom.{itself-origin}
use Rattle.html_step.proofs.ScriptModes.{step-brace, step-of-nothing, step-under}
use Rattle.html_step.proofs.ScriptOrder.{ScriptUnder, script-start-valid, under_below}
use Rattle.html_step.proofs.ScriptTold.{BraceBelow, ScriptShownBytes, back-of, both-true, brace_at_element, brace_in_element, refused-same, shown-from}

given : {A : Type 0} (a : A) → Some a ≡ None → ⊥
given a e = cc

has-set : (n : ScriptScan) (y : Member) → script_set_has n y ≡ true → script_scan_has n y ≡ true
has-set n y h = or-behind (is_whole y) (script_set_has n y) h
  where
    or-behind : (x y : Bool) → y ≡ true → (x || y) ≡ true
    or-behind true y h = refl
    or-behind false y h = h

-- a path on which it is not known what a slash would be, below such a scan state
element-brace : (P : Scan → Type 0) (m : ScriptScan) (h : Pending)
    → ((n : ScriptScan) → ScriptScanBelow n (script_with_brace m) → script_set_has n member.SenseBrace ≡ true → P (InScriptElement n h)) → (g : Scan)
    → BraceBelow g (InScriptElement m h) → P g
element-brace P _ _ f _ (brace_in_element n m h l o) = f n l o

-- the ends that an end tag makes
pub step-shows : (step : ScriptStep) → ShowsRefusals (ends_by_step step) (λ n. member.Whole)
step-shows (Reads bytes h) m e i = absurd (none_some e i)
step-shows (EndsContent letters) m e i = scripts-shown.end m e i

pub step-with-brace : (step : ScriptStep) → EndsWithBrace (ends_by_step step)
step-with-brace (Reads bytes h) m c = refl
step-with-brace (EndsContent letters) m c = c.end_error

-- Behind a byte of the text: what shows it by the members of the scan state, on paths below it that refuse the same.
record AtElement (m : ScriptScan) (P : ScriptScan → Type 0) (fed : List ℕ) (ends : ScriptScan → Option Cause) (r : PathRefusal) : Type 0 where
  shown : ShowsRefusals ends (λ n. member.Whole)
  over : EndsWithBrace ends
  under : (n : ScriptScan) → ScriptUnder n m → Alike true fed ends n m → P n
  brace : (n : ScriptScan) → ScriptScanBelow n (script_with_brace m) → script_senses_differ m.senses ≡ true → Alike true fed ends n m → P n
  coded : (x y : Member) → script_told_shown true ends fed m ≡ Some (two x y) → r.code ≡ code.SlashAmbig

element-shown-by : (k : ℕ) (since : TextRead) (bytes : List ℕ) (m : ScriptScan) (h : Pending) (r : PathRefusal) (fed : List ℕ)
    (ends : ScriptScan → Option Cause) (z : EvidenceData) → IsScriptScan m → ScriptSensesFit m
    → AtElement m (λ n. stepped k since bytes (InScriptElement n h) ≡ Err r) fed ends r → script_told_shown true ends fed m ≡ Some z
    → ScriptShownBytes k since bytes (InScriptElement m h) r (script_back m z)
element-shown-by k since bytes m h r fed ends (one y) v fit a t =
    let d = (told-one true fed ends m y a.shown v t).1 in (
      d.there,
      λ g i l o. below-script-element (λ (g : Scan). ScanHas g (script_origin m y) → stepped k since bytes g ≡ Err r) m h
          (λ n q u p. a.under n q (d.alike n q p)) g l o,
    )
element-shown-by k since bytes m h r fed ends (two x y) v fit a t =
    let d = told-two true fed ends m x y v fit a.shown a.over t in
    let first = ap (script_origin m) d.first ∙ itself-origin m member.SenseDiv d.div in
    let second = ap (script_origin m) d.other ∙ itself-origin m member.SenseRe d.re in
    record {
      first = first;
      second = second;
      one = subst (λ (z : Member). ScanHas (InScriptElement m h) z) (sym first) (has-set m member.SenseDiv d.div);
      other = subst (λ (z : Member). ScanHas (InScriptElement m h) z) (sym second) (has-set m member.SenseRe d.re);
      differ = both-true (script_senses_differ m.senses) (script_set_has m member.SenseRe) d.differ d.re;
      ambiguous = λ b. a.coded x y t;
      refuses = element-brace (λ (g : Scan). stepped k since bytes g ≡ Err r) m h (λ n l o. a.brace n l d.differ (d.alike n l o));
    }
element-shown-by k since bytes m h r fed ends apart v fit a t = told-apart true fed ends m t

-- the code of a refusal
err-one : (x y : PathRefusal) (o : Result Place PathRefusal) → o ≡ Err x → o ≡ Err y → x ≡ y
err-one x y o e f = let same : Err x ≡ Err y = sym e ∙ f in cc

code-of : (k : ℕ) (o : Option PathCause) (t : Result Place PathRefusal) (r : PathRefusal) → (o ≡ None → ⊥)
    → ((e : PathCause) → o ≡ Some e → e.code ≡ code.SlashAmbig) → unless_refused k o t ≡ Err r → r.code ≡ code.SlashAmbig
code-of k None t r n f h = absurd (n refl)
code-of k (Some e) t r n f h =
    let is : PathRefusal = record { code = e.code; at = k - e.back; shown = k - e.shown } in
    sym (ap (λ (x : PathRefusal). x.code) (err-one is r (unless_refused k (Some e) t) refl h)) ∙ f e refl

-- a byte
abbrev Rest : ℕ → TextRead → ℕ → List ℕ → Scan → Result Place PathRefusal
Rest k since b bs f = stepped (k + 1) (scan_read_behind k since f (class_of b) b) bs (scan_next f (class_of b) b)

byte-alike : (k : ℕ) (since : TextRead) (b : ℕ) (bs : List ℕ) (n m : ScriptScan) (h : Pending) (r : PathRefusal) (z : EvidenceData)
    → script_scan_step n h (class_of b) b ≡ script_scan_step m h (class_of b) b
    → Alike true (step_asked (script_scan_step m h (class_of b) b)) (ends_by_step (script_scan_step m h (class_of b) b)) n m
    → script_told_shown true (ends_by_step (script_scan_step m h (class_of b) b)) (step_asked (script_scan_step m h (class_of b) b)) m ≡ Some z
    → stepped k since (b ∷ bs) (InScriptElement m h) ≡ Err r → stepped k since (b ∷ bs) (InScriptElement n h) ≡ Err r
byte-alike k since b bs n m h r z i a t e =
    let step = script_scan_step m h (class_of b) b in
    refused-same k None None (scan_error (InScriptElement n h) (class_of b) b) (scan_error (InScriptElement m h) (class_of b) b)
    (Rest k since b bs (InScriptElement n h)) (Rest k since b bs (InScriptElement m h)) r refl
    (ap (step_error all_element_scripts n) i ∙ step-error-alike step n m a)
    (λ x o. none_some z (sym (step-taken step m o) ∙ t)) e

pub in-element-byte : (k : ℕ) (since : TextRead) (b : ℕ) (bs : List ℕ) (m : ScriptScan) (h : Pending) (r : PathRefusal) (z : EvidenceData)
    → ScanValid (InScriptElement m h) → ScriptSensesFit m → script_step_shown (script_scan_step m h (class_of b) b) m ≡ Some z
    → stepped k since (b ∷ bs) (InScriptElement m h) ≡ Err r → ScriptShownBytes k since (b ∷ bs) (InScriptElement m h) r z
in-element-byte k since b bs m h r z w fit t e =
    let step = script_scan_step m h (class_of b) b in
    let told = script_told_shown true (ends_by_step step) (step_asked step) m in
    shown-from (ScriptShownBytes k since (b ∷ bs) (InScriptElement m h) r) m told z (back-of m told told z refl t)
    (λ x i. element-shown-by k since (b ∷ bs) m h r (step_asked step) (ends_by_step step) x w.0 fit (record {
      shown = step-shows step;
      over = step-with-brace step;
      under = λ n l a. byte-alike k since b bs n m h r x (step-under n m h b l w.1) a i e;
      brace = λ n l d a. byte-alike k since b bs n m h r x (step-brace n m h b l d w.1) a i e;
      coded = λ u y j. code-of k (step_error all_element_scripts m step) (Rest k since b bs (InScriptElement m h)) r
          (λ o. none_some x (sym (step-taken step m o) ∙ i)) (λ c o. step-code-slash step m u y c j o) e;
    }) i)

-- the end of the text
abbrev AtEnd : ℕ → TextRead → Scan → Result Place PathRefusal
AtEnd k since f = unless_too_deep k since.deep (unless_broken_off k since.last (scan_lexeme_error f) (scan_place f))

cut-same : (k : ℕ) (since : TextRead) (n m : ScriptScan) (h : Pending) (r : PathRefusal) (z : EvidenceData)
    → Alike true (pending_bytes h) script_scan_cut_error n m → script_told_shown true script_scan_cut_error (pending_bytes h) m ≡ Some z
    → stepped k since [] (InScriptElement m h) ≡ Err r → stepped k since [] (InScriptElement n h) ≡ Err r
cut-same k since n m h r z a t e =
    refused-same k None None (scan_cut_error (InScriptElement n h)) (scan_cut_error (InScriptElement m h)) (AtEnd k since (InScriptElement n h))
    (AtEnd k since (InScriptElement m h)) r refl (cut-alike h n m a) (λ x o. none_some z (sym (cut-taken h m o) ∙ t)) e

pub in-element-end : (k : ℕ) (since : TextRead) (m : ScriptScan) (h : Pending) (r : PathRefusal) (z : EvidenceData) → ScanValid (InScriptElement m h)
    → ScriptSensesFit m → script_shows true script_scan_cut_error (pending_bytes h) m ≡ Some z → stepped k since [] (InScriptElement m h) ≡ Err r
    → ScriptShownBytes k since [] (InScriptElement m h) r z
in-element-end k since m h r z w fit t e =
    let told = script_told_shown true script_scan_cut_error (pending_bytes h) m in
    shown-from (ScriptShownBytes k since [] (InScriptElement m h) r) m told z (back-of m told told z refl t)
    (λ x i. element-shown-by k since [] m h r (pending_bytes h) script_scan_cut_error x w.0 fit (record {
      shown = scripts-shown.cut;
      over = λ n c. c.cut_error;
      under = λ n l a. cut-same k since n m h r x a i e;
      brace = λ n l d a. cut-same k since n m h r x a i e;
      coded = λ u y j. code-of k (script_content_cut_error all_element_scripts m h) (AtEnd k since (InScriptElement m h)) r
          (λ o. none_some x (sym (cut-taken h m o) ∙ i)) (λ c o. cut-code-slash h m u y c j o) e;
    }) i)

-- Where a text begins.
start-has : (j : Js) (y : Member) → script_scan_has (script_scan_start j) y ≡ true → Has (place.Script j) y
start-has j y h = subst (λ (x : Bool). (is_whole y || x) ≡ true) (scripts-come-from.begins j y) h

has-start : (j : Js) (y : Member) → Has (place.Script j) y → script_scan_has (script_scan_start j) y ≡ true
has-start j y h = subst (λ (x : Bool). (is_whole y || x) ≡ true) (sym (scripts-come-from.begins j y)) h

start-alike : (k : ℕ) (since : TextRead) (b : ℕ) (bs : List ℕ) (i j : Js) (r : PathRefusal) (z : EvidenceData)
    → Alike true (step_asked (script_scan_step (script_scan_start j) Nothing (class_of b) b))
    (ends_by_step (script_scan_step (script_scan_start j) Nothing (class_of b) b)) (script_scan_start i) (script_scan_start j)
    → script_told_shown true (ends_by_step (script_scan_step (script_scan_start j) Nothing (class_of b) b))
    (step_asked (script_scan_step (script_scan_start j) Nothing (class_of b) b)) (script_scan_start j) ≡ Some z
    → stepped k since (b ∷ bs) (At (place.Script j)) ≡ Err r → stepped k since (b ∷ bs) (At (place.Script i)) ≡ Err r
start-alike k since b bs i j r z a t e =
    let n = script_scan_start i in
    let m = script_scan_start j in
    let step = script_scan_step m Nothing (class_of b) b in
    let same : script_scan_step n Nothing (class_of b) b ≡ step =
    step-of-nothing (script_scan_may_end n) element.Script b ∙ sym (step-of-nothing (script_scan_may_end m) element.Script b) in
    refused-same k None None (scan_error (At (place.Script i)) (class_of b) b) (scan_error (At (place.Script j)) (class_of b) b)
    (Rest k since b bs (At (place.Script i))) (Rest k since b bs (At (place.Script j))) r refl
    (ap (step_error all_element_scripts n) same ∙ step-error-alike step n m a) (λ x o. none_some z (sym (step-taken step m o) ∙ t)) e

start-brace : (P : Scan → Type 0) (j : Js)
    → ((i : Js) → ScriptScanBelow (script_scan_start i) (script_with_brace (script_scan_start j))
    → script_set_has (script_scan_start i) member.SenseBrace ≡ true → P (At (place.Script i))) → (g : Scan) → BraceBelow g (At (place.Script j)) → P g
start-brace P _ f _ (brace_at_element i j l o) = f i l o

start-shown : (k : ℕ) (since : TextRead) (b : ℕ) (bs : List ℕ) (j : Js) (r : PathRefusal) (z : EvidenceData) → ScanValid (At (place.Script j))
    → script_told_shown true (ends_by_step (script_scan_step (script_scan_start j) Nothing (class_of b) b))
    (step_asked (script_scan_step (script_scan_start j) Nothing (class_of b) b)) (script_scan_start j) ≡ Some z
    → stepped k since (b ∷ bs) (At (place.Script j)) ≡ Err r
    → ScriptShownBytes k since (b ∷ bs) (At (place.Script j)) r (script_back (script_scan_start j) z)
start-shown k since b bs j r (one y) w t e =
    let m = script_scan_start j in
    let step = script_scan_step m Nothing (class_of b) b in
    let x = script_origin m y in
    let d = (told-one true (step_asked step) (ends_by_step step) m y (step-shows step) (script-start-valid j w) t).1 in (
      start-has j x d.there,
      λ g v l o. below-at (λ (g : Scan). ScanValid g → ScanHas g x → stepped k since (b ∷ bs) g ≡ Err r) (place.Script j)
          (λ a q. under-script (λ (a : Place). ScanValid (At a) → ScanHas (At a) x → stepped k since (b ∷ bs) (At a) ≡ Err r) j
          (λ i s v o. start-alike k since b bs i j r (one y)
          (d.alike (script_scan_start i) (under_below (scripts-grow.start i j v s)) (has-start i x o)) t e) a q)
          (λ v n u. absurd u) (λ n u. absurd u) g l v o,
    )
start-shown k since b bs j r (two x y) w t e =
    let m = script_scan_start j in
    let step = script_scan_step m Nothing (class_of b) b in
    let d = told-two true (step_asked step) (ends_by_step step) m x y (script-start-valid j w) (scripts-clash.start j) (step-shows step)
    (step-with-brace step) t in
    let first = ap (script_origin m) d.first ∙ itself-origin m member.SenseDiv d.div in
    let second = ap (script_origin m) d.other ∙ itself-origin m member.SenseRe d.re in
    record {
      first = first;
      second = second;
      one = subst (λ (z : Member). ScanHas (At (place.Script j)) z) (sym first) (start-has j member.SenseDiv (has-set m member.SenseDiv d.div));
      other = subst (λ (z : Member). ScanHas (At (place.Script j)) z) (sym second) (start-has j member.SenseRe (has-set m member.SenseRe d.re));
      differ = both-true (script_senses_differ m.senses) (script_set_has m member.SenseRe) d.differ d.re;
      ambiguous = λ u. code-of k (step_error all_element_scripts m step) (Rest k since b bs (At (place.Script j))) r
          (λ o. none_some (two x y) (sym (step-taken step m o) ∙ t)) (λ c o. step-code-slash step m x y c t o) e;
      refuses = start-brace (λ (g : Scan). stepped k since (b ∷ bs) g ≡ Err r) j
          (λ i l o. start-alike k since b bs i j r (two x y) (d.alike (script_scan_start i) l o) t e);
    }
start-shown k since b bs j r apart w t e =
    (let step = script_scan_step (script_scan_start j) Nothing (class_of b) b in
    told-apart true (step_asked step) (ends_by_step step) (script_scan_start j) t)

pub at-element-byte : (k : ℕ) (since : TextRead) (b : ℕ) (bs : List ℕ) (j : Js) (r : PathRefusal) (z : EvidenceData) → ScanValid (At (place.Script j))
    → script_step_shown (script_scan_step (script_scan_start j) Nothing (class_of b) b) (script_scan_start j) ≡ Some z
    → stepped k since (b ∷ bs) (At (place.Script j)) ≡ Err r → ScriptShownBytes k since (b ∷ bs) (At (place.Script j)) r z
at-element-byte k since b bs j r z w t e =
    let m = script_scan_start j in
    let step = script_scan_step m Nothing (class_of b) b in
    let told = script_told_shown true (ends_by_step step) (step_asked step) m in
    shown-from (ScriptShownBytes k since (b ∷ bs) (At (place.Script j)) r) m told z (back-of m told told z refl t)
    (λ x i. start-shown k since b bs j r x w i e)
