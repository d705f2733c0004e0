-- The scripts of an element on all paths together: below one that is accepted another is accepted, and the byte does the same there. What is pending behind it
-- is behind a slash of which it is known what it is.
use Rattle.std.proofs.Common.{◌≡◌, ◌⊎◌, inl, inr, ℕ, Bool, true, false, List, [], ◌∷◌, None, refl, sym, ap, ◌∙◌, subst}
use Rattle.js_step.specs.ScriptScans.{ScriptScan, script_scan_cut_error, script_scan_error, script_scan_place}
use Rattle.js_step.specs.ScriptSetLaws.{ScriptBelow}
use Rattle.js_step.specs.ScriptValidity.{IsScriptScan}
use Rattle.place_core.specs.page.Classes.{Class, class_of}
use Rattle.place_core.specs.page.Contents.{InWord, IsWord, BeginsWord, NoWord, ScriptStep, Reads, EndsContent, in_word, pending_bytes, script_step, step_in_token}
use Rattle.place_core.specs.page.States.{Pending, Nothing, PendingLess, LessAtCut, PendingName, PendingBang, PendingBangDash, PendingOpening}
use Rattle.place_core.specs.page.Tags.{feed_bytes}
use Rattle.place_core.specs.place.Errors.{read_error, script_cause_back, script_content_cut_error, script_content_error, script_read, step_error}
use Rattle.place_core.specs.declared.element.Element.TheVariants as element
use Rattle.html_scan.specs.Scans.{all_element_scripts, script_feeding, script_scan_may_end, script_scan_step}
use Rattle.html_step.proofs.FedAlike.{first-caused}
use Rattle.html_step.proofs.ScriptContents.{HoldsOn, ReadBeside, asked, back-none, cut-beside, loose-holds, read-beside, scan-read, step-beside, step-holds}
use Rattle.html_step.proofs.ScriptModes.{TakesLess, step-under}
use Rattle.html_step.proofs.ScriptOrder.{ScriptUnder, script-fed-valid, script-grows}

pub element-scripts-beside : ReadBeside all_element_scripts all_element_scripts ScriptUnder
element-scripts-beside = record {
  takes = λ n m b h e. (script-grows n m h).error true b e;
  goes = λ n m b h e. (script-grows n m h).next true b e;
  takes_cut = λ n m h e. (script-grows n m h).cut_error e;
  takes_end = λ n m h e. (script-grows n m h).end_error e;
}

pub element-fed-below : (bytes : List ℕ) (k : ℕ) (n m : ScriptScan) → ScriptUnder n m → read_error all_element_scripts m bytes k ≡ None
    → ScriptUnder (feed_bytes script_feeding n bytes) (feed_bytes script_feeding m bytes)
element-fed-below bytes k n m l e =
    subst (λ (x : ScriptScan). ScriptUnder x (feed_bytes script_feeding m bytes)) (scan-read bytes n)
    (subst (λ (x : ScriptScan). ScriptUnder (script_read all_element_scripts n bytes) x) (scan-read bytes m)
    (read-beside element-scripts-beside bytes k k n m l e).1)

-- What is pending behind a byte that is taken.
abbrev pub StepTakes : ScriptStep → ScriptScan → Type 0
StepTakes (Reads bytes h) m = TakesLess h (feed_bytes script_feeding m bytes)
StepTakes (EndsContent letters) m = Unit {0}

abbrev pub IsTaken : ScriptScan → Type 0
IsTaken m = script_scan_error true m 60 ≡ None

kept-on : (h : Pending) (bytes : List ℕ) (m : ScriptScan) → (bytes ≡ []) × IsTaken m → TakesLess h (feed_bytes script_feeding m bytes)
kept-on h bytes m d = inr (subst (λ (xs : List ℕ). IsTaken (feed_bytes script_feeding m xs)) (sym d.0) d.1)

step-takes-by : (x : ScriptStep) (m : ScriptScan) → HoldsOn (IsTaken m) x → step_error all_element_scripts m x ≡ None → StepTakes x m
step-takes-by (Reads bytes Nothing) m d e = inl refl
step-takes-by (Reads bytes PendingLess) m d e =
    inr (ap (λ (k : ScriptScan). script_scan_error true k 60) (sym (scan-read bytes m)) ∙ (asked all_element_scripts m bytes PendingLess e).less refl)
step-takes-by (Reads bytes LessAtCut) m d e = kept-on LessAtCut bytes m d
step-takes-by (Reads bytes (PendingName letters)) m d e = kept-on (PendingName letters) bytes m d
step-takes-by (Reads bytes PendingBang) m d e = kept-on PendingBang bytes m d
step-takes-by (Reads bytes PendingBangDash) m d e = kept-on PendingBangDash bytes m d
step-takes-by (Reads bytes (PendingOpening letters)) m d e = kept-on (PendingOpening letters) bytes m d
step-takes-by (EndsContent letters) m d e = tt

token-holds : (w : InWord) (P : Type 0) (c : Class) (b : ℕ) → HoldsOn P (step_in_token w Nothing c b)
token-holds IsWord P c b = tt
token-holds BeginsWord P c b = tt
token-holds NoWord P c b = loose-holds P [] c b

nothing-holds : (may_end : Bool) (P : Type 0) (c : Class) (b : ℕ) → HoldsOn P (script_step may_end element.Script Nothing c b)
nothing-holds true P c b = loose-holds P [] c b
nothing-holds false P c b = token-holds (in_word (b ∷ [])) P c b

on-by : (h : Pending) (m : ScriptScan) (c : Class) (b : ℕ) → TakesLess h m → HoldsOn (IsTaken m) (script_scan_step m h c b)
on-by h m c b (inl e) =
    subst (λ (x : Pending). HoldsOn (IsTaken m) (script_scan_step m x c b)) (sym e) (nothing-holds (script_scan_may_end m) (IsTaken m) c b)
on-by h m c b (inr e) = step-holds (IsTaken m) (script_scan_may_end m) element.Script h c b e

pub step-takes : (h : Pending) (m : ScriptScan) (c : Class) (b : ℕ) → TakesLess h m
    → script_content_error all_element_scripts element.Script m h c b ≡ None → StepTakes (script_scan_step m h c b) m
step-takes h m c b t e = step-takes-by (script_scan_step m h c b) m (on-by h m c b t) e

-- One below another, or the same: the byte does the same there.
abbrev pub DoesAlike : ScriptScan → ScriptScan → Pending → Type 0
DoesAlike n m h = (n ≡ m) ⊎ TakesLess h m

pub same-step : (n m : ScriptScan) (h : Pending) (c : Class) (b : ℕ) → class_of b ≡ c → ScriptUnder n m → DoesAlike n m h
    → script_scan_step n h c b ≡ script_scan_step m h c b
same-step n m h c b i l (inl e) = ap (λ (k : ScriptScan). script_scan_step k h c b) e
same-step n m h c b i l (inr t) = subst (λ (x : Class). script_scan_step n h x b ≡ script_scan_step m h x b) i (step-under n m h b l t)

abbrev pub DoesBehind : ScriptStep → ScriptScan → ScriptScan → Type 0
DoesBehind (Reads bytes h) n m = DoesAlike (feed_bytes script_feeding n bytes) (feed_bytes script_feeding m bytes) h
DoesBehind (EndsContent letters) n m = Unit {0}

behind-same : (x : ScriptStep) (n m : ScriptScan) → n ≡ m → DoesBehind x n m
behind-same (Reads bytes h) n m e = inl (ap (λ (k : ScriptScan). feed_bytes script_feeding k bytes) e)
behind-same (EndsContent letters) n m e = tt

behind-taken : (x : ScriptStep) (n m : ScriptScan) → StepTakes x m → DoesBehind x n m
behind-taken (Reads bytes h) n m t = inr t
behind-taken (EndsContent letters) n m t = tt

pub step-alike-behind : (h : Pending) (n m : ScriptScan) (c : Class) (b : ℕ) → DoesAlike n m h
    → script_content_error all_element_scripts element.Script m h c b ≡ None → DoesBehind (script_scan_step m h c b) n m
step-alike-behind h n m c b (inl d) e = behind-same (script_scan_step m h c b) n m d
step-alike-behind h n m c b (inr t) e = behind-taken (script_scan_step m h c b) n m (step-takes h m c b t e)

pub element-taken-below : (n m : ScriptScan) (h : Pending) (c : Class) (b : ℕ) → class_of b ≡ c → ScriptUnder n m → DoesAlike n m h
    → script_content_error all_element_scripts element.Script m h c b ≡ None
    → script_content_error all_element_scripts element.Script n h c b ≡ None
element-taken-below n m h c b i l t e =
    ap (step_error all_element_scripts n) (same-step n m h c b i l t) ∙ step-beside element-scripts-beside (script_scan_step m h c b) n m l e

-- the end of a text
pub record ElementCut (h : Pending) (n : ScriptScan) : Type 0 where
  pub read : read_error all_element_scripts n (pending_bytes h) 1 ≡ None
  pub cut : script_scan_cut_error (feed_bytes script_feeding n (pending_bytes h)) ≡ None

pub element-cut : (h : Pending) (n : ScriptScan) → script_content_cut_error all_element_scripts n h ≡ None → ElementCut h n
element-cut h n e =
    let bytes = pending_bytes h in
    let last = script_scan_cut_error (script_read all_element_scripts n bytes) in
    let p = first-caused (read_error all_element_scripts n bytes 1) (script_cause_back 0 last) e in
    record { read = p.0; cut = ap script_scan_cut_error (sym (scan-read bytes n)) ∙ back-none 0 last p.1 }

pub element-cut-below : (h : Pending) (n m : ScriptScan) → ScriptUnder n m → script_content_cut_error all_element_scripts m h ≡ None
    → (script_content_cut_error all_element_scripts n h ≡ None)
    × ScriptBelow (script_scan_place (feed_bytes script_feeding n (pending_bytes h))) (script_scan_place (feed_bytes script_feeding m (pending_bytes h)))
element-cut-below h n m l e =
    let bytes = pending_bytes h in
    let d = element-cut h m e in (
      cut-beside element-scripts-beside h n m l e,
      (script-grows (feed_bytes script_feeding n bytes) (feed_bytes script_feeding m bytes) (element-fed-below bytes 1 n m l d.read)).place d.cut,
    )

-- What is valid stays so.
abbrev pub ScriptStepValid : ScriptStep → ScriptScan → Type 0
ScriptStepValid (Reads bytes h) n = IsScriptScan (feed_bytes script_feeding n bytes) × TakesLess h (feed_bytes script_feeding n bytes)
ScriptStepValid (EndsContent letters) n = Unit {0}

step-valid : (x : ScriptStep) (n : ScriptScan) → IsScriptScan n → StepTakes x n → ScriptStepValid x n
step-valid (Reads bytes h) n v t = (script-fed-valid bytes n v, t)
step-valid (EndsContent letters) n v t = tt

pub element-byte-valid : (h : Pending) (n : ScriptScan) (c : Class) (b : ℕ) → IsScriptScan n → TakesLess h n
    → script_content_error all_element_scripts element.Script n h c b ≡ None → ScriptStepValid (script_scan_step n h c b) n
element-byte-valid h n c b v t e = step-valid (script_scan_step n h c b) n v (step-takes h n c b t e)
