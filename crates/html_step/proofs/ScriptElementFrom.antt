-- Where the members come from in the element `script`: at a byte, and at the end of a text.
use Rattle.std.proofs.Common.{◌≡◌, inl, inr, ℕ, ◌+◌, Bool, true, false, ◌||◌, List, [], ◌∷◌, length, None, refl, sym, ap, ◌∙◌, subst}
use Rattle.js_step.specs.ScriptEvidence.{script_scan_has}
use Rattle.js_step.specs.ScriptOrigins.{script_set_has}
use Rattle.js_step.specs.ScriptScans.{ScriptScan, script_scan_error, script_scan_place, script_scan_start}
use Rattle.js_step.specs.ScriptValidity.{IsScriptScan}
use Rattle.js_step.proofs.ScriptMembers.{scripts-come-from}
use Rattle.place_core.specs.page.Classes.{Class, LessThan, class_of}
use Rattle.place_core.specs.page.Contents.{ScriptStep, Reads, EndsContent, pending_bytes, step_loose}
use Rattle.place_core.specs.page.States.{Pending, Nothing}
use Rattle.place_core.specs.page.Tags.{feed_bytes}
use Rattle.place_core.specs.place.Errors.{read_error, script_cause_back, step_error}
use Rattle.place_core.specs.place.LanguagePlaces.{js_has}
use Rattle.place_core.specs.place.Places.{Has, IsValid, is_whole}
use Rattle.place_core.specs.declared.element.Element.TheVariants as element
use Rattle.place_core.specs.declared.js.Js.{Js}
use Rattle.place_core.specs.declared.member.Member.{Member}
use Rattle.place_core.specs.declared.member.Member.TheVariants as member
use Rattle.place_core.specs.declared.place.Place.TheVariants as place
use Rattle.html_scan.specs.Scans.{Scan, At, InScriptElement, all_element_scripts, behind_end_name, scan_by_step, scan_cut_error, scan_error, scan_next, scan_place, script_feeding, script_scan_may_end, script_scan_step}
use Rattle.html_step.specs.Origins.{byte_origin, end_origin, script_origin, step_origin}
use Rattle.html_step.proofs.BelowScans.{below-at-script-place, below-script-element}
use Rattle.html_step.proofs.FedAlike.{first-caused}
use Rattle.html_step.proofs.FromParts.{or-behind, or-either, or-first}
use Rattle.html_step.proofs.FromValues.{From, FromEnd}
use Rattle.html_step.proofs.JsPlaces.{js-place-below}
use Rattle.html_step.proofs.ScanOrder.{ScanHas, ScanValid, script-starts}
use Rattle.html_step.proofs.ScriptContents.{asked, back-none}
use Rattle.html_step.proofs.ScriptElementOrder.{element-cut, same-step}
use Rattle.html_step.proofs.ScriptFrom.{IsScriptMember, PlaceFrom, place_itself, place_whole, TakesScriptIn, has-script-set, itself-origin, js-is, member-whole, other-origin, out-set, script-end-from-in, script-fed-from-in, script-whole-origin}
use Rattle.html_step.proofs.ScriptModes.{step-of-nothing}
use Rattle.html_step.proofs.ScriptOrder.{ScriptUnder, script-fed-valid, script-start-valid}

no : false ≡ true → ⊥
no e = cc

pub read-taken : (bytes : List ℕ) (k : ℕ) (n : ScriptScan) → read_error all_element_scripts n bytes k ≡ None → TakesScriptIn true bytes n
read-taken [] k n e = tt
read-taken (b ∷ bs) k n e =
    let own = script_cause_back (length bs + k) (script_scan_error true n b) in
    let p = first-caused own (read_error all_element_scripts (script_feeding.feed n b) bs k) e in
    (back-none (length bs + k) (script_scan_error true n b) p.0, read-taken bs k (script_feeding.feed n b) p.1)

whole-origin : (n : ScriptScan) (y : Member) → is_whole y ≡ true → script_origin n y ≡ member.Whole
whole-origin n member.Whole h = script-whole-origin n
whole-origin n _ h = absurd (no h)

-- A member behind a byte comes from one before, at each scan state below.
record Led (n : ScriptScan) (goes : ScriptScan → Scan) (y x : Member) : Type 0 where
  there : script_scan_has n x ≡ true
  leads : (k : ScriptScan) → ScriptUnder k n → script_scan_has k x ≡ true → ScanHas (goes k) y

whole-led : (n : ScriptScan) (bytes : List ℕ) (h : Pending) (y : Member) → is_whole y ≡ true
    → Led n (λ k. InScriptElement (feed_bytes script_feeding k bytes) h) y (script_origin n y)
whole-led n bytes h y e =
    subst (Led n (λ k. InScriptElement (feed_bytes script_feeding k bytes) h) y) (sym (whole-origin n y e))
    (record { there = refl; leads = λ k l o. or-first (is_whole y) (script_set_has (feed_bytes script_feeding k bytes) y) e })

read-led : (n : ScriptScan) (bytes : List ℕ) (h : Pending) (y : Member) → IsScriptScan n → TakesScriptIn true bytes n
    → script_scan_has (feed_bytes script_feeding n bytes) y ≡ true
    → Led n (λ k. InScriptElement (feed_bytes script_feeding k bytes) h) y (script_origin n y)
read-led n bytes h y v a i =
    or-either (Led n (λ k. InScriptElement (feed_bytes script_feeding k bytes) h) y (script_origin n y)) (is_whole y)
    (script_set_has (feed_bytes script_feeding n bytes) y) i (λ e. whole-led n bytes h y e)
    (λ e. let f = script-fed-from-in true bytes n y v a e in record { there = f.there; leads = f.leads })

step-led : (x : ScriptStep) (n : ScriptScan) (c : Class) (y : Member) → IsScriptScan n → step_error all_element_scripts n x ≡ None
    → ScanHas (scan_by_step n x c) y → Led n (λ k. scan_by_step k x c) y (script_origin n (step_origin x y))
step-led (Reads bytes h) n c y v e i =
    let a = asked all_element_scripts n bytes h e in
    read-led n bytes h y v (read-taken bytes a.back n a.read) i
step-led (EndsContent letters) n c y v e i =
    subst (Led n (λ k. behind_end_name c) y) (sym (script-whole-origin n)) (record { there = refl; leads = λ k l o. i })

-- at a byte
pub from-script-element : (n : ScriptScan) (h : Pending) (c : Class) (b : ℕ) (y : Member) → class_of b ≡ c → IsScriptScan n
    → scan_error (InScriptElement n h) c b ≡ None → ScanHas (scan_next (InScriptElement n h) c b) y
    → From (InScriptElement n h) c b y (byte_origin (InScriptElement n h) c b y)
from-script-element n h c b y i v e j =
    let s = script_scan_step n h c b in
    let f = step-led s n c y v e j in
    let x = byte_origin (InScriptElement n h) c b y in
    record {
      there = f.there;
      leads = λ g z l o. below-script-element (λ (g : Scan). ScanHas g x → ScanHas (scan_next g c b) y) n h
          (λ k m d o. subst (λ (u : ScriptStep). ScanHas (scan_by_step k u c) y) (sym (same-step k n h c b i m d)) (f.leads k m o)) g l o;
    }

-- at a place
loose-origin : (c : Class) (b : ℕ) (y : Member) → step_origin (step_loose [] c b) y ≡ y
loose-origin LessThan b y = refl
loose-origin c b y = refl

start-origin : (n : ScriptScan) (c : Class) (b : ℕ) (y : Member) → class_of b ≡ c → step_origin (script_scan_step n Nothing c b) y ≡ y
start-origin n c b y i =
    subst (λ (x : Class). step_origin (script_scan_step n Nothing x b) y ≡ y) i
    (ap (λ (s : ScriptStep). step_origin s y) (step-of-nothing (script_scan_may_end n) element.Script b) ∙ loose-origin (class_of b) b y)

pub place-has : (c : Js) (y : Member) → script_scan_has (script_scan_start c) y ≡ true → Has (place.Script c) y
place-has c y h = subst (λ (z : Bool). (is_whole y || z) ≡ true) (scripts-come-from.begins c y) h

pub has-place : (c : Js) (y : Member) → Has (place.Script c) y → script_scan_has (script_scan_start c) y ≡ true
has-place c y h = subst (λ (z : Bool). (is_whole y || z) ≡ true) (sym (scripts-come-from.begins c y)) h

pub from-script-element-place : (j : Js) (c : Class) (b : ℕ) (y : Member) → class_of b ≡ c → IsValid (place.Script j)
    → scan_error (At (place.Script j)) c b ≡ None → ScanHas (scan_next (At (place.Script j)) c b) y
    → From (At (place.Script j)) c b y (byte_origin (At (place.Script j)) c b y)
from-script-element-place j c b y i v e h =
    let n = script_scan_start j in
    let s = script_scan_step n Nothing c b in
    let x = script_origin n y in
    let f = subst (λ (z : Member). Led n (λ k. scan_by_step k s c) y (script_origin n z)) (start-origin n c b y i)
    (step-led s n c y (script-start-valid j v) e h) in
    record {
      there = place-has j x f.there;
      leads = λ g z l o. below-at-script-place (λ (g : Scan). ScanValid g → ScanHas g x → ScanHas (scan_next g c b) y) j
          (λ d m w o.
          let k = script_scan_start d in
          let u : ScriptUnder k n = script-starts d j w (js-place-below d j m) in
          subst (λ (q : ScriptStep). ScanHas (scan_by_step k q c) y) (sym (same-step k n Nothing c b i u (inr (inl refl)))) (f.leads k u (has-place d x o)))
          g l z o;
    }

-- The end of a text.
all-ends : (n : ScriptScan) (h : Pending) (y : Member) → script_origin n y ≡ member.Whole
    → ((k : ScriptScan) → ScriptUnder k n → Has (scan_place (InScriptElement k h)) y) → FromEnd (InScriptElement n h) y (script_origin n y)
all-ends n h y e f =
    subst (FromEnd (InScriptElement n h) y) (sym e)
    (record { there = refl; leads = λ g z l o. below-script-element (λ (g : Scan). Has (scan_place g) y) n h (λ k m d. f k m) g l })

placed : (m : ScriptScan) (y : Member) → js_has (script_scan_place m) y ≡ true → (is_whole y || js_has (script_scan_place m) y) ≡ true
placed m y h = or-behind (is_whole y) (js_has (script_scan_place m) y) h

set-ends : (n : ScriptScan) (h : Pending) (y : Member) → PlaceFrom n (pending_bytes h) y → IsScriptMember y
    → FromEnd (InScriptElement n h) y (script_origin n y)
set-ends n h y (place_itself i f) m =
    subst (FromEnd (InScriptElement n h) y) (sym (itself-origin n y i))
    (record {
      there = has-script-set n y i;
      leads = λ g z l o. below-script-element (λ (g : Scan). ScanHas g y → Has (scan_place g) y) n h
          (λ k u d o. placed (feed_bytes script_feeding k (pending_bytes h)) y (f k u (out-set n k y i o))) g l o;
    })
set-ends n h y (place_whole i f) m =
    all-ends n h y (other-origin n y i ∙ member-whole y m) (λ k u. placed (feed_bytes script_feeding k (pending_bytes h)) y (f k u))

pub end-script-element : (n : ScriptScan) (h : Pending) (y : Member) → IsScriptScan n → scan_cut_error (InScriptElement n h) ≡ None
    → Has (scan_place (InScriptElement n h)) y → FromEnd (InScriptElement n h) y (end_origin (InScriptElement n h) y)
end-script-element n h y v e i =
    let bytes = pending_bytes h in
    let m = feed_bytes script_feeding n bytes in
    let t = element-cut h n e in
    or-either (FromEnd (InScriptElement n h) y (script_origin n y)) (is_whole y) (js_has (script_scan_place m) y) i
    (λ k. all-ends n h y (whole-origin n y k)
    (λ d u. or-first (is_whole y) (js_has (script_scan_place (feed_bytes script_feeding d bytes)) y) k))
    (λ k. set-ends n h y (script-end-from-in true bytes n y v (script-fed-valid bytes n v) (read-taken bytes 1 n t.read) t.cut k)
    (js-is (script_scan_place m) y k))
