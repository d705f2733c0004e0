-- Whole texts, byte by byte from scan states: they keep the order of places, and what is valid.
use Rattle.std.proofs.Common.{◌≡◌, ℕ, ◌+◌, List, [], ◌∷◌, Option, Some, None, Result, Ok, Err, refl, sym, ap, ◌∙◌, subst}
use Rattle.place_core.specs.page.Classes.{class_of}
use Rattle.place_core.specs.place.Errors.{PathCause, PathRefusal, TextRead, nothing_read, or_deep}
use Rattle.place_core.specs.place.Places.{Below, IsValid}
use Rattle.place_core.specs.declared.code.Code.{Code}
use Rattle.place_core.specs.declared.place.Place.{Place}
use Rattle.place_core.specs.declared.step_err.StepErr.{StepErr}
use Rattle.html_scan.specs.Scans.{Scan, At, scan_cut_error, scan_deep_behind, scan_error, scan_lexeme_error, scan_next, scan_place, scan_script_cut_refusal, scan_script_refusal}
use Rattle.html_step.specs.Laws.{CoversText, GrowsText, ValidText}
use Rattle.html_step.specs.Steps.{after_text, scan_read_behind, stepped, unless_broken_off, unless_refused, unless_refused_in_script, unless_too_deep, with_place_before}
use Rattle.html_step.proofs.ScanOrder.{ScanBelow, ScanValid, end-grows, scan-grows, script_cut}
use Rattle.html_step.proofs.ScriptEnds.{script_end, script-cut-takes, script-end-grows, script-takes, taken-script, taken-script-cut}
use Rattle.html_step.proofs.OneTexts.{one-text}
use Rattle.html_step.proofs.ValidSteps.{scan-valid, end-valid}

-- an answer is one
pub one-ok : (x y : Place) (o : Result Place PathRefusal) → o ≡ Ok x → o ≡ Ok y → x ≡ y
one-ok x y o e f = let same : Ok x ≡ Ok y = sym e ∙ f in cc

one-answer : (x y : Place) (o : Result Place (StepErr Place)) → o ≡ Ok x → o ≡ Ok y → x ≡ y
one-answer x y o e f = let same : Ok x ≡ Ok y = sym e ∙ f in cc

no-answer : (q : Place) (r : PathRefusal) (o : Result Place PathRefusal) → o ≡ Err r → o ≡ Ok q → ⊥
no-answer q r o e f = let same : Err r ≡ Ok q = sym e ∙ f in cc

no-step : (q : Place) (r : StepErr Place) (o : Result Place (StepErr Place)) → o ≡ Err r → o ≡ Ok q → ⊥
no-step q r o e f = let same : Err r ≡ Ok q = sym e ∙ f in cc

-- what is accepted is refused at no byte
not-refused-there : (k : ℕ) (o : Option PathCause) (r : Result Place PathRefusal) (q : Place) → unless_refused k o r ≡ Ok q → (o ≡ None) × (r ≡ Ok q)
not-refused-there k None r q e = (refl, e)
not-refused-there k (Some x) r q e = absurd (no-answer q _ (unless_refused k (Some x) r) refl e)

pub not-refused : (k : ℕ) (x : Option PathRefusal) (o : Option PathCause) (r : Result Place PathRefusal) (q : Place) → unless_refused_in_script k x o r ≡ Ok q
    → (o ≡ None) × (r ≡ Ok q) × (x ≡ None)
not-refused k None o r q e = (let n = not-refused-there k o r q e in (n.0, n.1, refl))
not-refused k (Some x) o r q e = absurd (no-answer q _ (unless_refused_in_script k (Some x) o r) refl e)

pub refused-not : (k : ℕ) (x : Option PathRefusal) (o : Option PathCause) (r : Result Place PathRefusal) (q : Place) → x ≡ None → o ≡ None → r ≡ Ok q
    → unless_refused_in_script k x o r ≡ Ok q
refused-not k x o r q d e f = rw (d, e, f) refl

-- the answer of the whole is that of the steps
pub steps-ok : (bytes : List ℕ) (p q : Place) (r : Result Place PathRefusal) → with_place_before bytes p r ≡ Ok q → r ≡ Ok q
steps-ok bytes p q (Ok x) e = ap Ok (one-answer x q (Ok x) refl e)
steps-ok bytes p q (Err r) e = absurd (no-step q _ (with_place_before bytes p (Err r)) refl e)

pub not-broken-off : (k since : ℕ) (o : Option Code) (p q : Place) → unless_broken_off k since o p ≡ Ok q → (o ≡ None) × (p ≡ q)
not-broken-off k since None p q e = (refl, one-ok p q (Ok p) refl e)
not-broken-off k since (Some x) p q e = absurd (no-answer q _ (unless_broken_off k since (Some x) p) refl e)

pub not-too-deep : (k : ℕ) (o : Option ℕ) (r : Result Place PathRefusal) (q : Place) → unless_too_deep k o r ≡ Ok q → (o ≡ None) × (r ≡ Ok q)
not-too-deep k None r q e = (refl, e)
not-too-deep k (Some x) r q e = absurd (no-answer q _ (unless_too_deep k (Some x) r) refl e)

pub text-steps : (bytes : List ℕ) (p q : Place) → after_text bytes p ≡ Ok q → stepped 0 nothing_read bytes (At p) ≡ Ok q
text-steps bytes p q e = steps-ok bytes p q (stepped 0 nothing_read bytes (At p)) e

pub steps-text : (bytes : List ℕ) (p q : Place) → stepped 0 nothing_read bytes (At p) ≡ Ok q → after_text bytes p ≡ Ok q
steps-text bytes p q e = ap (with_place_before bytes p) e

-- What an accepted text refuses nowhere: its end, and the byte at hand; and no value in it ends in literals that nest too deep.
pub record EndOk (f : Scan) (q : Place) : Type 0 where
  pub cut : scan_cut_error f ≡ None
  pub lexeme : scan_lexeme_error f ≡ None
  pub place : scan_place f ≡ q
  pub script : script_cut f ≡ None

abbrev AtEndOf : ℕ → TextRead → Scan → Result Place PathRefusal
AtEndOf k since f = unless_broken_off k since.last (scan_lexeme_error f) (scan_place f)

pub end-ok : (k : ℕ) (since : TextRead) (f : Scan) (q : Place) → stepped k since [] f ≡ Ok q → EndOk f q
end-ok k since f q e =
    let n = not-refused k (scan_script_cut_refusal k since.fed f) (scan_cut_error f) (unless_too_deep k since.deep (AtEndOf k since f)) q e in
    let d = not-too-deep k since.deep (AtEndOf k since f) q n.1 in
    let m = not-broken-off k since.last (scan_lexeme_error f) (scan_place f) q d.1 in
    record { cut = n.0; lexeme = m.0; place = m.1; script = taken-script-cut f k since.fed n.2 }

abbrev RestOf : ℕ → TextRead → ℕ → List ℕ → Scan → Result Place PathRefusal
RestOf k since b bs f = stepped (k + 1) (scan_read_behind k since f (class_of b) b) bs (scan_next f (class_of b) b)

or-none : (o p : Option ℕ) → or_deep o p ≡ None → (o ≡ None) × (p ≡ None)
or-none None p e = (refl, e)
or-none (Some x) p e = cc

pub not-deep : (bytes : List ℕ) (k : ℕ) (since : TextRead) (f : Scan) (q : Place) → stepped k since bytes f ≡ Ok q → since.deep ≡ None
not-deep [] k since f q e =
    let n = not-refused k (scan_script_cut_refusal k since.fed f) (scan_cut_error f) (unless_too_deep k since.deep (AtEndOf k since f)) q e in
    (not-too-deep k since.deep (AtEndOf k since f) q n.1).0
not-deep (b ∷ bs) k since f q e =
    let n = not-refused k (scan_script_refusal k since.fed f (class_of b) b) (scan_error f (class_of b) b) (RestOf k since b bs f) q e in
    (or-none since.deep (scan_deep_behind k since.fed f (class_of b) b)
    (not-deep bs (k + 1) (scan_read_behind k since f (class_of b) b) (scan_next f (class_of b) b) q n.1)).0

pub step-ok : (k : ℕ) (since : TextRead) (b : ℕ) (bs : List ℕ) (f : Scan) (q : Place) → stepped k since (b ∷ bs) f ≡ Ok q
    → (scan_error f (class_of b) b ≡ None) × (stepped (k + 1) (scan_read_behind k since f (class_of b) b) bs (scan_next f (class_of b) b) ≡ Ok q)
    × (script_end f (class_of b) ≡ None)
step-ok k since b bs f q e =
    let n = not-refused k (scan_script_refusal k since.fed f (class_of b) b) (scan_error f (class_of b) b) (RestOf k since b bs f) q e in
    let d = or-none since.deep (scan_deep_behind k since.fed f (class_of b) b)
    (not-deep bs (k + 1) (scan_read_behind k since f (class_of b) b) (scan_next f (class_of b) b) q n.1) in
    (n.0, n.1, taken-script f (class_of b) b k since.fed n.2 d.1)

-- the other way
pub ok-end : (k : ℕ) (since : TextRead) (f : Scan) (q : Place) → since.deep ≡ None → EndOk f q → stepped k since [] f ≡ Ok q
ok-end k since f q d n =
    refused-not k (scan_script_cut_refusal k since.fed f) (scan_cut_error f) (unless_too_deep k since.deep (AtEndOf k since f)) q
    (script-cut-takes f n.cut n.script k since.fed) n.cut
    (ap (λ (o : Option ℕ). unless_too_deep k o (AtEndOf k since f)) d
    ∙ ap (λ (o : Option Code). unless_broken_off k since.last o (scan_place f)) n.lexeme ∙ ap Ok n.place)

pub ok-step : (k : ℕ) (since : TextRead) (b : ℕ) (bs : List ℕ) (f : Scan) (q : Place) → scan_error f (class_of b) b ≡ None → script_end f (class_of b) ≡ None
    → stepped (k + 1) (scan_read_behind k since f (class_of b) b) bs (scan_next f (class_of b) b) ≡ Ok q → stepped k since (b ∷ bs) f ≡ Ok q
ok-step k since b bs f q e s h =
    refused-not k (scan_script_refusal k since.fed f (class_of b) b) (scan_error f (class_of b) b) (RestOf k since b bs f) q
    (script-takes f (class_of b) b e s k since.fed).0 e h

pub deep-behind : (k : ℕ) (since : TextRead) (b : ℕ) (f : Scan) → since.deep ≡ None → scan_error f (class_of b) b ≡ None → script_end f (class_of b) ≡ None
    → (scan_read_behind k since f (class_of b) b).deep ≡ None
deep-behind k since b f d e s =
    ap (λ (o : Option ℕ). or_deep o (scan_deep_behind k since.fed f (class_of b) b)) d ∙ (script-takes f (class_of b) b e s k since.fed).1

-- what is accepted is so wherever the text stands
pub accepts-anywhere : (bytes : List ℕ) (k : ℕ) (since : TextRead) (j : ℕ) (begun : TextRead) (f : Scan) (q : Place) → begun.deep ≡ None
    → stepped k since bytes f ≡ Ok q → stepped j begun bytes f ≡ Ok q
accepts-anywhere [] k since j begun f q d e = ok-end j begun f q d (end-ok k since f q e)
accepts-anywhere (b ∷ bs) k since j begun f q d e =
    let n = step-ok k since b bs f q e in
    ok-step j begun b bs f q n.0 n.2
    (accepts-anywhere bs (k + 1) (scan_read_behind k since f (class_of b) b) (j + 1) (scan_read_behind j begun f (class_of b) b) (scan_next f (class_of b) b) q
    (deep-behind j begun b f d n.0 n.2) n.1)

-- the order, wherever the texts stand
abbrev pub GrowsFrom : ℕ → TextRead → List ℕ → Scan → Place → Type 0
GrowsFrom k since bytes f q = (a : Place) × (stepped k since bytes f ≡ Ok a) × Below a q

pub grows-from : (bytes : List ℕ) (k : ℕ) (since begun : TextRead) (f g : Scan) (q : Place) → since.deep ≡ None → ScanValid f → ScanBelow f g
    → stepped k begun bytes g ≡ Ok q → GrowsFrom k since bytes f q
grows-from [] k since begun f g q d v h e =
    let n = end-ok k begun g q e in
    let m = end-grows f g h n.cut n.lexeme n.script in (
      scan_place f,
      ok-end k since f (scan_place f) d (record { cut = m.0; lexeme = m.1; place = refl; script = m.3 }),
      subst (Below (scan_place f)) n.place m.2,
    )
grows-from (b ∷ bs) k since begun f g q d v h e =
    let n = step-ok k begun b bs g q e in
    let m = scan-grows f g (class_of b) b refl v h n.0 in
    let s = script-end-grows f g (class_of b) b v h n.0 n.2 in
    let r = grows-from bs (k + 1) (scan_read_behind k since f (class_of b) b) (scan_read_behind k begun g (class_of b) b) (scan_next f (class_of b) b)
    (scan_next g (class_of b) b) q (deep-behind k since b f d m.0 s) (scan-valid f (class_of b) b v m.0) m.1 n.1 in
    (r.0, ok-step k since b bs f r.0 m.0 s r.1, r.2)

pub grows-text : GrowsText
grows-text bytes p r q v w h e =
    let g = grows-from bytes 0 nothing_read nothing_read (At p) (At r) q refl v h (text-steps bytes r q e) in
    (g.0, steps-text bytes p g.0 g.1, g.2)

-- what is valid
valid-from : (bytes : List ℕ) (k : ℕ) (since : TextRead) (f : Scan) (q : Place) → ScanValid f → stepped k since bytes f ≡ Ok q → IsValid q
valid-from [] k since f q v e = (let n = end-ok k since f q e in subst IsValid n.place (end-valid f v))
valid-from (b ∷ bs) k since f q v e =
    let n = step-ok k since b bs f q e in
    valid-from bs (k + 1) (scan_read_behind k since f (class_of b) b) (scan_next f (class_of b) b) q (scan-valid f (class_of b) b v n.0) n.1

pub valid-text : ValidText
valid-text bytes p q v e = valid-from bytes 0 nothing_read (At p) q v (text-steps bytes p q e)

-- the paths that a place stands for
pub covers-text : CoversText
covers-text bytes p q s v i e =
    let g = grows-text bytes i.own p q i.valid v i.below e in
    let o = (one-text bytes i.own s i.stands).0 g.0 g.1 in
    record { own = g.0; stands = o.1; valid = valid-text bytes i.own g.0 i.valid g.1; below = g.2 }
