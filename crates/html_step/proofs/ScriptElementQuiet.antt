-- In the element `script` what shows nothing refuses nothing, at a byte and at the end of a text.
use Rattle.std.proofs.Common.{◌≡◌, ℕ, ◌+◌, true, List, [], ◌∷◌, length, Option, None, refl, ap, ◌∙◌}
use Rattle.js_lexer.specs.Refusals.{Cause}
use Rattle.js_step.specs.ScriptScans.{ScriptScan, script_scan_cut_error, script_scan_end_error}
use Rattle.place_core.specs.page.Contents.{ScriptStep, Reads, EndsContent, pending_bytes}
use Rattle.place_core.specs.page.States.{Pending}
use Rattle.place_core.specs.place.Errors.{PathCause, asks_back, first_cause, read_error, script_cause_back, script_content_cut_error, script_read, step_asks, step_error}
use Rattle.place_core.proofs.Semilattices.{no_map}
use Rattle.html_scan.specs.Scans.{all_element_scripts, script_fed_byte}
use Rattle.html_step.specs.Origins.{ends_by_step, script_back, script_shows, script_step_shown, script_told_shown, step_asked}
use Rattle.html_step.proofs.ScriptAlike.{TakesIn, told-none}
use Rattle.html_step.proofs.ScriptContents.{scan-read}

read-none : (bytes : List ℕ) (m : ScriptScan) (k : ℕ) → TakesIn true bytes m → read_error all_element_scripts m bytes k ≡ None
read-none [] m k t = refl
read-none (b ∷ bs) m k t =
    ap (λ (o : Option Cause). first_cause (script_cause_back (length bs + k) o) (read_error all_element_scripts (script_fed_byte m b) bs k)) t.0
    ∙ read-none bs (script_fed_byte m b) k t.1

step-none : (step : ScriptStep) (m : ScriptScan) → script_told_shown true (ends_by_step step) (step_asked step) m ≡ None
    → step_error all_element_scripts m step ≡ None
step-none (Reads bytes h) m e = read-none (step_asks bytes h) m (asks_back h) (told-none true (step_asks bytes h) (ends_by_step (Reads bytes h)) m e).0
step-none (EndsContent letters) m e = ap (script_cause_back (length letters + 2)) (told-none true [] script_scan_end_error m e).1

pub step-quiet : (step : ScriptStep) (m : ScriptScan) → script_step_shown step m ≡ None → step_error all_element_scripts m step ≡ None
step-quiet step m e = step-none step m (no_map (script_back m) (script_told_shown true (ends_by_step step) (step_asked step) m) e)

pub element-cut-quiet : (h : Pending) (m : ScriptScan) → script_shows true script_scan_cut_error (pending_bytes h) m ≡ None
    → script_content_cut_error all_element_scripts m h ≡ None
element-cut-quiet h m e =
    let bytes = pending_bytes h in
    let d = told-none true bytes script_scan_cut_error m (no_map (script_back m) (script_told_shown true script_scan_cut_error bytes m) e) in
    ap (λ (o : Option PathCause). first_cause o (script_cause_back 0 (script_scan_cut_error (script_read all_element_scripts m bytes)))) (read-none bytes m 1 d.0)
    ∙ ap (script_cause_back 0) (ap script_scan_cut_error (scan-read bytes m) ∙ d.1)
