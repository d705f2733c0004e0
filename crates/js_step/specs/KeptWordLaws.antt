-- No answer depends on more of a word than is kept.
use Rattle.std.specs.Prelude.{◌≡◌, ℕ, Bool}
use Rattle.js_step.specs.KeptWords.{kept_scan}
use Rattle.js_step.specs.ScriptScans.{ScriptScan, script_scan_next, script_scan_error, script_scan_place, script_scan_shown, script_scan_cut_error, script_scan_end_error}

pub record KeepsWords (n : ScriptScan) : Type 0 where
  pub error : (element : Bool) (b : ℕ) → script_scan_error element (kept_scan n) b ≡ script_scan_error element n b
  pub next : (b : ℕ) → kept_scan (script_scan_next (kept_scan n) b) ≡ kept_scan (script_scan_next n b)
  pub cut_error : script_scan_cut_error (kept_scan n) ≡ script_scan_cut_error n
  pub end_error : script_scan_end_error (kept_scan n) ≡ script_scan_end_error n
  pub place : script_scan_place (kept_scan n) ≡ script_scan_place n
  pub shown : script_scan_shown (kept_scan n) ≡ script_scan_shown n

abbrev pub KeptWordsSuffice : Type 0
KeptWordsSuffice = (n : ScriptScan) → KeepsWords n
