-- What shows that a script is refused, by the bytes that it is fed and then by its end.
use Rattle.std.specs.Prelude.{ℕ, Bool, true, false, List, [], ◌∷◌, Option, None, option_map}
use Rattle.js_lexer.specs.Refusals.{Cause}
use Rattle.js_step.specs.ScriptEvidence.{script_shown_by}
use Rattle.js_step.specs.ScriptScans.{ScriptScan}
use Rattle.place_core.specs.page.Classes.{Class}
use Rattle.place_core.specs.page.References.{Reference, settled, undone_byte}
use Rattle.place_core.specs.declared.member.Member.TheVariants as member
use Rattle.html_scan.specs.Scans.{script_fed_byte}
use Rattle.html_step.specs.Laws.{EvidenceData}
use Rattle.html_step.specs.Origins.{first_shown, script_byte_shown, script_evidence}

abbrev pub script_fed_shown : (element : Bool) → List ℕ → ScriptScan → Option EvidenceData
script_fed_shown element [] n = None
script_fed_shown element (b ∷ bs) n = first_shown (script_byte_shown element n b) (script_fed_shown element bs (script_fed_byte n b))

abbrev pub script_end_shows : Option Cause → ScriptScan → Option EvidenceData
script_end_shows e n = option_map (λ x. script_evidence (script_shown_by n member.Whole x.refusal)) e

-- the bytes that a byte feeds a value, which it ends or does not begin, or not
abbrev pub bytes_at : (stops : Bool) → Reference → Class → ℕ → List ℕ
bytes_at true r c b = settled true r
bytes_at false r c b = undone_byte true r c b
