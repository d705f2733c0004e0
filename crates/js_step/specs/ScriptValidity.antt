-- Of places of several paths in a script: that they stay valid, as what a slash would be stays a set of at least one sense.
use Rattle.std.specs.Prelude.{◌≡◌, ℕ, true}
use Rattle.place_core.specs.declared.js.Js.{Js}
use Rattle.place_core.specs.place.LanguagePlaces.{IsValidJs, some_sense}
use Rattle.js_step.specs.ScriptScans.{ScriptScan, script_scan_start, script_scan_next, script_scan_place, script_at_hole}

abbrev pub IsScriptScan : ScriptScan → Type 0
IsScriptScan n = some_sense n.senses ≡ true

-- At the beginning of a text, behind a byte, at the end of a node, and behind a hole.
pub record ScriptsStayValid : Type 0 where
  pub start : (c : Js) → IsValidJs c → IsScriptScan (script_scan_start c)
  pub next : (n : ScriptScan) (b : ℕ) → IsScriptScan n → IsScriptScan (script_scan_next n b)
  pub place : (n : ScriptScan) → IsScriptScan n → IsValidJs (script_scan_place n)
  pub at_hole : (c : Js) → IsValidJs c → IsValidJs (script_at_hole c)
