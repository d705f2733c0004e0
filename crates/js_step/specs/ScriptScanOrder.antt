-- Of places of several paths in a script, one below another, which differs in what a slash would be too: it accepts what that one accepts.
use Rattle.std.specs.Prelude.{◌≡◌, ◌⊎◌, ◌||◌, ℕ, Bool, List, [], None}
use Rattle.js_lexer.specs.States.{At, Slash}
use Rattle.js_lexer.specs.declared.sense.Sense.{Sense}
use Rattle.js_lexer.specs.declared.sense.Sense.TheVariants as sense
use Rattle.place_core.specs.declared.js.Js.{Js}
use Rattle.place_core.specs.place.LanguagePlaces.{IsValidJs, both_js_tails, both_senses}
use Rattle.js_step.specs.ScriptScans.{ScriptScan, script_in_sense, script_scan_start, script_scan_next, script_scan_error, script_scan_place, script_scan_cut_error, script_scan_end_error, script_at_hole}
use Rattle.js_step.specs.ScriptSetLaws.{ScriptBelow, KeepsSense}
use Rattle.js_step.specs.ScriptValidity.{IsScriptScan}

-- Where paths may differ in what a slash would be: in code and in comments; and behind a slash that is held back, with nothing else.
pub data MayDifferInSense : At → (held : List ℕ) → Type 0 where
  differ_within : (a : At) (held : List ℕ) → KeepsSense a → MayDifferInSense a held
  differ_behind_slash : (s : Sense) → MayDifferInSense (Slash s) []

-- Within a text one is below another: it has one sense or more, all of them among those of the other, and so it is with what paths have
-- ended in before the text. The shared states are the same but for what they say of a slash. Where the senses are not the same, paths may
-- differ in them, and are in no template literal: the code of one begins alike on all paths.
pub record ScriptScanBelow (n m : ScriptScan) : Type 0 where
  pub some : IsScriptScan n
  pub senses : both_senses n.senses m.senses ≡ m.senses
  pub before : both_js_tails n.before m.before ≡ m.before
  pub star : (n.star || m.star) ≡ m.star
  pub state : script_in_sense sense.Re n.state ≡ script_in_sense sense.Re m.state
  pub apart : (n.senses ≡ m.senses) ⊎ ((m.state.literals ≡ []) × MayDifferInSense m.state.at m.state.held)

-- Below a byte that is accepted it is accepted, and comes to one below; so it is at the end of a node and of a value. Where the end of the
-- node is accepted, the places there are one below the other.
pub record GrowsScriptScan (n m : ScriptScan) : Type 0 where
  pub error : (element : Bool) (b : ℕ) → script_scan_error element m b ≡ None → script_scan_error element n b ≡ None
  pub next : (element : Bool) (b : ℕ) → script_scan_error element m b ≡ None → ScriptScanBelow (script_scan_next n b) (script_scan_next m b)
  pub cut_error : script_scan_cut_error m ≡ None → script_scan_cut_error n ≡ None
  pub end_error : script_scan_end_error m ≡ None → script_scan_end_error n ≡ None
  pub place : script_scan_cut_error m ≡ None → ScriptBelow (script_scan_place n) (script_scan_place m)

-- At the beginning of a text at places one below the other, and behind a hole there. A scan of at least one sense is below itself.
pub record ScriptsGrow : Type 0 where
  pub scans : (n m : ScriptScan) → ScriptScanBelow n m → GrowsScriptScan n m
  pub same : (n : ScriptScan) → IsScriptScan n → ScriptScanBelow n n
  pub start : (c d : Js) → IsValidJs c → ScriptBelow c d → ScriptScanBelow (script_scan_start c) (script_scan_start d)
  pub at_hole : (c d : Js) → ScriptBelow c d → ScriptBelow (script_at_hole c) (script_at_hole d)
