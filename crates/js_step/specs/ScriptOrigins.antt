-- Of the members of places in a script: which of them a scan state keeps as sets, and where those behind a byte and at the end of a node
-- come from.
use Rattle.std.specs.Prelude.{◌≡◌, ◌||◌, ℕ, Bool, true, false, None}
use Rattle.js_lexer.specs.States.{At, Slash, InString, InRegexp}
use Rattle.place_core.specs.declared.js.Js.{Js}
use Rattle.place_core.specs.declared.js_tails.JsTails.{JsTails}
use Rattle.place_core.specs.declared.member.Member.{Member}
use Rattle.place_core.specs.declared.senses.Senses.{Senses}
use Rattle.place_core.specs.place.LanguagePlaces.{js_has, js_star_has, js_tails_have, regexp_has, senses_have}
use Rattle.js_step.specs.ScriptScanOrder.{ScriptScanBelow}
use Rattle.js_step.specs.ScriptScans.{ScriptScan, script_scan_start, script_scan_next, script_scan_error, script_scan_place, script_scan_cut_error}
use Rattle.js_step.specs.ScriptValidity.{IsScriptScan}

-- What a slash would be, where the place has it: in a string and a regular expression it has none.
abbrev pub script_senses_at : Senses → At → Member → Bool
script_senses_at s (InString q e) m = false
script_senses_at s (InRegexp k e) m = false
script_senses_at s a m = senses_have s m

-- What paths have ended in before the text, until its first character. In a regular expression a slash is the one that begins it.
abbrev pub script_but_slash : JsTails → JsTails
script_but_slash x = record { word = x.word; num = x.num; lt = x.lt; slash = false; plus = x.plus; minus = x.minus; hash = x.hash }

abbrev pub script_tails_at : JsTails → At → Member → Bool
script_tails_at x (InRegexp k e) m = regexp_has x.slash m || js_tails_have (script_but_slash x) m
script_tails_at x (Slash s) m = regexp_has x.slash m || js_tails_have x m
script_tails_at x a m = js_tails_have x m

abbrev pub script_set_at : Senses → JsTails → (star : Bool) → At → Member → Bool
script_set_at s x star a m = script_senses_at s a m || (script_tails_at x a m || js_star_has star m)

abbrev pub script_set_has : ScriptScan → Member → Bool
script_set_has n m = script_set_at n.senses n.before n.star n.state.at m

-- Behind a byte that is accepted a member comes from itself, where the scan state has it before (`itself`), and is else so on all paths
-- (`whole`); likewise in the place at the end of a node that is accepted. At the beginning of a text the members are those of the place.
pub record ScriptsComeFrom : Type 0 where
  pub begins : (c : Js) (y : Member) → script_set_has (script_scan_start c) y ≡ js_has c y
  pub itself : (element : Bool) (m n : ScriptScan) (b : ℕ) (y : Member) → IsScriptScan m → script_scan_error element m b ≡ None
      → script_set_has (script_scan_next m b) y ≡ true → script_set_has m y ≡ true → ScriptScanBelow n m → script_set_has n y ≡ true
      → script_set_has (script_scan_next n b) y ≡ true
  pub whole : (element : Bool) (m n : ScriptScan) (b : ℕ) (y : Member) → IsScriptScan m → script_scan_error element m b ≡ None
      → script_set_has (script_scan_next m b) y ≡ true → script_set_has m y ≡ false → ScriptScanBelow n m
      → script_set_has (script_scan_next n b) y ≡ true
  pub end_itself : (m n : ScriptScan) (y : Member) → IsScriptScan m → script_scan_cut_error m ≡ None → js_has (script_scan_place m) y ≡ true
      → script_set_has m y ≡ true → ScriptScanBelow n m → script_set_has n y ≡ true → js_has (script_scan_place n) y ≡ true
  pub end_whole : (m n : ScriptScan) (y : Member) → IsScriptScan m → script_scan_cut_error m ≡ None → js_has (script_scan_place m) y ≡ true
      → script_set_has m y ≡ false → ScriptScanBelow n m → js_has (script_scan_place n) y ≡ true
