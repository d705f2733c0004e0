-- What the characters of a script promise: of one path, and that places stay valid.
use Rattle.std.specs.Prelude.{◌≡◌, ◌+◌, ℕ, false, take, List, [], ◌∷◌, Option, None, Some, option_map, Ok, Err}
use Rattle.js_lexer.specs.Feeding.{feed_script}
use Rattle.js_lexer.specs.Holes.{script_after_cut}
use Rattle.js_lexer.specs.Refusals.{script_refuses, script_refuses_cut, refuses_end}
use Rattle.js_lexer.specs.Spots.{spot_before}
use Rattle.js_lexer.specs.States.{ScriptState}
use Rattle.place_core.specs.declared.body.Body.TheVariants as body
use Rattle.place_core.specs.declared.js.Js.{Js}
use Rattle.place_core.specs.declared.mode.Mode.{Mode}
use Rattle.place_core.specs.declared.mode.Mode.TheVariants as mode
use Rattle.place_core.specs.declared.step.Step.TheVariants as step
use Rattle.place_core.specs.place.LanguagePlaces.{IsValidJs}
use Rattle.place_core.specs.place.ScriptParts.{script_place, script_body}
use Rattle.js_step.specs.ScriptCharacters.{ScriptText, script_text_bytes, script_shown_or, script_refused_there, unless_script_refused, script_byte_place, after_script_characters}
use Rattle.js_step.specs.ScriptPaths.{script_scanned}
use Rattle.js_step.specs.ScriptScans.{script_scan_start}
use Rattle.js_step.specs.declared.script_read.RefusedScript.{RefusedScript}

-- How far a text has been read on a path: its own state, the last place that it has shown, and how many bytes have been read.
pub record ScriptPathRead : Type 0 where
  pub state : ScriptState
  pub last : Js
  pub count : ℕ

abbrev pub path_read_start : ScriptState → Js → ScriptPathRead
path_read_start v c = record { state = v; last = c; count = 0 }

abbrev pub path_read_shown : ScriptPathRead → Js
path_read_shown y = script_shown_or (option_map script_place (spot_before y.state)) y.last

abbrev pub path_read_next : ScriptPathRead → ℕ → ScriptPathRead
path_read_next y b = record { state = feed_script y.state b; last = path_read_shown y; count = y.count + 1 }

abbrev pub path_read_behind : ScriptPathRead → List ℕ → ScriptPathRead
path_read_behind y [] = y
path_read_behind y (b ∷ bs) = path_read_behind (path_read_next y b) bs

-- the place that the path shows behind the first bytes of a text
abbrev pub path_shown_behind : ℕ → List ℕ → ScriptPathRead → Js
path_shown_behind n bs y = path_read_shown (path_read_behind y (take n bs))

-- What the path refuses: the first of the bytes, or the end.
abbrev pub path_text_end : Mode → ScriptPathRead → Option RefusedScript
path_text_end mode.Whole y = script_refused_there y.count (refuses_end y.state)
path_text_end m y = script_refused_there y.count (script_refuses_cut y.state)

abbrev pub path_text_refused : Mode → ScriptPathRead → List ℕ → Option RefusedScript
path_text_refused m y [] = path_text_end m y
path_text_refused m y (b ∷ bs) =
    unless_script_refused (script_refused_there y.count (script_refuses false y.state b)) (path_text_refused m (path_read_next y b) bs)

-- From the place of one path, where a text begins as on the path, the answer is the path's own: what it refuses, at the character that holds the byte
-- where it is refused, and what it shows there (`shown`, behind so many bytes); or the place of the path, where a node may end there.
abbrev pub ScriptAnswers : (shown : ℕ → Js) → List (ℕ × ℕ) → Option RefusedScript → ScriptState → ScriptText → Type 0
ScriptAnswers shown cs None v (Ok (step.Inside c)) = script_refuses_cut v ≡ None → script_body (script_after_cut v) ≡ Some (body.Js c)
ScriptAnswers shown cs (Some e) v (Err f) = f ≡ record { code = e.code; at = script_byte_place e.byte 0 cs; before = shown e.shown }
ScriptAnswers shown cs o v r = ⊥

abbrev pub PathAnswers : Mode → (cs : List (ℕ × ℕ)) → ScriptPathRead → ScriptText → Type 0
PathAnswers m cs y r =
    ScriptAnswers (λ n. path_shown_behind n (script_text_bytes cs) y) cs (path_text_refused m y (script_text_bytes cs))
    (path_read_behind y (script_text_bytes cs)).state r

abbrev pub IsExactOnOneScriptText : Type 0
IsExactOnOneScriptText = (m : Mode) (cs : List (ℕ × ℕ)) (v : ScriptState) (c : Js) → script_scanned v ≡ Some (script_scan_start c)
    → PathAnswers m cs (path_read_start v c) (after_script_characters m cs c)

-- A place that has at least one sense of a slash comes to such places, and so is the one that is shown with a refusal.
abbrev pub IsValidScriptText : ScriptText → Type 0
IsValidScriptText (Ok (step.Inside c)) = IsValidJs c
IsValidScriptText (Ok (step.Ends n)) = ⊥
IsValidScriptText (Err e) = IsValidJs e.before

abbrev pub ScriptTextsStayValid : Type 0
ScriptTextsStayValid = (m : Mode) (cs : List (ℕ × ℕ)) (c : Js) → IsValidJs c → IsValidScriptText (after_script_characters m cs c)
