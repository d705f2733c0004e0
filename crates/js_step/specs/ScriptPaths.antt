-- Where a path stands in a script, and the scan state of a path alone there. A text begins so wherever a path has a place, and its bytes
-- lead from one such state to another, as long as none is refused.
use Rattle.std.specs.Prelude.{◌≡◌, ℕ, ◌==◌, ◌||◌, ◌&&◌, nat_eq, not, Bool, true, false, bytes_eq, codes, List, [], ◌∷◌, Option, Some, None, option_map, if◌then◌else◌}
use Rattle.std.specs.List.{starts_with}
use Rattle.js_lexer.specs.Feeding.{tells_white_apart, feed_script}
use Rattle.js_lexer.specs.Holes.{script_after_cut, script_after_hole}
use Rattle.js_lexer.specs.Refusals.{is_one_of, script_refuses, script_refuses_cut, refuses_end}
use Rattle.js_lexer.specs.Spots.{spot_before}
use Rattle.js_lexer.specs.States.{ScriptEscape, NoEscape, AfterBackslash, AfterX, AfterX3, AfterCarriageReturn, At, Code, Minuses, Slash, InString, InRegexp, InTemplate, TooDeep, ScriptState, script_start}
use Rattle.js_lexer.specs.Trails.{is_empty}
use Rattle.js_lexer.specs.declared.sense.Sense.TheVariants as sense
use Rattle.place_core.specs.declared.body.Body.{Body}
use Rattle.place_core.specs.declared.body.Body.TheVariants as body
use Rattle.place_core.specs.declared.js.Js.{Js}
use Rattle.place_core.specs.declared.js.Js.TheVariants as js
use Rattle.place_core.specs.place.ScriptParts.{script_no_tails, script_senses, script_place, script_may_begin_text, script_body}
use Rattle.js_step.specs.ScriptScanLaws.{script_alone, script_alone_before}
use Rattle.js_step.specs.ScriptScans.{ScriptScan, script_scan_start, script_scan_next, script_scan_error, script_scan_place, script_scan_shown, script_scan_cut_error, script_scan_end_error, script_at_hole}

-- Which bytes that may become markup have led to a lexeme, outside of template literals. Those of `</script` are in a regular expression.
abbrev pub script_markup_fits : At → List ℕ → Bool
script_markup_fits (Code sense.Re) m = is_one_of ([] ∷ codes "<" ∷ codes "<!" ∷ []) m
script_markup_fits (Code sense.Div) m = is_one_of ([] ∷ codes "#" ∷ []) m
script_markup_fits (Minuses odd) m = is_one_of ([] ∷ codes "-" ∷ codes "--" ∷ codes "<!-" ∷ []) m
script_markup_fits (Slash sense.Re) m = is_one_of ([] ∷ codes "</" ∷ []) m
script_markup_fits (InRegexp k e) m = is_empty m || starts_with nat_eq m (codes "</")
script_markup_fits (InTemplate e d) m = false
script_markup_fits TooDeep m = false
script_markup_fits a m = is_empty m

-- which bytes of an escape have led to what is held back of `\<` and `\x3C`
abbrev pub script_escape_fits : ScriptEscape → List ℕ → Bool
script_escape_fits NoEscape bytes = not (bytes_eq bytes (codes "\\"))
script_escape_fits AfterBackslash bytes = bytes_eq bytes (codes "\\")
script_escape_fits AfterX bytes = bytes_eq bytes (codes "\\x")
script_escape_fits AfterX3 bytes = bytes_eq bytes (codes "\\x3")
script_escape_fits AfterCarriageReturn bytes = bytes_eq bytes (codes "\\\r")

-- An escape is open in a string or a regular expression alone, and a `[ ]` in the latter.
abbrev pub script_trail_fits : At → (escape : List ℕ) → (brace bracket : ℕ) → Bool
script_trail_fits (InString q e) bytes n k = script_escape_fits e bytes && k == 0
script_trail_fits (InRegexp within e) bytes n k = script_escape_fits e bytes && (within || k == 0)
script_trail_fits a bytes n k = is_empty bytes && (n == 0 && k == 0)

-- A path within a text, outside of template literals; and in one, where anything may be open.
abbrev pub is_script_outside : ScriptState → Bool
is_script_outside v =
    (is_empty v.held || is_empty v.trail.markup)
    && (v.trail.literal == 0
    && (script_trail_fits v.at v.trail.escape v.trail.brace v.trail.bracket && script_markup_fits v.at v.trail.markup))

abbrev pub is_script_within : ScriptState → Bool
is_script_within v = if is_empty v.literals then is_script_outside v else true

-- and before the first character of a text
abbrev pub is_script_before : ScriptState → Bool
is_script_before v =
    is_empty v.literals && (script_may_begin_text v && (is_empty v.held || (tells_white_apart v.at && is_empty v.trail.markup)))

abbrev pub script_scanned_if : Bool → ScriptScan → Option ScriptScan
script_scanned_if true n = Some n
script_scanned_if false n = None

abbrev pub script_scanned : ScriptState → Option ScriptScan
script_scanned v =
    if v.trail.fresh then script_scanned_if (is_script_before v) (script_alone_before v)
    else script_scanned_if (is_script_within v) (script_alone v)

-- The scan state of a path is stepped as the path, and refuses what the path refuses, at a byte, at the end of a node and of a value; and
-- both show the same place. Where the end of a node is not refused, the path has a place behind it, at which the next text begins.
pub record OneScriptPath (v : ScriptState) (n : ScriptScan) : Type 0 where
  pub error : (element : Bool) (b : ℕ) → script_scan_error element n b ≡ script_refuses element v b
  pub next : (element : Bool) (b : ℕ) → script_refuses element v b ≡ None
      → script_scanned (feed_script v b) ≡ Some (script_scan_next n b)
  pub shown : script_scan_shown n ≡ option_map script_place (spot_before v)
  pub cut_error : script_scan_cut_error n ≡ script_refuses_cut v
  pub end_error : script_scan_end_error n ≡ refuses_end v
  pub stands : script_refuses_cut v ≡ None → script_body (script_after_cut v) ≡ Some (body.Js (script_scan_place n))
  pub after_cut : script_refuses_cut v ≡ None
      → script_scanned (script_after_cut v) ≡ Some (script_scan_start (script_scan_place n))

-- A path that has a place: there the next text begins, and at the place behind a hole the text behind it.
pub record OneScriptPlace (v : ScriptState) (c : Js) : Type 0 where
  pub scanned : script_scanned v ≡ Some (script_scan_start c)
  pub kept : script_after_cut v ≡ v
  pub cut_error : script_refuses_cut v ≡ None
  pub behind_hole : script_body (script_after_hole v) ≡ Some (body.Js (script_at_hole c))

pub record ScriptPathsAreScanned : Type 0 where
  pub begins : script_body (script_after_cut script_start) ≡ Some (body.Js (js.Code (script_senses sense.Re) script_no_tails))
  pub goes_on : (v : ScriptState) (n : ScriptScan) → script_scanned v ≡ Some n → OneScriptPath v n
  pub stands : (v : ScriptState) (c : Js) → script_body v ≡ Some (body.Js c) → OneScriptPlace v c
  pub is_script : (v : ScriptState) (x : Body) → script_body v ≡ Some x → (c : Js) × (x ≡ body.Js c)
