-- What the step of the places of several paths in a script promises of the path of one.
use Rattle.std.specs.Prelude.{◌≡◌, ℕ, Bool, true, false, codes, List, [], Some, None}
use Rattle.js_lexer.specs.Feeding.{feed_script}
use Rattle.js_lexer.specs.Holes.{script_after_cut, script_after_hole}
use Rattle.js_lexer.specs.Refusals.{script_refuses, script_refuses_cut, refuses_end}
use Rattle.js_lexer.specs.Spots.{Spot, script_spot}
use Rattle.js_lexer.specs.States.{NoLineYet, NoEscape, At, Code, Word, Number, Pluses, Minuses, Slash, LineComment, BlockComment, InString, InRegexp, ScriptState, script_start}
use Rattle.js_lexer.specs.Steps.{sense_if_odd}
use Rattle.js_lexer.specs.Words.{sense_after}
use Rattle.js_lexer.specs.declared.sense.Sense.{Sense}
use Rattle.js_lexer.specs.declared.sense.Sense.TheVariants as sense
use Rattle.place_core.specs.declared.js.Js.TheVariants as js
use Rattle.js_step.specs.ScriptScans.{ScriptScan, script_scan, script_begun, script_sense_at, script_tail_at, script_star_at, script_scan_start, script_scan_next, script_scan_error, script_scan_place, script_scan_cut_error, script_scan_end_error, script_at_hole}
use Rattle.place_core.specs.place.ScriptParts.{script_tails, script_no_tails, script_senses, script_place}

-- A path alone, within a text: in its own state.
abbrev pub script_alone : ScriptState → ScriptScan
script_alone v = script_scan (script_senses (script_sense_at v.at)) script_no_tails false v

-- A path alone, before the first character of a text: where it is if no lexeme goes on over the cut, and what it has ended in.
abbrev pub script_begun_at : At → At
script_begun_at (Word w) = Code (sense_after w)
script_begun_at Number = Code sense.Div
script_begun_at (Pluses odd) = Code (sense_if_odd odd)
script_begun_at (Minuses odd) = Code (sense_if_odd odd)
script_begun_at (Slash sense.Re) = InRegexp false NoEscape
script_begun_at (Slash s) = Code sense.Re
script_begun_at (BlockComment s star) = BlockComment s false
script_begun_at (InString q e) = InString q NoEscape
script_begun_at (InRegexp k e) = InRegexp k NoEscape
script_begun_at a = a

abbrev pub script_alone_before : ScriptState → ScriptScan
script_alone_before v =
    script_begun (script_senses (script_sense_at (script_begun_at v.at))) (script_tails (script_tail_at v.at v.trail.markup)) (script_star_at v.at)
    (script_begun_at v.at) v.held

-- Within a text, on one path the step is the path's own, and so is what is refused: at a byte, and at the end of a node and of a value.
-- Where the path has a place at the end of the node, that is it, and there the next text begins; and at the place behind a hole the text
-- behind it.
pub record OneScript (v : ScriptState) : Type 0 where
  pub error : (element : Bool) (b : ℕ) → script_scan_error element (script_alone v) b ≡ script_refuses element v b
  pub next : (b : ℕ) → script_scan_next (script_alone v) b ≡ script_alone (feed_script v b)
  pub within : (b : ℕ) → (feed_script v b).trail.fresh ≡ false
  pub cut_error : script_scan_cut_error (script_alone v) ≡ script_refuses_cut v
  pub end_error : script_scan_end_error (script_alone v) ≡ refuses_end v
  pub place : (p : Spot) → script_spot v ≡ Some p → script_place p ≡ script_scan_place (script_alone v)
  pub after_cut : (p : Spot) → script_spot v ≡ Some p
      → script_alone_before (script_after_cut v) ≡ script_scan_start (script_scan_place (script_alone v))
  pub after_hole : (p : Spot) → script_spot v ≡ Some p
      → script_alone_before (script_after_hole v) ≡ script_scan_start (script_at_hole (script_scan_place (script_alone v)))

-- The first text of a script begins as one behind a cut.
pub record IsExactOnOneScript : Type 0 where
  pub begins : script_alone_before (script_after_cut script_start) ≡ script_scan_start (js.Code (script_senses sense.Re) script_no_tails)
  pub goes_on : (v : ScriptState) → v.trail.fresh ≡ false → OneScript v

-- How a path stands before the first character of a text, with the bytes of HTML that the node before has ended in: none, or a `<`, a `#`,
-- a `-` or two. It is outside of template literals, and no escape is open.
pub data EndsBefore : At → (held markup : List ℕ) → Type 0 where
  ends_code : (s : Sense) (held : List ℕ) → EndsBefore (Code s) held []
  ends_less : (s : Sense) → EndsBefore (Code s) [] (codes "<")
  ends_hash : (s : Sense) → EndsBefore (Code s) [] (codes "#")
  ends_word : (w held : List ℕ) → EndsBefore (Word w) held []
  ends_number : (held : List ℕ) → EndsBefore Number held []
  ends_pluses : (odd : Bool) (held : List ℕ) → EndsBefore (Pluses odd) held []
  ends_minuses : (odd : Bool) (held : List ℕ) → EndsBefore (Minuses odd) held []
  ends_minus : (odd : Bool) → EndsBefore (Minuses odd) [] (codes "-")
  ends_two_minuses : (odd : Bool) → EndsBefore (Minuses odd) [] (codes "--")
  ends_regexp_slash : EndsBefore (Slash sense.Re) [] []
  ends_slash : (held : List ℕ) → EndsBefore (Slash sense.Div) held []
  ends_line : (s : Sense) (held : List ℕ) → EndsBefore (LineComment s) held []
  ends_block : (s : Sense) (star : Bool) → EndsBefore (BlockComment s star) [] []
  ends_string : (q : Bool) → EndsBefore (InString q NoEscape) [] []
  ends_regexp : EndsBefore (InRegexp false NoEscape) [] []

abbrev pub script_before : At → (held markup : List ℕ) → ScriptState
script_before a h m = record {
  literals = [];
  at = a;
  held = h;
  trail = record { fresh = true; markup = m; escape = []; brace = 0; bracket = 0; literal = 0; lines = NoLineYet [] };
}

pub data IsBeforeText : ScriptState → Type 0 where
  before_text : (a : At) (h m : List ℕ) → EndsBefore a h m → IsBeforeText (script_before a h m)

-- Before the first character, on one path: a byte is refused as the path refuses it. Where it is not, and makes the first character known,
-- the path is within the text behind it; or else it is held back, and the path is still before. The end of a node and of a value are
-- refused alike, and where the path has a place, that is kept, or led on by a hole.
pub record OneScriptBefore (v : ScriptState) : Type 0 where
  pub error : (element : Bool) (b : ℕ) → script_scan_error element (script_alone_before v) b ≡ script_refuses element v b
  pub next : (element : Bool) (b : ℕ) → script_refuses element v b ≡ None → (feed_script v b).trail.fresh ≡ false
      → script_scan_next (script_alone_before v) b ≡ script_alone (feed_script v b)
  pub holds : (b : ℕ) → (feed_script v b).trail.fresh ≡ true
      → script_scan_next (script_alone_before v) b ≡ script_alone_before (feed_script v b)
  pub held : (b : ℕ) → (feed_script v b).trail.fresh ≡ true → IsBeforeText (feed_script v b)
  pub cut_error : script_scan_cut_error (script_alone_before v) ≡ script_refuses_cut v
  pub end_error : script_scan_end_error (script_alone_before v) ≡ refuses_end v
  pub place : (p : Spot) → script_spot v ≡ Some p → script_place p ≡ script_scan_place (script_alone_before v)
  pub after_cut : (p : Spot) → script_spot v ≡ Some p
      → script_alone_before (script_after_cut v) ≡ script_scan_start (script_scan_place (script_alone_before v))
  pub after_hole : (p : Spot) → script_spot v ≡ Some p
      → script_alone_before (script_after_hole v) ≡ script_scan_start (script_at_hole (script_scan_place (script_alone_before v)))

abbrev pub ScriptsBeginAsOne : Type 0
ScriptsBeginAsOne = (v : ScriptState) → IsBeforeText v → OneScriptBefore v
