-- A text of a script in a value, character by character, for all the paths at a place together. Each character is read as the bytes of its UTF-8.
use Rattle.std.specs.Prelude.{ℕ, ◌+◌, ◌-◌, ◌||◌, ◌&&◌, Bool, true, false, nat_le, nat_lt, encode_utf8, List, [], ◌∷◌, ◌++◌, take, Option, Some, None, Result, Ok, Err, if◌then◌else◌}
use Rattle.std.specs.Char.{len_utf8}
use Rattle.js_lexer.specs.Refusals.{Cause}
use Rattle.place_core.specs.page.Tags.{script_code}
use Rattle.place_core.specs.declared.js.Js.{Js}
use Rattle.place_core.specs.declared.mode.Mode.{Mode}
use Rattle.place_core.specs.declared.mode.Mode.TheVariants as mode
use Rattle.place_core.specs.declared.step.Step.{Step}
use Rattle.place_core.specs.declared.step.Step.TheVariants as step
use Rattle.place_core.specs.declared.step_err.StepErr.{StepErr}
use Rattle.js_step.specs.KeptWords.{kept_scan}
use Rattle.js_step.specs.ScriptScans.{ScriptScan, script_scan_start, script_scan_next, script_scan_error, script_scan_place, script_scan_shown, script_scan_cut_error, script_scan_end_error}
use Rattle.js_step.specs.ScriptScanViews.{script_scan_at}
use Rattle.js_step.specs.declared.script_read.ScriptRead.{ScriptRead as ReadSoFar}
use Rattle.js_step.specs.declared.script_read.RefusedScript.{RefusedScript}

abbrev pub ScriptText : Type 0
ScriptText = Result (Step Js) (StepErr Js)

-- where the text of a script may stand here: in a value, not in an element
abbrev pub is_script_of_value : Mode → Bool
is_script_of_value mode.Element = false
is_script_of_value mode.Open = true
is_script_of_value mode.Whole = true

-- A number that is no character is read as U+FFFD.
abbrev pub script_scalar : ℕ → ℕ
script_scalar n = if (nat_le 55296 n && nat_le n 57343) || nat_lt 1114111 n then 65533 else n

-- the bytes of characters
abbrev pub script_text_bytes : List (ℕ × ℕ) → List ℕ
script_text_bytes [] = []
script_text_bytes (c ∷ cs) = encode_utf8 (script_scalar c.0) ++ script_text_bytes cs

-- One byte behind the place of a character, whatever it is written with. Offsets have 32 bits.
abbrev pub script_place_behind : ℕ → ℕ
script_place_behind at = if nat_lt at 4294967295 then at + 1 else at

-- How far a text has been read: the scan state there, the last place that was shown before it, and how many bytes have been read.
pub record ScriptRead : Type 0 where
  pub scan : ScriptScan
  pub last : Js
  pub count : ℕ

-- the place that is shown there; within a template literal, and behind a slash after `}`, the last one before it
abbrev pub script_shown_or : Option Js → Js → Js
script_shown_or (Some here) last = here
script_shown_or None last = last

abbrev pub script_read_shown : ScriptRead → Js
script_read_shown x = script_shown_or (script_scan_shown x.scan) x.last

abbrev pub script_read_start : Js → ScriptRead
script_read_start c = record { scan = script_scan_start c; last = c; count = 0 }

abbrev pub script_read_next : ScriptRead → ℕ → ScriptRead
script_read_next x b = record { scan = kept_scan (script_scan_next x.scan b); last = script_read_shown x; count = x.count + 1 }

abbrev pub script_read_behind : ScriptRead → List ℕ → ScriptRead
script_read_behind x [] = x
script_read_behind x (b ∷ bs) = script_read_behind (script_read_next x b) bs

-- The place that is shown behind the first bytes of a text: the last one that there is up to there.
abbrev pub script_shown_behind : ℕ → List ℕ → ScriptRead → Js
script_shown_behind n bs x = script_read_shown (script_read_behind x (take n bs))

-- The first of bytes that is refused, where so many have been read: why, how many bytes of the text stand before the one where the cause stands, and
-- how many before the place that is shown. What stands before the text is told at its first byte.
abbrev pub script_refused_there : (count : ℕ) → Option Cause → Option RefusedScript
script_refused_there count None = None
script_refused_there count (Some e) =
    Some (record { code = script_code e.refusal; byte = count - e.back; shown = count - e.shown })

abbrev pub unless_script_refused : Option RefusedScript → Option RefusedScript → Option RefusedScript
unless_script_refused None r = r
unless_script_refused (Some e) r = Some e

abbrev pub script_byte_error : ScriptRead → ℕ → Option RefusedScript
script_byte_error x b = script_refused_there x.count (script_scan_error false x.scan b)

abbrev pub script_bytes_error : ScriptRead → List ℕ → Option RefusedScript
script_bytes_error x [] = None
script_bytes_error x (b ∷ bs) =
    unless_script_refused (script_byte_error x b) (script_bytes_error (script_read_next x b) bs)

-- Where the characters end: with the node, or with the value.
abbrev pub script_characters_end : Mode → ScriptRead → Option RefusedScript
script_characters_end mode.Whole x = script_refused_there x.count (script_scan_end_error x.scan)
script_characters_end m x = script_refused_there x.count (script_scan_cut_error x.scan)

-- The place of the character that holds a byte, by how many bytes stand before it; behind them all it is one byte behind that of the last character.
abbrev pub script_byte_place : ℕ → ℕ → List (ℕ × ℕ) → ℕ
script_byte_place n end [] = end
script_byte_place n end (c ∷ cs) =
    let len = len_utf8 (script_scalar c.0) in
    if nat_lt n len then c.1 else script_byte_place (n - len) (script_place_behind c.1) cs

-- What is refused of characters from their beginning, at the place `c`: at which character, and the place that is shown.
abbrev pub script_refusal : (c : Js) → (all : List (ℕ × ℕ)) → RefusedScript → StepErr Js
script_refusal c all e = record {
  code = e.code;
  at = script_byte_place e.byte 0 all;
  before = script_shown_behind e.shown (script_text_bytes all) (script_read_start c);
}

abbrev pub script_text_refused : (c : Js) → (all : List (ℕ × ℕ)) → Option RefusedScript → ScriptText → ScriptText
script_text_refused c all None r = r
script_text_refused c all (Some e) r = Err (script_refusal c all e)

abbrev pub script_characters_from : Mode → (c : Js) → (all cs : List (ℕ × ℕ)) → ScriptRead → ScriptText
script_characters_from m c all [] x = script_text_refused c all (script_characters_end m x) (Ok (step.Inside (script_scan_place x.scan)))
script_characters_from m c all (d ∷ ds) x =
    script_text_refused c all (script_bytes_error x (encode_utf8 (script_scalar d.0)))
    (script_characters_from m c all ds (script_read_behind x (encode_utf8 (script_scalar d.0))))

abbrev pub after_script_characters : Mode → List (ℕ × ℕ) → Js → ScriptText
after_script_characters m cs c = script_characters_from m c cs cs (script_read_start c)

-- what has been read, as the code has it
abbrev pub script_read_at : ReadSoFar → ScriptRead
script_read_at x = record { scan = script_scan_at x.scan; last = x.last; count = x.count }
