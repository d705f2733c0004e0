-- A text of a style, character by character, for all the paths at a place together. Each character is read as the bytes of its UTF-8.
use Rattle.std.specs.Prelude.{ℕ, ◌==◌, ◌||◌, Bool, true, false, encode_utf8, List, [], ◌∷◌, Option, Some, None, option_map, Result, Ok, Err}
use Rattle.css_lexer.specs.Classes.{style_class}
use Rattle.css_lexer.specs.RefusalCodes.{StyleCutRefusal}
use Rattle.place_core.specs.page.Tags.{style_code}
use Rattle.place_core.specs.declared.code.Code.{Code}
use Rattle.place_core.specs.declared.css.Css.{Css}
use Rattle.place_core.specs.declared.mode.Mode.{Mode}
use Rattle.place_core.specs.declared.mode.Mode.TheVariants as mode
use Rattle.place_core.specs.declared.step.Step.{Step}
use Rattle.place_core.specs.declared.step.Step.TheVariants as step
use Rattle.place_core.specs.declared.step_err.StepErr.{StepErr}
use Rattle.url_step.specs.PartTexts.{place_behind, scalar_of, unless_byte_refused}
use Rattle.css_step.specs.StyleScans.{StyleScan, style_scan_start, style_scan_next, style_scan_error, style_scan_place, style_scan_cut_error}
use Rattle.css_step.specs.StyleScanViews.{style_scan_at}
use Rattle.css_step.specs.declared.style_point.StylePoint.{StylePoint as ReadPoint}

abbrev pub StyleText : Type 0
StyleText = Result (Step Css) (StepErr Css)

-- How far a text has been read: the scan state there, and the place before the last byte that may begin a lexeme which the end of a node refuses, a
-- `\` of an escape or a `%` of a percent triple. While one is open no such byte stands behind its first, so that it is the place before the one that is
-- open.
pub record StylePoint : Type 0 where
  pub scan : StyleScan
  pub since : Css

abbrev pub begins_style_lexeme : ℕ → Bool
begins_style_lexeme b = b == 37 || b == 92

abbrev pub style_since : Bool → Css → Css → Css
style_since true here before = here
style_since false here before = before

abbrev pub style_point_next : StylePoint → ℕ → StylePoint
style_point_next x b = record {
  scan = style_scan_next x.scan (style_class b) b;
  since = style_since (begins_style_lexeme b) (style_scan_place x.scan) x.since;
}

abbrev pub style_point_behind : StylePoint → List ℕ → StylePoint
style_point_behind x [] = x
style_point_behind x (b ∷ bs) = style_point_behind (style_point_next x b) bs

-- where a text begins at a place, with nothing open
abbrev pub style_point_start : Css → StylePoint
style_point_start c = record { scan = style_scan_start c; since = c }

-- the first of bytes that is refused
abbrev pub style_bytes_error : StyleScan → List ℕ → Option Code
style_bytes_error n [] = None
style_bytes_error n (b ∷ bs) =
    unless_byte_refused (option_map style_code (style_scan_error n (style_class b) b)) (style_bytes_error (style_scan_next n (style_class b) b) bs)

-- Where the characters end: with the node, which may not end in an escape or a percent triple, or with the value. `end` is the place one byte behind
-- that of the last of them.
abbrev pub style_node_end : Option StyleCutRefusal → ℕ → StylePoint → StyleText
style_node_end None end x = Ok (step.Inside (style_scan_place x.scan))
style_node_end (Some r) end x = Err (record { code = style_code r.code; at = end; before = x.since })

abbrev pub style_text_end : Mode → ℕ → StylePoint → StyleText
style_text_end mode.Whole end x = Ok (step.Inside (style_scan_place x.scan))
style_text_end m end x = style_node_end (style_scan_cut_error x.scan) end x

abbrev pub unless_style_refused : Option Code → ℕ → Css → StyleText → StyleText
unless_style_refused None at before r = r
unless_style_refused (Some e) at before r = Err (record { code = e; at = at; before = before })

-- of characters, each with its place, and the place one byte behind that of the last character before them
abbrev pub style_characters_from : Mode → ℕ → List (ℕ × ℕ) → StylePoint → StyleText
style_characters_from m end [] x = style_text_end m end x
style_characters_from m end (c ∷ cs) x =
    unless_style_refused (style_bytes_error x.scan (encode_utf8 (scalar_of c.0))) c.1 (style_scan_place x.scan)
    (style_characters_from m (place_behind c.1) cs (style_point_behind x (encode_utf8 (scalar_of c.0))))

abbrev pub after_style_characters : Mode → List (ℕ × ℕ) → Css → StyleText
after_style_characters m cs c = style_characters_from m 0 cs (style_point_start c)

-- the point as the code has it
abbrev pub style_point_at : ReadPoint → StylePoint
style_point_at x = record { scan = style_scan_at x.scan; since = x.since }
