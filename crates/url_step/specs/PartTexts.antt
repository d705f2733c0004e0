-- A text of a URL, character by character, for all the paths at a place together. Each character is read as the bytes of its UTF-8.
use Rattle.std.specs.Prelude.{ℕ, ◌+◌, nat_le, nat_lt, encode_utf8, ◌&&◌, ◌||◌, Bool, true, false, List, [], ◌∷◌, Option, Some, None, option_map, Result, Ok, Err, if◌then◌else◌}
use Rattle.place_core.specs.page.Tags.{refusal_code}
use Rattle.place_core.specs.declared.code.Code.{Code}
use Rattle.place_core.specs.declared.code.Code.TheVariants as code
use Rattle.place_core.specs.declared.mode.Mode.{Mode}
use Rattle.place_core.specs.declared.mode.Mode.TheVariants as mode
use Rattle.place_core.specs.declared.parts.Parts.{Parts}
use Rattle.place_core.specs.declared.step.Step.{Step}
use Rattle.place_core.specs.declared.step.Step.TheVariants as step
use Rattle.place_core.specs.declared.step_err.StepErr.{StepErr}
use Rattle.url_lexer.specs.Classes.{url_class_of}
use Rattle.url_lexer.specs.declared.class.UrlClass.{UrlClass}
use Rattle.url_lexer.specs.declared.class.UrlClass.TheVariants as class
use Rattle.url_step.specs.PartSets.{parts_next, parts_error}
use Rattle.url_step.specs.declared.text_point.OpenTriple.{OpenTriple}
use Rattle.url_step.specs.declared.text_point.OpenTriple.TheVariants as triple
use Rattle.url_step.specs.declared.text_point.TextPoint.{TextPoint}

abbrev pub UrlText : Type 0
UrlText = Result (Step Parts) (StepErr Parts)

-- the percent triple behind a byte, with the parts before its percent sign
abbrev pub triple_next : OpenTriple → Parts → UrlClass → OpenTriple
triple_next t s class.Percent = triple.Percent s
triple_next (triple.Percent p) s class.Hexadecimal = triple.Digit p
triple_next t s c = triple.None

abbrev pub point_next : TextPoint → ℕ → TextPoint
point_next x b = record { parts = parts_next x.parts (url_class_of b) b; triple = triple_next x.triple x.parts (url_class_of b) }

abbrev pub point_behind : TextPoint → List ℕ → TextPoint
point_behind x [] = x
point_behind x (b ∷ bs) = point_behind (point_next x b) bs

-- the first of bytes that is refused
abbrev pub unless_byte_refused : Option Code → Option Code → Option Code
unless_byte_refused None r = r
unless_byte_refused (Some e) r = Some e

abbrev pub bytes_error : Parts → List ℕ → Option Code
bytes_error s [] = None
bytes_error s (b ∷ bs) = unless_byte_refused (option_map refusal_code (parts_error s (url_class_of b))) (bytes_error (parts_next s (url_class_of b) b) bs)

-- A number that is no character is read as U+FFFD.
abbrev pub scalar_of : ℕ → ℕ
scalar_of n = if (nat_le 55296 n && nat_le n 57343) || nat_lt 1114111 n then 65533 else n

-- where the text of a URL may stand: in a value, not in an element
abbrev pub is_in_value : Mode → Bool
is_in_value mode.Element = false
is_in_value mode.Open = true
is_in_value mode.Whole = true

-- Where the characters end: with the node, which may not end in a percent triple, or with the value. `end` is the place one byte
-- behind that of the last of them.
abbrev pub partial_triple : ℕ → Parts → UrlText
partial_triple end before = Err (record { code = code.PartialEscape; at = end; before = before })

abbrev pub node_end : OpenTriple → ℕ → Parts → UrlText
node_end triple.None end s = Ok (step.Inside s)
node_end (triple.Percent before) end s = partial_triple end before
node_end (triple.Digit before) end s = partial_triple end before

abbrev pub text_end : Mode → ℕ → TextPoint → UrlText
text_end mode.Whole end x = Ok (step.Inside x.parts)
text_end m end x = node_end x.triple end x.parts

-- One byte behind the place of a character, whatever it is written with: of `&#52;` this is behind the `&`. Offsets have 32 bits.
abbrev pub place_behind : ℕ → ℕ
place_behind at = if nat_lt at 4294967295 then at + 1 else at

abbrev pub unless_character_refused : Option Code → ℕ → Parts → UrlText → UrlText
unless_character_refused None at before r = r
unless_character_refused (Some e) at before r = Err (record { code = e; at = at; before = before })

-- of characters, each with its place, and the place one byte behind that of the last character before them
abbrev pub characters_from : Mode → ℕ → List (ℕ × ℕ) → TextPoint → UrlText
characters_from m end [] x = text_end m end x
characters_from m end (c ∷ cs) x =
    unless_character_refused (bytes_error x.parts (encode_utf8 (scalar_of c.0))) c.1 x.parts
    (characters_from m (place_behind c.1) cs (point_behind x (encode_utf8 (scalar_of c.0))))

abbrev pub after_characters : Mode → List (ℕ × ℕ) → Parts → UrlText
after_characters m cs s = characters_from m 0 cs (record { parts = s; triple = triple.None })
