-- What is written of a text in a string, and in a regular expression, reads back as the text, and is plain there: of each text. What is written of a
-- datum in code is plain there: of each datum.
use Rattle.std.specs.Prelude.{◌≡◌, ⊤, ℕ, Bool, false, List, []}
use Rattle.page_datum.specs.Data.{Data}
use Rattle.js_lexer.specs.Feeding.{script_reading, read_on}
use Rattle.js_lexer.specs.Holes.{script_settled, IsBetweenEscapes}
use Rattle.js_lexer.specs.Plain.{literal_events, IsPlainInScript, IsStringBack, IsRegexpBack}
use Rattle.js_lexer.specs.Sanitizers.{js_string, js_regexp, js_value}
use Rattle.js_lexer.specs.States.{NoEscape, At, Code, Word, Number, Pluses, Minuses, Slash, InString, InRegexp, Trail, ScriptState}
use Rattle.js_lexer.specs.declared.sense.Sense.TheVariants as sense

-- in a string, in no template literal
abbrev pub in_string : Bool → Trail → ScriptState
in_string q t = record { literals = []; at = InString q NoEscape; held = []; trail = t }

-- in a regular expression and in no `[ ]`, in no template literal
abbrev pub in_regexp : Trail → ScriptState
in_regexp t = record { literals = []; at = InRegexp false NoEscape; held = []; trail = t }

-- right behind the slash that begins a regular expression, in no template literal
abbrev pub behind_slash : Trail → ScriptState
behind_slash t = record { literals = []; at = Slash sense.Re; held = []; trail = t }

pub record TextsReadBack : Type 0 where
  pub strings : (value : List ℕ) → IsStringBack value (js_string value)
  pub regexps : (value : List ℕ) → IsRegexpBack value (js_regexp value)
  pub plain_strings : (q : Bool) (t : Trail) (value : List ℕ) → IsBetweenEscapes t → IsPlainInScript (js_string value) (in_string q t)
  pub plain_regexps : (t : Trail) (value : List ℕ) → IsBetweenEscapes t → IsPlainInScript (js_regexp value) (in_regexp t)
  pub plain_first : (t : Trail) (value : List ℕ) → IsBetweenEscapes t → IsPlainInScript (js_regexp value) (behind_slash t)

-- in code, at such a place, in no template literal, with nothing held back of what may be white space
abbrev pub in_code : At → Trail → ScriptState
in_code a t = record { literals = []; at = a; held = []; trail = t }

-- Where a datum is a value of code: behind a token or at the beginning; behind a word, a number or a run that is open; and behind a slash that is held
-- back and divides.
abbrev pub TakesData : At → Type 0
TakesData (Code s) = ⊤
TakesData (Word w) = ⊤
TakesData Number = ⊤
TakesData (Pluses odd) = ⊤
TakesData (Minuses odd) = ⊤
TakesData (Slash sense.Re) = ⊥
TakesData (Slash s) = ⊤
TakesData a = ⊥

-- What is written of a datum is plain wherever one is a value of code, and is read as the tokens of this very datum's literal: of each datum.
pub record DataArePlain : Type 0 where
  pub plain_data : (a : At) (t : Trail) (d : Data) → TakesData a → IsBetweenEscapes t → IsPlainInScript (js_value d) (in_code a t)
  pub told_data : (a : At) (t : Trail) (d : Data) → TakesData a → IsBetweenEscapes t
      → (read_on (js_value d) (script_reading (script_settled (in_code a t)) [])).told ≡ literal_events d []
