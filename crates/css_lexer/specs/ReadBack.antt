-- What is owed for a value in a style: its bytes are plain in their place, and read back as its text, or as the failsafe.
use Rattle.std.specs.Prelude.{◌≡◌, ℕ, List}
use Rattle.css_lexer.specs.Escapes.{NoEscape}
use Rattle.css_lexer.specs.Paths.{out_settled}
use Rattle.css_lexer.specs.Plain.{InRun, IsPlainInStyle}
use Rattle.css_lexer.specs.Sanitizers.{css_string, css_value, unless_unsafe, style_as_text}
use Rattle.css_lexer.specs.States.{Quote, Outside, InString, Out}
use Rattle.css_lexer.specs.Unescaping.{style_escapes_undone}
use Rattle.css_lexer.specs.UrlReading.{UrlReading}

-- in a string, with U+FFFD for NUL
pub record IsBackInString {U E : Type 0} (x : UrlReading U E) (text bytes : List ℕ) : Type 0 where
  pub plain : (q : Quote) → IsPlainInStyle x bytes (Out (InString q NoEscape))
  pub reads : style_escapes_undone bytes ≡ style_as_text text

-- so it is for what is written in a string, whatever the text
abbrev pub StringsReadBack : {U E : Type 0} → UrlReading U E → Type 0
StringsReadBack x = (text : List ℕ) → IsBackInString x text (css_string text)

-- between tokens, in words and plain text, and behind a `/`: the text with its escapes undone, or the failsafe
pub record IsBackInCode {U E : Type 0} (x : UrlReading U E) (text bytes : List ℕ) : Type 0 where
  pub plain : (s : Outside) → InRun (out_settled s) → IsPlainInStyle x bytes (Out s)
  pub reads : bytes ≡ unless_unsafe (style_escapes_undone text)

-- so it is for what is written in code, whatever the text
abbrev pub ValuesReadBackInCode : {U E : Type 0} → UrlReading U E → Type 0
ValuesReadBackInCode x = (text : List ℕ) → IsBackInCode x text (css_value text)
