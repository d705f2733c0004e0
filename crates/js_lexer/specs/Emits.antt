-- What a byte of a script tells, by its class. White space and comments of code tell nothing; in a template literal each byte is one of the literal.
use Rattle.std.specs.Prelude.{ℕ, suc, ◌==◌, nat_le, Bool, true, false, List, [], ◌∷◌, length, if◌then◌else◌}
use Rattle.js_lexer.specs.Events.{ScriptEvent, WordBegins, NumberBegins, PunctuatorBegins, StringBegins, RegexpBegins, TemplateBegins, ScriptByte, BracketsBegin, LineCuts, NestsTooDeep}
use Rattle.js_lexer.specs.States.{ScriptEscape, NoEscape, AfterBackslash, AfterX, AfterX3, AfterCarriageReturn, At, Code, Word, Number, Pluses, Minuses, Slash, LineComment, BlockComment, InString, InRegexp, InTemplate, TooDeep}
use Rattle.js_lexer.specs.Steps.{is_word, is_number, is_taken_in_script, is_taken_in_string, max_literals}
use Rattle.js_lexer.specs.declared.class.ScriptClass.{ScriptClass}
use Rattle.js_lexer.specs.declared.class.ScriptClass.TheVariants as class
use Rattle.js_lexer.specs.declared.sense.Sense.{Sense}
use Rattle.js_lexer.specs.declared.sense.Sense.TheVariants as sense

-- In a string, a regular expression and a literal: `\<` and `\x3C` tell a `<`, and all else tells its bytes.
abbrev pub tells_escape : ScriptEscape → ℕ → List ScriptEvent → List ScriptEvent
tells_escape NoEscape b t = if b == 92 then t else ScriptByte b ∷ t
tells_escape AfterBackslash b t = if b == 120 then t else (if b == 60 then ScriptByte 60 ∷ t else ScriptByte b ∷ ScriptByte 92 ∷ t)
tells_escape AfterX b t =
    if b == 51 then t
    else (if b == 92 then ScriptByte 120 ∷ ScriptByte 92 ∷ t else ScriptByte b ∷ ScriptByte 120 ∷ ScriptByte 92 ∷ t)
tells_escape AfterX3 b t =
    if b == 67 then ScriptByte 60 ∷ t
    else (if b == 92 then ScriptByte 51 ∷ ScriptByte 120 ∷ ScriptByte 92 ∷ t
    else ScriptByte b ∷ ScriptByte 51 ∷ ScriptByte 120 ∷ ScriptByte 92 ∷ t)
tells_escape AfterCarriageReturn b t = if b == 92 then t else ScriptByte b ∷ t

-- what is held back of it, where the string ends in it
abbrev pub tells_held_escape : ScriptEscape → List ScriptEvent → List ScriptEvent
tells_held_escape NoEscape t = t
tells_held_escape AfterBackslash t = ScriptByte 92 ∷ t
tells_held_escape AfterX t = ScriptByte 120 ∷ ScriptByte 92 ∷ t
tells_held_escape AfterX3 t = ScriptByte 51 ∷ ScriptByte 120 ∷ ScriptByte 92 ∷ t
tells_held_escape AfterCarriageReturn t = t

-- a byte of code that goes on with no token; a slash is held back
abbrev pub tells_code : ScriptClass → ℕ → List ScriptEvent → List ScriptEvent
tells_code class.Space b t = t
tells_code class.LineEnd b t = t
tells_code class.Solidus b t = t
tells_code class.Letter b t = ScriptByte b ∷ WordBegins ∷ t
tells_code class.Dollar b t = ScriptByte b ∷ WordBegins ∷ t
tells_code class.Backslash b t = ScriptByte b ∷ WordBegins ∷ t
tells_code class.Digit b t = ScriptByte b ∷ NumberBegins ∷ t
tells_code class.QuotationMark b t = ScriptByte b ∷ StringBegins ∷ t
tells_code class.Apostrophe b t = ScriptByte b ∷ StringBegins ∷ t
tells_code class.GraveAccent b t = ScriptByte b ∷ TemplateBegins ∷ t
tells_code c b t = ScriptByte b ∷ PunctuatorBegins ∷ t

-- words, numbers and runs: the first argument says whether the byte goes on with it
abbrev pub tells_more : Bool → ScriptClass → ℕ → List ScriptEvent → List ScriptEvent
tells_more true c b t = ScriptByte b ∷ t
tells_more false c b t = tells_code c b t

abbrev pub is_plus : ScriptClass → Bool
is_plus class.Plus = true
is_plus c = false

abbrev pub is_minus : ScriptClass → Bool
is_minus class.Minus = true
is_minus c = false

abbrev pub tells_string : Bool → ScriptEscape → ScriptClass → ℕ → List ScriptEvent → List ScriptEvent
tells_string false e class.LineEnd b t = LineCuts ∷ tells_held_escape e t
tells_string taken e c b t = tells_escape e b t

abbrev pub tells_regexp : Bool → Bool → ScriptEscape → ScriptClass → ℕ → List ScriptEvent → List ScriptEvent
tells_regexp taken k e class.LineEnd b t = LineCuts ∷ tells_held_escape e t
tells_regexp false false e class.OpenBracket b t = BracketsBegin ∷ tells_escape e b t
tells_regexp taken k e c b t = tells_escape e b t

abbrev pub tells_slash : Sense → ScriptClass → ℕ → List ScriptEvent → List ScriptEvent
tells_slash s class.Solidus b t = t
tells_slash s class.Asterisk b t = t
tells_slash sense.Re c b t = tells_regexp false false NoEscape c b (ScriptByte 47 ∷ RegexpBegins ∷ t)
tells_slash s c b t = tells_code c b (ScriptByte 47 ∷ PunctuatorBegins ∷ t)

-- outside of template literals
abbrev pub tells_token : At → ScriptClass → ℕ → List ScriptEvent → List ScriptEvent
tells_token (Code s) c b t = tells_code c b t
tells_token (Word w) c b t = tells_more (is_word c) c b t
tells_token Number c b t = tells_more (is_number c) c b t
tells_token (Pluses odd) c b t = tells_more (is_plus c) c b t
tells_token (Minuses odd) c b t = tells_more (is_minus c) c b t
tells_token (Slash s) c b t = tells_slash s c b t
tells_token (LineComment s) c b t = t
tells_token (BlockComment s star) c b t = t
tells_token (InString q e) c b t = tells_string (is_taken_in_string e b) e c b t
tells_token (InRegexp k e) c b t = tells_regexp (is_taken_in_script e) k e c b t
tells_token (InTemplate e d) c b t = tells_escape e b t
tells_token TooDeep c b t = ScriptByte b ∷ t

-- In a template literal. A backquote in its code may be one too many: the first argument says that it is not.
abbrev pub tells_inner_code : Bool → ScriptClass → ℕ → List ScriptEvent → List ScriptEvent
tells_inner_code false class.GraveAccent b t = NestsTooDeep ∷ ScriptByte b ∷ t
tells_inner_code fits c b t = ScriptByte b ∷ t

abbrev pub tells_inner_slash : Bool → Sense → ScriptClass → ℕ → List ScriptEvent → List ScriptEvent
tells_inner_slash fits s class.Solidus b t = ScriptByte b ∷ t
tells_inner_slash fits s class.Asterisk b t = ScriptByte b ∷ t
tells_inner_slash fits sense.Re c b t = tells_escape NoEscape b t
tells_inner_slash fits s c b t = tells_inner_code fits c b t

abbrev pub tells_inside : Bool → At → ScriptClass → ℕ → List ScriptEvent → List ScriptEvent
tells_inside fits (Code s) c b t = tells_inner_code fits c b t
tells_inside fits (Word w) c b t = tells_inner_code fits c b t
tells_inside fits Number c b t = tells_inner_code fits c b t
tells_inside fits (Pluses odd) c b t = tells_inner_code fits c b t
tells_inside fits (Minuses odd) c b t = tells_inner_code fits c b t
tells_inside fits (Slash s) c b t = tells_inner_slash fits s c b t
tells_inside fits (LineComment s) c b t = ScriptByte b ∷ t
tells_inside fits (BlockComment s star) c b t = ScriptByte b ∷ t
tells_inside fits (InString q e) c b t = tells_escape e b t
tells_inside fits (InRegexp k e) c b t = tells_escape e b t
tells_inside fits (InTemplate e d) c b t = tells_escape e b t
tells_inside fits TooDeep c b t = ScriptByte b ∷ t

abbrev pub tells : List ℕ → At → ScriptClass → ℕ → List ScriptEvent → List ScriptEvent
tells [] a c b t = tells_token a c b t
tells (n ∷ fs) a c b t = tells_inside (nat_le (suc (length (n ∷ fs))) max_literals) a c b t
