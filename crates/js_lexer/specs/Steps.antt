-- Where a byte of a script leads, by its class. In a page and in a template alike: after a `}` a slash divides, and a template refuses it.
use Rattle.std.specs.Prelude.{ℕ, zero, suc, ◌==◌, nat_le, not, Bool, true, false, List, [], ◌∷◌, ◌++◌, length, if◌then◌else◌}
use Rattle.js_lexer.specs.States.{ScriptEscape, NoEscape, AfterBackslash, AfterX, AfterX3, AfterCarriageReturn, At, Code, Word, Number, Pluses, Minuses, Slash, LineComment, BlockComment, InString, InRegexp, InTemplate, TooDeep, ScriptPoint, point}
use Rattle.js_lexer.specs.Words.{sense_after}
use Rattle.js_lexer.specs.declared.class.ScriptClass.{ScriptClass}
use Rattle.js_lexer.specs.declared.class.ScriptClass.TheVariants as class
use Rattle.js_lexer.specs.declared.sense.Sense.{Sense}
use Rattle.js_lexer.specs.declared.sense.Sense.TheVariants as sense

-- at most so many template literals are open, one in the code of the other
abbrev pub max_literals : ℕ
max_literals = 16

-- Section 12.7: the characters of words. A number goes on with them and with dots.
abbrev pub is_word : ScriptClass → Bool
is_word class.Letter = true
is_word class.Digit = true
is_word class.Dollar = true
is_word class.Backslash = true
is_word c = false

abbrev pub is_number : ScriptClass → Bool
is_number class.Dot = true
is_number c = is_word c

-- after a run of `+` or `-`: an odd one ends in an operator before an expression
abbrev pub sense_if_odd : Bool → Sense
sense_if_odd true = sense.Re
sense_if_odd false = sense.Div

-- Section 12.9.6: a backquote in code begins a literal; in the innermost literal's code a brace opens, or closes, or the last one ends the code.
abbrev pub literal_opens : Bool → List ℕ → ScriptPoint
literal_opens true fs = point (0 ∷ fs) (InTemplate NoEscape false)
literal_opens false fs = point fs TooDeep

abbrev pub brace_opens : List ℕ → List ℕ
brace_opens [] = []
brace_opens (n ∷ fs) = suc n ∷ fs

abbrev pub brace_closes : List ℕ → ScriptPoint
brace_closes [] = point [] (Code sense.Brace)
brace_closes (zero ∷ fs) = point (0 ∷ fs) (InTemplate NoEscape false)
brace_closes (suc n ∷ fs) = point (n ∷ fs) (Code sense.Brace)

abbrev pub literal_ends : List ℕ → ScriptPoint
literal_ends [] = point [] (Code sense.Div)
literal_ends (n ∷ fs) = point fs (Code sense.Div)

-- a byte of code that goes on with no token, by what a slash is there
abbrev pub next_code : Sense → ScriptClass → ℕ → List ℕ → ScriptPoint
next_code s class.Space b fs = point fs (Code s)
next_code s class.LineEnd b fs = point fs (Code s)
next_code s class.Letter b fs = point fs (Word (b ∷ []))
next_code s class.Dollar b fs = point fs (Word (b ∷ []))
next_code s class.Backslash b fs = point fs (Word (b ∷ []))
next_code s class.Digit b fs = point fs Number
next_code s class.QuotationMark b fs = point fs (InString true NoEscape)
next_code s class.Apostrophe b fs = point fs (InString false NoEscape)
next_code s class.GraveAccent b fs = literal_opens (nat_le (suc (length fs)) max_literals) fs
next_code s class.Solidus b fs = point fs (Slash s)
next_code s class.Plus b fs = point fs (Pluses true)
next_code s class.Minus b fs = point fs (Minuses true)
next_code s class.OpenBrace b fs = point (brace_opens fs) (Code sense.Re)
next_code s class.CloseBrace b fs = brace_closes fs
next_code s class.OpenBracket b fs = point fs (Code sense.Re)
next_code s class.Asterisk b fs = point fs (Code sense.Re)
next_code s class.LessThan b fs = point fs (Code sense.Re)
next_code s class.GreaterThan b fs = point fs (Code sense.Re)
next_code s class.ExclamationMark b fs = point fs (Code sense.Re)
next_code s class.Opens b fs = point fs (Code sense.Re)
next_code s class.CloseBracket b fs = point fs (Code sense.Div)
next_code s class.Dot b fs = point fs (Code sense.Div)
next_code s class.NumberSign b fs = point fs (Code sense.Div)
next_code s class.Closes b fs = point fs (Code sense.Div)

-- what is held back after a byte of a string, a regular expression or a literal
abbrev pub next_escape : ScriptEscape → ℕ → ScriptEscape
next_escape NoEscape b = if b == 92 then AfterBackslash else NoEscape
next_escape AfterBackslash b = if b == 120 then AfterX else (if b == 13 then AfterCarriageReturn else NoEscape)
next_escape AfterX b = if b == 51 then AfterX3 else (if b == 92 then AfterBackslash else NoEscape)
next_escape AfterX3 b = if b == 92 then AfterBackslash else NoEscape
next_escape AfterCarriageReturn b = if b == 92 then AfterBackslash else NoEscape

-- A backslash takes the next character with it; in a string a line feed too that stands behind the carriage return which it has taken.
abbrev pub is_taken_in_script : ScriptEscape → Bool
is_taken_in_script AfterBackslash = true
is_taken_in_script e = false

abbrev pub is_taken_in_string : ScriptEscape → ℕ → Bool
is_taken_in_string AfterBackslash b = true
is_taken_in_string AfterCarriageReturn b = b == 10
is_taken_in_string e b = false

-- Section 12.9.4: a string ends at its quote. The end of a line that no backslash takes cuts it.
abbrev pub next_script_string : Bool → Bool → ScriptEscape → ScriptClass → ℕ → List ℕ → ScriptPoint
next_script_string true q e c b fs = point fs (InString q (next_escape e b))
next_script_string false true e class.QuotationMark b fs = point fs (Code sense.Div)
next_script_string false false e class.Apostrophe b fs = point fs (Code sense.Div)
next_script_string false q e class.LineEnd b fs = point fs (Code sense.Div)
next_script_string false q e c b fs = point fs (InString q (next_escape e b))

-- Section 12.9.5: a regular expression ends at a slash outside `[ ]`. The end of a line cuts it, behind a backslash too.
abbrev pub next_regexp : Bool → Bool → ScriptEscape → ScriptClass → ℕ → List ℕ → ScriptPoint
next_regexp taken k e class.LineEnd b fs = point fs (Code sense.Div)
next_regexp true k e c b fs = point fs (InRegexp k (next_escape e b))
next_regexp false false e class.Solidus b fs = point fs (Code sense.Div)
next_regexp false k e class.OpenBracket b fs = point fs (InRegexp true (next_escape e b))
next_regexp false k e class.CloseBracket b fs = point fs (InRegexp false (next_escape e b))
next_regexp false k e c b fs = point fs (InRegexp k (next_escape e b))

-- Section 12.9.6: a template literal ends at its backquote, and `${` begins code in it.
abbrev pub next_template : Bool → ScriptEscape → Bool → ScriptClass → ℕ → List ℕ → ScriptPoint
next_template true e d c b fs = point fs (InTemplate (next_escape e b) false)
next_template false e d class.GraveAccent b fs = literal_ends fs
next_template false e true class.OpenBrace b fs = point fs (Code sense.Re)
next_template false e d class.Dollar b fs = point fs (InTemplate (next_escape e b) true)
next_template false e d c b fs = point fs (InTemplate (next_escape e b) false)

-- Section 12.4: a second slash, or a `*`, makes a comment of a slash. The `*` that opens a comment closes none.
abbrev pub next_slash : Sense → ScriptClass → ℕ → List ℕ → ScriptPoint
next_slash s class.Solidus b fs = point fs (LineComment s)
next_slash s class.Asterisk b fs = point fs (BlockComment s false)
next_slash sense.Re c b fs = next_regexp false false NoEscape c b fs
next_slash s c b fs = next_code sense.Re c b fs

abbrev pub next_line : Sense → ScriptClass → List ℕ → ScriptPoint
next_line s class.LineEnd fs = point fs (Code s)
next_line s c fs = point fs (LineComment s)

abbrev pub next_block : Sense → Bool → ScriptClass → List ℕ → ScriptPoint
next_block s true class.Solidus fs = point fs (Code s)
next_block s star class.Asterisk fs = point fs (BlockComment s true)
next_block s star c fs = point fs (BlockComment s false)

-- words, numbers and runs: the first argument says whether the byte goes on with it
abbrev pub next_script_word : Bool → List ℕ → ScriptClass → ℕ → List ℕ → ScriptPoint
next_script_word true w c b fs = point fs (Word (w ++ b ∷ []))
next_script_word false w c b fs = next_code (sense_after w) c b fs

abbrev pub next_script_number : Bool → ScriptClass → ℕ → List ℕ → ScriptPoint
next_script_number true c b fs = point fs Number
next_script_number false c b fs = next_code sense.Div c b fs

abbrev pub next_pluses : Bool → ScriptClass → ℕ → List ℕ → ScriptPoint
next_pluses odd class.Plus b fs = point fs (Pluses (not odd))
next_pluses odd c b fs = next_code (sense_if_odd odd) c b fs

abbrev pub next_minuses : Bool → ScriptClass → ℕ → List ℕ → ScriptPoint
next_minuses odd class.Minus b fs = point fs (Minuses (not odd))
next_minuses odd c b fs = next_code (sense_if_odd odd) c b fs

abbrev pub script_next : List ℕ → At → ScriptClass → ℕ → ScriptPoint
script_next fs (Code s) c b = next_code s c b fs
script_next fs (Word w) c b = next_script_word (is_word c) w c b fs
script_next fs Number c b = next_script_number (is_number c) c b fs
script_next fs (Pluses odd) c b = next_pluses odd c b fs
script_next fs (Minuses odd) c b = next_minuses odd c b fs
script_next fs (Slash s) c b = next_slash s c b fs
script_next fs (LineComment s) c b = next_line s c fs
script_next fs (BlockComment s star) c b = next_block s star c fs
script_next fs (InString q e) c b = next_script_string (is_taken_in_string e b) q e c b fs
script_next fs (InRegexp k e) c b = next_regexp (is_taken_in_script e) k e c b fs
script_next fs (InTemplate e d) c b = next_template (is_taken_in_script e) e d c b fs
script_next fs TooDeep c b = point fs TooDeep
