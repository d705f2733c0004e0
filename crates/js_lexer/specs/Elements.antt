-- A script as the content of the element `script`: where an end tag may end it (HTML Standard, sections 13.2.5.4 and 13.2.5.15 to 13.2.5.17). HTML reads
-- the tag (`Contents.antt` of `place_core`): it holds a `<` back, and the bytes behind it, until it is known to begin no end tag; then the script reads them.
use Rattle.std.specs.Prelude.{ℕ, ◌&&◌, Bool, true, false, List, [], ◌∷◌}
use Rattle.std.specs.Char.{to_ascii_lowercase}
use Rattle.js_lexer.specs.States.{At, Code, Word, Number, Pluses, Minuses, Slash, LineComment, BlockComment, ScriptState}
use Rattle.js_lexer.specs.Trails.{is_empty}
use Rattle.js_lexer.specs.declared.sense.Sense.TheVariants as sense

abbrev pub in_lower_case : List ℕ → List ℕ
in_lower_case [] = []
in_lower_case (b ∷ bs) = to_ascii_lowercase b ∷ in_lower_case bs

-- In a page an end tag ends the element wherever it stands. In the text of a template it does so in code and in comments. In a string, a regular
-- expression and a template literal, with the code in it, it is text of that token.
abbrev pub is_code_or_comment : At → Bool
is_code_or_comment (Code s) = true
is_code_or_comment (Word w) = true
is_code_or_comment Number = true
is_code_or_comment (Pluses odd) = true
is_code_or_comment (Minuses odd) = true
is_code_or_comment (Slash sense.Re) = false
is_code_or_comment (Slash s) = true
is_code_or_comment (LineComment s) = true
is_code_or_comment (BlockComment s star) = true
is_code_or_comment a = false

abbrev pub script_may_end : ScriptState → Bool
script_may_end s = is_empty s.literals && is_code_or_comment s.at
