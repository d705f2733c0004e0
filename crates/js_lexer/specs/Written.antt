-- What is written of a template's text in a script element: no comment, and no `<` in the text of a token with which HTML would read something
-- (HTML Standard, sections 13.2.5.15 to 13.2.5.18; section 4.12.1.3, "Restrictions for contents of script elements").
use Rattle.std.specs.Prelude.{ℕ, ◌==◌, ◌||◌, ◌&&◌, nat_eq, not, Bool, true, false, bytes_eq, codes, List, [], ◌∷◌, ◌++◌, if◌then◌else◌}
use Rattle.std.specs.List.{list_any, starts_with}
use Rattle.js_lexer.specs.Classes.{class_of}
use Rattle.js_lexer.specs.Elements.{in_lower_case}
use Rattle.js_lexer.specs.Feeding.{tells_white_apart, read_at, feed_script}
use Rattle.js_lexer.specs.States.{At, Slash, LineComment, BlockComment, InString, InRegexp, InTemplate, PartLines, HasLine, NoLineYet, ScriptState}
use Rattle.js_lexer.specs.Steps.{is_taken_in_script}
use Rattle.js_lexer.specs.Trails.{is_empty, line_ends}
use Rattle.js_lexer.specs.WhiteSpace.{ClassedByte}
use Rattle.js_lexer.specs.declared.class.ScriptClass.{ScriptClass}
use Rattle.js_lexer.specs.declared.class.ScriptClass.TheVariants as class
use Rattle.js_lexer.specs.declared.sense.Sense.TheVariants as sense

-- The words, in any case. Their `<`, in a string, a regular expression or the characters of a template literal, is written `\x3C`; so it is where the
-- node ends within such a word. A backslash that escapes the `<` is replaced with it.
abbrev pub hidden_words : List (List ℕ)
hidden_words = codes "<script" ∷ codes "</script" ∷ codes "<!--" ∷ []

abbrev pub is_hidden_in_script : List ℕ → Bool
is_hidden_in_script bytes = list_any (bytes_eq (in_lower_case bytes)) hidden_words

abbrev pub begins_hidden : List ℕ → Bool
begins_hidden bytes = list_any (λ word. starts_with nat_eq word (in_lower_case bytes)) hidden_words

-- The part of a block comment that stands in one node is written as one space, or as a line feed where the end of a line is in it (ECMA-262, section
-- 12.4). Of a line comment nothing is written.
abbrev pub begins_with_line_end : List ℕ → Bool
begins_with_line_end bytes = list_any (λ end. starts_with nat_eq bytes end) line_ends

abbrev pub has_line_end : List ℕ → Bool
has_line_end [] = false
has_line_end (b ∷ bs) = begins_with_line_end (b ∷ bs) || has_line_end bs

abbrev pub blank_for : List ℕ → List ℕ
blank_for part = if has_line_end part then 10 ∷ [] else 32 ∷ []

-- A word as it is written, without and with its `<` behind a backslash.
abbrev pub with_escape : List ℕ → List ℕ
with_escape [] = []
with_escape (b ∷ bs) = codes "\\x3C" ++ bs

abbrev pub escaped_less : (taken : Bool) → List ℕ
escaped_less true = codes "x3C"
escaped_less false = codes "\\x3C"

-- A `<` here is text of a token. Behind the slash of a regular expression it is the first byte of one.
abbrev pub is_text : At → Bool
is_text (InString q e) = true
is_text (InRegexp k e) = true
is_text (InTemplate e d) = true
is_text (Slash sense.Re) = true
is_text a = false

abbrev pub is_taken_at : At → Bool
is_taken_at (InString q e) = is_taken_in_script e
is_taken_at (InRegexp k e) = is_taken_in_script e
is_taken_at (InTemplate e d) = is_taken_in_script e
is_taken_at a = false

-- Comments and slashes outside of template literals; a comment in the code of a literal is part of the literal.
abbrev pub is_slash : At → Bool
is_slash (Slash s) = true
is_slash a = false

abbrev pub is_line : At → Bool
is_line (LineComment s) = true
is_line a = false

abbrev pub is_block : At → Bool
is_block (BlockComment s star) = true
is_block a = false

abbrev pub is_outside : (At → Bool) → ScriptState → Bool
is_outside is s = is_empty s.literals && is s.at

-- The end of the line, which ends a line comment, is none of it.
abbrev pub only_line_end : ScriptClass → ℕ → List ℕ
only_line_end class.LineEnd b = b ∷ []
only_line_end c b = []

abbrev pub only_line_ends : List ClassedByte → List ℕ
only_line_ends [] = []
only_line_ends (x ∷ xs) = only_line_end x.class x.byte ++ only_line_ends xs

-- What is written of a byte that the script reads, by the states before and behind it. A slash waits until it is known to begin no comment: until the next
-- byte, or the end of the node. In a comment nothing is written of its bytes.
abbrev pub blank_of : PartLines → List ℕ
blank_of HasLine = 10 ∷ []
blank_of (NoLineYet begun) = 32 ∷ []

abbrev pub waiting_slash : ScriptState → List ℕ
waiting_slash v = if is_outside is_slash v && (is_empty v.held && not v.trail.fresh) then codes "/" else []

abbrev pub waits_behind : ScriptState → ℕ → Bool
waits_behind after b = (b == 47 && is_outside is_slash after) || (is_outside is_line after || is_outside is_block after)

abbrev pub written_between : ScriptState → ScriptState → ℕ → List ℕ
written_between v after b =
    if is_outside is_block v then (if is_outside is_block after then [] else blank_of v.trail.lines)
    else (if is_outside is_line v then only_line_ends (read_at (tells_white_apart v.at) v.held (class_of b) b)
    else (if waits_behind after b then [] else waiting_slash v ++ b ∷ []))

abbrev pub script_written : ScriptState → ℕ → List ℕ
script_written v b = written_between v (feed_script v b) b

-- at the end of a node, and where the end tag ends the script: a slash, or the part of a comment
abbrev pub script_written_at_cut : ScriptState → List ℕ
script_written_at_cut v = if is_outside is_block v then blank_of v.trail.lines else waiting_slash v

-- Of one of the words, or of the beginning of one at the end of a node, in the text of a token: a backslash that escapes its `<` has been written.
abbrev pub script_hides : ScriptState → List ℕ → List ℕ
script_hides v [] = []
script_hides v (b ∷ bs) = waiting_slash v ++ (escaped_less (is_taken_at v.at) ++ bs)
