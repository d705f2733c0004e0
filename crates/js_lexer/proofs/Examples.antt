-- Worked examples of how scripts are read, by computing.
use Rattle.std.proofs.Common.{◌≡◌, ℕ, false, codes, List, [], ◌∷◌, ◌++◌, refl}
use Rattle.js_lexer.specs.Classes.{class_of}
use Rattle.js_lexer.specs.Feeding.{read_script}
use Rattle.js_lexer.specs.Nodes.{script_state_after}
use Rattle.js_lexer.specs.States.{NoEscape, At, InTemplate, TooDeep, script_start}
use Rattle.js_lexer.specs.WhiteSpace.{released, held_after}
use Rattle.js_lexer.proofs.Told.{Named, Numeric, Punctuation, Quoted, CutString, Expression, CutExpression, WithBrackets, Template, told}

abbrev at_after : List ℕ → At
at_after bytes = (script_state_after bytes script_start).at

-- what a slash is
assignment : read_script (codes "x=/a/") ≡ told (Named (codes "x") ∷ Punctuation (codes "=") ∷ Expression (codes "/a/") ∷ [])
unfolding class_of released held_after lib.Utf8.encode
assignment = refl

division : read_script (codes "x /2") ≡ told (Named (codes "x") ∷ Punctuation (codes "/") ∷ Numeric (codes "2") ∷ [])
unfolding class_of released held_after lib.Utf8.encode
division = refl

after_return : read_script (codes "return/a[/]/g") ≡ told (Named (codes "return") ∷ WithBrackets (codes "/a[") (codes "/]/") ∷ Named (codes "g") ∷ [])
unfolding class_of released held_after lib.Utf8.encode
after_return = refl

-- behind `)` a slash divides, also behind that of an `if`: the profile reads tokens, and no grammar
after_parenthesis : read_script (codes "(a)/b/c") ≡ told (Punctuation (codes "(") ∷ Named (codes "a") ∷ Punctuation (codes ")") ∷ Punctuation (codes "/") ∷ Named (codes "b") ∷ Punctuation (codes "/") ∷ Named (codes "c") ∷ [])
unfolding class_of released held_after lib.Utf8.encode
after_parenthesis = refl

-- a page divides behind `}` and behind words that are names in some places; a template is refused there
after_brace : read_script (codes "}/b/c") ≡ told (Punctuation (codes "}") ∷ Punctuation (codes "/") ∷ Named (codes "b") ∷ Punctuation (codes "/") ∷ Named (codes "c") ∷ [])
unfolding class_of released held_after lib.Utf8.encode
after_brace = refl

after_await : read_script (codes "await /b/c") ≡ told (Named (codes "await") ∷ Punctuation (codes "/") ∷ Named (codes "b") ∷ Punctuation (codes "/") ∷ Named (codes "c") ∷ [])
unfolding class_of released held_after lib.Utf8.encode
after_await = refl

-- runs of `+` and `-` are one token each, and the sense goes by their parity
plus_and_two : read_script (codes "a+ ++b") ≡ told (Named (codes "a") ∷ Punctuation (codes "+") ∷ Punctuation (codes "++") ∷ Named (codes "b") ∷ [])
unfolding class_of released held_after lib.Utf8.encode
plus_and_two = refl

three_minus : read_script (codes "a---/b/") ≡ told (Named (codes "a") ∷ Punctuation (codes "---") ∷ Expression (codes "/b/") ∷ [])
unfolding class_of released held_after lib.Utf8.encode
three_minus = refl

two_plus : read_script (codes "a++/b") ≡ told (Named (codes "a") ∷ Punctuation (codes "++") ∷ Punctuation (codes "/") ∷ Named (codes "b") ∷ [])
unfolding class_of released held_after lib.Utf8.encode
two_plus = refl

plus_before_two : read_script (codes "a+ ++/b/") ≡ told (Named (codes "a") ∷ Punctuation (codes "+") ∷ Punctuation (codes "++") ∷ Punctuation (codes "/") ∷ Named (codes "b") ∷ Punctuation (codes "/") ∷ [])
unfolding class_of released held_after lib.Utf8.encode
plus_before_two = refl

numbers : read_script (codes ".5+1.5e3") ≡ told (Punctuation (codes ".") ∷ Numeric (codes "5") ∷ Punctuation (codes "+") ∷ Numeric (codes "1.5e3") ∷ [])
unfolding class_of released held_after lib.Utf8.encode
numbers = refl

-- white space past ASCII ends a word: U+00A0, and the byte order mark
no_break_space : read_script (codes "return" ++ (0xC2 ∷ 0xA0 ∷ codes "/\"/.x")) ≡ told (Named (codes "return") ∷ Expression (codes "/\"/") ∷ Punctuation (codes ".") ∷ Named (codes "x") ∷ [])
unfolding class_of released held_after lib.Utf8.encode
no_break_space = refl

byte_order_mark : read_script (codes "return" ++ (0xEF ∷ 0xBB ∷ 0xBF ∷ codes "/a/")) ≡ told (Named (codes "return") ∷ Expression (codes "/a/") ∷ [])
unfolding class_of released held_after lib.Utf8.encode
byte_order_mark = refl

-- a letter past ASCII does not, nor does half of a character
letter_past_ascii : read_script (codes "return" ++ (0xC3 ∷ 0xA9 ∷ codes "/a/")) ≡ told (Named (codes "return" ++ (0xC3 ∷ 0xA9 ∷ [])) ∷ Punctuation (codes "/") ∷ Named (codes "a") ∷ Punctuation (codes "/") ∷ [])
unfolding class_of released held_after lib.Utf8.encode
letter_past_ascii = refl

half_a_space : read_script (codes "in" ++ (0xC2 ∷ codes "/a/")) ≡ told (Named (codes "in" ++ (0xC2 ∷ [])) ∷ Punctuation (codes "/") ∷ Named (codes "a") ∷ Punctuation (codes "/") ∷ [])
unfolding class_of released held_after lib.Utf8.encode
half_a_space = refl

-- a line separator ends a comment, but no string
line_separator : read_script (codes "a// b" ++ (0xE2 ∷ 0x80 ∷ 0xA8 ∷ codes "c")) ≡ told (Named (codes "a") ∷ Named (codes "c") ∷ [])
unfolding class_of released held_after lib.Utf8.encode
line_separator = refl

line_separator_in_string : read_script (codes "'a" ++ (0xE2 ∷ 0x80 ∷ 0xA8 ∷ codes "b'")) ≡ told (Quoted (codes "'a" ++ (0xE2 ∷ 0x80 ∷ 0xA8 ∷ codes "b'")) ∷ [])
unfolding class_of released held_after lib.Utf8.encode
line_separator_in_string = refl

-- comments tell nothing
comment_keeps_sense : read_script (codes "x/* a */ /b") ≡ told (Named (codes "x") ∷ Punctuation (codes "/") ∷ Named (codes "b") ∷ [])
unfolding class_of released held_after lib.Utf8.encode
comment_keeps_sense = refl

opening_closes_nothing : read_script (codes "/*/ a */b") ≡ told (Named (codes "b") ∷ [])
unfolding class_of released held_after lib.Utf8.encode
opening_closes_nothing = refl

-- `\<` and `\x3C` are a `<`
escaped_less : read_script (codes "'\\<script'") ≡ told (Quoted (codes "'<script'") ∷ [])
unfolding class_of released held_after lib.Utf8.encode
escaped_less = refl

numbered_less : read_script (codes "'\\x3Cscript'") ≡ told (Quoted (codes "'<script'") ∷ [])
unfolding class_of released held_after lib.Utf8.encode
numbered_less = refl

less_in_regexp : read_script (codes "=/\\x3C\\</") ≡ told (Punctuation (codes "=") ∷ Expression (codes "/<</") ∷ [])
unfolding class_of released held_after lib.Utf8.encode
less_in_regexp = refl

-- behind two backslashes it is none; and `\x3c` is told as it stands
two_backslashes : read_script (codes "'\\\\x3C'") ≡ told (Quoted (codes "'\\\\x3C'") ∷ [])
unfolding class_of released held_after lib.Utf8.encode
two_backslashes = refl

small_letter : read_script (codes "'\\x3c'") ≡ told (Quoted (codes "'\\x3c'") ∷ [])
unfolding class_of released held_after lib.Utf8.encode
small_letter = refl

-- HTML in a string is bytes of the string
end_tag_in_string : read_script (codes "s=\"</script>\"") ≡ told (Named (codes "s") ∷ Punctuation (codes "=") ∷ Quoted (codes "\"</script>\"") ∷ [])
unfolding class_of released held_after lib.Utf8.encode
end_tag_in_string = refl

comment_in_string : read_script (codes "'<!-- -->'") ≡ told (Quoted (codes "'<!-- -->'") ∷ [])
unfolding class_of released held_after lib.Utf8.encode
comment_in_string = refl

-- the end of a line cuts a string, unless a backslash takes it; a regular expression always
cut_string : read_script (codes "'a\nb") ≡ told (CutString (codes "'a") ∷ Named (codes "b") ∷ [])
unfolding class_of released held_after lib.Utf8.encode
cut_string = refl

taken_line : read_script (codes "'a\\\nb'") ≡ told (Quoted (codes "'a\\\nb'") ∷ [])
unfolding class_of released held_after lib.Utf8.encode
taken_line = refl

taken_return_and_line : read_script (codes "'a\\" ++ (13 ∷ 10 ∷ codes "b'")) ≡ told (Quoted (codes "'a\\" ++ (13 ∷ 10 ∷ codes "b'")) ∷ [])
unfolding class_of released held_after lib.Utf8.encode
taken_return_and_line = refl

cut_regexp : read_script (codes "=/a\\\nb") ≡ told (Punctuation (codes "=") ∷ CutExpression (codes "/a\\") ∷ Named (codes "b") ∷ [])
unfolding class_of released held_after lib.Utf8.encode
cut_regexp = refl

-- a template literal is one token with its code
template : read_script (codes "`a${ {b:'}'} }c`/d") ≡ told (Template (codes "`a${ {b:'}'} }c`") ∷ Punctuation (codes "/") ∷ Named (codes "d") ∷ [])
unfolding class_of released held_after lib.Utf8.encode
template = refl

regexp_in_template : read_script (codes "`${/`/}`") ≡ told (Template (codes "`${/`/}`") ∷ [])
unfolding class_of released held_after lib.Utf8.encode
regexp_in_template = refl

less_in_template : read_script (codes "`\\x3C${'\\<'}`") ≡ told (Template (codes "`<${'<'}`") ∷ [])
unfolding class_of released held_after lib.Utf8.encode
less_in_template = refl

-- a string that a line cuts in its code just ends
cut_string_in_template : read_script (codes "`${'a\n}`") ≡ told (Template (codes "`${'a\n}`") ∷ [])
unfolding class_of released held_after lib.Utf8.encode
cut_string_in_template = refl

-- sixteen literals may be open, and a seventeenth is too deep
sixteen_literals : at_after (codes "`${`${`${`${`${`${`${`${`${`${`${`${`${`${`${`") ≡ InTemplate NoEscape false
unfolding class_of released held_after lib.Utf8.encode
sixteen_literals = refl

seventeen_literals : at_after (codes "`${`${`${`${`${`${`${`${`${`${`${`${`${`${`${`${`") ≡ TooDeep
unfolding class_of released held_after lib.Utf8.encode
seventeen_literals = refl
