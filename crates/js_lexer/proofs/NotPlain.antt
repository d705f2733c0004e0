-- Worked examples of what is not so: bytes of a hole that are not plain in their place, states that are not alike, and scripts that are told otherwise.
use Rattle.std.proofs.Common.{◌≡◌, ◌⊎◌, inl, inr, ℕ, Bool, ◌==◌, true, false, codes, List, [], ◌∷◌, ◌++◌, length, refl, sym, ap}
use Rattle.js_lexer.specs.Alike.{ScriptsAlike}
use Rattle.js_lexer.specs.Classes.{class_of}
use Rattle.js_lexer.specs.Events.{ScriptEvent, ScriptByte}
use Rattle.js_lexer.specs.Feeding.{read_script}
use Rattle.js_lexer.specs.Nodes.{script_state_after}
use Rattle.js_lexer.specs.Plain.{IsPlainInScript}
use Rattle.js_lexer.specs.Sanitizers.{script_failsafe}
use Rattle.js_lexer.specs.States.{ScriptEscape, NoEscape, AfterBackslash, Code, Word, InString, InRegexp, LineComment, BlockComment, script_start}
use Rattle.js_lexer.specs.WhiteSpace.{released, held_after}
use Rattle.js_lexer.specs.declared.sense.Sense.{Sense}
use Rattle.js_lexer.specs.declared.sense.Sense.TheVariants as sense
use Rattle.js_lexer.proofs.Literals.{no-literal}
use Rattle.js_lexer.proofs.ValueBytes.{no-value}
use Rattle.js_lexer.proofs.Told.{Named, Numeric, Punctuation, Quoted, told}

-- bytes that are no hole's behind this text
abbrev NotPlain : List ℕ → List ℕ → Type 0
NotPlain before bytes = IsPlainInScript bytes (script_state_after before script_start) → ⊥

no-true : false ≡ true → ⊥
no-true e = cc

code-string : (s : Sense) (q : Bool) (e : ScriptEscape) → Code s ≡ InString q e → ⊥
code-string s q e h = cc

escape-string : (q : Bool) → InString q AfterBackslash ≡ InString q NoEscape → ⊥
escape-string q h = cc

code-regexp : (s : Sense) (k : Bool) (e : ScriptEscape) → Code s ≡ InRegexp k e → ⊥
code-regexp s k e h = cc

brackets-regexp : (e : ScriptEscape) → InRegexp true e ≡ InRegexp false e → ⊥
brackets-regexp e h = cc

code-block : (s r : Sense) (x y : Bool) → (Code s ≡ BlockComment r x) ⊎ (Code s ≡ BlockComment r y) → ⊥
code-block s r x y (inl h) = cc
code-block s r x y (inr h) = cc

star-block : (s : Sense) → (BlockComment s true ≡ BlockComment s false) ⊎ (BlockComment s true ≡ BlockComment s false) → ⊥
star-block s (inl h) = cc
star-block s (inr h) = cc

code-line : (s r : Sense) → Code s ≡ LineComment r → ⊥
code-line s r h = cc

word-code : (w : List ℕ) (s : Sense) → Word w ≡ Code s → ⊥
word-code w s h = cc

code-word : (w : List ℕ) (s : Sense) → Code s ≡ Word w → ⊥
code-word w s h = cc

other-string : InString true NoEscape ≡ InString false NoEscape → ⊥
other-string h = cc

star-or-none : BlockComment sense.Re false ≡ BlockComment sense.Re true → ⊥
star-or-none h = cc

operator-code : Code sense.Re ≡ Code sense.Div → ⊥
operator-code h = cc

some-escape : (b : ℕ) (bs : List ℕ) → b ∷ bs ≡ [] → ⊥
some-escape b bs h = cc

-- The quote of a string ends it, and a backslash takes the quote behind the hole.
quote_in_string : NotPlain (codes "s='") (codes "'")
unfolding class_of released held_after lib.Utf8.encode
quote_in_string p = code-string _ _ _ p.leads.at

backslash_in_string : NotPlain (codes "s='") (codes "\\")
unfolding class_of released held_after lib.Utf8.encode
backslash_in_string p = escape-string _ p.leads.at

-- Bytes that end the string and begin another tell that.
out_and_in : NotPlain (codes "s='") (codes "';'")
unfolding class_of released held_after lib.Utf8.encode
out_and_in p = no-true p.tells

-- An escape that what stands behind the hole may go on with.
half_an_escape : NotPlain (codes "s='") (codes "\\u00")
unfolding class_of released held_after lib.Utf8.encode
half_an_escape p = some-escape _ _ p.leads.whole_after.none

-- and one that the hole would go on with
behind_half_an_escape : NotPlain (codes "s='\\u00") (codes "a")
unfolding class_of released held_after lib.Utf8.encode
behind_half_an_escape p = some-escape _ _ p.leads.whole_before.none

-- the end of a line
line_end_in_string : NotPlain (codes "s='") (codes "\n")
unfolding class_of released held_after lib.Utf8.encode
line_end_in_string p = code-string _ _ _ p.leads.at

-- In a regular expression a slash, a bracket, and no bytes: behind the slash that begins it, the next one would begin a comment.
slash_in_regexp : NotPlain (codes "=/a") (codes "/")
unfolding class_of released held_after lib.Utf8.encode
slash_in_regexp p = code-regexp _ _ _ p.leads.at

bracket_in_regexp : NotPlain (codes "=/a") (codes "[")
unfolding class_of released held_after lib.Utf8.encode
bracket_in_regexp p = brackets-regexp _ p.leads.at

whole_brackets : NotPlain (codes "=/a") (codes "[a]")
unfolding class_of released held_after lib.Utf8.encode
whole_brackets p = no-true p.tells

nothing_in_regexp : NotPlain (codes "=/a") []
unfolding class_of released held_after lib.Utf8.encode
nothing_in_regexp p = p.written refl

in_brackets : NotPlain (codes "=/[") (codes "a")
unfolding class_of released held_after lib.Utf8.encode
in_brackets p = p.leads.at

-- A comment's end, and half of it.
end_of_comment : NotPlain (codes "/* ") (codes "*/")
unfolding class_of released held_after lib.Utf8.encode
end_of_comment p = code-block _ _ _ _ p.leads.at

star_of_comment : NotPlain (codes "/* ") (codes "*")
unfolding class_of released held_after lib.Utf8.encode
star_of_comment p = star-block _ p.leads.at

line_end_in_comment : NotPlain (codes "// ") (codes "\n")
unfolding class_of released held_after lib.Utf8.encode
line_end_in_comment p = code-line _ _ p.leads.at

-- Bytes that leave the comment and begin another.
no-block : (codes "*/ /*" ≡ []) ⊎ (codes "*/ /*" ≡ script_failsafe) → ⊥
no-block (inl h) = cc
no-block (inr h) = cc

no-line : (codes "\n//" ≡ []) ⊎ (codes "\n//" ≡ script_failsafe) → ⊥
no-line (inl h) = cc
no-line (inr h) = cc

out_of_block_and_in : NotPlain (codes "/*") (codes "*/ /*")
unfolding class_of released held_after lib.Utf8.encode
out_of_block_and_in p = no-block p.written

out_of_line_and_in : NotPlain (codes "//") (codes "\n//")
unfolding class_of released held_after lib.Utf8.encode
out_of_line_and_in p = no-line p.written

-- In code comments, a blank behind a `-`, and the end of a line, with the tokens of a literal.
comment_and_number : NotPlain (codes "x=") (codes "/*x*/ 5 ")
unfolding class_of released held_after lib.Utf8.encode
comment_and_number p = no-value _ refl p.written.0 p.written.1

minus_apart : NotPlain (codes "x=") (codes "- 5 ")
unfolding class_of released held_after lib.Utf8.encode
minus_apart p = no-value _ refl p.written.0 p.written.1

comments_in_number : NotPlain (codes "x=") (codes "-/**/5//\n")
unfolding class_of released held_after lib.Utf8.encode
comments_in_number p = no-value _ refl p.written.0 p.written.1

-- In code a word that goes on behind the hole; an operator; a number and a minus that join what stands before.
open_word : NotPlain (codes "x=") (codes "null")
unfolding class_of released held_after lib.Utf8.encode
open_word p = word-code _ _ p.leads.at

operator : NotPlain (codes "x") (codes "+1,")
unfolding class_of released held_after lib.Utf8.encode
operator p = operator-code p.leads.at

joins_word : NotPlain (codes "return") (codes "null ")
unfolding class_of released held_after lib.Utf8.encode
joins_word p = no-literal _ refl p.tells.0 p.tells.1

joins_minus : NotPlain (codes "a-") (codes "-5 ")
unfolding class_of released held_after lib.Utf8.encode
joins_minus p = no-literal _ refl p.tells.0 p.tells.1

-- In a template literal nothing is.
in_template : NotPlain (codes "x=`a") (codes "b")
unfolding class_of released held_after lib.Utf8.encode
in_template p = p.leads.at

-- States that are not alike: a slash is another thing in them; a string, and code; two strings; an escape that is open in one of them.
abbrev NotAlike : List ℕ → List ℕ → Type 0
NotAlike one other = ScriptsAlike (script_state_after one script_start) (script_state_after other script_start) → ⊥

another_slash : NotAlike (codes "x") (codes "x=")
unfolding class_of released held_after lib.Utf8.encode
another_slash (h, inl s) = code-word _ _ s.at
another_slash (h, inr s) = no-true s.fresh

another_string : NotAlike (codes "x='") (codes "x=\"")
unfolding class_of released held_after lib.Utf8.encode
another_string (h, inl s) = other-string s.at
another_string (h, inr s) = no-true s.fresh

star_that_is_open : NotAlike (codes "/* *") (codes "/* ")
unfolding class_of released held_after lib.Utf8.encode
star_that_is_open (h, inl s) = star-or-none s.at
star_that_is_open (h, inr s) = no-true s.fresh

escape_that_is_open : NotAlike (codes "x='") (codes "x='\\u")
unfolding class_of released held_after lib.Utf8.encode
escape_that_is_open (h, s) = some-escape _ _ h.escape

brace_that_is_open : NotAlike (codes "x='") (codes "x='\\u{")
unfolding class_of released held_after lib.Utf8.encode
brace_that_is_open (h, s) = no-true (sym h.brace)

-- Scripts that tell other things: data that ends its string; a slash and a minus that join what stands before; runs of another length.
abbrev ends_in_run : List ScriptEvent → Bool
ends_in_run (e ∷ ScriptByte b ∷ t) = true
ends_in_run t = false

quote_ends : read_script (codes "s='a';alert(1)//'") ≡ told (Named (codes "s") ∷ Punctuation (codes "=") ∷ Quoted (codes "'a';alert(1)//'") ∷ []) → ⊥
unfolding class_of released held_after lib.Utf8.encode
quote_ends e = no-true (ap (λ (t : List ScriptEvent). length t == 20) e)

slash_joins : read_script (codes "a//x") ≡ told (Named (codes "a") ∷ Punctuation (codes "/") ∷ Punctuation (codes "/") ∷ Named (codes "x") ∷ []) → ⊥
unfolding class_of released held_after lib.Utf8.encode
slash_joins e = no-true (ap (λ (t : List ScriptEvent). length t == 8) e)

minus_joins : read_script (codes "a--5") ≡ told (Named (codes "a") ∷ Punctuation (codes "-") ∷ Punctuation (codes "-") ∷ Numeric (codes "5") ∷ []) → ⊥
unfolding class_of released held_after lib.Utf8.encode
minus_joins e = no-true (ap (λ (t : List ScriptEvent). length t == 8) e)

two_plus_differ : read_script (codes "+ ++") ≡ read_script (codes "++ +") → ⊥
unfolding class_of released held_after lib.Utf8.encode
two_plus_differ e = no-true (sym (ap ends_in_run e))

small_letter_differs : read_script (codes "'\\x3c'") ≡ read_script (codes "'<'") → ⊥
unfolding class_of released held_after lib.Utf8.encode
small_letter_differs e = no-true (ap (λ (t : List ScriptEvent). length t == 4) e)

space_differs : read_script (codes "return" ++ (0xC2 ∷ 0xA0 ∷ codes "/a/")) ≡ read_script (codes "return" ++ (0xC3 ∷ 0xA0 ∷ codes "/a/")) → ⊥
unfolding class_of released held_after lib.Utf8.encode
space_differs e = no-true (ap (λ (t : List ScriptEvent). length t == 15) e)
