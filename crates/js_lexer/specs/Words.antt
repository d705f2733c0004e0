-- Words after which a slash does not divide (ECMA-262, section 12.7.2).
use Rattle.std.specs.Prelude.{ℕ, Bool, true, false, bytes_eq, codes, List, [], ◌∷◌, if◌then◌else◌}
use Rattle.js_lexer.specs.declared.sense.Sense.{Sense}
use Rattle.js_lexer.specs.declared.sense.Sense.TheVariants as sense

-- words that an expression or a statement follows: a slash after them begins a regular expression
abbrev pub operator_words : List (List ℕ)
operator_words =
    codes "break" ∷ codes "case" ∷ codes "continue" ∷ codes "delete" ∷ codes "do" ∷ codes "else" ∷ codes "finally" ∷ codes "in"
    ∷ codes "instanceof" ∷ codes "return" ∷ codes "throw" ∷ codes "try" ∷ codes "typeof" ∷ codes "void" ∷ []

-- words that are names in some places: what a slash after them is, tokens alone cannot tell
abbrev pub unclear_words : List (List ℕ)
unclear_words = codes "await" ∷ codes "debugger" ∷ codes "default" ∷ codes "new" ∷ codes "of" ∷ codes "yield" ∷ []

abbrev pub is_among_words : List (List ℕ) → List ℕ → Bool
is_among_words [] word = false
is_among_words (other ∷ words) word = if bytes_eq word other then true else is_among_words words word

-- what a slash would be after a word
abbrev pub sense_after : List ℕ → Sense
sense_after word =
    if is_among_words operator_words word then sense.Re
    else (if is_among_words unclear_words word then sense.Brace
    else sense.Div)
