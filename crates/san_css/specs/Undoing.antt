-- A text with its escapes undone is written piece by piece.
use Rattle.std.specs.Prelude.{◌≡◌, ◌==◌, ℕ, Bool, List, [], ◌∷◌, ◌++◌, if◌then◌else◌}
use Rattle.std.specs.Char.{is_ascii_whitespace}
use Rattle.css_lexer.specs.Unescaping.{AsItIs, StyleUndoing, style_undone}

abbrev pub is_backslash : ℕ → Bool
is_backslash b = b == 92

-- what is behind one white space, if there is one
abbrev pub without_blank : List ℕ → List ℕ
without_blank [] = []
without_blank (b ∷ bs) = if is_ascii_whitespace b then bs else b ∷ bs

-- what was written before a text is undone from here and what is written after its prefix, before the rest that is left, come to the same
abbrev pub UndoesOn : StyleUndoing → List ℕ → List ℕ → List ℕ → List ℕ → Type 0
UndoesOn from text rest before after = after ++ style_undone AsItIs rest ≡ before ++ style_undone from text
