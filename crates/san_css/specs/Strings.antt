-- A text in a string is written by runs of bytes that stay.
use Rattle.std.specs.Prelude.{◌≡◌, ℕ, Bool, not, ◌&&◌, ◌==◌, List, ◌++◌, length}
use Rattle.css_lexer.specs.Sanitizers.{css_string, string_digits}

-- whether a byte is written as it is
abbrev pub is_string_kept : ℕ → Bool
is_string_kept b = not (b == 92) && length (string_digits b) == 0

-- what was written before a text is read and what is written after its prefix, before the rest that is left, come to the same
abbrev pub StringRestWrites : List ℕ → List ℕ → List ℕ → List ℕ → Type 0
StringRestWrites text rest before after = after ++ css_string rest ≡ before ++ css_string text
