-- The tokens inside actions.
use Rattle.std.specs.Prelude.{◌≡◌, ℕ, false, ◌==◌, ◌⊎◌, codes, List, ◌++◌, Some, IsTrue}
use Rattle.tpl_token.specs.Characters.{first_is, is_name_byte, is_word_byte, is_word_start}
use Rattle.tpl_token.specs.Numbers.{number}
use Rattle.tpl_token.specs.Strings.{IsQuoted, IsRaw}
use Rattle.tpl_token.specs.declared.token.TokenKind.{TokenKind}
use Rattle.tpl_token.specs.declared.token.TokenKind.TheVariants as kind

-- no letter, digit or `_` follows: a word would be longer with it, and `.` before a digit is the beginning of a float
abbrev pub EndsWord : List ℕ → Type 0
EndsWord rest = first_is is_word_byte rest ≡ false

-- The bytes are a token of this kind, where this rest follows. Tokens may touch where they do not run together.
abbrev pub IsLexeme : TokenKind → List ℕ → List ℕ → Type 0
IsLexeme kind.Name bytes rest = IsTrue (is_name_byte bytes) × EndsWord rest
IsLexeme kind.Field bytes rest = (name : List ℕ) × (bytes ≡ codes "." ++ name) × IsTrue (is_name_byte name) × EndsWord rest
IsLexeme kind.Dot bytes rest = (bytes ≡ codes ".") × EndsWord rest
IsLexeme kind.Variable bytes rest =
    ((bytes ≡ codes "$") × (first_is is_word_start rest ≡ false))
    ⊎ ((name : List ℕ) × (bytes ≡ codes "$" ++ name) × IsTrue (is_name_byte name) × EndsWord rest)
IsLexeme (kind.Number n) bytes rest = (number bytes ≡ Some n) × EndsWord rest × (first_is (λ b. b == 46) rest ≡ false)
IsLexeme (kind.Str value) bytes rest = IsQuoted bytes value ⊎ IsRaw bytes value
IsLexeme kind.Declare bytes rest = bytes ≡ codes ":="
IsLexeme kind.Assign bytes rest = bytes ≡ codes "="
IsLexeme kind.Bar bytes rest = bytes ≡ codes "|"
IsLexeme kind.Comma bytes rest = bytes ≡ codes ","
IsLexeme kind.Left bytes rest = bytes ≡ codes "("
IsLexeme kind.Right bytes rest = bytes ≡ codes ")"
IsLexeme kind.Text bytes rest = ⊥
IsLexeme kind.Open bytes rest = ⊥
IsLexeme kind.Close bytes rest = ⊥
IsLexeme kind.Comment bytes rest = ⊥
