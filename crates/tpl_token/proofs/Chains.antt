-- Which of the forms of a token is looked for, by what the bytes begin with.
use Rattle.std.proofs.Common.{◌≡◌, ℕ, true, false, List, drop, codes, refl}
use Rattle.tpl_token.specs.Characters.{begins, first_is, is_word_start}
use Rattle.tpl_token.specs.Refusals.{begins_number}
use Rattle.tpl_token.specs.Scanning.{lexeme_at, quoted, raw_found, string_found}

pub lexeme-quoted : (at : ℕ) (bytes : List ℕ) → first_is is_word_start bytes ≡ false → begins_number bytes ≡ false → begins (codes "\"") bytes ≡ true → lexeme_at at bytes ≡ string_found at (quoted 0 (drop 1 bytes))
lexeme-quoted at bytes word number quote = rw (word, number, quote) refl

pub lexeme-raw : (at : ℕ) (bytes : List ℕ) → first_is is_word_start bytes ≡ false → begins_number bytes ≡ false → begins (codes "\"") bytes ≡ false → begins (codes "`") bytes ≡ true → lexeme_at at bytes ≡ raw_found at (drop 1 bytes)
lexeme-raw at bytes word number quote raw = rw (word, number, quote, raw) refl
