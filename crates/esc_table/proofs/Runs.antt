-- Replacing goes character by character.
use Rattle.std.proofs.Common.{◌≡◌, List, ℕ, ◌++◌, true, ap, ◌∙◌}
use Rattle.std.specs.Prelude.{IsUtf8, chars, encode_utf8_all}
use Rattle.std.specs.Str.{all_scalars}
use Rattle.std.proofs.lemmas.Grind.{flat_map-append}
use Rattle.std.proofs.lemmas.Str.{chars-encodes, chars-append}
use Rattle.esc_table.specs.Rows.{EscapeRow}
use Rattle.esc_table.specs.Replaced.{row_written, replaced_all, replaced}

-- what is written for two runs of characters is what is written for each of them
pub replaced_all-append : (rows : List EscapeRow) (before after : List ℕ) → replaced_all rows (before ++ after) ≡ replaced_all rows before ++ replaced_all rows after
replaced_all-append rows before after = flat_map-append (row_written rows) before after

-- a text that spells some characters is replaced as they are
pub replaced-encodes : (rows : List EscapeRow) (characters : List ℕ) → all_scalars characters ≡ true → replaced rows (encode_utf8_all characters) ≡ replaced_all rows characters
replaced-encodes rows characters are = ap (replaced_all rows) (chars-encodes characters are)

-- two texts after one another are replaced one after the other
pub replaced-append : (rows : List EscapeRow) (before after : List ℕ) → IsUtf8 before → replaced rows (before ++ after) ≡ replaced rows before ++ replaced rows after
replaced-append rows before after is =
    ap (replaced_all rows) (chars-append before after is) ∙ replaced_all-append rows (chars before) (chars after)
