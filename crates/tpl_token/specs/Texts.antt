-- The text between actions, and what trimming leaves of it.
use Rattle.std.specs.Prelude.{ℕ, ◌+◌, ◌-◌, Bool, ◌&&◌, if◌then◌else◌, codes, List, [], ◌∷◌, take, drop}
use Rattle.std.specs.List.{prefix_len, suffix_len}
use Rattle.tpl_token.specs.Characters.{begins, first_is, is_white}

-- how many bytes stand before the first offset where the mark begins; all of them where it begins nowhere
abbrev pub bytes_before : List ℕ → List ℕ → ℕ
bytes_before mark [] = 0
bytes_before mark (b ∷ bs) = if begins mark (b ∷ bs) then 0 else 1 + bytes_before mark bs

-- how long the text is up to the next action, or to the end
abbrev pub text_len : List ℕ → ℕ
text_len rest = bytes_before (codes "{{") rest

-- `{{-` and white space, which trims the text before
abbrev pub trims_before : List ℕ → Bool
trims_before rest = begins (codes "{{-") rest && first_is is_white (drop 3 rest)

-- how many bytes in it begins, without the white space that `-}}` before it trims
abbrev pub kept_start : Bool → List ℕ → ℕ
kept_start trims rest = if trims then prefix_len is_white (take (text_len rest) rest) else 0

-- how many bytes in it ends, without the white space that `{{-` after it trims
abbrev pub kept_end : List ℕ → ℕ
kept_end rest = if trims_before (drop (text_len rest) rest) then text_len rest - suffix_len is_white (take (text_len rest) rest) else text_len rest
