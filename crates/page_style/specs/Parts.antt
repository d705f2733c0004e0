-- How much of a text is read at once: an ASCII byte, or a longest run of bytes past ASCII.
use Rattle.std.specs.Prelude.{ℕ, Bool, nat_le, List, [], ◌∷◌, if◌then◌else◌}
use Rattle.std.specs.List.{prefix_len}

abbrev pub is_past_ascii : ℕ → Bool
is_past_ascii b = nat_le 128 b

abbrev pub past_len : List ℕ → ℕ
past_len bs = prefix_len is_past_ascii bs

abbrev pub part_len : List ℕ → ℕ
part_len [] = 0
part_len (b ∷ bs) = if is_past_ascii b then past_len (b ∷ bs) else 1
