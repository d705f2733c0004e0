-- Entries whose keys ascend.
use Rattle.std.specs.Prelude.{ℕ, suc, List, [], ◌∷◌, Option, Some, None, if◌then◌else◌, option_map, bytes_eq}
use Rattle.std.specs.Cmp.Lexicographic.{slice_cmp}
use Rattle.std.specs.List.Sorted.{IsStrictlySortedBy}
use Rattle.std.specs.Map.{keys_of}
use Rattle.std.specs.Ordering.{nat_cmp}

-- the keys ascend in byte order, each once
abbrev pub HaveAscendingKeys : {V : Type 0} → List (List ℕ × V) → Type 0
HaveAscendingKeys entries = IsStrictlySortedBy (slice_cmp nat_cmp) (keys_of entries)

-- the number of the entry with a key: its place, from 0
abbrev pub key_number : {V : Type 0} → List ℕ → List (List ℕ × V) → Option ℕ
key_number key [] = None
key_number key (e ∷ es) = if bytes_eq e.0 key then Some 0 else option_map suc (key_number key es)
