-- A list of published keys, and what each viewer has seen of it.
use Rattle.std.specs.Prelude.{ℕ, ◌-◌, ◌<◌, ◌≤◌, List, [], ◌∷◌, length, Option, slice_get, slice_index, All}

-- the keys in the order in which they were published, numbered from 1; and for each viewer the number that it has seen. A key is
-- anything that stands for a set, or the set itself
pub record Publication (K : Type 0) : Type 0 where
  pub keys : List K
  pub seen : List ℕ

-- there is a key, and each viewer has seen the number of one
pub record IsPublication {K : Type 0} (p : Publication K) : Type 0 where
  pub some : 0 < length p.keys
  pub numbers : All (λ n. (0 < n) × (n ≤ length p.keys)) p.seen

-- one key, and no viewer
abbrev pub publication_opened : {K : Type 0} → K → Publication K
publication_opened first = record { keys = first ∷ []; seen = [] }

-- viewers are named from 0
abbrev pub IsViewer : {K : Type 0} → Publication K → ℕ → Type 0
IsViewer p viewer = viewer < length p.seen

abbrev pub seen_by : {K : Type 0} → Publication K → ℕ → ℕ
seen_by p viewer = slice_index p.seen viewer

abbrev pub key_of : {K : Type 0} → Publication K → ℕ → Option K
key_of p number = slice_get p.keys (number - 1)
