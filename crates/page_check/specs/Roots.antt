-- Which files are roots.
use Rattle.std.specs.Prelude.{ℕ, nat_eq, Bool, false, not, ◌==◌, ◌&&◌, ◌||◌, if◌then◌else◌, List, [], ◌∷◌}
use Rattle.std.specs.Cmp.Lexicographic.{pointwise}
use Rattle.page_datum.specs.declared.files.NamedFile.{NamedFile}

-- a name that begins with `_` is no root
abbrev pub is_partial : List ℕ → Bool
is_partial [] = false
is_partial (b ∷ bs) = b == 95

-- a root of files: the name of a file that is not partial
abbrev pub is_root : List NamedFile → List ℕ → Bool
is_root [] root = false
is_root (file ∷ files) root = (pointwise nat_eq file.name root && not (is_partial file.name)) || is_root files root

-- the names of the roots, in the order of the files
abbrev pub roots_of : List NamedFile → List (List ℕ)
roots_of [] = []
roots_of (file ∷ files) = if is_partial file.name then roots_of files else file.name ∷ roots_of files
