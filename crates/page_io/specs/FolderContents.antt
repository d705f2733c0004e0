-- What a folder holds, and what files in memory stand for.
use Rattle.std.specs.Prelude.{ℕ, List, [], ◌∷◌, Option, Some, None, Bool, ◌&&◌, nat_eq, if◌then◌else◌}
use Rattle.std.specs.Cmp.Lexicographic.{slice_cmp, pointwise}
use Rattle.std.specs.Ordering.{nat_cmp}
use Rattle.std.specs.BTreeSet.{insert_key}
use Rattle.page_io.specs.declared.mem_folder.MemFile.{MemFile}

-- the names of the files of each directory, and the bytes of each file that is there
pub record FolderContents : Type 0 where
  pub names : List ℕ → List (List ℕ)
  pub content : List ℕ → List ℕ → Option (List ℕ)

-- whether two texts are equal
abbrev pub same : List ℕ → List ℕ → Bool
same = pointwise nat_eq

-- the names found, and those of the files of a directory, in byte order, each once
abbrev pub names_in : List MemFile → List ℕ → List (List ℕ) → List (List ℕ)
names_in [] dir found = found
names_in (file ∷ files) dir found = names_in files dir (if same file.dir dir then insert_key (slice_cmp nat_cmp) found file.name else found)

-- the bytes of the first file with this directory and name
abbrev pub content_in : List MemFile → List ℕ → List ℕ → Option (List ℕ)
content_in [] dir name = None
content_in (file ∷ files) dir name = if same file.dir dir && same file.name name then Some file.bytes else content_in files dir name

-- what a folder of these files holds
abbrev pub held_of : List MemFile → FolderContents
held_of files = record { names = λ dir. names_in files dir []; content = λ dir name. content_in files dir name }

-- the same, where a name that has no file has an empty one
abbrev pub filled_by : List MemFile → FolderContents
filled_by files = record { names = λ dir. names_in files dir []; content = λ dir name. or_empty (content_in files dir name) }
  where
    or_empty : Option (List ℕ) → Option (List ℕ)
    or_empty None = Some []
    or_empty (Some bytes) = Some bytes
