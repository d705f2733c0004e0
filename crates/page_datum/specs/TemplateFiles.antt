-- The template files of a directory.
use Rattle.std.specs.Prelude.{ℕ, ◌+◌, Bool, nat_eq, codes, List, [], ◌∷◌, take, unwrap_or}
use Rattle.std.specs.Prelude.{if◌then◌else◌}
use Rattle.std.specs.List.{ends_with}
use Rattle.page_io.specs.FolderContents.{FolderContents}
use Rattle.page_datum.specs.declared.files.Files.{Files}
use Rattle.page_datum.specs.declared.files.NamedFile.{NamedFile}

-- the most bytes that a template file may have
abbrev pub max_file : ℕ
max_file = 1048576

-- a name that ends in `.html`
abbrev pub is_template : List ℕ → Bool
is_template name = ends_with nat_eq name (codes ".html")

-- the template files among names, each with the bytes that a read within the limit of a file gives
abbrev pub files_in : FolderContents → List ℕ → List (List ℕ) → List NamedFile
files_in held dir [] = []
files_in held dir (name ∷ names) =
    if is_template name
    then
    record {
      name = name;
      bytes = take (max_file + 1) (unwrap_or (held.content dir name) []);
    } ∷ files_in held dir names
    else files_in held dir names

-- the template files of a directory, in the order of its names
abbrev pub files_of : FolderContents → List ℕ → Files
files_of held dir = record { dir = dir; list = files_in held dir (held.names dir) }
