-- The set of templates that the files of a directory are.
use Rattle.std.specs.Prelude.{◌≡◌, ◌≢◌, ℕ, true, false, List, Option, IfSome, Result, Ok, Err, ⊤}
use Rattle.page_check.specs.CheckedSets.{CheckedData, IsChecked}
use Rattle.page_check.specs.Refusing.{IsRefused}
use Rattle.page_datum.specs.declared.files.NamedFile.{NamedFile}
use Rattle.page_check.specs.Roots.{is_root}
use Rattle.page_check.specs.declared.checked.Checked.{Checked}
use Rattle.page_check.specs.declared.refused.MakeRefused.{MakeRefused}
use Rattle.page_check.specs.declared.refused.MakeRefused.TheVariants as make
use Rattle.page_io.specs.FolderContents.{FolderContents}
use Rattle.page_datum.specs.TemplateFiles.{files_of}
use Rattle.page_tool.specs.declared.stop.CommandStop.{CommandStop}
use Rattle.page_tool.specs.declared.stop.CommandStop.TheVariants as stop

-- the files of a directory, with their templates and the chart of their roots
pub record IsLoadedSetOf (held : FolderContents) (dir : List ℕ) (set : CheckedData) : Type 0 where
  pub files : set.files ≡ files_of held dir
  pub checked : IsChecked set

-- the files of a directory are a set
abbrev pub IsSet : FolderContents → List ℕ → Type 0
IsSet held dir = (set : CheckedData) × IsLoadedSetOf held dir set

-- they are a set, and this is one of its roots
pub record IsSetWith (held : FolderContents) (dir root : List ℕ) : Type 0 where
  pub set : IsSet held dir
  pub known : is_root (files_of held dir).list root ≡ true

-- they are a set, and this is none of its roots
pub record IsSetWithout (held : FolderContents) (dir root : List ℕ) : Type 0 where
  pub set : IsSet held dir
  pub unknown : is_root (files_of held dir).list root ≡ false

-- they are refused so
pub record IsRefusedFor (held : FolderContents) (dir : List ℕ) (why : MakeRefused) : Type 0 where
  pub known : why ≢ make.Memory
  pub cause : IsRefused (files_of held dir).list why

-- some files are refused so: a cause that files have is none of memory
abbrev pub IsCause : MakeRefused → Type 0
IsCause why = (files : List NamedFile) × (why ≢ make.Memory) × IsRefused files why

-- the files of a directory are refused so, where the folder tells its files; and some files always
abbrev pub IsSetRefusedFor : Option FolderContents → List ℕ → MakeRefused → Type 0
IsSetRefusedFor held dir why = IsCause why × IfSome held (λ h. IsRefusedFor h dir why)

-- how making the set of a directory answers
abbrev pub LoadSetAnswers : Option FolderContents → List ℕ → Result Checked CommandStop → Type 0
LoadSetAnswers held dir (Ok set) = IfSome held (λ h. IsLoadedSetOf h dir set)
LoadSetAnswers held dir (Err (stop.Set why)) = IsSetRefusedFor held dir why
LoadSetAnswers held dir (Err stop.Read) = ⊤
LoadSetAnswers held dir (Err stop.Memory) = ⊤
LoadSetAnswers held dir (Err _) = ⊥
