-- What a reload does: a set of the template files is published, or the list of sets is as before.
use Rattle.std.specs.Prelude.{◌≡◌, ◌≤◌, ℕ, List, Bool, IsTrue, Option, Some, None, IfSome}
use Rattle.std.specs.Prelude.{Result, Ok, Err, ⊤}
use Rattle.std.specs.Arc.{arc_value}
use Rattle.page_io.specs.Causes.{Rose}
use Rattle.page_io.specs.FolderContents.{FolderContents}
use Rattle.page_datum.specs.TemplateFiles.{files_of}
use Rattle.page_datum.specs.declared.files.Files.{Files}
use Rattle.set_publisher.specs.Publishing.{Publishes}
use Rattle.set_publisher.specs.declared.told.Told.{Told}
use Rattle.page_office.specs.BackOffice.{BackOffice}
use Rattle.page_office.specs.declared.reload_stop.ReloadStop.{ReloadStop}
use Rattle.page_office.specs.declared.reload_stop.ReloadStop.TheVariants as stop

-- the template files of a directory, where its folder tells what it holds
abbrev pub told_files : Option FolderContents → List ℕ → Option Files
told_files None dir = None
told_files (Some held) dir = Some (files_of held dir)

-- a set of exactly these files, where they are told, and of files that are not refused
pub record IsSetOfFiles {V : Type 0}
    (made_of : V → Files) (refuses : Files → Type 0) (told : Option Files) (set : V)
    : Type 0 where
  pub files : IfSome told (λ files. made_of set ≡ files)
  pub accepted : refuses (made_of set) → ⊥

-- these files, where they are told, are refused, and not for want of memory
pub record IsRefusalOfFiles {E : Type 0}
    (refuses : Files → Type 0) (is_memory : E → Bool) (told : Option Files) (why : E)
    : Type 0 where
  pub files : Files
  pub these : IfSome told (λ told. files ≡ told)
  pub refused : refuses files
  pub other : IsTrue (is_memory why) → ⊥

-- the answers where a set is made of these files, each with its cause; that of a folder's fault is in the folder's count
abbrev pub MakeSetAnswers : {V E : Type 0}
    → (V → Files) → (Files → Type 0) → (E → Bool) → Option Files → Result V (ReloadStop E) → Type 0
MakeSetAnswers made_of refuses is_memory told (Ok set) = IsSetOfFiles made_of refuses told set
MakeSetAnswers made_of refuses is_memory told (Err (stop.Refused why)) = IsRefusalOfFiles refuses is_memory told why
MakeSetAnswers made_of refuses is_memory told (Err stop.FolderFault) = ⊤
MakeSetAnswers made_of refuses is_memory told (Err stop.Memory) = ⊤

-- the answers of a reload, each with its cause and with what the list of sets is then
module _ {V F E : Type 0}
    (made_of : V → Files) (refuses : Files → Type 0) (is_memory : E → Bool)
    (held : F → Option FolderContents) (faults : F → ℕ) where
  abbrev pub ReloadAnswers : BackOffice V F → BackOffice V F → Result (Told V) (ReloadStop E) → Type 0
  ReloadAnswers old now (Ok told) =
      Publishes old.desk (arc_value told.set) now.desk told
      × IsSetOfFiles made_of refuses (told_files (held old.folder) old.dir) (arc_value told.set)
  ReloadAnswers old now (Err (stop.Refused why)) =
      (now.desk ≡ old.desk)
      × IsRefusalOfFiles refuses is_memory (told_files (held old.folder) old.dir) why
  ReloadAnswers old now (Err stop.FolderFault) =
      (now.desk ≡ old.desk) × Rose (faults old.folder) (faults now.folder)
  ReloadAnswers old now (Err stop.Memory) = now.desk ≡ old.desk

-- the directory stays, the folder holds what it held, and its count of faults did not fall
pub record KeepsFolder {V F : Type 0}
    (held : F → Option FolderContents) (faults : F → ℕ) (old now : BackOffice V F)
    : Type 0 where
  pub dir : now.dir ≡ old.dir
  pub contents : held now.folder ≡ held old.folder
  pub later : faults old.folder ≤ faults now.folder
