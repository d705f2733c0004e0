-- Files on whose paths no error stands.
use Rattle.std.specs.Prelude.{◌≡◌, ◌≢◌, ◌≤◌, ◌↔◌, true, List, [], length, ⊤}
use Rattle.page_check.specs.Definitions.{IsForestOf}
use Rattle.page_check.specs.Refusing.{FilesRefuse, max_names}
use Rattle.page_check.specs.Roots.{roots_of}
use Rattle.page_check.specs.declared.refused.MakeRefused.{MakeRefused}
use Rattle.page_check.specs.declared.refused.MakeRefused.TheVariants.{TooLarge, NotUtf8, File, TooManyTemplates, NoTemplates, Set, Memory}
use Rattle.page_datum.specs.declared.files.NamedFile.{NamedFile}
use Rattle.place_infer.specs.Inferring.{HasTooManyPairs, is_end_code}
use Rattle.place_infer.specs.declared.set_refused.SetRefused.{SetRefused}
use Rattle.place_infer.specs.declared.set_refused.SetRefused.TheVariants as set
use Rattle.place_show.specs.NoErrors.{HaveNoErrors, HaveNoOtherErrors}
use Rattle.tpl_tree.specs.Forests.{ForestData}

-- They have templates, no more than there may be, and a root; no error stands on the paths of the roots; and the least chart has no more pairs
-- than it may.
pub record HaveNoError (files : List NamedFile) : Type 0 where
  pub forest : ForestData
  pub is : IsForestOf files forest
  pub few : length forest ≤ max_names
  pub roots : roots_of files ≢ []
  pub free : HaveNoErrors forest (roots_of files)
  pub pairs : HasTooManyPairs forest (roots_of files) → ⊥

-- A refusal of such files is out of memory.
abbrev pub NeedsCause : List NamedFile → MakeRefused → Type 0
NeedsCause files why = HaveNoError files → why ≡ Memory

-- The error that is shown is that of an end exactly where no other error stands on the paths of the roots.
abbrev pub SetEndsAlone : List NamedFile → SetRefused → Type 0
SetEndsAlone files (set.Shows sh) = (forest : ForestData) → IsForestOf files forest → (is_end_code sh.code ≡ true) ↔ HaveNoOtherErrors forest (roots_of files)
SetEndsAlone files set.TooManyDerived = ⊤
SetEndsAlone files set.Memory = ⊤

abbrev pub EndsAlone : List NamedFile → MakeRefused → Type 0
EndsAlone files (TooLarge name) = ⊤
EndsAlone files (NotUtf8 name) = ⊤
EndsAlone files (File name why) = ⊤
EndsAlone files TooManyTemplates = ⊤
EndsAlone files NoTemplates = ⊤
EndsAlone files (Set why) = SetEndsAlone files why
EndsAlone files Memory = ⊤

-- Files on whose paths no error stands have no cause to be refused.
abbrev pub ErrorFreeFilesAreNotRefused : Type 0
ErrorFreeFilesAreNotRefused = (files : List NamedFile) → HaveNoError files → FilesRefuse files → ⊥
