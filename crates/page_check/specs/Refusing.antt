-- Why files are refused.
use Rattle.std.specs.Prelude.{◌≡◌, ◌≢◌, ◌≤◌, ◌<◌, ℕ, List, [], ◌∷◌, ◌++◌, length, ⊤}
use Rattle.std.specs.Str.{IsUtf8}
use Rattle.page_check.specs.Definitions.{HaveDefs, IsForestOf}
use Rattle.page_check.specs.Roots.{roots_of}
use Rattle.page_check.specs.Texts.{IsFileText}
use Rattle.page_check.specs.declared.refused.MakeRefused.{MakeRefused}
use Rattle.page_check.specs.declared.refused.MakeRefused.TheVariants.{TooLarge, NotUtf8, File, TooManyTemplates, NoTemplates, Set, Memory}
use Rattle.page_datum.specs.TemplateFiles.{max_file}
use Rattle.page_datum.specs.declared.files.NamedFile.{NamedFile}
use Rattle.place_infer.specs.Inferring as infer
use Rattle.place_infer.specs.declared.set_refused.SetRefused.{SetRefused}
use Rattle.place_infer.specs.declared.set_refused.SetRefused.TheVariants as set
use Rattle.tpl_parse.specs.Files as parse
use Rattle.tpl_build.specs.declared.definition.Def.{Def}
use Rattle.tpl_tree.specs.Forests.{ForestData}

-- the most names that the definitions of a set may have
abbrev pub max_names : ℕ
max_names = 1024

-- why one file is refused
abbrev pub IsFileRefused : NamedFile → MakeRefused → Type 0
IsFileRefused file (TooLarge name) = (name ≡ file.name) × (max_file < length file.bytes)
IsFileRefused file (NotUtf8 name) = (name ≡ file.name) × (length file.bytes ≤ max_file) × (IsUtf8 file.bytes → ⊥)
IsFileRefused file (File name why) = (name ≡ file.name) × IsFileText file × parse.IsParseRefused file.name file.bytes why
IsFileRefused file TooManyTemplates = ⊥
IsFileRefused file NoTemplates = ⊥
IsFileRefused file (Set why) = ⊥
IsFileRefused file Memory = ⊥

-- a file is refused, and those before it have definitions
pub record IsFirstRefused (files : List NamedFile) (why : MakeRefused) : Type 0 where
  pub before : List NamedFile
  pub file : NamedFile
  pub after : List NamedFile
  pub split : files ≡ before ++ file ∷ after
  pub defs : List Def
  pub fine : HaveDefs before defs
  pub cause : IsFileRefused file why

-- the files have more templates than they may
pub record HasTooManyNames (files : List NamedFile) : Type 0 where
  pub forest : ForestData
  pub is : IsForestOf files forest
  pub many : max_names < length forest

-- they have templates, but no root
pub record HasNoRoot (files : List NamedFile) : Type 0 where
  pub forest : ForestData
  pub is : IsForestOf files forest
  pub few : length forest ≤ max_names
  pub roots : roots_of files ≡ []

-- their templates have no chart of the roots
pub record IsSetRefused (files : List NamedFile) (why : SetRefused) : Type 0 where
  pub forest : ForestData
  pub is : IsForestOf files forest
  pub few : length forest ≤ max_names
  pub roots : roots_of files ≢ []
  pub known : why ≢ set.Memory
  pub cause : infer.SetRefuses forest (roots_of files) why

-- why files are refused
abbrev pub IsRefused : List NamedFile → MakeRefused → Type 0
IsRefused files (TooLarge name) = IsFirstRefused files (TooLarge name)
IsRefused files (NotUtf8 name) = IsFirstRefused files (NotUtf8 name)
IsRefused files (File name why) = IsFirstRefused files (File name why)
IsRefused files TooManyTemplates = HasTooManyNames files
IsRefused files NoTemplates = HasNoRoot files
IsRefused files (Set why) = IsSetRefused files why
IsRefused files Memory = ⊤

-- refused for another cause than memory
pub record FilesRefuse (files : List NamedFile) : Type 0 where
  pub refused : MakeRefused
  pub known : refused ≢ Memory
  pub cause : IsRefused files refused
