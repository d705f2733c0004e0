-- The definitions of files, and the templates that stand.
use Rattle.std.specs.Prelude.{◌≡◌, List, [], ◌∷◌, ◌++◌}
use Rattle.page_check.specs.Texts.{IsFileText}
use Rattle.page_datum.specs.declared.files.NamedFile.{NamedFile}
use Rattle.tpl_parse.specs.Files.{IsFile}
use Rattle.tpl_build.specs.Gathering.{HasStanding}
use Rattle.tpl_build.specs.declared.definition.Def.{Def}
use Rattle.tpl_tree.specs.Forests.{ForestData, HasAscendingNames}

-- a file is a text that has these definitions
pub record HasDefs (file : NamedFile) (defs : List Def) : Type 0 where
  pub text : IsFileText file
  pub is : IsFile file.name file.bytes defs

-- each file has its definitions, and these are all of them, in the order of the files
abbrev pub HaveDefs : List NamedFile → List Def → Type 0
HaveDefs [] all = all ≡ []
HaveDefs (file ∷ files) all = (defs : List Def) × (rest : List Def) × HasDefs file defs × HaveDefs files rest × (all ≡ defs ++ rest)

-- the templates that stand, of all definitions of the files, by their names
pub record IsForestOf (files : List NamedFile) (forest : ForestData) : Type 0 where
  pub defs : List Def
  pub have : HaveDefs files defs
  pub standing : HasStanding defs forest
  pub ascend : HasAscendingNames forest
