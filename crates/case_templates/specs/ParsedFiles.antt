-- Files that are parsed, and forests of them.
use Rattle.std.specs.Prelude.{ℕ, List, All}
use Rattle.tpl_build.specs.Gathering.{HasStanding, all_defs}
use Rattle.tpl_build.specs.declared.definition.File.{File}
use Rattle.tpl_parse.specs.Files.{IsFile}
use Rattle.tpl_tree.specs.Forests.{ForestData}

-- a file has the definitions of some name and text
pub record IsParsedFile (file : File) : Type 0 where
  pub name : List ℕ
  pub text : List ℕ
  pub is : IsFile name text file.defs

-- the templates that stand, of all definitions of some files
pub record IsOfParsedFiles (forest : ForestData) : Type 0 where
  pub files : List File
  pub parsed : All IsParsedFile files
  pub standing : HasStanding (all_defs files) forest
