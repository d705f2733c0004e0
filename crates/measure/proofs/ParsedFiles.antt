-- In the forest of a file each `break` and `continue` stands in a range.
use Rattle.std.proofs.Common.{ℕ, List, [], ◌∷◌, ◌++◌}
use Rattle.page_check.proofs.ParsedForests.{append-stand, file-stands, forest-stands}
use Rattle.place_infer.specs.BreaksInRanges.{HasBreaksInRanges}
use Rattle.tpl_build.specs.Gathering.{HasStanding, all_defs}
use Rattle.tpl_build.specs.declared.definition.File.{File}
use Rattle.tpl_parse.specs.Files.{IsFile}
use Rattle.tpl_tree.specs.Forests.{ForestData}

pub breaks_stand : (name text : List ℕ) (file : File) (forest : ForestData) → IsFile name text file.defs → HasStanding (all_defs (file ∷ [])) forest → HasBreaksInRanges forest
breaks_stand name text file forest is standing = forest-stands (file.defs ++ []) forest standing (append-stand file.defs [] (file-stands name text file.defs is) tt)
