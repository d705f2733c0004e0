-- In the forests of the tables each `break` and `continue` stands in a range.
use Rattle.std.proofs.Common.{List, [], ◌∷◌}
use Rattle.std.proofs.lemmas.List.Elements.{All-head, All-tail}
use Rattle.std.specs.Prelude.{All}
use Rattle.case_templates.specs.ParsedFiles.{IsOfParsedFiles, IsParsedFile}
use Rattle.page_check.proofs.ParsedForests.{AllStand, append-stand, file-stands, forest-stands}
use Rattle.place_infer.specs.BreaksInRanges.{HasBreaksInRanges}
use Rattle.tpl_build.specs.Gathering.{all_defs}
use Rattle.tpl_build.specs.declared.definition.File.{File}
use Rattle.tpl_tree.specs.Forests.{ForestData}

files-stand : (files : List File) → All IsParsedFile files → AllStand (all_defs files)
files-stand [] h = tt
files-stand (file ∷ files) h =
    let first = All-head IsParsedFile file files h in
    append-stand file.defs (all_defs files) (file-stands first.name first.text file.defs first.is) (files-stand files (All-tail IsParsedFile file files h))

pub breaks_stand : (forest : ForestData) → IsOfParsedFiles forest → HasBreaksInRanges forest
breaks_stand forest is = forest-stands (all_defs is.files) forest is.standing (files-stand is.files is.parsed)
