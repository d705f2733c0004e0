use Rattle.std.proofs.Common.{take}
use Rattle.page_check.specs.Definitions.{HaveDefs}
use Rattle.tpl_build.specs.Gathering.{all_defs}
use Rattle.page_check.proofs.reading.read_files.Given as goal

abbrev pub invariant-loop-file : goal.invariant-loop-file
invariant-loop-file l = HaveDefs (take l.file-index l.files) (all_defs l.read)
