use Rattle.std.proofs.Common.{◌+◌, List, sym, subst, take}
use Rattle.page_check.proofs.GatheredDefs.{read_more, refused_there}
use Rattle.page_check.specs.Definitions.{HaveDefs}
use Rattle.tpl_build.specs.Gathering.{all_defs}
use Rattle.tpl_build.specs.declared.definition.File.{File}
use Rattle.page_check.proofs.reading.read_files.Goals as goal

pub returns-in-Err : goal.returns-in-Err
returns-in-Err c = λ known.
    refused_there c.args.files.now c.file-item.result c.loop-file.file-index (all_defs c.loop-file.read) c.in-Err.why c.loop-file-test.true (sym c.file-item.is) c.loop-file.invariant (c.in-Err.ensures known)

pub loop-file-preserved : goal.loop-file-preserved
loop-file-preserved c =
    subst (λ (read : List File). HaveDefs (take (c.loop-file.file-index + 1) c.args.files.now) (all_defs read)) (sym c.in-Ok-push.ensures.ok)
    (read_more c.args.files.now c.file-item.result c.loop-file.file-index c.loop-file.read c.in-Ok.parsed c.loop-file-test.true (sym c.file-item.is) c.loop-file.invariant c.in-Ok.ensures)
