use Rattle.page_datum.specs.View.{view}
use Rattle.page_tool.proofs.Pages.{has_root}
use Rattle.page_tool.proofs.make.page_length.Goals as goal

pub unreachable-requires : goal.unreachable-requires
unreachable-requires c =
    let answers = rw c.in-Err-NoTemplate.field-0-is at c.in-Err-NoTemplate.ensures.answers in
    has_root c.args.set.now.files.list c.args.set.now.forest c.args.root.now (view c.args.datum.now) c.requires answers.0
