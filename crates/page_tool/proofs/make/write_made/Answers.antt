use Rattle.page_tool.proofs.MakeStatuses.{written}
use Rattle.page_tool.proofs.make.write_made.Goals as goal

pub returns-in-Ok-clause-answers : goal.returns-in-Ok-clause-answers
returns-in-Ok-clause-answers g c = written _ _ _ _ _ c.in-Ok.ensures c.write_text.ensures.written
