use Rattle.page_tool.proofs.ErrorFree.{asked_free}
use Rattle.page_tool.proofs.AskedRuns.{asked_needs, asked_usage}
use Rattle.page_tool.proofs.top.run_files.Goals as goal

pub returns-clause-usage : goal.returns-clause-usage
returns-clause-usage g c = asked_usage c.in-Ok.asked _ _ _ _ c.in-Ok.ensures c.run_asked-status.ensures.runs

pub returns-clause-error_free : goal.returns-clause-error_free
returns-clause-error_free g c = asked_free c.in-Ok.asked _ _ _ _ c.in-Ok.ensures c.run_asked-status.ensures.runs

pub returns-clause-complete : goal.returns-clause-complete
returns-clause-complete g c = asked_needs c.in-Ok.asked _ _ _ _ c.in-Ok.ensures c.run_asked-status.ensures.runs
