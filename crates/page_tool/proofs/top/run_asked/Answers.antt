use Rattle.page_tool.proofs.AskedRuns.{branch_runs}
use Rattle.page_tool.proofs.top.run_asked.Goals as goal

pub returns-in-Check-clause-runs : goal.returns-in-Check-clause-runs
returns-in-Check-clause-runs g c =
    branch_runs _ _ _ _ _ c.in-Check.is (c.check.ensures (g.I.Source.left c.args.input.now) (g.I.Source.faults c.args.input.now))

pub returns-in-Explain-clause-runs : goal.returns-in-Explain-clause-runs
returns-in-Explain-clause-runs g c =
    branch_runs _ _ _ _ _ c.in-Explain.is (c.explain.ensures (g.I.Source.left c.args.input.now) (g.I.Source.faults c.args.input.now))

pub returns-in-Make-clause-runs : goal.returns-in-Make-clause-runs
returns-in-Make-clause-runs g c =
    branch_runs _ _ _ _ _ c.in-Make.is (c.make.ensures (g.F.Folder.held c.args.folder.now) (g.F.Folder.faults c.args.folder.now)
    (g.I.Source.left c.args.input.now) (g.I.Source.faults c.args.input.now))

pub returns-in-Tokens-clause-runs : goal.returns-in-Tokens-clause-runs
returns-in-Tokens-clause-runs g c =
    branch_runs _ _ _ _ _ c.in-Tokens.is (c.tokens.ensures (g.F.Folder.held c.args.folder.now) (g.F.Folder.faults c.args.folder.now))
