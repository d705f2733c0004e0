use Rattle.san_url.proofs.Runs.{run-begins, run-ends}
use Rattle.san_url.proofs.run.push_run.Goals as goal

pub range-requires-clause-start_boundary : goal.range-requires-clause-start_boundary
range-requires-clause-start_boundary c some = run-begins c.args.text.now c.args.start c.args.end c.requires.ascii c.if-start-end.true c.requires.inside

pub range-requires-clause-end_boundary : goal.range-requires-clause-end_boundary
range-requires-clause-end_boundary c = run-ends c.args.text.now c.args.start c.args.end c.utf8.text c.requires.ascii c.if-start-end.true c.requires.inside
