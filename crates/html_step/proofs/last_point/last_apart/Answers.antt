use Rattle.html_step.proofs.LastApart.{found, none-found}
use Rattle.html_step.proofs.last_point.last_apart.Goals as goal

pub returns-clause-found : goal.returns-clause-found
returns-clause-found c =
    found c.args.upto c.args.text.now c.args.one c.args.other c.last_by_scans.result (rw c.as_bytes.ensures.value at c.last_by_scans.ensures)

pub returns-clause-none : goal.returns-clause-none
returns-clause-none c =
    none-found c.args.upto c.args.text.now c.args.one c.args.other c.last_by_scans.result (rw c.as_bytes.ensures.value at c.last_by_scans.ensures)
