use Rattle.js_step.specs.ScriptScanViews.{most_bytes}
use Rattle.html_scan.proofs.ScriptBacks.{step_reach}
use Rattle.html_scan.proofs.ScriptCounts.{fits_count, step_count}
use Rattle.html_scan.proofs.scripts.after_byte.Goals as goal

pub next-requires : goal.next-requires
next-requires c = fits_count most_bytes c.args.script c.requires.room

pub returns-clause-fed : goal.returns-clause-fed
returns-clause-fed c = c.next.ensures.scan

pub returns-clause-count : goal.returns-clause-count
returns-clause-count c = step_count c.args.script c.next.result c.next.ensures.fits

pub returns-clause-reach : goal.returns-clause-reach
returns-clause-reach c = step_reach c.args.script c.next.result c.args.byte (step_count c.args.script c.next.result c.next.ensures.fits) c.next.ensures.scan
