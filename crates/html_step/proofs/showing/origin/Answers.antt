use Rattle.std.proofs.Common.{arith}
use Rattle.html_scan.specs.Scans.{At}
use Rattle.html_step.specs.Origins.{origin}
use Rattle.html_step.proofs.showing.origin.Goals as goal

pub loop-index-init : goal.loop-index-init
loop-index-init c = (λ y. c.same-origins.ensures (origin c.args.text.now (At c.args.place) y), omega arith)
