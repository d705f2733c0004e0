use Rattle.page_check.proofs.ParsedForests.{set-stands}
use Rattle.page_check.proofs.checking.chart_roots.Goals as goal

pub infer-requires : goal.infer-requires
infer-requires c = set-stands c.args.files.now c.args.forest.now c.requires
