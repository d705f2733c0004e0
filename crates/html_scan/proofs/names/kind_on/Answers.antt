use Rattle.place_core.specs.page.Tags.{element_on}
use Rattle.html_scan.proofs.Lowered.{kind_lowered}
use Rattle.html_scan.proofs.names.kind_on.Goals as goal

pub returns : goal.returns
returns c = rw (c.name_kind.ensures, c.element_on.ensures) (kind_lowered (element_on c.args.tag) c.args.name.now)
