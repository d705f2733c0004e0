use Rattle.std.proofs.Common.{sym}
use Rattle.html_scan.specs.ScanViews.{quoting_at}
use Rattle.html_scan.proofs.TypesRead.{type_goes}
use Rattle.html_scan.proofs.types.in_type.Goals as goal

pub returns-clause-scan : goal.returns-clause-scan
returns-clause-scan c = λ text k from_le k_less same.
    rw (c.begins.ensures, sym c.ends.ensures, c.if-ends.false) (type_goes text c.args.from k c.args.value.now c.args.tag (quoting_at c.args.quoting) from_le k_less same)
