use Rattle.std.proofs.Common.{[], sym}
use Rattle.page_script.proofs.WhiteBytes.{other-first}
use Rattle.page_script.proofs.white.begins_white.Goals as goal

pub returns : goal.returns
returns c = sym (other-first c.args.byte [] c.if-byte-eq194.false c.if-byte-eq225.false c.if-byte-eq226.false c.if-byte-eq227.false c.if-byte-eq239.false)
