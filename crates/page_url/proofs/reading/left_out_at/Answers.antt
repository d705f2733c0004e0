use Rattle.std.proofs.Common.{get_or, sym}
use Rattle.page_url.proofs.Schemes.{newline_ascii}
use Rattle.page_url.proofs.reading.left_out_at.Goals as goal

pub returns-in-TabOrNewline-clause-ascii : goal.returns-in-TabOrNewline-clause-ascii
returns-in-TabOrNewline-clause-ascii c = newline_ascii (get_or c.args.bytes.now c.loop-at.at 0) (sym c.in-TabOrNewline.ensures)
