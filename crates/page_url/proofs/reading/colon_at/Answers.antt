use Rattle.std.proofs.Common.{get_or, sym}
use Rattle.page_url.proofs.Schemes.{colon_ascii}
use Rattle.page_url.proofs.reading.colon_at.Goals as goal

pub returns-in-Colon-clause-ascii : goal.returns-in-Colon-clause-ascii
returns-in-Colon-clause-ascii c = colon_ascii (get_or c.args.bytes.now c.loop-at.at 0) (sym c.in-Colon.ensures)
