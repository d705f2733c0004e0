use Rattle.std.proofs.Common.{get_or, sym}
use Rattle.page_url.proofs.Schemes.{blank_ascii, newline_ascii}
use Rattle.page_url.proofs.reading.begins_blank.Goals as goal

pub returns-in-TabOrNewline-clause-ascii : goal.returns-in-TabOrNewline-clause-ascii
returns-in-TabOrNewline-clause-ascii c = λ yes. newline_ascii (get_or c.args.bytes.now 0 0) (sym c.in-TabOrNewline.ensures)

pub returns-in-ControlOrSpace-clause-ascii : goal.returns-in-ControlOrSpace-clause-ascii
returns-in-ControlOrSpace-clause-ascii c = λ yes. blank_ascii (get_or c.args.bytes.now 0 0) (sym c.in-ControlOrSpace.ensures)
