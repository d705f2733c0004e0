use Rattle.tpl_symbol.proofs.Puts.{put-apart}
use Rattle.tpl_symbol.specs.Joins.{symbol_at}
use Rattle.tpl_symbol.proofs.joining.put_new.Goals as goal

pub returns-in_default : goal.returns-in_default
returns-in_default c =
    rw (put-apart c.args.symbols.now.items (symbol_at c.args.kind c.args.line c.args.touches) c.in_default.not-Text) c.put_one.ensures
