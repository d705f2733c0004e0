use Rattle.tpl_symbol.proofs.Puts.{put-last}
use Rattle.tpl_symbol.proofs.joining.put.Goals as goal

pub returns-in-Some : goal.returns-in-Some
returns-in-Some c = rw (c.in-Some.ensures.items, put-last c.pop.new.self.items c.in-Some.last c.args.symbol) c.put_joined.ensures
