use Rattle.tpl_symbol.proofs.MarkLaws.{unmarked_none}
use Rattle.std.proofs.lemmas.Str.Pattern.{strip_prefix_char}
use Rattle.tpl_symbol.proofs.kind.unmarked.Goals as goal

pub returns-in-None : goal.returns-in-None
returns-in-None c = unmarked_none c.args.mark c.args.text.now (rw c.in-None.is at (strip_prefix_char c.args.mark c.args.text.now c.strip_prefix.result c.strip_prefix.ensures.cases c.requires.ascii))
