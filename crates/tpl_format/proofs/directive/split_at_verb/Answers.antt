use Rattle.tpl_format.proofs.Steps.{splits}
use Rattle.tpl_format.proofs.directive.split_at_verb.Goals as goal

pub returns-clause-parts : goal.returns-clause-parts
returns-clause-parts c = splits c.args.format.now c.split_once.result c.split_once.ensures.cases
