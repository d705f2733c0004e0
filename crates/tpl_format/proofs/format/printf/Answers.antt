use Rattle.tpl_format.proofs.Pieces.{by_pieces}
use Rattle.tpl_format.specs.Answers.{datas}
use Rattle.tpl_format.proofs.format.printf.Goals as goal

pub returns-clause-answers : goal.returns-clause-answers
returns-clause-answers c = by_pieces (datas c.args.args.now) c.formatted_args.result c.formatted_args.ensures
