use Rattle.place_explain.proofs.NamedCalls.{calls-by-name}
use Rattle.place_explain.proofs.OneText.{one-text}
use Rattle.place_explain.proofs.laws.one_text.Goals as goal

pub returns-clause-text : goal.returns-clause-text
returns-clause-text c = one-text

pub returns-clause-calls : goal.returns-clause-calls
returns-clause-calls c = calls-by-name
