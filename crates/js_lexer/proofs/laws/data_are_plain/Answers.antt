use Rattle.js_lexer.proofs.DataPlain.{data-plain, data-told}
use Rattle.js_lexer.proofs.laws.data_are_plain.Goals as goal

pub returns : goal.returns
returns c = record { plain_data = data-plain; told_data = data-told }
