use Rattle.js_lexer.proofs.Keeps.{scripts-keep}
use Rattle.js_lexer.proofs.laws.scripts_read_alike.Goals as goal

pub returns : goal.returns
returns c = scripts-keep
