use Rattle.js_lexer.proofs.ReadBack.{string-back, regexp-back}
use Rattle.js_lexer.proofs.RegexpBytes.{regexp-plain, first-plain}
use Rattle.js_lexer.proofs.StringBytes.{string-plain}
use Rattle.js_lexer.proofs.laws.texts_read_back.Goals as goal

pub returns : goal.returns
returns c = record { strings = string-back; regexps = regexp-back; plain_strings = string-plain; plain_regexps = regexp-plain; plain_first = first-plain }
