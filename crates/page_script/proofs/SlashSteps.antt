-- Behind the slash of a regular expression.
use Rattle.std.proofs.Common.{◌≡◌, ◌≢◌, ℕ, false, List, refl}
use Rattle.js_lexer.specs.States.{NoEscape}
use Rattle.js_lexer.specs.Steps.{next_regexp, next_slash}
use Rattle.js_lexer.specs.declared.class.ScriptClass.{ScriptClass}
use Rattle.js_lexer.specs.declared.class.ScriptClass.TheVariants as class
use Rattle.js_lexer.specs.declared.sense.Sense.TheVariants as sense

pub begins-regexp : (c : ScriptClass) (b : ℕ) (fs : List ℕ) → c ≢ class.Solidus → c ≢ class.Asterisk → next_regexp false false NoEscape c b fs ≡ next_slash sense.Re c b fs
begins-regexp class.Solidus b fs h i = absurd (h refl)
begins-regexp class.Asterisk b fs h i = absurd (i refl)
begins-regexp _ b fs h i = refl
