-- A list of symbols is read one after another.
use Rattle.std.proofs.Common.{◌≡◌, List, [], ◌∷◌, length, Result, Ok, Err, refl, sym, ap, ◌∙◌, arith}
use Rattle.tpl_parse.specs.Actions.{ActionRefusal}
use Rattle.tpl_parse.specs.State.{ParserState}
use Rattle.tpl_parse.specs.Steps.{Stepped, parser_step, parser_run, step_and_then}
use Rattle.tpl_symbol.specs.declared.symbol.Symbol.{Symbol}

-- after a symbol that is read, the rest is read from there
pub reads_on : (at next : ParserState) (symbols rest : List Symbol) (s : Symbol) → symbols ≡ s ∷ rest → parser_step at s ≡ Ok next → parser_run at symbols ≡ parser_run next rest
reads_on at next symbols rest s e f = ap (parser_run at) e ∙ ap (λ (r : Stepped). step_and_then r (λ m. parser_run m rest)) f

-- a symbol that is refused gives the answer
pub stops : (at : ParserState) (symbols rest : List Symbol) (s : Symbol) (whole : Stepped) (why : ActionRefusal)
    → symbols ≡ s ∷ rest → parser_step at s ≡ Err why → parser_run at symbols ≡ whole → whole ≡ Err why
stops at symbols rest s whole why e f h = sym h ∙ (ap (parser_run at) e ∙ ap (λ (r : Stepped). step_and_then r (λ m. parser_run m rest)) f)

-- where no symbol is left, reading is where it is
pub reads_all : (at : ParserState) (symbols : List Symbol) → length symbols ≡ 0 → parser_run at symbols ≡ Ok at
reads_all at [] e = refl
reads_all at (s ∷ symbols) e = absurd (omega (arith, e))
