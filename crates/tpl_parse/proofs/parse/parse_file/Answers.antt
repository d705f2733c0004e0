use Rattle.std.proofs.Common.{sym, subst, List, Ok, Err}
use Rattle.tpl_build.specs.declared.definition.Def.{Def}
use Rattle.tpl_parse.specs.declared.refused.FileRefused.{FileRefused}
use Rattle.tpl_parse.proofs.FileLaws.{ok_answers, ok_accepted, ok_refused, err_answers, err_accepted, err_refused}
use Rattle.tpl_parse.specs.Files.{ParseFileAnswers, GivesFile, IsFile, IsParseRefused}
use Rattle.tpl_parse.proofs.parse.parse_file.Goals as goal

pub returns-in-Ok-clause-answers : goal.returns-in-Ok-clause-answers
returns-in-Ok-clause-answers c = ok_answers c.args.name.now c.args.text.now c.in-Ok.tokens c.parse_tokens.result c.in-Ok.ensures.answers c.parse_tokens.ensures

pub returns-in-Ok-clause-accepted : goal.returns-in-Ok-clause-accepted
returns-in-Ok-clause-accepted c = ok_accepted c.args.name.now c.args.text.now c.in-Ok.tokens c.parse_tokens.result (c.in-Ok.ensures.accepted, c.in-Ok.ensures.refused) c.parse_tokens.ensures

pub returns-in-Ok-clause-refused : goal.returns-in-Ok-clause-refused
returns-in-Ok-clause-refused c = ok_refused c.args.name.now c.args.text.now c.in-Ok.tokens c.parse_tokens.result (c.in-Ok.ensures.accepted, c.in-Ok.ensures.refused) c.parse_tokens.ensures

pub returns-in-Err-clause-answers : goal.returns-in-Err-clause-answers
returns-in-Err-clause-answers c = subst (λ (e : FileRefused). ParseFileAnswers c.args.name.now c.args.text.now (Err e)) (sym c.token_refusal.ensures)
    (err_answers c.args.name.now c.args.text.now c.in-Err.why c.in-Err.ensures.answers)

pub returns-in-Err-clause-accepted : goal.returns-in-Err-clause-accepted
returns-in-Err-clause-accepted c = subst (λ (e : FileRefused). (defs : List Def) → IsFile c.args.name.now c.args.text.now defs → GivesFile (Err e) (Ok defs)) (sym c.token_refusal.ensures)
    (err_accepted c.args.name.now c.args.text.now c.in-Err.why (c.in-Err.ensures.accepted, c.in-Err.ensures.refused))

pub returns-in-Err-clause-refused : goal.returns-in-Err-clause-refused
returns-in-Err-clause-refused c = subst (λ (e : FileRefused). (why : FileRefused) → IsParseRefused c.args.name.now c.args.text.now why → GivesFile (Err e) (Err why)) (sym c.token_refusal.ensures)
    (err_refused c.args.name.now c.args.text.now c.in-Err.why (c.in-Err.ensures.accepted, c.in-Err.ensures.refused))
