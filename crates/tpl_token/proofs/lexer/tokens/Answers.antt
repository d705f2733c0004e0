use Rattle.std.proofs.Common.{Some, Ok, sym, ap, ◌∙◌, subst, arith, List}
use Rattle.tpl_token.specs.Grammar.{lexer_beginning, TokensRead}
use Rattle.tpl_token.specs.declared.token.Token.{Token}
use Rattle.tpl_token.proofs.OneAnswer.{ascend, err_accepted, err_answers, err_refused, not_refused, one_list, onward, reads_more, tokens_here}
use Rattle.tpl_token.proofs.NextStands.{says_next}
use Rattle.tpl_token.proofs.TokenCuts.{answer_cut, tokens_cut}
use Rattle.tpl_token.proofs.lexer.tokens.Goals as goal

pub loop-token-smaller : goal.loop-token-smaller
loop-token-smaller c =
    let text = c.args.text.now in
    let from = c.loop-token.cursor in
    let within = c.loop-token.invariant.within in
    let next = says_next text from.state from.at within (Ok (Some (c.in-Ok-Some.token, c.in-Ok-Some.next))) (c.in-Ok-Some.ensures ∙ ap Ok c.in-Ok-Some.field-0-is) in
    let o = onward text from c.in-Ok-Some.token c.in-Ok-Some.next within next in
    omega (arith, o.from_here, o.some, o.whole, o.within)

pub loop-token-preserved : goal.loop-token-preserved
loop-token-preserved c =
    let text = c.args.text.now in
    let from = c.loop-token.cursor in
    let within = c.loop-token.invariant.within in
    let next = says_next text from.state from.at within (Ok (Some (c.in-Ok-Some.token, c.in-Ok-Some.next))) (c.in-Ok-Some.ensures ∙ ap Ok c.in-Ok-Some.field-0-is) in
    let o = onward text from c.in-Ok-Some.token c.in-Ok-Some.next within next in
    record {
      within = o.within;
      reads = subst (λ (ts : List Token). TokensRead text lexer_beginning ts c.in-Ok-Some.next) (sym c.in_ok-push-in-Ok-Some.ensures.ok) (reads_more text lexer_beginning c.loop-token.tokens from c.in-Ok-Some.token c.in-Ok-Some.next c.loop-token.invariant.reads next);
    }

pub returns-in-Ok-None-clause-answers : goal.returns-in-Ok-None-clause-answers
returns-in-Ok-None-clause-answers c = tokens_here c.args.text.now c.loop-token.tokens c.loop-token.cursor c.loop-token.invariant.within c.loop-token.invariant.reads (c.in-Ok-None.ensures ∙ ap Ok c.in-Ok-None.field-0-is)

pub returns-in-Ok-None-clause-accepted : goal.returns-in-Ok-None-clause-accepted
returns-in-Ok-None-clause-accepted c = λ list h.
    let here = tokens_here c.args.text.now c.loop-token.tokens c.loop-token.cursor c.loop-token.invariant.within c.loop-token.invariant.reads (c.in-Ok-None.ensures ∙ ap Ok c.in-Ok-None.field-0-is) in
    ap Ok (one_list c.args.text.now list c.loop-token.tokens h here)

pub returns-in-Ok-None-clause-refused : goal.returns-in-Ok-None-clause-refused
returns-in-Ok-None-clause-refused c = λ why h.
    let here = tokens_here c.args.text.now c.loop-token.tokens c.loop-token.cursor c.loop-token.invariant.within c.loop-token.invariant.reads (c.in-Ok-None.ensures ∙ ap Ok c.in-Ok-None.field-0-is) in
    absurd (not_refused c.args.text.now c.loop-token.tokens why here h)

pub returns-in-Ok-None-clause-spans : goal.returns-in-Ok-None-clause-spans
returns-in-Ok-None-clause-spans c = ascend c.args.text.now c.loop-token.tokens (tokens_here c.args.text.now c.loop-token.tokens c.loop-token.cursor c.loop-token.invariant.within c.loop-token.invariant.reads (c.in-Ok-None.ensures ∙ ap Ok c.in-Ok-None.field-0-is))

pub returns-in-Err-clause-answers : goal.returns-in-Err-clause-answers
returns-in-Err-clause-answers c = err_answers c.args.text.now c.loop-token.tokens c.loop-token.cursor c.in-Err.refused c.loop-token.invariant.within c.loop-token.invariant.reads c.in-Err.ensures

pub returns-in-Err-clause-accepted : goal.returns-in-Err-clause-accepted
returns-in-Err-clause-accepted c = λ list h.
    err_accepted c.args.text.now c.in-Err.refused list (err_answers c.args.text.now c.loop-token.tokens c.loop-token.cursor c.in-Err.refused c.loop-token.invariant.within c.loop-token.invariant.reads c.in-Err.ensures) h

pub returns-in-Err-clause-refused : goal.returns-in-Err-clause-refused
returns-in-Err-clause-refused c = λ why h.
    err_refused c.args.text.now c.in-Err.refused why (err_answers c.args.text.now c.loop-token.tokens c.loop-token.cursor c.in-Err.refused c.loop-token.invariant.within c.loop-token.invariant.reads c.in-Err.ensures) h

pub returns-in-Ok-None-clause-cuts : goal.returns-in-Ok-None-clause-cuts
returns-in-Ok-None-clause-cuts c =
    tokens_cut c.args.text.now c.loop-token.tokens c.utf8.text (tokens_here c.args.text.now c.loop-token.tokens c.loop-token.cursor c.loop-token.invariant.within c.loop-token.invariant.reads (c.in-Ok-None.ensures ∙ ap Ok c.in-Ok-None.field-0-is))

pub returns-in-Err-clause-offset : goal.returns-in-Err-clause-offset
returns-in-Err-clause-offset c =
    answer_cut c.args.text.now c.in-Err.refused c.utf8.text (err_answers c.args.text.now c.loop-token.tokens c.loop-token.cursor c.in-Err.refused c.loop-token.invariant.within c.loop-token.invariant.reads c.in-Err.ensures)
