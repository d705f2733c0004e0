use Rattle.tpl_token.proofs.OneAnswer.{has_answer, not_refused, one_list, one_refusal}
use Rattle.tpl_token.proofs.laws.one_answer.Goals as goal

pub returns : goal.returns
returns c = record { some = has_answer; tokens = one_list; refusal = one_refusal; not_both = not_refused }
