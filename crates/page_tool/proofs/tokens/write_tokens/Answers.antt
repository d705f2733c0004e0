use Rattle.page_tool.proofs.TokensStatuses.{tokens_stopped, tokens_written}
use Rattle.page_tool.proofs.tokens.write_tokens.Goals as goal

pub returns-in-Ok-clause-answers : goal.returns-in-Ok-clause-answers
returns-in-Ok-clause-answers g c = tokens_written _ _ _ _ _ c.in-Ok.ensures.text c.write_text.ensures.written

pub returns-in-Err-clause-answers : goal.returns-in-Err-clause-answers
returns-in-Err-clause-answers g c = tokens_stopped _ _ _ c.in-Err.ensures.text
