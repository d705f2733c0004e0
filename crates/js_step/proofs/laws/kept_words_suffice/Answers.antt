use Rattle.js_step.proofs.KeptAnswers.{kept-words-suffice}
use Rattle.js_step.proofs.laws.kept_words_suffice.Goals as goal

pub returns : goal.returns
returns c = kept-words-suffice
