use Rattle.url_step.proofs.OneText.{exact-on-one-text}
use Rattle.url_step.proofs.laws.is_exact_on_one_text.Goals as goal

pub returns : goal.returns
returns c = exact-on-one-text
