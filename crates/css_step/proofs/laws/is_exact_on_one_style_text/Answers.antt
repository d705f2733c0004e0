use Rattle.css_step.proofs.OneStyleText.{exact-on-one-style-text}
use Rattle.css_step.proofs.laws.is_exact_on_one_style_text.Goals as goal

pub returns : goal.returns
returns c = exact-on-one-style-text
