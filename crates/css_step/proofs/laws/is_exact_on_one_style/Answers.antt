use Rattle.css_step.proofs.OneStylePath.{exact-on-one-style}
use Rattle.css_step.proofs.laws.is_exact_on_one_style.Goals as goal

pub returns : goal.returns
returns c = exact-on-one-style
