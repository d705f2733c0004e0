use Rattle.html_step.proofs.FromTexts.{from-text}
use Rattle.html_step.proofs.laws.members_come_from_one.Goals as goal

pub returns : goal.returns
returns c = from-text
