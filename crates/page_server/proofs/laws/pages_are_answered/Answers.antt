use Rattle.page_server.proofs.PageAnswers.{pages_answered}
use Rattle.page_server.proofs.laws.pages_are_answered.Goals as goal

pub returns : goal.returns
returns g c = pages_answered g.P.Pages.execution g.P.Pages.made_of g.P.Pages.is_execution g.P.Pages.is_sound
