use Rattle.page_server.proofs.Order.{in_order}
use Rattle.page_server.proofs.laws.replies_are_in_order.Goals as goal

pub returns : goal.returns
returns g c = in_order g.P.Pages.execution g.P.Pages.made_of g.P.Pages.is_execution g.P.Pages.is_sound
