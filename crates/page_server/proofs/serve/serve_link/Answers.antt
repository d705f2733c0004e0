use Rattle.page_server.proofs.Order.{link_grows, link_last}
use Rattle.page_server.proofs.serve.serve_link.Goals as goal

pub returns-clause-grows : goal.returns-clause-grows
returns-clause-grows g c = link_grows _ _ _ _ _ c.serve_with.ensures.serves

pub returns-clause-last : goal.returns-clause-last
returns-clause-last g c =
    link_last _ g.P.Pages.execution g.P.Pages.made_of g.P.Pages.is_execution g.P.Pages.is_sound _ _ _ c.serve_with.ensures.serves
