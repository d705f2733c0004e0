use Rattle.page_http.proofs.Routing.{cuts_behind, rest_behind}
use Rattle.page_http.proofs.routes.after_p.Goals as goal

pub split_at-requires : goal.split_at-requires
split_at-requires c = cuts_behind c.args.path.now c.utf8.path c.requires

pub returns : goal.returns
returns c = rest_behind c.args.path.now _ c.requires c.split_at.ensures.back
