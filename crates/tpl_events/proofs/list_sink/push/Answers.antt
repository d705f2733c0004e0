use Rattle.std.proofs.Common.{◌∙◌, ap}
use Rattle.tpl_events.specs.Lists.{kept_events}
use Rattle.tpl_events.proofs.Keeping.{kept_events-push}
use Rattle.tpl_events.proofs.list_sink.push.Goals as goal

pub returns-clause-ok : goal.returns-clause-ok
returns-clause-ok c = ap kept_events c.in_ok-push.ensures.items ∙ kept_events-push c.args.kept.now.items c.args.event
