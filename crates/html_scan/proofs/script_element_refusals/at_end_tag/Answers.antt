use Rattle.std.proofs.Common.{◌+◌}
use Rattle.html_scan.specs.ScanViews.{script_reach}
use Rattle.html_scan.proofs.ScriptBacks.{cause_room, end_reaches}
use Rattle.html_scan.proofs.script_element_refusals.at_end_tag.Goals as goal

pub standing-requires : goal.standing-requires
standing-requires c = record {
  room = cause_room (script_reach c.args.script) (c.args.letters + 2) c.refused_at_end.result c.requires.room
      (end_reaches c.args.script c.refused_at_end.result c.refused_at_end.ensures);
}

pub returns-clause-bound : goal.returns-clause-bound
returns-clause-bound c =
    c.standing.ensures.bound (script_reach c.args.script) (end_reaches c.args.script c.refused_at_end.result c.refused_at_end.ensures)
