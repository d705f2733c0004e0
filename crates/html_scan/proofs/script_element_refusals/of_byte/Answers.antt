use Rattle.html_scan.specs.ScanViews.{script_reach}
use Rattle.html_scan.proofs.ScriptBacks.{cause_room, error_reaches}
use Rattle.html_scan.proofs.script_element_refusals.of_byte.Goals as goal

pub standing-requires : goal.standing-requires
standing-requires c = record {
  room = cause_room (script_reach c.args.script) c.args.behind c.refused.result c.requires.room
      (error_reaches c.args.script c.args.byte c.refused.result c.refused.ensures);
}

pub returns-clause-bound : goal.returns-clause-bound
returns-clause-bound c =
    c.standing.ensures.bound (script_reach c.args.script) (error_reaches c.args.script c.args.byte c.refused.result c.refused.ensures)
