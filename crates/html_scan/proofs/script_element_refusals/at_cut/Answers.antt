use Rattle.std.proofs.Common.{arith}
use Rattle.html_scan.specs.ScanViews.{script_reach}
use Rattle.html_scan.proofs.ScriptBacks.{cause_room, cut_reaches}
use Rattle.html_scan.proofs.ScriptElements.{bound_alone}
use Rattle.html_scan.proofs.script_element_refusals.at_cut.Goals as goal

pub standing-requires : goal.standing-requires
standing-requires c = record {
  room = cause_room (script_reach c.args.script) 0 c.refused_at_cut.result (omega (arith, c.requires.room))
      (cut_reaches c.args.script c.refused_at_cut.result c.refused_at_cut.ensures);
}

pub returns-clause-bound : goal.returns-clause-bound
returns-clause-bound c =
    bound_alone (script_reach c.args.script) c.standing.result
    (c.standing.ensures.bound (script_reach c.args.script) (cut_reaches c.args.script c.refused_at_cut.result c.refused_at_cut.ensures))
