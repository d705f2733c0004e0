use Rattle.std.proofs.Common.{Bool, None, refl, sym, subst}
use Rattle.place_show.proofs.EdgesTogether.{quiet-passed, text-found-by, told-edge}
use Rattle.place_show.specs.Together.{IsPassedEdge}
use Rattle.place_show.proofs.passing.passed_edge.Goals as goal

pub returns-in-Some-writes : goal.returns-in-Some-writes
returns-in-Some-writes c =
    text-found-by c.args.apart c.args.flows.now c.args.template c.in-Some-writes.node c.args.number c.args.one c.args.other c.passed_node.result
    (λ e at. c.in-Some-writes.ensures e (told-edge _ c.in-Some.edge e c.in-Some.ensures at)) c.passed_node.ensures

pub returns : goal.returns
returns c = λ e at.
    subst (λ (b : Bool). IsPassedEdge b e c.args.one c.args.other None) (sym c.if-not-apart.false)
    (quiet-passed e c.args.one c.args.other (c.if-not-is_quiet.ensures refl e (told-edge _ c.in-Some.edge e c.in-Some.ensures at)))
