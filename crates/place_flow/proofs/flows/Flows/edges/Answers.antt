use Rattle.std.proofs.Common.{◌≡◌, ◌<◌, ◌≤◌, length, get_or, List, ◌∙◌, subst}
use Rattle.std.specs.Global.{Vec}
use Rattle.tpl_paths.specs.declared.edge.Edge.{Edge as ReadEdge}
use Rattle.tpl_tree.specs.Forests.{ForestData}
use Rattle.place_flow.specs.FlowViews.{AreEdgesOf}
use Rattle.place_flow.proofs.KeptEdges.{kept-edges, no-edges}
use Rattle.place_flow.proofs.flows.Flows.edges.Goals as goal

pub returns-in-Some : goal.returns-in-Some
returns-in-Some c =
    let h = c.in-Some.ensures.lookup.3 in
    let at = subst (λ (es : List (Vec ReadEdge)). (c.args.template < length es) × (c.in-Some.edges.now ≡ get_or es c.args.template c.in-Some.edges.now)) c.deref.ensures.value (h.0, h.1 c.in-Some.edges.now) in
    c.as_slice.ensures.value ∙ kept-edges c.args.self.now c.self.inside.edges.items c.args.template c.in-Some.edges.now (subst (λ (f : ForestData). AreEdgesOf f c.self.inside.edges.items) c.self.view_is c.self.invariant) at.0 at.1

pub returns-in-None : goal.returns-in-None
returns-in-None c =
    let at = subst (λ (es : List (Vec ReadEdge)). length es ≤ c.args.template) c.deref.ensures.value c.in-None.ensures.lookup.3 in
    no-edges c.args.self.now c.self.inside.edges.items c.args.template (subst (λ (f : ForestData). AreEdgesOf f c.self.inside.edges.items) c.self.view_is c.self.invariant) at
