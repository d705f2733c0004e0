-- Where the paths of a template meet.
use Rattle.std.specs.Prelude.{◌≡◌, ◌⊎◌, List, ℕ, ⊤}
use Rattle.place_infer.specs.BreaksInRanges.{HasBreaksInRanges}
use Rattle.tpl_paths.specs.Edges.{Edge, Point, Within, edges_in, to_of}
use Rattle.tpl_paths.specs.declared.point.Point.TheVariants as point
use Rattle.tpl_tree.specs.Forests.{ForestData}

-- at a range, at its head, and after the parts of a control
abbrev pub IsMeetingPoint : Point → Type 0
IsMeetingPoint (point.Before n) = ⊥
IsMeetingPoint (point.Again n) = ⊤
IsMeetingPoint (point.Head n) = ⊤
IsMeetingPoint (point.Past n) = ⊤
IsMeetingPoint point.Finish = ⊥

-- Two edges of a template lead to one point only there.
abbrev pub EdgesMeetAtControls : Type 0
EdgesMeetAtControls = (forest : ForestData) (name : List ℕ) (e f : Edge) → HasBreaksInRanges forest → Within e (edges_in forest name) → Within f (edges_in forest name) → to_of e ≡ to_of f
    → IsMeetingPoint (to_of e) ⊎ (e ≡ f)
