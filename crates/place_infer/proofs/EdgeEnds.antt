-- An edge whose ends are told is there.
use Rattle.std.proofs.Common.{◌≡◌, Option, Some, None, option_map, refl}
use Rattle.std.proofs.lemmas.Option.{some_pair_parts}
use Rattle.tpl_paths.specs.Edges.{Edge, Point, from_of, to_of}

pub record HasEnds (o : Option Edge) (from to : Point) : Type 0 where
  pub edge : Edge
  pub is : o ≡ Some edge
  pub begins : from ≡ from_of edge
  pub ends : to ≡ to_of edge

pub has-ends : (o : Option Edge) (from to : Point) → ◌≡◌ {A = Option (Point × Point)} (Some (from, to)) (option_map (λ e. (from_of e, to_of e)) o) → HasEnds o from to
has-ends None from to h = cc
has-ends (Some e) from to h = (let p = some_pair_parts from (from_of e) to (to_of e) h in record { edge = e; is = refl; begins = p.0; ends = p.1 })
