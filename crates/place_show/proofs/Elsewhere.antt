-- A path that ends its root in another place than text is shown.
use Rattle.std.proofs.Common.{◌≡◌, ◌≤◌, false, List, [], ◌∷◌, length, ◌≢◌, ap, refl, arith, inr}
use Rattle.place_core.specs.declared.code.Code.TheVariants as code
use Rattle.place_core.specs.declared.place.Place.{Place}
use Rattle.place_core.specs.declared.place.Place.TheVariants as place
use Rattle.place_trace.specs.Replays.{IsPathReplay}
use Rattle.place_trace.specs.declared.replay.ReplayedCall.{ReplayedCall}
use Rattle.place_trace.specs.declared.replay.PathReplay.{PathReplay}
use Rattle.place_show.proofs.Makings.{shows-one}
use Rattle.place_show.specs.Ends.{is_text_place, last_node_of}
use Rattle.place_show.specs.Made.{IsMadeOne}
use Rattle.place_show.specs.Showings.{IsEndElsewhere, ShowsOne, template_end}
use Rattle.place_show.specs.declared.showing.Showing.{Showing}
use Rattle.tpl_paths.specs.Edges.{finish_point}
use Rattle.tpl_tree.specs.Forests.{ForestData, tree_at}

pub not-text : (p : Place) → false ≡ is_text_place p → p ≢ place.Text
not-text p h e = (let t = ap is_text_place e in cc)

pub none-open : (calls : List ReplayedCall) → length calls ≤ 0 → calls ≡ []
none-open [] h = refl
none-open (o ∷ calls) h = absurd (omega (arith, h))

pub end-shown : (forest : ForestData) (w : PathReplay) (sh : Showing) → w.template ≡ w.root → w.open_calls.items ≡ [] → w.point ≡ finish_point → w.place ≢ place.Text
    → IsMadeOne forest w code.EndContext (template_end (tree_at forest w.root)) (last_node_of (tree_at forest w.root)) 0 w.place sh → IsPathReplay forest w → ShowsOne forest sh
end-shown forest w sh root closed point elsewhere m is =
    let error : IsEndElsewhere forest sh m.seen w = record {
      code = m.made.code;
      root = root;
      closed = closed;
      point = point;
      at = m.is.place;
      elsewhere = elsewhere;
      line = m.made.line_is;
      last = m.made.node_is;
      byte = m.made.byte_is;
    } in
    shows-one forest w code.EndContext (template_end (tree_at forest w.root)) (last_node_of (tree_at forest w.root)) 0 w.place sh m is (inr (inr (inr (inr error))))
