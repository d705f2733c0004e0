-- Ways in templates that two paths go together.
use Rattle.std.proofs.Common.{◌≡◌, ℕ, true, ◌<◌, List, [], ◌∷◌, ◌++◌, Option, Some, None, length, refl, sym, ap, subst}
use Rattle.std.specs.Prelude.{slice_get}
use Rattle.place_core.specs.declared.place.Place.{Place}
use Rattle.place_flow.specs.Flows.{choice_of, edges_at, start_at}
use Rattle.place_flow.specs.Transfer.{step_of}
use Rattle.place_flow.specs.declared.step.EdgeStep.TheVariants.{Reaches, Enters}
use Rattle.place_show.proofs.GoingBoth.{both-after, both-stay}
use Rattle.place_show.proofs.PassedMoves.{one-move}
use Rattle.place_show.specs.Showings.{shown_state}
use Rattle.place_show.specs.Together.{GoBoth, IsPassedEdge, LastPlaces, latest}
use Rattle.place_show.specs.WaysTogether.{LeadsTogether}
use Rattle.place_show.specs.declared.ways_together.TwoPlaces.{TwoPlaces}
use Rattle.place_trace.proofs.UnchosenLeads.{call-entered, call-left, edge-gone}
use Rattle.place_trace.specs.Replays.{ReplayData, point_node}
use Rattle.place_trace.specs.UnchosenWays.{replay_at}
use Rattle.place_trace.specs.declared.chosen.Chosen.{Chosen}
use Rattle.place_trace.specs.declared.replay.ReplayedCall.{ReplayedCall}
use Rattle.tpl_paths.specs.Edges.{Edge, Point, finish_point, from_of, to_of}
use Rattle.tpl_paths.specs.Paths.{along, back}
use Rattle.tpl_paths.specs.declared.choice.Way.{Way}
use Rattle.tpl_tree.specs.Forests.{ForestData, HasAscendingNames}

abbrev pub two : Place → Place → LastPlaces → TwoPlaces
two x y last = record { one = x; other = y; last = last }

-- nothing is gone yet
pub together-nowhere : (forest : ForestData) (t : ℕ) (k : Point) (x y : Place) → LeadsTogether forest t k x y k (two x y None)
together-nowhere forest t k x y = record {
  goes = λ root other_root calls other_calls chosen other_chosen.
      both-stay forest (replay_at root calls t k x chosen) (replay_at other_root other_calls t k y other_chosen);
}

-- one step more
module _ (forest : ForestData) (t number : ℕ) (k0 : Point) (x0 y0 : Place) (k : Point) (z : TwoPlaces) (e : Edge) (to : Point) (found : LastPlaces) (up : HasAscendingNames forest)
    (at : slice_get (edges_at forest t) number ≡ Some e) (from : k ≡ from_of e) (end : to ≡ to_of e) (passed : IsPassedEdge true e z.one z.other found) (leads : LeadsTogether forest t k0 x0 y0 k z) where
  -- along an edge that is no choice and no call
  pub together-along : (p q : Place) (choice : Option Way) → choice ≡ choice_of e → choice ≡ None → step_of forest t e z.one ≡ Reaches p → step_of forest t e z.other ≡ Reaches q
      → LeadsTogether forest t k0 x0 y0 to (two p q (latest z.last found))
  together-along p q choice picked none step other_step = record {
    goes = λ root other_root calls other_calls chosen other_chosen.
        let w : ReplayData = replay_at root calls t k z.one chosen in
        let v : ReplayData = replay_at other_root other_calls t k z.other other_chosen in
        let w1 : ReplayData = replay_at root calls t to p chosen in
        let v1 : ReplayData = replay_at other_root other_calls t to q other_chosen in
        let more : GoBoth forest w v w1 v1 found = record {
          root = refl;
          moves = along e ∷ [];
          goes = edge-gone forest t number k z.one e to up at from end root calls chosen p choice picked none step;
          other_goes = edge-gone forest t number k z.other e to up at from end other_root other_calls other_chosen q choice picked none other_step;
          passes = λ is js. (let pass = passed (shown_state is) (shown_state js) (is.own, is.valid) (js.own, js.valid) in one-move (along e) (shown_state is) (shown_state js) found pass.0 pass.1);
        } in
        both-after forest (replay_at root calls t k0 x0 chosen) (replay_at other_root other_calls t k0 y0 other_chosen) w v w1 v1 z.last found
        (leads.goes root other_root calls other_calls chosen other_chosen) more;
  }

  -- through a template that is called, and back
  pub together-through : (c : ℕ) (p q : Place) (exit : TwoPlaces) → t < length forest → step_of forest t e z.one ≡ Enters c p → step_of forest t e z.other ≡ Enters c q
      → LeadsTogether forest c (start_at forest c) p q finish_point exit → LeadsTogether forest t k0 x0 y0 to (two exit.one exit.other (latest (latest z.last found) exit.last))
  together-through c p q exit within step other_step through = record {
    goes = λ root other_root calls other_calls chosen other_chosen.
        let o : ReplayedCall = record { template = t; node = point_node k; back = to } in
        let w0 : ReplayData = replay_at root calls t k0 x0 chosen in
        let v0 : ReplayData = replay_at other_root other_calls t k0 y0 other_chosen in
        let w : ReplayData = replay_at root calls t k z.one chosen in
        let v : ReplayData = replay_at other_root other_calls t k z.other other_chosen in
        let w1 : ReplayData = replay_at root (calls ++ o ∷ []) c (start_at forest c) p chosen in
        let v1 : ReplayData = replay_at other_root (other_calls ++ o ∷ []) c (start_at forest c) q other_chosen in
        let w2 : ReplayData = replay_at root (calls ++ o ∷ []) c finish_point exit.one chosen in
        let v2 : ReplayData = replay_at other_root (other_calls ++ o ∷ []) c finish_point exit.other other_chosen in
        let w3 : ReplayData = replay_at root calls t to exit.one chosen in
        let v3 : ReplayData = replay_at other_root other_calls t to exit.other other_chosen in
        let in_call : GoBoth forest w v w1 v1 found = record {
          root = refl;
          moves = along e ∷ [];
          goes = call-entered forest t number k z.one e to up at from end root calls chosen c p step;
          other_goes = call-entered forest t number k z.other e to up at from end other_root other_calls other_chosen c q other_step;
          passes = λ is js. (let pass = passed (shown_state is) (shown_state js) (is.own, is.valid) (js.own, js.valid) in one-move (along e) (shown_state is) (shown_state js) found pass.0 pass.1);
        } in
        let out : GoBoth forest w2 v2 w3 v3 None = record {
          root = refl;
          moves = back ∷ [];
          goes = call-left forest t number k z.one e to up at from end root calls chosen c exit.one within;
          other_goes = call-left forest t number k z.other e to up at from end other_root other_calls other_chosen c exit.other within;
          passes = λ is js. one-move back (shown_state is) (shown_state js) None (tt, tt) tt;
        } in
        both-after forest w0 v0 w2 v2 w3 v3 (latest (latest z.last found) exit.last) None
        (both-after forest w0 v0 w1 v1 w2 v2 (latest z.last found) exit.last
        (both-after forest w0 v0 w v w1 v1 z.last found (leads.goes root other_root calls other_calls chosen other_chosen) in_call)
        (through.goes root other_root (calls ++ o ∷ []) (other_calls ++ o ∷ []) chosen other_chosen))
        out;
  }

-- two paths that stand at one point of one template
pub both-there : (forest : ForestData) (w v w1 v1 : ReplayData) (l : Point) (z : TwoPlaces) → w.template ≡ v.template → w.point ≡ v.point
    → LeadsTogether forest w.template w.point w.place v.place l z → w1 ≡ replay_at w.root w.open_calls w.template l z.one w.chosen → v1 ≡ replay_at v.root v.open_calls v.template l z.other v.chosen
    → GoBoth forest w v w1 v1 z.last
both-there forest w v w1 v1 l z same stands leads is js =
    subst (λ (a : ReplayData). GoBoth forest w v a v1 z.last) (sym is) (subst (λ (b : ReplayData). GoBoth forest w v (replay_at w.root w.open_calls w.template l z.one w.chosen) b z.last) (sym js)
    (subst (λ (t : ℕ). GoBoth forest w (replay_at v.root v.open_calls t v.point v.place v.chosen) (replay_at w.root w.open_calls w.template l z.one w.chosen) (replay_at v.root v.open_calls t l z.other v.chosen) z.last) same
    (subst (λ (k : Point). GoBoth forest w (replay_at v.root v.open_calls w.template k v.place v.chosen) (replay_at w.root w.open_calls w.template l z.one w.chosen) (replay_at v.root v.open_calls w.template l z.other v.chosen) z.last) stands
    (leads.goes w.root v.root w.open_calls v.open_calls w.chosen v.chosen))))
