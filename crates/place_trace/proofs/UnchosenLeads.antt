-- Ways in templates on which nothing is chosen.
use Rattle.std.proofs.Common.{◌≡◌, ℕ, ◌<◌, List, [], ◌∷◌, ◌++◌, Option, Some, None, append-nil, length, refl, sym, ap, ◌∙◌}
use Rattle.std.specs.Prelude.{slice_get}
use Rattle.place_core.specs.declared.place.Place.{Place}
use Rattle.place_flow.specs.Flows.{choice_of, edges_at, start_at}
use Rattle.place_flow.specs.Transfer.{step_of}
use Rattle.place_flow.specs.declared.step.EdgeStep.TheVariants.{Reaches, Enters}
use Rattle.place_trace.proofs.Replaying.{arrived, entered, went-back}
use Rattle.place_trace.specs.Moving.{noted}
use Rattle.place_trace.specs.Replays.{IsReplayOf, ReplayData, point_node}
use Rattle.place_trace.specs.UnchosenWays.{LeadsUnchosen, replay_at}
use Rattle.place_trace.specs.declared.chosen.Chosen.{Chosen}
use Rattle.place_trace.specs.declared.replay.ReplayedCall.{ReplayedCall}
use Rattle.tpl_paths.specs.Edges.{Edge, Point, finish_point, from_of, to_of}
use Rattle.tpl_paths.specs.Paths.{Move, along, back}
use Rattle.tpl_paths.specs.declared.choice.Way.{Way}
use Rattle.tpl_tree.specs.Forests.{ForestData, HasAscendingNames}

-- nothing is gone yet
pub leads-nowhere : (forest : ForestData) (t : ℕ) (k : Point) (x : Place) → LeadsUnchosen forest t k x k x
leads-nowhere forest t k x = record { goes = λ root calls chosen is. is }

-- a path at one point of a template goes on to another point by a move
abbrev pub GoesBy : (forest : ForestData) (root : ℕ) (calls : List ReplayedCall) (t : ℕ) (k : Point) (x : Place) (chosen : List Chosen) (new : ReplayData) → Move → Type 0
GoesBy forest root calls t k x chosen new m = (is : IsReplayOf forest (replay_at root calls t k x chosen)) → (now : IsReplayOf forest new) × (now.moves ≡ is.moves ++ m ∷ [])

-- along an edge of a number
module _ (forest : ForestData) (t number : ℕ) (k : Point) (x : Place) (e : Edge) (to : Point) (up : HasAscendingNames forest) (at : slice_get (edges_at forest t) number ≡ Some e)
    (from : k ≡ from_of e) (end : to ≡ to_of e) (root : ℕ) (calls : List ReplayedCall) (chosen : List Chosen) where
  -- that is no choice and no call
  pub edge-gone : (y : Place) (choice : Option Way) → choice ≡ choice_of e → choice ≡ None → step_of forest t e x ≡ Reaches y
      → GoesBy forest root calls t k x chosen (replay_at root calls t to y chosen) (along e)
  edge-gone y choice picked none step is =
      arrived forest (replay_at root calls t k x chosen) (replay_at root calls t to y chosen) is number up e to y choice at from end picked step (record {
        same_root = refl;
        same_calls = refl;
        same_template = refl;
        stands = refl;
        own = refl;
        notes = sym (append-nil chosen) ∙ ap (λ (c : Option Way). chosen ++ noted t k c) (sym none);
      })

  abbrev pub the_call : ReplayedCall
  the_call = record { template = t; node = point_node k; back = to }

  -- that is a call, into the template
  pub call-entered : (c : ℕ) (q : Place) → step_of forest t e x ≡ Enters c q
      → GoesBy forest root calls t k x chosen (replay_at root (calls ++ the_call ∷ []) c (start_at forest c) q chosen) (along e)
  call-entered c q step is =
      entered forest (replay_at root calls t k x chosen) (replay_at root (calls ++ the_call ∷ []) c (start_at forest c) q chosen) is number up e to c q at from end step (record {
        same_root = refl;
        opens = refl;
        enters = refl;
        stands = refl;
        own = refl;
        same_chosen = refl;
      })

  -- and back from its end
  pub call-left : (c : ℕ) (y : Place) → t < length forest → GoesBy forest root (calls ++ the_call ∷ []) c finish_point y chosen (replay_at root calls t to y chosen) back
  call-left c y within is =
      went-back forest (replay_at root (calls ++ the_call ∷ []) c finish_point y chosen) (replay_at root calls t to y chosen) is the_call within refl refl refl refl refl refl refl

-- one step more: along an edge that is no choice and no call
pub leads-along : (forest : ForestData) (t number : ℕ) (k0 : Point) (x0 : Place) (k : Point) (x : Place) (e : Edge) (to : Point) (y : Place) (choice : Option Way) → HasAscendingNames forest
    → slice_get (edges_at forest t) number ≡ Some e → k ≡ from_of e → to ≡ to_of e → choice ≡ choice_of e → choice ≡ None → step_of forest t e x ≡ Reaches y
    → LeadsUnchosen forest t k0 x0 k x → LeadsUnchosen forest t k0 x0 to y
leads-along forest t number k0 x0 k x e to y choice up at from end picked none step leads = record {
  goes = λ root calls chosen is. (edge-gone forest t number k x e to up at from end root calls chosen y choice picked none step (leads.goes root calls chosen is)).0;
}

-- through a template that is called, and back
pub leads-through : (forest : ForestData) (t number : ℕ) (k0 : Point) (x0 : Place) (k : Point) (x : Place) (e : Edge) (to : Point) (c : ℕ) (q y : Place) → HasAscendingNames forest → t < length forest
    → slice_get (edges_at forest t) number ≡ Some e → k ≡ from_of e → to ≡ to_of e → step_of forest t e x ≡ Enters c q → LeadsUnchosen forest c (start_at forest c) q finish_point y
    → LeadsUnchosen forest t k0 x0 k x → LeadsUnchosen forest t k0 x0 to y
leads-through forest t number k0 x0 k x e to c q y up within at from end step through leads = record {
  goes = λ root calls chosen is.
      let o : ReplayedCall = record { template = t; node = point_node k; back = to } in
      let inside = (call-entered forest t number k x e to up at from end root calls chosen c q step (leads.goes root calls chosen is)).0 in
      (call-left forest t number k x e to up at from end root calls chosen c y within (through.goes root (calls ++ o ∷ []) chosen inside)).0;
}
