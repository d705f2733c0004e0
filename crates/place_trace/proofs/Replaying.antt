-- A path that is replayed goes on, into a call and back.
use Rattle.std.proofs.Common.{◌≡◌, ℕ, ◌<◌, List, [], ◌∷◌, ◌++◌, Option, Some, map, append-nil, length, refl, sym, ap, ap₂, ◌∙◌, subst}
use Rattle.std.proofs.lemmas.List.{map-append}
use Rattle.std.specs.Prelude.{slice_get}
use Rattle.place_flow.specs.Covering.{read_moves}
use Rattle.place_flow.specs.HtmlCovering.{html_language}
use Rattle.place_core.specs.page.Html.{start}
use Rattle.place_core.specs.place.Places.{IsValid}
use Rattle.place_core.specs.place.StatePlaces.{placed}
use Rattle.place_core.specs.page.States.{LexState}
use Rattle.place_core.specs.page.Tags.{ValueState}
use Rattle.place_core.specs.declared.place.Place.{Place}
use Rattle.place_core.specs.declared.place.Place.TheVariants as place
use Rattle.place_flow.proofs.PointStateLaws.{below_refl}
use Rattle.place_flow.proofs.StepLaws.{step-keeps-valid}
use Rattle.place_flow.specs.Flows.{choice_of, edges_at, start_at}
use Rattle.place_flow.specs.Laws.{IsValidStep}
use Rattle.place_flow.specs.Transfer.{step_of}
use Rattle.place_flow.specs.declared.step.EdgeStep.{EdgeStep}
use Rattle.place_flow.specs.declared.step.EdgeStep.TheVariants.{Reaches, Enters}
use Rattle.place_trace.proofs.OpenCalls.{opens-more}
use Rattle.place_trace.proofs.OwnPlaces.{reaches-own}
use Rattle.place_trace.proofs.Tellings.{edge-noted, told-append}
use Rattle.place_trace.specs.Moving.{HasEntered, HasArrived, call_to, noted}
use Rattle.place_trace.specs.Replays.{IsReplayOf, ReplayData, IsNameKnown, name_or_none, point_node, open_of, opens_of, told, told_of}
use Rattle.place_trace.specs.declared.chosen.Chosen.{Chosen}
use Rattle.place_trace.specs.declared.replay.ReplayedCall.{ReplayedCall}
use Rattle.place_flow.proofs.ClearSteps.{IsTaken, step-clear}
use Rattle.place_flow.proofs.Goings.{clear-append, read-append}
use Rattle.place_flow.proofs.NamedParts.{edge_within, has_name, named, numbered, same_start}
use Rattle.place_flow.proofs.StepEdges.{IsCall, is-call, stays-within}
use Rattle.place_flow.specs.Errors.{IsClear}
use Rattle.tpl_paths.proofs.Appends.{reached-append, walk-append}
use Rattle.tpl_paths.specs.Edges.{Edge, Point, calls, finish_point, from_of, to_of}
use Rattle.tpl_paths.specs.Paths.{HasCall, IsMove, IsPath, Move, Open, Standing, after_moves, along, along_edge, at_root, back, reached, open_standing}
use Rattle.tpl_tree.specs.Forests.{ForestData, HasAscendingNames, tree_name_at, number_named}

-- one move more, from where the path stands
module _ (forest : ForestData) (w new : ReplayData) (is : IsReplayOf forest w) where
  abbrev here : Standing
  here = open_standing (opens_of forest w.open_calls) is.name w.point

  abbrev state : LexState ValueState
  state = read_moves html_language is.moves start.at

  abbrev root : Standing
  root = at_root forest is.root_name

  record IsNext (m : Move) (more : List Chosen) : Type 0 where
    same_root : new.root ≡ w.root
    name : List ℕ
    name_is : tree_name_at forest new.template ≡ Some name
    moves : IsMove forest here m
    clear : IsClear forest here state (m ∷ [])
    leads : after_moves forest here m ≡ open_standing (opens_of forest new.open_calls) name new.point
    own : placed (read_moves html_language (m ∷ []) state) ≡ Some new.place
    valid : IsValid new.place
    tells : told forest here (m ∷ []) ≡ map (told_of forest) more
    notes : new.chosen ≡ w.chosen ++ more

  -- the path that goes on by a move
  abbrev pub IsBy : Move → Type 0
  IsBy m = (now : IsReplayOf forest new) × (now.moves ≡ is.moves ++ m ∷ [])

  one-more : (m : Move) (more : List Chosen) → IsNext m more → IsBy m
  one-more m more next = (
    record {
      root_name = is.root_name;
      root_is = ap (tree_name_at forest) next.same_root ∙ is.root_is;
      name = next.name;
      name_is = next.name_is;
      moves = is.moves ++ m ∷ [];
      path = walk-append forest root is.moves (m ∷ []) is.path (subst (λ (x : Standing). IsPath forest x (m ∷ [])) (sym is.stands) (next.moves, tt));
      clear = clear-append forest root start.at is.moves (m ∷ []) is.clear (subst (λ (x : Standing). IsClear forest x state (m ∷ [])) (sym is.stands) next.clear);
      stands = reached-append forest root is.moves (m ∷ []) ∙ (ap (λ (x : Standing). reached forest x (m ∷ [])) is.stands ∙ next.leads);
      own = ap placed (read-append is.moves (m ∷ []) start.at) ∙ next.own;
      valid = next.valid;
      chosen =
          told-append forest root is.moves (m ∷ [])
          ∙ (ap₂ (λ (xs ys : List IsNameKnown). xs ++ ys) is.chosen (ap (λ (x : Standing). told forest x (m ∷ [])) is.stands ∙ next.tells)
          ∙ (sym (map-append (told_of forest) w.chosen more) ∙ ap (map (told_of forest)) (sym next.notes)));
    },
    refl,
  )

  -- what is known of an edge that is taken
  module _ (number : ℕ) (up : HasAscendingNames forest) where
    ours : number_named is.name forest ≡ Some w.template
    ours = numbered forest w.template is.name up is.name_is

    edge-move : (e : Edge) → slice_get (edges_at forest w.template) number ≡ Some e → w.point ≡ from_of e → IsMove forest here (along e)
    edge-move e at from = (edge_within forest w.template number is.name e ours at, from)

    edge-clear : (e : Edge) (r : EdgeStep) → step_of forest w.template e w.place ≡ r → IsTaken r → IsClear forest here state (along e ∷ [])
    edge-clear e r step taken = (
      step-clear forest w.template is.name e w.place state ours is.valid (record { own = w.place; stands = is.own; valid = is.valid; below = below_refl w.place })
          (subst IsTaken (sym step) taken),
      tt,
    )

    edge-valid : (e : Edge) (r : EdgeStep) → step_of forest w.template e w.place ≡ r → IsValidStep r
    edge-valid e r step = subst IsValidStep step (step-keeps-valid forest w.template e w.place is.valid)

    pub arrived : (e : Edge) (to : Point) (q : Place) (choice : _) → slice_get (edges_at forest w.template) number ≡ Some e → w.point ≡ from_of e → to ≡ to_of e → choice ≡ choice_of e
        → step_of forest w.template e w.place ≡ Reaches q → HasArrived w new to q choice → IsBy (along e)
    arrived e to q choice at from end picked step h = one-more (along e) (noted w.template w.point (choice_of e)) (record {
      same_root = h.same_root;
      name = is.name;
      name_is = ap (tree_name_at forest) h.same_template ∙ is.name_is;
      moves = edge-move e at from;
      clear = edge-clear e (Reaches q) step tt;
      leads =
          ap (λ (k : Point). along_edge forest (open_standing (opens_of forest w.open_calls) is.name k) e) from
          ∙ (stays-within forest w.template e w.place q (opens_of forest w.open_calls) is.name step
          ∙ ap₂ (λ (os : List ReplayedCall) (k : Point). open_standing (opens_of forest os) is.name k) (sym h.same_calls) (sym (h.stands ∙ end)));
      own = reaches-own forest w.template e w.place q state is.own step ∙ ap Some (sym h.own);
      valid = subst IsValid (sym h.own) (edge-valid e (Reaches q) step);
      tells = edge-noted forest w.template is.name w.point e is.name_is from;
      notes = h.notes ∙ ap (λ (c : _). w.chosen ++ noted w.template w.point c) picked;
    })

    entered-call : (n : ℕ) (callee : List ℕ) (to : Point) (c : ℕ) (q : Place) → slice_get (edges_at forest w.template) number ≡ Some (calls n callee to) → w.point ≡ from_of (calls n callee to)
        → number_named callee forest ≡ Some c → q ≡ w.place → step_of forest w.template (calls n callee to) w.place ≡ Enters c q
        → HasEntered w new c (start_at forest c) to q → IsBy (along (calls n callee to))
    entered-call n callee to c q at from known same step h = one-more (along (calls n callee to)) [] (record {
      same_root = h.same_root;
      name = callee;
      name_is = ap (tree_name_at forest) h.enters ∙ named forest c callee known;
      moves = edge-move (calls n callee to) at from;
      clear = edge-clear (calls n callee to) (Enters c q) step tt;
      leads = ap₂ (λ (os : List Open) (k : Point). open_standing os callee k) (opens at from known same step h) (same_start forest c callee known ∙ sym h.stands);
      own = is.own ∙ ap Some (sym same ∙ sym h.own);
      valid = subst IsValid (sym h.own) (edge-valid (calls n callee to) (Enters c q) step);
      tells = refl;
      notes = h.same_chosen ∙ sym (append-nil w.chosen);
    })
      where
        call-of : Option (List ℕ) → Point → List Open
        call-of o k = (let x : Open = record { template = name_or_none o; node = point_node k; back = to } in x ∷ opens_of forest w.open_calls)

        opens : slice_get (edges_at forest w.template) number ≡ Some (calls n callee to) → w.point ≡ from_of (calls n callee to) → number_named callee forest ≡ Some c → q ≡ w.place
            → step_of forest w.template (calls n callee to) w.place ≡ Enters c q → HasEntered w new c (start_at forest c) to q
            → call-of (Some is.name) (from_of (calls n callee to)) ≡ opens_of forest new.open_calls
        opens at from known same step h =
            ap₂ call-of (sym is.name_is) (sym from) ∙ (sym (opens-more forest w.open_calls (call_to w to)) ∙ ap (opens_of forest) (sym h.opens))

    pub entered : (e : Edge) (to : Point) (c : ℕ) (q : Place) → slice_get (edges_at forest w.template) number ≡ Some e → w.point ≡ from_of e → to ≡ to_of e
        → step_of forest w.template e w.place ≡ Enters c q → HasEntered w new c (start_at forest c) to q → IsBy (along e)
    entered e to c q at from end step h =
        let k : IsCall forest e c w.place q = is-call forest w.template e w.place c q step in
        subst (λ (d : Edge). slice_get (edges_at forest w.template) number ≡ Some d → w.point ≡ from_of d → to ≡ to_of d → step_of forest w.template d w.place ≡ Enters c q → IsBy (along d))
        (sym k.is)
        (λ a f t s. entered-call k.node k.callee k.behind c q a f k.number k.place s (subst (λ (x : Point). HasEntered w new c (start_at forest c) x q) t h))
        at from end step

  -- out of the innermost call
  pub went-back : (o : ReplayedCall) → o.template < length forest → w.point ≡ finish_point → w.open_calls ≡ new.open_calls ++ o ∷ [] → new.root ≡ w.root → new.template ≡ o.template
      → new.point ≡ o.back → new.place ≡ w.place → new.chosen ≡ w.chosen → IsBy back
  went-back o within end calls_are same_root template point own chosen =
      let n = has_name forest o.template within in
      let os : opens_of forest w.open_calls ≡ open_of forest o ∷ opens_of forest new.open_calls = ap (opens_of forest) calls_are ∙ opens-more forest new.open_calls o in
      one-more back [] (record {
        same_root = same_root;
        name = n.0;
        name_is = ap (tree_name_at forest) template ∙ n.1;
        moves = (subst HasCall (sym os) tt, end);
        clear = tt;
        leads =
            ap (λ (x : List Open). after_moves forest (open_standing x is.name w.point) back) os
            ∙ ap₂ (λ (x : Option (List ℕ)) (k : Point). open_standing (opens_of forest new.open_calls) (name_or_none x) k) n.1 (sym point);
        own = is.own ∙ ap Some (sym own);
        valid = subst IsValid (sym own) is.valid;
        tells = refl;
        notes = chosen ∙ sym (append-nil w.chosen);
      })

-- a path that stands at the start of a root
pub begun : (forest : ForestData) (w : ReplayData) → HasAscendingNames forest → w.root < length forest → w.open_calls ≡ [] → w.template ≡ w.root → w.point ≡ start_at forest w.root → w.place ≡ place.Text
    → w.chosen ≡ [] → IsReplayOf forest w
begun forest w up within none template point own chosen =
    let n = has_name forest w.root within in
    record {
      root_name = n.0;
      root_is = n.1;
      name = n.0;
      name_is = ap (tree_name_at forest) template ∙ n.1;
      moves = [];
      path = tt;
      clear = tt;
      stands =
          ap₂ (λ (os : List ReplayedCall) (k : Point). open_standing (opens_of forest os) n.0 k) (sym none)
          (same_start forest w.root n.0 (numbered forest w.root n.0 up n.1) ∙ sym point);
      own = ap Some (sym own);
      valid = subst IsValid (sym own) tt;
      chosen = ap (map (told_of forest)) (sym chosen);
    }
