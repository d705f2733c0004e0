-- Two paths that stand at one point in places that do not join have a showing: they do not join where they came together before, or they are
-- refused together behind that point.
use Rattle.std.proofs.Common.{◌≡◌, ℕ, zero, suc, List, [], ◌∷◌, append-nil, Option, Some, None, refl, sym, ap, ap₂, ◌∙◌, subst, ◌⊎◌, inl, inr}
use Rattle.std.specs.Prelude.{Contains, slice_get, ⊤}
use Rattle.html_step.proofs.MetApart.{met-apart}
use Rattle.place_core.proofs.JoinMembers.{the_join_has}
use Rattle.place_core.proofs.JoinValid.{the_join_valid}
use Rattle.place_core.proofs.Joins.{the_join_above, the_join_least}
use Rattle.place_core.proofs.Semilattices.{none_some, one_value}
use Rattle.place_core.specs.page.Html.{start}
use Rattle.place_core.specs.page.States.{LexState}
use Rattle.place_core.specs.page.Tags.{ValueState}
use Rattle.place_core.specs.place.ApartPlaces.{ArePlacesApart, HasApart}
use Rattle.place_core.specs.place.Membership.{IsIn}
use Rattle.place_core.specs.place.Places.{Below, Has, IsValid, joined}
use Rattle.place_core.specs.place.StatePlaces.{placed}
use Rattle.place_core.specs.declared.member.Member.{Member}
use Rattle.place_core.specs.declared.place.Place.{Place}
use Rattle.place_core.specs.declared.place.Place.TheVariants as place
use Rattle.place_flow.proofs.ClearSteps.{one_place}
use Rattle.place_flow.proofs.Goings.{Goes, goes-on}
use Rattle.place_flow.proofs.NamedParts.{named, numbered, same_nodes}
use Rattle.place_flow.proofs.StepEdges.{is-call}
use Rattle.place_flow.proofs.StepLaws.{step-keeps-order}
use Rattle.place_flow.specs.Covering.{edge_read, read_moves}
use Rattle.place_flow.specs.Errors.{Errs, IsClear}
use Rattle.place_flow.specs.Flows.{edges_at}
use Rattle.place_flow.specs.HtmlCovering.{html_language}
use Rattle.place_flow.specs.Laws.{StepBelow}
use Rattle.place_flow.specs.Transfer.{step_of}
use Rattle.place_flow.specs.declared.step.EdgeStep.{EdgeStep}
use Rattle.place_flow.specs.declared.step.EdgeStep.TheVariants.{Enters, Reaches, Refused}
use Rattle.place_infer.specs.BreaksInRanges.{HasBreaksInRanges}
use Rattle.place_infer.specs.Inferring.{root_numbers}
use Rattle.place_laws.specs.MeetingPoints.{IsMeetingPoint}
use Rattle.place_laws.proofs.ConflictEdges.{every-conflict}
use Rattle.place_laws.proofs.ErrorFree.{is-root, roots-stand}
use Rattle.place_laws.proofs.MeetingPoints.{meet-at-controls, none-to-start}
use Rattle.place_laws.proofs.PathReplays.{HasOwn, stands-there}
use Rattle.place_laws.proofs.RefusalEvidences.{BearingApart, refused-stands}
use Rattle.place_laws.proofs.Turns.{not-at-start, turns-on}
use Rattle.place_laws.proofs.TwoHave.{joins-shown, refusals-shown}
use Rattle.place_laws.specs.ShownErrors.{EveryConflictIsShown, HasShowing, IsJoiningPoint}
use Rattle.place_laws.specs.Witness.{Bearing, MembersDoNotJoin, PathTo, path_state}
use Rattle.place_trace.proofs.OwnPlaces.{reaches-own}
use Rattle.tpl_paths.specs.Edges.{Edge, Point, Within, again, before, calls, edges_in, edges_of, fills, finish_point, from_of, head, passes, picks, start_in, to_of, writes}
use Rattle.tpl_paths.specs.Paths.{HasCall, IsMove, IsPath, Move, Open, Standing, after_moves, along, along_edge, at_root, back, left_calls, open_standing, reached}
use Rattle.tpl_paths.specs.declared.point.Point.TheVariants as point
use Rattle.tpl_tree.specs.Forests.{ForestData, HasAscendingNames, tree_name_at}
use Rattle.tpl_tree.specs.Trees.{NodesData}

abbrev State : Type 0
State = LexState ValueState

-- an edge that enters no template
abbrev IsInner : Edge → Type 0
IsInner (writes n bytes to) = ⊤
IsInner (fills n pipe to) = ⊤
IsInner (calls n name to) = ⊥
IsInner (picks from choice to) = ⊤
IsInner (passes from to) = ⊤

-- how the last move came to a point
data Landing (forest : ForestData) (a b : Standing) (r s : State) : Type 0 where
  by_edge : (e : Edge) → IsInner e → Within e (edges_in forest a.template) → to_of e ≡ a.at → b ≡ open_standing a.open_calls a.template (from_of e) → (Errs forest a.template e r → ⊥) → edge_read html_language e r ≡ s → Landing forest a b r s
  by_call : (o : Open) (os : List Open) → a.open_calls ≡ o ∷ os → a.at ≡ start_in forest a.template → b ≡ open_standing os o.template (before o.node) → r ≡ s → Landing forest a b r s
  by_return : (o : Open) (callee : List ℕ) → Within (calls o.node callee o.back) (edges_in forest a.template) → o.template ≡ a.template → o.back ≡ a.at → b ≡ open_standing (o ∷ a.open_calls) callee finish_point → r ≡ s → Landing forest a b r s

module _ (forest : ForestData) (root_name : List ℕ) where
  abbrev here : Standing
  here = at_root forest root_name

  -- moves on which no error stands, by the last of them
  record StepTo (W : Standing → State → Type 0) (a : Standing) (s : State) : Type 0 where
    from : Standing
    state : State
    move : Move
    ways : W from state
    moves : IsMove forest from move
    clear : IsClear forest from state (move ∷ [])
    leads : after_moves forest from move ≡ a
    reads : read_moves html_language (move ∷ []) state ≡ s

  abbrev Ways : ℕ → Standing → State → Type 0
  Ways zero a s = (a ≡ here) × (s ≡ start.at)
  Ways (suc n) a s = StepTo (Ways n) a s

  goes : (n : ℕ) (a : Standing) (s : State) → Ways n a s → Goes forest here start.at a s
  goes zero a s w = record { moves = []; path = tt; clear = tt; stands = sym w.0; reads = sym w.1 }
  goes (suc n) a s w = goes-on forest here w.from a start.at w.state s (goes n w.from w.state w.ways) (record { moves = w.move ∷ []; path = (w.moves, tt); clear = w.clear; stands = w.leads; reads = w.reads })

  ways-on : (n : ℕ) (b : Standing) (r : State) (ms : List Move) → Ways n b r → IsPath forest b ms → IsClear forest b r ms → (k : ℕ) × Ways k (reached forest b ms) (read_moves html_language ms r)
  ways-on n b r [] w p c = (n, w)
  ways-on n b r (along e ∷ ms) w p c =
      ways-on (suc n) (along_edge forest b e) (edge_read html_language e r) ms (record { from = b; state = r; move = along e; ways = w; moves = p.0; clear = (c.0, tt); leads = refl; reads = refl }) p.1 c.1
  ways-on n b r (back ∷ ms) w p c =
      ways-on (suc n) (left_calls b.open_calls b) r ms (record { from = b; state = r; move = back; ways = w; moves = p.0; clear = tt; leads = refl; reads = refl }) p.1 c

  -- each open call is by an edge that calls
  abbrev AreCalled : List ℕ → List Open → Type 0
  AreCalled name [] = name ≡ root_name
  AreCalled name (o ∷ os) = Within (calls o.node name o.back) (edges_in forest o.template) × AreCalled o.template os

  called-back : (os : List Open) (b : Standing) → HasCall os → AreCalled b.template os → AreCalled (left_calls os b).template (left_calls os b).open_calls
  called-back [] b c h = absurd c
  called-back (o ∷ os) b c h = h.1

  called-move : (b : Standing) (m : Move) → IsMove forest b m → AreCalled b.template b.open_calls → AreCalled (after_moves forest b m).template (after_moves forest b m).open_calls
  called-move b (along (writes n bytes to)) i h = h
  called-move b (along (fills n pipe to)) i h = h
  called-move b (along (calls n name to)) i h = (i.0, h)
  called-move b (along (picks from choice to)) i h = h
  called-move b (along (passes from to)) i h = h
  called-move b back i h = called-back b.open_calls b i.0 h

  called : (n : ℕ) (a : Standing) (s : State) → Ways n a s → AreCalled a.template a.open_calls
  called zero a s w = subst (λ (x : Standing). AreCalled x.template x.open_calls) (sym w.0) refl
  called (suc n) a s w = subst (λ (x : Standing). AreCalled x.template x.open_calls) w.leads (called-move w.from w.move w.moves (called n w.from w.state w.ways))

  landing-back : (b : Standing) (r : State) (os : List Open) → b.open_calls ≡ os → HasCall os → AreCalled b.template os → b.at ≡ finish_point → Landing forest (left_calls os b) b r r
  landing-back b r [] is c h at = absurd c
  landing-back b r (o ∷ os) is c h at = by_return o b.template h.0 refl refl (ap₂ (λ (xs : List Open) (k : Point). open_standing xs b.template k) is at) refl

  landing-move : (b : Standing) (r : State) (m : Move) → IsMove forest b m → IsClear forest b r (m ∷ []) → AreCalled b.template b.open_calls → Landing forest (after_moves forest b m) b r (read_moves html_language (m ∷ []) r)
  landing-move b r (along (writes n bytes to)) i c h = by_edge (writes n bytes to) tt i.0 refl (ap (open_standing b.open_calls b.template) i.1) c.0 refl
  landing-move b r (along (fills n pipe to)) i c h = by_edge (fills n pipe to) tt i.0 refl (ap (open_standing b.open_calls b.template) i.1) c.0 refl
  landing-move b r (along (calls n name to)) i c h = by_call (record { template = b.template; node = n; back = to }) b.open_calls refl refl (ap (open_standing b.open_calls b.template) i.1) refl
  landing-move b r (along (picks from choice to)) i c h = by_edge (picks from choice to) tt i.0 refl (ap (open_standing b.open_calls b.template) i.1) c.0 refl
  landing-move b r (along (passes from to)) i c h = by_edge (passes from to) tt i.0 refl (ap (open_standing b.open_calls b.template) i.1) c.0 refl
  landing-move b r back i c h = landing-back b r b.open_calls refl i.0 h i.1

  landing : (n : ℕ) (a : Standing) (s : State) (w : StepTo (Ways n) a s) → Landing forest a w.from w.state s
  landing n a s w =
      subst (λ (x : Standing). Landing forest x w.from w.state s) w.leads
      (subst (λ (x : State). Landing forest (after_moves forest w.from w.move) w.from w.state x) w.reads
      (landing-move w.from w.state w.move w.moves w.clear (called n w.from w.state w.ways)))

within-get : (es : List Edge) (e : Edge) → Within e es → (n : ℕ) × (slice_get es n ≡ Some e)
within-get [] e w = absurd w
within-get (x ∷ xs) e (inl i) = (zero, ap Some (sym i))
within-get (x ∷ xs) e (inr w) = (let g = within-get xs e w in (suc g.0, g.1))

same-open : (o p : Open) → o.template ≡ p.template → o.node ≡ p.node → o.back ≡ p.back → o ≡ p
same-open o p t n k = λ i. record { template = t i; node = n i; back = k i }

module _ (forest : ForestData) (up : HasAscendingNames forest) (breaks : HasBreaksInRanges forest) (root : ℕ) (root_name : List ℕ) (root_is : tree_name_at forest root ≡ Some root_name) where
  -- moves of the root that lead to a point, without an error of one path
  abbrev Comes : Standing → State → Type 0
  Comes a s = Goes forest (at_root forest root_name) start.at a s

  abbrev path-to : (a : Standing) (s : State) → Comes a s → (t : ℕ) → tree_name_at forest t ≡ Some a.template → PathTo forest root a.open_calls t a.at
  path-to a s g t is = record { root_name = root_name; root_is = root_is; name = a.template; name_is = is; moves = g.moves; path = g.path; clear = g.clear; stands = g.stands }

  direct : (a : Standing) (s r : State) → Comes a s → Comes a r → (x y : Place) → placed s ≡ Some x → placed r ≡ Some y → joined x y ≡ None → IsJoiningPoint a.at → HasShowing forest root
  direct a s r g h x y px py none at =
      let there = stands-there forest up root root_name a s root_is g in
      joins-shown forest root a.open_calls there.number a.at up at (record {
        path = path-to a s g there.number there.number_is;
        other = path-to a r h there.number there.number_is;
        own = x;
        other_own = y;
        stands = ap placed g.reads ∙ px;
        other_stands = ap placed h.reads ∙ py;
        conflict = none;
      })

  -- Two paths before one edge, behind which their places do not join: before it they do not join either, or they are refused there together.
  module _ (os : List Open) (name : List ℕ) (t : ℕ) (is : tree_name_at forest t ≡ Some name) (e : Edge) (inner : IsInner e) (w : Within e (edges_in forest name)) (s r : State)
      (g : Comes (open_standing os name (from_of e)) s) (h : Comes (open_standing os name (from_of e)) r) (o : HasOwn s) (p : HasOwn r) (x y : Place)
      (px : placed (edge_read html_language e s) ≡ Some x) (py : placed (edge_read html_language e r) ≡ Some y) (none : joined x y ≡ None) where
    abbrev before_edge : Standing
    before_edge = open_standing os name (from_of e)

    abbrev one : PathTo forest root os t (from_of e)
    one = path-to before_edge s g t is

    abbrev other : PathTo forest root os t (from_of e)
    other = path-to before_edge r h t is

    own-stands : placed (path_state one) ≡ Some o.own
    own-stands = ap placed g.reads ∙ o.stands

    other-stands : placed (path_state other) ≡ Some p.own
    other-stands = ap placed h.reads ∙ p.stands

    edge-got : (n : ℕ) × (slice_get (edges_at forest t) n ≡ Some e)
    edge-got = within-get (edges_at forest t) e (subst (λ (z : NodesData). Within e (edges_of z 0 finish_point finish_point finish_point)) (same_nodes forest t name (numbered forest t name up is)) w)

    module _ (c : Place) (joins : joined o.own p.own ≡ Some c) where
      valid : IsValid c
      valid = the_join_valid o.own p.own c o.valid p.valid joins

      one-in : IsIn c (path_state one)
      one-in = record { own = o.own; stands = own-stands; valid = o.valid; below = (the_join_above o.own p.own c joins).0 }

      other-in : IsIn c (path_state other)
      other-in = record { own = p.own; stands = other-stands; valid = p.valid; below = (the_join_above o.own p.own c joins).1 }

      bears : (m : Member) → Has c m → Bearing forest root os t (from_of e) c m
      bears m k = elim ((the_join_has o.own p.own c m joins).0 k) [
        | inl i ↦ record { path = one; is_in = one-in; bears = record { own = o.own; stands = own-stands; has = i } }
        | inr i ↦ record { path = other; is_in = other-in; bears = record { own = p.own; stands = other-stands; has = i } }
      ]

      are-apart : (HasApart o.own ⊎ HasApart p.own) ⊎ ArePlacesApart o.own p.own → ArePlacesApart o.own p.own
      are-apart (inl (inl k)) = absurd (o.alone k)
      are-apart (inl (inr k)) = absurd (p.alone k)
      are-apart (inr k) = k

      bears-apart : HasApart c → BearingApart forest root os t (from_of e) c
      bears-apart k =
          let a = are-apart (met-apart.joins o.own p.own c joins k) in
          let sides = met-apart.sides_of o.own p.own a in
          record {
            paths = record {
              path = one;
              other = other;
              first = g.moves;
              other_first = h.moves;
              common = [];
              moves = sym (append-nil g.moves);
              other_moves = sym (append-nil h.moves);
              meet = h.stands ∙ sym g.stands;
              met = inl (record { own = o.own; other_own = p.own; stands = own-stands; other_stands = other-stands; apart = a }, tt, tt);
            };
            is_in = one-in;
            bears = record { own = o.own; stands = own-stands; has = sides.0 };
            other_in = other-in;
            other_bears = record { own = p.own; stands = other-stands; has = sides.1 };
          }

      below-behind : (q a z : Place) (u : State) (x : EdgeStep) → placed u ≡ Some a → step_of forest t e a ≡ x → StepBelow x (Reaches q) → placed (edge_read html_language e u) ≡ Some z → Below z q
      below-behind q a z u (Reaches b) own step below there =
          let same : b ≡ z = one_place (placed (edge_read html_language e u)) b z (reaches-own forest t e a b u own step) there in
          subst (λ (v : Place). Below v q) same below
      below-behind q a z u (Enters d b) own step below there = absurd below
      below-behind q a z u Refused own step below there = absurd below

      by-step : (x : EdgeStep) → step_of forest t e c ≡ x → HasShowing forest root
      by-step (Reaches q) step =
          let left : StepBelow (step_of forest t e o.own) (Reaches q) = subst (StepBelow (step_of forest t e o.own)) step (step-keeps-order forest t e o.own c o.valid valid (the_join_above o.own p.own c joins).0) in
          let right : StepBelow (step_of forest t e p.own) (Reaches q) = subst (StepBelow (step_of forest t e p.own)) step (step-keeps-order forest t e p.own c p.valid valid (the_join_above o.own p.own c joins).1) in
          let both = the_join_least x y q (below-behind q o.own x s (step_of forest t e o.own) o.stands refl left px) (below-behind q p.own y r (step_of forest t e p.own) p.stands refl right py) in
          absurd (none_some both.0 (sym none ∙ both.1))
      by-step (Enters d q) step = (let k = is-call forest t e c d q step in absurd (subst IsInner k.is inner))
      by-step Refused step = refusals-shown forest root os t edge-got.0 e up edge-got.1 (refused-stands forest up root os t c valid e bears bears-apart step)

    by-join : (z : Option Place) → joined o.own p.own ≡ z → (joined o.own p.own ≡ None → HasShowing forest root) → HasShowing forest root
    by-join (Some c) joins earlier = by-step c joins (step_of forest t e c) refl
    by-join None joins earlier = earlier joins

  -- from where the last moves of two paths came
  module _ (a b d : Standing) (s r u v : State) (g : Comes b s) (h : Comes d r) (apart : IsMeetingPoint a.at → ⊥) (x y : Place) (px : placed u ≡ Some x) (py : placed v ≡ Some y) (none : joined x y ≡ None)
      (earlier : (p q : Place) → b ≡ d → placed s ≡ Some p → placed r ≡ Some q → joined p q ≡ None → HasShowing forest root) where
    one-edge : (e f : Edge) → Within e (edges_in forest a.template) → Within f (edges_in forest a.template) → to_of e ≡ a.at → to_of f ≡ a.at → e ≡ f
    one-edge e f w z i j = elim (meet-at-controls forest a.template e f breaks w z (i ∙ sym j)) [ inl m ↦ absurd (apart (subst IsMeetingPoint i m)) | inr same ↦ same ]

    along-one : (e : Edge) → IsInner e → Within e (edges_in forest a.template) → b ≡ open_standing a.open_calls a.template (from_of e) → d ≡ open_standing a.open_calls a.template (from_of e)
        → edge_read html_language e s ≡ u → edge_read html_language e r ≡ v → HasShowing forest root
    along-one e inner w at_b at_d reads other_reads =
        let k = open_standing a.open_calls a.template (from_of e) in
        let first : Comes k s = subst (λ (z : Standing). Comes z s) at_b g in
        let other : Comes k r = subst (λ (z : Standing). Comes z r) at_d h in
        let there = stands-there forest up root root_name k s root_is first in
        let too = stands-there forest up root root_name k r root_is other in
        by-join a.open_calls a.template there.number there.number_is e inner w s r first other there.has_own too.has_own x y (ap placed reads ∙ px) (ap placed other_reads ∙ py) none
        (joined there.has_own.own too.has_own.own) refl (λ n. earlier there.has_own.own too.has_own.own (at_b ∙ sym at_d) there.has_own.stands too.has_own.stands n)

    combine : Landing forest a b s u → Landing forest a d r v → HasShowing forest root
    combine (by_edge e i w q at_b clear reads) (by_edge f j z p at_d other_clear other_reads) =
        let same = one-edge e f w z q p in
        along-one e i w at_b (at_d ∙ ap (λ (c : Edge). open_standing a.open_calls a.template (from_of c)) (sym same)) reads (ap (λ (c : Edge). edge_read html_language c r) same ∙ other_reads)
    combine (by_edge e i w q at_b clear reads) (by_call o os calls_are at at_d same) = absurd (none-to-start forest a.template e breaks w (q ∙ at))
    combine (by_edge e i w q at_b clear reads) (by_return o callee z t k at_d same) = absurd (subst IsInner (one-edge e (calls o.node callee o.back) w z q k) i)
    combine (by_call o os calls_are at at_b same) (by_edge f j z p at_d other_clear other_reads) = absurd (none-to-start forest a.template f breaks z (p ∙ at))
    combine (by_call o os calls_are at at_b same) (by_call p ps other_calls other_at at_d other_same) =
        let calls_same : o ∷ os ≡ p ∷ ps = sym calls_are ∙ other_calls in
        let head_same : o ≡ p = cc in
        let tail_same : os ≡ ps = cc in
        earlier x y (at_b ∙ (ap₂ (λ (c : Open) (cs : List Open). open_standing cs c.template (before c.node)) head_same tail_same ∙ sym at_d)) (ap placed same ∙ px) (ap placed other_same ∙ py) none
    combine (by_call o os calls_are at at_b same) (by_return p callee z t k at_d other_same) = absurd (none-to-start forest a.template (calls p.node callee p.back) breaks z (k ∙ at))
    combine (by_return o callee w t k at_b same) (by_edge f j z p at_d other_clear other_reads) = absurd (subst IsInner (sym (one-edge (calls o.node callee o.back) f w z k p)) j)
    combine (by_return o callee w t k at_b same) (by_call p ps other_calls other_at at_d other_same) = absurd (none-to-start forest a.template (calls o.node callee o.back) breaks w (k ∙ other_at))
    combine (by_return o callee w t k at_b same) (by_return p other_callee z u l at_d other_same) =
        let e = one-edge (calls o.node callee o.back) (calls p.node other_callee p.back) w z k l in
        let node_same : o.node ≡ p.node = cc in
        let callee_same : callee ≡ other_callee = cc in
        let open_same : o ≡ p = same-open o p (t ∙ sym u) node_same (k ∙ sym l) in
        earlier x y (at_b ∙ (ap₂ (λ (c : Open) (name : List ℕ). open_standing (c ∷ a.open_calls) name finish_point) open_same callee_same ∙ sym at_d)) (ap placed same ∙ px) (ap placed other_same ∙ py) none

  -- a path that stands before a further turn of a range goes on to its head
  no-error-on : (a : Standing) (k : ℕ) (s : State) → Errs forest a.template (passes (again k) (head k)) s → ⊥
  no-error-on a k s (inl m) = (let e = m.misused in cc)
  no-error-on a k s (inr e) = e

  turn-edge : (a b : Standing) (r s : State) (k : ℕ) → a.at ≡ again k → Landing forest a b r s → Within (passes (again k) (head k)) (edges_in forest a.template)
  turn-edge a b r s k at (by_edge e i w q at_b clear reads) = turns-on forest a.template e k w (q ∙ at)
  turn-edge a b r s k at (by_call o os calls_are there at_b same) = absurd (not-at-start forest a.template k (sym there ∙ at))
  turn-edge a b r s k at (by_return o callee w t q at_b same) = turns-on forest a.template (calls o.node callee o.back) k w (q ∙ at)

  turned : (a : Standing) (s : State) (k : ℕ) → Comes a s → a.at ≡ again k → Within (passes (again k) (head k)) (edges_in forest a.template) → Comes (open_standing a.open_calls a.template (head k)) s
  turned a s k g at w = goes-on forest (at_root forest root_name) a (open_standing a.open_calls a.template (head k)) start.at s s g
      (record { moves = along (passes (again k) (head k)) ∷ []; path = ((w, at), tt); clear = (no-error-on a k s, tt); stands = refl; reads = refl })

  starts : (z : Standing) → z ≡ at_root forest root_name → z.at ≡ start_in forest z.template
  starts z same = subst (λ (c : Standing). c.at ≡ start_in forest c.template) (sym same) refl

  -- no move comes to where a root begins with no call open
  not-back : (a b : Standing) (r s : State) → a ≡ at_root forest root_name → Landing forest a b r s → ⊥
  not-back a b r s is (by_edge e i w q at_b clear reads) = none-to-start forest a.template e breaks w (q ∙ starts a is)
  not-back a b r s is (by_call o os calls_are at at_b same) = (let none : a.open_calls ≡ [] = ap (λ (z : Standing). z.open_calls) is in let some : o ∷ os ≡ [] = sym calls_are ∙ none in cc)
  not-back a b r s is (by_return o callee w t q at_b same) = none-to-start forest a.template (calls o.node callee o.back) breaks w (q ∙ starts a is)

  own-start : (s : State) (x : Place) → s ≡ start.at → placed s ≡ Some x → x ≡ place.Text
  own-start s x e h = one_value x place.Text (sym h ∙ ap placed e)

  at-point : (a b d : Standing) (p q s r : State) → Landing forest a b p s → Landing forest a d q r → Comes a s → Comes a r → (x y : Place) → placed s ≡ Some x → placed r ≡ Some y → joined x y ≡ None
      → ((IsMeetingPoint a.at → ⊥) → HasShowing forest root) → (k : Point) → a.at ≡ k → HasShowing forest root
  at-point a b d p q s r l m g h x y px py none earlier (point.Before k) at = earlier (λ z. subst IsMeetingPoint at z)
  at-point a b d p q s r l m g h x y px py none earlier (point.Again k) at =
      let e = turn-edge a b p s k at l in
      direct (open_standing a.open_calls a.template (head k)) s r (turned a s k g at e) (turned a r k h at e) x y px py none tt
  at-point a b d p q s r l m g h x y px py none earlier (point.Head k) at = direct a s r g h x y px py none (subst IsJoiningPoint (sym at) tt)
  at-point a b d p q s r l m g h x y px py none earlier (point.Past k) at = direct a s r g h x y px py none (subst IsJoiningPoint (sym at) tt)
  at-point a b d p q s r l m g h x y px py none earlier point.Finish at = earlier (λ z. subst IsMeetingPoint at z)

  meets : (n m : ℕ) (a : Standing) (s r : State) → Ways forest root_name n a s → Ways forest root_name m a r → (x y : Place) → placed s ≡ Some x → placed r ≡ Some y → joined x y ≡ None → HasShowing forest root
  meets zero zero a s r w v x y px py none = absurd (none_some place.Text (sym (ap₂ joined (sym (own-start s x w.1 px)) (sym (own-start r y v.1 py)) ∙ none)))
  meets zero (suc m) a s r w v x y px py none = absurd (not-back a v.from v.state r w.0 (landing forest root_name m a r v))
  meets (suc n) zero a s r w v x y px py none = absurd (not-back a w.from w.state s v.0 (landing forest root_name n a s w))
  meets (suc n) (suc m) a s r w v x y px py none =
      let l = landing forest root_name n a s w in
      let k = landing forest root_name m a r v in
      at-point a w.from v.from w.state v.state s r l k (goes forest root_name (suc n) a s w) (goes forest root_name (suc m) a r v) x y px py none
      (λ apart. combine a w.from v.from w.state v.state s r (goes forest root_name n w.from w.state w.ways) (goes forest root_name m v.from v.state v.ways) apart x y px py none
      (λ p q same pp pq apart_there. meets n m w.from w.state v.state w.ways (subst (λ (z : Standing). Ways forest root_name m z v.state) (sym same) v.ways) p q pp pq apart_there) l k)
      a.at refl

-- two paths that do not join, wherever they stand
members-shown : (forest : ForestData) → HasAscendingNames forest → HasBreaksInRanges forest → (root : ℕ) (os : List Open) (t : ℕ) (k : Point) → MembersDoNotJoin forest root os t k → HasShowing forest root
members-shown forest up breaks root os t k m =
    let p = m.path in
    let q = m.other in
    let name : q.root_name ≡ p.root_name = one_value q.root_name p.root_name (sym q.root_is ∙ p.root_is) in
    let template : q.name ≡ p.name = one_value q.name p.name (sym q.name_is ∙ p.name_is) in
    let here = at_root forest p.root_name in
    let w = ways-on forest p.root_name zero here start.at p.moves (refl, refl) p.path p.clear in
    let v = ways-on forest q.root_name zero (at_root forest q.root_name) start.at q.moves (refl, refl) q.path q.clear in
    let one = subst (λ (a : Standing). Ways forest p.root_name w.0 a (path_state p)) p.stands w.1 in
    let other = subst (λ (a : Standing). Ways forest q.root_name v.0 a (path_state q)) q.stands v.1 in
    let there = subst (λ (x : List ℕ). Ways forest q.root_name v.0 (open_standing os x k) (path_state q)) template other in
    meets forest up breaks root p.root_name p.root_is w.0 v.0 (open_standing os p.name k) (path_state p) (path_state q) one (subst (λ (x : List ℕ). Ways forest x v.0 (open_standing os p.name k) (path_state q)) name there)
    m.own m.other_own m.stands m.other_stands m.conflict

pub conflict-shown : EveryConflictIsShown
conflict-shown forest names log conflict up breaks made is =
    let h = every-conflict forest (root_numbers forest names) log conflict up (roots-stand forest names) made is in
    let r = is-root forest names h.root h.is_root in
    let showing : HasShowing forest h.root = elim h.errs [
      | inl e ↦ refusals-shown forest h.root h.open_calls conflict.template conflict.edge h.edge up h.is e
      | inr m ↦ members-shown forest up breaks h.root h.open_calls conflict.template (to_of h.edge) m
    ] in
    let same : r.name ≡ showing.sh.root = one_value r.name showing.sh.root (sym (named forest h.root r.name r.number) ∙ showing.root_is) in
    record { root = h.root; showing = showing; is_root = subst (Contains names) same r.among }
