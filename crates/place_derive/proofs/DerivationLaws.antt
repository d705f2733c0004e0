-- What an edge gives, and what is logged of it.
use Rattle.std.proofs.Common.{◌≡◌, ℕ, List, [], ◌∷◌, ◌++◌, refl, sym, ap, ◌∙◌, subst, Option, Some, None, length, ◌⊎◌, inl, inr}
use Rattle.std.specs.Prelude.{All, slice_get}
use Rattle.std.proofs.lemmas.List.{append-nil}
use Rattle.place_core.proofs.ApartPlacesFacts.{apart-sides, below-apart, joins-apart, turned-apart}
use Rattle.place_core.proofs.JoinMembers.{the_join_has}
use Rattle.place_core.proofs.JoinValid.{the_join_valid}
use Rattle.place_core.proofs.Joins.{the_join_above}
use Rattle.place_core.specs.place.ApartPlaces.{ArePlacesApart, HasApart, side}
use Rattle.place_core.specs.place.Places.{Below, Has, IsValid, joined}
use Rattle.place_core.specs.declared.place.Place.{Place}
use Rattle.place_flow.proofs.PointStateLaws.{below_refl}
use Rattle.place_flow.proofs.StepLaws.{step-keeps-valid}
use Rattle.place_flow.specs.Flows.{edges_at}
use Rattle.place_flow.specs.Laws.{IsValidStep}
use Rattle.place_flow.specs.Transfer.{step_of}
use Rattle.place_flow.specs.PointStates.{joined_point_states, at_or_conflict}
use Rattle.place_flow.specs.declared.point_state.PointState.{PointState}
use Rattle.place_flow.specs.declared.point_state.PointState.TheVariants.{Unreached, At, Conflict}
use Rattle.place_flow.specs.declared.step.EdgeStep.{EdgeStep}
use Rattle.place_flow.specs.declared.step.EdgeStep.TheVariants.{Reaches, Enters, Refused}
use Rattle.place_derive.specs.Derivations.{AllGiven, ApartGiven, IsDerivedBy, IsMadeDerivation, IsLoggedSummary}
use Rattle.place_derive.specs.Tracing.{derivation_along, logged_along}
use Rattle.place_derive.specs.declared.derivation.Derivation.{Derivation}
use Rattle.place_derive.specs.declared.pair_edge.PairEdge.{PairEdge}
use Rattle.place_derive.proofs.LogLaws.{both_weaken, made_push, weaken, weaken_apart}
use Rattle.place_chart.proofs.Elements.{get_last, of_all}
use Rattle.place_chart.proofs.FirstSummaries.{IsSummaryOf, first_is}
use Rattle.place_chart.specs.Charts.{given, step_given}
use Rattle.place_chart.specs.Summaries.{IsRaised, chart_of, summary_of, point_state_in, point_state_of}
use Rattle.place_chart.specs.declared.summary.Summary.{Summary}
use Rattle.tpl_paths.specs.Edges.{Edge, Point, finish_point, from_of, to_of}
use Rattle.tpl_tree.specs.Forests.{ForestData}

pub on_on : {p q : Place} → At p ≡ At q → p ≡ q
on_on e = cc

-- places that are apart still are, where each has become one below it that has the side
both_below : (a b c d : Place) → ArePlacesApart a b → Below c a → Has c side → Below d b → Has d side → ArePlacesApart c d
both_below a b c d h below has other also = turned-apart d c (below-apart b d c (turned-apart c b (below-apart a c b h below has)) other also)

on_is : (o : Option Place) (p : Place) → at_or_conflict o ≡ At p → o ≡ Some p
on_is (Some q) p e = ap Some (on_on e)
on_is None p e = cc

-- what summaries have of a pair was given to it
of_logged : (log : List Derivation) (summaries : List Summary) → All (IsLoggedSummary log) summaries → (t : ℕ) (p : Place) (k : Point) (q : Place) (o : Option Summary) → ((summary : Summary) → o ≡ Some summary → IsSummaryOf summaries t p summary) → point_state_of o k ≡ At q → AllGiven log t p k q
of_logged log summaries all t p k q None h e = cc
of_logged log summaries all t p k q (Some summary) h e =
    let i = h summary refl in
    subst (λ (u : ℕ). AllGiven log u p k q) i.template (subst (λ (x : Place). AllGiven log summary.template x k q) i.entry (of_all (IsLoggedSummary log) summaries i.number summary i.is all k q e))

pub chart_logged : (log : List Derivation) (summaries : List Summary) → All (IsLoggedSummary log) summaries → (t : ℕ) (p : Place) (k : Point) (q : Place) → chart_of summaries t p k ≡ At q → AllGiven log t p k q
chart_logged log summaries all t p k q e = of_logged log summaries all t p k q (summary_of summaries t p) (first_is summaries t p) e

-- a place that a step gives is a derived place
step_derived : (log : List Derivation) (summaries : List Summary) → All (IsLoggedSummary log) summaries → (step : EdgeStep) (derived : Place) → IsValidStep step → step_given (chart_of summaries) step ≡ At derived → IsDerivedBy log step derived
step_derived log summaries all (Reaches q) derived v e = (on_on e, subst IsValid (on_on e) v)
step_derived log summaries all (Enters callee q) derived v e = chart_logged log summaries all callee q finish_point derived e
step_derived log summaries all Refused derived v e = cc

pub derived_is : (forest : ForestData) (log : List Derivation) (summaries : List Summary) → All (IsLoggedSummary log) summaries → (t : ℕ) (e : Edge) (source derived : Place) → IsValid source → given forest (chart_of summaries) t e (At source) ≡ At derived → IsDerivedBy log (step_of forest t e source) derived
derived_is forest log summaries all t e source derived v s = step_derived log summaries all (step_of forest t e source) derived (step-keeps-valid forest t e source v) s

-- what was given last
pub given_last : (log : List Derivation) (g : Derivation) → IsValid g.place → AllGiven (log ++ g ∷ []) g.template g.entry g.point g.place
given_last log g v = record {
  valid = v;
  members = λ m h. record { number = length log; derivation = g; is = get_last log g; template = refl; entry = refl; point = refl; has = h; below = below_refl g.place };
  apart = λ h. inl (record { number = length log; derivation = g; is = get_last log g; template = refl; entry = refl; point = refl; apart = h; below = below_refl g.place });
}

-- an edge of a pair, with what it gives, is logged
pub record IsLogged (forest : ForestData) (roots : List ℕ) (first : Place) (log : List Derivation) (r : PairEdge) (by : PointState) : Type 0 where
  pub made : IsMadeDerivation forest roots first log
  pub gives : (p : Place) → by ≡ At p → AllGiven log r.template r.entry r.to p

nothing_logged : (forest : ForestData) (roots : List ℕ) (first : Place) (log : List Derivation) (r : PairEdge) (by : PointState) → IsMadeDerivation forest roots first log → ((p : Place) → by ≡ At p → AllGiven log r.template r.entry r.to p) → IsLogged forest roots first (log ++ []) r by
nothing_logged forest roots first log r by made none = subst (λ (l : List Derivation). IsLogged forest roots first l r by) (sym (append-nil log)) (record { made = made; gives = none })

along_logged : (forest : ForestData) (roots : List ℕ) (first : Place) (log : List Derivation) (r : PairEdge) (e : Edge) (source derived : Place) → IsMadeDerivation forest roots first log → slice_get (edges_at forest r.template) r.number ≡ Some e → r.to ≡ to_of e
    → AllGiven log r.template r.entry (from_of e) source → IsDerivedBy log (step_of forest r.template e source) derived → IsValid derived → IsLogged forest roots first (log ++ derivation_along r source derived ∷ []) r (At derived)
along_logged forest roots first log r e source derived made is to from gives v = record {
  made = made_push forest roots first log (derivation_along r source derived) made (record { edge = e; is = is; to = to; from = from; gives = gives });
  gives = λ p s. subst (λ (q : Place). AllGiven (log ++ derivation_along r source derived ∷ []) r.template r.entry r.to q) (on_on s) (given_last log (derivation_along r source derived) v);
}

derived_valid : (log : List Derivation) (step : EdgeStep) (derived : Place) → IsDerivedBy log step derived → IsValid derived
derived_valid log (Reaches q) derived h = h.1
derived_valid log (Enters callee q) derived h = h.valid
derived_valid log Refused derived h = absurd h

pub edge_logged : (forest : ForestData) (roots : List ℕ) (first : Place) (summaries : List Summary) (log : List Derivation) (r : PairEdge) (e : Edge) (at by : PointState) → All (IsLoggedSummary log) summaries → IsMadeDerivation forest roots first log → slice_get (edges_at forest r.template) r.number ≡ Some e → r.to ≡ to_of e
    → ((p : Place) → at ≡ At p → AllGiven log r.template r.entry (from_of e) p) → by ≡ given forest (chart_of summaries) r.template e at → IsLogged forest roots first (log ++ logged_along r at by) r by
edge_logged forest roots first summaries log r e Unreached by logged made is to from g = nothing_logged forest roots first log r by made (λ p s. (let none : Unreached ≡ At p = sym g ∙ s in cc))
edge_logged forest roots first summaries log r e (At source) Unreached logged made is to from g = nothing_logged forest roots first log r Unreached made (λ p s. cc)
edge_logged forest roots first summaries log r e (At source) (At derived) logged made is to from g =
    let here = from source refl in
    let gives = derived_is forest log summaries logged r.template e source derived here.valid (sym g) in
    along_logged forest roots first log r e source derived made is to here gives (derived_valid log (step_of forest r.template e source) derived gives)
edge_logged forest roots first summaries log r e (At source) Conflict logged made is to from g = nothing_logged forest roots first log r Conflict made (λ p s. cc)
edge_logged forest roots first summaries log r e Conflict by logged made is to from g = nothing_logged forest roots first log r by made (λ p s. (let none : Conflict ≡ At p = sym g ∙ s in cc))

-- two paths met apart before one of the places that join, or do where these come together
join_apart : (log : List Derivation) (t : ℕ) (e : Place) (k : Point) (a b p : Place) → AllGiven log t e k a → AllGiven log t e k b → Below a p × Below b p → (HasApart a ⊎ HasApart b) ⊎ ArePlacesApart a b → ApartGiven log t e k p
join_apart log t e k a b p x y above (inl (inl h)) = weaken_apart log t e k a p (x.apart h) above.0
join_apart log t e k a b p x y above (inl (inr h)) = weaken_apart log t e k b p (y.apart h) above.1
join_apart log t e k a b p x y above (inr h) =
    let sides = apart-sides a b h in
    let one = x.members side sides.0 in
    let other = y.members side sides.1 in
    inr (both_weaken log t e k a b p one other above.0 above.1 (both_below a b one.derivation.place other.derivation.place h one.below one.has other.below other.has))

-- each member of what was joined was given
pub joined_given : (log : List Derivation) (t : ℕ) (e : Place) (k : Point) (a by : PointState) (p : Place) → ((q : Place) → a ≡ At q → AllGiven log t e k q) → ((q : Place) → by ≡ At q → AllGiven log t e k q) → joined_point_states a by ≡ At p → AllGiven log t e k p
joined_given log t e k Unreached by p old new s = new p s
joined_given log t e k (At a) Unreached p old new s = old p s
joined_given log t e k (At a) (At b) p old new s =
    let j = on_is (joined a b) p s in
    let above = the_join_above a b p j in
    let x = old a refl in
    let y = new b refl in
    record {
      valid = the_join_valid a b p x.valid y.valid j;
      members = λ m h. elim ((the_join_has a b p m j).0 h) [
        | inl u ↦ weaken log t e k a p m (x.members m u) above.0
        | inr u ↦ weaken log t e k b p m (y.members m u) above.1
      ];
      apart = λ h. join_apart log t e k a b p x y above (joins-apart a b p j h);
    }
joined_given log t e k (At a) Conflict p old new s = cc
joined_given log t e k Conflict by p old new s = cc

pub summary_logged : (log : List Derivation) (summary other : Summary) (point : Point) (by : PointState) → IsLoggedSummary log summary → ((q : Place) → by ≡ At q → AllGiven log summary.template summary.entry point q) → other.template ≡ summary.template → other.entry ≡ summary.entry → IsRaised summary other point by → IsLoggedSummary log other
summary_logged log summary other point by old new t e raised k p s =
    subst (λ (u : ℕ). AllGiven log u other.entry k p) (sym t) (subst (λ (x : Place). AllGiven log summary.template x k p) (sym e)
    (elim (raised k) [
      | inl same ↦ old k p (sym same ∙ s)
      | inr r ↦ subst (λ (n : Point). AllGiven log summary.template summary.entry n p) (sym r.0) (joined_given log summary.template summary.entry point (point_state_in summary point) by p (old point) new (sym r.1 ∙ s))
    ]))
