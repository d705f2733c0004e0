-- The end of an edge of a summary is raised by what the edge gives.
use Rattle.std.proofs.Common.{◌≡◌, ℕ, List, ◌++◌, refl, sym, ap, ◌∙◌, subst, Option, Some, None}
use Rattle.std.specs.Prelude.{slice_get, slice_set}
use Rattle.std.proofs.lemmas.List.Elements.{All-set}
use Rattle.place_core.proofs.Semilattices.{one_value}
use Rattle.place_core.specs.place.Places.{Below, IsValid}
use Rattle.place_core.specs.declared.place.Place.{Place}
use Rattle.place_flow.specs.Flows.{edges_at}
use Rattle.place_flow.specs.PointStates.{IsValidPointState, IsConflictFree, PointStateBelow}
use Rattle.place_flow.specs.declared.point_state.PointState.{PointState}
use Rattle.place_flow.specs.declared.point_state.PointState.TheVariants.{At}
use Rattle.place_derive.specs.Derivations.{AllGiven, HasEntry, IsLog, IsLoggedSummary}
use Rattle.place_derive.specs.FirstConflicts.{IsSoundLog, ConflictOrFree}
use Rattle.place_derive.specs.Logs.{IsKeptLog, log_with}
use Rattle.place_derive.specs.Soundness.{HasSoundLog}
use Rattle.place_derive.specs.Tracing.{IsPairEdge, first_conflict_of, logged_along, conflict_of}
use Rattle.place_derive.specs.declared.derivation.Derivation.{Derivation}
use Rattle.place_derive.specs.declared.pair_edge.PairEdge.{PairEdge}
use Rattle.place_derive.specs.declared.conflict.FirstConflict.{FirstConflict}
use Rattle.place_derive.proofs.DerivationLaws.{edge_logged, summary_logged}
use Rattle.place_derive.proofs.KeptLogs.{kept_more}
use Rattle.place_derive.proofs.LogLaws.{entries_left, entry_left, summary_left, summaries_left}
use Rattle.place_chart.proofs.Elements.{of_all}
use Rattle.place_chart.proofs.PairLaws.{given_valid, gives_below}
use Rattle.place_chart.proofs.RaisedSummaries.{now_is, raised_below, raised_valid, raised_conflict_free}
use Rattle.place_derive.proofs.FirstConflictLaws.{none_conflict_free, conflict_is, conflict_left}
use Rattle.place_chart.specs.Charts.{ChartByNumber, IsClosedByNumber, IsEntered, given}
use Rattle.place_chart.specs.Summaries.{AreRaised, IsRaised, IsSummaryBelow, IsValidSummary, IsConflictFreeSummary, chart_of, point_state_in}
use Rattle.place_chart.specs.declared.summary.Summary.{Summary}
use Rattle.tpl_paths.specs.Edges.{Edge, Point, from_of, to_of}
use Rattle.tpl_tree.specs.Forests.{ForestData}

module _ (forest : ForestData) (roots : List ℕ) (first : Place) (summaries : List Summary) (log : List Derivation) (conflict : Option FirstConflict) (h : IsSoundLog forest roots first summaries log conflict) (r : PairEdge) (e : Edge) (at by : PointState) (i : IsPairEdge forest summaries r e at) (g : by ≡ given forest (chart_of summaries) r.template e at) where
  -- what was given to a point of the summary
  summary_given : (k : Point) (p : Place) → point_state_in i.summary k ≡ At p → AllGiven log r.template r.entry k p
  summary_given k p s = subst (λ (u : ℕ). AllGiven log u r.entry k p) i.template (subst (λ (x : Place). AllGiven log i.summary.template x k p) i.entry (of_all (IsLoggedSummary log) summaries r.summary i.summary i.is_summary h.logged.logged k p s))

  from_given : (p : Place) → at ≡ At p → AllGiven log r.template r.entry (from_of e) p
  from_given p s = summary_given (from_of e) p (sym i.stands ∙ s)

  to_given : (p : Place) → point_state_in i.summary r.to ≡ At p → AllGiven log r.template r.entry (to_of e) p
  to_given p s = subst (λ (k : Point). AllGiven log r.template r.entry k p) i.to (summary_given r.to p s)

  summary_entered : HasEntry forest log i.summary.template i.summary.entry
  summary_entered = of_all (λ (x : Summary). HasEntry forest log x.template x.entry) summaries r.summary i.summary i.is_summary h.logged.entries

  pair_entered : HasEntry forest log r.template r.entry
  pair_entered = subst (λ (u : ℕ). HasEntry forest log u r.entry) i.template (subst (HasEntry forest log i.summary.template) i.entry summary_entered)

  summary_valid : IsValidSummary i.summary
  summary_valid = of_all IsValidSummary summaries r.summary i.summary i.is_summary h.valid

  by_valid : IsValidPointState by
  by_valid = subst IsValidPointState (sym g) (given_valid forest summaries h.valid r.template e at (subst IsValidPointState (sym i.stands) (summary_valid.point_states (from_of e))))

  module _ (other : Summary) (same_t : other.template ≡ i.summary.template) (same_e : other.entry ≡ i.summary.entry) (raised : IsRaised i.summary other r.to by) where
    more : List Derivation
    more = logged_along r at by

    now_logged : IsLog forest roots first (slice_set summaries r.summary other) (log ++ logged_along r at by)
    now_logged =
        let new = log ++ logged_along r at by in
        let l = edge_logged forest roots first summaries log r e at by h.logged.logged h.logged.made i.is_edge i.to from_given g in
        let gives : (q : Place) → by ≡ At q → AllGiven new i.summary.template i.summary.entry r.to q = λ q s. subst (λ (u : ℕ). AllGiven new u i.summary.entry r.to q) (sym i.template) (subst (λ (x : Place). AllGiven new r.template x r.to q) (sym i.entry) (l.gives q s)) in
        let entry : HasEntry forest new other.template other.entry = subst (λ (u : ℕ). HasEntry forest new u other.entry) (sym same_t) (subst (HasEntry forest new i.summary.template) (sym same_e) (entry_left log (logged_along r at by) forest i.summary.template i.summary.entry summary_entered)) in
        record {
          entries = All-set (λ (x : Summary). HasEntry forest new x.template x.entry) summaries r.summary other entry (entries_left log (logged_along r at by) forest summaries h.logged.entries);
          logged = All-set (IsLoggedSummary new) summaries r.summary other
              (summary_logged new i.summary other r.to by (summary_left log (logged_along r at by) i.summary (of_all (IsLoggedSummary log) summaries r.summary i.summary i.is_summary h.logged.logged)) gives same_t same_e raised)
              (summaries_left log (logged_along r at by) summaries h.logged.logged);
          made = l.made;
        }

    now_conflict_free : (was found : Option FirstConflict) → conflict_of r at by (point_state_in i.summary r.to) ≡ found → ConflictOrFree was forest summaries log → ConflictOrFree (first_conflict_of was found) forest (slice_set summaries r.summary other) (log ++ logged_along r at by)
    now_conflict_free None None f conflict_free =
        let summary_conflict_free = of_all IsConflictFreeSummary summaries r.summary i.summary i.is_summary conflict_free in
        All-set IsConflictFreeSummary summaries r.summary other
        (raised_conflict_free i.summary other r.to by summary_conflict_free (none_conflict_free forest summaries r e at by (point_state_in i.summary r.to) (subst IsConflictFree (sym i.stands) (summary_conflict_free (from_of e))) (summary_conflict_free r.to) g f) raised) conflict_free
    now_conflict_free None (Some x) f conflict_free = conflict_left forest log (logged_along r at by) x (conflict_is forest summaries log h.logged.logged conflict_free r e at by (point_state_in i.summary r.to) i.is_edge pair_entered from_given g to_given x f)
    now_conflict_free (Some x) found f conflicts = conflict_left forest log (logged_along r at by) x conflicts

    gives_under : (chart : ChartByNumber) → IsClosedByNumber forest chart → (q : Place) → IsValid q → IsEntered forest chart i.summary.template q → Below i.summary.entry q → PointStateBelow by (chart i.summary.template q r.to)
    gives_under chart closed q v en be =
        let all = h.least chart closed in
        let is : slice_get (edges_at forest i.summary.template) r.number ≡ Some e = subst (λ (u : ℕ). slice_get (edges_at forest u) r.number ≡ Some e) (sym i.template) i.is_edge in
        let below = gives_below forest chart summaries i.summary r.number e closed all (of_all (IsSummaryBelow forest chart) summaries r.summary i.summary i.is_summary all) summary_valid is q v en be in
        let gives : by ≡ given forest (chart_of summaries) i.summary.template e (point_state_in i.summary (from_of e)) =
        g ∙ ap (given forest (chart_of summaries) r.template e) i.stands ∙ ap (λ (u : ℕ). given forest (chart_of summaries) u e (point_state_in i.summary (from_of e))) (sym i.template) in
        subst (λ (k : Point). PointStateBelow by (chart i.summary.template q k)) (sym i.to) (subst (λ (s : PointState). PointStateBelow s (chart i.summary.template q (to_of e))) (sym gives) below)

    pub now_sound : IsSoundLog forest roots first (slice_set summaries r.summary other) (log ++ logged_along r at by) (first_conflict_of conflict (conflict_of r at by (point_state_in i.summary r.to)))
    now_sound = record {
      valid = All-set IsValidSummary summaries r.summary other (raised_valid i.summary other r.to by summary_valid by_valid same_e raised) h.valid;
      logged = now_logged;
      conflict_free = now_conflict_free conflict (conflict_of r at by (point_state_in i.summary r.to)) refl h.conflict_free;
      least = λ chart closed. (let all = h.least chart closed in
          All-set (IsSummaryBelow forest chart) summaries r.summary other
          (raised_below forest chart i.summary other r.to by (of_all (IsSummaryBelow forest chart) summaries r.summary i.summary i.is_summary all) (gives_under chart closed) same_t same_e raised) all);
    }

pub raised_sound : (forest : ForestData) (roots : List ℕ) (first : Place) (summaries new : List Summary) (log more : List Derivation) (conflict now : Option FirstConflict) (r : PairEdge) (e : Edge) (at by old : PointState) (summary : Summary)
    → slice_get summaries r.summary ≡ Some summary → old ≡ point_state_in summary r.to → more ≡ log ++ logged_along r at by → now ≡ first_conflict_of conflict (conflict_of r at by old) → AreRaised summaries new r.summary r.to by
    → IsPairEdge forest summaries r e at → by ≡ given forest (chart_of summaries) r.template e at → IsSoundLog forest roots first summaries log conflict → IsSoundLog forest roots first new more now
raised_sound forest roots first summaries new log more conflict now r e at by old summary is was logs keeps raised i g h =
    let n = now_is summaries new r.summary i.summary r.to by i.is_summary raised in
    let same : summary ≡ i.summary = one_value summary i.summary (sym is ∙ i.is_summary) in
    let last = now_sound forest roots first summaries log conflict h r e at by i g n.other n.template n.entry n.raised in
    subst (λ (rs : List Summary). IsSoundLog forest roots first rs more now) (sym n.is)
    (subst (λ (l : List Derivation). IsSoundLog forest roots first (slice_set summaries r.summary n.other) l now) (sym logs)
    (subst (IsSoundLog forest roots first (slice_set summaries r.summary n.other) (log ++ logged_along r at by))
    (sym (keeps ∙ ap (λ (s : PointState). first_conflict_of conflict (conflict_of r at by s)) (was ∙ ap (λ (x : Summary). point_state_in x r.to) same))) last))

-- likewise, whether or not the log is kept
pub raised_derived : (forest : ForestData) (roots : List ℕ) (first : Place) (summaries new : List Summary) (kept grown : Option (List Derivation)) (conflict now : Option FirstConflict) (r : PairEdge) (e : Edge) (at by old : PointState) (summary : Summary)
    → slice_get summaries r.summary ≡ Some summary → old ≡ point_state_in summary r.to → grown ≡ log_with kept (logged_along r at by) → now ≡ first_conflict_of conflict (conflict_of r at by old) → AreRaised summaries new r.summary r.to by
    → IsPairEdge forest summaries r e at → by ≡ given forest (chart_of summaries) r.template e at → HasSoundLog forest roots first summaries kept conflict → HasSoundLog forest roots first new grown now
raised_derived forest roots first summaries new kept grown conflict now r e at by old summary is was logs keeps raised i g h =
    let log = h.log ++ logged_along r at by in
    record {
      log = log;
      is = subst (λ (l : Option (List Derivation)). IsKeptLog l log) (sym logs) (kept_more kept h.log (logged_along r at by) h.is);
      sound = raised_sound forest roots first summaries new h.log log conflict now r e at by old summary is was refl keeps raised i g h.sound;
    }
