-- On the paths of a set that has a chart no error stands.
use Rattle.std.proofs.Common.{◌≡◌, ℕ, List, [], ◌∷◌, All, Some, None, Result, Ok, Err, refl, sym, ap, ◌∙◌, subst, Bool, true, false, inl, inr, if◌then◌else◌}
use Rattle.std.specs.Prelude.{Contains, ◌⊎◌}
use Rattle.html_step.specs.Holes.{Holed, after_hole}
use Rattle.html_step.specs.Steps.{after_text}
use Rattle.place_flow.specs.Covering.{IsChartOf, IsClosedByName, IsCovered, IsStack, Pair, pair, pairs_along, read_moves}
use Rattle.place_flow.specs.HtmlCovering.{behind_hole, behind_text, html_language}
use Rattle.place_core.proofs.Joins.{the_join_least}
use Rattle.place_core.specs.place.PathPairs.{Clashes, ClashesApart, ClashesHole}
use Rattle.place_core.specs.place.Membership.{IsIn}
use Rattle.place_core.specs.place.Places.{Below, IsValid, joined}
use Rattle.place_core.specs.place.StatePlaces.{placed}
use Rattle.place_core.specs.page.States.{LexState}
use Rattle.place_core.specs.page.Tags.{ValueState}
use Rattle.place_core.specs.declared.code.Code.{Code}
use Rattle.place_core.specs.declared.place.Place.{Place}
use Rattle.place_core.specs.declared.place.Place.TheVariants as place
use Rattle.place_core.specs.declared.step_err.StepErr.{StepErr}
use Rattle.place_laws.proofs.TakenEdges.{is-on, taken-edge}
use Rattle.place_laws.specs.Exactness.{ChartedSetsHaveNoError, ConflictFreeSetsHaveNoOtherError, EndsAreRefusedAlone}
use Rattle.place_show.proofs.ErrorsStand.{end-shown, shown-root}
use Rattle.place_show.specs.NoErrors.{HasNoOtherError, HaveNoOtherErrors, IsPathOfSet, stands_at}
use Rattle.place_show.specs.Showings.{path_state_after}
use Rattle.place_show.specs.declared.showing.Showing.{Showing}
use Rattle.place_core.specs.page.Html.{start}
use Rattle.place_flow.proofs.HtmlCovers.{chart-covers}
use Rattle.place_chart.specs.Least.{IsLeastChart}
use Rattle.place_flow.specs.Transfer.{edge_step, reaches_or_refused, may_use, use_at}
use Rattle.place_flow.specs.declared.step.EdgeStep.{EdgeStep}
use Rattle.place_flow.specs.declared.step.EdgeStep.TheVariants.{Refused}
use Rattle.place_infer.specs.Inferring.{EndsBy, EndsInText, IsRefusedByConflict, is_end_code, root_numbers}
use Rattle.place_infer.proofs.JudgedCharts.{root-in}
use Rattle.place_chart.specs.Exact.{places_of}
use Rattle.place_chart.specs.Charts.{IsClosedByNumber, IsEntered}
use Rattle.place_chart.specs.Summaries.{IsValidSummary, IsConflictFreeSummary, chart_of}
use Rattle.place_chart.specs.declared.summary.Summary.{Summary}
use Rattle.place_flow.specs.declared.point_state.PointState.TheVariants.{At}
use Rattle.place_flow.proofs.ClearSteps.{IsTaken, one_place, step-clear}
use Rattle.place_flow.specs.Errors.{EdgeClashes, EdgeClashesApart, Errs, ErrsApart}
use Rattle.std.proofs.lemmas.List.Elements.{All-contains}
use Rattle.tpl_paths.specs.Edges.{Edge, Point, Within, before, calls, edges_in, fills, finish_point, from_of, passes, picks, writes}
use Rattle.tpl_paths.specs.Paths.{IsPath, Move, Open, Standing, reached, signs_of, open_standing}
use Rattle.tpl_tree.specs.Forests.{ForestData, number_named}
use Rattle.html_step.proofs.MetApart.{met-apart}
use Rattle.html_step.proofs.AcceptedTexts.{accepts-text}
use Rattle.html_step.proofs.HoleOrder.{accepts-hole}
use Rattle.place_chart.proofs.ConflictFreeCharts.{root-is-chart}
use Rattle.place_laws.proofs.TwoPaths.{IsShownApart, shown-along}

some-one : {A : Type 0} (x y : A) → Some x ≡ Some y → x ≡ y
some-one x y e = cc

no-join : (c : Place) → None ≡ Some c → ⊥
no-join c e = cc

-- only text is below text
below-text : (p : Place) → Below p place.Text → p ≡ place.Text
below-text place.Text b = refl
below-text place.Doctype b = cc
below-text (place.Comment x) b = cc
below-text (place.Rcdata x) b = cc
below-text (place.Tag x) b = cc
below-text (place.Value x) b = cc
below-text (place.Script x) b = cc
below-text (place.Style x) b = cc
below-text (place.Block x) b = cc

taken-parts : (b : Bool) (x : EdgeStep) → IsTaken (if b then x else Refused) → IsTaken x
taken-parts true x h = h
taken-parts false x h = absurd h

-- a text that is taken clashes on no two paths
text-alone : (bytes : List ℕ) (p : Place) (s r : LexState ValueState) (o : Result Place (StepErr Place)) → after_text bytes p ≡ o → IsTaken (reaches_or_refused (behind_text o)) → IsValid p → IsIn p s → IsIn p r
    → (c : Code) (at : ℕ) → Clashes bytes s r c at → ⊥
text-alone bytes p s r (Ok q) e taken v i j c at clash = (accepts-text bytes p q s v e i).1 r c at j clash
text-alone bytes p s r (Err x) e taken v i j c at clash = absurd taken

-- nor does a hole
hole-alone : (p : Place) (s r : LexState ValueState) (o : Holed) → after_hole p ≡ o → IsTaken (reaches_or_refused (behind_hole o)) → IsValid p → IsIn p s → IsIn p r
    → (c : Code) → ClashesHole s r c → ⊥
hole-alone p s r (Ok h) e taken v i j c clash = (accepts-hole p h.0 h.1 s c v e i).1 r j clash
hole-alone p s r (Err x) e taken v i j c clash = absurd taken

no-clash : (forest : ForestData) (e : Edge) (p : Place) (s r : LexState ValueState) → IsTaken (edge_step forest e p) → IsValid p → IsIn p s → IsIn p r → EdgeClashes e s r → ⊥
no-clash forest (writes n bytes to) p s r taken v i j h = text-alone bytes p s r (after_text bytes p) refl taken v i j h.0 h.1 h.2
no-clash forest (fills n pipe to) p s r taken v i j h = hole-alone p s r (after_hole p) refl taken v i j h.0 h.1
no-clash forest (calls n name to) p s r taken v i j h = h
no-clash forest (picks from choice to) p s r taken v i j h = h
no-clash forest (passes from to) p s r taken v i j h = h

-- likewise, on no two that met apart
text-alone-apart : (bytes : List ℕ) (p : Place) (s r : LexState ValueState) (o : Result Place (StepErr Place)) → after_text bytes p ≡ o → IsTaken (reaches_or_refused (behind_text o)) → IsValid p → IsIn p s → IsIn p r
    → IsShownApart p s r → (c : Code) (at : ℕ) → ClashesApart bytes s r c at → ⊥
text-alone-apart bytes p s r (Ok q) e taken v i j m c at clash = met-apart.accepts bytes p q s r c at v m.there i m.one j m.other e clash
text-alone-apart bytes p s r (Err x) e taken v i j m c at clash = absurd taken

no-clash-apart : (forest : ForestData) (e : Edge) (p : Place) (s r : LexState ValueState) → IsTaken (edge_step forest e p) → IsValid p → IsIn p s → IsIn p r → IsShownApart p s r → EdgeClashesApart e s r → ⊥
no-clash-apart forest (writes n bytes to) p s r taken v i j m h = text-alone-apart bytes p s r (after_text bytes p) refl taken v i j m h.0 h.1 h.2
no-clash-apart forest (fills n pipe to) p s r taken v i j m h = h
no-clash-apart forest (calls n name to) p s r taken v i j m h = h
no-clash-apart forest (picks from choice to) p s r taken v i j m h = h
no-clash-apart forest (passes from to) p s r taken v i j m h = h

module _ (forest : ForestData) (summaries : List Summary) (valid : All IsValidSummary summaries) (closed : IsClosedByNumber forest (chart_of summaries)) (conflict_free : All IsConflictFreeSummary summaries) where
  abbrev Covered : Standing → List (Pair Place) → LexState ValueState → Type 0
  Covered a ps s = IsCovered html_language forest (places_of forest summaries) place.Text a ps s

  -- the open calls tell in which place the innermost template is entered
  same-entry : (os : List Open) (t : List ℕ) (p q : Place) (ps qs : List (Pair Place)) → IsStack forest (places_of forest summaries) place.Text os t p ps → IsStack forest (places_of forest summaries) place.Text os t q qs → p ≡ q
  same-entry [] t p q [] [] f g = f ∙ sym g
  same-entry [] t p q [] (y ∷ ys) f g = absurd g
  same-entry [] t p q (x ∷ xs) ys f g = absurd f
  same-entry (o ∷ os) t p q [] ys f g = absurd f
  same-entry (o ∷ os) t p q (x ∷ xs) [] f g = absurd g
  same-entry (o ∷ os) t p q (x ∷ xs) (y ∷ ys) f g =
      let same = same-entry os o.template x.entry y.entry xs ys f.3 g.3 in
      some-one p q (sym f.2 ∙ ap (λ (z : Place). places_of forest summaries o.template z (before o.node)) same ∙ g.2)

  clear-at : (a : Standing) (ps : List (Pair Place)) (s : LexState ValueState) (e : Edge) → Covered a ps s → Within e (edges_in forest a.template) → a.at ≡ from_of e → Errs forest a.template e s → ⊥
  clear-at a ps s e c inside at errs =
      let on = is-on summaries (number_named a.template forest) c.entry (from_of e) c.place (subst (λ (k : Point). places_of forest summaries a.template c.entry k ≡ Some c.place) at c.there) in
      let t = taken-edge forest summaries a.template on.number c.entry c.place e valid closed conflict_free on.is inside on.on in
      step-clear forest on.number a.template e c.place s on.is c.is_in.0 c.is_in.1 t.taken errs

  same-place : (a : Standing) (ps qs : List (Pair Place)) (s r : LexState ValueState) → (c : Covered a ps s) → (d : Covered a qs r) → IsIn c.place r
  same-place a ps qs s r c d =
      let entry = same-entry a.open_calls a.template c.entry d.entry c.below d.below c.opened d.opened in
      let place = some-one c.place d.place (sym c.there ∙ ap (λ (z : Place). places_of forest summaries a.template z a.at) entry ∙ d.there) in
      subst (λ (z : Place). IsIn z r) (sym place) d.is_in.1

  clash-at : (a : Standing) (ps qs : List (Pair Place)) (s r : LexState ValueState) (e : Edge) → Covered a ps s → Covered a qs r → Within e (edges_in forest a.template) → a.at ≡ from_of e → EdgeClashes e s r → ⊥
  clash-at a ps qs s r e c d inside at clash =
      let on = is-on summaries (number_named a.template forest) c.entry (from_of e) c.place (subst (λ (k : Point). places_of forest summaries a.template c.entry k ≡ Some c.place) at c.there) in
      let t = taken-edge forest summaries a.template on.number c.entry c.place e valid closed conflict_free on.is inside on.on in
      no-clash forest e c.place s r (taken-parts (may_use c.place (use_at forest on.number (from_of e))) (edge_step forest e c.place) t.taken) c.is_in.0 c.is_in.1 (same-place a ps qs s r c d) clash

  -- two that met apart, and took the same moves from there, come to a place that shows it
  apart-at : IsClosedByName html_language forest (places_of forest summaries) → (a : Standing) (ps qs : List (Pair Place)) (s r : LexState ValueState) (common : List Move) (e : Edge) → Covered a ps s → Covered a qs r → IsPath forest a common
      → Within e (edges_in forest (reached forest a common).template) → (reached forest a common).at ≡ from_of e → ErrsApart common e s r → ⊥
  apart-at whole a ps qs s r common e c d path inside at errs =
      let b = reached forest a common in
      let h = shown-along forest (places_of forest summaries) place.Text whole common a ps s r path c (same-place a ps qs s r c d) errs.met in
      let p = h.1 in
      let on = is-on summaries (number_named b.template forest) h.0 (from_of e) p (subst (λ (k : Point). places_of forest summaries b.template h.0 k ≡ Some p) at h.2.there) in
      let t = taken-edge forest summaries b.template on.number h.0 p e valid closed conflict_free on.is inside on.on in
      no-clash-apart forest e p (read_moves html_language common s) (read_moves html_language common r) (taken-parts (may_use p (use_at forest on.number (from_of e))) (edge_step forest e p) t.taken)
      h.2.valid h.2.one_in h.2.other_in h.2.shown errs.clash

  join-at : (st : Standing) (ps qs : List (Pair Place)) (s r : LexState ValueState) (a b : Place) → Covered st ps s → Covered st qs r → placed s ≡ Some a → placed r ≡ Some b → joined a b ≡ None → ⊥
  join-at st ps qs s r a b c d sa rb none =
      let i = c.is_in.1 in let j = same-place st ps qs s r c d in
      let ia = subst (λ (x : Place). Below x c.place) (one_place (placed s) i.own a i.stands sa) i.below in
      let jb = subst (λ (x : Place). Below x c.place) (one_place (placed r) j.own b j.stands rb) j.below in
      let both = the_join_least a b c.place ia jb in
      no-join both.0 (sym none ∙ both.1)

  -- with no call open a template is entered in text
  entry-text : (t : List ℕ) (p : Place) (ps : List (Pair Place)) → IsStack forest (places_of forest summaries) place.Text [] t p ps → p ≡ place.Text
  entry-text t p [] f = f
  entry-text t p (q ∷ qs) f = absurd f

  end-at : (name : List ℕ) (t : ℕ) (ps : List (Pair Place)) (s : LexState ValueState) (a : Place) → number_named name forest ≡ Some t → EndsInText (chart_of summaries t place.Text finish_point) → Covered (open_standing [] name finish_point) ps s → placed s ≡ Some a → a ≡ place.Text
  end-at name t ps s a number ends c sa =
      let entry = entry-text name c.entry c.below c.opened in
      let on = is-on summaries (number_named name forest) c.entry finish_point c.place c.there in
      let same = some-one on.number t (sym on.is ∙ number) in
      let at : chart_of summaries t place.Text finish_point ≡ At c.place = sym (ap (λ (u : ℕ). chart_of summaries u place.Text finish_point) same) ∙ sym (ap (λ (z : Place). chart_of summaries on.number z finish_point) entry) ∙ on.on in
      let text : c.place ≡ place.Text = subst EndsInText at ends in
      let i = c.is_in.1 in
      let below = subst (λ (x : Place). Below x c.place) (one_place (placed s) i.own a i.stands sa) i.below in
      below-text a (subst (Below a) text below)

root-ends : (forest : ForestData) (names : List (List ℕ)) (summaries : List Summary) (name : List ℕ) (t : ℕ) → All (λ r. EndsInText (chart_of summaries r place.Text finish_point)) (root_numbers forest names)
    → Contains names name → number_named name forest ≡ Some t → EndsInText (chart_of summaries t place.Text finish_point)
root-ends forest names summaries name t all among number = All-contains (λ (r : ℕ). EndsInText (chart_of summaries r place.Text finish_point)) (root_numbers forest names) t all (root-in forest names name t among number)

-- a chart without conflict covers the paths of the roots, so none of them has another error than that of an end
module _ (forest : ForestData) (names : List (List ℕ)) (summaries : List Summary) (least : IsLeastChart forest (root_numbers forest names) place.Text summaries) (conflict_free : All IsConflictFreeSummary summaries)
    (name : List ℕ) (t : ℕ) (among : Contains names name) (number : number_named name forest ≡ Some t) where
  abbrev pairs_of : List Move → List (Pair Place)
  pairs_of ms = pairs_along forest (places_of forest summaries) (signs_of ms) (pair name place.Text ∷ [])

  root-chart : IsChartOf html_language forest (places_of forest summaries) name place.Text
  root-chart = root-is-chart forest summaries name t place.Text least.valid least.closed conflict_free number
      (All-contains (λ (r : ℕ). IsEntered forest (chart_of summaries) r place.Text) (root_numbers forest names) t least.entered (root-in forest names name t among number))

  cover : (ms : List Move) → IsPathOfSet forest name ms → IsCovered html_language forest (places_of forest summaries) place.Text (stands_at forest name ms) (pairs_of ms) (path_state_after ms)
  cover ms path = chart-covers forest (places_of forest summaries) name place.Text start.at root-chart (tt, record { own = place.Text; stands = refl; valid = tt; below = refl }) ms path

  cover-there : (ms ns : List Move) → IsPathOfSet forest name ns → stands_at forest name ns ≡ stands_at forest name ms → IsCovered html_language forest (places_of forest summaries) place.Text (stands_at forest name ms) (pairs_of ns) (path_state_after ns)
  cover-there ms ns other meet = subst (λ (a : Standing). IsCovered html_language forest (places_of forest summaries) place.Text a (pairs_of ns) (path_state_after ns)) meet (cover ns other)

  no-other : HasNoOtherError forest name
  no-other = record {
    one = λ ms e path inside at errs.
        clear-at forest summaries least.valid least.closed conflict_free (stands_at forest name ms) (pairs_of ms) (path_state_after ms) e (cover ms path) inside at errs;
    two = λ ms ns e path other meet inside at clash.
        clash-at forest summaries least.valid least.closed conflict_free (stands_at forest name ms) (pairs_of ms) (pairs_of ns) (path_state_after ms) (path_state_after ns) e (cover ms path) (cover-there ms ns other meet) inside at clash;
    apart = λ ms ns common e path other meet on inside at errs.
        apart-at forest summaries least.valid least.closed conflict_free root-chart.closed (stands_at forest name ms) (pairs_of ms) (pairs_of ns) (path_state_after ms) (path_state_after ns) common e (cover ms path) (cover-there ms ns other meet) on inside at errs;
    joins = λ ms ns a b path other meet sa rb none.
        join-at forest summaries least.valid least.closed conflict_free (stands_at forest name ms) (pairs_of ms) (pairs_of ns) (path_state_after ms) (path_state_after ns) a b (cover ms path) (cover-there ms ns other meet) sa rb none;
  }

pub no-other-error : ConflictFreeSetsHaveNoOtherError
no-other-error forest names summaries least conflict_free name t among number = no-other forest names summaries least conflict_free name t among number

pub no-error : ChartedSetsHaveNoError
no-error forest names chart is name t among number =
    let summaries = chart.summaries in
    record {
      others = no-other-error forest names summaries is.least is.conflict_free name t among number;
      ends = λ ms a path at sa. end-at forest summaries is.least.valid is.least.closed is.conflict_free name t (pairs_of forest names summaries is.least is.conflict_free name t among number ms) (path_state_after ms) a number (root-ends forest names summaries name t is.ends among number)
          (subst (λ (z : Standing). IsCovered html_language forest (places_of forest summaries) place.Text z (pairs_of forest names summaries is.least is.conflict_free name t among number ms) (path_state_after ms)) at (cover forest names summaries is.least is.conflict_free name t among number ms path)) sa;
    }

-- so an end is refused only where no other error stands, and where none stands nothing else is
not-both : (b : Bool) → b ≡ true → b ≡ false → ⊥
not-both b e f = cc

alone : (forest : ForestData) (names : List (List ℕ)) (summaries : List Summary) (sh : Showing) → IsLeastChart forest (root_numbers forest names) place.Text summaries → is_end_code sh.code ≡ true
    → IsRefusedByConflict summaries sh ⊎ EndsBy forest names summaries sh → HaveNoOtherErrors forest names
alone forest names summaries sh least is (inl c) = absurd (not-both (is_end_code sh.code) is c.code)
alone forest names summaries sh least is (inr e) = no-other-error forest names summaries least e.conflict_free

pub ends-alone : EndsAreRefusedAlone
ends-alone forest names sh up r = (
  (λ is. alone forest names r.summaries sh r.least is r.cause),
  (λ free. (let t = shown-root forest sh up r.shows in ap is_end_code (end-shown forest sh up r.shows (free sh.root t.0 r.root t.1)))),
)
