-- A closed chart covers every path.
use Rattle.std.proofs.Common.{◌≡◌, ℕ, List, [], ◌∷◌, Option, Some, None, refl, sym, ap, ◌∙◌}
use Rattle.tpl_tree.specs.Forests.{ForestData}
use Rattle.tpl_tree.specs.declared.node_kind.NodeKind.{NodeKind}
use Rattle.place_flow.specs.Covering.{ChartByName, Covers, EveryChartCovers, Holds, IsChartOf, IsClosedByName, IsCovered, IsStack, Language, LeadsOn, Pair, called_pair, edge_read, pair, pairs_along, read_moves, sign_pairs}
use Rattle.tpl_paths.specs.Edges.{Edge, Point, before, calls, fills, finish_point, node_kind_at, passes, picks, start_in, writes}
use Rattle.tpl_paths.specs.Paths.{HasCall, IsMove, IsPath, Move, Open, Standing, after_moves, along, at_root, back, enters_at, left_calls, leaves_call, reached, signs_of, open_standing, along_edge}
use Rattle.tpl_paths.proofs.EdgeNodes.{call_stands}

-- a place above one that stands for a state
pub record IsThere {S P : Type 0} (l : Language S P) (o : Option P) (s : S) : Type 0 where
  pub place : P
  pub there : o ≡ Some place
  pub is_in : l.IsIn place s

held : {S P : Type 0} (l : Language S P) → Covers l → (o : Option P) (p : P) (s : S) → Holds l o p → l.IsIn p s → IsThere l o s
held l c (Some q) p s h i = record { place = q; there = refl; is_in = c.above p q s h i }
held l c None p s h i = absurd h

led_on : {S P : Type 0} (l : Language S P) → Covers l → (step o : Option P) (s : S) → LeadsOn l step o → ((q : P) → step ≡ Some q → l.IsIn q s) → IsThere l o s
led_on l c (Some q) o s h i = held l c o q s h (i q refl)
led_on l c None o s h i = absurd h

-- another point of the same template, with the same pairs
at_point : {S P : Type 0} (l : Language S P) (forest : ForestData) (chart : ChartByName P) (first : P) (a : Standing) (ps : List (Pair P)) (s u : S) (to : Point)
    → (h : IsCovered l forest chart first a ps s) → IsThere l (chart a.template h.entry to) u → IsCovered l forest chart first (open_standing a.open_calls a.template to) ps u
at_point l forest chart first a ps s u to h i = record { entry = h.entry; below = h.below; stack = h.stack; opened = h.opened; place = i.place; there = i.there; is_in = i.is_in }

-- the pairs after an edge
abbrev pub edge_pairs : {P : Type 0} → ForestData → ChartByName P → Edge → List (Pair P) → List (Pair P)
edge_pairs forest chart (writes n bytes to) ps = ps
edge_pairs forest chart (fills n pipe to) ps = ps
edge_pairs forest chart (calls n name to) ps = sign_pairs forest chart (enters_at n) ps
edge_pairs forest chart (picks from choice to) ps = ps
edge_pairs forest chart (passes from to) ps = ps

called_pairs : {P : Type 0} (found : Option NodeKind) (o : Option P) (name : List ℕ) (pipe : Option Rattle.tpl_tree.specs.declared.pipe.Pipe.Pipe) (a : P) (ps : List (Pair P))
    → found ≡ Some (Rattle.tpl_tree.specs.declared.node_kind.NodeKind.TheVariants.Template name pipe) → o ≡ Some a → called_pair found o ps ≡ pair name a ∷ ps
called_pairs found o name pipe a ps e f = rw (e, f) refl

pub edge_covers : {S P : Type 0} (l : Language S P) (forest : ForestData) (chart : ChartByName P) (first : P) → Covers l → IsClosedByName l forest chart → (a : Standing) (ps : List (Pair P)) (e : Edge) (s : S)
    → IsMove forest a (along e) → IsCovered l forest chart first a ps s → IsCovered l forest chart first (along_edge forest a e) (edge_pairs forest chart e ps) (edge_read l e s)
edge_covers l forest chart first c closed a ps (writes n bytes to) s m h =
    let here = ap (chart a.template h.entry) (sym m.1) ∙ h.there in
    at_point l forest chart first a ps s (l.text bytes s) to h
    (led_on l c (l.text_place bytes h.place) (chart a.template h.entry to) (l.text bytes s) (closed a.template h.entry (writes n bytes to) h.place m.0 here) (λ q e. c.texts bytes h.place q s e h.is_in))
edge_covers l forest chart first c closed a ps (fills n pipe to) s m h =
    let here = ap (chart a.template h.entry) (sym m.1) ∙ h.there in
    at_point l forest chart first a ps s (l.hole pipe s) to h
    (led_on l c (l.hole_place pipe h.place) (chart a.template h.entry to) (l.hole pipe s) (closed a.template h.entry (fills n pipe to) h.place m.0 here) (λ q e. c.holes pipe h.place q s e h.is_in))
edge_covers l forest chart first c closed a ps (calls n name to) s m h =
    let here = ap (chart a.template h.entry) (sym m.1) ∙ h.there in
    let i = held l c (chart name h.place (start_in forest name)) h.place s (closed a.template h.entry (calls n name to) h.place m.0 here).0 h.is_in in
    let is = call_stands forest a.template n name to m.0 in
    record {
      entry = h.place;
      below = pair a.template h.entry ∷ h.below;
      stack = ap (sign_pairs forest chart (enters_at n)) h.stack
          ∙ called_pairs (node_kind_at forest a.template n) (chart a.template h.entry (before n)) name is.0 h.place (pair a.template h.entry ∷ h.below) is.1 here;
      opened = (refl, m.0, here, h.opened);
      place = i.place;
      there = i.there;
      is_in = i.is_in;
    }
edge_covers l forest chart first c closed a ps (picks from choice to) s m h =
    let here = ap (chart a.template h.entry) (sym m.1) ∙ h.there in
    at_point l forest chart first a ps s s to h (held l c (chart a.template h.entry to) h.place s (closed a.template h.entry (picks from choice to) h.place m.0 here) h.is_in)
edge_covers l forest chart first c closed a ps (passes from to) s m h =
    let here = ap (chart a.template h.entry) (sym m.1) ∙ h.there in
    at_point l forest chart first a ps s s to h (held l c (chart a.template h.entry to) h.place s (closed a.template h.entry (passes from to) h.place m.0 here) h.is_in)

-- the end of a call
left_covers : {S P : Type 0} (l : Language S P) (forest : ForestData) (chart : ChartByName P) (first : P) → Covers l → IsClosedByName l forest chart → (a : Standing) (os : List Open) (entry place : P) (ps below : List (Pair P)) (s : S)
    → HasCall os → IsStack forest chart first os a.template entry below → ps ≡ pair a.template entry ∷ below → chart a.template entry finish_point ≡ Some place → l.IsIn place s
    → IsCovered l forest chart first (left_calls os a) (sign_pairs forest chart leaves_call ps) s
left_covers l forest chart first c closed a [] entry place ps below s k st e there i = absurd k
left_covers l forest chart first c closed a (o ∷ os) entry place ps [] s k st e there i = absurd st
left_covers {P = P} l forest chart first c closed a (o ∷ os) entry place ps (q ∷ qs) s k st e there i =
    let j = held l c (chart o.template q.entry o.back) place s ((closed o.template q.entry (calls o.node a.template o.back) entry st.1 st.2).1 place there) i in
    record {
      entry = q.entry;
      below = qs;
      stack = ap (sign_pairs forest chart leaves_call) e ∙ ap (λ (t : List ℕ). pair t q.entry ∷ qs) st.0;
      opened = st.3;
      place = j.place;
      there = j.there;
      is_in = j.is_in;
    }

pub back_covers : {S P : Type 0} (l : Language S P) (forest : ForestData) (chart : ChartByName P) (first : P) → Covers l → IsClosedByName l forest chart → (a : Standing) (ps : List (Pair P)) (s : S)
    → IsMove forest a back → IsCovered l forest chart first a ps s → IsCovered l forest chart first (after_moves forest a back) (sign_pairs forest chart leaves_call ps) s
back_covers l forest chart first c closed a ps s m h =
    left_covers l forest chart first c closed a a.open_calls h.entry h.place ps h.below s m.0 h.opened h.stack (ap (chart a.template h.entry) (sym m.1) ∙ h.there) h.is_in

pub walk_covers : {S P : Type 0} (l : Language S P) (forest : ForestData) (chart : ChartByName P) (first : P) → Covers l → IsClosedByName l forest chart → (ms : List Move) (a : Standing) (ps : List (Pair P)) (s : S)
    → IsPath forest a ms → IsCovered l forest chart first a ps s → IsCovered l forest chart first (reached forest a ms) (pairs_along forest chart (signs_of ms) ps) (read_moves l ms s)
walk_covers l forest chart first c closed [] a ps s w h = h
walk_covers l forest chart first c closed (along (writes n bytes to) ∷ ms) a ps s w h =
    let e : Edge = writes n bytes to in walk_covers l forest chart first c closed ms (along_edge forest a e) ps (edge_read l e s) w.1 (edge_covers l forest chart first c closed a ps e s w.0 h)
walk_covers l forest chart first c closed (along (fills n pipe to) ∷ ms) a ps s w h =
    let e : Edge = fills n pipe to in walk_covers l forest chart first c closed ms (along_edge forest a e) ps (edge_read l e s) w.1 (edge_covers l forest chart first c closed a ps e s w.0 h)
walk_covers l forest chart first c closed (along (calls n name to) ∷ ms) a ps s w h =
    let e : Edge = calls n name to in walk_covers l forest chart first c closed ms (along_edge forest a e) (edge_pairs forest chart e ps) s w.1 (edge_covers l forest chart first c closed a ps e s w.0 h)
walk_covers l forest chart first c closed (along (picks from choice to) ∷ ms) a ps s w h =
    let e : Edge = picks from choice to in walk_covers l forest chart first c closed ms (along_edge forest a e) ps s w.1 (edge_covers l forest chart first c closed a ps e s w.0 h)
walk_covers l forest chart first c closed (along (passes from to) ∷ ms) a ps s w h =
    let e : Edge = passes from to in walk_covers l forest chart first c closed ms (along_edge forest a e) ps s w.1 (edge_covers l forest chart first c closed a ps e s w.0 h)
walk_covers l forest chart first c closed (back ∷ ms) a ps s w h =
    walk_covers l forest chart first c closed ms (after_moves forest a back) (sign_pairs forest chart leaves_call ps) s w.1 (back_covers l forest chart first c closed a ps s w.0 h)

-- a root's first point
pub root_covers : {S P : Type 0} (l : Language S P) → Covers l → (forest : ForestData) (chart : ChartByName P) (root : List ℕ) (first : P) (s : S) → IsChartOf l forest chart root first → l.IsIn first s
    → IsCovered l forest chart first (at_root forest root) (pair root first ∷ []) s
root_covers l c forest chart root first s of_root i =
    let h = held l c (chart root first (start_in forest root)) first s of_root.starts i in
    record { entry = first; below = []; stack = refl; opened = refl; place = h.place; there = h.there; is_in = h.is_in }

pub covers : EveryChartCovers
covers S P l c forest chart root first s of_root i ms w =
    walk_covers l forest chart first c of_root.closed ms (at_root forest root) (pair root first ∷ []) s w (root_covers l c forest chart root first s of_root i)
