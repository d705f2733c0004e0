-- One more pair that is reached.
use Rattle.std.proofs.Common.{◌≡◌, ℕ, List, [], ◌∷◌, ◌++◌, None, false, refl, ◌∙◌}
use Rattle.place_core.specs.declared.place.Place.{Place}
use Rattle.place_infer.specs.Kept.{AreKept, IsKeptPair}
use Rattle.place_chart.proofs.ApartSummaries.{none_apart, push_apart}
use Rattle.place_chart.proofs.Pairs.{none_found}
use Rattle.place_chart.proofs.ReachedSummaries.{none_reached, none_same, push_reached, push_same}
use Rattle.place_chart.proofs.TakenSummaries.{none_pushed}
use Rattle.place_chart.specs.Least.{IsReached}
use Rattle.place_chart.specs.Summaries.{chart_of, is_pair, pair_number, point_state_in}
use Rattle.place_chart.specs.declared.summary.Summary.{Summary}
use Rattle.tpl_paths.specs.Edges.{Point}
use Rattle.tpl_tree.specs.Forests.{ForestData}

pub kept_none : (forest : ForestData) (roots : List ℕ) (first : Place) (all : List Summary) → IsKeptPair forest roots first all []
kept_none forest roots first all = record { same = none_same all; apart = none_apart; reached = none_reached forest roots first }

pub kept_push : (forest : ForestData) (roots : List ℕ) (first : Place) (all kept : List Summary) (new : Summary) → IsKeptPair forest roots first all kept → pair_number kept new.template new.entry ≡ None
    → ((k : Point) → point_state_in new k ≡ chart_of all new.template new.entry k) → IsReached forest roots first kept new.template new.entry → IsKeptPair forest roots first all (kept ++ new ∷ [])
kept_push forest roots first all kept new h none is reached = record {
  same = push_same all kept new h.same is;
  apart = push_apart kept new h.apart (none_found kept new.template new.entry none);
  reached = push_reached forest roots first kept new h.reached reached;
}

-- nothing was taken out yet
pub none_kept : (forest : ForestData) (roots : List ℕ) (first : Place) (all : List Summary) → AreKept forest roots first all all []
none_kept forest roots first all = record { pairs = kept_none forest roots first all; others = λ t p none k. refl }

-- one more was taken out, and is kept
pub kept_taken : (forest : ForestData) (roots : List ℕ) (first : Place) (all left now kept : List Summary) (new : Summary) → AreKept forest roots first all left kept → pair_number kept new.template new.entry ≡ None
    → ((k : Point) → point_state_in new k ≡ chart_of left new.template new.entry k) → ((t : ℕ) (p : Place) (k : Point) → is_pair new t p ≡ false → chart_of now t p k ≡ chart_of left t p k)
    → IsReached forest roots first kept new.template new.entry → AreKept forest roots first all now (kept ++ new ∷ [])
kept_taken forest roots first all left now kept new h none is others reached = record {
  pairs = kept_push forest roots first all kept new h.pairs none (λ k. is k ∙ h.others new.template new.entry none k) reached;
  others = λ t p e k. (let n = none_pushed kept new t p e in others t p k n.1 ∙ h.others t p n.0 k);
}
