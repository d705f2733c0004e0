-- How far a search has come among the pairs that a pair reaches.
use Rattle.std.proofs.Common.{◌≡◌, ℕ, ◌+◌, ◌<◌, ◌≤◌, List, [], ◌∷◌, ◌++◌, ◌⊎◌, Option, Some, None, length, get_or, refl, sym, ap, ◌∙◌, subst, inl, inr, append_assoc, arith}
use Rattle.std.proofs.lemmas.Bool.{cases_lt}
use Rattle.std.proofs.lemmas.List.{append-nil, length-append}
use Rattle.std.proofs.lemmas.List.Elements.{All-contains, All-push, Contains-append_cases, Contains-append_left, Contains-get_or, Contains-push_cases}
use Rattle.std.proofs.lemmas.Option.{get_or_from_slice_get, slice_get-get_or, slice_get_past, slice_get_within}
use Rattle.std.specs.List.{IsDistinct}
use Rattle.std.specs.Prelude.{All, Contains, nat_eq, slice_get}
use Rattle.place_explain.specs.Explaining.{AreReached, PairCalls, PairLeads, Reaches, nodes_of_summary}
use Rattle.place_explain.specs.Numbers.{AreCallsAdded, IsNumberAdded, NumbersData}
use Rattle.place_infer.specs.ChartViews.{ChartData, call_in}
use Rattle.place_chart.proofs.Elements.{get_left}
use Rattle.place_chart.specs.declared.summary.Summary.{Summary}
use Rattle.tpl_tree.specs.Forests.{ForestData}
use Rattle.tpl_tree.specs.Trees.{nodes_size}

-- The pairs before a place have their calls among those that were met, which are all reached.
pub record Searched (forest : ForestData) (chart : ChartData) (start next : ℕ) (met : NumbersData) : Type 0 where
  pub within : next ≤ length met.list
  pub limit : met.limit ≡ length chart.summaries
  pub from : (n : ℕ) → Contains met.list n → Reaches forest chart start n
  pub has : start < length chart.summaries → Contains met.list start
  pub called : (j n node m : ℕ) → j < next → slice_get met.list j ≡ Some n → PairCalls forest chart n node m → m < length chart.summaries → Contains met.list m

some_one : (a b : ℕ) → Some a ≡ Some b → a ≡ b
some_one a b e = cc

-- one call more
leads_on : (forest : ForestData) (chart : ChartData) (nodes : List ℕ) (n k node m : ℕ) → PairLeads forest chart n nodes k → PairCalls forest chart k node m → PairLeads forest chart n (nodes ++ node ∷ []) m
leads_on forest chart [] n k node m is call = (m, subst (λ (j : ℕ). PairCalls forest chart j node m) (sym is) call, refl)
leads_on forest chart (first ∷ nodes) n k node m h call = (h.0, h.1, leads_on forest chart nodes h.0 k node m h.2 call)

-- what leads to a pair is one
no_calls : (forest : ForestData) (chart : ChartData) (n node m : ℕ) → length chart.summaries ≤ n → PairCalls forest chart n node m → ⊥
no_calls forest chart n node m past call =
    let within = subst (λ (summary : Option Summary). node < nodes_size (nodes_of_summary forest summary)) (slice_get_past chart.summaries n past) call.within in
    omega (arith, within)

in_summaries : (forest : ForestData) (chart : ChartData) (nodes : List ℕ) (n m : ℕ) → PairLeads forest chart n nodes m → m < length chart.summaries → n < length chart.summaries
in_summaries forest chart [] n m is lt = subst (λ (k : ℕ). k < length chart.summaries) (sym is) lt
in_summaries forest chart (node ∷ nodes) n m h lt = elim (cases_lt n (length chart.summaries)) [
  | inl inside ↦ inside
  | inr past ↦ absurd (no_calls forest chart n node h.0 past h.1)
]

-- no calls are added yet
pub added_none : (forest : ForestData) (chart : ChartData) (n : ℕ) (met : NumbersData) → AreCallsAdded forest chart n 0 met met
added_none forest chart n met = record {
  limit = refl;
  has = λ node m lt call below. absurd (omega (arith, lt));
  more = [];
  is = sym (append-nil met.list);
  called = λ k d lt. absurd (omega (arith, lt));
}

-- likewise, and those of one node more, which calls a pair or none
pub added_call : (forest : ForestData) (chart : ChartData) (n node m : ℕ) (old met new : NumbersData) → AreCallsAdded forest chart n node old met → PairCalls forest chart n node m → IsNumberAdded met new m → AreCallsAdded forest chart n (node + 1) old new
added_call forest chart n node m old met new h call added =
    let own : (x k : ℕ) → x < node + 1 → PairCalls forest chart n x k → (x < node) ⊎ (k ≡ m) = λ x k lt its. elim (cases_lt x node) [
      | inl before ↦ inl before
      | inr last ↦ inr (let same : x ≡ node = omega (arith, lt, last) in some_one k m (sym its.call ∙ ap (call_in chart.calls n) same ∙ call.call))
    ] in
    elim added.rest [
      | inl same ↦ record {
        limit = added.limit ∙ h.limit;
        has = λ x k lt its below. elim (own x k lt its) [
          | inl before ↦ subst (λ (ns : List ℕ). Contains ns k) (sym same) (h.has x k before its below)
          | inr is ↦ subst (Contains new.list) (sym is) (added.has (subst (λ (y : ℕ). y < met.limit) is (subst (λ (y : ℕ). k < y) (sym h.limit) below)))
        ];
        more = h.more;
        is = same ∙ h.is;
        called = h.called;
      }
      | inr one ↦ record {
        limit = added.limit ∙ h.limit;
        has = λ x k lt its below. elim (own x k lt its) [
          | inl before ↦ subst (λ (ns : List ℕ). Contains ns k) (sym one.0) (Contains-append_left met.list (m ∷ []) k (h.has x k before its below))
          | inr is ↦ subst (Contains new.list) (sym is) (added.has one.1)
        ];
        more = h.more ++ m ∷ [];
        is = one.0 ∙ ap (λ (ns : List ℕ). ns ++ m ∷ []) h.is ∙ append_assoc old.list h.more (m ∷ []);
        called = All-push (λ k. (x : ℕ) × PairCalls forest chart n x k) h.more m h.called (node, call);
      }
    ]

pub added_no_call : (forest : ForestData) (chart : ChartData) (n node : ℕ) (old met : NumbersData) → AreCallsAdded forest chart n node old met → call_in chart.calls n node ≡ None → AreCallsAdded forest chart n (node + 1) old met
added_no_call forest chart n node old met h none = record {
  limit = h.limit;
  has = λ x k lt its below. elim (cases_lt x node) [
    | inl before ↦ h.has x k before its below
    | inr last ↦ absurd (let same : x ≡ node = omega (arith, lt, last) in let no : None ≡ Some k = sym none ∙ ap (call_in chart.calls n) (sym same) ∙ its.call in cc)
  ];
  more = h.more;
  is = h.is;
  called = h.called;
}

-- a search begins with one pair
pub searched_first : (forest : ForestData) (chart : ChartData) (start : ℕ) (none met : NumbersData) → none.list ≡ [] → none.limit ≡ length chart.summaries → IsNumberAdded none met start → Searched forest chart start 0 met
searched_first forest chart start none met empty limit added = record {
  within = omega arith;
  limit = added.limit ∙ limit;
  from = λ n has. elim added.rest [
    | inl same ↦ absurd (let none_there = subst (λ (ns : List ℕ). Contains ns n) (same ∙ empty) has in omega (arith, none_there.1))
    | inr one ↦ (
      [],
      elim (Contains-push_cases [] start n (subst (λ (ns : List ℕ). Contains ns n) (one.0 ∙ ap (λ (ns : List ℕ). ns ++ start ∷ []) empty) has)) [
        | inl there ↦ absurd (omega (arith, there.1))
        | inr is ↦ is
      ],
    )
  ];
  has = λ lt. added.has (subst (λ (k : ℕ). start < k) (sym limit) lt);
  called = λ j n node m lt at call inside. absurd (omega (arith, lt));
}

-- likewise, and goes on with the next one
pub searched_more : (forest : ForestData) (chart : ChartData) (start next n : ℕ) (old new : NumbersData) → Searched forest chart start next old → slice_get old.list next ≡ Some n → AreCallsAdded forest chart n (nodes_size (nodes_of_summary forest (slice_get chart.summaries n))) old new → Searched forest chart start (next + 1) new
searched_more forest chart start next n old new h at added =
    let keeps : (m : ℕ) → Contains old.list m → Contains new.list m = λ m has. subst (λ (ns : List ℕ). Contains ns m) (sym added.is) (Contains-append_left old.list added.more m has) in
    let within = slice_get_within old.list next n at in
    let has_n : Contains old.list n = subst (Contains old.list) (get_or_from_slice_get old.list next n n at) (Contains-get_or old.list next n within) in
    let stays : (j k : ℕ) → slice_get old.list j ≡ Some k → slice_get new.list j ≡ Some k = λ j k is. ap (λ (ns : List ℕ). slice_get ns j) added.is ∙ get_left old.list added.more j k is in
    record {
      within = omega (arith, within, ap length added.is, length-append old.list added.more);
      limit = added.limit ∙ h.limit;
      from = λ m has. elim (Contains-append_cases old.list added.more m (subst (λ (ns : List ℕ). Contains ns m) added.is has)) [
        | inl was ↦ h.from m was
        | inr new_one ↦ (let call = All-contains (λ k. (node : ℕ) × PairCalls forest chart n node k) added.more m added.called new_one in let way = h.from n has_n in
            (way.0 ++ call.0 ∷ [], leads_on forest chart way.0 start n call.0 m way.1 call.1))
      ];
      has = λ lt. keeps start (h.has lt);
      called = λ j k node m lt is call inside. elim (cases_lt j next) [
        | inl before ↦ keeps m (let old_at = slice_get-get_or old.list j k (omega (arith, before, within)) in
            h.called j k node m before (old_at ∙ sym (stays j (get_or old.list j k) old_at) ∙ is) call inside)
        | inr last ↦ (let same : j ≡ next = omega (arith, lt, last) in
            let one : n ≡ k = some_one n k (sym (stays next n at) ∙ ap (slice_get new.list) (sym same) ∙ is) in
            let own : PairCalls forest chart n node m = subst (λ (x : ℕ). PairCalls forest chart x node m) (sym one) call in
            added.has node m own.within own (subst (λ (x : ℕ). m < x) (sym h.limit) inside))
      ];
    }

-- at its end all that is reached was met
follows : (forest : ForestData) (chart : ChartData) (list : List ℕ) → ((n node m : ℕ) → Contains list n → PairCalls forest chart n node m → m < length chart.summaries → Contains list m)
    → (nodes : List ℕ) (n m : ℕ) → Contains list n → PairLeads forest chart n nodes m → m < length chart.summaries → Contains list m
follows forest chart list closed [] n m has is lt = subst (Contains list) is has
follows forest chart list closed (node ∷ nodes) n m has h lt = follows forest chart list closed nodes h.0 m (closed n node h.0 has h.1 (in_summaries forest chart nodes h.0 m h.2 lt)) h.2 lt

pub searched_all : (forest : ForestData) (chart : ChartData) (start next : ℕ) (met : NumbersData) (pairs : List ℕ) → Searched forest chart start next met → length met.list ≤ next
    → pairs ≡ met.list → IsDistinct nat_eq pairs → All (λ n. n < met.limit) pairs → AreReached forest chart start pairs
searched_all forest chart start next met pairs h end is once below =
    let closed : (n node m : ℕ) → Contains met.list n → PairCalls forest chart n node m → m < length chart.summaries → Contains met.list m =
    λ n node m has call lt. h.called has.0 n node m (omega (arith, has.1, end)) (slice_get-get_or met.list has.0 n has.1 ∙ ap Some has.2) call lt in
    record {
      reached = λ n. (
        λ has. (h.from n (subst (λ (ns : List ℕ). Contains ns n) is has), subst (λ (k : ℕ). n < k) h.limit (All-contains (λ k. k < met.limit) pairs n below has)),
        λ way. subst (λ (ns : List ℕ). Contains ns n) (sym is)
            (follows forest chart met.list closed way.0.0 start n (h.has (in_summaries forest chart way.0.0 start n way.0.1 way.1)) way.0.1 way.1),
      );
      once = once;
    }
