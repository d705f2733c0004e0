-- What a summary that is taken out of others leaves: the charts of all other pairs.
use Rattle.std.proofs.Common.{◌≡◌, ℕ, zero, suc, List, [], ◌∷◌, ◌++◌, Bool, true, false, refl, sym, ap, ◌∙◌, Option, Some, None}
use Rattle.std.specs.Prelude.{slice_get, slice_set, if◌then◌else◌, option_map}
use Rattle.place_core.proofs.Semilattices.{one_value}
use Rattle.place_core.specs.declared.place.Place.{Place}
use Rattle.place_chart.specs.Summaries.{IsTaken, chart_of, is_pair, pair_number, point_state_of, summary_of}
use Rattle.place_chart.specs.declared.summary.Summary.{Summary}
use Rattle.tpl_paths.specs.Edges.{Point}

-- another summary, of none of the two pairs
set_other : (xs : List Summary) (n : ℕ) (before after : Summary) (t : ℕ) (p : Place) → slice_get xs n ≡ Some before → is_pair before t p ≡ false → is_pair after t p ≡ false
    → summary_of (slice_set xs n after) t p ≡ summary_of xs t p
set_other [] n before after t p is f g = refl
set_other (x ∷ xs) zero before after t p is f g =
    ap (λ (b : Bool). if b then Some after else summary_of xs t p) g
    ∙ sym (ap (λ (b : Bool). if b then Some x else summary_of xs t p) (ap (λ (s : Summary). is_pair s t p) (one_value x before is) ∙ f))
set_other (x ∷ xs) (suc n) before after t p is f g = ap (λ (o : Option Summary). if is_pair x t p then Some x else o) (set_other xs n before after t p is f g)

same_pair : (s other : Summary) (t : ℕ) (p : Place) → s.template ≡ other.template → s.entry ≡ other.entry → is_pair s t p ≡ is_pair other t p
same_pair s other t p same_t same_e = cc

pub other_pairs : (old new : List Summary) (n : ℕ) (s : Summary) (t : ℕ) (p : Place) (k : Point) → IsTaken old new n → slice_get old n ≡ Some s → is_pair s t p ≡ false → chart_of new t p k ≡ chart_of old t p k
other_pairs old new n s t p k i is f =
    let same : i.before ≡ s = one_value i.before s (sym i.was ∙ is) in
    let before : is_pair i.before t p ≡ false = ap (λ (x : Summary). is_pair x t p) same ∙ f in
    let after : is_pair i.after t p ≡ false = same_pair i.after i.before t p i.template i.entry ∙ before in
    ap (λ (xs : List Summary). chart_of xs t p k) i.is ∙ ap (λ (o : Option Summary). point_state_of o k) (set_other old n i.before i.after t p i.was before after)

-- where a pair is not among summaries with one more, it is not among those, nor is it that of the one
abbrev pub IsNoPair : List Summary → Summary → ℕ → Place → Type 0
IsNoPair xs s t p = (pair_number xs t p ≡ None) × (is_pair s t p ≡ false)

none_only : (b : Bool) → (if b then Some 0 else option_map suc None) ≡ None → b ≡ false
none_only true e = cc
none_only false e = refl

none_later : (b : Bool) (o : Option ℕ) → (if b then Some 0 else option_map suc o) ≡ None → (b ≡ false) × (o ≡ None)
none_later true o e = cc
none_later false None e = (refl, refl)
none_later false (Some n) e = cc

pub none_pushed : (xs : List Summary) (s : Summary) (t : ℕ) (p : Place) → pair_number (xs ++ s ∷ []) t p ≡ None → IsNoPair xs s t p
none_pushed [] s t p e = (refl, none_only (is_pair s t p) e)
none_pushed (x ∷ xs) s t p e =
    let l = none_later (is_pair x t p) (pair_number (xs ++ s ∷ []) t p) e in
    let rest = none_pushed xs s t p l.1 in
    (ap (λ (b : Bool). if b then Some 0 else option_map suc (pair_number xs t p)) l.0 ∙ ap (option_map suc) rest.0, rest.1)
