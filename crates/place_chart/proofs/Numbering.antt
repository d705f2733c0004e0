-- The numbers of a template's summaries.
use Rattle.std.proofs.Common.{◌≡◌, ℕ, zero, suc, ◌+◌, ◌<◌, List, [], ◌∷◌, ◌++◌, Bool, true, false, refl, sym, ap, ◌∙◌, Option, Some, None, length, get_or, set, arith}
use Rattle.std.specs.Prelude.{◌==◌, ◌&&◌, if◌then◌else◌, option_map, slice_get}
use Rattle.std.specs.Global.{Vec}
use Rattle.place_core.specs.declared.place.Place.{Place}
use Rattle.place_chart.specs.Numbers.{AreNumbers, HasOneMore, number_in_list, numbers_from, numbers_of}
use Rattle.place_chart.specs.Summaries.{pair_number, same_place}
use Rattle.place_chart.specs.declared.summary.Summary.{Summary}

one_further : (k : ℕ) (o : Option ℕ) → option_map (λ n. suc k + n) o ≡ option_map (λ n. k + n) (option_map suc o)
one_further k None = refl
one_further k (Some n) = ap Some (omega arith)

from_zero : (o : Option ℕ) → option_map (λ n. 0 + n) o ≡ o
from_zero None = refl
from_zero (Some n) = ap Some (omega arith)

-- the first summary or one after it
either_found : (k : ℕ) (b : Bool) (o q : Option ℕ) → o ≡ option_map (λ n. suc k + n) q → (if b then Some k else o) ≡ option_map (λ n. k + n) (if b then Some 0 else option_map suc q)
either_found k true o q e = ap Some (omega arith)
either_found k false o q e = e ∙ one_further k q

first_found : (all summaries : List Summary) (summary : Summary) (k t : ℕ) (p : Place) (a : Bool) → slice_get all k ≡ Some summary
    → number_in_list all (numbers_from summaries (suc k) t) p ≡ option_map (λ n. suc k + n) (pair_number summaries t p)
    → number_in_list all (if a then k ∷ numbers_from summaries (suc k) t else numbers_from summaries (suc k) t) p ≡ option_map (λ n. k + n) (if a && same_place summary.entry p then Some 0 else option_map suc (pair_number summaries t p))
first_found all summaries summary k t p true is e = rw is (either_found k (same_place summary.entry p) (number_in_list all (numbers_from summaries (suc k) t) p) (pair_number summaries t p) e)
first_found all summaries summary k t p false is e = e ∙ one_further k (pair_number summaries t p)

-- among the summaries of a template the first of a pair is found, as it is among all
number_found : (all summaries : List Summary) (k t : ℕ) (p : Place) → ((i : ℕ) → slice_get all (k + i) ≡ slice_get summaries i) → number_in_list all (numbers_from summaries k t) p ≡ option_map (λ n. k + n) (pair_number summaries t p)
number_found all [] k t p h = refl
number_found all (summary ∷ summaries) k t p h = first_found all summaries summary k t p (summary.template == t)
    ((let e : k ≡ k + 0 = omega arith in ap (slice_get all) e) ∙ h 0)
    (number_found all summaries (suc k) t p (λ i. (let e : suc k + i ≡ k + suc i = omega arith in ap (slice_get all) e) ∙ h (suc i)))

pub pair_found : (summaries : List Summary) (lists : List (Vec ℕ)) (t : ℕ) (p : Place) → AreNumbers summaries lists → number_in_list summaries (numbers_of (slice_get lists t)) p ≡ pair_number summaries t p
pair_found summaries lists t p h = ap (λ (ns : List ℕ). number_in_list summaries ns p) (h t) ∙ number_found summaries summaries 0 t p (λ i. let e : 0 + i ≡ i = omega arith in ap (slice_get summaries) e) ∙ from_zero (pair_number summaries t p)

pub find_gives : (summaries seen conflict_free : List Summary) (lists seen_lists : List (Vec ℕ)) (numbers : List ℕ) (t : ℕ) (p : Place) (r : Option ℕ) → summaries ≡ conflict_free → AreNumbers summaries lists → seen_lists ≡ lists → numbers ≡ numbers_of (slice_get seen_lists t) → seen ≡ summaries
    → r ≡ number_in_list seen numbers p → r ≡ pair_number conflict_free t p
find_gives summaries seen conflict_free lists seen_lists numbers t p r e h f g i is = is ∙ rw (i, g, f) (pair_found summaries lists t p h) ∙ ap (λ (rs : List Summary). pair_number rs t p) e

-- one summary more
tail_numbers : (k t n m : ℕ) (a b : Bool) (ns more : List ℕ) → more ≡ (if b then ns ++ n ∷ [] else ns) → n ≡ m
    → (if a then k ∷ more else more) ≡ (if b then (if a then k ∷ ns else ns) ++ m ∷ [] else (if a then k ∷ ns else ns))
tail_numbers k t n m true true ns more e f = rw (e, f) refl
tail_numbers k t n m true false ns more e f = rw e refl
tail_numbers k t n m false true ns more e f = rw (e, f) refl
tail_numbers k t n m false false ns more e f = e

pub numbers_push : (summaries : List Summary) (summary : Summary) (k t : ℕ) → numbers_from (summaries ++ summary ∷ []) k t ≡ (if summary.template == t then numbers_from summaries k t ++ (k + length summaries) ∷ [] else numbers_from summaries k t)
numbers_push [] summary k t = let e : k ≡ k + 0 = omega arith in ap (λ (n : ℕ). if summary.template == t then n ∷ [] else []) e
numbers_push (r ∷ summaries) summary k t = tail_numbers k t (suc k + length summaries) (k + suc (length summaries)) (r.template == t) (summary.template == t) (numbers_from summaries (suc k) t) (numbers_from (summaries ++ summary ∷ []) (suc k) t) (numbers_push summaries summary (suc k) t) (omega arith)

-- another summary of the same template
pub numbers_set : (summaries : List Summary) (n : ℕ) (summary d : Summary) (k t : ℕ) → summary.template ≡ (get_or summaries n d).template → n < length summaries → numbers_from (set summaries n summary) k t ≡ numbers_from summaries k t
numbers_set [] n summary d k t e lt = refl
numbers_set (r ∷ summaries) zero summary d k t e lt = rw e refl
numbers_set (r ∷ summaries) (suc n) summary d k t e lt = ap (λ (ns : List ℕ). if r.template == t then k ∷ ns else ns) (numbers_set summaries n summary d (suc k) t e (omega (arith, lt)))

pub are_more : (summaries : List Summary) (summary : Summary) (old new : List (Vec ℕ)) (n : ℕ) → AreNumbers summaries old → HasOneMore old new summary.template n → n ≡ length summaries → AreNumbers (summaries ++ summary ∷ []) new
are_more summaries summary old new n h more e t =
    let f : n ≡ 0 + length summaries = omega (arith, e) in
    more t ∙ ap (λ (ns : List ℕ). if summary.template == t then ns ++ n ∷ [] else ns) (h t)
    ∙ ap (λ (k : ℕ). if summary.template == t then numbers_from summaries 0 t ++ k ∷ [] else numbers_from summaries 0 t) f
    ∙ sym (numbers_push summaries summary 0 t)
