-- What a desk and its viewers do are acts on one list.
use Rattle.std.proofs.Common.{◌≡◌, ℕ, zero, suc, ◌-◌, ◌<◌, ◌≤◌, ◌⊎◌, List, [], ◌∷◌, ◌++◌, length, map, max, slice_get, slice_index, slice_set, refl, ap, sym, ◌∙◌, subst, arith, inl, inr, ⊎_elim, length-append}
use Rattle.std.proofs.lemmas.List.{get_or-map, length-map, map-append, map-set}
use Rattle.std.proofs.lemmas.List.Elements.{All-weaker, All-set, All-push}
use mathlib.Core.List.{IsPrefix}
use Rattle.set_core.specs.Acts.{ActLeads, publish, add_viewer, enter, learn}
use Rattle.set_publisher.specs.Calls.{publication, AreSeen, seen_of, CallsAreActs}
use Rattle.set_core.proofs.Prefixes.{begins_self, begins_trans, begins_length, begins_get}

-- a viewer that is added, and learns a number
last_set : (ns : List ℕ) (k : ℕ) (n : ℕ) → k ≡ length ns → 0 < n → slice_set (ns ++ 1 ∷ []) k (max (slice_index (ns ++ 1 ∷ []) k) n) ≡ ns ++ n ∷ []
last_set [] k n is more = rw is (ap (λ (m : ℕ). m ∷ []) (omega arith))
last_set (x ∷ ns) k n is more = rw is (ap (λ (rest : List ℕ). x ∷ rest) (last_set ns (length ns) n refl more))

or_less : (a b : ℕ) → (a < b) ⊎ (b ≤ a)
or_less a zero = inr (omega arith)
or_less zero (suc b) = inl (omega arith)
or_less (suc a) (suc b) = ⊎_elim (λ (h : a < b). inl (omega (arith, h))) (λ (h : b ≤ a). inr (omega (arith, h))) (or_less a b)

module _ {V : Type 0} where
  publishing : (sets : List V) (seen : List (List V)) (set : V) → AreSeen sets seen
      → AreSeen (sets ++ set ∷ []) seen × ActLeads (publication sets seen) (publish set ∷ []) (publication (sets ++ set ∷ []) seen)
  publishing sets seen set are =
      (All-weaker (λ mine. IsPrefix mine sets × (0 < length mine)) (λ mine. IsPrefix mine (sets ++ set ∷ []) × (0 < length mine)) (λ mine h. (begins_trans mine sets (sets ++ set ∷ []) h.0 (set ∷ [], refl), h.1)) seen are, (tt, refl))

  seating : (sets : List V) (seen : List (List V)) → 0 < length sets → AreSeen sets seen
      → AreSeen sets (seen ++ sets ∷ []) × ActLeads (publication sets seen) (add_viewer ∷ learn (length seen) (length sets) ∷ []) (publication sets (seen ++ sets ∷ []))
  seating sets seen some are =
      let there : length seen < length (map length seen ++ 1 ∷ []) = omega (arith, length-append (map length seen) (1 ∷ []), length-map seen length) in
      let all : slice_set (map length seen ++ 1 ∷ []) (length seen) (max (slice_index (map length seen ++ 1 ∷ []) (length seen)) (length sets)) ≡ map length (seen ++ sets ∷ [])
      = last_set (map length seen) (length seen) (length sets) (sym (length-map seen length)) some ∙ sym (map-append length seen (sets ∷ [])) in (
        All-push (λ mine. IsPrefix mine sets × (0 < length mine)) seen sets are (begins_self sets, some),
        (tt, ((there, omega arith), ap (λ (ns : List ℕ). record { keys = sets; seen = ns }) all)),
      )

  -- what a viewer has seen, in both ways
  mine_is : (seen : List (List V)) (viewer : ℕ) → viewer < length seen → slice_index (map length seen) viewer ≡ length (seen_of seen viewer)
  mine_is seen viewer v = get_or-map length seen viewer [] 0 v

  looking : (sets : List V) (seen : List (List V)) (viewer : ℕ) (now : List V) → AreSeen sets seen → viewer < length seen → IsPrefix (seen_of seen viewer) now → IsPrefix now sets
      → AreSeen sets (slice_set seen viewer now) × ActLeads (publication sets seen) (enter viewer (length now) ∷ []) (publication sets (slice_set seen viewer now)) × (slice_get sets (length now - 1) ≡ slice_get now (length now - 1))
  looking sets seen viewer now are v grows whole =
      let before = are viewer [] v in
      let more : length (seen_of seen viewer) ≤ length now = begins_length (seen_of seen viewer) now grows in
      let some : 0 < length now = omega (arith, before.1, more) in
      let most : length now ≤ length sets = begins_length now sets whole in
      let there : viewer < length (map length seen) = omega (arith, length-map seen length, v) in (
        All-set (λ mine. IsPrefix mine sets × (0 < length mine)) seen viewer now (whole, some) are,
        ((there, (omega (arith, mine_is seen viewer v, more), most)), ap (λ (ns : List ℕ). record { keys = sets; seen = ns }) (sym (map-set length seen viewer now))),
        begins_get now sets (length now - 1) whole (omega (arith, some)),
      )

  -- the longer of what was seen and what was told
  which : (mine told now sets : List V) → IsPrefix mine sets × (0 < length mine) → IsPrefix told sets
      → (length mine < length told → now ≡ told) → (length told ≤ length mine → now ≡ mine)
      → (length mine < length told) ⊎ (length told ≤ length mine) → (IsPrefix now sets × (0 < length now)) × (length now ≡ max (length mine) (length told))
  which mine told now sets before whole more less (inl h) =
      subst (λ (xs : List V). (IsPrefix xs sets × (0 < length xs)) × (length xs ≡ max (length mine) (length told))) (sym (more h)) ((whole, omega (arith, before.1, h)), omega (arith, h))
  which mine told now sets before whole more less (inr h) =
      subst (λ (xs : List V). (IsPrefix xs sets × (0 < length xs)) × (length xs ≡ max (length mine) (length told))) (sym (less h)) (before, omega (arith, h))

  learning : (sets : List V) (seen : List (List V)) (viewer : ℕ) (told now : List V) → AreSeen sets seen → viewer < length seen → IsPrefix told sets
      → (length (seen_of seen viewer) < length told → now ≡ told) → (length told ≤ length (seen_of seen viewer) → now ≡ seen_of seen viewer)
      → AreSeen sets (slice_set seen viewer now) × ActLeads (publication sets seen) (learn viewer (length told) ∷ []) (publication sets (slice_set seen viewer now))
  learning sets seen viewer told now are v whole more less =
      let before = are viewer [] v in
      let there : viewer < length (map length seen) = omega (arith, length-map seen length, v) in
      let kept : (IsPrefix now sets × (0 < length now)) × (length now ≡ max (length (seen_of seen viewer)) (length told)) = which (seen_of seen viewer) told now sets before whole more less (or_less (length (seen_of seen viewer)) (length told)) in
      let ns : slice_set (map length seen) viewer (max (slice_index (map length seen) viewer) (length told)) ≡ map length (slice_set seen viewer now)
      = ap (λ (n : ℕ). slice_set (map length seen) viewer n) (ap (λ (n : ℕ). max n (length told)) (mine_is seen viewer v) ∙ sym kept.1) ∙ sym (map-set length seen viewer now) in (
        All-set (λ mine. IsPrefix mine sets × (0 < length mine)) seen viewer now kept.0 are,
        ((there, begins_length told sets whole), ap (λ (ns : List ℕ). record { keys = sets; seen = ns }) ns),
      )

pub the_calls_are_acts : {V : Type 0} → CallsAreActs V
the_calls_are_acts = record { publishing = publishing; seating = seating; looking = looking; learning = learning }
