-- What a desk and its viewers do are acts on one list.
use Rattle.std.specs.Prelude.{◌≡◌, ℕ, ◌-◌, ◌<◌, ◌≤◌, List, [], ◌∷◌, ◌++◌, length, map, All}
use Rattle.std.specs.Prelude.{slice_get, slice_set, slice_index_or}
use mathlib.Core.List.{IsPrefix}
use Rattle.set_core.specs.Publications.{Publication}
use Rattle.set_core.specs.Acts.{ActLeads, publish, add_viewer, enter, learn}

module _ {V : Type 0} where
  -- the list of a desk, with what each of its viewers has seen, as a publication whose keys are the sets
  abbrev pub publication : List V → List (List V) → Publication V
  publication sets seen = record { keys = sets; seen = map length seen }

  -- each viewer has seen first sets of the list, one at least
  abbrev pub AreSeen : List V → List (List V) → Type 0
  AreSeen sets seen = All (λ mine. IsPrefix mine sets × (0 < length mine)) seen

  abbrev pub seen_of : List (List V) → ℕ → List V
  seen_of seen viewer = slice_index_or seen viewer []

-- The lists are those of the desk's and the viewers' clauses. That what a viewer sees now is of the desk's list is told by `is_begun_by`
-- of any two that are known.
pub record CallsAreActs (V : Type 0) : Type 0 where
  pub publishing : (sets : List V) (seen : List (List V)) (set : V) → AreSeen sets seen
      → AreSeen (sets ++ set ∷ []) seen
      × ActLeads (publication sets seen) (publish set ∷ []) (publication (sets ++ set ∷ []) seen)
  -- a new viewer is told of the list as it is
  pub seating : (sets : List V) (seen : List (List V)) → 0 < length sets → AreSeen sets seen
      → AreSeen sets (seen ++ sets ∷ [])
      × ActLeads (publication sets seen) (add_viewer ∷ learn (length seen) (length sets) ∷ []) (publication sets (seen ++ sets ∷ []))
  -- the set is that of the number. Where a look misses, the viewer enters where it is
  pub looking : (sets : List V) (seen : List (List V)) (viewer : ℕ) (now : List V) → AreSeen sets seen → viewer < length seen
      → IsPrefix (seen_of seen viewer) now → IsPrefix now sets
      → AreSeen sets (slice_set seen viewer now)
      × ActLeads (publication sets seen) (enter viewer (length now) ∷ []) (publication sets (slice_set seen viewer now))
      × (slice_get sets (length now - 1) ≡ slice_get now (length now - 1))
  -- the viewer has seen what was told, where that is more
  pub learning : (sets : List V) (seen : List (List V)) (viewer : ℕ) (told now : List V) → AreSeen sets seen → viewer < length seen
      → IsPrefix told sets → (length (seen_of seen viewer) < length told → now ≡ told)
      → (length told ≤ length (seen_of seen viewer) → now ≡ seen_of seen viewer)
      → AreSeen sets (slice_set seen viewer now)
      × ActLeads (publication sets seen) (learn viewer (length told) ∷ []) (publication sets (slice_set seen viewer now))
