-- The second definition of a name depends only on which names are among those seen.
use Rattle.std.proofs.Common.{◌≡◌, ℕ, nat_eq, Bool, true, false, cond, ◌||◌, if◌then◌else◌, List, [], ◌∷◌, drop, slice_index_or, length, ◌<◌, ◌+◌, Some, refl, sym, ap, ◌∙◌, not}
use Rattle.std.specs.BTreeSet.{BTreeSet, contains, Updates}
use Rattle.std.specs.Cmp.Lexicographic.{pointwise, slice_cmp, texts_ties, nat_list_eq_equiv}
use Rattle.std.specs.List.{list_any}
use Rattle.std.specs.Ordering.{nat_cmp, is_eq}
use Rattle.std.proofs.lemmas.List.{drop_more}
use Rattle.tpl_parse.specs.Endings.{among, second_line}
use Rattle.tpl_build.specs.declared.definition.FoundDefinition.{FoundDefinition}

-- two lists have the same names
abbrev pub HaveSame : List (List ℕ) → List (List ℕ) → Type 0
HaveSame xs ys = (name : List ℕ) → among xs name ≡ among ys name

more_same : (x : List ℕ) (xs ys : List (List ℕ)) → HaveSame xs ys → HaveSame (x ∷ xs) (x ∷ ys)
more_same x xs ys h name = ap (λ b. pointwise nat_eq name x || b) (h name)

pub second_line-same : (found : List FoundDefinition) (xs ys : List (List ℕ)) → HaveSame xs ys → second_line xs found ≡ second_line ys found
second_line-same [] xs ys h = refl
second_line-same (f ∷ found) xs ys h =
    ap (λ line. if f.def.blank then line else if among xs f.def.name then Some f.line else second_line (f.def.name ∷ xs) found) (second_line-same found xs ys h)
    ∙ ap (λ line. if f.def.blank then second_line ys found else if among xs f.def.name then Some f.line else line) (second_line-same found (f.def.name ∷ xs) (f.def.name ∷ ys) (more_same f.def.name xs ys h))
    ∙ ap (λ b. if f.def.blank then second_line ys found else if b then Some f.line else second_line (f.def.name ∷ ys) found) (h f.def.name)

or_cond : (a b : Bool) → a || b ≡ cond a true b
or_cond true b = refl
or_cond false b = refl

among_sorted : (names : List (List ℕ)) (name : List ℕ) → list_any (λ x. is_eq (slice_cmp nat_cmp name x)) names ≡ among names name
among_sorted [] name = refl
among_sorted (x ∷ names) name = ap (λ b. b || list_any (λ y. is_eq (slice_cmp nat_cmp name y)) names) (sym (texts_ties name x)) ∙ ap (λ b. pointwise nat_eq name x || b) (among_sorted names name)

-- the set answers whether a name is among its own
pub among_keys : (s : BTreeSet (List ℕ)) (name : List ℕ) → contains (slice_cmp nat_cmp) s name ≡ among s.keys name
among_keys s name = among_sorted s.keys name

-- with a name inserted a set has it and those that it had
inserted_same : (old new : BTreeSet (List ℕ)) (name : List ℕ) → Updates (slice_cmp nat_cmp) old new name true → HaveSame (name ∷ old.keys) new.keys
inserted_same old new name u q =
    ap (λ b. b || among old.keys q) (nat_list_eq_equiv.symm q name ∙ texts_ties name q)
    ∙ ap (λ b. is_eq (slice_cmp nat_cmp name q) || b) (sym (among_keys old q))
    ∙ or_cond (is_eq (slice_cmp nat_cmp name q)) (contains (slice_cmp nat_cmp) old q)
    ∙ sym (u.0 q) ∙ among_keys new q

pub was_false : (b : Bool) → true ≡ not b → b ≡ false
was_false true e = e
was_false false e = refl

pub was_true : (b : Bool) → false ≡ not b → b ≡ true
was_true true e = refl
was_true false e = e

-- the definition with a number stands before the rest
rest_at : (found : List FoundDefinition) (i : ℕ) (f : FoundDefinition) → i < length found → f ≡ slice_index_or found i f → drop i found ≡ f ∷ drop (i + 1) found
rest_at found i f within is = drop_more found i f within ∙ ap (λ (x : FoundDefinition). x ∷ drop (i + 1) found) (sym is)

-- one that is blank is passed over
pub second_line-blank : (s : BTreeSet (List ℕ)) (found : List FoundDefinition) (i : ℕ) (f : FoundDefinition) → i < length found → f ≡ slice_index_or found i f → f.def.blank ≡ true → second_line s.keys (drop i found) ≡ second_line s.keys (drop (i + 1) found)
second_line-blank s found i f within is blank = rw (rest_at found i f within is, blank) refl

-- of one that is not, the name was seen
pub second_line-seen : (s : BTreeSet (List ℕ)) (found : List FoundDefinition) (i : ℕ) (f : FoundDefinition) → i < length found → f ≡ slice_index_or found i f → f.def.blank ≡ false → contains (slice_cmp nat_cmp) s f.def.name ≡ true → second_line s.keys (drop i found) ≡ Some f.line
second_line-seen s found i f within is solid seen = rw (rest_at found i f within is, solid, ← among_keys s f.def.name, seen) refl

-- or is now
pub second_line-new : (old new : BTreeSet (List ℕ)) (found : List FoundDefinition) (i : ℕ) (f : FoundDefinition) → i < length found → f ≡ slice_index_or found i f → f.def.blank ≡ false → contains (slice_cmp nat_cmp) old f.def.name ≡ false → Updates (slice_cmp nat_cmp) old new f.def.name true → second_line old.keys (drop i found) ≡ second_line new.keys (drop (i + 1) found)
second_line-new old new found i f within is solid unseen u = rw (rest_at found i f within is, solid, ← among_keys old f.def.name, unseen) (second_line-same (drop (i + 1) found) (f.def.name ∷ old.keys) new.keys (inserted_same old new f.def.name u))
