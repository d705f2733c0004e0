-- What one more definition does to what stands.
use Rattle.std.proofs.Common.{◌≡◌, ℕ, Bool, true, false, ◌&&◌, cond, List, [], ◌∷◌, ◌++◌, Option, Some, None, option_map, bytes_eq, BTreeMap, refl, sym, ap, ◌∙◌}
use Rattle.std.proofs.lemmas.List.Elements.{filter-append}
use Rattle.std.proofs.lemmas.List.Folds.{find-append}
use Rattle.std.specs.BTreeMap.{get, is_at, Updates}
use Rattle.std.specs.Cmp.Lexicographic.{slice_cmp, texts_ties, nat_list_eq_equiv, bytes_decides}
use Rattle.std.specs.List.{filter, last_or}
use Rattle.std.specs.Map.{lookup}
use Rattle.std.specs.Option.{option_or, is_some}
use Rattle.std.specs.Ordering.{nat_cmp, is_eq}
use Rattle.tpl_build.specs.Gathering.{has_name, is_full, first_named, last_full, standing_definitions, HasStanding}
use Rattle.tpl_build.specs.declared.definition.Def.{Def}
use Rattle.tpl_tree.specs.Forests.{ForestData, tree_named}
use Rattle.tpl_tree.specs.Trees.{TreeData}

-- what a map has at a name is the tree with that name
get-tree_named : (name : List ℕ) (es : ForestData) → lookup (is_at (slice_cmp nat_cmp name)) es ≡ tree_named name es
get-tree_named name [] = refl
get-tree_named name (e ∷ es) =
    let same : is_eq (slice_cmp nat_cmp name e.0) ≡ bytes_eq e.0 name = sym (texts_ties name e.0) ∙ nat_list_eq_equiv.symm name e.0 in
    rw (same, get-tree_named name es) refl

-- the last of some elements and one more
last-push : (o : Option Def) (xs : List Def) (x : Def) → last_or o (xs ++ x ∷ []) ≡ Some x
last-push o [] x = refl
last-push o (y ∷ xs) x = last-push (Some y) xs x

last-nothing : (o : Option Def) (xs : List Def) → last_or o (xs ++ []) ≡ last_or o xs
last-nothing o [] = refl
last-nothing o (y ∷ xs) = last-nothing (Some y) xs

-- what stands for a name once a definition of it, or of another, comes after the others
abbrev stands_after : List ℕ → Def → Option TreeData → Option TreeData
stands_after name def before = cond (has_name name def) (cond def.blank (option_or before (Some def.tree)) (Some def.tree)) before

-- the last definition that is not blank, and the first one, once one more comes after the others
full-push : (name : List ℕ) (defs : List Def) (d : Def) (b : Bool) → is_full name d ≡ b → last_full name (defs ++ d ∷ []) ≡ cond b (Some d) (last_full name defs)
full-push name defs d true e = rw (filter-append (is_full name) defs (d ∷ []), e) (last-push None (filter (is_full name) defs) d)
full-push name defs d false e = rw (filter-append (is_full name) defs (d ∷ []), e) (last-nothing None (filter (is_full name) defs))

first-push : (name : List ℕ) (defs : List Def) (d : Def) → first_named name (defs ++ d ∷ []) ≡ option_or (first_named name defs) (cond (has_name name d) (Some d) None)
first-push name defs d = find-append (has_name name) defs (d ∷ [])

first_stays : (o p : Option Def) (d : Def) → option_map (λ d. d.tree) (option_or o (option_or p (Some d))) ≡ option_or (option_map (λ d. d.tree) (option_or o p)) (Some d.tree)
first_stays None None d = refl
first_stays None (Some p) d = refl
first_stays (Some o) p d = refl

other_stays : (o p : Option Def) → option_or o (option_or p None) ≡ option_or o p
other_stays None None = refl
other_stays None (Some p) = refl
other_stays (Some o) p = refl

-- by whether it has the name, and whether it is blank
by_name : (name : List ℕ) (defs : List Def) (d : Def) (n b : Bool) → has_name name d ≡ n → d.blank ≡ b → standing_definitions name (defs ++ d ∷ []) ≡ stands_after name d (standing_definitions name defs)
by_name name defs d false b e f =
    let full : is_full name d ≡ false = rw e refl in
    rw (full-push name defs d false full, first-push name defs d, e) (ap (option_map (λ d. d.tree)) (other_stays (last_full name defs) (first_named name defs)))
by_name name defs d true true e f =
    let full : is_full name d ≡ false = rw (e, f) refl in
    let comes_last : standing_definitions name (defs ++ d ∷ []) ≡ option_or (standing_definitions name defs) (Some d.tree) =
    rw (full-push name defs d false full, first-push name defs d, e) (first_stays (last_full name defs) (first_named name defs) d) in
    let after : stands_after name d (standing_definitions name defs) ≡ option_or (standing_definitions name defs) (Some d.tree) = rw (e, f) refl in
    comes_last ∙ sym after
by_name name defs d true false e f =
    let full : is_full name d ≡ true = rw (e, f) refl in
    let comes_last : standing_definitions name (defs ++ d ∷ []) ≡ Some d.tree = rw (full-push name defs d true full) refl in
    let after : stands_after name d (standing_definitions name defs) ≡ Some d.tree = rw (e, f) refl in
    comes_last ∙ sym after

standing-push : (name : List ℕ) (defs : List Def) (d : Def) → standing_definitions name (defs ++ d ∷ []) ≡ stands_after name d (standing_definitions name defs)
standing-push name defs d = by_name name defs d (has_name name d) d.blank refl refl

at_name : (name : List ℕ) (d : Def) → has_name name d ≡ true → d.name ≡ name
at_name name d e = (bytes_decides d.name name).0 e

same_tree : (d : Def) (o : Option TreeData) → is_some o ≡ true → option_or o (Some d.tree) ≡ o
same_tree d None h = cc
same_tree d (Some t) h = refl

stays_by : (name : List ℕ) (d : Def) (es : ForestData) (n : Bool) → has_name name d ≡ n → d.blank ≡ true → is_some (tree_named d.name es) ≡ true → stands_after name d (tree_named name es) ≡ tree_named name es
stays_by name d es false e blank there = rw e refl
stays_by name d es true e blank there =
    let here : is_some (tree_named name es) ≡ true = ap (λ (x : List ℕ). is_some (tree_named x es)) (sym (at_name name d e)) ∙ there in
    rw (e, blank) (same_tree d (tree_named name es) here)

-- a blank definition of a name that has a tree changes nothing
pub stays : (d : Def) (trees : BTreeMap (List ℕ) TreeData) → d.blank ≡ true → is_some (get (slice_cmp nat_cmp) trees d.name) ≡ true
    → (before : List Def) → HasStanding before trees.entries → HasStanding (before ++ d ∷ []) trees.entries
stays d trees blank there before h name =
    let here : is_some (tree_named d.name trees.entries) ≡ true = ap is_some (sym (get-tree_named d.name trees.entries)) ∙ there in
    sym (stays_by name d trees.entries (has_name name d) refl blank here) ∙ ap (stands_after name d) (h name) ∙ sym (standing-push name before d)

none : (d : Def) (o : Option TreeData) → is_some o ≡ false → option_or o (Some d.tree) ≡ Some d.tree
none d None h = refl
none d (Some t) h = cc

new_tree : (d : Def) (o : Option TreeData) (b : Bool) → d.blank ≡ b → (d.blank && is_some o) ≡ false → cond d.blank (option_or o (Some d.tree)) (Some d.tree) ≡ Some d.tree
new_tree d o true e h = rw e (none d o (rw e at h))
new_tree d o false e h = rw e refl

comes_by : (name : List ℕ) (d : Def) (es : ForestData) (n : Bool) → has_name name d ≡ n → (d.blank && is_some (tree_named d.name es)) ≡ false → stands_after name d (tree_named name es) ≡ cond n (Some d.tree) (tree_named name es)
comes_by name d es false e h = rw e refl
comes_by name d es true e h =
    let here : (d.blank && is_some (tree_named name es)) ≡ false = ap (λ (x : List ℕ). d.blank && is_some (tree_named x es)) (sym (at_name name d e)) ∙ h in
    rw e (new_tree d (tree_named name es) d.blank refl here)

-- any other definition puts its tree at its name
pub comes : (d : Def) (old new : BTreeMap (List ℕ) TreeData) → (d.blank && is_some (get (slice_cmp nat_cmp) old d.name)) ≡ false → Updates (slice_cmp nat_cmp) old new d.name (Some d.tree)
    → (before : List Def) → HasStanding before old.entries → HasStanding (before ++ d ∷ []) new.entries
comes d old new open_to updates before h name =
    let here : (d.blank && is_some (tree_named d.name old.entries)) ≡ false = ap (λ (o : Option TreeData). d.blank && is_some o) (sym (get-tree_named d.name old.entries)) ∙ open_to in
    let test : is_eq (slice_cmp nat_cmp d.name name) ≡ has_name name d = sym (texts_ties d.name name) in
    let set : tree_named name new.entries ≡ cond (has_name name d) (Some d.tree) (tree_named name old.entries) =
    sym (get-tree_named name new.entries) ∙ updates.0 name ∙ rw (test, get-tree_named name old.entries) refl in
    set ∙ sym (comes_by name d old.entries (has_name name d) refl here) ∙ ap (stands_after name d) (h name) ∙ sym (standing-push name before d)
