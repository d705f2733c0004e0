-- The templates that stand are one forest.
use Rattle.std.proofs.Common.{◌≡◌, ℕ, Bool, true, false, List, [], ◌∷◌, bytes_eq, Some, None, Ordering, Less, Equal, Greater, refl, sym, ap, ◌∙◌, subst}
use Rattle.std.proofs.lemmas.Cmp.{nat_list_cmp_total, nat_list_eq_equiv}
use Rattle.std.specs.Cmp.Lexicographic.{slice_cmp, texts_ties, bytes_decides}
use Rattle.std.specs.List.{AllByRecursion}
use Rattle.std.specs.List.Sorted.{IsStrictlySortedBy}
use Rattle.std.specs.Map.{keys_of}
use Rattle.std.specs.Ordering.{nat_cmp, is_eq, ordering_reverse}
use Rattle.tpl_tree.specs.Forests.{ForestData, HasAscendingNames, tree_named}
use Rattle.tpl_tree.specs.Trees.{TreeData}

abbrev cmp : List ℕ → List ℕ → Ordering
cmp = slice_cmp nat_cmp

-- all names of a forest come after a name
abbrev AllAfter : List ℕ → ForestData → Type 0
AllAfter name forest = AllByRecursion (λ y. cmp name y ≡ Less) (keys_of forest)

abbrev Tree : Type 0
Tree = List ℕ × TreeData

-- a name before another is another
not_after : (a b : List ℕ) → cmp a b ≡ Less → bytes_eq b a ≡ false
not_after a b less = nat_list_eq_equiv.symm b a ∙ texts_ties a b ∙ ap is_eq less

-- before the first name nothing has a name
absent : (name : List ℕ) (forest : ForestData) → AllAfter name forest → tree_named name forest ≡ None
absent name [] h = refl
absent name (t ∷ forest) h = rw (not_after name t.0 h.0) (absent name forest h.1)

after_more : (a b : List ℕ) (forest : ForestData) → cmp a b ≡ Less → AllAfter b forest → AllAfter a forest
after_more a b [] less h = tt
after_more a b (t ∷ forest) less h = (nat_list_cmp_total.trans a b t.0 less h.0, after_more a b forest less h.1)

itself : (a : List ℕ) → bytes_eq a a ≡ true
itself a = nat_list_eq_equiv.refl a

first_tree : (s : Tree) (forest : ForestData) → tree_named s.0 (s ∷ forest) ≡ Some s.1
first_tree s forest = rw (itself s.0) refl

no_tree : (t : TreeData) → Some t ≡ None → ⊥
no_tree t e = cc

some_tree : (s t : TreeData) → Some s ≡ Some t → s ≡ t
some_tree s t e = cc

-- of two forests with the same trees neither begins with a name before the other's first
before_first : (s t : Tree) (f g : ForestData) → cmp s.0 t.0 ≡ Less → AllAfter t.0 g → tree_named s.0 (s ∷ f) ≡ tree_named s.0 (t ∷ g) → ⊥
before_first s t f g less up same = no_tree s.1 (sym (first_tree s f) ∙ same ∙ absent s.0 (t ∷ g) (less, after_more s.0 t.0 g less up))

-- past a first name that is the same, the rest have the same trees
rest_by : (s t : Tree) (f g : ForestData) (name : List ℕ) (b : Bool) → s.0 ≡ t.0 → AllAfter s.0 f → AllAfter t.0 g → bytes_eq s.0 name ≡ b → tree_named name (s ∷ f) ≡ tree_named name (t ∷ g) → tree_named name f ≡ tree_named name g
rest_by s t f g name true e up upper h same =
    let here : s.0 ≡ name = (bytes_decides s.0 name).0 h in
    absent name f (subst (λ (x : List ℕ). AllAfter x f) here up) ∙ sym (absent name g (subst (λ (x : List ℕ). AllAfter x g) (sym e ∙ here) upper))
rest_by s t f g name false e up upper h same =
    let left : tree_named name (s ∷ f) ≡ tree_named name f = rw h refl in
    let there : bytes_eq t.0 name ≡ false = ap (λ (x : List ℕ). bytes_eq x name) (sym e) ∙ h in
    let right : tree_named name (t ∷ g) ≡ tree_named name g = rw there refl in
    sym left ∙ same ∙ right

same_head : (s t : Tree) (f g : ForestData) → s.0 ≡ t.0 → s.1 ≡ t.1 → f ≡ g → s ∷ f ≡ t ∷ g
same_head s t f g e h k = ap (λ (n : List ℕ). (n, s.1) ∷ f) e ∙ ap (λ (tree : TreeData). (t.0, tree) ∷ f) h ∙ ap (λ (rest : ForestData). t ∷ rest) k

one_first : (s t : Tree) (f g : ForestData) → s.0 ≡ t.0 → tree_named s.0 (s ∷ f) ≡ tree_named s.0 (t ∷ g) → s.1 ≡ t.1
one_first s t f g e same =
    some_tree s.1 t.1 (sym (first_tree s f) ∙ same ∙ ap (λ (x : List ℕ). tree_named x (t ∷ g)) e ∙ first_tree t g)

flipped : (a b : List ℕ) → cmp a b ≡ Greater → cmp b a ≡ Less
flipped a b e = nat_list_cmp_total.antisymm b a ∙ ap ordering_reverse e

the_same : (a b : List ℕ) → cmp a b ≡ Equal → a ≡ b
the_same a b e = (bytes_decides a b).0 (texts_ties a b ∙ ap is_eq e)

-- each name has the same tree in both
abbrev pub SameTrees : ForestData → ForestData → Type 0
SameTrees f g = (name : List ℕ) → tree_named name f ≡ tree_named name g

one_by : (o : Ordering) (s t : Tree) (f g : ForestData) → cmp s.0 t.0 ≡ o → AllAfter s.0 f → AllAfter t.0 g → (SameTrees f g → f ≡ g) → SameTrees (s ∷ f) (t ∷ g) → s ∷ f ≡ t ∷ g
one_by Less s t f g e up upper tails same = absurd (before_first s t f g e upper (same s.0))
one_by Greater s t f g e up upper tails same = absurd (before_first t s g f (flipped s.0 t.0 e) up (sym (same t.0)))
one_by Equal s t f g e up upper tails same =
    let h : s.0 ≡ t.0 = the_same s.0 t.0 e in
    same_head s t f g h (one_first s t f g h (same s.0)) (tails (λ name. rest_by s t f g name (bytes_eq s.0 name) h up upper refl (same name)))

-- two forests that have the same trees are the same
pub one_forest : (f g : ForestData) → HasAscendingNames f → HasAscendingNames g → SameTrees f g → f ≡ g
unfolding IsStrictlySortedBy
one_forest [] [] up upper same = refl
one_forest [] (t ∷ g) up upper same = absurd (no_tree t.1 (sym (first_tree t g) ∙ sym (same t.0)))
one_forest (s ∷ f) [] up upper same = absurd (no_tree s.1 (sym (first_tree s f) ∙ same s.0))
one_forest (s ∷ f) (t ∷ g) up upper same = one_by (cmp s.0 t.0) s t f g refl up.0 upper.0 (one_forest f g up.1 upper.1) same
