-- A template by its name is the one by its number.
use Rattle.std.proofs.Common.{◌≡◌, ℕ, zero, suc, ◌<◌, Bool, true, false, List, [], ◌∷◌, length, bytes_eq, Option, Some, None, option_map, option_and_then, if◌then◌else◌, Equal, refl, sym, ap, ◌∙◌, subst, inl, inr, arith}
use Rattle.std.proofs.lemmas.Cmp.{nat_list_cmp_total, tied_itself}
use Rattle.std.proofs.lemmas.Option.{get_or_from_slice_get, slice_get-get_or, slice_get_within}
use Rattle.std.proofs.lemmas.Slice.Eq.{bytes_eq-Decides}
use Rattle.std.specs.Prelude.{get_or, slice_get}
use Rattle.page_io.proofs.Ascending.{cmp, key_number-found}
use Rattle.tpl_tree.proofs.Named.{tree_at-number_named}
use Rattle.tpl_tree.specs.Forests.{ForestData, HasAscendingNames, tree_name_at, number_named, tree_at}
use Rattle.tpl_tree.specs.Trees.{NodesData, TreeData, head_kind, nodes_from}
use Rattle.tpl_paths.specs.Edges.{Edge, Point, Within, part_begins, edges_in, edges_of, finish_point, nodes_in, path_nodes_of_tree, start_in}
use Rattle.tpl_paths.specs.declared.point.Point.TheVariants as point
use Rattle.place_flow.specs.Flows.{edges_at, nodes_at, start_at}
use Rattle.place_flow.specs.Transfer.{use_at, use_of_node}
use Rattle.place_flow.specs.Errors.{use_in}

some_map : {A B : Type 0} (f : A → B) (o : Option A) (y : B) → option_map f o ≡ Some y → (x : A) × (o ≡ Some x) × (f x ≡ y)
some_map f (Some x) y e = (x, refl, cc)
some_map f None y e = cc

-- a name has the number at which it stands
pub numbered : (forest : ForestData) (t : ℕ) (name : List ℕ) → HasAscendingNames forest → tree_name_at forest t ≡ Some name → number_named name forest ≡ Some t
numbered forest t name up is =
    let entry = some_map (λ (x : List ℕ × TreeData). x.0) (slice_get forest t) name is in
    key_number-found name forest t up (slice_get_within forest t entry.0 entry.1)
    (λ d. subst (λ (x : List ℕ). cmp x name ≡ Equal) (sym entry.2 ∙ ap (λ (x : List ℕ × TreeData). x.0) (sym (get_or_from_slice_get forest t entry.0 d entry.1))) (tied_itself nat_list_cmp_total name))

-- the number of a name is one at which it stands
module _ (name : List ℕ) (x : List ℕ × TreeData) (xs : ForestData) where
  behind : (t : ℕ) (o : Option ℕ) → ((k : ℕ) → o ≡ Some k → tree_name_at xs k ≡ Some name) → option_map suc o ≡ Some t → tree_name_at (x ∷ xs) t ≡ Some name
  behind t (Some k) f e = (let same : suc k ≡ t = cc in subst (λ (n : ℕ). tree_name_at (x ∷ xs) n ≡ Some name) same (f k refl))
  behind t None f e = cc

  at_first : (t : ℕ) (b : Bool) → bytes_eq x.0 name ≡ b → ((k : ℕ) → number_named name xs ≡ Some k → tree_name_at xs k ≡ Some name)
      → (if b then Some 0 else option_map suc (number_named name xs)) ≡ Some t → tree_name_at (x ∷ xs) t ≡ Some name
  at_first t true same f e = (let here : 0 ≡ t = cc in subst (λ (n : ℕ). tree_name_at (x ∷ xs) n ≡ Some name) here (ap Some ((bytes_eq-Decides x.0 name).0 same)))
  at_first t false other f e = behind t (number_named name xs) f e

pub named : (forest : ForestData) (t : ℕ) (name : List ℕ) → number_named name forest ≡ Some t → tree_name_at forest t ≡ Some name
named [] t name e = cc
named (x ∷ xs) t name e = at_first name x xs t (bytes_eq x.0 name) refl (λ k. named xs k name) e

-- a number within the forest has a name
pub has_name : (forest : ForestData) (t : ℕ) → t < length forest → (name : List ℕ) × (tree_name_at forest t ≡ Some name)
has_name [] t lt = absurd (omega arith)
has_name (x ∷ xs) t lt = ((get_or (x ∷ xs) t x).0, ap (option_map (λ (y : List ℕ × TreeData). y.0)) (slice_get-get_or (x ∷ xs) t x lt))

-- so has one whose template has an edge
pub edge_named : (forest : ForestData) (t n : ℕ) (e : Edge) → slice_get (edges_at forest t) n ≡ Some e → (name : List ℕ) × (tree_name_at forest t ≡ Some name)
edge_named forest t n e is = entry_named (slice_get forest t) refl is
  where
    entry_named : (o : Option (List ℕ × TreeData)) → slice_get forest t ≡ o → slice_get (edges_of (path_nodes_of_tree (option_map (λ (x : List ℕ × TreeData). x.1) o)) 0 finish_point finish_point finish_point) n ≡ Some e → (name : List ℕ) × (tree_name_at forest t ≡ Some name)
    entry_named (Some x) at is = (x.0, ap (option_map (λ (y : List ℕ × TreeData). y.0)) at)
    entry_named None at is = cc

-- what stands in the template of a name stands in that of its number
pub same_nodes : (forest : ForestData) (t : ℕ) (name : List ℕ) → number_named name forest ≡ Some t → nodes_in forest name ≡ nodes_at forest t
same_nodes forest t name e = ap path_nodes_of_tree (sym (tree_at-number_named name forest) ∙ ap (option_and_then (tree_at forest)) e)

pub same_start : (forest : ForestData) (t : ℕ) (name : List ℕ) → number_named name forest ≡ Some t → start_in forest name ≡ start_at forest t
same_start forest t name e = ap (λ (x : NodesData). part_begins x 0 finish_point) (same_nodes forest t name e)

pub same_use : (forest : ForestData) (t : ℕ) (name : List ℕ) → number_named name forest ≡ Some t → (k : Point) → use_in forest name k ≡ use_at forest t k
same_use forest t name e (point.Before n) = ap (λ (x : NodesData). use_of_node (head_kind (nodes_from x n))) (same_nodes forest t name e)
same_use forest t name e (point.Again n) = refl
same_use forest t name e (point.Head n) = refl
same_use forest t name e (point.Past n) = refl
same_use forest t name e point.Finish = refl

within : (es : List Edge) (n : ℕ) (e : Edge) → slice_get es n ≡ Some e → Within e es
within [] n e is = cc
within (x ∷ xs) zero e is = inl cc
within (x ∷ xs) (suc n) e is = inr (within xs n e is)

-- an edge by its number is one of the template's
pub edge_within : (forest : ForestData) (t n : ℕ) (name : List ℕ) (e : Edge) → number_named name forest ≡ Some t → slice_get (edges_at forest t) n ≡ Some e → Within e (edges_in forest name)
edge_within forest t n name e number is = subst (λ (x : NodesData). Within e (edges_of x 0 finish_point finish_point finish_point)) (sym (same_nodes forest t name number)) (within (edges_at forest t) n e is)
