-- Where no error stands on the paths of the roots, no log of derivations has a conflict.
use Rattle.std.proofs.Common.{◌≡◌, ◌⊎◌, ℕ, zero, suc, ◌<◌, ◌++◌, List, [], ◌∷◌, All, Option, Some, None, length, refl, sym, ap, ◌∙◌, subst, inl, inr, arith}
use Rattle.std.proofs.lemmas.List.Elements.{All-contains_itself}
use Rattle.std.proofs.lemmas.Option.{slice_get_within}
use Rattle.std.specs.Prelude.{Contains, get_or, slice_get, slice_index_or, option_map}
use Rattle.place_core.proofs.Semilattices.{one_value}
use Rattle.place_core.specs.page.Html.{start}
use Rattle.place_core.specs.page.States.{LexState}
use Rattle.place_core.specs.page.Tags.{ValueState}
use Rattle.place_flow.proofs.Goings.{read-append}
use Rattle.place_flow.proofs.NamedParts.{edge_within, named, numbered}
use Rattle.place_flow.specs.Covering.{read_moves}
use Rattle.place_flow.specs.Errors.{EdgeClashesApart, Errs}
use Rattle.place_flow.specs.Flows.{edges_at}
use Rattle.place_flow.specs.HtmlCovering.{html_language}
use Rattle.place_infer.specs.Inferring.{root_numbers, with_number}
use Rattle.place_laws.proofs.ConflictEdges.{every-conflict}
use Rattle.place_laws.specs.Exactness.{ErrorFreeLogsHaveNoConflict}
use Rattle.place_laws.specs.Witness.{ApartErr, AreTemplates, MembersDoNotJoin, OneErrs, PathTo, RefusalErr, TwoErr, path_state}
use Rattle.place_show.specs.NoErrors.{HasNoOtherError, HaveNoOtherErrors}
use Rattle.place_show.specs.Showings.{path_state_after}
use Rattle.tpl_paths.proofs.Appends.{prefix-is-path, reached-append}
use Rattle.tpl_paths.specs.Edges.{Edge, Point, Within, edges_in, from_of, to_of}
use Rattle.tpl_paths.specs.Paths.{IsPath, Move, Open, Standing, at_root, open_standing, reached}
use Rattle.tpl_tree.specs.Forests.{ForestData, HasAscendingNames, number_named, tree_name_at}
use Rattle.tpl_tree.specs.Trees.{TreeData}

-- the number of a root is that of a name among those of the roots
pub record IsRootOf (forest : ForestData) (names : List (List ℕ)) (t : ℕ) : Type 0 where
  pub name : List ℕ
  pub among : Contains names name
  pub number : number_named name forest ≡ Some t

more-names : (forest : ForestData) (x : List ℕ) (names : List (List ℕ)) (t : ℕ) → IsRootOf forest names t → IsRootOf forest (x ∷ names) t
more-names forest x names t r = (let lt = r.among.1 in record { name = r.name; among = (suc r.among.0, omega (arith, lt), r.among.2); number = r.number })

root-with : (forest : ForestData) (x : List ℕ) (names : List (List ℕ)) (t k : ℕ) (o : Option ℕ) → number_named x forest ≡ o
    → ((i : ℕ) → i < length (root_numbers forest names) → slice_index_or (root_numbers forest names) i t ≡ t → IsRootOf forest names t)
    → k < length (with_number o (root_numbers forest names)) → slice_index_or (with_number o (root_numbers forest names)) k t ≡ t → IsRootOf forest (x ∷ names) t
root-with forest x names t k None e f lt is = more-names forest x names t (f k lt is)
root-with forest x names t zero (Some u) e f lt is = record { name = x; among = (0, omega arith, refl); number = e ∙ ap Some is }
root-with forest x names t (suc k) (Some u) e f lt is = more-names forest x names t (f k (omega (arith, lt)) is)

root-of : (forest : ForestData) (names : List (List ℕ)) (t k : ℕ) → k < length (root_numbers forest names) → slice_index_or (root_numbers forest names) k t ≡ t → IsRootOf forest names t
root-of forest [] t k lt is = absurd (omega (arith, lt))
root-of forest (x ∷ names) t k lt is = root-with forest x names t k (number_named x forest) refl (λ i below same. root-of forest names t i below same) lt is

pub is-root : (forest : ForestData) (names : List (List ℕ)) (t : ℕ) → Contains (root_numbers forest names) t → IsRootOf forest names t
is-root forest names t c = root-of forest names t c.0 c.1 c.2

some-entry : (o : Option (List ℕ × TreeData)) (name : List ℕ) → option_map (λ x. x.0) o ≡ Some name → (x : List ℕ × TreeData) × (o ≡ Some x)
some-entry (Some x) name e = (x, refl)
some-entry None name e = cc

within-forest : (forest : ForestData) (t : ℕ) (name : List ℕ) → tree_name_at forest t ≡ Some name → t < length forest
within-forest forest t name e = (let x = some-entry (slice_get forest t) name e in slice_get_within forest t x.0 x.1)

-- the roots are templates of the forest
pub roots-stand : (forest : ForestData) (names : List (List ℕ)) → AreTemplates forest (root_numbers forest names)
roots-stand forest names k d lt =
    let t : ℕ = get_or (root_numbers forest names) k d in
    let r = is-root forest names t (All-contains_itself (root_numbers forest names) k d lt) in
    within-forest forest t r.name (named forest t r.name r.number)

module _ (forest : ForestData) (up : HasAscendingNames forest) (root : ℕ) (free : (name : List ℕ) → tree_name_at forest root ≡ Some name → HasNoOtherError forest name) (os : List Open) (t : ℕ) where
  -- two paths that stand at one point, as paths of one name
  path-too : (k : Point) (p q : PathTo forest root os t k) → IsPath forest (at_root forest p.root_name) q.moves
  path-too k p q = subst (λ (r : List ℕ). IsPath forest (at_root forest r) q.moves) (one_value q.root_name p.root_name (sym q.root_is ∙ p.root_is)) q.path

  meet-there : (k : Point) (p q : PathTo forest root os t k) → reached forest (at_root forest p.root_name) q.moves ≡ reached forest (at_root forest p.root_name) p.moves
  meet-there k p q =
      ap (λ (r : List ℕ). reached forest (at_root forest r) q.moves) (one_value p.root_name q.root_name (sym p.root_is ∙ q.root_is))
      ∙ (q.stands ∙ (ap (λ (x : List ℕ). open_standing os x k) (one_value q.name p.name (sym q.name_is ∙ p.name_is)) ∙ sym p.stands))

  not-joined : (k : Point) → MembersDoNotJoin forest root os t k → ⊥
  not-joined k h = (free h.path.root_name h.path.root_is).joins h.path.moves h.other.moves h.own h.other_own h.path.path (path-too k h.path h.other) (meet-there k h.path h.other) h.stands h.other_stands h.conflict

  module _ (n : ℕ) (e : Edge) (is : slice_get (edges_at forest t) n ≡ Some e) where
    inside : (p : PathTo forest root os t (from_of e)) → Within e (edges_in forest (reached forest (at_root forest p.root_name) p.moves).template)
    inside p = subst (λ (a : Standing). Within e (edges_in forest a.template)) (sym p.stands) (edge_within forest t n p.name e (numbered forest t p.name up p.name_is) is)

    not-one : OneErrs forest root os t e → ⊥
    not-one h =
        let p = h.path in
        (free p.root_name p.root_is).one p.moves e p.path (inside p) (ap (λ (a : Standing). a.at) p.stands) (subst (λ (a : Standing). Errs forest a.template e (path_state p)) (sym p.stands) h.errs)

    not-two : TwoErr forest root os t e → ⊥
    not-two h =
        let p = h.path in
        (free p.root_name p.root_is).two p.moves h.other.moves e p.path (path-too (from_of e) p h.other) (meet-there (from_of e) p h.other) (inside p) (ap (λ (a : Standing). a.at) p.stands) h.errs

    reads-on : (first common ms : List Move) → ms ≡ first ++ common → path_state_after ms ≡ read_moves html_language common (path_state_after first)
    reads-on first common ms same = ap path_state_after same ∙ read-append first common start.at

    not-apart : ApartErr forest root os t e → ⊥
    not-apart h =
        let m = h.paths in let p = m.path in let q = m.other in
        let here = at_root forest p.root_name in
        let one = prefix-is-path forest here m.first m.common (subst (λ (x : List Move). IsPath forest here x) m.moves p.path) in
        let other = prefix-is-path forest here m.other_first m.common (subst (λ (x : List Move). IsPath forest here x) m.other_moves (path-too (from_of e) p q)) in
        let meet : reached forest here m.other_first ≡ reached forest here m.first =
        ap (λ (r : List ℕ). reached forest (at_root forest r) m.other_first) (one_value p.root_name q.root_name (sym p.root_is ∙ q.root_is)) ∙ m.meet in
        let there : reached forest here p.moves ≡ reached forest (reached forest here m.first) m.common = ap (λ (x : List Move). reached forest here x) m.moves ∙ reached-append forest here m.first m.common in
        (free p.root_name p.root_is).apart m.first m.other_first m.common e one.0 other.0 meet one.1
        (subst (λ (a : Standing). Within e (edges_in forest a.template)) there (inside p)) (ap (λ (a : Standing). a.at) (sym there ∙ p.stands))
        (record {
          met = m.met;
          clash = subst (λ (s : LexState ValueState). EdgeClashesApart e s (read_moves html_language m.common (path_state_after m.other_first))) (reads-on m.first m.common p.moves m.moves)
              (subst (λ (r : LexState ValueState). EdgeClashesApart e (path_state p) r) (reads-on m.other_first m.common q.moves m.other_moves) h.errs);
        })

    not-refused : RefusalErr forest root os t e → ⊥
    not-refused (inl h) = not-one h
    not-refused (inr (inl h)) = not-two h
    not-refused (inr (inr h)) = not-apart h

    no-error-there : RefusalErr forest root os t e ⊎ MembersDoNotJoin forest root os t (to_of e) → ⊥
    no-error-there (inl h) = not-refused h
    no-error-there (inr h) = not-joined (to_of e) h

pub no-conflict : ErrorFreeLogsHaveNoConflict
no-conflict forest names log conflict up made free is =
    let h = every-conflict forest (root_numbers forest names) log conflict up (roots-stand forest names) made is in
    let r = is-root forest names h.root h.is_root in
    no-error-there forest up h.root
    (λ name at. (let same : r.name ≡ name = one_value r.name name (sym (named forest h.root r.name r.number) ∙ at) in subst (HasNoOtherError forest) same (free r.name h.root r.among r.number)))
    h.open_calls conflict.template conflict.edge h.edge h.is h.errs
