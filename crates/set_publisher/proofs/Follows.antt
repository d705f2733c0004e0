-- Steps that only lengthen the list keep the rule.
use Rattle.std.proofs.Common.{◌≡◌, ℕ, ◌≢◌, List, [], ◌∷◌, ◌++◌, slice_set, Option, None, Some, Result, Ok, MatchResult, fold, refl, sym, ◌∙◌, ap, subst, ⊎_elim}
use mathlib.Core.Option.{some, some-ne-none}
use lib.ListN.{get_elem?}
use Rattle.left_right.specs.Register.{Admits, Turns, TurnsAt, Forks, Merges}
use Rattle.atomic_table.proofs.Lists.{at_set, at_snoc}
use Rattle.set_publisher.specs.declared.known.Known.{Known}
use Rattle.set_core.proofs.Prefixes.{begins_self, begins_trans}
use Rattle.set_publisher.specs.Showing.{Begins, Fits, Keeps, Enters}

module _ {V : Type 0} where
  pub begins_same : (p : Known V) → Begins p p
  begins_same p = (refl, begins_self p.seen.log)

  pub fits_longer : (v : Option (Known V)) (p q : Known V) → Fits v p → Begins p q → Fits v q
  fits_longer None p q f b = tt
  fits_longer (Some u) p q f b = (b.0 ∙ f.0, begins_trans u.seen.log p.seen.log q.seen.log f.1 b.1)

  set_fit : (views : List (Option (Known V))) (seat : ℕ) (w : Option (Known V)) (p : Known V) → ((j : ℕ) (u : Option (Known V)) → get_elem? views j ≡ some u → Fits u p) → Fits w p
      → (j : ℕ) (u : Option (Known V)) → get_elem? (slice_set views seat w) j ≡ some u → Fits u p
  set_fit views seat w p h f j u e = ⊎_elim (λ (t : (j ≡ seat) × (w ≡ u)). subst (λ (z : Option (Known V)). Fits z p) t.1 f) (λ (t : (j ≢ seat) × (get_elem? views j ≡ some u)). h j u t.1) (at_set views seat j w u e)

  add_fit : (views : List (Option (Known V))) (w : Option (Known V)) (p : Known V) → ((j : ℕ) (u : Option (Known V)) → get_elem? views j ≡ some u → Fits u p) → Fits w p
      → (j : ℕ) (u : Option (Known V)) → get_elem? (views ++ w ∷ []) j ≡ some u → Fits u p
  add_fit views w p h f j u e = ⊎_elim (h j u) (λ (same : w ≡ u). subst (λ (z : Option (Known V)). Fits z p) same f) (at_snoc views w u j e)

  module _ {S : Type 0} (known_of : S → Known V) where
    pub admits : Admits (Keeps known_of) None
    admits x views h = add_fit views None (known_of x) h tt

    pub publishes : (seat : ℕ) (v : Option (Known V)) (x y : S) → Begins (known_of x) (known_of y) → TurnsAt (Keeps known_of) seat v x y (Enters known_of)
    publishes seat v x y b views h at =
        let w : Option (Known V) = Some (known_of y) in
        let longer : (j : ℕ) (u : Option (Known V)) → get_elem? views j ≡ some u → Fits u (known_of y) = λ j u e. fits_longer u (known_of x) (known_of y) (h j u e) b in
        (w, set_fit views seat w (known_of y) longer (begins_same (known_of y)), (refl, longer seat v at))

    pub enters : (seat : ℕ) (v : Option (Known V)) → Turns (Keeps known_of) seat v (λ x. x) (Enters known_of)
    enters seat v x = publishes seat v x x (begins_same (known_of x))

    pub forks : (seat : ℕ) (v : Option (Known V)) → Forks (Keeps known_of) seat v v v
    forks seat v x views h at = let mine : Fits v (known_of x) = h seat v at in add_fit (slice_set views seat v) v (known_of x) (set_fit views seat v (known_of x) h mine) mine

    pub merges : (seat : ℕ) (v : Option (Known V)) (other : ℕ) (w : Option (Known V)) → Merges (Keeps known_of) seat v other w w None
    merges seat v other w x views h at apart there =
        let b : Fits w (known_of x) = ⊎_elim (λ (t : (other ≡ seat) × (w ≡ w)). absurd (apart t.0)) (λ (t : (other ≢ seat) × (get_elem? views other ≡ some w)). h other w t.1) (at_set views seat other w w there) in
        set_fit (slice_set views seat w) other None (known_of x) (set_fit views seat w (known_of x) h b) tt

    pub opens : (x : S) → Keeps known_of x (None ∷ [])
    opens x j v e = ⊎_elim (λ (t : get_elem? {A = Option (Known V)} [] j ≡ some v). absurd (some-ne-none v (sym t))) (λ (t : None ≡ v). subst (λ (z : Option (Known V)). Fits z (known_of x)) t tt) (at_snoc [] None v j e)

module _ {V S : Type 0} (known_of : S → Known V) (set_of : S → V) (state : S → Known V × V) (applied : Known V × V → S → Known V × V)
    (state_is : (x : S) → ◌≡◌ {A = Known V × V} (state x) (known_of x, set_of x)) (applied_is : (s : Known V × V) (x : S) → ◌≡◌ {A = Known V × V} (applied s x) (known_of x, set_of x)) where
  fold_is : (s : Known V × V) (xs : List S) (o : S) → ◌≡◌ {A = Known V × V} (fold applied s (xs ++ o ∷ [])) (known_of o, set_of o)
  fold_is s [] o = applied_is s o
  fold_is s (x ∷ xs) o = fold_is (applied s x) xs o

  -- what has each operation has the last one
  pub last_is : (next : S) (s : Known V × V) (old new : List S) (op : S) → new ≡ old ++ op ∷ [] → ◌≡◌ {A = Known V × V} (state next) (fold applied s new) → ◌≡◌ {A = Known V × V} (known_of next, set_of next) (known_of op, set_of op)
  last_is next s old new op e is = sym (state_is next) ∙ is ∙ ap (λ z. fold applied s z) e ∙ fold_is s old op

pub at_ok : {A E : Type 0} (P : A → Type 0) (Q : E → Type 0) (r : Result A E) (x : A) → r ≡ Ok x → MatchResult r P Q → P x
at_ok P Q r x e m = subst (λ z. MatchResult z P Q) e m

pub begins_equal : {V : Type 0} (p q : Known V) → p ≡ q → Begins p q
begins_equal p q e = subst (λ z. Begins p z) e (begins_same p)
