-- Joins by parts: what holds of the joins of the parts holds of the join of the whole.
use Rattle.std.proofs.Common.{◌≡◌, Bool, true, false, ◌||◌, Option, Some, None, option_map, if◌then◌else◌, refl, sym, ap, ap₂, ◌∙◌, subst}
use Rattle.std.specs.Prelude.{IfSome}

-- a join of sets, which always is
pub record IsUnion {A : Type 0} (f : A → A → A) : Type 0 where
  pub same : (a : A) → f a a ≡ a
  pub swapped : (a b : A) → f a b ≡ f b a
  pub grouped : (a b c : A) → f (f a b) c ≡ f a (f b c)

-- a join that need not be
pub record IsPartial {A : Type 0} (j : A → A → Option A) : Type 0 where
  pub same : (a : A) → j a a ≡ Some a
  pub swapped : (a b : A) → j a b ≡ j b a
  pub through : (a b c : A) → j a b ≡ Some b → j b c ≡ Some c → j a c ≡ Some c
  pub left : (a b : A) → IfSome (j a b) (λ c. j a c ≡ Some c)
  pub least : (a b d : A) → j a d ≡ Some d → j b d ≡ Some d → (c : A) × (j a b ≡ Some c) × (j c d ≡ Some d)

pub none_some : {A : Type 0} (x : A) → None ≡ Some x → ⊥
none_some x e = cc

pub one_value : {A : Type 0} (x y : A) → Some x ≡ Some y → x ≡ y
one_value x y e = cc

pub of_some : {A : Type 0} (P : A → Type 0) (o : Option A) (x : A) → IfSome o P → o ≡ Some x → P x
of_some P (Some y) x h e = subst P (one_value y x e) h
of_some P None x h e = absurd (none_some x e)

pub for_all : {A : Type 0} (P : A → Type 0) (o : Option A) → ((x : A) → o ≡ Some x → P x) → IfSome o P
for_all P (Some y) h = h y refl
for_all P None h = tt

pub for_map : {A B : Type 0} (K : A → B) (P : B → Type 0) (o : Option A) → IfSome o (λ x. P (K x)) → IfSome (option_map K o) P
for_map K P (Some x) h = h
for_map K P None h = tt

pub more_of : {A : Type 0} (P Q : A → Type 0) (o : Option A) → ((x : A) → P x → Q x) → IfSome o P → IfSome o Q
more_of P Q (Some x) f h = f x h
more_of P Q None f h = tt

pub no_map : {A B : Type 0} (K : A → B) (o : Option A) → option_map K o ≡ None → o ≡ None
no_map K (Some x) e = absurd (none_some (K x) (sym e))
no_map K None e = refl

-- a row of an enum, and what holds in it
pub row_value : {A B : Type 0} (K : A → B) (one : (x y : A) → K x ≡ K y → x ≡ y) (o : Option A) (x : A) → option_map K o ≡ Some (K x) → o ≡ Some x
row_value K one (Some y) x e = ap Some (one y x (one_value (K y) (K x) e))
row_value K one None x e = absurd (none_some (K x) e)

pub row_through : {A B : Type 0} (K : A → B) (one : (x y : A) → K x ≡ K y → x ≡ y) (j : A → A → Option A) (p : IsPartial j) (a b c : A)
    → option_map K (j a b) ≡ Some (K b) → option_map K (j b c) ≡ Some (K c) → option_map K (j a c) ≡ Some (K c)
row_through K one j p a b c h k = ap (option_map K) (p.through a b c (row_value K one (j a b) b h) (row_value K one (j b c) c k))

pub row_left : {A B : Type 0} (K : A → B) (j : A → A → Option A) (p : IsPartial j) (i : B → B → Option B) (a b : A)
    (e : (c : A) → i (K a) (K c) ≡ option_map K (j a c)) → IfSome (option_map K (j a b)) (λ c. i (K a) c ≡ Some c)
row_left K j p i a b e = for_map K (λ c. i (K a) c ≡ Some c) (j a b)
    (more_of (λ c. j a c ≡ Some c) (λ c. i (K a) (K c) ≡ Some (K c)) (j a b) (λ c h. e c ∙ ap (option_map K) h) (p.left a b))

pub row_least : {A B : Type 0} (K : A → B) (one : (x y : A) → K x ≡ K y → x ≡ y) (j : A → A → Option A) (p : IsPartial j) (i : B → B → Option B)
    (e : (a c : A) → i (K a) (K c) ≡ option_map K (j a c)) (a b d : A)
    → option_map K (j a d) ≡ Some (K d) → option_map K (j b d) ≡ Some (K d) → (c : B) × (option_map K (j a b) ≡ Some c) × (i c (K d) ≡ Some (K d))
row_least K one j p i e a b d h k =
    let it : (c : _) × (j a b ≡ Some c) × (j c d ≡ Some d) = p.least a b d (row_value K one (j a d) d h) (row_value K one (j b d) d k) in
    (K it.0, ap (option_map K) it.1, e it.0 d ∙ ap (option_map K) it.2)

-- unions
pub union_above : {A : Type 0} (f : A → A → A) (u : IsUnion f) (a b : A) → f a (f a b) ≡ f a b
union_above f u a b = sym (u.grouped a a b) ∙ ap (λ x. f x b) (u.same a)

pub union_through : {A : Type 0} (f : A → A → A) (u : IsUnion f) (a b c : A) → f a b ≡ b → f b c ≡ c → f a c ≡ c
union_through f u a b c h k = ap (f a) (sym k) ∙ sym (u.grouped a b c) ∙ ap (λ x. f x c) h ∙ k

pub of_union : {A : Type 0} (f : A → A → A) → IsUnion f → IsPartial (λ (a b : A). Some (f a b))
of_union f u = record {
  same = λ a. ap Some (u.same a);
  swapped = λ a b. ap Some (u.swapped a b);
  through = λ a b c h k. ap Some (union_through f u a b c (one_value (f a b) b h) (one_value (f b c) c k));
  left = λ a b. ap Some (union_above f u a b);
  least = λ a b d h k. (f a b, refl, ap Some (u.grouped a b d ∙ ap (f a) (one_value (f b d) d k) ∙ one_value (f a d) d h));
}

abbrev pub both : {A B : Type 0} (f : A → A → A) (g : B → B → B) → (A × B) → (A × B) → (A × B)
both f g p q = (f p.0 q.0, g p.1 q.1)

pub both_unions : {A B : Type 0} (f : A → A → A) (g : B → B → B) → IsUnion f → IsUnion g → IsUnion (both f g)
both_unions f g u v = record {
  same = λ a. ap₂ (λ x y. (x, y)) (u.same a.0) (v.same a.1);
  swapped = λ a b. ap₂ (λ x y. (x, y)) (u.swapped a.0 b.0) (v.swapped a.1 b.1);
  grouped = λ a b c. ap₂ (λ x y. (x, y)) (u.grouped a.0 b.0 c.0) (v.grouped a.1 b.1 c.1);
}

-- truth values
pub or_same : (a : Bool) → (a || a) ≡ a
or_same true = refl
or_same false = refl

pub or_swapped : (a b : Bool) → (a || b) ≡ (b || a)
or_swapped true true = refl
or_swapped true false = refl
or_swapped false true = refl
or_swapped false false = refl

pub or_grouped : (a b c : Bool) → ((a || b) || c) ≡ (a || (b || c))
or_grouped true b c = refl
or_grouped false b c = refl

pub or_union : IsUnion ◌||◌
or_union = record { same = or_same; swapped = or_swapped; grouped = or_grouped }

-- values that join where they are the same
abbrev pub if_same : {A : Type 0} (test : A → A → Bool) → A → A → Option A
if_same test a b = if test a b then Some a else None

pub record IsTest {A : Type 0} (test : A → A → Bool) : Type 0 where
  pub same : (a : A) → test a a ≡ true
  pub says : (a b : A) → test a b ≡ true → a ≡ b

pub test_swapped : {A : Type 0} (test : A → A → Bool) (t : IsTest test) (a b : A) (x y : Bool) → test a b ≡ x → test b a ≡ y
    → (if x then Some a else None) ≡ (if y then Some b else None)
test_swapped test t a b true true h k = ap Some (t.says a b h)
test_swapped test t a b false false h k = refl
test_swapped test t a b true false h k = absurd (let e : a ≡ b = t.says a b h in let f : test b a ≡ true = ap (test b) e ∙ t.same b in cc)
test_swapped test t a b false true h k = absurd (let e : b ≡ a = t.says b a k in let f : test a b ≡ true = ap (test a) e ∙ t.same a in cc)

pub test_holds : {A : Type 0} (a b : A) (x : Bool) → (if x then Some a else None) ≡ Some b → x ≡ true
test_holds a b true e = refl
test_holds a b false e = absurd (none_some b e)

pub test_left : {A : Type 0} (test : A → A → Bool) (t : IsTest test) (a b : A) (x : Bool) → IfSome (if x then Some a else None) (λ c. if_same test a c ≡ Some c)
test_left test t a b true = ap (λ x. if x then Some a else None) (t.same a)
test_left test t a b false = tt

pub same_if : {A : Type 0} (test : A → A → Bool) (t : IsTest test) (a : A) → if_same test a a ≡ Some a
same_if test t a = ap (λ x. if x then Some a else None) (t.same a)

pub if_gives : {A : Type 0} (test : A → A → Bool) (t : IsTest test) (a b c : A) → if_same test a b ≡ Some c → a ≡ b
if_gives test t a b c h = t.says a b (test_holds a c (test a b) h)

pub of_test : {A : Type 0} (test : A → A → Bool) → IsTest test → IsPartial (if_same test)
of_test test t = record {
  same = same_if test t;
  swapped = λ a b. test_swapped test t a b (test a b) (test b a) refl refl;
  through = λ a b c h k. ap (λ x. if_same test x c) (if_gives test t a b b h) ∙ k;
  left = λ a b. test_left test t a b (test a b);
  least = λ a b d h k. (d, ap (if_same test a) (if_gives test t b d d k) ∙ h, same_if test t d);
}

-- two parts, each of which has to join
abbrev pub both_some : {A B : Type 0} → Option A → Option B → Option (A × B)
both_some (Some x) (Some y) = Some (x, y)
both_some _ _ = None

abbrev pub pairs : {A B : Type 0} (i : A → A → Option A) (j : B → B → Option B) → (A × B) → (A × B) → Option (A × B)
pairs i j p q = both_some (i p.0 q.0) (j p.1 q.1)

pub first_of : {A B : Type 0} (o : Option A) (u : Option B) (r : A × B) → both_some o u ≡ Some r → o ≡ Some r.0
first_of (Some x) (Some y) r e = ap (λ (q : _ × _). Some q.0) (one_value (x, y) r e)
first_of (Some x) None r e = absurd (none_some r e)
first_of None u r e = absurd (none_some r e)

pub second_of : {A B : Type 0} (o : Option A) (u : Option B) (r : A × B) → both_some o u ≡ Some r → u ≡ Some r.1
second_of (Some x) (Some y) r e = ap (λ (q : _ × _). Some q.1) (one_value (x, y) r e)
second_of (Some x) None r e = absurd (none_some r e)
second_of None u r e = absurd (none_some r e)

pub pair_left : {A B : Type 0} (i : A → A → Option A) (j : B → B → Option B) (p : A × B) (o : Option A) (u : Option B)
    → IfSome o (λ c. i p.0 c ≡ Some c) → IfSome u (λ c. j p.1 c ≡ Some c) → IfSome (both_some o u) (λ c. pairs i j p c ≡ Some c)
pair_left i j p (Some x) (Some y) h k = ap₂ both_some h k
pair_left i j p (Some x) None h k = tt
pair_left i j p None u h k = tt

pub of_pairs : {A B : Type 0} (i : A → A → Option A) (j : B → B → Option B) → IsPartial i → IsPartial j → IsPartial (pairs i j)
of_pairs i j p q = record {
  same = λ a. ap₂ both_some (p.same a.0) (q.same a.1);
  swapped = λ a b. ap₂ both_some (p.swapped a.0 b.0) (q.swapped a.1 b.1);
  through = λ a b c h k. ap₂ both_some
      (p.through a.0 b.0 c.0 (first_of (i a.0 b.0) (j a.1 b.1) b h) (first_of (i b.0 c.0) (j b.1 c.1) c k))
      (q.through a.1 b.1 c.1 (second_of (i a.0 b.0) (j a.1 b.1) b h) (second_of (i b.0 c.0) (j b.1 c.1) c k));
  left = λ a b. pair_left i j a (i a.0 b.0) (j a.1 b.1) (p.left a.0 b.0) (q.left a.1 b.1);
  least = λ a b d h k.
      let it : (c : _) × (i a.0 b.0 ≡ Some c) × (i c d.0 ≡ Some d.0) = p.least a.0 b.0 d.0 (first_of (i a.0 d.0) (j a.1 d.1) d h) (first_of (i b.0 d.0) (j b.1 d.1) d k) in
      let at : (c : _) × (j a.1 b.1 ≡ Some c) × (j c d.1 ≡ Some d.1) = q.least a.1 b.1 d.1 (second_of (i a.0 d.0) (j a.1 d.1) d h) (second_of (i b.0 d.0) (j b.1 d.1) d k) in
      ((it.0, at.0), ap₂ both_some it.1 at.1, ap₂ both_some it.2 at.2);
}

-- the same under another shape
pub shape_back : {A B : Type 0} (K : A → B) (parts : B → A) (f : (a : A) → parts (K a) ≡ a) (o : Option A) (c : B) → option_map K o ≡ Some c → o ≡ Some (parts c)
shape_back K parts f (Some x) c h = ap Some (sym (f x) ∙ ap parts (one_value (K x) c h))
shape_back K parts f None c h = absurd (none_some c h)

pub shape_left : {A B : Type 0} (K : A → B) (parts : B → A) (f : (a : A) → parts (K a) ≡ a) (j : A → A → Option A) (i : B → B → Option B)
    (g : (x y : B) → i x y ≡ option_map K (j (parts x) (parts y))) (a : B) (o : Option A) → IfSome o (λ c. j (parts a) c ≡ Some c)
    → IfSome (option_map K o) (λ c. i a c ≡ Some c)
shape_left K parts f j i g a (Some x) h = g a (K x) ∙ ap (λ y. option_map K (j (parts a) y)) (f x) ∙ ap (option_map K) h
shape_left K parts f j i g a None h = tt

pub of_shape : {A B : Type 0} (K : A → B) (parts : B → A) (e : (b : B) → K (parts b) ≡ b) (f : (a : A) → parts (K a) ≡ a) (j : A → A → Option A) (i : B → B → Option B)
    → ((x y : B) → i x y ≡ option_map K (j (parts x) (parts y))) → IsPartial j → IsPartial i
of_shape K parts e f j i g p = record {
  same = λ b. g b b ∙ ap (option_map K) (p.same (parts b)) ∙ ap Some (e b);
  swapped = λ a b. g a b ∙ ap (option_map K) (p.swapped (parts a) (parts b)) ∙ sym (g b a);
  through = λ a b c h k. g a c ∙ ap (option_map K) (p.through (parts a) (parts b) (parts c)
      (shape_back K parts f (j (parts a) (parts b)) b (sym (g a b) ∙ h)) (shape_back K parts f (j (parts b) (parts c)) c (sym (g b c) ∙ k))) ∙ ap Some (e c);
  left = λ a b. subst (λ o. IfSome o (λ c. i a c ≡ Some c)) (sym (g a b)) (shape_left K parts f j i g a (j (parts a) (parts b)) (p.left (parts a) (parts b)));
  least = λ a b d h k.
      let it : (c : _) × (j (parts a) (parts b) ≡ Some c) × (j c (parts d) ≡ Some (parts d)) = p.least (parts a) (parts b) (parts d)
      (shape_back K parts f (j (parts a) (parts d)) d (sym (g a d) ∙ h)) (shape_back K parts f (j (parts b) (parts d)) d (sym (g b d) ∙ k)) in
      (K it.0, g a b ∙ ap (option_map K) it.1, g (K it.0) d ∙ ap (λ x. option_map K (j x (parts d))) (f it.0) ∙ ap (option_map K) it.2 ∙ ap Some (e d));
}
