-- The number of a name's first declaration, and a map that has it.
use Rattle.std.proofs.Common.{◌≡◌, ℕ, zero, suc, nat_eq, Bool, true, false, cond, ◌||◌, List, [], ◌∷◌, ◌++◌, length, take, Option, Some, None, option_map, refl, sym, ap, ◌∙◌}
use Rattle.std.specs.BTreeMap.{BTreeMap, get, Updates}
use Rattle.std.specs.Cmp.Lexicographic.{pointwise, slice_cmp, texts_ties, bytes_decides}
use Rattle.std.specs.List.{slice_get}
use Rattle.std.specs.Option.{is_some}
use Rattle.std.specs.Ordering.{nat_cmp, is_eq}
use Rattle.tpl_pipe.specs.Reading.{variable_declared}
use Rattle.tpl_pipe.specs.Variables.{variable_number, AreNumbered}

no_true : true ≡ false → ⊥
no_true e = cc

some_name : {x y : List ℕ} → Some x ≡ Some y → x ≡ y
some_name e = cc

no_name : {o : Option (List ℕ)} {x : List ℕ} → o ≡ None → o ≡ Some x → ⊥
no_name e f = cc

or_true : (b : Bool) → (b || true) ≡ true
or_true true = refl
or_true false = refl

-- `$` is declared
pub declared-empty : (names : List (List ℕ)) → variable_declared names [] ≡ true
declared-empty [] = refl
declared-empty (x ∷ xs) = ap (λ b. pointwise nat_eq x [] || b) (declared-empty xs) ∙ or_true (pointwise nat_eq x [])

some_later : (b : Bool) (o : Option ℕ) → (b || is_some o) ≡ is_some (cond b (Some 0) (option_map suc o))
some_later true o = refl
some_later false None = refl
some_later false (Some i) = refl

-- any other name is, where it has a number
pub declared-number : (names : List (List ℕ)) (y : ℕ) (ys : List ℕ) → variable_declared names (y ∷ ys) ≡ is_some (variable_number (y ∷ ys) names)
declared-number [] y ys = refl
declared-number (x ∷ xs) y ys = ap (λ b. pointwise nat_eq x (y ∷ ys) || b) (declared-number xs y ys) ∙ some_later (pointwise nat_eq x (y ∷ ys)) (variable_number (y ∷ ys) xs)

pub declared-named : (names : List (List ℕ)) (name : List ℕ) → (name ≡ [] → ⊥) → variable_declared names name ≡ is_some (variable_number name names)
declared-named names [] h = absurd (h refl)
declared-named names (y ∷ ys) h = declared-number names y ys

-- the number with one more name after the others
push_step : (b c : Bool) (o : Option ℕ) (n : ℕ) → cond b (Some 0) (option_map suc (cond (is_some o) o (cond c (Some n) None))) ≡ cond (is_some (cond b (Some 0) (option_map suc o))) (cond b (Some 0) (option_map suc o)) (cond c (Some (suc n)) None)
push_step true c o n = refl
push_step false true None n = refl
push_step false false None n = refl
push_step false c (Some k) n = refl

number_of-push : (name : List ℕ) (xs : List (List ℕ)) (x : List ℕ) → variable_number name (xs ++ x ∷ []) ≡ cond (is_some (variable_number name xs)) (variable_number name xs) (cond (pointwise nat_eq x name) (Some (length xs)) None)
number_of-push name [] x = refl
number_of-push name (y ∷ xs) x =
    ap (λ o. cond (pointwise nat_eq y name) (Some 0) (option_map suc o)) (number_of-push name xs x) ∙ push_step (pointwise nat_eq y name) (pointwise nat_eq x name) (variable_number name xs) (length xs)

-- the number among the first names
take_step : (b : Bool) (o p : Option ℕ) (i : ℕ) → ((k : ℕ) → o ≡ Some k → p ≡ Some k) → cond b (Some 0) (option_map suc o) ≡ Some i → cond b (Some 0) (option_map suc p) ≡ Some i
take_step true o p i h e = e
take_step false None p i h e = cc
take_step false (Some k) p i h e = ap (option_map suc) (h k refl) ∙ e

number_of-take : (name : List ℕ) (n : ℕ) (xs : List (List ℕ)) (i : ℕ) → variable_number name (take n xs) ≡ Some i → variable_number name xs ≡ Some i
number_of-take name zero xs i e = cc
number_of-take name (suc n) [] i e = e
number_of-take name (suc n) (x ∷ xs) i e = take_step (pointwise nat_eq x name) (variable_number name (take n xs)) (variable_number name xs) i (λ (k : ℕ). number_of-take name n xs k) e

pub numbered-take : (names : List (List ℕ)) (n : ℕ) (m : BTreeMap (List ℕ) ℕ) → AreNumbered names m → AreNumbered (take n names) m
numbered-take names n m h name i e = h name i (number_of-take name n names i e)

no_number : {o : Option ℕ} {i : ℕ} → o ≡ None → o ≡ Some i → ⊥
no_number e f = cc

one_number : {o : Option ℕ} {i j : ℕ} → o ≡ Some i → o ≡ Some j → i ≡ j
one_number e f = cc

-- two names that are equal have one number
same_number : (x name : List ℕ) (names : List (List ℕ)) → pointwise nat_eq x name ≡ true → variable_number x names ≡ variable_number name names
same_number x name names e = ap (λ (n : List ℕ). variable_number n names) ((bytes_decides x name).0 e)

-- a new name is put into the map before it is declared
put_at : (names : List (List ℕ)) (x name : List ℕ) (old new : BTreeMap (List ℕ) ℕ) (n : ℕ) (b : Bool) → pointwise nat_eq x name ≡ b → AreNumbered names old → variable_number x names ≡ None
    → Updates (slice_cmp nat_cmp) old new x (Some n) → (i : ℕ) → variable_number name names ≡ Some i → get (slice_cmp nat_cmp) new name ≡ Some i
put_at names x name old new n true same h fresh u i e = absurd (no_number fresh (same_number x name names same ∙ e))
put_at names x name old new n false same h fresh u i e =
    let apart : is_eq (slice_cmp nat_cmp x name) ≡ false = sym (texts_ties x name) ∙ same in
    u.0 name ∙ ap (λ b. cond b (Some n) (get (slice_cmp nat_cmp) old name)) apart ∙ h name i e

none_is : (o : Option ℕ) → is_some o ≡ false → o ≡ None
none_is None e = refl
none_is (Some i) e = cc

pub numbered-put : (names : List (List ℕ)) (x : List ℕ) (old new : BTreeMap (List ℕ) ℕ) (n : ℕ) → AreNumbered names old → is_some (variable_number x names) ≡ false
    → Updates (slice_cmp nat_cmp) old new x (Some n) → AreNumbered names new
numbered-put names x old new n h fresh u name i e = put_at names x name old new n (pointwise nat_eq x name) refl h (none_is (variable_number x names) fresh) u i e

-- and then it is declared
new_at : (names : List (List ℕ)) (x name : List ℕ) (old new : BTreeMap (List ℕ) ℕ) (o : Option ℕ) (b : Bool) → variable_number name names ≡ o → pointwise nat_eq x name ≡ b → AreNumbered names new
    → Updates (slice_cmp nat_cmp) old new x (Some (length names)) → (i : ℕ) → cond (is_some o) o (cond b (Some (length names)) None) ≡ Some i → get (slice_cmp nat_cmp) new name ≡ Some i
new_at names x name old new (Some j) b has same h u i e = h name i (has ∙ e)
new_at names x name old new None true has same h u i e =
    let here : is_eq (slice_cmp nat_cmp x name) ≡ true = sym (texts_ties x name) ∙ same in
    u.0 name ∙ ap (λ b. cond b (Some (length names)) (get (slice_cmp nat_cmp) old name)) here ∙ e
new_at names x name old new None false has same h u i e = cc

pub numbered-new : (names : List (List ℕ)) (x : List ℕ) (old new : BTreeMap (List ℕ) ℕ) → AreNumbered names old → is_some (variable_number x names) ≡ false
    → Updates (slice_cmp nat_cmp) old new x (Some (length names)) → AreNumbered (names ++ x ∷ []) new
numbered-new names x old new h fresh u name i e =
    new_at names x name old new (variable_number name names) (pointwise nat_eq x name) refl refl (numbered-put names x old new (length names) h fresh u) u i (sym (number_of-push name names x) ∙ e)

-- a name that has a number is declared once more
again_at : (names : List (List ℕ)) (x name : List ℕ) (m : BTreeMap (List ℕ) ℕ) (o : Option ℕ) (b : Bool) → variable_number name names ≡ o → pointwise nat_eq x name ≡ b → AreNumbered names m
    → is_some (variable_number x names) ≡ true → (i : ℕ) → cond (is_some o) o (cond b (Some (length names)) None) ≡ Some i → get (slice_cmp nat_cmp) m name ≡ Some i
again_at names x name m (Some j) b has same h old i e = h name i (has ∙ e)
again_at names x name m None true has same h old i e =
    let lacks : is_some (variable_number x names) ≡ false = ap is_some (same_number x name names same ∙ has) in
    absurd (no_true (sym old ∙ lacks))
again_at names x name m None false has same h old i e = cc

pub numbered-again : (names : List (List ℕ)) (x : List ℕ) (m : BTreeMap (List ℕ) ℕ) → AreNumbered names m → is_some (variable_number x names) ≡ true → AreNumbered (names ++ x ∷ []) m
numbered-again names x m h old name i e =
    again_at names x name m (variable_number name names) (pointwise nat_eq x name) refl refl h old i (sym (number_of-push name names x) ∙ e)

-- at the number of a name it stands
stands_step : (b : Bool) (o : Option ℕ) (name x : List ℕ) (xs : List (List ℕ)) → pointwise nat_eq x name ≡ b → ((k : ℕ) → o ≡ Some k → slice_get xs k ≡ Some name) → (i : ℕ) → cond b (Some 0) (option_map suc o) ≡ Some i → slice_get (x ∷ xs) i ≡ Some name
stands_step true o name x xs same h i e = ap (slice_get (x ∷ xs)) (one_number e refl) ∙ ap (λ (n : List ℕ). Some n) ((bytes_decides x name).0 same)
stands_step false None name x xs same h i e = cc
stands_step false (Some k) name x xs same h i e = ap (slice_get (x ∷ xs)) (one_number e refl) ∙ h k refl

stands_at : (name : List ℕ) (names : List (List ℕ)) (i : ℕ) → variable_number name names ≡ Some i → slice_get names i ≡ Some name
stands_at name [] i e = cc
stands_at name (x ∷ xs) i e = stands_step (pointwise nat_eq x name) (variable_number name xs) name x xs refl (stands_at name xs) i e

-- and where it stands it has a number
some_step : (b : Bool) (o : Option ℕ) → is_some o ≡ true → is_some (cond b (Some 0) (option_map suc o)) ≡ true
some_step true o e = refl
some_step false None e = e
some_step false (Some k) e = refl

same_name : (name : List ℕ) → pointwise nat_eq name name ≡ true
same_name name = (bytes_decides name name).1 refl

here_step : (b : Bool) (o : Option ℕ) → b ≡ true → is_some (cond b (Some 0) (option_map suc o)) ≡ true
here_step true o e = refl
here_step false o e = cc

has_number : (name : List ℕ) (names : List (List ℕ)) (i : ℕ) → slice_get names i ≡ Some name → is_some (variable_number name names) ≡ true
has_number name [] i e = cc
has_number name (x ∷ xs) zero e = here_step (pointwise nat_eq x name) (variable_number name xs) ((bytes_decides x name).1 (some_name e))
has_number name (x ∷ xs) (suc i) e = some_step (pointwise nat_eq x name) (variable_number name xs) (has_number name xs i e)

-- so a name is declared where the map has a number at which it stands
found_by : (names : List (List ℕ)) (name f : List ℕ) (m : BTreeMap (List ℕ) ℕ) (n : ℕ) (o : Option ℕ) (b : Bool) → variable_number name names ≡ o → pointwise nat_eq f name ≡ b → AreNumbered names m → get (slice_cmp nat_cmp) m name ≡ Some n
    → slice_get names n ≡ Some f → b ≡ is_some o
found_by names name f m n None true has same h at here =
    let there : slice_get names n ≡ Some name = here ∙ ap (λ (x : List ℕ). Some x) ((bytes_decides f name).0 same) in
    sym (has_number name names n there) ∙ ap is_some has
found_by names name f m n None false has same h at here = refl
found_by names name f m n (Some i) true has same h at here = refl
found_by names name f m n (Some i) false has same h at here =
    let number : n ≡ i = one_number at (h name i has) in
    let is : f ≡ name = some_name (sym here ∙ ap (slice_get names) number ∙ stands_at name names i has) in
    sym same ∙ (bytes_decides f name).1 is

pub numbered-found : (names : List (List ℕ)) (name f : List ℕ) (m : BTreeMap (List ℕ) ℕ) (n : ℕ) → AreNumbered names m → get (slice_cmp nat_cmp) m name ≡ Some n → slice_get names n ≡ Some f
    → pointwise nat_eq f name ≡ is_some (variable_number name names)
numbered-found names name f m n h at here = found_by names name f m n (variable_number name names) (pointwise nat_eq f name) refl refl h at here

past_by : (names : List (List ℕ)) (name : List ℕ) (m : BTreeMap (List ℕ) ℕ) (n : ℕ) (o : Option ℕ) → variable_number name names ≡ o → AreNumbered names m → get (slice_cmp nat_cmp) m name ≡ Some n → slice_get names n ≡ None → is_some o ≡ false
past_by names name m n None has h at past = refl
past_by names name m n (Some i) has h at past =
    let number : n ≡ i = one_number at (h name i has) in
    absurd (no_name past (ap (slice_get names) number ∙ stands_at name names i has))

pub numbered-past : (names : List (List ℕ)) (name : List ℕ) (m : BTreeMap (List ℕ) ℕ) (n : ℕ) → AreNumbered names m → get (slice_cmp nat_cmp) m name ≡ Some n → slice_get names n ≡ None → is_some (variable_number name names) ≡ false
numbered-past names name m n h at past = past_by names name m n (variable_number name names) refl h at past

lacks_by : (names : List (List ℕ)) (name : List ℕ) (m : BTreeMap (List ℕ) ℕ) (o : Option ℕ) → variable_number name names ≡ o → AreNumbered names m → get (slice_cmp nat_cmp) m name ≡ None → is_some o ≡ false
lacks_by names name m None has h lacks = refl
lacks_by names name m (Some i) has h lacks = absurd (no_number lacks (h name i has))

pub numbered-lacks : (names : List (List ℕ)) (name : List ℕ) (m : BTreeMap (List ℕ) ℕ) → AreNumbered names m → get (slice_cmp nat_cmp) m name ≡ None → is_some (variable_number name names) ≡ false
numbered-lacks names name m h lacks = lacks_by names name m (variable_number name names) refl h lacks
