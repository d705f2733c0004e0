-- Numbers of the newest variables, and a map that has them.
use Rattle.std.proofs.Common.{◌≡◌, ℕ, zero, suc, ◌<◌, ◌≤◌, ◌-◌, Bool, true, false, cond, List, [], ◌∷◌, ◌++◌, length, map, reverse, drop, Option, Some, None, Result, Ok, Err, OnOk, OnErr, get_or, refl, sym, ap, ◌∙◌, subst, bytes_eq, nat_cmp}
use native.Mathlib.Omega.{arith}
use Rattle.std.proofs.lemmas.Grind.{reverse_onto}
use Rattle.std.proofs.lemmas.List.{reverse-reverse, reverse-append, length-reverse, length-map, map-append, map-set}
use Rattle.std.proofs.lemmas.Map.Text.{is_eq-slice_cmp}
use Rattle.std.proofs.lemmas.Option.{slice_get-map, slice_get_read, slice_get_past}
use Rattle.std.proofs.Math.ListN.{set}
use Rattle.std.proofs.Math.Seq.{map-set_same}
use Rattle.std.specs.Borrow.{Bor}
use Rattle.std.specs.BTreeMap.{BTreeMap, get, get_by, Updates}
use Rattle.std.specs.Cmp.Lexicographic.{slice_cmp, bytes_decides}
use Rattle.std.specs.declared.cmp.Ordering.{Ordering}
use Rattle.std.specs.List.{slice_get}
use Rattle.std.specs.Option.{option_map}
use Rattle.page_datum.specs.Data.{Data, null}
use Rattle.tpl_eval.specs.Evaluating.{Variables, variable_value}
use Rattle.tpl_eval.specs.Newest.{newest_at, variable_view, label, AreFound}
use Rattle.tpl_eval.specs.Evaluating.{scope_assigned}
use Rattle.tpl_eval.specs.Values.{value_view}
use Rattle.tpl_eval.specs.declared.value.Value.{Value}
use Rattle.tpl_eval.specs.declared.variable_stack.Variable.{Variable}

some_item : {X : Type 0} {x y : X} → Some x ≡ Some y → x ≡ y
some_item e = cc

no_item : {X : Type 0} {o : Option X} {x : X} → o ≡ None → o ≡ Some x → ⊥
no_item e f = cc

same_bytes : (bs : List ℕ) → bytes_eq bs bs ≡ true
same_bytes bs = (bytes_decides bs bs).1 refl

-- Lists that have one item more at the end.

-- whether two numbers are one
abbrev same : ℕ → ℕ → Bool
same zero zero = true
same zero (suc n) = false
same (suc i) zero = false
same (suc i) (suc n) = same i n

same_self : (n : ℕ) → same n n ≡ true
same_self zero = refl
same_self (suc n) = same_self n

same_below : (i n : ℕ) → i < n → same i n ≡ false
same_below zero zero h = absurd (omega (arith, h))
same_below zero (suc n) h = refl
same_below (suc i) zero h = absurd (omega (arith, h))
same_below (suc i) (suc n) h = same_below i n (omega arith)

get_more : {X : Type 0} (xs : List X) (x : X) (i : ℕ) → slice_get (xs ++ x ∷ []) i ≡ cond (same i (length xs)) (Some x) (slice_get xs i)
get_more [] x zero = refl
get_more [] x (suc i) = refl
get_more (y ∷ ys) x zero = refl
get_more (y ∷ ys) x (suc i) = get_more ys x i

set_step : {X : Type 0} (b : Bool) (z : X) (xs ys : List X) → z ∷ cond b xs ys ≡ cond b (z ∷ xs) (z ∷ ys)
set_step true z xs ys = refl
set_step false z xs ys = refl

set_more : {X : Type 0} (xs : List X) (x y : X) (i : ℕ) → set (xs ++ x ∷ []) i y ≡ cond (same i (length xs)) (xs ++ y ∷ []) (set xs i y ++ x ∷ [])
set_more [] x y zero = refl
set_more [] x y (suc i) = refl
set_more (z ∷ zs) x y zero = refl
set_more (z ∷ zs) x y (suc i) = ap (λ xs. z ∷ xs) (set_more zs x y i) ∙ set_step (same i (length zs)) z (zs ++ y ∷ []) (set zs i y ++ x ∷ [])

reverse_more : {X : Type 0} (x : X) (xs : List X) → reverse (x ∷ xs) ≡ reverse xs ++ x ∷ []
reverse_more x xs = reverse_onto xs x []

reverse_last : {X : Type 0} (xs : List X) (x : X) → reverse (xs ++ x ∷ []) ≡ x ∷ reverse xs
reverse_last xs x = reverse-append xs (x ∷ [])

map_reverse : {X Y : Type 0} (f : X → Y) (xs : List X) → map f (reverse xs) ≡ reverse (map f xs)
map_reverse f [] = refl
map_reverse f (x ∷ xs) =
    ap (map f) (reverse_more x xs) ∙ map-append f (reverse xs) (x ∷ []) ∙ ap (λ ys. ys ++ f x ∷ []) (map_reverse f xs) ∙ sym (reverse_more (f x) (map f xs))

get_reversed : {X : Type 0} (x : X) (xs : List X) (i : ℕ) → slice_get (reverse (x ∷ xs)) i ≡ cond (same i (length xs)) (Some x) (slice_get (reverse xs) i)
get_reversed x xs i =
    ap (λ ys. slice_get ys i) (reverse_more x xs) ∙ get_more (reverse xs) x i ∙ ap (λ n. cond (same i n) (Some x) (slice_get (reverse xs) i)) (length-reverse xs)

set_apart : {X : Type 0} (b : Bool) (x : X) (xs : List X) (y : X) (ys : List X) → reverse (cond b (reverse xs ++ y ∷ []) (ys ++ x ∷ [])) ≡ cond b (y ∷ xs) (x ∷ reverse ys)
set_apart true x xs y ys = reverse_last (reverse xs) y ∙ ap (λ zs. y ∷ zs) (reverse-reverse xs)
set_apart false x xs y ys = reverse_last ys x

set_reversed : {X : Type 0} (x : X) (xs : List X) (y : X) (i : ℕ) → reverse (set (reverse (x ∷ xs)) i y) ≡ cond (same i (length xs)) (y ∷ xs) (x ∷ reverse (set (reverse xs) i y))
set_reversed x xs y i =
    ap (λ ys. reverse (set ys i y)) (reverse_more x xs) ∙ ap reverse (set_more (reverse xs) x y i)
    ∙ ap (λ n. reverse (cond (same i n) (reverse xs ++ y ∷ []) (set (reverse xs) i y ++ x ∷ []))) (length-reverse xs)
    ∙ set_apart (same i (length xs)) x xs y (set (reverse xs) i y)

-- What contracts see has the same numbers as names with what they hide.

pub number_seen : (name : List ℕ) (ws : List Variable) → newest_at name (map variable_view ws) ≡ newest_at name (map label ws)
number_seen name [] = refl
number_seen name (w ∷ ws) =
    ap (λ n. cond (bytes_eq w.name.now name) (Some n) (newest_at name (map variable_view ws))) (length-map ws variable_view ∙ sym (length-map ws label))
    ∙ ap (λ o. cond (bytes_eq w.name.now name) (Some (length (map label ws))) o) (number_seen name ws)

-- At the number of a name's newest variable it stands, and this is its value.

within_step : (b : Bool) (o : Option ℕ) (n i : ℕ) → ((k : ℕ) → o ≡ Some k → k < n) → cond b (Some n) o ≡ Some i → i < suc n
within_step true o n i h e = let last : n ≡ i = some_item e in omega arith
within_step false o n i h e = let below : i < n = h i e in omega arith

number_within : {A : Type 0} (name : List ℕ) (vs : List (List ℕ × A)) (i : ℕ) → newest_at name vs ≡ Some i → i < length vs
number_within name [] i e = cc
number_within name (v ∷ vs) i e = within_step (bytes_eq v.0 name) (newest_at name vs) (length vs) i (number_within name vs) e

stands_step : (v : List ℕ × Data) (vs : Variables) (name : List ℕ) (i : ℕ) (b : Bool) → bytes_eq v.0 name ≡ b → ((k : ℕ) → newest_at name vs ≡ Some k → slice_get (reverse vs) k ≡ Some (name, variable_value name vs))
    → cond b (Some (length vs)) (newest_at name vs) ≡ Some i → cond (same i (length vs)) (Some v) (slice_get (reverse vs) i) ≡ Some (name, cond b v.1 (variable_value name vs))
stands_step v vs name i true named h e =
    let last : same i (length vs) ≡ true = ap (λ k. same k (length vs)) (sym (some_item e)) ∙ same_self (length vs) in
    ap (λ b. cond b (Some v) (slice_get (reverse vs) i)) last ∙ ap (λ (bs : List ℕ). Some (bs, v.1)) ((bytes_decides v.0 name).0 named)
stands_step v vs name i false named h e =
    ap (λ b. cond b (Some v) (slice_get (reverse vs) i)) (same_below i (length vs) (number_within name vs i e)) ∙ h i e

pub stands : (name : List ℕ) (vs : Variables) (i : ℕ) → newest_at name vs ≡ Some i → slice_get (reverse vs) i ≡ Some (name, variable_value name vs)
stands name [] i e = cc
stands name (v ∷ vs) i e = get_reversed v vs i ∙ stands_step v vs name i (bytes_eq v.0 name) refl (stands name vs) e

no_value_step : (b : Bool) (o : Option ℕ) (n : ℕ) (x y : Data) → (o ≡ None → y ≡ null) → cond b (Some n) o ≡ None → cond b x y ≡ null
no_value_step true o n x y h e = absurd (no_item e refl)
no_value_step false o n x y h e = h e

pub no_value : (name : List ℕ) (vs : Variables) → newest_at name vs ≡ None → variable_value name vs ≡ null
no_value name [] e = refl
no_value name (v ∷ vs) e = no_value_step (bytes_eq v.0 name) (newest_at name vs) (length vs) v.1 (variable_value name vs) (no_value name vs) e

-- A name that stands somewhere has a number.

differ : true ≡ false → ⊥
differ e = cc

has_step : (b c : Bool) (v : List ℕ × Data) (name : List ℕ) (p : List ℕ × Data) (o : Option ℕ) (n : ℕ) (q : Option (List ℕ × Data)) → bytes_eq v.0 name ≡ c → (q ≡ Some p → o ≡ None → ⊥) → p.0 ≡ name
    → cond b (Some v) q ≡ Some p → cond c (Some n) o ≡ None → ⊥
has_step b true v name p o n q named h is at e = no_item e refl
has_step true false v name p o n q named h is at e = differ (sym (same_bytes name) ∙ ap (λ (bs : List ℕ). bytes_eq bs name) (sym (ap (λ (p : List ℕ × Data). p.0) (some_item at) ∙ is)) ∙ named)
has_step false false v name p o n q named h is at e = h at e

has_number : (name : List ℕ) (vs : Variables) (i : ℕ) (p : List ℕ × Data) → p.0 ≡ name → slice_get (reverse vs) i ≡ Some p → newest_at name vs ≡ None → ⊥
has_number name [] i p is at e = no_item refl at
has_number name (v ∷ vs) i p is at e =
    has_step (same i (length vs)) (bytes_eq v.0 name) v name p (newest_at name vs) (length vs) (slice_get (reverse vs) i) refl (has_number name vs i p is) is (sym (get_reversed v vs i) ∙ at) e

-- So a name has a number where the map has one at which it stands.

found_by : (vs : Variables) (name : List ℕ) (got : Option ℕ) (n : ℕ) (p : List ℕ × Data) (o : Option ℕ) (b : Bool) → newest_at name vs ≡ o → bytes_eq p.0 name ≡ b → ((i : ℕ) → newest_at name vs ≡ Some i → got ≡ Some i) → got ≡ Some n
    → slice_get (reverse vs) n ≡ Some p → o ≡ cond b (Some n) None
found_by vs name got n p None true has named h at here = absurd (has_number name vs n p ((bytes_decides p.0 name).0 named) here has)
found_by vs name got n p None false has named h at here = refl
found_by vs name got n p (Some i) true has named h at here = sym (h i has) ∙ at
found_by vs name got n p (Some i) false has named h at here =
    let number : n ≡ i = some_item (sym at ∙ h i has) in
    let is : p.0 ≡ name = ap (λ (q : List ℕ × Data). q.0) (some_item (sym here ∙ ap (slice_get (reverse vs)) number ∙ stands name vs i has)) in
    absurd (differ (sym ((bytes_decides p.0 name).1 is) ∙ named))

pub number_found : (vs : Variables) (name : List ℕ) (got : Option ℕ) (n : ℕ) (p : List ℕ × Data) → ((i : ℕ) → newest_at name vs ≡ Some i → got ≡ Some i) → got ≡ Some n → slice_get (reverse vs) n ≡ Some p
    → newest_at name vs ≡ cond (bytes_eq p.0 name) (Some n) None
number_found vs name got n p h at here = found_by vs name got n p (newest_at name vs) (bytes_eq p.0 name) refl refl h at here

past_by : (vs : Variables) (name : List ℕ) (got : Option ℕ) (n : ℕ) (o : Option ℕ) → newest_at name vs ≡ o → ((i : ℕ) → newest_at name vs ≡ Some i → got ≡ Some i) → got ≡ Some n → slice_get (reverse vs) n ≡ None → o ≡ None
past_by vs name got n None has h at past = refl
past_by vs name got n (Some i) has h at past = absurd (no_item past (ap (slice_get (reverse vs)) (some_item (sym at ∙ h i has)) ∙ stands name vs i has))

pub number_past : (vs : Variables) (name : List ℕ) (got : Option ℕ) (n : ℕ) → ((i : ℕ) → newest_at name vs ≡ Some i → got ≡ Some i) → got ≡ Some n → slice_get (reverse vs) n ≡ None → newest_at name vs ≡ None
number_past vs name got n h at past = past_by vs name got n (newest_at name vs) refl h at past

lacks_by : (vs : Variables) (name : List ℕ) (got : Option ℕ) (o : Option ℕ) → newest_at name vs ≡ o → ((i : ℕ) → newest_at name vs ≡ Some i → got ≡ Some i) → got ≡ None → o ≡ None
lacks_by vs name got None has h lacks = refl
lacks_by vs name got (Some i) has h lacks = absurd (no_item lacks (h i has))

pub number_lacks : (vs : Variables) (name : List ℕ) (got : Option ℕ) → ((i : ℕ) → newest_at name vs ≡ Some i → got ≡ Some i) → got ≡ None → newest_at name vs ≡ None
number_lacks vs name got h lacks = lacks_by vs name got (newest_at name vs) refl h lacks

-- Another value for the newest variable of a name.

assigned_step : (v : List ℕ × Data) (vs : Variables) (name : List ℕ) (x : Data) (i : ℕ) (b : Bool) → ((k : ℕ) → newest_at name vs ≡ Some k → reverse (set (reverse vs) k (name, x)) ≡ scope_assigned name x vs)
    → cond b (Some (length vs)) (newest_at name vs) ≡ Some i → cond (same i (length vs)) ((name, x) ∷ vs) (v ∷ reverse (set (reverse vs) i (name, x))) ≡ cond b ((name, x) ∷ vs) (v ∷ scope_assigned name x vs)
assigned_step v vs name x i true h e =
    ap (λ b. cond b ((name, x) ∷ vs) (v ∷ reverse (set (reverse vs) i (name, x)))) (ap (λ k. same k (length vs)) (sym (some_item e)) ∙ same_self (length vs))
assigned_step v vs name x i false h e =
    ap (λ b. cond b ((name, x) ∷ vs) (v ∷ reverse (set (reverse vs) i (name, x)))) (same_below i (length vs) (number_within name vs i e)) ∙ ap (λ (more : Variables). v ∷ more) (h i e)

assigned : (name : List ℕ) (x : Data) (vs : Variables) (i : ℕ) → newest_at name vs ≡ Some i → reverse (set (reverse vs) i (name, x)) ≡ scope_assigned name x vs
assigned name x [] i e = cc
assigned name x (v ∷ vs) i e = set_reversed v vs (name, x) i ∙ assigned_step v vs name x i (bytes_eq v.0 name) (assigned name x vs) e

none_step : (b : Bool) (v : List ℕ × Data) (vs ws : Variables) (name : List ℕ) (x : Data) (n : ℕ) (o : Option ℕ) → (o ≡ None → vs ≡ ws) → cond b (Some n) o ≡ None → v ∷ vs ≡ cond b ((name, x) ∷ vs) (v ∷ ws)
none_step true v vs ws name x n o h e = absurd (no_item e refl)
none_step false v vs ws name x n o h e = ap (λ (more : Variables). v ∷ more) (h e)

pub none_assigned : (name : List ℕ) (x : Data) (vs : Variables) → newest_at name vs ≡ None → vs ≡ scope_assigned name x vs
none_assigned name x [] e = refl
none_assigned name x (v ∷ vs) e = none_step (bytes_eq v.0 name) v vs (scope_assigned name x vs) name x (length vs) (newest_at name vs) (none_assigned name x vs) e

-- The same of the variables of the code, the newest last.

item_seen : (all : List Variable) (i : ℕ) → slice_get (reverse (map variable_view (reverse all))) i ≡ option_map variable_view (slice_get all i)
item_seen all i =
    ap (λ (vs : Variables). slice_get vs i) (sym (map_reverse variable_view (reverse all)) ∙ ap (map variable_view) (reverse-reverse all)) ∙ slice_get-map variable_view all i

-- what the map has of a name
abbrev pub got : BTreeMap (Bor (List ℕ)) ℕ → List ℕ → Option ℕ
got newest name = get_by (λ (key : Bor (List ℕ)). slice_cmp nat_cmp name key.now) newest

has_seen : (all : List Variable) (newest : BTreeMap (Bor (List ℕ)) ℕ) (name : List ℕ) → AreFound (map label (reverse all)) newest → (i : ℕ) → newest_at name (map variable_view (reverse all)) ≡ Some i → got newest name ≡ Some i
has_seen all newest name found i e = found.has name i (sym (number_seen name (reverse all)) ∙ e)

pub number_at : (all xs : List Variable) (view : Variables) (newest : BTreeMap (Bor (List ℕ)) ℕ) (name : List ℕ) (n : ℕ) (v : Variable) (b : Bool) → map variable_view (reverse all) ≡ view → AreFound (map label (reverse all)) newest
    → got newest name ≡ Some n → xs ≡ all → n < length xs → v ≡ get_or xs n v → bytes_eq v.name.now name ≡ b → cond b (Some n) None ≡ newest_at name view
number_at all xs view newest name n v b seen found at whole inside is named =
    let here : slice_get all n ≡ Some v = subst (λ (xs : List Variable). slice_get xs n ≡ Some v) whole (slice_get_read xs (length xs) n v refl inside is) in
    let number = number_found (map variable_view (reverse all)) name (got newest name) n (variable_view v) (has_seen all newest name found) at (item_seen all n ∙ ap (option_map variable_view) here) in
    ap (λ b. cond b (Some n) None) (sym named) ∙ sym number ∙ ap (newest_at name) seen

pub number_beyond : (all xs : List Variable) (view : Variables) (newest : BTreeMap (Bor (List ℕ)) ℕ) (name : List ℕ) (n : ℕ) → map variable_view (reverse all) ≡ view → AreFound (map label (reverse all)) newest
    → got newest name ≡ Some n → xs ≡ all → length xs ≤ n → None ≡ newest_at name view
number_beyond all xs view newest name n seen found at whole outside =
    let past : slice_get all n ≡ None = subst (λ (xs : List Variable). slice_get xs n ≡ None) whole (slice_get_past xs n outside) in
    sym (number_past (map variable_view (reverse all)) name (got newest name) n (has_seen all newest name found) at (item_seen all n ∙ ap (option_map variable_view) past)) ∙ ap (newest_at name) seen

pub number_none : (all : List Variable) (view : Variables) (newest : BTreeMap (Bor (List ℕ)) ℕ) (name : List ℕ) → map variable_view (reverse all) ≡ view → AreFound (map label (reverse all)) newest → got newest name ≡ None
    → None ≡ newest_at name view
number_none all view newest name seen found lacks = sym (number_lacks (map variable_view (reverse all)) name (got newest name) (has_seen all newest name found) lacks) ∙ ap (newest_at name) seen

value_step : (o : Option Variable) (v : Variable) (name : List ℕ) (x : Data) → o ≡ Some v → option_map variable_view o ≡ Some (name, x) → (v.name.now ≡ name) × (value_view v.value ≡ x)
value_step o v name x here e =
    let is : variable_view v ≡ (name, x) = some_item (sym (ap (option_map variable_view) here) ∙ e) in
    (ap (λ (p : List ℕ × Data). p.0) is, ap (λ (p : List ℕ × Data). p.1) is)

-- the name and the value of the variable at a number
pub value_at : (all : List Variable) (view : Variables) (name : List ℕ) (n : ℕ) (v : Variable) → map variable_view (reverse all) ≡ view → newest_at name view ≡ Some n → v ≡ get_or all n v
    → (v.name.now ≡ name) × (value_view v.value ≡ variable_value name view)
value_at all view name n v seen number is =
    let many : length view ≡ length all = ap length (sym seen) ∙ length-map (reverse all) variable_view ∙ length-reverse all in
    let inside : n < length all = subst (λ (k : ℕ). n < k) many (number_within name view n number) in
    let stood : slice_get (reverse view) n ≡ option_map variable_view (slice_get all n) = ap (λ (vs : Variables). slice_get (reverse vs) n) (sym seen) ∙ item_seen all n in
    value_step (slice_get all n) v name (variable_value name view) (slice_get_read all (length all) n v refl inside is) (sym stood ∙ stands name view n number)

-- a variable with another value
abbrev with_value : Variable → Value → Variable
with_value v x = record { name = v.name; value = x; hidden = v.hidden }

pub set_assigned : (all : List Variable) (view : Variables) (name : List ℕ) (n : ℕ) (v : Variable) (x : Value) → map variable_view (reverse all) ≡ view → newest_at name view ≡ Some n → v ≡ get_or all n v
    → map variable_view (reverse (set all n (with_value v x))) ≡ scope_assigned name (value_view x) view
set_assigned all view name n v x seen number is =
    let back : map variable_view all ≡ reverse view = ap (map variable_view) (sym (reverse-reverse all)) ∙ map_reverse variable_view (reverse all) ∙ ap reverse seen in
    map_reverse variable_view (set all n (with_value v x)) ∙ ap reverse (map-set variable_view all n (with_value v x))
    ∙ ap (λ (bs : List ℕ). reverse (set (map variable_view all) n (bs, value_view x))) (value_at all view name n v seen number is).0
    ∙ ap (λ (vs : Variables). reverse (set vs n (name, value_view x))) back
    ∙ assigned name (value_view x) view n number

-- What was found stays found.

pub set_found : (all : List Variable) (newest : BTreeMap (Bor (List ℕ)) ℕ) (n : ℕ) (v : Variable) (x : Value) → v ≡ get_or all n v → AreFound (map label (reverse all)) newest
    → AreFound (map label (reverse (set all n (with_value v x)))) newest
set_found all newest n v x is found =
    subst (λ (labels : List (List ℕ × Option ℕ)). AreFound labels newest)
    (map_reverse label all ∙ ap reverse (sym (map-set_same label all n (with_value v x) v (ap label is))) ∙ sym (map_reverse label (set all n (with_value v x)))) found

abbrev text_cmp : Bor (List ℕ) → Bor (List ℕ) → Ordering
text_cmp x y = slice_cmp nat_cmp x.now y.now

got_updated : (old new : BTreeMap (Bor (List ℕ)) ℕ) (key : Bor (List ℕ)) (n : ℕ) (name : List ℕ) → Updates text_cmp old new key (Some n) → got new name ≡ cond (bytes_eq key.now name) (Some n) (got old name)
got_updated old new key n name u =
    u.0 (record { ref_ptr = key.ref_ptr; now = name }) ∙ ap (λ b. cond b (Some n) (got old name)) (is_eq-slice_cmp key.now name)

push_step : (b : Bool) (o p : Option ℕ) (n i : ℕ) → ((k : ℕ) → o ≡ Some k → p ≡ Some k) → cond b (Some n) o ≡ Some i → cond b (Some n) p ≡ Some i
push_step true o p n i h e = e
push_step false o p n i h e = h i e

push_labels : (labels : List (List ℕ × Option ℕ)) (old new : BTreeMap (Bor (List ℕ)) ℕ) (key : Bor (List ℕ)) (hidden : Option ℕ) → AreFound labels old → hidden ≡ newest_at key.now labels → Updates text_cmp old new key (Some (length labels))
    → AreFound ((key.now, hidden) ∷ labels) new
push_labels labels old new key hidden found is u = record {
  has = λ name i e. got_updated old new key (length labels) name u ∙ push_step (bytes_eq key.now name) (newest_at name labels) (got old name) (length labels) i (found.has name) e;
  hidden = (is, found.hidden);
}

labels_last : (all more : List Variable) (v : Variable) → more ≡ all ++ v ∷ [] → label v ∷ map label (reverse all) ≡ map label (reverse more)
labels_last all more v pushed = ap (map label) (sym (reverse_last all v) ∙ ap reverse (sym pushed))

pub push_found : (all more : List Variable) (view : Variables) (old new : BTreeMap (Bor (List ℕ)) ℕ) (v : Variable) (n : ℕ) → more ≡ all ++ v ∷ [] → map variable_view (reverse all) ≡ view → n ≡ length all
    → AreFound (map label (reverse all)) old → v.hidden ≡ newest_at v.name.now view → Updates text_cmp old new v.name (Some n) → AreFound (map label (reverse more)) new
push_found all more view old new v n pushed seen count found is u =
    let many : n ≡ length (map label (reverse all)) = count ∙ sym (length-reverse all) ∙ sym (length-map (reverse all) label) in
    let hides : v.hidden ≡ newest_at v.name.now (map label (reverse all)) = is ∙ ap (newest_at v.name.now) (sym seen) ∙ number_seen v.name.now (reverse all) in
    subst (λ (labels : List (List ℕ × Option ℕ)). AreFound labels new) (labels_last all more v pushed)
    (push_labels (map label (reverse all)) old new v.name v.hidden found hides (subst (λ (k : ℕ). Updates text_cmp old new v.name (Some k)) many u))

drop_none_step : (b : Bool) (first name : List ℕ) (labels : List (List ℕ × Option ℕ)) (n i : ℕ) (g : Option ℕ) → bytes_eq first name ≡ b → None ≡ newest_at first labels → newest_at name labels ≡ Some i
    → (cond b (Some n) (newest_at name labels) ≡ Some i → g ≡ Some i) → g ≡ Some i
drop_none_step true first name labels n i g same none e h = absurd (no_item (sym none) (ap (λ (bs : List ℕ). newest_at bs labels) ((bytes_decides first name).0 same) ∙ e))
drop_none_step false first name labels n i g same none e h = h e

drop_none : (labels : List (List ℕ × Option ℕ)) (first : List ℕ) (newest : BTreeMap (Bor (List ℕ)) ℕ) → AreFound ((first, None) ∷ labels) newest → AreFound labels newest
drop_none labels first newest found = record {
  has = λ name i e. drop_none_step (bytes_eq first name) first name labels (length labels) i (got newest name) refl found.hidden.0 e (found.has name i);
  hidden = found.hidden.1;
}

drop_some_step : (b : Bool) (first name : List ℕ) (labels : List (List ℕ × Option ℕ)) (n k i : ℕ) (g : Option ℕ) → bytes_eq first name ≡ b → Some k ≡ newest_at first labels → newest_at name labels ≡ Some i
    → (cond b (Some n) (newest_at name labels) ≡ Some i → g ≡ Some i) → cond b (Some k) g ≡ Some i
drop_some_step true first name labels n k i g same some e h = some ∙ ap (λ (bs : List ℕ). newest_at bs labels) ((bytes_decides first name).0 same) ∙ e
drop_some_step false first name labels n k i g same some e h = h e

drop_some : (labels : List (List ℕ × Option ℕ)) (key : Bor (List ℕ)) (k : ℕ) (old new : BTreeMap (Bor (List ℕ)) ℕ) → AreFound ((key.now, Some k) ∷ labels) old → Updates text_cmp old new key (Some k) → AreFound labels new
drop_some labels key k old new found u = record {
  has = λ name i e. got_updated old new key k name u ∙ drop_some_step (bytes_eq key.now name) key.now name labels (length labels) k i (got old name) refl found.hidden.0 e (found.has name i);
  hidden = found.hidden.1;
}

-- a name that a variable has is in the map, so that it can be given another number
drop_lacks : (labels : List (List ℕ × Option ℕ)) (name : List ℕ) (hidden : Option ℕ) (newest : BTreeMap (Bor (List ℕ)) ℕ) → AreFound ((name, hidden) ∷ labels) newest → got newest name ≡ None → ⊥
drop_lacks labels name hidden newest found lacks = no_item lacks (found.has name (length labels) (ap (λ b. cond b (Some (length labels)) (newest_at name labels)) (same_bytes name)))

-- what the variables before the last one had, with what the last one hides
drop_last : (all rest : List Variable) (v : Variable) (hidden : Option ℕ) (newest : BTreeMap (Bor (List ℕ)) ℕ) → all ≡ rest ++ v ∷ [] → v.hidden ≡ hidden → AreFound (map label (reverse all)) newest
    → AreFound ((v.name.now, hidden) ∷ map label (reverse rest)) newest
drop_last all rest v hidden newest popped is found =
    subst (λ (labels : List (List ℕ × Option ℕ)). AreFound labels newest) (sym (labels_last rest all v popped) ∙ ap (λ (o : Option ℕ). (v.name.now, o) ∷ map label (reverse rest)) is) found

pub drop_found : (all rest : List Variable) (v : Variable) (newest : BTreeMap (Bor (List ℕ)) ℕ) → all ≡ rest ++ v ∷ [] → v.hidden ≡ None → AreFound (map label (reverse all)) newest → AreFound (map label (reverse rest)) newest
drop_found all rest v newest popped none found = drop_none (map label (reverse rest)) v.name.now newest (drop_last all rest v None newest popped none found)

drop_again_step : {E : Type 0} (result : Result (Option ℕ) E) (labels : List (List ℕ × Option ℕ)) (key : Bor (List ℕ)) (k : ℕ) (old new : BTreeMap (Bor (List ℕ)) ℕ) → AreFound ((key.now, Some k) ∷ labels) old
    → OnOk result (Updates text_cmp old new key (Some k)) → OnErr result (get text_cmp old key ≡ None) → AreFound labels new
drop_again_step (Ok x) labels key k old new found u lacks = drop_some labels key k old new found u
drop_again_step (Err e) labels key k old new found u lacks = absurd (drop_lacks labels key.now (Some k) old found lacks)

pub drop_again : {E : Type 0} (result : Result (Option ℕ) E) (all rest : List Variable) (v : Variable) (k : ℕ) (old new : BTreeMap (Bor (List ℕ)) ℕ) → all ≡ rest ++ v ∷ [] → v.hidden ≡ Some k → AreFound (map label (reverse all)) old
    → OnOk result (Updates text_cmp old new v.name (Some k)) → OnErr result (get text_cmp old v.name ≡ None) → AreFound (map label (reverse rest)) new
drop_again result all rest v k old new popped some found u lacks = drop_again_step result (map label (reverse rest)) v.name k old new (drop_last all rest v (Some k) old popped some found) u lacks

-- The newest one is let go while there are more than so many.

pub drop_on : (count : ℕ) (all rest : Variables) → count < length all → rest ≡ drop 1 all → drop (length rest - count) rest ≡ drop (length all - count) all
drop_on count [] rest more is = absurd (omega (arith, more))
drop_on count (v ∷ vs) rest more is =
    let left : suc (length vs) - count ≡ suc (length vs - count) = omega (arith, more) in
    ap (λ (vs : Variables). drop (length vs - count) vs) is ∙ sym (ap (λ k. drop k (v ∷ vs)) left)
