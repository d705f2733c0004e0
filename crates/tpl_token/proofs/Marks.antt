-- What it says that bytes begin with a mark, and that a run of bytes ends.
use Rattle.std.proofs.Common.{◌≡◌, ℕ, suc, ◌+◌, ◌<◌, ◌≤◌, Bool, true, false, cond, ◌&&◌, List, [], ◌∷◌, ◌++◌, length, get_or, take, drop, nat_eq, codes, ◌==◌, refl, sym, ap, ◌∙◌, arith, true≢false}
use Rattle.std.proofs.lemmas.List.{take_at, drop-drop, take-append-drop, length-append}
use Rattle.std.proofs.lemmas.Slice.Eq.{bytes_eq-Decides}
use Rattle.std.proofs.lemmas.Bool.Decides.{nat_tests}
use Rattle.std.specs.List.{list_all, prefix_len}
use Rattle.tpl_token.specs.Characters.{begins, first_is, is_other}
use Rattle.tpl_token.specs.Texts.{bytes_before}

-- how a choice came out
pub split : {A P : Type 0} (b : Bool) {x y z : A} → cond b x y ≡ z → (b ≡ true → x ≡ z → P) → (b ≡ false → y ≡ z → P) → P
split true e f g = f refl e
split false e f g = g refl e

-- either way
pub either : {P : Type 0} (b : Bool) → (b ≡ true → P) → (b ≡ false → P) → P
either true f g = f refl
either false f g = g refl

pub both : (a b : Bool) → (a && b) ≡ true → (a ≡ true) × (b ≡ true)
both true b e = (refl, e)
both false b e = absurd (true≢false (sym e))

-- bytes that begin with a mark are the mark and a rest
pub begins-is : (mark bytes : List ℕ) → begins mark bytes ≡ true → bytes ≡ mark ++ drop (length mark) bytes
begins-is mark bytes e = sym (take-append-drop (length mark) bytes) ∙ ap (λ (xs : List ℕ). xs ++ drop (length mark) bytes) (sym ((bytes_eq-Decides mark (take (length mark) bytes)).0 e))

pub begins-from : (mark bytes more : List ℕ) → bytes ≡ mark ++ more → begins mark bytes ≡ true
begins-from mark bytes more e = (bytes_eq-Decides mark (take (length mark) bytes)).1 (sym (ap (take (length mark)) e ∙ take_at mark more (length mark) refl))

pub begins-length : (mark bytes : List ℕ) → begins mark bytes ≡ true → length mark ≤ length bytes
begins-length mark bytes e = omega (arith, ap length (begins-is mark bytes e), length-append mark (drop (length mark) bytes))

pub heads : {A : Type 0} {x y : A} {xs ys : List A} → x ∷ xs ≡ y ∷ ys → x ≡ y
heads e = cc

pub no_cons : {A : Type 0} {x : A} {xs : List A} → x ∷ xs ≡ [] → ⊥
no_cons e = cc

pub tails : {A : Type 0} {x y : A} {xs ys : List A} → x ∷ xs ≡ y ∷ ys → xs ≡ ys
tails e = cc

pub tells : (b c : ℕ) → nat_eq b c ≡ true → b ≡ c
tells b c e = grind (arith, nat_tests)

-- a mark of one byte
pub not_first : (c b : ℕ) (bs : List ℕ) → begins (c ∷ []) (b ∷ bs) ≡ false → nat_eq b c ≡ false
not_first c b bs e = either (nat_eq b c)
    (λ t. let same : b ≡ c = grind (arith, nat_tests) in absurd (true≢false (sym (begins-from (c ∷ []) (b ∷ bs) bs (ap (λ (x : ℕ). x ∷ bs) same)) ∙ e)))
    (λ f. f)

pub no_mark : (bytes : List ℕ) → first_is (λ b. b == 46) bytes ≡ false → begins (codes ".") bytes ≡ false
no_mark [] e = refl
no_mark (b ∷ bs) e = either (begins (codes ".") (b ∷ bs))
    (λ t. let same : b ≡ 46 = heads (begins-is (codes ".") (b ∷ bs) t) in absurd (true≢false (sym (ap (λ (x : ℕ). x == 46) same) ∙ e)))
    (λ f. f)

pub no_dot : (bytes : List ℕ) → begins (codes ".") bytes ≡ false → first_is (λ b. b == 46) bytes ≡ false
no_dot [] e = refl
no_dot (b ∷ bs) e = not_first 46 b bs e

pub one_more : (n : ℕ) → 1 + n ≡ suc n
one_more n = omega arith

pub longer : (n : ℕ) → n + 1 ≡ suc n
longer n = omega arith

-- the byte after a run does not pass
pub run_stops : (p : ℕ → Bool) (bytes : List ℕ) → first_is p (drop (prefix_len p bytes) bytes) ≡ false
run_stops p [] = refl
run_stops p (b ∷ bs) = either (p b) (λ t. rw (t, one_more (prefix_len p bs)) (run_stops p bs)) (λ f. rw f f)

pub stops_at : (p : ℕ → Bool) (text : List ℕ) (at run : ℕ) → run ≡ prefix_len p (drop at text) → first_is p (drop (at + run) text) ≡ false
stops_at p text at run is = ap (first_is p) (sym (drop-drop run at text) ∙ ap (λ (n : ℕ). drop n (drop at text)) is) ∙ run_stops p (drop at text)

-- a run is all of some bytes that pass, before one that does not
pub run-is : (p : ℕ → Bool) (front more : List ℕ) → list_all p front ≡ true → first_is p more ≡ false → prefix_len p (front ++ more) ≡ length front
run-is p [] [] all stops = refl
run-is p [] (m ∷ more) all stops = rw stops refl
run-is p (b ∷ front) more all stops =
    let h = both (p b) (list_all p front) all in
    rw (h.0, run-is p front more h.1 stops) (omega arith)

-- a run passes
pub run_passes : (p : ℕ → Bool) (bytes : List ℕ) → list_all p (take (prefix_len p bytes) bytes) ≡ true
run_passes p [] = refl
run_passes p (b ∷ bs) = either (p b) (λ t. rw (t, one_more (prefix_len p bs)) (rw t (run_passes p bs))) (λ f. rw f refl)

pub before_here : (mark bytes : List ℕ) → begins mark bytes ≡ true → bytes_before mark bytes ≡ 0
before_here mark [] e = refl
before_here mark (b ∷ bs) e = rw e refl

pub before_next : (mark bytes : List ℕ) → 0 < length bytes → begins mark bytes ≡ false → bytes_before mark bytes ≡ 1 + bytes_before mark (drop 1 bytes)
before_next mark [] some e = absurd (omega arith)
before_next mark (b ∷ bs) some e = rw e refl

other_first : (first : ℕ) (mark : List ℕ) (b : ℕ) (bs : List ℕ) → nat_eq b first ≡ false → begins (first ∷ mark) (b ∷ bs) ≡ false
other_first first mark b bs f = either (begins (first ∷ mark) (b ∷ bs))
    (λ t. let same : b ≡ first = heads (begins-is (first ∷ mark) (b ∷ bs) t) in let e : nat_eq b first ≡ true = grind (arith, nat_tests) in absurd (true≢false (sym e ∙ f)))
    (λ f. f)

-- what is no mark's first byte is before it
pub before_run : (first : ℕ) (mark bytes : List ℕ) (run : ℕ) → run ≡ prefix_len (is_other first) bytes → bytes_before (first ∷ mark) bytes ≡ run + bytes_before (first ∷ mark) (drop run bytes)
before_run first mark [] run is = rw is refl
before_run first mark (b ∷ bs) run is = either (b == first)
    (λ t. let none : run ≡ 0 = is ∙ rw t refl in rw none (omega arith))
    (λ f. let next : run ≡ suc (prefix_len (is_other first) bs) = is ∙ rw f (one_more (prefix_len (is_other first) bs)) in
    let no : begins (first ∷ mark) (b ∷ bs) ≡ false = other_first first mark b bs f in
    rw (next, no) (omega (arith, before_run first mark bs (prefix_len (is_other first) bs) refl)))

pub before_from : (mark bytes : List ℕ) (run : ℕ) → 0 < length mark → run ≡ prefix_len (is_other (get_or mark 0 0)) bytes → bytes_before mark bytes ≡ run + bytes_before mark (drop run bytes)
before_from [] bytes run some is = absurd (omega (arith, some))
before_from (first ∷ mark) bytes run some is = before_run first mark bytes run is

pub before_nothing : (mark bytes : List ℕ) → length bytes ≡ 0 → bytes_before mark bytes ≡ 0
before_nothing mark [] e = refl
before_nothing mark (b ∷ bs) e = absurd (omega (arith, e))
