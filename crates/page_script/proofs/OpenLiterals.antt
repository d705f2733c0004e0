-- The literals that are open, as the code keeps them: at the end of 16 places.
use Rattle.std.proofs.Common.{◌≡◌, ◌≢◌, ◌∙◌, ◌⊎◌, inl, inr, ℕ, zero, suc, ◌+◌, ◌-◌, ◌<◌, ◌≤◌, nat_le, get_or, set, drop, length, List, [], ◌∷◌, true, false, refl, sym, ap, subst, arith}
use Rattle.std.proofs.lemmas.Bool.{cases_order, le-leb}
use Rattle.std.proofs.lemmas.List.{length-drop, drop-set, drop_all, drop_more, get_or-set_same, get_or-set_other}
use Rattle.js_lexer.specs.States.{NoEscape, Code, InTemplate, TooDeep, point}
use Rattle.js_lexer.specs.Steps.{max_literals, literal_opens, literal_ends, brace_opens, brace_closes}
use Rattle.js_lexer.specs.Trails.{is_empty}
use Rattle.js_lexer.specs.declared.sense.Sense.TheVariants as sense
use Rattle.page_script.specs.ReadViews.{BracesFit}
use Rattle.page_script.specs.declared.point.ReadLiterals.{ReadLiterals}

-- whether one is open
pub none-open : (xs : List ℕ) (i : ℕ) → length xs ≡ 16 → 16 ≤ i → is_empty (drop i xs) ≡ true
none-open xs i e h = rw (drop_all i xs (omega (arith, e, h))) refl

pub some-open : (xs : List ℕ) (i : ℕ) → length xs ≡ 16 → i < 16 → is_empty (drop i xs) ≡ false
some-open xs i e h = rw (drop_more xs i 0 (omega (arith, e, h))) refl

-- one more
pub opened-first : (xs : List ℕ) → length xs ≡ 16 → literal_opens (nat_le (suc (length xs)) max_literals) xs ≡ point xs TooDeep
opened-first xs e = rw e refl

pub opened-more : (xs : List ℕ) (i : ℕ) → length xs ≡ 16 → 0 < i → i < 16
    → literal_opens (nat_le (suc (length (drop i xs))) max_literals) (drop i xs) ≡ point (drop (i - 1) (set xs (i - 1) 0)) (InTemplate NoEscape false)
opened-more xs i e h k =
    let long = length-drop i xs in
    let fits : nat_le (suc (length (drop i xs))) 16 ≡ true = le-leb (suc (length (drop i xs))) 16 (omega (arith, long, e, h, k)) in
    let back : (i - 1) + 1 ≡ i = omega (arith, h) in
    let rest : drop (i - 1) (set xs (i - 1) 0) ≡ 0 ∷ drop i xs =
    drop-set xs (i - 1) 0 (omega (arith, e, h, k)) ∙ ap (λ n. 0 ∷ drop n xs) back in
    rw (fits, rest) refl

pub opened-none : (xs : List ℕ) (i : ℕ) → length xs ≡ 16 → 16 ≤ i
    → literal_opens (nat_le (suc (length (drop i xs))) max_literals) (drop i xs) ≡ point (drop 15 (set xs 15 0)) (InTemplate NoEscape false)
opened-none xs i e h =
    let rest : drop 15 (set xs 15 0) ≡ 0 ∷ [] = drop-set xs 15 0 (omega (arith, e)) ∙ ap (λ (ys : List ℕ). 0 ∷ ys) (drop_all 16 xs (omega (arith, e))) in
    rw (drop_all i xs (omega (arith, e, h)), rest) refl

-- one less
pub ended-some : (xs : List ℕ) (i : ℕ) → length xs ≡ 16 → i < 16 → literal_ends (drop i xs) ≡ point (drop (i + 1) xs) (Code sense.Div)
ended-some xs i e h = rw (drop_more xs i 0 (omega (arith, e, h))) refl

pub ended-none : (xs : List ℕ) (i : ℕ) → length xs ≡ 16 → 16 ≤ i → literal_ends (drop i xs) ≡ point (drop i xs) (Code sense.Div)
ended-none xs i e h = rw (drop_all i xs (omega (arith, e, h))) refl

-- braces
pub brace-none : (xs : List ℕ) (i : ℕ) → length xs ≡ 16 → 16 ≤ i → brace_opens (drop i xs) ≡ drop i xs
brace-none xs i e h = rw (drop_all i xs (omega (arith, e, h))) refl

plus-one : (n : ℕ) → n + 1 ≡ suc n
plus-one n = omega arith

pub brace-more : (xs : List ℕ) (i : ℕ) → length xs ≡ 16 → i < 16 → brace_opens (drop i xs) ≡ drop i (set xs i (get_or xs i 0 + 1))
brace-more xs i e h =
    rw (drop_more xs i 0 (omega (arith, e, h)), drop-set xs i (get_or xs i 0 + 1) (omega (arith, e, h)))
    (ap (λ n. n ∷ drop (i + 1) xs) (sym (plus-one (get_or xs i 0))))

pub closed-none : (xs : List ℕ) (i : ℕ) → length xs ≡ 16 → 16 ≤ i → brace_closes (drop i xs) ≡ point (drop i xs) (Code sense.Brace)
closed-none xs i e h = rw (drop_all i xs (omega (arith, e, h))) refl

closes-zero : (n : ℕ) (ys : List ℕ) → n ≡ 0 → brace_closes (n ∷ ys) ≡ point (n ∷ ys) (InTemplate NoEscape false)
closes-zero n ys e = rw e refl

pub closed-code : (xs : List ℕ) (i : ℕ) → length xs ≡ 16 → i < 16 → get_or xs i 0 ≡ 0 → brace_closes (drop i xs) ≡ point (drop i xs) (InTemplate NoEscape false)
closed-code xs i e h z = rw (drop_more xs i 0 (omega (arith, e, h))) (closes-zero (get_or xs i 0) (drop (i + 1) xs) z)

minus-one : (n : ℕ) → n ≡ suc n - 1
minus-one n = omega arith

closes-suc : (n : ℕ) (ys : List ℕ) → 0 < n → brace_closes (n ∷ ys) ≡ point ((n - 1) ∷ ys) (Code sense.Brace)
closes-suc zero ys h = absurd (omega (arith, h))
closes-suc (suc n) ys h = ap (λ m. point (m ∷ ys) (Code sense.Brace)) (minus-one n)

pub closed-brace : (xs : List ℕ) (i : ℕ) → length xs ≡ 16 → i < 16 → 0 < get_or xs i 0
    → brace_closes (drop i xs) ≡ point (drop i (set xs i (get_or xs i 0 - 1))) (Code sense.Brace)
closed-brace xs i e h z =
    rw (drop_more xs i 0 (omega (arith, e, h)), drop-set xs i (get_or xs i 0 - 1) (omega (arith, e, h)))
    (closes-suc (get_or xs i 0) (drop (i + 1) xs) z)

-- no more braces than that many
apart : (i j : ℕ) → (i < j) ⊎ (j < i) → j ≢ i
apart i j (inl h) e = omega (arith, h, e)
apart i j (inr h) e = omega (arith, h, e)

set-fits : (xs : List ℕ) (i j v k : ℕ) → i < length xs → ((m : ℕ) → get_or xs m 0 ≤ k) → v ≤ k → get_or (set xs i v) j 0 ≤ k
set-fits xs i j v k l h n = elim (cases_order i j) [
  | inl e ↦ subst (λ (m : ℕ). get_or (set xs i v) m 0 ≤ k) e (subst (λ (m : ℕ). m ≤ k) (sym (get_or-set_same xs i v 0 l)) n)
  | inr o ↦ subst (λ (m : ℕ). m ≤ k) (sym (get_or-set_other xs i j v 0 (apart i j o))) (h j)
]

pub fits-more : (k l : ℕ) (x : ReadLiterals) → BracesFit k x → k ≤ l → BracesFit l x
fits-more k l x h i = record { fit = λ m. omega (arith, h.fit m, i) }

pub fits-set : (k l i v f : ℕ) (x : ReadLiterals) → i < length x.braces → BracesFit k x → k ≤ l → v ≤ l → BracesFit l (record { braces = set x.braces i v; free = f })
fits-set k l i v f x n h o p = record { fit = λ m. set-fits x.braces i m v l n (λ q. omega (arith, h.fit q, o)) p }

pub fits-free : (k f : ℕ) (x : ReadLiterals) → BracesFit k x → BracesFit k (record { braces = x.braces; free = f })
fits-free k f x h = record { fit = h.fit }

pub ruleset literal_rules = (none-open, some-open, opened-first, opened-more, opened-none, ended-some, ended-none, brace-none, brace-more, closed-none, closed-code, closed-brace, fits-more, fits-set, fits-free)
