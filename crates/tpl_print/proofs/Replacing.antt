-- Where a mark stands in bytes, and where none does.
use Rattle.std.proofs.Common.{◌≡◌, ◌≢◌, ℕ, suc, ◌<◌, true, false, List, [], ◌∷◌, ◌++◌, length, get_or, nat_eq, refl, sym, ap, ◌∙◌, arith, append_assoc, Result, Ok, Err, OnOk}
use Rattle.std.proofs.lemmas.Bool.Decides.{nat_tests}
use Rattle.tpl_print.specs.Replaced.{replaced_bytes}

-- the mark is not among the bytes
abbrev pub Lacks : ℕ → List ℕ → Type 0
Lacks mark bytes = (i : ℕ) → i < length bytes → get_or bytes i 0 ≢ mark

other : (b mark : ℕ) → b ≢ mark → nat_eq b mark ≡ false
other b mark apart = grind (arith, nat_tests)

pub replaced-front : (mark : ℕ) (by : List ℕ → List ℕ) (front more : List ℕ) → Lacks mark front → replaced_bytes mark by (front ++ more) ≡ front ++ replaced_bytes mark by more
replaced-front mark by [] more lacks = refl
replaced-front mark by (b ∷ bs) more lacks =
    let f : nat_eq b mark ≡ false = other b mark (lacks 0 (omega arith)) in
    rw f (ap (λ (xs : List ℕ). b ∷ xs) (replaced-front mark by bs more (λ i inside. lacks (suc i) (omega arith))))

pub replaced-mark : (mark : ℕ) (by : List ℕ → List ℕ) (more : List ℕ) → replaced_bytes mark by (mark ∷ more) ≡ by more ++ replaced_bytes mark by more
replaced-mark mark by more =
    let t : nat_eq mark mark ≡ true = grind (arith, nat_tests) in
    rw t refl

-- the bytes up to and with the first mark are pushed
pub replaced_more : (mark : ℕ) (by : List ℕ → List ℕ) (front rest left old pushed new whole : List ℕ) → left ≡ front ++ (mark ∷ rest) → Lacks mark front
    → old ++ replaced_bytes mark by left ≡ whole → pushed ≡ old ++ front → new ≡ pushed ++ by rest → new ++ replaced_bytes mark by rest ≡ whole
replaced_more mark by front rest left old pushed new whole is lacks before first second =
    ap (λ (xs : List ℕ). xs ++ replaced_bytes mark by rest) (second ∙ ap (λ (xs : List ℕ). xs ++ by rest) first)
    ∙ append_assoc (old ++ front) (by rest) (replaced_bytes mark by rest)
    ∙ append_assoc old front (by rest ++ replaced_bytes mark by rest)
    ∙ ap (λ (xs : List ℕ). old ++ (front ++ xs)) (sym (replaced-mark mark by rest))
    ∙ ap (λ (xs : List ℕ). old ++ xs) (sym (replaced-front mark by front (mark ∷ rest) lacks))
    ∙ ap (λ (xs : List ℕ). old ++ replaced_bytes mark by xs) (sym is)
    ∙ before

-- there is no mark any more
pub replaced_last : (mark : ℕ) (by : List ℕ → List ℕ) (left : List ℕ) → Lacks mark left → replaced_bytes mark by left ≡ left
replaced_last mark by [] lacks = refl
replaced_last mark by (b ∷ bs) lacks =
    let f : nat_eq b mark ≡ false = other b mark (lacks 0 (omega arith)) in
    rw f (ap (λ (xs : List ℕ). b ∷ xs) (replaced_last mark by bs (λ i inside. lacks (suc i) (omega arith))))

-- where a result is no error, another fact holds too
pub on_ok : {T E A B : Type 0} (r : Result T E) → OnOk r A → (A → B) → OnOk r B
on_ok (Ok x) h f = f h
on_ok (Err e) h f = h
