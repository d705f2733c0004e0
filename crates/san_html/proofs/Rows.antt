-- What holds of each row of a table, and of each character without a row, holds of what is written for any character.
use Rattle.std.proofs.Common.{◌≡◌, ℕ, ◌==◌, Bool, List, [], ◌∷◌, Option, None, Some, refl, sym, ap, subst, cond, encode_utf8, inl, inr, unwrap_or}
use Rattle.std.proofs.lemmas.Bool.{cases_Bool, eqb-true}
use Rattle.esc_table.specs.Rows.{EscapeRow, found}
use Rattle.esc_table.specs.Replaced.{row_written}

abbrev pub AllRows : (ℕ → List ℕ → Type 0) → List EscapeRow → Type 0
AllRows P [] = Unit {0}
AllRows P (r ∷ rs) = P r.character r.replacement × AllRows P rs

-- what is found
abbrev Is : (ℕ → List ℕ → Type 0) → ℕ → Option (List ℕ) → Type 0
Is P c None = Unit {0}
Is P c (Some bytes) = P c bytes

found-is : (P : ℕ → List ℕ → Type 0) (rows : List EscapeRow) (c : ℕ) → AllRows P rows → Is P c (found rows c)
found-is P [] c all = tt
found-is P (r ∷ rs) c all = elim (cases_Bool (r.character == c)) [
  | inl e ↦ subst (Is P c) (ap (λ (b : Bool). cond b (Some r.replacement) (found rs c)) (sym e)) (subst (λ (n : ℕ). P n r.replacement) (eqb-true r.character c e) all.0)
  | inr e ↦ subst (Is P c) (ap (λ (b : Bool). cond b (Some r.replacement) (found rs c)) (sym e)) (found-is P rs c all.1)
]

given : (P : ℕ → List ℕ → Type 0) (o : Option (List ℕ)) (c : ℕ) → Is P c o → (o ≡ None → P c (encode_utf8 c)) → P c (unwrap_or o (encode_utf8 c))
given P None c is own = own refl
given P (Some bytes) c is own = is

pub written-has : (P : ℕ → List ℕ → Type 0) (rows : List EscapeRow) (c : ℕ) → AllRows P rows → (found rows c ≡ None → P c (encode_utf8 c)) → P c (row_written rows c)
written-has P rows c all own = given P (found rows c) c (found-is P rows c all) own
