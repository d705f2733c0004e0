-- A text without a mark at its prefix.
use Rattle.std.proofs.Common.{codes, ◌++◌, inl, inr, ◌≡◌, ◌≢◌, ℕ, List, [], ◌∷◌, ◌==◌, refl, ap}
use Rattle.std.proofs.lemmas.Bool.{eqb-true}
use Rattle.tpl_symbol.specs.Kinds.{unmarked}
use Rattle.tpl_token.proofs.Marks.{either}
use Rattle.tpl_token.specs.Lexemes.{IsLexeme}
use Rattle.tpl_token.specs.declared.token.TokenKind.TheVariants as token

-- where the mark does not stand there, all of it is left
pub unmarked_none : (mark : ℕ) (bytes : List ℕ) → ((rest : List ℕ) → bytes ≢ mark ∷ rest) → bytes ≡ unmarked mark bytes
unmarked_none mark [] none = refl
unmarked_none mark (b ∷ bs) none = either (b == mark) (λ same. absurd (none bs (ap (λ (x : ℕ). x ∷ bs) (eqb-true b mark same)))) (λ other. rw other refl)

-- the bytes of a field are `.` and the name that is kept
pub field_name : (bytes rest : List ℕ) → IsLexeme token.Field bytes rest → bytes ≡ codes "." ++ unmarked 46 bytes
field_name bytes rest (name, is, word, ends) = rw is refl

-- the bytes of a variable are `$` and the name that is kept
pub variable_name : (bytes rest : List ℕ) → IsLexeme token.Variable bytes rest → bytes ≡ codes "$" ++ unmarked 36 bytes
variable_name bytes rest (inl (is, ends)) = rw is refl
variable_name bytes rest (inr (name, is, word, ends)) = rw is refl
