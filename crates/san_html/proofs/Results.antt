-- What holds of what a table writes for the characters of a text holds of the text that a call gives.
use Rattle.std.proofs.Common.{◌≡◌, ℕ, List, Result, Ok, Err, IfOk, IsUtf8, sym, subst}
use Rattle.std.specs.Str.{encode_utf8_all}
use Rattle.esc_table.specs.Rows.{EscapeRow}
use Rattle.esc_table.specs.Replaced.{replaced, replaced_all}
use Rattle.esc_table.proofs.Runs.{replaced-encodes}

pub for-text : (P : List ℕ → List ℕ → Type 0) (rows : List EscapeRow) → ((cs : List ℕ) → P (encode_utf8_all cs) (replaced_all rows cs)) → (text : List ℕ) → IsUtf8 text → P text (replaced rows text)
for-text P rows all text u =
    subst (λ (bytes : List ℕ). P bytes (replaced rows bytes)) u.1.1
    (subst (P (encode_utf8_all u.0)) (sym (replaced-encodes rows u.0 u.1.0)) (all u.0))

-- what holds of the text that a call writes holds of its result
pub for-result : {E : Type 0} (P : List ℕ → Type 0) (written : List ℕ) → P written → (result : Result (List ℕ) E) → IfOk result (λ bytes. bytes ≡ written) → IfOk result P
for-result P written p (Ok bytes) e = subst P (sym e) p
for-result P written p (Err r) e = tt
