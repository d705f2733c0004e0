-- Behind the first bytes of characters, past the first character.
use Rattle.std.proofs.Common.{◌≡◌, ◌∙◌, ◌≤◌, ◌+◌, ◌-◌, ◌++◌, ℕ, length, take, List, [], ◌∷◌, refl, sym, ap, arith}
use Rattle.std.specs.Prelude.{encode_utf8}
use Rattle.std.proofs.Math.Seq.{take-append-add}
use Rattle.js_step.specs.ScriptCharacters.{ScriptRead, script_read_behind, script_read_next, script_scalar, script_text_bytes}

read-append : (bs rest : List ℕ) (x : ScriptRead) → script_read_behind x (bs ++ rest) ≡ script_read_behind (script_read_behind x bs) rest
read-append [] rest x = refl
read-append (b ∷ bs) rest x = read-append bs rest (script_read_next x b)

take-past : (bs rest : List ℕ) (n : ℕ) → length bs ≤ n → take n (bs ++ rest) ≡ bs ++ take (n - length bs) rest
take-past bs rest n h =
    let e : n ≡ length bs + (n - length bs) = omega (arith, h) in
    ap (λ (k : ℕ). take k (bs ++ rest)) e ∙ take-append-add bs rest (n - length bs)

read-past : (bs rest : List ℕ) (n : ℕ) (x : ScriptRead) → length bs ≤ n
    → script_read_behind x (take n (bs ++ rest)) ≡ script_read_behind (script_read_behind x bs) (take (n - length bs) rest)
read-past bs rest n x h = ap (script_read_behind x) (take-past bs rest n h) ∙ read-append bs (take (n - length bs) rest) x

-- past the character `d` that the code has of the first one
pub read_past : (n k d : ℕ) (c : ℕ × ℕ) (cs ds : List (ℕ × ℕ)) (x y : ScriptRead) → y ≡ script_read_behind x (encode_utf8 d) → d ≡ script_scalar c.0
    → k ≡ length (encode_utf8 d) → k ≤ n → ds ≡ c ∷ cs
    → script_read_behind y (take (n - k) (script_text_bytes cs)) ≡ script_read_behind x (take n (script_text_bytes ds))
read_past n k d c cs ds x y e f g h i =
    let rest = script_text_bytes cs in
    let bs = encode_utf8 d in
    ap (λ (z : ScriptRead). script_read_behind z (take (n - k) rest)) e
    ∙ (ap (λ (j : ℕ). script_read_behind (script_read_behind x bs) (take (n - j) rest)) g
    ∙ (sym (read-past bs rest n x (omega (arith, g, h)))
    ∙ (ap (λ (j : ℕ). script_read_behind x (take n (encode_utf8 j ++ rest))) f
    ∙ ap (λ (z : List (ℕ × ℕ)). script_read_behind x (take n (script_text_bytes z))) (sym i))))
