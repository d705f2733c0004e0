-- A token of an action is found where it stands.
use Rattle.std.proofs.Common.{◌≡◌, ℕ, suc, ◌+◌, ◌<◌, true, false, inl, inr, List, [], ◌∷◌, ◌++◌, length, take, drop, Some, Ok, ℤ, nat_eq, ◌==◌, nat_lt, refl, sym, ap, ◌∙◌, subst, arith, append_assoc, append-nil, true≢false, codes}
use Rattle.std.proofs.lemmas.Bool.Decides.{nat_tests}
use Rattle.std.proofs.lemmas.List.{take_at, drop_at, length-append}
use Rattle.std.specs.Char.{is_ascii_digit}
use Rattle.std.specs.List.{list_all, prefix_len}
use Rattle.tpl_token.specs.Characters.{begins, first_is, is_name_byte, is_word_byte, is_word_start}
use Rattle.tpl_token.specs.Lexemes.{IsLexeme}
use Rattle.tpl_token.specs.Numbers.{number}
use Rattle.tpl_token.specs.Scanning.{lexeme_at, quoted, ended, string_found, raw_found, raw_len, without_returns, number_found, number_read, number_len, name_len}
use Rattle.tpl_token.specs.Strings.{IsQuoted, IsRaw, is_raw, spelling}
use Rattle.tpl_token.specs.declared.token.TokenKind.{TokenKind}
use Rattle.tpl_token.specs.declared.token.TokenKind.TheVariants as kind
use Rattle.tpl_token.proofs.Marks.{both, longer, no_mark, run-is}
use Rattle.tpl_token.proofs.NumberLaws.{number_digital, number_len-is, number_begins, number_no_word}
use Rattle.tpl_token.proofs.StringLaws.{parts_read}

-- found, at this offset, with this length
abbrev Finds : TokenKind → ℕ → List ℕ → ℕ → Type 0
Finds what at bytes n = lexeme_at at bytes ≡ Ok (what, n)

name_some : (name : List ℕ) → is_name_byte name ≡ true → 0 < length name
name_some [] e = absurd (true≢false (sym e))
name_some (b ∷ bs) e = omega arith

-- the run of a name
name_run : (name rest : List ℕ) → is_name_byte name ≡ true → first_is is_word_byte rest ≡ false → (first_is is_word_start (name ++ rest) ≡ true) × (prefix_len is_word_byte (name ++ rest) ≡ length name)
name_run [] rest named ends = absurd (true≢false (sym named))
name_run (b ∷ bs) rest named ends =
    let h = both (is_word_start b) (list_all is_word_byte (b ∷ bs)) named in
    (h.0, run-is is_word_byte (b ∷ bs) rest h.1 ends)

name_len-is : (name rest : List ℕ) → is_name_byte name ≡ true → first_is is_word_byte rest ≡ false → name_len (name ++ rest) ≡ length name
name_len-is name rest named ends = let h = name_run name rest named ends in rw (h.0, h.1) refl

-- what is no letter, digit or `_` begins no name
no_name : (rest : List ℕ) → first_is is_word_start rest ≡ false → name_len rest ≡ 0
no_name rest e = rw e refl

word_start_first : (rest : List ℕ) → first_is is_word_byte rest ≡ false → (first_is is_word_start rest ≡ false) × (first_is is_ascii_digit rest ≡ false)
word_start_first [] e = (refl, refl)
word_start_first (b ∷ bs) e = ((let h : is_word_start b ≡ false = grind (arith, nat_tests) in h), (let h : is_ascii_digit b ≡ false = grind (arith, nat_tests) in h))

no_digit : (bytes : List ℕ) → first_is is_word_start bytes ≡ true → first_is is_ascii_digit bytes ≡ false
no_digit [] e = refl
no_digit (b ∷ bs) e = let h : is_ascii_digit b ≡ false = grind (arith, nat_tests) in h

finds_name : (at : ℕ) (bytes rest : List ℕ) → is_name_byte bytes ≡ true → first_is is_word_byte rest ≡ false → Finds kind.Name at (bytes ++ rest) (length bytes)
finds_name at bytes rest named ends = let h = name_run bytes rest named ends in rw (h.0, h.1) refl

finds_field : (at : ℕ) (name rest : List ℕ) → is_name_byte name ≡ true → first_is is_word_byte rest ≡ false → Finds kind.Field at (46 ∷ (name ++ rest)) (suc (length name))
finds_field at name rest named ends =
    let h = name_run name rest named ends in
    let digit = no_digit (name ++ rest) h.0 in
    let some = name_some name named in
    let not_none : nat_eq (length name) 0 ≡ false = grind (arith, nat_tests) in
    rw (digit, h.0, h.1, not_none) (ap (λ (n : ℕ). Ok (kind.Field, n)) (longer (length name)))

finds_dot : (at : ℕ) (rest : List ℕ) → first_is is_word_byte rest ≡ false → Finds kind.Dot at (46 ∷ rest) 1
finds_dot at rest ends = let h = word_start_first rest ends in rw (h.1, h.0) refl

finds_variable : (at : ℕ) (name rest : List ℕ) → is_name_byte name ≡ true → first_is is_word_byte rest ≡ false → Finds kind.Variable at (36 ∷ (name ++ rest)) (suc (length name))
finds_variable at name rest named ends = let h = name_run name rest named ends in rw (h.0, h.1) (ap (λ (n : ℕ). Ok (kind.Variable, n)) (longer (length name)))

finds_dollar : (at : ℕ) (rest : List ℕ) → first_is is_word_start rest ≡ false → Finds kind.Variable at (36 ∷ rest) 1
finds_dollar at rest ends = rw ends refl

finds_number : (at : ℕ) (n : ℤ) (bytes rest : List ℕ) → number bytes ≡ Some n → first_is is_word_byte rest ≡ false → first_is (λ b. b == 46) rest ≡ false → Finds (kind.Number n) at (bytes ++ rest) (length bytes)
finds_number at n bytes rest e ends no_dot =
    let shape = number_digital bytes n e in
    let len = number_len-is bytes rest shape ends in
    let after : drop (number_len (bytes ++ rest)) (bytes ++ rest) ≡ rest = ap (λ (i : ℕ). drop i (bytes ++ rest)) len ∙ drop_at bytes rest (length bytes) refl in
    let front : take (number_len (bytes ++ rest)) (bytes ++ rest) ≡ bytes = ap (λ (i : ℕ). take i (bytes ++ rest)) len ∙ take_at bytes rest (length bytes) refl in
    let dot : begins (codes ".") (drop (number_len (bytes ++ rest)) (bytes ++ rest)) ≡ false = ap (begins (codes ".")) after ∙ no_mark rest no_dot in
    let reads : number_found at (bytes ++ rest) ≡ Ok (kind.Number n, length bytes) =
    rw dot (ap (number_read at (number_len (bytes ++ rest))) (ap number front ∙ e) ∙ ap (λ (i : ℕ). Ok (kind.Number n, i)) len) in
    rw (number_no_word bytes rest shape, number_begins bytes rest shape) reads

finds_quoted : (at : ℕ) (bytes value rest : List ℕ) → IsQuoted bytes value → Finds (kind.Str value) at (bytes ++ rest) (length bytes)
finds_quoted at bytes value rest q =
    let inner = spelling q.parts in
    let text : bytes ++ rest ≡ 34 ∷ (inner ++ 34 ∷ rest) = ap (λ (xs : List ℕ). xs ++ rest) q.spelled ∙ ap (λ (xs : List ℕ). 34 ∷ xs) (append_assoc inner (34 ∷ []) rest) in
    let len : length inner + 1 + 1 ≡ length bytes = omega (arith, ap length q.spelled, length-append inner (34 ∷ [])) in
    let reads : quoted 0 (inner ++ 34 ∷ rest) ≡ ended value (length inner + 1) = parts_read q.parts value (34 ∷ rest) q.mean ∙ ap (λ (v : List ℕ). ended v (length inner + 1)) (append-nil value) in
    ap (lexeme_at at) text ∙ ap (string_found at) reads ∙ ap (λ (n : ℕ). Ok (kind.Str value, n)) len

finds_raw : (at : ℕ) (bytes value rest : List ℕ) → IsRaw bytes value → Finds (kind.Str value) at (bytes ++ rest) (length bytes)
finds_raw at bytes value rest r =
    let body = r.inner ++ 96 ∷ rest in
    let text : bytes ++ rest ≡ 96 ∷ body = ap (λ (xs : List ℕ). xs ++ rest) r.spelled ∙ ap (λ (xs : List ℕ). 96 ∷ xs) (append_assoc r.inner (96 ∷ []) rest) in
    let run : raw_len body ≡ length r.inner = run-is is_raw r.inner (96 ∷ rest) r.no_backquote refl in
    let len : length r.inner + 2 ≡ length bytes = omega (arith, ap length r.spelled, length-append r.inner (96 ∷ [])) in
    let inside : nat_lt (raw_len body) (length body) ≡ true = let h : raw_len body < length body = omega (arith, run, length-append r.inner (96 ∷ rest)) in grind (arith, nat_tests) in
    let copy : without_returns (take (raw_len body) body) ≡ value = ap (λ (n : ℕ). without_returns (take n body)) run ∙ ap without_returns (take_at r.inner (96 ∷ rest) (length r.inner) refl) ∙ sym r.means in
    let reads : raw_found at body ≡ Ok (kind.Str value, length bytes) = rw inside (ap (λ (v : List ℕ). Ok (kind.Str v, raw_len body + 2)) copy ∙ ap (λ (n : ℕ). Ok (kind.Str value, n)) (ap (λ (n : ℕ). n + 2) run ∙ len)) in
    ap (lexeme_at at) text ∙ reads

-- the same where the bytes are known
moved : (what : TokenKind) (at : ℕ) (bytes known rest : List ℕ) → bytes ≡ known → Finds what at (known ++ rest) (length known) → Finds what at (bytes ++ rest) (length bytes)
moved what at bytes known rest is h = subst (λ (xs : List ℕ). Finds what at (xs ++ rest) (length xs)) (sym is) h

-- A token is found where it stands.
pub lexeme_found : (what : TokenKind) (at : ℕ) (bytes rest : List ℕ) → IsLexeme what bytes rest → lexeme_at at (bytes ++ rest) ≡ Ok (what, length bytes)
lexeme_found kind.Name at bytes rest h = finds_name at bytes rest h.0 h.1
lexeme_found kind.Field at bytes rest h = moved kind.Field at bytes (46 ∷ h.0) rest h.1 (finds_field at h.0 rest h.2 h.3)
lexeme_found kind.Dot at bytes rest h = moved kind.Dot at bytes (codes ".") rest h.0 (finds_dot at rest h.1)
lexeme_found kind.Variable at bytes rest (inl h) = moved kind.Variable at bytes (codes "$") rest h.0 (finds_dollar at rest h.1)
lexeme_found kind.Variable at bytes rest (inr h) = moved kind.Variable at bytes (36 ∷ h.0) rest h.1 (finds_variable at h.0 rest h.2 h.3)
lexeme_found (kind.Number n) at bytes rest h = finds_number at n bytes rest h.0 h.1 h.2
lexeme_found (kind.Str value) at bytes rest (inl h) = finds_quoted at bytes value rest h
lexeme_found (kind.Str value) at bytes rest (inr h) = finds_raw at bytes value rest h
lexeme_found kind.Declare at bytes rest h = moved kind.Declare at bytes (codes ":=") rest h refl
lexeme_found kind.Assign at bytes rest h = moved kind.Assign at bytes (codes "=") rest h refl
lexeme_found kind.Bar at bytes rest h = moved kind.Bar at bytes (codes "|") rest h refl
lexeme_found kind.Comma at bytes rest h = moved kind.Comma at bytes (codes ",") rest h refl
lexeme_found kind.Left at bytes rest h = moved kind.Left at bytes (codes "(") rest h refl
lexeme_found kind.Right at bytes rest h = moved kind.Right at bytes (codes ")") rest h refl
lexeme_found kind.Text at bytes rest h = absurd h
lexeme_found kind.Open at bytes rest h = absurd h
lexeme_found kind.Close at bytes rest h = absurd h
lexeme_found kind.Comment at bytes rest h = absurd h
