-- What is found at an offset of an action stands there, and where nothing is found, it is said what misses.
use Rattle.std.proofs.Common.{◌≡◌, ◌≢◌, ℕ, suc, ◌+◌, ◌<◌, ◌≤◌, Bool, true, false, ◌&&◌, ◌||◌, inl, inr, List, [], ◌∷◌, ◌++◌, length, take, drop, drop-cons, get_or, Option, Some, None, Ok, Err, ℤ, nat_eq, nat_lt, refl, sym, ap, ◌∙◌, subst, arith, append_assoc, true≢false, codes}
use Rattle.std.proofs.lemmas.Bool.Decides.{nat_tests}
use Rattle.std.proofs.lemmas.List.{take_at, drop-drop, length-append, take-append-drop, length-take-le}
use Rattle.std.proofs.lemmas.List.Sums.{prefix_len-le-length, prefix_len_stops}
use Rattle.std.specs.Char.{is_ascii_digit}
use Rattle.std.specs.List.{prefix_len}
use Rattle.tpl_token.specs.Characters.{begins, first_is, is_name_byte, is_word_byte, is_word_start}
use Rattle.tpl_token.specs.Lexemes.{IsLexeme}
use Rattle.tpl_token.specs.Numbers.{number}
use Rattle.tpl_token.specs.Refusals.{begins_number, begins_string, TokenMisses}
use Rattle.tpl_token.specs.Scanning.{Found, Quoted, ended, cut, bad, lexeme_at, mark_found, quoted, string_found, raw_found, raw_len, without_returns, number_found, number_read, number_len, name_len, dot_found}
use Rattle.tpl_token.specs.Strings.{is_raw, spelling}
use Rattle.tpl_token.specs.declared.token.TokenKind.{TokenKind}
use Rattle.tpl_token.specs.declared.token.TokenKind.TheVariants as kind
use Rattle.tpl_token.proofs.Marks.{split, either, begins-is, begins-length, run_passes, run_stops, one_more, longer, no_dot}
use Rattle.tpl_token.proofs.NumberLaws.{number_len-fits, number_ends}
use Rattle.tpl_token.proofs.StringLaws.{Says, says}

-- a token of this kind and length stands at the beginning
pub record IsFound (bytes : List ℕ) (x : TokenKind × ℕ) : Type 0 where
  pub lexeme : IsLexeme x.0 (take x.1 bytes) (drop x.1 bytes)
  pub fits : x.1 ≤ length bytes

-- what a search says
abbrev pub SaysLexeme : ℕ → List ℕ → Found → Type 0
SaysLexeme at bytes (Ok x) = IsFound bytes x
SaysLexeme at bytes (Err why) = TokenMisses why at bytes

name_taken : (bytes : List ℕ) → first_is is_word_start bytes ≡ true → is_name_byte (take (prefix_len is_word_byte bytes) bytes) ≡ true
name_taken [] e = absurd (true≢false (sym e))
name_taken (b ∷ bs) e =
    let word : is_word_byte b ≡ true = grind (arith, nat_tests) in
    rw (word, one_more (prefix_len is_word_byte bs)) (rw (e, word) (run_passes is_word_byte bs))

run_some : (bytes : List ℕ) → first_is is_word_start bytes ≡ true → 0 < prefix_len is_word_byte bytes
run_some [] e = absurd (true≢false (sym e))
run_some (b ∷ bs) e =
    let word : is_word_byte b ≡ true = grind (arith, nat_tests) in
    rw word (omega arith)

last_false : (a b c d : Bool) → (a || (b || (c && d))) ≡ false → c ≡ true → d ≡ false
last_false true b c d e t = absurd (true≢false e)
last_false false true c d e t = absurd (true≢false e)
last_false false false true d e t = e
last_false false false false d e t = absurd (true≢false (sym t))

-- what is no letter, `_` or digit is none of a word
no_word : (rest : List ℕ) → first_is is_word_start rest ≡ false → first_is is_ascii_digit rest ≡ false → first_is is_word_byte rest ≡ false
no_word [] e d = refl
no_word (b ∷ bs) e d = let h : is_word_byte b ≡ false = grind (arith, nat_tests) in h

says_name : (at : ℕ) (bytes : List ℕ) → first_is is_word_start bytes ≡ true → SaysLexeme at bytes (Ok (kind.Name, prefix_len is_word_byte bytes))
says_name at bytes e = record { lexeme = (name_taken bytes e, run_stops is_word_byte bytes); fits = prefix_len-le-length is_word_byte bytes }

says_number : (at : ℕ) (bytes : List ℕ) (o : Option ℤ) → begins_number bytes ≡ true → number (take (number_len bytes) bytes) ≡ o → begins (codes ".") (drop (number_len bytes) bytes) ≡ false → SaysLexeme at bytes (number_read at (number_len bytes) o)
says_number at bytes None begun e f = (refl, begun)
says_number at bytes (Some n) begun e f = record { lexeme = (e, number_ends bytes, no_dot (drop (number_len bytes) bytes) f); fits = number_len-fits bytes }

says_number_found : (at : ℕ) (bytes : List ℕ) (r : Found) → begins_number bytes ≡ true → number_found at bytes ≡ r → SaysLexeme at bytes r
says_number_found at bytes r begun e = split (begins (codes ".") (drop (number_len bytes) bytes)) e
    (λ t e. subst (SaysLexeme at bytes) e (refl, begun))
    (λ f e. subst (SaysLexeme at bytes) e (says_number at bytes (number (take (number_len bytes) bytes)) begun refl f))

says_string : (at : ℕ) (bytes : List ℕ) (q : Quoted) → bytes ≡ 34 ∷ drop 1 bytes → Says (drop 1 bytes) q → SaysLexeme at bytes (string_found at q)
says_string at bytes (ended value n) is h =
    let inner = spelling h.0 in
    let whole : List ℕ = 34 ∷ (inner ++ 34 ∷ []) in
    let text : bytes ≡ whole ++ h.1 = is ∙ ap (λ (xs : List ℕ). 34 ∷ xs) (h.2 ∙ sym (append_assoc inner (34 ∷ []) h.1)) in
    let len : length whole ≡ n + 1 = omega (arith, length-append inner (34 ∷ []), h.4) in
    let front : take (n + 1) bytes ≡ whole = ap (take (n + 1)) text ∙ take_at whole h.1 (n + 1) len in
    record {
      lexeme = inl (record { parts = h.0; spelled = front; mean = h.3 });
      fits = omega (arith, ap length text, length-append whole h.1, len);
    }
says_string at bytes cut is h = (refl, inl (record { parts = h.0; value = h.1; more = h.2; spelled = is ∙ ap (λ (xs : List ℕ). 34 ∷ xs) h.3; mean = h.4; cut = h.5 }))
says_string at bytes (bad n) is h = (1 + n, record { parts = h.0; value = h.1; more = h.2; spelled = is ∙ ap (λ (xs : List ℕ). 34 ∷ xs) h.3; mean = h.4; no_escape = h.5; offset = omega (arith, h.6) }, omega arith)

-- the backquote after a run
raw_body : (bs : List ℕ) → raw_len bs < length bs → bs ≡ take (raw_len bs) bs ++ 96 ∷ drop (raw_len bs + 1) bs
raw_body bs inside =
    let n = raw_len bs in
    let stops = prefix_len_stops is_raw bs 0 inside in
    let quote : get_or bs n 0 ≡ 96 = grind (arith, nat_tests) in
    sym (take-append-drop n bs) ∙ ap (λ (xs : List ℕ). take n bs ++ xs) (drop-cons bs n 0 inside ∙ ap (λ (x : ℕ). x ∷ drop (suc n) bs) quote ∙ ap (λ (i : ℕ). 96 ∷ drop i bs) (sym (longer n)))

raw_stands : (bytes : List ℕ) → raw_len (drop 1 bytes) < length (drop 1 bytes) → bytes ≡ 96 ∷ drop 1 bytes → IsFound bytes (kind.Str (without_returns (take (raw_len (drop 1 bytes)) (drop 1 bytes))), raw_len (drop 1 bytes) + 2)
raw_stands bytes inside is =
    let body = drop 1 bytes in
    let n = raw_len body in
    let inner = take n body in
    let more = drop (n + 1) body in
    let whole : List ℕ = 96 ∷ (inner ++ 96 ∷ []) in
    let text : bytes ≡ whole ++ more = is ∙ ap (λ (xs : List ℕ). 96 ∷ xs) (raw_body body inside ∙ sym (append_assoc inner (96 ∷ []) more)) in
    let long : length inner ≡ n = length-take-le n body (prefix_len-le-length is_raw body) in
    let len : length whole ≡ n + 2 = omega (arith, length-append inner (96 ∷ []), long) in
    record {
      lexeme = inr (record { inner = inner; spelled = ap (take (n + 2)) text ∙ take_at whole more (n + 2) len; no_backquote = run_passes is_raw body; means = refl });
      fits = omega (arith, ap length text, length-append whole more, len);
    }

says_raw : (at : ℕ) (bytes : List ℕ) (r : Found) → begins (codes "`") bytes ≡ true → raw_found at (drop 1 bytes) ≡ r → SaysLexeme at bytes r
says_raw at bytes r mark e = split (nat_lt (raw_len (drop 1 bytes)) (length (drop 1 bytes))) e
    (λ t e. subst (SaysLexeme at bytes) e (raw_stands bytes (let h : raw_len (drop 1 bytes) < length (drop 1 bytes) = grind (arith, nat_tests) in h) (begins-is (codes "`") bytes mark)))
    (λ f e. subst (SaysLexeme at bytes) e (refl, inr mark))

-- one byte and a run after it
front_is : (c n : ℕ) (bytes : List ℕ) → bytes ≡ c ∷ drop 1 bytes → take (n + 1) bytes ≡ c ∷ take n (drop 1 bytes)
front_is c n bytes is = ap (take (n + 1)) is ∙ ap (λ (i : ℕ). take i (c ∷ drop 1 bytes)) (longer n)

back_is : (n : ℕ) (bytes : List ℕ) → drop (n + 1) bytes ≡ drop n (drop 1 bytes)
back_is n bytes = ap (λ (i : ℕ). drop i bytes) (let e : n + 1 ≡ 1 + n = omega arith in e) ∙ sym (drop-drop n 1 bytes)

-- a name after one byte
named_behind : (c : ℕ) (bytes : List ℕ) → bytes ≡ c ∷ drop 1 bytes → first_is is_word_start (drop 1 bytes) ≡ true → (name_len (drop 1 bytes) ≡ prefix_len is_word_byte (drop 1 bytes)) × (is_name_byte (take (prefix_len is_word_byte (drop 1 bytes)) (drop 1 bytes)) ≡ true)
    × (first_is is_word_byte (drop (prefix_len is_word_byte (drop 1 bytes) + 1) bytes) ≡ false) × (prefix_len is_word_byte (drop 1 bytes) + 1 ≤ length bytes) × (0 < prefix_len is_word_byte (drop 1 bytes))
named_behind c bytes is t =
    let rest = drop 1 bytes in
    let n = prefix_len is_word_byte rest in (
      rw t refl,
      name_taken rest t,
      ap (first_is is_word_byte) (back_is n bytes) ∙ run_stops is_word_byte rest,
      omega (arith, prefix_len-le-length is_word_byte rest, ap length is),
      run_some rest t,
    )

-- a `.` with a name after it, or without
says_dot : (at : ℕ) (bytes : List ℕ) → begins (codes ".") bytes ≡ true → begins_number bytes ≡ false → SaysLexeme at bytes (Ok (dot_found (name_len (drop 1 bytes))))
says_dot at bytes mark number =
    let rest = drop 1 bytes in
    let is : bytes ≡ 46 ∷ rest = begins-is (codes ".") bytes mark in
    either (first_is is_word_start rest)
    (λ t. let n = prefix_len is_word_byte rest in
    let h = named_behind 46 bytes is t in
    let not_none : nat_eq n 0 ≡ false = let some = h.4 in grind (arith, nat_tests) in
    let found : dot_found (name_len rest) ≡ (kind.Field, n + 1) = ap dot_found h.0 ∙ rw not_none refl in
    subst (IsFound bytes) (sym found) (record { lexeme = (take n rest, front_is 46 n bytes is, h.1, h.2); fits = h.3 }))
    (λ f. let found : dot_found (name_len rest) ≡ (kind.Dot, 1) = rw f refl in
    let digit = last_false _ _ _ (first_is is_ascii_digit rest) number mark in
    subst (IsFound bytes) (sym found) (record { lexeme = (front_is 46 0 bytes is, no_word rest f digit); fits = omega (arith, ap length is) }))

says_variable : (at : ℕ) (bytes : List ℕ) → begins (codes "$") bytes ≡ true → SaysLexeme at bytes (Ok (kind.Variable, name_len (drop 1 bytes) + 1))
says_variable at bytes mark =
    let rest = drop 1 bytes in
    let is : bytes ≡ 36 ∷ rest = begins-is (codes "$") bytes mark in
    either (first_is is_word_start rest)
    (λ t. let n = prefix_len is_word_byte rest in
    let h = named_behind 36 bytes is t in
    subst (λ (k : ℕ). IsFound bytes (kind.Variable, k + 1)) (sym h.0) (record { lexeme = inr (take n rest, front_is 36 n bytes is, h.1, h.2); fits = h.3 }))
    (λ f. let none : name_len rest ≡ 0 = rw f refl in
    subst (λ (k : ℕ). IsFound bytes (kind.Variable, k + 1)) (sym none) (record { lexeme = inl (front_is 36 0 bytes is, f); fits = omega (arith, ap length is) }))

-- a token that is always the same
says_mark : (what : TokenKind) (at : ℕ) (mark bytes : List ℕ) → begins mark bytes ≡ true → ((rest : List ℕ) → IsLexeme what mark rest) → SaysLexeme at bytes (Ok (what, length mark))
says_mark what at mark bytes e is =
    let front : take (length mark) bytes ≡ mark = ap (take (length mark)) (begins-is mark bytes e) ∙ take_at mark (drop (length mark) bytes) (length mark) refl in
    record { lexeme = subst (λ (xs : List ℕ). IsLexeme what xs (drop (length mark) bytes)) (sym front) (is (drop (length mark) bytes)); fits = begins-length mark bytes e }

says_marks : (at : ℕ) (bytes : List ℕ) (r : Found) → bytes ≢ [] → begins_number bytes ≡ false → begins_string bytes ≡ false → mark_found at bytes ≡ r → SaysLexeme at bytes r
says_marks at bytes r some number string e =
    split (begins (codes ":=") bytes) e (λ t e. subst (SaysLexeme at bytes) e (says_mark kind.Declare at (codes ":=") bytes t (λ _. refl)))
    (λ _ e. split (begins (codes "=") bytes) e (λ t e. subst (SaysLexeme at bytes) e (says_mark kind.Assign at (codes "=") bytes t (λ _. refl)))
    (λ _ e. split (begins (codes "|") bytes) e (λ t e. subst (SaysLexeme at bytes) e (says_mark kind.Bar at (codes "|") bytes t (λ _. refl)))
    (λ _ e. split (begins (codes ",") bytes) e (λ t e. subst (SaysLexeme at bytes) e (says_mark kind.Comma at (codes ",") bytes t (λ _. refl)))
    (λ _ e. split (begins (codes "(") bytes) e (λ t e. subst (SaysLexeme at bytes) e (says_mark kind.Left at (codes "(") bytes t (λ _. refl)))
    (λ _ e. split (begins (codes ")") bytes) e (λ t e. subst (SaysLexeme at bytes) e (says_mark kind.Right at (codes ")") bytes t (λ _. refl)))
    (λ _ e. subst (SaysLexeme at bytes) e (refl, some, number, string)))))))

-- What is found stands there, and what misses is said.
pub says_lexeme : (at : ℕ) (bytes : List ℕ) → bytes ≢ [] → (r : Found) → lexeme_at at bytes ≡ r → SaysLexeme at bytes r
says_lexeme at bytes some r e =
    split (first_is is_word_start bytes) e (λ t e. subst (SaysLexeme at bytes) e (says_name at bytes t))
    (λ _ e. split (begins_number bytes) e (λ t e. says_number_found at bytes r t e)
    (λ number e. split (begins (codes "\"") bytes) e (λ t e. subst (SaysLexeme at bytes) e (says_string at bytes (quoted 0 (drop 1 bytes)) (begins-is (codes "\"") bytes t) (says (drop 1 bytes))))
    (λ quote e. split (begins (codes "`") bytes) e (λ t e. says_raw at bytes r t e)
    (λ raw e. split (begins (codes ".") bytes) e (λ t e. subst (SaysLexeme at bytes) e (says_dot at bytes t number))
    (λ _ e. split (begins (codes "$") bytes) e (λ t e. subst (SaysLexeme at bytes) e (says_variable at bytes t))
    (λ _ e. says_marks at bytes r some number (rw (quote, raw) refl) e))))))
