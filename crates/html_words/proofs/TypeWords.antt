-- Comparing a type with words byte by byte is the definition of a script's type.
use Rattle.std.proofs.Common.{◌≡◌, ℕ, zero, suc, ◌+◌, ◌-◌, ◌<◌, ◌≤◌, ◌==◌, ◌||◌, ◌&&◌, nat_lt, not, Bool, true, false, cond, List, [], ◌∷◌, length, take, reverse, bytes_eq, refl, sym, ap, ◌∙◌, arith}
use Rattle.std.proofs.lemmas.Bool.{and_parts, cond-true, cond-false, eqb-true, eqb-false}
use Rattle.std.proofs.lemmas.Bool.Decides.{nat_tests}
use Rattle.std.proofs.lemmas.List.{reverse-append, length-reverse}
use Rattle.std.proofs.lemmas.List.Folds.{prefix_len-append}
use Rattle.std.proofs.lemmas.List.Sums.{suffix_len-le-length}
use Rattle.std.specs.Char.{is_ascii_whitespace, to_ascii_lowercase}
use Rattle.std.specs.List.{list_all, prefix_len, suffix_len}
use Rattle.std.specs.Str.{str_to_ascii_lowercase as lower}
use Rattle.place_core.specs.page.Words.{is_among, is_script_type, script_types, without_parameters, trimmed_start, trimmed_end}
use Rattle.html_words.proofs.Machine.{either, run_more, run_none, behind_more, behind_none}
use Rattle.html_words.specs.ScriptTypes.{is_type_end, is_type_word, is_any_type}

-- a byte that a word may have
abbrev is_word_byte : ℕ → Bool
is_word_byte c = nat_lt c 128 && (not (c == 59) && not (is_ascii_whitespace c))

abbrev are_words : List (List ℕ) → Bool
are_words words = list_all (λ word. list_all is_word_byte word) words

abbrev goes_on : ℕ → Bool
goes_on b = not (b == 59)

-- White space at the end.

suffix_more : (b : ℕ) (t : List ℕ) → suffix_len is_ascii_whitespace (b ∷ t) ≡ cond (suffix_len is_ascii_whitespace t == length t) (length t + prefix_len is_ascii_whitespace (b ∷ [])) (suffix_len is_ascii_whitespace t)
suffix_more b t =
    ap (prefix_len is_ascii_whitespace) (reverse-append (b ∷ []) t)
    ∙ prefix_len-append is_ascii_whitespace (reverse t) (b ∷ [])
    ∙ rw (length-reverse t) refl

suffix_same : (b : ℕ) (t : List ℕ) → is_ascii_whitespace b ≡ false → suffix_len is_ascii_whitespace (b ∷ t) ≡ suffix_len is_ascii_whitespace t
suffix_same b t e =
    let none : prefix_len is_ascii_whitespace (b ∷ []) ≡ 0 = cond-false (is_ascii_whitespace b) _ _ e in
    either (suffix_len is_ascii_whitespace t == length t)
    (λ s. suffix_more b t ∙ cond-true _ _ _ s ∙ omega (arith, none, eqb-true _ _ s))
    (λ s. suffix_more b t ∙ cond-false _ _ _ s)

suffix_fits : (t : List ℕ) → suffix_len is_ascii_whitespace t ≤ length t
suffix_fits t = suffix_len-le-length is_ascii_whitespace t

trim_keeps : (b : ℕ) (t : List ℕ) → is_ascii_whitespace b ≡ false → trimmed_end (b ∷ t) ≡ b ∷ trimmed_end t
trim_keeps b t e =
    let same : suc (length t) - suffix_len is_ascii_whitespace (b ∷ t) ≡ suc (length t - suffix_len is_ascii_whitespace t) = omega (arith, suffix_same b t e, suffix_fits t) in
    ap (λ (n : ℕ). take n (b ∷ t)) same

abbrev is_empty : List ℕ → Bool
is_empty bytes = bytes_eq (lower bytes) []

none_taken : (n : ℕ) (t : List ℕ) → n ≡ 0 → is_empty (take n t) ≡ true
none_taken n t e = rw e refl

some_taken : (n : ℕ) (t : List ℕ) → 1 ≤ n → 1 ≤ length t → is_empty (take n t) ≡ false
some_taken zero t h k = absurd (omega arith)
some_taken (suc n) [] h k = absurd (omega arith)
some_taken (suc n) (b ∷ t) h k = refl

white_trimmed : (b : ℕ) (t : List ℕ) → is_ascii_whitespace b ≡ true → is_empty (trimmed_end (b ∷ t)) ≡ is_empty (trimmed_end t)
white_trimmed b t e =
    let one : prefix_len is_ascii_whitespace (b ∷ []) ≡ 1 = cond-true (is_ascii_whitespace b) _ _ e in
    either (suffix_len is_ascii_whitespace t == length t)
    (λ s.
    let all : suffix_len is_ascii_whitespace (b ∷ t) ≡ length t + prefix_len is_ascii_whitespace (b ∷ []) = suffix_more b t ∙ cond-true _ _ _ s in
    let whole : suffix_len is_ascii_whitespace t ≡ length t = eqb-true _ _ s in
    none_taken _ (b ∷ t) (omega (arith, all, one)) ∙ sym (none_taken _ t (omega (arith, whole))))
    (λ s.
    let same : suffix_len is_ascii_whitespace (b ∷ t) ≡ suffix_len is_ascii_whitespace t = suffix_more b t ∙ cond-false _ _ _ s in
    let less : suffix_len is_ascii_whitespace t < length t = omega (arith, suffix_fits t, eqb-false _ _ s) in
    some_taken _ (b ∷ t) (omega (arith, same, less)) (omega arith) ∙ sym (some_taken _ t (omega (arith, less)) (omega (arith, less))))

-- One word.

goes_of : (b : ℕ) → (b == 59) ≡ false → goes_on b ≡ true
goes_of b e = ap not e

stops_of : (b : ℕ) → (b == 59) ≡ true → goes_on b ≡ false
stops_of b e = ap not e

white_goes : (b : ℕ) → is_ascii_whitespace b ≡ true → (b == 59) ≡ false
white_goes b e = grind (arith, nat_tests)

end_compared : (v : List ℕ) → is_type_end v ≡ is_empty (trimmed_end (without_parameters v))
end_compared [] = refl
end_compared (b ∷ bs) = either (b == 59)
    (λ t. rw (run_none goes_on b bs (stops_of b t), t) refl)
    (λ f. rw (run_more goes_on b bs (goes_of b f), f)
    (either (is_ascii_whitespace b)
    (λ w. rw w (end_compared bs ∙ sym (white_trimmed b (without_parameters bs) w)))
    (λ w. rw (trim_keeps b (without_parameters bs) w, w) refl)))

semicolon_differs : (b c : ℕ) → (b == 59) ≡ true → is_word_byte c ≡ true → (nat_lt b 128 && to_ascii_lowercase b == c) ≡ false
semicolon_differs b c e h = grind (arith, nat_tests)

white_differs : (b c : ℕ) → is_ascii_whitespace b ≡ true → is_word_byte c ≡ true → (to_ascii_lowercase b == c) ≡ false
white_differs b c e h = grind (arith, nat_tests)

ascii_compared : (b c : ℕ) → is_word_byte c ≡ true → (nat_lt b 128 && to_ascii_lowercase b == c) ≡ (to_ascii_lowercase b == c)
ascii_compared b c h = grind (arith, nat_tests)

taken_differs : (n b : ℕ) (t : List ℕ) (c : ℕ) (cs : List ℕ) → (to_ascii_lowercase b == c) ≡ false → bytes_eq (lower (take n (b ∷ t))) (c ∷ cs) ≡ false
taken_differs zero b t c cs e = refl
taken_differs (suc n) b t c cs e = rw e refl

word_compared : (word v : List ℕ) → list_all is_word_byte word ≡ true → is_type_word word v ≡ bytes_eq (lower (trimmed_end (without_parameters v))) word
word_compared [] v h = end_compared v
word_compared (c ∷ cs) [] h = refl
word_compared (c ∷ cs) (b ∷ bs) h =
    let parts = and_parts (is_word_byte c) (list_all is_word_byte cs) h in
    either (b == 59)
    (λ t. rw (run_none goes_on b bs (stops_of b t), semicolon_differs b c t parts.0) refl)
    (λ f. rw (run_more goes_on b bs (goes_of b f), ascii_compared b c parts.0)
    (either (is_ascii_whitespace b)
    (λ w. rw (white_differs b c w parts.0) (sym (taken_differs _ b (without_parameters bs) c cs (white_differs b c w parts.0))))
    (λ w. rw (trim_keeps b (without_parameters bs) w) (ap (λ (x : Bool). (to_ascii_lowercase b == c) && x) (word_compared cs bs parts.1)))))

-- All words.

any_compared : (words : List (List ℕ)) (v : List ℕ) → are_words words ≡ true → is_any_type words v ≡ is_among words (lower (trimmed_end (without_parameters v)))
any_compared [] v h = refl
any_compared (word ∷ words) v h =
    let parts = and_parts (list_all is_word_byte word) (are_words words) h in
    rw (word_compared word v parts.0) (ap (λ (x : Bool). bytes_eq (lower (trimmed_end (without_parameters v))) word || x) (any_compared words v parts.1))

-- White space at the beginning is cut before or after the parameters.

start_then : (v : List ℕ) → without_parameters (trimmed_start v) ≡ trimmed_start (without_parameters v)
start_then [] = refl
start_then (b ∷ bs) = either (is_ascii_whitespace b)
    (λ w. rw (behind_more is_ascii_whitespace b bs w, run_more goes_on b bs (goes_of b (white_goes b w)), behind_more is_ascii_whitespace b (without_parameters bs) w) (start_then bs))
    (λ w. rw (behind_none is_ascii_whitespace b bs w)
    (either (b == 59)
    (λ t. rw (run_none goes_on b bs (stops_of b t)) refl)
    (λ f. rw (run_more goes_on b bs (goes_of b f), behind_none is_ascii_whitespace b (without_parameters bs) w) refl)))

pub is_any_script : (v : List ℕ) → is_any_type script_types (trimmed_start v) ≡ is_script_type v
is_any_script v = any_compared script_types (trimmed_start v) refl ∙ ap (λ (x : List ℕ). is_among script_types (lower (trimmed_end x))) (start_then v)
