-- A string in double quotes and its reading: each says the other.
use Rattle.std.proofs.Common.{◌≡◌, ℕ, zero, suc, ◌+◌, ◌<◌, ◌≤◌, true, ◌⊎◌, inl, inr, IsTrue, List, [], ◌∷◌, ◌++◌, length, take, drop, Option, Some, None, option_map, nat_eq, refl, sym, ap, ◌∙◌, subst, arith, append_assoc, codes}
use Rattle.std.proofs.lemmas.Bool.Decides.{nat_tests}
use Rattle.std.proofs.lemmas.List.{take_at, drop_at, take-append-drop, length-append, length-drop, length-take-le, length-take}
use Rattle.std.specs.Char.{encode_utf8}
use Rattle.tpl_token.specs.Characters.{begins}
use Rattle.tpl_token.specs.Strings.{StringPart, plain, escape, is_plain_byte, spelling, StandFor, escaped_character, short_escape}
use Rattle.std.proofs.lemmas.Slice.Eq.{bytes_eq-Decides}
use Rattle.std.specs.Str.{bytes_eq}
use Rattle.tpl_token.specs.Scanning.{Quoted, ended, cut, bad, after_part, quoted, escape_at, escape_len}
use Rattle.tpl_token.proofs.Cuts.{escape_is}
use Rattle.tpl_token.proofs.Marks.{split, either, one_more}
use Rattle.tpl_token.proofs.QuotedStrings.{after_nothing, after_twice, plain_step, quoted_escape, quoted_no_escape}

-- an escape that begins bytes ends where these say
escape_at_first : (b n : ℕ) (bs : List ℕ) → 0 < n → escape_len (b ∷ bs) ≡ n → escape_len (take n (b ∷ bs)) ≡ n
escape_at_first b zero bs some e = absurd (omega arith)
escape_at_first b (suc n) bs some e = e

short_len : (bytes : List ℕ) (c : ℕ) → short_escape bytes ≡ Some c → 1 ≡ length bytes
short_len bytes c e =
    split (bytes_eq bytes (codes "n")) e (λ t _. sym (ap length ((bytes_eq-Decides bytes (codes "n")).0 t)))
    (λ _ e. split (bytes_eq bytes (codes "r")) e (λ t _. sym (ap length ((bytes_eq-Decides bytes (codes "r")).0 t)))
    (λ _ e. split (bytes_eq bytes (codes "t")) e (λ t _. sym (ap length ((bytes_eq-Decides bytes (codes "t")).0 t)))
    (λ _ e. split (bytes_eq bytes (codes "\\")) e (λ t _. sym (ap length ((bytes_eq-Decides bytes (codes "\\")).0 t)))
    (λ _ e. split (bytes_eq bytes (codes "\"")) e (λ t _. sym (ap length ((bytes_eq-Decides bytes (codes "\"")).0 t))) (λ _ e. cc)))))

-- how long an escape is
escaped_len : (bytes : List ℕ) (c : ℕ) → escaped_character bytes ≡ Some c → escape_len bytes ≡ length bytes
escaped_len [] c e = cc
escaped_len (b ∷ bs) c e =
    split (begins (codes "x") (b ∷ bs)) e
    (λ t e. split (nat_eq (length (b ∷ bs)) 3) e (λ l _. rw t (let h : 3 ≡ length (b ∷ bs) = grind (arith, nat_tests) in h)) (λ _ e. cc))
    (λ x e. split (begins (codes "u") (b ∷ bs)) e
    (λ t e. split (nat_eq (length (b ∷ bs)) 5) e (λ l _. rw (x, t) (let h : 5 ≡ length (b ∷ bs) = grind (arith, nat_tests) in h)) (λ _ e. cc))
    (λ u e. rw (x, u) (short_len (b ∷ bs) c e)))

escape_some : (bytes : List ℕ) → 0 < escape_len bytes
escape_some bytes = either (begins (codes "x") bytes) (λ t. rw t (let h : 0 < 3 = omega arith in h))
    (λ x. either (begins (codes "u") bytes) (λ t. rw (x, t) (let h : 0 < 5 = omega arith in h)) (λ u. rw (x, u) (let h : 0 < 1 = omega arith in h)))

-- an escape is found before whatever follows
pub escape_whole : (bytes more : List ℕ) (c : ℕ) → escaped_character bytes ≡ Some c → escape_at (bytes ++ more) ≡ Some (c, length bytes)
escape_whole [] more c e = cc
escape_whole (b ∷ bs) more c e =
    let len : escape_len (b ∷ (bs ++ more)) ≡ length (b ∷ bs) = escaped_len (b ∷ bs) c e in
    let same : take (escape_len (b ∷ (bs ++ more))) (b ∷ (bs ++ more)) ≡ b ∷ bs = ap (λ (n : ℕ). take n (b ∷ (bs ++ more))) len ∙ take_at (b ∷ bs) more (length (b ∷ bs)) refl in
    ap (λ (xs : List ℕ). option_map (λ d. (d, escape_len (b ∷ (bs ++ more)))) (escaped_character xs)) same ∙ ap (option_map (λ d. (d, escape_len (b ∷ (bs ++ more))))) e ∙ ap (λ (n : ℕ). Some (c, n)) len

-- what an escape takes is there
pub escape_fits : (bs : List ℕ) (c n : ℕ) → escape_at bs ≡ Some (c, n) → n ≤ length bs
escape_fits [] c n e = cc
escape_fits (b ∷ bs) c n e =
    let h = escape_is (b ∷ bs) c n e in
    let some : 0 < n = omega (arith, escape_some (b ∷ bs), h.0) in
    let len : n ≡ length (take n (b ∷ bs)) = sym (escape_at_first b n bs some h.0) ∙ escaped_len (take n (b ∷ bs)) c h.1 in
    omega (arith, len, length-take n (b ∷ bs))

-- parts are read as their value
pub parts_read : (parts : List StringPart) (value rest : List ℕ) → StandFor parts value → quoted 0 (spelling parts ++ rest) ≡ after_part value (length (spelling parts)) (quoted 0 rest)
parts_read [] value rest h = sym (ap (λ (v : List ℕ). after_part v 0 (quoted 0 rest)) h ∙ after_nothing (quoted 0 rest))
parts_read (plain b ∷ parts) value rest h =
    let more = h.0 in
    plain_step b (spelling parts ++ rest) h.2 ∙ ap (after_part (b ∷ []) 1) (parts_read parts more rest h.3) ∙ after_twice (b ∷ []) more 1 (length (spelling parts)) (quoted 0 rest)
    ∙ ap (λ (v : List ℕ). after_part v (1 + length (spelling parts)) (quoted 0 rest)) (sym h.1) ∙ ap (λ (n : ℕ). after_part value n (quoted 0 rest)) (one_more (length (spelling parts)))
parts_read (escape bytes ∷ parts) value rest h =
    let c = h.0 in
    let more = h.1 in
    let n = length bytes in
    let k = length (spelling parts) in
    let tail = spelling parts ++ rest in
    let fits : n ≤ length (bytes ++ tail) = omega (arith, length-append bytes tail) in
    let len : 1 + n + k ≡ length (spelling (escape bytes ∷ parts)) = omega (arith, length-append bytes (spelling parts)) in
    ap (λ (xs : List ℕ). quoted 0 (92 ∷ xs)) (append_assoc bytes (spelling parts) rest)
    ∙ quoted_escape c n (bytes ++ tail) (escape_whole bytes tail c h.3) fits
    ∙ ap (λ (xs : List ℕ). after_part (encode_utf8 c) (1 + n) (quoted 0 xs)) (drop_at bytes tail n refl)
    ∙ ap (after_part (encode_utf8 c) (1 + n)) (parts_read parts more rest h.4)
    ∙ after_twice (encode_utf8 c) more (1 + n) k (quoted 0 rest)
    ∙ ap (λ (v : List ℕ). after_part v (1 + n + k) (quoted 0 rest)) (sym h.2) ∙ ap (λ (i : ℕ). after_part value i (quoted 0 rest)) len

-- what a reading says of the bytes after an opening quote
abbrev pub Says : List ℕ → Quoted → Type 0
Says bs (ended value n) = (parts : List StringPart) × (more : List ℕ) × (bs ≡ spelling parts ++ 34 ∷ more) × StandFor parts value × (n ≡ length (spelling parts) + 1)
Says bs cut = (parts : List StringPart) × (value more : List ℕ) × (bs ≡ spelling parts ++ more) × StandFor parts value × ((more ≡ []) ⊎ IsTrue (begins (codes "\n") more))
Says bs (bad n) = (parts : List StringPart) × (value more : List ℕ) × (bs ≡ spelling parts ++ 92 ∷ more) × StandFor parts value × ((bytes rest : List ℕ) → more ≡ bytes ++ rest → escaped_character bytes ≡ None) × (n ≡ length (spelling parts))

says_plain : (b : ℕ) (bs : List ℕ) (q : Quoted) → is_plain_byte b ≡ true → Says bs q → Says (b ∷ bs) (after_part (b ∷ []) 1 q)
says_plain b bs (ended value n) p h = (plain b ∷ h.0, h.1, ap (λ (xs : List ℕ). b ∷ xs) h.2, (value, refl, p, h.3), omega (arith, h.4))
says_plain b bs cut p h = (plain b ∷ h.0, b ∷ h.1, h.2, ap (λ (xs : List ℕ). b ∷ xs) h.3, (h.1, refl, p, h.4), h.5)
says_plain b bs (bad n) p h = (plain b ∷ h.0, b ∷ h.1, h.2, ap (λ (xs : List ℕ). b ∷ xs) h.3, (h.1, refl, p, h.4), h.5, omega (arith, h.6))

-- the bytes of an escape, before more parts
escaped_front : (bytes bs : List ℕ) (parts : List StringPart) (tail : List ℕ) → bs ≡ spelling parts ++ tail → 92 ∷ (bytes ++ bs) ≡ spelling (escape bytes ∷ parts) ++ tail
escaped_front bytes bs parts tail e = ap (λ (xs : List ℕ). 92 ∷ (bytes ++ xs)) e ∙ ap (λ (xs : List ℕ). 92 ∷ xs) (sym (append_assoc bytes (spelling parts) tail))

escaped_length : (bytes : List ℕ) (parts : List StringPart) (n m : ℕ) → n ≡ length (spelling parts) + m → 1 + length bytes + n ≡ length (spelling (escape bytes ∷ parts)) + m
escaped_length bytes parts n m e = omega (arith, length-append bytes (spelling parts), e)

says_escape : (bytes bs : List ℕ) (c : ℕ) (q : Quoted) → escaped_character bytes ≡ Some c → Says bs q → Says (92 ∷ (bytes ++ bs)) (after_part (encode_utf8 c) (1 + length bytes) q)
says_escape bytes bs c (ended value n) e h = (escape bytes ∷ h.0, h.1, escaped_front bytes bs h.0 (34 ∷ h.1) h.2, (c, value, refl, e, h.3), escaped_length bytes h.0 n 1 h.4)
says_escape bytes bs c cut e h = (escape bytes ∷ h.0, encode_utf8 c ++ h.1, h.2, escaped_front bytes bs h.0 h.2 h.3, (c, h.1, refl, e, h.4), h.5)
says_escape bytes bs c (bad n) e h = (escape bytes ∷ h.0, encode_utf8 c ++ h.1, h.2, escaped_front bytes bs h.0 (92 ∷ h.2) h.3, (c, h.1, refl, e, h.4), h.5, omega (arith, length-append bytes (spelling h.0), h.6))

some_none : {A : Type 0} (x : A) → Some x ≡ None → ⊥
some_none x e = cc

-- where none is found, none is there
none_there : (bs : List ℕ) → escape_at bs ≡ None → (bytes rest : List ℕ) → bs ≡ bytes ++ rest → escaped_character bytes ≡ None
none_there bs none bytes rest is = by_case (escaped_character bytes) refl
  where
    by_case : (o : Option ℕ) → escaped_character bytes ≡ o → escaped_character bytes ≡ None
    by_case None e = e
    by_case (Some c) e = absurd (some_none (c, length bytes) (sym (escape_whole bytes rest c e) ∙ ap escape_at (sym is) ∙ none))

says_bad : (bs : List ℕ) → escape_at bs ≡ None → Says (92 ∷ bs) (quoted 0 (92 ∷ bs))
says_bad bs none = subst (Says (92 ∷ bs)) (sym (quoted_no_escape bs none)) ([], [], bs, refl, refl, none_there bs none, refl)

says_found : (bs : List ℕ) (c n : ℕ) → escape_at bs ≡ Some (c, n) → Says (drop n bs) (quoted 0 (drop n bs)) → Says (92 ∷ bs) (quoted 0 (92 ∷ bs))
says_found bs c n found h =
    let fits = escape_fits bs c n found in
    let len : length (take n bs) ≡ n = length-take-le n bs fits in
    let said = says_escape (take n bs) (drop n bs) c (quoted 0 (drop n bs)) (escape_is bs c n found).1 h in
    let there = subst (λ (xs : List ℕ). Says (92 ∷ xs) (after_part (encode_utf8 c) (1 + length (take n bs)) (quoted 0 (drop n bs)))) (take-append-drop n bs) said in
    subst (Says (92 ∷ bs)) (ap (λ (i : ℕ). after_part (encode_utf8 c) (1 + i) (quoted 0 (drop n bs))) len ∙ sym (quoted_escape c n bs found fits)) there

says_backslash : (m : ℕ) (bs : List ℕ) → ((xs : List ℕ) → length xs ≤ m → Says xs (quoted 0 xs)) → length bs ≤ m → (o : Option (ℕ × ℕ)) → escape_at bs ≡ o → Says (92 ∷ bs) (quoted 0 (92 ∷ bs))
says_backslash m bs shorter fits None e = says_bad bs e
says_backslash m bs shorter fits (Some x) e = says_found bs x.0 x.1 e (shorter (drop x.1 bs) (omega (arith, fits, length-drop x.1 bs)))

says_quote : (b : ℕ) (bs : List ℕ) → nat_eq b 34 ≡ true → Says (b ∷ bs) (quoted 0 (b ∷ bs))
says_quote b bs t =
    let same : b ≡ 34 = grind (arith, nat_tests) in
    rw same ([], bs, refl, refl, refl)

says_feed : (b : ℕ) (bs : List ℕ) → nat_eq b 10 ≡ true → Says (b ∷ bs) (quoted 0 (b ∷ bs))
says_feed b bs t =
    let same : b ≡ 10 = grind (arith, nat_tests) in
    rw same ([], [], 10 ∷ bs, refl, refl, inr refl)

-- every reading says what stands there
says_within : (m : ℕ) (bs : List ℕ) → length bs ≤ m → Says bs (quoted 0 bs)
says_within m [] fits = ([], [], [], refl, refl, inl refl)
says_within zero (b ∷ bs) fits = absurd (omega arith)
says_within (suc m) (b ∷ bs) fits =
    let shorter : length bs ≤ m = omega (arith, fits) in
    either (nat_eq b 34) (says_quote b bs)
    (λ q. either (nat_eq b 10) (says_feed b bs)
    (λ f. either (nat_eq b 92)
    (λ t. let same : b ≡ 92 = grind (arith, nat_tests) in rw same (says_backslash m bs (says_within m) shorter (escape_at bs) refl))
    (λ s. let p : is_plain_byte b ≡ true = rw (q, s, f) refl in subst (Says (b ∷ bs)) (sym (plain_step b bs p)) (says_plain b bs (quoted 0 bs) p (says_within m bs shorter)))))

pub says : (bs : List ℕ) → Says bs (quoted 0 bs)
says bs = says_within (length bs) bs (omega arith)
