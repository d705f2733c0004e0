-- How a string in double quotes is read: by runs of bytes that stand for themselves, and escapes.
use Rattle.std.proofs.Common.{◌≡◌, ℕ, zero, suc, ◌+◌, ◌-◌, ◌≤◌, true, false, List, [], ◌∷◌, ◌++◌, length, take, drop, Some, None, Ok, Err, nat_eq, refl, sym, ap, ◌∙◌, arith, append_assoc, append-nil, codes}
use Rattle.std.proofs.lemmas.Bool.Decides.{nat_tests}
use Rattle.std.proofs.lemmas.List.{drop-drop, drop_all}
use Rattle.std.specs.Char.{encode_utf8}
use Rattle.std.specs.List.{prefix_len}
use Rattle.tpl_token.specs.Characters.{begins, first_is}
use Rattle.tpl_token.specs.Strings.{is_plain_byte}
use Rattle.tpl_token.specs.Scanning.{Quoted, ended, cut, bad, after_part, quoted, escape_at, string_found, ReadsOn}
use Rattle.tpl_token.specs.declared.refused.TokenRefused.TheVariants as refused
use Rattle.tpl_token.specs.declared.token.TokenKind.TheVariants as kind
use Rattle.tpl_token.proofs.Marks.{either, one_more, not_first, begins-is}

pub after_nothing : (q : Quoted) → after_part [] 0 q ≡ q
after_nothing (ended v n) = ap (ended v) (omega arith)
after_nothing cut = refl
after_nothing (bad n) = ap bad (omega arith)

pub after_twice : (v w : List ℕ) (n m : ℕ) (q : Quoted) → after_part v n (after_part w m q) ≡ after_part (v ++ w) (n + m) q
after_twice v w n m (ended x k) = ap (λ (xs : List ℕ). ended xs (n + (m + k))) (sym (append_assoc v w x)) ∙ ap (ended ((v ++ w) ++ x)) (omega arith)
after_twice v w n m cut = refl
after_twice v w n m (bad k) = ap bad (omega arith)

-- a byte that stands for itself
pub plain_step : (b : ℕ) (bs : List ℕ) → is_plain_byte b ≡ true → quoted 0 (b ∷ bs) ≡ after_part (b ∷ []) 1 (quoted 0 bs)
plain_step b bs plain =
    let quote : nat_eq b 34 ≡ false = grind (arith, nat_tests) in
    let feed : nat_eq b 10 ≡ false = grind (arith, nat_tests) in
    let backslash : nat_eq b 92 ≡ false = grind (arith, nat_tests) in
    rw (quote, feed, backslash) refl

-- a run of them
pub quoted_run : (bs : List ℕ) → quoted 0 bs ≡ after_part (take (prefix_len is_plain_byte bs) bs) (prefix_len is_plain_byte bs) (quoted 0 (drop (prefix_len is_plain_byte bs) bs))
quoted_run [] = refl
quoted_run (b ∷ bs) = either (is_plain_byte b)
    (λ t. let n = prefix_len is_plain_byte bs in
    plain_step b bs t ∙ ap (after_part (b ∷ []) 1) (quoted_run bs) ∙ after_twice (b ∷ []) (take n bs) 1 n (quoted 0 (drop n bs)) ∙ rw (t, one_more n) refl)
    (λ f. sym (rw f (after_nothing (quoted 0 (b ∷ bs)))))

-- the bytes of an escape
pub quoted_skip : (k : ℕ) (bs : List ℕ) → k ≤ length bs → quoted k bs ≡ after_part [] k (quoted 0 (drop k bs))
quoted_skip zero bs fits = sym (after_nothing (quoted 0 bs))
quoted_skip (suc k) [] fits = absurd (omega arith)
quoted_skip (suc k) (b ∷ bs) fits = ap (after_part [] 1) (quoted_skip k bs (omega arith)) ∙ after_twice [] [] 1 k (quoted 0 (drop k bs)) ∙ ap (λ (n : ℕ). after_part [] n (quoted 0 (drop k bs))) (one_more k)

pub quoted_escape : (c n : ℕ) (bs : List ℕ) → escape_at bs ≡ Some (c, n) → n ≤ length bs → quoted 0 (92 ∷ bs) ≡ after_part (encode_utf8 c) (1 + n) (quoted 0 (drop n bs))
quoted_escape c n bs is fits = rw is (ap (after_part (encode_utf8 c) 1) (quoted_skip n bs fits) ∙ after_twice (encode_utf8 c) [] 1 n (quoted 0 (drop n bs)) ∙ ap (λ (v : List ℕ). after_part v (1 + n) (quoted 0 (drop n bs))) (append-nil (encode_utf8 c)))

pub quoted_no_escape : (bs : List ℕ) → escape_at bs ≡ None → quoted 0 (92 ∷ bs) ≡ bad 0
quoted_no_escape bs is = rw is refl

-- what is no byte that stands for itself, no quote and no backslash, is the end of the line or of the text
pub quoted_cut : (bs : List ℕ) → first_is is_plain_byte bs ≡ false → begins (codes "\"") bs ≡ false → begins (codes "\\") bs ≡ false → quoted 0 bs ≡ cut
quoted_cut [] stops quote backslash = refl
quoted_cut (b ∷ bs) stops quote backslash =
    let q = not_first 34 b bs quote in
    let s = not_first 92 b bs backslash in
    let f : nat_eq b 10 ≡ true = grind (arith, nat_tests) in
    rw (q, f) refl

-- one step further in what is read so far
reads_on : (v w u : List ℕ) (k m n : ℕ) (q rest whole : Quoted) → after_part v k q ≡ whole → q ≡ after_part w m rest → u ≡ v ++ w → n ≡ k + m → after_part u n rest ≡ whole
reads_on v w u k m n q rest whole h step value len =
    ap (λ (x : List ℕ). after_part x n rest) value ∙ ap (λ (i : ℕ). after_part (v ++ w) i rest) len ∙ sym (after_twice v w k m rest) ∙ ap (after_part v k) (sym step) ∙ h

-- a run is copied
pub after_run : (text old part new : List ℕ) (at run : ℕ) → run ≡ prefix_len is_plain_byte (drop at text) → new ≡ old ++ part → part ≡ take (at + run - at) (drop at text) → ReadsOn text old at new (at + run)
after_run text old part new at run is pushed part_is start whole begun h =
    let rest = drop at text in
    let same : at + run - at ≡ run = omega arith in
    let there : drop run rest ≡ drop (at + run) text = drop-drop run at text in
    let runs : quoted 0 rest ≡ after_part (take run rest) run (quoted 0 (drop run rest)) = rw is (quoted_run rest) in
    reads_on old (take run rest) new (at - (start + 1)) run (at + run - (start + 1)) (quoted 0 rest) (quoted 0 (drop (at + run) text)) whole h
    (runs ∙ ap (λ (xs : List ℕ). after_part (take run rest) run (quoted 0 xs)) there)
    (pushed ∙ ap (λ (xs : List ℕ). old ++ xs) (part_is ∙ ap (λ (n : ℕ). take n rest) same))
    (omega (arith, begun))

-- the closing quote
pub at_quote : (rest value : List ℕ) (start k len : ℕ) (whole : Quoted) → begins (codes "\"") rest ≡ true → len ≡ k + 2 → after_part value k (quoted 0 rest) ≡ whole → string_found start whole ≡ Ok (kind.Str value, len)
at_quote rest value start k len whole first len_is h =
    let is : quoted 0 rest ≡ ended [] 1 = ap (quoted 0) (begins-is (codes "\"") rest first) in
    let same : k + 1 + 1 ≡ len = omega (arith, len_is) in
    ap (string_found start) (sym h ∙ ap (after_part value k) is) ∙ ap (λ (v : List ℕ). Ok (kind.Str v, k + 1 + 1)) (append-nil value) ∙ ap (λ (n : ℕ). Ok (kind.Str value, n)) same

-- the end of the line or of the text
pub at_cut : (rest value : List ℕ) (start k : ℕ) (whole : Quoted) → first_is is_plain_byte rest ≡ false → begins (codes "\"") rest ≡ false → begins (codes "\\") rest ≡ false → after_part value k (quoted 0 rest) ≡ whole
    → string_found start whole ≡ Err (refused.UnclosedString start)
at_cut rest value start k whole stops quote backslash h = ap (string_found start) (sym h ∙ ap (after_part value k) (quoted_cut rest stops quote backslash))

-- a backslash that begins no escape
pub at_bad : (rest more value : List ℕ) (start at k : ℕ) (whole : Quoted) → begins (codes "\\") rest ≡ true → more ≡ drop 1 rest → escape_at more ≡ None → at ≡ start + 1 + k → after_part value k (quoted 0 rest) ≡ whole
    → string_found start whole ≡ Err (refused.BadEscape at)
at_bad rest more value start at k whole first more_is none offset h =
    let is : quoted 0 rest ≡ bad 0 = ap (quoted 0) (begins-is (codes "\\") rest first) ∙ quoted_no_escape (drop 1 rest) (ap escape_at (sym more_is) ∙ none) in
    let same : start + 1 + (k + 0) ≡ at = omega (arith, offset) in
    ap (string_found start) (sym h ∙ ap (after_part value k) is) ∙ ap (λ (i : ℕ). Err (refused.BadEscape i)) same

-- an escape is copied
pub after_escape : (text rest more old new : List ℕ) (at c n next : ℕ) → rest ≡ drop at text → begins (codes "\\") rest ≡ true → more ≡ drop 1 rest → escape_at more ≡ Some (c, n) → n ≤ length more
    → new ≡ old ++ encode_utf8 c → next ≡ at + (1 + n) → ReadsOn text old at new next
after_escape text rest more old new at c n next rest_is first more_is is fits pushed next_is start whole begun h =
    let one : drop at text ≡ 92 ∷ more = sym rest_is ∙ begins-is (codes "\\") rest first ∙ ap (λ (xs : List ℕ). 92 ∷ xs) (sym more_is) in
    let there : drop n more ≡ drop next text = ap (drop n) (more_is ∙ ap (drop 1) rest_is ∙ drop-drop 1 at text) ∙ drop-drop n (at + 1) text ∙ ap (λ (i : ℕ). drop i text) (let e : at + 1 + n ≡ next = omega (arith, next_is) in e) in
    reads_on old (encode_utf8 c) new (at - (start + 1)) (1 + n) (next - (start + 1)) (quoted 0 (drop at text)) (quoted 0 (drop next text)) whole h
    (ap (quoted 0) one ∙ quoted_escape c n more is fits ∙ ap (λ (xs : List ℕ). after_part (encode_utf8 c) (1 + n) (quoted 0 xs)) there)
    pushed (omega (arith, begun, next_is))

-- what is left is no string
pub at_end : (text value : List ℕ) (start at k : ℕ) (whole : Quoted) → length text ≤ at → after_part value k (quoted 0 (drop at text)) ≡ whole → string_found start whole ≡ Err (refused.UnclosedString start)
at_end text value start at k whole over h = ap (string_found start) (sym h ∙ ap (λ (xs : List ℕ). after_part value k (quoted 0 xs)) (drop_all at text over))
