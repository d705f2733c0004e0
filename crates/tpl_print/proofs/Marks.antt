-- Where delimiters stand in what is printed.
use Rattle.std.proofs.Common.{◌≡◌, ℕ, ◌+◌, ◌-◌, ◌<◌, ◌≤◌, Bool, true, false, List, [], ◌∷◌, ◌++◌, length, take, drop, ◌==◌, not, codes, refl, sym, ap, ◌∙◌, arith, append_assoc, true≢false}
use Rattle.std.proofs.lemmas.List.{take_at, drop_at, drop-drop, length-append, length-drop, reverse-append}
use Rattle.std.specs.Bool.{⊤}
use Rattle.std.specs.List.{prefix_len, suffix_len}
use Rattle.tpl_token.specs.Characters.{begins, is_white}
use Rattle.tpl_token.specs.Texts.{text_len, trims_before, kept_end}
use Rattle.tpl_token.proofs.Marks.{begins-is, either, heads, tails, no_cons}

-- a byte that is no brace
abbrev pub is_free : ℕ → Bool
is_free b = not (b == 123)

-- what stands after what stands here
pub behind : (text : List ℕ) (at : ℕ) (a b : List ℕ) → drop at text ≡ a ++ b → drop (at + length a) text ≡ b
behind text at a b e = sym (drop-drop (length a) at text) ∙ ap (drop (length a)) e ∙ drop_at a b (length a) refl

-- the text has what stands here
pub within : (text : List ℕ) (at : ℕ) (a b : List ℕ) → drop at text ≡ a ++ b → 0 < length a → at + length a ≤ length text
within text at a b e some = omega (arith, length-drop at text, ap length e, length-append a b)

-- the bytes that stand here
pub here : (text : List ℕ) (at end : ℕ) (a b : List ℕ) → end ≡ at + length a → drop at text ≡ a ++ b → take (end - at) (drop at text) ≡ a
here text at end a b is e = ap (λ (n : ℕ). take n (drop at text)) (let n : end - at ≡ length a = omega (arith, is) in n) ∙ ap (take (length a)) e ∙ take_at a b (length a) refl

pub free_begins : (b : ℕ) (bs : List ℕ) → is_free b ≡ true → begins (codes "{{") (b ∷ bs) ≡ false
free_begins b bs free = either (begins (codes "{{") (b ∷ bs))
    (λ t. let same : b ≡ 123 = heads (begins-is (codes "{{") (b ∷ bs) t) in absurd (true≢false (sym free ∙ ap is_free same)))
    (λ f. f)

-- in these bytes, before more of them, no `{{` begins
abbrev pub NoneOpens : List ℕ → List ℕ → Type 0
NoneOpens [] more = ⊤
NoneOpens (b ∷ bs) more = (begins (codes "{{") (b ∷ (bs ++ more)) ≡ false) × NoneOpens bs more

pub none_opens-append : (front middle more : List ℕ) → NoneOpens front (middle ++ more) → NoneOpens middle more → NoneOpens (front ++ middle) more
none_opens-append [] middle more h k = k
none_opens-append (b ∷ front) middle more h k = (ap (λ (xs : List ℕ). begins (codes "{{") (b ∷ xs)) (append_assoc front middle more) ∙ h.0, none_opens-append front middle more h.1 k)

-- one brace, and no brace after it
pub single_brace : (b : ℕ) → begins (codes "{{") (b ∷ []) ≡ false
single_brace b = either (begins (codes "{{") (b ∷ []))
    (λ t. absurd (no_cons (sym (tails (begins-is (codes "{{") (b ∷ []) t)))))
    (λ f. f)

pub other_after : (b c : ℕ) (bs : List ℕ) → (c == 123) ≡ false → begins (codes "{{") (b ∷ c ∷ bs) ≡ false
other_after b c bs differs = either (begins (codes "{{") (b ∷ c ∷ bs))
    (λ t. let same : c ≡ 123 = heads (tails (begins-is (codes "{{") (b ∷ c ∷ bs) t)) in absurd (true≢false (sym (ap (λ (x : ℕ). x == 123) same) ∙ differs)))
    (λ f. f)

pub before_front : (front more : List ℕ) → NoneOpens front more → text_len (front ++ more) ≡ length front + text_len more
before_front [] more none = omega arith
before_front (b ∷ front) more none = rw none.0 (omega (arith, before_front front more none.1))

-- the guard after a brace, and what is after that
abbrev pub guard : List ℕ → List ℕ
guard more = codes "{{- /**/}}" ++ more

pub at_guard : (front more : List ℕ) → NoneOpens front (codes "{ " ++ guard more) → text_len ((front ++ codes "{ ") ++ guard more) ≡ length front + 2
at_guard front more none = ap text_len (append_assoc front (codes "{ ") (guard more)) ∙ before_front front (codes "{ " ++ guard more) none

-- one white byte at the end
pub one_white : (front : List ℕ) → suffix_len is_white (front ++ codes "{ ") ≡ 1
one_white front = ap (prefix_len is_white) (reverse-append front (codes "{ "))

-- a text before an action that trims nothing, or before the end
pub len_plain : (front tail : List ℕ) → NoneOpens front tail → text_len tail ≡ 0 → text_len (front ++ tail) ≡ length front
len_plain front tail all none = omega (arith, before_front front tail all, none)

pub kept_plain : (front tail : List ℕ) → NoneOpens front tail → text_len tail ≡ 0 → trims_before tail ≡ false → kept_end (front ++ tail) ≡ length front
kept_plain front tail all none keeps =
    let len = len_plain front tail all none in
    let trims : trims_before (drop (length front) (front ++ tail)) ≡ false = ap trims_before (drop_at front tail (length front) refl) ∙ keeps in
    rw (len, trims) refl

-- a text before a guard ends with its brace
pub kept_guard : (front more : List ℕ) → NoneOpens front (codes "{ " ++ guard more) → kept_end ((front ++ codes "{ ") ++ guard more) ≡ length front + 1
kept_guard front more all =
    let len = at_guard front more all in
    let n : length (front ++ codes "{ ") ≡ length front + 2 = length-append front (codes "{ ") in
    let trims : trims_before (drop (length front + 2) ((front ++ codes "{ ") ++ guard more)) ≡ true = ap trims_before (drop_at (front ++ codes "{ ") (guard more) (length front + 2) n) in
    let white : suffix_len is_white (take (length front + 2) ((front ++ codes "{ ") ++ guard more)) ≡ 1 = ap (suffix_len is_white) (take_at (front ++ codes "{ ") (guard more) (length front + 2) n) ∙ one_white front in
    rw (len, trims, white) (omega arith)
