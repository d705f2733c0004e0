-- A text is undone piece by piece: what has no backslash stays, and an escape ends where its digits end.
use Rattle.std.proofs.Common.{◌≡◌, ◌≢◌, ℕ, zero, suc, ◌+◌, ◌-◌, ◌*◌, ◌^◌, ◌<◌, ◌≤◌, ◌==◌, ◌||◌, ◌++◌, Bool, true, false, List, [], ◌∷◌, drop, encode_utf8, get_or, length, refl, sym, ap, ◌∙◌, inl, inr, append-nil, arith}
use Rattle.std.specs.Char.{is_ascii_hexdigit, is_ascii_whitespace}
use Rattle.std.specs.List.{list_any}
use Rattle.std.proofs.Math.Nat.{pow-le-pow_right, pow-suc}
use Rattle.std.proofs.lemmas.Bool.{cases_Bool, ne_eqb, true≢false}
use Rattle.std.proofs.lemmas.List.{append_assoc, drop_more}
use Rattle.css_lexer.specs.Unescaping.{AsItIs, Digits, Escaped, character_of, goes_on, style_undone}
use Rattle.url_lexer.specs.Back.{hexadecimal_value}
use Rattle.san_css.specs.Undoing.{is_backslash, UndoesOn, without_blank}

-- up to a backslash all stays
pub up-to : (front behind : List ℕ) → ((i : ℕ) → i < length front → get_or front i 0 ≢ 92) → style_undone AsItIs (front ++ (92 ∷ behind)) ≡ front ++ style_undone Escaped behind
up-to [] behind lacks = refl
up-to (b ∷ bs) behind lacks = rw (ne_eqb b 92 (lacks 0 (omega arith))) (ap (λ (xs : List ℕ). b ∷ xs) (up-to bs behind (λ i inside. lacks (suc i) (omega (arith, inside)))))

-- where there is none, all of it
pub none-left : (text : List ℕ) → ((i : ℕ) → i < length text → get_or text i 0 ≢ 92) → style_undone AsItIs text ≡ text
none-left [] lacks = refl
none-left (b ∷ bs) lacks = rw (ne_eqb b 92 (lacks 0 (omega arith))) (ap (λ (xs : List ℕ). b ∷ xs) (none-left bs (λ i inside. lacks (suc i) (omega (arith, inside)))))

-- the same, of a text that is searched for one
pub as-it-is : (text : List ℕ) → list_any is_backslash text ≡ false → style_undone AsItIs text ≡ text
as-it-is [] e = refl
as-it-is (b ∷ bs) e = elim (cases_Bool (b == 92)) [
  | inl t ↦ absurd (true≢false (sym (ap (λ (x : Bool). x || list_any is_backslash bs) t) ∙ e))
  | inr f ↦ rw f (ap (λ (xs : List ℕ). b ∷ xs) (as-it-is bs (sym (ap (λ (x : Bool). x || list_any is_backslash bs) f) ∙ e)))
]

-- one turn: a front that stays, and an escape
pub undone-on : (front behind text start before between after rest : List ℕ) → text ≡ front ++ (92 ∷ behind) → ((i : ℕ) → i < length front → get_or front i 0 ≢ 92) → between ≡ before ++ front → UndoesOn Escaped behind rest between after → before ++ style_undone AsItIs text ≡ start → after ++ style_undone AsItIs rest ≡ start
undone-on front behind text start before between after rest is lacks b on h =
    on
    ∙ ap (λ (bs : List ℕ). bs ++ style_undone Escaped behind) b
    ∙ append_assoc before front (style_undone Escaped behind)
    ∙ ap (λ (bs : List ℕ). before ++ bs) (sym (up-to front behind lacks))
    ∙ ap (λ (bs : List ℕ). before ++ style_undone AsItIs bs) (sym is)
    ∙ h

-- whether digits that are read go on
abbrev pub reads-on : ℕ → List ℕ → Bool
reads-on more [] = false
reads-on more (b ∷ bs) = goes_on more b

-- where they do not, the character is there, and one blank is passed
digits-end : (more number : ℕ) (bs : List ℕ) → reads-on more bs ≡ false → style_undone (Digits more number) bs ≡ encode_utf8 (character_of number) ++ style_undone AsItIs (without_blank bs)
digits-end more number [] e = sym (append-nil (encode_utf8 (character_of number)))
digits-end more number (b ∷ bs) e = elim (cases_Bool (is_ascii_whitespace b)) [
  | inl t ↦ rw (e, t) refl
  | inr f ↦ elim (cases_Bool (b == 92)) [
    | inl t ↦ rw (e, f, t) refl
    | inr g ↦ rw (e, f, g) refl
  ]
]

-- a digit where more may be
digit-goes : (more number b : ℕ) (bs : List ℕ) → 0 < more → is_ascii_hexdigit b ≡ true → style_undone (Digits more number) (b ∷ bs) ≡ style_undone (Digits (more - 1) (number * 16 + hexadecimal_value b)) bs
digit-goes zero number b bs some e = absurd (omega (arith, some))
digit-goes (suc more) number b bs some e = rw e refl

one-more : (n : ℕ) → n + 1 ≡ suc n
one-more n = omega arith

-- one more digit
pub digit-read : (text : List ℕ) (len number : ℕ) → len < 6 → len < length text → is_ascii_hexdigit (get_or text len 0) ≡ true → style_undone (Digits (6 - (len + 1)) (number * 16 + hexadecimal_value (get_or text len 0))) (drop (len + 1) text) ≡ style_undone (Digits (6 - len) number) (drop len text)
digit-read text len number few inside e =
    let more : 6 - len - 1 ≡ 6 - (len + 1) = omega arith in
    ap (λ (m : ℕ). style_undone (Digits m (number * 16 + hexadecimal_value (get_or text len 0))) (drop (len + 1) text)) (sym more)
    ∙ sym (digit-goes (6 - len) number (get_or text len 0) (drop (len + 1) text) (omega (arith, few)) e)
    ∙ ap (λ (bs : List ℕ). style_undone (Digits (6 - len) number) bs) (sym (drop_more text len 0 inside))

-- numbers of so few digits are small
pub number-small : (len number : ℕ) → len < 6 → number < 16 ^ len → number < 1048576
number-small len number few fits = omega (arith, fits, pow-le-pow_right {n = 16} (omega arith) {i = len} {j = 5} (omega (arith, few)))

pub number-grows : (len number digit : ℕ) → number < 16 ^ len → digit < 16 → number * 16 + digit < 16 ^ (len + 1)
number-grows len number digit fits few =
    let next : 16 ^ (len + 1) ≡ 16 ^ len * 16 = ap (λ (n : ℕ). 16 ^ n) (one-more len) ∙ pow-suc 16 len in
    omega (arith, fits, few, next)

no-digit-on : (more : ℕ) (bs : List ℕ) → is_ascii_hexdigit (get_or bs 0 0) ≡ false → reads-on more bs ≡ false
no-digit-on more [] e = refl
no-digit-on zero (b ∷ bs) e = refl
no-digit-on (suc more) (b ∷ bs) e = e

full-on : (more : ℕ) (bs : List ℕ) → more ≡ 0 → reads-on more bs ≡ false
full-on more [] e = refl
full-on zero (b ∷ bs) e = refl
full-on (suc more) (b ∷ bs) e = absurd (omega (arith, e))

abbrev pub IsRead : List ℕ → ℕ → ℕ → Type 0
IsRead text len number = style_undone (Digits 6 0) text ≡ encode_utf8 (character_of number) ++ style_undone AsItIs (without_blank (drop len text))

-- the number that is read, before what is no digit
pub read-before : (text : List ℕ) (len number : ℕ) → len < length text → style_undone (Digits (6 - len) number) (drop len text) ≡ style_undone (Digits 6 0) text → is_ascii_hexdigit (get_or text len 0) ≡ false → IsRead text len number
read-before text len number inside read e =
    sym read ∙ digits-end (6 - len) number (drop len text) (no-digit-on (6 - len) (drop len text) (ap (λ (bs : List ℕ). is_ascii_hexdigit (get_or bs 0 0)) (drop_more text len 0 inside) ∙ e))

-- and that of six digits
pub read-full : (text : List ℕ) (len number : ℕ) → 6 ≤ len → style_undone (Digits (6 - len) number) (drop len text) ≡ style_undone (Digits 6 0) text → IsRead text len number
read-full text len number full read =
    sym read ∙ digits-end (6 - len) number (drop len text) (full-on (6 - len) (drop len text) (omega (arith, full)))
