-- A verb that is spelled is read as itself.
use Rattle.std.proofs.Common.{◌≡◌, ℕ, ◌+◌, ◌*◌, ◌-◌, ◌≤◌, Bool, true, false, ◌&&◌, ◌||◌, List, [], ◌∷◌, ◌++◌, Some, refl, sym, ap, ◌∙◌, subst, arith, nat_lt, nat_le, ◌==◌, true≢false}
use Rattle.std.proofs.lemmas.Bool.{ne_eqb}
use Rattle.std.proofs.lemmas.Bool.Decides.{nat_tests}
use Rattle.page_datum.specs.Data.{Data}
use Rattle.tpl_format.proofs.Steps.{either, same}
use Rattle.tpl_format.specs.Formats.{format_followed, formatted_from, verb_step}
use Rattle.tpl_format.specs.Spelling.{are_digits, are_flags, BeginsWithZero, IsVerb, letter_of, once_if, times, value}
use Rattle.tpl_format.specs.Verbs.{bare, read_flag}
use Rattle.tpl_format.specs.declared.verb.Verb.{Verb}
use Rattle.tpl_format.specs.declared.verb.Conversion.{Conversion}
use Rattle.tpl_format.specs.declared.verb.Conversion.TheVariants.{Decimal, Hex, Itself, Truth, Any}
use Rattle.tpl_format.specs.declared.verb.VerbState.TheVariants.{More, Takes}

letter_reads : (verb : Verb) (c : Conversion) → read_flag verb (letter_of c) ≡ Takes c
letter_reads verb Decimal = refl
letter_reads verb Hex = refl
letter_reads verb Itself = refl
letter_reads verb Truth = refl
letter_reads verb Any = refl

abbrev pub wide : Verb → ℕ → Verb
wide verb width = record { left = verb.left; zeros = verb.zeros; plus = verb.plus; width = width }

-- one more byte that is read as a flag or a digit
pub more : (verb longer : Verb) (b : ℕ) (bytes : List ℕ) (left : List Data) → read_flag verb b ≡ More longer → formatted_from (b ∷ bytes) (Some verb) left ≡ formatted_from bytes (Some longer) left
more verb longer b bytes left e = ap (λ r. format_followed (formatted_from bytes) (verb_step verb r left)) e ∙ sym (same (formatted_from bytes (Some longer) left))

pub both : (a b : Bool) → (a && b) ≡ true → (a ≡ true) × (b ≡ true)
both true b e = (refl, e)
both false b e = absurd (true≢false (sym e))

value-le : (before : ℕ) (digits : List ℕ) → before ≤ value before digits
value-le before [] = omega arith
value-le before (b ∷ digits) = omega (arith, value-le (before * 10 + (b - 48)) digits)

digit_reads : (verb : Verb) (b : ℕ) → 48 ≤ b → b ≤ 57 → (verb.width ≡ 0 → b ≡ 48 → ⊥) → verb.width * 10 + (b - 48) ≤ 1000 → read_flag verb b ≡ More (wide verb (verb.width * 10 + (b - 48)))
digit_reads verb b low high first most =
    let small : nat_lt 1000 (verb.width * 10 + (b - 48)) ≡ false = grind (arith, nat_tests) in
    let above : nat_le 48 b ≡ true = grind (arith, nat_tests) in
    let below : nat_le b 57 ≡ true = grind (arith, nat_tests) in
    either (b == 48)
    (λ t. let some : nat_lt 0 verb.width ≡ true = either (nat_lt 0 verb.width) (λ h. h) (λ h. absurd (first (grind (arith, nat_tests)) (grind (arith, nat_tests)))) in
    rw (ne_eqb b 45 (λ e. omega (arith, low, e)), ne_eqb b 43 (λ e. omega (arith, low, e)), t, some, above, below, small) refl)
    (λ f. rw (ne_eqb b 45 (λ e. omega (arith, low, e)), ne_eqb b 43 (λ e. omega (arith, low, e)), f, above, below, small) refl)

digits_read : (digits : List ℕ) (verb : Verb) (width : ℕ) (c : Conversion) (rest : List ℕ) (left : List Data) → are_digits digits ≡ true → (verb.width ≡ 0 → BeginsWithZero digits → ⊥) → value verb.width digits ≡ width → width ≤ 1000 → formatted_from (digits ++ (letter_of c ∷ rest)) (Some verb) left ≡ format_followed (formatted_from rest) (verb_step (wide verb width) (Takes c) left)
digits_read [] verb width c rest left all first is most =
    ap (λ r. format_followed (formatted_from rest) (verb_step verb r left)) (letter_reads verb c)
    ∙ ap (λ w. format_followed (formatted_from rest) (verb_step (wide verb w) (Takes c) left)) is
digits_read (b ∷ digits) verb width c rest left all first is most =
    let parts = both (nat_le 48 b && nat_le b 57) (are_digits digits) all in
    let ends = both (nat_le 48 b) (nat_le b 57) parts.0 in
    let low : 48 ≤ b = grind (arith, nat_tests) in
    let high : b ≤ 57 = grind (arith, nat_tests) in
    let next = verb.width * 10 + (b - 48) in
    let fits : next ≤ 1000 = omega (arith, value-le (verb.width * 10 + (b - 48)) digits, is, most) in
    more verb (wide verb next) b (digits ++ (letter_of c ∷ rest)) left (digit_reads verb b low high first fits)
    ∙ digits_read digits (wide verb next) width c rest left parts.1 (λ none _. absurd (first (omega (arith, none)) (omega (arith, none, low)))) is most

-- a flag that the verb has so far, and those still to come
pub record Counts (verb so_far : Verb) (flags : List ℕ) : Type 0 where
  pub only : are_flags flags ≡ true
  pub left : once_if so_far.left + times 45 flags ≡ once_if verb.left
  pub plus : once_if so_far.plus + times 43 flags ≡ once_if verb.plus
  pub zeros : once_if so_far.zeros + times 48 flags ≡ once_if verb.zeros

once_same : (a b : Bool) → once_if a + 0 ≡ once_if b → a ≡ b
once_same true true e = refl
once_same false false e = refl
once_same true false e = absurd (omega (arith, e))
once_same false true e = absurd (omega (arith, e))

once_not : (a b : Bool) (n : ℕ) → once_if a + (1 + n) ≡ once_if b → a ≡ false
once_not false b n e = refl
once_not true true n e = absurd (omega (arith, e))
once_not true false n e = absurd (omega (arith, e))

once_more : (a b : Bool) (n : ℕ) → once_if a + (1 + n) ≡ once_if b → once_if true + n ≡ once_if b
once_more false b n e = omega (arith, e)
once_more true b n e = absurd (true≢false (once_not true b n e))

-- which flag a byte is
which : {P : Type 0} (b : ℕ) → (b == 45 || b == 43 || b == 48) ≡ true → (b ≡ 45 → P) → (b ≡ 43 → P) → (b ≡ 48 → P) → P
which b e f g h = either (b == 45) (λ t. f (grind (arith, nat_tests))) (λ n. either (b == 43) (λ t. g (grind (arith, nat_tests))) (λ m. h (let last : (b == 48) ≡ true = rw (n, m) at e in grind (arith, nat_tests))))

pub minus_reads : (verb : Verb) → verb.left ≡ false → verb.width ≡ 0 → read_flag verb 45 ≡ More (record { left = true; zeros = verb.zeros; plus = verb.plus; width = verb.width })
minus_reads verb l w = rw (l, w) refl

pub plus_reads : (verb : Verb) → verb.plus ≡ false → verb.width ≡ 0 → read_flag verb 43 ≡ More (record { left = verb.left; zeros = verb.zeros; plus = true; width = verb.width })
plus_reads verb p w = rw (p, w) refl

pub zeros_reads : (verb : Verb) → verb.zeros ≡ false → verb.width ≡ 0 → read_flag verb 48 ≡ More (record { left = verb.left; zeros = true; plus = verb.plus; width = verb.width })
zeros_reads verb z w = rw (z, w) refl

same_verb : (a b : Verb) → a.left ≡ b.left → a.zeros ≡ b.zeros → a.plus ≡ b.plus → a.width ≡ b.width → a ≡ b
same_verb a b l z p w =
    ap (λ x. record { left = x; zeros = a.zeros; plus = a.plus; width = a.width }) l
    ∙ ap (λ x. record { left = b.left; zeros = x; plus = a.plus; width = a.width }) z
    ∙ ap (λ x. record { left = b.left; zeros = b.zeros; plus = x; width = a.width }) p
    ∙ ap (λ x. record { left = b.left; zeros = b.zeros; plus = b.plus; width = x }) w

flags_read : (flags : List ℕ) (verb so_far : Verb) (bytes : List ℕ) (left : List Data) → so_far.width ≡ 0 → Counts verb so_far flags → formatted_from (flags ++ bytes) (Some so_far) left ≡ formatted_from bytes (Some (wide verb 0)) left
flags_read [] verb so_far bytes left w h =
    ap (λ v. formatted_from bytes (Some v) left) (same_verb so_far (wide verb 0) (once_same so_far.left verb.left h.left) (once_same so_far.zeros verb.zeros h.zeros) (once_same so_far.plus verb.plus h.plus) w)
flags_read (b ∷ flags) verb so_far bytes left w h =
    let parts = both (b == 45 || b == 43 || b == 48) (are_flags flags) h.only in
    which b parts.0
    (λ e. let k = subst (λ (x : ℕ). Counts verb so_far (x ∷ flags)) e h in
    let longer : Verb = record { left = true; zeros = so_far.zeros; plus = so_far.plus; width = so_far.width } in
    rw e (more so_far longer 45 (flags ++ bytes) left (minus_reads so_far (once_not so_far.left verb.left (times 45 flags) k.left) w)
    ∙ flags_read flags verb longer bytes left w (record { only = parts.1; left = once_more so_far.left verb.left (times 45 flags) k.left; plus = omega (arith, k.plus); zeros = omega (arith, k.zeros) })))
    (λ e. let k = subst (λ (x : ℕ). Counts verb so_far (x ∷ flags)) e h in
    let longer : Verb = record { left = so_far.left; zeros = so_far.zeros; plus = true; width = so_far.width } in
    rw e (more so_far longer 43 (flags ++ bytes) left (plus_reads so_far (once_not so_far.plus verb.plus (times 43 flags) k.plus) w)
    ∙ flags_read flags verb longer bytes left w (record { only = parts.1; left = omega (arith, k.left); plus = once_more so_far.plus verb.plus (times 43 flags) k.plus; zeros = omega (arith, k.zeros) })))
    (λ e. let k = subst (λ (x : ℕ). Counts verb so_far (x ∷ flags)) e h in
    let longer : Verb = record { left = so_far.left; zeros = true; plus = so_far.plus; width = so_far.width } in
    rw e (more so_far longer 48 (flags ++ bytes) left (zeros_reads so_far (once_not so_far.zeros verb.zeros (times 48 flags) k.zeros) w)
    ∙ flags_read flags verb longer bytes left w (record { only = parts.1; left = omega (arith, k.left); plus = omega (arith, k.plus); zeros = once_more so_far.zeros verb.zeros (times 48 flags) k.zeros })))

-- a verb that is spelled is read as itself, whatever follows
pub verb_reads : (verb : Verb) (c : Conversion) (bytes rest : List ℕ) → IsVerb verb c bytes rest → (left : List Data) → formatted_from bytes (Some bare) left ≡ format_followed (formatted_from rest) (verb_step verb (Takes c) left)
verb_reads verb c bytes rest h left =
    ap (λ (b : List ℕ). formatted_from b (Some bare) left) h.spelled
    ∙ flags_read h.flags verb bare (h.digits ++ (letter_of c ∷ rest)) left refl (record { only = h.has_flags.only; left = omega (arith, h.has_flags.left); plus = omega (arith, h.has_flags.plus); zeros = omega (arith, h.has_flags.zeros) })
    ∙ digits_read h.digits (wide verb 0) verb.width c rest left h.has_width.only (λ _. h.has_width.first) h.has_width.is h.has_width.most
