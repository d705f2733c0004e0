-- What is read as a verb is spelled so.
use Rattle.std.proofs.Common.{◌≡◌, ℕ, ◌+◌, ◌*◌, ◌-◌, ◌<◌, ◌≤◌, Bool, true, false, not, ◌&&◌, ◌||◌, List, [], ◌∷◌, ◌++◌, Some, None, refl, sym, ap, ◌∙◌, subst, arith, nat_lt, nat_le, ◌==◌, true≢false, ◌⊎◌, inl, inr, ⊎_elim}
use Rattle.std.proofs.lemmas.Bool.{ne_eqb}
use Rattle.std.proofs.lemmas.Bool.Decides.{nat_tests}
use Rattle.page_datum.specs.Data.{Data}
use Rattle.tpl_format.proofs.SpellingReads.{both, Counts, more, minus_reads, plus_reads, wide, zeros_reads}
use Rattle.tpl_format.proofs.Steps.{either}
use Rattle.tpl_format.specs.Formats.{format_followed, formatted_from, verb_step}
use Rattle.tpl_format.specs.Spelling.{are_digits, HasWidth, IsVerb, letter_of, once_if, times, value}
use Rattle.tpl_format.specs.Verbs.{bare, is_bare, letter, read_flag}
use Rattle.tpl_format.specs.declared.verb.Verb.{Verb}
use Rattle.tpl_format.specs.declared.verb.Conversion.{Conversion}
use Rattle.tpl_format.specs.declared.verb.Conversion.TheVariants.{Decimal, Hex, Itself, Truth, Any}
use Rattle.tpl_format.specs.declared.verb.VerbState.TheVariants.{More, Takes, Bad}

or_true : (a : Bool) → (a || true) ≡ true
or_true true = refl
or_true false = refl

and_false : (a : Bool) → (a && false) ≡ false
and_false true = refl
and_false false = refl

all_of : {a b : Bool} → a ≡ true → b ≡ true → (a && b) ≡ true
all_of e f = rw (e, f) refl

once_add : (a b : Bool) (n : ℕ) → a ≡ false → once_if true + n ≡ once_if b → once_if a + (1 + n) ≡ once_if b
once_add false b n lacks e = omega (arith, e)
once_add true b n lacks e = absurd (true≢false lacks)

is : (b c : ℕ) → (b == c) ≡ true → b ≡ c
is b c t = grind (arith, nat_tests)

-- which letter a byte is
letters : {P : Type 0} (b : ℕ) → (letter b ≡ Bad → P) → ((c : Conversion) → b ≡ letter_of c → letter b ≡ Takes c → P) → P
letters b f g =
    either (b == 100) (λ t. g Decimal (is b 100 t) (rw t refl))
    (λ d. either (b == 120) (λ t. g Hex (is b 120 t) (rw (d, t) refl))
    (λ x. either (b == 115) (λ t. g Itself (is b 115 t) (rw (d, x, t) refl))
    (λ s. either (b == 116) (λ t. g Truth (is b 116 t) (rw (d, x, s, t) refl))
    (λ u. either (b == 118) (λ t. g Any (is b 118 t) (rw (d, x, s, u, t) refl))
    (λ v. f (rw (d, x, s, u, v) refl))))))

-- a byte that is no flag, digit or `%` is read as a letter
letter_read : (verb : Verb) (b : ℕ) → (b == 45) ≡ false → (b == 43) ≡ false → ((b == 48) && not (nat_lt 0 verb.width)) ≡ false → (nat_le 48 b && nat_le b 57) ≡ false → (b == 37) ≡ false → read_flag verb b ≡ letter b
letter_read verb b m p z d s = rw (m, p, z, d, s) refl

digit_read : (verb : Verb) (b : ℕ) → (b == 45) ≡ false → (b == 43) ≡ false → ((b == 48) && not (nat_lt 0 verb.width)) ≡ false → (nat_le 48 b && nat_le b 57) ≡ true → {P : Type 0} → (read_flag verb b ≡ Bad → P) → (verb.width * 10 + (b - 48) ≤ 1000 → read_flag verb b ≡ More (wide verb (verb.width * 10 + (b - 48))) → P) → P
digit_read verb b m p z d f g = either (nat_lt 1000 (verb.width * 10 + (b - 48)))
    (λ t. f (rw (m, p, z, d, t) refl))
    (λ n. g (grind (arith, nat_tests)) (rw (m, p, z, d, n) refl))

-- what a byte is after a digit
read_wide : {P : Type 0} (verb : Verb) (b : ℕ) → 0 < verb.width → (read_flag verb b ≡ Bad → P) → ((nat_le 48 b && nat_le b 57) ≡ true → verb.width * 10 + (b - 48) ≤ 1000 → read_flag verb b ≡ More (wide verb (verb.width * 10 + (b - 48))) → P) → ((c : Conversion) → b ≡ letter_of c → read_flag verb b ≡ Takes c → P) → P
read_wide verb b some f g h =
    let has : nat_lt 0 verb.width ≡ true = grind (arith, nat_tests) in
    let no_zero : ((b == 48) && not (nat_lt 0 verb.width)) ≡ false = rw has (and_false (b == 48)) in
    either (b == 45) (λ t. f (rw (t, has, or_true verb.left) refl))
    (λ m. either (b == 43) (λ t. f (rw (m, t, has, or_true verb.plus) refl))
    (λ p. either (nat_le 48 b && nat_le b 57) (λ d. digit_read verb b m p no_zero d f (g d))
    (λ d. either (b == 37)
    (λ t. f (rw (m, p, no_zero, d, t, ne_eqb verb.width 0 (λ e. omega (arith, some, e)), and_false (not verb.left && not verb.zeros && not verb.plus)) refl))
    (λ s. letters b (λ e. f (letter_read verb b m p no_zero d s ∙ e)) (λ c e r. h c e (letter_read verb b m p no_zero d s ∙ r))))))

-- what a byte is before any digit
read_open : {P : Type 0} (verb : Verb) (b : ℕ) → verb.width ≡ 0 → (read_flag verb b ≡ Bad → P) → (b ≡ 37 → is_bare verb ≡ true → P) → (b ≡ 45 → verb.left ≡ false → P) → (b ≡ 43 → verb.plus ≡ false → P) → (b ≡ 48 → verb.zeros ≡ false → P) → ((nat_le 48 b && nat_le b 57) ≡ true → (b ≡ 48 → ⊥) → verb.width * 10 + (b - 48) ≤ 1000 → read_flag verb b ≡ More (wide verb (verb.width * 10 + (b - 48))) → P) → ((c : Conversion) → b ≡ letter_of c → read_flag verb b ≡ Takes c → P) → P
read_open verb b none f sign minus plus zeros g h =
    either (b == 45) (λ t. either verb.left (λ l. f (rw (t, l) refl)) (λ l. minus (is b 45 t) l))
    (λ m. either (b == 43) (λ t. either verb.plus (λ l. f (rw (m, t, l) refl)) (λ l. plus (is b 43 t) l))
    (λ p. either (b == 48) (λ t. either verb.zeros (λ l. f (rw (m, p, t, none, l) refl)) (λ l. zeros (is b 48 t) l))
    (λ z. let no_zero : ((b == 48) && not (nat_lt 0 verb.width)) ≡ false = rw z refl in
    either (nat_le 48 b && nat_le b 57) (λ d. digit_read verb b m p no_zero d f (g d (λ e. absurd (true≢false (sym (ap (λ (x : ℕ). x == 48) e) ∙ z)))))
    (λ d. either (b == 37)
    (λ t. either (is_bare verb) (λ l. sign (is b 37 t) l) (λ l. f (rw (m, p, no_zero, d, t, l) refl)))
    (λ s. letters b (λ e. f (letter_read verb b m p no_zero d s ∙ e)) (λ c e r. h c e (letter_read verb b m p no_zero d s ∙ r)))))))

nothing : (verb : Verb) (b : ℕ) (bytes : List ℕ) (left : List Data) (made : List ℕ) → read_flag verb b ≡ Bad → formatted_from (b ∷ bytes) (Some verb) left ≡ Some made → ⊥
nothing verb b bytes left made bad e =
    let none : None ≡ Some made = sym (ap (λ r. format_followed (formatted_from bytes) (verb_step verb r left)) bad) ∙ e in cc

-- digits after others, and the letter
record Digits (width : ℕ) (bytes : List ℕ) : Type 0 where
  pub digits : List ℕ
  pub conversion : Conversion
  pub rest : List ℕ
  pub only : are_digits digits ≡ true
  pub most : value width digits ≤ 1000
  pub spelled : bytes ≡ digits ++ (letter_of conversion ∷ rest)

digits_stand : (bytes : List ℕ) (verb : Verb) (left : List Data) (made : List ℕ) → 0 < verb.width → verb.width ≤ 1000 → formatted_from bytes (Some verb) left ≡ Some made → Digits verb.width bytes
digits_stand [] verb left made some most e = cc
digits_stand (b ∷ bytes) verb left made some most e = read_wide verb b some
    (λ bad. absurd (nothing verb b bytes left made bad e))
    (λ d fits reads.
    let next = verb.width * 10 + (b - 48) in
    let h = digits_stand bytes (wide verb next) left made (omega (arith, some)) fits (sym (more verb (wide verb next) b bytes left reads) ∙ e) in
    record { digits = b ∷ h.digits; conversion = h.conversion; rest = h.rest; only = all_of d h.only; most = h.most; spelled = ap (λ t. b ∷ t) h.spelled })
    (λ c is reads. record { digits = []; conversion = c; rest = bytes; only = refl; most = most; spelled = ap (λ x. x ∷ bytes) is })

-- flags that a verb so far lacks, a width and the letter
record Flags (so_far : Verb) (bytes : List ℕ) : Type 0 where
  pub verb : Verb
  pub flags : List ℕ
  pub digits : List ℕ
  pub conversion : Conversion
  pub rest : List ℕ
  pub counts : Counts verb so_far flags
  pub width : HasWidth verb digits
  pub spelled : bytes ≡ flags ++ (digits ++ (letter_of conversion ∷ rest))

-- `%` after a `%`
record Sign (so_far : Verb) (bytes : List ℕ) : Type 0 where
  pub bare : is_bare so_far ≡ true
  pub rest : List ℕ
  pub spelled : bytes ≡ 37 ∷ rest

no_flag : (a : Bool) → once_if a + 0 ≡ once_if a
no_flag true = refl
no_flag false = refl

no_flags : (verb : Verb) (width : ℕ) → Counts (wide verb width) verb []
no_flags verb width = record { only = refl; left = no_flag verb.left; plus = no_flag verb.plus; zeros = no_flag verb.zeros }

-- a width before the letter
widened : (verb : Verb) (b : ℕ) (bytes : List ℕ) → verb.width ≡ 0 → (nat_le 48 b && nat_le b 57) ≡ true → (b ≡ 48 → ⊥) → Digits (verb.width * 10 + (b - 48)) bytes → Flags verb (b ∷ bytes)
widened verb b bytes none d first h =
    let width = value (verb.width * 10 + (b - 48)) h.digits in
    let is : value 0 (b ∷ h.digits) ≡ width = ap (λ (n : ℕ). value (n * 10 + (b - 48)) h.digits) (sym none) in
    record { verb = wide verb width; flags = []; digits = b ∷ h.digits; conversion = h.conversion; rest = h.rest; counts = no_flags verb width; width = record { only = all_of d h.only; first = first; is = is; most = h.most }; spelled = ap (λ t. b ∷ t) h.spelled }

flags_stand : (bytes : List ℕ) (verb : Verb) (left : List Data) (made : List ℕ) → verb.width ≡ 0 → formatted_from bytes (Some verb) left ≡ Some made → Flags verb bytes ⊎ Sign verb bytes
flags_stand [] verb left made none e = cc
flags_stand (b ∷ bytes) verb left made none e = read_open verb b none
    (λ bad. absurd (nothing verb b bytes left made bad e))
    (λ is bare. inr (record { bare = bare; rest = bytes; spelled = ap (λ x. x ∷ bytes) is }))
    (λ is l.
    let longer : Verb = record { left = true; zeros = verb.zeros; plus = verb.plus; width = verb.width } in
    let k = subst (λ (x : ℕ). formatted_from (x ∷ bytes) (Some verb) left ≡ Some made) is e in
    ⊎_elim
    (λ h. inl (record { verb = h.verb; flags = 45 ∷ h.flags; digits = h.digits; conversion = h.conversion; rest = h.rest; counts = record { only = h.counts.only; left = once_add verb.left h.verb.left (times 45 h.flags) l h.counts.left; plus = omega (arith, h.counts.plus); zeros = omega (arith, h.counts.zeros) }; width = h.width; spelled = ap (λ x. x ∷ bytes) is ∙ ap (λ t. 45 ∷ t) h.spelled }))
    (λ s. absurd (true≢false (sym s.bare)))
    (flags_stand bytes longer left made none (sym (more verb longer 45 bytes left (minus_reads verb l none)) ∙ k)))
    (λ is l.
    let longer : Verb = record { left = verb.left; zeros = verb.zeros; plus = true; width = verb.width } in
    let k = subst (λ (x : ℕ). formatted_from (x ∷ bytes) (Some verb) left ≡ Some made) is e in
    ⊎_elim
    (λ h. inl (record { verb = h.verb; flags = 43 ∷ h.flags; digits = h.digits; conversion = h.conversion; rest = h.rest; counts = record { only = h.counts.only; left = omega (arith, h.counts.left); plus = once_add verb.plus h.verb.plus (times 43 h.flags) l h.counts.plus; zeros = omega (arith, h.counts.zeros) }; width = h.width; spelled = ap (λ x. x ∷ bytes) is ∙ ap (λ t. 43 ∷ t) h.spelled }))
    (λ s. let full : is_bare longer ≡ false = rw (and_false (not verb.left && not verb.zeros)) refl in absurd (true≢false (sym s.bare ∙ full)))
    (flags_stand bytes longer left made none (sym (more verb longer 43 bytes left (plus_reads verb l none)) ∙ k)))
    (λ is l.
    let longer : Verb = record { left = verb.left; zeros = true; plus = verb.plus; width = verb.width } in
    let k = subst (λ (x : ℕ). formatted_from (x ∷ bytes) (Some verb) left ≡ Some made) is e in
    ⊎_elim
    (λ h. inl (record { verb = h.verb; flags = 48 ∷ h.flags; digits = h.digits; conversion = h.conversion; rest = h.rest; counts = record { only = h.counts.only; left = omega (arith, h.counts.left); plus = omega (arith, h.counts.plus); zeros = once_add verb.zeros h.verb.zeros (times 48 h.flags) l h.counts.zeros }; width = h.width; spelled = ap (λ x. x ∷ bytes) is ∙ ap (λ t. 48 ∷ t) h.spelled }))
    (λ s. let full : is_bare longer ≡ false = rw (and_false (not verb.left)) refl in absurd (true≢false (sym s.bare ∙ full)))
    (flags_stand bytes longer left made none (sym (more verb longer 48 bytes left (zeros_reads verb l none)) ∙ k)))
    (λ d first fits reads.
    let next = verb.width * 10 + (b - 48) in
    let ends = both (nat_le 48 b) (nat_le b 57) d in
    let low : 48 ≤ b = grind (arith, nat_tests) in
    let some : 0 < next = either (b == 48) (λ t. absurd (first (is b 48 t))) (λ z. grind (arith, nat_tests)) in
    let h = digits_stand bytes (wide verb next) left made some fits (sym (more verb (wide verb next) b bytes left reads) ∙ e) in
    inl (widened verb b bytes none d first h))
    (λ c is reads. inl (record { verb = wide verb 0; flags = []; digits = []; conversion = c; rest = bytes; counts = no_flags verb 0; width = record { only = refl; first = λ x. x; is = refl; most = omega arith }; spelled = ap (λ x. x ∷ bytes) is }))

-- after a `%` of a format that makes a text stands a verb that is spelled, or one more `%`
pub verb_stands : (bytes : List ℕ) (left : List Data) (made : List ℕ) → formatted_from bytes (Some bare) left ≡ Some made → ((verb : Verb) × (c : Conversion) × (rest : List ℕ) × IsVerb verb c bytes rest) ⊎ ((rest : List ℕ) × (bytes ≡ 37 ∷ rest))
verb_stands bytes left made e = ⊎_elim
    (λ h. inl (h.verb, h.conversion, h.rest, record { flags = h.flags; digits = h.digits; has_flags = record { only = h.counts.only; left = omega (arith, h.counts.left); plus = omega (arith, h.counts.plus); zeros = omega (arith, h.counts.zeros) }; has_width = h.width; spelled = h.spelled }))
    (λ s. inr (s.rest, s.spelled))
    (flags_stand bytes bare left made refl e)
