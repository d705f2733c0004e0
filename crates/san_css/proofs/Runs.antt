-- A run of bytes that stay is written as it is, and a text may be cut behind it.
use Rattle.std.proofs.Common.{◌≡◌, ℕ, suc, ◌+◌, ◌<◌, ◌≤◌, ◌==◌, ◌&&◌, ◌++◌, not, Bool, true, false, List, [], ◌∷◌, length, take, drop, get_or, refl, sym, ap, ◌∙◌, inl, inr, subst, arith}
use Rattle.std.specs.List.{prefix_len}
use Rattle.std.specs.Str.{IsCharBoundary, IsUtf8}
use Rattle.std.proofs.lemmas.Bool.{and_parts, cases_Bool, cases_lt, eqb-true, true≢false, ne_eqb}
use Rattle.std.proofs.lemmas.List.{append_assoc}
use Rattle.std.proofs.lemmas.Str.{IsCharBoundary-after_ascii, IsUtf8-drop}
use Rattle.std.proofs.lemmas.List.Sums.{prefix_len_stops}
use Rattle.css_lexer.specs.Sanitizers.{css_string, string_byte, string_digits}
use Rattle.san_css.specs.Strings.{is_string_kept, StringRestWrites}

not-92 : (b : ℕ) → is_string_kept b ≡ true → (b == 92) ≡ false
not-92 b e = elim (cases_Bool (b == 92)) [
  | inl t ↦ absurd (true≢false (sym e ∙ ap (λ (t : Bool). not t && length (string_digits b) == 0) t))
  | inr f ↦ f
]

suc≢zero : (n : ℕ) → suc n ≡ 0 → ⊥
suc≢zero n e = omega (arith, e)

stays-by : (b : ℕ) (bs ds : List ℕ) → (b == 92) ≡ false → (length ds == 0) ≡ true → string_byte ds b bs ≡ b ∷ []
stays-by b bs [] e k = rw e refl
stays-by b bs (d ∷ ds) e k = absurd (suc≢zero (length ds) (eqb-true (suc (length ds)) 0 k))

-- a byte that is kept is written as it is
pub stays : (b : ℕ) (bs : List ℕ) → is_string_kept b ≡ true → string_byte (string_digits b) b bs ≡ b ∷ []
stays b bs e = stays-by b bs (string_digits b) (not-92 b e) (and_parts (not (b == 92)) (length (string_digits b) == 0) e).1

one_more : (n : ℕ) → 1 + n ≡ suc n
one_more n = omega arith

-- a text is written as the run at its beginning, and then as what is behind it
run-then : (text : List ℕ) → css_string text ≡ take (prefix_len is_string_kept text) text ++ css_string (drop (prefix_len is_string_kept text) text)
run-then [] = refl
run-then (b ∷ bs) = elim (cases_Bool (is_string_kept b)) [
  | inl t ↦ rw (t, one_more (prefix_len is_string_kept bs), stays b bs t) (ap (λ (xs : List ℕ). b ∷ xs) (run-then bs))
  | inr f ↦ rw f refl
]

-- what is not kept is ASCII
pub kept-high : (b : ℕ) → 128 ≤ b → is_string_kept b ≡ true
kept-high b h =
    let other : (n : ℕ) → n < 128 → (b == n) ≡ false = λ n low. ne_eqb b n (λ e. omega (arith, h, e, low)) in
    rw (other 92 (omega arith), other 0 (omega arith), other 9 (omega arith), other 10 (omega arith), other 12 (omega arith), other 13 (omega arith), other 34 (omega arith), other 38 (omega arith), other 39 (omega arith), other 40 (omega arith), other 41 (omega arith), other 43 (omega arith), other 47 (omega arith), other 58 (omega arith), other 59 (omega arith), other 60 (omega arith), other 62 (omega arith), other 123 (omega arith), other 125 (omega arith)) refl

-- a text may be cut behind a run of bytes that stay
pub cut-behind : (text : List ℕ) (run : ℕ) → run ≡ prefix_len is_string_kept text → run ≤ length text → IsCharBoundary text run
cut-behind text run is fits = (
  fits,
  λ inside high.
      let stops : is_string_kept (get_or text run 0) ≡ false = ap (λ (i : ℕ). is_string_kept (get_or text i 0)) is ∙ prefix_len_stops is_string_kept text 0 (omega (arith, is, inside)) in
      absurd (true≢false (sym (kept-high (get_or text run 0) high) ∙ stops)),
)

stops-at : (text : List ℕ) → 0 < length (drop (prefix_len is_string_kept text) text) → is_string_kept (get_or (drop (prefix_len is_string_kept text) text) 0 0) ≡ false
stops-at [] = λ some. absurd (omega (arith, some))
stops-at (b ∷ bs) = elim (cases_Bool (is_string_kept b)) [
  | inl t ↦ rw (t, one_more (prefix_len is_string_kept bs)) (λ some. stops-at bs some)
  | inr f ↦ rw f (λ some. f)
]

-- the byte behind the run does not stay
pub stops-behind : (text behind : List ℕ) (run : ℕ) → run ≡ prefix_len is_string_kept text → behind ≡ drop run text → 0 < length behind → is_string_kept (get_or behind 0 0) ≡ false
stops-behind text behind run is at some =
    let here : behind ≡ drop (prefix_len is_string_kept text) text = at ∙ ap (λ (n : ℕ). drop n text) is in
    ap (λ (bs : List ℕ). is_string_kept (get_or bs 0 0)) here ∙ stops-at text (omega (arith, ap length here, some))

low : (b : ℕ) → is_string_kept b ≡ false → b < 128
low b e = elim (cases_lt b 128) [
  | inl h ↦ h
  | inr h ↦ absurd (true≢false (sym (kept-high b h) ∙ e))
]

-- and behind that byte too a text may be cut
pub cut-behind-byte : (text behind : List ℕ) (run : ℕ) → IsUtf8 text → run ≡ prefix_len is_string_kept text → run ≤ length text → behind ≡ drop run text → 0 < length behind → IsCharBoundary behind 1
cut-behind-byte text behind run u is fits at some =
    IsCharBoundary-after_ascii behind 0 (subst IsUtf8 (sym at) (IsUtf8-drop text run u (cut-behind text run is fits))) some (low (get_or behind 0 0) (stops-behind text behind run is at some))

-- what is written before and behind a run comes to the same
pub run-written : (text front behind before after : List ℕ) (run : ℕ) → run ≡ prefix_len is_string_kept text → front ≡ take run text → behind ≡ drop run text → after ≡ before ++ front → StringRestWrites text behind before after
run-written text front behind before after run is f b e =
    let whole : front ++ css_string behind ≡ css_string text = rw (f, b, is) (sym (run-then text)) in
    ap (λ (bs : List ℕ). bs ++ css_string behind) e ∙ append_assoc before front (css_string behind) ∙ ap (λ (bs : List ℕ). before ++ bs) whole

first-then : (behind : List ℕ) → 0 < length behind → css_string behind ≡ string_byte (string_digits (get_or behind 0 0)) (get_or behind 0 0) (drop 1 behind) ++ css_string (drop 1 behind)
first-then [] some = absurd (omega (arith, some))
first-then (b ∷ bs) some = refl

-- and of the byte behind it
pub byte-written : (text behind before between after : List ℕ) → 0 < length behind → StringRestWrites text behind before between → after ≡ between ++ string_byte (string_digits (get_or behind 0 0)) (get_or behind 0 0) (drop 1 behind) → StringRestWrites text (drop 1 behind) before after
byte-written text behind before between after some h e =
    ap (λ (bs : List ℕ). bs ++ css_string (drop 1 behind)) e
    ∙ append_assoc between (string_byte (string_digits (get_or behind 0 0)) (get_or behind 0 0) (drop 1 behind)) (css_string (drop 1 behind))
    ∙ ap (λ (bs : List ℕ). between ++ bs) (sym (first-then behind some))
    ∙ h
