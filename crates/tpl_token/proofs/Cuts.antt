-- Where a text may be cut: at its ASCII bytes, which no character has but their own.
use Rattle.std.proofs.Common.{◌≡◌, ℕ, ◌+◌, ◌<◌, ◌≤◌, Bool, true, false, ◌==◌, List, [], ◌∷◌, length, take, drop, drop-cons, get_or, Option, Some, None, option_and_then, option_map, refl, sym, ap, ◌∙◌, subst, arith, codes}
use Rattle.std.proofs.lemmas.Bool.Decides.{nat_tests}
use Rattle.std.proofs.lemmas.List.{get_or-drop, get_or-take, length-drop}
use Rattle.std.proofs.lemmas.List.Sums.{prefix_len_stops}
use Rattle.std.proofs.lemmas.Slice.Eq.{bytes_eq-Decides}
use Rattle.std.proofs.lemmas.Str.{IsCharBoundary-after_ascii}
use Rattle.std.proofs.lemmas.Str.Ascii.{IsAscii-nil, IsAscii-cons}
use Rattle.std.specs.List.{prefix_len}
use Rattle.std.specs.Str.{IsAscii, IsCharBoundary, IsUtf8, bytes_eq}
use Rattle.tpl_token.specs.Characters.{begins, first_is}
use Rattle.tpl_token.specs.Numbers.{numeral}
use Rattle.tpl_token.specs.Strings.{character, escaped_character, is_plain_byte, is_raw, short_escape}
use Rattle.tpl_token.specs.Scanning.{escape_at, escape_len}
use Rattle.tpl_token.proofs.Digits.{digits_ascii, numeral_all}
use Rattle.tpl_token.proofs.Marks.{split, begins-is, one_more}

-- before an ASCII byte
pub cut_before : (text : List ℕ) (i : ℕ) → i ≤ length text → get_or text i 0 < 128 → IsCharBoundary text i
cut_before text i fits ascii = (fits, λ inside high. absurd (omega arith))

-- after a run that only an ASCII byte ends
pub cut_after_run : (p : ℕ → Bool) (text : List ℕ) (at run : ℕ) → ((b : ℕ) → p b ≡ false → b < 128) → run ≡ prefix_len p (drop at text) → at + run ≤ length text → IsCharBoundary text (at + run)
cut_after_run p text at run ascii is fits = (
  fits,
  λ inside high.
      let n : prefix_len p (drop at text) < length (drop at text) = omega (arith, is, length-drop at text) in
      let stops = ascii (get_or (drop at text) (prefix_len p (drop at text)) 0) (prefix_len_stops p (drop at text) 0 n) in
      let there : get_or (drop at text) (prefix_len p (drop at text)) 0 ≡ get_or text (at + run) 0 = ap (λ (i : ℕ). get_or (drop at text) i 0) (sym is) ∙ get_or-drop at text run 0 in
      absurd (omega (arith, stops, there, high)),
)

then_some : (f : ℕ → Option ℕ) (o : Option ℕ) (c : ℕ) → option_and_then f o ≡ Some c → (n : ℕ) × (o ≡ Some n)
then_some f None c e = cc
then_some f (Some n) c e = (n, refl)

letter_ascii : (b : ℕ) (bytes : List ℕ) → b < 128 → bytes_eq bytes (b ∷ []) ≡ true → IsAscii bytes
letter_ascii b bytes small e = subst IsAscii (sym ((bytes_eq-Decides bytes (b ∷ [])).0 e)) (IsAscii-cons b [] small IsAscii-nil)

short_ascii : (bytes : List ℕ) (c : ℕ) → short_escape bytes ≡ Some c → IsAscii bytes
short_ascii bytes c e =
    split (bytes_eq bytes (codes "n")) e (λ t _. letter_ascii 110 bytes (omega arith) t)
    (λ _ e. split (bytes_eq bytes (codes "r")) e (λ t _. letter_ascii 114 bytes (omega arith) t)
    (λ _ e. split (bytes_eq bytes (codes "t")) e (λ t _. letter_ascii 116 bytes (omega arith) t)
    (λ _ e. split (bytes_eq bytes (codes "\\")) e (λ t _. letter_ascii 92 bytes (omega arith) t)
    (λ _ e. split (bytes_eq bytes (codes "\"")) e (λ t _. letter_ascii 34 bytes (omega arith) t) (λ _ e. cc)))))

coded_ascii : (b limit : ℕ) (bytes : List ℕ) (c : ℕ) → b < 128 → begins (b ∷ []) bytes ≡ true → option_and_then (character limit) (numeral 16 (drop 1 bytes)) ≡ Some c → IsAscii bytes
coded_ascii b limit bytes c small first e =
    let h = then_some (character limit) (numeral 16 (drop 1 bytes)) c e in
    subst IsAscii (sym (begins-is (b ∷ []) bytes first)) (IsAscii-cons b (drop 1 bytes) small (digits_ascii 16 (drop 1 bytes) (omega arith) (numeral_all 16 (drop 1 bytes) h.0 h.1)))

-- the bytes of an escape
pub escaped_ascii : (bytes : List ℕ) (c : ℕ) → escaped_character bytes ≡ Some c → IsAscii bytes
escaped_ascii bytes c e =
    split (begins (codes "x") bytes) e
    (λ t e. split (length bytes == 3) e (λ _ e. coded_ascii 120 128 bytes c (omega arith) t e) (λ _ e. cc))
    (λ _ e. split (begins (codes "u") bytes) e
    (λ t e. split (length bytes == 5) e (λ _ e. coded_ascii 117 65536 bytes c (omega arith) t e) (λ _ e. cc))
    (λ _ e. short_ascii bytes c e))

pub plain_ascii : (b : ℕ) → is_plain_byte b ≡ false → b < 128
plain_ascii b no_plain = grind (arith, nat_tests)

pub raw_ascii : (b : ℕ) → is_raw b ≡ false → b < 128
raw_ascii b quote = grind (arith, nat_tests)

mapped : {A B : Type 0} (f : A → B) (o : Option A) (y : B) → option_map f o ≡ Some y → (x : A) × (o ≡ Some x) × (f x ≡ y)
mapped f None y e = cc
mapped f (Some x) y e = (x, refl, cc)

pub escape_is : (bs : List ℕ) (c n : ℕ) → escape_at bs ≡ Some (c, n) → (escape_len bs ≡ n) × (escaped_character (take n bs) ≡ Some c)
escape_is bs c n e =
    let h = mapped (λ (d : ℕ). (d, escape_len bs)) (escaped_character (take (escape_len bs) bs)) (c, n) e in
    let len : escape_len bs ≡ n = ap (λ (x : ℕ × ℕ). x.1) h.2 in
    (len, ap (λ (k : ℕ). escaped_character (take k bs)) (sym len) ∙ h.1 ∙ ap (λ (x : ℕ × ℕ). Some x.0) h.2)

-- after an escape
pub cut_after_escape : (text rest more : List ℕ) (at c n next : ℕ) → IsUtf8 text → rest ≡ drop at text → begins (codes "\\") rest ≡ true → more ≡ drop 1 rest → escape_at more ≡ Some (c, n) → n ≤ length more → next ≡ at + (1 + n) → IsCharBoundary text next
cut_after_escape text rest more at c n next utf8 rest_is first after is fits next_is =
    let one : drop at text ≡ 92 ∷ more = sym rest_is ∙ begins-is (codes "\\") rest first ∙ ap (λ (xs : List ℕ). 92 ∷ xs) (sym after) in
    let all : IsAscii (92 ∷ take n more) = IsAscii-cons 92 (take n more) (omega arith) (escaped_ascii (take n more) c (escape_is more c n is).1) in
    let form : 92 ∷ take n more ≡ take (1 + n) (drop at text) = rw (one, one_more n) refl in
    let last : get_or (92 ∷ take n more) n 0 ≡ get_or text (at + n) 0 = ap (λ (xs : List ℕ). get_or xs n 0) form ∙ get_or-take (1 + n) (drop at text) n 0 (omega arith) ∙ get_or-drop at text n 0 in
    let inside : at + n < length text = omega (arith, fits, ap length one, length-drop at text) in
    let same : at + n + 1 ≡ next = omega (arith, next_is) in
    subst (IsCharBoundary text) same (IsCharBoundary-after_ascii text (at + n) utf8 inside (omega (arith, last, all n)))

-- after the ASCII byte that ends a run
pub cut_after_stop : (p : ℕ → Bool) (text : List ℕ) (at : ℕ) → IsUtf8 text → ((b : ℕ) → p b ≡ false → b < 128) → first_is p (drop at text) ≡ false → at < length text → IsCharBoundary text (at + 1)
cut_after_stop p text at utf8 ascii stops inside =
    let first : first_is p (drop at text) ≡ p (get_or text at 0) = ap (first_is p) (drop-cons text at 0 inside) in
    IsCharBoundary-after_ascii text at utf8 inside (ascii (get_or text at 0) (sym first ∙ stops))
