-- What is written of a text in a string, or in a regular expression, reads back as the text.
use Rattle.std.proofs.Common.{◌≡◌, ◌||◌, ◌-◌, ◌==◌, ℕ, zero, suc, Bool, true, false, not, bytes_eq, codes, encode_utf8, length, map, take, drop, List, [], ◌∷◌, ◌++◌, if◌then◌else◌, refl, sym, ap, subst, ◌∙◌, arith}
use Rattle.std.proofs.lemmas.Bool.Decides.{nat_tests}
use Rattle.std.specs.Bool.{⊤}
use Rattle.std.specs.Cmp.Lexicographic.{bytes_decides}
use Rattle.js_lexer.specs.Plain.{IsStringBack, IsRegexpBack}
use Rattle.js_lexer.specs.Sanitizers.{Rows, script_stands_at, escaped_at, taken_at, escaped_from, string_rows, regexp_rows, js_string, empty_expression, js_regexp}
use Rattle.js_lexer.specs.Undone.{Outside, undone_from, script_escapes_undone}

-- What a row writes is undone as its character; of which this many bytes are besides the first.
pub record IsUndone (row : ℕ × List ℕ) : Type 0 where
  pub more : ℕ
  pub len : length (encode_utf8 row.0) ≡ suc more
  pub taken : length (encode_utf8 row.0) - 1 ≡ more
  pub undone : (rest : List ℕ) → undone_from Outside (row.1 ++ rest) ≡ encode_utf8 row.0 ++ undone_from Outside rest

abbrev pub AreUndone : Rows → Type 0
AreUndone [] = ⊤
AreUndone (row ∷ rows) = IsUndone row × AreUndone rows

-- a row is of what stands there, or that is no backslash
abbrev pub guards : Rows → List ℕ → Bool
guards [] [] = true
guards [] (b ∷ bs) = not (b == 92)
guards (row ∷ rows) bytes = script_stands_at row.0 bytes || guards rows bytes

-- so many bytes are written, and undone
abbrev pub IsBack : List ℕ → List ℕ → List ℕ → ℕ → Type 0
IsBack bytes rest written n = undone_from Outside (written ++ rest) ≡ take (suc n) bytes ++ undone_from Outside rest

either-back : (bytes rest : List ℕ) (x g : Bool) (v w : List ℕ) (m n : ℕ) → (x ≡ true → IsBack bytes rest v m) → (g ≡ true → IsBack bytes rest w n) → x || g ≡ true
    → IsBack bytes rest (if x then v else w) (if x then m else n)
either-back bytes rest true g v w m n one other h = one refl
either-back bytes rest false g v w m n one other h = other h

row-back : (row : ℕ × List ℕ) (bytes rest : List ℕ) → IsUndone row → script_stands_at row.0 bytes ≡ true → IsBack bytes rest row.1 (length (encode_utf8 row.0) - 1)
row-back row bytes rest is h =
    is.undone rest
    ∙ ap (λ (bs : List ℕ). bs ++ undone_from Outside rest) ((bytes_decides (encode_utf8 row.0) (take (length (encode_utf8 row.0)) bytes)).0 h)
    ∙ ap (λ (n : ℕ). take n bytes ++ undone_from Outside rest) (is.len ∙ sym (ap suc is.taken))

plain-byte : (b : ℕ) (bs rest : List ℕ) (x : Bool) → b == 92 ≡ x → not x ≡ true → IsBack (b ∷ bs) rest (b ∷ []) 0
plain-byte b bs rest true e h = cc
plain-byte b bs rest false e h = rw e refl

at-back : (rows : Rows) (b : ℕ) (bs rest : List ℕ) → AreUndone rows → guards rows (b ∷ bs) ≡ true → IsBack (b ∷ bs) rest (escaped_at rows (b ∷ bs)) (taken_at rows (b ∷ bs))
at-back [] b bs rest are h = plain-byte b bs rest (b == 92) refl h
at-back (row ∷ rows) b bs rest are h =
    either-back (b ∷ bs) rest (script_stands_at row.0 (b ∷ bs)) (guards rows (b ∷ bs)) row.1 (escaped_at rows (b ∷ bs)) (length (encode_utf8 row.0) - 1) (taken_at rows (b ∷ bs))
    (row-back row (b ∷ bs) rest are.0) (at-back rows b bs rest are.1) h

take-and-drop : (n : ℕ) (bs : List ℕ) → take n bs ++ drop n bs ≡ bs
take-and-drop zero bs = refl
take-and-drop (suc n) [] = refl
take-and-drop (suc n) (b ∷ bs) = ap (λ (cs : List ℕ). b ∷ cs) (take-and-drop n bs)

from-back : (rows : Rows) → AreUndone rows → ((b : ℕ) (bs : List ℕ) → guards rows (b ∷ bs) ≡ true) → (n : ℕ) (bs : List ℕ) → undone_from Outside (escaped_from rows n bs) ≡ drop n bs
from-back rows are guard zero [] = refl
from-back rows are guard (suc n) [] = refl
from-back rows are guard (suc n) (b ∷ bs) = from-back rows are guard n bs
from-back rows are guard zero (b ∷ bs) =
    let n = taken_at rows (b ∷ bs) in
    at-back rows b bs (escaped_from rows n bs) are (guard b bs)
    ∙ ap (λ (cs : List ℕ). take (suc n) (b ∷ bs) ++ cs) (from-back rows are guard n bs)
    ∙ ap (λ (cs : List ℕ). b ∷ cs) (take-and-drop n bs)

-- the rows of strings
or-true : (x : Bool) → x || true ≡ true
or-true true = refl
or-true false = refl

no-backslash : (rows : Rows) (b : ℕ) (bs : List ℕ) → b == 92 ≡ false → guards rows (b ∷ bs) ≡ true
no-backslash [] b bs e = rw e refl
no-backslash (row ∷ rows) b bs e = rw (no-backslash rows b bs e) (or-true (script_stands_at row.0 (b ∷ bs)))

guarded : (rows : Rows) → ((bs : List ℕ) → guards rows (92 ∷ bs) ≡ true) → (b : ℕ) (bs : List ℕ) (x : Bool) → b == 92 ≡ x → guards rows (b ∷ bs) ≡ true
guarded rows escaped b bs true e =
    let same : b ≡ 92 = grind (arith, nat_tests) in
    subst (λ (c : ℕ). guards rows (c ∷ bs) ≡ true) (sym same) (escaped bs)
guarded rows escaped b bs false e = no-backslash rows b bs e

backslash-escaped : (bs : List ℕ) → guards string_rows (92 ∷ bs) ≡ true
unfolding lib.Utf8.encode
backslash-escaped bs = refl

string-undone : AreUndone string_rows
unfolding lib.Utf8.encode
string-undone = (
  record { more = 0; len = refl; taken = refl; undone = λ rest. refl },
  (
    record { more = 0; len = refl; taken = refl; undone = λ rest. refl },
    (
      record { more = 0; len = refl; taken = refl; undone = λ rest. refl },
      (
        record { more = 0; len = refl; taken = refl; undone = λ rest. refl },
        (
          record { more = 0; len = refl; taken = refl; undone = λ rest. refl },
          (
            record { more = 0; len = refl; taken = refl; undone = λ rest. refl },
            (
              record { more = 0; len = refl; taken = refl; undone = λ rest. refl },
              (
                record { more = 0; len = refl; taken = refl; undone = λ rest. refl },
                (
                  record { more = 0; len = refl; taken = refl; undone = λ rest. refl },
                  (
                    record { more = 0; len = refl; taken = refl; undone = λ rest. refl },
                    (
                      record { more = 0; len = refl; taken = refl; undone = λ rest. refl },
                      (
                        record { more = 0; len = refl; taken = refl; undone = λ rest. refl },
                        (
                          record { more = 0; len = refl; taken = refl; undone = λ rest. refl },
                          (
                            record { more = 0; len = refl; taken = refl; undone = λ rest. refl },
                            (
                              record { more = 0; len = refl; taken = refl; undone = λ rest. refl },
                              (
                                record { more = 2; len = refl; taken = refl; undone = λ rest. refl },
                                (record { more = 2; len = refl; taken = refl; undone = λ rest. refl }, tt),
                              ),
                            ),
                          ),
                        ),
                      ),
                    ),
                  ),
                ),
              ),
            ),
          ),
        ),
      ),
    ),
  ),
)

pub string-back : (bytes : List ℕ) → IsStringBack bytes (js_string bytes)
string-back bytes = from-back string_rows string-undone (λ b bs. guarded string_rows backslash-escaped b bs (b == 92) refl) 0 bytes

-- the rows of regular expressions, which are more
both-undone : (rows more : Rows) → AreUndone rows → AreUndone more → AreUndone (rows ++ more)
both-undone [] more are are_more = are_more
both-undone (row ∷ rows) more are are_more = (are.0, both-undone rows more are.1 are_more)

abbrev pub syntax_rows : Rows
syntax_rows = map (λ c. (c, 92 ∷ c ∷ [])) (codes "$()*-.?[]^{|}")

syntax-undone : AreUndone syntax_rows
unfolding lib.Utf8.encode
syntax-undone = (
  record { more = 0; len = refl; taken = refl; undone = λ rest. refl },
  (
    record { more = 0; len = refl; taken = refl; undone = λ rest. refl },
    (
      record { more = 0; len = refl; taken = refl; undone = λ rest. refl },
      (
        record { more = 0; len = refl; taken = refl; undone = λ rest. refl },
        (
          record { more = 0; len = refl; taken = refl; undone = λ rest. refl },
          (
            record { more = 0; len = refl; taken = refl; undone = λ rest. refl },
            (
              record { more = 0; len = refl; taken = refl; undone = λ rest. refl },
              (
                record { more = 0; len = refl; taken = refl; undone = λ rest. refl },
                (
                  record { more = 0; len = refl; taken = refl; undone = λ rest. refl },
                  (
                    record { more = 0; len = refl; taken = refl; undone = λ rest. refl },
                    (
                      record { more = 0; len = refl; taken = refl; undone = λ rest. refl },
                      (
                        record { more = 0; len = refl; taken = refl; undone = λ rest. refl },
                        (record { more = 0; len = refl; taken = refl; undone = λ rest. refl }, tt),
                      ),
                    ),
                  ),
                ),
              ),
            ),
          ),
        ),
      ),
    ),
  ),
)

regexp-escaped : (bs : List ℕ) → guards regexp_rows (92 ∷ bs) ≡ true
unfolding lib.Utf8.encode
regexp-escaped bs = refl

written-back : (bytes : List ℕ) → undone_from Outside (escaped_from regexp_rows 0 bytes) ≡ bytes
written-back bytes = from-back regexp_rows (both-undone string_rows syntax_rows string-undone syntax-undone) (λ b bs. guarded regexp_rows regexp-escaped b bs (b == 92) refl) 0 bytes

empty-undone : script_escapes_undone empty_expression ≡ empty_expression
empty-undone = refl

empty-written-out : bytes_eq (escaped_from regexp_rows 0 empty_expression) empty_expression ≡ false
unfolding lib.Utf8.encode
empty-written-out = refl

no-true : false ≡ true → ⊥
no-true e = cc

other-expression : (bytes : List ℕ) (x : Bool) → bytes_eq (escaped_from regexp_rows 0 bytes) empty_expression ≡ x → x ≡ false
other-expression bytes false e = refl
other-expression bytes true e =
    let same = (bytes_decides (escaped_from regexp_rows 0 bytes) empty_expression).0 e in
    let text : empty_expression ≡ bytes = sym (ap script_escapes_undone same ∙ empty-undone) ∙ written-back bytes in
    absurd (no-true (sym (subst (λ (bs : List ℕ). bytes_eq (escaped_from regexp_rows 0 bs) empty_expression ≡ false) text empty-written-out) ∙ e))

pub regexp-back : (bytes : List ℕ) → IsRegexpBack bytes (js_regexp bytes)
regexp-back [] = refl
regexp-back (b ∷ bs) = (written-back (b ∷ bs), other-expression (b ∷ bs) (bytes_eq (escaped_from regexp_rows 0 (b ∷ bs)) empty_expression) refl)
