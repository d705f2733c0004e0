-- What is written of a text in JSON is read back as the text, and the lexer of JSON passes over it up to its quotation mark.
use Rattle.std.proofs.Common.{◌≡◌, ◌&&◌, ◌-◌, ◌==◌, ℕ, zero, suc, Bool, true, false, not, cond, nat_lt, encode_utf8, length, take, drop, List, [], ◌∷◌, ◌++◌, Option, Some, if◌then◌else◌, refl, sym, ap, ap₂, subst, ◌∙◌, arith}
use Rattle.std.proofs.lemmas.Bool.{agree_below_at, false≢true, ltb-true}
use Rattle.std.proofs.lemmas.Bool.Decides.{nat_tests}
use Rattle.std.proofs.lemmas.List.{append_assoc, take-append-drop}
use Rattle.std.specs.Bool.{⊤}
use Rattle.std.specs.Cmp.Lexicographic.{bytes_decides}
use Rattle.json.specs.Lex.{Lexeme, Mode, token, operator, space, other, lex_byte, lex, between, in_string, string_token}
use Rattle.json.specs.Text.{content, plain, prepend, code_unit, short_escape}
use Rattle.json.specs.Token.{string}
use Rattle.json.specs.Word.{is_operator, is_space}
use Rattle.js_lexer.specs.Sanitizers.{Rows, script_stands_at, escaped_at, taken_at, escaped_from, escaped, text_rows, json_text}

-- What a row writes is read back as its character; of which this many bytes are besides the first.
record IsPassed (row : ℕ × List ℕ) : Type 0 where
  pub more : ℕ
  pub len : length (encode_utf8 row.0) ≡ suc more
  pub taken : length (encode_utf8 row.0) - 1 ≡ more
  pub read : (rest : List ℕ) → content plain (row.1 ++ rest) ≡ prepend (encode_utf8 row.0) (content plain rest)
  pub lexed : (rest : List ℕ) → lex in_string (row.1 ++ rest) ≡ lex in_string rest

abbrev ArePassed : Rows → Type 0
ArePassed [] = ⊤
ArePassed (row ∷ rows) = IsPassed row × ArePassed rows

rows-passed : ArePassed text_rows
unfolding content lex code_unit short_escape lib.Utf8.encode
rows-passed = (
  record { more = 0; len = refl; taken = refl; read = λ rest. refl; lexed = λ rest. refl },
  (
    record { more = 0; len = refl; taken = refl; read = λ rest. refl; lexed = λ rest. refl },
    (
      record { more = 0; len = refl; taken = refl; read = λ rest. refl; lexed = λ rest. refl },
      (
        record { more = 0; len = refl; taken = refl; read = λ rest. refl; lexed = λ rest. refl },
        (
          record { more = 0; len = refl; taken = refl; read = λ rest. refl; lexed = λ rest. refl },
          (
            record { more = 0; len = refl; taken = refl; read = λ rest. refl; lexed = λ rest. refl },
            (
              record { more = 0; len = refl; taken = refl; read = λ rest. refl; lexed = λ rest. refl },
              (
                record { more = 0; len = refl; taken = refl; read = λ rest. refl; lexed = λ rest. refl },
                (
                  record { more = 2; len = refl; taken = refl; read = λ rest. refl; lexed = λ rest. refl },
                  (
                    record { more = 2; len = refl; taken = refl; read = λ rest. refl; lexed = λ rest. refl },
                    (
                      record { more = 0; len = refl; taken = refl; read = λ rest. refl; lexed = λ rest. refl },
                      (
                        record { more = 0; len = refl; taken = refl; read = λ rest. refl; lexed = λ rest. refl },
                        (
                          record { more = 0; len = refl; taken = refl; read = λ rest. refl; lexed = λ rest. refl },
                          (
                            record { more = 0; len = refl; taken = refl; read = λ rest. refl; lexed = λ rest. refl },
                            (
                              record { more = 0; len = refl; taken = refl; read = λ rest. refl; lexed = λ rest. refl },
                              (
                                record { more = 0; len = refl; taken = refl; read = λ rest. refl; lexed = λ rest. refl },
                                (
                                  record { more = 0; len = refl; taken = refl; read = λ rest. refl; lexed = λ rest. refl },
                                  (
                                    record { more = 0; len = refl; taken = refl; read = λ rest. refl; lexed = λ rest. refl },
                                    (
                                      record { more = 0; len = refl; taken = refl; read = λ rest. refl; lexed = λ rest. refl },
                                      (
                                        record { more = 0; len = refl; taken = refl; read = λ rest. refl; lexed = λ rest. refl },
                                        (
                                          record { more = 0; len = refl; taken = refl; read = λ rest. refl; lexed = λ rest. refl },
                                          (
                                            record { more = 0; len = refl; taken = refl; read = λ rest. refl; lexed = λ rest. refl },
                                            (
                                              record { more = 0; len = refl; taken = refl; read = λ rest. refl; lexed = λ rest. refl },
                                              (
                                                record { more = 0; len = refl; taken = refl; read = λ rest. refl; lexed = λ rest. refl },
                                                (
                                                  record { more = 0; len = refl; taken = refl; read = λ rest. refl; lexed = λ rest. refl },
                                                  (
                                                    record { more = 0; len = refl; taken = refl; read = λ rest. refl; lexed = λ rest. refl },
                                                    (
                                                      record { more = 0; len = refl; taken = refl; read = λ rest. refl; lexed = λ rest. refl },
                                                      (
                                                        record { more = 0; len = refl; taken = refl; read = λ rest. refl; lexed = λ rest. refl },
                                                        (
                                                          record { more = 0; len = refl; taken = refl; read = λ rest. refl; lexed = λ rest. refl },
                                                          (
                                                            record { more = 0; len = refl; taken = refl; read = λ rest. refl; lexed = λ rest. refl },
                                                            (
                                                              record { more = 0; len = refl; taken = refl; read = λ rest. refl; lexed = λ rest. refl },
                                                              (
                                                                record { more = 0; len = refl; taken = refl; read = λ rest. refl; lexed = λ rest. refl },
                                                                (
                                                                  record { more = 0; len = refl; taken = refl; read = λ rest. refl; lexed = λ rest. refl },
                                                                  (
                                                                    record { more = 0; len = refl; taken = refl; read = λ rest. refl; lexed = λ rest. refl },
                                                                    (
                                                                      record { more = 0; len = refl; taken = refl; read = λ rest. refl; lexed = λ rest. refl },
                                                                      (
                                                                        record { more = 0; len = refl; taken = refl; read = λ rest. refl; lexed = λ rest. refl },
                                                                        (
                                                                          record { more = 0; len = refl; taken = refl; read = λ rest. refl; lexed = λ rest. refl },
                                                                          (
                                                                            record { more = 0; len = refl; taken = refl; read = λ rest. refl; lexed = λ rest. refl },
                                                                            (
                                                                              record { more = 0; len = refl; taken = refl; read = λ rest. refl; lexed = λ rest. refl },
                                                                              (
                                                                                record { more = 0; len = refl; taken = refl; read = λ rest. refl; lexed = λ rest. refl },
                                                                                (
                                                                                  record { more = 0; len = refl; taken = refl; read = λ rest. refl; lexed = λ rest. refl },
                                                                                  (
                                                                                    record { more = 0; len = refl; taken = refl; read = λ rest. refl; lexed = λ rest. refl },
                                                                                    tt,
                                                                                  ),
                                                                                ),
                                                                              ),
                                                                            ),
                                                                          ),
                                                                        ),
                                                                      ),
                                                                    ),
                                                                  ),
                                                                ),
                                                              ),
                                                            ),
                                                          ),
                                                        ),
                                                      ),
                                                    ),
                                                  ),
                                                ),
                                              ),
                                            ),
                                          ),
                                        ),
                                      ),
                                    ),
                                  ),
                                ),
                              ),
                            ),
                          ),
                        ),
                      ),
                    ),
                  ),
                ),
              ),
            ),
          ),
        ),
      ),
    ),
  ),
)

-- so many bytes are written, and read back
record IsRead (bytes rest written : List ℕ) (n : ℕ) : Type 0 where
  pub read : content plain (written ++ rest) ≡ prepend (take (suc n) bytes) (content plain rest)
  pub lexed : lex in_string (written ++ rest) ≡ lex in_string rest

either-read : (bytes rest : List ℕ) (x : Bool) (v w : List ℕ) (m n : ℕ) → (x ≡ true → IsRead bytes rest v m) → (x ≡ false → IsRead bytes rest w n)
    → IsRead bytes rest (if x then v else w) (if x then m else n)
either-read bytes rest true v w m n first second = first refl
either-read bytes rest false v w m n first second = second refl

row-read : (row : ℕ × List ℕ) (bytes rest : List ℕ) → IsPassed row → script_stands_at row.0 bytes ≡ true → IsRead bytes rest row.1 (length (encode_utf8 row.0) - 1)
row-read row bytes rest is h = record {
  read = is.read rest
      ∙ ap (λ (bs : List ℕ). prepend bs (content plain rest)) ((bytes_decides (encode_utf8 row.0) (take (length (encode_utf8 row.0)) bytes)).0 h)
      ∙ ap (λ (n : ℕ). prepend (take n bytes) (content plain rest)) (is.len ∙ sym (ap suc is.taken));
  lexed = is.lexed rest;
}

-- no row is of what stands there
abbrev leaves : Rows → List ℕ → Bool
leaves [] bytes = true
leaves (row ∷ rows) bytes = not (script_stands_at row.0 bytes) && leaves rows bytes

left-by : (x y : Bool) → x ≡ false → y ≡ true → not x && y ≡ true
left-by x y e h = rw e h

at-read : (rows : Rows) (b : ℕ) (bs rest : List ℕ) → ArePassed rows → (leaves rows (b ∷ bs) ≡ true → IsRead (b ∷ bs) rest (b ∷ []) 0)
    → IsRead (b ∷ bs) rest (escaped_at rows (b ∷ bs)) (taken_at rows (b ∷ bs))
at-read [] b bs rest are h = h refl
at-read (row ∷ rows) b bs rest are h =
    let stands = script_stands_at row.0 (b ∷ bs) in
    either-read (b ∷ bs) rest stands row.1 (escaped_at rows (b ∷ bs)) (length (encode_utf8 row.0) - 1) (taken_at rows (b ∷ bs)) (row-read row (b ∷ bs) rest are.0)
    (λ e. at-read rows b bs rest are.1 (λ k. h (left-by stands (leaves rows (b ∷ bs)) e k)))

-- A byte that no row is of is no quotation mark, no backslash and no control.
none-quote : (bs : List ℕ) → leaves text_rows (34 ∷ bs) ≡ false
unfolding lib.Utf8.encode
none-quote bs = refl

none-backslash : (bs : List ℕ) → leaves text_rows (92 ∷ bs) ≡ false
unfolding lib.Utf8.encode
none-backslash bs = refl

none-control : (b : ℕ) (bs : List ℕ) → nat_lt b 32 ≡ true → leaves text_rows (b ∷ bs) ≡ false
unfolding lib.Utf8.encode
none-control b bs h = agree_below_at (λ c. leaves text_rows (c ∷ bs)) (λ c. false) 32 b refl (ltb-true b 32 h)

apart-from : (n : ℕ) → ((bs : List ℕ) → leaves text_rows (n ∷ bs) ≡ false) → (b : ℕ) (bs : List ℕ) → leaves text_rows (b ∷ bs) ≡ true → (x : Bool) → b == n ≡ x
    → x ≡ false
apart-from n none b bs h true e =
    let same : b ≡ n = grind (arith, nat_tests) in
    absurd (false≢true (sym (none bs) ∙ subst (λ (c : ℕ). leaves text_rows (c ∷ bs) ≡ true) same h))
apart-from n none b bs h false e = refl

no-control : (b : ℕ) (bs : List ℕ) → leaves text_rows (b ∷ bs) ≡ true → (x : Bool) → nat_lt b 32 ≡ x → x ≡ false
no-control b bs h true e = absurd (false≢true (sym (none-control b bs e) ∙ h))
no-control b bs h false e = refl

stays-inside : (o s : Bool) (x : ℕ) (xs : List ℕ) (k : Mode → List Lexeme) → lex_byte in_string (cond o operator (cond s space other)) x xs k ≡ k in_string
stays-inside true s x xs k = refl
stays-inside false true x xs k = refl
stays-inside false false x xs k = refl

plain-read : (b : ℕ) (bs rest : List ℕ) → b == 34 ≡ false → b == 92 ≡ false → nat_lt b 32 ≡ false → IsRead (b ∷ bs) rest (b ∷ []) 0
unfolding content lex
plain-read b bs rest quote backslash control = record {
  read = rw (quote, backslash, control) refl;
  lexed = rw (quote, backslash) (stays-inside (is_operator b) (is_space b) b rest (λ m. lex m rest));
}

byte-read : (b : ℕ) (bs rest : List ℕ) → leaves text_rows (b ∷ bs) ≡ true → IsRead (b ∷ bs) rest (b ∷ []) 0
byte-read b bs rest h =
    plain-read b bs rest (apart-from 34 none-quote b bs h (b == 34) refl) (apart-from 92 none-backslash b bs h (b == 92) refl)
    (no-control b bs h (nat_lt b 32) refl)

-- the content of what is written, up to the quotation mark
escaped-content : (n : ℕ) (bs rest : List ℕ) → content plain (escaped_from text_rows n bs ++ 34 ∷ rest) ≡ Some (drop n bs)
unfolding content
escaped-content zero [] rest = refl
escaped-content (suc n) [] rest = refl
escaped-content (suc n) (b ∷ bs) rest = escaped-content n bs rest
escaped-content zero (b ∷ bs) rest =
    let n = taken_at text_rows (b ∷ bs) in
    let more = escaped_from text_rows n bs in
    ap (content plain) (append_assoc (escaped_at text_rows (b ∷ bs)) more (34 ∷ rest))
    ∙ (at-read text_rows b bs (more ++ 34 ∷ rest) rows-passed (byte-read b bs (more ++ 34 ∷ rest))).read
    ∙ ap (prepend (take (suc n) (b ∷ bs))) (escaped-content n bs rest) ∙ ap (λ (cs : List ℕ). Some (b ∷ cs)) (take-append-drop n bs)

escaped-passed : (n : ℕ) (bs rest : List ℕ) → lex in_string (escaped_from text_rows n bs ++ 34 ∷ rest) ≡ lex between rest
unfolding lex
escaped-passed zero [] rest = refl
escaped-passed (suc n) [] rest = refl
escaped-passed (suc n) (b ∷ bs) rest = escaped-passed n bs rest
escaped-passed zero (b ∷ bs) rest =
    let n = taken_at text_rows (b ∷ bs) in
    let more = escaped_from text_rows n bs in
    ap (lex in_string) (append_assoc (escaped_at text_rows (b ∷ bs)) more (34 ∷ rest))
    ∙ (at-read text_rows b bs (more ++ 34 ∷ rest) rows-passed (byte-read b bs (more ++ 34 ∷ rest))).lexed ∙ escaped-passed n bs rest

-- a text is one lexeme
pub lex-text : (bytes rest : List ℕ) → lex between (json_text bytes ++ rest) ≡ token (string bytes) ∷ lex between rest
unfolding lex
lex-text bytes rest =
    ap (λ (bs : List ℕ). lex between (34 ∷ bs)) (append_assoc (escaped text_rows bytes) (34 ∷ []) rest)
    ∙ ap₂ (λ (o : Option (List ℕ)) (ls : List Lexeme). token (string_token o) ∷ ls) (escaped-content 0 bytes rest) (escaped-passed 0 bytes rest)
