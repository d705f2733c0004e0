-- A run of bytes that stand as they are: it may be cut out of its text, and is written as it is.
use Rattle.std.proofs.Common.{◌≡◌, ◌≢◌, ℕ, zero, suc, add-one, ◌&&◌, ◌||◌, ◌+◌, ◌-◌, ◌<◌, ◌≤◌, Bool, true, false, List, [], ◌∷◌, ◌++◌, refl, sym, ap, ◌∙◌, subst, length, take, drop, get_or, arith, not, nat_lt, inl, inr, if◌then◌else◌}
use Rattle.std.specs.List.{prefix_len}
use Rattle.std.specs.Str.{IsAscii, IsUtf8, IsCharBoundary}
use Rattle.std.proofs.Math.Seq.{drop-cons}
use Rattle.std.proofs.lemmas.Bool.{agree_below, agree_below_at, cases_Bool, cases_lt, ltb-true, not-false}
use Rattle.std.proofs.lemmas.List.{append_assoc, drop-drop, get_or-drop, get_or-take, length-drop, take_rest}
use Rattle.std.proofs.lemmas.List.Sums.{prefix_len_stops}
use Rattle.std.proofs.lemmas.Str.{IsAscii-append, IsCharBoundary-after_ascii, IsCharBoundary-before_ascii}
use Rattle.esc_table.specs.Kept.{is_kept_byte}
use Rattle.url_lexer.specs.Kept.{begins_triple, is_kept_in_url, is_unreserved}
use Rattle.url_lexer.specs.Sanitizers.{triple, url_norm, url_query}
use Rattle.san_url.specs.Runs.{IsWrittenBetween, run_between}
use Rattle.san_url.specs.Stays.{IsTableOf, unkept_written}

-- the bytes of a run, and its two ends
ascii-at : (text : List ℕ) (start end i : ℕ) → IsAscii (run_between text start end) → i < end - start → get_or text (start + i) 0 < 128
ascii-at text start end i a h = subst (λ (n : ℕ). n < 128) (get_or-take (end - start) (drop start text) i 0 h ∙ get_or-drop start text i 0) (a i)

pub run-begins : (text : List ℕ) (start end : ℕ) → IsAscii (run_between text start end) → start < end → end ≤ length text → IsCharBoundary text start
run-begins text start end a some inside =
    let here : start + 0 ≡ start = omega arith in
    IsCharBoundary-before_ascii text start (omega (arith, some, inside)) (subst (λ (n : ℕ). get_or text n 0 < 128) here (ascii-at text start end 0 a (omega (arith, some))))

pub run-ends : (text : List ℕ) (start end : ℕ) → IsUtf8 text → IsAscii (run_between text start end) → start < end → end ≤ length text → IsCharBoundary text end
run-ends text start end u a some inside =
    let last : (start + (end - start - 1)) + 1 ≡ end = omega (arith, some) in
    subst (IsCharBoundary text) last (IsCharBoundary-after_ascii text (start + (end - start - 1)) u (omega (arith, some, inside)) (ascii-at text start end (end - start - 1) a (omega (arith, some))))

all-ascii : (test : ℕ → Bool) → agree_below (λ b. test b && not (nat_lt b 128)) (λ b. false) 256 ≡ true → (b : ℕ) → b < 256 → test b ≡ true → b < 128
all-ascii test all b l e =
    ltb-true b 128 (not-false (nat_lt b 128) (ap (λ (k : Bool). k && not (nat_lt b 128)) (sym e) ∙ agree_below_at (λ b. test b && not (nat_lt b 128)) (λ b. false) 256 b all l))

-- a table is gone through whole
pub table-of : (test : ℕ → Bool) (table : List Bool) → agree_below (is_kept_byte table) test 256 ≡ true → agree_below (λ b. is_kept_byte table b && not (nat_lt b 128)) (λ b. false) 256 ≡ true → IsTableOf test table
table-of test table same low = record {
  value = λ b l. agree_below_at (is_kept_byte table) test 256 b same l;
  ascii = λ b l e. all-ascii (is_kept_byte table) low b l e;
}

one-more : (n : ℕ) → 1 + n ≡ suc n
one-more n = omega arith

one-ascii : (b : ℕ) → b < 128 → IsAscii (b ∷ [])
one-ascii b h zero = h
one-ascii b h (suc i) = omega arith

no-ascii : IsAscii []
no-ascii i = omega arith

-- the bytes at the beginning that pass are of ASCII
front-ascii : (p : ℕ → Bool) (bytes : List ℕ) → ((b : ℕ) → b < 256 → p b ≡ true → b < 128) → ((i : ℕ) → get_or bytes i 0 < 256) → IsAscii (take (prefix_len p bytes) bytes)
front-ascii p [] low h = no-ascii
front-ascii p (b ∷ bs) low h = elim (cases_Bool (p b)) [
  | inl y ↦ rw (y, one-more (prefix_len p bs)) (IsAscii-append (b ∷ []) (take (prefix_len p bs) bs) (one-ascii b (low b (h 0) y)) (front-ascii p bs low (λ i. h (suc i))))
  | inr n ↦ rw n no-ascii
]

-- the run that the code finds
run-is : (p : ℕ → Bool) (text : List ℕ) (start end : ℕ) → end ≡ start + prefix_len p (drop start text) → run_between text start end ≡ take (prefix_len p (drop start text)) (drop start text)
run-is p text start end is =
    let many : end - start ≡ prefix_len p (drop start text) = omega (arith, is) in
    ap (λ (n : ℕ). take n (drop start text)) many

rest-is : (p : ℕ → Bool) (text : List ℕ) (start end : ℕ) → end ≡ start + prefix_len p (drop start text) → drop end text ≡ drop (prefix_len p (drop start text)) (drop start text)
rest-is p text start end is = ap (λ (n : ℕ). drop n text) is ∙ sym (drop-drop (prefix_len p (drop start text)) start text)

bytes-behind : (text : List ℕ) (start : ℕ) → ((i : ℕ) → get_or text i 0 < 256) → (i : ℕ) → get_or (drop start text) i 0 < 256
bytes-behind text start h i = subst (λ (n : ℕ). n < 256) (sym (get_or-drop start text i 0)) (h (start + i))

-- as the code finds it, over a slice
pub run-found : (p : ℕ → Bool) (bytes text : List ℕ) (start run : ℕ) → bytes ≡ text → run ≡ prefix_len p (take (length bytes - start) (drop start bytes)) → start + run ≡ start + prefix_len p (drop start text)
run-found p bytes text start run same is =
    ap (λ (n : ℕ). start + n) (is ∙ ap (prefix_len p) (take_rest bytes start) ∙ ap (λ (x : List ℕ). prefix_len p (drop start x)) same)

pub run-ascii : (p : ℕ → Bool) (text : List ℕ) (start end : ℕ) → end ≡ start + prefix_len p (drop start text) → ((b : ℕ) → b < 256 → p b ≡ true → b < 128) → ((i : ℕ) → get_or text i 0 < 256) → IsAscii (run_between text start end)
run-ascii p text start end is low h = subst IsAscii (sym (run-is p text start end is)) (front-ascii p (drop start text) low (bytes-behind text start h))

-- What is defined for the bytes of a text, one by one: a byte that passes stays.
abbrev pub Stays : (List ℕ → List ℕ) → (ℕ → Bool) → Type 0
Stays defined test = (b : ℕ) (bs : List ℕ) → b < 256 → test b ≡ true → defined (b ∷ bs) ≡ b ∷ defined bs

front-stays : (defined : List ℕ → List ℕ) (test : ℕ → Bool) (table : List Bool) (bytes : List ℕ) → Stays defined test → IsTableOf test table → ((i : ℕ) → get_or bytes i 0 < 256)
    → take (prefix_len (is_kept_byte table) bytes) bytes ++ defined (drop (prefix_len (is_kept_byte table) bytes) bytes) ≡ defined bytes
front-stays defined test table [] stays t h = refl
front-stays defined test table (b ∷ bs) stays t h = elim (cases_Bool (is_kept_byte table b)) [
  | inl y ↦ rw (y, one-more (prefix_len (is_kept_byte table) bs)) (ap (λ (x : List ℕ). b ∷ x) (front-stays defined test table bs stays t (λ i. h (suc i))) ∙ sym (stays b bs (h 0) (sym (t.value b (h 0)) ∙ y)))
  | inr n ↦ rw n refl
]

-- a run that the table keeps is copied
pub run-written : (defined : List ℕ → List ℕ) (test : ℕ → Bool) (table : List Bool) (text before after : List ℕ) (start end : ℕ) → Stays defined test → IsTableOf test table → ((i : ℕ) → get_or text i 0 < 256)
    → end ≡ start + prefix_len (is_kept_byte table) (drop start text) → after ≡ before ++ run_between text start end → IsWrittenBetween defined text start end before after
run-written defined test table text before after start end stays t h is e =
    ap (λ (x : List ℕ). x ++ defined (drop end text)) e
    ∙ append_assoc before (run_between text start end) (defined (drop end text))
    ∙ ap (λ (x : List ℕ). before ++ (x ++ defined (drop end text))) (run-is (is_kept_byte table) text start end is)
    ∙ ap (λ (x : List ℕ). before ++ (take (prefix_len (is_kept_byte table) (drop start text)) (drop start text) ++ defined x)) (rest-is (is_kept_byte table) text start end is)
    ∙ ap (λ (x : List ℕ). before ++ x) (front-stays defined test table (drop start text) stays t (bytes-behind text start h))

-- the byte behind it does not pass
pub run-stops : (test : ℕ → Bool) (table : List Bool) (text : List ℕ) (start end : ℕ) → IsTableOf test table → end ≡ start + prefix_len (is_kept_byte table) (drop start text) → end < length text → get_or text end 0 < 256 → test (get_or text end 0) ≡ false
run-stops test table text start end t is within low =
    sym (t.value (get_or text end 0) low)
    ∙ ap (λ (n : ℕ). is_kept_byte table (get_or text n 0)) is
    ∙ ap (is_kept_byte table) (sym (get_or-drop start text (prefix_len (is_kept_byte table) (drop start text)) 0))
    ∙ prefix_len_stops (is_kept_byte table) (drop start text) 0 (omega (arith, is, within, length-drop start text))

pub before-end : (end count whole : ℕ) → end ≤ whole → count ≡ whole → end ≢ count → end < whole
before-end end count whole inside same other = elim (cases_lt end whole) [
  | inl within ↦ within
  | inr past ↦ absurd (other (omega (arith, inside, same, past)))
]

pub written-on : (defined : List ℕ → List ℕ) (text first second third : List ℕ) (start between end : ℕ) → IsWrittenBetween defined text start between first second → IsWrittenBetween defined text between end second third
    → IsWrittenBetween defined text start end first third
written-on defined text first second third start between end f s = s ∙ f

pub head : (text : List ℕ) (at : ℕ) → at < length text → drop at text ≡ get_or text at 0 ∷ drop (at + 1) text
head text at h = rw add-one (drop-cons text at 0 h)

-- and something is written for it
pub byte-written : (defined : List ℕ → List ℕ) (text before after piece : List ℕ) (at : ℕ) → at < length text → defined (get_or text at 0 ∷ drop (at + 1) text) ≡ piece ++ defined (drop (at + 1) text) → after ≡ before ++ piece
    → IsWrittenBetween defined text at (at + 1) before after
byte-written defined text before after piece at within d e =
    ap (λ (x : List ℕ). x ++ defined (drop (at + 1) text)) e
    ∙ append_assoc before piece (defined (drop (at + 1) text))
    ∙ ap (λ (x : List ℕ). before ++ x) (sym d ∙ ap defined (sym (head text at within)))

-- the byte and those behind it, as code takes them out of a slice
pub same-unkept : (bytes text : List ℕ) (at : ℕ) → bytes ≡ text → unkept_written (get_or bytes at 0) (take (length bytes - (at + 1)) (drop (at + 1) bytes)) ≡ unkept_written (get_or text at 0) (drop (at + 1) text)
same-unkept bytes text at e =
    ap (unkept_written (get_or bytes at 0)) (take_rest bytes (at + 1))
    ∙ ap (λ (x : List ℕ). unkept_written (get_or x at 0) (drop (at + 1) x)) e

pub norm-stays : Stays url_norm is_kept_in_url
norm-stays b bs l e = ap (λ (k : Bool). (if k || begins_triple b bs then b ∷ [] else triple b) ++ url_norm bs) e

pub norm-unkept : (b : ℕ) (bs : List ℕ) → is_kept_in_url b ≡ false → url_norm (b ∷ bs) ≡ unkept_written b bs ++ url_norm bs
norm-unkept b bs e = ap (λ (k : Bool). (if k || begins_triple b bs then b ∷ [] else triple b) ++ url_norm bs) e

pub query-stays : Stays url_query is_unreserved
query-stays b bs l e = ap (λ (k : Bool). (if k then b ∷ [] else triple b) ++ url_query bs) e

pub query-replaced : (b : ℕ) (bs : List ℕ) → is_unreserved b ≡ false → url_query (b ∷ bs) ≡ triple b ++ url_query bs
query-replaced b bs e = ap (λ (k : Bool). (if k then b ∷ [] else triple b) ++ url_query bs) e
