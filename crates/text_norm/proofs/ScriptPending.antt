-- What a path has pending in a script, and a page by the same bytes. In code both go on alike. In a token a path knows the words that are not written as they
-- stand, and what it reads of other bytes ends no element of a page.
use Rattle.std.proofs.Common.{◌≡◌, ℕ, ◌≤◌, ◌<◌, ◌==◌, ◌||◌, ◌&&◌, not, Bool, true, false, codes, List, [], ◌∷◌, ◌++◌, ◌⊎◌, inl, inr, refl, sym, ap, ◌∙◌, subst, true≢false, arith}
use Rattle.std.proofs.lemmas.Bool.{cases_lt, agree_below, agree_below_at, eqb-true}
use Rattle.std.proofs.lemmas.Str.Ascii.{lowercase_is}
use Rattle.std.specs.Char.{to_ascii_lowercase}
use Rattle.std.specs.List.{list_all, list_any, starts_with}
use Rattle.std.specs.Prelude.{bytes_eq, nat_eq, if◌then◌else◌}
use Rattle.std.specs.Str.{str_to_ascii_lowercase}
use Rattle.js_lexer.specs.Elements.{in_lower_case}
use Rattle.js_lexer.specs.PageScripts.{are_behind_less, is_byte_of_word}
use Rattle.js_lexer.specs.Written.{begins_hidden, is_hidden_in_script}
use Rattle.place_core.proofs.Bytes.{eq-high}
use Rattle.place_core.proofs.ScriptSteps.{less-is, word-whole}
use Rattle.place_core.specs.page.Classes.{Class, ExclamationMark, HyphenMinus, Solidus, LessThan, Letter, LetterClass, class_of}
use Rattle.place_core.specs.page.Contents.{IsWord, BeginsWord, NoWord, ScriptStep, Reads, EndsContent, in_word, is_name_of, may_be_name_of, pending_bytes, script_step, word_goes_on}
use Rattle.place_core.specs.page.States.{Pending, Nothing, PendingLess, LessAtCut, PendingName, PendingBang, PendingBangDash, PendingOpening}
use Rattle.place_core.specs.declared.element.Element.{Element}
use Rattle.place_core.specs.declared.element.Element.TheVariants as element
use Rattle.text_norm.proofs.ScriptPages.{behind-less-goes, goes-append, is_less_class, less-goes, loose-goes, step-goes}
use Rattle.text_norm.specs.Standing.{PageGoes, StepGoes, behind_less, seen_by_page, tells_comment_of_html}

-- Words and their beginnings.
or-three : (a b c : Bool) → (a || (b || (c || false))) ≡ true → (a ≡ true) ⊎ ((b ≡ true) ⊎ (c ≡ true))
or-three true b c h = inl refl
or-three false true c h = inr (inl refl)
or-three false false true h = inr (inr refl)
or-three false false false h = absurd (true≢false (sym h))

pub and-both : (a b : Bool) → (a && b) ≡ true → (a ≡ true) × (b ≡ true)
and-both true true h = (refl, refl)
and-both true false h = absurd (true≢false (sym h))
and-both false b h = absurd (true≢false (sym h))

or-right : (a b : Bool) → b ≡ true → (a || b) ≡ true
or-right true b h = refl
or-right false b h = h

or-left : (a b : Bool) → a ≡ true → (a || b) ≡ true
or-left a b h = rw h refl

or-none : (a : Bool) → (a || false) ≡ a
or-none true = refl
or-none false = refl

pub lower-same : (bs : List ℕ) → in_lower_case bs ≡ str_to_ascii_lowercase bs
lower-same [] = refl
lower-same (b ∷ bs) = ap (λ (z : List ℕ). to_ascii_lowercase b ∷ z) (lower-same bs)

lower-append : (xs ys : List ℕ) → in_lower_case (xs ++ ys) ≡ in_lower_case xs ++ in_lower_case ys
lower-append [] ys = refl
lower-append (x ∷ xs) ys = ap (λ (z : List ℕ). to_ascii_lowercase x ∷ z) (lower-append xs ys)

-- the last byte of what a word begins with is one of the word's
pub prefix-last : (word ys : List ℕ) (c : ℕ) → starts_with nat_eq word (ys ++ c ∷ []) ≡ true → list_any (nat_eq c) word ≡ true
prefix-last [] [] c h = absurd (true≢false (sym h))
prefix-last [] (y ∷ ys) c h = absurd (true≢false (sym h))
prefix-last (d ∷ word) [] c h = or-left (nat_eq c d) (list_any (nat_eq c) word) (and-both (nat_eq c d) _ h).0
prefix-last (d ∷ word) (y ∷ ys) c h = or-right (nat_eq c d) (list_any (nat_eq c) word) (prefix-last word ys c (and-both (nat_eq y d) _ h).1)

begins-by : (p q : Bool) → (if p then IsWord else (if q then BeginsWord else NoWord)) ≡ BeginsWord → (p ≡ false) × (q ≡ true)
begins-by true q h = cc
begins-by false true h = (refl, refl)
begins-by false false h = cc

begins-is : (bytes : List ℕ) → in_word bytes ≡ BeginsWord → (is_hidden_in_script bytes ≡ false) × (begins_hidden bytes ≡ true)
unfolding in_word
begins-is bytes h = begins-by (is_hidden_in_script bytes) (begins_hidden bytes) h

-- Behind `</` they are those of the name.
name-hidden : (letters : List ℕ) → is_hidden_in_script (60 ∷ 47 ∷ letters) ≡ is_name_of element.Script letters
name-hidden letters = ap (λ (z : List ℕ). bytes_eq z (codes "script") || false) (lower-same letters) ∙ or-none (is_name_of element.Script letters)

pub name-begins : (letters : List ℕ) → begins_hidden (60 ∷ 47 ∷ letters) ≡ may_be_name_of element.Script letters
name-begins letters = ap (λ (z : List ℕ). starts_with nat_eq (codes "script") z || false) (lower-same letters) ∙ or-none (may_be_name_of element.Script letters)

pub no-whole-name : (letters : List ℕ) → in_word (60 ∷ 47 ∷ letters) ≡ BeginsWord → is_name_of element.Script letters ≡ false
no-whole-name letters h = sym (name-hidden letters) ∙ (begins-is (60 ∷ 47 ∷ letters) h).0

pub may-be-name : (letters : List ℕ) → in_word (60 ∷ 47 ∷ letters) ≡ BeginsWord → may_be_name_of element.Script letters ≡ true
may-be-name letters h = sym (name-begins letters) ∙ (begins-is (60 ∷ 47 ∷ letters) h).1

-- its bytes are letters
abbrev is_letter_class : Class → Bool
is_letter_class (Letter l) = true
is_letter_class c = false

abbrev pub in_name : ℕ → Bool
in_name b = list_any (nat_eq (to_ascii_lowercase b)) (codes "script")

name-low : agree_below (λ (b : ℕ). not (in_name b) || is_letter_class (class_of b)) (λ (b : ℕ). true) 128 ≡ true
unfolding class_of
name-low = refl

lower-high : (b : ℕ) → 128 ≤ b → to_ascii_lowercase b ≡ b
lower-high b h = (lowercase_is b).2 (omega (arith, h))

pub name-high : (b : ℕ) → 128 ≤ b → in_name b ≡ false
name-high b h =
    rw (lower-high b h, eq-high b 115 h (omega arith), eq-high b 99 h (omega arith), eq-high b 114 h (omega arith), eq-high b 105 h (omega arith), eq-high b 112 h (omega arith), eq-high b 116 h (omega arith)) refl

letter-of : (c : Class) → is_letter_class c ≡ true → (l : LetterClass) × (c ≡ Letter l)
letter-of (Letter l) h = (l, refl)
letter-of c h = absurd (true≢false (sym h))

name-letter : (b : ℕ) → in_name b ≡ true → (b < 128) ⊎ (128 ≤ b) → (l : LetterClass) × (class_of b ≡ Letter l)
name-letter b h (inl small) =
    letter-of (class_of b) (subst (λ (p : Bool). (not p || is_letter_class (class_of b)) ≡ true) h
    (agree_below_at (λ (z : ℕ). not (in_name z) || is_letter_class (class_of z)) (λ (z : ℕ). true) 128 b name-low small))
name-letter b h (inr large) = absurd (true≢false (sym h ∙ name-high b large))

lower-last : (letters : List ℕ) (b : ℕ) → str_to_ascii_lowercase (letters ++ b ∷ []) ≡ in_lower_case letters ++ to_ascii_lowercase b ∷ []
lower-last letters b = sym (lower-same (letters ++ b ∷ [])) ∙ lower-append letters (b ∷ [])

pub last-of-name : (letters : List ℕ) (b : ℕ) → may_be_name_of element.Script (letters ++ b ∷ []) ≡ true → (l : LetterClass) × (class_of b ≡ Letter l)
last-of-name letters b h =
    name-letter b (prefix-last (codes "script") (in_lower_case letters) (to_ascii_lowercase b) (sym (ap (starts_with nat_eq (codes "script")) (lower-last letters b)) ∙ h)) (cases_lt b 128)

-- no word has a second `<`
no-second : (ys : List ℕ) → begins_hidden (60 ∷ (ys ++ 60 ∷ [])) ≡ true → ⊥
no-second ys h = none (or-three _ _ _ (subst (λ (z : List ℕ). list_any (λ (word : List ℕ). starts_with nat_eq word (60 ∷ z)) (codes "<script" ∷ codes "</script" ∷ codes "<!--" ∷ []) ≡ true) (lower-append ys (60 ∷ [])) h))
  where
    none : (starts_with nat_eq (codes "script") (in_lower_case ys ++ 60 ∷ []) ≡ true) ⊎ ((starts_with nat_eq (codes "/script") (in_lower_case ys ++ 60 ∷ []) ≡ true) ⊎ (starts_with nat_eq (codes "!--") (in_lower_case ys ++ 60 ∷ []) ≡ true)) → ⊥
    none (inl p) = true≢false (sym (prefix-last (codes "script") (in_lower_case ys) 60 p))
    none (inr (inl p)) = true≢false (sym (prefix-last (codes "/script") (in_lower_case ys) 60 p))
    none (inr (inr p)) = true≢false (sym (prefix-last (codes "!--") (in_lower_case ys) 60 p))

no-less-in-word : (ys : List ℕ) (c : Class) (b : ℕ) → class_of b ≡ c → begins_hidden (60 ∷ (ys ++ b ∷ [])) ≡ true → is_less_class c ≡ false
no-less-in-word ys LessThan b h w = absurd (no-second ys (subst (λ (z : ℕ). begins_hidden (60 ∷ (ys ++ z ∷ [])) ≡ true) (less-is b h) w))
no-less-in-word ys c b h w = refl

-- What is pending in a token.
class-solidus : class_of 47 ≡ Solidus
unfolding class_of
class-solidus = refl

class-bang : class_of 33 ≡ ExclamationMark
unfolding class_of
class-bang = refl

class-dash : class_of 45 ≡ HyphenMinus
unfolding class_of
class-dash = refl

pub solidus-behind-less : (e : Element) → StepGoes e PendingLess 47 (PendingName [])
solidus-behind-less e = step-goes e PendingLess (PendingName []) Solidus 47 [] class-solidus refl refl

pub bang-behind-less : (e : Element) → StepGoes e PendingLess 33 PendingBang
bang-behind-less e = step-goes e PendingLess PendingBang ExclamationMark 33 [] class-bang refl refl

pub dash-behind-bang : (e : Element) → StepGoes e PendingBang 45 PendingBangDash
dash-behind-bang e = step-goes e PendingBang PendingBangDash HyphenMinus 45 [] class-dash refl refl

pub name-goes : (letters : List ℕ) (b : ℕ) (l : LetterClass) → class_of b ≡ Letter l → may_be_name_of element.Script (letters ++ b ∷ []) ≡ true
    → StepGoes element.Script (PendingName letters) b (PendingName (letters ++ b ∷ []))
name-goes letters b l h m = step-goes element.Script (PendingName letters) (PendingName (letters ++ b ∷ [])) (Letter l) b [] h (rw m refl) refl

less-of-goes : (c : Class) (b : ℕ) → class_of b ≡ c → begins_hidden (60 ∷ b ∷ []) ≡ true → PageGoes element.Script Nothing (pending_bytes (word_goes_on PendingLess c b)) (seen_by_page (word_goes_on PendingLess c b))
less-of-goes Solidus b h w = (PendingLess, less-goes element.Script Nothing, (PendingName [], solidus-behind-less element.Script, refl))
less-of-goes ExclamationMark b h w = (PendingLess, less-goes element.Script Nothing, (PendingBang, bang-behind-less element.Script, refl))
less-of-goes LessThan b h w = absurd (true≢false (no-less-in-word [] LessThan b h w))
less-of-goes c b h w = (PendingLess, less-goes element.Script Nothing, (Nothing, behind-less-goes element.Script c b h refl, refl))

pub token-holds : (h : Pending) (c : Class) (b : ℕ) → class_of b ≡ c → in_word (pending_bytes h ++ b ∷ []) ≡ BeginsWord → PageGoes element.Script Nothing (pending_bytes h) (seen_by_page h)
    → PageGoes element.Script Nothing (pending_bytes (word_goes_on h c b)) (seen_by_page (word_goes_on h c b))
token-holds Nothing c b k w m = (PendingLess, less-goes element.Script Nothing, refl)
token-holds PendingLess c b k w m = less-of-goes c b k (begins-is (60 ∷ b ∷ []) w).1
token-holds LessAtCut c b k w m = (PendingLess, less-goes element.Script Nothing, refl)
token-holds (PendingName letters) c b k w m =
    let name = may-be-name (letters ++ b ∷ []) w in
    let l = last-of-name letters b name in
    goes-append (60 ∷ 47 ∷ letters) (b ∷ []) element.Script Nothing (PendingName letters) (PendingName (letters ++ b ∷ [])) m (PendingName (letters ++ b ∷ []), name-goes letters b l.0 l.1 name, refl)
token-holds PendingBang c b k w m =
    goes-append (60 ∷ 33 ∷ []) (45 ∷ []) element.Script Nothing PendingBang PendingBangDash m (PendingBangDash, dash-behind-bang element.Script, refl)
token-holds PendingBangDash c b k w m = absurd (word-whole b w)
token-holds (PendingOpening letters) c b k w m =
    goes-append (60 ∷ letters) (b ∷ []) element.Script Nothing Nothing Nothing m
    (Nothing, loose-goes element.Script c b k (no-less-in-word letters c b k (begins-is (60 ∷ (letters ++ b ∷ [])) w).1), refl)

-- One more byte, where it ends no content and tells nothing.
by-step : (e : Element) (g : Pending) (c : Class) (b : ℕ) (z : ScriptStep) → script_step true e g c b ≡ z → class_of b ≡ c → tells_comment_of_html g c ≡ false
    → ((letters : List ℕ) → z ≡ EndsContent letters → ⊥) → (k : Pending) × StepGoes e g b k
by-step e g c b (Reads bytes k) s h n ends = (k, step-goes e g k c b bs-of h s n)
  where
    bs-of : List ℕ
    bs-of = bytes
by-step e g c b (EndsContent letters) s h n ends = absurd (ends letters refl)

pub one-more : (e : Element) (g : Pending) (c : Class) (b : ℕ) → class_of b ≡ c → tells_comment_of_html g c ≡ false → ((letters : List ℕ) → script_step true e g c b ≡ EndsContent letters → ⊥)
    → (k : Pending) × StepGoes e g b k
one-more e g c b h n ends = by-step e g c b (script_step true e g c b) refl h n ends

-- `<!--` is a word
pub dashes-are : in_word (60 ∷ 33 ∷ 45 ∷ 45 ∷ []) ≡ NoWord → ⊥
unfolding in_word
dashes-are w = cc

-- What is pending is a `<`, and behind it letters, `!`, `-`, or a `/` first.
prefix-all : (test : ℕ → Bool) (word ys : List ℕ) → list_all test word ≡ true → starts_with nat_eq word ys ≡ true → list_all test ys ≡ true
prefix-all test word [] a h = refl
prefix-all test [] (y ∷ ys) a h = absurd (true≢false (sym h))
prefix-all test (d ∷ word) (y ∷ ys) a h =
    let b = and-both (test d) (list_all test word) a in
    let m = and-both (nat_eq y d) _ h in
    subst (λ (z : Bool). (z && list_all test ys) ≡ true) (sym b.0 ∙ ap test (sym (eqb-true y d m.0))) (prefix-all test word ys b.1 m.1)

word-byte-low : agree_below (λ (b : ℕ). not (is_byte_of_word (to_ascii_lowercase b)) || is_byte_of_word b) (λ (b : ℕ). true) 128 ≡ true
word-byte-low = refl

word-byte : (b : ℕ) → is_byte_of_word (to_ascii_lowercase b) ≡ true → (b < 128) ⊎ (128 ≤ b) → is_byte_of_word b ≡ true
word-byte b h (inl small) =
    subst (λ (p : Bool). (not p || is_byte_of_word b) ≡ true) h
    (agree_below_at (λ (z : ℕ). not (is_byte_of_word (to_ascii_lowercase z)) || is_byte_of_word z) (λ (z : ℕ). true) 128 b word-byte-low small)
word-byte b h (inr large) = subst (λ (z : ℕ). is_byte_of_word z ≡ true) (lower-high b large) h

word-bytes-all : (bs : List ℕ) → list_all is_byte_of_word (in_lower_case bs) ≡ true → list_all is_byte_of_word bs ≡ true
word-bytes-all [] h = refl
word-bytes-all (b ∷ bs) h =
    let m = and-both (is_byte_of_word (to_ascii_lowercase b)) _ h in
    rw (word-byte b m.0 (cases_lt b 128)) (word-bytes-all bs m.1)

all-behind : (bs : List ℕ) → list_all is_byte_of_word bs ≡ true → are_behind_less bs ≡ true
all-behind [] h = refl
all-behind (b ∷ bs) h =
    let m = and-both (is_byte_of_word b) (list_all is_byte_of_word bs) h in
    rw (or-right (b == 47) (is_byte_of_word b) m.0) m.1

slash-low : agree_below (λ (b : ℕ). not (to_ascii_lowercase b == 47) || (b == 47)) (λ (b : ℕ). true) 128 ≡ true
slash-low = refl

slash-is : (b : ℕ) → (to_ascii_lowercase b == 47) ≡ true → (b < 128) ⊎ (128 ≤ b) → (b == 47) ≡ true
slash-is b h (inl small) =
    subst (λ (p : Bool). (not p || (b == 47)) ≡ true) h (agree_below_at (λ (z : ℕ). not (to_ascii_lowercase z == 47) || (z == 47)) (λ (z : ℕ). true) 128 b slash-low small)
slash-is b h (inr large) = subst (λ (z : ℕ). (z == 47) ≡ true) (lower-high b large) h

behind-in-name : (bs : List ℕ) → starts_with nat_eq (codes "script") (in_lower_case bs) ≡ true → list_all is_byte_of_word bs ≡ true
behind-in-name bs h = word-bytes-all bs (prefix-all is_byte_of_word (codes "script") (in_lower_case bs) refl h)

pub name-bytes : (letters : List ℕ) → may_be_name_of element.Script letters ≡ true → list_all is_byte_of_word letters ≡ true
name-bytes letters h = behind-in-name letters (ap (starts_with nat_eq (codes "script")) (lower-same letters) ∙ h)

behind-in-end : (bs : List ℕ) → starts_with nat_eq (codes "/script") (in_lower_case bs) ≡ true → are_behind_less bs ≡ true
behind-in-end [] h = refl
behind-in-end (b ∷ bs) h =
    let m = and-both (nat_eq (to_ascii_lowercase b) 47) _ h in
    rw (slash-is b m.0 (cases_lt b 128)) (behind-in-name bs m.1)

behind-by : (b : ℕ) (bs : List ℕ) → (starts_with nat_eq (codes "<script") (in_lower_case (b ∷ bs)) ≡ true) ⊎ ((starts_with nat_eq (codes "</script") (in_lower_case (b ∷ bs)) ≡ true) ⊎ (starts_with nat_eq (codes "<!--") (in_lower_case (b ∷ bs)) ≡ true))
    → are_behind_less bs ≡ true
behind-by b bs (inl h) = all-behind bs (behind-in-name bs (and-both (nat_eq (to_ascii_lowercase b) 60) _ h).1)
behind-by b bs (inr (inl h)) = behind-in-end bs (and-both (nat_eq (to_ascii_lowercase b) 60) _ h).1
behind-by b bs (inr (inr h)) = all-behind bs (word-bytes-all bs (prefix-all is_byte_of_word (codes "!--") (in_lower_case bs) refl (and-both (nat_eq (to_ascii_lowercase b) 60) _ h).1))

pub word-bytes : (bytes : List ℕ) → in_word bytes ≡ BeginsWord → are_behind_less (behind_less bytes) ≡ true
word-bytes [] h = refl
word-bytes (b ∷ bs) h = behind-by b bs (or-three _ _ _ (begins-is (b ∷ bs) h).1)

-- a whole word
equal-all : (test : ℕ → Bool) (word ys : List ℕ) → list_all test word ≡ true → bytes_eq ys word ≡ true → list_all test ys ≡ true
equal-all test word [] a h = refl
equal-all test [] (y ∷ ys) a h = absurd (true≢false (sym h))
equal-all test (d ∷ word) (y ∷ ys) a h =
    let b = and-both (test d) (list_all test word) a in
    let m = and-both (nat_eq y d) _ h in
    subst (λ (z : Bool). (z && list_all test ys) ≡ true) (sym b.0 ∙ ap test (sym (eqb-true y d m.0))) (equal-all test word ys b.1 m.1)

end-equal : (bs : List ℕ) → bytes_eq (in_lower_case bs) (codes "/script") ≡ true → are_behind_less bs ≡ true
end-equal [] h = refl
end-equal (b ∷ bs) h =
    let m = and-both (nat_eq (to_ascii_lowercase b) 47) _ h in
    rw (slash-is b m.0 (cases_lt b 128)) (word-bytes-all bs (equal-all is_byte_of_word (codes "script") (in_lower_case bs) refl m.1))

equal-by : (b : ℕ) (bs : List ℕ) → (bytes_eq (in_lower_case (b ∷ bs)) (codes "<script") ≡ true) ⊎ ((bytes_eq (in_lower_case (b ∷ bs)) (codes "</script") ≡ true) ⊎ (bytes_eq (in_lower_case (b ∷ bs)) (codes "<!--") ≡ true))
    → are_behind_less bs ≡ true
equal-by b bs (inl h) = all-behind bs (word-bytes-all bs (equal-all is_byte_of_word (codes "script") (in_lower_case bs) refl (and-both (nat_eq (to_ascii_lowercase b) 60) _ h).1))
equal-by b bs (inr (inl h)) = end-equal bs (and-both (nat_eq (to_ascii_lowercase b) 60) _ h).1
equal-by b bs (inr (inr h)) = all-behind bs (word-bytes-all bs (equal-all is_byte_of_word (codes "!--") (in_lower_case bs) refl (and-both (nat_eq (to_ascii_lowercase b) 60) _ h).1))

pub behind-by-equal : (b : ℕ) (bs : List ℕ) → is_hidden_in_script (b ∷ bs) ≡ true → are_behind_less bs ≡ true
behind-by-equal b bs h = equal-by b bs (or-three _ _ _ h)

-- a byte that is none of the name's
false-by : (x : Bool) → (x ≡ true → ⊥) → x ≡ false
false-by true f = absurd (f refl)
false-by false f = refl

pub name-without : (letters : List ℕ) (b : ℕ) → in_name b ≡ false → may_be_name_of element.Script (letters ++ b ∷ []) ≡ false
name-without letters b n = false-by (may_be_name_of element.Script (letters ++ b ∷ []))
    (λ h. true≢false (sym (prefix-last (codes "script") (in_lower_case letters) (to_ascii_lowercase b) (sym (ap (starts_with nat_eq (codes "script")) (lower-last letters b)) ∙ h)) ∙ n))

none-by : (p q : Bool) → (if p then IsWord else (if q then BeginsWord else NoWord)) ≡ NoWord → (p ≡ false) × (q ≡ false)
none-by true q h = cc
none-by false true h = cc
none-by false false h = (refl, refl)

pub none-is : (bytes : List ℕ) → in_word bytes ≡ NoWord → (is_hidden_in_script bytes ≡ false) × (begins_hidden bytes ≡ false)
unfolding in_word
none-is bytes h = none-by (is_hidden_in_script bytes) (begins_hidden bytes) h

pub not-hidden : (bytes : List ℕ) → in_word bytes ≡ BeginsWord → is_hidden_in_script bytes ≡ false
not-hidden bytes h = (begins-is bytes h).0

whole-by : (p q : Bool) → (if p then IsWord else (if q then BeginsWord else NoWord)) ≡ IsWord → p ≡ true
whole-by true q h = refl
whole-by false true h = cc
whole-by false false h = cc

pub whole-is : (bytes : List ℕ) → in_word bytes ≡ IsWord → is_hidden_in_script bytes ≡ true
unfolding in_word
whole-is bytes h = whole-by (is_hidden_in_script bytes) (begins_hidden bytes) h
