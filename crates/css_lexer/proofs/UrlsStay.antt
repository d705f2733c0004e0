-- What is written of a value in a URL stays in its url token, with quotes and without, whatever URLs there are.
use Rattle.std.proofs.Common.{◌≡◌, ℕ, ◌/◌, ◌%◌, ◌<◌, ◌==◌, ◌||◌, ◌&&◌, nat_lt, cond, Bool, true, false, codes, List, [], ◌∷◌, refl, sym, subst, arith, true≢false}
use Rattle.std.proofs.lemmas.Bool.Decides.{nat_tests}
use Rattle.std.specs.List.{list_any, list_all}
use Rattle.css_lexer.proofs.CodeIsBack.{left, right, both, none-in}
use Rattle.css_lexer.proofs.StringsAreBack.{same-reading}
use Rattle.css_lexer.specs.Classes.{style_class}
use Rattle.css_lexer.specs.Escapes.{NoEscape, AfterBackslash, HexDigits, AfterReturn}
use Rattle.css_lexer.specs.Events.{StyleEvent, told_in_url}
use Rattle.css_lexer.specs.Plain.{is_excluded_from_url, MayStandInUrl, only_url}
use Rattle.css_lexer.specs.StaysInUrl.{is_byte, UrlTakesHole, begun, form_behind, fed, StaysInUrl}
use Rattle.css_lexer.specs.States.{DoubleQuote, SingleQuote, UrlForm, Fresh, Bare, Quoted, Ended, InUrl}
use Rattle.css_lexer.specs.Steps.{style_next, style_emits_class, StyleReading, style_reading, read_style}
use Rattle.css_lexer.specs.UrlReading.{UrlReading}
use Rattle.css_lexer.specs.declared.class.StyleClass.{StyleClass}
use Rattle.css_lexer.specs.declared.class.StyleClass.TheVariants as class
use Rattle.url_lexer.specs.Classes.{url_class_of}
use Rattle.url_lexer.specs.Kept.{is_kept_in_url, is_unreserved, begins_triple, begins_with_digits}
use Rattle.url_lexer.specs.Parts.{UrlPart, UrlStart, UrlOpen, UrlOpenhole, UrlPrequery, UrlQuery, UrlBad}
use Rattle.url_lexer.specs.Sanitizers.{hexadecimal_digit, triple, is_filtered, before_colon, url_filter, url_norm, without_scheme_at, without_scheme, url_query, written_in}
use Rattle.url_lexer.specs.declared.class.UrlClass.{UrlClass}
use Rattle.url_lexer.specs.declared.class.UrlClass.TheVariants as url

-- bytes that end a URL, or may not stand in one
abbrev is_misplaced : ℕ → Bool
is_misplaced b = is_excluded_from_url b || (b == 34 || (b == 39 || (b == 40 || b == 41)))

kept-stays : (b : ℕ) → is_kept_in_url b ≡ true → is_misplaced b ≡ false
kept-stays b k = grind (arith, nat_tests)

unreserved-stays : (b : ℕ) → is_unreserved b ≡ true → is_misplaced b ≡ false
unreserved-stays b k = grind (arith, nat_tests)

percent-stays : (b : ℕ) → (b == 37) ≡ true → is_misplaced b ≡ false
percent-stays b k = grind (arith, nat_tests)

digit-stays : (n : ℕ) → n < 16 → is_misplaced (hexadecimal_digit n) ≡ false
digit-stays n k = grind (arith, nat_tests)

-- the classes of all other bytes
abbrev is_url_class : StyleClass → Bool
is_url_class class.Blank = false
is_url_class class.Newline = false
is_url_class class.ReverseSolidus = false
is_url_class class.QuotationMark = false
is_url_class class.Apostrophe = false
is_url_class class.LeftParenthesis = false
is_url_class class.RightParenthesis = false
is_url_class c = true

url-classes : (blank newline word backslash quote apostrophe opening closing solidus asterisk less punctuation : Bool)
    → blank ≡ false → newline ≡ false → backslash ≡ false → quote ≡ false → apostrophe ≡ false → opening ≡ false → closing ≡ false
    → is_url_class (cond blank class.Blank (cond newline class.Newline (cond word class.WordByte (cond backslash class.ReverseSolidus (cond quote class.QuotationMark (cond apostrophe class.Apostrophe (cond opening class.LeftParenthesis (cond closing class.RightParenthesis (cond solidus class.Solidus (cond asterisk class.Asterisk (cond less class.LessThan (cond punctuation class.Punctuation class.OtherByte)))))))))))) ≡ true
url-classes true n w b q a o c s k l p e1 e2 e3 e4 e5 e6 e7 = absurd (true≢false e1)
url-classes false true w b q a o c s k l p e1 e2 e3 e4 e5 e6 e7 = absurd (true≢false e2)
url-classes false false true b q a o c s k l p e1 e2 e3 e4 e5 e6 e7 = refl
url-classes false false false true q a o c s k l p e1 e2 e3 e4 e5 e6 e7 = absurd (true≢false e3)
url-classes false false false false true a o c s k l p e1 e2 e3 e4 e5 e6 e7 = absurd (true≢false e4)
url-classes false false false false false true o c s k l p e1 e2 e3 e4 e5 e6 e7 = absurd (true≢false e5)
url-classes false false false false false false true c s k l p e1 e2 e3 e4 e5 e6 e7 = absurd (true≢false e6)
url-classes false false false false false false false true s k l p e1 e2 e3 e4 e5 e6 e7 = absurd (true≢false e7)
url-classes false false false false false false false false true k l p e1 e2 e3 e4 e5 e6 e7 = refl
url-classes false false false false false false false false false true l p e1 e2 e3 e4 e5 e6 e7 = refl
url-classes false false false false false false false false false false true p e1 e2 e3 e4 e5 e6 e7 = refl
url-classes false false false false false false false false false false false true e1 e2 e3 e4 e5 e6 e7 = refl
url-classes false false false false false false false false false false false false e1 e2 e3 e4 e5 e6 e7 = refl

no-blank : (b : ℕ) → is_misplaced b ≡ false → (b == 9 || b == 32) ≡ false
no-blank b e = grind (arith, nat_tests)

no-line : (b : ℕ) → is_misplaced b ≡ false → (b == 10 || (b == 12 || b == 13)) ≡ false
no-line b e = grind (arith, nat_tests)

no-backslash : (b : ℕ) → is_misplaced b ≡ false → (b == 92) ≡ false
no-backslash b e = grind (arith, nat_tests)

no-quote : (b : ℕ) → is_misplaced b ≡ false → (b == 34) ≡ false
no-quote b e = grind (arith, nat_tests)

no-apostrophe : (b : ℕ) → is_misplaced b ≡ false → (b == 39) ≡ false
no-apostrophe b e = grind (arith, nat_tests)

no-opening : (b : ℕ) → is_misplaced b ≡ false → (b == 40) ≡ false
no-opening b e = grind (arith, nat_tests)

no-closing : (b : ℕ) → is_misplaced b ≡ false → (b == 41) ≡ false
no-closing b e = grind (arith, nat_tests)

url-class : (b : ℕ) → is_misplaced b ≡ false → is_url_class (style_class b) ≡ true
unfolding style_class
url-class b e = url-classes (b == 9 || b == 32) (b == 10 || (b == 12 || b == 13)) _ (b == 92) (b == 34) (b == 39) (b == 40) (b == 41) _ _ _ _
    (no-blank b e) (no-line b e) (no-backslash b e) (no-quote b e) (no-apostrophe b e) (no-opening b e) (no-closing b e)

-- where such a byte leads a page in a URL, and what it tells
goes : {U E : Type 0} (x : UrlReading U E) (f : UrlForm) (u : U) (c : StyleClass) (b : ℕ) → UrlTakesHole f → is_url_class c ≡ true → style_next x (InUrl f u) c b ≡ InUrl (begun f) (x.feed u b)
goes x Fresh u class.Blank b o h = absurd (true≢false (sym h))
goes x Fresh u class.Newline b o h = absurd (true≢false (sym h))
goes x Fresh u class.ReverseSolidus b o h = absurd (true≢false (sym h))
goes x Fresh u class.QuotationMark b o h = absurd (true≢false (sym h))
goes x Fresh u class.Apostrophe b o h = absurd (true≢false (sym h))
goes x Fresh u class.LeftParenthesis b o h = absurd (true≢false (sym h))
goes x Fresh u class.RightParenthesis b o h = absurd (true≢false (sym h))
goes x Fresh u c b o h = refl
goes x Bare u class.Blank b o h = absurd (true≢false (sym h))
goes x Bare u class.Newline b o h = absurd (true≢false (sym h))
goes x Bare u class.ReverseSolidus b o h = absurd (true≢false (sym h))
goes x Bare u class.QuotationMark b o h = absurd (true≢false (sym h))
goes x Bare u class.Apostrophe b o h = absurd (true≢false (sym h))
goes x Bare u class.LeftParenthesis b o h = absurd (true≢false (sym h))
goes x Bare u class.RightParenthesis b o h = absurd (true≢false (sym h))
goes x Bare u c b o h = refl
goes x (Quoted DoubleQuote NoEscape) u class.Newline b o h = absurd (true≢false (sym h))
goes x (Quoted DoubleQuote NoEscape) u class.QuotationMark b o h = absurd (true≢false (sym h))
goes x (Quoted DoubleQuote NoEscape) u class.ReverseSolidus b o h = absurd (true≢false (sym h))
goes x (Quoted DoubleQuote NoEscape) u c b o h = refl
goes x (Quoted SingleQuote NoEscape) u class.Newline b o h = absurd (true≢false (sym h))
goes x (Quoted SingleQuote NoEscape) u class.Apostrophe b o h = absurd (true≢false (sym h))
goes x (Quoted SingleQuote NoEscape) u class.ReverseSolidus b o h = absurd (true≢false (sym h))
goes x (Quoted SingleQuote NoEscape) u c b o h = refl
goes x (Quoted q AfterBackslash) u c b o h = absurd o
goes x (Quoted q (HexDigits n)) u c b o h = absurd o
goes x (Quoted q AfterReturn) u c b o h = absurd o
goes x Ended u c b o h = absurd o

tells : {U E : Type 0} (x : UrlReading U E) (f : UrlForm) (u : U) (c : StyleClass) (b : ℕ) (t : List (StyleEvent E)) → UrlTakesHole f → is_url_class c ≡ true → style_emits_class x (InUrl f u) c b t ≡ told_in_url (x.emits u b) t
tells x Fresh u class.Blank b t o h = absurd (true≢false (sym h))
tells x Fresh u class.Newline b t o h = absurd (true≢false (sym h))
tells x Fresh u class.ReverseSolidus b t o h = absurd (true≢false (sym h))
tells x Fresh u class.QuotationMark b t o h = absurd (true≢false (sym h))
tells x Fresh u class.Apostrophe b t o h = absurd (true≢false (sym h))
tells x Fresh u class.LeftParenthesis b t o h = absurd (true≢false (sym h))
tells x Fresh u class.RightParenthesis b t o h = absurd (true≢false (sym h))
tells x Fresh u c b t o h = refl
tells x Bare u class.Blank b t o h = absurd (true≢false (sym h))
tells x Bare u class.Newline b t o h = absurd (true≢false (sym h))
tells x Bare u class.ReverseSolidus b t o h = absurd (true≢false (sym h))
tells x Bare u class.QuotationMark b t o h = absurd (true≢false (sym h))
tells x Bare u class.Apostrophe b t o h = absurd (true≢false (sym h))
tells x Bare u class.LeftParenthesis b t o h = absurd (true≢false (sym h))
tells x Bare u class.RightParenthesis b t o h = absurd (true≢false (sym h))
tells x Bare u c b t o h = refl
tells x (Quoted DoubleQuote NoEscape) u class.Newline b t o h = absurd (true≢false (sym h))
tells x (Quoted DoubleQuote NoEscape) u class.QuotationMark b t o h = absurd (true≢false (sym h))
tells x (Quoted DoubleQuote NoEscape) u class.ReverseSolidus b t o h = absurd (true≢false (sym h))
tells x (Quoted DoubleQuote NoEscape) u c b t o h = refl
tells x (Quoted SingleQuote NoEscape) u class.Newline b t o h = absurd (true≢false (sym h))
tells x (Quoted SingleQuote NoEscape) u class.Apostrophe b t o h = absurd (true≢false (sym h))
tells x (Quoted SingleQuote NoEscape) u class.ReverseSolidus b t o h = absurd (true≢false (sym h))
tells x (Quoted SingleQuote NoEscape) u c b t o h = refl
tells x (Quoted q AfterBackslash) u c b t o h = absurd o
tells x (Quoted q (HexDigits n)) u c b t o h = absurd o
tells x (Quoted q AfterReturn) u c b t o h = absurd o
tells x Ended u c b t o h = absurd o

still : (f : UrlForm) → UrlTakesHole f → UrlTakesHole (begun f)
still Fresh o = tt
still Bare o = tt
still (Quoted q NoEscape) o = tt
still (Quoted q AfterBackslash) o = absurd o
still (Quoted q (HexDigits n)) o = absurd o
still (Quoted q AfterReturn) o = absurd o
still Ended o = absurd o

behind-begun : (f : UrlForm) (bs : List ℕ) → form_behind (begun f) bs ≡ begun f
behind-begun Fresh [] = refl
behind-begun Fresh (b ∷ bs) = refl
behind-begun Bare [] = refl
behind-begun Bare (b ∷ bs) = refl
behind-begun (Quoted q e) [] = refl
behind-begun (Quoted q e) (b ∷ bs) = refl
behind-begun Ended [] = refl
behind-begun Ended (b ∷ bs) = refl

inside-url : {E : Type 0} (es : List E) (t : List (StyleEvent E)) → only_url t ≡ true → only_url (told_in_url es t) ≡ true
inside-url [] t h = h
inside-url (e ∷ es) t h = inside-url es t h

abbrev StaysAt : {U E : Type 0} → UrlForm → U → StyleReading U E → Type 0
StaysAt f u r = (r.at ≡ InUrl f u) × (only_url r.told ≡ true)

stays-read : {U E : Type 0} (x : UrlReading U E) (bs : List ℕ) (f : UrlForm) (u : U) (t : List (StyleEvent E)) → UrlTakesHole f → list_any is_misplaced bs ≡ false → only_url t ≡ true
    → StaysAt (form_behind f bs) (fed x u bs) (read_style x bs (style_reading (InUrl f u) t))
stays-read x [] f u t o n h = (refl, h)
stays-read {U} {E} x (b ∷ bs) f u t o n h =
    let c = url-class b (left (is_misplaced b) _ n) in
    subst (λ (r : StyleReading U E). StaysAt (begun f) (fed x (x.feed u b) bs) (read_style x bs r))
    (sym (same-reading {U = U} {E = E} (goes x f u (style_class b) b o c) (tells x f u (style_class b) b t o c)))
    (subst (λ (g : UrlForm). StaysAt g (fed x (x.feed u b) bs) (read_style x bs (style_reading (InUrl (begun f) (x.feed u b)) (told_in_url (x.emits u b) t)))) (behind-begun f bs)
    (stays-read x bs (begun f) (x.feed u b) (told_in_url (x.emits u b) t) (still f o) (right (is_misplaced b) _ n) (inside-url (x.emits u b) t h)))

-- what is written has no such byte
one-of : (p q : Bool) (A : Type 0) → p || q ≡ true → (p ≡ true → A) → (q ≡ true → A) → A
one-of true q A e f g = f refl
one-of false q A e f g = g e

first-of : (p q : Bool) → p && q ≡ true → p ≡ true
first-of true q e = refl
first-of false q e = absurd (true≢false (sym e))

second-of : (p q : Bool) → p && q ≡ true → q ≡ true
second-of true q e = e
second-of false q e = absurd (true≢false (sym e))

alone : (b : ℕ) → is_misplaced b ≡ false → list_any is_misplaced (b ∷ []) ≡ false
alone b e = both (is_misplaced b) false e refl

high-digit : (b : ℕ) → nat_lt b 256 ≡ true → b / 16 < 16
high-digit b e = grind (arith, nat_tests)

low-digit : (b : ℕ) → b % 16 < 16
low-digit b = omega arith

triple-stays : (b : ℕ) → is_byte b ≡ true → list_any is_misplaced (triple b) ≡ false
triple-stays b e = both (is_misplaced (hexadecimal_digit (b / 16))) _ (digit-stays (b / 16) (high-digit b e)) (both (is_misplaced (hexadecimal_digit (b % 16))) false (digit-stays (b % 16) (low-digit b)) refl)

kept-or-triple : (b : ℕ) (bs : List ℕ) (p : Bool) → is_kept_in_url b || begins_triple b bs ≡ p → is_byte b ≡ true → list_any is_misplaced (cond p (b ∷ []) (triple b)) ≡ false
kept-or-triple b bs true k e = alone b (one-of (is_kept_in_url b) (begins_triple b bs) (is_misplaced b ≡ false) k (kept-stays b) (λ t. percent-stays b (first-of (b == 37) (begins_with_digits bs) t)))
kept-or-triple b bs false k e = triple-stays b e

norm-stays : (bs : List ℕ) → list_all is_byte bs ≡ true → list_any is_misplaced (url_norm bs) ≡ false
norm-stays [] e = refl
norm-stays (b ∷ bs) e = none-in is_misplaced (cond (is_kept_in_url b || begins_triple b bs) (b ∷ []) (triple b)) (url_norm bs) (kept-or-triple b bs (is_kept_in_url b || begins_triple b bs) refl (first-of (is_byte b) _ e)) (norm-stays bs (second-of (is_byte b) _ e))

unreserved-or-triple : (b : ℕ) (p : Bool) → is_unreserved b ≡ p → is_byte b ≡ true → list_any is_misplaced (cond p (b ∷ []) (triple b)) ≡ false
unreserved-or-triple b true k e = alone b (unreserved-stays b k)
unreserved-or-triple b false k e = triple-stays b e

query-stays : (bs : List ℕ) → list_all is_byte bs ≡ true → list_any is_misplaced (url_query bs) ≡ false
query-stays [] e = refl
query-stays (b ∷ bs) e = none-in is_misplaced (cond (is_unreserved b) (b ∷ []) (triple b)) (url_query bs) (unreserved-or-triple b (is_unreserved b) refl (first-of (is_byte b) _ e)) (query-stays bs (second-of (is_byte b) _ e))

filter-bytes : (p : Bool) (bs : List ℕ) → list_all is_byte bs ≡ true → list_all is_byte (cond p (codes "#ZgotmplZ") bs) ≡ true
filter-bytes true bs e = refl
filter-bytes false bs e = e

all-of : (p q : Bool) → p ≡ true → q ≡ true → p && q ≡ true
all-of true q e f = f
all-of false q e f = absurd (true≢false (sym e))

scheme-byte : (c : UrlClass) (b : ℕ) (bs rest : List ℕ) → is_byte b ≡ true → list_all is_byte bs ≡ true → list_all is_byte rest ≡ true → list_all is_byte (without_scheme_at c b bs rest) ≡ true
scheme-byte url.Slash b bs rest e f g = all-of (is_byte b) _ e f
scheme-byte url.QueryMark b bs rest e f g = all-of (is_byte b) _ e f
scheme-byte url.Colon b bs rest e f g = g
scheme-byte c b bs rest e f g = all-of (is_byte b) _ e g

scheme-bytes : (bs : List ℕ) → list_all is_byte bs ≡ true → list_all is_byte (without_scheme bs) ≡ true
scheme-bytes [] e = refl
scheme-bytes (b ∷ bs) e = scheme-byte (url_class_of b) b bs (without_scheme bs) (first-of (is_byte b) _ e) (second-of (is_byte b) _ e) (scheme-bytes bs (second-of (is_byte b) _ e))

written-stays : (p : UrlPart) (text : List ℕ) → list_all is_byte text ≡ true → list_any is_misplaced (written_in p text) ≡ false
written-stays UrlStart text e = norm-stays (url_filter text) (filter-bytes (is_filtered (before_colon text)) text e)
written-stays (UrlOpen p) text e = norm-stays (without_scheme text) (scheme-bytes text e)
written-stays UrlOpenhole text e = norm-stays (without_scheme text) (scheme-bytes text e)
written-stays UrlPrequery text e = norm-stays text e
written-stays UrlQuery text e = query-stays text e
written-stays UrlBad text e = refl

may-stand : (bs : List ℕ) → list_any is_misplaced bs ≡ false → MayStandInUrl bs
may-stand [] e = refl
may-stand (b ∷ bs) e =
    both (is_excluded_from_url b) _ (left (is_excluded_from_url b) _ (left (is_misplaced b) _ e)) (may-stand bs (right (is_misplaced b) _ e))

pub url-stays : {U E : Type 0} (x : UrlReading U E) (p : UrlPart) (text : List ℕ) → list_all is_byte text ≡ true → StaysInUrl x (written_in p text)
url-stays x p text e =
    let n = written-stays p text e in
    record {
      allowed = may-stand (written_in p text) n;
      leads = λ f u o. (stays-read x (written_in p text) f u [] o n refl).0;
      tells = λ f u o. (stays-read x (written_in p text) f u [] o n refl).1;
    }
