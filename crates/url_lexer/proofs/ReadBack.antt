-- What is written for a value reads back.
use Rattle.std.proofs.Common.{◌≡◌, ℕ, zero, suc, ◌/◌, ◌%◌, ◌==◌, ◌&&◌, ◌||◌, nat_lt, Bool, true, false, codes, List, [], ◌∷◌, ◌++◌, refl, sym, ap, ap₂, ◌∙◌, if◌then◌else◌}
use Rattle.std.specs.Prelude.{⊤}
use Rattle.std.specs.Char.{is_ascii_hexdigit}
use Rattle.std.proofs.lemmas.Bool.{and_parts, eqb-true}
use Rattle.url_lexer.specs.Back.{triple_value, undone_behind, triples_undone, ReadsBackUnless}
use Rattle.url_lexer.specs.Classes.{url_class_of}
use Rattle.url_lexer.specs.Kept.{is_kept_in_url, is_delimiter, is_unreserved, begins_with_digits, begins_triple}
use Rattle.url_lexer.specs.Parts.{UrlStart, UrlOpen, UrlOpenhole, UrlPrequery, UrlQuery, UrlBad}
use Rattle.url_lexer.specs.Sanitizers.{hexadecimal_digit, triple, before_colon, is_filtered, url_norm, without_scheme, without_scheme_at, url_query}
use Rattle.url_lexer.specs.Written.{AreBytes, WrittenReadsBack}
use Rattle.url_lexer.specs.declared.class.UrlClass.{UrlClass}
use Rattle.url_lexer.specs.declared.class.UrlClass.TheVariants as class
use Rattle.url_lexer.proofs.ByteFacts.{colon-is, digit-class, digit-unreserved, hex-mark, kept-no-percent, value-back, first-digit, second-digit}
use Rattle.url_lexer.proofs.WrittenBytes.{norm-kept, norm-triple, kept-as-unreserved, or-first, open-bytes}

and-both : (x y : Bool) → x ≡ true → y ≡ true → (x && y) ≡ true
and-both true y e f = f
and-both false y e f = cc

or-second : (x y : Bool) → y ≡ true → (x || y) ≡ true
or-second true y e = refl
or-second false y e = e

or-none : (x y : Bool) → x ≡ false → y ≡ false → (x || y) ≡ false
or-none false y e f = f
or-none true y e f = cc

no-digits : (x : Bool) → (x && false) ≡ true → ⊥
no-digits true e = cc
no-digits false e = cc

-- the next bytes are digits
abbrev pub AreDigits : ℕ → List ℕ → Type 0
AreDigits zero bs = ⊤
AreDigits (suc n) [] = ⊥
AreDigits (suc n) (b ∷ bs) = (is_ascii_hexdigit b ≡ true) × AreDigits n bs

pub digits-two : (b : ℕ) (bs : List ℕ) → begins_triple b bs ≡ true → AreDigits 2 bs
digits-two b [] e = absurd (no-digits (b == 37) e)
digits-two b (x ∷ []) e = absurd (no-digits (b == 37) e)
digits-two b (x ∷ y ∷ bs) e =
    let p = and_parts (b == 37) (is_ascii_hexdigit x && is_ascii_hexdigit y) e in
    let q = and_parts (is_ascii_hexdigit x) (is_ascii_hexdigit y) p.1 in
    (q.0, (q.1, tt))

-- a byte that begins a triple, one that does not, and a triple that is written for a byte
pub undone-triple : (b : ℕ) (bs : List ℕ) → begins_triple b bs ≡ true → undone_behind 0 (b ∷ bs) ≡ triple_value bs ∷ undone_behind 2 bs
undone-triple b bs e = rw e refl

pub undone-byte : (b : ℕ) (bs : List ℕ) → begins_triple b bs ≡ false → undone_behind 0 (b ∷ bs) ≡ b ∷ undone_behind 0 bs
undone-byte b bs e = rw e refl

undone-written : (b : ℕ) (rest : List ℕ) → nat_lt b 256 ≡ true → undone_behind 0 (triple b ++ rest) ≡ b ∷ undone_behind 0 rest
undone-written b rest l =
    let x = hexadecimal_digit (b / 16) in
    let y = hexadecimal_digit (b % 16) in
    undone-triple 37 (x ∷ y ∷ rest) (and-both (is_ascii_hexdigit x) (is_ascii_hexdigit y) (first-digit b l).digit (second-digit b l).digit)
    ∙ ap (λ (i : ℕ). i ∷ undone_behind 0 rest) (value-back b l)

-- of a byte that is kept and no triple begins with
kept-begins : (b : ℕ) (rest : List ℕ) → nat_lt b 256 ≡ true → is_kept_in_url b ≡ true → begins_triple b rest ≡ false
kept-begins b rest l k = ap (λ (x : Bool). x && begins_with_digits rest) (kept-no-percent b l k)

-- normalizing changes nothing that is undone
digits-kept : (b : ℕ) (bs : List ℕ) → nat_lt b 256 ≡ true → is_ascii_hexdigit b ≡ true → url_norm (b ∷ bs) ≡ b ∷ url_norm bs
digits-kept b bs l h = norm-kept b bs (kept-as-unreserved b bs (digit-unreserved b l h))

norm-two : (bs : List ℕ) → AreBytes bs → AreDigits 2 bs → (begins_with_digits (url_norm bs) ≡ true) × (triple_value (url_norm bs) ≡ triple_value bs)
norm-two [] a d = absurd d
norm-two (x ∷ []) a d = absurd d.1
norm-two (x ∷ y ∷ bs) a d =
    let e : url_norm (x ∷ y ∷ bs) ≡ x ∷ y ∷ url_norm bs = digits-kept x (y ∷ bs) a.0 d.0 ∙ ap (λ (t : List ℕ). x ∷ t) (digits-kept y bs a.1.0 d.1.0) in
    (ap begins_with_digits e ∙ and-both (is_ascii_hexdigit x) (is_ascii_hexdigit y) d.0 d.1.0, ap triple_value e)

abbrev NormBack : List ℕ → Type 0
NormBack bs = (n : ℕ) → AreDigits n bs → undone_behind n (url_norm bs) ≡ undone_behind n bs

norm-back-triple : (b : ℕ) (bs : List ℕ) → AreBytes bs → begins_triple b bs ≡ true → NormBack bs → undone_behind 0 (url_norm (b ∷ bs)) ≡ undone_behind 0 (b ∷ bs)
norm-back-triple b bs a e h =
    let d = digits-two b bs e in
    let t = norm-two bs a d in
    let p = and_parts (b == 37) (begins_with_digits bs) e in
    ap (undone_behind 0) (norm-kept b bs (or-second (is_kept_in_url b) (begins_triple b bs) e))
    ∙ undone-triple b (url_norm bs) (and-both (b == 37) (begins_with_digits (url_norm bs)) p.0 t.0)
    ∙ ap₂ (λ (i : ℕ) (r : List ℕ). i ∷ r) t.1 (h 2 d) ∙ sym (undone-triple b bs e)

norm-back-byte : (b : ℕ) (bs : List ℕ) (k : Bool) → nat_lt b 256 ≡ true → begins_triple b bs ≡ false → is_kept_in_url b ≡ k → NormBack bs → undone_behind 0 (url_norm (b ∷ bs)) ≡ undone_behind 0 (b ∷ bs)
norm-back-byte b bs true l e k h =
    ap (undone_behind 0) (norm-kept b bs (or-first (is_kept_in_url b) (begins_triple b bs) k))
    ∙ undone-byte b (url_norm bs) (kept-begins b (url_norm bs) l k) ∙ ap (λ (r : List ℕ). b ∷ r) (h 0 tt) ∙ sym (undone-byte b bs e)
norm-back-byte b bs false l e k h =
    ap (undone_behind 0) (norm-triple b bs (or-none (is_kept_in_url b) (begins_triple b bs) k e))
    ∙ undone-written b (url_norm bs) l ∙ ap (λ (r : List ℕ). b ∷ r) (h 0 tt) ∙ sym (undone-byte b bs e)

norm-back-by : (b : ℕ) (bs : List ℕ) (x : Bool) → nat_lt b 256 ≡ true → AreBytes bs → begins_triple b bs ≡ x → NormBack bs → undone_behind 0 (url_norm (b ∷ bs)) ≡ undone_behind 0 (b ∷ bs)
norm-back-by b bs true l a e h = norm-back-triple b bs a e h
norm-back-by b bs false l a e h = norm-back-byte b bs (is_kept_in_url b) l e refl h

norm-back : (bs : List ℕ) → AreBytes bs → NormBack bs
norm-back [] a n d = refl
norm-back (b ∷ bs) a zero d = norm-back-by b bs (begins_triple b bs) a.0 a.1 refl (norm-back bs a.1)
norm-back (b ∷ bs) a (suc n) d = ap (undone_behind (suc n)) (digits-kept b bs a.0 d.0) ∙ norm-back bs a.1 n d.1

-- nor does a `:` that is written as a triple
open-digit : (b : ℕ) (bs : List ℕ) → nat_lt b 256 ≡ true → is_ascii_hexdigit b ≡ true → without_scheme (b ∷ bs) ≡ b ∷ without_scheme bs
open-digit b bs l h = ap (λ (c : UrlClass). without_scheme_at c b bs (without_scheme bs)) (digit-class b l h)

-- whether two digits stand first
open-second-by : (x y : ℕ) (bs rest : List ℕ) (c : UrlClass) → nat_lt y 256 ≡ true → url_class_of y ≡ c → begins_with_digits (x ∷ without_scheme_at c y bs rest) ≡ begins_with_digits (x ∷ y ∷ bs)
open-second-by x y bs rest class.Colon l e = ap (λ (i : Bool). is_ascii_hexdigit x && i) (sym (hex-mark y class.Colon l e refl))
open-second-by x y bs rest class.Slash l e = refl
open-second-by x y bs rest class.QueryMark l e = refl
open-second-by x y bs rest _ l e = refl

open-first-by : (x : ℕ) (bs rest : List ℕ) (c : UrlClass) → nat_lt x 256 ≡ true → url_class_of x ≡ c → begins_with_digits (x ∷ rest) ≡ begins_with_digits (x ∷ bs) → begins_with_digits (without_scheme_at c x bs rest) ≡ begins_with_digits (x ∷ bs)
open-first-by x [] rest class.Colon l e h = refl
open-first-by x (y ∷ bs) rest class.Colon l e h = ap (λ (i : Bool). i && is_ascii_hexdigit y) (sym (hex-mark x class.Colon l e refl))
open-first-by x bs rest class.Slash l e h = refl
open-first-by x bs rest class.QueryMark l e h = refl
open-first-by x bs rest _ l e h = h

open-digits : (bs : List ℕ) → AreBytes bs → begins_with_digits (without_scheme bs) ≡ begins_with_digits bs
open-digits [] a = refl
open-digits (x ∷ []) a = open-first-by x [] [] (url_class_of x) a.0 refl refl
open-digits (x ∷ y ∷ bs) a =
    open-first-by x (y ∷ bs) (without_scheme (y ∷ bs)) (url_class_of x) a.0 refl (open-second-by x y bs (without_scheme bs) (url_class_of y) a.1.0 refl)

open-two : (bs : List ℕ) → AreBytes bs → AreDigits 2 bs → triple_value (without_scheme bs) ≡ triple_value bs
open-two [] a d = absurd d
open-two (x ∷ []) a d = absurd d.1
open-two (x ∷ y ∷ bs) a d = ap triple_value (open-digit x (y ∷ bs) a.0 d.0 ∙ ap (λ (t : List ℕ). x ∷ t) (open-digit y bs a.1.0 d.1.0))

abbrev OpenBack : List ℕ → Type 0
OpenBack bs = (n : ℕ) → AreDigits n bs → undone_behind n (without_scheme bs) ≡ undone_behind n bs

open-back-same : (b : ℕ) (bs : List ℕ) (x : Bool) → AreBytes bs → begins_triple b bs ≡ x → OpenBack bs → undone_behind 0 (b ∷ without_scheme bs) ≡ undone_behind 0 (b ∷ bs)
open-back-same b bs true a e h =
    let d = digits-two b bs e in
    undone-triple b (without_scheme bs) (ap (λ (i : Bool). (b == 37) && i) (open-digits bs a) ∙ e)
    ∙ ap₂ (λ (i : ℕ) (r : List ℕ). i ∷ r) (open-two bs a d) (h 2 d) ∙ sym (undone-triple b bs e)
open-back-same b bs false a e h =
    undone-byte b (without_scheme bs) (ap (λ (i : Bool). (b == 37) && i) (open-digits bs a) ∙ e) ∙ ap (λ (r : List ℕ). b ∷ r) (h 0 tt) ∙ sym (undone-byte b bs e)

open-back-colon : (b : ℕ) (bs : List ℕ) → (b == 58) ≡ true → OpenBack bs → undone_behind 0 (codes "%3a" ++ without_scheme bs) ≡ undone_behind 0 (b ∷ bs)
open-back-colon b bs e h = ap (λ (r : List ℕ). 58 ∷ r) (h 0 tt) ∙ ap (λ (i : ℕ). undone_behind 0 (i ∷ bs)) (sym (eqb-true b 58 e))

open-back-by : (b : ℕ) (bs : List ℕ) (c : UrlClass) → nat_lt b 256 ≡ true → AreBytes bs → url_class_of b ≡ c → OpenBack bs → undone_behind 0 (without_scheme_at c b bs (without_scheme bs)) ≡ undone_behind 0 (b ∷ bs)
open-back-by b bs class.Colon l a e h = open-back-colon b bs (colon-is b l e) h
open-back-by b bs class.Slash l a e h = refl
open-back-by b bs class.QueryMark l a e h = refl
open-back-by b bs _ l a e h = open-back-same b bs (begins_triple b bs) a refl h

open-back : (bs : List ℕ) → AreBytes bs → OpenBack bs
open-back [] a n d = refl
open-back (b ∷ bs) a zero d = open-back-by b bs (url_class_of b) a.0 a.1 refl (open-back bs a.1)
open-back (b ∷ bs) a (suc n) d = ap (undone_behind (suc n)) (open-digit b bs a.0 d.0) ∙ open-back bs a.1 n d.1

-- in the query
query-back-by : (b : ℕ) (bs : List ℕ) (x : Bool) → nat_lt b 256 ≡ true → is_unreserved b ≡ x → triples_undone (url_query bs) ≡ bs → triples_undone (url_query (b ∷ bs)) ≡ b ∷ bs
query-back-by b bs true l e h = rw e (undone-byte b (url_query bs) (kept-begins b (url_query bs) l (or-first (is_unreserved b) (is_delimiter b) e)) ∙ ap (λ (r : List ℕ). b ∷ r) h)
query-back-by b bs false l e h = rw e (undone-written b (url_query bs) l ∙ ap (λ (r : List ℕ). b ∷ r) h)

query-back : (bs : List ℕ) → AreBytes bs → triples_undone (url_query bs) ≡ bs
query-back [] a = refl
query-back (b ∷ bs) a = query-back-by b bs (is_unreserved b) a.0 refl (query-back bs a.1)

-- at the start
start-back : (x : Bool) (text : List ℕ) → AreBytes text → ReadsBackUnless x text (url_norm (if x then codes "#ZgotmplZ" else text))
start-back true text a = refl
start-back false text a = norm-back text a 0 tt

pub written-back : WrittenReadsBack
written-back UrlStart text a n = start-back (is_filtered (before_colon text)) text a
written-back (UrlOpen p) text a n = norm-back (without_scheme text) (open-bytes text a) 0 tt ∙ open-back text a 0 tt
written-back UrlOpenhole text a n = norm-back (without_scheme text) (open-bytes text a) 0 tt ∙ open-back text a 0 tt
written-back UrlPrequery text a n = norm-back text a 0 tt
written-back UrlQuery text a n = query-back text a
written-back UrlBad text a n = cc
