-- Where no percent triple is open between pieces, none lies over the edge of a piece.
use Rattle.std.proofs.Common.{◌≡◌, ℕ, zero, suc, ◌==◌, ◌&&◌, nat_lt, Bool, true, false, List, [], ◌∷◌, ◌++◌, refl, sym, ap, ap₂, ◌∙◌, inl, inr, arith, ◌⊎◌}
use Rattle.std.specs.Char.{is_ascii_hexdigit}
use Rattle.std.specs.Int.{is_in_range}
use Rattle.std.specs.Prelude.{nat_le, ◌||◌}
use Rattle.std.proofs.lemmas.Bool.{and_parts, eqb-true, leb-true, ltb-true, lt-ltb, or_cases}
use Rattle.std.proofs.lemmas.List.{append-nil}
use Rattle.url_lexer.specs.Back.{triple_value, undone_behind, triples_undone}
use Rattle.url_lexer.specs.Classes.{url_class_of}
use Rattle.url_lexer.specs.Holes.{url_after_cut, url_after_hole, url_behind, url_settled}
use Rattle.url_lexer.specs.Kept.{begins_with_digits, begins_triple}
use Rattle.url_lexer.specs.Pages.{UrlPiece, TextPiece, HolePiece, bytes_of, IsAccepted, UrlPiecesPlain}
use Rattle.url_lexer.specs.States.{Url, url_start, feed_all}
use Rattle.url_lexer.specs.Triples.{Triple, NoTriple, AfterPercent, AfterDigit, next_triple}
use Rattle.url_lexer.specs.TriplesAreWhole.{TriplesAreWhole, undone_each}
use Rattle.url_lexer.specs.declared.class.UrlClass.TheVariants as class
use Rattle.url_lexer.proofs.ByteFacts.{digit-class, percent-class}
use Rattle.url_lexer.proofs.Language.{no-triple}
use Rattle.url_lexer.proofs.ReadBack.{AreDigits, digits-two, undone-byte, undone-triple}
use Rattle.url_lexer.proofs.WrittenBytes.{triple_over, fed-triple}

-- a digit is a byte
range-below : (low high b : ℕ) → is_in_range low high b ≡ true → nat_lt high 256 ≡ true → nat_lt b 256 ≡ true
range-below low high b e h =
    let p = and_parts (nat_le low b) (nat_le b high) e in
    lt-ltb b 256 (omega (arith, leb-true b high p.1, ltb-true high 256 h))

below-by : (b : ℕ) → (is_in_range 48 57 b ≡ true) ⊎ (is_in_range 65 70 b ≡ true) → nat_lt b 256 ≡ true
below-by b (inl e) = range-below 48 57 b e refl
below-by b (inr e) = range-below 65 70 b e refl

below-cases : (b : ℕ) → ((is_in_range 48 57 b || is_in_range 65 70 b) ≡ true) ⊎ (is_in_range 97 102 b ≡ true) → nat_lt b 256 ≡ true
below-cases b (inl e) = below-by b (or_cases (is_in_range 48 57 b) (is_in_range 65 70 b) e)
below-cases b (inr e) = range-below 97 102 b e refl

digit-is : (b : ℕ) → is_ascii_hexdigit b ≡ true → url_class_of b ≡ class.Hexadecimal
digit-is b e = digit-class b (below-cases b (or_cases (is_in_range 48 57 b || is_in_range 65 70 b) (is_in_range 97 102 b) e)) e

-- whether a triple begins does not depend on what follows, where none is open before that
percent-goes : (t : Triple) → next_triple t class.Percent ≡ AfterPercent
percent-goes NoTriple = refl
percent-goes AfterPercent = refl
percent-goes AfterDigit = refl

not-open : AfterDigit ≡ NoTriple → ⊥
not-open e = cc

no-digit-first : (x : ℕ) (ys : List ℕ) → is_ascii_hexdigit x ≡ false → begins_with_digits (x ∷ ys) ≡ false
no-digit-first x [] e = refl
no-digit-first x (y ∷ ys) e = ap (λ (k : Bool). k && is_ascii_hexdigit y) e

one-left : (x : ℕ) (ys : List ℕ) (k : Bool) → is_ascii_hexdigit x ≡ k → next_triple AfterPercent (url_class_of x) ≡ NoTriple → begins_with_digits (x ∷ ys) ≡ false
one-left x ys true h e = absurd (not-open (sym (ap (next_triple AfterPercent) (digit-is x h)) ∙ e))
one-left x ys false h e = no-digit-first x ys h

digits-same : (bs ys : List ℕ) → triple_over AfterPercent bs ≡ NoTriple → begins_with_digits (bs ++ ys) ≡ begins_with_digits bs
digits-same [] ys e = cc
digits-same (x ∷ []) ys e = one-left x ys (is_ascii_hexdigit x) refl e
digits-same (x ∷ y ∷ bs) ys e = refl

behind-percent : (b : ℕ) (bs : List ℕ) (t : Triple) → (b == 37) ≡ true → triple_over (next_triple t (url_class_of b)) bs ≡ NoTriple → triple_over AfterPercent bs ≡ NoTriple
behind-percent b bs t h e =
    let c : url_class_of b ≡ class.Percent = ap url_class_of (eqb-true b 37 h) ∙ percent-class in
    sym (ap (λ (x : Triple). triple_over x bs) (ap (next_triple t) c ∙ percent-goes t)) ∙ e

begins-by : (b : ℕ) (bs ys : List ℕ) (t : Triple) (k : Bool) → (b == 37) ≡ k → triple_over (next_triple t (url_class_of b)) bs ≡ NoTriple
    → (k && begins_with_digits (bs ++ ys)) ≡ (k && begins_with_digits bs)
begins-by b bs ys t true h e = digits-same bs ys (behind-percent b bs t h e)
begins-by b bs ys t false h e = refl

begins-same : (b : ℕ) (bs ys : List ℕ) (t : Triple) → triple_over (next_triple t (url_class_of b)) bs ≡ NoTriple → begins_triple b (bs ++ ys) ≡ begins_triple b bs
begins-same b bs ys t e = begins-by b bs ys t (b == 37) refl e

value-same : (bs ys : List ℕ) → AreDigits 2 bs → triple_value (bs ++ ys) ≡ triple_value bs
value-same [] ys d = absurd d
value-same (x ∷ []) ys d = absurd d.1
value-same (x ∷ y ∷ bs) ys d = refl

-- two pieces
abbrev Joins : List ℕ → List ℕ → Type 0
Joins bs ys = (n : ℕ) (t : Triple) → triple_over t bs ≡ NoTriple → AreDigits n bs → undone_behind n (bs ++ ys) ≡ undone_behind n bs ++ triples_undone ys

joins-byte : (b : ℕ) (bs ys : List ℕ) (t : Triple) (k : Bool) → begins_triple b bs ≡ k → triple_over (next_triple t (url_class_of b)) bs ≡ NoTriple → Joins bs ys
    → triples_undone (b ∷ bs ++ ys) ≡ triples_undone (b ∷ bs) ++ triples_undone ys
joins-byte b bs ys t true k e h =
    let d = digits-two b bs k in
    undone-triple b (bs ++ ys) (begins-same b bs ys t e ∙ k)
    ∙ ap₂ (λ (i : ℕ) (r : List ℕ). i ∷ r) (value-same bs ys d) (h 2 (next_triple t (url_class_of b)) e d)
    ∙ ap (λ (r : List ℕ). r ++ triples_undone ys) (sym (undone-triple b bs k))
joins-byte b bs ys t false k e h =
    undone-byte b (bs ++ ys) (begins-same b bs ys t e ∙ k)
    ∙ ap (λ (r : List ℕ). b ∷ r) (h 0 (next_triple t (url_class_of b)) e tt)
    ∙ ap (λ (r : List ℕ). r ++ triples_undone ys) (sym (undone-byte b bs k))

joins : (bs ys : List ℕ) → Joins bs ys
joins [] ys zero t e d = refl
joins [] ys (suc n) t e d = absurd d
joins (b ∷ bs) ys zero t e d = joins-byte b bs ys t (begins_triple b bs) refl e (joins bs ys)
joins (b ∷ bs) ys (suc n) t e d = joins bs ys n (next_triple t (url_class_of b)) e d.1

-- all pieces
whole : (pieces : List UrlPiece) (v w : Url) → IsAccepted v pieces → UrlPiecesPlain w pieces → triples_undone (bytes_of pieces) ≡ undone_each pieces
whole [] v w t p = refl
whole (TextPiece bs ∷ []) v w t p = ap triples_undone (append-nil bs) ∙ sym (append-nil (triples_undone bs))
whole (TextPiece bs ∷ q ∷ ps) v w t p =
    joins bs (bytes_of (q ∷ ps)) 0 v.triple (sym (fed-triple v bs) ∙ no-triple (feed_all v bs).triple t.1) tt
    ∙ ap (λ (r : List ℕ). triples_undone bs ++ r) (whole (q ∷ ps) (url_after_cut (feed_all v bs)) (feed_all w bs) t.2 p)
whole (HolePiece bs ∷ ps) v w t p =
    joins bs (bytes_of ps) 0 w.triple (sym (fed-triple w bs) ∙ p.0.leads.whole_after) tt
    ∙ ap (λ (r : List ℕ). triples_undone bs ++ r) (whole ps (url_after_hole v) (url_behind (url_settled w) (feed_all (url_settled w) bs)) t.1 p.1)

pub triples-whole : TriplesAreWhole
triples-whole pieces t p = whole pieces url_start url_start t p
