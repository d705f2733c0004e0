-- The pieces of a text are texts: a piece begins and ends between characters.
use Rattle.std.proofs.Common.{◌≡◌, ◌∙◌, ◌++◌, ◌⊎◌, inl, inr, ℕ, ◌+◌, ◌<◌, ◌≤◌, nat_lt, nat_le, ◌==◌, ◌||◌, if◌then◌else◌, Bool, true, false, get_or, length, drop, List, [], ◌∷◌, Option, Some, None, IsUtf8, IsCharBoundary, encode_utf8, bytes_eq, append-nil, append_assoc, refl, sym, ap, subst, true≢false, arith}
use Rattle.std.specs.Bool.{⊤}
use Rattle.std.proofs.lemmas.Bool.{cases_lt}
use Rattle.std.proofs.lemmas.Bool.Decides.{nat_tests}
use Rattle.std.proofs.lemmas.Slice.Eq.{bytes_eq-Decides}
use Rattle.std.specs.Char.{is_ascii_digit, is_ascii_alphabetic}
use Rattle.std.proofs.lemmas.List.{length-append, drop_all, take_at, drop_at}
use Rattle.std.proofs.lemmas.Str.{IsUtf8-append, IsUtf8-take, IsUtf8-drop, IsUtf8-past_char, IsCharBoundary-after_ascii}
use Rattle.js_lexer.specs.Classes.{class_of, is_space, is_line_terminator}
use Rattle.js_lexer.specs.Feeding.{tells_white_apart, read_at, held_at}
use Rattle.js_lexer.specs.States.{At, Code, Word, Number, Pluses, Minuses, Slash, LineComment, BlockComment, InString, InRegexp, InTemplate, TooDeep, ScriptEscape, ScriptPoint, point}
use Rattle.js_lexer.specs.Words.{sense_after}
use Rattle.js_lexer.specs.Steps.{sense_if_odd, script_next, next_script_string, next_regexp, next_template, is_taken_in_string, is_taken_in_script}
use Rattle.js_lexer.specs.WhiteSpace.{ClassedByte, classed, classed_as, PastAscii, IsSpace, IsSeparator, BeginsWhite, IsOther, past_ascii, released, held_after, released_alone, held_alone, released_by, held_by, released_past_ascii, held_past_ascii, spaces, separators, are_one_of, begin_one_of}
use Rattle.js_lexer.specs.declared.class.ScriptClass.{ScriptClass}
use Rattle.js_lexer.specs.declared.class.ScriptClass.TheVariants as class
use Rattle.js_lexer.specs.declared.sense.Sense.{Sense}
use Rattle.js_lexer.specs.declared.sense.Sense.TheVariants as sense
use Rattle.page_piece.specs.declared.piece.Piece.{Piece}
use Rattle.page_piece.specs.declared.piece.PieceKind.{PieceKind}
use Rattle.page_piece.specs.declared.piece.PieceKind.TheVariants as kind
use Rattle.page_script.specs.PieceEnds.{string_ends, ends_before, kind_closed, is_code, is_between, is_white_class, kind_cut}
use Rattle.page_script.specs.PieceTexts.{AreText}
use Rattle.page_script.specs.ScriptPieces.{PiecesFound, pieces_found, piece_of, piece_ended, byte_joined, byte_placed, Reading, reading, next_point, pieces_next, pieces_after, PiecesState, pieces_fed, pieces_start, pieces_end, script_pieces_from, script_pieces_of}

-- where a text may be cut: before a byte with which a character begins, and behind a byte of ASCII
abbrev Begins : ℕ → Type 0
Begins b = 128 ≤ b → 192 ≤ b

at-seam : (xs : List ℕ) (b : ℕ) (ys : List ℕ) → get_or (xs ++ b ∷ ys) (length xs) 0 ≡ b
at-seam [] b ys = refl
at-seam (x ∷ xs) b ys = at-seam xs b ys

seam-boundary : (xs : List ℕ) (b : ℕ) (ys : List ℕ) → Begins b → IsCharBoundary (xs ++ b ∷ ys) (length xs)
seam-boundary xs b ys h = (omega (arith, length-append xs (b ∷ ys)), λ l a. subst (λ (n : ℕ). 192 ≤ n) (sym (at-seam xs b ys)) (h (subst (λ (n : ℕ). 128 ≤ n) (at-seam xs b ys) a)))

cut-at : (xs ys : List ℕ) → IsUtf8 (xs ++ ys) → IsCharBoundary (xs ++ ys) (length xs) → IsUtf8 xs × IsUtf8 ys
cut-at xs ys u h = (subst IsUtf8 (take_at xs ys (length xs) refl) (IsUtf8-take (xs ++ ys) (length xs) u h), subst IsUtf8 (drop_at xs ys (length xs) refl) (IsUtf8-drop (xs ++ ys) (length xs) u h))

cut-before : (xs : List ℕ) (b : ℕ) (ys : List ℕ) → IsUtf8 (xs ++ b ∷ ys) → Begins b → IsUtf8 xs × IsUtf8 (b ∷ ys)
cut-before xs b ys u h = cut-at xs (b ∷ ys) u (seam-boundary xs b ys h)

one-more : (xs : List ℕ) (b : ℕ) (ys : List ℕ) → xs ++ b ∷ ys ≡ (xs ++ b ∷ []) ++ ys
one-more xs b ys = sym (append_assoc xs (b ∷ []) ys)

cut-behind : (xs : List ℕ) (b : ℕ) (ys : List ℕ) → IsUtf8 (xs ++ b ∷ ys) → b < 128 → IsUtf8 (xs ++ b ∷ []) × IsUtf8 ys
cut-behind xs b ys u h =
    let within : length xs < length (xs ++ b ∷ ys) = omega (arith, length-append xs (b ∷ ys)) in
    let ascii : get_or (xs ++ b ∷ ys) (length xs) 0 < 128 = subst (λ (n : ℕ). n < 128) (sym (at-seam xs b ys)) h in
    let edge : IsCharBoundary (xs ++ b ∷ ys) (length xs + 1) = IsCharBoundary-after_ascii (xs ++ b ∷ ys) (length xs) u within ascii in
    let long : length xs + 1 ≡ length (xs ++ b ∷ []) = omega (arith, length-append xs (b ∷ [])) in
    cut-at (xs ++ b ∷ []) ys (subst IsUtf8 (one-more xs b ys) u)
    (subst (λ (zs : List ℕ). IsCharBoundary zs (length (xs ++ b ∷ []))) (one-more xs b ys) (subst (IsCharBoundary (xs ++ b ∷ ys)) long edge))

ascii-begins : (b : ℕ) → b < 128 → Begins b
ascii-begins b h l = absurd (omega (arith, h, l))

-- Behind a run of `+` or of `-`, and behind a slash, the piece ends in ASCII.
pub record EndsAscii (xs : List ℕ) : Type 0 where
  pub front : List ℕ
  pub last : ℕ
  pub is : xs ≡ front ++ last ∷ []
  pub ascii : last < 128

abbrev Edge : At → List ℕ → Type 0
Edge (Pluses odd) xs = EndsAscii xs
Edge (Minuses odd) xs = EndsAscii xs
Edge (Slash s) xs = EndsAscii xs
Edge a xs = ⊤

edge-any : (a : At) (xs : List ℕ) → EndsAscii xs → Edge a xs
edge-any (Pluses odd) xs e = e
edge-any (Minuses odd) xs e = e
edge-any (Slash s) xs e = e
edge-any (Code s) xs e = tt
edge-any (Word w) xs e = tt
edge-any Number xs e = tt
edge-any (LineComment s) xs e = tt
edge-any (BlockComment s star) xs e = tt
edge-any (InString q e) xs f = tt
edge-any (InRegexp k e) xs f = tt
edge-any (InTemplate e d) xs f = tt
edge-any TooDeep xs e = tt

edge-code : (a : At) (xs : List ℕ) → is_code a ≡ true → Edge a xs
edge-code (Code s) xs e = tt
edge-code (Word w) xs e = tt
edge-code Number xs e = tt
edge-code (LineComment s) xs e = tt
edge-code (BlockComment s star) xs e = tt
edge-code (InString q e) xs f = tt
edge-code (InRegexp k e) xs f = tt
edge-code (InTemplate e d) xs f = tt
edge-code TooDeep xs e = tt
edge-code (Pluses odd) xs e = absurd (true≢false (sym e))
edge-code (Minuses odd) xs e = absurd (true≢false (sym e))
edge-code (Slash s) xs e = absurd (true≢false (sym e))

edge-between : (fs : List ℕ) (a : At) (xs : List ℕ) → is_between fs a ≡ true → Edge a xs
edge-between [] a xs e = edge-code a xs e
edge-between (n ∷ fs) a xs e = absurd (true≢false (sym e))

behind-edge : (xs : List ℕ) (b : ℕ) (ys : List ℕ) → IsUtf8 (xs ++ b ∷ ys) → EndsAscii xs → IsUtf8 xs × IsUtf8 (b ∷ ys)
behind-edge xs b ys u e =
    let all : xs ++ b ∷ ys ≡ e.front ++ e.last ∷ b ∷ ys = ap (λ (zs : List ℕ). zs ++ b ∷ ys) e.is ∙ append_assoc e.front (e.last ∷ []) (b ∷ ys) in
    let cut : IsUtf8 (e.front ++ e.last ∷ []) × IsUtf8 (b ∷ ys) = cut-behind e.front e.last (b ∷ ys) (subst IsUtf8 all u) e.ascii in
    (subst IsUtf8 (sym e.is) cut.0, cut.1)

-- What holds of what has been found before the rest of a text.
record Sound (a : At) (f : PiecesFound) (rest : List ℕ) : Type 0 where
  text : IsUtf8 (f.begun ++ rest)
  edge : Edge a f.begun
  pieces : AreText f.pieces

piece-more : (ps : List Piece) (k : PieceKind) (bytes : List ℕ) → AreText ps → IsUtf8 bytes → AreText (ps ++ piece_of k bytes ∷ [])
piece-more [] k bytes h u = (u, tt)
piece-more (p ∷ ps) k bytes h u = (h.0, piece-more ps k bytes h.1 u)

-- the same without the edge
record Held (f : PiecesFound) (rest : List ℕ) : Type 0 where
  text : IsUtf8 (f.begun ++ rest)
  pieces : AreText f.pieces

ended-held : (o : Option PieceKind) (f : PiecesFound) (b : ℕ) (rest : List ℕ) → IsUtf8 (f.begun ++ b ∷ rest) → AreText f.pieces
    → ((k : PieceKind) → o ≡ Some k → IsUtf8 f.begun × IsUtf8 (b ∷ rest)) → Held (piece_ended o f) (b ∷ rest)
ended-held None f b rest u h cut = record { text = u; pieces = h }
ended-held (Some k) f b rest u h cut = record { text = (cut k refl).1; pieces = piece-more f.pieces k f.begun h (cut k refl).0 }

-- a byte of ASCII
placed-ascii : (x y : Bool) (k : PieceKind) (b : ℕ) (f : PiecesFound) (rest : List ℕ) → b < 128 → Held f (b ∷ rest) → Held (byte_joined x y k b f) rest
placed-ascii false y k b f rest l h = record { text = subst IsUtf8 (one-more f.begun b rest) h.text; pieces = h.pieces }
placed-ascii true true k b f rest l h =
    record { text = IsUtf8-append f.begun rest (cut-before f.begun b rest h.text (ascii-begins b l)).0 (cut-behind f.begun b rest h.text l).1; pieces = h.pieces }
placed-ascii true false k b f rest l h =
    let cut = cut-behind f.begun b rest h.text l in
    record { text = cut.1; pieces = piece-more f.pieces k (f.begun ++ b ∷ []) h.pieces cut.0 }

edge-ascii : (x y : Bool) (k : PieceKind) (b : ℕ) (f : PiecesFound) (fs : List ℕ) (a : At) → b < 128 → is_between fs a ≡ x → Edge a (byte_joined x y k b f).begun
edge-ascii false y k b f fs a l e = edge-any a (f.begun ++ b ∷ []) (record { front = f.begun; last = b; is = refl; ascii = l })
edge-ascii true true k b f fs a l e = edge-between fs a f.begun e
edge-ascii true false k b f fs a l e = edge-between fs a [] e

ascii-sound : (p q : ScriptPoint) (f : PiecesFound) (c : ScriptClass) (b : ℕ) (rest : List ℕ) → b < 128 → Sound p.at f (b ∷ rest) → Sound q.at (byte_placed p q c b f) rest
ascii-sound p q f c b rest l h =
    let o = ends_before p.literals p.at c b in
    let k = kind_closed p.literals p.at in
    let first : Held (piece_ended o f) (b ∷ rest) = ended-held o f b rest h.text h.pieces (λ k e. cut-before f.begun b rest h.text (ascii-begins b l)) in
    let after : Held (byte_placed p q c b f) rest = placed-ascii (is_between q.literals q.at) (is_white_class c) k b (piece_ended o f) rest l first in
    record { text = after.text; edge = edge-ascii (is_between q.literals q.at) (is_white_class c) k b (piece_ended o f) q.literals q.at l refl; pieces = after.pieces }

-- A letter leads into a token, and no piece ends with it. One ends before it behind such an edge alone.
record Inside (a : At) : Type 0 where
  code : is_code a ≡ false
  edge : (xs : List ℕ) → Edge a xs

word-inside : (w : List ℕ) → Inside (Word w)
word-inside w = record { code = refl; edge = λ xs. tt }

string-inside : (t q : Bool) (e : ScriptEscape) (b : ℕ) (fs : List ℕ) → Inside (next_script_string t q e class.Letter b fs).at
string-inside true q e b fs = record { code = refl; edge = λ xs. tt }
string-inside false true e b fs = record { code = refl; edge = λ xs. tt }
string-inside false false e b fs = record { code = refl; edge = λ xs. tt }

regexp-inside : (t k : Bool) (e : ScriptEscape) (b : ℕ) (fs : List ℕ) → Inside (next_regexp t k e class.Letter b fs).at
regexp-inside true k e b fs = record { code = refl; edge = λ xs. tt }
regexp-inside false true e b fs = record { code = refl; edge = λ xs. tt }
regexp-inside false false e b fs = record { code = refl; edge = λ xs. tt }

template-inside : (t : Bool) (e : ScriptEscape) (d : Bool) (b : ℕ) (fs : List ℕ) → Inside (next_template t e d class.Letter b fs).at
template-inside true e d b fs = record { code = refl; edge = λ xs. tt }
template-inside false e true b fs = record { code = refl; edge = λ xs. tt }
template-inside false e false b fs = record { code = refl; edge = λ xs. tt }

letter-inside : (fs : List ℕ) (a : At) (b : ℕ) → Inside (script_next fs a class.Letter b).at
letter-inside fs (Code s) b = word-inside (b ∷ [])
letter-inside fs (Word w) b = word-inside (w ++ b ∷ [])
letter-inside fs Number b = record { code = refl; edge = λ xs. tt }
letter-inside fs (Pluses odd) b = word-inside (b ∷ [])
letter-inside fs (Minuses odd) b = word-inside (b ∷ [])
letter-inside fs (Slash sense.Re) b = record { code = refl; edge = λ xs. tt }
letter-inside fs (Slash sense.Div) b = word-inside (b ∷ [])
letter-inside fs (Slash sense.Brace) b = word-inside (b ∷ [])
letter-inside fs (LineComment s) b = record { code = refl; edge = λ xs. tt }
letter-inside fs (BlockComment s true) b = record { code = refl; edge = λ xs. tt }
letter-inside fs (BlockComment s false) b = record { code = refl; edge = λ xs. tt }
letter-inside fs (InString q e) b = string-inside (is_taken_in_string e b) q e b fs
letter-inside fs (InRegexp k e) b = regexp-inside (is_taken_in_script e) k e b fs
letter-inside fs (InTemplate e d) b = template-inside (is_taken_in_script e) e d b fs
letter-inside fs TooDeep b = record { code = refl; edge = λ xs. tt }

not-between : (fs : List ℕ) (a : At) → is_code a ≡ false → is_between fs a ≡ false
not-between [] a e = e
not-between (n ∷ fs) a e = refl

abbrev EndsBehindEdge : At → Option PieceKind → Type 0
EndsBehindEdge a None = ⊤
EndsBehindEdge a (Some k) = (xs : List ℕ) → Edge a xs → EndsAscii xs

string-edge : (t q : Bool) (e : ScriptEscape) → EndsBehindEdge (InString q e) (string_ends t class.Letter)
string-edge true q e = tt
string-edge false q e = tt

letter-edge : (fs : List ℕ) (a : At) (b : ℕ) → EndsBehindEdge a (ends_before fs a class.Letter b)
letter-edge (n ∷ fs) a b = tt
letter-edge [] (Code s) b = tt
letter-edge [] (Word w) b = tt
letter-edge [] Number b = tt
letter-edge [] (Pluses odd) b = λ xs e. e
letter-edge [] (Minuses odd) b = λ xs e. e
letter-edge [] (Slash sense.Re) b = tt
letter-edge [] (Slash sense.Div) b = λ xs e. e
letter-edge [] (Slash sense.Brace) b = λ xs e. e
letter-edge [] (LineComment s) b = tt
letter-edge [] (BlockComment s star) b = tt
letter-edge [] (InString q e) b = string-edge (is_taken_in_string e b) q e
letter-edge [] (InRegexp k e) b = tt
letter-edge [] (InTemplate e d) b = tt
letter-edge [] TooDeep b = tt

letter-held : (a : At) (o : Option PieceKind) (f : PiecesFound) (b : ℕ) (rest : List ℕ) → EndsBehindEdge a o → Sound a f (b ∷ rest) → Held (piece_ended o f) (b ∷ rest)
letter-held a None f b rest e h = record { text = h.text; pieces = h.pieces }
letter-held a (Some k) f b rest e h =
    let cut = behind-edge f.begun b rest h.text (e f.begun h.edge) in
    record { text = cut.1; pieces = piece-more f.pieces k f.begun h.pieces cut.0 }

placed-open : (x : Bool) (y : Bool) (k : PieceKind) (b : ℕ) (f : PiecesFound) (rest : List ℕ) → x ≡ false → Held f (b ∷ rest) → Held (byte_joined x y k b f) rest
placed-open false y k b f rest e h = record { text = subst IsUtf8 (one-more f.begun b rest) h.text; pieces = h.pieces }
placed-open true y k b f rest e h = absurd (true≢false e)

letter-sound : (p : ScriptPoint) (f : PiecesFound) (b : ℕ) (rest : List ℕ) → Sound p.at f (b ∷ rest)
    → (let q = script_next p.literals p.at class.Letter b in Sound q.at (byte_placed p q class.Letter b f) rest)
letter-sound p f b rest h =
    let q = script_next p.literals p.at class.Letter b in
    let o = ends_before p.literals p.at class.Letter b in
    let k = kind_closed p.literals p.at in
    let inside = letter-inside p.literals p.at b in
    let first : Held (piece_ended o f) (b ∷ rest) = letter-held p.at o f b rest (letter-edge p.literals p.at b) h in
    let after : Held (byte_placed p q class.Letter b f) rest = placed-open (is_between q.literals q.at) false k b (piece_ended o f) rest (not-between q.literals q.at inside.code) first in
    record { text = after.text; edge = inside.edge (byte_placed p q class.Letter b f).begun; pieces = after.pieces }

-- Bytes of ASCII, and letters, one after the other.
abbrev SoundAt : Reading → List ℕ → Type 0
SoundAt r rest = Sound r.point.at r.found rest

letters-sound : (bs : List ℕ) (r : Reading) (rest : List ℕ) → SoundAt r (bs ++ rest) → SoundAt (pieces_after (classed_as class.Letter bs) r) rest
letters-sound [] r rest h = h
letters-sound (b ∷ bs) r rest h = letters-sound bs (pieces_next r class.Letter b) rest (letter-sound r.point r.found b (bs ++ rest) h)

-- past ASCII
space-none : (b : ℕ) → 128 ≤ b → is_space b ≡ false
space-none b h = grind (h, arith, nat_tests)

line-none : (b : ℕ) → 128 ≤ b → is_line_terminator b ≡ false
line-none b h = grind (h, arith, nat_tests)

digit-none : (b : ℕ) → 128 ≤ b → is_ascii_digit b ≡ false
digit-none b h = grind (h, arith, nat_tests)

letter-there : (b : ℕ) → 128 ≤ b → (is_ascii_alphabetic b || (b == 95 || nat_le 128 b)) ≡ true
letter-there b h = grind (h, arith, nat_tests)

class-high : (b : ℕ) → 128 ≤ b → class_of b ≡ class.Letter
unfolding class_of
class-high b h = rw (space-none b h, line-none b h, digit-none b h, letter-there b h) refl

byte-sound : (r : Reading) (b : ℕ) (rest : List ℕ) → SoundAt r (b ∷ rest) → SoundAt (pieces_next r (class_of b) b) rest
byte-sound r b rest h = elim (cases_lt b 128) [
  | inl l ↦ ascii-sound r.point (next_point r.point (class_of b) b) r.found (class_of b) b rest l h
  | inr l ↦ subst (λ (c : ScriptClass). SoundAt (pieces_next r c b) rest) (sym (class-high b l)) (letter-sound r.point r.found b rest h)
]

after-append : (xs ys : List ClassedByte) (r : Reading) → pieces_after (xs ++ ys) r ≡ pieces_after ys (pieces_after xs r)
after-append [] ys r = refl
after-append (x ∷ xs) ys r = after-append xs ys (pieces_next r x.class x.byte)

-- White space past ASCII: it stands in the piece that is open, or that piece ends before it.
abbrev Quiet : At → Type 0
Quiet a = (xs : List ℕ) → Edge a xs

data Whites (f : PiecesFound) (w : List ℕ) : Reading → Type 0 where
  Stands : (fs : List ℕ) (a : At) → Quiet a → Whites f w (reading (point fs a) (pieces_found (f.begun ++ w) f.pieces))
  Between : (fs : List ℕ) (a : At) → Quiet a → (o : Option PieceKind) → Whites f w (reading (point fs a) (piece_ended o f))

-- the two classes of it
abbrev white_class : Bool → ScriptClass
white_class true = class.Space
white_class false = class.LineEnd

code-quiet : (s : Sense) → Quiet (Code s)
code-quiet s xs = tt

line-quiet : (s : Sense) → Quiet (LineComment s)
line-quiet s xs = tt

found-more : (f : PiecesFound) (b : ℕ) (bs : List ℕ) → pieces_found (f.begun ++ b ∷ bs) f.pieces ≡ pieces_found ((f.begun ++ b ∷ []) ++ bs) f.pieces
found-more f b bs = ap (λ (xs : List ℕ). pieces_found xs f.pieces) (one-more f.begun b bs)

found-same : (f : PiecesFound) → pieces_found (f.begun ++ []) f.pieces ≡ f
found-same f = ap (λ (xs : List ℕ). pieces_found xs f.pieces) (append-nil f.begun)

code-outside : (x : Bool) (s : Sense) (bs : List ℕ) (f : PiecesFound)
    → pieces_after (classed_as (white_class x) bs) (reading (point [] (Code s)) f) ≡ reading (point [] (Code s)) f
code-outside x s [] f = refl
code-outside true s (b ∷ bs) f = code-outside true s bs f
code-outside false s (b ∷ bs) f = code-outside false s bs f

code-inside : (x : Bool) (s : Sense) (n : ℕ) (fs bs : List ℕ) (f : PiecesFound)
    → pieces_after (classed_as (white_class x) bs) (reading (point (n ∷ fs) (Code s)) f) ≡ reading (point (n ∷ fs) (Code s)) (pieces_found (f.begun ++ bs) f.pieces)
code-inside x s n fs [] f = ap (reading (point (n ∷ fs) (Code s))) (sym (found-same f))
code-inside true s n fs (b ∷ bs) f =
    code-inside true s n fs bs (pieces_found (f.begun ++ b ∷ []) f.pieces) ∙ ap (reading (point (n ∷ fs) (Code s))) (sym (found-more f b bs))
code-inside false s n fs (b ∷ bs) f =
    code-inside false s n fs bs (pieces_found (f.begun ++ b ∷ []) f.pieces) ∙ ap (reading (point (n ∷ fs) (Code s))) (sym (found-more f b bs))

line-stands : (s : Sense) (fs bs : List ℕ) (f : PiecesFound)
    → pieces_after (classed_as class.Space bs) (reading (point fs (LineComment s)) f) ≡ reading (point fs (LineComment s)) (pieces_found (f.begun ++ bs) f.pieces)
line-stands s fs [] f = ap (reading (point fs (LineComment s))) (sym (found-same f))
line-stands s [] (b ∷ bs) f =
    line-stands s [] bs (pieces_found (f.begun ++ b ∷ []) f.pieces) ∙ ap (reading (point [] (LineComment s))) (sym (found-more f b bs))
line-stands s (n ∷ fs) (b ∷ bs) f =
    line-stands s (n ∷ fs) bs (pieces_found (f.begun ++ b ∷ []) f.pieces) ∙ ap (reading (point (n ∷ fs) (LineComment s))) (sym (found-more f b bs))

-- behind the first byte, which leads to code
outside-whites : (x : Bool) (s : Sense) (o : Option PieceKind) (b : ℕ) (bs : List ℕ) (f : PiecesFound)
    → Whites f (b ∷ bs) (pieces_after (classed_as (white_class x) bs) (reading (point [] (Code s)) (piece_ended o f)))
outside-whites x s o b bs f = subst (Whites f (b ∷ bs)) (sym (code-outside x s bs (piece_ended o f))) (Between [] (Code s) (code-quiet s) o)

inside-whites : (x : Bool) (s : Sense) (n : ℕ) (fs : List ℕ) (b : ℕ) (bs : List ℕ) (f : PiecesFound)
    → Whites f (b ∷ bs) (pieces_after (classed_as (white_class x) bs) (reading (point (n ∷ fs) (Code s)) (pieces_found (f.begun ++ b ∷ []) f.pieces)))
inside-whites x s n fs b bs f =
    subst (Whites f (b ∷ bs)) (ap (reading (point (n ∷ fs) (Code s))) (found-more f b bs) ∙ sym (code-inside x s n fs bs (pieces_found (f.begun ++ b ∷ []) f.pieces)))
    (Stands (n ∷ fs) (Code s) (code-quiet s))

line-whites : (s : Sense) (fs : List ℕ) (b : ℕ) (bs : List ℕ) (f : PiecesFound)
    → Whites f (b ∷ bs) (pieces_after (classed_as class.Space (b ∷ bs)) (reading (point fs (LineComment s)) f))
line-whites s fs b bs f = subst (Whites f (b ∷ bs)) (sym (line-stands s fs (b ∷ bs) f)) (Stands fs (LineComment s) (line-quiet s))

whites : (x : Bool) (fs : List ℕ) (a : At) (b : ℕ) (bs : List ℕ) (f : PiecesFound) → tells_white_apart a ≡ true
    → Whites f (b ∷ bs) (pieces_after (classed_as (white_class x) (b ∷ bs)) (reading (point fs a) f))
whites true [] (Code s) b bs f e = outside-whites true s None b bs f
whites false [] (Code s) b bs f e = outside-whites false s None b bs f
whites true (n ∷ fs) (Code s) b bs f e = inside-whites true s n fs b bs f
whites false (n ∷ fs) (Code s) b bs f e = inside-whites false s n fs b bs f
whites true [] (Word w) b bs f e = outside-whites true (sense_after w) (Some kind.Word) b bs f
whites false [] (Word w) b bs f e = outside-whites false (sense_after w) (Some kind.Word) b bs f
whites true (n ∷ fs) (Word w) b bs f e = inside-whites true (sense_after w) n fs b bs f
whites false (n ∷ fs) (Word w) b bs f e = inside-whites false (sense_after w) n fs b bs f
whites true [] Number b bs f e = outside-whites true sense.Div (Some kind.Number) b bs f
whites false [] Number b bs f e = outside-whites false sense.Div (Some kind.Number) b bs f
whites true (n ∷ fs) Number b bs f e = inside-whites true sense.Div n fs b bs f
whites false (n ∷ fs) Number b bs f e = inside-whites false sense.Div n fs b bs f
whites true [] (Pluses odd) b bs f e = outside-whites true (sense_if_odd odd) (Some kind.Punct) b bs f
whites false [] (Pluses odd) b bs f e = outside-whites false (sense_if_odd odd) (Some kind.Punct) b bs f
whites true (n ∷ fs) (Pluses odd) b bs f e = inside-whites true (sense_if_odd odd) n fs b bs f
whites false (n ∷ fs) (Pluses odd) b bs f e = inside-whites false (sense_if_odd odd) n fs b bs f
whites true [] (Minuses odd) b bs f e = outside-whites true (sense_if_odd odd) (Some kind.Punct) b bs f
whites false [] (Minuses odd) b bs f e = outside-whites false (sense_if_odd odd) (Some kind.Punct) b bs f
whites true (n ∷ fs) (Minuses odd) b bs f e = inside-whites true (sense_if_odd odd) n fs b bs f
whites false (n ∷ fs) (Minuses odd) b bs f e = inside-whites false (sense_if_odd odd) n fs b bs f
whites true [] (Slash sense.Div) b bs f e = outside-whites true sense.Re (Some kind.Punct) b bs f
whites false [] (Slash sense.Div) b bs f e = outside-whites false sense.Re (Some kind.Punct) b bs f
whites true (n ∷ fs) (Slash sense.Div) b bs f e = inside-whites true sense.Re n fs b bs f
whites false (n ∷ fs) (Slash sense.Div) b bs f e = inside-whites false sense.Re n fs b bs f
whites true [] (Slash sense.Brace) b bs f e = outside-whites true sense.Re (Some kind.Punct) b bs f
whites false [] (Slash sense.Brace) b bs f e = outside-whites false sense.Re (Some kind.Punct) b bs f
whites true (n ∷ fs) (Slash sense.Brace) b bs f e = inside-whites true sense.Re n fs b bs f
whites false (n ∷ fs) (Slash sense.Brace) b bs f e = inside-whites false sense.Re n fs b bs f
whites true fs (LineComment s) b bs f e = line-whites s fs b bs f
whites false [] (LineComment s) b bs f e = outside-whites false s (Some kind.Comment) b bs f
whites false (n ∷ fs) (LineComment s) b bs f e = inside-whites false s n fs b bs f
whites x fs (Slash sense.Re) b bs f e = absurd (true≢false (sym e))
whites x fs (BlockComment s star) b bs f e = absurd (true≢false (sym e))
whites x fs (InString q g) b bs f e = absurd (true≢false (sym e))
whites x fs (InRegexp k g) b bs f e = absurd (true≢false (sym e))
whites x fs (InTemplate g d) b bs f e = absurd (true≢false (sym e))
whites x fs TooDeep b bs f e = absurd (true≢false (sym e))

-- Such a character, by its bytes: the first one begins it.
pub record IsCharacter (w : List ℕ) : Type 0 where
  pub character : ℕ
  pub is : w ≡ encode_utf8 character
  pub first : nat_le 192 (get_or w 0 0) ≡ true

whites-done : (f : PiecesFound) (b : ℕ) (bs rest : List ℕ) (r : Reading) → Begins b → IsUtf8 (f.begun ++ ((b ∷ bs) ++ rest)) → AreText f.pieces
    → IsUtf8 rest → Whites f (b ∷ bs) r → SoundAt r rest
whites-done f b bs rest r h u p v (Stands fs a q) =
    record { text = subst IsUtf8 (sym (append_assoc f.begun (b ∷ bs) rest)) u; edge = q (f.begun ++ b ∷ bs); pieces = p }
whites-done f b bs rest r h u p v (Between fs a q None) =
    record { text = IsUtf8-append f.begun rest (cut-before f.begun b (bs ++ rest) u h).0 v; edge = q f.begun; pieces = p }
whites-done f b bs rest r h u p v (Between fs a q (Some k)) =
    record { text = v; edge = q []; pieces = piece-more f.pieces k f.begun p (cut-before f.begun b (bs ++ rest) u h).0 }

le-true : (m n : ℕ) → nat_le m n ≡ true → m ≤ n
le-true m n h = grind (h, arith, nat_tests)

whites-sound : (x : Bool) (w : List ℕ) (r : Reading) (rest : List ℕ) → IsCharacter w → tells_white_apart r.point.at ≡ true → SoundAt r (w ++ rest)
    → SoundAt (pieces_after (classed_as (white_class x) w) r) rest
whites-sound x [] r rest c e h = absurd (true≢false (sym c.first))
whites-sound x (b ∷ bs) r rest c e h =
    let begins : Begins b = λ _. le-true 192 b c.first in
    let v : IsUtf8 rest = IsUtf8-past_char ((b ∷ bs) ++ rest) rest c.character (cut-before r.found.begun b (bs ++ rest) h.text begins).1 (ap (λ (zs : List ℕ). zs ++ rest) c.is) in
    whites-done r.found b bs rest (pieces_after (classed_as (white_class x) (b ∷ bs)) r) begins h.text h.pieces v (whites x r.point.literals r.point.at b bs r.found e)

-- White space past ASCII is a character, of which no byte but the first begins one.
abbrev AllBegin : List ℕ → Type 0
AllBegin [] = ⊤
AllBegin (c ∷ cs) = (nat_le 192 (get_or (encode_utf8 c) 0 0) ≡ true) × AllBegin cs

spaces-begin : AllBegin spaces
unfolding lib.Utf8.encode
spaces-begin = (refl, (refl, (refl, (refl, (refl, (refl, (refl, (refl, (refl, (refl, (refl, (refl, (refl, (refl, (refl, (refl, (refl, tt)))))))))))))))))

separators-begin : AllBegin separators
unfolding lib.Utf8.encode
separators-begin = (refl, (refl, tt))

one-or-other : (c : ℕ) (cs bytes : List ℕ) (t : Bool) → (nat_le 192 (get_or (encode_utf8 c) 0 0) ≡ true) → (are_one_of cs bytes ≡ true → IsCharacter bytes)
    → bytes_eq (encode_utf8 c) bytes ≡ t → (t || are_one_of cs bytes) ≡ true → IsCharacter bytes
one-or-other c cs bytes true h others g e =
    let same : encode_utf8 c ≡ bytes = (bytes_eq-Decides (encode_utf8 c) bytes).0 g in
    record { character = c; is = sym same; first = subst (λ (zs : List ℕ). nat_le 192 (get_or zs 0 0) ≡ true) same h }
one-or-other c cs bytes false h others g e = others e

one-of : (cs bytes : List ℕ) → AllBegin cs → are_one_of cs bytes ≡ true → IsCharacter bytes
one-of [] bytes h e = absurd (true≢false (sym e))
one-of (c ∷ cs) bytes h e = one-or-other c cs bytes (bytes_eq (encode_utf8 c) bytes) h.0 (one-of cs bytes h.1) refl e

past-space : (x y z : Bool) → (if x then IsSpace else (if y then IsSeparator else (if z then BeginsWhite else IsOther))) ≡ IsSpace → x ≡ true
past-space true y z e = refl
past-space false true z e = cc
past-space false false true e = cc
past-space false false false e = cc

past-separator : (x y z : Bool) → (if x then IsSpace else (if y then IsSeparator else (if z then BeginsWhite else IsOther))) ≡ IsSeparator → y ≡ true
past-separator true y z e = cc
past-separator false true z e = refl
past-separator false false true e = cc
past-separator false false false e = cc

space-character : (bytes : List ℕ) → past_ascii bytes ≡ IsSpace → IsCharacter bytes
space-character bytes e = one-of spaces bytes spaces-begin (past-space (are_one_of spaces bytes) (are_one_of separators bytes) (begin_one_of (spaces ++ separators) bytes) e)

separator-character : (bytes : List ℕ) → past_ascii bytes ≡ IsSeparator → IsCharacter bytes
separator-character bytes e =
    one-of separators bytes separators-begin (past-separator (are_one_of spaces bytes) (are_one_of separators bytes) (begin_one_of (spaces ++ separators) bytes) e)

-- What a byte releases, and what is held back after it.
data Release (held : List ℕ) (b : ℕ) : List ClassedByte → List ℕ → Type 0 where
  AsLetters : Release held b (classed_as class.Letter held ++ classed (class_of b) b ∷ []) []
  HoldsByte : Release held b (classed_as class.Letter held) (b ∷ [])
  HoldsAll : Release held b [] (held ++ b ∷ [])
  AsWhite : (x : Bool) → IsCharacter (held ++ b ∷ []) → Release held b (classed_as (white_class x) (held ++ b ∷ [])) []

release-alone : (f : PastAscii) (held : List ℕ) (b : ℕ) → Release held b (classed_as class.Letter held ++ released_alone f b) (held_alone f b)
release-alone IsSpace held b = AsLetters
release-alone IsSeparator held b = AsLetters
release-alone IsOther held b = AsLetters
release-alone BeginsWhite held b = subst (λ (xs : List ClassedByte). Release held b xs (b ∷ [])) (sym (append-nil (classed_as class.Letter held))) HoldsByte

release-past : (f : PastAscii) (held : List ℕ) (b : ℕ) → past_ascii (held ++ b ∷ []) ≡ f → Release held b (released_past_ascii f held b) (held_past_ascii f held b)
release-past IsSpace held b g = AsWhite true (space-character (held ++ b ∷ []) g)
release-past IsSeparator held b g = AsWhite false (separator-character (held ++ b ∷ []) g)
release-past BeginsWhite held b g = HoldsAll
release-past IsOther held b g = release-alone (past_ascii (b ∷ [])) held b

release-by : (x : Bool) (held : List ℕ) (b : ℕ) → Release held b (released_by x held b) (held_by x held b)
release-by true held b = AsLetters
release-by false held b = release-past (past_ascii (held ++ b ∷ [])) held b refl

releases : (held : List ℕ) (b : ℕ) → Release held b (released held b) (held_after held b)
unfolding released held_after
releases held b = release-by (nat_lt b 128) held b

-- Bytes are held back only where white space is told apart.
told-letter : (fs : List ℕ) (a : At) (b : ℕ) → tells_white_apart a ≡ true → tells_white_apart (script_next fs a class.Letter b).at ≡ true
told-letter fs (Code s) b e = refl
told-letter fs (Word w) b e = refl
told-letter fs Number b e = refl
told-letter fs (Pluses odd) b e = refl
told-letter fs (Minuses odd) b e = refl
told-letter fs (Slash sense.Div) b e = refl
told-letter fs (Slash sense.Brace) b e = refl
told-letter fs (Slash sense.Re) b e = absurd (true≢false (sym e))
told-letter fs (LineComment s) b e = refl
told-letter fs (BlockComment s star) b e = absurd (true≢false (sym e))
told-letter fs (InString q g) b e = absurd (true≢false (sym e))
told-letter fs (InRegexp k g) b e = absurd (true≢false (sym e))
told-letter fs (InTemplate g d) b e = absurd (true≢false (sym e))
told-letter fs TooDeep b e = absurd (true≢false (sym e))

told-letters : (bs : List ℕ) (r : Reading) → tells_white_apart r.point.at ≡ true → tells_white_apart (pieces_after (classed_as class.Letter bs) r).point.at ≡ true
told-letters [] r e = e
told-letters (b ∷ bs) r e = told-letters bs (pieces_next r class.Letter b) (told-letter r.point.literals r.point.at b e)

record SoundState (s : PiecesState) (rest : List ℕ) : Type 0 where
  reading : SoundAt s.reading (s.held ++ rest)
  told : (s.held ≡ []) ⊎ (tells_white_apart s.reading.point.at ≡ true)

abbrev state : Reading → List ℕ → PiecesState
state r held = record { reading = r; held = held }

released-sound : (r : Reading) (held : List ℕ) (b : ℕ) (rest : List ℕ) (xs : List ClassedByte) (after : List ℕ) → tells_white_apart r.point.at ≡ true
    → SoundAt r (held ++ b ∷ rest) → Release held b xs after → SoundState (state (pieces_after xs r) after) rest
released-sound r held b rest xs after e h AsLetters = record {
  reading =
      subst (λ (q : Reading). SoundAt q rest) (sym (after-append (classed_as class.Letter held) (classed (class_of b) b ∷ []) r))
      (byte-sound (pieces_after (classed_as class.Letter held) r) b rest (letters-sound held r (b ∷ rest) h));
  told = inl refl;
}
released-sound r held b rest xs after e h HoldsByte = record { reading = letters-sound held r (b ∷ rest) h; told = inr (told-letters held r e) }
released-sound r held b rest xs after e h HoldsAll = record { reading = subst (SoundAt r) (one-more held b rest) h; told = inr e }
released-sound r held b rest xs after e h (AsWhite x c) = record { reading = whites-sound x (held ++ b ∷ []) r rest c e (subst (SoundAt r) (one-more held b rest) h); told = inl refl }

fed-sound : (t : Bool) (s : PiecesState) (b : ℕ) (rest : List ℕ) → tells_white_apart s.reading.point.at ≡ t → SoundState s (b ∷ rest)
    → SoundState (state (pieces_after (read_at t s.held (class_of b) b) s.reading) (held_at t s.held b)) rest
fed-sound true s b rest e h = released-sound s.reading s.held b rest (released s.held b) (held_after s.held b) e h.reading (releases s.held b)
fed-sound false s b rest e h = by h.told
  where
    by : (s.held ≡ []) ⊎ (tells_white_apart s.reading.point.at ≡ true) → SoundState (state (pieces_next s.reading (class_of b) b) []) rest
    by (inl none) = record { reading = byte-sound s.reading b rest (subst (λ (held : List ℕ). SoundAt s.reading (held ++ b ∷ rest)) none h.reading); told = inl refl }
    by (inr some) = absurd (true≢false (sym some ∙ e))

cut-sound : (o : Option PieceKind) (f : PiecesFound) → IsUtf8 (f.begun ++ []) → AreText f.pieces → AreText (piece_ended o f).pieces
cut-sound None f u h = h
cut-sound (Some k) f u h = piece-more f.pieces k f.begun h (subst IsUtf8 (append-nil f.begun) u)

from-sound : (bytes : List ℕ) (s : PiecesState) → SoundState s bytes → AreText (script_pieces_from bytes s)
from-sound [] s h =
    let r = pieces_after (classed_as class.Letter s.held) s.reading in
    let last : SoundAt r [] = letters-sound s.held s.reading [] h.reading in
    cut-sound (kind_cut r.point.literals r.point.at) r.found last.text last.pieces
from-sound (b ∷ bytes) s h = from-sound bytes (pieces_fed s b) (fed-sound (tells_white_apart s.reading.point.at) s b bytes refl h)

-- the pieces of a text
pub pieces_are_text : (bytes : List ℕ) → IsUtf8 bytes → AreText (script_pieces_of bytes)
pieces_are_text bytes u = from-sound bytes pieces_start (record { reading = record { text = u; edge = tt; pieces = tt }; told = inl refl })

-- those that are found where all has been read
pub finished_are_text : (text bytes : List ℕ) (i : ℕ) (s : PiecesState) (pieces : List Piece) → IsUtf8 text → script_pieces_from (drop i bytes) s ≡ script_pieces_of text
    → length bytes ≤ i → pieces ≡ pieces_end s → AreText pieces
finished_are_text text bytes i s pieces u e l h =
    let all : pieces_end s ≡ script_pieces_of text = ap (λ (bs : List ℕ). script_pieces_from bs s) (sym (drop_all i bytes l)) ∙ e in
    subst AreText (sym (h ∙ all)) (pieces_are_text text u)
