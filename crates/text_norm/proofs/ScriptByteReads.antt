-- What a byte does to what waits in a script in its element: where a comment begins, within one, and at its end.
use Rattle.std.proofs.Common.{◌≡◌, ℕ, ◌<◌, ◌≤◌, ◌&&◌, ◌||◌, if◌then◌else◌, Bool, true, false, codes, encode_utf8, List, [], ◌∷◌, ◌++◌, ◌⊎◌, inl, inr, length, get_or, true≢false, refl, sym, ap, ap₂, ◌∙◌, subst, arith}
use Rattle.std.proofs.lemmas.Bool.{cases_lt}
use Rattle.std.proofs.lemmas.List.{append-nil}
use Rattle.js_lexer.proofs.CommentsStand.{EndsLine, LineFeed, CarriageReturn, LineSeparator, ParagraphSeparator, LineOutcome, LineWord, StaysInLine, line-outcome}
use Rattle.js_lexer.proofs.ScriptKinds.{PointKind, Elsewhere, AtSlash, InComment, Deep, Beyond, comes, kind, kind_of, next-comes}
use Rattle.js_lexer.proofs.ScriptReleases.{AsLetters, AsLineEnds, AsSpaces, HoldsAll, HoldsByte, Release, points-last, releases}
use Rattle.js_lexer.specs.Classes.{class_of}
use Rattle.js_lexer.specs.Feeding.{feed_script, held_at, point_of, points, read_at, tells_white_apart}
use Rattle.js_lexer.specs.States.{At, Code, Slash, LineComment, BlockComment, TooDeep, ScriptPoint, ScriptState, Trail, point}
use Rattle.js_lexer.specs.Steps.{script_next}
use Rattle.js_lexer.specs.Trails.{is_empty}
use Rattle.js_lexer.specs.WhiteSpace.{ClassedByte, classed, classed_as, held_after, released}
use Rattle.js_lexer.specs.Written.{is_block, is_line, is_outside, is_slash, only_line_end, only_line_ends, script_written, waiting_slash}
use Rattle.js_lexer.specs.declared.class.ScriptClass.{ScriptClass}
use Rattle.js_lexer.specs.declared.class.ScriptClass.TheVariants as class
use Rattle.js_lexer.specs.declared.sense.Sense.{Sense}
use Rattle.text_norm.specs.Kept.{is_script_comment, line_end_length_of, script_waits}
use Rattle.text_norm.proofs.ScriptByteWrites.{class-high, opening-byte}

abbrev never : {A : Type 0} → false ≡ true → A
never e = absurd (true≢false (sym e))

-- Only a slash and a `*` begin a comment, and only behind a slash.
abbrev pub is_opener : ScriptClass → Bool
is_opener class.Solidus = true
is_opener class.Asterisk = true
is_opener c = false

abbrev in_comment : PointKind → Bool
in_comment InComment = true
in_comment k = false

abbrev is_beyond : PointKind → Bool
is_beyond Beyond = true
is_beyond k = false

abbrev Begins : PointKind → ScriptClass → PointKind → Type 0
Begins j c k = in_comment j ≡ false → is_beyond j ≡ false → comes j c k ≡ true → in_comment k ≡ true → is_opener c ≡ true

begins : (j : PointKind) (c : ScriptClass) (k : PointKind) → Begins j c k
begins Elsewhere class.Solidus InComment n m e h = refl
begins Elsewhere class.GraveAccent InComment n m e h = never e
begins Elsewhere c InComment n m e h = never e
begins AtSlash class.Solidus InComment n m e h = refl
begins AtSlash class.Asterisk InComment n m e h = refl
begins AtSlash c InComment n m e h = never e
begins Deep c InComment n m e h = never e
begins InComment c InComment n m e h = never (sym n)
begins Beyond c InComment n m e h = never (sym m)
begins j c Elsewhere n m e h = never h
begins j c AtSlash n m e h = never h
begins j c Deep n m e h = never h
begins j c Beyond n m e h = never h

next-opens : (fs : List ℕ) (a : At) (c : ScriptClass) (b : ℕ) → in_comment (kind fs a) ≡ false → in_comment (kind_of (script_next fs a c b)) ≡ true → is_opener c ≡ true
next-opens [] TooDeep c b n h = never h
next-opens (m ∷ fs) TooDeep c b n h = begins Deep c (kind_of (script_next (m ∷ fs) TooDeep c b)) n refl (next-comes (m ∷ fs) TooDeep c b) h
next-opens [] (Slash s) c b n h = begins AtSlash c (kind_of (script_next [] (Slash s) c b)) n refl (next-comes [] (Slash s) c b) h
next-opens [] (LineComment s) c b n h = never (sym n)
next-opens [] (BlockComment s star) c b n h = never (sym n)
next-opens [] a c b n h = begins (kind [] a) c (kind_of (script_next [] a c b)) n refl (next-comes [] a c b) h
next-opens (m ∷ fs) a c b n h = begins (kind (m ∷ fs) a) c (kind_of (script_next (m ∷ fs) a c b)) n refl (next-comes (m ∷ fs) a c b) h

stays-out : (x y : Bool) → (x ≡ true → y ≡ true) → y ≡ false → x ≡ false
stays-out true y h e = absurd (true≢false (sym (h refl) ∙ e))
stays-out false y h e = refl

run-out : (c : ScriptClass) (bs : List ℕ) (p : ScriptPoint) → is_opener c ≡ false → in_comment (kind_of p) ≡ false → in_comment (kind_of (points (classed_as c bs) p)) ≡ false
run-out c [] p q n = n
run-out c (b ∷ bs) p q n =
    let next = script_next p.literals p.at c b in
    run-out c bs next q (stays-out (in_comment (kind_of next)) (is_opener c) (next-opens p.literals p.at c b n) q)

abbrev Opened : ℕ → List ℕ → Type 0
Opened b after = (is_opener (class_of b) ≡ true) × (after ≡ [])

release-opens : (held : List ℕ) (b : ℕ) (p : ScriptPoint) (xs : List ClassedByte) (after : List ℕ) → Release held b xs after → in_comment (kind_of p) ≡ false → in_comment (kind_of (points xs p)) ≡ true → Opened b after
release-opens held b p xs after AsLetters n h =
    let q = points (classed_as class.Letter held) p in
    (next-opens q.literals q.at (class_of b) b (run-out class.Letter held p refl n) (subst (λ (z : ScriptPoint). in_comment (kind_of z) ≡ true) (points-last (classed_as class.Letter held) (classed (class_of b) b) p) h), refl)
release-opens held b p xs after (HoldsByte g) n h = absurd (true≢false (sym h ∙ run-out class.Letter held p refl n))
release-opens held b p xs after (HoldsAll g) n h = absurd (true≢false (sym h ∙ n))
release-opens held b p xs after (AsSpaces g) n h = absurd (true≢false (sym h ∙ run-out class.Space (held ++ b ∷ []) p refl n))
release-opens held b p xs after (AsLineEnds g) n h = absurd (true≢false (sym h ∙ run-out class.LineEnd (held ++ b ∷ []) p refl n))

opened : (x : Bool) (held : List ℕ) (b : ℕ) (p : ScriptPoint) → in_comment (kind_of p) ≡ false → in_comment (kind_of (points (read_at x held (class_of b) b) p)) ≡ true → Opened b (held_at x held b)
opened true held b p n h = release-opens held b p (released held b) (held_after held b) (releases held b) n h
opened false held b p n h = (next-opens p.literals p.at (class_of b) b n h, refl)

comment-is : (fs : List ℕ) (a : At) → ((is_empty fs && is_line a) || (is_empty fs && is_block a)) ≡ in_comment (kind fs a)
comment-is [] (LineComment s) = refl
comment-is [] (BlockComment s star) = refl
comment-is [] a = refl
comment-is (n ∷ fs) TooDeep = refl
comment-is (n ∷ fs) a = refl

pub opener-low : (b : ℕ) → is_opener (class_of b) ≡ true → (b < 128) ⊎ (128 ≤ b) → b < 128
opener-low b e (inl h) = h
opener-low b e (inr h) = absurd (true≢false (sym e ∙ ap is_opener (class-high b h)))

either-none : (x y : Bool) → (x || y) ≡ false → (x ≡ false) × (y ≡ false)
either-none true y e = never (sym e)
either-none false y e = (refl, e)

pub line-none-held : (x : Bool) (held : List ℕ) → held ≡ [] → (if x then held else []) ≡ []
line-none-held true held e = e
line-none-held false held e = refl

-- where a comment begins
pub record BeginsComment (v : ScriptState) (b : ℕ) : Type 0 where
  pub low : b < 128
  pub written : script_written v b ≡ []
  pub waits : script_waits (feed_script v b) ≡ []

pub no-slash : (fs : List ℕ) (a : At) → ((is_empty fs && is_line a) || (is_empty fs && is_block a)) ≡ true → (is_empty fs && is_slash a) ≡ false
no-slash [] (Slash s) e = never e
no-slash [] a e = refl
no-slash (n ∷ fs) a e = refl

pub none-waiting : (w : ScriptState) → is_outside is_slash w ≡ false → waiting_slash w ≡ []
none-waiting w e = rw e refl

pub begins-comment : (v : ScriptState) (b : ℕ) → is_script_comment v ≡ false → is_script_comment (feed_script v b) ≡ true → BeginsComment v b
begins-comment v b n h =
    let w = feed_script v b in
    let parts = either-none (is_outside is_line v) (is_outside is_block v) n in
    let o = opened (tells_white_apart v.at) v.held b (point_of v) (sym (comment-is v.literals v.at) ∙ n) (sym (comment-is w.literals w.at) ∙ h) in
    record {
      low = opener-low b o.0 (cases_lt b 128);
      written = opening-byte v b parts.1 parts.0 h;
      waits = ap₂ (λ (x y : List ℕ). x ++ y) (none-waiting w (no-slash w.literals w.at h)) (line-none-held (is_outside is_line w) w.held o.1);
    }

-- A byte of a line comment.
abbrev pub IsLead : ℕ → Type 0
IsLead x = 128 ≤ x → 192 ≤ x

pub data InLine (v : ScriptState) (b : ℕ) : Type 0 where
  GoesOn : is_script_comment (feed_script v b) ≡ true → script_written v b ≡ [] → (d : List ℕ) → d ++ script_waits (feed_script v b) ≡ script_waits v ++ b ∷ [] → InLine v b
  EndsIt : is_script_comment (feed_script v b) ≡ false → (d : List ℕ) → d ++ script_written v b ≡ script_waits v ++ b ∷ [] → length (script_written v b) ≡ line_end_length_of b
      → IsLead (get_or (script_written v b) 0 0) → script_waits (feed_script v b) ≡ [] → InLine v b

dropped : (held : List ℕ) (b : ℕ) (xs : List ClassedByte) (after : List ℕ) → Release held b xs after → (d : List ℕ) × (d ++ after ≡ held ++ b ∷ [])
dropped held b xs after AsLetters = (held ++ b ∷ [], append-nil (held ++ b ∷ []))
dropped held b xs after (HoldsByte g) = (held, refl)
dropped held b xs after (HoldsAll g) = ([], refl)
dropped held b xs after (AsSpaces g) = (held ++ b ∷ [], append-nil (held ++ b ∷ []))
dropped held b xs after (AsLineEnds g) = (held ++ b ∷ [], append-nil (held ++ b ∷ []))

-- the end of a line ends with the byte
record EndsWith (held : List ℕ) (b : ℕ) (word : List ℕ) : Type 0 where
  pub d : List ℕ
  pub m : List ℕ
  pub whole : d ++ word ≡ held ++ b ∷ []
  pub last : word ≡ m ++ b ∷ []

only-letters : (held : List ℕ) (xs : List ClassedByte) → only_line_ends (classed_as class.Letter held ++ xs) ≡ only_line_ends xs
only-letters [] xs = refl
only-letters (h ∷ held) xs = only-letters held xs

only-as : (c : ScriptClass) (held : List ℕ) → ((b : ℕ) → only_line_end c b ≡ []) → only_line_ends (classed_as c held) ≡ []
only-as c [] h = refl
only-as c (b ∷ held) h = ap₂ (λ (x y : List ℕ). x ++ y) (h b) (only-as c held h)

only-ends : (held : List ℕ) → only_line_ends (classed_as class.LineEnd held) ≡ held
only-ends [] = refl
only-ends (h ∷ held) = ap (λ (xs : List ℕ). h ∷ xs) (only-ends held)

abbrev Ended : List ℕ → ℕ → List ℕ → Type 0
Ended held b word = (word ≡ []) ⊎ EndsWith held b word

class-ended : (c : ScriptClass) (held : List ℕ) (b : ℕ) → Ended held b (only_line_end c b ++ [])
class-ended class.LineEnd held b = inr (record { d = held; m = []; whole = refl; last = refl })
class-ended c held b = inl refl

ended : (held : List ℕ) (b : ℕ) (xs : List ClassedByte) (after : List ℕ) → Release held b xs after → Ended held b (only_line_ends xs)
ended held b xs after AsLetters = subst (Ended held b) (sym (only-letters held (classed (class_of b) b ∷ []))) (class-ended (class_of b) held b)
ended held b xs after (HoldsByte g) = inl (only-as class.Letter held (λ z. refl))
ended held b xs after (HoldsAll g) = inl refl
ended held b xs after (AsSpaces g) = inl (only-as class.Space (held ++ b ∷ []) (λ z. refl))
ended held b xs after (AsLineEnds g) = inr (record { d = []; m = held; whole = only-ends (held ++ b ∷ []); last = only-ends (held ++ b ∷ []) })

abbrev pub last_or : ℕ → List ℕ → ℕ
last_or d [] = d
last_or d (x ∷ xs) = last_or x xs

pub last-append : (d : ℕ) (m : List ℕ) (b : ℕ) → last_or d (m ++ b ∷ []) ≡ b
last-append d [] b = refl
last-append d (x ∷ m) b = last-append x m b

word-byte : (m word : List ℕ) (b : ℕ) → word ≡ m ++ b ∷ [] → last_or 0 word ≡ b
word-byte m word b e = ap (last_or 0) e ∙ last-append 0 m b

none-word : (word : List ℕ) → LineWord word → word ≡ [] → ⊥
unfolding lib.Utf8.encode
none-word word LineFeed e = cc
none-word word CarriageReturn e = cc
none-word word LineSeparator e = cc
none-word word ParagraphSeparator e = cc

word-length : (m word : List ℕ) (b : ℕ) → LineWord word → word ≡ m ++ b ∷ [] → length word ≡ line_end_length_of b
unfolding lib.Utf8.encode
word-length m word b LineFeed e = ap line_end_length_of (word-byte m (codes "\n") b e)
word-length m word b CarriageReturn e = ap line_end_length_of (word-byte m (codes "\r") b e)
word-length m word b LineSeparator e = ap line_end_length_of (word-byte m (encode_utf8 0x2028) b e)
word-length m word b ParagraphSeparator e = ap line_end_length_of (word-byte m (encode_utf8 0x2029) b e)

word-lead : (word : List ℕ) → LineWord word → IsLead (get_or word 0 0)
unfolding lib.Utf8.encode
word-lead word LineFeed h = absurd (omega (arith, h))
word-lead word CarriageReturn h = absurd (omega (arith, h))
word-lead word LineSeparator h = omega arith
word-lead word ParagraphSeparator h = omega arith

abbrev line_of : Sense → List ℕ → Trail → ScriptState
line_of s held t = record { literals = []; at = LineComment s; held = held; trail = t }

abbrev outside_at : ScriptPoint → Bool
outside_at q = (is_empty q.literals && is_line q.at) || (is_empty q.literals && is_block q.at)

ends-by : (s : Sense) (held : List ℕ) (t : Trail) (b : ℕ) → points (released held b) (point [] (LineComment s)) ≡ point [] (Code s) → LineWord (only_line_ends (released held b))
    → Ended held b (only_line_ends (released held b)) → InLine (line_of s held t) b
ends-by s held t b e word (inl n) = absurd (none-word (only_line_ends (released held b)) word n)
ends-by s held t b e word (inr h) =
    let v = line_of s held t in
    let w = feed_script v b in
    EndsIt (ap outside_at e) h.d h.whole (word-length h.m (only_line_ends (released held b)) b word h.last) (word-lead (only_line_ends (released held b)) word)
    (ap₂ (λ (x y : List ℕ). x ++ y) (none-waiting w (ap (λ (q : ScriptPoint). is_empty q.literals && is_slash q.at) e)) (ap (λ (q : ScriptPoint). if is_empty q.literals && is_line q.at then w.held else []) e))

line-by : (s : Sense) (held : List ℕ) (t : Trail) (b : ℕ) → LineOutcome s (held_after held b) (released held b) → InLine (line_of s held t) b
line-by s held t b (StaysInLine e out tells) =
    let v = line_of s held t in
    let w = feed_script v b in
    let d = dropped held b (released held b) (held_after held b) (releases held b) in
    GoesOn (ap outside_at e) out d.0
    (ap₂ (λ (x y : List ℕ). d.0 ++ (x ++ y)) (none-waiting w (ap (λ (q : ScriptPoint). is_empty q.literals && is_slash q.at) e)) (ap (λ (q : ScriptPoint). if is_empty q.literals && is_line q.at then w.held else []) e) ∙ d.1)
line-by s held t b (EndsLine e word tells after) = ends-by s held t b e word (ended held b (released held b) (held_after held b) (releases held b))

in-line-at : (fs held : List ℕ) (a : At) (t : Trail) (b : ℕ) → (is_empty fs && is_line a) ≡ true → InLine (record { literals = fs; at = a; held = held; trail = t }) b
in-line-at [] held (LineComment s) t b e = line-by s held t b (line-outcome s held b (released held b) (held_after held b) (releases held b))
in-line-at [] held a t b e = never e
in-line-at (n ∷ fs) held a t b e = never e

pub in-line : (v : ScriptState) (b : ℕ) → is_outside is_line v ≡ true → InLine v b
in-line v b e = in-line-at v.literals v.held v.at v.trail b e
