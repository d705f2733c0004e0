-- What a byte releases, where that leads, and whether a slash or a comment begins there.
use Rattle.std.proofs.Common.{◌≡◌, ℕ, nat_lt, Bool, true, false, if◌then◌else◌, List, [], ◌∷◌, ◌++◌, append-nil, refl, sym, subst, true≢false}
use Rattle.js_lexer.specs.Classes.{class_of}
use Rattle.js_lexer.specs.Feeding.{points, read_at, held_at}
use Rattle.js_lexer.specs.States.{ScriptPoint}
use Rattle.js_lexer.specs.Steps.{script_next}
use Rattle.js_lexer.specs.Trails.{is_empty}
use Rattle.js_lexer.specs.WhiteSpace.{ClassedByte, classed, classed_as, PastAscii, IsSpace, IsSeparator, BeginsWhite, IsOther, past_ascii, released, held_after, released_alone, held_alone, released_by, held_by, released_past_ascii, held_past_ascii}
use Rattle.js_lexer.specs.declared.class.ScriptClass.{ScriptClass}
use Rattle.js_lexer.specs.declared.class.ScriptClass.TheVariants as class
use Rattle.js_lexer.proofs.ScriptKinds.{PointKind, Elsewhere, AtSlash, InComment, Deep, Beyond, comes, is_asterisk_class, is_solidus_class, kind_of, next-comes, solidus-byte}

-- What a byte releases where white space past ASCII is told apart, and what is held back after it.
pub data Release (held : List ℕ) (b : ℕ) : List ClassedByte → List ℕ → Type 0 where
  AsLetters : Release held b (classed_as class.Letter held ++ classed (class_of b) b ∷ []) []
  HoldsByte : nat_lt b 128 ≡ false → Release held b (classed_as class.Letter held) (b ∷ [])
  HoldsAll : nat_lt b 128 ≡ false → Release held b [] (held ++ b ∷ [])
  AsSpaces : nat_lt b 128 ≡ false → Release held b (classed_as class.Space (held ++ b ∷ [])) []
  AsLineEnds : past_ascii (held ++ b ∷ []) ≡ IsSeparator → Release held b (classed_as class.LineEnd (held ++ b ∷ [])) []

release-alone : (f : PastAscii) (held : List ℕ) (b : ℕ) → nat_lt b 128 ≡ false → Release held b (classed_as class.Letter held ++ released_alone f b) (held_alone f b)
release-alone IsSpace held b e = AsLetters
release-alone IsSeparator held b e = AsLetters
release-alone IsOther held b e = AsLetters
release-alone BeginsWhite held b e = subst (λ (xs : List ClassedByte). Release held b xs (b ∷ [])) (sym (append-nil (classed_as class.Letter held))) (HoldsByte e)

release-past : (f : PastAscii) (held : List ℕ) (b : ℕ) → nat_lt b 128 ≡ false → past_ascii (held ++ b ∷ []) ≡ f → Release held b (released_past_ascii f held b) (held_past_ascii f held b)
release-past IsSpace held b e g = AsSpaces e
release-past IsSeparator held b e g = AsLineEnds g
release-past BeginsWhite held b e g = HoldsAll e
release-past IsOther held b e g = release-alone (past_ascii (b ∷ [])) held b e

release-by : (x : Bool) (held : List ℕ) (b : ℕ) → nat_lt b 128 ≡ x → Release held b (released_by x held b) (held_by x held b)
release-by true held b e = AsLetters
release-by false held b e = release-past (past_ascii (held ++ b ∷ [])) held b e refl

pub releases : (held : List ℕ) (b : ℕ) → Release held b (released held b) (held_after held b)
unfolding released held_after
releases held b = release-by (nat_lt b 128) held b refl

pub points-last : (xs : List ClassedByte) (y : ClassedByte) (p : ScriptPoint) → points (xs ++ y ∷ []) p ≡ script_next (points xs p).literals (points xs p).at y.class y.byte
points-last [] y p = refl
points-last (x ∷ xs) y p = points-last xs y (script_next p.literals p.at x.class x.byte)

-- Letters, white space and ends of lines begin no slash, and leave one.
abbrev is_quiet : ScriptClass → Bool
is_quiet class.Letter = true
is_quiet class.Space = true
is_quiet class.LineEnd = true
is_quiet c = false

quiet-elsewhere : (c : ScriptClass) (k : PointKind) → is_quiet c ≡ true → comes Elsewhere c k ≡ true → k ≡ Elsewhere
quiet-elsewhere class.Letter Elsewhere q e = refl
quiet-elsewhere class.Letter k q e = absurd (true≢false (sym e))
quiet-elsewhere class.Space Elsewhere q e = refl
quiet-elsewhere class.Space k q e = absurd (true≢false (sym e))
quiet-elsewhere class.LineEnd Elsewhere q e = refl
quiet-elsewhere class.LineEnd k q e = absurd (true≢false (sym e))
quiet-elsewhere c k q e = absurd (true≢false (sym q))

quiet-slash : (c : ScriptClass) (k : PointKind) → is_quiet c ≡ true → comes AtSlash c k ≡ true → k ≡ Elsewhere
quiet-slash class.Letter Elsewhere q e = refl
quiet-slash class.Letter k q e = absurd (true≢false (sym e))
quiet-slash class.Space Elsewhere q e = refl
quiet-slash class.Space k q e = absurd (true≢false (sym e))
quiet-slash class.LineEnd Elsewhere q e = refl
quiet-slash class.LineEnd k q e = absurd (true≢false (sym e))
quiet-slash c k q e = absurd (true≢false (sym q))

comes-from : (j : PointKind) (p : ScriptPoint) (c : ScriptClass) (b : ℕ) → kind_of p ≡ j → comes j c (kind_of (script_next p.literals p.at c b)) ≡ true
comes-from j p c b e = subst (λ (k : PointKind). comes k c (kind_of (script_next p.literals p.at c b)) ≡ true) e (next-comes p.literals p.at c b)

run-elsewhere : (c : ScriptClass) (bs : List ℕ) (p : ScriptPoint) → is_quiet c ≡ true → kind_of p ≡ Elsewhere → kind_of (points (classed_as c bs) p) ≡ Elsewhere
run-elsewhere c [] p q e = e
run-elsewhere c (b ∷ bs) p q e =
    run-elsewhere c bs (script_next p.literals p.at c b) q (quiet-elsewhere c (kind_of (script_next p.literals p.at c b)) q (comes-from Elsewhere p c b e))

run-slash : (c : ScriptClass) (b : ℕ) (bs : List ℕ) (p : ScriptPoint) → is_quiet c ≡ true → kind_of p ≡ AtSlash → kind_of (points (classed_as c (b ∷ bs)) p) ≡ Elsewhere
run-slash c b bs p q e =
    run-elsewhere c bs (script_next p.literals p.at c b) q (quiet-slash c (kind_of (script_next p.literals p.at c b)) q (comes-from AtSlash p c b e))

deep-still : (k : PointKind) (c : ScriptClass) → comes Deep c k ≡ true → k ≡ Deep
deep-still Deep c e = refl
deep-still Elsewhere class.Solidus e = absurd (true≢false (sym e))
deep-still Elsewhere c e = absurd (true≢false (sym e))
deep-still AtSlash class.Solidus e = absurd (true≢false (sym e))
deep-still AtSlash c e = absurd (true≢false (sym e))
deep-still InComment class.Solidus e = absurd (true≢false (sym e))
deep-still InComment c e = absurd (true≢false (sym e))
deep-still Beyond class.Solidus e = absurd (true≢false (sym e))
deep-still Beyond c e = absurd (true≢false (sym e))

pub deep-stays : (xs : List ClassedByte) (p : ScriptPoint) → kind_of p ≡ Deep → kind_of (points xs p) ≡ Deep
deep-stays [] p e = e
deep-stays (x ∷ xs) p e =
    deep-stays xs (script_next p.literals p.at x.class x.byte) (deep-still (kind_of (script_next p.literals p.at x.class x.byte)) x.class (comes-from Deep p x.class x.byte e))

-- Where a byte may lead from elsewhere: to a slash, if it is one.
pub data Outcome (b : ℕ) : PointKind → Type 0 where
  Goes : Outcome b Elsewhere
  Sinks : Outcome b Deep
  Slashes : b ≡ 47 → Outcome b AtSlash

outcome-of : (c : ScriptClass) (k : PointKind) (b : ℕ) → (is_solidus_class c ≡ true → b ≡ 47) → comes Elsewhere c k ≡ true → Outcome b k
outcome-of c Elsewhere b f h = Goes
outcome-of c Deep b f h = Sinks
outcome-of class.Solidus AtSlash b f h = Slashes (f refl)
outcome-of c AtSlash b f h = absurd (true≢false (sym h))
outcome-of class.Solidus InComment b f h = absurd (true≢false (sym h))
outcome-of c InComment b f h = absurd (true≢false (sym h))
outcome-of class.Solidus Beyond b f h = absurd (true≢false (sym h))
outcome-of c Beyond b f h = absurd (true≢false (sym h))

pub byte-outcome : (p : ScriptPoint) (b : ℕ) → kind_of p ≡ Elsewhere → Outcome b (kind_of (script_next p.literals p.at (class_of b) b))
byte-outcome p b e = outcome-of (class_of b) _ b (solidus-byte b) (comes-from Elsewhere p (class_of b) b e)

goes-there : (b : ℕ) (k : PointKind) → k ≡ Elsewhere → Outcome b k
goes-there b k e = subst (Outcome b) (sym e) Goes

letters-outcome : (held : List ℕ) (b : ℕ) (p : ScriptPoint) → kind_of (points (classed_as class.Letter held) p) ≡ Elsewhere
    → Outcome b (kind_of (points (classed_as class.Letter held ++ classed (class_of b) b ∷ []) p))
letters-outcome held b p e =
    subst (λ (q : ScriptPoint). Outcome b (kind_of q)) (sym (points-last (classed_as class.Letter held) (classed (class_of b) b) p))
    (byte-outcome (points (classed_as class.Letter held) p) b e)

release-outcome : (held : List ℕ) (b : ℕ) (p : ScriptPoint) (xs : List ClassedByte) (after : List ℕ) → Release held b xs after → kind_of p ≡ Elsewhere → Outcome b (kind_of (points xs p))
release-outcome held b p xs after AsLetters e = letters-outcome held b p (run-elsewhere class.Letter held p refl e)
release-outcome held b p xs after (HoldsByte g) e = goes-there b _ (run-elsewhere class.Letter held p refl e)
release-outcome held b p xs after (HoldsAll g) e = goes-there b _ e
release-outcome held b p xs after (AsSpaces g) e = goes-there b _ (run-elsewhere class.Space (held ++ b ∷ []) p refl e)
release-outcome held b p xs after (AsLineEnds g) e = goes-there b _ (run-elsewhere class.LineEnd (held ++ b ∷ []) p refl e)

pub outcome : (x : Bool) (held : List ℕ) (b : ℕ) (p : ScriptPoint) → kind_of p ≡ Elsewhere → Outcome b (kind_of (points (read_at x held (class_of b) b) p))
outcome true held b p e = release-outcome held b p (released held b) (held_after held b) (releases held b) e
outcome false held b p e = byte-outcome p b e

-- Behind a slash that is written: another one, and a `*`, are refused where the node begins behind it; where bytes are held back, a letter stands before.
pub data SlashOutcome (b : ℕ) (p : ScriptPoint) (after : List ℕ) : ScriptPoint → Type 0 where
  Leaves : (q : ScriptPoint) → Outcome b (kind_of q) → SlashOutcome b p after q
  Stays : nat_lt b 128 ≡ false → is_empty after ≡ false → SlashOutcome b p after p

abbrev pub begins_comment : List ClassedByte → Bool
begins_comment [] = false
begins_comment (x ∷ xs) = if is_solidus_class x.class then true else is_asterisk_class x.class

comment-outcome : (c : ScriptClass) (k : PointKind) (b : ℕ) → (if is_solidus_class c then true else is_asterisk_class c) ≡ false → comes AtSlash c k ≡ true → Outcome b k
comment-outcome class.Solidus k b f h = absurd (true≢false f)
comment-outcome class.Asterisk k b f h = absurd (true≢false f)
comment-outcome c Elsewhere b f h = Goes
comment-outcome c k b f h = absurd (true≢false (sym h))

slash-leaves : (p : ScriptPoint) (b : ℕ) (after : List ℕ) → kind_of p ≡ AtSlash → begins_comment (classed (class_of b) b ∷ []) ≡ false
    → SlashOutcome b p after (script_next p.literals p.at (class_of b) b)
slash-leaves p b after e f = Leaves _ (comment-outcome (class_of b) _ b f (comes-from AtSlash p (class_of b) b e))

none-empty : (held : List ℕ) (b : ℕ) → is_empty (held ++ b ∷ []) ≡ false
none-empty [] b = refl
none-empty (h ∷ held) b = refl

run-leaves : (c : ScriptClass) (held : List ℕ) (b : ℕ) (p : ScriptPoint) → is_quiet c ≡ true → kind_of p ≡ AtSlash → SlashOutcome b p [] (points (classed_as c (held ++ b ∷ [])) p)
run-leaves c [] b p q e = Leaves _ (goes-there b _ (run-slash c b [] p q e))
run-leaves c (h ∷ held) b p q e = Leaves _ (goes-there b _ (run-slash c h (held ++ b ∷ []) p q e))

release-leaves : (held : List ℕ) (b : ℕ) (p : ScriptPoint) (xs : List ClassedByte) (after : List ℕ) → Release held b xs after → kind_of p ≡ AtSlash → begins_comment xs ≡ false
    → SlashOutcome b p after (points xs p)
release-leaves [] b p xs after AsLetters e f = slash-leaves p b [] e f
release-leaves (h ∷ held) b p xs after AsLetters e f = Leaves _ (letters-outcome (h ∷ held) b p (run-slash class.Letter h held p refl e))
release-leaves [] b p xs after (HoldsByte g) e f = Stays g refl
release-leaves (h ∷ held) b p xs after (HoldsByte g) e f = Leaves _ (goes-there b _ (run-slash class.Letter h held p refl e))
release-leaves held b p xs after (HoldsAll g) e f = Stays g (none-empty held b)
release-leaves held b p xs after (AsSpaces g) e f = run-leaves class.Space held b p refl e
release-leaves held b p xs after (AsLineEnds g) e f = run-leaves class.LineEnd held b p refl e

pub slash-outcome : (x : Bool) (held : List ℕ) (b : ℕ) (p : ScriptPoint) → kind_of p ≡ AtSlash → begins_comment (read_at x held (class_of b) b) ≡ false
    → SlashOutcome b p (held_at x held b) (points (read_at x held (class_of b) b) p)
slash-outcome true held b p e f = release-leaves held b p (released held b) (held_after held b) (releases held b) e f
slash-outcome false held b p e f = slash-leaves p b [] e f
