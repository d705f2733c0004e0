-- What is written of a text in a script element leads a page that stands for a path to one that does.
use Rattle.std.proofs.Common.{◌≡◌, ◌⊎◌, inl, inr, ℕ, ◌==◌, ◌||◌, ◌&&◌, not, if◌then◌else◌, Bool, true, false, codes, List, [], ◌∷◌, ◌++◌, Option, Some, None, length, refl, sym, ap, ap₂, ◌∙◌, subst, true≢false, eqb-true, arith}
use Rattle.std.proofs.lemmas.Bool.{and_left, and_right, cases_Bool, or_left, or_right}
use Rattle.std.proofs.lemmas.Bool.Decides.{nat_tests}
use Rattle.js_lexer.specs.Classes.{class_of}
use Rattle.js_lexer.specs.Elements.{script_may_end}
use Rattle.js_lexer.specs.Events.{ScriptEvent}
use Rattle.js_lexer.specs.Feeding.{points, tells_all, tells_end, tells_held_slash, tells_white_apart, read_at, held_at, feed_script, script_emits, script_ends, point_of}
use Rattle.js_lexer.specs.Holes.{as_page, hole_at, settled_at, script_after_cut, script_after_hole}
use Rattle.js_lexer.specs.PageScripts.{PageScript, told_inside, read_in_page, ScriptStandsAlike, code_behind, ScriptStandsBeside, ScriptSlashWaits, ScriptSlashStands, ScriptStandsAtSlash, ScriptStandsAt, ScriptStands}
use Rattle.js_lexer.specs.Refusals.{Cause, cause, first_script_cause, splits, splits_first, SplitToken, refusal_outside, script_refuses}
use Rattle.js_lexer.specs.States.{At, Code, Slash, LineComment, BlockComment, TooDeep, ScriptPoint, point, Trail, ScriptState}
use Rattle.js_lexer.specs.Trails.{is_empty}
use Rattle.js_lexer.specs.WhiteSpace.{ClassedByte, classed, classed_as, released, held_after}
use Rattle.js_lexer.specs.Written.{is_block, is_line, is_outside, is_slash, blank_of, script_written, script_written_at_cut, waiting_slash, waits_behind}
use Rattle.js_lexer.specs.WrittenLaws.{IsBeforeSlash}
use Rattle.js_lexer.specs.declared.class.ScriptClass.{ScriptClass}
use Rattle.js_lexer.specs.declared.class.ScriptClass.TheVariants as class
use Rattle.js_lexer.specs.declared.sense.Sense.{Sense}
use Rattle.js_lexer.specs.declared.sense.Sense.TheVariants as sense
use Rattle.js_lexer.proofs.CommentBlanks.{SameInPage, slash-beside, slash-from}
use Rattle.js_lexer.proofs.CommentsStand.{behind-blank, block-byte, line-byte}
use Rattle.js_lexer.proofs.Keeps.{point_after, scripts-keep, told_after}
use Rattle.js_lexer.proofs.ScriptKinds.{PointKind, Elsewhere, AtSlash, InComment, Deep, Beyond, by-class, is_asterisk_class, is_common, is_solidus_class, kind, kind_of}
use Rattle.js_lexer.proofs.ScriptReleases.{Release, AsLetters, HoldsByte, HoldsAll, AsSpaces, AsLineEnds, releases, Outcome, Goes, Sinks, Slashes, outcome, SlashOutcome, Leaves, Stays, begins_comment, slash-outcome, deep-stays}
use Rattle.js_lexer.proofs.WrittenKeeps.{none-held-by-slash, letters-silent, letters-stay, opens-comment, opens-told, read-slash}

-- By the kind of the point where the path stands.
abbrev is_elsewhere : PointKind → Bool
is_elsewhere Elsewhere = true
is_elsewhere k = false

abbrev pub is_at_slash : PointKind → Bool
is_at_slash AtSlash = true
is_at_slash k = false

abbrev pub is_commented : PointKind → Bool
is_commented InComment = true
is_commented k = false

abbrev is_deep : PointKind → Bool
is_deep Deep = true
is_deep k = false

not-elsewhere : (k : PointKind) → k ≡ Elsewhere → is_elsewhere k ≡ false → ⊥
not-elsewhere k e f = true≢false (sym (ap is_elsewhere e) ∙ f)

pub elsewhere-stands : {E : Type 0} (inside : ScriptEvent → E) (fs : List ℕ) (a : At) (v : ScriptState) (t : List E) (p : PageScript E) → kind fs a ≡ Elsewhere → ScriptStandsAlike E v t p
    → ScriptStandsAt fs a E inside v t p
elsewhere-stands inside [] (Slash s) v t p e h = absurd (not-elsewhere AtSlash e refl)
elsewhere-stands inside [] (LineComment s) v t p e h = absurd (not-elsewhere InComment e refl)
elsewhere-stands inside [] (BlockComment s star) v t p e h = absurd (not-elsewhere InComment e refl)
elsewhere-stands inside [] TooDeep v t p e h = absurd (not-elsewhere Beyond e refl)
elsewhere-stands inside (n ∷ fs) TooDeep v t p e h = tt
elsewhere-stands inside [] a v t p e h = h
elsewhere-stands inside (n ∷ fs) a v t p e h = h

pub deep-stands : {E : Type 0} (inside : ScriptEvent → E) (fs : List ℕ) (a : At) (v : ScriptState) (t : List E) (p : PageScript E) → kind fs a ≡ Deep → ScriptStandsAt fs a E inside v t p
deep-stands inside (n ∷ fs) TooDeep v t p e = tt
deep-stands inside [] (Slash s) v t p e = absurd (true≢false (sym (ap is_deep e)))
deep-stands inside [] (LineComment s) v t p e = absurd (true≢false (sym (ap is_deep e)))
deep-stands inside [] (BlockComment s star) v t p e = absurd (true≢false (sym (ap is_deep e)))
deep-stands inside [] TooDeep v t p e = absurd (true≢false (sym (ap is_deep e)))
deep-stands inside [] a v t p e = absurd (true≢false (sym (ap is_deep e)))
deep-stands inside (n ∷ fs) a v t p e = absurd (true≢false (sym (ap is_deep e)))

pub no-block : (fs : List ℕ) (a : At) → is_commented (kind fs a) ≡ false → (is_empty fs && is_block a) ≡ false
no-block [] (BlockComment s star) e = absurd (true≢false e)
no-block [] (Slash s) e = refl
no-block [] a e = refl
no-block (n ∷ fs) a e = refl

pub no-line : (fs : List ℕ) (a : At) → is_commented (kind fs a) ≡ false → (is_empty fs && is_line a) ≡ false
no-line [] (LineComment s) e = absurd (true≢false e)
no-line [] (Slash s) e = refl
no-line [] a e = refl
no-line (n ∷ fs) a e = refl

pub no-slash : (fs : List ℕ) (a : At) → is_at_slash (kind fs a) ≡ false → (is_empty fs && is_slash a) ≡ false
no-slash [] (Slash s) e = absurd (true≢false e)
no-slash [] a e = refl
no-slash (n ∷ fs) a e = refl

pub record StandsBehindSlash (fs : List ℕ) (a : At) : Type 0 where
  pub sense : Sense
  pub outside : fs ≡ []
  pub at : a ≡ Slash sense

pub at-slash : (fs : List ℕ) (a : At) → kind fs a ≡ AtSlash → StandsBehindSlash fs a
at-slash [] (Slash s) e = record { sense = s; outside = refl; at = refl }
at-slash [] (LineComment s) e = absurd (true≢false (sym (ap is_at_slash e)))
at-slash [] (BlockComment s star) e = absurd (true≢false (sym (ap is_at_slash e)))
at-slash [] TooDeep e = absurd (true≢false (sym (ap is_at_slash e)))
at-slash [] a e = absurd (true≢false (sym (ap is_at_slash e)))
at-slash (n ∷ fs) TooDeep e = absurd (true≢false (sym (ap is_at_slash e)))
at-slash (n ∷ fs) a e = absurd (true≢false (sym (ap is_at_slash e)))

-- What is written.
pub written-plain : (v : ScriptState) (b : ℕ) → is_commented (kind v.literals v.at) ≡ false → is_commented (kind (feed_script v b).literals (feed_script v b).at) ≡ false
    → (b == 47 && is_outside is_slash (feed_script v b)) ≡ false → script_written v b ≡ waiting_slash v ++ b ∷ []
written-plain v b e f g =
    let u = feed_script v b in
    rw (no-block v.literals v.at e, no-line v.literals v.at e, g, no-line u.literals u.at f, no-block u.literals u.at f) refl

pub written-none : (v : ScriptState) (b : ℕ) → is_commented (kind v.literals v.at) ≡ false → waits_behind (feed_script v b) b ≡ true → script_written v b ≡ []
written-none v b e f = rw (no-block v.literals v.at e, no-line v.literals v.at e, f) refl

pub none-waits : (v : ScriptState) → is_at_slash (kind v.literals v.at) ≡ false → waiting_slash v ≡ []
none-waits v e = rw (no-slash v.literals v.at e) refl

-- A byte that both read.
pub alike-step : {E : Type 0} (inside : ScriptEvent → E) (v : ScriptState) (b : ℕ) (t : List E) (p : PageScript E) → ScriptStandsAlike E v t p → script_refuses true v b ≡ None
    → ScriptStandsAlike E (feed_script v b) (told_inside inside (script_emits v b []) t) (read_in_page inside (b ∷ []) p)
alike-step inside v b t p h n = record {
  alike = scripts-keep.feeds true v p.state b h.alike n;
  told = ap₂ (told_inside inside) (scripts-keep.emits true v p.state b [] h.alike n) h.told;
}

block-kept : (a : At) → is_block a ≡ is_block (as_page a)
block-kept (Code s) = refl
block-kept (Slash s) = refl
block-kept (LineComment s) = refl
block-kept (BlockComment s star) = refl
block-kept a = refl

pub alike-same : {E : Type 0} (v : ScriptState) (t : List E) (p : PageScript E) → is_block v.at ≡ false → ScriptStandsAlike E v t p → SameInPage E v t p
alike-same v t p e h = elim h.alike.1 [
  | inl s ↦ record { escape = h.alike.0; same = s; told = h.told }
  | inr s ↦ absurd (true≢false (sym (ap is_block s.path) ∙ sym (block-kept v.at) ∙ e))
]

apart-block : (a : At) → tells_white_apart a ≡ true → is_block a ≡ false
apart-block (BlockComment s star) e = absurd (true≢false (sym e))
apart-block (Slash s) e = refl
apart-block a e = refl

-- What is to be shown of a byte.
abbrev Stepped : {E : Type 0} → (ScriptEvent → E) → ScriptState → ℕ → List E → PageScript E → Type 0
Stepped {E} inside v b t p = ScriptStands E inside (feed_script v b) (told_inside inside (script_emits v b []) t) (read_in_page inside (script_written v b) p)

-- The slash that may begin a comment waits.
slash-stands : {E : Type 0} (inside : ScriptEvent → E) (fs : List ℕ) (a : At) (s : Sense) (v : ScriptState) (t : List E) (p : PageScript E) → fs ≡ [] → a ≡ Slash s
    → ScriptStandsAtSlash (not (is_empty (waiting_slash v))) E inside s v t p → ScriptStandsAt fs a E inside v t p
slash-stands {E} inside fs a s v t p e f h =
    subst (λ (gs : List ℕ). ScriptStandsAt gs a E inside v t p) (sym e) (subst (λ (d : At). ScriptStandsAt [] d E inside v t p) (sym f) h)

pub slash-outside : (fs : List ℕ) (a : At) (s : Sense) → fs ≡ [] → a ≡ Slash s → (is_empty fs && is_slash a) ≡ true
slash-outside fs a s e f = rw (e, f) refl

pub with-held-some : (x : Bool) (held : List ℕ) → is_empty (read_at x held (class_of 47) 47) ≡ false
with-held-some true [] = ap is_empty (read-slash true [])
with-held-some true (h ∷ held) = ap is_empty (read-slash true (h ∷ held))
with-held-some false held = refl

pub fresh-gone : (x : Bool) (v : ScriptState) → tells_white_apart v.at ≡ x → (feed_script v 47).trail.fresh ≡ false
fresh-gone x v e = and_right v.trail.fresh _ (ap not (ap not (with-held-some (tells_white_apart v.at) v.held)))

pub waits-by-slash : (v : ScriptState) (s : Sense) → (feed_script v 47).literals ≡ [] → (feed_script v 47).at ≡ Slash s → waiting_slash (feed_script v 47) ≡ codes "/"
waits-by-slash v s e f =
    let u = feed_script v 47 in
    rw (slash-outside u.literals u.at s e f, none-held-by-slash (tells_white_apart v.at) v.held, fresh-gone (tells_white_apart v.at) v refl) refl

slash-arrives : {E : Type 0} (inside : ScriptEvent → E) (v : ScriptState) (t : List E) (p : PageScript E) → kind_of (point_of (feed_script v 47)) ≡ AtSlash
    → is_commented (kind v.literals v.at) ≡ false → ScriptStandsAlike E v t p → script_refuses true v 47 ≡ None → Stepped inside v 47 t p
slash-arrives {E} inside v t p e f h n =
    let u = feed_script v 47 in
    let c = at-slash u.literals u.at e in
    let before : IsBeforeSlash c.sense v = ap₂ point c.outside c.at in
    let apart = (slash-from (tells_white_apart v.at) c.sense v refl before).apart in
    let w : waits_behind u 47 ≡ true = rw (slash-outside u.literals u.at c.sense c.outside c.at) refl in
    let told = told_inside inside (script_emits v 47 []) t in
    subst (λ (bs : List ℕ). ScriptStands E inside u told (read_in_page inside bs p)) (sym (written-none v 47 f w))
    (slash-stands inside u.literals u.at c.sense u told p c.outside c.at
    (subst (λ (x : Bool). ScriptStandsAtSlash x E inside c.sense u told p) (sym (ap (λ (bs : List ℕ). not (is_empty bs)) (waits-by-slash v c.sense c.outside c.at)))
    (record { as_is = alike-step inside v 47 t p h n; comment = slash-beside inside c.sense v t p (alike-same v t p (apart-block v.at apart) h) before })))

-- A byte from a point where no slash waits. The page that has read what waited is `q`.
lands : {E : Type 0} (inside : ScriptEvent → E) (v : ScriptState) (b : ℕ) (t : List E) (p q : PageScript E) (k : PointKind) → Outcome b k → kind_of (point_of (feed_script v b)) ≡ k
    → is_commented (kind v.literals v.at) ≡ false → read_in_page inside (waiting_slash v ++ b ∷ []) p ≡ read_in_page inside (b ∷ []) q
    → ScriptStandsAlike E v t q → script_refuses true v b ≡ None → (b ≡ 47 → kind_of (point_of (feed_script v b)) ≡ AtSlash → Stepped inside v b t p) → Stepped inside v b t p
lands {E} inside v b t p q k Goes e f r h n slash =
    let u = feed_script v b in
    let told = told_inside inside (script_emits v b []) t in
    let plain = written-plain v b f (ap is_commented e) (and_right (b == 47) _ (no-slash u.literals u.at (ap is_at_slash e))) in
    subst (λ (d : PageScript E). ScriptStands E inside u told d) (sym (ap (λ (bs : List ℕ). read_in_page inside bs p) plain ∙ r))
    (elsewhere-stands inside u.literals u.at u told (read_in_page inside (b ∷ []) q) e (alike-step inside v b t q h n))
lands inside v b t p q k Sinks e f r h n slash = deep-stands inside (feed_script v b).literals (feed_script v b).at _ _ _ e
lands inside v b t p q k (Slashes g) e f r h n slash = slash g e

slash-by : {E : Type 0} (inside : ScriptEvent → E) (v : ScriptState) (b : ℕ) (t : List E) (p : PageScript E) → is_commented (kind v.literals v.at) ≡ false
    → ScriptStandsAlike E v t p → script_refuses true v b ≡ None → b ≡ 47 → kind_of (point_of (feed_script v b)) ≡ AtSlash → Stepped inside v b t p
slash-by {E} inside v b t p f h n g e =
    subst (λ (c : ℕ). Stepped inside v c t p) (sym g)
    (slash-arrives inside v t p (subst (λ (c : ℕ). kind_of (point_of (feed_script v c)) ≡ AtSlash) g e) f h (subst (λ (c : ℕ). script_refuses true v c ≡ None) g n))

elsewhere-byte : {E : Type 0} (inside : ScriptEvent → E) (v : ScriptState) (b : ℕ) (t : List E) (p : PageScript E) → kind v.literals v.at ≡ Elsewhere
    → ScriptStandsAlike E v t p → script_refuses true v b ≡ None → Stepped inside v b t p
elsewhere-byte inside v b t p e h n =
    let f = ap is_commented e in
    lands inside v b t p p _ (outcome (tells_white_apart v.at) v.held b (point_of v) e) refl f
    (ap (λ (bs : List ℕ). read_in_page inside (bs ++ b ∷ []) p) (none-waits v (ap is_at_slash e))) h n (slash-by inside v b t p f h n)

deep-byte : {E : Type 0} (inside : ScriptEvent → E) (v : ScriptState) (b : ℕ) (t : List E) (p : PageScript E) → kind v.literals v.at ≡ Deep → Stepped inside v b t p
deep-byte inside v b t p e =
    deep-stands inside (feed_script v b).literals (feed_script v b).at _ _ _ (deep-stays (read_at (tells_white_apart v.at) v.held (class_of b) b) (point_of v) e)

-- Behind a slash.
holds-apart : (x : Bool) (held : List ℕ) (b : ℕ) → is_empty (held_at x held b) ≡ false → x ≡ true
holds-apart true held b e = refl
holds-apart false held b e = absurd (true≢false e)

pub held-written : (v : ScriptState) → is_empty v.held ≡ false → not (is_empty (waiting_slash v)) ≡ false
held-written v e = rw (and_left (is_empty v.held) (not v.trail.fresh) e, and_right (is_outside is_slash v) false refl) refl

behind-slash : {E : Type 0} (inside : ScriptEvent → E) (v : ScriptState) (b : ℕ) (t : List E) (p q : PageScript E) (x : ScriptPoint) → SlashOutcome b (point_of v) (feed_script v b).held x
    → point_of (feed_script v b) ≡ x → kind v.literals v.at ≡ AtSlash → read_in_page inside (waiting_slash v ++ b ∷ []) p ≡ read_in_page inside (b ∷ []) q
    → ScriptStandsAlike E v t q → script_refuses true v b ≡ None → (b ≡ 47 → kind_of (point_of (feed_script v b)) ≡ AtSlash → Stepped inside v b t p) → Stepped inside v b t p
behind-slash inside v b t p q x (Leaves y o) e f r h n slash = lands inside v b t p q (kind_of y) o (ap kind_of e) (ap is_commented f) r h n slash
behind-slash {E} inside v b t p q x (Stays g i) e f r h n slash =
    let u = feed_script v b in
    let told = told_inside inside (script_emits v b []) t in
    let no : (b == 47) ≡ false = grind (arith, nat_tests) in
    let here = ap kind_of e ∙ f in
    let c = at-slash u.literals u.at here in
    let apart = ap (λ (y : ScriptPoint). tells_white_apart y.at) e ∙ holds-apart (tells_white_apart v.at) v.held b i in
    let plain = written-plain v b (ap is_commented f) (ap is_commented here) (and_left (b == 47) _ no) in
    subst (λ (d : PageScript E). ScriptStands E inside u told d) (sym (ap (λ (bs : List ℕ). read_in_page inside bs p) plain ∙ r))
    (slash-stands inside u.literals u.at c.sense u told (read_in_page inside (b ∷ []) q) c.outside c.at
    (subst (λ (y : Bool). ScriptStandsAtSlash y E inside c.sense u told (read_in_page inside (b ∷ []) q)) (sym (held-written u i))
    (record { written = alike-step inside v b t q h n; because = inr apart })))

-- A slash that is written: the byte behind it begins no comment.
pub first-common : (c : ScriptClass) → is_common c ≡ true → (if is_solidus_class c then true else is_asterisk_class c) ≡ false
first-common class.Solidus e = absurd (true≢false (sym e))
first-common class.Asterisk e = absurd (true≢false (sym e))
first-common c e = refl

pub class-begins-none : (b : ℕ) → (b == 47) ≡ false → (b == 42) ≡ false → begins_comment (classed (class_of b) b ∷ []) ≡ false
class-begins-none b e f = by-class (λ c. (if is_solidus_class c then true else is_asterisk_class c) ≡ false) b
    (λ g. refl)
    (λ g. absurd (true≢false (sym g ∙ e)))
    (λ g. absurd (true≢false (sym g ∙ f)))
    first-common

pub release-begins-none : (b : ℕ) (xs : List ClassedByte) (after : List ℕ) → Release [] b xs after → (b == 47) ≡ false → (b == 42) ≡ false → begins_comment xs ≡ false
release-begins-none b xs after AsLetters e f = class-begins-none b e f
release-begins-none b xs after (HoldsByte g) e f = refl
release-begins-none b xs after (HoldsAll g) e f = refl
release-begins-none b xs after (AsSpaces g) e f = refl
release-begins-none b xs after (AsLineEnds g) e f = refl

pub begins-none : (x : Bool) (held : List ℕ) (b : ℕ) → held ≡ [] → (b == 47) ≡ false → (b == 42) ≡ false → begins_comment (read_at x held (class_of b) b) ≡ false
begins-none true held b h e f = subst (λ (y : List ℕ). begins_comment (released y b) ≡ false) (sym h) (release-begins-none b (released [] b) (held_after [] b) (releases [] b) e f)
begins-none false held b h e f = class-begins-none b e f

pub release-held-none : (h : ℕ) (held : List ℕ) (b : ℕ) (xs : List ClassedByte) (after : List ℕ) → Release (h ∷ held) b xs after → begins_comment xs ≡ false
release-held-none h held b xs after AsLetters = refl
release-held-none h held b xs after (HoldsByte g) = refl
release-held-none h held b xs after (HoldsAll g) = refl
release-held-none h held b xs after (AsSpaces g) = refl
release-held-none h held b xs after (AsLineEnds g) = refl

pub held-begins-none : (x : Bool) (held : List ℕ) (b : ℕ) → x ≡ true → is_empty held ≡ false → begins_comment (read_at x held (class_of b) b) ≡ false
held-begins-none true [] b e f = absurd (true≢false f)
held-begins-none true (h ∷ held) b e f = release-held-none h held b (released (h ∷ held) b) (held_after (h ∷ held) b) (releases (h ∷ held) b)
held-begins-none false held b e f = absurd (true≢false (sym e))

-- where a node begins behind it, the path refuses what would make it a comment
pub split-class : (s : Sense) (m : List ℕ) (c : ScriptClass) → splits (Slash s) m c ≡ false → (if is_solidus_class c then true else is_asterisk_class c) ≡ false
split-class s m class.Solidus e = absurd (true≢false e)
split-class s m class.Asterisk e = absurd (true≢false e)
split-class s m c e = refl

pub splits-begins : (s : Sense) (m : List ℕ) (xs : List ClassedByte) → splits_first (Slash s) m xs ≡ false → begins_comment xs ≡ false
splits-begins s m [] e = refl
splits-begins s m (x ∷ xs) e = split-class s m x.class e

pub some-none : (x : Cause) → Some x ≡ None → ⊥
some-none x e = cc

pub split-none : (x y : Bool) (n : ℕ) (o : Option Cause) → first_script_cause (if x && y then cause SplitToken n n else None) o ≡ None → x ≡ true → y ≡ false
split-none true true n o e f = absurd (some-none _ e)
split-none true false n o e f = refl
split-none false y n o e f = absurd (true≢false (sym f))

pub fresh-begins-none : (v : ScriptState) (b : ℕ) (s : Sense) → v.at ≡ Slash s → v.trail.fresh ≡ true → script_refuses true v b ≡ None → begins_comment (read_at (tells_white_apart v.at) v.held (class_of b) b) ≡ false
fresh-begins-none v b s e f n =
    let xs = read_at (tells_white_apart v.at) v.held (class_of b) b in
    splits-begins s v.trail.markup xs
    (sym (ap (λ (a : At). splits_first a v.trail.markup xs) e)
    ∙ split-none v.trail.fresh (splits_first v.at v.trail.markup xs) (length v.held) (refusal_outside v.literals true v (class_of b) b) n f)

pub written-because : (e f : Bool) → not (is_empty (if e && f then codes "/" else [])) ≡ false → e ≡ true → f ≡ false
written-because true true h i = absurd (true≢false h)
written-because true false h i = refl
written-because false f h i = absurd (true≢false (sym i))

pub fresh-or-held : (x y : Bool) → (x && not y) ≡ false → (x ≡ false) ⊎ (y ≡ true)
fresh-or-held true true e = inr refl
fresh-or-held true false e = absurd (true≢false e)
fresh-or-held false y e = inl refl

pub no-waiting : (bs : List ℕ) → not (is_empty bs) ≡ false → bs ≡ []
no-waiting [] e = refl
no-waiting (b ∷ bs) e = absurd (true≢false e)

written-slash-byte : {E : Type 0} (inside : ScriptEvent → E) (v : ScriptState) (b : ℕ) (t : List E) (p : PageScript E) → kind v.literals v.at ≡ AtSlash → not (is_empty (waiting_slash v)) ≡ false
    → ScriptSlashStands E v t p → script_refuses true v b ≡ None → Stepped inside v b t p
written-slash-byte {E} inside v b t p e w h n =
    let c = at-slash v.literals v.at e in
    let out = slash-outside v.literals v.at c.sense c.outside c.at in
    let x = tells_white_apart v.at in
    let fresh = λ (f : v.trail.fresh ≡ true). fresh-begins-none v b c.sense c.at f n in
    let none : begins_comment (read_at x v.held (class_of b) b) ≡ false = elim h.because [
      | inl f ↦ fresh f
      | inr a ↦ elim (fresh-or-held (is_empty v.held) v.trail.fresh (written-because (is_outside is_slash v) (is_empty v.held && not v.trail.fresh) w out)) [
        | inl i ↦ held-begins-none x v.held b a i
        | inr f ↦ fresh f
      ]
    ] in
    behind-slash inside v b t p p (point_of (feed_script v b)) (slash-outcome x v.held b (point_of v) e none) refl e
    (ap (λ (bs : List ℕ). read_in_page inside (bs ++ b ∷ []) p) (no-waiting (waiting_slash v) w))
    h.written n (slash-by inside v b t p (ap is_commented e) h.written n)

-- A slash that waits: it begins a comment, or is written before the byte.
line-leads : (s : Sense) → point_after [] [] (Slash s) (class_of 47) 47 ≡ point [] (LineComment s)
unfolding class_of released
line-leads sense.Re = refl
line-leads sense.Div = refl
line-leads sense.Brace = refl

line-tells : (s : Sense) (t : List ScriptEvent) → told_after [] [] (Slash s) (class_of 47) 47 t ≡ t
unfolding class_of released
line-tells sense.Re t = refl
line-tells sense.Div t = refl
line-tells sense.Brace t = refl

opens-line : (fs held : List ℕ) (a : At) (s : Sense) → fs ≡ [] → held ≡ [] → a ≡ Slash s → point_after fs held a (class_of 47) 47 ≡ point [] (LineComment s)
opens-line fs held a s e f g = rw (e, f, g) (line-leads s)

opens-line-told : (fs held : List ℕ) (a : At) (s : Sense) (t : List ScriptEvent) → fs ≡ [] → held ≡ [] → a ≡ Slash s → told_after fs held a (class_of 47) 47 t ≡ t
opens-line-told fs held a s t e f g = rw (e, f, g) (line-tells s t)

point-stands : {E : Type 0} (inside : ScriptEvent → E) (q : ScriptPoint) (fs : List ℕ) (a : At) (v : ScriptState) (t : List E) (p : PageScript E) → q ≡ point fs a → ScriptStandsAt fs a E inside v t p
    → ScriptStandsAt q.literals q.at E inside v t p
point-stands {E} inside q fs a v t p e h = subst (λ (x : ScriptPoint). ScriptStandsAt x.literals x.at E inside v t p) (sym e) h

hides-line : (v : ScriptState) (b : ℕ) (s : Sense) → point_of v ≡ point [] (LineComment s) → waits_behind v b ≡ true
hides-line v b s e = or_right (b == 47 && is_outside is_slash v) _ (or_left (is_outside is_line v) _ (ap (λ (q : ScriptPoint). is_empty q.literals && is_line q.at) e))

hides-block : (v : ScriptState) (b : ℕ) (s : Sense) (star : Bool) → point_of v ≡ point [] (BlockComment s star) → waits_behind v b ≡ true
hides-block v b s star e =
    or_right (b == 47 && is_outside is_slash v) _ (or_right (is_outside is_line v) _ (ap (λ (q : ScriptPoint). is_empty q.literals && is_block q.at) e))

comment-opens : {E : Type 0} (inside : ScriptEvent → E) (v : ScriptState) (b : ℕ) (s : Sense) (a : At) (t : List E) (p : PageScript E) → point_of (feed_script v b) ≡ point [] a
    → script_emits v b [] ≡ [] → waits_behind (feed_script v b) b ≡ true → is_commented (kind v.literals v.at) ≡ false
    → ((u : ScriptState) → ScriptStandsAt [] a E inside u t p) → Stepped inside v b t p
comment-opens {E} inside v b s a t p e f w c h =
    let u = feed_script v b in
    subst (λ (bs : List ℕ). ScriptStands E inside u (told_inside inside (script_emits v b []) t) (read_in_page inside bs p)) (sym (written-none v b c w))
    (subst (λ (es : List ScriptEvent). ScriptStands E inside u (told_inside inside es t) p) (sym f) (point-stands inside (point_of u) [] a u t p e (h u)))

waits-held : (o h f : Bool) → not (is_empty (if o && (h && f) then codes "/" else [])) ≡ true → h ≡ true
waits-held true true f e = refl
waits-held true false f e = absurd (true≢false (sym e))
waits-held false h f e = absurd (true≢false (sym e))

empty-none : (held : List ℕ) → is_empty held ≡ true → held ≡ []
empty-none [] e = refl
empty-none (h ∷ held) e = absurd (true≢false (sym e))

waits-written : (o h f : Bool) → not (is_empty (if o && (h && f) then codes "/" else [])) ≡ true → (if o && (h && f) then codes "/" else []) ≡ codes "/"
waits-written true true true e = refl
waits-written true true false e = absurd (true≢false (sym e))
waits-written true false f e = absurd (true≢false (sym e))
waits-written false h f e = absurd (true≢false (sym e))

waiting-slash-byte : {E : Type 0} (inside : ScriptEvent → E) (v : ScriptState) (b : ℕ) (t : List E) (p : PageScript E) (s : Sense) → v.literals ≡ [] → v.at ≡ Slash s
    → not (is_empty (waiting_slash v)) ≡ true → ScriptSlashWaits E inside s v t p → script_refuses true v b ≡ None → Stepped inside v b t p
waiting-slash-byte {E} inside v b t p s o at w h n =
    let held = empty-none v.held (waits-held (is_outside is_slash v) (is_empty v.held) (not v.trail.fresh) w) in
    let slash = waits-written (is_outside is_slash v) (is_empty v.held) (not v.trail.fresh) w in
    let e : kind v.literals v.at ≡ AtSlash = rw (o, at) refl in
    let q = read_in_page inside (codes "/") p in
    let line = λ (c : ℕ) (g : c ≡ 47). subst (λ (x : ℕ). Stepped inside v x t p) (sym g)
    (let l = opens-line v.literals v.held v.at s o held at in
    comment-opens inside v 47 s (LineComment s) t p l (opens-line-told v.literals v.held v.at s [] o held at) (hides-line (feed_script v 47) 47 s l) (ap is_commented e) (λ u. h.comment)) in
    let block = λ (c : ℕ) (g : c ≡ 42). subst (λ (x : ℕ). Stepped inside v x t p) (sym g)
    (let l = opens-comment v.literals v.held v.at s o held at in
    comment-opens inside v 42 s (BlockComment s false) t p l (opens-told v.literals v.held v.at s [] o held at) (hides-block (feed_script v 42) 42 s false l) (ap is_commented e) (λ u. h.comment)) in
    elim (cases_Bool (b == 47)) [
      | inl f ↦ line b (eqb-true b 47 f)
      | inr f ↦ elim (cases_Bool (b == 42)) [
        | inl g ↦ block b (eqb-true b 42 g)
        | inr g ↦
            behind-slash inside v b t p q (point_of (feed_script v b))
            (slash-outcome (tells_white_apart v.at) v.held b (point_of v) e (begins-none (tells_white_apart v.at) v.held b held f g)) refl e
            (ap (λ (bs : List ℕ). read_in_page inside (bs ++ b ∷ []) p) slash)
            h.as_is n (λ i j. line b i)
      ]
    ]

-- Each byte.
abbrev state_at : List ℕ → At → List ℕ → Trail → ScriptState
state_at fs a held trail = record { literals = fs; at = a; held = held; trail = trail }

slash-byte : {E : Type 0} (inside : ScriptEvent → E) (x : Bool) (s : Sense) (held : List ℕ) (trail : Trail) (b : ℕ) (t : List E) (p : PageScript E)
    → not (is_empty (waiting_slash (state_at [] (Slash s) held trail))) ≡ x → ScriptStandsAtSlash x E inside s (state_at [] (Slash s) held trail) t p
    → script_refuses true (state_at [] (Slash s) held trail) b ≡ None → Stepped inside (state_at [] (Slash s) held trail) b t p
slash-byte inside true s held trail b t p w h n = waiting-slash-byte inside (state_at [] (Slash s) held trail) b t p s refl refl w h n
slash-byte inside false s held trail b t p w h n = written-slash-byte inside (state_at [] (Slash s) held trail) b t p refl w h n

pub byte-at : {E : Type 0} (inside : ScriptEvent → E) (fs : List ℕ) (a : At) (held : List ℕ) (trail : Trail) (b : ℕ) (t : List E) (p : PageScript E)
    → ScriptStandsAt fs a E inside (state_at fs a held trail) t p → script_refuses true (state_at fs a held trail) b ≡ None → Stepped inside (state_at fs a held trail) b t p
byte-at inside [] (Slash s) held trail b t p h n = slash-byte inside _ s held trail b t p refl h n
byte-at inside [] (LineComment s) held trail b t p h n = line-byte inside s held trail b t p h
byte-at inside [] (BlockComment s star) held trail b t p h n = block-byte inside s star held trail b t p h
byte-at inside [] TooDeep held trail b t p h n = absurd h
byte-at inside (m ∷ fs) TooDeep held trail b t p h n = deep-byte inside (state_at (m ∷ fs) TooDeep held trail) b t p refl
byte-at inside [] a held trail b t p h n = elsewhere-byte inside (state_at [] a held trail) b t p refl h n
byte-at inside (m ∷ fs) a held trail b t p h n = elsewhere-byte inside (state_at (m ∷ fs) a held trail) b t p refl h n

-- The end of a node.
cut-alike : {E : Type 0} (v : ScriptState) (t : List E) (p : PageScript E) → ScriptStandsAlike E v t p → ScriptStandsAlike E (script_after_cut v) t p
cut-alike v t p h = record { alike = scripts-keep.after_cut v p.state h.alike; told = h.told }

fresh-none : (v : ScriptState) → not (is_empty (waiting_slash (script_after_cut v))) ≡ false
fresh-none v = rw (and_right (is_empty v.held) false refl, and_right (is_outside is_slash v) false refl) refl

code-told : (s : Sense) → script_emits (code_behind s) 47 [] ≡ []
unfolding class_of released
code-told s = refl

code-before : (s : Sense) → IsBeforeSlash s (code_behind s)
unfolding class_of released
code-before s = refl

pub code-beside : {E : Type 0} (inside : ScriptEvent → E) (s : Sense) (t : List E) (p : PageScript E) → ScriptStandsAlike E (code_behind s) t p → ScriptStandsBeside E inside s t p
code-beside {E} inside s t p h =
    subst (λ (es : List ScriptEvent). ScriptStandsBeside E inside s (told_inside inside es t) p) (code-told s)
    (slash-beside inside s (code_behind s) t p (alike-same (code_behind s) t p refl h) (code-before s))

pub slash-cut : {E : Type 0} (inside : ScriptEvent → E) (x : Bool) (s : Sense) (held : List ℕ) (trail : Trail) (t : List E) (p : PageScript E)
    → not (is_empty (waiting_slash (state_at [] (Slash s) held trail))) ≡ x → ScriptStandsAtSlash x E inside s (state_at [] (Slash s) held trail) t p
    → ScriptStandsAlike E (state_at [] (Slash s) held trail) t (read_in_page inside (waiting_slash (state_at [] (Slash s) held trail)) p)
slash-cut {E} inside true s held trail t p w h =
    let v = state_at [] (Slash s) held trail in
    subst (λ (bs : List ℕ). ScriptStandsAlike E v t (read_in_page inside bs p)) (sym (waits-written true (is_empty held) (not trail.fresh) w)) h.as_is
slash-cut {E} inside false s held trail t p w h =
    let v = state_at [] (Slash s) held trail in
    subst (λ (bs : List ℕ). ScriptStandsAlike E v t (read_in_page inside bs p)) (sym (no-waiting (waiting_slash v) w)) h.written

pub cut-at : {E : Type 0} (inside : ScriptEvent → E) (fs : List ℕ) (a : At) (held : List ℕ) (trail : Trail) (t : List E) (p : PageScript E) → ScriptStandsAt fs a E inside (state_at fs a held trail) t p
    → ScriptStandsAt fs a E inside (script_after_cut (state_at fs a held trail)) t (read_in_page inside (script_written_at_cut (state_at fs a held trail)) p)
cut-at {E} inside [] (Slash s) held trail t p h =
    let v = state_at [] (Slash s) held trail in
    let q = read_in_page inside (waiting_slash v) p in
    subst (λ (x : Bool). ScriptStandsAtSlash x E inside s (script_after_cut v) t q) (sym (fresh-none v))
    (record { written = cut-alike v t q (slash-cut inside _ s held trail t p refl h); because = inl refl })
cut-at inside [] (LineComment s) held trail t p h = h
cut-at inside [] (BlockComment s star) held trail t p h = code-beside inside s t (read_in_page inside (blank_of trail.lines) p) (behind-blank inside s trail.lines t p h)
cut-at inside [] TooDeep held trail t p h = absurd h
cut-at inside (n ∷ fs) TooDeep held trail t p h = tt
cut-at inside [] a held trail t p h = cut-alike (state_at [] a held trail) t p h
cut-at inside (n ∷ fs) a held trail t p h = cut-alike (state_at (n ∷ fs) a held trail) t p h

-- The end of the script.
alike-ends : {E : Type 0} (inside : ScriptEvent → E) (v : ScriptState) (t : List E) (p : PageScript E) → ScriptStandsAlike E v t p
    → told_inside inside (script_ends p.state []) p.told ≡ told_inside inside (script_ends v []) t
alike-ends inside v t p h = ap₂ (told_inside inside) (scripts-keep.ends v p.state [] h.alike) h.told

line-ends : (held : List ℕ) (s : Sense) (trail : Trail) → script_ends (state_at [] (LineComment s) held trail) [] ≡ []
line-ends held s trail =
    ap (λ (q : ScriptPoint). tells_end q.at (tells_held_slash q.literals q.at (tells_all (classed_as class.Letter held) (point [] (LineComment s)) []))) (letters-stay held s)
    ∙ letters-silent held s []

block-ends : (held : List ℕ) (s : Sense) (star : Bool) (trail : Trail) → script_ends (state_at [] (BlockComment s star) held trail) [] ≡ []
block-ends [] s star trail = refl
block-ends (h ∷ held) s true trail = block-ends held s false trail
block-ends (h ∷ held) s false trail = block-ends held s false trail

pub ends-at : {E : Type 0} (inside : ScriptEvent → E) (fs : List ℕ) (a : At) (held : List ℕ) (trail : Trail) (t : List E) (p : PageScript E) → ScriptStandsAt fs a E inside (state_at fs a held trail) t p
    → script_may_end (state_at fs a held trail) ≡ true
    → (let q = read_in_page inside (script_written_at_cut (state_at fs a held trail)) p in told_inside inside (script_ends q.state []) q.told ≡ told_inside inside (script_ends (state_at fs a held trail) []) t)
ends-at inside [] (Slash s) held trail t p h m =
    let v = state_at [] (Slash s) held trail in
    alike-ends inside v t (read_in_page inside (waiting_slash v) p) (slash-cut inside _ s held trail t p refl h)
ends-at inside [] (LineComment s) held trail t p h m = h.ends ∙ sym (ap (λ (es : List ScriptEvent). told_inside inside es t) (line-ends held s trail))
ends-at inside [] (BlockComment s star) held trail t p h m =
    alike-ends inside (code_behind s) t (read_in_page inside (blank_of trail.lines) p) (behind-blank inside s trail.lines t p h)
    ∙ sym (ap (λ (es : List ScriptEvent). told_inside inside es t) (block-ends held s star trail))
ends-at inside [] TooDeep held trail t p h m = absurd h
ends-at inside (n ∷ fs) TooDeep held trail t p h m = absurd (true≢false (sym m))
ends-at inside [] a held trail t p h m = alike-ends inside (state_at [] a held trail) t p h
ends-at inside (n ∷ fs) a held trail t p h m = alike-ends inside (state_at (n ∷ fs) a held trail) t p h

-- A hole in a comment.
block-hole : {E : Type 0} (inside : ScriptEvent → E) (held : List ℕ) (s : Sense) (star : Bool) (v : ScriptState) (t : List E) (p : PageScript E) → ScriptStandsBeside E inside s t p
    → (let q = points (classed_as class.Letter held) (point [] (BlockComment s star)) in ScriptStandsAt q.literals (hole_at (settled_at q.at)) E inside v t p)
block-hole inside [] s star v t p h = h
block-hole inside (b ∷ held) s true v t p h = block-hole inside held s false v t p h
block-hole inside (b ∷ held) s false v t p h = block-hole inside held s false v t p h

pub hole-at : {E : Type 0} (inside : ScriptEvent → E) (fs : List ℕ) (a : At) (held : List ℕ) (trail : Trail) (t : List E) (p : PageScript E) → ScriptStandsAt fs a E inside (state_at fs a held trail) t p
    → (is_outside is_line (state_at fs a held trail) || is_outside is_block (state_at fs a held trail)) ≡ true → ScriptStands E inside (script_after_hole (state_at fs a held trail)) t p
hole-at {E} inside [] (LineComment s) held trail t p h e =
    let v = script_after_hole (state_at [] (LineComment s) held trail) in
    subst (λ (q : ScriptPoint). ScriptStandsAt q.literals (hole_at (settled_at q.at)) E inside v t p) (sym (letters-stay held s)) h
hole-at inside [] (BlockComment s star) held trail t p h e = block-hole inside held s star (script_after_hole (state_at [] (BlockComment s star) held trail)) t p h
hole-at inside [] (Slash s) held trail t p h e = absurd (true≢false (sym e))
hole-at inside [] TooDeep held trail t p h e = absurd h
hole-at inside [] a held trail t p h e = absurd (true≢false (sym e))
hole-at inside (n ∷ fs) a held trail t p h e = absurd (true≢false (sym e))
