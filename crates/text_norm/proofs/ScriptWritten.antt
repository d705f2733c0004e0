-- What a byte of a script writes, where the path is in no comment: it is written, with a slash that has waited; or it is a slash that waits; or it opens a
-- comment, and the slash before it is not written.
use Rattle.std.proofs.Common.{◌≡◌, inl, inr, ℕ, ◌==◌, ◌||◌, ◌&&◌, not, if◌then◌else◌, Bool, true, false, codes, List, [], ◌∷◌, ◌++◌, None, refl, sym, ap, ap₂, ◌∙◌, subst, true≢false, arith}
use Rattle.std.proofs.lemmas.Bool.{and_left, and_right}
use Rattle.std.proofs.lemmas.Bool.Decides.{nat_tests}
use Rattle.js_lexer.proofs.PageScriptsStand.{at-slash, fresh-begins-none, fresh-or-held, held-begins-none, held-written, is_at_slash, is_commented, no-block, no-line, no-slash, no-waiting, none-waits, slash-outside, waits-by-slash, written-because, written-none, written-plain}
use Rattle.js_lexer.proofs.ScriptKinds.{PointKind, Elsewhere, AtSlash, Deep, by-class, is_asterisk_class, is_common, is_solidus_class, kind, kind_of}
use Rattle.js_lexer.proofs.ScriptReleases.{Release, AsLetters, HoldsByte, HoldsAll, AsSpaces, AsLineEnds, releases, Outcome, Goes, Sinks, Slashes, outcome, SlashOutcome, Leaves, Stays, begins_comment, slash-outcome, deep-stays}
use Rattle.js_lexer.proofs.WrittenKeeps.{read-slash}
use Rattle.js_lexer.specs.Classes.{class_of}
use Rattle.js_lexer.specs.Feeding.{points, tells_white_apart, read_at, feed_script, point_of}
use Rattle.js_lexer.specs.PageScripts.{PageScript, ScriptSlashStands, ScriptStands, ScriptStandsAt, ScriptStandsAtSlash}
use Rattle.js_lexer.specs.Refusals.{script_refuses}
use Rattle.js_lexer.specs.States.{At, Slash, LineComment, BlockComment, TooDeep, ScriptPoint, point, ScriptState}
use Rattle.js_lexer.specs.Steps.{next_slash}
use Rattle.js_lexer.specs.Trails.{is_empty}
use Rattle.js_lexer.specs.WhiteSpace.{ClassedByte, released, held_after}
use Rattle.js_lexer.specs.Written.{is_block, is_line, is_outside, is_slash, script_written, waiting_slash}
use Rattle.js_lexer.specs.declared.class.ScriptClass.{ScriptClass}
use Rattle.js_lexer.specs.declared.class.ScriptClass.TheVariants as class
use Rattle.js_lexer.specs.declared.sense.Sense.{Sense}
use Rattle.place_core.specs.page.Events.{InsideScript, LexEvent}
use Rattle.text_norm.specs.Standing.{in_script_comment, slash_waits}

-- the bytes that make a comment of a slash
abbrev pub is_opener : ℕ → Bool
is_opener b = b == 47 || b == 42

pub data WrittenByte (v : ScriptState) (b : ℕ) : Type 0 where
  IsWritten : script_written v b ≡ waiting_slash v ++ b ∷ [] → slash_waits (feed_script v b) ≡ false → in_script_comment (feed_script v b) ≡ false → WrittenByte v b
  Waits : b ≡ 47 → waiting_slash v ≡ [] → script_written v b ≡ [] → slash_waits (feed_script v b) ≡ true → in_script_comment (feed_script v b) ≡ false → WrittenByte v b
  Opens : slash_waits v ≡ true → is_opener b ≡ true → script_written v b ≡ [] → in_script_comment (feed_script v b) ≡ true → WrittenByte v b

no-comment : (v : ScriptState) → is_commented (kind v.literals v.at) ≡ false → in_script_comment v ≡ false
no-comment v e = rw (no-line v.literals v.at e, no-block v.literals v.at e) refl

not-waits : (v : ScriptState) → waiting_slash v ≡ [] → slash_waits v ≡ false
not-waits v e = ap (λ (bs : List ℕ). not (is_empty bs)) e

-- where a byte leads elsewhere
plain-shape : (v : ScriptState) (b : ℕ) (k : PointKind) → kind_of (point_of (feed_script v b)) ≡ k → is_at_slash k ≡ false → is_commented k ≡ false → is_commented (kind v.literals v.at) ≡ false → WrittenByte v b
plain-shape v b k e s c f =
    let u = feed_script v b in
    IsWritten (written-plain v b f (ap is_commented e ∙ c) (and_right (b == 47) _ (no-slash u.literals u.at (ap is_at_slash e ∙ s))))
    (not-waits u (none-waits u (ap is_at_slash e ∙ s))) (no-comment u (ap is_commented e ∙ c))

waits-shape : (v : ScriptState) (b : ℕ) → b ≡ 47 → kind_of (point_of (feed_script v b)) ≡ AtSlash → is_commented (kind v.literals v.at) ≡ false → waiting_slash v ≡ [] → WrittenByte v b
waits-shape v b g e f w = subst (WrittenByte v) (sym g) (slash-shape (subst (λ (c : ℕ). kind_of (point_of (feed_script v c)) ≡ AtSlash) g e))
  where
    slash-shape : kind_of (point_of (feed_script v 47)) ≡ AtSlash → WrittenByte v 47
    slash-shape e = (let u = feed_script v 47 in let c = at-slash u.literals u.at e in
        Waits refl w (written-none v 47 f (rw (slash-outside u.literals u.at c.sense c.outside c.at) refl))
        (ap (λ (bs : List ℕ). not (is_empty bs)) (waits-by-slash v c.sense c.outside c.at)) (no-comment u (ap is_commented e)))

outcome-shape : (v : ScriptState) (b : ℕ) (k : PointKind) → Outcome b k → kind_of (point_of (feed_script v b)) ≡ k → is_commented (kind v.literals v.at) ≡ false → (b ≡ 47 → waiting_slash v ≡ []) → WrittenByte v b
outcome-shape v b k Goes e f w = plain-shape v b Elsewhere e refl refl f
outcome-shape v b k Sinks e f w = plain-shape v b Deep e refl refl f
outcome-shape v b k (Slashes g) e f w = waits-shape v b g e f (w g)

-- behind a slash
behind-shape : (v : ScriptState) (b : ℕ) (x : ScriptPoint) → SlashOutcome b (point_of v) (feed_script v b).held x → point_of (feed_script v b) ≡ x → kind v.literals v.at ≡ AtSlash
    → (b ≡ 47 → waiting_slash v ≡ []) → WrittenByte v b
behind-shape v b x (Leaves y o) e f w = outcome-shape v b (kind_of y) o (ap kind_of e) (ap is_commented f) w
behind-shape v b x (Stays g i) e f w =
    let u = feed_script v b in
    let no : (b == 47) ≡ false = grind (arith, nat_tests) in
    let here = ap kind_of e ∙ f in
    IsWritten (written-plain v b (ap is_commented f) (ap is_commented here) (and_left (b == 47) _ no)) (held-written u i) (no-comment u (ap is_commented here))

comment-next : (s : Sense) (c : ScriptClass) (b : ℕ) → (if is_solidus_class c then true else is_asterisk_class c) ≡ true → is_commented (kind_of (next_slash s c b [])) ≡ true
comment-next s class.Solidus b e = refl
comment-next s class.Asterisk b e = refl
comment-next s c b e = absurd (true≢false (sym e))

or-comes : (x y : Bool) → y ≡ true → (x || y) ≡ true
or-comes true y e = refl
or-comes false y e = e

opener-class : (c : ScriptClass) → is_common c ≡ true → (if is_solidus_class c then true else is_asterisk_class c) ≡ true → ⊥
opener-class class.Solidus e h = true≢false (sym e)
opener-class class.Asterisk e h = true≢false (sym e)
opener-class c e h = true≢false (sym h)

opener-of : (b : ℕ) → (if is_solidus_class (class_of b) then true else is_asterisk_class (class_of b)) ≡ true → is_opener b ≡ true
opener-of b = by-class (λ c. (if is_solidus_class c then true else is_asterisk_class c) ≡ true → is_opener b ≡ true) b
    (λ e h. absurd (true≢false (sym h)))
    (λ e h. rw e refl)
    (λ e h. or-comes (b == 47) (b == 42) e)
    (λ c e h. absurd (opener-class c e h))

release-opener : (b : ℕ) (xs : List ClassedByte) (after : List ℕ) → Release [] b xs after → begins_comment xs ≡ true → is_opener b ≡ true
release-opener b xs after AsLetters e = opener-of b e
release-opener b xs after (HoldsByte g) e = absurd (true≢false (sym e))
release-opener b xs after (HoldsAll g) e = absurd (true≢false (sym e))
release-opener b xs after (AsSpaces g) e = absurd (true≢false (sym e))
release-opener b xs after (AsLineEnds g) e = absurd (true≢false (sym e))

opener-by : (x : Bool) (held : List ℕ) (b : ℕ) → held ≡ [] → begins_comment (read_at x held (class_of b) b) ≡ true → is_opener b ≡ true
opener-by true held b h e = release-opener b (released [] b) (held_after [] b) (releases [] b) (subst (λ (y : List ℕ). begins_comment (released y b) ≡ true) h e)
opener-by false held b h e = opener-of b e

release-opens : (s : Sense) (b : ℕ) (xs : List ClassedByte) (after : List ℕ) → Release [] b xs after → begins_comment xs ≡ true → is_commented (kind_of (points xs (point [] (Slash s)))) ≡ true
release-opens s b xs after AsLetters e = comment-next s (class_of b) b e
release-opens s b xs after (HoldsByte g) e = absurd (true≢false (sym e))
release-opens s b xs after (HoldsAll g) e = absurd (true≢false (sym e))
release-opens s b xs after (AsSpaces g) e = absurd (true≢false (sym e))
release-opens s b xs after (AsLineEnds g) e = absurd (true≢false (sym e))

opens-by : (x : Bool) (held : List ℕ) (s : Sense) (b : ℕ) → held ≡ [] → begins_comment (read_at x held (class_of b) b) ≡ true
    → is_commented (kind_of (points (read_at x held (class_of b) b) (point [] (Slash s)))) ≡ true
opens-by true held s b h e =
    subst (λ (y : List ℕ). begins_comment (released y b) ≡ true → is_commented (kind_of (points (released y b) (point [] (Slash s)))) ≡ true) (sym h)
    (λ g. release-opens s b (released [] b) (held_after [] b) (releases [] b) g) e
opens-by false held s b h e = comment-next s (class_of b) b e

commented : (fs : List ℕ) (a : At) → is_commented (kind fs a) ≡ true → ((is_empty fs && is_line a) || (is_empty fs && is_block a)) ≡ true
commented [] (LineComment s) e = refl
commented [] (BlockComment s star) e = refl
commented [] (Slash s) e = absurd (true≢false (sym e))
commented [] TooDeep e = absurd (true≢false (sym e))
commented [] a e = absurd (true≢false (sym e))
commented (n ∷ fs) TooDeep e = absurd (true≢false (sym e))
commented (n ∷ fs) a e = absurd (true≢false (sym e))

held-if-waits : (x y f : Bool) → not (is_empty (if x && (y && not f) then codes "/" else [])) ≡ true → y ≡ true
held-if-waits true true f e = refl
held-if-waits true false f e = absurd (true≢false (sym e))
held-if-waits false y f e = absurd (true≢false (sym e))

empty-is : (bs : List ℕ) → is_empty bs ≡ true → bs ≡ []
empty-is [] e = refl
empty-is (b ∷ bs) e = absurd (true≢false (sym e))

slash-opens : (x : Bool) (held : List ℕ) → held ≡ [] → begins_comment (read_at x held (class_of 47) 47) ≡ true
slash-opens true held h = ap begins_comment (ap (λ (y : List ℕ). read_at true y (class_of 47) 47) h ∙ read-slash true [])
slash-opens false held h = ap begins_comment (ap (λ (y : List ℕ). read_at false y (class_of 47) 47) h ∙ read-slash false [])

waiting-by : (v : ScriptState) (b : ℕ) (o : Bool) → begins_comment (read_at (tells_white_apart v.at) v.held (class_of b) b) ≡ o → kind v.literals v.at ≡ AtSlash → slash_waits v ≡ true → WrittenByte v b
waiting-by v b true o e w =
    let u = feed_script v b in
    let c = at-slash v.literals v.at e in
    let none = empty-is v.held (held-if-waits (is_outside is_slash v) (is_empty v.held) v.trail.fresh w) in
    let there : is_commented (kind u.literals u.at) ≡ true = ap (λ (p : ScriptPoint). is_commented (kind_of (points (read_at (tells_white_apart v.at) v.held (class_of b) b) p))) (ap₂ point c.outside c.at) ∙ opens-by (tells_white_apart v.at) v.held c.sense b none o in
    let more = commented u.literals u.at there in
    Opens w (opener-by (tells_white_apart v.at) v.held b none o) (written-none v b (ap is_commented e) (or-comes (b == 47 && is_outside is_slash u) _ more)) more
waiting-by v b false o e w =
    let none = empty-is v.held (held-if-waits (is_outside is_slash v) (is_empty v.held) v.trail.fresh w) in
    behind-shape v b (point_of (feed_script v b)) (slash-outcome (tells_white_apart v.at) v.held b (point_of v) e o) refl e
    (λ g. absurd (true≢false (sym (slash-opens (tells_white_apart v.at) v.held none) ∙ ap (λ (c : ℕ). begins_comment (read_at (tells_white_apart v.at) v.held (class_of c) c)) (sym g) ∙ o)))

written-slash-shape : (v : ScriptState) (b : ℕ) (t : List LexEvent) (p : PageScript LexEvent) → kind v.literals v.at ≡ AtSlash → not (is_empty (waiting_slash v)) ≡ false
    → ScriptSlashStands LexEvent v t p → script_refuses true v b ≡ None → WrittenByte v b
written-slash-shape v b t p e w h n =
    let c = at-slash v.literals v.at e in
    let out = slash-outside v.literals v.at c.sense c.outside c.at in
    let x = tells_white_apart v.at in
    let fresh = λ (f : v.trail.fresh ≡ true). fresh-begins-none v b c.sense c.at f n in
    let none : begins_comment (read_at x v.held (class_of b) b) ≡ false = elim h.because [
      | inl f ↦ fresh f
      | inr a ↦ elim (fresh-or-held (is_empty v.held) v.trail.fresh (written-because (is_outside is_slash v) (is_empty v.held && not v.trail.fresh) w out)) [
        | inl i ↦ held-begins-none x v.held b a i
        | inr f ↦ fresh f
      ]
    ] in
    behind-shape v b (point_of (feed_script v b)) (slash-outcome x v.held b (point_of v) e none) refl e (λ g. no-waiting (waiting_slash v) w)

slash-shapes : (v : ScriptState) (b : ℕ) (t : List LexEvent) (p : PageScript LexEvent) (s : Sense) (w : Bool) → slash_waits v ≡ w → kind v.literals v.at ≡ AtSlash
    → ScriptStandsAtSlash w LexEvent InsideScript s v t p → script_refuses true v b ≡ None → WrittenByte v b
slash-shapes v b t p s true w e h n = waiting-by v b (begins_comment (read_at (tells_white_apart v.at) v.held (class_of b) b)) refl e w
slash-shapes v b t p s false w e h n = written-slash-shape v b t p e w h n

elsewhere-shape : (v : ScriptState) (b : ℕ) → kind v.literals v.at ≡ Elsewhere → WrittenByte v b
elsewhere-shape v b e =
    outcome-shape v b _ (outcome (tells_white_apart v.at) v.held b (point_of v) e) refl (ap is_commented e) (λ g. none-waits v (ap is_at_slash e))

deep-shape : (v : ScriptState) (b : ℕ) → kind v.literals v.at ≡ Deep → WrittenByte v b
deep-shape v b e = plain-shape v b Deep (deep-stays (read_at (tells_white_apart v.at) v.held (class_of b) b) (point_of v) e) refl refl (ap is_commented e)

by-point : (fs : List ℕ) (a : At) (v : ScriptState) (b : ℕ) (t : List LexEvent) (p : PageScript LexEvent) → v.literals ≡ fs → v.at ≡ a → in_script_comment v ≡ false
    → ScriptStandsAt fs a LexEvent InsideScript v t p → script_refuses true v b ≡ None → WrittenByte v b
by-point [] (Slash s) v b t p e f c h n = slash-shapes v b t p s (slash_waits v) refl (ap₂ kind e f) h n
by-point [] (LineComment s) v b t p e f c h n = absurd (true≢false (sym (ap₂ (λ (gs : List ℕ) (d : At). (is_empty gs && is_line d) || (is_empty gs && is_block d)) e f) ∙ c))
by-point [] (BlockComment s star) v b t p e f c h n = absurd (true≢false (sym (ap₂ (λ (gs : List ℕ) (d : At). (is_empty gs && is_line d) || (is_empty gs && is_block d)) e f) ∙ c))
by-point [] TooDeep v b t p e f c h n = absurd h
by-point [] a v b t p e f c h n = elsewhere-shape v b (ap₂ kind e f)
by-point (m ∷ fs) TooDeep v b t p e f c h n = deep-shape v b (ap₂ kind e f)
by-point (m ∷ fs) a v b t p e f c h n = elsewhere-shape v b (ap₂ kind e f)

pub written-shape : (v : ScriptState) (b : ℕ) (t : List LexEvent) (p : PageScript LexEvent) → ScriptStands LexEvent InsideScript v t p → script_refuses true v b ≡ None
    → in_script_comment v ≡ false → WrittenByte v b
written-shape v b t p h n c = by-point v.literals v.at v b t p refl refl c h n
