-- Where a slash may begin a comment, a space and each end of a line lead a page to code behind that comment.
use Rattle.std.proofs.Common.{◌≡◌, inl, ℕ, ◌&&◌, nat_eq, zero, suc, not, Bool, true, false, encode_utf8, length, take, All, List, [], ◌∷◌, ◌++◌, append-nil, refl, sym, ap, ap₂, ◌∙◌, true≢false}
use Rattle.std.proofs.lemmas.Bool.{and_left, and_right, or_from}
use Rattle.std.proofs.lemmas.List.Elements.{All-cons, All-nil}
use Rattle.std.specs.Cmp.Lexicographic.{pointwise}
use Rattle.std.specs.List.{list_all}
use Rattle.js_lexer.specs.Alike.{HaveSameEscape, IsSame, is_open_brace}
use Rattle.js_lexer.specs.Classes.{class_of}
use Rattle.js_lexer.specs.Emits.{tells}
use Rattle.js_lexer.specs.Events.{ScriptEvent}
use Rattle.js_lexer.specs.Feeding.{points, tells_all, tells_white_apart, tells_end, tells_held_slash, read_at, held_at, feed_script, script_emits, script_ends, point_of}
use Rattle.js_lexer.specs.Holes.{paged, as_page}
use Rattle.js_lexer.specs.PageScripts.{PageScript, page_script, told_inside, read_in_page, ScriptStandsAlike, code_behind, ScriptStandsBeside}
use Rattle.js_lexer.specs.States.{ScriptEscape, At, Code, Word, Number, Pluses, Minuses, Slash, LineComment, BlockComment, InString, InRegexp, InTemplate, TooDeep, ScriptPoint, point, ScriptState}
use Rattle.js_lexer.specs.Steps.{is_taken_in_script, is_taken_in_string, next_regexp, next_script_string, next_template, script_next}
use Rattle.js_lexer.specs.Trails.{brace_after, escape_after}
use Rattle.js_lexer.specs.WhiteSpace.{ClassedByte, classed, classed_as, released, held_after, IsOther, are_one_of, begin_one_of, past_ascii, separators, spaces}
use Rattle.js_lexer.specs.Written.{is_slash}
use Rattle.js_lexer.specs.WrittenLaws.{IsBeforeSlash}
use Rattle.js_lexer.specs.declared.class.ScriptClass.TheVariants as class
use Rattle.js_lexer.specs.declared.sense.Sense.{Sense}
use Rattle.js_lexer.proofs.Keeps.{escape-feeds, escape-paged, brace-paged, same-ends, same-feeds, same-told}
use Rattle.js_lexer.proofs.ScriptReleases.{points-last}
use Rattle.js_lexer.proofs.WrittenKeeps.{blank_byte, blank-leads, blank-tells, none-held, read-slash, slash-blank, tells-end}

-- A page and a path in the same state, which have told the same.
pub record SameInPage (E : Type 0) (v : ScriptState) (t : List E) (p : PageScript E) : Type 0 where
  pub escape : HaveSameEscape v p.state
  pub same : IsSame v p.state
  pub told : p.told ≡ t

pub same-alike : {E : Type 0} (v : ScriptState) (t : List E) (p : PageScript E) → SameInPage E v t p → ScriptStandsAlike E v t p
same-alike v t p h = record { alike = (h.escape, inl h.same); told = h.told }

pub same-step : {E : Type 0} (inside : ScriptEvent → E) (v : ScriptState) (b : ℕ) (t : List E) (p : PageScript E) → SameInPage E v t p
    → SameInPage E (feed_script v b) (told_inside inside (script_emits v b []) t) (read_in_page inside (b ∷ []) p)
same-step inside v b t p h =
    let s = same-feeds v p.state (class_of b) b h.same in
    record {
      escape = escape-feeds v p.state (class_of b) b h.escape s;
      same = s;
      told = ap₂ (told_inside inside) (same-told v.literals p.state.literals v.held p.state.held v.at p.state.at (class_of b) b [] h.same.literals h.same.held h.same.at) h.told;
    }

pub same-steps : {E : Type 0} (inside : ScriptEvent → E) (bs : List ℕ) (v : ScriptState) (t : List E) (p : PageScript E) → SameInPage E v t p
    → (let r = read_in_page inside bs (page_script v t) in SameInPage E r.state r.told (read_in_page inside bs p))
same-steps inside [] v t p h = h
same-steps inside (b ∷ bs) v t p h =
    same-steps inside bs (feed_script v b) (told_inside inside (script_emits v b []) t) (read_in_page inside (b ∷ []) p) (same-step inside v b t p h)

-- Where the path comes to code with nothing held back, the page stands behind a comment.
code-escape : (a : At) (s : Sense) (m : List ℕ) (b : ℕ) → as_page a ≡ Code (paged s) → escape_after a m b ≡ []
code-escape a s m b e = escape-paged a m b ∙ rw e refl

code-brace : (a : At) (s : Sense) (m : List ℕ) (n b : ℕ) → as_page a ≡ Code (paged s) → brace_after a m n b ≡ 0
code-brace a s m n b e = brace-paged a m n b ∙ rw e refl

pub code-stands : {E : Type 0} (s : Sense) (v : ScriptState) (b : ℕ) (t : List E) (p : PageScript E) → SameInPage E (feed_script v b) t p → point_of (feed_script v b) ≡ point [] (Code s)
    → (feed_script v b).held ≡ [] → ScriptStandsAlike E (code_behind s) t p
code-stands s v b t p h e g =
    let u = feed_script v b in
    let at : as_page u.at ≡ Code (paged s) = ap (λ (q : ScriptPoint). as_page q.at) e in
    record {
      alike = (
        record {
          escape = h.escape.escape ∙ code-escape u.at s v.trail.escape b at;
          brace = h.escape.brace ∙ ap is_open_brace (code-brace u.at s v.trail.escape v.trail.brace b at);
        },
        inl (record { literals = h.same.literals ∙ ap (λ (q : ScriptPoint). q.literals) e; held = h.same.held ∙ g; at = h.same.at ∙ at }),
      );
      told = h.told;
    }

-- Where a slash would be one that may begin a comment, white space is told apart, and neither the slash nor the end of the script tells anything.
pub string-slash : (taken q : Bool) (e : ScriptEscape) (fs : List ℕ) → is_slash (next_script_string taken q e class.Solidus 47 fs).at ≡ false
string-slash true q e fs = refl
string-slash false true e fs = refl
string-slash false false e fs = refl

pub regexp-slash : (taken k : Bool) (e : ScriptEscape) (fs : List ℕ) → is_slash (next_regexp taken k e class.Solidus 47 fs).at ≡ false
regexp-slash true k e fs = refl
regexp-slash false true e fs = refl
regexp-slash false false e fs = refl

pub template-slash : (taken : Bool) (e : ScriptEscape) (d : Bool) (fs : List ℕ) → is_slash (next_template taken e d class.Solidus 47 fs).at ≡ false
template-slash true e d fs = refl
template-slash false e true fs = refl
template-slash false e false fs = refl

block-slash : (s : Sense) (star : Bool) (fs : List ℕ) → is_slash (script_next fs (BlockComment s star) class.Solidus 47).at ≡ false
block-slash s true fs = refl
block-slash s false fs = refl

pub record IsBeforeComment (fs : List ℕ) (a : At) : Type 0 where
  pub outside : fs ≡ []
  pub apart : tells_white_apart a ≡ true
  pub silent : (t : List ScriptEvent) → tells fs a class.Solidus 47 t ≡ t
  pub slash_silent : (t : List ScriptEvent) → tells_held_slash fs a t ≡ t
  pub end_silent : (t : List ScriptEvent) → tells_end a t ≡ t

no-slash : (a : At) (s : Sense) (p : ScriptPoint) → p ≡ point [] (Slash s) → is_slash p.at ≡ false → ⊥
no-slash a s p e f = true≢false (sym (ap (λ (q : ScriptPoint). is_slash q.at) e) ∙ f)

some-literal : (n : ℕ) (fs : List ℕ) → n ∷ fs ≡ [] → ⊥
some-literal n fs e = cc

pub before-comment : (fs : List ℕ) (a : At) (s : Sense) → script_next fs a class.Solidus 47 ≡ point [] (Slash s) → IsBeforeComment fs a
before-comment [] (Code r) s e = record { outside = refl; apart = refl; silent = λ t. refl; slash_silent = λ t. refl; end_silent = λ t. refl }
before-comment [] (Word w) s e = record { outside = refl; apart = refl; silent = λ t. refl; slash_silent = λ t. refl; end_silent = λ t. refl }
before-comment [] Number s e = record { outside = refl; apart = refl; silent = λ t. refl; slash_silent = λ t. refl; end_silent = λ t. refl }
before-comment [] (Pluses odd) s e = record { outside = refl; apart = refl; silent = λ t. refl; slash_silent = λ t. refl; end_silent = λ t. refl }
before-comment [] (Minuses odd) s e = record { outside = refl; apart = refl; silent = λ t. refl; slash_silent = λ t. refl; end_silent = λ t. refl }
before-comment (n ∷ fs) (Code r) s e = absurd (some-literal n fs (ap (λ (p : ScriptPoint). p.literals) e))
before-comment (n ∷ fs) (Word w) s e = absurd (some-literal n fs (ap (λ (p : ScriptPoint). p.literals) e))
before-comment (n ∷ fs) Number s e = absurd (some-literal n fs (ap (λ (p : ScriptPoint). p.literals) e))
before-comment (n ∷ fs) (Pluses odd) s e = absurd (some-literal n fs (ap (λ (p : ScriptPoint). p.literals) e))
before-comment (n ∷ fs) (Minuses odd) s e = absurd (some-literal n fs (ap (λ (p : ScriptPoint). p.literals) e))
before-comment fs (Slash r) s e = absurd (no-slash (Slash r) s _ e refl)
before-comment fs (LineComment r) s e = absurd (no-slash (LineComment r) s _ e refl)
before-comment fs (BlockComment r star) s e = absurd (no-slash (BlockComment r star) s _ e (block-slash r star fs))
before-comment fs (InString q i) s e = absurd (no-slash (InString q i) s _ e (string-slash (is_taken_in_string i 47) q i fs))
before-comment fs (InRegexp k i) s e = absurd (no-slash (InRegexp k i) s _ e (regexp-slash (is_taken_in_script i) k i fs))
before-comment fs (InTemplate i d) s e = absurd (no-slash (InTemplate i d) s _ e (template-slash (is_taken_in_script i) i d fs))
before-comment fs TooDeep s e = absurd (no-slash TooDeep s _ e refl)

both-not : (x y z : Bool) → (not x && (not y && z)) ≡ true → (x ≡ false) × (y ≡ false) × (z ≡ true)
both-not false false z e = (refl, refl, e)
both-not false true z e = absurd (true≢false (sym e))
both-not true y z e = absurd (true≢false (sym e))

and-both : (x y : Bool) → (x && y) ≡ true → (x ≡ true) × (y ≡ true)
and-both true y e = (refl, e)
and-both false y e = absurd (true≢false (sym e))

-- The first byte of U+2028 and U+2029 goes on with no character: it releases what is held back as letters, and is held back.
abbrev lacks : ℕ → List ℕ → Bool
lacks b [] = true
lacks b (c ∷ cs) = not (nat_eq b c) && (not (nat_eq c b) && lacks b cs)

abbrev lacks_behind : ℕ → List ℕ → Bool
lacks_behind b [] = true
lacks_behind b (c ∷ cs) = lacks b cs

lacks-parts : (b c : ℕ) (cs : List ℕ) → lacks b (c ∷ cs) ≡ true → (nat_eq b c ≡ false) × (nat_eq c b ≡ false) × (lacks b cs ≡ true)
lacks-parts b c cs e = both-not (nat_eq b c) (nat_eq c b) (lacks b cs) e

lacks-take : (b n : ℕ) (cs : List ℕ) → lacks b cs ≡ true → lacks b (take n cs) ≡ true
lacks-take b zero cs e = refl
lacks-take b (suc n) [] e = refl
lacks-take b (suc n) (c ∷ cs) e =
    let p = lacks-parts b c cs e in
    rw (p.0, p.1, lacks-take b n cs p.2) refl

pub behind-take : (b n : ℕ) (cs : List ℕ) → lacks_behind b cs ≡ true → lacks_behind b (take n cs) ≡ true
behind-take b zero cs e = refl
behind-take b (suc n) [] e = refl
behind-take b (suc n) (c ∷ cs) e = lacks-take b n cs e

run-differs : (b : ℕ) (hs cs : List ℕ) → lacks b cs ≡ true → pointwise nat_eq (hs ++ b ∷ []) cs ≡ false
run-differs b [] [] l = refl
run-differs b (h ∷ hs) [] l = refl
run-differs b [] (c ∷ cs) l = and_left (nat_eq b c) _ (lacks-parts b c cs l).0
run-differs b (h ∷ hs) (c ∷ cs) l = and_right (nat_eq h c) _ (run-differs b hs cs (lacks-parts b c cs l).2)

pub differs : (b h : ℕ) (hs cs : List ℕ) → lacks_behind b cs ≡ true → pointwise nat_eq (h ∷ (hs ++ b ∷ [])) cs ≡ false
differs b h hs [] l = refl
differs b h hs (c ∷ cs) l = and_right (nat_eq h c) _ (run-differs b hs cs l)

run-differs-back : (b : ℕ) (hs cs : List ℕ) → lacks b cs ≡ true → pointwise nat_eq cs (hs ++ b ∷ []) ≡ false
run-differs-back b [] [] l = refl
run-differs-back b (h ∷ hs) [] l = refl
run-differs-back b [] (c ∷ cs) l = and_left (nat_eq c b) _ (lacks-parts b c cs l).1
run-differs-back b (h ∷ hs) (c ∷ cs) l = and_right (nat_eq c h) _ (run-differs-back b hs cs (lacks-parts b c cs l).2)

differs-back : (b h : ℕ) (hs cs : List ℕ) → lacks_behind b cs ≡ true → pointwise nat_eq cs (h ∷ (hs ++ b ∷ [])) ≡ false
differs-back b h hs [] l = refl
differs-back b h hs (c ∷ cs) l = and_right (nat_eq c h) _ (run-differs-back b hs cs l)

none-of : (b h : ℕ) (hs characters : List ℕ) → list_all (λ c. lacks_behind b (encode_utf8 c)) characters ≡ true → are_one_of characters (h ∷ (hs ++ b ∷ [])) ≡ false
none-of b h hs [] l = refl
none-of b h hs (c ∷ cs) l = (let p = and-both _ _ l in or_from _ _ (differs-back b h hs (encode_utf8 c) p.0) (none-of b h hs cs p.1))

none-begun : (b h : ℕ) (hs characters : List ℕ) → list_all (λ c. lacks_behind b (encode_utf8 c)) characters ≡ true → begin_one_of characters (h ∷ (hs ++ b ∷ [])) ≡ false
none-begun b h hs [] l = refl
none-begun b h hs (c ∷ cs) l =
    let p = and-both _ _ l in
    or_from _ _ (differs b h hs (take (length (h ∷ (hs ++ b ∷ []))) (encode_utf8 c)) (behind-take b (length (h ∷ (hs ++ b ∷ []))) (encode_utf8 c) p.0)) (none-begun b h hs cs p.1)

past-other : (h : ℕ) (hs : List ℕ) → past_ascii (h ∷ (hs ++ 0xE2 ∷ [])) ≡ IsOther
unfolding lib.Utf8.encode
past-other h hs = rw (none-of 0xE2 h hs spaces refl, none-of 0xE2 h hs separators refl, none-begun 0xE2 h hs (spaces ++ separators) refl) refl

first-released : (held : List ℕ) → released held 0xE2 ≡ classed_as class.Letter held
unfolding released lib.Utf8.encode
first-released [] = refl
first-released (h ∷ hs) = rw (past-other h hs) (append-nil (classed_as class.Letter (h ∷ hs)))

first-held : (held : List ℕ) → held_after held 0xE2 ≡ 0xE2 ∷ []
unfolding held_after lib.Utf8.encode
first-held [] = refl
first-held (h ∷ hs) = rw (past-other h hs) refl

-- Where a slash would be one that may begin a comment, it is so behind what is held back, which is of letters.
pub record SlashComesFrom (s : Sense) (v : ScriptState) (p : ScriptPoint) : Type 0 where
  pub apart : tells_white_apart v.at ≡ true
  pub comes : script_next p.literals p.at class.Solidus 47 ≡ point [] (Slash s)

abbrev letters_point : ScriptState → ScriptPoint
letters_point v = points (classed_as class.Letter v.held) (point_of v)

pub slash-from : (x : Bool) (s : Sense) (v : ScriptState) → tells_white_apart v.at ≡ x → IsBeforeSlash s v → SlashComesFrom s v (letters_point v)
slash-from true s v a e = record {
  apart = a;
  comes =
      sym (points-last (classed_as class.Letter v.held) (classed class.Solidus 47) (point_of v))
      ∙ sym (ap (λ (xs : List ClassedByte). points xs (point_of v)) (read-slash true v.held))
      ∙ sym (ap (λ (x : Bool). points (read_at x v.held (class_of 47) 47) (point_of v)) a)
      ∙ e;
}
slash-from false s v a e =
    let g = sym (ap (λ (xs : List ClassedByte). points xs (point_of v)) (read-slash false v.held)) ∙ sym (ap (λ (x : Bool). points (read_at x v.held (class_of 47) 47) (point_of v)) a) ∙ e in
    absurd (true≢false (sym (before-comment v.literals v.at s g).apart ∙ a))

pub slash-told : (s : Sense) (v : ScriptState) (t : List ScriptEvent) → SlashComesFrom s v (letters_point v) → script_emits v 47 t ≡ tells_all (classed_as class.Letter v.held) (point_of v) t
slash-told s v t c =
    let p = letters_point v in
    ap (λ (x : Bool). tells_all (read_at x v.held (class_of 47) 47) (point_of v) t) c.apart
    ∙ ap (λ (xs : List ClassedByte). tells_all xs (point_of v) t) (read-slash true v.held)
    ∙ tells-end (classed_as class.Letter v.held) (classed class.Solidus 47) (point_of v) t
    ∙ (before-comment p.literals p.at s c.comes).silent (tells_all (classed_as class.Letter v.held) (point_of v) t)

pub slash-ends : (s : Sense) (v : ScriptState) → SlashComesFrom s v (letters_point v) → script_ends v [] ≡ script_emits v 47 []
slash-ends s v c =
    let p = letters_point v in
    let q = before-comment p.literals p.at s c.comes in
    let t = tells_all (classed_as class.Letter v.held) (point_of v) [] in
    q.end_silent (tells_held_slash p.literals p.at t) ∙ q.slash_silent t ∙ sym (slash-told s v [] c)

-- The three bytes of U+2028 and U+2029.
abbrev separator_end : Bool → ℕ
separator_end false = 0xA8
separator_end true = 0xA9

abbrev separator_lines : Bool → List ClassedByte
separator_lines l = classed class.LineEnd 0xE2 ∷ classed class.LineEnd 0x80 ∷ classed class.LineEnd (separator_end l) ∷ []

first-read : (x : Bool) (held : List ℕ) → x ≡ true → read_at x held (class_of 0xE2) 0xE2 ≡ classed_as class.Letter held
first-read x held e = rw e (first-released held)

first-holds : (x : Bool) (held : List ℕ) → x ≡ true → held_at x held 0xE2 ≡ 0xE2 ∷ []
first-holds x held e = rw e (first-held held)

second-read : (x : Bool) (held : List ℕ) → x ≡ true → held ≡ 0xE2 ∷ [] → read_at x held (class_of 0x80) 0x80 ≡ []
unfolding released lib.Utf8.encode
second-read x held e h = rw (e, h) refl

second-holds : (x : Bool) (held : List ℕ) → x ≡ true → held ≡ 0xE2 ∷ [] → held_at x held 0x80 ≡ 0xE2 ∷ 0x80 ∷ []
unfolding held_after lib.Utf8.encode
second-holds x held e h = rw (e, h) refl

third-read : (l x : Bool) (held : List ℕ) → x ≡ true → held ≡ 0xE2 ∷ 0x80 ∷ [] → read_at x held (class_of (separator_end l)) (separator_end l) ≡ separator_lines l
unfolding released lib.Utf8.encode
third-read false x held e h = rw (e, h) refl
third-read true x held e h = rw (e, h) refl

third-holds : (l x : Bool) (held : List ℕ) → x ≡ true → held ≡ 0xE2 ∷ 0x80 ∷ [] → held_at x held (separator_end l) ≡ []
unfolding held_after lib.Utf8.encode
third-holds false x held e h = rw (e, h) refl
third-holds true x held e h = rw (e, h) refl

lines-lead : (l : Bool) (s : Sense) (p : ScriptPoint) → script_next p.literals p.at class.Solidus 47 ≡ point [] (Slash s) → points (separator_lines l) p ≡ point [] (Code s)
lines-lead l s p e =
    ap (λ (q : ScriptPoint). points (classed class.LineEnd 0x80 ∷ classed class.LineEnd (separator_end l) ∷ []) q) (slash-blank p.literals p.at s true 0xE2 [] e).leads

lines-tell : (l : Bool) (s : Sense) (p : ScriptPoint) (t : List ScriptEvent) → script_next p.literals p.at class.Solidus 47 ≡ point [] (Slash s) → tells_all (separator_lines l) p t ≡ t
lines-tell l s p t e =
    let f = slash-blank p.literals p.at s true 0xE2 t e in
    ap (λ (q : ScriptPoint). tells_all (classed class.LineEnd 0x80 ∷ classed class.LineEnd (separator_end l) ∷ []) q (tells p.literals p.at class.LineEnd 0xE2 t)) f.leads
    ∙ f.tells
    ∙ (before-comment p.literals p.at s e).silent t

-- where they lead a path, and that they tell what a slash does
pub record SeparatorReads (s : Sense) (v : ScriptState) (l : Bool) : Type 0 where
  pub leads : point_of (feed_script (feed_script (feed_script v 0xE2) 0x80) (separator_end l)) ≡ point [] (Code s)
  pub held : (feed_script (feed_script (feed_script v 0xE2) 0x80) (separator_end l)).held ≡ []
  pub first : script_emits v 0xE2 [] ≡ script_emits v 47 []
  pub second : script_emits (feed_script v 0xE2) 0x80 [] ≡ []
  pub third : script_emits (feed_script (feed_script v 0xE2) 0x80) (separator_end l) [] ≡ []

pub separator-reads : (s : Sense) (v : ScriptState) (l : Bool) → IsBeforeSlash s v → SeparatorReads s v l
separator-reads s v l e =
    let c = slash-from (tells_white_apart v.at) s v refl e in
    let p = letters_point v in
    let one = feed_script v 0xE2 in
    let two = feed_script one 0x80 in
    let e1 : point_of one ≡ p = ap (λ (xs : List ClassedByte). points xs (point_of v)) (first-read (tells_white_apart v.at) v.held c.apart) in
    let h1 : one.held ≡ 0xE2 ∷ [] = first-holds (tells_white_apart v.at) v.held c.apart in
    let a1 : tells_white_apart one.at ≡ true = ap (λ (q : ScriptPoint). tells_white_apart q.at) e1 ∙ (before-comment p.literals p.at s c.comes).apart in
    let r2 = second-read (tells_white_apart one.at) one.held a1 h1 in
    let e2 : point_of two ≡ p = ap (λ (xs : List ClassedByte). points xs (point_of one)) r2 ∙ e1 in
    let h2 : two.held ≡ 0xE2 ∷ 0x80 ∷ [] = second-holds (tells_white_apart one.at) one.held a1 h1 in
    let a2 : tells_white_apart two.at ≡ true = ap (λ (q : ScriptPoint). tells_white_apart q.at) (e2 ∙ sym e1) ∙ a1 in
    let r3 = third-read l (tells_white_apart two.at) two.held a2 h2 in
    record {
      leads = ap (λ (xs : List ClassedByte). points xs (point_of two)) r3 ∙ ap (points (separator_lines l)) e2 ∙ lines-lead l s p c.comes;
      held = third-holds l (tells_white_apart two.at) two.held a2 h2;
      first = ap (λ (xs : List ClassedByte). tells_all xs (point_of v) []) (first-read (tells_white_apart v.at) v.held c.apart) ∙ sym (slash-told s v [] c);
      second = ap (λ (xs : List ClassedByte). tells_all xs (point_of one) []) r2;
      third = ap (λ (xs : List ClassedByte). tells_all xs (point_of two) []) r3 ∙ ap (λ (q : ScriptPoint). tells_all (separator_lines l) q []) e2 ∙ lines-tell l s p [] c.comes;
    }

with-told : {E : Type 0} (v : ScriptState) (u t : List E) (p : PageScript E) → SameInPage E v u p → u ≡ t → SameInPage E v t p
with-told v u t p h e = record { escape = h.escape; same = h.same; told = h.told ∙ e }

one-blank : {E : Type 0} (inside : ScriptEvent → E) (k l : Bool) (s : Sense) (v : ScriptState) (t : List E) (p : PageScript E) → SameInPage E v t p → IsBeforeSlash s v
    → ScriptStandsAlike E (code_behind s) (told_inside inside (script_emits v 47 []) t) (read_in_page inside (blank_byte k l ∷ []) p)
one-blank inside k l s v t p h e =
    let u = told_inside inside (script_emits v 47 []) t in
    let q = read_in_page inside (blank_byte k l ∷ []) p in
    code-stands s v (blank_byte k l) u q
    (with-told (feed_script v (blank_byte k l)) _ u q (same-step inside v (blank_byte k l) t p h) (ap (λ (es : List ScriptEvent). told_inside inside es t) (blank-tells k l s v [] e)))
    (blank-leads k l s v e) (none-held k l (tells_white_apart v.at) v.held)

three-blank : {E : Type 0} (inside : ScriptEvent → E) (l : Bool) (s : Sense) (v : ScriptState) (t : List E) (p : PageScript E) → SameInPage E v t p → IsBeforeSlash s v
    → ScriptStandsAlike E (code_behind s) (told_inside inside (script_emits v 47 []) t) (read_in_page inside (0xE2 ∷ 0x80 ∷ separator_end l ∷ []) p)
three-blank inside l s v t p h e =
    let c = separator-reads s v l e in
    let u = told_inside inside (script_emits v 47 []) t in
    let word = 0xE2 ∷ 0x80 ∷ separator_end l ∷ [] in
    let q = read_in_page inside word p in
    let two = feed_script (feed_script v 0xE2) 0x80 in
    code-stands s two (separator_end l) u q
    (with-told (feed_script two (separator_end l)) _ u q (same-steps inside word v t p h) (rw (c.third, c.second, c.first) refl))
    c.leads c.held

all-five : {X : Type 0} (P : X → Type 0) (a b c d e : X) → P a → P b → P c → P d → P e → All P (a ∷ b ∷ c ∷ d ∷ e ∷ [])
all-five P a b c d e p q r s t =
    All-cons P a (b ∷ c ∷ d ∷ e ∷ []) p (All-cons P b (c ∷ d ∷ e ∷ []) q (All-cons P c (d ∷ e ∷ []) r (All-cons P d (e ∷ []) s (All-cons P e [] t (All-nil P)))))

pub slash-beside : {E : Type 0} (inside : ScriptEvent → E) (s : Sense) (v : ScriptState) (t : List E) (p : PageScript E) → SameInPage E v t p → IsBeforeSlash s v
    → ScriptStandsBeside E inside s (told_inside inside (script_emits v 47 []) t) p
unfolding lib.Utf8.encode
slash-beside inside s v t p h e = record {
  blank =
      all-five (λ word. ScriptStandsAlike _ (code_behind s) (told_inside inside (script_emits v 47 []) t) (read_in_page inside word p)) _ _ _ _ _
      (one-blank inside false true s v t p h e) (one-blank inside true true s v t p h e) (one-blank inside true false s v t p h e)
      (three-blank inside false s v t p h e) (three-blank inside true s v t p h e);
  ends = ap₂ (told_inside inside) (same-ends v p.state [] h.same ∙ slash-ends s v (slash-from (tells_white_apart v.at) s v refl e)) h.told;
}
