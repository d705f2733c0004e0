-- What is written of a script in its element leads the page's reading where the path's leads. The script reads the same bytes in both, but for comments and
-- words (`js_lexer`). Here it is shown that HTML ends the element of the page where the path's ends, and reads no `<!--`.
use Rattle.std.proofs.Common.{◌≡◌, ℕ, ◌||◌, ◌&&◌, not, if◌then◌else◌, Bool, true, false, codes, List, [], ◌∷◌, ◌++◌, None, refl, sym, ap, ap₂, ◌∙◌, subst, true≢false}
use Rattle.js_lexer.proofs.CommentsStand.{EndsLine, LineFeed, CarriageReturn, LineSeparator, ParagraphSeparator, LineOutcome, LineWord, StaysInLine, block_state, line-outcome, line_state}
use Rattle.js_lexer.proofs.ScriptReleases.{releases}
use Rattle.js_lexer.specs.Classes as script
use Rattle.js_lexer.specs.Feeding.{feed_class, feed_script, script_emits}
use Rattle.js_lexer.specs.PageScripts.{PageScript, ScriptStands, ScriptStandsLaws, ScriptTakes, page_script}
use Rattle.js_lexer.specs.Refusals.{script_refuses}
use Rattle.js_lexer.specs.States.{At, LineComment, BlockComment, PartLines, HasLine, NoLineYet, ScriptPoint, Slash, Trail, ScriptState}
use Rattle.js_lexer.specs.Trails.{is_empty}
use Rattle.js_lexer.specs.WhiteSpace.{held_after, released}
use Rattle.js_lexer.specs.Written.{blank_of, is_block, is_line, is_outside, is_slash, only_line_ends, script_written, waiting_slash, written_between}
use Rattle.js_lexer.specs.declared.class.ScriptClass.{ScriptClass}
use Rattle.js_lexer.specs.declared.class.ScriptClass.TheVariants as class
use Rattle.js_lexer.specs.declared.sense.Sense.{Sense}
use Rattle.place_core.specs.page.Classes.{Class, Solidus, White, class_of}
use Rattle.place_core.specs.page.Contents.{Reads, is_name_of, may_be_name_of, script_step, step_end_name}
use Rattle.place_core.specs.page.Events.{InsideScript, LexEvent, told_in_script}
use Rattle.place_core.specs.page.States.{Pending, Nothing, PendingLess, LessAtCut, PendingName, PendingBang, PendingBangDash, PendingOpening}
use Rattle.place_core.specs.declared.element.Element.{Element}
use Rattle.text_norm.proofs.ScriptPages.{NoLess, goes-append, is_less_class, is_quiet, no-less, quiet-goes, read-page-append, read_page, white-goes}
use Rattle.text_norm.proofs.ScriptWritten.{IsWritten, Opens, Waits, WrittenByte, written-shape}
use Rattle.text_norm.specs.Standing.{PageGoes, StepGoes, behind_less, in_script_comment, is_whole_name, slash_waits}
use Rattle.text_norm.specs.Written.{path_script, script_bytes_out}

-- What the page has pending, by what it would have if it had read the path's bytes: the same; where a slash waits, before it; and in a comment no whole name.
abbrev pub RawBehind : (comment waits : Bool) → Element → (raw held : Pending) → Type 0
RawBehind true waits e raw held = is_whole_name e held ≡ false
RawBehind false true e raw held = (is_whole_name e held ≡ false) × PageGoes e held (codes "/") raw
RawBehind false false e raw held = held ≡ raw

record Landed (e : Element) (v : ScriptState) (raw : Pending) (out : List ℕ) (held : Pending) : Type 0 where
  there : Pending
  goes : PageGoes e held out there
  behind : RawBehind (in_script_comment v) (slash_waits v) e raw there

pub lands-as : (e : Element) (v : ScriptState) (raw held : Pending) (c w : Bool) → in_script_comment v ≡ c → slash_waits v ≡ w → RawBehind c w e raw held → RawBehind (in_script_comment v) (slash_waits v) e raw held
lands-as e v raw held c w p q r = subst (λ (d : Bool). RawBehind d (slash_waits v) e raw held) (sym p) (subst (λ (d : Bool). RawBehind c d e raw held) (sym q) r)

-- the slash that waits
abbrev pub waiting_if : Bool → List ℕ
waiting_if w = if w then codes "/" else []

guarded : (g w : Bool) → not (is_empty (waiting_if g)) ≡ w → waiting_if g ≡ waiting_if w
guarded true true e = refl
guarded true false e = absurd (true≢false e)
guarded false true e = absurd (true≢false (sym e))
guarded false false e = refl

pub waiting-is : (v : ScriptState) (w : Bool) → slash_waits v ≡ w → waiting_slash v ≡ waiting_if w
waiting-is v w e = guarded (is_outside is_slash v && (is_empty v.held && not v.trail.fresh)) w e

goes-waiting : (e : Element) (raw held : Pending) (w : Bool) → RawBehind false w e raw held → PageGoes e held (waiting_if w) raw
goes-waiting e raw held true r = r.1
goes-waiting e raw held false r = r

not-both : (e : Element) (grows : Bool) (letters bs : List ℕ) (k : Pending) → step_end_name grows true Solidus 47 letters ≡ Reads bs k → ⊥
not-both e true letters bs k s = cc
not-both e false letters bs k s = cc

pub class-solidus : class_of 47 ≡ Solidus
unfolding class_of
class-solidus = refl

whole-by : (e : Element) (letters bs : List ℕ) (k : Pending) (w : Bool) → is_name_of e letters ≡ w → script_step true e (PendingName letters) Solidus 47 ≡ Reads bs k → w ≡ false
whole-by e letters bs k false w s = refl
whole-by e letters bs k true w s =
    absurd (not-both e (may_be_name_of e (letters ++ 47 ∷ [])) letters bs k (ap (λ (z : Bool). step_end_name (may_be_name_of e (letters ++ 47 ∷ [])) z Solidus 47 letters) (sym w) ∙ s))

pub solidus-not-whole : (e : Element) (g k : Pending) → StepGoes e g 47 k → is_whole_name e g ≡ false
solidus-not-whole e (PendingName letters) k m =
    whole-by e letters m.read k (is_name_of e letters) refl (ap (λ (z : Class). script_step true e (PendingName letters) z 47) (sym class-solidus) ∙ m.step)
solidus-not-whole e Nothing k m = refl
solidus-not-whole e PendingLess k m = refl
solidus-not-whole e LessAtCut k m = refl
solidus-not-whole e PendingBang k m = refl
solidus-not-whole e PendingBangDash k m = refl
solidus-not-whole e (PendingOpening letters) k m = refl

-- one byte outside of comments
none-waits-is : (v : ScriptState) → waiting_slash v ≡ [] → slash_waits v ≡ false
none-waits-is v e = ap (λ (bs : List ℕ). not (is_empty bs)) e

html-byte : (e : Element) (v : ScriptState) (b : ℕ) (raw held k : Pending) → WrittenByte v b → RawBehind false (slash_waits v) e raw held → StepGoes e raw b k
    → Landed e (feed_script v b) k (script_written v b) held
html-byte e v b raw held k (IsWritten w nw nc) r m =
    let goes = goes-append (waiting_if (slash_waits v)) (b ∷ []) e held raw k (goes-waiting e raw held (slash_waits v) r) (k, m, refl) in
    record {
      there = k;
      goes = subst (λ (out : List ℕ). PageGoes e held out k) (sym (w ∙ ap (λ (ws : List ℕ). ws ++ b ∷ []) (waiting-is v (slash_waits v) refl))) goes;
      behind = lands-as e (feed_script v b) k k false false nc nw refl;
    }
html-byte e v b raw held k (Waits g wv w nw nc) r m =
    let same : held ≡ raw = subst (λ (z : Bool). RawBehind false z e raw held) (none-waits-is v wv) r in
    let step : StepGoes e held 47 k = subst (λ (z : Pending). StepGoes e z 47 k) (sym same) (subst (λ (c : ℕ). StepGoes e raw c k) g m) in
    record {
      there = held;
      goes = subst (λ (out : List ℕ). PageGoes e held out held) (sym w) refl;
      behind = lands-as e (feed_script v b) k held false true nc nw (solidus-not-whole e held k step, (k, step, refl));
    }
html-byte e v b raw held k (Opens wv o w nc) r m =
    let before = subst (λ (z : Bool). RawBehind false z e raw held) wv r in
    record {
      there = held;
      goes = subst (λ (out : List ℕ). PageGoes e held out held) (sym w) refl;
      behind = lands-as e (feed_script v b) k held true (slash_waits (feed_script v b)) nc refl before.0;
    }

-- Where a path and a page stand before some bytes and behind them.
pub record BothAt (e : Element) (v : ScriptState) (t : List LexEvent) (p : PageScript LexEvent) (raw held : Pending) : Type 0 where
  pub stands : ScriptStands LexEvent InsideScript v t p
  pub behind : RawBehind (in_script_comment v) (slash_waits v) e raw held

pub record Ran (e : Element) (bs : List ℕ) (v : ScriptState) (t : List LexEvent) (p : PageScript LexEvent) (k held : Pending) : Type 0 where
  pub there : Pending
  pub raw : Pending
  pub nothing : k ≡ Nothing → raw ≡ Nothing
  pub goes : PageGoes e held (script_bytes_out path_script v bs) there
  pub both : (let q = read_page bs (page_script v t) in BothAt e q.state q.told (read_page (script_bytes_out path_script v bs) p) raw there)

-- A byte in a comment: nothing is written of it, and the comment goes on; or a blank is written, and the path is in code.
data CommentShape (e : Element) (after : ScriptState) (out : List ℕ) : Type 0 where
  StaysIn : out ≡ [] → in_script_comment after ≡ true → CommentShape e after out
  LeavesIt : ((held : Pending) → is_whole_name e held ≡ false → PageGoes e held out Nothing) → in_script_comment after ≡ false → slash_waits after ≡ false → CommentShape e after out

class-space : class_of 32 ≡ White
unfolding class_of
class-space = refl

class-feed : class_of 10 ≡ White
unfolding class_of
class-feed = refl

class-return : class_of 13 ≡ White
unfolding class_of
class-return = refl

separator-quiet : (is_quiet (class_of 226) ≡ true) × (is_less_class (class_of 128) ≡ false) × (is_less_class (class_of 168) ≡ false) × (is_less_class (class_of 169) ≡ false)
unfolding class_of
separator-quiet = (refl, refl, refl, refl)

pub blank-goes : (e : Element) (lines : PartLines) (held : Pending) → is_whole_name e held ≡ false → PageGoes e held (blank_of lines) Nothing
blank-goes e HasLine held w = (Nothing, white-goes e held 10 class-feed w, refl)
blank-goes e (NoLineYet begun) held w = (Nothing, white-goes e held 32 class-space w, refl)

word-goes : (e : Element) (word : List ℕ) → LineWord word → (held : Pending) → is_whole_name e held ≡ false → PageGoes e held word Nothing
unfolding lib.Utf8.encode
word-goes e word LineFeed held w = (Nothing, white-goes e held 10 class-feed w, refl)
word-goes e word CarriageReturn held w = (Nothing, white-goes e held 13 class-return w, refl)
word-goes e word LineSeparator held w = (Nothing, quiet-goes e held 226 separator-quiet.0, no-less (128 ∷ 168 ∷ []) e (separator-quiet.1, (separator-quiet.2, tt)))
word-goes e word ParagraphSeparator held w = (Nothing, quiet-goes e held 226 separator-quiet.0, no-less (128 ∷ 169 ∷ []) e (separator-quiet.1, (separator-quiet.3, tt)))

block-shape : (e : Element) (s : Sense) (star : Bool) (held : List ℕ) (trail : Trail) (c : ScriptClass) (b : ℕ)
    → (let v = block_state s star held trail in CommentShape e (feed_class v c b) (written_between v (feed_class v c b) b))
block-shape e s true held trail class.Solidus b = LeavesIt (λ g w. blank-goes e trail.lines g w) refl refl
block-shape e s true held trail class.Asterisk b = StaysIn refl refl
block-shape e s true held trail c b = StaysIn refl refl
block-shape e s false held trail class.Asterisk b = StaysIn refl refl
block-shape e s false held trail c b = StaysIn refl refl

line-shape : (e : Element) (s : Sense) (held : List ℕ) (trail : Trail) (b : ℕ) → LineOutcome s (held_after held b) (released held b)
    → (let v = line_state s held trail in CommentShape e (feed_script v b) (script_written v b))
line-shape e s held trail b (StaysInLine p out t) = StaysIn out (ap (λ (q : ScriptPoint). (is_empty q.literals && is_line q.at) || (is_empty q.literals && is_block q.at)) p)
line-shape e s held trail b (EndsLine p out t after) =
    LeavesIt (λ g w. word-goes e (only_line_ends (released held b)) out g w)
    (ap (λ (q : ScriptPoint). (is_empty q.literals && is_line q.at) || (is_empty q.literals && is_block q.at)) p)
    (not-at-slash (feed_script (line_state s held trail) b) (ap (λ (q : ScriptPoint). is_empty q.literals && is_slash q.at) p))
  where
    not-at-slash : (u : ScriptState) → is_outside is_slash u ≡ false → slash_waits u ≡ false
    not-at-slash u e = rw e refl

comment-shape : (e : Element) (v : ScriptState) (b : ℕ) (fs : List ℕ) (a : At) → v.literals ≡ fs → v.at ≡ a → ((is_empty fs && is_line a) || (is_empty fs && is_block a)) ≡ true
    → CommentShape e (feed_script v b) (script_written v b)
comment-shape e v b [] (LineComment s) p q h =
    subst (λ (z : ScriptState). CommentShape e (feed_script z b) (script_written z b)) (line-is v s p q)
    (line-shape e s v.held v.trail b (line-outcome s v.held b (released v.held b) (held_after v.held b) (releases v.held b)))
  where
    line-is : (v : ScriptState) (s : Sense) → v.literals ≡ [] → v.at ≡ LineComment s → line_state s v.held v.trail ≡ v
    line-is v s p q = ap₂ (λ (gs : List ℕ) (d : At). record { literals = gs; at = d; held = v.held; trail = v.trail }) (sym p) (sym q)
comment-shape e v b [] (BlockComment s star) p q h =
    subst (λ (z : ScriptState). CommentShape e (feed_script z b) (script_written z b)) (block-is v s star p q) (block-shape e s star v.held v.trail (script.class_of b) b)
  where
    block-is : (v : ScriptState) (s : Sense) (star : Bool) → v.literals ≡ [] → v.at ≡ BlockComment s star → block_state s star v.held v.trail ≡ v
    block-is v s star p q = ap₂ (λ (gs : List ℕ) (d : At). record { literals = gs; at = d; held = v.held; trail = v.trail }) (sym p) (sym q)
comment-shape e v b [] (Slash s) p q h = absurd (true≢false (sym h))
comment-shape e v b [] a p q h = absurd (true≢false (sym h))
comment-shape e v b (n ∷ fs) a p q h = absurd (true≢false (sym h))

-- Bytes, one after the other. Behind a comment that ends within them no `<` follows.
abbrev pub RunsBy : (comment : Bool) → Element → Pending → List ℕ → Pending → Type 0
RunsBy true e raw bs k = NoLess (behind_less bs)
RunsBy false e raw bs k = PageGoes e raw bs k × NoLess (behind_less bs)

pub runs-by : (c : Bool) (e : Element) (raw : Pending) (bs : List ℕ) (k : Pending) → PageGoes e raw bs k → NoLess (behind_less bs) → RunsBy c e raw bs k
runs-by true e raw bs k m n = n
runs-by false e raw bs k m n = (m, n)

fewer : (bs : List ℕ) → NoLess bs → NoLess (behind_less bs)
fewer [] n = tt
fewer (b ∷ bs) n = n.1

behind-in : (e : Element) (v : ScriptState) (raw held : Pending) (c : Bool) → in_script_comment v ≡ c → RawBehind (in_script_comment v) (slash_waits v) e raw held → RawBehind c (slash_waits v) e raw held
behind-in e v raw held c q r = subst (λ (d : Bool). RawBehind d (slash_waits v) e raw held) q r

ran-behind : (e : Element) (b : ℕ) (bs : List ℕ) (v : ScriptState) (t : List LexEvent) (p : PageScript LexEvent) (k l held there : Pending) → PageGoes e held (script_written v b) there
    → (k ≡ Nothing → l ≡ Nothing)
    → Ran e bs (feed_script v b) (told_in_script (script_emits v b []) t) (read_page (script_written v b) p) l there → Ran e (b ∷ bs) v t p k held
ran-behind e b bs v t p k l held there g n r =
    let out = script_bytes_out path_script (feed_script v b) bs in
    let q = read_page (b ∷ bs) (page_script v t) in
    record {
      there = r.there;
      raw = r.raw;
      nothing = λ h. r.nothing (n h);
      goes = goes-append (script_written v b) out e held there r.there g r.goes;
      both = subst (λ (d : PageScript LexEvent). BothAt e q.state q.told d r.raw r.there) (sym (read-page-append (script_written v b) out p)) r.both;
    }

-- what follows a byte
abbrev RunsOn : Element → List ℕ → ScriptState → List LexEvent → Type 0
RunsOn e bs u t = (p : PageScript LexEvent) (raw held k : Pending) (c : Bool) → in_script_comment u ≡ c → BothAt e u t p raw held → RunsBy c e raw bs k → Ran e bs u t p k held

run-comment : ScriptStandsLaws LexEvent InsideScript → (bs : List ℕ) (e : Element) (v : ScriptState) (t : List LexEvent) (p : PageScript LexEvent) (raw held k : Pending) (b : ℕ) → in_script_comment v ≡ true
    → script_refuses true v b ≡ None → BothAt e v t p raw held → NoLess bs → RunsOn e bs (feed_script v b) (told_in_script (script_emits v b []) t)
    → CommentShape e (feed_script v b) (script_written v b) → Ran e (b ∷ bs) v t p k held
run-comment laws bs e v t p raw held k b c n h r on (StaysIn out more) =
    let u = feed_script v b in
    ran-behind e b bs v t p k k held held (subst (λ (ws : List ℕ). PageGoes e held ws held) (sym out) refl) (λ q. q)
    (on (read_page (script_written v b) p) raw held k true more
    (record { stands = laws.byte v b t p h.stands n; behind = lands-as e u raw held true (slash_waits u) more refl (behind-in e v raw held true c h.behind) })
    (fewer bs r))
run-comment laws bs e v t p raw held k b c n h r on (LeavesIt goes more waits) =
    let u = feed_script v b in
    ran-behind e b bs v t p k Nothing held Nothing (goes held (behind-in e v raw held true c h.behind)) (λ q. refl)
    (on (read_page (script_written v b) p) Nothing Nothing Nothing false more
    (record { stands = laws.byte v b t p h.stands n; behind = lands-as e u Nothing Nothing false false more waits refl })
    (no-less bs e r, fewer bs r))

pub run-open : ScriptStandsLaws LexEvent InsideScript → (bs : List ℕ) (e : Element) (v : ScriptState) (t : List LexEvent) (p : PageScript LexEvent) (raw held k : Pending) (c : Bool) → in_script_comment v ≡ c
    → ScriptTakes v bs → BothAt e v t p raw held → RunsBy c e raw bs k → Ran e bs v t p k held
run-open laws [] e v t p raw held k false c n h r = record { there = held; raw = raw; nothing = λ q. r.0 ∙ q; goes = refl; both = h }
run-open laws [] e v t p raw held k true c n h r = record {
  there = held;
  raw = Nothing;
  nothing = λ q. refl;
  goes = refl;
  both = record { stands = h.stands; behind = lands-as e v Nothing held true (slash_waits v) c refl (behind-in e v raw held true c h.behind) };
}
run-open laws (b ∷ bs) e v t p raw held k false c n h r =
    let u = feed_script v b in
    let land = html-byte e v b raw held r.0.0 (written-shape v b t p h.stands n.0 c) (behind-in e v raw held false c h.behind) r.0.1 in
    ran-behind e b bs v t p k k held land.there land.goes (λ q. q)
    (run-open laws bs e u (told_in_script (script_emits v b []) t) (read_page (script_written v b) p) r.0.0 land.there k (in_script_comment u) refl n.1
    (record { stands = laws.byte v b t p h.stands n.0; behind = land.behind })
    (runs-by (in_script_comment u) e r.0.0 bs k r.0.2 (fewer bs r.1)))
run-open laws (b ∷ bs) e v t p raw held k true c n h r =
    run-comment laws bs e v t p raw held k b c n.0 h r
    (λ q raw held k d c h m. run-open laws bs e (feed_script v b) (told_in_script (script_emits v b []) t) q raw held k d c n.1 h m)
    (comment-shape e v b v.literals v.at refl refl c)
