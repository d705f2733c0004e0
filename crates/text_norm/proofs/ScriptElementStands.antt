-- Where a page stands for a path before a hole in the element of a script, it stands for it behind the hole.
use Rattle.std.proofs.Common.{◌≡◌, ℕ, not, Bool, true, false, codes, List, [], ◌⊎◌, inl, inr, if◌then◌else◌, refl, sym, ap, ◌∙◌, subst, true≢false}
use Rattle.js_lexer.specs.Alike.{ScriptsAlike}
use Rattle.js_lexer.specs.BackLaws.{in_code}
use Rattle.js_lexer.specs.Elements.{script_may_end}
use Rattle.js_lexer.specs.Holes.{script_after_hole}
use Rattle.js_lexer.specs.PageScripts.{PageScript, ScriptStandsAlike, ScriptStands, ScriptStandsAt, ScriptStandsAtSlash, page_script, read_in_page}
use Rattle.js_lexer.specs.States.{AfterBackslash, AfterCarriageReturn, AfterX, AfterX3, At, BlockComment, Code, InRegexp, InString, InTemplate, LineComment, Minuses, NoEscape, Number, Pluses, ScriptEscape, ScriptState, Slash, TooDeep, Trail, Word}
use Rattle.js_lexer.specs.Trails.{is_empty}
use Rattle.js_lexer.specs.declared.sense.Sense.{Sense}
use Rattle.js_lexer.specs.declared.sense.Sense.TheVariants as sense
use Rattle.place_core.specs.page.Contents.{BeginsWord, in_word, pending_bytes, settles}
use Rattle.place_core.specs.page.Events.{InsideScript, LexEvent}
use Rattle.place_core.specs.page.Paths.{at_hole, mark_in}
use Rattle.place_core.specs.page.Plain.{IsPlain}
use Rattle.place_core.specs.page.Shape.{marked}
use Rattle.place_core.specs.page.States.{Config, LessAtCut, Nothing, Pending, PendingBang, PendingBangDash, PendingLess, PendingName, PendingOpening}
use Rattle.place_core.specs.page.Tags.{OfScript, ValueState, languages}
use Rattle.place_core.specs.place.ScriptParts.{may_begin_text_at}
use Rattle.place_core.specs.declared.element.Element.{Element}
use Rattle.text_norm.proofs.ScriptBeforeLess.{alike-may-end, code-before-less}
use Rattle.text_norm.proofs.ScriptElementHoles.{IsScriptElementHole, IsScriptReadTo, ScriptHolds, script-element-plain, script-hole-alike, script-hole-told, script-marked-at, script_hole_at, script_hole_told}
use Rattle.text_norm.proofs.ScriptHoles.{IsComment}
use Rattle.text_norm.proofs.ScriptPages.{fed-script, fed-told}
use Rattle.text_norm.proofs.StyleElementKeeps.{behind, element_at, told}
use Rattle.text_norm.specs.Standing.{HeldBehind, IsBehindLess, ScriptComesToNothing, ScriptMayGoOn, StandsInLanguage, StandsInScript, TextStands, in_element, in_script_comment, slash_waits}

-- Where a path is at a place, the node's end has written a slash that waited: the page's script is alike to the path's.
abbrev AlikeAt : At → Trail → List LexEvent → PageScript LexEvent → Type 0
AlikeAt a t u p = ScriptStandsAlike LexEvent (in_code a t) u p

slash-alike : (c : Sense) (t : Trail) (u : List LexEvent) (p : PageScript LexEvent) → t.fresh ≡ true
    → ScriptStandsAtSlash (not (is_empty (if not t.fresh then codes "/" else []))) LexEvent InsideScript c (in_code (Slash c) t) u p → AlikeAt (Slash c) t u p
slash-alike c t u p f k =
    (subst (λ (z : Bool). ScriptStandsAtSlash (not (is_empty (if not z then codes "/" else []))) LexEvent InsideScript c (in_code (Slash c) t) u p) f k).written

stands-alike : (a : At) (t : Trail) (u : List LexEvent) (p : PageScript LexEvent) → t.fresh ≡ true → (IsComment a → ⊥)
    → ScriptStandsAt [] a LexEvent InsideScript (in_code a t) u p → AlikeAt a t u p
stands-alike (Code s) t u p f n k = k
stands-alike (Word w) t u p f n k = k
stands-alike Number t u p f n k = k
stands-alike (Pluses odd) t u p f n k = k
stands-alike (Minuses odd) t u p f n k = k
stands-alike (Slash c) t u p f n k = slash-alike c t u p f k
stands-alike (LineComment s) t u p f n k = absurd (n tt)
stands-alike (BlockComment s star) t u p f n k = absurd (n tt)
stands-alike (InString q e) t u p f n k = k
stands-alike (InRegexp j e) t u p f n k = k
stands-alike (InTemplate e d) t u p f n k = k
stands-alike TooDeep t u p f n k = absurd k

abbrev HeldAt : Element → At → Trail → Pending → Type 0
HeldAt e a t held = HeldBehind (in_script_comment (in_code a t)) (slash_waits (in_code a t)) e Nothing held (in_code a t)

slash-held : (e : Element) (c : Sense) (t : Trail) (held : Pending) → t.fresh ≡ true
    → HeldBehind false (not (is_empty (if not t.fresh then codes "/" else []))) e Nothing held (in_code (Slash c) t)
    → ScriptComesToNothing Nothing held (in_code (Slash c) t)
slash-held e c t held f k =
    subst (λ (z : Bool). HeldBehind false (not (is_empty (if not z then codes "/" else []))) e Nothing held (in_code (Slash c) t)) f k

comes-to-nothing : (e : Element) (a : At) (t : Trail) (held : Pending) → t.fresh ≡ true → (IsComment a → ⊥) → HeldAt e a t held
    → ScriptComesToNothing Nothing held (in_code a t)
comes-to-nothing e (Code s) t held f n k = k
comes-to-nothing e (Word w) t held f n k = k
comes-to-nothing e Number t held f n k = k
comes-to-nothing e (Pluses odd) t held f n k = k
comes-to-nothing e (Minuses odd) t held f n k = k
comes-to-nothing e (Slash c) t held f n k = slash-held e c t held f k
comes-to-nothing e (LineComment s) t held f n k = absurd (n tt)
comes-to-nothing e (BlockComment s star) t held f n k = absurd (n tt)
comes-to-nothing e (InString q i) t held f n k = k
comes-to-nothing e (InRegexp j i) t held f n k = k
comes-to-nothing e (InTemplate i d) t held f n k = k
comes-to-nothing e TooDeep t held f n k = k

held-cases : (held : Pending) (s : ScriptState) → ScriptComesToNothing Nothing held s → (held ≡ Nothing) ⊎ ((held ≡ PendingLess) × IsBehindLess s)
held-cases Nothing s h = inl refl
held-cases PendingLess s h = inr (refl, h)
held-cases LessAtCut s h = absurd h
held-cases (PendingName letters) s h = absurd h
held-cases PendingBang s h = absurd h
held-cases PendingBangDash s h = absurd h
held-cases (PendingOpening letters) s h = absurd h

-- Behind a `<` with which a node has ended the path is in code.
string-less : (q : Bool) (i : ScriptEscape) → may_begin_text_at (InString q i) (codes "<") ≡ false
string-less q NoEscape = refl
string-less q AfterBackslash = refl
string-less q AfterX = refl
string-less q AfterX3 = refl
string-less q AfterCarriageReturn = refl

regexp-less : (k : Bool) (i : ScriptEscape) → may_begin_text_at (InRegexp k i) (codes "<") ≡ false
regexp-less true i = refl
regexp-less false NoEscape = refl
regexp-less false AfterBackslash = refl
regexp-less false AfterX = refl
regexp-less false AfterX3 = refl
regexp-less false AfterCarriageReturn = refl

less-in-code : (a : At) (t : Trail) (m : List ℕ) → may_begin_text_at a m ≡ true → m ≡ codes "<" → script_may_end (in_code a t) ≡ true
less-in-code (Code s) t m b e = refl
less-in-code (Word w) t m b e = refl
less-in-code Number t m b e = refl
less-in-code (Pluses odd) t m b e = refl
less-in-code (Minuses odd) t m b e = refl
less-in-code (Slash sense.Re) t m b e = absurd (true≢false (sym b ∙ ap is_empty e))
less-in-code (Slash sense.Div) t m b e = refl
less-in-code (Slash sense.Brace) t m b e = refl
less-in-code (LineComment s) t m b e = refl
less-in-code (BlockComment s star) t m b e = refl
less-in-code (InString q i) t m b e = absurd (true≢false (sym b ∙ ap (λ (z : List ℕ). may_begin_text_at (InString q i) z) e ∙ string-less q i))
less-in-code (InRegexp k i) t m b e = absurd (true≢false (sym b ∙ ap (λ (z : List ℕ). may_begin_text_at (InRegexp k i) z) e ∙ regexp-less k i))
less-in-code (InTemplate i d) t m b e = absurd (true≢false (sym b))
less-in-code TooDeep t m b e = absurd (true≢false (sym b))

-- What the page has pending comes to nothing by the bytes of a hole, and settles before it.
none-settles : (m : Bool) → settles m Nothing ≡ true
none-settles true = refl
none-settles false = refl

abbrev may_end_of : ValueState → Bool
may_end_of (OfScript s) = script_may_end s
may_end_of v = true

less-settles : (s there w : ScriptState) → ScriptsAlike s w → behind (OfScript there) PendingLess ≡ OfScript w → script_may_end s ≡ true
    → settles (script_may_end there) PendingLess ≡ true
less-settles s there w a i m =
    ap (λ (z : Bool). settles z PendingLess)
    (code-before-less there (ap may_end_of i ∙ sym (alike-may-end s w a) ∙ m))

-- The page before the hole: its script with what is pending read, and what it has told.
pub record IsScriptThere (e : Element) (s : ScriptState) (t : List LexEvent) (d : Config ValueState) : Type 0 where
  pub there : ScriptState
  pub held : Pending
  pub before : List LexEvent
  pub read : ScriptState
  pub at : d ≡ element_at e (OfScript there) held before
  pub is_read : IsScriptReadTo there held read
  pub alike : ScriptsAlike s read
  pub tells : told (OfScript there) held before ≡ t
  pub holds : (held ≡ Nothing) ⊎ ((held ≡ PendingLess) × IsBehindLess s)

settles-by : (a : At) (t : Trail) (there w : ScriptState) (held : Pending) → may_begin_text_at a t.markup ≡ true → ScriptsAlike (in_code a t) w
    → behind (OfScript there) held ≡ OfScript w → (held ≡ Nothing) ⊎ ((held ≡ PendingLess) × IsBehindLess (in_code a t))
    → settles (script_may_end there) held ≡ true
settles-by a t there w held b i q (inl h) = ap (settles (script_may_end there)) h ∙ none-settles (script_may_end there)
settles-by a t there w held b i q (inr h) =
    ap (settles (script_may_end there)) h.0
    ∙ less-settles (in_code a t) there w i (sym (ap (behind (OfScript there)) h.0) ∙ q) (less-in-code a t t.markup b h.1.less)

pub script-there : (e : Element) (a : At) (t : Trail) (u : List LexEvent) (d : Config ValueState) → t.fresh ≡ true → may_begin_text_at a t.markup ≡ true
    → (IsComment a → ⊥) → StandsInScript e (in_code a t) Nothing u d → IsScriptThere e (in_code a t) u d
script-there e a t u d f b n l =
    let p = read_in_page InsideScript (pending_bytes l.held) (page_script l.there l.told) in
    let own = stands-alike a t u p f n l.stands in
    let is = fed-script (pending_bytes l.held) l.there l.told in
    let holds = held-cases l.held (in_code a t) (comes-to-nothing e a t l.held f n l.nothing) in
    record {
      there = l.there;
      held = l.held;
      before = l.told;
      read = p.state;
      at = l.at;
      is_read = record { is = is; settles = settles-by a t l.there p.state l.held b own.alike is holds };
      alike = own.alike;
      tells = fed-told (pending_bytes l.held) l.there l.told ∙ own.told;
      holds = holds;
    }

pub holds-apart : (s : ScriptState) (bytes : List ℕ) (held : Pending) → IsScriptElementHole s bytes → (held ≡ Nothing) ⊎ ((held ≡ PendingLess) × IsBehindLess s)
    → ScriptHolds held bytes
holds-apart s bytes held h (inl k) = subst (λ (z : Pending). ScriptHolds z bytes) (sym k) tt
holds-apart s bytes held h (inr k) = subst (λ (z : Pending). ScriptHolds z bytes) (sym k.0) (h.begins k.1.less)

-- Behind a hole the path is in none of the states in which something waits.
abbrev BehindAt : Element → At → Trail → List LexEvent → PageScript LexEvent → Type 0
BehindAt e a t u p =
    (let s = script_after_hole (in_code a t) in
    ScriptStands LexEvent InsideScript s u p × HeldBehind (in_script_comment s) (slash_waits s) e Nothing Nothing s)

behind-stands : (e : Element) (a : At) (t : Trail) (u v : List LexEvent) (p q : PageScript LexEvent) → (IsComment a → ⊥)
    → ScriptStandsAt [] a LexEvent InsideScript (in_code a t) v q → ScriptStandsAlike LexEvent (script_after_hole (in_code a t)) u p → BehindAt e a t u p
behind-stands e (Code s) t u v p q n k l = (l, tt)
behind-stands e (Word w) t u v p q n k l = (l, tt)
behind-stands e Number t u v p q n k l = (l, tt)
behind-stands e (Pluses odd) t u v p q n k l = (l, tt)
behind-stands e (Minuses odd) t u v p q n k l = (l, tt)
behind-stands e (Slash sense.Re) t u v p q n k l = (l, tt)
behind-stands e (Slash sense.Div) t u v p q n k l = (l, tt)
behind-stands e (Slash sense.Brace) t u v p q n k l = (l, tt)
behind-stands e (LineComment s) t u v p q n k l = absurd (n tt)
behind-stands e (BlockComment s star) t u v p q n k l = absurd (n tt)
behind-stands e (InString j i) t u v p q n k l = (l, tt)
behind-stands e (InRegexp j i) t u v p q n k l = (l, tt)
behind-stands e (InTemplate i d) t u v p q n k l = (l, tt)
behind-stands e TooDeep t u v p q n k l = absurd k

none-begins : in_word [] ≡ BeginsWord
unfolding in_word
none-begins = refl

goes-on : (e : Element) (s r : ScriptState) → ScriptMayGoOn e s Nothing → ScriptMayGoOn e r Nothing
goes-on e s r l = record { element = l.element; word = λ n. none-begins; bytes = refl; goes_on = refl }

pub script-element-kept : (e : Element) (a : At) (trail : Trail) (bytes : List ℕ) (t : List LexEvent) (d : Config ValueState) → trail.fresh ≡ true
    → may_begin_text_at a trail.markup ≡ true → (IsComment a → ⊥) → IsScriptElementHole (in_code a trail) bytes
    → StandsInLanguage languages e (OfScript (in_code a trail)) Nothing t d
    → (let z = in_element e (OfScript (in_code a trail)) Nothing in
    IsPlain bytes d × TextStands languages (at_hole languages z) (mark_in languages z t) (marked bytes d))
script-element-kept e a trail bytes t d f b n h l =
    let s = in_code a trail in
    let g = script-there e a trail t d f b n l.1 in
    let to = script_hole_at g.read bytes in
    let tells = script_hole_told g.read (told (OfScript g.there) g.held g.before) in
    let same : tells ≡ script_hole_told s t = ap (script_hole_told g.read) g.tells ∙ script-hole-told s g.read t g.alike in
    let stands = behind-stands e a trail (script_hole_told s t) t (page_script to tells) _ n l.1.stands
    (record { alike = script-hole-alike s g.read bytes g.alike h; told = same }) in (
      subst (IsPlain bytes) (sym g.at)
          (script-element-plain e s g.read g.there g.held g.before bytes g.is_read g.alike (holds-apart s bytes g.held h g.holds) h),
      (
        goes-on e s (script_after_hole s) l.0,
        record {
          there = to;
          held = Nothing;
          told = tells;
          at = ap (marked bytes) g.at ∙ script-marked-at e g.read g.there g.held g.before bytes g.is_read h.apart;
          stands = stands.0;
          nothing = stands.1;
        },
      ),
    )

-- In a comment a value is left out, and the page stays where it is.
pub script-comment-kept : (e : Element) (a : At) (trail : Trail) (t : List LexEvent) (d : Config ValueState) → IsComment a
    → StandsInLanguage languages e (OfScript (in_code a trail)) Nothing t d
    → (let z = in_element e (OfScript (in_code a trail)) Nothing in TextStands languages (at_hole languages z) (mark_in languages z t) d)
script-comment-kept e (LineComment s) trail t d c l =
    let own = in_code (LineComment s) trail in (
      goes-on e own (script_after_hole own) l.0,
      record { there = l.1.there; held = l.1.held; told = l.1.told; at = l.1.at; stands = l.1.stands; nothing = l.1.nothing },
    )
script-comment-kept e (BlockComment s star) trail t d c l =
    let own = in_code (BlockComment s star) trail in (
      goes-on e own (script_after_hole own) l.0,
      record { there = l.1.there; held = l.1.held; told = l.1.told; at = l.1.at; stands = l.1.stands; nothing = l.1.nothing },
    )
script-comment-kept e _ trail t d c l = absurd c
