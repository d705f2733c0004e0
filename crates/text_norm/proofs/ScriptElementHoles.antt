-- A hole in a script in its element: bytes that are plain in the script, and none of which is a `<`, lead the page's reading where the hole leads the path.
use Rattle.std.proofs.Common.{◌≡◌, ℕ, ◌==◌, ◌||◌, Bool, true, false, codes, List, [], ◌∷◌, if◌then◌else◌, refl, sym, ap, ap₂, ◌∙◌, subst, true≢false}
use Rattle.std.specs.List.{list_any}
use Rattle.js_lexer.specs.Alike.{ScriptsAlike}
use Rattle.js_lexer.specs.Elements.{script_may_end}
use Rattle.js_lexer.specs.Feeding.{ScriptReading, feed_script, read_on, script_emits, script_reading}
use Rattle.js_lexer.specs.Holes.{script_after_hole, script_emits_settled, script_has_mark, script_settled}
use Rattle.js_lexer.specs.Plain.{IsPlainInScript}
use Rattle.js_lexer.specs.States.{ScriptState, script_start}
use Rattle.place_core.proofs.ScriptSteps.{bang-is, solidus-is}
use Rattle.place_core.specs.page.Classes.{Class, ExclamationMark, LessThan, Solidus, class_of}
use Rattle.place_core.specs.page.Contents.{settles}
use Rattle.place_core.specs.page.Events.{LexEvent, told_in_script}
use Rattle.place_core.specs.page.Html.{byte_over, read}
use Rattle.place_core.specs.page.Plain.{IsPlain, IsPlainFrom, IsPlainInContent, settled_config, settled_state}
use Rattle.place_core.specs.page.Shape.{marked, state_past_hole}
use Rattle.place_core.specs.page.States.{Config, LessAtCut, LexState, Nothing, Page, Pending, PendingBang, PendingBangDash, PendingLess, PendingName, PendingOpening, config}
use Rattle.place_core.specs.page.Tags.{OfScript, ValueState, emits_fed, fed_state, languages, mark_if}
use Rattle.place_core.specs.declared.element.Element.{Element}
use Rattle.text_norm.proofs.LanguagesKeep.{languages-keep}
use Rattle.text_norm.proofs.Places.{is_less, no}
use Rattle.text_norm.proofs.ScriptHoles.{script-leads}
use Rattle.text_norm.proofs.ScriptHolesTold.{byte-told}
use Rattle.text_norm.proofs.StyleElementHoles.{both-false, less-or-not}
use Rattle.text_norm.proofs.StyleElementKeeps.{behind, element_at, told}
use Rattle.text_norm.specs.HoleLaws.{is_less_than}
use Rattle.text_norm.specs.Standing.{in_element}

-- The bytes of a hole, at the state of a path: plain in each state of a page that is alike. Behind a `<` with which a node has ended, in code, they go on with
-- no end tag and no `<!`.
abbrev pub goes_with_less : List ℕ → Bool
goes_with_less [] = true
goes_with_less (b ∷ bs) = b == 47 || b == 33

pub record IsScriptElementHole (s : ScriptState) (bytes : List ℕ) : Type 0 where
  pub plain : (w : ScriptState) → ScriptsAlike s w → IsPlainInScript bytes w
  pub apart : list_any is_less_than bytes ≡ false
  pub begins : s.trail.markup ≡ codes "<" → goes_with_less bytes ≡ false

-- Bytes without a `<` are the script's; one that is behind a `<` that is pending too, unless it goes on with it.
script-loose : (e : Element) (s : ScriptState) (c : Class) (b : ℕ) (u : List LexEvent) → class_of b ≡ c → is_less c ≡ false
    → byte_over languages Page b (element_at e (OfScript s) Nothing u) ≡ element_at e (OfScript (feed_script s b)) Nothing (languages.emits (OfScript s) b u)
script-loose e s LessThan b u k n = absurd (no n)
script-loose e s c b u k n = rw k refl

script-less : (e : Element) (s : ScriptState) (c : Class) (b : ℕ) (u : List LexEvent) → class_of b ≡ c → is_less c ≡ false → (b == 47 || b == 33) ≡ false
    → byte_over languages Page b (element_at e (OfScript s) PendingLess u)
    ≡ element_at e (languages.feed (behind (OfScript s) PendingLess) b) Nothing (languages.emits (behind (OfScript s) PendingLess) b (told (OfScript s) PendingLess u))
script-less e s LessThan b u k n m = absurd (no n)
script-less e s Solidus b u k n m = absurd (true≢false (sym (ap (λ (z : ℕ). z == 47 || z == 33) (solidus-is b k)) ∙ m))
script-less e s ExclamationMark b u k n m = absurd (true≢false (sym (ap (λ (z : ℕ). z == 47 || z == 33) (bang-is b k)) ∙ m))
script-less e s c b u k n m = rw k refl

abbrev pub script_at : Element → ScriptReading → List LexEvent → Config ValueState
script_at e r u = element_at e (OfScript r.state) Nothing (told_in_script r.told u)

-- all of them, from a state of the script that has told this
pub script-apart-read : (e : Element) (bs : List ℕ) (r : ScriptReading) (u : List LexEvent) → list_any is_less_than bs ≡ false
    → read Page bs (script_at e r u) ≡ script_at e (read_on bs r) u
script-apart-read e [] r u n = refl
script-apart-read e (b ∷ bs) r u n =
    let m = both-false (is_less_than b) (list_any is_less_than bs) n in
    ap (read Page bs) (script-loose e r.state (class_of b) b (told_in_script r.told u) refl (less-or-not b (class_of b) refl m.0)
    ∙ ap (element_at e (OfScript (feed_script r.state b)) Nothing) (byte-told r.state b r.told u))
    ∙ script-apart-read e bs (script_reading (feed_script r.state b) (script_emits r.state b r.told)) u m.1

-- where they lead, and what they tell
pub script-read-at : (bs : List ℕ) (s : ScriptState) (r : ScriptReading) → r.state ≡ s → fed_state languages (OfScript s) bs ≡ OfScript (read_on bs r).state
script-read-at [] s r e = ap OfScript (sym e)
script-read-at (b ∷ bs) s r e =
    script-read-at bs (feed_script s b) (script_reading (feed_script r.state b) (script_emits r.state b r.told)) (ap (λ (z : ScriptState). feed_script z b) e)

script-read-tells : (bs : List ℕ) (r : ScriptReading) (u : List LexEvent)
    → told_in_script (read_on bs r).told u ≡ emits_fed languages (OfScript r.state) bs (told_in_script r.told u)
script-read-tells [] r u = refl
script-read-tells (b ∷ bs) r u =
    script-read-tells bs (script_reading (feed_script r.state b) (script_emits r.state b r.told)) u
    ∙ ap (emits_fed languages (OfScript (feed_script r.state b)) bs) (sym (byte-told r.state b r.told u))

pub script-content-read : (e : Element) (bs : List ℕ) (s : ScriptState) → list_any is_less_than bs ≡ false
    → read Page bs (element_at e (OfScript s) Nothing []) ≡ element_at e (fed_state languages (OfScript s) bs) Nothing (emits_fed languages (OfScript s) bs [])
script-content-read e bs s n =
    script-apart-read e bs (script_reading s []) [] n
    ∙ ap₂ (λ (v : ValueState) (u : List LexEvent). element_at e v Nothing u) (sym (script-read-at bs s (script_reading s []) refl))
    (script-read-tells bs (script_reading s []) [])

-- The page's state with what is pending read. Nothing is, or a `<` in code, with which the bytes do not go on.
pub record IsScriptReadTo (there : ScriptState) (held : Pending) (w : ScriptState) : Type 0 where
  pub is : behind (OfScript there) held ≡ OfScript w
  pub settles : settles (script_may_end there) held ≡ true

abbrev pub ScriptHolds : Pending → List ℕ → Type 0
ScriptHolds Nothing bytes = Unit {0}
ScriptHolds PendingLess bytes = goes_with_less bytes ≡ false
ScriptHolds h bytes = ⊥

abbrev script_of : ValueState → ScriptState
script_of (OfScript s) = s
script_of v = script_start

less-released : (e : Element) (w there : ScriptState) (u : List LexEvent) (bytes : List ℕ) → behind (OfScript there) PendingLess ≡ OfScript w
    → goes_with_less bytes ≡ false → list_any is_less_than bytes ≡ false
    → read Page bytes (element_at e (OfScript there) PendingLess u) ≡ script_at e (read_on bytes (script_reading w [])) (told (OfScript there) PendingLess u)
less-released e w there u [] q n apart = absurd (true≢false n)
less-released e w there u (b ∷ bs) q n apart =
    let m = both-false (is_less_than b) (list_any is_less_than bs) apart in
    let t = told (OfScript there) PendingLess u in
    ap (read Page bs) (script-less e there (class_of b) b u refl (less-or-not b (class_of b) refl m.0) n
    ∙ ap (λ (v : ValueState). element_at e (languages.feed v b) Nothing (languages.emits v b t)) q)
    ∙ script-apart-read e bs (script_reading (feed_script w b) (script_emits w b [])) t m.1

pub script-released : (e : Element) (w there : ScriptState) (held : Pending) (u : List LexEvent) (bytes : List ℕ) → behind (OfScript there) held ≡ OfScript w
    → ScriptHolds held bytes → list_any is_less_than bytes ≡ false
    → read Page bytes (element_at e (OfScript there) held u) ≡ script_at e (read_on bytes (script_reading w [])) (told (OfScript there) held u)
script-released e w there Nothing u bytes q o apart =
    script-apart-read e bytes (script_reading there []) u apart
    ∙ ap (λ (v : ValueState). script_at e (read_on bytes (script_reading (script_of v) [])) u) q
script-released e w there PendingLess u bytes q o apart = less-released e w there u bytes q o apart
script-released e w there LessAtCut u bytes q o apart = absurd o
script-released e w there (PendingName letters) u bytes q o apart = absurd o
script-released e w there PendingBang u bytes q o apart = absurd o
script-released e w there PendingBangDash u bytes q o apart = absurd o
script-released e w there (PendingOpening letters) u bytes q o apart = absurd o

script-settled-read : (e : Element) (s w : ScriptState) (u : List LexEvent) (bytes : List ℕ) → ScriptsAlike s w → IsScriptElementHole s bytes
    → read Page bytes (element_at e (OfScript (script_settled w)) Nothing (told_in_script (script_emits_settled w []) u))
    ≡ script_at e (read_on bytes (script_reading w [])) u
script-settled-read e s w u bytes a h =
    script-apart-read e bytes (script_reading (script_settled w) (script_emits_settled w [])) u h.apart
    ∙ ap (λ (z : ScriptReading). script_at e z u) (sym (h.plain w a).apart)

-- They are plain in the page.
leads-there : (w : ScriptState) (bs : List ℕ) → IsPlainInScript bs w
    → languages.LeadsPlain (OfScript (script_settled w)) bs (fed_state languages (OfScript (script_settled w)) bs)
leads-there w bs p =
    let r = script_settled w in
    subst (languages.LeadsPlain (OfScript r) bs) (sym (script-read-at bs r (script_reading r []) refl)) (script-leads w bs p)

script-plain-content : (e : Element) (s w : ScriptState) (bytes : List ℕ) (h : IsScriptElementHole s bytes) → ScriptsAlike s w
    → IsPlainInContent (OfScript (script_settled w)) e bytes (read Page bytes (element_at e (OfScript (script_settled w)) Nothing []))
script-plain-content e s w bytes h a =
    let c = script-content-read e bytes (script_settled w) h.apart in
    record {
      within = ap (λ (z : Config ValueState). z.at) c;
      emitted = ap (λ (z : Config ValueState). z.emitted) c;
      begins = λ g. absurd (true≢false (sym g));
      leads = leads-there w bytes (h.plain w a);
    }

settled-there : (e : Element) (there : ScriptState) (held : Pending) → settles (script_may_end there) held ≡ true
    → settled_state languages (in_element e (OfScript there) held) ≡ in_element e (languages.settled (behind (OfScript there) held)) Nothing
settled-there e there held m =
    ap (λ (f : Bool). if f then in_element e (languages.settled (behind (OfScript there) held)) Nothing else in_element e (OfScript there) held) m

settled-told : (e : Element) (there : ScriptState) (held : Pending) (u : List LexEvent) → settles (script_may_end there) held ≡ true
    → settled_config languages (element_at e (OfScript there) held u)
    ≡ element_at e (languages.settled (behind (OfScript there) held)) Nothing (languages.emits_settled (behind (OfScript there) held) (told (OfScript there) held u))
settled-told e there held u m =
    ap (λ (f : Bool). config (if f then in_element e (languages.settled (behind (OfScript there) held)) Nothing else in_element e (OfScript there) held)
    (if f then languages.emits_settled (behind (OfScript there) held) (told (OfScript there) held u) else u)) m

pub script-element-plain : (e : Element) (s w there : ScriptState) (held : Pending) (u : List LexEvent) (bytes : List ℕ) → IsScriptReadTo there held w
    → ScriptsAlike s w → ScriptHolds held bytes → IsScriptElementHole s bytes → IsPlain bytes (element_at e (OfScript there) held u)
script-element-plain e s w there held u bytes q a o h = (
  λ n. script-released e w there held u bytes q.is o h.apart
      ∙ sym (script-settled-read e s w (told (OfScript there) held u) bytes a h)
      ∙ ap (λ (v : ValueState). read Page bytes (element_at e (languages.settled v) Nothing (languages.emits_settled v (told (OfScript there) held u)))) (sym q.is)
      ∙ ap (read Page bytes) (sym (settled-told e there held u q.settles)),
  subst (λ (z : LexState ValueState). IsPlainFrom z bytes (read Page bytes (config z []))) (sym (settled-there e there held q.settles))
      (subst (λ (v : ValueState). IsPlainInContent (languages.settled v) e bytes (read Page bytes (element_at e (languages.settled v) Nothing []))) (sym q.is)
      (script-plain-content e s w bytes h a)),
)

-- They lead it behind the hole.
abbrev pub script_hole_at : ScriptState → List ℕ → ScriptState
script_hole_at w bytes = (read_on bytes (script_reading (script_settled w) [])).state

abbrev pub script_hole_told : ScriptState → List LexEvent → List LexEvent
script_hole_told w t = mark_if (script_has_mark w) (told_in_script (script_emits_settled w []) t)

pub script-marked-at : (e : Element) (w there : ScriptState) (held : Pending) (u : List LexEvent) (bytes : List ℕ) → IsScriptReadTo there held w
    → list_any is_less_than bytes ≡ false
    → marked bytes (element_at e (OfScript there) held u) ≡ element_at e (OfScript (script_hole_at w bytes)) Nothing (script_hole_told w (told (OfScript there) held u))
script-marked-at e w there held u bytes q apart =
    let t = told (OfScript there) held u in
    let r = script_settled w in
    ap (λ (z : LexState ValueState). config (state_past_hole languages z (read Page bytes (config z [])).at)
    (mark_if (languages.has_mark (behind (OfScript there) held)) (languages.emits_settled (behind (OfScript there) held) t))) (settled-there e there held q.settles)
    ∙ ap (λ (v : ValueState). config (state_past_hole languages (in_element e (languages.settled v) Nothing) (read Page bytes (element_at e (languages.settled v) Nothing [])).at)
    (mark_if (languages.has_mark v) (languages.emits_settled v t))) q.is
    ∙ ap (λ (c : Config ValueState). config (state_past_hole languages (in_element e (OfScript r) Nothing) c.at) (script_hole_told w t)) (script-content-read e bytes r apart)
    ∙ ap (λ (v : ValueState). element_at e (languages.behind (OfScript r) v) Nothing (script_hole_told w t)) (script-read-at bytes r (script_reading r []) refl)

pub script-hole-alike : (s w : ScriptState) (bytes : List ℕ) → ScriptsAlike s w → IsScriptElementHole s bytes
    → ScriptsAlike (script_after_hole s) (script_hole_at w bytes)
script-hole-alike s w bytes a h =
    languages-keep.hole (OfScript s) (OfScript w) (OfScript (script_hole_at w bytes)) bytes a (script-leads w bytes (h.plain w a))

pub script-hole-told : (s w : ScriptState) (t : List LexEvent) → ScriptsAlike s w → script_hole_told w t ≡ script_hole_told s t
script-hole-told s w t a = ap₂ mark_if (languages-keep.marks (OfScript s) (OfScript w) a) (languages-keep.settles (OfScript s) (OfScript w) t a)
