-- A hole in a style in its element: bytes that are plain in the style, and none of which is a `<`, lead the page's reading where the hole leads the path.
use Rattle.std.proofs.Common.{◌≡◌, ◌≢◌, ℕ, ◌==◌, ◌||◌, Bool, true, false, List, [], ◌∷◌, refl, sym, ap, ap₂, ◌∙◌, subst, true≢false}
use Rattle.std.specs.List.{list_any}
use Rattle.std.specs.Prelude.{⊤}
use Rattle.css_lexer.specs.Alike.{AreAlikeOutside, StylesAlike, cut_less_than, outside, the_same}
use Rattle.css_lexer.specs.Events.{StyleEvent}
use Rattle.css_lexer.specs.Paths.{style_after_hole, style_emits_settled, style_settled, style_behind}
use Rattle.css_lexer.specs.Plain.{IsPlainInStyle, MayBePlain}
use Rattle.css_lexer.specs.States.{AfterLessThan, AfterSolidus, BadUrl, Comment, LessThanAtCut, Outside, SolidusAtCut, StarAtCut, Style, Out, InUrl}
use Rattle.css_lexer.specs.Steps.{StyleReading, feed_style, read_style, style_emits, style_reading}
use Rattle.css_lexer.specs.Urls.{urls}
use Rattle.place_core.specs.page.Classes.{Class, LessThan, Solidus, class_of}
use Rattle.place_core.specs.page.Events.{LexEvent, told_in_style}
use Rattle.place_core.specs.page.Html.{read}
use Rattle.place_core.specs.page.Paths.{at_hole, mark_in}
use Rattle.place_core.specs.page.Plain.{IsPlain, IsPlainInContent, begins_with_solidus, is_behind_less}
use Rattle.place_core.specs.page.Shape.{marked, state_past_hole}
use Rattle.place_core.specs.page.States.{Config, LessAtCut, Nothing, Page, Pending, PendingBang, PendingBangDash, PendingLess, PendingName, config, PendingOpening}
use Rattle.place_core.specs.page.Tags.{OfKind, OfStyle, OfUrl, StatesAlike, ValueState, emits_fed, fed_state, languages, mark_if, OfScript}
use Rattle.place_core.specs.declared.element.Element.{Element}
use Rattle.text_norm.proofs.LanguagesKeep.{languages-keep}
use Rattle.text_norm.proofs.Places.{is_less}
use Rattle.text_norm.proofs.StyleElementKeeps.{Releases, behind, element_at, loose-read, release-read, told}
use Rattle.text_norm.proofs.StyleWaits.{html-less, html-solidus, is_comment, style-byte-told}
use Rattle.text_norm.specs.HoleLaws.{is_less_than}
use Rattle.text_norm.specs.Standing.{ComesToNothing, StandsAtStyle, StandsInStyleElement, TextStands, in_element}
use Rattle.url_lexer.specs.Events.{UrlEvent}
use Rattle.url_lexer.specs.States.{Url}

-- the bytes of a hole, at the state of a path: plain in each state of a page that is alike
pub record IsElementHole (s : Style Url) (bytes : List ℕ) : Type 0 where
  pub plain : (w : Style Url) → StylesAlike urls s w → IsPlainInStyle urls bytes w
  pub apart : list_any is_less_than bytes ≡ false
  pub begins : (w : Style Url) → StylesAlike urls s w → style_settled w ≡ Out AfterLessThan → begins_with_solidus bytes ≡ false

-- Bytes without a `<` are the style's.
pub both-false : (p q : Bool) → (p || q) ≡ false → (p ≡ false) × (q ≡ false)
both-false false false e = (refl, refl)
both-false false true e = absurd (true≢false e)
both-false true q e = absurd (true≢false e)

pub less-or-not : (b : ℕ) (c : Class) → class_of b ≡ c → is_less_than b ≡ false → is_less c ≡ false
less-or-not b LessThan k n = absurd (true≢false (sym (ap is_less_than (html-less b k)) ∙ n))
less-or-not b c k n = refl

abbrev pub style_at : Element → StyleReading Url UrlEvent → List LexEvent → Config ValueState
style_at e r u = element_at e (OfStyle r.at) Nothing (told_in_style r.told u)

-- all of them, from a state of the style that has told this
pub apart-read : (e : Element) (bs : List ℕ) (s : Style Url) (es : List (StyleEvent UrlEvent)) (u : List LexEvent) → list_any is_less_than bs ≡ false
    → read Page bs (style_at e (style_reading s es) u) ≡ style_at e (read_style urls bs (style_reading s es)) u
apart-read e [] s es u n = refl
apart-read e (b ∷ bs) s es u n =
    let m = both-false (is_less_than b) (list_any is_less_than bs) n in
    ap (read Page bs) (loose-read e s (class_of b) b (told_in_style es u) refl (less-or-not b (class_of b) refl m.0)
    ∙ ap (element_at e (OfStyle (feed_style urls s b)) Nothing) (style-byte-told s b es u))
    ∙ apart-read e bs (feed_style urls s b) (style_emits urls s b es) u m.1

-- where they lead, and what they tell
read-at : (bs : List ℕ) (s : Style Url) (es : List (StyleEvent UrlEvent)) → fed_state languages (OfStyle s) bs ≡ OfStyle (read_style urls bs (style_reading s es)).at
read-at [] s es = refl
read-at (b ∷ bs) s es = read-at bs (feed_style urls s b) (style_emits urls s b es)

read-tells : (bs : List ℕ) (s : Style Url) (es : List (StyleEvent UrlEvent)) (u : List LexEvent)
    → told_in_style (read_style urls bs (style_reading s es)).told u ≡ emits_fed languages (OfStyle s) bs (told_in_style es u)
read-tells [] s es u = refl
read-tells (b ∷ bs) s es u =
    read-tells bs (feed_style urls s b) (style_emits urls s b es) u
    ∙ ap (emits_fed languages (OfStyle (feed_style urls s b)) bs) (sym (style-byte-told s b es u))

pub content-read : (e : Element) (bs : List ℕ) (s : Style Url) → list_any is_less_than bs ≡ false
    → read Page bs (element_at e (OfStyle s) Nothing []) ≡ element_at e (fed_state languages (OfStyle s) bs) Nothing (emits_fed languages (OfStyle s) bs [])
content-read e bs s n =
    apart-read e bs s [] [] n
    ∙ ap₂ (λ (v : ValueState) (u : List LexEvent). element_at e v Nothing u) (sym (read-at bs s [])) (read-tells bs s [] [])

-- a `<` that is pending on the page before them comes to nothing, since they do not begin with a `/`
cut-same : (r : Outside) → AreAlikeOutside LessThanAtCut r → r ≡ AfterLessThan
cut-same r (the_same z o) = absurd o
cut-same r cut_less_than = refl

pub cut-is : (w : Style Url) → StylesAlike urls (Out LessThanAtCut) w → w ≡ Out AfterLessThan
cut-is (Out r) (outside a) = ap Out (cut-same r a)
cut-is (InUrl f u) a = elim a [ ]

pub release-less : (e : Element) (c : Class) (b : ℕ) → class_of b ≡ c → (b == 47) ≡ false → Releases e PendingLess c b
release-less e Solidus b k n = absurd (true≢false (sym (ap (λ (z : ℕ). z == 47) (html-solidus b k)) ∙ n))
release-less e c b k n = tt

hole-releases : (e : Element) (s w : Style Url) (held : Pending) (b : ℕ) (bs : List ℕ) → ComesToNothing Nothing held s → StylesAlike urls s w
    → (style_settled w ≡ Out AfterLessThan → begins_with_solidus (b ∷ bs) ≡ false) → Releases e held (class_of b) b
hole-releases e s w Nothing b bs h a g = tt
hole-releases e (Out LessThanAtCut) w PendingLess b bs h a g = release-less e (class_of b) b refl (g (ap style_settled (cut-is w a)))
hole-releases e (Out s) w PendingLess b bs h a g = absurd h
hole-releases e (InUrl f u) w PendingLess b bs h a g = absurd h
hole-releases e s w LessAtCut b bs h a g = absurd h
hole-releases e s w (PendingName letters) b bs h a g = absurd h
hole-releases e s w PendingBang b bs h a g = absurd h
hole-releases e s w PendingBangDash b bs h a g = absurd h
hole-releases e s w (PendingOpening letters) b bs h a g = absurd h

-- They are plain in the page.
settled-allowed : (w : Style Url) (bs : List ℕ) → MayBePlain urls bs w → MayBePlain urls bs (style_settled w)
settled-allowed (InUrl f u) bs p = p
settled-allowed (Out (AfterSolidus k)) bs p = p
settled-allowed (Out (SolidusAtCut k)) bs p = p
settled-allowed (Out s) bs p = p

leads-plain : (w : Style Url) (bs : List ℕ) → IsPlainInStyle urls bs w → languages.LeadsPlain (OfStyle (style_settled w)) bs (fed_state languages (OfStyle (style_settled w)) bs)
leads-plain w bs p =
    subst (languages.LeadsPlain (OfStyle (style_settled w)) bs) (sym (read-at bs (style_settled w) []))
    (record { leads = p.leads; allowed = settled-allowed w bs p.allowed; tells = p.tells })

behind-less-is : (r : Style Url) → is_behind_less (OfStyle r) ≡ true → r ≡ Out AfterLessThan
behind-less-is (Out AfterLessThan) h = refl
behind-less-is (Out r) h = absurd (true≢false (sym h))
behind-less-is (InUrl f u) h = absurd (true≢false (sym h))

plain-content : (e : Element) (s w : Style Url) (bytes : List ℕ) (h : IsElementHole s bytes) → StylesAlike urls s w
    → IsPlainInContent (OfStyle (style_settled w)) e bytes (read Page bytes (element_at e (OfStyle (style_settled w)) Nothing []))
plain-content e s w bytes h a =
    let r = style_settled w in
    let c = content-read e bytes r h.apart in
    record {
      within = ap (λ (z : Config ValueState). z.at) c;
      emitted = ap (λ (z : Config ValueState). z.emitted) c;
      begins = λ g. h.begins w a (behind-less-is r g);
      leads = leads-plain w bytes (h.plain w a);
    }

settled-same : (e : Element) (w : Style Url) (b : ℕ) (bs : List ℕ) (u : List LexEvent) → IsPlainInStyle urls (b ∷ bs) w
    → style_at e (read_style urls (b ∷ bs) (style_reading w [])) u ≡ style_at e (read_style urls (b ∷ bs) (style_reading (style_settled w) (style_emits_settled w []))) u
settled-same e w b bs u p = ap (λ (z : StyleReading Url UrlEvent). style_at e z u) p.apart

-- the page's state with what is pending read
pub record IsReadTo (there : Style Url) (held : Pending) (w : Style Url) : Type 0 where
  pub is : behind (OfStyle there) held ≡ OfStyle w

pub released-read : (e : Element) (w : Style Url) (there : Style Url) (held : Pending) (u : List LexEvent) (b : ℕ) (bs : List ℕ) → IsReadTo there held w
    → Releases e held (class_of b) b → list_any is_less_than (b ∷ bs) ≡ false
    → read Page (b ∷ bs) (element_at e (OfStyle there) held u) ≡ style_at e (read_style urls (b ∷ bs) (style_reading w [])) (told (OfStyle there) held u)
released-read e w there held u b bs q r apart =
    let m = both-false (is_less_than b) (list_any is_less_than bs) apart in
    ap (read Page bs) (release-read e there held (class_of b) b u refl (less-or-not b (class_of b) refl m.0) r
    ∙ ap (λ (v : ValueState). element_at e (languages.feed v b) Nothing (languages.emits v b (told (OfStyle there) held u))) q.is)
    ∙ apart-read e bs (feed_style urls w b) (style_emits urls w b []) (told (OfStyle there) held u) m.1

first-read : (e : Element) (s w : Style Url) (there : Style Url) (held : Pending) (u : List LexEvent) (bytes : List ℕ) → IsReadTo there held w
    → StylesAlike urls s w → ComesToNothing Nothing held s → IsElementHole s bytes
    → bytes ≢ [] → read Page bytes (element_at e (OfStyle there) held u) ≡ style_at e (read_style urls bytes (style_reading w [])) (told (OfStyle there) held u)
first-read e s w there held u [] q a k h n = absurd (n refl)
first-read e s w there held u (b ∷ bs) q a k h n = released-read e w there held u b bs q (hole-releases e s w held b bs k a (h.begins w a)) h.apart

settled-read : (e : Element) (s w : Style Url) (there : Style Url) (held : Pending) (u : List LexEvent) (bytes : List ℕ) → StylesAlike urls s w
    → IsElementHole s bytes
    → bytes ≢ [] → read Page bytes (element_at e (OfStyle (style_settled w)) Nothing (told_in_style (style_emits_settled w []) (told (OfStyle there) held u)))
    ≡ style_at e (read_style urls bytes (style_reading w [])) (told (OfStyle there) held u)
settled-read e s w there held u [] a h n = absurd (n refl)
settled-read e s w there held u (b ∷ bs) a h n =
    apart-read e (b ∷ bs) (style_settled w) (style_emits_settled w []) (told (OfStyle there) held u) h.apart ∙ sym (settled-same e w b bs (told (OfStyle there) held u) (h.plain w a))

pub element-plain : (e : Element) (s w : Style Url) (there : Style Url) (held : Pending) (u : List LexEvent) (bytes : List ℕ) → IsReadTo there held w
    → StylesAlike urls s w → ComesToNothing Nothing held s
    → IsElementHole s bytes → IsPlain bytes (element_at e (OfStyle there) held u)
element-plain e s w there held u bytes q a k h = (
  λ n. first-read e s w there held u bytes q a k h n
      ∙ sym (settled-read e s w there held u bytes a h n)
      ∙ ap (λ (v : ValueState). read Page bytes (element_at e (languages.settled v) Nothing (languages.emits_settled v (told (OfStyle there) held u)))) (sym q.is),
  subst (λ (v : ValueState). IsPlainInContent (languages.settled v) e bytes (read Page bytes (element_at e (languages.settled v) Nothing []))) (sym q.is) (plain-content e s w bytes h a),
)

-- They lead it behind the hole.
pub marked-at : (e : Element) (s w : Style Url) (there : Style Url) (held : Pending) (u : List LexEvent) (bytes : List ℕ) → IsReadTo there held w
    → IsElementHole s bytes
    → (let r = OfStyle (style_settled w) in
    marked bytes (element_at e (OfStyle there) held u) ≡ element_at e (languages.behind r (fed_state languages r bytes)) Nothing (mark_if (languages.has_mark (OfStyle w)) (languages.emits_settled (OfStyle w) (told (OfStyle there) held u))))
marked-at e s w there held u bytes q h =
    let r = OfStyle (style_settled w) in
    ap (λ (v : ValueState). config (state_past_hole languages (in_element e (languages.settled v) Nothing) (read Page bytes (element_at e (languages.settled v) Nothing [])).at)
    (mark_if (languages.has_mark v) (languages.emits_settled v (told (OfStyle there) held u)))) q.is
    ∙ ap (λ (c : Config ValueState). config (state_past_hole languages (in_element e r Nothing) c.at) (mark_if (languages.has_mark (OfStyle w)) (languages.emits_settled (OfStyle w) (told (OfStyle there) held u))))
    (content-read e bytes (style_settled w) h.apart)

-- a path behind a hole stands in none of the states in which something waits, unless it is in a comment
hole-stands : (e : Element) (s : Style Url) (t : List LexEvent) (d : Config ValueState) → is_comment s ≡ false → StandsAtStyle languages e s Nothing t d → (u : List LexEvent) (z : Config ValueState)
    → StandsInStyleElement languages e (style_after_hole urls s) Nothing u z → StandsAtStyle languages e (style_after_hole urls s) Nothing u z
hole-stands e (Out (Comment star)) t d n l u z h = absurd (true≢false n)
hole-stands e (Out StarAtCut) t d n l u z h = absurd (true≢false n)
hole-stands e (Out BadUrl) t d n l u z h = absurd l
hole-stands e (Out s) t d n l u z h = h
hole-stands e (InUrl f v) t d n l u z h = h

record HoleKept (e : Element) (s : Style Url) (bytes : List ℕ) (t : List LexEvent) (d : Config ValueState) : Type 0 where
  plain : IsPlain bytes d
  stands : TextStands languages (at_hole languages (in_element e (OfStyle s) Nothing)) (mark_in languages (in_element e (OfStyle s) Nothing) t) (marked bytes d)

kept-by : (e : Element) (s : Style Url) (bytes : List ℕ) (t : List LexEvent) (d : Config ValueState) → is_comment s ≡ false → StandsAtStyle languages e s Nothing t d → IsElementHole s bytes
    → (l : StandsInStyleElement languages e s Nothing t d) (v : ValueState) → behind (OfStyle l.there) l.held ≡ v → StatesAlike (OfStyle s) v
    → HoleKept e s bytes t d
kept-by e s bytes t d n g h l (OfKind k) q a = absurd a
kept-by e s bytes t d n g h l (OfUrl u) q a = absurd a
kept-by e s bytes t d n g h l (OfScript r) q a = absurd a
kept-by e s bytes t d n g h l (OfStyle w) q a =
    let r = style_settled w in
    let f = (read_style urls bytes (style_reading r [])).at in
    let fed : fed_state languages (OfStyle r) bytes ≡ OfStyle f = read-at bytes r [] in
    let to : IsReadTo l.there l.held w = record { is = q } in
    let tells = mark_if (languages.has_mark (OfStyle w)) (languages.emits_settled (OfStyle w) (told (OfStyle l.there) l.held l.told)) in
    record {
      plain = subst (IsPlain bytes) (sym l.at) (element-plain e s w l.there l.held l.told bytes to a l.nothing h);
      stands = (
        tt,
        hole-stands e s t d n g _ _ (record {
          there = style_behind urls r f;
          held = Nothing;
          told = tells;
          at = ap (marked bytes) l.at ∙ marked-at e s w l.there l.held l.told bytes to h
              ∙ ap (λ (v : ValueState). element_at e (languages.behind (OfStyle r) v) Nothing tells) fed;
          alike = languages-keep.hole (OfStyle s) (OfStyle w) (OfStyle f) bytes a
              (subst (languages.LeadsPlain (OfStyle r) bytes) fed (leads-plain w bytes (h.plain w a)));
          same = ap₂ mark_if (languages-keep.marks (OfStyle s) (OfStyle w) a) (ap (languages.emits_settled (OfStyle w)) l.same ∙ languages-keep.settles (OfStyle s) (OfStyle w) t a);
          nothing = tt;
        }),
      );
    }

-- where the path is at a place, in none of the states in which a `/` waits
abbrev pub IsLoose : Style Url → Type 0
IsLoose (Out (AfterSolidus k)) = ⊥
IsLoose (Out (Comment star)) = ⊥
IsLoose (Out StarAtCut) = ⊥
IsLoose (Out BadUrl) = ⊥
IsLoose s = ⊤

pub loose-stands : (e : Element) (s : Style Url) (t : List LexEvent) (d : Config ValueState) → IsLoose s → StandsAtStyle languages e s Nothing t d → StandsInStyleElement languages e s Nothing t d
loose-stands e (Out (AfterSolidus k)) t d o l = absurd o
loose-stands e (Out (Comment star)) t d o l = absurd o
loose-stands e (Out StarAtCut) t d o l = absurd o
loose-stands e (Out BadUrl) t d o l = absurd o
loose-stands e (Out s) t d o l = l
loose-stands e (InUrl f u) t d o l = l

no-comment-loose : (s : Style Url) → IsLoose s → is_comment s ≡ false
no-comment-loose (Out (Comment star)) o = absurd o
no-comment-loose (Out StarAtCut) o = absurd o
no-comment-loose (Out s) o = refl
no-comment-loose (InUrl f u) o = refl

pub element-hole : (e : Element) (s : Style Url) (bytes : List ℕ) (t : List LexEvent) (d : Config ValueState) → IsLoose s → IsElementHole s bytes → StandsAtStyle languages e s Nothing t d
    → IsPlain bytes d × TextStands languages (at_hole languages (in_element e (OfStyle s) Nothing)) (mark_in languages (in_element e (OfStyle s) Nothing) t) (marked bytes d)
element-hole e s bytes t d o h l =
    let own = loose-stands e s t d o l in
    let k = kept-by e s bytes t d (no-comment-loose s o) l h own (behind (OfStyle own.there) own.held) refl own.alike in
    (k.plain, k.stands)

-- in a comment a value is left out
pub comment-hole-stands : (e : Element) (s : Style Url) (t : List LexEvent) (d : Config ValueState) → is_comment s ≡ true → StandsAtStyle languages e s Nothing t d
    → TextStands languages (at_hole languages (in_element e (OfStyle s) Nothing)) (mark_in languages (in_element e (OfStyle s) Nothing) t) d
comment-hole-stands e (Out (Comment true)) t d n l = (tt, l)
comment-hole-stands e (Out (Comment false)) t d n l = (tt, l)
comment-hole-stands e (Out StarAtCut) t d n l = (tt, l)
comment-hole-stands e (Out s) t d n l = absurd (true≢false (sym n))
comment-hole-stands e (InUrl f u) t d n l = absurd (true≢false (sym n))
