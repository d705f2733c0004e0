-- What a chain promises in the element of a style leads the page's reading of bytes alone beside its reading with marks, and tells what fills the mark.
use Rattle.std.proofs.Common.{◌≡◌, ℕ, ◌==◌, Bool, true, false, List, [], ◌∷◌, None, ◌⊎◌, inl, inr, refl, sym, ap, ap₂, ◌∙◌, subst}
use Rattle.std.specs.List.{list_any}
use Rattle.css_lexer.specs.Alike.{StylesAlike}
use Rattle.css_lexer.specs.Escapes.{NoEscape}
use Rattle.css_lexer.specs.Paths.{has_mark, style_after_hole, style_behind, style_emits_settled, style_settled}
use Rattle.css_lexer.specs.Plain.{BeginsApart}
use Rattle.css_lexer.specs.ReadBack.{IsBackInCode, IsBackInString}
use Rattle.css_lexer.specs.States.{Quote, Outside, Between, AfterLessThan, Word, AfterSolidus, Comment, InString, BadUrl, BehindHole, SplitWord, SolidusAtCut, LessThanAtCut, StarAtCut, UrlForm, Style, Out, InUrl, style_start}
use Rattle.css_lexer.specs.StaysInUrl.{UrlTakesHole}
use Rattle.css_lexer.specs.Steps.{StyleReading, feed_style, read_style, style_reading}
use Rattle.css_lexer.specs.Urls.{urls}
use Rattle.page_datum.specs.Data.{Data}
use Rattle.page_datum.specs.Printed.{printed}
use Rattle.place_core.specs.page.Classes.{class_of}
use Rattle.place_core.specs.page.Contents.{pending_bytes}
use Rattle.place_core.specs.page.Events.{LexEvent, told_in_style}
use Rattle.place_core.specs.page.Html.{read}
use Rattle.place_core.specs.page.Shape.{marked}
use Rattle.place_core.specs.page.States.{Config, InContent, InLanguage, LessAtCut, LexState, Nothing, Page, Pending, PendingBang, PendingBangDash, PendingLess, PendingName, config, PendingOpening}
use Rattle.place_core.specs.page.Tags.{DoubleQuoted, OfKind, OfStyle, OfUrl, StatesAlike, ValueOf, ValueState, fed_state, languages, mark_if, OfScript}
use Rattle.place_core.specs.declared.element.Element.{Element}
use Rattle.place_core.specs.declared.element.Element.TheVariants as element
use Rattle.place_core.specs.declared.kind.Kind.TheVariants as kind
use Rattle.text_norm.proofs.FilledMarks.{AreRaw, Filled, IsElementPending, Leads, LessIf, RawFilled, RawStands, SolidusHeld, SolidusIf, StandsRaw, raw-reads}
use Rattle.text_norm.proofs.ReadBeside.{fed-step}
use Rattle.text_norm.proofs.StyleElementHoles.{IsElementHole, IsLoose, IsReadTo, apart-read, cut-is, loose-stands, marked-at, release-less, released-read, style_at}
use Rattle.text_norm.proofs.StyleElementKeeps.{IsPending, Releases, behind, element_at, told}
use Rattle.text_norm.proofs.StyleElementPromises.{code-element, element-url-promise, part_chain, string-element, url-element}
use Rattle.text_norm.proofs.StyleElementRaw.{less-leads, less-tells, raw_state, told_state, with_solidus}
use Rattle.text_norm.proofs.StyleHoles.{IsCode}
use Rattle.text_norm.proofs.StyleLeads.{CodeFills, IsCodeState, IsStyleFilled, code-filled, not-cut, solidus-path, string-filled, url-filled}
use Rattle.text_norm.proofs.StyleRaw.{IsJoined, OutBeside, StyleBeside, read-fed, read-told, style_fed, style_told}
use Rattle.text_norm.specs.Fillings.{Filling, Fills, value_fillings}
use Rattle.text_norm.specs.HoleLaws.{IsBackBy, IsBackInElement, is_less_than}
use Rattle.text_norm.specs.Standing.{ComesToNothing, StandsInStyleElement, in_element}
use Rattle.url_lexer.specs.Events.{UrlEvent}
use Rattle.url_lexer.specs.Refusals.{refuses_hole_in}
use Rattle.url_lexer.specs.States.{Url}
use Rattle.url_lexer.specs.Triples.{NoTriple}

abbrev in_style_element : Element → Style Url → LexState ValueState
in_style_element e s = in_element e (OfStyle s) Nothing

-- Where both readings are with bytes read, from where what is pending in the style is told.
abbrev AtEnd : Element → Style Url → List ℕ → List LexEvent → Config ValueState
AtEnd e r bs u = element_at e (OfStyle (style_fed (style_settled r) bs)) Nothing (style_told (style_settled r) bs (told_in_style (style_emits_settled r []) u))

-- The page of bytes alone: with what HTML holds back its style is in this state, and has told this. Only a `<` may be held back, where the path may not go on
-- with a `/`.
record MayGoOn (v r : Style Url) (held : Pending) : Type 0 where
  behind_less : r ≡ Out AfterLessThan
  solidus : Bool
  path : style_after_hole urls v ≡ Out (BehindHole solidus true)

record IsThere (e : Element) (v r : Style Url) (u : List LexEvent) (d : Config ValueState) : Type 0 where
  there : Style Url
  held : Pending
  before : List LexEvent
  at : d ≡ element_at e (OfStyle there) held before
  is : behind (OfStyle there) held ≡ OfStyle r
  tells : told (OfStyle there) held before ≡ u
  less : (held ≡ Nothing) ⊎ ((held ≡ PendingLess) × MayGoOn v r held)

-- or it is behind a `/` that the other has told
record IsBehindSolidus (e : Element) (v r : Style Url) (u : List LexEvent) (d : Config ValueState) : Type 0 where
  blank : Bool
  less : Bool
  before : List LexEvent
  path : v ≡ Out (BehindHole true less)
  at : d ≡ element_at e (raw_state blank) Nothing before
  style : r ≡ Out (Between false)
  tells : u ≡ with_solidus before

abbrev StandsThere : Element → (v r : Style Url) → List LexEvent → Config ValueState → Type 0
StandsThere e v r u d = IsThere e v r u d ⊎ IsBehindSolidus e v r u d

-- With some bytes both come to the same.
at-end : (e : Element) (r : Style Url) (bs : List ℕ) (u : List LexEvent)
    → style_at e (read_style urls bs (style_reading (style_settled r) (style_emits_settled r []))) u ≡ AtEnd e r bs u
at-end e r bs u =
    let es = style_emits_settled r [] in
    ap₂ (λ (z : Style Url) (t : List LexEvent). element_at e (OfStyle z) Nothing t) (read-fed (style_settled r) bs es) (sym (read-told (style_settled r) bs es u))

settled-end : (e : Element) (r : Style Url) (b : ℕ) (bs : List ℕ) (u : List LexEvent) → BeginsApart urls (b ∷ bs) r
    → style_at e (read_style urls (b ∷ bs) (style_reading r [])) u ≡ AtEnd e r (b ∷ bs) u
settled-end e r b bs u p = ap (λ (z : StyleReading Url UrlEvent). style_at e z u) p ∙ at-end e r (b ∷ bs) u

held-releases : (e : Element) (v r : Style Url) (held : Pending) (b : ℕ) → (held ≡ Nothing) ⊎ ((held ≡ PendingLess) × MayGoOn v r held)
    → (r ≡ Out AfterLessThan → (b == 47) ≡ false) → Releases e held (class_of b) b
held-releases e v r held b (inl h) n = subst (λ (z : Pending). Releases e z (class_of b) b) (sym h) tt
held-releases e v r held b (inr h) n = subst (λ (z : Pending). Releases e z (class_of b) b) (sym h.0) (release-less e (class_of b) b refl (n h.1.behind_less))

some-read : (e : Element) (v r : Style Url) (b : ℕ) (bs : List ℕ) (u : List LexEvent) (d : Config ValueState) → list_any is_less_than (b ∷ bs) ≡ false
    → (r ≡ Out AfterLessThan → (b == 47) ≡ false) → BeginsApart urls (b ∷ bs) r
    → ((less blank : Bool) → v ≡ Out (BehindHole true less) → BeginsApart urls (b ∷ bs) (Out (AfterSolidus blank)))
    → StandsThere e v r u d → read Page (b ∷ bs) d ≡ AtEnd e r (b ∷ bs) u
some-read e v r b bs u d apart begins p s (inl h) =
    ap (read Page (b ∷ bs)) h.at
    ∙ released-read e r h.there h.held h.before b bs (record { is = h.is }) (held-releases e v r h.held b h.less begins) apart
    ∙ ap (style_at e (read_style urls (b ∷ bs) (style_reading r []))) h.tells
    ∙ settled-end e r b bs u p
some-read e v r b bs u d apart begins p s (inr h) =
    let raw : Style Url = Out (AfterSolidus h.blank) in
    ap (read Page (b ∷ bs)) h.at
    ∙ apart-read e (b ∷ bs) raw [] h.before apart
    ∙ settled-end e raw b bs h.before (s h.less h.blank h.path)
    ∙ sym (ap₂ (λ (z : Style Url) (t : List LexEvent). AtEnd e z (b ∷ bs) t) h.style h.tells)

-- With none, the page goes on holding back.
abbrev RawBehind : Element → (v r : Style Url) → List LexEvent → Config ValueState → Type 0
RawBehind e v r u d = AreRaw (in_style_element e (style_after_hole urls v)) d (AtEnd e r [] u)

pending-at : (e : Element) (vs : List Filling) (v w r : Style Url) (u : List LexEvent) (d : Config ValueState) → StylesAlike urls v w → StyleBeside vs w r u
    → d ≡ element_at e (OfStyle r) Nothing u → RawBehind e v r u d
pending-at e vs v w (Out (AfterSolidus blank)) u d a b h =
    inr (inr (inl (subst (λ (y : Style Url). IsElementPending (in_style_element e y) d (AtEnd e (Out (AfterSolidus blank)) [] u)) (sym (solidus-path vs v w blank u a b))
    (inl (record { blank = blank; told = u; raw = h; is_settled = refl })))))
pending-at e vs v w (Out (SolidusAtCut k)) u d a b h = not-cut vs w k u b
pending-at e vs v w (Out (Between k)) u d a b h = inl h
pending-at e vs v w (Out AfterLessThan) u d a b h = inl h
pending-at e vs v w (Out (Word z i)) u d a b h = inl h
pending-at e vs v w (Out (Comment star)) u d a b h = inl h
pending-at e vs v w (Out (InString j i)) u d a b h = inl h
pending-at e vs v w (Out BadUrl) u d a b h = inl h
pending-at e vs v w (Out (BehindHole solidus less)) u d a b h = inl h
pending-at e vs v w (Out (SplitWord i)) u d a b h = inl h
pending-at e vs v w (Out LessThanAtCut) u d a b h = inl h
pending-at e vs v w (Out StarAtCut) u d a b h = inl h
pending-at e vs v w (InUrl f y) u d a b h = inl h

less-at : (e : Element) (v r : Style Url) (u : List LexEvent) (d : Config ValueState) (h : IsThere e v r u d) → h.held ≡ PendingLess → MayGoOn v r h.held → RawBehind e v r u d
less-at e v r u d h k g =
    inr (inr (inl (subst (λ (y : Style Url). IsElementPending (in_style_element e y) d (AtEnd e r [] u)) (sym g.path)
    (inr (record {
      there = h.there;
      told = h.before;
      raw = h.at ∙ ap (λ (z : Pending). element_at e (OfStyle h.there) z h.before) k;
      leads = sym (ap (behind (OfStyle h.there)) k) ∙ h.is ∙ ap OfStyle g.behind_less;
      is_settled = ap (λ (z : Style Url). AtEnd e z [] u) g.behind_less
          ∙ ap (λ (t : List LexEvent). element_at e (OfStyle (Out AfterLessThan)) Nothing t) (sym h.tells ∙ ap (λ (z : Pending). told (OfStyle h.there) z h.before) k);
    })))))

nothing-at : (e : Element) (v r : Style Url) (u : List LexEvent) (d : Config ValueState) (h : IsThere e v r u d) → h.held ≡ Nothing → d ≡ element_at e (OfStyle r) Nothing u
nothing-at e v r u d h k =
    h.at ∙ ap (λ (z : Pending). element_at e (OfStyle h.there) z h.before) k
    ∙ ap₂ (λ (z : ValueState) (t : List LexEvent). element_at e z Nothing t) (sym (ap (behind (OfStyle h.there)) k) ∙ h.is) (sym (ap (λ (z : Pending). told (OfStyle h.there) z h.before) k) ∙ h.tells)

there-behind : (e : Element) (vs : List Filling) (v w r : Style Url) (u : List LexEvent) (d : Config ValueState) → StylesAlike urls v w → StyleBeside vs w r u → (h : IsThere e v r u d)
    → (h.held ≡ Nothing) ⊎ ((h.held ≡ PendingLess) × MayGoOn v r h.held) → RawBehind e v r u d
there-behind e vs v w r u d a b h (inl k) = pending-at e vs v w r u d a b (nothing-at e v r u d h k)
there-behind e vs v w r u d a b h (inr k) = less-at e v r u d h k.0 k.1

none-read : (e : Element) (vs : List Filling) (v w r : Style Url) (u : List LexEvent) (d : Config ValueState) → StylesAlike urls v w → StyleBeside vs w r u → StandsThere e v r u d
    → RawBehind e v r u d
none-read e vs v w r u d a b (inl h) = there-behind e vs v w r u d a b h h.less
none-read e vs v w r u d a b (inr h) =
    inr (inr (inl (subst (λ (y : Style Url). IsElementPending (in_style_element e (style_after_hole urls y)) d (AtEnd e r [] u)) (sym h.path)
    (inl (record { blank = h.blank; told = h.before; raw = h.at; is_settled = ap₂ (λ (z : Style Url) (t : List LexEvent). AtEnd e z [] t) h.style h.tells })))))

-- So both readings come over the hole.
fed-is : (bs : List ℕ) (s : Style Url) → fed_state languages (OfStyle s) bs ≡ OfStyle (style_fed s bs)
fed-is [] s = refl
fed-is (b ∷ bs) s = fed-is bs (feed_style urls s b)

abbrev MarkedAt : Element → Style Url → List ℕ → List LexEvent → Config ValueState
MarkedAt e w bs t =
    element_at e (OfStyle (style_behind urls (style_settled w) (style_fed (style_settled w) bs))) Nothing (mark_if (has_mark w) (told_in_style (style_emits_settled w []) t))

marked-there : (e : Element) (v w : Style Url) (there : Style Url) (held : Pending) (u t : List LexEvent) (bytes : List ℕ) → IsReadTo there held w
    → IsElementHole v bytes
    → told (OfStyle there) held u ≡ t → marked bytes (element_at e (OfStyle there) held u) ≡ MarkedAt e w bytes t
marked-there e v w there held u t bytes q h k =
    marked-at e v w there held u bytes q h
    ∙ ap₂ (λ (z : ValueState) (y : List LexEvent). element_at e (languages.behind (OfStyle (style_settled w)) z) Nothing (mark_if (has_mark w) (told_in_style (style_emits_settled w []) y)))
    (fed-is bytes (style_settled w)) k

raw-behind : (e : Element) (v : Style Url) (text bytes : List ℕ) → IsStyleFilled v DoubleQuoted text bytes → IsElementHole v bytes
    → (vs : List Filling) (t : List LexEvent) (w r : Style Url) (u : List LexEvent) (d : Config ValueState) → StylesAlike urls v w → StyleBeside vs w r u → Fills t vs u
    → (r ≡ Out AfterLessThan → w ≡ Out AfterLessThan) → StandsThere e v r u d
    → StandsRaw (in_style_element e (style_after_hole urls v)) (value_fillings (ValueOf (OfStyle v)) DoubleQuoted text vs) (MarkedAt e w bytes t) (read Page bytes d)
raw-behind e v text [] k h vs t w r u d a b f same there =
    let g = k.goes vs w r t u a b f in
    record { settled = AtEnd e r [] u; beside = (tt, OfStyle (style_settled r), refl, (g.0, g.1)); pending = none-read e vs v w r u d a b there }
raw-behind e v text (c ∷ bs) k h vs t w r u d a b f same there =
    let g = k.goes vs w r t u a b f in
    record {
      settled = AtEnd e r (c ∷ bs) u;
      beside = (tt, OfStyle (style_fed (style_settled r) (c ∷ bs)), refl, (g.0, g.1));
      pending = inl (some-read e v r c bs u d h.apart (λ q. h.begins w a (ap style_settled (same q))) (k.apart vs w r u a b) k.slash there);
    }

-- From where the readings stand for the path: in the reading with marks its style is at `w`, with what HTML holds back, and that of bytes alone at `r`.
abbrev element_in : LexState ValueState → Element
element_in (InContent e y h) = e
element_in s = element.Other

abbrev state_in : LexState ValueState → ValueState
state_in (InContent e (InLanguage v) h) = v
state_in s = OfKind kind.Plain

abbrev pending_in : LexState ValueState → Pending
pending_in (InContent e y h) = h
pending_in s = Nothing

abbrev style_in : ValueState → Style Url
style_in (OfStyle s) = s
style_in v = style_start

less-out : (vs : List Filling) (z : Outside) (u : List LexEvent) → OutBeside vs AfterLessThan z u → z ≡ AfterLessThan
less-out vs z u (inl h) = h.0
less-out vs z u (inr h) = absurd h.0

less-style : (vs : List Filling) (r : Style Url) (u : List LexEvent) → StyleBeside vs (Out AfterLessThan) r u → r ≡ Out AfterLessThan
less-style vs (Out z) u b = ap Out (less-out vs z u b)
less-style vs (InUrl f y) u b = absurd b

raw-less : (vs : List Filling) (w r : Style Url) (u : List LexEvent) → w ≡ Out AfterLessThan → StyleBeside vs w r u → r ≡ Out AfterLessThan
raw-less vs w r u e b = less-style vs r u (subst (λ (y : Style Url). StyleBeside vs y r u) e b)

not-joined : (z : Outside) → IsJoined z AfterLessThan → ⊥
not-joined (Between true) j = j
not-joined (Between false) j = j
not-joined (AfterSolidus true) j = j
not-joined (AfterSolidus false) j = j
not-joined _ j = j

marked-less-out : (vs : List Filling) (z : Outside) (u : List LexEvent) → OutBeside vs z AfterLessThan u → z ≡ AfterLessThan
marked-less-out vs z u (inl h) = sym h.0
marked-less-out vs z u (inr h) = absurd (not-joined z h.0)

marked-less : (vs : List Filling) (w : Style Url) (u : List LexEvent) → StyleBeside vs w (Out AfterLessThan) u → w ≡ Out AfterLessThan
marked-less vs (Out z) u b = ap Out (marked-less-out vs z u b)
marked-less vs (InUrl f y) u b = absurd b

may-go-on : (vs : List Filling) (held : Pending) (v w r : Style Url) (u : List LexEvent) → ComesToNothing Nothing held v → StylesAlike urls v w → StyleBeside vs w r u
    → (held ≡ Nothing) ⊎ ((held ≡ PendingLess) × MayGoOn v r held)
may-go-on vs Nothing v w r u h a b = inl refl
may-go-on vs PendingLess (Out LessThanAtCut) w r u h a b = inr (refl, record { behind_less = raw-less vs w r u (cut-is w a) b; solidus = false; path = refl })
may-go-on vs PendingLess (Out s) w r u h a b = absurd h
may-go-on vs PendingLess (InUrl f y) w r u h a b = absurd h
may-go-on vs LessAtCut v w r u h a b = absurd h
may-go-on vs (PendingName letters) v w r u h a b = absurd h
may-go-on vs PendingBang v w r u h a b = absurd h
may-go-on vs PendingBangDash v w r u h a b = absurd h
may-go-on vs (PendingOpening letters) v w r u h a b = absurd h

hole-holds-none : (held : Pending) (solidus less : Bool) → ComesToNothing Nothing held (Out (BehindHole solidus less)) → held ≡ Nothing
hole-holds-none Nothing solidus less h = refl
hole-holds-none PendingLess solidus less h = absurd h
hole-holds-none LessAtCut solidus less h = absurd h
hole-holds-none (PendingName letters) solidus less h = absurd h
hole-holds-none PendingBang solidus less h = absurd h
hole-holds-none PendingBangDash solidus less h = absurd h
hole-holds-none (PendingOpening letters) solidus less h = absurd h

module _ (e : Element) (r y : Style Url) (held : Pending) (d settled : Config ValueState) (at : settled.at ≡ in_element e (OfStyle y) held) (is : behind (OfStyle y) held ≡ OfStyle r) where
  -- where HTML holds nothing back, by what the marked reading has come to
  settled-style : (s : Style Url) (u : List LexEvent) → held ≡ Nothing → settled ≡ element_at e (OfStyle s) Nothing u → r ≡ s
  settled-style s u k h =
      ap style_in (sym is ∙ ap (behind (OfStyle y)) k ∙ sym (ap state_in at) ∙ ap (λ (c : Config ValueState). state_in c.at) h)

  settled-told : (s : Style Url) (u : List LexEvent) → held ≡ Nothing → settled ≡ element_at e (OfStyle s) Nothing u → told (OfStyle y) held settled.emitted ≡ u
  settled-told s u k h = ap (λ (z : Pending). told (OfStyle y) z settled.emitted) k ∙ ap (λ (c : Config ValueState). c.emitted) h

  solidus-there : (v : Style Url) (solidus less : Bool) → v ≡ Out (BehindHole solidus less) → held ≡ Nothing → SolidusIf solidus e d settled
      → StandsThere e v r (told (OfStyle y) held settled.emitted) d
  solidus-there v true less i k h = inr (record {
    blank = h.blank;
    less = less;
    before = h.told;
    path = i;
    at = h.raw;
    style = settled-style (Out (Between false)) (with_solidus h.told) k h.is_settled;
    tells = settled-told (Out (Between false)) (with_solidus h.told) k h.is_settled;
  })
  solidus-there v false less i k h = absurd h

  less-there : (v : Style Url) (solidus less : Bool) → v ≡ Out (BehindHole solidus less) → held ≡ Nothing → LessIf less e d settled
      → StandsThere e v r (told (OfStyle y) held settled.emitted) d
  less-there v solidus true i k h =
      let u = languages.emits (OfStyle h.there) 60 h.told in
      let same = settled-style (Out AfterLessThan) u k h.is_settled in
      inl (record {
        there = h.there;
        held = PendingLess;
        before = h.told;
        at = h.raw;
        is = h.leads ∙ ap OfStyle (sym same);
        tells = sym (settled-told (Out AfterLessThan) u k h.is_settled);
        less = inr (refl, record { behind_less = same; solidus = solidus; path = ap (style_after_hole urls) i });
      })
  less-there v solidus false i k h = absurd h

  element-there : (v : Style Url) → ComesToNothing Nothing held v → IsElementPending (in_style_element e v) d settled
      → StandsThere e v r (told (OfStyle y) held settled.emitted) d
  element-there (Out (BehindHole solidus less)) n (inl h) = solidus-there (Out (BehindHole solidus less)) solidus less refl (hole-holds-none held solidus less n) h
  element-there (Out (BehindHole solidus less)) n (inr h) = less-there (Out (BehindHole solidus less)) solidus less refl (hole-holds-none held solidus less n) h
  element-there _ n h = absurd h

  -- where it holds a `<` back, behind a `/`
  held-there : (v : Style Url) → (held ≡ Nothing) ⊎ ((held ≡ PendingLess) × MayGoOn v r held) → SolidusHeld d settled
      → StandsThere e v r (told (OfStyle y) held settled.emitted) d
  held-there v (inl k) h = absurd (subst IsPending (ap (λ (c : Config ValueState). pending_in c.at) (sym h.own.is_settled) ∙ ap pending_in at ∙ k) h.holds)
  held-there v (inr k) h =
      let blank = h.own.blank in
      let u = h.own.told in
      let held-same : h.held ≡ held = ap (λ (c : Config ValueState). pending_in c.at) (sym h.own.is_settled) ∙ ap pending_in at in
      let element-same : h.element ≡ e = ap (λ (c : Config ValueState). element_in c.at) (sym h.own.is_settled) ∙ ap element_in at in
      let state-same : told_state ≡ OfStyle y = ap (λ (c : Config ValueState). state_in c.at) (sym h.own.is_settled) ∙ ap state_in at in
      inl (record {
        there = Out (AfterSolidus blank);
        held = held;
        before = u;
        at = h.own.raw ∙ ap₂ (λ (i : Element) (z : Pending). element_at i (raw_state blank) z u) element-same held-same;
        is = ap (behind (raw_state blank)) k.0 ∙ less-leads blank [] ∙ sym (ap (behind told_state) k.0) ∙ ap (λ (z : ValueState). behind z held) state-same ∙ is;
        tells = ap (λ (z : Pending). told (raw_state blank) z u) k.0 ∙ less-tells blank [] u ∙ sym (ap (λ (z : Pending). told told_state z (with_solidus u)) k.0)
            ∙ ap₂ (λ (z : ValueState) (t : List LexEvent). told z held t) state-same (ap (λ (c : Config ValueState). c.emitted) (sym h.own.is_settled));
        less = inr k;
      })

  there-from : (v : Style Url) → ComesToNothing Nothing held v → (held ≡ Nothing) ⊎ ((held ≡ PendingLess) × MayGoOn v r held) → AreRaw (in_style_element e v) d settled
      → StandsThere e v r (told (OfStyle y) held settled.emitted) d
  there-from v n g (inl h) = inl (record {
    there = y;
    held = held;
    before = settled.emitted;
    at = h ∙ ap (λ (z : LexState ValueState). config z settled.emitted) at;
    is = is;
    tells = refl;
    less = g;
  })
  there-from v n g (inr (inl h)) = absurd h
  there-from v n g (inr (inr (inl h))) = element-there v n h
  there-from v n g (inr (inr (inr h))) = held-there v g h

lead-by : (e : Element) (v : Style Url) (text bytes : List ℕ) → IsStyleFilled v DoubleQuoted text bytes → IsElementHole v bytes
    → (vs : List Filling) (t : List LexEvent) (m d settled : Config ValueState) (l : StandsInStyleElement languages e v Nothing t m) (y : Style Url)
    → settled.at ≡ in_element e (OfStyle y) l.held
    → AreRaw (in_style_element e v) d settled → (x z : ValueState) → behind (OfStyle l.there) l.held ≡ x → behind (OfStyle y) l.held ≡ z
    → StatesAlike (OfStyle v) x
    → RawFilled vs x z t (told (OfStyle y) l.held settled.emitted)
    → StandsRaw (in_style_element e (style_after_hole urls v)) (value_fillings (ValueOf (OfStyle v)) DoubleQuoted text vs) (marked bytes m) (read Page bytes d)
lead-by e v text bytes k h vs t m d settled l y at p (OfKind j) z i q a f = absurd a
lead-by e v text bytes k h vs t m d settled l y at p (OfUrl o) z i q a f = absurd a
lead-by e v text bytes k h vs t m d settled l y at p (OfScript o) z i q a f = absurd a
lead-by e v text bytes k h vs t m d settled l y at p (OfStyle w) (OfKind j) i q a f = absurd f.0
lead-by e v text bytes k h vs t m d settled l y at p (OfStyle w) (OfUrl o) i q a f = absurd f.0
lead-by e v text bytes k h vs t m d settled l y at p (OfStyle w) (OfScript o) i q a f = absurd f.0
lead-by e v text bytes k h vs t m d settled l y at p (OfStyle w) (OfStyle r) i q a f =
    let u = told (OfStyle y) l.held settled.emitted in
    let own = value_fillings (ValueOf (OfStyle v)) DoubleQuoted text vs in
    let there = there-from e r y l.held d settled at q v l.nothing (may-go-on vs l.held v w r u l.nothing a f.0) p in
    subst (λ (c : Config ValueState). StandsRaw (in_style_element e (style_after_hole urls v)) own c (read Page bytes d))
    (sym (ap (marked bytes) l.at ∙ marked-there e v w l.there l.held l.told t bytes (record { is = i }) h l.same))
    (raw-behind e v text bytes k h vs t w r u d a f.0 f.1 (λ o. marked-less vs w u (subst (λ (s : Style Url). StyleBeside vs w s u) o f.0)) there)

-- in both readings it is a style
lead-from : (e : Element) (v : Style Url) (text bytes : List ℕ) → IsStyleFilled v DoubleQuoted text bytes → IsElementHole v bytes
    → (vs : List Filling) (t : List LexEvent) (m d settled : Config ValueState) (l : StandsInStyleElement languages e v Nothing t m) (y : ValueState)
    → settled.at ≡ in_element e y l.held
    → AreRaw (in_style_element e v) d settled → RawFilled vs (OfStyle l.there) y l.told settled.emitted
    → StandsRaw (in_style_element e (style_after_hole urls v)) (value_fillings (ValueOf (OfStyle v)) DoubleQuoted text vs) (marked bytes m) (read Page bytes d)
lead-from e v text bytes k h vs t m d settled l (OfKind j) at p b = absurd b.0
lead-from e v text bytes k h vs t m d settled l (OfUrl o) at p b = absurd b.0
lead-from e v text bytes k h vs t m d settled l (OfScript o) at p b = absurd b.0
lead-from e v text bytes k h vs t m d settled l (OfStyle y) at p b =
    let x = behind (OfStyle l.there) l.held in
    let z = behind (OfStyle y) l.held in
    let f = fed-step ValueState languages (Filled vs) (RawFilled vs) (raw-reads vs) (pending_bytes l.held) (OfStyle l.there) (OfStyle y) l.told settled.emitted b in
    lead-by e v text bytes k h vs t m d settled l y at p x z refl refl l.alike
    (subst (λ (i : List LexEvent). RawFilled vs x z i (told (OfStyle y) l.held settled.emitted)) l.same f)

pub element-leads : (e : Element) (v : Style Url) (text bytes : List ℕ) → IsLoose v → IsStyleFilled v DoubleQuoted text bytes → IsElementHole v bytes
    → Leads (in_style_element e v) text bytes
element-leads e v text bytes o k h vs t m d l r =
    let own = loose-stands e v t m o l.1 in
    let b = subst (λ (c : Config ValueState). RawStands vs c r.settled) own.at r.beside in
    lead-from e v text bytes k h vs t m d r.settled own b.1 b.2 r.pending b.3

-- What the chains promise, by the place.
pub element-code-leads : (e : Element) (v : Outside) → IsCodeState v → IsCode v → IsLoose (Out v) → CodeFills v → has_mark {U = Url} (Out v) ≡ true → (text bytes : List ℕ)
    → IsBackInElement (IsBackInCode urls text) bytes → Leads (in_style_element e (Out v)) text bytes
element-code-leads e v c i o own m text bytes k =
    element-leads e (Out v) text bytes o (code-filled v c own m DoubleQuoted text bytes k.there.reads k.there.plain) (code-element v i text bytes k)

pub element-string-leads : (e : Element) (j : Quote) (text bytes : List ℕ) → IsBackInElement (IsBackInString urls text) bytes → Leads (in_style_element e (Out (InString j NoEscape))) text bytes
element-string-leads e j text bytes k =
    element-leads e (Out (InString j NoEscape)) text bytes tt (string-filled j DoubleQuoted text bytes (k.there.plain j) k.there.reads) (string-element j text bytes k)

pub element-url-leads : (e : Element) (f : UrlForm) (x : Url) → UrlTakesHole f → (datum : Data) (bytes : List ℕ) → x.triple ≡ NoTriple → refuses_hole_in x.part ≡ None
    → IsBackBy (part_chain x.part) datum bytes → Leads (in_style_element e (InUrl f x)) (printed datum) bytes
element-url-leads e f x o datum bytes t n k =
    let own = element-url-promise x.part datum bytes n k in
    element-leads e (InUrl f x) (printed datum) bytes tt
    (url-filled f x o DoubleQuoted (printed datum) bytes own.stays own.there.reads (λ z a. own.there.plain x z refl a t))
    (url-element f x bytes o own.stays own.apart (λ z a. own.there.plain x z refl a t))
