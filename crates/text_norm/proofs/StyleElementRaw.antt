-- In the element of a style: a page that is read as bytes alone, where it holds back what its reading with marks has told. It comes to the same as soon as
-- what it holds back comes to nothing, and behind the end tag.
use Rattle.std.proofs.Common.{◌≡◌, ℕ, ◌==◌, Bool, true, false, List, [], ◌∷◌, ◌++◌, None, ◌⊎◌, inl, inr, refl, sym, ap, ap₂, ◌∙◌, subst, true≢false}
use Rattle.css_lexer.specs.Classes.{style_class}
use Rattle.css_lexer.specs.Events.{RunByte}
use Rattle.css_lexer.specs.States.{AfterSolidus, BehindHole, Between, Style, Out}
use Rattle.css_lexer.specs.Steps.{emits_between, emits_solidus, next_between, next_solidus}
use Rattle.css_lexer.specs.declared.class.StyleClass.{StyleClass}
use Rattle.css_lexer.specs.declared.class.StyleClass.TheVariants as class
use Rattle.place_core.specs.page.Classes.{Class, White, HyphenMinus, Solidus, LessThan, GreaterThan, Letter, class_of}
use Rattle.place_core.specs.page.Contents.{emits_bang, emits_bang_dash, emits_end_name, emits_in_content, emits_less, emits_loose, is_name_of, may_be_name_of, next_bang, next_end_name, next_in_content, next_less, next_loose}
use Rattle.place_core.specs.page.Events.{InsideStyle, LexEvent, told_in_style}
use Rattle.place_core.specs.page.Html.{byte_over, read}
use Rattle.place_core.specs.page.States.{Config, InLanguage, LessAtCut, LexState, Nothing, Page, Pending, PendingBang, PendingBangDash, PendingLess, PendingName, config, PendingOpening}
use Rattle.place_core.specs.page.Tags.{OfStyle, ValueState, emits_fed, fed_state, languages}
use Rattle.place_core.specs.place.Errors.{node, refusal_from, nothing_read}
use Rattle.place_core.specs.declared.element.Element.{Element}
use Rattle.text_norm.proofs.FilledMarks.{AreRaw, IsElementPending, LessIf, LessPending, RawStands, SolidusHeld, SolidusIf, SolidusPending, StandsRaw, raw-text}
use Rattle.text_norm.proofs.StyleElementFirst.{BeginsWell, MayFollow, hole-begins, is_star_class}
use Rattle.text_norm.proofs.StyleElementKeeps.{IsPending, element_at}
use Rattle.text_norm.proofs.StyleWaits.{html-solidus}
use Rattle.text_norm.specs.Fillings.{Filling}
use Rattle.text_norm.specs.Standing.{in_element, page}
use Rattle.text_norm.specs.Written.{written}
use Rattle.url_lexer.specs.States.{Url}

-- the style of the page of bytes alone, behind a `/`, and that of the reading with marks, which has told it
abbrev pub raw_state : Bool → ValueState
raw_state blank = OfStyle (Out (AfterSolidus blank))

abbrev pub told_state : ValueState
told_state = OfStyle (Out (Between false))

abbrev pub with_solidus : List LexEvent → List LexEvent
with_solidus u = InsideStyle (RunByte 47) ∷ u

-- bytes that begin with a `<` lead both to the same, which tells the same then
pub less-leads : (blank : Bool) (bs : List ℕ) → fed_state languages (raw_state blank) (60 ∷ bs) ≡ fed_state languages told_state (60 ∷ bs)
unfolding style_class
less-leads blank bs = refl

pub less-tells : (blank : Bool) (bs : List ℕ) (u : List LexEvent) → emits_fed languages (raw_state blank) (60 ∷ bs) u ≡ emits_fed languages told_state (60 ∷ bs) (with_solidus u)
unfolding style_class
less-tells blank bs u = refl

abbrev LooseFrom : Class → ℕ → Element → ValueState → List LexEvent → Config ValueState
LooseFrom c b e v u = config (next_loose languages c b e (InLanguage v)) (emits_loose languages c b (InLanguage v) u)

loose-same : (e : Element) (c : Class) (b : ℕ) (blank : Bool) (bs : List ℕ) (u : List LexEvent)
    → LooseFrom c b e (fed_state languages (raw_state blank) (60 ∷ bs)) (emits_fed languages (raw_state blank) (60 ∷ bs) u)
    ≡ LooseFrom c b e (fed_state languages told_state (60 ∷ bs)) (emits_fed languages told_state (60 ∷ bs) (with_solidus u))
loose-same e c b blank bs u = ap₂ (LooseFrom c b e) (less-leads blank bs) (less-tells blank bs u)

-- A byte where something is pending: both come to the same, or hold more back.
abbrev SameOrHeld : Config ValueState → Config ValueState → Type 0
SameOrHeld d settled = (d ≡ settled) ⊎ SolidusHeld d settled

held : (e : Element) (h : Pending) (blank : Bool) (u : List LexEvent) → IsPending h → SolidusHeld (element_at e (raw_state blank) h u) (element_at e told_state h (with_solidus u))
held e h blank u p = record { element = e; held = h; holds = p; own = record { blank = blank; told = u; raw = refl; is_settled = refl } }

less-byte : (e : Element) (c : Class) (b : ℕ) (blank : Bool) (u : List LexEvent)
    → SameOrHeld (config (next_less languages c b e (InLanguage (raw_state blank))) (emits_less languages c b (InLanguage (raw_state blank)) u))
    (config (next_less languages c b e (InLanguage told_state)) (emits_less languages c b (InLanguage told_state) (with_solidus u)))
less-byte e Solidus b blank u = inr (held e (PendingName []) blank u tt)
less-byte e c b blank u = inl (loose-same e c b blank [] u)

name-byte : (e : Element) (grows whole : Bool) (c : Class) (b : ℕ) (letters : List ℕ) (blank : Bool) (u : List LexEvent)
    → SameOrHeld (config (next_end_name languages grows whole c b e (InLanguage (raw_state blank)) letters) (emits_end_name languages grows whole c b (InLanguage (raw_state blank)) letters u))
    (config (next_end_name languages grows whole c b e (InLanguage told_state) letters) (emits_end_name languages grows whole c b (InLanguage told_state) letters (with_solidus u)))
name-byte e true whole (Letter l) b letters blank u = inr (held e (PendingName (letters ++ b ∷ [])) blank u tt)
name-byte e grows true White b letters blank u = inl refl
name-byte e grows true Solidus b letters blank u = inl refl
name-byte e grows true GreaterThan b letters blank u = inl refl
name-byte e grows whole c b letters blank u = inl (loose-same e c b blank (47 ∷ letters) u)

bang-byte : (e : Element) (c : Class) (b : ℕ) (blank : Bool) (u : List LexEvent)
    → SameOrHeld (config (next_bang languages c b e (InLanguage (raw_state blank))) (emits_bang languages c b (InLanguage (raw_state blank)) u))
    (config (next_bang languages c b e (InLanguage told_state)) (emits_bang languages c b (InLanguage told_state) (with_solidus u)))
bang-byte e HyphenMinus b blank u = inr (held e PendingBangDash blank u tt)
bang-byte e c b blank u = inl (loose-same e c b blank (33 ∷ []) u)

dash-byte : (e : Element) (c : Class) (b : ℕ) (blank : Bool) (u : List LexEvent)
    → SameOrHeld (config (next_in_content languages PendingBangDash c b e (InLanguage (raw_state blank))) (emits_bang_dash languages c b (InLanguage (raw_state blank)) u))
    (config (next_in_content languages PendingBangDash c b e (InLanguage told_state)) (emits_bang_dash languages c b (InLanguage told_state) (with_solidus u)))
unfolding style_class
dash-byte e HyphenMinus b blank u = inl refl
dash-byte e c b blank u = inl (loose-same e c b blank (33 ∷ 45 ∷ []) u)

content-byte : (e : Element) (h : Pending) (c : Class) (b : ℕ) (blank : Bool) (u : List LexEvent) → IsPending h
    → SameOrHeld (config (next_in_content languages h c b e (InLanguage (raw_state blank))) (emits_in_content languages h c b e (InLanguage (raw_state blank)) u))
    (config (next_in_content languages h c b e (InLanguage told_state)) (emits_in_content languages h c b e (InLanguage told_state) (with_solidus u)))
content-byte e Nothing c b blank u p = absurd p
content-byte e PendingLess c b blank u p = less-byte e c b blank u
content-byte e LessAtCut c b blank u p = inl (loose-same e c b blank [] u)
content-byte e (PendingName letters) c b blank u p = name-byte e (may_be_name_of e (letters ++ b ∷ [])) (is_name_of e letters) c b letters blank u
content-byte e PendingBang c b blank u p = bang-byte e c b blank u
content-byte e PendingBangDash c b blank u p = dash-byte e c b blank u
content-byte e (PendingOpening letters) c b blank u p = inl (loose-same e c b blank letters u)

-- and bytes
held-byte : (b : ℕ) (d s : Config ValueState) → SolidusHeld d s → SameOrHeld (byte_over languages Page b d) (byte_over languages Page b s)
held-byte b d s h =
    subst (λ (z : Config ValueState). SameOrHeld (byte_over languages Page b z) (byte_over languages Page b s)) (sym h.own.raw)
    (subst (λ (z : Config ValueState). SameOrHeld (byte_over languages Page b (element_at h.element (raw_state h.own.blank) h.held h.own.told)) (byte_over languages Page b z)) (sym h.own.is_settled)
    (content-byte h.element h.held (class_of b) b h.own.blank h.own.told h.holds))

held-by : (b : ℕ) (bs : List ℕ) (d s : Config ValueState) → ((d s : Config ValueState) → SolidusHeld d s → SameOrHeld (read Page bs d) (read Page bs s))
    → SameOrHeld (byte_over languages Page b d) (byte_over languages Page b s) → SameOrHeld (read Page (b ∷ bs) d) (read Page (b ∷ bs) s)
held-by b bs d s more (inl h) = inl (ap (read Page bs) h)
held-by b bs d s more (inr h) = more (byte_over languages Page b d) (byte_over languages Page b s) h

pub held-bytes : (bs : List ℕ) (d s : Config ValueState) → SolidusHeld d s → SameOrHeld (read Page bs d) (read Page bs s)
held-bytes [] d s h = inr h
held-bytes (b ∷ bs) d s h = held-by b bs d s (held-bytes bs) (held-byte b d s h)

-- Where nothing is pending: behind the `/`, by a byte that is no `*`.
class-leads : (c : StyleClass) (b : ℕ) → is_star_class c ≡ false → next_solidus {U = Url} c b ≡ next_between false c b
class-leads class.Asterisk b n = absurd (true≢false n)
class-leads c b n = refl

class-tells : (blank : Bool) (c : StyleClass) (b : ℕ) (u : List LexEvent) → is_star_class c ≡ false
    → told_in_style (emits_solidus blank c b []) u ≡ told_in_style (emits_between false c b []) (with_solidus u)
class-tells blank class.Asterisk b u n = absurd (true≢false n)
class-tells blank class.Blank b u n = refl
class-tells blank c b u n = refl

-- both read it alike, and where it is a `<` that is held back
loose-byte : (e : Element) (c : Class) (b : ℕ) (blank : Bool) (u : List LexEvent) → is_star_class (style_class b) ≡ false
    → SameOrHeld (LooseFrom c b e (raw_state blank) u) (LooseFrom c b e told_state (with_solidus u))
loose-byte e LessThan b blank u n = inr (held e PendingLess blank u tt)
loose-byte e c b blank u n =
    inl (ap₂ (λ (z : Style Url) (t : List LexEvent). element_at e (OfStyle z) Nothing t) (class-leads (style_class b) b n) (class-tells blank (style_class b) b u n))

solidus-byte : (e : Element) (b : ℕ) (d s : Config ValueState) → is_star_class (style_class b) ≡ false → SolidusPending e Nothing d s
    → SameOrHeld (byte_over languages Page b d) (byte_over languages Page b s)
solidus-byte e b d s n h =
    subst (λ (z : Config ValueState). SameOrHeld (byte_over languages Page b z) (byte_over languages Page b s)) (sym h.raw)
    (subst (λ (z : Config ValueState). SameOrHeld (byte_over languages Page b (element_at e (raw_state h.blank) Nothing h.told)) (byte_over languages Page b z)) (sym h.is_settled)
    (loose-byte e (class_of b) b h.blank h.told n))

-- behind a `<`, by a byte that is no `/`
less-on : (e : Element) (c : Class) (b : ℕ) (v : ValueState) (u : List LexEvent) → class_of b ≡ c → (b == 47) ≡ false
    → config (next_less languages c b e (InLanguage v)) (emits_less languages c b (InLanguage v) u) ≡ LooseFrom c b e (languages.feed v 60) (languages.emits v 60 u)
less-on e Solidus b v u k n = absurd (true≢false (sym (ap (λ (z : ℕ). z == 47) (html-solidus b k)) ∙ n))
less-on e c b v u k n = refl

less-held : (e : Element) (b : ℕ) (d s : Config ValueState) → (b == 47) ≡ false → LessPending e d s → byte_over languages Page b d ≡ byte_over languages Page b s
less-held e b d s n h =
    ap (byte_over languages Page b) h.raw ∙ less-on e (class_of b) b (OfStyle h.there) h.told refl n
    ∙ ap (λ (v : ValueState). LooseFrom (class_of b) b e v (languages.emits (OfStyle h.there) 60 h.told)) h.leads
    ∙ ap (byte_over languages Page b) (sym h.is_settled)

-- So bytes that begin well lead both to the same, or hold more back.
abbrev Behind : (solidus less : Bool) → Element → (d s : Config ValueState) → Type 0
Behind solidus less e d s = SolidusIf solidus e d s ⊎ LessIf less e d s

first-byte : (solidus less : Bool) (e : Element) (b : ℕ) (d s : Config ValueState) → MayFollow solidus less b → Behind solidus less e d s
    → SameOrHeld (byte_over languages Page b d) (byte_over languages Page b s)
first-byte true less e b d s f (inl h) = solidus-byte e b d s (f.no_comment refl) h
first-byte false less e b d s f (inl h) = absurd h
first-byte solidus true e b d s f (inr h) = inl (less-held e b d s (f.no_end_tag refl) h)
first-byte solidus false e b d s f (inr h) = absurd h

some-bytes : (solidus less : Bool) (e : Element) (out : List ℕ) (d s : Config ValueState) → BeginsWell solidus less out → Behind solidus less e d s
    → SameOrHeld (read Page out d) (read Page out s)
some-bytes solidus less e [] d s f h = absurd f
some-bytes solidus less e (b ∷ bs) d s f h = held-by b bs d s (held-bytes bs) (first-byte solidus less e b d s f h)

-- The text of a node that is accepted leads both readings on: the path is behind the hole still where there is no text.
raw-at : (s : LexState ValueState) (d e : Config ValueState) → SameOrHeld d e → AreRaw s d e
raw-at s d e (inl h) = inl h
raw-at s d e (inr h) = inr (inr (inr h))

pub held-text : (bytes : List ℕ) (s : LexState ValueState) (vs : List Filling) (m d e : Config ValueState) → RawStands vs m e → SolidusHeld d e
    → (let out = written languages bytes s in StandsRaw (node bytes s) vs (page languages out m) (page languages out d))
held-text bytes s vs m d e r h =
    let out = written languages bytes s in
    record {
      settled = page languages out e;
      beside = raw-text vs out m e r;
      pending = raw-at (node bytes s) (page languages out d) (page languages out e) (held-bytes out d e h);
    }

pub element-text : (bytes : List ℕ) (solidus less : Bool) (e : Element) (vs : List Filling) (m d to : Config ValueState)
    → (let s = in_element e (OfStyle (Out (BehindHole solidus less))) Nothing in
    refusal_from 0 nothing_read bytes s ≡ None → RawStands vs m to → IsElementPending s d to
    → StandsRaw (node bytes s) vs (page languages (written languages bytes s) m) (page languages (written languages bytes s) d))
element-text [] solidus less e vs m d to n r h = record { settled = to; beside = r; pending = inr (inr (inl h)) }
element-text (b ∷ bs) solidus less e vs m d to n r h =
    let s = in_element e (OfStyle (Out (BehindHole solidus less))) Nothing in
    let out = written languages (b ∷ bs) s in
    record {
      settled = page languages out to;
      beside = raw-text vs out m to r;
      pending = raw-at (node (b ∷ bs) s) (page languages out d) (page languages out to)
          (some-bytes solidus less e out d to (hole-begins solidus less e b bs 0 nothing_read n) h);
    }
