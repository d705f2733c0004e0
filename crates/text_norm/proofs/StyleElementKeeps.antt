-- What is written of a style in its element leads the page's reading where the path's leads. The style reads the same bytes in both, but that a comment
-- of the path is a space of the page; and HTML holds the same back in both, but where a node has ended in a `<`.
use Rattle.std.proofs.Common.{◌≡◌, ℕ, ◌-◌, ◌&&◌, Bool, true, false, codes, length, List, [], ◌∷◌, ◌++◌, Option, Some, None, option_map, inl, inr, refl, sym, ap, ap₂, ◌∙◌, subst, true≢false}
use Rattle.std.proofs.lemmas.List.{append-nil, append_assoc}
use Rattle.std.proofs.lemmas.List.Folds.{list_all-append}
use Rattle.std.specs.Char.{is_ascii_alphabetic}
use Rattle.std.specs.List.{list_all}
use Rattle.std.specs.Prelude.{⊤}
use Rattle.css_lexer.proofs.StylesKeep.{some}
use Rattle.css_lexer.specs.Alike.{outside, the_same}
use Rattle.css_lexer.specs.Classes.{style_class}
use Rattle.css_lexer.specs.Elements.{or_less_than, refuses_less_than_cut}
use Rattle.css_lexer.specs.Escapes.{NoEscape, AfterBackslash, HexDigits, AfterReturn}
use Rattle.css_lexer.specs.Paths.{style_after_cut}
use Rattle.css_lexer.specs.RefusalCodes.{RefusalCode, SplitToken, StyleCutRefusal}
use Rattle.css_lexer.specs.Refusals.{style_refuses, style_refuses_class}
use Rattle.css_lexer.specs.States.{Between, AfterLessThan, Word, AfterSolidus, Comment, InString, BadUrl, BehindHole, SplitWord, SolidusAtCut, LessThanAtCut, StarAtCut, Fresh, Bare, Quoted, Ended, Style, Out, InUrl}
use Rattle.css_lexer.specs.Steps.{blank_once, feed_style, next_style_comment, style_emits, style_emits_class, style_next}
use Rattle.css_lexer.specs.Urls.{urls}
use Rattle.css_lexer.specs.Written.{style_written, style_written_at_cut, written_class, written_in_comment}
use Rattle.css_lexer.specs.declared.class.StyleClass.{StyleClass}
use Rattle.css_lexer.specs.declared.class.StyleClass.TheVariants as class
use Rattle.place_core.proofs.Readings.{over-append}
use Rattle.place_core.specs.page.Classes.{Class, White, Solidus, LessThan, GreaterThan, Letter, class_of}
use Rattle.place_core.specs.page.Contents.{content_at_cut, emits_content_cut, emits_end_name, emits_in_content, emits_less, emits_loose, is_name_of, may_be_name_of, next_end_name, next_in_content, next_less, next_loose, pending_at_cut, pending_bytes}
use Rattle.place_core.specs.page.Events.{LexEvent, EndTagBegins, TagEnds, tag_name_bytes, told_in_style}
use Rattle.place_core.specs.page.Html.{byte_over}
use Rattle.place_core.specs.page.References.{Closed}
use Rattle.place_core.specs.page.States.{BeforeAttributeName, Config, InContent, InLanguage, LessAtCut, Nothing, Page, Pending, PendingBang, PendingBangDash, PendingLess, PendingName, PendingOpening, SelfClosingStartTag, Text, config}
use Rattle.place_core.specs.page.Tags.{OfKind, OfStyle, OfUrl, StatesAlike, ValueState, emits_fed, end_tag, fed_state, language_feeding, languages, refuses_in_value, style_code, style_cut, OfScript}
use Rattle.place_core.specs.place.Errors.{at_hand, cause_back, content_byte_error, content_end_cut_error, cut_cause, end_name_error, fed_error, first_cause, less_error, loose_byte_error, pending_error}
use Rattle.place_core.specs.declared.code.Code.{Code}
use Rattle.place_core.specs.declared.element.Element.{Element}
use Rattle.text_norm.proofs.LanguagesKeep.{languages-keep}
use Rattle.text_norm.proofs.Places.{is_less, no}
use Rattle.text_norm.proofs.Runs.{on}
use Rattle.text_norm.proofs.StyleWaits.{NoStars, OpensOrNot, MayOpen, comment-bytes, comment-tells, end-tag-no-stars, fed-style, is_bad, is_comment, is_star, less-behind, less-class, letter-alphabetic, no-comment, no-comments, opens-or-not, solidus-class, html-solidus, solidus-out, space-behind, stays-sound, style_behind_bytes, style_writing, waits, waits-byte, waits-bytes, word-behind-letter}
use Rattle.text_norm.proofs.TextKeeps.{class_less, class_solidus}
use Rattle.text_norm.proofs.ValuesKeep.{both-none}
use Rattle.text_norm.specs.Standing.{ComesToNothing, EndTagBegun, MayGoOn, StandsAtStyle, StandsInLanguage, StandsInStyleElement, TextStands, behind_space, in_element, page}
use Rattle.text_norm.specs.Written.{cut_out, end_tag_out, language_content_out, language_cut_out, language_less_out, language_loose_out, language_name_out, released_out}
use Rattle.url_lexer.specs.States.{Url}

abbrev pub element_at : Element → ValueState → Pending → List LexEvent → Config ValueState
element_at e v g u = config (in_element e v g) u

-- what is pending on the page, read by its style
abbrev pub behind : ValueState → Pending → ValueState
behind v g = fed_state languages v (pending_bytes g)

abbrev pub told : ValueState → Pending → List LexEvent → List LexEvent
told v g u = emits_fed languages v (pending_bytes g) u

class_space : class_of 32 ≡ White
unfolding class_of
class_space = refl

-- By a `<` it comes to nothing, whatever it is.
name-less : (e : Element) (grows whole : Bool) (b : ℕ) (v : ValueState) (letters : List ℕ) (u : List LexEvent)
    → config (next_end_name languages grows whole LessThan b e (InLanguage v) letters) (emits_end_name languages grows whole LessThan b (InLanguage v) letters u)
    ≡ element_at e (fed_state languages v (codes "</" ++ letters)) PendingLess (emits_fed languages v (codes "</" ++ letters) u)
name-less e true true b v letters u = refl
name-less e true false b v letters u = refl
name-less e false true b v letters u = refl
name-less e false false b v letters u = refl

less-read : (e : Element) (s : Style Url) (g : Pending) (u : List LexEvent)
    → byte_over languages Page 60 (element_at e (OfStyle s) g u) ≡ element_at e (behind (OfStyle s) g) PendingLess (told (OfStyle s) g u)
less-read e s Nothing u = rw class_less refl
less-read e s PendingLess u = rw class_less refl
less-read e s LessAtCut u = rw class_less refl
less-read e s (PendingName letters) u = rw class_less (name-less e (may_be_name_of e (letters ++ 60 ∷ [])) (is_name_of e letters) 60 (OfStyle s) letters u)
less-read e s PendingBang u = rw class_less refl
less-read e s PendingBangDash u = rw class_less refl
less-read e s (PendingOpening letters) u = rw class_less refl

-- a byte by which it does too, and which the style reads then
abbrev pub NoName : (grows whole : Bool) → Class → Type 0
NoName true whole (Letter l) = ⊥
NoName grows true White = ⊥
NoName grows true Solidus = ⊥
NoName grows true GreaterThan = ⊥
NoName grows whole c = ⊤

abbrev pub Releases : Element → Pending → Class → ℕ → Type 0
Releases e Nothing c b = ⊤
Releases e PendingLess Solidus b = ⊥
Releases e PendingLess c b = ⊤
Releases e (PendingName letters) c b = NoName (may_be_name_of e (letters ++ b ∷ [])) (is_name_of e letters) c
Releases e h c b = ⊥

name-read : (e : Element) (grows whole : Bool) (c : Class) (b : ℕ) (v : ValueState) (letters : List ℕ) (u : List LexEvent) → is_less c ≡ false → NoName grows whole c
    → config (next_end_name languages grows whole c b e (InLanguage v) letters) (emits_end_name languages grows whole c b (InLanguage v) letters u)
    ≡ element_at e (languages.feed (fed_state languages v (codes "</" ++ letters)) b) Nothing
    (languages.emits (fed_state languages v (codes "</" ++ letters)) b (emits_fed languages v (codes "</" ++ letters) u))
name-read e true whole (Letter l) b v letters u n k = absurd k
name-read e grows true White b v letters u n k = absurd k
name-read e grows true Solidus b v letters u n k = absurd k
name-read e grows true GreaterThan b v letters u n k = absurd k
name-read e grows whole LessThan b v letters u n k = absurd (no n)
name-read e grows whole c b v letters u n k = refl

pub release-read : (e : Element) (s : Style Url) (g : Pending) (c : Class) (b : ℕ) (u : List LexEvent) → class_of b ≡ c → is_less c ≡ false → Releases e g c b
    → (let v = behind (OfStyle s) g in byte_over languages Page b (element_at e (OfStyle s) g u) ≡ element_at e (languages.feed v b) Nothing (languages.emits v b (told (OfStyle s) g u)))
release-read e s Nothing LessThan b u k n r = absurd (no n)
release-read e s Nothing c b u k n r = rw k refl
release-read e s PendingLess Solidus b u k n r = absurd r
release-read e s PendingLess LessThan b u k n r = absurd (no n)
release-read e s PendingLess c b u k n r = rw k refl
release-read e s (PendingName letters) c b u k n r = rw k (name-read e (may_be_name_of e (letters ++ b ∷ [])) (is_name_of e letters) c b (OfStyle s) letters u n r)
release-read e s LessAtCut c b u k n r = absurd r
release-read e s PendingBang c b u k n r = absurd r
release-read e s PendingBangDash c b u k n r = absurd r
release-read e s (PendingOpening letters) c b u k n r = absurd r

pub loose-read : (e : Element) (s : Style Url) (c : Class) (b : ℕ) (u : List LexEvent) → class_of b ≡ c → is_less c ≡ false
    → byte_over languages Page b (element_at e (OfStyle s) Nothing u) ≡ element_at e (OfStyle (feed_style urls s b)) Nothing (languages.emits (OfStyle s) b u)
loose-read e s c b u k n = release-read e s Nothing c b u k n tt

-- Where the page is: with what is pending read, it is in a state that is alike to the path's, and has told the same.
record IsAt (e : Element) (s : Style Url) (held : Pending) (t : List LexEvent) (d : Config ValueState) : Type 0 where
  there : Style Url
  before : List LexEvent
  at : d ≡ config (in_element e (OfStyle there) held) before
  alike : StatesAlike (OfStyle s) (fed_state languages (OfStyle there) (pending_bytes held))
  same : emits_fed languages (OfStyle there) (pending_bytes held) before ≡ t

taken-byte : (s : Style Url) (b : ℕ) → style_refuses urls s b ≡ None → refuses_in_value (OfStyle s) b ≡ None
taken-byte s b n = ap (λ (o : Option RefusalCode). option_map style_code o) n

read-on : (e : Element) (s : Style Url) (g : Pending) (c : Class) (b : ℕ) (t : List LexEvent) (d : Config ValueState) → class_of b ≡ c → is_less c ≡ false → Releases e g c b
    → IsAt e s g t d → style_refuses urls s b ≡ None → IsAt e (feed_style urls s b) Nothing (told_in_style (style_emits urls s b []) t) (page languages (b ∷ []) d)
read-on e s g c b t d k n r h m =
    let p = style_behind_bytes h.there (pending_bytes g) in
    let own = fed-style (pending_bytes g) h.there in
    let u = told (OfStyle h.there) g h.before in
    let alike = subst (StatesAlike (OfStyle s)) own h.alike in
    record {
      there = feed_style urls p b;
      before = languages.emits (OfStyle p) b u;
      at = ap (page languages (b ∷ [])) h.at ∙ release-read e h.there g c b h.before k n r
          ∙ ap (λ (v : ValueState). element_at e (languages.feed v b) Nothing (languages.emits v b u)) own;
      alike = languages-keep.feeds (OfStyle s) (OfStyle p) b alike (taken-byte s b m);
      same = ap (languages.emits (OfStyle p) b) h.same ∙ languages-keep.emits (OfStyle s) (OfStyle p) b t alike (taken-byte s b m);
    }

-- By the path's state: what stands where nothing waits, and where a `/` does.
abbrev CommentIf : Element → Style Url → List LexEvent → Config ValueState → Type 0
CommentIf e (Out (AfterSolidus k)) t d = page languages (codes " ") d ≡ behind_space e (told_in_style (blank_once k []) t)
CommentIf e s t d = ⊤

pub as-is : (e : Element) (s : Style Url) (h : Pending) (t : List LexEvent) (d : Config ValueState) → is_comment s ≡ false → StandsAtStyle languages e s h t d
    → StandsInStyleElement languages e s h t (page languages (waits s) d)
as-is e (Out (AfterSolidus k)) h t d n l = l.as_is
as-is e (Out (Comment star)) h t d n l = absurd (true≢false n)
as-is e (Out StarAtCut) h t d n l = absurd (true≢false n)
as-is e (Out BadUrl) h t d n l = absurd l
as-is e (Out s) h t d n l = l
as-is e (InUrl f u) h t d n l = l

comment-of : (e : Element) (s : Style Url) (h : Pending) (t : List LexEvent) (d : Config ValueState) → StandsAtStyle languages e s h t d → CommentIf e s t d
comment-of e (Out (AfterSolidus k)) h t d l = l.comment
comment-of e (Out s) h t d l = tt
comment-of e (InUrl f u) h t d l = tt

not-bad : (e : Element) (s : Style Url) (h : Pending) (t : List LexEvent) (d : Config ValueState) → StandsAtStyle languages e s h t d → is_bad s ≡ false
not-bad e (Out BadUrl) h t d l = absurd l
not-bad e (Out s) h t d l = refl
not-bad e (InUrl f u) h t d l = refl

stands-at : (e : Element) (s : Style Url) (h : Pending) (t : List LexEvent) (d : Config ValueState) → is_comment s ≡ false → is_bad s ≡ false
    → StandsInStyleElement languages e s h t (page languages (waits s) d) → CommentIf e s t d → StandsAtStyle languages e s h t d
stands-at e (Out (AfterSolidus k)) h t d n i l c = record { as_is = l; comment = c }
stands-at e (Out (Comment star)) h t d n i l c = absurd (true≢false n)
stands-at e (Out StarAtCut) h t d n i l c = absurd (true≢false n)
stands-at e (Out BadUrl) h t d n i l c = absurd (true≢false i)
stands-at e (Out s) h t d n i l c = l
stands-at e (InUrl f u) h t d n i l c = l

-- behind a `/`, by a space
spaced-by : (e : Element) (s : Style Url) (v : ValueState) (u : List LexEvent) (k : Bool) (t : List LexEvent) → StatesAlike (OfStyle s) v → u ≡ t → style_refuses urls s 47 ≡ None → feed_style urls s 47 ≡ Out (AfterSolidus k)
    → element_at e (languages.feed v 32) Nothing (languages.emits v 32 u) ≡ behind_space e (told_in_style (blank_once k []) (told_in_style (style_emits urls s 47 []) t))
spaced-by e s (OfKind k) u j t a q n f = absurd a
spaced-by e s (OfUrl z) u j t a q n f = absurd a
spaced-by e s (OfScript z) u j t a q n f = absurd a
spaced-by e s (OfStyle r) u j t a q n f =
    let p = space-behind s r j t a n f in
    ap₂ (λ (z : Style Url) (y : List LexEvent). element_at e (OfStyle z) Nothing y) p.0 (ap (λ (y : List LexEvent). told_in_style (style_emits urls r 32 []) y) q ∙ p.1)

spaced : (e : Element) (s : Style Url) (g : Pending) (k : Bool) (t : List LexEvent) (d : Config ValueState) → IsAt e s g t d → Releases e g White 32 → style_refuses urls s 47 ≡ None → feed_style urls s 47 ≡ Out (AfterSolidus k)
    → page languages (codes " ") d ≡ behind_space e (told_in_style (blank_once k []) (told_in_style (style_emits urls s 47 []) t))
spaced e s g k t d h r n f =
    ap (page languages (32 ∷ [])) h.at ∙ release-read e h.there g White 32 h.before class_space refl r
    ∙ spaced-by e s (behind (OfStyle h.there) g) (told (OfStyle h.there) g h.before) k t h.alike h.same n f

open-field : (e : Element) (s : Style Url) (b : ℕ) (t : List LexEvent) (d : Config ValueState) (z : Style Url) (held : Pending) → feed_style urls s b ≡ z → is_comment s ≡ false → style_refuses urls s b ≡ None
    → IsAt e s held t (page languages (waits s) d) → (b ≡ 47 → Releases e held White 32) → CommentIf e z (told_in_style (style_emits urls s b []) t) (page languages (style_written urls s b) d)
open-field e s b t d (Out (AfterSolidus k)) held f n m is r =
    let o = solidus-out s b k n f in
    subst (λ (y : ℕ). page languages (codes " ") (page languages (style_written urls s b) d) ≡ behind_space e (told_in_style (blank_once k []) (told_in_style (style_emits urls s y []) t))) (sym o.1)
    (ap (λ (out : List ℕ). page languages (codes " ") (page languages out d)) (sym o.0)
    ∙ spaced e s held k t (page languages (waits s) d) is (r o.1) (subst (λ (y : ℕ). style_refuses urls s y ≡ None) o.1 m) (subst (λ (y : ℕ). feed_style urls s y ≡ Out (AfterSolidus k)) o.1 f))
open-field e s b t d (Out z) held f n m is r = tt
open-field e s b t d (InUrl g u) held f n m is r = tt

-- A byte that the style reads, at which what is pending on the page comes to nothing.
record Ready (e : Element) (s : Style Url) (c : Class) (b : ℕ) (t : List LexEvent) (d : Config ValueState) : Type 0 where
  held : Pending
  is : IsAt e s held t (page languages (waits s) d)
  releases : Releases e held c b
  space : b ≡ 47 → Releases e held White 32
  comment : CommentIf e s t d

written-on : (s : Style Url) (b : ℕ) (d : Config ValueState) → is_comment s ≡ false → is_comment (feed_style urls s b) ≡ false
    → page languages (b ∷ []) (page languages (waits s) d) ≡ page languages (waits (feed_style urls s b)) (page languages (style_written urls s b) d)
written-on s b d n m =
    sym (over-append languages Page (waits s) (b ∷ []) d)
    ∙ ap (λ (out : List ℕ). page languages out d) (waits-byte s b n m)
    ∙ over-append languages Page (style_written urls s b) (waits (feed_style urls s b)) d

opened : (e : Element) (s : Style Url) (c : StyleClass) (b : ℕ) (t : List LexEvent) (d : Config ValueState) → MayOpen s c → style_refuses_class urls s c b ≡ None → CommentIf e s t d
    → StandsAtStyle languages e (style_next urls s c b) Nothing (told_in_style (style_emits_class urls s c b []) t) (page languages (written_class urls s c b) d)
opened e (Out (AfterSolidus k)) class.Asterisk b t d o m h = h
opened e (Out (SolidusAtCut k)) class.Asterisk b t d o m h = absurd (some _ m)
opened e s c b t d o m h = absurd o

read-by : (e : Element) (s : Style Url) (c : Class) (b : ℕ) (t : List LexEvent) (d : Config ValueState) → class_of b ≡ c → is_less c ≡ false → is_comment s ≡ false → is_bad s ≡ false → style_refuses urls s b ≡ None
    → Ready e s c b t d → OpensOrNot s (feed_style urls s b) (style_class b)
    → StandsAtStyle languages e (feed_style urls s b) Nothing (told_in_style (style_emits urls s b []) t) (page languages (style_written urls s b) d)
read-by e s c b t d k l n i m r (inl q) =
    let more = feed_style urls s b in
    let u = told_in_style (style_emits urls s b []) t in
    let out = page languages (style_written urls s b) d in
    let z = subst (IsAt e more Nothing u) (written-on s b d n q) (read-on e s r.held c b t (page languages (waits s) d) k l r.releases r.is m) in
    stands-at e more Nothing u out q (stays-sound s (style_class b) b i m)
    (record { there = z.there; held = Nothing; told = z.before; at = z.at; alike = z.alike; same = z.same; nothing = tt })
    (open-field e s b t d more r.held refl n m r.is r.space)
read-by e s c b t d k l n i m r (inr o) = opened e s (style_class b) b t d o m r.comment

read-byte : (e : Element) (s : Style Url) (c : Class) (b : ℕ) (t : List LexEvent) (d : Config ValueState) → class_of b ≡ c → is_less c ≡ false → is_comment s ≡ false → is_bad s ≡ false → style_refuses urls s b ≡ None
    → Ready e s c b t d → StandsAtStyle languages e (feed_style urls s b) Nothing (told_in_style (style_emits urls s b []) t) (page languages (style_written urls s b) d)
read-byte e s c b t d k l n i m r = read-by e s c b t d k l n i m r (opens-or-not s (style_class b) b n)

-- In a comment.
comment-step : (e : Element) (star : Bool) (c : StyleClass) (t : List LexEvent) (d : Config ValueState) → page languages (codes " ") d ≡ behind_space e t
    → StandsAtStyle languages e (next_style_comment star c) Nothing t (page languages (written_in_comment {U = Url} (next_style_comment star c)) d)
comment-step e true class.Solidus t d h = record { there = Out (Between true); held = Nothing; told = t; at = h; alike = outside (the_same _ tt); same = refl; nothing = tt }
comment-step e true class.Asterisk t d h = h
comment-step e false class.Asterisk t d h = h
comment-step e true c t d h = h
comment-step e false c t d h = h

comment-byte : (e : Element) (s : Style Url) (b : ℕ) (t : List LexEvent) (d : Config ValueState) → is_comment s ≡ true → StandsAtStyle languages e s Nothing t d
    → StandsAtStyle languages e (feed_style urls s b) Nothing (told_in_style (style_emits urls s b []) t) (page languages (style_written urls s b) d)
comment-byte e (Out (Comment star)) b t d n h = comment-step e star (style_class b) t d h
comment-byte e (Out StarAtCut) b t d n h = comment-step e true (style_class b) t d h
comment-byte e (Out s) b t d n h = absurd (true≢false (sym n))
comment-byte e (InUrl f u) b t d n h = absurd (true≢false (sym n))

-- Where nothing is pending on the path.
solidus-refused : (b : ℕ) → style_class b ≡ class.Solidus → style_refuses urls (Out LessThanAtCut) b ≡ None → ⊥
solidus-refused b e m = some _ (subst (λ (c : StyleClass). style_refuses_class urls (Out LessThanAtCut) c b ≡ None) e m)

class-solidus : (b : ℕ) → class_of b ≡ Solidus → style_class b ≡ class.Solidus
class-solidus b k = ap style_class (html-solidus b k) ∙ solidus-class

loose-releases : (e : Element) (s : Style Url) (held : Pending) (c : Class) (b : ℕ) → class_of b ≡ c → ComesToNothing Nothing held s → style_refuses urls s b ≡ None → Releases e held c b
loose-releases e s Nothing c b k h m = tt
loose-releases e (Out LessThanAtCut) PendingLess Solidus b k h m = absurd (solidus-refused b (class-solidus b k) m)
loose-releases e (Out LessThanAtCut) PendingLess c b k h m = tt
loose-releases e (Out s) PendingLess c b k h m = absurd h
loose-releases e (InUrl f u) PendingLess c b k h m = absurd h
loose-releases e s LessAtCut c b k h m = absurd h
loose-releases e s (PendingName letters) c b k h m = absurd h
loose-releases e s PendingBang c b k h m = absurd h
loose-releases e s PendingBangDash c b k h m = absurd h
loose-releases e s (PendingOpening letters) c b k h m = absurd h

white-releases : (e : Element) (s : Style Url) (held : Pending) → ComesToNothing Nothing held s → Releases e held White 32
white-releases e s Nothing h = tt
white-releases e s PendingLess h = tt
white-releases e s LessAtCut h = absurd h
white-releases e s (PendingName letters) h = absurd h
white-releases e s PendingBang h = absurd h
white-releases e s PendingBangDash h = absurd h
white-releases e s (PendingOpening letters) h = absurd h

own-is : (e : Element) (s : Style Url) (h : Pending) (t : List LexEvent) (d : Config ValueState) (l : StandsInStyleElement languages e s h t d) → IsAt e s l.held t d
own-is e s h t d l = record { there = l.there; before = l.told; at = l.at; alike = l.alike; same = l.same }

loose-by : (e : Element) (s : Style Url) (comment : Bool) (c : Class) (b : ℕ) (t : List LexEvent) (d : Config ValueState) → is_comment s ≡ comment → class_of b ≡ c → is_less c ≡ false → style_refuses urls s b ≡ None
    → StandsAtStyle languages e s Nothing t d
    → StandsAtStyle languages e (feed_style urls s b) Nothing (told_in_style (style_emits urls s b []) t) (page languages (style_written urls s b) d)
loose-by e s true c b t d n k l m h = comment-byte e s b t d n h
loose-by e s false c b t d n k l m h =
    let own = as-is e s Nothing t d n h in
    read-byte e s c b t d k l n (not-bad e s Nothing t d h) m (record {
      held = own.held;
      is = own-is e s Nothing t (page languages (waits s) d) own;
      releases = loose-releases e s own.held c b k own.nothing m;
      space = λ z. white-releases e s own.held own.nothing;
      comment = comment-of e s Nothing t d h;
    })

style-loose : (e : Element) (s : Style Url) (c : Class) (b : ℕ) (t : List LexEvent) (d : Config ValueState) → class_of b ≡ c → is_less c ≡ false → style_refuses urls s b ≡ None
    → StandsAtStyle languages e s Nothing t d
    → StandsAtStyle languages e (feed_style urls s b) Nothing (told_in_style (style_emits urls s b []) t) (page languages (style_written urls s b) d)
style-loose e s c b t d k l m h = loose-by e s (is_comment s) c b t d refl k l m h

-- Where something is, a `<` follows on the page.
abbrev pub IsPending : Pending → Type 0
IsPending Nothing = ⊥
IsPending h = ⊤

pending-nothing : (h held : Pending) (s : Style Url) → IsPending h → ComesToNothing h held s
pending-nothing h Nothing s p = tt
pending-nothing Nothing held s p = absurd p
pending-nothing h held s p = tt

still : (e : Element) (s : Style Url) (h g : Pending) (t : List LexEvent) (d : Config ValueState) → IsPending g → StandsInStyleElement languages e s h t d → StandsInStyleElement languages e s g t d
still e s h g t d p l = record { there = l.there; held = l.held; told = l.told; at = l.at; alike = l.alike; same = l.same; nothing = pending-nothing g l.held s p }

held-back : (e : Element) (s : Style Url) (h g : Pending) (t : List LexEvent) (d : Config ValueState) → IsPending g → StandsAtStyle languages e s h t d → StandsAtStyle languages e s g t d
held-back e (Out (AfterSolidus k)) h g t d p l = record { as_is = still e (Out (AfterSolidus k)) h g t (page languages (codes "/") d) p l.as_is; comment = l.comment }
held-back e (Out (Comment star)) h g t d p l = l
held-back e (Out StarAtCut) h g t d p l = l
held-back e (Out BadUrl) h g t d p l = l
held-back e (Out s) h g t d p l = still e (Out s) h g t d p l
held-back e (InUrl f u) h g t d p l = still e (InUrl f u) h g t d p l

held-read : (e : Element) (s : Style Url) (g h : Pending) (u : List LexEvent) → MayGoOn languages e h → IsPending h
    → page languages (pending_bytes h) (element_at e (OfStyle s) g u) ≡ element_at e (OfStyle (style_behind_bytes s (pending_bytes g))) h (told (OfStyle s) g u)
held-read e s g Nothing u m p = absurd p
held-read e s g PendingLess u m p = less-read e s g u ∙ ap (λ (v : ValueState). element_at e v PendingLess (told (OfStyle s) g u)) (fed-style (pending_bytes g) s)
held-read e s g (PendingName letters) u m p =
    let r = style_behind_bytes s (pending_bytes g) in
    let w = told (OfStyle s) g u in
    ap (page languages (47 ∷ letters)) (less-read e s g u ∙ ap (λ (v : ValueState). element_at e v PendingLess w) (fed-style (pending_bytes g) s) ∙ sym (less-read e r Nothing w))
    ∙ m.goes_on r w
held-read e s g LessAtCut u m p = absurd m
held-read e s g PendingBang u m p = absurd m
held-read e s g PendingBangDash u m p = absurd m
held-read e s g (PendingOpening letters) u m p = absurd m

-- bytes that are taken
abbrev Taken : ValueState → List ℕ → Type 0
Taken v [] = ⊤
Taken v (b ∷ bs) = (refuses_in_value v b ≡ None) × Taken (languages.feed v b) bs

no-cause : (back : ℕ) (o : Option Code) → cause_back back o ≡ None → o ≡ None
no-cause back None n = refl
no-cause back (Some e) n = absurd (some _ n)

taken-by : (v : ValueState) (bs : List ℕ) (back : ℕ) → fed_error (language_feeding languages) v bs true back ≡ None → Taken v bs
taken-by v [] back n = tt
taken-by v (b ∷ bs) back n =
    let m = both-none (cause_back back (languages.refuses v b)) (fed_error (language_feeding languages) (languages.feed v b) bs true (back - 1)) n in
    (no-cause back (languages.refuses v b) m.0, taken-by (languages.feed v b) bs (back - 1) m.1)

fed-alike : (bs : List ℕ) (v w : ValueState) → StatesAlike v w → Taken v bs → StatesAlike (fed_state languages v bs) (fed_state languages w bs)
fed-alike [] v w a k = a
fed-alike (b ∷ bs) v w a k = fed-alike bs (languages.feed v b) (languages.feed w b) (languages-keep.feeds v w b a k.0) k.1

told-alike : (bs : List ℕ) (v w : ValueState) (t : List LexEvent) → StatesAlike v w → Taken v bs → emits_fed languages w bs t ≡ emits_fed languages v bs t
told-alike [] v w t a k = refl
told-alike (b ∷ bs) v w t a k =
    ap (emits_fed languages (languages.feed w b) bs) (languages-keep.emits v w b t a k.0)
    ∙ told-alike bs (languages.feed v b) (languages.feed w b) (languages.emits v b t) (languages-keep.feeds v w b a k.0) k.1

pub own-none : (o : Option RefusalCode) → option_map style_code o ≡ None → o ≡ None
own-none None n = refl
own-none (Some r) n = absurd (some _ n)

bytes-sound : (bs : List ℕ) (s : Style Url) → Taken (OfStyle s) bs → is_bad s ≡ false → is_bad (style_behind_bytes s bs) ≡ false
bytes-sound [] s k i = i
bytes-sound (b ∷ bs) s k i = bytes-sound bs (feed_style urls s b) k.1 (stays-sound s (style_class b) b i (own-none (style_refuses urls s b) k.0))

may-no-stars : (e : Element) (h : Pending) → MayGoOn languages e h → NoStars (pending_bytes h)
may-no-stars e Nothing m = tt
may-no-stars e PendingLess m = (ap is_star less-class, tt)
may-no-stars e (PendingName letters) m = end-tag-no-stars letters m.alphabetic
may-no-stars e LessAtCut m = absurd m
may-no-stars e PendingBang m = absurd m
may-no-stars e PendingBangDash m = absurd m
may-no-stars e (PendingOpening letters) m = absurd m

-- Behind what was pending on the path, where it comes to nothing. Outside of comments:
abbrev at_released : Style Url → Pending → Config ValueState → Config ValueState
at_released s h d = page languages (released_out style_writing (OfStyle s) (pending_bytes h)) d

abbrev style_released : Style Url → Pending → Style Url
style_released s h = style_behind_bytes s (pending_bytes h)

abbrev told_released : Style Url → Pending → List LexEvent → List LexEvent
told_released s h t = emits_fed languages (OfStyle s) (pending_bytes h) t

released-is : (e : Element) (s : Style Url) (h : Pending) (t : List LexEvent) (d : Config ValueState) → MayGoOn languages e h → IsPending h → Taken (OfStyle s) (pending_bytes h) → is_comment s ≡ false
    → StandsAtStyle languages e s h t d
    → IsAt e (style_released s h) h (told_released s h t) (page languages (waits (style_released s h)) (at_released s h d))
released-is e s h t d m q k n l =
    let bs = pending_bytes h in
    let own = as-is e s h t d n l in
    let p = style_behind_bytes own.there (pending_bytes own.held) in
    let alike = subst (StatesAlike (OfStyle s)) (fed-style (pending_bytes own.held) own.there) own.alike in
    let z = style_behind_bytes s bs in
    record {
      there = p;
      before = told (OfStyle own.there) own.held own.told;
      at = sym (over-append languages Page (released_out style_writing (OfStyle s) bs) (waits z) d)
          ∙ ap (λ (out : List ℕ). page languages out d) (sym (waits-bytes bs s (may-no-stars e h m) n))
          ∙ over-append languages Page (waits s) bs d
          ∙ ap (page languages bs) own.at
          ∙ held-read e own.there own.held h own.told m q;
      alike = subst (λ (y : ValueState). StatesAlike y (fed_state languages (OfStyle p) bs)) (fed-style bs s) (fed-alike bs (OfStyle s) (OfStyle p) alike k);
      same = ap (emits_fed languages (OfStyle p) bs) own.same ∙ told-alike bs (OfStyle s) (OfStyle p) t alike k;
    }

none-waits : (e : Element) (z : Style Url) (t : List LexEvent) (d : Config ValueState) → waits z ≡ [] → CommentIf e z t d
none-waits e (Out (AfterSolidus k)) t d w = cc
none-waits e (Out z) t d w = tt
none-waits e (InUrl f u) t d w = tt

solidus-field : (e : Element) (s : Style Url) (t : List LexEvent) (d : Config ValueState) → Taken (OfStyle s) (60 ∷ 47 ∷ []) → is_comment s ≡ false → StandsAtStyle languages e s PendingLess t d
    → CommentIf e (style_released s (PendingName [])) (told_released s (PendingName []) t) (at_released s (PendingName []) d)
solidus-field e s t d k n l =
    let z = feed_style urls s 60 in
    let w = style_written urls s 60 in
    let w2 = style_written urls z 47 in
    let u = told_in_style (style_emits urls s 60 []) t in
    let is = released-is e s PendingLess t d tt tt (k.0, tt) n l in
    let f = open-field e z 47 u (page languages (w ++ []) d) (feed_style urls z 47) PendingLess refl (no-comment s 60 (ap is_star less-class) n) (own-none (style_refuses urls z 47) k.1.0) is (λ q. tt) in
    subst (CommentIf e (feed_style urls z 47) (told_in_style (style_emits urls z 47 []) u))
    (ap (λ (out : List ℕ). page languages w2 (page languages out d)) (append-nil w)
    ∙ ap (λ (out : List ℕ). page languages out (page languages w d)) (sym (append-nil w2))
    ∙ sym (over-append languages Page w (w2 ++ []) d)) f

released-field : (e : Element) (s : Style Url) (h : Pending) (t : List LexEvent) (d : Config ValueState) → MayGoOn languages e h → IsPending h → Taken (OfStyle s) (pending_bytes h) → is_comment s ≡ false
    → StandsAtStyle languages e s h t d → CommentIf e (style_released s h) (told_released s h t) (at_released s h d)
released-field e s Nothing t d m p k n l = absurd p
released-field e s PendingLess t d m p k n l = none-waits e _ _ _ (less-behind s n)
released-field e s (PendingName []) t d m p k n l = solidus-field e s t d k n (held-back e s (PendingName []) PendingLess t d tt l)
released-field e s (PendingName (b ∷ letters)) t d m p k n l =
    none-waits e _ _ _ (word-behind-letter b letters (feed_style urls (feed_style urls s 60) 47) m.alphabetic (no-comments (60 ∷ 47 ∷ []) s (ap is_star less-class, (ap is_star solidus-class, tt)) n))
released-field e s LessAtCut t d m p k n l = absurd m
released-field e s PendingBang t d m p k n l = absurd m
released-field e s PendingBangDash t d m p k n l = absurd m
released-field e s (PendingOpening letters) t d m p k n l = absurd m

-- where the byte itself is a `/`, the page's letters are no whole name
name-white : (grows whole more : Bool) → NoName grows whole Solidus → NoName more whole White
name-white true true more k = absurd k
name-white false true more k = absurd k
name-white grows false true k = tt
name-white grows false false k = tt

white-too : (e : Element) (h : Pending) (b : ℕ) → Releases e h Solidus b → Releases e h White 32
white-too e Nothing b r = tt
white-too e PendingLess b r = absurd r
white-too e (PendingName letters) b r = name-white (may_be_name_of e (letters ++ b ∷ [])) (is_name_of e letters) (may_be_name_of e (letters ++ 32 ∷ [])) r
white-too e LessAtCut b r = absurd r
white-too e PendingBang b r = absurd r
white-too e PendingBangDash b r = absurd r
white-too e (PendingOpening letters) b r = absurd r

solidus-white : (e : Element) (h : Pending) (c : Class) (b : ℕ) → class_of b ≡ c → Releases e h c b → b ≡ 47 → Releases e h White 32
solidus-white e h c b k r q = white-too e h b (subst (λ (z : Class). Releases e h z b) (sym k ∙ ap class_of q ∙ class_solidus) r)

-- in a comment nothing is written of them, nor told
comment-less : (s : Style Url) (t : List LexEvent) → is_comment s ≡ true → (feed_style urls s 60 ≡ Out (Comment false)) × (style_written urls s 60 ≡ []) × (told_in_style (style_emits urls s 60 []) t ≡ t)
unfolding style_class
comment-less (Out (Comment true)) t n = (refl, refl, refl)
comment-less (Out (Comment false)) t n = (refl, refl, refl)
comment-less (Out StarAtCut) t n = (refl, refl, refl)
comment-less (Out s) t n = absurd (true≢false (sym n))
comment-less (InUrl f u) t n = absurd (true≢false (sym n))

record InComment (s : Style Url) (bs : List ℕ) (t : List LexEvent) : Type 0 where
  there : style_behind_bytes s bs ≡ Out (Comment false)
  out : released_out style_writing (OfStyle s) bs ≡ []
  same : emits_fed languages (OfStyle s) bs t ≡ t

comment-behind : (s : Style Url) (bs : List ℕ) (t : List LexEvent) → is_comment s ≡ true → NoStars bs → InComment s (60 ∷ bs) t
comment-behind s bs t n k =
    let h = comment-less s t n in
    let g = comment-bytes bs k in
    record {
      there = ap (λ (z : Style Url). style_behind_bytes z bs) h.0 ∙ g.0;
      out = ap₂ (λ (z : Style Url) (w : List ℕ). w ++ released_out style_writing (OfStyle z) bs) h.0 h.1 ∙ g.1;
      same = ap₂ (λ (z : Style Url) (y : List LexEvent). emits_fed languages (OfStyle z) bs y) h.0 h.2 ∙ comment-tells bs t k;
    }

in-comment : (e : Element) (s : Style Url) (h : Pending) (t : List LexEvent) → is_comment s ≡ true → MayGoOn languages e h → IsPending h → InComment s (pending_bytes h) t
in-comment e s Nothing t n m p = absurd p
in-comment e s PendingLess t n m p = comment-behind s [] t n tt
in-comment e s (PendingName letters) t n m p = (let k = end-tag-no-stars letters m.alphabetic in comment-behind s (47 ∷ letters) t n k.1)
in-comment e s LessAtCut t n m p = absurd m
in-comment e s PendingBang t n m p = absurd m
in-comment e s PendingBangDash t n m p = absurd m
in-comment e s (PendingOpening letters) t n m p = absurd m

comment-stands : (e : Element) (s : Style Url) (h : Pending) (t : List LexEvent) (d : Config ValueState) → is_comment s ≡ true → StandsAtStyle languages e s h t d → page languages (codes " ") d ≡ behind_space e t
comment-stands e (Out (Comment star)) h t d n l = l
comment-stands e (Out StarAtCut) h t d n l = l
comment-stands e (Out s) h t d n l = absurd (true≢false (sym n))
comment-stands e (InUrl f u) h t d n l = absurd (true≢false (sym n))

-- what stands behind them, in a comment
comment-released : (e : Element) (s : Style Url) (h g : Pending) (t : List LexEvent) (d : Config ValueState) → MayGoOn languages e h → IsPending h → is_comment s ≡ true → StandsAtStyle languages e s h t d
    → StandsAtStyle languages e (style_released s h) g (told_released s h t) (at_released s h d)
comment-released e s h g t d m p n l =
    let q = in-comment e s h t n m p in
    subst (λ (z : Style Url). StandsAtStyle languages e z g (told_released s h t) (at_released s h d)) (sym q.there)
    (ap (λ (out : List ℕ). page languages (codes " ") (page languages out d)) q.out ∙ comment-stands e s h t d n l ∙ ap (behind_space e) (sym q.same))

-- Behind them the byte at hand.
released-by : (e : Element) (s : Style Url) (comment : Bool) (h : Pending) (c : Class) (b : ℕ) (t : List LexEvent) (d : Config ValueState) → is_comment s ≡ comment → class_of b ≡ c → is_less c ≡ false
    → MayGoOn languages e h → IsPending h → Taken (OfStyle s) (pending_bytes h) → Releases e h c b → style_refuses urls (style_released s h) b ≡ None → StandsAtStyle languages e s h t d
    → (let z = style_released s h in
    StandsAtStyle languages e (feed_style urls z b) Nothing (told_in_style (style_emits urls z b []) (told_released s h t)) (page languages (style_written urls z b) (at_released s h d)))
released-by e s true h c b t d n k l m p f r x g =
    loose-by e (style_released s h) (is_comment (style_released s h)) c b (told_released s h t) (at_released s h d) refl k l x (comment-released e s h Nothing t d m p n g)
released-by e s false h c b t d n k l m p f r x g =
    let z = style_released s h in
    read-byte e z c b (told_released s h t) (at_released s h d) k l (no-comments (pending_bytes h) s (may-no-stars e h m) n) (bytes-sound (pending_bytes h) s f (not-bad e s h t d g)) x (record {
      held = h;
      is = released-is e s h t d m p f n g;
      releases = r;
      space = solidus-white e h c b k r;
      comment = released-field e s h t d m p f n g;
    })

-- and a `<`, which is pending again
again-by : (e : Element) (s : Style Url) (comment : Bool) (h : Pending) (t : List LexEvent) (d : Config ValueState) → is_comment s ≡ comment → MayGoOn languages e h → IsPending h → Taken (OfStyle s) (pending_bytes h)
    → StandsAtStyle languages e s h t d → StandsAtStyle languages e (style_released s h) PendingLess (told_released s h t) (at_released s h d)
again-by e s true h t d n m p f g = comment-released e s h PendingLess t d m p n g
again-by e s false h t d n m p f g =
    let z = style_released s h in
    let i = released-is e s h t d m p f n g in
    stands-at e z PendingLess (told_released s h t) (at_released s h d) (no-comments (pending_bytes h) s (may-no-stars e h m) n) (bytes-sound (pending_bytes h) s f (not-bad e s h t d g))
    (record { there = i.there; held = h; told = i.before; at = i.at; alike = i.alike; same = i.same; nothing = pending-nothing PendingLess h z tt })
    (released-field e s h t d m p f n g)

abbrev Reads : Element → Style Url → List ℕ → Class → ℕ → List LexEvent → Config ValueState → ValueState → Type 0
Reads e s bs c b t d v =
    TextStands languages (next_loose languages c b e (InLanguage v)) (emits_loose languages c b (InLanguage v) (emits_fed languages (OfStyle s) bs t))
    (page languages (released_out style_writing (OfStyle s) bs ++ language_loose_out style_writing c b v) d)

behind-released : (e : Element) (s : Style Url) (h : Pending) (c : Class) (b : ℕ) (t : List LexEvent) (d : Config ValueState) → class_of b ≡ c → MayGoOn languages e h → IsPending h
    → Taken (OfStyle s) (pending_bytes h) → loose_byte_error (language_feeding languages) (OfStyle (style_released s h)) c b ≡ None → Releases e h c b → StandsAtStyle languages e s h t d
    → Reads e s (pending_bytes h) c b t d (OfStyle (style_released s h))
behind-released e s h LessThan b t d k m p f x r g = (
  tt,
  subst (StandsAtStyle languages e (style_released s h) PendingLess (told_released s h t))
      (ap (λ (out : List ℕ). page languages out d) (sym (append-nil (released_out style_writing (OfStyle s) (pending_bytes h))))) (again-by e s (is_comment s) h t d refl m p f g),
)
behind-released e s h c b t d k m p f x r g =
    let z = style_released s h in (
      tt,
      subst (StandsAtStyle languages e (feed_style urls z b) Nothing (told_in_style (style_emits urls z b []) (told_released s h t)))
          (sym (over-append languages Page (released_out style_writing (OfStyle s) (pending_bytes h)) (style_written urls z b) d))
          (released-by e s (is_comment s) h c b t d refl k refl m p f r (own-none (style_refuses urls z b) x) g),
    )

-- what the errors say
pub at-hand-none : (o : Option Code) → at_hand o ≡ None → o ≡ None
at-hand-none None n = refl
at-hand-none (Some e) n = absurd (some _ n)

released-text : (e : Element) (s : Style Url) (h : Pending) (c : Class) (b : ℕ) (t : List LexEvent) (d : Config ValueState) → class_of b ≡ c → MayGoOn languages e h → IsPending h → Releases e h c b
    → first_cause (pending_error (language_feeding languages) (OfStyle s) (pending_bytes h)) (at_hand (loose_byte_error (language_feeding languages) (fed_state languages (OfStyle s) (pending_bytes h)) c b)) ≡ None
    → StandsAtStyle languages e s h t d → Reads e s (pending_bytes h) c b t d (fed_state languages (OfStyle s) (pending_bytes h))
released-text e s h c b t d k m p r x g =
    let bs = pending_bytes h in
    let y = both-none (pending_error (language_feeding languages) (OfStyle s) bs) _ x in
    let own = fed-style bs s in
    subst (Reads e s bs c b t d) (sym own)
    (behind-released e s h c b t d k m p (taken-by (OfStyle s) bs (length bs) y.0)
    (subst (λ (v : ValueState). loose_byte_error (language_feeding languages) v c b ≡ None) own (at-hand-none _ y.1)) r g)

-- The end tag ends it.
cut-waits-all : (s : Style Url) → is_comment s ≡ false → style_written_at_cut s ≡ waits s
cut-waits-all (Out (Comment star)) n = absurd (true≢false n)
cut-waits-all (Out StarAtCut) n = absurd (true≢false n)
cut-waits-all (Out s) n = refl
cut-waits-all (InUrl f u) n = refl

comment-cut : (s : Style Url) → is_comment s ≡ true → style_written_at_cut s ≡ codes " "
comment-cut (Out (Comment star)) n = refl
comment-cut (Out StarAtCut) n = refl
comment-cut (Out s) n = absurd (true≢false (sym n))
comment-cut (InUrl f u) n = absurd (true≢false (sym n))

comment-ends : (s : Style Url) (t : List LexEvent) → is_comment s ≡ true → languages.ends (OfStyle s) t ≡ t
comment-ends (Out (Comment star)) t n = refl
comment-ends (Out StarAtCut) t n = refl
comment-ends (Out s) t n = absurd (true≢false (sym n))
comment-ends (InUrl f u) t n = absurd (true≢false (sym n))

record EndsBehind (e : Element) (s : Style Url) (letters : List ℕ) (t : List LexEvent) (d : Config ValueState) : Type 0 where
  there : Style Url
  before : List LexEvent
  at : page languages (language_cut_out (OfStyle s) ++ (codes "</" ++ letters)) d ≡ element_at e (OfStyle there) (PendingName letters) before
  same : languages.ends (OfStyle there) before ≡ languages.ends (OfStyle s) t

ends-by : (e : Element) (s : Style Url) (comment : Bool) (letters : List ℕ) (t : List LexEvent) (d : Config ValueState) → is_comment s ≡ comment → EndTagBegun languages e letters
    → StandsAtStyle languages e s (PendingName letters) t d → EndsBehind e s letters t d
ends-by e s true letters t d n m l =
    let bs = codes "</" ++ letters in
    let v : Style Url = Out (Between true) in
    record {
      there = v;
      before = t;
      at = over-append languages Page (style_written_at_cut s) bs d
          ∙ ap (page languages bs) (ap (λ (out : List ℕ). page languages out d) (comment-cut s n) ∙ comment-stands e s (PendingName letters) t d n l)
          ∙ m.goes_on v t;
      same = sym (comment-ends s t n);
    }
ends-by e s false letters t d n m l =
    let bs = codes "</" ++ letters in
    let own = as-is e s (PendingName letters) t d n l in
    let p = style_behind_bytes own.there (pending_bytes own.held) in
    let alike = subst (StatesAlike (OfStyle s)) (fed-style (pending_bytes own.held) own.there) own.alike in
    record {
      there = p;
      before = told (OfStyle own.there) own.held own.told;
      at = over-append languages Page (style_written_at_cut s) bs d
          ∙ ap (page languages bs) (ap (λ (out : List ℕ). page languages out d) (cut-waits-all s n) ∙ own.at)
          ∙ held-read e own.there own.held (PendingName letters) own.told m tt;
      same = ap (languages.ends (OfStyle p)) own.same ∙ languages-keep.ends (OfStyle s) (OfStyle p) t alike;
    }

end-tag-read : (e : Element) (s : Style Url) (letters : List ℕ) (b : ℕ) (t : List LexEvent) (d : Config ValueState) → EndTagBegun languages e letters → StandsAtStyle languages e s (PendingName letters) t d
    → (z : EndsBehind e s letters t d) × (page languages (end_tag_out style_writing letters b (OfStyle s)) d ≡ byte_over languages Page b (element_at e (OfStyle z.there) (PendingName letters) z.before))
end-tag-read e s letters b t d m l =
    let z = ends-by e s (is_comment s) letters t d refl m l in
    let cut = language_cut_out (OfStyle s) in
    let bs = codes "</" ++ letters in
    (z, ap (λ (out : List ℕ). page languages out d) (sym (append_assoc cut bs (b ∷ []))) ∙ on languages (cut ++ bs) (b ∷ []) d _ z.at)

one-more : (e : Element) (letters : List ℕ) (b : ℕ) (c : Class) → EndTagBegun languages e letters → class_of b ≡ c → (is_ascii_alphabetic b ≡ true) → list_all is_ascii_alphabetic (letters ++ b ∷ []) ≡ true
one-more e letters b c m k h = list_all-append is_ascii_alphabetic letters (b ∷ []) ∙ ap₂ (λ (p q : Bool). p && (q && true)) m.alphabetic h

in-name : (e : Element) (s : Style Url) (grows whole : Bool) (letters : List ℕ) (c : Class) (b : ℕ) (t : List LexEvent) (d : Config ValueState) → class_of b ≡ c
    → may_be_name_of e (letters ++ b ∷ []) ≡ grows → is_name_of e letters ≡ whole → end_name_error (language_feeding languages) (OfStyle s) grows whole c b letters ≡ None
    → EndTagBegun languages e letters → StandsAtStyle languages e s (PendingName letters) t d
    → TextStands languages (next_end_name languages grows whole c b e (InLanguage (OfStyle s)) letters) (emits_end_name languages grows whole c b (InLanguage (OfStyle s)) letters t)
    (page languages (language_name_out style_writing grows whole c b letters (OfStyle s)) d)
in-name e s true whole letters (Letter l) b t d k g w x m h = (
  record {
    alphabetic = one-more e letters b (Letter l) m k (letter-alphabetic b l k);
    goes_on = λ v u. on languages (codes "</" ++ letters) (b ∷ []) (config (in_element e (OfStyle v) Nothing) u) _ (m.goes_on v u) ∙ rw (k, g) refl;
  },
  held-back e s (PendingName letters) (PendingName (letters ++ b ∷ [])) t d tt h,
)
in-name e s grows true letters White b t d k g w x m h =
    let z = end-tag-read e s letters b t d m h in
    z.1 ∙ rw (k, g, w) (ap (λ (y : List LexEvent). config (BeforeAttributeName end_tag) (tag_name_bytes letters (EndTagBegins ∷ y))) z.0.same)
in-name e s grows true letters Solidus b t d k g w x m h =
    let z = end-tag-read e s letters b t d m h in
    z.1 ∙ rw (k, g, w) (ap (λ (y : List LexEvent). config (SelfClosingStartTag end_tag) (tag_name_bytes letters (EndTagBegins ∷ y))) z.0.same)
in-name e s grows true letters GreaterThan b t d k g w x m h =
    let z = end-tag-read e s letters b t d m h in
    z.1 ∙ rw (k, g, w) (ap (λ (y : List LexEvent). config (Text Closed) (TagEnds false ∷ tag_name_bytes letters (EndTagBegins ∷ y))) z.0.same)
in-name e s grows whole letters c b t d k g w x m h =
    released-text e s (PendingName letters) c b t d k m tt
    (subst (λ (p : Bool). NoName p (is_name_of e letters) c) (sym g) (subst (λ (p : Bool). NoName grows p c) (sym w) tt)) x h

in-less : (e : Element) (s : Style Url) (c : Class) (b : ℕ) (t : List LexEvent) (d : Config ValueState) → class_of b ≡ c → less_error (language_feeding languages) (OfStyle s) c b ≡ None
    → StandsAtStyle languages e s PendingLess t d
    → TextStands languages (next_less languages c b e (InLanguage (OfStyle s))) (emits_less languages c b (InLanguage (OfStyle s)) t) (page languages (language_less_out style_writing c b (OfStyle s)) d)
in-less e s Solidus b t d k x h = (
  record { alphabetic = refl; goes_on = λ v u. rw (class_less, class_solidus) refl },
  held-back e s PendingLess (PendingName []) t d tt h,
)
in-less e s c b t d k x h = released-text e s PendingLess c b t d k tt tt tt x h

in-loose : (e : Element) (s : Style Url) (c : Class) (b : ℕ) (t : List LexEvent) (d : Config ValueState) → class_of b ≡ c → at_hand (loose_byte_error (language_feeding languages) (OfStyle s) c b) ≡ None
    → StandsAtStyle languages e s Nothing t d
    → TextStands languages (next_loose languages c b e (InLanguage (OfStyle s))) (emits_loose languages c b (InLanguage (OfStyle s)) t) (page languages (language_loose_out style_writing c b (OfStyle s)) d)
in-loose e s LessThan b t d k x h = (tt, held-back e s Nothing PendingLess t d tt h)
in-loose e s c b t d k x h = (tt, style-loose e s c b t d k refl (own-none (style_refuses urls s b) (at-hand-none _ x)) h)

pub in-language : (e : Element) (s : Style Url) (h : Pending) (c : Class) (b : ℕ) (t : List LexEvent) (d : Config ValueState) → class_of b ≡ c → content_byte_error (language_feeding languages) e (OfStyle s) h c b ≡ None
    → StandsInLanguage languages e (OfStyle s) h t d
    → TextStands languages (next_in_content languages h c b e (InLanguage (OfStyle s))) (emits_in_content languages h c b e (InLanguage (OfStyle s)) t) (page languages (language_content_out style_writing h c b e (OfStyle s)) d)
in-language e s Nothing c b t d k x l = in-loose e s c b t d k x l.1
in-language e s PendingLess c b t d k x l = in-less e s c b t d k x l.1
in-language e s (PendingName letters) c b t d k x l = in-name e s (may_be_name_of e (letters ++ b ∷ [])) (is_name_of e letters) letters c b t d k refl refl x l.0 l.1
in-language e s LessAtCut c b t d k x l = absurd l.0
in-language e s PendingBang c b t d k x l = absurd l.0
in-language e s PendingBangDash c b t d k x l = absurd l.0
in-language e s (PendingOpening letters) c b t d k x l = absurd l.0

-- The end of a node.
nothing-cut : (held : Pending) (s : Style Url) → ComesToNothing Nothing held s → ComesToNothing Nothing held (style_after_cut urls s)
nothing-cut Nothing s h = tt
nothing-cut PendingLess (Out LessThanAtCut) h = tt
nothing-cut PendingLess (Out s) h = absurd h
nothing-cut PendingLess (InUrl f u) h = absurd h
nothing-cut LessAtCut s h = absurd h
nothing-cut (PendingName letters) s h = absurd h
nothing-cut PendingBang s h = absurd h
nothing-cut PendingBangDash s h = absurd h
nothing-cut (PendingOpening letters) s h = absurd h

cut-stands : (e : Element) (s : Style Url) (t : List LexEvent) (d : Config ValueState) → is_comment s ≡ false → is_bad s ≡ false → StandsInStyleElement languages e (style_after_cut urls s) Nothing t d
    → StandsAtStyle languages e (style_after_cut urls s) Nothing t d
cut-stands e (Out (Comment star)) t d n i l = absurd (true≢false n)
cut-stands e (Out StarAtCut) t d n i l = absurd (true≢false n)
cut-stands e (Out BadUrl) t d n i l = absurd (true≢false i)
cut-stands e (Out s) t d n i l = l
cut-stands e (InUrl Bare u) t d n i l = l
cut-stands e (InUrl (Quoted q j) u) t d n i l = l
cut-stands e (InUrl f u) t d n i l = l

space-again : (e : Element) (t : List LexEvent) → page languages (codes " ") (behind_space e t) ≡ behind_space e t
unfolding style_class class_of
space-again e t = refl

comment-cuts : (e : Element) (s : Style Url) (t : List LexEvent) (d : Config ValueState) → is_comment s ≡ true → page languages (codes " ") d ≡ behind_space e t
    → StandsAtStyle languages e (style_after_cut urls s) Nothing t (page languages (style_written_at_cut s) d)
comment-cuts e (Out (Comment true)) t d n h = ap (page languages (codes " ")) h ∙ space-again e t
comment-cuts e (Out (Comment false)) t d n h = ap (page languages (codes " ")) h ∙ space-again e t
comment-cuts e (Out StarAtCut) t d n h = ap (page languages (codes " ")) h ∙ space-again e t
comment-cuts e (Out s) t d n h = absurd (true≢false (sym n))
comment-cuts e (InUrl f u) t d n h = absurd (true≢false (sym n))

cut-by : (e : Element) (s : Style Url) (comment : Bool) (t : List LexEvent) (d : Config ValueState) → is_comment s ≡ comment → languages.refuses_cut (OfStyle s) ≡ None → StandsAtStyle languages e s Nothing t d
    → StandsAtStyle languages e (style_after_cut urls s) Nothing t (page languages (style_written_at_cut s) d)
cut-by e s true t d n m l = comment-cuts e s t d n (comment-stands e s Nothing t d n l)
cut-by e s false t d n m l =
    let own = as-is e s Nothing t d n l in
    subst (λ (out : List ℕ). StandsAtStyle languages e (style_after_cut urls s) Nothing t (page languages out d)) (sym (cut-waits-all s n))
    (cut-stands e s t (page languages (waits s) d) n (not-bad e s Nothing t d l) (record {
      there = own.there;
      held = own.held;
      told = own.told;
      at = own.at;
      alike = languages-keep.after_cut (OfStyle s) (behind (OfStyle own.there) own.held) own.alike m;
      same = own.same;
      nothing = nothing-cut own.held s own.nothing;
    }))

-- a `<` that ends the node stands between tokens, in words and plain text, or in a comment
or-some : (o : Option RefusalCode) (r : StyleCutRefusal) → or_less_than o (Some r) ≡ None → ⊥
or-some None r n = some _ n
or-some (Some c) r n = some _ n

mapped-none : (o : Option StyleCutRefusal) → option_map cut_cause (option_map style_cut o) ≡ None → o ≡ None
mapped-none None n = refl
mapped-none (Some r) n = absurd (some _ n)

less-at-cut : (s : Style Url) → is_comment s ≡ false → is_bad s ≡ false → refuses_less_than_cut urls s ≡ None → feed_style urls s 60 ≡ Out AfterLessThan
unfolding style_class
less-at-cut (Out (Between k)) n i r = refl
less-at-cut (Out AfterLessThan) n i r = refl
less-at-cut (Out (Word w AfterBackslash)) n i r = absurd (some _ r)
less-at-cut (Out (Word w NoEscape)) n i r = refl
less-at-cut (Out (Word w (HexDigits j))) n i r = refl
less-at-cut (Out (Word w AfterReturn)) n i r = refl
less-at-cut (Out (AfterSolidus k)) n i r = refl
less-at-cut (Out (Comment star)) n i r = absurd (true≢false n)
less-at-cut (Out (InString q AfterBackslash)) n i r = absurd (or-some (style_refuses urls (Out (InString q AfterBackslash)) 60) (record { code = SplitToken; back = 0; shown = 2 }) r)
less-at-cut (Out (InString q NoEscape)) n i r = absurd (or-some (style_refuses urls (Out (InString q NoEscape)) 60) (record { code = SplitToken; back = 0; shown = 1 }) r)
less-at-cut (Out (InString q (HexDigits j))) n i r = absurd (or-some (style_refuses urls (Out (InString q (HexDigits j))) 60) (record { code = SplitToken; back = 0; shown = 1 }) r)
less-at-cut (Out (InString q AfterReturn)) n i r = absurd (or-some (style_refuses urls (Out (InString q AfterReturn)) 60) (record { code = SplitToken; back = 0; shown = 1 }) r)
less-at-cut (Out BadUrl) n i r = absurd (true≢false i)
less-at-cut (Out (BehindHole solidus less)) n i r = refl
less-at-cut (Out (SplitWord AfterBackslash)) n i r = absurd (some _ r)
less-at-cut (Out (SplitWord NoEscape)) n i r = refl
less-at-cut (Out (SplitWord (HexDigits j))) n i r = refl
less-at-cut (Out (SplitWord AfterReturn)) n i r = refl
less-at-cut (Out (SolidusAtCut k)) n i r = refl
less-at-cut (Out LessThanAtCut) n i r = refl
less-at-cut (Out StarAtCut) n i r = absurd (true≢false n)
less-at-cut (InUrl Fresh u) n i r = absurd (or-some (style_refuses urls (InUrl Fresh u) 60) (record { code = SplitToken; back = 0; shown = 1 }) r)
less-at-cut (InUrl Bare u) n i r = absurd (or-some (style_refuses urls (InUrl Bare u) 60) (record { code = SplitToken; back = 0; shown = 1 }) r)
less-at-cut (InUrl (Quoted q AfterBackslash) u) n i r = absurd (or-some (style_refuses urls (InUrl (Quoted q AfterBackslash) u) 60) (record { code = SplitToken; back = 0; shown = 2 }) r)
less-at-cut (InUrl (Quoted q NoEscape) u) n i r = absurd (or-some (style_refuses urls (InUrl (Quoted q NoEscape) u) 60) (record { code = SplitToken; back = 0; shown = 1 }) r)
less-at-cut (InUrl (Quoted q (HexDigits j)) u) n i r = absurd (or-some (style_refuses urls (InUrl (Quoted q (HexDigits j)) u) 60) (record { code = SplitToken; back = 0; shown = 1 }) r)
less-at-cut (InUrl (Quoted q AfterReturn) u) n i r = absurd (or-some (style_refuses urls (InUrl (Quoted q AfterReturn) u) 60) (record { code = SplitToken; back = 0; shown = 1 }) r)
less-at-cut (InUrl Ended u) n i r = absurd (some _ r)

less-cut-at : (e : Element) (z : Style Url) (t : List LexEvent) (d : Config ValueState) → z ≡ Out AfterLessThan → languages.refuses_cut (OfStyle z) ≡ None → IsAt e z PendingLess t (page languages (waits z) d)
    → StandsAtStyle languages e (style_after_cut urls z) Nothing t (page languages (style_written_at_cut z) d)
less-cut-at e (Out AfterLessThan) t d q m i = record {
  there = i.there;
  held = PendingLess;
  told = i.before;
  at = i.at;
  alike = languages-keep.after_cut (OfStyle (Out AfterLessThan)) (behind (OfStyle i.there) PendingLess) i.alike m;
  same = i.same;
  nothing = tt;
}
less-cut-at e (Out z) t d q m i = cc
less-cut-at e (InUrl f u) t d q m i = cc

less-cut-by : (e : Element) (s : Style Url) (comment : Bool) (t : List LexEvent) (d : Config ValueState) → is_comment s ≡ comment → Taken (OfStyle s) (codes "<") → refuses_less_than_cut urls s ≡ None
    → languages.refuses_cut (OfStyle (feed_style urls s 60)) ≡ None → StandsAtStyle languages e s PendingLess t d
    → (let z = feed_style urls s 60 in
    StandsAtStyle languages e (style_after_cut urls z) Nothing (told_released s PendingLess t) (page languages (style_written_at_cut z) (at_released s PendingLess d)))
less-cut-by e s true t d n f r m l =
    let z = feed_style urls s 60 in
    let q = in-comment e s PendingLess t n tt tt in
    comment-cuts e z (told_released s PendingLess t) (at_released s PendingLess d) (ap is_comment q.there)
    (comment-stands e z Nothing (told_released s PendingLess t) (at_released s PendingLess d) (ap is_comment q.there) (comment-released e s PendingLess Nothing t d tt tt n l))
less-cut-by e s false t d n f r m l =
    let i = released-is e s PendingLess t d tt tt f n l in
    let at = less-at-cut s n (not-bad e s PendingLess t d l) r in
    less-cut-at e (feed_style urls s 60) (told_released s PendingLess t) (at_released s PendingLess d) at m i

pub cut-language : (e : Element) (s : Style Url) (h : Pending) (t : List LexEvent) (d : Config ValueState)
    → content_end_cut_error (language_feeding languages) (λ (w : ValueState). option_map cut_cause (languages.refuses_less w)) (OfStyle s) h ≡ None
    → languages.refuses_cut (fed_state languages (OfStyle s) (pending_bytes h)) ≡ None → StandsInLanguage languages e (OfStyle s) h t d
    → TextStands languages (InContent e (content_at_cut languages (InLanguage (OfStyle s)) h) (pending_at_cut (InLanguage (OfStyle s)) h)) (emits_content_cut languages (InLanguage (OfStyle s)) h t)
    (page languages (cut_out languages (InContent e (InLanguage (OfStyle s)) h)) d)
cut-language e s Nothing t d x m l = (tt, cut-by e s (is_comment s) t d refl m l.1)
cut-language e s PendingLess t d x m l =
    let z = feed_style urls s 60 in
    let y = both-none (pending_error (language_feeding languages) (OfStyle s) (codes "<")) _ x in (
      tt,
      subst (StandsAtStyle languages e (style_after_cut urls z) Nothing (told_released s PendingLess t))
          (sym (over-append languages Page (released_out style_writing (OfStyle s) (codes "<")) (style_written_at_cut z) d))
          (less-cut-by e s (is_comment s) t d refl (taken-by (OfStyle s) (codes "<") 1 y.0) (mapped-none (refuses_less_than_cut urls s) y.1) m l.1),
    )
cut-language e s (PendingName letters) t d x m l = absurd (some _ (both-none (pending_error (language_feeding languages) (OfStyle s) (codes "</" ++ letters)) _ x).1)
cut-language e s LessAtCut t d x m l = absurd l.0
cut-language e s PendingBang t d x m l = absurd l.0
cut-language e s PendingBangDash t d x m l = absurd l.0
cut-language e s (PendingOpening letters) t d x m l = absurd l.0

-- Where a style begins.
pub style-begins : (e : Element) (t : List LexEvent) (d : Config ValueState) → d ≡ config (in_element e (OfStyle (Out (Between false))) Nothing) t → StandsInLanguage languages e (OfStyle (Out (Between false))) Nothing t d
style-begins e t d h = (tt, record { there = Out (Between false); held = Nothing; told = t; at = h; alike = outside (the_same _ tt); same = refl; nothing = tt })
