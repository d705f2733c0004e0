-- What a page has told where its reading stands for a path, and where it is in the path's very state.
use Rattle.std.proofs.Common.{◌≡◌, Bool, true, false, List, Option, Some, None, option_map, if◌then◌else◌, refl, sym, ap, ◌∙◌, subst, ℕ, not, [], ◌∷◌}
use Rattle.std.specs.Bool.{⊤}
use Rattle.place_core.specs.page.Events.{LexEvent}
use Rattle.place_core.specs.place.Membership.{IsIn}
use Rattle.place_core.specs.place.Places.{Below}
use Rattle.place_core.specs.page.References.{Reference, Closed, Open}
use Rattle.place_core.specs.place.StatePlaces.{block_place, comment_place, content_place, content_spot, placed, quotes_at, unbegun, value_body, only_after, only_inside, tag_spot, value_spot, where_closed}
use Rattle.place_core.specs.page.States.{LexState, Text, TagOpen, EndTagOpen, DeclarationOpen, CommentState, Inside, Broken, InComment, BogusComment, InDoctype, TagName, WholeTagName, BeforeAttributeName, AttributeName, WholeAttributeName, AfterAttributeName, BeforeAttributeValue, AttributeValue, AfterAttributeValue, SelfClosingStartTag, Characters, Bytes, InLanguage, Pending, Nothing, PendingLess, LessAtCut, PendingName, PendingBang, PendingBangDash, InContent, Config, config, PendingOpening}
use Rattle.place_core.specs.page.Tags.{Tag, is_second_type, ValueOf, Deciding, ValueState, OfKind, OfUrl, OfStyle, OfScript, languages, attribute_value_of}
use Rattle.place_core.specs.declared.body.Body.{Body}
use Rattle.place_core.specs.declared.element.Element.{Element}
use Rattle.place_core.specs.declared.element.Element.TheVariants as element
use Rattle.place_core.specs.declared.place.Place.{Place}
use Rattle.place_core.specs.declared.place.Place.TheVariants as place
use Rattle.place_core.specs.declared.quotes.Quotes.{Quotes}
use Rattle.place_core.specs.place.StyleParts.{style_css}
use Rattle.place_core.specs.declared.css.Css.{Css}
use Rattle.css_lexer.specs.States.{AfterSolidus, BadUrl, Comment, StarAtCut, Style, Out, InUrl}
use Rattle.url_lexer.specs.States.{Url}
use Rattle.std.proofs.lemmas.Bool.{and_parts}
use Rattle.js_lexer.specs.Holes.{script_has_mark}
use Rattle.js_lexer.specs.Spots.{Spot, script_spot}
use Rattle.js_lexer.specs.States.{At, ScriptState, Trail}
use Rattle.place_core.specs.declared.js.Js.{Js}
use Rattle.place_core.specs.place.ScriptParts.{is_trail_of_cut, may_begin_text_at, script_js, script_may_begin_text, script_place}
use Rattle.text_norm.proofs.ScriptHoles.{no-spot}
use Rattle.text_norm.proofs.ScriptTellsThere.{script-told-there}
use Rattle.text_norm.specs.Standing.{StandsInScript, StandsAtStyle, StandsInLanguage, StandsInStyleElement, TextStands, pending_in_page}
use Rattle.text_norm.specs.StandsLaws.{StandsWhereNothingIsPending, EmitsTheSame, holds_nothing, in_comment_of_element, told_beside, told_there}

-- the path has a place
abbrev IsSome : Option Place → Type 0
IsSome None = ⊥
IsSome (Some p) = ⊤

-- in the element of a style
style-told : (e : Element) (s : Style Url) (h : Pending) (t : List LexEvent) (d : Config ValueState) → StandsInStyleElement languages e s h t d → told_there d d.at ≡ t
style-told e s h t d l = ap (λ (c : Config ValueState). told_there c c.at) l.at ∙ l.same

style-same : (e : Element) (s : Style Url) (h : Pending) (t : List LexEvent) (d : Config ValueState) → IsSome (option_map place.Style (style_css s)) → StandsAtStyle languages e s h t d
    → told_beside (in_comment_of_element (InContent e (InLanguage (OfStyle s)) h)) d ≡ t
style-same e (Out (AfterSolidus k)) h t d o l = absurd o
style-same e (Out (Comment star)) h t d o l = ap (λ (c : Config ValueState). c.emitted) l
style-same e (Out StarAtCut) h t d o l = ap (λ (c : Config ValueState). c.emitted) l
style-same e (Out BadUrl) h t d o l = absurd l
style-same e (Out s) h t d o l = style-told e (Out s) h t d l
style-same e (InUrl f u) h t d o l = style-told e (InUrl f u) h t d l

-- in the element of a script
spot-of : (b : Bool) (o : Option Spot) → IsSome (option_map place.Script (if b then option_map script_place o else None))
    → (b ≡ true) × ((p : Spot) × (o ≡ Some p))
spot-of true (Some p) h = (refl, (p, refl))
spot-of true None h = absurd h
spot-of false o h = absurd h

abbrev script_state : List ℕ → List ℕ → At → Trail → ScriptState
script_state fs held a t = record { literals = fs; at = a; held = held; trail = t }

script-same : (fs held : List ℕ) (a : At) (trail : Trail) (p : Spot) (t : List LexEvent) (d : Config ValueState)
    → script_may_begin_text (script_state fs held a trail) ≡ true
    → script_spot (script_state fs held a trail) ≡ Some p → StandsInScript element.Script (script_state fs held a trail) Nothing t d
    → told_beside (not (script_has_mark (script_state fs held a trail))) d ≡ t
script-same [] [] a trail p t d b e l =
    let both = and_parts (is_trail_of_cut trail) (may_begin_text_at a trail.markup) b in
    script-told-there element.Script a trail t d (and_parts trail.fresh _ both.0).0 both.1 l
script-same [] (c ∷ held) a trail p t d b e l = absurd (no-spot p e)
script-same (n ∷ fs) held a trail p t d b e l = absurd (no-spot p e)

script-place-same : (s : ScriptState) (t : List LexEvent) (d : Config ValueState) → IsSome (option_map place.Script (script_js s))
    → StandsInScript element.Script s Nothing t d → told_beside (not (script_has_mark s)) d ≡ t
script-place-same s t d o l =
    (let own = spot-of (script_may_begin_text s) (script_spot s) o in script-same s.literals s.held s.at s.trail own.1.0 t d own.0 own.1.1 l)

language-same : (e : Element) (v : ValueState) (h : Pending) (t : List LexEvent) (d : Config ValueState) → IsSome (content_spot h (InLanguage v) e) → StandsInLanguage languages e v h t d
    → told_beside (in_comment_of_element (InContent e (InLanguage v) h)) d ≡ t
language-same element.Style (OfStyle s) Nothing t d o l = style-same element.Style s Nothing t d o l.1
language-same _ (OfStyle s) Nothing t d o l = absurd o
language-same e (OfStyle s) PendingLess t d o l = absurd o
language-same e (OfStyle s) (PendingName letters) t d o l = absurd o
language-same e (OfStyle s) LessAtCut t d o l = absurd o
language-same e (OfStyle s) PendingBang t d o l = absurd o
language-same e (OfStyle s) PendingBangDash t d o l = absurd o
language-same e (OfStyle s) (PendingOpening letters) t d o l = absurd o
language-same e (OfKind k) h t d o l = absurd l
language-same e (OfUrl u) h t d o l = absurd l
language-same element.Script (OfScript s) Nothing t d o l = script-place-same s t d o l.1
language-same _ (OfScript s) Nothing t d o l = absurd o
language-same e (OfScript s) PendingLess t d o l = absurd o
language-same e (OfScript s) (PendingName letters) t d o l = absurd o
language-same e (OfScript s) LessAtCut t d o l = absurd o
language-same e (OfScript s) PendingBang t d o l = absurd o
language-same e (OfScript s) PendingBangDash t d o l = absurd o
language-same e (OfScript s) (PendingOpening letters) t d o l = absurd o

-- elsewhere, by where the page is
by-state : (s : LexState ValueState) (t : List LexEvent) (d : Config ValueState) → d ≡ config s t → told_there (config s t) s ≡ t → told_there d d.at ≡ t
by-state s t d h e = ap (λ (c : Config ValueState). told_there c c.at) h ∙ e

emitted-same : (s : LexState ValueState) (t : List LexEvent) (d : Config ValueState) → IsSome (placed s) → TextStands languages s t d
    → told_beside (in_comment_of_element s) d ≡ t
emitted-same (Text Closed) t d h l = by-state (Text Closed) t d l refl
emitted-same (Text (Open f b)) t d h l = absurd h
emitted-same (TagOpen r) t d h l = absurd h
emitted-same (EndTagOpen r) t d h l = absurd h
emitted-same (DeclarationOpen r pending) t d h l = absurd h
emitted-same (InComment s) t d h l = by-state (Text Closed) t d l refl
emitted-same BogusComment t d h l = absurd h
emitted-same InDoctype t d h l = by-state InDoctype t d l refl
emitted-same (TagName ends name) t d h l = by-state (TagName ends name) t d l refl
emitted-same (WholeTagName tag) t d h l = by-state (TagName l.ends l.name) t d l.at refl
emitted-same (BeforeAttributeName tag) t d h l = by-state (BeforeAttributeName tag) t d l refl
emitted-same (AttributeName tag name) t d h l = by-state (AttributeName tag name) t d l refl
emitted-same (WholeAttributeName tag k) t d h l = by-state (AttributeName tag l.name) t d l.at refl
emitted-same (AfterAttributeName tag k) t d h l = by-state (AfterAttributeName tag k) t d l refl
emitted-same (BeforeAttributeValue tag k) t d h l = by-state (BeforeAttributeValue tag k) t d l refl
emitted-same (AttributeValue q tag (ValueOf v) Closed) t d h l = by-state (AttributeValue q tag (ValueOf l.there) Closed) t d l.stands refl
emitted-same (AttributeValue q tag (ValueOf v) (Open f b)) t d h l = absurd h
emitted-same (AttributeValue q tag (Deciding k before) Closed) t d h l = absurd h
emitted-same (AttributeValue q tag (Deciding k before) (Open f b)) t d h l = absurd h
emitted-same (AfterAttributeValue tag) t d h l = by-state (AfterAttributeValue tag) t d l refl
emitted-same (SelfClosingStartTag tag) t d h l = by-state (SelfClosingStartTag tag) t d l refl
emitted-same (InContent e (Characters Closed) Nothing) t d h l = by-state (InContent e (Characters Closed) Nothing) t d l refl
emitted-same (InContent e (Characters (Open f b)) Nothing) t d h l = absurd h
emitted-same (InContent e (Characters r) PendingLess) t d h l = absurd h
emitted-same (InContent e (Characters r) (PendingName letters)) t d h l = absurd h
emitted-same (InContent e (Characters r) LessAtCut) t d h l = absurd h
emitted-same (InContent e (Characters r) PendingBang) t d h l = absurd h
emitted-same (InContent e (Characters r) PendingBangDash) t d h l = absurd h
emitted-same (InContent e (Characters r) (PendingOpening letters)) t d h l = absurd h
emitted-same (InContent e Bytes (PendingOpening letters)) t d h l = absurd l
emitted-same (InContent e Bytes pending) t d h l = by-state (InContent e Bytes (pending_in_page pending)) t d l refl
emitted-same (InContent e (InLanguage v) pending) t d h l = language-same e v pending t d h l

pub emits-the-same : EmitsTheSame
emits-the-same p s t d i l = emitted-same s t d (subst IsSome (sym i.stands) tt) l

no : false ≡ true → ⊥
no e = cc

pub same-state : (s : LexState ValueState) (t : List LexEvent) (d : Config ValueState) → holds_nothing s ≡ true → TextStands languages s t d → d ≡ config s t
same-state (Text Closed) t d h l = l
same-state (Text (Open f b)) t d h l = absurd (no h)
same-state (TagOpen r) t d h l = absurd (no h)
same-state (EndTagOpen r) t d h l = absurd (no h)
same-state (DeclarationOpen r pending) t d h l = absurd (no h)
same-state (InComment s) t d h l = absurd (no h)
same-state BogusComment t d h l = absurd l
same-state InDoctype t d h l = l
same-state (TagName ends name) t d h l = l
same-state (WholeTagName tag) t d h l = absurd (no h)
same-state (BeforeAttributeName tag) t d h l = l
same-state (AttributeName tag name) t d h l = l
same-state (WholeAttributeName tag k) t d h l = absurd (no h)
same-state (AfterAttributeName tag k) t d h l = l
same-state (BeforeAttributeValue tag k) t d h l = l
same-state (AttributeValue q tag (ValueOf (OfKind k)) Closed) t d h l = l.stands ∙ ap (λ (w : ValueState). config (AttributeValue q tag (ValueOf w) Closed) t) l.alike
same-state (AttributeValue q tag (ValueOf (OfKind k)) (Open f b)) t d h l = absurd (no h)
same-state (AttributeValue q tag (ValueOf (OfUrl u)) r) t d h l = absurd (no h)
same-state (AttributeValue q tag (ValueOf (OfStyle s)) r) t d h l = absurd (no h)
same-state (AttributeValue q tag (ValueOf (OfScript s)) r) t d h l = absurd (no h)
same-state (AttributeValue q tag (Deciding k before) Closed) t d h l = l
same-state (AttributeValue q tag (Deciding k before) (Open f b)) t d h l = absurd (no h)
same-state (AfterAttributeValue tag) t d h l = l
same-state (SelfClosingStartTag tag) t d h l = l
same-state (InContent e (Characters Closed) Nothing) t d h l = l
same-state (InContent e (Characters (Open f b)) Nothing) t d h l = absurd (no h)
same-state (InContent e (Characters r) PendingLess) t d h l = absurd (no h)
same-state (InContent e (Characters r) (PendingName letters)) t d h l = absurd (no h)
same-state (InContent e (Characters r) LessAtCut) t d h l = absurd (no h)
same-state (InContent e (Characters r) PendingBang) t d h l = absurd (no h)
same-state (InContent e (Characters r) PendingBangDash) t d h l = absurd (no h)
same-state (InContent e (Characters r) (PendingOpening letters)) t d h l = absurd (no h)
same-state (InContent e Bytes Nothing) t d h l = l
same-state (InContent e Bytes PendingLess) t d h l = l
same-state (InContent e Bytes LessAtCut) t d h l = absurd (no h)
same-state (InContent e Bytes (PendingName letters)) t d h l = l
same-state (InContent e Bytes PendingBang) t d h l = l
same-state (InContent e Bytes PendingBangDash) t d h l = l
same-state (InContent e Bytes (PendingOpening letters)) t d h l = absurd l
same-state (InContent e (InLanguage v) pending) t d h l = absurd (no h)

-- the one state of the place Text
abbrev IsText : Option Place → Type 0
IsText (Some place.Text) = ⊤
IsText _ = ⊥

text-alone : (own : Place) → Below own place.Text → IsText (Some own)
text-alone place.Text h = tt
text-alone _ h = cc

no-text : (r : Reference) (o : Option Place) → (IsText o → ⊥) → IsText (where_closed r o) → ⊥
no-text Closed o n h = n h
no-text (Open f b) o n h = h

no-value : (tag : Tag) (q : Quotes) (o : Option Body) → IsText (value_spot tag q o) → ⊥
no-value tag q None h = h
no-value tag q (Some b) h = h

no-content : (e : Element) → IsText (content_place e) → ⊥
no-content element.Title h = h
no-content element.Textarea h = h
no-content _ h = h

no-block : (e : Element) (lt : Bool) → IsText (block_place e lt) → ⊥
no-block element.DataBlock lt h = h
no-block _ lt h = h

no-style-place : (o : Option Css) → IsText (option_map place.Style o) → ⊥
no-style-place None h = h
no-style-place (Some c) h = h

no-script-place : (o : Option Js) → IsText (option_map place.Script o) → ⊥
no-script-place None h = h
no-script-place (Some j) h = h

no-style : (h : Pending) (v : ValueState) (e : Element) → IsText (content_spot h (InLanguage v) e) → ⊥
no-style Nothing (OfStyle s) element.Style h = no-style-place (style_css s) h
no-style Nothing (OfStyle s) _ h = h
no-style Nothing (OfKind k) element.Style h = h
no-style Nothing (OfKind k) _ h = h
no-style Nothing (OfUrl u) element.Style h = h
no-style Nothing (OfUrl u) _ h = h
no-style Nothing (OfScript s) element.Script h = no-script-place (script_js s) h
no-style Nothing (OfScript s) _ h = h
no-style PendingLess v e h = h
no-style (PendingName letters) v e h = h
no-style LessAtCut v e h = h
no-style PendingBang v e h = h
no-style PendingBangDash v e h = h
no-style (PendingOpening letters) v e h = h

no-name : (second : Bool) (p : Place) → (IsText (Some p) → ⊥) → IsText (if second then None else Some p) → ⊥
no-name true p n h = h
no-name false p n h = n h

no-comment : (s : CommentState) → IsText (comment_place s) → ⊥
no-comment Inside h = h
no-comment Broken h = h
no-comment _ h = h

in-text-state : (s : LexState ValueState) → IsText (placed s) → s ≡ Text Closed
in-text-state (Text Closed) h = refl
in-text-state (Text (Open f b)) h = absurd h
in-text-state (TagOpen r) h = absurd h
in-text-state (EndTagOpen r) h = absurd h
in-text-state (DeclarationOpen r pending) h = absurd h
in-text-state (InComment s) h = absurd (no-comment s h)
in-text-state BogusComment h = absurd h
in-text-state InDoctype h = absurd h
in-text-state (TagName ends name) h = absurd h
in-text-state (WholeTagName tag) h = absurd h
in-text-state (BeforeAttributeName tag) h = absurd h
in-text-state (AttributeName tag name) h = absurd h
in-text-state (WholeAttributeName tag k) h = absurd (no-name (is_second_type tag.typed k) (place.Tag (tag_spot tag only_inside (Some k))) (λ g. g) h)
in-text-state (AfterAttributeName tag k) h = absurd (no-name (is_second_type tag.typed k) (place.Tag (tag_spot tag only_after (Some k))) (λ g. g) h)
in-text-state (BeforeAttributeValue tag k) h = absurd (no-value tag unbegun (value_body (attribute_value_of languages k)) h)
in-text-state (AttributeValue q tag v r) h = absurd (no-text r (value_spot tag (quotes_at q) (value_body v)) (no-value tag (quotes_at q) (value_body v)) h)
in-text-state (AfterAttributeValue tag) h = absurd h
in-text-state (SelfClosingStartTag tag) h = absurd h
in-text-state (InContent e (Characters r) Nothing) h = absurd (no-text r (content_place e) (no-content e) h)
in-text-state (InContent e (Characters r) PendingLess) h = absurd h
in-text-state (InContent e (Characters r) (PendingName letters)) h = absurd h
in-text-state (InContent e (Characters r) LessAtCut) h = absurd h
in-text-state (InContent e (Characters r) PendingBang) h = absurd h
in-text-state (InContent e (Characters r) PendingBangDash) h = absurd h
in-text-state (InContent e (Characters r) (PendingOpening letters)) h = absurd h
in-text-state (InContent e Bytes Nothing) h = absurd (no-block e false h)
in-text-state (InContent e Bytes PendingLess) h = absurd h
in-text-state (InContent e Bytes LessAtCut) h = absurd (no-block e true h)
in-text-state (InContent e Bytes (PendingName letters)) h = absurd h
in-text-state (InContent e Bytes PendingBang) h = absurd h
in-text-state (InContent e Bytes PendingBangDash) h = absurd h
in-text-state (InContent e Bytes (PendingOpening letters)) h = absurd h
in-text-state (InContent e (InLanguage v) pending) h = absurd (no-style pending v e h)

pub in-text : (s : LexState ValueState) → IsIn place.Text s → s ≡ Text Closed
in-text s i = in-text-state s (subst IsText (sym i.stands) (text-alone i.own i.below))

pub where-nothing-is-pending : StandsWhereNothingIsPending
where-nothing-is-pending = (same-state, λ s i. ap holds_nothing (in-text s i))
