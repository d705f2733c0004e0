-- What is written of a tag leads the page's reading where the path's leads.
use Rattle.std.proofs.Common.{◌≡◌, ℕ, Bool, false, List, [], ◌∷◌, Some, None, inl, refl, ap, true≢false}
use Rattle.css_lexer.specs.Alike.{outside, the_same}
use Rattle.css_lexer.specs.States.{style_start}
use Rattle.js_lexer.specs.Holes.{script_after_cut}
use Rattle.js_lexer.specs.PageScripts.{ScriptStands, page_script}
use Rattle.js_lexer.specs.States.{script_start}
use Rattle.place_core.specs.page.Classes.{Class, White, Solidus, EqualsSign, GreaterThan, class_of}
use Rattle.place_core.specs.place.Errors.{tag_error}
use Rattle.place_core.specs.page.Events.{LexEvent, AttributeNameEnds, InsideScript, TagEnds}
use Rattle.place_core.specs.page.Html.{after_tag, next, next_before_name, next_after_name, next_name, next_tag_name, emits, emits_before_name, emits_name, emits_tag_name, emits_whole_name}
use Rattle.place_core.specs.place.StatePlaces.{only_inside, only_name, tag_spot}
use Rattle.place_core.specs.page.States.{Template, TagName, BeforeAttributeName, AttributeName, AfterAttributeName, BeforeAttributeValue, Nothing, SelfClosingStartTag, Config, config}
use Rattle.place_core.specs.page.Tags.{Tag, ValueState, element_on, languages, tag_of_name, without_value}
use Rattle.place_core.specs.page.Words.{kind_of}
use Rattle.place_core.specs.declared.element.Element.TheVariants as element
use Rattle.place_core.specs.declared.kind.Kind.{Kind}
use Rattle.place_core.specs.declared.tag_of.TagOf.{TagOf}
use Rattle.place_core.specs.declared.tag_of.TagOf.TheVariants as which
use Rattle.html_step.proofs.OnePath.{some}
use Rattle.text_norm.specs.Standing.{ScriptMayGoOn, TextStands, WholeAttribute, WholeTag, page}

-- where a script begins
script-begins : ScriptMayGoOn element.Script (script_after_cut script_start) Nothing
script-begins = record { element = refl; word = λ n. absurd (true≢false n); bytes = refl; goes_on = refl }

alike-there : (u : List LexEvent) → ScriptStands LexEvent InsideScript (script_after_cut script_start) u (page_script (script_after_cut script_start) u)
alike-there u = record { alike = (record { escape = refl; brace = refl }, inl (record { literals = refl; held = refl; at = refl })); told = refl }

-- a tag that ends
pub tag-leads : (t : TagOf) (u : List LexEvent) (d : Config ValueState) → d ≡ config (after_tag languages t) u → TextStands languages (after_tag languages t) u d
tag-leads which.End u d h = h
tag-leads (which.Start element.Other) u d h = h
tag-leads (which.Start element.Title) u d h = h
tag-leads (which.Start element.Textarea) u d h = h
tag-leads (which.Start element.Style) u d h = (tt, record { there = style_start; held = Nothing; told = u; at = h; alike = outside (the_same _ tt); same = refl; nothing = tt })
tag-leads (which.Start element.Script) u d h = (script-begins, record { there = script_after_cut script_start; held = Nothing; told = u; at = h; stands = alike-there u; nothing = tt })
tag-leads (which.Start element.DataBlock) u d h = h

-- before a name
pub before-leads : (tag : Tag) (c : Class) (b : ℕ) (t : List LexEvent) (d : Config ValueState) → d ≡ config (next_before_name languages c b tag) t
    → TextStands languages (next_before_name languages c b tag) t d
before-leads tag White b t d h = h
before-leads tag Solidus b t d h = h
before-leads tag GreaterThan b t d h = tag-leads tag.tag t d h
before-leads tag _ b t d h = h

-- in the name of a tag
pub in-tag-name : (ends : Bool) (name : List ℕ) (c : Class) (b : ℕ) (t : List LexEvent) (d : Config ValueState) → class_of b ≡ c
    → d ≡ config (TagName ends name) t
    → TextStands languages (next_tag_name languages c b ends name) (emits_tag_name c b t) (page languages (b ∷ []) d)
in-tag-name ends name White b t d e h = rw (h, e) refl
in-tag-name ends name Solidus b t d e h = rw (h, e) refl
in-tag-name ends name GreaterThan b t d e h = tag-leads (tag_of_name ends name) (TagEnds false ∷ t) (page languages (b ∷ []) d) (rw (h, e) refl)
in-tag-name ends name _ b t d e h = rw (h, e) refl

-- likewise, that is whole
pub in-whole-tag : (tag : Tag) (c : Class) (b : ℕ) (t : List LexEvent) (d : Config ValueState) → class_of b ≡ c
    → tag_error (tag_spot tag only_name None) c ≡ None → WholeTag ValueState tag t d
    → TextStands languages (next_before_name languages c b tag) (emits_before_name c b t) (page languages (b ∷ []) d)
in-whole-tag tag White b t d e n h = rw (h.at, e) (ap (λ (z : Tag). config (BeforeAttributeName z) t) h.named)
in-whole-tag tag Solidus b t d e n h = rw (h.at, e) (ap (λ (z : Tag). config (SelfClosingStartTag z) t) h.named)
in-whole-tag tag GreaterThan b t d e n h = tag-leads tag.tag (TagEnds false ∷ t) (page languages (b ∷ []) d) (rw (h.at, e) (ap (λ (z : Tag). config (after_tag languages z.tag) (TagEnds false ∷ t)) h.named))
in-whole-tag tag _ b t d e n h = absurd (some _ n)

-- in the name of an attribute
pub in-name : (tag : Tag) (name : List ℕ) (c : Class) (b : ℕ) (t : List LexEvent) (d : Config ValueState) → class_of b ≡ c
    → d ≡ config (AttributeName tag name) t
    → TextStands languages (next_name languages c b tag (kind_of (element_on tag.tag) name) name) (emits_name c b (kind_of (element_on tag.tag) name) t) (page languages (b ∷ []) d)
in-name tag name White b t d e h = rw (h, e) refl
in-name tag name Solidus b t d e h = rw (h, e) refl
in-name tag name EqualsSign b t d e h = rw (h, e) refl
in-name tag name GreaterThan b t d e h =
    let k = kind_of (element_on tag.tag) name in
    tag-leads (without_value tag k).tag (TagEnds false ∷ AttributeNameEnds k ∷ t) (page languages (b ∷ []) d) (rw (h, e) refl)
in-name tag name _ b t d e h = rw (h, e) refl

-- likewise, that is whole
pub in-whole-name : (tag : Tag) (k : Kind) (c : Class) (b : ℕ) (t : List LexEvent) (d : Config ValueState) → class_of b ≡ c
    → tag_error (tag_spot tag only_inside (Some k)) c ≡ None → WholeAttribute ValueState tag k t d
    → TextStands languages (next_after_name languages c b tag k) (emits_whole_name c b k t) (page languages (b ∷ []) d)
in-whole-name tag k White b t d e n h = rw (h.at, e) (ap (λ (z : Kind). config (AfterAttributeName tag z) (AttributeNameEnds z ∷ t)) h.named)
in-whole-name tag k Solidus b t d e n h = rw (h.at, e) (ap (λ (z : Kind). config (SelfClosingStartTag (without_value tag z)) (AttributeNameEnds z ∷ t)) h.named)
in-whole-name tag k EqualsSign b t d e n h = rw (h.at, e) (ap (λ (z : Kind). config (BeforeAttributeValue tag z) (AttributeNameEnds z ∷ t)) h.named)
in-whole-name tag k GreaterThan b t d e n h =
    tag-leads (without_value tag k).tag (TagEnds false ∷ AttributeNameEnds k ∷ t) (page languages (b ∷ []) d)
    (rw (h.at, e) (ap (λ (z : Kind). config (after_tag languages (without_value tag z).tag) (TagEnds false ∷ AttributeNameEnds z ∷ t)) h.named))
in-whole-name tag k _ b t d e n h = absurd (some _ n)

-- after one
pub after-name : (tag : Tag) (k : Kind) (c : Class) (b : ℕ) (t : List LexEvent) (d : Config ValueState) → class_of b ≡ c
    → d ≡ config (AfterAttributeName tag k) t
    → TextStands languages (next languages Template (AfterAttributeName tag k) c b) (emits languages Template (AfterAttributeName tag k) c b t) (page languages (b ∷ []) d)
after-name tag k White b t d e h = rw (h, e) refl
after-name tag k EqualsSign b t d e h = rw (h, e) refl
after-name tag k GreaterThan b t d e h = tag-leads (without_value tag k).tag (TagEnds false ∷ t) (page languages (b ∷ []) d) (rw (h, e) refl)
after-name tag k _ b t d e h = rw (h, e) refl
