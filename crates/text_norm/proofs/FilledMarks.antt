-- How a page's events, read as bytes alone, fill those of its reading with marks: an event, a mark, bytes of text, and a hole in each state.
use Rattle.std.proofs.Common.{◌≡◌, ℕ, Bool, true, false, List, [], ◌∷◌, ◌++◌, None, ◌⊎◌, inl, inr, refl, sym, ap, ◌∙◌, subst, true≢false}
use Rattle.css_lexer.specs.Classes.{style_class}
use Rattle.css_lexer.specs.Events.{RunByte}
use Rattle.css_lexer.specs.States.{Between, AfterLessThan, AfterSolidus, BehindHole, Style, Out}
use Rattle.js_lexer.specs.Alike.{IsSame}
use Rattle.js_lexer.specs.Events.{ScriptEvent}
use Rattle.js_lexer.specs.Feeding.{script_emits, script_ends}
use Rattle.page_datum.specs.Data.{Data}
use Rattle.page_datum.specs.Printed.{printed}
use Rattle.place_core.specs.page.Events.{AttributeBegins, AttributeNameByte, BlockByte, InsideStyle, LexEvent, Mark, TextByte, ValueByte, attribute_name_bytes, block_bytes, event_text_bytes, told_in_script, value_bytes, Escape}
use Rattle.place_core.specs.page.Classes.{class_of}
use Rattle.place_core.specs.page.Html.{emits, next, read, read_over}
use Rattle.place_core.specs.place.Errors.{node, states}
use Rattle.place_core.specs.place.StatePlaces.{quotes_at}
use Rattle.place_core.specs.place.UrlParts.{parts_of}
use Rattle.place_core.specs.page.Paths.{at_cut, at_hole, mark_in, read_node}
use Rattle.place_core.specs.page.Shape.{marked, state_past_hole}
use Rattle.place_core.specs.page.Plain.{settled_state}
use Rattle.place_core.specs.page.States.{AfterAttributeName, AfterAttributeValue, AttributeName, AttributeValue, BeforeAttributeName, BeforeAttributeValue, Bytes, Characters, Config, InContent, InLanguage, LexState, Nothing, Page, Pending, PendingLess, SelfClosingStartTag, Template, Text, config, PendingOpening}
use Rattle.place_core.specs.page.References.{Closed}
use Rattle.place_core.specs.page.Tags.{DoubleQuoted, Quoting, SingleQuoted, Tag, Unquoted, Value, ValueOf, ValueState, OfKind, OfUrl, OfStyle, OfScript, emits_state, emitted_bytes, ends_state, feed_value, languages, value_start, value_is_script}
use Rattle.place_core.specs.declared.element.Element.{Element}
use Rattle.place_core.specs.declared.kind.Kind.{Kind}
use Rattle.place_core.specs.declared.kind.Kind.TheVariants as kind
use Rattle.place_core.specs.declared.san.San.TheVariants as san
use Rattle.html_step.specs.Holes.{last_of, url_chain}
use Rattle.san_html.proofs.EscapedText.{same-kind, value-told}
use Rattle.san_html.specs.ReadBack.{BeginsName, IsBackInBlock, IsBackInQuoted, IsBackInRcdata, IsBackInTag, IsBackInText, IsBackInUnquoted, as_name, as_unquoted, in_block, in_rcdata, in_value, read_as_text, read_value}
use Rattle.text_norm.proofs.Emits.{same-state}
use Rattle.text_norm.proofs.FilledEvents.{SchemesSame, fed-same, fills-keep, fills-mark, fills-scheme}
use Rattle.text_norm.proofs.ReadBeside.{Beside, ReadsBeside, read-beside}
use Rattle.text_norm.proofs.ScriptLeadsTells.{same-emits, same-ends, same-next}
use Rattle.text_norm.proofs.StatesBeside.{IsOutside}
use Rattle.text_norm.proofs.StyleElementKeeps.{IsPending}
use Rattle.text_norm.proofs.StyleRaw.{StyleBeside, style-end, style-fills, style-next}
use Rattle.text_norm.proofs.SureStates.{script-told}
use Rattle.text_norm.proofs.UrlHoles.{IsUrlHole, url-begun, url-hole}
use Rattle.text_norm.specs.Fillings.{BlockSite, Filling, Fills, FitsAt, NameSite, TextSite, UnquotedSite, UrlSite, filling, fillings_at, quoted_site, url_bytes}
use Rattle.text_norm.specs.HoleLaws.{IsBackBy}
use Rattle.text_norm.specs.Standing.{TextStands, in_element}
use Rattle.url_lexer.specs.Alike.{UrlsAlike}
use Rattle.url_lexer.specs.Holes.{url_behind}
use Rattle.url_lexer.specs.Parts.{UrlPart, UrlStart}
use Rattle.url_lexer.specs.Plain.{ArePlainBytes}
use Rattle.url_lexer.specs.Refusals.{refuses_hole_in}
use Rattle.url_lexer.specs.States.{Url, feed_all, url_start}
use Rattle.url_lexer.specs.Triples.{NoTriple}
use Rattle.url_lexer.proofs.Language.{language-laws}

-- The state of a value in the reading with marks, and in that of bytes alone, which has told `u`. A style is said apart. A script is the same in both,
-- but for its trail: behind a hole the reading with marks is where the bytes of that have led it.
abbrev pub RawBeside : List Filling → ValueState → ValueState → List LexEvent → Type 0
RawBeside vs (OfKind k) w u = w ≡ OfKind k
RawBeside vs (OfUrl z) (OfUrl y) u = SchemesSame z y
RawBeside vs (OfUrl z) w u = ⊥
RawBeside vs (OfStyle s) (OfStyle r) u = StyleBeside vs s r u
RawBeside vs (OfStyle s) w u = ⊥
RawBeside vs (OfScript s) (OfScript r) u = IsSame s r
RawBeside vs (OfScript s) w u = ⊥

abbrev pub Filled : List Filling → List LexEvent → List LexEvent → Type 0
Filled vs t u = Fills t vs u

abbrev pub RawFilled : List Filling → ValueState → ValueState → List LexEvent → List LexEvent → Type 0
RawFilled vs v w t u = RawBeside vs v w u × Fills t vs u

raw-starts : (vs : List Filling) (k : Kind) (t u : List LexEvent) → Fills t vs u → RawFilled vs (value_start k) (value_start k) t u
raw-starts vs kind.Url t u f = (record { scheme = refl; bound = refl }, f)
raw-starts vs kind.Style t u f = (inl (refl, tt), f)
raw-starts vs kind.Script t u f = (record { literals = refl; held = refl; at = refl }, f)
raw-starts vs _ t u f = (refl, f)

raw-feeds : (vs : List Filling) (v w : ValueState) (b : ℕ) (t u : List LexEvent) → RawFilled vs v w t u
    → RawFilled vs (feed_value v b) (feed_value w b) (emits_state v b t) (emits_state w b u)
raw-feeds vs (OfKind k) w b t u a =
    subst (λ (z : ValueState). RawFilled vs (OfKind k) (feed_value z b) (ValueByte b ∷ t) (emits_state z b u)) (sym a.0)
    (refl, fills-keep vs (ValueByte b) t u tt a.1)
raw-feeds vs (OfUrl z) (OfUrl y) b t u a = (fed-same (b ∷ []) z y a.0, fills-keep vs (ValueByte b) t u tt a.1)
raw-feeds vs (OfUrl z) (OfKind k) b t u a = absurd a.0
raw-feeds vs (OfUrl z) (OfStyle r) b t u a = absurd a.0
raw-feeds vs (OfUrl z) (OfScript r) b t u a = absurd a.0
raw-feeds vs (OfStyle s) (OfStyle r) b t u a = (style-next vs s r (style_class b) b u a.0, style-fills vs s r (style_class b) b t u a.0 a.1)
raw-feeds vs (OfStyle s) (OfKind k) b t u a = absurd a.0
raw-feeds vs (OfStyle s) (OfUrl z) b t u a = absurd a.0
raw-feeds vs (OfStyle s) (OfScript r) b t u a = absurd a.0
raw-feeds vs (OfScript s) (OfScript r) b t u a = (
  same-next s r b a.0,
  subst (λ (es : List ScriptEvent). Fills (emits_state (OfScript s) b t) vs (told_in_script es u)) (sym (same-emits s r b [] a.0))
      (script-told (Filled vs) (fills-keep vs) (script_emits s b []) t u a.1),
)
raw-feeds vs (OfScript s) (OfKind k) b t u a = absurd a.0
raw-feeds vs (OfScript s) (OfUrl z) b t u a = absurd a.0
raw-feeds vs (OfScript s) (OfStyle r) b t u a = absurd a.0

raw-ends : (vs : List Filling) (v w : ValueState) (t u : List LexEvent) → RawFilled vs v w t u → Fills (ends_state v t) vs (ends_state w u)
raw-ends vs (OfKind k) w t u a = subst (λ (z : ValueState). Fills t vs (ends_state z u)) (sym a.0) a.1
raw-ends vs (OfUrl z) (OfUrl y) t u a = fills-scheme vs z y t u a.0 a.1
raw-ends vs (OfUrl z) (OfKind k) t u a = absurd a.0
raw-ends vs (OfUrl z) (OfStyle r) t u a = absurd a.0
raw-ends vs (OfUrl z) (OfScript r) t u a = absurd a.0
raw-ends vs (OfStyle s) (OfStyle r) t u a = style-end vs s r t u a.0 a.1
raw-ends vs (OfStyle s) (OfKind k) t u a = absurd a.0
raw-ends vs (OfStyle s) (OfUrl z) t u a = absurd a.0
raw-ends vs (OfStyle s) (OfScript r) t u a = absurd a.0
raw-ends vs (OfScript s) (OfScript r) t u a =
    subst (λ (es : List ScriptEvent). Fills (ends_state (OfScript s) t) vs (told_in_script es u)) (sym (same-ends s r [] a.0))
    (script-told (Filled vs) (fills-keep vs) (script_ends s []) t u a.1)
raw-ends vs (OfScript s) (OfKind k) t u a = absurd a.0
raw-ends vs (OfScript s) (OfUrl z) t u a = absurd a.0
raw-ends vs (OfScript s) (OfStyle r) t u a = absurd a.0

-- `<!--` is told alike; and both are scripts, or none is
raw-escapes : (vs : List Filling) (v w : ValueState) (t u : List LexEvent) → value_is_script v ≡ true → RawFilled vs v w t u
    → RawFilled vs v w (Escape ∷ t) (Escape ∷ u)
raw-escapes vs (OfScript s) (OfScript r) t u i a = (a.0, fills-keep vs Escape t u tt a.1)
raw-escapes vs (OfScript s) (OfKind k) t u i a = absurd a.0
raw-escapes vs (OfScript s) (OfUrl z) t u i a = absurd a.0
raw-escapes vs (OfScript s) (OfStyle r) t u i a = absurd a.0
raw-escapes vs (OfKind k) w t u i a = absurd (true≢false (sym i))
raw-escapes vs (OfUrl z) w t u i a = absurd (true≢false (sym i))
raw-escapes vs (OfStyle s) w t u i a = absurd (true≢false (sym i))

raw-scripts : (vs : List Filling) (v w : ValueState) (t u : List LexEvent) → RawFilled vs v w t u → value_is_script v ≡ value_is_script w
raw-scripts vs (OfKind k) w t u a = sym (ap value_is_script a.0)
raw-scripts vs (OfUrl z) (OfUrl y) t u a = refl
raw-scripts vs (OfUrl z) (OfKind k) t u a = absurd a.0
raw-scripts vs (OfUrl z) (OfStyle r) t u a = absurd a.0
raw-scripts vs (OfUrl z) (OfScript r) t u a = absurd a.0
raw-scripts vs (OfStyle s) (OfStyle r) t u a = refl
raw-scripts vs (OfStyle s) (OfKind k) t u a = absurd a.0
raw-scripts vs (OfStyle s) (OfUrl z) t u a = absurd a.0
raw-scripts vs (OfStyle s) (OfScript r) t u a = absurd a.0
raw-scripts vs (OfScript s) (OfScript r) t u a = refl
raw-scripts vs (OfScript s) (OfKind k) t u a = absurd a.0
raw-scripts vs (OfScript s) (OfUrl z) t u a = absurd a.0
raw-scripts vs (OfScript s) (OfStyle r) t u a = absurd a.0

raw-stays : (v : ValueState) (b : ℕ) → value_is_script (feed_value v b) ≡ value_is_script v
raw-stays (OfKind k) b = refl
raw-stays (OfUrl z) b = refl
raw-stays (OfStyle s) b = refl
raw-stays (OfScript s) b = refl

pub raw-reads : (vs : List Filling) → ReadsBeside ValueState languages (Filled vs) (RawFilled vs)
raw-reads vs = record {
  keeps = fills-keep vs;
  starts = raw-starts vs;
  feeds = raw-feeds vs;
  ends = raw-ends vs;
  escapes = raw-escapes vs;
  scripts = raw-scripts vs;
  stays = raw-stays;
}

-- Where the page's reading of bytes alone stands, beside its reading with marks.
abbrev pub RawStands : List Filling → Config ValueState → Config ValueState → Type 0
RawStands vs m d = Beside languages (Filled vs) (RawFilled vs) m.at d.at m.emitted d.emitted

pub raw-text : (vs : List Filling) (bytes : List ℕ) (m d : Config ValueState) → RawStands vs m d
    → RawStands vs (read Page bytes m) (read Page bytes d)
raw-text vs bytes m d r = read-beside ValueState languages (Filled vs) (RawFilled vs) (raw-reads vs) bytes m d r

-- in a style
abbrev pub in_style : Quoting → Tag → Style Url → LexState ValueState
in_style q tag s = in_value q tag (ValueOf (OfStyle s))

-- Behind a `/` and a hole without bytes the reading with marks has told the `/`, and that of bytes alone has not: it is beside where it
-- has. There the path takes no `*`.
pub record SlashPending (q : Quoting) (tag : Tag) (d settled : Config ValueState) : Type 0 where
  pub blank : Bool
  pub told : List LexEvent
  pub raw : d ≡ config (in_style q tag (Out (AfterSolidus blank))) told
  pub is_settled : settled ≡ config (in_style q tag (Out (Between false))) (InsideStyle (RunByte 47) ∷ told)

abbrev pub IsSlashPending : LexState ValueState → Config ValueState → Config ValueState → Type 0
IsSlashPending (AttributeValue q tag (ValueOf (OfStyle (Out (BehindHole true less)))) Closed) d settled = SlashPending q tag d settled
IsSlashPending s d settled = ⊥

-- So it is in the element of a style, where HTML may hold something back too: behind the `/`, by which that was no end tag,
pub record SolidusPending (e : Element) (held : Pending) (d settled : Config ValueState) : Type 0 where
  pub blank : Bool
  pub told : List LexEvent
  pub raw : d ≡ config (in_element e (OfStyle (Out (AfterSolidus blank))) held) told
  pub is_settled : settled ≡ config (in_element e (OfStyle (Out (Between false))) held) (InsideStyle (RunByte 47) ∷ told)

-- or a `<` before the hole, which the reading with marks has told. There the path takes no `/`.
pub record LessPending (e : Element) (d settled : Config ValueState) : Type 0 where
  pub there : Style Url
  pub told : List LexEvent
  pub raw : d ≡ config (in_element e (OfStyle there) PendingLess) told
  pub leads : languages.feed (OfStyle there) 60 ≡ OfStyle (Out AfterLessThan)
  pub is_settled : settled ≡ config (in_element e (OfStyle (Out AfterLessThan)) Nothing) (languages.emits (OfStyle there) 60 told)

abbrev pub SolidusIf : Bool → Element → Config ValueState → Config ValueState → Type 0
SolidusIf true e d settled = SolidusPending e Nothing d settled
SolidusIf false e d settled = ⊥

abbrev pub LessIf : Bool → Element → Config ValueState → Config ValueState → Type 0
LessIf true e d settled = LessPending e d settled
LessIf false e d settled = ⊥

abbrev pub IsElementPending : LexState ValueState → Config ValueState → Config ValueState → Type 0
IsElementPending (InContent e (InLanguage (OfStyle (Out (BehindHole solidus less)))) Nothing) d settled = SolidusIf solidus e d settled ⊎ LessIf less e d settled
IsElementPending s d settled = ⊥

-- Where HTML holds something back behind the `/`, the `<` of that follows on the `/`, wherever the path is.
pub record SolidusHeld (d settled : Config ValueState) : Type 0 where
  pub element : Element
  pub held : Pending
  pub holds : IsPending held
  pub own : SolidusPending element held d settled

abbrev pub AreRaw : LexState ValueState → Config ValueState → Config ValueState → Type 0
AreRaw s d settled = (d ≡ settled) ⊎ (IsSlashPending s d settled ⊎ (IsElementPending s d settled ⊎ SolidusHeld d settled))

pub record StandsRaw (s : LexState ValueState) (vs : List Filling) (m d : Config ValueState) : Type 0 where
  pub settled : Config ValueState
  pub beside : RawStands vs m settled
  pub pending : AreRaw s d settled

pub beside-raw : (s : LexState ValueState) (vs : List Filling) (m d : Config ValueState) → RawStands vs m d → StandsRaw s vs m d
beside-raw s vs m d r = record { settled = d; beside = r; pending = inl refl }

-- Outside of styles nothing is pending: there the reading with marks is in the path's state or in one of the same value, and so is that of bytes alone.
abbrev pub IsNoStyle : LexState ValueState → Type 0
IsNoStyle (Text Closed) = Unit {0}
IsNoStyle (BeforeAttributeName tag) = Unit {0}
IsNoStyle (AfterAttributeName tag k) = Unit {0}
IsNoStyle (BeforeAttributeValue tag k) = Unit {0}
IsNoStyle (AttributeValue q tag (ValueOf (OfKind k)) Closed) = Unit {0}
IsNoStyle (AttributeValue q tag (ValueOf (OfUrl u)) Closed) = Unit {0}
IsNoStyle (AttributeValue q tag (ValueOf (OfScript s)) Closed) = Unit {0}
IsNoStyle (AfterAttributeValue tag) = Unit {0}
IsNoStyle (SelfClosingStartTag tag) = Unit {0}
IsNoStyle (InContent e (Characters Closed) Nothing) = Unit {0}
IsNoStyle (InContent e Bytes h) = Unit {0}
IsNoStyle s = ⊥

no-slash : (s : LexState ValueState) (d e : Config ValueState) → IsNoStyle s → IsSlashPending s d e → ⊥
no-slash (AttributeValue q tag (ValueOf (OfStyle v)) r) d e n h = n
no-slash _ d e n h = h

no-element : (s : LexState ValueState) (d e : Config ValueState) → IsNoStyle s → IsElementPending s d e → ⊥
no-element (InContent i (InLanguage v) h) d e n p = n
no-element _ d e n p = p

abbrev pub is_in_language : LexState ValueState → Bool
is_in_language (InContent e (InLanguage v) h) = true
is_in_language s = false

stands-outside : (s : LexState ValueState) (t : List LexEvent) (m : Config ValueState) → IsNoStyle s → TextStands languages s t m → is_in_language m.at ≡ false
stands-outside (Text Closed) t m n l = ap (λ (c : Config ValueState). is_in_language c.at) l
stands-outside (BeforeAttributeName tag) t m n l = ap (λ (c : Config ValueState). is_in_language c.at) l
stands-outside (AfterAttributeName tag k) t m n l = ap (λ (c : Config ValueState). is_in_language c.at) l
stands-outside (BeforeAttributeValue tag k) t m n l = ap (λ (c : Config ValueState). is_in_language c.at) l
stands-outside (AttributeValue q tag (ValueOf (OfKind k)) Closed) t m n l = ap (λ (c : Config ValueState). is_in_language c.at) l.stands
stands-outside (AttributeValue q tag (ValueOf (OfUrl u)) Closed) t m n l = ap (λ (c : Config ValueState). is_in_language c.at) l.stands
stands-outside (AttributeValue q tag (ValueOf (OfScript s)) Closed) t m n l = ap (λ (c : Config ValueState). is_in_language c.at) l.stands
stands-outside (AfterAttributeValue tag) t m n l = ap (λ (c : Config ValueState). is_in_language c.at) l
stands-outside (SelfClosingStartTag tag) t m n l = ap (λ (c : Config ValueState). is_in_language c.at) l
stands-outside (InContent e (Characters Closed) Nothing) t m n l = ap (λ (c : Config ValueState). is_in_language c.at) l
stands-outside (InContent e Bytes (PendingOpening letters)) t m n l = absurd l
stands-outside (InContent e Bytes h) t m n l = ap (λ (c : Config ValueState). is_in_language c.at) l
stands-outside _ t m n l = absurd n

same-kind-of-state : (vs : List Filling) (s z : LexState ValueState) (t u : List LexEvent) → Beside languages (Filled vs) (RawFilled vs) s z t u
    → is_in_language z ≡ is_in_language s
same-kind-of-state vs (AttributeValue q tag (ValueOf v) r) z t u a = ap is_in_language a.1
same-kind-of-state vs (InContent e (InLanguage v) h) z t u a = ap is_in_language a.2
same-kind-of-state vs _ z t u a = ap is_in_language a.0

-- a page that is in no element of a style holds nothing back in one
pub not-held : (d e : Config ValueState) → is_in_language e.at ≡ false → SolidusHeld d e → ⊥
not-held d e n h = true≢false (sym (ap (λ (c : Config ValueState). is_in_language c.at) h.own.is_settled) ∙ n)

none-pending : (s : LexState ValueState) (vs : List Filling) (m d e : Config ValueState) → IsNoStyle s → is_in_language m.at ≡ false → RawStands vs m e
    → AreRaw s d e → RawStands vs m d
none-pending s vs m d e n o r (inl h) = subst (RawStands vs m) (sym h) r
none-pending s vs m d e n o r (inr (inl h)) = absurd (no-slash s d e n h)
none-pending s vs m d e n o r (inr (inr (inl h))) = absurd (no-element s d e n h)
none-pending s vs m d e n o r (inr (inr (inr h))) = absurd (not-held d e (same-kind-of-state vs m.at e.at m.emitted e.emitted r ∙ o) h)

pub raw-beside : (s : LexState ValueState) (vs : List Filling) (t : List LexEvent) (m d : Config ValueState) → IsNoStyle s → TextStands languages s t m
    → StandsRaw s vs m d → RawStands vs m d
raw-beside s vs t m d n l r = none-pending s vs m d r.settled n (stands-outside s t m n l) r.beside r.pending

-- the state after the text of a node does not depend on what was emitted
same-states : (bytes : List ℕ) (s : LexState ValueState) (t : List LexEvent)
    → (read_over languages Template bytes (config s t)).at ≡ states bytes s
same-states [] s t = refl
same-states (b ∷ bs) s t = same-states bs (next languages Template s (class_of b) b) (emits languages Template s (class_of b) b t)

pub node-state : (bytes : List ℕ) (s : LexState ValueState) (t : List LexEvent) → (read_node languages bytes (config s t)).at ≡ node bytes s
node-state bytes s t = ap (at_cut languages) (same-states bytes s t)

-- what a value emits, before what was emitted
pub text-run : (bs : List ℕ) (t u : List LexEvent) → event_text_bytes bs (t ++ u) ≡ event_text_bytes bs t ++ u
text-run [] t u = refl
text-run (b ∷ bs) t u = text-run bs (TextByte b ∷ t) u

pub block-run : (bs : List ℕ) (t u : List LexEvent) → block_bytes bs (t ++ u) ≡ block_bytes bs t ++ u
block-run [] t u = refl
block-run (b ∷ bs) t u = block-run bs (BlockByte b ∷ t) u

pub value-run : (bs : List ℕ) (t u : List LexEvent) → value_bytes bs (t ++ u) ≡ value_bytes bs t ++ u
value-run [] t u = refl
value-run (b ∷ bs) t u = value-run bs (ValueByte b ∷ t) u

pub name-run : (bs : List ℕ) (t u : List LexEvent) → attribute_name_bytes bs (t ++ u) ≡ attribute_name_bytes bs t ++ u
name-run [] t u = refl
name-run (b ∷ bs) t u = name-run bs (AttributeNameByte b ∷ t) u

-- From where the reading with marks stands for a path before a hole, the bytes of the hole lead the reading of bytes alone beside the marked one, and emit
-- what fills the mark.
abbrev pub Leads : LexState ValueState → List ℕ → List ℕ → Type 0
Leads s text bytes =
    (vs : List Filling) (t : List LexEvent) (m d : Config ValueState) → TextStands languages s t m → StandsRaw s vs m d
    → StandsRaw (at_hole languages s) (fillings_at s text vs) (marked bytes m) (read Page bytes d)

-- the same where nothing is pending
abbrev pub LeadsOn : LexState ValueState → List ℕ → List ℕ → Type 0
LeadsOn s text bytes =
    (vs : List Filling) (t : List LexEvent) (m d : Config ValueState) → TextStands languages s t m → RawStands vs m d
    → RawStands (fillings_at s text vs) (marked bytes m) (read Page bytes d)

pub leads-on : (s : LexState ValueState) (text bytes : List ℕ) → IsNoStyle s → LeadsOn s text bytes → Leads s text bytes
leads-on s text bytes n k vs t m d l r = beside-raw (at_hole languages s) (fillings_at s text vs) _ _ (k vs t m d l (raw-beside s vs t m d n l r))

-- where the reading with marks comes over a hole, by where its bytes lead
pub marked-is : (s z : LexState ValueState) (bytes : List ℕ) (t run : List LexEvent) → read Page bytes (config (settled_state languages s) []) ≡ config z run
    → marked bytes (config s t) ≡ config (state_past_hole languages (settled_state languages s) z) (mark_in languages s t)
marked-is s z bytes t run e = ap (λ (c : Config ValueState). config (state_past_hole languages (settled_state languages s) c.at) (mark_in languages s t)) e

pub led : (vs : List Filling) (m d c k : Config ValueState) → m ≡ c → d ≡ k → RawStands vs c k → RawStands vs m d
led vs m d c k e h r = subst (λ (z : Config ValueState). RawStands vs z d) (sym e) (subst (RawStands vs c) (sym h) r)

-- outside of values both are in the path's state
same-outside : (vs : List Filling) (s z : LexState ValueState) (t u : List LexEvent) → IsOutside s → Beside languages (Filled vs) (RawFilled vs) s z t u
    → (z ≡ s) × Fills t vs u
same-outside vs (AttributeValue q tag (ValueOf v) r) z t u o a = absurd o
same-outside vs (InContent e (InLanguage v) h) z t u o a = absurd o
same-outside vs _ z t u o a = a

pub raw-there : (s : LexState ValueState) (vs : List Filling) (t : List LexEvent) (m d : Config ValueState) → IsOutside s → m ≡ config s t
    → RawStands vs m d
    → (d ≡ config s d.emitted) × Fills t vs d.emitted
raw-there s vs t m d o e r =
    let q = same-outside vs s d.at t d.emitted o (subst (λ (z : Config ValueState). RawStands vs z d) e r) in
    (ap (λ (z : LexState ValueState). config z d.emitted) q.0, q.1)

pub text-leads : (text bytes : List ℕ) → IsBackInText text bytes → LeadsOn (Text Closed) text bytes
text-leads text bytes back vs t m d l r =
    let s : LexState ValueState = Text Closed in
    let own = raw-there s vs t m d tt l r in
    let run = event_text_bytes (read_as_text text) [] in
    led (filling TextSite text ∷ vs) _ _ (config s (Mark ∷ t)) (config s (run ++ d.emitted))
    (ap (marked bytes) l ∙ marked-is s s bytes t _ (back.reads []))
    (ap (read Page bytes) own.0 ∙ back.reads d.emitted ∙ ap (config s) (text-run (read_as_text text) [] d.emitted))
    (refl, fills-mark (filling TextSite text) vs run t d.emitted refl own.1)

pub content-leads : (e : Element) (text bytes : List ℕ) → IsBackInRcdata text bytes → LeadsOn (in_rcdata e) text bytes
content-leads e text bytes back vs t m d l r =
    let s = in_rcdata e in
    let own = raw-there s vs t m d tt l r in
    let run = event_text_bytes (read_as_text text) [] in
    led (filling TextSite text ∷ vs) _ _ (config s (Mark ∷ t)) (config s (run ++ d.emitted))
    (ap (marked bytes) l ∙ marked-is s s bytes t _ (back.reads e []))
    (ap (read Page bytes) own.0 ∙ back.reads e d.emitted ∙ ap (config s) (text-run (read_as_text text) [] d.emitted))
    (refl, fills-mark (filling TextSite text) vs run t d.emitted refl own.1)

pub block-leads : (text bytes : List ℕ) → IsBackInBlock text bytes → LeadsOn in_block text bytes
block-leads text bytes back vs t m d l r =
    let s = in_block in
    let own = raw-there s vs t m d tt l r in
    let run = block_bytes bytes [] in
    led (filling BlockSite text ∷ vs) _ _ (config s (Mark ∷ t)) (config s (run ++ d.emitted))
    (ap (marked bytes) l ∙ marked-is s s bytes t _ (back.reads []))
    (ap (read Page bytes) own.0 ∙ back.reads d.emitted ∙ ap (config s) (block-run bytes [] d.emitted))
    (refl, fills-mark (filling BlockSite text) vs run t d.emitted (record { bytes = bytes; emitted = refl; undoes = back.undoes }) own.1)

-- in a value of kind Plain
abbrev pub in_plain : Quoting → Tag → LexState ValueState
in_plain q tag = in_value q tag (ValueOf (OfKind kind.Plain))

in-kind : (q : Quoting) (tag : Tag) (bs : List ℕ) (u : List LexEvent)
    → read_value q tag (ValueOf (OfKind kind.Plain)) bs u ≡ config (in_plain q tag) (value_bytes bs [] ++ u)
in-kind q tag bs u =
    ap (λ (z : Value ValueState). config (in_value q tag z) (emitted_bytes languages (ValueOf (OfKind kind.Plain)) bs u)) (same-kind kind.Plain bs)
    ∙ ap (config (in_plain q tag)) (value-told bs (ValueOf (OfKind kind.Plain)) u ∙ value-run bs [] u)

raw-plain : (q : Quoting) (tag : Tag) (vs : List Filling) (t : List LexEvent) (m d : Config ValueState) → m ≡ config (in_plain q tag) t
    → RawStands vs m d
    → (d ≡ config (in_plain q tag) d.emitted) × Fills t vs d.emitted
raw-plain q tag vs t m d e r =
    let p = subst (λ (z : Config ValueState). RawStands vs z d) e r in
    (ap (λ (z : LexState ValueState). config z d.emitted) (p.1 ∙ ap (λ (v : ValueState). in_value q tag (ValueOf v)) p.2.0), p.2.1)

kind-leads : (q : Quoting) (tag : Tag) (text bytes bs : List ℕ) → ((before : List LexEvent) → FitsAt (quoted_site q) text before (value_bytes bs []))
    → ((t : List LexEvent) → read Page bytes (config (in_plain q tag) t) ≡ read_value q tag (ValueOf (OfKind kind.Plain)) bs t)
    → LeadsOn (in_plain q tag) text bytes
kind-leads q tag text bytes bs fits reads vs t m d l r =
    let s = in_plain q tag in
    let there : m ≡ config s t = same-state s t m refl l in
    let own = raw-plain q tag vs t m d there r in
    let run = value_bytes bs [] in
    led (filling (quoted_site q) text ∷ vs) _ _ (config s (Mark ∷ t)) (config s (run ++ d.emitted))
    (ap (marked bytes) there ∙ marked-is s s bytes t _ (reads [] ∙ in-kind q tag bs []))
    (ap (read Page bytes) own.0 ∙ reads d.emitted ∙ in-kind q tag bs d.emitted)
    (OfKind kind.Plain, refl, (refl, fills-mark (filling (quoted_site q) text) vs run t d.emitted (fits d.emitted) own.1))

pub double-leads : (tag : Tag) (text bytes : List ℕ) → IsBackInQuoted text bytes
    → LeadsOn (in_value DoubleQuoted tag (ValueOf (OfKind kind.Plain))) text bytes
double-leads tag text bytes back = kind-leads DoubleQuoted tag text bytes (read_as_text text) (λ before. refl)
    (λ t. back.reads DoubleQuoted tag (ValueOf (OfKind kind.Plain)) t refl)

pub single-leads : (tag : Tag) (text bytes : List ℕ) → IsBackInQuoted text bytes
    → LeadsOn (in_value SingleQuoted tag (ValueOf (OfKind kind.Plain))) text bytes
single-leads tag text bytes back = kind-leads SingleQuoted tag text bytes (read_as_text text) (λ before. refl)
    (λ t. back.reads SingleQuoted tag (ValueOf (OfKind kind.Plain)) t refl)

pub unquoted-leads : (tag : Tag) (text bytes : List ℕ) → IsBackInUnquoted text bytes
    → LeadsOn (in_value Unquoted tag (ValueOf (OfKind kind.Plain))) text bytes
unquoted-leads tag text bytes back = kind-leads Unquoted tag text bytes (as_unquoted text) (λ before. refl)
    (λ t. back.reads tag (ValueOf (OfKind kind.Plain)) t)

pub unbegun-leads : (tag : Tag) (text bytes : List ℕ) → IsBackInUnquoted text bytes → LeadsOn (BeforeAttributeValue tag kind.Plain) text bytes
unbegun-leads tag text bytes back vs t m d l r =
    let s : LexState ValueState = BeforeAttributeValue tag kind.Plain in
    let z = in_plain Unquoted tag in
    let bs = as_unquoted text in
    let own = raw-there s vs t m d tt l r in
    let run = value_bytes bs [] in
    led (filling UnquotedSite text ∷ vs) _ _ (config z (Mark ∷ t)) (config z (run ++ d.emitted))
    (ap (marked bytes) l ∙ marked-is s z bytes t _ (back.reads_unbegun tag kind.Plain [] ∙ in-kind Unquoted tag bs []))
    (ap (read Page bytes) own.0 ∙ back.reads_unbegun tag kind.Plain d.emitted ∙ in-kind Unquoted tag bs d.emitted)
    (OfKind kind.Plain, refl, (refl, fills-mark (filling UnquotedSite text) vs run t d.emitted refl own.1))

-- as the name of an attribute
pub name-leads : (s : LexState ValueState) (tag : Tag) (text bytes : List ℕ) → IsBackInTag text bytes → BeginsName s tag → IsOutside s
    → ((u : List LexEvent) (d : Config ValueState) → TextStands languages s u d → d ≡ config s u)
    → ((t : List LexEvent) → marked bytes (config s t) ≡ config (AttributeName tag (as_name text)) (Mark ∷ AttributeBegins ∷ t))
    → ((vs : List Filling) → fillings_at s text vs ≡ filling NameSite text ∷ vs) → LeadsOn s text bytes
name-leads s tag text bytes back begins outside there over place vs t m d l r =
    let z : LexState ValueState = AttributeName tag (as_name text) in
    let own = raw-there s vs t m d outside (there t m l) r in
    let run = attribute_name_bytes (as_name text) [] in
    let began : List LexEvent = AttributeBegins ∷ d.emitted in
    let filled = fills-mark (filling NameSite text) vs run (AttributeBegins ∷ t) began refl (fills-keep vs AttributeBegins t d.emitted tt own.1) in
    subst (λ (ws : List Filling). RawStands ws (marked bytes m) (read Page bytes d)) (sym (place vs))
    (led (filling NameSite text ∷ vs) _ _ (config z (Mark ∷ AttributeBegins ∷ t)) (config z (run ++ began))
    (ap (marked bytes) (there t m l) ∙ over t)
    (ap (read Page bytes) own.0 ∙ back.reads s tag d.emitted begins ∙ ap (config z) (name-run (as_name text) [] began))
    (refl, filled))

-- in a URL
abbrev pub in_url : Quoting → Tag → Url → LexState ValueState
in_url q tag u = in_value q tag (ValueOf (OfUrl u))

url-fits : (q : Quoting) (u w : Url) (text bytes : List ℕ) (h : IsUrlHole q u text bytes) (before : List LexEvent) → UrlsAlike u w
    → FitsAt (UrlSite q u.part) text before (value_bytes (url_bytes q h.characters) [])
url-fits q u w text bytes h before a = record {
  bytes = h.characters;
  emitted = refl;
  allowed = subst (λ (p : UrlPart). ArePlainBytes p (url_bytes q h.characters)) a.part (h.plain w a).allowed;
  reads = h.back;
}

-- the states behind the hole: of the reading with marks, from `w`, and of that of bytes alone, from `y`
pub behind-same : (bs : List ℕ) (w y : Url) → SchemesSame w y → SchemesSame (url_behind w (feed_all w bs)) (feed_all y bs)
behind-same bs w y a = (let e = fed-same bs w y a in record { scheme = e.scheme; bound = e.bound })

url-led : (q : Quoting) (tag : Tag) (u w : Url) (z : ValueState) (text bytes : List ℕ) (h : IsUrlHole q u text bytes) (vs : List Filling) (t : List LexEvent) (d : Config ValueState)
    → UrlsAlike u w → d.at ≡ in_value q tag (ValueOf z) → RawBeside vs (OfUrl w) z d.emitted → Fills t vs d.emitted
    → RawStands (filling (UrlSite q u.part) text ∷ vs) (marked bytes (config (in_url q tag w) t)) (read Page bytes d)
url-led q tag u w (OfKind k) text bytes h vs t d a e b f = absurd b
url-led q tag u w (OfStyle s) text bytes h vs t d a e b f = absurd b
url-led q tag u w (OfScript s) text bytes h vs t d a e b f = absurd b
url-led q tag u w (OfUrl y) text bytes h vs t d a e b f =
    let bs = url_bytes q h.characters in
    let run = value_bytes bs [] in
    led (filling (UrlSite q u.part) text ∷ vs) _ _ (config (in_url q tag (url_behind w (feed_all w bs))) (Mark ∷ t)) (config (in_url q tag (feed_all y bs)) (run ++ d.emitted))
    (marked-is (in_url q tag w) (in_url q tag (feed_all w bs)) bytes t _ (h.reads tag w []))
    (ap (λ (s : LexState ValueState). read Page bytes (config s d.emitted)) e ∙ h.reads tag y d.emitted ∙ ap (config (in_url q tag (feed_all y bs))) (value-run bs [] d.emitted)) (
      OfUrl (feed_all y bs),
      refl,
      (
        behind-same bs w y b,
        fills-mark (filling (UrlSite q u.part) text) vs run t d.emitted
            (url-fits q u w text bytes h d.emitted a) f,
      ),
    )

url-raw : (q : Quoting) (tag : Tag) (u : Url) (v : ValueState) (text bytes : List ℕ) (h : IsUrlHole q u text bytes) (vs : List Filling) (t : List LexEvent) (m d : Config ValueState)
    → languages.AreAlike (OfUrl u) v → m ≡ config (in_value q tag (ValueOf v)) t → RawStands vs m d
    → RawStands (filling (UrlSite q u.part) text ∷ vs) (marked bytes m) (read Page bytes d)
url-raw q tag u (OfKind k) text bytes h vs t m d a e r = absurd a
url-raw q tag u (OfStyle s) text bytes h vs t m d a e r = absurd a
url-raw q tag u (OfScript s) text bytes h vs t m d a e r = absurd a
url-raw q tag u (OfUrl w) text bytes h vs t m d a e r =
    let p = subst (λ (z : Config ValueState). RawStands vs z d) e r in
    subst (λ (z : Config ValueState). RawStands (filling (UrlSite q u.part) text ∷ vs) (marked bytes z) (read Page bytes d)) (sym e)
    (url-led q tag u w p.0 text bytes h vs t d a p.1 p.2.0 p.2.1)

pub url-leads : (q : Quoting) (tag : Tag) (u : Url) (datum : Data) (bytes : List ℕ) → u.triple ≡ NoTriple → refuses_hole_in u.part ≡ None
    → IsBackBy (url_chain (parts_of u.part) (last_of (quotes_at q))) datum bytes → LeadsOn (in_url q tag u) (printed datum) bytes
url-leads q tag u datum bytes e n k vs t m d l r =
    url-raw q tag u l.there (printed datum) bytes (url-hole q u datum bytes e n k) vs t m d l.alike l.stands r

-- where a URL without quotes is to begin
pub url-begun-leads : (tag : Tag) (datum : Data) (bytes : List ℕ) → IsBackBy (url_chain (parts_of UrlStart) san.AttrNospace) datum bytes
    → LeadsOn (BeforeAttributeValue tag kind.Url) (printed datum) bytes
url-begun-leads tag datum bytes k vs t m d l r =
    let s : LexState ValueState = BeforeAttributeValue tag kind.Url in
    let b = url-begun tag datum bytes k in
    let h = b.hole in
    let bs = url_bytes Unquoted h.characters in
    let run = value_bytes bs [] in
    let w = feed_all url_start bs in
    let own = raw-there s vs t m d tt l r in
    led (filling (UrlSite Unquoted UrlStart) (printed datum) ∷ vs) _ _ (config (in_url Unquoted tag (url_behind url_start w)) (Mark ∷ t)) (config (in_url Unquoted tag w) (run ++ d.emitted))
    (ap (marked bytes) l ∙ marked-is s (in_url Unquoted tag w) bytes t _ (b.reads_unbegun tag []))
    (ap (read Page bytes) own.0 ∙ b.reads_unbegun tag d.emitted ∙ ap (config (in_url Unquoted tag w)) (value-run bs [] d.emitted)) (
      OfUrl w,
      refl,
      (
        behind-same bs url_start url_start (record { scheme = refl; bound = refl }),
        fills-mark
            (filling (UrlSite Unquoted UrlStart) (printed datum)) vs run t d.emitted
            (url-fits Unquoted url_start url_start (printed datum) bytes h d.emitted language-laws.begins) own.1,
      ),
    )
