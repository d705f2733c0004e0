-- What a chain promises in the element of a script leads the page's reading of bytes alone beside its reading with marks, and tells what fills the mark. Both
-- readings have the same pending, and are in the same state but for the trail: no value in code is empty, and in a token nothing is pending.
use Rattle.std.proofs.Common.{◌≡◌, ℕ, Bool, true, false, List, [], inl, inr, refl, sym, ap, ◌∙◌, subst, true≢false}
use Rattle.js_lexer.specs.Alike.{IsSame}
use Rattle.js_lexer.specs.BackLaws.{in_code}
use Rattle.js_lexer.specs.Feeding.{script_reading}
use Rattle.js_lexer.specs.States.{At, ScriptState, Trail}
use Rattle.place_core.specs.page.Contents.{pending_bytes}
use Rattle.place_core.specs.page.Events.{LexEvent}
use Rattle.place_core.specs.page.Html.{read}
use Rattle.place_core.specs.page.Paths.{at_hole}
use Rattle.place_core.specs.page.Shape.{marked}
use Rattle.place_core.specs.page.States.{Config, InContent, InLanguage, LexState, Nothing, Page, Pending, config}
use Rattle.place_core.specs.page.Tags.{DoubleQuoted, OfKind, OfScript, OfStyle, OfUrl, ValueOf, ValueState, languages, value_is_script}
use Rattle.place_core.specs.place.ScriptParts.{may_begin_text_at}
use Rattle.place_core.specs.declared.element.Element.{Element}
use Rattle.text_norm.proofs.FilledMarks.{AreRaw, Filled, Leads, RawBeside, RawFilled, RawStands, StandsRaw, beside-raw, led, raw-reads}
use Rattle.text_norm.proofs.ReadBeside.{fed-step}
use Rattle.text_norm.proofs.ScriptElementHoles.{IsScriptElementHole, ScriptHolds, script-marked-at, script-read-at, script-released, script_hole_at, script_hole_told}
use Rattle.text_norm.proofs.ScriptElementStands.{IsScriptThere, holds-apart, script-there}
use Rattle.text_norm.proofs.ScriptHoles.{IsComment}
use Rattle.text_norm.proofs.ScriptLeads.{AreFilledAt, script-goes}
use Rattle.text_norm.proofs.ScriptLeadsTells.{script-read-told, script_fed, script_told}
use Rattle.text_norm.proofs.StyleElementKeeps.{behind, element_at, told}
use Rattle.text_norm.specs.Fillings.{Filling, Fills, fillings_at, value_fillings}
use Rattle.text_norm.specs.Standing.{in_element}

abbrev in_script_element : Element → ScriptState → LexState ValueState
in_script_element e s = in_element e (OfScript s) Nothing

-- Nothing is pending in the one and told in the other: that is in a style.
abbrev is_script_at : LexState ValueState → Bool
is_script_at (InContent e (InLanguage v) h) = value_is_script v
is_script_at s = false

raw-same : (e i : Element) (s y : ScriptState) (held : Pending) (d settled : Config ValueState) → settled.at ≡ in_element e (OfScript y) held
    → AreRaw (in_script_element i s) d settled → d ≡ settled
raw-same e i s y held d settled at (inl h) = h
raw-same e i s y held d settled at (inr (inl h)) = absurd h
raw-same e i s y held d settled at (inr (inr (inl h))) = absurd h
raw-same e i s y held d settled at (inr (inr (inr h))) =
    absurd (true≢false (sym (ap is_script_at at) ∙ ap (λ (c : Config ValueState). is_script_at c.at) h.own.is_settled))

-- The bytes lead both.
raw-read : (e : Element) (s y r : ScriptState) (held : Pending) (u : List LexEvent) (bytes : List ℕ) (d : Config ValueState)
    → d ≡ element_at e (OfScript y) held u
    → behind (OfScript y) held ≡ OfScript r → (g : IsScriptElementHole s bytes) → ScriptHolds held bytes
    → read Page bytes d ≡ element_at e (OfScript (script_fed r bytes)) Nothing (script_told r bytes (told (OfScript y) held u))
raw-read e s y r held u bytes d at is g o =
    ap (read Page bytes) at ∙ script-released e r y held u bytes is o g.apart
    ∙ ap (element_at e (OfScript (script_fed r bytes)) Nothing) (sym (script-read-told r bytes [] (told (OfScript y) held u)))

marked-read : (e : Element) (s : ScriptState) (t : List LexEvent) (m : Config ValueState) (bytes : List ℕ) (g : IsScriptThere e s t m)
    → IsScriptElementHole s bytes
    → marked bytes m ≡ element_at e (OfScript (script_hole_at g.read bytes)) Nothing (script_hole_told g.read t)
marked-read e s t m bytes g h =
    ap (marked bytes) g.at ∙ script-marked-at e g.read g.there g.held g.before bytes g.is_read h.apart
    ∙ ap (λ (u : List LexEvent). element_at e (OfScript (script_hole_at g.read bytes)) Nothing (script_hole_told g.read u)) g.tells

-- with what is pending read
raw-fed : (vs : List Filling) (there y w r : ScriptState) (held : Pending) (before t u : List LexEvent) → behind (OfScript there) held ≡ OfScript w
    → told (OfScript there) held before ≡ t → behind (OfScript y) held ≡ OfScript r → RawFilled vs (OfScript there) (OfScript y) before u
    → IsSame w r × Fills t vs (told (OfScript y) held u)
raw-fed vs there y w r held before t u i k j b =
    let f = fed-step ValueState languages (Filled vs) (RawFilled vs) (raw-reads vs) (pending_bytes held) (OfScript there) (OfScript y) before u b in (
      subst (λ (z : ValueState). RawBeside vs z (OfScript r) (told (OfScript y) held u)) i
          (subst (λ (z : ValueState). RawBeside vs (behind (OfScript there) held) z (told (OfScript y) held u)) j f.0),
      subst (λ (z : List LexEvent). Fills z vs (told (OfScript y) held u)) k f.1,
    )

raw-led : (e : Element) (s : ScriptState) (text bytes : List ℕ) (t : List LexEvent) (m d settled : Config ValueState) (g : IsScriptThere e s t m)
    → IsScriptElementHole s bytes
    → AreFilledAt DoubleQuoted s text bytes → (vs : List Filling) (y r : ScriptState) → settled.at ≡ in_element e (OfScript y) g.held → d ≡ settled
    → behind (OfScript y) g.held ≡ OfScript r → RawFilled vs (OfScript g.there) (OfScript y) g.before settled.emitted
    → RawStands (value_fillings (ValueOf (OfScript s)) DoubleQuoted text vs) (marked bytes m) (read Page bytes d)
raw-led e s text bytes t m d settled g h filled vs y r at same is b =
    let w = g.read in
    let u = told (OfScript y) g.held settled.emitted in
    let f = raw-fed vs g.there y w r g.held g.before t settled.emitted g.is_read.is g.tells is b in
    let more : List Filling → List Filling = λ vs. value_fillings (ValueOf (OfScript s)) DoubleQuoted text vs in
    let k = script-goes more bytes w r (filled w g.alike) vs t u f.0 f.1 in
    led (more vs) _ _
    (element_at e (OfScript (script_hole_at w bytes)) Nothing (script_hole_told w t))
    (element_at e (OfScript (script_fed r bytes)) Nothing (script_told r bytes u))
    (marked-read e s t m bytes g h)
    (raw-read e s y r g.held settled.emitted bytes d (same ∙ ap (λ (z : LexState ValueState). config z settled.emitted) at) is h (holds-apart s bytes g.held h g.holds))
    (tt, OfScript (script_fed r bytes), refl, (k.0, k.1))

-- in both readings it is a script
raw-from : (e i : Element) (s : ScriptState) (text bytes : List ℕ) (t : List LexEvent) (m d settled : Config ValueState) (g : IsScriptThere e s t m)
    → IsScriptElementHole s bytes → AreFilledAt DoubleQuoted s text bytes
    → (vs : List Filling) (y : ValueState) → settled.at ≡ in_element e y g.held → AreRaw (in_script_element i s) d settled
    → RawFilled vs (OfScript g.there) y g.before settled.emitted
    → RawStands (value_fillings (ValueOf (OfScript s)) DoubleQuoted text vs) (marked bytes m) (read Page bytes d)
raw-from e i s text bytes t m d settled g h filled vs (OfKind k) at p b = absurd b.0
raw-from e i s text bytes t m d settled g h filled vs (OfUrl u) at p b = absurd b.0
raw-from e i s text bytes t m d settled g h filled vs (OfStyle z) at p b = absurd b.0
raw-from e i s text bytes t m d settled g h filled vs (OfScript y) at p b =
    raw-led e s text bytes t m d settled g h filled vs y _ at (raw-same e i s y g.held d settled at p)
    (script-read-at (pending_bytes g.held) y (script_reading y []) refl) b

pub script-element-leads : (e : Element) (a : At) (trail : Trail) (text bytes : List ℕ) → trail.fresh ≡ true → may_begin_text_at a trail.markup ≡ true
    → (IsComment a → ⊥) → IsScriptElementHole (in_code a trail) bytes → AreFilledAt DoubleQuoted (in_code a trail) text bytes
    → Leads (in_script_element e (in_code a trail)) text bytes
script-element-leads e a trail text bytes f b n h filled vs t m d l r =
    let s = in_code a trail in
    let g = script-there e a trail t m f b n l.1 in
    let own = subst (λ (c : Config ValueState). RawStands vs c r.settled) g.at r.beside in
    beside-raw (at_hole languages (in_script_element e s)) (fillings_at (in_script_element e s) text vs) _ _
    (raw-from e e s text bytes t m d r.settled g h filled vs own.1 own.2 r.pending own.3)

-- In a comment, where a value is left out, both readings stay where they are.
stays-pending : (e : Element) (s r : ScriptState) (d settled : Config ValueState) → AreRaw (in_script_element e s) d settled
    → AreRaw (in_script_element e r) d settled
stays-pending e s r d settled (inl h) = inl h
stays-pending e s r d settled (inr (inl h)) = absurd h
stays-pending e s r d settled (inr (inr (inl h))) = absurd h
stays-pending e s r d settled (inr (inr (inr h))) = inr (inr (inr h))

pub script-raw-stays : (e : Element) (s r : ScriptState) (vs : List Filling) (m d : Config ValueState) → StandsRaw (in_script_element e s) vs m d
    → StandsRaw (in_script_element e r) vs m d
script-raw-stays e s r vs m d h = record { settled = h.settled; beside = h.beside; pending = stays-pending e s r d h.settled h.pending }
