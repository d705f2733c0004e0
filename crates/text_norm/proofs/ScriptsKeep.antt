-- What is written of a script in its element leads the page's reading where the path's leads: of a byte, of the end tag, and at the end of a node.
use Rattle.std.proofs.Common.{◌≡◌, ℕ, Bool, true, false, codes, List, [], ◌∷◌, ◌++◌, None, refl, sym, ap, ◌∙◌, subst}
use Rattle.js_lexer.proofs.WordsStand.{script-stands}
use Rattle.js_lexer.specs.Elements.{script_may_end}
use Rattle.js_lexer.specs.PageScripts.{ScriptStandsLaws}
use Rattle.js_lexer.specs.States.{ScriptState}
use Rattle.js_lexer.specs.Written.{script_written_at_cut}
use Rattle.place_core.proofs.ScriptSteps.{step-ends, token-goes-on}
use Rattle.place_core.specs.page.Classes.{Class, Solidus, White, class_of}
use Rattle.place_core.specs.page.Contents.{ScriptStep, Reads, EndsContent, behind_end_tag, content_at_cut, emits_behind_end_tag, emits_content_cut, emits_by_step, emits_escape, next_by_step, pending_at_cut, script_step}
use Rattle.place_core.specs.page.Events.{EndTagBegins, InsideScript, LexEvent, tag_name_bytes}
use Rattle.place_core.specs.page.Html.{emits, next}
use Rattle.place_core.specs.page.States.{Template, Config, InContent, InLanguage, Pending, PendingName, config}
use Rattle.place_core.specs.page.Tags.{OfScript, ValueState, languages}
use Rattle.place_core.specs.place.Errors.{language_content_error, language_cut_error}
use Rattle.place_core.specs.declared.element.Element.{Element}
use Rattle.text_norm.proofs.ScriptCodeSteps.{script-read}
use Rattle.text_norm.proofs.ScriptElementEnds.{end-tag}
use Rattle.text_norm.proofs.ScriptNodeEnds.{script-node-end}
use Rattle.text_norm.specs.Standing.{StandsInLanguage, TextStands, in_element, page}
use Rattle.text_norm.specs.Written.{cut_out, out, path_script, script_step_out}

script-laws-stand : ScriptStandsLaws LexEvent InsideScript
script-laws-stand = script-stands InsideScript

-- The end tag.
behind-tag : (c : Class) (t : List LexEvent) (d : Config ValueState) → d ≡ config (behind_end_tag c) t → TextStands languages (behind_end_tag c) t d
behind-tag White t d h = h
behind-tag Solidus t d h = h
behind-tag c t d h = h

may-end-by : (m : Bool) (e : Element) (h : Pending) (c : Class) (b : ℕ) (letters : List ℕ) → script_step m e h c b ≡ EndsContent letters → m ≡ true
may-end-by true e h c b letters s = refl
may-end-by false e h c b letters s = absurd (token-goes-on e h c b letters s)

abbrev StepThere : ScriptStep → Element → ScriptState → Pending → Class → ℕ → List LexEvent → Config ValueState → Type 0
StepThere z e s h c b t d =
    TextStands languages (next_by_step languages z c e (OfScript s)) (emits_escape Template h c (emits_by_step languages z c (OfScript s) t)) (page languages (script_step_out path_script s z b) d)

tag-ends : (e : Element) (s : ScriptState) (h : Pending) (c : Class) (b : ℕ) (letters : List ℕ) (t : List LexEvent) (d : Config ValueState) → class_of b ≡ c
    → script_step (script_may_end s) e h c b ≡ EndsContent letters → StandsInLanguage languages e (OfScript s) h t d → StepThere (EndsContent letters) e s h c b t d
tag-ends e s h c b letters t d k step l =
    let m = may-end-by (script_may_end s) e h c b letters step in
    let step : script_step true e h c b ≡ EndsContent letters = ap (λ (x : Bool). script_step x e h c b) (sym m) ∙ step in
    let name : h ≡ PendingName letters = (step-ends e h c b letters step).0 in
    let own = subst (λ (g : Pending). StandsInLanguage languages e (OfScript s) g t d) name l in
    behind-tag c (emits_behind_end_tag c (tag_name_bytes letters (EndTagBegins ∷ languages.ends (OfScript s) t)))
    (page languages (script_written_at_cut s ++ ((codes "</" ++ letters) ++ b ∷ [])) d)
    (end-tag script-laws-stand e s h letters c b t d k m step own.0.goes_on own.1)

-- a byte
abbrev ScriptLeads : Element → ScriptState → Pending → Class → ℕ → List LexEvent → Config ValueState → Type 0
ScriptLeads e s h c b t d =
    TextStands languages (next languages Template (in_element e (OfScript s) h) c b) (emits languages Template (in_element e (OfScript s) h) c b t) (page languages (out languages (in_element e (OfScript s) h) c b) d)

by-step : (z : ScriptStep) (e : Element) (s : ScriptState) (h : Pending) (c : Class) (b : ℕ) (t : List LexEvent) (d : Config ValueState) → class_of b ≡ c → script_step (script_may_end s) e h c b ≡ z
    → language_content_error e (OfScript s) h c b ≡ None → StandsInLanguage languages e (OfScript s) h t d → ScriptLeads e s h c b t d
by-step (Reads bytes g) e s h c b t d k step n l = script-read script-laws-stand e s h g c b bytes t d k step n l
by-step (EndsContent letters) e s h c b t d k step n l =
    subst (λ (z : ScriptStep). StepThere z e s h c b t d) (sym step) (tag-ends e s h c b letters t d k step l)

pub in-script : (e : Element) (s : ScriptState) (h : Pending) (c : Class) (b : ℕ) (t : List LexEvent) (d : Config ValueState) → class_of b ≡ c → language_content_error e (OfScript s) h c b ≡ None
    → StandsInLanguage languages e (OfScript s) h t d → ScriptLeads e s h c b t d
in-script e s h c b t d k n l = by-step (script_step (script_may_end s) e h c b) e s h c b t d k refl n l

-- the end of a node
pub cut-script : (e : Element) (s : ScriptState) (h : Pending) (t : List LexEvent) (d : Config ValueState) → language_cut_error (OfScript s) h ≡ None
    → StandsInLanguage languages e (OfScript s) h t d
    → TextStands languages (InContent e (content_at_cut languages (InLanguage (OfScript s)) h) (pending_at_cut (InLanguage (OfScript s)) h)) (emits_content_cut languages (InLanguage (OfScript s)) h t)
    (page languages (cut_out languages (InContent e (InLanguage (OfScript s)) h)) d)
cut-script e s h t d n l = script-node-end script-laws-stand e s h t d n l
