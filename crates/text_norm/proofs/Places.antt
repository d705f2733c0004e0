-- Where text with references is read: in text, in a title or a textarea, and in a value.
use Rattle.std.proofs.Common.{◌≡◌, ℕ, Bool, true, false, List, ◌∷◌, ◌++◌, refl, sym, ap, ap₂, ◌∙◌}
use Rattle.place_core.specs.page.Classes.{Class, LessThan, class_of}
use Rattle.place_core.specs.page.Events.{LexEvent, event_text_bytes}
use Rattle.place_core.specs.page.Html.{byte_over, ends_value}
use Rattle.place_core.specs.page.References.{Reference, Closed, Open, next_reference, undone_byte}
use Rattle.place_core.specs.page.States.{Page, Text, AttributeValue, Characters, Nothing, InContent, Config, config}
use Rattle.place_core.specs.page.Tags.{Tag, Value, ValueLanguage, Quoting, DoubleQuoted, SingleQuoted, Unquoted, with_bytes, emitted_bytes}
use Rattle.place_core.specs.declared.element.Element.{Element}
use Rattle.place_core.proofs.Readings.{text_bytes-append, with_bytes-append, emitted_bytes-append}
use Rattle.text_norm.specs.Standing.{StandsIn, standing_content, standing_text, standing_value}
use Rattle.text_norm.proofs.Runs.{IsRun, StandsFrom}

abbrev pub is_less : Class → Bool
is_less LessThan = true
is_less _ = false

pub no : true ≡ false → ⊥
no e = cc

text-step : {B : Type 0} (x : ValueLanguage B) (t : List LexEvent) (r : Reference) (bs : List ℕ) (c : Class) (b : ℕ) → class_of b ≡ c → is_less c ≡ false
    → byte_over x Page b (standing_text t r bs) ≡ standing_text t (next_reference r c b) (bs ++ undone_byte false r c b)
text-step x t r bs LessThan b e s = absurd (no s)
text-step {B} x t r bs c b e s = rw e refl ∙ ap (config (Text (next_reference r c b))) (sym (text_bytes-append bs (undone_byte false r c b) t))

pub text-run : {B : Type 0} (x : ValueLanguage B) (t : List LexEvent) → IsRun B x (standing_text t) false is_less
text-run x t = record { step = text-step x t; amp = refl; letter = λ l. refl; semicolon = refl }

content-step : {B : Type 0} (x : ValueLanguage B) (e : Element) (t : List LexEvent) (r : Reference) (bs : List ℕ) (c : Class) (b : ℕ) → class_of b ≡ c → is_less c ≡ false
    → byte_over x Page b (standing_content e t r bs) ≡ standing_content e t (next_reference r c b) (bs ++ undone_byte false r c b)
content-step x e t r bs LessThan b k s = absurd (no s)
content-step {B} x e t r bs c b k s = rw k refl ∙ ap (config (InContent e (Characters (next_reference r c b)) Nothing)) (sym (text_bytes-append bs (undone_byte false r c b) t))

pub content-run : {B : Type 0} (x : ValueLanguage B) (e : Element) (t : List LexEvent) → IsRun B x (standing_content e t) false is_less
content-run x e t = record { step = content-step x e t; amp = refl; letter = λ l. refl; semicolon = refl }

value-step : {B : Type 0} (x : ValueLanguage B) (q : Quoting) (tag : Tag) (v : Value B) (t : List LexEvent) (r : Reference) (bs : List ℕ) (c : Class) (b : ℕ) → class_of b ≡ c → ends_value q c ≡ false
    → byte_over x Page b (standing_value x q tag v t r bs) ≡ standing_value x q tag v t (next_reference r c b) (bs ++ undone_byte true r c b)
value-step x q tag v t r bs c b e s =
    rw (e, s) refl
    ∙ ap₂ (λ (w : Value _) (u : List LexEvent). config (AttributeValue q tag w (next_reference r c b)) u) (sym (with_bytes-append x v bs (undone_byte true r c b))) (sym (emitted_bytes-append x v bs (undone_byte true r c b) t))

pub value-run : {B : Type 0} (x : ValueLanguage B) (q : Quoting) (tag : Tag) (v : Value B) (t : List LexEvent) → IsRun B x (standing_value x q tag v t) true (ends_value q)
value-run x DoubleQuoted tag v t = record { step = value-step x DoubleQuoted tag v t; amp = refl; letter = λ l. refl; semicolon = refl }
value-run x SingleQuoted tag v t = record { step = value-step x SingleQuoted tag v t; amp = refl; letter = λ l. refl; semicolon = refl }
value-run x Unquoted tag v t = record { step = value-step x Unquoted tag v t; amp = refl; letter = λ l. refl; semicolon = refl }

-- what has been told since is told before
pub text-since : {B : Type 0} (x : ValueLanguage B) (t : List LexEvent) (u : List ℕ) (r : Reference) (d : Config B) → StandsFrom x (standing_text t) u r d → StandsIn x (standing_text (event_text_bytes u t)) r d
text-since x t u Closed d h = h
text-since x t u (Open f bytes) d h = record { as_is = h.as_is; cut = h.cut ∙ ap (config (Text Closed)) (text_bytes-append u (38 ∷ bytes) t) }

pub content-since : {B : Type 0} (x : ValueLanguage B) (e : Element) (t : List LexEvent) (u : List ℕ) (r : Reference) (d : Config B) → StandsFrom x (standing_content e t) u r d → StandsIn x (standing_content e (event_text_bytes u t)) r d
content-since x e t u Closed d h = h
content-since x e t u (Open f bytes) d h = record { as_is = h.as_is; cut = h.cut ∙ ap (config (InContent e (Characters Closed) Nothing)) (text_bytes-append u (38 ∷ bytes) t) }

pub value-since : {B : Type 0} (x : ValueLanguage B) (q : Quoting) (tag : Tag) (v : Value B) (t : List LexEvent) (u : List ℕ) (r : Reference) (d : Config B)
    → StandsFrom x (standing_value x q tag v t) u r d → StandsIn x (standing_value x q tag (with_bytes x v u) (emitted_bytes x v u t)) r d
value-since x q tag v t u Closed d h = h
value-since x q tag v t u (Open f bytes) d h = record {
  as_is = h.as_is;
  cut = h.cut ∙ ap₂ (λ (w : Value _) (z : List LexEvent). config (AttributeValue q tag w Closed) z) (with_bytes-append x v u (38 ∷ bytes)) (emitted_bytes-append x v u (38 ∷ bytes) t);
}
