-- The content of elements that holds no tags (HTML Standard, sections 13.2.5.2 to 13.2.5.4 and 13.2.5.9 to 13.2.5.19): of title and textarea, which is
-- text, of data blocks, which is bytes, and of styles and scripts, which a language reads. It goes up to the element's own end tag, wherever in the language
-- that stands; but in the text of a template that tag is text in some tokens of a script. The escaped states of data blocks and scripts (sections 13.2.5.20
-- to 13.2.5.31) are not followed: a `<!--` is told, and changes nothing.
use Rattle.std.specs.Prelude.{ℕ, Bool, true, false, codes, bytes_eq, nat_eq, List, [], ◌∷◌, ◌++◌, if◌then◌else◌}
use Rattle.std.specs.List.{starts_with}
use Rattle.std.specs.Str.{str_to_ascii_lowercase}
use Rattle.js_lexer.specs.Written.{begins_hidden, is_hidden_in_script}
use Rattle.place_core.specs.page.Classes.{Class, White, ExclamationMark, HyphenMinus, Solidus, LessThan, GreaterThan, Letter}
use Rattle.place_core.specs.page.Events.{LexEvent, Escape, Mark, EndTagBegins, TagEnds, event_text_bytes, block_bytes, tag_name_bytes}
use Rattle.place_core.specs.page.References.{Closed, next_reference, undone_byte, settled, as_it_stands}
use Rattle.place_core.specs.page.States.{LexMode, Page, Template, Content, Characters, Bytes, InLanguage, Pending, Nothing, PendingLess, LessAtCut, PendingName, PendingBang, PendingBangDash, PendingOpening, LexState, Text, BeforeAttributeName, SelfClosingStartTag, InContent}
use Rattle.place_core.specs.page.Tags.{end_tag, ValueLanguage, ValueOf, fed_state, emits_fed, emitted_hole}
use Rattle.place_core.specs.declared.element.Element.{Element}
use Rattle.place_core.specs.declared.element.Element.TheVariants as element

abbrev pub name_of : Element → List ℕ
name_of element.Title = codes "title"
name_of element.Textarea = codes "textarea"
name_of element.Style = codes "style"
name_of element.Script = codes "script"
name_of element.DataBlock = codes "script"
name_of element.Other = []

-- whether letters after `</` are the name of the element, in any case (an appropriate end tag), and whether they may still become it
abbrev pub is_name_of : Element → List ℕ → Bool
is_name_of e letters = bytes_eq (str_to_ascii_lowercase letters) (name_of e)

abbrev pub may_be_name_of : Element → List ℕ → Bool
may_be_name_of e letters = starts_with nat_eq (name_of e) (str_to_ascii_lowercase letters)

-- Bytes of a content that were pending back and have come to nothing: what they make of it, and what is told of them.
abbrev pub content_after : {B : Type 0} → ValueLanguage B → Content B → List ℕ → Content B
content_after x (Characters r) bytes = Characters r
content_after x Bytes bytes = Bytes
content_after x (InLanguage v) bytes = InLanguage (fed_state x v bytes)

abbrev pub content_bytes : {B : Type 0} → ValueLanguage B → Content B → List ℕ → List LexEvent → List LexEvent
content_bytes x (Characters r) bytes t = event_text_bytes bytes t
content_bytes x Bytes bytes t = block_bytes bytes t
content_bytes x (InLanguage v) bytes t = emits_fed x v bytes t

-- how it goes on after a byte, after a `<`, which is pending back, and what the end of the content tells
abbrev pub next_content : {B : Type 0} → ValueLanguage B → Content B → Class → ℕ → Content B
next_content x (Characters r) c b = Characters (next_reference r c b)
next_content x Bytes c b = Bytes
next_content x (InLanguage v) c b = InLanguage (x.feed v b)

abbrev pub emits_content : {B : Type 0} → ValueLanguage B → Content B → Class → ℕ → List LexEvent → List LexEvent
emits_content x (Characters r) c b t = event_text_bytes (undone_byte false r c b) t
emits_content x Bytes c b t = block_bytes (b ∷ []) t
emits_content x (InLanguage v) c b t = x.emits v b t

abbrev pub closed_content : {B : Type 0} → Content B → Content B
closed_content (Characters r) = Characters Closed
closed_content Bytes = Bytes
closed_content (InLanguage v) = InLanguage v

abbrev pub emits_closed : {B : Type 0} → Content B → List LexEvent → List LexEvent
emits_closed (Characters r) t = event_text_bytes (settled false r) t
emits_closed Bytes t = t
emits_closed (InLanguage v) t = t

abbrev pub content_ends : {B : Type 0} → ValueLanguage B → Content B → List LexEvent → List LexEvent
content_ends x (Characters r) t = t
content_ends x Bytes t = t
content_ends x (InLanguage v) t = x.ends v t

-- a byte where nothing is pending back
abbrev pub next_loose : {B : Type 0} → ValueLanguage B → Class → ℕ → Element → Content B → LexState B
next_loose x LessThan b e y = InContent e (closed_content y) PendingLess
next_loose x c b e y = InContent e (next_content x y c b) Nothing

abbrev pub emits_loose : {B : Type 0} → ValueLanguage B → Class → ℕ → Content B → List LexEvent → List LexEvent
emits_loose x LessThan b y t = emits_closed y t
emits_loose x c b y t = emits_content x y c b t

-- after `<`; only a data block has `<!`
abbrev pub next_less : {B : Type 0} → ValueLanguage B → Class → ℕ → Element → Content B → LexState B
next_less x Solidus b e y = InContent e y (PendingName [])
next_less x ExclamationMark b e Bytes = InContent e Bytes PendingBang
next_less x c b e y = next_loose x c b e (content_after x y (codes "<"))

abbrev pub emits_less : {B : Type 0} → ValueLanguage B → Class → ℕ → Content B → List LexEvent → List LexEvent
emits_less x Solidus b y t = t
emits_less x ExclamationMark b Bytes t = t
emits_less x c b y t = emits_loose x c b (content_after x y (codes "<")) (content_bytes x y (codes "<") t)

-- after `</` and letters: whether the byte goes on with the element's name, and whether they are all of it
abbrev pub next_end_name : {B : Type 0} → ValueLanguage B → Bool → Bool → Class → ℕ → Element → Content B → List ℕ → LexState B
next_end_name x true whole (Letter l) b e y letters = InContent e y (PendingName (letters ++ b ∷ []))
next_end_name x grows true White b e y letters = BeforeAttributeName end_tag
next_end_name x grows true Solidus b e y letters = SelfClosingStartTag end_tag
next_end_name x grows true GreaterThan b e y letters = Text Closed
next_end_name x grows whole c b e y letters = next_loose x c b e (content_after x y (codes "</" ++ letters))

abbrev pub emits_end_name : {B : Type 0} → ValueLanguage B → Bool → Bool → Class → ℕ → Content B → List ℕ → List LexEvent → List LexEvent
emits_end_name x true whole (Letter l) b y letters t = t
emits_end_name x grows true White b y letters t = tag_name_bytes letters (EndTagBegins ∷ content_ends x y t)
emits_end_name x grows true Solidus b y letters t = tag_name_bytes letters (EndTagBegins ∷ content_ends x y t)
emits_end_name x grows true GreaterThan b y letters t = TagEnds false ∷ tag_name_bytes letters (EndTagBegins ∷ content_ends x y t)
emits_end_name x grows whole c b y letters t =
    emits_loose x c b (content_after x y (codes "</" ++ letters)) (content_bytes x y (codes "</" ++ letters) t)

-- after `<!` and `<!-` of a data block
abbrev pub next_bang : {B : Type 0} → ValueLanguage B → Class → ℕ → Element → Content B → LexState B
next_bang x HyphenMinus b e y = InContent e y PendingBangDash
next_bang x c b e y = next_loose x c b e (content_after x y (codes "<!"))

abbrev pub emits_bang : {B : Type 0} → ValueLanguage B → Class → ℕ → Content B → List LexEvent → List LexEvent
emits_bang x HyphenMinus b y t = t
emits_bang x c b y t = emits_loose x c b (content_after x y (codes "<!")) (content_bytes x y (codes "<!") t)

abbrev pub emits_bang_dash : {B : Type 0} → ValueLanguage B → Class → ℕ → Content B → List LexEvent → List LexEvent
emits_bang_dash x HyphenMinus b y t = Escape ∷ content_bytes x y (codes "<!--") t
emits_bang_dash x c b y t = emits_loose x c b (content_after x y (codes "<!-")) (content_bytes x y (codes "<!-") t)

-- a byte in such a content
abbrev pub next_in_content : {B : Type 0} → ValueLanguage B → Pending → Class → ℕ → Element → Content B → LexState B
next_in_content x Nothing c b e y = next_loose x c b e y
next_in_content x PendingLess c b e y = next_less x c b e y
next_in_content x LessAtCut c b e y = next_loose x c b e (content_after x y (codes "<"))
next_in_content x (PendingName letters) c b e y = next_end_name x (may_be_name_of e (letters ++ b ∷ [])) (is_name_of e letters) c b e y letters
next_in_content x PendingBang c b e y = next_bang x c b e y
next_in_content x PendingBangDash c b e y = next_loose x c b e (content_after x y (codes "<!-"))
next_in_content x (PendingOpening letters) c b e y = next_loose x c b e (content_after x y (codes "<" ++ letters))

abbrev pub emits_in_content : {B : Type 0} → ValueLanguage B → Pending → Class → ℕ → Element → Content B → List LexEvent → List LexEvent
emits_in_content x Nothing c b e y t = emits_loose x c b y t
emits_in_content x PendingLess c b e y t = emits_less x c b y t
emits_in_content x LessAtCut c b e y t = emits_loose x c b (content_after x y (codes "<")) (content_bytes x y (codes "<") t)
emits_in_content x (PendingName letters) c b e y t = emits_end_name x (may_be_name_of e (letters ++ b ∷ [])) (is_name_of e letters) c b y letters t
emits_in_content x PendingBang c b e y t = emits_bang x c b y t
emits_in_content x PendingBangDash c b e y t = emits_bang_dash x c b y t
emits_in_content x (PendingOpening letters) c b e y t = emits_loose x c b (content_after x y (codes "<" ++ letters)) (content_bytes x y (codes "<" ++ letters) t)

-- the bytes that are pending back
abbrev pub pending_bytes : Pending → List ℕ
pending_bytes Nothing = []
pending_bytes PendingLess = codes "<"
pending_bytes LessAtCut = codes "<"
pending_bytes (PendingName letters) = codes "</" ++ letters
pending_bytes PendingBang = codes "<!"
pending_bytes PendingBangDash = codes "<!-"
pending_bytes (PendingOpening letters) = codes "<" ++ letters

-- A script (sections 13.2.5.4 and 13.2.5.15 to 13.2.5.19). What a byte does: the script reads these bytes, those first that were pending, and this is pending
-- behind them; or the end tag with these letters ends the content.
pub data ScriptStep : Type 0 where
  Reads : List ℕ → Pending → ScriptStep
  EndsContent : List ℕ → ScriptStep

-- script data state, behind bytes that come to nothing
abbrev pub step_loose : List ℕ → Class → ℕ → ScriptStep
step_loose bytes LessThan b = Reads bytes PendingLess
step_loose bytes c b = Reads (bytes ++ b ∷ []) Nothing

-- script data less-than sign state; end tag open and end tag name state; escape start state
abbrev pub step_less : Class → ℕ → ScriptStep
step_less Solidus b = Reads [] (PendingName [])
step_less ExclamationMark b = Reads [] PendingBang
step_less c b = step_loose (codes "<") c b

abbrev pub step_end_name : (grows whole : Bool) → Class → ℕ → List ℕ → ScriptStep
step_end_name true whole (Letter l) b letters = Reads [] (PendingName (letters ++ b ∷ []))
step_end_name grows true White b letters = EndsContent letters
step_end_name grows true Solidus b letters = EndsContent letters
step_end_name grows true GreaterThan b letters = EndsContent letters
step_end_name grows whole c b letters = step_loose (codes "</" ++ letters) c b

abbrev pub step_bang : Class → ℕ → ScriptStep
step_bang HyphenMinus b = Reads [] PendingBangDash
step_bang c b = step_loose (codes "<!") c b

abbrev pub step_in_script : Element → Pending → Class → ℕ → ScriptStep
step_in_script e PendingLess c b = step_less c b
step_in_script e (PendingName letters) c b = step_end_name (may_be_name_of e (letters ++ b ∷ [])) (is_name_of e letters) c b letters
step_in_script e PendingBang c b = step_bang c b
step_in_script e h c b = step_loose (pending_bytes h) c b

-- In a token of a template's script, by the bytes that are pending with the one at hand: they are `<script`, `</script` or `<!--`, which is text there; or
-- begin one of these; or neither.
pub data InWord : Type 0 where
  IsWord : InWord
  BeginsWord : InWord
  NoWord : InWord

unfoldable pub in_word : List ℕ → InWord
in_word bytes = if is_hidden_in_script bytes then IsWord else (if begins_hidden bytes then BeginsWord else NoWord)

abbrev pub word_goes_on : Pending → Class → ℕ → Pending
word_goes_on PendingLess Solidus b = PendingName []
word_goes_on PendingLess ExclamationMark b = PendingBang
word_goes_on PendingLess c b = PendingOpening (b ∷ [])
word_goes_on (PendingName letters) c b = PendingName (letters ++ b ∷ [])
word_goes_on (PendingOpening letters) c b = PendingOpening (letters ++ b ∷ [])
word_goes_on PendingBang c b = PendingBangDash
word_goes_on h c b = PendingLess

abbrev pub step_in_token : InWord → Pending → Class → ℕ → ScriptStep
step_in_token IsWord h c b = Reads (pending_bytes h ++ b ∷ []) Nothing
step_in_token BeginsWord h c b = Reads [] (word_goes_on h c b)
step_in_token NoWord h c b = step_loose (pending_bytes h) c b

-- the first argument says whether an end tag may end it here
abbrev pub script_step : (may_end : Bool) → Element → Pending → Class → ℕ → ScriptStep
script_step true e h c b = step_in_script e h c b
script_step false e h c b = step_in_token (in_word (pending_bytes h ++ b ∷ [])) h c b

-- where the byte behind the letters of an end tag leads, and what it tells
abbrev pub behind_end_tag : {B : Type 0} → Class → LexState B
behind_end_tag White = BeforeAttributeName end_tag
behind_end_tag Solidus = SelfClosingStartTag end_tag
behind_end_tag c = Text Closed

abbrev pub emits_behind_end_tag : Class → List LexEvent → List LexEvent
emits_behind_end_tag GreaterThan t = TagEnds false ∷ t
emits_behind_end_tag c t = t

abbrev pub next_by_step : {B : Type 0} → ValueLanguage B → ScriptStep → Class → Element → B → LexState B
next_by_step x (Reads bytes h) c e v = InContent e (InLanguage (fed_state x v bytes)) h
next_by_step x (EndsContent letters) c e v = behind_end_tag c

abbrev pub emits_by_step : {B : Type 0} → ValueLanguage B → ScriptStep → Class → B → List LexEvent → List LexEvent
emits_by_step x (Reads bytes h) c v t = emits_fed x v bytes t
emits_by_step x (EndsContent letters) c v t = emits_behind_end_tag c (tag_name_bytes letters (EndTagBegins ∷ x.ends v t))

-- A page tells a `<!--`. A path has none to tell: its code refuses it, in a token it is written otherwise, and a comment is not written.
abbrev pub emits_escape : LexMode → Pending → Class → List LexEvent → List LexEvent
emits_escape Page PendingBangDash HyphenMinus t = Escape ∷ t
emits_escape m h c t = t

abbrev pub ends_here : {B : Type 0} → ValueLanguage B → LexMode → B → Bool
ends_here x Page v = true
ends_here x Template v = x.may_end v

-- a byte of a content, in a page and in the text of a template
abbrev pub next_content_in : {B : Type 0} → ValueLanguage B → LexMode → Pending → Class → ℕ → Element → Content B → LexState B
next_content_in x m h c b e (InLanguage v) =
    if x.is_script v then next_by_step x (script_step (ends_here x m v) e h c b) c e v else next_in_content x h c b e (InLanguage v)
next_content_in x m h c b e y = next_in_content x h c b e y

abbrev pub emits_content_in : {B : Type 0} → ValueLanguage B → LexMode → Pending → Class → ℕ → Element → Content B → List LexEvent → List LexEvent
emits_content_in x m h c b e (InLanguage v) t =
    if x.is_script v then emits_escape m h c (emits_by_step x (script_step (ends_here x m v) e h c b) c v t)
    else emits_in_content x h c b e (InLanguage v) t
emits_content_in x m h c b e y t = emits_in_content x h c b e y t

-- A node's end: in a title or a textarea what is pending back is text. In a data block a `<` stays pending, since no byte of it is written
-- otherwise; what else is pending there is refused, and is bytes. A language is fed what is pending, and remembers of it what the next text may
-- not go on with.
abbrev pub content_at_cut : {B : Type 0} → ValueLanguage B → Content B → Pending → Content B
content_at_cut x (Characters r) h = Characters Closed
content_at_cut x Bytes h = Bytes
content_at_cut x (InLanguage v) h = InLanguage (x.after_cut (fed_state x v (pending_bytes h)))

abbrev pub pending_at_cut : {B : Type 0} → Content B → Pending → Pending
pending_at_cut (Characters r) h = Nothing
pending_at_cut Bytes Nothing = Nothing
pending_at_cut Bytes PendingLess = LessAtCut
pending_at_cut Bytes LessAtCut = LessAtCut
pending_at_cut Bytes (PendingName letters) = Nothing
pending_at_cut Bytes PendingBang = Nothing
pending_at_cut Bytes PendingBangDash = Nothing
pending_at_cut Bytes (PendingOpening letters) = Nothing
pending_at_cut (InLanguage v) h = Nothing

abbrev pub emits_content_cut : {B : Type 0} → ValueLanguage B → Content B → Pending → List LexEvent → List LexEvent
emits_content_cut x (Characters r) h t = event_text_bytes (pending_bytes h) (event_text_bytes (as_it_stands r) t)
emits_content_cut x Bytes PendingLess t = t
emits_content_cut x Bytes LessAtCut t = t
emits_content_cut x Bytes h t = block_bytes (pending_bytes h) t
emits_content_cut x (InLanguage v) h t = emits_fed x v (pending_bytes h) t

-- A hole: a language is fed what is pending first, and then it settles, as in a value; elsewhere nothing is told before the mark.
abbrev pub content_at_hole : {B : Type 0} → ValueLanguage B → Element → Content B → Pending → LexState B
content_at_hole x e (Characters r) h = InContent e (Characters r) h
content_at_hole x e Bytes h = InContent e Bytes h
content_at_hole x e (InLanguage v) h = InContent e (InLanguage (x.after_hole (fed_state x v (pending_bytes h)))) Nothing

abbrev pub emits_content_hole : {B : Type 0} → ValueLanguage B → Content B → Pending → List LexEvent → List LexEvent
emits_content_hole x (Characters r) h t = Mark ∷ t
emits_content_hole x Bytes h t = Mark ∷ t
emits_content_hole x (InLanguage v) h t = emitted_hole x (ValueOf (fed_state x v (pending_bytes h))) (emits_fed x v (pending_bytes h) t)

-- Where HTML has something pending in a token of a script, nothing settles: no hole is plain there. No page of a template stands so before a hole.
abbrev pub settles : (may_end : Bool) → Pending → Bool
settles true h = true
settles false Nothing = true
settles false h = false

abbrev pub settled_content : {B : Type 0} → ValueLanguage B → Element → Content B → Pending → LexState B
settled_content x e (Characters r) h = InContent e (Characters r) h
settled_content x e Bytes h = InContent e Bytes h
settled_content x e (InLanguage v) h =
    if settles (x.may_end v) h then InContent e (InLanguage (x.settled (fed_state x v (pending_bytes h)))) Nothing else InContent e (InLanguage v) h

abbrev pub emits_settled_content : {B : Type 0} → ValueLanguage B → Content B → Pending → List LexEvent → List LexEvent
emits_settled_content x (Characters r) h t = t
emits_settled_content x Bytes h t = t
emits_settled_content x (InLanguage v) h t =
    if settles (x.may_end v) h then x.emits_settled (fed_state x v (pending_bytes h)) (emits_fed x v (pending_bytes h) t) else t

-- the content of a page behind the bytes of a hole, by what they have made of it, and by what it was before them
abbrev pub content_behind : {B : Type 0} → ValueLanguage B → Content B → Content B → Content B
content_behind x (InLanguage w) (InLanguage v) = InLanguage (x.behind v w)
content_behind x after before = after
