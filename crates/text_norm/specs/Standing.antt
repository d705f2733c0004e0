-- Where the lexer of a page stands while a path of a template is read, of whose texts it reads what is written. Where nothing is pending back it
-- stands where the path does, and has told the same. Where something is pending back it is said what it comes to by that: as it stands, and by
-- what may be written for it. In a value the page has read the bytes of holes that the path has passed over: so there its state of the language
-- need not be the path's, but is alike. So it is in a style and a script in their elements, where the page may also have a `<` pending that the style or the
-- script of the path has read.
use Rattle.std.specs.Prelude.{⊤, ℕ, ◌||◌, not, Bool, true, false, codes, List, [], ◌∷◌, ◌++◌, ◌≡◌}
use Rattle.std.specs.Char.{is_ascii_alphabetic}
use Rattle.std.specs.List.{list_all}
use Rattle.css_lexer.specs.States.{Outside, Between, AfterSolidus, Comment, BadUrl, LessThanAtCut, StarAtCut, Style, Out, InUrl}
use Rattle.css_lexer.specs.Steps.{blank_once}
use Rattle.js_lexer.specs.Elements.{script_may_end}
use Rattle.js_lexer.specs.PageScripts.{ScriptStands, are_behind_less, page_script, read_in_page}
use Rattle.js_lexer.specs.States.{Code, ScriptState}
use Rattle.js_lexer.specs.Trails.{is_empty}
use Rattle.js_lexer.specs.Written.{is_block, is_line, is_outside, waiting_slash}
use Rattle.js_lexer.specs.declared.sense.Sense.{Sense}
use Rattle.place_core.specs.page.Classes.{Class, HyphenMinus, class_of}
use Rattle.place_core.specs.page.Contents.{BeginsWord, Reads, in_word, is_name_of, pending_bytes, script_step}
use Rattle.place_core.specs.page.Events.{LexEvent, InsideScript, event_text_bytes, told_in_style}
use Rattle.place_core.specs.page.Html.{read_over}
use Rattle.place_core.specs.page.References.{Form, Reference, Closed, Open, as_it_stands, settled}
use Rattle.place_core.specs.page.States.{Page, LexState, Text, TagOpen, EndTagOpen, DeclarationOpen, InComment, BogusComment, InDoctype, TagName, WholeTagName, BeforeAttributeName, AttributeName, WholeAttributeName, AfterAttributeName, BeforeAttributeValue, AttributeValue, AfterAttributeValue, SelfClosingStartTag, Content, Characters, Bytes, InLanguage, Pending, Nothing, PendingLess, LessAtCut, PendingName, PendingBangDash, PendingOpening, InContent, Config, config}
use Rattle.place_core.specs.page.Tags.{Tag, tag_named, element_on, Value, ValueOf, Deciding, ValueLanguage, ValueState, OfStyle, OfScript, Quoting, with_bytes, emitted_bytes, fed_state, emits_fed}
use Rattle.place_core.specs.page.Words.{kind_of}
use Rattle.place_core.specs.declared.element.Element.{Element}
use Rattle.place_core.specs.declared.element.Element.TheVariants as element
use Rattle.place_core.specs.declared.kind.Kind.{Kind}
use Rattle.text_norm.specs.Written.{text_escaped}
use Rattle.url_lexer.specs.States.{Url}

-- the bytes of a page, from where its reading stands
abbrev pub page : {B : Type 0} → ValueLanguage B → List ℕ → Config B → Config B
page x bytes c = read_over x Page bytes c

-- Text with references is read where `at` says, by the reference that is open and the bytes that have been told.
abbrev pub standing_text : {B : Type 0} → List LexEvent → Reference → List ℕ → Config B
standing_text t r bytes = config (Text r) (event_text_bytes bytes t)

abbrev pub standing_content : {B : Type 0} → Element → List LexEvent → Reference → List ℕ → Config B
standing_content e t r bytes = config (InContent e (Characters r) Nothing) (event_text_bytes bytes t)

abbrev pub standing_value : {B : Type 0} → ValueLanguage B → Quoting → Tag → Value B → List LexEvent → Reference → List ℕ → Config B
standing_value x q tag v t r bytes = config (AttributeValue q tag (with_bytes x v bytes) r) (emitted_bytes x v bytes t)

-- a reference that has begun: as it stands, and where its `&` is written as `&amp;`
pub record PendingReference (B : Type 0) (x : ValueLanguage B) (at : Reference → List ℕ → Config B) (f : Form) (h : List ℕ) (d : Config B) : Type 0 where
  pub as_is : page x (38 ∷ h) d ≡ at (Open f h) []
  pub cut : page x (codes "&amp;" ++ h) d ≡ at Closed (38 ∷ h)

abbrev pub StandsIn : {B : Type 0} → ValueLanguage B → (Reference → List ℕ → Config B) → Reference → Config B → Type 0
StandsIn x at Closed d = d ≡ at Closed []
StandsIn {B} x at (Open f h) d = PendingReference B x at f h d

-- A `<` in text, after a reference that may be open: where it begins nothing, where a comment begins, and as it stands, before what it may
-- begin.
pub record PendingLessThan (B : Type 0) (x : ValueLanguage B) (r : Reference) (t : List LexEvent) (d : Config B) : Type 0 where
  pub less : page x (as_it_stands r ++ codes "&lt;") d ≡ config (Text Closed) (event_text_bytes (codes "<") (event_text_bytes (settled false r) t))
  pub cut : page x (text_escaped r) d ≡ config (Text Closed) (event_text_bytes (as_it_stands r) t)
  pub tag : page x (as_it_stands r ++ codes "<") d ≡ config (TagOpen r) t
  pub end : page x (as_it_stands r ++ codes "</") d ≡ config (EndTagOpen r) t
  pub declaration : page x (as_it_stands r ++ codes "<!") d ≡ config (DeclarationOpen r []) t

-- likewise, and `<!` with some bytes, which are bytes of text where they begin nothing
pub record PendingDeclaration (B : Type 0) (x : ValueLanguage B) (r : Reference) (h : List ℕ) (t : List LexEvent) (d : Config B) : Type 0 where
  pub less : page x (as_it_stands r ++ codes "&lt;") d ≡ config (Text Closed) (event_text_bytes (codes "<") (event_text_bytes (settled false r) t))
  pub cut : page x (text_escaped r) d ≡ config (Text Closed) (event_text_bytes (as_it_stands r) t)
  pub goes_on : page x (as_it_stands r ++ (codes "<!" ++ h)) d ≡ config (DeclarationOpen r h) t
  pub own : (u : List LexEvent) → page x (codes "!" ++ h) (config (Text Closed) u) ≡ config (Text Closed) (event_text_bytes (codes "!" ++ h) u)

-- A `<` in a title or a textarea, and `</` with letters.
pub record PendingContentLess (B : Type 0) (x : ValueLanguage B) (e : Element) (t : List LexEvent) (d : Config B) : Type 0 where
  pub less : page x (codes "&lt;") d ≡ standing_content e t Closed (codes "<")
  pub end : page x (codes "</") d ≡ config (InContent e (Characters Closed) (PendingName [])) t

pub record PendingEndName (B : Type 0) (x : ValueLanguage B) (e : Element) (letters : List ℕ) (t : List LexEvent) (d : Config B) : Type 0 where
  pub less : page x (codes "&lt;") d ≡ standing_content e t Closed (codes "<")
  pub end : page x (codes "</" ++ letters) d ≡ config (InContent e (Characters Closed) (PendingName letters)) t
  pub own : (u : List LexEvent) → page x (codes "/" ++ letters) (standing_content e u Closed []) ≡ standing_content e u Closed (codes "/" ++ letters)

-- A name that a node's end has ended, or that is a hole: the page is in it still, since the next byte ends it.
pub record WholeTag (B : Type 0) (tag : Tag) (t : List LexEvent) (d : Config B) : Type 0 where
  pub ends : Bool
  pub name : List ℕ
  pub named : tag_named ends name ≡ tag
  pub at : d ≡ config (TagName ends name) t

pub record WholeAttribute (B : Type 0) (tag : Tag) (k : Kind) (t : List LexEvent) (d : Config B) : Type 0 where
  pub name : List ℕ
  pub named : kind_of (element_on tag.tag) name ≡ k
  pub at : d ≡ config (AttributeName tag name) t

-- What is pending back from a page in a data block, of which nothing is written otherwise: what is pending back on the path. Where a node has
-- ended in `<` the page stands behind that byte, and knows of no node.
abbrev pub pending_in_page : Pending → Pending
pending_in_page LessAtCut = PendingLess
pending_in_page h = h

-- In a style in its element. What the page has pending its style reads where it comes to nothing. A `/` never goes on with it: where the path has
-- something pending too, a `<` follows on the page; and behind the end of a node a `/` is refused.
abbrev pub in_element : Element → ValueState → Pending → LexState ValueState
in_element e v h = InContent e (InLanguage v) h

abbrev pub ComesToNothing : (path page : Pending) → Style Url → Type 0
ComesToNothing h Nothing s = ⊤
ComesToNothing Nothing PendingLess (Out LessThanAtCut) = ⊤
ComesToNothing Nothing held s = ⊥
ComesToNothing h held s = ⊤

pub record StandsInStyleElement (x : ValueLanguage ValueState) (e : Element) (s : Style Url) (h : Pending) (t : List LexEvent) (d : Config ValueState) : Type 0 where
  pub there : Style Url
  pub held : Pending
  pub told : List LexEvent
  pub at : d ≡ config (in_element e (OfStyle there) held) told
  pub alike : x.AreAlike (OfStyle s) (fed_state x (OfStyle there) (pending_bytes held))
  pub same : emits_fed x (OfStyle there) (pending_bytes held) told ≡ t
  pub nothing : ComesToNothing h held s

-- The part of a comment is a space: what the page comes to by it. Behind a `/`, where a comment may begin, that too, and what it comes to by the `/`.
abbrev pub behind_space : Element → List LexEvent → Config ValueState
behind_space e t = config (in_element e (OfStyle (Out (Between true))) Nothing) t

pub record PendingSolidus (x : ValueLanguage ValueState) (e : Element) (blank : Bool) (h : Pending) (t : List LexEvent) (d : Config ValueState) : Type 0 where
  pub as_is : StandsInStyleElement x e (Out (AfterSolidus blank)) h t (page x (codes "/") d)
  pub comment : page x (codes " ") d ≡ behind_space e (told_in_style (blank_once blank []) t)

-- no path is in a url that is none
abbrev pub StandsOutsideInElement : ValueLanguage ValueState → Element → Outside → Pending → List LexEvent → Config ValueState → Type 0
StandsOutsideInElement x e (AfterSolidus blank) h t d = PendingSolidus x e blank h t d
StandsOutsideInElement x e (Comment star) h t d = page x (codes " ") d ≡ behind_space e t
StandsOutsideInElement x e StarAtCut h t d = page x (codes " ") d ≡ behind_space e t
StandsOutsideInElement x e BadUrl h t d = ⊥
StandsOutsideInElement x e s h t d = StandsInStyleElement x e (Out s) h t d

abbrev pub StandsAtStyle : ValueLanguage ValueState → Element → Style Url → Pending → List LexEvent → Config ValueState → Type 0
StandsAtStyle x e (Out s) h t d = StandsOutsideInElement x e s h t d
StandsAtStyle x e (InUrl f u) h t d = StandsInStyleElement x e (InUrl f u) h t d

-- What may be pending back on a path: nothing, a `<`, and `</` with letters, with which an end tag has begun in any style.
pub record EndTagBegun (x : ValueLanguage ValueState) (e : Element) (letters : List ℕ) : Type 0 where
  pub alphabetic : list_all is_ascii_alphabetic letters ≡ true
  pub goes_on : (s : Style Url) (t : List LexEvent)
      → page x (codes "</" ++ letters) (config (in_element e (OfStyle s) Nothing) t) ≡ config (in_element e (OfStyle s) (PendingName letters)) t

abbrev pub MayGoOn : ValueLanguage ValueState → Element → Pending → Type 0
MayGoOn x e Nothing = ⊤
MayGoOn x e PendingLess = ⊤
MayGoOn x e (PendingName letters) = EndTagBegun x e letters
MayGoOn x e h = ⊥

-- In a script in its element. What HTML holds back does not depend on the script: where a byte of a page leads from what is pending, where it ends no content
-- and tells no `<!--`.
abbrev pub tells_comment_of_html : Pending → Class → Bool
tells_comment_of_html PendingBangDash HyphenMinus = true
tells_comment_of_html g c = false

pub record StepGoes (e : Element) (g : Pending) (b : ℕ) (k : Pending) : Type 0 where
  pub read : List ℕ
  pub step : script_step true e g (class_of b) b ≡ Reads read k
  pub plain : tells_comment_of_html g (class_of b) ≡ false

abbrev pub PageGoes : Element → Pending → List ℕ → Pending → Type 0
PageGoes e g [] h = g ≡ h
PageGoes e g (b ∷ bs) h = (k : Pending) × StepGoes e g b k × PageGoes e k bs h

-- What may be pending on a path: in a token what begins one of the words. A page comes to the same by its bytes, but `<` and letters it reads.
abbrev pub seen_by_page : Pending → Pending
seen_by_page (PendingOpening letters) = Nothing
seen_by_page h = h

abbrev pub behind_less : List ℕ → List ℕ
behind_less [] = []
behind_less (b ∷ bs) = bs

pub record ScriptMayGoOn (e : Element) (s : ScriptState) (h : Pending) : Type 0 where
  pub element : e ≡ element.Script
  pub word : script_may_end s ≡ false → in_word (pending_bytes h) ≡ BeginsWord
  pub bytes : are_behind_less (behind_less (pending_bytes h)) ≡ true
  pub goes_on : PageGoes e Nothing (pending_bytes h) (seen_by_page h)

-- What the page has pending its script has read where it comes to nothing. Where nothing is written of what the path reads, in a comment and behind a slash, a
-- blank may follow on the page: so its end tag is not whole. Else, where the path has something pending, a `<` follows on the page, or what stands for one; and
-- where it has nothing, the page has nothing, or a node has ended in a `<` in code, and the next one begins with no `/` and no `!`.
pub record IsBehindLess (s : ScriptState) : Type 0 where
  pub sense : Sense
  pub literals : s.literals ≡ []
  pub at : s.at ≡ Code sense
  pub held : s.held ≡ []
  pub fresh : s.trail.fresh ≡ true
  pub less : s.trail.markup ≡ codes "<"

abbrev pub ScriptComesToNothing : (path page : Pending) → ScriptState → Type 0
ScriptComesToNothing h Nothing s = ⊤
ScriptComesToNothing Nothing PendingLess s = IsBehindLess s
ScriptComesToNothing Nothing held s = ⊥
ScriptComesToNothing h held s = ⊤

abbrev pub is_whole_name : Element → Pending → Bool
is_whole_name e (PendingName letters) = is_name_of e letters
is_whole_name e h = false

abbrev pub in_script_comment : ScriptState → Bool
in_script_comment s = is_outside is_line s || is_outside is_block s

abbrev pub slash_waits : ScriptState → Bool
slash_waits s = not (is_empty (waiting_slash s))

abbrev pub HeldBehind : (comment waits : Bool) → Element → (path page : Pending) → ScriptState → Type 0
HeldBehind true waits e h held s = is_whole_name e held ≡ false
HeldBehind false true e h held s = (is_whole_name e held ≡ false) × (h ≡ Nothing → held ≡ PendingLess → ⊥)
HeldBehind false false e h held s = ScriptComesToNothing h held s

-- With what is pending read, the page's script stands for the path's (`js_lexer`).
pub record StandsInScript (e : Element) (s : ScriptState) (h : Pending) (t : List LexEvent) (d : Config ValueState) : Type 0 where
  pub there : ScriptState
  pub held : Pending
  pub told : List LexEvent
  pub at : d ≡ config (in_element e (OfScript there) held) told
  pub stands : ScriptStands LexEvent InsideScript s t (read_in_page InsideScript (pending_bytes held) (page_script there told))
  pub nothing : HeldBehind (in_script_comment s) (slash_waits s) e h held s

abbrev pub StandsInLanguage : ValueLanguage ValueState → Element → ValueState → Pending → List LexEvent → Config ValueState → Type 0
StandsInLanguage x e (OfStyle s) h t d = MayGoOn x e h × StandsAtStyle x e s h t d
StandsInLanguage x e (OfScript s) h t d = ScriptMayGoOn e s h × StandsInScript e s h t d
StandsInLanguage x e v h t d = ⊥

abbrev pub StandsInContent : ValueLanguage ValueState → Element → Content ValueState → Pending → List LexEvent → Config ValueState → Type 0
StandsInContent x e (Characters r) Nothing t d = StandsIn x (standing_content e t) r d
StandsInContent x e (Characters Closed) PendingLess t d = PendingContentLess ValueState x e t d
StandsInContent x e (Characters Closed) (PendingName letters) t d = PendingEndName ValueState x e letters t d
StandsInContent x e Bytes (PendingOpening letters) t d = ⊥
StandsInContent x e Bytes h t d = d ≡ config (InContent e Bytes (pending_in_page h)) t
StandsInContent x e (InLanguage v) h t d = StandsInLanguage x e v h t d
StandsInContent x e y h t d = ⊥

-- In a value of a language: the page's state of the language, which is alike, and where it stands with that.
pub record StandsAlike (B : Type 0) (x : ValueLanguage B) (q : Quoting) (tag : Tag) (v : B) (r : Reference) (t : List LexEvent) (d : Config B) : Type 0 where
  pub there : B
  pub alike : x.AreAlike v there
  pub stands : StandsIn x (standing_value x q tag (ValueOf there) t) r d

-- A value that decides is the same bytes in a page and on a path, since no hole is in it.
abbrev pub StandsInValue : {B : Type 0} → ValueLanguage B → Quoting → Tag → Value B → Reference → List LexEvent → Config B → Type 0
StandsInValue {B} x q tag (ValueOf v) r t d = StandsAlike B x q tag v r t d
StandsInValue x q tag (Deciding k before) r t d = StandsIn x (standing_value x q tag (Deciding k before) t) r d

-- The page's reading stands for the path that has come to a state and told these events. A comment is not written.
abbrev pub TextStands : ValueLanguage ValueState → LexState ValueState → List LexEvent → Config ValueState → Type 0
TextStands x (Text r) t d = StandsIn x (standing_text t) r d
TextStands x (TagOpen r) t d = PendingLessThan ValueState x r t d
TextStands x (EndTagOpen r) t d = PendingLessThan ValueState x r t d
TextStands x (DeclarationOpen r pending) t d = PendingDeclaration ValueState x r pending t d
TextStands x (InComment s) t d = d ≡ config (Text Closed) t
TextStands x BogusComment t d = ⊥
TextStands x InDoctype t d = d ≡ config InDoctype t
TextStands x (TagName ends name) t d = d ≡ config (TagName ends name) t
TextStands x (WholeTagName tag) t d = WholeTag ValueState tag t d
TextStands x (BeforeAttributeName tag) t d = d ≡ config (BeforeAttributeName tag) t
TextStands x (AttributeName tag name) t d = d ≡ config (AttributeName tag name) t
TextStands x (WholeAttributeName tag k) t d = WholeAttribute ValueState tag k t d
TextStands x (AfterAttributeName tag k) t d = d ≡ config (AfterAttributeName tag k) t
TextStands x (BeforeAttributeValue tag k) t d = d ≡ config (BeforeAttributeValue tag k) t
TextStands x (AttributeValue q tag v r) t d = StandsInValue x q tag v r t d
TextStands x (AfterAttributeValue tag) t d = d ≡ config (AfterAttributeValue tag) t
TextStands x (SelfClosingStartTag tag) t d = d ≡ config (SelfClosingStartTag tag) t
TextStands x (InContent e y h) t d = StandsInContent x e y h t d
