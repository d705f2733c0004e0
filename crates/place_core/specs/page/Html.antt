-- How the bytes of a page are read, and the texts of a template (HTML Standard, section 13.2.5): text, comments, doctypes, tags, the values of
-- attributes, and the content of title, textarea, data blocks, styles and scripts. It is not said here what the end of a page tells: of what is pending back
-- there, and inside a tag, a comment or a doctype. NUL, CR and CR LF are bytes like others. The language of the values, of styles and of scripts is a
-- parameter.
use Rattle.std.specs.Prelude.{ℕ, Bool, true, false, codes, List, [], ◌∷◌, ◌++◌}
use Rattle.std.specs.Char.{to_ascii_lowercase}
use Rattle.place_core.specs.page.Classes.{Class, White, ExclamationMark, QuotationMark, Apostrophe, Solidus, LessThan, EqualsSign, GreaterThan, QuestionMark, Letter, class_of}
use Rattle.place_core.specs.page.Comments.{Declaration, OpensComment, OpensDoctype, Undecided, OpensNothing, declared_by, next_in_comment, next_in_bogus, next_in_doctype, emits_doctype}
use Rattle.place_core.specs.page.Contents.{next_content_in, emits_content_in}
use Rattle.place_core.specs.page.Events.{LexEvent, StartTagBegins, EndTagBegins, TagNameByte, AttributeBegins, AttributeNameByte, AttributeNameEnds, TagEnds, Comment, DoctypeBegins, event_text_bytes, doctype_bytes}
use Rattle.place_core.specs.page.References.{Reference, Closed, next_reference, undone_byte, settled, as_it_stands}
use Rattle.place_core.specs.page.States.{LexMode, Page, Template, LexState, Text, TagOpen, EndTagOpen, DeclarationOpen, InComment, Started, BogusComment, InDoctype, TagName, WholeTagName, BeforeAttributeName, AttributeName, WholeAttributeName, AfterAttributeName, BeforeAttributeValue, AttributeValue, AfterAttributeValue, SelfClosingStartTag, InContent, Characters, Bytes, InLanguage, Nothing, Config, config}
use Rattle.place_core.specs.page.Tags.{Tag, tag_of_name, tag_named, element_on, Value, ValueLanguage, languages, attribute_value_of, with_bytes, emitted_bytes, emitted_end, tag_with_value, without_value, Quoting, DoubleQuoted, SingleQuoted, Unquoted, ValueState}
use Rattle.place_core.specs.page.Words.{kind_of}
use Rattle.place_core.specs.declared.element.Element.{Element}
use Rattle.place_core.specs.declared.element.Element.TheVariants as element
use Rattle.place_core.specs.declared.kind.Kind.{Kind}
use Rattle.place_core.specs.declared.kind.Kind.TheVariants as kind
use Rattle.place_core.specs.declared.tag_of.TagOf.{TagOf}
use Rattle.place_core.specs.declared.tag_of.TagOf.TheVariants as tag_of

-- the content of the element after a tag
abbrev pub content_of : {B : Type 0} → ValueLanguage B → Element → LexState B
content_of x element.Title = InContent element.Title (Characters Closed) Nothing
content_of x element.Textarea = InContent element.Textarea (Characters Closed) Nothing
content_of x element.DataBlock = InContent element.DataBlock Bytes Nothing
content_of x element.Script = InContent element.Script (InLanguage (x.start kind.Script)) Nothing
content_of x element.Style = InContent element.Style (InLanguage (x.start kind.Style)) Nothing
content_of x element.Other = Text Closed

abbrev pub after_tag : {B : Type 0} → ValueLanguage B → TagOf → LexState B
after_tag x tag_of.End = Text Closed
after_tag x (tag_of.Start e) = content_of x e

-- Text.

abbrev pub next_text : {B : Type 0} → Class → ℕ → Reference → LexState B
next_text LessThan b r = TagOpen r
next_text c b r = Text (next_reference r c b)

abbrev pub emits_text : Class → ℕ → Reference → List LexEvent → List LexEvent
emits_text LessThan b r t = t
emits_text c b r t = event_text_bytes (undone_byte false r c b) t

-- after a `<?`, `</` or `<!` that begins nothing else: in a page a comment up to `>`; in a template's text it is text, with what was pending back
abbrev pub next_bogus : {B : Type 0} → LexMode → Class → ℕ → LexState B
next_bogus Page c b = next_in_bogus c
next_bogus Template c b = next_text c b Closed

abbrev pub emits_bogus : LexMode → List ℕ → Class → ℕ → List LexEvent → List LexEvent
emits_bogus Page pending c b t = Comment ∷ t
emits_bogus Template pending c b t = emits_text c b Closed (event_text_bytes pending t)

abbrev pub next_tag_open : {B : Type 0} → LexMode → Class → ℕ → Reference → LexState B
next_tag_open m (Letter l) b r = TagName false (to_ascii_lowercase b ∷ [])
next_tag_open m Solidus b r = EndTagOpen r
next_tag_open m ExclamationMark b r = DeclarationOpen r []
next_tag_open m QuestionMark b r = next_bogus m QuestionMark b
next_tag_open m c b r = next_text c b Closed

abbrev pub emits_tag_open : LexMode → Class → ℕ → Reference → List LexEvent → List LexEvent
emits_tag_open m (Letter l) b r t = TagNameByte (to_ascii_lowercase b) ∷ StartTagBegins ∷ event_text_bytes (settled false r) t
emits_tag_open m Solidus b r t = t
emits_tag_open m ExclamationMark b r t = t
emits_tag_open m QuestionMark b r t = emits_bogus m (codes "<") QuestionMark b (event_text_bytes (settled false r) t)
emits_tag_open m c b r t = emits_text c b Closed (event_text_bytes (codes "<") (event_text_bytes (settled false r) t))

abbrev pub next_end_tag_open : {B : Type 0} → LexMode → Class → ℕ → LexState B
next_end_tag_open m (Letter l) b = TagName true (to_ascii_lowercase b ∷ [])
next_end_tag_open m c b = next_bogus m c b

abbrev pub emits_end_tag_open : LexMode → Class → ℕ → Reference → List LexEvent → List LexEvent
emits_end_tag_open m (Letter l) b r t = TagNameByte (to_ascii_lowercase b) ∷ EndTagBegins ∷ event_text_bytes (settled false r) t
emits_end_tag_open m c b r t = emits_bogus m (codes "</") c b (event_text_bytes (settled false r) t)

-- after `<!` and the bytes so far: what they open with the one at hand
abbrev pub next_declaration : {B : Type 0} → Declaration → LexMode → Class → ℕ → Reference → List ℕ → LexState B
next_declaration OpensComment m c b r pending = InComment Started
next_declaration OpensDoctype m c b r pending = InDoctype
next_declaration Undecided m c b r pending = DeclarationOpen r (pending ++ b ∷ [])
next_declaration OpensNothing m c b r pending = next_bogus m c b

-- before a comment of a template's text a reference is left as it stands, since no comment is written
abbrev pub emits_comment : LexMode → Reference → List LexEvent → List LexEvent
emits_comment Page r t = Comment ∷ event_text_bytes (settled false r) t
emits_comment Template r t = event_text_bytes (as_it_stands r) t

abbrev pub emits_declaration : Declaration → LexMode → Class → ℕ → Reference → List ℕ → List LexEvent → List LexEvent
emits_declaration OpensComment m c b r pending t = emits_comment m r t
emits_declaration OpensDoctype m c b r pending t = doctype_bytes (pending ++ b ∷ []) (DoctypeBegins ∷ event_text_bytes (settled false r) t)
emits_declaration Undecided m c b r pending t = t
emits_declaration OpensNothing m c b r pending t = emits_bogus m (codes "<!" ++ pending) c b (event_text_bytes (settled false r) t)

-- Tags.

abbrev pub next_tag_name : {B : Type 0} → ValueLanguage B → Class → ℕ → Bool → List ℕ → LexState B
next_tag_name x White b ends name = BeforeAttributeName (tag_named ends name)
next_tag_name x Solidus b ends name = SelfClosingStartTag (tag_named ends name)
next_tag_name x GreaterThan b ends name = after_tag x (tag_of_name ends name)
next_tag_name x c b ends name = TagName ends (name ++ to_ascii_lowercase b ∷ [])

abbrev pub emits_tag_name : Class → ℕ → List LexEvent → List LexEvent
emits_tag_name White b t = t
emits_tag_name Solidus b t = t
emits_tag_name GreaterThan b t = TagEnds false ∷ t
emits_tag_name c b t = TagNameByte (to_ascii_lowercase b) ∷ t

-- before the name of an attribute, also after a quoted value
abbrev pub next_before_name : {B : Type 0} → ValueLanguage B → Class → ℕ → Tag → LexState B
next_before_name x White b tag = BeforeAttributeName tag
next_before_name x Solidus b tag = SelfClosingStartTag tag
next_before_name x GreaterThan b tag = after_tag x tag.tag
next_before_name x c b tag = AttributeName tag (to_ascii_lowercase b ∷ [])

abbrev pub emits_before_name : Class → ℕ → List LexEvent → List LexEvent
emits_before_name White b t = t
emits_before_name Solidus b t = t
emits_before_name GreaterThan b t = TagEnds false ∷ t
emits_before_name c b t = AttributeNameByte (to_ascii_lowercase b) ∷ AttributeBegins ∷ t

-- in the name of an attribute, which has this kind if it ends here
abbrev pub next_name : {B : Type 0} → ValueLanguage B → Class → ℕ → Tag → Kind → List ℕ → LexState B
next_name x White b tag k name = AfterAttributeName tag k
next_name x Solidus b tag k name = SelfClosingStartTag (without_value tag k)
next_name x GreaterThan b tag k name = after_tag x (without_value tag k).tag
next_name x EqualsSign b tag k name = BeforeAttributeValue tag k
next_name x c b tag k name = AttributeName tag (name ++ to_ascii_lowercase b ∷ [])

abbrev pub emits_name : Class → ℕ → Kind → List LexEvent → List LexEvent
emits_name White b k t = AttributeNameEnds k ∷ t
emits_name Solidus b k t = AttributeNameEnds k ∷ t
emits_name GreaterThan b k t = TagEnds false ∷ AttributeNameEnds k ∷ t
emits_name EqualsSign b k t = AttributeNameEnds k ∷ t
emits_name c b k t = AttributeNameByte (to_ascii_lowercase b) ∷ t

abbrev pub next_after_name : {B : Type 0} → ValueLanguage B → Class → ℕ → Tag → Kind → LexState B
next_after_name x White b tag k = AfterAttributeName tag k
next_after_name x EqualsSign b tag k = BeforeAttributeValue tag k
next_after_name x c b tag k = next_before_name x c b (without_value tag k)

abbrev pub emits_after_name : Class → ℕ → List LexEvent → List LexEvent
emits_after_name EqualsSign b t = t
emits_after_name c b t = emits_before_name c b t

-- after a solidus, as before a name but for what the end of the tag tells
abbrev pub emits_self_closing : Class → ℕ → List LexEvent → List LexEvent
emits_self_closing GreaterThan b t = TagEnds true ∷ t
emits_self_closing c b t = emits_before_name c b t

-- After a name that a node's end has ended, or that is a hole, a byte leads to where it leads after white space: the name does not go on, so a byte of
-- a name begins another one. But it is told only now that the name has ended.
abbrev pub emits_whole_name : Class → ℕ → Kind → List LexEvent → List LexEvent
emits_whole_name EqualsSign b k t = AttributeNameEnds k ∷ t
emits_whole_name c b k t = emits_before_name c b (AttributeNameEnds k ∷ t)

-- Values: what a byte does to one, by how it is written.

abbrev pub ends_value : Quoting → Class → Bool
ends_value DoubleQuoted QuotationMark = true
ends_value SingleQuoted Apostrophe = true
ends_value Unquoted White = true
ends_value Unquoted GreaterThan = true
ends_value q c = false

abbrev pub next_after_value : {B : Type 0} → ValueLanguage B → Quoting → Class → ℕ → Tag → LexState B
next_after_value x Unquoted c b tag = next_before_name x c b tag
next_after_value x q c b tag = AfterAttributeValue tag

abbrev pub emits_after_value : Quoting → Class → ℕ → List LexEvent → List LexEvent
emits_after_value Unquoted c b t = emits_before_name c b t
emits_after_value q c b t = t

abbrev pub next_value : {B : Type 0} → ValueLanguage B → Bool → Quoting → Class → ℕ → Tag → Value B → Reference → LexState B
next_value x true q c b tag v r = next_after_value x q c b (tag_with_value tag (with_bytes x v (settled true r)))
next_value x false q c b tag v r = AttributeValue q tag (with_bytes x v (undone_byte true r c b)) (next_reference r c b)

abbrev pub emits_value : {B : Type 0} → ValueLanguage B → Bool → Quoting → Class → ℕ → Value B → Reference → List LexEvent → List LexEvent
emits_value x true q c b v r t = emits_after_value q c b (emitted_end x (with_bytes x v (settled true r)) (emitted_bytes x v (settled true r) t))
emits_value x false q c b v r t = emitted_bytes x v (undone_byte true r c b) t

abbrev pub next_before_value : {B : Type 0} → ValueLanguage B → Class → ℕ → Tag → Kind → LexState B
next_before_value x White b tag k = BeforeAttributeValue tag k
next_before_value x QuotationMark b tag k = AttributeValue DoubleQuoted tag (attribute_value_of x k) Closed
next_before_value x Apostrophe b tag k = AttributeValue SingleQuoted tag (attribute_value_of x k) Closed
next_before_value x GreaterThan b tag k = after_tag x (without_value tag k).tag
next_before_value x c b tag k = next_value x false Unquoted c b tag (attribute_value_of x k) Closed

abbrev pub emits_before_value : {B : Type 0} → ValueLanguage B → Class → ℕ → Kind → List LexEvent → List LexEvent
emits_before_value x White b k t = t
emits_before_value x QuotationMark b k t = t
emits_before_value x Apostrophe b k t = t
emits_before_value x GreaterThan b k t = TagEnds false ∷ emitted_end x (attribute_value_of x k) t
emits_before_value x c b k t = emits_value x false Unquoted c b (attribute_value_of x k) Closed t

-- The machine: where a byte of a class leads to, and what it tells.

abbrev pub next : {B : Type 0} → ValueLanguage B → LexMode → LexState B → Class → ℕ → LexState B
next x m (Text r) c b = next_text c b r
next x m (TagOpen r) c b = next_tag_open m c b r
next x m (EndTagOpen r) c b = next_end_tag_open m c b
next x m (DeclarationOpen r pending) c b = next_declaration (declared_by (pending ++ b ∷ [])) m c b r pending
next x m (InComment s) c b = next_in_comment c s
next x m BogusComment c b = next_in_bogus c
next x m InDoctype c b = next_in_doctype c
next x m (TagName ends name) c b = next_tag_name x c b ends name
next x m (WholeTagName tag) c b = next_before_name x c b tag
next x m (BeforeAttributeName tag) c b = next_before_name x c b tag
next x m (AttributeName tag name) c b = next_name x c b tag (kind_of (element_on tag.tag) name) name
next x m (WholeAttributeName tag k) c b = next_after_name x c b tag k
next x m (AfterAttributeName tag k) c b = next_after_name x c b tag k
next x m (BeforeAttributeValue tag k) c b = next_before_value x c b tag k
next x m (AttributeValue q tag v r) c b = next_value x (ends_value q c) q c b tag v r
next x m (AfterAttributeValue tag) c b = next_before_name x c b tag
next x m (SelfClosingStartTag tag) c b = next_before_name x c b tag
next x m (InContent e y h) c b = next_content_in x m h c b e y

abbrev pub emits : {B : Type 0} → ValueLanguage B → LexMode → LexState B → Class → ℕ → List LexEvent → List LexEvent
emits x m (Text r) c b t = emits_text c b r t
emits x m (TagOpen r) c b t = emits_tag_open m c b r t
emits x m (EndTagOpen r) c b t = emits_end_tag_open m c b r t
emits x m (DeclarationOpen r pending) c b t = emits_declaration (declared_by (pending ++ b ∷ [])) m c b r pending t
emits x m (InComment s) c b t = t
emits x m BogusComment c b t = t
emits x m InDoctype c b t = emits_doctype c b t
emits x m (TagName ends name) c b t = emits_tag_name c b t
emits x m (WholeTagName tag) c b t = emits_before_name c b t
emits x m (BeforeAttributeName tag) c b t = emits_before_name c b t
emits x m (AttributeName tag name) c b t = emits_name c b (kind_of (element_on tag.tag) name) t
emits x m (WholeAttributeName tag k) c b t = emits_whole_name c b k t
emits x m (AfterAttributeName tag k) c b t = emits_after_name c b t
emits x m (BeforeAttributeValue tag k) c b t = emits_before_value x c b k t
emits x m (AttributeValue q tag v r) c b t = emits_value x (ends_value q c) q c b v r t
emits x m (AfterAttributeValue tag) c b t = emits_before_name c b t
emits x m (SelfClosingStartTag tag) c b t = emits_self_closing c b t
emits x m (InContent e y h) c b t = emits_content_in x m h c b e y t

abbrev pub byte_over : {B : Type 0} → ValueLanguage B → LexMode → ℕ → Config B → Config B
byte_over x m b c = config (next x m c.at (class_of b) b) (emits x m c.at (class_of b) b c.emitted)

abbrev pub read_over : {B : Type 0} → ValueLanguage B → LexMode → List ℕ → Config B → Config B
read_over x m [] c = c
read_over x m (b ∷ bs) c = read_over x m bs (byte_over x m b c)

-- a page, or a text of a template, with the languages of values that are read so far
abbrev pub read : LexMode → List ℕ → Config ValueState → Config ValueState
read m bs c = read_over languages m bs c

-- the beginning of a page
abbrev pub start : Config ValueState
start = config (Text Closed) []
