-- How a path of a template is read: its texts, node by node, and its holes as symbols, without any data.
use Rattle.std.specs.Prelude.{ℕ, false, codes, List, [], ◌∷◌, ◌++◌}
use Rattle.place_core.specs.page.Comments.{comment_broken_off}
use Rattle.place_core.specs.page.Contents.{content_at_cut, pending_at_cut, emits_content_cut, content_at_hole, emits_content_hole}
use Rattle.place_core.specs.page.Events.{LexEvent, Mark, AttributeBegins, event_text_bytes}
use Rattle.place_core.specs.page.Html.{read_over}
use Rattle.place_core.specs.page.References.{Closed, settled, as_it_stands}
use Rattle.place_core.specs.page.States.{Template, LexState, Text, TagOpen, EndTagOpen, DeclarationOpen, InComment, BogusComment, InDoctype, TagName, WholeTagName, BeforeAttributeName, AttributeName, WholeAttributeName, AfterAttributeName, BeforeAttributeValue, AttributeValue, AfterAttributeValue, SelfClosingStartTag, InContent, Config, config}
use Rattle.place_core.specs.page.Tags.{ValueLanguage, tag_named, element_on, attribute_value_of, with_bytes, emitted_bytes, cut_value, holed_value, emitted_hole, without_value, Unquoted}
use Rattle.place_core.specs.page.Words.{kind_of}
use Rattle.place_core.specs.declared.kind.Kind.TheVariants as kind

-- a symbol of a path: the text of a node, or a hole
pub data Symbol : Type 0 where
  Written : List ℕ → Symbol
  Hole : Symbol

-- The end of a node is a cut. A reference that has not ended there is text as it stands, and so is a `<` that begins nothing whole, after
-- the character of a reference before it. A name that has begun is whole, and a comment's end that has begun is broken off. All else stays.
abbrev pub at_cut : {B : Type 0} → ValueLanguage B → LexState B → LexState B
at_cut x (Text r) = Text Closed
at_cut x (TagOpen r) = Text Closed
at_cut x (EndTagOpen r) = Text Closed
at_cut x (DeclarationOpen r pending) = Text Closed
at_cut x (InComment s) = InComment (comment_broken_off s)
at_cut x BogusComment = BogusComment
at_cut x InDoctype = InDoctype
at_cut x (TagName ends name) = WholeTagName (tag_named ends name)
at_cut x (WholeTagName tag) = WholeTagName tag
at_cut x (BeforeAttributeName tag) = BeforeAttributeName tag
at_cut x (AttributeName tag name) = WholeAttributeName tag (kind_of (element_on tag.tag) name)
at_cut x (WholeAttributeName tag k) = WholeAttributeName tag k
at_cut x (AfterAttributeName tag k) = AfterAttributeName tag k
at_cut x (BeforeAttributeValue tag k) = BeforeAttributeValue tag k
at_cut x (AttributeValue q tag v r) = AttributeValue q tag (cut_value x (with_bytes x v (as_it_stands r))) Closed
at_cut x (AfterAttributeValue tag) = AfterAttributeValue tag
at_cut x (SelfClosingStartTag tag) = SelfClosingStartTag tag
at_cut x (InContent e y h) = InContent e (content_at_cut x y h) (pending_at_cut y h)

abbrev pub emits_cut : {B : Type 0} → ValueLanguage B → LexState B → List LexEvent → List LexEvent
emits_cut x (Text r) t = event_text_bytes (as_it_stands r) t
emits_cut x (TagOpen r) t = event_text_bytes (codes "<") (event_text_bytes (settled false r) t)
emits_cut x (EndTagOpen r) t = event_text_bytes (codes "</") (event_text_bytes (settled false r) t)
emits_cut x (DeclarationOpen r pending) t = event_text_bytes (codes "<!" ++ pending) (event_text_bytes (settled false r) t)
emits_cut x (InComment s) t = t
emits_cut x BogusComment t = t
emits_cut x InDoctype t = t
emits_cut x (TagName ends name) t = t
emits_cut x (WholeTagName tag) t = t
emits_cut x (BeforeAttributeName tag) t = t
emits_cut x (AttributeName tag name) t = t
emits_cut x (WholeAttributeName tag k) t = t
emits_cut x (AfterAttributeName tag k) t = t
emits_cut x (BeforeAttributeValue tag k) t = t
emits_cut x (AttributeValue q tag v r) t = emitted_bytes x v (as_it_stands r) t
emits_cut x (AfterAttributeValue tag) t = t
emits_cut x (SelfClosingStartTag tag) t = t
emits_cut x (InContent e y h) t = emits_content_cut x y h t

abbrev pub cut : {B : Type 0} → ValueLanguage B → Config B → Config B
cut x c = config (at_cut x c.at) (emits_cut x c.at c.emitted)

-- the text of a node, with its end
abbrev pub read_node : {B : Type 0} → ValueLanguage B → List ℕ → Config B → Config B
read_node x bytes c = cut x (read_over x Template bytes c)

-- A hole is the whole name of an attribute of kind Plain where one may begin, and begins an unquoted value where one has not begun. Elsewhere
-- the reading stays where it is.
abbrev pub at_hole : {B : Type 0} → ValueLanguage B → LexState B → LexState B
at_hole x (Text r) = Text r
at_hole x (TagOpen r) = TagOpen r
at_hole x (EndTagOpen r) = EndTagOpen r
at_hole x (DeclarationOpen r pending) = DeclarationOpen r pending
at_hole x (InComment s) = InComment s
at_hole x BogusComment = BogusComment
at_hole x InDoctype = InDoctype
at_hole x (TagName ends name) = TagName ends name
at_hole x (WholeTagName tag) = WholeTagName tag
at_hole x (BeforeAttributeName tag) = WholeAttributeName tag kind.Plain
at_hole x (AttributeName tag name) = AttributeName tag name
at_hole x (WholeAttributeName tag k) = WholeAttributeName tag k
at_hole x (AfterAttributeName tag k) = WholeAttributeName (without_value tag k) kind.Plain
at_hole x (BeforeAttributeValue tag k) = AttributeValue Unquoted tag (holed_value x (attribute_value_of x k)) Closed
at_hole x (AttributeValue q tag v r) = AttributeValue q tag (holed_value x v) r
at_hole x (AfterAttributeValue tag) = WholeAttributeName tag kind.Plain
at_hole x (SelfClosingStartTag tag) = WholeAttributeName tag kind.Plain
at_hole x (InContent e y h) = content_at_hole x e y h

-- what a hole tells in its place: its mark in the text, value or content that is open there, after what a value, a style or a script has pending back, or in a
-- name that begins with it; in a comment nothing, since nothing of a comment is told
abbrev pub mark_in : {B : Type 0} → ValueLanguage B → LexState B → List LexEvent → List LexEvent
mark_in x (Text r) t = Mark ∷ t
mark_in x (TagOpen r) t = t
mark_in x (EndTagOpen r) t = t
mark_in x (DeclarationOpen r pending) t = t
mark_in x (InComment s) t = t
mark_in x BogusComment t = t
mark_in x InDoctype t = t
mark_in x (TagName ends name) t = t
mark_in x (WholeTagName tag) t = t
mark_in x (BeforeAttributeName tag) t = Mark ∷ AttributeBegins ∷ t
mark_in x (AttributeName tag name) t = t
mark_in x (WholeAttributeName tag k) t = t
mark_in x (AfterAttributeName tag k) t = Mark ∷ AttributeBegins ∷ t
mark_in x (BeforeAttributeValue tag k) t = emitted_hole x (attribute_value_of x k) t
mark_in x (AttributeValue q tag v r) t = emitted_hole x v t
mark_in x (AfterAttributeValue tag) t = Mark ∷ AttributeBegins ∷ t
mark_in x (SelfClosingStartTag tag) t = Mark ∷ AttributeBegins ∷ t
mark_in x (InContent e y h) t = emits_content_hole x y h t

abbrev pub read_symbol : {B : Type 0} → ValueLanguage B → Symbol → Config B → Config B
read_symbol x (Written bytes) c = read_node x bytes c
read_symbol x Hole c = config (at_hole x c.at) (mark_in x c.at c.emitted)

abbrev pub read_path : {B : Type 0} → ValueLanguage B → List Symbol → Config B → Config B
read_path x [] c = c
read_path x (symbol ∷ symbols) c = read_path x symbols (read_symbol x symbol c)
