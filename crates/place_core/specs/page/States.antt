-- The states in which the lexer of HTML stands (HTML Standard, section 13.2.5), in pages and in the texts of templates.
use Rattle.std.specs.Prelude.{ℕ, Bool, List}
use Rattle.place_core.specs.page.Events.{LexEvent}
use Rattle.place_core.specs.page.References.{Reference}
use Rattle.place_core.specs.page.Tags.{Tag, Value, Quoting}
use Rattle.place_core.specs.declared.element.Element.{Element}
use Rattle.place_core.specs.declared.kind.Kind.{Kind}

-- what is read: a finished page, or the texts of a template, in which a `<?`, a `<!` that opens neither a comment nor a doctype, and a
-- `</` before no letter, are text, and a comment tells nothing and leaves the reference before it as it stands
pub data LexMode : Type 0 where
  Page : LexMode
  Template : LexMode

-- where a comment stands: after `<!--` (comment start state), after `<!---` (comment start dash), in it (comment), after `-` (comment end
-- dash), after `--` (comment end) and after `--!` (comment end bang); and where a node has ended in one of these but the third: what has
-- begun there is not finished by the next text
pub data CommentState : Type 0 where
  Started : CommentState
  StartedDash : CommentState
  Inside : CommentState
  Dash : CommentState
  DashDash : CommentState
  Bang : CommentState
  Broken : CommentState

-- how the content of an element is read that holds no tags: as text with references, as bytes, or by a language, which is in this state
pub data Content (B : Type 0) : Type 0 where
  Characters : Reference → Content B
  Bytes : Content B
  InLanguage : B → Content B

-- what is pending back in such a content, since it may begin the end tag, or in a data block or a script a `<!--`: nothing, `<` (less-than sign state), `</`
-- and letters that may become the element's name (end tag open and end tag name states), `<!` and `<!-` (escape start states); on a path a
-- `<` of a data block with which a node has ended: what follows must not go on with it; and on a path, in the text of a token of a script, `<` and letters
-- that may become `<script`: there this word, `</script` and `<!--` are no tag and no comment, and are not written as they stand
pub data Pending : Type 0 where
  Nothing : Pending
  PendingLess : Pending
  LessAtCut : Pending
  PendingName : List ℕ → Pending
  PendingBang : Pending
  PendingBangDash : Pending
  PendingOpening : List ℕ → Pending

-- Where a `<` follows an open reference in text, the reference stays open until it is known what the `<` begins: a comment in a template
-- leaves it unfinished, a tag does not.
pub data LexState (B : Type 0) : Type 0 where
  -- text (data state), after `<` (tag open), after `</` (end tag open), and after `<!` and some bytes (markup declaration open)
  Text : Reference → LexState B
  TagOpen : Reference → LexState B
  EndTagOpen : Reference → LexState B
  DeclarationOpen : Reference → List ℕ → LexState B
  -- in a comment; in what a page reads as a comment up to `>` (bogus comment); in a doctype
  InComment : CommentState → LexState B
  BogusComment : LexState B
  InDoctype : LexState B
  -- in a tag: its name, with whether it is an end tag and the name so far (tag name state), and after a name that a node's end has ended
  TagName : Bool → List ℕ → LexState B
  WholeTagName : Tag → LexState B
  -- before, in and after the name of an attribute, with the name so far, or its kind (before attribute name, attribute name and after
  -- attribute name state), and after a name that a node's end has ended, or that is a hole
  BeforeAttributeName : Tag → LexState B
  AttributeName : Tag → List ℕ → LexState B
  WholeAttributeName : Tag → Kind → LexState B
  AfterAttributeName : Tag → Kind → LexState B
  -- after the equals sign (before attribute value state); in a value (attribute value states); after the end of a quoted one (after
  -- attribute value (quoted) state); after a solidus (self-closing start tag state)
  BeforeAttributeValue : Tag → Kind → LexState B
  AttributeValue : Quoting → Tag → Value B → Reference → LexState B
  AfterAttributeValue : Tag → LexState B
  SelfClosingStartTag : Tag → LexState B
  -- in the content of a title or a textarea (RCDATA states), of a data block and a script (script data states), and of a style (RAWTEXT states), with what
  -- is pending back
  InContent : Element → Content B → Pending → LexState B

-- where the reading stands, and the events so far, the last first
pub record Config (B : Type 0) : Type 0 where
  pub at : LexState B
  pub emitted : List LexEvent

abbrev pub config : {B : Type 0} → LexState B → List LexEvent → Config B
config s t = record { at = s; emitted = t }
