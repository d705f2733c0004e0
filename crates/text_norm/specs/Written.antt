-- What a page gets for the text of a template's node: the text, byte by byte as a path reads it, but for these. A comment is left out. A `<` that
-- begins nothing, in text, a title or a textarea, becomes `&lt;`. An `&` with which a reference has begun becomes `&amp;` where the node ends
-- in it, or a comment begins. What may still become one of these is pending back. A data block is written as it stands: there is no reference in
-- it, and a `<` in it is a byte of it. Of a style in its element a comment becomes a space, and what may begin its end tag is written when it is known
-- to begin none, or with the end tag. Of a script in its element a block comment becomes a space or a line feed, and of a line comment nothing is written;
-- in its tokens the `<` of `<script`, `</script` and `<!--`, and of what begins one at the end of the node, becomes `\x3C`.
use Rattle.std.specs.Prelude.{ℕ, ◌&&◌, not, Bool, true, false, codes, List, [], ◌∷◌, ◌++◌, if◌then◌else◌}
use Rattle.css_lexer.specs.Urls.{urls}
use Rattle.css_lexer.specs.Written.{style_written, style_written_at_cut}
use Rattle.js_lexer.specs.Elements.{script_may_end}
use Rattle.js_lexer.specs.Feeding.{feed_script}
use Rattle.js_lexer.specs.States.{ScriptState}
use Rattle.js_lexer.specs.Written.{is_hidden_in_script, script_hides, script_written, script_written_at_cut}
use Rattle.place_core.specs.page.Classes.{Class, White, ExclamationMark, Solidus, LessThan, GreaterThan, Letter, class_of}
use Rattle.place_core.specs.page.Comments.{Declaration, OpensComment, OpensDoctype, Undecided, OpensNothing, declared_by}
use Rattle.place_core.specs.page.Contents.{ScriptStep, Reads, EndsContent, script_step, may_be_name_of, is_name_of, pending_bytes}
use Rattle.place_core.specs.page.Html.{next, ends_value}
use Rattle.place_core.specs.page.References.{Reference, Closed, Open, ReferenceStep, Grows, Closes, Breaks, turn, plain_bytes, as_it_stands}
use Rattle.place_core.specs.page.States.{Template, LexState, Text, TagOpen, EndTagOpen, DeclarationOpen, InComment, BogusComment, InDoctype, TagName, WholeTagName, BeforeAttributeName, AttributeName, WholeAttributeName, AfterAttributeName, BeforeAttributeValue, AttributeValue, AfterAttributeValue, SelfClosingStartTag, Characters, Bytes, InLanguage, Pending, Nothing, PendingLess, PendingName, InContent}
use Rattle.place_core.specs.page.Tags.{Feeding, feed_bytes, language_feeding, ValueLanguage, ValueState, OfStyle, OfScript}
use Rattle.place_core.specs.declared.element.Element.{Element}

-- the bytes of a reference that has begun, where it is to be text
abbrev pub text_escaped : Reference → List ℕ
text_escaped Closed = []
text_escaped (Open f bytes) = codes "&amp;" ++ bytes

-- A byte of text with references, by what it does to the one that is open.
abbrev pub turn_out : ReferenceStep → List ℕ → Class → ℕ → List ℕ
turn_out (Grows g) bytes c b = []
turn_out Closes bytes c b = (38 ∷ bytes) ++ b ∷ []
turn_out Breaks bytes c b = (38 ∷ bytes) ++ plain_bytes c b

abbrev pub reference_out : Reference → Class → ℕ → List ℕ
reference_out Closed c b = plain_bytes c b
reference_out (Open f bytes) c b = turn_out (turn c f) bytes c b

-- In text. A reference before a `<` is pending back with it.
abbrev pub text_out : Class → ℕ → Reference → List ℕ
text_out LessThan b r = []
text_out c b r = reference_out r c b

-- after `<`, after `</`, and after `<!` and some bytes
abbrev pub less_out : Class → ℕ → Reference → List ℕ
less_out (Letter l) b r = (as_it_stands r ++ codes "<") ++ b ∷ []
less_out Solidus b r = []
less_out ExclamationMark b r = []
less_out c b r = (as_it_stands r ++ codes "&lt;") ++ text_out c b Closed

abbrev pub solidus_out : Class → ℕ → Reference → List ℕ
solidus_out (Letter l) b r = (as_it_stands r ++ codes "</") ++ b ∷ []
solidus_out c b r = (as_it_stands r ++ codes "&lt;") ++ (codes "/" ++ text_out c b Closed)

abbrev pub declaration_out : Declaration → Class → ℕ → Reference → List ℕ → List ℕ
declaration_out OpensComment c b r pending = text_escaped r
declaration_out OpensDoctype c b r pending = (as_it_stands r ++ (codes "<!" ++ pending)) ++ b ∷ []
declaration_out Undecided c b r pending = []
declaration_out OpensNothing c b r pending = (as_it_stands r ++ codes "&lt;") ++ (codes "!" ++ (pending ++ text_out c b Closed))

-- in a value: a byte that ends it, or not
abbrev pub value_out : Bool → Class → ℕ → Reference → List ℕ
value_out true c b r = as_it_stands r ++ b ∷ []
value_out false c b r = reference_out r c b

-- In a title or a textarea. In a data block nothing is changed, since its text is no text of the page.
abbrev pub loose_out : Class → ℕ → Reference → List ℕ
loose_out LessThan b r = as_it_stands r
loose_out c b r = reference_out r c b

abbrev pub content_less_out : Class → ℕ → List ℕ
content_less_out Solidus b = []
content_less_out c b = codes "&lt;" ++ loose_out c b Closed

abbrev pub end_name_out : Bool → Bool → Class → ℕ → List ℕ → List ℕ
end_name_out true whole (Letter l) b letters = []
end_name_out grows true White b letters = (codes "</" ++ letters) ++ b ∷ []
end_name_out grows true Solidus b letters = (codes "</" ++ letters) ++ b ∷ []
end_name_out grows true GreaterThan b letters = (codes "</" ++ letters) ++ b ∷ []
end_name_out grows whole c b letters = codes "&lt;" ++ ((codes "/" ++ letters) ++ loose_out c b Closed)

abbrev pub content_out : Pending → Class → ℕ → Element → Reference → List ℕ
content_out Nothing c b e r = loose_out c b r
content_out PendingLess c b e r = content_less_out c b
content_out (PendingName letters) c b e r = end_name_out (may_be_name_of e (letters ++ b ∷ [])) (is_name_of e letters) c b letters
content_out h c b e r = b ∷ []

-- In the content of an element that a language reads: how bytes are fed to it, what is written of a byte, by the state before it, and what waits at the
-- end of a node or of the content. The content of one path is written so, and that of all paths at a place together.
pub record ContentWriting (S : Type 0) : Type 0 where
  pub feeding : Feeding S
  pub byte : S → ℕ → List ℕ
  pub cut : S → List ℕ

-- bytes that were pending back and have come to nothing, and the byte at hand behind them; a `<` is pending
abbrev pub released_out : {S : Type 0} → ContentWriting S → S → List ℕ → List ℕ
released_out w s [] = []
released_out w s (b ∷ bs) = w.byte s b ++ released_out w (w.feeding.feed s b) bs

abbrev pub language_loose_out : {S : Type 0} → ContentWriting S → Class → ℕ → S → List ℕ
language_loose_out w LessThan b s = []
language_loose_out w c b s = w.byte s b

abbrev pub behind_released_out : {S : Type 0} → ContentWriting S → List ℕ → Class → ℕ → S → List ℕ
behind_released_out w bytes c b s = released_out w s bytes ++ language_loose_out w c b (feed_bytes w.feeding s bytes)

-- after `<`, and after `</` and letters: the end tag ends the content
abbrev pub language_less_out : {S : Type 0} → ContentWriting S → Class → ℕ → S → List ℕ
language_less_out w Solidus b s = []
language_less_out w c b s = behind_released_out w (codes "<") c b s

abbrev pub end_tag_out : {S : Type 0} → ContentWriting S → List ℕ → ℕ → S → List ℕ
end_tag_out w letters b s = w.cut s ++ ((codes "</" ++ letters) ++ b ∷ [])

abbrev pub language_name_out : {S : Type 0} → ContentWriting S → (grows whole : Bool) → Class → ℕ → List ℕ → S → List ℕ
language_name_out w true whole (Letter l) b letters s = []
language_name_out w grows true White b letters s = end_tag_out w letters b s
language_name_out w grows true Solidus b letters s = end_tag_out w letters b s
language_name_out w grows true GreaterThan b letters s = end_tag_out w letters b s
language_name_out w grows whole c b letters s = behind_released_out w (codes "</" ++ letters) c b s

abbrev pub language_content_out : {S : Type 0} → ContentWriting S → Pending → Class → ℕ → Element → S → List ℕ
language_content_out w Nothing c b e s = language_loose_out w c b s
language_content_out w PendingLess c b e s = language_less_out w c b s
language_content_out w (PendingName letters) c b e s =
    language_name_out w (may_be_name_of e (letters ++ b ∷ [])) (is_name_of e letters) c b letters s
language_content_out w h c b e s = behind_released_out w (pending_bytes h) c b s

abbrev pub language_content_cut_out : {S : Type 0} → ContentWriting S → Pending → S → List ℕ
language_content_cut_out w h s = released_out w s (pending_bytes h) ++ w.cut (feed_bytes w.feeding s (pending_bytes h))

-- A script in its element: how bytes are fed to it, whether an end tag may end it, what is written of a byte, of one of the words in a token, and of what
-- waits at the end of a node or of the content.
pub record ScriptWriting (S : Type 0) : Type 0 where
  pub feed : S → ℕ → S
  pub may_end : S → Bool
  pub byte : S → ℕ → List ℕ
  pub hides : S → List ℕ → List ℕ
  pub cut : S → List ℕ

abbrev pub script_bytes_out : {S : Type 0} → ScriptWriting S → S → List ℕ → List ℕ
script_bytes_out w s [] = []
script_bytes_out w s (b ∷ bs) = w.byte s b ++ script_bytes_out w (w.feed s b) bs

abbrev pub script_read_out : {S : Type 0} → ScriptWriting S → S → List ℕ → List ℕ
script_read_out w s bytes = if not (w.may_end s) && is_hidden_in_script bytes then w.hides s bytes else script_bytes_out w s bytes

abbrev pub script_step_out : {S : Type 0} → ScriptWriting S → S → ScriptStep → ℕ → List ℕ
script_step_out w s (Reads bytes h) b = script_read_out w s bytes
script_step_out w s (EndsContent letters) b = w.cut s ++ ((codes "</" ++ letters) ++ b ∷ [])

abbrev pub script_out : {S : Type 0} → ScriptWriting S → Pending → Class → ℕ → Element → S → List ℕ
script_out w h c b e s = script_step_out w s (script_step (w.may_end s) e h c b) b

-- at the end of a node: in a token what is pending is the beginning of a word
abbrev pub script_end_state : {S : Type 0} → ScriptWriting S → S → List ℕ → S
script_end_state w s [] = s
script_end_state w s (b ∷ bs) = script_end_state w (w.feed s b) bs

abbrev pub script_cut_out : {S : Type 0} → ScriptWriting S → Pending → S → List ℕ
script_cut_out w h s =
    (if w.may_end s then script_bytes_out w s (pending_bytes h) else w.hides s (pending_bytes h)) ++ w.cut (script_end_state w s (pending_bytes h))

abbrev pub path_script : ScriptWriting ScriptState
path_script = record {
  feed = feed_script;
  may_end = script_may_end;
  byte = script_written;
  hides = script_hides;
  cut = script_written_at_cut;
}

-- of one path
abbrev pub language_out : ValueState → ℕ → List ℕ
language_out (OfStyle s) b = style_written urls s b
language_out v b = b ∷ []

abbrev pub language_cut_out : ValueState → List ℕ
language_cut_out (OfStyle s) = style_written_at_cut s
language_cut_out v = []

abbrev pub path_writing : ValueLanguage ValueState → ContentWriting ValueState
path_writing x = record { feeding = language_feeding x; byte = language_out; cut = language_cut_out }

abbrev pub out_in_language : ValueLanguage ValueState → Pending → Class → ℕ → Element → ValueState → List ℕ
out_in_language x h c b e (OfScript s) = script_out path_script h c b e s
out_in_language x h c b e v = language_content_out (path_writing x) h c b e v

abbrev pub cut_out_in_language : ValueLanguage ValueState → Pending → ValueState → List ℕ
cut_out_in_language x h (OfScript s) = script_cut_out path_script h s
cut_out_in_language x h v = language_content_cut_out (path_writing x) h v

-- what is written when a byte is read
abbrev pub out : ValueLanguage ValueState → LexState ValueState → Class → ℕ → List ℕ
out x (Text r) c b = text_out c b r
out x (TagOpen r) c b = less_out c b r
out x (EndTagOpen r) c b = solidus_out c b r
out x (DeclarationOpen r pending) c b = declaration_out (declared_by (pending ++ b ∷ [])) c b r pending
out x (InComment s) c b = []
out x BogusComment c b = b ∷ []
out x InDoctype c b = b ∷ []
out x (TagName ends name) c b = b ∷ []
out x (WholeTagName tag) c b = b ∷ []
out x (BeforeAttributeName tag) c b = b ∷ []
out x (AttributeName tag name) c b = b ∷ []
out x (WholeAttributeName tag k) c b = b ∷ []
out x (AfterAttributeName tag k) c b = b ∷ []
out x (BeforeAttributeValue tag k) c b = plain_bytes c b
out x (AttributeValue q tag v r) c b = value_out (ends_value q c) c b r
out x (AfterAttributeValue tag) c b = b ∷ []
out x (SelfClosingStartTag tag) c b = b ∷ []
out x (InContent e (Characters r) h) c b = content_out h c b e r
out x (InContent e Bytes h) c b = b ∷ []
out x (InContent e (InLanguage v) h) c b = out_in_language x h c b e v

-- likewise, and where the node ends
abbrev pub content_cut_out : Pending → Reference → List ℕ
content_cut_out Nothing r = text_escaped r
content_cut_out PendingLess r = codes "&lt;"
content_cut_out (PendingName letters) r = codes "&lt;" ++ (codes "/" ++ letters)
content_cut_out h r = []

abbrev pub cut_out : ValueLanguage ValueState → LexState ValueState → List ℕ
cut_out x (Text r) = text_escaped r
cut_out x (TagOpen r) = as_it_stands r ++ codes "&lt;"
cut_out x (EndTagOpen r) = (as_it_stands r ++ codes "&lt;") ++ codes "/"
cut_out x (DeclarationOpen r pending) = (as_it_stands r ++ codes "&lt;") ++ (codes "!" ++ pending)
cut_out x (InComment s) = []
cut_out x BogusComment = []
cut_out x InDoctype = []
cut_out x (TagName ends name) = []
cut_out x (WholeTagName tag) = []
cut_out x (BeforeAttributeName tag) = []
cut_out x (AttributeName tag name) = []
cut_out x (WholeAttributeName tag k) = []
cut_out x (AfterAttributeName tag k) = []
cut_out x (BeforeAttributeValue tag k) = []
cut_out x (AttributeValue q tag v r) = text_escaped r
cut_out x (AfterAttributeValue tag) = []
cut_out x (SelfClosingStartTag tag) = []
cut_out x (InContent e (Characters r) h) = content_cut_out h r
cut_out x (InContent e Bytes h) = []
cut_out x (InContent e (InLanguage v) h) = cut_out_in_language x h v

-- what is written of the text of a node, from the state that its path has come to
abbrev pub written : ValueLanguage ValueState → List ℕ → LexState ValueState → List ℕ
written x [] s = cut_out x s
written x (b ∷ bs) s = out x s (class_of b) b ++ written x bs (next x Template s (class_of b) b)
