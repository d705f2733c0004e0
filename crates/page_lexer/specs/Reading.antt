-- What the states of the reading of a page do (HTML Standard, section 13.2.5).
use Rattle.std.specs.Prelude.{ℕ, Bool, true, false, List, [], ◌∷◌, ◌++◌, if◌then◌else◌}
use Rattle.place_core.specs.page.Tags.{element_of}
use Rattle.place_core.specs.declared.element.Element.{Element}
use Rattle.place_core.specs.declared.element.Element.TheVariants as element
use Rattle.page_lexer.specs.Characters.{name_text}
use Rattle.page_lexer.specs.Contents.{one_token, text_tokens, content_tokens}
use Rattle.page_lexer.specs.Parts.{part}
use Rattle.page_lexer.specs.Tags.{attrs_at, content_element}
use Rattle.page_lexer.specs.declared.class.PageClass.{PageClass}
use Rattle.page_lexer.specs.declared.class.PageClass.TheVariants as class
use Rattle.page_lexer.specs.declared.state.AttrPlace.{AttrPlace}
use Rattle.page_lexer.specs.declared.state.CommentState.{CommentState}
use Rattle.page_lexer.specs.declared.state.CommentState.TheVariants as comment
use Rattle.page_lexer.specs.declared.state.Pending.TheVariants as pending
use Rattle.page_lexer.specs.declared.state.Reading.{Reading}
use Rattle.page_lexer.specs.declared.state.Where.{Where}
use Rattle.page_lexer.specs.declared.state.Where.TheVariants as at
use Rattle.page_lexer.specs.declared.token.Attr.{Attr}
use Rattle.page_lexer.specs.declared.token.PageToken.{PageToken}
use Rattle.page_lexer.specs.declared.token.Tag.{Tag}
use Rattle.page_lexer.specs.declared.token.What.{What}
use Rattle.page_lexer.specs.declared.token.What.TheVariants as what

-- an attribute without a value, of which the name begins at a place
abbrev pub attr_from : ℕ → AttrPlace
attr_from here = record { name_from = here; name_to = here; value_from = here; value_to = here }

-- the beginning of a page
abbrev pub page_start : Reading
page_start = record { at = at.Text; text = 0; less = 0; name = 0; name_to = 0; is_end = false; attr = attr_from 0; attrs = []; tokens = [] }

-- the reading goes on in another state
abbrev pub goes_to : Where → Reading → Reading
goes_to w r = record r { at = w }

-- with these tokens more
abbrev pub with_tokens : List PageToken → Reading → Reading
with_tokens tokens r = record r { tokens = r.tokens ++ tokens }

-- the text before the last `<` ends
abbrev pub text_ended : Reading → Reading
text_ended r = with_tokens (text_tokens r.text r.less) r

-- a comment, a doctype or a tag that begins at the last `<` ends, and something else begins behind it
abbrev pub token_ended : ℕ → What → Where → Reading → Reading
token_ended to w behind r = record r { tokens = r.tokens ++ one_token r.less to w; text = to; at = behind }

abbrev pub markup_ended : ℕ → What → Reading → Reading
markup_ended to w r = token_ended to w at.Text r

-- a tag begins, its name here
abbrev pub tag_begun : ℕ → Bool → Reading → Reading
tag_begun here is_end r = record (text_ended r) { name = here; is_end = is_end; at = at.TagName }

abbrev pub attr_begun : ℕ → Reading → Reading
attr_begun here r = record r { attr = attr_from here; at = at.AttributeName }

abbrev pub attr_ended : Reading → Reading
attr_ended r = record r { attrs = r.attrs ++ r.attr ∷ [] }

-- Behind a tag is text, or the content of an element that has no tags in it.
abbrev pub behind_tag : Element → Where
behind_tag element.Other = at.Text
behind_tag e = at.Content e pending.Nothing

-- the element on which the attributes of a tag stand; those of an end tag are as on any other element
abbrev pub tag_element : Bool → List ℕ → Element
tag_element is_end name = if is_end then element.Other else element_of name

abbrev pub tag_token : Bool → Tag → What
tag_token is_end t = if is_end then what.End t else what.Start t

abbrev pub tag_read : ℕ → Bool → List ℕ → Element → List Attr → Reading → Reading
tag_read to closing name e attrs r =
    token_ended to (tag_token r.is_end (record { name = name; closing = closing; attrs = attrs })) (behind_tag (content_element e attrs)) (record r { attrs = [] })

abbrev pub named_tag_ended : List ℕ → ℕ → Bool → List ℕ → Element → Reading → Reading
named_tag_ended page to closing name e r = tag_read to closing name e (attrs_at page e r.attrs) r

-- the tag at hand ends
abbrev pub tag_ended : List ℕ → ℕ → Bool → Reading → Reading
tag_ended page to closing r =
    let name = name_text (part page r.name r.name_to) in named_tag_ended page to closing name (tag_element r.is_end name) r

-- the content of an element ends before the last `<`, where its end tag begins
abbrev pub content_ended : List ℕ → Element → Reading → Reading
content_ended page e r = record (with_tokens (content_tokens page e r.text r.less) r) { is_end = true }

-- a byte in a comment that does not end it
abbrev pub comment_goes_on : CommentState → PageClass → CommentState
comment_goes_on comment.Started class.HyphenMinus = comment.StartedDash
comment_goes_on comment.StartedDash class.HyphenMinus = comment.DashDash
comment_goes_on comment.Dash class.HyphenMinus = comment.DashDash
comment_goes_on comment.DashDash class.HyphenMinus = comment.DashDash
comment_goes_on comment.DashDash class.ExclamationMark = comment.Bang
comment_goes_on _ class.HyphenMinus = comment.Dash
comment_goes_on _ _ = comment.Inside
