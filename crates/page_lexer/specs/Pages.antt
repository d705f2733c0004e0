-- The tokens of a page, of any bytes (HTML Standard, section 13.2.5). NUL, CR and CR LF are bytes like others.
use Rattle.std.specs.Prelude.{ℕ, ◌+◌, true, false, List, [], ◌∷◌, ◌++◌, length}
use Rattle.page_lexer.specs.Classes.{byte_class}
use Rattle.page_lexer.specs.Contents.{one_token, text_tokens, content_tokens}
use Rattle.page_lexer.specs.ContentStates.{content}
use Rattle.page_lexer.specs.Markup.{text, tag_open, end_tag_open, in_declaration_open, comment, bogus_comment, doctype}
use Rattle.page_lexer.specs.Reading.{page_start}
use Rattle.page_lexer.specs.TagStates.{tag_name, before_attribute_name, attribute_name, after_attribute_name, before_attribute_value, attribute_value}
use Rattle.page_lexer.specs.declared.class.PageClass.{PageClass}
use Rattle.page_lexer.specs.declared.state.Reading.{Reading}
use Rattle.page_lexer.specs.declared.state.Where.{Where}
use Rattle.page_lexer.specs.declared.state.Where.TheVariants as at
use Rattle.page_lexer.specs.declared.token.PageToken.{PageToken}
use Rattle.page_lexer.specs.declared.token.What.TheVariants as what

-- what a byte of a class does in a state, at a place, with the place behind it
abbrev pub step : List ℕ → Where → PageClass → ℕ → ℕ → Reading → Reading
step page at.Text c here next r = text c here r
step page at.TagOpen c here next r = tag_open c here next r
step page at.EndTagOpen c here next r = end_tag_open c here next r
step page at.DeclarationOpen c here next r = in_declaration_open page c next r
step page (at.Comment s) c here next r = comment s c next r
step page at.BogusComment c here next r = bogus_comment c next r
step page at.Doctype c here next r = doctype c next r
step page at.TagName c here next r = tag_name page c here next r
step page at.BeforeAttributeName c here next r = before_attribute_name page c here next false r
step page at.AttributeName c here next r = attribute_name page c here next r
step page at.AfterAttributeName c here next r = after_attribute_name page c here next r
step page at.BeforeAttributeValue c here next r = before_attribute_value page c here next r
step page (at.AttributeValue q) c here next r = attribute_value page q c here next r
step page at.AfterAttributeValue c here next r = before_attribute_name page c here next false r
step page at.SelfClosingStartTag c here next r = before_attribute_name page c here next true r
step page (at.Content e p) c here next r = content page e p c here next r

abbrev pub read_byte : List ℕ → ℕ → ℕ → Reading → Reading
read_byte page here b r = step page r.at (byte_class b) here (here + 1) r

-- The end of the page: a text or a content ends there, `<` and `</` alone are text, and a tag, a comment or a doctype is cut.
abbrev pub tokens_at_end : List ℕ → Where → Reading → List PageToken
tokens_at_end page at.Text r = r.tokens ++ text_tokens r.text (length page)
tokens_at_end page at.TagOpen r = r.tokens ++ text_tokens r.text (length page)
tokens_at_end page at.EndTagOpen r = r.tokens ++ text_tokens r.text (length page)
tokens_at_end page (at.Content e p) r = r.tokens ++ content_tokens page e r.text (length page)
tokens_at_end page _ r = r.tokens ++ one_token r.less (length page) what.Unfinished

-- the rest of a page from a place on
abbrev pub read_from : List ℕ → ℕ → Reading → List ℕ → List PageToken
read_from page here r [] = tokens_at_end page r.at r
read_from page here r (b ∷ bs) = read_from page (here + 1) (read_byte page here b r) bs

abbrev pub tokens_of : List ℕ → List PageToken
tokens_of page = read_from page 0 page_start page
