-- Worked examples of how pages are read, by computing.
use Rattle.std.proofs.Common.{◌≡◌, [], ◌∷◌, codes, refl, true, false, Some}
use Rattle.place_core.specs.page.Characters.{char_at, characters_at}
use Rattle.place_core.specs.page.Classes.{class_of}
use Rattle.place_core.specs.page.Events.{Escape, StartTagBegins, EndTagBegins, AttributeBegins, AttributeNameEnds, ValueScheme, TagEnds, Comment, DoctypeBegins, DoctypeEnds, event_text_bytes, block_bytes, value_bytes, attribute_name_bytes, doctype_bytes, tag_name_bytes}
use Rattle.place_core.specs.page.Html.{read, start}
use Rattle.place_core.specs.page.References.{Closed, Open, Named, meaning, flushed, undone}
use Rattle.place_core.specs.page.States.{Page, Template, Text, InComment, Inside, InContent, InLanguage, Nothing, AttributeValue, BeforeAttributeValue, config}
use Rattle.place_core.specs.page.Tags.{languages, tag_named, ValueOf, OfKind, Unquoted}
use Rattle.place_core.specs.page.Utf8.{Before, decoded}
use Rattle.place_core.specs.page.Words.{kind_of, is_special, is_script_type}
use Rattle.url_lexer.specs.Classes.{url_class_of}
use Rattle.url_lexer.specs.Events.{NoScheme}
use Rattle.place_core.specs.declared.element.Element.TheVariants as element
use Rattle.place_core.specs.declared.kind.Kind.TheVariants as kind

-- a tag, a text with a reference, and a tag in upper case
paragraph : read Page (codes "<p>a&lt;b</P>") start ≡ config (Text Closed) (TagEnds false ∷ tag_name_bytes (codes "p") (EndTagBegins ∷ event_text_bytes (codes "a<b") (TagEnds false ∷ tag_name_bytes (codes "p") (StartTagBegins ∷ []))))
unfolding class_of meaning flushed lib.Utf8.encode
paragraph = refl

-- attributes: without a value, unquoted, and quoted with a reference; the tag closes itself
attributes : read Page (codes "<a x Href=b c='&lt=1&lt;'/>") start ≡ config (Text Closed) (TagEnds true ∷ value_bytes (codes "&lt=1<") (AttributeNameEnds kind.Plain ∷ attribute_name_bytes (codes "c") (AttributeBegins ∷ ValueScheme NoScheme ∷ value_bytes (codes "b") (AttributeNameEnds kind.Url ∷ attribute_name_bytes (codes "href") (AttributeBegins ∷ AttributeNameEnds kind.Plain ∷ attribute_name_bytes (codes "x") (AttributeBegins ∷ tag_name_bytes (codes "a") (StartTagBegins ∷ [])))))))
unfolding class_of meaning flushed url_class_of lib.Utf8.encode
attributes = refl

-- the attributes of an end tag
end_tag_attributes : read Page (codes "</p a='b'c>") start ≡ config (Text Closed) (TagEnds false ∷ AttributeNameEnds kind.Plain ∷ attribute_name_bytes (codes "c") (AttributeBegins ∷ value_bytes (codes "b") (AttributeNameEnds kind.Plain ∷ attribute_name_bytes (codes "a") (AttributeBegins ∷ tag_name_bytes (codes "p") (EndTagBegins ∷ [])))))
unfolding class_of meaning flushed lib.Utf8.encode
end_tag_attributes = refl

-- in a title other tags are text, and its own end tag, in any case, ends it
title : read Page (codes "<title><b>&amp</titl></TITLE >") start ≡ config (Text Closed) (TagEnds false ∷ tag_name_bytes (codes "title") (EndTagBegins ∷ event_text_bytes (codes "<b>&</titl>") (TagEnds false ∷ tag_name_bytes (codes "title") (StartTagBegins ∷ []))))
unfolding class_of meaning flushed lib.Utf8.encode
title = refl

-- a script with the type of data: its content is bytes, references too
block : (read Page (codes "<script type=text/plain>a&lt;<!--</b></script>") start).emitted ≡ TagEnds false ∷ tag_name_bytes (codes "script") (EndTagBegins ∷ block_bytes (codes "</b>") (Escape ∷ block_bytes (codes "a&lt;<!--") (TagEnds false ∷ value_bytes (codes "text/plain") (AttributeNameEnds kind.ScriptType ∷ attribute_name_bytes (codes "type") (AttributeBegins ∷ tag_name_bytes (codes "script") (StartTagBegins ∷ []))))))
unfolding class_of meaning flushed lib.Utf8.encode
block = refl

-- a script: its content is read by the language
script : (read Page (codes "<ScRiPt>") start).at ≡ InContent element.Script (InLanguage (languages.start kind.Script)) Nothing
unfolding class_of meaning flushed lib.Utf8.encode
script = refl

first_type : (read Page (codes "<script type=module type=x>") start).at ≡ InContent element.Script (InLanguage (languages.start kind.Script)) Nothing
unfolding class_of meaning flushed lib.Utf8.encode
first_type = refl

-- a value that is not begun, and one that is
unbegun : (read Page (codes "<p title= ") start).at ≡ BeforeAttributeValue (tag_named false (codes "p")) kind.Plain
unfolding class_of meaning flushed lib.Utf8.encode
unbegun = refl

unquoted : (read Page (codes "<p title=a&l") start).at ≡ AttributeValue Unquoted (tag_named false (codes "p")) (ValueOf (OfKind kind.Plain)) (Open Named (codes "l"))
unfolding class_of meaning flushed lib.Utf8.encode
unquoted = refl

-- `<` before what is no name is text; in a template `<?` and `</1` are too
no_tag : read Page (codes "1 < 2") start ≡ config (Text Closed) (event_text_bytes (codes "1 < 2") [])
unfolding class_of meaning flushed lib.Utf8.encode
no_tag = refl

template_text : read Template (codes "<?</1") start ≡ config (Text Closed) (event_text_bytes (codes "<?</1") [])
unfolding class_of meaning flushed lib.Utf8.encode
template_text = refl

page_comment : read Page (codes "<?a>b</1>") start ≡ config (Text Closed) (Comment ∷ event_text_bytes (codes "b") (Comment ∷ []))
unfolding class_of meaning flushed lib.Utf8.encode
page_comment = refl

-- comments: each of their ends, and what ends none
comments : read Page (codes "<!-->a<!--->b<!-- -- --->c<!--x--!>d<!>") start ≡ config (Text Closed) (Comment ∷ event_text_bytes (codes "d") (Comment ∷ event_text_bytes (codes "c") (Comment ∷ event_text_bytes (codes "b") (Comment ∷ event_text_bytes (codes "a") (Comment ∷ [])))))
unfolding class_of meaning flushed lib.Utf8.encode
comments = refl

no_end : (read Page (codes "<!--a>b->c--d>--!e") start).at ≡ InComment Inside
unfolding class_of meaning flushed lib.Utf8.encode
no_end = refl

-- in a template a comment tells nothing and leaves the reference before it as it stands, and a `<!` that opens nothing is text
template_comment : read Template (codes "&lt<!--a-->b<!docx<!-c") start ≡ config (Text Closed) (event_text_bytes (codes "&ltb<!docx<!-c") [])
unfolding class_of meaning flushed lib.Utf8.encode
template_comment = refl

doctype : read Page (codes "&lt<!DocType html>") start ≡ config (Text Closed) (DoctypeEnds ∷ doctype_bytes (codes "DocType html") (DoctypeBegins ∷ event_text_bytes (codes "<") []))
unfolding class_of meaning flushed lib.Utf8.encode
doctype = refl

-- numbers: of windows-1252, zero, a surrogate, past the last code point, and in base 16
euro : read Page (codes "&#128;") start ≡ config (Text Closed) (event_text_bytes (226 ∷ 130 ∷ 172 ∷ []) [])
unfolding class_of meaning flushed lib.Utf8.encode
euro = refl

surrogate : undone false Closed (codes "&#xD800;") ≡ 239 ∷ 191 ∷ 189 ∷ []
unfolding class_of meaning flushed lib.Utf8.encode
surrogate = refl

base_16 : undone false Closed (codes "&#x2F;&#X6a") ≡ codes "/j"
unfolding class_of meaning flushed lib.Utf8.encode
base_16 = refl

no_reference : undone false Closed (codes "a & b &# &#x &zz ") ≡ codes "a & b &# &#x &zz "
unfolding class_of meaning flushed lib.Utf8.encode
no_reference = refl

-- names without a semicolon, in text and in a value
short_in_text : undone false Closed (codes "&ampx &lt=") ≡ codes "&x <="
unfolding class_of meaning flushed lib.Utf8.encode
short_in_text = refl

short_in_value : undone true Closed (codes "&ampx &lt= &lt") ≡ codes "&ampx &lt= <"
unfolding class_of meaning flushed lib.Utf8.encode
short_in_value = refl

ahead_in_text : char_at false false (codes "&ampx") ≡ Some (38, 4)
ahead_in_text = refl

ahead_in_value : char_at true false (codes "&ampx") ≡ Some (38, 1)
ahead_in_value = refl

ahead_with_semicolon : char_at true false (codes "&ampx;") ≡ Some (65533, 6)
ahead_with_semicolon = refl

cut_off : characters_at true true 0 (codes "&lt;&lt") ≡ (60, 0) ∷ (38, 4) ∷ (108, 5) ∷ (116, 6) ∷ []
cut_off = refl

not_cut_off : characters_at true false 0 (codes "&lt;&lt") ≡ (60, 0) ∷ (60, 4) ∷ []
not_cut_off = refl

-- UTF-8: three bytes, and each byte of no character
three_bytes : decoded Before (226 ∷ 130 ∷ 172 ∷ 97 ∷ []) ≡ 8364 ∷ 97 ∷ []
three_bytes = refl

malformed : decoded Before (226 ∷ 130 ∷ 97 ∷ 128 ∷ 192 ∷ 128 ∷ 240 ∷ 159 ∷ []) ≡ 65533 ∷ 65533 ∷ 97 ∷ 65533 ∷ 65533 ∷ 65533 ∷ 65533 ∷ 65533 ∷ []
malformed = refl

-- kinds
handler : kind_of element.Other (codes "onClick") ≡ kind.Script
handler = refl

data_front : kind_of element.Other (codes "data-src") ≡ kind.Url
data_front = refl

namespace : kind_of element.Other (codes "xmlns:a") ≡ kind.Url
namespace = refl

prefixed : kind_of element.Other (codes "x:style") ≡ kind.Style
prefixed = refl

typed : kind_of element.Script (codes "TYPE") ≡ kind.ScriptType
typed = refl

special : is_special (codes "http-Equiv") ≡ true
special = refl

harmless : is_special (codes "class") ≡ false
harmless = refl

script_type : is_script_type (codes " Text/JavaScript; x") ≡ true
script_type = refl

no_script_type : is_script_type (codes "text/plain") ≡ false
no_script_type = refl
