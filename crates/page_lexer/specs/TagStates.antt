-- Tags and their attributes: what a byte does in each state (HTML Standard, sections 13.2.5.8 and 13.2.5.32 to 13.2.5.40). `here` is the place of the byte,
-- and `next` the place behind it.
use Rattle.std.specs.Prelude.{ℕ, Bool, true, false, List, if◌then◌else◌}
use Rattle.page_lexer.specs.Reading.{goes_to, attr_begun, attr_ended, tag_ended}
use Rattle.page_lexer.specs.declared.class.PageClass.{PageClass}
use Rattle.page_lexer.specs.declared.class.PageClass.TheVariants as class
use Rattle.page_lexer.specs.declared.state.PageQuoting.{PageQuoting}
use Rattle.page_lexer.specs.declared.state.PageQuoting.TheVariants as quoting
use Rattle.page_lexer.specs.declared.state.Reading.{Reading}
use Rattle.page_lexer.specs.declared.state.Where.TheVariants as at

-- tag name state
abbrev pub tag_name : List ℕ → PageClass → ℕ → ℕ → Reading → Reading
tag_name page class.White here next r = record r { name_to = here; at = at.BeforeAttributeName }
tag_name page class.Solidus here next r = record r { name_to = here; at = at.SelfClosingStartTag }
tag_name page class.GreaterThan here next r = tag_ended page next false (record r { name_to = here })
tag_name page c here next r = r

-- before attribute name state, and after attribute value (quoted) state; with `closing`, self-closing start tag state
abbrev pub before_attribute_name : List ℕ → PageClass → ℕ → ℕ → Bool → Reading → Reading
before_attribute_name page class.White here next closing r = goes_to at.BeforeAttributeName r
before_attribute_name page class.Solidus here next closing r = goes_to at.SelfClosingStartTag r
before_attribute_name page class.GreaterThan here next closing r = tag_ended page next closing r
before_attribute_name page c here next closing r = attr_begun here r

-- the name of the attribute at hand ends here
abbrev pub name_ended : ℕ → Reading → Reading
name_ended here r = record r { attr = record r.attr { name_to = here } }

-- attribute name state
abbrev pub attribute_name : List ℕ → PageClass → ℕ → ℕ → Reading → Reading
attribute_name page class.White here next r = goes_to at.AfterAttributeName (name_ended here r)
attribute_name page class.EqualsSign here next r = goes_to at.BeforeAttributeValue (name_ended here r)
attribute_name page class.Solidus here next r = before_attribute_name page class.Solidus here next false (attr_ended (name_ended here r))
attribute_name page class.GreaterThan here next r = before_attribute_name page class.GreaterThan here next false (attr_ended (name_ended here r))
attribute_name page c here next r = r

-- after attribute name state
abbrev pub after_attribute_name : List ℕ → PageClass → ℕ → ℕ → Reading → Reading
after_attribute_name page class.White here next r = r
after_attribute_name page class.EqualsSign here next r = goes_to at.BeforeAttributeValue r
after_attribute_name page c here next r = before_attribute_name page c here next false (attr_ended r)

-- before attribute value state
abbrev pub value_begun : ℕ → PageQuoting → Reading → Reading
value_begun from q r = record r { attr = record r.attr { value_from = from }; at = at.AttributeValue q }

abbrev pub before_attribute_value : List ℕ → PageClass → ℕ → ℕ → Reading → Reading
before_attribute_value page class.White here next r = r
before_attribute_value page class.QuotationMark here next r = value_begun next quoting.Double r
before_attribute_value page class.Apostrophe here next r = value_begun next quoting.Single r
before_attribute_value page class.GreaterThan here next r = tag_ended page next false (attr_ended r)
before_attribute_value page c here next r = value_begun here quoting.Unquoted r

-- attribute value states
abbrev pub ends_attribute_value : PageQuoting → PageClass → Bool
ends_attribute_value quoting.Double class.QuotationMark = true
ends_attribute_value quoting.Single class.Apostrophe = true
ends_attribute_value quoting.Unquoted class.White = true
ends_attribute_value quoting.Unquoted class.GreaterThan = true
ends_attribute_value q c = false

abbrev pub after_value : List ℕ → PageQuoting → PageClass → ℕ → ℕ → Reading → Reading
after_value page quoting.Unquoted c here next r = before_attribute_name page c here next false r
after_value page q c here next r = goes_to at.AfterAttributeValue r

abbrev pub value_ended : ℕ → Reading → Reading
value_ended here r = record r { attr = record r.attr { value_to = here } }

abbrev pub attribute_value : List ℕ → PageQuoting → PageClass → ℕ → ℕ → Reading → Reading
attribute_value page q c here next r = if ends_attribute_value q c then after_value page q c here next (attr_ended (value_ended here r)) else r
