-- The classes of bytes that the reading of a page tells apart: those of the lexer of HTML, without what only references ask for.
use Rattle.std.specs.Prelude.{ℕ}
use Rattle.place_core.specs.page.Classes.{class_of}
use Rattle.place_core.specs.page.Classes as page
use Rattle.page_lexer.specs.declared.class.PageClass.{PageClass}
use Rattle.page_lexer.specs.declared.class.PageClass.TheVariants as class

abbrev pub page_class_at : page.Class → PageClass
page_class_at page.White = class.White
page_class_at page.ExclamationMark = class.ExclamationMark
page_class_at page.QuotationMark = class.QuotationMark
page_class_at page.Apostrophe = class.Apostrophe
page_class_at page.HyphenMinus = class.HyphenMinus
page_class_at page.Solidus = class.Solidus
page_class_at page.LessThan = class.LessThan
page_class_at page.EqualsSign = class.EqualsSign
page_class_at page.GreaterThan = class.GreaterThan
page_class_at page.QuestionMark = class.QuestionMark
page_class_at (page.Letter l) = class.Letter
page_class_at _ = class.OtherByte

abbrev pub byte_class : ℕ → PageClass
byte_class b = page_class_at (class_of b)
