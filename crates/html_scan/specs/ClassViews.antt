-- The classes of bytes as the code has them.
use Rattle.place_core.specs.page.Classes.{LetterClass, HexadecimalLetter, LetterX, OtherLetter, Class, White, ExclamationMark, QuotationMark, NumberSign, Ampersand, Apostrophe, HyphenMinus, Solidus, Digit, Semicolon, LessThan, EqualsSign, GreaterThan, QuestionMark, GraveAccent, Letter, OtherByte}
use Rattle.html_scan.specs.declared.class.Class.{Class as ReadClass}
use Rattle.html_scan.specs.declared.class.Class.TheVariants as read
use Rattle.html_scan.specs.declared.class.Letter.{Letter as ReadLetter}
use Rattle.html_scan.specs.declared.class.Letter.TheVariants as letter

abbrev pub letter_at : ReadLetter → LetterClass
letter_at letter.Hexadecimal = HexadecimalLetter
letter_at letter.X = LetterX
letter_at letter.Other = OtherLetter

abbrev pub class_at : ReadClass → Class
class_at read.White = White
class_at read.ExclamationMark = ExclamationMark
class_at read.QuotationMark = QuotationMark
class_at read.NumberSign = NumberSign
class_at read.Ampersand = Ampersand
class_at read.Apostrophe = Apostrophe
class_at read.HyphenMinus = HyphenMinus
class_at read.Solidus = Solidus
class_at read.Digit = Digit
class_at read.Semicolon = Semicolon
class_at read.LessThan = LessThan
class_at read.EqualsSign = EqualsSign
class_at read.GreaterThan = GreaterThan
class_at read.QuestionMark = QuestionMark
class_at read.GraveAccent = GraveAccent
class_at (read.Letter l) = Letter (letter_at l)
class_at read.OtherByte = OtherByte
