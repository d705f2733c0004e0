-- The classes of bytes that a style tells apart (CSS Syntax Level 3, section 4.2). A byte past ASCII is part of a word, whatever
-- character it is part of.
use Rattle.std.specs.Prelude.{ℕ, ◌==◌, ◌||◌, nat_le, if◌then◌else◌}
use Rattle.std.specs.Char.{is_ascii_alphanumeric}
use Rattle.css_lexer.specs.declared.class.StyleClass.{StyleClass}
use Rattle.css_lexer.specs.declared.class.StyleClass.TheVariants as class

unfoldable pub style_class : ℕ → StyleClass
style_class b =
    if b == 9 || b == 32 then class.Blank
    else (if b == 10 || (b == 12 || b == 13) then class.Newline
    else (if is_ascii_alphanumeric b || (b == 95 || (b == 45 || nat_le 128 b)) then class.WordByte
    else (if b == 92 then class.ReverseSolidus
    else (if b == 34 then class.QuotationMark
    else (if b == 39 then class.Apostrophe
    else (if b == 40 then class.LeftParenthesis
    else (if b == 41 then class.RightParenthesis
    else (if b == 47 then class.Solidus
    else (if b == 42 then class.Asterisk
    else (if b == 60 then class.LessThan
    else (if b == 91 || (b == 93 || (b == 123 || (b == 125 || (b == 59 || b == 64)))) then class.Punctuation
    else class.OtherByte)))))))))))
