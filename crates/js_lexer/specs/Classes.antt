-- The classes of bytes that scripts tell apart (ECMA-262, sections 12.2, 12.3, 12.7 and 12.8).
use Rattle.std.specs.Prelude.{ℕ, ◌==◌, ◌||◌, nat_le, Bool, if◌then◌else◌}
use Rattle.std.specs.Char.{is_ascii_alphabetic, is_ascii_digit}
use Rattle.js_lexer.specs.declared.class.ScriptClass.{ScriptClass}
use Rattle.js_lexer.specs.declared.class.ScriptClass.TheVariants as class

-- white space of one byte: tab, vertical tab, form feed, space (section 12.2); and ends of lines of one byte (section 12.3)
abbrev pub is_space : ℕ → Bool
is_space b = b == 9 || (b == 11 || (b == 12 || b == 32))

abbrev pub is_line_terminator : ℕ → Bool
is_line_terminator b = b == 10 || b == 13

-- Of the characters that are tokens by themselves, those after which a slash begins a regular expression: , = % & | ^ ? ~ ( : ; and no more. So it does
-- after { [ < > ! * which have classes of their own.
abbrev pub script_opens : ℕ → Bool
script_opens b =
    b == 44 || (b == 61 || (b == 37 || (b == 38 || (b == 124 || (b == 94 || (b == 63 || (b == 126 || (b == 40 || (b == 58 || b == 59)))))))))

-- A byte past ASCII belongs to a word, as letters do; the white space among them is told apart before. `Closes` is what is left: `)`, `@`, NUL and the
-- control bytes that are no white space and end no line, and DEL.
unfoldable pub class_of : ℕ → ScriptClass
class_of b =
    if is_space b then class.Space
    else (if is_line_terminator b then class.LineEnd
    else (if is_ascii_digit b then class.Digit
    else (if is_ascii_alphabetic b || (b == 95 || nat_le 128 b) then class.Letter
    else (if b == 36 then class.Dollar
    else (if b == 92 then class.Backslash
    else (if b == 34 then class.QuotationMark
    else (if b == 39 then class.Apostrophe
    else (if b == 96 then class.GraveAccent
    else (if b == 47 then class.Solidus
    else (if b == 42 then class.Asterisk
    else (if b == 43 then class.Plus
    else (if b == 45 then class.Minus
    else (if b == 60 then class.LessThan
    else (if b == 62 then class.GreaterThan
    else (if b == 35 then class.NumberSign
    else (if b == 33 then class.ExclamationMark
    else (if b == 123 then class.OpenBrace
    else (if b == 125 then class.CloseBrace
    else (if b == 91 then class.OpenBracket
    else (if b == 93 then class.CloseBracket
    else (if b == 46 then class.Dot
    else (if script_opens b then class.Opens
    else class.Closes))))))))))))))))))))))
