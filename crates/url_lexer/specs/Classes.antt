-- The classes of bytes in a URL: what the URL Standard leaves out (section 4.4, "remove all ASCII tab or newline" and "remove any leading C0
-- control or space"), what ends a scheme or the beginning (RFC 3986, section 3), and what percent triples consist of (section 2.1). The class
-- named `QueryMark` has `#` too: behind both marks the part is the query.
use Rattle.std.specs.Prelude.{ℕ, ◌==◌, ◌||◌, nat_le, if◌then◌else◌}
use Rattle.std.specs.Char.{is_ascii_hexdigit}
use Rattle.url_lexer.specs.declared.class.UrlClass.{UrlClass}
use Rattle.url_lexer.specs.declared.class.UrlClass.TheVariants as class

unfoldable pub url_class_of : ℕ → UrlClass
url_class_of b =
    if b == 9 || (b == 10 || b == 13) then class.TabOrNewline
    else (if nat_le b 32 then class.ControlOrSpace
    else (if b == 58 then class.Colon
    else (if b == 47 then class.Slash
    else (if b == 63 || b == 35 then class.QueryMark
    else (if b == 37 then class.Percent
    else (if is_ascii_hexdigit b then class.Hexadecimal
    else class.Other))))))
