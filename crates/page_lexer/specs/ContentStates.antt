-- The content of an element that has no tags in it, up to the element's own end tag: what a byte does (HTML Standard, sections 13.2.5.2 to 13.2.5.4 and
-- 13.2.5.9 to 13.2.5.17). The escaped states of scripts (sections 13.2.5.18 to 13.2.5.31) are not followed: a `<!--` is told, and changes nothing.
use Rattle.std.specs.Prelude.{ℕ, Bool, true, false, ◌&&◌, List, if◌then◌else◌}
use Rattle.place_core.specs.page.Contents.{is_name_of, may_be_name_of}
use Rattle.place_core.specs.declared.element.Element.{Element}
use Rattle.page_lexer.specs.Parts.{part}
use Rattle.page_lexer.specs.Reading.{goes_to, content_ended}
use Rattle.page_lexer.specs.TagStates.{tag_name}
use Rattle.page_lexer.specs.declared.class.PageClass.{PageClass}
use Rattle.page_lexer.specs.declared.class.PageClass.TheVariants as class
use Rattle.page_lexer.specs.declared.state.Pending.{Pending}
use Rattle.page_lexer.specs.declared.state.Pending.TheVariants as pending
use Rattle.page_lexer.specs.declared.state.Reading.{Reading}
use Rattle.page_lexer.specs.declared.state.Where.TheVariants as at

-- where nothing is pending
abbrev pub content_byte : Element → PageClass → ℕ → Reading → Reading
content_byte e class.LessThan here r = record r { less = here; at = at.Content e pending.LessThan }
content_byte e c here r = goes_to (at.Content e pending.Nothing) r

-- after `<` (less-than sign states)
abbrev pub content_behind_less : Element → PageClass → ℕ → ℕ → Reading → Reading
content_behind_less e class.Solidus here next r = record r { name = next; at = at.Content e pending.Name }
content_behind_less e c here next r = content_byte e c here r

abbrev pub is_letter_class : PageClass → Bool
is_letter_class class.Letter = true
is_letter_class c = false

abbrev pub ends_name : PageClass → Bool
ends_name class.White = true
ends_name class.Solidus = true
ends_name class.GreaterThan = true
ends_name c = false

-- after `</` and letters (end tag open and end tag name states)
abbrev pub content_name : List ℕ → Element → PageClass → ℕ → ℕ → Reading → Reading
content_name page e c here next r =
    if is_letter_class c && may_be_name_of e (part page r.name next) then r
    else (if ends_name c && is_name_of e (part page r.name here) then tag_name page c here next (content_ended page e r)
    else content_byte e c here r)

abbrev pub content : List ℕ → Element → Pending → PageClass → ℕ → ℕ → Reading → Reading
content page e pending.Nothing c here next r = content_byte e c here r
content page e pending.LessThan c here next r = content_behind_less e c here next r
content page e pending.Name c here next r = content_name page e c here next r
