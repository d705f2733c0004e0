-- Worked examples of the definitions, by computing.
use Rattle.std.proofs.Common.{◌≡◌, List, [], ◌∷◌, codes, Some, None, refl, true, pos, negsuc}
use Rattle.std.specs.Fmt.{digits}
use Rattle.page_datum.specs.Data.{Data, null, truth, int, text, list, dict, no_items, item, no_entries, entry}
use Rattle.tpl_format.specs.Formats.{formatted, formatted_args}
use Rattle.tpl_format.specs.Prints.{printed_args, printed_line}

row : formatted (codes "%05d|%-4s|%x|%t|%%") (int (pos 42) ∷ text (codes "ab") ∷ int (pos 255) ∷ truth true ∷ []) ≡ Some (codes "00042|ab  |ff|true|%")
unfolding digits
row = refl

-- the sign stands before the zeros
plus : formatted (codes "%+05d%0-4d.") (int (pos 42) ∷ int (negsuc 6) ∷ []) ≡ Some (codes "+0042-7  .")
unfolding digits
plus = refl

-- each byte of a text is two hex digits
hex : formatted (codes "%x %x") (text (codes "ab\n") ∷ int (negsuc 254) ∷ []) ≡ Some (codes "61620a -ff")
unfolding digits
hex = refl

least : formatted (codes "%x %d") (int (negsuc 9223372036854775807) ∷ int (negsuc 9223372036854775807) ∷ []) ≡ Some (codes "-8000000000000000 -9223372036854775808")
unfolding digits
least = refl

-- a width counts characters: two bytes are one here
width : formatted (codes "%3s") (text (195 ∷ 169 ∷ []) ∷ []) ≡ Some (32 ∷ 32 ∷ 195 ∷ 169 ∷ [])
width = refl

nothing : formatted (codes "%v%5v") (null ∷ null ∷ []) ≡ Some (codes "<nil><nil>")
nothing = refl

-- a width past 1,000, a flag twice, a width with `%%`, and `%` at the end
wide : formatted (codes "%1001d") (int (pos 1) ∷ []) ≡ None
wide = refl

twice : formatted (codes "%--d") (int (pos 1) ∷ []) ≡ None
twice = refl

sign : formatted (codes "%5%") [] ≡ None
sign = refl

end : formatted (codes "a%") [] ≡ None
end = refl

-- a missing and a spare operand, one of another kind, `0` beside a text, and no format
missing : formatted (codes "%d") [] ≡ None
missing = refl

spare : formatted (codes "a") (null ∷ []) ≡ None
spare = refl

other : formatted (codes "%d") (text (codes "1") ∷ []) ≡ None
other = refl

zeros : formatted (codes "%0-5s") (text (codes "a") ∷ []) ≡ None
zeros = refl

no_format : formatted_args [] ≡ None
no_format = refl

abbrev some_data : List Data
some_data = int (pos 1) ∷ int (pos 2) ∷ text (codes "a") ∷ int (pos 3) ∷ list (item (int (pos 1)) (item null no_items)) ∷ dict (entry (codes "a") (text (codes "x")) (entry (codes "b") (int (pos 1)) no_entries)) ∷ []

printed : printed_args some_data ≡ codes "1 2a3 [1 <nil>] map[a:x b:1]"
unfolding digits
printed = refl

line : printed_line some_data ≡ codes "1 2 a 3 [1 <nil>] map[a:x b:1]\n"
unfolding digits
line = refl
