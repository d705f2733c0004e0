-- The template and the data of `make N`.
use Rattle.std.specs.Prelude.{ℕ, zero, suc, ◌+◌, ◌*◌, ◌/◌, ◌%◌, ◌==◌, if◌then◌else◌, codes, pos}
use Rattle.std.specs.Prelude.{List, [], ◌∷◌, ◌++◌}
use Rattle.page_datum.specs.Data.{Data, int, text, list, dict, no_items, item, no_entries, entry}
use Rattle.page_datum.specs.declared.files.Files.{Files}

-- the number that follows this one, by a linear congruence
abbrev pub number_following : ℕ → ℕ
number_following x = (x * 1103515245 + 12345) % 2147483648

-- the section that a number chooses: one of five kinds
abbrev pub section_of_kind : ℕ → List ℕ
section_of_kind kind =
    if kind == 0 then codes "<p>{{.v}}</p>"
    else if kind == 1 then codes "<a href=\"/s?q={{.v}}\">{{.v}}</a>"
    else if kind == 2 then codes "<ul>{{range .l}}<li title={{.}}>{{.}}</li>{{end}}</ul>"
    else if kind == 3 then codes "<script>var x = {{.v}};</script>"
    else codes "<style>p{width:{{.w}}px}</style>"

abbrev pub section_at : ℕ → List ℕ
section_at x = section_of_kind ((x / 65536) % 5)

-- so many sections, each with the end of its line, by the numbers that follow this one
abbrev pub sections_from : ℕ → ℕ → List ℕ
sections_from zero x = []
sections_from (suc left) x =
    section_at (number_following x) ++ 10 ∷ sections_from left (number_following x)

-- the name of the one file
abbrev pub made_name : List ℕ
made_name = codes "make.html"

-- the one file, which has so many sections, by the numbers that follow their number
abbrev pub made_files : ℕ → Files
made_files sections = record {
  dir = [];
  list = record { name = made_name; bytes = sections_from sections sections } ∷ [];
}

-- `{"l":["a b","c"],"v":"<&","w":7}`
abbrev pub made_data : Data
made_data = dict (entry (codes "l") (list (item (text (codes "a b")) (item (text (codes "c")) no_items)))
    (entry (codes "v") (text (codes "<&")) (entry (codes "w") (int (pos 7)) no_entries)))
