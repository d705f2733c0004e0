-- Paths as they are printed, and in which order two of them are shown.
use Rattle.std.specs.Prelude.{◌≡◌, ℕ, false, codes, List, [], ◌∷◌, ◌++◌}
use Rattle.std.specs.Cmp.Lexicographic.{slice_cmp}
use Rattle.std.specs.Fmt.{decimal}
use Rattle.std.specs.Ordering.{is_gt, nat_cmp}
use Rattle.page_datum.specs.Legible.{legible}
use Rattle.place_show.specs.declared.showing.Choice.{Choice}
use Rattle.tpl_paths.specs.declared.choice.Way.{Way}
use Rattle.tpl_paths.specs.declared.choice.Way.TheVariants as choice

-- the word of a way
abbrev pub way_text : Way → List ℕ
way_text choice.Then = codes "then"
way_text choice.Else = codes "else"
way_text choice.Turn = codes "turn"
way_text choice.Done = codes "done"

-- a choice: its template's name, its line and its way, with colons between
abbrev pub choice_text : Choice → List ℕ
choice_text c = legible c.template ++ 58 ∷ (decimal c.line ++ 58 ∷ way_text c.way)

-- more choices, each after a blank
abbrev pub more_text : List Choice → List ℕ
more_text [] = []
more_text (c ∷ path) = 32 ∷ (choice_text c ++ more_text path)

-- a path: its choices with blanks between, and `start` where it has none
abbrev pub path_text : List Choice → List ℕ
path_text [] = codes "start"
path_text (c ∷ path) = choice_text c ++ more_text path

-- As it is printed, a path is not greater than another one, in byte order.
abbrev pub ComesFirst : List Choice → List Choice → Type 0
ComesFirst path other = is_gt (slice_cmp nat_cmp (path_text path) (path_text other)) ≡ false
