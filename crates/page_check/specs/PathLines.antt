-- The lines of the paths that have an error.
use Rattle.std.specs.Prelude.{ℕ, codes, List, [], ◌∷◌, ◌++◌}
use Rattle.html_step.specs.PlaceText.{place_text}
use Rattle.place_show.specs.PathTexts.{path_text}
use Rattle.place_show.specs.declared.showing.Seen.{Seen}

-- the line of a path: `  path PATH at PLACE`
abbrev pub seen_line : Seen → List ℕ
seen_line seen = codes "  path " ++ (path_text seen.path ++ (codes " at " ++ (place_text seen.at ++ 10 ∷ [])))

-- the lines of some paths
abbrev pub seen_lines : List Seen → List ℕ
seen_lines [] = []
seen_lines (seen ∷ paths) = seen_line seen ++ seen_lines paths
