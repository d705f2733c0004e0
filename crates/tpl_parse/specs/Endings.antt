-- What the end of a file makes of what was read.
use Rattle.std.specs.Prelude.{ℕ, nat_eq, Bool, if◌then◌else◌, List, [], ◌∷◌, ◌++◌, map, Option, Some, None, Result, Ok, Err}
use Rattle.std.specs.Cmp.Lexicographic.{pointwise}
use Rattle.std.specs.List.{list_any}
use Rattle.tpl_build.specs.Building.{def_of, found_of}
use Rattle.tpl_parse.specs.Actions.{ActionRefusal}
use Rattle.tpl_build.specs.declared.definition.Def.{Def}
use Rattle.tpl_build.specs.declared.definition.FoundDefinition.{FoundDefinition}
use Rattle.tpl_build.specs.declared.frame.OpenForm.{OpenForm}
use Rattle.tpl_build.specs.declared.builder.Builder.{Builder}
use Rattle.tpl_pipe.specs.declared.refused.ParseRefused.TheVariants as refused
use Rattle.tpl_symbol.specs.declared.line.TextEnd.{TextEnd}

-- whether a name is among these
abbrev pub among : List (List ℕ) → List ℕ → Bool
among names name = list_any (pointwise nat_eq name) names

-- where definitions of these names that are not blank came before, the line of the first that is the second such of its name
abbrev pub second_line : List (List ℕ) → List FoundDefinition → Option ℕ
second_line seen [] = None
second_line seen (f ∷ found) =
    if f.def.blank then second_line seen found else if among seen f.def.name then Some f.line else second_line (f.def.name ∷ seen) found

-- the definitions, and after them the file's own body, by the file's name
abbrev pub with_own : List ℕ → TextEnd → Builder → List FoundDefinition
with_own name end n = n.found ++ found_of (def_of name n.blank n.body end.before) 1 ∷ []

-- the definitions without the lines of their words
abbrev pub defs_of : List FoundDefinition → List Def
defs_of = map (λ f. f.def)

abbrev pub checked : Option ℕ → List FoundDefinition → Result (List Def) ActionRefusal
checked (Some line) found = Err (refused.MultipleDefinition, line)
checked None found = Ok (defs_of found)

-- at the end of a file, where these are open
abbrev pub finished_in : List OpenForm → List ℕ → TextEnd → Builder → Result (List Def) ActionRefusal
finished_in [] name end n = checked (second_line [] (with_own name end n)) (with_own name end n)
finished_in (_ ∷ _) name end n = Err (refused.UnclosedBlock, end.line)

-- the definitions of a file of this name that ends here
abbrev pub file_finished : List ℕ → TextEnd → Builder → Result (List Def) ActionRefusal
file_finished name end n = finished_in n.frames name end n
