-- What is promised of the text that is written, on every path that a place stands for.
use Rattle.std.specs.Prelude.{◌≡◌, ℕ, List, Ok}
use Rattle.place_core.specs.page.Events.{LexEvent}
use Rattle.place_core.specs.place.Membership.{IsIn}
use Rattle.place_core.specs.page.Paths.{read_node}
use Rattle.place_core.specs.place.Places.{IsValid}
use Rattle.place_core.specs.page.States.{LexState, Config, config}
use Rattle.place_core.specs.page.Tags.{ValueState, languages}
use Rattle.place_core.specs.declared.place.Place.{Place}
use Rattle.html_step.specs.Steps.{after_text}
use Rattle.text_norm.specs.Scanned.{written_at}
use Rattle.text_norm.specs.Standing.{TextStands, page}
use Rattle.text_norm.specs.Written.{written}

-- For a text that is accepted the same is written on every path that the place stands for.
abbrev pub WrittenOnPaths : Type 0
WrittenOnPaths = (bytes : List ℕ) (p q : Place) (s : LexState ValueState) → IsValid p → IsIn p s → after_text bytes p ≡ Ok q
    → written languages bytes s ≡ written_at bytes p

-- What is written keeps the shape. Where a page's reading stands for a path before the text, it stands for it after what is written: the
-- place after the text stands for the path's state, and the page has told the same.
abbrev pub KeepsShape : Type 0
KeepsShape = (bytes : List ℕ) (p q : Place) (s : LexState ValueState) (t : List LexEvent) (d : Config ValueState) → IsValid p → IsIn p s
    → after_text bytes p ≡ Ok q → TextStands languages s t d
    → (let c = read_node languages bytes (config s t) in IsIn q c.at × TextStands languages c.at c.emitted (page languages (written_at bytes p) d))
