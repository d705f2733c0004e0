-- What holds of the pages of every set of templates that has a chart.
use Rattle.std.specs.Prelude.{◌≡◌, ℕ, List, [], ◌∷◌, Some, Contains, ⊤}
use Rattle.page_datum.specs.Data.{Data}
use Rattle.page_path.specs.ByChart.{ChartMay, pair_pieces}
use Rattle.page_path.specs.Pages.{event_pieces, open_behind, page_bytes, page_parts, pieces_of, state_behind}
use Rattle.page_path.specs.Soundness.{IsDone, IsSound, path_read, path_symbols, texts_of}
use Rattle.place_flow.specs.Covering.{ChartByName, Pair, pair, sign_pairs}
use Rattle.place_core.specs.page.Html.{read, start}
use Rattle.place_core.specs.page.Shape.{PageReads, shape_of}
use Rattle.place_core.specs.page.States.{Config, LexState, Page}
use Rattle.place_core.specs.page.Tags.{ValueState}
use Rattle.place_core.specs.declared.place.Place.{Place}
use Rattle.place_core.specs.declared.place.Place.TheVariants as place
use Rattle.place_infer.specs.ChartViews.{ChartData}
use Rattle.place_infer.specs.Inferring.{IsChartOfSet}
use Rattle.place_chart.specs.Exact.{places_of}
use Rattle.text_norm.specs.FilledReadings.{AreSaidByTexts, read_filled}
use Rattle.tpl_events.specs.Events.{Emission}
use Rattle.tpl_exec.specs.Meaning.{meaning}
use Rattle.page_path.specs.Taken.{choices, move_sign}
use Rattle.page_path.specs.Textual.{AreTextual}
use Rattle.tpl_tree.specs.Forests.{ForestData, HasAscendingNames, number_named}

-- a root of a set that has a chart
pub record IsRootOf (forest : ForestData) (names : List (List ℕ)) (chart : ChartData) (root : List ℕ) : Type 0 where
  pub ascend : HasAscendingNames forest
  pub is : IsChartOfSet forest names chart
  pub among : Contains names root
  pub number : ℕ
  pub numbered : number_named root forest ≡ Some number

-- Where a value is written, by the root's chart, what is written of its texts is UTF-8, as all texts of data are; and one that is written as a datum
-- is one that JSON has, as all data are.
abbrev pub AreRootTexts : ForestData → ChartData → List ℕ → Data → Type 0
AreRootTexts forest chart root datum =
    AreTextual forest (places_of forest chart.summaries) (meaning forest root datum).events (pair root place.Text ∷ [])

-- The page of an execution that is done is sound, whatever the datum, whose written texts are UTF-8.
abbrev pub PagesAreSound : Type 0
PagesAreSound = (forest : ForestData) (names : List (List ℕ)) (chart : ChartData) (root : List ℕ) (datum : Data)
    → IsRootOf forest names chart root → IsDone (meaning forest root datum).end → AreRootTexts forest chart root datum
    → IsSound forest root datum (page_bytes (pieces_of forest root datum))

-- A page that is sound has, however it is read with a mark in the place of each value, the shape of the path that its execution takes.
abbrev pub SoundPagesHaveTheShapeOfTheirPath : Type 0
SoundPagesHaveTheShapeOfTheirPath = (forest : ForestData) (root : List ℕ) (datum : Data) (page : List ℕ)
    → (sound : IsSound forest root datum page) (end : Config ValueState)
    → PageReads (page_parts (pieces_of forest root datum)) start end
    → shape_of end ≡ shape_of (path_read sound.takes.path)

-- A page that is sound reads as its path does with the text of each value in its hole, where no hole of the path is in a data block, a URL, a
-- style or a script.
abbrev pub SoundPagesReadWithTheirTexts : Type 0
SoundPagesReadWithTheirTexts = (forest : ForestData) (root : List ℕ) (datum : Data) (page : List ℕ)
    → (sound : IsSound forest root datum page)
    → (let symbols = path_symbols sound.takes.path in
    AreSaidByTexts symbols start.at → read Page page start ≡ read_filled symbols (texts_of (meaning forest root datum).events) start)

-- Along events each may be given to a writer that goes by the chart, and what that writes, where these pairs are open, is what is written
-- by the path.
abbrev pub GoTogether : ForestData → ChartByName Place → List Emission → List (Pair Place) → List (List ℕ) → LexState ValueState → Type 0
GoTogether forest chart [] ps ts s = ⊤
GoTogether forest chart (g ∷ gs) ps ts s =
    ChartMay forest chart g.event ps × (pair_pieces forest chart g.event ps ≡ event_pieces forest g.event ts s)
    × GoTogether forest chart gs (sign_pairs forest chart (move_sign g.event) ps) (open_behind forest g.event ts)
    (state_behind forest g.event ts s)

-- So the chart gives what the page is, for every execution of a root, up to its end or its fault.
abbrev pub PagesGoByTheChart : Type 0
PagesGoByTheChart = (forest : ForestData) (names : List (List ℕ)) (chart : ChartData) (root : List ℕ) (datum : Data)
    → IsRootOf forest names chart root
    → GoTogether forest (places_of forest chart.summaries) (meaning forest root datum).events (pair root place.Text ∷ []) (root ∷ []) start.at

-- Two data with which the executions of a root come to their end and make the same choices have pages of one shape, whatever their values.
abbrev pub PagesOfOnePathHaveOneShape : Type 0
PagesOfOnePathHaveOneShape = (forest : ForestData) (names : List (List ℕ)) (chart : ChartData) (root : List ℕ) (a b : Data)
    → IsRootOf forest names chart root
    → IsDone (meaning forest root a).end → AreRootTexts forest chart root a
    → IsDone (meaning forest root b).end → AreRootTexts forest chart root b
    → choices (meaning forest root a).choices ≡ choices (meaning forest root b).choices
    → (c d : Config ValueState) → PageReads (page_parts (pieces_of forest root a)) start c → PageReads (page_parts (pieces_of forest root b)) start d
    → shape_of c ≡ shape_of d
