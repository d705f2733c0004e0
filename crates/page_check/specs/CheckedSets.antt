-- Files that are checked: their templates, and the chart of their roots.
use Rattle.std.specs.Prelude.{◌≡◌, ◌≢◌, ◌≤◌, ◌<◌, ℕ, true, false, List, [], Option, Some, None, length, option_map}
use Rattle.page_check.specs.Definitions.{IsForestOf}
use Rattle.page_check.specs.Refusing.{max_names}
use Rattle.page_check.specs.Roots.{is_root, roots_of}
use Rattle.page_check.specs.declared.refused.MakeRefused.{MakeRefused}
use Rattle.page_check.specs.declared.refused.MakeRefused.TheVariants.{Memory}
use Rattle.page_check.specs.declared.root_start.RootStart.{RootStart}
use Rattle.page_datum.specs.declared.files.Files.{Files}
use Rattle.place_core.specs.declared.place.Place.TheVariants as place
use Rattle.place_explain.specs.Explaining.{Explains}
use Rattle.place_infer.specs.ChartViews.{ChartData}
use Rattle.place_infer.specs.Inferring.{IsChartOfSet}
use Rattle.place_chart.specs.Summaries.{pair_number}
use Rattle.tpl_tree.specs.Forests.{ForestData, number_named}

-- the files, the templates that stand, and the chart of the roots
pub record CheckedData : Type 0 where
  pub files : Files
  pub forest : ForestData
  pub chart : ChartData

-- The templates are those of the files, no more than there may be; there is a root; and the chart is that of the roots.
pub record IsChecked (c : CheckedData) : Type 0 where
  pub templates : IsForestOf c.files.list c.forest
  pub few : length c.forest ≤ max_names
  pub some : roots_of c.files.list ≢ []
  pub charted : IsChartOfSet c.forest (roots_of c.files.list) c.chart

-- a template that starts in this pair
abbrev pub root_start : ℕ → ℕ → RootStart
root_start template pair = record { template = template; pair = pair }

-- where a template starts: in the pair that enters it in text, if there is one
abbrev pub start_of_template : ChartData → ℕ → Option RootStart
start_of_template chart template = option_map (root_start template) (pair_number chart.summaries template place.Text)

-- A root starts here: it has this template, which starts in text at this pair of the chart.
pub record StartsAt (c : CheckedData) (root : List ℕ) (start : RootStart) : Type 0 where
  pub is : is_root c.files.list root ≡ true
  pub named : number_named root c.forest ≡ Some start.template
  pub starts : pair_number c.chart.summaries start.template place.Text ≡ Some start.pair
  pub within : start.pair < length c.chart.summaries

-- what there is to say of a root: of the pairs that it reaches from where it starts
pub record IsRootText (c : CheckedData) (root text : List ℕ) : Type 0 where
  pub start : RootStart
  pub starts : StartsAt c root start
  pub explains : Explains c.forest c.chart start.pair text

-- likewise, or that no root has the name
abbrev pub ExplainRootAnswers : CheckedData → List ℕ → Option (List ℕ) → Type 0
ExplainRootAnswers c root None = is_root c.files.list root ≡ false
ExplainRootAnswers c root (Some text) = IsRootText c root text

-- Where these files can be checked, they are refused for want of memory alone.
abbrev pub OnlyForMemory : Files → MakeRefused → Type 0
OnlyForMemory files why = (c : CheckedData) → IsChecked c → c.files ≡ files → why ≡ Memory
