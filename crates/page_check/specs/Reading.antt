-- How reading files answers.
use Rattle.std.specs.Prelude.{◌≡◌, ◌≢◌, ◌≤◌, List, [], Result, Ok, Err, length}
use Rattle.page_check.specs.Definitions.{HasDefs, HaveDefs}
use Rattle.page_check.specs.Refusing.{IsFileRefused, IsFirstRefused, IsRefused, max_names}
use Rattle.page_check.specs.Roots.{roots_of}
use Rattle.page_check.specs.declared.refused.MakeRefused.{MakeRefused}
use Rattle.page_check.specs.declared.refused.MakeRefused.TheVariants as make
use Rattle.page_datum.specs.declared.files.NamedFile.{NamedFile}
use Rattle.place_infer.specs.ChartViews.{ChartData}
use Rattle.place_infer.specs.Inferring.{IsChartOfSet}
use Rattle.tpl_build.specs.Gathering.{all_defs}
use Rattle.tpl_build.specs.declared.definition.File.{File}
use Rattle.tpl_tree.specs.Forests.{ForestData}

-- refused so, or out of memory
abbrev pub IsMemoryOr : MakeRefused → MakeRefused → Type 0
IsMemoryOr why wanted = why ≢ make.Memory → why ≡ wanted

-- the definitions of a file, or why it is refused, or out of memory
abbrev pub ReadFileAnswers : NamedFile → Result File MakeRefused → Type 0
ReadFileAnswers file (Ok read) = HasDefs file read.defs
ReadFileAnswers file (Err why) = why ≢ make.Memory → IsFileRefused file why

-- the definitions of all files, or why the first that has a cause is refused, or out of memory
abbrev pub ReadFilesAnswers : List NamedFile → Result (List File) MakeRefused → Type 0
ReadFilesAnswers files (Ok read) = HaveDefs files (all_defs read)
ReadFilesAnswers files (Err why) = why ≢ make.Memory → IsFirstRefused files why

-- templates that are few enough have a chart of the roots
pub record HasChart (files : List NamedFile) (forest : ForestData) (chart : ChartData) : Type 0 where
  pub few : length forest ≤ max_names
  pub some : roots_of files ≢ []
  pub charted : IsChartOfSet forest (roots_of files) chart

-- the chart of the roots of files with these templates, or why they are refused
abbrev pub ChartRootsAnswers : List NamedFile → ForestData → Result ChartData MakeRefused → Type 0
ChartRootsAnswers files forest (Ok chart) = HasChart files forest chart
ChartRootsAnswers files forest (Err why) = IsRefused files why
