-- What `check DIR` writes, and why it stops.
use Rattle.std.specs.Prelude.{◌≡◌, ◌⊎◌, ℕ, codes, length, List, [], ◌∷◌, ◌++◌, Option, IfSome}
use Rattle.std.specs.Prelude.{Result, Ok, Err, ⊤}
use Rattle.std.specs.Fmt.{decimal}
use Rattle.page_check.specs.CheckedSets.{CheckedData}
use Rattle.page_check.specs.RefusalTexts.{refusal_text}
use Rattle.page_check.specs.Refusing.{FilesRefuse}
use Rattle.page_check.specs.Roots.{roots_of}
use Rattle.page_check.specs.declared.refused.MakeRefused.{MakeRefused}
use Rattle.page_io.specs.FolderContents.{FolderContents}
use Rattle.page_tool.specs.Exact.{Ends}
use Rattle.page_datum.specs.TemplateFiles.{files_of}
use Rattle.page_tool.specs.Lines.{stop_text}
use Rattle.page_tool.specs.LoadedSets.{IsRefusedFor, IsSet, IsSetRefusedFor, IsLoadedSetOf}
use Rattle.page_tool.specs.SetTexts.{TextOutput, WritesText, WritesTextPart}
use Rattle.page_tool.specs.declared.status.Status.{Status}
use Rattle.page_tool.specs.declared.status.Status.TheVariants as status
use Rattle.page_tool.specs.declared.stop.CommandStop.{CommandStop}
use Rattle.page_tool.specs.declared.stop.CommandStop.TheVariants as stop

-- how many roots, templates and places there are
abbrev pub counts_text : ℕ → ℕ → ℕ → List ℕ
counts_text roots templates places =
    codes "ok " ++ (decimal roots ++ (codes " roots " ++ (decimal templates
    ++ (codes " templates " ++ (decimal places ++ (codes " places" ++ 10 ∷ []))))))

-- the line of a set: each pair of its chart is a template in one place
abbrev pub checked_set_text : CheckedData → List ℕ
checked_set_text set =
    counts_text (length (roots_of set.files.list)) (length set.forest) (length set.chart.summaries)

-- the line of the set that the files of a directory are
pub record IsSetText (held : FolderContents) (dir : List ℕ) (text : List ℕ) : Type 0 where
  pub set : CheckedData
  pub made : IsLoadedSetOf held dir set
  pub line : text ≡ checked_set_text set

-- how checking answers
abbrev pub CheckAnswers : Option FolderContents → List ℕ → Option (List ℕ) → Option (List ℕ)
    → Result ⊤ CommandStop → Type 0
CheckAnswers held dir old new (Ok _) = WritesText held (λ h. IsSetText h dir) old new
CheckAnswers held dir old new (Err stop.Write) =
    WritesTextPart held (λ h. IsSetText h dir) old new
CheckAnswers held dir old new (Err (stop.Set why)) =
    (new ≡ old) × IsSetRefusedFor held dir why
CheckAnswers held dir old new (Err stop.Read) = new ≡ old
CheckAnswers held dir old new (Err stop.Memory) = new ≡ old
CheckAnswers held dir old new (Err _) = ⊥

-- what the output has got at each status
abbrev pub CheckOutput : Option FolderContents → List ℕ → Option (List ℕ) → Option (List ℕ) → Status → Type 0
CheckOutput held dir = TextOutput held (λ h. IsSetText h dir)

-- why checking ends in each status
abbrev pub CheckCause : Option FolderContents → List ℕ → Status → Type 0
CheckCause held dir status.Ok = IfSome held (λ h. IsSet h dir)
CheckCause held dir status.WriteFault = IfSome held (λ h. IsSet h dir)
CheckCause held dir status.SetRefused =
    IfSome held (λ h. (why : MakeRefused) × IsRefusedFor h dir why)
CheckCause held dir status.ReadFault = ⊤
CheckCause held dir status.Memory = ⊤
CheckCause held dir _ = ⊥

-- which causes lead to which status, where the folder or the output failed in this call: refused
-- files, and else the whole line; and a read fault is the folder's
pub record CheckExact
    (held : Option FolderContents) (dir : List ℕ) (folder_rose out_rose : Type 0) (s : Status) : Type 0 where
  pub refused : IfSome held (λ h.
      FilesRefuse (files_of h dir).list → Ends status.SetRefused folder_rose s)
  pub complete : IfSome held (λ h.
      IsSet h dir → Ends status.Ok folder_rose s ⊎ ((s ≡ status.WriteFault) × out_rose))
  pub read : s ≡ status.ReadFault → folder_rose

-- the lines for people at each status
abbrev pub CheckLines : Option FolderContents → List ℕ → Status → List ℕ → Type 0
CheckLines held dir status.Ok text = text ≡ []
CheckLines held dir status.SetRefused text =
    (why : MakeRefused) × IsSetRefusedFor held dir why × (text ≡ refusal_text why)
CheckLines held dir status.ReadFault text = text ≡ stop_text stop.Read []
CheckLines held dir status.WriteFault text = text ≡ stop_text stop.Write []
CheckLines held dir status.Memory text = text ≡ stop_text stop.Memory []
CheckLines held dir _ text = ⊥
