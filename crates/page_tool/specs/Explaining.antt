-- What `explain DIR NAME` writes, and why it stops.
use Rattle.std.specs.Prelude.{◌≡◌, ◌⊎◌, ℕ, List, Option, IfSome, Result, Ok, Err, ⊤}
use Rattle.page_check.specs.CheckedSets.{CheckedData, IsRootText}
use Rattle.page_check.specs.Refusing.{FilesRefuse}
use Rattle.page_io.specs.FolderContents.{FolderContents}
use Rattle.page_tool.specs.Checking.{CheckCause, CheckLines}
use Rattle.page_tool.specs.Exact.{Ends}
use Rattle.page_datum.specs.TemplateFiles.{files_of}
use Rattle.page_tool.specs.Lines.{stop_text}
use Rattle.page_tool.specs.LoadedSets.{IsLoadedSetOf, IsSetRefusedFor, IsSetWith, IsSetWithout}
use Rattle.page_tool.specs.SetTexts.{TextOutput, WritesText, WritesTextPart}
use Rattle.page_tool.specs.declared.status.Status.{Status}
use Rattle.page_tool.specs.declared.status.Status.TheVariants as status
use Rattle.page_tool.specs.declared.stop.CommandStop.{CommandStop}
use Rattle.page_tool.specs.declared.stop.CommandStop.TheVariants as stop

-- what there is to say of a root of the set that the files of a directory are
pub record IsExplanation (held : FolderContents) (dir root : List ℕ) (text : List ℕ) : Type 0 where
  pub set : CheckedData
  pub made : IsLoadedSetOf held dir set
  pub known : IsRootText set root text

-- how explaining answers
abbrev pub ExplainAnswers : Option FolderContents → List ℕ → List ℕ → Option (List ℕ) → Option (List ℕ)
    → Result ⊤ CommandStop → Type 0
ExplainAnswers held dir root old new (Ok _) =
    WritesText held (λ h. IsExplanation h dir root) old new
ExplainAnswers held dir root old new (Err stop.Write) =
    WritesTextPart held (λ h. IsExplanation h dir root) old new
ExplainAnswers held dir root old new (Err (stop.Set why)) =
    (new ≡ old) × IsSetRefusedFor held dir why
ExplainAnswers held dir root old new (Err stop.NoTemplate) =
    (new ≡ old) × IfSome held (λ h. IsSetWithout h dir root)
ExplainAnswers held dir root old new (Err stop.Read) = new ≡ old
ExplainAnswers held dir root old new (Err stop.Memory) = new ≡ old
ExplainAnswers held dir root old new (Err _) = ⊥

-- what the output has got at each status
abbrev pub ExplainOutput : Option FolderContents → List ℕ → List ℕ → Option (List ℕ) → Option (List ℕ)
    → Status → Type 0
ExplainOutput held dir root = TextOutput held (λ h. IsExplanation h dir root)

-- why explaining ends in each status
abbrev pub ExplainCause : Option FolderContents → List ℕ → List ℕ → Status → Type 0
ExplainCause held dir root status.Ok = IfSome held (λ h. IsSetWith h dir root)
ExplainCause held dir root status.WriteFault = IfSome held (λ h. IsSetWith h dir root)
ExplainCause held dir root status.NoTemplate = IfSome held (λ h. IsSetWithout h dir root)
ExplainCause held dir root s = CheckCause held dir s

-- which causes lead to which status, where the folder or the output failed in this call: refused
-- files, an unknown root, and else the whole text; and a read fault is the folder's
pub record ExplainExact
    (held : Option FolderContents) (dir root : List ℕ)
    (folder_rose out_rose : Type 0) (s : Status) : Type 0 where
  pub refused : IfSome held (λ h.
      FilesRefuse (files_of h dir).list → Ends status.SetRefused folder_rose s)
  pub unknown : IfSome held (λ h.
      IsSetWithout h dir root → Ends status.NoTemplate folder_rose s)
  pub complete : IfSome held (λ h.
      IsSetWith h dir root
      → Ends status.Ok folder_rose s ⊎ ((s ≡ status.WriteFault) × out_rose))
  pub read : s ≡ status.ReadFault → folder_rose

-- the lines for people at each status
abbrev pub ExplainLines : Option FolderContents → List ℕ → List ℕ → Status → List ℕ → Type 0
ExplainLines held dir root status.NoTemplate text = text ≡ stop_text stop.NoTemplate root
ExplainLines held dir root s text = CheckLines held dir s text
