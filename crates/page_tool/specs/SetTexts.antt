-- A text of the set of a directory that a command writes.
use Rattle.std.specs.Prelude.{◌≡◌, ℕ, List, Option, IfSome, Result, Ok, Err, ⊤}
use Rattle.std.specs.Io.KnownBytes.{Appends}
use Rattle.page_io.specs.FolderContents.{FolderContents}
use Rattle.page_io.specs.Whole.{AppendsPart}
use Rattle.page_tool.specs.declared.status.Status.{Status}
use Rattle.page_tool.specs.declared.status.Status.TheVariants as status
use Rattle.page_tool.specs.declared.stop.CommandStop.{CommandStop}
use Rattle.page_tool.specs.declared.stop.CommandStop.TheVariants as stop

-- all of such a text was written
abbrev pub WritesText : Option FolderContents → (FolderContents → List ℕ → Type 0) → Option (List ℕ)
    → Option (List ℕ) → Type 0
WritesText held IsText old new =
    IfSome held (λ h. (text : List ℕ) × IsText h text × Appends old new text)

-- a prefix of such a text was written
abbrev pub WritesTextPart : Option FolderContents → (FolderContents → List ℕ → Type 0) → Option (List ℕ)
    → Option (List ℕ) → Type 0
WritesTextPart held IsText old new =
    IfSome held (λ h. (text : List ℕ) × IsText h text × AppendsPart old new text)

-- what the output has got of it at each status
abbrev pub TextOutput : Option FolderContents → (FolderContents → List ℕ → Type 0) → Option (List ℕ)
    → Option (List ℕ) → Status → Type 0
TextOutput held IsText old new status.Ok = WritesText held IsText old new
TextOutput held IsText old new status.WriteFault = WritesTextPart held IsText old new
TextOutput held IsText old new _ = new ≡ old

-- how writing a text answers
abbrev pub WriteTextAnswers : List ℕ → Option (List ℕ) → Option (List ℕ) → Result ⊤ CommandStop → Type 0
WriteTextAnswers text old new (Ok _) = Appends old new text
WriteTextAnswers text old new (Err stop.Write) = AppendsPart old new text
WriteTextAnswers text old new (Err _) = ⊥
