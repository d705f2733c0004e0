-- What each command promises of the status that it ends in.
use Rattle.std.specs.Prelude.{◌≡◌, ◌⊎◌, ℕ, Bool, true, false, List, Option, IfSome, ⊤}
use Rattle.std.specs.Io.KnownBytes.{IsAtEnd}
use Rattle.page_check.specs.WithoutErrors.{HaveNoError}
use Rattle.page_io.specs.FolderContents.{FolderContents}
use Rattle.page_tool.specs.Checking.{CheckCause, CheckExact, CheckLines, CheckOutput}
use Rattle.page_tool.specs.Devices.{Devices, IsUnread}
use Rattle.page_tool.specs.Exact.{IsExact}
use Rattle.page_tool.specs.Explaining.{ExplainCause, ExplainExact, ExplainLines, ExplainOutput}
use Rattle.page_datum.specs.TemplateFiles.{files_of}
use Rattle.page_tool.specs.Lines.{usage_text, StatusText}
use Rattle.page_tool.specs.Listing.{TokensCause, TokensExact, TokensLines, TokensOutput}
use Rattle.page_tool.specs.LoadedSets.{IsSetWith}
use Rattle.page_tool.specs.Making.{MakeCause, MakeExact, MakeLines, MakeOutput}
use Rattle.page_tool.specs.Output.{StatusOutput, StatusCause, WritesSound}
use Rattle.page_tool.specs.Sections.{made_files}
use Rattle.page_tool.specs.Words.{Command, no_command, check, render, explain, tokens, make}
use Rattle.page_tool.specs.declared.status.Status.{Status}
use Rattle.page_tool.specs.declared.status.Status.TheVariants as status

-- what the output has got at this status
abbrev pub CommandWrites : Command → Devices → Status → Option (List ℕ) → Type 0
CommandWrites no_command before s taken = taken ≡ before.taken
CommandWrites (check dir) before s taken = CheckOutput before.held dir before.taken taken s
CommandWrites (render dir root) before s taken =
    StatusOutput before.held before.left dir root before.taken taken s
CommandWrites (explain dir root) before s taken =
    ExplainOutput before.held dir root before.taken taken s
CommandWrites tokens before s taken = TokensOutput before.left before.taken taken s
CommandWrites (make sections) before s taken = MakeOutput sections before.taken taken s

-- what was written is sound: of a page that was written, the structure is its template's, whatever
-- the data, and each value reads back
abbrev pub WritesSoundly : Command → Devices → Option (List ℕ) → Type 0
WritesSoundly no_command before taken = ⊤
WritesSoundly (check dir) before taken = ⊤
WritesSoundly (render dir root) before taken =
    WritesSound before.held before.left dir root before.taken taken
WritesSoundly (explain dir root) before taken = ⊤
WritesSoundly tokens before taken = ⊤
WritesSoundly (make sections) before taken = ⊤

-- how much of its input a command has read at this status
abbrev pub CommandReads : Command → Status → Option (List ℕ) → Type 0
CommandReads no_command s left = ⊤
CommandReads (check dir) s left = ⊤
CommandReads (render dir root) s left = s ≡ status.Ok → IsAtEnd left
CommandReads (explain dir root) s left = ⊤
CommandReads tokens s left = s ≡ status.Ok → IsAtEnd left
CommandReads (make sections) s left = ⊤

-- that no device is asked too early: words that are no command and `make` ask neither the folder nor
-- the input, `check` and `explain` ask no input, `tokens` asks no folder, and of the input of a page
-- nothing is read before the files are a set that has the root
abbrev pub IsInOrder : Command → Devices → Devices → Type 0
IsInOrder no_command before after =
    (after.folder_faults ≡ before.folder_faults)
    × IsUnread before.left before.input_faults after.left after.input_faults
IsInOrder (check dir) before after =
    IsUnread before.left before.input_faults after.left after.input_faults
IsInOrder (render dir root) before after =
    IsUnread before.left before.input_faults after.left after.input_faults
    ⊎ IfSome before.held (λ h. IsSetWith h dir root)
IsInOrder (explain dir root) before after =
    IsUnread before.left before.input_faults after.left after.input_faults
IsInOrder tokens before after = after.folder_faults ≡ before.folder_faults
IsInOrder (make sections) before after =
    (after.folder_faults ≡ before.folder_faults)
    × IsUnread before.left before.input_faults after.left after.input_faults

-- why a command ends in this status
abbrev pub IsCaused : Command → Devices → Status → Type 0
IsCaused no_command before s = s ≡ status.Usage
IsCaused (check dir) before s = CheckCause before.held dir s
IsCaused (render dir root) before s = StatusCause before.held before.left dir root s
IsCaused (explain dir root) before s = ExplainCause before.held dir root s
IsCaused tokens before s = TokensCause before.left s
IsCaused (make sections) before s = MakeCause sections s

-- which causes lead to which status, where the folder, the input or the output failed in this call
abbrev pub IsDecided : Command → Devices → Type 0 → Type 0 → Type 0 → Status → Type 0
IsDecided no_command before folder_rose input_rose output_rose s = ⊤
IsDecided (check dir) before folder_rose input_rose output_rose s =
    CheckExact before.held dir folder_rose output_rose s
IsDecided (render dir root) before folder_rose input_rose output_rose s =
    IsExact before.held before.left dir root folder_rose input_rose output_rose s
IsDecided (explain dir root) before folder_rose input_rose output_rose s =
    ExplainExact before.held dir root folder_rose output_rose s
IsDecided tokens before folder_rose input_rose output_rose s =
    TokensExact before.left input_rose output_rose s
IsDecided (make sections) before folder_rose input_rose output_rose s =
    MakeExact sections output_rose s

-- the lines for people at this status
abbrev pub Lines : Command → Devices → Status → List ℕ → Type 0
Lines no_command before s text = text ≡ usage_text
Lines (check dir) before s text = CheckLines before.held dir s text
Lines (render dir root) before s text = StatusText before.held before.left dir root s text
Lines (explain dir root) before s text = ExplainLines before.held dir root s text
Lines tokens before s text = TokensLines s text
Lines (make sections) before s text = MakeLines sections s text

-- whether the files of a command were accepted, by its status
abbrev pub is_accepted : Status → Bool
is_accepted status.Ok = true
is_accepted status.ExecFault = true
is_accepted status.DataRefused = true
is_accepted status.WriteFault = true
is_accepted status.NetFault = true
is_accepted status.SpawnFault = true
is_accepted status.SeatFault = true
is_accepted status.NoTemplate = true
is_accepted _ = false

-- that no error stands on the paths of the roots of a command's files, on one of them or on two
abbrev pub CommandHasNoError : Command → Option FolderContents → Type 0
CommandHasNoError no_command held = ⊤
CommandHasNoError (check dir) held = IfSome held (λ h. HaveNoError (files_of h dir).list)
CommandHasNoError (render dir root) held = IfSome held (λ h. HaveNoError (files_of h dir).list)
CommandHasNoError (explain dir root) held = IfSome held (λ h. HaveNoError (files_of h dir).list)
CommandHasNoError tokens held = ⊤
CommandHasNoError (make sections) held = HaveNoError (made_files sections).list

-- that the files of a command are refused only for a cause: not where they have templates and a root
-- within the limits, and no error stands on a path of a root, or on two
abbrev pub CommandNeedsCause : Command → Option FolderContents → Type 0
CommandNeedsCause no_command held = ⊤
CommandNeedsCause (check dir) held = IfSome held (λ h. HaveNoError (files_of h dir).list → ⊥)
CommandNeedsCause (render dir root) held = IfSome held (λ h. HaveNoError (files_of h dir).list → ⊥)
CommandNeedsCause (explain dir root) held = IfSome held (λ h. HaveNoError (files_of h dir).list → ⊥)
CommandNeedsCause tokens held = ⊤
CommandNeedsCause (make sections) held = HaveNoError (made_files sections).list → ⊥
