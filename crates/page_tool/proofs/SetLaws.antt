-- A set has no cause to be refused.
use Rattle.std.proofs.Common.{ℕ, List, Option, None, Some, true≢false, sym, ◌∙◌, subst}
use Rattle.std.specs.Prelude.{IfSome}
use Rattle.page_check.specs.Refusing.{FilesRefuse}
use Rattle.page_check.specs.declared.refused.MakeRefused.{MakeRefused}
use Rattle.page_check.proofs.NotRefused.{no_cause}
use Rattle.page_datum.specs.declared.files.Files.{Files}
use Rattle.page_io.specs.FolderContents.{FolderContents}
use Rattle.page_datum.specs.TemplateFiles.{files_of}
use Rattle.page_tool.specs.LoadedSets.{IsRefusedFor, IsSet, IsSetRefusedFor, IsSetWith, IsSetWithout}

pub accepted : (h : FolderContents) (dir : List ℕ) → IsSet h dir → FilesRefuse (files_of h dir).list → ⊥
accepted h dir is why = no_cause is.0 is.1.checked (subst (λ (f : Files). FilesRefuse f.list) (sym is.1.files) why)

pub refuses : (h : FolderContents) (dir : List ℕ) (why : MakeRefused) → IsRefusedFor h dir why → FilesRefuse (files_of h dir).list
refuses h dir why is = record { refused = why; known = is.known; cause = is.cause }

pub refused_for : (held : Option FolderContents) (dir : List ℕ) (why : MakeRefused) → IsSetRefusedFor held dir why
    → IfSome held (λ h. (w : MakeRefused) × IsRefusedFor h dir w)
refused_for None dir why c = tt
refused_for (Some h) dir why c = (why, c.1)

-- a name is that of a root, or of none
pub apart : {A : Type 0} (h : FolderContents) (dir root : List ℕ) → IsSetWith h dir root → IsSetWithout h dir root → A
apart h dir root has lacks = absurd (true≢false (sym has.known ∙ lacks.unknown))
