-- When a command has to end in a status, unless a device failed or memory ran out.
use Rattle.std.specs.Prelude.{◌≡◌, ℕ, List, Option, IfSome, ◌⊎◌}
use Rattle.page_io.specs.FolderContents.{FolderContents}
use Rattle.page_check.specs.Refusing.{FilesRefuse}
use Rattle.page_datum.specs.Execution.{Execution, done, faulted}
use Rattle.page_datum.specs.Reading.{IsNoDatum}
use Rattle.page_datum.specs.declared.fault.ExecFault.{ExecFault}
use Rattle.page_datum.specs.declared.refused.DataRefused.{DataRefused}
use Rattle.page_datum.specs.TemplateFiles.{files_of}
use Rattle.page_tool.specs.LoadedSets.{IsSetWith, IsSetWithout}
use Rattle.page_tool.specs.Output.{IsRendering, WhenKnown}
use Rattle.page_tool.specs.declared.status.Status.{Status}
use Rattle.page_tool.specs.declared.status.Status.TheVariants as status

-- this status, or a read fault where these counts rose, or out of memory
abbrev pub Ends : Status → Type 0 → Status → Type 0
Ends expected read_rose s =
    (s ≡ expected) ⊎ ((s ≡ status.ReadFault) × read_rose) ⊎ (s ≡ status.Memory)

-- refused files, an unknown root, an input that is no datum, an execution that meets a fault, and
-- else the whole page; and a read fault is the input's only where the files are a set that has the
-- root
pub record IsExact
    (held : Option FolderContents) (input : Option (List ℕ)) (dir root : List ℕ)
    (folder_rose input_rose out_rose : Type 0) (s : Status) : Type 0 where
  pub refused : IfSome held (λ h.
      FilesRefuse (files_of h dir).list → Ends status.SetRefused folder_rose s)
  pub unknown : IfSome held (λ h. IsSetWithout h dir root → Ends status.NoTemplate folder_rose s)
  pub no_input : WhenKnown held input (λ h i.
      IsSetWith h dir root → (why : DataRefused) → IsNoDatum why i
      → Ends status.DataRefused (folder_rose ⊎ input_rose) s)
  pub faults : WhenKnown held input (λ h i.
      IsSetWith h dir root → (e : Execution) → IsRendering h dir root i e
      → (fault : ExecFault) → e.ending ≡ faulted fault
      → Ends status.ExecFault (folder_rose ⊎ input_rose) s)
  pub complete : WhenKnown held input (λ h i.
      IsSetWith h dir root → (e : Execution) → IsRendering h dir root i e → e.ending ≡ done
      → Ends status.Ok (folder_rose ⊎ input_rose) s ⊎ ((s ≡ status.WriteFault) × out_rose))
  pub in_order : s ≡ status.ReadFault → IfSome held (λ h. folder_rose ⊎ IsSetWith h dir root)
