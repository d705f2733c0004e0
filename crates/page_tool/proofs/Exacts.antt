-- A status that has its cause excludes each other cause.
use Rattle.std.proofs.Common.{◌≡◌, ℕ, List, Option, None, Some, inl, inr, refl}
use Rattle.std.specs.Prelude.{IfSome, ◌⊎◌}
use Rattle.page_io.specs.FolderContents.{FolderContents}
use Rattle.page_check.specs.Refusing.{FilesRefuse}
use Rattle.page_datum.proofs.OneDatum.{no_cause}
use Rattle.page_datum.specs.Execution.{Execution, done, faulted}
use Rattle.page_datum.specs.Reading.{IsNoDatum}
use Rattle.page_datum.specs.declared.fault.ExecFault.{ExecFault}
use Rattle.page_datum.specs.declared.refused.DataRefused.{DataRefused}
use Rattle.page_tool.proofs.Renderings.{never_both}
use Rattle.page_tool.proofs.SetLaws.{accepted, apart, refuses}
use Rattle.page_tool.specs.Exact.{Ends, IsExact}
use Rattle.page_datum.specs.TemplateFiles.{files_of}
use Rattle.page_tool.specs.LoadedSets.{IsSetWith, IsSetWithout}
use Rattle.page_tool.specs.Output.{HasInput, IsRendering, WhenKnown, StatusCause}
use Rattle.page_tool.specs.declared.status.Status.{Status}
use Rattle.page_tool.specs.declared.status.Status.TheVariants as status

-- a read fault, in order: the folder failed, or the input did after a set with the root
abbrev ReadInOrder : Option FolderContents → List ℕ → List ℕ → Type 0 → Status → Type 0
ReadInOrder held dir root folder_rose s = s ≡ status.ReadFault → IfSome held (λ h. folder_rose ⊎ IsSetWith h dir root)

refused : (held : Option FolderContents) (input : Option (List ℕ)) (dir root : List ℕ) (f : Type 0) (s : Status) → StatusCause held input dir root s
    → ReadInOrder held dir root f s → IfSome held (λ h. FilesRefuse (files_of h dir).list → Ends status.SetRefused f s)
refused None input dir root f s c r = tt
refused (Some h) input dir root f status.Ok c r = λ why. absurd (accepted h dir c.0.0.set why)
refused (Some h) input dir root f status.SetRefused c r = λ why. inl refl
refused (Some h) input dir root f status.Usage c r = absurd c
refused (Some h) input dir root f status.NetFault c r = absurd c
refused (Some h) input dir root f status.SpawnFault c r = absurd c
refused (Some h) input dir root f status.SeatFault c r = absurd c
refused (Some h) input dir root f status.ExecFault c r = λ why. absurd (accepted h dir c.0.0.set why)
refused (Some h) input dir root f status.DataRefused c r = λ why. absurd (accepted h dir c.0.set why)
refused (Some h) input dir root f status.ReadFault c r =
    λ why. inr (inl (refl, elim (r refl) [ inl rose ↦ rose | inr has ↦ absurd (accepted h dir has.set why) ]))
refused (Some h) input dir root f status.WriteFault c r = λ why. absurd (accepted h dir c.0.0.set why)
refused (Some h) input dir root f status.NoTemplate c r = λ why. absurd (accepted h dir c.set why)
refused (Some h) input dir root f status.Memory c r = λ why. inr (inr refl)

unknown : (held : Option FolderContents) (input : Option (List ℕ)) (dir root : List ℕ) (f : Type 0) (s : Status) → StatusCause held input dir root s
    → ReadInOrder held dir root f s → IfSome held (λ h. IsSetWithout h dir root → Ends status.NoTemplate f s)
unknown None input dir root f s c r = tt
unknown (Some h) input dir root f status.Ok c r = λ lacks. apart h dir root c.0.0 lacks
unknown (Some h) input dir root f status.SetRefused c r = λ lacks. absurd (accepted h dir lacks.set (refuses h dir c.0 c.1))
unknown (Some h) input dir root f status.Usage c r = absurd c
unknown (Some h) input dir root f status.NetFault c r = absurd c
unknown (Some h) input dir root f status.SpawnFault c r = absurd c
unknown (Some h) input dir root f status.SeatFault c r = absurd c
unknown (Some h) input dir root f status.ExecFault c r = λ lacks. apart h dir root c.0.0 lacks
unknown (Some h) input dir root f status.DataRefused c r = λ lacks. apart h dir root c.0 lacks
unknown (Some h) input dir root f status.ReadFault c r =
    λ lacks. inr (inl (refl, elim (r refl) [ inl rose ↦ rose | inr has ↦ apart h dir root has lacks ]))
unknown (Some h) input dir root f status.WriteFault c r = λ lacks. apart h dir root c.0.0 lacks
unknown (Some h) input dir root f status.NoTemplate c r = λ lacks. inl refl
unknown (Some h) input dir root f status.Memory c r = λ lacks. inr (inr refl)

no_datum : {A : Type 0} (why : DataRefused) (x : List ℕ) → HasInput x → IsNoDatum why x → A
no_datum why x has w = absurd (no_cause why x has.0 has.1 w)

no_input : (held : Option FolderContents) (input : Option (List ℕ)) (dir root : List ℕ) (f i : Type 0) (s : Status)
    → StatusCause held input dir root s → (s ≡ status.ReadFault → f ⊎ i)
    → WhenKnown held input (λ h x. IsSetWith h dir root → (why : DataRefused) → IsNoDatum why x → Ends status.DataRefused (f ⊎ i) s)
no_input None input dir root f i s c r = tt
no_input (Some h) None dir root f i s c r = tt
no_input (Some h) (Some x) dir root f i status.Ok c r = λ has why w. no_datum why x c.0.1 w
no_input (Some h) (Some x) dir root f i status.SetRefused c r = λ has why w. absurd (accepted h dir has.set (refuses h dir c.0 c.1))
no_input (Some h) (Some x) dir root f i status.Usage c r = absurd c
no_input (Some h) (Some x) dir root f i status.NetFault c r = absurd c
no_input (Some h) (Some x) dir root f i status.SpawnFault c r = absurd c
no_input (Some h) (Some x) dir root f i status.SeatFault c r = absurd c
no_input (Some h) (Some x) dir root f i status.ExecFault c r = λ has why w. no_datum why x c.0.1 w
no_input (Some h) (Some x) dir root f i status.DataRefused c r = λ has why w. inl refl
no_input (Some h) (Some x) dir root f i status.ReadFault c r = λ has why w. inr (inl (refl, r refl))
no_input (Some h) (Some x) dir root f i status.WriteFault c r = λ has why w. no_datum why x c.0.1 w
no_input (Some h) (Some x) dir root f i status.NoTemplate c r = λ has why w. apart h dir root has c
no_input (Some h) (Some x) dir root f i status.Memory c r = λ has why w. inr (inr refl)

has_input : (h : FolderContents) (dir root x : List ℕ) (e : Execution) → IsRendering h dir root x e → HasInput x
has_input h dir root x e is = (is.datum, is.read)

faults : (held : Option FolderContents) (input : Option (List ℕ)) (dir root : List ℕ) (f i : Type 0) (s : Status)
    → StatusCause held input dir root s → (s ≡ status.ReadFault → f ⊎ i)
    → WhenKnown held input (λ h x. IsSetWith h dir root → (e : Execution) → IsRendering h dir root x e
    → (fault : ExecFault) → e.ending ≡ faulted fault → Ends status.ExecFault (f ⊎ i) s)
faults None input dir root f i s c r = tt
faults (Some h) None dir root f i s c r = tt
faults (Some h) (Some x) dir root f i status.Ok c r = λ has e is fault meets. never_both h dir root x c.1.0 e fault c.1.1 c.1.2 is meets
faults (Some h) (Some x) dir root f i status.SetRefused c r =
    λ has e is fault meets. absurd (accepted h dir has.set (refuses h dir c.0 c.1))
faults (Some h) (Some x) dir root f i status.Usage c r = absurd c
faults (Some h) (Some x) dir root f i status.NetFault c r = absurd c
faults (Some h) (Some x) dir root f i status.SpawnFault c r = absurd c
faults (Some h) (Some x) dir root f i status.SeatFault c r = absurd c
faults (Some h) (Some x) dir root f i status.ExecFault c r = λ has e is fault meets. inl refl
faults (Some h) (Some x) dir root f i status.DataRefused c r =
    λ has e is fault meets. no_datum c.1.0 x (has_input h dir root x e is) c.1.1
faults (Some h) (Some x) dir root f i status.ReadFault c r = λ has e is fault meets. inr (inl (refl, r refl))
faults (Some h) (Some x) dir root f i status.WriteFault c r =
    λ has e is fault meets. never_both h dir root x c.1.0 e fault c.1.1 c.1.2 is meets
faults (Some h) (Some x) dir root f i status.NoTemplate c r = λ has e is fault meets. apart h dir root has c
faults (Some h) (Some x) dir root f i status.Memory c r = λ has e is fault meets. inr (inr refl)

complete : (held : Option FolderContents) (input : Option (List ℕ)) (dir root : List ℕ) (f i o : Type 0) (s : Status)
    → StatusCause held input dir root s → (s ≡ status.ReadFault → f ⊎ i) → (s ≡ status.WriteFault → o)
    → WhenKnown held input (λ h x. IsSetWith h dir root → (e : Execution) → IsRendering h dir root x e
    → e.ending ≡ done → Ends status.Ok (f ⊎ i) s ⊎ ((s ≡ status.WriteFault) × o))
complete None input dir root f i o s c r w = tt
complete (Some h) None dir root f i o s c r w = tt
complete (Some h) (Some x) dir root f i o status.Ok c r w = λ has e is ends. inl (inl refl)
complete (Some h) (Some x) dir root f i o status.SetRefused c r w = λ has e is ends. absurd (accepted h dir has.set (refuses h dir c.0 c.1))
complete (Some h) (Some x) dir root f i o status.Usage c r w = absurd c
complete (Some h) (Some x) dir root f i o status.NetFault c r w = absurd c
complete (Some h) (Some x) dir root f i o status.SpawnFault c r w = absurd c
complete (Some h) (Some x) dir root f i o status.SeatFault c r w = absurd c
complete (Some h) (Some x) dir root f i o status.ExecFault c r w =
    λ has e is ends. never_both h dir root x e c.1.0 c.1.1 is ends c.1.2 c.1.3
complete (Some h) (Some x) dir root f i o status.DataRefused c r w = λ has e is ends. no_datum c.1.0 x (has_input h dir root x e is) c.1.1
complete (Some h) (Some x) dir root f i o status.ReadFault c r w = λ has e is ends. inl (inr (inl (refl, r refl)))
complete (Some h) (Some x) dir root f i o status.WriteFault c r w = λ has e is ends. inr (refl, w refl)
complete (Some h) (Some x) dir root f i o status.NoTemplate c r w = λ has e is ends. apart h dir root has c
complete (Some h) (Some x) dir root f i o status.Memory c r w = λ has e is ends. inl (inr (inr refl))

pub exact : (held : Option FolderContents) (input : Option (List ℕ)) (dir root : List ℕ) (f i o : Type 0) (s : Status)
    → StatusCause held input dir root s → (s ≡ status.ReadFault → f ⊎ i) → ReadInOrder held dir root f s → (s ≡ status.WriteFault → o)
    → IsExact held input dir root f i o s
exact held input dir root f i o s c r q w = record {
  refused = refused held input dir root f s c q;
  unknown = unknown held input dir root f s c q;
  no_input = no_input held input dir root f i s c r;
  faults = faults held input dir root f i s c r;
  complete = complete held input dir root f i o s c r w;
  in_order = q;
}
