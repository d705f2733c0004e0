-- The status of `check`, its causes and its lines.
use Rattle.std.proofs.Common.{◌≡◌, ◌≢◌, ℕ, List, [], Option, None, Some, Err, refl, sym, subst, inl, inr}
use Rattle.std.specs.Io.KnownBytes.{Appends}
use Rattle.std.specs.Prelude.{IfSome, ◌⊎◌}
use Rattle.page_check.specs.Refusing.{FilesRefuse}
use Rattle.page_io.specs.FolderContents.{FolderContents}
use Rattle.page_tool.specs.Checking.{CheckAnswers, CheckCause, CheckExact, CheckLines, CheckOutput, IsSetText}
use Rattle.page_tool.specs.Codes.{status_for}
use Rattle.page_tool.specs.Exact.{Ends}
use Rattle.page_datum.specs.TemplateFiles.{files_of}
use Rattle.page_tool.specs.Lines.{Says, stop_text}
use Rattle.page_tool.specs.LoadedSets.{IsSet}
use Rattle.page_tool.specs.SetTexts.{WritesText, WritesTextPart}
use Rattle.page_tool.specs.declared.status.Status.{Status}
use Rattle.page_tool.specs.declared.status.Status.TheVariants as status
use Rattle.page_tool.specs.declared.stop.CommandStop.{CommandStop}
use Rattle.page_tool.specs.declared.stop.CommandStop.TheVariants as stop
use Rattle.page_tool.proofs.SetLaws.{accepted, refused_for, refuses}
use Rattle.page_tool.proofs.Statuses.{IsPlain, IsReported, reported, reported_plain}

part_set : (held : Option FolderContents) (dir : List ℕ) (old new : Option (List ℕ)) → WritesTextPart held (λ h. IsSetText h dir) old new
    → IfSome held (λ h. IsSet h dir)
part_set None dir old new w = tt
part_set (Some h) dir old new w = (w.1.set, w.1.made)

-- a line was written of a set
pub whole_set : (held : Option FolderContents) (dir : List ℕ) (old new : Option (List ℕ)) → WritesText held (λ h. IsSetText h dir) old new
    → IfSome held (λ h. IsSet h dir)
whole_set None dir old new w = tt
whole_set (Some h) dir old new w = (w.1.set, w.1.made)

own_output : (held : Option FolderContents) (dir : List ℕ) (old new : Option (List ℕ)) (why : CommandStop) → CheckAnswers held dir old new (Err why)
    → CheckOutput held dir old new (status_for why)
own_output held dir old new (stop.Set why) a = a.0
own_output held dir old new (stop.Fault fault) a = absurd a
own_output held dir old new (stop.Data why) a = absurd a
own_output held dir old new stop.Read a = a
own_output held dir old new stop.Write a = a
own_output held dir old new stop.NoTemplate a = absurd a
own_output held dir old new stop.Memory a = a

unwritten : (held : Option FolderContents) (dir : List ℕ) (old new : Option (List ℕ)) (why : CommandStop) → CheckAnswers held dir old new (Err why)
    → why ≢ stop.Write → new ≡ old
unwritten held dir old new (stop.Set why) a not = a.0
unwritten held dir old new (stop.Fault fault) a not = absurd a
unwritten held dir old new (stop.Data why) a not = absurd a
unwritten held dir old new stop.Read a not = a
unwritten held dir old new stop.Write a not = absurd (not refl)
unwritten held dir old new stop.NoTemplate a not = absurd a
unwritten held dir old new stop.Memory a not = a

pub check_output : (held : Option FolderContents) (dir : List ℕ) (old new : Option (List ℕ)) (why : CommandStop) (s : Status)
    → CheckAnswers held dir old new (Err why) → IsReported why s → IsPlain why s → CheckOutput held dir old new s
check_output held dir old new why s a r plain =
    reported_plain (CheckOutput held dir old new) why s r plain (own_output held dir old new why a) (unwritten held dir old new why a)

own_cause : (held : Option FolderContents) (dir : List ℕ) (old new : Option (List ℕ)) (why : CommandStop) → CheckAnswers held dir old new (Err why)
    → CheckCause held dir (status_for why)
own_cause held dir old new (stop.Set why) a = refused_for held dir why a.1
own_cause held dir old new (stop.Fault fault) a = absurd a
own_cause held dir old new (stop.Data why) a = absurd a
own_cause held dir old new stop.Read a = tt
own_cause held dir old new stop.Write a = part_set held dir old new a
own_cause held dir old new stop.NoTemplate a = absurd a
own_cause held dir old new stop.Memory a = tt

pub check_cause : (held : Option FolderContents) (dir : List ℕ) (old new : Option (List ℕ)) (why : CommandStop) (s : Status)
    → CheckAnswers held dir old new (Err why) → IsReported why s → CheckCause held dir s
check_cause held dir old new why s a r = reported (CheckCause held dir) why s r (own_cause held dir old new why a) tt

own_lines : (held : Option FolderContents) (dir : List ℕ) (old new : Option (List ℕ)) (why : CommandStop) → CheckAnswers held dir old new (Err why)
    → CheckLines held dir (status_for why) (stop_text why [])
own_lines held dir old new (stop.Set why) a = (why, a.1, refl)
own_lines held dir old new (stop.Fault fault) a = absurd a
own_lines held dir old new (stop.Data why) a = absurd a
own_lines held dir old new stop.Read a = refl
own_lines held dir old new stop.Write a = refl
own_lines held dir old new stop.NoTemplate a = absurd a
own_lines held dir old new stop.Memory a = refl

-- the lines of the status were written
abbrev SaysCheck : Option FolderContents → List ℕ → Status → Option (List ℕ) → Option (List ℕ) → Type 0
SaysCheck held dir s old new =
    (text : List ℕ) × CheckLines held dir s text × Appends old new text

says : (held : Option FolderContents) (dir : List ℕ) (old new said known : Option (List ℕ)) (why : CommandStop) (s : Status)
    → CheckAnswers held dir old new (Err why) → Says why [] s said known → SaysCheck held dir s said known
says held dir old new said known why s a (inl e) =
    (stop_text why [], subst (λ (x : Status). CheckLines held dir x (stop_text why [])) (sym e.0) (own_lines held dir old new why a), e.1)
says held dir old new said known why s a (inr e) =
    (stop_text stop.Memory [], subst (λ (x : Status). CheckLines held dir x (stop_text stop.Memory [])) (sym e.0) refl, e.1)

pub check_says : (held : Option FolderContents) (dir : List ℕ) (old new said known : Option (List ℕ)) (why : CommandStop) (s : Status) (rose : Type 0)
    → CheckAnswers held dir old new (Err why) → rose ⊎ Says why [] s said known
    → rose ⊎ SaysCheck held dir s said known
check_says held dir old new said known why s rose a (inl r) = inl r
check_says held dir old new said known why s rose a (inr e) = inr (says held dir old new said known why s a e)

refused : (held : Option FolderContents) (dir : List ℕ) (f : Type 0) (s : Status) → CheckCause held dir s → (s ≡ status.ReadFault → f)
    → IfSome held (λ h. FilesRefuse (files_of h dir).list → Ends status.SetRefused f s)
refused None dir f s c r = tt
refused (Some h) dir f status.Ok c r = λ why. absurd (accepted h dir c why)
refused (Some h) dir f status.SetRefused c r = λ why. inl refl
refused (Some h) dir f status.Usage c r = absurd c
refused (Some h) dir f status.NetFault c r = absurd c
refused (Some h) dir f status.SpawnFault c r = absurd c
refused (Some h) dir f status.SeatFault c r = absurd c
refused (Some h) dir f status.ExecFault c r = absurd c
refused (Some h) dir f status.DataRefused c r = absurd c
refused (Some h) dir f status.ReadFault c r = λ why. inr (inl (refl, r refl))
refused (Some h) dir f status.WriteFault c r = λ why. absurd (accepted h dir c why)
refused (Some h) dir f status.NoTemplate c r = absurd c
refused (Some h) dir f status.Memory c r = λ why. inr (inr refl)

complete : (held : Option FolderContents) (dir : List ℕ) (f o : Type 0) (s : Status) → CheckCause held dir s → (s ≡ status.ReadFault → f)
    → (s ≡ status.WriteFault → o)
    → IfSome held (λ h. IsSet h dir → Ends status.Ok f s ⊎ ((s ≡ status.WriteFault) × o))
complete None dir f o s c r w = tt
complete (Some h) dir f o status.Ok c r w = λ is. inl (inl refl)
complete (Some h) dir f o status.SetRefused c r w = λ is. absurd (accepted h dir is (refuses h dir c.0 c.1))
complete (Some h) dir f o status.Usage c r w = absurd c
complete (Some h) dir f o status.NetFault c r w = absurd c
complete (Some h) dir f o status.SpawnFault c r w = absurd c
complete (Some h) dir f o status.SeatFault c r w = absurd c
complete (Some h) dir f o status.ExecFault c r w = absurd c
complete (Some h) dir f o status.DataRefused c r w = absurd c
complete (Some h) dir f o status.ReadFault c r w = λ is. inl (inr (inl (refl, r refl)))
complete (Some h) dir f o status.WriteFault c r w = λ is. inr (refl, w refl)
complete (Some h) dir f o status.NoTemplate c r w = absurd c
complete (Some h) dir f o status.Memory c r w = λ is. inl (inr (inr refl))

pub check_exact : (held : Option FolderContents) (dir : List ℕ) (f o : Type 0) (s : Status) → CheckCause held dir s → (s ≡ status.ReadFault → f)
    → (s ≡ status.WriteFault → o) → CheckExact held dir f o s
check_exact held dir f o s c r w = record { refused = refused held dir f s c r; complete = complete held dir f o s c r w; read = r }
