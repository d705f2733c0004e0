-- The status of `explain`, its causes and its lines.
use Rattle.std.proofs.Common.{◌≡◌, ◌≢◌, ℕ, List, Option, None, Some, Err, refl, sym, ap, ◌∙◌, subst, inl, inr}
use Rattle.std.specs.Io.KnownBytes.{Appends}
use Rattle.std.specs.Prelude.{IfSome, ◌⊎◌}
use Rattle.page_check.specs.Refusing.{FilesRefuse}
use Rattle.page_check.specs.Roots.{is_root}
use Rattle.page_datum.specs.declared.files.Files.{Files}
use Rattle.page_io.specs.FolderContents.{FolderContents}
use Rattle.page_tool.specs.Explaining.{ExplainAnswers, ExplainCause, ExplainExact, ExplainLines, ExplainOutput, IsExplanation}
use Rattle.page_tool.specs.Codes.{status_for}
use Rattle.page_tool.specs.Exact.{Ends}
use Rattle.page_datum.specs.TemplateFiles.{files_of}
use Rattle.page_tool.specs.Lines.{Says, stop_text}
use Rattle.page_tool.specs.LoadedSets.{IsSetWith, IsSetWithout}
use Rattle.page_tool.specs.SetTexts.{WritesText, WritesTextPart}
use Rattle.page_tool.specs.declared.status.Status.{Status}
use Rattle.page_tool.specs.declared.status.Status.TheVariants as status
use Rattle.page_tool.specs.declared.stop.CommandStop.{CommandStop}
use Rattle.page_tool.specs.declared.stop.CommandStop.TheVariants as stop
use Rattle.page_tool.proofs.SetLaws.{accepted, apart, refused_for, refuses}
use Rattle.page_tool.proofs.Statuses.{IsPlain, IsReported, reported, reported_plain}

explained_set : (h : FolderContents) (dir root text : List ℕ) → IsExplanation h dir root text → IsSetWith h dir root
explained_set h dir root text e =
    record { set = (e.set, e.made); known = ap (λ (f : Files). is_root f.list root) (sym e.made.files) ∙ e.known.starts.is }

part_set : (held : Option FolderContents) (dir root : List ℕ) (old new : Option (List ℕ))
    → WritesTextPart held (λ h. IsExplanation h dir root) old new → IfSome held (λ h. IsSetWith h dir root)
part_set None dir root old new w = tt
part_set (Some h) dir root old new w = explained_set h dir root w.0 w.1

-- a text was written of a root of a set
pub whole_set : (held : Option FolderContents) (dir root : List ℕ) (old new : Option (List ℕ))
    → WritesText held (λ h. IsExplanation h dir root) old new → IfSome held (λ h. IsSetWith h dir root)
whole_set None dir root old new w = tt
whole_set (Some h) dir root old new w = explained_set h dir root w.0 w.1

own_output : (held : Option FolderContents) (dir root : List ℕ) (old new : Option (List ℕ)) (why : CommandStop)
    → ExplainAnswers held dir root old new (Err why) → ExplainOutput held dir root old new (status_for why)
own_output held dir root old new (stop.Set why) a = a.0
own_output held dir root old new (stop.Fault fault) a = absurd a
own_output held dir root old new (stop.Data why) a = absurd a
own_output held dir root old new stop.Read a = a
own_output held dir root old new stop.Write a = a
own_output held dir root old new stop.NoTemplate a = a.0
own_output held dir root old new stop.Memory a = a

unwritten : (held : Option FolderContents) (dir root : List ℕ) (old new : Option (List ℕ)) (why : CommandStop)
    → ExplainAnswers held dir root old new (Err why) → why ≢ stop.Write → new ≡ old
unwritten held dir root old new (stop.Set why) a not = a.0
unwritten held dir root old new (stop.Fault fault) a not = absurd a
unwritten held dir root old new (stop.Data why) a not = absurd a
unwritten held dir root old new stop.Read a not = a
unwritten held dir root old new stop.Write a not = absurd (not refl)
unwritten held dir root old new stop.NoTemplate a not = a.0
unwritten held dir root old new stop.Memory a not = a

pub explain_output : (held : Option FolderContents) (dir root : List ℕ) (old new : Option (List ℕ)) (why : CommandStop) (s : Status)
    → ExplainAnswers held dir root old new (Err why) → IsReported why s → IsPlain why s → ExplainOutput held dir root old new s
explain_output held dir root old new why s a r plain =
    reported_plain (ExplainOutput held dir root old new) why s r plain (own_output held dir root old new why a)
    (unwritten held dir root old new why a)

own_cause : (held : Option FolderContents) (dir root : List ℕ) (old new : Option (List ℕ)) (why : CommandStop)
    → ExplainAnswers held dir root old new (Err why) → ExplainCause held dir root (status_for why)
own_cause held dir root old new (stop.Set why) a = refused_for held dir why a.1
own_cause held dir root old new (stop.Fault fault) a = absurd a
own_cause held dir root old new (stop.Data why) a = absurd a
own_cause held dir root old new stop.Read a = tt
own_cause held dir root old new stop.Write a = part_set held dir root old new a
own_cause held dir root old new stop.NoTemplate a = a.1
own_cause held dir root old new stop.Memory a = tt

pub explain_cause : (held : Option FolderContents) (dir root : List ℕ) (old new : Option (List ℕ)) (why : CommandStop) (s : Status)
    → ExplainAnswers held dir root old new (Err why) → IsReported why s → ExplainCause held dir root s
explain_cause held dir root old new why s a r = reported (ExplainCause held dir root) why s r (own_cause held dir root old new why a) tt

own_lines : (held : Option FolderContents) (dir root : List ℕ) (old new : Option (List ℕ)) (why : CommandStop)
    → ExplainAnswers held dir root old new (Err why) → ExplainLines held dir root (status_for why) (stop_text why root)
own_lines held dir root old new (stop.Set why) a = (why, a.1, refl)
own_lines held dir root old new (stop.Fault fault) a = absurd a
own_lines held dir root old new (stop.Data why) a = absurd a
own_lines held dir root old new stop.Read a = refl
own_lines held dir root old new stop.Write a = refl
own_lines held dir root old new stop.NoTemplate a = refl
own_lines held dir root old new stop.Memory a = refl

-- the lines of the status were written
abbrev SaysExplain : Option FolderContents → List ℕ → List ℕ → Status → Option (List ℕ)
    → Option (List ℕ) → Type 0
SaysExplain held dir root s old new =
    (text : List ℕ) × ExplainLines held dir root s text × Appends old new text

says : (held : Option FolderContents) (dir root : List ℕ) (old new said known : Option (List ℕ)) (why : CommandStop) (s : Status)
    → ExplainAnswers held dir root old new (Err why) → Says why root s said known → SaysExplain held dir root s said known
says held dir root old new said known why s a (inl e) =
    let said = own_lines held dir root old new why a in
    (stop_text why root, subst (λ (x : Status). ExplainLines held dir root x (stop_text why root)) (sym e.0) said, e.1)
says held dir root old new said known why s a (inr e) =
    (stop_text stop.Memory root, subst (λ (x : Status). ExplainLines held dir root x (stop_text stop.Memory root)) (sym e.0) refl, e.1)

pub explain_says : (held : Option FolderContents) (dir root : List ℕ) (old new said known : Option (List ℕ)) (why : CommandStop) (s : Status)
    (rose : Type 0) → ExplainAnswers held dir root old new (Err why) → rose ⊎ Says why root s said known
    → rose ⊎ SaysExplain held dir root s said known
explain_says held dir root old new said known why s rose a (inl r) = inl r
explain_says held dir root old new said known why s rose a (inr e) = inr (says held dir root old new said known why s a e)

refused : (held : Option FolderContents) (dir root : List ℕ) (f : Type 0) (s : Status) → ExplainCause held dir root s → (s ≡ status.ReadFault → f)
    → IfSome held (λ h. FilesRefuse (files_of h dir).list → Ends status.SetRefused f s)
refused None dir root f s c r = tt
refused (Some h) dir root f status.Ok c r = λ why. absurd (accepted h dir c.set why)
refused (Some h) dir root f status.SetRefused c r = λ why. inl refl
refused (Some h) dir root f status.Usage c r = absurd c
refused (Some h) dir root f status.NetFault c r = absurd c
refused (Some h) dir root f status.SpawnFault c r = absurd c
refused (Some h) dir root f status.SeatFault c r = absurd c
refused (Some h) dir root f status.ExecFault c r = absurd c
refused (Some h) dir root f status.DataRefused c r = absurd c
refused (Some h) dir root f status.ReadFault c r = λ why. inr (inl (refl, r refl))
refused (Some h) dir root f status.WriteFault c r = λ why. absurd (accepted h dir c.set why)
refused (Some h) dir root f status.NoTemplate c r = λ why. absurd (accepted h dir c.set why)
refused (Some h) dir root f status.Memory c r = λ why. inr (inr refl)

unknown : (held : Option FolderContents) (dir root : List ℕ) (f : Type 0) (s : Status) → ExplainCause held dir root s → (s ≡ status.ReadFault → f)
    → IfSome held (λ h. IsSetWithout h dir root → Ends status.NoTemplate f s)
unknown None dir root f s c r = tt
unknown (Some h) dir root f status.Ok c r = λ is. apart h dir root c is
unknown (Some h) dir root f status.SetRefused c r = λ is. absurd (accepted h dir is.set (refuses h dir c.0 c.1))
unknown (Some h) dir root f status.Usage c r = absurd c
unknown (Some h) dir root f status.NetFault c r = absurd c
unknown (Some h) dir root f status.SpawnFault c r = absurd c
unknown (Some h) dir root f status.SeatFault c r = absurd c
unknown (Some h) dir root f status.ExecFault c r = absurd c
unknown (Some h) dir root f status.DataRefused c r = absurd c
unknown (Some h) dir root f status.ReadFault c r = λ is. inr (inl (refl, r refl))
unknown (Some h) dir root f status.WriteFault c r = λ is. apart h dir root c is
unknown (Some h) dir root f status.NoTemplate c r = λ is. inl refl
unknown (Some h) dir root f status.Memory c r = λ is. inr (inr refl)

complete : (held : Option FolderContents) (dir root : List ℕ) (f o : Type 0) (s : Status) → ExplainCause held dir root s
    → (s ≡ status.ReadFault → f) → (s ≡ status.WriteFault → o)
    → IfSome held (λ h. IsSetWith h dir root → Ends status.Ok f s ⊎ ((s ≡ status.WriteFault) × o))
complete None dir root f o s c r w = tt
complete (Some h) dir root f o status.Ok c r w = λ is. inl (inl refl)
complete (Some h) dir root f o status.SetRefused c r w = λ is. absurd (accepted h dir is.set (refuses h dir c.0 c.1))
complete (Some h) dir root f o status.Usage c r w = absurd c
complete (Some h) dir root f o status.NetFault c r w = absurd c
complete (Some h) dir root f o status.SpawnFault c r w = absurd c
complete (Some h) dir root f o status.SeatFault c r w = absurd c
complete (Some h) dir root f o status.ExecFault c r w = absurd c
complete (Some h) dir root f o status.DataRefused c r w = absurd c
complete (Some h) dir root f o status.ReadFault c r w = λ is. inl (inr (inl (refl, r refl)))
complete (Some h) dir root f o status.WriteFault c r w = λ is. inr (refl, w refl)
complete (Some h) dir root f o status.NoTemplate c r w = λ is. apart h dir root is c
complete (Some h) dir root f o status.Memory c r w = λ is. inl (inr (inr refl))

pub explain_exact : (held : Option FolderContents) (dir root : List ℕ) (f o : Type 0) (s : Status) → ExplainCause held dir root s
    → (s ≡ status.ReadFault → f) → (s ≡ status.WriteFault → o) → ExplainExact held dir root f o s
explain_exact held dir root f o s c r w =
    record {
      refused = refused held dir root f s c r;
      unknown = unknown held dir root f s c r;
      complete = complete held dir root f o s c r w;
      read = r;
    }
