-- The status of `make`, its causes and its lines.
use Rattle.std.proofs.Common.{◌≡◌, ◌≢◌, ℕ, List, [], Option, Result, Ok, Err, refl, sym, ap, ◌∙◌, subst, inl, inr}
use Rattle.std.specs.Io.KnownBytes.{Appends}
use Rattle.std.specs.Prelude.{◌⊎◌, ⊤}
use Rattle.page_check.proofs.NotRefused.{no_cause}
use Rattle.page_check.specs.Refusing.{FilesRefuse}
use Rattle.page_check.specs.declared.refused.MakeRefused.{MakeRefused}
use Rattle.page_datum.specs.Execution.{Execution, done, faulted}
use Rattle.page_datum.specs.declared.fault.ExecFault.{ExecFault}
use Rattle.page_datum.specs.declared.files.Files.{Files}
use Rattle.page_set.proofs.OneExecution.{one-execution}
use Rattle.page_tool.specs.Codes.{status_for}
use Rattle.page_tool.specs.Exact.{Ends}
use Rattle.page_tool.specs.Lines.{Says, stop_text}
use Rattle.page_tool.specs.Making.{IsMadePage, IsMadeRefused, IsMadeSet, IsMadeText, MakeAnswers, MakeCause, MakeExact, MakeLines}
use Rattle.page_tool.specs.Making.{MakeOutput, WritesMade}
use Rattle.page_tool.specs.Sections.{made_data, made_files, made_name}
use Rattle.page_tool.specs.SetTexts.{WriteTextAnswers}
use Rattle.page_tool.specs.declared.status.Status.{Status}
use Rattle.page_tool.specs.declared.status.Status.TheVariants as status
use Rattle.page_tool.specs.declared.stop.CommandStop.{CommandStop}
use Rattle.page_tool.specs.declared.stop.CommandStop.TheVariants as stop
use Rattle.page_tool.proofs.Statuses.{IsPlain, IsReported, reported, reported_plain}

-- a set has no cause to be refused
taken_up : (sections : ℕ) → IsMadeSet sections → FilesRefuse (made_files sections).list → ⊥
taken_up sections is why = no_cause is.0 is.1.checked (subst (λ (f : Files). FilesRefuse f.list) (sym is.1.files) why)

refusal : (sections : ℕ) (why : MakeRefused) → IsMadeRefused sections why → FilesRefuse (made_files sections).list
refusal sections why is = record { refused = why; known = is.known; cause = is.cause }

parted : (fault : ExecFault) → done ≡ faulted fault → ⊥
parted fault e = cc

-- the execution is one, so one that is done meets no fault
not_both : {A : Type 0} (sections : ℕ) (a b : Execution) (fault : ExecFault) → IsMadePage sections a → a.ending ≡ done → IsMadePage sections b
    → b.ending ≡ faulted fault → A
not_both sections a b fault x is y meets =
    let same : a ≡ b = one-execution (made_files sections) made_name made_data a b x y in
    absurd (parted fault (sym is ∙ ap (λ (e : Execution). e.ending) same ∙ meets))

-- a line was written of a set and its page
pub whole_text : (sections : ℕ) (old new : Option (List ℕ)) → WritesMade sections old new → (text : List ℕ) × IsMadeText sections text
whole_text sections old new w = (w.0, w.1)

-- writing a line of them writes the line, or a prefix of it
pub written : (sections : ℕ) (text : List ℕ) (old new : Option (List ℕ)) (r : Result ⊤ CommandStop) → IsMadeText sections text
    → WriteTextAnswers text old new r → MakeAnswers sections old new r
written sections text old new (Ok _) is w = (text, is, w)
written sections text old new (Err (stop.Set why)) is w = absurd w
written sections text old new (Err (stop.Fault fault)) is w = absurd w
written sections text old new (Err (stop.Data why)) is w = absurd w
written sections text old new (Err stop.Read) is w = absurd w
written sections text old new (Err stop.Write) is w = (text, is, w)
written sections text old new (Err stop.NoTemplate) is w = absurd w
written sections text old new (Err stop.Memory) is w = absurd w

own_output : (sections : ℕ) (old new : Option (List ℕ)) (why : CommandStop) → MakeAnswers sections old new (Err why)
    → MakeOutput sections old new (status_for why)
own_output sections old new (stop.Set why) a = a.0
own_output sections old new (stop.Fault fault) a = a.0
own_output sections old new (stop.Data why) a = absurd a
own_output sections old new stop.Read a = absurd a
own_output sections old new stop.Write a = a
own_output sections old new stop.NoTemplate a = absurd a
own_output sections old new stop.Memory a = a

unwritten : (sections : ℕ) (old new : Option (List ℕ)) (why : CommandStop) → MakeAnswers sections old new (Err why) → why ≢ stop.Write → new ≡ old
unwritten sections old new (stop.Set why) a not = a.0
unwritten sections old new (stop.Fault fault) a not = a.0
unwritten sections old new (stop.Data why) a not = absurd a
unwritten sections old new stop.Read a not = absurd a
unwritten sections old new stop.Write a not = absurd (not refl)
unwritten sections old new stop.NoTemplate a not = absurd a
unwritten sections old new stop.Memory a not = a

pub make_output : (sections : ℕ) (old new : Option (List ℕ)) (why : CommandStop) (s : Status) → MakeAnswers sections old new (Err why)
    → IsReported why s → IsPlain why s → MakeOutput sections old new s
make_output sections old new why s a r plain =
    reported_plain (MakeOutput sections old new) why s r plain (own_output sections old new why a) (unwritten sections old new why a)

own_cause : (sections : ℕ) (old new : Option (List ℕ)) (why : CommandStop) → MakeAnswers sections old new (Err why)
    → MakeCause sections (status_for why)
own_cause sections old new (stop.Set why) a = (why, a.1)
own_cause sections old new (stop.Fault fault) a = (fault, a.1)
own_cause sections old new (stop.Data why) a = absurd a
own_cause sections old new stop.Read a = absurd a
own_cause sections old new stop.Write a = (a.0, a.1)
own_cause sections old new stop.NoTemplate a = absurd a
own_cause sections old new stop.Memory a = tt

pub make_cause : (sections : ℕ) (old new : Option (List ℕ)) (why : CommandStop) (s : Status) → MakeAnswers sections old new (Err why)
    → IsReported why s → MakeCause sections s
make_cause sections old new why s a r = reported (MakeCause sections) why s r (own_cause sections old new why a) tt

-- no cause is a failed read
pub never_read : (sections : ℕ) (s : Status) → MakeCause sections s → s ≡ status.ReadFault → ⊥
never_read sections s c e = subst (MakeCause sections) e c

own_lines : (sections : ℕ) (old new : Option (List ℕ)) (why : CommandStop) → MakeAnswers sections old new (Err why)
    → MakeLines sections (status_for why) (stop_text why [])
own_lines sections old new (stop.Set why) a = (why, a.1, refl)
own_lines sections old new (stop.Fault fault) a = (fault, a.1, refl)
own_lines sections old new (stop.Data why) a = absurd a
own_lines sections old new stop.Read a = absurd a
own_lines sections old new stop.Write a = refl
own_lines sections old new stop.NoTemplate a = absurd a
own_lines sections old new stop.Memory a = refl

-- the lines of the status were written
abbrev SaysMake : ℕ → Status → Option (List ℕ) → Option (List ℕ) → Type 0
SaysMake sections s old new = (text : List ℕ) × MakeLines sections s text × Appends old new text

says : (sections : ℕ) (old new said known : Option (List ℕ)) (why : CommandStop) (s : Status) → MakeAnswers sections old new (Err why)
    → Says why [] s said known → SaysMake sections s said known
says sections old new said known why s a (inl e) =
    (stop_text why [], subst (λ (x : Status). MakeLines sections x (stop_text why [])) (sym e.0) (own_lines sections old new why a), e.1)
says sections old new said known why s a (inr e) =
    (stop_text stop.Memory [], subst (λ (x : Status). MakeLines sections x (stop_text stop.Memory [])) (sym e.0) refl, e.1)

pub make_says : (sections : ℕ) (old new said known : Option (List ℕ)) (why : CommandStop) (s : Status) (rose : Type 0)
    → MakeAnswers sections old new (Err why) → rose ⊎ Says why [] s said known → rose ⊎ SaysMake sections s said known
make_says sections old new said known why s rose a (inl r) = inl r
make_says sections old new said known why s rose a (inr e) = inr (says sections old new said known why s a e)

refused : (sections : ℕ) (s : Status) → MakeCause sections s → FilesRefuse (made_files sections).list → Ends status.SetRefused ⊥ s
refused sections status.Ok c why = absurd (taken_up sections (c.1.set, c.1.made) why)
refused sections status.SetRefused c why = inl refl
refused sections status.Usage c why = absurd c
refused sections status.NetFault c why = absurd c
refused sections status.SpawnFault c why = absurd c
refused sections status.SeatFault c why = absurd c
refused sections status.ExecFault c why = absurd (taken_up sections c.1.set why)
refused sections status.DataRefused c why = absurd c
refused sections status.ReadFault c why = absurd c
refused sections status.WriteFault c why = absurd (taken_up sections (c.1.set, c.1.made) why)
refused sections status.NoTemplate c why = absurd c
refused sections status.Memory c why = inr (inr refl)

faults : (sections : ℕ) (s : Status) → MakeCause sections s → IsMadeSet sections → (e : Execution) → IsMadePage sections e → (fault : ExecFault)
    → e.ending ≡ faulted fault → Ends status.ExecFault ⊥ s
faults sections status.Ok c is e page fault meets = not_both sections c.1.e e fault c.1.page c.1.ends page meets
faults sections status.SetRefused c is e page fault meets = absurd (taken_up sections is (refusal sections c.0 c.1))
faults sections status.Usage c is e page fault meets = absurd c
faults sections status.NetFault c is e page fault meets = absurd c
faults sections status.SpawnFault c is e page fault meets = absurd c
faults sections status.SeatFault c is e page fault meets = absurd c
faults sections status.ExecFault c is e page fault meets = inl refl
faults sections status.DataRefused c is e page fault meets = absurd c
faults sections status.ReadFault c is e page fault meets = absurd c
faults sections status.WriteFault c is e page fault meets = not_both sections c.1.e e fault c.1.page c.1.ends page meets
faults sections status.NoTemplate c is e page fault meets = absurd c
faults sections status.Memory c is e page fault meets = inr (inr refl)

complete : (sections : ℕ) (o : Type 0) (s : Status) → MakeCause sections s → (s ≡ status.WriteFault → o) → IsMadeSet sections → (e : Execution)
    → IsMadePage sections e → e.ending ≡ done → Ends status.Ok ⊥ s ⊎ ((s ≡ status.WriteFault) × o)
complete sections o status.Ok c w is e page ends = inl (inl refl)
complete sections o status.SetRefused c w is e page ends = absurd (taken_up sections is (refusal sections c.0 c.1))
complete sections o status.Usage c w is e page ends = absurd c
complete sections o status.NetFault c w is e page ends = absurd c
complete sections o status.SpawnFault c w is e page ends = absurd c
complete sections o status.SeatFault c w is e page ends = absurd c
complete sections o status.ExecFault c w is e page ends = not_both sections e c.1.e c.0 page ends c.1.page c.1.ends
complete sections o status.DataRefused c w is e page ends = absurd c
complete sections o status.ReadFault c w is e page ends = absurd c
complete sections o status.WriteFault c w is e page ends = inr (refl, w refl)
complete sections o status.NoTemplate c w is e page ends = absurd c
complete sections o status.Memory c w is e page ends = inl (inr (inr refl))

pub make_exact : (sections : ℕ) (o : Type 0) (s : Status) → MakeCause sections s → (s ≡ status.WriteFault → o) → MakeExact sections o s
make_exact sections o s c w = record {
  refused = refused sections s c;
  faults = faults sections s c;
  complete = complete sections o s c w;
}
