-- The status of a stop that was reported.
use Rattle.std.proofs.Common.{◌≡◌, ◌≢◌, ℕ, List, [], Option, None, Some, Err, append-nil, refl, sym, ◌∙◌, inl, inr, subst}
use Rattle.std.specs.Io.KnownBytes.{Appends}
use Rattle.std.specs.Prelude.{IfSome, ◌⊎◌}
use Rattle.page_io.specs.FolderContents.{FolderContents}
use Rattle.page_datum.specs.Reading.{IsNoDatum}
use Rattle.page_datum.specs.declared.fault.ExecFault.{ExecFault}
use Rattle.page_datum.specs.declared.refused.DataRefused.{DataRefused}
use Rattle.page_tool.specs.Codes.{status_for}
use Rattle.page_tool.specs.Lines.{Says, StatusText, stop_text}
use Rattle.page_tool.specs.LoadedSets.{IsSetWith}
use Rattle.page_tool.specs.Output.{Faults, FaultsWith, RenderCause, RenderOutput, StatusCause, StatusOutput}
use Rattle.page_tool.specs.declared.status.Status.{Status}
use Rattle.page_tool.specs.declared.status.Status.TheVariants as status
use Rattle.page_tool.specs.declared.stop.CommandStop.{CommandStop}
use Rattle.page_tool.specs.declared.stop.CommandStop.TheVariants as stop
use Rattle.page_tool.proofs.SetLaws.{refused_for}

-- a stop's own status, or out of memory
abbrev pub IsReported : CommandStop → Status → Type 0
IsReported why s = (s ≡ status_for why) ⊎ (s ≡ status.Memory)

-- what holds of a stop's own status and of out of memory holds of what was reported
pub reported : (P : Status → Type 0) (why : CommandStop) (s : Status) → IsReported why s → P (status_for why) → P status.Memory → P s
reported P why s (inl e) own memory = subst P (sym e) own
reported P why s (inr e) own memory = subst P (sym e) memory

-- a failed output has its own status
abbrev pub IsPlain : CommandStop → Status → Type 0
IsPlain why s = why ≡ stop.Write → s ≡ status.WriteFault

not_plain : (why : CommandStop) → IsPlain why status.Memory → why ≢ stop.Write
not_plain why plain is = let h : status.Memory ≡ status.WriteFault = plain is in cc

-- so what holds of out of memory is wanted for no failed output
pub reported_plain : (P : Status → Type 0) (why : CommandStop) (s : Status) → IsReported why s → IsPlain why s → P (status_for why)
    → (why ≢ stop.Write → P status.Memory) → P s
reported_plain P why s (inl e) plain own memory = subst P (sym e) own
reported_plain P why s (inr e) plain own memory = subst P (sym e) (memory (not_plain why (subst (λ (x : Status). IsPlain why x) e plain)))

some_fault : (held : Option FolderContents) (input : Option (List ℕ)) (dir root : List ℕ) (fault : ExecFault) → FaultsWith held input dir root fault
    → Faults held input dir root
some_fault None input dir root fault f = tt
some_fault (Some h) None dir root fault f = tt
some_fault (Some h) (Some i) dir root fault f = (f.0, fault, f.1, f.2)

own_output : (held : Option FolderContents) (input : Option (List ℕ)) (dir root : List ℕ) (old new : Option (List ℕ)) (why : CommandStop)
    → RenderOutput held input dir root old new (Err why) → StatusOutput held input dir root old new (status_for why)
own_output held input dir root old new (stop.Set why) o = o
own_output held input dir root old new (stop.Fault fault) o = (o.0, some_fault held input dir root fault o.1)
own_output held input dir root old new (stop.Data why) o = o
own_output held input dir root old new stop.Read o = o
own_output held input dir root old new stop.Write o = o
own_output held input dir root old new stop.NoTemplate o = o
own_output held input dir root old new stop.Memory o = o

unwritten : (held : Option FolderContents) (input : Option (List ℕ)) (dir root : List ℕ) (old new : Option (List ℕ)) (why : CommandStop)
    → RenderOutput held input dir root old new (Err why) → why ≢ stop.Write → new ≡ old
unwritten held input dir root old new (stop.Set why) o not = o
unwritten held input dir root old new (stop.Fault fault) o not = o.0
unwritten held input dir root old new (stop.Data why) o not = o
unwritten held input dir root old new stop.Read o not = o
unwritten held input dir root old new stop.Write o not = absurd (not refl)
unwritten held input dir root old new stop.NoTemplate o not = o
unwritten held input dir root old new stop.Memory o not = o

pub status_output : (held : Option FolderContents) (input : Option (List ℕ)) (dir root : List ℕ) (old new : Option (List ℕ)) (why : CommandStop)
    (s : Status) → RenderOutput held input dir root old new (Err why) → IsReported why s → IsPlain why s
    → StatusOutput held input dir root old new s
status_output held input dir root old new why s o r plain =
    reported_plain (StatusOutput held input dir root old new) why s r plain (own_output held input dir root old new why o)
    (unwritten held input dir root old new why o)

no_data : (input : Option (List ℕ)) (why : DataRefused) → IfSome input (IsNoDatum why)
    → IfSome input (λ i. (w : DataRefused) × IsNoDatum w i)
no_data None why c = tt
no_data (Some i) why c = (why, c)

own_cause : (held : Option FolderContents) (input : Option (List ℕ)) (dir root : List ℕ) (why : CommandStop) → RenderCause held input dir root (Err why)
    → StatusCause held input dir root (status_for why)
own_cause held input dir root (stop.Set why) c = refused_for held dir why c
own_cause held input dir root (stop.Fault fault) c = (c.0, some_fault held input dir root fault c.1)
own_cause held input dir root (stop.Data why) c = (c.0, no_data input why c.1.1)
own_cause held input dir root stop.Read c = tt
own_cause held input dir root stop.Write c = c
own_cause held input dir root stop.NoTemplate c = c
own_cause held input dir root stop.Memory c = tt

pub status_cause : (held : Option FolderContents) (input : Option (List ℕ)) (dir root : List ℕ) (why : CommandStop) (s : Status)
    → RenderCause held input dir root (Err why) → IsReported why s → StatusCause held input dir root s
status_cause held input dir root why s c r = reported (StatusCause held input dir root) why s r (own_cause held input dir root why c) tt

own_read : (why : CommandStop) → status_for why ≡ status.ReadFault → why ≡ stop.Read
own_read (stop.Set w) e = cc
own_read (stop.Fault fault) e = cc
own_read (stop.Data w) e = cc
own_read stop.Read e = refl
own_read stop.Write e = cc
own_read stop.NoTemplate e = cc
own_read stop.Memory e = cc

own_write : (why : CommandStop) → status_for why ≡ status.WriteFault → why ≡ stop.Write
own_write (stop.Set w) e = cc
own_write (stop.Fault fault) e = cc
own_write (stop.Data w) e = cc
own_write stop.Read e = cc
own_write stop.Write e = refl
own_write stop.NoTemplate e = cc
own_write stop.Memory e = cc

pub was_read : (why : CommandStop) (s : Status) → IsReported why s → s ≡ status.ReadFault → why ≡ stop.Read
was_read why s (inl e) is = own_read why (sym e ∙ is)
was_read why s (inr e) is = let h : status.Memory ≡ status.ReadFault = sym e ∙ is in cc

pub was_write : (why : CommandStop) (s : Status) → IsReported why s → s ≡ status.WriteFault → why ≡ stop.Write
was_write why s (inl e) is = own_write why (sym e ∙ is)
was_write why s (inr e) is = let h : status.Memory ≡ status.WriteFault = sym e ∙ is in cc

own_text : (held : Option FolderContents) (input : Option (List ℕ)) (dir name : List ℕ) (why : CommandStop) → RenderCause held input dir name (Err why)
    → StatusText held input dir name (status_for why) (stop_text why name)
own_text held input dir name (stop.Set why) c = (why, c, refl)
own_text held input dir name (stop.Fault fault) c = (fault, c.1, refl)
own_text held input dir name (stop.Data why) c = (why, c.1, refl)
own_text held input dir name stop.Read c = refl
own_text held input dir name stop.Write c = refl
own_text held input dir name stop.NoTemplate c = refl
own_text held input dir name stop.Memory c = refl

-- the lines of a command's status were written
abbrev SaysStatus : Option FolderContents → Option (List ℕ) → List ℕ → List ℕ → Status → Option (List ℕ)
    → Option (List ℕ) → Type 0
SaysStatus held input dir name s old new =
    (text : List ℕ) × StatusText held input dir name s text × Appends old new text

says : (held : Option FolderContents) (input : Option (List ℕ)) (dir name : List ℕ) (why : CommandStop) (s : Status) (old new : Option (List ℕ))
    → RenderCause held input dir name (Err why) → Says why name s old new → SaysStatus held input dir name s old new
says held input dir name why s old new c (inl e) =
    let said = own_text held input dir name why c in
    (stop_text why name, subst (λ (x : Status). StatusText held input dir name x (stop_text why name)) (sym e.0) said, e.1)
says held input dir name why s old new c (inr e) = (
  stop_text stop.Memory name,
  subst (λ (x : Status). StatusText held input dir name x (stop_text stop.Memory name)) (sym e.0) refl,
  e.1,
)

pub says_or : (held : Option FolderContents) (input : Option (List ℕ)) (dir name : List ℕ) (why : CommandStop) (s : Status) (old new : Option (List ℕ))
    (rose : Type 0) → RenderCause held input dir name (Err why) → rose ⊎ Says why name s old new
    → rose ⊎ SaysStatus held input dir name s old new
says_or held input dir name why s old new rose c (inl r) = inl r
says_or held input dir name why s old new rose c (inr e) = inr (says held input dir name why s old new c e)

pub ok_read : {A : Type 0} → status.Ok ≡ status.ReadFault → A
ok_read e = absurd (parted e)
  where
    parted : status.Ok ≡ status.ReadFault → ⊥
    parted h = cc

pub ok_write : {A : Type 0} → status.Ok ≡ status.WriteFault → A
ok_write e = absurd (parted e)
  where
    parted : status.Ok ≡ status.WriteFault → ⊥
    parted h = cc

-- the folder failed, or the input did
pub read_of_two : (f i x : Type 0) → f ⊎ (i × x) → f ⊎ i
read_of_two f i x (inl r) = inl r
read_of_two f i x (inr r) = inr r.0

-- the folder failed, or the input did after a set with the root
pub read_in_order : (held : Option FolderContents) (dir root : List ℕ) (f i : Type 0) → f ⊎ (i × IfSome held (λ h. IsSetWith h dir root))
    → IfSome held (λ h. f ⊎ IsSetWith h dir root)
read_in_order None dir root f i r = tt
read_in_order (Some h) dir root f i (inl r) = inl r
read_in_order (Some h) dir root f i (inr r) = inr r.1

-- no stop is reported as done
own_ok : (why : CommandStop) → status_for why ≡ status.Ok → ⊥
own_ok (stop.Set w) e = cc
own_ok (stop.Fault fault) e = cc
own_ok (stop.Data w) e = cc
own_ok stop.Read e = cc
own_ok stop.Write e = cc
own_ok stop.NoTemplate e = cc
own_ok stop.Memory e = cc

pub was_ok : (why : CommandStop) (s : Status) → IsReported why s → s ≡ status.Ok → ⊥
was_ok why s (inl e) is = own_ok why (sym e ∙ is)
was_ok why s (inr e) is = own_ok stop.Memory (sym e ∙ is)

-- where a command is done, nothing is said
pub said_nothing : (said : Option (List ℕ)) → Appends said said []
said_nothing None = tt
said_nothing (Some bytes) = sym (append-nil bytes)
