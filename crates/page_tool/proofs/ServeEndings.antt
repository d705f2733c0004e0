-- How `serve` ends: each status has its cause, excludes each other cause, and has its lines.
use Rattle.std.proofs.Common.{◌≡◌, ◌≤◌, ℕ, true, List, [], ◌∷◌, Option, None, Some, Err, Ok, refl, sym, ap, ◌∙◌, subst, inl, inr}
use Rattle.std.specs.Io.KnownBytes.{Appends}
use Rattle.std.specs.Prelude.{IfSome, IsTrue, Result, ◌⊎◌, ⊤}
use Rattle.page_check.specs.CheckedSets.{CheckedData}
use Rattle.page_check.specs.Refusing.{FilesRefuse}
use Rattle.page_check.specs.WithoutErrors.{HaveNoError}
use Rattle.page_datum.specs.TemplateFiles.{files_of}
use Rattle.page_io.specs.FolderContents.{FolderContents}
use Rattle.page_io.specs.Causes.{Rose}
use Rattle.page_net.specs.Doors.{DoorTold}
use Rattle.page_net.specs.Nets.{NetTold}
use Rattle.page_serve.specs.ServeAnswers.{ServeAnswers, ServeCause}
use Rattle.page_serve.specs.declared.stop.ServeStop.{ServeStop}
use Rattle.page_serve.specs.declared.stop.ServeStop.TheVariants as serve
use Rattle.page_server.specs.Answering.{Answering}
use Rattle.page_tool.specs.Codes.{status_for}
use Rattle.page_tool.specs.Command.{is_accepted}
use Rattle.page_tool.specs.Devices.{Devices, IsUnread}
use Rattle.page_tool.specs.Exact.{Ends}
use Rattle.page_tool.specs.Lines.{Says, stop_text}
use Rattle.page_tool.specs.LoadedSets.{IsLoadedSetOf, IsSet}
use Rattle.page_tool.specs.ServeDevices.{ServeDevices}
use Rattle.page_tool.specs.ServeStatuses.{BeginServeAnswers, ServeEnds, ServeExact, ServeFailures, ServeLines, ServeStatusCause}
use Rattle.page_tool.specs.ServeStatuses.{serve_text, status_served}
use Rattle.page_tool.specs.ServeWords.{Service}
use Rattle.page_tool.specs.Serving.{IsFolderAsBefore, IsUnserved, RunsServe, ServeDoes, ServesSet, serve_failures, set_answers}
use Rattle.page_tool.specs.declared.status.Status.{Status}
use Rattle.page_tool.specs.declared.status.Status.TheVariants as status
use Rattle.page_tool.specs.declared.stop.CommandStop.{CommandStop}
use Rattle.page_tool.specs.declared.stop.CommandStop.TheVariants as stop
use Rattle.page_tool.proofs.AskedRuns.{refused_for as refused_free}
use Rattle.page_tool.proofs.ErrorFree.{sets_free}
use Rattle.page_tool.proofs.SetLaws.{accepted, refused_for, refuses}
use Rattle.page_tool.proofs.Statuses.{IsReported, reported}

-- where the status is that of a device, the device failed
abbrev pub Blames : ServeFailures → Status → Type 0
Blames rose status.ReadFault = rose.folder
Blames rose status.WriteFault = rose.output
Blames rose status.NetFault = rose.net
Blames rose status.SpawnFault = rose.spawner
Blames rose status.SeatFault = rose.seats
Blames rose _ = ⊤

own_blame : (held : Option FolderContents) (dir : List ℕ) (rose : ServeFailures) (why : CommandStop) → BeginServeAnswers held dir (Err why)
    → (why ≡ stop.Read → rose.folder) → Blames rose (status_for why)
own_blame held dir rose (stop.Set w) a f = tt
own_blame held dir rose (stop.Fault fault) a f = tt
own_blame held dir rose (stop.Data w) a f = tt
own_blame held dir rose stop.Read a f = f refl
own_blame held dir rose stop.Write a f = absurd a
own_blame held dir rose stop.NoTemplate a f = tt
own_blame held dir rose stop.Memory a f = tt

pub begin_blames : (held : Option FolderContents) (dir : List ℕ) (rose : ServeFailures) (why : CommandStop) (s : Status)
    → BeginServeAnswers held dir (Err why) → (why ≡ stop.Read → rose.folder) → IsReported why s → Blames rose s
begin_blames held dir rose why s a f r = reported (Blames rose) why s r (own_blame held dir rose why a f) tt

own_cause : (held : Option FolderContents) (dir : List ℕ) (why : CommandStop) → BeginServeAnswers held dir (Err why)
    → ServeStatusCause held dir (status_for why)
own_cause held dir (stop.Set w) a = refused_for held dir w a
own_cause held dir (stop.Fault fault) a = absurd a
own_cause held dir (stop.Data w) a = absurd a
own_cause held dir stop.Read a = tt
own_cause held dir stop.Write a = absurd a
own_cause held dir stop.NoTemplate a = absurd a
own_cause held dir stop.Memory a = tt

pub begin_cause : (held : Option FolderContents) (dir : List ℕ) (why : CommandStop) (s : Status) → BeginServeAnswers held dir (Err why)
    → IsReported why s → ServeStatusCause held dir s
begin_cause held dir why s a r = reported (ServeStatusCause held dir) why s r (own_cause held dir why a) tt

own_lines : (held : Option FolderContents) (dir : List ℕ) (why : CommandStop) → BeginServeAnswers held dir (Err why)
    → ServeLines held dir (status_for why) (stop_text why [])
own_lines held dir (stop.Set w) a = (w, a, refl)
own_lines held dir (stop.Fault fault) a = absurd a
own_lines held dir (stop.Data w) a = absurd a
own_lines held dir stop.Read a = refl
own_lines held dir stop.Write a = absurd a
own_lines held dir stop.NoTemplate a = absurd a
own_lines held dir stop.Memory a = refl

-- the lines of the status were written
abbrev pub SaysServe : Option FolderContents → List ℕ → Status → Option (List ℕ) → Option (List ℕ) → Type 0
SaysServe held dir s old new = (text : List ℕ) × ServeLines held dir s text × Appends old new text

says : (held : Option FolderContents) (dir : List ℕ) (why : CommandStop) (s : Status) (old new : Option (List ℕ))
    → BeginServeAnswers held dir (Err why) → Says why [] s old new → SaysServe held dir s old new
says held dir why s old new a (inl e) =
    (stop_text why [], subst (λ (x : Status). ServeLines held dir x (stop_text why [])) (sym e.0) (own_lines held dir why a), e.1)
says held dir why s old new a (inr e) =
    (stop_text stop.Memory [], subst (λ (x : Status). ServeLines held dir x (stop_text stop.Memory [])) (sym e.0) refl, e.1)

pub begin_says : (held : Option FolderContents) (dir : List ℕ) (why : CommandStop) (s : Status) (old new : Option (List ℕ)) (rose : Type 0)
    → BeginServeAnswers held dir (Err why) → rose ⊎ Says why [] s old new → rose ⊎ SaysServe held dir s old new
begin_says held dir why s old new rose a (inl r) = inl r
begin_says held dir why s old new rose a (inr e) = inr (says held dir why s old new a e)

-- the same once the set was served
served_blames : (rose : ServeFailures) (answer : Result ⊤ ServeStop) → ServeCause rose.net rose.spawner rose.seats rose.output answer
    → Blames rose (status_served answer)
served_blames rose (Ok u) c = tt
served_blames rose (Err serve.Net) c = c
served_blames rose (Err serve.Spawn) c = c
served_blames rose (Err serve.Seat) c = c
served_blames rose (Err serve.Write) c = c
served_blames rose (Err serve.Memory) c = tt

pub ended_blames : (rose : ServeFailures) (answer : Result ⊤ ServeStop) (s : Status) → s ≡ status_served answer
    → ServeCause rose.net rose.spawner rose.seats rose.output answer → Blames rose s
ended_blames rose answer s is c = subst (Blames rose) (sym is) (served_blames rose answer c)

loaded_set : (held : Option FolderContents) (dir : List ℕ) (set : CheckedData) → IfSome held (λ h. IsLoadedSetOf h dir set)
    → IfSome held (λ h. IsSet h dir)
loaded_set None dir set is = tt
loaded_set (Some h) dir set is = (set, is)

served_cause : (held : Option FolderContents) (dir : List ℕ) (answer : Result ⊤ ServeStop) → IfSome held (λ h. IsSet h dir)
    → ServeStatusCause held dir (status_served answer)
served_cause held dir (Ok u) is = is
served_cause held dir (Err serve.Net) is = is
served_cause held dir (Err serve.Spawn) is = is
served_cause held dir (Err serve.Seat) is = is
served_cause held dir (Err serve.Write) is = is
served_cause held dir (Err serve.Memory) is = tt

pub ended_cause : (held : Option FolderContents) (dir : List ℕ) (answer : Result ⊤ ServeStop) (s : Status) (set : CheckedData)
    → s ≡ status_served answer → IfSome held (λ h. IsLoadedSetOf h dir set) → ServeStatusCause held dir s
ended_cause held dir answer s set is made =
    subst (ServeStatusCause held dir) (sym is) (served_cause held dir answer (loaded_set held dir set made))

served_lines : (held : Option FolderContents) (dir : List ℕ) (answer : Result ⊤ ServeStop)
    → ServeLines held dir (status_served answer) (serve_text answer)
served_lines held dir (Ok u) = refl
served_lines held dir (Err serve.Net) = refl
served_lines held dir (Err serve.Spawn) = refl
served_lines held dir (Err serve.Seat) = refl
served_lines held dir (Err serve.Write) = refl
served_lines held dir (Err serve.Memory) = refl

pub served_says : (held : Option FolderContents) (dir : List ℕ) (answer : Result ⊤ ServeStop) (s : Status) (old new : Option (List ℕ)) (rose : Type 0)
    → s ≡ status_served answer → rose ⊎ Appends old new (serve_text answer) → rose ⊎ SaysServe held dir s old new
served_says held dir answer s old new rose is (inl r) = inl r
served_says held dir answer s old new rose is (inr e) =
    inr (serve_text answer, subst (λ (x : Status). ServeLines held dir x (serve_text answer)) (sym is) (served_lines held dir answer), e)

-- which status comes
refused : (held : Option FolderContents) (dir : List ℕ) (rose : ServeFailures) (s : Status) → ServeStatusCause held dir s → Blames rose s
    → IfSome held (λ h. FilesRefuse (files_of h dir).list → Ends status.SetRefused rose.folder s)
refused None dir rose s c b = tt
refused (Some h) dir rose status.Ok c b = λ why. absurd (accepted h dir c why)
refused (Some h) dir rose status.SetRefused c b = λ why. inl refl
refused (Some h) dir rose status.Usage c b = absurd c
refused (Some h) dir rose status.ExecFault c b = absurd c
refused (Some h) dir rose status.DataRefused c b = absurd c
refused (Some h) dir rose status.ReadFault c b = λ why. inr (inl (refl, b))
refused (Some h) dir rose status.WriteFault c b = λ why. absurd (accepted h dir c why)
refused (Some h) dir rose status.NetFault c b = λ why. absurd (accepted h dir c why)
refused (Some h) dir rose status.SpawnFault c b = λ why. absurd (accepted h dir c why)
refused (Some h) dir rose status.SeatFault c b = λ why. absurd (accepted h dir c why)
refused (Some h) dir rose status.NoTemplate c b = absurd c
refused (Some h) dir rose status.Memory c b = λ why. inr (inr refl)

complete : (held : Option FolderContents) (dir : List ℕ) (rose : ServeFailures) (s : Status) → ServeStatusCause held dir s → Blames rose s
    → IfSome held (λ h. IsSet h dir → ServeEnds rose s)
complete None dir rose s c b = tt
complete (Some h) dir rose status.Ok c b = λ is. tt
complete (Some h) dir rose status.SetRefused c b = λ is. absurd (accepted h dir is (refuses h dir c.0 c.1))
complete (Some h) dir rose status.Usage c b = absurd c
complete (Some h) dir rose status.ExecFault c b = absurd c
complete (Some h) dir rose status.DataRefused c b = absurd c
complete (Some h) dir rose status.ReadFault c b = λ is. b
complete (Some h) dir rose status.WriteFault c b = λ is. b
complete (Some h) dir rose status.NetFault c b = λ is. b
complete (Some h) dir rose status.SpawnFault c b = λ is. b
complete (Some h) dir rose status.SeatFault c b = λ is. b
complete (Some h) dir rose status.NoTemplate c b = absurd c
complete (Some h) dir rose status.Memory c b = λ is. tt

pub serve_exact : (held : Option FolderContents) (dir : List ℕ) (rose : ServeFailures) (s : Status) → ServeStatusCause held dir s → Blames rose s
    → ServeExact held dir rose s
serve_exact held dir rose s c b = record { refused = refused held dir rose s c b; complete = complete held dir rose s c b }

pub serve_free : (held : Option FolderContents) (dir : List ℕ) (s : Status) → ServeStatusCause held dir s → IsTrue (is_accepted s)
    → IfSome held (λ h. HaveNoError (files_of h dir).list)
serve_free held dir status.Ok c a = sets_free held dir c
serve_free held dir status.SetRefused c a = cc
serve_free held dir status.Usage c a = absurd c
serve_free held dir status.ExecFault c a = absurd c
serve_free held dir status.DataRefused c a = absurd c
serve_free held dir status.ReadFault c a = cc
serve_free held dir status.WriteFault c a = sets_free held dir c
serve_free held dir status.NetFault c a = sets_free held dir c
serve_free held dir status.SpawnFault c a = sets_free held dir c
serve_free held dir status.SeatFault c a = sets_free held dir c
serve_free held dir status.NoTemplate c a = absurd c
serve_free held dir status.Memory c a = cc

pub serve_needs : (held : Option FolderContents) (dir : List ℕ) (s : Status) → ServeStatusCause held dir s → s ≡ status.SetRefused
    → IfSome held (λ h. HaveNoError (files_of h dir).list → ⊥)
serve_needs held dir s c e = refused_free held dir (subst (λ (x : Status). ServeStatusCause held dir x) e c)

-- a folder that is the one with which the first set was made is as before
pub same_folder : {F : Type 0} (held : F → Option FolderContents) (faults : F → ℕ) (first begun last : F) → held begun ≡ held first
    → faults first ≤ faults begun → last ≡ begun → (held last ≡ held first) × (faults first ≤ faults last)
same_folder {F = F} held faults first begun last kept later same =
    (ap held same ∙ kept, subst (λ (f : F). faults first ≤ faults f) (sym same) later)

-- what was done
module _ {D L : Type 0} (told : D → Option (DoorTold L)) (door_faults : D → ℕ) (left taken : L → Option (List ℕ)) (link_faults : L → ℕ) where
  own_does : (service : Service) (held : Option FolderContents) (before after : Devices) (b a : ServeDevices D) (why : CommandStop)
      → BeginServeAnswers held service.dir (Err why) → IsUnserved before after b a
      → ServeDoes told door_faults left taken link_faults service before after b a (status_for why)
  own_does service held before after b a (stop.Set w) is u = u
  own_does service held before after b a (stop.Fault fault) is u = u
  own_does service held before after b a (stop.Data w) is u = u
  own_does service held before after b a stop.Read is u = u
  own_does service held before after b a stop.Write is u = absurd is
  own_does service held before after b a stop.NoTemplate is u = u
  own_does service held before after b a stop.Memory is u = inl u

  pub begin_does : (service : Service) (held : Option FolderContents) (before after : Devices) (b a : ServeDevices D) (why : CommandStop)
      (s : Status) → BeginServeAnswers held service.dir (Err why) → IsReported why s → IsUnserved before after b a
      → ServeDoes told door_faults left taken link_faults service before after b a s
  begin_does service held before after b a why s is r u =
      reported (ServeDoes told door_faults left taken link_faults service before after b a) why s r
      (own_does service held before after b a why is u) (inl u)

  pub served_does : (service : Service) (before after : Devices) (b a : ServeDevices D) (answer : Result ⊤ ServeStop)
      → ServesSet told door_faults left taken link_faults service before after b a answer
      → ServeDoes told door_faults left taken link_faults service before after b a (status_served answer)
  served_does service before after b a (Ok u) d = d
  served_does service before after b a (Err serve.Net) d = d
  served_does service before after b a (Err serve.Spawn) d = d
  served_does service before after b a (Err serve.Seat) d = d
  served_does service before after b a (Err serve.Write) d = d
  served_does service before after b a (Err serve.Memory) d = inr d

  -- what is known of the folder may be said otherwise
  pub answers_with : {V : Type 0} (answers : Answering V) (sets : List V) (count most : ℕ) (old now : Option (NetTold D))
      (out0 out : Option (List ℕ)) (known other : Type 0) (answer : Result ⊤ ServeStop) → (known → other)
      → ServeAnswers told door_faults answers left taken link_faults sets count most old now out0 out known answer
      → ServeAnswers told door_faults answers left taken link_faults sets count most old now out0 out other answer
  answers_with answers sets count most old now out0 out known other (Ok u) f a = a
  answers_with answers sets count most old now out0 out known other (Err serve.Net) f (inl a) = inl (a.0, f a.1)
  answers_with answers sets count most old now out0 out known other (Err serve.Net) f (inr a) = inr a
  answers_with answers sets count most old now out0 out known other (Err serve.Spawn) f a = a
  answers_with answers sets count most old now out0 out known other (Err serve.Seat) f a = (a.0, f a.1)
  answers_with answers sets count most old now out0 out known other (Err serve.Write) f a = a
  answers_with answers sets count most old now out0 out known other (Err serve.Memory) f a = a

  -- the set of the directory was served, and what is known of the folder is that it is as before
  pub serves_set : (service : Service) (before after : Devices) (b a : ServeDevices D) (known : Type 0) (answer : Result ⊤ ServeStop) (s : Status)
      (set : CheckedData) → IfSome before.held (λ h. IsLoadedSetOf h service.dir set) → (known → IsFolderAsBefore before after)
      → ServeAnswers told door_faults set_answers left taken link_faults (set ∷ []) service.workers service.links b.doors a.doors before.taken after.taken
      known answer
      → s ≡ status_served answer → ServeDoes told door_faults left taken link_faults service before after b a s
  serves_set service before after b a known answer s set made f is same =
      subst (λ (x : Status). ServeDoes told door_faults left taken link_faults service before after b a x) (sym same)
      (served_does service before after b a answer (record {
        set = set;
        made = made;
        answers = answers_with set_answers (set ∷ []) service.workers service.links b.doors a.doors before.taken after.taken known
            (IsFolderAsBefore before after) answer f is;
      }))

  -- `serve` keeps its promise where its parts do
  pub ran_serve : (service : Service) (before after : Devices) (b a : ServeDevices D) (s : Status)
      → ServeDoes told door_faults left taken link_faults service before after b a s
      → ServeStatusCause before.held service.dir s → Blames (serve_failures before after b a) s
      → Rose before.people_faults after.people_faults ⊎ SaysServe before.held service.dir s before.said after.said
      → IsUnread before.left before.input_faults after.left after.input_faults
      → before.output_faults ≤ after.output_faults → before.people_faults ≤ after.people_faults → b.net_faults ≤ a.net_faults
      → b.spawner_faults ≤ a.spawner_faults → b.seats_faults ≤ a.seats_faults
      → RunsServe told door_faults left taken link_faults service before after b a s
  ran_serve service before after b a s does cause blames lines unread out people net spawner seats = record {
    does = does;
    cause = cause;
    read = λ e. subst (λ (x : Status). Blames (serve_failures before after b a) x) e blames;
    write = λ e. subst (λ (x : Status). Blames (serve_failures before after b a) x) e blames;
    net = λ e. subst (λ (x : Status). Blames (serve_failures before after b a) x) e blames;
    spawner = λ e. subst (λ (x : Status). Blames (serve_failures before after b a) x) e blames;
    seats = λ e. subst (λ (x : Status). Blames (serve_failures before after b a) x) e blames;
    exact = serve_exact before.held service.dir (serve_failures before after b a) s cause blames;
    error_free = serve_free before.held service.dir s cause;
    complete = serve_needs before.held service.dir s cause;
    lines = lines;
    unread = unread;
    output_later = out;
    people_later = people;
    net_later = net;
    spawner_later = spawner;
    seats_later = seats;
  }
