-- What the definitions say, and what they do not allow.
use Rattle.std.proofs.Common.{◌≡◌, ℕ, Bool, false, List, [], ◌∷◌, ◌++◌, length, codes, refl, ap, subst, Option, Some, None}
use Rattle.std.proofs.Common.{Result, Ok, Err, IsErr, length-append, arith}
use Rattle.std.specs.Arc.{arc_value}
use Rattle.page_io.specs.Causes.{Rose}
use Rattle.page_io.specs.FolderContents.{FolderContents}
use Rattle.page_io.specs.declared.stop.Memory.{Memory}
use Rattle.page_datum.specs.TemplateFiles.{files_of}
use Rattle.page_datum.specs.declared.files.Files.{Files}
use Rattle.page_http.specs.declared.reply.Allow.TheVariants as allow
use Rattle.page_http.specs.declared.reply.Reply.{Reply}
use Rattle.set_publisher.specs.Values.{Published, Watched}
use Rattle.set_publisher.specs.declared.told.Told.{Told}
use Rattle.page_office.specs.BackOffice.{BackOffice}
use Rattle.page_office.specs.Clerks.{GivesReply}
use Rattle.page_office.specs.Reloads.{ReloadAnswers, told_files}
use Rattle.page_office.specs.Replies.{AnswersReload, RepliesToReload, read_fault_reply, refused_reply}
use Rattle.page_office.specs.declared.reload_stop.ReloadStop.{ReloadStop}
use Rattle.page_office.specs.declared.reload_stop.ReloadStop.TheVariants as stop

-- a folder whose directories each have a template file and another file, of one byte
abbrev folder : FolderContents
folder = record {
  names = λ dir. codes "a.html" ∷ codes "b.txt" ∷ [];
  content = λ dir name. Some (codes "x");
}

-- the template files alone are those of a set
template_files : told_files (Some folder) (codes "site")
    ≡ Some (record { dir = codes "site"; list = record { name = codes "a.html"; bytes = codes "x" } ∷ [] })
template_files = refl

-- a folder that tells nothing tells no files
untold_files : told_files None (codes "site") ≡ None
untold_files = refl

-- the replies to a reload that published nothing
refused : refused_reply (codes "refused NoTemplates\n") 11
    ≡ record { status = 422; html = false; number = 11; allow = allow.Nothing; body = codes "refused NoTemplates\n" }
refused = refl

failed : read_fault_reply 11 ≡ record { status = 500; html = false; number = 11; allow = allow.Nothing; body = codes "read fault\n" }
failed = refl

-- a clerk that tells its replies has one more after an answer, and neither none nor two
one_more : GivesReply {E = Memory} (Some []) (Some (refused_reply [] 1 ∷ [])) (Ok (refused_reply [] 1))
one_more = refl

not_none : (reply : Reply) → GivesReply {E = Memory} (Some []) (Some []) (Ok reply) → ⊥
not_none reply e = cc

not_error : (reply : Reply) → IsErr {T = Reply} {E = Memory} (Ok reply) → ⊥
not_error reply e = cc

-- what a reload and an answer do not do, with any meaning of sets, refusals and folders
module _ {V F E : Type 0}
    (made_of : V → Files) (refuses : Files → Type 0) (is_memory : E → Bool) (lines : E → List ℕ)
    (held : F → Option FolderContents) (faults : F → ℕ) where
  abbrev reloads : BackOffice V F → BackOffice V F → Result (Told V) (ReloadStop E) → Type 0
  reloads = ReloadAnswers made_of refuses is_memory held faults

  -- it does not say that a set was published where the list has none more
  published_nothing : (old now : BackOffice V F) (told : Told V)
      → reloads old now (Ok told) → now.desk ≡ old.desk → ⊥
  published_nothing old now told a same =
      let longer : length now.desk.sets ≡ length (old.desk.sets ++ arc_value told.set ∷ []) =
      ap (λ (sets : List V). length sets) a.0.appended in
      let kept : length now.desk.sets ≡ length old.desk.sets = ap (λ (desk : Published V). length desk.sets) same in
      omega (arith, longer, kept, length-append old.desk.sets (arc_value told.set ∷ []))

  -- the set that it published is one of the files that the folder tells
  published_these : (old now : BackOffice V F) (told : Told V) (contents : FolderContents)
      → held old.folder ≡ Some contents → reloads old now (Ok told) → made_of (arc_value told.set) ≡ files_of contents old.dir
  published_these old now told contents is a = rw is at a.1.files

  -- files that are refused are not published
  published_refused : (old now : BackOffice V F) (told : Told V) (contents : FolderContents)
      → held old.folder ≡ Some contents → refuses (files_of contents old.dir) → reloads old now (Ok told) → ⊥
  published_refused old now told contents is refused a =
      a.1.accepted (rw (published_these old now told contents is a) refused)

  -- files that are not refused are not called refused
  refused_accepted : (old now : BackOffice V F) (why : E) (contents : FolderContents)
      → held old.folder ≡ Some contents → (refuses (files_of contents old.dir) → ⊥) → reloads old now (Err (stop.Refused why)) → ⊥
  refused_accepted old now why contents is fine a =
      let these : a.1.files ≡ files_of contents old.dir = rw is at a.1.these in
      fine (subst refuses these a.1.refused)

  -- each status has its cause: the set was published, the files are refused, the folder failed
  abbrev answers : BackOffice V F → BackOffice V F → Watched V → Watched V → ℕ → Reply → Type 0
  answers old now seen sees number reply =
      AnswersReload made_of refuses is_memory lines held faults old now seen sees number (Ok reply)

  status_200 : (old now : BackOffice V F) (seen sees : Watched V) (number : ℕ) (reply : Reply)
      → answers old now seen sees number reply → reply.status ≡ 200 → (told : Told V) × reloads old now (Ok told)
  status_200 old now seen sees number reply a is = by_answer a.done a.reload a.reply
    where
      by_answer : (done : Result (Told V) (ReloadStop E)) → reloads old now done
          → RepliesToReload lines done seen sees number (Ok reply) → (told : Told V) × reloads old now (Ok told)
      by_answer (Ok told) r s = (told, r)
      by_answer (Err (stop.Refused why)) r s = absurd (omega (arith, is, ap (λ (z : Reply). z.status) s.1))
      by_answer (Err stop.FolderFault) r s = absurd (omega (arith, is, ap (λ (z : Reply). z.status) s.1))
      by_answer (Err stop.Memory) r s = absurd (not_error reply s.1)

  status_422 : (old now : BackOffice V F) (seen sees : Watched V) (number : ℕ) (reply : Reply)
      → answers old now seen sees number reply → reply.status ≡ 422 → (why : E) × reloads old now (Err (stop.Refused why))
  status_422 old now seen sees number reply a is = by_answer a.done a.reload a.reply
    where
      by_answer : (done : Result (Told V) (ReloadStop E)) → reloads old now done
          → RepliesToReload lines done seen sees number (Ok reply) → (why : E) × reloads old now (Err (stop.Refused why))
      by_answer (Ok told) r s = absurd (omega (arith, is, ap (λ (z : Reply). z.status) s.1))
      by_answer (Err (stop.Refused why)) r s = (why, r)
      by_answer (Err stop.FolderFault) r s = absurd (omega (arith, is, ap (λ (z : Reply). z.status) s.1))
      by_answer (Err stop.Memory) r s = absurd (not_error reply s.1)

  status_500 : (old now : BackOffice V F) (seen sees : Watched V) (number : ℕ) (reply : Reply)
      → answers old now seen sees number reply → reply.status ≡ 500 → Rose (faults old.folder) (faults now.folder)
  status_500 old now seen sees number reply a is = by_answer a.done a.reload a.reply
    where
      by_answer : (done : Result (Told V) (ReloadStop E)) → reloads old now done
          → RepliesToReload lines done seen sees number (Ok reply) → Rose (faults old.folder) (faults now.folder)
      by_answer (Ok told) r s = absurd (omega (arith, is, ap (λ (z : Reply). z.status) s.1))
      by_answer (Err (stop.Refused why)) r s = absurd (omega (arith, is, ap (λ (z : Reply). z.status) s.1))
      by_answer (Err stop.FolderFault) r s = r.1
      by_answer (Err stop.Memory) r s = absurd (not_error reply s.1)
