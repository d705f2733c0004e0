-- The replies to a reload, as functions of its answer.
use Rattle.std.specs.Prelude.{◌≡◌, ℕ, Bool, List, length, codes, Option, Result, Ok, Err, IfOk, IsErr}
use Rattle.page_io.specs.FolderContents.{FolderContents}
use Rattle.page_io.specs.declared.stop.Memory.{Memory}
use Rattle.page_datum.specs.declared.files.Files.{Files}
use Rattle.page_http.specs.Pages.{number_reply}
use Rattle.page_http.specs.Refusals.{text_reply}
use Rattle.page_http.specs.declared.reply.Allow.TheVariants as allow
use Rattle.page_http.specs.declared.reply.Reply.{Reply}
use Rattle.set_publisher.specs.Values.{Watched}
use Rattle.set_publisher.specs.declared.told.Told.{Told}
use Rattle.page_office.specs.BackOffice.{BackOffice}
use Rattle.page_office.specs.Learning.{LearnsTold}
use Rattle.page_office.specs.Reloads.{ReloadAnswers}
use Rattle.page_office.specs.declared.reload_stop.ReloadStop.{ReloadStop}
use Rattle.page_office.specs.declared.reload_stop.ReloadStop.TheVariants as stop

-- 422, with the lines of the refusal (RFC 4918, section 11.2)
abbrev pub refused_reply : List ℕ → ℕ → Reply
refused_reply lines number = text_reply 422 allow.Nothing number lines

-- 500, where the folder failed (RFC 9110, section 15.6.1)
abbrev pub read_fault_reply : ℕ → Reply
read_fault_reply number = text_reply 500 allow.Nothing number (codes "read fault\n")

-- the reply to a reload's answer, and what the viewer has seen then. After a publish the viewer has learnt it, whatever the reply,
-- and the number is that of the last set that it has seen then; else it has seen what it had, and the number is the one that was handed in
abbrev pub RepliesToReload : {V E : Type 0}
    → (E → List ℕ) → Result (Told V) (ReloadStop E) → Watched V → Watched V → ℕ → Result Reply Memory → Type 0
RepliesToReload lines (Ok told) old now number result =
    LearnsTold told.known old now × IfOk result (λ reply. reply ≡ number_reply (length now.sets))
RepliesToReload lines (Err (stop.Refused why)) old now number result =
    (now ≡ old) × IfOk result (λ reply. reply ≡ refused_reply (lines why) number)
RepliesToReload lines (Err stop.FolderFault) old now number result =
    (now ≡ old) × IfOk result (λ reply. reply ≡ read_fault_reply number)
RepliesToReload lines (Err stop.Memory) old now number result = (now ≡ old) × IsErr result

-- a reload was done, and the reply is that to its answer
pub record AnswersReload {V F E : Type 0}
    (made_of : V → Files) (refuses : Files → Type 0) (is_memory : E → Bool) (lines : E → List ℕ)
    (held : F → Option FolderContents) (faults : F → ℕ)
    (old now : BackOffice V F) (seen sees : Watched V) (number : ℕ) (result : Result Reply Memory)
    : Type 0 where
  pub done : Result (Told V) (ReloadStop E)
  pub reload : ReloadAnswers made_of refuses is_memory held faults old now done
  pub reply : RepliesToReload lines done seen sees number result
