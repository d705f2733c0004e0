-- What a byte does in the element `script`, as the code has it.
use Rattle.std.specs.Prelude.{ℕ, Bool, if◌then◌else◌, ◌+◌, ◌-◌, codes, List, [], ◌∷◌, ◌++◌}
use Rattle.place_core.specs.page.Contents.{ScriptStep, Reads, EndsContent, InWord, IsWord, BeginsWord, NoWord, pending_bytes}
use Rattle.place_core.specs.page.States.{Pending, Nothing, PendingLess, LessAtCut, PendingName, PendingBang, PendingBangDash, PendingOpening}
use Rattle.html_scan.specs.ScanViews.{pending_length, script_pending_at}
use Rattle.html_scan.specs.Slices.{pending}
use Rattle.html_scan.specs.declared.script_steps.InWord.{InWord as ReadWord}
use Rattle.html_scan.specs.declared.script_steps.InWord.TheVariants as read
use Rattle.html_scan.specs.declared.script_steps.ScriptStep.{ScriptStep as ReadStep}
use Rattle.html_scan.specs.declared.script_steps.ScriptStep.TheVariants as step

abbrev pub in_word_at : ReadWord → InWord
in_word_at read.IsWord = IsWord
in_word_at read.BeginsWord = BeginsWord
in_word_at read.NoWord = NoWord

-- by whether they are one, and whether they begin one
abbrev pub judged_word : (is begins : Bool) → InWord
judged_word is begins = if is then IsWord else (if begins then BeginsWord else NoWord)

-- by how many bytes have been read before it, and what is pending
abbrev pub script_step_at : List ℕ → ℕ → Pending → ℕ → ReadStep → ScriptStep
script_step_at text k h b (step.Holds p) = Reads [] (script_pending_at text (k + 1) p)
script_step_at text k h b step.Releases = Reads (pending_bytes h) PendingLess
script_step_at text k h b step.Reads = Reads (pending_bytes h ++ b ∷ []) Nothing
script_step_at text k h b (step.Ends letters) = EndsContent (pending text (k - letters) k)

-- how many of the bytes up to this one are pending behind it, or belong to the end tag
abbrev pub step_length : ReadStep → ℕ
step_length (step.Holds p) = pending_length p
step_length step.Releases = 1
step_length step.Reads = 0
step_length (step.Ends letters) = letters + 3

-- what is pending begins with this, and goes on with letters
abbrev pub pending_opens : Pending → List ℕ
pending_opens Nothing = []
pending_opens PendingLess = codes "<"
pending_opens LessAtCut = codes "<"
pending_opens (PendingName letters) = codes "</"
pending_opens PendingBang = codes "<!"
pending_opens PendingBangDash = codes "<!-"
pending_opens (PendingOpening letters) = codes "<"

abbrev pub pending_letters : Pending → List ℕ
pending_letters (PendingName letters) = letters
pending_letters (PendingOpening letters) = letters
pending_letters h = []
