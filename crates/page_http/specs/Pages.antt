-- The replies with pages, and with the number of the set.
use Rattle.std.specs.Prelude.{◌≡◌, ℕ, true, IsTrue, List, [], ◌∷◌, ◌++◌, codes}
use Rattle.std.specs.Fmt.{decimal}
use Rattle.page_datum.specs.Execution.{Ending, done, no_root, faulted, Execution}
use Rattle.page_datum.specs.Kinds.{fault_kind}
use Rattle.page_datum.specs.Legible.{legible}
use Rattle.page_datum.specs.declared.fault.ExecFault.{ExecFault}
use Rattle.page_http.specs.Refusals.{phrase_reply, text_reply}
use Rattle.page_http.specs.declared.reply.Allow.TheVariants as allow
use Rattle.page_http.specs.declared.reply.Reply.{Reply}

-- the page, as HTML
abbrev pub done_reply : List ℕ → ℕ → Reply
done_reply page number =
    record { status = 200; html = true; number = number; allow = allow.Nothing; body = page }

-- the fault and where it stands, as the commands print it
abbrev pub fault_reply : ExecFault → ℕ → Reply
fault_reply fault number =
    text_reply 500 allow.Nothing number
    (codes "fault " ++ (fault_kind fault.kind ++ 32 ∷ (legible fault.template
    ++ 58 ∷ (decimal fault.line ++ 10 ∷ []))))

abbrev pub ending_reply : Ending → List ℕ → ℕ → Reply
ending_reply done page number = done_reply page number
ending_reply no_root page number = phrase_reply 404 number
ending_reply (faulted fault) page number = fault_reply fault number

-- the reply to a request for a page, by its execution
abbrev pub page_reply : Execution → ℕ → Reply
page_reply e number = ending_reply e.ending e.bytes number

-- the reply is a page
abbrev pub IsPage : Reply → Type 0
IsPage reply = (reply.status ≡ 200) × IsTrue reply.html

-- the number of the set
abbrev pub number_reply : ℕ → Reply
number_reply number =
    text_reply 200 allow.Nothing number (codes "set " ++ (decimal number ++ 10 ∷ []))
