-- What a clerk answers a reload, as those see it who do not know its back office.
use Rattle.std.specs.Prelude.{◌≡◌, ◌⊎◌, ℕ, List, [], ◌∷◌, ◌++◌, length, Option, option_map, Result, Ok, Err}
use Rattle.page_http.specs.Pages.{number_reply}
use Rattle.page_http.specs.declared.reply.Reply.{Reply}
use Rattle.set_publisher.specs.Values.{Watched}
use Rattle.page_office.specs.Replies.{refused_reply, read_fault_reply}

-- 422 with the lines of a refusal, or 500 where the folder failed
abbrev pub IsReloadRefusal : ℕ → Reply → Type 0
IsReloadRefusal number reply =
    ((lines : List ℕ) × (reply ≡ refused_reply lines number)) ⊎ (reply ≡ read_fault_reply number)

-- 200 with the number of the last set that the viewer has seen then; or a refusal with the number that was handed in, and the viewer has
-- seen what it had
abbrev pub IsReloadReply : {V : Type 0} → Watched V → Watched V → ℕ → Reply → Type 0
IsReloadReply old now number reply =
    (reply ≡ number_reply (length now.sets)) ⊎ ((now ≡ old) × IsReloadRefusal number reply)

-- the replies that a clerk gave, where it tells them, are those before and this one
abbrev pub GivesReply : {E : Type 0} → Option (List Reply) → Option (List Reply) → Result Reply E → Type 0
GivesReply before now (Ok reply) = now ≡ option_map (λ given. given ++ reply ∷ []) before
GivesReply before now (Err e) = now ≡ before
