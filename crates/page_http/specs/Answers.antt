-- The reply to a request, as a function of the request, of what the set's pages are, and of the
-- set's number.
use Rattle.std.specs.Prelude.{◌≡◌, ℕ, ◌⊎◌, List, Result, Ok, Err, ⊤}
use Rattle.page_datum.specs.Data.{Data}
use Rattle.page_datum.specs.Execution.{Execution}
use Rattle.page_http.specs.Asks.{Asked, by_number, by_reload, AsksPage, IsRefusedWith, plan_of}
use Rattle.page_http.specs.Pages.{IsPage, page_reply, number_reply}
use Rattle.page_http.specs.Replies.{IsSendable}
use Rattle.page_http.specs.declared.answer.Answer.{Answer}
use Rattle.page_http.specs.declared.answer.Answer.TheVariants as answer
use Rattle.page_http.specs.declared.reply.Reply.{Reply}
use Rattle.page_http.specs.declared.request.Request.{Request}

-- what executing a root with a datum gives in a set
abbrev pub Executions : Type 0
Executions = List ℕ → Data → Execution

-- a page that is asked for, and the reply with it
pub record IsPageReply
    (execution : Executions) (asked : Asked) (n : ℕ) (reply : Reply) : Type 0 where
  pub name : List ℕ
  pub datum : Data
  pub asks : AsksPage asked name datum
  pub reply_is : reply ≡ page_reply (execution name datum) n

-- the reply where no page is made: the number, or a refusal
abbrev pub IsOtherReply : Asked → ℕ → Reply → Type 0
IsOtherReply asked n reply =
    ((asked ≡ by_number) × (reply ≡ number_reply n)) ⊎ IsRefusedWith asked n reply

-- the reply to a request: a page, the number, or a refusal
abbrev pub IsReplyTo : Executions → Request → ℕ → Reply → Type 0
IsReplyTo execution r n reply =
    IsPageReply execution (plan_of r n) n reply ⊎ IsOtherReply (plan_of r n) n reply

abbrev pub AnswersRequest : {E : Type 0} → Executions → Request → ℕ → Result Answer E → Type 0
AnswersRequest execution r n (Ok (answer.Reply reply)) = IsReplyTo execution r n reply
AnswersRequest execution r n (Ok answer.Reload) = plan_of r n ≡ by_reload
AnswersRequest execution r n (Err e) = ⊤

-- which executions the files of a set have, and what is promised of the pages of these files
abbrev pub Meanings : Type 1
Meanings = List ℕ → Data → Execution → Type 0

abbrev pub Promises : Type 1
Promises = List ℕ → Data → List ℕ → Type 0

-- a page that is asked for, and the reply with it, where the execution is one that the files have;
-- where the reply is a page, what is promised holds of its body
pub record IsSoundPageReply
    (execution : Executions) (meant : Meanings) (sound : Promises)
    (asked : Asked) (n : ℕ) (reply : Reply)
    : Type 0 where
  pub page : IsPageReply execution asked n reply
  pub is_meant : meant page.name page.datum (execution page.name page.datum)
  pub is_sound : IsPage reply → sound page.name page.datum reply.body

abbrev pub AnswersSoundly : {E : Type 0} → Executions → Meanings → Promises → Request → ℕ
    → Result Answer E → Type 0
AnswersSoundly execution meant sound r n (Ok (answer.Reply reply)) =
    IsSoundPageReply execution meant sound (plan_of r n) n reply ⊎ IsOtherReply (plan_of r n) n reply
AnswersSoundly execution meant sound r n (Ok answer.Reload) = plan_of r n ≡ by_reload
AnswersSoundly execution meant sound r n (Err e) = ⊤

-- a request has one reply for a set and its number, and none where it asks for a reload
pub record HasOneReply (execution : Executions) (r : Request) (n : ℕ) : Type 0 where
  pub one : (a b : Reply) → IsReplyTo execution r n a → IsReplyTo execution r n b → a ≡ b
  pub reload : (a : Reply) → IsReplyTo execution r n a → plan_of r n ≡ by_reload → ⊥

abbrev pub RequestsHaveOneReply : Type 0
RequestsHaveOneReply = (execution : Executions) (r : Request) (n : ℕ) → HasOneReply execution r n

-- the reply can be sent
abbrev pub IsAnswerSendable : {E : Type 0} → Result Answer E → Type 0
IsAnswerSendable (Ok (answer.Reply reply)) = IsSendable reply
IsAnswerSendable (Ok answer.Reload) = ⊤
IsAnswerSendable (Err e) = ⊤
