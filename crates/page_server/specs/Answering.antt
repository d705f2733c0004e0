-- How a set answers a request, what a pager keeps, and how requests stand in bytes.
use Rattle.std.specs.Prelude.{◌≡◌, ◌⊎◌, ℕ, List, length, Result, ⊤}
use Rattle.httparse.specs.Grammar.{RequestHead}
use Rattle.page_datum.specs.declared.files.Files.{Files}
use Rattle.page_http.specs.Answers.{Executions, Meanings, Promises, IsSoundPageReply, IsOtherReply}
use Rattle.page_http.specs.Asks.{plan_of}
use Rattle.page_http.specs.Requests.{IsWhole}
use Rattle.page_http.specs.declared.answer.Answer.{Answer}
use Rattle.page_http.specs.declared.reply.Reply.{Reply}
use Rattle.page_http.specs.declared.request.Request.{Request}
use Rattle.page_io.specs.declared.stop.Memory.{Memory}
use Rattle.set_publisher.specs.Values.{IsPublishedSetOf}

-- which replies a set gives to a request where it has this number
abbrev pub Answering : Type 0 → Type 1
Answering V = V → Request → ℕ → Reply → Type 0

-- a set's replies: a page as its execution has it, or the number of the set, or a refusal. The execution is one that the set's files have,
-- and of a page what is promised of these files holds
abbrev pub AnswersBySet : {V : Type 0} → (V → Executions) → (V → Files) → (Files → Meanings) → (Files → Promises) → Answering V
AnswersBySet execution made_of meant sound set r n reply =
    IsSoundPageReply (execution set) (meant (made_of set)) (sound (made_of set)) (plan_of r n) n reply
    ⊎ IsOtherReply (plan_of r n) n reply

-- what a pager keeps, before and after it is asked how a set of this number answers a request, and what it answers
abbrev pub Paging : Type 0 → Type 0 → Type 1
Paging T V = T → T → V → Request → ℕ → Result Answer Memory → Type 0

-- a pager that keeps nothing
abbrev pub no_paging : {V : Type 0} → Paging ⊤ V
no_paging kept0 kept set r n result = ⊤

-- what is kept may stand where these sets were published: no reply of another set comes of it
abbrev pub StandsWhere : Type 0 → Type 0 → Type 1
StandsWhere T V = T → List V → Type 0

-- it is the last of these sets, which has this number
abbrev pub IsLastSet : {V : Type 0} → List V → ℕ → V → Type 0
IsLastSet sets number set = (number ≡ length sets) × IsPublishedSetOf sets (length sets) set

module _ {T V : Type 0} (stands : StandsWhere T V) where
  -- what is kept stands where this set is the last one, and has this number
  pub record StandsFor (kept : T) (set : V) (number : ℕ) : Type 0 where
    pub sets : List V
    pub is_last : IsLastSet sets number set
    pub stands_there : stands kept sets

  -- wherever this set is the last one, and has this number, what is kept now stands if what was kept before did
  abbrev pub StandsOn : T → T → V → ℕ → Type 0
  StandsOn kept0 kept set number = (sets : List V) → IsLastSet sets number set → stands kept0 sets → stands kept sets

-- the bytes begin with a request, of so many bytes
abbrev pub BeginsWithRequest : List ℕ → Request → ℕ → Type 0
BeginsWithRequest bytes r used = (h : RequestHead) × IsWhole bytes r used h

-- the bytes are a request, and no more
abbrev pub IsRequest : List ℕ → Request → Type 0
IsRequest piece r = BeginsWithRequest piece r (length piece)
