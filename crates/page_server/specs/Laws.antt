-- What holds of every link that is served.
use Rattle.std.specs.Prelude.{◌≡◌, ◌≤◌, ◌⊎◌, ℕ, Bool, true, false, not, List, [], ◌∷◌, length}
use Rattle.page_datum.specs.Data.{Data}
use Rattle.page_datum.specs.Execution.{done}
use Rattle.page_datum.specs.declared.files.Files.{Files}
use Rattle.page_http.specs.Answers.{Executions, Meanings, Promises}
use Rattle.page_http.specs.Asks.{AsksPage, plan_of}
use Rattle.page_http.specs.Pages.{done_reply}
use Rattle.page_http.specs.Replies.{unavailable}
use Rattle.page_http.specs.declared.reply.Reply.{Reply}
use Rattle.page_http.specs.declared.request.Request.{Request}
use Rattle.set_publisher.specs.Values.{Watched, IsPublishedSetOf}
use Rattle.page_server.specs.Answering.{AnswersBySet, IsRequest}
use Rattle.page_server.specs.Sending.{SentReply, max_requests}
use Rattle.page_server.specs.Serving.{Answered, Serves}

-- the number of the first reply is no less than n, that of each next one no less than the one before, and m no less than the last
abbrev pub NumbersRise : ℕ → List SentReply → ℕ → Type 0
NumbersRise n [] m = n ≤ m
NumbersRise n (s ∷ ss) m = (n ≤ s.reply.number) × NumbersRise s.reply.number ss m

-- no reply but the last closes the connection, and the last one where it does not stay open
abbrev pub ClosesAtEnd : List SentReply → Bool → Type 0
ClosesAtEnd [] stays = stays ≡ true
ClosesAtEnd (s ∷ []) stays = stays ≡ not s.close
ClosesAtEnd (s ∷ t ∷ ss) stays = (s.close ≡ false) × ClosesAtEnd (t ∷ ss) stays

-- numbers never fall, and begin at no less than the viewer had seen; nothing follows a reply that closes the connection; and there are no
-- more replies than that
pub record AreServedInOrder {V : Type 0} (first now : Watched V) (replies : List SentReply) (stays : Bool) : Type 0 where
  pub numbers : NumbersRise (length first.sets) replies (length now.sets)
  pub closing : ClosesAtEnd replies stays
  pub most : length replies ≤ max_requests

module _ {V : Type 0} (execution : V → Executions) (made_of : V → Files) (meant : Files → Meanings) (sound : Files → Promises) where
  abbrev pub RepliesAreInOrder : Type 0
  RepliesAreInOrder =
      (first now : Watched V) (replies : List SentReply) (read : List ℕ) (given : List Reply) (stays : Bool)
      → Serves (AnswersBySet execution made_of meant sound) first replies read given now stays
      → AreServedInOrder first now replies stays

  -- the page is asked for, and the last set that is seen makes it
  pub record AsksForPage (seen : Watched V) (piece name : List ℕ) (datum : Data) (set : V) : Type 0 where
    pub request : Request
    pub reads : IsRequest piece request
    pub asks : AsksPage (plan_of request (length seen.sets)) name datum
    pub is_seen : IsPublishedSetOf seen.sets (length seen.sets) set
    pub ends : (execution set name datum).ending ≡ done

  -- it is answered 200 with the page, or 503
  abbrev pub PagesAreAnswered : Type 0
  PagesAreAnswered =
      (last : Bool) (seen now : Watched V) (piece : List ℕ) (gives : List Reply) (s : SentReply)
      (name : List ℕ) (datum : Data) (set : V)
      → Answered (AnswersBySet execution made_of meant sound) last seen now piece gives s
      → AsksForPage seen piece name datum set
      → (s.reply ≡ done_reply (execution set name datum).bytes (length seen.sets))
      ⊎ (s.reply ≡ unavailable (length now.sets))
