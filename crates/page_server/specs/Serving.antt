-- What is read from a link and written to it, reply by reply.
use Rattle.std.specs.Prelude.{◌≡◌, ◌≢◌, ◌⊎◌, ℕ, Bool, true, not, ◌||◌, List, [], ◌∷◌, ◌++◌, length, Result, Ok}
use Rattle.page_http.specs.Asks.{plan_of, by_reload}
use Rattle.page_http.specs.Refusals.{phrase_reply}
use Rattle.page_http.specs.Replies.{unavailable}
use Rattle.page_http.specs.Requests.{Refuses}
use Rattle.page_http.specs.declared.answer.Answer.{Answer}
use Rattle.page_http.specs.declared.answer.Answer.TheVariants as answer
use Rattle.page_http.specs.declared.reply.Reply.{Reply}
use Rattle.page_http.specs.declared.request.Request.{Request}
use Rattle.page_io.specs.declared.stop.Memory.{Memory}
use Rattle.page_office.specs.Clerks.{IsReloadReply}
use Rattle.set_publisher.specs.Values.{Watched, IsPublishedSetOf}
use Rattle.page_server.specs.Answering.{Answering, Paging, no_paging, IsRequest}
use Rattle.page_server.specs.Sending.{SentReply, is_last}
use Rattle.page_server.specs.Viewing.{HasLooked, MayHaveLearnt}

-- a reply as it is sent
abbrev pub sent : Reply → Bool → SentReply
sent reply close = record { reply = reply; close = close }

module _ {T V : Type 0} (paging : Paging T V) where
  -- the pager is asked once for the reply to a request, by the last set that is seen, and answers this
  pub record IsPagedOnce (seen : Watched V) (kept0 kept : T) (r : Request) (result : Result Answer Memory) : Type 0 where
    pub set : V
    pub is_seen : IsPublishedSetOf seen.sets (length seen.sets) set
    pub pages : paging kept0 kept set r (length seen.sets) result

  -- it is asked once for the reply to the request that a piece of the bytes is, or not at all
  abbrev pub IsPagedOrNot : Watched V → T → T → List ℕ → Type 0
  IsPagedOrNot seen kept0 kept piece =
      (kept ≡ kept0) ⊎ ((r : Request) × IsRequest piece r × ((result : Result Answer Memory) × IsPagedOnce seen kept0 kept r result))

module _ {T V : Type 0} (paging : Paging T V) (answers : Answering V) where
  -- how a piece of the bytes is answered, by what the viewer has seen once it was read (seen), and once it is answered (now), and by what
  -- the pager keeps before and after: what the clerk gave for it, and the reply. A request for a reload is handed to the clerk, and no other
  -- is. Want of memory is answered 503, also where the pager or the clerk gave a reply
  pub data AnsweredWith (last : Bool) (seen now : Watched V) (kept0 kept : T) (piece : List ℕ) : List Reply → SentReply → Type 0 where
    by_set : (r : Request) (set : V) (reply : Reply) → IsRequest piece r
        → IsPublishedSetOf seen.sets (length seen.sets) set → answers set r (length seen.sets) reply → now ≡ seen
        → paging kept0 kept set r (length seen.sets) (Ok (answer.Reply reply))
        → AnsweredWith last seen now kept0 kept piece [] (sent reply (r.close || last))
    by_clerk : (r : Request) (reply : Reply) → IsRequest piece r
        → plan_of r (length seen.sets) ≡ by_reload → IsReloadReply seen now (length seen.sets) reply
        → IsPagedOnce paging seen kept0 kept r (Ok answer.Reload)
        → AnsweredWith last seen now kept0 kept piece (reply ∷ []) (sent reply (r.close || last))
    refused : (status : ℕ) → Refuses piece status → now ≡ seen → kept ≡ kept0
        → AnsweredWith last seen now kept0 kept piece [] (sent (phrase_reply status (length seen.sets)) true)
    no_memory : piece ≢ [] → IsPagedOrNot paging seen kept0 kept piece
        → AnsweredWith last seen now kept0 kept piece [] (sent (unavailable (length now.sets)) true)
    no_memory_to_send : (r : Request) (reply : Reply) → IsRequest piece r
        → plan_of r (length seen.sets) ≡ by_reload → IsReloadReply seen now (length seen.sets) reply
        → IsPagedOnce paging seen kept0 kept r (Ok answer.Reload)
        → AnsweredWith last seen now kept0 kept piece (reply ∷ []) (sent (unavailable (length now.sets)) true)

  -- the replies so far, the bytes that they answer, what the clerk gave, what the viewer has seen, what the pager keeps, and whether the
  -- connection stays open. For each piece the viewer looks once. After a reply that closes the connection there is no other
  pub data ServesWith (first : Watched V) (kept0 : T) : List SentReply → List ℕ → List Reply → Watched V → T → Bool → Type 0 where
    begun : ServesWith first kept0 [] [] [] first kept0 true
    replied : (replies : List SentReply) (read : List ℕ) (given : List Reply) (before seen now : Watched V) (kept_before kept : T)
        (piece : List ℕ) (gives : List Reply) (s : SentReply)
        → ServesWith first kept0 replies read given before kept_before true → HasLooked before seen → MayHaveLearnt seen now
        → AnsweredWith (is_last (length replies)) seen now kept_before kept piece gives s
        → ServesWith first kept0 (replies ++ s ∷ []) (read ++ piece) (given ++ gives) now kept (not s.close)

-- the same of a pager that keeps nothing
module _ {V : Type 0} (answers : Answering V) where
  abbrev pub Answered : Bool → Watched V → Watched V → List ℕ → List Reply → SentReply → Type 0
  Answered last seen now piece gives s = AnsweredWith no_paging answers last seen now tt tt piece gives s

  abbrev pub Serves : Watched V → List SentReply → List ℕ → List Reply → Watched V → Bool → Type 0
  Serves first replies read given now stays = ServesWith no_paging answers first tt replies read given now tt stays
