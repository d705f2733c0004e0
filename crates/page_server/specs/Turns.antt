-- One turn of serving: a reply that is sent, or a stop.
use Rattle.std.specs.Prelude.{◌≡◌, ◌≤◌, ◌⊎◌, ℕ, Bool, true, false, List, ◌∷◌, [], ◌++◌, length, take, drop, Option, Result, Ok, Err, IfOk}
use Rattle.std.specs.Io.KnownBytes.{Appends, Consumes}
use Rattle.page_io.specs.Whole.{AppendsPart}
use Rattle.page_io.specs.declared.stop.Memory.{Memory}
use Rattle.page_http.specs.Asks.{plan_of, by_reload}
use Rattle.page_http.specs.Replies.{unavailable}
use Rattle.page_http.specs.declared.answer.Answer.{Answer}
use Rattle.page_http.specs.declared.answer.Answer.TheVariants as answer
use Rattle.page_http.specs.declared.reply.Reply.{Reply}
use Rattle.page_http.specs.declared.request.Request.{Request}
use Rattle.page_office.specs.Clerks.{IsReloadReply}
use Rattle.set_publisher.specs.Values.{Watched, IsPublishedSetOf}
use Rattle.page_server.specs.Answering.{Answering, Paging}
use Rattle.page_server.specs.Sending.{SentReply, sent_text, sent_texts, number_after}
use Rattle.page_server.specs.Serving.{AnsweredWith, ServesWith, IsPagedOnce, sent}
use Rattle.page_server.specs.Sessions.{SessionWith, with_given}
use Rattle.page_server.specs.Viewing.{HasLooked, MayHaveLearnt}
use Rattle.page_server.specs.Waiting.{StopsReading}
use Rattle.page_server.specs.declared.end.LinkWhy.{LinkWhy}
use Rattle.page_server.specs.declared.end.LinkWhy.TheVariants as why
use Rattle.page_server.specs.declared.outgoing.Outgoing.{Outgoing}
use Rattle.page_server.specs.declared.turn.Turn.{Turn}
use Rattle.page_server.specs.declared.turn.Turn.TheVariants as turn

-- bytes were written in whole, and the first `used` bytes held let go
pub record IsWrittenWhole (taken0 taken : Option (List ℕ)) (held0 held : List ℕ) (used : ℕ) (bytes : List ℕ) : Type 0 where
  pub wrote : Appends taken0 taken bytes
  pub held_is : held ≡ drop used held0

-- a part of the bytes was written
pub record IsWrittenInPart (taken0 taken : Option (List ℕ)) (held0 held : List ℕ) (bytes : List ℕ) : Type 0 where
  pub wrote : AppendsPart taken0 taken bytes
  pub held_is : held ≡ held0

-- the bytes of a reply were written, with its number, and whether the connection ends with it
abbrev pub IsReplyWritten : Option (List ℕ) → Option (List ℕ) → List ℕ → List ℕ → ℕ → List ℕ → ℕ → Bool → Turn → Type 0
IsReplyWritten taken0 taken held0 held used bytes number close (turn.Replied n) =
    IsWrittenWhole taken0 taken held0 held used bytes × (n ≡ number) × (close ≡ false)
IsReplyWritten taken0 taken held0 held used bytes number close (turn.Closing n) =
    IsWrittenWhole taken0 taken held0 held used bytes × (n ≡ number) × (close ≡ true)
IsReplyWritten taken0 taken held0 held used bytes number close (turn.Stopped w) =
    (w ≡ why.LinkFault) × IsWrittenInPart taken0 taken held0 held bytes

-- a reply to the first `used` bytes held was sent, or a part of it
abbrev pub IsSent : Option (List ℕ) → Option (List ℕ) → List ℕ → List ℕ → ℕ → SentReply → Turn → Type 0
IsSent taken0 taken held0 held used s t =
    IsReplyWritten taken0 taken held0 held used (sent_text s) s.reply.number s.close t

-- the reply was sent, or 503 where there was no memory for it
abbrev pub IsOutgoingSent : Option (List ℕ) → Option (List ℕ) → List ℕ → List ℕ → ℕ → Bool → ℕ → Result Reply Memory → Turn → Type 0
IsOutgoingSent taken0 taken held0 held used close number (Ok reply) t =
    IsSent taken0 taken held0 held used (sent reply close) t
    ⊎ IsSent taken0 taken held0 held used (sent (unavailable number) true) t
IsOutgoingSent taken0 taken held0 held used close number (Err e) t =
    IsSent taken0 taken held0 held used (sent (unavailable number) true) t

module _ {T V : Type 0} where
  -- bytes were read, and nothing else was done
  pub record IsRead (old now : SessionWith T V) (held0 held : List ℕ) : Type 0 where
    pub more : List ℕ
    pub grown : held ≡ held0 ++ more
    pub came : Consumes old.left now.left more
    pub taken_is : now.taken ≡ old.taken
    pub given_is : now.given ≡ old.given
    pub viewer_is : now.viewer ≡ old.viewer
    pub pager_is : now.pager ≡ old.pager

  -- bytes were read, and reading stopped
  pub record ReadsAndStops (old now : SessionWith T V) (held0 held : List ℕ) (w : LinkWhy) : Type 0 where
    pub reads : IsRead old now held0 held
    pub stops : StopsReading now.left held w

module _ {T V : Type 0} (paging : Paging T V) where
  -- a reload is answered by the clerk
  pub record IsByClerk
      (seen now : Watched V) (kept0 kept : T) (given0 given : Option (List Reply)) (r : Request) (reply : Reply)
      : Type 0 where
    pub asks : plan_of r (length seen.sets) ≡ by_reload
    pub replies : IsReloadReply seen now (length seen.sets) reply
    pub paged : IsPagedOnce paging seen kept0 kept r (Ok answer.Reload)
    pub gave : given ≡ with_given given0 (reply ∷ [])

module _ {T V : Type 0} (paging : Paging T V) (answers : Answering V) where
  -- a request is answered by the set that is seen
  pub record IsBySet
      (seen now : Watched V) (kept0 kept : T) (given0 given : Option (List Reply)) (r : Request) (reply : Reply)
      : Type 0 where
    pub set : V
    pub is_seen : IsPublishedSetOf seen.sets (length seen.sets) set
    pub answers_it : answers set r (length seen.sets) reply
    pub pages : paging kept0 kept set r (length seen.sets) (Ok (answer.Reply reply))
    pub same : now ≡ seen
    pub given_is : given ≡ given0

  -- what a request is answered; where memory runs out the clerk gave nothing, and the pager was asked once or not at all
  abbrev pub AnswersOnce : {E : Type 0} → Watched V → Watched V → T → T → Option (List Reply) → Option (List Reply) → Request
      → Result Reply E → Type 0
  AnswersOnce seen now kept0 kept given0 given r (Ok reply) =
      IsBySet seen now kept0 kept given0 given r reply ⊎ IsByClerk paging seen now kept0 kept given0 given r reply
  AnswersOnce seen now kept0 kept given0 given r (Err e) =
      (given ≡ given0) × ((kept ≡ kept0) ⊎ ((result : Result Answer Memory) × IsPagedOnce paging seen kept0 kept r result))

  -- what goes out to the first bytes held: a reply, or 503, which may always take its place
  pub record Responds
      (last : Bool) (seen now : Watched V) (kept0 kept : T) (given0 given : Option (List Reply)) (held : List ℕ) (out : Outgoing)
      : Type 0 where
    pub gives : List Reply
    pub learnt : MayHaveLearnt seen now
    pub gave : given ≡ with_given given0 gives
    pub within : out.used ≤ length held
    pub number_is : out.number ≡ length now.sets
    pub replies : IfOk out.reply
        (λ reply. AnsweredWith paging answers last seen now kept0 kept (take out.used held) gives (sent reply out.close))
    pub fails : AnsweredWith paging answers last seen now kept0 kept (take out.used held) gives (sent (unavailable (length now.sets)) true)

  -- the same, after a look
  pub record LooksAndResponds
      (last : Bool) (old now : Watched V) (kept0 kept : T) (given0 given : Option (List Reply)) (held : List ℕ) (out : Outgoing)
      : Type 0 where
    pub seen : Watched V
    pub looked : HasLooked old seen
    pub responds : Responds last seen now kept0 kept given0 given held out

  -- a reply to the first bytes held was sent, or a part of it
  pub record AnswersPiece (last : Bool) (old now : SessionWith T V) (held0 held : List ℕ) (t : Turn) : Type 0 where
    pub used : ℕ
    pub within : used ≤ length held0
    pub seen : Watched V
    pub gives : List Reply
    pub next : SentReply
    pub looked : HasLooked old.viewer seen
    pub learnt : MayHaveLearnt seen now.viewer
    pub answered : AnsweredWith paging answers last seen now.viewer old.pager now.pager (take used held0) gives next
    pub gave : now.given ≡ with_given old.given gives
    pub left_is : now.left ≡ old.left
    pub sends : IsSent old.taken now.taken held0 held used next t

  -- bytes were read, and then a piece of what is held was answered
  pub record ReadsAndAnswers (last : Bool) (old now : SessionWith T V) (held0 held : List ℕ) (t : Turn) : Type 0 where
    pub between : SessionWith T V
    pub middle : List ℕ
    pub reads : IsRead old between held0 middle
    pub piece : AnswersPiece last between now middle held t

  abbrev pub TurnAnswers : Bool → SessionWith T V → SessionWith T V → List ℕ → List ℕ → Turn → Type 0
  TurnAnswers last old now held0 held (turn.Replied n) = ReadsAndAnswers last old now held0 held (turn.Replied n)
  TurnAnswers last old now held0 held (turn.Closing n) = ReadsAndAnswers last old now held0 held (turn.Closing n)
  TurnAnswers last old now held0 held (turn.Stopped w) =
      ReadsAndStops old now held0 held w ⊎ ReadsAndAnswers last old now held0 held (turn.Stopped w)

  -- so many replies were written in whole; `held` was read beyond the requests of these, and the connection stays open or not
  pub record HasServed (old now : SessionWith T V) (held : List ℕ) (count last : ℕ) (stays : Bool) : Type 0 where
    pub replies : List SentReply
    pub read : List ℕ
    pub given : List Reply
    pub serves : ServesWith paging answers old.viewer old.pager replies read given now.viewer now.pager stays
    pub count_is : count ≡ length replies
    pub last_is : last ≡ number_after 0 replies
    pub came : Consumes old.left now.left (read ++ held)
    pub wrote : Appends old.taken now.taken (sent_texts replies)
    pub gave : now.given ≡ with_given old.given given
