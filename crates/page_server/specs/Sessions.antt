-- What is told of a link, its clerk, its viewer and its pager, at one moment.
use Rattle.std.specs.Prelude.{◌≡◌, ◌<◌, ◌⊎◌, ℕ, Bool, true, false, List, ◌++◌, length, take, Option, option_map, ⊤}
use Rattle.std.specs.Io.KnownBytes.{Appends, Consumes}
use Rattle.page_http.specs.declared.reply.Reply.{Reply}
use Rattle.set_publisher.specs.Values.{Watched}
use Rattle.page_server.specs.Answering.{Answering, Paging, no_paging}
use Rattle.page_server.specs.Sending.{SentReply, sent_text, sent_texts, number_after, is_last, max_requests}
use Rattle.page_server.specs.Serving.{AnsweredWith, ServesWith}
use Rattle.page_server.specs.Viewing.{HasLooked, MayHaveLearnt}
use Rattle.page_server.specs.Waiting.{StopsReading}
use Rattle.page_server.specs.declared.end.LinkEnd.{LinkEnd}
use Rattle.page_server.specs.declared.end.LinkWhy.{LinkWhy}
use Rattle.page_server.specs.declared.end.LinkWhy.TheVariants as why

-- the bytes left to read and the bytes taken, where the link tells them, the replies that the clerk gave, where it tells them, what the
-- viewer has seen, and what the pager keeps
pub record SessionWith (T V : Type 0) : Type 0 where
  pub left : Option (List ℕ)
  pub taken : Option (List ℕ)
  pub given : Option (List Reply)
  pub viewer : Watched V
  pub pager : T

abbrev pub session_with : {T V : Type 0} → Option (List ℕ) → Option (List ℕ) → Option (List Reply) → Watched V → T → SessionWith T V
session_with left taken given viewer pager = record { left = left; taken = taken; given = given; viewer = viewer; pager = pager }

-- where the pager keeps nothing
abbrev pub Session : Type 0 → Type 0
Session V = SessionWith ⊤ V

abbrev pub session : {V : Type 0} → Option (List ℕ) → Option (List ℕ) → Option (List Reply) → Watched V → Session V
session left taken given viewer = session_with left taken given viewer tt

-- the replies that the clerk had given, and these
abbrev pub with_given : Option (List Reply) → List Reply → Option (List Reply)
with_given given more = option_map (λ replies. replies ++ more) given

module _ {T V : Type 0} where
  -- all replies were written in whole, and since the last one nothing was but reading
  pub record IsSettled
      (old now : SessionWith T V) (replies : List SentReply) (given : List Reply) (seen : Watched V) (kept : T)
      : Type 0 where
    pub wrote : Appends old.taken now.taken (sent_texts replies)
    pub gave : now.given ≡ with_given old.given given
    pub viewer : now.viewer ≡ seen
    pub pager : now.pager ≡ kept

module _ {T V : Type 0} (paging : Paging T V) (answers : Answering V) where
  -- all replies were written in whole, and of the next one a part
  pub record IsCutOff
      (old now : SessionWith T V) (replies : List SentReply) (given : List Reply) (before : Watched V) (kept : T) (rest : List ℕ)
      : Type 0 where
    pub piece : List ℕ
    pub later : List ℕ
    pub cut : rest ≡ piece ++ later
    pub seen : Watched V
    pub gives : List Reply
    pub next : SentReply
    pub looked : HasLooked before seen
    pub learnt : MayHaveLearnt seen now.viewer
    pub answered : AnsweredWith paging answers (is_last (length replies)) seen now.viewer kept now.pager piece gives next
    pub count : ℕ
    pub wrote : Appends old.taken now.taken (sent_texts replies ++ take count (sent_text next))
    pub gave : now.given ≡ with_given old.given (given ++ gives)

  -- how a link ends, each end with its cause; that of a fault of the link is in its count too. The rest are the bytes that were read beyond
  -- those that were answered
  abbrev pub EndsBy : SessionWith T V → SessionWith T V → List SentReply → List Reply → Watched V → T → Bool → List ℕ → LinkWhy → Type 0
  EndsBy old now replies given seen kept stays rest why.Closed =
      IsSettled old now replies given seen kept × (stays ≡ true) × StopsReading now.left rest why.Closed
  EndsBy old now replies given seen kept stays rest why.CutRequest =
      IsSettled old now replies given seen kept × (stays ≡ true) × StopsReading now.left rest why.CutRequest
  EndsBy old now replies given seen kept stays rest why.Asked =
      IsSettled old now replies given seen kept × (stays ≡ false) × (length replies < max_requests)
  EndsBy old now replies given seen kept stays rest why.Full =
      IsSettled old now replies given seen kept × (stays ≡ false) × (length replies ≡ max_requests)
  EndsBy old now replies given seen kept stays rest why.LinkFault =
      (stays ≡ true) × ((IsSettled old now replies given seen kept × StopsReading now.left rest why.LinkFault)
      ⊎ IsCutOff old now replies given seen kept rest)
  EndsBy old now replies given seen kept stays rest why.Memory =
      IsSettled old now replies given seen kept × (stays ≡ true) × StopsReading now.left rest why.Memory

  -- what a link was served: the replies to the bytes read, in order, and how it ended
  pub record ServesLinkWith (old now : SessionWith T V) (end : LinkEnd) : Type 0 where
    pub replies : List SentReply
    pub read : List ℕ
    pub given : List Reply
    pub seen : Watched V
    pub kept : T
    pub stays : Bool
    pub rest : List ℕ
    pub serves : ServesWith paging answers old.viewer old.pager replies read given seen kept stays
    pub requests : end.requests ≡ length replies
    pub last : end.last ≡ number_after 0 replies
    pub came : Consumes old.left now.left (read ++ rest)
    pub ends : EndsBy old now replies given seen kept stays rest end.why

-- the same of a pager that keeps nothing
abbrev pub ServesLink : {V : Type 0} → Answering V → Session V → Session V → LinkEnd → Type 0
ServesLink answers old now end = ServesLinkWith no_paging answers old now end
