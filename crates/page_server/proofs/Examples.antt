-- What the definitions allow on small values, and what they do not.
use Rattle.std.proofs.Common.{ℕ, ◌≡◌, inl, inr, Bool, true, false, List, [], ◌∷◌, length, Option, arith, refl, ap}
use Rattle.page_datum.specs.declared.files.Files.{Files}
use Rattle.page_http.specs.Answers.{Executions, Meanings, Promises}
use Rattle.page_http.specs.Pages.{number_reply}
use Rattle.page_http.specs.declared.reply.Reply.{Reply}
use Rattle.page_http.specs.declared.request.Request.{Request}
use Rattle.page_http.proofs.Excluding.{whole_more}
use Rattle.set_publisher.specs.Values.{Watched}
use Rattle.page_server.specs.Answering.{Answering, AnswersBySet, Paging, BeginsWithRequest}
use Rattle.page_server.specs.Laws.{NumbersRise, ClosesAtEnd}
use Rattle.page_server.specs.Sending.{SentReply, number_after, is_last}
use Rattle.page_server.specs.Serving.{Serves, begun, sent}
use Rattle.page_server.specs.Sessions.{SessionWith, EndsBy}
use Rattle.page_server.specs.Waiting.{IsWaiting, StopsReading}
use Rattle.page_server.specs.declared.end.LinkWhy.TheVariants as why
use Rattle.page_server.proofs.Lengths.{request_some}
use Rattle.page_server.proofs.Order.{set_number}

abbrev numbered : ℕ → Bool → SentReply
numbered n close = sent (number_reply n) close

-- numbers may stay and rise, and may not fall, nor begin below what the viewer had seen
rises : NumbersRise 1 (numbered 1 false ∷ numbered 3 false ∷ numbered 3 true ∷ []) 3
rises = (omega arith, (omega arith, (omega arith, omega arith)))

does_not_fall : NumbersRise 1 (numbered 3 false ∷ numbered 2 false ∷ []) 3 → ⊥
does_not_fall h = omega (arith, h.1.0)

does_not_begin_below : NumbersRise 2 (numbered 1 false ∷ []) 3 → ⊥
does_not_begin_below h = omega (arith, h.0)

-- nothing follows a reply that closes the connection
nothing_follows : (stays : Bool) → ClosesAtEnd (numbered 1 true ∷ numbered 1 false ∷ []) stays → ⊥
nothing_follows stays h = let no : true ≡ false = h.0 in cc

-- the reply to request 10,000 is the last one
is_the_last : is_last 9999 ≡ true
is_the_last = refl

is_not_the_last : is_last 9998 ≡ false
is_not_the_last = refl

-- the number of the last reply, and 0 without one
no_number : number_after 0 [] ≡ 0
no_number = refl

last_of_two : number_after 0 (numbered 3 false ∷ numbered 4 true ∷ []) ≡ 4
last_of_two = refl

module _ {V : Type 0} (answers : Answering V) where
  -- a link is open before its first request
  nothing_yet : (first : Watched V) → Serves answers first [] [] [] first true
  nothing_yet first = begun

module _ {T V : Type 0} (paging : Paging T V) (answers : Answering V) where
  -- a link does not end as closed with bytes left, nor as asked to close while it stays open
  not_closed : (old now : SessionWith T V) (replies : List SentReply) (given : List Reply) (seen : Watched V) (kept : T) (stays : Bool)
      (b : ℕ) (rest : List ℕ) → EndsBy paging answers old now replies given seen kept stays (b ∷ rest) why.Closed → ⊥
  not_closed old now replies given seen kept stays b rest e = let no : b ∷ rest ≡ [] = e.2.0 in cc

  not_asked : (old now : SessionWith T V) (replies : List SentReply) (given : List Reply) (seen : Watched V) (kept : T) (rest : List ℕ)
      → EndsBy paging answers old now replies given seen kept true rest why.Asked → ⊥
  not_asked old now replies given seen kept rest e = let no : true ≡ false = e.1 in cc

-- no end but a closing reply leaves a request that was read unanswered
none_left : (bytes : List ℕ) (r : Request) (used : ℕ) → BeginsWithRequest bytes r used → IsWaiting bytes → ⊥
none_left bytes r used w (inl none) =
    omega (arith, request_some bytes r used w, w.1.within, ap length none)
none_left bytes r used w (inr more) = whole_more bytes r used w.0 w.1 more

no_memory_leaves_none : (left : Option (List ℕ)) (bytes : List ℕ) (r : Request) (used : ℕ) → BeginsWithRequest bytes r used
    → StopsReading left bytes why.Memory → ⊥
no_memory_leaves_none left bytes r used w stops = none_left bytes r used w stops

-- a set's reply does not carry another number
module _ {V : Type 0} (execution : V → Executions) (made_of : V → Files) (meant : Files → Meanings) (sound : Files → Promises) where
  no_other_number : (set : V) (r : Request) (reply : Reply) → AnswersBySet execution made_of meant sound set r 2 reply
      → reply.number ≡ 3 → ⊥
  no_other_number set r reply a other =
      let two = set_number execution made_of meant sound set r 2 reply a in omega (arith, two, other)
