-- How often a pager is asked on a link.
use Rattle.std.proofs.Common.{ℕ, ◌+◌, ◌≤◌, inl, inr, Bool, List, [], ◌∷◌, length, Result, arith, ap, length-append}
use Rattle.page_http.specs.declared.answer.Answer.{Answer}
use Rattle.page_http.specs.declared.reply.Reply.{Reply}
use Rattle.page_http.specs.declared.request.Request.{Request}
use Rattle.page_io.specs.declared.stop.Memory.{Memory}
use Rattle.set_publisher.specs.Values.{Watched}
use Rattle.page_server.specs.Answering.{Answering, Paging}
use Rattle.page_server.specs.Sending.{SentReply, is_last}
use Rattle.page_server.specs.Serving.{AnsweredWith, ServesWith, IsPagedOrNot, begun, replied, by_set, by_clerk, refused, no_memory, no_memory_to_send}
use Rattle.page_server.specs.Sessions.{SessionWith, ServesLinkWith, EndsBy}
use Rattle.page_server.specs.declared.end.LinkEnd.{LinkEnd}
use Rattle.page_server.specs.declared.end.LinkWhy.{LinkWhy}
use Rattle.page_server.specs.declared.end.LinkWhy.TheVariants as why

-- a pager that counts no more than one each time that it is asked
module _ {T V : Type 0} (paging : Paging T V) (answers : Answering V) (count : T → ℕ)
    (one : (kept0 kept : T) (set : V) (r : Request) (n : ℕ) (result : Result Answer Memory)
    → paging kept0 kept set r n result → count kept ≤ count kept0 + 1) where
  paged_counted : (seen : Watched V) (kept0 kept : T) (piece : List ℕ) → IsPagedOrNot paging seen kept0 kept piece
      → count kept ≤ count kept0 + 1
  paged_counted seen kept0 kept piece (inl same) = omega (arith, ap count same)
  paged_counted seen kept0 kept piece (inr (r, is, (result, once))) = one kept0 kept once.set r (length seen.sets) result once.pages

  answered_counted : (last : Bool) (seen now : Watched V) (kept0 kept : T) (piece : List ℕ) (gives : List Reply) (s : SentReply)
      → AnsweredWith paging answers last seen now kept0 kept piece gives s → count kept ≤ count kept0 + 1
  answered_counted last seen now kept0 kept piece gives s (by_set r set reply is_request is_seen answers_it same pages) =
      one kept0 kept set r (length seen.sets) _ pages
  answered_counted last seen now kept0 kept piece gives s (by_clerk r reply is_request asks replies paged) =
      one kept0 kept paged.set r (length seen.sets) _ paged.pages
  answered_counted last seen now kept0 kept piece gives s (refused status refuses same unasked) = omega (arith, ap count unasked)
  answered_counted last seen now kept0 kept piece gives s (no_memory some paged) = paged_counted seen kept0 kept piece paged
  answered_counted last seen now kept0 kept piece gives s (no_memory_to_send r reply is_request asks replies paged) =
      one kept0 kept paged.set r (length seen.sets) _ paged.pages

  served_counted : (first : Watched V) (kept0 : T) (now : Watched V) (kept : T) (replies : List SentReply) (read : List ℕ) (given : List Reply) (stays : Bool)
      → ServesWith paging answers first kept0 replies read given now kept stays → count kept ≤ count kept0 + length replies
  served_counted first kept0 now kept replies read given stays begun = omega arith
  served_counted first kept0 now kept replies read given stays
      (replied rs read0 given0 before seen now2 kept1 kept2 piece gives s so_far looked learnt answered) =
      omega (
        arith,
        length-append rs (s ∷ []),
        served_counted first kept0 before kept1 rs read0 given0 _ so_far,
        answered_counted (is_last (length rs)) seen now2 kept1 kept2 piece gives s answered,
      )

  ends_counted : (old now : SessionWith T V) (replies : List SentReply) (given : List Reply) (seen : Watched V) (kept : T) (stays : Bool)
      (rest : List ℕ) (w : LinkWhy) → EndsBy paging answers old now replies given seen kept stays rest w
      → count now.pager ≤ count kept + 1
  ends_counted old now replies given seen kept stays rest why.Closed e = omega (arith, ap count e.0.pager)
  ends_counted old now replies given seen kept stays rest why.CutRequest e = omega (arith, ap count e.0.pager)
  ends_counted old now replies given seen kept stays rest why.Asked e = omega (arith, ap count e.0.pager)
  ends_counted old now replies given seen kept stays rest why.Full e = omega (arith, ap count e.0.pager)
  ends_counted old now replies given seen kept stays rest why.Memory e = omega (arith, ap count e.0.pager)
  ends_counted old now replies given seen kept stays rest why.LinkFault (open_is, inl (settled, stops)) =
      omega (arith, ap count settled.pager)
  ends_counted old now replies given seen kept stays rest why.LinkFault (open_is, inr cut) =
      answered_counted (is_last (length replies)) cut.seen now.viewer kept now.pager cut.piece cut.gives cut.next cut.answered

  -- no more than the replies, and one
  pub link_counted : (old now : SessionWith T V) (end : LinkEnd) → ServesLinkWith paging answers old now end
      → count now.pager ≤ count old.pager + end.requests + 1
  link_counted old now end s =
      omega (
        arith,
        s.requests,
        served_counted old.viewer old.pager s.seen s.kept s.replies s.read s.given s.stays s.serves,
        ends_counted old now s.replies s.given s.seen s.kept s.stays s.rest end.why s.ends,
      )
