-- A request for a page that is done is answered with it.
use Rattle.std.proofs.Common.{ℕ, ◌≡◌, ◌⊎◌, inl, inr, Bool, List, length, Some, refl, sym, ap, subst, ◌∙◌}
use Rattle.page_datum.specs.Data.{Data}
use Rattle.page_datum.specs.Execution.{Ending, done}
use Rattle.page_datum.specs.declared.files.Files.{Files}
use Rattle.page_http.specs.Answers.{Executions, Meanings, Promises, IsReplyTo}
use Rattle.page_http.specs.Asks.{AsksPage, plan_of, by_reload}
use Rattle.page_http.specs.Pages.{page_reply, ending_reply, done_reply}
use Rattle.page_http.specs.declared.reply.Reply.{Reply}
use Rattle.page_http.specs.declared.request.Request.{Request}
use Rattle.page_http.specs.Replies.{unavailable}
use Rattle.page_http.proofs.Excluding.{excluding}
use Rattle.page_http.proofs.OneReply.{have_one_reply}
use Rattle.set_publisher.specs.Values.{Watched, IsPublishedSetOf}
use Rattle.page_server.specs.Answering.{AnswersBySet, Paging, no_paging, IsRequest}
use Rattle.page_server.specs.Laws.{AsksForPage, PagesAreAnswered}
use Rattle.page_server.specs.Sending.{SentReply}
use Rattle.page_server.specs.Serving.{AnsweredWith, by_set, by_clerk, refused, no_memory, no_memory_to_send}

one_request : (piece : List ℕ) (r q : Request) → IsRequest piece r → IsRequest piece q → r ≡ q
one_request piece r q a b = ((excluding piece).one_whole r q (length piece) (length piece) a.0 b.0 a.1 b.1).0

one_set : {V : Type 0} (sets : List V) (n : ℕ) (a b : V) → IsPublishedSetOf sets n a → IsPublishedSetOf sets n b → a ≡ b
one_set sets n a b x y = let both : Some a ≡ Some b = sym x ∙ y in cc

module _ {V : Type 0} (execution : V → Executions) (made_of : V → Files) (meant : Files → Meanings) (sound : Files → Promises) where
  as_reply : (set : V) (r : Request) (n : ℕ) (reply : Reply) → AnswersBySet execution made_of meant sound set r n reply
      → IsReplyTo (execution set) r n reply
  as_reply set r n reply (inl p) = inl p.page
  as_reply set r n reply (inr o) = inr o

  page_asked : (set : V) (r : Request) (n : ℕ) (name : List ℕ) (datum : Data) → AsksPage (plan_of r n) name datum
      → IsReplyTo (execution set) r n (page_reply (execution set name datum) n)
  page_asked set r n name datum asks = inl record { name = name; datum = datum; asks = asks; reply_is = refl }

  done_page : (set : V) (n : ℕ) (name : List ℕ) (datum : Data) → (execution set name datum).ending ≡ done
      → page_reply (execution set name datum) n ≡ done_reply (execution set name datum).bytes n
  done_page set n name datum ends = ap (λ (z : Ending). ending_reply z (execution set name datum).bytes n) ends

  -- a request for a page is none for a reload
  not_reload : (seen : Watched V) (piece name : List ℕ) (datum : Data) (set : V) (r : Request) → IsRequest piece r
      → plan_of r (length seen.sets) ≡ by_reload → AsksForPage execution made_of meant sound seen piece name datum set → ⊥
  not_reload seen piece name datum set r is_request asks a =
      (have_one_reply (execution set) a.request (length seen.sets)).reload (page_reply (execution set name datum) (length seen.sets))
      (page_asked set a.request (length seen.sets) name datum a.asks)
      (subst (λ (z : Request). plan_of z (length seen.sets) ≡ by_reload) (one_request piece r a.request is_request a.reads) asks)

module _ {T V : Type 0} (paging : Paging T V)
    (execution : V → Executions) (made_of : V → Files) (meant : Files → Meanings) (sound : Files → Promises) where
  -- whatever a pager keeps
  pub pages_answered_with : (last : Bool) (seen now : Watched V) (kept0 kept : T) (piece : List ℕ) (gives : List Reply) (s : SentReply)
      (name : List ℕ) (datum : Data) (set : V)
      → AnsweredWith paging (AnswersBySet execution made_of meant sound) last seen now kept0 kept piece gives s
      → AsksForPage execution made_of meant sound seen piece name datum set
      → (s.reply ≡ done_reply (execution set name datum).bytes (length seen.sets))
      ⊎ (s.reply ≡ unavailable (length now.sets))
  pages_answered_with last seen now kept0 kept piece gives s name datum set
      (by_set r other reply is_request is_seen answers_it same pages) a =
      let request = one_request piece r a.request is_request a.reads in
      let one = one_set seen.sets (length seen.sets) other set is_seen a.is_seen in
      let found =
      subst (λ (z : V). IsReplyTo (execution z) a.request (length seen.sets) reply) one
      (subst (λ (z : Request). IsReplyTo (execution other) z (length seen.sets) reply) request
      (as_reply execution made_of meant sound other r (length seen.sets) reply answers_it)) in
      inl ((have_one_reply (execution set) a.request (length seen.sets)).one reply
      (page_reply (execution set name datum) (length seen.sets)) found
      (page_asked execution made_of meant sound set a.request (length seen.sets) name datum a.asks)
      ∙ done_page execution made_of meant sound set (length seen.sets) name datum a.ends)
  pages_answered_with last seen now kept0 kept piece gives s name datum set (by_clerk r reply is_request asks replies paged) a =
      absurd (not_reload execution made_of meant sound seen piece name datum set r is_request asks a)
  pages_answered_with last seen now kept0 kept piece gives s name datum set (refused status refuses same unasked) a =
      absurd ((excluding piece).whole_refused a.request (length piece) a.reads.0 status a.reads.1 refuses)
  pages_answered_with last seen now kept0 kept piece gives s name datum set (no_memory some paged) a = inr refl
  pages_answered_with last seen now kept0 kept piece gives s name datum set
      (no_memory_to_send r reply is_request asks replies paged) a =
      inr refl

module _ {V : Type 0} (execution : V → Executions) (made_of : V → Files) (meant : Files → Meanings) (sound : Files → Promises) where
  pub pages_answered : PagesAreAnswered execution made_of meant sound
  pages_answered last seen now piece gives s name datum set answered asks =
      pages_answered_with no_paging execution made_of meant sound last seen now tt tt piece gives s name datum set answered asks
