-- What goes out to the first bytes held.
use Rattle.std.proofs.Common.{ℕ, ◌≡◌, ◌≢◌, ◌⊎◌, inl, inr, Bool, true, ◌||◌, List, [], ◌∷◌, length, take, Option, Result, Ok}
use Rattle.std.proofs.Common.{Err, IfOk, arith, refl, sym, ap, subst, ◌∙◌, append-nil}
use Rattle.std.proofs.lemmas.List.{take_all}
use Rattle.page_io.specs.declared.stop.Memory.{Memory}
use Rattle.page_http.specs.Asks.{plan_of, by_reload}
use Rattle.page_http.specs.Refusals.{phrase_reply}
use Rattle.page_http.specs.Replies.{unavailable}
use Rattle.page_http.specs.Requests.{Refuses}
use Rattle.page_http.specs.declared.answer.Answer.{Answer}
use Rattle.page_http.specs.declared.answer.Answer.TheVariants as answer
use Rattle.page_http.specs.declared.reply.Reply.{Reply}
use Rattle.page_http.specs.declared.request.Request.{Request}
use Rattle.page_office.specs.Clerks.{GivesReply, IsReloadReply}
use Rattle.set_publisher.specs.Values.{Watched, IsPublishedSetOf}
use Rattle.page_server.specs.Answering.{Answering, Paging, BeginsWithRequest, IsRequest}
use Rattle.page_server.specs.Serving.{AnsweredWith, IsPagedOnce, IsPagedOrNot, sent, by_set, by_clerk, refused, no_memory, no_memory_to_send}
use Rattle.page_server.specs.Turns.{IsBySet, AnswersOnce, Responds}
use Rattle.page_server.specs.Viewing.{MayHaveLearnt}
use Rattle.page_server.specs.declared.outgoing.Outgoing.{Outgoing}
use Rattle.page_server.proofs.Given.{with_none}
use Rattle.page_server.proofs.Lengths.{request_some, take_some}
use Rattle.page_server.proofs.Pieces.{request_alone, refused_alone}

abbrev pub outgoing : Result Reply Memory → Bool → ℕ → ℕ → Outgoing
outgoing reply close number used = record { reply = reply; close = close; number = number; used = used }

whole_some : (held : List ℕ) → held ≢ [] → take (length held) held ≢ []
whole_some held some none = some (sym (take_all (length held) held (omega arith)) ∙ none)

module _ {V : Type 0} where
  pub not_learnt : (seen : Watched V) → MayHaveLearnt seen seen
  not_learnt seen = record { desk = refl; grows = ([], append-nil seen.sets); looks = refl; misses = refl }

module _ {T V : Type 0} (paging : Paging T V) where
  -- the pager was asked, by the last set that the viewer has seen
  pub paged_once : (seen : Watched V) (kept0 kept : T) (r : Request) (result : Result Answer Memory) (set : V) (number : ℕ)
      → number ≡ length seen.sets → IsPublishedSetOf seen.sets (length seen.sets) set → paging kept0 kept set r number result
      → IsPagedOnce paging seen kept0 kept r result
  paged_once seen kept0 kept r result set number counted is pages = record {
    set = set;
    is_seen = is;
    pages = subst (λ (k : ℕ). paging kept0 kept set r k result) counted pages;
  }

  paged_or_not : (seen : Watched V) (kept0 kept : T) (r : Request) (piece : List ℕ) → IsRequest piece r
      → (kept ≡ kept0) ⊎ ((result : Result Answer Memory) × IsPagedOnce paging seen kept0 kept r result)
      → IsPagedOrNot paging seen kept0 kept piece
  paged_or_not seen kept0 kept r piece is (inl same) = inl same
  paged_or_not seen kept0 kept r piece is (inr once) = inr (r, is, once)

module _ {T V : Type 0} (paging : Paging T V) (answers : Answering V) where
  -- a set's reply to a request, where the viewer has this number
  pub by_set_of : (seen : Watched V) (kept0 kept : T) (given : Option (List Reply)) (r : Request) (reply : Reply) (set : V) (number : ℕ)
      → number ≡ length seen.sets → IsPublishedSetOf seen.sets (length seen.sets) set → answers set r number reply
      → paging kept0 kept set r number (Ok (answer.Reply reply))
      → IsBySet paging answers seen seen kept0 kept given given r reply
  by_set_of seen kept0 kept given r reply set number counted is answers_it pages = record {
    set = set;
    is_seen = is;
    answers_it = subst (λ (k : ℕ). answers set r k reply) counted answers_it;
    pages = subst (λ (k : ℕ). paging kept0 kept set r k (Ok (answer.Reply reply))) counted pages;
    same = refl;
    given_is = refl;
  }

  -- a clerk's reply to a request, or none
  pub by_clerk_of : (seen now : Watched V) (kept0 kept : T) (given0 given : Option (List Reply)) (r : Request)
      (result : Result Reply Memory) (set : V) (number : ℕ)
      → number ≡ length seen.sets → IsPublishedSetOf seen.sets (length seen.sets) set
      → paging kept0 kept set r number (Ok answer.Reload) → plan_of r number ≡ by_reload
      → IfOk result (IsReloadReply seen now number) → GivesReply given0 given result
      → AnswersOnce paging answers seen now kept0 kept given0 given r result
  by_clerk_of seen now kept0 kept given0 given r (Ok reply) set number counted is pages asks replies gives = inr record {
    asks = subst (λ (k : ℕ). plan_of r k ≡ by_reload) counted asks;
    replies = subst (λ (k : ℕ). IsReloadReply seen now k reply) counted replies;
    paged = paged_once paging seen kept0 kept r (Ok answer.Reload) set number counted is pages;
    gave = gives;
  }
  by_clerk_of seen now kept0 kept given0 given r (Err e) set number counted is pages asks replies gives =
      (gives, inr (Ok answer.Reload, paged_once paging seen kept0 kept r (Ok answer.Reload) set number counted is pages))

  pub responds_request : (last : Bool) (seen now : Watched V) (kept0 kept : T) (given0 given : Option (List Reply)) (held : List ℕ)
      (r : Request) (used : ℕ) (reply : Result Reply Memory) (close : Bool) (number : ℕ)
      → BeginsWithRequest held r used → AnswersOnce paging answers seen now kept0 kept given0 given r reply → MayHaveLearnt seen now
      → close ≡ (r.close || last) → number ≡ length now.sets
      → Responds paging answers last seen now kept0 kept given0 given held (outgoing reply close number used)
  responds_request last seen now kept0 kept given0 given held r used (Ok reply) close number w (inl s) learnt closes counted =
      let is = request_alone held r used w in
      record {
        gives = [];
        learnt = learnt;
        gave = s.given_is ∙ sym (with_none given0);
        within = w.1.within;
        number_is = counted;
        replies =
            subst (λ (z : Bool). AnsweredWith paging answers last seen now kept0 kept (take used held) [] (sent reply z)) (sym closes)
            (by_set r s.set reply is s.is_seen s.answers_it s.same s.pages);
        fails =
            no_memory (take_some held used (request_some held r used w) w.1.within)
            (inr (r, is, (Ok (answer.Reply reply), record { set = s.set; is_seen = s.is_seen; pages = s.pages })));
      }
  responds_request last seen now kept0 kept given0 given held r used (Ok reply) close number w (inr k) learnt closes counted = record {
    gives = reply ∷ [];
    learnt = learnt;
    gave = k.gave;
    within = w.1.within;
    number_is = counted;
    replies =
        subst (λ (z : Bool). AnsweredWith paging answers last seen now kept0 kept (take used held) (reply ∷ []) (sent reply z)) (sym closes)
        (by_clerk r reply (request_alone held r used w) k.asks k.replies k.paged);
    fails = no_memory_to_send r reply (request_alone held r used w) k.asks k.replies k.paged;
  }
  responds_request last seen now kept0 kept given0 given held r used (Err e) close number w (same, paged) learnt closes counted = record {
    gives = [];
    learnt = learnt;
    gave = same ∙ sym (with_none given0);
    within = w.1.within;
    number_is = counted;
    replies = tt;
    fails =
        no_memory (take_some held used (request_some held r used w) w.1.within)
        (paged_or_not paging seen kept0 kept r (take used held) (request_alone held r used w) paged);
  }

  refused_reply : (last : Bool) (seen : Watched V) (kept : T) (held : List ℕ) (status : ℕ) (reply : Result Reply Memory) (number : ℕ)
      → Refuses held status → IfOk reply (λ x. x ≡ phrase_reply status number) → number ≡ length seen.sets
      → IfOk reply (λ x. AnsweredWith paging answers last seen seen kept kept (take (length held) held) [] (sent x true))
  refused_reply last seen kept held status (Ok reply) number refuses is counted =
      subst (λ (x : Reply). AnsweredWith paging answers last seen seen kept kept (take (length held) held) [] (sent x true))
      (sym (is ∙ ap (λ (k : ℕ). phrase_reply status k) counted))
      (refused status (refused_alone held status refuses) refl refl)
  refused_reply last seen kept held status (Err e) number refuses is counted = tt

  unanswered : (last : Bool) (seen : Watched V) (kept : T) (held : List ℕ) (used : ℕ) → held ≢ [] → used ≡ length held
      → AnsweredWith paging answers last seen seen kept kept (take used held) [] (sent (unavailable (length seen.sets)) true)
  unanswered last seen kept held used some all =
      subst
      (λ (k : ℕ). AnsweredWith paging answers last seen seen kept kept (take k held) [] (sent (unavailable (length seen.sets)) true))
      (sym all) (no_memory (whole_some held some) (inl refl))

  pub responds_refused : (last : Bool) (seen : Watched V) (kept : T) (given : Option (List Reply)) (held : List ℕ) (status : ℕ)
      (reply : Result Reply Memory) (number used : ℕ)
      → Refuses held status → held ≢ [] → IfOk reply (λ x. x ≡ phrase_reply status number) → number ≡ length seen.sets
      → used ≡ length held
      → Responds paging answers last seen seen kept kept given given held (outgoing reply true number used)
  responds_refused last seen kept given held status reply number used refuses some is counted all = record {
    gives = [];
    learnt = not_learnt seen;
    gave = sym (with_none given);
    within = omega (arith, all);
    number_is = counted;
    replies =
        subst
        (λ (k : ℕ). IfOk reply (λ x. AnsweredWith paging answers last seen seen kept kept (take k held) [] (sent x true))) (sym all)
        (refused_reply last seen kept held status reply number refuses is counted);
    fails = unanswered last seen kept held used some all;
  }

  pub responds_unread : (last : Bool) (seen : Watched V) (kept : T) (given : Option (List Reply)) (held : List ℕ) (e : Memory)
      (number used : ℕ) → held ≢ [] → number ≡ length seen.sets → used ≡ length held
      → Responds paging answers last seen seen kept kept given given held (outgoing (Err e) true number used)
  responds_unread last seen kept given held e number used some counted all = record {
    gives = [];
    learnt = not_learnt seen;
    gave = sym (with_none given);
    within = omega (arith, all);
    number_is = counted;
    replies = tt;
    fails = unanswered last seen kept held used some all;
  }
