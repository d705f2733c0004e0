-- The replies of a link are in order.
use Rattle.std.proofs.Common.{ℕ, ◌≡◌, ◌+◌, ◌<◌, ◌≤◌, inl, inr, Bool, true, false, not, List, [], ◌∷◌, ◌++◌, length, arith, rules}
use Rattle.std.proofs.Common.{refl, sym, ap, subst, ◌∙◌, length-append, append_assoc, append-nil}
use mathlib.Core.List.{IsPrefix}
use Rattle.page_datum.specs.Execution.{Ending, done, no_root, faulted}
use Rattle.page_datum.specs.declared.files.Files.{Files}
use Rattle.page_http.specs.Answers.{Executions, Meanings, Promises}
use Rattle.page_http.specs.Asks.{Asked, refused, by_number, by_reload, by_form, by_json, IsRefusedWith, plan_of}
use Rattle.page_http.specs.Pages.{ending_reply, number_reply}
use Rattle.page_http.specs.Refusals.{refusal_reply}
use Rattle.page_http.specs.declared.reply.Reply.{Reply}
use Rattle.page_http.specs.declared.request.Request.{Request}
use Rattle.page_office.specs.Clerks.{IsReloadRefusal}
use Rattle.set_publisher.specs.Values.{Watched}
use Rattle.page_server.specs.Answering.{Answering, AnswersBySet, Paging, no_paging}
use Rattle.page_server.specs.Laws.{NumbersRise, ClosesAtEnd, AreServedInOrder, RepliesAreInOrder}
use Rattle.page_server.specs.Sending.{SentReply, number_after, is_last}
use Rattle.page_server.specs.Serving as serving
use Rattle.page_server.specs.Serving.{AnsweredWith, ServesWith, begun, replied}
use Rattle.page_server.specs.Sessions.{SessionWith, ServesLinkWith, EndsBy}
use Rattle.page_server.specs.declared.end.LinkEnd.{LinkEnd}
use Rattle.page_server.specs.declared.end.LinkWhy.{LinkWhy}
use Rattle.page_server.specs.declared.end.LinkWhy.TheVariants as why
use Rattle.page_server.proofs.Turning.{last_closes, below_last}

prefix_length : {A : Type 0} (xs ys : List A) → IsPrefix xs ys → length xs ≤ length ys
prefix_length xs ys p = omega (arith, sym (ap length p.1) ∙ length-append xs p.0)

prefix_self : {A : Type 0} (xs : List A) → IsPrefix xs xs
prefix_self xs = ([], append-nil xs)

prefix_twice : {A : Type 0} (xs ys zs : List A) → IsPrefix xs ys → IsPrefix ys zs → IsPrefix xs zs
prefix_twice xs ys zs p q = (p.0 ++ q.0, sym (append_assoc xs p.0 q.0) ∙ (ap (λ w. w ++ q.0) p.1 ∙ q.1))

-- the number in a set's reply is the one that is handed in

ending_number : (e : Ending) (page : List ℕ) (n : ℕ) → (ending_reply e page n).number ≡ n
ending_number done page n = refl
ending_number no_root page n = refl
ending_number (faulted fault) page n = refl

-- the reply that refuses what is asked
abbrev refusal_of : Asked → ℕ → Reply
refusal_of (refused why) n = refusal_reply why n
refusal_of by_number n = number_reply n
refusal_of by_reload n = number_reply n
refusal_of (by_form name form) n = number_reply n
refusal_of (by_json name json) n = number_reply n

refusal_number : (asked : Asked) (n : ℕ) → (refusal_of asked n).number ≡ n
refusal_number asked n = first_of (grind arith, search rules)

refused_number : (asked : Asked) (n : ℕ) (reply : Reply) → IsRefusedWith asked n reply → reply.number ≡ n
refused_number (refused why) n reply e = ap (λ (z : Reply). z.number) e ∙ refusal_number (refused why) n
refused_number (by_json name json) n reply (why, no_datum, e) = ap (λ (z : Reply). z.number) e
refused_number (by_form name form) n reply e = absurd e
refused_number by_number n reply e = absurd e
refused_number by_reload n reply e = absurd e

reload_number : (n : ℕ) (reply : Reply) → IsReloadRefusal n reply → reply.number ≡ n
reload_number n reply (inl (lines, e)) = ap (λ (z : Reply). z.number) e
reload_number n reply (inr e) = ap (λ (z : Reply). z.number) e

-- numbers

rise_push : (n m p : ℕ) (ss : List SentReply) (s : SentReply) → NumbersRise n ss m → m ≤ s.reply.number → s.reply.number ≤ p
    → NumbersRise n (ss ++ s ∷ []) p
rise_push n m p [] s h a b = (omega (arith, h), b)
rise_push n m p (t ∷ ss) s h a b = (h.0, rise_push t.reply.number m p ss s h.1 a b)

rise_last : (k n m : ℕ) (ss : List SentReply) → NumbersRise n ss m → 0 < length ss → (n ≤ number_after k ss) × (number_after k ss ≤ m)
rise_last k n m [] h some = absurd (omega arith)
rise_last k n m (s ∷ []) h some = h
rise_last k n m (s ∷ t ∷ ss) h some =
    let r = rise_last s.reply.number s.reply.number m (t ∷ ss) h.1 (omega arith) in (omega (arith, h.0, r.0), r.1)

-- closing

closes_push : (ss : List SentReply) (s : SentReply) → ClosesAtEnd ss true → ClosesAtEnd (ss ++ s ∷ []) (not s.close)
closes_push [] s h = refl
closes_push (t ∷ []) s h = (stays_open t.close h, refl)
  where
    stays_open : (b : Bool) → true ≡ not b → b ≡ false
    stays_open true e = cc
    stays_open false e = refl
closes_push (t ∷ u ∷ ss) s h = (h.0, closes_push (u ∷ ss) s h.1)

module _ {V : Type 0} (execution : V → Executions) (made_of : V → Files) (meant : Files → Meanings) (sound : Files → Promises) where
  pub set_number : (set : V) (r : Request) (n : ℕ) (reply : Reply) → AnswersBySet execution made_of meant sound set r n reply
      → reply.number ≡ n
  set_number set r n reply (inl p) =
      ap (λ (z : Reply). z.number) p.page.reply_is
      ∙ ending_number (execution set p.page.name p.page.datum).ending (execution set p.page.name p.page.datum).bytes n
  set_number set r n reply (inr (inl (asked, e))) = ap (λ (z : Reply). z.number) e
  set_number set r n reply (inr (inr e)) = refused_number (plan_of r n) n reply e

module _ {T V : Type 0} (paging : Paging T V)
    (execution : V → Executions) (made_of : V → Files) (meant : Files → Meanings) (sound : Files → Promises) where
  -- the number in a reply is one that the viewer has seen by then, and no less than when the piece was read
  answered_number : (last : Bool) (seen now : Watched V) (kept0 kept : T) (piece : List ℕ) (gives : List Reply) (s : SentReply)
      → IsPrefix seen.sets now.sets
      → AnsweredWith paging (AnswersBySet execution made_of meant sound) last seen now kept0 kept piece gives s
      → (length seen.sets ≤ s.reply.number) × (s.reply.number ≤ length now.sets)
  answered_number last seen now kept0 kept piece gives s grows (serving.by_set r set reply is_request is_seen answers_it same pages) =
      let e = set_number execution made_of meant sound set r (length seen.sets) reply answers_it in
      (omega (arith, e), omega (arith, e, prefix_length seen.sets now.sets grows))
  answered_number last seen now kept0 kept piece gives s grows (serving.by_clerk r reply is_request asks (inl e) paged) =
      let n : reply.number ≡ length now.sets = ap (λ (z : Reply). z.number) e in
      (omega (arith, n, prefix_length seen.sets now.sets grows), omega (arith, n))
  answered_number last seen now kept0 kept piece gives s grows (serving.by_clerk r reply is_request asks (inr (same, e)) paged) =
      let n = reload_number (length seen.sets) reply e in
      (omega (arith, n), omega (arith, n, prefix_length seen.sets now.sets grows))
  answered_number last seen now kept0 kept piece gives s grows (serving.refused status refuses same unasked) =
      (omega arith, prefix_length seen.sets now.sets grows)
  answered_number last seen now kept0 kept piece gives s grows (serving.no_memory some paged) =
      (prefix_length seen.sets now.sets grows, omega arith)
  answered_number last seen now kept0 kept piece gives s grows (serving.no_memory_to_send r reply is_request asks replies paged) =
      (prefix_length seen.sets now.sets grows, omega arith)

  numbers_rise : (first : Watched V) (kept0 : T) (now : Watched V) (kept : T) (replies : List SentReply) (read : List ℕ) (given : List Reply) (stays : Bool)
      → ServesWith paging (AnswersBySet execution made_of meant sound) first kept0 replies read given now kept stays
      → NumbersRise (length first.sets) replies (length now.sets)
  numbers_rise first kept0 now kept replies read given stays begun = omega arith
  numbers_rise first kept0 now kept replies read given stays
      (replied rs read0 given0 before seen now2 kept1 kept2 piece gives s so_far looked learnt answered) =
      let n = answered_number (is_last (length rs)) seen now2 kept1 kept2 piece gives s learnt.grows answered in
      rise_push (length first.sets) (length before.sets) (length now2.sets) rs s
      (numbers_rise first kept0 before kept1 rs read0 given0 true so_far)
      (omega (arith, n.0, prefix_length before.sets seen.sets looked.grows)) n.1

module _ {T V : Type 0} (paging : Paging T V) (answers : Answering V) where
  closes_at_end : (first : Watched V) (kept0 : T) (now : Watched V) (kept : T) (replies : List SentReply) (read : List ℕ) (given : List Reply) (stays : Bool)
      → ServesWith paging answers first kept0 replies read given now kept stays → ClosesAtEnd replies stays
  closes_at_end first kept0 now kept replies read given stays begun = refl
  closes_at_end first kept0 now kept replies read given stays
      (replied rs read0 given0 before seen now2 kept1 kept2 piece gives s so_far looked learnt answered) =
      closes_push rs s (closes_at_end first kept0 before kept1 rs read0 given0 true so_far)

  -- a connection that stays open has had less than the most replies

  abbrev IsBelow : ℕ → Bool → Type 0
  IsBelow count true = count < 10000
  IsBelow count false = count ≤ 10000

  below_push : (count : ℕ) (last close : Bool) → is_last count ≡ last → (last ≡ true → close ≡ true) → count < 10000
      → IsBelow (count + 1) (not close)
  below_push count last true is closes below = omega arith
  below_push count true false is closes below = let no : false ≡ true = closes refl in cc
  below_push count false false is closes below = below_last count is below

  below : (first : Watched V) (kept0 : T) (now : Watched V) (kept : T) (replies : List SentReply) (read : List ℕ) (given : List Reply) (stays : Bool)
      → ServesWith paging answers first kept0 replies read given now kept stays → IsBelow (length replies) stays
  below first kept0 now kept replies read given stays begun = omega arith
  below first kept0 now kept replies read given stays
      (replied rs read0 given0 before seen now2 kept1 kept2 piece gives s so_far looked learnt answered) =
      let one : length (rs ++ s ∷ []) ≡ length rs + 1 = length-append rs (s ∷ []) in
      subst (λ (k : ℕ). IsBelow k (not s.close)) (sym one)
      (below_push (length rs) (is_last (length rs)) s.close refl
      (λ e. last_closes paging answers seen now2 kept1 kept2 piece gives s
      (subst (λ (z : Bool). AnsweredWith paging answers z seen now2 kept1 kept2 piece gives s) e answered))
      (below first kept0 before kept1 rs read0 given0 true so_far))

  is_most : (count : ℕ) (stays : Bool) → IsBelow count stays → count ≤ 10000
  is_most count true h = omega (arith, h)
  is_most count false h = h

  -- what the viewer has seen grows

  serves_grow : (first : Watched V) (kept0 : T) (now : Watched V) (kept : T) (replies : List SentReply) (read : List ℕ) (given : List Reply) (stays : Bool)
      → ServesWith paging answers first kept0 replies read given now kept stays → IsPrefix first.sets now.sets
  serves_grow first kept0 now kept replies read given stays begun = prefix_self first.sets
  serves_grow first kept0 now kept replies read given stays
      (replied rs read0 given0 before seen now2 kept1 kept2 piece gives s so_far looked learnt answered) =
      prefix_twice first.sets before.sets now2.sets (serves_grow first kept0 before kept1 rs read0 given0 true so_far)
      (prefix_twice before.sets seen.sets now2.sets looked.grows learnt.grows)

  same_grows : (old now : SessionWith T V) (seen : Watched V) → now.viewer ≡ seen → IsPrefix seen.sets now.viewer.sets
  same_grows old now seen same = subst (λ (z : Watched V). IsPrefix seen.sets z.sets) (sym same) (prefix_self seen.sets)

  ends_grow : (old now : SessionWith T V) (replies : List SentReply) (given : List Reply) (seen : Watched V) (kept : T) (stays : Bool)
      (rest : List ℕ) (w : LinkWhy) → EndsBy paging answers old now replies given seen kept stays rest w
      → IsPrefix seen.sets now.viewer.sets
  ends_grow old now replies given seen kept stays rest why.Closed e = same_grows old now seen e.0.viewer
  ends_grow old now replies given seen kept stays rest why.CutRequest e = same_grows old now seen e.0.viewer
  ends_grow old now replies given seen kept stays rest why.Asked e = same_grows old now seen e.0.viewer
  ends_grow old now replies given seen kept stays rest why.Full e = same_grows old now seen e.0.viewer
  ends_grow old now replies given seen kept stays rest why.Memory e = same_grows old now seen e.0.viewer
  ends_grow old now replies given seen kept stays rest why.LinkFault (open_is, inl (settled, stops)) =
      same_grows old now seen settled.viewer
  ends_grow old now replies given seen kept stays rest why.LinkFault (open_is, inr cut) =
      prefix_twice seen.sets cut.seen.sets now.viewer.sets cut.looked.grows cut.learnt.grows

  pub link_grows : (old now : SessionWith T V) (end : LinkEnd) → ServesLinkWith paging answers old now end
      → IsPrefix old.viewer.sets now.viewer.sets
  link_grows old now end s =
      prefix_twice old.viewer.sets s.seen.sets now.viewer.sets
      (serves_grow old.viewer old.pager s.seen s.kept s.replies s.read s.given s.stays s.serves)
      (ends_grow old now s.replies s.given s.seen s.kept s.stays s.rest end.why s.ends)

module _ {T V : Type 0} (paging : Paging T V)
    (execution : V → Executions) (made_of : V → Files) (meant : Files → Meanings) (sound : Files → Promises) where
  pub served_in_order : (first now : Watched V) (kept0 kept : T) (replies : List SentReply) (read : List ℕ) (given : List Reply)
      (stays : Bool)
      → ServesWith paging (AnswersBySet execution made_of meant sound) first kept0 replies read given now kept stays
      → AreServedInOrder first now replies stays
  served_in_order first now kept0 kept replies read given stays s = record {
    numbers = numbers_rise paging execution made_of meant sound first kept0 now kept replies read given stays s;
    closing = closes_at_end paging (AnswersBySet execution made_of meant sound) first kept0 now kept replies read given stays s;
    most =
        is_most paging (AnswersBySet execution made_of meant sound) (length replies) stays
        (below paging (AnswersBySet execution made_of meant sound) first kept0 now kept replies read given stays s);
  }

  -- the last number on a link is one that its viewer has seen, and no less than what it had seen
  pub link_last : (old now : SessionWith T V) (end : LinkEnd)
      → ServesLinkWith paging (AnswersBySet execution made_of meant sound) old now end
      → 0 < end.requests → (length old.viewer.sets ≤ end.last) × (end.last ≤ length now.viewer.sets)
  link_last old now end s some =
      let rise =
      numbers_rise paging execution made_of meant sound old.viewer old.pager s.seen s.kept s.replies s.read s.given s.stays s.serves in
      let l = rise_last 0 (length old.viewer.sets) (length s.seen.sets) s.replies rise (omega (arith, some, s.requests)) in
      let later =
      prefix_length s.seen.sets now.viewer.sets
      (ends_grow paging (AnswersBySet execution made_of meant sound) old now s.replies s.given s.seen s.kept s.stays s.rest end.why
      s.ends) in
      (omega (arith, l.0, s.last), omega (arith, l.1, s.last, later))

module _ {V : Type 0} (execution : V → Executions) (made_of : V → Files) (meant : Files → Meanings) (sound : Files → Promises) where
  pub in_order : RepliesAreInOrder execution made_of meant sound
  in_order first now replies read given stays s =
      served_in_order no_paging execution made_of meant sound first now tt tt replies read given stays s
