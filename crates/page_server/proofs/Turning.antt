-- A turn more, and the end.
use Rattle.std.proofs.Common.{ℕ, ◌≡◌, ◌+◌, ◌<◌, inl, inr, Bool, true, false, not, ◌||◌, List, [], ◌∷◌, ◌++◌}
use Rattle.std.proofs.Common.{length, take, drop, Option, Result, Ok, Err, IfOk, if◌then◌else◌, arith, refl, sym, ap, subst, ◌∙◌}
use Rattle.std.proofs.Common.{append_assoc, length-append, take-append-drop}
use Rattle.std.proofs.KnownBytes.{Appends-nil, Consumes-nil}
use Rattle.std.proofs.lemmas.Bool.Decides.{nat_tests}
use Rattle.std.specs.Io.KnownBytes.{Appends, Consumes}
use Rattle.page_io.proofs.Known.{Appends-twice, Consumes-twice}
use Rattle.page_io.specs.declared.stop.Memory.{Memory}
use Rattle.page_http.specs.Replies.{unavailable}
use Rattle.page_http.specs.declared.reply.Reply.{Reply}
use Rattle.set_publisher.specs.Values.{Watched}
use Rattle.page_server.specs.Answering.{Answering, Paging}
use Rattle.page_server.specs.Buffers.{IsReadBehind}
use Rattle.page_server.specs.Sending.{SentReply, sent_text, sent_texts, is_last}
use Rattle.page_server.specs.Serving.{AnsweredWith, ServesWith, sent, begun, replied, by_set, by_clerk, refused, no_memory, no_memory_to_send}
use Rattle.page_server.specs.Sessions.{SessionWith, session_with, with_given, IsSettled, IsCutOff, EndsBy, ServesLinkWith}
use Rattle.page_server.specs.Turns.{IsWrittenWhole, IsSent, IsOutgoingSent, IsRead, LooksAndResponds}
use Rattle.page_server.specs.Turns.{AnswersPiece, ReadsAndAnswers, TurnAnswers, HasServed}
use Rattle.page_server.specs.Viewing.{HasLooked}
use Rattle.page_server.specs.Waiting.{StopsReading}
use Rattle.page_server.specs.declared.end.LinkEnd.{LinkEnd}
use Rattle.page_server.specs.declared.end.LinkWhy.{LinkWhy}
use Rattle.page_server.specs.declared.end.LinkWhy.TheVariants as why
use Rattle.page_server.specs.declared.outgoing.Outgoing.{Outgoing}
use Rattle.page_server.specs.declared.turn.Turn.{Turn}
use Rattle.page_server.specs.declared.turn.Turn.TheVariants as turn
use Rattle.page_server.proofs.Given.{with_none, with_twice, texts_push, number_push}

or_true : (b : Bool) → (b || true) ≡ true
or_true true = refl
or_true false = refl

pub below_last : (count : ℕ) → is_last count ≡ false → count < 10000 → count + 1 < 10000
below_last count is below = grind (arith, nat_tests)

module _ {T V : Type 0} (paging : Paging T V) (answers : Answering V) where
  -- reading, and then a reply

  piece_of : (last : Bool) (old now : SessionWith T V) (held0 held : List ℕ) (out : Outgoing) (t : Turn) (reply : Result Reply Memory)
      (lr : LooksAndResponds paging answers last old.viewer now.viewer old.pager now.pager old.given now.given held0 out)
      → now.left ≡ old.left
      → IfOk reply
      (λ x. AnsweredWith paging answers last lr.seen now.viewer old.pager now.pager (take out.used held0) lr.responds.gives (sent x out.close))
      → IsOutgoingSent old.taken now.taken held0 held out.used out.close out.number reply t
      → AnswersPiece paging answers last old now held0 held t
  piece_of last old now held0 held out t (Ok reply) lr left answered (inl s) = record {
    used = out.used;
    within = lr.responds.within;
    seen = lr.seen;
    gives = lr.responds.gives;
    next = sent reply out.close;
    looked = lr.looked;
    learnt = lr.responds.learnt;
    answered = answered;
    gave = lr.responds.gave;
    left_is = left;
    sends = s;
  }
  piece_of last old now held0 held out t (Ok reply) lr left answered (inr s) = record {
    used = out.used;
    within = lr.responds.within;
    seen = lr.seen;
    gives = lr.responds.gives;
    next = sent (unavailable (length now.viewer.sets)) true;
    looked = lr.looked;
    learnt = lr.responds.learnt;
    answered = lr.responds.fails;
    gave = lr.responds.gave;
    left_is = left;
    sends = subst (λ (k : ℕ). IsSent old.taken now.taken held0 held out.used (sent (unavailable k) true) t) lr.responds.number_is s;
  }
  piece_of last old now held0 held out t (Err e) lr left answered s = record {
    used = out.used;
    within = lr.responds.within;
    seen = lr.seen;
    gives = lr.responds.gives;
    next = sent (unavailable (length now.viewer.sets)) true;
    looked = lr.looked;
    learnt = lr.responds.learnt;
    answered = lr.responds.fails;
    gave = lr.responds.gave;
    left_is = left;
    sends = subst (λ (k : ℕ). IsSent old.taken now.taken held0 held out.used (sent (unavailable k) true) t) lr.responds.number_is s;
  }

  by_turn : (last : Bool) (old now : SessionWith T V) (held0 held : List ℕ) (t : Turn) → ReadsAndAnswers paging answers last old now held0 held t
      → TurnAnswers paging answers last old now held0 held t
  by_turn last old now held0 held (turn.Replied n) r = r
  by_turn last old now held0 held (turn.Closing n) r = r
  by_turn last old now held0 held (turn.Stopped w) r = inr r

  read_of : (left0 left1 taken0 taken1 : Option (List ℕ)) (given : Option (List Reply)) (viewer : Watched V) (kept : T)
      (held0 held1 : List ℕ) → IsReadBehind left0 left1 held0 held1 → taken1 ≡ taken0
      → IsRead (session_with left0 taken0 given viewer kept) (session_with left1 taken1 given viewer kept) held0 held1
  read_of left0 left1 taken0 taken1 given viewer kept held0 held1 r same = record {
    more = r.more;
    grown = r.grown;
    came = r.came;
    taken_is = same;
    given_is = refl;
    viewer_is = refl;
    pager_is = refl;
  }

  pub reads_and_answers : (last : Bool) (left0 left1 left2 taken0 taken1 taken2 : Option (List ℕ)) (given0 given : Option (List Reply))
      (viewer0 viewer : Watched V) (kept0 kept : T) (held0 held1 held2 : List ℕ) (out : Outgoing) (t : Turn)
      → IsReadBehind left0 left1 held0 held1 → taken1 ≡ taken0 → left2 ≡ left1
      → LooksAndResponds paging answers last viewer0 viewer kept0 kept given0 given held1 out
      → IsOutgoingSent taken1 taken2 held1 held2 out.used out.close out.number out.reply t
      → TurnAnswers paging answers last (session_with left0 taken0 given0 viewer0 kept0) (session_with left2 taken2 given viewer kept)
      held0 held2 t
  reads_and_answers last left0 left1 left2 taken0 taken1 taken2 given0 given viewer0 viewer kept0 kept held0 held1 held2 out t r same left
      lr s =
      by_turn last (session_with left0 taken0 given0 viewer0 kept0) (session_with left2 taken2 given viewer kept) held0 held2 t record {
        between = session_with left1 taken1 given0 viewer0 kept0;
        middle = held1;
        reads = read_of left0 left1 taken0 taken1 given0 viewer0 kept0 held0 held1 r same;
        piece =
            piece_of last (session_with left1 taken1 given0 viewer0 kept0) (session_with left2 taken2 given viewer kept) held1 held2 out t
            out.reply lr left lr.responds.replies s;
      }

  pub reads_and_stops : (last : Bool) (left0 left1 taken0 taken1 : Option (List ℕ)) (given : Option (List Reply)) (viewer : Watched V)
      (kept : T) (held0 held1 : List ℕ) (w : LinkWhy)
      → IsReadBehind left0 left1 held0 held1 → taken1 ≡ taken0 → StopsReading left1 held1 w
      → TurnAnswers paging answers last (session_with left0 taken0 given viewer kept) (session_with left1 taken1 given viewer kept)
      held0 held1 (turn.Stopped w)
  reads_and_stops last left0 left1 taken0 taken1 given viewer kept held0 held1 w r same stops = inl record {
    reads = read_of left0 left1 taken0 taken1 given viewer kept held0 held1 r same;
    stops = stops;
  }

  -- so far

  pub served_none : (s : SessionWith T V) (held : List ℕ) → held ≡ [] → HasServed paging answers s s held 0 0 true
  served_none s held none = record {
    replies = [];
    read = [];
    given = [];
    serves = begun;
    count_is = refl;
    last_is = refl;
    came = subst (λ (z : List ℕ). Consumes s.left s.left z) (sym none) (Consumes-nil s.left);
    wrote = Appends-nil s.taken;
    gave = sym (with_none s.given);
  }

  -- bytes that were read, and then cut
  regroup : (read held0 more piece rest middle : List ℕ) → middle ≡ held0 ++ more → middle ≡ piece ++ rest
      → (read ++ held0) ++ more ≡ (read ++ piece) ++ rest
  regroup read held0 more piece rest middle grown cut =
      append_assoc read held0 more ∙ ap (λ (z : List ℕ). read ++ z) (sym grown ∙ cut) ∙ sym (append_assoc read piece rest)

  came_more : (l0 l1 l2 l3 : Option (List ℕ)) (read held0 more piece rest middle : List ℕ)
      → Consumes l0 l1 (read ++ held0) → Consumes l1 l2 more → l3 ≡ l2 → middle ≡ held0 ++ more → middle ≡ piece ++ rest
      → Consumes l0 l3 ((read ++ piece) ++ rest)
  came_more l0 l1 l2 l3 read held0 more piece rest middle a b left grown cut =
      subst (λ (z : Option (List ℕ)). Consumes l0 z ((read ++ piece) ++ rest)) (sym left)
      (subst (λ (z : List ℕ). Consumes l0 l2 z) (regroup read held0 more piece rest middle grown cut)
      (Consumes-twice l0 l1 l2 (read ++ held0) more a b))

  wrote_more : (t0 t1 t2 t3 : Option (List ℕ)) (a b : List ℕ) → Appends t0 t1 a → t2 ≡ t1 → Appends t2 t3 b → Appends t0 t3 (a ++ b)
  wrote_more t0 t1 t2 t3 a b h same k = Appends-twice t0 t1 t3 a b h (subst (λ (z : Option (List ℕ)). Appends z t3 b) same k)

  gave_more : (g0 g1 g2 g3 : Option (List Reply)) (a b : List Reply) → g1 ≡ with_given g0 a → g2 ≡ g1 → g3 ≡ with_given g2 b
      → g3 ≡ with_given g0 (a ++ b)
  gave_more g0 g1 g2 g3 a b p q r = r ∙ ap (λ (z : Option (List Reply)). with_given z b) (q ∙ p) ∙ with_twice g0 a b

  -- a reply after so many, where reading left what the pager keeps
  answered_from : (replies count : ℕ) (mid between now : SessionWith T V) (seen : Watched V) (piece : List ℕ) (gives : List Reply)
      (s : SentReply) → count ≡ replies → between.pager ≡ mid.pager
      → AnsweredWith paging answers (is_last count) seen now.viewer between.pager now.pager piece gives s
      → AnsweredWith paging answers (is_last replies) seen now.viewer mid.pager now.pager piece gives s
  answered_from replies count mid between now seen piece gives s counted same answered =
      subst (λ (k : ℕ). AnsweredWith paging answers (is_last k) seen now.viewer mid.pager now.pager piece gives s) counted
      (subst (λ (z : T). AnsweredWith paging answers (is_last count) seen now.viewer z now.pager piece gives s) same answered)

  served_more : (old mid now : SessionWith T V) (held0 held : List ℕ) (count last n : ℕ) (close : Bool) (t : Turn)
      (s : HasServed paging answers old mid held0 count last true) (r : ReadsAndAnswers paging answers (is_last count) mid now held0 held t)
      → IsWrittenWhole r.between.taken now.taken r.middle held r.piece.used (sent_text r.piece.next)
      → n ≡ r.piece.next.reply.number → r.piece.next.close ≡ close
      → HasServed paging answers old now held (count + 1) n (not close)
  served_more old mid now held0 held count last n close t s r w number closes = record {
    replies = s.replies ++ r.piece.next ∷ [];
    read = s.read ++ take r.piece.used r.middle;
    given = s.given ++ r.piece.gives;
    serves =
        subst
        (λ (z : Bool). ServesWith paging answers old.viewer old.pager (s.replies ++ r.piece.next ∷ [])
        (s.read ++ take r.piece.used r.middle) (s.given ++ r.piece.gives) now.viewer now.pager (not z)) closes
        (replied s.replies s.read s.given mid.viewer r.piece.seen now.viewer mid.pager now.pager (take r.piece.used r.middle) r.piece.gives r.piece.next
        s.serves
        (subst (λ (z : Watched V). HasLooked z r.piece.seen) r.reads.viewer_is r.piece.looked)
        r.piece.learnt
        (answered_from (length s.replies) count mid r.between now r.piece.seen (take r.piece.used r.middle) r.piece.gives r.piece.next
        s.count_is r.reads.pager_is r.piece.answered));
    count_is = omega (arith, s.count_is, length-append s.replies (r.piece.next ∷ []));
    last_is = number ∙ sym (number_push 0 s.replies r.piece.next);
    came =
        came_more old.left mid.left r.between.left now.left s.read held0 r.reads.more (take r.piece.used r.middle) held r.middle
        s.came r.reads.came r.piece.left_is r.reads.grown
        (sym (take-append-drop r.piece.used r.middle) ∙ ap (λ (z : List ℕ). take r.piece.used r.middle ++ z) (sym w.held_is));
    wrote =
        subst (λ (z : List ℕ). Appends old.taken now.taken z) (sym (texts_push s.replies r.piece.next))
        (wrote_more old.taken mid.taken r.between.taken now.taken (sent_texts s.replies) (sent_text r.piece.next)
        s.wrote r.reads.taken_is w.wrote);
    gave = gave_more old.given mid.given r.between.given now.given s.given r.piece.gives s.gave r.reads.given_is r.piece.gave;
  }

  pub served_open : (old mid now : SessionWith T V) (held0 held : List ℕ) (count last n : ℕ)
      → HasServed paging answers old mid held0 count last true → TurnAnswers paging answers (is_last count) mid now held0 held (turn.Replied n)
      → HasServed paging answers old now held (count + 1) n true
  served_open old mid now held0 held count last n s r =
      served_more old mid now held0 held count last n false (turn.Replied n) s r r.piece.sends.0 r.piece.sends.1 r.piece.sends.2

  served_closing : (old mid now : SessionWith T V) (held0 held : List ℕ) (count last n : ℕ)
      → HasServed paging answers old mid held0 count last true → TurnAnswers paging answers (is_last count) mid now held0 held (turn.Closing n)
      → HasServed paging answers old now held (count + 1) n false
  served_closing old mid now held0 held count last n s r =
      served_more old mid now held0 held count last n true (turn.Closing n) s r r.piece.sends.0 r.piece.sends.1 r.piece.sends.2

  -- the last reply closes the connection
  pub last_closes : (seen now : Watched V) (kept0 kept : T) (piece : List ℕ) (gives : List Reply) (s : SentReply)
      → AnsweredWith paging answers true seen now kept0 kept piece gives s
      → s.close ≡ true
  last_closes seen now kept0 kept piece gives s (by_set r set reply is_request is_seen answers_it same pages) = or_true r.close
  last_closes seen now kept0 kept piece gives s (by_clerk r reply is_request asks replies paged) = or_true r.close
  last_closes seen now kept0 kept piece gives s (refused status refuses same unasked) = refl
  last_closes seen now kept0 kept piece gives s (no_memory some paged) = refl
  last_closes seen now kept0 kept piece gives s (no_memory_to_send r reply is_request asks replies paged) = refl

  not_last : (count : ℕ) (last : Bool) (seen now : Watched V) (kept0 kept : T) (piece : List ℕ) (gives : List Reply) (s : SentReply)
      → is_last count ≡ last → AnsweredWith paging answers last seen now kept0 kept piece gives s → s.close ≡ false → is_last count ≡ false
  not_last count false seen now kept0 kept piece gives s is a e = is
  not_last count true seen now kept0 kept piece gives s is a e =
      absurd (true_false (sym (last_closes seen now kept0 kept piece gives s a) ∙ e))
    where
      true_false : true ≡ false → ⊥
      true_false h = cc

  -- a connection that stays open has not had its last reply
  pub stays_below : (mid now : SessionWith T V) (held0 held : List ℕ) (count n : ℕ)
      → TurnAnswers paging answers (is_last count) mid now held0 held (turn.Replied n) → count < 10000 → count + 1 < 10000
  stays_below mid now held0 held count n r below =
      below_last count
      (not_last count (is_last count) r.piece.seen now.viewer r.between.pager now.pager (take r.piece.used r.middle) r.piece.gives
      r.piece.next refl r.piece.answered r.piece.sends.2) below

  -- the end

  settled : (old now : SessionWith T V) (held : List ℕ) (count last : ℕ) (stays : Bool) (s : HasServed paging answers old now held count last stays)
      → IsSettled old now s.replies s.given now.viewer now.pager
  settled old now held count last stays s = record { wrote = s.wrote; gave = s.gave; viewer = refl; pager = refl }

  closing_why : (old now : SessionWith T V) (held : List ℕ) (count n : ℕ) (s : HasServed paging answers old now held (count + 1) n false)
      (last : Bool) (w : LinkWhy) → is_last count ≡ last → count < 10000 → w ≡ (if last then why.Full else why.Asked)
      → EndsBy paging answers old now s.replies s.given now.viewer now.pager false held w
  closing_why old now held count n s true w is below e =
      subst (λ (z : LinkWhy). EndsBy paging answers old now s.replies s.given now.viewer now.pager false held z) (sym e)
      (settled old now held (count + 1) n false s, refl, last_count count (length s.replies) is s.count_is)
    where
      last_count : (k m : ℕ) → is_last k ≡ true → k + 1 ≡ m → m ≡ 10000
      last_count k m a b = grind (arith, nat_tests)
  closing_why old now held count n s false w is below e =
      subst (λ (z : LinkWhy). EndsBy paging answers old now s.replies s.given now.viewer now.pager false held z) (sym e)
      (settled old now held (count + 1) n false s, refl, omega (arith, s.count_is, below_last count is below))

  pub ended_closing : (old mid now : SessionWith T V) (held0 held : List ℕ) (count last n : ℕ) (end : LinkEnd)
      → HasServed paging answers old mid held0 count last true → TurnAnswers paging answers (is_last count) mid now held0 held (turn.Closing n)
      → count < 10000 → end.requests ≡ count + 1 → end.last ≡ n → end.why ≡ (if is_last count then why.Full else why.Asked)
      → ServesLinkWith paging answers old now end
  ended_closing old mid now held0 held count last n end s0 r below requests is_n is_why =
      let s = served_closing old mid now held0 held count last n s0 r in
      record {
        replies = s.replies;
        read = s.read;
        given = s.given;
        seen = now.viewer;
        kept = now.pager;
        stays = false;
        rest = held;
        serves = s.serves;
        requests = requests ∙ s.count_is;
        last = is_n ∙ s.last_is;
        came = s.came;
        ends = closing_why old now held count n s (is_last count) end.why refl below is_why;
      }

  came_rest : (l0 l1 l2 : Option (List ℕ)) (read held0 more held : List ℕ) → Consumes l0 l1 (read ++ held0) → Consumes l1 l2 more
      → held ≡ held0 ++ more → Consumes l0 l2 (read ++ held)
  came_rest l0 l1 l2 read held0 more held a b grown =
      subst (λ (z : List ℕ). Consumes l0 l2 z) (append_assoc read held0 more ∙ ap (λ (z : List ℕ). read ++ z) (sym grown))
      (Consumes-twice l0 l1 l2 (read ++ held0) more a b)

  settled_read : (old mid now : SessionWith T V) (held0 held : List ℕ) (count last : ℕ) (s : HasServed paging answers old mid held0 count last true)
      → IsRead mid now held0 held → IsSettled old now s.replies s.given mid.viewer mid.pager
  settled_read old mid now held0 held count last s r = record {
    wrote = subst (λ (z : Option (List ℕ)). Appends old.taken z (sent_texts s.replies)) (sym r.taken_is) s.wrote;
    gave = r.given_is ∙ s.gave;
    viewer = r.viewer_is;
    pager = r.pager_is;
  }

  reading_why : (old mid now : SessionWith T V) (held0 held : List ℕ) (count last : ℕ) (w : LinkWhy)
      (s : HasServed paging answers old mid held0 count last true) → IsRead mid now held0 held → StopsReading now.left held w
      → EndsBy paging answers old now s.replies s.given mid.viewer mid.pager true held w
  reading_why old mid now held0 held count last why.Closed s r stops = (settled_read old mid now held0 held count last s r, refl, stops)
  reading_why old mid now held0 held count last why.CutRequest s r stops = (settled_read old mid now held0 held count last s r, refl, stops)
  reading_why old mid now held0 held count last why.Asked s r stops = absurd stops
  reading_why old mid now held0 held count last why.Full s r stops = absurd stops
  reading_why old mid now held0 held count last why.LinkFault s r stops =
      (refl, inl (settled_read old mid now held0 held count last s r, stops))
  reading_why old mid now held0 held count last why.Memory s r stops = (settled_read old mid now held0 held count last s r, refl, stops)

  -- the next reply was cut off
  cut_off : (old mid now : SessionWith T V) (held0 held : List ℕ) (count last : ℕ) (w : LinkWhy)
      (s : HasServed paging answers old mid held0 count last true) → ReadsAndAnswers paging answers (is_last count) mid now held0 held (turn.Stopped w)
      → IsCutOff paging answers old now s.replies s.given mid.viewer mid.pager held
  cut_off old mid now held0 held count last w s r =
      let part = r.piece.sends.1 in
      record {
        piece = take r.piece.used r.middle;
        later = drop r.piece.used r.middle;
        cut = part.held_is ∙ sym (take-append-drop r.piece.used r.middle);
        seen = r.piece.seen;
        gives = r.piece.gives;
        next = r.piece.next;
        looked = subst (λ (z : Watched V). HasLooked z r.piece.seen) r.reads.viewer_is r.piece.looked;
        learnt = r.piece.learnt;
        answered =
            answered_from (length s.replies) count mid r.between now r.piece.seen (take r.piece.used r.middle) r.piece.gives r.piece.next
            s.count_is r.reads.pager_is r.piece.answered;
        count = part.wrote.0;
        wrote =
            wrote_more old.taken mid.taken r.between.taken now.taken (sent_texts s.replies) (take part.wrote.0 (sent_text r.piece.next))
            s.wrote r.reads.taken_is part.wrote.2;
        gave = gave_more old.given mid.given r.between.given now.given s.given r.piece.gives s.gave r.reads.given_is r.piece.gave;
      }

  pub ended_stopped : (old mid now : SessionWith T V) (held0 held : List ℕ) (count last : ℕ) (w : LinkWhy)
      → HasServed paging answers old mid held0 count last true → TurnAnswers paging answers (is_last count) mid now held0 held (turn.Stopped w)
      → ServesLinkWith paging answers old now (record { requests = count; last = last; why = w })
  ended_stopped old mid now held0 held count last w s (inl r) = record {
    replies = s.replies;
    read = s.read;
    given = s.given;
    seen = mid.viewer;
    kept = mid.pager;
    stays = true;
    rest = held;
    serves = s.serves;
    requests = s.count_is;
    last = s.last_is;
    came = came_rest old.left mid.left now.left s.read held0 r.reads.more held s.came r.reads.came r.reads.grown;
    ends = reading_why old mid now held0 held count last w s r.reads r.stops;
  }
  ended_stopped old mid now held0 held count last w s (inr r) = record {
    replies = s.replies;
    read = s.read;
    given = s.given;
    seen = mid.viewer;
    kept = mid.pager;
    stays = true;
    rest = held;
    serves = s.serves;
    requests = s.count_is;
    last = s.last_is;
    came =
        subst (λ (z : Option (List ℕ)). Consumes old.left z (s.read ++ held)) (sym r.piece.left_is)
        (came_rest old.left mid.left r.between.left s.read held0 r.reads.more held s.came r.reads.came
        (r.piece.sends.1.held_is ∙ r.reads.grown));
    ends =
        subst (λ (z : LinkWhy). EndsBy paging answers old now s.replies s.given mid.viewer mid.pager true held z) (sym r.piece.sends.0)
        (refl, inr (cut_off old mid now held0 held count last w s r));
  }
