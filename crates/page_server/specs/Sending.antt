-- Replies as they are sent.
use Rattle.std.specs.Prelude.{ℕ, ◌+◌, ◌==◌, Bool, List, [], ◌∷◌, ◌++◌}
use Rattle.page_http.specs.Replies.{reply_text}
use Rattle.page_http.specs.declared.reply.Reply.{Reply}

-- a reply, and whether the connection ends with it
pub record SentReply : Type 0 where
  pub reply : Reply
  pub close : Bool

-- its bytes
abbrev pub sent_text : SentReply → List ℕ
sent_text s = reply_text s.reply s.close

-- the bytes of replies, one after another
abbrev pub sent_texts : List SentReply → List ℕ
sent_texts [] = []
sent_texts (s ∷ ss) = sent_text s ++ sent_texts ss

-- the number in the last reply, or this one without any
abbrev pub number_after : ℕ → List SentReply → ℕ
number_after n [] = n
number_after n (s ∷ ss) = number_after s.reply.number ss

-- the most requests of a link
abbrev pub max_requests : ℕ
max_requests = 10000

-- after so many replies the next one is the last
abbrev pub is_last : ℕ → Bool
is_last replies = replies + 1 == max_requests
