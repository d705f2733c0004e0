-- The replies that a clerk gave, and the bytes and the number of replies, with one more.
use Rattle.std.proofs.Common.{ℕ, ◌≡◌, ◌+◌, List, [], ◌∷◌, ◌++◌, Option, None, Some, refl, sym, ap, ◌∙◌, append-nil}
use Rattle.std.proofs.Common.{append_assoc}
use Rattle.page_http.specs.declared.reply.Reply.{Reply}
use Rattle.page_server.specs.Sending.{SentReply, sent_text, sent_texts, number_after}
use Rattle.page_server.specs.Sessions.{with_given}

pub with_none : (given : Option (List Reply)) → with_given given [] ≡ given
with_none None = refl
with_none (Some rs) = ap (λ (z : List Reply). Some z) (append-nil rs)

pub with_twice : (given : Option (List Reply)) (a b : List Reply) → with_given (with_given given a) b ≡ with_given given (a ++ b)
with_twice None a b = refl
with_twice (Some rs) a b = ap (λ (z : List Reply). Some z) (append_assoc rs a b)

pub texts_push : (ss : List SentReply) (s : SentReply) → sent_texts (ss ++ s ∷ []) ≡ sent_texts ss ++ sent_text s
texts_push [] s = append-nil (sent_text s)
texts_push (t ∷ ss) s =
    ap (λ (z : List ℕ). sent_text t ++ z) (texts_push ss s) ∙ sym (append_assoc (sent_text t) (sent_texts ss) (sent_text s))

pub number_push : (n : ℕ) (ss : List SentReply) (s : SentReply) → number_after n (ss ++ s ∷ []) ≡ s.reply.number
number_push n [] s = refl
number_push n (t ∷ ss) s = number_push t.reply.number ss s
