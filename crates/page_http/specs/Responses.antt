-- A reply as a client reads it: the head of a response, as the grammar of `httparse` has it, and
-- the body behind it (RFC 9112, sections 4 to 6).
use Rattle.std.specs.Prelude.{◌≡◌, ℕ, ◌^◌, ◌<◌, Bool, ◌==◌, List, [], ◌∷◌, length, Some, codes, if◌then◌else◌}
use Rattle.std.specs.Fmt.{decimal}
use Rattle.httparse.specs.Grammar.{ResponseHead, ReadsResponse, status_code, Field, crlf as ends}
use Rattle.page_http.specs.Replies.{IsSendable, reply_text, phrase, media_type, methods, option}
use Rattle.page_http.specs.declared.reply.Allow.{Allow}
use Rattle.page_http.specs.declared.reply.Allow.TheVariants as allow
use Rattle.page_http.specs.declared.reply.Reply.{Reply}

-- a field with one blank before its value, in a line that ends in CR LF
abbrev pub sent_field : List ℕ → List ℕ → Field
sent_field name value = record { name = name; raw = 32 ∷ value; end = ends }

-- the methods, with 405 alone, before the fields that follow
abbrev pub with_methods : ℕ → Allow → List Field → List Field
with_methods status allow.Nothing rest = rest
with_methods status a rest =
    if status == 405 then sent_field (codes "Allow") (methods a) ∷ rest else rest

abbrev pub sent_fields : Reply → Bool → List Field
sent_fields reply close =
    sent_field (codes "Content-Type") (media_type reply.html)
    ∷ sent_field (codes "Content-Length") (decimal (length reply.body))
    ∷ sent_field (codes "Set-Number") (decimal reply.number)
    ∷ with_methods reply.status reply.allow
    (sent_field (codes "Connection") (option close) ∷ [])

abbrev pub sent_head : Reply → Bool → ResponseHead
sent_head reply close = record {
  blank = [];
  minor = 1;
  digits = decimal reply.status;
  reason = Some (phrase reply.status);
  line_end = ends;
  fields = sent_fields reply close;
  last = ends;
}

-- the bytes are a response of that status, with these fields, and the body
pub record IsReadAsSent (reply : Reply) (close : Bool) : Type 0 where
  pub reads : ReadsResponse (reply_text reply close) (sent_head reply close) reply.body
  pub status_is : status_code (sent_head reply close) ≡ reply.status

abbrev pub RepliesAreResponses : Type 0
RepliesAreResponses =
    (reply : Reply) (close : Bool) → IsSendable reply
    → reply.number < 2 ^ 64 → length reply.body < 2 ^ 64
    → IsReadAsSent reply close
