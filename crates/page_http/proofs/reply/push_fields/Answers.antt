use Rattle.std.proofs.Common.{◌≡◌, ◌++◌, ◌∙◌, ap, List, ℕ, length, codes}
use Rattle.std.specs.Fmt.{decimal}
use Rattle.page_http.specs.Replies.{content_type, crlf, allowed, connection}
use Rattle.page_http.proofs.Pushes.{fields_pushed}
use Rattle.page_http.proofs.reply.push_fields.Goals as goal

pub returns : goal.returns
returns c =
    let out = c.args.out.now.items in
    let reply = c.args.reply.now in
    let p = c.push_number.new.out.items in
    let q = c.push_number-2.new.out.items in
    let r = c.extend_from_slice.new.self.items in
    let s = c.extend_from_slice-2.new.self.items in
    let e1 : p ≡ out ++ ((content_type reply.html ++ codes "Content-Length: ") ++ decimal (length reply.body)) =
    c.in_ok-push_number.ensures ∙ ap (λ (z : List ℕ). out ++ (z ++ decimal c.len.result)) c.before_length.ensures
    ∙ ap (λ (k : ℕ). out ++ ((content_type reply.html ++ codes "Content-Length: ") ++ decimal k)) c.len.ensures in
    let e2 : q ≡ p ++ (codes "\r\nSet-Number: " ++ decimal reply.number) = c.in_ok-push_number-2.ensures in
    let e3 : r ≡ q ++ (crlf ++ allowed reply.status reply.allow) = c.in_ok-extend_from_slice.ensures.items ∙ ap (λ (z : List ℕ). q ++ z) c.after_number.ensures in
    let e4 : s ≡ r ++ connection c.args.close = c.in_ok-extend_from_slice-2.ensures.items ∙ ap (λ (z : List ℕ). r ++ z) c.connection.ensures in
    fields_pushed out (content_type reply.html) (decimal (length reply.body)) (decimal reply.number) (allowed reply.status reply.allow) (connection c.args.close) p q r s e1 e2 e3 e4
