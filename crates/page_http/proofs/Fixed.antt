-- The bytes of the reply 503, and the line of the status 200.
use Rattle.std.proofs.Common.{ℕ, ◌≡◌, true, List, ◌++◌, codes, refl, false, append_assoc, ap, sym, ◌∙◌}
use Rattle.std.specs.Fmt.{decimal, digits}
use Rattle.page_http.specs.Replies.{status_line, reply_text, unavailable, phrase, crlf, content_type, field_line, connection}

abbrev pub before_number : List ℕ
before_number = codes "HTTP/1.1 503 Service Unavailable\r\nContent-Type: text/plain; charset=utf-8\r\nContent-Length: 7\r\nSet-Number: "

abbrev pub after_number : List ℕ
after_number = codes "\r\nConnection: close\r\n\r\nmemory\n"

status : decimal 503 ≡ codes "503"
unfolding digits
status = refl

status_200 : decimal 200 ≡ codes "200"
unfolding digits
status_200 = refl

-- the line of the status that most replies have
pub line_of_200 : codes "HTTP/1.1 200 OK\r\n" ≡ status_line 200
line_of_200 =
    ap (λ (z : List ℕ). codes "HTTP/1.1 " ++ (z ++ (codes " " ++ (phrase 200 ++ crlf)))) (sym status_200)

body : decimal 7 ≡ codes "7"
unfolding digits
body = refl

-- the reply with these digits of the status and of the length
abbrev reply_with : List ℕ → List ℕ → ℕ → List ℕ
reply_with s n number =
    codes "HTTP/1.1 " ++ (s ++ (codes " " ++ (phrase 503 ++ crlf)))
    ++ ((content_type false
    ++ (field_line (codes "Content-Length") n
    ++ (field_line (codes "Set-Number") (decimal number)
    ++ connection true))) ++ codes "memory\n")

tail : (d : List ℕ) → ((d ++ crlf) ++ connection true) ++ codes "memory\n" ≡ d ++ after_number
tail d = append_assoc (d ++ crlf) (connection true) (codes "memory\n") ∙ append_assoc d crlf (connection true ++ codes "memory\n")

pub unavailable_is : (number : ℕ) → before_number ++ (decimal number ++ after_number) ≡ reply_text (unavailable number) true
unavailable_is number =
    let filled : before_number ++ (decimal number ++ after_number) ≡ reply_with (codes "503") (codes "7") number =
    ap (λ (z : List ℕ). before_number ++ z) (sym (tail (decimal number))) in
    filled ∙ ap (λ (z : List ℕ). reply_with z (codes "7") number) (sym status) ∙ ap (λ (z : List ℕ). reply_with (decimal 503) z number) (sym body)
