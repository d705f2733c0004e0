-- What several pushes append.
use Rattle.std.proofs.Common.{ℕ, ◌≡◌, ◌∙◌, ap, sym, List, ◌++◌, append_assoc, codes}
use Rattle.page_http.specs.Replies.{crlf, field_line}

abbrev before_length : List ℕ
before_length = codes "Content-Length: "

abbrev before_number : List ℕ
before_number = codes "\r\nSet-Number: "

-- lists in their order, one behind another
in_order : (out a b x y : List ℕ) → ((((out ++ a) ++ b) ++ x) ++ y) ≡ out ++ (a ++ (b ++ (x ++ y)))
in_order out a b x y =
    append_assoc ((out ++ a) ++ b) x y ∙ append_assoc (out ++ a) b (x ++ y) ∙ append_assoc out a (b ++ (x ++ y))

-- the line of a number and what follows it
line_then : (name d rest : List ℕ) → name ++ ((d ++ crlf) ++ rest) ≡ name ++ (d ++ (crlf ++ rest))
line_then name d rest = ap (λ (z : List ℕ). name ++ z) (append_assoc d crlf rest)

pub fields_pushed : (out t n m w k p q r s : List ℕ) → p ≡ out ++ ((t ++ before_length) ++ n)
    → q ≡ p ++ (before_number ++ m) → r ≡ q ++ (crlf ++ w) → s ≡ r ++ k
    → s ≡ out ++ (t ++ (field_line (codes "Content-Length") n ++ (field_line (codes "Set-Number") m ++ (w ++ k))))
fields_pushed out t n m w k p q r s e1 e2 e3 e4 =
    let f : s ≡ ((((out ++ ((t ++ before_length) ++ n)) ++ (before_number ++ m)) ++ (crlf ++ w)) ++ k) =
    e4 ∙ ap (λ (z : List ℕ). z ++ k) (e3 ∙ ap (λ (z : List ℕ). z ++ (crlf ++ w)) (e2 ∙ ap (λ (z : List ℕ). z ++ (before_number ++ m)) e1)) in
    let last : (before_number ++ m) ++ (crlf ++ (w ++ k)) ≡ crlf ++ (field_line (codes "Set-Number") m ++ (w ++ k)) =
    append_assoc before_number m (crlf ++ (w ++ k)) ∙ sym (line_then before_number m (w ++ k)) in
    let first : ((t ++ before_length) ++ n) ++ (crlf ++ (field_line (codes "Set-Number") m ++ (w ++ k)))
    ≡ t ++ (field_line (codes "Content-Length") n ++ (field_line (codes "Set-Number") m ++ (w ++ k))) =
    append_assoc (t ++ before_length) n (crlf ++ (field_line (codes "Set-Number") m ++ (w ++ k)))
    ∙ append_assoc t before_length (n ++ (crlf ++ (field_line (codes "Set-Number") m ++ (w ++ k))))
    ∙ ap (λ (z : List ℕ). t ++ z) (sym (line_then before_length n (field_line (codes "Set-Number") m ++ (w ++ k)))) in
    f ∙ in_order out ((t ++ before_length) ++ n) (before_number ++ m) (crlf ++ w) k
    ∙ ap (λ (z : List ℕ). out ++ (((t ++ before_length) ++ n) ++ z)) last
    ∙ ap (λ (z : List ℕ). out ++ z) first
