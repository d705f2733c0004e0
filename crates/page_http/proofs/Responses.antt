-- A reply that can be sent is a response of the grammar.
use Rattle.std.proofs.Common.{ℕ, zero, suc, ◌+◌, ◌*◌, ◌^◌, ◌<◌, ◌≤◌, ◌≡◌, ◌/◌, ◌%◌, Bool, true, false, cond, ◌==◌, ◌&&◌, List, [], ◌∷◌, ◌++◌, length, Option, Some, None, IsSome, unwrap_or, codes, arith, append_assoc, refl, sym, ap, subst, ◌∙◌}
use Rattle.std.proofs.lemmas.Bool.Decides.{nat_tests}
use Rattle.std.proofs.lemmas.List.Elements.{All-cons}
use Rattle.std.proofs.lemmas.List.Folds.{list_all-append}
use Rattle.std.proofs.lemmas.List.Sums.{AllPass-from_list_all}
use Rattle.std.proofs.lemmas.Fmt.{decimal_by_steps}
use Rattle.std.specs.Char.{is_ascii_digit}
use Rattle.std.specs.Fmt.{decimal, digits}
use Rattle.std.specs.List.{list_all, flat_map, All}
use Rattle.std.specs.Str.Parse.{digits_value}
use Rattle.httparse.specs.Grammar.{Field, IsField, print_field, print_section, print_response, IsResponseHead, ReadsResponse, is_token_byte, is_value_byte, crlf as ends}
use Rattle.httparse.proofs.GrammarLemmas.{print_response-append}
use Rattle.page_http.specs.Replies.{IsSendable, IsReplyStatus, phrases, phrase_in, phrase, crlf, reply_text, status_line, fields, field_line, content_type, allowed, connection, media_type, methods, option}
use Rattle.page_http.specs.Responses.{sent_field, with_methods, sent_fields, sent_head, IsReadAsSent, RepliesAreResponses}
use Rattle.page_http.specs.declared.reply.Allow.{Allow}
use Rattle.page_http.specs.declared.reply.Allow.TheVariants as allow
use Rattle.page_http.specs.declared.reply.Reply.{Reply}

-- ---- the statuses and their phrases

abbrev AllRows : (ℕ → List ℕ → Type 0) → List (ℕ × List ℕ) → Type 0
AllRows P [] = Unit {0}
AllRows P (row ∷ rows) = P row.0 row.1 × AllRows P rows

by_row : (P : ℕ → List ℕ → Type 0) (rows : List (ℕ × List ℕ)) (s : ℕ) → AllRows P rows → IsSome (phrase_in rows s)
    → P s (unwrap_or (phrase_in rows s) [])
by_row P [] s all h = cc
by_row P (row ∷ rows) s all h = by_test (by_row P rows s all.1) (s == row.0) (λ t. grind (arith, nat_tests, t)) h
  where
    by_test : (IsSome (phrase_in rows s) → P s (unwrap_or (phrase_in rows s) [])) → (b : Bool) → (b ≡ true → s ≡ row.0)
        → IsSome (cond b (Some row.1) (phrase_in rows s)) → P s (unwrap_or (cond b (Some row.1) (phrase_in rows s)) [])
    by_test rest true e h = subst (λ (z : ℕ). P z row.1) (sym (e refl)) all.0
    by_test rest false e h = rest h

abbrev IsGood : ℕ → List ℕ → Type 0
IsGood s p =
    (length (decimal s) ≡ 3) × (list_all is_ascii_digit (decimal s) ≡ true) × (digits_value 10 (decimal s) ≡ s)
    × (list_all is_value_byte p ≡ true)

good_rows : AllRows IsGood phrases
unfolding digits
good_rows =
    ((refl, refl, refl, refl), ((refl, refl, refl, refl), ((refl, refl, refl, refl), ((refl, refl, refl, refl), ((refl, refl, refl, refl), ((refl, refl, refl, refl), ((refl, refl, refl, refl), ((refl, refl, refl, refl), ((refl, refl, refl, refl), ((refl, refl, refl, refl), ((refl, refl, refl, refl), ((refl, refl, refl, refl), tt))))))))))))

good_status : (s : ℕ) → IsReplyStatus s → IsGood s (phrase s)
good_status s h = by_row IsGood phrases s good_rows h

-- ---- the fields

digit_is_value : (d : ℕ) → d < 10 → is_value_byte (48 + d) ≡ true
digit_is_value d small = grind (arith, nat_tests, small)

decimal_is_value : (n : ℕ) → n < 2 ^ 64 → list_all is_value_byte (decimal n) ≡ true
decimal_is_value =
    decimal_by_steps (λ m ds. list_all is_value_byte ds ≡ true)
    (λ m l. ap (λ (z : Bool). z && true) (digit_is_value m l))
    (λ m ds l h. list_all-append is_value_byte ds ((48 + m % 10) ∷ [])
    ∙ ap (λ (z : Bool). z && (is_value_byte (48 + m % 10) && true)) h
    ∙ ap (λ (z : Bool). z && true) (digit_is_value (m % 10) (omega arith)))

-- a field whose name is a token and whose value is plain
is_field : (name value : List ℕ) → 0 < length name → list_all is_token_byte name ≡ true → list_all is_value_byte value ≡ true
    → IsField (sent_field name value)
is_field name value some token plain = record {
  name = (some, AllPass-from_list_all is_token_byte name token);
  raw = AllPass-from_list_all is_value_byte (32 ∷ value) plain;
}

plain_type : (html : Bool) → list_all is_value_byte (media_type html) ≡ true
plain_type true = refl
plain_type false = refl

plain_option : (close : Bool) → list_all is_value_byte (option close) ≡ true
plain_option true = refl
plain_option false = refl

no_fields : All IsField []
no_fields k d inside = absurd (omega (arith, inside))

methods_or_none : (b : Bool) (m : List ℕ) (rest : List Field) → list_all is_value_byte m ≡ true → All IsField rest
    → All IsField (cond b (sent_field (codes "Allow") m ∷ rest) rest)
unfolding is_token_byte
methods_or_none true m rest plain all = All-cons IsField (sent_field (codes "Allow") m) rest (is_field (codes "Allow") m (omega arith) refl plain) all
methods_or_none false m rest plain all = all

methods_are : (status : ℕ) (a : Allow) (rest : List Field) → All IsField rest → All IsField (with_methods status a rest)
methods_are status allow.Nothing rest all = all
methods_are status allow.Get rest all = methods_or_none (status == 405) (codes "GET") rest refl all
methods_are status allow.Post rest all = methods_or_none (status == 405) (codes "POST") rest refl all
methods_are status allow.GetPost rest all = methods_or_none (status == 405) (codes "GET, POST") rest refl all

-- the fields from the last one on, and from those before it
abbrev last_field : Bool → List Field
last_field close = sent_field (codes "Connection") (option close) ∷ []

abbrev from_methods : Reply → Bool → List Field
from_methods reply close = with_methods reply.status reply.allow (last_field close)

abbrev from_number : Reply → Bool → List Field
from_number reply close = sent_field (codes "Set-Number") (decimal reply.number) ∷ from_methods reply close

abbrev from_length : Reply → Bool → List Field
from_length reply close = sent_field (codes "Content-Length") (decimal (length reply.body)) ∷ from_number reply close

fields_are : (reply : Reply) (close : Bool) → reply.number < 2 ^ 64 → length reply.body < 2 ^ 64
    → All IsField (sent_fields reply close)
unfolding is_token_byte
fields_are reply close n l =
    let e : All IsField (last_field close) = All-cons IsField (sent_field (codes "Connection") (option close)) [] (is_field (codes "Connection") (option close) (omega arith) refl (plain_option close)) no_fields in
    let m : All IsField (from_methods reply close) = methods_are reply.status reply.allow (last_field close) e in
    let c : All IsField (from_number reply close) = All-cons IsField (sent_field (codes "Set-Number") (decimal reply.number)) (from_methods reply close) (is_field (codes "Set-Number") (decimal reply.number) (omega arith) refl (decimal_is_value reply.number n)) m in
    let b : All IsField (from_length reply close) = All-cons IsField (sent_field (codes "Content-Length") (decimal (length reply.body))) (from_number reply close) (is_field (codes "Content-Length") (decimal (length reply.body)) (omega arith) refl (decimal_is_value (length reply.body) l)) c in
    All-cons IsField (sent_field (codes "Content-Type") (media_type reply.html)) (from_length reply close) (is_field (codes "Content-Type") (media_type reply.html) (omega arith) refl (plain_type reply.html)) b

-- ---- the bytes

one_field : (f : Field) (fs : List Field) → print_section (f ∷ fs) ends ≡ print_field f ++ print_section fs ends
one_field f fs = append_assoc (print_field f) (flat_map print_field fs) crlf

allowed_or_none : (b : Bool) (m : List ℕ) (close : Bool)
    → print_section (cond b (sent_field (codes "Allow") m ∷ last_field close) (last_field close)) ends
    ≡ cond b (field_line (codes "Allow") m) [] ++ connection close
allowed_or_none true m close =
    one_field (sent_field (codes "Allow") m) (last_field close)
    ∙ ap (λ (z : List ℕ). field_line (codes "Allow") m ++ z) (one_field (sent_field (codes "Connection") (option close)) [])
allowed_or_none false m close = one_field (sent_field (codes "Connection") (option close)) []

last_fields : (status : ℕ) (a : Allow) (close : Bool)
    → print_section (with_methods status a (last_field close)) ends ≡ allowed status a ++ connection close
last_fields status allow.Nothing close = one_field (sent_field (codes "Connection") (option close)) []
last_fields status allow.Get close = allowed_or_none (status == 405) (codes "GET") close
last_fields status allow.Post close = allowed_or_none (status == 405) (codes "POST") close
last_fields status allow.GetPost close = allowed_or_none (status == 405) (codes "GET, POST") close

all_fields : (reply : Reply) (close : Bool) → print_section (sent_fields reply close) ends ≡ fields reply close
all_fields reply close =
    one_field (sent_field (codes "Content-Type") (media_type reply.html)) (from_length reply close)
    ∙ ap (λ (z : List ℕ). content_type reply.html ++ z)
    (one_field (sent_field (codes "Content-Length") (decimal (length reply.body))) (from_number reply close)
    ∙ ap (λ (z : List ℕ). field_line (codes "Content-Length") (decimal (length reply.body)) ++ z)
    (one_field (sent_field (codes "Set-Number") (decimal reply.number)) (from_methods reply close)
    ∙ ap (λ (z : List ℕ). field_line (codes "Set-Number") (decimal reply.number) ++ z)
    (last_fields reply.status reply.allow close)))

line_then : (d p rest : List ℕ)
    → (codes "HTTP/1.1 " ++ (d ++ (codes " " ++ (p ++ crlf)))) ++ rest ≡ codes "HTTP/1.1 " ++ (d ++ (codes " " ++ (p ++ (crlf ++ rest))))
line_then d p rest =
    ap (λ (z : List ℕ). codes "HTTP/1.1 " ++ z)
    (append_assoc d (codes " " ++ (p ++ crlf)) rest ∙ ap (λ (z : List ℕ). d ++ (codes " " ++ z)) (append_assoc p crlf rest))

bytes_are : (reply : Reply) (close : Bool) → reply_text reply close ≡ print_response (sent_head reply close) ++ reply.body
bytes_are reply close =
    line_then (decimal reply.status) (phrase reply.status) (fields reply close ++ reply.body)
    ∙ ap (λ (z : List ℕ). codes "HTTP/1.1 " ++ (decimal reply.status ++ (codes " " ++ (phrase reply.status ++ (crlf ++ (z ++ reply.body)))))) (sym (all_fields reply close))
    ∙ sym (print_response-append (sent_head reply close) reply.body)

pub replies_are : RepliesAreResponses
replies_are reply close sendable n l =
    let good = good_status reply.status sendable.status in
    record {
      reads = (
        record {
          minor = omega arith;
          digits = (good.0, AllPass-from_list_all is_ascii_digit (decimal reply.status) good.1);
          reason = AllPass-from_list_all is_value_byte (phrase reply.status) good.3;
          fields = fields_are reply close n l;
        },
        bytes_are reply close,
      );
      status_is = good.2;
    }
