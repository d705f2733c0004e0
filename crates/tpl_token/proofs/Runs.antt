-- Where a byte that is searched stands, the run of other bytes before it ends.
use Rattle.std.proofs.Common.{◌≡◌, ℕ, Bool, not, List, length, get_or, Some, None, sym, ap, arith}
use Rattle.std.proofs.lemmas.List.Sums.{prefix_len_is}
use Rattle.std.specs.List.{prefix_len}
use Rattle.memchr.specs.Find.{IsFirstByte}
use Rattle.tpl_token.proofs.Marks.{either}

pub run_none : (test : ℕ → Bool) (bytes : List ℕ) → IsFirstByte test bytes None → length bytes ≡ prefix_len (λ b. not (test b)) bytes
run_none test bytes none = sym (prefix_len_is (λ b. not (test b)) bytes (length bytes) 0 (omega arith)
    (λ k inside. either (test (get_or bytes k 0)) (λ t. absurd (none k (omega arith) inside t)) (λ f. ap not f))
    (λ less. absurd (omega (arith, less))))

pub run_some : (test : ℕ → Bool) (bytes : List ℕ) (n : ℕ) → IsFirstByte test bytes (Some n) → n ≡ prefix_len (λ b. not (test b)) bytes
run_some test bytes n (before, is) = sym (prefix_len_is (λ b. not (test b)) bytes n 0 (omega (arith, before.high))
    (λ k inside. either (test (get_or bytes k 0)) (λ t. absurd (before.before k (omega arith) inside t)) (λ f. ap not f))
    (λ less. ap not is))
