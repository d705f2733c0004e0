-- The characters of bytes, one after the other.
use Rattle.std.proofs.Common.{◌≡◌, ℕ, add-one, ◌+◌, ◌<◌, Bool, List, [], ◌∷◌, ◌++◌, Option, Some, None, append-nil, drop, get_or, length, sym, ap, ◌∙◌}
use Rattle.std.proofs.Math.Seq.{drop-cons}
use Rattle.std.proofs.lemmas.List.{append_assoc}
use Rattle.page_lexer.specs.Characters.{shown_within, code_bytes, first_of, then_rest}

head : (bytes : List ℕ) (at : ℕ) → at < length bytes → drop at bytes ≡ get_or bytes at 0 ∷ drop (at + 1) bytes
head bytes at h = rw add-one (drop-cons bytes at 0 h)

-- what is left where no character comes, and where one does
pub nothing_left : (references : Bool) (bytes rest : List ℕ) (at : ℕ) → at < length bytes → first_of references rest ≡ None → shown_within references (drop at bytes) rest ≡ []
nothing_left references bytes rest at h e =
    ap (λ (turns : List ℕ). shown_within references turns rest) (head bytes at h)
    ∙ ap (λ (o : Option (ℕ × ℕ)). then_rest o (λ (len : ℕ). shown_within references (drop (at + 1) bytes) (drop len rest))) e

character_left : (references : Bool) (bytes rest after : List ℕ) (at code len : ℕ) → at < length bytes → first_of references rest ≡ Some (code, len) → after ≡ drop len rest
    → shown_within references (drop at bytes) rest ≡ code_bytes code ++ shown_within references (drop (at + 1) bytes) after
character_left references bytes rest after at code len h e is =
    ap (λ (turns : List ℕ). shown_within references turns rest) (head bytes at h)
    ∙ ap (λ (o : Option (ℕ × ℕ)). then_rest o (λ (n : ℕ). shown_within references (drop (at + 1) bytes) (drop n rest))) e
    ∙ ap (λ (xs : List ℕ). code_bytes code ++ shown_within references (drop (at + 1) bytes) xs) (sym is)

-- all is written
pub all_decoded : (references : Bool) (bytes rest out all : List ℕ) (at : ℕ) → at < length bytes → first_of references rest ≡ None
    → out ++ shown_within references (drop at bytes) rest ≡ all → out ≡ all
all_decoded references bytes rest out all at h e invariant =
    sym (append-nil out) ∙ ap (λ (xs : List ℕ). out ++ xs) (sym (nothing_left references bytes rest at h e)) ∙ invariant

-- one character more is written
pub one_decoded : (references : Bool) (bytes rest after out more all : List ℕ) (at code len : ℕ) → at < length bytes → first_of references rest ≡ Some (code, len)
    → after ≡ drop len rest → more ≡ out ++ code_bytes code → out ++ shown_within references (drop at bytes) rest ≡ all
    → more ++ shown_within references (drop (at + 1) bytes) after ≡ all
one_decoded references bytes rest after out more all at code len h e is written invariant =
    ap (λ (xs : List ℕ). xs ++ shown_within references (drop (at + 1) bytes) after) written
    ∙ append_assoc out (code_bytes code) (shown_within references (drop (at + 1) bytes) after)
    ∙ ap (λ (xs : List ℕ). out ++ xs) (sym (character_left references bytes rest after at code len h e is))
    ∙ invariant
