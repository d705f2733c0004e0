-- What a copy from the prefix of the bytes that are left takes from them.
use Rattle.std.proofs.Common.{◌≡◌, ℕ, ◌+◌, List, [], ◌++◌, take, drop, sym, add-zero}
use Rattle.std.proofs.lemmas.List.{take-append-drop, drop-drop}

-- the bytes that were copied, and those that are left
pub taken_front : (bytes copied : List ℕ) (at n : ℕ) → take n copied ≡ take n (drop at bytes) → drop at bytes ≡ take n copied ++ drop (at + n) bytes
taken_front bytes copied at n e = rw (e, ← drop-drop n at bytes) (sym (take-append-drop n (drop at bytes)))

-- nothing is copied only where nothing is left
pub none_left : (bytes : List ℕ) (at n : ℕ) → n ≡ 0 → drop at bytes ≡ [] → drop (at + n) bytes ≡ []
none_left bytes at n none end = rw (none, add-zero) end
