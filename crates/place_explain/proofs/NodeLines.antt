-- The lines of one node more, and of one pair more.
use Rattle.std.proofs.Common.{◌≡◌, ℕ, ◌+◌, List, [], ◌∷◌, ◌++◌, sym, ap, ◌∙◌, arith}
use Rattle.std.proofs.lemmas.List.{flat_map_more, map-id}
use Rattle.std.proofs.lemmas.List.FromFn.{map-range_with_len_more}
use Rattle.std.specs.List.{range_with_len}
use Rattle.std.specs.Prelude.{flat_map}

range_more : (n : ℕ) → range_with_len 0 (n + 1) ≡ range_with_len 0 n ++ n ∷ []
range_more n = sym (map-id (range_with_len 0 (n + 1))) ∙ map-range_with_len_more (λ (x : ℕ). x) 0 n n (omega arith) ∙ ap (λ (ns : List ℕ). ns ++ n ∷ []) (map-id (range_with_len 0 n))

pub node_more : (lines : ℕ → List ℕ) (before old new : List ℕ) (n : ℕ) → old ≡ before ++ flat_map lines (range_with_len 0 n) → new ≡ old ++ lines n → new ≡ before ++ flat_map lines (range_with_len 0 (n + 1))
node_more lines before old new n was is =
    is ∙ ap (λ (out : List ℕ). out ++ lines n) was ∙ flat_map_more lines before (range_with_len 0 n) n ∙ ap (λ (ns : List ℕ). before ++ flat_map lines ns) (sym (range_more n))
