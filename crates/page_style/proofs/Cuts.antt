-- Parts of a text.
use Rattle.std.proofs.Common.{◌≡◌, ℕ, ◌+◌, ◌≤◌, List, [], ◌++◌, length, take, drop, sym, ap, ◌∙◌, arith}
use Rattle.std.proofs.Math.ListN.{drop_of_length-le}
use Rattle.std.proofs.lemmas.List.{drop-append-le, drop-take, length-take-le, take-append-drop, take-take}
use Rattle.page_style.specs.Views.{style_slice}

-- from a place up to another, and from there on
pub cut_joins : (text : List ℕ) (from at to : ℕ) → from ≤ at → at ≤ to → to ≤ length text → style_slice text from to ≡ style_slice text from at ++ style_slice text at to
cut_joins text from at to h i j =
    let whole : take to text ≡ take at text ++ drop at (take to text) = rw (sym (take-take at to text i)) (sym (take-append-drop at (take to text))) in
    ap (drop from) whole ∙ drop-append-le from (take at text) (drop at (take to text)) (omega (arith, length-take-le at text (omega arith)))

pub cut_none : (text : List ℕ) (at : ℕ) → at ≤ length text → style_slice text at at ≡ []
cut_none text at h = drop_of_length-le (take at text) (omega (arith, length-take-le at text h))

-- so many bytes from a place on
pub cut_count : (text : List ℕ) (from n : ℕ) → style_slice text from (from + n) ≡ take n (drop from text)
cut_count text from n = drop-take from n text
