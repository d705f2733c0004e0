-- Parts of a text.
use Rattle.std.proofs.Common.{◌≡◌, ℕ, ◌+◌, ◌-◌, ◌<◌, ◌≤◌, List, ◌∷◌, ◌++◌, length, take, drop, get_or, sym, ap, ◌∙◌, arith}
use Rattle.std.proofs.Math.Seq.{take-append_seam, drop-append_seam}
use Rattle.std.proofs.lemmas.List.{drop-append-le, drop-drop, get_or-take, get_or-drop, length-append, length-drop, length-take-le, take-append-drop, take-take}
use Rattle.html_scan.specs.Slices.{pending}

pub length-pending : (text : List ℕ) (from to : ℕ) → to ≤ length text → length (pending text from to) ≡ to - from
length-pending text from to h = omega (arith, length-drop from (take to text), length-take-le to text h)

pub read-pending : (text : List ℕ) (from to k : ℕ) → from + k < to → get_or (pending text from to) k 0 ≡ get_or text (from + k) 0
read-pending text from to k h = get_or-drop from (take to text) k 0 ∙ get_or-take to text (from + k) 0 h

-- what has been read is what has been read up to a place, and then from it on
pub pending_joins : (text : List ℕ) (from at to : ℕ) → from ≤ at → at ≤ to → to ≤ length text → pending text from to ≡ pending text from at ++ pending text at to
pending_joins text from at to h i j =
    let whole : take to text ≡ take at text ++ drop at (take to text) = rw (sym (take-take at to text i)) (sym (take-append-drop at (take to text))) in
    ap (drop from) whole ∙ drop-append-le from (take at text) (drop at (take to text)) (omega (arith, length-take-le at text (omega arith)))

-- what has been read is some bytes, and then others
pub record IsParted (text : List ℕ) (from at to : ℕ) (left right : List ℕ) : Type 0 where
  pub start : at ≡ from + length left
  pub end : at + length right ≡ to
  pub before : pending text from at ≡ left
  pub behind : pending text at to ≡ right

pub parted : (text : List ℕ) (from to : ℕ) (left right : List ℕ) → from ≤ to → to ≤ length text → left ++ right ≡ pending text from to → IsParted text from (to - length right) to left right
parted text from to left right h i e =
    let len : length left + length right ≡ to - from = omega (arith, sym (length-append left right), ap length e, length-pending text from to i) in
    let at = to - length right in
    let joined = pending_joins text from at to (omega (arith, len)) (omega (arith, len)) i in
    let scan : length (pending text from at) ≡ length left = omega (arith, len, length-pending text from at (omega (arith, len))) in
    record {
      start = omega (arith, len);
      end = omega (arith, len);
      before = sym (take-append_seam (pending text from at) (pending text at to)) ∙ ap (λ (n : ℕ). take n (pending text from at ++ pending text at to)) scan ∙ ap (take (length left)) (sym (e ∙ joined)) ∙ take-append_seam left right;
      behind = sym (drop-append_seam (pending text from at) (pending text at to)) ∙ ap (λ (n : ℕ). drop n (pending text from at ++ pending text at to)) scan ∙ ap (drop (length left)) (sym (e ∙ joined)) ∙ drop-append_seam left right;
    }

-- likewise, the first of which is this one
pub first_byte : (text : List ℕ) (at to b : ℕ) (right : List ℕ) → at < to → pending text at to ≡ b ∷ right → get_or text at 0 ≡ b
first_byte text at to b right h e =
    let here : at + 0 ≡ at = omega arith in
    ap (λ (i : ℕ). get_or text i 0) (sym here) ∙ sym (read-pending text at to 0 (omega (arith, h))) ∙ ap (λ (xs : List ℕ). get_or xs 0 0) e

pub behind_first : (text : List ℕ) (at to b : ℕ) (right : List ℕ) → pending text at to ≡ b ∷ right → pending text (at + 1) to ≡ right
behind_first text at to b right e = sym (drop-drop 1 at (take to text)) ∙ ap (drop 1) e
