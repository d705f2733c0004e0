-- Where a word stands in a text, or is spelled there.
use Rattle.std.proofs.Common.{◌≡◌, ℕ, ◌+◌, ◌-◌, ◌<◌, ◌≤◌, nat_eq, false, List, [], ◌∷◌, drop, get_or, length, take, refl, sym, ap, ◌∙◌, inl, inr, arith}
use Rattle.std.specs.List.{starts_with}
use Rattle.std.proofs.lemmas.Bool.{and_right, cases_Bool, or_from}
use Rattle.std.proofs.lemmas.List.{drop_more, length-drop, take_all}
use Rattle.css_lexer.specs.Sanitizers.{holds_word, is_spelled, style_spelled}

holds-behind : (word : List ℕ) (b : ℕ) (bs : List ℕ) → starts_with nat_eq (b ∷ bs) word ≡ false → holds_word word (b ∷ bs) ≡ holds_word word bs
holds-behind word b bs e = rw e refl

-- where a text does not begin with it, it stands behind the first byte or nowhere
pub holds-on : (word text : List ℕ) (at : ℕ) → at < length text → starts_with nat_eq (drop at text) word ≡ false → holds_word word (drop (at + 1) text) ≡ holds_word word (drop at text)
holds-on word text at inside e =
    let here = drop_more text at 0 inside in
    sym (holds-behind word (get_or text at 0) (drop (at + 1) text) (ap (λ (bs : List ℕ). starts_with nat_eq bs word) (sym here) ∙ e)) ∙ ap (holds_word word) (sym here)

-- the slice from a place on
pub slice-is : (text : List ℕ) (at : ℕ) → take (length text - at) (drop at text) ≡ drop at text
slice-is text at = take_all (length text - at) (drop at text) (omega (arith, length-drop at text))

short-begins : (word text : List ℕ) → length text < length word → starts_with nat_eq text word ≡ false
short-begins [] text few = absurd (omega (arith, few))
short-begins (w ∷ ws) [] few = refl
short-begins (w ∷ ws) (b ∷ bs) few = and_right (nat_eq w b) (starts_with nat_eq bs ws) (short-begins ws bs (omega (arith, few)))

short-holds : (word text : List ℕ) → length text < length word → holds_word word text ≡ false
short-holds word [] few = short-begins word [] few
short-holds word (b ∷ bs) few = or_from (starts_with nat_eq (b ∷ bs) word) (holds_word word bs) (short-begins word (b ∷ bs) few) (short-holds word bs (omega (arith, few)))

spelled-fits : (text : List ℕ) → length (style_spelled text) ≤ length text
spelled-fits [] = omega arith
spelled-fits (b ∷ bs) = elim (cases_Bool (is_spelled b)) [
  | inl t ↦ rw t (omega (arith, spelled-fits bs))
  | inr f ↦ rw f (omega (arith, spelled-fits bs))
]

-- a text that is shorter than a word does not spell it
pub spelled-short : (word text : List ℕ) → length text < length word → holds_word word (style_spelled text) ≡ false
spelled-short word text few = short-holds word (style_spelled text) (omega (arith, few, spelled-fits text))
