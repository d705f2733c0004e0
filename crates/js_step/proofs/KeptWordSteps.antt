-- No answer depends on more of a word than is kept.
use Rattle.std.proofs.Common.{◌≡◌, ◌∙◌, ℕ, zero, suc, ◌≤◌, nat_le, ◌&&◌, Bool, true, false, bytes_eq, length, take, List, [], ◌∷◌, ◌++◌, refl, sym, ap, arith}
use Rattle.std.proofs.lemmas.Bool.{leb-true, and_parts}
use Rattle.js_lexer.specs.Feeding.{points}
use Rattle.js_lexer.specs.States.{At, Code, Word, Number, Pluses, Minuses, Slash, LineComment, BlockComment, InString, InRegexp, InTemplate, TooDeep, ScriptPoint, point}
use Rattle.js_lexer.specs.Steps.{is_word, next_script_word, script_next}
use Rattle.js_lexer.specs.WhiteSpace.{ClassedByte}
use Rattle.js_lexer.specs.Words.{operator_words, unclear_words, is_among_words, sense_after}
use Rattle.js_lexer.specs.declared.class.ScriptClass.{ScriptClass}
use Rattle.js_step.specs.KeptWords.{kept_word, kept_at, kept_point}

-- one byte more
take-grown : (n : ℕ) (w : List ℕ) (b : ℕ) → take n (take n w ++ b ∷ []) ≡ take n (w ++ b ∷ [])
take-grown zero w b = refl
take-grown (suc n) [] b = refl
take-grown (suc n) (x ∷ w) b = ap (λ (ys : List ℕ). x ∷ ys) (take-grown n w b)

-- a word that is no longer than so many bytes
same-short : (n : ℕ) (w o : List ℕ) → length o ≤ n → bytes_eq (take (suc n) w) o ≡ bytes_eq w o
same-short n [] o h = refl
same-short n (x ∷ w) [] h = refl
same-short zero (x ∷ w) (y ∷ o) h = absurd (omega (arith, h))
same-short (suc n) (x ∷ w) (y ∷ o) h = rw (same-short n w o (omega (arith, h))) refl

abbrev are_short : List (List ℕ) → Bool
are_short [] = true
are_short (w ∷ ws) = nat_le (length w) 10 && are_short ws

same-among : (ws : List (List ℕ)) (w : List ℕ) → are_short ws ≡ true → is_among_words ws (kept_word w) ≡ is_among_words ws w
same-among [] w h = refl
same-among (o ∷ ws) w h =
    let p = and_parts (nat_le (length o) 10) (are_short ws) h in
    rw (same-short 10 w o (leb-true (length o) 10 p.0), same-among ws w p.1) refl

pub sense-kept : (w : List ℕ) → sense_after (kept_word w) ≡ sense_after w
sense-kept w = rw (same-among operator_words w refl, same-among unclear_words w refl) refl

word-next : (k : Bool) (w : List ℕ) (c : ScriptClass) (b : ℕ) (fs : List ℕ) → kept_point (next_script_word k (kept_word w) c b fs) ≡ kept_point (next_script_word k w c b fs)
word-next true w c b fs = ap (λ (ys : List ℕ). point fs (Word ys)) (take-grown 11 w b)
word-next false w c b fs = rw (sense-kept w) refl

pub kept-next : (fs : List ℕ) (a : At) (c : ScriptClass) (b : ℕ) → kept_point (script_next fs (kept_at a) c b) ≡ kept_point (script_next fs a c b)
kept-next fs (Code s) c b = refl
kept-next fs (Word w) c b = word-next (is_word c) w c b fs
kept-next fs Number c b = refl
kept-next fs (Pluses odd) c b = refl
kept-next fs (Minuses odd) c b = refl
kept-next fs (Slash s) c b = refl
kept-next fs (LineComment s) c b = refl
kept-next fs (BlockComment s star) c b = refl
kept-next fs (InString q e) c b = refl
kept-next fs (InRegexp k e) c b = refl
kept-next fs (InTemplate e d) c b = refl
kept-next fs TooDeep c b = refl

-- of each point that is kept as that one
pub next-along : (p q : ScriptPoint) (c : ScriptClass) (b : ℕ) → kept_point p ≡ q → kept_point (script_next p.literals p.at c b) ≡ kept_point (script_next q.literals q.at c b)
next-along p q c b h =
    sym (kept-next p.literals p.at c b) ∙ ap (λ (r : ScriptPoint). kept_point (script_next r.literals r.at c b)) h

-- bytes one after another
pub points-append : (xs ys : List ClassedByte) (p : ScriptPoint) → points (xs ++ ys) p ≡ points ys (points xs p)
points-append [] ys p = refl
points-append (x ∷ xs) ys p = points-append xs ys (script_next p.literals p.at x.class x.byte)

take-twice : (n : ℕ) (w : List ℕ) → take n (take n w) ≡ take n w
take-twice zero w = refl
take-twice (suc n) [] = refl
take-twice (suc n) (x ∷ w) = ap (λ (ys : List ℕ). x ∷ ys) (take-twice n w)

pub take-again-same : (w : List ℕ) → kept_word (kept_word w) ≡ kept_word w
take-again-same w = take-twice 11 w
