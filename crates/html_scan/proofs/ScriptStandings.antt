-- Where what a script refuses stands, by the number of the byte among those that it is fed.
use Rattle.std.proofs.Common.{◌≡◌, ℕ, zero, suc, ◌+◌, ◌-◌, ◌≤◌, ◌<◌, min, false, List, [], ◌∷◌, ◌++◌, length, reverse, refl, sym, ap, ◌∙◌, arith}
use Rattle.std.proofs.lemmas.Grind.{get_or_default_zero}
use Rattle.std.proofs.lemmas.List.{append-nil, append_assoc, length-append, length-reverse, reverse-append, get_or-reverse, get_or_append_left}
use Rattle.std.specs.Prelude.{get_or, Option, Some, None, option_map}
use Rattle.js_lexer.specs.Refusals.{Cause}
use Rattle.js_step.specs.ScriptScans.{ScriptScan, script_scan_error}
use Rattle.js_step.specs.ScriptScanViews.{script_cause_at}
use Rattle.place_core.specs.place.Errors.{FedByte, PathRefusal, first_path_refusal, place_back, places_with, script_fed_refusal, script_refusal_at}
use Rattle.html_scan.specs.Scans.{all_scripts, script_fed_byte}
use Rattle.html_scan.specs.ScriptPlaces.{bytes_fed, first_refused, places_fed, refused_or, standing_refusal}
use Rattle.html_scan.specs.declared.script_refusals.RefusedByte.{RefusedByte}

-- the places, the last one first
pub places_reversed : (xs : List FedByte) (before : List ℕ) → places_with xs (reverse before) ≡ reverse (before ++ places_fed xs)
places_reversed [] before = ap reverse (sym (append-nil before))
places_reversed (x ∷ xs) before =
    ap (λ (ps : List ℕ). places_with xs ps) (sym (reverse-append before (x.place ∷ [])))
    ∙ places_reversed xs (before ++ x.place ∷ [])
    ∙ ap reverse (append_assoc before (x.place ∷ []) (places_fed xs))

back_read : (n : ℕ) (ps : List ℕ) → place_back n ps ≡ get_or ps (min n (length ps - 1)) 0
back_read n [] = refl
back_read n (p ∷ []) = (let none : min n 0 ≡ 0 = omega arith in rw none refl)
back_read zero (p ∷ q ∷ ps) = (let none : min 0 (length (p ∷ q ∷ ps) - 1) ≡ 0 = omega arith in rw none refl)
back_read (suc n) (p ∷ q ∷ ps) =
    (let one : min (suc n) (length (p ∷ q ∷ ps) - 1) ≡ suc (min n (length (q ∷ ps) - 1)) = omega arith in rw one (back_read n (q ∷ ps)))

-- the byte so many before the last one
pub back_forward : (n k : ℕ) (ps : List ℕ) → 0 < length ps → place_back n (reverse ps) ≡ get_or ps (length ps - 1 - n) k
back_forward n k ps h =
    let long : length (reverse ps) ≡ length ps = length-reverse ps in
    let inside : min n (length (reverse ps) - 1) < length ps = omega (arith, long, h) in
    let turned : length ps - 1 - min n (length (reverse ps) - 1) ≡ length ps - 1 - n = omega (arith, long, h) in
    let within : length ps - 1 - n < length ps = omega (arith, h) in
    back_read n (reverse ps) ∙ get_or-reverse ps (min n (length (reverse ps) - 1)) 0 inside ∙ ap (λ i. get_or ps i 0) turned
    ∙ sym (get_or_default_zero ps (length ps - 1 - n) k within)

-- of a byte that stands among others
pub back_among : (n k p : ℕ) (before rest : List ℕ) → place_back n (p ∷ reverse before) ≡ get_or (before ++ p ∷ rest) (length before - n) k
back_among n k p before rest =
    let ends = before ++ p ∷ [] in
    let long : length ends ≡ length before + 1 = length-append before (p ∷ []) in
    let some : 0 < length ends = omega (arith, long) in
    let index : length ends - 1 - n ≡ length before - n = omega (arith, long) in
    let within : length before - n < length ends = omega (arith, long) in
    ap (λ (ps : List ℕ). place_back n ps) (sym (reverse-append before (p ∷ [])))
    ∙ back_forward n k ends some
    ∙ ap (λ i. get_or ends i k) index
    ∙ sym (get_or_append_left ends rest k (length before - n) within)
    ∙ ap (λ (ps : List ℕ). get_or ps (length before - n) k) (append_assoc before (p ∷ []) rest)

end_read : (xs : List ℕ) (i k : ℕ) → i ≤ length xs → get_or (xs ++ k ∷ []) i k ≡ get_or xs i k
end_read [] zero k h = refl
end_read [] (suc i) k h = refl
end_read (x ∷ xs) zero k h = refl
end_read (x ∷ xs) (suc i) k h = (let less : i ≤ length xs = omega (arith, h) in end_read xs i k less)

-- of an end, which stands behind them
pub back_at_end : (n k : ℕ) (all : List ℕ) → place_back n (k ∷ reverse all) ≡ get_or all (length all - n) k
back_at_end n k all = back_among n k k all [] ∙ end_read all (length all - n) k (omega arith)

-- What is refused of the bytes that are fed.
abbrev shifted_refusal : ℕ → (all : List ℕ) → (before j : ℕ) → RefusedByte → PathRefusal
shifted_refusal k all before j x = record {
  code = x.cause.code;
  at = get_or all (before + x.number - j - x.cause.back) k;
  shown = get_or all (before + x.number - j - x.cause.shown) k;
}

one_stands : (k j p : ℕ) (before rest : List ℕ) (o : Option Cause) (other : Option PathRefusal) (left : Option RefusedByte)
    → other ≡ option_map (shifted_refusal k (before ++ p ∷ rest) (length before) j) left
    → first_path_refusal (script_refusal_at (p ∷ reverse before) o) other
    ≡ option_map (shifted_refusal k (before ++ p ∷ rest) (length before) j) (refused_or j (option_map script_cause_at o) left)
one_stands k j p before rest None other left h = h
one_stands k j p before rest (Some e) other left h =
    let whole : length before + j - j ≡ length before = omega arith in
    rw (whole, back_among e.back k p before rest, back_among e.shown k p before rest) refl

shifts : (k j : ℕ) (before : List ℕ) (p : ℕ) (rest : List ℕ) (left : Option RefusedByte)
    → option_map (shifted_refusal k ((before ++ p ∷ []) ++ rest) (length (before ++ p ∷ [])) (j + 1)) left
    ≡ option_map (shifted_refusal k (before ++ p ∷ rest) (length before) j) left
shifts k j before p rest None = refl
shifts k j before p rest (Some x) =
    let long : length (before ++ p ∷ []) ≡ length before + 1 = length-append before (p ∷ []) in
    let index : length (before ++ p ∷ []) + x.number - (j + 1) ≡ length before + x.number - j = omega (arith, long) in
    rw (append_assoc before (p ∷ []) rest, index) refl

fed_behind : (k j p : ℕ) (before rest : List ℕ) (other same : Option PathRefusal) (left : Option RefusedByte)
    → other ≡ option_map (shifted_refusal k ((before ++ p ∷ []) ++ rest) (length (before ++ p ∷ [])) (j + 1)) left → same ≡ other
    → same ≡ option_map (shifted_refusal k (before ++ p ∷ rest) (length before) j) left
fed_behind k j p before rest other same left e s =
    s ∙ e ∙ shifts k j before p rest left

pub fed_stands : (k j : ℕ) (before : List ℕ) (n : ScriptScan) (xs : List FedByte)
    → script_fed_refusal all_scripts (reverse before) n xs
    ≡ option_map (shifted_refusal k (before ++ places_fed xs) (length before) j) (first_refused n j (bytes_fed xs))
fed_stands k j before n [] = refl
fed_stands k j before n (x ∷ xs) =
    one_stands k j x.place before (places_fed xs) (script_scan_error false n x.byte) _ (first_refused (script_fed_byte n x.byte) (j + 1) (bytes_fed xs))
    (fed_behind k j x.place before (places_fed xs) _ _ _ (fed_stands k (j + 1) (before ++ x.place ∷ []) (script_fed_byte n x.byte) xs)
    (ap (λ (ps : List ℕ). script_fed_refusal all_scripts ps (script_fed_byte n x.byte) xs) (sym (reverse-append before (x.place ∷ [])))))

abbrev pub refused_standing : ℕ → (before current : List ℕ) → RefusedByte → PathRefusal
refused_standing k before current x = standing_refusal k before current x.number x.cause

whole_shift : (k : ℕ) (before rest : List ℕ) (x : Option RefusedByte)
    → option_map (shifted_refusal k (before ++ rest) (length before) 0) x ≡ option_map (refused_standing k before rest) x
whole_shift k before rest None = refl
whole_shift k before rest (Some x) = (let whole : length before + x.number - 0 ≡ length before + x.number = omega arith in rw whole refl)

pub stands : (k : ℕ) (before : List ℕ) (n : ScriptScan) (xs : List FedByte)
    → script_fed_refusal all_scripts (reverse before) n xs ≡ option_map (refused_standing k before (places_fed xs)) (first_refused n 0 (bytes_fed xs))
stands k before n xs = fed_stands k 0 before n xs ∙ whole_shift k before (places_fed xs) (first_refused n 0 (bytes_fed xs))

-- An end that a script refuses.
pub end_stands : (k : ℕ) (before : List ℕ) (xs : List FedByte) (e : Cause) (number : ℕ) → number ≡ length (places_fed xs)
    → script_refusal_at (k ∷ places_with xs (reverse before)) (Some e)
    ≡ Some (standing_refusal k before (places_fed xs) number (script_cause_at e))
end_stands k before xs e number long =
    let all = before ++ places_fed xs in
    let count : length all ≡ length before + number = rw long (length-append before (places_fed xs)) in
    rw (places_reversed xs before, back_at_end e.back k all, back_at_end e.shown k all, count) refl
