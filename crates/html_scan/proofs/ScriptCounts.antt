-- How far the counts of a script go, by the greatest of them.
use Rattle.std.proofs.Common.{ℕ, zero, suc, ◌+◌, ◌≤◌, List, [], ◌∷◌, arith}
use Rattle.std.specs.Prelude.{get_or}
use Rattle.js_step.specs.ScriptScanViews.{ScriptScanFits}
use Rattle.js_step.specs.declared.scan.ScriptScan.{ScriptScan as ReadScript}
use Rattle.html_scan.specs.ScanViews.{greatest, script_count}

below_greatest : (xs : List ℕ) (i : ℕ) → get_or xs i 0 ≤ greatest xs
below_greatest [] i = omega arith
below_greatest (x ∷ xs) zero = omega arith
below_greatest (x ∷ xs) (suc i) = (let rest = below_greatest xs i in omega (arith, rest))

greatest_below : (k : ℕ) (xs : List ℕ) → ((i : ℕ) → get_or xs i 0 ≤ k) → greatest xs ≤ k
greatest_below k [] h = omega arith
greatest_below k (x ∷ xs) h =
    (let head : x ≤ k = h 0 in let rest = greatest_below k xs (λ i. h (suc i)) in omega (arith, head, rest))

each_below : (k : ℕ) (xs : List ℕ) → greatest xs ≤ k → (i : ℕ) → get_or xs i 0 ≤ k
each_below k xs h i = (let one = below_greatest xs i in omega (arith, one, h))

pub fits_count : (k : ℕ) (n : ReadScript) → script_count n ≤ k → ScriptScanFits k n
fits_count k n h =
    let brace : n.trail.brace ≤ k + 2 = omega (arith, h) in
    let bracket : n.trail.bracket ≤ k = omega (arith, h) in
    let literal : n.trail.literal ≤ k = omega (arith, h) in
    let rest : greatest n.literals.braces ≤ k = omega (arith, h) in
    record {
      braces = record { fit = each_below k n.literals.braces rest };
      trail = record { brace = brace; bracket = bracket; literal = literal };
    }

pub count_fits : (k : ℕ) (n : ReadScript) → ScriptScanFits k n → script_count n ≤ k
count_fits k n h = (
    let rest = greatest_below k n.literals.braces h.braces.fit in
    omega (arith, rest, h.trail.brace, h.trail.bracket, h.trail.literal))

pub step_count : (n w : ReadScript) → ((k : ℕ) → ScriptScanFits k n → ScriptScanFits (k + 1) w) → script_count w ≤ script_count n + 1
step_count n w h = count_fits (script_count n + 1) w (h (script_count n) (fits_count (script_count n) n (omega arith)))
