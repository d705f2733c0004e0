-- Room for the counts of a script: what fits for fewer bytes fits for more; a character has at most four.
use Rattle.std.proofs.Common.{ℕ, ◌≤◌, length, arith}
use Rattle.std.specs.Prelude.{encode_utf8}
use Rattle.std.proofs.lemmas.Str.{length-encode, len_utf8_bounds}
use Rattle.js_step.specs.ScriptScanViews.{ScriptScanFits, most_bytes}
use Rattle.js_step.specs.declared.scan.ScriptScan.{ScriptScan as ReadScan}

fits_more : (k m : ℕ) (n : ReadScan) → k ≤ m → ScriptScanFits k n → ScriptScanFits m n
fits_more k m n h f = record {
  braces = record { fit = λ i. (let one = f.braces.fit i in omega (arith, h, one)) };
  trail = record { brace = omega (arith, h, f.trail.brace); bracket = omega (arith, h, f.trail.bracket); literal = omega (arith, h, f.trail.literal) };
}

pub fits_most : (k : ℕ) (n : ReadScan) → k ≤ most_bytes → ScriptScanFits k n → ScriptScanFits most_bytes n
fits_most k n h f = fits_more k most_bytes n h f

pub most_four : (c : ℕ) → length (encode_utf8 c) ≤ 4
most_four c = omega (arith, length-encode c, (len_utf8_bounds c).1)
