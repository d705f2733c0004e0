-- Bytes one after the other, and how many braces are open behind them.
use Rattle.std.proofs.Common.{◌≡◌, ◌++◌, ℕ, ◌+◌, ◌≤◌, List, [], ◌∷◌, refl, arith}
use Rattle.js_lexer.specs.WhiteSpace.{ClassedByte, classed, classed_as}
use Rattle.js_lexer.specs.declared.class.ScriptClass.{ScriptClass}
use Rattle.js_lexer.specs.declared.class.ScriptClass.TheVariants as class
use Rattle.page_script.specs.ReadViews.{BracesFit, braces_of_class}
use Rattle.page_script.specs.ScriptPieces.{Reading, pieces_after, pieces_next}
use Rattle.page_script.specs.declared.point.ReadLiterals.{ReadLiterals}
use Rattle.page_script.proofs.OpenLiterals.{fits-more}

opened-one : (c : ScriptClass) → braces_of_class c ≤ 1
opened-one class.OpenBrace = omega arith
opened-one _ = omega arith

pub fits-byte : (k : ℕ) (c : ScriptClass) (x : ReadLiterals) → BracesFit (k + braces_of_class c) x → BracesFit (k + 1) x
fits-byte k c x h = fits-more (k + braces_of_class c) (k + 1) x h (omega (arith, opened-one c))

pub after-append : (xs ys : List ClassedByte) (r : Reading) → pieces_after (xs ++ ys) r ≡ pieces_after ys (pieces_after xs r)
after-append [] ys r = refl
after-append (x ∷ xs) ys r = after-append xs ys (pieces_next r x.class x.byte)

pub classed-append : (c : ScriptClass) (bs : List ℕ) (b : ℕ) → classed_as c (bs ++ b ∷ []) ≡ classed_as c bs ++ classed c b ∷ []
classed-append c [] b = refl
classed-append c (a ∷ bs) b = (λ i. classed c a ∷ classed-append c bs b i)

pub ruleset byte_rules = (fits-byte)

pub ruleset fits_rules = (fits-more)

pub ruleset run_rules = (fits-more, after-append, classed-append)
