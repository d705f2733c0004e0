-- Bytes stand for one datum at most, and bytes that stand for one have no cause to be refused.
use Rattle.std.proofs.Common.{◌≡◌, ℕ, List, true≢false, Result, Ok, Err, Some, sym, ap, ◌∙◌, arith}
use Rattle.serde_json.specs.Data as json
use Rattle.page_datum.specs.Data.{Data}
use Rattle.page_datum.specs.Reading.{IsJson, IsDatum, IsNoDatum, Path, data_of}
use Rattle.page_datum.specs.declared.refused.DataRefused.{DataRefused}
use Rattle.page_datum.specs.declared.refused.DataRefused.TheVariants.{TooLong, TooDeep, NotJson, NotWhole, Memory}

one : {A : Type 0} (x y : A) → Some x ≡ Some y → x ≡ y
one x y e = cc

one_ok : (x y : Data) (o : Result Data Path) → o ≡ Ok x → o ≡ Ok y → x ≡ y
one_ok x y o e f = let same : Ok x ≡ Ok y = sym e ∙ f in cc

not_both : (d : Data) (path : Path) (o : Result Data Path) → o ≡ Ok d → o ≡ Err path → ⊥
not_both d path o e f = cc

one_json : (bytes : List ℕ) (v w : json.Data) → IsJson bytes v → IsJson bytes w → v ≡ w
one_json bytes v w a b = one v w (sym a.reads ∙ b.reads)

pub one_datum : (bytes : List ℕ) (d e : Data) → IsDatum bytes d → IsDatum bytes e → d ≡ e
one_datum bytes d e a b = one_ok d e (data_of a.1) a.3 (ap data_of (one_json bytes a.1 b.1 a.2 b.2) ∙ b.3)

pub no_cause : (why : DataRefused) (bytes : List ℕ) (d : Data) → IsDatum bytes d → IsNoDatum why bytes → ⊥
no_cause (TooLong n) bytes d is w = omega (arith, is.0.short, w)
no_cause TooDeep bytes d is w = true≢false (sym w.1 ∙ is.0.flat)
no_cause NotJson bytes d is w = w.1 is.1 is.2
no_cause (NotWhole shown) bytes d is w = not_both d w.2 (data_of is.1) is.3 (ap data_of (one_json bytes is.1 w.1 is.2 w.3) ∙ w.4)
no_cause Memory bytes d is w = w
