-- What holds of a showing that may be answered is weakened.
use Rattle.std.proofs.Common.{Option, Some, None, Result, Ok, Err, IfOk, IfSome}

pub if-shown : {A E : Type 0} (P Q : A → Type 0) (r : Result (Option A) E) → ((x : A) → P x → Q x) → IfOk r (λ found. IfSome found P) → IfOk r (λ found. IfSome found Q)
if-shown P Q (Ok (Some x)) f h = f x h
if-shown P Q (Ok None) f h = tt
if-shown P Q (Err e) f h = tt
