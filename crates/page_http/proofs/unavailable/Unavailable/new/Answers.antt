use Rattle.std.proofs.Common.{rules, ◌≡◌, ◌++◌, ◌∙◌, ap, List, ℕ, append_assoc}
use Rattle.std.specs.Fmt.{decimal}
use Rattle.page_http.proofs.Fixed.{before_number, after_number, unavailable_is}
use Rattle.page_http.proofs.unavailable.Unavailable.new.Goals as goal

pub returns : goal.returns
returns c =
    let n = c.args.number in
    let e1 : c.push.new.out.items ≡ before_number = search rules in
    let e2 : c.push-2.new.out.items ≡ before_number ++ decimal n = search rules in
    let e3 : c.push-3.new.out.items ≡ (before_number ++ decimal n) ++ after_number = c.push-3.ensures ∙ ap (λ (z : List ℕ). z ++ after_number) e2 in
    e3 ∙ append_assoc before_number (decimal n) after_number ∙ unavailable_is n
