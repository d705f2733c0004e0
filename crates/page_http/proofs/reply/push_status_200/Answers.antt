use Rattle.std.proofs.Common.{◌++◌, ◌∙◌, ap, List, ℕ}
use Rattle.page_http.proofs.Fixed.{line_of_200}
use Rattle.page_http.proofs.reply.push_status_200.Goals as goal

pub returns : goal.returns
returns c =
    c.in_ok-extend_from_slice.ensures.items ∙ ap (λ (z : List ℕ). c.args.out.now.items ++ z) line_of_200
