use Rattle.std.proofs.Common.{arith}
use Rattle.page_server.proofs.Counting.{link_counted}
use Rattle.page_server.proofs.tests.counting.serve_counted.Goals as goal

pub returns-clause-counted : goal.returns-clause-counted
returns-clause-counted g c =
    link_counted _ _ (λ kept. kept.0) (λ kept0 kept set r n result pages. omega (arith, pages.0)) _ _ _ c.serve_with.ensures.serves
