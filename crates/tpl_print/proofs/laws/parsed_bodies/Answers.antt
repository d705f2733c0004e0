use Rattle.tpl_print.proofs.Bodies.{file_parsed, bodies_parsed}
use Rattle.tpl_print.proofs.laws.parsed_bodies.Goals as goal

pub returns : goal.returns
returns c = record {
  file = λ text tokens forms h. file_parsed text tokens forms h.0 h.1;
  bodies = λ text tokens forms h. bodies_parsed text tokens forms h.0 h.1;
}
