use Rattle.std.proofs.Common.{sym, ap, ◌∙◌, map-id, flat_map}
use Rattle.std.proofs.Output.{has_written_of_eq}
use Rattle.std.proofs.lemmas.Iterator.{YieldsList-from_chars}
use Rattle.std.proofs.lemmas.Iterator.Consumers.{YieldsList-end}
use Rattle.page_datum.specs.Legible.{legible_character}
use Rattle.page_datum.proofs.legible_text.write_text.Goals as goal

pub returns : goal.returns
returns g c = λ plain _.
    let l = c.loop-character in
    let end = YieldsList-end (YieldsList-from_chars c.args.text.now c.utf8.text cc) l.yielded _ l.yielded_by _ _
    c.in-None.is c.next.ensures.steps in
    has_written_of_eq _ _ _ _ _ (ap (flat_map legible_character) (sym (map-id l.yielded) ∙ end.0)) (l.invariant plain)
