use Rattle.std.proofs.Common.{◌∙◌, sym}
use Rattle.place_flow.proofs.Lasts.{last_alone, misused_before}
use Rattle.place_flow.proofs.uses.hole_use.Goals as goal

pub returns-then-commands_name_escaper : goal.returns-then-commands_name_escaper
returns-then-commands_name_escaper c =
    let some = c.in-Some in
    let named = sym c.commands_name_escaper.ensures ∙ c.if-commands_name_escaper.true in
    misused_before c.args.pipe.now.commands c.as_slice.result.now some.before.now some.last.now c.as_slice.ensures.all some.ensures.cases.0 named

pub returns-else-commands_name_escaper : goal.returns-else-commands_name_escaper
returns-else-commands_name_escaper c =
    let some = c.in-Some in
    let named = sym c.commands_name_escaper.ensures ∙ c.if-commands_name_escaper.false in
    c.last_use.ensures ∙ last_alone c.args.pipe.now.commands c.as_slice.result.now some.before.now some.last.now c.as_slice.ensures.all some.ensures.cases.0 named
