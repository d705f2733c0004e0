use Rattle.std.proofs.Common.{◌≡◌, ◌∙◌, sym, ap, Some, codes}
use Rattle.clap.specs.Words.{found_of, rows_of, subcommand_rows_of}
use Rattle.clap.specs.declared.parser.matches.ArgMatches.TheViews.{out-ArgMatches, out-SubCommand}
use Rattle.std.specs.Box.{box_value}
use Rattle.clap.proofs.WalkLemmas.{first_value-rows}
use Rattle.page_tool.specs.Program.{command_in, command_with}
use Rattle.page_tool.proofs.Parsing.{ap_three, pair_some}
use Rattle.page_tool.proofs.asked.asked_in.Goals as goal

pub returns : goal.returns
returns c =
    let values = found_of c.in_ok-name.values.now in
    let found : subcommand_rows_of c.args.matches.now ≡ Some (c.in_ok-name.name.now, rows_of values) =
    pair_some (out-ArgMatches c.args.matches.now).subcommand (λ b. (out-SubCommand (box_value b)).name.now)
    (λ b. rows_of (found_of (out-SubCommand (box_value b)).matches)) _ _ c.in_ok-name.ensures.name c.in_ok-name.ensures.rows in
    c.asked_with.ensures
    ∙ ap_three (command_with c.in_ok-name.name.now) _ _ _ _ _ _ (c.get_str-dir.ensures ∙ first_value-rows values (codes "DIR"))
    (c.get_str-number.ensures ∙ first_value-rows values (codes "N")) (c.get_str-root.ensures ∙ first_value-rows values (codes "NAME"))
    ∙ sym (ap command_in found)
