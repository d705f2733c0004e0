use Rattle.std.proofs.Common.{◌∙◌, sym, ap, true≢false}
use Rattle.page_tool.specs.Words.{texts, is_command}
use Rattle.page_tool.proofs.Parsing.{command_matched, command_taken}
use Rattle.page_tool.proofs.asked.parse_words.Goals as goal

pub unreachable-requires : goal.unreachable-requires
unreachable-requires c =
    c.in_default.not-OutOfMemory (c.kind.ensures ∙ c.in-Err.ensures.passes
    (command_taken _ (texts c.args.words.now) c.in_ok-program.ensures c.requires))

pub unreachable-requires-in-None : goal.unreachable-requires-in-None
unreachable-requires-in-None c =
    let is = c.in-None.ensures ∙ command_matched _ (texts c.args.words.now) c.in-Ok.matches c.in_ok-program.ensures c.requires
    c.in-Ok.ensures.matches in
    true≢false (sym c.requires ∙ ap is_command (sym is))

pub returns : goal.returns
returns c =
    c.in-Some.ensures ∙ command_matched _ (texts c.args.words.now) c.in-Ok.matches c.in_ok-program.ensures c.requires
    c.in-Ok.ensures.matches
