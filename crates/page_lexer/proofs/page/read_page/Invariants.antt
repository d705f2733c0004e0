use Rattle.std.proofs.Common.{◌≡◌, drop}
use Rattle.page_lexer.specs.Pages.{read_from, tokens_of}
use Rattle.page_lexer.proofs.Within.{StaysWithin}
use Rattle.page_lexer.proofs.page.read_page.Given as goal

abbrev pub invariant-loop-here : goal.invariant-loop-here
invariant-loop-here l = record {
  left : read_from l.page l.here l.reading (drop l.here l.page) ≡ tokens_of l.fn.page;
  within : StaysWithin l.page l.here l.reading;
}
