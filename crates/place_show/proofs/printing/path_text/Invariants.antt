use Rattle.std.proofs.Common.{◌≡◌, ◌++◌, drop}
use Rattle.place_show.specs.PathTexts.{more_text, path_text}
use Rattle.place_show.proofs.printing.path_text.Given as goal

abbrev pub invariant-loop-choice : goal.invariant-loop-choice
invariant-loop-choice l = l.text ++ more_text (drop l.choice-index l.more) ≡ path_text l.path
