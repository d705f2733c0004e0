use Rattle.tpl_parse.proofs.ActionsEnd.{actions_end, unclosed_are_open}
use Rattle.tpl_parse.proofs.Completions.{are_prefixes, refused_is_first}
use Rattle.tpl_parse.proofs.OneFile.{has_file_answer, one_of, one_stop, file_not_refused, one_tree, none_goes_on}
use Rattle.tpl_parse.proofs.RefusedLines.{refused_has_its_line}
use Rattle.tpl_parse.proofs.laws.one_file.Goals as goal

pub returns : goal.returns
returns c = record {
  some = has_file_answer;
  file = one_of;
  refusal = one_stop;
  not_both = file_not_refused;
  tree = one_tree;
  none = none_goes_on;
  prefixes = are_prefixes;
  first = refused_is_first;
  lines = refused_has_its_line;
  ends = actions_end;
  unclosed = unclosed_are_open;
}
