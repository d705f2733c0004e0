use Rattle.std.proofs.Common.{◌∙◌}
use Rattle.html_scan.proofs.TypesRead.{type_tagged}
use Rattle.html_scan.proofs.types.type_tag.Goals as goal

pub returns : goal.returns
returns c = c.tag_by_type.ensures ∙ type_tagged c.args.tag c.args.value.now c.script_type_in_value.result c.script_type_in_value.ensures
