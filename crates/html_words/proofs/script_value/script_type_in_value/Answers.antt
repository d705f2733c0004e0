use Rattle.std.proofs.Common.{◌∙◌, ap}
use Rattle.place_core.specs.page.Words.{script_types}
use Rattle.html_words.proofs.TypeWords.{is_any_script}
use Rattle.html_words.specs.ScriptTypes.{undone_value, is_any_type}
use Rattle.html_words.proofs.script_value.script_type_in_value.Goals as goal

pub returns : goal.returns
returns c = c.is_any_type.ensures ∙ ap (is_any_type script_types) c.after_white.ensures ∙ is_any_script (undone_value c.args.value.now)
