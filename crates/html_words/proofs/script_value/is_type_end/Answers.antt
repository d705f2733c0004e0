use Rattle.std.proofs.Common.{◌∙◌, sym}
use Rattle.html_words.proofs.FirstBytes.{ends_with_value}
use Rattle.html_words.proofs.script_value.is_type_end.Goals as goal

pub returns : goal.returns
returns c = c.is_empty.ensures ∙ sym (ends_with_value c.loop-byte.rest.now c.in_default.ensures.first) ∙ c.loop-byte.invariant
