use Rattle.text_norm.proofs.LanguagesKeep.{languages-keep}
use Rattle.text_norm.proofs.laws.value_language_has_laws.Goals as goal

pub returns : goal.returns
returns c = languages-keep
