use Rattle.css_lexer.proofs.StylesOfUrls.{styles-of-urls-keep}
use Rattle.css_lexer.proofs.laws.style_language_has_laws.Goals as goal

pub returns : goal.returns
returns c = styles-of-urls-keep c.url_language_has_laws.ensures
