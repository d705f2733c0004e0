use Rattle.css_lexer.proofs.StylesOfUrls.{urls-keep}
use Rattle.css_lexer.proofs.WrittenKeeps.{written-keeps}
use Rattle.css_lexer.proofs.laws.what_is_written_reads_alike.Goals as goal

pub returns : goal.returns
returns c = written-keeps (urls-keep c.url_language_has_laws.ensures)
