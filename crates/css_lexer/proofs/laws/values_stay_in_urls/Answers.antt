use Rattle.css_lexer.proofs.UrlsStay.{url-stays}
use Rattle.css_lexer.proofs.laws.values_stay_in_urls.Goals as goal
use Rattle.css_lexer.specs.Urls.{urls}

pub returns : goal.returns
returns c = λ p text e. url-stays urls p text e
