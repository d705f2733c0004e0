use Rattle.url_step.proofs.Covering.{covers-urls}
use Rattle.url_step.proofs.laws.covers_urls.Goals as goal

pub returns : goal.returns
returns c = covers-urls
