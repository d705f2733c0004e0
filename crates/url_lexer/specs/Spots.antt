-- The place of a path in a URL: where its node may end, and the next one begins. It is the part; inside a percent triple there is none.
use Rattle.std.specs.Prelude.{Option, Some, None}
use Rattle.url_lexer.specs.Parts.{UrlPart}
use Rattle.url_lexer.specs.States.{Url}
use Rattle.url_lexer.specs.Triples.{Triple, NoTriple, AfterPercent, AfterDigit}

abbrev pub where_whole : Triple → UrlPart → Option UrlPart
where_whole NoTriple p = Some p
where_whole AfterPercent p = None
where_whole AfterDigit p = None

abbrev pub url_spot : Url → Option UrlPart
url_spot u = where_whole u.triple u.part
