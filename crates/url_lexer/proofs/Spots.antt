-- Where the page is alike to the path, its place is that of the path.
use Rattle.std.proofs.Common.{ap₂}
use Rattle.url_lexer.specs.Spots.{where_whole}
use Rattle.url_lexer.specs.SpotsAlike.{SpotsAlike}

pub spots-alike : SpotsAlike
spots-alike v w a = ap₂ where_whole a.triple a.part
