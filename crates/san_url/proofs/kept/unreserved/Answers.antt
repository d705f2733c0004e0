use Rattle.std.proofs.Common.{refl}
use Rattle.url_lexer.specs.Kept.{is_unreserved}
use Rattle.san_url.proofs.Runs.{table-of}
use Rattle.san_url.proofs.kept.unreserved.Goals as goal

pub returns : goal.returns
returns c = table-of is_unreserved _ refl refl
