use Rattle.std.proofs.Common.{refl}
use Rattle.url_lexer.specs.Kept.{is_kept_in_url}
use Rattle.san_url.proofs.Runs.{table-of}
use Rattle.san_url.proofs.kept.kept_in_url.Goals as goal

pub returns : goal.returns
returns c = table-of is_kept_in_url _ refl refl
