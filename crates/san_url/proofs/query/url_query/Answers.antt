use Rattle.std.proofs.Common.{refl, rules}
use Rattle.url_lexer.specs.Parts.{UrlQuery}
use Rattle.san_url.proofs.Parts.{are-bytes, back-in-part}
use Rattle.san_url.proofs.query.url_query.Goals as goal

pub returns-clause-in_query : goal.returns-clause-in_query
returns-clause-in_query c =
    back-in-part c.written_is_plain.ensures c.written_reads_back.ensures UrlQuery c.args.text.now c.from.result (are-bytes c.args.text.now (λ i. (c.type_inv.text i).fits)) refl (search rules)
