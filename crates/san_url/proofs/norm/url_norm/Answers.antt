use Rattle.std.proofs.Common.{refl, rules}
use Rattle.url_lexer.specs.Parts.{UrlPrequery}
use Rattle.san_url.proofs.Parts.{are-bytes, back-in-part}
use Rattle.san_url.proofs.norm.url_norm.Goals as goal

pub returns-clause-in_prequery : goal.returns-clause-in_prequery
returns-clause-in_prequery c =
    back-in-part c.written_is_plain.ensures c.written_reads_back.ensures UrlPrequery c.args.text.now c.from.result (are-bytes c.args.text.now (λ i. (c.type_inv.text i).fits)) refl (search rules)
