use Rattle.std.proofs.Common.{refl, rules}
use Rattle.url_lexer.specs.Parts.{UrlOpen, UrlOpenhole}
use Rattle.san_url.proofs.Parts.{are-bytes, back-in-part}
use Rattle.san_url.proofs.open.url_open.Goals as goal

pub returns-clause-in_open : goal.returns-clause-in_open
returns-clause-in_open c p =
    back-in-part c.written_is_plain.ensures c.written_reads_back.ensures (UrlOpen p) c.args.text.now c.from.result (are-bytes c.args.text.now (λ i. (c.type_inv.text i).fits)) refl (search rules)

pub returns-clause-in_openhole : goal.returns-clause-in_openhole
returns-clause-in_openhole c =
    back-in-part c.written_is_plain.ensures c.written_reads_back.ensures UrlOpenhole c.args.text.now c.from.result (are-bytes c.args.text.now (λ i. (c.type_inv.text i).fits)) refl (search rules)
