use Rattle.std.proofs.Common.{Bool, codes, refl, sym, ap, ◌∙◌, if◌then◌else◌}
use Rattle.url_lexer.specs.Parts.{UrlStart}
use Rattle.url_lexer.specs.Sanitizers.{url_norm}
use Rattle.san_url.proofs.Parts.{are-bytes, back-in-part}
use Rattle.san_url.proofs.filter.url_filter.Goals as goal

pub returns-then-is_filtered-clause-in_start : goal.returns-then-is_filtered-clause-in_start
returns-then-is_filtered-clause-in_start c =
    back-in-part c.written_is_plain.ensures c.written_reads_back.ensures UrlStart c.args.text.now (url_norm (codes "#ZgotmplZ")) (are-bytes c.args.text.now (λ i. (c.type_inv.text i).fits)) refl
    (ap (λ (f : Bool). url_norm (if f then codes "#ZgotmplZ" else c.args.text.now)) (sym c.if-is_filtered.true ∙ c.is_filtered.ensures))

pub returns-clause-in_start : goal.returns-clause-in_start
returns-clause-in_start c =
    back-in-part c.written_is_plain.ensures c.written_reads_back.ensures UrlStart c.args.text.now (url_norm c.args.text.now) (are-bytes c.args.text.now (λ i. (c.type_inv.text i).fits)) refl
    (ap (λ (f : Bool). url_norm (if f then codes "#ZgotmplZ" else c.args.text.now)) (sym c.if-is_filtered.false ∙ c.is_filtered.ensures))
