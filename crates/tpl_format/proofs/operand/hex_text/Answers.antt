use Rattle.std.proofs.Common.{◌∙◌, ap, arith}
use Rattle.hex.specs.Hex.{encode_lower}
use Rattle.tpl_format.proofs.Digits.{encoded}
use Rattle.tpl_format.proofs.operand.hex_text.Goals as goal

pub returns : goal.returns
returns c =
    c.from.ensures
    ∙ c.in_ok-encode.ensures
    ∙ ap encode_lower c.as_bytes.ensures.value
    ∙ encoded c.args.text.now (λ i. omega (arith, c.type_inv.text i))
