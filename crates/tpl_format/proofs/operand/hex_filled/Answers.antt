use Rattle.std.proofs.Common.{◌∙◌, sym, ap, arith, length}
use Rattle.tpl_format.proofs.Digits.{counted}
use Rattle.tpl_format.specs.Operands.{characters}
use Rattle.tpl_format.proofs.operand.hex_filled.Goals as goal

pub fill_ascii-requires : goal.fill_ascii-requires
fill_ascii-requires c =
    let is = c.as_str.ensures ∙ c.in_ok-digits.ensures in
    ap characters is ∙ counted c.args.text.now (λ i. omega (arith, c.type_inv.text i)) ∙ ap length (sym is)
