use Rattle.std.proofs.Common.{◌≡◌, ◌≤◌, min, drop}
use Rattle.place_core.specs.page.References.{number_in_reference as number_in_of}
use Rattle.html_words.proofs.number.number_in.Given as goal

abbrev pub invariant-loop-digit : goal.invariant-loop-digit
invariant-loop-digit l = record {
  left : min (number_in_of l.base l.number (drop l.digit-index l.digits)) 0x110000 ≡ min (number_in_of l.fn.base 0 l.fn.digits) 0x110000;
  most : l.number ≤ 0x110000;
}
