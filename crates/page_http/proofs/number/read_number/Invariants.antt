use Rattle.std.proofs.Common.{◌≡◌, ◌≤◌, ◌+◌, drop, min}
use Rattle.std.specs.List.{list_all}
use Rattle.std.specs.Char.{is_ascii_digit}
use Rattle.std.specs.Str.Parse.{digits_value, digits_value_after}
use Rattle.page_http.proofs.number.read_number.Given as goal

abbrev pub invariant-loop-byte : goal.invariant-loop-byte
invariant-loop-byte l = record {
  most_is : l.most-2 ≡ l.most;
  bound : l.value ≤ l.most + 1;
  digits : list_all is_ascii_digit (drop l.byte-index l.text) ≡ list_all is_ascii_digit l.text;
  same : min (digits_value_after 10 l.value (drop l.byte-index l.text)) (l.most + 1) ≡ min (digits_value 10 l.text) (l.most + 1);
}
