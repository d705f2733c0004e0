use Rattle.std.proofs.Common.{◌≡◌, ◌++◌, drop, string_bytes}
use Rattle.san_css.proofs.string.push_ascii.Given as goal

abbrev pub invariant-loop-byte : goal.invariant-loop-byte
invariant-loop-byte l = string_bytes l.out ++ drop l.byte-index l.bytes ≡ string_bytes l.fn.out ++ l.bytes
