use denote.Shadow.{shadow}
use denote.Text.{Utf8}
use Rattle.std.proofs.Common.{◌≡◌, ◌++◌, length}
use Rattle.tpl_print.specs.Replaced.{always, replaced_bytes}
use Rattle.tpl_print.proofs.text.push_replaced.Given as goal

abbrev pub invariant-loop-prefix : goal.invariant-loop-prefix
invariant-loop-prefix l = shadow (Utf8 l.left) × (l.out ++ replaced_bytes l.mark (always l.by) l.left ≡ l.fn.out ++ replaced_bytes l.mark (always l.by) l.text)

abbrev pub decreases-loop-prefix : goal.decreases-loop-prefix
decreases-loop-prefix l = length l.left
