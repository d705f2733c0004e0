-- How many calls are open.
use Rattle.std.specs.Prelude.{ℕ, suc, List, [], ◌∷◌}
use Rattle.tpl_exec.specs.declared.frame.Frame.{Frame}
use Rattle.tpl_exec.specs.declared.frame.Frame.TheVariants as frame

abbrev pub open_calls : List Frame → ℕ
open_calls [] = 0
open_calls (frame.Part p ∷ fs) = open_calls fs
open_calls (frame.Loop l ∷ fs) = open_calls fs
open_calls (frame.Call c ∷ fs) = suc (open_calls fs)
