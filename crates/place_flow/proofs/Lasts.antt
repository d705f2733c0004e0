-- The last command of a pipe, and those before it.
use Rattle.std.proofs.Common.{◌≡◌, ◌++◌, ◌∙◌, ap, Bool, true, false, ◌||◌, if◌then◌else◌, List, [], ◌∷◌, length, nat_lt, refl, arith}
use Rattle.std.proofs.lemmas.Bool.{lt-ltb}
use Rattle.place_flow.specs.Naming.{command_names_escaper, names_escaper}
use Rattle.place_flow.specs.Uses.{last_use, use_from, use_of}
use Rattle.place_flow.specs.declared.uses.EscaperUse.{EscaperUse}
use Rattle.place_flow.specs.declared.uses.EscaperUse.TheVariants as used
use Rattle.tpl_tree.specs.Pipes.{PipeData}
use Rattle.tpl_tree.specs.View.{command_view, commands_view}
use Rattle.tpl_tree.specs.declared.pipe.Command.{Command}

-- whether a value is piped to the command after these
abbrev pub piped_behind : Bool → List Command → Bool
piped_behind piped [] = piped
piped_behind piped (c ∷ cs) = true

-- an escaper in this or in those
either_misused : (b c : Bool) (u : EscaperUse)
    → (if b then used.Misused else if c then used.Misused else u) ≡ (if b || c then used.Misused else u)
either_misused true c u = refl
either_misused false c u = refl

pub use_of_last : (before : List Command) (piped : Bool) (c : Command)
    → use_from piped (commands_view (before ++ c ∷ []))
    ≡ (if names_escaper (commands_view before) then used.Misused else last_use (piped_behind piped before) (command_view c))
use_of_last [] piped c = refl
use_of_last (b ∷ []) piped c = either_misused (command_names_escaper (command_view b)) false (last_use true (command_view c))
use_of_last (b ∷ d ∷ ds) piped c =
    ap (λ u. if command_names_escaper (command_view b) then used.Misused else u) (use_of_last (d ∷ ds) true c)
    ∙ either_misused (command_names_escaper (command_view b)) (names_escaper (commands_view (d ∷ ds))) (last_use true (command_view c))

-- more than none
some_before : (before : List Command) → nat_lt 0 (length before) ≡ piped_behind false before
some_before [] = refl
some_before (c ∷ cs) = lt-ltb 0 (length (c ∷ cs)) (omega arith)

pub misused_before : (pipe : PipeData) (all before : List Command) (c : Command)
    → commands_view all ≡ pipe → all ≡ before ++ c ∷ []
    → names_escaper (commands_view before) ≡ true → used.Misused ≡ use_of pipe
misused_before pipe all before c view parts named = rw (← view, parts, use_of_last before false c, named) refl

pub last_alone : (pipe : PipeData) (all before : List Command) (c : Command)
    → commands_view all ≡ pipe → all ≡ before ++ c ∷ []
    → names_escaper (commands_view before) ≡ false → last_use (nat_lt 0 (length before)) (command_view c) ≡ use_of pipe
last_alone pipe all before c view parts named = rw (← view, parts, use_of_last before false c, named, some_before before) refl
