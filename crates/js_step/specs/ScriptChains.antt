-- The sanitizers of a value of data in a script, without that of the value's quotes.
use Rattle.std.specs.Prelude.{[], ◌∷◌}
use Rattle.place_core.specs.declared.chain.Chain.{Chain}
use Rattle.place_core.specs.declared.js.Js.{Js}
use Rattle.place_core.specs.declared.san.San.{San}
use Rattle.js_step.specs.ScriptSanitizers.{script_sanitizer}
use Rattle.js_step.specs.ScriptScans.{script_at_hole}

-- one sanitizer
abbrev pub script_chain : San → Chain
script_chain s = record { count = 1; sans = s ∷ s ∷ s ∷ [] }

-- a hole: the place behind it, with what is done to the value
abbrev pub script_hole_with_chain : Js → Js × Chain
script_hole_with_chain c = (script_at_hole c, script_chain (script_sanitizer c))
