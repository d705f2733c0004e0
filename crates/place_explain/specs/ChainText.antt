-- How a chain is printed: the names of its sanitizers, with bars between.
use Rattle.std.specs.Prelude.{ℕ, Bool, true, false, codes, take, List, [], ◌∷◌, ◌++◌}
use Rattle.place_core.specs.Names.{sanitizer_name}
use Rattle.place_core.specs.declared.chain.Chain.{Chain}
use Rattle.place_core.specs.declared.san.San.{San}

-- what comes before a sanitizer, which is the first one or not
abbrev pub bar_text : Bool → List ℕ
bar_text true = []
bar_text false = codes " | "

-- sanitizers, of which the first is the first of the chain or not
abbrev pub sans_text : Bool → List San → List ℕ
sans_text first [] = []
sans_text first (s ∷ sans) = bar_text first ++ sanitizer_name s ++ sans_text false sans

-- those of a chain that count
abbrev pub chain_text : Chain → List ℕ
chain_text chain = sans_text true (take chain.count chain.sans)
