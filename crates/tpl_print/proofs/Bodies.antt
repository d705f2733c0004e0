-- The bodies of a file are trees that parsing gives.
use Rattle.std.proofs.Common.{◌≡◌, ℕ, zero, suc, ◌≤◌, Bool, true, false, ◌||◌, List, [], ◌∷◌, ◌++◌, refl, sym, ◌∙◌, append_assoc, arith, subst}
use Rattle.std.proofs.lemmas.List.Elements.{All-cons, All-append}
use Rattle.std.specs.List.{All}
use Rattle.tpl_parse.specs.Forms.{Forms, no_forms, text, action, control, block, define, Else, no_else, otherwise, else_if, form_nodes, declared_by_form, found_in, found_else}
use Rattle.tpl_parse.specs.Grammar.{AreForms, IsElse, IsFileBody}
use Rattle.tpl_build.specs.Building.{first_names, else_names, is_range}
use Rattle.tpl_parse.specs.Steps.{most_open}
use Rattle.tpl_build.specs.declared.definition.FoundDefinition.{FoundDefinition}
use Rattle.tpl_build.specs.declared.frame.Control.{Control}
use Rattle.tpl_print.proofs.After.{Passes, after_one, after_one_on, after_pipe, after_opens, after_closes, after_end, after_ends_body, after_action, after_control}
use Rattle.tpl_print.specs.Parsed.{IsParsed}
use Rattle.tpl_symbol.specs.Symbols.{symbols_of}
use Rattle.tpl_symbol.specs.declared.symbol.Symbol.{Symbol}
use Rattle.tpl_symbol.specs.declared.symbol.SymbolKind.TheVariants as kind
use Rattle.tpl_symbol.specs.declared.word.Word.TheVariants as word
use Rattle.tpl_token.specs.Grammar.{AreTokens}
use Rattle.tpl_token.specs.declared.token.Token.{Token}

-- the symbols are the last ones of all
abbrev Ends : List Symbol → List Symbol → Type 0
Ends all symbols = (front : List Symbol) × (all ≡ front ++ symbols)

passes : (all : List Symbol) → Passes (Ends all)
passes all s symbols h = (h.0 ++ s ∷ [], h.1 ∙ sym (append_assoc h.0 (s ∷ []) symbols))

abbrev pub IsParsedFound : FoundDefinition → Type 0
IsParsedFound f = IsParsed f.def.tree.nodes

none : All IsParsedFound []
none k d inside = absurd (omega (arith, inside))

body_parsed : (file : List ℕ) (tokens : List Token) → AreTokens file tokens → (room : ℕ) (body : Forms) (s e : List Symbol) → room ≤ most_open → AreForms [] room false false body s e → Ends (symbols_of file tokens) s → IsParsed (form_nodes body)
body_parsed file tokens are room body s e le h q =
    record { text = file; tokens = tokens; are_tokens = are; front = q.0; symbols = s; rest = e; among = q.1; forms = body; room = room; bound = le; top = false; are = h; nodes_are = refl }

mutual
  forms_parsed : (file : List ℕ) (tokens : List Token) → AreTokens file tokens → (v : List (List ℕ)) (room : ℕ) (in_range top : Bool) (f : Forms) (s e : List Symbol) → room ≤ most_open
      → AreForms v room in_range top f s e → Ends (symbols_of file tokens) s → All IsParsedFound (found_in f) × Ends (symbols_of file tokens) e
  forms_parsed file tokens are v room in_range top no_forms s e le h q = (none, subst (Ends (symbols_of file tokens)) h q)
  forms_parsed file tokens are v room in_range top (text bytes line seams more) s e le h q =
      forms_parsed file tokens are v room in_range top more h.0 e le h.2 (after_one_on (Ends (symbols_of file tokens)) (passes (symbols_of file tokens)) (kind.Text bytes seams) line s h.0 h.1 q)
  forms_parsed file tokens are v room in_range top (action what line more) s e le h q =
      let Q = Ends (symbols_of file tokens) in
      let pass = passes (symbols_of file tokens) in
      forms_parsed file tokens are (v ++ declared_by_form what) room in_range top more h.2 e le h.6
      (after_closes Q pass h.1 h.2 h.5 (after_action Q pass v room in_range what h.0 h.1 h.4 (after_opens Q pass line s h.0 h.3 q)))
  forms_parsed file tokens are v zero in_range top (control c p line first later more) s e le h q = absurd h
  forms_parsed file tokens are v (suc room) in_range top (control c p line first later more) s e le h q =
      let Q = Ends (symbols_of file tokens) in
      let pass = passes (symbols_of file tokens) in
      let part = forms_parsed file tokens are (v ++ first_names c) room (is_range c || in_range) false first h.2 h.3 (omega (arith, le)) h.8
      (after_closes Q pass h.1 h.2 h.7 (after_control Q pass v room c p.commands h.0 h.1 h.6 (after_opens Q pass line s h.0 h.5 q))) in
      let behind = else_parsed file tokens are v room in_range c later h.3 h.4 (omega (arith, le)) h.9 part.1 in
      let rest = forms_parsed file tokens are v (suc room) in_range top more h.4 e le h.10 behind.1 in
      (All-append IsParsedFound (found_in first) (found_else later ++ found_in more) part.0 (All-append IsParsedFound (found_else later) (found_in more) behind.0 rest.0), rest.1)
  forms_parsed file tokens are v room in_range top (block n p line word_line body ends more) s e le h q =
      let Q = Ends (symbols_of file tokens) in
      let pass = passes (symbols_of file tokens) in
      let there = after_one Q pass (kind.Close h.7) h.3 h.4 h.12 (after_pipe Q pass v room p.commands h.2 h.3 h.11 (after_one Q pass (kind.Str n) h.1 h.2 h.10
      (after_one_on Q pass (kind.Word word.Block) word_line h.0 h.1 h.9 (after_opens Q pass line s h.0 h.8 q)))) in
      let inside = forms_parsed file tokens are [] room false false body h.4 h.5 le h.13 there in
      let rest = forms_parsed file tokens are v room in_range top more h.6 e le h.15 (after_ends_body Q pass h.7 ends h.5 h.6 h.14 inside.1) in
      (All-cons IsParsedFound _ (found_in body ++ found_in more) (body_parsed file tokens are room body h.4 h.5 le h.13 there) (All-append IsParsedFound (found_in body) (found_in more) inside.0 rest.0), rest.1)
  forms_parsed file tokens are v room in_range top (define n word_line body ends more) s e le h q =
      let Q = Ends (symbols_of file tokens) in
      let pass = passes (symbols_of file tokens) in
      let there = after_one Q pass (kind.Close h.7) h.2 h.3 h.12 (after_one Q pass (kind.Str n) h.1 h.2 h.11
      (after_one_on Q pass (kind.Word word.Define) word_line h.0 h.1 h.10 (after_opens Q pass h.6 s h.0 h.9 q))) in
      let inside = forms_parsed file tokens are [] room false false body h.3 h.4 le h.13 there in
      let rest = forms_parsed file tokens are v room in_range top more h.5 e le h.15 (after_ends_body Q pass h.7 ends h.4 h.5 h.14 inside.1) in
      (All-cons IsParsedFound _ (found_in body ++ found_in more) (body_parsed file tokens are room body h.3 h.4 le h.13 there) (All-append IsParsedFound (found_in body) (found_in more) inside.0 rest.0), rest.1)

  else_parsed : (file : List ℕ) (tokens : List Token) → AreTokens file tokens → (v : List (List ℕ)) (room : ℕ) (in_range : Bool) (c : Control) (later : Else) (s e : List Symbol) → room ≤ most_open
      → IsElse v room in_range c later s e → Ends (symbols_of file tokens) s → All IsParsedFound (found_else later) × Ends (symbols_of file tokens) e
  else_parsed file tokens are v room in_range c no_else s e le h q = (none, after_end (Ends (symbols_of file tokens)) (passes (symbols_of file tokens)) s e h q)
  else_parsed file tokens are v room in_range c (otherwise f) s e le h q =
      let Q = Ends (symbols_of file tokens) in
      let pass = passes (symbols_of file tokens) in
      let part = forms_parsed file tokens are (v ++ else_names c) room in_range false f h.3 h.4 le h.8
      (after_closes Q pass h.2 h.3 h.7 (after_one Q pass (kind.Word word.Else) h.1 h.2 h.6 (after_opens Q pass h.0 s h.1 h.5 q))) in
      (part.0, after_end Q pass h.4 e h.9 part.1)
  else_parsed file tokens are v zero in_range c (else_if d p line first later) s e le h q = absurd h
  else_parsed file tokens are v (suc room) in_range c (else_if d p line first later) s e le h q =
      let Q = Ends (symbols_of file tokens) in
      let pass = passes (symbols_of file tokens) in
      let w = v ++ else_names c in
      let part = forms_parsed file tokens are (w ++ first_names d) room in_range false first h.3 h.4 (omega (arith, le)) h.11
      (after_closes Q pass h.2 h.3 h.10 (after_control Q pass w room d p.commands h.1 h.2 h.9 (after_one Q pass (kind.Word word.Else) h.0 h.1 h.8 (after_opens Q pass line s h.0 h.7 q)))) in
      let behind = else_parsed file tokens are w room in_range d later h.4 e (omega (arith, le)) h.12 part.1 in
      (All-append IsParsedFound (found_in first) (found_else later) part.0 behind.0, behind.1)

pub file_parsed : (file : List ℕ) (tokens : List Token) (forms : Forms) → AreTokens file tokens → IsFileBody forms (symbols_of file tokens) → IsParsed (form_nodes forms)
file_parsed file tokens forms are h =
    record { text = file; tokens = tokens; are_tokens = are; front = []; symbols = symbols_of file tokens; rest = []; among = refl; forms = forms; room = most_open; bound = omega arith; top = true; are = h; nodes_are = refl }

pub bodies_parsed : (file : List ℕ) (tokens : List Token) (forms : Forms) → AreTokens file tokens → IsFileBody forms (symbols_of file tokens) → All IsParsedFound (found_in forms)
bodies_parsed file tokens forms are h = (forms_parsed file tokens are [] most_open false true forms (symbols_of file tokens) [] (omega arith) h ([], refl)).0
