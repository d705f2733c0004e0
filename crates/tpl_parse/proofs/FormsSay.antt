-- What is read of a file stands there.
use Rattle.std.proofs.Common.{◌≡◌, ℕ, suc, ◌-◌, ◌==◌, ◌≤◌, Bool, true, false, ◌&&◌, ◌||◌, List, [], ◌∷◌, ◌++◌, length, take, Option, Some, None, inl, inr, refl, sym, ap, ◌∙◌, subst, append_assoc, append-nil, true≢false, arith}
use Rattle.std.specs.Prelude.{⊤}
use Rattle.std.proofs.lemmas.Bool.Decides.{nat_tests}
use Rattle.std.proofs.lemmas.List.{take_at, length-take-le}
use Rattle.tpl_parse.specs.Forms.{Forms, no_forms, text, action, control, block, define, Else, no_else, otherwise, else_if, form_nodes, else_nodes, is_blank, found_in, found_else, declared_by_form, declared_in_forms}
use Rattle.tpl_parse.specs.Grammar.{StandsOn, Closes, IsFormEnd, body_end, IsAction, IsNamedForm, IsControl, IsIf, AreForms, IsElse}
use Rattle.tpl_build.specs.Building.{builder_of, one_node, with_text, with_node, else_from, first_names, else_names, is_range, node_kind_of, open_control, form_opened, with_definition, def_of, found_of, frame_filled, closed_control, closed_definition, closed_from, first_part, other_part, done}
use Rattle.tpl_parse.specs.Steps.{inside}
use Rattle.tpl_build.specs.declared.definition.FoundDefinition.{FoundDefinition}
use Rattle.tpl_build.specs.declared.frame.Around.{Around}
use Rattle.tpl_build.specs.declared.frame.Control.{Control}
use Rattle.tpl_build.specs.declared.frame.Control.TheVariants as control_word
use Rattle.tpl_build.specs.declared.frame.OpenForm.{OpenForm}
use Rattle.tpl_build.specs.declared.frame.OpenForm.TheVariants as frame
use Rattle.tpl_build.specs.declared.frame.OpenControl.{OpenControl}
use Rattle.tpl_parse.specs.declared.action.Before.{Before}
use Rattle.tpl_parse.specs.declared.action.Before.TheVariants as before
use Rattle.tpl_build.specs.declared.action.ActionKind.{ActionKind}
use Rattle.tpl_build.specs.declared.action.ActionKind.TheVariants as action_kind
use Rattle.tpl_build.specs.declared.action.Opening.{Opening}
use Rattle.tpl_build.specs.declared.builder.Builder.{Builder}
use Rattle.tpl_parse.proofs.ActionsLead.{acted, naming, names_if, names_with}
use Rattle.tpl_parse.proofs.ActionsSay.{Beginning, Begun, pipe_begins, if_begins, with_begins, range_begins, ends, breaks, continues, calls, defines, blocks, Naming, unnamed, one, two, again, named_purpose, IsNaming, following_piped}
use Rattle.tpl_parse.proofs.FormsLead.{append-assoc, and-false, same_builder, with_forms, none_more, text_more, acted_is, action_more, put_there, around_closed}
use Rattle.tpl_pipe.specs.Grammar.{SymbolStands, IsPipe}
use Rattle.tpl_symbol.specs.declared.symbol.Seam.{Seam}
use Rattle.tpl_symbol.specs.declared.symbol.Symbol.{Symbol}
use Rattle.tpl_symbol.specs.declared.symbol.SymbolKind.TheVariants as kind
use Rattle.tpl_symbol.specs.declared.word.Word.TheVariants as word
use Rattle.tpl_tree.specs.Trees.{NodesData, no_nodes, append}
use Rattle.tpl_tree.specs.declared.node_kind.NodeKind.{NodeKind}
use Rattle.tpl_tree.specs.declared.node_kind.NodeKind.TheVariants as node_kind
use Rattle.tpl_tree.specs.declared.pipe.Pipe.{Pipe}

-- The variables around each open control are among those that are declared.
abbrev pub Fits : List OpenForm → List (List ℕ) → Type 0
Fits [] variables = ⊤
Fits (frame.Definition d ∷ frames) variables = Fits frames d.variables
Fits (frame.Control c ∷ frames) variables = (c.around.variables ≤ length variables) × Fits frames (take c.around.variables variables)

-- forms of the innermost part, and what is then
abbrev pub PartThen : Builder → Bool → List Symbol → (Builder → List Symbol → Type 0) → Type 0
PartThen n top symbols K = (forms : Forms) × (mid : List Symbol) × AreForms n.variables n.room n.in_range top forms symbols mid × K (with_forms forms n) mid

-- `{{end}}` of a definition, and what is then
abbrev pub EndThen : List Symbol → (Opening → List Symbol → Type 0) → Type 0
EndThen symbols K =
    (o : Opening) × (inner following rest : List Symbol) × StandsOn (kind.Open o.start o.before) o.line symbols inner × SymbolStands (kind.Word word.End) inner following × Closes following rest × K o rest

-- how a control goes on, and what is then
abbrev pub GoesOn : Option NodesData → OpenControl → List OpenForm → Builder → List Symbol → (Builder → List Symbol → Type 0) → Type 0
GoesOn None c frames n symbols K =
    (later : Else) × (rest : List Symbol) × IsElse (take c.around.variables n.variables) n.room c.around.in_range c.control later symbols rest
    × K (builder_of frames (append c.before (one_node (node_kind_of c.control c.pipe) c.line [] n.body (else_nodes later))) (take c.around.variables n.variables) c.around.in_range c.around.room false (n.found ++ found_else later)) rest
GoesOn (Some first) c frames n symbols K = (rest : List Symbol) × IsFormEnd symbols rest × K (closed_control frames c n) rest

-- what is left of a file: or, after an `else if`, what closing the control around it leaves
abbrev pub Left : List OpenForm → Bool → Builder → List Symbol → Builder → Type 0
Left [] true n symbols final = ⊤
Left (frame.Definition d ∷ frames) true n symbols final = ⊤
Left (frame.Control c ∷ frames) true n symbols final = Left frames c.chained (closed_control frames c n) symbols final
Left [] false n symbols final = PartThen n true symbols (λ m mid. (mid ≡ []) × (final ≡ m))
Left (frame.Definition d ∷ frames) false n symbols final = PartThen n false symbols (λ m mid. EndThen mid (λ o rest. Left frames false (closed_definition frames d o m) rest final))
Left (frame.Control c ∷ frames) false n symbols final = PartThen n false symbols (λ m mid. GoesOn c.first c frames m mid (λ m' rest. Left frames c.chained m' rest final))

abbrev pub LeftOf : Builder → List Symbol → Builder → Type 0
LeftOf n symbols final = Left n.frames false n symbols final

-- a form more in the innermost part
step_left : (frames : List OpenForm) (n n' : Builder) (symbols symbols' : List Symbol) (final : Builder) → ((top : Bool) (K : Builder → List Symbol → Type 0) → PartThen n' top symbols' K → PartThen n top symbols K)
    → Left frames false n' symbols' final → Left frames false n symbols final
step_left [] n n' symbols symbols' final f h = f true (λ m mid. (mid ≡ []) × (final ≡ m)) h
step_left (frame.Definition d ∷ frames) n n' symbols symbols' final f h = f false (λ m mid. EndThen mid (λ o rest. Left frames false (closed_definition frames d o m) rest final)) h
step_left (frame.Control c ∷ frames) n n' symbols symbols' final f h = f false (λ m mid. GoesOn c.first c frames m mid (λ m' rest. Left frames c.chained m' rest final)) h

-- a text
pub text_left : (n : Builder) (bytes : List ℕ) (seams : List Seam) (s : Symbol) (symbols : List Symbol) (final : Builder) → s.kind ≡ kind.Text bytes seams → LeftOf (with_text bytes s.line seams n) symbols final → LeftOf n (s ∷ symbols) final
text_left n bytes seams s symbols final k h = step_left n.frames n (with_text bytes s.line seams n) (s ∷ symbols) symbols final
    (λ top K p. (text bytes s.line seams p.0, p.1, (symbols, (k, refl, refl), p.2), subst (λ m. K m p.1) (text_more bytes s.line seams p.0 n) p.3)) h

-- an action without a body
action_left : (n : Builder) (what : NodeKind) (start last line : ℕ) (all symbols mid rest : List Symbol) (final : Builder)
    → StandsOn (kind.Open start last) line all symbols → IsAction n.variables n.room n.in_range what symbols mid → Closes mid rest → LeftOf (acted what line n) rest final → LeftOf n all final
action_left n what start last line all symbols mid rest final o a c h =
    let n' = builder_of n.frames (append n.body (one_node what line [] no_nodes no_nodes)) (n.variables ++ declared_by_form what) n.in_range n.room false n.found in
    step_left n.frames n n' all rest final
    (λ top K p. (action what line p.0, p.1, (symbols, mid, rest, (start, last, o), a, c, p.2), subst (λ m. K m p.1) (action_more what line p.0 n) p.3))
    (subst (λ m. LeftOf m rest final) (acted_is what line n) h)

take_two : {X : Type 0} (xs ys zs : List X) → take (length xs) ((xs ++ ys) ++ zs) ≡ xs
take_two xs ys zs = ap (take (length xs)) (append_assoc xs ys zs) ∙ take_at xs (ys ++ zs) (length xs) refl

some_room : (room : ℕ) → (room == 0) ≡ false → room ≡ suc (room - 1)
some_room room e = grind (arith, nat_tests)

-- the forms of a control that begins here
control_part : (n : Builder) (c : Control) (p : Pipe) (start last line : ℕ) (all symbols mid part else_part rest : List Symbol) (first : Forms) (later : Else) (top : Bool) (K : Builder → List Symbol → Type 0)
    → (n.room == 0) ≡ false → StandsOn (kind.Open start last) line all symbols → IsControl n.variables (n.room - 1) c p.commands symbols mid → Closes mid part
    → AreForms (n.variables ++ first_names c) (n.room - 1) (is_range c || n.in_range) false first part else_part → IsElse n.variables (n.room - 1) n.in_range c later else_part rest
    → PartThen (builder_of n.frames (append n.body (one_node (node_kind_of c p) line [] (form_nodes first) (else_nodes later))) n.variables n.in_range n.room false ((n.found ++ found_in first) ++ found_else later)) top rest K → PartThen n top all K
control_part n c p start last line all symbols mid part else_part rest first later top K room o is closes forms els h =
    let n' = builder_of n.frames (append n.body (one_node (node_kind_of c p) line [] (form_nodes first) (else_nodes later))) n.variables n.in_range n.room false ((n.found ++ found_in first) ++ found_else later) in
    let same : with_forms h.0 n' ≡ with_forms (control c p line first later h.0) n = same_builder n.frames n.in_range n.room
    (append (append n.body (one_node (node_kind_of c p) line [] (form_nodes first) (else_nodes later))) (form_nodes h.0)) (append n.body (form_nodes (control c p line first later h.0)))
    (n.variables ++ declared_in_forms h.0) (n.variables ++ declared_in_forms h.0) false (n.blank && false)
    (((n.found ++ found_in first) ++ found_else later) ++ found_in h.0) (n.found ++ found_in (control c p line first later h.0))
    (append-assoc n.body (one_node (node_kind_of c p) line [] (form_nodes first) (else_nodes later)) (form_nodes h.0)) refl (sym (and-false n.blank))
    (append_assoc (n.found ++ found_in first) (found_else later) (found_in h.0) ∙ append_assoc n.found (found_in first) (found_else later ++ found_in h.0)) in
    let whole : AreForms n.variables (suc (n.room - 1)) n.in_range top (control c p line first later h.0) all h.1 =
    (symbols, mid, part, else_part, rest, (start, last, o), is, closes, forms, els, subst (λ r. AreForms n.variables r n.in_range top h.0 rest h.1) (some_room n.room room) h.2) in
    (control c p line first later h.0, h.1, subst (λ r. AreForms n.variables r n.in_range top (control c p line first later h.0) all h.1) (sym (some_room n.room room)) whole, subst (λ m. K m h.1) same h.3)

control_left : (n : Builder) (c : Control) (p : Pipe) (start last line : ℕ) (all symbols mid part : List Symbol) (final : Builder)
    → (n.room == 0) ≡ false → StandsOn (kind.Open start last) line all symbols → IsControl n.variables (n.room - 1) c p.commands symbols mid → Closes mid part
    → LeftOf (form_opened c p line false n) part final → LeftOf n all final
control_left n c p start last line all symbols mid part final room o is closes (first, else_part, forms, (later, rest, els, left)) =
    let names : take (length n.variables) ((n.variables ++ first_names c) ++ declared_in_forms first) ≡ n.variables = take_two n.variables (first_names c) (declared_in_forms first) in
    let n' = builder_of n.frames (append n.body (one_node (node_kind_of c p) line [] (form_nodes first) (else_nodes later))) n.variables n.in_range n.room false ((n.found ++ found_in first) ++ found_else later) in
    step_left n.frames n n' all rest final
    (λ top K h. control_part n c p start last line all symbols mid part else_part rest first later top K room o is closes forms
    (subst (λ v. IsElse v (n.room - 1) n.in_range c later else_part rest) names els) h)
    (subst (λ v. Left n.frames false (builder_of n.frames (append n.body (one_node (node_kind_of c p) line [] (form_nodes first) (else_nodes later))) v n.in_range n.room false ((n.found ++ found_in first) ++ found_else later)) rest final) names left)

-- a definition that begins here, up to the end of its body, and what stands after it
define_then : (n : Builder) (name : List ℕ) (start last line word_line begins : ℕ) (all symbols named mid part : List Symbol) (final : Builder)
    → n.frames ≡ [] → StandsOn (kind.Open start last) line all symbols → StandsOn (kind.Word word.Define) word_line symbols named → SymbolStands (kind.Str name) named mid → SymbolStands (kind.Close begins) mid part
    → LeftOf (with_definition name word_line begins n) part final → LeftOf n all final
define_then n name start last line word_line begins all symbols named mid part final none o w s c (inside, end, forms, (at, inner, following, rest, opens, word, closes, left)) =
    let begun = found_of (def_of name true no_nodes 1) word_line in
    let ends = body_end begins at.start at.before in
    let whole = found_of (def_of name (is_blank inside) (form_nodes inside) ends) word_line in
    let n' = builder_of n.frames n.body n.variables n.in_range n.room n.blank (n.found ++ (whole ∷ found_in inside)) in
    let put : frame_filled (length n.found) (is_blank inside) (record { nodes = form_nodes inside; end_line = ends }) ((n.found ++ begun ∷ []) ++ found_in inside) ≡ n.found ++ (whole ∷ found_in inside) =
    put_there n.found begun (found_in inside) (is_blank inside) (record { nodes = form_nodes inside; end_line = ends }) in
    let following_it : Left n.frames false n' rest final = subst (λ f. Left n.frames false (builder_of n.frames n.body n.variables n.in_range n.room n.blank f) rest final) put left in
    let plain : Left [] false n' rest final = subst (λ fs. Left fs false n' rest final) none following_it in
    let same : with_forms plain.0 n' ≡ with_forms (define name word_line inside ends plain.0) n = same_builder n.frames n.in_range n.room
    (append n.body (form_nodes plain.0)) (append n.body (form_nodes plain.0)) (n.variables ++ declared_in_forms plain.0) (n.variables ++ declared_in_forms plain.0) (n.blank && is_blank plain.0) (n.blank && is_blank plain.0)
    ((n.found ++ (whole ∷ found_in inside)) ++ found_in plain.0) (n.found ++ found_in (define name word_line inside ends plain.0))
    refl refl refl (append_assoc n.found (whole ∷ found_in inside) (found_in plain.0)) in
    subst (λ fs. Left fs false n all final) (sym none) (
      define name word_line inside ends plain.0,
      plain.1,
      (symbols, named, mid, part, end, rest, line, begins, refl, (start, last, o), w, s, c, forms, (at.start, at.before, at.line, inner, following, opens, word, closes, refl), plain.2),
      (plain.3.0, plain.3.1 ∙ same),
    )

block_left : (n : Builder) (name : List ℕ) (p : Pipe) (start last line word_line begins : ℕ) (all symbols named pipe mid part : List Symbol) (final : Builder)
    → StandsOn (kind.Open start last) line all symbols → StandsOn (kind.Word word.Block) word_line symbols named → SymbolStands (kind.Str name) named pipe → IsPipe n.variables n.room p.commands pipe mid → SymbolStands (kind.Close begins) mid part
    → LeftOf (with_definition name word_line begins (with_node (node_kind.Template name (Some p)) line n)) part final → LeftOf n all final
block_left n name p start last line word_line begins all symbols named pipe mid part final o w s is c (inside, end, forms, (at, inner, following, rest, opens, word, closes, left)) =
    let begun = found_of (def_of name true no_nodes 1) word_line in
    let ends = body_end begins at.start at.before in
    let whole = found_of (def_of name (is_blank inside) (form_nodes inside) ends) word_line in
    let node = one_node (node_kind.Template name (Some p)) line [] no_nodes no_nodes in
    let n' = builder_of n.frames (append n.body node) n.variables n.in_range n.room false (n.found ++ (whole ∷ found_in inside)) in
    let put : frame_filled (length n.found) (is_blank inside) (record { nodes = form_nodes inside; end_line = ends }) ((n.found ++ begun ∷ []) ++ found_in inside) ≡ n.found ++ (whole ∷ found_in inside) =
    put_there n.found begun (found_in inside) (is_blank inside) (record { nodes = form_nodes inside; end_line = ends }) in
    step_left n.frames n n' all rest final
    (λ top K h. (
      block name p line word_line inside ends h.0,
      h.1,
      (symbols, named, pipe, mid, part, end, rest, begins, (start, last, o), w, s, is, c, forms, (at.start, at.before, at.line, inner, following, opens, word, closes, refl), h.2),
      subst (λ m. K m h.1) (same_builder n.frames n.in_range n.room
          (append (append n.body node) (form_nodes h.0)) (append n.body (form_nodes (block name p line word_line inside ends h.0)))
          (n.variables ++ declared_in_forms h.0) (n.variables ++ declared_in_forms h.0) false (n.blank && false)
          ((n.found ++ (whole ∷ found_in inside)) ++ found_in h.0) (n.found ++ found_in (block name p line word_line inside ends h.0))
          (append-assoc n.body node (form_nodes h.0)) refl (sym (and-false n.blank)) (append_assoc n.found (whole ∷ found_in inside) (found_in h.0))) h.3,
    ))
    (subst (λ f. Left n.frames false (builder_of n.frames (append n.body node) n.variables n.in_range n.room false f) rest final) put left)

-- what closing an `else if` leaves
resumes : (frames : List OpenForm) (chained : Bool) (o : Opening) (body : NodesData) (variables : List (List ℕ)) (in_range : Bool) (room : ℕ) (blank : Bool) (found : List FoundDefinition) (rest : List Symbol) (final : Builder)
    → LeftOf (around_closed chained frames o (builder_of frames body variables in_range room blank found)) rest final → Left frames chained (builder_of frames body variables in_range room blank found) rest final
resumes frames false o body variables in_range room blank found rest final h = h
resumes [] true o body variables in_range room blank found rest final h = tt
resumes (frame.Definition d ∷ frames) true o body variables in_range room blank found rest final h = tt
resumes (frame.Control c ∷ frames) true o body variables in_range room blank found rest final h =
    resumes frames c.chained o (append c.before (one_node (node_kind_of c.control c.pipe) c.line [] (first_part c.first body) (other_part c.first body))) (take c.around.variables variables) c.around.in_range c.around.room false found rest final h

-- a control ends
control_ends : (frames : List OpenForm) (c : Control) (p : Pipe) (line : ℕ) (before : NodesData) (first : Option NodesData) (chained : Bool) (a : Around) (n : Builder) (o : Opening) (all inner following rest : List Symbol) (final : Builder)
    → StandsOn (kind.Open o.start o.before) o.line all inner → SymbolStands (kind.Word word.End) inner following → Closes following rest
    → LeftOf (closed_from (open_control c p line before first chained a ∷ frames) o n) rest final → Left (open_control c p line before first chained a ∷ frames) false n all final
control_ends frames c p line before None chained a n o all inner following rest final opens word closes h =
    let body = append before (one_node (node_kind_of c p) line [] n.body no_nodes) in
    let left : Left frames chained (builder_of frames body (take a.variables n.variables) a.in_range a.room false n.found) rest final =
    resumes frames chained o body (take a.variables n.variables) a.in_range a.room false n.found rest final h in
    let this : OpenControl = record { control = c; pipe = p; line = line; before = before; first = None; chained = chained; around = a } in (
      no_forms,
      all,
      refl,
      subst (λ m. GoesOn None this frames m all (λ m' rest. Left frames chained m' rest final)) (none_more n) (
        no_else,
        rest,
        (o.line, inner, following, (o.start, o.before, opens), word, closes),
        subst (λ f. Left frames chained (builder_of frames body (take a.variables n.variables) a.in_range a.room false f) rest final) (sym (append-nil n.found)) left,
      ),
    )
control_ends frames c p line before (Some first) chained a n o all inner following rest final opens word closes h =
    let body = append before (one_node (node_kind_of c p) line [] first n.body) in
    let left : Left frames chained (builder_of frames body (take a.variables n.variables) a.in_range a.room false n.found) rest final =
    resumes frames chained o body (take a.variables n.variables) a.in_range a.room false n.found rest final h in
    let this : OpenControl = record { control = c; pipe = p; line = line; before = before; first = Some first; chained = chained; around = a } in (
      no_forms,
      all,
      refl,
      subst (λ m. GoesOn (Some first) this frames m all (λ m' rest. Left frames chained m' rest final)) (none_more n)
          (rest, (o.line, inner, following, (o.start, o.before, opens), word, closes), left),
    )

-- the innermost of what is open ends
end_left : (f : OpenForm) (frames : List OpenForm) (n : Builder) (o : Opening) (all inner following rest : List Symbol) (final : Builder)
    → StandsOn (kind.Open o.start o.before) o.line all inner → SymbolStands (kind.Word word.End) inner following → Closes following rest
    → LeftOf (closed_from (f ∷ frames) o n) rest final → Left (f ∷ frames) false n all final
end_left (frame.Control c) frames n o all inner following rest final opens word closes h =
    control_ends frames c.control c.pipe c.line c.before c.first c.chained c.around n o all inner following rest final opens word closes h
end_left (frame.Definition d) frames n o all inner following rest final opens word closes h =
    (no_forms, all, refl, subst (λ m. EndThen all (λ o rest. Left frames false (closed_definition frames d o m) rest final)) (none_more n) (o, inner, following, rest, opens, word, closes, h))

take_take : (k : ℕ) (xs ys : List (List ℕ)) → k ≤ length xs → take k (take k xs ++ ys) ≡ take k xs
take_take k xs ys fits = take_at (take k xs) ys k (length-take-le k xs fits)

-- the `else` part of a control begins, and is read
pub else_left : (frames : List OpenForm) (c : Control) (p : Pipe) (line : ℕ) (before : NodesData) (chained : Bool) (a : Around) (n : Builder) (start last at : ℕ) (all inner following rest : List Symbol) (final : Builder)
    → a.variables ≤ length n.variables → StandsOn (kind.Open start last) at all inner → SymbolStands (kind.Word word.Else) inner following → Closes following rest
    → LeftOf (else_from (open_control c p line before None chained a ∷ frames) n) rest final → Left (open_control c p line before None chained a ∷ frames) false n all final
else_left frames c p line before chained a n start last at all inner following rest final fits opens word closes (forms, mid, h, (rest', closing, left)) =
    let this : OpenControl = record { control = c; pipe = p; line = line; before = before; first = None; chained = chained; around = a } in
    let names = take a.variables n.variables in
    let body = append before (one_node (node_kind_of c p) line [] n.body (form_nodes forms)) in
    let same : take a.variables ((names ++ else_names c) ++ declared_in_forms forms) ≡ names =
    ap (take a.variables) (append_assoc names (else_names c) (declared_in_forms forms)) ∙ take_take a.variables n.variables (else_names c ++ declared_in_forms forms) fits in (
      no_forms,
      all,
      refl,
      subst (λ m. GoesOn None this frames m all (λ m' rest. Left frames chained m' rest final)) (none_more n) (
        otherwise forms,
        rest',
        (at, inner, following, rest, mid, (start, last, opens), word, closes, h, closing),
        subst (λ v. Left frames chained (builder_of frames body v a.in_range a.room false (n.found ++ found_in forms)) rest' final) same left,
      ),
    )

-- an `else if` begins, and is read
pub else_if_left : (frames : List OpenForm) (c : Control) (p : Pipe) (line : ℕ) (before : NodesData) (chained : Bool) (a : Around) (n : Builder) (d : Control) (q : Pipe) (start last at : ℕ) (all inner following mid part : List Symbol) (final : Builder)
    → a.variables ≤ length n.variables → (n.room == 0) ≡ false → IsIf c → IsIf d → StandsOn (kind.Open start last) at all inner → SymbolStands (kind.Word word.Else) inner following
    → IsControl (take a.variables n.variables ++ else_names c) (n.room - 1) d q.commands following mid → Closes mid part
    → LeftOf (form_opened d q at true (else_from (open_control c p line before None chained a ∷ frames) n)) part final → Left (open_control c p line before None chained a ∷ frames) false n all final
else_if_left frames c p line before chained a n (control_word.With x) q start last at all inner following mid part final fits room is isn opens word heads closes h = absurd isn
else_if_left frames c p line before chained a n (control_word.Range i e) q start last at all inner following mid part final fits room is isn opens word heads closes h = absurd isn
else_if_left frames c p line before chained a n (control_word.If x) q start last at all inner following mid part final fits room is isn opens word heads closes (forms, else_part, h, (later, rest, els, left)) =
    let this : OpenControl = record { control = c; pipe = p; line = line; before = before; first = None; chained = chained; around = a } in
    let d = control_word.If x in
    let names = take a.variables n.variables in
    let inside = names ++ else_names c in
    let one = one_node (node_kind_of d q) at [] (form_nodes forms) (else_nodes later) in
    let found = (n.found ++ found_in forms) ++ found_else later in
    let body = append before (one_node (node_kind_of c p) line [] n.body one) in
    let same : take (length inside) ((inside ++ first_names d) ++ declared_in_forms forms) ≡ inside = take_two inside (first_names d) (declared_in_forms forms) in
    let outer : take a.variables inside ≡ names = take_take a.variables n.variables (else_names c) fits in
    let left' : Left frames chained (builder_of frames body names a.in_range a.room false found) rest final =
    subst (λ v. Left frames chained (builder_of frames body v a.in_range a.room false found) rest final) outer
    (subst (λ v. Left frames chained (builder_of frames body (take a.variables v) a.in_range a.room false found) rest final) same left) in
    let whole : IsElse names (suc (n.room - 1)) a.in_range c (else_if d q at forms later) all rest =
    (inner, following, mid, part, else_part, is, tt, (start, last, opens), word, heads, closes, h, subst (λ v. IsElse v (n.room - 1) a.in_range d later else_part rest) same els) in (
      no_forms,
      all,
      refl,
      subst (λ m. GoesOn None this frames m all (λ m' rest. Left frames chained m' rest final)) (none_more n) (
        else_if d q at forms later,
        rest,
        subst (λ r. IsElse names r a.in_range c (else_if d q at forms later) all rest) (sym (some_room n.room room)) whole,
        subst (λ f. Left frames chained (builder_of frames body names a.in_range a.room false f) rest final) (append_assoc n.found (found_in forms) (found_else later)) left',
      ),
    )

-- what is left of an action and what follows, for what its symbols say
abbrev pub ActionLeft : Builder → Opening → (ActionKind → List Symbol → List Symbol → Type 0) → List Symbol → Builder → Type 0
ActionLeft n o R symbols final = (d : ActionKind) × (mid rest : List Symbol) × (end : ℕ) × R d symbols mid × SymbolStands (kind.Close end) mid rest × LeftOf (done d o end n) rest final

abbrev pub is_if_word : Before → Bool
is_if_word before.Action = false
is_if_word before.If = true
is_if_word before.ElseIf = true
is_if_word before.With = true
is_if_word before.Range = false

no_range : before.Action ≡ before.Range → ⊥
no_range e = cc

range_begins_no_action : before.Range ≡ before.Action → ⊥
range_begins_no_action e = cc

not_range_word : (b : Before) → b ≡ before.Range → is_if_word b ≡ true → ⊥
not_range_word b e k = true≢false (sym k ∙ ap is_if_word e)

not_action_word : (b : Before) → b ≡ before.Action → is_if_word b ≡ true → ⊥
not_action_word b e k = true≢false (sym k ∙ ap is_if_word e)

-- an action that begins with a pipe
piped_left : (n : Builder) (o : Opening) (form : Naming) (d : ActionKind) (all symbols pipe mid rest : List Symbol) (q : Pipe) (end : ℕ) (final : Builder)
    → StandsOn (kind.Open o.start o.before) o.line all symbols → IsNaming n before.Action form symbols pipe → IsPipe n.variables n.room q.commands pipe mid → d ≡ action_kind.Piped (named_purpose before.Action form) q
    → SymbolStands (kind.Close end) mid rest → LeftOf (done d o end n) rest final → LeftOf n all final
piped_left n o unnamed d all symbols pipe mid rest q end final opens named is e c left =
    action_left n (node_kind.Action q) o.start o.before o.line all symbols mid rest final opens (subst (λ xs. IsPipe n.variables n.room q.commands xs mid) (sym named) is) (end, c) (subst (λ d. LeftOf (done d o end n) rest final) e left)
piped_left n o (one x) d all symbols pipe mid rest q end final opens named is e c left =
    action_left n (node_kind.Declare x q) o.start o.before o.line all symbols mid rest final opens (pipe, named, is) (end, c) (subst (λ d. LeftOf (done d o end n) rest final) e left)
piped_left n o (again x) d all symbols pipe mid rest q end final opens (mark, begins, known, v, w) is e c left =
    action_left n (node_kind.Assign x q) o.start o.before o.line all symbols mid rest final opens (mark, pipe, known, v, w, is) (end, c) (subst (λ d. LeftOf (done d o end n) rest final) e left)
piped_left n o (two i f) d all symbols pipe mid rest q end final opens (comma, following, range, v, w, more) is e c left = absurd (no_range range)

-- a control's word, variables and pipe
pub if_named : (n : Builder) (b : Before) (form : Naming) (d : ActionKind) (following pipe : List Symbol) (q : Pipe)
    → IsNaming n b form following pipe → d ≡ action_kind.Piped (named_purpose b form) q → is_if_word b ≡ true → (x : Option (List ℕ)) × IsNamedForm x following pipe × (d ≡ action_kind.Piped (naming b x) q)
if_named n b unnamed d following pipe q named e k = (None, named, e)
if_named n b (one x) d following pipe q named e k = (Some x, named, e)
if_named n b (two i f) d following pipe q (comma, later, range, v, w, more) e k = absurd (not_range_word b range k)
if_named n b (again x) d following pipe q (mark, begins, known, v, w) e k = absurd (not_action_word b begins k)

if_left : (n : Builder) (o : Opening) (form : Naming) (d : ActionKind) (all symbols following pipe mid rest : List Symbol) (q : Pipe) (end : ℕ) (final : Builder)
    → (n.room == 0) ≡ false → StandsOn (kind.Open o.start o.before) o.line all symbols → SymbolStands (kind.Word word.If) symbols following
    → IsNaming n before.If form following pipe → IsPipe n.variables (n.room - 1) q.commands pipe mid → d ≡ action_kind.Piped (named_purpose before.If form) q
    → SymbolStands (kind.Close end) mid rest → LeftOf (done d o end n) rest final → LeftOf n all final
if_left n o form d all symbols following pipe mid rest q end final room opens w named is e c left =
    let x = if_named n before.If form d following pipe q named e refl in
    control_left n (control_word.If x.0) q o.start o.before o.line all symbols mid rest final room opens (following, pipe, w, x.1, is) (end, c)
    (subst (λ p. LeftOf (done (action_kind.Piped p q) o end n) rest final) (names_if x.0) (subst (λ d. LeftOf (done d o end n) rest final) x.2 left))

with_left : (n : Builder) (o : Opening) (form : Naming) (d : ActionKind) (all symbols following pipe mid rest : List Symbol) (q : Pipe) (end : ℕ) (final : Builder)
    → (n.room == 0) ≡ false → StandsOn (kind.Open o.start o.before) o.line all symbols → SymbolStands (kind.Word word.With) symbols following
    → IsNaming n before.With form following pipe → IsPipe n.variables (n.room - 1) q.commands pipe mid → d ≡ action_kind.Piped (named_purpose before.With form) q
    → SymbolStands (kind.Close end) mid rest → LeftOf (done d o end n) rest final → LeftOf n all final
with_left n o form d all symbols following pipe mid rest q end final room opens w named is e c left =
    let x = if_named n before.With form d following pipe q named e refl in
    control_left n (control_word.With x.0) q o.start o.before o.line all symbols mid rest final room opens (following, pipe, w, x.1, is) (end, c)
    (subst (λ p. LeftOf (done (action_kind.Piped p q) o end n) rest final) (names_with x.0) (subst (λ d. LeftOf (done d o end n) rest final) x.2 left))

range_left : (n : Builder) (o : Opening) (form : Naming) (d : ActionKind) (all symbols following pipe mid rest : List Symbol) (q : Pipe) (end : ℕ) (final : Builder)
    → (n.room == 0) ≡ false → StandsOn (kind.Open o.start o.before) o.line all symbols → SymbolStands (kind.Word word.Range) symbols following
    → IsNaming n before.Range form following pipe → IsPipe n.variables (n.room - 1) q.commands pipe mid → d ≡ action_kind.Piped (named_purpose before.Range form) q
    → SymbolStands (kind.Close end) mid rest → LeftOf (done d o end n) rest final → LeftOf n all final
range_left n o unnamed d all symbols following pipe mid rest q end final room opens w named is e c left =
    control_left n (control_word.Range None None) q o.start o.before o.line all symbols mid rest final room opens (following, pipe, w, named, is) (end, c) (subst (λ d. LeftOf (done d o end n) rest final) e left)
range_left n o (one x) d all symbols following pipe mid rest q end final room opens w named is e c left =
    control_left n (control_word.Range None (Some x)) q o.start o.before o.line all symbols mid rest final room opens (following, pipe, w, named, is) (end, c) (subst (λ d. LeftOf (done d o end n) rest final) e left)
range_left n o (two i x) d all symbols following pipe mid rest q end final room opens w (comma, later, same, v, mark, more) is e c left =
    control_left n (control_word.Range (Some i) (Some x)) q o.start o.before o.line all symbols mid rest final room opens (following, pipe, w, (comma, later, v, mark, more), is) (end, c) (subst (λ d. LeftOf (done d o end n) rest final) e left)
range_left n o (again x) d all symbols following pipe mid rest q end final room opens w (mark, begins, known, v, m) is e c left = absurd (range_begins_no_action begins)

-- what an action says that begins so, other than `else`
pub begun_left : (n : Builder) (o : Opening) (b : Beginning) (d : ActionKind) (all symbols mid rest : List Symbol) (end : ℕ) (final : Builder)
    → StandsOn (kind.Open o.start o.before) o.line all symbols → Begun n b d symbols mid → SymbolStands (kind.Close end) mid rest → LeftOf (done d o end n) rest final → LeftOf n all final
begun_left n o pipe_begins d all symbols mid rest end final opens h c left =
    let p = following_piped n before.Action d symbols mid h in
    piped_left n o p.0 d all symbols p.1 mid rest p.2 end final opens p.3 p.4 p.5 c left
begun_left n o if_begins d all symbols mid rest end final opens (following, room, w, h) c left =
    let p = following_piped n before.If d following mid h in
    if_left n o p.0 d all symbols following p.1 mid rest p.2 end final room opens w p.3 p.4 p.5 c left
begun_left n o with_begins d all symbols mid rest end final opens (following, room, w, h) c left =
    let p = following_piped n before.With d following mid h in
    with_left n o p.0 d all symbols following p.1 mid rest p.2 end final room opens w p.3 p.4 p.5 c left
begun_left n o range_begins d all symbols mid rest end final opens (following, room, w, h) c left =
    let p = following_piped n before.Range d following mid h in
    range_left n o p.0 d all symbols following p.1 mid rest p.2 end final room opens w p.3 p.4 p.5 c left
begun_left n o ends d all symbols mid rest end final opens (f, frames, e, (w, is)) c left =
    let now : LeftOf (closed_from n.frames o n) rest final = subst (λ d. LeftOf (done d o end n) rest final) is left in
    subst (λ fs. Left fs false n all final) (sym e)
    (end_left f frames n o all symbols mid rest final opens w (end, c) (subst (λ fs. LeftOf (closed_from fs o n) rest final) e now))
begun_left n o breaks d all symbols mid rest end final opens (inside, (w, is)) c left =
    action_left n node_kind.Break o.start o.before o.line all symbols mid rest final opens (inside, w) (end, c) (subst (λ d. LeftOf (done d o end n) rest final) is left)
begun_left n o continues d all symbols mid rest end final opens (inside, (w, is)) c left =
    action_left n node_kind.Continue o.start o.before o.line all symbols mid rest final opens (inside, w) (end, c) (subst (λ d. LeftOf (done d o end n) rest final) is left)
begun_left n o calls d all symbols mid rest end final opens (name, named, following, w, s, inl (is, same)) c left =
    action_left n (node_kind.Template name None) o.start o.before o.line all symbols mid rest final opens (named, w, subst (SymbolStands (kind.Str name) named) same s) (end, c) (subst (λ d. LeftOf (done d o end n) rest final) is left)
begun_left n o calls d all symbols mid rest end final opens (name, named, following, w, s, inr (q, stands, is)) c left =
    action_left n (node_kind.Template name (Some q)) o.start o.before o.line all symbols mid rest final opens (named, following, w, s, stands) (end, c) (subst (λ d. LeftOf (done d o end n) rest final) is left)
begun_left n o defines d all symbols mid rest end final opens (name, line, named, none, w, s, is) c left =
    define_then n name o.start o.before o.line line end all symbols named mid rest final none opens w s c (subst (λ d. LeftOf (done d o end n) rest final) is left)
begun_left n o blocks d all symbols mid rest end final opens (name, line, named, following, w, s, (q, stands, is)) c left =
    block_left n name q o.start o.before o.line line end all symbols named following mid rest final opens w s stands c (subst (λ d. LeftOf (done d o end n) rest final) is left)
