-- The symbols of forms lead to their nodes and definitions.
use Rattle.std.proofs.Common.{◌≡◌, ℕ, zero, suc, ◌-◌, ◌==◌, Bool, true, false, if◌then◌else◌, ◌&&◌, ◌||◌, List, [], ◌∷◌, ◌++◌, length, Option, Some, None, Ok, refl, sym, ap, ◌∙◌, subst, append_assoc, append-nil, true≢false, arith}
use Rattle.std.proofs.lemmas.Bool.Decides.{nat_tests}
use Rattle.std.proofs.lemmas.List.{take_at}
use Rattle.std.specs.List.{list_all}
use Rattle.tpl_token.specs.Characters.{is_white}
use Rattle.tpl_parse.specs.Forms.{Forms, no_forms, text, action, control, block, define, Else, no_else, otherwise, else_if, form_nodes, else_nodes, is_blank, found_in, found_else, declared_by_form, declared_in_forms}
use Rattle.tpl_parse.specs.Grammar.{StandsOn, body_end, EndsBody, IsControl, IsIf, AreForms, IsElse}
use Rattle.tpl_build.specs.Building.{builder_of, one_node, with_text, first_names, else_names, is_range, node_kind_of, open_control, with_definition, with_else, open_definition, def_of, found_of, frame_filled, filled_one, closed_from}
use Rattle.tpl_parse.specs.Steps.{state, opening, parser_run}
use Rattle.tpl_parse.specs.Actions.{action_start, is_if, else_word}
use Rattle.tpl_build.specs.declared.definition.FoundDefinition.{FoundDefinition}
use Rattle.tpl_build.specs.declared.frame.Control.{Control}
use Rattle.tpl_build.specs.declared.frame.Control.TheVariants as control_word
use Rattle.tpl_build.specs.declared.frame.OpenForm.{OpenForm}
use Rattle.tpl_parse.specs.declared.action.ActionState.TheVariants as action_state
use Rattle.tpl_parse.specs.Phases as phase
use Rattle.tpl_build.specs.declared.action.Opening.{Opening}
use Rattle.tpl_build.specs.declared.action.Purpose.TheVariants as purpose
use Rattle.tpl_build.specs.declared.builder.Builder.{Builder}
use Rattle.tpl_parse.proofs.ActionsLead.{advances_to, advances_on, opens_lead, closes_lead, in_pipe_leads, acted, action_leads, control_leads, else_if_leads}
use Rattle.tpl_pipe.specs.Grammar.{SymbolStands}
use Rattle.tpl_symbol.specs.declared.symbol.Seam.{Seam}
use Rattle.tpl_symbol.specs.declared.symbol.Symbol.{Symbol}
use Rattle.tpl_symbol.specs.declared.symbol.SymbolKind.TheVariants as kind
use Rattle.tpl_symbol.specs.declared.word.Word.TheVariants as word
use Rattle.tpl_tree.specs.Trees.{NodesData, no_nodes, node, TreeData, append}
use Rattle.tpl_tree.specs.declared.node_kind.NodeKind.{NodeKind}
use Rattle.tpl_tree.specs.declared.node_kind.NodeKind.TheVariants as node_kind
use Rattle.tpl_tree.specs.declared.pipe.Pipe.{Pipe}

pub append-assoc : (a b c : NodesData) → append (append a b) c ≡ append a (append b c)
append-assoc no_nodes b c = refl
append-assoc (node what line seams first other rest) b c = ap (node what line seams first other) (append-assoc rest b c)

pub append-none : (a : NodesData) → append a no_nodes ≡ a
append-none no_nodes = refl
append-none (node what line seams first other rest) = ap (node what line seams first other) (append-none rest)

and-assoc : (a b c : Bool) → ((a && b) && c) ≡ (a && (b && c))
and-assoc true b c = refl
and-assoc false b c = refl

and-true : (a : Bool) → (a && true) ≡ a
and-true true = refl
and-true false = refl

pub and-false : (a : Bool) → (a && false) ≡ false
and-false true = refl
and-false false = refl

-- two that agree in what forms change
pub same_builder : (frames : List OpenForm) (in_range : Bool) (room : ℕ) (b b' : NodesData) (v v' : List (List ℕ)) (k k' : Bool) (f f' : List FoundDefinition)
    → b ≡ b' → v ≡ v' → k ≡ k' → f ≡ f' → builder_of frames b v in_range room k f ≡ builder_of frames b' v' in_range room k' f'
same_builder frames in_range room b b' v v' k k' f f' eb ev ek ef =
    ap (λ b. builder_of frames b v in_range room k f) eb ∙ ap (λ v. builder_of frames b' v in_range room k f) ev
    ∙ ap (λ k. builder_of frames b' v' in_range room k f) ek ∙ ap (λ f. builder_of frames b' v' in_range room k' f) ef

-- what forms do
abbrev pub with_forms : Forms → Builder → Builder
with_forms forms n = builder_of n.frames (append n.body (form_nodes forms)) (n.variables ++ declared_in_forms forms) n.in_range n.room (n.blank && is_blank forms) (n.found ++ found_in forms)

pub none_more : (n : Builder) → n ≡ with_forms no_forms n
none_more n = same_builder n.frames n.in_range n.room n.body (append n.body no_nodes) n.variables (n.variables ++ []) n.blank (n.blank && true) n.found (n.found ++ [])
    (sym (append-none n.body)) (sym (append-nil n.variables)) (sym (and-true n.blank)) (sym (append-nil n.found))

pub text_more : (bytes : List ℕ) (line : ℕ) (seams : List Seam) (more : Forms) (n : Builder) → with_forms more (with_text bytes line seams n) ≡ with_forms (text bytes line seams more) n
text_more bytes line seams more n = same_builder n.frames n.in_range n.room
    (append (append n.body (one_node (node_kind.Text bytes) line seams no_nodes no_nodes)) (form_nodes more)) (append n.body (form_nodes (text bytes line seams more)))
    (n.variables ++ declared_in_forms more) (n.variables ++ declared_in_forms more) ((n.blank && list_all is_white bytes) && is_blank more) (n.blank && (list_all is_white bytes && is_blank more)) (n.found ++ found_in more) (n.found ++ found_in more)
    (append-assoc n.body (one_node (node_kind.Text bytes) line seams no_nodes no_nodes) (form_nodes more)) refl (and-assoc n.blank (list_all is_white bytes) (is_blank more)) refl

-- an action without a body does the same to each
pub acted_is : (what : NodeKind) (line : ℕ) (n : Builder) → acted what line n ≡ builder_of n.frames (append n.body (one_node what line [] no_nodes no_nodes)) (n.variables ++ declared_by_form what) n.in_range n.room false n.found
acted_is (node_kind.Declare x p) line n = refl
acted_is (node_kind.Text _) line n = ap (λ v. builder_of n.frames (append n.body (one_node (node_kind.Text _) line [] no_nodes no_nodes)) v n.in_range n.room false n.found) (sym (append-nil n.variables))
acted_is (node_kind.Action p) line n = ap (λ v. builder_of n.frames (append n.body (one_node (node_kind.Action p) line [] no_nodes no_nodes)) v n.in_range n.room false n.found) (sym (append-nil n.variables))
acted_is (node_kind.Assign x p) line n = ap (λ v. builder_of n.frames (append n.body (one_node (node_kind.Assign x p) line [] no_nodes no_nodes)) v n.in_range n.room false n.found) (sym (append-nil n.variables))
acted_is (node_kind.If x p) line n = ap (λ v. builder_of n.frames (append n.body (one_node (node_kind.If x p) line [] no_nodes no_nodes)) v n.in_range n.room false n.found) (sym (append-nil n.variables))
acted_is (node_kind.With x p) line n = ap (λ v. builder_of n.frames (append n.body (one_node (node_kind.With x p) line [] no_nodes no_nodes)) v n.in_range n.room false n.found) (sym (append-nil n.variables))
acted_is (node_kind.Range i e p) line n = ap (λ v. builder_of n.frames (append n.body (one_node (node_kind.Range i e p) line [] no_nodes no_nodes)) v n.in_range n.room false n.found) (sym (append-nil n.variables))
acted_is node_kind.Break line n = ap (λ v. builder_of n.frames (append n.body (one_node node_kind.Break line [] no_nodes no_nodes)) v n.in_range n.room false n.found) (sym (append-nil n.variables))
acted_is node_kind.Continue line n = ap (λ v. builder_of n.frames (append n.body (one_node node_kind.Continue line [] no_nodes no_nodes)) v n.in_range n.room false n.found) (sym (append-nil n.variables))
acted_is (node_kind.Template name p) line n = ap (λ v. builder_of n.frames (append n.body (one_node (node_kind.Template name p) line [] no_nodes no_nodes)) v n.in_range n.room false n.found) (sym (append-nil n.variables))

pub action_more : (what : NodeKind) (line : ℕ) (more : Forms) (n : Builder)
    → with_forms more (builder_of n.frames (append n.body (one_node what line [] no_nodes no_nodes)) (n.variables ++ declared_by_form what) n.in_range n.room false n.found) ≡ with_forms (action what line more) n
action_more what line more n = same_builder n.frames n.in_range n.room
    (append (append n.body (one_node what line [] no_nodes no_nodes)) (form_nodes more)) (append n.body (form_nodes (action what line more)))
    ((n.variables ++ declared_by_form what) ++ declared_in_forms more) (n.variables ++ (declared_by_form what ++ declared_in_forms more)) false (n.blank && false) (n.found ++ found_in more) (n.found ++ found_in more)
    (append-assoc n.body (one_node what line [] no_nodes no_nodes) (form_nodes more)) (append_assoc n.variables (declared_by_form what) (declared_in_forms more)) (sym (and-false n.blank)) refl

-- the tree of a definition is put where it was opened
pub put_there : (done : List FoundDefinition) (f : FoundDefinition) (later : List FoundDefinition) (blank : Bool) (tree : TreeData) → frame_filled (length done) blank tree ((done ++ f ∷ []) ++ later) ≡ done ++ (filled_one blank tree f ∷ later)
put_there [] f later blank tree = refl
put_there (d ∷ done) f later blank tree = ap (λ (xs : List FoundDefinition). d ∷ xs) (put_there done f later blank tree)

text_leads : (n : Builder) (bytes : List ℕ) (line : ℕ) (seams : List Seam) (symbols rest : List Symbol) → StandsOn (kind.Text bytes seams) line symbols rest
    → parser_run (state n phase.Outside) symbols ≡ parser_run (state (with_text bytes line seams n) phase.Outside) rest
text_leads n bytes line seams [] rest h = absurd h
text_leads n bytes line seams (s ∷ symbols) rest h = (rw h.0 refl) ∙ ap (λ l. parser_run (state (with_text bytes l seams n) phase.Outside) symbols) h.1 ∙ ap (parser_run (state (with_text bytes line seams n) phase.Outside)) h.2

-- the end of the innermost control or definition
end_leads : (n : Builder) (f : OpenForm) (frames : List OpenForm) (start last line end : ℕ) (symbols inner following rest : List Symbol) → n.frames ≡ f ∷ frames
    → StandsOn (kind.Open start last) line symbols inner → SymbolStands (kind.Word word.End) inner following → SymbolStands (kind.Close end) following rest
    → parser_run (state n phase.Outside) symbols ≡ parser_run (state (closed_from (f ∷ frames) (opening line start last) n) phase.Outside) rest
end_leads n f frames start last line end symbols inner following rest e o w c =
    let at = opening line start last in
    let word = advances_to n at action_state.Start (kind.Word word.End) (λ s. action_state.End) inner following w refl (λ s. refl) (λ s k. rw (k, e) refl) in
    opens_lead n start last line symbols inner o ∙ word.1
    ∙ closes_lead n at action_state.End (closed_from (f ∷ frames) at n) end following rest c (λ line. rw e refl)

-- the builder around a control that is closed
abbrev pub around_closed : Bool → List OpenForm → Opening → Builder → Builder
around_closed chained frames o n = if chained then closed_from frames o n else n

-- a control that is open
abbrev pub open_in : Control → Pipe → ℕ → NodesData → Option NodesData → Bool → List (List ℕ) → Bool → ℕ → OpenForm
open_in c p line body first chained variables in_range room = open_control c p line body first chained (record { variables = length variables; in_range = in_range; room = room })

-- it is closed, in its first part
closed_first : (frames : List OpenForm) (o : Opening) (c : Control) (p : Pipe) (line : ℕ) (body first : NodesData) (chained : Bool) (variables extra : List (List ℕ)) (in_range inside : Bool) (room now : ℕ) (found : List FoundDefinition)
    → closed_from (open_in c p line body None chained variables in_range room ∷ frames) o (builder_of (open_in c p line body None chained variables in_range room ∷ frames) first (variables ++ extra) inside now false found)
    ≡ around_closed chained frames o (builder_of frames (append body (one_node (node_kind_of c p) line [] first no_nodes)) variables in_range room false (found ++ []))
closed_first frames o c p line body first chained variables extra in_range inside room now found =
    ap (λ v. around_closed chained frames o (builder_of frames (append body (one_node (node_kind_of c p) line [] first no_nodes)) v in_range room false found)) (take_at variables extra (length variables) refl)
    ∙ ap (λ f. around_closed chained frames o (builder_of frames (append body (one_node (node_kind_of c p) line [] first no_nodes)) variables in_range room false f)) (sym (append-nil found))

-- and in its `else` part
closed_other : (frames : List OpenForm) (o : Opening) (c : Control) (p : Pipe) (line : ℕ) (body first other : NodesData) (chained : Bool) (variables extra : List (List ℕ)) (in_range inside : Bool) (room now : ℕ) (found : List FoundDefinition)
    → closed_from (open_in c p line body (Some first) chained variables in_range room ∷ frames) o (builder_of (open_in c p line body (Some first) chained variables in_range room ∷ frames) other (variables ++ extra) inside now false found)
    ≡ around_closed chained frames o (builder_of frames (append body (one_node (node_kind_of c p) line [] first other)) variables in_range room false found)
closed_other frames o c p line body first other chained variables extra in_range inside room now found =
    ap (λ v. around_closed chained frames o (builder_of frames (append body (one_node (node_kind_of c p) line [] first other)) v in_range room false found)) (take_at variables extra (length variables) refl)

-- a body ends, and its definition gets its tree
body_ends : (name : List ℕ) (word_line : ℕ) (inside : Forms) (ends : ℕ) (frames : List OpenForm) (begins : ℕ) (body : NodesData) (variables : List (List ℕ)) (in_range : Bool) (room : ℕ) (blank : Bool) (found : List FoundDefinition) (symbols rest : List Symbol)
    → EndsBody begins ends symbols rest
    → parser_run (state (builder_of (open_definition (length found) begins body variables in_range blank ∷ frames) (form_nodes inside) (declared_in_forms inside) false room (is_blank inside) ((found ++ found_of (def_of name true no_nodes 1) word_line ∷ []) ++ found_in inside)) phase.Outside) symbols
    ≡ parser_run (state (builder_of frames body variables in_range room blank (found ++ (found_of (def_of name (is_blank inside) (form_nodes inside) ends) word_line ∷ found_in inside))) phase.Outside) rest
body_ends name word_line inside ends frames begins body variables in_range room blank found symbols rest h =
    let frame = open_definition (length found) begins body variables in_range blank in
    let start = found_of (def_of name true no_nodes 1) word_line in
    let n = builder_of (frame ∷ frames) (form_nodes inside) (declared_in_forms inside) false room (is_blank inside) ((found ++ start ∷ []) ++ found_in inside) in
    end_leads n frame frames h.0 h.1 h.2 h.7.0 symbols h.3 h.4 rest refl h.5 h.6 h.7.1
    ∙ ap (λ f. parser_run (state (builder_of frames body variables in_range room blank f) phase.Outside) rest)
    (put_there found start (found_in inside) (is_blank inside) (record { nodes = form_nodes inside; end_line = body_end begins h.0 h.1 }))
    ∙ ap (λ e. parser_run (state (builder_of frames body variables in_range room blank (found ++ (found_of (def_of name (is_blank inside) (form_nodes inside) e) word_line ∷ found_in inside))) phase.Outside) rest) (sym h.8)

-- the word `else`
enters_else : (n : Builder) (o : Opening) (symbols rest : List Symbol) → SymbolStands (kind.Word word.Else) symbols rest → ((line : ℕ) → else_word n.frames line ≡ Ok action_state.Else)
    → parser_run (state n (phase.Inside o action_state.Start)) symbols ≡ parser_run (state (with_else n) (phase.Inside o action_state.Else)) rest
enters_else n o [] rest h e = absurd h
enters_else n o (s ∷ symbols) rest h e = (rw (h.0, e s.line) refl) ∙ ap (parser_run (state (with_else n) (phase.Inside o action_state.Else))) h.1

-- the `else` part begins
else_begins : (frames : List OpenForm) (c : Control) (p : Pipe) (line : ℕ) (body first : NodesData) (chained : Bool) (variables extra : List (List ℕ)) (in_range inside : Bool) (around room : ℕ) (found : List FoundDefinition) (symbols inner following : List Symbol) (start last at : ℕ)
    → StandsOn (kind.Open start last) at symbols inner → SymbolStands (kind.Word word.Else) inner following
    → parser_run (state (builder_of (open_in c p line body None chained variables in_range around ∷ frames) first (variables ++ extra) inside room false found) phase.Outside) symbols
    ≡ parser_run (state (builder_of (open_in c p line body (Some first) chained variables in_range around ∷ frames) no_nodes (variables ++ else_names c) in_range room false found) (phase.Inside (opening at start last) action_state.Else)) following
else_begins frames c p line body first chained variables extra in_range inside around room found symbols inner following start last at o w =
    let n = builder_of (open_in c p line body None chained variables in_range around ∷ frames) first (variables ++ extra) inside room false found in
    let other = open_in c p line body (Some first) chained variables in_range around in
    let word = enters_else n (opening at start last) inner following w (λ line. refl) in
    opens_lead n start last at symbols inner o ∙ word
    ∙ ap (λ v. parser_run (state (builder_of (other ∷ frames) no_nodes (v ++ else_names c) in_range room false found) (phase.Inside (opening at start last) action_state.Else)) following) (take_at variables extra (length variables) refl)

pred_of : (room : ℕ) → suc room - 1 ≡ room
pred_of room = omega arith

not_none : (room : ℕ) → (suc room == 0) ≡ false
not_none room = grind (arith, nat_tests)

not_range : (c : Control) (b : Bool) → IsIf c → (is_range c || b) ≡ b
not_range (control_word.If x) b h = refl
not_range (control_word.With x) b h = absurd h
not_range (control_word.Range i e) b h = absurd h

ends_with_if : (c : Control) → IsIf c → is_if c ≡ true
ends_with_if (control_word.If x) h = refl
ends_with_if (control_word.With x) h = absurd h
ends_with_if (control_word.Range i e) h = absurd h

mutual
  pub forms_lead : (forms : Forms) (top : Bool) (frames : List OpenForm) (body : NodesData) (variables : List (List ℕ)) (in_range : Bool) (room : ℕ) (blank : Bool) (found : List FoundDefinition) (symbols rest : List Symbol)
      → (top ≡ true → frames ≡ []) → AreForms variables room in_range top forms symbols rest
      → parser_run (state (builder_of frames body variables in_range room blank found) phase.Outside) symbols ≡ parser_run (state (with_forms forms (builder_of frames body variables in_range room blank found)) phase.Outside) rest
  forms_lead no_forms top frames body variables in_range room blank found symbols rest t h =
      let n = builder_of frames body variables in_range room blank found in
      ap (parser_run (state n phase.Outside)) h ∙ ap (λ m. parser_run (state m phase.Outside) rest) (none_more n)
  forms_lead (text bytes line seams more) top frames body variables in_range room blank found symbols rest t h =
      let n = builder_of frames body variables in_range room blank found in
      text_leads n bytes line seams symbols h.0 h.1
      ∙ forms_lead more top frames (append body (one_node (node_kind.Text bytes) line seams no_nodes no_nodes)) variables in_range room (blank && list_all is_white bytes) found h.0 rest t h.2
      ∙ ap (λ m. parser_run (state m phase.Outside) rest) (text_more bytes line seams more n)
  forms_lead (action what line more) top frames body variables in_range room blank found symbols rest t h =
      let n = builder_of frames body variables in_range room blank found in
      let at = opening line h.3.0 h.3.1 in
      opens_lead n h.3.0 h.3.1 line symbols h.0 h.3.2
      ∙ action_leads n at what h.5.0 h.0 h.1 h.2 h.4 h.5.1
      ∙ ap (λ m. parser_run (state m phase.Outside) h.2) (acted_is what line n)
      ∙ forms_lead more top frames (append body (one_node what line [] no_nodes no_nodes)) (variables ++ declared_by_form what) in_range room false found h.2 rest t h.6
      ∙ ap (λ m. parser_run (state m phase.Outside) rest) (action_more what line more n)
  forms_lead (control c p line first later more) top frames body variables in_range zero blank found symbols rest t h = absurd h
  forms_lead (control c p line first later more) top frames body variables in_range (suc room) blank found symbols rest t h =
      let n = builder_of frames body variables in_range (suc room) blank found in
      let at = opening line h.5.0 h.5.1 in
      let frame = open_in c p line body None false variables in_range (suc room) in
      let part = forms_lead first false (frame ∷ frames) no_nodes (variables ++ first_names c) (is_range c || in_range) room false found h.2 h.3 (λ e. absurd (true≢false (sym e))) h.8 in
      let whole = else_lead later frames c p line body (form_nodes first) false variables (first_names c ++ declared_in_forms first) in_range (is_range c || in_range) (suc room) room (found ++ found_in first) h.3 h.4 h.9 in
      opens_lead n h.5.0 h.5.1 line symbols h.0 h.5.2
      ∙ control_leads n at c p.commands h.7.0 h.0 h.1 h.2 (not_none room) (subst (λ r. IsControl variables r c p.commands h.0 h.1) (sym (pred_of room)) h.6) h.7.1
      ∙ ap (λ r. parser_run (state (builder_of (frame ∷ frames) no_nodes (variables ++ first_names c) (is_range c || in_range) r false found) phase.Outside) h.2) (pred_of room)
      ∙ part
      ∙ ap (λ v. parser_run (state (builder_of (frame ∷ frames) (form_nodes first) v (is_range c || in_range) room false (found ++ found_in first)) phase.Outside) h.3) (append_assoc variables (first_names c) (declared_in_forms first))
      ∙ whole.1
      ∙ forms_lead more top frames (append body (one_node (node_kind_of c p) line [] (form_nodes first) (else_nodes later))) variables in_range (suc room) false ((found ++ found_in first) ++ found_else later) h.4 rest t h.10
      ∙ ap (λ m. parser_run (state m phase.Outside) rest) (same_builder frames in_range (suc room)
      (append (append body (one_node (node_kind_of c p) line [] (form_nodes first) (else_nodes later))) (form_nodes more)) (append body (form_nodes (control c p line first later more)))
      (variables ++ declared_in_forms more) (variables ++ declared_in_forms more) false (blank && false)
      (((found ++ found_in first) ++ found_else later) ++ found_in more) (found ++ found_in (control c p line first later more))
      (append-assoc body (one_node (node_kind_of c p) line [] (form_nodes first) (else_nodes later)) (form_nodes more)) refl (sym (and-false blank))
      (append_assoc (found ++ found_in first) (found_else later) (found_in more) ∙ append_assoc found (found_in first) (found_else later ++ found_in more)))
  forms_lead (block name p line word_line inside ends more) top frames body variables in_range room blank found symbols rest t h =
      let n = builder_of frames body variables in_range room blank found in
      let at = opening line h.8.0 h.8.1 in
      let called = append body (one_node (node_kind.Template name (Some p)) line [] no_nodes no_nodes) in
      let begun = with_definition name word_line h.7 (builder_of frames called variables in_range room false found) in
      let start = found_of (def_of name true no_nodes 1) word_line in
      let node = one_node (node_kind.Template name (Some p)) line [] no_nodes no_nodes in
      let whole = found_of (def_of name (is_blank inside) (form_nodes inside) ends) word_line in
      let named = advances_to n at (action_state.Block word_line) (kind.Str name) (λ s. action_state.Pipe (purpose.Block name word_line) (action_start room)) h.1 h.2 h.10 refl (λ s. refl) (λ s k. rw k refl) in
      let part = forms_lead inside false begun.frames no_nodes [] false room true (found ++ start ∷ []) h.4 h.5 (λ e. absurd (true≢false (sym e))) h.13 in
      opens_lead n h.8.0 h.8.1 line symbols h.0 h.8.2
      ∙ advances_on n at action_state.Start (kind.Word word.Block) word_line (λ l. action_state.Block l) h.0 h.1 h.9 refl (λ s. refl) (λ s k. rw k refl)
      ∙ named.1
      ∙ in_pipe_leads n at (purpose.Block name word_line) room p.commands h.7 h.2 h.3 h.4 h.11 h.12
      ∙ part
      ∙ body_ends name word_line inside ends frames h.7 called variables in_range room false found h.5 h.6 h.14
      ∙ forms_lead more top frames called variables in_range room false (found ++ (whole ∷ found_in inside)) h.6 rest t h.15
      ∙ ap (λ m. parser_run (state m phase.Outside) rest) (same_builder frames in_range room
      (append called (form_nodes more)) (append body (form_nodes (block name p line word_line inside ends more)))
      (variables ++ declared_in_forms more) (variables ++ declared_in_forms more) false (blank && false)
      ((found ++ (whole ∷ found_in inside)) ++ found_in more) (found ++ found_in (block name p line word_line inside ends more))
      (append-assoc body node (form_nodes more)) refl (sym (and-false blank))
      (append_assoc found (whole ∷ found_in inside) (found_in more)))
  forms_lead (define name word_line inside ends more) top frames body variables in_range room blank found symbols rest t h =
      let n = builder_of frames body variables in_range room blank found in
      let at = opening h.6 h.9.0 h.9.1 in
      let begun = with_definition name word_line h.7 n in
      let start = found_of (def_of name true no_nodes 1) word_line in
      let whole = found_of (def_of name (is_blank inside) (form_nodes inside) ends) word_line in
      let named = advances_to n at (action_state.Define word_line) (kind.Str name) (λ s. action_state.DefineNamed name word_line) h.1 h.2 h.11 refl (λ s. refl) (λ s k. rw k refl) in
      let part = forms_lead inside false begun.frames no_nodes [] false room true (found ++ start ∷ []) h.3 h.4 (λ e. absurd (true≢false (sym e))) h.13 in
      opens_lead n h.9.0 h.9.1 h.6 symbols h.0 h.9.2
      ∙ advances_on n at action_state.Start (kind.Word word.Define) word_line (λ l. action_state.Define l) h.0 h.1 h.10 refl (λ s. refl) (λ s k. rw (k, t h.8) refl)
      ∙ named.1
      ∙ closes_lead n at (action_state.DefineNamed name word_line) begun h.7 h.2 h.3 h.12 (λ line. refl)
      ∙ part
      ∙ body_ends name word_line inside ends frames h.7 body variables in_range room blank found h.4 h.5 h.14
      ∙ forms_lead more top frames body variables in_range room blank (found ++ (whole ∷ found_in inside)) h.5 rest t h.15
      ∙ ap (λ m. parser_run (state m phase.Outside) rest) (same_builder frames in_range room
      (append body (form_nodes more)) (append body (form_nodes more)) (variables ++ declared_in_forms more) (variables ++ declared_in_forms more) (blank && is_blank more) (blank && is_blank more)
      ((found ++ (whole ∷ found_in inside)) ++ found_in more) (found ++ found_in (define name word_line inside ends more))
      refl refl refl (append_assoc found (whole ∷ found_in inside) (found_in more)))

  else_lead : (later : Else) (frames : List OpenForm) (c : Control) (p : Pipe) (line : ℕ) (body first : NodesData) (chained : Bool) (variables extra : List (List ℕ)) (in_range inside : Bool) (around room : ℕ) (found : List FoundDefinition) (symbols rest : List Symbol)
      → IsElse variables room in_range c later symbols rest
      → (o : Opening) × (parser_run (state (builder_of (open_in c p line body None chained variables in_range around ∷ frames) first (variables ++ extra) inside room false found) phase.Outside) symbols
      ≡ parser_run (state (around_closed chained frames o (builder_of frames (append body (one_node (node_kind_of c p) line [] first (else_nodes later))) variables in_range around false (found ++ found_else later))) phase.Outside) rest)
  else_lead no_else frames c p line body first chained variables extra in_range inside around room found symbols rest h =
      let frame = open_in c p line body None chained variables in_range around in
      let n = builder_of (frame ∷ frames) first (variables ++ extra) inside room false found in
      let o = opening h.0 h.3.0 h.3.1 in (
        o,
        end_leads n frame frames h.3.0 h.3.1 h.0 h.5.0 symbols h.1 h.2 rest refl h.3.2 h.4 h.5.1
            ∙ ap (λ m. parser_run (state m phase.Outside) rest) (closed_first frames o c p line body first chained variables extra in_range inside around room found),
      )
  else_lead (otherwise forms) frames c p line body first chained variables extra in_range inside around room found symbols rest h =
      let at = opening h.0 h.5.0 h.5.1 in
      let other = open_in c p line body (Some first) chained variables in_range around in
      let begun = builder_of (other ∷ frames) no_nodes (variables ++ else_names c) in_range room false found in
      let part = forms_lead forms false (other ∷ frames) no_nodes (variables ++ else_names c) in_range room false found h.3 h.4 (λ e. absurd (true≢false (sym e))) h.8 in
      let last = builder_of (other ∷ frames) (form_nodes forms) (variables ++ (else_names c ++ declared_in_forms forms)) in_range room false (found ++ found_in forms) in
      let o = opening h.9.0 h.9.3.0 h.9.3.1 in (
        o,
        else_begins frames c p line body first chained variables extra in_range inside around room found symbols h.1 h.2 h.5.0 h.5.1 h.0 h.5.2 h.6
            ∙ closes_lead begun at action_state.Else begun h.7.0 h.2 h.3 h.7.1 (λ line. refl)
            ∙ part
            ∙ ap (λ v. parser_run (state (builder_of (other ∷ frames) (form_nodes forms) v in_range room false (found ++ found_in forms)) phase.Outside) h.4) (append_assoc variables (else_names c) (declared_in_forms forms))
            ∙ end_leads last other frames h.9.3.0 h.9.3.1 h.9.0 h.9.5.0 h.4 h.9.1 h.9.2 rest refl h.9.3.2 h.9.4 h.9.5.1
            ∙ ap (λ m. parser_run (state m phase.Outside) rest) (closed_other frames o c p line body first (form_nodes forms) chained variables (else_names c ++ declared_in_forms forms) in_range in_range around room (found ++ found_in forms)),
      )
  else_lead (else_if d q at_line part later) frames c p line body first chained variables extra in_range inside around zero found symbols rest h = absurd h
  else_lead (else_if d q at_line part later) frames c p line body first chained variables extra in_range inside around (suc room) found symbols rest h =
      let at = opening at_line h.7.0 h.7.1 in
      let other = open_in c p line body (Some first) chained variables in_range around in
      let names = variables ++ else_names c in
      let begun = builder_of (other ∷ frames) no_nodes names in_range (suc room) false found in
      let one = open_in d q at_line no_nodes None true names in_range (suc room) in
      let parts = forms_lead part false (one ∷ (other ∷ frames)) no_nodes (names ++ first_names d) in_range room false found h.3 h.4 (λ e. absurd (true≢false (sym e))) h.11 in
      let whole = else_lead later (other ∷ frames) d q at_line no_nodes (form_nodes part) true names (first_names d ++ declared_in_forms part) in_range in_range (suc room) room (found ++ found_in part) h.4 rest h.12 in
      let node = one_node (node_kind_of d q) at_line [] (form_nodes part) (else_nodes later) in (
        whole.0,
        else_begins frames c p line body first chained variables extra in_range inside around (suc room) found symbols h.0 h.1 h.7.0 h.7.1 at_line h.7.2 h.8
            ∙ else_if_leads begun at d q.commands h.10.0 h.1 h.2 h.3 (ends_with_if c h.5) (not_none room) h.6 (subst (λ r. IsControl names r d q.commands h.1 h.2) (sym (pred_of room)) h.9) h.10.1
            ∙ ap (λ r. parser_run (state (builder_of (one ∷ (other ∷ frames)) no_nodes (names ++ first_names d) (is_range d || in_range) r false found) phase.Outside) h.3) (pred_of room)
            ∙ ap (λ b. parser_run (state (builder_of (one ∷ (other ∷ frames)) no_nodes (names ++ first_names d) b room false found) phase.Outside) h.3) (not_range d in_range h.6)
            ∙ parts
            ∙ ap (λ v. parser_run (state (builder_of (one ∷ (other ∷ frames)) (form_nodes part) v in_range room false (found ++ found_in part)) phase.Outside) h.4) (append_assoc names (first_names d) (declared_in_forms part))
            ∙ whole.1
            ∙ ap (λ m. parser_run (state m phase.Outside) rest) (closed_other frames whole.0 c p line body first node chained variables (else_names c) in_range in_range around (suc room) ((found ++ found_in part) ++ found_else later))
            ∙ ap (λ f. parser_run (state (around_closed chained frames whole.0 (builder_of frames (append body (one_node (node_kind_of c p) line [] first node)) variables in_range around false f)) phase.Outside) rest) (append_assoc found (found_in part) (found_else later)),
      )
