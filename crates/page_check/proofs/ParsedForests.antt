-- In the forests of files that are parsed each `break` and `continue` stands in a range.
use Rattle.std.proofs.Common.{◌≡◌, ℕ, zero, suc, Bool, true, false, ◌||◌, cond, List, [], ◌∷◌, ◌++◌, Option, Some, None, option_map, sym, ◌∙◌, subst}
use Rattle.std.specs.List.{filter, find, last_or}
use Rattle.std.specs.Option.{option_or}
use Rattle.std.specs.Prelude.{⊤}
use Rattle.page_check.specs.Definitions.{HaveDefs, IsForestOf}
use Rattle.page_datum.specs.declared.files.NamedFile.{NamedFile}
use Rattle.place_infer.specs.BreaksInRanges.{BreaksStand, HasBreaksInRanges, MayStand}
use Rattle.tpl_build.specs.Building.{def_of, found_of, is_range, node_kind_of}
use Rattle.tpl_build.specs.Gathering.{HasStanding, first_named, has_name, is_full, last_full}
use Rattle.tpl_build.specs.declared.definition.Def.{Def}
use Rattle.tpl_build.specs.declared.definition.FoundDefinition.{FoundDefinition}
use Rattle.tpl_build.specs.declared.frame.Control.{Control}
use Rattle.tpl_build.specs.declared.frame.Control.TheVariants as control_word
use Rattle.tpl_parse.specs.Endings.{defs_of}
use Rattle.tpl_parse.specs.Files.{IsFile, file_last_line}
use Rattle.tpl_parse.specs.Forms.{Else, Forms, action, block, control, define, else_if, else_nodes, form_nodes, found_else, found_in, is_blank, no_else, no_forms, otherwise, text}
use Rattle.tpl_parse.specs.Grammar.{AreForms, IsAction, IsElse}
use Rattle.tpl_parse.specs.Steps.{most_open}
use Rattle.tpl_symbol.specs.Symbols.{symbols_of}
use Rattle.tpl_symbol.specs.declared.symbol.Symbol.{Symbol}
use Rattle.tpl_tree.specs.Forests.{ForestData}
use Rattle.tpl_tree.specs.Trees.{NodesData, TreeData, no_nodes, node}
use Rattle.tpl_tree.specs.declared.node_kind.NodeKind.{NodeKind}
use Rattle.tpl_tree.specs.declared.node_kind.NodeKind.TheVariants as kind
use Rattle.tpl_tree.specs.declared.pipe.Pipe.{Pipe}

-- an action stands where it may
action-stands : (variables : List (List ℕ)) (room : ℕ) (in_range : Bool) (what : NodeKind) (symbols rest : List Symbol) → IsAction variables room in_range what symbols rest → MayStand in_range what
action-stands vs room in_range (kind.Text bytes) s r h = tt
action-stands vs room in_range (kind.Action p) s r h = tt
action-stands vs room in_range (kind.Declare x p) s r h = tt
action-stands vs room in_range (kind.Assign x p) s r h = tt
action-stands vs room in_range (kind.If x p) s r h = tt
action-stands vs room in_range (kind.With x p) s r h = tt
action-stands vs room in_range (kind.Range i e p) s r h = tt
action-stands vs room in_range kind.Break s r h = h.0
action-stands vs room in_range kind.Continue s r h = h.0
action-stands vs room in_range (kind.Template name p) s r h = tt

-- an action has no parts
action-node : (in_range : Bool) (what : NodeKind) (line : ℕ) (rest : NodesData) → MayStand in_range what → BreaksStand in_range rest → BreaksStand in_range (node what line [] no_nodes no_nodes rest)
action-node in_range what line rest may h = (may, tt, tt, h)

-- a control, by where its first part stands
control-node : (in_range : Bool) (c : Control) (p : Pipe) (line : ℕ) (first other rest : NodesData) → BreaksStand (is_range c || in_range) first → BreaksStand in_range other → BreaksStand in_range rest
    → BreaksStand in_range (node (node_kind_of c p) line [] first other rest)
control-node in_range (control_word.If x) p line first other rest f o r = (tt, f, o, r)
control-node in_range (control_word.With x) p line first other rest f o r = (tt, f, o, r)
control-node in_range (control_word.Range i e) p line first other rest f o r = (tt, f, o, r)

mutual
  forms-stand : (vs : List (List ℕ)) (room : ℕ) (in_range top : Bool) (forms : Forms) (symbols rest : List Symbol) → AreForms vs room in_range top forms symbols rest → BreaksStand in_range (form_nodes forms)
  forms-stand vs room in_range top no_forms s r h = tt
  forms-stand vs room in_range top (text bytes line seams more) s r h = (tt, tt, tt, forms-stand vs room in_range top more h.0 r h.2)
  forms-stand vs room in_range top (action what line more) s r h =
      action-node in_range what line (form_nodes more) (action-stands vs room in_range what h.0 h.1 h.4) (forms-stand _ room in_range top more h.2 r h.6)
  forms-stand vs zero in_range top (control c p line first later more) s r h = absurd h
  forms-stand vs (suc room) in_range top (control c p line first later more) s r h =
      control-node in_range c p line (form_nodes first) (else_nodes later) (form_nodes more)
      (forms-stand _ room (is_range c || in_range) false first h.2 h.3 h.8) (else-stands vs room in_range c later h.3 h.4 h.9) (forms-stand vs (suc room) in_range top more h.4 r h.10)
  forms-stand vs room in_range top (block name p line word body ends more) s r h = (tt, tt, tt, forms-stand vs room in_range top more h.6 r h.15)
  forms-stand vs room in_range top (define name word body ends more) s r h = forms-stand vs room in_range top more h.5 r h.15

  else-stands : (vs : List (List ℕ)) (room : ℕ) (in_range : Bool) (c : Control) (later : Else) (symbols rest : List Symbol) → IsElse vs room in_range c later symbols rest → BreaksStand in_range (else_nodes later)
  else-stands vs room in_range c no_else s r h = tt
  else-stands vs room in_range c (otherwise forms) s r h = forms-stand _ room in_range false forms h.3 h.4 h.8
  else-stands vs zero in_range c (else_if d p line first later) s r h = absurd h
  else-stands vs (suc room) in_range c (else_if (control_word.If x) p line first later) s r h = (tt, forms-stand _ room in_range false first h.3 h.4 h.11, else-stands _ room in_range (control_word.If x) later h.4 r h.12, tt)
  else-stands vs (suc room) in_range c (else_if (control_word.With x) p line first later) s r h = absurd h.6
  else-stands vs (suc room) in_range c (else_if (control_word.Range i e) p line first later) s r h = absurd h.6

-- the trees of definitions
abbrev pub AllStand : List Def → Type 0
AllStand [] = ⊤
AllStand (d ∷ defs) = BreaksStand false d.tree.nodes × AllStand defs

pub append-stand : (a b : List Def) → AllStand a → AllStand b → AllStand (a ++ b)
append-stand [] b h k = k
append-stand (d ∷ a) b h k = (h.0, append-stand a b h.1 k)

found-append : (a b : List FoundDefinition) → AllStand (defs_of a) → AllStand (defs_of b) → AllStand (defs_of (a ++ b))
found-append [] b h k = k
found-append (f ∷ a) b h k = (h.0, found-append a b h.1 k)

mutual
  found-stand : (vs : List (List ℕ)) (room : ℕ) (in_range top : Bool) (forms : Forms) (symbols rest : List Symbol) → AreForms vs room in_range top forms symbols rest → AllStand (defs_of (found_in forms))
  found-stand vs room in_range top no_forms s r h = tt
  found-stand vs room in_range top (text bytes line seams more) s r h = found-stand vs room in_range top more h.0 r h.2
  found-stand vs room in_range top (action what line more) s r h = found-stand _ room in_range top more h.2 r h.6
  found-stand vs zero in_range top (control c p line first later more) s r h = absurd h
  found-stand vs (suc room) in_range top (control c p line first later more) s r h =
      found-append (found_in first) (found_else later ++ found_in more) (found-stand _ room (is_range c || in_range) false first h.2 h.3 h.8)
      (found-append (found_else later) (found_in more) (else-found vs room in_range c later h.3 h.4 h.9) (found-stand vs (suc room) in_range top more h.4 r h.10))
  found-stand vs room in_range top (block name p line word body ends more) s r h =
      (forms-stand [] room false false body h.4 h.5 h.13, found-append (found_in body) (found_in more) (found-stand [] room false false body h.4 h.5 h.13) (found-stand vs room in_range top more h.6 r h.15))
  found-stand vs room in_range top (define name word body ends more) s r h =
      (forms-stand [] room false false body h.3 h.4 h.13, found-append (found_in body) (found_in more) (found-stand [] room false false body h.3 h.4 h.13) (found-stand vs room in_range top more h.5 r h.15))

  else-found : (vs : List (List ℕ)) (room : ℕ) (in_range : Bool) (c : Control) (later : Else) (symbols rest : List Symbol) → IsElse vs room in_range c later symbols rest → AllStand (defs_of (found_else later))
  else-found vs room in_range c no_else s r h = tt
  else-found vs room in_range c (otherwise forms) s r h = found-stand _ room in_range false forms h.3 h.4 h.8
  else-found vs zero in_range c (else_if d p line first later) s r h = absurd h
  else-found vs (suc room) in_range c (else_if d p line first later) s r h =
      found-append (found_in first) (found_else later) (found-stand _ room in_range false first h.3 h.4 h.11) (else-found _ room in_range d later h.4 r h.12)

-- those of a file
pub file-stands : (name bytes : List ℕ) (defs : List Def) → IsFile name bytes defs → AllStand defs
file-stands name bytes defs f =
    let symbols : List Symbol = symbols_of bytes f.tokens in
    let own : FoundDefinition = found_of (def_of name (is_blank f.forms) (form_nodes f.forms) (file_last_line bytes)) 1 in
    subst AllStand f.all (found-append (found_in f.forms) (own ∷ []) (found-stand [] most_open false true f.forms symbols [] f.body) (forms-stand [] most_open false true f.forms symbols [] f.body, tt))

-- the one that stands for a name is one of them
abbrev IfStands : Option Def → Type 0
IfStands None = ⊤
IfStands (Some d) = BreaksStand false d.tree.nodes

find-stands : (test : Def → Bool) (defs : List Def) → AllStand defs → IfStands (find test defs)
find-stands test [] h = tt
find-stands test (d ∷ defs) h = by (test d) (find-stands test defs h.1)
  where
    by : (b : Bool) → IfStands (find test defs) → IfStands (cond b (Some d) (find test defs))
    by true k = h.0
    by false k = k

filter-stands : (test : Def → Bool) (defs : List Def) → AllStand defs → AllStand (filter test defs)
filter-stands test [] h = tt
filter-stands test (d ∷ defs) h = by (test d) (filter-stands test defs h.1)
  where
    by : (b : Bool) → AllStand (filter test defs) → AllStand (cond b (d ∷ filter test defs) (filter test defs))
    by true k = (h.0, k)
    by false k = k

last-stands : (o : Option Def) (defs : List Def) → IfStands o → AllStand defs → IfStands (last_or o defs)
last-stands o [] h k = h
last-stands o (d ∷ defs) h k = last-stands (Some d) defs k.0 k.1

the-tree : (s t : TreeData) → Some s ≡ Some t → s ≡ t
the-tree s t is = cc

either-stands : (o p : Option Def) (tree : TreeData) → IfStands o → IfStands p → option_map (λ (d : Def). d.tree) (option_or o p) ≡ Some tree → BreaksStand false tree.nodes
either-stands None None tree h k e = cc
either-stands None (Some d) tree h k e = subst (λ (t : TreeData). BreaksStand false t.nodes) (the-tree d.tree tree e) k
either-stands (Some d) p tree h k e = subst (λ (t : TreeData). BreaksStand false t.nodes) (the-tree d.tree tree e) h

-- those of a forest
pub forest-stands : (defs : List Def) (forest : ForestData) → HasStanding defs forest → AllStand defs → HasBreaksInRanges forest
forest-stands defs forest standing h name tree e =
    either-stands (last_full name defs) (first_named name defs) tree (last-stands None (filter (is_full name) defs) tt (filter-stands (is_full name) defs h)) (find-stands (has_name name) defs h) (sym (standing name) ∙ e)

have-stand : (files : List NamedFile) (all : List Def) → HaveDefs files all → AllStand all
have-stand [] all h = subst AllStand (sym h) tt
have-stand (file ∷ files) all h = subst AllStand (sym h.4) (append-stand h.0 h.1 (file-stands file.name file.bytes h.0 h.2.is) (have-stand files h.1 h.3))

pub set-stands : (files : List NamedFile) (forest : ForestData) → IsForestOf files forest → HasBreaksInRanges forest
set-stands files forest is = forest-stands is.defs forest is.standing (have-stand files is.defs is.have)
