-- The grammar of template files over their symbols. Each relation says: these are the symbols up to the rest.
use Rattle.std.specs.Prelude.{◌≡◌, ℕ, zero, suc, ◌==◌, Bool, true, false, ◌||◌, if◌then◌else◌, List, [], ◌∷◌, ◌++◌, Option, Some, None, ⊤}
use Rattle.tpl_parse.specs.Forms.{Forms, no_forms, text, action, control, block, define, Else, no_else, otherwise, else_if, declared_by_form}
use Rattle.tpl_build.specs.Building.{first_names, else_names, is_range}
use Rattle.tpl_parse.specs.Steps.{most_open}
use Rattle.tpl_build.specs.declared.frame.Control.{Control}
use Rattle.tpl_build.specs.declared.frame.Control.TheVariants as control_word
use Rattle.tpl_pipe.specs.Grammar.{SymbolStands, IsPipe}
use Rattle.tpl_pipe.specs.Reading.{variable_declared}
use Rattle.tpl_symbol.specs.declared.symbol.Symbol.{Symbol}
use Rattle.tpl_symbol.specs.declared.symbol.SymbolKind.{SymbolKind}
use Rattle.tpl_symbol.specs.declared.symbol.SymbolKind.TheVariants as kind
use Rattle.tpl_symbol.specs.declared.word.Word.TheVariants as word
use Rattle.tpl_tree.specs.Pipes.{PipeData}
use Rattle.tpl_tree.specs.declared.node_kind.NodeKind.{NodeKind}
use Rattle.tpl_tree.specs.declared.node_kind.NodeKind.TheVariants as node_kind

-- one symbol of this kind, on this line
abbrev pub StandsOn : SymbolKind → ℕ → List Symbol → List Symbol → Type 0
StandsOn what line [] rest = ⊥
StandsOn what line (s ∷ symbols) rest = (s.kind ≡ what) × (s.line ≡ line) × (symbols ≡ rest)

-- the beginning of an action, on this line
abbrev pub Opens : ℕ → List Symbol → List Symbol → Type 0
Opens line symbols rest = (start : ℕ) × (before : ℕ) × StandsOn (kind.Open start before) line symbols rest

-- the end of an action
abbrev pub Closes : List Symbol → List Symbol → Type 0
Closes symbols rest = (end : ℕ) × SymbolStands (kind.Close end) symbols rest

-- `{{end}}`
abbrev pub IsFormEnd : List Symbol → List Symbol → Type 0
IsFormEnd symbols rest =
    (line : ℕ) × (inner following : List Symbol) × Opens line symbols inner × SymbolStands (kind.Word word.End) inner following × Closes following rest

-- the line of the last byte of a body, which begins at an offset, and ends before another, where the line of the byte is
-- this: 1 where the body is empty
abbrev pub body_end : ℕ → ℕ → ℕ → ℕ
body_end begins ends last = if begins == ends then 1 else last

-- `{{end}}`, after a body that begins at an offset and ends on a line
abbrev pub EndsBody : ℕ → ℕ → List Symbol → List Symbol → Type 0
EndsBody begins ends symbols rest =
    (start : ℕ) × (before : ℕ) × (line : ℕ) × (inner following : List Symbol) × StandsOn (kind.Open start before) line symbols inner
    × SymbolStands (kind.Word word.End) inner following × Closes following rest × (ends ≡ body_end begins start before)

-- `$x :=`
abbrev pub Declares : List ℕ → List Symbol → List Symbol → Type 0
Declares x symbols rest = (following : List Symbol) × SymbolStands (kind.Variable x) symbols following × SymbolStands kind.Declare following rest

-- An action that has no body, between its `{{` and `}}`, where these variables are declared, so many parentheses may be
-- opened, and which is in the first part of a `range` or not.
abbrev pub IsAction : List (List ℕ) → ℕ → Bool → NodeKind → List Symbol → List Symbol → Type 0
IsAction variables room in_range (node_kind.Action p) symbols rest = IsPipe variables room p.commands symbols rest
IsAction variables room in_range (node_kind.Declare x p) symbols rest =
    (following : List Symbol) × Declares x symbols following × IsPipe variables room p.commands following rest
IsAction variables room in_range (node_kind.Assign x p) symbols rest =
    (mark following : List Symbol) × (variable_declared variables x ≡ true) × SymbolStands (kind.Variable x) symbols mark × SymbolStands kind.Assign mark following
    × IsPipe variables room p.commands following rest
IsAction variables room in_range node_kind.Break symbols rest = (in_range ≡ true) × SymbolStands (kind.Word word.Break) symbols rest
IsAction variables room in_range node_kind.Continue symbols rest = (in_range ≡ true) × SymbolStands (kind.Word word.Continue) symbols rest
IsAction variables room in_range (node_kind.Template name None) symbols rest =
    (following : List Symbol) × SymbolStands (kind.Word word.Template) symbols following × SymbolStands (kind.Str name) following rest
IsAction variables room in_range (node_kind.Template name (Some p)) symbols rest =
    (following argument : List Symbol) × SymbolStands (kind.Word word.Template) symbols following × SymbolStands (kind.Str name) following argument
    × IsPipe variables room p.commands argument rest
IsAction variables room in_range _ symbols rest = ⊥

-- the variables of a control before its pipe: `$x :=`, and for `range` also `$i, $e :=`
abbrev pub IsNamedForm : Option (List ℕ) → List Symbol → List Symbol → Type 0
IsNamedForm None symbols rest = symbols ≡ rest
IsNamedForm (Some x) symbols rest = Declares x symbols rest

abbrev pub AreNamed : Option (List ℕ) → Option (List ℕ) → List Symbol → List Symbol → Type 0
AreNamed None element symbols rest = IsNamedForm element symbols rest
AreNamed (Some index) None symbols rest = ⊥
AreNamed (Some index) (Some element) symbols rest =
    (comma following : List Symbol) × SymbolStands (kind.Variable index) symbols comma × SymbolStands kind.Comma comma following × Declares element following rest

-- The word of a control, its variables and its pipe, in which so many parentheses may be opened.
abbrev pub IsControl : List (List ℕ) → ℕ → Control → PipeData → List Symbol → List Symbol → Type 0
IsControl variables room (control_word.If x) p symbols rest =
    (following pipe : List Symbol) × SymbolStands (kind.Word word.If) symbols following × IsNamedForm x following pipe × IsPipe variables room p pipe rest
IsControl variables room (control_word.With x) p symbols rest =
    (following pipe : List Symbol) × SymbolStands (kind.Word word.With) symbols following × IsNamedForm x following pipe × IsPipe variables room p pipe rest
IsControl variables room (control_word.Range i e) p symbols rest =
    (following pipe : List Symbol) × SymbolStands (kind.Word word.Range) symbols following × AreNamed i e following pipe × IsPipe variables room p pipe rest

abbrev pub IsIf : Control → Type 0
IsIf (control_word.If x) = ⊤
IsIf (control_word.With x) = ⊥
IsIf (control_word.Range i e) = ⊥

abbrev mutual
  -- The forms of a part: where these variables are declared, so many more controls and parentheses may be opened, which is
  -- in the first part of a `range` of the same body or not, and at the top level of the file or not.
  pub AreForms : List (List ℕ) → ℕ → Bool → Bool → Forms → List Symbol → List Symbol → Type 0
  AreForms variables room in_range top no_forms symbols rest = symbols ≡ rest
  AreForms variables room in_range top (text bytes line seams more) symbols rest =
      (following : List Symbol) × StandsOn (kind.Text bytes seams) line symbols following × AreForms variables room in_range top more following rest
  AreForms variables room in_range top (action what line more) symbols rest =
      (inner end following : List Symbol) × Opens line symbols inner × IsAction variables room in_range what inner end × Closes end following
      × AreForms (variables ++ declared_by_form what) room in_range top more following rest
  AreForms variables zero in_range top (control c p line first later more) symbols rest = ⊥
  AreForms variables (suc room) in_range top (control c p line first later more) symbols rest =
      (inner end part else_part following : List Symbol) × Opens line symbols inner × IsControl variables room c p.commands inner end × Closes end part
      × AreForms (variables ++ first_names c) room (is_range c || in_range) false first part else_part
      × IsElse variables room in_range c later else_part following
      × AreForms variables (suc room) in_range top more following rest
  AreForms variables room in_range top (block name p line word_line body ends more) symbols rest =
      (inner named pipe end part last following : List Symbol) × (begins : ℕ) × Opens line symbols inner × StandsOn (kind.Word word.Block) word_line inner named
      × SymbolStands (kind.Str name) named pipe × IsPipe variables room p.commands pipe end × SymbolStands (kind.Close begins) end part
      × AreForms [] room false false body part last × EndsBody begins ends last following
      × AreForms variables room in_range top more following rest
  AreForms variables room in_range top (define name word_line body ends more) symbols rest =
      (inner named end part last following : List Symbol) × (line : ℕ) × (begins : ℕ) × (top ≡ true) × Opens line symbols inner × StandsOn (kind.Word word.Define) word_line inner named
      × SymbolStands (kind.Str name) named end × SymbolStands (kind.Close begins) end part
      × AreForms [] room false false body part last × EndsBody begins ends last following
      × AreForms variables room in_range top more following rest

  -- How a control goes on after its first part, up to and with its `{{end}}`, where so many controls and parentheses may
  -- be opened in its parts.
  pub IsElse : List (List ℕ) → ℕ → Bool → Control → Else → List Symbol → List Symbol → Type 0
  IsElse variables room in_range c no_else symbols rest = IsFormEnd symbols rest
  IsElse variables room in_range c (otherwise forms) symbols rest =
      (line : ℕ) × (inner end part last : List Symbol) × Opens line symbols inner × SymbolStands (kind.Word word.Else) inner end × Closes end part
      × AreForms (variables ++ else_names c) room in_range false forms part last × IsFormEnd last rest
  IsElse variables zero in_range c (else_if d p line first later) symbols rest = ⊥
  IsElse variables (suc room) in_range c (else_if d p line first later) symbols rest =
      (inner following end part else_part : List Symbol) × IsIf c × IsIf d × Opens line symbols inner × SymbolStands (kind.Word word.Else) inner following
      × IsControl (variables ++ else_names c) room d p.commands following end × Closes end part
      × AreForms ((variables ++ else_names c) ++ first_names d) room in_range false first part else_part
      × IsElse (variables ++ else_names c) room in_range d later else_part rest

-- The symbols of a file are these forms.
abbrev pub IsFileBody : Forms → List Symbol → Type 0
IsFileBody forms symbols = AreForms [] most_open false true forms symbols []
