-- The forms of a part that are read are printed: the pieces of their nodes fit, and are read as forms with the same nodes.
use Rattle.std.proofs.Common.{◌≡◌, ◌≢◌, ℕ, zero, suc, ◌≤◌, Bool, true, false, ◌||◌, List, [], ◌∷◌, ◌++◌, Some, codes, refl, sym, ap, ◌∙◌, append_assoc, subst, arith, true≢false}
use Rattle.std.specs.Bool.{⊤}
use Rattle.tpl_parse.specs.Forms.{Forms, no_forms, text, action, control, block, define, Else, no_else, otherwise, else_if, form_nodes, else_nodes, declared_by_form, found_in, found_else}
use Rattle.tpl_parse.specs.Grammar.{StandsOn, Opens, Closes, IsFormEnd, body_end, EndsBody, IsAction, IsControl, IsIf, AreForms, IsElse}
use Rattle.tpl_build.specs.Building.{node_kind_of, first_names, else_names, is_range}
use Rattle.tpl_build.specs.declared.definition.FoundDefinition.{FoundDefinition}
use Rattle.tpl_build.specs.declared.frame.Control.{Control}
use Rattle.tpl_build.specs.declared.frame.Control.TheVariants as control_word
use Rattle.tpl_pipe.specs.Grammar.{SymbolStands}
use Rattle.tpl_print.proofs.ActionPrints.{Inner, Acts, action_prints, block_prints, control_prints}
use Rattle.tpl_print.proofs.Pieces.{Piece, words, opens, closes, name, string_piece, inner_pieces, word_pieces, else_pieces, parting_pieces, nodes_pieces, Says, SpacedHead, OpenHead, FitIn, FitOut}
use Rattle.tpl_print.proofs.PipePrints.{word_prints, string_prints}
use Rattle.tpl_print.proofs.Prints.{Part, Then, Prints, seq, head_append, says_split, apart}
use Rattle.tpl_print.proofs.Sound.{IsSound, AreApart, IsApart, Sound, stands_sound}
use Rattle.tpl_print.specs.Lines.{without_lines}
use Rattle.tpl_print.specs.Spelling.{is_control_head, begins_text}
use Rattle.tpl_symbol.specs.declared.symbol.Seam.{Seam}
use Rattle.tpl_symbol.specs.declared.symbol.Symbol.{Symbol}
use Rattle.tpl_symbol.specs.declared.symbol.SymbolKind.{SymbolKind}
use Rattle.tpl_symbol.specs.declared.symbol.SymbolKind.TheVariants as kind
use Rattle.tpl_symbol.specs.declared.word.Word.TheVariants as word
use Rattle.tpl_token.proofs.Marks.{either}
use Rattle.tpl_tree.specs.Listing.{has_nodes}
use Rattle.tpl_tree.specs.Trees.{NodesData, no_nodes, node, is_text_node}
use Rattle.tpl_tree.specs.declared.node_kind.NodeKind.{NodeKind}
use Rattle.tpl_tree.specs.declared.node_kind.NodeKind.TheVariants as node_kind
use Rattle.tpl_tree.specs.declared.pipe.Pipe.{Pipe}

-- What is sound goes on being sound after what stands.
stands_on_sound : (k : SymbolKind) (line : ℕ) (s r : List Symbol) → StandsOn k line s r → Sound s → IsSound k × Sound r
stands_on_sound k line [] r h sound = absurd h
stands_on_sound k line (x ∷ s) r h sound = stands_sound k (x ∷ s) r (h.0, h.2) sound

opens_sound : (line : ℕ) (s r : List Symbol) → Opens line s r → Sound s → Sound r
opens_sound line s r h sound = (stands_on_sound (kind.Open h.0 h.1) line s r h.2 sound).1

closes_sound : (s r : List Symbol) → Closes s r → Sound s → Sound r
closes_sound s r h sound = (stands_sound (kind.Close h.0) s r h.1 sound).1

end_sound : (s r : List Symbol) → IsFormEnd s r → Sound s → Sound r
end_sound s r h sound =
    closes_sound h.2 r h.5 (stands_sound (kind.Word word.End) h.1 h.2 h.4 (opens_sound h.0 s h.1 h.3 sound)).1

ends_body_sound : (begins ends : ℕ) (s r : List Symbol) → EndsBody begins ends s r → Sound s → Sound r
ends_body_sound begins ends s r h sound =
    closes_sound h.4 r h.7 (stands_sound (kind.Word word.End) h.3 h.4 h.6 (stands_on_sound (kind.Open h.0 h.1) h.2 s h.3 h.5 sound).1).1

stands_on : (k : SymbolKind) (s r : List Symbol) → SymbolStands k s r → (line : ℕ) × StandsOn k line s r
stands_on k [] r h = absurd h
stands_on k (x ∷ s) r h = (x.line, (h.0, refl, h.1))

-- Actions as pieces.
abbrev pub action_pieces : List Piece → List Piece
action_pieces inner = opens ∷ (inner ++ closes ∷ [])

-- an action with this between its delimiters
abbrev pub Acted : Part → List Symbol → List Symbol → Type 0
Acted P symbols rest = (line : ℕ) × (inner end : List Symbol) × Opens line symbols inner × P inner end × Closes end rest

acted_fits : {P : Part} (inner more : List Piece) → Prints inner P → SpacedHead inner → FitOut more → FitOut (action_pieces inner ++ more)
acted_fits inner more x head fit =
    (head_append (inner ++ closes ∷ []) more (head_append inner (closes ∷ []) head), subst FitIn (sym (append_assoc inner (closes ∷ []) more)) (x.fits (closes ∷ more) tt fit))

close_reads : (s r : List Symbol) → Says (closes ∷ []) s r → Closes s r
close_reads [] r says = absurd says
close_reads (x ∷ s) r says = (says.0.0, (says.0.1, says.1))

acted_reads : {P : Part} (inner : List Piece) (s r : List Symbol) → Prints inner P → Says (action_pieces inner) s r → Acted P s r
acted_reads inner [] r x says = absurd says
acted_reads inner (o ∷ s) r x says =
    let h = says_split inner (closes ∷ []) s r says.1 in
    (o.line, s, h.0, (says.0.0, says.0.1, (says.0.2, refl, refl)), x.reads s h.0 h.1 (apart (closes ∷ []) h.0 r tt h.2), close_reads h.0 r h.2)

end_prints : Prints (name (codes "end") ∷ []) (SymbolStands (kind.Word word.End))
end_prints = word_prints (codes "end") (kind.Word word.End) refl refl

else_prints : Prints (name (codes "else") ∷ []) (SymbolStands (kind.Word word.Else))
else_prints = word_prints (codes "else") (kind.Word word.Else) refl refl

define_prints : Prints (name (codes "define") ∷ string_piece [] ∷ []) (Then (SymbolStands (kind.Word word.Define)) (SymbolStands (kind.Str [])))
define_prints = seq (name (codes "define") ∷ []) (string_piece [] ∷ []) (word_prints (codes "define") (kind.Word word.Define) refl refl) (string_prints [])

-- Pieces outside of actions that print a part of the grammar, where an action or the end may follow.
pub record Outer (ps : List Piece) (Is : Part) : Type 0 where
  pub fits : (more : List Piece) → OpenHead more → FitOut more → FitOut (ps ++ more)
  pub reads : (s r : List Symbol) → Says ps s r → Is s r

outer_by : {P : Part} (ps qs : List Piece) → ps ≡ qs → Outer qs P → Outer ps P
outer_by {P} ps qs e x = subst (λ (xs : List Piece). Outer xs P) (sym e) x

-- definitions that are blank
abbrev pub AllBlank : List FoundDefinition → Type 0
AllBlank [] = ⊤
AllBlank (f ∷ found) = (f.def.blank ≡ true) × AllBlank found

blank_append : (a b : List FoundDefinition) → AllBlank a → AllBlank b → AllBlank (a ++ b)
blank_append [] b h k = k
blank_append (f ∷ a) b h k = (h.0, blank_append a b h.1 k)

-- forms with these nodes, apart from lines, whose definitions are blank
abbrev pub IsBody : List (List ℕ) → ℕ → Bool → Bool → NodesData → Part
IsBody v room in_range top nodes s r = (forms : Forms) × AreForms v room in_range top forms s r × (without_lines (form_nodes forms) ≡ without_lines nodes) × AllBlank (found_in forms)

abbrev pub Body : List (List ℕ) → ℕ → Bool → Bool → NodesData → Type 0
Body v room in_range top nodes = Outer (nodes_pieces nodes) (IsBody v room in_range top nodes)

-- what comes after the first part of a control
abbrev pub else_end : NodesData → List Piece
else_end other = else_pieces (has_nodes other) ++ (nodes_pieces other ++ word_pieces (codes "end"))

pub record ElseBody (v : List (List ℕ)) (room : ℕ) (in_range : Bool) (c : Control) (other : NodesData) : Type 0 where
  pub fits : (more : List Piece) → FitOut more → FitOut (else_end other ++ more)
  pub reads : (s r : List Symbol) → Says (else_end other) s r → (later : Else) × IsElse v room in_range c later s r × (without_lines (else_nodes later) ≡ without_lines other) × AllBlank (found_else later)

else_head : (other : NodesData) (more : List Piece) → OpenHead (else_end other ++ more)
else_head no_nodes more = tt
else_head (node k l s first other rest) more = tt

-- nodes that do not begin with a text begin with an action
nodes_head : (nodes : NodesData) (more : List Piece) → begins_text nodes ≡ false → OpenHead more → OpenHead (nodes_pieces nodes ++ more)
nodes_head no_nodes more differs head = head
nodes_head (node k l s first other rest) more differs head = rw differs tt

empty_body : (v : List (List ℕ)) (room : ℕ) (in_range top : Bool) → Body v room in_range top no_nodes
empty_body v room in_range top = record { fits = λ more head fit. fit; reads = λ s r says. (no_forms, says, refl, tt) }

-- an action that has no body, and what follows
act_pieces : (k : NodeKind) (line : ℕ) (seams : List Seam) (rest : NodesData) → is_text_node k ≡ false → is_control_head k ≡ false
    → nodes_pieces (node k line seams no_nodes no_nodes rest) ≡ action_pieces (inner_pieces k) ++ nodes_pieces rest
act_pieces k line seams rest plain single = rw (plain, single) refl

act_body : (v : List (List ℕ)) (room : ℕ) (in_range top : Bool) (k : NodeKind) (line : ℕ) (rest : NodesData) (e : List Symbol) → Acts v room in_range k e
    → Body (v ++ declared_by_form k) room in_range top rest → Body v room in_range top (node k line [] no_nodes no_nodes rest)
act_body v room in_range top k line rest e acts body =
    outer_by (nodes_pieces (node k line [] no_nodes no_nodes rest)) (action_pieces (inner_pieces k) ++ nodes_pieces rest) (act_pieces k line [] rest acts.no_text acts.no_parts)
    (record {
      fits = λ more head fit. subst FitOut (sym (append_assoc (action_pieces (inner_pieces k)) (nodes_pieces rest) more)) (acted_fits (inner_pieces k) (nodes_pieces rest ++ more) acts.inner.prints acts.inner.head (body.fits more head fit));
      reads = λ s r says.
          let h = says_split (action_pieces (inner_pieces k)) (nodes_pieces rest) s r says in
          let first = acted_reads (inner_pieces k) s h.0 acts.inner.prints h.1 in
          let more = body.reads h.0 r h.2 in
          (action k first.0 more.0, (first.1, first.2, h.0, first.3, first.4, first.5, more.1), ap (λ (w : NodesData). node k 1 [] no_nodes no_nodes w) more.2, more.3);
    })

-- a control, and what follows
control_pieces : (c : Control) (p : Pipe) (line : ℕ) (first other rest : NodesData)
    → nodes_pieces (node (node_kind_of c p) line [] first other rest) ≡ action_pieces (inner_pieces (node_kind_of c p)) ++ ((nodes_pieces first ++ else_end other) ++ nodes_pieces rest)
control_pieces (control_word.If x) p line first other rest = refl
control_pieces (control_word.With x) p line first other rest = refl
control_pieces (control_word.Range i x) p line first other rest = refl

control_body : (v : List (List ℕ)) (room : ℕ) (in_range top : Bool) (c : Control) (p : Pipe) (line : ℕ) (first other rest : NodesData) (e : List Symbol)
    → Inner (inner_pieces (node_kind_of c p)) (IsControl v room c p.commands) e → Body (v ++ first_names c) room (is_range c || in_range) false first → ElseBody v room in_range c other
    → Body v (suc room) in_range top rest → Body v (suc room) in_range top (node (node_kind_of c p) line [] first other rest)
control_body v room in_range top c p line first other rest e inner part behind body =
    let a = action_pieces (inner_pieces (node_kind_of c p)) in
    let f = nodes_pieces first in
    let g = nodes_pieces rest in
    outer_by (nodes_pieces (node (node_kind_of c p) line [] first other rest)) (a ++ ((f ++ else_end other) ++ g)) (control_pieces c p line first other rest)
    (record {
      fits = λ more head fit.
          let inside : FitOut (f ++ (else_end other ++ (g ++ more))) = part.fits (else_end other ++ (g ++ more)) (else_head other (g ++ more)) (behind.fits (g ++ more) (body.fits more head fit)) in
          let same : f ++ (else_end other ++ (g ++ more)) ≡ ((f ++ else_end other) ++ g) ++ more = sym (append_assoc f (else_end other) (g ++ more)) ∙ sym (append_assoc (f ++ else_end other) g more) in
          subst FitOut (sym (append_assoc a ((f ++ else_end other) ++ g) more)) (acted_fits (inner_pieces (node_kind_of c p)) (((f ++ else_end other) ++ g) ++ more) inner.prints inner.head (subst FitOut same inside));
      reads = λ s r says.
          let h = says_split a ((f ++ else_end other) ++ g) s r says in
          let k = says_split (f ++ else_end other) g h.0 r h.2 in
          let l = says_split f (else_end other) h.0 k.0 k.1 in
          let opening = acted_reads (inner_pieces (node_kind_of c p)) s h.0 inner.prints h.1 in
          let one = part.reads h.0 l.0 l.1 in
          let two = behind.reads l.0 k.0 l.2 in
          let three = body.reads k.0 r k.2 in (
            control c p opening.0 one.0 two.0 three.0,
            (opening.1, opening.2, h.0, l.0, k.0, opening.3, opening.4, opening.5, one.1, two.1, three.1),
            λ i. node (node_kind_of c p) 1 [] (one.2 i) (two.2 i) (three.2 i),
            blank_append (found_in one.0) (found_else two.0 ++ found_in three.0) one.3 (blank_append (found_else two.0) (found_in three.0) two.3 three.3),
          );
    })

-- how a control goes on, by the nodes of its `else` part
else_body : (v : List (List ℕ)) (room : ℕ) (in_range : Bool) (c : Control) (other : NodesData) → Body (v ++ else_names c) room in_range false other → ElseBody v room in_range c other
else_body v room in_range c no_nodes body = record {
  fits = λ more fit. acted_fits (name (codes "end") ∷ []) more end_prints tt fit;
  reads = λ s r says. let e = acted_reads (name (codes "end") ∷ []) s r end_prints says in (no_else, (e.0, e.1, e.2, e.3, e.4, e.5), refl, tt);
}
else_body v room in_range c (node k l seams first other rest) body =
    let nodes = node k l seams first other rest in
    let ps = nodes_pieces nodes in
    let end = word_pieces (codes "end") in
    record {
      fits = λ more fit.
          let inside : FitOut (ps ++ (end ++ more)) = body.fits (end ++ more) tt (acted_fits (name (codes "end") ∷ []) more end_prints tt fit) in
          acted_fits (name (codes "else") ∷ []) ((ps ++ end) ++ more) else_prints tt (subst FitOut (sym (append_assoc ps end more)) inside);
      reads = λ s r says.
          let h = says_split (word_pieces (codes "else")) (ps ++ end) s r says in
          let k = says_split ps end h.0 r h.2 in
          let opening = acted_reads (name (codes "else") ∷ []) s h.0 else_prints h.1 in
          let one = body.reads h.0 k.0 k.1 in
          let e = acted_reads (name (codes "end") ∷ []) k.0 r end_prints k.2 in
          (otherwise one.0, (opening.0, opening.1, opening.2, h.0, k.0, opening.3, opening.4, opening.5, one.1, (e.0, e.1, e.2, e.3, e.4, e.5)), one.2, one.3);
    }

-- a text, and what follows
text_reads : (bytes : List ℕ) (s r : List Symbol) → Says (words bytes ∷ []) s r → (line : ℕ) × (seams : List Seam) × StandsOn (kind.Text bytes seams) line s r
text_reads bytes [] r says = absurd says
text_reads bytes (x ∷ s) r says = (x.line, says.0.0, (says.0.1, refl, says.1))

text_pieces : (bytes : List ℕ) (line : ℕ) (seams : List Seam) (rest : NodesData) (b : Bool) → begins_text rest ≡ b
    → nodes_pieces (node (node_kind.Text bytes) line seams no_nodes no_nodes rest) ≡ (words bytes ∷ []) ++ (parting_pieces true b ++ nodes_pieces rest)
text_pieces bytes line seams rest b e = ap (λ (x : Bool). (words bytes ∷ []) ++ (parting_pieces true x ++ nodes_pieces rest)) e

-- a blank definition
abbrev blank : List Piece
blank = action_pieces (name (codes "define") ∷ string_piece [] ∷ []) ++ word_pieces (codes "end")

parted_body : (v : List (List ℕ)) (room : ℕ) (in_range : Bool) (bytes : List ℕ) (line : ℕ) (seams : List Seam) (rest : NodesData) → bytes ≢ [] → begins_text rest ≡ true
    → Body v room in_range true rest → Body v room in_range true (node (node_kind.Text bytes) line seams no_nodes no_nodes rest)
parted_body v room in_range bytes line seams rest some begins body =
    let a = action_pieces (name (codes "define") ∷ string_piece [] ∷ []) in
    let e = word_pieces (codes "end") in
    let g = nodes_pieces rest in
    outer_by (nodes_pieces (node (node_kind.Text bytes) line seams no_nodes no_nodes rest)) ((words bytes ∷ []) ++ (a ++ (e ++ g))) (text_pieces bytes line seams rest true begins)
    (record {
      fits = λ more head fit. (some, tt, acted_fits (name (codes "define") ∷ string_piece [] ∷ []) (e ++ (g ++ more)) define_prints tt (acted_fits (name (codes "end") ∷ []) (g ++ more) end_prints tt (body.fits more head fit)));
      reads = λ s r says.
          let h = says_split (words bytes ∷ []) (a ++ (e ++ g)) s r says in
          let k = says_split a (e ++ g) h.0 r h.2 in
          let l = says_split e g k.0 r k.2 in
          let t = text_reads bytes s h.0 h.1 in
          let opening = acted_reads (name (codes "define") ∷ string_piece [] ∷ []) h.0 k.0 define_prints k.1 in
          let closing = acted_reads (name (codes "end") ∷ []) k.0 l.0 end_prints l.1 in
          let more = body.reads l.0 r l.2 in
          let defining = stands_on (kind.Word word.Define) opening.1 opening.4.0 opening.4.1 in
          let ends = body_end opening.5.0 closing.3.0 closing.3.1 in (
            text bytes t.0 t.1 (define [] defining.0 no_forms ends more.0),
            (
              h.0,
              t.2,
              (
                opening.1,
                opening.4.0,
                opening.2,
                k.0,
                k.0,
                l.0,
                opening.0,
                opening.5.0,
                refl,
                opening.3,
                defining.1,
                opening.4.2,
                opening.5.1,
                refl,
                (closing.3.0, closing.3.1, closing.0, closing.1, closing.2, closing.3.2, closing.4, closing.5, refl),
                more.1,
              ),
            ),
            ap (λ (w : NodesData). node (node_kind.Text bytes) 1 [] no_nodes no_nodes w) more.2,
            (refl, more.3),
          );
    })

alone_body : (v : List (List ℕ)) (room : ℕ) (in_range top : Bool) (bytes : List ℕ) (line : ℕ) (seams : List Seam) (rest : NodesData) → bytes ≢ [] → begins_text rest ≡ false
    → Body v room in_range top rest → Body v room in_range top (node (node_kind.Text bytes) line seams no_nodes no_nodes rest)
alone_body v room in_range top bytes line seams rest some begins body =
    outer_by (nodes_pieces (node (node_kind.Text bytes) line seams no_nodes no_nodes rest)) ((words bytes ∷ []) ++ nodes_pieces rest) (text_pieces bytes line seams rest false begins)
    (record {
      fits = λ more head fit. (some, nodes_head rest more begins head, body.fits more head fit);
      reads = λ s r says.
          let h = says_split (words bytes ∷ []) (nodes_pieces rest) s r says in
          let t = text_reads bytes s h.0 h.1 in
          let more = body.reads h.0 r h.2 in
          (text bytes t.0 t.1 more.0, (h.0, t.2, more.1), ap (λ (w : NodesData). node (node_kind.Text bytes) 1 [] no_nodes no_nodes w) more.2, more.3);
    })

text_body : (v : List (List ℕ)) (room : ℕ) (in_range top : Bool) (bytes : List ℕ) (line : ℕ) (seams : List Seam) (rest : NodesData) → bytes ≢ [] → (begins_text rest ≡ true → top ≡ true)
    → Body v room in_range top rest → Body v room in_range top (node (node_kind.Text bytes) line seams no_nodes no_nodes rest)
text_body v room in_range true bytes line seams rest some allowed body = either (begins_text rest)
    (λ t. parted_body v room in_range bytes line seams rest some t body)
    (λ f. alone_body v room in_range true bytes line seams rest some f body)
text_body v room in_range false bytes line seams rest some allowed body = either (begins_text rest)
    (λ t. absurd (true≢false (sym (allowed t))))
    (λ f. alone_body v room in_range false bytes line seams rest some f body)

-- after a text there is a text only at the top, where a definition may stand between
action_no_text : (v : List (List ℕ)) (room : ℕ) (in_range : Bool) (what : NodeKind) (s e : List Symbol) → IsAction v room in_range what s e → is_text_node what ≡ false
action_no_text v room in_range (node_kind.Text bytes) s e h = absurd h
action_no_text v room in_range (node_kind.Action p) s e h = refl
action_no_text v room in_range (node_kind.Declare x p) s e h = refl
action_no_text v room in_range (node_kind.Assign x p) s e h = refl
action_no_text v room in_range (node_kind.If x p) s e h = refl
action_no_text v room in_range (node_kind.With x p) s e h = refl
action_no_text v room in_range (node_kind.Range i x p) s e h = refl
action_no_text v room in_range node_kind.Break s e h = refl
action_no_text v room in_range node_kind.Continue s e h = refl
action_no_text v room in_range (node_kind.Template n p) s e h = refl

control_no_text : (c : Control) (p : Pipe) → is_text_node (node_kind_of c p) ≡ false
control_no_text (control_word.If x) p = refl
control_no_text (control_word.With x) p = refl
control_no_text (control_word.Range i x) p = refl

two_texts : (k l : SymbolKind) (bytes more : List ℕ) (seams others : List Seam) → k ≡ kind.Text bytes seams → l ≡ kind.Text more others → AreApart k l → ⊥
two_texts k l bytes more seams others e f h = let g : AreApart (kind.Text bytes seams) l = subst (λ (x : SymbolKind). AreApart x l) e h in subst (λ (x : SymbolKind). AreApart (kind.Text bytes seams) x) f g

text_behind : (k : SymbolKind) (bytes more : List ℕ) (seams others : List Seam) (line : ℕ) (s r : List Symbol) → k ≡ kind.Text bytes seams → IsApart k s → StandsOn (kind.Text more others) line s r → ⊥
text_behind k bytes more seams others line [] r e parted h = h
text_behind k bytes more seams others line (x ∷ s) r e parted h = two_texts k x.kind bytes more seams others e h.0 parted

adjacent : (v : List (List ℕ)) (room : ℕ) (in_range top : Bool) (more : Forms) (s e : List Symbol) (k : SymbolKind) (bytes : List ℕ) (seams : List Seam) → k ≡ kind.Text bytes seams → IsApart k s
    → AreForms v room in_range top more s e → begins_text (form_nodes more) ≡ true → top ≡ true
adjacent v room in_range top no_forms s e k bytes seams is parted h begins = absurd (true≢false (sym begins))
adjacent v room in_range top (text others line breaks more) s e k bytes seams is parted h begins = absurd (text_behind k bytes others seams breaks line s h.0 is parted h.1)
adjacent v room in_range top (action what line more) s e k bytes seams is parted h begins = absurd (true≢false (sym begins ∙ action_no_text v room in_range what h.0 h.1 h.4))
adjacent v zero in_range top (control c p line first later more) s e k bytes seams is parted h begins = absurd h
adjacent v (suc room) in_range top (control c p line first later more) s e k bytes seams is parted h begins = absurd (true≢false (sym begins ∙ control_no_text c p))
adjacent v room in_range top (block n p line word_line body ends more) s e k bytes seams is parted h begins = absurd (true≢false (sym begins))
adjacent v room in_range top (define n word_line body ends more) s e k bytes seams is parted h begins = h.8

-- a text that stands here, and what is sound after it
record Standing (bytes : List ℕ) (seams : List Seam) (r : List Symbol) : Type 0 where
  some : bytes ≢ []
  what : SymbolKind
  is : what ≡ kind.Text bytes seams
  parted : IsApart what r
  sound : Sound r

standing : (bytes : List ℕ) (seams : List Seam) (line : ℕ) (s r : List Symbol) → StandsOn (kind.Text bytes seams) line s r → Sound s → Standing bytes seams r
standing bytes seams line [] r h sound = absurd h
standing bytes seams line (x ∷ s) r h sound = record { some = subst IsSound h.0 sound.0; what = x.kind; is = h.0; parted = subst (IsApart x.kind) h.2 sound.1; sound = subst Sound h.2 sound.2 }

append_nil : (v : List (List ℕ)) → v ++ [] ≡ v
append_nil [] = refl
append_nil (x ∷ v) = ap (λ (xs : List (List ℕ)). x ∷ xs) (append_nil v)

-- an `if` in an `else` part leaves a `range` as it is
same_range : (v : List (List ℕ)) (room : ℕ) (in_range : Bool) (d : Control) (first : NodesData) → IsIf d → Body (v ++ first_names d) room in_range false first → Body (v ++ first_names d) room (is_range d || in_range) false first
same_range v room in_range (control_word.If x) first h body = body
same_range v room in_range (control_word.With x) first h body = absurd h
same_range v room in_range (control_word.Range i x) first h body = absurd h

mutual
  pub forms_print : (v : List (List ℕ)) (room more_room : ℕ) (in_range top more_top : Bool) (f : Forms) (s e : List Symbol) → room ≤ more_room → (top ≡ true → more_top ≡ true)
      → AreForms v room in_range top f s e → Sound s → Body v more_room in_range more_top (form_nodes f) × Sound e
  forms_print v room more_room in_range top more_top no_forms s e le up h sound = (empty_body v more_room in_range more_top, subst Sound h sound)
  forms_print v room more_room in_range top more_top (text bytes line seams more) s e le up h sound =
      let t = standing bytes seams line s h.0 h.1 sound in
      let rest = forms_print v room more_room in_range top more_top more h.0 e le up h.2 t.sound in
      (text_body v more_room in_range more_top bytes line seams (form_nodes more) t.some (λ begins. up (adjacent v room in_range top more h.0 e t.what bytes seams t.is t.parted h.2 begins)) rest.0, rest.1)
  forms_print v room more_room in_range top more_top (action what line more) s e le up h sound =
      let acts = action_prints v room more_room in_range what h.0 h.1 le h.4 (opens_sound line s h.0 h.3 sound) in
      let rest = forms_print (v ++ declared_by_form what) room more_room in_range top more_top more h.2 e le up h.6 (closes_sound h.1 h.2 h.5 acts.inner.sound) in
      (act_body v more_room in_range more_top what line (form_nodes more) h.1 acts rest.0, rest.1)
  forms_print v zero more_room in_range top more_top (control c p line first later more) s e le up h sound = absurd h
  forms_print v (suc room) zero in_range top more_top (control c p line first later more) s e le up h sound = absurd (omega (arith, le))
  forms_print v (suc room) (suc more_room) in_range top more_top (control c p line first later more) s e le up h sound =
      let inner = control_prints v room more_room c p h.0 h.1 (omega (arith, le)) h.6 (opens_sound line s h.0 h.5 sound) in
      let part = forms_print (v ++ first_names c) room more_room (is_range c || in_range) false false first h.2 h.3 (omega (arith, le)) (λ x. x) h.8 (closes_sound h.1 h.2 h.7 inner.sound) in
      let behind = else_print v room more_room in_range c later h.3 h.4 (omega (arith, le)) h.9 part.1 in
      let rest = forms_print v (suc room) (suc more_room) in_range top more_top more h.4 e le up h.10 behind.1 in
      (control_body v more_room in_range more_top c p line (form_nodes first) (else_nodes later) (form_nodes more) h.1 inner part.0 behind.0 rest.0, rest.1)
  forms_print v room more_room in_range top more_top (block n p line word_line body ends more) s e le up h sound =
      let worded = stands_on_sound (kind.Word word.Block) word_line h.0 h.1 h.9 (opens_sound line s h.0 h.8 sound) in
      let named = stands_sound (kind.Str n) h.1 h.2 h.10 worded.1 in
      let acts = block_prints v room more_room in_range n p h.2 h.3 le h.11 named.1 in
      let closed = stands_sound (kind.Close h.7) h.3 h.4 h.12 acts.inner.sound in
      let inside = forms_print [] room room false false false body h.4 h.5 (omega arith) (λ x. x) h.13 closed.1 in
      let rest = forms_print v room more_room in_range top more_top more h.6 e le up h.15 (ends_body_sound h.7 ends h.5 h.6 h.14 inside.1) in
      (act_body v more_room in_range more_top (node_kind.Template n (Some p)) line (form_nodes more) h.3 acts (subst (λ (w : List (List ℕ)). Body w more_room in_range more_top (form_nodes more)) (sym (append_nil v)) rest.0), rest.1)
  forms_print v room more_room in_range top more_top (define n word_line body ends more) s e le up h sound =
      let worded = stands_on_sound (kind.Word word.Define) word_line h.0 h.1 h.10 (opens_sound h.6 s h.0 h.9 sound) in
      let named = stands_sound (kind.Str n) h.1 h.2 h.11 worded.1 in
      let closed = stands_sound (kind.Close h.7) h.2 h.3 h.12 named.1 in
      let inside = forms_print [] room room false false false body h.3 h.4 (omega arith) (λ x. x) h.13 closed.1 in
      forms_print v room more_room in_range top more_top more h.5 e le up h.15 (ends_body_sound h.7 ends h.4 h.5 h.14 inside.1)

  else_print : (v : List (List ℕ)) (room more_room : ℕ) (in_range : Bool) (c : Control) (later : Else) (s e : List Symbol) → room ≤ more_room → IsElse v room in_range c later s e → Sound s
      → ElseBody v more_room in_range c (else_nodes later) × Sound e
  else_print v room more_room in_range c no_else s e le h sound = (else_body v more_room in_range c no_nodes (empty_body (v ++ else_names c) more_room in_range false), end_sound s e h sound)
  else_print v room more_room in_range c (otherwise f) s e le h sound =
      let worded = stands_sound (kind.Word word.Else) h.1 h.2 h.6 (opens_sound h.0 s h.1 h.5 sound) in
      let part = forms_print (v ++ else_names c) room more_room in_range false false f h.3 h.4 le (λ x. x) h.8 (closes_sound h.2 h.3 h.7 worded.1) in
      (else_body v more_room in_range c (form_nodes f) part.0, end_sound h.4 e h.9 part.1)
  else_print v zero more_room in_range c (else_if d p line first later) s e le h sound = absurd h
  else_print v (suc room) zero in_range c (else_if d p line first later) s e le h sound = absurd (omega (arith, le))
  else_print v (suc room) (suc more_room) in_range c (else_if d p line first later) s e le h sound =
      let w = v ++ else_names c in
      let worded = stands_sound (kind.Word word.Else) h.0 h.1 h.8 (opens_sound line s h.0 h.7 sound) in
      let inner = control_prints w room more_room d p h.1 h.2 (omega (arith, le)) h.9 worded.1 in
      let part = forms_print (w ++ first_names d) room more_room in_range false false first h.3 h.4 (omega (arith, le)) (λ x. x) h.11 (closes_sound h.2 h.3 h.10 inner.sound) in
      let behind = else_print w room more_room in_range d later h.4 e (omega (arith, le)) h.12 part.1 in (
        else_body v (suc more_room) in_range c (node (node_kind_of d p) line [] (form_nodes first) (else_nodes later) no_nodes)
            (control_body w more_room in_range false d p line (form_nodes first) (else_nodes later) no_nodes h.2 inner (same_range w more_room in_range d (form_nodes first) h.6 part.0) behind.0 (empty_body w (suc more_room) in_range false)),
        behind.1,
      )
