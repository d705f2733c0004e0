-- A tree that parsing gives is printed as a text that reads as it.
use Rattle.std.proofs.Common.{◌≡◌, ℕ, false, true, List, [], ◌∷◌, ◌++◌, None, refl, sym, ap, ◌∙◌, subst}
use Rattle.tpl_parse.specs.Endings.{defs_of, second_line}
use Rattle.tpl_parse.specs.Files.{file_last_line}
use Rattle.tpl_parse.specs.Forms.{form_nodes, is_blank, found_in}
use Rattle.tpl_build.specs.Building.{def_of, found_of}
use Rattle.tpl_parse.specs.Steps.{most_open}
use Rattle.tpl_build.specs.declared.definition.Def.{Def}
use Rattle.tpl_build.specs.declared.definition.FoundDefinition.{FoundDefinition}
use Rattle.tpl_print.proofs.FormPrints.{AllBlank, Body, forms_print}
use Rattle.tpl_print.proofs.Pieces.{Piece, nodes_pieces, FitOut}
use Rattle.tpl_print.proofs.Scan.{scanned}
use Rattle.tpl_print.proofs.Sound.{Sound}
use Rattle.tpl_print.proofs.Spelled.{spelled-nodes}
use Rattle.tpl_print.proofs.SymbolsSound.{symbols_sound, rest_sound}
use Rattle.tpl_print.specs.Parsed.{IsParsed, ParsesAs}
use Rattle.tpl_print.specs.Spelling.{nodes_text}
use Rattle.tpl_token.proofs.Marks.{either}
use Rattle.tpl_tree.specs.Trees.{NodesData}

nothing_behind : (ps : List Piece) → ps ++ [] ≡ ps
nothing_behind [] = refl
nothing_behind (p ∷ ps) = ap (λ (xs : List Piece). p ∷ xs) (nothing_behind ps)

-- of blank definitions no two have one name
single : (found : List FoundDefinition) (own : FoundDefinition) → AllBlank found → second_line [] (found ++ own ∷ []) ≡ None
single [] own h = either own.def.blank (λ t. rw t refl) (λ f. rw f refl)
single (f ∷ found) own h = rw h.0 (single found own h.1)

defs_after : (found : List FoundDefinition) (own : FoundDefinition) → defs_of (found ++ own ∷ []) ≡ defs_of found ++ own.def ∷ []
defs_after [] own = refl
defs_after (f ∷ found) own = ap (λ (defs : List Def). f.def ∷ defs) (defs_after found own)

body_reads : (nodes : NodesData) (text : List ℕ) → Body [] most_open false true nodes → text ≡ nodes_text false nodes → ParsesAs text nodes
body_reads nodes text body is name =
    let fits : FitOut (nodes_pieces nodes) = subst FitOut (nothing_behind (nodes_pieces nodes)) (body.fits [] tt tt) in
    let all = scanned text (nodes_pieces nodes) fits (is ∙ sym (spelled-nodes false nodes)) in
    let forms = body.reads _ [] all.says in
    let found = found_in forms.0 in
    let own : FoundDefinition = found_of (def_of name (is_blank forms.0) (form_nodes forms.0) (file_last_line text)) 1 in
    record {
      others = defs_of found;
      own = own.def;
      file = record { tokens = all.tokens; are_tokens = all.are; forms = forms.0; body = forms.1; single = single found own forms.3; all = defs_after found own };
      named = refl;
      same = forms.2;
    }

pub reads_back : (nodes : NodesData) (text : List ℕ) → text ≡ nodes_text false nodes → IsParsed nodes → ParsesAs text nodes
reads_back nodes text is h =
    let sound : Sound h.symbols = rest_sound h.front h.symbols (subst Sound h.among (symbols_sound h.text h.tokens h.are_tokens)) in
    let body = (forms_print [] h.room most_open false h.top true h.forms h.symbols h.rest h.bound (λ _. refl) h.are sound).0 in
    body_reads nodes text (subst (Body [] most_open false true) h.nodes_are body) is
