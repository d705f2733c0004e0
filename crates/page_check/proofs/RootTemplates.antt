-- Each root has a template.
use Rattle.std.proofs.Common.{◌≡◌, ℕ, suc, Bool, true, false, ◌||◌, ◌&&◌, not, nat_eq, List, [], ◌∷◌, ◌++◌, bytes_eq, option_map, Option, Some, None, refl, sym, ap, ◌∙◌, subst}
use Rattle.std.proofs.lemmas.Cmp.{nat_list_eq_equiv}
use Rattle.std.proofs.lemmas.List.{map-append}
use Rattle.std.proofs.lemmas.List.Folds.{find-append}
use Rattle.std.specs.Cmp.Lexicographic.{bytes_decides, pointwise}
use Rattle.std.specs.Option.{option_or, is_some}
use Rattle.page_check.specs.Definitions.{HaveDefs, IsForestOf}
use Rattle.page_check.specs.Roots.{is_partial, is_root}
use Rattle.page_datum.specs.declared.files.NamedFile.{NamedFile}
use Rattle.tpl_build.specs.Building.{def_of, found_of}
use Rattle.tpl_parse.specs.Endings.{defs_of}
use Rattle.tpl_parse.specs.Files.{IsFile, file_last_line}
use Rattle.tpl_parse.specs.Forms.{found_in, is_blank, form_nodes}
use Rattle.tpl_build.specs.Gathering.{first_named, has_name, last_full}
use Rattle.tpl_build.specs.declared.definition.Def.{Def}
use Rattle.tpl_tree.specs.Forests.{ForestData, number_named, tree_named}
use Rattle.tpl_tree.specs.Trees.{TreeData}

-- some definition has a name
abbrev IsDefined : List ℕ → List Def → Type 0
IsDefined name defs = is_some (first_named name defs) ≡ true

left : {X : Type 0} (a b : Option X) → is_some a ≡ true → is_some (option_or a b) ≡ true
left None b e = cc
left (Some x) b e = refl

right : {X : Type 0} (a b : Option X) → is_some b ≡ true → is_some (option_or a b) ≡ true
right None b e = e
right (Some x) b e = refl

defined_left : (name : List ℕ) (a b : List Def) → IsDefined name a → IsDefined name (a ++ b)
defined_left name a b h = ap is_some (find-append (has_name name) a b) ∙ left (first_named name a) (first_named name b) h

defined_right : (name : List ℕ) (a b : List Def) → IsDefined name b → IsDefined name (a ++ b)
defined_right name a b h = ap is_some (find-append (has_name name) a b) ∙ right (first_named name a) (first_named name b) h

own_name : (d : Def) → IsDefined d.name (d ∷ [])
own_name d = rw (nat_list_eq_equiv.refl d.name) refl

-- a file defines its own name
own_body : (name text : List ℕ) (defs : List Def) → IsFile name text defs → IsDefined name defs
own_body name text defs f =
    let own : Def = def_of name (is_blank f.forms) (form_nodes f.forms) (file_last_line text) in
    let all : defs_of (found_in f.forms) ++ own ∷ [] ≡ defs = sym (map-append (λ d. d.def) (found_in f.forms) (found_of own 1 ∷ [])) ∙ f.all in
    subst (IsDefined name) all (defined_right name (defs_of (found_in f.forms)) (own ∷ []) (own_name own))

and_left : (a b : Bool) → (a && b) ≡ true → a ≡ true
and_left true b e = refl
and_left false b e = cc

-- the test of a name at the first file, before those after it
at_first : (name : List ℕ) (file : NamedFile) (files : List NamedFile) (all : List Def) (b : Bool) → (pointwise nat_eq file.name name && not (is_partial file.name)) ≡ b → (b || is_root files name) ≡ true
    → ((rest : List Def) → is_root files name ≡ true → HaveDefs files rest → IsDefined name rest) → HaveDefs (file ∷ files) all → IsDefined name all
at_first name file files all true e h later have =
    let same : file.name ≡ name = (bytes_decides file.name name).0 (and_left (pointwise nat_eq file.name name) (not (is_partial file.name)) e) in
    let own : IsDefined name have.0 = subst (λ (n : List ℕ). IsDefined n have.0) same (own_body file.name file.bytes have.0 have.2.is) in
    subst (IsDefined name) (sym have.4) (defined_left name have.0 have.1 own)
at_first name file files all false e h later have = subst (IsDefined name) (sym have.4) (defined_right name have.0 have.1 (later have.1 h have.3))

root_defined : (name : List ℕ) (files : List NamedFile) (all : List Def) → is_root files name ≡ true → HaveDefs files all → IsDefined name all
root_defined name [] all h have = cc
root_defined name (file ∷ files) all h have =
    at_first name file files all (pointwise nat_eq file.name name && not (is_partial file.name)) refl h (λ rest i more. root_defined name files rest i more) have

-- what is defined stands
last_or_first : (o p : Option Def) → is_some p ≡ true → is_some (option_map (λ (d : Def). d.tree) (option_or o p)) ≡ true
last_or_first None None h = cc
last_or_first None (Some d) h = refl
last_or_first (Some d) p h = refl

-- a tree has a number
pub record IsNumbered (name : List ℕ) (forest : ForestData) : Type 0 where
  pub number : ℕ
  pub is : number_named name forest ≡ Some number

one_more : (o : Option ℕ) (n : ℕ) → o ≡ Some n → option_map suc o ≡ Some (suc n)
one_more o n e = ap (option_map suc) e

numbered_by : (name : List ℕ) (t : List ℕ × TreeData) (forest : ForestData) (b : Bool) → bytes_eq t.0 name ≡ b → (is_some (tree_named name forest) ≡ true → IsNumbered name forest) → is_some (tree_named name (t ∷ forest)) ≡ true
    → IsNumbered name (t ∷ forest)
numbered_by name t forest true e later h = record { number = 0; is = rw e refl }
numbered_by name t forest false e later h =
    let there = later (rw e at h) in
    record { number = suc there.number; is = rw e (one_more (number_named name forest) there.number there.is) }

numbered : (name : List ℕ) (forest : ForestData) → is_some (tree_named name forest) ≡ true → IsNumbered name forest
numbered name [] h = cc
numbered name (t ∷ forest) h = numbered_by name t forest (bytes_eq t.0 name) refl (numbered name forest) h

-- a root is a template
pub root_numbered : (name : List ℕ) (files : List NamedFile) (forest : ForestData) → is_root files name ≡ true → IsForestOf files forest → IsNumbered name forest
root_numbered name files forest h is =
    let defined : IsDefined name is.defs = root_defined name files is.defs h is.have in
    numbered name forest (ap is_some (is.standing name) ∙ last_or_first (last_full name is.defs) (first_named name is.defs) defined)
