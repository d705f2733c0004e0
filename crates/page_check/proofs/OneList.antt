-- Files have one list of definitions, and then none of them is refused.
use Rattle.std.proofs.Common.{◌≡◌, List, [], ◌∷◌, ◌++◌, sym, ap, ◌∙◌, subst, arith}
use Rattle.page_check.proofs.OneForest.{one_forest}
use Rattle.page_check.specs.Definitions.{HasDefs, HaveDefs, IsForestOf}
use Rattle.page_check.specs.Refusing.{IsFileRefused, IsFirstRefused}
use Rattle.page_check.specs.declared.refused.MakeRefused.{MakeRefused}
use Rattle.page_check.specs.declared.refused.MakeRefused.TheVariants.{TooLarge, NotUtf8, File, TooManyTemplates, NoTemplates, Set, Memory}
use Rattle.page_datum.specs.declared.files.NamedFile.{NamedFile}
use Rattle.tpl_parse.proofs.OneFile.{file_not_refused, one_of}
use Rattle.tpl_build.specs.Gathering.{standing_definitions}
use Rattle.tpl_build.specs.declared.definition.Def.{Def}
use Rattle.tpl_tree.specs.Forests.{ForestData}

pub one_list : (files : List NamedFile) (a b : List Def) → HaveDefs files a → HaveDefs files b → a ≡ b
one_list [] a b h k = h ∙ sym k
one_list (file ∷ files) a b h k =
    let first : h.0 ≡ k.0 = one_of file.name file.bytes h.0 k.0 h.2.is k.2.is in
    let more : h.1 ≡ k.1 = one_list files h.1 k.1 h.3 k.3 in
    h.4 ∙ ap (λ (ds : List Def). ds ++ h.1) first ∙ ap (λ (ds : List Def). k.0 ++ ds) more ∙ sym k.4

-- likewise, and so one forest
pub one_set : (files : List NamedFile) (f g : ForestData) → IsForestOf files f → IsForestOf files g → f ≡ g
one_set files f g a b = one_forest f g a.ascend b.ascend (λ name. a.standing name ∙ ap (standing_definitions name) (one_list files a.defs b.defs a.have b.have) ∙ sym (b.standing name))

-- each file among others has its definitions
defs_at : (before after : List NamedFile) (file : NamedFile) (all : List Def) → HaveDefs (before ++ file ∷ after) all → (defs : List Def) × HasDefs file defs
defs_at [] after file all h = (h.0, h.2)
defs_at (x ∷ before) after file all h = defs_at before after file h.1 h.3

one_fine : (file : NamedFile) (defs : List Def) (why : MakeRefused) → HasDefs file defs → IsFileRefused file why → ⊥
one_fine file defs (TooLarge name) h r = (let fits = h.text.fits in let many = r.1 in omega (arith, fits, many))
one_fine file defs (NotUtf8 name) h r = r.2 h.text.utf8
one_fine file defs (File name why) h r = file_not_refused file.name file.bytes defs why h.is r.2
one_fine file defs TooManyTemplates h r = r
one_fine file defs NoTemplates h r = r
one_fine file defs (Set why) h r = r
one_fine file defs Memory h r = r

-- files that have definitions are not refused
pub all_fine : (files : List NamedFile) (all : List Def) (why : MakeRefused) → HaveDefs files all → IsFirstRefused files why → ⊥
all_fine files all why h r =
    let d = defs_at r.before r.after r.file all (subst (λ (fs : List NamedFile). HaveDefs fs all) r.split h) in
    one_fine r.file d.0 why d.1 r.cause
