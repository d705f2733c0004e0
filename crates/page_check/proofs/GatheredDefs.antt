-- The definitions of files, with those of one file more.
use Rattle.std.proofs.Common.{◌≡◌, ℕ, suc, ◌+◌, ◌<◌, List, [], ◌∷◌, ◌++◌, length, get_or, take, drop, refl, sym, ap, ◌∙◌, append_assoc}
use Rattle.std.proofs.lemmas.Grind.{flat_map-append}
use Rattle.std.proofs.lemmas.List.{append-nil, take_more, take-append-drop}
use Rattle.std.proofs.Math.Seq.{drop-cons}
use Rattle.page_check.specs.Definitions.{HasDefs, HaveDefs}
use Rattle.page_check.specs.Refusing.{IsFileRefused, IsFirstRefused}
use Rattle.page_check.specs.declared.refused.MakeRefused.{MakeRefused}
use Rattle.page_datum.specs.declared.files.NamedFile.{NamedFile}
use Rattle.tpl_build.specs.Gathering.{all_defs}
use Rattle.tpl_build.specs.declared.definition.Def.{Def}
use Rattle.tpl_build.specs.declared.definition.File.{File}

have_more : (files : List NamedFile) (file : NamedFile) (all defs : List Def) → HaveDefs files all → HasDefs file defs → HaveDefs (files ++ file ∷ []) (all ++ defs)
have_more [] file all defs e h = (defs, [], h, refl, ap (λ (ds : List Def). ds ++ defs) e ∙ sym (append-nil defs))
have_more (x ∷ files) file all defs have h =
    (have.0, have.1 ++ defs, have.2, have_more files file have.1 defs have.3 h, ap (λ (ds : List Def). ds ++ defs) have.4 ∙ append_assoc have.0 have.1 defs)

-- one turn of reading files
pub read_more : (files : List NamedFile) (file : NamedFile) (i : ℕ) (read : List File) (one : File) → i < length files → get_or files i file ≡ file → HaveDefs (take i files) (all_defs read) → HasDefs file one.defs
    → HaveDefs (take (i + 1) files) (all_defs (read ++ one ∷ []))
read_more files file i read one lt is have h =
    let front : take (i + 1) files ≡ take i files ++ file ∷ [] = take_more files i file lt ∙ ap (λ (x : NamedFile). take i files ++ x ∷ []) is in
    let all : all_defs (read ++ one ∷ []) ≡ all_defs read ++ one.defs = flat_map-append (λ (f : File). f.defs) read (one ∷ []) ∙ ap (λ (ds : List Def). all_defs read ++ ds) (append-nil one.defs) in
    rw (front, all) (have_more (take i files) file (all_defs read) one.defs have h)

-- likewise, in which the file is refused
pub refused_there : (files : List NamedFile) (file : NamedFile) (i : ℕ) (all : List Def) (why : MakeRefused) → i < length files → get_or files i file ≡ file → HaveDefs (take i files) all → IsFileRefused file why → IsFirstRefused files why
refused_there files file i all why lt is have cause =
    let rest : drop i files ≡ file ∷ drop (suc i) files = drop-cons files i file lt ∙ ap (λ (x : NamedFile). x ∷ drop (suc i) files) is in
    record {
      before = take i files;
      file = file;
      after = drop (suc i) files;
      split = sym (take-append-drop i files) ∙ ap (λ (xs : List NamedFile). take i files ++ xs) rest;
      defs = all;
      fine = have;
      cause = cause;
    }
