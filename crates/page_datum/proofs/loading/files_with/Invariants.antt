use Rattle.std.proofs.Common.{◌≡◌, ◌≤◌, ◌++◌, drop}
use Rattle.std.specs.Prelude.{IfSome}
use Rattle.page_datum.specs.TemplateFiles.{files_in}
use Rattle.page_datum.proofs.loading.files_with.Given as goal

abbrev pub invariant-loop-name : goal.invariant-loop-name
invariant-loop-name g l = record {
  files : IfSome (g.F.Folder.held l.fn.folder) (λ held.
      l.list ++ files_in held l.dir (drop l.name-index l.names) ≡ files_in held l.dir l.names);
  kept : g.F.Folder.held l.folder ≡ g.F.Folder.held l.fn.folder;
  later : g.F.Folder.faults l.fn.folder ≤ g.F.Folder.faults l.folder;
}
