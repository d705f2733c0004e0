use Rattle.std.proofs.Common.{◌≡◌, [], drop}
use Rattle.page_io.specs.FolderContents.{names_in}
use Rattle.page_io.proofs.files.names_in.Given as goal

abbrev pub invariant-loop-file : goal.invariant-loop-file
invariant-loop-file l = names_in (drop l.file-index l.files) l.dir l.names.keys ≡ names_in l.files l.dir []
