use Rattle.std.proofs.Common.{◌≡◌, drop}
use Rattle.page_io.specs.FolderContents.{content_in}
use Rattle.page_io.proofs.files.content_in.Given as goal

abbrev pub invariant-loop-file : goal.invariant-loop-file
invariant-loop-file l = content_in (drop l.file-index l.files) l.dir l.name ≡ content_in l.files l.dir l.name
