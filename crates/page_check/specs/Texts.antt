-- Which files are texts.
use Rattle.std.specs.Prelude.{◌≤◌, length}
use Rattle.std.specs.Str.{IsUtf8}
use Rattle.page_datum.specs.TemplateFiles.{max_file}
use Rattle.page_datum.specs.declared.files.NamedFile.{NamedFile}

-- a file within the limit, of UTF-8
pub record IsFileText (file : NamedFile) : Type 0 where
  pub fits : length file.bytes ≤ max_file
  pub utf8 : IsUtf8 file.bytes
