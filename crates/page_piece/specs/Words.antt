-- The words by which a listing of tokens names the kinds of pieces.
use Rattle.std.specs.Prelude.{ℕ, codes, List}
use Rattle.page_piece.specs.declared.piece.PieceKind.{PieceKind}
use Rattle.page_piece.specs.declared.piece.PieceKind.TheVariants as kind

abbrev pub kind_word : PieceKind → List ℕ
kind_word kind.Word = codes "word"
kind_word kind.Number = codes "number"
kind_word kind.String = codes "string"
kind_word kind.BadString = codes "badstring"
kind_word kind.Comment = codes "comment"
kind_word kind.Punct = codes "punct"
kind_word kind.Template = codes "template"
kind_word kind.Regexp = codes "regexp"
kind_word kind.Plain = codes "plain"
kind_word kind.Url = codes "url"
kind_word kind.Unfinished = codes "unfinished"
