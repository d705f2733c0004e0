-- The grammar of formats (Go's package `fmt`, "Printing", in a profile): a format is pieces, and makes the text that they make.
use Rattle.std.specs.Prelude.{◌≡◌, ℕ, List, [], ◌∷◌, ◌++◌, Option, Some, None, option_map}
use Rattle.page_datum.specs.Data.{Data, text}
use Rattle.tpl_format.specs.Operands.{operand_text}
use Rattle.tpl_format.specs.Spelling.{IsVerb, times}
use Rattle.tpl_format.specs.declared.verb.Verb.{Verb}
use Rattle.tpl_format.specs.declared.verb.Conversion.{Conversion}

-- bytes that stand for themselves, `%%`, or a verb by its flags, its width and its letter
pub data FormatPiece : Type 0 where
  plain : List ℕ → FormatPiece
  percent : FormatPiece
  operand : Verb → Conversion → FormatPiece

-- bytes are this piece and a rest: plain bytes have no `%`, and a verb is `%` and what it is spelled as
abbrev pub PieceBegins : FormatPiece → List ℕ → List ℕ → Type 0
PieceBegins (plain front) bytes rest = (times 37 front ≡ 0) × (bytes ≡ front ++ rest)
PieceBegins percent bytes rest = bytes ≡ 37 ∷ 37 ∷ rest
PieceBegins (operand verb conversion) bytes rest = (behind : List ℕ) × (bytes ≡ 37 ∷ behind) × IsVerb verb conversion behind rest

-- bytes are these pieces, one after another
abbrev pub ArePieces : List FormatPiece → List ℕ → Type 0
ArePieces [] bytes = bytes ≡ []
ArePieces (piece ∷ pieces) bytes = (rest : List ℕ) × PieceBegins piece bytes rest × ArePieces pieces rest

-- a text and the one after it, where there are both
abbrev pub joined_pieces : Option (List ℕ) → Option (List ℕ) → Option (List ℕ)
joined_pieces None behind = None
joined_pieces (Some front) behind = option_map (λ more. front ++ more) behind

-- the text that pieces make of operands: each verb prints the next operand, which fits it, and none is missing or left over
abbrev pub pieces_text : List FormatPiece → List Data → Option (List ℕ)
pieces_text [] [] = Some []
pieces_text [] (datum ∷ left) = None
pieces_text (plain front ∷ pieces) left = joined_pieces (Some front) (pieces_text pieces left)
pieces_text (percent ∷ pieces) left = joined_pieces (Some (37 ∷ [])) (pieces_text pieces left)
pieces_text (operand verb conversion ∷ pieces) [] = None
pieces_text (operand verb conversion ∷ pieces) (datum ∷ left) = joined_pieces (operand_text verb conversion datum) (pieces_text pieces left)

-- arguments make a text: the first is a format, and its pieces make the text of the others
pub record Makes (args : List Data) (made : List ℕ) : Type 0 where
  pub format : List ℕ
  pub operands : List Data
  pub pieces : List FormatPiece
  pub are : args ≡ text format ∷ operands
  pub read : ArePieces pieces format
  pub makes : pieces_text pieces operands ≡ Some made
