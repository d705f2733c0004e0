-- The tokens of the content of an element that has no tags in it.
use Rattle.std.specs.Prelude.{ℕ, ◌+◌, nat_lt, nat_eq, codes, List, [], ◌∷◌, ◌++◌, if◌then◌else◌}
use Rattle.std.specs.List.{starts_with}
use Rattle.page_piece.specs.declared.piece.Piece.{Piece}
use Rattle.page_script.specs.ScriptPieces.{script_pieces_of}
use Rattle.page_style.specs.Reading.{style_pieces_of}
use Rattle.place_core.specs.declared.element.Element.{Element}
use Rattle.place_core.specs.declared.element.Element.TheVariants as element
use Rattle.page_lexer.specs.Characters.{shown_text}
use Rattle.page_lexer.specs.Parts.{part}
use Rattle.page_lexer.specs.declared.token.PageToken.{PageToken}
use Rattle.page_lexer.specs.declared.token.What.{What}
use Rattle.page_lexer.specs.declared.token.What.TheVariants as what

abbrev pub one_token : ℕ → ℕ → What → List PageToken
one_token from to w = record { from = from; to = to; what = w } ∷ []

-- a text, where it is not empty
abbrev pub text_tokens : ℕ → ℕ → List PageToken
text_tokens from to = if nat_lt from to then one_token from to what.Text else []

-- a script and a style, where it has a piece
abbrev pub script_token : ℕ → ℕ → List Piece → List PageToken
script_token from to [] = []
script_token from to (p ∷ ps) = one_token from to (what.Script (p ∷ ps))

abbrev pub script_tokens : List ℕ → ℕ → ℕ → List PageToken
script_tokens page from to = script_token from to (script_pieces_of (shown_text (part page from to)))

abbrev pub style_token : ℕ → ℕ → List Piece → List PageToken
style_token from to [] = []
style_token from to (p ∷ ps) = one_token from to (what.Style (p ∷ ps))

abbrev pub style_tokens : List ℕ → ℕ → ℕ → List PageToken
style_tokens page from to = style_token from to (style_pieces_of (shown_text (part page from to)))

-- each `<!--` in bytes that begin at a place (script data escaped states)
abbrev pub escapes : ℕ → List ℕ → List PageToken
escapes at [] = []
escapes at (b ∷ bs) = if starts_with nat_eq (b ∷ bs) (codes "<!--") then one_token at (at + 4) what.Escape ++ escapes (at + 1) bs else escapes (at + 1) bs

-- a content that is not empty: text, the pieces of a language, or a block; and then each `<!--` of a script or a block
abbrev pub some_content : List ℕ → Element → ℕ → ℕ → List PageToken
some_content page element.Title from to = one_token from to what.Text
some_content page element.Textarea from to = one_token from to what.Text
some_content page element.Style from to = style_tokens page from to
some_content page element.Script from to = script_tokens page from to ++ escapes from (part page from to)
some_content page element.DataBlock from to = one_token from to what.Block ++ escapes from (part page from to)
some_content page element.Other from to = []

abbrev pub content_tokens : List ℕ → Element → ℕ → ℕ → List PageToken
content_tokens page e from to = if nat_lt from to then some_content page e from to else []
