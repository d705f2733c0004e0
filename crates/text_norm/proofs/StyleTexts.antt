-- Small texts with styles in their element: what is written of them, and that a page reads it in the path's shape.
use Rattle.std.proofs.Common.{◌≡◌, codes, refl, List, [], ◌∷◌, ◌++◌, ℕ}
use Rattle.css_lexer.specs.Classes.{style_class}
use Rattle.place_core.specs.page.Classes.{class_of}
use Rattle.place_core.specs.page.Html.{read, start}
use Rattle.place_core.specs.page.Paths.{Written, read_node, read_path}
use Rattle.place_core.specs.page.References.{Closed, flushed, meaning}
use Rattle.place_core.specs.page.Shape.{shape_of}
use Rattle.place_core.specs.page.States.{LexState, Page, Text, config}
use Rattle.place_core.specs.page.Tags.{ValueState, languages}
use Rattle.text_norm.specs.Written.{written}
use Rattle.url_lexer.specs.Classes.{url_class_of}

abbrev from_text : List ℕ → List ℕ
from_text bytes = written languages bytes (Text Closed)

-- a comment is a space, and a `/` stays where it begins none
comment : from_text (codes "<style>a/* b **/c/**/</style>") ≡ codes "<style>a c </style>"
unfolding style_class class_of meaning flushed lib.Utf8.encode
comment = refl

solidus : from_text (codes "<style>a/b//**/c/</style>") ≡ codes "<style>a/b/ c/</style>"
unfolding style_class class_of meaning flushed lib.Utf8.encode
solidus = refl

-- none is in a string or in a URL, and behind a backslash none begins
no_comment : from_text (codes "<style>'/*'url(/*)\\/*</style>") ≡ codes "<style>'/*'url(/*)\\/*</style>"
unfolding style_class class_of url_class_of meaning flushed lib.Utf8.encode
no_comment = refl

-- what may begin the end tag, which ends a comment too
end_tag : from_text (codes "<style><</st/**/</sty</STYLE >") ≡ codes "<style><</st </sty</STYLE >"
unfolding style_class class_of meaning flushed lib.Utf8.encode
end_tag = refl

in_comment : from_text (codes "<style>/* <</st */</style><style>/*</style>") ≡ codes "<style> </style><style> </style>"
unfolding style_class class_of meaning flushed lib.Utf8.encode
in_comment = refl

-- a reference is none
reference : from_text (codes "<style>&lt;&l</style>&l") ≡ codes "<style>&lt;&l</style>&amp;l"
unfolding style_class class_of meaning flushed lib.Utf8.encode
reference = refl

-- two nodes
abbrev node_after : List ℕ → LexState ValueState → LexState ValueState
node_after bytes s = (read_node languages bytes (config s [])).at

abbrev two : List ℕ → List ℕ → List ℕ
two a b = from_text a ++ written languages b (node_after a (Text Closed))

abbrev IsReadBack : List ℕ → List ℕ → List ℕ → Type 0
IsReadBack a b page = (two a b ≡ page) × (shape_of (read Page page start) ≡ shape_of (read_path languages (Written a ∷ Written b ∷ []) start))

comment_over_nodes : IsReadBack (codes "<style>a/*b") (codes "c*/d</style>") (codes "<style>a  d</style>")
unfolding style_class class_of meaning flushed lib.Utf8.encode
comment_over_nodes = (refl, refl)

less_over_nodes : IsReadBack (codes "<style>a<") (codes "b</style>") (codes "<style>a<b</style>")
unfolding style_class class_of meaning flushed lib.Utf8.encode
less_over_nodes = (refl, refl)

solidus_over_nodes : IsReadBack (codes "<style>a/") (codes "/**/b</style>") (codes "<style>a/ b</style>")
unfolding style_class class_of meaning flushed lib.Utf8.encode
solidus_over_nodes = (refl, refl)
