-- Small texts, written from text.
use Rattle.std.proofs.Common.{◌≡◌, true, false, codes, refl, List, [], ◌∷◌, ◌++◌, ℕ}
use Rattle.place_core.specs.page.Classes.{class_of}
use Rattle.place_core.specs.page.References.{Closed, meaning}
use Rattle.place_core.specs.page.Html.{read, start}
use Rattle.place_core.specs.page.Paths.{Written, read_node, read_path}
use Rattle.place_core.specs.page.Shape.{shape_of}
use Rattle.place_core.specs.page.States.{Page, LexState, Text, config}
use Rattle.place_core.specs.page.Tags.{ValueState, languages}
use Rattle.place_core.specs.place.Places.{Below, IsValid}
use Rattle.place_core.specs.place.UrlParts.{parts_of}
use Rattle.place_core.specs.declared.body.Body.TheVariants as body
use Rattle.place_core.specs.declared.place.Place.{Place}
use Rattle.place_core.specs.declared.place.Place.TheVariants as place
use Rattle.place_core.specs.declared.quotes.Quotes.TheVariants as quotes
use Rattle.place_core.specs.declared.san.San.TheVariants as san
use Rattle.place_core.specs.declared.tag_of.TagOf.TheVariants as which
use Rattle.url_lexer.specs.Classes.{url_class_of}
use Rattle.url_lexer.specs.Parts.{UrlPrequery}
use Rattle.page_datum.specs.Data.{Data}
use Rattle.html_step.specs.Holes.{only}
use Rattle.text_norm.specs.Scanned.{written_at}
use Rattle.text_norm.specs.HoleLaws.{IsBackBy}
use Rattle.text_norm.specs.Pieces.{TextAt, HoleAt, AreAccepted, IsOver}
use Rattle.text_norm.specs.Written.{written}

abbrev from_text : List ℕ → List ℕ
from_text bytes = written languages bytes (Text Closed)

-- a comment, and what stands before one and at the end
comment_left_out : from_text (codes "a<!-- b -->&#3") ≡ codes "a&amp;#3"
unfolding class_of
comment_left_out = refl

before_a_comment : from_text (codes "&l<!-- -->t;") ≡ codes "&amp;lt;"
unfolding class_of
before_a_comment = refl

hexadecimal : from_text (codes "&#X4") ≡ codes "&amp;#X4"
unfolding class_of
hexadecimal = refl

-- a `<` that begins nothing
lone_less : from_text (codes "a < b<1<<!x</2>&lt<<b>&am<i") ≡ codes "a &lt; b&lt;1&lt;&lt;!x&lt;/2>&lt&lt;<b>&am<i"
unfolding class_of
lone_less = refl

at_the_end : from_text (codes "&lt<!-") ≡ codes "&lt&lt;!-"
unfolding class_of
at_the_end = refl

-- tags, titles and doctypes as they stand, but for references at the end of a node
tag : from_text (codes "<b title=\"a&lt;&am\" x=&y") ≡ codes "<b title=\"a&lt;&am\" x=&amp;y"
unfolding class_of
tag = refl

title : from_text (codes "<title><b></titlx</title>") ≡ codes "<title>&lt;b>&lt;/titlx</title>"
unfolding class_of
title = refl

doctype : from_text (codes "<!DOCTYPE html>") ≡ codes "<!DOCTYPE html>"
unfolding class_of
doctype = refl

-- a data block as it stands: there is no reference in it, and no `<` that begins nothing; and the type of a script, which decides that it is one
data_block : from_text (codes "<script type=' te&#120;t/template'>a&lt &#3 < <b> </x> <!- <</script>&#3") ≡ codes "<script type=' te&#120;t/template'>a&lt &#3 < <b> </x> <!- <</script>&amp;#3"
unfolding class_of meaning lib.Utf8.encode
data_block = refl

data_block_on_all_paths : written_at (codes "a&lt<b></x &am</script>&am") (place.Block true) ≡ codes "a&lt<b></x &am</script>&amp;am"
unfolding class_of
data_block_on_all_paths = refl

-- the same for all paths of a place
all_paths : written_at (codes "a<!-- b -->&#3<b x=&y") place.Text ≡ codes "a&#3<b x=&amp;y"
unfolding class_of
all_paths = refl

-- a URL of which several paths are past the beginning: what is read in it, as a percent triple, is no text of the page
abbrev past_beginning : Place
past_beginning = place.Value (record { tag = which.End; typed = false; quotes = quotes.Dq; body = body.Url (parts_of UrlPrequery) })

url_on_all_paths : written_at (codes "b?c=%4&#49;&am") past_beginning ≡ codes "b?c=%4&#49;&amp;am"
unfolding class_of url_class_of meaning lib.Utf8.encode
url_on_all_paths = refl

-- Two nodes after one another, from text: what is written of them, and that a page reads it in the path's shape.
abbrev node_after : List ℕ → LexState ValueState → LexState ValueState
node_after bytes s = (read_node languages bytes (config s [])).at

abbrev two : List ℕ → List ℕ → List ℕ
two a b = from_text a ++ written languages b (node_after a (Text Closed))

abbrev IsReadBack : List ℕ → List ℕ → List ℕ → Type 0
IsReadBack a b page = (two a b ≡ page) × (shape_of (read Page page start) ≡ shape_of (read_path languages (Written a ∷ Written b ∷ []) start))

reference_over_nodes : IsReadBack (codes "a&l") (codes "t;<b>") (codes "a&amp;lt;<b>")
unfolding class_of meaning lib.Utf8.encode
reference_over_nodes = (refl, refl)

comment_over_nodes : IsReadBack (codes "a<!-- b") (codes " c -->d<i>") (codes "ad<i>")
unfolding class_of meaning lib.Utf8.encode
comment_over_nodes = (refl, refl)

less_over_nodes : IsReadBack (codes "a</") (codes "b>") (codes "a&lt;/b>")
unfolding class_of meaning lib.Utf8.encode
less_over_nodes = (refl, refl)

declaration_over_nodes : IsReadBack (codes "<!doc") (codes "type>") (codes "&lt;!doctype>")
unfolding class_of meaning lib.Utf8.encode
declaration_over_nodes = (refl, refl)

name_over_nodes : IsReadBack (codes "<b title") (codes "=x y>") (codes "<b title=x y>")
unfolding class_of meaning lib.Utf8.encode
name_over_nodes = (refl, refl)

value_over_nodes : IsReadBack (codes "<b title='&#X4") (codes "1;'>") (codes "<b title='&amp;#X41;'>")
unfolding class_of meaning lib.Utf8.encode
value_over_nodes = (refl, refl)

url_over_nodes : IsReadBack (codes "<a href='/b?c&am") (codes "p;d'>") (codes "<a href='/b?c&amp;amp;d'>")
unfolding class_of url_class_of meaning lib.Utf8.encode
url_over_nodes = (refl, refl)

title_over_nodes : IsReadBack (codes "<title>a</tit") (codes "le></title>") (codes "<title>a&lt;/title></title>")
unfolding class_of meaning lib.Utf8.encode
title_over_nodes = (refl, refl)

block_over_nodes : IsReadBack (codes "<script type=a>x&am<") (codes "b></script><i>") (codes "<script type=a>x&am<b></script><i>")
unfolding class_of meaning lib.Utf8.encode
block_over_nodes = (refl, refl)

-- a hole between tags: accepted from text to text, whatever is written for it
same : (p : Place) → IsValid p → Below p p → IsOver p p
same p v b = record { valid = v; below = b }

between_tags : (datum : Data) (bytes : List ℕ) → IsBackBy (only san.Html) datum bytes
    → AreAccepted (TextAt place.Text (codes "<b>") ∷ HoleAt place.Text (only san.Html) datum bytes ∷ TextAt place.Text (codes "</b>") ∷ []) place.Text place.Text
unfolding class_of
between_tags datum bytes k =
    let t = same place.Text tt refl in
    (t, (place.Text, refl, (t, (place.Text, refl, k, (t, (place.Text, refl, t))))))

-- and one in a data block, which a whole text leads to and from
in_a_block : (datum : Data) (bytes : List ℕ) → IsBackBy (only san.Html) datum bytes
    → AreAccepted (TextAt place.Text (codes "<script type=a>{") ∷ HoleAt (place.Block false) (only san.Html) datum bytes ∷ TextAt (place.Block false) (codes "}</script>") ∷ []) place.Text place.Text
unfolding class_of meaning lib.Utf8.encode
in_a_block datum bytes k =
    let t = same place.Text tt refl in
    let b = same (place.Block false) tt refl in
    (t, (place.Block false, refl, (b, (place.Block false, refl, k, (b, (place.Text, refl, t))))))
