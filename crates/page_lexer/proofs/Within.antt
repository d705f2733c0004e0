-- Where the tokens lie that a reading makes: in the page.
use Rattle.std.proofs.Common.{◌≡◌, ◌+◌, ◌-◌, ◌≤◌, ◌<◌, ℕ, Bool, true, false, cond, nat_lt, ◌&&◌, List, [], ◌∷◌, ◌++◌, length, drop, length-take, arith, refl, sym, ap, subst, ◌∙◌, get_or, true≢false, codes, nat_eq, ltb-true}
use Rattle.std.proofs.Math.Seq.{drop-cons}
use Rattle.std.proofs.Math.Numerals.{unary_clauses}
use Rattle.std.proofs.lemmas.Bool.{and_parts}
use Rattle.std.proofs.lemmas.List.Elements.{All-nil, All-cons, All-append}
use Rattle.std.specs.List.{starts_with}
use Rattle.page_piece.specs.declared.piece.Piece.{Piece}
use Rattle.place_core.specs.page.Comments.{Declaration, OpensComment, OpensDoctype, Undecided, OpensNothing, declared_by}
use Rattle.place_core.specs.page.Contents.{is_name_of, may_be_name_of}
use Rattle.place_core.specs.declared.element.Element.{Element}
use Rattle.place_core.specs.declared.element.Element.TheVariants as element
use Rattle.page_lexer.specs.Classes.{byte_class}
use Rattle.page_lexer.specs.Contents.{one_token, text_tokens, script_token, script_tokens, style_token, escapes, some_content, content_tokens}
use Rattle.page_lexer.specs.ContentStates.{content, content_byte, content_behind_less, content_name, is_letter_class, ends_name}
use Rattle.page_lexer.specs.Markup.{text, tag_open, end_tag_open, declaration, comment, ends_comment, bogus_comment, doctype}
use Rattle.page_lexer.specs.Pages.{step, tokens_at_end, read_byte, read_from, tokens_of}
use Rattle.page_lexer.specs.Parts.{part}
use Rattle.page_lexer.specs.Reading.{page_start, text_ended, attr_ended, content_ended, markup_ended, goes_to}
use Rattle.page_lexer.specs.Spans.{IsInPage, AreInPage}
use Rattle.page_lexer.specs.TagStates.{tag_name, before_attribute_name, attribute_name, after_attribute_name, before_attribute_value, attribute_value, after_value, ends_attribute_value, value_ended}
use Rattle.page_lexer.specs.declared.class.PageClass.{PageClass}
use Rattle.page_lexer.specs.declared.class.PageClass.TheVariants as class
use Rattle.page_lexer.specs.declared.state.CommentState.{CommentState}
use Rattle.page_lexer.specs.declared.state.CommentState.TheVariants as comment_at
use Rattle.page_lexer.specs.declared.state.Pending.{Pending}
use Rattle.page_lexer.specs.declared.state.Pending.TheVariants as pending
use Rattle.page_lexer.specs.declared.state.PageQuoting.{PageQuoting}
use Rattle.page_lexer.specs.declared.state.PageQuoting.TheVariants as quoting
use Rattle.page_lexer.specs.declared.state.Reading.{Reading}
use Rattle.page_lexer.specs.declared.state.Where.{Where}
use Rattle.page_lexer.specs.declared.state.Where.TheVariants as at
use Rattle.page_lexer.specs.declared.token.PageToken.{PageToken}
use Rattle.page_lexer.specs.declared.token.What.{What}
use Rattle.page_lexer.specs.declared.token.What.TheVariants as what

-- Tokens.

none-in : (page : List ℕ) → AreInPage page []
none-in page = All-nil (IsInPage page)

one-in : (page : List ℕ) (from to : ℕ) (w : What) → from ≤ to → to ≤ length page → AreInPage page (one_token from to w)
one-in page from to w order bound = All-cons (IsInPage page) (record { from = from; to = to; what = w }) [] (record { order = order; bound = bound }) (none-in page)

if-in : (page : List ℕ) (b : Bool) (xs ys : List PageToken) → (b ≡ true → AreInPage page xs) → (b ≡ false → AreInPage page ys) → AreInPage page (cond b xs ys)
if-in page true xs ys t f = t refl
if-in page false xs ys t f = f refl

text-in : (page : List ℕ) (from to : ℕ) → to ≤ length page → AreInPage page (text_tokens from to)
text-in page from to h =
    if-in page (nat_lt from to) (one_token from to what.Text) [] (λ e. one-in page from to what.Text (let l : from < to = ltb-true from to e in omega (arith, l)) h) (λ e. none-in page)

script-in : (page : List ℕ) (from to : ℕ) (pieces : List Piece) → from ≤ to → to ≤ length page → AreInPage page (script_token from to pieces)
script-in page from to [] order bound = none-in page
script-in page from to (p ∷ ps) order bound = one-in page from to (what.Script (p ∷ ps)) order bound

style-in : (page : List ℕ) (from to : ℕ) (pieces : List Piece) → from ≤ to → to ≤ length page → AreInPage page (style_token from to pieces)
style-in page from to [] order bound = none-in page
style-in page from to (p ∷ ps) order bound = one-in page from to (what.Style (p ∷ ps)) order bound

-- bytes that begin with `<!--` are four at least
four-bytes : (bytes : List ℕ) → starts_with nat_eq bytes (codes "<!--") ≡ true → 4 ≤ length bytes
four-bytes [] e = absurd (true≢false (sym e))
four-bytes (a ∷ []) e = absurd (true≢false (sym (and_parts (nat_eq 60 a) false e).1))
four-bytes (a ∷ b ∷ []) e = absurd (let h = and_parts (nat_eq 60 a) (nat_eq 33 b && false) e in true≢false (sym (and_parts (nat_eq 33 b) false h.1).1))
four-bytes (a ∷ b ∷ c ∷ []) e =
    absurd (let h = and_parts (nat_eq 60 a) (nat_eq 33 b && (nat_eq 45 c && false)) e in
    let i = and_parts (nat_eq 33 b) (nat_eq 45 c && false) h.1 in true≢false (sym (and_parts (nat_eq 45 c) false i.1).1))
four-bytes (a ∷ b ∷ c ∷ d ∷ rest) e = omega arith

escapes-in : (page : List ℕ) (at : ℕ) (bytes : List ℕ) → at + length bytes ≤ length page → AreInPage page (escapes at bytes)
escapes-in page at [] h = none-in page
escapes-in page at (b ∷ bs) h =
    let rest : AreInPage page (escapes (at + 1) bs) = escapes-in page (at + 1) bs (omega (arith, h)) in
    if-in page (starts_with nat_eq (b ∷ bs) (codes "<!--")) (one_token at (at + 4) what.Escape ++ escapes (at + 1) bs) (escapes (at + 1) bs)
    (λ e.
    All-append (IsInPage page) (one_token at (at + 4) what.Escape) (escapes (at + 1) bs)
    (one-in page at (at + 4) what.Escape (omega arith) (let four : 4 ≤ length (b ∷ bs) = four-bytes (b ∷ bs) e in omega (arith, h, four)))
    rest)
    (λ e. rest)

-- a part ends where its place says, or before
pub part-fits : (bytes : List ℕ) (from to : ℕ) → from ≤ to → to ≤ length bytes → from + length (part bytes from to) ≤ length bytes
part-fits bytes from to order bound = rw (length-take {A = ℕ} (to - from) (drop from bytes)) (omega (arith, order, bound))

some-in : (page : List ℕ) (e : Element) (from to : ℕ) → from < to → to ≤ length page → AreInPage page (some_content page e from to)
some-in page element.Title from to order bound = one-in page from to what.Text (omega (arith, order)) bound
some-in page element.Textarea from to order bound = one-in page from to what.Text (omega (arith, order)) bound
some-in page element.Style from to order bound = style-in page from to _ (omega (arith, order)) bound
some-in page element.Script from to order bound =
    All-append (IsInPage page) (script_tokens page from to) (escapes from (part page from to)) (script-in page from to _ (omega (arith, order)) bound) (escapes-in page from (part page from to) (part-fits page from to (omega (arith, order)) bound))
some-in page element.DataBlock from to order bound =
    All-append (IsInPage page) (one_token from to what.Block) (escapes from (part page from to)) (one-in page from to what.Block (omega (arith, order)) bound) (escapes-in page from (part page from to) (part-fits page from to (omega (arith, order)) bound))
some-in page element.Other from to order bound = none-in page

content-in : (page : List ℕ) (e : Element) (from to : ℕ) → to ≤ length page → AreInPage page (content_tokens page e from to)
content-in page e from to bound =
    if-in page (nat_lt from to) (some_content page e from to) [] (λ t. some-in page e from to (ltb-true from to t) bound) (λ t. none-in page)

-- What stays true at each byte: the last `<` is behind, and the tokens lie in the page.
pub record IsWithin (page : List ℕ) (here less : ℕ) (tokens : List PageToken) : Type 0 where
  pub behind : less ≤ here
  pub inside : AreInPage page tokens

later : (page : List ℕ) (here less : ℕ) (tokens : List PageToken) → IsWithin page here less tokens → IsWithin page (here + 1) less tokens
later page here less tokens w = record { behind = (let l = w.behind in omega (arith, l)); inside = w.inside }

-- a `<` stands here
less-here : (page : List ℕ) (here less : ℕ) (tokens : List PageToken) → IsWithin page here less tokens → IsWithin page (here + 1) here tokens
less-here page here less tokens w = record { behind = omega arith; inside = w.inside }

-- text ends before the last `<`
text-ends : (page : List ℕ) (here from less : ℕ) (tokens : List PageToken) → here < length page → IsWithin page here less tokens → IsWithin page here less (tokens ++ text_tokens from less)
text-ends page here from less tokens h w =
    record { behind = w.behind; inside = All-append (IsInPage page) tokens (text_tokens from less) w.inside (text-in page from less (let l = w.behind in omega (arith, l, h))) }

-- something that begins at the last `<` ends behind this byte
token-ends : (page : List ℕ) (here less : ℕ) (tokens : List PageToken) (w : What) → here < length page → IsWithin page here less tokens → IsWithin page (here + 1) less (tokens ++ one_token less (here + 1) w)
token-ends page here less tokens w h i = record {
  behind = (let l = i.behind in omega (arith, l));
  inside = All-append (IsInPage page) tokens (one_token less (here + 1) w) i.inside (one-in page less (here + 1) w (let l = i.behind in omega (arith, l)) (omega (arith, h)));
}

content-ends : (page : List ℕ) (e : Element) (here from less : ℕ) (tokens : List PageToken) → here < length page → IsWithin page here less tokens → IsWithin page here less (tokens ++ content_tokens page e from less)
content-ends page e here from less tokens h w =
    record { behind = w.behind; inside = All-append (IsInPage page) tokens (content_tokens page e from less) w.inside (content-in page e from less (let l = w.behind in omega (arith, l, h))) }

-- The states.

abbrev pub StaysWithin : List ℕ → ℕ → Reading → Type 0
StaysWithin page here r = IsWithin page here r.less r.tokens

one-of : (page : List ℕ) (here : ℕ) (b : Bool) (r s : Reading) → StaysWithin page here r → StaysWithin page here s → StaysWithin page here (cond b r s)
one-of page here true r s x y = x
one-of page here false r s x y = y

text-within : (page : List ℕ) (c : PageClass) (here : ℕ) (r : Reading) → here < length page → StaysWithin page here r → StaysWithin page (here + 1) (text c here r)
text-within page class.LessThan here r h w = less-here page here r.less r.tokens w
text-within page _ here r h w = later page here r.less r.tokens w

bogus-within : (page : List ℕ) (c : PageClass) (here : ℕ) (r : Reading) → here < length page → StaysWithin page here r → StaysWithin page (here + 1) (bogus_comment c (here + 1) r)
bogus-within page class.GreaterThan here r h w = token-ends page here r.less r.tokens what.Comment h w
bogus-within page _ here r h w = later page here r.less r.tokens w

open-within : (page : List ℕ) (c : PageClass) (here : ℕ) (r : Reading) → here < length page → StaysWithin page here r → StaysWithin page (here + 1) (tag_open c here (here + 1) r)
open-within page class.Letter here r h w = later page here r.less _ (text-ends page here r.text r.less r.tokens h w)
open-within page class.ExclamationMark here r h w = later page here r.less _ (text-ends page here r.text r.less r.tokens h w)
open-within page class.QuestionMark here r h w = later page here r.less _ (text-ends page here r.text r.less r.tokens h w)
open-within page class.LessThan here r h w = less-here page here r.less r.tokens w
open-within page class.Solidus here r h w = later page here r.less r.tokens w
open-within page _ here r h w = later page here r.less r.tokens w

end-open-within : (page : List ℕ) (c : PageClass) (here : ℕ) (r : Reading) → here < length page → StaysWithin page here r → StaysWithin page (here + 1) (end_tag_open c here (here + 1) r)
end-open-within page class.Letter here r h w = later page here r.less _ (text-ends page here r.text r.less r.tokens h w)
end-open-within page c here r h w = bogus-within page c here (text_ended r) h (text-ends page here r.text r.less r.tokens h w)

declared-within : (page : List ℕ) (d : Declaration) (c : PageClass) (here : ℕ) (r : Reading) → here < length page → StaysWithin page here r → StaysWithin page (here + 1) (declaration d c (here + 1) r)
declared-within page OpensComment c here r h w = later page here r.less r.tokens w
declared-within page OpensDoctype c here r h w = later page here r.less r.tokens w
declared-within page Undecided c here r h w = later page here r.less r.tokens w
declared-within page OpensNothing c here r h w = bogus-within page c here r h w

comment-within : (page : List ℕ) (s : CommentState) (c : PageClass) (here : ℕ) (r : Reading) → here < length page → StaysWithin page here r → StaysWithin page (here + 1) (comment s c (here + 1) r)
comment-within page s class.GreaterThan here r h w =
    one-of page (here + 1) (ends_comment s) (markup_ended (here + 1) what.Comment r) (goes_to (at.Comment comment_at.Inside) r) (token-ends page here r.less r.tokens what.Comment h w) (later page here r.less r.tokens w)
comment-within page s _ here r h w = later page here r.less r.tokens w

doctype-within : (page : List ℕ) (c : PageClass) (here : ℕ) (r : Reading) → here < length page → StaysWithin page here r → StaysWithin page (here + 1) (doctype c (here + 1) r)
doctype-within page class.GreaterThan here r h w = token-ends page here r.less r.tokens what.Doctype h w
doctype-within page _ here r h w = later page here r.less r.tokens w

tag-name-within : (page : List ℕ) (c : PageClass) (here : ℕ) (r : Reading) → here < length page → StaysWithin page here r → StaysWithin page (here + 1) (tag_name page c here (here + 1) r)
tag-name-within page class.GreaterThan here r h w = token-ends page here r.less r.tokens _ h w
tag-name-within page _ here r h w = later page here r.less r.tokens w

before-within : (page : List ℕ) (c : PageClass) (here : ℕ) (closing : Bool) (r : Reading) → here < length page → StaysWithin page here r → StaysWithin page (here + 1) (before_attribute_name page c here (here + 1) closing r)
before-within page class.GreaterThan here closing r h w = token-ends page here r.less r.tokens _ h w
before-within page _ here closing r h w = later page here r.less r.tokens w

name-within : (page : List ℕ) (c : PageClass) (here : ℕ) (r : Reading) → here < length page → StaysWithin page here r → StaysWithin page (here + 1) (attribute_name page c here (here + 1) r)
name-within page class.GreaterThan here r h w = token-ends page here r.less r.tokens _ h w
name-within page _ here r h w = later page here r.less r.tokens w

after-name-within : (page : List ℕ) (c : PageClass) (here : ℕ) (r : Reading) → here < length page → StaysWithin page here r → StaysWithin page (here + 1) (after_attribute_name page c here (here + 1) r)
after-name-within page class.GreaterThan here r h w = token-ends page here r.less r.tokens _ h w
after-name-within page _ here r h w = later page here r.less r.tokens w

before-value-within : (page : List ℕ) (c : PageClass) (here : ℕ) (r : Reading) → here < length page → StaysWithin page here r → StaysWithin page (here + 1) (before_attribute_value page c here (here + 1) r)
before-value-within page class.GreaterThan here r h w = token-ends page here r.less r.tokens _ h w
before-value-within page _ here r h w = later page here r.less r.tokens w

after-value-within : (page : List ℕ) (q : PageQuoting) (c : PageClass) (here : ℕ) (r : Reading) → here < length page → StaysWithin page here r → StaysWithin page (here + 1) (after_value page q c here (here + 1) r)
after-value-within page quoting.Unquoted c here r h w = before-within page c here false r h w
after-value-within page _ c here r h w = later page here r.less r.tokens w

value-within : (page : List ℕ) (q : PageQuoting) (c : PageClass) (here : ℕ) (r : Reading) → here < length page → StaysWithin page here r → StaysWithin page (here + 1) (attribute_value page q c here (here + 1) r)
value-within page q c here r h w =
    one-of page (here + 1) (ends_attribute_value q c) (after_value page q c here (here + 1) (attr_ended (value_ended here r))) r
    (after-value-within page q c here (attr_ended (value_ended here r)) h w)
    (later page here r.less r.tokens w)

content-byte-within : (page : List ℕ) (e : Element) (c : PageClass) (here : ℕ) (r : Reading) → StaysWithin page here r → StaysWithin page (here + 1) (content_byte e c here r)
content-byte-within page e class.LessThan here r w = less-here page here r.less r.tokens w
content-byte-within page e _ here r w = later page here r.less r.tokens w

content-less-within : (page : List ℕ) (e : Element) (c : PageClass) (here : ℕ) (r : Reading) → StaysWithin page here r → StaysWithin page (here + 1) (content_behind_less e c here (here + 1) r)
content-less-within page e class.Solidus here r w = later page here r.less r.tokens w
content-less-within page e c here r w = content-byte-within page e c here r w

content-name-within : (page : List ℕ) (e : Element) (c : PageClass) (here : ℕ) (r : Reading) → here < length page → StaysWithin page here r → StaysWithin page (here + 1) (content_name page e c here (here + 1) r)
content-name-within page e c here r h w =
    one-of page (here + 1) (is_letter_class c && may_be_name_of e (part page r.name (here + 1))) r _ (later page here r.less r.tokens w)
    (one-of page (here + 1) (ends_name c && is_name_of e (part page r.name here)) (tag_name page c here (here + 1) (content_ended page e r)) (content_byte e c here r)
    (tag-name-within page c here (content_ended page e r) h (content-ends page e here r.text r.less r.tokens h w))
    (content-byte-within page e c here r w))

content-within : (page : List ℕ) (e : Element) (p : Pending) (c : PageClass) (here : ℕ) (r : Reading) → here < length page → StaysWithin page here r → StaysWithin page (here + 1) (content page e p c here (here + 1) r)
content-within page e pending.Nothing c here r h w = content-byte-within page e c here r w
content-within page e pending.LessThan c here r h w = content-less-within page e c here r w
content-within page e pending.Name c here r h w = content-name-within page e c here r h w

step-within : (page : List ℕ) (s : Where) (c : PageClass) (here : ℕ) (r : Reading) → here < length page → StaysWithin page here r → StaysWithin page (here + 1) (step page s c here (here + 1) r)
step-within page at.Text c here r h w = text-within page c here r h w
step-within page at.TagOpen c here r h w = open-within page c here r h w
step-within page at.EndTagOpen c here r h w = end-open-within page c here r h w
step-within page at.DeclarationOpen c here r h w = declared-within page (declared_by (part page r.name (here + 1))) c here r h w
step-within page (at.Comment s) c here r h w = comment-within page s c here r h w
step-within page at.BogusComment c here r h w = bogus-within page c here r h w
step-within page at.Doctype c here r h w = doctype-within page c here r h w
step-within page at.TagName c here r h w = tag-name-within page c here r h w
step-within page at.BeforeAttributeName c here r h w = before-within page c here false r h w
step-within page at.AttributeName c here r h w = name-within page c here r h w
step-within page at.AfterAttributeName c here r h w = after-name-within page c here r h w
step-within page at.BeforeAttributeValue c here r h w = before-value-within page c here r h w
step-within page (at.AttributeValue q) c here r h w = value-within page q c here r h w
step-within page at.AfterAttributeValue c here r h w = before-within page c here false r h w
step-within page at.SelfClosingStartTag c here r h w = before-within page c here true r h w
step-within page (at.Content e p) c here r h w = content-within page e p c here r h w

byte-within : (page : List ℕ) (here b : ℕ) (r : Reading) → here < length page → StaysWithin page here r → StaysWithin page (here + 1) (read_byte page here b r)
byte-within page here b r h w = step-within page r.at (byte_class b) here r h w

-- a turn of the loop
pub turn-within : (page : List ℕ) (here b : ℕ) (r s : Reading) → here < length page → s ≡ read_byte page here b r → StaysWithin page here r → StaysWithin page (here + 1) s
turn-within page here b r s h e w = subst (StaysWithin page (here + 1)) (sym e) (byte-within page here b r h w)

pub turn-reads : (page : List ℕ) (here : ℕ) (r s : Reading) → here < length page → s ≡ read_byte page here (get_or page here 0) r → read_from page here r (drop here page) ≡ tokens_of page → read_from page (here + 1) s (drop (here + 1) page) ≡ tokens_of page
turn-reads page here r s h e left =
    let rest : drop here page ≡ get_or page here 0 ∷ drop (here + 1) page = simp unary_clauses (drop-cons page here 0 h) in
    ap (λ (z : Reading). read_from page (here + 1) z (drop (here + 1) page)) e ∙ ap (read_from page here r) (sym rest) ∙ left

pub start-within : (page : List ℕ) → StaysWithin page 0 page_start
start-within page = record { behind = omega arith; inside = none-in page }

-- the end of a page
pub end-within : (page : List ℕ) (s : Where) (here : ℕ) (r : Reading) → here ≤ length page → StaysWithin page here r → AreInPage page (tokens_at_end page s r)
end-within page at.Text here r h w = All-append (IsInPage page) r.tokens (text_tokens r.text (length page)) w.inside (text-in page r.text (length page) (omega arith))
end-within page at.TagOpen here r h w = All-append (IsInPage page) r.tokens (text_tokens r.text (length page)) w.inside (text-in page r.text (length page) (omega arith))
end-within page at.EndTagOpen here r h w = All-append (IsInPage page) r.tokens (text_tokens r.text (length page)) w.inside (text-in page r.text (length page) (omega arith))
end-within page (at.Content e p) here r h w = All-append (IsInPage page) r.tokens (content_tokens page e r.text (length page)) w.inside (content-in page e r.text (length page) (omega arith))
end-within page _ here r h w =
    All-append (IsInPage page) r.tokens (one_token r.less (length page) what.Unfinished) w.inside (one-in page r.less (length page) what.Unfinished (let l = w.behind in omega (arith, l, h)) (omega arith))
