-- What is below a scan state, scan state by scan state.
use Rattle.std.proofs.Common.{◌≡◌, ℕ, Bool, true, ◌||◌, List, refl, sym, ap, subst}
use Rattle.place_core.specs.place.Places.{Below, is_whole}
use Rattle.place_core.specs.page.States.{CommentState, Pending, Nothing}
use Rattle.place_core.specs.declared.element.Element.{Element}
use Rattle.place_core.specs.declared.member.Member.{Member}
use Rattle.place_core.specs.declared.place.Place.{Place}
use Rattle.place_core.specs.declared.place.Place.TheVariants as place
use Rattle.place_core.specs.declared.tag_of.TagOf.{TagOf}
use Rattle.place_core.specs.declared.tag_place.TagPlace.{TagPlace}
use Rattle.place_core.specs.declared.value_place.ValuePlace.{ValuePlace}
use Rattle.place_core.proofs.Semilattices.{none_some, one_value}
use Rattle.html_scan.specs.Scans.{Scan, At, AfterLess, AfterLessSolidus, InDeclaration, InTagName, InAttributeName, InUrl, InStyle, InScript, InScriptElement, InStyleElement, InCommentEnd, InContentEnd, BeforeType, InType}
use Rattle.html_step.proofs.ElementsBelow.{ElementUnderPlace}
use Rattle.html_step.proofs.JsPlaces.{under-script}
use Rattle.html_step.proofs.ScriptElementOrder.{DoesAlike}
use Rattle.html_step.proofs.ScriptOrder.{ScriptUnder}
use Rattle.js_step.specs.ScriptSetLaws.{ScriptBelow}
use Rattle.place_core.specs.declared.js.Js.{Js}
use Rattle.html_step.proofs.ScanOrder.{ScanBelow, ScanHas, ScriptValueBelow, StyleUnderPlace, StyleValueBelow, Unstyled, comment-one, style-below-place, under-body}
use Rattle.html_step.proofs.PlaceParts.{Under, TagBelow, ValueBelow, below-tag, below-value, below-rcdata}
use Rattle.place_core.specs.page.References.{Reference, Closed}
use Rattle.url_lexer.specs.Triples.{Triple}
use Rattle.css_step.specs.StyleScans.{StyleScan, style_scan_start}
use Rattle.js_step.specs.ScriptScans.{ScriptScan}
use Rattle.css_step.specs.StyleSetLaws.{StyleBelow, StyleScanBelow}
use Rattle.place_core.specs.declared.body.Body.{Body}
use Rattle.place_core.specs.declared.body.Body.TheVariants as body
use Rattle.place_core.specs.declared.css.Css.{Css}
use Rattle.place_core.specs.page.Tags.{Quoting, Value, ValueState}

pub whole-in : (f : Scan) (y : Member) → is_whole y ≡ true → ScanHas f y
whole-in (At p) y e = rw e refl
whole-in (InAttributeName t typed name) y e = rw e refl
whole-in (InUrl v t r) y e = rw e refl
whole-in AfterLess y e = e
whole-in AfterLessSolidus y e = e
whole-in (InDeclaration pending) y e = e
whole-in (InTagName ends name) y e = e
whole-in (InCommentEnd s) y e = e
whole-in (InContentEnd x h) y e = e
whole-in (InStyleElement s h) y e = rw e refl
whole-in (BeforeType t) y e = e
whole-in (InType t q v r) y e = e
whole-in (InStyle v s r) y e = rw e refl
whole-in (InScript v s r) y e = rw e refl
whole-in (InScriptElement s h) y e = rw e refl

-- below a place are places, and below one of a style also lexemes of it
pub below-at : (P : Scan → Type 0) (p : Place) → ((a : Place) → Below a p → P (At a)) → ((v : ValuePlace) (n : StyleScan) → StyleUnderPlace v n p → P (InStyle v n Closed))
    → ((n : StyleScan) → ElementUnderPlace n p → P (InStyleElement n Nothing))
    → (g : Scan) → ScanBelow g (At p) → P g
below-at P p f k j (At a) h = f a h
below-at P p f k j (InStyleElement n x) h = subst (λ (z : Pending). P (InStyleElement n z)) (sym h.1) (j n h.0)
below-at P p f k j (InStyle v n r) h = subst (λ (z : Reference). P (InStyle v n z)) (sym h.1) (k v n h.0)
below-at P p f k j (InAttributeName t x n) h = absurd h
below-at P p f k j (InUrl v t r) h = absurd h
below-at P p f k j (InScript v n r) h = absurd h
below-at P p f k j (InScriptElement n x) h = absurd h
below-at P p f k j AfterLess h = cc
below-at P p f k j AfterLessSolidus h = cc
below-at P p f k j (InDeclaration pending) h = cc
below-at P p f k j (InTagName ends name) h = cc
below-at P p f k j (InCommentEnd s) h = cc
below-at P p f k j (InContentEnd e x) h = cc
below-at P p f k j (BeforeType u) h = cc
below-at P p f k j (InType u q v r) h = cc

pub tag-place : (P : Scan → Type 0) (t : TagPlace) → ((u : TagPlace) → TagBelow u t → P (At (place.Tag u))) → (a : Place) → Below a (place.Tag t) → P (At a)
tag-place P t f (place.Tag u) h = f u (below-tag u t h)
tag-place P t f place.Text h = absurd (none_some (place.Tag t) h)
tag-place P t f place.Doctype h = absurd (none_some (place.Tag t) h)
tag-place P t f (place.Comment x) h = absurd (none_some (place.Tag t) h)
tag-place P t f (place.Rcdata x) h = absurd (none_some (place.Tag t) h)
tag-place P t f (place.Value x) h = absurd (none_some (place.Tag t) h)
tag-place P t f (place.Script x) h = absurd (none_some (place.Tag t) h)
tag-place P t f (place.Style x) h = absurd (none_some (place.Tag t) h)
tag-place P t f (place.Block x) h = absurd (none_some (place.Tag t) h)

pub below-at-tag : (P : Scan → Type 0) (t : TagPlace) → ((u : TagPlace) → TagBelow u t → P (At (place.Tag u))) → (g : Scan) → ScanBelow g (At (place.Tag t)) → P g
below-at-tag P t f g h = below-at P (place.Tag t) (tag-place P t f) (λ v n u. absurd u) (λ n u. absurd u) g h

pub value-place : (P : Scan → Type 0) (t : ValuePlace) → ((u : ValuePlace) → ValueBelow u t → P (At (place.Value u))) → (a : Place) → Below a (place.Value t) → P (At a)
value-place P t f (place.Value u) h = f u (below-value u t h)
value-place P t f place.Text h = absurd (none_some (place.Value t) h)
value-place P t f place.Doctype h = absurd (none_some (place.Value t) h)
value-place P t f (place.Comment x) h = absurd (none_some (place.Value t) h)
value-place P t f (place.Rcdata x) h = absurd (none_some (place.Value t) h)
value-place P t f (place.Tag x) h = absurd (none_some (place.Value t) h)
value-place P t f (place.Script x) h = absurd (none_some (place.Value t) h)
value-place P t f (place.Style x) h = absurd (none_some (place.Value t) h)
value-place P t f (place.Block x) h = absurd (none_some (place.Value t) h)

pub below-at-value : (P : Scan → Type 0) (t : ValuePlace) → ((u : ValuePlace) → ValueBelow u t → P (At (place.Value u)))
    → ((u : ValuePlace) (n : StyleScan) (d : Css) → t.body ≡ body.Css d → StyleValueBelow u t n (style_scan_start d) → P (InStyle u n Closed))
    → (g : Scan) → ScanBelow g (At (place.Value t)) → P g
below-at-value P t f k g h = below-at P (place.Value t) (value-place P t f) (λ v n u. let d = under-body v n t t.body u in k v n d.0 d.1 d.2) (λ n u. absurd u) g h

-- below one that is neither a style nor a script, places alone
styled : (b : Body) (d : Css) → b ≡ body.Css d → Unstyled b → ⊥
styled b d e u = subst Unstyled e u

pub below-at-unstyled : (P : Scan → Type 0) (t : ValuePlace) → Unstyled t.body → ((u : ValuePlace) → ValueBelow u t → P (At (place.Value u))) → (g : Scan)
    → ScanBelow g (At (place.Value t)) → P g
below-at-unstyled P t x f g h = below-at-value P t f (λ u n d e l. absurd (styled t.body d e x)) g h

-- below a lexeme of a style, or a reference in it
pub below-style : (P : Scan → Type 0) (v : ValuePlace) (m : StyleScan) (r : Reference) → ((u : ValuePlace) (n : StyleScan) → StyleValueBelow u v n m → P (InStyle u n r))
    → (g : Scan) → ScanBelow g (InStyle v m r) → P g
below-style P v m r f (InStyle u n z) h = subst (λ (x : Reference). P (InStyle u n x)) (sym h.1) (f u n h.0)
below-style P v m r f (At p) h = absurd h
below-style P v m r f (InAttributeName t x n) h = absurd h
below-style P v m r f (InUrl u t z) h = absurd h
below-style P v m r f (InScript u n z) h = absurd h
below-style P v m r f AfterLess h = cc
below-style P v m r f AfterLessSolidus h = cc
below-style P v m r f (InDeclaration pending) h = cc
below-style P v m r f (InTagName ends name) h = cc
below-style P v m r f (InCommentEnd s) h = cc
below-style P v m r f (InContentEnd e x) h = cc
below-style P v m r f (InStyleElement e x) h = absurd h
below-style P v m r f (InScriptElement m1 m2) h = absurd h
below-style P v m r f (BeforeType u) h = cc
below-style P v m r f (InType u q w z) h = cc

-- below a script behind a byte of the text
pub below-script : (P : Scan → Type 0) (v : ValuePlace) (m : ScriptScan) (r : Reference) → ((u : ValuePlace) (n : ScriptScan) → ScriptValueBelow u v n m → P (InScript u n r))
    → (g : Scan) → ScanBelow g (InScript v m r) → P g
below-script P v m r f (InScript u n z) h = subst (λ (x : Reference). P (InScript u n x)) (sym h.1) (f u n h.0)
below-script P v m r f (At p) h = absurd h
below-script P v m r f (InAttributeName t x n) h = absurd h
below-script P v m r f (InUrl u t z) h = absurd h
below-script P v m r f (InStyle u n z) h = absurd h
below-script P v m r f (InScriptElement m1 m2) h = absurd h
below-script P v m r f AfterLess h = cc
below-script P v m r f AfterLessSolidus h = cc
below-script P v m r f (InDeclaration pending) h = cc
below-script P v m r f (InTagName ends name) h = cc
below-script P v m r f (InCommentEnd s) h = cc
below-script P v m r f (InContentEnd e x) h = cc
below-script P v m r f (InStyleElement e x) h = absurd h
below-script P v m r f (BeforeType u) h = cc
below-script P v m r f (InType u q w z) h = cc

comment-place : (P : Scan → Type 0) (y : Bool) → ((x : Bool) → Under x y → P (At (place.Comment x))) → (a : Place) → Below a (place.Comment y) → P (At a)
comment-place P y f (place.Comment x) h = f x (comment-one (x || y) y (one_value (place.Comment (x || y)) (place.Comment y) h))
comment-place P y f place.Text h = absurd (none_some (place.Comment y) h)
comment-place P y f place.Doctype h = absurd (none_some (place.Comment y) h)
comment-place P y f (place.Rcdata x) h = absurd (none_some (place.Comment y) h)
comment-place P y f (place.Tag x) h = absurd (none_some (place.Comment y) h)
comment-place P y f (place.Value x) h = absurd (none_some (place.Comment y) h)
comment-place P y f (place.Script x) h = absurd (none_some (place.Comment y) h)
comment-place P y f (place.Style x) h = absurd (none_some (place.Comment y) h)
comment-place P y f (place.Block x) h = absurd (none_some (place.Comment y) h)

pub below-at-comment : (P : Scan → Type 0) (y : Bool) → ((x : Bool) → Under x y → P (At (place.Comment x))) → (g : Scan) → ScanBelow g (At (place.Comment y)) → P g
below-at-comment P y f g h = below-at P (place.Comment y) (comment-place P y f) (λ v n u. absurd u) (λ n u. absurd u) g h

-- Scan states below which there is nothing else.
abbrev pub IsRigid : Scan → Type 0
IsRigid f = (g : Scan) → ScanBelow g f → g ≡ f

text-place : (a : Place) → Below a place.Text → At a ≡ At place.Text
text-place place.Text h = refl
text-place _ h = absurd (none_some place.Text h)

doctype-place : (a : Place) → Below a place.Doctype → At a ≡ At place.Doctype
doctype-place place.Doctype h = refl
doctype-place _ h = absurd (none_some place.Doctype h)

rcdata-place : (e : Element) (a : Place) → Below a (place.Rcdata e) → At a ≡ At (place.Rcdata e)
rcdata-place e (place.Rcdata x) h = ap (λ (y : Element). At (place.Rcdata y)) (below-rcdata x e h)
rcdata-place e _ h = absurd (none_some (place.Rcdata e) h)

pub text-rigid : IsRigid (At place.Text)
text-rigid g h = below-at (λ (x : Scan). x ≡ At place.Text) place.Text text-place (λ v n u. absurd u) (λ n u. absurd u) g h

pub doctype-rigid : IsRigid (At place.Doctype)
doctype-rigid g h = below-at (λ (x : Scan). x ≡ At place.Doctype) place.Doctype doctype-place (λ v n u. absurd u) (λ n u. absurd u) g h

pub rcdata-rigid : (e : Element) → IsRigid (At (place.Rcdata e))
rcdata-rigid e g h = below-at (λ (x : Scan). x ≡ At (place.Rcdata e)) (place.Rcdata e) (rcdata-place e) (λ v n u. absurd u) (λ n u. absurd u) g h

pub less-rigid : IsRigid AfterLess
less-rigid (At p) h = absurd h
less-rigid (InAttributeName t x n) h = absurd h
less-rigid (InUrl w k d) h = absurd h
less-rigid AfterLess h = h
less-rigid AfterLessSolidus h = h
less-rigid (InDeclaration pending) h = h
less-rigid (InTagName ends name) h = h
less-rigid (InCommentEnd s) h = h
less-rigid (InContentEnd e x) h = h
less-rigid (InStyleElement e x) h = absurd h
less-rigid (InScriptElement m1 m2) h = absurd h
less-rigid (BeforeType u) h = h
less-rigid (InType u q v r) h = h
less-rigid (InStyle u k d) h = absurd h
less-rigid (InScript u k d) h = absurd h

pub solidus-rigid : IsRigid AfterLessSolidus
solidus-rigid (At p) h = absurd h
solidus-rigid (InAttributeName t x n) h = absurd h
solidus-rigid (InUrl w k d) h = absurd h
solidus-rigid AfterLess h = h
solidus-rigid AfterLessSolidus h = h
solidus-rigid (InDeclaration pending) h = h
solidus-rigid (InTagName ends name) h = h
solidus-rigid (InCommentEnd s) h = h
solidus-rigid (InContentEnd e x) h = h
solidus-rigid (InStyleElement e x) h = absurd h
solidus-rigid (InScriptElement m1 m2) h = absurd h
solidus-rigid (BeforeType u) h = h
solidus-rigid (InType u q v r) h = h
solidus-rigid (InStyle u k d) h = absurd h
solidus-rigid (InScript u k d) h = absurd h

pub declaration-rigid : (l : List ℕ) → IsRigid (InDeclaration l)
declaration-rigid l (At p) h = absurd h
declaration-rigid l (InAttributeName t x n) h = absurd h
declaration-rigid l (InUrl w k d) h = absurd h
declaration-rigid l AfterLess h = h
declaration-rigid l AfterLessSolidus h = h
declaration-rigid l (InDeclaration pending) h = h
declaration-rigid l (InTagName ends name) h = h
declaration-rigid l (InCommentEnd s) h = h
declaration-rigid l (InContentEnd e x) h = h
declaration-rigid l (InStyleElement e x) h = absurd h
declaration-rigid l (InScriptElement m1 m2) h = absurd h
declaration-rigid l (BeforeType u) h = h
declaration-rigid l (InType u q v r) h = h
declaration-rigid l (InStyle u k d) h = absurd h
declaration-rigid l (InScript u k d) h = absurd h

pub tag-name-rigid : (z : Bool) (l : List ℕ) → IsRigid (InTagName z l)
tag-name-rigid z l (At p) h = absurd h
tag-name-rigid z l (InAttributeName t x n) h = absurd h
tag-name-rigid z l (InUrl w k d) h = absurd h
tag-name-rigid z l AfterLess h = h
tag-name-rigid z l AfterLessSolidus h = h
tag-name-rigid z l (InDeclaration pending) h = h
tag-name-rigid z l (InTagName ends name) h = h
tag-name-rigid z l (InCommentEnd s) h = h
tag-name-rigid z l (InContentEnd e x) h = h
tag-name-rigid z l (InStyleElement e x) h = absurd h
tag-name-rigid z l (InScriptElement m1 m2) h = absurd h
tag-name-rigid z l (BeforeType u) h = h
tag-name-rigid z l (InType u q v r) h = h
tag-name-rigid z l (InStyle u k d) h = absurd h
tag-name-rigid z l (InScript u k d) h = absurd h

pub comment-end-rigid : (z : CommentState) → IsRigid (InCommentEnd z)
comment-end-rigid z (At p) h = absurd h
comment-end-rigid z (InAttributeName t x n) h = absurd h
comment-end-rigid z (InUrl w k d) h = absurd h
comment-end-rigid z AfterLess h = h
comment-end-rigid z AfterLessSolidus h = h
comment-end-rigid z (InDeclaration pending) h = h
comment-end-rigid z (InTagName ends name) h = h
comment-end-rigid z (InCommentEnd s) h = h
comment-end-rigid z (InContentEnd e x) h = h
comment-end-rigid z (InStyleElement e x) h = absurd h
comment-end-rigid z (InScriptElement m1 m2) h = absurd h
comment-end-rigid z (BeforeType u) h = h
comment-end-rigid z (InType u q v r) h = h
comment-end-rigid z (InStyle u k d) h = absurd h
comment-end-rigid z (InScript u k d) h = absurd h

pub content-end-rigid : (z : Element) (l : Pending) → IsRigid (InContentEnd z l)
content-end-rigid z l (At p) h = absurd h
content-end-rigid z l (InAttributeName t x n) h = absurd h
content-end-rigid z l (InUrl w k d) h = absurd h
content-end-rigid z l AfterLess h = h
content-end-rigid z l AfterLessSolidus h = h
content-end-rigid z l (InDeclaration pending) h = h
content-end-rigid z l (InTagName ends name) h = h
content-end-rigid z l (InCommentEnd s) h = h
content-end-rigid z l (InContentEnd e x) h = h
content-end-rigid z l (InStyleElement e x) h = absurd h
content-end-rigid z l (InScriptElement m1 m2) h = absurd h
content-end-rigid z l (BeforeType u) h = h
content-end-rigid z l (InType u q v r) h = h
content-end-rigid z l (InStyle u k d) h = absurd h
content-end-rigid z l (InScript u k d) h = absurd h

pub before-type-rigid : (t : TagOf) → IsRigid (BeforeType t)
before-type-rigid t (At p) h = absurd h
before-type-rigid t (InAttributeName u x n) h = absurd h
before-type-rigid t (InUrl w k d) h = absurd h
before-type-rigid t AfterLess h = h
before-type-rigid t AfterLessSolidus h = h
before-type-rigid t (InDeclaration pending) h = h
before-type-rigid t (InTagName ends name) h = h
before-type-rigid t (InCommentEnd s) h = h
before-type-rigid t (InContentEnd e x) h = h
before-type-rigid t (InStyleElement e x) h = absurd h
before-type-rigid t (InScriptElement m1 m2) h = absurd h
before-type-rigid t (BeforeType u) h = h
before-type-rigid t (InType u q v r) h = h
before-type-rigid t (InStyle u k d) h = absurd h
before-type-rigid t (InScript u k d) h = absurd h

pub type-rigid : (t : TagOf) (o : Quoting) (w : Value ValueState) (c : Reference) → IsRigid (InType t o w c)
type-rigid t o w c (At p) h = absurd h
type-rigid t o w c (InAttributeName u x n) h = absurd h
type-rigid t o w c (InUrl u k d) h = absurd h
type-rigid t o w c AfterLess h = h
type-rigid t o w c AfterLessSolidus h = h
type-rigid t o w c (InDeclaration pending) h = h
type-rigid t o w c (InTagName ends name) h = h
type-rigid t o w c (InCommentEnd s) h = h
type-rigid t o w c (InContentEnd e x) h = h
type-rigid t o w c (InStyleElement e x) h = absurd h
type-rigid t o w c (InScriptElement m1 m2) h = absurd h
type-rigid t o w c (BeforeType u) h = h
type-rigid t o w c (InType u q v r) h = h
type-rigid t o w c (InStyle u k d) h = absurd h
type-rigid t o w c (InScript u k d) h = absurd h

-- a data block
pub block-one : (x y : Bool) → place.Block x ≡ place.Block y → x ≡ y
block-one x y e = cc

block-place : (P : Scan → Type 0) (y : Bool) → ((x : Bool) → Under x y → P (At (place.Block x))) → (a : Place) → Below a (place.Block y) → P (At a)
block-place P y f (place.Block x) h = f x (block-one (x || y) y (one_value (place.Block (x || y)) (place.Block y) h))
block-place P y f place.Text h = absurd (none_some (place.Block y) h)
block-place P y f place.Doctype h = absurd (none_some (place.Block y) h)
block-place P y f (place.Comment x) h = absurd (none_some (place.Block y) h)
block-place P y f (place.Rcdata x) h = absurd (none_some (place.Block y) h)
block-place P y f (place.Tag x) h = absurd (none_some (place.Block y) h)
block-place P y f (place.Value x) h = absurd (none_some (place.Block y) h)
block-place P y f (place.Script x) h = absurd (none_some (place.Block y) h)
block-place P y f (place.Style x) h = absurd (none_some (place.Block y) h)

pub below-at-block : (P : Scan → Type 0) (y : Bool) → ((x : Bool) → Under x y → P (At (place.Block x))) → (g : Scan) → ScanBelow g (At (place.Block y)) → P g
below-at-block P y f g h = below-at P (place.Block y) (block-place P y f) (λ v n u. absurd u) (λ n u. absurd u) g h

-- a name of an attribute
pub below-attribute : (P : Scan → Type 0) (t : TagOf) (y : Bool) (n : List ℕ) → ((x : Bool) → Under x y → P (InAttributeName t x n)) → (g : Scan) → ScanBelow g (InAttributeName t y n) → P g
below-attribute P t y n f (InAttributeName u x m) h =
    subst (λ (v : TagOf). P (InAttributeName v x m)) (sym h.0) (subst (λ (l : List ℕ). P (InAttributeName t x l)) (sym h.2) (f x h.1))
below-attribute P t y n f (At p) h = absurd h
below-attribute P t y n f (InUrl v k r) h = absurd h
below-attribute P t y n f AfterLess h = cc
below-attribute P t y n f AfterLessSolidus h = cc
below-attribute P t y n f (InDeclaration pending) h = cc
below-attribute P t y n f (InTagName ends name) h = cc
below-attribute P t y n f (InCommentEnd s) h = cc
below-attribute P t y n f (InContentEnd e x) h = cc
below-attribute P t y n f (InStyleElement e x) h = absurd h
below-attribute P t y n f (InScriptElement m1 m2) h = absurd h
below-attribute P t y n f (BeforeType u) h = cc
below-attribute P t y n f (InType u q v r) h = cc
below-attribute P t y n f (InStyle u k d) h = absurd h
below-attribute P t y n f (InScript u k d) h = absurd h

-- a URL in a percent triple or a reference
pub below-url : (P : Scan → Type 0) (v : ValuePlace) (t : Triple) (r : Reference) → ((u : ValuePlace) → ValueBelow u v → P (InUrl u t r)) → (g : Scan)
    → ScanBelow g (InUrl v t r) → P g
below-url P v t r f (InUrl u k z) h =
    subst (λ (x : Triple). P (InUrl u x z)) (sym h.1) (subst (λ (x : Reference). P (InUrl u t x)) (sym h.2) (f u h.0))
below-url P v t r f (At p) h = absurd h
below-url P v t r f (InAttributeName u x m) h = absurd h
below-url P v t r f AfterLess h = cc
below-url P v t r f AfterLessSolidus h = cc
below-url P v t r f (InDeclaration pending) h = cc
below-url P v t r f (InTagName ends name) h = cc
below-url P v t r f (InCommentEnd s) h = cc
below-url P v t r f (InContentEnd e x) h = cc
below-url P v t r f (InStyleElement e x) h = absurd h
below-url P v t r f (InScriptElement m1 m2) h = absurd h
below-url P v t r f (BeforeType u) h = cc
below-url P v t r f (InType u q x z) h = cc
below-url P v t r f (InStyle u k d) h = absurd h
below-url P v t r f (InScript u k d) h = absurd h

-- in the element `style`: a lexeme, or what may be its end tag
pub below-element : (P : Scan → Type 0) (m : StyleScan) (x : Pending) → ((n : StyleScan) → StyleScanBelow n m → P (InStyleElement n x)) → (g : Scan)
    → ScanBelow g (InStyleElement m x) → P g
below-element P m x f (InStyleElement n z) h = subst (λ (y : Pending). P (InStyleElement n y)) (sym h.1) (f n h.0)
below-element P m x f (At p) h = absurd h
below-element P m x f (InAttributeName t y n) h = absurd h
below-element P m x f (InUrl u t z) h = absurd h
below-element P m x f AfterLess h = cc
below-element P m x f AfterLessSolidus h = cc
below-element P m x f (InDeclaration pending) h = cc
below-element P m x f (InTagName ends name) h = cc
below-element P m x f (InCommentEnd s) h = cc
below-element P m x f (InContentEnd e y) h = cc
below-element P m x f (BeforeType u) h = cc
below-element P m x f (InType u q w z) h = cc
below-element P m x f (InStyle u k d) h = absurd h
below-element P m x f (InScriptElement m1 m2) h = absurd h
below-element P m x f (InScript u k d) h = absurd h

-- and a place in it
pub element-place : (P : Scan → Type 0) (d : Css) → ((c : Css) → StyleBelow c d → P (At (place.Style c))) → (a : Place) → Below a (place.Style d) → P (At a)
element-place P d f (place.Style c) h = f c (style-below-place c d h)
element-place P d f place.Text h = absurd (none_some (place.Style d) h)
element-place P d f place.Doctype h = absurd (none_some (place.Style d) h)
element-place P d f (place.Comment x) h = absurd (none_some (place.Style d) h)
element-place P d f (place.Rcdata x) h = absurd (none_some (place.Style d) h)
element-place P d f (place.Tag x) h = absurd (none_some (place.Style d) h)
element-place P d f (place.Value x) h = absurd (none_some (place.Style d) h)
element-place P d f (place.Script x) h = absurd (none_some (place.Style d) h)
element-place P d f (place.Block x) h = absurd (none_some (place.Style d) h)

pub below-at-style : (P : Scan → Type 0) (d : Css) → ((c : Css) → StyleBelow c d → P (At (place.Style c)))
    → ((n : StyleScan) → StyleScanBelow n (style_scan_start d) → P (InStyleElement n Nothing)) → (g : Scan) → ScanBelow g (At (place.Style d)) → P g
below-at-style P d f k g h = below-at P (place.Style d) (element-place P d f) (λ v n u. absurd u) (λ n u. k n u) g h

-- in the element `script`: behind a byte of the text, and a place
pub below-script-element : (P : Scan → Type 0) (m : ScriptScan) (x : Pending) → ((n : ScriptScan) → ScriptUnder n m → DoesAlike n m x → P (InScriptElement n x))
    → (g : Scan) → ScanBelow g (InScriptElement m x) → P g
below-script-element P m x f (InScriptElement n z) h = subst (λ (y : Pending). P (InScriptElement n y)) (sym h.1) (f n h.0 h.2)
below-script-element P m x f (InStyleElement n z) h = absurd h
below-script-element P m x f (At p) h = absurd h
below-script-element P m x f (InAttributeName t y n) h = absurd h
below-script-element P m x f (InUrl u t z) h = absurd h
below-script-element P m x f AfterLess h = cc
below-script-element P m x f AfterLessSolidus h = cc
below-script-element P m x f (InDeclaration pending) h = cc
below-script-element P m x f (InTagName ends name) h = cc
below-script-element P m x f (InCommentEnd s) h = cc
below-script-element P m x f (InContentEnd e y) h = cc
below-script-element P m x f (BeforeType u) h = cc
below-script-element P m x f (InType u q w z) h = cc
below-script-element P m x f (InStyle u k d) h = absurd h
below-script-element P m x f (InScript u k d) h = absurd h

pub below-at-script-place : (P : Scan → Type 0) (d : Js) → ((c : Js) → ScriptBelow c d → P (At (place.Script c))) → (g : Scan)
    → ScanBelow g (At (place.Script d)) → P g
below-at-script-place P d f g h =
    below-at P (place.Script d) (under-script (λ (a : Place). P (At a)) d f) (λ v n u. absurd u) (λ n u. absurd u) g h
