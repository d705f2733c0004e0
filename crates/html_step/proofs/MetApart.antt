-- Two paths that met apart: what their place says of them.
use Rattle.std.proofs.Common.{◌≡◌, ℕ, Bool, true, false, ◌||◌, List, Option, Some, None, Ok, Err, refl, sym, ap, ◌∙◌, subst}
use Rattle.std.specs.Prelude.{⊤}
use Rattle.place_core.specs.page.States.{LexState}
use Rattle.place_core.specs.page.Tags.{ValueState}
use Rattle.place_core.specs.place.ApartPlaces.{HasApart, beginning_at}
use Rattle.place_core.specs.place.Membership.{IsIn}
use Rattle.place_core.specs.place.PathPairs.{ClashesApart, unknown_beginning}
use Rattle.place_core.specs.place.Places.{IsValid}
use Rattle.place_core.specs.declared.body.Body.{Body}
use Rattle.place_core.specs.declared.body.Body.TheVariants as body
use Rattle.place_core.specs.declared.chain.Chain.{Chain}
use Rattle.place_core.specs.declared.code.Code.{Code}
use Rattle.place_core.specs.declared.parts.Parts.{Parts}
use Rattle.place_core.specs.declared.place.Place.{Place}
use Rattle.place_core.specs.declared.place.Place.TheVariants as place
use Rattle.place_core.specs.declared.prefix.Prefix.TheVariants as prefix
use Rattle.place_core.specs.declared.quotes.Quotes.{Quotes}
use Rattle.place_core.specs.declared.quotes.Quotes.TheVariants as quotes
use Rattle.place_core.specs.declared.tag_place.TagPlace.{TagPlace}
use Rattle.place_core.specs.declared.value_place.ValuePlace.{ValuePlace}
use Rattle.place_core.proofs.ApartPlacesFacts.{above-apart, apart-has, apart-sides, are-apart, below-apart, joins-apart, met-here, path-sides, turned-apart, turned-paths}
use Rattle.place_core.proofs.Semilattices.{none_some}
use Rattle.html_scan.specs.Scans.{At}
use Rattle.css_lexer.specs.RefusalCodes.{RefusalCode}
use Rattle.css_step.specs.StyleScans.{style_at_hole, style_hole_error}
use Rattle.css_step.specs.StyleChains.{style_hole_with_chain}
use Rattle.css_step.specs.StyleScanViews.{style_or_refusal}
use Rattle.place_core.specs.declared.css.Css.{Css}
use Rattle.place_core.specs.declared.css.Css.TheVariants as css
use Rattle.place_core.specs.place.Errors.{nothing_read}
use Rattle.html_step.specs.Apart.{ApartLaws}
use Rattle.html_step.specs.Holes.{Holed, after_hole, block_hole, css_holed, element_holed, named_by_data, plain_hole, url_holed, value_hole}
use Rattle.html_step.specs.Steps.{after_text}
use Rattle.html_step.proofs.OneTexts.{one-text}
use Rattle.html_step.proofs.ApartOrigins.{apart-from}
use Rattle.html_step.proofs.MetScans.{kept-apart, stand-in, unknown-in, within-apart}
use Rattle.html_step.proofs.KeptBeginnings.{placed-opens, side-begins, sides-within, stays-there, turned-clash, turned-within}
use Rattle.html_step.proofs.WholeTexts.{grows-text, text-steps}
use Rattle.url_step.specs.PartSets.{parts_at_hole, parts_hole_error, parts_or_refusal}
use Rattle.url_lexer.specs.Refusals.{UrlRefusal}

-- Behind a hole nothing is in the beginning.
abbrev IsClear : Holed → Type 0
IsClear (Ok r) = beginning_at r.0 ≡ None
IsClear (Err e) = ⊤

plain-clear : (q : Quotes) (t : ValuePlace) → t.body ≡ body.Plain → IsClear (plain_hole q t)
plain-clear quotes.Dq t e = ap (λ (b : Body). beginning_at (place.Value (record { tag = t.tag; typed = t.typed; quotes = t.quotes; body = b }))) e
plain-clear quotes.Sq t e = ap (λ (b : Body). beginning_at (place.Value (record { tag = t.tag; typed = t.typed; quotes = t.quotes; body = b }))) e
plain-clear (quotes.Bare s) t e = ap (λ (b : Body). beginning_at (place.Value (record { tag = t.tag; typed = t.typed; quotes = t.quotes; body = b }))) e

url-clear : (t : ValuePlace) (s : Parts) (o : Option UrlRefusal) → IsClear (url_holed t s (parts_or_refusal o (parts_at_hole s)))
url-clear t s None = refl
url-clear t s (Some e) = tt

css-clear : (t : ValuePlace) (c : Css) (o : Option RefusalCode) → IsClear (css_holed t c (style_or_refusal o (style_at_hole c)))
css-clear t (css.Code x) None = refl
css-clear t css.Dq None = refl
css-clear t css.Sq None = refl
css-clear t css.UrlFresh None = refl
css-clear t (css.Url s) None = refl
css-clear t (css.UrlDq s) None = refl
css-clear t (css.UrlSq s) None = refl
css-clear t css.UrlEnd None = refl
css-clear t (css.Comment x) None = refl
css-clear t c (Some e) = tt

-- in the element `style`
element-clear : (c : Css) (o : Option RefusalCode) → IsClear (element_holed (style_hole_with_chain c (style_or_refusal o (style_at_hole c))))
element-clear (css.Code x) None = refl
element-clear css.Dq None = refl
element-clear css.Sq None = refl
element-clear css.UrlFresh None = refl
element-clear (css.Url s) None = refl
element-clear (css.UrlDq s) None = refl
element-clear (css.UrlSq s) None = refl
element-clear css.UrlEnd None = refl
element-clear (css.Comment x) None = refl
element-clear c (Some e) = tt

value-clear : (b : Body) (t : ValuePlace) → t.body ≡ b → IsClear (value_hole b t)
value-clear body.Plain t e = plain-clear t.quotes t e
value-clear body.NoHole t e = tt
value-clear (body.Url s) t e = url-clear t s (parts_hole_error s)
value-clear (body.Js j) t e = refl
value-clear (body.Css c) t e = css-clear t c (style_hole_error c)

tag-clear : (x : Bool) (t : TagPlace) → IsClear (named_by_data x t)
tag-clear true t = tt
tag-clear false t = refl

block-clear : (lt : Bool) → IsClear (block_hole lt)
block-clear true = tt
block-clear false = refl

hole-clear : (p : Place) → IsClear (after_hole p)
hole-clear place.Text = refl
hole-clear place.Doctype = tt
hole-clear (place.Comment x) = refl
hole-clear (place.Rcdata e) = refl
hole-clear (place.Tag t) = tag-clear (t.spots.name || t.spots.inside) t
hole-clear (place.Value v) = value-clear v.body v refl
hole-clear (place.Script j) = refl
hole-clear (place.Style c) = element-clear c (style_hole_error c)
hole-clear (place.Block lt) = block-clear lt

not-holed : (p q : Place) (c : Chain) → after_hole p ≡ Ok (q, c) → HasApart q → ⊥
not-holed p q c e h = none_some prefix.Differs (sym (subst IsClear e (hole-clear p)) ∙ h)

-- A path that would meet a `:` is refused there, also where it is not known what it has spelled, which is a path of the place too.
not-refused-apart : (bytes : List ℕ) (p q : Place) (s r : LexState ValueState) (e : Code) (at : ℕ) → IsValid p → HasApart p → IsIn p s
    → after_text bytes p ≡ Ok q → ClashesApart bytes s r e at → ⊥
not-refused-apart bytes p q s r e at v a i t c =
    let u = unknown-in p s c.one.begins a i in
    let g = grows-text bytes u.own p q u.valid v u.below t in
    let taken = ((one-text bytes u.own (unknown_beginning s) u.stands).0 g.0 g.1).0 in
    none_some _ (sym taken ∙ c.one.refused)

pub met-apart : ApartLaws
met-apart = record {
  has = apart-has;
  from = apart-from;
  joins = joins-apart;
  sides_of = apart-sides;
  are_apart = are-apart;
  below = below-apart;
  turns_places = turned-apart;
  stays = λ bytes p q s a i b e m.
      kept-apart bytes 0 nothing_read s (At i.own) (At p) q (placed-opens s i.own i.stands) (side-begins s b) a (stand-in p s i) m (text-steps bytes p q e);
  holed = not-holed;
  above = above-apart;
  met = met-here;
  parted = λ bytes p q s r v i j e a.
      within-apart bytes 0 nothing_read s r (At i.own) (At j.own) (At p) q v tt (stand-in p s i) (stand-in p r j) a (text-steps bytes p q e);
  sides = path-sides;
  sides_within = sides-within;
  keeps = λ bytes s b m. stays-there bytes s m;
  accepts = λ bytes p q s r e at v a i b j d t c. not-refused-apart bytes p q s r e at v a i t c;
  turns = turned-paths;
  turns_within = turned-within;
  turns_clash = turned-clash;
}
