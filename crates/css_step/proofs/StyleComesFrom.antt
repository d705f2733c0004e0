-- Members and paths at a place in a style come from ones before: at a byte.
use Rattle.std.proofs.Common.{◌≡◌, Bool, true, false, ◌||◌, refl}
use Rattle.place_core.specs.declared.css.Css.{Css}
use Rattle.place_core.specs.declared.css.Css.TheVariants as css
use Rattle.place_core.specs.declared.member.Member.{Member}
use Rattle.place_core.specs.declared.member.Member.TheVariants as member
use Rattle.place_core.specs.place.LanguagePlaces.{css_has}
use Rattle.place_core.specs.place.Places.{is_whole}
use Rattle.css_step.specs.StyleOrigins.{style_scan_has, StylesComeFrom}
use Rattle.css_step.specs.StyleScans.{style_comment_start, style_scan_start}
use Rattle.css_step.proofs.BornePaths.{are-borne}
use Rattle.css_step.proofs.StylePaths.{paths-from}
use Rattle.css_step.proofs.StyleUrlOrigins.{members-from}

comment-begins : (star : Bool) (x : Member) → style_scan_has (style_comment_start star) x ≡ (is_whole x || css_has (css.Comment star) x)
comment-begins true x = refl
comment-begins false member.CssStar = refl
comment-begins false _ = refl

begins : (c : Css) (x : Member) → style_scan_has (style_scan_start c) x ≡ (is_whole x || css_has c x)
begins (css.Code y) x = refl
begins css.Dq x = refl
begins css.Sq x = refl
begins css.UrlFresh x = refl
begins (css.Url s) x = refl
begins (css.UrlDq s) x = refl
begins (css.UrlSq s) x = refl
begins css.UrlEnd x = refl
begins (css.Comment star) x = comment-begins star x

pub styles-come-from : StylesComeFrom
styles-come-from = record { begins = begins; are_borne = are-borne; members = members-from; paths = paths-from }
