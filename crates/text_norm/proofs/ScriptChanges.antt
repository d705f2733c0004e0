-- Where the code of scripts in their element is called, the text is in one.
use Rattle.std.proofs.Common.{◌≡◌, ◌∙◌, Bool, true, false, true≢false, refl, sym, ap}
use Rattle.place_core.specs.page.States.{Pending, Nothing, PendingLess, PendingName}
use Rattle.place_core.specs.declared.element.Element.TheVariants as element
use Rattle.place_core.specs.declared.place.Place.TheVariants as place
use Rattle.html_scan.specs.Scans.{Scan, At, AfterLess, AfterLessSolidus, InDeclaration, InCommentEnd, InContentEnd, InStyleElement, InScriptElement}
use Rattle.text_norm.specs.Kept.{change_of, comment_change, content_change, end_tag_change, ending_of, is_in_script, is_style_comment, less_change, may_end_change, pending_ending, style_change, style_ending, style_place_comment}
use Rattle.text_norm.specs.declared.pending.Change.{Change}
use Rattle.text_norm.specs.declared.pending.Change.TheVariants as change
use Rattle.text_norm.specs.declared.pending.Ending.{Ending}
use Rattle.text_norm.specs.declared.pending.Ending.TheVariants as ending

abbrev pub is_script_change : Change → Bool
is_script_change change.InScript = true
is_script_change c = false

less-no : (g : Scan) → is_script_change (less_change g) ≡ false
less-no (At place.Text) = refl
less-no (At p) = refl
less-no AfterLess = refl
less-no (InCommentEnd s) = refl
less-no g = refl

content-no : (g : Scan) → is_script_change (content_change g) ≡ false
content-no (At (place.Rcdata e)) = refl
content-no (At p) = refl
content-no (InContentEnd e PendingLess) = refl
content-no (InContentEnd e h) = refl
content-no g = refl

comment-no : (x y : Bool) → is_script_change (comment_change x y) ≡ false
comment-no true true = refl
comment-no true false = refl
comment-no false true = refl
comment-no false false = refl

tag-no : (x : Bool) → is_script_change (end_tag_change x) ≡ false
tag-no true = refl
tag-no false = refl

may-no : (x : Bool) → is_script_change (may_end_change x) ≡ false
may-no true = refl
may-no false = refl

style-no : (x : Bool) (g : Scan) → is_script_change (style_change x g) ≡ false
style-no x (At (place.Style p)) = comment-no x (style_place_comment (place.Style p))
style-no x (At p) = tag-no x
style-no x (InStyleElement s Nothing) = comment-no x (is_style_comment s)
style-no x (InStyleElement s PendingLess) = may-no x
style-no x (InStyleElement s h) = refl
style-no x g = tag-no x

abbrev no : {x : Bool} → x ≡ false → x ≡ true → ⊥
no e k = true≢false (sym k ∙ e)

pub in-script : (f g : Scan) → is_script_change (change_of f g) ≡ true → is_in_script f ≡ true
in-script (At (place.Script j)) g e = refl
in-script (InScriptElement n h) g e = refl
in-script (At (place.Style p)) g e = absurd (no (style-no (style_place_comment (place.Style p)) g) e)
in-script (InStyleElement s h) g e = absurd (no (style-no (is_style_comment s) g) e)
in-script AfterLess g e = absurd (no (less-no g) e)
in-script AfterLessSolidus g e = absurd (no (less-no g) e)
in-script (InDeclaration pending) g e = absurd (no (less-no g) e)
in-script (InContentEnd element.DataBlock h) g e = cc
in-script (InContentEnd e h) g k = absurd (no (content-no g) k)
in-script (At p) g e = cc
in-script f g e = cc

abbrev pub is_script_ending : Ending → Bool
is_script_ending ending.InScript = true
is_script_ending e = false

pending-no : (h : Pending) → is_script_ending (pending_ending h) ≡ false
pending-no PendingLess = refl
pending-no (PendingName letters) = refl
pending-no h = refl

style-end-no : (x : Bool) → is_script_ending (style_ending x) ≡ false
style-end-no true = refl
style-end-no false = refl

pub ends-in-script : (f : Scan) → is_script_ending (ending_of f) ≡ true → is_in_script f ≡ true
ends-in-script (At (place.Script j)) e = refl
ends-in-script (InScriptElement n h) e = refl
ends-in-script (At (place.Style p)) e = absurd (no (style-end-no (style_place_comment (place.Style p))) e)
ends-in-script (InStyleElement s h) e = absurd (no (style-end-no (is_style_comment s)) e)
ends-in-script (InContentEnd element.DataBlock h) e = cc
ends-in-script (InContentEnd x h) e = absurd (no (pending-no h) e)
ends-in-script (At p) e = cc
ends-in-script f e = cc

pub script-change-is : (c : Change) → change.InScript ≡ c → is_script_change c ≡ true
script-change-is c e = ap is_script_change (sym e)

pub script-ending-is : (c : Ending) → ending.InScript ≡ c → is_script_ending c ≡ true
script-ending-is c e = ap is_script_ending (sym e)
