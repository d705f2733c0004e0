-- The laws of joining places.
use Rattle.std.proofs.Common.{◌≡◌, ◌||◌, Some, option_map, refl, sym, ap, ◌∙◌}
use Rattle.std.specs.Prelude.{IfSome}
use Rattle.place_core.specs.place.JoinLaws.{JoinIsLeast, JoinIsAbove, JoinSame, JoinSwapped, BelowIsOrder}
use Rattle.place_core.specs.place.Places.{joined, joined_elements, joined_tag_places, joined_value_places}
use Rattle.place_core.specs.place.LanguagePlaces.{joined_js, joined_css}
use Rattle.place_core.specs.declared.place.Place.{Place}
use Rattle.place_core.specs.declared.place.Place.TheVariants as place
use Rattle.place_core.proofs.Semilattices.{IsPartial, none_some, one_value, of_some, row_through, row_left, row_least, of_union, or_union}
use Rattle.place_core.proofs.JoinParts.{elements_partial, js_partial, css_partial, tag_places_partial, value_places_partial}

places_Comment : (x y : _) → place.Comment x ≡ place.Comment y → x ≡ y
places_Comment x y e = cc

pub places_Rcdata : (x y : _) → place.Rcdata x ≡ place.Rcdata y → x ≡ y
places_Rcdata x y e = cc

pub places_Tag : (x y : _) → place.Tag x ≡ place.Tag y → x ≡ y
places_Tag x y e = cc

pub places_Value : (x y : _) → place.Value x ≡ place.Value y → x ≡ y
places_Value x y e = cc

pub places_Script : (x y : _) → place.Script x ≡ place.Script y → x ≡ y
places_Script x y e = cc

pub places_Style : (x y : _) → place.Style x ≡ place.Style y → x ≡ y
places_Style x y e = cc

places_Block : (x y : _) → place.Block x ≡ place.Block y → x ≡ y
places_Block x y e = cc

pub places_same : (a : Place) → joined a a ≡ Some a
places_same place.Text = refl
places_same place.Doctype = refl
places_same (place.Comment a) = ap (option_map place.Comment) ((of_union ◌||◌ or_union).same a)
places_same (place.Rcdata a) = ap (option_map place.Rcdata) ((elements_partial).same a)
places_same (place.Tag a) = ap (option_map place.Tag) ((tag_places_partial).same a)
places_same (place.Value a) = ap (option_map place.Value) ((value_places_partial).same a)
places_same (place.Script a) = ap (option_map place.Script) ((js_partial).same a)
places_same (place.Style a) = ap (option_map place.Style) ((css_partial).same a)
places_same (place.Block a) = ap (option_map place.Block) ((of_union ◌||◌ or_union).same a)

pub places_swapped : (a b : Place) → joined a b ≡ joined b a
places_swapped place.Text place.Text = refl
places_swapped place.Doctype place.Doctype = refl
places_swapped (place.Comment a) (place.Comment b) = ap (option_map place.Comment) ((of_union ◌||◌ or_union).swapped a b)
places_swapped (place.Rcdata a) (place.Rcdata b) = ap (option_map place.Rcdata) ((elements_partial).swapped a b)
places_swapped (place.Tag a) (place.Tag b) = ap (option_map place.Tag) ((tag_places_partial).swapped a b)
places_swapped (place.Value a) (place.Value b) = ap (option_map place.Value) ((value_places_partial).swapped a b)
places_swapped (place.Script a) (place.Script b) = ap (option_map place.Script) ((js_partial).swapped a b)
places_swapped (place.Style a) (place.Style b) = ap (option_map place.Style) ((css_partial).swapped a b)
places_swapped (place.Block a) (place.Block b) = ap (option_map place.Block) ((of_union ◌||◌ or_union).swapped a b)
places_swapped _ _ = refl

places_through : (a b c : Place) → joined a b ≡ Some b → joined b c ≡ Some c → joined a c ≡ Some c
places_through place.Text place.Text place.Text h k = refl
places_through place.Text place.Text c h k = absurd (none_some c k)
places_through place.Doctype place.Doctype place.Doctype h k = refl
places_through place.Doctype place.Doctype c h k = absurd (none_some c k)
places_through (place.Comment a) (place.Comment b) (place.Comment c) h k = row_through place.Comment places_Comment (λ a b. Some (a || b)) (of_union ◌||◌ or_union) a b c h k
places_through (place.Comment a) (place.Comment b) c h k = absurd (none_some c k)
places_through (place.Rcdata a) (place.Rcdata b) (place.Rcdata c) h k = row_through place.Rcdata places_Rcdata (joined_elements) (elements_partial) a b c h k
places_through (place.Rcdata a) (place.Rcdata b) c h k = absurd (none_some c k)
places_through (place.Tag a) (place.Tag b) (place.Tag c) h k = row_through place.Tag places_Tag (joined_tag_places) (tag_places_partial) a b c h k
places_through (place.Tag a) (place.Tag b) c h k = absurd (none_some c k)
places_through (place.Value a) (place.Value b) (place.Value c) h k = row_through place.Value places_Value (joined_value_places) (value_places_partial) a b c h k
places_through (place.Value a) (place.Value b) c h k = absurd (none_some c k)
places_through (place.Script a) (place.Script b) (place.Script c) h k = row_through place.Script places_Script (joined_js) (js_partial) a b c h k
places_through (place.Script a) (place.Script b) c h k = absurd (none_some c k)
places_through (place.Style a) (place.Style b) (place.Style c) h k = row_through place.Style places_Style (joined_css) (css_partial) a b c h k
places_through (place.Style a) (place.Style b) c h k = absurd (none_some c k)
places_through (place.Block a) (place.Block b) (place.Block c) h k = row_through place.Block places_Block (λ a b. Some (a || b)) (of_union ◌||◌ or_union) a b c h k
places_through (place.Block a) (place.Block b) c h k = absurd (none_some c k)
places_through _ b c h k = absurd (none_some b h)

places_left : (a b : Place) → IfSome (joined a b) (λ c. joined a c ≡ Some c)
places_left place.Text place.Text = refl
places_left place.Doctype place.Doctype = refl
places_left (place.Comment a) (place.Comment b) = row_left place.Comment (λ a b. Some (a || b)) (of_union ◌||◌ or_union) joined a b (λ c. refl)
places_left (place.Rcdata a) (place.Rcdata b) = row_left place.Rcdata (joined_elements) (elements_partial) joined a b (λ c. refl)
places_left (place.Tag a) (place.Tag b) = row_left place.Tag (joined_tag_places) (tag_places_partial) joined a b (λ c. refl)
places_left (place.Value a) (place.Value b) = row_left place.Value (joined_value_places) (value_places_partial) joined a b (λ c. refl)
places_left (place.Script a) (place.Script b) = row_left place.Script (joined_js) (js_partial) joined a b (λ c. refl)
places_left (place.Style a) (place.Style b) = row_left place.Style (joined_css) (css_partial) joined a b (λ c. refl)
places_left (place.Block a) (place.Block b) = row_left place.Block (λ a b. Some (a || b)) (of_union ◌||◌ or_union) joined a b (λ c. refl)
places_left _ _ = tt

places_least : (d a b : Place) → joined a d ≡ Some d → joined b d ≡ Some d → (c : Place) × (joined a b ≡ Some c) × (joined c d ≡ Some d)
places_least place.Text place.Text place.Text h k = (place.Text, refl, refl)
places_least place.Text place.Text _ h k = absurd (none_some place.Text k)
places_least place.Doctype place.Doctype place.Doctype h k = (place.Doctype, refl, refl)
places_least place.Doctype place.Doctype _ h k = absurd (none_some place.Doctype k)
places_least (place.Comment d) (place.Comment a) (place.Comment b) h k = row_least place.Comment places_Comment (λ a b. Some (a || b)) (of_union ◌||◌ or_union) joined (λ a c. refl) a b d h k
places_least (place.Comment d) (place.Comment a) _ h k = absurd (none_some (place.Comment d) k)
places_least (place.Rcdata d) (place.Rcdata a) (place.Rcdata b) h k = row_least place.Rcdata places_Rcdata (joined_elements) (elements_partial) joined (λ a c. refl) a b d h k
places_least (place.Rcdata d) (place.Rcdata a) _ h k = absurd (none_some (place.Rcdata d) k)
places_least (place.Tag d) (place.Tag a) (place.Tag b) h k = row_least place.Tag places_Tag (joined_tag_places) (tag_places_partial) joined (λ a c. refl) a b d h k
places_least (place.Tag d) (place.Tag a) _ h k = absurd (none_some (place.Tag d) k)
places_least (place.Value d) (place.Value a) (place.Value b) h k = row_least place.Value places_Value (joined_value_places) (value_places_partial) joined (λ a c. refl) a b d h k
places_least (place.Value d) (place.Value a) _ h k = absurd (none_some (place.Value d) k)
places_least (place.Script d) (place.Script a) (place.Script b) h k = row_least place.Script places_Script (joined_js) (js_partial) joined (λ a c. refl) a b d h k
places_least (place.Script d) (place.Script a) _ h k = absurd (none_some (place.Script d) k)
places_least (place.Style d) (place.Style a) (place.Style b) h k = row_least place.Style places_Style (joined_css) (css_partial) joined (λ a c. refl) a b d h k
places_least (place.Style d) (place.Style a) _ h k = absurd (none_some (place.Style d) k)
places_least (place.Block d) (place.Block a) (place.Block b) h k = row_least place.Block places_Block (λ a b. Some (a || b)) (of_union ◌||◌ or_union) joined (λ a c. refl) a b d h k
places_least (place.Block d) (place.Block a) _ h k = absurd (none_some (place.Block d) k)
places_least d _ _ h k = absurd (none_some d h)

pub places_partial : IsPartial joined
places_partial = record {
  same = places_same;
  swapped = places_swapped;
  through = places_through;
  left = places_left;
  least = λ a b d h k. places_least d a b h k;
}

pub the_join_same : JoinSame
the_join_same = places_same

pub the_join_swapped : JoinSwapped
the_join_swapped = places_swapped

pub the_join_least : JoinIsLeast
the_join_least a b d h k = places_least d a b h k

pub left_below : (a b c : Place) → joined a b ≡ Some c → joined a c ≡ Some c
left_below a b c e = of_some (λ x. joined a x ≡ Some x) (joined a b) c (places_left a b) e

pub right_below : (a b c : Place) → joined a b ≡ Some c → joined b c ≡ Some c
right_below a b c e = left_below b a c (places_swapped b a ∙ e)

pub the_join_above : JoinIsAbove
the_join_above a b c e = (left_below a b c e, right_below a b c e)

pub both_ways : (a b : Place) → joined a b ≡ Some b → joined b a ≡ Some a → a ≡ b
both_ways a b h k = one_value a b (sym k ∙ places_swapped b a ∙ h)

pub the_order : BelowIsOrder
the_order = (places_same, places_through, both_ways)
