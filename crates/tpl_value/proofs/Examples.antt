-- The definitions computed on small values.
use Rattle.std.proofs.Common.{◌≡◌, [], ◌∷◌, Ok, Err, pos, negsuc, refl}
use Rattle.page_datum.specs.Data.{null, int, text, list, dict, no_items, item, no_entries, entry}
use Rattle.page_datum.specs.declared.fault.FaultKind.TheVariants.{NoLength, NotIndexable, SliceRange}
use Rattle.tpl_value.specs.Lengths.{length_of}
use Rattle.tpl_value.specs.Slicing.{slice_of}

-- "äb": ä is the bytes 195 and 164
text_length : length_of (text (195 ∷ 164 ∷ 98 ∷ [])) ≡ Ok (pos 3)
text_length = refl

list_length : length_of (list (item null (item null no_items))) ≡ Ok (pos 2)
list_length = refl

dict_length : length_of (dict (entry [] null no_entries)) ≡ Ok (pos 1)
dict_length = refl

no_length : length_of null ≡ Err NoLength
no_length = refl

whole_character : slice_of (text (195 ∷ 164 ∷ 98 ∷ [])) (pos 0) (pos 2) ≡ Ok (text (195 ∷ 164 ∷ []))
whole_character = refl

-- byte 1 is in the middle of ä
begins_inside : slice_of (text (195 ∷ 164 ∷ 98 ∷ [])) (pos 1) (pos 3) ≡ Err SliceRange
begins_inside = refl

ends_inside : slice_of (text (195 ∷ 164 ∷ 98 ∷ [])) (pos 0) (pos 1) ≡ Err SliceRange
ends_inside = refl

empty_inside : slice_of (text (195 ∷ 164 ∷ 98 ∷ [])) (pos 1) (pos 1) ≡ Err SliceRange
empty_inside = refl

-- nothing at the end, and nothing after it
at_end : slice_of (text (195 ∷ 164 ∷ 98 ∷ [])) (pos 3) (pos 3) ≡ Ok (text [])
at_end = refl

past_end : slice_of (text (195 ∷ 164 ∷ 98 ∷ [])) (pos 2) (pos 4) ≡ Err SliceRange
past_end = refl

second_item : slice_of (list (item null (item (int (pos 7)) (item null no_items)))) (pos 1) (pos 2) ≡ Ok (list (item (int (pos 7)) no_items))
second_item = refl

turned : slice_of (list (item null (item null no_items))) (pos 2) (pos 1) ≡ Err SliceRange
turned = refl

below_nought : slice_of (list (item null no_items)) (negsuc 0) (pos 1) ≡ Err SliceRange
below_nought = refl

not_indexable : slice_of (dict no_entries) (pos 0) (pos 0) ≡ Err NotIndexable
not_indexable = refl
